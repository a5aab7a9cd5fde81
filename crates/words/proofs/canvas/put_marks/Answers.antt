use mathlib.Core.List.{◌++◌}
use mathlib.Core.Path.{◌≡◌, ap, sym, ◌∙◌}
use Prim.Native.Nat.{◌+◌, ℕ}
use lib.ListN.{drop, length, take}
use lib.Seq.{drop-drop}
use borrow.Author.Rules.{rules}
use Rattle.laws.proofs.Puts.{puts-split}
use Rattle.words.proofs.canvas.put_marks.Goals as goal

pub returns : goal.returns
returns c =
    let n : length c.args.marks ≡ 1024 = search rules in
    (n, rw (c.copy_from_slice.ensures.after, drop-drop 1024 10 c.args.state.now) (ap (λ (k : ℕ). take 10 c.args.state.now ++ (c.args.marks ++ drop (10 + k) c.args.state.now)) (sym n) ∙ sym (puts-split c.args.state.now 10 c.args.marks (rw n c.requires))))
