use mathlib.Core.Bool.{not}
use mathlib.Core.Path.{◌∙◌, ◌≡◌, ap, sym}
use Prim.Native.Nat.{◌+◌, ◌<◌}
use native.Mathlib.Omega.{arith}
use lib.ListN.{length, length-set, set}
use lib.Seq.{get_or-set_other, get_or-set_same}
use borrow.Author.Tests.{not-true}
use Rattle.derived.specs.declared.overlay.Placement.{Placement}
use Rattle.blocks.proofs.ListLaws.{listing-adds, listing-skips}
use Rattle.blocks.specs.declared.list.Entry.{Entry}
use Rattle.blocks.specs.inner.Listed.{hull_of, no_entry}
use Rattle.blocks.proofs.list.list_input.Goals as goal
use Rattle.blocks.proofs.list.list_input.Goals.{Else-n-eq1024}

pub returns-then-not-meets : goal.returns-then-not-meets
returns-then-not-meets c =
    λ m e. let z : c.args.n ≡ m = cc in
    rw (← z) (c.requires.4, listing-skips _ _ _ _ _ _ _ _ _ _ _ c.requires.7 c.args.fr c.requires.6 c.requires.5 _ (c.hull_of-hull.ensures ∙ ap (λ (o : Placement). hull_of c.args.columns o c.args.fr.form) c.offset.ensures) (sym c.meets.ensures ∙ not-true _ (ap not c.if-not-meets.true)))

pub returns-then-n-eq1024 : goal.returns-then-n-eq1024
returns-then-n-eq1024 c = λ m e. absurd (cc)

room : (c : Else-n-eq1024) → c.args.n < length c.args.entries.now
room c = omega (arith, c.requires.3, c.requires.4, c.if-n-eq1024.false)

pub returns : goal.returns
returns c =
    let q : Entry = record { at = c.args.at; number = c.args.i; hull = c.hull_of-hull.result } in
    λ m e. let z : c.args.n + 1 ≡ m = cc in
    rw (← z) (
      omega (arith, c.requires.4, c.if-n-eq1024.false),
      listing-adds _ _ _ _ _ _ _ _ _ _ _ c.requires.7 c.args.fr c.requires.6 c.requires.5 _ (c.hull_of-hull.ensures ∙ ap (λ (o : Placement). hull_of c.args.columns o c.args.fr.form) c.offset.ensures)
          (set c.args.entries.now c.args.n q) (length-set _ _ _) (room c) (get_or-set_same c.args.entries.now c.args.n q no_entry (room c))
          (λ k l. get_or-set_other c.args.entries.now c.args.n k q no_entry (λ e. omega arith)),
    )
