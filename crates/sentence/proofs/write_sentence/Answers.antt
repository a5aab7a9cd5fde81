use mathlib.Core.List.{List}
use mathlib.Core.Path.{◌∙◌, ◌≡◌, ap, sym}
use Prim.Native.Nat.{◌≤◌, ℕ}
use native.Mathlib.Nat.{zero-add}
use native.Mathlib.Omega.{arith}
use lib.ListN.{length, take}
use Rattle.laws.proofs.Out.{done-answers, fitted-room, fitted_short, refused-answers}
use Rattle.laws.specs.Out.{fitted}
use Rattle.sentence.proofs.RunLaws.{run-known, run-no-language, run-no-number, run-no-sort, sentence-short}
use Rattle.sentence.proofs.Texts.{fits-as, start-again, stored-as}
use Rattle.sentence.specs.Sentence.{sentence_run}
use Rattle.sentence.specs.inner.Texts.{Known, sentence_at}
use Rattle.sentence.proofs.write_sentence.Goals as goal
use Rattle.sentence.proofs.write_sentence.Goals.{then-number-lt1-via-then-number-lt1, then-number-lt1-via-else-number-lt1+then-number-gt-LAST_NUMBER, then-number-lt1-via-else-number-lt1+else-number-gt-LAST_NUMBER+then-sort-gt-LAST_SORT, then-number-lt1-via-else-number-lt1+else-number-gt-LAST_NUMBER+else-sort-gt-LAST_SORT+then-language-gt1}
use Rattle.sentence.proofs.write_sentence.Goals.{After-put_sentence-end, Else-language-gt1, Else-out-end, Start}

abbrev sentence_text : Start → List ℕ
sentence_text start = sentence_at start.args.number start.args.sort start.args.index start.args.language

known : (c : Else-language-gt1) → Known c.args.number c.args.sort c.args.language
known c = record { least = omega arith; most = omega arith; listed = omega arith; spoken = omega arith }

short : (c : Else-language-gt1) → length (sentence_text (goal.at.Else-language-gt1 c).Start) ≤ 164
short c =
    sentence-short c.args.number c.args.sort c.args.index c.args.language (known c)

run : (c : Else-language-gt1)
    → let room = length c.args.out.now in
    sentence_run c.args.number c.args.sort c.args.index c.args.language room ≡ fitted room (sentence_text (goal.at.Else-language-gt1 c).Start)
run c =
    run-known c.args.number c.args.sort c.args.index c.args.language (known c) _

-- the sentence stands at the start of the text
again : (c : After-put_sentence-end) → take c.put_sentence-end.result c.put_sentence-end.new.out ≡ sentence_text (goal.at.After-put_sentence-end c).Start
again c = start-again _ _ _ _ (omega (arith, short (goal.at.After-put_sentence-end c).Else-language-gt1)) c.put_sentence-end.ensures.0 c.put_sentence-end.ensures.1

room : (c : Else-out-end)
    → length (sentence_text (goal.at.Else-out-end c).Start) ≤ length c.args.out.now
room c = omega (arith, c.if-out-end.false, c.put_sentence-end.ensures.0)

pub returns-then-number-lt1 : goal.returns-then-number-lt1
returns-then-number-lt1 c = refused-answers _ _ _ (elim c.then-number-lt1.branch [
  | then-number-lt1-via-then-number-lt1 w ↦ run-no-number c.args.number _ _ _ _ (λ a b. omega (arith, w.if-number-lt1.true))
  | then-number-lt1-via-else-number-lt1+then-number-gt-LAST_NUMBER w ↦ run-no-number c.args.number _ _ _ _ (λ a b. omega (arith, w.if-number-gt-LAST_NUMBER.true))
  | then-number-lt1-via-else-number-lt1+else-number-gt-LAST_NUMBER+then-sort-gt-LAST_SORT w ↦ run-no-sort c.args.number c.args.sort _ _ _ (omega (arith, w.if-number-lt1.false)) (omega (arith, w.if-number-gt-LAST_NUMBER.false)) (λ a. omega (arith, w.if-sort-gt-LAST_SORT.true))
  | then-number-lt1-via-else-number-lt1+else-number-gt-LAST_NUMBER+else-sort-gt-LAST_SORT+then-language-gt1 w ↦ run-no-language c.args.number c.args.sort _ _ _ (omega (arith, w.if-number-lt1.false)) (omega (arith, w.if-number-gt-LAST_NUMBER.false)) (omega (arith, w.if-sort-gt-LAST_SORT.false)) w.if-language-gt1.true
])

pub put_sentence-end-requires : goal.put_sentence-end-requires
put_sentence-end-requires c = (known (goal.at.put_sentence-end-requires c).Else-language-gt1, omega (arith, short (goal.at.put_sentence-end-requires c).Else-language-gt1))

pub returns-then-out-end : goal.returns-then-out-end
returns-then-out-end c = refused-answers _ _ _ (run (goal.at.returns-then-out-end c).Else-language-gt1 ∙ fitted_short _ _ (omega (arith, c.if-out-end.true, c.put_sentence-end.ensures.0)))

pub slice_bounds-text-end : goal.slice_bounds-text-end
slice_bounds-text-end c =
    omega (arith, short (goal.at.slice_bounds-text-end c).Else-language-gt1, c.put_sentence-end.ensures.0, c.put_sentence-end.auto.out)

pub slice_bounds-copy_row-end : goal.slice_bounds-copy_row-end
slice_bounds-copy_row-end c =
    c.put_sentence-end.ensures.0 ∙ ap length (sym (again (goal.at.slice_bounds-copy_row-end c).After-put_sentence-end))

pub copy_row-requires : goal.copy_row-requires
copy_row-requires c = fits-as _ _ 0 _ (again (goal.at.copy_row-requires c).After-put_sentence-end) (omega (arith, room (goal.at.copy_row-requires c).Else-out-end))

pub returns : goal.returns
returns c =
    let fits = room (goal.at.returns c).Else-out-end in
    let stored = stored-as _ _ _ _ 0 _ (again (goal.at.returns c).After-put_sentence-end) c.copy_row.ensures in
    done-answers _ _ _ _ _ (run (goal.at.returns c).Else-language-gt1 ∙ fitted-room _ _ fits) fits (stored.0 ∙ zero-add _) stored.1
