use mathlib.Core.Bool.{true}
use mathlib.Core.Path.{◌∙◌, ◌≡◌, sym}
use native.Mathlib.Omega.{arith}
use Rattle.laws.proofs.Order.{pick-false}
use Rattle.image.proofs.FormLaws.{bytes-few}
use Rattle.image.specs.Format.{has_part}
use Rattle.planes.specs.Bytes.{decode}
use Rattle.opaque.proofs.PlaceLaws.{place-fits}
use Rattle.opaque.proofs.SourceLaws.{part-laid, rows-absent, rows-low, rows-narrow}
use Rattle.opaque.specs.inner.Laid.{lay_part}
use Rattle.opaque.proofs.lay.lay_part.Goals as goal
use Rattle.opaque.proofs.lay.lay_part.Goals.{Then-has, then-q-eq0-via-then-q-eq0, then-q-eq0-via-else-q-eq0+then-q-eq0-2}

there : (c : Then-has) → has_part c.args.to.form.format c.args.part ≡ true
there c = sym c.has.ensures ∙ c.if-has.true

pub place_of-q-requires : goal.place_of-q-requires
place_of-q-requires c =
    (c.requires.0, c.requires.1.canvas, there (goal.at.place_of-q-requires c).Then-has, omega (arith, c.requires.1.room))

pub returns-then-q-eq0 : goal.returns-then-q-eq0
unfolding decode
returns-then-q-eq0 c =
    part-laid _ (decode c.args.tray.now c.args.fr) c.args.o c.args.part _ _ _ (sym c.has.ensures ∙ c.if-has.true) c.place_of-q.ensures
    (elim c.then-q-eq0.branch [
      | then-q-eq0-via-then-q-eq0 w ↦ rows-narrow _ _ c.args.part _ _ w.if-q-eq0.true
      | then-q-eq0-via-else-q-eq0+then-q-eq0-2 w ↦ rows-low _ _ c.args.part _ _ w.if-q-eq0-2.true
    ])

pub lay_rows-requires : goal.lay_rows-requires
lay_rows-requires c =
    (c.requires.1, sym c.has-then-has.ensures ∙ c.if-has-2.true, place-fits _ c.args.fr.form c.requires.1.canvas c.args.o c.args.part (there (goal.at.lay_rows-requires c).Then-has) _ _ c.place_of-q.ensures c.requires.1.room c.if-q-eq0.false c.if-q-eq0-2.false)

pub returns-then-has-2 : goal.returns-then-has-2
unfolding decode
returns-then-has-2 c =
    part-laid _ (decode c.args.tray.now c.args.fr) c.args.o c.args.part _ _ _ (there (goal.at.returns-then-has-2 c).Then-has) c.place_of-q.ensures c.lay_rows.ensures

pub absent-requires : goal.absent-requires
absent-requires c =
    (omega (arith, c.requires.1.canvas.low), c.requires.1.canvas.high)

pub store_even-requires : goal.store_even-requires
store_even-requires c =
    let few = bytes-few c.args.to.form.format in
    let fits = place-fits _ c.args.fr.form c.requires.1.canvas c.args.o c.args.part (there (goal.at.store_even-requires c).Then-has) _ _ c.place_of-q.ensures
    c.requires.1.room c.if-q-eq0.false c.if-q-eq0-2.false in
    rw c.bytes_per_sample.ensures (few.0, few.1, fits.writes)

pub returns-else-has-2 : goal.returns-else-has-2
unfolding decode
returns-else-has-2 c =
    part-laid _ (decode c.args.tray.now c.args.fr) c.args.o c.args.part _ _ _ (there (goal.at.returns-else-has-2 c).Then-has) c.place_of-q.ensures
    (c.store_even.ensures
    ∙ rw (c.bytes_per_sample.ensures, c.absent.ensures)
    (rows-absent c.args.tray.now c.args.fr c.args.to.form c.args.part _ _ c.requires.1.fit
    (omega (arith, c.requires.1.canvas.low)) (sym c.has-then-has.ensures ∙ c.if-has-2.false)))

pub returns-else-has : goal.returns-else-has
unfolding lay_part
returns-else-has c = sym (pick-false _ _ _ (sym c.has.ensures ∙ c.if-has.false))
