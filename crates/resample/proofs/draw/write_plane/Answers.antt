use mathlib.Core.Bool.{true}
use mathlib.Core.List.{List, ◌++◌}
use mathlib.Core.Path.{◌∙◌, ◌≡◌, ap, sym}
use Prim.Native.Nat.{◌*◌, ◌+◌, ℕ}
use lib.ListN.{length}
use Rattle.laws.proofs.Writing.{Writing, writing-begin, writing-fits, writing-last, writing-none, writing-run}
use Rattle.laws.specs.Puts.{puts}
use Rattle.planes.proofs.RoundTrip.{plane-none}
use Rattle.records.specs.Record.{data_of, plane_of}
use Rattle.planes.specs.Bytes.{decode, plane_bytes, plane_head}
use Rattle.image.specs.Format.{has_part}
use Rattle.planes.specs.Picture.{Pic}
use Rattle.records.specs.declared.record.Plane.{Plane}
use Rattle.sampling.proofs.RedrawLaws.{Worked, length-raster_bytes, plane-drawn, plane-raster, plane-rule, worked-bytes, worked-rule, worked-size}
use Rattle.sampling.specs.inner.Redraw.{RasterFits, RuleFits, raster_bytes, raster_of, redrawn}
use Rattle.sampling.specs.declared.raster.Raster.{Raster}
use Rattle.resample.proofs.draw.write_plane.Goals as goal
use Rattle.resample.proofs.draw.write_plane.Goals.{After-plane_raster-r, After-plane_source, After-write_plane_head-first, Start, Else-not-has}

-- the picture of which a plane is written
abbrev picture : Start → Pic
picture start = redrawn start.args.form start.args.rule (decode start.args.picture.«record».now start.args.picture.frame)

-- the plane is there
module _ (c : Else-not-has) where
  abbrev q : Plane
  q = plane_of c.args.picture.frame c.args.part

  abbrev r : Raster
  r = raster_of c.args.picture.frame.form c.args.form q.stride c.args.part c.args.rule

  abbrev head : List ℕ
  head = plane_head c.args.form c.args.part

  abbrev rest : List ℕ
  rest = raster_bytes (data_of c.args.picture.«record».now q) r

  there : has_part c.args.form.format c.args.part ≡ true
  there = sym c.has.ensures ∙ c.if-not-has.false

  start : Writing c.args.out.now c.args.at (plane_bytes (picture (goal.at.Else-not-has c).Start) c.args.part) c.args.out.now c.args.at
      (head ++ rest)
  start =
      writing-begin _ _ _ _
      (plane-drawn c.args.picture.«record».now c.args.picture.frame c.args.form c.args.rule c.args.part there c.args.picture.sound
      c.requires.0)
      c.requires.1

  fits : RasterFits (data_of c.args.picture.«record».now q) r
  fits =
      plane-raster c.args.picture.«record».now c.args.picture.frame c.args.form c.args.rule c.args.part there c.args.picture.sound
      c.requires.0

  rule : RuleFits r.rule r.across r.down
  unfolding raster_of
  rule =
      plane-rule c.args.picture.«record».now c.args.picture.frame c.args.form c.args.rule c.args.part there c.args.picture.sound
      c.requires.0

  size : length rest ≡ r.down.to * (r.across.to * r.to_bytes)
  size = length-raster_bytes _ _ fits

first : (c : After-write_plane_head-first)
    → Writing c.args.out.now c.args.at (plane_bytes (picture (goal.at.After-write_plane_head-first c).Start) c.args.part) c.write_plane_head-first.new.out
    c.write_plane_head-first.result (rest (goal.at.After-write_plane_head-first c).Else-not-has)
first c = writing-run (head (goal.at.After-write_plane_head-first c).Else-not-has) (start (goal.at.After-write_plane_head-first c).Else-not-has) c.write_plane_head-first.ensures.0 c.write_plane_head-first.ensures.1

made : (c : After-plane_raster-r) → c.plane_raster-r.result ≡ r (goal.at.After-plane_raster-r c).Else-not-has
made c = c.plane_raster-r.ensures ∙ ap (λ (k : Plane). raster_of c.args.picture.frame.form c.args.form k.stride c.args.part c.args.rule) c.plane-q.ensures

worked : (c : After-plane_source)
    → Worked (data_of c.args.picture.«record».now (q (goal.at.After-plane_source c).Else-not-has)) c.plane_source.result.plane.now (r (goal.at.After-plane_source c).Else-not-has) c.plane_source.result.raster
worked c =
    record {
      bits = c.plane_source.ensures.0 ∙ ap (data_of c.args.picture.«record».now) c.plane-q.ensures;
      same = c.plane_source.ensures.1 ∙ made (goal.at.After-plane_source c).After-plane_raster-r;
    }

pub write_plane_head-first-requires : goal.write_plane_head-first-requires
write_plane_head-first-requires c = (c.requires.0.new, writing-fits (head (goal.at.write_plane_head-first-requires c).Else-not-has) (rest (goal.at.write_plane_head-first-requires c).Else-not-has) (start (goal.at.write_plane_head-first-requires c).Else-not-has))

pub plane_source-requires : goal.plane_source-requires
plane_source-requires c = (
  rw c.plane-q.ensures (c.args.picture.sound.planes c.args.part (c.requires.0.parts _ (there (goal.at.plane_source-requires c).Else-not-has))).inside,
  rw (c.plane-q.ensures, made (goal.at.plane_source-requires c).After-plane_raster-r) (fits (goal.at.plane_source-requires c).Else-not-has),
)

pub write_rows-requires : goal.write_rows-requires
write_rows-requires c = (
  worked-rule (worked (goal.at.write_rows-requires c).After-plane_source) (rule (goal.at.write_rows-requires c).Else-not-has),
  rw (worked-size (worked (goal.at.write_rows-requires c).After-plane_source) ∙ sym (size (goal.at.write_rows-requires c).Else-not-has)) (first (goal.at.write_rows-requires c).After-write_plane_head-first).room,
)

pub returns : goal.returns
returns c =
    writing-last (first (goal.at.returns c).After-write_plane_head-first)
    (c.write_rows.ensures.0
    ∙ ap (λ (k : ℕ). c.write_plane_head-first.result + k) (worked-size (worked (goal.at.returns c).After-plane_source) ∙ sym (size (goal.at.returns c).Else-not-has)))
    (c.write_rows.ensures.1
    ∙ ap (puts c.write_plane_head-first.new.out c.write_plane_head-first.result) (worked-bytes (worked (goal.at.returns c).After-plane_source)))

pub returns-then-not-has : goal.returns-then-not-has
unfolding redrawn
returns-then-not-has c =
    writing-none c.args.out.now c.args.at _
    (plane-none (picture (goal.at.returns-then-not-has c).Start) c.args.part (sym c.has.ensures ∙ c.if-not-has.true))
