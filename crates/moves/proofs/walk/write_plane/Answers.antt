use mathlib.Core.Bool.{true}
use mathlib.Core.List.{List, ◌++◌}
use mathlib.Core.Path.{◌∙◌, ◌≡◌, ap, sym}
use Prim.Native.Nat.{◌*◌, ◌+◌, ℕ}
use lib.ListN.{length}
use Rattle.laws.proofs.Writing.{Writing, writing-begin, writing-fits, writing-last, writing-none, writing-run}
use Rattle.laws.specs.Puts.{puts}
use Rattle.planes.proofs.RoundTrip.{plane-none}
use Rattle.records.specs.Record.{data_of, plane_of}
use Rattle.planes.specs.Bytes.{decode, plane_bytes, plane_head}
use Rattle.image.specs.Format.{bytes_of, columns_of, has_part, rows_of}
use Rattle.planes.specs.Picture.{Pic}
use Rattle.image.specs.declared.format.PixelFormat.{PixelFormat}
use Rattle.records.specs.declared.record.Plane.{Plane}
use Rattle.moves.proofs.Drawn.{Worked, plane-drawn, walk_inside, worked-bytes, worked-inside, worked-size}
use Rattle.moves.proofs.Walks.{length-walk_bytes}
use Rattle.moves.specs.inner.Move.{WalkInside, moved, walk_bytes, walk_of}
use Rattle.moves.proofs.walk.write_plane.Goals as goal
use Rattle.moves.proofs.walk.write_plane.Goals.{After-bytes_per_sample-bytes, After-write_plane_head-first, Else-not-has}

-- the plane is there
module _ (c : Else-not-has) where
  abbrev P : Pic
  P = decode c.args.picture.«record».now c.args.picture.frame

  abbrev f : PixelFormat
  f = c.args.picture.frame.form.format

  abbrev q : Plane
  q = plane_of c.args.picture.frame c.args.part

  abbrev head : List ℕ
  head = plane_head c.args.v.form c.args.part

  abbrev rest : List ℕ
  rest =
      walk_bytes (data_of c.args.picture.«record».now q) (bytes_of f) q.stride (walk_of f c.args.v c.args.part)
      (columns_of c.args.v.form c.args.part) (rows_of c.args.v.form c.args.part)

  there : has_part f c.args.part ≡ true
  there = sym (c.requires.0.parts c.args.part) ∙ sym c.has.ensures ∙ c.if-not-has.false

  start : Writing c.args.out.now c.args.at (plane_bytes (moved c.args.v P) c.args.part) c.args.out.now
      c.args.at (head ++ rest)
  start =
      writing-begin _ _ _ _ (plane-drawn c.args.picture.«record».now c.args.picture.frame c.args.v c.args.part there c.requires.0)
      c.requires.1

  inside : WalkInside (data_of c.args.picture.«record».now q) (bytes_of f) q.stride (walk_of f c.args.v c.args.part)
      (columns_of c.args.v.form c.args.part) (rows_of c.args.v.form c.args.part)
  inside =
      walk_inside c.args.picture.«record».now c.args.picture.frame c.args.v c.args.part there c.args.picture.sound c.requires.0

  size : length rest ≡ rows_of c.args.v.form c.args.part * (columns_of c.args.v.form c.args.part * bytes_of f)
  size = length-walk_bytes _ _ _ _ _ _ inside.positive inside.bounded

first : (c : After-write_plane_head-first)
    → Writing c.args.out.now c.args.at (plane_bytes (moved c.args.v (P (goal.at.After-write_plane_head-first c).Else-not-has)) c.args.part)
    c.write_plane_head-first.new.out c.write_plane_head-first.result (rest (goal.at.After-write_plane_head-first c).Else-not-has)
first c = writing-run (head (goal.at.After-write_plane_head-first c).Else-not-has) (start (goal.at.After-write_plane_head-first c).Else-not-has) c.write_plane_head-first.ensures.0 c.write_plane_head-first.ensures.1

-- the numbers that were worked out
module _ (c : After-bytes_per_sample-bytes) where
  worked : Worked (data_of c.args.picture.«record».now (q (goal.at.After-bytes_per_sample-bytes c).Else-not-has)) c.plane_data-plane.result.now (bytes_of (f (goal.at.After-bytes_per_sample-bytes c).Else-not-has)) c.bytes_per_sample-bytes.result
      (q (goal.at.After-bytes_per_sample-bytes c).Else-not-has).stride c.plane-q.result.stride (walk_of (f (goal.at.After-bytes_per_sample-bytes c).Else-not-has) c.args.v c.args.part) c.plane_walk-w.result
      (columns_of c.args.v.form c.args.part) c.columns-columns.result (rows_of c.args.v.form c.args.part)
      c.rows-rows.result
  unfolding columns_of rows_of
  worked =
      record {
        bits = c.plane_data-plane.ensures ∙ ap (data_of c.args.picture.«record».now) c.plane-q.ensures;
        sample = c.bytes_per_sample-bytes.ensures;
        row = ap (λ (k : Plane). k.stride) c.plane-q.ensures;
        walk = c.plane_walk-w.ensures;
        across = c.columns-columns.ensures;
        down = c.rows-rows.ensures;
      }

pub write_plane_head-first-requires : goal.write_plane_head-first-requires
write_plane_head-first-requires c = (c.requires.0.sound, writing-fits (head (goal.at.write_plane_head-first-requires c).Else-not-has) (rest (goal.at.write_plane_head-first-requires c).Else-not-has) (start (goal.at.write_plane_head-first-requires c).Else-not-has))

pub write_rows-requires : goal.write_rows-requires
write_rows-requires c =
    (worked-inside (worked (goal.at.write_rows-requires c).After-bytes_per_sample-bytes) (inside (goal.at.write_rows-requires c).Else-not-has), rw (worked-size (worked (goal.at.write_rows-requires c).After-bytes_per_sample-bytes) ∙ sym (size (goal.at.write_rows-requires c).Else-not-has)) (first (goal.at.write_rows-requires c).After-write_plane_head-first).room)

pub returns : goal.returns
returns c =
    writing-last (first (goal.at.returns c).After-write_plane_head-first)
    (c.write_rows.ensures.0
    ∙ ap (λ (k : ℕ). c.write_plane_head-first.result + k) (worked-size (worked (goal.at.returns c).After-bytes_per_sample-bytes) ∙ sym (size (goal.at.returns c).Else-not-has)))
    (c.write_rows.ensures.1
    ∙ ap (puts c.write_plane_head-first.new.out c.write_plane_head-first.result) (worked-bytes (worked (goal.at.returns c).After-bytes_per_sample-bytes)))

pub returns-then-not-has : goal.returns-then-not-has
unfolding moved
returns-then-not-has c =
    writing-none c.args.out.now c.args.at _
    (plane-none (moved c.args.v (decode c.args.picture.«record».now c.args.picture.frame)) c.args.part
    (sym c.has.ensures ∙ c.if-not-has.true))
