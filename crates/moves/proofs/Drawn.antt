-- What the writer draws is the moved picture, plane by plane.
use mathlib.Core.Bool.{Bool, ◌&&◌, false, true}
use mathlib.Core.List.{List, ◌++◌}
use mathlib.Core.Path.{◌∙◌, ◌≡◌, ap, ap₂, refl}
use Prim.Native.Nat.{◌*◌, ℕ}
use Rattle.laws.proofs.Span.{span-cong}
use Rattle.laws.specs.Pick.{pick}
use Rattle.image.proofs.FormLaws.{bytes-few}
use Rattle.records.proofs.RecordLaws.{sample-inside}
use Rattle.planes.proofs.RoundTrip.{plane-some}
use Rattle.records.specs.Record.{data_of, plane_of}
use Rattle.planes.specs.Bytes.{decode, plane_bytes, plane_head, row_bytes, rows_bytes, sample_bytes, sample_in, samples_of}
use Rattle.image.specs.Format.{bytes_of, columns_of, cover, half_x, half_y, halved, halves_x, halves_y, has_part, rows_of, as444}
use Rattle.planes.specs.Picture.{Pic, full, pixel, promote}
use Rattle.records.specs.inner.Placed.{Sound}
use Rattle.image.specs.declared.format.Form.{Form}
use Rattle.image.specs.declared.format.Part.{Part}
use Rattle.image.specs.declared.format.Part.TheVariants.{Alpha, Cb, Cr, Luma}
use Rattle.image.specs.declared.format.PixelFormat.{PixelFormat}
use Rattle.records.specs.declared.record.Frame.{Frame}
use Rattle.moves.specs.inner.Move.{MoveFits, WalkInside, along_from, moved, plane_axis, walk_at, walk_bytes, walk_of, walk_x, walk_y}
use Rattle.moves.specs.declared.walk.Move.{Move}
use Rattle.moves.specs.declared.walk.Walk.{Walk}

-- a promoted plane is halved along no axis
pub full-sides : (m : Form) (p : Part) → (half_x (as444 m).format p ≡ false) × (half_y (as444 m).format p ≡ false)
unfolding as444 halved halves_x halves_y
full-sides m Luma = (refl, refl)
full-sides m Cb = (refl, refl)
full-sides m Cr = (refl, refl)
full-sides m Alpha = (refl, refl)

module _ (s : List ℕ) (fr : Frame) (v : Move) (p : Part) (has : has_part fr.form.format p ≡ true) where
  abbrev P : Pic
  P = decode s fr

  abbrev f : PixelFormat
  f = fr.form.format

  abbrev d : List ℕ
  d = data_of s (plane_of fr p)

  -- a sample of the moved picture is a sample of the walk, whether it is promoted or not
  pub moved_at : (x y : ℕ) → (moved v P).at p x y ≡ walk_at d (bytes_of f) (plane_of fr p).stride (walk_of f v p) x y
  unfolding moved walk_at walk_x walk_y walk_of plane_axis pick promote full pixel decode cover
  moved_at x y = go v.promoted
    where
      go : (t : Bool) →
          (let Q = pick t (promote P) P in
          Q.at p
          (along_from v.across.back (cover (half_x Q.form.format p) v.across.from) (pick v.swapped y x))
          (along_from v.down.back (cover (half_y Q.form.format p) v.down.from) (pick v.swapped x y)))
          ≡ sample_in d (bytes_of f) (plane_of fr p).stride
          (cover (t && half_x f p) (along_from (plane_axis t (half_x f p) v.across).back (plane_axis t (half_x f p) v.across).from (pick v.swapped y x)))
          (cover (t && half_y f p) (along_from (plane_axis t (half_y f p) v.down).back (plane_axis t (half_y f p) v.down).from (pick v.swapped x y)))
      go true = rw ((full-sides fr.form p).0, (full-sides fr.form p).1, has)
      go false = refl

  -- every sample of the walk is inside
  pub walk_inside : Sound s fr → MoveFits fr.form v → WalkInside d (bytes_of f) (plane_of fr p).stride (walk_of f v p) (columns_of v.form p) (rows_of v.form p)
  unfolding walk_of
  walk_inside k ok =
      let few = bytes-few f in
      let q = k.planes p has in
      record {
        positive = few.0;
        bounded = few.1;
        row = q.small;
        across = ok.across p has;
        down = ok.down p has;
        inside = λ x y a b.
            let i = ok.inside p has x y a b in
            sample-inside s fr.form p (plane_of fr p) q (walk_x (walk_of f v p) x y) (walk_y (walk_of f v p) x y) i.0 i.1;
      }

  -- the plane's bytes are its numbers and the walk's rows
  pub plane-drawn : MoveFits fr.form v
      → plane_bytes (moved v P) p ≡ plane_head v.form p ++ walk_bytes d (bytes_of f) (plane_of fr p).stride (walk_of f v p) (columns_of v.form p) (rows_of v.form p)
  unfolding walk_bytes rows_bytes row_bytes samples_of moved
  plane-drawn ok =
      plane-some (moved v P) p (ok.parts p ∙ has)
      ∙ ap (λ (l : List ℕ). plane_head v.form p ++ l)
      (span-cong _ _ 0 (rows_of v.form p) (λ y a b. span-cong _ _ 0 (columns_of v.form p) (λ x c e. ap₂ sample_bytes ok.bytes (moved_at x y))))

-- a walk by numbers that a caller worked out
pub record Worked (d d' : List ℕ) (bytes bytes' stride stride' : ℕ) (w w' : Walk) (columns columns' rows rows' : ℕ) : Type 0 where
  pub bits : d' ≡ d
  pub sample : bytes' ≡ bytes
  pub row : stride' ≡ stride
  pub walk : w' ≡ w
  pub across : columns' ≡ columns
  pub down : rows' ≡ rows

module _ {d d' : List ℕ} {bytes bytes' stride stride' : ℕ} {w w' : Walk} {columns columns' rows rows' : ℕ} (k : Worked d d' bytes bytes' stride stride' w w' columns columns' rows rows') where
  pub worked-inside : WalkInside d bytes stride w columns rows → WalkInside d' bytes' stride' w' columns' rows'
  worked-inside h = rw (k.bits, k.sample, k.row, k.walk, k.across, k.down) h

  pub worked-bytes : walk_bytes d' bytes' stride' w' columns' rows' ≡ walk_bytes d bytes stride w columns rows
  worked-bytes = rw (k.bits, k.sample, k.row, k.walk, k.across, k.down)

  pub worked-size : rows' * (columns' * bytes') ≡ rows * (columns * bytes)
  worked-size = rw (k.sample, k.across, k.down)
