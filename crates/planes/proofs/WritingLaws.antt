-- A record written part by part: its head, then its planes in turn.
use mathlib.Core.List.{List, ◌++◌}
use mathlib.Core.Path.{◌≡◌}
use Prim.Native.Nat.{◌+◌, ◌≤◌, ℕ}
use lib.ListN.{length}
use Rattle.laws.proofs.Writing.{Writing, writing-ended, writing-fits, writing-run, writing-whole}
use Rattle.laws.specs.Puts.{puts}
use Rattle.image.specs.declared.format.Part.{Part}
use Rattle.image.specs.declared.format.Part.TheVariants.{Alpha, Cb, Cr, Luma}
use Rattle.planes.specs.Bytes.{encode, head_bytes, plane_bytes}
use Rattle.planes.specs.Picture.{Pic}

-- what is left of a record from a plane on, and past it
abbrev pub planes_from : Pic → Part → List ℕ
planes_from P Luma = plane_bytes P Luma ++ (plane_bytes P Cb ++ (plane_bytes P Cr ++ plane_bytes P Alpha))
planes_from P Cb = plane_bytes P Cb ++ (plane_bytes P Cr ++ plane_bytes P Alpha)
planes_from P Cr = plane_bytes P Cr ++ plane_bytes P Alpha
planes_from P Alpha = plane_bytes P Alpha

-- the record of P is being written at the start of d; in e it has come to i, and the planes from p on are left
pub record Written (P : Pic) (d e : List ℕ) (i : ℕ) (p : Part) : Type 0 where
  pub going : Writing d 0 (encode P) e i (planes_from P p)

pub head-fits : (P : Pic) (d : List ℕ) → length (encode P) ≤ length d → 0 + length (head_bytes P.form) ≤ length d
unfolding encode
head-fits P d h = writing-fits (head_bytes P.form) (planes_from P Luma) (writing-whole d (encode P) h)

module _ {P : Pic} {d e : List ℕ} {i : ℕ} where
  pub head-written : length (encode P) ≤ length d → i ≡ 0 + length (head_bytes P.form) → e ≡ puts d 0 (head_bytes P.form) → Written P d e i Luma
  unfolding encode
  head-written h p q = record { going = writing-run (head_bytes P.form) (writing-whole d (encode P) h) p q }

  module _ {e' : List ℕ} {i' : ℕ} where
    pub luma-written : Written P d e i Luma → i' ≡ i + length (plane_bytes P Luma) → e' ≡ puts e i (plane_bytes P Luma) → Written P d e' i' Cb
    luma-written w p q = record { going = writing-run (plane_bytes P Luma) w.going p q }

    pub cb-written : Written P d e i Cb → i' ≡ i + length (plane_bytes P Cb) → e' ≡ puts e i (plane_bytes P Cb) → Written P d e' i' Cr
    cb-written w p q = record { going = writing-run (plane_bytes P Cb) w.going p q }

    pub cr-written : Written P d e i Cr → i' ≡ i + length (plane_bytes P Cr) → e' ≡ puts e i (plane_bytes P Cr) → Written P d e' i' Alpha
    cr-written w p q = record { going = writing-run (plane_bytes P Cr) w.going p q }

    pub alpha-written : Written P d e i Alpha → i' ≡ i + length (plane_bytes P Alpha) → e' ≡ puts e i (plane_bytes P Alpha) → (i' ≡ length (encode P)) × (e' ≡ puts d 0 (encode P))
    alpha-written w p q = writing-ended w.going p q

  -- the next plane fits
  pub plane-fits : {p : Part} → Written P d e i p → i + length (plane_bytes P p) ≤ length e
  plane-fits {p} w = fits p w.going
    where
      fits : (p : Part) → Writing d 0 (encode P) e i (planes_from P p) → i + length (plane_bytes P p) ≤ length e
      fits Luma k = writing-fits (plane_bytes P Luma) _ k
      fits Cb k = writing-fits (plane_bytes P Cb) _ k
      fits Cr k = writing-fits (plane_bytes P Cr) _ k
      fits Alpha k = k.room
