-- Laws of mirrored walks: a row is samples of one of the plane's rows, from the last back.
use mathlib.Core.Bool.{Bool}
use mathlib.Core.List.{List}
use mathlib.Core.Path.{◌∙◌, ◌≡◌, ap, ap₂, sym}
use Prim.Native.Nat.{◌*◌, ◌+◌, ◌-◌, ◌<◌, ◌^◌, ◌≤◌, ℕ}
use native.Mathlib.Nat.{mul_comm, mul-sub}
use native.Mathlib.Omega.{arith}
use lib.ListN.{length}
use Rattle.laws.proofs.Order.{mul-below, pick-false}
use Rattle.laws.proofs.Span.{span-cong}
use Rattle.laws.specs.Pick.{pick}
use Rattle.laws.specs.Span.{span}
use Rattle.image.specs.Format.{cover}
use Rattle.planes.proofs.ByteLaws.{samples-same}
use Rattle.planes.specs.Bytes.{sample_at, sample_in}
use Rattle.turns.proofs.SteppedLaws.{length-stepped}
use Rattle.turns.specs.inner.Stepped.{SteppedFits, step_to, stepped}
use Rattle.moves.proofs.Walks.{reach-small, row_fits}
use Rattle.moves.specs.declared.walk.Axis.{Axis}
use Rattle.moves.specs.declared.walk.Walk.{Walk}
use Rattle.moves.specs.inner.Rows.{Mirrored}
use Rattle.moves.specs.inner.Move.{WalkInside, along_from, walk_at, walk_bytes, walk_x, walk_y}

-- the row y of a mirrored walk, by the plane's row that it is and the place of that row's last sample
unfoldable pub mirror_row : List ℕ → ℕ → ℕ → ℕ → Axis → Bool → ℕ → ℕ → List ℕ
mirror_row d bytes stride columns down half last y = stepped d bytes (cover half (along_from down.back down.from y) * stride + last) 0 bytes columns

pub length-mirror_row : (d : List ℕ) (bytes stride columns : ℕ) (down : Axis) (half : Bool) (last y : ℕ) → 1 ≤ bytes → bytes ≤ 2
    → length (mirror_row d bytes stride columns down half last y) ≡ columns * bytes
unfolding mirror_row
length-mirror_row d bytes stride columns down half last y l h = length-stepped d bytes _ 0 bytes columns l h

module _ (d : List ℕ) (bytes stride : ℕ) (w : Walk) (columns rows : ℕ) (ok : WalkInside d bytes stride w columns rows) (m : Mirrored w) where
  abbrev at : ℕ → ℕ
  at y = cover w.half_down (along_from w.down.back w.down.from y) * stride + w.across.from * bytes

  behind : (k : ℕ) → k < columns → k * bytes ≤ w.across.from * bytes
  behind k l = mul-below w.across.from bytes k bytes (ok.across.behind k (rw (pick-false w.swapped rows columns m.rows) l) m.back) (omega arith)

  across-is : (k y : ℕ) → cover w.half_across (along_from w.across.back w.across.from (pick w.swapped y k)) ≡ w.across.from - k
  unfolding cover along_from pick
  across-is k y = rw (m.rows, m.whole, m.back)

  place : (k y : ℕ) → k < columns → walk_y w k y * stride + walk_x w k y * bytes ≡ at y + k * 0 - k * bytes
  unfolding walk_x walk_y
  place k y l = ap₂ (λ (a b : ℕ). a * stride + b * bytes) down (across-is k y) ∙ omega (arith, behind k l, less)
    where
      down : cover w.half_down (along_from w.down.back w.down.from (pick w.swapped k y)) ≡ cover w.half_down (along_from w.down.back w.down.from y)
      down = ap (λ (n : ℕ). cover w.half_down (along_from w.down.back w.down.from n)) (pick-false w.swapped k y m.rows)

      less : (w.across.from - k) * bytes ≡ w.across.from * bytes - k * bytes
      less = mul_comm _ _ ∙ mul-sub bytes w.across.from k ∙ ap₂ (λ (a b : ℕ). a - b) (mul_comm _ _) (mul_comm _ _)

  pub mirrored-small : (y : ℕ) → y < rows → at y < 2 ^ 64
  mirrored-small y l =
      let f = row_fits d bytes stride w columns rows ok y l in
      let n = reach-small w.half_down w.down.back w.down.from y f.down_small f.bounded in
      let s = ok.row in
      omega (
        arith,
        mul-below 4294967295 4294967295 (cover w.half_down (along_from w.down.back w.down.from y)) stride (omega arith) (omega arith),
        mul-below 2147483648 2 w.across.from bytes (omega (arith, f.across_small)) ok.bounded,
      )

  pub mirrored-fits : (y : ℕ) → y < rows → SteppedFits d bytes (at y) 0 bytes columns
  mirrored-fits y l =
      record {
        positive = ok.positive;
        bounded = ok.bounded;
        small = λ k q. omega (arith, mirrored-small y l);
        behind = λ k q. omega (arith, behind k q);
        inside = λ k q. rw (← place k y q) (ok.inside k y q l);
      }

  pub mirrored-bytes : span (mirror_row d bytes stride columns w.down w.half_down (w.across.from * bytes)) 0 rows ≡ walk_bytes d bytes stride w columns rows
  unfolding mirror_row walk_bytes walk_at sample_in stepped step_to
  mirrored-bytes = span-cong _ _ 0 rows (λ y p q. samples-same bytes _ _ columns (λ k l. ap (sample_at d bytes) (sym (place k y l))))
