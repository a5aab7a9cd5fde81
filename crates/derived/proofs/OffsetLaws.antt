-- Laws of an overlay's offsets: where they stand, and what they are.
use Rattle.std.specs.Prelude.{Ok}
use mathlib.Core.List.{List}
use mathlib.Core.Path.{◌≡◌, ap}
use Prim.Native.Nat.{◌%◌, ◌*◌, ◌+◌, ◌-◌, ◌<◌, ◌^◌, ◌≤◌, suc, ℕ}
use native.Mathlib.Nat.{sub-zero}
use native.Mathlib.Omega.{arith}
use lib.IntN.{negsuc, pos, sub_ℕ, ℤ}
use lib.ListN.{get_or, length}
use borrow.Author.Tests.{le-ltb, lt-ltb}
use Rattle.laws.proofs.Order.{item-within, mul-below}
use Rattle.numbers.specs.Field.{field_at, offset_of, signed_of}
use Rattle.numbers.specs.declared.Cursor.{Cursor}
use Rattle.derived.proofs.FieldLaws.{few-patterns, field_below, field-read, patterns, shift-patterns}
use Rattle.derived.specs.Overlay.{offset_place, signed_at}
use Rattle.derived.specs.inner.Sound.{OverlaySound}
use Rattle.derived.specs.declared.overlay.OverlayDescriptor.{OverlayDescriptor}

-- both offsets of an input lie in the body, at a place that is told without overflow
pub place_inside : (s : List ℕ) (d : OverlayDescriptor) (i : ℕ) → OverlaySound s d → i < d.count → (i * (2 * d.bytes) ≤ 524288) × (offset_place d i + 2 * d.bytes ≤ length s)
unfolding offset_place
place_inside s d i k h =
    let a = item-within i d.count (2 * d.bytes) h in
    let b = mul-below 65536 8 i (2 * d.bytes) (omega arith) (omega arith) in
    (b, omega (arith, k.inside))

-- a pattern that was read, as the number that it stands for
pub pattern-read : (s : List ℕ) (at n v : ℕ) (c : Cursor) → n ≤ 4 → field_at s at n ≡ Ok (v, c) → offset_of (signed_of ((1 * 2 ^ (8 * n)) % 2 ^ 64) v) ≡ offset_of (signed_at s at n)
unfolding signed_at
pattern-read s at n v c h e = rw (shift-patterns n h, (field-read s at n v c e).0)

pub pattern-fits : (s : List ℕ) (at n v : ℕ) (c : Cursor) → n ≤ 4 → ((i : ℕ) → get_or s i 0 < 256) → field_at s at n ≡ Ok (v, c) → (v < (1 * 2 ^ (8 * n)) % 2 ^ 64) × ((1 * 2 ^ (8 * n)) % 2 ^ 64 ≤ 2 ^ 32)
pattern-fits s at n v c h k e = rw (shift-patterns n h) (rw (← patterns n) (field_below s at n v c k e), few-patterns n h)

-- a signed number with its sign split off is that number again
pub offset-is : (z : ℤ) → sub_ℕ (offset_of z).ahead (offset_of z).behind ≡ z
unfolding offset_of
offset-is (pos n) = simp (le-ltb n 0 (omega arith), sub-zero)
offset-is (negsuc n) = simp (lt-ltb 0 (suc n) (omega arith)) (let e : suc n - 1 ≡ n = omega arith in ap negsuc e)
