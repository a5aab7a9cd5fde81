-- Laws of big-endian fields: how large a value is, and where its field ends.
use Rattle.std.specs.Prelude.{Ok}
use mathlib.Core.Bool.{false, true}
use mathlib.Core.List.{List}
use mathlib.Core.Path.{◌∙◌, ◌≡◌, ap, refl, sym}
use Prim.Native.Nat.{◌%◌, ◌*◌, ◌+◌, ◌-◌, ◌<◌, ◌^◌, ◌≤◌, suc, zero, ℕ}
use native.Mathlib.Nat.{pow-suc}
use native.Mathlib.Omega.{arith}
use lib.Dec.{lit<, ltb}
use lib.ListN.{get_or, length}
use lib.Pow.{pow-add, pow_mono, shl_exact}
use borrow.Author.Tests.{le-ltb, lt-ltb}
use Rattle.laws.proofs.Order.{apart, by_order}
use Rattle.laws.proofs.Out.{done-pair}
use Rattle.laws.specs.Pick.{pick}
use Rattle.numbers.proofs.Field.{big_endian-more, big_endian-none, weight-more}
use Rattle.numbers.specs.Field.{big_endian, field_at, short}
use Rattle.numbers.specs.declared.Cursor.{Cursor}

-- a field that was read: its value and the place past it
pub field-read : (s : List ℕ) (at n v : ℕ) (c : Cursor) → field_at s at n ≡ Ok (v, c) → (v ≡ big_endian s at n) × (c.at ≡ at + n) × (at + n ≤ length s)
unfolding field_at pick
field-read s at n v c e =
    by_order (length s) at
    (λ h. let q : field_at s at n ≡ short = simp (lt-ltb (length s) at h) in apart (cc))
    (λ h.
    by_order (length s - at) n
    (λ l. let q : field_at s at n ≡ short = simp (le-ltb (length s) at h, lt-ltb (length s - at) n l) in apart (cc))
    (λ l.
    let q : field_at s at n ≡ Ok ((big_endian s at n), (record { at = at + n })) = simp (le-ltb (length s) at h, le-ltb (length s - at) n l) in
    let p = done-pair _ v _ c (sym q ∙ e) in
    (sym p.0, ap (λ k. k.at) (sym p.1), omega arith)))

-- a field that lies inside is read
pub field-inside : (s : List ℕ) (at n : ℕ) → at + n ≤ length s → field_at s at n ≡ Ok ((big_endian s at n), (record { at = at + n }))
unfolding field_at pick
field-inside s at n h =
    let a : at ≤ length s = omega arith in
    let b : n ≤ length s - at = omega arith in
    simp (le-ltb (length s) at a, le-ltb (length s - at) n b)

-- a number of n bytes
pub big_endian-below : (s : List ℕ) (at n : ℕ) → ((i : ℕ) → get_or s i 0 < 256) → big_endian s at n < 256 ^ n
big_endian-below s at zero h = rw (big_endian-none s at) (lit< tt)
big_endian-below s at (suc n) h =
    let e : suc n ≡ n + 1 = omega arith in
    rw (e, big_endian-more s at n) (weight-more n (big_endian s at n) (get_or s (at + n) 0) (big_endian-below s at n h) (h (at + n)))

-- a field's value, of n bytes
pub field_below : (s : List ℕ) (at n v : ℕ) (c : Cursor) → ((i : ℕ) → get_or s i 0 < 256) → field_at s at n ≡ Ok (v, c) → v < 256 ^ n
field_below s at n v c h e = rw (field-read s at n v c e).0 (big_endian-below s at n h)

-- the patterns of n bytes
pub patterns : (n : ℕ) → 256 ^ n ≡ 2 ^ (8 * n)
patterns zero = refl
patterns (suc n) =
    let e : 8 * suc n ≡ 8 * n + 8 = omega arith in
    rw (e, pow-suc, pow-add, patterns n)

pub shift-patterns : (n : ℕ) → n ≤ 4 → (1 * 2 ^ (8 * n)) % 2 ^ 64 ≡ 2 ^ (8 * n)
shift-patterns n h =
    let e : 1 * 2 ^ (8 * n) ≡ 2 ^ (8 * n) = omega arith in
    shl_exact {a = 1} 1 (8 * n) 64 (lit< tt) (omega arith) ∙ e

pub few-patterns : (n : ℕ) → n ≤ 4 → 2 ^ (8 * n) ≤ 2 ^ 32
few-patterns n h = pow_mono {i = 8 * n} {j = 32} (omega arith)

-- k bytes from a place on, in a list of l
pub short-of : (l at k : ℕ) → at ≤ l → l - at < k → ltb l (at + k) ≡ true
short-of l at k h g = lt-ltb l (at + k) (omega arith)

pub long-enough : (l at k : ℕ) → at ≤ l → k ≤ l - at → ltb l (at + k) ≡ false
long-enough l at k h g = le-ltb l (at + k) (omega arith)
