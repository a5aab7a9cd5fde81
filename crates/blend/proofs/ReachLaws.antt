-- Which samples of a stripe an input covers.
use mathlib.Core.Bool.{Bool, false, true}
use mathlib.Core.Path.{◌∙◌, ◌≡◌, ap}
use Prim.Native.Nat.{◌%◌, ◌*◌, ◌+◌, ◌-◌, ◌/◌, ◌<◌, ◌≤◌, max, min, ℕ}
use native.Mathlib.Nat.{div-add-mod, div-mul-le_self, le-div_iff_mul-le, mod-lt, mul_comm, suc-mul}
use native.Mathlib.Omega.{arith}
use lib.Arith.{digits_div, digits_mod}
use borrow.Author.Tests.{le-leb, leb-true, lt-ltb, ltb-true}
use Rattle.laws.proofs.Order.{and-true, item-within, mul-below, true-and}
use Rattle.laws.specs.Pick.{pick}
use Rattle.numbers.specs.declared.Offset.{Offset}
use Rattle.image.specs.Format.{side_of}
use Rattle.opaque.specs.inner.Window.{stretch_of}
use Rattle.blend.specs.Overlay.{base, covers, spot_at}

-- ---- along one axis

pub covers-facts : (n : ℕ) (o : Offset) (x : ℕ) → covers n o x ≡ true → (o.ahead ≤ x + o.behind) × (x + o.behind < o.ahead + n)
unfolding covers
covers-facts n o x e = let u = and-true _ _ e in (leb-true _ _ u.0, ltb-true _ _ u.1)

pub facts-covers : (n : ℕ) (o : Offset) (x : ℕ) → o.ahead ≤ x + o.behind → x + o.behind < o.ahead + n → covers n o x ≡ true
unfolding covers
facts-covers n o x p q = true-and _ _ (le-leb _ _ p) (lt-ltb _ _ q)

-- a covered sample lies between the ends of the stretch, and a sample there is covered
pub stretch-from : (h : Bool) (o : Offset) (n c : ℕ) → covers n o (base h c) ≡ true → ((stretch_of h o n).from ≤ c) × (c < (stretch_of h o n).to)
unfolding stretch_of base side_of
stretch-from true o n c e = let u = covers-facts n o (2 * c) e in (omega arith, omega arith)
stretch-from false o n c e = let u = covers-facts n o c e in (omega arith, omega arith)

pub stretch-covers : (h : Bool) (o : Offset) (n c : ℕ) → (stretch_of h o n).from ≤ c → c < (stretch_of h o n).to → covers n o (base h c) ≡ true
unfolding stretch_of base side_of
stretch-covers true o n c p q = facts-covers n o (2 * c) (omega arith) (omega arith)
stretch-covers false o n c p q = facts-covers n o c (omega arith) (omega arith)

-- the spot of a covered place is in the input
pub spot-inside : (n : ℕ) (o : Offset) (x : ℕ) → covers n o x ≡ true → spot_at o x < n
unfolding spot_at
spot-inside n o x e = let u = covers-facts n o x e in omega arith

-- k samples on
pub spot-step : (h : Bool) (n : ℕ) (o : Offset) (c k : ℕ) → covers n o (base h c) ≡ true → spot_at o (base h c) + k * pick h 2 1 ≡ spot_at o (base h (c + k))
unfolding spot_at base pick
spot-step true n o c k e = let u = covers-facts n o (2 * c) e in omega arith
spot-step false n o c k e = let u = covers-facts n o c e in omega arith

pub base-small : (h : Bool) (c : ℕ) → base h c ≤ 2 * c
unfolding base
base-small true c = omega arith
base-small false c = omega arith

-- ---- in rows

-- a number by its row and its column
pub row-column : (q c : ℕ) → 1 ≤ c → (q ≡ q / c * c + q % c) × (q % c < c)
row-column q c h = let e = div-add-mod q c in let m = mul_comm c (q / c) in (omega arith, mod-lt q h)

-- between two ends of a row
pub in_row : (q r c : ℕ) → r * c ≤ q → q < r * c + c → (q / c ≡ r) × (q % c ≡ q - r * c)
in_row q r c h l =
    let e : q ≡ r * c + (q - r * c) = omega arith in
    let k : q - r * c < c = omega arith in
    (ap (λ (n : ℕ). n / c) e ∙ digits_div r k, ap (λ (n : ℕ). n % c) e ∙ digits_mod r k)

pub row-mono : (q s c : ℕ) → 1 ≤ c → q ≤ s → q / c ≤ s / c
row-mono q s c h l = (le-div_iff_mul-le h).1 (omega (arith, div-mul-le_self q c))

-- the row past the last of so many
pub row_last : (q e c : ℕ) → 1 ≤ c → q < e → q / c < (e + c - 1) / c
row_last q e c h l =
    let k : (q / c + 1) * c ≡ q / c * c + c = omega (arith, suc-mul (q / c) c) in
    let m : q / c + 1 ≤ (e + c - 1) / c = (le-div_iff_mul-le h).1 (omega (arith, div-mul-le_self q c)) in
    omega arith

pub row-begins : (r e c : ℕ) → 1 ≤ c → r < (e + c - 1) / c → r * c < e
row-begins r e c h l =
    let k = item-within r ((e + c - 1) / c) c l in
    let m = div-mul-le_self (e + c - 1) c in
    omega arith

-- row r of a plane of c columns, from one column up to another, beside so many samples from a start on
module _ (c start count from to r : ℕ) (any : 1 ≤ c) where
  abbrev A : ℕ
  A = max (r * c + from) start

  abbrev E : ℕ
  E = min (r * c + min to c) (start + count)

  pub line-in : (j : ℕ) → j < count → (start + j) / c ≡ r → from ≤ (start + j) % c → (start + j) % c < to → (A ≤ start + j) × (start + j < E)
  line-in j h e f t =
      let k = row-column (start + j) c any in
      let m : (start + j) / c * c ≡ r * c = ap (λ (n : ℕ). n * c) e in
      (omega arith, omega arith)

  pub line-out : (j : ℕ) → A ≤ start + j → start + j < E → ((start + j) / c ≡ r) × ((start + j) % c ≡ start + j - r * c) × (from ≤ (start + j) % c) × ((start + j) % c < to)
  line-out j a e =
      let k = in_row (start + j) r c (omega arith) (omega arith) in
      (k.0, k.1, omega (arith, k.1), omega (arith, k.1))

  pub line_small : r * c < start + count → A < E → (r * c ≤ A) × (A - r * c < c) × (from ≤ A - r * c) × (A - r * c < to)
  line_small l h = (omega arith, omega arith, omega arith, omega arith)

-- a row's number is at most its first sample's
pub row_small : (r c : ℕ) → 1 ≤ c → r ≤ r * c
row_small r c h = omega (arith, mul-below r c r 1 (omega arith) h)
