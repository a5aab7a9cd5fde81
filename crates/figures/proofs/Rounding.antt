-- How far a rounded operation lies from the exact result. A double is a count of units of binary64's smallest value, of which W
-- make 1; up to 2 ^ 24 a result is off by E units at most.
use mathlib.Core.Bool.{Bool, false, not, true, true≢false}
use mathlib.Core.Path.{◌∙◌, ◌≡◌, ap, ap₂, refl, subst, sym}
use Prim.Native.Nat.{◌%◌, ◌*◌, ◌+◌, ◌-◌, ◌/◌, ◌<◌, ◌^◌, ◌≤◌, compare, suc, zero, ℕ}
use native.Mathlib.Nat.{add-mul, div-lt_iff_lt-mul, div-mul-le_self, eq_of_mul-eq-mul_right, le_of_eq, le_of_lt, le_of_mul-le-mul_right, le_trans, lt-div-mul-add, lt_irrefl, lt_of_le_of_lt, mul_assoc, mul_comm, mul-le-mul_left, mul-le-mul_right, mul-lt-mul_of_pos_right, mul-mul-mul_comm, mul-pos, mul_right_comm, mul-sub, suc-mul, zero-mul}
use native.Mathlib.Omega.{arith}
use lib.Dec.{eqb-suc-zero, lit<, ltb}
use lib.Ieee.{Float, add, binary64, div, down, fin, inf, mul, nan, nearest, neg, round, size, sub, sum, unlike, up}
use lib.Ieee.Digits.{size-le}
use lib.Ieee.Exact.{HasValue, units_val}
use lib.Ieee.Fits.{down_pos, nearest-le, round_is, up_pos}
use lib.Ieee.Nearest.{closest, nearest-ge}
use lib.Ieee.Scale.{round_same}
use lib.Pow.{pow_mono, pow_pos}
use borrow.Author.Tests.{le-ltb, lt-ltb, ltb-false}
use Rattle.laws.proofs.Order.{by_order, by-test}

unfoldable pub W : ℕ
W = 2 ^ 1074

unfoldable pub E : ℕ
E = 2 ^ 1046

pub W-is : W ≡ 268435456 * E
unfolding W E
W-is = refl

pub W-pos : 0 < W
unfolding W
W-pos = pow_pos 1074

pub E_pos : 0 < E
unfolding E
E_pos = pow_pos 1046

-- ---- rounding

-- a / b to the nearest whole number is off by one at most
closest-off : (a b : ℕ) → 0 < b → (closest a b * b ≤ a + b) × (a ≤ closest a b * b + b)
closest-off a b h =
    let q = a / b in
    let o = compare (a % b * 2) b in
    let x : nearest q o * b ≤ suc q * b = mul-le-mul_right b (nearest-le q o) in
    let y : q * b ≤ nearest q o * b = mul-le-mul_right b (nearest-ge q o) in
    let s : suc q * b ≡ q * b + b = suc-mul q b in
    let u : q * b ≤ a = div-mul-le_self a b in
    let v : a < q * b + b = lt-div-mul-add h in
    (omega arith, omega arith)

-- x is n units with the sign s, and n / W is off a / c by E / W at most
pub record Rounded (x : Float) (s : Bool) (a c : ℕ) : Type 0 where
  pub n : ℕ
  pub val : HasValue x s n W
  pub hi : n * c ≤ a * W + c * E
  pub lo : a * W ≤ n * c + c * E

huge : 2 ^ 24 * W + E < 2 ^ (1074 + 1024)
unfolding W E
huge = lit< tt

below : (c : ℕ) → 0 < c → c * 2 ^ 24 * W < 2 ^ 1099 * c
unfolding W
below c C = lt_of_le_of_lt (le_of_eq (mul_assoc c (2 ^ 24) (2 ^ 1074) ∙ mul_comm c (2 ^ 24 * 2 ^ 1074))) (mul-lt-mul_of_pos_right (lit< tt) C)

-- `round` drops so many digits of a / c units, and keeps this
abbrev places : ℕ → ℕ → ℕ
places a c = size (a * W / c) - 53

abbrev kept : ℕ → ℕ → ℕ
kept a c = closest (a * W) (c * 2 ^ places a c)

value : (s : Bool) (a c : ℕ) → kept a c * 2 ^ places a c < 2 ^ (1074 + 1024) → HasValue (round binary64 s a c) s (kept a c * 2 ^ places a c) W
unfolding W
value s a c h = subst (λ (x : Float). HasValue x s (kept a c * 2 ^ places a c) (2 ^ 1074)) (sym (round_is binary64 s a c)) (units_val binary64 s (kept a c) (places a c) h)

dropped : (a c : ℕ) → 0 < c → a ≤ c * 2 ^ 24 → 2 ^ places a c ≤ E
unfolding E
dropped a c C h = pow_mono (few (size (a * W / c)) (size-le (a * W / c) 1099 ((div-lt_iff_lt-mul C).1 (lt_of_le_of_lt (mul-le-mul_right W h) (below c C)))))
  where
    few : (z : ℕ) → z ≤ 1099 → z - 53 ≤ 1046
    few z h = omega arith

-- what is left is no infinity
finite : (n a c : ℕ) → 0 < c → a ≤ c * 2 ^ 24 → n * c ≤ a * W + c * E → n < 2 ^ (1074 + 1024)
finite n a c C h u =
    let k : a * W ≤ c * 2 ^ 24 * W = mul-le-mul_right W h in
    let b : n * c ≤ (2 ^ 24 * W + E) * c = omega (arith, u, k) in
    lt_of_le_of_lt (le_of_mul-le-mul_right b C) huge

pub rounded : (s : Bool) (a c : ℕ) → 0 < c → a ≤ c * 2 ^ 24 → Rounded (round binary64 s a c) s a c
rounded s a c C h =
    let u = 2 ^ places a c in
    let q = kept a c in
    let off = closest-off (a * W) (c * u) (mul-pos C (pow_pos (places a c))) in
    let st : c * u ≤ c * E = mul-le-mul_left c (dropped a c C h) in
    let e : q * u * c ≡ q * (c * u) = omega arith in
    let up : q * u * c ≤ a * W + c * E = omega arith in
    record { n = q * u; val = value s a c (finite (q * u) a c C h up); hi = up; lo = omega arith }

-- the same fraction by other terms
renamed : (s : Bool) (a c b d : ℕ) → 0 < c → 0 < d → a * d ≡ b * c → b ≤ d * 2 ^ 24 → Rounded (round binary64 s a c) s b d
renamed s a c b d C D e h = subst (λ (x : Float). Rounded x s b d) (sym (round_same binary64 s a c b d C D e)) (rounded s b d D h)

-- ---- products and quotients of counts of units

mul-units : (x y : Float) (s t : Bool) (n m : ℕ) → HasValue x s n W → HasValue y t m W → n * m ≤ W * W * 2 ^ 24 → Rounded (mul binary64 x y) (unlike s t) (n * m) (W * W)
unfolding mul
mul-units nan y s t n m v w h = absurd v
mul-units (inf q) y s t n m v w h = absurd v
mul-units (fin q i e) nan s t n m v w h = absurd w
mul-units (fin q i e) (inf r) s t n m v w h = absurd w
mul-units (fin q i e) (fin r j d) s t n m v w h =
    rw (← v.0, ← w.0)
    (renamed (unlike q r) (i * up e * (j * up d)) (down e * down d) (n * m) (W * W) (mul-pos (down_pos e) (down_pos d)) (mul-pos W-pos W-pos)
    (cross (i * up e) (j * up d) (down e) (down d) v.1 w.1) h)
  where
    cross : (a b c d : ℕ) → a * W ≡ n * c → b * W ≡ m * d → a * b * (W * W) ≡ n * m * (c * d)
    cross a b c d p q = sym (mul-mul-mul_comm a W b W) ∙ ap₂ ◌*◌ p q ∙ mul-mul-mul_comm n c m d

-- the sign of a product or a quotient with a number that is not below zero
alike-left : (s : Bool) → unlike false s ≡ s
alike-left true = refl
alike-left false = refl

alike_right : (s : Bool) → unlike s false ≡ s
alike_right true = refl
alike_right false = refl

pub mul_left : (x y : Float) (t : Bool) (n m : ℕ) → HasValue x false n W → HasValue y t m W → n * m ≤ W * W * 2 ^ 24 → Rounded (mul binary64 x y) t (n * m) (W * W)
mul_left x y t n m v w h = rw (alike-left t) at (mul-units x y false t n m v w h)

pub mul_right : (x y : Float) (s : Bool) (n m : ℕ) → HasValue x s n W → HasValue y false m W → n * m ≤ W * W * 2 ^ 24 → Rounded (mul binary64 x y) s (n * m) (W * W)
mul_right x y s n m v w h = rw (alike_right s) at (mul-units x y s false n m v w h)

-- by a count above 0
pub div-units : (x y : Float) (s : Bool) (n m : ℕ) → HasValue x s n W → HasValue y false m W → 0 < m → n ≤ m * 2 ^ 24 → Rounded (div binary64 x y) s n m
unfolding div
div-units nan y s n m v w M h = absurd v
div-units (inf q) y s n m v w M h = absurd v
div-units (fin q i e) nan s n m v w M h = absurd w
div-units (fin q i e) (inf r) s n m v w M h = absurd w
div-units (fin q i e) (fin true j d) s n m v w M h = absurd (true≢false w.0)
div-units (fin q i e) (fin false zero d) s n m v w M h =
    absurd (lt_irrefl 0 (subst (λ (z : ℕ). 0 < z) (sym w.1 ∙ ap (λ (z : ℕ). z * W) (zero-mul (up d)) ∙ zero-mul W) (mul-pos M (down_pos d))))
div-units (fin q i e) (fin false (suc j) d) s n m v w M h =
    rw (eqb-suc-zero j, ← v.0)
    (subst (λ (t : Bool). Rounded (round binary64 t (i * up e * down d) (suc j * up d * down e)) q n m) (sym (alike_right q))
    (renamed q (i * up e * down d) (suc j * up d * down e) n m (mul-pos (mul-pos (some j) (up_pos d)) (down_pos e)) M
    (eq_of_mul-eq-mul_right W W-pos _ _ (cross (i * up e) (suc j * up d) (down e) (down d) v.1 w.1)) h))
  where
    some : (k : ℕ) → 0 < suc k
    some k = omega arith

    cross : (a b c d : ℕ) → a * W ≡ n * c → b * W ≡ m * d → a * d * m * W ≡ n * (b * c) * W
    cross a b c d p q =
        let l : a * d * m * W ≡ a * W * (m * d) = omega arith in
        let r : n * (b * c) * W ≡ n * c * (b * W) = omega arith in
        l ∙ ap₂ ◌*◌ p (sym q) ∙ sym r

-- ---- sums of signed counts of units

-- a signed count, as a number less another
abbrev pub plus : Bool → ℕ → ℕ
plus false n = n
plus true n = 0

abbrev pub less : Bool → ℕ → ℕ
less false n = 0
less true n = n

-- z is off the sum of two signed counts by E at most
pub record Summed (z : Float) (s : Bool) (n : ℕ) (t : Bool) (m : ℕ) : Type 0 where
  pub u : Bool
  pub k : ℕ
  pub val : HasValue z u k W
  pub hi : plus u k + less s n + less t m ≤ less u k + plus s n + plus t m + E
  pub lo : less u k + plus s n + plus t m ≤ plus u k + less s n + less t m + E
  pub size : k ≤ n + m + E

-- a count that is rounded as a whole number of units
whole : (z : Float) (u : Bool) (p : ℕ) (r : Rounded z u p W) → (r.n ≤ p + E) × (p ≤ r.n + E)
whole z u p r =
    let a : r.n * W ≤ (p + E) * W = omega (arith, r.hi) in
    let b : p * W ≤ (r.n + E) * W = omega (arith, r.lo) in
    (le_of_mul-le-mul_right a W-pos, le_of_mul-le-mul_right b W-pos)

-- a / c and b / c are n / W and m / W
module _ (a b c n m : ℕ) (C : 0 < c) (ha : a * W ≡ n * c) (hb : b * W ≡ m * c) (h : n + m ≤ W * 2 ^ 24) where
  together : (u : Bool) → Rounded (round binary64 u (a + b) c) u (n + m) W
  together u = renamed u (a + b) c (n + m) W C W-pos (add-mul a b W ∙ ap₂ ◌+◌ ha hb ∙ sym (add-mul n m c)) h

  apart : (u : Bool) → Rounded (round binary64 u (a - b) c) u (n - m) W
  apart u = renamed u (a - b) c (n - m) W C W-pos (mul_comm (a - b) W ∙ mul-sub W a b ∙ ap₂ ◌-◌ (mul_comm W a ∙ ha ∙ mul_comm n c) (mul_comm W b ∙ hb ∙ mul_comm m c) ∙ sym (mul_comm (n - m) c ∙ mul-sub c n m)) (omega arith)

  order : b ≤ a → m ≤ n
  order g = le_of_mul-le-mul_right (le_trans (le_of_eq (sym hb)) (le_trans (mul-le-mul_right W g) (le_of_eq ha))) C

-- a rounded sum, by its exact sign and count
exact : (z : Float) (u s t : Bool) (p n m : ℕ) → Rounded z u p W → plus u p + less s n + less t m ≡ less u p + plus s n + plus t m → p ≤ n + m → Summed z s n t m
exact z false s t p n m r e h =
    let w = whole z false p r in
    record { u = false; k = r.n; val = r.val; hi = omega arith; lo = omega arith; size = omega arith }
exact z true s t p n m r e h =
    let w = whole z true p r in
    record { u = true; k = r.n; val = r.val; hi = omega arith; lo = omega arith; size = omega arith }

sum-units : (s t : Bool) (a b c n m : ℕ) → 0 < c → a * W ≡ n * c → b * W ≡ m * c → n + m ≤ W * 2 ^ 24 → Summed (sum binary64 s a t b c) s n t m
unfolding sum
sum-units false false a b c n m C ha hb h = exact _ false false false (n + m) n m (together a b c n m C ha hb h false) (omega arith) (omega arith)
sum-units true true a b c n m C ha hb h = exact _ true true true (n + m) n m (together a b c n m C ha hb h true) (omega arith) (omega arith)
sum-units false true a b c n m C ha hb h = by_order a b low high
  where
    k : m + n ≤ W * 2 ^ 24
    k = omega arith

    low : a < b → Summed (sum binary64 false a true b c) false n true m
    low g =
        let o : n ≤ m = order b a c m n C hb ha k (le_of_lt g) in
        rw (lt-ltb a b g) (exact _ true false true (m - n) n m (apart b a c m n C hb ha k true) (omega arith) (omega arith))

    high : b ≤ a → Summed (sum binary64 false a true b c) false n true m
    high g =
        let o : m ≤ n = order a b c n m C ha hb h g in
        rw (le-ltb a b g) (exact _ false false true (n - m) n m (apart a b c n m C ha hb h false) (omega arith) (omega arith))
sum-units true false a b c n m C ha hb h = by_order a b low high
  where
    k : m + n ≤ W * 2 ^ 24
    k = omega arith

    low : a < b → Summed (sum binary64 true a false b c) true n false m
    low g =
        let o : n ≤ m = order b a c m n C hb ha k (le_of_lt g) in
        rw (lt-ltb a b g) (exact _ false true false (m - n) n m (apart b a c m n C hb ha k false) (omega arith) (omega arith))

    -- a difference of 0 has no sign
    high : b ≤ a → Summed (sum binary64 true a false b c) true n false m
    high g =
        let o : m ≤ n = order a b c n m C ha hb h g in
        rw (le-ltb a b g)
        (by-test (ltb b a)
        (λ e. rw e (exact _ true true false (n - m) n m (apart a b c n m C ha hb h true) (omega arith) (omega arith)))
        (λ e. let p : n ≤ m = order b a c m n C hb ha k (ltb-false b a e) in rw e (exact _ false true false (n - m) n m (apart a b c n m C ha hb h false) (omega arith) (omega arith))))

pub add-units : (x y : Float) (s t : Bool) (n m : ℕ) → HasValue x s n W → HasValue y t m W → n + m ≤ W * 2 ^ 24 → Summed (add binary64 x y) s n t m
unfolding add
add-units nan y s t n m v w h = absurd v
add-units (inf q) y s t n m v w h = absurd v
add-units (fin q i e) nan s t n m v w h = absurd w
add-units (fin q i e) (inf r) s t n m v w h = absurd w
add-units (fin q i e) (fin r j d) s t n m v w h =
    rw (← v.0, ← w.0)
    (sum-units q r (i * up e * down d) (j * up d * down e) (down e * down d) n m (mul-pos (down_pos e) (down_pos d))
    (mul_right_comm (i * up e) (down d) W ∙ ap (λ (z : ℕ). z * down d) v.1 ∙ mul_assoc n (down e) (down d))
    (mul_right_comm (j * up d) (down e) W ∙ ap (λ (z : ℕ). z * down e) w.1 ∙ mul_assoc m (down d) (down e) ∙ ap (λ (z : ℕ). m * z) (mul_comm (down d) (down e)))
    h)

pub neg-units : (x : Float) (s : Bool) (n : ℕ) → HasValue x s n W → HasValue (neg x) (not s) n W
unfolding neg
neg-units nan s n v = v
neg-units (inf q) s n v = v
neg-units (fin q i e) s n v = (ap not v.0, v.1)

pub sub-neg : (x y : Float) → sub binary64 x y ≡ add binary64 x (neg y)
unfolding sub
sub-neg x y = refl
