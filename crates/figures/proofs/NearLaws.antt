-- A double that lies near a fraction of whole numbers, and each operation on such doubles. Distances are counted in units of
-- binary64's smallest value, of which W make 1; one operation adds E of them.
use mathlib.Core.Bool.{Bool, false, true}
use mathlib.Core.Path.{◌∙◌, ◌≡◌, ap, sym}
use Prim.Native.Nat.{◌*◌, ◌+◌, ◌<◌, ◌^◌, ◌≤◌, ℕ}
use native.Mathlib.Nat.{add-mul, add-zero, le_of_eq, le_of_mul-le-mul_right, le_refl, le_trans, mul_comm, mul-le-mul, mul-le-mul_left, mul-le-mul_right, mul-one, mul_right_comm, one-mul}
use native.Mathlib.Omega.{arith}
use lib.Ieee.{Float, add, binary64, div, down, fin, inf, mul, nan, neg, sub, up}
use lib.Ieee.Back.{round_whole}
use lib.Ieee.Exact.{HasValue}
use Rattle.figures.proofs.Rounding.{E, Rounded, W, W-is, W-pos, add-units, div-units, less, mul_left, mul_right, neg-units, plus, rounded, sub-neg}
use Rattle.fill.specs.Rounded.{lit}

-- p - q units lie within f of (a - b) / Q
pub record Close (p q a b Q f : ℕ) : Type 0 where
  pub hi : p * Q + b * W ≤ q * Q + a * W + Q * f
  pub lo : q * Q + a * W ≤ p * Q + b * W + Q * f

-- x lies within f units of (a - b) / Q, and is at most k in size
pub record Near (x : Float) (a b Q f k : ℕ) : Type 0 where
  pub s : Bool
  pub n : ℕ
  pub val : HasValue x s n W
  pub close : Close (plus s n) (less s n) a b Q f
  pub size : n ≤ k * W

-- x is not below zero, lies within f units of a / Q, and is at most k
pub record NearPos (x : Float) (a Q f k : ℕ) : Type 0 where
  pub n : ℕ
  pub val : HasValue x false n W
  pub close : Close n 0 a 0 Q f
  pub size : n ≤ k * W

pub signed : {x : Float} {a Q f k : ℕ} → NearPos x a Q f k → Near x a 0 Q f k
signed r = record { s = false; n = r.n; val = r.val; close = r.close; size = r.size }

-- a fraction above its distance
pub near-pos : {x : Float} {a b Q f k : ℕ} (c : ℕ) → c + b ≡ a → Q * f < c * W → Near x a b Q f k → NearPos x c Q f k
near-pos {x = x} {a = a} {b = b} {Q = Q} {f = f} {k = k} c e g r = go r.s r.n r.val r.close r.size
  where
    d : a * W ≡ c * W + b * W
    d = rw (← e) (add-mul c b W)

    go : (s : Bool) (n : ℕ) → HasValue x s n W → Close (plus s n) (less s n) a b Q f → n ≤ k * W → NearPos x c Q f k
    go false n v h z = let q = d in record { n = n; val = v; close = omega arith; size = z }
    go true n v h z = absurd (let q = d in omega arith)

-- ---- numbers and weights

E-le : E ≤ W
E-le = omega (arith, W-is)

-- a whole number is itself
pub near-whole : (m : ℕ) → m ≤ 2 ^ 53 → NearPos (lit m 1) m 1 0 m
near-whole m h = record { n = m * W; val = scaled (lit m 1) (round_whole binary64 false m h); close = omega arith; size = le_refl (m * W) }
  where
    scaled : (x : Float) → HasValue x false m 1 → HasValue x false (m * W) W
    scaled nan v = v
    scaled (inf t) v = v
    scaled (fin t i e) v = (v.0, ap (λ (z : ℕ). z * W) (sym (mul-one (i * up e)) ∙ v.1) ∙ mul_right_comm m (down e) W)

-- a fraction of 1 at most
pub near-lit : (a c : ℕ) → 0 < c → a ≤ c → NearPos (lit a c) a c E 2
near-lit a c C h =
    let r = rounded false a c C (omega arith) in
    let z : r.n * c ≤ 2 * W * c = omega (arith, r.hi, mul-le-mul_right W h, mul-le-mul_left c E-le) in
    record { n = r.n; val = r.val; close = omega (arith, r.hi, r.lo); size = le_of_mul-le-mul_right z C }

-- the same fraction over a multiple of its denominator
pub near-over : {x : Float} {a P f k : ℕ} (Q j : ℕ) → Q ≡ P * j → Near x a 0 P f k → Near x (a * j) 0 Q f k
near-over Q j e r = rw e (record { s = r.s; n = r.n; val = r.val; close = omega (arith, mul-le-mul_right j r.close.hi, mul-le-mul_right j r.close.lo); size = r.size })

-- a larger distance and a larger size
pub near-more : {x : Float} {a b Q f k : ℕ} (g j : ℕ) → f ≤ g → k ≤ j → Near x a b Q f k → Near x a b Q g j
near-more {Q = Q} g j h m r =
    record { s = r.s; n = r.n; val = r.val; close = omega (arith, r.close, mul-le-mul_left Q h); size = omega (arith, r.size, mul-le-mul_right W m) }

-- ---- sums and differences

pub near_add : {x y : Float} {a b c d Q f g k j : ℕ} → k + j ≤ 2 ^ 24 → Near x a b Q f k → Near y c d Q g j → Near (add binary64 x y) (a + c) (b + d) Q (f + g + E) (k + j + 1)
near_add {x = x} {y = y} {Q = Q} h r q =
    let u = add-units x y r.s q.s r.n q.n r.val q.val (omega (arith, r.size, q.size, mul-le-mul_right W h)) in
    record {
      s = u.u;
      n = u.k;
      val = u.val;
      close = omega (arith, mul-le-mul_right Q u.hi, mul-le-mul_right Q u.lo, r.close, q.close);
      size = omega (arith, u.size, r.size, q.size, E-le);
    }

pub near-neg : {x : Float} {a b Q f k : ℕ} → Near x a b Q f k → Near (neg x) b a Q f k
near-neg {x = x} {a = a} {b = b} {Q = Q} {f = f} {k = k} r = go r.s r.n r.val r.close r.size
  where
    go : (s : Bool) (n : ℕ) → HasValue x s n W → Close (plus s n) (less s n) a b Q f → n ≤ k * W → Near (neg x) b a Q f k
    go false n v h z = record { s = true; n = n; val = neg-units x false n v; close = omega arith; size = z }
    go true n v h z = record { s = false; n = n; val = neg-units x true n v; close = omega arith; size = z }

pub near_sub : {x y : Float} {a b c d Q f g k j : ℕ} → k + j ≤ 2 ^ 24 → Near x a b Q f k → Near y c d Q g j → Near (sub binary64 x y) (a + d) (b + c) Q (f + g + E) (k + j + 1)
near_sub {x = x} {y = y} h r q = rw (sub-neg x y) (near_add h r (near-neg q))

-- ---- products and quotients

swap : {p q a b Q f : ℕ} → Close p q a b Q f → Close q p b a Q f
swap r = record { hi = r.lo; lo = r.hi }

-- what holds of a count holds of it with a sign
carried : (F : ℕ → ℕ) {n m Q f P g : ℕ} → ((a b : ℕ) → Close n 0 a b Q f → Close m 0 (F a) (F b) P g) → (s : Bool) (a b : ℕ) → Close (plus s n) (less s n) a b Q f → Close (plus s m) (less s m) (F a) (F b) P g
carried F h false a b r = h a b r
carried F h true a b r = swap (h b a (swap r))

-- i / W is near c / P, of C at most, n / W, of X at most, near (a - b) / Q, and m / W is their rounded product
module _ (i c P d n Q f m C X : ℕ) (I : Close i 0 c 0 P d) (hc : c ≤ P * C) (h_x : n ≤ X * W) (hm : m * W ≤ i * n + W * E) (lm : i * n ≤ m * W + W * E) where
  product-up : m * P ≤ c * n + P * (d * X + E)
  product-up =
      let z : m * P * W ≤ (c * n + P * (d * X + E)) * W = omega (arith, mul-le-mul_right P hm, mul-le-mul_right n I.hi, mul-le-mul_left (P * d) h_x) in
      le_of_mul-le-mul_right z W-pos

  product-down : c * n ≤ m * P + P * (d * X + E)
  product-down =
      let z : c * n * W ≤ (m * P + P * (d * X + E)) * W = omega (arith, mul-le-mul_right P lm, mul-le-mul_right n I.lo, mul-le-mul_left (P * d) h_x) in
      le_of_mul-le-mul_right z W-pos

  product-close : (a b : ℕ) → Close n 0 a b Q f → Close m 0 (c * a) (c * b) (P * Q) (d * X + E + C * f)
  product-close a b N =
      record {
        hi = omega (arith, mul-le-mul_right Q product-up, mul-le-mul_left c N.hi, mul-le-mul_right (Q * f) hc);
        lo = omega (arith, mul-le-mul_right Q product-down, mul-le-mul_left c N.lo, mul-le-mul_right (Q * f) hc);
      }

-- i / W is near c / P, of 1 at least, n / W near (a - b) / (Q P), and m / W, of M at most, is the rounded quotient
module _ (i c P d n Q f m M : ℕ) (I : Close i 0 c 0 P d) (ge : P ≤ c) (h_m : m ≤ M * W) (hm : m * i ≤ n * W + i * E) (lm : n * W ≤ m * i + i * E) where
  quotient-up : m * c ≤ n * P + (c * E + P * (d * (M + 1)))
  quotient-up =
      let z : m * c * W ≤ (n * P + (c * E + P * (d * (M + 1)))) * W = omega (arith, mul-le-mul_left m I.lo, mul-le-mul_right P hm, mul-le-mul_right E I.hi, mul-le-mul_left (P * d) E-le, mul-le-mul_left (P * d) h_m) in
      le_of_mul-le-mul_right z W-pos

  quotient-down : n * P ≤ m * c + (c * E + P * (d * (M + 1)))
  quotient-down =
      let z : n * P * W ≤ (m * c + (c * E + P * (d * (M + 1)))) * W = omega (arith, mul-le-mul_left m I.hi, mul-le-mul_right P lm, mul-le-mul_right E I.hi, mul-le-mul_left (P * d) E-le, mul-le-mul_left (P * d) h_m) in
      le_of_mul-le-mul_right z W-pos

  quotient-close : (a b : ℕ) → Close n 0 a b (Q * P) f → Close m 0 a b (Q * c) (f + E + d * (M + 1))
  quotient-close a b N =
      record {
        hi = omega (arith, mul-le-mul_right Q quotient-up, N.hi, mul-le-mul_left (Q * (f + d * (M + 1))) ge);
        lo = omega (arith, mul-le-mul_right Q quotient-down, N.lo, mul-le-mul_left (Q * (f + d * (M + 1))) ge);
      }

module _ {k x : Float} {c P d K a b Q f X : ℕ} (C : ℕ) (hc : c ≤ P * C) (h : K * X ≤ 2 ^ 24) (r : NearPos k c P d K) (q : Near x a b Q f X) where
  most : r.n * q.n ≤ K * X * (W * W)
  most = omega (arith, mul-le-mul r.size q.size)

  fits : r.n * q.n ≤ W * W * 2 ^ 24
  fits = omega (arith, most, mul-le-mul_right (W * W) h)

  product : (z : Float) → Rounded z q.s (r.n * q.n) (W * W) → Near z (c * a) (c * b) (P * Q) (d * X + E + C * f) (K * X + 1)
  product z p =
      let up : p.n * W * W ≤ (r.n * q.n + W * E) * W = omega (arith, p.hi) in
      let down : r.n * q.n * W ≤ (p.n * W + W * E) * W = omega (arith, p.lo) in
      let hm = le_of_mul-le-mul_right up W-pos in
      let lm = le_of_mul-le-mul_right down W-pos in
      let size : p.n * W ≤ (K * X + 1) * W * W = omega (arith, most, hm, mul-le-mul_left W E-le) in
      record {
        s = q.s;
        n = p.n;
        val = p.val;
        close = carried (λ z. c * z) (product-close r.n c P d q.n Q f p.n C X r.close hc q.size hm lm) q.s a b q.close;
        size = le_of_mul-le-mul_right size W-pos;
      }

  pub near_mul : Near (mul binary64 k x) (c * a) (c * b) (P * Q) (d * X + E + C * f) (K * X + 1)
  near_mul = product (mul binary64 k x) (mul_left k x q.s r.n q.n r.val q.val fits)

  pub near-mul-right : Near (mul binary64 x k) (c * a) (c * b) (P * Q) (d * X + E + C * f) (K * X + 1)
  near-mul-right =
      let e : r.n * q.n ≡ q.n * r.n = mul_comm r.n q.n in
      product (mul binary64 x k) (rw e (mul_right x k q.s q.n r.n q.val r.val (rw e at fits)))

module _ {x k : Float} {a b P f X c d K : ℕ} (Q M : ℕ) (ge : P ≤ c) (h : M ≤ 2 ^ 24) (q : Near x a b (Q * P) f X) (r : NearPos k c P d K) (some : 0 < r.n) (h_m : q.n ≤ M * r.n) where
  pub near_div : Near (div binary64 x k) a b (Q * c) (f + E + d * (M + 1 + 1)) (M + 1)
  near_div =
      let p = div-units x k q.s q.n r.n q.val r.val some (le_trans h_m (omega (arith, mul-le-mul_right r.n h))) in
      let z : p.n * r.n ≤ (M + 1) * W * r.n = omega (arith, p.hi, mul-le-mul_right W h_m, mul-le-mul_right r.n E-le) in
      let m = le_of_mul-le-mul_right z some in
      record {
        s = q.s;
        n = p.n;
        val = p.val;
        close = carried (λ z. z) (quotient-close r.n c P d q.n Q f p.n (M + 1) r.close ge m p.hi p.lo) q.s a b q.close;
        size = m;
      }

-- ---- by a whole number

-- the result of a product, over the fraction's own denominator
own : {x : Float} {a b Q k : ℕ} (M X f : ℕ) → Near x a b (1 * Q) (0 * X + E + M * f) k → Near x a b Q (M * f + E) k
own {Q = Q} M X f r =
    let e : 0 * X + E + M * f ≡ M * f + E = omega arith in
    rw (e, one-mul Q) at r

module _ {x : Float} {a b Q f k : ℕ} (M : ℕ) (h : M ≤ 2 ^ 53) (g : M * k ≤ 2 ^ 24) (r : Near x a b Q f k) where
  pub near_times : Near (mul binary64 (lit M 1) x) (M * a) (M * b) Q (M * f + E) (M * k + 1)
  near_times = own M k f (near_mul M (le_of_eq (sym (one-mul M))) g (near-whole M h) r)

  pub near-times-right : Near (mul binary64 x (lit M 1)) (M * a) (M * b) Q (M * f + E) (M * k + 1)
  near-times-right = own M k f (near-mul-right M (le_of_eq (sym (one-mul M))) g (near-whole M h) r)

pub near-raise : {x : Float} {a b Q f k : ℕ} (o : ℕ) → o ≤ 2 ^ 53 → k + o ≤ 2 ^ 24 → Near x a b Q f k → Near (add binary64 x (lit o 1)) (a + o * Q) b Q (f + E) (k + o + 1)
near-raise {b = b} {Q = Q} {f = f} o h g r =
    let e : f + 0 + E ≡ f + E = omega arith in
    rw (e, add-zero b) at (near_add g r (near-over Q Q (sym (one-mul Q)) (signed (near-whole o h))))
