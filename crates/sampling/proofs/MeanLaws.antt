-- A mean over footprints is a mean: the weights of a footprint sum to its length, and a plane of one value keeps it.
use mathlib.Core.Path.{◌∙◌, ◌≡◌, ap}
use Prim.Native.Nat.{◌*◌, ◌+◌, ◌-◌, ◌/◌, ◌<◌, ◌≤◌, suc, zero, ℕ}
use native.Mathlib.Nat.{add-mul, div-lt_iff_lt-mul, le-div_iff_mul-le, mul_assoc, mul_comm}
use native.Mathlib.Omega.{arith}
use Rattle.laws.proofs.Order.{mul-below}
use Rattle.image.proofs.FormLaws.{columns-some, rows-some}
use Rattle.image.specs.Format.{columns_of, rows_of}
use Rattle.planes.specs.Picture.{Pic}
use Rattle.image.specs.Sound.{FormSound}
use Rattle.image.specs.declared.format.Part.{Part}
use Rattle.sampling.proofs.AgreeLaws.{mean-cong}
use Rattle.sampling.proofs.FootLaws.{before, first_past, foot-in, min-left, min-le, weight-step}
use Rattle.sampling.specs.Area.{area, area_mean, first_of, foot_of, past_of, sum, weighed, weight_of}
use Rattle.sampling.specs.Rounded.{rounded}
use Rattle.sampling.specs.declared.area.Foot.{Foot}

-- ---- the weights of a footprint

before-first : (f : Foot) → before f (first_of f) ≡ 0
unfolding before first_of
before-first f = omega (arith, (min-le f.end (256 * (f.start / 256))).1)

before-past : (f : Foot) → before f (past_of f) ≡ f.end - f.start
unfolding before past_of
before-past f = ap (λ (n : ℕ). n - f.start) (min-left f.end (256 * ((f.end + 255) / 256)) (omega arith))

-- what stands before a sample, and the samples from it on
ahead : (f : Foot) (c : ℕ) → f.start < f.end → (n j : ℕ) → first_of f ≤ j → j + n ≡ past_of f → before f j * c + sum (λ i. c * weight_of f i) j n ≡ before f (past_of f) * c
unfolding sum
ahead f c some zero j low e = let q : j ≡ past_of f = omega arith in rw q (omega arith)
ahead f c some (suc n) j low e =
    let s = weight-step f j some low (omega arith) in
    let m = add-mul (before f j) (weight_of f j) c in
    let r = ahead f c some n (j + 1) (omega arith) (omega arith) in
    let k : (before f j + weight_of f j) * c ≡ before f (j + 1) * c = ap (λ (a : ℕ). a * c) s in
    omega (arith, m, k, r, mul_comm c (weight_of f j))

pub weighed-constant : (f : Foot) (c : ℕ) → f.start < f.end → weighed f (λ j. c) ≡ c * (f.end - f.start)
unfolding weighed
weighed-constant f c some =
    let l = first_past f some in
    let a = ahead f c some (past_of f - first_of f) (first_of f) (omega arith) (omega arith) in
    let z : before f (first_of f) * c ≡ 0 * c = ap (λ (n : ℕ). n * c) (before-first f) in
    let w : before f (past_of f) * c ≡ (f.end - f.start) * c = ap (λ (n : ℕ). n * c) (before-past f) in
    omega (arith, a, z, w, mul_comm c (f.end - f.start))

-- the weights of the footprint that an output sample k of `to` has in an axis of `from` samples sum to the length that it claims
pub weights-whole : (from to k : ℕ) → 1 ≤ from → k < to → weighed (foot_of from to k) (λ j. 1) ≡ (foot_of from to k).end - (foot_of from to k).start
weights-whole from to k l h = let w = weighed-constant (foot_of from to k) 1 (foot-in from to k l h).positive in omega (arith, w)

-- ---- the mean of one value

rounded-times : (c d : ℕ) → 1 ≤ d → rounded (c * d) d ≡ c
unfolding rounded
rounded-times c d l =
    let a : c ≤ (c * d + d / 2) / d = (le-div_iff_mul-le l).1 (omega arith) in
    let m : (c + 1) * d ≡ c * d + 1 * d = add-mul c 1 d in
    let b : (c * d + d / 2) / d < c + 1 = (div-lt_iff_lt-mul l).1 (omega (arith, m)) in
    omega arith

some-area : (a b : ℕ) → 1 ≤ a → 1 ≤ b → 1 ≤ a * b
some-area a b l h = mul-below a b 1 1 l h

mean-constant : (across down : Foot) (c : ℕ) → across.start < across.end → down.start < down.end → area_mean across down (λ x y. c) ≡ c
unfolding area_mean
mean-constant across down c a b =
    let w = across.end - across.start in
    let t = down.end - down.start in
    let e : weighed down (λ y. weighed across (λ x. c)) ≡ c * (w * t) =
    ap (λ (v : ℕ). weighed down (λ y. v)) (weighed-constant across c a) ∙ weighed-constant down (c * w) b ∙ mul_assoc c w t in
    ap (λ (n : ℕ). rounded n (w * t)) e ∙ rounded-times c (w * t) (some-area w t (omega arith) (omega arith))

-- a plane that holds one value holds it at every size
pub area-constant : (P : Pic) (w h c : ℕ) (p : Part) → FormSound P.form → ((x y : ℕ) → x < columns_of P.form p → y < rows_of P.form p → P.at p x y ≡ c)
    → (x y : ℕ) → x < columns_of (area P w h).form p → y < rows_of (area P w h).form p → (area P w h).at p x y ≡ c
unfolding area
area-constant P w h c p ok one x y i j =
    let a = foot-in _ _ x (columns-some P.form ok p) i in
    let b = foot-in _ _ y (rows-some P.form ok p) j in
    mean-cong _ _ (columns_of P.form p) (rows_of P.form p) (P.at p) (λ u v. c) a b one ∙ mean-constant _ _ c a.positive b.positive
