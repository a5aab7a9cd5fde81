-- Laws of another depth, for every pair of depths: 0 stays 0, top becomes top, and the order is kept.
use mathlib.Core.Path.{◌∙◌, ◌≡◌, ap}
use mathlib.Core.HLevel.{is_prop→PathP}
use Rattle.std.specs.Coded.{le_prop}
use Prim.Native.Nat.{◌*◌, ◌+◌, ◌/◌, ◌<◌, ◌≤◌, min, ℕ}
use native.Mathlib.Nat.{add-zero, div-eq_of_lt, div-mul-le_self, le-div_iff_mul-le, le_trans, mul-add-div, mul-le-mul_right, zero-mul}
use native.Mathlib.Omega.{arith}
use Rattle.laws.proofs.Order.{by_equal}
use Rattle.image.proofs.FormLaws.{top-low}
use Rattle.image.specs.Format.{top_at}
use Rattle.sampling.proofs.FootLaws.{min-case, min-le, min-left}
use Rattle.sampling.proofs.PlaceLaws.{level-other, level-same}
use Rattle.sampling.specs.Depth.{level_of}
use Rattle.sampling.specs.Rounded.{rounded}
use Rattle.sampling.specs.declared.depth.Depths.{Depths}
use Rattle.sampling.specs.inner.Depths.{DepthsFit}

div_mono : (n m d : ℕ) → 0 < d → n ≤ m → n / d ≤ m / d
div_mono n m d z h = (le-div_iff_mul-le z).1 (le_trans (div-mul-le_self n d) h)

min-mono : (a b t : ℕ) → a ≤ b → min a t ≤ min b t
min-mono a b t h =
    let k = min-le a t in
    min-case b t (λ l e. omega (arith, e, k.0, h)) (λ l e. omega (arith, e, k.1))

small : (t d : ℕ) → 0 < d → rounded (0 * t) d ≡ 0
unfolding rounded
small t d z = rw (zero-mul t) (div-eq_of_lt (omega arith))

whole : (t d : ℕ) → 0 < d → rounded (d * t) d ≡ t
unfolding rounded
whole t d z = mul-add-div z t (d / 2) ∙ ap (λ (n : ℕ). t + n) (div-eq_of_lt (omega arith)) ∙ add-zero t

rises : (t d : ℕ) → 0 < d → (v w : ℕ) → v ≤ w → rounded (v * t) d ≤ rounded (w * t) d
unfolding rounded
rises t d z v w h = div_mono (v * t + d / 2) (w * t + d / 2) d z (omega (arith, mul-le-mul_right t h))

module _ (old new : ℕ) (low : 8 ≤ old) (high : old ≤ 16) where
  some : 0 < top_at old
  some = omega (arith, top-low old low)

  pub level-zero : level_of old new 0 ≡ 0
  level-zero =
      by_equal old new
      (λ e. rw (← e) (level-same old 0))
      (λ e. level-other old new 0 e ∙ ap (λ (n : ℕ). min n (top_at new)) (small (top_at new) (top_at old) some) ∙ min-left 0 (top_at new) (omega arith))

  pub level-top : level_of old new (top_at old) ≡ top_at new
  level-top =
      by_equal old new
      (λ e. rw (← e) (level-same old (top_at old)))
      (λ e. level-other old new (top_at old) e ∙ ap (λ (n : ℕ). min n (top_at new)) (whole (top_at new) (top_at old) some) ∙ min-left (top_at new) (top_at new) (omega arith))

  pub level-mono : (v w : ℕ) → v ≤ w → level_of old new v ≤ level_of old new w
  level-mono v w h =
      by_equal old new
      (λ e. rw (← e) (rw (level-same old v, level-same old w) h))
      (λ e. rw (level-other old new v e, level-other old new w e) (min-mono _ _ (top_at new) (rises (top_at new) (top_at old) some v w h)))

fit-prop : (old new : ℕ) → IsProp (DepthsFit old new)
fit-prop old new = hlevel (le_prop)

-- depths of the same numbers are the same
pub depths-same : (k m : Depths) → k.old ≡ m.old → k.new ≡ m.new → k ≡ m
depths-same k m a b = λ i. record { old = a i; new = b i; fit = is_prop→PathP (λ j. DepthsFit (a j) (b j)) (λ j. fit-prop (a j) (b j)) k.fit m.fit i }

-- a sample above the old top becomes the new one
pub level-above : (k : Depths) → (k.old ≡ k.new → ⊥) → (v : ℕ) → top_at k.old ≤ v → top_at k.new ≡ level_of k.old k.new v
level-above k h v l =
    let a = level-mono k.old k.new k.fit.old_low k.fit.old_high (top_at k.old) v l in
    let t = level-top k.old k.new k.fit.old_low k.fit.old_high in
    let o = level-other k.old k.new v h in
    omega (arith, a, t, o, (min-le (rounded (v * top_at k.new) (top_at k.old)) (top_at k.new)).1)
