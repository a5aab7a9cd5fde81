-- Laws of the samples that an input covers along one axis.
use mathlib.Core.Bool.{Bool, ◌&&◌, false, not, true}
use mathlib.Core.Path.{◌≡◌, ap, refl}
use Prim.Native.Nat.{◌*◌, ◌+◌, ◌-◌, ◌<◌, ◌≤◌, min, ℕ}
use native.Mathlib.Omega.{arith}
use Rattle.laws.proofs.Order.{apart}
use Rattle.laws.specs.Pick.{pick}
use Rattle.numbers.specs.declared.Offset.{Offset}
use Rattle.image.specs.Format.{cover, side_of}
use Rattle.opaque.specs.declared.axis.Stretch.{Stretch}
use Rattle.opaque.specs.inner.Window.{spot_of, stretch_of, window_of}

pub step_small : (h : Bool) (n : ℕ) → n * pick h 2 1 ≤ 2 * n
unfolding pick
step_small true n = omega arith
step_small false n = omega arith

pub step-some : (h : Bool) (n : ℕ) → n ≤ n * pick h 2 1
unfolding pick
step-some true n = omega arith
step-some false n = omega arith

-- the ends of a stretch
pub stretch-small : (h : Bool) (o : Offset) (n : ℕ) → ((stretch_of h o n).from ≤ o.ahead) × ((stretch_of h o n).to ≤ o.ahead + n)
unfolding stretch_of side_of
stretch-small true o n = (omega arith, omega arith)
stretch-small false o n = (omega arith, omega arith)

-- a window lies in its plane
pub window-within : (h : Bool) (o : Offset) (side n : ℕ) → (window_of h o side n).at + (window_of h o side n).count ≤ n
unfolding window_of
window-within h o side n = omega arith

-- the input's place at a sample of a window, and the canvas's
pub window-spot : (h : Bool) (o : Offset) (side n k : ℕ) → k < (window_of h o side n).count
    → (spot_of h (window_of h o side n) k + o.ahead ≡ ((window_of h o side n).at + k) * pick h 2 1 + o.behind) × (spot_of h (window_of h o side n) k < side)
unfolding window_of stretch_of side_of pick
window-spot true o side n k l = (omega arith, omega arith)
window-spot false o side n k l = (omega arith, omega arith)

-- where the canvas is not halved, a halved input is walked place by place
pub spot-cover : (hc hi : Bool) (x i : ℕ) → (hc ≡ true → hi ≡ true) → cover (hi && not hc) (cover hc x + i) ≡ cover hi (x + i * pick hc 2 1)
unfolding cover pick
spot-cover true true x i f = omega arith
spot-cover true false x i f = absurd (apart (ap (λ (b : Bool). pick b 1 0) (f refl)))
spot-cover false true x i f = omega arith
spot-cover false false x i f = omega arith

pub cover-le : (h : Bool) (x : ℕ) → cover h x ≤ x
unfolding cover
cover-le true x = omega arith
cover-le false x = omega arith

-- the numbers as they are worked out
pub window-worked : (h : Bool) (o : Offset) (side n at end count spot st : ℕ) (s : Stretch) → s ≡ stretch_of h o side → at ≡ min s.from n → end ≡ min s.to n → count ≡ end - at → st ≡ pick h 2 1 → spot ≡ at * st + o.behind - o.ahead
    → record { at = at; count = count; spot = spot } ≡ window_of h o side n
unfolding window_of
window-worked h o side n at end count spot st s e1 e2 e3 e4 e5 e6 = rw (e6, e4, e3, e2, e5, e1) refl
