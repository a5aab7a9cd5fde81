-- A sample of an opaque canvas: no fill, and no cap, as what a stripe holds is at most top times top.
use mathlib.Core.Path.{◌∙◌, ◌≡◌}
use Prim.Native.Nat.{◌*◌, ◌+◌, ◌/◌, ◌≤◌, ℕ}
use native.Mathlib.Omega.{arith}
use borrow.Author.Tests.{ne_eqb}
use Rattle.laws.proofs.Order.{pick-false}
use Rattle.blend.proofs.OverLaws.{round-top}
use Rattle.blend.proofs.ReachLaws.{row-mono}
use Rattle.blend.specs.Overlay.{unpremultiply}

module _ (top v : ℕ) (any : 1 ≤ top) (low : v ≤ top * top) where
  pub solid-low : (v + top / 2) / top ≤ top
  solid-low = omega (arith, row-mono (v + top / 2) (top * top + top / 2) top any (omega arith), round-top top top any)

  pub solid-sample : unpremultiply top 0 v top ≡ (v + top / 2) / top
  unfolding unpremultiply
  solid-sample = pick-false _ _ _ (ne_eqb top 0 (omega arith)) ∙ omega (arith, solid-low)
