-- A fill's samples and its alpha are at most top.
use Rattle.std.specs.Prelude.{Option}
use Rattle.std.proofs.Common.{ℕ, ◌*◌, ◌<◌, ◌≤◌, Bool, true, false, not, eqb, le_refl, mul-le-mul_right, arith}
use lib.Ieee.{Float, fin, inf, nan}
use Rattle.laws.proofs.Order.{mul-below, pick-both}
use Rattle.laws.proofs.Out.{Holds, refuse-holds}
use Rattle.laws.specs.Pick.{pick}
use Rattle.image.specs.Format.{is_depth, top_at}
use Rattle.fill.specs.Fill.{fill_alpha_of, fill_of, full_chroma_of, full_of, identity_of, nclx_of, studio_of, weighted_of, ycbcr_of}
use Rattle.fill.specs.Rounded.{whole_of}
use Rattle.fill.specs.declared.Nclx.{Nclx}
use Rattle.fill.specs.declared.Ycbcr.{Ycbcr}
use Rattle.fill.specs.declared.weights.Weights.{Weights}

-- a product of two 16-bit numbers
pub product_small : (a t : ℕ) → a < 65536 → t < 65536 → a * t ≤ 65535 * 65535
product_small a t h k = mul-below 65535 65535 a t (omega arith) (omega arith)

-- the fill's alpha
pub fill-alpha-top : (a d : ℕ) → a ≤ 65535 → fill_alpha_of a d ≤ top_at d
unfolding fill_alpha_of
fill-alpha-top a d h = let p : a * top_at d ≤ 65535 * top_at d = mul-le-mul_right (top_at d) h in omega arith

-- the step to a whole number
pub whole_top : (x : Float) (top : ℕ) → whole_of x top ≤ top
unfolding whole_of
whole_top nan top = omega arith
whole_top (inf true) top = omega arith
whole_top (inf false) top = le_refl top
whole_top (fin true m e) top = omega arith
whole_top (fin false m e) top = omega arith

pub record AtMost (s : Ycbcr) (top : ℕ) : Type 0 where
  pub y : s.y ≤ top
  pub cb : s.cb ≤ top
  pub cr : s.cr ≤ top

identity-top : (r g b : Float) (d : ℕ) → AtMost (identity_of r g b d) (top_at d)
unfolding identity_of full_of
identity-top r g b d = record { y = whole_top _ _; cb = whole_top _ _; cr = whole_top _ _ }

weighted-top : (w : Weights) (r g b : Float) (d : ℕ) (full : Bool) → AtMost (weighted_of w r g b d full) (top_at d)
unfolding weighted_of full_of full_chroma_of studio_of pick
weighted-top w r g b d true = record { y = whole_top _ _; cb = whole_top _ _; cr = whole_top _ _ }
weighted-top w r g b d false = record { y = whole_top _ _; cb = whole_top _ _; cr = whole_top _ _ }

-- every sample, whatever the input
pub fill-top : (red green blue depth : ℕ) (colour : Option Nclx) → Holds (λ s. AtMost s (top_at depth)) (fill_of red green blue depth colour)
unfolding fill_of ycbcr_of Holds
fill-top red green blue depth colour =
    refuse-holds _ (not (is_depth depth)) 6 _ (λ e. pick-both (λ (s : Ycbcr). AtMost s (top_at depth)) (eqb (nclx_of colour).matrix 0) _ _ (identity-top _ _ _ depth) (weighted-top _ _ _ _ depth _))
