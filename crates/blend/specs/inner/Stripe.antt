-- A stripe of samples, which is a run of them in a plane of the canvas, row after row, and an input's row over it.
use Rattle.std.specs.Prelude.{Bool, true, List, ◌≡◌, ◌%◌, ◌*◌, ◌+◌, ◌/◌, ◌<◌, ◌^◌, ◌≤◌, ℕ, get_or, length}
use Rattle.laws.specs.Pick.{pick}
use Rattle.image.specs.Format.{bytes_of, has_alpha}
use Rattle.records.specs.declared.record.Frame.{Frame}
use Rattle.planes.specs.Bytes.{decode, sample_in}
use Rattle.planes.specs.inner.Promoted.{PromotedFits, promoted_in}
use Rattle.derived.specs.declared.overlay.Placement.{Placement}
use Rattle.inputs.specs.Layers.{Layer}
use Rattle.blend.specs.Overlay.{base, over}
use Rattle.blend.specs.declared.over.Source.{Source}
use Rattle.blend.specs.declared.over.Stripe.{Stripe}

-- ---- a stripe of a plane

-- the place that the j-th sample of a stripe begins at
unfoldable pub across_at : Stripe → ℕ → ℕ
across_at r j = base r.half_across ((r.start + j) % r.columns)

unfoldable pub down_at : Stripe → ℕ → ℕ
down_at r j = base r.half_down ((r.start + j) / r.columns)

unfoldable pub layer_with : List ℕ → Frame → Placement → Bool → Layer
layer_with tray fr place premultiplied = record { pic = decode tray fr; placement = place; premultiplied = premultiplied }

pub record StripeFits (r : Stripe) : Type 0 where
  pub wide : 1 ≤ r.columns
  pub narrow : r.columns ≤ 2 ^ 30
  pub ends : r.start + r.count ≤ 2 ^ 30

-- what a plane carries is at most top times top: opacity too, which is at most top
abbrev pub Held : ℕ → List ℕ → ℕ → Type 0
Held top acc n = (j : ℕ) → j < n → get_or acc j 0 ≤ top * top

-- an input's alpha at a spot
unfoldable pub alpha_in : List ℕ → Source → ℕ → ℕ → ℕ
alpha_in d s x y = pick (has_alpha s.format) (sample_in d (bytes_of s.format) s.alpha_stride x y) s.top

-- n samples of an input's row, by so many places a sample, over those from k on
pub record OverRowFits (acc plane alpha : List ℕ) (s : Source) (k n x step y : ℕ) : Type 0 where
  pub positive : 1 ≤ s.top
  pub bounded : k + n ≤ length acc
  pub held : (i : ℕ) → i < n → get_or acc (k + i) 0 ≤ s.top * s.top
  pub small : x + n * step < 2 ^ 40
  pub inside : (i : ℕ) → i < n → PromotedFits plane s.format s.stride s.part (x + i * step) y
  pub alphas : (i : ℕ) → i < n → has_alpha s.format ≡ true → y * s.alpha_stride + (x + i * step) * bytes_of s.format + bytes_of s.format ≤ length alpha

unfoldable pub row_over : List ℕ → List ℕ → Source → ℕ → ℕ → ℕ → ℕ
row_over plane alpha s x y v = over s.top s.part (promoted_in plane s.format s.stride s.part x y) (alpha_in alpha s x y) s.premultiplied v
