-- A row stored sample by sample, and the rows of a raster stored one by one.
use mathlib.Core.List.{List, ◌++◌}
use mathlib.Core.Path.{◌∙◌, ◌≡◌, ap, sym}
use Prim.Native.Nat.{◌*◌, ◌+◌, ◌<◌, ◌≤◌, ℕ}
use lib.ListN.{length}
use Rattle.laws.proofs.Span.{span-step}
use Rattle.laws.proofs.Writing.{Writing, writing-as, writing-fits, writing-run}
use Rattle.laws.specs.Puts.{puts}
use Rattle.laws.specs.Span.{span}
use Rattle.planes.proofs.ByteLaws.{length-sample_bytes}
use Rattle.planes.specs.Bytes.{sample_bytes}
use Rattle.sampling.proofs.RedrawLaws.{length-raster_row}
use Rattle.sampling.specs.declared.raster.Raster.{Raster}
use Rattle.sampling.specs.inner.Redraw.{RasterFits, raster_row, row_of}

-- ---- a row, sample by sample

module _ (b : ℕ) (f : ℕ → ℕ) (columns : ℕ) (some : 1 ≤ b) (few : b ≤ 2) {d₀ all d : List ℕ} {i₀ i x : ℕ} (w : Writing d₀ i₀ all d i (span (λ u. sample_bytes b (f u)) x columns)) (l : x < columns) where
  long-item : length (sample_bytes b (f x)) ≡ b
  long-item = length-sample_bytes b (f x) some few

  parted : Writing d₀ i₀ all d i (sample_bytes b (f x) ++ span (λ u. sample_bytes b (f u)) (x + 1) columns)
  parted = writing-as w (span-step (λ u. sample_bytes b (f u)) x columns l)

  pub samples-room : i + b ≤ length d
  samples-room = rw (← long-item) (writing-fits (sample_bytes b (f x)) _ parted)

  pub samples-more : (v i' : ℕ) (d' : List ℕ) → i' ≡ i + b → d' ≡ puts d i (sample_bytes b v) → v ≡ f x → Writing d₀ i₀ all d' i' (span (λ u. sample_bytes b (f u)) (x + 1) columns)
  samples-more v i' d' e q z = writing-run (sample_bytes b (f x)) parted (e ∙ ap (λ (k : ℕ). i + k) (sym long-item)) (q ∙ ap (λ (k : ℕ). puts d i (sample_bytes b k)) z)

-- ---- the rows

module _ (d : List ℕ) (r : Raster) (f : RasterFits d r) {d₀ all e : List ℕ} {i₀ i y : ℕ}
    (w : Writing d₀ i₀ all e i (span (λ v. raster_row d r (row_of r.rule r.down v)) y r.down.to)) (l : y < r.down.to) where
  abbrev row_y : List ℕ
  row_y = raster_row d r (row_of r.rule r.down y)

  long-row : length row_y ≡ r.across.to * r.to_bytes
  long-row = length-raster_row d r _ f

  parted-rows : Writing d₀ i₀ all e i (row_y ++ span (λ v. raster_row d r (row_of r.rule r.down v)) (y + 1) r.down.to)
  parted-rows = writing-as w (span-step (λ v. raster_row d r (row_of r.rule r.down v)) y r.down.to l)

  pub raster-room : i + r.across.to * r.to_bytes ≤ length e
  raster-room = rw (← long-row) (writing-fits row_y _ parted-rows)

  pub raster-more : (bs : List ℕ) (i' : ℕ) (e' : List ℕ) → i' ≡ i + r.across.to * r.to_bytes → e' ≡ puts e i bs → bs ≡ row_y
      → Writing d₀ i₀ all e' i' (span (λ v. raster_row d r (row_of r.rule r.down v)) (y + 1) r.down.to)
  raster-more bs i' e' p q z = writing-run row_y parted-rows (p ∙ ap (λ (k : ℕ). i + k) (sym long-row)) (q ∙ ap (puts e i) z)
