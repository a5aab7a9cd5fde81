-- A row of an input that stands sample for sample, and what is laid over a stripe by it.
use Rattle.std.specs.Prelude.{Bool, ◌&&◌, false, true, List, ◌≡◌, ◌*◌, ◌+◌, ◌-◌, ◌<◌, ◌≤◌, ℕ, leb, ltb, get_or, length}
use Rattle.laws.specs.Pick.{pick}
use Rattle.image.specs.Format.{half_x, half_y, has_part, top_at}
use Rattle.image.specs.declared.format.Part.{Part}
use Rattle.image.specs.declared.format.Part.TheVariants.{Alpha, Cb, Cr, Luma}
use Rattle.image.specs.declared.format.PixelFormat.{PixelFormat}

-- the n samples from k on: what a function of the place and of what was there makes of each; the others are as they were
abbrev pub RowLaid : List ℕ → List ℕ → ℕ → ℕ → (ℕ → ℕ → ℕ) → Type 0
RowLaid old new k n f = (j : ℕ) → get_or new j 0 ≡ pick (leb k j && ltb j (k + n)) (f (j - k) (get_or old j 0)) (get_or old j 0)

-- a stripe has the n samples from k on, each at most top times top
pub record StripeHolds (top : ℕ) (acc : List ℕ) (k n : ℕ) : Type 0 where
  pub bounded : k + n ≤ length acc
  pub held : (i : ℕ) → i < n → get_or acc (k + i) 0 ≤ top * top

-- the bytes of a sample of a depth
abbrev pub bytes_at : ℕ → ℕ
bytes_at depth = pick (leb depth 8) 1 2

-- a plane has the n samples of row y from column x on
pub record RowInside (plane : List ℕ) (bytes stride x y n : ℕ) : Type 0 where
  pub inside : (i : ℕ) → i < n → y * stride + (x + i) * bytes + bytes ≤ length plane

-- a depth's top
pub record DepthTop (d top : ℕ) : Type 0 where
  pub low : 1 ≤ d
  pub high : d ≤ 16
  pub same : top ≡ top_at d

-- whether a plane is a colour's
unfoldable pub is_colour : Part → Bool
is_colour Luma = true
is_colour Cb = true
is_colour Cr = true
is_colour Alpha = false

-- a plane that a picture has, and does not halve
pub record Stands (f : PixelFormat) (p : Part) : Type 0 where
  pub has : has_part f p ≡ true
  pub across : half_x f p ≡ false
  pub down : half_y f p ≡ false
