-- Laws of formats: the bounds of tops, sides and rows.
use mathlib.Core.Bool.{Bool, ◌||◌, false, true}
use mathlib.Core.Path.{◌≡◌, ap}
use Prim.Native.Nat.{◌%◌, ◌*◌, ◌<◌, ◌^◌, ◌≤◌, ℕ}
use native.Mathlib.Nat.{le_trans}
use native.Mathlib.Omega.{arith}
use lib.Dec.{eqb, leb}
use lib.Pow.{pow_mono, pow_pos}
use Rattle.laws.proofs.Order.{by-test, mul-below}
use Rattle.laws.specs.Pick.{pick}
use Rattle.image.specs.Format.{bytes_of, columns_of, cover, half_x, half_y, halved, halves_x, halves_y, row_size, rows_of, side_of, top_at, top_of}
use Rattle.image.specs.Sound.{FormSound}
use Rattle.image.specs.declared.format.Form.{Form}
use Rattle.image.specs.declared.format.Part.{Part}
use Rattle.image.specs.declared.format.PixelFormat.{PixelFormat}

-- a power of 2, and what a 32-bit shift makes of it
pub shift_small : (n d : ℕ) → d ≤ n → n ≤ 16 → (1 ≤ 2 ^ d) × (2 ^ d ≤ 2 ^ n) × (1 * 2 ^ d % 4294967296 ≡ 2 ^ d)
shift_small n d h l =
    let a : 1 ≤ 2 ^ d = pow_pos d in
    let b : 2 ^ d ≤ 2 ^ 16 = pow_mono (le_trans h l) in
    (a, pow_mono h, omega arith)

-- the bounds of a top
pub top-high : (depth : ℕ) → depth ≤ 16 → top_at depth < 2 ^ 16
top-high depth h = omega (arith, shift_small 16 depth h (omega arith))

pub top-low : (depth : ℕ) → 8 ≤ depth → 255 ≤ top_at depth
top-low depth h = let k : 2 ^ 8 ≤ 2 ^ depth = pow_mono h in omega arith

pub top-some : (f : PixelFormat) → 8 ≤ f.depth → 1 ≤ top_of f
unfolding top_of
top-some f h = omega (arith, top-low f.depth h)

pub bytes-cases {ℓ} : {X : Type ℓ} (f : PixelFormat) → (bytes_of f ≡ 1 → X) → (bytes_of f ≡ 2 → X) → X
unfolding bytes_of pick
bytes-cases f a b = by-test (leb f.depth 8) (λ e. a (rw e)) (λ e. b (rw e))

pub bytes-few : (f : PixelFormat) → (1 ≤ bytes_of f) × (bytes_of f ≤ 2)
bytes-few f = bytes-cases f (λ e. omega arith) (λ e. omega arith)

-- ---- along one side

pub side-le : (h : Bool) (n : ℕ) → side_of h n ≤ n
unfolding side_of
side-le true n = omega arith
side-le false n = omega arith

pub side-some : (h : Bool) (n : ℕ) → 1 ≤ n → 1 ≤ side_of h n
unfolding side_of
side-some true n l = omega arith
side-some false n l = l

-- the sample that covers a place is there
pub cover-in : (h : Bool) (x n : ℕ) → x < n → cover h x < side_of h n
unfolding cover side_of
cover-in true x n l = omega arith
cover-in false x n l = l

-- ---- a form's planes

module _ (m : Form) (ok : FormSound m) where
  pub width-le : m.width ≤ 2 ^ 30
  width-le = omega (arith, mul-below m.width m.height m.width 1 (omega arith) ok.tall, ok.area)

  pub height-le : m.height ≤ 2 ^ 30
  height-le = omega (arith, mul-below m.width m.height 1 m.height ok.wide (omega arith), ok.area)

  pub columns-le : (p : Part) → columns_of m p ≤ m.width
  unfolding columns_of
  columns-le p = side-le (half_x m.format p) m.width

  pub rows-le : (p : Part) → rows_of m p ≤ m.height
  unfolding rows_of
  rows-le p = side-le (half_y m.format p) m.height

  pub columns-some : (p : Part) → 1 ≤ columns_of m p
  unfolding columns_of
  columns-some p = side-some (half_x m.format p) m.width ok.wide

  pub rows-some : (p : Part) → 1 ≤ rows_of m p
  unfolding rows_of
  rows-some p = side-some (half_y m.format p) m.height ok.tall

  pub row-le : (p : Part) → row_size m p ≤ 2 ^ 31
  unfolding row_size
  row-le p = omega (arith, mul-below m.width 2 (columns_of m p) (bytes_of m.format) (columns-le p) (bytes-few m.format).1, width-le)

  pub size-le : (p : Part) → rows_of m p * row_size m p ≤ 2 ^ 31
  unfolding row_size
  size-le p =
      let a = mul-below m.width 2 (columns_of m p) (bytes_of m.format) (columns-le p) (bytes-few m.format).1 in
      let b = mul-below m.height (m.width * 2) (rows_of m p) (columns_of m p * bytes_of m.format) (rows-le p) a in
      omega (arith, ok.area)

-- formats of one chroma halve the same axes
pub like-halved : (f g : PixelFormat) (p : Part) → g.chroma ≡ f.chroma → (half_x g p ≡ half_x f p) × (half_y g p ≡ half_y f p)
unfolding halves_x halves_y
like-halved f g p e = (ap (λ (c : ℕ). halved (eqb c 1 || eqb c 2) p) e, ap (λ (c : ℕ). halved (eqb c 1) p) e)
