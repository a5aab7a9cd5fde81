-- A fill's samples (document 01, Fill; `fill_to_ycbcr`; H.273), over doubles whose operations round once.
use Rattle.std.specs.Prelude.{Ok, Option, None, Some}
use Rattle.std.specs.Prelude.{ℕ, ◌+◌, ◌-◌, ◌*◌, ◌/◌, ◌^◌, Bool, true, not, ◌==◌, Float}
use Rattle.laws.specs.Out.{Out, refuse}
use Rattle.laws.specs.Pick.{pick}
use Rattle.image.specs.Format.{is_depth, middle_at, top_at}
use Rattle.fill.specs.Rounded.{add, div, lit, mul, num, sub, whole_of}
use Rattle.fill.specs.declared.Nclx.{Nclx}
use Rattle.fill.specs.declared.Ycbcr.{Ycbcr}
use Rattle.fill.specs.declared.weights.Weights.{Weights}

-- without nclx: matrix 6, full range
unfoldable pub nclx_of : Option Nclx → Nclx
nclx_of None = record { matrix = 6; full_range = true }
nclx_of (Some n) = n

-- ---- weights

-- the weights of red and blue in ten-thousandths (H.273, Table 4): matrix 1, 4, 7, 9 and 10; 6 and any other
unfoldable pub table_of : ℕ → ℕ × ℕ
table_of m =
    pick (m == 1) (2126, 722)
    (pick (m == 4) (3000, 1100)
    (pick (m == 7) (2120, 870)
    (pick (m == 9) (2627, 593)
    (pick (m == 10) (2627, 593) (2990, 1140)))))

abbrev pub red_of : ℕ → ℕ
red_of m = (table_of m).0

abbrev pub blue_of : ℕ → ℕ
blue_of m = (table_of m).1

-- two weights, and the third worked from them
abbrev pub weights_from : Float → Float → Weights
weights_from kr kb = record { kr = kr; kb = kb; kg = sub (sub (lit 1 1) kr) kb }

unfoldable pub weights_of : ℕ → Weights
weights_of m = weights_from (lit (red_of m) 10000) (lit (blue_of m) 10000)

-- ---- H.273's formulas (8.3, equations 38 to 40)

-- a colour of 16 bits as a part of 1
unfoldable pub part_of : ℕ → Float
part_of v = div (num v) (lit 65535 1)

unfoldable pub luma_of : Weights → Float → Float → Float → Float
luma_of w r g b = add (add (mul w.kr r) (mul w.kg g)) (mul w.kb b)

-- blue's and red's differences from the luma
abbrev pub difference_of : Float → Float → Float → Float
difference_of v y weight = div (sub v y) (mul (lit 2 1) (sub (lit 1 1) weight))

unfoldable pub cb_of : Weights → Float → Float → Float
cb_of w b y = difference_of b y w.kb

unfoldable pub cr_of : Weights → Float → Float → Float
cr_of w r y = difference_of r y w.kr

-- ---- samples

-- the full range: of top; chroma about the middle
unfoldable pub full_of : Float → ℕ → ℕ
full_of x depth = whole_of (mul x (num (top_at depth))) (top_at depth)

unfoldable pub full_chroma_of : Float → ℕ → ℕ
full_chroma_of x depth = whole_of (add (mul x (num (top_at depth))) (num (middle_at depth))) (top_at depth)

-- the studio range: (k x + o) * 2 ^ (depth - 8)
unfoldable pub studio_of : Float → Float → Float → ℕ → ℕ
studio_of k o x depth = whole_of (mul (add (mul k x) o) (num (2 ^ (depth - 8)))) (top_at depth)

abbrev pub ycbcr : ℕ → ℕ → ℕ → Ycbcr
ycbcr y cb cr = record { y = y; cb = cb; cr = cr }

-- matrix 0: G, B, R at full scale
unfoldable pub identity_of : Float → Float → Float → ℕ → Ycbcr
identity_of r g b depth = ycbcr (full_of g depth) (full_of b depth) (full_of r depth)

-- every other matrix
unfoldable pub weighted_of : Weights → Float → Float → Float → ℕ → Bool → Ycbcr
weighted_of w r g b depth full =
    let y = luma_of w r g b in
    let cb = cb_of w b y in
    let cr = cr_of w r y in
    pick full (ycbcr (full_of y depth) (full_chroma_of cb depth) (full_chroma_of cr depth))
    (ycbcr (studio_of (lit 219 1) (lit 16 1) y depth) (studio_of (lit 224 1) (lit 128 1) cb depth) (studio_of (lit 224 1) (lit 128 1) cr depth))

unfoldable pub ycbcr_of : Float → Float → Float → ℕ → Nclx → Ycbcr
ycbcr_of r g b depth n = pick (n.matrix == 0) (identity_of r g b depth) (weighted_of (weights_of n.matrix) r g b depth n.full_range)

-- ---- the calls

-- a fill's red, green and blue of 16 bits ("Refusals in order", fill): 6 a depth outside 8 to 16
unfoldable pub fill_of : ℕ → ℕ → ℕ → ℕ → Option Nclx → Out Ycbcr
fill_of red green blue depth colour =
    refuse (not (is_depth depth)) 6 (Ok (ycbcr_of (part_of red) (part_of green) (part_of blue) depth (nclx_of colour)))

-- a fill's alpha of 16 bits (document 01, Overlay)
unfoldable pub fill_alpha_of : ℕ → ℕ → ℕ
fill_alpha_of alpha depth = (alpha * top_at depth + 32767) / 65535
