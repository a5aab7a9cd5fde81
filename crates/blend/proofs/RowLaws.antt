-- A row laid over a stripe, sample after sample, where it stands sample for sample.
use mathlib.Core.Bool.{Bool, false, true, true≢false}
use mathlib.Core.List.{List}
use mathlib.Core.Path.{◌∙◌, ◌≡◌, ap, ap₂, refl, sym}
use Prim.Native.Nat.{◌*◌, ◌+◌, ◌-◌, ◌<◌, ◌^◌, ◌≤◌, min, ℕ}
use native.Mathlib.Omega.{arith}
use lib.ListN.{get_or, length, set}
use borrow.Author.Tests.{le-leb, lt-leb}
use Rattle.laws.proofs.Order.{by_order, by-test, pick-false, pick_true, within, within-no, within_none, within-true}
use Rattle.laws.specs.Pick.{pick}
use Rattle.image.specs.Format.{bytes_of, cover, has_alpha, has_part, top_at}
use Rattle.laws.specs.Puts.{Bytes}
use Rattle.planes.proofs.ByteLaws.{sample-small}
use Rattle.image.specs.declared.format.Part.{Part}
use Rattle.image.specs.declared.format.Part.TheVariants.{Alpha, Cb, Cr, Luma}
use Rattle.image.specs.declared.format.PixelFormat.{PixelFormat}
use Rattle.planes.specs.Bytes.{sample_in}
use Rattle.planes.specs.inner.Promoted.{promoted_in}
use Rattle.blend.proofs.OverLaws.{over-colour-opaque}
use Rattle.blend.proofs.StripeLaws.{stored_more}
use Rattle.blend.specs.Overlay.{over, over_alpha, over_colour}
use Rattle.blend.specs.declared.over.Source.{Source}
use Rattle.blend.specs.inner.Row.{DepthTop, RowInside, RowLaid, Stands, StripeHolds, bytes_at, is_colour}
use Rattle.blend.specs.inner.Stripe.{OverRowFits, alpha_in, row_over}

-- ---- sample after sample

module _ (old : List ℕ) (k : ℕ) (f : ℕ → ℕ → ℕ) where
  pub laid_none : RowLaid old old k 0 f
  unfolding within
  laid_none j = sym (pick-false _ _ _ (within_none k j))

  module _ (acc : List ℕ) (i : ℕ) (h : RowLaid old acc k i f) where
    -- the next one is as it was
    pub laid_next : get_or acc (k + i) 0 ≡ get_or old (k + i) 0
    unfolding within
    laid_next = h (k + i) ∙ pick-false _ _ _ (within-no k i (k + i) (λ a b. omega arith))

    pub laid_more : (v : ℕ) → k + i < length acc → v ≡ f i (get_or acc (k + i) 0) → RowLaid old (set acc (k + i) v) k (i + 1) f
    unfolding within
    laid_more v room e =
        let z : k + i - k ≡ i = omega arith in
        stored_more old acc k i v (λ j w. f (j - k) w) room h (e ∙ ap (λ (q : ℕ). f q (get_or acc (k + i) 0)) (sym z))

    pub laid-held : (top n : ℕ) → StripeHolds top old k n → i < n → get_or acc (k + i) 0 ≤ top * top
    laid-held top n s l = rw laid_next (s.held i l)

-- the same, said in another form
pub laid_as : (old new : List ℕ) (k n : ℕ) (f g : ℕ → ℕ → ℕ) → ((i v : ℕ) → i < n → f i v ≡ g i v) → RowLaid old new k n f → RowLaid old new k n g
unfolding within
laid_as old new k n f g e h j = h j ∙ by-test (within k n j) inside outside
  where
    inside : within k n j ≡ true → pick (within k n j) (f (j - k) (get_or old j 0)) (get_or old j 0) ≡ pick (within k n j) (g (j - k) (get_or old j 0)) (get_or old j 0)
    inside w =
        let b = within-true k n j w in
        ap (λ (v : ℕ). pick (within k n j) v (get_or old j 0)) (e (j - k) (get_or old j 0) (omega (arith, b.0, b.1)))

    outside : within k n j ≡ false → pick (within k n j) (f (j - k) (get_or old j 0)) (get_or old j 0) ≡ pick (within k n j) (g (j - k) (get_or old j 0)) (get_or old j 0)
    outside w = pick-false _ _ _ w ∙ sym (pick-false _ _ _ w)

-- a sample of so many bytes
pub sample-low : (d : List ℕ) (bytes stride x y : ℕ) → Bytes d → 1 ≤ bytes → bytes ≤ 2 → sample_in d bytes stride x y < 256 ^ bytes
unfolding sample_in
sample-low d bytes stride x y small l h = sample-small d bytes (y * stride + x * bytes) small l h

-- the bytes of a sample of a depth: one, and then the depth is 8, or two
module _ (d b : ℕ) (e : b ≡ bytes_at d) where
  pub depth-bytes : (1 ≤ b) × (b ≤ 2)
  depth-bytes =
      by_order 8 d (λ l. let z : b ≡ 2 = e ∙ pick-false _ _ _ (lt-leb d 8 l) in (omega arith, omega arith))
      (λ l. let z : b ≡ 1 = e ∙ pick_true _ _ _ (le-leb d 8 l) in (omega arith, omega arith))

  pub depth-byte : (top : ℕ) → DepthTop d top → 8 ≤ d → b ≡ 1 → top ≡ 255
  depth-byte top k low one =
      by_order 8 d (λ l. let z : b ≡ 2 = e ∙ pick-false _ _ _ (lt-leb d 8 l) in absurd (omega arith))
      (λ l. let z : d ≡ 8 = omega arith in k.same ∙ ap top_at z)

-- ---- a plane that stands sample for sample

module _ (f : PixelFormat) (p : Part) (stands : Stands f p) where
  promoted-plain : (d : List ℕ) (stride x y : ℕ) → promoted_in d f stride p x y ≡ sample_in d (bytes_of f) stride x y
  unfolding promoted_in cover
  promoted-plain d stride x y = pick_true _ _ _ stands.has ∙ ap₂ (λ (a b : Bool). sample_in d (bytes_of f) stride (cover a x) (cover b y)) stands.across stands.down

-- what is laid on a colour's plane
over-of : (top : ℕ) (p : Part) (m a : ℕ) (b : Bool) (v : ℕ) → is_colour p ≡ true → over top p m a b v ≡ over_colour top m a b v
unfolding over is_colour
over-of top Luma m a b v e = refl
over-of top Cb m a b v e = refl
over-of top Cr m a b v e = refl
over-of top Alpha m a b v e = absurd (true≢false (sym e))

pub no-colour : (p : Part) → is_colour p ≡ false → p ≡ Alpha
unfolding is_colour
no-colour Luma e = absurd (true≢false e)
no-colour Cb e = absurd (true≢false e)
no-colour Cr e = absurd (true≢false e)
no-colour Alpha e = refl

no-opacity : (f : PixelFormat) (p : Part) → has_part f p ≡ true → has_alpha f ≡ false → is_colour p ≡ true
unfolding has_part is_colour
no-opacity f Luma h e = refl
no-opacity f Cb h e = refl
no-opacity f Cr h e = refl
no-opacity f Alpha h e = absurd (true≢false (sym h ∙ e))

module _ (plane alpha : List ℕ) (s : Source) (x y : ℕ) (stands : Stands s.format s.part) where
  abbrev f : PixelFormat
  f = s.format

  abbrev bytes : ℕ
  bytes = bytes_at f.depth

  plain : (m a i v : ℕ) → m ≡ sample_in plane (bytes_of f) s.stride (x + i) y → a ≡ alpha_in alpha s (x + i) y → over s.top s.part m a s.premultiplied v ≡ row_over plane alpha s (x + i) y v
  unfolding row_over
  plain m a i v e k = ap₂ (λ (m a : ℕ). over s.top s.part m a s.premultiplied v) (e ∙ sym (promoted-plain f s.part stands plane s.stride (x + i) y)) k

  row-colour : has_alpha f ≡ true → is_colour s.part ≡ true → (i v : ℕ)
      → over_colour s.top (sample_in plane bytes s.stride (x + i) y) (sample_in alpha bytes s.alpha_stride (x + i) y) s.premultiplied v ≡ row_over plane alpha s (x + i) y v
  unfolding bytes_of alpha_in
  row-colour h c i v = sym (over-of _ s.part _ _ _ v c) ∙ plain _ _ i v refl (sym (pick_true _ _ _ h))

  row-opacity : has_alpha f ≡ true → s.part ≡ Alpha → (i v : ℕ) → over_alpha s.top (sample_in alpha bytes s.alpha_stride (x + i) y) v ≡ row_over plane alpha s (x + i) y v
  unfolding bytes_of alpha_in over
  row-opacity h e i v =
      let m = sample_in plane (bytes_of f) s.stride (x + i) y in
      let a = sample_in alpha bytes s.alpha_stride (x + i) y in
      sym (ap (λ (p : Part). over s.top p m a s.premultiplied v) e) ∙ plain m a i v refl (sym (pick_true _ _ _ h))

  row-opaque : has_alpha f ≡ false → 1 ≤ s.top → (i v : ℕ) → min (sample_in plane (bytes_of f) s.stride (x + i) y * s.top) (s.top * s.top) ≡ row_over plane alpha s (x + i) y v
  unfolding alpha_in
  row-opaque h any i v =
      sym (over-colour-opaque s.top _ s.premultiplied v any) ∙ sym (over-of _ s.part _ _ _ v (no-opacity f s.part stands.has h))
      ∙ plain _ _ i v refl (sym (pick-false _ _ _ h))

  -- a row that was laid by what its depth and its part ask is laid as an input's
  module _ (acc new : List ℕ) (k n : ℕ) where
    abbrev laid : ℕ → ℕ → ℕ
    laid i v = row_over plane alpha s (x + i) y v

    pub colour-laid : has_alpha f ≡ true → is_colour s.part ≡ true
        → RowLaid acc new k n (λ i v. over_colour s.top (sample_in plane bytes s.stride (x + i) y) (sample_in alpha bytes s.alpha_stride (x + i) y) s.premultiplied v) → RowLaid acc new k n laid
    colour-laid h c q = laid_as acc new k n (λ i v. over_colour s.top (sample_in plane bytes s.stride (x + i) y) (sample_in alpha bytes s.alpha_stride (x + i) y) s.premultiplied v) laid (λ i v l. row-colour h c i v) q

    pub opacity-laid : has_alpha f ≡ true → s.part ≡ Alpha → RowLaid acc new k n (λ i v. over_alpha s.top (sample_in alpha bytes s.alpha_stride (x + i) y) v) → RowLaid acc new k n laid
    opacity-laid h e q = laid_as acc new k n (λ i v. over_alpha s.top (sample_in alpha bytes s.alpha_stride (x + i) y) v) laid (λ i v l. row-opacity h e i v) q

    pub opaque-laid : (b : ℕ) → b ≡ bytes_of f → has_alpha f ≡ false → 1 ≤ s.top → RowLaid acc new k n (λ i v. min (sample_in plane b s.stride (x + i) y * s.top) (s.top * s.top)) → RowLaid acc new k n laid
    opaque-laid b e h any q = laid_as acc new k n (λ i v. min (sample_in plane b s.stride (x + i) y * s.top) (s.top * s.top)) laid (λ i v l. rw e (row-opaque h any i v)) q

  module _ (acc : List ℕ) (k n : ℕ) (fits : OverRowFits acc plane alpha s k n x 1 y) where
    pub row-holds : StripeHolds s.top acc k n
    row-holds = record { bounded = fits.bounded; held = fits.held }

    one_more : (i : ℕ) → x + i * 1 ≡ x + i
    one_more i = omega arith

    pub row_inside : RowInside plane bytes s.stride x y n
    unfolding bytes_of cover
    row_inside = record { inside = λ i h. rw (one_more i, stands.across, stands.down) at ((fits.inside i h).inside stands.has) }

    pub alpha-inside : has_alpha f ≡ true → RowInside alpha bytes s.alpha_stride x y n
    unfolding bytes_of
    alpha-inside e = record { inside = λ i h. rw (one_more i) at (fits.alphas i h e) }
