-- What the tests and numbers of the code say of a sight and of a place.
use Rattle.std.specs.Prelude.{Ok, Err}
use mathlib.Core.Bool.{Bool, false, not, true}
use mathlib.Core.List.{List}
use mathlib.Core.Path.{◌∙◌, ◌≡◌, ap, ap₂, refl, sym}
use Prim.Native.Nat.{◌%◌, ◌+◌, ◌-◌, ◌<◌, ◌^◌, ◌≤◌, ℕ}
use native.Mathlib.Omega.{arith}
use borrow.Author.Tests.{le-leb, lt-leb}
use Rattle.laws.proofs.Out.{Holds, holds-done, pick-holds, refuse-no, refuse-yes, then-holds}
use Rattle.laws.specs.Out.{Out, reason}
use Rattle.laws.specs.Pick.{pick}
use Rattle.image.specs.Format.{odd}
use Rattle.sizes.proofs.ApertureLaws.{resolve-holds, resolve-margins}
use Rattle.props.proofs.ChainLaws.{fold-holds}
use Rattle.sizes.specs.Aperture.{resolve_of}
use Rattle.props.specs.Chain.{applies, fold_chain}
use Rattle.sizes.specs.Margins.{Around}
use Rattle.sizes.specs.Sound.{Inside}
use Rattle.sizes.specs.declared.clap.Clap.{Clap}
use Rattle.sizes.specs.declared.clap.Crop.{Crop}
use Rattle.sizes.specs.declared.clap.CropRect.{CropRect}
use Rattle.props.specs.declared.entry.Property.{Property}
use Rattle.props.specs.declared.entry.PropertyEntry.{PropertyEntry}
use Rattle.motions.proofs.Quarters.{quarter-one, quarter-two, quarter-zero}
use Rattle.motions.specs.Place.{Place, sideways, swaps, unturn}
use Rattle.motions.specs.Turn.{Quarter, quarter_of}
use Rattle.sight.proofs.Quarters.{by-quarter, mirror-below, quarter-3}
use Rattle.sight.proofs.Turns.{crop-inside, exchange-row, place-path, unseen-inside, unturn-in}
use Rattle.sight.specs.Sight.{back, back_from, bounded_source, crop_from, exchange, exchange_crop, final_height, final_width, high_of, mirror_turns, source_place, sight_after, sight_of, then_crop, then_mirror, then_turn, unturn_crop, whole, wide_of, within}
use Rattle.sight.specs.inner.Bounded.{Bounded, Lies}
use Rattle.sight.specs.declared.CanvasPlace.{CanvasPlace}
use Rattle.sight.specs.declared.Sight.{Sight}

-- ---- the final size, by an odd or an even number of turns

odd-swaps : (t : ℕ) → t % 2 ≡ 1 → swaps (quarter_of t) ≡ true
unfolding swaps
odd-swaps t h = by-quarter t (λ e. absurd (omega arith)) (λ e. ap swaps (quarter-one t e)) (λ e. absurd (omega arith)) (λ e. ap swaps (quarter-3 t e))

even-swaps : (t : ℕ) → (t % 2 ≡ 1 → ⊥) → swaps (quarter_of t) ≡ false
unfolding swaps
even-swaps t h = by-quarter t (λ e. ap swaps (quarter-zero t e)) (λ e. absurd (h (omega arith))) (λ e. ap swaps (quarter-two t e)) (λ e. absurd (h (omega arith)))

pub final-swapped : (s : Sight) → s.turns % 2 ≡ 1 → (final_width s ≡ s.area.height) × (final_height s ≡ s.area.width)
unfolding final_width final_height wide_of high_of sideways
final-swapped s h = let e = odd-swaps s.turns h in (ap (λ b. sideways b s.area.width s.area.height) e, ap (λ b. sideways b s.area.height s.area.width) e)

pub final-straight : (s : Sight) → (s.turns % 2 ≡ 1 → ⊥) → (final_width s ≡ s.area.width) × (final_height s ≡ s.area.height)
unfolding final_width final_height wide_of high_of sideways
final-straight s h = let e = even-swaps s.turns h in (ap (λ b. sideways b s.area.width s.area.height) e, ap (λ b. sideways b s.area.height s.area.width) e)

-- ---- before the turns

module _ (s : Sight) (q : Quarter) (e : quarter_of s.turns ≡ q) where
  pub below_by : (x y : ℕ) → (x < final_width s) × (y < final_height s) → (x < sideways (swaps q) s.area.width s.area.height) × (y < sideways (swaps q) s.area.height s.area.width)
  unfolding final_width final_height wide_of high_of
  below_by x y i = rw e at i

  pub crop-by : (k r : Crop) → r ≡ unturn_crop q k → r ≡ unturn_crop (quarter_of s.turns) k
  crop-by k r h = h ∙ ap (λ t. unturn_crop t k) (sym e)

  pub place-by : (x y : ℕ) (r : CanvasPlace) → Lies r (unturn q s.area.width s.area.height x y) → Lies r (unturn (quarter_of s.turns) s.area.width s.area.height x y)
  place-by x y r l = rw e l

pub unturned-below : (s : Sight) (x y : ℕ) (r : CanvasPlace) → Lies r (unturn (quarter_of s.turns) s.area.width s.area.height x y) → x < final_width s → y < final_height s
    → (r.x < s.area.width) × (r.y < s.area.height)
unfolding final_width final_height wide_of high_of
unturned-below s x y r l i j =
    let k = unturn-in (quarter_of s.turns) s.area.width s.area.height x y i j in
    (omega (arith, l.x, k.0), omega (arith, l.y, k.1))

-- ---- before the exchange

pub column-in : (b : Bool) (w column x : ℕ) → column < w → x ≡ pick b (w - 1 - column) column → x < w
unfolding pick
column-in true w column x h e = omega arith
column-in false w column x h e = omega arith

pub exchanged-is : (s : Sight) (b : Bool) (k : Crop) → s.exchanged ≡ b → exchange_crop b k ≡ exchange_crop s.exchanged k
exchanged-is s b k e = ap (λ t. exchange_crop t k) (sym e)

exchange-column : (b : Bool) (w : ℕ) (l : Place) → pick b (w - 1 - l.x) l.x ≡ (exchange b w l).x
unfolding pick exchange
exchange-column true w l = refl
exchange-column false w l = refl

-- ---- what each step makes

-- a crop, by what it is before the turns and the exchange
pub unseen-is : (s : Sight) (k d u : Crop) → d ≡ unturn_crop (quarter_of s.turns) k → u ≡ exchange_crop s.exchanged d → u ≡ exchange_crop s.exchanged (unturn_crop (quarter_of s.turns) k)
unseen-is s k d u e f = f ∙ ap (exchange_crop s.exchanged) e

pub unseen-in : (s : Sight) (k u : Crop) → u ≡ exchange_crop s.exchanged (unturn_crop (quarter_of s.turns) k) → Around k (final_width s) (final_height s) → Inside u.rect s.area.width s.area.height
unseen-in s k u e a = rw e (unseen-inside s k a)

pub cropped-is : (s : Sight) (k u : Crop) → u ≡ exchange_crop s.exchanged (unturn_crop (quarter_of s.turns) k)
    → ◌≡◌ {A = Sight} (record { area = record { x = s.area.x + u.rect.x; y = s.area.y + u.rect.y; width = u.rect.width; height = u.rect.height }; exchanged = s.exchanged; turns = s.turns }) (then_crop s k)
unfolding then_crop crop_from within
cropped-is s k u e = ap (λ (t : Crop). record { area = within s.area t.rect; exchanged = s.exchanged; turns = s.turns }) e

pub turned-is : (s : Sight) (a : ℕ) → ◌≡◌ {A = Sight} (record { area = s.area; exchanged = s.exchanged; turns = (s.turns % 4 + a) % 4 }) (then_turn s a)
unfolding then_turn
turned-is s a = ap (λ (t : ℕ). record { area = s.area; exchanged = s.exchanged; turns = t }) (omega arith)

pub sideways-is : (s : Sight) (b : Bool) → b ≡ true → ◌≡◌ {A = Sight} (record { area = s.area; exchanged = not s.exchanged; turns = (4 - s.turns % 4) % 4 }) (then_mirror s b)
unfolding then_mirror mirror_turns
sideways-is s b e = ap (then_mirror s) (sym e)

pub upright-is : (s : Sight) (b : Bool) → b ≡ false → ◌≡◌ {A = Sight} (record { area = s.area; exchanged = not s.exchanged; turns = (6 - s.turns % 4) % 4 }) (then_mirror s b)
unfolding then_mirror mirror_turns
upright-is s b e = ap (then_mirror s) (sym e)

-- ---- a clap, resolved in the final size

pub clap-at : (s : Sight) (c : Clap) (w h : ℕ) (o : Out Crop) → w ≡ final_width s → h ≡ final_height s → resolve_of c w h ≡ o → resolve_of c (final_width s) (final_height s) ≡ o
clap-at s c w h o p q e = ap₂ (resolve_of c) (sym p) (sym q) ∙ e

pub clap-around : (s : Sight) (c : Clap) (w h : ℕ) (k : Crop) → w ≡ final_width s → h ≡ final_height s → resolve_of c w h ≡ Ok k → Around k (final_width s) (final_height s)
clap-around s c w h k p q e = resolve-margins c _ _ k (clap-at s c w h (Ok k) p q e)

-- ---- a place

pub place-across : (s : Sight) (x y w : ℕ) → w ≡ final_width s → w ≤ x → Err (reason 18) ≡ source_place s x y
unfolding source_place
place-across s x y w e h = sym (refuse-yes _ _ (le-leb (final_width s) x (omega arith)))

pub place_down : (s : Sight) (x y w h : ℕ) → w ≡ final_width s → x < w → h ≡ final_height s → h ≤ y → Err (reason 18) ≡ source_place s x y
unfolding source_place
place_down s x y w h e i f j = sym (refuse-no _ _ (lt-leb (final_width s) x (omega arith)) ∙ refuse-yes _ _ (le-leb (final_height s) y (omega arith)))

pub place_in : (s : Sight) (x y : ℕ) → x < final_width s → y < final_height s → source_place s x y ≡ Ok (back s x y)
unfolding source_place
place_in s x y i j = refuse-no _ _ (lt-leb (final_width s) x i) ∙ refuse-no _ _ (lt-leb (final_height s) y j)

pub place_found : (s : Sight) (x y k : ℕ) (r : CanvasPlace) → x < final_width s → y < final_height s → Lies r (unturn (quarter_of s.turns) s.area.width s.area.height x y)
    → k ≡ pick s.exchanged (s.area.width - 1 - r.x) r.x → ◌≡◌ {A = Out Place} (Ok (record { x = s.area.x + k; y = s.area.y + r.y })) (source_place s x y)
unfolding back back_from
place_found s x y k r i j l e =
    let u = unturn (quarter_of s.turns) s.area.width s.area.height x y in
    let p : k ≡ (exchange s.exchanged s.area.width u).x = e ∙ ap (λ (n : ℕ). pick s.exchanged (s.area.width - 1 - n) n) l.x ∙ exchange-column s.exchanged s.area.width u in
    let q : r.y ≡ (exchange s.exchanged s.area.width u).y = l.y ∙ sym (exchange-row s.exchanged s.area.width u) in
    ap Ok (place-path (ap (λ (n : ℕ). s.area.x + n) p) (ap (λ (n : ℕ). s.area.y + n) q)) ∙ sym (place_in s x y i j)

-- 18 a far edge that is no 32-bit number
pub far-across : (s : Sight) (x y : ℕ) → 2 ^ 32 ≤ s.area.x + s.area.width → Err (reason 18) ≡ bounded_source s x y
unfolding bounded_source
far-across s x y h = sym (refuse-yes _ _ (le-leb (2 ^ 32) _ h))

pub far-down : (s : Sight) (x y : ℕ) → s.area.x + s.area.width < 2 ^ 32 → 2 ^ 32 ≤ s.area.y + s.area.height → Err (reason 18) ≡ bounded_source s x y
unfolding bounded_source
far-down s x y h i = sym (refuse-no _ _ (lt-leb (2 ^ 32) _ h) ∙ refuse-yes _ _ (le-leb (2 ^ 32) _ i))

pub bounded-place : (s : Sight) (x y : ℕ) → Bounded s.area → bounded_source s x y ≡ source_place s x y
unfolding bounded_source
bounded-place s x y b = refuse-no _ _ (lt-leb (2 ^ 32) _ b.across) ∙ refuse-no _ _ (lt-leb (2 ^ 32) _ b.down)

-- ---- a sight's numbers stay 32-bit, and its rectangle inside

bounded-within : (r d : CropRect) → Bounded r → Inside d r.width r.height → Bounded (within r d)
unfolding within
bounded-within r d b i = record { across = omega (arith, b.across, i.across); down = omega (arith, b.down, i.down) }

crop-bounded : (s : Sight) (k : Crop) → Bounded s.area → Around k (final_width s) (final_height s) → Bounded (then_crop s k).area
unfolding then_crop crop_from
crop-bounded s k b a = bounded-within s.area _ b (unseen-inside s k a)

-- what a crop keeps of the rectangle, an entry keeps
after-keeps : (I : CropRect → Type 0) → ((s : Sight) (k : Crop) → I s.area → Around k (final_width s) (final_height s) → I (then_crop s k).area)
    → (p : Property) (s : Sight) → I s.area → Holds (λ u. I u.area) (sight_after p s)
unfolding sight_after Holds then_turn then_mirror
after-keeps I k Property.Other s i = i
after-keeps I k (Property.Clap c) s i = then-holds (λ r. Around r (final_width s) (final_height s)) _ _ _ (resolve-holds c (final_width s) (final_height s)) (λ r j. k s r i j)
after-keeps I k (Property.Irot t) s i = i
after-keeps I k (Property.Imir m) s i = i
after-keeps I k (Property.Iscl t) s i = tt

pub after-bounded : (p : Property) (s : Sight) → Bounded s.area → Holds (λ u. Bounded u.area) (sight_after p s)
after-bounded p s b = after-keeps Bounded crop-bounded p s b

pub whole-bounded : (w h : ℕ) → w < 2 ^ 32 → h < 2 ^ 32 → Bounded (whole w h).area
unfolding whole
whole-bounded w h i j = record { across = omega arith; down = omega arith }

-- an entry, applied or not
pub entry-bounded : (flag : Bool) (e : PropertyEntry) (s u : Sight) → Bounded s.area → pick (applies flag e) (sight_after e.property s) (Ok s) ≡ Ok u → Bounded u.area
unfolding Holds
entry-bounded flag e s u b q = holds-done (λ k. Bounded k.area) _ u (pick-holds (λ k. Bounded k.area) (applies flag e) _ (Ok s) (after-bounded e.property s b) b) q

-- where a chain begins
pub sight-start : (es : List PropertyEntry) (flag : Bool) (w h : ℕ) (s : Sight) → s ≡ whole w h → sight_of es flag w h ≡ fold_chain sight_after flag es s
unfolding sight_of
sight-start es flag w h s e = ap (fold_chain sight_after flag es) (sym e)

pub start-bounded : (w h : ℕ) (s : Sight) → s ≡ whole w h → w < 2 ^ 32 → h < 2 ^ 32 → Bounded s.area
start-bounded w h s e i j = rw e (whole-bounded w h i j)

-- whatever the chain
pub sight-bounded : (es : List PropertyEntry) (flag : Bool) (w h : ℕ) → w < 2 ^ 32 → h < 2 ^ 32 → Holds (λ s. Bounded s.area) (sight_of es flag w h)
unfolding sight_of
sight-bounded es flag w h i j = fold-holds (λ s. Bounded s.area) sight_after after-bounded flag es _ (whole-bounded w h i j)

pub sight-inside : (es : List PropertyEntry) (flag : Bool) (w h : ℕ) → 1 ≤ w → 1 ≤ h → Holds (λ s. Inside s.area w h) (sight_of es flag w h)
unfolding sight_of whole
sight-inside es flag w h i j =
    fold-holds (λ s. Inside s.area w h) sight_after (after-keeps (λ r. Inside r w h) (λ s c a b. crop-inside s c w h a b)) flag es _ (record { across = omega arith; down = omega arith; wide = i; tall = j })

-- the turns stay below 4
after-turns : (p : Property) (s : Sight) → s.turns < 4 → Holds (λ u. u.turns < 4) (sight_after p s)
unfolding sight_after Holds then_turn then_mirror then_crop
after-turns Property.Other s i = i
after-turns (Property.Clap c) s i = then-holds (λ r. Around r (final_width s) (final_height s)) _ _ _ (resolve-holds c (final_width s) (final_height s)) (λ r j. i)
after-turns (Property.Irot k) s i = omega arith
after-turns (Property.Imir k) s i = mirror-below (odd k.axis) s.turns
after-turns (Property.Iscl k) s i = tt

pub sight-turns : (es : List PropertyEntry) (flag : Bool) (w h : ℕ) → Holds (λ s. s.turns < 4) (sight_of es flag w h)
unfolding sight_of whole
sight-turns es flag w h = fold-holds (λ s. s.turns < 4) sight_after after-turns flag es _ (omega arith)
