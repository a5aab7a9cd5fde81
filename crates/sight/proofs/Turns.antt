-- The place maps of sights: a further turn, mirror or crop is a further step back, and no two places meet.
use mathlib.Core.Bool.{Bool, false, not, true}
use mathlib.Core.Path.{◌∙◌, ◌≡◌, ap, refl, sym}
use Prim.Native.Nat.{◌+◌, ◌-◌, ◌<◌, ℕ}
use native.Mathlib.Omega.{arith}
use Rattle.sizes.proofs.MarginLaws.{around-inside}
use Rattle.sizes.specs.Margins.{Around}
use Rattle.sizes.specs.Sound.{Inside}
use Rattle.sizes.specs.declared.clap.Crop.{Crop}
use Rattle.sizes.specs.declared.clap.CropRect.{CropRect}
use Rattle.motions.specs.Place.{Place, sideways, swaps, unturn}
use Rattle.motions.specs.inner.Shows.{unmirror}
use Rattle.motions.specs.Turn.{Quarter, q0, q1, q2, q3, quarter_of}
use Rattle.sight.proofs.Quarters.{flipped, next, plus, quarter-mirror, quarter-sum}
use Rattle.sight.specs.Sight.{back, back_from, crop_from, exchange, exchange_crop, final_height, final_width, high_of, then_crop, then_mirror, then_turn, quarter_back, unturn_crop, wide_of, within}
use Rattle.sight.specs.declared.Sight.{Sight}

pub place-path : {l m : Place} → l.x ≡ m.x → l.y ≡ m.y → l ≡ m
place-path p q = λ i. record { x = p i; y = q i }

-- ---- where a place lies before the turns, and before an exchange

pub unturn-in : (q : Quarter) (w h x y : ℕ) → x < sideways (swaps q) w h → y < sideways (swaps q) h w → ((unturn q w h x y).x < w) × ((unturn q w h x y).y < h)
unfolding sideways swaps unturn
unturn-in q0 w h x y l m = (l, m)
unturn-in q1 w h x y l m = (omega arith, omega arith)
unturn-in q2 w h x y l m = (omega arith, omega arith)
unturn-in q3 w h x y l m = (omega arith, omega arith)

unturn-once : (q : Quarter) (w h x y u v : ℕ) → x < sideways (swaps q) w h → y < sideways (swaps q) h w → u < sideways (swaps q) w h → v < sideways (swaps q) h w
    → (unturn q w h x y).x ≡ (unturn q w h u v).x → (unturn q w h x y).y ≡ (unturn q w h u v).y → (x ≡ u) × (y ≡ v)
unfolding sideways swaps unturn
unturn-once q0 w h x y u v l m k j a b = (a, b)
unturn-once q1 w h x y u v l m k j a b = (omega arith, omega arith)
unturn-once q2 w h x y u v l m k j a b = (omega arith, omega arith)
unturn-once q3 w h x y u v l m k j a b = (omega arith, omega arith)

pub unmirror-in : (b : Bool) (w h x y : ℕ) → x < w → y < h → ((unmirror b w h x y).x < w) × ((unmirror b w h x y).y < h)
unfolding unmirror
unmirror-in true w h x y l m = (omega arith, omega arith)
unmirror-in false w h x y l m = (omega arith, omega arith)

pub exchange-in : (m : Bool) (w : ℕ) (l : Place) → l.x < w → (exchange m w l).x < w
unfolding exchange
exchange-in true w l i = omega arith
exchange-in false w l i = i

pub exchange-row : (m : Bool) (w : ℕ) (l : Place) → (exchange m w l).y ≡ l.y
unfolding exchange
exchange-row true w l = refl
exchange-row false w l = refl

exchange-once : (m : Bool) (w : ℕ) (l k : Place) → l.x < w → k.x < w → (exchange m w l).x ≡ (exchange m w k).x → l.x ≡ k.x
unfolding exchange
exchange-once true w l k i j e = omega arith
exchange-once false w l k i j e = e

-- exchanged twice
exchange-again : (m : Bool) (w : ℕ) (l : Place) → l.x < w → exchange (not m) w l ≡ exchange m w (exchange true w l)
unfolding exchange
exchange-again true w l i = place-path (omega arith) refl
exchange-again false w l i = refl

-- ---- a further turn, of a picture w by h that has q turns

turn-sides : (q k : Quarter) (w h : ℕ) → sideways (swaps (plus q k)) w h ≡ sideways (swaps k) (sideways (swaps q) w h) (sideways (swaps q) h w)
unfolding sideways swaps plus next
turn-sides q0 q0 w h = refl
turn-sides q0 q1 w h = refl
turn-sides q0 q2 w h = refl
turn-sides q0 q3 w h = refl
turn-sides q1 q0 w h = refl
turn-sides q1 q1 w h = refl
turn-sides q1 q2 w h = refl
turn-sides q1 q3 w h = refl
turn-sides q2 q0 w h = refl
turn-sides q2 q1 w h = refl
turn-sides q2 q2 w h = refl
turn-sides q2 q3 w h = refl
turn-sides q3 q0 w h = refl
turn-sides q3 q1 w h = refl
turn-sides q3 q2 w h = refl
turn-sides q3 q3 w h = refl

turn-places : (q k : Quarter) (w h x y : ℕ) → x < sideways (swaps (plus q k)) w h → y < sideways (swaps (plus q k)) h w
    → (let l = unturn k (sideways (swaps q) w h) (sideways (swaps q) h w) x y in unturn (plus q k) w h x y ≡ unturn q w h l.x l.y)
unfolding unturn sideways swaps plus next
turn-places q q0 w h x y l n = refl
turn-places q0 q1 w h x y l n = refl
turn-places q0 q2 w h x y l n = refl
turn-places q0 q3 w h x y l n = refl
turn-places q1 q1 w h x y l n = place-path (omega arith) (omega arith)
turn-places q1 q2 w h x y l n = place-path (omega arith) (omega arith)
turn-places q1 q3 w h x y l n = place-path (omega arith) (omega arith)
turn-places q2 q1 w h x y l n = place-path (omega arith) (omega arith)
turn-places q2 q2 w h x y l n = place-path (omega arith) (omega arith)
turn-places q2 q3 w h x y l n = place-path (omega arith) (omega arith)
turn-places q3 q1 w h x y l n = place-path (omega arith) (omega arith)
turn-places q3 q2 w h x y l n = place-path (omega arith) (omega arith)
turn-places q3 q3 w h x y l n = place-path (omega arith) (omega arith)

-- ---- a further mirror

mirror-sides : (b : Bool) (q : Quarter) (w h : ℕ) → sideways (swaps (flipped b q)) w h ≡ sideways (swaps q) w h
unfolding sideways swaps flipped
mirror-sides true q0 w h = refl
mirror-sides true q1 w h = refl
mirror-sides true q2 w h = refl
mirror-sides true q3 w h = refl
mirror-sides false q0 w h = refl
mirror-sides false q1 w h = refl
mirror-sides false q2 w h = refl
mirror-sides false q3 w h = refl

mirror-places : (b : Bool) (q : Quarter) (w h x y : ℕ) → x < sideways (swaps q) w h → y < sideways (swaps q) h w
    → (let l = unmirror b (sideways (swaps q) w h) (sideways (swaps q) h w) x y in exchange true w (unturn (flipped b q) w h x y) ≡ unturn q w h l.x l.y)
unfolding exchange unturn unmirror sideways swaps flipped
mirror-places true q0 w h x y l n = place-path (omega arith) (omega arith)
mirror-places true q1 w h x y l n = place-path (omega arith) (omega arith)
mirror-places true q2 w h x y l n = place-path (omega arith) (omega arith)
mirror-places true q3 w h x y l n = place-path (omega arith) (omega arith)
mirror-places false q0 w h x y l n = place-path (omega arith) (omega arith)
mirror-places false q1 w h x y l n = place-path (omega arith) (omega arith)
mirror-places false q2 w h x y l n = place-path (omega arith) (omega arith)
mirror-places false q3 w h x y l n = place-path (omega arith) (omega arith)

-- ---- a further crop, by its parts

again : (w x : ℕ) → x < w → w - 1 - (w - 1 - x) ≡ x
again w x h = omega arith

-- exchanged twice along one axis, whose part of b pixels lies between the margins a and c
twice : (r w a b c x : ℕ) → a + b + c ≡ w → x < b → r + a + (b - 1 - (b - 1 - x)) ≡ r + (w - 1 - (w - 1 - (a + x)))
twice r w a b c x e l = rw (again b x l, again w (a + x) (omega arith)) (omega arith)

crop-places : (m : Bool) (q : Quarter) (r : CropRect) (k : Crop) (x y : ℕ) → Around k (wide_of q r) (high_of q r) → x < k.rect.width → y < k.rect.height
    → back_from (crop_from r m q k) m q x y ≡ back_from r m q (k.rect.x + x) (k.rect.y + y)
unfolding back_from crop_from within exchange exchange_crop unturn unturn_crop quarter_back wide_of high_of sideways swaps
crop-places true q0 r k x y a l n = place-path (omega (arith, a.left, a.across)) (omega arith)
crop-places true q1 r k x y a l n = rw (← a.top) (place-path (twice r.x r.width k.margins.top k.rect.height k.margins.bottom y a.down n) (omega (arith, a.left)))
crop-places true q2 r k x y a l n = rw (← a.left) (place-path (twice r.x r.width k.margins.left k.rect.width k.margins.right x a.across l) (omega (arith, a.top, a.down)))
crop-places true q3 r k x y a l n = place-path (omega (arith, a.top, a.down)) (omega (arith, a.left, a.across))
crop-places false q0 r k x y a l n = place-path (omega arith) (omega arith)
crop-places false q1 r k x y a l n = place-path (omega (arith, a.top, a.down)) (omega (arith, a.left))
crop-places false q2 r k x y a l n = place-path (omega (arith, a.left, a.across)) (omega (arith, a.top, a.down))
crop-places false q3 r k x y a l n = place-path (omega (arith, a.top)) (omega (arith, a.left, a.across))

crop-wide : (m : Bool) (q : Quarter) (r : CropRect) (k : Crop) → wide_of q (crop_from r m q k) ≡ k.rect.width
unfolding wide_of sideways swaps crop_from within exchange_crop unturn_crop quarter_back
crop-wide true q0 r k = refl
crop-wide true q1 r k = refl
crop-wide true q2 r k = refl
crop-wide true q3 r k = refl
crop-wide false q0 r k = refl
crop-wide false q1 r k = refl
crop-wide false q2 r k = refl
crop-wide false q3 r k = refl

crop-high : (m : Bool) (q : Quarter) (r : CropRect) (k : Crop) → high_of q (crop_from r m q k) ≡ k.rect.height
unfolding high_of sideways swaps crop_from within exchange_crop unturn_crop quarter_back
crop-high true q0 r k = refl
crop-high true q1 r k = refl
crop-high true q2 r k = refl
crop-high true q3 r k = refl
crop-high false q0 r k = refl
crop-high false q1 r k = refl
crop-high false q2 r k = refl
crop-high false q3 r k = refl

-- it is one of the picture before a turn, before the turns and before the exchange; and where it lies in the picture
turn-around : (k : Crop) (w h : ℕ) → Around k w h → Around (quarter_back k) h w
unfolding quarter_back
turn-around k w h a = record { left = refl; top = refl; across = omega (arith, a.down); down = a.across; wide = a.tall; tall = a.wide }

unturn-around : (q : Quarter) (w h : ℕ) (k : Crop) → Around k (sideways (swaps q) w h) (sideways (swaps q) h w) → Around (unturn_crop q k) w h
unfolding sideways swaps unturn_crop
unturn-around q0 w h k a = a
unturn-around q1 w h k a = turn-around _ _ _ a
unturn-around q2 w h k a = turn-around _ _ _ (turn-around _ _ _ a)
unturn-around q3 w h k a = turn-around _ _ _ (turn-around _ _ _ (turn-around _ _ _ a))

exchange-around : (m : Bool) (w h : ℕ) (k : Crop) → Around k w h → Around (exchange_crop m k) w h
unfolding exchange_crop
exchange-around true w h k a = record { left = refl; top = a.top; across = omega (arith, a.across); down = a.down; wide = a.wide; tall = a.tall }
exchange-around false w h k a = a

within-inside : (r d : CropRect) (w h : ℕ) → Inside r w h → Inside d r.width r.height → Inside (within r d) w h
unfolding within
within-inside r d w h i j = record { across = omega (arith, i.across, j.across); down = omega (arith, i.down, j.down); wide = j.wide; tall = j.tall }

-- ---- the same of a sight

pub turn-width : (s : Sight) (a : ℕ) → final_width (then_turn s a) ≡ sideways (swaps (quarter_of a)) (final_width s) (final_height s)
unfolding final_width final_height wide_of high_of then_turn
turn-width s a = ap (λ q. sideways (swaps q) s.area.width s.area.height) (quarter-sum s.turns a) ∙ turn-sides (quarter_of s.turns) (quarter_of a) _ _

pub turn-height : (s : Sight) (a : ℕ) → final_height (then_turn s a) ≡ sideways (swaps (quarter_of a)) (final_height s) (final_width s)
unfolding final_width final_height wide_of high_of then_turn
turn-height s a = ap (λ q. sideways (swaps q) s.area.height s.area.width) (quarter-sum s.turns a) ∙ turn-sides (quarter_of s.turns) (quarter_of a) _ _

pub mirror-width : (s : Sight) (b : Bool) → final_width (then_mirror s b) ≡ final_width s
unfolding final_width wide_of then_mirror
mirror-width s b = ap (λ q. sideways (swaps q) s.area.width s.area.height) (quarter-mirror b s.turns) ∙ mirror-sides b (quarter_of s.turns) _ _

pub mirror-height : (s : Sight) (b : Bool) → final_height (then_mirror s b) ≡ final_height s
unfolding final_height high_of then_mirror
mirror-height s b = ap (λ q. sideways (swaps q) s.area.height s.area.width) (quarter-mirror b s.turns) ∙ mirror-sides b (quarter_of s.turns) _ _

pub crop-width : (s : Sight) (k : Crop) → final_width (then_crop s k) ≡ k.rect.width
unfolding final_width then_crop
crop-width s k = crop-wide s.exchanged (quarter_of s.turns) s.area k

pub crop-height : (s : Sight) (k : Crop) → final_height (then_crop s k) ≡ k.rect.height
unfolding final_height then_crop
crop-height s k = crop-high s.exchanged (quarter_of s.turns) s.area k

-- a place before an exchange, in the picture
unfoldable shifted : CropRect → Bool → Place → Place
shifted r m l = record { x = r.x + (exchange m r.width l).x; y = r.y + (exchange m r.width l).y }

pub turn-back : (s : Sight) (a x y : ℕ) → x < final_width (then_turn s a) → y < final_height (then_turn s a)
    → (let l = unturn (quarter_of a) (final_width s) (final_height s) x y in back (then_turn s a) x y ≡ back s l.x l.y)
unfolding back back_from final_width final_height wide_of high_of then_turn shifted
turn-back s a x y i j =
    let e = quarter-sum s.turns a in
    ap (λ q. shifted s.area s.exchanged (unturn q s.area.width s.area.height x y)) e
    ∙ ap (shifted s.area s.exchanged) (turn-places (quarter_of s.turns) (quarter_of a) _ _ x y (rw e at i) (rw e at j))

pub mirror-back : (s : Sight) (b : Bool) (x y : ℕ) → x < final_width s → y < final_height s
    → (let l = unmirror b (final_width s) (final_height s) x y in back (then_mirror s b) x y ≡ back s l.x l.y)
unfolding back back_from final_width final_height wide_of high_of then_mirror shifted
mirror-back s b x y i j =
    let q = quarter_of s.turns in
    let w = s.area.width in
    let h = s.area.height in
    ap (λ k. shifted s.area (not s.exchanged) (unturn k w h x y)) (quarter-mirror b s.turns)
    ∙ ap (λ l. record { x = s.area.x + l.x; y = s.area.y + l.y })
    (exchange-again s.exchanged w (unturn (flipped b q) w h x y) (unturn-in (flipped b q) w h x y (rw (mirror-sides b q w h) i) (rw (mirror-sides b q h w) j)).0
    ∙ ap (exchange s.exchanged w) (mirror-places b q w h x y i j))

pub crop-back : (s : Sight) (k : Crop) → Around k (final_width s) (final_height s) → (x y : ℕ) → x < k.rect.width → y < k.rect.height
    → back (then_crop s k) x y ≡ back s (k.rect.x + x) (k.rect.y + y)
unfolding back final_width final_height then_crop
crop-back s k a x y l m = crop-places s.exchanged (quarter_of s.turns) s.area k x y a l m

-- a crop before the turns and the exchange lies in the rectangle, and so what is left of it
pub unseen-inside : (s : Sight) (k : Crop) → Around k (final_width s) (final_height s) → Inside (exchange_crop s.exchanged (unturn_crop (quarter_of s.turns) k)).rect s.area.width s.area.height
unfolding final_width final_height wide_of high_of
unseen-inside s k a = around-inside _ _ _ (exchange-around s.exchanged _ _ _ (unturn-around (quarter_of s.turns) s.area.width s.area.height k a))

pub crop-inside : (s : Sight) (k : Crop) (w h : ℕ) → Inside s.area w h → Around k (final_width s) (final_height s) → Inside (then_crop s k).area w h
unfolding then_crop crop_from
crop-inside s k w h i a = within-inside s.area _ w h i (unseen-inside s k a)

-- a final place shows a place of the rectangle
pub back_in : (s : Sight) (w h : ℕ) → Inside s.area w h → (x y : ℕ) → x < final_width s → y < final_height s → ((back s x y).x < w) × ((back s x y).y < h)
unfolding back back_from final_width final_height wide_of high_of
back_in s w h i x y l m =
    let u = unturn-in (quarter_of s.turns) s.area.width s.area.height x y l m in
    let k = exchange-in s.exchanged s.area.width (unturn (quarter_of s.turns) s.area.width s.area.height x y) u.0 in
    let e = exchange-row s.exchanged s.area.width (unturn (quarter_of s.turns) s.area.width s.area.height x y) in
    (omega (arith, k, i.across), omega (arith, e, u.1, i.down))

-- no two final places show one place
pub back-once : (s : Sight) (x y u v : ℕ) → x < final_width s → y < final_height s → u < final_width s → v < final_height s → back s x y ≡ back s u v → (x ≡ u) × (y ≡ v)
unfolding back back_from final_width final_height wide_of high_of
back-once s x y u v i j k l e =
    let q = quarter_of s.turns in
    let w = s.area.width in
    let h = s.area.height in
    let a = unturn q w h x y in
    let b = unturn q w h u v in
    let ex : s.area.x + (exchange s.exchanged w a).x ≡ s.area.x + (exchange s.exchanged w b).x = ap (λ t. t.x) e in
    let ey : s.area.y + (exchange s.exchanged w a).y ≡ s.area.y + (exchange s.exchanged w b).y = ap (λ t. t.y) e in
    unturn-once q w h x y u v i j k l
    (exchange-once s.exchanged w a b (unturn-in q w h x y i j).0 (unturn-in q w h u v k l).0 (omega arith))
    (sym (exchange-row s.exchanged w a) ∙ (omega arith) ∙ exchange-row s.exchanged w b)
