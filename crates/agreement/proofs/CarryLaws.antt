-- The rectangle of a chain is what its entries, one by one, do not crop away, and its turn carries each place that stays to where they
-- do.
use Rattle.std.specs.Prelude.{Ok}
use mathlib.Core.Bool.{Bool, false, true}
use mathlib.Core.List.{List, [], ◌∷◌}
use mathlib.Core.Path.{◌∙◌, ◌≡◌, ap, ap₂, refl, sym}
use Prim.Native.Nat.{◌+◌, ◌-◌, ◌<◌, ◌≤◌, ℕ}
use native.Mathlib.Omega.{arith}
use borrow.Author.Tests.{le-leb, leb-true, lt-ltb, ltb-true}
use Rattle.laws.proofs.Order.{and-true, apart, by-test, pick-false, pick_true, true-and}
use Rattle.laws.proofs.Out.{Same, alike, both, holds-done, same_left, then-both}
use Rattle.laws.specs.Pick.{pick}
use Rattle.image.specs.Format.{odd}
use Rattle.sizes.proofs.ApertureLaws.{resolve-holds}
use Rattle.sizes.proofs.MarginLaws.{around-inside}
use Rattle.sizes.specs.Margins.{Around}
use Rattle.props.proofs.ChainLaws.{Applied, fold_same}
use Rattle.sizes.specs.Sound.{Inside}
use Rattle.sizes.specs.declared.clap.Crop.{Crop}
use Rattle.sizes.specs.declared.clap.CropRect.{CropRect}
use Rattle.props.specs.declared.entry.Property.{Property}
use Rattle.props.specs.declared.entry.PropertyEntry.{PropertyEntry}
use Rattle.motions.specs.Place.{Place, sideways, swaps, unturn}
use Rattle.motions.specs.inner.Shows.{unmirror}
use Rattle.motions.specs.Turn.{Quarter, q0, q1, q2, q3, quarter_of}
use Rattle.sight.proofs.Steps.{sight-inside, sight-turns}
use Rattle.sight.proofs.Turns.{back_in, back-once, crop-back, crop-height, crop-inside, crop-width, exchange-in, exchange-row, mirror-back, mirror-height, mirror-width, place-path, turn-back, turn-height, turn-width}
use Rattle.agreement.specs.Carry.{Carried, Fate, Follows, Tracked, carry_after, carry_of, crop_place, cropped, in_rect, kept, mirror_place, onward, turn_place, forward}
use Rattle.sight.specs.Sight.{back, back_from, exchange, final_height, final_width, high_of, sight_after, sight_of, then_crop, then_mirror, then_turn, whole, wide_of}
use Rattle.sight.specs.declared.Sight.{Sight}

-- ---- a place of a rectangle

record In (r : CropRect) (l : Place) : Type 0 where
  left : r.x ≤ l.x
  right : l.x < r.x + r.width
  top : r.y ≤ l.y
  bottom : l.y < r.y + r.height

in-facts : (r : CropRect) (l : Place) → in_rect r l ≡ true → In r l
unfolding in_rect
in-facts r l e =
    let a = and-true _ _ e in
    let b = and-true _ _ a.0 in
    let c = and-true _ _ a.1 in
    record { left = leb-true _ _ b.0; right = ltb-true _ _ b.1; top = leb-true _ _ c.0; bottom = ltb-true _ _ c.1 }

facts-in : (r : CropRect) (l : Place) → In r l → in_rect r l ≡ true
unfolding in_rect
facts-in r l k = true-and _ _ (true-and _ _ (le-leb _ _ k.left) (lt-ltb _ _ k.right)) (true-and _ _ (le-leb _ _ k.top) (lt-ltb _ _ k.bottom))

not_in : (r : CropRect) (l : Place) → (In r l → ⊥) → in_rect r l ≡ false
not_in r l f = by-test (in_rect r l) (λ e. absurd (f (in-facts r l e))) (λ e. e)

both_ways {ℓ} : {X : Type ℓ} (b : Bool) → b ≡ true → b ≡ false → X
both_ways b e f = apart (cc)

in-as : (r : CropRect) (l m : Place) → l ≡ m → In r l → In r m
in-as r l m e k = rw e at k

-- ---- a step forward undone by the step back

turn-place : (q : Quarter) (w h : ℕ) (l : Place) → l.x < w → l.y < h
    → (let m = turn_place q w h l in (m.x < sideways (swaps q) w h) × (m.y < sideways (swaps q) h w) × (unturn q w h m.x m.y ≡ l))
unfolding turn_place unturn sideways swaps
turn-place q0 w h l i j = (i, j, refl)
turn-place q1 w h l i j = (j, omega arith, place-path (omega arith) refl)
turn-place q2 w h l i j = (omega arith, omega arith, place-path (omega arith) (omega arith))
turn-place q3 w h l i j = (omega arith, i, place-path refl (omega arith))

mirror-place : (b : Bool) (w h : ℕ) (l : Place) → l.x < w → l.y < h
    → (let m = mirror_place b w h l in (m.x < w) × (m.y < h) × (unmirror b w h m.x m.y ≡ l))
unfolding mirror_place unmirror
mirror-place true w h l i j = (omega arith, j, place-path (omega arith) refl)
mirror-place false w h l i j = (i, omega arith, place-path refl (omega arith))

exchange-twice : (m : Bool) (w : ℕ) (l : Place) → l.x < w → exchange m w (exchange m w l) ≡ l
unfolding exchange
exchange-twice true w l i = place-path (omega arith) refl
exchange-twice false w l i = refl

-- ---- the places that a sight shows are those of its rectangle

back-corner : (s : Sight) (x y : ℕ) → (s.area.x ≤ (back s x y).x) × (s.area.y ≤ (back s x y).y)
unfolding back back_from
back-corner s x y = (omega arith, omega arith)

back-area : (s : Sight) (w h : ℕ) → Inside s.area w h → (x y : ℕ) → x < final_width s → y < final_height s → In s.area (back s x y)
back-area s w h i x y l m =
    let corner = back-corner s x y in
    let b = back_in s (s.area.x + s.area.width) (s.area.y + s.area.height) (record { across = omega arith; down = omega arith; wide = i.wide; tall = i.tall }) x y l m in
    record { left = corner.0; right = b.0; top = corner.1; bottom = b.1 }

-- each of them is shown, at the place that the turn carries it to
record Front (s : Sight) (l : Place) : Type 0 where
  across : (forward s l).x < final_width s
  down : (forward s l).y < final_height s
  shows : back s (forward s l).x (forward s l).y ≡ l

front : (s : Sight) (l : Place) → In s.area l → Front s l
unfolding back back_from final_width final_height wide_of high_of forward
front s l k =
    let r = s.area in
    let q = quarter_of s.turns in
    let d : Place = record { x = l.x - r.x; y = l.y - r.y } in
    let i : l.x - r.x < r.width = omega (arith, k.left, k.right) in
    let j : l.y - r.y < r.height = omega (arith, k.top, k.bottom) in
    let e = exchange s.exchanged r.width d in
    let t = turn-place q r.width r.height e (exchange-in s.exchanged r.width d i) (rw (exchange-row s.exchanged r.width d) j) in
    record {
      across = t.0;
      down = t.1;
      shows =
          ap (λ (m : Place). record { x = r.x + (exchange s.exchanged r.width m).x; y = r.y + (exchange s.exchanged r.width m).y }) t.2
          ∙ ap (λ (m : Place). record { x = r.x + m.x; y = r.y + m.y }) (exchange-twice s.exchanged r.width d i)
          ∙ place-path (omega (arith, k.left)) (omega (arith, k.top));
    }

-- what becomes of a place, by the place that a final place shows
unfoldable Ends : Sight → Place → Carried → Type 0
Ends s l cropped = in_rect s.area l ≡ false
Ends s l (kept m) = (in_rect s.area l ≡ true) × (m.x < final_width s) × (m.y < final_height s) × (back s m.x m.y ≡ l)

record Goes (w h : ℕ) (l : Place) (s : Sight) (c : Tracked) : Type 0 where
  inside : Inside s.area w h
  width : c.width ≡ final_width s
  height : c.height ≡ final_height s
  fate : Ends s l c.place

-- it is where the turn carries it
ends-fate : (s : Sight) (l : Place) (p : Carried) → Ends s l p → Fate s l p
unfolding Ends Fate
ends-fate s l cropped k = k
ends-fate s l (kept m) k =
    let f = front s l (in-facts s.area l k.0) in
    let o = back-once s _ _ _ _ f.across f.down k.1 k.2 (f.shows ∙ sym k.3) in
    (k.0, k.1, k.2, place-path o.0 o.1)

-- ---- one entry

fate-as : (s : Sight) (l : Place) (a b : Carried) → a ≡ b → Ends s l b → Ends s l a
fate-as s l a b e k = rw e k

module _ (w h : ℕ) (l : Place) (s : Sight) (i : Inside s.area w h) where
  -- a crop
  module _ (q : Crop) (j : Around q (final_width s) (final_height s)) where
    -- a place of what is left of the rectangle is shown at a place of the crop
    shown : In (then_crop s q).area l → (m : Place) × In q.rect m × (m.x < final_width s) × (m.y < final_height s) × (back s m.x m.y ≡ l)
    shown k =
        let f = front (then_crop s q) l k in
        let m = forward (then_crop s q) l in
        let a : m.x < q.rect.width = rw (crop-width s q) at f.across in
        let b : m.y < q.rect.height = rw (crop-height s q) at f.down in (
          record { x = q.rect.x + m.x; y = q.rect.y + m.y },
          record { left = omega arith; right = omega arith; top = omega arith; bottom = omega arith },
          omega (arith, (around-inside q _ _ j).across),
          omega (arith, (around-inside q _ _ j).down),
          sym (crop-back s q j m.x m.y a b) ∙ f.shows,
        )

    crop-fate : (p : Carried) → Ends s l p → Ends (then_crop s q) l (onward (crop_place q.rect) p)
    unfolding Ends onward crop_place
    crop-fate cropped k =
        not_in _ l (λ e.
        let m = shown e in
        both_ways _ (facts-in _ l (in-as s.area _ l m.4 (back-area s w h i _ _ m.2 m.3))) k)
    crop-fate (kept m) k = by-test (in_rect q.rect m) (λ t. fate-as (then_crop s q) l _ _ (pick_true _ _ _ t) (stayed (in-facts q.rect m t))) (λ t. fate-as (then_crop s q) l _ _ (pick-false _ _ _ t) (lost t))
      where
        stayed : In q.rect m → Ends (then_crop s q) l (kept (record { x = m.x - q.rect.x; y = m.y - q.rect.y }))
        stayed n =
            let a : m.x - q.rect.x < q.rect.width = omega (arith, n.left, n.right) in
            let b : m.y - q.rect.y < q.rect.height = omega (arith, n.top, n.bottom) in
            let u : q.rect.x + (m.x - q.rect.x) ≡ m.x = omega (arith, n.left) in
            let v : q.rect.y + (m.y - q.rect.y) ≡ m.y = omega (arith, n.top) in
            let across : m.x - q.rect.x < final_width (then_crop s q) = rw (crop-width s q) a in
            let down : m.y - q.rect.y < final_height (then_crop s q) = rw (crop-height s q) b in
            let e = crop-back s q j _ _ a b ∙ ap₂ (back s) u v ∙ k.3 in
            (facts-in _ l (in-as _ _ l e (back-area (then_crop s q) w h (crop-inside s q w h i j) _ _ across down)), across, down, e)

        lost : in_rect q.rect m ≡ false → in_rect (then_crop s q).area l ≡ false
        lost t =
            not_in _ l (λ e.
            let n = shown e in
            let o = back-once s _ _ _ _ n.2 n.3 k.1 k.2 (n.4 ∙ sym k.3) in
            both_ways _ (facts-in q.rect m (in-as q.rect n.0 m (place-path o.0 o.1) n.1)) t)

  turn-fate : (a : ℕ) (p : Carried) → Ends s l p → Ends (then_turn s a) l (onward (λ m. kept (turn_place (quarter_of a) (final_width s) (final_height s) m)) p)
  unfolding Ends onward then_turn
  turn-fate a cropped k = k
  turn-fate a (kept m) k =
      let t = turn-place (quarter_of a) (final_width s) (final_height s) m k.1 k.2 in
      let n = turn_place (quarter_of a) (final_width s) (final_height s) m in
      let across : n.x < final_width (then_turn s a) = rw (turn-width s a) t.0 in
      let down : n.y < final_height (then_turn s a) = rw (turn-height s a) t.1 in
      (k.0, across, down, turn-back s a _ _ across down ∙ ap (λ (z : Place). back s z.x z.y) t.2 ∙ k.3)

  mirror-fate : (b : Bool) (p : Carried) → Ends s l p → Ends (then_mirror s b) l (onward (λ m. kept (mirror_place b (final_width s) (final_height s) m)) p)
  unfolding Ends onward then_mirror
  mirror-fate b cropped k = k
  mirror-fate b (kept m) k =
      let t = mirror-place b (final_width s) (final_height s) m k.1 k.2 in
      (k.0, rw (mirror-width s b) t.0, rw (mirror-height s b) t.1, mirror-back s b _ _ t.0 t.1 ∙ ap (λ (z : Place). back s z.x z.y) t.2 ∙ k.3)

carry-after : (w h : ℕ) (l : Place) (p : Property) (s : Sight) (c : Tracked) → Unit {0} → Goes w h l s c → Same (Goes w h l) (sight_after p s) (carry_after p c)
unfolding sight_after carry_after then_turn then_mirror
carry-after w h l Property.Other s c u k = both k
carry-after w h l (Property.Clap d) s c u k =
    rw (k.width, k.height)
    (then-both _ (Goes w h l) _ _ _ (resolve-holds d (final_width s) (final_height s))
    (λ r j. both
    (record {
      inside = crop-inside s r w h k.inside j;
      width = sym (crop-width s r);
      height = sym (crop-height s r);
      fate = crop-fate w h l s k.inside r j c.place k.fate;
    })))
carry-after w h l (Property.Irot d) s c u k =
    rw (k.width, k.height)
    (both (record { inside = k.inside; width = sym (turn-width s d.angle); height = sym (turn-height s d.angle); fate = turn-fate w h l s k.inside d.angle c.place k.fate }))
carry-after w h l (Property.Imir d) s c u k =
    rw (k.width, k.height)
    (both
    (record { inside = k.inside; width = sym (mirror-width s (odd d.axis)); height = sym (mirror-height s (odd d.axis)); fate = mirror-fate w h l s k.inside (odd d.axis) c.place k.fate }))
carry-after w h l (Property.Iscl d) s c u k = alike

-- ---- whole chains

-- where nothing is asked of an applied entry
pub all-applied : (flag : Bool) (es : List PropertyEntry) → Applied (λ p. Unit {0}) flag es
unfolding Applied
all-applied flag [] = tt
all-applied flag (e ∷ es) = (λ h. tt, all-applied flag es)

whole-goes : (w h : ℕ) (l : Place) → 1 ≤ w → 1 ≤ h → l.x < w → l.y < h → Goes w h l (whole w h) (record { width = w; height = h; place = kept l })
unfolding Ends whole final_width final_height wide_of high_of quarter_of sideways swaps back back_from exchange unturn pick
whole-goes w h l i j a b =
    record {
      inside = record { across = omega arith; down = omega arith; wide = i; tall = j };
      width = refl;
      height = refl;
      fate = (facts-in _ l (record { left = omega arith; right = omega arith; top = omega arith; bottom = omega arith }), a, b, place-path (omega arith) (omega arith));
    }

-- the chain's sight and its entries on a place of the picture refuse alike, or the place ends where the sight shows it
chain-goes : (es : List PropertyEntry) (flag : Bool) (w h : ℕ) (l : Place) → l.x < w → l.y < h → Same (Goes w h l) (sight_of es flag w h) (carry_of es flag w h l)
unfolding sight_of carry_of
chain-goes es flag w h l i j =
    fold_same (Goes w h l) (λ p. Unit {0}) sight_after carry_after (carry-after w h l) flag es (all-applied flag es) _ _ (whole-goes w h l (omega arith) (omega arith) i j)

-- THE RECTANGLE IS WHAT STAYS: where the chain is accepted, each place of the picture is carried to where the turn carries it, or
-- cropped away and outside the rectangle
pub sight-carries : (es : List PropertyEntry) (flag : Bool) (w h : ℕ) (l : Place) → l.x < w → l.y < h → (s : Sight) → sight_of es flag w h ≡ Ok s
    → (c : Tracked) × (carry_of es flag w h l ≡ Ok c) × Follows w h l s c
sight-carries es flag w h l i j s e =
    let g = same_left _ _ _ (chain-goes es flag w h l i j) s e in (
      g.0,
      g.1,
      record {
        inside = g.2.inside;
        turns = holds-done (λ (z : Sight). z.turns < 4) _ s (sight-turns es flag w h) e;
        width = g.2.width;
        height = g.2.height;
        fate = ends-fate s l g.0.place g.2.fate;
      },
    )

-- the canvas place that a final place shows is carried to it
pub back-carried : (es : List PropertyEntry) (flag : Bool) (w h : ℕ) (s : Sight) → 1 ≤ w → 1 ≤ h → sight_of es flag w h ≡ Ok s → (x y : ℕ) → x < final_width s → y < final_height s
    → (c : Tracked) × (carry_of es flag w h (back s x y) ≡ Ok c) × (c.place ≡ kept (record { x = x; y = y }))
unfolding Ends
back-carried es flag w h s i j e x y a b =
    let n = back_in s w h k x y a b in
    let c = same_left _ _ _ (chain-goes es flag w h (back s x y) n.0 n.1) s e in
    (c.0, c.1, go c.0.place c.2.fate)
  where
    k : Inside s.area w h
    k = holds-done (λ (z : Sight). Inside z.area w h) _ s (sight-inside es flag w h i j) e

    go : (p : Carried) → Ends s (back s x y) p → p ≡ kept (record { x = x; y = y })
    go cropped f = both_ways _ (facts-in _ _ (back-area s w h k x y a b)) f
    go (kept m) f = let o = back-once s _ _ _ _ f.1 f.2 a b f.3 in ap kept (place-path o.0 o.1)
