-- A chain on a picture and the same chain on a sight: the same refusal, or a picture that is what the sight shows.
use Rattle.std.specs.Prelude.{Ok, Err}
use mathlib.Core.Bool.{Bool, false, true}
use mathlib.Core.List.{List}
use mathlib.Core.Path.{◌∙◌, ◌≡◌, ap, ap₂, refl, sym}
use Prim.Native.Nat.{◌*◌, ◌<◌, ◌≤◌, ℕ}
use native.Mathlib.Omega.{arith}
use Rattle.laws.proofs.Order.{by_order}
use Rattle.laws.proofs.Out.{Same, alike, both, then-both}
use Rattle.laws.specs.Out.{Out, reason}
use Rattle.laws.specs.Pick.{pick}
use Rattle.image.specs.Format.{columns_of, cover, half_x, half_y, rows_of, side_of, odd, Covers}
use Rattle.planes.specs.Picture.{Pic, pixel}
use Rattle.planes.specs.inner.Even.{Even}
use Rattle.image.specs.declared.format.Form.{Form}
use Rattle.image.specs.declared.format.Part.{Part}
use Rattle.sizes.proofs.ApertureLaws.{resolve-holds}
use Rattle.sizes.proofs.MarginLaws.{around-inside}
use Rattle.props.proofs.ChainLaws.{Applied, fold_same}
use Rattle.sizes.specs.Aperture.{resolve_of}
use Rattle.sizes.specs.Margins.{Around}
use Rattle.sizes.specs.Sound.{Inside}
use Rattle.sizes.specs.declared.clap.Crop.{Crop}
use Rattle.props.specs.declared.entry.Property.{Property}
use Rattle.props.specs.declared.entry.PropertyEntry.{PropertyEntry}
use Rattle.sizes.specs.declared.iscl.Iscl.{Iscl}
use Rattle.motions.proofs.Shown.{crop-shows, mirror-shows, turn-shows}
use Rattle.motions.specs.Place.{Place, sideways, swaps, unturn}
use Rattle.motions.specs.inner.Shows.{Shows, uncrop, unmirror}
use Rattle.motions.specs.Turn.{crop, mirror, quarter_of, turn}
use Rattle.sight.proofs.Quarters.{mirror-below}
use Rattle.sight.proofs.Steps.{place-across, place_down, place_in}
use Rattle.sight.proofs.Turns.{back_in, back-once, crop-back, crop-height, crop-inside, crop-width, mirror-back, mirror-height, mirror-width, turn-back, turn-height, turn-width, unmirror-in, unturn-in}
use Rattle.motions.specs.Chain.{NotIscl, chain_pic, pic_after}
use Rattle.sight.specs.inner.Seen.{View, PlaceAgrees, Seen}
use Rattle.sight.specs.Sight.{back, back_from, exchange, final_height, final_width, high_of, source_place, sight_after, sight_of, then_crop, then_mirror, then_turn, whole, wide_of}
use Rattle.sight.specs.declared.Sight.{Sight}

-- ---- one step after the other, by any map that is the composite at each place

pub shows_then : (P Q R : Pic) (w h w' h' : ℕ) (b c e : ℕ → ℕ → Place) → Shows P Q w h b → Shows Q R w' h' c
    → ((x y : ℕ) → x < w' → y < h' → ((c x y).x < w) × ((c x y).y < h)) → ((x y : ℕ) → x < w' → y < h' → e x y ≡ b (c x y).x (c x y).y) → Shows P R w' h' e
shows_then P Q R w h w' h' b c e u v i k =
    record {
      width = v.width;
      height = v.height;
      depth = v.depth ∙ u.depth;
      parts = λ p. v.parts p ∙ u.parts p;
      even = v.even;
      reads = λ p o x y l m. v.reads p (u.parts p ∙ o) x y l m ∙ u.reads p o _ _ (i x y l m).0 (i x y l m).1 ∙ ap (λ (t : Place). pixel P p t.x t.y) (sym (k x y l m));
    }

-- one more of anything that shows Q by the sight's own size
view_then : (P Q R : Pic) (s u : Sight) (c : ℕ → ℕ → Place) → View P Q s → Inside u.area P.form.width P.form.height → u.turns < 4
    → Shows Q R (final_width u) (final_height u) c
    → ((x y : ℕ) → x < final_width u → y < final_height u → ((c x y).x < final_width s) × ((c x y).y < final_height s))
    → ((x y : ℕ) → x < final_width u → y < final_height u → back u x y ≡ back s (c x y).x (c x y).y) → View P R u
view_then P Q R s u c v i t w k e =
    record { inside = i; turns = t; shows = shows_then P Q R (final_width s) (final_height s) (final_width u) (final_height u) (back s) c (back u) v.shows w k e }

-- ---- entry by entry

turn-area : (s : Sight) (a w h : ℕ) → Inside s.area w h → Inside (then_turn s a).area w h
unfolding then_turn
turn-area s a w h i = i

turn_below : (s : Sight) (a : ℕ) → (then_turn s a).turns < 4
unfolding then_turn
turn_below s a = omega arith

mirror-area : (s : Sight) (b : Bool) (w h : ℕ) → Inside s.area w h → Inside (then_mirror s b).area w h
unfolding then_mirror
mirror-area s b w h i = i

mirror_turns_lem : (s : Sight) (b : Bool) → (then_mirror s b).turns < 4
unfolding then_mirror
mirror_turns_lem s b = mirror-below b s.turns

crop-turns : (s : Sight) (k : Crop) → s.turns < 4 → (then_crop s k).turns < 4
unfolding then_crop
crop-turns s k l = l

turn-view : (P Q : Pic) (s : Sight) (a : ℕ) → View P Q s → View P (turn Q (quarter_of a)) (then_turn s a)
turn-view P Q s a v =
    view_then P Q (turn Q (quarter_of a)) s (then_turn s a) (unturn (quarter_of a) (final_width s) (final_height s)) v (turn-area s a _ _ v.inside) (turn_below s a)
    (rw (turn-width s a, turn-height s a, ← v.shows.width, ← v.shows.height) (turn-shows Q v.shows.even (quarter_of a)))
    (λ x y l m. unturn-in (quarter_of a) (final_width s) (final_height s) x y (rw (turn-width s a) at l) (rw (turn-height s a) at m))
    (λ x y l m. turn-back s a x y l m)

mirror-view : (P Q : Pic) (s : Sight) (b : Bool) → View P Q s → View P (mirror Q b) (then_mirror s b)
mirror-view P Q s b v =
    view_then P Q (mirror Q b) s (then_mirror s b) (unmirror b (final_width s) (final_height s)) v (mirror-area s b _ _ v.inside) (mirror_turns_lem s b)
    (rw (mirror-width s b, mirror-height s b, ← v.shows.width, ← v.shows.height) (mirror-shows Q v.shows.even b))
    (λ x y l m. unmirror-in b (final_width s) (final_height s) x y (rw (mirror-width s b) at l) (rw (mirror-height s b) at m))
    (λ x y l m. mirror-back s b x y (rw (mirror-width s b) at l) (rw (mirror-height s b) at m))

crop-view : (P Q : Pic) (s : Sight) (k : Crop) → View P Q s → Around k (final_width s) (final_height s) → View P (crop Q k.rect) (then_crop s k)
unfolding uncrop
crop-view P Q s k v i =
    let j = around-inside k _ _ i in
    view_then P Q (crop Q k.rect) s (then_crop s k) (uncrop k.rect) v (crop-inside s k _ _ v.inside i) (crop-turns s k v.turns)
    (rw (crop-width s k, crop-height s k) (crop-shows Q k.rect))
    (λ x y l m.
    let a : x < k.rect.width = rw (crop-width s k) at l in
    let b : y < k.rect.height = rw (crop-height s k) at m in
    (omega (arith, j.across), omega (arith, j.down)))
    (λ x y l m. crop-back s k i x y (rw (crop-width s k) at l) (rw (crop-height s k) at m))

around-as : {w h w' h' : ℕ} (k : Crop) → w ≡ w' → h ≡ h' → Around k w h → Around k w' h'
around-as k p q i = rw (← p, ← q) i

-- an entry that is no iscl
pub after_same : (P : Pic) (scale : Iscl → Pic → Out Pic) (e : Property) (Q : Pic) (s : Sight) → NotIscl e → View P Q s → Same (View P) (pic_after scale e Q) (sight_after e s)
unfolding pic_after sight_after NotIscl
after_same P scale Property.Other Q s n v = both v
after_same P scale (Property.Clap c) Q s n v =
    rw (← v.shows.width, ← v.shows.height)
    (then-both (λ k. Around k Q.form.width Q.form.height) (View P) (resolve_of c Q.form.width Q.form.height) _ _ (resolve-holds c _ _)
    (λ k i. both (crop-view P Q s k v (around-as k v.shows.width v.shows.height i))))
after_same P scale (Property.Irot k) Q s n v = both (turn-view P Q s k.angle v)
after_same P scale (Property.Imir k) Q s n v = both (mirror-view P Q s (odd k.axis) v)
after_same P scale (Property.Iscl k) Q s n v = absurd n

-- ---- whole chains

-- a picture as it is
pub view-whole : (P : Pic) → Even P.form → 1 ≤ P.form.width → 1 ≤ P.form.height → View P P (whole P.form.width P.form.height)
unfolding whole final_width final_height wide_of high_of sideways swaps back back_from exchange unturn quarter_of pick
view-whole P ev w h =
    record {
      inside = record { across = omega arith; down = omega arith; wide = w; tall = h };
      turns = omega arith;
      shows = record { width = refl; height = refl; depth = refl; parts = λ p. refl; even = ev; reads = λ p o x y l m. ap₂ (pixel P p) (omega arith) (omega arith) };
    }

-- a sample is what its plane reads at each place that it covers
pub covered : (Q : Pic) (p : Part) (cx cy x y : ℕ) → Covers Q.form.format p cx cy x y → Q.at p cx cy ≡ pixel Q p x y
unfolding pixel
covered Q p cx cy x y o = ap₂ (Q.at p) (sym o.across) (sym o.down)

view-seen : (P Q : Pic) (s : Sight) → View P Q s → Seen P Q s
view-seen P Q s v =
    record {
      width = v.shows.width;
      height = v.shows.height;
      depth = v.shows.depth;
      parts = v.shows.parts;
      even = v.shows.even;
      inside = v.inside;
      turns = v.turns;
      samples = λ p o cx cy x y l m k. covered Q p cx cy x y k ∙ v.shows.reads p (sym (v.shows.parts p) ∙ o) x y (rw v.shows.width at l) (rw v.shows.height at m);
      once = λ x y u z l m k j e. back-once s x y u z (rw v.shows.width at l) (rw v.shows.height at m) (rw v.shows.width at k) (rw v.shows.height at j) e;
    }

same_map : {A B : Type 0} (R S : A → B → Type 0) (o : Out A) (u : Out B) → ((a : A) (b : B) → R a b → S a b) → Same R o u → Same S o u
same_map R S o u f alike = alike
same_map R S o u f (both {a = a} {b = b} r) = both (f a b r)

-- a chain of which no applied entry is an iscl, on a picture whose halved sides are even and on the sight of its size: the same refusal,
-- or a picture that is what the sight shows
pub chain-sight-plain : (P : Pic) (scale : Iscl → Pic → Out Pic) (flag : Bool) (es : List PropertyEntry) → Even P.form → 1 ≤ P.form.width → 1 ≤ P.form.height → Applied NotIscl flag es
    → Same (Seen P) (chain_pic scale es flag P) (sight_of es flag P.form.width P.form.height)
unfolding chain_pic sight_of
chain-sight-plain P scale flag es ev w h n =
    same_map (View P) (Seen P) _ _ (view-seen P) (fold_same (View P) NotIscl (pic_after scale) sight_after (after_same P scale) flag es n P _ (view-whole P ev w h))

-- ---- place by place

-- every sample covers a place
some-place : (b : Bool) (n c : ℕ) → c < side_of b n → (x : ℕ) × (x < n) × (cover b x ≡ c)
unfolding side_of cover
some-place true n c l = (2 * c, omega arith, omega arith)
some-place false n c l = (c, l, refl)

pub covers-some : (m : Form) (p : Part) (cx cy : ℕ) → cx < columns_of m p → cy < rows_of m p → (x : ℕ) × (y : ℕ) × (x < m.width) × (y < m.height) × Covers m.format p cx cy x y
unfolding columns_of rows_of
covers-some m p cx cy l k =
    let u = some-place (half_x m.format p) m.width cx l in
    let v = some-place (half_y m.format p) m.height cy k in
    (u.0, v.0, u.1, v.1, record { across = u.2; down = v.2 })

-- what is answered at a final place of what a sight shows
pub seen-place : (P Q : Pic) (s : Sight) → Seen P Q s → (x y : ℕ) → PlaceAgrees P Q x y (source_place s x y)
unfolding PlaceAgrees
seen-place P Q s v x y =
    by_order x (final_width s)
    (λ l. by_order y (final_height s)
    (λ m. found (back_in s _ _ v.inside x y l m) (omega (arith, v.width)) (omega (arith, v.height)) (place_in s x y l m))
    (λ m. outside (λ i j. omega (arith, v.height)) (place_down s x y (final_width s) (final_height s) refl l refl m)))
    (λ l. outside (λ i j. omega (arith, v.width)) (place-across s x y (final_width s) refl l))
  where
    agrees-as : {o u : Out Place} → o ≡ u → PlaceAgrees P Q x y o → PlaceAgrees P Q x y u
    agrees-as e k = rw (← e) k

    found : ((back s x y).x < P.form.width) × ((back s x y).y < P.form.height) → x < Q.form.width → y < Q.form.height → source_place s x y ≡ Ok (back s x y) → PlaceAgrees P Q x y (source_place s x y)
    found i l m e = agrees-as (sym e) (record { across = l; down = m; column = i.0; row = i.1; samples = λ p o cx cy k. v.samples p o cx cy x y l m k })

    outside : (x < Q.form.width → y < Q.form.height → ⊥) → Err (reason 18) ≡ source_place s x y → PlaceAgrees P Q x y (source_place s x y)
    outside f e = agrees-as e (refl, f)
