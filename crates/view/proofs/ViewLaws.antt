-- What a sight shows of a picture is one move of it, and is what a chain's entries in turn make of it.
use mathlib.Core.Bool.{Bool, ◌||◌, false, not, true}
use mathlib.Core.List.{List}
use mathlib.Core.Path.{◌∙◌, ◌≡◌, ap, ap₂, refl, sym}
use Prim.Native.Nat.{◌*◌, ◌+◌, ◌-◌, ◌%◌, ◌<◌, ◌^◌, ◌≤◌, ℕ}
use native.Mathlib.Omega.{arith}
use lib.Dec.{eqb, leb}
use lib.ListN.{length}
use borrow.Author.Tests.{eq-eqb, eqb-true, ne_eqb, not-false}
use Rattle.laws.proofs.Order.{apart, by-test, pick-both, pick-false, pick_true}
use Rattle.laws.specs.Pick.{pick}
use Rattle.image.proofs.FormLaws.{height-le, width-le}
use Rattle.image.specs.Format.{as444, bytes_of, columns_of, cover, half_x, half_y, halved, halves_x, halves_y, has_part, odd, rows_of, side_of, sized}
use Rattle.image.specs.declared.format.Form.{Form}
use Rattle.image.specs.declared.format.Part.{Part}
use Rattle.image.specs.declared.format.Part.TheVariants.{Alpha, Cb, Cr, Luma}
use Rattle.image.specs.declared.format.PixelFormat.{PixelFormat}
use Rattle.planes.specs.Picture.{Agree, Pic, full, pixel, promote}
use Rattle.moves.proofs.Drawn.{full-sides}
use Rattle.moves.specs.declared.walk.Axis.{Axis}
use Rattle.moves.specs.declared.walk.Move.{Move}
use Rattle.moves.specs.inner.Move.{MoveFits, along_from, moved, plane_axis}
use Rattle.motions.proofs.Fits.{AxisMoves, balanced, moves-fit}
use Rattle.motions.specs.inner.Moves.{crop_move, crop_with, form_with, half_move, half_with, quarter_move, quarter_with, turn_form}
use Rattle.motions.specs.Place.{sideways, swaps, unturn}
use Rattle.motions.specs.Turn.{Quarter, q0, q1, q2, q3, quarter_of}
use Rattle.sight.specs.inner.Seen.{View}
use Rattle.sight.proofs.Quarters.{by-quarter, flipped, next, plus, quarter-mirror, quarter-sum}
use Rattle.planes.proofs.RoundTrip.{length-encode}
use Rattle.planes.specs.Bytes.{decode, encode, size_of}
use Rattle.records.specs.declared.record.Frame.{Frame}
use Rattle.sight.specs.Sight.{back, back_from, exchange, final_height, final_width, high_of, then_crop, then_mirror, then_turn, whole, wide_of}
use Rattle.sight.specs.declared.Sight.{Sight}
use Rattle.sizes.specs.declared.clap.Crop.{Crop}
use Rattle.sizes.specs.declared.clap.CropRect.{CropRect}
use Rattle.view.specs.inner.View.{Reached, Shown, kept, promoted, runs_left, runs_up, shown, sight_axis, sight_move, turns_left, turns_up}

-- ---- along one axis

-- so many places from one on, either way, of an axis of n: t promoted, h halved
axis-moves : (t h b : Bool) (a len n : ℕ) → n ≤ 2 ^ 30 → a + len ≤ n → 1 ≤ len → AxisMoves t h (sight_axis b a len) (side_of (pick t false h) len) n
unfolding plane_axis pick cover side_of along_from sight_axis
axis-moves true true true a len n s l o = record { fits = record { small = omega arith; bounded = omega arith; behind = λ k q b. omega arith }; inside = λ k q. omega arith }
axis-moves true true false a len n s l o = record { fits = record { small = omega arith; bounded = omega arith; behind = λ k q b. apart (cc) }; inside = λ k q. omega arith }
axis-moves true false true a len n s l o = record { fits = record { small = omega arith; bounded = omega arith; behind = λ k q b. omega arith }; inside = λ k q. omega arith }
axis-moves true false false a len n s l o = record { fits = record { small = omega arith; bounded = omega arith; behind = λ k q b. apart (cc) }; inside = λ k q. omega arith }
axis-moves false true true a len n s l o = record { fits = record { small = omega arith; bounded = omega arith; behind = λ k q b. omega arith }; inside = λ k q. omega arith }
axis-moves false true false a len n s l o = record { fits = record { small = omega arith; bounded = omega arith; behind = λ k q b. apart (cc) }; inside = λ k q. omega arith }
axis-moves false false true a len n s l o = record { fits = record { small = omega arith; bounded = omega arith; behind = λ k q b. omega arith }; inside = λ k q. omega arith }
axis-moves false false false a len n s l o = record { fits = record { small = omega arith; bounded = omega arith; behind = λ k q b. apart (cc) }; inside = λ k q. omega arith }

-- the first place that a sample covers
first_place : Bool → ℕ → ℕ
first_place true c = 2 * c
first_place false c = c

first-covers : (h : Bool) (c : ℕ) → cover h (first_place h c) ≡ c
unfolding first_place cover
first-covers true c = omega arith
first-covers false c = refl

first-inside : (h : Bool) (n c : ℕ) → c < side_of h n → first_place h c < n
unfolding first_place side_of
first-inside true n c l = omega arith
first-inside false n c l = l

-- and the sample that covers a place so far along
first-along : (h b : Bool) (a len c : ℕ) → 1 ≤ len → first_place h c < len
    → cover h (along_from b (sight_axis b a len).from (first_place h c)) ≡ along_from b (cover h (sight_axis b a len).from) c
unfolding first_place cover along_from sight_axis pick
first-along true true a len c o l = omega arith
first-along true false a len c o l = omega arith
first-along false true a len c o l = refl
first-along false false a len c o l = refl

-- ---- the place that a sight names is the place on its axes

module _ (r : CropRect) (m : Bool) (wide : 1 ≤ r.width) (tall : 1 ≤ r.height) where
  abbrev left_of : Quarter → Bool
  left_of q = pick m (not (turns_left q)) (turns_left q)

  along-quarter : (q : Quarter) (x y : ℕ) → x < sideways (swaps q) r.width r.height → y < sideways (swaps q) r.height r.width
      → ((back_from r m q x y).x ≡ along_from (left_of q) (sight_axis (left_of q) r.x r.width).from (pick (swaps q) y x))
      × ((back_from r m q x y).y ≡ along_from (turns_up q) (sight_axis (turns_up q) r.y r.height).from (pick (swaps q) x y))
  unfolding back_from along_from sight_axis pick unturn swaps sideways turns_left turns_up exchange not
  along-quarter q0 x y l k = (go m, row m)
    where
      go : (m : Bool) → (back_from r m q0 x y).x ≡ along_from (pick m true false) (sight_axis (pick m true false) r.x r.width).from x
      go true = omega arith
      go false = refl

      row : (m : Bool) → (back_from r m q0 x y).y ≡ r.y + y
      row true = refl
      row false = refl
  along-quarter q1 x y l k = (go m, row m)
    where
      go : (m : Bool) → (back_from r m q1 x y).x ≡ along_from (pick m false true) (sight_axis (pick m false true) r.x r.width).from y
      go true = omega arith
      go false = omega arith

      row : (m : Bool) → (back_from r m q1 x y).y ≡ r.y + x
      row true = refl
      row false = refl
  along-quarter q2 x y l k = (go m, row m)
    where
      go : (m : Bool) → (back_from r m q2 x y).x ≡ along_from (pick m false true) (sight_axis (pick m false true) r.x r.width).from x
      go true = omega arith
      go false = omega arith

      row : (m : Bool) → (back_from r m q2 x y).y ≡ r.y + r.height - 1 - y
      row true = omega arith
      row false = omega arith
  along-quarter q3 x y l k = (go m, row m)
    where
      go : (m : Bool) → (back_from r m q3 x y).x ≡ along_from (pick m true false) (sight_axis (pick m true false) r.x r.width).from y
      go true = omega arith
      go false = refl

      row : (m : Bool) → (back_from r m q3 x y).y ≡ r.y + r.height - 1 - x
      row true = omega arith
      row false = omega arith

-- ---- the planes that are walked

-- no plane of a picture at 4:4:4 is halved
no-halves : (f : PixelFormat) (p : Part) → f.chroma ≡ 3 → (half_x f p ≡ false) × (half_y f p ≡ false)
unfolding halves_x halves_y halved
no-halves f p e = (ap (λ (c : ℕ). halved (eqb c 1 || eqb c 2) p) e ∙ plain p, ap (λ (c : ℕ). halved (eqb c 1) p) e ∙ plain p)
  where
    plain : (p : Part) → halved false p ≡ false
    plain Luma = refl
    plain Cb = refl
    plain Cr = refl
    plain Alpha = refl

chroma-444 : (m n : Form) → n.format ≡ (as444 m).format → n.format.chroma ≡ 3
unfolding as444
chroma-444 m n e = ap (λ (f : PixelFormat). f.chroma) e

module _ (m n : Form) (s : Sight) where
  abbrev q : Quarter
  q = quarter_of s.turns

  abbrev is_promoted : Bool
  is_promoted = not (eqb m.format.chroma n.format.chroma)

  -- along each axis of the old form: a plane of the new one is halved as the old one is, or promoted
  pub record Halves (p : Part) : Type 0 where
    pub across : pick (swaps q) (half_y n.format p) (half_x n.format p) ≡ pick is_promoted false (half_x m.format p)
    pub down : pick (swaps q) (half_x n.format p) (half_y n.format p) ≡ pick is_promoted false (half_y m.format p)

  pub reached-halves : Reached m n s → (p : Part) → Halves p
  reached-halves (kept e b) p =
      let same : is_promoted ≡ false = ap (λ (f : PixelFormat). not (eqb m.format.chroma f.chroma)) e ∙ ap not (eq-eqb m.format.chroma _ refl) in
      let plain : (h : Bool) → h ≡ pick is_promoted false h = λ h. sym (pick-false _ false h same) in
      record {
        across = rw e (by-test (swaps q) (λ t. pick_true _ _ _ t ∙ ap (λ (z : Bool). halved z p) (sym (b t))) (λ t. pick-false _ _ _ t)) ∙ plain _;
        down = rw e (by-test (swaps q) (λ t. pick_true _ _ _ t ∙ ap (λ (z : Bool). halved z p) (b t)) (λ t. pick-false _ _ _ t)) ∙ plain _;
      }
  reached-halves (promoted e) p =
      let z = no-halves n.format p (chroma-444 m n e) in
      let none : (h : Bool) → (is_promoted ≡ false → h ≡ false) → false ≡ pick is_promoted false h =
      λ h f. by-test is_promoted (λ t. sym (pick_true _ _ _ t)) (λ t. sym (f t) ∙ sym (pick-false _ false h t)) in
      record {
        across = pick-both (λ x. x ≡ false) (swaps q) _ _ z.1 z.0 ∙ none _ (λ t. (no-halves m.format p (three t)).0);
        down = pick-both (λ x. x ≡ false) (swaps q) _ _ z.0 z.1 ∙ none _ (λ t. (no-halves m.format p (three t)).1);
      }
    where
      three : is_promoted ≡ false → m.format.chroma ≡ 3
      three t = eqb-true _ _ (not-false _ t) ∙ chroma-444 m n e

  module _ (k : Shown m n s) where
    -- as many samples along each axis of the old form as the rectangle has there
    count-across : (p : Part) → pick (swaps q) (rows_of n p) (columns_of n p) ≡ side_of (pick is_promoted false (half_x m.format p)) s.area.width
    unfolding columns_of rows_of final_width final_height wide_of high_of sideways pick
    count-across p = rw (k.width, k.height, ← (reached-halves k.reached p).across) (go (swaps q))
      where
        go : (t : Bool) → pick t (side_of (half_y n.format p) (sideways t s.area.height s.area.width)) (side_of (half_x n.format p) (sideways t s.area.width s.area.height))
            ≡ side_of (pick t (half_y n.format p) (half_x n.format p)) s.area.width
        go true = refl
        go false = refl

    count_down : (p : Part) → pick (swaps q) (columns_of n p) (rows_of n p) ≡ side_of (pick is_promoted false (half_y m.format p)) s.area.height
    unfolding columns_of rows_of final_width final_height wide_of high_of sideways pick
    count_down p = rw (k.width, k.height, ← (reached-halves k.reached p).down) (go (swaps q))
      where
        go : (t : Bool) → pick t (side_of (half_x n.format p) (sideways t s.area.width s.area.height)) (side_of (half_y n.format p) (sideways t s.area.height s.area.width))
            ≡ side_of (pick t (half_x n.format p) (half_y n.format p)) s.area.height
        go true = refl
        go false = refl

    pub shown-fits : MoveFits m (sight_move m n s)
    unfolding sight_move bytes_of
    shown-fits = moves-fit m (sight_move m n s) k.sound (rw k.depth) k.parts (record {
      across = λ p. rw (count-across p) (axis-moves is_promoted (half_x m.format p) (runs_left s) s.area.x s.area.width m.width (width-le m k.from) k.inside.across k.inside.wide);
      down = λ p. rw (count_down p) (axis-moves is_promoted (half_y m.format p) (runs_up s) s.area.y s.area.height m.height (height-le m k.from) k.inside.down k.inside.tall);
    })

-- ---- what is drawn

pick_first : (t : Bool) (a b : Bool) (x y : ℕ) → pick t (first_place a x) (first_place b y) ≡ first_place (pick t a b) (pick t x y)
unfolding pick
pick_first true a b x y = refl
pick_first false a b x y = refl

pixel-at : (P : Pic) (p : Part) (i j e f : ℕ) → cover (half_x P.form.format p) e ≡ i → cover (half_y P.form.format p) f ≡ j → P.at p i j ≡ pixel P p e f
unfolding pixel
pixel-at P p i j e f a b = sym (ap₂ (P.at p) a b)

module _ (P Q : Pic) (s : Sight) (v : View P Q s) (k : Shown P.form Q.form s) (p : Part) (has : has_part Q.form.format p ≡ true) (x y : ℕ)
    (l : x < columns_of Q.form p) (u : y < rows_of Q.form p) where
  abbrev turned : Quarter
  turned = quarter_of s.turns

  abbrev was_promoted : Bool
  was_promoted = not (eqb P.form.format.chroma Q.form.format.chroma)

  abbrev from_x : ℕ
  from_x = (sight_axis (runs_left s) s.area.x s.area.width).from

  abbrev from_y : ℕ
  from_y = (sight_axis (runs_up s) s.area.y s.area.height).from

  -- the first place that the sample covers
  abbrev column : ℕ
  column = first_place (half_x Q.form.format p) x

  abbrev row : ℕ
  row = first_place (half_y Q.form.format p) y

  in-width : column < final_width s
  unfolding columns_of
  in-width = rw (← k.width) (first-inside _ _ x l)

  in-height : row < final_height s
  unfolding rows_of
  in-height = rw (← k.height) (first-inside _ _ y u)

  reads_first : Q.at p x y ≡ pixel P p (back s column row).x (back s column row).y
  unfolding pixel
  reads_first = sym (ap₂ (Q.at p) (first-covers (half_x Q.form.format p) x) (first-covers (half_y Q.form.format p) y))
      ∙ v.shows.reads p (sym (v.shows.parts p) ∙ has) column row in-width in-height

  -- and the place on the sight's axes
  abbrev halves : Halves P.form Q.form s p
  halves = reached-halves P.form Q.form s k.reached p

  along_x : (back s column row).x ≡ along_from (runs_left s) from_x (first_place (pick was_promoted false (half_x P.form.format p)) (pick (swaps turned) y x))
  unfolding back runs_left final_width final_height wide_of high_of
  along_x =
      (along-quarter s.area s.exchanged k.inside.wide k.inside.tall turned column row in-width in-height).0
      ∙ ap (along_from (runs_left s) from_x) (pick_first (swaps turned) _ _ y x ∙ ap (λ (h : Bool). first_place h (pick (swaps turned) y x)) halves.across)

  along_y : (back s column row).y ≡ along_from (runs_up s) from_y (first_place (pick was_promoted false (half_y P.form.format p)) (pick (swaps turned) x y))
  unfolding back runs_up final_width final_height wide_of high_of
  along_y =
      (along-quarter s.area s.exchanged k.inside.wide k.inside.tall turned column row in-width in-height).1
      ∙ ap (along_from (runs_up s) from_y) (pick_first (swaps turned) _ _ x y ∙ ap (λ (h : Bool). first_place h (pick (swaps turned) x y)) halves.down)

  -- so far along each axis of the rectangle
  far_x : first_place (pick was_promoted false (half_x P.form.format p)) (pick (swaps turned) y x) < s.area.width
  unfolding final_width final_height wide_of high_of sideways
  far_x = rw (← halves.across, ← (pick_first (swaps turned) (half_y Q.form.format p) (half_x Q.form.format p) y x)) (go (swaps turned) in-width in-height)
    where
      go : (t : Bool) → column < sideways t s.area.width s.area.height → row < sideways t s.area.height s.area.width → pick t row column < s.area.width
      go true a b = rw (pick_true true row column refl) b
      go false a b = rw (pick-false false row column refl) a

  far_y : first_place (pick was_promoted false (half_y P.form.format p)) (pick (swaps turned) x y) < s.area.height
  unfolding final_width final_height wide_of high_of sideways
  far_y = rw (← halves.down, ← (pick_first (swaps turned) (half_x Q.form.format p) (half_y Q.form.format p) x y)) (go (swaps turned) in-width in-height)
    where
      go : (t : Bool) → column < sideways t s.area.width s.area.height → row < sideways t s.area.height s.area.width → pick t column row < s.area.height
      go true a b = rw (pick_true true column row refl) a
      go false a b = rw (pick-false false column row refl) b

  has_p : has_part P.form.format p ≡ true
  has_p = sym (v.shows.parts p) ∙ has

  -- a sample of the move is what the picture reads at that place, promoted or not
  moved-pixel : (t : Bool) (i j : ℕ) → first_place (pick t false (half_x P.form.format p)) i < s.area.width → first_place (pick t false (half_y P.form.format p)) j < s.area.height →
      (let R = pick t (promote P) P in
      R.at p (along_from (runs_left s) (cover (half_x R.form.format p) from_x) i) (along_from (runs_up s) (cover (half_y R.form.format p) from_y) j))
      ≡ pixel P p (along_from (runs_left s) from_x (first_place (pick t false (half_x P.form.format p)) i)) (along_from (runs_up s) from_y (first_place (pick t false (half_y P.form.format p)) j))
  unfolding pick promote full first_place cover
  moved-pixel true i j a b = rw ((full-sides P.form p).0, (full-sides P.form p).1, has_p)
  moved-pixel false i j a b = reads
    where
      reads : P.at p (along_from (runs_left s) (cover (half_x P.form.format p) from_x) i) (along_from (runs_up s) (cover (half_y P.form.format p) from_y) j)
          ≡ pixel P p (along_from (runs_left s) from_x (first_place (half_x P.form.format p) i)) (along_from (runs_up s) from_y (first_place (half_y P.form.format p) j))
      reads = pixel-at P p _ _ _ _ (first-along (half_x P.form.format p) (runs_left s) s.area.x s.area.width i k.inside.wide a)
          (first-along (half_y P.form.format p) (runs_up s) s.area.y s.area.height j k.inside.tall b)

  shown-at : (shown Q.form s P).at p x y ≡ Q.at p x y
  unfolding shown moved sight_move sight_axis
  shown-at = moved-pixel was_promoted (pick (swaps turned) y x) (pick (swaps turned) x y) far_x far_y ∙ sym (reads_first ∙ ap₂ (pixel P p) along_x along_y)

-- what a sight shows is drawn by its move
pub view-drawn : (P Q : Pic) (s : Sight) → View P Q s → Shown P.form Q.form s → Agree (shown Q.form s P) Q
unfolding shown moved sight_move
view-drawn P Q s v k = record { form = refl; reads = λ p h x y a b. shown-at P Q s v k p h x y a b }

-- ---- the form that entries reach

same-444 : (m n : Form) → n.format ≡ m.format → (as444 n).format ≡ (as444 m).format
unfolding as444
same-444 m n e = rw e

again-444 : (m n : Form) → n.format ≡ (as444 m).format → (as444 n).format ≡ (as444 m).format
unfolding as444
again-444 m n e = rw e

-- a form with the format of another, promoted or not
reached-with : (b : Bool) (m n n' : Form) (s s' : Sight) → n'.format ≡ (form_with b n).format
    → (b ≡ false → (swaps (quarter_of s.turns) ≡ true → halves_x n.format ≡ halves_y n.format) → swaps (quarter_of s'.turns) ≡ true → halves_x n.format ≡ halves_y n.format)
    → Reached m n s → Reached m n' s'
unfolding form_with pick
reached-with true m n n' s s' e f (kept i b) = promoted (e ∙ same-444 m n i)
reached-with true m n n' s s' e f (promoted i) = promoted (e ∙ again-444 m n i)
reached-with false m n n' s s' e f (kept i b) = kept (e ∙ i) (λ t. rw i at (f refl (λ z. rw i (b z)) t))
reached-with false m n n' s s' e f (promoted i) = promoted (e ∙ i)

pub reached-whole : (m : Form) (w h : ℕ) → Reached m m (whole w h)
unfolding whole quarter_of swaps pick
reached-whole m w h = kept refl (λ t. apart (cc))

pub reached-crop : (m n : Form) (s : Sight) (k : Crop) → Reached m n s → Reached m (crop_move n k.rect).form (then_crop s k)
unfolding crop_move crop_with sized then_crop
reached-crop m n s k r = reached-with _ m n (crop_move n k.rect).form s (then_crop s k) refl (λ e f. f) r

flipped-swaps : (b : Bool) (q : Quarter) → swaps (flipped b q) ≡ swaps q
unfolding swaps flipped
flipped-swaps true q0 = refl
flipped-swaps true q1 = refl
flipped-swaps true q2 = refl
flipped-swaps true q3 = refl
flipped-swaps false q0 = refl
flipped-swaps false q1 = refl
flipped-swaps false q2 = refl
flipped-swaps false q3 = refl

pub reached-mirror : (m n : Form) (s : Sight) (b : Bool) → Reached m n s → Reached m n (then_mirror s b)
unfolding then_mirror form_with pick
reached-mirror m n s b k = reached-with false m n n s (then_mirror s b) refl (λ e f t. f (sym (ap swaps (quarter-mirror b s.turns) ∙ flipped-swaps b _) ∙ t)) k

halfway-swaps : (q : Quarter) → swaps (plus q q2) ≡ swaps q
unfolding swaps plus next
halfway-swaps q0 = refl
halfway-swaps q1 = refl
halfway-swaps q2 = refl
halfway-swaps q3 = refl

pub reached-turn : (m n : Form) (s : Sight) (a : ℕ) → Reached m n s → Reached m (turn_form n (quarter_of a)) (then_turn s a)
unfolding then_turn turn_form quarter_move quarter_with half_move half_with sized plus form_with pick
reached-turn m n s a k = go (quarter_of a) (ap swaps (quarter-sum s.turns a))
  where
    go : (q : Quarter) → swaps (quarter_of (then_turn s a).turns) ≡ swaps (plus (quarter_of s.turns) q) → Reached m (turn_form n q) (then_turn s a)
    go q0 e = reached-with false m n (turn_form n q0) s (then_turn s a) refl (λ z f t. f (sym e ∙ t)) k
    go q1 e = reached-with (quarter_move n true false).promoted m n (turn_form n q1) s (then_turn s a) refl (λ z f t. balanced n.format (odd n.width) (odd n.height) z) k
    go q2 e = reached-with (half_move n).promoted m n (turn_form n q2) s (then_turn s a) refl (λ z f t. f (sym (e ∙ halfway-swaps (quarter_of s.turns)) ∙ t)) k
    go q3 e = reached-with (quarter_move n false true).promoted m n (turn_form n q3) s (then_turn s a) refl (λ z f t. balanced n.format (odd n.width) (odd n.height) z) k

-- ---- the turns by their number

turns-left : (a : ℕ) → turns_left (quarter_of a) ≡ (eqb (a % 4) 1 || eqb (a % 4) 2)
unfolding turns_left quarter_of pick
turns-left a = by-quarter a (λ e. rw e refl) (λ e. rw e refl) (λ e. rw e refl) (λ e. rw e refl)

turns_up_lem : (a : ℕ) → turns_up (quarter_of a) ≡ leb 2 (a % 4)
unfolding turns_up quarter_of pick
turns_up_lem a = by-quarter a (λ e. rw e refl) (λ e. rw e refl) (λ e. rw e refl) (λ e. rw e refl)

turns-swap : (a : ℕ) → swaps (quarter_of a) ≡ eqb (a % 2) 1
unfolding swaps quarter_of pick
turns-swap a =
    by-quarter a
    (λ e. rw e (sym (ne_eqb (a % 2) 1 (λ z. omega arith))))
    (λ e. rw e (sym (eq-eqb (a % 2) 1 (omega arith))))
    (λ e. rw e (sym (ne_eqb (a % 2) 1 (λ z. omega arith))))
    (λ e. rw e (sym (eq-eqb (a % 2) 1 (omega arith))))

pub left_is : (s : Sight) (t : Bool) → t ≡ (eqb (s.turns % 4) 1 || eqb (s.turns % 4) 2) → runs_left s ≡ pick t (not s.exchanged) s.exchanged
unfolding runs_left pick not
left_is s t e = rw (turns-left s.turns, ← e) (go t s.exchanged)
  where
    go : (t x : Bool) → pick x (not t) t ≡ pick t (not x) x
    go true true = refl
    go true false = refl
    go false true = refl
    go false false = refl

pub up_is : (s : Sight) → leb 2 (s.turns % 4) ≡ runs_up s
unfolding runs_up
up_is s = sym (turns_up_lem s.turns)

pub move-is : (m n : Form) (s : Sight) (a b : Axis) → a ≡ sight_axis (runs_left s) s.area.x s.area.width → b ≡ sight_axis (runs_up s) s.area.y s.area.height
    → ◌≡◌ {A = Move} (record { form = n; promoted = not (eqb m.format.chroma n.format.chroma); swapped = eqb (s.turns % 2) 1; across = a; down = b }) (sight_move m n s)
unfolding sight_move
move-is m n s a b p q = rw (p, q, turns-swap s.turns)

pub shown-size : (n : Form) (s : Sight) (P : Pic) → length (encode (shown n s P)) ≡ size_of n
unfolding shown moved sight_move
shown-size n s P = length-encode (shown n s P)

pub drawn-by : (bs : List ℕ) (fr : Frame) (n : Form) (s : Sight) (v : Move) → v ≡ sight_move fr.form n s → moved v (decode bs fr) ≡ shown n s (decode bs fr)
unfolding shown decode
drawn-by bs fr n s v e = ap (λ (u : Move). moved u (decode bs fr)) e
