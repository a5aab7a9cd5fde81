-- A chain on a composed picture and the point run on its size: they agree, for any naming of places that the picture reads by.
use Rattle.std.specs.Prelude.{Ok, Err}
use mathlib.Core.Bool.{Bool, true}
use mathlib.Core.List.{List, []}
use mathlib.Core.Path.{◌∙◌, ◌≡◌, ap, refl, sym}
use Prim.Native.Nat.{◌<◌, ◌≤◌, max, ℕ}
use native.Mathlib.Omega.{arith}
use lib.ListN.{length}
use borrow.Author.Tests.{le-ltb, leb-false}
use Rattle.laws.proofs.Out.{Holds, Same, alike, and_then-done, both, done-same, holds-done, refuse-done, refuse-no, then-done}
use Rattle.laws.specs.Out.{Out, and_then}
use Rattle.laws.specs.Pick.{pick}
use Rattle.image.proofs.FormLaws.{cover-in}
use Rattle.image.specs.Format.{Covers, columns_of, half_x, half_y, has_part, rows_of}
use Rattle.records.specs.Record.{record_of}
use Rattle.image.specs.declared.format.Form.{Form}
use Rattle.image.specs.declared.format.Part.{Part}
use Rattle.image.specs.declared.format.PixelFormat.{PixelFormat}
use Rattle.planes.specs.Bytes.{decode, encode, tight_at}
use Rattle.planes.specs.Picture.{Agree, Pic, pixel}
use Rattle.planes.specs.inner.Even.{Even}
use Rattle.props.proofs.ChainLaws.{Applied, fold_same}
use Rattle.props.specs.Chain.{fold_chain}
use Rattle.sizes.specs.Sound.{Inside}
use Rattle.props.specs.declared.entry.Property.{Property}
use Rattle.props.specs.declared.entry.PropertyEntry.{PropertyEntry}
use Rattle.motions.specs.Chain.{NotIscl, chain_pic, pic_after}
use Rattle.motions.specs.Place.{Place, sideways, swaps, unturn}
use Rattle.motions.specs.Turn.{quarter_of}
use Rattle.sight.proofs.Agreement.{chain-sight-plain, seen-place}
use Rattle.agreement.proofs.CarryLaws.{all-applied, back-carried, sight-carries}
use Rattle.sight.proofs.Steps.{place_in, sight-inside}
use Rattle.sight.proofs.Turns.{back_in, back-once, place-path}
use Rattle.agreement.specs.Carry.{carry_of}
use Rattle.sight.specs.Sight.{back, back_from, exchange, final_height, final_width, high_of, source_place, sight_of, whole, wide_of}
use Rattle.sight.specs.declared.Sight.{Sight}
use Rattle.sight.specs.inner.Seen.{PlaceAgrees, Seen}
use Rattle.stages.specs.Chain.{Drawn, first_drawn, chain_drawn, drawn_after, scaled}
use Rattle.scene_room.specs.Scene.{room_for}
use Rattle.agreement.proofs.Halves.{point_on}
use Rattle.agreement.specs.Agreement.{Agreement, CarriedFrom, CarriedTo, Pictured, Room, Shown, canvas_height, canvas_width, inside, outside}
use Rattle.point.specs.Point.{point_from}
use Rattle.point.specs.declared.Named.{Named}
use Rattle.point.specs.declared.Point.{Point}
use Rattle.point.specs.declared.Spot.{Spot}

-- ---- the pictures that a run draws are those of the chain

unfoldable Carries : Drawn → Pic → Type 0
Carries d Q = d.pic ≡ Q

carried : (o : Out Pic) (n : ℕ) → Same Carries (and_then o (λ Q. Ok (record { pic = Q; longest = max n (length (encode Q)) }))) o
unfolding and_then Carries
carried (Err r) n = alike
carried (Ok Q) n = both refl

drawn-after : (p : Property) (d : Drawn) (Q : Pic) → Unit {0} → Carries d Q → Same Carries (drawn_after p d) (pic_after scaled p Q)
unfolding drawn_after Carries
drawn-after p d Q k e = rw (← e) (carried (pic_after scaled p d.pic) d.longest)

drawn-chain : (es : List PropertyEntry) (flag : Bool) (P : Pic) → Same Carries (chain_drawn es flag P) (chain_pic scaled es flag P)
unfolding chain_drawn chain_pic first_drawn Carries
drawn-chain es flag P = fold_same Carries (λ p. Unit {0}) drawn_after (pic_after scaled) drawn-after flag es (all-applied flag es) _ P refl

-- ---- two runs that answer alike

same_then : {A B C : Type 0} (R : A → B → Type 0) (S : B → C → Type 0) (T : A → C → Type 0) (o : Out A) (u : Out B) (v : Out C) → ((a : A) (b : B) (c : C) → R a b → S b c → T a c) → Same R o u → Same S u v → Same T o v
same_then R S T o u v f alike alike = alike
same_then R S T o u v f (both {a = a} {b = b} r) (both {b = c} s) = both (f a b c r s)

same-holds : {A B : Type 0} (H : A → Type 0) (R : A → B → Type 0) (o : Out A) (u : Out B) → Holds H o → Same R o u → Same (λ a b. H a × R a b) o u
unfolding Holds
same-holds H R o u h alike = alike
same-holds H R o u h (both {a = a} {b = b} r) = both (h, r)

-- ---- the record that a run writes

-- it is a record, and shows the picture
abbrev pub ReadsBack : Pic → Type 0
ReadsBack Q = (record_of (encode Q) ≡ Ok (tight_at Q.form 0)) × Agree (decode (encode Q) (tight_at Q.form 0)) Q

pictured : (Q : Pic) → ReadsBack Q → (M : Pic → Type 0) → ((D : Pic) → Agree D Q → M D) → Pictured (encode Q) M
pictured Q k M f = record { frame = tight_at Q.form 0; taken = k.0; holds = f _ k.1 }

covers-as : (f g : PixelFormat) (p : Part) (cx cy x y : ℕ) → f ≡ g → Covers f p cx cy x y → Covers g p cx cy x y
covers-as f g p cx cy x y e k = rw e at k

covered-column : (m : Form) (p : Part) (cx cy x y : ℕ) → x < m.width → Covers m.format p cx cy x y → cx < columns_of m p
unfolding columns_of
covered-column m p cx cy x y l k = rw (← k.across) (cover-in (half_x m.format p) x m.width l)

covered-row : (m : Form) (p : Part) (cx cy x y : ℕ) → y < m.height → Covers m.format p cx cy x y → cy < rows_of m p
unfolding rows_of
covered-row m p cx cy x y l k = rw (← k.down) (cover-in (half_y m.format p) y m.height l)

-- what a picture shows, its record shows
shown-agree : (reads : Named → Part → ℕ) (D Q : Pic) (a : Point) (x y : ℕ) → Agree D Q → Shown reads Q a x y → Shown reads D a x y
shown-agree reads D Q a x y e k =
    record {
      width = ap (λ (m : Form). m.width) e.form ∙ k.width;
      height = ap (λ (m : Form). m.height) e.form ∙ k.height;
      across = across;
      down = down;
      samples = λ p h cx cy c.
          e.reads p h cx cy (covered-column D.form p cx cy x y across c) (covered-row D.form p cx cy x y down c)
          ∙ k.samples p (ap (λ (m : Form). has_part m.format p) (sym e.form) ∙ h) cx cy (covers-as _ _ p cx cy x y (ap (λ (m : Form). m.format) e.form) c);
    }
  where
    across : x < D.form.width
    across = rw e.form k.across

    down : y < D.form.height
    down = rw e.form k.down

-- ---- one place

module _ (reads : Named → Part → ℕ) (P : Pic) (names : Place → Named)
    (there : (p : Part) → has_part P.form.format p ≡ true → (l : Place) → l.x < P.form.width → l.y < P.form.height → pixel P p l.x l.y ≡ reads (names l) p)
    (x y : ℕ) where
  -- what is answered at a place of the composed picture
  abbrev answer : Sight → Place → Out Point
  answer s l = Ok (record { named = names l; sight = s })

  at_place : (Q : Pic) (s : Sight) → ReadsBack Q → Seen P Q s → (o : Out Place) → PlaceAgrees P Q x y o → Agreement reads x y (Ok (encode Q)) (and_then o (answer s))
  unfolding PlaceAgrees and_then
  at_place Q s h v (Err r) k = rw k.0 (outside (pictured Q h _ (λ D e. not_in D e k.1)))
    where
      not_in : (D : Pic) → Agree D Q → (x < Q.form.width → y < Q.form.height → ⊥) → x < D.form.width → y < D.form.height → ⊥
      not_in D e f = rw e.form f
  at_place Q s h v (Ok l) k =
      inside
      (pictured Q h _
      (λ D e. shown-agree reads D Q _ x y e
      (record {
        width = v.width;
        height = v.height;
        across = k.across;
        down = k.down;
        samples = λ p o cx cy c. k.samples p o cx cy c ∙ there p (sym (v.parts p) ∙ o) l k.column k.row;
      })))

  -- there is room
  room-is : (d : Drawn) (output spare : ℕ) → d.longest ≤ output → d.longest ≤ spare → room_for output spare d ≡ Ok (encode d.pic)
  unfolding room_for
  room-is d output spare l m = refuse-no _ _ (le-ltb output d.longest l) ∙ refuse-no _ _ (le-ltb spare d.longest m)

  agreement-as : {o o' : Out (List ℕ)} {u : Out Point} → o ≡ o' → Agreement reads x y o u → Agreement reads x y o' u
  agreement-as e k = rw (← e) k

  at-sight : (o : Out Drawn) (u : Out Sight) → Same (λ (d : Drawn) (s : Sight). ReadsBack d.pic × Seen P d.pic s) o u → (output spare : ℕ) → Room o output spare
      → Agreement reads x y (and_then o (room_for output spare)) (and_then u (λ s. and_then (source_place s x y) (answer s)))
  unfolding and_then Room
  at-sight o u alike output spare m = Agreement.alike
  at-sight o u (both {a = d} {b = s} k) output spare m =
      agreement-as (sym (room-is d output spare (m d refl).0 (m d refl).1)) (at_place d.pic s k.0 k.1 (source_place s x y) (seen-place P d.pic s k.1 x y))

-- ---- a picture run and the point runs

module _ (P : Pic) (even : Even P.form) (wide : 1 ≤ P.form.width) (tall : 1 ≤ P.form.height) (es : List PropertyEntry) (flag : Bool) (plain : Applied NotIscl flag es) (names : Place → Named) where
  seen : Same (Seen P) (chain_pic scaled es flag P) (sight_of es flag P.form.width P.form.height)
  seen = chain-sight-plain P scaled flag es even wide tall plain

  drawn-seen : Same (λ (d : Drawn) (s : Sight). Seen P d.pic s) (chain_drawn es flag P) (sight_of es flag P.form.width P.form.height)
  unfolding Carries
  drawn-seen = same_then Carries (Seen P) _ _ _ _ (λ d Q s e v. rw e v) (drawn-chain es flag P) seen

  -- the picture run and the point run agree at every place
  pub chain-agrees : (reads : Named → Part → ℕ)
      → ((p : Part) → has_part P.form.format p ≡ true → (l : Place) → l.x < P.form.width → l.y < P.form.height → pixel P p l.x l.y ≡ reads (names l) p)
      → Holds (λ (d : Drawn). ReadsBack d.pic) (chain_drawn es flag P) → (x y output spare : ℕ) → Room (chain_drawn es flag P) output spare
      → Agreement reads x y (and_then (chain_drawn es flag P) (room_for output spare)) (point_on es flag P.form.width P.form.height x y names)
  unfolding point_on point_from
  chain-agrees reads there kept x y output spare m = at-sight reads P names there x y _ _ (same-holds _ _ _ _ kept drawn-seen) output spare m

-- ---- the empty chain

-- the whole picture as it is
whole_back : (w h u v : ℕ) → back (whole w h) u v ≡ record { x = u; y = v }
unfolding whole back back_from exchange quarter_of unturn pick
whole_back w h u v = place-path (omega arith) (omega arith)

whole-place : (w h u v : ℕ) → u < w → v < h → source_place (whole w h) u v ≡ Ok (record { x = u; y = v })
unfolding whole final_width final_height wide_of high_of quarter_of sideways swaps pick
whole-place w h u v l m = place_in (whole w h) u v l m ∙ ap Ok (whole_back w h u v)

whole-sides : (w h : ℕ) → (final_width (whole w h) ≡ w) × (final_height (whole w h) ≡ h)
unfolding whole final_width final_height wide_of high_of quarter_of sideways swaps pick
whole-sides w h = (refl, refl)

whole-sight : (flag : Bool) (w h : ℕ) (s : Sight) → sight_of [] flag w h ≡ Ok s → whole w h ≡ s
unfolding sight_of fold_chain
whole-sight flag w h s e = done-same _ s e

bare-point : (flag : Bool) (w h u v : ℕ) (names : Place → Named) → u < w → v < h → point_on [] flag w h u v names ≡ Ok (record { named = names (record { x = u; y = v }); sight = whole w h })
unfolding point_on point_from sight_of fold_chain and_then
bare-point flag w h u v names l m = then-done _ (whole-place w h u v l m)

-- ---- point runs: a chain on a canvas w by h, whose places have names

module _ (w h : ℕ) (wide : 1 ≤ w) (tall : 1 ≤ h) (es : List PropertyEntry) (flag : Bool) (names : Place → Named) where
  abbrev pointed : ℕ → ℕ → Out Point
  pointed x y = point_on es flag w h x y names

  abbrev bare : ℕ → ℕ → Out Point
  bare u v = point_on [] flag w h u v names

  -- a point run that answers: the canvas place that it names
  record Answered (x y : ℕ) (a : Point) : Type 0 where
    sighted : sight_of es flag w h ≡ Ok a.sight
    across : x < final_width a.sight
    down : y < final_height a.sight
    column : (back a.sight x y).x < w
    row : (back a.sight x y).y < h
    named : names (back a.sight x y) ≡ a.named

  answered : (x y : ℕ) (a : Point) → pointed x y ≡ Ok a → Answered x y a
  unfolding point_on point_from source_place
  answered x y a e =
      let i = and_then-done _ _ a e in
      let j = and_then-done _ _ a i.2 in
      let f = refuse-done _ _ _ _ j.1 in
      let g = refuse-done _ _ _ _ f.1 in
      let s : i.0 ≡ a.sight = ap (λ (z : Point). z.sight) (done-same _ a j.2) in
      let n : names j.0 ≡ a.named = ap (λ (z : Point). z.named) (done-same _ a j.2) in
      let across : x < final_width i.0 = leb-false _ _ f.0 in
      let down : y < final_height i.0 = leb-false _ _ g.0 in
      let q : back i.0 x y ≡ j.0 = done-same _ _ g.1 in
      let b = back_in i.0 w h (holds-done (λ (z : Sight). Inside z.area w h) _ i.0 (sight-inside es flag w h wide tall) i.1) x y across down in
      record { sighted = i.1 ∙ ap Ok s; across = rw s at across; down = rw s at down; column = rw s at b.0; row = rw s at b.1; named = ap (λ (z : Sight). names (back z x y)) (sym s) ∙ ap names q ∙ n }

  -- no two places name one spot, if no two places of the canvas do
  pub chain-once : ((l m : Place) (k : Spot) → l.x < w → l.y < h → m.x < w → m.y < h → names l ≡ Named.Spot k → names m ≡ Named.Spot k → l ≡ m)
      → (x y u v : ℕ) (a b : Point) (k : Spot) → pointed x y ≡ Ok a → pointed u v ≡ Ok b → a.named ≡ Named.Spot k → b.named ≡ Named.Spot k → (x ≡ u) × (y ≡ v)
  chain-once apart x y u v a b k p q e f =
      let i = answered x y a p in
      let j = answered u v b q in
      let s : a.sight ≡ b.sight = done-same _ _ (sym i.sighted ∙ j.sighted) in
      back-once a.sight x y u v i.across i.down (rw s j.across) (rw s j.down)
      (apart (back a.sight x y) (back a.sight u v) k i.column i.row (rw s j.column) (rw s j.row) (i.named ∙ e) (rw s j.named ∙ f))

  -- what holds of the names of all places of the canvas
  pub chain-names : (M : Named → Type 0) → ((l : Place) → l.x < w → l.y < h → M (names l)) → (x y : ℕ) (a : Point) → pointed x y ≡ Ok a → M a.named
  chain-names M f x y a e =
      let i = answered x y a e in
      rw i.named at (f (back a.sight x y) i.column i.row)

  -- the run with the empty chain answers for the canvas
  record Canvas (u v : ℕ) (b : Point) : Type 0 where
    width : canvas_width b ≡ w
    height : canvas_height b ≡ h
    column : u < w
    row : v < h

  canvas : (u v : ℕ) (b : Point) → bare u v ≡ Ok b → Canvas u v b
  unfolding point_on point_from source_place
  canvas u v b e =
      let i = and_then-done _ _ b e in
      let j = and_then-done _ _ b i.2 in
      let f = refuse-done _ _ _ _ j.1 in
      let g = refuse-done _ _ _ _ f.1 in
      let t = whole-sight flag w h i.0 i.1 in
      let s : i.0 ≡ b.sight = ap (λ (z : Point). z.sight) (done-same _ b j.2) in
      let across : u < final_width i.0 = leb-false _ _ f.0 in
      let down : v < final_height i.0 = leb-false _ _ g.0 in
      let wide : final_width i.0 ≡ w = sym (ap final_width t) ∙ (whole-sides w h).0 in
      let high : final_height i.0 ≡ h = sym (ap final_height t) ∙ (whole-sides w h).1 in
      record { width = sym (ap final_width s) ∙ wide; height = sym (ap final_height s) ∙ high; column = rw wide at across; row = rw high at down }

  -- the rectangle and the turn of an answer are the chain's
  pub chain-sighted : (x y u v : ℕ) (a b : Point) → pointed x y ≡ Ok a → bare u v ≡ Ok b → sight_of es flag (canvas_width b) (canvas_height b) ≡ Ok a.sight
  chain-sighted x y u v a b p q = let c = canvas u v b q in rw (c.width, c.height) (answered x y a p).sighted

  -- the rectangle is what stays
  pub chain-stays : (u v : ℕ) (b : Point) (s : Sight) → bare u v ≡ Ok b → sight_of es flag (canvas_width b) (canvas_height b) ≡ Ok s
      → CarriedTo (carry_of es flag) (canvas_width b) (canvas_height b) (record { x = u; y = v }) s
  chain-stays u v b s q e =
      let c = canvas u v b q in
      let k = sight-carries es flag (canvas_width b) (canvas_height b) (record { x = u; y = v }) (rw c.width c.column) (rw c.height c.row) s e in
      record { end = k.0; carried = k.1; follows = k.2 }

  -- a final place names what the canvas place that is carried there names
  pub chain-through : (x y : ℕ) (a : Point) → pointed x y ≡ Ok a → CarriedFrom (carry_of es flag) bare a x y
  chain-through x y a e =
      let i = answered x y a e in
      let c = back-carried es flag w h a.sight wide tall i.sighted x y i.across i.down in
      record {
        place = back a.sight x y;
        answer = record { named = names (back a.sight x y); sight = whole w h };
        answers = bare-point flag w h _ _ names i.column i.row;
        named = i.named;
        end = c.0;
        carried = rw ((whole-sides w h).0, (whole-sides w h).1) c.1;
        arrived = c.2;
      }
