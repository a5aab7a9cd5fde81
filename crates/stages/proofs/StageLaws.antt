-- The stages of a chain: what a sight shows of a record, held until it is drawn, is what the entries in turn would have made.
use Rattle.std.specs.Prelude.{Ok}
use mathlib.Core.Bool.{Bool, false, not, true}
use mathlib.Core.List.{List}
use mathlib.Core.Path.{◌∙◌, ◌≡◌, ap, ap₂, refl, sym}
use Prim.Native.Nat.{ℕ}
use native.Mathlib.Omega.{arith}
use lib.ListN.{length}
use Rattle.laws.proofs.Order.{and-true, apart, by-test, pick-false, pick_true}
use Rattle.laws.proofs.Out.{done-same, same-done, same_left, and_then-done}
use Rattle.image.proofs.FormLaws.{height-le, width-le}
use Rattle.records.proofs.RecordLaws.{whole-sound}
use Rattle.image.specs.Format.{needs444, odd}
use Rattle.records.specs.Record.{record_of}
use Rattle.image.specs.Sound.{FormSound}
use Rattle.records.specs.inner.Placed.{Sound}
use Rattle.image.specs.declared.format.Form.{Form}
use Rattle.planes.proofs.PictureLaws.{evenly-if, needs-X, needs-Y, odd-false}
use Rattle.planes.proofs.RoundTrip.{agree-in-range, agree-sym, encode-agree, length-encode}
use Rattle.planes.specs.Bytes.{decode, encode, size_of, tight_at}
use Rattle.planes.specs.Picture.{Agree, Pic}
use Rattle.planes.specs.inner.Even.{Even}
use Rattle.planes.specs.inner.InRange.{InRange}
use Rattle.props.specs.declared.entry.Property.{Property}
use Rattle.motions.specs.Chain.{NotIscl, pic_after}
use Rattle.sizes.specs.Aperture.{resolve_of}
use Rattle.sight.proofs.Agreement.{after_same, view-whole}
use Rattle.sight.specs.Sight.{final_height, final_width, sight_after, whole}
use Rattle.sight.specs.inner.Bounded.{Bounded}
use Rattle.sight.specs.inner.Seen.{View}
use Rattle.sight.specs.declared.Sight.{Sight}
use Rattle.view.proofs.ViewLaws.{reached-crop, reached-mirror, reached-turn, reached-whole, view-drawn}
use Rattle.view.specs.inner.View.{Reached, Shown, shown}
use Rattle.stages.proofs.AfterLaws.{Formed, Shows, after-bytes, after-form, in-range-back}
use Rattle.stages.specs.Chain.{scaled}
use Rattle.stages.specs.declared.stage.Stage.{Stage}
use Rattle.stages.specs.inner.Stage.{Showing, StageSound, record_after, sight_here, stage_bytes, stage_held, stage_pic}
use Rattle.stages.specs.inner.Held.{form_after, is_even, is_held, scales}

-- ---- a property on a picture, its record and its form

pub record Next (p : Property) (Q : Pic) (b : List ℕ) : Type 0 where
  pub pic : Pic
  pub run : pic_after scaled p Q ≡ Ok pic
  pub in_range : InRange pic
  pub bytes : b ≡ encode pic
  pub form : form_after p Q.form ≡ Ok pic.form

pub next_of : (p : Property) (Q : Pic) (b : List ℕ) → InRange Q → record_after p (encode Q) ≡ Ok b → Next p Q b
unfolding Formed
next_of p Q b k e =
    let a = same_left Shows _ _ (after-bytes p Q k) b e in
    let f = same-done Formed _ _ (after-form p Q k.sound) a.0 a.1 in
    record { pic = a.0; run = a.1; in_range = a.2.in_range; bytes = a.2.bytes; form = f.1 ∙ ap Ok f.2 }

-- ---- a stage at a record

pub pic-form : (bs : List ℕ) (m : Form) → (decode bs (tight_at m 0)).form ≡ m
unfolding decode tight_at
pic-form bs m = refl

-- the record of a picture
record At (bs : List ℕ) (m : Form) : Type 0 where
  in_range : InRange (decode bs (tight_at m 0))
  bytes : bs ≡ encode (decode bs (tight_at m 0))

at-record : (Q : Pic) → InRange Q → (bs : List ℕ) → bs ≡ encode Q → (m : Form) → m ≡ Q.form → At bs m
at-record Q k bs e m f =
    let a : Agree (decode bs (tight_at m 0)) Q = rw (e, f) (in-range-back Q k).1 in
    record { in_range = agree-in-range Q _ (agree-sym _ Q a) k; bytes = e ∙ sym (encode-agree _ Q a) }

pub stage_at : (Q : Pic) → InRange Q → (bs : List ℕ) → bs ≡ encode Q → (t : Stage) → t.from ≡ Q.form → t.form ≡ Q.form → t.shown ≡ false → StageSound t bs
stage_at Q k bs e t f g h =
    let a = at-record Q k bs e t.from f in
    record { in_range = a.in_range; bytes = a.bytes; plain = λ z. g ∙ sym f; shows = λ z. apart (cc) }

-- what a stage has reached
pub record Reaches (t : Stage) (bs : List ℕ) : Type 0 where
  pub pic : Pic
  pub in_range : InRange pic
  pub form : pic.form ≡ t.form
  pub bytes : stage_bytes t bs ≡ encode pic

shows-bytes : (t : Stage) (bs : List ℕ) → t.shown ≡ true → (w : Showing (stage_pic t bs) t) → stage_bytes t bs ≡ encode w.pic
unfolding stage_bytes
shows-bytes t bs h w =
    pick_true _ _ _ h ∙ ap (λ (n : Form). encode (shown n t.sight (stage_pic t bs))) (sym w.form)
    ∙ encode-agree _ _ (view-drawn (stage_pic t bs) w.pic t.sight w.view (rw w.form w.shown))

pub plain-bytes : (t : Stage) (bs : List ℕ) → t.shown ≡ false → stage_bytes t bs ≡ bs
unfolding stage_bytes
plain-bytes t bs h = pick-false _ _ _ h

pub stage-reaches : (t : Stage) (bs : List ℕ) → StageSound t bs → Reaches t bs
stage-reaches t bs k =
    by-test t.shown
    (λ h. let w = k.shows h in record { pic = w.pic; in_range = w.in_range; form = w.form; bytes = shows-bytes t bs h w })
    (λ h. record { pic = stage_pic t bs; in_range = k.in_range; form = pic-form bs t.from ∙ sym (k.plain h); bytes = plain-bytes t bs h ∙ k.bytes })

-- the frame that is read to draw what is shown
pub stage-frame : (t : Stage) (bs : List ℕ) → StageSound t bs → Sound bs (tight_at t.from 0)
stage-frame t bs k =
    (whole-sound bs _ (ap record_of k.bytes ∙ (in-range-back (stage_pic t bs) k.in_range).0 ∙ ap (λ (m : Form). Ok (tight_at m 0)) (pic-form bs t.from))).0

pub stage-form : (t : Stage) (bs : List ℕ) → StageSound t bs → FormSound t.from
stage-form t bs k = rw (← pic-form bs t.from) k.in_range.sound

pub stage-shown : (t : Stage) (bs : List ℕ) → StageSound t bs → t.shown ≡ true → Shown (tight_at t.from 0).form t.form t.sight
unfolding tight_at decode
stage-shown t bs k h = (k.shows h).shown

pub stage-sound : (t : Stage) (bs : List ℕ) → StageSound t bs → FormSound t.form
stage-sound t bs k = let w = stage-reaches t bs k in rw (← w.form) w.in_range.sound

pub shown-is : (t : Stage) (bs : List ℕ) → t.shown ≡ true → stage_bytes t bs ≡ encode (shown t.form t.sight (stage_pic t bs))
unfolding stage_bytes
shown-is t bs h = pick_true _ _ _ h

-- ---- a property that a sight can hold

not_yes : (t : Bool) → not t ≡ true → t ≡ false
not_yes true e = sym e
not_yes false e = refl

even-form : (m : Form) → is_even m ≡ true → Even m
unfolding is_even
even-form m e =
    let n = not_yes (needs444 m.format (odd m.width) (odd m.height)) e in
    record { even_x = evenly-if _ _ (λ h. odd-false m.width (needs-X m.format _ (odd m.height) n h)); even_y = evenly-if _ _ (λ h. odd-false m.height (needs-Y m.format (odd m.width) _ n h)) }

not-iscl : (p : Property) → scales p ≡ false → NotIscl p
unfolding scales NotIscl
not-iscl Property.Other e = tt
not-iscl (Property.Clap c) e = tt
not-iscl (Property.Irot k) e = tt
not-iscl (Property.Imir k) e = tt
not-iscl (Property.Iscl k) e = apart (cc)

pub held-even : (p : Property) (m : Form) → is_held p m ≡ true → is_even m ≡ true
unfolding is_held
held-even p m e = (and-true (not (scales p)) (is_even m) e).1

-- the format that is reached
reached-after : (p : Property) (m n n' : Form) (s u : Sight) → NotIscl p → n.width ≡ final_width s → n.height ≡ final_height s
    → form_after p n ≡ Ok n' → sight_after p s ≡ Ok u → Reached m n s → Reached m n' u
unfolding form_after sight_after NotIscl
reached-after Property.Other m n n' s u i w h a b k = rw (← done-same n n' a, ← done-same s u b) k
reached-after (Property.Clap c) m n n' s u i w h a b k =
    let e = and_then-done _ _ n' a in
    let f = and_then-done _ _ u b in
    let r : e.0 ≡ f.0 = done-same _ _ (sym e.1 ∙ ap₂ (resolve_of c) w h ∙ f.1) in
    rw (← done-same _ n' e.2, ← done-same _ u f.2, r) (reached-crop m n s f.0 k)
reached-after (Property.Irot q) m n n' s u i w h a b k = rw (← done-same _ n' a, ← done-same _ u b) (reached-turn m n s q.angle k)
reached-after (Property.Imir q) m n n' s u i w h a b k = rw (← done-same n n' a, ← done-same _ u b) (reached-mirror m n s (odd q.axis) k)
reached-after (Property.Iscl q) m n n' s u i w h a b k = absurd i

-- what a stage shows from where its sight goes on
record Viewed (t : Stage) (bs : List ℕ) : Type 0 where
  pic : Pic
  in_range : InRange pic
  form : pic.form ≡ t.form
  view : View (stage_pic t bs) pic (sight_here t)
  reached : Reached (stage_pic t bs).form t.form (sight_here t)
  bytes : stage_bytes t bs ≡ encode pic

stage-viewed : (t : Stage) (bs : List ℕ) → StageSound t bs → Even t.form → Viewed t bs
unfolding sight_here
stage-viewed t bs k ev = by-test t.shown shows plain
  where
    P : Pic
    P = stage_pic t bs

    shows : t.shown ≡ true → Viewed t bs
    shows h =
        let w = k.shows h in
        let e : sight_here t ≡ t.sight = pick_true _ _ _ h in
        record { pic = w.pic; in_range = w.in_range; form = w.form; view = rw e w.view; reached = rw e w.shown.reached; bytes = shows-bytes t bs h w }

    plain : t.shown ≡ false → Viewed t bs
    plain h =
        let f : P.form ≡ t.form = pic-form bs t.from ∙ sym (k.plain h) in
        let e : sight_here t ≡ whole P.form.width P.form.height = pick-false _ _ _ h ∙ ap (λ (m : Form). whole m.width m.height) (sym f) in
        record {
          pic = P;
          in_range = k.in_range;
          form = f;
          view = rw e (view-whole P (rw f ev) k.in_range.sound.wide k.in_range.sound.tall);
          reached = rw (e, ← f) (reached-whole P.form _ _);
          bytes = plain-bytes t bs h ∙ k.bytes;
        }

-- the sight of a picture within its limits
pub stage-bounded : (t : Stage) (bs : List ℕ) → StageSound t bs → is_even t.form ≡ true → Bounded (sight_here t).area
stage-bounded t bs k e =
    let v = stage-viewed t bs k (even-form t.form e) in
    let i = v.view.inside in
    let w = width-le _ k.in_range.sound in
    let h = height-le _ k.in_range.sound in
    record { across = omega (arith, i.across, w); down = omega (arith, i.down, h) }

-- a property more in the sight
pub record Held (p : Property) (t : Stage) (bs b : List ℕ) : Type 0 where
  pub form : Form
  pub sight : Sight
  pub formed : form_after p t.form ≡ Ok form
  pub sighted : sight_after p (sight_here t) ≡ Ok sight
  pub sound : StageSound (stage_held t form sight) bs
  pub bytes : stage_bytes (stage_held t form sight) bs ≡ b
  pub size : size_of form ≡ length b

pub stage-held : (p : Property) (t : Stage) (bs b : List ℕ) → StageSound t bs → is_held p t.form ≡ true → record_after p (stage_bytes t bs) ≡ Ok b → Held p t bs b
unfolding is_held stage_held
stage-held p t bs b k e q =
    let ok = and-true _ _ e in
    let n = not-iscl p (not_yes _ ok.0) in
    let v = stage-viewed t bs k (even-form t.form ok.1) in
    let Q = v.pic in
    let P = stage_pic t bs in
    let s = sight_here t in
    let x = next_of p Q b v.in_range (ap (record_after p) (sym v.bytes) ∙ q) in
    let u = same_left (View P) _ _ (after_same P scaled p Q s n v.view) x.pic x.run in
    let w = v.view.shows in
    let z = u.2.shows in
    let formed : form_after p t.form ≡ Ok x.pic.form = ap (form_after p) (sym v.form) ∙ x.form in
    let known : Shown P.form x.pic.form u.0 = record {
      from = k.in_range.sound;
      sound = x.in_range.sound;
      inside = u.2.inside;
      turns = u.2.turns;
      width = z.width;
      height = z.height;
      depth = z.depth;
      parts = z.parts;
      reached = reached-after p P.form t.form x.pic.form s u.0 n (ap (λ (m : Form). m.width) (sym v.form) ∙ w.width) (ap (λ (m : Form). m.height) (sym v.form) ∙ w.height) formed u.1 v.reached;
    } in
    let shows : Showing P (stage_held t x.pic.form u.0) = record { pic = x.pic; in_range = x.in_range; form = refl; view = u.2; shown = known } in
    let sound : StageSound (stage_held t x.pic.form u.0) bs = record { in_range = k.in_range; bytes = k.bytes; plain = λ h. apart (cc); shows = λ h. shows } in
    record {
      form = x.pic.form;
      sight = u.0;
      formed = formed;
      sighted = u.1;
      sound = sound;
      bytes = shows-bytes (stage_held t x.pic.form u.0) bs refl shows ∙ sym x.bytes;
      size = sym (ap length x.bytes ∙ length-encode x.pic);
    }
