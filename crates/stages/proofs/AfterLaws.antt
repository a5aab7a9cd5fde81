-- What a property makes of a picture, of its record and of its form.
use Rattle.std.specs.Prelude.{Ok}
use mathlib.Core.Bool.{Bool, false, true}
use mathlib.Core.List.{List, [], append-nil}
use mathlib.Core.Path.{◌∙◌, ◌≡◌, ap, ap₂, refl, sym}
use Prim.Native.Nat.{ℕ}
use lib.Dec.{lit≤}
use borrow.Author.Tests.{eqb-true}
use Rattle.laws.proofs.Order.{and-true, by-test, pick-false, pick_true}
use Rattle.laws.proofs.Out.{Holds, Same, alike, both, done-holds, then-both, then-done, then-holds}
use Rattle.laws.specs.Out.{Out, and_then}
use Rattle.laws.specs.Pick.{pick}
use Rattle.image.proofs.FormLaws.{bytes-cases}
use Rattle.planes.proofs.RoundTrip.{Small, agree-in-range, agree_trans, decode-encode, encode-agree, encode-back}
use Rattle.planes.specs.inner.InRange.{InRange}
use Rattle.planes.specs.Bytes.{decode, encode, tight_at}
use Rattle.image.specs.Format.{has_part, odd, sized, has_size}
use Rattle.planes.specs.Picture.{Agree, Pic}
use Rattle.records.specs.Record.{record_of}
use Rattle.image.specs.Sound.{FormSound}
use Rattle.image.specs.declared.format.Form.{Form}
use Rattle.records.specs.declared.record.Frame.{Frame}
use Rattle.sizes.proofs.ApertureLaws.{resolve-inside}
use Rattle.sizes.proofs.ScaleLaws.{scale-sound}
use Rattle.sizes.specs.Aperture.{resolve_of}
use Rattle.sizes.specs.Scale.{scale_of}
use Rattle.props.specs.declared.entry.Property.{Property}
use Rattle.sizes.specs.declared.iscl.Iscl.{Iscl}
use Rattle.image.specs.declared.size.Size.{Size}
use Rattle.motions.proofs.Carried.{crop-made, draws-agree, draws-form, draws-in-range, mirror-made, turn_agree, turn-form, turn-in-range}
use Rattle.motions.specs.inner.Moves.{mirror_move}
use Rattle.transform.specs.Run.{turn_bytes}
use Rattle.motions.specs.Turn.{Quarter, q0, q1, q2, q3, quarter_of, turn}
use Rattle.sampling.proofs.AgreeLaws.{area-agree}
use Rattle.resample.proofs.RunLaws.{own-sound, sized-sound}
use Rattle.sampling.proofs.SmallLaws.{area_small}
use Rattle.sampling.specs.Area.{area}
use Rattle.resample.specs.Run.{area_bytes}
use Rattle.motions.specs.Chain.{pic_after}
use Rattle.stages.specs.inner.Stage.{record_after}
use Rattle.stages.specs.Chain.{scaled}
use Rattle.stages.specs.inner.Held.{form_after}

-- ---- a picture and its record

-- the same picture, with 0 where it has no part
unfoldable tidy : Pic → Pic
tidy P = record { form = P.form; at = λ p x y. pick (has_part P.form.format p) (P.at p x y) 0 }

tidy-agree : (P : Pic) → Agree (tidy P) P
unfolding tidy
tidy-agree P = record { form = refl; reads = λ p h x y a b. pick_true _ _ _ h }

tidy-small : (P : Pic) → InRange P → Small (tidy P)
unfolding tidy
tidy-small P k =
    record {
      small = λ p x y a b.
          by-test (has_part P.form.format p)
          (λ h. rw (pick_true _ (P.at p x y) 0 h) (k.small p h x y a b))
          (λ h. rw (pick-false _ (P.at p x y) 0 h) (bytes-cases P.form.format (λ e. rw e (lit≤ tt)) (λ e. rw e (lit≤ tt))));
    }

-- the record of a picture is taken, and shows the picture
pub in-range-back : (P : Pic) → InRange P → (record_of (encode P) ≡ Ok (tight_at P.form 0)) × Agree (decode (encode P) (tight_at P.form 0)) P
unfolding tidy
in-range-back P k =
    let e = encode-agree (tidy P) P (tidy-agree P) in (
      ap record_of (sym e) ∙ encode-back (tidy P) k.sound,
      agree_trans _ _ _ (decode-encode (tidy P) k.sound (tidy-small P k) (encode P) 0 [] (sym e ∙ sym (append-nil (encode (tidy P))))).1 (tidy-agree P),
    )

-- ---- scaling

area-in-range : (P : Pic) (z : Size) → InRange P → FormSound (sized P.form z.width z.height) → InRange (area P z.width z.height)
unfolding area tidy
area-in-range P z k s =
    agree-in-range _ _ (area-agree (tidy P) P z.width z.height k.sound (tidy-agree P))
    (record { sound = s; small = λ p h x y a b. (area_small (tidy P) z.width z.height k.sound (tidy-small P k)).small p x y a b })

scale-fits : (k : Iscl) (m : Form) (z : Size) → FormSound m → scale_of k m.width m.height ≡ Ok z → FormSound (sized m z.width z.height)
scale-fits k m z s e = sized-sound m z s (scale-sound k _ z (own-sound m s) e)

scaled-in-range : (P : Pic) (b : Bool) (z : Size) → InRange P → FormSound (sized P.form z.width z.height) → InRange (pick b P (area P z.width z.height))
unfolding pick
scaled-in-range P true z k s = k
scaled-in-range P false z k s = area-in-range P z k s

-- ---- what a property makes of a picture is a picture of that sort

pub after-in-range : (p : Property) (P : Pic) → InRange P → Holds InRange (pic_after scaled p P)
unfolding pic_after scaled Holds
after-in-range Property.Other P k = k
after-in-range (Property.Clap c) P k =
    then-holds _ InRange (resolve_of c P.form.width P.form.height) _
    (done-holds (λ r. resolve_of c P.form.width P.form.height ≡ Ok r) _ (λ r e. e))
    (λ r e. draws-in-range _ _ P (crop-made P r.rect k.sound (resolve-inside c _ _ r e)) k)
after-in-range (Property.Irot t) P k = turn-in-range P (quarter_of t.angle) k
after-in-range (Property.Imir t) P k = draws-in-range _ _ P (mirror-made P (odd t.axis) k.sound) k
after-in-range (Property.Iscl t) P k =
    then-holds _ InRange (scale_of t P.form.width P.form.height) _
    (done-holds (λ z. scale_of t P.form.width P.form.height ≡ Ok z) _ (λ z e. e))
    (λ z e. scaled-in-range P _ z k (scale-fits t P.form z k.sound e))

-- ---- its form, by the form alone

unfoldable pub Formed : Form → Pic → Type 0
Formed m Q = m ≡ Q.form

same-form : (m : Form) (z : Size) → has_size m z.width z.height ≡ true → sized m z.width z.height ≡ m
unfolding has_size sized
same-form m z e =
    let a = and-true _ _ e in
    ap₂ (λ (w h : ℕ). sized m w h) (sym (eqb-true m.width z.width a.0)) (sym (eqb-true m.height z.height a.1))

scaled-form : (P : Pic) (b : Bool) (z : Size) → b ≡ has_size P.form z.width z.height → sized P.form z.width z.height ≡ (pick b P (area P z.width z.height)).form
unfolding pick area
scaled-form P true z e = same-form P.form z (sym e)
scaled-form P false z e = refl

pub after-form : (p : Property) (P : Pic) → FormSound P.form → Same Formed (form_after p P.form) (pic_after scaled p P)
unfolding pic_after scaled form_after Formed mirror_move
after-form Property.Other P k = both refl
after-form (Property.Clap c) P k =
    then-both _ Formed (resolve_of c P.form.width P.form.height) _ _
    (done-holds (λ r. resolve_of c P.form.width P.form.height ≡ Ok r) _ (λ r e. e))
    (λ r e. both (sym (draws-form _ _ P (crop-made P r.rect k (resolve-inside c _ _ r e)))))
after-form (Property.Irot t) P k = both (sym (turn-form P (quarter_of t.angle) k))
after-form (Property.Imir t) P k = both (sym (draws-form _ _ P (mirror-made P (odd t.axis) k)))
after-form (Property.Iscl t) P k =
    then-both _ Formed (scale_of t P.form.width P.form.height) _ _
    (done-holds (λ z. scale_of t P.form.width P.form.height ≡ Ok z) _ (λ z e. e))
    (λ z e. both (scaled-form P _ z refl))

-- a form that was reached is sound
formed-sound : (o : Out Form) (u : Out Pic) → Same Formed o u → Holds InRange u → Holds FormSound o
unfolding Holds Formed
formed-sound _ _ alike h = h
formed-sound _ _ (both e) h = rw e h.sound

pub after-sound : (p : Property) (m : Form) → FormSound m → Holds FormSound (form_after p m)
after-sound p m k =
    let P : Pic = record { form = m; at = λ q x y. 0 } in
    formed-sound _ _ (after-form p P k)
    (after-in-range p P (record { sound = k; small = λ q h x y a b. bytes-cases m.format (λ e. rw e (lit≤ tt)) (λ e. rw e (lit≤ tt)) }))

-- ---- its record, by the record alone

pub record Shows (bs : List ℕ) (Q : Pic) : Type 0 where
  pub bytes : bs ≡ encode Q
  pub in_range : InRange Q

turned-bytes : (P : Pic) (k : InRange P) (q : Quarter) → turn_bytes (encode P) (tight_at P.form 0) q ≡ encode (turn P q)
unfolding turn_bytes turn tight_at decode
turned-bytes P k q0 = refl
turned-bytes P k q1 = encode-agree _ _ (turn_agree _ P q1 k.sound k.sound (in-range-back P k).1)
turned-bytes P k q2 = encode-agree _ _ (turn_agree _ P q2 k.sound k.sound (in-range-back P k).1)
turned-bytes P k q3 = encode-agree _ _ (turn_agree _ P q3 k.sound k.sound (in-range-back P k).1)

scaled-bytes : (P : Pic) (k : InRange P) (b : Bool) (w h : ℕ) → pick b (encode P) (encode (area (decode (encode P) (tight_at P.form 0)) w h)) ≡ encode (pick b P (area P w h))
unfolding pick tight_at decode
scaled-bytes P k true w h = refl
scaled-bytes P k false w h = encode-agree _ _ (area-agree _ P w h k.sound (in-range-back P k).1)

unfoldable Bytewise : List ℕ → Pic → Type 0
Bytewise bs Q = bs ≡ encode Q

shows-both : (o : Out (List ℕ)) (u : Out Pic) → Same Bytewise o u → Holds InRange u → Same Shows o u
unfolding Holds Bytewise
shows-both _ _ alike h = alike
shows-both _ _ (both e) h = both (record { bytes = e; in_range = h })

-- what is taken from the record of a picture
taken-same : (P : Pic) (k : InRange P) (f : Frame → Out (List ℕ)) (u : Out Pic) → Same Bytewise (f (tight_at P.form 0)) u → Same Bytewise (and_then (record_of (encode P)) f) u
taken-same P k f u h = rw (then-done f (in-range-back P k).0) h

bytewise : (p : Property) (P : Pic) → InRange P → Same Bytewise (record_after p (encode P)) (pic_after scaled p P)
unfolding record_after pic_after scaled Bytewise tight_at area_bytes decode
bytewise Property.Other P k = both refl
bytewise (Property.Clap c) P k =
    taken-same P k _ _
    (then-both _ Bytewise (resolve_of c P.form.width P.form.height) _ _
    (done-holds (λ r. resolve_of c P.form.width P.form.height ≡ Ok r) _ (λ r e. e))
    (λ r e.
    let i = resolve-inside c _ _ r e in
    both (encode-agree _ _ (draws-agree _ _ _ P (crop-made _ r.rect k.sound i) (crop-made P r.rect k.sound i) (in-range-back P k).1))))
bytewise (Property.Irot t) P k = taken-same P k _ _ (both (turned-bytes P k (quarter_of t.angle)))
bytewise (Property.Imir t) P k =
    taken-same P k _ _
    (both (encode-agree _ _ (draws-agree _ _ _ P (mirror-made _ (odd t.axis) k.sound) (mirror-made P (odd t.axis) k.sound) (in-range-back P k).1)))
bytewise (Property.Iscl t) P k =
    taken-same P k _ _
    (then-both _ Bytewise (scale_of t P.form.width P.form.height) _ _
    (done-holds (λ z. scale_of t P.form.width P.form.height ≡ Ok z) _ (λ z e. e))
    (λ z e. both (scaled-bytes P k _ z.width z.height)))

-- the operation on the record of a picture is refused as the property is on the picture, or writes the record of what it makes
pub after-bytes : (p : Property) (P : Pic) → InRange P → Same Shows (record_after p (encode P)) (pic_after scaled p P)
after-bytes p P k = shows-both _ _ (bytewise p P k) (after-in-range p P k)
