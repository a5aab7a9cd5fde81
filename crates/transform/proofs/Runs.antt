-- The runs in terms of the moves that draw them.
use Rattle.std.specs.Prelude.{Ok, Err}
use mathlib.Core.Bool.{false, not, true}
use mathlib.Core.List.{List}
use mathlib.Core.Path.{◌∙◌, ◌≡◌, ap, refl, sym}
use Prim.Native.Nat.{◌%◌, ℕ}
use Rattle.laws.proofs.Order.{by-test}
use Rattle.laws.proofs.Out.{refuse-no, refuse-yes, then-done, then-refused}
use Rattle.laws.specs.Out.{Out, and_then, fitted, reason}
use Rattle.laws.specs.declared.Refusal.{Refusal}
use Rattle.image.specs.Format.{odd}
use Rattle.image.specs.Sound.{FormSound}
use Rattle.records.proofs.RecordLaws.{whole-sound}
use Rattle.records.specs.Record.{record_of}
use Rattle.records.specs.declared.record.Frame.{Frame}
use Rattle.sizes.proofs.ApertureLaws.{resolve-inside, resolve-margins}
use Rattle.sizes.proofs.MarginLaws.{around-fits, around-inside, fits-around}
use Rattle.sizes.specs.Aperture.{resolve_of}
use Rattle.sizes.specs.Margins.{Around, fits_in}
use Rattle.sizes.specs.declared.clap.Clap.{Clap}
use Rattle.sizes.specs.declared.clap.Crop.{Crop}
use Rattle.planes.proofs.RoundTrip.{drawn-as, encode-agree}
use Rattle.planes.specs.Bytes.{decode, encode}
use Rattle.props.specs.declared.entry.Imir.{Imir}
use Rattle.props.specs.declared.entry.Irot.{Irot}
use Rattle.moves.specs.inner.Move.{MoveFits, moved}
use Rattle.motions.proofs.Draws.{crop-draws, half-draws, left-draws, mirror-draws, right-draws, still-draws}
use Rattle.motions.proofs.Fits.{crop-fits}
use Rattle.motions.proofs.Quarters.{quarter-one, quarter-three, quarter-two, quarter-zero}
use Rattle.motions.specs.Turn.{Quarter, crop, q0, q1, q2, q3, quarter_of}
use Rattle.motions.specs.inner.Moves.{crop_move, half_move, mirror_move, quarter_move, still_move}
use Rattle.transform.specs.Run.{clap_run, crop_of, crop_run, imir_run, irot_run, turn_bytes}

-- ---- crop

module _ (s : List ℕ) (fr : Frame) (taken : record_of s ≡ Ok fr) (k : Crop) (room : ℕ) where
  pub crop-outside : fits_in k fr.form.width fr.form.height ≡ false → crop_run s k room ≡ Err (reason 9)
  unfolding crop_run crop_of
  crop-outside e = then-done _ taken ∙ refuse-yes _ _ (ap not e)

  -- an accepted crop is the rectangle's, whatever else was handed in
  pub crop-taken : fits_in k fr.form.width fr.form.height ≡ true → crop_run s k room ≡ fitted room (encode (crop (decode s fr) k.rect))
  unfolding crop_run crop_of
  crop-taken e = then-done _ taken ∙ refuse-no _ _ (ap not e)

  pub crop-fit : fits_in k fr.form.width fr.form.height ≡ true → MoveFits fr.form (crop_move fr.form k.rect)
  crop-fit e = crop-fits fr.form k.rect (whole-sound s fr taken).0.form (around-inside k _ _ (fits-around k _ _ e))

  pub crop-drawn : fits_in k fr.form.width fr.form.height ≡ true → crop_run s k room ≡ fitted room (encode (moved (crop_move fr.form k.rect) (decode s fr)))
  unfolding decode
  crop-drawn e = crop-taken e ∙ drawn-as room _ _ (crop-draws (decode s fr) k.rect)

-- ---- clap

module _ (s : List ℕ) (fr : Frame) (taken : record_of s ≡ Ok fr) (c : Clap) (room : ℕ) where
  pub clap-refused : (e : Refusal) → resolve_of c fr.form.width fr.form.height ≡ Err e → clap_run s c room ≡ Err e
  unfolding clap_run
  clap-refused e h = then-done _ taken ∙ then-refused _ h

  pub clap-fits : (k : Crop) → resolve_of c fr.form.width fr.form.height ≡ Ok k → MoveFits fr.form (crop_move fr.form k.rect)
  clap-fits k h = crop-fits fr.form k.rect (whole-sound s fr taken).0.form (resolve-inside c _ _ k h)

  pub clap-drawn : (k : Crop) → resolve_of c fr.form.width fr.form.height ≡ Ok k → clap_run s c room ≡ fitted room (encode (moved (crop_move fr.form k.rect) (decode s fr)))
  unfolding clap_run decode
  clap-drawn k h = then-done _ taken ∙ then-done _ h ∙ drawn-as room _ _ (crop-draws (decode s fr) k.rect)

-- ---- crop and clap as document 02 has them (A1): a crop is refused 9 just where its margins are not those about its rectangle, and what it
-- writes goes by the rectangle alone; a clap is the crop to the rectangle and margins that it resolves to

pub crop-around : (s : List ℕ) (fr : Frame) (k : Crop) (room : ℕ) → record_of s ≡ Ok fr → Around k fr.form.width fr.form.height
    → crop_run s k room ≡ fitted room (encode (crop (decode s fr) k.rect))
crop-around s fr k room e a = crop-taken s fr e k room (around-fits k _ _ a)

pub crop-refused : (s : List ℕ) (fr : Frame) (k : Crop) (room : ℕ) → record_of s ≡ Ok fr → (Around k fr.form.width fr.form.height → ⊥) → crop_run s k room ≡ Err (reason 9)
crop-refused s fr k room e n = crop-outside s fr e k room (by-test (fits_in k _ _) (λ t. absurd (n (fits-around k _ _ t))) (λ t. t))

pub clap-crops : (s : List ℕ) (fr : Frame) (c : Clap) (room : ℕ) → record_of s ≡ Ok fr → clap_run s c room ≡ and_then (resolve_of c fr.form.width fr.form.height) (λ k. crop_run s k room)
unfolding clap_run and_then
clap-crops s fr c room e = then-done _ e ∙ go (resolve_of c fr.form.width fr.form.height) refl
  where
    go : (o : Out Crop) → resolve_of c fr.form.width fr.form.height ≡ o → and_then o (λ k. fitted room (encode (crop (decode s fr) k.rect))) ≡ and_then o (λ k. crop_run s k room)
    go (Err r) h = refl
    go (Ok k) h = sym (crop-around s fr k room e (resolve-margins c _ _ k h))

-- ---- as it is

pub still-bytes : (s : List ℕ) (fr : Frame) → FormSound fr.form → encode (moved (still_move fr.form) (decode s fr)) ≡ encode (decode s fr)
unfolding decode
still-bytes s fr ok = encode-agree _ _ (still-draws (decode s fr) ok.wide ok.tall)

-- ---- turns and mirrors

module _ (s : List ℕ) (fr : Frame) (taken : record_of s ≡ Ok fr) (room : ℕ) where
  ok : FormSound fr.form
  ok = (whole-sound s fr taken).0.form

  turned_as : (k : Irot) (q : Quarter) → quarter_of k.angle ≡ q → irot_run s k room ≡ fitted room (turn_bytes s fr q)
  unfolding irot_run
  turned_as k q e = then-done _ taken ∙ ap (λ (p : Quarter). fitted room (turn_bytes s fr p)) e

  pub turn-none : (k : Irot) → k.angle % 4 ≡ 0 → irot_run s k room ≡ fitted room s
  unfolding turn_bytes
  turn-none k e = turned_as k q0 (quarter-zero _ e)

  pub turn-left : (k : Irot) → k.angle % 4 ≡ 1 → irot_run s k room ≡ fitted room (encode (moved (quarter_move fr.form true false) (decode s fr)))
  unfolding turn_bytes decode
  turn-left k e = turned_as k q1 (quarter-one _ e) ∙ drawn-as room _ _ (left-draws (decode s fr) ok.wide ok.tall)

  pub turn-half : (k : Irot) → k.angle % 4 ≡ 2 → irot_run s k room ≡ fitted room (encode (moved (half_move fr.form) (decode s fr)))
  unfolding turn_bytes decode
  turn-half k e = turned_as k q2 (quarter-two _ e) ∙ drawn-as room _ _ (half-draws (decode s fr) ok.wide ok.tall)

  pub turn-right : (k : Irot) → (k.angle % 4 ≡ 0 → ⊥) → (k.angle % 4 ≡ 1 → ⊥) → (k.angle % 4 ≡ 2 → ⊥) → irot_run s k room ≡ fitted room (encode (moved (quarter_move fr.form false true) (decode s fr)))
  unfolding turn_bytes decode
  turn-right k x y z = turned_as k q3 (quarter-three _ x y z) ∙ drawn-as room _ _ (right-draws (decode s fr) ok.wide ok.tall)

  pub mirror-run : (k : Imir) → imir_run s k room ≡ fitted room (encode (moved (mirror_move fr.form (odd k.axis)) (decode s fr)))
  unfolding imir_run decode
  mirror-run k = then-done _ taken ∙ drawn-as room _ _ (mirror-draws (decode s fr) ok.wide ok.tall (odd k.axis))
