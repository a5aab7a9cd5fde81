-- The composed overlay of inputs without alpha reads, at each place of its canvas, what is read at the input and the spot that the place
-- names, or the fill; no two places name one spot; its halved sides are even.
use Rattle.std.specs.Prelude.{Ok, Option}
use mathlib.Core.Bool.{Bool, ◌&&◌, ◌||◌, false, not, true}
use mathlib.Core.List.{List, [], ◌∷◌}
use mathlib.Core.Path.{◌∙◌, ◌≡◌, ap, ap₂, refl, sym}
use Prim.Native.Nat.{◌+◌, ◌-◌, ◌<◌, ◌^◌, ◌≤◌, min, suc, ℕ}
use native.Mathlib.Omega.{arith}
use lib.Dec.{ltb}
use lib.ListN.{drop, get_or, length, length-drop}
use borrow.Author.Tests.{eq-eqb, eqb-true, not-false}
use Rattle.laws.proofs.Order.{and-true, apart, by-test, or_left, or_right, pick-false, pick_true}
use Rattle.laws.specs.Any.{any}
use Rattle.laws.specs.Out.{Out}
use Rattle.laws.specs.Pick.{pick}
use Rattle.laws.specs.Puts.{Bytes}
use Rattle.numbers.specs.Number.{read_number}
use Rattle.numbers.specs.declared.Offset.{Offset}
use Rattle.image.proofs.FormLaws.{top-some}
use Rattle.records.proofs.TrayLaws.{frames-length, tray-number}
use Rattle.image.specs.Format.{halves_x, halves_y, has_alpha, is_mono, odd, top_of}
use Rattle.records.specs.Tray.{no_frame, records_in, taken_of}
use Rattle.image.specs.declared.format.Part.{Part}
use Rattle.image.specs.declared.format.Part.TheVariants.{Alpha, Cb, Cr, Luma}
use Rattle.image.specs.declared.format.PixelFormat.{PixelFormat}
use Rattle.records.specs.declared.record.Frame.{Frame}
use Rattle.planes.proofs.PictureLaws.{evenly-if, needs-X, needs-Y, odd-false}
use Rattle.planes.specs.Bytes.{decode, input_in, picture_in}
use Rattle.planes.specs.Picture.{pixel}
use Rattle.planes.specs.inner.Even.{Even, Evenly}
use Rattle.fill.specs.Fill.{fill_alpha_of}
use Rattle.fill.specs.declared.Nclx.{Nclx}
use Rattle.derived.proofs.Taken.{overlay-fill}
use Rattle.derived.specs.Overlay.{overlay_of, placement_at}
use Rattle.derived.specs.declared.overlay.OverlayDescriptor.{OverlayDescriptor}
use Rattle.motions.specs.Place.{Place}
use Rattle.grid.proofs.Composed.{drop_head}
use Rattle.blend.proofs.ReachLaws.{covers-facts, spot-inside}
use Rattle.overlay.proofs.RunLaws.{Took, frames-sound}
use Rattle.overlay.proofs.Sentences.{fill-low, settled-pixel}
use Rattle.overlay.specs.Covered.{AllCut, Found, capped, ends_as, hides, nowhere, topmost}
use Rattle.inputs.specs.Layers.{Layer, other_chroma_of, overlay_form, promotes, see_through, layer_of, layers_of}
use Rattle.blend.specs.Overlay.{alpha_of, covers, covers_at, overlay_pic, sample_of, spot_at}
use Rattle.inputs.specs.Inputs.{Inputs, alpha_above, composed_form, first_format, other_depth_of}
use Rattle.overlay.specs.Run.{composed, fill_for}
use Rattle.point.proofs.GridShown.{spot-same}
use Rattle.point.specs.Read.{InTray, canvas_fill_of, overlay_reads, read_at}
use Rattle.point.specs.Point.{lies_over, overlay_names, see_through_frame, spot_under, topmost_named}
use Rattle.point.specs.declared.Named.{Named}
use Rattle.point.specs.declared.Spot.{Spot}

-- ---- the form

promoted-even : (width height depth alpha : ℕ) → Even (record { width = width; height = height; format = record { chroma = 3; depth = depth; alpha = alpha } })
unfolding halves_x halves_y Evenly
promoted-even width height depth alpha = record { even_x = tt; even_y = tt }

-- where nothing is promoted the canvas's sides are even along a halved axis
plain-even : (f : PixelFormat) (width height depth alpha : ℕ) (ls : List Layer) → promotes f width height ls ≡ false
    → Even (record { width = width; height = height; format = record { chroma = f.chroma; depth = depth; alpha = alpha } })
unfolding promotes halves_x halves_y
plain-even f width height depth alpha ls e =
    let b = or_right (not (is_mono f) && any see_through ls || any (other_chroma_of f) ls) _ e in
    record {
      even_x = evenly-if (halves_x f) width (λ h. odd-false width (or_left (odd width) _ (needs-X f _ _ b h)));
      even_y = evenly-if (halves_y f) height (λ h. odd-false height (or_left (odd height) _ (needs-Y f _ _ b h)));
    }

overlay-form-even : (f : PixelFormat) (width height alpha : ℕ) (ls : List Layer) → Even (overlay_form f width height alpha ls)
unfolding overlay_form pick
overlay-form-even f width height alpha ls = go (promotes f width height ls) refl
  where
    go : (b : Bool) → promotes f width height ls ≡ b → Even (record { width = width; height = height; format = record { chroma = pick b 3 f.chroma; depth = f.depth; alpha = pick (ltb alpha (top_of f)) 1 0 } })
    go true e = promoted-even width height _ _
    go false e = plain-even f width height _ _ ls e

pub overlay-even : (body tray list : List ℕ) (colour : Option Nclx) (q : Inputs) → Even (composed body tray list colour q).form
unfolding composed composed_form overlay_pic
overlay-even body tray list colour q = overlay-form-even _ _ _ _ _

pub overlay-sides : (body tray list : List ℕ) (colour : Option Nclx) (q : Inputs)
    → ((composed body tray list colour q).form.width ≡ q.descriptor.output_width) × ((composed body tray list colour q).form.height ≡ q.descriptor.output_height)
unfolding composed composed_form overlay_pic overlay_form
overlay-sides body tray list colour q = (refl, refl)

-- ---- what was taken

-- the records of the tray are the inputs
pub inputs-records : (body tray list : List ℕ) (n at : ℕ) (q : Inputs) → read_number tray 0 ≡ Ok (n, at) → Took body tray list n at q → records_in tray ≡ q.frames
unfolding records_in taken_of
inputs-records body tray list n at q c k = ap taken_of (tray-number tray n at c ∙ k.frames)

-- no alpha sample is above top where there is none
pub none_above : (tray : List ℕ) (top : ℕ) (frs : List Frame) → any see_through_frame frs ≡ false → any (alpha_above tray top) frs ≡ false
unfolding any see_through_frame alpha_above
none_above tray top [] e = refl
none_above tray top (fr ∷ frs) e =
    rw (or_left (has_alpha fr.form.format) (any see_through_frame frs) e) (none_above tray top frs (or_right (has_alpha fr.form.format) (any see_through_frame frs) e))

-- ---- one place

and_right : (a : Bool) → (a && true) ≡ a
and_right true = refl
and_right false = refl

-- an input without alpha has alpha top
alpha-reads : (tray : List ℕ) (g : PixelFormat) (fr : Frame) (x y : ℕ) → has_alpha fr.form.format ≡ false → other_depth_of g fr ≡ false → read_at (decode tray fr) Alpha x y ≡ top_of g
unfolding read_at decode top_of other_depth_of
alpha-reads tray g fr x y a d = pick-false _ _ _ a ∙ ap (λ (n : ℕ). 2 ^ n - 1) (eqb-true _ _ (not-false _ d))

module _ (body tray list : List ℕ) (colour : Option Nclx) (q : Inputs) (l : Place) where
  abbrev f : PixelFormat
  f = first_format q.frames

  abbrev top : ℕ
  top = top_of f

  abbrev fill : Part → ℕ
  fill = fill_for q.descriptor.canvas_fill f.depth colour

  abbrev input : ℕ → Frame → Layer
  input i fr = layer_of body tray list q.descriptor i fr

  -- what is read there, of the inputs that were taken
  reads : Named → Part → ℕ
  reads Named.Fill p = fill p
  reads (Named.Spot k) p = min (read_at (decode tray (get_or q.frames k.input no_frame)) p k.x k.y) top

  opaque-alpha : (i : ℕ) (fr : Frame) → has_alpha fr.form.format ≡ false → alpha_of top (input i fr) l.x l.y ≡ top
  unfolding alpha_of layer_of decode
  opaque-alpha i fr e = pick-false _ _ _ e

  -- an input without alpha hides what is below it
  hides-is : (i : ℕ) (fr : Frame) → has_alpha fr.form.format ≡ false → hides top l.x l.y (input i fr) ≡ lies_over fr (placement_at body q.descriptor i) l
  unfolding hides covers_at lies_over layer_of decode
  hides-is i fr e = ap (λ (b : Bool). lies_over fr (placement_at body q.descriptor i) l && b) (eq-eqb _ _ (opaque-alpha i fr e)) ∙ and_right _

  all-cut : (i : ℕ) (frs : List Frame) → any see_through_frame frs ≡ false → AllCut top l.x l.y (layers_of body tray list q.descriptor i frs)
  unfolding AllCut layers_of any see_through_frame
  all-cut i [] e = tt
  all-cut i (fr ∷ frs) e = (record { clear = λ c h. absurd (h (opaque-alpha i fr (or_left (has_alpha fr.form.format) _ e))) }, all-cut (i + 1) frs (or_right (has_alpha fr.form.format) _ e))

  -- its sample, capped at top
  input-reads : (i : ℕ) (fr : Frame) (p : Part) → has_alpha fr.form.format ≡ false → other_depth_of f fr ≡ false → get_or q.frames i no_frame ≡ fr
      → capped top l.x l.y (input i fr) p ≡ reads (spot_under i (placement_at body q.descriptor i) l) p
  unfolding capped spot_under sample_of layer_of read_at reads
  input-reads i fr Luma a d e = rw e refl
  input-reads i fr Cb a d e = rw e refl
  input-reads i fr Cr a d e = rw e refl
  input-reads i fr Alpha a d e = rw e (let k = alpha-reads tray f fr (spot_at (placement_at body q.descriptor i).horizontal l.x) (spot_at (placement_at body q.descriptor i).vertical l.y) a d in omega arith)

  ends_named : (p : Part) (frs : List Frame) (i : ℕ) (found : Found) (named : Named) → drop i q.frames ≡ frs → any see_through_frame frs ≡ false → any (other_depth_of f) frs ≡ false
      → ends_as top fill p l.x l.y found ≡ reads named p
      → ends_as top fill p l.x l.y (Rattle.overlay.specs.Covered.topmost_from (hides top l.x l.y) found (layers_of body tray list q.descriptor i frs)) ≡ reads (topmost_named body q.descriptor l i named frs) p
  unfolding Rattle.overlay.specs.Covered.topmost_from topmost_named layers_of any see_through_frame ends_as
  ends_named p [] i found named e a d k = k
  ends_named p (fr ∷ frs) i found named e a d k =
      let h = drop_head q.frames i fr frs e in
      let s = or_left (has_alpha fr.form.format) _ a in
      ends_named p frs (i + 1) _ _ h.1 (or_right (has_alpha fr.form.format) _ a) (or_right (other_depth_of f fr) _ d)
      (rw (hides-is i fr s)
      (by-test (lies_over fr (placement_at body q.descriptor i) l)
      (λ t.
      ap (ends_as top fill p l.x l.y) (pick_true _ _ _ t) ∙ input-reads i fr p s (or_left (other_depth_of f fr) _ d) h.0 ∙ sym (ap (λ (m : Named). reads m p) (pick_true _ _ _ t)))
      (λ t. ap (ends_as top fill p l.x l.y) (pick-false _ _ _ t) ∙ k ∙ sym (ap (λ (m : Named). reads m p) (pick-false _ _ _ t)))))

  module _ (low : (p : Part) → fill p ≤ top) (some-top : 0 < top) (none : any see_through_frame q.frames ≡ false) (depths : any (other_depth_of f) q.frames ≡ false) where
    place-reads : (p : Part) → pixel (composed body tray list colour q) p l.x l.y ≡ reads (overlay_names body q l) p
    unfolding composed composed_form topmost overlay_names ends_as reads
    place-reads p =
        settled-pixel f q.descriptor.output_width q.descriptor.output_height (fill_alpha_of q.descriptor.canvas_fill.alpha f.depth) fill (layers_of body tray list q.descriptor 0 q.frames) some-top low l.x l.y
        (all-cut 0 q.frames none) p
        ∙ ends_named p q.frames 0 nowhere Named.Fill refl none depths refl

-- ---- the whole

reads-are : (body tray list : List ℕ) (colour : Option Nclx) (n at : ℕ) (q : Inputs) (l : Place) → records_in tray ≡ q.frames → Took body tray list n at q → (named : Named) (p : Part) → reads body tray list colour q l named p ≡ overlay_reads body tray colour named p
unfolding reads overlay_reads input_in picture_in canvas_fill_of
reads-are body tray list colour n at q l e k Named.Fill p =
    let m : length (records_in tray) ≡ n = ap length e ∙ frames-length n tray at q.frames k.frames in
    sym (ap₂ (λ (o : Out OverlayDescriptor) (frs : List Frame). canvas_fill_of o (first_format frs).depth colour p) (ap (overlay_of body) m ∙ k.body-read) e)
reads-are body tray list colour n at q l e k (Named.Spot j) p = rw e refl

-- each place of the canvas reads what is read at the input and the spot that it names, or the fill
pub overlay-reads : (body tray list : List ℕ) (colour : Option Nclx) (n at : ℕ) (q : Inputs) → Bytes body → read_number tray 0 ≡ Ok (n, at) → Took body tray list n at q → any see_through_frame q.frames ≡ false
    → (p : Part) (l : Place) → pixel (composed body tray list colour q) p l.x l.y ≡ overlay_reads body tray colour (overlay_names body q l) p
unfolding top_of
overlay-reads body tray list colour n at q small c k none p l =
    let m = frames-sound n tray at q.frames k.nonempty k.frames in
    place-reads body tray list colour q l
    (fill-low q.descriptor.canvas_fill (first_format q.frames).depth colour (overlay-fill body n q.descriptor small k.body-read) m.low m.high)
    (top-some (first_format q.frames) m.low) none k.depths p
    ∙ reads-are body tray list colour n at q l (inputs-records body tray list n at q c k) k (overlay_names body q l) p

-- ---- no two places name one spot

-- along one axis: a covered place is told by its spot
spot-once : (w z : ℕ) (o : Offset) (x u : ℕ) → covers w o x ≡ true → covers z o u ≡ true → spot_at o x ≡ spot_at o u → x ≡ u
unfolding spot_at
spot-once w z o x u a b e =
    let p = covers-facts w o x a in
    let q = covers-facts z o u b in
    omega (arith, p.0, q.0)

-- a place that names a spot: the input, one of them all, covers it, and the spot is that of the place
record Told (body : List ℕ) (d : OverlayDescriptor) (all : List Frame) (l : Place) (k : Spot) : Type 0 where
  input : k.input < length all
  across : covers (get_or all k.input no_frame).form.width (placement_at body d k.input).horizontal l.x ≡ true
  down : covers (get_or all k.input no_frame).form.height (placement_at body d k.input).vertical l.y ≡ true
  x : k.x ≡ spot_at (placement_at body d k.input).horizontal l.x
  y : k.y ≡ spot_at (placement_at body d k.input).vertical l.y

lies-as : (body : List ℕ) (d : OverlayDescriptor) (all : List Frame) (l : Place) (j k : Spot) → j ≡ k → Told body d all l j → Told body d all l k
lies-as body d all l j k e h = rw e at h

spot-lies : (body : List ℕ) (d : OverlayDescriptor) (all : List Frame) (l : Place) (k : Spot) (i : ℕ) (fr : Frame) → i < length all → get_or all i no_frame ≡ fr → lies_over fr (placement_at body d i) l ≡ true
    → spot_under i (placement_at body d i) l ≡ Named.Spot k → Told body d all l k
unfolding lies_over spot_under
spot-lies body d all l k i fr n g t e =
    let a = and-true _ _ t in
    lies-as body d all l _ k (spot-same _ k e) (record { input = n; across = rw g a.0; down = rw g a.1; x = refl; y = refl })

-- the input that a loop is at is one of them all
drop-within : (all : List Frame) (i : ℕ) (fr : Frame) (frs : List Frame) → drop i all ≡ fr ∷ frs → i < length all
drop-within all i fr frs e = let q : length all - i ≡ suc (length frs) = sym (length-drop i all) ∙ ap length e in omega (arith, q)

named-lies : (body : List ℕ) (d : OverlayDescriptor) (all : List Frame) (l : Place) (k : Spot) (frs : List Frame) (i : ℕ) (found : Named) → drop i all ≡ frs → (found ≡ Named.Spot k → Told body d all l k)
    → topmost_named body d l i found frs ≡ Named.Spot k → Told body d all l k
unfolding topmost_named
named-lies body d all l k [] i found r f e = f e
named-lies body d all l k (fr ∷ frs) i found r f e =
    let g = drop_head all i fr frs r in
    named-lies body d all l k frs (i + 1) _ g.1
    (λ h. by-test (lies_over fr (placement_at body d i) l)
    (λ t. spot-lies body d all l k i fr (drop-within all i fr frs r) g.0 t (sym (pick_true _ _ _ t) ∙ h))
    (λ t. f (sym (pick-false _ _ _ t) ∙ h))) e

names-told : (body : List ℕ) (q : Inputs) (l : Place) (k : Spot) → overlay_names body q l ≡ Named.Spot k → Told body q.descriptor q.frames l k
unfolding overlay_names
names-told body q l k e = named-lies body q.descriptor q.frames l k q.frames 0 Named.Fill refl not-spot e
  where
    not-spot : {X : Type 0} → Named.Fill ≡ Named.Spot k → X
    not-spot h = apart (cc)

pub overlay-once : (body : List ℕ) (q : Inputs) (l m : Place) (k : Spot) → overlay_names body q l ≡ Named.Spot k → overlay_names body q m ≡ Named.Spot k → l ≡ m
overlay-once body q l m k e f =
    let a = names-told body q l k e in
    let b = names-told body q m k f in
    ap₂ (λ (x y : ℕ). record { x = x; y = y })
    (spot-once _ _ _ l.x m.x a.across b.across (sym a.x ∙ b.x))
    (spot-once _ _ _ l.y m.y a.down b.down (sym a.y ∙ b.y))

-- ---- a spot that is named lies in its input

pub overlay-there : (body tray : List ℕ) (q : Inputs) → records_in tray ≡ q.frames → (l : Place) (k : Spot) → overlay_names body q l ≡ Named.Spot k → InTray tray k
unfolding input_in picture_in decode
overlay-there body tray q r l k e =
    let a = names-told body q l k e in
    record {
      input = rw r a.input;
      across = rw (r, a.x) (spot-inside _ _ _ a.across);
      down = rw (r, a.y) (spot-inside _ _ _ a.down);
    }
