-- Inputs laid on a canvas's record are pasted into its picture, in list order.
use mathlib.Core.Bool.{Bool, ◌&&◌, false, true}
use mathlib.Core.List.{List, [], ◌++◌, ◌∷◌}
use mathlib.Core.Path.{◌∙◌, ◌≡◌, ap, ap₂, refl, sym}
use Prim.Native.Nat.{◌+◌, ◌-◌, ◌≤◌, ℕ}
use native.Mathlib.Omega.{arith}
use lib.ListN.{drop, length}
use Rattle.laws.proofs.Order.{by-test, pick-both, pick-false, pick_true, within}
use Rattle.laws.proofs.Puts.{puts-start}
use Rattle.laws.specs.Pick.{pick}
use Rattle.laws.specs.Puts.{puts}
use Rattle.image.specs.Format.{half_x, half_y, has_part, top_of}
use Rattle.image.specs.declared.format.Form.{Form}
use Rattle.image.specs.declared.format.Part.{Part}
use Rattle.image.specs.declared.format.Part.TheVariants.{Alpha, Cb, Cr, Luma}
use Rattle.records.specs.declared.record.Frame.{Frame}
use Rattle.planes.proofs.RoundTrip.{length-encode}
use Rattle.planes.specs.Bytes.{decode, encode, head_bytes, size_of}
use Rattle.planes.specs.Picture.{Pic}
use Rattle.paste.proofs.HeadedLaws.{on_part, on_part-here, on_part-other, part_number, same_part}
use Rattle.paste.proofs.RectLaws.{rect-pasted, rect_at}
use Rattle.paste.specs.Stored.{headed}
use Rattle.derived.specs.Overlay.{placement_at}
use Rattle.derived.specs.declared.overlay.OverlayDescriptor.{OverlayDescriptor}
use Rattle.derived.specs.declared.overlay.Placement.{Placement}
use Rattle.inputs.specs.Layers.{Layer, layer_of, layers_of}
use Rattle.opaque.proofs.WindowLaws.{window-within}
use Rattle.opaque.specs.inner.Laid.{across_of, down_of, laid_at, laid_row, lay_frames, lay_input, lay_part, lay_rows, place_of}
use Rattle.opaque.specs.inner.Window.{spot_of}

-- whether a sample of a plane is in the rectangle that an input covers, and what is left there
unfoldable pub covered_at : Form → Form → Placement → Part → ℕ → ℕ → Bool
covered_at c m o p x y = within (down_of c m o p).at (down_of c m o p).count y && within (across_of c m o p).at (across_of c m o p).count x

unfoldable pub left_at : Form → Pic → Placement → Part → ℕ → ℕ → ℕ
left_at c T o p x y =
    laid_at (top_of c.format) T p (spot_of (half_x c.format p) (across_of c T.form o p) (x - (across_of c T.form o p).at)) (spot_of (half_y c.format p) (down_of c T.form o p) (y - (down_of c T.form o p).at))

unfoldable pub pasted_at : Form → Pic → Placement → Part → Pic → ℕ → ℕ → ℕ
pasted_at c T o p P x y = pick (covered_at c T.form o p x y) (left_at c T o p x y) (P.at p x y)

unfoldable pub part_pic : Form → Pic → Placement → Part → Pic → Pic
part_pic c T o p P = pick (has_part c.format p) (on_part P p (pasted_at c T o p P)) P

unfoldable pub input_pic : Form → Pic → Placement → Pic → Pic
input_pic c T o P = part_pic c T o Alpha (part_pic c T o Cr (part_pic c T o Cb (part_pic c T o Luma P)))

unfoldable pub layers_pic : Form → List Layer → Pic → Pic
layers_pic c [] P = P
layers_pic c (l ∷ ls) P = layers_pic c ls (input_pic c l.pic l.placement P)

-- ---- the form stays

part-form : (c : Form) (T : Pic) (o : Placement) (p : Part) (P : Pic) → (part_pic c T o p P).form ≡ P.form
unfolding part_pic on_part
part-form c T o p P = pick-both (λ (Q : Pic). Q.form ≡ P.form) _ _ _ refl refl

input-form : (c : Form) (T : Pic) (o : Placement) (P : Pic) → (input_pic c T o P).form ≡ P.form
unfolding input_pic
input-form c T o P = part-form c T o Alpha _ ∙ part-form c T o Cr _ ∙ part-form c T o Cb _ ∙ part-form c T o Luma P

pub layers-form : (c : Form) (ls : List Layer) (P : Pic) → (layers_pic c ls P).form ≡ P.form
unfolding layers_pic
layers-form c [] P = refl
layers-form c (l ∷ ls) P = layers-form c ls _ ∙ input-form c l.pic l.placement P

-- ---- stored, they are pasted

part-pasted : (T P : Pic) (o : Placement) (p : Part) (h rest : List ℕ) → length h ≡ length (head_bytes P.form) → lay_part P.form T o p (headed h P ++ rest) ≡ headed h (part_pic P.form T o p P) ++ rest
unfolding lay_part lay_rows place_of laid_row part_pic pasted_at covered_at left_at rect_at across_of down_of
part-pasted T P o p h rest e =
    by-test (has_part P.form.format p)
    (λ q.
    pick_true _ _ _ q
    ∙ rect-pasted P p q (across_of P.form T.form o p).at (across_of P.form T.form o p).count (down_of P.form T.form o p).at (down_of P.form T.form o p).count
    (λ i k. laid_at (top_of P.form.format) T p (spot_of (half_x P.form.format p) (across_of P.form T.form o p) i) (spot_of (half_y P.form.format p) (down_of P.form T.form o p) k))
    (window-within _ o.horizontal T.form.width _) (window-within _ o.vertical T.form.height _) h rest e
    ∙ ap (λ (Q : Pic). headed h Q ++ rest) (sym (pick_true _ _ _ q)))
    (λ q. pick-false _ _ _ q ∙ ap (λ (Q : Pic). headed h Q ++ rest) (sym (pick-false _ _ _ q)))

part_step : (c : Form) (T P : Pic) (o : Placement) (p : Part) (h rest : List ℕ) → P.form ≡ c → length h ≡ length (head_bytes c) → lay_part c T o p (headed h P ++ rest) ≡ headed h (part_pic c T o p P) ++ rest
part_step c T P o p h rest e l =
    ap (λ (m : Form). lay_part m T o p (headed h P ++ rest)) (sym e) ∙ part-pasted T P o p h rest (l ∙ ap (λ (m : Form). length (head_bytes m)) (sym e)) ∙ ap (λ (m : Form). headed h (part_pic m T o p P) ++ rest) e

input-pasted : (c : Form) (T P : Pic) (o : Placement) (h rest : List ℕ) → P.form ≡ c → length h ≡ length (head_bytes c) → lay_input c T o (headed h P ++ rest) ≡ headed h (input_pic c T o P) ++ rest
unfolding lay_input input_pic
input-pasted c T P o h rest e l =
    let P1 = part_pic c T o Luma P in
    let P2 = part_pic c T o Cb P1 in
    let P3 = part_pic c T o Cr P2 in
    let e1 = part-form c T o Luma P ∙ e in
    let e2 = part-form c T o Cb P1 ∙ e1 in
    let e3 = part-form c T o Cr P2 ∙ e2 in
    ap (λ (d : List ℕ). lay_part c T o Alpha (lay_part c T o Cr (lay_part c T o Cb d))) (part_step c T P o Luma h rest e l)
    ∙ ap (λ (d : List ℕ). lay_part c T o Alpha (lay_part c T o Cr d)) (part_step c T P1 o Cb h rest e1 l)
    ∙ ap (lay_part c T o Alpha) (part_step c T P2 o Cr h rest e2 l) ∙ part_step c T P3 o Alpha h rest e3 l

frames-pasted : (c : Form) (body tray list : List ℕ) (d : OverlayDescriptor) (i : ℕ) (frs : List Frame) (P : Pic) (h rest : List ℕ) → P.form ≡ c → length h ≡ length (head_bytes c)
    → lay_frames c body tray d i frs (headed h P ++ rest) ≡ headed h (layers_pic c (layers_of body tray list d i frs) P) ++ rest
unfolding lay_frames layers_pic layers_of layer_of
frames-pasted c body tray list d i [] P h rest e l = refl
frames-pasted c body tray list d i (fr ∷ frs) P h rest e l =
    ap (lay_frames c body tray d (i + 1) frs) (input-pasted c (decode tray fr) P (placement_at body d i) h rest e l)
    ∙ frames-pasted c body tray list d (i + 1) frs _ h rest (input-form c (decode tray fr) (placement_at body d i) P ∙ e) l

-- on a record at the start
pub frames-laid : (c : Form) (body tray list : List ℕ) (e : OverlayDescriptor) (i : ℕ) (frs : List Frame) (P : Pic) (d : List ℕ) → P.form ≡ c → size_of c ≤ length d
    → lay_frames c body tray e i frs (puts d 0 (encode P)) ≡ puts d 0 (encode (layers_pic c (layers_of body tray list e i frs) P))
unfolding encode headed
frames-laid c body tray list e i frs P d same room =
    let Q = layers_pic c (layers_of body tray list e i frs) P in
    let form : Q.form ≡ c = layers-form c (layers_of body tray list e i frs) P ∙ same in
    let n : length (encode P) ≡ size_of c = length-encode P ∙ ap size_of same in
    let m : length (encode Q) ≡ size_of c = length-encode Q ∙ ap size_of form in
    ap (lay_frames c body tray e i frs) (puts-start d (encode P) (omega (arith, n, room)))
    ∙ frames-pasted c body tray list e i frs P (head_bytes P.form) (drop (length (encode P)) d) same (ap (λ (q : Form). length (head_bytes q)) same)
    ∙ ap₂ (λ (q : Form) (k : ℕ). headed (head_bytes q) Q ++ drop k d) (same ∙ sym form) (n ∙ sym m)
    ∙ sym (puts-start d (encode Q) (omega (arith, m, room)))

-- ---- sample by sample

part-here : (c : Form) (T : Pic) (o : Placement) (p : Part) (P : Pic) (x y : ℕ) → has_part c.format p ≡ true → (part_pic c T o p P).at p x y ≡ pasted_at c T o p P x y
unfolding part_pic
part-here c T o p P x y h = ap (λ (Q : Pic). Q.at p x y) (pick_true _ _ _ h) ∙ on_part-here P p _ x y

part-other : (c : Form) (T : Pic) (o : Placement) (p q : Part) (P : Pic) (x y : ℕ) → same_part p q ≡ false → (part_pic c T o p P).at q x y ≡ P.at q x y
unfolding part_pic
part-other c T o p q P x y e =
    by-test (has_part c.format p) (λ h. ap (λ (Q : Pic). Q.at q x y) (pick_true _ _ _ h) ∙ on_part-other P p q _ x y e) (λ h. ap (λ (Q : Pic). Q.at q x y) (pick-false _ _ _ h))

part-as : (c : Form) (T : Pic) (o : Placement) (p : Part) (P Q : Pic) (x y : ℕ) → P.at p x y ≡ Q.at p x y → pasted_at c T o p P x y ≡ pasted_at c T o p Q x y
unfolding pasted_at
part-as c T o p P Q x y e = ap (pick (covered_at c T.form o p x y) (left_at c T o p x y)) e

pub input-at : (c : Form) (T : Pic) (o : Placement) (P : Pic) (p : Part) (x y : ℕ) → has_part c.format p ≡ true → (input_pic c T o P).at p x y ≡ pasted_at c T o p P x y
unfolding input_pic same_part part_number
input-at c T o P Luma x y h = part-other c T o Alpha Luma _ x y refl ∙ part-other c T o Cr Luma _ x y refl ∙ part-other c T o Cb Luma _ x y refl ∙ part-here c T o Luma P x y h
input-at c T o P Cb x y h =
    part-other c T o Alpha Cb _ x y refl ∙ part-other c T o Cr Cb _ x y refl ∙ part-here c T o Cb _ x y h ∙ part-as c T o Cb _ P x y (part-other c T o Luma Cb P x y refl)
input-at c T o P Cr x y h =
    part-other c T o Alpha Cr _ x y refl ∙ part-here c T o Cr _ x y h ∙ part-as c T o Cr _ P x y (part-other c T o Cb Cr _ x y refl ∙ part-other c T o Luma Cr P x y refl)
input-at c T o P Alpha x y h =
    part-here c T o Alpha _ x y h ∙ part-as c T o Alpha _ P x y (part-other c T o Cr Alpha _ x y refl ∙ part-other c T o Cb Alpha _ x y refl ∙ part-other c T o Luma Alpha P x y refl)
