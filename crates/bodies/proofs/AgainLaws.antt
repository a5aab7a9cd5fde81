-- Laws of writing what was read: a body without trailing bytes, in the form that the rule picks, comes out as it was.
use Rattle.std.specs.Prelude.{Ok}
use mathlib.Core.Bool.{Bool}
use mathlib.Core.List.{List, [], ◌++◌, ◌∷◌, append_assoc, append-nil}
use mathlib.Core.Path.{◌∙◌, ◌≡◌, ap, refl, sym}
use Prim.Native.Nat.{◌%◌, ◌*◌, ◌+◌, ◌-◌, ◌/◌, ◌<◌, ◌^◌, ◌≤◌, suc, zero, ℕ}
use native.Mathlib.Nat.{mod-eq_of_lt, suc-mul}
use native.Mathlib.Omega.{arith}
use lib.Dec.{lit<}
use lib.ListN.{get_or-eq_default, drop, drop_of_length-le, get_or, length}
use lib.Seq.{get_or-drop}
use lib.Signed.{mag}
use borrow.Author.Tests.{eqb-true, le-leb, not-false}
use Rattle.laws.proofs.Order.{by_equal, by_order, item-within, true-and}
use Rattle.laws.proofs.Out.{and_then-done, done-same, refuse-done}
use Rattle.laws.proofs.Span.{item-at, length-span-all, span-end, span-split, span-step}
use Rattle.laws.specs.Out.{fitted}
use Rattle.laws.specs.Puts.{Bytes}
use Rattle.laws.specs.Span.{span}
use Rattle.image.proofs.JudgedLaws.{judged-same, size-taken}
use Rattle.image.specs.Format.{judged_size, sides}
use Rattle.image.specs.declared.size.Size.{Size}
use Rattle.numbers.proofs.Field.{field-again, pattern-below, pattern-signed, signed-fits, signed-pattern}
use Rattle.numbers.specs.Field.{big_endian, big_endian_bytes, pattern_of, signed_of}
use Rattle.numbers.specs.inner.Length.{FieldLength}
use Rattle.derived.proofs.FieldLaws.{big_endian-below, field-read, patterns}
use Rattle.derived.proofs.Taken.{grid-taken, on_field-done, overlay-taken}
use Rattle.derived.specs.Canvas.{canvas_at, field_bytes, start_of}
use Rattle.derived.specs.Grid.{grid_at, grid_of}
use Rattle.derived.specs.Overlay.{fill_at, horizontal_at, inputs_of, offset_place, overlay_of, signed_at, vertical_at}
use Rattle.derived.specs.declared.grid.GridDescriptor.{GridDescriptor}
use Rattle.derived.specs.declared.overlay.Fill.{Fill}
use Rattle.derived.specs.declared.overlay.OverlayDescriptor.{OverlayDescriptor}
use Rattle.derived.specs.inner.Sound.{OverlaySound}
use Rattle.bodies.proofs.FormLaws.{body_same, field-length, flags-few}
use Rattle.bodies.proofs.RunLaws.{grid-run, judged-grid, judged-overlay, overlay-run}
use Rattle.bodies.specs.Form.{canvas_bytes, flags_of, narrow_canvas}
use Rattle.bodies.specs.Grid.{grid_body, grid_body_in, grid_body_run, is_tile_count}
use Rattle.bodies.specs.Overlay.{FillSmall, OverlayFields, SameFields, fields_in, fields_of, fill_bytes, input_bytes, narrow_overlay, offset_bytes, offset_in, overlay_body, overlay_body_in, overlay_body_run}

-- ---- what both bodies have

module _ (s : List ℕ) (small : (i : ℕ) → get_or s i 0 < 256) where
  byte-again : (at : ℕ) → at + 1 ≤ length s → drop at s ≡ big_endian s at 1 ∷ drop (at + 1) s
  unfolding big_endian_bytes
  byte-again at h =
      let b : big_endian s at 1 % 256 ≡ big_endian s at 1 = omega (arith, big_endian-below s at 1 small) in
      field-again s at 1 small h ∙ ap (λ (v : ℕ). v ∷ drop (at + 1) s) b

  start-again : (h : _) → start_of s ≡ Ok h → (s ≡ 0 ∷ get_or s 1 0 ∷ drop 2 s) × (h.0 ≡ field_bytes (get_or s 1 0)) × (h.1.at ≡ 2) × (2 ≤ length s)
  unfolding start_of big_endian
  start-again h e =
      let v = on_field-done _ _ h e in
      let r = refuse-done _ 2 _ h v.3 in
      let f = on_field-done _ _ h r.1 in
      let a = field-read s 0 1 v.0 v.1 v.2 in
      let b = field-read s v.1.at 1 f.0 f.1 f.2 in
      let version : big_endian s 0 1 ≡ 0 = sym a.0 ∙ eqb-true v.0 0 (not-false _ r.0) in
      let at : v.1.at ≡ 1 = a.1 in
      let flags : f.0 ≡ get_or s 1 0 = b.0 ∙ ap (λ (k : ℕ). big_endian s k 1) at ∙ omega arith in
      let byte : big_endian s 1 1 ≡ get_or s 1 0 = omega arith in
      let h' = done-same _ h f.3 in
      let long : 2 ≤ length s = omega (arith, at, b.2) in (
        byte-again 0 (omega arith) ∙ ap (λ (k : ℕ). k ∷ drop 1 s) version ∙ ap (λ (q : List ℕ). 0 ∷ q) (byte-again 1 (omega arith) ∙ ap (λ (k : ℕ). k ∷ drop 2 s) byte),
        ap (λ k. k.0) (sym h') ∙ ap field_bytes flags,
        ap (λ k. k.1.at) (sym h') ∙ b.1 ∙ ap (λ (k : ℕ). k + 1) at,
        long,
      )

  canvas-again : (at n p m : ℕ) (c : _) → p ≡ at → m ≡ n → canvas_at s p m ≡ Ok c → (drop at s ≡ canvas_bytes n c.0.width c.0.height ++ drop (at + n + n) s) × (c.1.at ≡ at + n + n) × (at + n + n ≤ length s)
  unfolding canvas_at canvas_bytes
  canvas-again at n p m c e1 e2 q =
      let e : canvas_at s at n ≡ Ok c = rw (e1, e2) at q in
      let w = on_field-done _ _ c e in
      let h = on_field-done _ _ c w.3 in
      let j = and_then-done _ _ c h.3 in
      let a = field-read s at n w.0 w.1 w.2 in
      let b = field-read s w.1.at n h.0 h.1 h.2 in
      let k = done-same _ c j.2 in
      let z = judged-same w.0 h.0 j.0 j.1 in
      let width : big_endian s at n ≡ c.0.width = sym a.0 ∙ ap (λ (q : Size). q.width) (sym z) ∙ ap (λ q. q.0.width) k in
      let height : big_endian s (at + n) n ≡ c.0.height =
      ap (λ (p : ℕ). big_endian s p n) (sym a.1) ∙ sym b.0 ∙ ap (λ (q : Size). q.height) (sym z) ∙ ap (λ q. q.0.height) k in
      let long : at + n + n ≤ length s = omega (arith, a.1, b.2) in (
        field-again s at n small (omega arith) ∙ ap (λ (q : List ℕ). big_endian_bytes n (big_endian s at n) ++ q) (field-again s (at + n) n small long)
            ∙ rw (width, height) (sym (append_assoc (big_endian_bytes n c.0.width) (big_endian_bytes n c.0.height) (drop (at + n + n) s))),
        ap (λ q. q.1.at) (sym k) ∙ b.1 ∙ ap (λ (p : ℕ). p + n) a.1,
        long,
      )

-- flags 0 or 1, in the form of others
flags-same : (flags : ℕ) (b : Bool) → flags ≤ 1 → field_bytes flags ≡ field_bytes (flags_of b) → flags ≡ flags_of b
unfolding field_bytes
flags-same flags b h e =
    let p : flags % 2 ≡ flags = mod-eq_of_lt (omega arith) in
    let q : flags_of b % 2 ≡ flags_of b = mod-eq_of_lt (flags-few b) in
    omega arith

-- ---- a grid

module _ (s : List ℕ) (small : (i : ℕ) → get_or s i 0 < 256) (g : GridDescriptor) (read : grid_of s ≡ Ok g) where
  grid-again : s ≡ grid_body_in (get_or s 1 0) g ++ drop (4 + 2 * field_bytes (get_or s 1 0)) s
  unfolding grid_of grid_at grid_body_in
  grid-again =
      let h = and_then-done _ _ g read in
      let r = on_field-done _ _ g h.2 in
      let q = on_field-done _ _ g r.3 in
      let c = and_then-done _ _ g q.3 in
      let start = start-again s small h.0 h.1 in
      let a = field-read s h.0.1.at 1 r.0 r.1 r.2 in
      let b = field-read s r.1.at 1 q.0 q.1 q.2 in
      let at2 : r.1.at ≡ 3 = a.1 ∙ ap (λ (k : ℕ). k + 1) start.2 in
      let at3 : q.1.at ≡ 4 = b.1 ∙ ap (λ (k : ℕ). k + 1) at2 in
      let n = field_bytes (get_or s 1 0) in
      let canvas = canvas-again s small 4 n _ _ c.0 at3 start.1 c.1 in
      let g' = done-same _ g c.2 in
      let rows : big_endian s 2 1 ≡ g.rows - 1 = ap (λ (k : ℕ). big_endian s k 1) (sym start.2) ∙ sym a.0 ∙ omega (arith, ap (λ (k : GridDescriptor). k.rows) g') in
      let columns : big_endian s 3 1 ≡ g.columns - 1 = ap (λ (k : ℕ). big_endian s k 1) (sym at2) ∙ sym b.0 ∙ omega (arith, ap (λ (k : GridDescriptor). k.columns) g') in
      let width : c.0.0.width ≡ g.output_width = ap (λ (k : GridDescriptor). k.output_width) g' in
      let height : c.0.0.height ≡ g.output_height = ap (λ (k : GridDescriptor). k.output_height) g' in
      let e : 4 + n + n ≡ 4 + 2 * n = omega arith in
      start.0
      ∙ ap (λ (t : List ℕ). 0 ∷ get_or s 1 0 ∷ t)
      (byte-again s small 2 (omega (arith, canvas.2)) ∙ ap (λ (k : ℕ). k ∷ drop 3 s) rows
      ∙ ap (λ (t : List ℕ). (g.rows - 1) ∷ t)
      (byte-again s small 3 (omega (arith, canvas.2)) ∙ ap (λ (k : ℕ). k ∷ drop 4 s) columns
      ∙ ap (λ (t : List ℕ). (g.columns - 1) ∷ t) (canvas.0 ∙ rw (width, height, e) refl)))

  grid-same : (room : ℕ) → get_or s 1 0 ≤ 1 → length s ≡ 4 + 2 * field_bytes (get_or s 1 0) → field_bytes (get_or s 1 0) ≡ field_bytes (flags_of (narrow_canvas g.output_width g.output_height))
      → grid_body_run g room ≡ fitted room s
  unfolding grid_body is_tile_count
  grid-same room f l e =
      let k = grid-taken s g small read in
      let ends : drop (4 + 2 * field_bytes (get_or s 1 0)) s ≡ [] = drop_of_length-le s {i = 4 + 2 * field_bytes (get_or s 1 0)} (omega arith) in
      let body : grid_body_in (get_or s 1 0) g ≡ s =
      sym (append-nil _) ∙ ap (λ (q : List ℕ). grid_body_in (get_or s 1 0) g ++ q) (sym ends) ∙ sym grid-again in
      grid-run g room tt
      (judged-grid g _ (true-and _ _ (le-leb 1 g.rows k.positive_rows) (le-leb g.rows 256 k.bounded_rows))
      (true-and _ _ (le-leb 1 g.columns k.positive_columns) (le-leb g.columns 256 k.bounded_columns)) (size-taken (sides g.output_width g.output_height) k.canvas))
      ∙ ap (λ (x : ℕ). fitted room (grid_body_in x g)) (sym (flags-same (get_or s 1 0) (narrow_canvas g.output_width g.output_height) f e)) ∙ ap (fitted room) body

-- "a parsed body with flags 0 or 1 is rewritten to the same bytes when it had no trailing bytes and its form was the one this rule picks"
pub grid-rewritten : (s : List ℕ) (g : GridDescriptor) (room : ℕ) → Bytes s → grid_of s ≡ Ok g → get_or s 1 0 ≤ 1 → length s ≡ 4 + 2 * field_bytes (get_or s 1 0)
    → field_bytes (get_or s 1 0) ≡ field_bytes (flags_of (narrow_canvas g.output_width g.output_height)) → grid_body_run g room ≡ fitted room s
unfolding Bytes
grid-rewritten s g room small read = grid-same s small g read room

-- ---- an overlay

-- items one after the other, each as it stands
span-again : (s : List ℕ) (at m n : ℕ) (f : ℕ → List ℕ) → ((i : ℕ) → i < n → drop (at + i * m) s ≡ f i ++ drop (at + i * m + m) s) → drop at s ≡ span f 0 n ++ drop (at + n * m) s
span-again s at m zero f h = ap (λ (k : ℕ). drop k s) (let e : at ≡ at + 0 * m = omega arith in e) ∙ ap (λ (q : List ℕ). q ++ drop (at + 0 * m) s) (sym (span-end f 0 0 (omega arith)))
span-again s at m (suc n) f h =
    let e : at + n * m + m ≡ at + suc n * m = omega (arith, suc-mul n m) in
    let one : span f n (suc n) ≡ f n = span-step f n (suc n) (omega arith) ∙ ap (λ (q : List ℕ). f n ++ q) (span-end f (n + 1) (suc n) (omega arith)) ∙ append-nil (f n) in
    span-again s at m n f (λ i l. h i (omega arith))
    ∙ ap (λ (q : List ℕ). span f 0 n ++ q) (h n (omega arith) ∙ ap (λ (k : ℕ). f n ++ drop k s) e)
    ∙ sym (append_assoc (span f 0 n) (f n) (drop (at + suc n * m) s))
    ∙ ap (λ (q : List ℕ). q ++ drop (at + suc n * m) s) (ap (λ (q : List ℕ). span f 0 n ++ q) (sym one) ∙ sym (span-split f 0 n (suc n) (omega arith) (omega arith)))

module _ (s : List ℕ) (small : (i : ℕ) → get_or s i 0 < 256) where
  fill-again : (at p : ℕ) (f : _) → p ≡ at → fill_at s p ≡ Ok f → (drop at s ≡ fill_bytes f.0 ++ drop (at + 8) s) × (f.1.at ≡ at + 8) × FillSmall f.0 × (at + 8 ≤ length s)
  unfolding fill_at fill_bytes
  fill-again at p f q e0 =
      let e : fill_at s at ≡ Ok f = rw q at e0 in
      let r = on_field-done _ _ f e in
      let g = on_field-done _ _ f r.3 in
      let b = on_field-done _ _ f g.3 in
      let a = on_field-done _ _ f b.3 in
      let k = done-same _ f a.3 in
      let fr = field-read s at 2 r.0 r.1 r.2 in
      let fg = field-read s r.1.at 2 g.0 g.1 g.2 in
      let fb = field-read s g.1.at 2 b.0 b.1 b.2 in
      let fa = field-read s b.1.at 2 a.0 a.1 a.2 in
      let at2 : r.1.at ≡ at + 2 = fr.1 in
      let at4 : g.1.at ≡ at + 4 = omega (arith, fg.1) in
      let at6 : b.1.at ≡ at + 6 = omega (arith, fb.1) in
      let at8 : a.1.at ≡ at + 8 = omega (arith, fa.1) in
      let long : at + 8 ≤ length s = omega (arith, fa.2) in
      let red : big_endian s at 2 ≡ f.0.red = sym fr.0 ∙ ap (λ x. x.0.red) k in
      let green : big_endian s (at + 2) 2 ≡ f.0.green = ap (λ (x : ℕ). big_endian s x 2) (sym at2) ∙ sym fg.0 ∙ ap (λ x. x.0.green) k in
      let blue : big_endian s (at + 4) 2 ≡ f.0.blue = ap (λ (x : ℕ). big_endian s x 2) (sym at4) ∙ sym fb.0 ∙ ap (λ x. x.0.blue) k in
      let alpha : big_endian s (at + 6) 2 ≡ f.0.alpha = ap (λ (x : ℕ). big_endian s x 2) (sym at6) ∙ sym fa.0 ∙ ap (λ x. x.0.alpha) k in
      let two : (x v : ℕ) → x + 2 ≤ length s → big_endian s x 2 ≡ v → drop x s ≡ big_endian_bytes 2 v ++ drop (x + 2) s =
      λ x v h d. field-again s x 2 small h ∙ ap (λ (y : ℕ). big_endian_bytes 2 y ++ drop (x + 2) s) d in
      let p4 : at + 2 + 2 ≡ at + 4 = omega arith in
      let p6 : at + 4 + 2 ≡ at + 6 = omega arith in
      let p8 : at + 6 + 2 ≡ at + 8 = omega arith in
      let below : (x v : ℕ) → big_endian s x 2 ≡ v → v ≤ 65535 = λ x v d. omega (arith, big_endian-below s x 2 small) in (
        two at f.0.red (omega arith) red
            ∙ ap (λ (t : List ℕ). big_endian_bytes 2 f.0.red ++ t)
            (two (at + 2) f.0.green (omega arith) green
            ∙ ap (λ (t : List ℕ). big_endian_bytes 2 f.0.green ++ t)
            (ap (λ (x : ℕ). drop x s) p4 ∙ two (at + 4) f.0.blue (omega arith) blue
            ∙ ap (λ (t : List ℕ). big_endian_bytes 2 f.0.blue ++ t) (ap (λ (x : ℕ). drop x s) p6 ∙ two (at + 6) f.0.alpha (omega arith) alpha)))
            ∙ rw p8 (simp append_assoc),
        ap (λ x. x.1.at) (sym k) ∙ at8,
        record { red = below at _ red; green = below (at + 2) _ green; blue = below (at + 4) _ blue; alpha = below (at + 6) _ alpha },
        long,
      )

  -- an offset as it stands
  offset-again : (at n : ℕ) → at + n ≤ length s → drop at s ≡ offset_bytes n (signed_at s at n) ++ drop (at + n) s
  unfolding offset_bytes signed_at
  offset-again at n h =
      let b : big_endian s at n < 2 ^ (8 * n) = rw (← patterns n) (big_endian-below s at n small) in
      field-again s at n small h ∙ ap (λ (v : ℕ). big_endian_bytes n v ++ drop (at + n) s) (sym (pattern-signed (2 ^ (8 * n)) (big_endian s at n) b))

module _ (s : List ℕ) (small : (i : ℕ) → get_or s i 0 < 256) (n : ℕ) (d : OverlayDescriptor) (read : overlay_of s n ≡ Ok d) where
  sound : OverlaySound s d × (d.count ≡ n)
  sound = overlay-taken s n d read

  head-again : (s ≡ 0 ∷ get_or s 1 0 ∷ (fill_bytes d.canvas_fill ++ (canvas_bytes d.bytes d.output_width d.output_height ++ drop d.offsets s))) × (d.bytes ≡ field_bytes (get_or s 1 0)) × FillSmall d.canvas_fill
  unfolding overlay_of inputs_of
  head-again =
      let h = and_then-done _ _ d read in
      let f = and_then-done _ _ d h.2 in
      let c = and_then-done _ _ d f.2 in
      let a = refuse-done _ 4 _ d c.2 in
      let b = refuse-done _ 1 _ d a.1 in
      let k = done-same _ d b.1 in
      let bytes : h.0.0 ≡ d.bytes = ap (λ (x : OverlayDescriptor). x.bytes) k in
      let fill : f.0.0 ≡ d.canvas_fill = ap (λ (x : OverlayDescriptor). x.canvas_fill) k in
      let width : c.0.0.width ≡ d.output_width = ap (λ (x : OverlayDescriptor). x.output_width) k in
      let height : c.0.0.height ≡ d.output_height = ap (λ (x : OverlayDescriptor). x.output_height) k in
      let offsets : c.0.1.at ≡ d.offsets = ap (λ (x : OverlayDescriptor). x.offsets) k in
      let start = start-again s small h.0 h.1 in
      let colour = fill-again s small 2 h.0.1.at f.0 start.2 f.1 in
      let canvas = canvas-again s small 10 d.bytes f.0.1.at h.0.0 c.0 colour.1 bytes c.1 in
      let past : 10 + d.bytes + d.bytes ≡ d.offsets = sym canvas.1 ∙ offsets in (
        start.0
            ∙ ap (λ (t : List ℕ). 0 ∷ get_or s 1 0 ∷ t)
            (colour.0 ∙ ap (λ (x : Fill). fill_bytes x ++ drop 10 s) fill ∙ ap (λ (t : List ℕ). fill_bytes d.canvas_fill ++ t) (canvas.0 ∙ rw (width, height, past) refl)),
        sym bytes ∙ start.1,
        rw fill at colour.2,
      )

  offsets-again : drop d.offsets s ≡ span (input_bytes d.bytes (fields_of s d)) 0 d.count ++ drop (d.offsets + d.count * (2 * d.bytes)) s
  unfolding input_bytes fields_of horizontal_at vertical_at offset_place
  offsets-again =
      span-again s d.offsets (2 * d.bytes) d.count (input_bytes d.bytes (fields_of s d))
      (λ i l.
      let b = d.bytes in
      let p = d.offsets + i * (2 * b) in
      let k = item-within i d.count (2 * b) l in
      let e : p + b + b ≡ p + 2 * b = omega arith in
      offset-again s small p b (omega (arith, sound.0.inside))
      ∙ ap (λ (q : List ℕ). offset_bytes b (signed_at s p b) ++ q) (offset-again s small (p + b) b (omega (arith, sound.0.inside)) ∙ ap (λ (j : ℕ). offset_bytes b (signed_at s (p + b) b) ++ drop j s) e)
      ∙ sym (append_assoc (offset_bytes b (signed_at s p b)) (offset_bytes b (signed_at s (p + b) b)) (drop (p + 2 * b) s)))

  overlay-again : s ≡ overlay_body_in (get_or s 1 0) (fields_of s d) ++ drop (d.offsets + d.count * (2 * d.bytes)) s
  unfolding overlay_body_in fields_of
  overlay-again =
      head-again.0
      ∙ ap (λ (q : List ℕ). 0 ∷ get_or s 1 0 ∷ (fill_bytes d.canvas_fill ++ (canvas_bytes d.bytes d.output_width d.output_height ++ q))) offsets-again
      ∙ ap (λ (b : ℕ). 0 ∷ get_or s 1 0 ∷ (fill_bytes d.canvas_fill ++ (canvas_bytes b d.output_width d.output_height ++ (span (input_bytes b (fields_of s d)) 0 d.count ++ drop (d.offsets + d.count * (2 * d.bytes)) s)))) head-again.1
      ∙ simp append_assoc

  overlay-same : (o : OverlayFields) (room : ℕ) → 1 ≤ n → get_or s 1 0 ≤ 1 → length s ≡ d.offsets + d.count * (2 * d.bytes) → d.bytes ≡ field_bytes (flags_of (narrow_overlay (fields_of s d)))
      → SameFields o (fields_of s d) → overlay_body_run o room ≡ fitted room s
  unfolding overlay_body fields_of
  overlay-same o room some f l e same =
      let k = sound.0 in
      let count : o.count ≡ d.count = same.count in
      let ends : drop (d.offsets + d.count * (2 * d.bytes)) s ≡ [] = drop_of_length-le s {i = d.offsets + d.count * (2 * d.bytes)} (omega arith) in
      let picked : get_or s 1 0 ≡ flags_of (narrow_overlay (fields_of s d)) = flags-same (get_or s 1 0) (narrow_overlay (fields_of s d)) f (sym head-again.1 ∙ e) in
      let body : overlay_body (fields_of s d) ≡ s =
      ap (λ (x : ℕ). overlay_body_in x (fields_of s d)) (sym picked) ∙ sym (append-nil _) ∙ ap (λ (q : List ℕ). overlay_body_in (get_or s 1 0) (fields_of s d) ++ q) (sym ends) ∙ sym overlay-again in
      let judged : judged_size o.width o.height ≡ Ok (sides d.output_width d.output_height) =
      rw (same.width, same.height) (size-taken (sides d.output_width d.output_height) k.canvas) in
      overlay-run o room tt (judged-overlay o _ judged (omega (arith, sound.1)) (omega (arith, k.count))) ∙ ap (fitted room) (body_same o (fields_of s d) same ∙ body)

-- "an overlay's with an input", from whatever says the same fields
pub overlay-rewritten : (s : List ℕ) (n : ℕ) (d : OverlayDescriptor) (o : OverlayFields) (room : ℕ) → Bytes s → overlay_of s n ≡ Ok d → 1 ≤ n → get_or s 1 0 ≤ 1
    → length s ≡ d.offsets + d.count * (2 * d.bytes) → d.bytes ≡ field_bytes (flags_of (narrow_overlay (fields_of s d))) → SameFields o (fields_of s d) → overlay_body_run o room ≡ fitted room s
unfolding Bytes
overlay-rewritten s n d o room small read = overlay-same s small n d read o room

-- ---- the words of a body that was read

-- what a field holds, 32 bits hold
field-signed : (s : List ℕ) (small : (i : ℕ) → get_or s i 0 < 256) (at n : ℕ) → FieldLength n → mag (signed_at s at n) < 2 ^ 31
unfolding signed_at
field-signed s small at n f =
    by_order n 4 (λ l. let e : n ≡ 2 = omega arith in rw e (omega (arith, signed-fits 65536 (big_endian s at 2) (big_endian-below s at 2 small) refl)))
    (λ l. let e : n ≡ 4 = omega arith in rw e (signed-fits (2 ^ 32) (big_endian s at 4) (big_endian-below s at 4 small) refl))

-- pairs one after the other
module _ (f g : ℕ → ℕ) (n : ℕ) where
  abbrev pairs : List ℕ
  pairs = span (λ i. f i ∷ g i ∷ []) 0 n

  length_pairs : length pairs ≡ n * 2
  length_pairs = length-span-all (λ i. f i ∷ g i ∷ []) 2 n (λ i. refl)

  pair-at : (i : ℕ) → i < n → (get_or pairs (2 * i) 0 ≡ f i) × (get_or pairs (2 * i + 1) 0 ≡ g i)
  pair-at i h =
      let e = item-at pairs 0 (λ j. f j ∷ g j ∷ []) 2 n [] (λ j. refl) (sym (append-nil pairs)) i h in
      let a : 2 * i ≡ 0 + i * 2 + 0 = omega arith in
      let b : 2 * i + 1 ≡ 0 + i * 2 + 1 = omega arith in (
        ap (λ (k : ℕ). get_or pairs k 0) a ∙ sym (get_or-drop (0 + i * 2) pairs 0 0) ∙ ap (λ (q : List ℕ). get_or q 0 0) e,
        ap (λ (k : ℕ). get_or pairs k 0) b ∙ sym (get_or-drop (0 + i * 2) pairs 1 0) ∙ ap (λ (q : List ℕ). get_or q 1 0) e,
      )

  pairs_below : (m : ℕ) → 0 < m → ((i : ℕ) → f i < m) → ((i : ℕ) → g i < m) → (k : ℕ) → get_or pairs k 0 < m
  pairs_below m z p q k =
      by_order (k / 2) n
      (λ h.
      let c = pair-at (k / 2) h in
      by_equal (k % 2) 0 (λ r. let e : k ≡ 2 * (k / 2) = omega arith in rw e (rw c.0 (p (k / 2))))
      (λ r. let e : k ≡ 2 * (k / 2) + 1 = omega arith in rw e (rw c.1 (q (k / 2)))))
      (λ h. rw (get_or-eq_default pairs 0 {n = k} (omega (arith, length_pairs))) z)

module _ (s : List ℕ) (small : (i : ℕ) → get_or s i 0 < 256) (n : ℕ) (d : OverlayDescriptor) (read : overlay_of s n ≡ Ok d) where
  long : FieldLength d.bytes
  long = rw (head-again s small n d read).1 (field-length (get_or s 1 0))

  across : (i : ℕ) → mag (horizontal_at s d i) < 2 ^ 31
  unfolding horizontal_at
  across i = field-signed s small (offset_place d i) d.bytes long

  down : (i : ℕ) → mag (vertical_at s d i) < 2 ^ 31
  unfolding vertical_at
  down i = field-signed s small (offset_place d i + d.bytes) d.bytes long

  abbrev right : ℕ → ℕ
  right i = pattern_of (2 ^ 32) (horizontal_at s d i)

  abbrev below : ℕ → ℕ
  below i = pattern_of (2 ^ 32) (vertical_at s d i)

  words_of : (words : List ℕ) × ((k : ℕ) → get_or words k 0 < 2 ^ 32) × SameFields (fields_in d.canvas_fill d.output_width d.output_height words) (fields_of s d)
  unfolding fields_in fields_of offset_in
  words_of =
      let count : length (pairs right below d.count) / 2 ≡ d.count = omega (arith, length_pairs right below d.count) in (
        pairs right below d.count,
        pairs_below right below d.count (2 ^ 32) (lit< tt) (λ i. pattern-below (2 ^ 32) (horizontal_at s d i) (across i)) (λ i. pattern-below (2 ^ 32) (vertical_at s d i) (down i)),
        record {
          fill = refl;
          width = refl;
          height = refl;
          count = count;
          horizontal = λ i h. ap (signed_of (2 ^ 32)) (pair-at right below d.count i (omega arith)).0 ∙ signed-pattern (2 ^ 32) (horizontal_at s d i) (across i);
          vertical = λ i h. ap (signed_of (2 ^ 32)) (pair-at right below d.count i (omega arith)).1 ∙ signed-pattern (2 ^ 32) (vertical_at s d i) (down i);
        },
      )

-- the fields of every body that was read can be handed in as words
pub words-there : (s : List ℕ) (n : ℕ) (d : OverlayDescriptor) → Bytes s → overlay_of s n ≡ Ok d
    → (words : List ℕ) × ((k : ℕ) → get_or words k 0 < 2 ^ 32) × SameFields (fields_in d.canvas_fill d.output_width d.output_height words) (fields_of s d)
unfolding Bytes
words-there s n d small read = words_of s small n d read
