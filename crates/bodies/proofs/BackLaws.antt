-- Laws of reading a body that was written: its fields come back.
use Rattle.numbers.specs.declared.Cursor.{Cursor}
use Rattle.std.specs.Prelude.{Ok}
use mathlib.Core.Bool.{Bool, ◌&&◌, false, true}
use mathlib.Core.List.{List, ◌++◌, ◌∷◌, append_assoc}
use mathlib.Core.Path.{◌∙◌, ◌≡◌, ap, ap₂, refl, sym}
use Prim.Native.Nat.{◌%◌, ◌*◌, ◌+◌, ◌-◌, ◌/◌, ◌<◌, ◌^◌, ◌≤◌, ℕ}
use native.Mathlib.Nat.{mul-le-mul_left, mul-le-mul_right}
use native.Mathlib.Omega.{arith}
use lib.Dec.{lit<}
use lib.IntN.{ℤ}
use lib.ListN.{drop, get_or, length, length-append, length-drop}
use lib.Signed.{mag}
use borrow.Author.Tests.{le-ltb, leb-true}
use Rattle.laws.proofs.Order.{and-true}
use Rattle.laws.proofs.Out.{and_then-done, done-same, refuse-done, refuse-no, then-done}
use Rattle.laws.proofs.Span.{item-at, length-span-all}
use Rattle.laws.specs.Out.{Out, fitted}
use Rattle.laws.specs.Pick.{pick}
use Rattle.laws.specs.Span.{span}
use Rattle.image.proofs.JudgedLaws.{judged-same, judged-sound}
use Rattle.image.specs.Format.{judged_size, sides}
use Rattle.image.specs.Sound.{SizeSound}
use Rattle.image.specs.declared.size.Size.{Size}
use Rattle.numbers.proofs.Field.{field_back, length-big_endian_bytes, pattern-below, signed-fits, signed-pattern}
use Rattle.numbers.proofs.Number.{past-append}
use Rattle.numbers.specs.Field.{big_endian_bytes, field_at, on_field, pattern_of, signed_of}
use Rattle.derived.proofs.FieldLaws.{field-inside, patterns}
use Rattle.derived.specs.Canvas.{canvas_at, field_bytes, start_of}
use Rattle.derived.specs.Grid.{grid_at, grid_of}
use Rattle.derived.specs.Overlay.{fill_at, horizontal_at, inputs_of, offset_place, overlay_of, signed_at, vertical_at}
use Rattle.derived.specs.declared.grid.GridDescriptor.{GridDescriptor}
use Rattle.derived.specs.declared.overlay.Fill.{Fill}
use Rattle.derived.specs.declared.overlay.OverlayDescriptor.{OverlayDescriptor}
use Rattle.laws.proofs.Any.{all-at}
use Rattle.bodies.proofs.FormLaws.{field-length, flags-few, length-canvas, length-fill, narrow-fits, tile-count}
use Rattle.bodies.proofs.RunLaws.{grid-judged, overlay-judged}
use Rattle.bodies.specs.Form.{canvas_bytes, flags_of, narrow_canvas, narrow_offset}
use Rattle.bodies.specs.Grid.{grid_body, grid_body_in, grid_body_run}
use Rattle.bodies.specs.Overlay.{FillSmall, OverlayFields, SameFields, fields_in, fields_of, fill_bytes, input_bytes, narrow_overlay, offset_bytes, offset_in, overlay_body, overlay_body_in, overlay_body_run}

-- ---- fields

-- a field that stands at a place is read there, and what follows it stands past it
module _ (s : List ℕ) (at n v : ℕ) (rest : List ℕ) (e : drop at s ≡ big_endian_bytes n v ++ rest) where
  field_past : drop (at + n) s ≡ rest
  field_past = rw (← length-big_endian_bytes n v) (past-append s at (big_endian_bytes n v) rest e)

  field-there : {A : Type 0} (k : ℕ → ℕ → Out A) → 1 ≤ n → v < 256 ^ n → on_field (field_at s at n) k ≡ k v (at + n)
  unfolding on_field
  field-there k p h =
      let l : length s - at ≡ n + length rest =
      sym (length-drop at s) ∙ ap length e ∙ length-append (big_endian_bytes n v) rest ∙ ap (λ (m : ℕ). m + length rest) (length-big_endian_bytes n v) in
      ap (λ (r : Out (ℕ × Cursor)). on_field r k) (field-inside s at n (omega arith)) ∙ ap (λ (m : ℕ). k m (at + n)) (field_back s at n v rest e h)

-- one byte
module _ (s : List ℕ) (at v : ℕ) (rest : List ℕ) (e : drop at s ≡ v ∷ rest) (h : v < 256) where
  one_byte : drop at s ≡ big_endian_bytes 1 v ++ rest
  unfolding big_endian_bytes
  one_byte = let q : v ≡ v % 256 = omega arith in e ∙ ap (λ (b : ℕ). b ∷ rest) q

  byte-there : {A : Type 0} (k : ℕ → ℕ → Out A) → on_field (field_at s at 1) k ≡ k v (at + 1)
  byte-there k = field-there s at 1 v rest one_byte k (omega arith) (omega arith)

-- ---- what both bodies have

start-there : (s : List ℕ) (flags : ℕ) (rest : List ℕ) → s ≡ 0 ∷ flags ∷ rest → flags < 256 → start_of s ≡ Ok (field_bytes flags, record { at = 2 })
unfolding start_of
start-there s flags rest e h = byte-there s 0 0 (flags ∷ rest) e (lit< tt) _ ∙ refuse-no 2 _ refl ∙ byte-there s 1 flags rest (ap (drop 1) e) h _

canvas-there : (s : List ℕ) (at n w h : ℕ) (rest : List ℕ) (z : Size) → drop at s ≡ canvas_bytes n w h ++ rest → 1 ≤ n → w < 256 ^ n → h < 256 ^ n → judged_size w h ≡ Ok z
    → (canvas_at s at n ≡ Ok (sides w h, record { at = at + n + n })) × (drop (at + n + n) s ≡ rest)
unfolding canvas_at canvas_bytes
canvas-there s at n w h rest z e p x y j =
    let a : drop at s ≡ big_endian_bytes n w ++ (big_endian_bytes n h ++ rest) = e ∙ append_assoc (big_endian_bytes n w) (big_endian_bytes n h) rest in
    let b : drop (at + n) s ≡ big_endian_bytes n h ++ rest = field_past s at n w (big_endian_bytes n h ++ rest) a in
    let q : judged_size w h ≡ Ok (sides w h) = j ∙ ap Ok (judged-same w h z j) in (
      field-there s at n w _ a _ p x ∙ field-there s (at + n) n h rest b _ p y ∙ then-done _ q,
      field_past s (at + n) n h rest b,
    )

-- the form that the rule picks holds the sides of a canvas that is taken
canvas-fits : (w h : ℕ) (z : Size) (b : Bool) → judged_size w h ≡ Ok z → (b ≡ true → narrow_canvas w h ≡ true) → (w < 256 ^ field_bytes (flags_of b)) × (h < 256 ^ field_bytes (flags_of b))
unfolding narrow_canvas field_bytes flags_of pick
canvas-fits w h z true j f = let n = and-true _ _ (f refl) in (omega (arith, leb-true w 65535 n.0), omega (arith, leb-true h 65535 n.1))
canvas-fits w h z false j f =
    let k : SizeSound (sides w h) = rw (judged-same w h z j) at (judged-sound w h z j) in
    let a : w * 1 ≤ w * h = mul-le-mul_left w k.tall in
    let b : 1 * h ≤ w * h = mul-le-mul_right h k.wide in
    (omega (arith, k.area), omega (arith, k.area))

-- ---- a grid

module _ (g : GridDescriptor) (room : ℕ) (bs rest : List ℕ) (written : grid_body_run g room ≡ Ok bs) where
  -- "Parsing the written body gives the fields back", whatever stands behind it
  pub grid-back : grid_of (bs ++ rest) ≡ Ok g
  unfolding grid_of grid_at grid_body_run grid_body grid_body_in fitted
  grid-back =
      let k = and_then-done _ _ bs written in
      let t = grid-judged g k.0 k.1 in
      let f = refuse-done _ 17 _ bs k.2 in
      let w = g.output_width in
      let h = g.output_height in
      let flags = flags_of (narrow_canvas w h) in
      let rows = tile-count g.rows t.0 in
      let columns = tile-count g.columns t.1 in
      let s = bs ++ rest in
      let e : s ≡ 0 ∷ flags ∷ (g.rows - 1) ∷ (g.columns - 1) ∷ (canvas_bytes (field_bytes flags) w h ++ rest) = ap (λ (q : List ℕ). q ++ rest) (sym (done-same _ bs f.1)) in
      let fits = canvas-fits w h t.2 (narrow_canvas w h) t.3 (λ q. q) in
      let canvas = canvas-there s 4 (field_bytes flags) w h rest t.2 (ap (drop 4) e) (omega (arith, field-length flags)) fits.0 fits.1 t.3 in
      let r : g.rows - 1 + 1 ≡ g.rows = omega arith in
      let q : g.columns - 1 + 1 ≡ g.columns = omega arith in
      then-done _ (start-there s flags _ e (omega (arith, flags-few (narrow_canvas w h))))
      ∙ byte-there s 2 (g.rows - 1) _ (ap (drop 2) e) (omega arith) _
      ∙ byte-there s 3 (g.columns - 1) _ (ap (drop 3) e) (omega arith) _
      ∙ then-done _ canvas.0
      ∙ ap₂ (λ (x y : ℕ). Ok (record { rows = x; columns = y; output_width = w; output_height = h })) r q

-- ---- an overlay

fill-there : (s : List ℕ) (at : ℕ) (f : Fill) (rest : List ℕ) → drop at s ≡ fill_bytes f ++ rest → FillSmall f
    → (fill_at s at ≡ Ok (f, record { at = at + 2 + 2 + 2 + 2 })) × (drop (at + 2 + 2 + 2 + 2) s ≡ rest)
unfolding fill_at fill_bytes
fill-there s at f rest e k =
    let r = big_endian_bytes 2 f.red in
    let g = big_endian_bytes 2 f.green in
    let b = big_endian_bytes 2 f.blue in
    let a = big_endian_bytes 2 f.alpha in
    let e1 : drop at s ≡ r ++ (g ++ (b ++ (a ++ rest))) = e ∙ simp append_assoc in
    let e2 : drop (at + 2) s ≡ g ++ (b ++ (a ++ rest)) = field_past s at 2 f.red _ e1 in
    let e3 : drop (at + 2 + 2) s ≡ b ++ (a ++ rest) = field_past s (at + 2) 2 f.green _ e2 in
    let e4 : drop (at + 2 + 2 + 2) s ≡ a ++ rest = field_past s (at + 2 + 2) 2 f.blue _ e3 in (
      field-there s at 2 f.red _ e1 _ (omega arith) (omega (arith, k.red))
          ∙ field-there s (at + 2) 2 f.green _ e2 _ (omega arith) (omega (arith, k.green))
          ∙ field-there s (at + 2 + 2) 2 f.blue _ e3 _ (omega arith) (omega (arith, k.blue))
          ∙ field-there s (at + 2 + 2 + 2) 2 f.alpha _ e4 _ (omega arith) (omega (arith, k.alpha)),
      field_past s (at + 2 + 2 + 2) 2 f.alpha rest e4,
    )

-- an offset that n bytes hold
offset-there : (s : List ℕ) (at n : ℕ) (z : ℤ) (rest : List ℕ) → drop at s ≡ offset_bytes n z ++ rest → mag z < 2 ^ (8 * n) / 2 → (signed_at s at n ≡ z) × (drop (at + n) s ≡ rest)
unfolding signed_at offset_bytes
offset-there s at n z rest e h =
    let b : pattern_of (2 ^ (8 * n)) z < 256 ^ n = rw (patterns n) (pattern-below (2 ^ (8 * n)) z h) in (
      ap (signed_of (2 ^ (8 * n))) (field_back s at n (pattern_of (2 ^ (8 * n)) z) rest e b) ∙ signed-pattern (2 ^ (8 * n)) z h,
      field_past s at n (pattern_of (2 ^ (8 * n)) z) rest e,
    )

length-offset : (n : ℕ) (z : ℤ) → length (offset_bytes n z) ≡ n
unfolding offset_bytes
length-offset n z = length-big_endian_bytes n (pattern_of (2 ^ (8 * n)) z)

length-input : (n : ℕ) (o : OverlayFields) (i : ℕ) → length (input_bytes n o i) ≡ 2 * n
unfolding input_bytes
length-input n o i =
    let a = length-offset n (o.horizontal i) in
    let b = length-offset n (o.vertical i) in
    length-append (offset_bytes n (o.horizontal i)) (offset_bytes n (o.vertical i)) ∙ omega arith

-- the form that the rule picks holds every offset of 32 bits
offset-fits : (b : Bool) (z : ℤ) → (b ≡ true → narrow_offset z ≡ true) → mag z < 2 ^ 31 → mag z < 2 ^ (8 * field_bytes (flags_of b)) / 2
unfolding field_bytes flags_of pick
offset-fits true z f h = narrow-fits z (f refl)
offset-fits false z f h = h

module _ (o : OverlayFields) (room : ℕ) (bs rest : List ℕ) (written : overlay_body_run o room ≡ Ok bs) (fill : FillSmall o.fill)
    (across : (i : ℕ) → mag (o.horizontal i) < 2 ^ 31) (down : (i : ℕ) → mag (o.vertical i) < 2 ^ 31) where
  abbrev s : List ℕ
  s = bs ++ rest

  abbrev n : ℕ
  n = field_bytes (flags_of (narrow_overlay o))

  abbrev read : OverlayDescriptor
  read = record { canvas_fill = o.fill; output_width = o.width; output_height = o.height; count = o.count; offsets = 10 + n + n; bytes = n }

  taken : (z : Size) × (judged_size o.width o.height ≡ Ok z) × (o.count ≤ 65536) × (bs ≡ overlay_body o)
  unfolding overlay_body_run fitted
  taken =
      let k = and_then-done _ _ bs written in
      let j = overlay-judged o k.0 k.1 in
      let f = refuse-done _ 17 _ bs k.2 in
      (j.0, j.1, j.2, sym (done-same _ bs f.1))

  abbrev offsets : List ℕ
  offsets = span (input_bytes n o) 0 o.count

  laid : s ≡ 0 ∷ flags_of (narrow_overlay o) ∷ (fill_bytes o.fill ++ (canvas_bytes n o.width o.height ++ (offsets ++ rest)))
  unfolding overlay_body overlay_body_in
  laid = ap (λ (q : List ℕ). q ++ rest) taken.3 ∙ simp append_assoc

  narrow-part : narrow_overlay o ≡ true → (narrow_canvas o.width o.height ≡ true) × ((i : ℕ) → i < o.count → (narrow_offset (o.horizontal i) ≡ true) × (narrow_offset (o.vertical i) ≡ true))
  unfolding narrow_overlay
  narrow-part e =
      let a = and-true _ _ e in
      (a.0, λ i h. and-true _ _ (all-at o.count (λ j. narrow_offset (o.horizontal j) && narrow_offset (o.vertical j)) a.1 i h))

  head-there : (overlay_of s o.count ≡ inputs_of s o.fill (sides o.width o.height) (10 + n + n) n o.count) × (drop (10 + n + n) s ≡ offsets ++ rest)
  unfolding overlay_of
  head-there =
      let f = fill-there s 2 o.fill _ (ap (drop 2) laid) fill in
      let fits = canvas-fits o.width o.height taken.0 (narrow_overlay o) taken.1 (λ e. (narrow-part e).0) in
      let c = canvas-there s 10 n o.width o.height (offsets ++ rest) taken.0 f.1 (omega (arith, field-length (flags_of (narrow_overlay o)))) fits.0 fits.1 taken.1 in
      (then-done _ (start-there s (flags_of (narrow_overlay o)) _ laid (omega (arith, flags-few (narrow_overlay o)))) ∙ then-done _ f.0 ∙ then-done _ c.0, c.1)

  inside : 10 + n + n + o.count * (2 * n) ≤ length s
  inside =
      let canvas = canvas_bytes n o.width o.height in
      let a = ap length laid in
      let b = length-append (fill_bytes o.fill) (canvas ++ (offsets ++ rest)) in
      let d = length-append canvas (offsets ++ rest) in
      let e = length-append offsets rest in
      let k = length-span-all (input_bytes n o) (2 * n) o.count (length-input n o) in
      omega (arith, length-fill o.fill, length-canvas n o.width o.height)

  overlay_read : overlay_of s o.count ≡ Ok read
  unfolding inputs_of
  overlay_read = head-there.0 ∙ refuse-no 4 _ (le-ltb 65536 o.count taken.2) ∙ refuse-no 1 _ (le-ltb (length s) _ inside)

  input-there : (i : ℕ) → i < o.count → (horizontal_at s read i ≡ o.horizontal i) × (vertical_at s read i ≡ o.vertical i)
  unfolding horizontal_at vertical_at offset_place input_bytes
  input-there i h =
      let at = 10 + n + n + i * (2 * n) in
      let e = item-at s (10 + n + n) (input_bytes n o) (2 * n) o.count rest (length-input n o) head-there.1 i h in
      let q : drop at s ≡ offset_bytes n (o.horizontal i) ++ (offset_bytes n (o.vertical i) ++ _) = e ∙ append_assoc (offset_bytes n (o.horizontal i)) (offset_bytes n (o.vertical i)) _ in
      let a = offset-there s at n (o.horizontal i) _ q (offset-fits (narrow_overlay o) (o.horizontal i) (λ b. ((narrow-part b).1 i h).0) (across i)) in
      let b = offset-there s (at + n) n (o.vertical i) _ a.1 (offset-fits (narrow_overlay o) (o.vertical i) (λ b. ((narrow-part b).1 i h).1) (down i)) in
      (a.0, b.0)

  -- "Parsing the written body gives the fields back", whatever stands behind it
  pub overlay-back : (d : OverlayDescriptor) × (overlay_of s o.count ≡ Ok d) × SameFields (fields_of s d) o
  unfolding fields_of
  overlay-back =
      (read, overlay_read, record { fill = refl; width = refl; height = refl; count = refl; horizontal = λ i h. (input-there i h).0; vertical = λ i h. (input-there i h).1 })

-- from words
pub words_back : (fill : Fill) (w h : ℕ) (words : List ℕ) (room : ℕ) (bs rest : List ℕ) → FillSmall fill → ((k : ℕ) → get_or words k 0 < 2 ^ 32)
    → overlay_body_run (fields_in fill w h words) room ≡ Ok bs
    → (d : OverlayDescriptor) × (overlay_of (bs ++ rest) (length words / 2) ≡ Ok d) × SameFields (fields_of (bs ++ rest) d) (fields_in fill w h words)
unfolding fields_in offset_in
words_back fill w h words room bs rest f small e =
    overlay-back (fields_in fill w h words) room bs rest e f (λ i. signed-fits (2 ^ 32) _ (small (2 * i)) refl) (λ i. signed-fits (2 ^ 32) _ (small (2 * i + 1)) refl)
