-- Laws of the words that say where an overlay's inputs go.
use Rattle.std.specs.Prelude.{Ok, Err}
use mathlib.Core.List.{List, [], ◌++◌, ◌∷◌}
use mathlib.Core.Path.{◌∙◌, ◌≡◌, ap, refl, sym}
use Prim.Native.Nat.{◌%◌, ◌*◌, ◌+◌, ◌<◌, ◌≤◌, ℕ}
use native.Mathlib.Omega.{arith}
use lib.ListN.{get_or, length}
use Rattle.laws.proofs.Out.{and_then-done, done-same, fitted-room, fitted_short, refuse-done, then-done}
use Rattle.laws.proofs.Span.{length-span-all, span-step}
use Rattle.laws.specs.Out.{reason}
use Rattle.laws.specs.Span.{span}
use Rattle.numbers.proofs.Field.{big_endian-more, big_endian-none}
use Rattle.numbers.specs.Field.{big_endian, offset_of, signed_of}
use Rattle.numbers.specs.declared.Cursor.{Cursor}
use Rattle.numbers.specs.declared.Offset.{Offset}
use Rattle.image.specs.declared.size.Size.{Size}
use Rattle.derived.proofs.OffsetLaws.{place_inside}
use Rattle.derived.proofs.Taken.{on_field-done}
use Rattle.derived.specs.Canvas.{field_bytes, start_of}
use Rattle.derived.specs.Overlay.{horizontal_at, inputs_of, offset_place, overlay_of, placement_at, signed_at, vertical_at}
use Rattle.derived.specs.declared.overlay.Fill.{Fill}
use Rattle.derived.specs.declared.overlay.OverlayDescriptor.{OverlayDescriptor}
use Rattle.derived.specs.inner.Sound.{OverlaySound}
use Rattle.words.specs.Descriptors.{offset_fields, offsets_fields, offsets_words}

-- ---- a field of two bytes or of four

two_bytes : (s : List ℕ) (at : ℕ) → big_endian s at 2 ≡ get_or s at 0 * 256 + get_or s (at + 1) 0
two_bytes s at =
    let z : at + 0 ≡ at = omega arith in
    let a : big_endian s at 1 ≡ big_endian s at 0 * 256 + get_or s (at + 0) 0 = big_endian-more s at 0 in
    let b : big_endian s at 1 ≡ get_or s at 0 = a ∙ rw (big_endian-none s at, z) (omega arith) in
    big_endian-more s at 1 ∙ ap (λ k. k * 256 + get_or s (at + 1) 0) b

four_bytes : (s : List ℕ) (at : ℕ) → big_endian s at 4 ≡ ((get_or s at 0 * 256 + get_or s (at + 1) 0) * 256 + get_or s (at + 2) 0) * 256 + get_or s (at + 3) 0
four_bytes s at =
    big_endian-more s at 3
    ∙ ap (λ k. k * 256 + get_or s (at + 3) 0) (big_endian-more s at 2 ∙ ap (λ k. k * 256 + get_or s (at + 2) 0) (two_bytes s at))

pub short-signed : (s : List ℕ) (at n : ℕ) → 2 ≤ n → n < 4 → n % 2 ≡ 0 → signed_of 65536 (get_or s at 0 * 256 + get_or s (at + 1) 0) ≡ signed_at s at n
unfolding signed_at
short-signed s at n h k e = let q : n ≡ 2 = omega arith in rw (q, two_bytes s at)

pub long-signed : (s : List ℕ) (at n : ℕ) → 4 ≤ n → n ≤ 4 → signed_of 4294967296 (((get_or s at 0 * 256 + get_or s (at + 1) 0) * 256 + get_or s (at + 2) 0) * 256 + get_or s (at + 3) 0) ≡ signed_at s at n
unfolding signed_at
long-signed s at n h k = let q : n ≡ 4 = omega arith in rw (q, four_bytes s at)

-- ---- the words of an offset

abbrev pub pair_of : Offset → List ℕ
pair_of o = o.ahead ∷ o.behind ∷ []

-- ---- the words of one input, by where the offsets start and how many bytes each has

unfoldable pub input_words : List ℕ → ℕ → ℕ → ℕ → List ℕ
input_words s first n i =
    offset_fields (record { horizontal = offset_of (signed_at s (first + i * (2 * n)) n); vertical = offset_of (signed_at s (first + i * (2 * n) + n) n) })

pub input-long : (s : List ℕ) (first n i : ℕ) → length (input_words s first n i) ≡ 4
unfolding input_words offset_fields
input-long s first n i = refl

pub fields-are : (s : List ℕ) (d : OverlayDescriptor) (n : ℕ) → span (input_words s d.offsets d.bytes) 0 n ≡ offsets_fields s d n
unfolding offsets_fields placement_at horizontal_at vertical_at offset_place input_words
fields-are s d n = refl

pub inputs_long : (s : List ℕ) (first n count : ℕ) → length (span (input_words s first n) 0 count) ≡ count * 4
inputs_long s first n count = length-span-all (input_words s first n) 4 count (input-long s first n)

pub fields-long : (s : List ℕ) (d : OverlayDescriptor) (n : ℕ) → length (offsets_fields s d n) ≡ n * 4
fields-long s d n = ap length (sym (fields-are s d n)) ∙ inputs_long s d.offsets d.bytes n

-- the words of the next input, and of those behind it
pub input-next : (s : List ℕ) (first n i count from : ℕ) (h v : Offset) → i < count → from ≡ first + i * (2 * n) → h ≡ offset_of (signed_at s from n) → v ≡ offset_of (signed_at s (from + n) n)
    → span (input_words s first n) i count ≡ pair_of h ++ (pair_of v ++ span (input_words s first n) (i + 1) count)
unfolding input_words offset_fields
input-next s first n i count from h v l e p q = span-step (input_words s first n) i count l ∙ ap (λ w. w ++ span (input_words s first n) (i + 1) count) words
  where
    words : input_words s first n i ≡ h.ahead ∷ h.behind ∷ v.ahead ∷ v.behind ∷ []
    words = rw (p, q, e)

-- the fields of an input lie in the body
pub input-inside : (s : List ℕ) (d : OverlayDescriptor) (i : ℕ) → OverlaySound s d → i < d.count → d.offsets + i * (2 * d.bytes) + 2 * d.bytes ≤ length s
unfolding offset_place
input-inside s d i k h = (place_inside s d i k h).1

-- ---- the call

start-even : (s : List ℕ) (h : _) → start_of s ≡ Ok h → h.0 % 2 ≡ 0
unfolding start_of field_bytes
start-even s h e =
    let a = on_field-done _ _ h e in
    let b = refuse-done _ _ _ h a.3 in
    let d = on_field-done _ _ h b.1 in
    let q = ap (λ (x : ℕ × Cursor). x.0) (done-same _ h d.3) in
    omega arith

bytes-kept : (s : List ℕ) (k : Fill) (z : Size) (offsets bytes n : ℕ) (d : OverlayDescriptor) → inputs_of s k z offsets bytes n ≡ Ok d → bytes ≡ d.bytes
unfolding inputs_of
bytes-kept s k z offsets bytes n d e =
    let i = refuse-done _ _ _ d e in
    let j = refuse-done _ _ _ d i.1 in
    ap (λ (o : OverlayDescriptor). o.bytes) (done-same _ d j.1)

-- an offset has two bytes or four
pub offset-even : (s : List ℕ) (n : ℕ) (d : OverlayDescriptor) → overlay_of s n ≡ Ok d → d.bytes % 2 ≡ 0
unfolding overlay_of
offset-even s n d e =
    let h = and_then-done _ _ d e in
    let f = and_then-done _ _ d h.2 in
    let c = and_then-done _ _ d f.2 in
    rw (← bytes-kept s f.0.0 c.0.0 c.0.1.at h.0.0 n d c.2) (start-even s h.0 h.1)

pub offsets-short : (s : List ℕ) (n room : ℕ) (d : OverlayDescriptor) → overlay_of s n ≡ Ok d → room < n * 4 → offsets_words s n room ≡ Err (reason 17)
unfolding offsets_words
offsets-short s n room d e h = then-done _ e ∙ fitted_short room (offsets_fields s d n) (omega (arith, fields-long s d n))

pub offsets-done : (s : List ℕ) (n room : ℕ) (d : OverlayDescriptor) → overlay_of s n ≡ Ok d → n * 4 ≤ room → (offsets_words s n room ≡ Ok (offsets_fields s d n)) × (length (offsets_fields s d n) ≤ room)
unfolding offsets_words
offsets-done s n room d e h = let l : length (offsets_fields s d n) ≤ room = omega (arith, fields-long s d n) in (then-done _ e ∙ fitted-room room (offsets_fields s d n) l, l)
