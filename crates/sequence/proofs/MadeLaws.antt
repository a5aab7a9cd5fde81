-- Which states calls can have made, both ways: start and calls that are accepted make only states that pass `state_ok`, with 1024 words
-- of 64 bits for marks (made_ok), and they make each of those (ok-made).
use Rattle.std.specs.Prelude.{Ok}
use mathlib.Core.Bool.{Bool, false, not, true}
use mathlib.Core.List.{List, [], ◌∷◌}
use mathlib.Core.Logic.{◌⊎◌, inl, inr}
use mathlib.Core.Path.{◌∙◌, ◌≡◌, ap, ap₂, refl, sym}
use Prim.Native.Nat.{◌%◌, ◌*◌, ◌+◌, ◌-◌, ◌/◌, ◌<◌, ◌^◌, ◌≤◌, suc, zero, ℕ}
use native.Mathlib.Nat.{div-div-eq-div-mul, div-eq_of_lt, div-lt_iff_lt-mul, mod-lt, mul_comm, not-suc-le-zero, pow-suc}
use native.Mathlib.Omega.{arith}
use lib.Bits.{bit_or, or_lt}
use lib.Dec.{eqb, ltb}
use lib.ListN.{get_or, length, length-replicate, replicate}
use lib.Pow.{pow-lt, pow_mono, pow_pos}
use lib.Seq.{ext_get_or, get_or-set_other, get_or-set_same}
use borrow.Author.Tests.{eq-eqb, eqb-false, eqb-true, le-ltb, lt-ltb, ne_eqb}
use Rattle.laws.proofs.Order.{apart, by_equal, by_order, by-test, pick-both, pick-false, pick_true}
use Rattle.laws.proofs.Out.{and_then-done, done-same, then-done}
use Rattle.laws.specs.Out.{refuse}
use Rattle.laws.specs.Pick.{pick}
use Rattle.laws.specs.Puts.{Bytes}
use Rattle.numbers.specs.Field.{big_endian, field_at, on_field}
use Rattle.image.proofs.JudgedLaws.{size-taken}
use Rattle.image.specs.Format.{has_alpha, sides, with_alpha}
use Rattle.records.specs.Record.{record_of}
use Rattle.image.specs.Sound.{FormSound, SizeSound}
use Rattle.records.specs.Tray.{no_form}
use Rattle.image.specs.declared.format.Form.{Form}
use Rattle.planes.proofs.RoundTrip.{encode-back}
use Rattle.planes.specs.Bytes.{encode, size_of, tight_at}
use Rattle.derived.proofs.FieldLaws.{field-inside}
use Rattle.derived.specs.Canvas.{canvas_at, field_bytes, start_of}
use Rattle.derived.specs.Grid.{grid_at, grid_of}
use Rattle.derived.specs.declared.grid.GridDescriptor.{GridDescriptor}
use Rattle.derived.specs.inner.Sound.{GridSound}
use Rattle.tiles.specs.Tiles.{canvas_form, count_of, spans_canvas}
use Rattle.grid.specs.inner.Ready.{Alike}
use Rattle.session.proofs.BlankLaws.{blank-done}
use Rattle.sequence.proofs.ComposeLaws.{length-drawn, take-first, take-later}
use Rattle.session.proofs.DrawLaws.{length-begun, place-done}
use Rattle.session.proofs.KeepLaws.{Ready, bare-state, bare-zero, blank_ok, blank-taken, open-ok, place_ok, place-taken, ready-tiled, side-small, start-ok, state-marked, wide-tile}
use Rattle.session.proofs.MarkLaws.{any_none, length-mark, mark-marks, none-marked, zero-words}
use Rattle.session.proofs.StateLaws.{TileHeld, count_small, state-grid, state-parts, state-tile}
use Rattle.session.specs.Marks.{any_word, bit_of, is_marked, mark_of, no_marks}
use Rattle.sequence.specs.Sequence.{Call, MadeBy, blank, call_all, call_of, calls_run, place}
use Rattle.session.specs.Session.{CanvasAfter, blank_pic, blanked_as, marked_on, placed_as, session_of}
use Rattle.session.specs.State.{accept_of, bare_ok, has_tile, open_of, state_ok, tiled_ok}
use Rattle.session.specs.declared.state.Canvas.{Canvas}

-- ---- words and marks by their bits

bits-same : (n a b : ℕ) → a < 2 ^ n → b < 2 ^ n → ((k : ℕ) → k < n → a / 2 ^ k % 2 ≡ b / 2 ^ k % 2) → a ≡ b
bits-same zero a b l h f = omega arith
bits-same (suc n) a b l h f =
    let u : a < 2 ^ n * 2 = rw pow-suc at l in
    let v : b < 2 ^ n * 2 = rw pow-suc at h in
    let q = bits-same n (a / 2) (b / 2) (omega (arith, u)) (omega (arith, v)) (λ k m. halves k a ∙ f (suc k) (omega arith) ∙ sym (halves k b)) in
    let z : a % 2 ≡ b % 2 = low a ∙ f 0 (omega arith) ∙ sym (low b) in
    omega (arith, q, z)
  where
    halves : (k a : ℕ) → a / 2 / 2 ^ k % 2 ≡ a / 2 ^ suc k % 2
    halves k a = rw pow-suc (ap (λ (n : ℕ). n % 2) (div-div-eq-div-mul a 2 (2 ^ k) ∙ ap (λ (n : ℕ). a / n) (mul_comm 2 (2 ^ k))))

    low : (a : ℕ) → a % 2 ≡ a / 2 ^ 0 % 2
    low a = omega arith

bit-same : (x y : ℕ) → x < 2 → y < 2 → eqb x 1 ≡ eqb y 1 → x ≡ y
bit-same x y l h e =
    by_equal x 1
    (λ q. let r = eqb-true y 1 (sym e ∙ eq-eqb x 1 q) in omega arith)
    (λ d. let r = eqb-false y 1 (sym e ∙ ne_eqb x 1 d) in omega arith)

cell-bit : (ms ns : List ℕ) (i k : ℕ) → k < 64 → is_marked ms (i * 64 + k) ≡ is_marked ns (i * 64 + k) → get_or ms i 0 / 2 ^ k % 2 ≡ get_or ns i 0 / 2 ^ k % 2
unfolding is_marked bit_of
cell-bit ms ns i k h e =
    let q : (i * 64 + k) / 64 ≡ i = omega arith in
    let r : (i * 64 + k) % 64 ≡ k = omega arith in
    bit-same _ _ (mod-lt _ (omega arith)) (mod-lt _ (omega arith)) (rw (q, r) at e)

marks-same : (ms ns : List ℕ) → length ms ≡ 1024 → length ns ≡ 1024 → ((i : ℕ) → get_or ms i 0 < 2 ^ 64) → ((i : ℕ) → get_or ns i 0 < 2 ^ 64)
    → ((k : ℕ) → k < 65536 → is_marked ms k ≡ is_marked ns k) → ms ≡ ns
marks-same ms ns m n a b f = ext_get_or 0 ms ns (m ∙ sym n) (λ i l. bits-same 64 _ _ (a i) (b i) (λ k h. cell-bit ms ns i k h (f (i * 64 + k) (omega arith))))

mark-words : (ms : List ℕ) (c : ℕ) → c / 64 < length ms → ((i : ℕ) → get_or ms i 0 < 2 ^ 64) → (i : ℕ) → get_or (mark_of ms c) i 0 < 2 ^ 64
unfolding mark_of
mark-words ms c l a i =
    let v = bit_or (get_or ms (c / 64) 0) (2 ^ (c % 64)) in
    let s : c % 64 < 64 = omega arith in
    by_equal i (c / 64)
    (λ q. rw (q, get_or-set_same ms (c / 64) v 0 l) (or_lt 64 (get_or ms (c / 64) 0) (2 ^ (c % 64)) (a (c / 64)) (pow-lt s)))
    (λ d. rw (get_or-set_other ms (c / 64) i v 0 d) (a i))

no_words : (i : ℕ) → get_or no_marks i 0 < 2 ^ 64
unfolding no_marks
no_words i = rw (zero-words 1024 i) (pow_pos 64)

long-none : length no_marks ≡ 1024
unfolding no_marks
long-none = length-replicate {A = ℕ} 1024 0

-- ---- what calls make passes the test

-- the array of marks: 1024 words of 64 bits
record Words (ms : List ℕ) : Type 0 where
  long : length ms ≡ 1024
  words : (i : ℕ) → get_or ms i 0 < 2 ^ 64

marked-words : (s : Canvas) (i : ℕ) → state_ok s ≡ true → i < count_of s.desc → Words s.marks → Words (mark_of s.marks i)
marked-words s i ok l k =
    let few : count_of s.desc ≤ 65536 = unfold count_of in count_small s.desc (state-grid s ok) in
    let w : i / 64 < length s.marks = rw k.long (omega (arith, few)) in
    record { long = length-mark s.marks i ∙ k.long; words = mark-words s.marks i w k.words }

call-keeps : (c : Call) (e x : CanvasAfter) → Words e.canvas.marks → call_of c e ≡ Ok x → (state_ok x.canvas ≡ true) × Words x.canvas.marks
unfolding call_of
call-keeps (place i bytes) e x w q =
    let k = place-taken e.canvas i bytes e.buffer x q in
    ((place_ok e.canvas i bytes e.buffer x w.long q).0, rw (← k.same) (unfold placed_as marked_on in marked-words e.canvas i k.sound k.inside w))
call-keeps (blank i) e x w q =
    let k = blank-taken e.canvas i e.buffer x q in
    ((blank_ok e.canvas i e.buffer x w.long q).0, rw (← k.same) (unfold blanked_as marked_on in marked-words e.canvas i k.sound k.inside w))

calls-keep : (cs : List Call) (e x : CanvasAfter) → state_ok e.canvas ≡ true → Words e.canvas.marks → call_all cs e ≡ Ok x → (state_ok x.canvas ≡ true) × Words x.canvas.marks
unfolding call_all
calls-keep [] e x ok w q = rw (← (done-same e x q)) (ok, w)
calls-keep (c ∷ cs) e x ok w q =
    let a = and_then-done _ _ x q in
    let k = calls-keep cs e a.0 ok w a.1 in
    call-keeps c a.0 x k.1 a.2

start-words : (body : List ℕ) (s : Canvas) → session_of body ≡ Ok s → Words s.marks
unfolding session_of
start-words body s e =
    let a = and_then-done (grid_of body) _ s e in
    rw (← (done-same _ s a.2)) (unfold open_of in record { long = long-none; words = no_words })

pub made_ok : (s : Canvas) → MadeBy s → (state_ok s ≡ true) × (length s.marks ≡ 1024) × ((i : ℕ) → get_or s.marks i 0 < 2 ^ 64)
unfolding calls_run
made_ok s m =
    let a = and_then-done (session_of m.body) _ _ m.run in
    let k = calls-keep m.calls (record { canvas = a.0; buffer = m.before }) _ (start-ok m.body a.0 m.small a.1).0 (start-words m.body a.0 a.1) a.2 in
    (k.0, k.1.long, k.1.words)

-- a word that is clear from a cell on has no mark there
clear-unmarked : (ms : List ℕ) (count k : ℕ) → count ≤ k → get_or ms (k / 64) 0 / 2 ^ (count - k / 64 * 64) ≡ 0 → is_marked ms k ≡ false
unfolding is_marked bit_of
clear-unmarked ms count k l e =
    let d : ℕ = count - k / 64 * 64 in
    let v = get_or ms (k / 64) 0 in
    let s : v < 1 * 2 ^ d = (div-lt_iff_lt-mul (pow_pos d)).0 (omega (arith, e)) in
    let m : 2 ^ d ≤ 2 ^ (k % 64) = pow_mono (below_word count k l) in
    let z : v / 2 ^ (k % 64) ≡ 0 = div-eq_of_lt (omega (arith, s, m)) in
    ap (λ (n : ℕ). eqb (n % 2) 1) z
  where
    below_word : (count k : ℕ) → count ≤ k → count - k / 64 * 64 ≤ k % 64
    below_word count k l = omega arith

-- ---- a body for each sound descriptor

abbrev body_of : GridDescriptor → List ℕ
body_of g =
    0 ∷ 1 ∷ (g.rows - 1) ∷ (g.columns - 1)
    ∷ (g.output_width / 16777216) ∷ (g.output_width / 65536 % 256) ∷ (g.output_width / 256 % 256) ∷ (g.output_width % 256)
    ∷ (g.output_height / 16777216) ∷ (g.output_height / 65536 % 256) ∷ (g.output_height / 256 % 256) ∷ (g.output_height % 256)
    ∷ []

word_of : (a b c d n : ℕ) → a ≡ n / 16777216 → b ≡ n / 65536 % 256 → c ≡ n / 256 % 256 → d ≡ n % 256 → (((0 * 256 + a) * 256 + b) * 256 + c) * 256 + d ≡ n
word_of a b c d n ea eb ec ed = omega arith

four : (s : List ℕ) (at n : ℕ) → get_or s (at + 0) 0 ≡ n / 16777216 → get_or s (at + 1) 0 ≡ n / 65536 % 256 → get_or s (at + 2) 0 ≡ n / 256 % 256 → get_or s (at + 3) 0 ≡ n % 256 → big_endian s at 4 ≡ n
unfolding big_endian
four s at n a b c d = word_of _ _ _ _ n a b c d

one_byte : (s : List ℕ) (at n : ℕ) → get_or s (at + 0) 0 ≡ n - 1 → 1 ≤ n → big_endian s at 1 + 1 ≡ n
unfolding big_endian
one_byte s at n e l = omega (arith, e)

canvas-read : (s : List ℕ) (w h : ℕ) → length s ≡ 12 → big_endian s 4 4 ≡ w → big_endian s 8 4 ≡ h → SizeSound (sides w h) → canvas_at s 4 4 ≡ Ok (record { width = w; height = h }, record { at = 12 })
unfolding canvas_at on_field
canvas-read s w h n ew eh k =
    rw (field-inside s 4 4 (omega (arith, n)), field-inside s 8 4 (omega (arith, n)), ew, eh)
    (then-done _ (size-taken (sides w h) k))

grid-read : (s : List ℕ) (w h : ℕ) → length s ≡ 12 → start_of s ≡ Ok (4, record { at = 2 }) → canvas_at s 4 4 ≡ Ok (record { width = w; height = h }, record { at = 12 })
    → grid_of s ≡ Ok (record { rows = big_endian s 2 1 + 1; columns = big_endian s 3 1 + 1; output_width = w; output_height = h })
unfolding grid_of grid_at on_field
grid-read s w h n a c =
    then-done _ a ∙ rw (field-inside s 2 1 (omega (arith, n)), field-inside s 3 1 (omega (arith, n))) (then-done _ c)

start-read : (g : GridDescriptor) → start_of (body_of g) ≡ Ok (4, record { at = 2 })
unfolding start_of field_at on_field big_endian field_bytes pick refuse
start-read g = refl

body_reads : (g : GridDescriptor) → GridSound g → grid_of (body_of g) ≡ Ok g
body_reads g k =
    grid-read (body_of g) g.output_width g.output_height refl (start-read g)
    (canvas-read (body_of g) g.output_width g.output_height refl (four (body_of g) 4 g.output_width refl refl refl refl) (four (body_of g) 8 g.output_height refl refl refl refl) k.canvas)
    ∙ ap₂ (λ (r c : ℕ). Ok (record { rows = r; columns = c; output_width = g.output_width; output_height = g.output_height }))
    (one_byte (body_of g) 2 g.rows refl k.positive_rows) (one_byte (body_of g) 3 g.columns refl k.positive_columns)

small-list : (b : ℕ) (s : List ℕ) → b < 256 → Bytes s → Bytes (b ∷ s)
unfolding Bytes
small-list b s l k zero = l
small-list b s l k (suc i) = k i

small-none : Bytes []
unfolding Bytes
small-none i = omega arith

body-small : (g : GridDescriptor) → GridSound g → Bytes (body_of g)
body-small g k =
    let l = side-small g.output_width g.output_height k.canvas.wide k.canvas.tall k.canvas.area in
    let u = l.0 in
    let v = l.1 in
    small-list _ _ (omega arith) (small-list _ _ (omega arith) (small-list _ _ (omega (arith, k.bounded_rows)) (small-list _ _ (omega (arith, k.bounded_columns))
    (small-list _ _ (omega arith) (small-list _ _ (omega arith) (small-list _ _ (omega arith) (small-list _ _ (omega arith)
    (small-list _ _ (omega arith) (small-list _ _ (omega arith) (small-list _ _ (omega arith) (small-list _ _ (omega arith) small-none)))))))))))

-- ---- calls that make a state

made_as : {s u : Canvas} → s ≡ u → MadeBy s → MadeBy u
made_as e k = rw e at k

module _ (g : GridDescriptor) (grid : GridSound g) where
  -- by calls alone, over a buffer of n bytes
  record Made (n : ℕ) (s : Canvas) : Type 0 where
    calls : List Call
    buffer : List ℕ
    run : call_all calls (record { canvas = open_of g; buffer = replicate n 0 }) ≡ Ok (record { canvas = s; buffer = buffer })
    long : length buffer ≡ n

  made-open : (n : ℕ) → Made n (open_of g)
  made-open n = record { calls = []; buffer = replicate n 0; run = unfold call_all in refl; long = length-replicate {A = ℕ} n 0 }

  made_by : {n : ℕ} {s : Canvas} → Made n s → MadeBy s
  made_by {n} k = record {
    body = body_of g;
    small = body-small g grid;
    calls = k.calls;
    before = replicate n 0;
    after = k.buffer;
    run = unfold calls_run session_of in then-done _ (then-done _ (body_reads g grid)) ∙ k.run;
  }

  made-sound : {n : ℕ} {s : Canvas} → Made n s → (state_ok s ≡ true) × (length s.marks ≡ 1024)
  made-sound {n} k =
      let w = calls-keep k.calls (record { canvas = open_of g; buffer = replicate n 0 }) _ (open-ok g grid) open-words k.run in
      (w.0, w.1.long)
    where
      open-words : Words (open_of g).marks
      open-words = unfold open_of in record { long = long-none; words = no_words }

  made_more : {n : ℕ} {s : Canvas} (k : Made n s) (c : Call) (x : CanvasAfter) → call_of c (record { canvas = s; buffer = k.buffer }) ≡ Ok x → length x.buffer ≡ length k.buffer → Made n x.canvas
  made_more k c x e l = record { calls = c ∷ k.calls; buffer = x.buffer; run = unfold call_all in then-done _ k.run ∙ e; long = l ∙ k.long }

  module _ (t : Form) (tile : FormSound t) (covers : spans_canvas g t ≡ true) where
    abbrev room : ℕ
    room = size_of (canvas_form g t 1)

    abbrev state : Form → ℕ → List ℕ → Canvas
    state u a ms = record { desc = g; tile = u; alpha = a; marks = ms }

    made-place : (u : Form) (a : ℕ) (ms : List ℕ) → Made room (state u a ms) → (j : ℕ) → j < count_of g → (m : Form) → FormSound m → accept_of (state u a ms) m ≡ Ok t
        → Made room (state t (pick (has_alpha m.format) 1 a) (mark_of ms j))
    made-place u a ms k j l m sound accepted = unfold placed_as marked_on tight_at in made_more k (place j bytes) x here still
      where
        bytes : List ℕ
        bytes = encode (blank_pic m)

        x : CanvasAfter
        x = placed_as (state u a ms) j bytes k.buffer (tight_at m 0) t

        taken : record_of bytes ≡ Ok (tight_at m 0)
        taken = unfold blank_pic in encode-back (blank_pic m) (unfold blank_pic in sound)

        here : call_of (place j bytes) (record { canvas = state u a ms; buffer = k.buffer }) ≡ Ok x
        here =
            unfold call_of in
            place-done (state u a ms) j bytes k.buffer (made-sound k).0 (unfold count_of in l) (tight_at m 0) taken t (unfold tight_at in accepted) (rw k.long (omega arith))

        still : length x.buffer ≡ length k.buffer
        still = unfold placed_as in length-drawn g t j _ _ _ ∙ length-begun _ _ k.buffer

    made-blank : (a : ℕ) (ms : List ℕ) → Made room (state t a ms) → (i : ℕ) → i < count_of g → Made room (state t a (mark_of ms i))
    made-blank a ms k i l = unfold blanked_as marked_on in made_more k (blank i) x here still
      where
        x : CanvasAfter
        x = blanked_as (state t a ms) i k.buffer

        tiled : has_tile (state t a ms) ≡ true
        tiled = unfold has_tile in wide-tile t tile

        here : call_of (blank i) (record { canvas = state t a ms; buffer = k.buffer }) ≡ Ok x
        here =
            unfold call_of in
            blank-done (state t a ms) i k.buffer (made-sound k).0 tiled (unfold count_of in l) (rw k.long (omega arith))

        still : length x.buffer ≡ length k.buffer
        still = unfold blanked_as in length-drawn g t i _ _ _

    -- a tile in cell j, and once more with the alpha that is wanted
    made-first : (a : ℕ) → a ≤ 1 → t.format.alpha ≤ a → (j : ℕ) → j < count_of g → Made room (state t a (mark_of (mark_of no_marks j) j))
    made-first a few least j l =
        let k = made-place no_form 0 no_marks (unfold open_of in made-open room) j l t tile (take-first _ t bare covers) in
        let m = made-place t (pick (has_alpha t.format) 1 0) (mark_of no_marks j) k j l (with_alpha t a) again (take-later _ t (with_alpha t a) tiled same like) in
        rw (← alpha) m
      where
        bare : has_tile (state no_form 0 no_marks) ≡ false
        bare = unfold has_tile no_form in refl

        tiled : has_tile (state t (pick (has_alpha t.format) 1 0) (mark_of no_marks j)) ≡ true
        tiled = unfold has_tile in wide-tile t tile

        same : Alike t t
        same = record { width = refl; height = refl; chroma = refl; depth = refl }

        like : Alike t (with_alpha t a)
        like = unfold with_alpha in record { width = refl; height = refl; chroma = refl; depth = refl }

        again : FormSound (with_alpha t a)
        again = unfold with_alpha in record { chroma = tile.chroma; low = tile.low; high = tile.high; alpha = few; wide = tile.wide; tall = tile.tall; area = tile.area }

        alpha : pick (has_alpha (with_alpha t a).format) 1 (pick (has_alpha t.format) 1 0) ≡ a
        alpha =
            unfold with_alpha has_alpha in
            by_equal a 0
            (λ z.
            let y : t.format.alpha ≡ 0 = omega arith in
            pick-false _ _ _ (ap not (eq-eqb a 0 z)) ∙ pick-false _ _ _ (ap not (eq-eqb _ 0 y)) ∙ sym z)
            (λ d. let o : 1 ≡ a = omega arith in pick_true _ _ _ (ap not (ne_eqb a 0 d)) ∙ o)

    -- ---- the marks that are wanted, cell by cell

    module _ (a : ℕ) (ms : List ℕ) (few : a ≤ 1) (least : t.format.alpha ≤ a) (long : length ms ≡ 1024) (j : ℕ) (inside : j < count_of g) where
      cells : count_of g ≤ 65536
      cells = unfold count_of in count_small g grid

      -- with the marks of j and of the cells below n
      record Going (n : ℕ) : Type 0 where
        marks : List ℕ
        made : Made room (state t a marks)
        words : (i : ℕ) → get_or marks i 0 < 2 ^ 64
        marked : (k : ℕ) → is_marked marks k ≡ pick (eqb j k) true (pick (ltb k n) (is_marked ms k) false)

      word : (ns : List ℕ) → length ns ≡ 1024 → (i : ℕ) → i < count_of g → i / 64 < length ns
      word ns e i l = rw e (omega (arith, cells))

      twice : (b c : Bool) → pick b true (pick b true false) ≡ pick b true (pick false c false)
      unfolding pick
      twice true c = refl
      twice false c = refl

      start : Going 0
      start =
          let one = mark_of no_marks j in
          let n : length one ≡ 1024 = length-mark no_marks j ∙ long-none in
          record {
            marks = mark_of one j;
            made = made-first a few least j inside;
            words = mark-words one j (word one n j inside) (mark-words no_marks j (word no_marks long-none j inside) no_words);
            marked = λ k.
                mark-marks one j k (word one n j inside)
                ∙ ap (pick (eqb j k) true) (mark-marks no_marks j k (word no_marks long-none j inside) ∙ ap (pick (eqb j k) true) (none-marked k))
                ∙ twice (eqb j k) (is_marked ms k)
                ∙ ap (λ (b : Bool). pick (eqb j k) true (pick b (is_marked ms k) false)) (sym (le-ltb k 0 (omega arith)));
          }

      next-below : (n k : ℕ) → (n ≡ k → ⊥) → ltb k n ≡ ltb k (suc n)
      next-below n k d =
          by_order k n (λ l. lt-ltb k n l ∙ sym (lt-ltb k (suc n) (omega arith))) (λ l. le-ltb k n l ∙ sym (le-ltb k (suc n) (omega arith)))

      step : (n : ℕ) → n < count_of g → Going n → Going (suc n)
      step n l k = by-test (is_marked ms n) mark leave
        where
          own : (c : ℕ) → n ≡ c → ltb c (suc n) ≡ true
          own c q = lt-ltb c (suc n) (omega arith)

          mark : is_marked ms n ≡ true → Going (suc n)
          mark here =
              let w = word k.marks (made-sound k.made).1 n l in
              record {
                marks = mark_of k.marks n;
                made = made-blank a k.marks k.made n l;
                words = mark-words k.marks n w k.words;
                marked = λ c.
                    mark-marks k.marks n c w
                    ∙ by_equal n c
                    (λ q.
                    pick_true _ _ _ (eq-eqb n c q)
                    ∙ sym (pick-both (λ (b : Bool). b ≡ true) (eqb j c) true _ refl (pick_true _ _ _ (own c q) ∙ ap (is_marked ms) (sym q) ∙ here)))
                    (λ d. pick-false _ _ _ (ne_eqb n c d) ∙ k.marked c ∙ ap (λ (b : Bool). pick (eqb j c) true (pick b (is_marked ms c) false)) (next-below n c d));
              }

          leave : is_marked ms n ≡ false → Going (suc n)
          leave none = record {
            marks = k.marks;
            made = k.made;
            words = k.words;
            marked = λ c.
                k.marked c
                ∙ by_equal n c
                (λ q.
                let z : is_marked ms c ≡ false = ap (is_marked ms) (sym q) ∙ none in
                ap (pick (eqb j c) true) (pick-both (λ (b : Bool). b ≡ false) (ltb c n) _ _ z refl ∙ sym (pick-both (λ (b : Bool). b ≡ false) (ltb c (suc n)) _ _ z refl)))
                (λ d. ap (λ (b : Bool). pick (eqb j c) true (pick b (is_marked ms c) false)) (next-below n c d));
          }

      going : (n : ℕ) → n ≤ count_of g → Going n
      going zero l = start
      going (suc n) l = step n l (going n (omega arith))

      -- all of them
      made_all : is_marked ms j ≡ true → ((i : ℕ) → get_or ms i 0 < 2 ^ 64) → ((k : ℕ) → count_of g ≤ k → k < 65536 → is_marked ms k ≡ false) → MadeBy (state t a ms)
      made_all here words beyond =
          let k = going (count_of g) (omega arith) in
          let e : k.marks ≡ ms = marks-same k.marks ms (made-sound k.made).1 long k.words words (λ c l. k.marked c ∙ wanted c l) in
          made_as (ap (state t a) e) (made_by k.made)
        where
          wanted : (c : ℕ) → c < 65536 → pick (eqb j c) true (pick (ltb c (count_of g)) (is_marked ms c) false) ≡ is_marked ms c
          wanted c l =
              by_equal j c
              (λ q. pick_true _ _ _ (eq-eqb j c q) ∙ sym (ap (is_marked ms) (sym q) ∙ here))
              (λ d.
              pick-false _ _ _ (ne_eqb j c d)
              ∙ by_order c (count_of g) (λ m. pick_true _ _ _ (lt-ltb _ _ m)) (λ m. pick-false _ _ _ (le-ltb _ _ m) ∙ sym (beyond c m l)))

-- ---- a state that passes the test

-- a marked cell among the first n, or none
find : (ms : List ℕ) (n : ℕ) → ((k : ℕ) → k < n → is_marked ms k ≡ false) ⊎ ((j : ℕ) × (j < n) × (is_marked ms j ≡ true))
find ms zero = inl (λ k l. absurd (not-suc-le-zero l))
find ms (suc n) = by-test (is_marked ms n) (λ h. inr (n, omega arith, h)) (λ h. below_or (find ms n) h)
  where
    below_or : ((k : ℕ) → k < n → is_marked ms k ≡ false) ⊎ ((j : ℕ) × (j < n) × (is_marked ms j ≡ true)) → is_marked ms n ≡ false
        → ((k : ℕ) → k < suc n → is_marked ms k ≡ false) ⊎ ((j : ℕ) × (j < suc n) × (is_marked ms j ≡ true))
    below_or (inl f) h = inl (λ k l. by_equal k n (λ q. ap (is_marked ms) q ∙ h) (λ d. f k (omega arith)))
    below_or (inr q) h = inr (q.0, omega (arith, q.1), q.2)

tiled_made : (s : Canvas) → state_ok s ≡ true → has_tile s ≡ true → length s.marks ≡ 1024 → ((i : ℕ) → get_or s.marks i 0 < 2 ^ 64) → MadeBy s
tiled_made s ok h long words = go (find s.marks (count_of s.desc))
  where
    ready : Ready s s.tile
    ready = ready-tiled s ok h

    held : TileHeld s
    held = state-tile s ok h

    beyond : (k : ℕ) → count_of s.desc ≤ k → k < 65536 → is_marked s.marks k ≡ false
    beyond k l m =
        let u : count_of s.desc / 64 ≤ k / 64 = omega arith in
        let v : k / 64 < 1024 = omega arith in
        clear-unmarked s.marks (count_of s.desc) k l (ready.clear (k / 64) u v)

    unmarked : ((k : ℕ) → k < count_of s.desc → is_marked s.marks k ≡ false) → (k : ℕ) → k < 65536 → is_marked s.marks k ≡ is_marked no_marks k
    unmarked f k l = by_order k (count_of s.desc) (λ m. f k m) (λ m. beyond k m l) ∙ sym (none-marked k)

    go : ((k : ℕ) → k < count_of s.desc → is_marked s.marks k ≡ false) ⊎ ((j : ℕ) × (j < count_of s.desc) × (is_marked s.marks j ≡ true)) → MadeBy s
    go (inl f) = absurd (no (sym (ap (λ (ms : List ℕ). any_word ms 0 1024) (marks-same s.marks no_marks long long-none words no_words (unmarked f)) ∙ none) ∙ state-marked s ok h))
      where
        none : any_word no_marks 0 1024 ≡ false
        none = unfold no_marks in any_none (replicate 1024 0) 0 1024 (zero-words 1024)

        no : ◌≡◌ {A = Bool} false true → ⊥
        no q = apart (cc)
    go (inr q) = made_all s.desc ready.grid s.tile ready.tile ready.covers s.alpha s.marks held.alpha held.least long q.0 q.1 q.2 words beyond

bare-made : (s : Canvas) → state_ok s ≡ true → has_tile s ≡ false → length s.marks ≡ 1024 → MadeBy s
bare-made s ok h long = made_as same (made_by s.desc (state-grid s ok) (made-open s.desc (state-grid s ok) 0))
  where
    z : (s.tile.width ≡ 0) × (s.tile.height ≡ 0) × (s.tile.format.chroma ≡ 0) × (s.tile.format.depth ≡ 0) × (s.tile.format.alpha ≡ 0)
    z = bare-zero s h (sym (pick-false (has_tile s) (tiled_ok s) (bare_ok s) h) ∙ (state-parts s ok).1)

    bare : (s.alpha ≡ 0) × ((i : ℕ) → i < 1024 → get_or s.marks i 0 ≡ 0)
    bare = bare-state s ok h

    form : no_form ≡ s.tile
    form = unfold no_form in λ i. record { width = sym z.0 i; height = sym z.1 i; format = record { chroma = sym z.2 i; depth = sym z.3 i; alpha = sym z.4 i } }

    marks : no_marks ≡ s.marks
    marks = ext_get_or 0 no_marks s.marks (long-none ∙ sym long) (λ i l. none i ∙ sym (bare.1 i (omega (arith, long-none))))
      where
        none : (i : ℕ) → get_or no_marks i 0 ≡ 0
        none i = unfold no_marks in zero-words 1024 i

    same : open_of s.desc ≡ s
    same = unfold open_of in λ i. record { desc = s.desc; tile = form i; alpha = sym bare.0 i; marks = marks i }

-- the other way: start and calls that are accepted make each state that passes the test
pub ok-made : (s : Canvas) → state_ok s ≡ true → length s.marks ≡ 1024 → ((i : ℕ) → get_or s.marks i 0 < 2 ^ 64) → MadeBy s
ok-made s ok long words = by-test (has_tile s) (λ h. tiled_made s ok h long words) (λ h. bare-made s ok h long)
