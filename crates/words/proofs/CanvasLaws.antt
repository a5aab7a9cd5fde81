-- Laws of the canvas session's words.
use Rattle.std.specs.Prelude.{Ok, Err}
use mathlib.Core.Bool.{true}
use mathlib.Core.List.{List, [], ◌++◌, ◌∷◌, append-nil}
use mathlib.Core.Path.{◌∙◌, ◌≡◌, ap, refl, sym}
use Prim.Native.Nat.{◌+◌, ◌-◌, ◌<◌, ◌^◌, ◌≤◌, suc, zero, ℕ}
use native.Mathlib.Omega.{arith}
use lib.ListN.{drop, drop_of_length-le, get_or, length, length-drop, length-replicate, take}
use lib.Seq.{drop-cons, get_or-drop, get_or-take, length-take-le, take_at}
use borrow.Author.Tests.{le-ltb, lt-ltb}
use Rattle.laws.proofs.Order.{by_order, pick-false, pick_true}
use Rattle.laws.proofs.Out.{and_then-done, done-same, refuse-no, refuse-yes}
use Rattle.laws.proofs.Puts.{puts-start}
use Rattle.laws.specs.Out.{Out, and_then, reason, written}
use Rattle.laws.specs.Puts.{puts}
use Rattle.laws.specs.declared.Refusal.{Refusal}
use Rattle.derived.specs.Grid.{grid_of}
use Rattle.session.specs.declared.state.Canvas.{Canvas}
use Rattle.derived.specs.declared.grid.GridDescriptor.{GridDescriptor}
use Rattle.session.proofs.KeepLaws.{numbers-small}
use Rattle.session.specs.Marks.{no_marks}
use Rattle.session.specs.Session.{CanvasAfter, drawn_buffer, drawn_canvas, session_of}
use Rattle.records.specs.Tray.{no_form}
use Rattle.session.specs.State.{open_of, state_ok}
use Rattle.words.specs.Canvas.{canvas_of, field_of, kept_words, marks_of, on_state, state_after, word_at, words_of}
use Rattle.words.specs.Code.{answer_code, code_of, none_of, refusal_code}
use Rattle.words.specs.Descriptors.{grid_fields}
use Rattle.words.specs.Read.{form_fields}

-- ---- the marks, read word by word

pub marks-length : (ws : List ℕ) → 1034 ≤ length ws → length (marks_of ws) ≡ 1024
unfolding marks_of
marks-length ws l = length-take-le 1024 (drop 10 ws) (rw (length-drop 10 ws) (omega arith))

pub marks-next : (ws : List ℕ) (i : ℕ) → 1034 ≤ length ws → i < 1024 → drop i (marks_of ws) ≡ get_or ws (10 + i) 0 ∷ drop (i + 1) (marks_of ws)
unfolding marks_of
marks-next ws i l h =
    let n : length (take 1024 (drop 10 ws)) ≡ 1024 = length-take-le 1024 (drop 10 ws) (rw (length-drop 10 ws) (omega arith)) in
    let z : suc i ≡ i + 1 = omega arith in
    drop-cons (take 1024 (drop 10 ws)) i 0 (rw n h)
    ∙ ap (λ (v : ℕ). v ∷ drop (suc i) (take 1024 (drop 10 ws))) (get_or-take 1024 (drop 10 ws) i 0 h ∙ get_or-drop 10 ws i 0)
    ∙ ap (λ (k : ℕ). get_or ws (10 + i) 0 ∷ drop k (take 1024 (drop 10 ws))) z

-- a whole buffer is overwritten
pub puts_whole : (d bs : List ℕ) → length bs ≡ length d → puts d 0 bs ≡ bs
puts_whole d bs e =
    let l : length d ≤ length bs = omega arith in
    puts-start d bs (omega arith) ∙ ap (λ (q : List ℕ). bs ++ q) (drop_of_length-le d l) ∙ append-nil bs

-- ---- what a call answers and leaves

pub kept-refused : (o : Out Canvas) (e : Refusal) (r : ℕ) (ws : List ℕ) → o ≡ Err e → r ≡ refusal_code e → (r ≡ code_of (none_of o)) × (ws ≡ kept_words o ws)
unfolding code_of none_of and_then kept_words written
kept-refused o e r ws q h = rw q (h, refl)

pub kept-done : (o : Out Canvas) (s : Canvas) (ws ws' : List ℕ) → o ≡ Ok s → length (words_of s) ≤ length ws → ws' ≡ puts ws 0 (words_of s) → (◌≡◌ {A = ℕ} 0 (code_of (none_of o))) × (ws' ≡ kept_words o ws)
unfolding code_of none_of and_then kept_words written
kept-done o s ws ws' q l p = rw q (refl, p ∙ puts-start ws (words_of s) l)

-- ---- start

open-words : (g : GridDescriptor) → length (words_of (open_of g)) ≡ 1034
unfolding words_of open_of no_marks grid_fields form_fields no_form
open-words g = let n = length-replicate {A = ℕ} 1024 0 in omega arith

pub start-words : (body : List ℕ) (s : Canvas) → session_of body ≡ Ok s → length (words_of s) ≡ 1034
unfolding session_of
start-words body s e = let k = and_then-done (grid_of body) _ s e in ap (λ (q : Canvas). length (words_of q)) (sym (done-same _ s k.2)) ∙ open-words k.0

-- ---- place and blank

pub state-short : {A : Type 0} (ws : List ℕ) (f : Canvas → Out A) → length ws < 1034 → on_state ws f ≡ Err (reason 17)
unfolding on_state
state-short ws f l = refuse-yes 17 _ (lt-ltb _ _ l)

pub state-read : {A : Type 0} (ws : List ℕ) (f : Canvas → Out A) → 1034 ≤ length ws → on_state ws f ≡ f (canvas_of ws)
unfolding on_state
state-read ws f l = refuse-no 17 _ (le-ltb _ _ l)

pub drawn-short : (o : Out CanvasAfter) (e : Refusal) (r : ℕ) (ws d : List ℕ) → o ≡ Err e → r ≡ refusal_code e → (r ≡ code_of (none_of o)) × (ws ≡ state_after o ws) × (d ≡ drawn_buffer d o)
unfolding code_of none_of and_then state_after kept_words written drawn_buffer
drawn-short o e r ws d q h = rw q (h, refl, refl)

none-drawn : (o : Out CanvasAfter) → none_of (drawn_canvas o) ≡ none_of o
unfolding drawn_canvas none_of and_then
none-drawn (Err e) = refl
none-drawn (Ok x) = refl

pub drawn-answers : (u o : Out CanvasAfter) (c : Out Canvas) (r : ℕ) (ws ws' d d' : List ℕ) → u ≡ o → c ≡ drawn_canvas o → (r ≡ code_of (none_of c)) × (ws' ≡ kept_words c ws) → d' ≡ drawn_buffer d o
    → (r ≡ code_of (none_of u)) × (ws' ≡ state_after u ws) × (d' ≡ drawn_buffer d u)
unfolding state_after drawn_canvas
drawn-answers u o c r ws ws' d d' q e k b =
    let h = rw e at k in
    rw q (h.0 ∙ ap code_of (none-drawn o), h.1, b)

-- ---- finish

pub length-code : (o : Out ℕ) → answer_code o ≡ code_of o
unfolding answer_code code_of
length-code (Err e) = refl
length-code (Ok n) = refl

-- ---- a state's words: those of a state that calls can have made say that state again, and no such state has a word above 32 bits

field-small : (w : ℕ) → w ≤ 2 ^ 30 → field_of w ≡ w
unfolding field_of
field-small w l =
    let h : w < 2 ^ 32 = omega arith in
    pick_true _ _ _ (lt-ltb _ _ h)

field-great : (w : ℕ) → 2 ^ 32 ≤ w → field_of w ≡ 2 ^ 32 - 1
unfolding field_of
field-great w l = pick-false _ _ _ (le-ltb _ _ l)

marks-back : (a b c d e f g h i j : ℕ) (ms rest : List ℕ) → length ms ≡ 1024 → marks_of ((a ∷ b ∷ c ∷ d ∷ []) ++ ((e ∷ f ∷ g ∷ h ∷ i ∷ []) ++ (j ∷ ms)) ++ rest) ≡ ms
unfolding marks_of
marks-back a b c d e f g h i j ms rest n = take_at ms rest 1024 n

pub canvas-words : (s : Canvas) (rest : List ℕ) → state_ok s ≡ true → length s.marks ≡ 1024 → canvas_of (words_of s ++ rest) ≡ s
unfolding canvas_of words_of grid_fields form_fields word_at
canvas-words s rest e n =
    let k = numbers-small s e in
    rw (
      field-small _ k.rows,
      field-small _ k.columns,
      field-small _ k.wide,
      field-small _ k.tall,
      field-small _ k.tile_wide,
      field-small _ k.tile_tall,
      field-small _ k.chroma,
      field-small _ k.depth,
      field-small _ k.tile_alpha,
      field-small _ k.alpha,
      marks-back s.desc.rows s.desc.columns s.desc.output_width s.desc.output_height s.tile.width s.tile.height s.tile.format.chroma s.tile.format.depth s.tile.format.alpha s.alpha s.marks rest n,
    )
    refl

-- a number that is small is no great word's
word_small : (w : ℕ) → field_of w ≤ 2 ^ 30 → w < 2 ^ 32
word_small w l = by_order w (2 ^ 32) (λ h. h) (λ h. absurd (no (field-great w h)))
  where
    no : field_of w ≡ 2 ^ 32 - 1 → ⊥
    no q = omega arith

pub words_small : (ws : List ℕ) → state_ok (canvas_of ws) ≡ true → (i : ℕ) → i < 10 → get_or ws i 0 < 2 ^ 32
unfolding canvas_of word_at
words_small ws e zero l = word_small _ (numbers-small _ e).rows
words_small ws e (suc zero) l = word_small _ (numbers-small _ e).columns
words_small ws e (suc (suc zero)) l = word_small _ (numbers-small _ e).wide
words_small ws e (suc (suc (suc zero))) l = word_small _ (numbers-small _ e).tall
words_small ws e (suc (suc (suc (suc zero)))) l = word_small _ (numbers-small _ e).tile_wide
words_small ws e (suc (suc (suc (suc (suc zero))))) l = word_small _ (numbers-small _ e).tile_tall
words_small ws e (suc (suc (suc (suc (suc (suc zero)))))) l = word_small _ (numbers-small _ e).chroma
words_small ws e (suc (suc (suc (suc (suc (suc (suc zero))))))) l = word_small _ (numbers-small _ e).depth
words_small ws e (suc (suc (suc (suc (suc (suc (suc (suc zero)))))))) l = word_small _ (numbers-small _ e).tile_alpha
words_small ws e (suc (suc (suc (suc (suc (suc (suc (suc (suc zero))))))))) l = word_small _ (numbers-small _ e).alpha
words_small ws e (suc (suc (suc (suc (suc (suc (suc (suc (suc (suc i)))))))))) l = absurd (omega arith)
