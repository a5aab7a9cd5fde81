-- The canvas session's state as words, and what the calls on them come to.
use Rattle.std.specs.Prelude.{Ok}
use Rattle.std.specs.Prelude.{List, ◌++◌, ◌∷◌, ◌-◌, ◌^◌, ℕ, ltb, drop, get_or, length, take}
use Rattle.laws.specs.Out.{Out, and_then, fitted, refuse, written}
use Rattle.laws.specs.Pick.{pick}
use Rattle.session.specs.Session.{CanvasAfter, blank_of, finish_of, place_of, session_of}
use Rattle.session.specs.declared.state.Canvas.{Canvas}
use Rattle.words.specs.Descriptors.{grid_fields}
use Rattle.words.specs.Read.{form_fields}

-- ---- a state is 1034 words: the grid's rows, columns, width and height; the first tile's width, height, chroma, depth and alpha;
-- 1 if a tile had alpha; and 1024 words of marks

-- a word as a number of 32 bits; a greater word as the greatest, with which no call can have made the state
unfoldable pub field_of : ℕ → ℕ
field_of w = pick (ltb w (2 ^ 32)) w (2 ^ 32 - 1)

unfoldable pub word_at : List ℕ → ℕ → ℕ
word_at ws i = field_of (get_or ws i 0)

unfoldable pub marks_of : List ℕ → List ℕ
marks_of ws = take 1024 (drop 10 ws)

unfoldable pub canvas_of : List ℕ → Canvas
canvas_of ws = record {
  desc = record { rows = word_at ws 0; columns = word_at ws 1; output_width = word_at ws 2; output_height = word_at ws 3 };
  tile = record { width = word_at ws 4; height = word_at ws 5; format = record { chroma = word_at ws 6; depth = word_at ws 7; alpha = word_at ws 8 } };
  alpha = word_at ws 9;
  marks = marks_of ws;
}

unfoldable pub words_of : Canvas → List ℕ
words_of s = grid_fields s.desc ++ (form_fields s.tile ++ (s.alpha ∷ s.marks))

-- ---- the calls

-- start: the body's refusals; 17 a state below 1034 words, last
unfoldable pub start_run : List ℕ → ℕ → Out (List ℕ)
start_run body room = and_then (session_of body) (λ s. fitted room (words_of s))

-- a state below 1034 words cannot be read, and is 17 at once; then the session's own refusals
unfoldable pub on_state : {A : Type 0} → List ℕ → (Canvas → Out A) → Out A
on_state ws f = refuse (ltb (length ws) 1034) 17 (f (canvas_of ws))

unfoldable pub place_run : List ℕ → ℕ → List ℕ → List ℕ → Out CanvasAfter
place_run ws i bytes d = on_state ws (λ s. place_of s i bytes d)

unfoldable pub blank_run : List ℕ → ℕ → List ℕ → Out CanvasAfter
blank_run ws i d = on_state ws (λ s. blank_of s i d)

unfoldable pub finish_run : List ℕ → ℕ → Out ℕ
finish_run ws room = on_state ws (λ s. finish_of s room)

-- the words after a call: the new state at the start; a refused call leaves them
unfoldable pub kept_words : Out Canvas → List ℕ → List ℕ
kept_words o ws = written (and_then o (λ s. Ok (words_of s))) ws

unfoldable pub state_after : Out CanvasAfter → List ℕ → List ℕ
state_after o ws = kept_words (and_then o (λ e. Ok e.canvas)) ws
