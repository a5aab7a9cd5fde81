-- The mark of a cell: bit i mod 64 of word i / 64 (document 01, "Canvas session").
use Rattle.std.specs.Prelude.{Bool, ◌&&◌, ◌||◌, false, not, true, List, ◌%◌, ◌*◌, ◌+◌, ◌-◌, ◌/◌, ◌^◌, suc, zero, ℕ, eqb, get_or, replicate, set}
use Rattle.std.specs.Int.Bits.{bit_or}

-- none marked
unfoldable pub no_marks : List ℕ
no_marks = replicate 1024 0

-- 1 where a cell is marked, else 0
unfoldable pub bit_of : List ℕ → ℕ → ℕ
bit_of ms i = get_or ms (i / 64) 0 / 2 ^ (i % 64) % 2

unfoldable pub is_marked : List ℕ → ℕ → Bool
is_marked ms i = eqb (bit_of ms i) 1

-- the marks with a cell marked
unfoldable pub mark_of : List ℕ → ℕ → List ℕ
mark_of ms i = set ms (i / 64) (bit_or (get_or ms (i / 64) 0) (2 ^ (i % 64)))

-- n cells from i on
unfoldable pub all_marked : List ℕ → ℕ → ℕ → Bool
all_marked ms i zero = true
all_marked ms i (suc n) = is_marked ms i && all_marked ms (i + 1) n

-- n words from i on: whether one has a mark
unfoldable pub any_word : List ℕ → ℕ → ℕ → Bool
any_word ms i zero = false
any_word ms i (suc n) = not (eqb (get_or ms i 0) 0) || any_word ms (i + 1) n

-- n words from i on: whether none has a mark of a cell from `count` on
unfoldable pub clear_from : List ℕ → ℕ → ℕ → ℕ → Bool
clear_from ms count i zero = true
clear_from ms count i (suc n) = eqb (get_or ms i 0 / 2 ^ (count - i * 64)) 0 && clear_from ms count (i + 1) n
