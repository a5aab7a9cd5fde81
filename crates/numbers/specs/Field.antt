-- Big-endian fields, and signed numbers by their patterns (ISO/IEC 23008-12's unsigned int and signed int).
use Rattle.numbers.specs.declared.Cursor.{Cursor}
use Rattle.std.specs.Prelude.{Ok}
use Rattle.std.specs.Prelude.{Err}
use Rattle.std.specs.Prelude.{List, [], ◌++◌, ◌∷◌, ℕ, zero, suc, ◌+◌, ◌-◌, ◌*◌, ◌/◌, ◌%◌, ltb, ℤ, pos, negsuc, length, get_or}
use Rattle.laws.specs.Pick.{pick}
use Rattle.laws.specs.Out.{reason, Out}
use Rattle.numbers.specs.declared.Offset.{Offset}

-- the number of n bytes from a place on, the highest first
unfoldable pub big_endian : List ℕ → ℕ → ℕ → ℕ
big_endian s at zero = 0
big_endian s at (suc n) = big_endian s at n * 256 + get_or s (at + n) 0

-- a body that is empty or cut short
abbrev pub short : {A : Type 0} → Out A
short = Err (reason 1)

unfoldable pub field_at : List ℕ → ℕ → ℕ → Out (ℕ × Cursor)
field_at s at n =
    pick (ltb (length s) at) short
    (pick (ltb (length s - at) n) short (Ok ((big_endian s at n), (record { at = at + n }))))

-- the lowest n bytes of a number, the highest of them first
unfoldable pub big_endian_bytes : ℕ → ℕ → List ℕ
big_endian_bytes zero v = []
big_endian_bytes (suc n) v = big_endian_bytes n (v / 256) ++ (v % 256 ∷ [])

-- what goes on with a field and the place past it; a body that is short is 1
unfoldable pub on_field : {A : Type 0} → Out (ℕ × Cursor) → (ℕ → ℕ → Out A) → Out A
on_field (Ok f) k = k f.0 f.1.at
on_field (Err e) k = Err e

-- the signed number of a two's complement pattern, of so many patterns
unfoldable pub signed_of : ℕ → ℕ → ℤ
signed_of range p = pick (ltb p (range / 2)) (pos p) (negsuc (range - suc p))

-- and the pattern of a signed number
unfoldable pub pattern_of : ℕ → ℤ → ℕ
pattern_of range (pos n) = n
pattern_of range (negsuc n) = range - suc n

-- a signed number with its sign split off
unfoldable pub offset_of : ℤ → Offset
offset_of (pos n) = record { ahead = n; behind = 0 }
offset_of (negsuc n) = record { ahead = 0; behind = suc n }
