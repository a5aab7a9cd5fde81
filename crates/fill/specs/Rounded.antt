-- IEEE 754's binary64 as the fill uses it: each operation rounds once.
use Rattle.std.specs.Prelude.{ℕ, ◌+◌, ◌*◌, ◌/◌, min, false, cond, pos, Float}
use Rattle.std.specs.Float.Ieee as Ieee
use Rattle.std.specs.Float.{nan, inf, fin, binary64}
use Rattle.std.specs.Float.Ieee.{up, down}

abbrev pub add : Float → Float → Float
add = Ieee.add binary64

abbrev pub sub : Float → Float → Float
sub = Ieee.sub binary64

abbrev pub mul : Float → Float → Float
mul = Ieee.mul binary64

abbrev pub div : Float → Float → Float
div = Ieee.div binary64

-- the double nearest to a / b: a literal is the double nearest to its decimal fraction
abbrev pub lit : ℕ → ℕ → Float
lit a b = Ieee.round binary64 false a b

-- a whole number as a double
abbrev pub num : ℕ → Float
num n = Ieee.of_int binary64 (pos n)

-- to a whole number, a half away from zero, held to 0 and top. `fin negative m e` is m * up e / down e with its sign; of a number that is
-- not negative it is the whole part of its sum with 1/2. A NaN gives 0.
unfoldable pub whole_of : Float → ℕ → ℕ
whole_of nan top = 0
whole_of (inf negative) top = cond negative 0 top
whole_of (fin negative m e) top = cond negative 0 (min ((2 * (m * up e) + down e) / (2 * down e)) top)
