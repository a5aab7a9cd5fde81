-- House numbers (document 01, "What is handed in").
use Rattle.std.specs.Prelude.{Ok}
use Rattle.std.specs.Prelude.{Err}
use Rattle.std.specs.Prelude.{List, [], ◌∷◌, ℕ, zero, suc, ◌+◌, ◌-◌, ◌*◌, ◌/◌, ◌%◌, ◌^◌, ltb, leb, length, get_or}
use Rattle.laws.specs.Pick.{pick}
use Rattle.laws.specs.Out.{reason, Out}

-- malformed bytes
abbrev pub malformed : {A : Type 0} → Out A
malformed = Err (reason 5)

-- the last byte b of a number, of the weight w, over the value v of the groups below it: at least `least`, and the number below 2 ^ 32
unfoldable pub last_byte : ℕ → ℕ → ℕ → ℕ → ℕ → Out (ℕ × ℕ)
last_byte least b w v next =
    pick (ltb b least) malformed (pick (leb (2 ^ 32) (v + b * w)) malformed (Ok ((v + b * w), next)))

-- the groups from place i on, at most k of them, of which the first has the weight w, over the value v of the groups before it;
-- a last group is at least `least`, which is 1 after the first, so that the form is the shortest
unfoldable pub read_from : ℕ → List ℕ → ℕ → ℕ → ℕ → ℕ → Out (ℕ × ℕ)
read_from zero s i least w v = malformed
read_from (suc k) s i least w v =
    pick (leb (length s) i) malformed
    (pick (ltb (get_or s i 0) 128) (last_byte least (get_or s i 0) w v (i + 1))
    (read_from k s (i + 1) 1 (w * 128) (v + (get_or s i 0 - 128) * w)))

unfoldable pub read_number : List ℕ → ℕ → Out (ℕ × ℕ)
read_number s i = read_from 5 s i 0 1 0

-- what goes on with a number and the place past it; a malformed one is 5
unfoldable pub on_number : {A : Type 0} → Out (ℕ × ℕ) → (ℕ → ℕ → Out A) → Out A
on_number (Ok p) k = k p.0 p.1
on_number (Err e) k = Err e

-- the shortest form: groups of seven bits, the low first, each but the last with 128 added; at most k after the first
unfoldable pub groups : ℕ → ℕ → List ℕ
groups zero n = n ∷ []
groups (suc k) n = pick (ltb n 128) (n ∷ []) ((n % 128 + 128) ∷ groups k (n / 128))

unfoldable pub number_bytes : ℕ → List ℕ
number_bytes n = groups 4 n
