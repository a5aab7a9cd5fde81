-- The numbers of refusals.
use Rattle.std.specs.Prelude.{ℕ, ◌==◌, if◌then◌else◌}
use Rattle.laws.specs.declared.Reason.{Reason}
use Rattle.laws.specs.declared.Reason.TheVariants.{Short, Version, Empty, Limit, Malformed, Depth, Zero, Fraction, Outside, Scale, Count, Cover, Tile, Layout, Missing, Opacity, Room, Point, Tiling, Other}

-- a refusal's number
abbrev pub number_of : Reason → ℕ
number_of Short = 1
number_of Version = 2
number_of Empty = 3
number_of Limit = 4
number_of Malformed = 5
number_of Depth = 6
number_of Zero = 7
number_of Fraction = 8
number_of Outside = 9
number_of Scale = 10
number_of Count = 11
number_of Cover = 12
number_of Tile = 13
number_of Layout = 14
number_of Missing = 15
number_of Opacity = 16
number_of Room = 17
number_of Point = 18
number_of Tiling = 19
number_of (Other n) = n

-- the reason of a number: from 1 to 19 it has a name
abbrev pub numbered : ℕ → Reason
numbered n =
    if n == 1 then Short else if n == 2 then Version else if n == 3 then Empty else
    if n == 4 then Limit else if n == 5 then Malformed else if n == 6 then Depth else
    if n == 7 then Zero else if n == 8 then Fraction else if n == 9 then Outside else
    if n == 10 then Scale else if n == 11 then Count else if n == 12 then Cover else
    if n == 13 then Tile else if n == 14 then Layout else if n == 15 then Missing else
    if n == 16 then Opacity else if n == 17 then Room else if n == 18 then Point else
    if n == 19 then Tiling else Other n
