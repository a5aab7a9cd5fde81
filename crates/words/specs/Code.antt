-- Answers as one 64-bit number.
use Rattle.std.specs.Prelude.{Ok, Err, Option, None, Some}
use Rattle.std.specs.Prelude.{◌*◌, ◌+◌, ◌-◌, ◌^◌, min, ℕ}
use Rattle.laws.specs.Out.{Out, and_then}
use Rattle.laws.specs.Reason.{number_of}
use Rattle.laws.specs.declared.Item.{Item}
use Rattle.laws.specs.declared.Item.TheVariants.{Record, Entry, Other}
use Rattle.laws.specs.declared.Refusal.{Refusal}

-- the sort of an item: 0 none, 1 a record of the tray, 2 an entry of the chain, any other as it is; and its index, 0 of none
unfoldable pub sort_of : Option Item → ℕ
sort_of None = 0
sort_of (Some (Record i)) = 1
sort_of (Some (Entry i)) = 2
sort_of (Some (Other sort i)) = sort

unfoldable pub index_of : Option Item → ℕ
index_of None = 0
index_of (Some (Record i)) = i
index_of (Some (Entry i)) = i
index_of (Some (Other sort i)) = i

-- a refusal: its number in bits 0 to 7, the sort of the item that is refused in bits 8 to 15, the item's index in bits 16 to 55, where one
-- above 2 ^ 40 - 1 is that number
unfoldable pub refusal_code : Refusal → ℕ
refusal_code e = 2 ^ 63 + number_of e.reason + 2 ^ 8 * sort_of e.item + 2 ^ 16 * min (index_of e.item) (2 ^ 40 - 1)

-- a number as it is, a refusal from 2 ^ 63 on
unfoldable pub code_of : Out ℕ → ℕ
code_of (Err e) = refusal_code e
code_of (Ok n) = n

-- the length of a record, or why there is none
unfoldable pub answer_code : Out ℕ → ℕ
answer_code (Ok n) = n
answer_code (Err e) = refusal_code e

-- an answer that has no number
unfoldable pub none_of : {A : Type 0} → Out A → Out ℕ
none_of o = and_then o (λ a. Ok 0)
