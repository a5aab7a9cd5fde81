-- What a call comes to: an answer, or why it refuses.
use Rattle.std.specs.Prelude.{Result, Ok, Err, Option, Some, None, Bool, false, true, List, ◌++◌, ◌+◌, ℕ, eqb, ltb, drop, length}
use Rattle.laws.specs.declared.Refusal.{Refusal}
use Rattle.laws.specs.declared.Reason.{Reason}
use Rattle.laws.specs.declared.Item.{Item}
use Rattle.laws.specs.declared.Item.TheVariants.{Record, Entry, Other}
use Rattle.laws.specs.Reason.{numbered}
use Rattle.laws.specs.Any.{any, first_at}
use Rattle.laws.specs.Pick.{pick}

-- the refusal of a number, of no item
abbrev pub reason : ℕ → Refusal
reason n = record { reason = numbered n; item = None }

-- an answer, or why there is none
abbrev pub Out : Type 0 → Type 0
Out A = Result A Refusal

-- whether there is an answer
unfoldable pub is_done : {A : Type 0} → Out A → Bool
is_done (Err r) = false
is_done (Ok a) = true

-- the first answer handed on; the first refusal is the refusal
unfoldable pub and_then : {A B : Type 0} → Out A → (A → Out B) → Out B
and_then (Err r) f = Err r
and_then (Ok a) f = f a

-- the refusal n where the test passes
unfoldable pub refuse : {A : Type 0} → Bool → ℕ → Out A → Out A
refuse true n o = Err (reason n)
refuse false n o = o

-- ---- items of a list: the records of a tray, the entries of a chain (document 02, A2)

-- an item's own refusal: a record of the tray, an entry of the chain
abbrev pub own_refusal : Reason → Item → Refusal
own_refusal why item = record { reason = why; item = Some item }

abbrev pub own_reason : ℕ → (ℕ → Item) → ℕ → Refusal
own_reason n sort i = own_refusal (numbered n) (sort i)

-- a refusal is item i's own
unfoldable pub about : {A : Type 0} → (ℕ → Item) → ℕ → Out A → Out A
about sort i (Err r) = Err (own_refusal r.reason (sort i))
about sort i (Ok a) = Ok a

-- what follows the first n items of a list: an item that is refused there counts from the list's start; a refusal of no item stays
unfoldable pub later_item : ℕ → Option Item → Option Item
later_item n None = None
later_item n (Some (Record i)) = Some (Record (n + i))
later_item n (Some (Entry i)) = Some (Entry (n + i))
later_item n (Some (Other sort i)) = Some (Other sort (pick (eqb sort 0) i (n + i)))

unfoldable pub later : ℕ → Refusal → Refusal
later n r = record { reason = r.reason; item = later_item n r.item }

unfoldable pub after : {A : Type 0} → ℕ → Out A → Out A
after n (Err r) = Err (later n r)
after n (Ok a) = Ok a

-- the refusal n of the first item that passes a test
unfoldable pub refuse_item : {A B : Type 0} → (ℕ → Item) → (A → Bool) → ℕ → List A → Out B → Out B
refuse_item sort t n items o = pick (any t items) (about sort (first_at t items) (Err (reason n))) o

-- ---- what is written

-- a call that writes bytes: its answer is how many; a refusal leaves the buffer as it was, and what is written stands at its start
unfoldable pub answer_of : Out (List ℕ) → Out ℕ
answer_of (Err r) = Err r
answer_of (Ok bs) = Ok (length bs)

unfoldable pub written : Out (List ℕ) → List ℕ → List ℕ
written (Err r) d = d
written (Ok bs) d = bs ++ drop (length bs) d

-- bytes for a buffer of so many: 17 where it is shorter
unfoldable pub fitted : ℕ → List ℕ → Out (List ℕ)
fitted room bs = refuse (ltb room (length bs)) 17 (Ok bs)
