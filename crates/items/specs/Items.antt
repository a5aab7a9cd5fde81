-- Which record of a tray or entry of a chain a refusal names (document 02, A2).
use Rattle.std.specs.Prelude.{Ok, Err, Some, Bool, false, true, List, ◌++◌, ◌∷◌, ◌≡◌, ◌<◌, suc, zero, ℕ, length}
use Rattle.laws.specs.Any.{any}
use Rattle.laws.specs.Out.{Out, and_then, reason}
use Rattle.laws.specs.Reason.{numbered}
use Rattle.laws.specs.declared.Item.{Item}
use Rattle.laws.specs.declared.Refusal.{Refusal}
use Rattle.records.specs.Record.{record_at}
use Rattle.props.specs.Entry.{entry_at}

-- ---- items that stand one after the other in bytes

-- the place past the record, and past the entry, that stands at a place
unfoldable pub past_record : List ℕ → ℕ → Out ℕ
past_record s at = and_then (record_at s at) (λ fr. Ok fr.end)

unfoldable pub past_entry : List ℕ → ℕ → Out ℕ
past_entry s at = and_then (entry_at s at) (λ x. Ok x.1)

-- where item i stands, behind i items that are taken
unfoldable pub stands_at : (ℕ → Out ℕ) → ℕ → ℕ → Out ℕ
stands_at past zero at = Ok at
stands_at past (suc i) at = and_then (past at) (stands_at past i)

-- the item that the refusal names, of n from a place on, is refused by that number, and those before it are taken
pub record OwnItem (past : ℕ → Out ℕ) (sort : ℕ → Item) (n at : ℕ) (r : Refusal) : Type 0 where
  pub index : ℕ
  pub names : r.item ≡ Some (sort index)
  pub there : index < n
  pub place : ℕ
  pub stands : stands_at past index at ≡ Ok place
  pub why : Refusal
  pub refuses : past place ≡ Err why
  pub number : r.reason ≡ why.reason

-- all n are taken, and bytes are left over: the refusal names none
pub record LeftOver (past : ℕ → Out ℕ) (n at end : ℕ) (r : Refusal) : Type 0 where
  pub place : ℕ
  pub stands : stands_at past n at ≡ Ok place
  pub over : place < end
  pub none : r ≡ reason 5

-- ---- items that are gone through one after the other

-- the item that the refusal names is refused by that number, after those before it were gone through: tiles that are held to the first,
-- entries that are applied or skipped
pub record OwnStep {A B : Type 0} (run : List A → B → Out B) (step : A → B → Out B) (sort : ℕ → Item) (items : List A) (b : B) (r : Refusal) : Type 0 where
  pub before : List A
  pub item : A
  pub behind : List A
  pub all : items ≡ before ++ (item ∷ behind)
  pub names : r.item ≡ Some (sort (length before))
  pub reached : B
  pub gone : run before b ≡ Ok reached
  pub why : Refusal
  pub refuses : step item reached ≡ Err why
  pub number : r.reason ≡ why.reason

-- the item that the refusal n names is the first that passes a test
pub record FirstItem {A : Type 0} (test : A → Bool) (sort : ℕ → Item) (n : ℕ) (items : List A) (r : Refusal) : Type 0 where
  pub number : r.reason ≡ numbered n
  pub before : List A
  pub item : A
  pub behind : List A
  pub all : items ≡ before ++ (item ∷ behind)
  pub names : r.item ≡ Some (sort (length before))
  pub others : any test before ≡ false
  pub passes : test item ≡ true
