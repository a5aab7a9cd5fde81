-- Chains of properties (document 01, "What is handed in" and "Refusals in order", Scene).
use Rattle.laws.specs.declared.Item.TheVariants.{Entry}
use Rattle.std.specs.Prelude.{Ok, Bool, ◌||◌, not, List, [], ◌∷◌, suc, zero, ℕ, ltb, length}
use Rattle.laws.specs.Out.{Out, about, after, and_then, refuse}
use Rattle.laws.specs.Pick.{pick}
use Rattle.numbers.specs.Number.{on_number, read_number}
use Rattle.props.specs.Entry.{entry_at}
use Rattle.props.specs.declared.chain.Chain.{Chain}
use Rattle.props.specs.declared.entry.Property.{Property}
use Rattle.props.specs.declared.entry.PropertyEntry.{PropertyEntry}

-- the count, and where the first entry stands: 5 a count that is malformed, 4 above 256
unfoldable pub count_at : List ℕ → ℕ → Out Chain
count_at s at = on_number (read_number s at) (λ n a. refuse (ltb 256 n) 4 (Ok (record { count = n; first = a })))

-- so many entries in turn from a place on, and 5 where bytes are left over after the last; an entry's own refusal has its index
unfoldable pub entries_at : ℕ → List ℕ → ℕ → Out (List PropertyEntry)
entries_at zero s at = refuse (ltb at (length s)) 5 (Ok [])
entries_at (suc n) s at =
    and_then (about Entry 0 (entry_at s at)) (λ x.
    and_then (after 1 (entries_at n s x.1)) (λ es. Ok (x.0 ∷ es)))

-- the chain that stands at a place and ends with the bytes
unfoldable pub chain_at : List ℕ → ℕ → Out (List PropertyEntry)
chain_at s at = and_then (count_at s at) (λ c. entries_at c.count s c.first)

-- whether an entry is applied: under the flag only the essential
unfoldable pub applies : Bool → PropertyEntry → Bool
applies essential_only e = not essential_only || e.essential

-- a chain over anything: each entry that is applied in turn, up to the first refusal, which has its entry's index; skipped entries count
unfoldable pub fold_chain : {A : Type 0} → (Property → A → Out A) → Bool → List PropertyEntry → A → Out A
fold_chain f flag [] a = Ok a
fold_chain f flag (e ∷ es) a =
    and_then (about Entry 0 (pick (applies flag e) (f e.property a) (Ok a))) (λ b. after 1 (fold_chain f flag es b))
