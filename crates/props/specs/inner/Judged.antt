-- A chain whose form was judged.
use Rattle.std.specs.Prelude.{Ok}
use Rattle.std.specs.Prelude.{List, ◌≡◌, ◌≤◌, ℕ}
use Rattle.laws.specs.Out.{Out, and_then}
use Rattle.props.specs.Chain.{chain_at, count_at, entries_at}
use Rattle.props.specs.declared.chain.Chain.{Chain}
use Rattle.props.specs.declared.entry.PropertyEntry.{PropertyEntry}

-- where the entries of a chain that is taken stand
unfoldable pub judged_at : List ℕ → ℕ → Out Chain
judged_at s at = and_then (chain_at s at) (λ es. count_at s at)

-- a chain that was judged: the entries that are read from its first on
pub record Judged (s : List ℕ) (c : Chain) : Type 0 where
  pub bounded : c.count ≤ 256
  pub entries : List PropertyEntry
  pub read : entries_at c.count s c.first ≡ Ok entries
