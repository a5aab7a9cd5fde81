-- A list that is made item by item.
use Rattle.std.specs.Prelude.{List, [], ◌++◌, ℕ, zero, suc, ◌+◌, ◌-◌}

-- n items from item k on, one after the other
unfoldable pub run : (ℕ → List ℕ) → ℕ → ℕ → List ℕ
run f k zero = []
run f k (suc n) = f k ++ run f (k + 1) n

-- the items from k up to, not including, n
unfoldable pub span : (ℕ → List ℕ) → ℕ → ℕ → List ℕ
span f k n = run f k (n - k)
