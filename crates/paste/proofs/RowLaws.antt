-- Laws of rows stored one below the other.
use mathlib.Core.Bool.{Bool, false, true}
use mathlib.Core.List.{List}
use mathlib.Core.Path.{◌∙◌, ◌≡◌, ap, ap₂, refl, sym}
use Prim.Native.Nat.{◌*◌, ◌+◌, ◌/◌, ◌<◌, ◌^◌, suc, zero, ℕ}
use native.Mathlib.Omega.{arith}
use lib.ListN.{length}
use Rattle.laws.proofs.Puts.{length-puts}
use Rattle.laws.specs.Pick.{pick}
use Rattle.laws.specs.Puts.{puts}
use Rattle.image.specs.Format.{cover}
use Rattle.paste.specs.Stored.{store_rows}

pub length-store_rows : (d : List ℕ) (at stride : ℕ) (f : ℕ → List ℕ) (k : ℕ) → length (store_rows d at stride f k) ≡ length d
unfolding store_rows
length-store_rows d at stride f zero = refl
length-store_rows d at stride f (suc k) = length-puts (store_rows d at stride f k) (at + k * stride) (f k) ∙ length-store_rows d at stride f k

pub rows_more : (d : List ℕ) (at stride : ℕ) (f : ℕ → List ℕ) (k : ℕ) → puts (store_rows d at stride f k) (at + k * stride) (f k) ≡ store_rows d at stride f (k + 1)
unfolding store_rows
rows_more d at stride f k = let e : k + 1 ≡ suc k = omega arith in ap (store_rows d at stride f) (sym e)

pub rows_none : (d : List ℕ) (at stride : ℕ) (f : ℕ → List ℕ) (k : ℕ) → k ≡ 0 → store_rows d at stride f k ≡ d
unfolding store_rows
rows_none d at stride f k e = ap (store_rows d at stride f) e

pub rows-cong : (d : List ℕ) (at stride : ℕ) (f g : ℕ → List ℕ) (k : ℕ) → ((y : ℕ) → y < k → f y ≡ g y) → store_rows d at stride f k ≡ store_rows d at stride g k
unfolding store_rows
rows-cong d at stride f g zero h = refl
rows-cong d at stride f g (suc k) h =
    ap₂ (λ (a b : List ℕ). puts a (at + k * stride) b) (rows-cong d at stride f g k (λ y l. h y (omega arith))) (h k (omega arith))

pub line-half : (b : Bool) (x : ℕ) → x / 2 ^ pick b 1 0 ≡ cover b x
unfolding pick cover
line-half true x = refl
line-half false x = omega arith
