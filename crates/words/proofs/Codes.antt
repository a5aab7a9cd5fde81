-- Laws of answers as one number.
use Rattle.std.specs.Prelude.{Ok, Err}
use mathlib.Core.List.{List, [], ◌++◌, ◌∷◌}
use mathlib.Core.Path.{◌∙◌, ◌≡◌, ap, refl, sym}
use Prim.Native.Nat.{◌+◌, ◌<◌, ◌≤◌, ℕ}
use native.Mathlib.Omega.{arith}
use lib.ListN.{length, set}
use Rattle.laws.proofs.Out.{fitted-room, fitted_short, then-done, then-refused}
use Rattle.laws.proofs.Puts.{puts-append, puts-start}
use Rattle.laws.specs.Out.{Out, and_then, reason, written}
use Rattle.laws.specs.Puts.{puts}
use Rattle.laws.specs.declared.Refusal.{Refusal}
use Rattle.point.specs.declared.Named.{Named}
use Rattle.point.specs.declared.Point.{Point}
use Rattle.words.specs.Code.{code_of, none_of, refusal_code}
use Rattle.words.specs.Spots.{named_fields, point_fields, sight_fields, point_words}

-- a call that refuses, and one that wrote its words from the start and answers 0
pub refused-code : (o : Out (List ℕ)) (e : Refusal) (r : ℕ) (d : List ℕ) → o ≡ Err e → r ≡ refusal_code e → (r ≡ code_of (none_of o)) × (d ≡ written o d)
unfolding code_of none_of and_then written
refused-code o e r d q h = rw q (h, refl)

pub done-code : (o : Out (List ℕ)) (bs d d' : List ℕ) → o ≡ Ok bs → length bs ≤ length d → d' ≡ puts d 0 bs → (◌≡◌ {A = ℕ} 0 (code_of (none_of o))) × (d' ≡ written o d)
unfolding code_of none_of and_then written
done-code o bs d d' q h p = rw q (refl, p ∙ puts-start d bs h)

-- two words stored one by one
pub two-words : (d d' : List ℕ) (at a b : ℕ) → d' ≡ set (set d at a) (at + 1) b → d' ≡ puts d at (a ∷ b ∷ [])
unfolding puts
two-words d d' at a b e = e

-- words stored behind those that stand from a place on; two words behind those at the start
pub words-behind : (d₀ d d' ws us : List ℕ) (i at : ℕ) → d ≡ puts d₀ i ws → at ≡ i + length ws → d' ≡ puts d at us → d' ≡ puts d₀ i (ws ++ us)
words-behind d₀ d d' ws us i at e p q = q ∙ ap (λ x. puts x at us) e ∙ ap (λ k. puts (puts d₀ i ws) k us) p ∙ sym (puts-append d₀ i ws us)

pub words-after : (d₀ d d' ws : List ℕ) (at a b : ℕ) → d ≡ puts d₀ 0 ws → at ≡ length ws → d' ≡ puts d at (a ∷ b ∷ []) → d' ≡ puts d₀ 0 (ws ++ (a ∷ b ∷ []))
words-after d₀ d d' ws at a b e p q = words-behind d₀ d d' ws (a ∷ b ∷ []) 0 at e (omega (arith, p)) q

-- ---- the point calls

point-long : (a : Point) → length (point_fields a) ≡ 10
unfolding point_fields sight_fields named_fields
point-long a = go a.named
  where
    go : (n : Named) → length (named_fields n ++ sight_fields a.sight) ≡ 10
    go Named.Fill = refl
    go (Named.Spot k) = refl

pub named-long : (n : Named) → length (named_fields n) ≡ 4
unfolding named_fields
named-long Named.Fill = refl
named-long (Named.Spot k) = refl

pub spot-refused : (room : ℕ) (o : Out Point) (e : Refusal) → o ≡ Err e → point_words o room ≡ Err e
unfolding point_words
spot-refused room o e q = then-refused _ q

module _ (room : ℕ) (o : Out Point) (a : Point) (e : o ≡ Ok a) where
  pub spot-short : room < 10 → point_words o room ≡ Err (reason 17)
  unfolding point_words
  spot-short h = then-done _ e ∙ fitted_short room (point_fields a) (omega (arith, point-long a))

  pub spot-done : 10 ≤ room → (point_words o room ≡ Ok (point_fields a)) × (length (point_fields a) ≤ room)
  unfolding point_words
  spot-done h = let l : length (point_fields a) ≤ room = omega (arith, point-long a) in (then-done _ e ∙ fitted-room room (point_fields a) l, l)

-- a call's answer and words, of what another definition found
pub spot-as : (o u : Out Point) (room r : ℕ) (d d' : List ℕ) → o ≡ u → (r ≡ code_of (none_of (point_words o room))) × (d' ≡ written (point_words o room) d) → (r ≡ code_of (none_of (point_words u room))) × (d' ≡ written (point_words u room) d)
spot-as o u room r d d' e h = rw e at h
