-- Picture runs and point runs that begin alike, step by step: what holds of them after the first steps holds of the whole.
use Rattle.std.specs.Prelude.{Ok, Err}
use mathlib.Core.Bool.{Bool}
use mathlib.Core.List.{List, [], ◌∷◌}
use mathlib.Core.Path.{◌≡◌, ap, refl}
use Prim.Native.Nat.{ℕ}
use Rattle.laws.specs.Out.{Out, and_then}
use Rattle.numbers.specs.Number.{on_number}
use Rattle.image.specs.declared.format.Part.{Part}
use Rattle.props.proofs.ChainLaws.{Applied}
use Rattle.props.specs.declared.entry.PropertyEntry.{PropertyEntry}
use Rattle.motions.specs.Chain.{NotIscl}
use Rattle.stages.specs.Chain.{Drawn}
use Rattle.scene_room.specs.Scene.{room_for}
use Rattle.agreement.specs.Agreement.{Agreement, Room, Unscaled}
use Rattle.point.specs.declared.Named.{Named}
use Rattle.point.specs.declared.Point.{Point}

-- a number that was read, and what goes on with it
pub on-taken : {A : Type 0} {o : Out (ℕ × ℕ)} {n at : ℕ} (k : ℕ → ℕ → Out A) → o ≡ Ok (n, at) → on_number o k ≡ k n at
unfolding on_number
on-taken k e = ap (λ (o : Out (ℕ × ℕ)). on_number o k) e

-- ---- runs that begin alike

-- what a picture run and a point run have to do with each other at a place
unfoldable pub Agrees : (Named → Part → ℕ) → ℕ → ℕ → Out Drawn → Out Point → Type 0
Agrees reads x y o u = (output spare : ℕ) → Room o output spare → Agreement reads x y (and_then o (room_for output spare)) u

pub agrees-as : (reads : Named → Part → ℕ) (x y : ℕ) {o o' : Out Drawn} {u u' : Out Point} → o ≡ o' → u ≡ u' → Agrees reads x y o u → Agrees reads x y o' u'
agrees-as reads x y e f k = rw (← e, ← f) k

pub agrees-then : {A : Type 0} (reads : Named → Part → ℕ) (x y : ℕ) (o : Out A) (f : A → Out Drawn) (g : A → Out Point) → ((a : A) → o ≡ Ok a → Agrees reads x y (f a) (g a)) → Agrees reads x y (and_then o f) (and_then o g)
unfolding Agrees and_then
agrees-then reads x y (Err r) f g k output spare m = Agreement.alike
agrees-then reads x y (Ok a) f g k output spare m = k a refl output spare m

pub agrees_number : (reads : Named → Part → ℕ) (x y : ℕ) (o : Out (ℕ × ℕ)) (f : ℕ → ℕ → Out Drawn) (g : ℕ → ℕ → Out Point) → ((n at : ℕ) → o ≡ Ok (n, at) → Agrees reads x y (f n at) (g n at)) → Agrees reads x y (on_number o f) (on_number o g)
unfolding Agrees and_then on_number
agrees_number reads x y (Ok (n, at)) f g k output spare m = k n at refl output spare m
agrees_number reads x y (Err r) f g k output spare m = Agreement.alike

-- the applied entries of a chain without scaling
pub unscaled : (flag : Bool) (es : List PropertyEntry) → Unscaled flag es → Applied NotIscl flag es
unfolding Unscaled Applied
unscaled flag [] k = tt
unscaled flag (e ∷ es) k = (k.0, unscaled flag es k.1)
