-- What was read of the input, and one entry of its chain, applied to a size.
use Rattle.std.specs.Prelude.{Ok, Err}
use Rattle.std.specs.Prelude.{List, ◌≡◌, ℕ}
use Rattle.laws.specs.Out.{Out}
use Rattle.image.specs.declared.size.Size.{Size}
use Rattle.props.specs.Entry.{entry_at, kind_of}
use Rattle.props.specs.Size.{size_after}
use Rattle.props.specs.declared.entry.PropertyEntry.{PropertyEntry}
use Rattle.props.specs.inner.Judged.{Judged}
use Rattle.steps_text.specs.Input.{steps_of}
use Rattle.steps_text.specs.declared.input.Input.{Input}
use Rattle.steps_text.specs.declared.text.EntryStep.{EntryStep}

-- a size, and where the entries of the chain stand
pub record Taken (s : List ℕ) (i : Input) : Type 0 where
  pub chain : Judged s i.chain
  pub steps : steps_of s ≡ Ok (record { size = i.size; entries = chain.entries })

unfoldable pub ReadAs : List ℕ → Out Input → Type 0
ReadAs s (Ok i) = Taken s i
ReadAs s (Err e) = steps_of s ≡ Err e

-- an entry stands at a place
pub record Readable (s : List ℕ) (at : ℕ) : Type 0 where
  pub entry : PropertyEntry × ℕ
  pub read : entry_at s at ≡ Ok entry

-- what is told of it
pub record StepAt (s : List ℕ) (at : ℕ) (z : Size) (r : EntryStep) : Type 0 where
  pub entry : PropertyEntry × ℕ
  pub read : entry_at s at ≡ Ok entry
  pub kind : r.kind ≡ kind_of entry.0.property
  pub after : r.after ≡ size_after entry.0.property z
  pub next : r.next ≡ entry.1
