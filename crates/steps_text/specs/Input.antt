-- What is handed to `steps` (document 01, "Steps program").
use Rattle.std.specs.Prelude.{Ok}
use Rattle.std.specs.Prelude.{List, ℕ}
use Rattle.laws.specs.Out.{Out, and_then}
use Rattle.numbers.specs.Number.{on_number, read_number}
use Rattle.image.specs.Format.{judged_size}
use Rattle.image.specs.declared.size.Size.{Size}
use Rattle.props.specs.Chain.{chain_at}
use Rattle.props.specs.declared.entry.PropertyEntry.{PropertyEntry}

-- a size and the entries of a chain
pub record Steps : Type 0 where
  pub size : Size
  pub entries : List PropertyEntry

-- width, height and a chain: 5 malformed, 4 a chain above 256, then the size's
unfoldable pub steps_of : List ℕ → Out Steps
steps_of s =
    on_number (read_number s 0) (λ width a.
    on_number (read_number s a) (λ height b.
    and_then (chain_at s b) (λ es.
    and_then (judged_size width height) (λ z.
    Ok (record { size = z; entries = es })))))
