-- A chain on a composed picture, iscl included, and the longest record on the way (document 01, "The scene call"; `apply_transforms`).
use Rattle.std.specs.Prelude.{Ok}
use Rattle.std.specs.Prelude.{Bool, List, max, ℕ, length}
use Rattle.laws.specs.Out.{Out, and_then}
use Rattle.laws.specs.Pick.{pick}
use Rattle.planes.specs.Bytes.{encode}
use Rattle.planes.specs.Picture.{Pic}
use Rattle.props.specs.Chain.{fold_chain}
use Rattle.sizes.specs.Scale.{scale_of}
use Rattle.props.specs.declared.entry.Property.{Property}
use Rattle.props.specs.declared.entry.PropertyEntry.{PropertyEntry}
use Rattle.sizes.specs.declared.iscl.Iscl.{Iscl}
use Rattle.motions.specs.Chain.{pic_after}
use Rattle.sampling.specs.Area.{area}
use Rattle.image.specs.Format.{has_size}

-- iscl: its refusals, then resize_area; an unchanged size hands the picture back
unfoldable pub scaled : Iscl → Pic → Out Pic
scaled k P =
    and_then (scale_of k P.form.width P.form.height) (λ z.
    Ok (pick (has_size P.form z.width z.height) P (area P z.width z.height)))

-- a picture, and how long the longest of the composed record and the step records up to it is
pub record Drawn : Type 0 where
  pub pic : Pic
  pub longest : ℕ

-- the composed picture
unfoldable pub first_drawn : Pic → Drawn
first_drawn P = record { pic = P; longest = length (encode P) }

-- an applied entry
unfoldable pub drawn_after : Property → Drawn → Out Drawn
drawn_after p d = and_then (pic_after scaled p d.pic) (λ Q. Ok (record { pic = Q; longest = max d.longest (length (encode Q)) }))

-- a chain, under the flag its essential entries alone
unfoldable pub chain_drawn : List PropertyEntry → Bool → Pic → Out Drawn
chain_drawn es essential_only P = fold_chain drawn_after essential_only es (first_drawn P)
