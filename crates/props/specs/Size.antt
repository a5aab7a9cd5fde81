-- A picture's size, and what a property makes of it (document 01, clap to iscl).
use Rattle.std.specs.Prelude.{Ok}
use Rattle.std.specs.Prelude.{◌%◌}
use Rattle.laws.specs.Out.{Out, and_then}
use Rattle.laws.specs.Pick.{pick}
use Rattle.image.specs.Format.{odd}
use Rattle.sizes.specs.Aperture.{resolve_of}
use Rattle.sizes.specs.Scale.{scale_of}
use Rattle.props.specs.declared.entry.Property.{Property}
use Rattle.image.specs.declared.size.Size.{Size}

-- the sides exchanged
unfoldable pub swapped : Size → Size
swapped z = record { width = z.height; height = z.width }

-- irot (ISO/IEC 23008-12, 6.5.10): angle mod 4 quarter turns, of which an odd number exchanges the sides; imir (6.5.12) keeps them
unfoldable pub size_after : Property → Size → Out Size
size_after Property.Other z = Ok z
size_after (Property.Clap c) z = and_then (resolve_of c z.width z.height) (λ k. Ok (record { width = k.rect.width; height = k.rect.height }))
size_after (Property.Irot t) z = pick (odd (t.angle % 4)) (Ok (swapped z)) (Ok z)
size_after (Property.Imir m) z = Ok z
size_after (Property.Iscl k) z = scale_of k z.width z.height
