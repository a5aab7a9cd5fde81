-- A chain on a picture, entry by entry (document 01, "The scene call" and the transforms; `apply_transforms`).
use Rattle.std.specs.Prelude.{Ok}
use Rattle.std.specs.Prelude.{Bool, List}
use Rattle.laws.specs.Out.{Out, and_then}
use Rattle.planes.specs.Picture.{Pic}
use Rattle.image.specs.Format.{odd}
use Rattle.sizes.specs.Aperture.{resolve_of}
use Rattle.props.specs.Chain.{fold_chain}
use Rattle.props.specs.declared.entry.Property.{Property}
use Rattle.props.specs.declared.entry.PropertyEntry.{PropertyEntry}
use Rattle.sizes.specs.declared.iscl.Iscl.{Iscl}
use Rattle.motions.specs.Turn.{crop, mirror, quarter_of, turn}

-- an applied entry: kind 0 is skipped, a clap crops to the rectangle that it resolves to; what an iscl does is handed in
unfoldable pub pic_after : (Iscl → Pic → Out Pic) → Property → Pic → Out Pic
pic_after scale Property.Other P = Ok P
pic_after scale (Property.Clap c) P = and_then (resolve_of c P.form.width P.form.height) (λ k. Ok (crop P k.rect))
pic_after scale (Property.Irot k) P = Ok (turn P (quarter_of k.angle))
pic_after scale (Property.Imir k) P = Ok (mirror P (odd k.axis))
pic_after scale (Property.Iscl k) P = scale k P

-- a chain, under the flag its essential entries alone
unfoldable pub chain_pic : (Iscl → Pic → Out Pic) → List PropertyEntry → Bool → Pic → Out Pic
chain_pic scale es essential_only P = fold_chain (pic_after scale) essential_only es P

-- not a scaling
unfoldable pub NotIscl : Property → Type 0
NotIscl Property.Other = Unit {0}
NotIscl (Property.Clap c) = Unit {0}
NotIscl (Property.Irot k) = Unit {0}
NotIscl (Property.Imir k) = Unit {0}
NotIscl (Property.Iscl k) = ⊥
