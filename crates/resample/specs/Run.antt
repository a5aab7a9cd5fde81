-- What each operation answers and writes (document 01, iscl, "Other operations", and "Refusals in order").
use Rattle.std.specs.Prelude.{not, List, ℕ, eqb}
use Rattle.laws.specs.Out.{Out, and_then, fitted, refuse}
use Rattle.laws.specs.Pick.{pick}
use Rattle.image.specs.Format.{has_size, is_depth, judged_size}
use Rattle.records.specs.Record.{record_of}
use Rattle.records.specs.declared.record.Frame.{Frame}
use Rattle.planes.specs.Bytes.{decode, encode}
use Rattle.sizes.specs.Scale.{scale_of}
use Rattle.sizes.specs.declared.iscl.Iscl.{Iscl}
use Rattle.sampling.specs.Area.{area}
use Rattle.sampling.specs.Depth.{rescaled}
use Rattle.sampling.specs.Nearest.{nearest}

-- depth: the record, then 6 outside 8 to 16, then 17; an equal depth hands the record back byte for byte
unfoldable pub depth_bytes : List ℕ → Frame → ℕ → List ℕ
depth_bytes s fr depth = pick (eqb depth fr.form.format.depth) s (encode (rescaled (decode s fr) depth))

unfoldable pub depth_run : List ℕ → ℕ → ℕ → Out (List ℕ)
depth_run s depth room = and_then (record_of s) (λ fr. refuse (not (is_depth depth)) 6 (fitted room (depth_bytes s fr depth)))

-- nearest: the record, then 3 a side 0, 4 above 2 ^ 30 pixels, then 17; an unchanged size hands the record back
unfoldable pub nearest_bytes : List ℕ → Frame → ℕ → ℕ → List ℕ
nearest_bytes s fr w h = pick (has_size fr.form w h) s (encode (nearest (decode s fr) w h))

unfoldable pub nearest_run : List ℕ → ℕ → ℕ → ℕ → Out (List ℕ)
nearest_run s w h room = and_then (record_of s) (λ fr. and_then (judged_size w h) (λ z. fitted room (nearest_bytes s fr z.width z.height)))

-- iscl: the record, then 7, 10 and 4, then 17; an unchanged size hands the record back
unfoldable pub area_bytes : List ℕ → Frame → ℕ → ℕ → List ℕ
area_bytes s fr w h = pick (has_size fr.form w h) s (encode (area (decode s fr) w h))

unfoldable pub iscl_run : List ℕ → Iscl → ℕ → Out (List ℕ)
iscl_run s k room = and_then (record_of s) (λ fr. and_then (scale_of k fr.form.width fr.form.height) (λ z. fitted room (area_bytes s fr z.width z.height)))
