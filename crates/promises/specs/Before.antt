-- Runs as they stood before a request of document 02 changed what they take: promises compare with them.
use Rattle.std.specs.Prelude.{List, ◌+◌, ℕ, eqb, ltb}
use Rattle.laws.specs.Out.{Out, and_then, fitted, refuse}
use Rattle.records.specs.Record.{record_of}
use Rattle.sizes.specs.declared.clap.CropRect.{CropRect}
use Rattle.planes.specs.Bytes.{decode, encode}
use Rattle.motions.specs.Turn.{crop}

-- before A1: 9 for a rectangle that has no side or is not inside a picture of that size
unfoldable pub rect_judged : {A : Type 0} → CropRect → ℕ → ℕ → Out A → Out A
rect_judged r width height o =
    refuse (eqb r.width 0) 9
    (refuse (eqb r.height 0) 9
    (refuse (ltb width (r.x + r.width)) 9
    (refuse (ltb height (r.y + r.height)) 9 o)))

-- crop to a rectangle alone: the record, then 9, then 17
unfoldable pub rect_run : List ℕ → CropRect → ℕ → Out (List ℕ)
rect_run s r room =
    and_then (record_of s) (λ fr. rect_judged r fr.form.width fr.form.height (fitted room (encode (crop (decode s fr) r))))
