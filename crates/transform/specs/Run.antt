-- What each operation answers and writes (document 01, clap, irot, imir and their refusals).
use Rattle.std.specs.Prelude.{not, List, ℕ}
use Rattle.laws.specs.Out.{Out, and_then, fitted, refuse}
use Rattle.planes.specs.Bytes.{decode, encode}
use Rattle.image.specs.Format.{odd}
use Rattle.records.specs.Record.{record_of}
use Rattle.records.specs.declared.record.Frame.{Frame}
use Rattle.sizes.specs.Aperture.{resolve_of}
use Rattle.sizes.specs.Margins.{fits_in}
use Rattle.sizes.specs.declared.clap.Crop.{Crop}
use Rattle.props.specs.declared.entry.Imir.{Imir}
use Rattle.props.specs.declared.entry.Irot.{Irot}
use Rattle.sizes.specs.declared.clap.Clap.{Clap}
use Rattle.motions.specs.Turn.{Quarter, crop, mirror, q0, q1, q2, q3, quarter_of, turn}

-- crop: the record, then 9 for a rectangle and margins that are not those of a crop of its picture (document 02, A1), then 17
unfoldable pub crop_of : List ℕ → Frame → Crop → ℕ → Out (List ℕ)
crop_of s fr k room = refuse (not (fits_in k fr.form.width fr.form.height)) 9 (fitted room (encode (crop (decode s fr) k.rect)))

unfoldable pub crop_run : List ℕ → Crop → ℕ → Out (List ℕ)
crop_run s k room = and_then (record_of s) (λ fr. crop_of s fr k room)

-- clap: the record, then the aperture's refusals, then 17
unfoldable pub clap_run : List ℕ → Clap → ℕ → Out (List ℕ)
clap_run s c room = and_then (record_of s) (λ fr. and_then (resolve_of c fr.form.width fr.form.height) (λ k. fitted room (encode (crop (decode s fr) k.rect))))

-- irot: angle mod 4 quarter turns anticlockwise; 0 hands back the record byte for byte
unfoldable pub turn_bytes : List ℕ → Frame → Quarter → List ℕ
turn_bytes s fr q0 = s
turn_bytes s fr q1 = encode (turn (decode s fr) q1)
turn_bytes s fr q2 = encode (turn (decode s fr) q2)
turn_bytes s fr q3 = encode (turn (decode s fr) q3)

unfoldable pub irot_run : List ℕ → Irot → ℕ → Out (List ℕ)
irot_run s k room = and_then (record_of s) (λ fr. fitted room (turn_bytes s fr (quarter_of k.angle)))

-- imir: axis mod 2; 0 exchanges top and bottom, 1 left and right; output tight
unfoldable pub imir_run : List ℕ → Imir → ℕ → Out (List ℕ)
imir_run s k room = and_then (record_of s) (λ fr. fitted room (encode (mirror (decode s fr) (odd k.axis))))
