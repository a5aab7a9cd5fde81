-- What the reading calls write.
use Rattle.std.specs.Prelude.{List, [], ◌++◌, ◌∷◌, ℕ}
use Rattle.laws.specs.Out.{Out, and_then, fitted}
use Rattle.records.specs.Record.{record_of}
use Rattle.image.specs.declared.format.Form.{Form}
use Rattle.records.specs.declared.record.Frame.{Frame}
use Rattle.records.specs.declared.record.Plane.{Plane}

-- a record as 17 words: five of its form, then three of each plane
unfoldable pub form_fields : Form → List ℕ
form_fields m = m.width ∷ m.height ∷ m.format.chroma ∷ m.format.depth ∷ m.format.alpha ∷ []

unfoldable pub plane_fields : Plane → List ℕ
plane_fields q = q.start ∷ q.len ∷ q.stride ∷ []

unfoldable pub record_fields : Frame → List ℕ
record_fields fr = form_fields fr.form ++ (plane_fields fr.luma ++ (plane_fields fr.cb ++ (plane_fields fr.cr ++ plane_fields fr.alpha)))

unfoldable pub record_words : List ℕ → ℕ → Out (List ℕ)
record_words s room = and_then (record_of s) (λ fr. fitted room (record_fields fr))
