-- An attached alpha plane (document 01, "Other operations", `attach_alpha`): the master's colour planes as they stand, stride and
-- spare bytes with them; as alpha the other record's luma, as it stands where neither size nor depth changes, else at the nearest
-- samples and then the master's depth, tight.
use Rattle.std.specs.Prelude.{Bool, ◌&&◌, List, [], ◌++◌, ℕ, eqb}
use Rattle.laws.specs.Out.{Out, and_then, fitted}
use Rattle.laws.specs.Pick.{pick}
use Rattle.numbers.specs.Number.{number_bytes}
use Rattle.image.specs.Format.{has_part, has_size, with_alpha}
use Rattle.image.specs.declared.format.Form.{Form}
use Rattle.image.specs.declared.format.Part.{Part}
use Rattle.image.specs.declared.format.Part.TheVariants.{Cb, Cr, Luma}
use Rattle.records.specs.Record.{data_of, plane_of, record_of}
use Rattle.records.specs.declared.record.Frame.{Frame}
use Rattle.records.specs.declared.record.Plane.{Plane}
use Rattle.planes.specs.Bytes.{decode, head_bytes, plane_bytes}
use Rattle.planes.specs.Picture.{Pic}
use Rattle.sampling.specs.Depth.{rescaled}
use Rattle.sampling.specs.Nearest.{nearest}

-- the form, and the picture, of the luma alone
unfoldable pub luma_form : Form → Form
luma_form m = record { width = m.width; height = m.height; format = record { chroma = 0; depth = m.format.depth; alpha = 0 } }

unfoldable pub luma_of : Pic → Pic
luma_of P = record { form = luma_form P.form; at = P.at }

-- a plane as it stands: its stride, its length, its bytes
unfoldable pub kept_plane : List ℕ → Plane → List ℕ
kept_plane s q = number_bytes q.stride ++ (number_bytes q.len ++ data_of s q)

unfoldable pub kept_part : List ℕ → Frame → Part → List ℕ
kept_part s fr p = pick (has_part fr.form.format p) (kept_plane s (plane_of fr p)) []

-- the alpha plane for a picture of the form m
unfoldable pub alpha_kept : Form → Form → Bool
alpha_kept m n = has_size n m.width m.height && eqb m.format.depth n.format.depth

unfoldable pub alpha_bytes : Form → List ℕ → Frame → List ℕ
alpha_bytes m t gr =
    pick (alpha_kept m gr.form) (kept_plane t gr.luma)
    (plane_bytes (rescaled (nearest (luma_of (decode t gr)) m.width m.height) m.format.depth) Luma)

unfoldable pub attach_bytes : List ℕ → Frame → List ℕ → Frame → List ℕ
attach_bytes s fr t gr =
    head_bytes (with_alpha fr.form 1) ++ (kept_part s fr Luma ++ (kept_part s fr Cb ++ (kept_part s fr Cr ++ alpha_bytes fr.form t gr)))

-- attach: the master's record, then the alpha's, then 17
unfoldable pub attach_run : List ℕ → List ℕ → ℕ → Out (List ℕ)
attach_run s t room = and_then (record_of s) (λ fr. and_then (record_of t) (λ gr. fitted room (attach_bytes s fr t gr)))
