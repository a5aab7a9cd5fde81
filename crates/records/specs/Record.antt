-- Frame records ("What is handed in" and "Refusals in order", Record).
use Rattle.std.specs.Prelude.{Ok, List, ℕ, ◌+◌, ◌-◌, ◌*◌, ltb, drop, length, take}
use Rattle.laws.specs.Pick.{pick}
use Rattle.laws.specs.Out.{Out, and_then, refuse}
use Rattle.numbers.specs.Number.{read_number, on_number}
use Rattle.image.specs.Format.{has_part, rows_of, row_size, form_of}
use Rattle.image.specs.declared.format.Part.{Part}
use Rattle.image.specs.declared.format.Part.TheVariants.{Luma, Cb, Cr, Alpha}
use Rattle.image.specs.declared.format.Form.{Form}
use Rattle.records.specs.declared.record.Plane.{Plane}
use Rattle.records.specs.declared.record.Frame.{Frame}

-- a header's numbers, judged, and the place past it
unfoldable pub head_of : ℕ → ℕ → ℕ → ℕ → ℕ → ℕ → Out (Form × ℕ)
head_of width height chroma depth alpha next =
    and_then (form_of width height chroma depth alpha) (λ m. Ok ((m, next)))

-- the five numbers of a header are read before any is judged
unfoldable pub head_at : List ℕ → ℕ → Out (Form × ℕ)
head_at s at =
    on_number (read_number s at) (λ width a.
    on_number (read_number s a) (λ height b.
    on_number (read_number s b) (λ chroma c.
    on_number (read_number s c) (λ depth d.
    on_number (read_number s d) (λ alpha e.
    head_of width height chroma depth alpha e)))))

-- a plane of so many rows of so many bytes: its stride, its length, its bytes; 5 a stride below a row, data below
-- stride × (rows − 1) + a row, or past the end
unfoldable pub plane_at : List ℕ → ℕ → ℕ → ℕ → Out Plane
plane_at s at rows row =
    on_number (read_number s at) (λ stride a.
    on_number (read_number s a) (λ len b.
    refuse (ltb stride row) 5
    (refuse (ltb len (stride * (rows - 1) + row)) 5
    (refuse (ltb (length s - b) len) 5 (Ok (record { start = b; len = len; stride = stride }))))))

-- the plane of a part; of a part that the picture has not, no bytes
unfoldable pub part_at : List ℕ → ℕ → Form → Part → Out Plane
part_at s at m p = pick (has_part m.format p) (plane_at s at (rows_of m p) (row_size m p)) (Ok (record { start = at; len = 0; stride = 0 }))

-- the place past a plane
unfoldable pub past : Plane → ℕ
past p = p.start + p.len

unfoldable pub planes_at : List ℕ → ℕ → Form → Out Frame
planes_at s at m =
    and_then (part_at s at m Luma) (λ luma.
    and_then (part_at s (past luma) m Cb) (λ cb.
    and_then (part_at s (past cb) m Cr) (λ cr.
    and_then (part_at s (past cr) m Alpha) (λ alpha.
    Ok (record { form = m; luma = luma; cb = cb; cr = cr; alpha = alpha; end = past alpha })))))

-- the record that stands at a place
unfoldable pub record_at : List ℕ → ℕ → Out Frame
record_at s at = and_then (head_at s at) (λ h. planes_at s h.1 h.0)

-- a record and nothing after it
unfoldable pub record_of : List ℕ → Out Frame
record_of s = and_then (record_at s 0) (λ fr. refuse (ltb fr.end (length s)) 5 (Ok fr))

-- the plane of a frame by its part
unfoldable pub plane_of : Frame → Part → Plane
plane_of fr Luma = fr.luma
plane_of fr Cb = fr.cb
plane_of fr Cr = fr.cr
plane_of fr Alpha = fr.alpha

-- a plane's own bytes
unfoldable pub data_of : List ℕ → Plane → List ℕ
data_of s p = take p.len (drop p.start s)
