-- Trays: a count, then that many records, nothing after ("What is handed in").
use Rattle.laws.specs.declared.Item.TheVariants.{Record}
use Rattle.std.specs.Prelude.{Ok, Err, List, [], ◌∷◌, ℕ, zero, suc, ltb, length}
use Rattle.laws.specs.Out.{Out, about, after, and_then, refuse}
use Rattle.numbers.specs.Number.{read_number, on_number}
use Rattle.records.specs.Record.{record_at}
use Rattle.image.specs.declared.format.Form.{Form}
use Rattle.records.specs.declared.record.Frame.{Frame}
use Rattle.records.specs.declared.record.Plane.{Plane}

-- so many records in turn from a place on, and 5 where bytes are left over after the last; a record's own refusal has its index
unfoldable pub frames_at : ℕ → List ℕ → ℕ → Out (List Frame)
frames_at zero s at = refuse (ltb at (length s)) 5 (Ok [])
frames_at (suc n) s at =
    and_then (about Record 0 (record_at s at)) (λ fr.
    and_then (after 1 (frames_at n s fr.end)) (λ frs. Ok (fr ∷ frs)))

unfoldable pub tray_of : List ℕ → Out (List Frame)
tray_of s = on_number (read_number s 0) (λ n a. frames_at n s a)

-- its records, none where it is refused
unfoldable pub taken_of : Out (List Frame) → List Frame
taken_of (Err r) = []
taken_of (Ok frs) = frs

unfoldable pub records_in : List ℕ → List Frame
records_in tray = taken_of (tray_of tray)

-- no record
unfoldable pub no_plane : Plane
no_plane = record { start = 0; len = 0; stride = 0 }

unfoldable pub no_form : Form
no_form = record { width = 0; height = 0; format = record { chroma = 0; depth = 0; alpha = 0 } }

unfoldable pub no_frame : Frame
no_frame = record { form = no_form; luma = no_plane; cb = no_plane; cr = no_plane; alpha = no_plane; end = 0 }

-- how many records it has, and what reading it answers
unfoldable pub tray_count : Out (List Frame) → Out ℕ
tray_count o = and_then o (λ frs. Ok (length frs))
