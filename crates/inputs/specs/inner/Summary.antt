-- What the functions of this crate hand to each other: what the inputs come to, and the alpha plane of a record.
use Rattle.laws.specs.declared.Item.TheVariants.{Record}
use Rattle.std.specs.Prelude.{Ok, Err}
use Rattle.std.specs.Prelude.{◌&&◌, ◌||◌, false, not, List, [], ◌∷◌, ◌+◌, ℕ, eqb, leb, ltb}
use Rattle.laws.specs.Out.{Out, and_then, refuse_item}
use Rattle.laws.specs.Pick.{pick}
use Rattle.image.specs.Format.{bytes_of, has_alpha, is_mono, needs444, odd, top_of}
use Rattle.records.specs.Tray.{frames_at}
use Rattle.image.specs.declared.format.Form.{Form}
use Rattle.image.specs.declared.format.PixelFormat.{PixelFormat}
use Rattle.records.specs.declared.record.Frame.{Frame}
use Rattle.fill.specs.Fill.{fill_alpha_of}
use Rattle.derived.specs.Overlay.{placement_at}
use Rattle.derived.specs.declared.overlay.OverlayDescriptor.{OverlayDescriptor}
use Rattle.derived.specs.declared.overlay.Placement.{Placement}
use Rattle.inputs.specs.Layers.{odd_offset}
use Rattle.inputs.specs.declared.alpha_check.AlphaPlane.{AlphaPlane}
use Rattle.inputs.specs.declared.read.InputSummary.{InputSummary}
use Rattle.inputs.specs.declared.read.Plan.{Plan}
use Rattle.inputs.specs.Inputs.{other_depth_of}

unfoldable pub summarised : InputSummary → PixelFormat → Form → Placement → InputSummary
summarised n f m o = record {
  other_depth = n.other_depth || not (eqb m.format.depth f.depth);
  other_chroma = n.other_chroma || not (eqb m.format.chroma f.chroma);
  alpha = n.alpha || has_alpha m.format;
  odd_across = n.odd_across || (odd_offset o.horizontal || odd m.width);
  odd_down = n.odd_down || (odd_offset o.vertical || odd m.height);
}

-- from input i on, beside the first one's format
unfoldable pub summary_of : List ℕ → OverlayDescriptor → PixelFormat → InputSummary → ℕ → List Frame → InputSummary
summary_of body d f n i [] = n
summary_of body d f n i (fr ∷ frs) = summary_of body d f (summarised n f fr.form (placement_at body d i)) (i + 1) frs

unfoldable pub empty_summary : OverlayDescriptor → InputSummary
empty_summary d = record { other_depth = false; other_chroma = false; alpha = false; odd_across = odd d.output_width; odd_down = odd d.output_height }

unfoldable pub summary_form : OverlayDescriptor → PixelFormat → InputSummary → Form
summary_form d f n = record {
  width = d.output_width;
  height = d.output_height;
  format = record {
    chroma = pick ((not (is_mono f) && n.alpha || n.other_chroma) || needs444 f n.odd_across n.odd_down) 3 f.chroma;
    depth = f.depth;
    alpha = pick (ltb (fill_alpha_of d.canvas_fill.alpha f.depth) (top_of f)) 1 0;
  };
}

unfoldable pub summary_plan : OverlayDescriptor → ℕ → PixelFormat → List Frame → InputSummary → Out Plan
summary_plan d first f frs n = refuse_item Record (other_depth_of f) 14 frs (Ok (record { descriptor = d; first = first; form = summary_form d f n; alpha = n.alpha }))

-- the records of a body that was taken
unfoldable pub frames_plan : List ℕ → List ℕ → OverlayDescriptor → ℕ → PixelFormat → Out Plan
frames_plan body tray d first f = and_then (frames_at d.count tray first) (λ frs. summary_plan d first f frs (summary_of body d f (empty_summary d) 0 frs))

-- a record's alpha plane: no rows where it has none, or cannot be read
unfoldable pub no_alpha : ℕ → AlphaPlane
no_alpha end = record { plane = record { start = 0; len = 0; stride = 0 }; bytes = 1; columns = 0; rows = 0; end = end }

unfoldable pub alpha_plane : Frame → AlphaPlane
alpha_plane fr =
    pick (has_alpha fr.form.format) (record { plane = fr.alpha; bytes = bytes_of fr.form.format; columns = fr.form.width; rows = fr.form.height; end = fr.end })
    (no_alpha fr.end)

unfoldable pub alpha_plane_at : ℕ → Out Frame → AlphaPlane
alpha_plane_at at (Err e) = no_alpha at
alpha_plane_at at (Ok fr) = alpha_plane fr

-- how many of a plane's rows are searched: none where samples of so many bytes cannot exceed top
unfoldable pub searched_rows : ℕ → ℕ → ℕ → ℕ
searched_rows rows bytes top = pick (eqb bytes 1) (pick (leb 255 top) 0 rows) (pick (eqb top 65535) 0 rows)
