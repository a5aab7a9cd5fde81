-- What the calls on descriptor bodies write.
use Rattle.std.specs.Prelude.{List, [], ◌∷◌, ℕ, leb}
use Rattle.laws.specs.Out.{Out, and_then, fitted, refuse}
use Rattle.laws.specs.Span.{span}
use Rattle.derived.specs.Grid.{grid_of}
use Rattle.derived.specs.Overlay.{overlay_of, placement_at}
use Rattle.derived.specs.declared.grid.GridDescriptor.{GridDescriptor}
use Rattle.derived.specs.declared.overlay.Fill.{Fill}
use Rattle.derived.specs.declared.overlay.OverlayDescriptor.{OverlayDescriptor}
use Rattle.derived.specs.declared.overlay.Placement.{Placement}

-- a grid and a fill by their four fields (document 02, A4)
unfoldable pub grid_by : ℕ → ℕ → ℕ → ℕ → GridDescriptor
grid_by rows columns width height = record { rows = rows; columns = columns; output_width = width; output_height = height }

unfoldable pub fill_by : ℕ → ℕ → ℕ → ℕ → Fill
fill_by red green blue alpha = record { red = red; green = green; blue = blue; alpha = alpha }

unfoldable pub grid_fields : GridDescriptor → List ℕ
grid_fields g = g.rows ∷ g.columns ∷ g.output_width ∷ g.output_height ∷ []

unfoldable pub grid_words : List ℕ → ℕ → Out (List ℕ)
grid_words s room = and_then (grid_of s) (λ g. fitted room (grid_fields g))

unfoldable pub overlay_fields : OverlayDescriptor → List ℕ
overlay_fields d =
    d.canvas_fill.red ∷ d.canvas_fill.green ∷ d.canvas_fill.blue ∷ d.canvas_fill.alpha
    ∷ d.output_width ∷ d.output_height ∷ []

unfoldable pub overlay_words : List ℕ → ℕ → ℕ → Out (List ℕ)
overlay_words s count room = and_then (overlay_of s count) (λ d. fitted room (overlay_fields d))

unfoldable pub offset_fields : Placement → List ℕ
offset_fields p = p.horizontal.ahead ∷ p.horizontal.behind ∷ p.vertical.ahead ∷ p.vertical.behind ∷ []

-- 11 an index outside
unfoldable pub offset_words : List ℕ → ℕ → ℕ → ℕ → Out (List ℕ)
offset_words s count i room =
    and_then (overlay_of s count) (λ d. refuse (leb count i) 11 (fitted room (offset_fields (placement_at s d i))))

-- all inputs in list order
unfoldable pub offsets_fields : List ℕ → OverlayDescriptor → ℕ → List ℕ
offsets_fields s d count = span (λ i. offset_fields (placement_at s d i)) 0 count

unfoldable pub offsets_words : List ℕ → ℕ → ℕ → Out (List ℕ)
offsets_words s count room = and_then (overlay_of s count) (λ d. fitted room (offsets_fields s d count))
