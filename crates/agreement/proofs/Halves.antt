-- A point call as one run: the steps before the place, then the place.
use Rattle.laws.specs.declared.Item.TheVariants.{Record}
use Rattle.std.specs.Prelude.{Ok, Err}
use mathlib.Core.Bool.{Bool}
use mathlib.Core.List.{List}
use mathlib.Core.Path.{◌∙◌, ◌≡◌, ap, refl}
use Prim.Native.Nat.{ℕ}
use Rattle.laws.proofs.Out.{item-then}
use Rattle.laws.specs.Out.{Out, and_then, refuse_item}
use Rattle.numbers.specs.Number.{on_number, read_number}
use Rattle.props.specs.Chain.{chain_at}
use Rattle.props.specs.declared.entry.PropertyEntry.{PropertyEntry}
use Rattle.motions.specs.Place.{Place}
use Rattle.sight.specs.Sight.{sight_of}
use Rattle.tiles.specs.Tiles.{tiles_at}
use Rattle.inputs.specs.Inputs.{inputs_at}
use Rattle.point.specs.Point.{grid_look, grid_names, grid_point, look_on, overlay_look, overlay_names, overlay_point, point_from, see_through_frame}
use Rattle.point.specs.declared.Named.{Named}
use Rattle.point.specs.declared.Point.{Point}

-- a chain on a composed picture of that size, and a final place
unfoldable pub point_on : List PropertyEntry → Bool → ℕ → ℕ → ℕ → ℕ → (Place → Named) → Out Point
point_on es flag width height x y names = and_then (sight_of es flag width height) (λ s. point_from (record { sight = s; names = names }) x y)

-- ---- steps in turn

then-then : {A B C : Type 0} (o : Out A) (f : A → Out B) (g : B → Out C) (h : A → Out C) → ((a : A) → and_then (f a) g ≡ h a) → and_then (and_then o f) g ≡ and_then o h
unfolding and_then
then-then (Err r) f g h k = refl
then-then (Ok a) f g h k = k a

number-then : {B C : Type 0} (o : Out (ℕ × ℕ)) (f : ℕ → ℕ → Out B) (g : B → Out C) (h : ℕ → ℕ → Out C) → ((n at : ℕ) → and_then (f n at) g ≡ h n at) → and_then (on_number o f) g ≡ on_number o h
unfolding and_then on_number
number-then (Ok (n, at)) f g h k = k n at
number-then (Err r) f g h k = refl

look-point : (es : List PropertyEntry) (flag : Bool) (w h x y : ℕ) (names : Place → Named) → and_then (look_on es flag w h names) (λ k. point_from k x y) ≡ point_on es flag w h x y names
unfolding look_on point_on and_then
look-point es flag w h x y names = then-then (sight_of es flag w h) _ _ _ (λ s. refl)

-- ---- the calls

-- a grid's
abbrev pub grid_steps : List ℕ → List ℕ → List ℕ → Bool → ℕ → ℕ → Out Point
grid_steps body tray chain flag x y =
    on_number (read_number tray 0) (λ n at.
    and_then (chain_at chain 0) (λ es.
    and_then (tiles_at body tray n at) (λ t.
    point_on es flag t.desc.output_width t.desc.output_height x y (grid_names t))))

pub grid-steps : (body tray chain : List ℕ) (flag : Bool) (x y : ℕ) → grid_point body tray chain flag x y ≡ grid_steps body tray chain flag x y
unfolding grid_point grid_look
grid-steps body tray chain flag x y =
    number-then (read_number tray 0) _ _ _ (λ n at.
    then-then (chain_at chain 0) _ _ _ (λ es.
    then-then (tiles_at body tray n at) _ _ _ (λ t.
    look-point es flag _ _ x y (grid_names t))))

-- an overlay's
abbrev pub overlay_steps : List ℕ → List ℕ → List ℕ → Bool → List ℕ → ℕ → ℕ → Out Point
overlay_steps body tray chain flag list x y =
    on_number (read_number tray 0) (λ n at.
    and_then (chain_at chain 0) (λ es.
    and_then (inputs_at body tray list n at) (λ q.
    refuse_item Record see_through_frame 18 q.frames
    (point_on es flag q.descriptor.output_width q.descriptor.output_height x y (overlay_names body q)))))

pub overlay-steps : (body tray chain : List ℕ) (flag : Bool) (list : List ℕ) (x y : ℕ) → overlay_point body tray chain flag list x y ≡ overlay_steps body tray chain flag list x y
unfolding overlay_point overlay_look
overlay-steps body tray chain flag list x y =
    number-then (read_number tray 0) _ _ _ (λ n at.
    then-then (chain_at chain 0) _ _ _ (λ es.
    then-then (inputs_at body tray list n at) _ _ _ (λ q.
    item-then Record _ 18 _ _ _ ∙ ap (refuse_item Record see_through_frame 18 q.frames) (look-point es flag _ _ x y (overlay_names body q)))))
