-- What the writer draws: a picture of another form whose samples a rule works out from another's, plane by plane.
use Rattle.std.specs.Prelude.{Bool, ◌&&◌, false, true, List, ◌≡◌, ◌%◌, ◌*◌, ◌+◌, ◌<◌, ◌^◌, ◌≤◌, ℕ, eqb, length, ⊤}
use Rattle.laws.specs.Span.{span}
use Rattle.planes.specs.Bytes.{sample_in, samples_of}
use Rattle.image.specs.Format.{bytes_of, columns_of, has_part, rows_of, has_size}
use Rattle.planes.specs.Picture.{Pic}
use Rattle.image.specs.Sound.{FormSound, SizeSound}
use Rattle.image.specs.declared.format.Form.{Form}
use Rattle.image.specs.declared.format.Part.{Part}
use Rattle.image.specs.declared.size.Size.{Size}
use Rattle.sampling.specs.Area.{area_mean, foot_of}
use Rattle.sampling.specs.inner.Sums.{FootIn}
use Rattle.sampling.specs.Depth.{level_of}
use Rattle.sampling.specs.Nearest.{near_place}
use Rattle.sampling.specs.declared.depth.Depths.{Depths}
use Rattle.sampling.specs.declared.raster.Axis.{Axis}
use Rattle.sampling.specs.declared.raster.Raster.{Raster}
use Rattle.sampling.specs.declared.raster.RowRule.{RowRule}
use Rattle.sampling.specs.declared.raster.Rule.{Rule}

-- what is fixed along row y, and then sample x of it
unfoldable pub row_of : Rule → Axis → ℕ → RowRule
row_of (Rule.Near k) down y = RowRule.Near (record { y = near_place down.from down.to y; depths = k })
row_of Rule.Area down y = RowRule.Area (foot_of down.from down.to y)

unfoldable pub row_at : RowRule → Axis → (ℕ → ℕ → ℕ) → ℕ → ℕ
row_at (RowRule.Near k) across v x = level_of k.depths.old k.depths.new (v (near_place across.from across.to x) k.y)
row_at (RowRule.Area f) across v x = area_mean (foot_of across.from across.to x) f v

unfoldable pub rule_at : Rule → Axis → Axis → (ℕ → ℕ → ℕ) → ℕ → ℕ → ℕ
rule_at r across down v x y = row_at (row_of r down y) across v x

-- a plane's own axes, between a form and another
unfoldable pub across_of : Form → Form → Part → Axis
across_of m n p = record { from = columns_of m p; to = columns_of n p }

unfoldable pub down_of : Form → Form → Part → Axis
down_of m n p = record { from = rows_of m p; to = rows_of n p }

unfoldable pub redrawn : Form → Rule → Pic → Pic
redrawn n r P = record { form = n; at = λ p x y. rule_at r (across_of P.form n p) (down_of P.form n p) (P.at p) x y }

-- ---- the same of one plane's bytes

unfoldable pub raster_of : Form → Form → ℕ → Part → Rule → Raster
raster_of m n stride p r = record {
  bytes = bytes_of m.format;
  stride = stride;
  to_bytes = bytes_of n.format;
  across = across_of m n p;
  down = down_of m n p;
  rule = r;
}

unfoldable pub raster_at : List ℕ → Raster → RowRule → ℕ → ℕ
raster_at d r row x = row_at row r.across (λ u v. sample_in d r.bytes r.stride u v) x

-- a row, and the rows
unfoldable pub raster_row : List ℕ → Raster → RowRule → List ℕ
raster_row d r row = samples_of r.to_bytes (raster_at d r row) r.across.to

unfoldable pub raster_bytes : List ℕ → Raster → List ℕ
raster_bytes d r = span (λ y. raster_row d r (row_of r.rule r.down y)) 0 r.down.to

-- whether the samples of a row stand so many samples apart, and are kept as they are
unfoldable pub has_steps : Raster → Depths → Bool
has_steps r k = (eqb k.old k.new && eqb r.bytes r.to_bytes) && eqb (r.across.from % r.across.to) 0

-- ---- what drawing asks

-- an axis with samples on both sides, and not more than a picture can have
pub record AxisFits (a : Axis) : Type 0 where
  pub positive : 1 ≤ a.from
  pub made : 1 ≤ a.to
  pub old : a.from ≤ 2 ^ 30
  pub new : a.to ≤ 2 ^ 30

-- an axis that footprints can be worked out along
pub record AreaAxis (a : Axis) : Type 0 where
  pub old : a.from ≤ 2 ^ 26
  pub new : a.to ≤ 2 ^ 26

-- what a rule asks of a plane's axes
unfoldable pub RuleFits : Rule → Axis → Axis → Type 0
RuleFits (Rule.Near k) across down = ⊤
RuleFits Rule.Area across down = AreaAxis across × AreaAxis down × (across.from * down.from ≤ 2 ^ 30)

unfoldable pub RuleRowFits : RowRule → Axis → ℕ → Type 0
RuleRowFits (RowRule.Near k) across rows = k.y < rows
RuleRowFits (RowRule.Area f) across rows = AreaAxis across × FootIn f rows × (across.from * rows ≤ 2 ^ 30)

pub record RasterFits (d : List ℕ) (r : Raster) : Type 0 where
  pub positive : 1 ≤ r.bytes
  pub bounded : r.bytes ≤ 2
  pub to_positive : 1 ≤ r.to_bytes
  pub to_bounded : r.to_bytes ≤ 2
  pub across : AxisFits r.across
  pub down : AxisFits r.down
  pub inside : (x y : ℕ) → x < r.across.from → y < r.down.from → y * r.stride + x * r.bytes + r.bytes ≤ length d

-- a form that a rule can draw of another
pub record RedrawFits (m n : Form) (r : Rule) : Type 0 where
  pub old : FormSound m
  pub new : FormSound n
  pub parts : (p : Part) → has_part n.format p ≡ true → has_part m.format p ≡ true
  pub rule : (p : Part) → has_part n.format p ≡ true → RuleFits r (across_of m n p) (down_of m n p)

-- a size that a picture of the form m can be scaled to, if it is not its own
pub record ScaleFits (m : Form) (z : Size) : Type 0 where
  pub sound : SizeSound z
  pub small : has_size m z.width z.height ≡ false → (m.width ≤ 2 ^ 26) × (m.height ≤ 2 ^ 26) × (z.width ≤ 2 ^ 26) × (z.height ≤ 2 ^ 26)
