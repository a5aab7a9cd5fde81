-- What the writer draws is the redrawn picture, plane by plane.
use mathlib.Core.Bool.{true}
use mathlib.Core.List.{List, ◌++◌}
use mathlib.Core.Path.{◌≡◌}
use Prim.Native.Nat.{◌*◌, ◌<◌, ◌^◌, ◌≤◌, ℕ}
use native.Mathlib.Nat.{le_trans, mul_comm}
use native.Mathlib.Omega.{arith}
use lib.ListN.{length}
use Rattle.laws.proofs.Order.{mul-below}
use Rattle.laws.proofs.Span.{length-span-all}
use Rattle.planes.proofs.ByteLaws.{length-samples_of}
use Rattle.image.proofs.FormLaws.{bytes-few, columns-le, columns-some, height-le, rows-le, rows-some, width-le}
use Rattle.records.proofs.RecordLaws.{sample-inside}
use Rattle.planes.proofs.RoundTrip.{plane-some}
use Rattle.records.specs.Record.{data_of, plane_of}
use Rattle.planes.specs.Bytes.{decode, plane_bytes, plane_head, row_bytes, rows_bytes, samples_of}
use Rattle.image.specs.Format.{has_part}
use Rattle.records.specs.inner.Placed.{Sound}
use Rattle.image.specs.declared.format.Form.{Form}
use Rattle.image.specs.declared.format.Part.{Part}
use Rattle.records.specs.declared.record.Frame.{Frame}
use Rattle.records.specs.declared.record.Plane.{Plane}
use Rattle.sampling.proofs.FootLaws.{foot-in, past-in}
use Rattle.sampling.proofs.PlaceLaws.{near-in}
use Rattle.sampling.specs.Area.{foot_of, past_of}
use Rattle.sampling.specs.inner.Sums.{AreaFits, RowSumFits}
use Rattle.sampling.specs.inner.Redraw.{AxisFits, RasterFits, RedrawFits, RuleRowFits, RuleFits, across_of, down_of, raster_at, raster_bytes, raster_of, raster_row, redrawn, row_of, rule_at}
use Rattle.sampling.specs.declared.area.Foot.{Foot}
use Rattle.sampling.specs.declared.raster.Axis.{Axis}
use Rattle.sampling.specs.declared.raster.Raster.{Raster}
use Rattle.sampling.specs.declared.raster.RowRule.{RowRule}
use Rattle.sampling.specs.declared.raster.Rule.{Rule}

pub length-raster_row : (d : List ℕ) (r : Raster) (row : RowRule) → RasterFits d r → length (raster_row d r row) ≡ r.across.to * r.to_bytes
unfolding raster_row
length-raster_row d r row k = length-samples_of r.to_bytes (raster_at d r row) r.across.to k.to_positive k.to_bounded

pub length-raster_bytes : (d : List ℕ) (r : Raster) → RasterFits d r → length (raster_bytes d r) ≡ r.down.to * (r.across.to * r.to_bytes)
unfolding raster_bytes
length-raster_bytes d r k = length-span-all _ (r.across.to * r.to_bytes) r.down.to (λ y. length-raster_row d r _ k)

-- a row of a rule that fits
pub row_fits : (k : Rule) (across down : Axis) (y : ℕ) → RuleFits k across down → AxisFits down → y < down.to → RuleRowFits (row_of k down y) across down.from
unfolding RuleRowFits RuleFits row_of
row_fits (Rule.Near k) across down y f a h = near-in down.from down.to y a.positive h
row_fits Rule.Area across down y f a h = (f.0, foot-in down.from down.to y a.positive h, f.2)

-- the area of a row that fits
pub area-fits : (d : List ℕ) (r : Raster) (f : Foot) (x : ℕ) → RasterFits d r → RuleRowFits (RowRule.Area f) r.across r.down.from → x < r.across.to
    → AreaFits d r.bytes r.stride (foot_of r.across.from r.across.to x) f
unfolding RuleRowFits
area-fits d r f x k g h = record {
  columns = r.across.from;
  rows = r.down.from;
  positive = k.positive;
  bounded = k.bounded;
  wide = foot-in r.across.from r.across.to x k.across.positive h;
  tall = g.1;
  size = g.2;
  inside = k.inside;
}

one_of : (a b : ℕ) → 1 ≤ b → a ≤ a * b
one_of a b l = omega (arith, mul-below a b a 1 (omega arith) l)

-- neither footprint is longer than the longest side
pub area-ends : (d : List ℕ) (bytes stride : ℕ) (across down : Foot) → AreaFits d bytes stride across down → (across.end ≤ 2 ^ 38) × (down.end ≤ 2 ^ 38)
area-ends d bytes stride across down k =
    let a : 1 ≤ k.columns = omega (arith, k.wide.positive, k.wide.inside) in
    let b : 1 ≤ k.rows = omega (arith, k.tall.positive, k.tall.inside) in
    let m = one_of k.columns k.rows b in
    let n = one_of k.rows k.columns a in
    (omega (arith, m, k.size, k.wide.inside), omega (arith, n, mul_comm k.rows k.columns, k.size, k.tall.inside))

-- one row of it
pub row-sum-fits : (d : List ℕ) (bytes stride : ℕ) (across down : Foot) (y : ℕ) (k : AreaFits d bytes stride across down) → y < past_of down → RowSumFits d bytes stride across y
row-sum-fits d bytes stride across down y k h =
    let r : y < k.rows = past-in down k.rows y k.tall h in
    record {
      columns = k.columns;
      positive = k.positive;
      bounded = k.bounded;
      wide = k.wide;
      size = le_trans (one_of k.columns k.rows (omega arith)) k.size;
      inside = λ x l. k.inside x y l r;
    }

-- ---- a plane

module _ (s : List ℕ) (fr : Frame) (n : Form) (k : Rule) (p : Part) (has : has_part n.format p ≡ true) (ok : Sound s fr) (fits : RedrawFits fr.form n k) where
  abbrev q : Plane
  q = plane_of fr p

  abbrev r : Raster
  r = raster_of fr.form n q.stride p k

  there : has_part fr.form.format p ≡ true
  there = fits.parts p has

  pub plane-raster : RasterFits (data_of s q) r
  unfolding raster_of across_of down_of
  plane-raster =
      let a = bytes-few fr.form.format in
      let b = bytes-few n.format in
      record {
        positive = a.0;
        bounded = a.1;
        to_positive = b.0;
        to_bounded = b.1;
        across = record {
          positive = columns-some fr.form fits.old p;
          made = columns-some n fits.new p;
          old = le_trans (columns-le fr.form fits.old p) (width-le fr.form fits.old);
          new = le_trans (columns-le n fits.new p) (width-le n fits.new);
        };
        down = record {
          positive = rows-some fr.form fits.old p;
          made = rows-some n fits.new p;
          old = le_trans (rows-le fr.form fits.old p) (height-le fr.form fits.old);
          new = le_trans (rows-le n fits.new p) (height-le n fits.new);
        };
        inside = λ x y a b. sample-inside s fr.form p q (ok.planes p there) x y a b;
      }

  pub plane-rule : RuleFits k r.across r.down
  unfolding raster_of
  plane-rule = fits.rule p has

  -- the plane's bytes are its numbers and the raster's rows
  pub plane-drawn : plane_bytes (redrawn n k (decode s fr)) p ≡ plane_head n p ++ raster_bytes (data_of s q) r
  unfolding raster_bytes raster_row raster_at raster_of across_of down_of redrawn rule_at decode rows_bytes row_bytes samples_of
  plane-drawn = plane-some (redrawn n k (decode s fr)) p has

-- numbers that a caller worked out
pub record Worked (d d' : List ℕ) (r r' : Raster) : Type 0 where
  pub bits : d' ≡ d
  pub same : r' ≡ r

module _ {d d' : List ℕ} {r r' : Raster} (w : Worked d d' r r') where
  pub worked-fits : RasterFits d r → RasterFits d' r'
  worked-fits h = rw (w.bits, w.same) h

  pub worked-rule : RuleFits r.rule r.across r.down → RuleFits r'.rule r'.across r'.down
  worked-rule h = rw w.same h

  pub worked-bytes : raster_bytes d' r' ≡ raster_bytes d r
  worked-bytes = rw (w.bits, w.same)

  pub worked-size : r'.down.to * (r'.across.to * r'.to_bytes) ≡ r.down.to * (r.across.to * r.to_bytes)
  worked-size = rw w.same
