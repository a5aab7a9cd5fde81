-- Rows by a table and rows by a fixed step are the rows that the rule draws.
use mathlib.Core.Bool.{Bool, true}
use mathlib.Core.List.{List}
use mathlib.Core.Path.{◌∙◌, ◌≡◌, ap, ap₂, subst, sym}
use Prim.Native.Nat.{◌%◌, ◌*◌, ◌+◌, ◌-◌, ◌/◌, ◌<◌, ◌^◌, ◌≤◌, ℕ}
use native.Mathlib.Nat.{div-add-mod, div-le_self, le_trans, mul_assoc, mul-div_cancel, mul-zero}
use native.Mathlib.Omega.{arith}
use lib.ListN.{length, set}
use lib.Pow.{pow_mono, pow_pos}
use lib.Seq.{get_or-set_other, get_or-set_same}
use borrow.Author.Tests.{eqb-true, le-ltb, lt-ltb}
use Rattle.laws.proofs.Order.{and-true, by_equal, by_order, mul-below, pick-false, pick_true}
use Rattle.laws.proofs.Span.{span-cong}
use Rattle.image.specs.Format.{top_at}
use Rattle.planes.proofs.ByteLaws.{length-samples_of}
use Rattle.planes.specs.Bytes.{sample_at, sample_bytes, sample_in, samples_of}
use Rattle.turns.specs.inner.Stepped.{SteppedFits, step_to, stepped}
use Rattle.sampling.proofs.DepthLaws.{depths-same, level-above}
use Rattle.sampling.proofs.PlaceLaws.{level-same, near-in, near_same}
use Rattle.sampling.specs.Depth.{level_of}
use Rattle.sampling.specs.Nearest.{near_place}
use Rattle.sampling.specs.declared.area.Foot.{Foot}
use Rattle.sampling.specs.declared.depth.Depths.{Depths}
use Rattle.sampling.specs.declared.raster.Axis.{Axis}
use Rattle.sampling.specs.declared.raster.NearRow.{NearRow}
use Rattle.sampling.specs.declared.raster.Raster.{Raster}
use Rattle.sampling.specs.declared.raster.RowRule.{RowRule}
use Rattle.sampling.specs.declared.raster.Rule.{Rule}
use Rattle.means.specs.inner.Columns.{MeansFits}
use Rattle.ten_to_eight.specs.inner.Table.{ten_to_eight_of}
use Rattle.rasters.specs.inner.Levels.{HasTable, Levels, look_of, looked_row}
use Rattle.sampling.specs.inner.Redraw.{RasterFits, RuleRowFits, has_steps, raster_at, raster_row, row_at, row_of}

-- ---- a table

look-level : (t : List ℕ) (k : Depths) (n top : ℕ) → (k.old ≡ k.new → ⊥) → Levels t k n → n ≡ top_at k.old + 1 → top ≡ top_at k.new → (v : ℕ) → look_of t n top v ≡ level_of k.old k.new v
unfolding look_of Levels
look-level t k n top h g e q v =
    by_order v n
    (λ l. pick_true _ _ _ (lt-ltb v n l) ∙ g v l)
    (λ l. pick-false _ _ _ (le-ltb v n l) ∙ q ∙ level-above k h v (omega (arith, l, e)))

pub looked-row : (d : List ℕ) (r : Raster) (k : Depths) (t : List ℕ) (n top y : ℕ) → RasterFits d r → HasTable r k → Levels t k n → n ≡ top_at k.old + 1 → top ≡ top_at k.new
    → looked_row d r t n top y ≡ raster_row d r (row_of (Rule.Near k) r.down y)
unfolding looked_row raster_row raster_at row_of row_at samples_of
looked-row d r k t n top y f h l e q =
    let z : near_place r.down.from r.down.to y ≡ y = ap (λ (m : ℕ). near_place m r.down.to y) h.down ∙ near_same r.down.to y f.down.made in
    span-cong _ _ 0 r.across.to (λ x a b.
    let w : near_place r.across.from r.across.to x ≡ x = ap (λ (m : ℕ). near_place m r.across.to x) h.across ∙ near_same r.across.to x f.across.made in
    ap (sample_bytes r.to_bytes)
    (look-level t k n top h.apart l e q _ ∙ ap₂ (λ (u v : ℕ). level_of k.old k.new (sample_in d r.bytes r.stride u v)) (sym w) (sym z)))

pub length-looked_row : (d : List ℕ) (r : Raster) (t : List ℕ) (n top y : ℕ) → RasterFits d r → length (looked_row d r t n top y) ≡ r.across.to * r.to_bytes
unfolding looked_row
length-looked_row d r t n top y f = length-samples_of r.to_bytes _ r.across.to f.to_positive f.to_bounded

-- ---- a fixed step

near-whole : (from to x : ℕ) → 1 ≤ to → from % to ≡ 0 → near_place from to x ≡ x * (from / to)
unfolding near_place
near-whole from to x o e =
    let d : from / to * to ≡ from = omega (arith, div-add-mod from to, e) in
    ap (λ (m : ℕ). x * m / to) (sym d) ∙ ap (λ (m : ℕ). m / to) (sym (mul_assoc x (from / to) to)) ∙ mul-div_cancel (x * (from / to)) o

-- a row of the nearest samples, each so many bytes ahead of the last
pub record Apart (d : List ℕ) (r : Raster) (k : NearRow) : Type 0 where
  pub bytes : r.bytes ≡ r.to_bytes
  pub fits : SteppedFits d r.bytes (k.y * r.stride) (r.across.from / r.across.to * r.bytes) 0 r.across.to
  pub row : stepped d r.bytes (k.y * r.stride) (r.across.from / r.across.to * r.bytes) 0 r.across.to ≡ raster_row d r (RowRule.Near k)

pub steps_apart : (d : List ℕ) (r : Raster) (k : NearRow) → length d < 2 ^ 64 → RasterFits d r → RuleRowFits (RowRule.Near k) r.across r.down.from → has_steps r k.depths ≡ true → Apart d r k
unfolding has_steps RuleRowFits stepped step_to raster_row raster_at row_at sample_in samples_of
steps_apart d r k w f g h =
    let a = and-true _ _ h in
    let b = and-true _ _ a.0 in
    let same : k.depths.old ≡ k.depths.new = eqb-true _ _ b.0 in
    let whole : r.across.from % r.across.to ≡ 0 = eqb-true _ _ a.1 in
    let q : ℕ = r.across.from / r.across.to in
    let place : (x : ℕ) → x * (q * r.bytes) ≡ x * q * r.bytes = λ x. sym (mul_assoc x q r.bytes) in
    let inside : (x : ℕ) → x < r.across.to → k.y * r.stride + x * (q * r.bytes) + r.bytes ≤ length d =
    λ x l. rw (place x, ← near-whole r.across.from r.across.to x f.across.made whole) (f.inside _ k.y (near-in r.across.from r.across.to x f.across.positive l) g) in
    record {
      bytes = eqb-true _ _ b.1;
      fits = record {
        positive = f.positive;
        bounded = f.bounded;
        small = λ x l. omega (arith, inside x l, w, f.positive);
        behind = λ x l. omega (arith, mul-zero x);
        inside = λ x l. omega (arith, inside x l, mul-zero x);
      };
      row =
          span-cong _ _ 0 r.across.to (λ x a l.
          ap₂ sample_bytes (eqb-true _ _ b.1)
          (ap (sample_at d r.bytes) (go x (q * r.bytes) (k.y * r.stride) ∙ ap (λ (m : ℕ). k.y * r.stride + m) (place x)
          ∙ ap (λ (u : ℕ). k.y * r.stride + u * r.bytes) (sym (near-whole r.across.from r.across.to x f.across.made whole)))
          ∙ kept k.depths same _));
    }
  where
    kept : (z : Depths) → z.old ≡ z.new → (v : ℕ) → v ≡ level_of z.old z.new v
    kept z e v = sym (ap (λ (n : ℕ). level_of z.old n v) (sym e) ∙ level-same z.old v)

    go : (x step from : ℕ) → from + x * step - x * 0 ≡ from + x * step
    go x step from = omega (arith, mul-zero x)

-- ---- the table, entry by entry

pub none_below : (u : ℕ) → u < 0 → ⊥
none_below u l = omega arith

pub levels-more : (t : List ℕ) (k : Depths) (v x : ℕ) → Levels t k v → v < length t → x ≡ level_of k.old k.new v → Levels (set t v x) k (v + 1)
unfolding Levels
levels-more t k v x g l e u h =
    by_equal u v
    (λ q. rw q (get_or-set_same t v x 0 l ∙ e))
    (λ q. get_or-set_other t v u x 0 q ∙ g u (omega (arith, h, ne-lt u v q h)))
  where
    ne-lt : (u v : ℕ) → (u ≡ v → ⊥) → u < v + 1 → u < v
    ne-lt u v q h = by_order u v (λ l. l) (λ l. absurd (q (omega (arith, h, l))))

pub levels-all : (t : List ℕ) (k : Depths) (v n : ℕ) → Levels t k v → n ≤ v → Levels t k n
unfolding Levels
levels-all t k v n g l u h = g u (omega (arith, h, l))

-- ---- a row, sample by sample

abbrev pub looked_item : List ℕ → ℕ → ℕ → ℕ → List ℕ → ℕ → ℕ → ℕ → ℕ → List ℕ
looked_item d bytes stride to t n top y x = sample_bytes to (look_of t n top (sample_in d bytes stride x y))

pub looked-inside : (d : List ℕ) (r : Raster) (x y : ℕ) → RasterFits d r → r.across.from ≡ r.across.to → y < r.down.from → x < r.across.to → (1 ≤ r.bytes) × (r.bytes ≤ 2) × (y * r.stride + x * r.bytes + r.bytes ≤ length d)
looked-inside d r x y f e h l = (f.positive, f.bounded, f.inside x y (omega (arith, e, l)) h)

-- the rule for planes that go from depth 10 to 8
pub ten-rule : (k : Depths) (rule : Rule) → rule ≡ Rule.Near k → k.old ≡ 10 → k.new ≡ 8 → rule ≡ Rule.Near ten_to_eight_of
ten-rule k rule e a b = e ∙ ap Rule.Near (depths-same k ten_to_eight_of a b)

-- ---- the rows

pub table-small : (k : Depths) → k.old ≤ 12 → top_at k.old + 1 ≤ 4096
table-small k h = omega (arith, pow_mono h, pow_pos k.old)

pub near-row : (k : NearRow) (row : RowRule) (across : Axis) (rows : ℕ) → row ≡ RowRule.Near k → RuleRowFits row across rows → RuleRowFits (RowRule.Near k) across rows
near-row k row across rows e f = subst (λ (z : RowRule). RuleRowFits z across rows) e f

-- the last sample of a row stands past its first, and past its step
pub apart-small : (d : List ℕ) (r : Raster) (k : NearRow) → Apart d r k → 1 ≤ r.across.to → k.y * r.stride + r.bytes ≤ length d
apart-small d r k a o = omega (arith, a.fits.inside 0 (omega (arith, o)))

pub apart-step : (r : Raster) → r.across.from ≤ 2 ^ 30 → r.bytes ≤ 2 → r.across.from / r.across.to * r.bytes < 2 ^ 64
apart-step r h b = omega (arith, mul-below (2 ^ 30) 2 (r.across.from / r.across.to) r.bytes (le_trans (div-le_self r.across.from r.across.to) h) b)

pub row_apart : (d : List ℕ) (r : Raster) (k : NearRow) (row : RowRule) (b : Bool) → length d < 2 ^ 64 → RasterFits d r → RuleRowFits row r.across r.down.from → row ≡ RowRule.Near k → b ≡ has_steps r k.depths → b ≡ true → Apart d r k
row_apart d r k row b w f g e h t = steps_apart d r k w f (near-row k row r.across r.down.from e g) (sym h ∙ t)

pub area-row : (f : Foot) (row : RowRule) (across : Axis) (rows : ℕ) → row ≡ RowRule.Area f → RuleRowFits row across rows → RuleRowFits (RowRule.Area f) across rows
area-row f row across rows e k = subst (λ (z : RowRule). RuleRowFits z across rows) e k

pub area-some : (f : Foot) (across : Axis) (rows : ℕ) → RuleRowFits (RowRule.Area f) across rows → f.start < f.end
unfolding RuleRowFits
area-some f across rows k = k.1.positive

pub area-means : (f : Foot) (row : RowRule) (r : Raster) → row ≡ RowRule.Area f → RuleRowFits row r.across r.down.from → f.end - f.start ≤ 65536 → MeansFits r f
unfolding RuleRowFits
area-means f row r e k short = let a = area-row f row r.across r.down.from e k in record { across = a.0; tall = a.1; size = a.2; short = short }
