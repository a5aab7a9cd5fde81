-- The runs in terms of the pictures that the writer draws.
use Rattle.std.specs.Prelude.{Ok, Err}
use mathlib.Core.Bool.{Bool, ◌&&◌, false, not, true}
use mathlib.Core.List.{List}
use mathlib.Core.Path.{◌∙◌, ◌≡◌, ap, ap₂, refl, sym}
use Prim.Native.Nat.{◌^◌, ◌≤◌, ℕ}
use native.Mathlib.Nat.{le_trans, mul-le-mul}
use lib.Dec.{eqb}
use borrow.Author.Tests.{eq-eqb, ltb-false, ne_eqb}
use Rattle.laws.proofs.Order.{apart, pick-false, pick_true, true-and}
use Rattle.laws.proofs.Out.{done-same, refuse-done, refuse-no, refuse-yes, then-done, then-refused}
use Rattle.laws.specs.Out.{fitted, reason}
use Rattle.laws.specs.Pick.{pick}
use Rattle.laws.specs.declared.Refusal.{Refusal}
use Rattle.image.proofs.FormLaws.{columns-le, columns-some, rows-le, rows-some}
use Rattle.records.proofs.RecordLaws.{whole-sound}
use Rattle.image.specs.Format.{columns_of, halves_x, halves_y, has_alpha, has_part, is_depth, is_mono, judged_size, rows_of, sized, has_size}
use Rattle.records.specs.Record.{record_of}
use Rattle.image.specs.Sound.{FormSound, SizeSound}
use Rattle.image.specs.declared.format.Form.{Form}
use Rattle.image.specs.declared.format.Part.{Part}
use Rattle.image.specs.declared.format.Part.TheVariants.{Alpha, Cb, Cr, Luma}
use Rattle.records.specs.declared.record.Frame.{Frame}
use Rattle.image.specs.declared.size.Size.{Size}
use Rattle.planes.proofs.RoundTrip.{drawn-as}
use Rattle.planes.specs.Bytes.{decode, encode}
use Rattle.planes.specs.Picture.{Agree, Pic}
use Rattle.sizes.proofs.ScaleLaws.{scale-sound}
use Rattle.sizes.specs.Scale.{changed, scale_of, within_of}
use Rattle.sizes.specs.declared.iscl.Iscl.{Iscl}
use Rattle.sampling.proofs.PlaceLaws.{level-same, near_same}
use Rattle.sampling.specs.Area.{area}
use Rattle.sampling.specs.Depth.{level_of, rescaled, to_depth}
use Rattle.sampling.specs.Nearest.{nearest}
use Rattle.resample.specs.Run.{area_bytes, depth_bytes, depth_run, iscl_run, nearest_bytes, nearest_run}
use Rattle.sampling.specs.declared.raster.Rule.{Rule}
use Rattle.sampling.specs.inner.Depths.{DepthsFit}
use Rattle.sampling.specs.inner.Redraw.{RedrawFits, RuleFits, ScaleFits, across_of, down_of, redrawn, row_at, row_of, rule_at}

-- the rule of another depth, or of the same
abbrev pub near_rule : (old new : ℕ) → DepthsFit old new → Rule
near_rule old new fit = Rule.Near (record { old = old; new = new; fit = fit })

-- ---- another depth

pub depth-agrees : (P : Pic) (depth : ℕ) (fit : DepthsFit P.form.format.depth depth) → FormSound P.form → Agree (redrawn (to_depth P.form depth) (near_rule P.form.format.depth depth fit) P) (rescaled P depth)
unfolding redrawn rescaled rule_at row_at row_of across_of down_of to_depth columns_of rows_of halves_x halves_y
depth-agrees P depth fit ok = record {
  form = refl;
  reads = λ p h x y a b. ap₂ (λ (u v : ℕ). level_of P.form.format.depth depth (P.at p u v)) (near_same _ x (columns-some P.form ok p)) (near_same _ y (rows-some P.form ok p));
}

pub depth-parts : (m : Form) (depth : ℕ) (p : Part) → has_part (to_depth m depth).format p ≡ true → has_part m.format p ≡ true
unfolding has_part is_mono has_alpha to_depth
depth-parts m depth Luma h = h
depth-parts m depth Cb h = h
depth-parts m depth Cr h = h
depth-parts m depth Alpha h = h

-- the depths of a form and of what it becomes
pub depths-fit : (m : Form) (depth : ℕ) → FormSound m → 8 ≤ depth → depth ≤ 16 → DepthsFit m.format.depth depth
depths-fit m depth ok l h = record { old_low = ok.low; old_high = ok.high; new_low = l; new_high = h }

pub depth-fits : (m : Form) (depth : ℕ) (fit : DepthsFit m.format.depth depth) → FormSound m → RedrawFits m (to_depth m depth) (near_rule m.format.depth depth fit)
unfolding RuleFits to_depth
depth-fits m depth fit ok = record {
  old = ok;
  new = record { chroma = ok.chroma; low = fit.new_low; high = fit.new_high; alpha = ok.alpha; wide = ok.wide; tall = ok.tall; area = ok.area };
  parts = depth-parts m depth;
  rule = λ p e. tt;
}

module _ (s : List ℕ) (fr : Frame) (taken : record_of s ≡ Ok fr) (depth room : ℕ) where
  pub depth-outside : not (is_depth depth) ≡ true → depth_run s depth room ≡ Err (reason 6)
  unfolding depth_run
  depth-outside h = then-done _ taken ∙ refuse-yes _ _ h

  pub depth_same : not (is_depth depth) ≡ false → depth ≡ fr.form.format.depth → depth_run s depth room ≡ fitted room s
  unfolding depth_run depth_bytes
  depth_same h e = then-done _ taken ∙ refuse-no _ _ h ∙ ap (fitted room) (pick_true _ _ _ (eq-eqb _ _ e))

  pub depth-drawn : (fit : DepthsFit fr.form.format.depth depth) → not (is_depth depth) ≡ false → (depth ≡ fr.form.format.depth → ⊥)
      → depth_run s depth room ≡ fitted room (encode (redrawn (to_depth fr.form depth) (near_rule fr.form.format.depth depth fit) (decode s fr)))
  unfolding depth_run depth_bytes decode
  depth-drawn fit h e =
      then-done _ taken ∙ refuse-no _ _ h ∙ ap (fitted room) (pick-false _ _ _ (ne_eqb _ _ e))
      ∙ drawn-as room _ _ (depth-agrees (decode s fr) depth fit (whole-sound s fr taken).0.form)

-- ---- another size

pub sized-sound : (m : Form) (z : Size) → FormSound m → SizeSound z → FormSound (sized m z.width z.height)
unfolding sized
sized-sound m z ok k = record { chroma = ok.chroma; low = ok.low; high = ok.high; alpha = ok.alpha; wide = k.wide; tall = k.tall; area = k.area }

sized-width : (m : Form) (z : Size) → z.width ≤ 2 ^ 26 → (sized m z.width z.height).width ≤ 2 ^ 26
unfolding sized
sized-width m z h = h

sized-height : (m : Form) (z : Size) → z.height ≤ 2 ^ 26 → (sized m z.width z.height).height ≤ 2 ^ 26
unfolding sized
sized-height m z h = h

sized-parts : (m : Form) (w h : ℕ) (p : Part) → has_part (sized m w h).format p ≡ true → has_part m.format p ≡ true
unfolding sized
sized-parts m w h p e = e

pub near-agrees : (P : Pic) (w h : ℕ) (fit : DepthsFit P.form.format.depth P.form.format.depth) → Agree (redrawn (sized P.form w h) (near_rule P.form.format.depth P.form.format.depth fit) P) (nearest P w h)
unfolding redrawn nearest rule_at row_at row_of across_of down_of
near-agrees P w h fit = record { form = refl; reads = λ p e x y a b. level-same P.form.format.depth _ }

pub near_fits : (m : Form) (z : Size) (fit : DepthsFit m.format.depth m.format.depth) → FormSound m → SizeSound z → RedrawFits m (sized m z.width z.height) (near_rule m.format.depth m.format.depth fit)
unfolding RuleFits
near_fits m z fit ok k = record {
  old = ok;
  new = sized-sound m z ok k;
  parts = sized-parts m z.width z.height;
  rule = λ p e. tt;
}

module _ (s : List ℕ) (fr : Frame) (taken : record_of s ≡ Ok fr) (w h room : ℕ) where
  pub nearest-refused : (e : Refusal) → judged_size w h ≡ Err e → nearest_run s w h room ≡ Err e
  unfolding nearest_run
  nearest-refused e q = then-done _ taken ∙ then-refused _ q

  pub nearest-same : (z : Size) → judged_size w h ≡ Ok z → has_size fr.form z.width z.height ≡ true → nearest_run s w h room ≡ fitted room s
  unfolding nearest_run nearest_bytes
  nearest-same z q e = then-done _ taken ∙ then-done _ q ∙ ap (fitted room) (pick_true _ _ _ e)

  pub nearest-drawn : (z : Size) (fit : DepthsFit fr.form.format.depth fr.form.format.depth) (n : Form) → n ≡ sized fr.form z.width z.height → judged_size w h ≡ Ok z → has_size fr.form z.width z.height ≡ false
      → nearest_run s w h room ≡ fitted room (encode (redrawn n (near_rule fr.form.format.depth fr.form.format.depth fit) (decode s fr)))
  unfolding nearest_run nearest_bytes decode
  nearest-drawn z fit n same q e =
      then-done _ taken ∙ then-done _ q ∙ ap (fitted room) (pick-false _ _ _ e)
      ∙ drawn-as room _ _ (near-agrees (decode s fr) z.width z.height fit)
      ∙ ap (λ (m : Form). fitted room (encode (redrawn m (near_rule fr.form.format.depth fr.form.format.depth fit) (decode s fr)))) (sym same)

-- ---- iscl

pub area-agrees : (P : Pic) (w h : ℕ) → Agree (redrawn (sized P.form w h) Rule.Area P) (area P w h)
unfolding redrawn area rule_at row_at row_of across_of down_of
area-agrees P w h = record { form = refl; reads = λ p e x y a b. refl }

-- a size that changed has sides of at most 2 ^ 26, before and after
within-small : (z x y : Size) → within_of z x ≡ Ok y → (z.width ≤ 2 ^ 26) × (z.height ≤ 2 ^ 26) × (y.width ≤ 2 ^ 26) × (y.height ≤ 2 ^ 26)
unfolding within_of
within-small z x y e =
    let a = refuse-done _ _ _ y e in
    let b = refuse-done _ _ _ y a.1 in
    let c = refuse-done _ _ _ y b.1 in
    let d = refuse-done _ _ _ y c.1 in
    let f = refuse-done _ _ _ y d.1 in
    rw (← done-same x y f.1) (ltb-false _ _ b.0, ltb-false _ _ c.0, ltb-false _ _ d.0, ltb-false _ _ f.0)

same-own : (m : Form) → has_size m m.width m.height ≡ true
unfolding has_size
same-own m = true-and _ _ (eq-eqb m.width m.width refl) (eq-eqb m.height m.height refl)

changed-small : (m : Form) (x y : Size) → changed (record { width = m.width; height = m.height }) x ≡ Ok y → has_size m y.width y.height ≡ false
    → (m.width ≤ 2 ^ 26) × (m.height ≤ 2 ^ 26) × (y.width ≤ 2 ^ 26) × (y.height ≤ 2 ^ 26)
unfolding changed
changed-small m x y e n = go (eqb x.width m.width && eqb x.height m.height) e
  where
    z : Size
    z = record { width = m.width; height = m.height }

    go : (b : Bool) → pick b (Ok z) (within_of z x) ≡ Ok y → (m.width ≤ 2 ^ 26) × (m.height ≤ 2 ^ 26) × (y.width ≤ 2 ^ 26) × (y.height ≤ 2 ^ 26)
    go true q =
        let i : z ≡ y = done-same z y (sym (pick_true true (Ok z) (within_of z x) refl) ∙ q) in
        let o : has_size m m.width m.height ≡ false = ap (λ (v : Size). has_size m v.width v.height) i ∙ n in
        let f : true ≡ false = sym (same-own m) ∙ o in
        apart (cc)
    go false q = within-small z x y (sym (pick-false false (Ok z) (within_of z x) refl) ∙ q)

pub scale_small : (k : Iscl) (m : Form) (y : Size) → scale_of k m.width m.height ≡ Ok y → has_size m y.width y.height ≡ false
    → (m.width ≤ 2 ^ 26) × (m.height ≤ 2 ^ 26) × (y.width ≤ 2 ^ 26) × (y.height ≤ 2 ^ 26)
unfolding scale_of
scale_small k m y e n =
    let a = refuse-done _ _ _ y e in
    let b = refuse-done _ _ _ y a.1 in
    let c = refuse-done _ _ _ y b.1 in
    let d = refuse-done _ _ _ y c.1 in
    let f = refuse-done _ _ _ y d.1 in
    let g = refuse-done _ _ _ y f.1 in
    changed-small m _ y g.1 n

-- the size that a picture has
pub own-sound : (m : Form) → FormSound m → SizeSound (record { width = m.width; height = m.height })
own-sound m ok = record { wide = ok.wide; tall = ok.tall; area = ok.area }

-- its footprints can be worked out, and their sums fit
pub area-rule : (m : Form) (z : Size) → FormSound m → SizeSound z → (m.width ≤ 2 ^ 26) × (m.height ≤ 2 ^ 26) × (z.width ≤ 2 ^ 26) × (z.height ≤ 2 ^ 26)
    → RedrawFits m (sized m z.width z.height) Rule.Area
unfolding RuleFits across_of down_of
area-rule m z ok k f =
    let n : FormSound (sized m z.width z.height) = sized-sound m z ok k in
    record {
      old = ok;
      new = n;
      parts = sized-parts m z.width z.height;
      rule = λ p e. (
        record { old = le_trans (columns-le m ok p) f.0; new = le_trans (columns-le (sized m z.width z.height) n p) (sized-width m z f.2) },
        record { old = le_trans (rows-le m ok p) f.1; new = le_trans (rows-le (sized m z.width z.height) n p) (sized-height m z f.3) },
        le_trans (mul-le-mul (columns-le m ok p) (rows-le m ok p)) ok.area,
      );
    }

module _ (s : List ℕ) (fr : Frame) (z : Size) (room : ℕ) where
  pub area-kept : has_size fr.form z.width z.height ≡ true → fitted room (area_bytes s fr z.width z.height) ≡ fitted room s
  unfolding area_bytes
  area-kept e = ap (fitted room) (pick_true _ _ _ e)

  pub area-drawn : has_size fr.form z.width z.height ≡ false
      → fitted room (area_bytes s fr z.width z.height) ≡ fitted room (encode (redrawn (sized fr.form z.width z.height) Rule.Area (decode s fr)))
  unfolding area_bytes decode
  area-drawn e = ap (fitted room) (pick-false _ _ _ e) ∙ drawn-as room _ _ (area-agrees (decode s fr) z.width z.height)

module _ (s : List ℕ) (fr : Frame) (taken : record_of s ≡ Ok fr) (k : Iscl) (room : ℕ) where
  pub iscl-refused : (e : Refusal) → scale_of k fr.form.width fr.form.height ≡ Err e → iscl_run s k room ≡ Err e
  unfolding iscl_run
  iscl-refused e q = then-done _ taken ∙ then-refused _ q

  -- a size that iscl gives can be scaled to
  pub iscl-fits : (z : Size) → scale_of k fr.form.width fr.form.height ≡ Ok z → ScaleFits fr.form z
  iscl-fits z q =
      let ok = (whole-sound s fr taken).0.form in
      record { sound = scale-sound k (record { width = fr.form.width; height = fr.form.height }) z (own-sound fr.form ok) q; small = λ e. scale_small k fr.form z q e }

  pub iscl-run : (z : Size) → scale_of k fr.form.width fr.form.height ≡ Ok z → iscl_run s k room ≡ fitted room (area_bytes s fr z.width z.height)
  unfolding iscl_run
  iscl-run z q = then-done _ taken ∙ then-done _ q
