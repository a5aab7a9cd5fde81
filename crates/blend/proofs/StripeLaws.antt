-- Samples of a stripe over one after the other, row after row.
use Rattle.std.specs.Prelude.{Ok, Err}
use mathlib.Core.Bool.{Bool, ◌&&◌, false, not, true, true≢false}
use mathlib.Core.List.{List}
use mathlib.Core.Path.{◌∙◌, ◌≡◌, ap, ap₂, refl, sym}
use Prim.Native.Nat.{◌%◌, ◌*◌, ◌+◌, ◌-◌, ◌/◌, ◌<◌, ◌≤◌, max, min, ℕ}
use native.Mathlib.Omega.{arith}
use lib.Dec.{eqb, ltb}
use lib.ListN.{get_or, length, set}
use lib.Seq.{get_or-set_other, get_or-set_same}
use borrow.Author.Tests.{eq-eqb, le-ltb, lt-ltb, ne_eqb}
use Rattle.laws.proofs.Order.{and_no, by_equal, by_order, by-test, pick-false, pick-le, pick_true, true-and, within, within-no, within-yes}
use Rattle.laws.specs.Any.{any}
use Rattle.laws.specs.Pick.{pick}
use Rattle.laws.specs.declared.Refusal.{Refusal}
use Rattle.image.proofs.FormLaws.{cover-in, width-le}
use Rattle.records.proofs.RecordLaws.{sample-inside}
use Rattle.image.specs.Format.{columns_of, half_x, half_y, has_part, rows_of}
use Rattle.records.specs.Record.{data_of, plane_of, record_at}
use Rattle.image.specs.declared.format.Part.{Part}
use Rattle.image.specs.declared.format.Part.TheVariants.{Alpha}
use Rattle.records.specs.declared.record.Frame.{Frame}
use Rattle.records.specs.declared.record.Plane.{Plane}
use Rattle.records.specs.inner.Frames.{frames_from}
use Rattle.records.specs.inner.Placed.{InSlice}
use Rattle.planes.specs.Bytes.{decode}
use Rattle.planes.specs.Picture.{full, pixel}
use Rattle.planes.specs.inner.Promoted.{promoted_in}
use Rattle.derived.specs.Overlay.{placement_at}
use Rattle.derived.specs.declared.overlay.OverlayDescriptor.{OverlayDescriptor}
use Rattle.derived.specs.declared.overlay.Placement.{Placement}
use Rattle.inputs.proofs.BlendLaws.{less_one}
use Rattle.inputs.proofs.FrameLaws.{from_next, from-refused, tall, wide}
use Rattle.inputs.specs.Layers.{Layer, layer_of, layers_of}
use Rattle.opaque.proofs.WindowLaws.{step_small}
use Rattle.opaque.specs.declared.axis.Stretch.{Stretch}
use Rattle.opaque.specs.inner.Window.{stretch_of}
use Rattle.blend.proofs.OverLaws.{over_at-held}
use Rattle.blend.proofs.ReachLaws.{line-in, line-out, line_small, row_last, row-mono, spot-inside, spot-step, stretch-covers, stretch-from}
use Rattle.blend.specs.Overlay.{alpha_of, base, covers, covers_at, over, over_all, over_at, sample_of, spot_at}
use Rattle.blend.specs.declared.over.Source.{Source}
use Rattle.blend.specs.declared.over.Stripe.{Stripe}
use Rattle.blend.specs.inner.Stripe.{Held, OverRowFits, StripeFits, across_at, alpha_in, down_at, layer_with, row_over}

-- ---- a range of a list

-- one more of the range stored
module _ (acc₀ acc : List ℕ) (k i v : ℕ) (g : ℕ → ℕ → ℕ) (room : k + i < length acc)
    (so_far : (j : ℕ) → get_or acc j 0 ≡ pick (within k i j) (g j (get_or acc₀ j 0)) (get_or acc₀ j 0))
    (next : v ≡ g (k + i) (get_or acc (k + i) 0)) where
  pub stored_more : (j : ℕ) → get_or (set acc (k + i) v) j 0 ≡ pick (within k (i + 1) j) (g j (get_or acc₀ j 0)) (get_or acc₀ j 0)
  stored_more j = by_equal j (k + i) here elsewhere
    where
      outside : k ≤ k + i → k + i < k + i → ⊥
      outside h l = omega arith

      old : get_or acc (k + i) 0 ≡ get_or acc₀ (k + i) 0
      old = so_far (k + i) ∙ pick-false _ _ _ (within-no k i (k + i) outside)

      here : j ≡ k + i → get_or (set acc (k + i) v) j 0 ≡ pick (within k (i + 1) j) (g j (get_or acc₀ j 0)) (get_or acc₀ j 0)
      here e =
          rw e (get_or-set_same acc (k + i) v 0 room ∙ next ∙ ap (g (k + i)) old
          ∙ sym (pick_true _ _ _ (within-yes k (i + 1) (k + i) (omega arith) (omega arith))))

      elsewhere : (j ≡ k + i → ⊥) → get_or (set acc (k + i) v) j 0 ≡ pick (within k (i + 1) j) (g j (get_or acc₀ j 0)) (get_or acc₀ j 0)
      elsewhere e =
          get_or-set_other acc (k + i) j v 0 e ∙ so_far j
          ∙ ap (λ (b : Bool). pick b (g j (get_or acc₀ j 0)) (get_or acc₀ j 0))
          (by_order j (k + i)
          (λ l. by_order j k (λ m. within-no k i j (λ a b. low m a) ∙ sym (within-no k (i + 1) j (λ a b. low m a))) (λ m. within-yes k i j m l ∙ sym (within-yes k (i + 1) j m (omega arith))))
          (λ l. within-no k i j (λ a b. high l b) ∙ sym (within-no k (i + 1) j (λ a b. past l b))))
        where
          low : j < k → k ≤ j → ⊥
          low m a = omega arith

          high : k + i ≤ j → j < k + i → ⊥
          high m a = omega arith

          past : k + i ≤ j → j < k + (i + 1) → ⊥
          past m b = e (omega arith)

-- ---- one input over a stripe

meet : (s j a k : ℕ) → s ≤ a → k ≤ a → a ≤ s + j → s + j - k ≡ a - k + (j - (a - s))
meet s j a k h l m = omega arith

more : (k i n : ℕ) → i < n → k + i < k + n
more k i n h = omega arith

some_more : (k i : ℕ) → k ≤ k + i
some_more k i = omega arith

back-again : (k i : ℕ) → k + i - k ≡ i
back-again k i = omega arith

max-right : (a b : ℕ) → b ≤ max a b
max-right a b = omega arith

module _ (tray : List ℕ) (fr : Frame) (place : Placement) (pm : Bool) (p : Part) (top : ℕ) (run : Stripe) (fits : StripeFits run) where
  abbrev layer : Layer
  layer = layer_with tray fr place pm

  abbrev source : Source
  source = record { format = fr.form.format; stride = (plane_of fr p).stride; alpha_stride = (plane_of fr Alpha).stride; part = p; premultiplied = pm; top = top }

  abbrev c : ℕ
  c = run.columns

  abbrev row_of : ℕ → ℕ
  row_of j = (run.start + j) / c

  abbrev column_of : ℕ → ℕ
  column_of j = (run.start + j) % c

  abbrev across : ℕ → Bool
  across j = covers fr.form.width place.horizontal (base run.half_across (column_of j))

  abbrev down : ℕ → Bool
  down r = covers fr.form.height place.vertical (base run.half_down r)

  abbrev after : ℕ → ℕ → ℕ
  after j v = over_at top p (across_at run j) (down_at run j) layer v

  -- a row's sample is the layer's
  row_is : (x y v : ℕ) → row_over (data_of tray (plane_of fr p)) (data_of tray (plane_of fr Alpha)) source (spot_at place.horizontal x) (spot_at place.vertical y) v
      ≡ over top p (sample_of layer p x y) (alpha_of top layer x y) pm v
  unfolding row_over alpha_in sample_of alpha_of full pixel promoted_in decode layer_with
  row_is x y v = refl

  after-out : (j v : ℕ) → (across j && down (row_of j)) ≡ false → after j v ≡ v
  unfolding over_at covers_at across_at down_at layer_with decode
  after-out j v e = pick-false _ _ _ e

  after-in : (j v : ℕ) → across j ≡ true → down (row_of j) ≡ true → after j v ≡ over top p (sample_of layer p (base run.half_across (column_of j)) (base run.half_down (row_of j))) (alpha_of top layer (base run.half_across (column_of j)) (base run.half_down (row_of j))) pm v
  unfolding over_at covers_at across_at down_at layer_with decode
  after-in j v e f = pick_true _ _ _ (true-and _ _ e f)

  after-left : (j v : ℕ) → across j ≡ false → after j v ≡ v
  after-left j v e = after-out j v (ap (λ (b : Bool). b && down (row_of j)) e)

  pub after-above : (j v : ℕ) → down (row_of j) ≡ false → after j v ≡ v
  after-above j v e = after-out j v (and_no (across j) e)

  -- ---- in row r

  module _ (r : ℕ) (shown : down r ≡ true) where
    abbrev from : ℕ
    from = (stretch_of run.half_across place.horizontal fr.form.width).from

    abbrev to : ℕ
    to = (stretch_of run.half_across place.horizontal fr.form.width).to

    abbrev A : ℕ
    A = max (r * c + from) run.start

    abbrev E : ℕ
    E = min (r * c + min to c) (run.start + run.count)

    inside : (j : ℕ) → j < run.count → row_of j ≡ r → across j ≡ true → (A ≤ run.start + j) × (run.start + j < E)
    inside j h e k =
        let s = stretch-from run.half_across place.horizontal fr.form.width (column_of j) k in
        line-in c run.start run.count from to r fits.wide j h e s.0 s.1

    outside : (j : ℕ) → A ≤ run.start + j → run.start + j < E → (row_of j ≡ r) × (across j ≡ true) × (column_of j ≡ run.start + j - r * c)
    outside j a e =
        let k = line-out c run.start run.count from to r fits.wide j a e in
        (k.0, stretch-covers run.half_across place.horizontal fr.form.width (column_of j) k.2 k.3, k.1)

    -- nothing of the row
    pub line-empty : E ≤ A → (j v : ℕ) → j < run.count → v ≡ pick (eqb (row_of j) r) (after j v) v
    line-empty l j v h =
        by_equal (row_of j) r
        (λ e. by-test (across j) (λ k. absurd (never (inside j h e k))) (λ k. sym (pick_true _ _ _ (eq-eqb (row_of j) r e) ∙ after-left j v k)))
        (λ e. sym (pick-false _ _ _ (ne_eqb (row_of j) r e)))
      where
        never : (A ≤ run.start + j) × (run.start + j < E) → ⊥
        never q = omega (arith, q.0, q.1)

    -- the part of it that the stripe has
    module _ (begins : r * c < run.start + run.count) (any : A < E) where
      first : covers fr.form.width place.horizontal (base run.half_across (A - r * c)) ≡ true
      first =
          let k = line_small c run.start run.count from to r fits.wide begins any in
          stretch-covers run.half_across place.horizontal fr.form.width (A - r * c) k.2 k.3

      abbrev spotted : ℕ → ℕ
      spotted j = spot_at place.horizontal (base run.half_across (A - r * c)) + (j - (A - run.start)) * pick run.half_across 2 1

      in-range : (j : ℕ) → A - run.start ≤ j → j < A - run.start + (E - A) → (A ≤ run.start + j) × (run.start + j < E)
      in-range j a b = (omega arith, omega arith)

      pub spotted-inside : (j : ℕ) → A - run.start ≤ j → j < A - run.start + (E - A) → (spotted j ≡ spot_at place.horizontal (base run.half_across (column_of j))) × (spotted j < fr.form.width)
      spotted-inside j a b =
          let q = in-range j a b in
          let o = outside j q.0 q.1 in
          let k = line_small c run.start run.count from to r fits.wide begins any in
          let z : A - r * c + (j - (A - run.start)) ≡ column_of j = sym (o.2 ∙ meet run.start j A (r * c) (max-right (r * c + from) run.start) k.0 q.0) in
          let s : spotted j ≡ spot_at place.horizontal (base run.half_across (column_of j)) = spot-step run.half_across fr.form.width place.horizontal (A - r * c) (j - (A - run.start)) first ∙ ap (λ (n : ℕ). spot_at place.horizontal (base run.half_across n)) z in
          (s, rw s (spot-inside fr.form.width place.horizontal _ o.1))

      abbrev rowed : ℕ → ℕ → ℕ
      rowed j v = row_over (data_of tray (plane_of fr p)) (data_of tray (plane_of fr Alpha)) source (spotted j) (spot_at place.vertical (base run.half_down r)) v

      pub line-over : (j v : ℕ) → j < run.count → pick (within (A - run.start) (E - A) j) (rowed j v) v ≡ pick (eqb (row_of j) r) (after j v) v
      line-over j v h = by_equal (row_of j) r here elsewhere
        where
          elsewhere : (row_of j ≡ r → ⊥) → pick (within (A - run.start) (E - A) j) (rowed j v) v ≡ pick (eqb (row_of j) r) (after j v) v
          elsewhere e =
              pick-false _ _ _ (within-no _ _ j (λ a b. let q = in-range j a b in e (outside j q.0 q.1).0))
              ∙ sym (pick-false _ _ _ (ne_eqb (row_of j) r e))

          missed : across j ≡ false → A - run.start ≤ j → j < A - run.start + (E - A) → ⊥
          missed k a b = let q = in-range j a b in true≢false (sym (outside j q.0 q.1).1 ∙ k)

          hit : row_of j ≡ r → across j ≡ true → rowed j v ≡ after j v
          hit e k =
              let i = inside j h e k in
              let s = spotted-inside j (omega (arith, i.0)) (omega (arith, i.0, i.1)) in
              ap₂ (λ (x y : ℕ). row_over (data_of tray (plane_of fr p)) (data_of tray (plane_of fr Alpha)) source x (spot_at place.vertical (base run.half_down y)) v) s.0 (sym e)
              ∙ row_is _ _ v ∙ sym (after-in j v k (ap down e ∙ shown))

          here : row_of j ≡ r → pick (within (A - run.start) (E - A) j) (rowed j v) v ≡ pick (eqb (row_of j) r) (after j v) v
          here e =
              by-test (across j)
              (λ k. let i = inside j h e k in pick_true _ _ _ (within-yes _ _ j (omega (arith, i.0)) (omega (arith, i.0, i.1))) ∙ hit e k ∙ sym (pick_true _ _ _ (eq-eqb (row_of j) r e)))
              (λ k. pick-false _ _ _ (within-no _ _ j (missed k)) ∙ sym (pick_true _ _ _ (eq-eqb (row_of j) r e) ∙ after-left j v k))

  -- ---- the call that lays a row, by the numbers that it is handed

  module _ (r : ℕ) (shown : down r ≡ true) (begins : r * c < run.start + run.count) (q : Stretch) (m a e : ℕ)
      (eq : q ≡ stretch_of run.half_across place.horizontal fr.form.width) (em : m ≡ min q.to c) (ea : a ≡ max (r * c + q.from) run.start) (ee : e ≡ min (r * c + m) (run.start + run.count)) where
    a-is : a ≡ A r shown
    a-is = ea ∙ ap (λ (k : Stretch). max (r * c + k.from) run.start) eq

    e-is : e ≡ E r shown
    e-is = ee ∙ ap (λ (k : ℕ). min (r * c + k) (run.start + run.count)) (em ∙ ap (λ (k : Stretch). min k.to c) eq)

    pub call_none : e ≤ a → (j v : ℕ) → j < run.count → v ≡ pick (eqb (row_of j) r) (after j v) v
    call_none l j v h = line-empty r shown (rw (a-is, e-is) at l) j v h

    pub call-bounds : a < e → (r * c ≤ a) × (a - r * c < c) × (run.start ≤ a) × (e ≤ run.start + run.count)
    call-bounds l =
        let k = line_small c run.start run.count (from r shown) (to r shown) r fits.wide begins (rw (a-is, e-is) at l) in
        (rw a-is k.0, rw a-is k.1, omega arith, omega arith)

    module _ (l : a < e) (pd ad : List ℕ) (qp qa : Plane) (x1 x y1 y st : ℕ) (eqp : qp ≡ plane_of fr p) (eqa : qa ≡ plane_of fr Alpha) (epd : pd ≡ data_of tray qp) (ead : ad ≡ data_of tray qa)
        (ex1 : x1 ≡ base run.half_across (a - r * c)) (ex : x ≡ spot_at place.horizontal x1) (ey1 : y1 ≡ base run.half_down r) (ey : y ≡ spot_at place.vertical y1) (est : st ≡ pick run.half_across 2 1) where
      abbrev handed : Source
      handed = record { format = fr.form.format; stride = qp.stride; alpha_stride = qa.stride; part = p; premultiplied = pm; top = top }

      less : A r shown < E r shown
      less = rw (a-is, e-is) at l

      x-is : x ≡ spot_at place.horizontal (base run.half_across (A r shown - r * c))
      x-is = ex ∙ ap (spot_at place.horizontal) (ex1 ∙ ap (λ (k : ℕ). base run.half_across (k - r * c)) a-is)

      y-is : y ≡ spot_at place.vertical (base run.half_down r)
      y-is = ey ∙ ap (spot_at place.vertical) ey1

      y-in : y < fr.form.height
      y-in = rw y-is (spot-inside fr.form.height place.vertical _ shown)

      step_in : (i : ℕ) → i < e - a → x + i * st < fr.form.width
      step_in i h =
          let k : A r shown - run.start + i - (A r shown - run.start) ≡ i = back-again (A r shown - run.start) i in
          let s = spotted-inside r shown begins less (A r shown - run.start + i) (some_more _ i) (more (A r shown - run.start) i (E r shown - A r shown) (rw (a-is, e-is) at h)) in
          rw (x-is, est) (rw k at s.1)

      pub call-over : (j v : ℕ) → j < run.count → pick (within (a - run.start) (e - a) j) (row_over pd ad handed (x + (j - (a - run.start)) * st) y v) v ≡ pick (eqb (row_of j) r) (after j v) v
      call-over j v h = rw (epd, ead, eqp, eqa, x-is, y-is, est, a-is, e-is) (line-over r shown begins less j v h)

      pub call_fits : (acc : List ℕ) → run.count ≤ length acc → InSlice tray fr → 1 ≤ top → Held top acc run.count → OverRowFits acc pd ad handed (a - run.start) (e - a) x st y
      unfolding columns_of rows_of has_part
      call_fits acc room k any low = record {
        positive = any;
        bounded = omega (arith, call-bounds l);
        held = λ i h. low _ (omega (arith, call-bounds l));
        small =
            let w = width-le fr.form k.sound.form in
            let b = step_small run.half_across (e - a) in
            let z : (e - a) * st ≡ (e - a) * pick run.half_across 2 1 = ap (λ (n : ℕ). (e - a) * n) est in
            let o = step_in 0 (omega arith) in
            let u : 0 * st ≡ 0 = omega arith in
            omega (arith, fits.ends, call-bounds l);
        inside = λ i h. record {
          low = k.sound.form.low;
          high = k.sound.form.high;
          inside = λ has. rw (epd, eqp) (sample-inside tray fr.form p (plane_of fr p) (k.sound.planes p has) _ _ (cover-in (half_x fr.form.format p) (x + i * st) fr.form.width (step_in i h)) (cover-in (half_y fr.form.format p) y fr.form.height y-in));
        };
        alphas = λ i h has. rw (ead, eqa) (sample-inside tray fr.form Alpha (plane_of fr Alpha) (k.sound.planes Alpha has) (x + i * st) y (wide tray fr (x + i * st) (step_in i h)) (tall tray fr y y-in));
      }

  -- ---- row after row

  abbrev high : ℕ
  high = (stretch_of run.half_down place.vertical fr.form.height).from

  abbrev deep : ℕ
  deep = (stretch_of run.half_down place.vertical fr.form.height).to

  hidden : (r : ℕ) → (high ≤ r → r < deep → ⊥) → down r ≡ false
  hidden r f = by-test (down r) (λ e. let s = stretch-from run.half_down place.vertical fr.form.height r e in absurd (f s.0 s.1)) (λ e. e)

  pub rows-begin : (j v r : ℕ) → r ≡ max high (run.start / c) → v ≡ pick (ltb (row_of j) r) (after j v) v
  rows-begin j v r e =
      by_order (row_of j) r
      (λ l. sym (pick_true _ _ _ (lt-ltb _ _ l) ∙ after-above j v (hidden (row_of j) (λ a b. before l a))))
      (λ l. sym (pick-false _ _ _ (le-ltb _ _ l)))
    where
      before : row_of j < r → high ≤ row_of j → ⊥
      before l a = omega (arith, row-mono run.start (run.start + j) c fits.wide (omega arith))

  pub rows_more : (j v w w' r : ℕ) → w ≡ pick (ltb (row_of j) r) (after j v) v → w' ≡ pick (eqb (row_of j) r) (after j w) w → w' ≡ pick (ltb (row_of j) (r + 1)) (after j v) v
  rows_more j v w w' r e f =
      by_order (row_of j) r
      (λ l. f ∙ pick-false _ _ _ (ne_eqb (row_of j) r (λ q. differ l q)) ∙ e ∙ pick_true _ _ _ (lt-ltb (row_of j) r l) ∙ sym (pick_true _ _ _ (lt-ltb (row_of j) (r + 1) (omega arith))))
      (λ l.
      let g : w ≡ v = e ∙ pick-false _ _ _ (le-ltb (row_of j) r l) in
      by_equal (row_of j) r
      (λ q. f ∙ pick_true _ _ _ (eq-eqb (row_of j) r q) ∙ ap (after j) g ∙ sym (pick_true _ _ _ (lt-ltb (row_of j) (r + 1) (omega arith))))
      (λ q. f ∙ pick-false _ _ _ (ne_eqb (row_of j) r q) ∙ g ∙ sym (pick-false _ _ _ (le-ltb (row_of j) (r + 1) (above l q)))))
    where
      differ : row_of j < r → row_of j ≡ r → ⊥
      differ l q = omega arith

      above : r ≤ row_of j → (row_of j ≡ r → ⊥) → r + 1 ≤ row_of j
      above l q = omega arith

  pub rows_end : (j v r : ℕ) → j < run.count → min deep ((run.start + run.count + c - 1) / c) ≤ r → pick (ltb (row_of j) r) (after j v) v ≡ after j v
  rows_end j v r h l =
      by_order (row_of j) r (λ m. pick_true _ _ _ (lt-ltb _ _ m))
      (λ m. pick-false _ _ _ (le-ltb _ _ m) ∙ sym (after-above j v (hidden (row_of j) (λ a b. beyond m b))))
    where
      beyond : r ≤ row_of j → row_of j < deep → ⊥
      beyond m b = omega (arith, row_last (run.start + j) (run.start + run.count) c fits.wide (omega arith))

  -- what a stripe holds while its rows are laid is at most top times top
  pub rows-held : (j v w r : ℕ) → 1 ≤ top → w ≡ pick (ltb (row_of j) r) (after j v) v → v ≤ top * top → w ≤ top * top
  rows-held j v w r any e h = rw e (pick-le _ _ _ _ (over_at-held top p _ _ layer v h any) h)

  pub row-shown : (r : ℕ) → high ≤ r → r < deep → down r ≡ true
  row-shown r a b = stretch-covers run.half_down place.vertical fr.form.height r a b

-- ---- all inputs

module _ (top : ℕ) (p : Part) (x y : ℕ) (body tray list : List ℕ) (d : OverlayDescriptor) where
  pub all-refused : (n at i v : ℕ) (r : Refusal) → record_at tray at ≡ Err r → over_all top p x y (layers_of body tray list d i (frames_from n tray at)) v ≡ v
  unfolding over_all layers_of
  all-refused n at i v r e = rw (from-refused n tray at r e)

  pub all_none : (n at i v : ℕ) → n ≤ 0 → over_all top p x y (layers_of body tray list d i (frames_from n tray at)) v ≡ v
  unfolding over_all layers_of frames_from
  all_none n at i v h = let e : n ≡ 0 = omega arith in rw e

  pub all-next : (n at i v w : ℕ) (fr : Frame) → 0 < n → record_at tray at ≡ Ok fr → w ≡ over_at top p x y (layer_of body tray list d i fr) v
      → over_all top p x y (layers_of body tray list d i (frames_from n tray at)) v ≡ over_all top p x y (layers_of body tray list d (i + 1) (frames_from (n - 1) tray fr.end)) w
  unfolding over_all layers_of
  all-next n at i v w fr h e k = rw (from_next n tray at fr h e, k)

  pub all-over : (n at i v w : ℕ) (fr : Frame) (o : Placement) (m : Bool) → i < n → record_at tray at ≡ Ok fr → o ≡ placement_at body d i → m ≡ not (eqb (get_or list i 0) 0)
      → w ≡ over_at top p x y (layer_with tray fr o m) v
      → over_all top p x y (layers_of body tray list d i (frames_from (n - i) tray at)) v ≡ over_all top p x y (layers_of body tray list d (i + 1) (frames_from (n - (i + 1)) tray fr.end)) w
  unfolding layer_of layer_with
  all-over n at i v w fr o m h e g b k =
      all-next (n - i) at i v w fr (omega arith) e (k ∙ ap₂ (λ (a : Placement) (c : Bool). over_at top p x y (record { pic = decode tray fr; placement = a; premultiplied = c }) v) g b)
      ∙ ap (λ (q : ℕ). over_all top p x y (layers_of body tray list d (i + 1) (frames_from q tray fr.end)) w) (less_one n i)
