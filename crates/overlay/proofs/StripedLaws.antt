-- Laws of stripes: stored in a canvas's record, they are its picture's next samples.
use Rattle.std.specs.Prelude.{Option}
use mathlib.Core.Bool.{false, true}
use mathlib.Core.List.{List, ◌++◌}
use mathlib.Core.Path.{◌∙◌, ◌≡◌, ap, ap₂, refl, sym}
use Prim.Native.Nat.{◌%◌, ◌*◌, ◌+◌, ◌-◌, ◌/◌, ◌<◌, ◌^◌, ◌≤◌, ℕ}
use native.Mathlib.Nat.{add-mul, mul_assoc, mul_comm, mul-le-mul_right}
use native.Mathlib.Omega.{arith}
use lib.Arith.{digits_div, digits_mod}
use lib.Dec.{ltb}
use lib.ListN.{drop, get_or, length, set}
use lib.Seq.{get_or-set_other, get_or-set_same}
use borrow.Author.Tests.{le-ltb, lt-ltb}
use Rattle.laws.proofs.Order.{by_equal, by_order, by-test, item-within, mul-below, pick-both, pick-false, pick_true, within, within-no, within-yes}
use Rattle.laws.proofs.Puts.{length-puts, puts-start}
use Rattle.laws.specs.Pick.{pick}
use Rattle.laws.specs.Puts.{puts}
use Rattle.laws.specs.Span.{span}
use Rattle.image.proofs.FormLaws.{bytes-few, top-some, width-le}
use Rattle.image.specs.Format.{bytes_of, columns_of, half_x, half_y, halved, has_part, row_size, rows_of, side_of, top_of}
use Rattle.records.specs.Record.{plane_of}
use Rattle.image.specs.declared.format.Form.{Form}
use Rattle.image.specs.declared.format.Part.{Part}
use Rattle.image.specs.declared.format.Part.TheVariants.{Alpha, Cb, Cr, Luma}
use Rattle.records.specs.declared.record.Plane.{Plane}
use Rattle.planes.proofs.ByteLaws.{length-samples_of, samples-same}
use Rattle.planes.proofs.RoundTrip.{encode-agree, length-encode, length-rows_bytes}
use Rattle.planes.specs.Bytes.{encode, head_bytes, row_bytes, rows_bytes, samples_of, size_of, tight_at}
use Rattle.planes.specs.Picture.{Agree, Pic}
use Rattle.paste.proofs.HeadedLaws.{after_part, before_part, headed-split, length_before, on_part, on_part-here, on_part-other, on_part-split, part_end, part-start, part_number, same_part}
use Rattle.paste.proofs.RectLaws.{on_part-rows}
use Rattle.paste.proofs.StoreLaws.{puts-inside, samples-patch}
use Rattle.paste.specs.Stored.{headed}
use Rattle.paste.specs.inner.Even.{by_part, flat_pic}
use Rattle.inputs.specs.Layers.{Layer}
use Rattle.inputs.specs.declared.read.Plan.{Plan}
use Rattle.blend.proofs.OverLaws.{opaque-stays, unpremultiply-opaque}
use Rattle.blend.proofs.ReachLaws.{row-column}
use Rattle.blend.specs.Overlay.{backdrop, base, final_sample, over_all, overlay_pic, place_at, unpremultiply}
use Rattle.blend.specs.declared.over.Stripe.{Stripe}
use Rattle.blend.specs.inner.Stripe.{StripeFits, across_at, down_at}
use Rattle.blocks.proofs.ListLaws.{list-missed}
use Rattle.blocks.specs.declared.list.Entry.{Entry}
use Rattle.blocks.specs.inner.Listed.{AllMissed, Whole}
use Rattle.overlay.proofs.CoveredLaws.{unchanged}
use Rattle.overlay.proofs.FlatLaws.{flat_rows}
use Rattle.overlay.proofs.OpaqueLaws.{flat-encode}
use Rattle.overlay.specs.declared.draw.Backdrop.{Backdrop}
use Rattle.overlay.specs.inner.Block.{backdrop_fill, layers_at}
use Rattle.overlay.specs.inner.Striped.{CanvasReady, Continued, RunReady, StripeReady, alpha_stripe, colour_at, colour_stripe, drawn_to, store_run}

-- ---- a run of samples stored in a plane

module _ (P : Pic) (p : Part) (has : has_part P.form.format p ≡ true) (s n : ℕ) (f : ℕ → ℕ) (some : 1 ≤ columns_of P.form p) (room : s + n ≤ rows_of P.form p * columns_of P.form p) where
  abbrev c : ℕ
  c = columns_of P.form p

  abbrev bytes : ℕ
  bytes = bytes_of P.form.format

  few : (1 ≤ bytes) × (bytes ≤ 2)
  few = bytes-few P.form.format

  -- the samples f from the s-th on, row after row
  abbrev pub run_at : ℕ → ℕ → ℕ
  run_at x y = pick (within s n (y * c + x)) (f (y * c + x - s)) (P.at p x y)

  flat : (g : ℕ → ℕ → ℕ) → span (λ y. samples_of bytes (λ x. g x y) c) 0 (rows_of P.form p) ≡ samples_of bytes (λ q. g (q % c) (q / c)) (rows_of P.form p * c)
  unfolding samples_of
  flat g = flat_rows bytes g c (rows_of P.form p) some

  rows_run : puts (rows_bytes P p) (s * bytes) (samples_of bytes f n) ≡ rows_bytes (on_part P p run_at) p
  unfolding rows_bytes row_bytes
  rows_run =
      ap (λ (d : List ℕ). puts d (s * bytes) (samples_of bytes f n)) (flat (P.at p))
      ∙ samples-patch bytes (λ q. P.at p (q % c) (q / c)) f (rows_of P.form p * c) s n few.0 few.1 room
      ∙ samples-same bytes _ _ (rows_of P.form p * c) (λ q l. let e : q / c * c + q % c ≡ q = sym (row-column q c some).0 in rw e refl)
      ∙ sym (flat run_at) ∙ sym (on_part-rows P p run_at)

  long : length (samples_of bytes f n) ≡ n * bytes
  long = length-samples_of bytes f n few.0 few.1

  within-rows : s * bytes + n * bytes ≤ rows_of P.form p * row_size P.form p
  unfolding row_size
  within-rows = omega (arith, add-mul s n bytes, mul-le-mul_right bytes room, mul_assoc (rows_of P.form p) c bytes)

  -- STORED IN A PART'S ROWS, A RUN IS THE PICTURE'S
  run-pasted : (h rest : List ℕ) → length h ≡ length (head_bytes P.form)
      → puts (headed h P ++ rest) ((plane_of (tight_at P.form 0) p).start + s * bytes) (samples_of bytes f n) ≡ headed h (on_part P p run_at) ++ rest
  run-pasted h rest e =
      ap₂ (λ (d : List ℕ) (i : ℕ). puts d (i + s * bytes) (samples_of bytes f n)) (headed-split h P p rest has) (part-start P.form p has ∙ sym (length_before h P p e))
      ∙ puts-inside (before_part h P p) (rows_bytes P p) (after_part P p ++ rest) (samples_of bytes f n) (s * bytes) (omega (arith, within-rows, long, length-rows_bytes P p))
      ∙ ap (λ (r : List ℕ). before_part h P p ++ (r ++ (after_part P p ++ rest))) rows_run
      ∙ sym (on_part-split h P p _ rest has)

-- ---- a stripe of a canvas that is not halved

module _ (m : Form) (whole : (p : Part) → (half_x m.format p ≡ false) × (half_y m.format p ≡ false)) where
  pub whole-columns : (p : Part) → columns_of m p ≡ m.width
  unfolding columns_of side_of halved
  whole-columns p = rw (whole p).0 refl

  pub whole-rows : (p : Part) → rows_of m p ≡ m.height
  unfolding rows_of side_of halved
  whole-rows p = rw (whole p).1 refl

  -- the picture with a run of a plane, if it has it
  unfoldable run_pic : Part → ℕ → ℕ → (ℕ → ℕ) → Pic → Pic
  run_pic p s n f P = pick (has_part m.format p) (on_part P p (λ x y. pick (within s n (y * m.width + x)) (f (y * m.width + x - s)) (P.at p x y))) P

  run-form : (p : Part) (s n : ℕ) (f : ℕ → ℕ) (P : Pic) → (run_pic p s n f P).form ≡ P.form
  unfolding run_pic on_part
  run-form p s n f P = pick-both (λ (Q : Pic). Q.form ≡ P.form) _ _ _ refl refl

  run-here : (p : Part) (s n : ℕ) (f : ℕ → ℕ) (P : Pic) (x y : ℕ) → has_part m.format p ≡ true → (run_pic p s n f P).at p x y ≡ pick (within s n (y * m.width + x)) (f (y * m.width + x - s)) (P.at p x y)
  unfolding run_pic
  run-here p s n f P x y h = ap (λ (Q : Pic). Q.at p x y) (pick_true _ _ _ h) ∙ on_part-here P p _ x y

  run-other : (p q : Part) (s n : ℕ) (f : ℕ → ℕ) (P : Pic) (x y : ℕ) → same_part p q ≡ false → (run_pic p s n f P).at q x y ≡ P.at q x y
  unfolding run_pic
  run-other p q s n f P x y e =
      by-test (has_part m.format p) (λ h. ap (λ (Q : Pic). Q.at q x y) (pick_true _ _ _ h) ∙ on_part-other P p q _ x y e) (λ h. ap (λ (Q : Pic). Q.at q x y) (pick-false _ _ _ h))

  module _ (some : 1 ≤ m.width) (r : Stripe) (room : r.start + r.count ≤ m.height * m.width) where
    run-headed : (p : Part) (f : ℕ → ℕ) (P : Pic) (h rest : List ℕ) → P.form ≡ m → length h ≡ length (head_bytes m) → store_run m p r f (headed h P ++ rest) ≡ headed h (run_pic p r.start r.count f P) ++ rest
    unfolding store_run run_pic
    run-headed p f P h rest same e =
        by-test (has_part m.format p)
        (λ q.
        let c = whole-columns p in
        let o : 1 ≤ columns_of P.form p = rw (same, c) some in
        let k : r.start + r.count ≤ rows_of P.form p * columns_of P.form p = rw (same, c, whole-rows p) room in
        pick_true _ _ _ q
        ∙ ap (λ (n : Form). puts (headed h P ++ rest) ((plane_of (tight_at n 0) p).start + r.start * bytes_of n.format) (samples_of (bytes_of n.format) f r.count)) (sym same)
        ∙ run-pasted P p (rw same q) r.start r.count f o k h rest (e ∙ ap (λ (n : Form). length (head_bytes n)) (sym same))
        ∙ ap (λ (n : ℕ). headed h (on_part P p (λ x y. pick (within r.start r.count (y * n + x)) (f (y * n + x - r.start)) (P.at p x y))) ++ rest) (ap (λ (n : Form). columns_of n p) same ∙ c)
        ∙ ap (λ (Q : Pic). headed h Q ++ rest) (sym (pick_true _ _ _ q)))
        (λ q. pick-false _ _ _ q ∙ ap (λ (Q : Pic). headed h Q ++ rest) (sym (pick-false _ _ _ q)))

    -- on a record at the start
    run-stored : (p : Part) (f : ℕ → ℕ) (P : Pic) (d : List ℕ) → P.form ≡ m → size_of m ≤ length d → store_run m p r f (puts d 0 (encode P)) ≡ puts d 0 (encode (run_pic p r.start r.count f P))
    unfolding encode headed
    run-stored p f P d same fits =
        let Q = run_pic p r.start r.count f P in
        let form : Q.form ≡ m = run-form p r.start r.count f P ∙ same in
        let n : length (encode P) ≡ size_of m = length-encode P ∙ ap size_of same in
        let k : length (encode Q) ≡ size_of m = length-encode Q ∙ ap size_of form in
        ap (store_run m p r f) (puts-start d (encode P) (omega (arith, n, fits)))
        ∙ run-headed p f P (head_bytes P.form) (drop (length (encode P)) d) same (ap (λ (q : Form). length (head_bytes q)) same)
        ∙ ap₂ (λ (q : Form) (i : ℕ). headed (head_bytes q) Q ++ drop i d) (same ∙ sym form) (n ∙ sym k)
        ∙ sym (puts-start d (encode Q) (omega (arith, k, fits)))

    -- every plane
    abbrev stripe_pic : (Part → ℕ → ℕ) → Pic → Pic
    stripe_pic f P =
        run_pic Alpha r.start r.count (f Alpha)
        (run_pic Cr r.start r.count (f Cr) (run_pic Cb r.start r.count (f Cb) (run_pic Luma r.start r.count (f Luma) P)))

    stripe-form : (f : Part → ℕ → ℕ) (P : Pic) → (stripe_pic f P).form ≡ P.form
    stripe-form f P = run-form Alpha _ _ _ _ ∙ run-form Cr _ _ _ _ ∙ run-form Cb _ _ _ _ ∙ run-form Luma _ _ _ P

    over-run : (f : ℕ → ℕ) (x y : ℕ) {u v : ℕ} → u ≡ v
        → pick (within r.start r.count (y * m.width + x)) (f (y * m.width + x - r.start)) u ≡ pick (within r.start r.count (y * m.width + x)) (f (y * m.width + x - r.start)) v
    over-run f x y e = ap (pick (within r.start r.count (y * m.width + x)) (f (y * m.width + x - r.start))) e

    stripe-at : (f : Part → ℕ → ℕ) (P : Pic) (p : Part) (x y : ℕ) → has_part m.format p ≡ true
        → (stripe_pic f P).at p x y ≡ pick (within r.start r.count (y * m.width + x)) (f p (y * m.width + x - r.start)) (P.at p x y)
    unfolding same_part part_number
    stripe-at f P p x y h = go p h
      where
        s : ℕ
        s = r.start

        n : ℕ
        n = r.count

        P1 : Pic
        P1 = run_pic Luma s n (f Luma) P

        P2 : Pic
        P2 = run_pic Cb s n (f Cb) P1

        P3 : Pic
        P3 = run_pic Cr s n (f Cr) P2

        go : (p : Part) → has_part m.format p ≡ true → (stripe_pic f P).at p x y ≡ pick (within r.start r.count (y * m.width + x)) (f p (y * m.width + x - r.start)) (P.at p x y)
        go Luma h = run-other Alpha Luma s n (f Alpha) P3 x y refl ∙ run-other Cr Luma s n (f Cr) P2 x y refl ∙ run-other Cb Luma s n (f Cb) P1 x y refl ∙ run-here Luma s n (f Luma) P x y h
        go Cb h = run-other Alpha Cb s n (f Alpha) P3 x y refl ∙ run-other Cr Cb s n (f Cr) P2 x y refl ∙ run-here Cb s n (f Cb) P1 x y h ∙ over-run (f Cb) x y (run-other Luma Cb s n (f Luma) P x y refl)
        go Cr h =
            run-other Alpha Cr s n (f Alpha) P3 x y refl ∙ run-here Cr s n (f Cr) P2 x y h
            ∙ over-run (f Cr) x y (run-other Cb Cr s n (f Cb) P1 x y refl ∙ run-other Luma Cr s n (f Luma) P x y refl)
        go Alpha h =
            run-here Alpha s n (f Alpha) P3 x y h
            ∙ over-run (f Alpha) x y (run-other Cr Alpha s n (f Cr) P2 x y refl ∙ run-other Cb Alpha s n (f Cb) P1 x y refl ∙ run-other Luma Alpha s n (f Luma) P x y refl)

    stripe-stored : (f : Part → ℕ → ℕ) (P : Pic) (d : List ℕ) → P.form ≡ m → size_of m ≤ length d
        → store_run m Alpha r (f Alpha) (store_run m Cr r (f Cr) (store_run m Cb r (f Cb) (store_run m Luma r (f Luma) (puts d 0 (encode P))))) ≡ puts d 0 (encode (stripe_pic f P))
    stripe-stored f P d e l =
        let P1 = run_pic Luma r.start r.count (f Luma) P in
        let P2 = run_pic Cb r.start r.count (f Cb) P1 in
        let P3 = run_pic Cr r.start r.count (f Cr) P2 in
        let e1 = run-form Luma _ _ _ P ∙ e in
        let e2 = run-form Cb _ _ _ P1 ∙ e1 in
        let e3 = run-form Cr _ _ _ P2 ∙ e2 in
        ap (λ (q : List ℕ). store_run m Alpha r (f Alpha) (store_run m Cr r (f Cr) (store_run m Cb r (f Cb) q))) (run-stored Luma (f Luma) P d e l)
        ∙ ap (λ (q : List ℕ). store_run m Alpha r (f Alpha) (store_run m Cr r (f Cr) q)) (run-stored Cb (f Cb) P1 d e1 l)
        ∙ ap (store_run m Alpha r (f Alpha)) (run-stored Cr (f Cr) P2 d e2 l) ∙ run-stored Alpha (f Alpha) P3 d e3 l

  -- ---- the picture so far

  module _ (some : 1 ≤ m.width) (fill : Part → ℕ) (ls : List Layer) where
    abbrev place : Part → ℕ → ℕ → ℕ
    place p x y = place_at (top_of m.format) fill ls p x y

    drawn-form : (s : ℕ) → (drawn_to m fill ls s).form ≡ m
    unfolding drawn_to
    drawn-form s = refl

    drawn-at : (s : ℕ) (p : Part) (x y : ℕ) → (drawn_to m fill ls s).at p x y ≡ pick (ltb (y * m.width + x) s) (place p x y) (fill p)
    unfolding drawn_to
    drawn-at s p x y = refl

    -- nothing is drawn yet, or everything is
    pub drawn-none : Agree (flat_pic m fill) (drawn_to m fill ls 0)
    unfolding flat_pic drawn_to
    drawn-none = record { form = refl; reads = λ p h x y a b. sym (pick-false _ _ _ (le-ltb (y * m.width + x) 0 (omega arith))) }

    pub drawn-all : Agree (drawn_to m fill ls (m.height * m.width)) (overlay_pic m fill ls)
    unfolding drawn_to overlay_pic base
    drawn-all = record {
      form = refl;
      reads = λ p h x y a b.
          pick_true _ _ _ (lt-ltb (y * m.width + x) (m.height * m.width) (inside p x y a b)) ∙ rw ((whole p).0, (whole p).1) refl;
    }
      where
        inside : (p : Part) (x y : ℕ) → x < columns_of m p → y < rows_of m p → y * m.width + x < m.height * m.width
        inside p x y a b =
            let c : x < m.width = rw (whole-columns p) at a in
            let d : y < m.height = rw (whole-rows p) at b in
            omega (arith, item-within y m.height m.width d)

    module _ (r : Stripe) (columns : r.columns ≡ m.width) (rwhole : Whole r) (room : r.start + r.count ≤ m.height * m.width) where
      -- the place of a sample of the stripe
      placed_at : (x y : ℕ) → x < m.width → r.start ≤ y * m.width + x → (across_at r (y * m.width + x - r.start) ≡ x) × (down_at r (y * m.width + x - r.start) ≡ y)
      unfolding across_at down_at base
      placed_at x y h l =
          let e : r.start + (y * m.width + x - r.start) ≡ y * m.width + x = omega arith in
          rw (rwhole.across, rwhole.down, columns, e) (digits_mod y h, digits_div y h)

      -- one stripe more, by what stands at each of its samples
      module _ (f : Part → ℕ → ℕ) (drawn : (p : Part) (j : ℕ) → f p j ≡ place p (across_at r j) (down_at r j)) where
        more-at : (p : Part) (x y : ℕ) → x < m.width
            → pick (within r.start r.count (y * m.width + x)) (f p (y * m.width + x - r.start)) ((drawn_to m fill ls r.start).at p x y) ≡ (drawn_to m fill ls (r.start + r.count)).at p x y
        unfolding drawn_to
        more-at p x y h =
            by_order (y * m.width + x) r.start
            (λ l.
            pick-false _ _ _ (within-no r.start r.count _ (λ a b. omega arith)) ∙ pick_true _ _ _ (lt-ltb _ _ l) ∙ sym (pick_true _ _ _ (lt-ltb _ (r.start + r.count) (omega arith))))
            (λ l. by_order (y * m.width + x) (r.start + r.count)
            (λ k.
            pick_true _ _ _ (within-yes r.start r.count _ l k) ∙ drawn p _ ∙ ap₂ (place p) (placed_at x y h l).0 (placed_at x y h l).1
            ∙ sym (pick_true _ _ _ (lt-ltb _ _ k)))
            (λ k. pick-false _ _ _ (within-no r.start r.count _ (λ a b. omega arith)) ∙ pick-false _ _ _ (le-ltb _ _ l) ∙ sym (pick-false _ _ _ (le-ltb _ _ k))))

        stripe-agrees : Agree (stripe_pic some r room f (drawn_to m fill ls r.start)) (drawn_to m fill ls (r.start + r.count))
        stripe-agrees = record {
          form = stripe-form some r room f (drawn_to m fill ls r.start) ∙ drawn-form _ ∙ sym (drawn-form _);
          reads = λ p h x y a b.
              let e = stripe-form some r room f (drawn_to m fill ls r.start) ∙ drawn-form r.start in
              stripe-at some r room f _ p x y (rw e at h) ∙ more-at p x y (rw (e, whole-columns p) at a);
        }

        pub stripe-continued : (d d1 d2 d3 d4 : List ℕ) → size_of m ≤ length d → d1 ≡ store_run m Luma r (f Luma) d → d2 ≡ store_run m Cb r (f Cb) d1 → d3 ≡ store_run m Cr r (f Cr) d2 → d4 ≡ store_run m Alpha r (f Alpha) d3
            → Continued m fill ls r.start (r.start + r.count) d d4
        stripe-continued d d1 d2 d3 d4 fits q1 q2 q3 q4 = record {
          on = λ D e.
              let n : length d ≡ length D = ap length e ∙ length-puts D 0 _ in
              q4 ∙ ap (store_run m Alpha r (f Alpha)) (q3 ∙ ap (store_run m Cr r (f Cr)) (q2 ∙ ap (store_run m Cb r (f Cb)) (q1 ∙ ap (store_run m Luma r (f Luma)) e)))
              ∙ stripe-stored some r room f _ D (drawn-form r.start) (omega (arith, n, fits))
              ∙ ap (puts D 0) (encode-agree _ _ stripe-agrees);
        }

      -- a stripe that no input changes is the fill
      pub stripe-clear : (d : List ℕ) → ((p : Part) (j : ℕ) → j < r.count → place p (across_at r j) (down_at r j) ≡ fill p) → Continued m fill ls r.start (r.start + r.count) d d
      unfolding drawn_to
      stripe-clear d clear = record { on = λ D e. e ∙ ap (puts D 0) (encode-agree _ _ agrees) }
        where
          same : (p : Part) (x y : ℕ) → x < m.width → (drawn_to m fill ls r.start).at p x y ≡ (drawn_to m fill ls (r.start + r.count)).at p x y
          same p x y h =
              by_order (y * m.width + x) r.start
              (λ l. pick_true _ _ _ (lt-ltb _ _ l) ∙ sym (pick_true _ _ _ (lt-ltb _ (r.start + r.count) (omega arith))))
              (λ l. pick-false _ _ _ (le-ltb _ _ l)
              ∙ by_order (y * m.width + x) (r.start + r.count)
              (λ k. sym (pick_true _ _ _ (lt-ltb _ _ k) ∙ sym (ap₂ (place p) (placed_at x y h l).0 (placed_at x y h l).1) ∙ clear p _ (omega arith)))
              (λ k. sym (pick-false _ _ _ (le-ltb _ _ k))))

          agrees : Agree (drawn_to m fill ls r.start) (drawn_to m fill ls (r.start + r.count))
          agrees = record {
            form = drawn-form r.start ∙ sym (drawn-form (r.start + r.count));
            reads = λ p h x y a b. same p x y (rw (drawn-form r.start, whole-columns p) at a);
          }

-- one after the other
pub continued-none : (m : Form) (fill : Part → ℕ) (ls : List Layer) (s : ℕ) (d : List ℕ) → Continued m fill ls s s d d
continued-none m fill ls s d = record { on = λ D e. e }

pub continued-on : (m : Form) (fill : Part → ℕ) (ls : List Layer) (s t u : ℕ) (d d1 d2 : List ℕ) → Continued m fill ls s t d d1 → Continued m fill ls t u d1 d2 → Continued m fill ls s u d d2
continued-on m fill ls s t u d d1 d2 a b = record { on = λ D e. b.on D (a.on D e) }

-- ---- what a sample ends as

module _ (top : ℕ) (fill : Part → ℕ) (ls : List Layer) (x y : ℕ) where
  pub colour-solid : (p : Part) (v : ℕ) → 1 ≤ top → fill Alpha ≡ top → v ≡ over_all top p x y ls (backdrop fill p) → unpremultiply top 0 v top ≡ colour_at top fill ls p x y
  unfolding colour_at backdrop
  colour-solid p v h a e =
      ap (λ (w : ℕ). unpremultiply top 0 w top) e ∙ sym (unpremultiply-opaque top (fill p) _ h)
      ∙ ap (unpremultiply top (fill p) (over_all top p x y ls (backdrop fill p))) (sym (ap (over_all top Alpha x y ls) a ∙ opaque-stays top x y ls h))

  pub colour-run : (p : Part) (f v a : ℕ) → f ≡ fill p → v ≡ over_all top p x y ls (backdrop fill p) → a ≡ over_all top Alpha x y ls (backdrop fill Alpha) → final_sample top Luma f v a ≡ colour_at top fill ls p x y
  unfolding colour_at final_sample
  colour-run p f v a e q r = rw (e, q, r) refl

  pub alpha-run : (f a : ℕ) → f ≡ fill Alpha → a ≡ over_all top Alpha x y ls (backdrop fill Alpha) → final_sample top Alpha f a a ≡ place_at top fill ls Alpha x y
  unfolding place_at
  alpha-run f a e q = rw (e, q) refl

  -- every plane's
  pub part_at : Part → ℕ
  part_at Luma = colour_at top fill ls Luma x y
  part_at Cb = colour_at top fill ls Cb x y
  part_at Cr = colour_at top fill ls Cr x y
  part_at Alpha = place_at top fill ls Alpha x y

  pub part-place : (p : Part) → part_at p ≡ place_at top fill ls p x y
  unfolding part_at colour_at place_at final_sample
  part-place Luma = refl
  part-place Cb = refl
  part-place Cr = refl
  part-place Alpha = refl

-- ---- what is asked of a stripe

module _ {body tray list : List ℕ} {q : Plan} {g : Backdrop} (c : CanvasReady body tray list q g) where
  pub ready-top : 1 ≤ g.top
  ready-top = rw c.top (top-some q.form.format c.plan.form.low)

  pub ready-total : q.form.height * q.form.width ≤ 2 ^ 30
  ready-total = omega (arith, mul_comm q.form.height q.form.width, c.plan.form.area)

  pub ready-fits : (r : Stripe) → RunReady q r → StripeFits r
  ready-fits r k = record {
    wide = rw k.columns c.plan.form.wide;
    narrow = rw k.columns (width-le q.form c.plan.form);
    ends = omega (arith, k.ends, ready-total);
  }

  -- what every plane starts from
  pub ready_held : (p : Part) → backdrop (backdrop_fill g) p ≤ g.top * g.top
  unfolding backdrop
  ready_held Luma = mul-below g.top g.top _ _ (c.low Luma) (c.low Alpha)
  ready_held Cb = mul-below g.top g.top _ _ (c.low Cb) (c.low Alpha)
  ready_held Cr = mul-below g.top g.top _ _ (c.low Cr) (c.low Alpha)
  ready_held Alpha = omega (arith, c.low Alpha, mul-below g.top g.top g.top 1 (omega arith) ready-top)

  -- where a stripe of a plane ends
  pub ready-room : (r : Stripe) → RunReady q r → (p : Part) → has_part q.form.format p ≡ true
      → (plane_of (tight_at q.form 0) p).start + r.start * bytes_of q.form.format + r.count * bytes_of q.form.format ≤ size_of q.form
  unfolding row_size
  ready-room r k p h =
      let b = bytes_of q.form.format in
      let w : row_size q.form p ≡ q.form.width * b = row-bytes p in
      let n : rows_of q.form p * row_size q.form p ≡ q.form.height * (q.form.width * b) = ap₂ (λ (i j : ℕ). i * j) (whole-rows q.form c.whole p) w in
      omega (arith, part_end q.form p h, add-mul r.start r.count b, mul-le-mul_right b k.ends, mul_assoc q.form.height q.form.width b)
    where
      row-bytes : (p : Part) → row_size q.form p ≡ q.form.width * bytes_of q.form.format
      row-bytes p = ap (λ (n : ℕ). n * bytes_of q.form.format) (whole-columns q.form c.whole p)

-- ---- by what the code worked out

pub filled_more : (acc : List ℕ) (i v : ℕ) → i < length acc → ((j : ℕ) → j < i → get_or acc j 0 ≡ v) → (j : ℕ) → j < i + 1 → get_or (set acc i v) j 0 ≡ v
filled_more acc i v h f j l = by_equal j i (λ e. rw e (get_or-set_same acc i v 0 h)) (λ e. get_or-set_other acc i j v 0 e ∙ f j (omega arith))

pub run-written : (m : Form) (p : Part) (r : Stripe) (f f' : ℕ → ℕ) (d d' : List ℕ) (q : Plane) (b : ℕ) → has_part m.format p ≡ true → q ≡ plane_of (tight_at m 0) p → b ≡ bytes_of m.format
    → d' ≡ puts d (q.start + r.start * b) (samples_of b f r.count) → ((j : ℕ) → j < r.count → f j ≡ f' j) → d' ≡ store_run m p r f' d
unfolding store_run
run-written m p r f f' d d' q b h e g k same =
    k ∙ ap₂ (λ (t : Plane) (n : ℕ). puts d (t.start + r.start * n) (samples_of n f r.count)) e g
    ∙ ap (puts d ((plane_of (tight_at m 0) p).start + r.start * bytes_of m.format)) (samples-same (bytes_of m.format) f f' r.count same)
    ∙ sym (pick_true _ _ _ h)

pub run-absent : (m : Form) (p : Part) (r : Stripe) (f : ℕ → ℕ) (d : List ℕ) → has_part m.format p ≡ false → d ≡ store_run m p r f d
unfolding store_run
run-absent m p r f d h = sym (pick-false _ _ _ h)

-- where the bytes of a stripe end, in the numbers at hand
pub run_room : {body tray list : List ℕ} {q : Plan} {g : Backdrop} (c : CanvasReady body tray list q g) (r : Stripe) → RunReady q r → (p : Part) → has_part q.form.format p ≡ true → (t : Plane) (b n : ℕ)
    → t ≡ plane_of (tight_at q.form 0) p → b ≡ bytes_of q.form.format → size_of q.form ≤ n → (t.start + r.start * b + r.count * b ≤ n) × (1 ≤ b) × (b ≤ 2)
run_room {q = q} c r k p h t b n e g l = rw (e, g) (omega (arith, ready-room c r k p h, l), (bytes-few q.form.format).0, (bytes-few q.form.format).1)

-- ---- a stripe written, or passed over

module _ {body tray list : List ℕ} {q : Plan} {g : Backdrop} {r : Stripe} {e : List Entry} {inputs : Option ℕ} (k : StripeReady body tray list q g r e inputs) where
  abbrev ls : List Layer
  ls = layers_at body tray list q

  pub ready-clear : AllMissed e inputs r.start r.count → (d : List ℕ) → Continued q.form (backdrop_fill g) ls r.start (r.start + r.count) d d
  ready-clear a d =
      stripe-clear q.form k.canvas.whole k.canvas.plan.form.wide (backdrop_fill g) ls r k.run.columns k.run.whole k.run.ends d
      (λ p j h.
      unchanged (top_of q.form.format) (top-some q.form.format k.canvas.plan.form.low) (backdrop_fill g) (λ t. rw (← k.canvas.top) (k.canvas.low t)) (across_at r j) (down_at r j) ls
      (λ t. list-missed body tray list q.descriptor q.first (top_of q.form.format) t r k.run.whole (ready-fits k.canvas r k.run).wide e a.many (k.listed a.many a.listed) j h _ a.each) p)

  pub ready-drawn : (d d1 d2 d3 d4 : List ℕ) → size_of q.form ≤ length d → d1 ≡ colour_stripe q.form g.top (backdrop_fill g) ls Luma r d → d2 ≡ colour_stripe q.form g.top (backdrop_fill g) ls Cb r d1
      → d3 ≡ colour_stripe q.form g.top (backdrop_fill g) ls Cr r d2 → d4 ≡ alpha_stripe q.form g.top (backdrop_fill g) ls r d3 → Continued q.form (backdrop_fill g) ls r.start (r.start + r.count) d d4
  unfolding colour_stripe alpha_stripe part_at
  ready-drawn d d1 d2 d3 d4 room q1 q2 q3 q4 =
      stripe-continued q.form k.canvas.whole k.canvas.plan.form.wide (backdrop_fill g) ls r k.run.columns k.run.whole k.run.ends
      (λ p j. part_at g.top (backdrop_fill g) ls (across_at r j) (down_at r j) p)
      (λ p j. part-place g.top (backdrop_fill g) ls (across_at r j) (down_at r j) p ∙ ap (λ (t : ℕ). place_at t (backdrop_fill g) ls p (across_at r j) (down_at r j)) k.canvas.top)
      d d1 d2 d3 d4 room q1 q2 q3 q4

-- the fill painted, and every stripe drawn
pub overlay-drawn : {body tray list : List ℕ} {q : Plan} {g : Backdrop} → CanvasReady body tray list q g → (d d1 d2 : List ℕ)
    → d1 ≡ puts d 0 (headed (head_bytes q.form) (flat_pic q.form (by_part g.colour.y g.colour.cb g.colour.cr g.alpha)))
    → Continued q.form (backdrop_fill g) (layers_at body tray list q) 0 (q.form.height * q.form.width) d1 d2 → d2 ≡ puts d 0 (encode (overlay_pic q.form (backdrop_fill g) (layers_at body tray list q)))
overlay-drawn {body} {tray} {list} {q} {g} c d d1 d2 e k =
    k.on d (e ∙ ap (puts d 0) (flat-encode q.form g.colour g.alpha ∙ encode-agree _ _ (drawn-none q.form c.whole c.plan.form.wide (backdrop_fill g) (layers_at body tray list q))))
    ∙ ap (puts d 0) (encode-agree _ _ (drawn-all q.form c.whole c.plan.form.wide (backdrop_fill g) (layers_at body tray list q)))
