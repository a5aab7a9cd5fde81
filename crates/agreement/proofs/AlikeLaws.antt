-- Trays alike in all but their sample values are read alike, and the point calls answer alike on them: a law for each reader.
use Rattle.laws.specs.declared.Item.TheVariants.{Record}
use Rattle.std.specs.Prelude.{Ok, Err}
use mathlib.Core.Bool.{Bool, not}
use mathlib.Core.List.{List, [], ◌∷◌}
use mathlib.Core.Path.{◌∙◌, ◌≡◌, ap, refl, sym}
use Prim.Native.Nat.{◌*◌, ◌+◌, ◌-◌, ◌<◌, ◌^◌, ◌≤◌, suc, zero, ℕ}
use native.Mathlib.Omega.{arith}
use lib.Dec.{eqb}
use lib.ListN.{get_or, length}
use Rattle.laws.proofs.Order.{apart, by_order, by-test, pick-false, pick_true}
use Rattle.laws.proofs.Out.{about-done, and_then-done, done-pair, done-same, refuse-done}
use Rattle.laws.specs.Out.{Out, about, after, and_then, refuse, refuse_item}
use Rattle.numbers.proofs.Number.{read-bounds, read-end, read-large, read-last, read_low, read_more, read_none}
use Rattle.numbers.specs.Number.{on_number, read_from, read_number}
use Rattle.records.proofs.RecordLaws.{on-number}
use Rattle.image.specs.Format.{has_part, row_size, rows_of}
use Rattle.records.specs.Record.{head_at, head_of, part_at, past, plane_at, planes_at, record_at}
use Rattle.records.specs.Tray.{frames_at}
use Rattle.image.specs.declared.format.Form.{Form}
use Rattle.image.specs.declared.format.Part.{Part}
use Rattle.image.specs.declared.format.Part.TheVariants.{Alpha, Cb, Cr, Luma}
use Rattle.records.specs.declared.record.Frame.{Frame}
use Rattle.records.specs.declared.record.Plane.{Plane}
use Rattle.derived.specs.Grid.{grid_of}
use Rattle.derived.specs.Overlay.{overlay_of}
use Rattle.props.specs.Chain.{chain_at}
use Rattle.tiles.specs.Tiles.{count_of, judge_of, tiles_at}
use Rattle.inputs.specs.Inputs.{first_format, inputs_at, other_depth_of}
use Rattle.agreement.specs.Alike.{SameBytes, SameHead, SameNumber, SameParts, SameRecords, SameTray}
use Rattle.point.specs.Point.{Look, grid_look, grid_names, grid_point, look_on, overlay_look, overlay_names, overlay_point, point_from, see_through_frame}

-- ---- runs step by step, of two that read the same

on_same : {A : Type 0} (o u : Out (ℕ × ℕ)) (f g : ℕ → ℕ → Out A) → o ≡ u → ((v n : ℕ) → o ≡ Ok (v, n) → f v n ≡ g v n) → on_number o f ≡ on_number u g
unfolding on_number
on_same o u f g e k = go o refl ∙ ap (λ (w : Out (ℕ × ℕ)). on_number w g) e
  where
    go : (w : Out (ℕ × ℕ)) → o ≡ w → on_number w f ≡ on_number w g
    go (Ok (v, n)) q = k v n q
    go (Err r) q = refl

then-alike : {A B : Type 0} (o u : Out A) (f g : A → Out B) → o ≡ u → ((a : A) → o ≡ Ok a → f a ≡ g a) → and_then o f ≡ and_then u g
unfolding and_then
then-alike {A} {B} o u f g e k = go o refl ∙ ap (λ (w : Out A). and_then w g) e
  where
    go : (w : Out A) → o ≡ w → and_then w f ≡ and_then w g
    go (Err r) q = refl
    go (Ok a) q = k a q

module _ (s t : List ℕ) (long : length s ≡ length t) where
  fewer : (from to a b : ℕ) → from ≤ a → b ≤ to → SameBytes s t from to → SameBytes s t a b
  unfolding SameBytes
  fewer from to a b i j f k p q = f k (omega arith) (omega arith)

  -- ---- numbers

  -- one that was read depends on its own bytes
  groups-same : (k i least w v x n : ℕ) → read_from k s i least w v ≡ Ok (x, n) → SameBytes s t i n → (i < n) × (read_from k t i least w v ≡ Ok (x, n))
  unfolding SameBytes
  groups-same zero i least w v x n e f = let q = read_none s i least w v in apart (cc)
  groups-same (suc k) i least w v x n e f =
      let m : 0 < suc k = omega arith in
      by_order i (length s)
      (λ h.
      by_order (get_or s i 0) 128
      (λ l.
      by_order (get_or s i 0) least
      (λ p. let q = read_low (suc k) s i least w v m h l p in apart (cc))
      (λ p.
      by_order (v + get_or s i 0 * w) (2 ^ 32)
      (λ g.
      let q = read-last (suc k) s i least w v m h l p g in
      let b : i + 1 ≡ n = (done-pair _ x _ n (sym q ∙ e)).1 in
      let z : get_or s i 0 ≡ get_or t i 0 = f i (omega arith) (omega arith) in
      (omega arith, read-last (suc k) t i least w v m (rw long at h) (rw z at l) (rw z at p) (rw z at g) ∙ ap (λ (c : ℕ). Ok ((v + c * w), (i + 1))) (sym z) ∙ sym q ∙ e))
      (λ g. let q = read-large (suc k) s i least w v m h l p g in apart (cc))))
      (λ l.
      let q = read_more (suc k) s i least w v m h l in
      let j : suc k - 1 ≡ k = omega arith in
      let r = groups-same k (i + 1) 1 (w * 128) (v + (get_or s i 0 - 128) * w) x n (rw j at (sym q ∙ e)) (λ c a b. f c (omega arith) b) in
      let z : get_or s i 0 ≡ get_or t i 0 = f i (omega arith) (omega (arith, r.0)) in
      (omega (arith, r.0), read_more (suc k) t i least w v m (rw long at h) (rw z at l) ∙ rw (j, ← z) r.1)))
      (λ h. let q = read-end (suc k) s i least w v m h in apart (cc))

  -- and any, on all that follows
  rest-same : (k i least w v : ℕ) → SameBytes s t i (length s) → read_from k s i least w v ≡ read_from k t i least w v
  unfolding read_from SameBytes
  rest-same zero i least w v f = refl
  rest-same (suc k) i least w v f =
      by_order i (length s)
      (λ h. rw (f i (omega arith) h, ← long, rest-same k (i + 1) 1 (w * 128) (v + (get_or t i 0 - 128) * w) (λ c a b. f c (omega arith) b)))
      (λ h. read-end (suc k) s i least w v (omega arith) h ∙ sym (read-end (suc k) t i least w v (omega arith) (rw long at h)))

  number_same : (at v n : ℕ) → read_number s at ≡ Ok (v, n) → SameBytes s t at n → read_number t at ≡ Ok (v, n)
  unfolding read_number
  number_same at v n e f = (groups-same 5 at 0 1 0 v n e f).1

  number-rest : (at : ℕ) → SameBytes s t at (length s) → read_number s at ≡ read_number t at
  unfolding read_number
  number-rest at f = rest-same 5 at 0 1 0 f

  same_number : (at : ℕ) (k : ℕ → ℕ → Type 0) → SameNumber s t at (read_number s at) k → (read_number s at ≡ read_number t at) × ((v n : ℕ) → read_number s at ≡ Ok (v, n) → k v n)
  unfolding SameNumber
  same_number at k h = (go (read_number s at) refl h, λ v n e. (rw e at h).1)
    where
      go : (o : Out (ℕ × ℕ)) → read_number s at ≡ o → SameNumber s t at o k → read_number s at ≡ read_number t at
      go (Ok (v, n)) e f = e ∙ sym (number_same at v n e f.0)
      go (Err r) e f = number-rest at f

  -- ---- headers

  head-same : (at : ℕ) (h : Form × ℕ) → head_at s at ≡ Ok h → SameBytes s t at h.1 → head_at s at ≡ head_at t at
  unfolding head_at head_of on_number
  head-same at h e f =
      let a = on-number _ _ h e in
      let b = on-number _ _ h a.3 in
      let c = on-number _ _ h b.3 in
      let d = on-number _ _ h c.3 in
      let g = on-number _ _ h d.3 in
      let u = and_then-done _ _ h g.3 in
      let z : g.1 ≡ h.1 = ap (λ (x : Form × ℕ). x.1) (done-same _ h u.2) in
      let a' = (read-bounds s _ _ _ a.2).2 in
      let b' = (read-bounds s _ _ _ b.2).2 in
      let c' = (read-bounds s _ _ _ c.2).2 in
      let d' = (read-bounds s _ _ _ d.2).2 in
      let g' = (read-bounds s _ _ _ g.2).2 in
      rw (
        a.2,
        number_same at _ _ a.2 (fewer at h.1 at a.1 (omega arith) (omega arith) f),
        b.2,
        number_same a.1 _ _ b.2 (fewer at h.1 a.1 b.1 (omega arith) (omega arith) f),
        c.2,
        number_same b.1 _ _ c.2 (fewer at h.1 b.1 c.1 (omega arith) (omega arith) f),
        d.2,
        number_same c.1 _ _ d.2 (fewer at h.1 c.1 d.1 (omega arith) (omega arith) f),
        g.2,
        number_same d.1 _ _ g.2 (fewer at h.1 d.1 g.1 (omega arith) (omega arith) f),
      )

  head-rest : (at : ℕ) → SameBytes s t at (length s) → head_at s at ≡ head_at t at
  unfolding head_at
  head-rest at f =
      on_same _ _ _ _ (number-rest at f) (λ width a p.
      on_same _ _ _ _ (number-rest a (later at a p f)) (λ height b q.
      on_same _ _ _ _ (number-rest b (later a b q (later at a p f))) (λ chroma c r.
      on_same _ _ _ _ (number-rest c (later b c r (later a b q (later at a p f)))) (λ depth d u.
      on_same _ _ _ _ (number-rest d (later c d u (later b c r (later a b q (later at a p f))))) (λ alpha e v. refl)))))
    where
      later : (i n : ℕ) {v : ℕ} → read_number s i ≡ Ok (v, n) → SameBytes s t i (length s) → SameBytes s t n (length s)
      later i n e g = fewer i (length s) n (length s) (omega (arith, (read-bounds s i _ n e).2)) (omega arith) g

  same_head : (at : ℕ) (k : Form × ℕ → Type 0) → SameHead s t at (head_at s at) k → (head_at s at ≡ head_at t at) × ((h : Form × ℕ) → head_at s at ≡ Ok h → k h)
  unfolding SameHead
  same_head at k h = (go (head_at s at) refl h, λ x e. (rw e at h).1)
    where
      go : (o : Out (Form × ℕ)) → head_at s at ≡ o → SameHead s t at o k → head_at s at ≡ head_at t at
      go (Err r) e f = head-rest at f
      go (Ok x) e f = head-same at x e f.0

  -- ---- planes

  module _ (at rows row : ℕ) (k : ℕ → Type 0) (h : SameNumber s t at (read_number s at) (λ stride a. SameNumber s t a (read_number s a) (λ len b. k (b + len)))) where
    plane-same : plane_at s at rows row ≡ plane_at t at rows row
    unfolding plane_at
    plane-same =
        let a = same_number at _ h in
        on_same _ _ _ _ a.0 (λ stride n e.
        let b = same_number n _ (a.1 stride n e) in
        on_same _ _ _ _ b.0 (λ len m q. rw long))

    plane-next : (q : Plane) → plane_at s at rows row ≡ Ok q → k (past q)
    unfolding plane_at past
    plane-next q e =
        let a = on-number _ _ q e in
        let b = on-number _ _ q a.3 in
        let x = refuse-done _ _ _ q b.3 in
        let y = refuse-done _ _ _ q x.1 in
        let z = refuse-done _ _ _ q y.1 in
        let g : b.1 + b.0 ≡ q.start + q.len = ap (λ (p : Plane). p.start + p.len) (done-same _ q z.1) in
        rw g at ((same_number a.1 _ ((same_number at _ h).1 _ _ a.2)).1 _ _ b.2)

  module _ (m : Form) (p : Part) (ps : List Part) (at : ℕ) (k : ℕ → Type 0) (h : SameParts s t m (p ∷ ps) at k) where
    part_same : part_at s at m p ≡ part_at t at m p
    unfolding part_at SameParts
    part_same =
        by-test (has_part m.format p)
        (λ e. pick_true _ _ _ e ∙ plane-same at (rows_of m p) (row_size m p) (λ a. SameParts s t m ps a k) (rw (pick_true _ _ _ e) at h) ∙ sym (pick_true _ _ _ e))
        (λ e. pick-false _ _ _ e ∙ sym (pick-false _ _ _ e))

    part-next : (q : Plane) → part_at s at m p ≡ Ok q → SameParts s t m ps (past q) k
    unfolding part_at SameParts past
    part-next q f =
        by-test (has_part m.format p)
        (λ e. plane-next at (rows_of m p) (row_size m p) (λ a. SameParts s t m ps a k) (rw (pick_true _ _ _ e) at h) q (sym (pick_true _ _ _ e) ∙ f))
        (λ e. none q (sym (pick-false _ _ _ e) ∙ f) (rw (pick-false _ _ _ e) at h))
      where
        none : (q : Plane) → ◌≡◌ {A = Out Plane} (Ok (record { start = at; len = 0; stride = 0 })) (Ok q) → SameParts s t m ps at k → SameParts s t m ps (past q) k
        none q e g =
            let w : at ≡ q.start + q.len = omega (arith, ap (λ (x : Plane). x.start + x.len) (done-same _ q e)) in
            rw w at g

  abbrev parts : List Part
  parts = Luma ∷ Cb ∷ Cr ∷ Alpha ∷ []

  module _ (m : Form) (at : ℕ) (k : ℕ → Type 0) (h : SameParts s t m parts at k) where
    planes-same : planes_at s at m ≡ planes_at t at m
    unfolding planes_at
    planes-same =
        then-alike _ _ _ _ (part_same m Luma (Cb ∷ Cr ∷ Alpha ∷ []) at k h) (λ luma a.
        let i = part-next m Luma (Cb ∷ Cr ∷ Alpha ∷ []) at k h luma a in
        then-alike _ _ _ _ (part_same m Cb (Cr ∷ Alpha ∷ []) (past luma) k i) (λ cb b.
        let j = part-next m Cb (Cr ∷ Alpha ∷ []) (past luma) k i cb b in
        then-alike _ _ _ _ (part_same m Cr (Alpha ∷ []) (past cb) k j) (λ cr c.
        let l = part-next m Cr (Alpha ∷ []) (past cb) k j cr c in
        then-alike _ _ _ _ (part_same m Alpha [] (past cr) k l) (λ alpha d. refl))))

    planes-next : (fr : Frame) → planes_at s at m ≡ Ok fr → k fr.end
    unfolding planes_at SameParts
    planes-next fr e =
        let a = and_then-done _ _ fr e in
        let b = and_then-done _ _ fr a.2 in
        let c = and_then-done _ _ fr b.2 in
        let d = and_then-done _ _ fr c.2 in
        let i = part-next m Luma (Cb ∷ Cr ∷ Alpha ∷ []) at k h a.0 a.1 in
        let j = part-next m Cb (Cr ∷ Alpha ∷ []) (past a.0) k i b.0 b.1 in
        let l = part-next m Cr (Alpha ∷ []) (past b.0) k j c.0 c.1 in
        let g : past d.0 ≡ fr.end = ap (λ (x : Frame). x.end) (done-same _ fr d.2) in
        rw g at (part-next m Alpha [] (past c.0) k l d.0 d.1)

  -- ---- records

  module _ (at : ℕ) (k : ℕ → Type 0) (h : SameHead s t at (head_at s at) (λ x. SameParts s t x.0 parts x.1 k)) where
    record_same : record_at s at ≡ record_at t at
    unfolding record_at
    record_same = let a = same_head at _ h in then-alike _ _ _ _ a.0 (λ x e. planes-same x.0 x.1 k (a.1 x e))

    record-next : (fr : Frame) → record_at s at ≡ Ok fr → k fr.end
    unfolding record_at
    record-next fr e = let b = and_then-done _ _ fr e in planes-next b.0.0 b.0.1 k ((same_head at _ h).1 b.0 b.1) fr b.2

  records-same : (n at : ℕ) → SameRecords n s t at → frames_at n s at ≡ frames_at n t at
  unfolding frames_at SameRecords
  records-same zero at h = rw long
  records-same (suc n) at h =
      then-alike _ _ _ _ (ap (about Record 0) (record_same at (λ a. SameRecords n s t a) h)) (λ fr e.
      then-alike _ _ _ _ (ap (after 1) (records-same n fr.end (record-next at (λ a. SameRecords n s t a) h fr (about-done Record 0 _ _ e)))) (λ frs q. refl))

-- ---- trays

pub same_count : (s t : List ℕ) → SameTray s t → read_number s 0 ≡ read_number t 0
same_count s t h = (same_number s t h.long 0 _ h.bytes).0

pub same-frames : (s t : List ℕ) → SameTray s t → (n at : ℕ) → read_number s 0 ≡ Ok (n, at) → frames_at n s at ≡ frames_at n t at
same-frames s t h n at e = records-same s t h.long n at ((same_number s t h.long 0 (λ n at. SameRecords n s t at) h.bytes).1 n at e)

-- ---- the point calls

grid-looks : (body s t chain : List ℕ) (flag : Bool) → SameTray s t → grid_look body t chain flag ≡ grid_look body s chain flag
unfolding grid_look tiles_at
grid-looks body s t chain flag h =
    sym (on_same _ _ _ _ (same_count s t h) (λ n at e.
    ap (λ (o : Out (List Frame)). and_then (chain_at chain 0) (λ es. and_then (and_then (grid_of body) (λ g. refuse (not (eqb n (count_of g))) 11 (and_then o (judge_of g at)))) (λ k. look_on es flag k.desc.output_width k.desc.output_height (grid_names k))))
    (same-frames s t h n at e)))

pub grid-blind : (body s t chain : List ℕ) (flag : Bool) (x y : ℕ) → SameTray s t → grid_point body t chain flag x y ≡ grid_point body s chain flag x y
unfolding grid_point
grid-blind body s t chain flag x y h = ap (λ (o : Out Look). and_then o (λ k. point_from k x y)) (grid-looks body s t chain flag h)

overlay-looks : (body s t chain : List ℕ) (flag : Bool) (list : List ℕ) → SameTray s t → overlay_look body t chain flag list ≡ overlay_look body s chain flag list
unfolding overlay_look inputs_at
overlay-looks body s t chain flag list h =
    sym (on_same _ _ _ _ (same_count s t h) (λ n at e.
    ap (λ (o : Out (List Frame)).
    and_then (chain_at chain 0) (λ es.
    and_then (and_then (overlay_of body n) (λ d. refuse (eqb n 0) 15 (refuse (not (eqb (length list) n)) 11 (and_then o (λ frs. refuse_item Record (other_depth_of (first_format frs)) 14 frs (Ok (record { descriptor = d; frames = frs })))))))
    (λ q. refuse_item Record see_through_frame 18 q.frames (look_on es flag q.descriptor.output_width q.descriptor.output_height (overlay_names body q)))))
    (same-frames s t h n at e)))

pub overlay-blind : (body s t chain : List ℕ) (flag : Bool) (list : List ℕ) (x y : ℕ) → SameTray s t → overlay_point body t chain flag list x y ≡ overlay_point body s chain flag list x y
unfolding overlay_point
overlay-blind body s t chain flag list x y h = ap (λ (o : Out Look). and_then o (λ k. point_from k x y)) (overlay-looks body s t chain flag list h)
