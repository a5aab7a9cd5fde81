-- Laws of a list of the inputs that meet a block.
use Rattle.std.specs.Prelude.{Ok, Err}
use mathlib.Core.Bool.{Bool, ◌&&◌, ◌||◌, false, not, true, true≢false}
use mathlib.Core.List.{List}
use mathlib.Core.Path.{◌∙◌, ◌≡◌, ap, ap₂, refl, sym}
use Prim.Native.Nat.{◌*◌, ◌+◌, ◌-◌, ◌<◌, ◌^◌, ◌≤◌, suc, zero, ℕ}
use native.Mathlib.Nat.{mul-le-mul_right, sub-zero}
use native.Mathlib.Omega.{arith}
use lib.Dec.{eqb, leb, ltb}
use lib.ListN.{get_or, length}
use borrow.Author.Tests.{leb-true, lt-ltb}
use Rattle.laws.proofs.Order.{and-true, by_equal, by-test, pick-false, true-and}
use Rattle.laws.specs.Out.{Out}
use Rattle.laws.specs.declared.Refusal.{Refusal}
use Rattle.numbers.specs.declared.Offset.{Offset}
use Rattle.image.specs.Format.{side_of}
use Rattle.records.specs.Record.{record_at}
use Rattle.image.specs.declared.format.Part.{Part}
use Rattle.records.specs.declared.record.Frame.{Frame}
use Rattle.records.specs.inner.Frames.{frames_from}
use Rattle.planes.specs.Bytes.{decode}
use Rattle.derived.specs.Overlay.{placement_at}
use Rattle.derived.specs.declared.overlay.OverlayDescriptor.{OverlayDescriptor}
use Rattle.derived.specs.declared.overlay.Placement.{Placement}
use Rattle.inputs.proofs.BlendLaws.{less_one}
use Rattle.inputs.specs.Layers.{Layer, layer_of, layers_of}
use Rattle.opaque.specs.declared.axis.Stretch.{Stretch}
use Rattle.opaque.specs.inner.Window.{stretch_of}
use Rattle.blend.proofs.OverLaws.{over_at-held}
use Rattle.blend.proofs.ReachLaws.{row-column, stretch-from}
use Rattle.blend.proofs.StripeLaws.{all-next, all_none, all-refused}
use Rattle.blend.specs.Overlay.{base, covers_at, over_all, over_at}
use Rattle.blend.specs.declared.over.Stripe.{Stripe}
use Rattle.blend.specs.inner.Stripe.{across_at, down_at, layer_with}
use Rattle.blocks.specs.declared.list.Entry.{Entry}
use Rattle.blocks.specs.inner.Listed.{Listed, Listing, Whole, hull_of, missed, no_entry, over_entries, over_entry, over_taken}

-- ---- numbers

pub never_both : {a b : ℕ} → a < b → b ≤ a → ⊥
never_both h l = omega arith

pub none_below : (k : ℕ) → k < 0 → ⊥
none_below k h = omega arith

-- ---- what a list leaves as it was

module _ (body tray list : List ℕ) (d : OverlayDescriptor) (top : ℕ) (p : Part) (x y : ℕ) where
  pub entry-same : (e e' : List Entry) (k v : ℕ) → get_or e k no_entry ≡ get_or e' k no_entry
      → over_entry body tray list d e top p x y k v ≡ over_entry body tray list d e' top p x y k v
  unfolding over_entry
  entry-same e e' k v a = ap (λ (q : Entry). over_taken body tray list d top p x y q.number (record_at tray q.at) v) a

  pub entries-same : (e e' : List Entry) (n v : ℕ) → ((k : ℕ) → k < n → get_or e k no_entry ≡ get_or e' k no_entry) → over_entries body tray list d e top p x y n v ≡ over_entries body tray list d e' top p x y n v
  unfolding over_entries
  entries-same e e' zero v f = refl
  entries-same e e' (suc n) v f =
      entry-same e e' n _ (f n (omega arith))
      ∙ ap (over_entry body tray list d e' top p x y n) (entries-same e e' n v (λ k h. f k (omega arith)))

  -- an entry is the input of its number
  pub entry-is : (e : List Entry) (k v i at : ℕ) (fr : Frame) → (get_or e k no_entry).at ≡ at → (get_or e k no_entry).number ≡ i → record_at tray at ≡ Ok fr
      → over_entry body tray list d e top p x y k v ≡ over_at top p x y (layer_of body tray list d i fr) v
  unfolding over_entry over_taken
  entry-is e k v i at fr a b r = rw (a, b, r)

  pub entry-refused : (e : List Entry) (k v at : ℕ) (r : Refusal) → (get_or e k no_entry).at ≡ at → record_at tray at ≡ Err r → over_entry body tray list d e top p x y k v ≡ v
  unfolding over_entry over_taken
  entry-refused e k v at r a q = rw (a, q)

  pub entry-over : (e : List Entry) (k v w i at : ℕ) (fr : Frame) (o : Placement) (m : Bool) → (get_or e k no_entry).at ≡ at → (get_or e k no_entry).number ≡ i → record_at tray at ≡ Ok fr
      → o ≡ placement_at body d i → m ≡ not (eqb (get_or list i 0) 0) → w ≡ over_at top p x y (layer_with tray fr o m) v → w ≡ over_entry body tray list d e top p x y k v
  unfolding layer_of layer_with
  entry-over e k v w i at fr o m a b r q z h =
      h ∙ ap₂ (λ (u : Placement) (t : Bool). over_at top p x y (record { pic = decode tray fr; placement = u; premultiplied = t }) v) q z
      ∙ sym (entry-is e k v i at fr a b r)

  pub entries_next : (e : List Entry) (n v : ℕ) → over_entries body tray list d e top p x y (n + 1) v ≡ over_entry body tray list d e top p x y n (over_entries body tray list d e top p x y n v)
  unfolding over_entries
  entries_next e n v = let one : n + 1 ≡ suc n = omega arith in rw one refl

  pub entries_none : (e : List Entry) (v : ℕ) → over_entries body tray list d e top p x y 0 v ≡ v
  unfolding over_entries
  entries_none e v = refl

  pub entry-held : (e : List Entry) (k v : ℕ) → v ≤ top * top → 1 ≤ top → over_entry body tray list d e top p x y k v ≤ top * top
  unfolding over_entry over_taken
  entry-held e k v h t = go (record_at tray ((get_or e k no_entry).at))
    where
      go : (o : Out Frame) → over_taken body tray list d top p x y ((get_or e k no_entry).number) o v ≤ top * top
      go (Err r) = h
      go (Ok fr) = over_at-held top p x y _ v h t

-- ---- where an input lies

-- along one axis, in numbers that fit
pub stretch-small : (o : Offset) (n : ℕ) (s : Stretch) → s ≡ stretch_of false o n → o.ahead < 2 ^ 32 → n < 2 ^ 32 → (s.from ≤ 2 ^ 32) × (s.to ≤ 2 ^ 33)
unfolding stretch_of side_of
stretch-small o n s e a b = rw e (omega arith, omega arith)

-- between the ends of its hull
hull-covers : (c : ℕ) (l : Layer) (x y : ℕ) → x < c → covers_at l x y ≡ true → ((hull_of c l.placement l.pic.form).from ≤ y * c + x) × (y * c + x < (hull_of c l.placement l.pic.form).to)
unfolding hull_of covers_at base
hull-covers c l x y h e =
    let k = and-true _ _ e in
    let a = stretch-from false l.placement.horizontal l.pic.form.width x k.0 in
    let b = stretch-from false l.placement.vertical l.pic.form.height y k.1 in
    let low : (stretch_of false l.placement.vertical l.pic.form.height).from * c ≤ y * c = mul-le-mul_right c b.0 in
    let high : y * c ≤ ((stretch_of false l.placement.vertical l.pic.form.height).to - 1) * c = mul-le-mul_right c (omega (arith, b.1)) in
    (omega (arith, a.0), omega (arith, a.1))

-- beside it, the input changes nothing
pub hull-beside : (c top : ℕ) (p : Part) (l : Layer) (x y v : ℕ) → x < c → ((hull_of c l.placement l.pic.form).from ≤ y * c + x → y * c + x < (hull_of c l.placement l.pic.form).to → ⊥) → over_at top p x y l v ≡ v
unfolding over_at
hull-beside c top p l x y v h f = by-test (covers_at l x y) (λ e. let k = hull-covers c l x y h e in absurd (f k.0 k.1)) (λ e. pick-false _ _ _ e)

layer-beside : (body tray list : List ℕ) (d : OverlayDescriptor) (c top : ℕ) (p : Part) (i : ℕ) (fr : Frame) (x y v : ℕ) → x < c
    → ((hull_of c (placement_at body d i) fr.form).from ≤ y * c + x → y * c + x < (hull_of c (placement_at body d i) fr.form).to → ⊥) → over_at top p x y (layer_of body tray list d i fr) v ≡ v
unfolding layer_of decode
layer-beside body tray list d c top p i fr x y v h f = hull-beside c top p (layer_of body tray list d i fr) x y v h f

-- ---- the list, input by input

module _ (body tray : List ℕ) (d : OverlayDescriptor) (first c start count : ℕ) where
  pub listing-begin : (e : List Entry) → Listing body tray d first c start count e 0 0 first
  unfolding over_entries
  listing-begin e = record {
    room = omega arith;
    numbers = λ k h. absurd (none_below k h);
    sooner = λ list k top p x y v h w s. absurd (none_below k h);
    later = λ list k top p x y v h w s. absurd (none_below k h);
    all = λ list top p x y v w s t. rw (sub-zero d.count) refl;
  }

  module _ (e : List Entry) (n i at : ℕ) (l : Listing body tray d first c start count e n i at) where
    -- all were seen, or the next cannot be read
    pub listing-ends : d.count ≤ i → Listing body tray d first c start count e n d.count 0
    listing-ends h = record {
      room = l.room;
      numbers = l.numbers;
      sooner = l.sooner;
      later = l.later;
      all = λ list top p x y v w s t.
          all_none top p x y body tray list d _ _ _ _ (omega arith) ∙ sym (all_none top p x y body tray list d _ _ _ _ (omega arith)) ∙ l.all list top p x y v w s t;
    }

    pub listing-refused : (r : Refusal) → record_at tray at ≡ Err r → Listing body tray d first c start count e n d.count 0
    listing-refused r q = record {
      room = l.room;
      numbers = l.numbers;
      sooner = l.sooner;
      later = l.later;
      all = λ list top p x y v w s t.
          all_none top p x y body tray list d _ _ _ _ (omega arith) ∙ sym (all-refused top p x y body tray list d _ _ _ _ r q) ∙ l.all list top p x y v w s t;
    }

    module _ (fr : Frame) (q : record_at tray at ≡ Ok fr) (more : i < d.count) (h : Stretch) (eh : h ≡ hull_of c (placement_at body d i) fr.form) where
      next : (list : List ℕ) (top : ℕ) (p : Part) (x y v w : ℕ) → w ≡ over_at top p x y (layer_of body tray list d i fr) v
          → over_all top p x y (layers_of body tray list d (i + 1) (frames_from (d.count - (i + 1)) tray fr.end)) w ≡ over_all top p x y (layers_of body tray list d i (frames_from (d.count - i) tray at)) v
      next list top p x y v w k =
          ap (λ (m : ℕ). over_all top p x y (layers_of body tray list d (i + 1) (frames_from m tray fr.end)) w) (sym (less_one d.count i))
          ∙ sym (all-next top p x y body tray list d (d.count - i) at i v w fr (omega arith) q k)

      -- an input that misses the block is passed over
      pub listing-skips : (ltb h.from (start + count) && ltb start h.to) ≡ false → Listing body tray d first c start count e n (i + 1) fr.end
      listing-skips miss = record {
        room = l.room;
        numbers = l.numbers;
        sooner = l.sooner;
        later = l.later;
        all = λ list top p x y v w s t.
            next list top p x y _ _ (sym (layer-beside body tray list d c top p i fr x y _ w (λ a b. true≢false (sym (true-and _ _ (lt-ltb _ _ (low s t a)) (lt-ltb _ _ (high s t b))) ∙ miss))))
            ∙ l.all list top p x y v w s t;
      }
        where
          low : {q : ℕ} → start ≤ q → q < start + count → (hull_of c (placement_at body d i) fr.form).from ≤ q → h.from < start + count
          low s t a = rw eh (omega arith)

          high : {q : ℕ} → start ≤ q → q < start + count → q < (hull_of c (placement_at body d i) fr.form).to → start < h.to
          high s t b = rw eh (omega arith)

      -- one that meets it is the last entry
      pub listing-adds : (e' : List Entry) → length e' ≡ length e → n < length e → get_or e' n no_entry ≡ record { at = at; number = i; hull = h } → ((k : ℕ) → k < n → get_or e' k no_entry ≡ get_or e k no_entry)
          → Listing body tray d first c start count e' (n + 1) (i + 1) fr.end
      unfolding over_entries
      listing-adds e' long room put kept = record {
        room = omega (arith, long);
        numbers = λ k b. by_equal k n (λ z. rw (z, put) more) (λ z. rw (kept k (omega arith)) (l.numbers k (omega arith)));
        sooner = λ list k top p x y v b w s.
            by_equal k n
            (λ z. rw z (here list top p x y v) ∙ layer-beside body tray list d c top p i fr x y v w (λ a g. before k z x y s a))
            (λ z. earlier list top p x y k v z b ∙ l.sooner list k top p x y v (omega arith) w (rw (kept k (omega arith)) at s));
        later = λ list k top p x y v b w s.
            by_equal k n
            (λ z. rw z (here list top p x y v) ∙ layer-beside body tray list d c top p i fr x y v w (λ a g. behind k z x y s g))
            (λ z. earlier list top p x y k v z b ∙ l.later list k top p x y v (omega arith) w (rw (kept k (omega arith)) at s));
        all = λ list top p x y v w s t.
            next list top p x y (over_entries body tray list d e top p x y n v) _
            (ap (λ (m : ℕ). over_entries body tray list d e' top p x y m v) one ∙ here list top p x y _
            ∙ ap (over_at top p x y (layer_of body tray list d i fr)) (entries-same body tray list d top p x y e' e n v kept))
            ∙ l.all list top p x y v w s t;
      }
        where
          one : n + 1 ≡ suc n
          one = omega arith

          here : (list : List ℕ) (top : ℕ) (p : Part) (x y v : ℕ) → over_entry body tray list d e' top p x y n v ≡ over_at top p x y (layer_of body tray list d i fr) v
          here list top p x y v = entry-is body tray list d top p x y e' n v i at fr (ap (λ (q : Entry). q.at) put) (ap (λ (q : Entry). q.number) put) q

          earlier : (list : List ℕ) (top : ℕ) (p : Part) (x y k v : ℕ) → (k ≡ n → ⊥) → k < n + 1 → over_entry body tray list d e' top p x y k v ≡ over_entry body tray list d e top p x y k v
          earlier list top p x y k v z b = entry-same body tray list d top p x y e' e k v (kept k (omega arith))

          before : (k : ℕ) → k ≡ n → (x y : ℕ) → y * c + x < (get_or e' k no_entry).hull.from → (hull_of c (placement_at body d i) fr.form).from ≤ y * c + x → ⊥
          before k z x y s a = let g : y * c + x < h.from = rw (z, put) at s in let f : y * c + x < (hull_of c (placement_at body d i) fr.form).from = rw eh at g in omega arith

          behind : (k : ℕ) → k ≡ n → (x y : ℕ) → (get_or e' k no_entry).hull.to ≤ y * c + x → y * c + x < (hull_of c (placement_at body d i) fr.form).to → ⊥
          behind k z x y s a = let g : h.to ≤ y * c + x = rw (z, put) at s in let f : (hull_of c (placement_at body d i) fr.form).to ≤ y * c + x = rw eh at g in omega arith

-- ---- a stripe of the block

-- the place of a sample of a stripe
pub stripe-place : (run : Stripe) → Whole run → 1 ≤ run.columns → (j : ℕ) → (across_at run j < run.columns) × (down_at run j * run.columns + across_at run j ≡ run.start + j)
unfolding across_at down_at base
stripe-place run w h j = rw (w.across, w.down) (let k = row-column (run.start + j) run.columns h in (k.1, sym k.0))

module _ (body tray list : List ℕ) (d : OverlayDescriptor) (first top : ℕ) (p : Part) (run : Stripe) (whole : Whole run) (wide : 1 ≤ run.columns) (e : List Entry) (n : ℕ)
    (l : Listed body tray d first run.columns run.start run.count e n) (j : ℕ) (h : j < run.count) where
  pub entry-missed : (k v : ℕ) → k < n → missed e k run.start run.count ≡ true → over_entry body tray list d e top p (across_at run j) (down_at run j) k v ≡ v
  unfolding missed
  entry-missed k v b m =
      let a = stripe-place run whole wide j in
      by-test (leb (run.start + run.count) ((get_or e k no_entry).hull.from))
      (λ q. l.sooner list k top p (across_at run j) (down_at run j) v b a.0 (omega (arith, a.1, leb-true (run.start + run.count) ((get_or e k no_entry).hull.from) q)))
      (λ q. l.later list k top p (across_at run j) (down_at run j) v b a.0 (omega (arith, a.1, leb-true ((get_or e k no_entry).hull.to) run.start (sym (ap (λ (t : Bool). t || leb ((get_or e k no_entry).hull.to) run.start) q) ∙ m))))

  pub list_all : (v : ℕ) → over_entries body tray list d e top p (across_at run j) (down_at run j) n v
      ≡ over_all top p (across_at run j) (down_at run j) (layers_of body tray list d 0 (frames_from d.count tray first)) v
  list_all v =
      let a = stripe-place run whole wide j in
      sym (all_none top p _ _ body tray list d _ _ _ _ (omega arith)) ∙ l.all list top p _ _ v a.0 (omega (arith, a.1)) (omega (arith, a.1))

  -- where all lie beside it, nothing changes
  entries-missed : (m v : ℕ) → m ≤ n → ((k : ℕ) → k < n → missed e k run.start run.count ≡ true) → over_entries body tray list d e top p (across_at run j) (down_at run j) m v ≡ v
  unfolding over_entries
  entries-missed zero v b a = refl
  entries-missed (suc m) v b a = entry-missed m _ (omega arith) (a m (omega arith)) ∙ entries-missed m v (omega arith) a

  pub list-missed : (v : ℕ) → ((k : ℕ) → k < n → missed e k run.start run.count ≡ true) → over_all top p (across_at run j) (down_at run j) (layers_of body tray list d 0 (frames_from d.count tray first)) v ≡ v
  list-missed v a = sym (list_all v) ∙ entries-missed n v (omega arith) a

-- a part of the block
pub listed-part : (body tray : List ℕ) (d : OverlayDescriptor) (first c start count s n : ℕ) (e : List Entry) (k : ℕ) → start ≤ s → s + n ≤ start + count
    → Listed body tray d first c start count e k → Listed body tray d first c s n e k
listed-part body tray d first c start count s n e k a b l = record {
  room = l.room;
  numbers = l.numbers;
  sooner = l.sooner;
  later = l.later;
  all = λ list top p x y v w u t. l.all list top p x y v w (omega arith) (omega arith);
}
