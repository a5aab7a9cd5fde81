-- From stage to stage of a chain, between two buffers.
use Rattle.std.specs.Prelude.{Ok, Err}
use mathlib.Core.Bool.{Bool, ◌&&◌, false, not, true}
use mathlib.Core.List.{List, [], ◌∷◌}
use mathlib.Core.Path.{◌∙◌, ◌≡◌, ap, ap₂, refl, subst, sym}
use Prim.Native.Nat.{◌-◌, ◌<◌, ◌≤◌, max, ℕ}
use native.Mathlib.Omega.{arith}
use lib.ListN.{length, take}
use lib.Seq.{length-take-le, take_at}
use Rattle.laws.proofs.Order.{and-true, by-test, pick-false, pick_true, true-and}
use Rattle.laws.proofs.Out.{and_then-done, done-same, then-done}
use Rattle.laws.proofs.Puts.{length-puts, puts-start}
use Rattle.laws.specs.Out.{Out, after, answer_of, written}
use Rattle.laws.specs.Pick.{pick}
use Rattle.laws.specs.Puts.{puts}
use Rattle.image.specs.declared.format.Form.{Form}
use Rattle.planes.proofs.RoundTrip.{length-encode}
use Rattle.planes.specs.Bytes.{encode, size_of}
use Rattle.planes.specs.Picture.{Pic}
use Rattle.planes.specs.inner.InRange.{InRange}
use Rattle.props.proofs.ChainLaws.{entries_none, entries-step, fold_done, fold-none, fold_step}
use Rattle.props.specs.Chain.{applies, entries_at, fold_chain}
use Rattle.props.specs.Entry.{entry_at}
use Rattle.props.specs.declared.entry.Property.{Property}
use Rattle.props.specs.declared.entry.PropertyEntry.{PropertyEntry}
use Rattle.sight.specs.declared.Sight.{Sight}
use Rattle.chains.proofs.ApplyLaws.{skipped-is, step-wrote}
use Rattle.stages.proofs.StageLaws.{Held, Next, next_of, plain-bytes, stage_at, stage-held, stage-reaches}
use Rattle.stages.specs.declared.stage.Current.{Current}
use Rattle.stages.specs.declared.stage.Stage.{Stage}
use Rattle.chains.specs.inner.Apply.{Able, Arrived, Drawable, Ended, Lands, Planned, Ready, Roomy, Staged, bytes_in, chain_bytes, draws, entry_bytes, lying, record_in, settled_in, step_run, wrote_of}
use Rattle.stages.specs.inner.Stage.{Gives, HeldAfter, StageSound, record_after, stage_bytes, stage_drawn, stage_held, stage_start}
use Rattle.plans.specs.declared.chain_plan.ChainPlan.{ChainPlan}
use Rattle.stages.specs.inner.Held.{begins, form_after, is_held, moves, shown_after}
use Rattle.plans.specs.inner.ChainPlan.{chain_plan_after}

-- ---- a record that was drawn into the other buffer

pub drawn-arrives : (t : Stage) (b : List ℕ) (R : Pic) → InRange R → b ≡ encode R → (m : Form) → m ≡ R.form → (d f output spare : List ℕ) → length output ≡ length d → length spare ≡ length f
    → (n : ℕ) → n ≡ length b → lying (not t.current.inside) n output spare ≡ b → length b ≤ length d → length b ≤ length f → Arrived b d f (stage_drawn t n m) output spare
unfolding stage_drawn
drawn-arrives t b R k e m g d f output spare o s n c l x y =
    let z : size_of m ≡ length b = ap size_of g ∙ sym (length-encode R) ∙ ap length (sym e) in
    let sound : StageSound (stage_drawn t n m) (lying (not t.current.inside) n output spare) = rw l (stage_at R k b e (stage_drawn t n m) g g refl) in
    record {
      staged = record {
        sound = sound;
        first = omega (arith, c, o, x);
        other = omega (arith, c, s, y);
        long = omega (arith, z, o, x);
        broad = omega (arith, z, s, y);
      };
      bytes = plain-bytes (stage_drawn t n m) _ refl ∙ l;
      long = o;
      broad = s;
    }

-- ---- what is shown is drawn

module _ (t : Stage) (output spare : List ℕ) (k : Staged t output spare) where
  abbrev bs : List ℕ
  bs = record_in t output spare

  pub record Settled (r : Stage) (output' spare' : List ℕ) : Type 0 where
    pub arrived : Arrived (stage_bytes t bs) output spare r output' spare'
    pub drawn : r.shown ≡ false
    pub form : r.form ≡ t.form
    pub side : r.current.inside ≡ settled_in t

  pub settled-as : {r : Stage} {output' spare' : List ℕ} → Arrived (stage_bytes t bs) output spare r output' spare' × (r.shown ≡ false) × (r.form ≡ t.form) × (r.current.inside ≡ settled_in t)
      → Settled r output' spare'
  settled-as h = record { arrived = h.0; drawn = h.1; form = h.2; side = h.3 }

  -- what is drawn of it, from output and from the spare
  pub settle-over : t.shown ≡ true → t.current.inside ≡ true
      → StageSound t (take t.current.size output) × (t.shown ≡ true) × (t.current.size ≤ length output) × (size_of t.form ≤ length spare)
  unfolding lying
  settle-over h i = (subst (λ (b : Bool). StageSound t (lying b t.current.size output spare)) i k.sound, h, k.first, k.broad)

  pub settle-back : t.shown ≡ true → t.current.inside ≡ false
      → StageSound t (take t.current.size spare) × (t.shown ≡ true) × (t.current.size ≤ length spare) × (size_of t.form ≤ length output)
  unfolding lying
  settle-back h i = (subst (λ (b : Bool). StageSound t (lying b t.current.size output spare)) i k.sound, h, k.other, k.long)

  size_is : size_of t.form ≡ length (stage_bytes t bs)
  size_is = let w = stage-reaches t bs k.sound in ap size_of (sym w.form) ∙ sym (length-encode w.pic) ∙ ap length (sym w.bytes)

  -- a buffer that begins with it
  begins-with : (d : List ℕ) → size_of t.form ≤ length d → (n : ℕ) → n ≡ size_of t.form → take n (puts d 0 (stage_bytes t bs)) ≡ stage_bytes t bs
  begins-with d l n e = ap (take n) (puts-start d _ (rw (← size_is) l)) ∙ take_at (stage_bytes t bs) _ n (sym (e ∙ size_is))

  settled : t.shown ≡ true → (n : ℕ) → n ≡ size_of t.form → (output' spare' : List ℕ) → length output' ≡ length output → length spare' ≡ length spare
      → lying (not t.current.inside) n output' spare' ≡ stage_bytes t bs → Settled (stage_drawn t n t.form) output' spare'
  unfolding stage_drawn settled_in
  settled h n e output' spare' o s l =
      let w = stage-reaches t bs k.sound in
      record {
        arrived = drawn-arrives t (stage_bytes t bs) w.pic w.in_range w.bytes t.form (sym w.form) output spare output' spare' o s n (e ∙ size_is) l
            (omega (arith, size_is, k.long)) (omega (arith, size_is, k.broad));
        drawn = refl;
        form = refl;
        side = sym (pick_true _ _ _ h);
      }

  pub settled-over : t.shown ≡ true → t.current.inside ≡ true → (n : ℕ) → n ≡ size_of t.form → (e : List ℕ) → e ≡ puts spare 0 (stage_bytes t (take t.current.size output))
      → Settled (stage_drawn t n t.form) output e
  unfolding lying
  settled-over h i n q e w =
      let z : e ≡ puts spare 0 (stage_bytes t bs) = w ∙ ap (λ (b : Bool). puts spare 0 (stage_bytes t (lying b t.current.size output spare))) (sym i) in
      settled h n q output e refl (ap length z ∙ length-puts spare 0 _)
      (ap (λ (b : Bool). lying (not b) n output e) i ∙ ap (take n) z ∙ begins-with spare k.broad n q)

  pub settled_back : t.shown ≡ true → t.current.inside ≡ false → (n : ℕ) → n ≡ size_of t.form → (e : List ℕ) → e ≡ puts output 0 (stage_bytes t (take t.current.size spare))
      → Settled (stage_drawn t n t.form) e spare
  unfolding lying
  settled_back h i n q e w =
      let z : e ≡ puts output 0 (stage_bytes t bs) = w ∙ ap (λ (b : Bool). puts output 0 (stage_bytes t (lying b t.current.size output spare))) (sym i) in
      settled h n q e spare (ap length z ∙ length-puts output 0 _) refl
      (ap (λ (b : Bool). lying (not b) n e spare) i ∙ ap (take n) z ∙ begins-with output k.long n q)

  pub settled_plain : t.shown ≡ false → Settled t output spare
  unfolding settled_in
  settled_plain h = record { arrived = record { staged = k; bytes = refl; long = refl; broad = refl }; drawn = h; form = refl; side = sym (pick-false _ _ _ h) }

-- ---- a property that is drawn

module _ (p : Property) (t : Stage) (output spare : List ℕ) (k : Drawable p t output spare) where
  pub record Drawn (r : Stage) (output' spare' : List ℕ) : Type 0 where
    pub arrived : Arrived (bytes_in (record_after p (record_in t output spare))) output spare r output' spare'
    pub drawn : r.shown ≡ false
    pub form : Gives (form_after p t.form) r.form
    pub side : r.current.inside ≡ not t.current.inside

  pub drawn-as : {r : Stage} {output' spare' : List ℕ} → Arrived (bytes_in (record_after p (record_in t output spare))) output spare r output' spare' × (r.shown ≡ false)
      × Gives (form_after p t.form) r.form × (r.current.inside ≡ not t.current.inside) → Drawn r output' spare'
  drawn-as h = record { arrived = h.0; drawn = h.1; form = h.2; side = h.3 }

  abbrev P : Pic
  P = (stage-reaches t (record_in t output spare) k.staged.sound).pic

  following : Next p P k.next
  following =
      let w = stage-reaches t (record_in t output spare) k.staged.sound in
      next_of p w.pic k.next w.in_range (ap (record_after p) (sym w.bytes ∙ plain-bytes t _ k.drawn) ∙ k.made)

  form-next : (m : Form) → Gives (form_after p t.form) m → m ≡ following.pic.form
  unfolding Gives
  form-next m g = g _ (ap (form_after p) (sym (stage-reaches t (record_in t output spare) k.staged.sound).form) ∙ following.form)

  drawn-on : (m : Form) → Gives (form_after p t.form) m → (n : ℕ) → n ≡ length k.next → (output' spare' : List ℕ) → length output' ≡ length output → length spare' ≡ length spare
      → lying (not t.current.inside) n output' spare' ≡ k.next → Drawn (stage_drawn t n m) output' spare'
  unfolding stage_drawn bytes_in
  drawn-on m g n e output' spare' o s l =
      record {
        arrived = rw k.made (drawn-arrives t k.next following.pic following.in_range following.bytes m (form-next m g) output spare output' spare' o s n e l k.long k.broad);
        drawn = refl;
        form = g;
        side = refl;
      }

  pub drawn-over : (m : Form) → Gives (form_after p t.form) m → t.current.inside ≡ true → (n : ℕ) (e : List ℕ)
      → n ≡ wrote_of (answer_of (step_run p (take t.current.size output) (length spare))) → e ≡ written (step_run p (take t.current.size output) (length spare)) spare
      → Drawn (stage_drawn t n m) output e
  unfolding lying
  drawn-over m g i n e a w =
      let q : record_after p (take t.current.size output) ≡ Ok k.next = ap (λ (b : Bool). record_after p (lying b t.current.size output spare)) (sym i) ∙ k.made in
      let z = step-wrote p _ k.next spare _ e q k.broad (refl, w) in
      drawn-on m g n (a ∙ z.0) output e refl z.2 (ap (λ (b : Bool). lying (not b) n output e) i ∙ ap (λ (j : ℕ). take j e) (a ∙ z.0) ∙ z.1)

  pub drawn-back : (m : Form) → Gives (form_after p t.form) m → t.current.inside ≡ false → (n : ℕ) (e : List ℕ)
      → n ≡ wrote_of (answer_of (step_run p (take t.current.size spare) (length output))) → e ≡ written (step_run p (take t.current.size spare) (length output)) output
      → Drawn (stage_drawn t n m) e spare
  unfolding lying
  drawn-back m g i n e a w =
      let q : record_after p (take t.current.size spare) ≡ Ok k.next = ap (λ (b : Bool). record_after p (lying b t.current.size output spare)) (sym i) ∙ k.made in
      let z = step-wrote p _ k.next output _ e q k.long (refl, w) in
      drawn-on m g n (a ∙ z.0) e spare z.2 refl (ap (λ (b : Bool). lying (not b) n e spare) i ∙ ap (λ (j : ℕ). take j e) (a ∙ z.0) ∙ z.1)

-- ---- an entry, whichever it is

bytes_after : (n : ℕ) (o : Out (List ℕ)) → bytes_in (after n o) ≡ bytes_in o
unfolding bytes_in after
bytes_after n (Err r) = refl
bytes_after n (Ok bs) = refl

taken_is : (bs : List ℕ) → bytes_in (Ok bs) ≡ bs
unfolding bytes_in
taken_is bs = refl

other-form : (p : Property) (m : Form) → moves p ≡ false → form_after p m ≡ Ok m
unfolding moves form_after
other-form Property.Other m e = refl
other-form (Property.Clap c) m e = cc
other-form (Property.Irot k) m e = cc
other-form (Property.Imir k) m e = cc
other-form (Property.Iscl k) m e = cc

-- the side and the kind of what is held, and of what is drawn
held-side : (t : Stage) (m : Form) (s : Sight) (a b : Bool) → a ≡ true → b ≡ not t.shown → settled_in (stage_held t m s) ≡ pick (a && b) (not (settled_in t)) (settled_in t)
unfolding settled_in stage_held pick not
held-side t m s a b e f = rw (e, f) (go t.shown t.current.inside)
  where
    go : (h i : Bool) → not i ≡ pick (not h) (not (pick h (not i) i)) (pick h (not i) i)
    go true true = refl
    go true false = refl
    go false true = refl
    go false false = refl

begins-held : (p : Property) (m : Form) (h : Bool) → moves p ≡ true → is_held p m ≡ true → begins p m h ≡ not h
unfolding begins
begins-held p m h a b = rw (a, b) (go h)
  where
    go : (h : Bool) → not (h && true) ≡ not h
    go true = refl
    go false = refl

begins-drawn : (p : Property) (m : Form) (h : Bool) → moves p ≡ true → is_held p m ≡ false → begins p m h ≡ true
unfolding begins
begins-drawn p m h a b = rw (a, b) (go h)
  where
    go : (h : Bool) → not (h && false) ≡ true
    go true = refl
    go false = refl

module _ (flag : Bool) (x : PropertyEntry) (t : Stage) (output spare : List ℕ) (k : Able flag x t output spare) where
  abbrev here : List ℕ
  here = record_in t output spare

  -- the next stage is the plan's, and has its bytes
  pub record Moved (r : Stage) (output' spare' : List ℕ) : Type 0 where
    pub arrived : Arrived (bytes_in (entry_bytes flag x (stage_bytes t here))) output spare r output' spare'
    pub planned : Planned flag x t r

  pub moved_as : {r : Stage} {output' spare' : List ℕ} → Arrived (bytes_in (entry_bytes flag x (stage_bytes t here))) output spare r output' spare' × Planned flag x t r → Moved r output' spare'
  moved_as h = record { arrived = h.0; planned = h.1 }

  abbrev p : Property
  p = x.property

  -- one that does not draw
  pub moved_none : draws flag x ≡ false → Moved t output spare
  unfolding draws begins shown_after Gives
  moved_none h =
      let w = idle h in
      record {
        arrived = record { staged = k.staged; bytes = sym (ap bytes_in (skipped-is flag x (stage_bytes t here) h) ∙ taken_is (stage_bytes t here)); long = refl; broad = refl };
        planned = record { form = λ m e. done-same t.form m (sym w.0 ∙ e); side = sym w.1; kind = sym w.2 };
      }
    where
      idle : draws flag x ≡ false → (pick (applies flag x) (form_after p t.form) (Ok t.form) ≡ Ok t.form)
          × (pick (applies flag x && begins p t.form t.shown) (not (settled_in t)) (settled_in t) ≡ settled_in t)
          × (pick (applies flag x) (shown_after p t.form t.shown) t.shown ≡ t.shown)
      idle h = by-test (applies flag x)
          (λ a.
          let n : moves p ≡ false = sym (ap (λ (z : Bool). z && moves p) a) ∙ h in
          (pick_true _ _ _ a ∙ other-form p t.form n, pick-false _ _ _ (ap₂ ◌&&◌ a (ap (λ (z : Bool). z && not (t.shown && is_held p t.form)) n)), pick_true _ _ _ a ∙ pick-false _ _ _ n))
          (λ a. (pick-false _ _ _ a, pick-false _ _ _ (ap (λ (z : Bool). z && begins p t.form t.shown) a), pick-false _ _ _ a))

  -- one that a sight holds
  pub moved-held : draws flag x ≡ true → is_held p t.form ≡ true → (r : Stage) → HeldAfter p t r → Moved r output spare
  unfolding draws HeldAfter Gives stage_held shown_after
  moved-held h i r g =
      let d = and-true _ _ h in
      let made : record_after p (stage_bytes t here) ≡ Ok k.next = sym (pick_true _ _ _ d.0) ∙ k.made in
      let w = stage-held p t here k.next k.staged.sound i made in
      let is : r ≡ stage_held t w.form w.sight = g w.form w.sight w.formed w.sighted in
      rw is (record { arrived = arrives w; planned = plans d w })
    where
      arrives : (w : Held p t here k.next) → Arrived (bytes_in (entry_bytes flag x (stage_bytes t here))) output spare (stage_held t w.form w.sight) output spare
      arrives w = record {
        staged = record { sound = w.sound; first = k.staged.first; other = k.staged.other; long = omega (arith, w.size, k.long); broad = omega (arith, w.size, k.broad) };
        bytes = w.bytes ∙ sym (ap bytes_in k.made ∙ taken_is k.next);
        long = refl;
        broad = refl;
      }

      plans : (applies flag x ≡ true) × (moves p ≡ true) → (w : Held p t here k.next) → Planned flag x t (stage_held t w.form w.sight)
      plans d w = record {
        form = λ m e. done-same _ m (sym w.formed ∙ sym (pick_true _ _ _ d.0) ∙ e);
        side = held-side t w.form w.sight (applies flag x) _ d.0 (begins-held p t.form t.shown d.1 i);
        kind = sym (pick_true _ _ _ d.0 ∙ pick_true _ _ _ d.1 ∙ i);
      }

  -- one that is drawn: what is shown is drawn before it
  module _ (h : draws flag x ≡ true) (i : is_held p t.form ≡ false) (u : Stage) (d f : List ℕ) (w : Settled t output spare k.staged u d f) where
    abbrev applied : (applies flag x ≡ true) × (moves p ≡ true)
    unfolding draws
    applied = and-true _ _ h

    lies-there : record_in u d f ≡ stage_bytes t here
    lies-there = sym (plain-bytes u _ w.drawn) ∙ w.arrived.bytes

    pub settled-drawable : Drawable p u d f
    settled-drawable = record {
      staged = w.arrived.staged;
      drawn = w.drawn;
      next = k.next;
      made = ap (record_after p) lies-there ∙ sym (pick_true _ _ _ applied.0) ∙ k.made;
      long = omega (arith, w.arrived.long, k.long);
      broad = omega (arith, w.arrived.broad, k.broad);
    }

    pub moved-drawn : (r : Stage) (output' spare' : List ℕ) → Drawn p u d f settled-drawable r output' spare' → Moved r output' spare'
    unfolding settled_in shown_after Gives
    moved-drawn r output' spare' v = record {
      arrived = record {
        staged = v.arrived.staged;
        bytes = v.arrived.bytes ∙ ap bytes_in (ap (record_after p) lies-there ∙ sym (pick_true _ _ _ applied.0));
        long = v.arrived.long ∙ w.arrived.long;
        broad = v.arrived.broad ∙ w.arrived.broad;
      };
      planned = record {
        form = λ m e. v.form m (ap (form_after p) w.form ∙ sym (pick_true _ _ _ applied.0) ∙ e);
        side = pick-false _ _ _ v.drawn ∙ v.side ∙ ap not w.side ∙ sym (pick_true _ _ _ (true-and _ _ applied.0 (begins-drawn p t.form t.shown applied.1 i)));
        kind = v.drawn ∙ sym (pick_true _ _ _ applied.0 ∙ pick_true _ _ _ applied.1 ∙ i);
      };
    }

-- ---- the loop

plan-is : {m n : Form} {l : ℕ} {a b g h : Bool} → m ≡ n → a ≡ b → g ≡ h → ◌≡◌ {A = ChainPlan} (record { form = m; longest = l; even = a; shown = g }) (record { form = n; longest = l; even = b; shown = h })
plan-is p q r = rw (p, q, r)

-- where a plan leads from the next stage
lands-on : (flag : Bool) (x : PropertyEntry) (es : List PropertyEntry) (t r : Stage) → Lands flag (x ∷ es) t → Planned flag x t r → Lands flag es r
unfolding chain_plan_after Gives
lands-on flag x es t r k p =
    let a = fold_done chain_plan_after flag x es _ k.plan k.run in
    let c = by-test (applies flag x) (applied a.0 a.1) (skipped a.0 a.1) in
    record { longest = c.0; plan = k.plan; run = rw c.1 a.2; even = k.even }
  where
    start : ChainPlan
    start = record { form = t.form; longest = k.longest; even = settled_in t; shown = t.shown }

    at : ℕ → ChainPlan
    at l = record { form = r.form; longest = l; even = settled_in r; shown = r.shown }

    applied : (c : ChainPlan) → pick (applies flag x) (chain_plan_after x.property start) (Ok start) ≡ Ok c → applies flag x ≡ true → (l : ℕ) × (at l ≡ c)
    applied c e h =
        let b = and_then-done _ _ c (sym (pick_true _ _ _ h) ∙ e) in
        let m : r.form ≡ b.0 = p.form b.0 (pick_true _ _ _ h ∙ b.1) in
        let q = done-same _ c b.2 in
        let side = p.side ∙ ap (λ (z : Bool). pick (z && begins x.property t.form t.shown) (not (settled_in t)) (settled_in t)) h in
        (max k.longest (size_of b.0), plan-is m side (p.kind ∙ pick_true _ _ _ h) ∙ q)

    skipped : (c : ChainPlan) → pick (applies flag x) (chain_plan_after x.property start) (Ok start) ≡ Ok c → applies flag x ≡ false → (l : ℕ) × (at l ≡ c)
    skipped c e h =
        let m : r.form ≡ t.form = p.form t.form (pick-false _ _ _ h) in
        let q = done-same start c (sym (pick-false _ _ _ h) ∙ e) in
        (k.longest, plan-is m (p.side ∙ pick-false _ _ _ (ap (λ (z : Bool). z && begins x.property t.form t.shown) h)) (p.kind ∙ pick-false _ _ _ h) ∙ q)

-- so many entries are left from a place on, and a stage is reached
pub record Going (s : List ℕ) (flag : Bool) (end d f : List ℕ) (left next : ℕ) (t : Stage) (output spare : List ℕ) : Type 0 where
  pub ready : Ready s left next flag t output spare
  pub same : chain_bytes s left next flag (stage_bytes t (record_in t output spare)) ≡ end
  pub long : length output ≡ length d
  pub broad : length spare ≡ length f

pub going-begins : (s : List ℕ) (flag : Bool) (left next : ℕ) (m : Form) (h : Current) (t : Stage) (output spare : List ℕ) → t ≡ stage_start m h → Ready s left next flag (stage_start m h) output spare
    → Going s flag (chain_bytes s left next flag (record_in t output spare)) output spare left next t output spare
unfolding stage_start
going-begins s flag left next m h t output spare e k = rw e (record { ready = k; same = ap (chain_bytes s left next flag) (plain-bytes (stage_start m h) _ refl); long = refl; broad = refl })

module _ (s : List ℕ) (flag : Bool) (end d f : List ℕ) (left next : ℕ) (t : Stage) (output spare : List ℕ)
    (g : Going s flag end d f left next t output spare) (x : PropertyEntry × ℕ) (some : 0 < left) (at : entry_at s next ≡ Ok x) where
  abbrev reached : List ℕ
  reached = stage_bytes t (record_in t output spare)

  -- the entry, and what is left after it
  abbrev split : (rest : List PropertyEntry) × (entries_at (left - 1) s x.1 ≡ Ok rest) × (g.ready.entries ≡ x.0 ∷ rest)
  split = entries-step left s next g.ready.entries x some g.ready.read at

  abbrev room : Roomy (length output) (length spare) flag (x.0 ∷ split.0) reached
  room = rw (← split.2) g.ready.room

  pub going-able : Able flag x.0 t output spare
  unfolding Roomy
  going-able = let r = room in record { staged = g.ready.staged; next = r.0; made = r.1; long = r.2; broad = r.3 }

  onward : (b : List ℕ) → entry_bytes flag x.0 reached ≡ Ok b → chain_bytes s (left - 1) x.1 flag b ≡ end
  unfolding chain_bytes
  onward b q =
      ap bytes_in (then-done _ split.1) ∙ sym (bytes_after 1 _)
      ∙ ap bytes_in (sym (fold_step record_after flag x.0 split.0 reached b q) ∙ ap (λ (es : List PropertyEntry). fold_chain record_after flag es reached) (sym split.2) ∙ sym (then-done _ g.ready.read))
      ∙ g.same

  pub going_on : (r : Stage) (output' spare' : List ℕ) → Moved flag x.0 t output spare going-able r output' spare' → Going s flag end d f (left - 1) x.1 r output' spare'
  unfolding Roomy
  going_on r output' spare' m =
      let w = room in
      let a = m.arrived in
      let i : stage_bytes r (record_in r output' spare') ≡ w.0 = a.bytes ∙ ap bytes_in w.1 ∙ taken_is w.0 in
      record {
        ready = record {
          entries = split.0;
          read = split.1;
          staged = a.staged;
          lands = lands-on flag x.0 split.0 t r (rw split.2 at g.ready.lands) m.planned;
          room = rw (i, a.long, a.broad) w.4;
        };
        same = rw i (onward w.0 w.1);
        long = a.long ∙ g.long;
        broad = a.broad ∙ g.broad;
      }

-- no entry is left: once what is shown is drawn, output begins with the last record
pub going-ends : (s : List ℕ) (flag : Bool) (end d f : List ℕ) (left next : ℕ) (t : Stage) (output spare : List ℕ) → (g : Going s flag end d f left next t output spare) → left ≤ 0
    → (u : Stage) (output' spare' : List ℕ) → Settled t output spare g.ready.staged u output' spare' → Ended u.current.size end d output' f spare'
unfolding chain_bytes bytes_in lying fold_chain
going-ends s flag end d f left next t output spare g z u output' spare' w =
    let n = entries_none left s next g.ready.entries z g.ready.read in
    let k : Lands flag [] t = rw n at g.ready.lands in
    let i : u.current.inside ≡ true = w.side ∙ ap (λ (c : ChainPlan). c.even) (done-same _ k.plan k.run) ∙ k.even in
    let c : take u.current.size output' ≡ end =
    sym (ap (λ (b : Bool). lying b u.current.size output' spare') i) ∙ sym (plain-bytes u _ w.drawn) ∙ w.arrived.bytes
    ∙ sym (ap bytes_in (then-done _ g.ready.read ∙ ap (λ (es : List PropertyEntry). fold_chain record_after flag es (stage_bytes t (record_in t output spare))) n ∙ fold-none record_after flag _)) ∙ g.same in
    record {
      size = sym (ap length (sym c) ∙ length-take-le u.current.size output' w.arrived.staged.first);
      begins = c;
      inside = w.arrived.staged.first;
      output = w.arrived.long ∙ g.long;
      spare = w.arrived.broad ∙ g.broad;
    }

pub starts-at : (m : Form) (h : Current) (t : Stage) (output spare : List ℕ) → t ≡ stage_start m h → record_in t output spare ≡ lying h.inside h.size output spare
unfolding stage_start
starts-at m h t output spare e = ap (λ (u : Stage). record_in u output spare) e

-- the composed record lies where the plan of its form says
pub start-lands : (flag : Bool) (es : List PropertyEntry) (m : Form) (h : Current) (b : ChainPlan) → h.inside ≡ b.even
    → (d : ChainPlan) × (fold_chain chain_plan_after flag es (record { form = m; longest = size_of m; even = b.even; shown = false }) ≡ Ok d) × (d.even ≡ true) → Lands flag es (stage_start m h)
unfolding stage_start settled_in pick
start-lands flag es m h b i k = record { longest = size_of m; plan = k.0; run = rw i k.1; even = k.2 }
