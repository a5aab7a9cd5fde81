-- Where a chain leads by forms is where it leads by pictures.
use Rattle.std.specs.Prelude.{Ok}
use mathlib.Core.Bool.{Bool, false, not, true}
use mathlib.Core.List.{List, [], ◌∷◌}
use mathlib.Core.Path.{◌∙◌, ◌≡◌, ap, ap₂, refl, sym}
use Prim.Native.Nat.{max, ℕ}
use Rattle.laws.proofs.Order.{by-test}
use Rattle.laws.proofs.Out.{Holds, Same, alike, both, done-holds, done-same, holds-done, pick-holds, same_left, then-both, then-holds, then_same}
use Rattle.laws.specs.Out.{Out, and_then}
use Rattle.laws.specs.Pick.{pick}
use Rattle.image.specs.Sound.{FormSound}
use Rattle.image.specs.declared.format.Form.{Form}
use Rattle.planes.specs.inner.InRange.{InRange}
use Rattle.planes.proofs.RoundTrip.{length-encode}
use Rattle.planes.specs.Bytes.{size_of}
use Rattle.planes.specs.Picture.{Pic}
use Rattle.props.proofs.ChainLaws.{Applied, fold_same}
use Rattle.props.specs.Chain.{applies, entries_at, fold_chain}
use Rattle.props.specs.declared.entry.Property.{Property}
use Rattle.props.specs.declared.entry.PropertyEntry.{PropertyEntry}
use Rattle.motions.specs.Chain.{pic_after}
use Rattle.stages.proofs.AfterLaws.{Formed, after-form, after-sound, after-in-range}
use Rattle.stages.specs.Chain.{Drawn, first_drawn, chain_drawn, drawn_after, scaled}
use Rattle.plans.specs.declared.chain_plan.ChainPlan.{ChainPlan}
use Rattle.stages.specs.inner.Held.{begins, form_after, shown_after}
use Rattle.plans.specs.inner.ChainPlan.{chain_plan_after, chain_plan_of, chain_plan_start}

-- a course and what is drawn
pub record Leads (c : ChainPlan) (d : Drawn) : Type 0 where
  pub form : c.form ≡ d.pic.form
  pub longest : c.longest ≡ d.longest
  pub in_range : InRange d.pic

-- every property
unfoldable Any : Property → Type 0
Any p = Unit {0}

all_any : (flag : Bool) (es : List PropertyEntry) → Applied Any flag es
unfolding Applied Any
all_any flag [] = tt
all_any flag (e ∷ es) = (λ h. tt, all_any flag es)

formed-in-range : (o : Out Form) (u : Out Pic) → Same Formed o u → Holds InRange u → Same (λ m Q. (m ≡ Q.form) × InRange Q) o u
unfolding Holds Formed
formed-in-range _ _ alike h = alike
formed-in-range _ _ (both e) h = both (e, h)

leads-after : (p : Property) (c : ChainPlan) (d : Drawn) → Any p → Leads c d → Same Leads (chain_plan_after p c) (drawn_after p d)
unfolding chain_plan_after drawn_after
leads-after p c d i l =
    then_same _ Leads (form_after p c.form) (pic_after scaled p d.pic) _ _
    (ap-same l.form (formed-in-range _ _ (after-form p d.pic l.in_range.sound) (after-in-range p d.pic l.in_range)))
    (λ m Q k. both (record {
      form = k.0;
      longest = ap₂ max l.longest (ap size_of k.0 ∙ sym (length-encode Q));
      in_range = k.1;
    }))
  where
    ap-same : {m n : Form} → m ≡ n → Same (λ m Q. (m ≡ Q.form) × InRange Q) (form_after p n) (pic_after scaled p d.pic) → Same (λ m Q. (m ≡ Q.form) × InRange Q) (form_after p m) (pic_after scaled p d.pic)
    ap-same e h = rw e h

-- a chain by forms is refused as the chain by pictures, or leads to the form and to the longest record
pub plan-drawn : (es : List PropertyEntry) (flag : Bool) (P : Pic) → InRange P → Same Leads (chain_plan_of es flag P.form) (chain_drawn es flag P)
unfolding chain_plan_of chain_drawn chain_plan_start first_drawn
plan-drawn es flag P k =
    fold_same Leads Any chain_plan_after drawn_after leads-after flag es (all_any flag es) _ _
    (record { form = refl; longest = sym (length-encode P); in_range = k })

-- what is drawn is a sound picture whose samples fit their bytes
leads-in-range : (o : Out ChainPlan) (u : Out Drawn) → Same Leads o u → Holds (λ d. InRange d.pic) u
unfolding Holds
leads-in-range _ _ alike = tt
leads-in-range _ _ (both l) = l.in_range

pub chain-in-range : (es : List PropertyEntry) (flag : Bool) (P : Pic) → InRange P → Holds (λ d. InRange d.pic) (chain_drawn es flag P)
chain-in-range es flag P k = leads-in-range _ _ (plan-drawn es flag P k)

-- the form reached is sound
pub plan-sound : (p : Property) (c : ChainPlan) → FormSound c.form → Holds (λ e. FormSound e.form) (chain_plan_after p c)
unfolding chain_plan_after Holds
plan-sound p c k = then-holds FormSound _ (form_after p c.form) _ (after-sound p c.form k) (λ m s. s)

-- ---- where the last record ends

-- a plan with the other side
unfoldable other_side : ChainPlan → ChainPlan
other_side c = record { form = c.form; longest = c.longest; even = not c.even; shown = c.shown }

unfoldable OtherSide : ChainPlan → ChainPlan → Type 0
OtherSide c d = d ≡ other_side c

not-over : (t e : Bool) → pick t (not (not e)) (not e) ≡ not (pick t (not e) e)
unfolding pick not
not-over true e = refl
not-over false e = refl

other_after : (p : Property) (c d : ChainPlan) → Any p → OtherSide c d → Same OtherSide (chain_plan_after p c) (chain_plan_after p d)
unfolding OtherSide other_side chain_plan_after
other_after p c d i e =
    rw e (then-both (λ m. Unit {0}) OtherSide (form_after p c.form) _ _ (done-holds _ _ (λ m q. tt))
    (λ m q. both (ap (λ (z : Bool). record { form = m; longest = max c.longest (size_of m); even = z; shown = shown_after p c.form c.shown }) (not-over (begins p c.form c.shown) c.even))))

-- a plan that begins where it says ends in output
pub plan-lands : (flag : Bool) (es : List PropertyEntry) (m : Form) (b : ChainPlan) → chain_plan_of es flag m ≡ Ok b
    → (d : ChainPlan) × (fold_chain chain_plan_after flag es (record { form = m; longest = size_of m; even = b.even; shown = false }) ≡ Ok d) × (d.even ≡ true)
unfolding chain_plan_of chain_plan_start OtherSide other_side
plan-lands flag es m b q = by-test b.even
    (λ t. rw t (b, q, t))
    (λ t.
    let o = same_left OtherSide _ _ (fold_same OtherSide Any chain_plan_after chain_plan_after other_after flag es (all_any flag es) _ (record { form = m; longest = size_of m; even = false; shown = false }) refl) b q in
    rw t (o.0, o.1, ap (λ (k : ChainPlan). k.even) o.2 ∙ ap not t))

-- ---- the loop over a chain's entries

pub start-sound : (m : Form) → FormSound m → FormSound (chain_plan_start m).form
unfolding chain_plan_start
start-sound m k = k

pub entry-sound : (flag : Bool) (e : PropertyEntry) (c b : ChainPlan) → FormSound c.form → pick (applies flag e) (chain_plan_after e.property c) (Ok c) ≡ Ok b → FormSound b.form
entry-sound flag e c b k q =
    holds-done (λ z. FormSound z.form) _ b (pick-holds (λ z. FormSound z.form) (applies flag e) (chain_plan_after e.property c) (Ok c) (plan-sound e.property c k) (this-sound c k)) q
  where
    this-sound : (c : ChainPlan) → FormSound c.form → Holds (λ z. FormSound z.form) (Ok c)
    this-sound c k = done-holds _ (Ok c) (λ a e. rw (← done-same c a e) k)

pub plan-start : (n : ℕ) (s : List ℕ) (at : ℕ) (flag : Bool) (m : Form) (c : ChainPlan) → c ≡ chain_plan_start m
    → and_then (entries_at n s at) (λ es. chain_plan_of es flag m) ≡ and_then (entries_at n s at) (λ es. fold_chain chain_plan_after flag es c)
unfolding chain_plan_of
plan-start n s at flag m c e = ap (λ (k : ChainPlan). and_then (entries_at n s at) (λ es. fold_chain chain_plan_after flag es k)) (sym e)
