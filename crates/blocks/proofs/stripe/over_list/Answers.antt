use mathlib.Core.Path.{◌∙◌, ◌≡◌, ap, refl, sym}
use Prim.Native.Nat.{ℕ}
use native.Mathlib.Omega.{arith}
use lib.ListN.{get_or}
use Rattle.blend.specs.inner.Stripe.{across_at, down_at}
use Rattle.blocks.proofs.ListLaws.{entries_next, entries_none, entry-held, list_all}
use Rattle.blocks.specs.inner.Listed.{over_entries, over_entry}
use Rattle.blocks.proofs.stripe.over_list.Goals as goal
use Rattle.blocks.proofs.stripe.over_list.Goals.{After-loop-k}

ended : (c : After-loop-k) → c.loop-k.k ≡ c.args.n
ended c = omega (arith, c.loop-k-test.false)

pub loop-k-init : goal.loop-k-init
loop-k-init c =
    (refl, c.requires.7, λ j h. sym (entries_none _ _ _ _ _ _ _ _ _ _))

pub over_entry-requires : goal.over_entry-requires
over_entry-requires c =
    (c.requires.0, c.requires.1, c.requires.2, c.requires.3, omega (arith, c.requires.4, c.loop-k.invariant.0), c.requires.5, c.requires.6, c.loop-k.invariant.1, c.loop-k-test.true)

pub loop-k-preserved : goal.loop-k-preserved
loop-k-preserved c = (
  c.over_entry.auto.acc ∙ c.loop-k.invariant.0,
  λ j h. rw (c.over_entry.ensures j h) (entry-held _ _ _ _ _ _ _ _ _ _ _ (c.loop-k.invariant.1 j h) c.requires.2),
  λ j h. c.over_entry.ensures j h
      ∙ ap (over_entry _ _ _ _ _ _ _ _ _ _) (c.loop-k.invariant.2 j h)
      ∙ sym (entries_next _ _ _ _ _ _ _ _ _ _ _),
)

pub returns : goal.returns
returns c =
    λ j h. c.loop-k.invariant.2 j h
    ∙ ap (λ (m : ℕ). over_entries c.args.body.now c.args.tray.now c.args.premultiplied.now c.args.d
    c.args.entries.now c.args.top c.args.part (across_at c.args.run j) (down_at c.args.run j) m
    (get_or c.args.acc.now j 0))
    (ended c)
    ∙ list_all _ _ _ _ _ _ _ _ c.requires.5 c.requires.3.wide _ _ c.requires.6 j h _
