-- Where an input lies, in the numbers that the program works with.
use mathlib.Core.Bool.{false}
use mathlib.Core.Path.{◌≡◌, refl}
use Prim.Native.Nat.{◌*◌, ◌+◌, ◌-◌, min, ℕ}
use Rattle.image.specs.declared.format.Form.{Form}
use Rattle.derived.specs.declared.overlay.Placement.{Placement}
use Rattle.opaque.specs.declared.axis.Stretch.{Stretch}
use Rattle.opaque.specs.inner.Window.{stretch_of}
use Rattle.blocks.specs.inner.Listed.{hull_of}

pub hull-worked : (c : ℕ) (o : Placement) (m : Form) (a b : Stretch) (t u : ℕ) → a ≡ stretch_of false o.horizontal m.width → b ≡ stretch_of false o.vertical m.height → t ≡ b.to - 1 → u ≡ min a.to c
    → record { from = b.from * c + a.from; to = t * c + u } ≡ hull_of c o m
unfolding hull_of
hull-worked c o m a b t u e f g h = rw (g, h, e, f) refl
