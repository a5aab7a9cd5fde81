-- Laws of sizes: a chain keeps within a picture's limits.
use Rattle.std.specs.Prelude.{Ok}
use mathlib.Core.Bool.{Bool, false, true}
use mathlib.Core.List.{List}
use mathlib.Core.Path.{◌≡◌}
use Prim.Native.Nat.{◌%◌}
use native.Mathlib.Nat.{le_trans, mul_comm}
use native.Mathlib.Omega.{arith}
use Rattle.laws.proofs.Order.{mul-below}
use Rattle.laws.proofs.Out.{Holds, and_then-done, done-holds, done-same}
use Rattle.laws.specs.Out.{Out}
use Rattle.laws.specs.Pick.{pick}
use Rattle.image.specs.Format.{odd}
use Rattle.image.specs.Sound.{SizeSound}
use Rattle.image.specs.declared.size.Size.{Size}
use Rattle.sizes.proofs.ApertureLaws.{resolve-inside}
use Rattle.sizes.proofs.ScaleLaws.{scale-sound, sound-as}
use Rattle.sizes.specs.Sound.{Inside}
use Rattle.sizes.specs.declared.clap.Clap.{Clap}
use Rattle.sizes.specs.declared.clap.CropRect.{CropRect}
use Rattle.props.proofs.ChainLaws.{fold-holds}
use Rattle.props.specs.Chain.{fold_chain}
use Rattle.props.specs.Size.{size_after, swapped}
use Rattle.props.specs.declared.entry.Property.{Property}
use Rattle.props.specs.declared.entry.PropertyEntry.{PropertyEntry}

clap-sound : (c : Clap) (z : Size) (r : CropRect) (y : Size) → SizeSound z → Inside r z.width z.height
    → ◌≡◌ {A = Size} (record { width = r.width; height = r.height }) y → SizeSound y
clap-sound c z r y s i e =
    sound-as _ y e (record {
      wide = i.wide;
      tall = i.tall;
      area = le_trans (mul-below z.width z.height r.width r.height (omega (arith, i.across)) (omega (arith, i.down))) s.area;
    })

turn-sound : (z y : Size) (b : Bool) → SizeSound z → pick {A = Out Size} b (Ok (swapped z)) (Ok z) ≡ Ok y → SizeSound y
unfolding pick swapped
turn-sound z y true s e = sound-as _ y (done-same _ y e) (record { wide = s.tall; tall = s.wide; area = rw (mul_comm z.height z.width) s.area })
turn-sound z y false s e = sound-as z y (done-same z y e) s

pub size-sound : (p : Property) (z y : Size) → SizeSound z → size_after p z ≡ Ok y → SizeSound y
unfolding size_after
size-sound Property.Other z y s e = sound-as z y (done-same z y e) s
size-sound (Property.Clap c) z y s e =
    let a = and_then-done _ _ y e in
    clap-sound c z a.0.rect y s (resolve-inside c z.width z.height a.0 a.1) (done-same _ y a.2)
size-sound (Property.Irot t) z y s e = turn-sound z y (odd (t.angle % 4)) s e
size-sound (Property.Imir m) z y s e = sound-as z y (done-same z y e) s
size-sound (Property.Iscl k) z y s e = scale-sound k z y s e

-- and a chain of them
pub chain-sound : (flag : Bool) (es : List PropertyEntry) (z : Size) → SizeSound z → Holds SizeSound (fold_chain size_after flag es z)
chain-sound flag es z s = fold-holds SizeSound size_after (λ p a i. done-holds SizeSound _ (λ y e. size-sound p a y i e)) flag es z s
