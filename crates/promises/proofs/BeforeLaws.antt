-- What stood before a request of document 02, in what stands now.
use Rattle.std.specs.Prelude.{Ok, Err}
use mathlib.Core.List.{List}
use mathlib.Core.Path.{◌∙◌, ◌≡◌, sym}
use Prim.Native.Nat.{◌+◌, ℕ}
use native.Mathlib.Omega.{arith}
use lib.Dec.{eqb, ltb}
use borrow.Author.Tests.{eqb-false, le-ltb, ltb-false, ne_eqb}
use Rattle.laws.proofs.Order.{apart, by-test, positive}
use Rattle.laws.proofs.Out.{refuse-no, refuse-yes, then-done}
use Rattle.laws.specs.Out.{Out, reason}
use Rattle.records.specs.Record.{record_of}
use Rattle.records.specs.declared.record.Frame.{Frame}
use Rattle.sizes.proofs.MarginLaws.{around-fits, around-inside, between-around, fits-around}
use Rattle.sizes.specs.Margins.{between, fits_in}
use Rattle.sizes.specs.Sound.{Inside}
use Rattle.sizes.specs.declared.clap.CropRect.{CropRect}
use Rattle.transform.proofs.Runs.{crop-outside, crop-taken}
use Rattle.transform.specs.Run.{crop_run}
use Rattle.promises.specs.Before.{rect_judged, rect_run}

-- ---- crop by a rectangle alone: its four tests in turn

inside : {A : Type 0} (r : CropRect) (w h : ℕ) (o : Out A) → Inside r w h → rect_judged r w h o ≡ o
unfolding rect_judged
inside r w h o i =
    refuse-no _ _ (ne_eqb r.width 0 (λ z. omega (arith, i.wide)))
    ∙ refuse-no _ _ (ne_eqb r.height 0 (λ z. omega (arith, i.tall)))
    ∙ refuse-no _ _ (le-ltb w _ i.across)
    ∙ refuse-no _ _ (le-ltb h _ i.down)

outside : {A : Type 0} (r : CropRect) (w h : ℕ) (o : Out A) → (Inside r w h → ⊥) → rect_judged r w h o ≡ Err (reason 9)
unfolding rect_judged
outside r w h o n =
    by-test (eqb r.width 0) (refuse-yes _ _) (λ a. refuse-no _ _ a
    ∙ by-test (eqb r.height 0) (refuse-yes _ _) (λ b. refuse-no _ _ b
    ∙ by-test (ltb w (r.x + r.width)) (refuse-yes _ _) (λ c. refuse-no _ _ c
    ∙ by-test (ltb h (r.y + r.height)) (refuse-yes _ _) (λ d. absurd (n (record {
      across = ltb-false _ _ c;
      down = ltb-false _ _ d;
      wide = positive _ (eqb-false _ 0 a);
      tall = positive _ (eqb-false _ 0 b);
    }))))))

-- with the margins about a rectangle, crop answers what it did by the rectangle alone, whether it lies inside or not
pub crop-before : (s : List ℕ) (fr : Frame) (r : CropRect) (room : ℕ) → record_of s ≡ Ok fr → crop_run s (between r fr.form.width fr.form.height) room ≡ rect_run s r room
unfolding between rect_run
crop-before s fr r room e =
    let w = fr.form.width in
    let h = fr.form.height in
    let k = between r w h in
    by-test (fits_in k w h)
    (λ t. crop-taken s fr e k room t ∙ sym (then-done _ e ∙ inside r w h _ (around-inside k w h (fits-around k w h t))))
    (λ t. crop-outside s fr e k room t ∙ sym (then-done _ e ∙ outside r w h _ (λ i. let f = around-fits k w h (between-around r w h i) in apart (cc))))
