-- The chain from record to record between two buffers.
use Rattle.std.specs.Prelude.{Ok, Err}
use mathlib.Core.Bool.{Bool, ◌&&◌, false, true}
use mathlib.Core.List.{List, [], ◌++◌, ◌∷◌, append-nil}
use mathlib.Core.Path.{◌∙◌, ◌≡◌, ap, refl, sym}
use Prim.Native.Nat.{◌-◌, ◌≤◌, max, ℕ}
use native.Mathlib.Nat.{le-max_left, le-max_right, le_trans}
use native.Mathlib.Omega.{arith}
use lib.ListN.{drop, drop_of_length-le, length, length-append, length-drop, replicate, take}
use lib.Seq.{length-take-le, take_all, take_at}
use Rattle.laws.proofs.Order.{by-test, pick-false, pick_true}
use Rattle.laws.proofs.Out.{and_then-done, done-after, done-same, fitted-room, same-done, then-done}
use borrow.Rule.Slice.PartMut.{put_mid}
use Rattle.laws.specs.Out.{Out, and_then, answer_of, fitted, written}
use Rattle.laws.specs.Pick.{pick}
use Rattle.records.specs.Record.{record_of}
use Rattle.planes.specs.inner.InRange.{InRange}
use Rattle.planes.specs.Bytes.{encode}
use Rattle.planes.specs.Picture.{Pic}
use Rattle.props.proofs.ChainLaws.{fold_done, fold_step}
use Rattle.props.specs.Chain.{applies, fold_chain}
use Rattle.sizes.specs.declared.clap.Clap.{Clap}
use Rattle.props.specs.declared.entry.Imir.{Imir}
use Rattle.props.specs.declared.entry.Irot.{Irot}
use Rattle.props.specs.declared.entry.Property.{Property}
use Rattle.props.specs.declared.entry.PropertyEntry.{PropertyEntry}
use Rattle.sizes.specs.declared.iscl.Iscl.{Iscl}
use Rattle.motions.specs.Chain.{pic_after}
use Rattle.transform.specs.Run.{clap_run, imir_run, irot_run}
use Rattle.resample.specs.Run.{iscl_run}
use Rattle.stages.proofs.AfterLaws.{Shows, after-bytes}
use Rattle.stages.specs.Chain.{Drawn, drawn_after, scaled}
use Rattle.chains.specs.inner.Apply.{Ended, Roomy, draws, step_run, wrote_of}
use Rattle.stages.specs.inner.Stage.{record_after}
use Rattle.stages.specs.inner.Held.{moves}

-- ---- pictures and their records along a chain

-- one entry of a chain that is drawn
record Step (flag : Bool) (e : PropertyEntry) (P : Pic) (l : ℕ) (b : Drawn) : Type 0 where
  bytes : pick (applies flag e) (record_after e.property (encode P)) (Ok (encode P)) ≡ Ok (encode b.pic)
  in_range : InRange b.pic
  grows : l ≤ b.longest
  fits : length (encode b.pic) ≤ b.longest

drawn-step : (flag : Bool) (e : PropertyEntry) (P : Pic) (l : ℕ) (b : Drawn) → InRange P → length (encode P) ≤ l
    → pick (applies flag e) (drawn_after e.property (record { pic = P; longest = l })) (Ok (record { pic = P; longest = l })) ≡ Ok b → Step flag e P l b
unfolding drawn_after
drawn-step flag e P l b k fits q = by-test (applies flag e) applied skipped
  where
    p : Property
    p = e.property

    applied : applies flag e ≡ true → Step flag e P l b
    applied t =
        let a = and_then-done (pic_after scaled p P) _ b (sym (pick_true _ _ _ t) ∙ q) in
        let s = same-done Shows _ _ (after-bytes p P k) a.0 a.1 in
        let i : record { pic = a.0; longest = max l (length (encode a.0)) } ≡ b = done-same _ b a.2 in
        rw (← i) (record {
          bytes = pick_true _ _ _ t ∙ s.1 ∙ ap Ok s.2.bytes;
          in_range = s.2.in_range;
          grows = le-max_left l (length (encode a.0));
          fits = le-max_right l (length (encode a.0));
        })

    skipped : applies flag e ≡ false → Step flag e P l b
    skipped t =
        let i : record { pic = P; longest = l } ≡ b = done-same _ b (sym (pick-false _ _ _ t) ∙ q) in
        rw (← i) (record { bytes = pick-false _ _ _ t; in_range = k; grows = omega arith; fits = fits })

-- a chain on a picture, and on its record
pub record Carried (output spare : ℕ) (flag : Bool) (es : List PropertyEntry) (P : Pic) (l : ℕ) (d : Drawn) : Type 0 where
  pub room : Roomy output spare flag es (encode P)
  pub ends : fold_chain record_after flag es (encode P) ≡ Ok (encode d.pic)
  pub grows : l ≤ d.longest

pub chain-carried : (output spare : ℕ) (flag : Bool) (es : List PropertyEntry) (P : Pic) (l : ℕ) (d : Drawn) → InRange P → length (encode P) ≤ l
    → fold_chain drawn_after flag es (record { pic = P; longest = l }) ≡ Ok d → d.longest ≤ output → d.longest ≤ spare → Carried output spare flag es P l d
unfolding fold_chain Roomy
chain-carried output spare flag [] P l d k fits q o s =
    let i : record { pic = P; longest = l } ≡ d = done-same _ d q in
    rw (← i) (record { room = tt; ends = refl; grows = omega arith })
chain-carried output spare flag (e ∷ es) P l d k fits q o s =
    let a = fold_done drawn_after flag e es _ d q in
    let b = a.0 in
    let t = drawn-step flag e P l b k fits a.1 in
    let c = chain-carried output spare flag es b.pic b.longest d t.in_range t.fits a.2 o s in
    record {
      room = (encode b.pic, t.bytes, le_trans (le_trans t.fits c.grows) o, le_trans (le_trans t.fits c.grows) s, c.room);
      ends = fold_step record_after flag e es (encode P) (encode b.pic) t.bytes ∙ done-after 1 _ _ c.ends;
      grows = le_trans t.grows c.grows;
    }

-- ---- the loop

-- the record of an entry that does not draw
other-is : (p : Property) (bs : List ℕ) → moves p ≡ false → record_after p bs ≡ Ok bs
unfolding moves record_after
other-is Property.Other bs e = refl
other-is (Property.Clap c) bs e = cc
other-is (Property.Irot k) bs e = cc
other-is (Property.Imir k) bs e = cc
other-is (Property.Iscl k) bs e = cc

pub skipped-is : (flag : Bool) (e : PropertyEntry) (bs : List ℕ) → draws flag e ≡ false → pick (applies flag e) (record_after e.property bs) (Ok bs) ≡ Ok bs
unfolding draws pick
skipped-is flag e bs = go (applies flag e)
  where
    go : (t : Bool) → (t && moves e.property) ≡ false → pick t (record_after e.property bs) (Ok bs) ≡ Ok bs
    go true q = other-is e.property bs q
    go false q = refl

-- what an operation answers and writes where there is room
pub step-wrote : (p : Property) (bs b d : List ℕ) (a : Out ℕ) (e : List ℕ) → record_after p bs ≡ Ok b → length b ≤ length d
    → (a ≡ answer_of (step_run p bs (length d))) × (e ≡ written (step_run p bs (length d)) d)
    → (wrote_of a ≡ length b) × (take (length b) e ≡ b) × (length e ≡ length d)
unfolding answer_of written wrote_of step_run
step-wrote p bs b d a e q l h =
    let o : and_then (record_after p bs) (fitted (length d)) ≡ Ok b = then-done _ q ∙ fitted-room (length d) b l in
    let w : e ≡ b ++ drop (length b) d = h.1 ∙ ap (λ (u : Out (List ℕ)). written u d) o in (
      ap wrote_of (h.0 ∙ ap answer_of o),
      ap (take (length b)) w ∙ take_at b _ (length b) refl,
      ap length w ∙ length-append b _ ∙ omega (arith, length-drop (length b) d),
    )

-- ---- one operation

module _ {A : Type 0} (room : ℕ) where
  fit-one : (o : Out A) (bytes : A → List ℕ) → and_then (and_then o (λ a. Ok (bytes a))) (fitted room) ≡ and_then o (λ a. fitted room (bytes a))
  unfolding and_then
  fit-one (Err r) bytes = refl
  fit-one (Ok a) bytes = refl

module _ {A B : Type 0} (room : ℕ) where
  fit-two : (o : Out A) (f : A → Out B) (bytes : A → B → List ℕ)
      → and_then (and_then o (λ a. and_then (f a) (λ b. Ok (bytes a b)))) (fitted room) ≡ and_then o (λ a. and_then (f a) (λ b. fitted room (bytes a b)))
  unfolding and_then
  fit-two (Err r) f bytes = refl
  fit-two (Ok a) f bytes = go (f a)
    where
      go : (o : Out B) → and_then (and_then o (λ b. Ok (bytes a b))) (fitted room) ≡ and_then o (λ b. fitted room (bytes a b))
      go (Err r) = refl
      go (Ok b) = refl

module _ (s : List ℕ) (room : ℕ) (p : Property) where
  pub step_other : p ≡ Property.Other → step_run p s room ≡ fitted room s
  unfolding step_run record_after and_then
  step_other e = ap (λ (q : Property). step_run q s room) e

  pub step-clap : (c : Clap) → p ≡ Property.Clap c → step_run p s room ≡ clap_run s c room
  unfolding step_run record_after clap_run
  step-clap c e = ap (λ (q : Property). step_run q s room) e ∙ fit-two room (record_of s) _ _

  pub step-irot : (k : Irot) → p ≡ Property.Irot k → step_run p s room ≡ irot_run s k room
  unfolding step_run record_after irot_run
  step-irot k e = ap (λ (q : Property). step_run q s room) e ∙ fit-one room (record_of s) _

  pub step-imir : (k : Imir) → p ≡ Property.Imir k → step_run p s room ≡ imir_run s k room
  unfolding step_run record_after imir_run
  step-imir k e = ap (λ (q : Property). step_run q s room) e ∙ fit-one room (record_of s) _

  pub step-iscl : (k : Iscl) → p ≡ Property.Iscl k → step_run p s room ≡ iscl_run s k room
  unfolding step_run record_after iscl_run
  step-iscl k e = ap (λ (q : Property). step_run q s room) e ∙ fit-two room (record_of s) _ _

-- ---- zeros

pub cleared : (d z : List ℕ) (from : ℕ) → from ≤ length d → z ≡ replicate (length (take (length d - from) (drop from d))) 0
    → put_mid from (length d - from) d z ≡ take from d ++ replicate (length d - from) 0
cleared d z from l e =
    let k : length (drop from d) ≡ length d - from = length-drop from d in
    let n : length (take (length d - from) (drop from d)) ≡ length d - from = length-take-le _ _ (omega arith) in
    ap (λ (l : List ℕ). take from d ++ l)
    (ap (λ (l : List ℕ). l ++ drop (length d - from) (drop from d)) (e ∙ ap (λ (m : ℕ). replicate m 0) n)
    ∙ ap (λ (l : List ℕ). replicate (length d - from) 0 ++ l) (drop_of_length-le (drop from d) (omega arith)) ∙ append-nil _)

pub cleared-none : (d : List ℕ) (from : ℕ) → length d ≤ from → d ≡ take from d ++ replicate (length d - from) 0
cleared-none d from l =
    let z : length d - from ≡ 0 = omega arith in
    sym (ap (λ (k : ℕ). take from d ++ replicate k 0) z ∙ append-nil _ ∙ take_all from d l)

module _ (n : ℕ) (bs d e f g : List ℕ) (h : Ended n bs d e f g) where
  pub ended-output : take n e ++ replicate (length e - n) 0 ≡ bs ++ replicate (length d - length bs) 0
  ended-output = rw (h.begins, h.output, h.size)

  pub ended-spare : take 0 g ++ replicate (length g - 0) 0 ≡ replicate (length f) 0
  ended-spare = let z : length g - 0 ≡ length f = omega (arith, h.spare) in ap (λ (k : ℕ). replicate k 0) z
