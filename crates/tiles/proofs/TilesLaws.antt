-- Laws of a grid's tiles, read in turn and held to the first.
use Rattle.std.specs.Prelude.{Ok, Err}
use mathlib.Core.Bool.{Bool, false, not, true}
use mathlib.Core.List.{List, [], ◌∷◌}
use mathlib.Core.Path.{◌∙◌, ◌≡◌, ap, refl, sym}
use Prim.Native.Nat.{◌+◌, ◌-◌, ◌<◌, ◌≤◌, suc, zero, ℕ}
use native.Mathlib.Nat.{not-suc-le-zero}
use native.Mathlib.Omega.{arith}
use lib.ListN.{length}
use borrow.Author.Tests.{eq-eqb, ne_eqb}
use Rattle.laws.proofs.Order.{mul-below}
use Rattle.laws.proofs.Out.{about-done, after-after, after-done, after_none, after_then, and_then-done, done-after, done-same, not_done, record-after, refuse-done, refuse-no, refuse-yes, then-done, then-refused}
use Rattle.laws.specs.Out.{Out, about, after, and_then, own_refusal, reason, refuse}
use Rattle.laws.specs.declared.Item.TheVariants.{Record}
use Rattle.laws.specs.Pick.{pick}
use Rattle.laws.specs.declared.Refusal.{Refusal}
use Rattle.numbers.specs.Number.{malformed, on_number, read_number}
use Rattle.image.specs.Format.{has_alpha, has_size}
use Rattle.records.specs.Record.{record_at}
use Rattle.records.specs.Tray.{frames_at}
use Rattle.image.specs.declared.format.Form.{Form}
use Rattle.records.specs.declared.record.Frame.{Frame}
use Rattle.records.proofs.TrayLaws.{frames-begin, frames-end, frames-left-on, frames-on, frames-refused-on}
use Rattle.derived.specs.Grid.{grid_of}
use Rattle.derived.specs.declared.grid.GridDescriptor.{GridDescriptor}
use Rattle.tiles.specs.Tiles.{alike_from, count_of, held_to, judge_of, same_layout, spans_canvas, tiles_at, tiles_of}
use Rattle.tiles.specs.declared.judge.Tiles.{Tiles}
use Rattle.tiles.specs.inner.Taken.{FramesTaken}

-- records that stand there: the first of them, and the rest
pub record First (n : ℕ) (s : List ℕ) (at : ℕ) (frs : List Frame) : Type 0 where
  pub frame : Frame
  pub rest : List Frame
  pub here : record_at s at ≡ Ok frame
  pub after : frames_at (n - 1) s frame.end ≡ Ok rest
  pub same : frs ≡ frame ∷ rest

pub frames-first : (n : ℕ) (s : List ℕ) (at : ℕ) (frs : List Frame) → 0 < n → frames_at n s at ≡ Ok frs → First n s at frs
unfolding frames_at
frames-first zero s at frs l e = absurd (not-suc-le-zero l)
frames-first (suc n) s at frs l e =
    let a = and_then-done _ _ frs e in
    let b = and_then-done _ _ frs a.2 in
    let z : suc n - 1 ≡ n = omega arith in
    record { frame = a.0; rest = b.0; here = about-done _ _ _ _ a.1; after = rw z (after-done 1 _ _ b.1); same = sym (done-same _ frs b.2) }

-- with the record that was read there
pub first_read : (n : ℕ) (s : List ℕ) (at : ℕ) (frs : List Frame) (fr : Frame) → 0 < n → frames_at n s at ≡ Ok frs → record_at s at ≡ Ok fr
    → (rest : List Frame) × (frames_at (n - 1) s fr.end ≡ Ok rest) × (frs ≡ fr ∷ rest)
first_read n s at frs fr l e q =
    let k = frames-first n s at frs l e in
    let w : k.frame ≡ fr = done-same _ _ (sym k.here ∙ q) in
    (k.rest, rw w at k.after, k.same ∙ ap (λ (f : Frame). f ∷ k.rest) w)

pub first-not-refused {ℓ} : {X : Type ℓ} (n : ℕ) (s : List ℕ) (at : ℕ) (r : Refusal) → 0 < n → FramesTaken n s at → record_at s at ≡ Err r → X
unfolding FramesTaken
first-not-refused n s at r l e q = let k = frames-first n s at e.0 l e.1 in not_done r k.frame (sym q ∙ k.here)

-- ---- held to the first, all in one walk

-- frames that were read, where a walk goes on with what they say
then-agree : {A B : Type 0} (o : Out A) (f g : A → Out B) → ((a : A) → o ≡ Ok a → f a ≡ g a) → and_then o f ≡ and_then o g
unfolding and_then
then-agree (Err r) f g h = refl
then-agree (Ok a) f g h = h a refl

then-then : {A B C : Type 0} (o : Out A) (f : A → B) (k : B → Out C) → and_then (and_then o (λ a. Ok (f a))) k ≡ and_then o (λ a. k (f a))
unfolding and_then
then-then (Err r) f k = refl
then-then (Ok a) f k = refl

-- the first record of those that are left, i of k behind; or it is refused, with its index
pub reading-next : {B : Type 0} (i k : ℕ) (s : List ℕ) (at : ℕ) (fr : Frame) (f : List Frame → Out B) → i < k → record_at s at ≡ Ok fr
    → and_then (after i (frames_at (k - i) s at)) f ≡ and_then (after (i + 1) (frames_at (k - (i + 1)) s fr.end)) (λ frs. f (fr ∷ frs))
reading-next i k s at fr f l e =
    ap (λ (o : Out (List Frame)). and_then o f) (frames-on i k s at fr l e) ∙ then-then (after (i + 1) (frames_at (k - (i + 1)) s fr.end)) (λ frs. fr ∷ frs) f

pub reading-refused : {B : Type 0} (i n : ℕ) (s : List ℕ) (at : ℕ) (r : Refusal) (f : List Frame → Out B) → 0 < n → record_at s at ≡ Err r
    → and_then (after i (frames_at n s at)) f ≡ Err (own_refusal r.reason (Record i))
reading-refused i n s at r f l e = then-refused f (frames-refused-on i n s at r l e)

-- the end: no bytes are left over
pub reading-over : {B : Type 0} (i n : ℕ) (s : List ℕ) (at : ℕ) (f : List Frame → Out B) → n ≤ 0 → at < length s → and_then (after i (frames_at n s at)) f ≡ Err (reason 5)
reading-over i n s at f z h = then-refused f (frames-left-on i n s at z h)

pub reading-out : {B : Type 0} (i n : ℕ) (s : List ℕ) (at : ℕ) (f : List Frame → Out B) → n ≤ 0 → length s ≤ at → and_then (after i (frames_at n s at)) f ≡ f []
reading-out i n s at f z h = then-done f (done-after i _ _ (frames-end n s at z h))

-- the tiles, with that alpha number
abbrev pub taken : GridDescriptor → ℕ → Form → ℕ → Out Tiles
taken g at t a = Ok (record { desc = g; tile = t; alpha = a; first = at })

-- what is left of the judgement behind i tiles: tiles that are like the first, unless one before was not
unfoldable pub judged : GridDescriptor → ℕ → Form → Out ℕ → ℕ → List Frame → Out Tiles
judged g at t held i frs = and_then held (λ a. after i (and_then (alike_from t a frs) (taken g at t)))

-- before the first
judged-first : (g : GridDescriptor) (at : ℕ) (fr : Frame) (rest : List Frame) → judge_of g at (fr ∷ rest) ≡ judged g at fr.form (refuse (not (spans_canvas g fr.form)) 12 (Ok 0)) 0 (fr ∷ rest)
unfolding judge_of judged refuse and_then
judged-first g at fr rest = go (not (spans_canvas g fr.form)) (λ a. and_then (alike_from fr.form a (fr ∷ rest)) (taken g at fr.form))
  where
    go : (x : Bool) (f : ℕ → Out Tiles) → refuse x 12 (f 0) ≡ and_then (refuse x 12 (Ok 0)) (λ a. after 0 (f a))
    go true f = refl
    go false f = sym (after_none (f 0))

pub judge-start : (g : GridDescriptor) (s : List ℕ) (at count : ℕ) (fr : Frame) → 0 < count → record_at s at ≡ Ok fr
    → and_then (frames_at count s at) (judge_of g at) ≡ and_then (after 0 (frames_at (count - 0) s at)) (judged g at fr.form (refuse (not (spans_canvas g fr.form)) 12 (Ok 0)) 0)
judge-start g s at count fr l here =
    then-agree (frames_at count s at) _ _ (λ frs e. let k = first_read count s at frs fr l e here in rw k.2 (judged-first g at fr k.0))
    ∙ ap (λ (o : Out (List Frame)). and_then o (judged g at fr.form (refuse (not (spans_canvas g fr.form)) 12 (Ok 0)) 0)) (frames-begin count s at)

-- tiles that were held: the first of them, and the others
pub alike-first : (t : Form) (a b : ℕ) (fr : Frame) (frs : List Frame) → alike_from t a (fr ∷ frs) ≡ Ok b
    → (not (has_size fr.form t.width t.height) ≡ false) × (not (same_layout t fr.form) ≡ false) × (alike_from t (pick (has_alpha fr.form.format) 1 a) frs ≡ Ok b)
unfolding alike_from held_to
alike-first t a b fr frs e =
    let k = and_then-done _ _ b e in
    let u = refuse-done _ 13 _ k.0 (about-done Record 0 _ _ k.1) in
    let v = refuse-done _ 14 _ k.0 u.1 in
    (u.0, v.0, ap (λ (n : ℕ). alike_from t n frs) (done-same _ k.0 v.1) ∙ after-done 1 _ _ k.2)

-- one tile more
judged-next : (g : GridDescriptor) (at : ℕ) (t : Form) (held : Out ℕ) (i : ℕ) (fr : Frame) (frs : List Frame)
    → judged g at t held i (fr ∷ frs) ≡ judged g at t (and_then held (λ a. about Record i (held_to t a fr.form))) (i + 1) frs
unfolding judged alike_from and_then about after
judged-next g at t (Err r) i fr frs = refl
judged-next g at t (Ok a) i fr frs = go (held_to t a fr.form)
  where
    go : (o : Out ℕ) → after i (and_then (and_then (about Record 0 o) (λ b. after 1 (alike_from t b frs))) (taken g at t))
        ≡ and_then (about Record i o) (λ b. after (i + 1) (and_then (alike_from t b frs) (taken g at t)))
    go (Err r) = record-after i r.reason (Err (own_refusal r.reason (Record 0))) refl
    go (Ok b) = ap (after i) (sym (after_then 1 (alike_from t b frs) _)) ∙ after-after i 1 _

pub judge-next : (g : GridDescriptor) (s : List ℕ) (at : ℕ) (t : Form) (held : Out ℕ) (i count next : ℕ) (fr : Frame) → i < count → record_at s next ≡ Ok fr
    → and_then (after i (frames_at (count - i) s next)) (judged g at t held i)
    ≡ and_then (after (i + 1) (frames_at (count - (i + 1)) s fr.end)) (judged g at t (and_then held (λ a. about Record i (held_to t a fr.form))) (i + 1))
judge-next g s at t held i count next fr l here =
    reading-next i count s next fr _ l here
    ∙ then-agree (after (i + 1) (frames_at (count - (i + 1)) s fr.end)) _ _ (λ frs e. judged-next g at t held i fr frs)

-- all were read
pub judge-taken : (g : GridDescriptor) (at : ℕ) (t : Form) (held : Out ℕ) (a i : ℕ) → held ≡ Ok a → judged g at t held i [] ≡ taken g at t a
unfolding judged alike_from
judge-taken g at t held a i e = then-done _ e ∙ done-after i _ _ (then-done _ refl)

pub judge-fault : (g : GridDescriptor) (at : ℕ) (t : Form) (held : Out ℕ) (r : Refusal) (i : ℕ) → held ≡ Err r → judged g at t held i [] ≡ Err r
unfolding judged
judge-fault g at t held r i e = then-refused _ e

-- ---- from the body and the tray

pub tiles-number : (body tray : List ℕ) (n at : ℕ) → read_number tray 0 ≡ Ok (n, at) → tiles_of body tray ≡ tiles_at body tray n at
unfolding tiles_of on_number
tiles-number body tray n at e = rw e

pub tiles-malformed : (body tray : List ℕ) → read_number tray 0 ≡ malformed → tiles_of body tray ≡ Err (reason 5)
unfolding tiles_of on_number
tiles-malformed body tray e = rw e

pub tiles-body : (body tray : List ℕ) (n at : ℕ) (r : Refusal) → grid_of body ≡ Err r → tiles_at body tray n at ≡ Err r
unfolding tiles_at
tiles-body body tray n at r e = then-refused _ e

pub tiles-count : (body tray : List ℕ) (n at : ℕ) (g : GridDescriptor) → grid_of body ≡ Ok g → (n ≡ count_of g → ⊥) → tiles_at body tray n at ≡ Err (reason 11)
unfolding tiles_at
tiles-count body tray n at g e d = then-done _ e ∙ refuse-yes _ _ (ap not (ne_eqb n (count_of g) d))

pub tiles-frames : (body tray : List ℕ) (n at : ℕ) (g : GridDescriptor) → grid_of body ≡ Ok g → n ≡ count_of g → tiles_at body tray n at ≡ and_then (frames_at n tray at) (judge_of g at)
unfolding tiles_at
tiles-frames body tray n at g e d = then-done _ e ∙ refuse-no _ _ (ap not (eq-eqb n (count_of g) d))

pub count-some : (g : GridDescriptor) → 1 ≤ g.rows → 1 ≤ g.columns → 0 < count_of g
unfolding count_of
count-some g h l = omega (arith, mul-below g.rows g.columns 1 1 h l)
