-- Laws of the clean aperture: its edge told by natural numbers, and where its rectangle lies.
use Rattle.std.specs.Prelude.{Ok, Err}
use mathlib.Core.Bool.{false, not}
use mathlib.Core.Path.{◌∙◌, ◌≡◌, ap, ap₂, refl, sym}
use Prim.Native.Nat.{◌%◌, ◌*◌, ◌+◌, ◌-◌, ◌/◌, ◌<◌, ◌^◌, ◌≤◌, suc, zero, ℕ}
use native.Mathlib.Nat.{add-zero, div-add-mod', mul-div_cancel, mul-mod_left, sub-zero}
use native.Mathlib.Omega.{arith}
use lib.Dec.{eqb, ltb}
use lib.IntN.{◌*ℤ◌, ◌+ℤ◌, negsuc, neg_ℤ, pos, sub_ℕ, ℤ}
use borrow.Author.Tests.{eq-eqb, eqb-false, eqb-true, le-ltb, lt-ltb, ltb-false, ne_eqb, not-false}
use Rattle.laws.proofs.Out.{Holds, and_then-done, done-holds, done-same, not_done, refuse-done, refuse-no, then-done}
use Rattle.laws.specs.Out.{reason, refuse}
use Rattle.numbers.specs.Field.{offset_of, signed_of}
use Rattle.sizes.specs.Aperture.{Exact, ExactRect, axis_of, edge_of, resolve_of}
use Rattle.sizes.proofs.MarginLaws.{around-inside}
use Rattle.sizes.specs.Margins.{Around}
use Rattle.sizes.specs.Sound.{Inside}
use Rattle.sizes.specs.declared.clap.Clap.{Clap}
use Rattle.sizes.specs.declared.clap.Crop.{Crop}
use Rattle.sizes.specs.declared.clap.AxisPart.{AxisPart}

-- ---- the edge (a - b) / den, where a - b is below 0 and where it is not

pub edge-below : (a b den gap size : ℕ) → a < b → edge_of (sub_ℕ a b) den gap size ≡ refuse (not (eqb ((b - a) % den) 0)) 8 (Err (reason 9))
unfolding edge_of
edge-below a b den gap size h =
    let e : suc (b - suc a) ≡ b - a = omega arith in
    simp (lt-ltb a b h, e)

pub edge-from : (a b den gap size : ℕ) → b ≤ a
    → edge_of (sub_ℕ a b) den gap size ≡ refuse (not (eqb ((a - b) % den) 0)) 8 (refuse (ltb gap ((a - b) / den)) 9 (Ok (record { edge = (a - b) / den; size = size; beyond = gap - (a - b) / den })))
unfolding edge_of
edge-from a b den gap size h = simp (le-ltb a b h)

-- ---- the numerator a + 2 * offset, with the offset's sign split off

minus-none : (a : ℕ) → pos a ≡ sub_ℕ a 0
minus-none a = simp (le-ltb a 0 (omega arith), sub-zero)

plus-minus : (a b : ℕ) → pos a +ℤ neg_ℤ (pos b) ≡ sub_ℕ a b
plus-minus a zero = rw add-zero (minus-none a)
plus-minus a (suc b) = refl

pub numerator : (a : ℕ) (z : ℤ) → pos a +ℤ pos 2 *ℤ z ≡ sub_ℕ (a + 2 * (offset_of z).ahead) (2 * (offset_of z).behind)
unfolding offset_of
numerator a (pos n) = minus-none (a + 2 * n)
numerator a (negsuc n) = rw add-zero (plus-minus a (2 * suc n))

-- ---- what an axis that was taken says, and that it is taken where that holds

-- a quotient without rest
whole : (k den : ℕ) → not (eqb (k % den) 0) ≡ false → k / den * den ≡ k
whole k den e =
    let r : k % den ≡ 0 = eqb-true (k % den) 0 (not-false _ e) in
    omega (arith, div-add-mod' k den)

pub edge-taken : (z : ℤ) (den gap size : ℕ) (a : AxisPart) → edge_of z den gap size ≡ Ok a → (a.size ≡ size) × (a.edge + a.beyond ≡ gap) × (pos (a.edge * den) ≡ z)
unfolding edge_of
edge-taken (pos k) den gap size a e =
    let f = refuse-done _ _ _ a e in
    let g = refuse-done _ _ _ a f.1 in
    let q = done-same _ a g.1 in
    (sym (ap (λ x. x.size) q), omega (arith, ltb-false gap (k / den) g.0, ap (λ x. x.edge) q, ap (λ x. x.beyond) q), ap (λ x. pos (x.edge * den)) (sym q) ∙ ap pos (whole k den f.0))
edge-taken (negsuc k) den gap size a e = let f = refuse-done _ _ _ a e in not_done _ a f.1

pub axis-taken : (n d off_n off_d input : ℕ) (a : AxisPart) → axis_of n d off_n off_d input ≡ Ok a → Exact n d off_n off_d input a.edge a.size × (a.edge + a.size + a.beyond ≡ input)
unfolding axis_of
axis-taken n d off_n off_d input a e =
    let f = refuse-done _ _ _ a e in
    let g = refuse-done _ _ _ a f.1 in
    let h = refuse-done _ _ _ a g.1 in
    let i = refuse-done _ _ _ a h.1 in
    let j = refuse-done _ _ _ a i.1 in
    let k = edge-taken _ _ _ _ a j.1 in
    let l = ltb-false input (n / d) j.0 in (
      record {
        positive = positive a.size k.0 (eqb-false (n / d) 0 i.0);
        whole = ap (λ x. x * d) k.0 ∙ whole n d h.0;
        inside = omega arith;
        placed = k.2 ∙ ap (λ (m : ℕ). pos ((input - m) * off_d) +ℤ pos 2 *ℤ signed_of (2 ^ 32) off_n) (sym k.0);
      },
      omega arith,
    )
  where
    positive : (m : ℕ) → m ≡ n / d → (n / d ≡ 0 → ⊥) → 1 ≤ m
    positive m q f = omega arith

edge-exact : (k den gap size : ℕ) → 0 < den → k ≤ gap → edge_of (pos (k * den)) den gap size ≡ Ok (record { edge = k; size = size; beyond = gap - k })
unfolding edge_of
edge-exact k den gap size h l =
    let q : k * den / den ≡ k = mul-div_cancel k h in
    refuse-no _ _ (ap not (eq-eqb (k * den % den) 0 (mul-mod_left k den)))
    ∙ refuse-no _ _ (le-ltb gap (k * den / den) (omega arith))
    ∙ ap (λ (m : ℕ). Ok (record { edge = m; size = size; beyond = gap - m })) q

pub axis-exact : (n d off_n off_d input : ℕ) (a : AxisPart) → 0 < d → 0 < off_d → Exact n d off_n off_d input a.edge a.size → a.edge + a.size + a.beyond ≡ input → axis_of n d off_n off_d input ≡ Ok a
unfolding axis_of
axis-exact n d off_n off_d input a h l x s =
    let q : n / d ≡ a.size = ap (λ (m : ℕ). m / d) (sym x.whole) ∙ mul-div_cancel a.size h in
    let r : n % d ≡ 0 = ap (λ (m : ℕ). m % d) (sym x.whole) ∙ mul-mod_left a.size d in
    refuse-no _ _ (ne_eqb d 0 (λ e. above d h e)) ∙ refuse-no _ _ (ne_eqb off_d 0 (λ e. above off_d l e)) ∙ refuse-no _ _ (ap not (eq-eqb (n % d) 0 r))
    ∙ refuse-no _ _ (ne_eqb (n / d) 0 (λ e. above a.size x.positive (sym q ∙ e))) ∙ refuse-no _ _ (le-ltb input (n / d) (omega (arith, x.inside)))
    ∙ ap (λ (m : ℕ). edge_of (pos ((input - m) * off_d) +ℤ pos 2 *ℤ signed_of (2 ^ 32) off_n) (2 * off_d) (input - m) m) q
    ∙ ap (λ (z : ℤ). edge_of z (2 * off_d) (input - a.size) a.size) (sym x.placed)
    ∙ edge-exact a.edge (2 * off_d) (input - a.size) a.size (omega arith) (omega (arith, x.inside))
    ∙ ap (λ (m : ℕ). Ok (record { edge = a.edge; size = a.size; beyond = m })) (omega arith)
  where
    above : (m : ℕ) → 0 < m → m ≡ 0 → ⊥
    above m g e = omega arith

-- ---- the rectangle and its margins

taken-parts : (c : Clap) (width height : ℕ) (k : Crop) → resolve_of c width height ≡ Ok k → ExactRect c width height k.rect × Around k width height
unfolding resolve_of
taken-parts c width height k e =
    let a = and_then-done _ _ k e in
    let b = and_then-done _ _ k a.2 in
    let u = axis-taken _ _ _ _ width a.0 a.1 in
    let v = axis-taken _ _ _ _ height b.0 b.1 in
    taken_as _ k (done-same _ k b.2) (
      record { across = u.0; down = v.0 },
      record { left = refl; top = refl; across = u.1; down = v.1; wide = u.0.positive; tall = v.0.positive },
    )
  where
    taken_as : (q q' : Crop) → q ≡ q' → ExactRect c width height q.rect × Around q width height → ExactRect c width height q'.rect × Around q' width height
    taken_as q q' p x = rw p at x

-- a rectangle that was taken is exact along both axes
pub resolve-taken : (c : Clap) (width height : ℕ) (k : Crop) → resolve_of c width height ≡ Ok k → ExactRect c width height k.rect
resolve-taken c width height k e = (taken-parts c width height k e).0

-- left and top are its edges; left + width + right is the input's width, and likewise down
pub resolve-margins : (c : Clap) (width height : ℕ) (k : Crop) → resolve_of c width height ≡ Ok k → Around k width height
resolve-margins c width height k e = (taken-parts c width height k e).1

-- and one that is exact, with such margins, is taken
pub resolve-exact : (c : Clap) (width height : ℕ) (k : Crop) → 0 < c.width_d → 0 < c.horiz_off_d → 0 < c.height_d → 0 < c.vert_off_d
    → ExactRect c width height k.rect → Around k width height → resolve_of c width height ≡ Ok k
unfolding resolve_of
resolve-exact c width height k h i j l x a =
    then-done _ (axis-exact _ _ _ _ width (record { edge = k.rect.x; size = k.rect.width; beyond = k.margins.right }) h i x.across (omega (arith, a.left, a.across)))
    ∙ then-done _ (axis-exact _ _ _ _ height (record { edge = k.rect.y; size = k.rect.height; beyond = k.margins.bottom }) j l x.down (omega (arith, a.top, a.down)))
    ∙ ap₂ (λ (m n : ℕ). Ok (record { rect = k.rect; margins = record { left = m; top = n; right = k.margins.right; bottom = k.margins.bottom } })) (sym a.left) (sym a.top)

pub resolve-inside : (c : Clap) (width height : ℕ) (k : Crop) → resolve_of c width height ≡ Ok k → Inside k.rect width height
resolve-inside c width height k e = around-inside k width height (resolve-margins c width height k e)

pub resolve-holds : (c : Clap) (width height : ℕ) → Holds (λ k. Around k width height) (resolve_of c width height)
resolve-holds c width height = done-holds _ _ (λ k e. resolve-margins c width height k e)
