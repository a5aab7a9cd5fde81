-- Laws of walks whose axes are swapped: a row is samples of one of the plane's columns.
use mathlib.Core.Bool.{Bool, false, not, true}
use mathlib.Core.List.{List}
use mathlib.Core.Path.{◌∙◌, ◌≡◌, ap, ap₂, refl, sym}
use Prim.Native.Nat.{◌*◌, ◌+◌, ◌-◌, ◌<◌, ◌^◌, ◌≤◌, ℕ}
use native.Mathlib.Nat.{add_comm, add-mul, mul_comm, mul-sub}
use native.Mathlib.Omega.{arith}
use Rattle.laws.proofs.Order.{mul-below, pick-le, pick_true}
use Rattle.laws.proofs.Span.{span-cong}
use Rattle.laws.specs.Pick.{pick}
use Rattle.laws.specs.Span.{span}
use Rattle.image.specs.Format.{cover}
use Rattle.planes.proofs.ByteLaws.{samples-same}
use Rattle.planes.specs.Bytes.{sample_at, sample_in}
use Rattle.turns.specs.inner.Course.{CourseFits, course_row, row_from}
use Rattle.turns.specs.inner.Stepped.{step_to, stepped}
use Rattle.moves.specs.declared.walk.Walk.{Walk}
use Rattle.moves.specs.inner.Move.{WalkInside, along_from, walk_at, walk_bytes, walk_x, walk_y}
use Rattle.moves.specs.inner.Rows.{course_of}

-- ---- along one axis

module _ (from step base k : ℕ) where
  step-along : (back : Bool) → (back ≡ true → k ≤ from) → step_to (from * step + base) (pick (not back) step 0) (pick back step 0) k ≡ along_from back from k * step + base
  unfolding step_to along_from pick
  step-along true h =
      let less : (from - k) * step ≡ from * step - k * step = mul_comm _ _ ∙ mul-sub step from k ∙ ap₂ (λ (a b : ℕ). a - b) (mul_comm _ _) (mul_comm _ _) in
      let l : k * step ≤ from * step = mul-below from step k step (h refl) (omega arith) in
      omega arith
  step-along false h = omega (arith, add-mul from k step)

  step-behind : (back : Bool) → (back ≡ true → k ≤ from) → k * pick back step 0 ≤ from * step + base + k * pick (not back) step 0
  unfolding pick
  step-behind true h = omega (arith, mul-below from step k step (h refl) (omega arith))
  step-behind false h = omega arith

-- ---- a walk

module _ (d : List ℕ) (bytes stride : ℕ) (w : Walk) (columns rows : ℕ) (ok : WalkInside d bytes stride w columns rows)
    (s : w.swapped ≡ true) (a : w.half_across ≡ false) (b : w.half_down ≡ false) where
  abbrev x : ℕ → ℕ
  x y = along_from w.across.back w.across.from y

  abbrev y : ℕ → ℕ
  y k = along_from w.down.back w.down.from k

  many : (rows < 2 ^ 31) × (columns < 2 ^ 31)
  many = (rw (pick_true w.swapped rows columns s) at ok.across.bounded, rw (pick_true w.swapped columns rows s) at ok.down.bounded)

  across-behind : (v : ℕ) → v < rows → w.across.back ≡ true → v ≤ w.across.from
  across-behind v l = ok.across.behind v (rw (pick_true w.swapped rows columns s) l)

  down-behind : (k : ℕ) → k < columns → w.down.back ≡ true → k ≤ w.down.from
  down-behind k l = ok.down.behind k (rw (pick_true w.swapped columns rows s) l)

  walk-x : (k v : ℕ) → walk_x w k v ≡ x v
  unfolding walk_x cover pick
  walk-x k v = rw (s, a)

  walk-y : (k v : ℕ) → walk_y w k v ≡ y k
  unfolding walk_y cover pick
  walk-y k v = rw (s, b)

  row_first : (v : ℕ) → v < rows → row_from (course_of w bytes stride) v ≡ w.down.from * stride + x v * bytes
  unfolding row_from course_of
  row_first v l = step-along w.across.from bytes (w.down.from * stride) v w.across.back (across-behind v l) ∙ add_comm _ _

  place : (k v : ℕ) → k < columns → v < rows
      → step_to (row_from (course_of w bytes stride) v) (course_of w bytes stride).down (course_of w bytes stride).up k ≡ walk_y w k v * stride + walk_x w k v * bytes
  unfolding course_of
  place k v p q =
      ap (λ (n : ℕ). step_to n (pick (not w.down.back) stride 0) (pick w.down.back stride 0) k) (row_first v q)
      ∙ step-along w.down.from stride (x v * bytes) k w.down.back (down-behind k p)
      ∙ ap₂ (λ (i j : ℕ). i * stride + j * bytes) (sym (walk-y k v)) (sym (walk-x k v))

  pub turned-fits : CourseFits d bytes (course_of w bytes stride) columns rows
  unfolding course_of
  turned-fits =
      record {
        positive = ok.positive;
        bounded = ok.bounded;
        small = small;
        across = λ v q. step-behind w.across.from bytes (w.down.from * stride) v w.across.back (across-behind v q);
        behind = λ k v p q. rw (row_first v q) (step-behind w.down.from stride (x v * bytes) k w.down.back (down-behind k p));
        inside = λ k v p q. rw (place k v p q) (ok.inside k v p q);
      }
    where
      small : (k v : ℕ) → k ≤ columns → v ≤ rows → w.across.from * bytes + w.down.from * stride + v * pick (not w.across.back) bytes 0 + k * pick (not w.down.back) stride 0 < 2 ^ 64
      small k v p q =
          let few : pick (not w.across.back) bytes 0 ≤ 2 = pick-le _ bytes 0 2 ok.bounded (omega arith) in
          let long : pick (not w.down.back) stride 0 ≤ 4294967295 = pick-le _ stride 0 4294967295 (omega (arith, ok.row)) (omega arith) in
          let m = many in
          omega (
            arith,
            mul-below 2147483647 2 w.across.from bytes (omega (arith, ok.across.small)) ok.bounded,
            mul-below 2147483647 4294967295 w.down.from stride (omega (arith, ok.down.small)) (omega (arith, ok.row)),
            mul-below 2147483647 2 v (pick (not w.across.back) bytes 0) (omega (arith, m)) few,
            mul-below 2147483647 4294967295 k (pick (not w.down.back) stride 0) (omega (arith, m)) long,
          )

  pub turned-bytes : span (course_row d bytes (course_of w bytes stride) columns) 0 rows ≡ walk_bytes d bytes stride w columns rows
  unfolding course_row walk_bytes walk_at sample_in stepped
  turned-bytes = span-cong _ _ 0 rows (λ v p q. samples-same bytes _ _ columns (λ k l. ap (sample_at d bytes) (place k v l q)))
