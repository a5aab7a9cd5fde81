-- Laws of walks: a row of a walked plane is one line of samples.
use mathlib.Core.Bool.{Bool, false, true}
use mathlib.Core.List.{List}
use mathlib.Core.Path.{◌∙◌, ◌≡◌, ap}
use Prim.Native.Nat.{◌*◌, ◌+◌, ◌-◌, ◌/◌, ◌<◌, ◌^◌, ◌≤◌, ℕ}
use native.Mathlib.Nat.{add_comm}
use native.Mathlib.Omega.{arith}
use lib.ListN.{length}
use Rattle.laws.proofs.Order.{by-test, pick-false, pick-le, pick_true}
use Rattle.laws.proofs.Span.{length-span-all, span-cong}
use Rattle.laws.specs.Pick.{pick}
use Rattle.planes.proofs.ByteLaws.{length-samples_of}
use Rattle.planes.specs.Bytes.{sample_at, sample_bytes, sample_in, samples_of}
use Rattle.image.specs.Format.{cover}
use Rattle.planes.specs.inner.Line.{LineFits, line_bytes, place_on}
use Rattle.planes.specs.declared.samples.Line.{Line}
use Rattle.moves.specs.inner.Move.{StepsFit, WalkRowFits, WalkInside, along_from, line_of, row_line, walk_at, walk_bytes, walk_x, walk_y}
use Rattle.moves.specs.declared.walk.Axis.{Axis}
use Rattle.moves.specs.declared.walk.Walk.{Walk}

pub reach-small : (half back : Bool) (from k : ℕ) → from < 2 ^ 31 → k < 2 ^ 31 → cover half (along_from back from k) < 2 ^ 32
unfolding cover along_from pick
reach-small true true from k h l = omega arith
reach-small true false from k h l = omega arith
reach-small false true from k h l = omega arith
reach-small false false from k h l = omega arith

-- ---- a line along an axis

pub line-place : (a : Axis) (half : Bool) (origin step k : ℕ) → place_on (line_of a half origin step) k ≡ origin + cover half (along_from a.back a.from k) * step
unfolding place_on line_of pick cover along_from
line-place a half origin step k = ap (λ (n : ℕ). origin + n * step) (go half a.back)
  where
    go : (h b : Bool) → (a.from + k * pick b 0 1 - k * pick b 1 0) / 2 ^ pick h 1 0 ≡ cover h (along_from b a.from k)
    go true true = omega arith
    go true false = omega arith
    go false true = omega arith
    go false false = omega arith

-- ---- a row of a walk

module _ (w : Walk) (bytes stride y : ℕ) where
  row-line-swapped : w.swapped ≡ true → row_line w bytes stride y ≡ line_of w.down w.half_down (cover w.half_across (along_from w.across.back w.across.from y) * bytes) stride
  unfolding row_line
  row-line-swapped e = pick_true _ _ _ e

  row-line-plain : w.swapped ≡ false → row_line w bytes stride y ≡ line_of w.across w.half_across (cover w.half_down (along_from w.down.back w.down.from y) * stride) bytes
  unfolding row_line
  row-line-plain e = pick-false _ _ _ e

  pub row-place : (k : ℕ) → place_on (row_line w bytes stride y) k ≡ walk_y w k y * stride + walk_x w k y * bytes
  unfolding walk_x walk_y
  row-place k =
      by-test w.swapped
      (λ e.
      ap (λ (l : Line). place_on l k) (row-line-swapped e) ∙ line-place w.down w.half_down _ stride k
      ∙ add_comm _ _ ∙ rw (pick_true w.swapped k y e, pick_true w.swapped y k e))
      (λ e.
      ap (λ (l : Line). place_on l k) (row-line-plain e) ∙ line-place w.across w.half_across _ bytes k
      ∙ rw (pick-false w.swapped k y e, pick-false w.swapped y k e))

module _ (d : List ℕ) (bytes stride : ℕ) (w : Walk) (columns rows : ℕ) (ok : WalkInside d bytes stride w columns rows) where
  pub row_fits : (y : ℕ) → y < rows → WalkRowFits w bytes stride y
  row_fits y l =
      record {
        bounded = by-test w.swapped (λ e. omega (arith, rw (pick_true w.swapped rows columns e) at ok.across.bounded)) (λ e. omega (arith, rw (pick-false w.swapped columns rows e) at ok.down.bounded));
        across_small = ok.across.small;
        down_small = ok.down.small;
        across = λ e. ok.across.behind y (rw (pick_true w.swapped rows columns e) l);
        down = λ e. ok.down.behind y (rw (pick-false w.swapped columns rows e) l);
        sample = ok.bounded;
        row = ok.row;
      }

  axis-fits : (a : Axis) (half : Bool) (origin step n : ℕ) → StepsFit a n → ((k : ℕ) → k < n → place_on (line_of a half origin step) k + bytes ≤ length d) → LineFits d bytes (line_of a half origin step) n
  unfolding line_of
  axis-fits a half origin step n f i =
      record {
        positive = ok.positive;
        bounded = ok.bounded;
        forth = pick-le a.back 0 1 1 (omega arith) (omega arith);
        back = pick-le a.back 1 0 1 (omega arith) (omega arith);
        half = pick-le half 1 0 1 (omega arith) (omega arith);
        from = omega (arith, f.small);
        count = omega (arith, f.bounded);
        behind = behind;
        inside = i;
      }
    where
      behind : (k : ℕ) → k < n → k * pick a.back 1 0 ≤ a.from + k * pick a.back 0 1
      behind k l = by-test a.back
          (λ e. rw (pick_true {A = ℕ} a.back 1 0 e, pick_true {A = ℕ} a.back 0 1 e) (omega (arith, f.behind k l e)))
          (λ e. rw (pick-false {A = ℕ} a.back 1 0 e, pick-false {A = ℕ} a.back 0 1 e) (omega arith))

  pub line-fits : (y : ℕ) → y < rows → LineFits d bytes (row_line w bytes stride y) columns
  line-fits y l =
      by-test w.swapped
      (λ e. rw (row-line-swapped w bytes stride y e) (axis-fits w.down w.half_down _ stride columns (rw (pick_true w.swapped columns rows e) at ok.down) (λ k m. rw (row-line-swapped w bytes stride y e) at (placed k m))))
      (λ e. rw (row-line-plain w bytes stride y e) (axis-fits w.across w.half_across _ bytes columns (rw (pick-false w.swapped rows columns e) at ok.across) (λ k m. rw (row-line-plain w bytes stride y e) at (placed k m))))
    where
      placed : (k : ℕ) → k < columns → place_on (row_line w bytes stride y) k + bytes ≤ length d
      placed k m = rw (row-place w bytes stride y k) (ok.inside k y m l)

-- the row is the walk's
pub row-bytes : (d : List ℕ) (bytes stride : ℕ) (w : Walk) (columns y : ℕ) → line_bytes d bytes (row_line w bytes stride y) columns ≡ samples_of bytes (λ x. walk_at d bytes stride w x y) columns
unfolding line_bytes samples_of walk_at sample_in
row-bytes d bytes stride w columns y = span-cong _ _ 0 columns (λ x a b. ap (λ (i : ℕ). sample_bytes bytes (sample_at d bytes i)) (row-place w bytes stride y x))

pub length-walk_bytes : (d : List ℕ) (bytes stride : ℕ) (w : Walk) (columns rows : ℕ) → 1 ≤ bytes → bytes ≤ 2 → length (walk_bytes d bytes stride w columns rows) ≡ rows * (columns * bytes)
unfolding walk_bytes
length-walk_bytes d bytes stride w columns rows l h = length-span-all _ (columns * bytes) rows (λ y. length-samples_of bytes (λ x. walk_at d bytes stride w x y) columns l h)
