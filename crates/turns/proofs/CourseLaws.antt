-- Laws of turned planes: parts of their rows, and blocks of them stored one beside the other.
use mathlib.Core.List.{List, ◌++◌}
use mathlib.Core.Path.{◌∙◌, ◌≡◌, ap, ap₂, sym}
use Prim.Native.Nat.{◌*◌, ◌+◌, ◌<◌, ◌^◌, ◌≤◌, ℕ}
use native.Mathlib.Nat.{add-mul}
use native.Mathlib.Omega.{arith}
use lib.ListN.{length}
use Rattle.laws.proofs.Order.{item-within, mul-below}
use Rattle.laws.proofs.Puts.{puts-append}
use Rattle.laws.proofs.Span.{length-span-all, span-cong, span-end, span-shift, span-split}
use Rattle.laws.specs.Puts.{puts}
use Rattle.laws.specs.Span.{span}
use Rattle.planes.specs.Bytes.{samples_of}
use Rattle.paste.proofs.RowLaws.{rows-cong}
use Rattle.paste.specs.Stored.{store_rows}
use Rattle.turns.proofs.SteppedLaws.{length-stepped, step-on, stepped-split}
use Rattle.turns.proofs.StoreLaws.{rows_empty, rows-joined, rows_whole}
use Rattle.turns.specs.declared.turn.Course.{Course}
use Rattle.turns.specs.inner.Course.{BlockFits, CourseFits, course_row, row_from}
use Rattle.turns.specs.inner.Stepped.{SteppedFits, step_to, stepped}

-- from a sample on, along rows or within them: the same sample either way
cross : (from r l d u y k : ℕ) → y * l ≤ from + y * r → k * u ≤ from + k * d → step_to (step_to from d u k) r l y ≡ step_to (step_to from r l y) d u k
unfolding step_to
cross from r l d u y k h i = omega arith

band-small : (from r l a y x : ℕ) → from + (a + y) * r + x < 2 ^ 64 → step_to from r l a + y * r + x < 2 ^ 64
unfolding step_to
band-small from r l a y x h = omega (arith, add-mul a y r)

band-across : (from r l a y : ℕ) → (a + y) * l ≤ from + (a + y) * r → a * l ≤ from + a * r → y * l ≤ step_to from r l a + y * r
unfolding step_to
band-across from r l a y h i = omega (arith, add-mul a y r, add-mul a y l)

block-small : (from d u a k x : ℕ) → from + x + (a + k) * d < 2 ^ 64 → step_to from d u a + x + k * d < 2 ^ 64
unfolding step_to
block-small from d u a k x h = omega (arith, add-mul a k d)

block-across : (from r l d u y a : ℕ) → y * l ≤ from + y * r → a * u ≤ from + a * d → a * u ≤ step_to from r l y + a * d → y * l ≤ step_to from d u a + y * r
unfolding step_to
block-across from r l d u y a h i j = omega arith

module _ (c : Course) where
  -- the rows from y on
  abbrev pub band_at : ℕ → Course
  band_at y = record { from = step_to c.from c.right c.left y; right = c.right; left = c.left; down = c.down; up = c.up }

  -- the columns from k on
  abbrev pub block_at : ℕ → Course
  block_at k = record { from = step_to c.from c.down c.up k; right = c.right; left = c.left; down = c.down; up = c.up }

module _ (s : List ℕ) (b : ℕ) (c : Course) (columns rows : ℕ) (ok : CourseFits s b c columns rows) where
  pub length-course_row : (m : Course) (n y : ℕ) → length (course_row s b m n y) ≡ n * b
  unfolding course_row
  length-course_row m n y = length-stepped s b (row_from m y) m.down m.up n ok.positive ok.bounded

  -- one row
  pub row_fits : (y : ℕ) → y < rows → SteppedFits s b (row_from c y) c.down c.up columns
  unfolding row_from step_to
  row_fits y l =
      record {
        positive = ok.positive;
        bounded = ok.bounded;
        small = λ k q. omega (arith, ok.small k y (omega arith) (omega arith));
        behind = λ k q. ok.behind k y q l;
        inside = λ k q. ok.inside k y q l;
      }

  -- ---- n rows from the row a on

  module _ (a n : ℕ) (some : 1 ≤ n) (in_all : a + n ≤ rows) where
    row_on : (y : ℕ) → row_from (band_at c a) y ≡ row_from c (a + y)
    unfolding row_from
    row_on y = sym (step-on c.from c.right c.left a y (ok.across a (omega arith)))

    pub band-fits : CourseFits s b (band_at c a) columns n
    band-fits =
        record {
          positive = ok.positive;
          bounded = ok.bounded;
          small = small;
          across = across;
          behind = λ k y p q. rw (row_on y) (ok.behind k (a + y) p (omega arith));
          inside = λ k y p q. rw (row_on y) (ok.inside k (a + y) p (omega arith));
        }
      where
        small : (k y : ℕ) → k ≤ columns → y ≤ n → (band_at c a).from + y * c.right + k * c.down < 2 ^ 64
        small k y p q = band-small c.from c.right c.left a y (k * c.down) (ok.small k (a + y) p (omega arith))

        across : (y : ℕ) → y < n → y * c.left ≤ (band_at c a).from + y * c.right
        across y q = band-across c.from c.right c.left a y (ok.across (a + y) (omega arith)) (ok.across a (omega arith))

    -- stored behind the rows before them
    pub bands-more : (d : List ℕ) (at i : ℕ) → i ≡ at + a * (columns * b)
        → puts (puts d at (span (course_row s b c columns) 0 a)) i (span (course_row s b (band_at c a) columns) 0 n) ≡ puts d at (span (course_row s b c columns) 0 (a + n))
    unfolding course_row
    bands-more d at i e =
        let long : length (span (course_row s b c columns) 0 a) ≡ a * (columns * b) = length-span-all (course_row s b c columns) (columns * b) a (length-course_row c columns) in
        ap₂ (puts (puts d at (span (course_row s b c columns) 0 a))) (e ∙ ap (λ (k : ℕ). at + k) (sym long))
        (span-cong _ _ 0 n (λ y p q. ap (λ (j : ℕ). stepped s b j c.down c.up columns) (row_on y)) ∙ sym (span-shift (course_row s b c columns) a n))
        ∙ sym (puts-append d at (span (course_row s b c columns) 0 a) (span (course_row s b c columns) a (a + n)))
        ∙ ap (puts d at) (sym (span-split (course_row s b c columns) 0 a (a + n) (omega arith) (omega arith)))

  -- ---- n columns from the column a on

  module _ (a n : ℕ) (some : 1 ≤ n) (in_all : a + n ≤ columns) where
    pub from-behind : 0 < rows → a * c.up ≤ c.from + a * c.down
    unfolding row_from step_to
    from-behind l = omega (arith, ok.behind a 0 (omega arith) l)

    column-on : (y : ℕ) → y < rows → row_from (block_at c a) y ≡ step_to (row_from c y) c.down c.up a
    unfolding row_from
    column-on y l = cross c.from c.right c.left c.down c.up y a (ok.across y l) (from-behind (omega arith))

    pub block-fits : CourseFits s b (block_at c a) n rows
    unfolding row_from
    block-fits =
        record {
          positive = ok.positive;
          bounded = ok.bounded;
          small = small;
          across = across;
          behind = behind;
          inside = inside;
        }
      where
        small : (k y : ℕ) → k ≤ n → y ≤ rows → (block_at c a).from + y * c.right + k * c.down < 2 ^ 64
        small k y p q = block-small c.from c.down c.up a k (y * c.right) (ok.small (a + k) y (omega arith) q)

        across : (y : ℕ) → y < rows → y * c.left ≤ (block_at c a).from + y * c.right
        across y q = block-across c.from c.right c.left c.down c.up y a (ok.across y q) (from-behind (omega arith)) (ok.behind a y (omega arith) q)

        behind : (k y : ℕ) → k < n → y < rows → k * c.up ≤ row_from (block_at c a) y + k * c.down
        behind k y p q = rw (column-on y q) (band-across (row_from c y) c.down c.up a k (ok.behind (a + k) y (omega arith) q) (ok.behind a y (omega arith) q))

        inside : (k y : ℕ) → k < n → y < rows → step_to (row_from (block_at c a) y) c.down c.up k + b ≤ length s
        inside k y p q =
            rw (column-on y q, ← step-on (row_from c y) c.down c.up a k (ok.behind a y (omega arith) q)) (ok.inside (a + k) y (omega arith) q)

    row-joined : (y : ℕ) → y < rows → course_row s b c a y ++ course_row s b (block_at c a) n y ≡ course_row s b c (a + n) y
    unfolding course_row
    row-joined y l =
        ap (λ (j : ℕ). stepped s b (row_from c y) c.down c.up a ++ stepped s b j c.down c.up n) (column-on y l)
        ∙ sym (stepped-split s b (row_from c y) c.down c.up a n (λ z. ok.behind a y (omega arith) l))

    -- stored beside the columns before them
    pub blocks_more : (d : List ℕ) (at i : ℕ) → i ≡ at + a * b
        → store_rows (store_rows d at (columns * b) (course_row s b c a) rows) i (columns * b) (course_row s b (block_at c a) n) rows
        ≡ store_rows d at (columns * b) (course_row s b c (a + n)) rows
    blocks_more d at i e =
        ap (λ (j : ℕ). store_rows (store_rows d at (columns * b) (course_row s b c a) rows) j (columns * b) (course_row s b (block_at c a) n) rows) e
        ∙ rows-joined d at (columns * b) (a * b) (course_row s b c a) (course_row s b (block_at c a) n) rows (length-course_row c a) wide
        ∙ rows-cong d at (columns * b) _ _ rows row-joined
      where
        wide : (y : ℕ) → a * b + length (course_row s b (block_at c a) n y) ≤ columns * b
        wide y = rw (length-course_row (block_at c a) n y) (omega (arith, add-mul a n b, mul-below columns b (a + n) b in_all (omega arith)))

    pub block_room : (at size : ℕ) → at + rows * (columns * b) ≤ size → BlockFits size (at + a * b) (columns * b) rows (n * b)
    unfolding BlockFits
    block_room at size h y l = omega (arith, add-mul a n b, mul-below columns b (a + n) b in_all (omega arith), item-within y rows (columns * b) l)

  -- no column, and all of them
  pub blocks-none : (d : List ℕ) (at stride : ℕ) → store_rows d at stride (course_row s b c 0) rows ≡ d
  unfolding course_row stepped samples_of
  blocks-none d at stride = rows_empty d at stride _ rows (λ y. span-end _ 0 0 (omega arith))

  pub blocks-whole : (d : List ℕ) (at : ℕ) → store_rows d at (columns * b) (course_row s b c columns) rows ≡ puts d at (span (course_row s b c columns) 0 rows)
  blocks-whole d at = rows_whole d at (columns * b) (course_row s b c columns) rows (length-course_row c columns)
