-- Laws of cells: how much of a tile shows along one axis.
use mathlib.Core.List.{List}
use mathlib.Core.Path.{◌∙◌, ◌≡◌, ap}
use Prim.Native.Nat.{min, ◌*◌, ◌+◌, ◌-◌, ◌<◌, ◌≤◌, ℕ}
use native.Mathlib.Omega.{arith}
use lib.ListN.{length}
use borrow.Author.Tests.{le-leb, lt-leb}
use Rattle.laws.proofs.Order.{by_order, by-test, pick-false, pick_true}
use Rattle.image.specs.Format.{has_part}
use Rattle.image.specs.declared.format.Form.{Form}
use Rattle.image.specs.declared.format.Part.{Part}
use Rattle.planes.specs.Picture.{Pic}
use Rattle.paste.proofs.RowLaws.{length-store_rows}
use Rattle.cells.specs.Cell.{store_cell, store_part, visible_of}

-- ---- along one axis

pub visible-none : (canvas tile i : ℕ) → canvas ≤ i * tile → visible_of canvas tile i ≡ 0
unfolding visible_of
visible-none canvas tile i h =
    let z : canvas - i * tile ≡ 0 = omega arith in
    by_order 0 tile
    (λ l. pick-false _ _ _ (lt-leb tile (canvas - i * tile) (omega arith)) ∙ z)
    (λ l. pick_true _ _ _ (le-leb tile (canvas - i * tile) (omega arith)) ∙ omega arith)

pub visible-whole : (canvas tile i : ℕ) → tile ≤ canvas - i * tile → visible_of canvas tile i ≡ tile
unfolding visible_of
visible-whole canvas tile i h = pick_true _ _ _ (le-leb _ _ h)

pub visible-cut : (canvas tile i : ℕ) → canvas - i * tile < tile → visible_of canvas tile i ≡ canvas - i * tile
unfolding visible_of
visible-cut canvas tile i h = pick-false _ _ _ (lt-leb _ _ h)

-- no more than the tile has, and no more than the canvas has left
pub visible-min : (canvas tile i : ℕ) → min tile (canvas - i * tile) ≡ visible_of canvas tile i
visible-min canvas tile i = by_order (canvas - i * tile) tile (λ h. rw (visible-cut canvas tile i h) (omega arith)) (λ h. rw (visible-whole canvas tile i h) (omega arith))

pub visible-tile : (canvas tile i : ℕ) → visible_of canvas tile i ≤ tile
visible-tile canvas tile i = by_order (canvas - i * tile) tile (λ h. rw (visible-cut canvas tile i h) (omega arith)) (λ h. rw (visible-whole canvas tile i h) (omega arith))

pub visible-left : (canvas tile i : ℕ) → visible_of canvas tile i ≤ canvas - i * tile
visible-left canvas tile i = by_order (canvas - i * tile) tile (λ h. rw (visible-cut canvas tile i h) (omega arith)) (λ h. rw (visible-whole canvas tile i h) h)

-- what shows is within the canvas
pub visible-within : (canvas tile i : ℕ) → (visible_of canvas tile i ≡ 0 → ⊥) → i * tile + visible_of canvas tile i ≤ canvas
visible-within canvas tile i h = omega (arith, visible-left canvas tile i)

-- a place of the canvas that is in the cell shows
pub visible-shows : (canvas tile i x : ℕ) → x < canvas → i * tile ≤ x → x < i * tile + tile → x < i * tile + visible_of canvas tile i
visible-shows canvas tile i x l a b = by_order (canvas - i * tile) tile (λ h. rw (visible-cut canvas tile i h) (omega arith)) (λ h. rw (visible-whole canvas tile i h) b)

-- ---- a part of it stored

pub length-store_part : (c : Form) (T : Pic) (column row : ℕ) (p : Part) (d : List ℕ) → length (store_part c T column row p d) ≡ length d
unfolding store_part store_cell
length-store_part c T column row p d =
    by-test (has_part T.form.format p)
    (λ h. ap length (pick_true _ _ _ h) ∙ length-store_rows d _ _ _ _)
    (λ h. ap length (pick-false _ _ _ h))
