-- Laws of the runs: what is judged, and the body that is written where nothing is refused.
use Rattle.std.specs.Prelude.{Ok, Err}
use mathlib.Core.Bool.{Bool, ◌&&◌, false, not, true}
use mathlib.Core.List.{List, ◌++◌}
use mathlib.Core.Path.{◌∙◌, ◌≡◌, ap, refl, sym}
use Prim.Native.Nat.{◌*◌, ◌+◌, ◌/◌, ◌<◌, ◌^◌, ◌≤◌, ℕ}
use native.Mathlib.Omega.{arith}
use lib.ListN.{get_or, length}
use borrow.Author.Tests.{le-ltb, ltb-false, ne_eqb, not-false}
use Rattle.laws.proofs.Order.{and-true, true-and}
use Rattle.laws.proofs.Out.{and_then-done, fitted-room, fitted_short, refuse-done, refuse-no, then-done, then-refused}
use Rattle.laws.specs.Out.{Out, and_then, fitted, reason, refuse}
use Rattle.laws.specs.Span.{span}
use Rattle.laws.specs.declared.Refusal.{Refusal}
use Rattle.image.specs.Format.{judged_size}
use Rattle.image.specs.declared.size.Size.{Size}
use Rattle.derived.specs.Canvas.{field_bytes}
use Rattle.derived.specs.declared.grid.GridDescriptor.{GridDescriptor}
use Rattle.derived.specs.declared.overlay.Fill.{Fill}
use Rattle.bodies.proofs.FormLaws.{length-grid}
use Rattle.bodies.proofs.WordLaws.{length-body, words-body}
use Rattle.bodies.specs.Form.{flags_of, narrow_canvas}
use Rattle.bodies.specs.Grid.{grid_body, grid_body_in, grid_body_run, grid_judged, is_tile_count}
use Rattle.bodies.specs.Overlay.{OverlayFields, fields_in, overlay_body, overlay_body_run, overlay_judged}
use Rattle.bodies.specs.inner.Words.{narrow_inputs, overlay_head, word_bytes}

-- judged one after the other
pub judged-then : {A B C : Type 0} (o : Out A) (b : B) (x : Out C) → and_then (and_then o (λ _. Ok b)) (λ _. x) ≡ and_then o (λ _. x)
unfolding and_then
judged-then (Err r) b x = refl
judged-then (Ok a) b x = refl

pub refused-then : {B C : Type 0} (t : Bool) (n : ℕ) (b : B) (x : Out C) → and_then (refuse t n (Ok b)) (λ _. x) ≡ refuse t n x
unfolding and_then refuse
refused-then true n b x = refl
refused-then false n b x = refl

-- ---- a grid

pub grid-judged : (g : GridDescriptor) (u : Unit) → grid_judged g ≡ Ok u
    → (is_tile_count g.rows ≡ true) × (is_tile_count g.columns ≡ true) × (z : Size) × (judged_size g.output_width g.output_height ≡ Ok z)
unfolding grid_judged
grid-judged g u e =
    let t = refuse-done _ 19 _ u e in
    let tiles = and-true _ _ (not-false _ t.0) in
    let j = and_then-done _ _ u t.1 in
    (tiles.0, tiles.1, j.0, j.1)

pub judged-grid : (g : GridDescriptor) (z : Size) → is_tile_count g.rows ≡ true → is_tile_count g.columns ≡ true → judged_size g.output_width g.output_height ≡ Ok z → grid_judged g ≡ Ok tt
unfolding grid_judged
judged-grid g z rows columns e = refuse-no 19 _ (ap not (true-and _ _ rows columns)) ∙ then-done _ e

module _ (g : GridDescriptor) (room : ℕ) where
  pub grid-refused : (r : Refusal) → grid_judged g ≡ Err r → grid_body_run g room ≡ Err r
  unfolding grid_body_run
  grid-refused r e = then-refused _ e

  module _ (u : Unit) (judged : grid_judged g ≡ Ok u) where
    pub grid-run : grid_body_run g room ≡ fitted room (grid_body g)
    unfolding grid_body_run
    grid-run = then-done _ judged

    -- with the flags that the rule picks
    module _ (flags : ℕ) (picked : flags ≡ flags_of (narrow_canvas g.output_width g.output_height)) where
      by_flags : grid_body_run g room ≡ fitted room (grid_body_in flags g)
      unfolding grid_body
      by_flags = grid-run ∙ ap (λ (k : ℕ). fitted room (grid_body_in k g)) (sym picked)

      pub grid-short : room < 4 + 2 * field_bytes flags → grid_body_run g room ≡ Err (reason 17)
      grid-short h = by_flags ∙ fitted_short room _ (omega (arith, length-grid flags g))

      pub grid-done : 4 + 2 * field_bytes flags ≤ room → (length (grid_body_in flags g) ≤ room) × (grid_body_run g room ≡ Ok (grid_body_in flags g))
      grid-done h = let l : length (grid_body_in flags g) ≤ room = omega (arith, length-grid flags g) in (l, by_flags ∙ fitted-room room _ l)

-- ---- an overlay

pub overlay-judged : (o : OverlayFields) (u : Unit) → overlay_judged o ≡ Ok u → (z : Size) × (judged_size o.width o.height ≡ Ok z) × (o.count ≤ 65536)
unfolding overlay_judged
overlay-judged o u e =
    let j = and_then-done _ _ u e in
    let m = refuse-done _ 4 _ u j.2 in
    (j.0, j.1, ltb-false 65536 o.count m.0)

pub judged-overlay : (o : OverlayFields) (z : Size) → judged_size o.width o.height ≡ Ok z → 1 ≤ o.count → o.count ≤ 65536 → overlay_judged o ≡ Ok tt
unfolding overlay_judged
judged-overlay o z e some few = then-done _ e ∙ refuse-no 4 _ (le-ltb 65536 o.count few) ∙ refuse-no 15 _ (ne_eqb o.count 0 (λ q. omega arith))

module _ (o : OverlayFields) (room : ℕ) where
  pub overlay-refused : (r : Refusal) → overlay_judged o ≡ Err r → overlay_body_run o room ≡ Err r
  unfolding overlay_body_run
  overlay-refused r e = then-refused _ e

  pub overlay-run : (u : Unit) → overlay_judged o ≡ Ok u → overlay_body_run o room ≡ fitted room (overlay_body o)
  unfolding overlay_body_run
  overlay-run u e = then-done _ e

-- from words, with the flags that the rule picks
module _ (fill : Fill) (w h : ℕ) (words : List ℕ) (room : ℕ) (u : Unit) (judged : overlay_judged (fields_in fill w h words) ≡ Ok u) (small : (k : ℕ) → get_or words k 0 < 2 ^ 32) (flags : ℕ)
    (picked : flags ≡ flags_of (narrow_canvas w h && narrow_inputs words (length words / 2))) where
  abbrev body : List ℕ
  body = overlay_head flags fill w h ++ span (word_bytes (field_bytes flags) words) 0 (length words / 2)

  by-words : overlay_body_run (fields_in fill w h words) room ≡ fitted room body
  by-words = overlay-run (fields_in fill w h words) room u judged ∙ ap (fitted room) (words-body fill w h words small flags picked)

  pub overlay-short : room < 10 + 2 * field_bytes flags + length words / 2 * (2 * field_bytes flags) → overlay_body_run (fields_in fill w h words) room ≡ Err (reason 17)
  overlay-short l = by-words ∙ fitted_short room body (omega (arith, length-body fill w h words small flags picked))

  pub overlay-done : 10 + 2 * field_bytes flags + length words / 2 * (2 * field_bytes flags) ≤ room → (length body ≤ room) × (overlay_body_run (fields_in fill w h words) room ≡ Ok body)
  overlay-done l = let q : length body ≤ room = omega (arith, length-body fill w h words small flags picked) in (q, by-words ∙ fitted-room room body q)
