-- A plane's rows one after the other are one run of samples.
use Rattle.std.specs.Prelude.{Ok, Option}
use mathlib.Core.List.{List, ◌++◌, append-nil}
use mathlib.Core.Path.{◌∙◌, ◌≡◌, ap, ap₂, sym}
use Prim.Native.Nat.{◌%◌, ◌*◌, ◌+◌, ◌/◌, ◌<◌, ◌≤◌, suc, zero, ℕ}
use native.Mathlib.Nat.{suc-mul}
use native.Mathlib.Omega.{arith}
use lib.Arith.{digits_div, digits_mod}
use lib.ListN.{length}
use Rattle.laws.proofs.Out.{refuse-no}
use Rattle.laws.proofs.Span.{span-cong, span-end, span-shift, span-split, span-step}
use Rattle.laws.specs.Puts.{puts}
use Rattle.laws.specs.Span.{span}
use Rattle.image.proofs.JudgedLaws.{depth-taken}
use Rattle.image.specs.declared.format.Form.{Form}
use Rattle.image.specs.declared.format.Part.{Part}
use Rattle.planes.proofs.RoundTrip.{length-encode}
use Rattle.planes.specs.Bytes.{encode, sample_bytes, samples_of, size_of}
use Rattle.fill.specs.Fill.{fill_of, nclx_of, part_of, ycbcr_of}
use Rattle.fill.specs.declared.Nclx.{Nclx}
use Rattle.fill.specs.declared.Ycbcr.{Ycbcr}
use Rattle.derived.specs.declared.overlay.Fill.{Fill}
use Rattle.inputs.specs.Layers.{Layer}
use Rattle.blend.specs.Overlay.{overlay_pic}
use Rattle.overlay.specs.Run.{fill_part}

pub flat_rows : (bytes : ℕ) (f : ℕ → ℕ → ℕ) (c n : ℕ) → 1 ≤ c
    → span (λ y. samples_of bytes (λ x. f x y) c) 0 n ≡ span (λ q. sample_bytes bytes (f (q % c) (q / c))) 0 (n * c)
unfolding samples_of
flat_rows bytes f c zero h = span-end _ 0 0 (omega arith) ∙ sym (span-end _ 0 (0 * c) (omega arith))
flat_rows bytes f c (suc n) h =
    let m : suc n * c ≡ n * c + c = omega (arith, suc-mul n c) in
    let one : n + 1 ≡ suc n = omega arith in
    span-split _ 0 n (suc n) (omega arith) (omega arith)
    ∙ ap₂ (λ (a b : List ℕ). a ++ b) (flat_rows bytes f c n h)
    (ap (λ (k : ℕ). span (λ y. span (λ x. sample_bytes bytes (f x y)) 0 c) n k) (sym one) ∙ span-step _ n (n + 1) (omega arith)
    ∙ ap (λ (l : List ℕ). span (λ x. sample_bytes bytes (f x n)) 0 c ++ l) (span-end _ (n + 1) (n + 1) (omega arith)) ∙ append-nil _
    ∙ sym (span-shift (λ q. sample_bytes bytes (f (q % c) (q / c))) (n * c) c ∙ span-cong _ _ 0 c (λ x a b. row x b)))
    ∙ sym (span-split _ 0 (n * c) (n * c + c) (omega arith) (omega arith)) ∙ ap (span (λ q. sample_bytes bytes (f (q % c) (q / c))) 0) (sym m)
  where
    row : (x : ℕ) → x < c → sample_bytes bytes (f ((n * c + x) % c) ((n * c + x) / c)) ≡ sample_bytes bytes (f x n)
    row x b = ap₂ (λ (i j : ℕ). sample_bytes bytes (f i j)) (digits_mod n b) (digits_div n b)

-- a depth that was taken has a fill
pub fill-taken : (k : Fill) (depth : ℕ) (colour : Option Nclx) → 8 ≤ depth → depth ≤ 16 → fill_of k.red k.green k.blue depth colour ≡ Ok (ycbcr_of (part_of k.red) (part_of k.green) (part_of k.blue) depth (nclx_of colour))
unfolding fill_of
fill-taken k depth colour l h = refuse-no _ _ (depth-taken depth l h)

pub drawn-answer : (m : Form) (s s' : Ycbcr) (a a' : ℕ) (ls : List Layer) (r : ℕ) (d d' : List ℕ) → s ≡ s' → a ≡ a'
    → (r ≡ length (encode (overlay_pic m (fill_part s a) ls))) × (d' ≡ puts d 0 (encode (overlay_pic m (fill_part s a) ls))) → (r ≡ length (encode (overlay_pic m (fill_part s' a') ls))) × (d' ≡ puts d 0 (encode (overlay_pic m (fill_part s' a') ls)))
drawn-answer m s s' a a' ls r d d' e f h = rw (e, f) at h

-- how long the record is, and a fill at most top, by the samples that were worked out
pub drawn-size : (m : Form) (fill : Part → ℕ) (ls : List Layer) → length (encode (overlay_pic m fill ls)) ≡ size_of m
unfolding overlay_pic
drawn-size m fill ls = length-encode (overlay_pic m fill ls)

pub drawn-low : (s s' : Ycbcr) (a a' t : ℕ) → s ≡ s' → a ≡ a' → ((p : Part) → fill_part s' a' p ≤ t) → (p : Part) → fill_part s a p ≤ t
drawn-low s s' a a' t e f h p = rw (e, f) (h p)
