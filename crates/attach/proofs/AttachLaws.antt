-- Laws of attached alpha planes: what is kept as it stands, how long it is, and what is drawn.
use Rattle.std.specs.Prelude.{Ok, Err}
use mathlib.Core.Bool.{false, true}
use mathlib.Core.List.{List, [], ◌++◌}
use mathlib.Core.Path.{◌∙◌, ◌≡◌, ap, refl}
use Prim.Native.Nat.{◌+◌, ◌≤◌, ℕ}
use native.Mathlib.Omega.{arith}
use lib.ListN.{length, length-append}
use Rattle.laws.proofs.Order.{pick-false, pick_true}
use Rattle.laws.proofs.Out.{then-done, then-refused}
use Rattle.laws.specs.Out.{fitted}
use Rattle.laws.specs.declared.Refusal.{Refusal}
use Rattle.numbers.specs.Number.{number_bytes}
use Rattle.records.proofs.RecordLaws.{length-data, record-lens}
use Rattle.planes.proofs.RoundTrip.{length-plane_bytes, plane-agree}
use Rattle.records.specs.Record.{data_of, plane_of, record_of}
use Rattle.planes.specs.Bytes.{decode, head_bytes, plane_bytes, plane_size}
use Rattle.image.specs.Format.{columns_of, halved, has_alpha, has_part, is_mono, rows_of, side_of, sized, with_alpha}
use Rattle.image.specs.Sound.{FormSound}
use Rattle.records.specs.inner.Placed.{Sound}
use Rattle.image.specs.declared.format.Form.{Form}
use Rattle.image.specs.declared.format.Part.{Part}
use Rattle.image.specs.declared.format.Part.TheVariants.{Alpha, Cb, Cr, Luma}
use Rattle.records.specs.declared.record.Frame.{Frame}
use Rattle.records.specs.declared.record.Plane.{Plane}
use Rattle.attach.specs.Attach.{attach_bytes, alpha_bytes, alpha_kept, kept_part, kept_plane, luma_form, luma_of, attach_run}
use Rattle.attach.specs.inner.Kept.{KeptFits, Short}
use Rattle.sampling.specs.Depth.{rescaled, to_depth}
use Rattle.sampling.specs.Nearest.{nearest}
use Rattle.sampling.specs.inner.Depths.{DepthsFit}
use Rattle.sampling.specs.inner.Redraw.{RedrawFits, RuleFits, across_of, down_of, redrawn, row_at, row_of, rule_at}
use Rattle.sampling.specs.declared.raster.Rule.{Rule}

pub length-kept_plane : (s : List ℕ) (q : Plane) → q.start + q.len ≤ length s → length (kept_plane s q) ≡ length (number_bytes q.stride) + length (number_bytes q.len) + q.len
unfolding kept_plane
length-kept_plane s q h =
    let l = length-data s q h in
    length-append (number_bytes q.stride) (number_bytes q.len ++ data_of s q)
    ∙ omega (arith, length-append (number_bytes q.len) (data_of s q), l)

-- a plane of a frame that is sound and short can be kept
pub kept-fits : (s : List ℕ) (fr : Frame) (p : Part) → Sound s fr → Short fr → has_part fr.form.format p ≡ true → KeptFits s (plane_of fr p)
kept-fits s fr p o l h = let k = o.planes p h in record { inside = k.inside; stride = k.small; len = l.lens p }

pub luma-fits : (s : List ℕ) (fr : Frame) → Sound s fr → Short fr → KeptFits s fr.luma
unfolding plane_of has_part
luma-fits s fr o l = kept-fits s fr Luma o l refl

pub kept-some : (s : List ℕ) (fr : Frame) (p : Part) → has_part fr.form.format p ≡ true → kept_part s fr p ≡ kept_plane s (plane_of fr p)
unfolding kept_part
kept-some s fr p h = pick_true _ _ _ h

pub kept-none : (s : List ℕ) (fr : Frame) (p : Part) → has_part fr.form.format p ≡ false → kept_part s fr p ≡ []
unfolding kept_part
kept-none s fr p h = pick-false _ _ _ h

-- ---- the alpha plane

pub cover-as-is : (m : Form) (t : List ℕ) (gr : Frame) → alpha_kept m gr.form ≡ true → alpha_bytes m t gr ≡ kept_plane t gr.luma
unfolding alpha_bytes
cover-as-is m t gr h = pick_true _ _ _ h

-- the rule that draws it
abbrev pub cover_rule : (m n : Form) → DepthsFit n.format.depth m.format.depth → Rule
cover_rule m n fit = Rule.Near (record { old = n.format.depth; new = m.format.depth; fit = fit })

pub cover-depths : (m n : Form) → FormSound m → FormSound n → DepthsFit n.format.depth m.format.depth
cover-depths m n k l = record { old_low = l.low; old_high = l.high; new_low = k.low; new_high = k.high }

pub cover-drawn : (m : Form) (t : List ℕ) (gr : Frame) (fit : DepthsFit gr.form.format.depth m.format.depth) → alpha_kept m gr.form ≡ false → alpha_bytes m t gr ≡ plane_bytes (redrawn (luma_form m) (cover_rule m gr.form fit) (decode t gr)) Luma
unfolding alpha_bytes rescaled nearest luma_of luma_form to_depth sized redrawn rule_at row_at row_of across_of down_of columns_of rows_of halved side_of decode
cover-drawn m t gr fit h = pick-false _ _ _ h ∙ plane-agree (luma_form m) _ _ Luma (λ x y k a b. refl)

pub luma-sound : (m : Form) → FormSound m → FormSound (luma_form m)
unfolding luma_form
luma-sound m k = record { chroma = omega arith; low = k.low; high = k.high; alpha = omega arith; wide = k.wide; tall = k.tall; area = k.area }

pub cover-fits : (m : Form) (t : List ℕ) (gr : Frame) (fit : DepthsFit gr.form.format.depth m.format.depth) → FormSound m → Sound t gr → RedrawFits gr.form (luma_form m) (cover_rule m gr.form fit)
unfolding RuleFits has_part is_mono has_alpha luma_form
cover-fits m t gr fit k g = record {
  old = g.form;
  new = luma-sound m k;
  parts = parts;
  rule = λ p h. tt;
}
  where
    parts : (p : Part) → has_part (luma_form m).format p ≡ true → has_part gr.form.format p ≡ true
    parts Luma h = refl
    parts Cb h = cc
    parts Cr h = cc
    parts Alpha h = cc

pub length-cover : (m : Form) (t : List ℕ) (gr : Frame) → DepthsFit gr.form.format.depth m.format.depth → alpha_kept m gr.form ≡ false → length (alpha_bytes m t gr) ≡ plane_size (luma_form m) Luma
unfolding redrawn
length-cover m t gr fit h = ap length (cover-drawn m t gr fit h) ∙ length-plane_bytes (redrawn (luma_form m) (cover_rule m gr.form fit) (decode t gr)) Luma

-- ---- the whole record

pub length-attach : (s : List ℕ) (fr : Frame) (t : List ℕ) (gr : Frame)
    → length (attach_bytes s fr t gr) ≡ length (head_bytes (with_alpha fr.form 1)) + (length (kept_part s fr Luma) + (length (kept_part s fr Cb) + (length (kept_part s fr Cr) + length (alpha_bytes fr.form t gr))))
unfolding attach_bytes
length-attach s fr t gr = simp length-append

-- ---- the run

-- the planes of a record that was taken are short
pub record-short : (s : List ℕ) (fr : Frame) → record_of s ≡ Ok fr → Short fr
record-short s fr e = record { lens = record-lens s fr e }

module _ (s : List ℕ) (fr : Frame) (taken : record_of s ≡ Ok fr) (t : List ℕ) where
  pub attach-refused : (e : Refusal) (room : ℕ) → record_of t ≡ Err e → attach_run s t room ≡ Err e
  unfolding attach_run
  attach-refused e room q = then-done _ taken ∙ then-refused _ q

  pub attach-run : (gr : Frame) → record_of t ≡ Ok gr → (room : ℕ) → attach_run s t room ≡ fitted room (attach_bytes s fr t gr)
  unfolding attach_run
  attach-run gr q room = then-done _ taken ∙ then-done _ q
