use Rattle.std.specs.Prelude.{Ok, Err}
use mathlib.Core.Bool.{◌&&◌}
use mathlib.Core.List.{List, ◌++◌}
use mathlib.Core.Path.{◌∙◌, ◌≡◌, ap, sym}
use Prim.Native.Nat.{◌*◌, ◌/◌, ◌<◌, ◌^◌, ◌≤◌, ℕ}
use native.Mathlib.Nat.{zero-add}
use native.Mathlib.Omega.{arith}
use lib.ListN.{get_or, length, length-append}
use borrow.Author.Rules.{rules}
use Rattle.laws.proofs.Order.{mul-below}
use Rattle.laws.proofs.Out.{done-answers, refused-answers}
use Rattle.laws.proofs.Writing.{Writing, writing-ended, writing-run, writing-whole}
use Rattle.laws.specs.Span.{span}
use Rattle.derived.specs.Canvas.{field_bytes}
use Rattle.bodies.proofs.FormLaws.{field-length}
use Rattle.bodies.proofs.RunLaws.{overlay-done, overlay-judged, overlay-refused, overlay-short}
use Rattle.bodies.specs.inner.Words.{narrow_inputs, overlay_head, word_bytes}
use Rattle.bodies.specs.Form.{flags_of, narrow_canvas}
use Rattle.bodies.specs.Overlay.{OverlayFields, fields_in, overlay_body_run, overlay_judged}
use Rattle.bodies.proofs.overlay.write_overlay.Goals as goal
use Rattle.bodies.proofs.overlay.write_overlay.Goals.{After-field_bytes-bytes, After-flags_of-flags, After-put_head-at, After-shared_slice_known-1, Else-out-bytes, In_ok-judge_fields, Start}

-- the fields, and with those flags what stands before the offsets and the offsets
abbrev fields : Start → OverlayFields
fields start = fields_in start.args.fill start.args.width start.args.height start.args.offsets.now

abbrev head : Start → ℕ → List ℕ
head start flags = overlay_head flags start.args.fill start.args.width start.args.height

abbrev words : Start → ℕ → List ℕ
words start flags = span (word_bytes (field_bytes flags) start.args.offsets.now) 0 (length start.args.offsets.now / 2)

small : (c : After-shared_slice_known-1) (k : ℕ) → get_or c.args.offsets.now k 0 < 2 ^ 32
small c k = omega (arith, c.type_inv.offsets k)

taken : (c : In_ok-judge_fields) → overlay_judged (fields (goal.at.In_ok-judge_fields c).Start) ≡ Ok tt
unfolding overlay_judged fields_in
taken c = sym c.judge_fields.ensures ∙ c.in_ok-judge_fields.was

picked : (c : After-flags_of-flags)
    → c.flags_of-flags.result
    ≡ flags_of (narrow_canvas c.args.width c.args.height && narrow_inputs c.args.offsets.now (length c.args.offsets.now / 2))
picked c = c.flags_of-flags.ensures ∙ ap flags_of c.narrow_overlay.ensures

few : (c : After-field_bytes-bytes)
    → (c.field_bytes-bytes.result ≤ 4) × (length c.args.offsets.now / 2 * (2 * c.field_bytes-bytes.result) ≤ 524288)
unfolding fields_in
few c =
    let h : c.field_bytes-bytes.result ≤ 4 = omega (arith, c.field_bytes-bytes.ensures, field-length c.flags_of-flags.result) in
    (h, mul-below 65536 8 _ _ (overlay-judged _ tt (taken (goal.at.After-field_bytes-bytes c).In_ok-judge_fields)).2 (omega arith))

-- the body fits, and is what the run comes to
fits : (c : Else-out-bytes)
    → (length (head (goal.at.Else-out-bytes c).Start c.flags_of-flags.result ++ words (goal.at.Else-out-bytes c).Start c.flags_of-flags.result) ≤ length c.args.out.now)
    × (overlay_body_run (fields (goal.at.Else-out-bytes c).Start) (length c.args.out.now) ≡ Ok (head (goal.at.Else-out-bytes c).Start c.flags_of-flags.result ++ words (goal.at.Else-out-bytes c).Start c.flags_of-flags.result))
fits c =
    overlay-done c.args.fill c.args.width c.args.height c.args.offsets.now (length c.args.out.now) tt (taken (goal.at.Else-out-bytes c).In_ok-judge_fields) (small (goal.at.Else-out-bytes c).After-shared_slice_known-1) _
    (picked (goal.at.Else-out-bytes c).After-flags_of-flags) (rw c.field_bytes-bytes.ensures at c.if-out-bytes.false)

offsets : (c : After-put_head-at)
    → Writing c.args.out.now 0 (head (goal.at.After-put_head-at c).Start c.flags_of-flags.result ++ words (goal.at.After-put_head-at c).Start c.flags_of-flags.result) c.put_head-at.new.out c.put_head-at.result (words (goal.at.After-put_head-at c).Start c.flags_of-flags.result)
offsets c =
    writing-run (head (goal.at.After-put_head-at c).Start c.flags_of-flags.result) (writing-whole _ _ (fits (goal.at.After-put_head-at c).Else-out-bytes).0) (c.put_head-at.ensures.0 ∙ sym (zero-add _)) c.put_head-at.ensures.1

pub narrow_overlay-requires : goal.narrow_overlay-requires
narrow_overlay-requires c = omega arith

pub overflow_mul-bytes : goal.overflow_mul-bytes
overflow_mul-bytes c = omega (arith, few c)

pub overflow_add-bytes : goal.overflow_add-bytes
overflow_add-bytes c = omega (arith, few c)

pub overflow_mul-bytes-2 : goal.overflow_mul-bytes-2
overflow_mul-bytes-2 c = omega (arith, few c)

pub overflow_mul-count : goal.overflow_mul-count
overflow_mul-count c = omega (arith, few c)

pub overflow_add-bytes-2 : goal.overflow_add-bytes-2
overflow_add-bytes-2 c = omega (arith, few c)

pub returns-then-out-bytes : goal.returns-then-out-bytes
returns-then-out-bytes c =
    refused-answers _ _ _ (overlay-short c.args.fill c.args.width c.args.height c.args.offsets.now _ tt (taken (goal.at.returns-then-out-bytes c).In_ok-judge_fields) (small (goal.at.returns-then-out-bytes c).After-shared_slice_known-1) _ (picked (goal.at.returns-then-out-bytes c).After-flags_of-flags) (rw c.field_bytes-bytes.ensures at c.if-out-bytes.true))

pub put_head-at-requires : goal.put_head-at-requires
put_head-at-requires c =
    omega (arith, (fits (goal.at.put_head-at-requires c).Else-out-bytes).0, length-append (head (goal.at.put_head-at-requires c).Start c.flags_of-flags.result) (words (goal.at.put_head-at-requires c).Start c.flags_of-flags.result))

pub put_offsets-requires : goal.put_offsets-requires
put_offsets-requires c =
    rw c.field_bytes-bytes.ensures (field-length c.flags_of-flags.result, (offsets (goal.at.put_offsets-requires c).After-put_head-at).room)

pub returns-in_err-judge_fields : goal.returns-in_err-judge_fields
unfolding overlay_judged fields_in
returns-in_err-judge_fields c =
    let e : c.from_residual.result ≡ Err c.in_err-judge_fields.field-0.0 = search rules in
    rw e (refused-answers _ _ _ (overlay-refused (fields (goal.at.returns-in_err-judge_fields c).Start) _ _ (sym c.judge_fields.ensures ∙ c.in_err-judge_fields.was)))

pub returns : goal.returns
returns c =
    let o = fits (goal.at.returns c).Else-out-bytes in
    let w = writing-ended (offsets (goal.at.returns c).After-put_head-at) (rw c.field_bytes-bytes.ensures at c.put_offsets.ensures.0) (rw c.field_bytes-bytes.ensures at c.put_offsets.ensures.1) in
    done-answers _ _ _ _ _ o.1 o.0 w.0 w.1
