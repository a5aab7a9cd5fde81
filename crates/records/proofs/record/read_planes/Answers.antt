use mathlib.Core.Bool.{true}
use mathlib.Core.Path.{◌∙◌, ◌≡◌, sym}
use Prim.Native.Nat.{◌+◌, ◌≤◌}
use native.Mathlib.Omega.{arith}
use lib.ListN.{length}
use borrow.Author.Rules.{rules}
use Rattle.std.specs.Prelude.{Ok, Err}
use Rattle.laws.proofs.Out.{then-done, then-refused}
use Rattle.image.proofs.JudgedLaws.{chroma-rows, form-rows, has-luma, whole-rows}
use Rattle.records.proofs.RecordLaws.{part-as, part-past}
use Rattle.image.specs.Format.{rows_of}
use Rattle.records.specs.Record.{part_at, past, planes_at}
use Rattle.image.specs.declared.format.Part.TheVariants.{Alpha, Cb, Cr, Luma}
use Rattle.records.proofs.record.read_planes.Goals as goal
use Rattle.records.proofs.record.read_planes.Goals.{After-read_part, After-read_part-2, After-read_part-3, After-read_part-4, In_ok-luma, In_ok-cb, In_ok-cr, In_ok-alpha}

-- each call reads the part of the form
luma-is : (c : After-read_part) → c.read_part.result ≡ part_at c.args.s.now c.args.at c.args.form Luma
luma-is c = c.read_part.ensures ∙ part-as c.args.s.now c.args.at c.args.form Luma true c.args.form.height _ (has-luma c.args.form.format) (whole-rows c.args.form).0 c.row_size-row.ensures

cb-is : (c : After-read_part-2) → c.read_part-2.result ≡ part_at c.args.s.now (past c.in_ok-luma.luma) c.args.form Cb
unfolding past rows_of
cb-is c = c.read_part-2.ensures ∙ part-as c.args.s.now _ c.args.form Cb _ _ _ c.has-colour.ensures c.rows-chroma_rows.ensures c.row_size-chroma_row.ensures

cr-is : (c : After-read_part-3) → c.read_part-3.result ≡ part_at c.args.s.now (past c.in_ok-cb.cb) c.args.form Cr
unfolding past rows_of
cr-is c = c.read_part-3.ensures ∙ part-as c.args.s.now _ c.args.form Cr _ _ _ (c.has-colour.ensures ∙ (chroma-rows c.args.form).0) (c.rows-chroma_rows.ensures ∙ (chroma-rows c.args.form).1) (c.row_size-chroma_row.ensures ∙ (chroma-rows c.args.form).2)

alpha-is : (c : After-read_part-4) → c.read_part-4.result ≡ part_at c.args.s.now (past c.in_ok-cr.cr) c.args.form Alpha
unfolding past
alpha-is c = c.read_part-4.ensures ∙ part-as c.args.s.now _ c.args.form Alpha _ _ _ c.has.ensures (whole-rows c.args.form).1 (c.row_size-row.ensures ∙ (whole-rows c.args.form).2)

luma-at : (c : In_ok-luma) → part_at c.args.s.now c.args.at c.args.form Luma ≡ Ok c.in_ok-luma.luma
luma-at c = sym (luma-is (goal.at.In_ok-luma c).After-read_part) ∙ c.in_ok-luma.was

cb-at : (c : In_ok-cb) → part_at c.args.s.now (past c.in_ok-luma.luma) c.args.form Cb ≡ Ok c.in_ok-cb.cb
cb-at c = sym (cb-is (goal.at.In_ok-cb c).After-read_part-2) ∙ c.in_ok-cb.was

cr-at : (c : In_ok-cr) → part_at c.args.s.now (past c.in_ok-cb.cb) c.args.form Cr ≡ Ok c.in_ok-cr.cr
cr-at c = sym (cr-is (goal.at.In_ok-cr c).After-read_part-3) ∙ c.in_ok-cr.was

alpha-at : (c : In_ok-alpha) → part_at c.args.s.now (past c.in_ok-cr.cr) c.args.form Alpha ≡ Ok c.in_ok-alpha.alpha
alpha-at c = sym (alpha-is (goal.at.In_ok-alpha c).After-read_part-4) ∙ c.in_ok-alpha.was

luma-in : (c : In_ok-luma) → c.in_ok-luma.luma.start + c.in_ok-luma.luma.len ≤ length c.args.s.now
unfolding past
luma-in c = part-past _ _ _ _ _ (luma-at c) c.requires.1

cb-in : (c : In_ok-cb) → c.in_ok-cb.cb.start + c.in_ok-cb.cb.len ≤ length c.args.s.now
unfolding past
cb-in c = part-past _ _ _ _ _ (cb-at c) (luma-in (goal.at.In_ok-cb c).In_ok-luma)

cr-in : (c : In_ok-cr) → c.in_ok-cr.cr.start + c.in_ok-cr.cr.len ≤ length c.args.s.now
unfolding past
cr-in c = part-past _ _ _ _ _ (cr-at c) (cb-in (goal.at.In_ok-cr c).In_ok-cb)

alpha-in : (c : In_ok-alpha) → c.in_ok-alpha.alpha.start + c.in_ok-alpha.alpha.len ≤ length c.args.s.now
unfolding past
alpha-in c = part-past _ _ _ _ _ (alpha-at c) (cr-in (goal.at.In_ok-alpha c).In_ok-cr)

pub read_part-requires : goal.read_part-requires
read_part-requires c =
    let r = form-rows c.args.form c.requires.0 Luma in (rw (whole-rows c.args.form).0 r.0, rw (whole-rows c.args.form).0 r.1, rw c.row_size-row.ensures r.2)

pub overflow_add-luma : goal.overflow_add-luma
overflow_add-luma c = omega (arith, luma-in (goal.at.overflow_add-luma c).In_ok-luma, c.well_formed)

pub read_part-requires-2 : goal.read_part-requires-2
unfolding rows_of
read_part-requires-2 c = rw (c.rows-chroma_rows.ensures, c.row_size-chroma_row.ensures) (form-rows c.args.form c.requires.0 Cb)

pub overflow_add-cb : goal.overflow_add-cb
overflow_add-cb c = omega (arith, cb-in (goal.at.overflow_add-cb c).In_ok-cb, c.well_formed)

pub read_part-requires-3 : goal.read_part-requires-3
unfolding rows_of
read_part-requires-3 c = rw (c.rows-chroma_rows.ensures, c.row_size-chroma_row.ensures) (form-rows c.args.form c.requires.0 Cb)

pub overflow_add-cr : goal.overflow_add-cr
overflow_add-cr c = omega (arith, cr-in (goal.at.overflow_add-cr c).In_ok-cr, c.well_formed)

pub read_part-requires-4 : goal.read_part-requires-4
read_part-requires-4 c =
    let r = form-rows c.args.form c.requires.0 Luma in (rw (whole-rows c.args.form).0 r.0, rw (whole-rows c.args.form).0 r.1, rw c.row_size-row.ensures r.2)

pub overflow_add-result : goal.overflow_add-result
overflow_add-result c = omega (arith, alpha-in (goal.at.overflow_add-result c).In_ok-alpha, c.well_formed)

pub returns-in_err-luma : goal.returns-in_err-luma
unfolding planes_at past
returns-in_err-luma c =
    let e : c.from_residual.result ≡ Err c.in_err-luma.field-0.0 = search rules in
    rw e (sym (then-refused _ (sym (luma-is (goal.at.returns-in_err-luma c).After-read_part) ∙ c.in_err-luma.was)))

pub returns-in_err-cb : goal.returns-in_err-cb
unfolding planes_at past
returns-in_err-cb c =
    let e : c.from_residual-in_err-cb.result ≡ Err c.in_err-cb.field-0.0 = search rules in
    rw e (sym (then-done _ (luma-at (goal.at.returns-in_err-cb c).In_ok-luma) ∙ then-refused _ (sym (cb-is (goal.at.returns-in_err-cb c).After-read_part-2) ∙ c.in_err-cb.was)))

pub returns-in_err-cr : goal.returns-in_err-cr
unfolding planes_at past
returns-in_err-cr c =
    let e : c.from_residual-in_err-cr.result ≡ Err c.in_err-cr.field-0.0 = search rules in
    rw e (sym (then-done _ (luma-at (goal.at.returns-in_err-cr c).In_ok-luma) ∙ then-done _ (cb-at (goal.at.returns-in_err-cr c).In_ok-cb) ∙ then-refused _ (sym (cr-is (goal.at.returns-in_err-cr c).After-read_part-3) ∙ c.in_err-cr.was)))

pub returns-in_err-alpha : goal.returns-in_err-alpha
unfolding planes_at past
returns-in_err-alpha c =
    let e : c.from_residual-in_err-alpha.result ≡ Err c.in_err-alpha.field-0.0 = search rules in
    rw e (sym (then-done _ (luma-at (goal.at.returns-in_err-alpha c).In_ok-luma) ∙ then-done _ (cb-at (goal.at.returns-in_err-alpha c).In_ok-cb) ∙ then-done _ (cr-at (goal.at.returns-in_err-alpha c).In_ok-cr) ∙ then-refused _ (sym (alpha-is (goal.at.returns-in_err-alpha c).After-read_part-4) ∙ c.in_err-alpha.was)))

pub returns : goal.returns
unfolding planes_at past
returns c =
    sym (then-done _ (luma-at (goal.at.returns c).In_ok-luma) ∙ then-done _ (cb-at (goal.at.returns c).In_ok-cb) ∙ then-done _ (cr-at (goal.at.returns c).In_ok-cr) ∙ then-done _ (alpha-at (goal.at.returns c).In_ok-alpha))
