use mathlib.Core.Bool.{true}
use mathlib.Core.List.{◌++◌}
use mathlib.Core.Path.{◌∙◌, ◌≡◌, ap, ap₂, sym}
use Prim.Native.Nat.{◌*◌, ◌+◌, ◌^◌, ◌≤◌, ℕ}
use native.Mathlib.Nat.{mul_comm}
use native.Mathlib.Omega.{arith}
use Rattle.laws.proofs.Writing.{Writing, writing-begin, writing-fits, writing-last, writing-none, writing-run}
use Rattle.laws.specs.Puts.{puts}
use Rattle.planes.proofs.ByteLaws.{length-samples_of}
use Rattle.image.proofs.FormLaws.{bytes-few}
use Rattle.planes.specs.Bytes.{plane_bytes, plane_head, samples_of}
use Rattle.image.specs.Format.{bytes_of, columns_of, has_part, rows_of}
use Rattle.paste.proofs.EvenLaws.{even-none, even-some, length-even-plane, plane-small}
use Rattle.paste.specs.inner.Even.{even_pic}
use Rattle.paste.proofs.paint.paint_plane.Goals as goal
use Rattle.paste.proofs.paint.paint_plane.Goals.{After-rows, After-write_plane_head-a, Then-has}

there : (c : Then-has) → has_part c.args.form.format c.args.part ≡ true
there c = sym c.has.ensures ∙ c.if-has.true

start : (c : Then-has)
    → Writing c.args.out.now c.args.at (plane_bytes (even_pic c.args.form c.args.v) c.args.part)
    c.args.out.now c.args.at
    (plane_head c.args.form c.args.part
    ++ samples_of (bytes_of c.args.form.format) (λ x. c.args.v)
    (rows_of c.args.form c.args.part * columns_of c.args.form c.args.part))
start c =
    writing-begin _ _ _ _ (even-some c.args.form c.args.v c.args.part (there c))
    (rw (length-even-plane c.args.form c.args.v c.args.part) c.requires.1)

first : (c : After-write_plane_head-a)
    → Writing c.args.out.now c.args.at (plane_bytes (even_pic c.args.form c.args.v) c.args.part)
    c.write_plane_head-a.new.out c.write_plane_head-a.result
    (samples_of (bytes_of c.args.form.format) (λ x. c.args.v)
    (rows_of c.args.form c.args.part * columns_of c.args.form c.args.part))
first c = writing-run (plane_head c.args.form c.args.part) (start (goal.at.After-write_plane_head-a c).Then-has) c.write_plane_head-a.ensures.0 c.write_plane_head-a.ensures.1

-- how many samples there are
count : (c : After-rows)
    → c.columns.result * c.rows.result ≡ rows_of c.args.form c.args.part * columns_of c.args.form c.args.part
unfolding columns_of rows_of
count c = ap₂ (λ (a b : ℕ). a * b) c.columns.ensures c.rows.ensures ∙ mul_comm _ _

small : (c : After-rows) → c.columns.result * c.rows.result ≤ 2 ^ 31
small c =
    omega (arith, count c, plane-small c.args.form c.requires.0 c.args.part)

pub write_plane_head-a-requires : goal.write_plane_head-a-requires
write_plane_head-a-requires c = (c.requires.0, writing-fits (plane_head c.args.form c.args.part) _ (start (goal.at.write_plane_head-a-requires c).Then-has))

pub overflow_mul-n : goal.overflow_mul-n
overflow_mul-n c = omega (arith, small c)

pub fill_row-requires : goal.fill_row-requires
fill_row-requires c =
    let k = bytes-few c.args.form.format in (
      rw c.bytes_per_sample.ensures k.0,
      rw c.bytes_per_sample.ensures k.1,
      rw (c.bytes_per_sample.ensures, count (goal.at.fill_row-requires c).After-rows)
          (rw (length-samples_of (bytes_of c.args.form.format) (λ x. c.args.v)
          (rows_of c.args.form c.args.part * columns_of c.args.form c.args.part) k.0 k.1)
          at (first (goal.at.fill_row-requires c).After-write_plane_head-a).room),
    )

pub returns-then-has : goal.returns-then-has
returns-then-has c =
    let k = bytes-few c.args.form.format in
    let l = length-samples_of (bytes_of c.args.form.format) (λ x. c.args.v)
    (rows_of c.args.form c.args.part * columns_of c.args.form c.args.part) k.0 k.1 in
    let w = writing-last (first (goal.at.returns-then-has c).After-write_plane_head-a)
    (c.fill_row.ensures.0 ∙ ap (λ (q : ℕ). c.write_plane_head-a.result + q) (ap₂ (λ (a b : ℕ). a * b) (count (goal.at.returns-then-has c).After-rows) c.bytes_per_sample.ensures ∙ sym l))
    (c.fill_row.ensures.1
    ∙ ap₂ (λ (b n : ℕ). puts c.write_plane_head-a.new.out c.write_plane_head-a.result (samples_of b (λ x. c.args.v) n)) c.bytes_per_sample.ensures (count (goal.at.returns-then-has c).After-rows)) in
    (w.0 ∙ ap (λ (q : ℕ). c.args.at + q) (length-even-plane c.args.form c.args.v c.args.part), w.1)

pub returns-else-has : goal.returns-else-has
returns-else-has c =
    let h = sym c.has.ensures ∙ c.if-has.false in
    let w = writing-none c.args.out.now c.args.at _ (even-none c.args.form c.args.v c.args.part h) in
    (w.0 ∙ ap (λ (q : ℕ). c.args.at + q) (length-even-plane c.args.form c.args.v c.args.part), w.1)
