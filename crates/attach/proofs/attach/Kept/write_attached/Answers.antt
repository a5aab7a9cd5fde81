use mathlib.Core.List.{List, ◌++◌}
use mathlib.Core.Path.{◌∙◌, ◌≡◌, ap}
use Prim.Native.Nat.{◌+◌, ℕ}
use lib.ListN.{length}
use Rattle.laws.proofs.Writing.{Writing, writing-ended, writing-fits, writing-run, writing-whole}
use Rattle.laws.specs.Puts.{puts}
use Rattle.planes.specs.Bytes.{head_bytes}
use Rattle.image.specs.declared.format.Part.{Part}
use Rattle.image.specs.declared.format.Part.TheVariants.{Cb, Cr, Luma}
use Rattle.attach.specs.Attach.{attach_bytes, alpha_bytes, kept_part}
use Rattle.image.specs.Format.{with_alpha}
use Rattle.attach.proofs.attach.Kept.write_attached.Goals as goal
use Rattle.attach.proofs.attach.Kept.write_attached.Goals.{After-keep_part-b, After-keep_part-c, After-keep_part-d, After-with_alpha, After-write_head-a, Start}

-- the head, the colour planes and the alpha plane in turn
abbrev all : (c : Start) → List ℕ
all c = attach_bytes c.args.self.picture.record.now c.args.self.picture.frame c.args.alpha.picture.record.now c.args.alpha.picture.frame

abbrev part : (c : Start) → Part → List ℕ
part c p = kept_part c.args.self.picture.record.now c.args.self.picture.frame p

abbrev last : (c : Start) → List ℕ
last c = alpha_bytes c.args.self.picture.frame.form c.args.alpha.picture.record.now c.args.alpha.picture.frame

w : (c : Start) → Writing c.args.out.now 0 (all c) c.args.out.now 0 (head_bytes (with_alpha c.args.self.picture.frame.form 1) ++ (part c Luma ++ (part c Cb ++ (part c Cr ++ last c))))
unfolding attach_bytes
w c = writing-whole _ _ c.requires

head-is : (c : After-with_alpha) → head_bytes c.with_alpha.result ≡ head_bytes (with_alpha c.args.self.picture.frame.form 1)
head-is c = ap head_bytes c.with_alpha.ensures

w0 : (c : After-write_head-a)
    → Writing c.args.out.now 0 (all (goal.at.After-write_head-a c).Start) c.write_head-a.new.out c.write_head-a.result
    (part (goal.at.After-write_head-a c).Start Luma ++ (part (goal.at.After-write_head-a c).Start Cb ++ (part (goal.at.After-write_head-a c).Start Cr ++ last (goal.at.After-write_head-a c).Start)))
w0 c =
    writing-run (head_bytes (with_alpha c.args.self.picture.frame.form 1)) (w (goal.at.After-write_head-a c).Start)
    (c.write_head-a.ensures.0 ∙ ap (λ (l : List ℕ). 0 + length l) (head-is (goal.at.After-write_head-a c).After-with_alpha))
    (c.write_head-a.ensures.1 ∙ ap (puts c.args.out.now 0) (head-is (goal.at.After-write_head-a c).After-with_alpha))

w1 : (c : After-keep_part-b)
    → Writing c.args.out.now 0 (all (goal.at.After-keep_part-b c).Start) c.keep_part-b.new.out c.keep_part-b.result (part (goal.at.After-keep_part-b c).Start Cb ++ (part (goal.at.After-keep_part-b c).Start Cr ++ last (goal.at.After-keep_part-b c).Start))
w1 c =
    writing-run (part (goal.at.After-keep_part-b c).Start Luma) (w0 (goal.at.After-keep_part-b c).After-write_head-a) c.keep_part-b.ensures.0 c.keep_part-b.ensures.1

w2 : (c : After-keep_part-c)
    → Writing c.args.out.now 0 (all (goal.at.After-keep_part-c c).Start) c.keep_part-c.new.out c.keep_part-c.result (part (goal.at.After-keep_part-c c).Start Cr ++ last (goal.at.After-keep_part-c c).Start)
w2 c =
    writing-run (part (goal.at.After-keep_part-c c).Start Cb) (w1 (goal.at.After-keep_part-c c).After-keep_part-b) c.keep_part-c.ensures.0 c.keep_part-c.ensures.1

w3 : (c : After-keep_part-d)
    → Writing c.args.out.now 0 (all (goal.at.After-keep_part-d c).Start) c.keep_part-d.new.out c.keep_part-d.result (last (goal.at.After-keep_part-d c).Start)
w3 c =
    writing-run (part (goal.at.After-keep_part-d c).Start Cr) (w2 (goal.at.After-keep_part-d c).After-keep_part-c) c.keep_part-d.ensures.0 c.keep_part-d.ensures.1

pub write_head-a-requires : goal.write_head-a-requires
write_head-a-requires c = rw (head-is c) (writing-fits (head_bytes (with_alpha c.args.self.picture.frame.form 1)) _ (w (goal.at.write_head-a-requires c).Start))

pub keep_part-b-requires : goal.keep_part-b-requires
keep_part-b-requires c =
    (writing-fits (part (goal.at.keep_part-b-requires c).Start Luma) _ (w0 (goal.at.keep_part-b-requires c).After-write_head-a))

pub keep_part-c-requires : goal.keep_part-c-requires
keep_part-c-requires c =
    (writing-fits (part (goal.at.keep_part-c-requires c).Start Cb) _ (w1 (goal.at.keep_part-c-requires c).After-keep_part-b))

pub keep_part-d-requires : goal.keep_part-d-requires
keep_part-d-requires c =
    (writing-fits (part (goal.at.keep_part-d-requires c).Start Cr) _ (w2 (goal.at.keep_part-d-requires c).After-keep_part-c))

pub write_alpha-requires : goal.write_alpha-requires
write_alpha-requires c =
    (c.args.self.picture.sound.form, (w3 (goal.at.write_alpha-requires c).After-keep_part-d).room)

pub returns : goal.returns
returns c = writing-ended (w3 (goal.at.returns c).After-keep_part-d) c.write_alpha.ensures.0 c.write_alpha.ensures.1
