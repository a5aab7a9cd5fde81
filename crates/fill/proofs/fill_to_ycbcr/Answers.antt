use Rattle.std.proofs.Common.{◌≡◌, Bool, not, sym, ap, ◌∙◌}
use Rattle.image.proofs.JudgedLaws.{depth-sound}
use Rattle.image.specs.Format.{is_depth}
use Rattle.fill.proofs.fill_to_ycbcr.Goals as goal
use Rattle.fill.proofs.fill_to_ycbcr.Goals.{After-is_depth}

-- what the test says
depth_is : (c : After-is_depth) (b : Bool) → not c.is_depth.result ≡ b → not (is_depth c.args.depth) ≡ b
depth_is c b e = ap not (sym c.is_depth.ensures) ∙ e

pub identity-requires : goal.identity-requires
identity-requires c =
    (depth-sound _ (depth_is (goal.at.identity-requires c).After-is_depth _ (ap not c.if-not-is_depth.false))).1

pub weighted-requires : goal.weighted-requires
weighted-requires c =
    depth-sound _ (depth_is (goal.at.weighted-requires c).After-is_depth _ (ap not c.if-not-is_depth.false))
