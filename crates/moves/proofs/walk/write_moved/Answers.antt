use Rattle.image.specs.declared.format.Part.TheVariants.{Alpha, Cb, Cr, Luma}
use Rattle.planes.proofs.WritingLaws.{Written, alpha-written, cb-written, cr-written, head-fits, head-written, luma-written, plane-fits}
use Rattle.planes.specs.Bytes.{decode}
use Rattle.planes.specs.Picture.{Pic}
use Rattle.moves.specs.inner.Move.{moved}
use Rattle.moves.proofs.walk.write_moved.Goals as goal
use Rattle.moves.proofs.walk.write_moved.Goals.{After-write_head-a, After-write_plane-b, After-write_plane-c, After-write_plane-d, Start}

-- the picture that is written
abbrev picture : Start → Pic
picture start = moved start.args.v (decode start.args.picture.«record».now start.args.picture.frame)

-- the head and the planes in turn
after-head : (c : After-write_head-a)
    → Written (picture (goal.at.After-write_head-a c).Start) c.args.out.now c.write_head-a.new.out c.write_head-a.result Luma
unfolding moved
after-head c = head-written c.requires.1 c.write_head-a.ensures.0 c.write_head-a.ensures.1

after-luma : (c : After-write_plane-b)
    → Written (picture (goal.at.After-write_plane-b c).Start) c.args.out.now c.write_plane-b.new.out c.write_plane-b.result Cb
after-luma c = luma-written (after-head (goal.at.After-write_plane-b c).After-write_head-a) c.write_plane-b.ensures.0 c.write_plane-b.ensures.1

after-cb : (c : After-write_plane-c)
    → Written (picture (goal.at.After-write_plane-c c).Start) c.args.out.now c.write_plane-c.new.out c.write_plane-c.result Cr
after-cb c = cb-written (after-luma (goal.at.After-write_plane-c c).After-write_plane-b) c.write_plane-c.ensures.0 c.write_plane-c.ensures.1

after-cr : (c : After-write_plane-d)
    → Written (picture (goal.at.After-write_plane-d c).Start) c.args.out.now c.write_plane-d.new.out c.write_plane-d.result Alpha
after-cr c = cr-written (after-cb (goal.at.After-write_plane-d c).After-write_plane-c) c.write_plane-d.ensures.0 c.write_plane-d.ensures.1

pub write_head-a-requires : goal.write_head-a-requires
unfolding moved
write_head-a-requires c = head-fits (picture (goal.at.write_head-a-requires c).Start) c.args.out.now c.requires.1

pub write_plane-b-requires : goal.write_plane-b-requires
write_plane-b-requires c = (c.requires.0, plane-fits (after-head (goal.at.write_plane-b-requires c).After-write_head-a))

pub write_plane-c-requires : goal.write_plane-c-requires
write_plane-c-requires c = (c.requires.0, plane-fits (after-luma (goal.at.write_plane-c-requires c).After-write_plane-b))

pub write_plane-d-requires : goal.write_plane-d-requires
write_plane-d-requires c = (c.requires.0, plane-fits (after-cb (goal.at.write_plane-d-requires c).After-write_plane-c))

pub write_plane-requires : goal.write_plane-requires
write_plane-requires c = (c.requires.0, plane-fits (after-cr (goal.at.write_plane-requires c).After-write_plane-d))

pub returns : goal.returns
returns c = alpha-written (after-cr (goal.at.returns c).After-write_plane-d) c.write_plane.ensures.0 c.write_plane.ensures.1
