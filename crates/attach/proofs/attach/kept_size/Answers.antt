use native.Mathlib.Omega.{arith}
use Rattle.attach.proofs.AttachLaws.{length-kept_plane}
use Rattle.attach.proofs.attach.kept_size.Goals as goal

pub returns : goal.returns
returns c =
    let l = length-kept_plane c.args.s.now c.args.q c.requires.inside in (
      omega (arith, c.number_length.ensures.0, c.number_length-2.ensures.0, l),
      omega (arith, c.number_length.ensures.1, c.number_length-2.ensures.1, c.requires.len),
    )
