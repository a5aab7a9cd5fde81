use Rattle.blocks.proofs.stripe.over_stripe.Goals as goal

pub over_list-requires : goal.over_list-requires
over_list-requires c =
    (c.requires.0, c.requires.1, c.requires.2, c.requires.3, c.requires.4, c.requires.5, c.requires.6 c.in-Some.n c.in-Some.is, c.requires.7)
