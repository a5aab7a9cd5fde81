use Rattle.std.proofs.Common.{arith, sym, ◌∙◌, ap}
use Rattle.std.proofs.lemmas.List.{length-take-le}
use Rattle.laws.specs.Out.{answer_of}
use Rattle.steps_text.proofs.TextLaws.{text-count, text-fits}
use Rattle.steps.proofs.main.Goals as goal

pub unwrap-length-requires : goal.unwrap-length-requires
unfolding answer_of
unwrap-length-requires c = rw (c.steps_text.ensures.0 ∙ ap answer_of (text-fits _))

pub slice_bounds-text-end : goal.slice_bounds-text-end
slice_bounds-text-end c = omega (arith, text-count _ _ _ (sym c.unwrap-length.ensures ∙ c.steps_text.ensures.0))

pub slice_bounds-write_all-end : goal.slice_bounds-write_all-end
slice_bounds-write_all-end c = sym (length-take-le _ _ (omega (arith, text-count _ _ _ (sym c.unwrap-length.ensures ∙ c.steps_text.ensures.0))))
