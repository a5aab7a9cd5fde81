use mathlib.Core.Path.{◌∙◌, refl, sym}
use Rattle.steps_text.proofs.text.step.Goals as goal

pub unwrap-next-requires : goal.unwrap-next-requires
unwrap-next-requires c = rw (c.read_entry.ensures ∙ c.requires.read)

pub returns : goal.returns
returns c =
    record {
      entry = c.unwrap-next.result;
      read = sym c.read_entry.ensures ∙ c.unwrap-next.ensures;
      kind = c.kind.ensures;
      after = c.size_after.ensures;
      next = refl;
    }
