use mathlib.Core.Path.{◌∙◌, sym}
use Rattle.records.proofs.RecordLaws.{head-sound}
use Rattle.records.proofs.record.read_record.Goals as goal

pub read_planes-requires : goal.read_planes-requires
read_planes-requires c = head-sound _ _ _ (sym c.read_head.ensures ∙ c.in_ok-form.was)
