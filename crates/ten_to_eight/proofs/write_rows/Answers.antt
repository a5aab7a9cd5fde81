use mathlib.Core.Path.{refl}
use Rattle.laws.specs.Pick.{pick}
use Rattle.sampling.specs.Depth.{level_of}
use Rattle.sampling.specs.Rounded.{rounded}
use Rattle.ten_to_eight.proofs.TableLaws.{ruled, table_at}
use Rattle.ten_to_eight.proofs.write_rows.Goals as goal

pub write_by-requires : goal.write_by-requires
unfolding ruled level_of rounded pick
write_by-requires c =
    (c.requires.0, table_at _ refl refl, c.requires.1)
