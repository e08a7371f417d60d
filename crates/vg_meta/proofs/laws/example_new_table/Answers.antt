use Rattle.std.proofs.Common.{refl}
use Rattle.sm_base.specs.Names.{spelling}
use Rattle.vg_meta.specs.Segments.{joined, segments}
use Rattle.vg_meta.specs.Text.{text, volume_by}
use Rattle.vg_meta.proofs.laws.example_new_table.Goals as goal

pub returns-clause-text : goal.returns-clause-text
unfolding text volume_by segments joined spelling
returns-clause-text c = refl

pub returns-clause-sum : goal.returns-clause-sum
unfolding text volume_by segments joined spelling
returns-clause-sum c = refl
