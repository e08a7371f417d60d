use Rattle.std.proofs.Common.{◌*◌}
use Rattle.vhd_stream.specs.Known.{blocks_known}
use Rattle.vhd_stream.proofs.TableSteps.{IsFilledTo}
use Rattle.vhd_stream.proofs.tables.fill_sector.Given as goal

abbrev pub invariant-loop-at : goal.invariant-loop-at
invariant-loop-at l = IsFilledTo (blocks_known l.block l.tree.rows l.name l.count) l.count (128 * l.index) l.at l.place l.to
