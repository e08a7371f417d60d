use Rattle.std.proofs.Common.{take}
use Rattle.std.specs.List.{flat_map}
use Rattle.vg_meta.specs.Text.{volume_by}
use Rattle.vg_meta.specs.Writing.{WritesText}
use Rattle.vg_meta.proofs.encoding.put_volumes.Given as goal

abbrev pub invariant-loop-volume : goal.invariant-loop-volume
invariant-loop-volume l = WritesText l.at (flat_map (λ v. volume_by l.grammar v.row) (take l.volume-index l.volumes)) l.initial.to l.to l.end
