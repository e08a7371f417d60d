use Rattle.std.proofs.Common.{◌≡◌, ◌-◌, ◌^◌, length, take, min}
use Rattle.std.specs.List.{flat_map}
use Rattle.vg_meta.specs.Text.{volume_text}
use Rattle.vg_meta.proofs.encoding.volumes_length.Given as goal

abbrev pub invariant-loop-volume : goal.invariant-loop-volume
invariant-loop-volume l = l.total ≡ min (length (flat_map (λ v. volume_text v.row) (take l.volume-index l.volumes))) (2 ^ 64 - 1)
