use Rattle.std.proofs.Common.{◌≡◌}
use Rattle.vhd_map.specs.Slots.{next_block}
use Rattle.vhd_map.proofs.maps.Map.next.Given as goal

abbrev pub invariant-loop-block : goal.invariant-loop-block
invariant-loop-block l = next_block l.self l.block ≡ next_block l.self l.from
