use Rattle.std.proofs.Common.{◌≡◌, ℕ, ◌+◌, ◌*◌, ◌<◌}
use Rattle.sm_base.specs.Numbers.{first}
use Rattle.vhd_map.specs.Slots.{slot_of}
use Rattle.vhd_map.specs.Places.{code, word}
use Rattle.vhd_map.proofs.maps.Map.write_sector.Given as goal

abbrev pub invariant-loop-j : goal.invariant-loop-j
invariant-loop-j l =
    (k : ℕ) → k < l.j → word l.to k ≡ code (first l.geometry.entries) l.geometry.block (slot_of l.self (128 * l.index + k))
