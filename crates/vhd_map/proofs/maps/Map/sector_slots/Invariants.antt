use Rattle.std.proofs.Common.{◌≡◌, ℕ, ◌<◌, ◌≤◌, length, get_or}
use Rattle.sm_base.specs.Numbers.{first}
use Rattle.vhd_map.specs.Places.{blank, NamesSlots}
use Rattle.vhd_map.proofs.maps.Map.sector_slots.Given as goal

abbrev pub invariant-loop-j : goal.invariant-loop-j
invariant-loop-j l =
    (length l.found ≡ 128) × NamesSlots (first l.geometry.entries) l.geometry.block l.blocks l.slots l.self l.index l.bytes l.found l.j × ((k : ℕ) → l.j ≤ k → k < 128 → get_or l.found k 0 ≡ blank)
