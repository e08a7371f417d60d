use Rattle.std.proofs.Common.{◌≡◌, ◌≤◌, ◌||◌, take, is_some, count_by}
use Rattle.std.specs.List.{zip}
use Rattle.vhd_map.proofs.maps.Map.union_count.Given as goal

abbrev pub invariant-loop-block : goal.invariant-loop-block
invariant-loop-block l =
    (l.blocks ≤ l.block) × (l.blocks ≡ count_by (λ (a, b). is_some a || is_some b) (take l.block (zip l.self l.other)))
