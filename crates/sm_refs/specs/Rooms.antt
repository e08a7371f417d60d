-- The room of a map.
use Rattle.std.specs.Prelude.{ℕ, ◌+◌}
use Rattle.indexmap.specs.IndexMap.{IndexMap, index_map_len, spare}

-- how many entries fit without memory, those that the map has among them
abbrev pub room_of : {K V S : Type 0} → IndexMap K V S → ℕ
room_of m = index_map_len m + spare m
