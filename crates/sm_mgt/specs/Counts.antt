-- The UUIDs of the records in order, so that those of one disk stand together.
use Rattle.std.specs.Prelude.{ℕ, List, map, Option, Some, None}
use Rattle.std.specs.Cmp.Lexicographic.{slice_cmp}
use Rattle.std.specs.List.Sorted.{IsPermutation, IsSorted}
use Rattle.std.specs.Option.{option_cmp}
use Rattle.std.specs.Ordering.{nat_cmp}
use Rattle.std.specs.declared.cmp.Ordering.{Ordering}
use Rattle.sm_record.specs.declared.records.Record.{Record}

-- the UUID of the record in a place, where one is
abbrev pub uuid_in : Option Record → Option (List ℕ)
uuid_in None = None
uuid_in (Some r) = Some r.uuid

-- UUIDs are ordered by their bytes, and a place without a record comes before each of them
abbrev pub uuid_order : Option (List ℕ) → Option (List ℕ) → Ordering
uuid_order = option_cmp (slice_cmp nat_cmp)

-- these are the UUIDs of the places, in order
pub record AreUuidsOf (places : List (Option Record)) (uuids : List (Option (List ℕ))) : Type 0 where
  pub same : IsPermutation (map uuid_in places) uuids
  pub sorted : IsSorted uuid_order uuids
