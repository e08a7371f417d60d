use Rattle.std.proofs.Common.{◌≡◌, ◌<◌, ◌^◌, ◌++◌, length}
use Rattle.std.specs.List.{flat_map, AllByRecursion}
use Rattle.byteorder.specs.Endian.{big_bytes}
use Rattle.tests_reader.proofs.volumes.listed_at.Given as goal

abbrev pub invariant-loop : goal.invariant-loop
invariant-loop l = record {
  read : l.bytes ≡ big_bytes 4 l.count ++ (flat_map (big_bytes 4) l.extents.items ++ l.rest);
  number : length l.extents.items ≡ l.counter;
  fit : AllByRecursion (λ e. e < 2 ^ 32) l.extents.items;
}
