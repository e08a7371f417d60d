use Rattle.std.proofs.Common.{take}
use Rattle.std.specs.List.{flat_map}
use Rattle.byteorder.specs.Endian.{big_bytes}
use Rattle.vg_meta.specs.Writing.{WritesText}
use Rattle.vg_meta.proofs.encoding.put_numbers.Given as goal

abbrev pub invariant-loop-number : goal.invariant-loop-number
invariant-loop-number l = WritesText l.at (flat_map (big_bytes 4) (take l.number-index l.numbers)) l.initial.to l.to l.end
