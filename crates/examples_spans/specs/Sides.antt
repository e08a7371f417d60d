-- A run of the program on two devices in memory as one, source and sink in memory too.
use Rattle.std.specs.Prelude.{ℕ, ◌+◌, List, Some}
use Rattle.sm_disk.specs.Held.{Held}
use Rattle.sm_disk.specs.Memory.{Memory, held_by}
use Rattle.sm_disk.specs.MemoryStreams.{Spring, Basin}
use Rattle.sm_standing.specs.Devices.{IsKeptOn}
use Rattle.sm_span.specs.Parts.{IsImageOfParts, joined}
use Rattle.lvhd_command.specs.Running.{RunSides}

-- what two devices in memory hold as one
abbrev pub two_hold : Memory → Memory → Held
two_hold first second = joined first.sectors (held_by first.slots) (held_by second.slots)

-- whatever a stop leaves of the first device, followed by whatever one leaves of the second, opens again
abbrev pub AreKept : Memory → Memory → Type 0
AreKept first second = (image : ℕ → List ℕ)
    → IsImageOfParts first.sectors second.sectors (held_by first.slots) (held_by second.slots) image
    → IsKeptOn (first.sectors + second.sectors) image

-- the sides of a run on two devices in memory, of a source and of a sink, each before and after
abbrev pub sides_of_two : Memory → Memory → Memory → Memory → Spring → Spring → Basin → Basin → RunSides
sides_of_two first second first' second' source source' sink sink' = record {
  size = first.sectors + second.sectors;
  old = two_hold first second;
  new = two_hold first' second';
  had_left = Some source.left;
  left = Some source'.left;
  had_got = Some sink.bytes;
  got = Some sink'.bytes;
}
