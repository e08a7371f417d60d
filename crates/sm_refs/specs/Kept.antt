-- How attachments are kept: two maps, with room reserved (this project's own).
use Rattle.std.specs.Prelude.{min}
use Rattle.sm_refs.specs.Attached.{Attached}
use Rattle.sm_refs.specs.Rooms.{room_of}
use Rattle.sm_refs.specs.Tallies.{AreAbove}
use Rattle.sm_refs.specs.declared.attached.Attachments.TheInside.{Inside}

-- the entries of both maps; what fits in both, fits
abbrev pub attached_of : Inside → Attached
attached_of a = record { disks = a.disks.entries; counts = a.counts.entries; room = min (room_of a.disks) (room_of a.counts) }

-- each count is above 0
abbrev pub AreCounted : Inside → Type 0
AreCounted a = AreAbove a.counts.entries
