-- The commands of guests, what a command puts, and how many commits it makes at most.
use Rattle.std.specs.Prelude.{◌≡◌, ◌⊎◌, ℕ, ◌*◌, ◌/◌, Bool, true, false, IfSome, List, length, replicate, ⊤}
use Rattle.sm_base.specs.declared.names.Name.TheVariants.{Cbt}
use Rattle.vg_volumes.specs.Stored.{WorksOn}
use Rattle.vg_volumes.specs.declared.stores.Store.{Ghosts}
use Rattle.sm_cbt.specs.Marks.{IsWithinLog}
use Rattle.sm_log.specs.Logs.{log_of, on_log, touched}
use Rattle.sm_machine.specs.Disks.{sector_bytes}
use Rattle.sm_machine.specs.declared.commands.Command.{Command}
use Rattle.sm_machine.specs.declared.commands.Command.TheVariants.{Create, Delete, Attach, Detach, Snapshot, Clone, Resize, Write, Fill, Read, Flush, Gc, Track, Changed}
use Rattle.sm_ready.specs.Sessions.{IsReadyStore}
use Rattle.sm_ready.specs.declared.memory.Memory.{Memory}
use Rattle.cmd_guest.specs.Writing.{WritesOnly}

-- what a guest's host asks: a disk comes into use and goes out of it, and its sectors are read and written
unfoldable pub is_guests : Command → Bool
is_guests (Attach u mode) = true
is_guests (Detach u) = true
is_guests (Write u sector bytes) = true
is_guests (Fill u sector count byte) = true
is_guests (Read u sector count) = true
is_guests (Flush u) = true
is_guests _ = false

-- what is done to logs alone, or asked of them: tracking of a disk begins or ends, and which pieces changed between two disks
unfoldable pub is_of_logs : Command → Bool
is_of_logs (Track u on) = true
is_of_logs (Changed u n) = true
is_of_logs _ = false

-- a guest's write or fill works on the volume of its disk's own image alone, and puts there nothing but its bytes and what they need (`WritesOnly`); of another command this says nothing
abbrev pub WritesOnlyIts : {S : Type 0} → Ghosts S → Memory → Command → S → S → Type 0
WritesOnlyIts g m (Write u sector bytes) old new = WritesOnly g m u sector bytes old new
WritesOnlyIts g m (Fill u sector count byte) old new = WritesOnly g m u sector (replicate (512 * count) byte) old new
WritesOnlyIts g m _ old new = ⊤

-- marks last: in a store whose sectors were as memory says, with a log that has the pieces, they are as memory with the marks says, and of the log
-- nothing is pending
abbrev pub MarksLast : {S : Type 0} → Ghosts S → Memory → List ℕ → ℕ → ℕ → S → S → Type 0
MarksLast g m u sector count old mid = g.told → IsReadyStore g old m → IfSome (log_of u m.logs) (IsWithinLog sector count)
    → IsReadyStore g mid (record m { logs = on_log u (touched sector count) m.logs })

-- a command of a guest behind marks in its disk's log: the log's volume alone is worked on first; and where that was not all, the marks last, and
-- then it is as `WritesOnlyIts` says
abbrev pub MarksAndWrites : {S : Type 0} → Ghosts S → Memory → List ℕ → ℕ → ℕ → Command → S → S → Type 0
MarksAndWrites {S} g m u sector count c old new = (mid : S) × WorksOn g (Cbt u) old mid × ((mid ≡ new) ⊎ (MarksLast g m u sector count old mid × WritesOnlyIts g m c mid new))

-- a guest's write or fill marks first in its disk's log, so that the marks last, and then works as `WritesOnlyIts` says; of another command this says nothing
abbrev pub MarksAndWritesIts : {S : Type 0} → Ghosts S → Memory → Command → S → S → Type 0
MarksAndWritesIts g m (Write u sector bytes) old new = MarksAndWrites g m u sector (length bytes / sector_bytes) (Write u sector bytes) old new
MarksAndWritesIts g m (Fill u sector count byte) old new = MarksAndWrites g m u sector count (Fill u sector count byte) old new
MarksAndWritesIts g m _ old new = ⊤

-- a new disk is made and then unmarked; one that goes is removed; the image of one that is attached, or that gets larger while it is
-- attached, may get extents under an entry; eight make a disk of another; and a step of the collector may enlarge a volume and put
-- its own entry, or put a parent in its leaf's place. Where a leaf is being folded, a command on its disk gives that up first, by one more. Nothing else commits
unfoldable pub most_commits : Command → ℕ
most_commits (Create u size raw label) = 2
most_commits (Delete u) = 2
most_commits (Attach u mode) = 4
most_commits (Detach u) = 1
most_commits (Snapshot u twin) = 9
most_commits (Clone u twin) = 9
most_commits (Resize u size) = 4
most_commits Gc = 5
most_commits _ = 0

-- for logs: one is removed by one, as with its disk, and two make one, a snapshot's too
unfoldable pub most_log_commits : Command → ℕ
most_log_commits (Delete u) = 1
most_log_commits (Snapshot u twin) = 2
most_log_commits (Track u true) = 2
most_log_commits (Track u false) = 1
most_log_commits _ = 0
