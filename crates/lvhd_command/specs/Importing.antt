-- What the program did where it was told to import a disk, by its status (this project's format). The premise is a device that is
-- kept: whatever a stop leaves of it opens again.
use Rattle.std.specs.Prelude.{◌≡◌, ◌⊎◌, ◌≤◌, ◌^◌, ℕ, List, [], ◌∷◌, codes, length, Option, Some, None, IfSome, Result, Ok, Err}
use Rattle.sm_base.specs.declared.faults.OpenFault.{OpenFault}
use Rattle.sm_base.specs.declared.refusals.Refusal.{Refusal}
use Rattle.sm_disk.specs.Held.{Held, IsSettled, Rose, reads}
use Rattle.sm_disk.specs.Streams.{Adds, AddsFront}
use Rattle.sm_machine.specs.Disks.{Disk}
use Rattle.sm_machine.specs.Replies.{refusal_parts}
use Rattle.sm_machine.specs.Shapes.{Shape}
use Rattle.sm_machine.specs.Steps.{State}
use Rattle.sm_run.specs.Between.{IsBetween, IsSettledAs}
use Rattle.sm_run.specs.Runs.{IsSpent}
use Rattle.sm_refusals.specs.Importing.{entry_refusal}
use Rattle.sm_standing.specs.Devices.{Shows}
use Rattle.cmd_import.specs.Importing.{IsJoined, target_in}
use Rattle.vhd_import.specs.Laws.{HasRoomFor}
use Rattle.vhd_import.specs.Verdicts.{Denied, Long, verdict_of}
use Rattle.vhd_import.specs.declared.faults.ImportFault.{ImportFault}
use Rattle.vhd_import.specs.declared.faults.ImportFault.TheVariants as fault
use Rattle.vhd_stream.specs.Files.{FileOf}
use Rattle.lvhd_command.specs.declared.statuses.Status.{Status}
use Rattle.lvhd_command.specs.declared.statuses.Status.TheVariants as status
use Rattle.lvhd_command.specs.Devices.{IsKeptDevice, IsOpenedOn, IsRefusedOn, MayShowOn}
use Rattle.lvhd_command.specs.Running.{HasLabel, HasNotOpened, HasStayed, KeepsBeside, RunSides, ShowsOnly}
use Rattle.lvhd_command.specs.Texts.{line_of}

-- the line that says why a file is not imported
abbrev pub denied_line : Refusal → List ℕ
denied_line r = line_of (codes "error" ∷ refusal_parts r)

-- an import into a repository of this shape is refused so: before the first byte of the source, or by what its bytes are
abbrev pub IsDenied : Shape → List ℕ → Option (List ℕ) → Refusal → Type 0
IsDenied shape uuid bytes r = IfSome bytes (λ b. (entry_refusal shape uuid ≡ Some r) ⊎ ((entry_refusal shape uuid ≡ None) × (verdict_of (target_in shape) b ≡ Denied r)))

-- what the sink got of an import of these bytes, by its status: the line that says why they are not taken, a front of it, or nothing
abbrev pub ImportTold : Shape → List ℕ → Option (List ℕ) → Option (List ℕ) → Option (List ℕ) → Status → Type 0
ImportTold shape uuid bytes had got status.Denied = (r : Refusal) × IsDenied shape uuid bytes r × Adds had (denied_line r) got
ImportTold shape uuid bytes had got status.Sink = (r : Refusal) × IsDenied shape uuid bytes r × AddsFront had (denied_line r) got
ImportTold shape uuid bytes had got _ = Adds had [] got

-- a stop shows these disks, sector by sector
abbrev pub ShowsAs : ℕ → Held → List Disk → Type 0
ShowsAs size h ds = (es : List Disk) → MayShowOn size h es → IsSettledAs ds es

-- the disks of an import into a repository with these: one more, that is made of the bytes of the source, where these are told
abbrev pub HasOneMore : Shape → List ℕ → Option (List ℕ) → List Disk → List Disk → Type 0
HasOneMore shape uuid bytes was ds = IfSome bytes (λ b. IsJoined (target_in shape) uuid b was ds)

-- each stop shows the disks from before an import, or these and the one that is made of the bytes, sector by sector
abbrev pub ShowsEither : State → List ℕ → ℕ → Held → Option (List ℕ) → Type 0
ShowsEither start uuid size new bytes =
    (ds : List Disk) × HasOneMore start.shape uuid bytes start.disks ds × ((es : List Disk) → MayShowOn size new es → IsBetween (IsSettledAs start.disks) start.disks ds es)

-- What an import of these bytes did to an open repository, by its status. It succeeded: the source was read to its end, nothing is pending, and a
-- stop shows the disks from before and the one that is made of the bytes, and no others. A call of the device failed: a stop shows these or the
-- disks from before. Else it shows the disks from before, sector by sector; the source was too long where that is the status.
abbrev pub ImportLeft : State → List ℕ → ℕ → Held → Option (List ℕ) → Option (List ℕ) → Status → Type 0
ImportLeft start uuid size new bytes left status.Done =
    (ds : List Disk) × HasOneMore start.shape uuid bytes start.disks ds × IsSpent left × IsSettled new × ShowsOnly size new ds
ImportLeft start uuid size new bytes left status.Device = ShowsAs size new start.disks ⊎ ShowsEither start uuid size new bytes
ImportLeft start uuid size new bytes left status.TooLong = IfSome bytes (λ b. verdict_of (target_in start.shape) b ≡ Long) × ShowsAs size new start.disks
ImportLeft start uuid size new bytes left status.Denied = ShowsAs size new start.disks
ImportLeft start uuid size new bytes left status.Sink = ShowsAs size new start.disks
ImportLeft start uuid size new bytes left status.Source = ShowsAs size new start.disks
ImportLeft start uuid size new bytes left status.Memory = ShowsAs size new start.disks
ImportLeft start uuid size new bytes left status.Refused = ⊥
ImportLeft start uuid size new bytes left status.Words = ⊥

-- The repository was opened, with the disks that a read gave at the entry and the shape that an opening makes of what stood there; what the
-- sink got, what a stop may show now, and that the label stays.
pub record HasImportedOn (s : RunSides) (uuid : List ℕ) (status : Status) : Type 0 where
  pub start : State
  pub shown : Shows s.size (reads s.old) start.disks
  pub opened : IsOpenedOn s.size (reads s.old) start.shape
  pub told : ImportTold start.shape uuid s.had_left s.had_got s.got status
  pub left : ImportLeft start uuid s.size s.new s.had_left s.left status
  pub label : HasLabel s.size s.old s.new

-- what an import did: the repository was opened, or it was not, and nothing was read of the source
abbrev pub HasTried : RunSides → List ℕ → Status → Type 0
HasTried s uuid status = HasImportedOn s uuid status ⊎ HasNotOpened s status

-- What an import of a disk with a UUID did. Whatever the device held: what is beside the repository stays, and a device on which a check of an
-- opening fails stayed as it is. Of a device that is kept: that it is kept, and what was made of it.
pub record ImportDid (s : RunSides) (uuid : List ℕ) (status : Status) : Type 0 where
  pub beside : KeepsBeside s.size s.old s.new
  pub unsound : (e : OpenFault) → IsRefusedOn s.size (reads s.old) e → HasStayed s status
  pub kept : IsKeptDevice s.size s.old → IsKeptDevice s.size s.new
  pub tried : IsKeptDevice s.size s.old → HasTried s uuid status

-- what the sink got of an answer, and the status: the line of a refusal, or a front of it; else nothing
abbrev pub HasAnswered : Result ℕ ImportFault → Option (List ℕ) → Option (List ℕ) → ℕ → ℕ → Status → Type 0
HasAnswered (Ok size) had got before now end = (end ≡ status.Done) × (got ≡ had) × (now ≡ before)
HasAnswered (Err (fault.Refused r)) had got before now end =
    ((end ≡ status.Denied) × Adds had (denied_line r) got × (now ≡ before)) ⊎ ((end ≡ status.Sink) × AddsFront had (denied_line r) got × (before ≤ now) × Rose before now)
HasAnswered (Err fault.Long) had got before now end = (end ≡ status.TooLong) × (got ≡ had) × (now ≡ before)
HasAnswered (Err fault.Device) had got before now end = (end ≡ status.Device) × (got ≡ had) × (now ≡ before)
HasAnswered (Err fault.Source) had got before now end = (end ≡ status.Source) × (got ≡ had) × (now ≡ before)
HasAnswered (Err fault.NoMemory) had got before now end = (end ≡ status.Memory) × (got ≡ had) × (now ≡ before)

-- By the status of an import of an open repository: how the counts of faults of the source, of the device and of the sink, each of them before
-- and now, rose or stayed.
abbrev pub CountedAs : ℕ → ℕ → ℕ → ℕ → ℕ → ℕ → Status → Type 0
CountedAs s s' d d' k k' status.Device = (s ≤ s') × (d ≤ d') × Rose d d' × (k' ≡ k)
CountedAs s s' d d' k k' status.Source = (s ≤ s') × Rose s s' × (d' ≡ d) × (k' ≡ k)
CountedAs s s' d d' k k' status.Sink = (s' ≡ s) × (d' ≡ d) × (k ≤ k') × Rose k k'
CountedAs s s' d d' k k' status.Done = (s' ≡ s) × (d' ≡ d) × (k' ≡ k)
CountedAs s s' d d' k k' status.Refused = (s' ≡ s) × (d' ≡ d) × (k' ≡ k)
CountedAs s s' d d' k k' status.Memory = (s' ≡ s) × (d' ≡ d) × (k' ≡ k)
CountedAs s s' d d' k k' status.TooLong = (s' ≡ s) × (d' ≡ d) × (k' ≡ k)
CountedAs s s' d d' k k' status.Denied = (s' ≡ s) × (d' ≡ d) × (k' ≡ k)
CountedAs s s' d d' k k' status.Words = ⊥

-- An import into a device succeeds where no call fails and there is memory: the source gives a VHD file of at most 2^42 bytes, the
-- repository that opens has room for it, and no cause refuses the UUID.
pub record IsImportable (s : RunSides) (uuid : List ℕ) : Type 0 where
  pub shape : Shape
  pub opened : IsOpenedOn s.size (reads s.old) shape
  pub bytes : List ℕ
  pub given : s.had_left ≡ Some bytes
  pub few : length bytes ≤ 2 ^ 42
  pub sectors : List (List ℕ)
  pub file : FileOf bytes sectors
  pub room : HasRoomFor (target_in shape) sectors
  pub allowed : entry_refusal shape uuid ≡ None

-- An import into a device is refused whatever the source gives: by its UUID, by the images of the repository that opens, or by its sequence
-- number.
pub record IsRefusedAtOnce (s : RunSides) (uuid : List ℕ) : Type 0 where
  pub shape : Shape
  pub opened : IsOpenedOn s.size (reads s.old) shape
  pub refusal : Refusal
  pub refused : entry_refusal shape uuid ≡ Some refusal
