-- What the program did where it was told to export a disk, by its status (this project's format). The premise is a device that is
-- kept: whatever a stop leaves of it opens again.
use Rattle.std.specs.Prelude.{◌≡◌, ◌≢◌, ◌⊎◌, ℕ, List, [], ⊤, Option, None, Result, Ok, Err}
use Rattle.common_laws.specs.Lists.{In}
use Rattle.sm_base.specs.declared.faults.OpenFault.{OpenFault}
use Rattle.sm_disk.specs.Held.{Held, Keeps, reads}
use Rattle.sm_disk.specs.Streams.{Adds, AddsFront}
use Rattle.sm_machine.specs.Disks.{Disk}
use Rattle.sm_machine.specs.Steps.{State}
use Rattle.sm_run.specs.Between.{IsSettledAs}
use Rattle.sm_standing.specs.Contents.{Content}
use Rattle.sm_standing.specs.Devices.{Shows, content_of}
use Rattle.sm_standing.specs.Standing.{disks}
use Rattle.vg_layout.specs.Opening.{GroupFound, StandsOn}
use Rattle.vhd_stream.specs.Exports.{ExportOf}
use Rattle.vhd_stream.specs.Files.{FileOf}
use Rattle.vhd_stream.specs.declared.exporting.ExportFault.{ExportFault}
use Rattle.vhd_stream.specs.declared.exporting.ExportFault.TheVariants as fault
use Rattle.lvhd_command.specs.declared.statuses.Status.{Status}
use Rattle.lvhd_command.specs.declared.statuses.Status.TheVariants.{Done, Words, Device, Source, Sink, Refused, Memory, TooLong, Denied}
use Rattle.lvhd_command.specs.Devices.{IsKeptDevice, IsOpenedOn, IsRefusedOn, MayShowOn}
use Rattle.lvhd_command.specs.Running.{HasLabel, HasStayed, KeepsBeside, MayHaveLabel, ReadsAsState, RunSides, ShowsNothingNew}
use Rattle.lvhd_command.specs.Texts.{line_of, unknown_words}

-- the sides of an export, which reads no source: what tells a device's size and what it holds, and what a sink holds; then the device and
-- the sink, each before and after
abbrev pub export_sides : {D K : Type 0} → (D → ℕ) → (D → Held) → (K → Option (List ℕ)) → D → D → K → K → RunSides
export_sides size held got disk disk' sink sink' = record {
  size = size disk;
  old = held disk;
  new = held disk';
  had_left = None;
  left = None;
  had_got = got sink;
  got = got sink';
}

-- a read of the device gives this content
pub record StandsAs (size : ℕ) (h : Held) (c : Content) : Type 0 where
  pub group : GroupFound
  pub stands : StandsOn size (reads h) group
  pub content_is : c ≡ content_of group (reads h)

-- these bytes are what the disk of a content with this UUID is exported as
pub record IsContentFile (c : Content) (uuid : List ℕ) (now : ℕ) (bytes : List ℕ) : Type 0 where
  pub disk : Disk
  pub there : In disk (disks c)
  pub named : disk.uuid ≡ uuid
  pub exported : ExportOf c uuid now bytes

-- no disk of a content has this UUID
abbrev pub LacksDisk : Content → List ℕ → Type 0
LacksDisk c uuid = (d : Disk) → In d (disks c) → d.uuid ≡ uuid → ⊥

-- These bytes are the file of the disk with this UUID: what the disk is exported as by what a read of the device gives now, where a read
-- gives the disks that it gave at the entry; and read as the standard says, they hold the sectors of the disk.
pub record IsFileOf (s : RunSides) (uuid : List ℕ) (now : ℕ) (bytes : List ℕ) : Type 0 where
  pub content : Content
  pub stands : StandsAs s.size s.new content
  pub shown : Shows s.size (reads s.old) (disks content)
  pub file : IsContentFile content uuid now bytes
  pub holds : FileOf bytes file.disk.sectors

-- no disk that a read gave at the entry has this UUID
abbrev pub IsUnknown : RunSides → List ℕ → Type 0
IsUnknown s uuid = (ds : List Disk) → Shows s.size (reads s.old) ds → (d : Disk) → In d ds → d.uuid ≡ uuid → ⊥

-- the line that says so
abbrev pub unknown_line : List ℕ
unknown_line = line_of unknown_words

-- what an export of the disk with a UUID sent, by its status: the whole file; a front of it, or of the line that no disk has the
-- UUID; this line; or nothing
abbrev pub ExportSent : RunSides → List ℕ → ℕ → Status → Type 0
ExportSent s uuid now Done = (bytes : List ℕ) × IsFileOf s uuid now bytes × Adds s.had_got bytes s.got
ExportSent s uuid now Sink = (bytes : List ℕ) × (IsFileOf s uuid now bytes ⊎ (IsUnknown s uuid × (bytes ≡ unknown_line))) × AddsFront s.had_got bytes s.got
ExportSent s uuid now Device = Adds s.had_got [] s.got ⊎ ((bytes : List ℕ) × IsFileOf s uuid now bytes × AddsFront s.had_got bytes s.got)
ExportSent s uuid now Denied = IsUnknown s uuid × Adds s.had_got unknown_line s.got
ExportSent s uuid now Memory = Adds s.had_got [] s.got
ExportSent s uuid now Refused = ⊥
ExportSent s uuid now Words = ⊥
ExportSent s uuid now Source = ⊥
ExportSent s uuid now TooLong = ⊥

-- what the sink got where a line was printed or nothing, whatever the device held: the cause of a refusal, where nothing was written, the
-- line that no disk has the UUID, or nothing where memory was wanting
abbrev pub ExportSaid : RunSides → Status → Type 0
ExportSaid s Refused = HasStayed s Refused
ExportSaid s Denied = Adds s.had_got unknown_line s.got
ExportSaid s Memory = Adds s.had_got [] s.got
ExportSaid s Done = ⊤
ExportSaid s Words = ⊥
ExportSaid s Device = ⊤
ExportSaid s Source = ⊥
ExportSaid s Sink = ⊤
ExportSaid s TooLong = ⊥

-- The repository was opened and is as the opening made it: a read gives the disks that it gave at the entry, in the shape that an opening
-- makes of what stood there; a stop shows these disks, sector by sector; and the label stays.
pub record StandsOpened (size : ℕ) (old new : Held) : Type 0 where
  pub start : State
  pub shown : Shows size (reads old) start.disks
  pub opened : IsOpenedOn size (reads old) start.shape
  pub stands : ReadsAsState size new start
  pub settled : (ds : List Disk) → MayShowOn size new ds → IsSettledAs start.disks ds
  pub label : HasLabel size old new

-- the repository was not opened: a stop shows nothing new, and unless a call of the device failed nothing was written
pub record IsNotOpened (size : ℕ) (old new : Held) (status : Status) : Type 0 where
  pub shown : ShowsNothingNew size old new
  pub label : MayHaveLabel size old new
  pub untouched : status ≢ Device → Keeps old new

-- The device is as an opening left it. It was opened where the file went out, or the line that no disk has the UUID; it was not where a check of
-- the opening failed; and where a call failed or memory was wanting, it was opened or not.
abbrev pub IsAsOpened : ℕ → Held → Held → Status → Type 0
IsAsOpened size old new Done = StandsOpened size old new
IsAsOpened size old new Denied = StandsOpened size old new
IsAsOpened size old new Refused = IsNotOpened size old new Refused
IsAsOpened size old new Sink = StandsOpened size old new ⊎ IsNotOpened size old new Sink
IsAsOpened size old new Device = StandsOpened size old new ⊎ IsNotOpened size old new Device
IsAsOpened size old new Memory = StandsOpened size old new ⊎ IsNotOpened size old new Memory
IsAsOpened size old new Words = ⊥
IsAsOpened size old new Source = ⊥
IsAsOpened size old new TooLong = ⊥

-- What an export of the disk with a UUID did. Whatever the device held: what the sink got where a line was printed or nothing, what is beside the
-- repository, and that a device on which a check of an opening fails stayed as it is. Of a device that is kept: what was sent, that it is
-- kept, and that it is as an opening left it.
pub record ExportDid (s : RunSides) (uuid : List ℕ) (now : ℕ) (status : Status) : Type 0 where
  pub said : ExportSaid s status
  pub beside : KeepsBeside s.size s.old s.new
  pub unsound : (e : OpenFault) → IsRefusedOn s.size (reads s.old) e → HasStayed s status
  pub sent : IsKeptDevice s.size s.old → ExportSent s uuid now status
  pub kept : IsKeptDevice s.size s.old → IsKeptDevice s.size s.new
  pub opened : IsKeptDevice s.size s.old → IsAsOpened s.size s.old s.new status

-- the status of an export
abbrev pub export_status : Result ⊤ ExportFault → Status
export_status (Ok _) = Done
export_status (Err fault.Device) = Device
export_status (Err fault.Sink) = Sink
export_status (Err fault.NoMemory) = Memory

-- what was sent of a content: the file of its disk with the UUID, or a front; the line, where it has no such disk; or nothing
abbrev pub ContentSent : Content → List ℕ → ℕ → Option (List ℕ) → Option (List ℕ) → Status → Type 0
ContentSent c uuid now had got Done = (bytes : List ℕ) × IsContentFile c uuid now bytes × Adds had bytes got
ContentSent c uuid now had got Sink = (bytes : List ℕ) × (IsContentFile c uuid now bytes ⊎ (LacksDisk c uuid × (bytes ≡ unknown_line))) × AddsFront had bytes got
ContentSent c uuid now had got Device = (bytes : List ℕ) × IsContentFile c uuid now bytes × AddsFront had bytes got
ContentSent c uuid now had got Denied = LacksDisk c uuid × Adds had unknown_line got
ContentSent c uuid now had got Memory = Adds had [] got
ContentSent c uuid now had got Refused = ⊥
ContentSent c uuid now had got Words = ⊥
ContentSent c uuid now had got Source = ⊥
ContentSent c uuid now had got TooLong = ⊥

-- what was sent of a content, whatever the store held: the line, where it has no such disk; nothing where memory was wanting; and no export of an
-- open repository ends with the statuses of its opening, of the words and of a script
abbrev pub ContentSaid : Option (List ℕ) → Option (List ℕ) → Status → Type 0
ContentSaid had got Done = ⊤
ContentSaid had got Sink = ⊤
ContentSaid had got Device = ⊤
ContentSaid had got Denied = Adds had unknown_line got
ContentSaid had got Memory = Adds had [] got
ContentSaid had got Refused = ⊥
ContentSaid had got Words = ⊥
ContentSaid had got Source = ⊥
ContentSaid had got TooLong = ⊥
