-- What the program did where it was told to run a script, by its status (this project's format). The premise is a device
-- that is kept: whatever a stop leaves of it opens again.
use Rattle.std.specs.Prelude.{◌≡◌, ◌≢◌, ◌≤◌, ◌⊎◌, ◌*◌, ℕ, List, [], ◌++◌, ⊤, Option, Result, Ok, Err}
use Rattle.sm_base.specs.declared.faults.OpenFault.{OpenFault}
use Rattle.sm_base.specs.declared.faults.OpenFault.TheVariants as opening
use Rattle.sm_base.specs.Kinds.{is_entry}
use Rattle.sm_disk.specs.Held.{Held, Allows, IsSettled, Keeps, Rose, reads}
use Rattle.sm_disk.specs.Streams.{Adds, AddsFront}
use Rattle.sm_machine.specs.Disks.{Disk}
use Rattle.sm_machine.specs.Steps.{State}
use Rattle.sm_reached.specs.Reached.{NamesNoMore}
use Rattle.vg_layout.specs.Opening.{GroupFound, StandsOn, plate_of}
use Rattle.vg_layout.specs.Sectors.{Plate}
use Rattle.vg_meta.specs.Tables.{VolumeTable}
use Rattle.vg_store.specs.Groups.{LeavesGroup, area_of, beside_of}
use Rattle.vg_volumes.specs.Sites.{Site}
use Rattle.sm_run.specs.Runs.{HasRun}
use Rattle.sm_run.specs.declared.runs.RunFault.{RunFault}
use Rattle.sm_run.specs.declared.runs.RunFault.TheVariants as run
use Rattle.sm_standing.specs.Devices.{Shows, content_of}
use Rattle.sm_standing.specs.Entries.{names_in}
use Rattle.sm_standing.specs.Shapes.{IsStateOf}
use Rattle.sm_ready.specs.Known.{entry_of}
use Rattle.lvhd_command.specs.declared.statuses.Status.{Status}
use Rattle.lvhd_command.specs.declared.statuses.Status.TheVariants.{Done, Words, Device, Source, Sink, Refused, Memory, TooLong, Denied}
use Rattle.lvhd_command.specs.Devices.{IsKeptDevice, MayShowOn, IsSoundOn, IsRefusedOn, IsOpenedOn, IsTruthfulDevice, StandsAlways, plate_at}
use Rattle.lvhd_command.specs.Texts.{line_of, fault_words}

-- the device's size, what it held before and holds now; what the source had left before and has left now; what the sink
-- held and holds
pub record RunSides : Type 0 where
  pub size : ℕ
  pub old : Held
  pub new : Held
  pub had_left : Option (List ℕ)
  pub left : Option (List ℕ)
  pub had_got : Option (List ℕ)
  pub got : Option (List ℕ)

-- the sides of a run: what tells a device's size and what it holds, what a source has left and what a sink holds; then the
-- device, the source and the sink, each before and after
abbrev pub sides : {D S K : Type 0} → (D → ℕ) → (D → Held) → (S → Option (List ℕ)) → (K → Option (List ℕ)) → D → D → S → S → K → K → RunSides
sides size held left got disk disk' source source' sink sink' = record {
  size = size disk;
  old = held disk;
  new = held disk';
  had_left = left source;
  left = left source';
  had_got = got sink;
  got = got sink';
}

-- the status of a run
abbrev pub status_of : Result ⊤ RunFault → Status
status_of (Ok _) = Done
status_of (Err run.Device) = Device
status_of (Err run.Source) = Source
status_of (Err run.Sink) = Sink
status_of (Err run.TooLong) = TooLong

-- a read gives the machine's state: its disks, and its shape but for attachments and operation; of the entries that a table
-- may have the operation's own alone is there
pub record ReadsAsState (size : ℕ) (h : Held) (σ : State) : Type 0 where
  pub group : GroupFound
  pub stands : StandsOn size (reads h) group
  pub state : IsStateOf (content_of group (reads h)) σ
  pub entries : names_in group.table is_entry ≡ entry_of σ.shape.op

-- a stop shows these disks and no others
abbrev pub ShowsOnly : ℕ → Held → List Disk → Type 0
ShowsOnly size h ds = (es : List Disk) → MayShowOn size h es → es ≡ ds

-- the run's own status, where nothing is pending and a stop shows the machine's disks alone once the script was read to its
-- end; or the last sync failed once all was answered
abbrev pub EndsAs : Result ⊤ RunFault → ℕ → Held → State → Status → Type 0
EndsAs (Ok _) size new end status = ((status ≡ Done) × IsSettled new × ShowsOnly size new end.disks) ⊎ (status ≡ Device)
EndsAs (Err f) size new end status = status ≡ status_of (Err f)

-- on each image that the device allows now the label says, beside its version, what it said in what a read gave at the entry
abbrev pub HasLabel : ℕ → Held → Held → Type 0
HasLabel size old new = (image : ℕ → List ℕ) → Allows size new image → plate_of size image ≡ plate_of size (reads old)

-- each image that the device allows now is one that it allowed before, or its label says, beside its version, what it said in what a
-- read gave at the entry
abbrev pub MayHaveLabel : ℕ → Held → Held → Type 0
MayHaveLabel size old new = (image : ℕ → List ℕ) → Allows size new image → Allows size old image ⊎ (plate_of size image ≡ plate_of size (reads old))

-- The repository was opened, with the disks that a read gave at the entry and the shape that an opening makes of what stood
-- there, and the script was run: what was read and answered, and what a stop may show now. The label stays, with the
-- repository's UUID, its sizes and the number of its extents. Where what the logs told was true, they name no piece too many.
pub record HasRunOn (s : RunSides) (status : Status) : Type 0 where
  pub sound : IsSoundOn s.size (reads s.old)
  pub start : State
  pub end : State
  pub result : Result ⊤ RunFault
  pub shown : Shows s.size (reads s.old) start.disks
  pub opened : IsOpenedOn s.size (reads s.old) start.shape
  pub did : HasRun start end result s.had_left s.left s.had_got s.got (MayShowOn s.size s.new) (ReadsAsState s.size s.new end) (IsKeptDevice s.size s.new)
  pub reached : IsTruthfulDevice s.size s.old → NamesNoMore start (did.turns ++ did.pending)
  pub ends : EndsAs result s.size s.new end status
  pub label : HasLabel s.size s.old s.new

-- the line that says why a repository is not opened, or nothing
abbrev pub HasSaid : RunSides → Status → Type 0
HasSaid s Refused = (e : OpenFault) × IsRefusedOn s.size (reads s.old) e × Adds s.had_got (line_of (fault_words e)) s.got
HasSaid s Sink = (e : OpenFault) × IsRefusedOn s.size (reads s.old) e × AddsFront s.had_got (line_of (fault_words e)) s.got
HasSaid s Device = Adds s.had_got [] s.got
HasSaid s Memory = Adds s.had_got [] s.got
HasSaid s Done = ⊥
HasSaid s Words = ⊥
HasSaid s Source = ⊥
HasSaid s TooLong = ⊥
HasSaid s Denied = ⊥

-- a device that a session gave back, beside what the session held last: a group stands on whatever a stop leaves, which the
-- session might have left too, and the extents read as they did
pub record IsGivenBack (size : ℕ) (site : Site) (held after : Held) : Type 0 where
  pub stands : StandsAlways size after site
  pub fewer : (t : VolumeTable) (image : ℕ → List ℕ) → LeavesGroup size after (plate_at site) t image → LeavesGroup size held (plate_at site) t image
  pub extents : Keeps (area_of site.layout held) (area_of site.layout after)

-- A stop could have left, at the entry, an image on which the group has the same table and the same extents.
pub record IsLeftBefore (size : ℕ) (old : Held) (image : ℕ → List ℕ) : Type 0 where
  pub before : ℕ → List ℕ
  pub allowed : Allows size old before
  pub same : (g : GroupFound) → StandsOn size image g → (h : GroupFound) × StandsOn size before h × (content_of h before ≡ content_of g image)

-- each image that a stop may leave now it could leave at the entry, or it shows the disks that a read gave then
abbrev pub ShowsNothingNew : ℕ → Held → Held → Type 0
ShowsNothingNew size old new = (image : ℕ → List ℕ) → Allows size new image
    → IsLeftBefore size old image ⊎ ((ds : List Disk) → Shows size image ds → Shows size (reads old) ds)

-- of each place that is no part of a group of version 2 with the layout and the extents of the label at the entry a read gives the
-- same, and a stop leaves nothing new
abbrev pub KeepsBeside : ℕ → Held → Held → Type 0
KeepsBeside size old new = (p : Plate) → plate_of size (reads old) ≡ Ok p
    → Keeps (beside_of p.layout (p.count * p.extent) old) (beside_of p.layout (p.count * p.extent) new)

-- the repository was not opened: nothing was read of the source, a stop shows nothing new, and unless a call of the device
-- failed nothing was written
pub record HasNotOpened (s : RunSides) (status : Status) : Type 0 where
  pub source : s.left ≡ s.had_left
  pub said : HasSaid s status
  pub kept : IsKeptDevice s.size s.new
  pub shown : ShowsNothingNew s.size s.old s.new
  pub label : MayHaveLabel s.size s.old s.new
  pub untouched : status ≢ Device → Keeps s.old s.new

-- what a run of the program did
abbrev pub RunDid : RunSides → Status → Type 0
RunDid s status = HasRunOn s status ⊎ HasNotOpened s status

-- a device that was not opened, for a check that fails or for want of memory: what was said of it, nothing was read of the
-- source, and nothing was written, whatever the status
pub record HasStayed (s : RunSides) (status : Status) : Type 0 where
  pub source : s.left ≡ s.had_left
  pub said : HasSaid s status
  pub untouched : Keeps s.old s.new

-- the line of a refusal went out, or the sink failed at it
abbrev pub ToldOf : OpenFault → Option (List ℕ) → Option (List ℕ) → ℕ → ℕ → Status → Type 0
ToldOf e had got before now Refused = (now ≡ before) × Adds had (line_of (fault_words e)) got
ToldOf e had got before now Sink = Rose before now × AddsFront had (line_of (fault_words e)) got
ToldOf e had got before now Device = ⊥
ToldOf e had got before now Memory = ⊥
ToldOf e had got before now Done = ⊥
ToldOf e had got before now Words = ⊥
ToldOf e had got before now Source = ⊥
ToldOf e had got before now TooLong = ⊥
ToldOf e had got before now Denied = ⊥

-- what was said of a refusal: nothing of a fault of the device and of want of memory
abbrev pub HasTold : OpenFault → Option (List ℕ) → Option (List ℕ) → ℕ → ℕ → Status → Type 0
HasTold opening.Device had got before now status = (status ≡ Device) × (got ≡ had) × (now ≡ before)
HasTold opening.NoMemory had got before now status = (status ≡ Memory) × (got ≡ had) × (now ≡ before)
HasTold opening.NotARepository had got before now status = (before ≤ now) × ToldOf opening.NotARepository had got before now status
HasTold (opening.Unsupported version) had got before now status = (before ≤ now) × ToldOf (opening.Unsupported version) had got before now status
HasTold (opening.Damaged place) had got before now status = (before ≤ now) × ToldOf (opening.Damaged place) had got before now status
