-- What the logs of tracked disks tell of what a stop leaves (this project's own). They are true where two disks of which one was begun where
-- the other was taken differ at most in the pieces that the later one's log names, and each log with a tag is that of a snapshot.
use Rattle.std.specs.Prelude.{◌≡◌, ◌≢◌, ℕ, true, List, Some}
use Rattle.common_laws.specs.Lists.{In}
use Rattle.sm_log.specs.Logs.{Log}
use Rattle.sm_log.specs.Told.{Showing, Tells}
use Rattle.sm_machine.specs.Disks.{Disk}
use Rattle.sm_machine.specs.Runs.{HasSector}
use Rattle.sm_machine.specs.Shapes.{Shape}
use Rattle.sm_machine.specs.Tracking.{AreOfSnapshots}
use Rattle.sm_run.specs.Between.{HadSector}
use Rattle.sm_standing.specs.Contents.{Content}
use Rattle.sm_standing.specs.Logs.{log_at, logs}
use Rattle.sm_standing.specs.Standing.{disks}
use Rattle.vg_meta.specs.Tables.{VolumeTable}
use Rattle.vg_volumes.specs.Sites.{Site}
use Rattle.sm_ready.specs.Stores.{Leaving, MayShow, content_in}

-- logs that stand in a content: a read of the volume of each one's disk gives it
abbrev pub StandIn : Content → List Log → Type 0
StandIn c ls = (l : Log) → In l ls → log_at c l.disk ≡ Some l

-- the disk of each log with a tag is read-only, where it is there
abbrev pub AreTaken : List Disk → List Log → Type 0
AreTaken ds ls = (l : Log) → In l ls → l.tag ≢ 0 → (d : Disk) → In d ds → d.uuid ≡ l.disk → d.read_only ≡ true

-- the logs of a content are true of its disks
pub record IsTruthful (c : Content) : Type 0 where
  pub taken : AreTaken (disks c) (logs c)
  pub told : Tells (HasSector (disks c)) (logs c)

-- the sectors that a stop may show which leaves one of these tables and images
abbrev pub ShownBy : Site → Leaving → Showing
ShownBy s leaves = HadSector (MayShow s leaves)

-- logs that a stop leaves are true of all that a stop may show, and of the disks that are left with them each one with a tag has a read-only one
abbrev pub LeavesTold : Site → Leaving → Type 0
LeavesTold s leaves = (v : VolumeTable) (image : ℕ → List ℕ) → leaves v image → (ls : List Log) → StandIn (content_in s v image) ls
    → AreTaken (disks (content_in s v image)) ls × Tells (ShownBy s leaves) ls

-- whatever a stop leaves is truthful
abbrev pub AllTruthful : Site → Leaving → Type 0
AllTruthful s leaves = (v : VolumeTable) (image : ℕ → List ℕ) → leaves v image → IsTruthful (content_in s v image)

-- what the logs of memory tell is true of all that a stop may show; each log with a tag is that of a snapshot; and whatever a stop leaves is truthful
pub record AreTold (s : Site) (leaves : Leaving) (σ : Shape) : Type 0 where
  pub taken : AreOfSnapshots σ
  pub tells : Tells (ShownBy s leaves) σ.logs
  pub left : AllTruthful s leaves
