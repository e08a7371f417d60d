-- What a call of a step did, and what a commit leaves.
use Rattle.std.specs.Prelude.{◌≡◌, ℕ, List, []}
use Rattle.sm_disk.specs.Held.{Held, IsSettled, Keeps}
use Rattle.vg_meta.specs.Tables.{VolumeTable}
use Rattle.vg_volumes.specs.Commits.{IsEither}
use Rattle.vg_volumes.specs.Sites.{Site, area_size}
use Rattle.sm_machine.specs.Disks.{Disk}
use Rattle.sm_standing.specs.Keeping.{IsKept}
use Rattle.sm_standing.specs.Logs.{IsLogged}
use Rattle.sm_standing.specs.Standing.{disks}
use Rattle.sm_run.specs.Between.{IsBetween}
use Rattle.sm_ready.specs.Known.{Known}
use Rattle.sm_ready.specs.Ready.{IsReady}
use Rattle.sm_ready.specs.Stores.{Leaving, MayShow, content_in, content_now}

-- a device that holds this, with nothing pending
abbrev pub at_rest : (ℕ → List ℕ) → Held
at_rest image = record { floor = image; pending = λ p. [] }

-- ok: the call succeeded; was, ds: the disks that the machine has before the call and after it. Whatever a stop leaves has the logs of
-- memory after it
pub record HasDoneFrom (s : Site) (u : VolumeTable) (new : Held) (m' : Known) (before leaves : Leaving) (ok : Type 0) (was ds : List Disk) : Type 0 where
  pub ready : ok → IsReady s u new m'
  pub settled : ok → IsSettled new
  pub shown : ok → disks (content_now s u new) ≡ ds
  pub crash : (v : VolumeTable) (image : ℕ → List ℕ) → leaves v image
      → IsKept (content_in s v image) × IsBetween (MayShow s before) was ds (disks (content_in s v image))
  pub logged : (v : VolumeTable) (image : ℕ → List ℕ) → leaves v image → IsLogged (content_in s v image) m'.logs

-- of a call that begins with this table and this area
abbrev pub HasDone : Site → VolumeTable → VolumeTable → Held → Held → Known → Leaving → Leaving → Type 0 → List Disk → Type 0
HasDone s t u old new m' before leaves ok ds = HasDoneFrom s u new m' before leaves ok (disks (content_now s t old)) ds

-- what the trait promises of a commit
pub record IsCommit (s : Site) (t u : VolumeTable) (old new : Held) (leaves : Leaving) (ok : Type 0) : Type 0 where
  pub keeps : Keeps old new
  pub settled : ok → IsSettled new
  pub crash : (v : VolumeTable) (image : ℕ → List ℕ) → leaves v image → IsEither (area_size s) t u old v image
