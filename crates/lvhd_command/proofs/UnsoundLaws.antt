-- What stands beside a group on a device, and a device on which a check of an opening fails.
use Rattle.std.proofs.Common.{◌≡◌, ℕ, ◌*◌, subst}
use Rattle.std.specs.Prelude.{Ok, None}
use Rattle.sm_base.specs.declared.faults.OpenFault.{OpenFault}
use Rattle.sm_disk.specs.Held.{Held, Keeps, reads}
use Rattle.sm_disk.proofs.HeldLaws.{Keeps-then}
use Rattle.sm_standing.specs.LogChecks.{first_place}
use Rattle.sm_ready.specs.Stores.{content_now}
use Rattle.vg_layout.specs.Opening.{StandsOn, plate_of}
use Rattle.vg_layout.specs.Sectors.{Plate, Pointer}
use Rattle.vg_meta.specs.Tables.{VolumeTable}
use Rattle.vg_store.specs.Groups.{area_of, beside_of}
use Rattle.vg_store.proofs.BesideLaws.{beside_kept}
use Rattle.vg_volumes.specs.Sites.{Site}
use Rattle.lvhd_command.specs.Devices.{IsRefusedOn, beside_at, plate_at}
use Rattle.lvhd_command.specs.Running.{KeepsBeside}
use Rattle.lvhd_command.proofs.ExactLaws.{sound_or_refused}
use Rattle.lvhd_command.proofs.OpenLaws.{standing, plate_once, sound_entry}

-- ---- what stands beside the group that stood at the entry

-- what was kept of the whole device was kept beside it
pub beside_whole : (size : ℕ) (old new : Held) → Keeps old new → KeepsBeside size old new
beside_whole size old new k = λ p is. beside_kept p.layout (p.count * p.extent) k

pub beside_entry : (size : ℕ) (old new : Held) (site : Site) → plate_of size (reads old) ≡ Ok (plate_at site)
    → Keeps (beside_at site old) (beside_at site new) → KeepsBeside size old new
beside_entry size old new site labelled k = λ p is.
    let same : plate_at site ≡ p = plate_once size (reads old) (plate_at site) p labelled is in
    subst (λ (q : Plate). Keeps (beside_of q.layout (q.count * q.extent) old) (beside_of q.layout (q.count * q.extent) new)) same k

pub beside_then : (size : ℕ) (old mid new : Held) (site : Site) → plate_of size (reads old) ≡ Ok (plate_at site) → KeepsBeside size old mid
    → Keeps (beside_at site mid) (beside_at site new) → KeepsBeside size old new
beside_then size old mid new site labelled first k = beside_entry size old new site labelled (Keeps-then (first (plate_at site) labelled) k)

pub beside_last : (size : ℕ) (old mid new : Held) → KeepsBeside size old mid → Keeps mid new → KeepsBeside size old new
beside_last size old mid new first k = λ p is. Keeps-then (first p is) (beside_kept p.layout (p.count * p.extent) k)

-- ---- a device that is refused

-- where a check fails nothing is sound that the opening began with
pub never_sound : (size : ℕ) (entry h : Held) (site : Site) (at : Pointer) (first : VolumeTable) (f : OpenFault) → Keeps (area_of site.layout entry) (area_of site.layout h)
    → StandsOn size (reads entry) (standing site at first) → IsRefusedOn size (reads entry) f → first_place (content_now site first (area_of site.layout h)) ≡ None → ⊥
never_sound size entry h site at first f ka stands refused sound = sound_or_refused size (reads entry) f (sound_entry size entry h site at first ka stands sound) refused
