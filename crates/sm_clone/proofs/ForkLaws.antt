-- A fork around its commits: the disk's record, and a call for which memory is wanting.
use Rattle.std.proofs.Common.{◌≡◌, ℕ, false, List, Some}
use Rattle.common_laws.proofs.Bytes.{bytes_eq-same}
use Rattle.common_laws.proofs.Lists.{find-some}
use Rattle.std.specs.Str.{bytes_eq}
use Rattle.vg_meta.specs.Tables.{VolumeTable}
use Rattle.vg_volumes.specs.Sites.{Site}
use Rattle.vg_volumes.specs.Stored.{IsChoiceOf, OnlyReads, stored}
use Rattle.vg_volumes.specs.declared.stores.Store.{Ghosts}
use Rattle.sm_machine.specs.Disks.{Disk}
use Rattle.sm_machine.specs.Shapes.{DiskRecord}
use Rattle.sm_record.specs.declared.records.Record.{Record}
use Rattle.sm_mgt.specs.Places.{record_in}
use Rattle.sm_standing.specs.Standing.{disks}
use Rattle.sm_ready.specs.Done.{HasDoneFrom}
use Rattle.sm_ready.specs.Known.{Known, known, machine_record, shape_in}
use Rattle.sm_ready.specs.Orderly.{IsOrderly}
use Rattle.sm_ready.specs.Ready.{IsTidy}
use Rattle.sm_ready.specs.Sessions.{IsOrderlyStore, IsReadyStore}
use Rattle.sm_ready.specs.Stores.{StoreLeaves, store_content}
use Rattle.sm_ready.specs.declared.memory.Memory.{Memory}
use Rattle.sm_ready.proofs.ChainLaws.{might_show, only_crash, still_before, tab}
use Rattle.sm_ready.proofs.LookLaws.{record_is}
use Rattle.sm_space.proofs.InflatingLaws.{only_read}

-- the record of a disk has its UUID
pub record_named : (s : Site) (t : VolumeTable) (m : Known) (u : List ℕ) (r : Record) → IsOrderly s t m → IsTidy t m → record_in m.places u ≡ Some r → r.uuid ≡ u
record_named s t m u r o tidy is =
    bytes_eq-same r.uuid u (find-some (λ (q : DiskRecord). bytes_eq q.uuid u) (shape_in s t m).records (machine_record r) (record_is s t m u (Some r) o tidy is)).1

-- a call that only read changed no disk, whatever it was to change
pub poor_done : {S : Type 0} {g : Ghosts S} {a b : S} (m : Memory) → IsOrderlyStore g a m → g.failed a ≡ false → g.told → IsReadyStore g a m → ((v : VolumeTable) (image : ℕ → List ℕ) → g.leaves a v image → IsChoiceOf (stored g a) v image)
    → OnlyReads g a b → g.area b ≡ g.area a → ((v : VolumeTable) (image : ℕ → List ℕ) → g.leaves b v image → g.leaves a v image) → (n : Known) (ok : Type 0) (ds : List Disk) → (ok → ⊥) → n.logs ≡ (known m).logs
    → HasDoneFrom (g.site a) (tab g b) (g.area b) n (StoreLeaves g a) (StoreLeaves g b) ok (disks (store_content g a)) ds
poor_done {g = g} m orderly usable told ready now reads area fewer n ok ds never same =
    let done = only_read m orderly usable told ready now reads area fewer n ok never same in
    only_crash never (λ v image l. let c = done.crash v image l in (c.0, still_before ds _ (might_show g usable told) c.1)) done.logged
