-- Whatever a stop leaves of a copy shows the disks of an image that a stop could leave as the copy began: all sectors at once.
use Rattle.std.proofs.Common.{◌≡◌, ℕ, List, inl, refl, sym, ap, ◌∙◌, subst}
use Rattle.sm_base.specs.declared.names.Name.{Name}
use Rattle.sm_disk.specs.Held.{Allows}
use Rattle.vg_meta.specs.Tables.{VolumeTable}
use Rattle.vg_volumes.specs.Sites.{Site, area_size}
use Rattle.vg_volumes.specs.declared.stores.Store.{Ghosts}
use Rattle.vhd_image.specs.declared.images.Body.{Body}
use Rattle.vhd_chain.specs.declared.rows.TreeRow.{TreeRow}
use Rattle.sm_machine.specs.Disks.{Disk}
use Rattle.sm_standing.specs.Standing.{disks}
use Rattle.sm_ready.specs.Sessions.{IsReadyStore}
use Rattle.sm_ready.specs.Stores.{MayShow, StoreLeaves, content_in, store_content}
use Rattle.sm_ready.specs.declared.memory.Memory.{Memory}
use Rattle.sm_ready.proofs.ChainLaws.{might_show, tab}
use Rattle.sm_ready.proofs.LeftLaws.{IsLeft}
use Rattle.sm_ready.proofs.SyncLaws.{IsSynced, behind_content, told_behind}
use Rattle.sm_ready.proofs.TakenLaws.{IsTold, is_told}
use Rattle.gc_coalesce.proofs.CopyCallLaws.{to_copy_at}
use Rattle.gc_coalesce.proofs.CopyCrashLaws.{left_copied}
use Rattle.gc_coalesce.proofs.CopyShownLaws.{disks_copied}
use Rattle.gc_coalesce.proofs.CopyWholeLaws.{IsUnderWay}

pub shown_before : {S : Type 0} {g : Ghosts S} {a b d : S} {m : Memory} {v p : Name} {cursor blk : ℕ} {i q : TreeRow} {new : Body} → IsUnderWay g a b d m v p cursor blk i q new → g.told → IsReadyStore g a m
    → (w : VolumeTable) (image : ℕ → List ℕ) → g.leaves d w image → MayShow (g.site a) (StoreLeaves g a) (disks (content_in (g.site a) w image))
shown_before {g = g} {a} {b} {d} {m} {v} {p} {new = new} u told ready w image l =
    let y : IsSynced g a b = record { site = u.sync.site; table = u.sync.table; failed = u.sync.failed; keeps = u.sync.keeps told; leaves = u.sync.leaves told } in
    let ta : IsTold g a m = is_told g a m u.images.orderly u.usable told ready (u.choice a told u.usable) in
    let tb : IsTold g b m = told_behind ta y (u.settled told) (u.choice b told (u.sync.failed ∙ u.usable)) in
    let hb = to_copy_at u.sync.site u.sync.table u.images in
    let x = u.choice d told (u.copies.works.stays.failed ∙ u.sync.failed ∙ u.usable) w image l in
    let left : IsLeft (g.site b) (g.area d) image = subst (λ (z : Site). Allows (area_size z) (g.area d) image) u.copies.works.stays.site x.sectors in
    let same : disks (content_in (g.site b) (tab g b) image) ≡ disks (store_content g b) = disks_copied (store_content g b) (content_in (g.site b) (tab g b) image) v p (left_copied g hb new u.copies tb (u.settled told) image left) in
    let here : disks (content_in (g.site a) w image) ≡ disks (store_content g a) =
    ap (λ z. disks (content_in z w image)) (sym u.sync.site) ∙ ap (λ t. disks (content_in (g.site b) t image)) (x.table_is ∙ u.copies.works.stays.table) ∙ same ∙ ap disks (behind_content ta y) in
    subst (λ (ds : List Disk). MayShow (g.site a) (StoreLeaves g a) ds) (sym here) (might_show g u.usable told)

-- where nothing was written it is an image that might be left before
pub shown_still : {S : Type 0} (g : Ghosts S) (a d : S) → (g.told → (w : VolumeTable) (image : ℕ → List ℕ) → g.leaves d w image → g.leaves a w image) → g.told
    → (w : VolumeTable) (image : ℕ → List ℕ) → g.leaves d w image → MayShow (g.site a) (StoreLeaves g a) (disks (content_in (g.site a) w image))
shown_still g a d fewer told w image l = record { table = w; image = image; left = inl (fewer told w image l); shown = refl }
