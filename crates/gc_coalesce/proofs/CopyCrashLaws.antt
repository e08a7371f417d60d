-- A store while a block is copied: whatever a stop leaves is kept, shows the disks from before, and has the parent masked by the child.
use Rattle.std.proofs.Common.{◌≡◌, inl, inr, ⊎_elim, ℕ, not, ◌&&◌, true, false, List, map, Option, Some, None, refl, sym, ap, ◌∙◌, subst, subst₂}
use Rattle.std.proofs.Math.Logic.{∥∥₁_elim}
use Rattle.std.proofs.Props.{props}
use Rattle.std.proofs.lemmas.Option.{same_Some}
use Rattle.common_laws.proofs.Lists.{In-map_at}
use Rattle.sm_base.specs.declared.names.Name.{Name}
use Rattle.sm_machine.specs.Operations.{Op}
use Rattle.sm_disk.specs.Held.{Allows, IsSettled, reads}
use Rattle.vg_meta.specs.Tables.{VolumeTable, rows, extents_of}
use Rattle.vg_volumes.specs.Sites.{Site, area_size, size_of, volume_of}
use Rattle.vg_volumes.specs.Stored.{IsChoiceOf, held_in, sectors_in, stored}
use Rattle.vg_volumes.specs.Volumes.{KeepsElsewhere}
use Rattle.vg_volumes.specs.declared.stores.Store.{Ghosts}
use Rattle.vg_volumes.proofs.StoredLaws.{held_stays}
use Rattle.vhd_image.specs.Bodies.{own_of}
use Rattle.vhd_image.specs.declared.images.Body.{Body}
use Rattle.vhd_chain.specs.Reading.{own_read}
use Rattle.vhd_chain.specs.Trees.{row_name, tree_row}
use Rattle.vhd_chain.specs.declared.rows.TreeRow.{TreeRow}
use Rattle.sm_machine.specs.Disks.{Disk}
use Rattle.sm_machine.specs.Runs.{HasSector, face}
use Rattle.sm_machine.specs.Shapes.{attached_as, image_uuid, is_rw}
use Rattle.sm_machine.specs.Steps.{disks_next}
use Rattle.sm_machine.specs.WellFormed.{is_image_name}
use Rattle.sm_machine.specs.declared.commands.Command.TheVariants.{Gc}
use Rattle.sm_machine.proofs.Chains.{find_image-in}
use Rattle.sm_run.specs.Between.{IsBetween}
use Rattle.sm_standing.specs.Contents.{Content}
use Rattle.sm_standing.specs.Images.{Image, image_of}
use Rattle.sm_standing.specs.Keeping.{IsKept}
use Rattle.sm_standing.specs.Logs.{IsLogged}
use Rattle.sm_standing.specs.Standing.{disks}
use Rattle.sm_ready.specs.Done.{HasDone}
use Rattle.sm_ready.specs.Does.{store_shape}
use Rattle.sm_ready.specs.Known.{Known, known, machine_row, shape_in}
use Rattle.sm_ready.specs.Ready.{is_written_as, is_written_in}
use Rattle.sm_ready.specs.Stores.{MayShow, StoreLeaves, content_in, store_content}
use Rattle.sm_ready.specs.declared.memory.Memory.{Memory}
use Rattle.sm_ready.proofs.ChainLaws.{might_show, only_crash, tab}
use Rattle.sm_ready.proofs.LeaveLaws.{left_choice}
use Rattle.sm_ready.proofs.LeftLaws.{IsLeft, image_still, left_in}
use Rattle.sm_ready.proofs.LogRows.{name_apart}
use Rattle.sm_ready.proofs.Orders.{named_row}
use Rattle.sm_ready.proofs.SyncLaws.{IsSynced, behind_content, behind_sync, synced_failed}
use Rattle.sm_ready.proofs.TakenLaws.{IsTold}
use Rattle.sm_space.proofs.SyncedLaws.{logged_work}
use Rattle.gc_coalesce.specs.Blocks.{Copies, IsMaskedBy}
use Rattle.gc_coalesce.specs.Copying.{IsCopyOf, IsMasked, IsParentMasked, MayCopy}
use Rattle.gc_coalesce.proofs.CopyKinds.{masked_of}
use Rattle.gc_coalesce.proofs.CopyLeftLaws.{copy_kept, copy_left}
use Rattle.gc_coalesce.proofs.CopyPlanLaws.{IsToCopy, child_named, hidden, named, no_child, no_parent, there, to_copy_in}
use Rattle.gc_coalesce.proofs.CopyShownLaws.{IsCopyLeft, disks_copied}

-- ---- contents

shown_masked : (c d : Content) (v p : Name) → IsCopyLeft c d v p → IsParentMasked c d v p
shown_masked c d v p h x y z x_is y_is z_is k = ⊎_elim
    (λ same. inl (ap (λ (w : Image). w.own k) (same_Some z h.now (sym z_is ∙ h.after)) ∙ same ∙ ap (λ (w : Image). w.own k) (same_Some h.was y (sym h.before ∙ y_is))))
    (λ put. inr (put.0, ap (λ (w : Image). w.own k) (same_Some x h.child (sym x_is ∙ h.there)) ∙ put.1, ap (λ (w : Image). w.own k) (same_Some z h.now (sym z_is ∙ h.after)) ∙ put.2))
    (h.own k)

same_masked : (c d : Content) (v p : Name) → image_of d p ≡ image_of c p → IsParentMasked c d v p
same_masked c d v p same x y z x_is y_is z_is k = inl (ap (λ (w : Image). w.own k) (same_Some z y (sym z_is ∙ same ∙ y_is)))

pub masked_op : (o : Op) (v p : Name) (c d : Content) → IsCopyOf o v p → IsParentMasked c d v p → IsMasked o c d
masked_op o v p c d is masked = subst (λ x. IsMasked x c d) (sym is.3) (masked_of c d is.0 v p is.1 is.2 masked)

-- the disks are the machine's
pub disks_gc : (ds : List Disk) (σ : _) → disks_next ds σ Gc ≡ ds
unfolding disks_next
disks_gc ds σ = refl

-- ---- the store before anything is copied

module _ {S : Type 0} (g : Ghosts S) {a : S} {m : Memory} {v p : Name} {cursor b : ℕ} {i q : TreeRow} (h : IsToCopy (g.site a) (tab g a) (known m) v p cursor b i q) (told : IsTold g a m) where
  not_written : is_written_in (shape_in (g.site a) (tab g a) (known m)) p ≡ false
  unfolding is_written_in shape_in
  not_written = ap (is_written_in (shape_in (g.site a) (tab g a) (known m))) (sym (named h)) ∙ ∥∥₁_elim h.orderly.well_formed (hlevel props) (λ w.
      let j = In-map_at machine_row m.tree.rows q (there h) in
      ap (is_written_as (shape_in (g.site a) (tab g a) (known m)) (row_name q)) (find_image-in (shape_in (g.site a) (tab g a) (known m)).images (machine_row q) w.one_image j (w.images (machine_row q) j).named)
      ∙ ap (λ c. not c && is_rw (attached_as (image_uuid (row_name q)) (shape_in (g.site a) (tab g a) (known m)))) (hidden h))

  -- what a stop leaves in front of the first sync
  pub masked_before : (t : VolumeTable) (image : ℕ → List ℕ) → IsChoiceOf (stored g a) t image → IsParentMasked (store_content g a) (content_in (g.site a) t image) v p
  masked_before t image x =
      subst (λ z. IsParentMasked (store_content g a) (content_in (g.site a) z image) v p) (sym x.table_is)
      (same_masked (store_content g a) (content_in (g.site a) (tab g a) image) v p
      (image_still (g.site a) (tab g a) (g.area a) (known m) image p h.orderly told.ready.firm (left_in (g.site a) (tab g a) (known m) (g.area a) image h.orderly x.sectors) not_written))

-- and in front of what is taken out of memory
pub masked_first : {S : Type 0} (g : Ghosts S) (a : S) (m : Memory) (v p : Name) (b : ℕ) → IsCopyOf m.operation v p → MayCopy m.operation (store_shape g a m) b → IsTold g a m
    → (t : VolumeTable) (image : ℕ → List ℕ) → IsChoiceOf (stored g a) t image → IsMasked m.operation (store_content g a) (content_in (g.site a) t image)
masked_first g a m v p b is may told t image x = masked_op m.operation v p _ _ is (by (tree_row m.tree.rows v) (tree_row m.tree.rows p) refl refl)
  where
    by : (i q : Option TreeRow) → tree_row m.tree.rows v ≡ i → tree_row m.tree.rows p ≡ q → IsParentMasked (store_content g a) (content_in (g.site a) t image) v p
    by None q child parent = absurd (no_child told.orderly v p is child)
    by (Some i) None child parent = absurd (no_parent told.orderly v p is parent)
    by (Some i) (Some q) child parent =
        let h : IsToCopy (g.site a) (tab g a) (known m) v p is.1 b i q = to_copy_in told.orderly v p is may child parent in
        masked_before g h told t image x

-- what a sync leaves, was left before it
pub synced_choice : {S : Type 0} (g : Ghosts S) {a b : S} (y : IsSynced g a b) → ((t : VolumeTable) (image : ℕ → List ℕ) → g.leaves a t image → IsChoiceOf (stored g a) t image)
    → (t : VolumeTable) (image : ℕ → List ℕ) → StoreLeaves g b t image → IsChoiceOf (stored g a) t image
synced_choice g {a} {b} y choice t image l = ⊎_elim (λ k. choice t image (y.leaves t image k))
    (λ z. let now = subst₂ (λ s w. IsChoiceOf (record { site = s; table = w; area = g.area b }) t image) y.site y.table z.2 in
    record { table_is = now.table_is; sectors = λ k below. y.keeps.may k (image k) (now.sectors k below) }) l

-- ---- the store behind the first sync

module _ {S : Type 0} (g : Ghosts S) {b d : S} {m : Memory} {v p : Name} {cursor blk : ℕ} {i q : TreeRow} (h : IsToCopy (g.site b) (tab g b) (known m) v p cursor blk i q) (new : Body)
    (copies : Copies g i.image q.image new b d) (told : IsTold g b m) (settled : IsSettled (g.area b)) where
  abbrev s : Site
  s = g.site b

  abbrev t : VolumeTable
  t = tab g b

  pub keeps_parent : KeepsElsewhere (g.site b).geometry.extent (extents_of (rows (tab g b) p)) (g.area b) (g.area d)
  keeps_parent = subst (λ n. KeepsElsewhere s.geometry.extent (extents_of (rows t n)) (g.area b) (g.area d)) (named h) (copies.works.elsewhere told.told)

  pub masked_parent : IsMaskedBy (g.site b).geometry (size_of (g.site b) (tab g b) p) q.image (own_of (g.site b).geometry (size_of (g.site b) (tab g b) v) i.image (reads (volume_of (g.site b) (tab g b) (g.area b) v)))
      (volume_of (g.site b) (tab g b) (g.area b) p) (volume_of (g.site b) (tab g b) (g.area d) p)
  masked_parent =
      subst (λ x. IsMaskedBy s.geometry (size_of s t p) q.image (own_of s.geometry (size_of s t v) i.image (reads (volume_of s t (g.area b) v))) (volume_of s t (g.area b) p) x) (held_stays {g = g} p copies.works.stays)
      (subst (λ n. IsMaskedBy s.geometry (size_of s t p) q.image (own_of s.geometry (size_of s t n) i.image (reads (volume_of s t (g.area b) n))) (held_in (stored g b) p) (held_in (stored g d) p)) (child_named h)
      (subst (λ n. IsMaskedBy s.geometry (sectors_in (stored g b) n) q.image (own_read (stored g b) i.image) (held_in (stored g b) n) (held_in (stored g d) n)) (named h) (copies.masked told.told)))

  pub left_copied : (image : ℕ → List ℕ) → IsLeft (g.site b) (g.area d) image → IsCopyLeft (store_content g b) (content_in (g.site b) (tab g b) image) v p
  left_copied image left = copy_left h (g.area b) (g.area d) told.ready settled keeps_parent masked_parent image left

  abbrev Stop : VolumeTable → (ℕ → List ℕ) → Type 0
  Stop w image = IsKept (content_in s w image) × IsBetween (MayShow s (StoreLeaves g b)) (disks (store_content g b)) (disks (store_content g b)) (disks (content_in s w image))

  choice_left : (w : VolumeTable) (image : ℕ → List ℕ) → IsChoiceOf (stored g d) w image → IsLeft s (g.area d) image
  choice_left w image x = subst (λ (y : Site). Allows (area_size y) (g.area d) image) copies.works.stays.site x.sectors

  crash_at : (w : VolumeTable) (image : ℕ → List ℕ) → IsChoiceOf (stored g d) w image → Stop w image
  crash_at w image x =
      let left = choice_left w image x in
      let same = disks_copied (store_content g b) (content_in s t image) v p (left_copied image left) in
      subst (λ z. Stop z image) (sym (x.table_is ∙ copies.works.stays.table)) (
        copy_kept h (g.area b) (g.area d) told.ready settled keeps_parent masked_parent image left,
        inl (record {
          faces = ap (map face) same;
          sectors = λ u k bytes has. (disks (store_content g b), might_show g told.usable told.told, subst (λ (ds : List Disk). HasSector ds u k bytes) same has);
        }),
      )

  pub masked_at : (w : VolumeTable) (image : ℕ → List ℕ) → IsChoiceOf (stored g d) w image → IsParentMasked (store_content g b) (content_in (g.site b) w image) v p
  masked_at w image x =
      subst (λ z. IsParentMasked (store_content g b) (content_in s z image) v p) (sym (x.table_is ∙ copies.works.stays.table))
      (shown_masked (store_content g b) (content_in s t image) v p (left_copied image (choice_left w image x)))

  -- so of the content from before the first sync
  pub masked_since : {a : S} → IsTold g a m → IsSynced g a b → (w : VolumeTable) (image : ℕ → List ℕ) → IsChoiceOf (stored g d) w image
      → IsMasked m.operation (store_content g a) (content_in (g.site a) w image)
  masked_since {a} first y w image x =
      masked_op m.operation v p _ _ (h.kind, cursor, h.dirty, h.op)
      (subst₂ (λ c z. IsParentMasked c (content_in z w image) v p) (behind_content first y) y.site (masked_at w image x))

  pub parent_image : is_image_name p ≡ true
  parent_image = subst (λ n. is_image_name n ≡ true) (named h) (named_row s t (known m) q h.orderly (there h))

  -- and it has the logs of memory
  logged_at : (n : Known) → n.logs ≡ (known m).logs → (w : VolumeTable) (image : ℕ → List ℕ) → IsChoiceOf (stored g d) w image → IsLogged (content_in (g.site b) w image) n.logs
  logged_at = logged_work told copies.works (λ u is. name_apart p parent_image u (is ∙ named h))

  module _ (later : (w : VolumeTable) (image : ℕ → List ℕ) → g.leaves d w image → IsChoiceOf (stored g d) w image) where
    -- the copy failed
    pub copy_failed : (n : Known) → n.logs ≡ (known m).logs → (ok : Type 0) → (ok → ⊥) → HasDone (g.site b) (tab g b) (tab g d) (g.area b) (g.area d) n (StoreLeaves g b) (StoreLeaves g d) ok (disks (store_content g b))
    copy_failed n same ok never = only_crash never (λ w image l. crash_at w image (choice w image l)) (λ w image l. logged_at n same w image (choice w image l))
      where
        choice : (w : VolumeTable) (image : ℕ → List ℕ) → StoreLeaves g d w image → IsChoiceOf (stored g d) w image
        choice w image l = left_choice g.told (g.site d) (tab g d) (g.area d) (g.leaves d) (g.failed d) later w image l

    -- at a sync behind it
    module _ (e : S) (y : IsSynced g d e) where
      pub crash_synced : (w : VolumeTable) (image : ℕ → List ℕ) → StoreLeaves g e w image
          → IsKept (content_in (g.site b) w image) × IsBetween (MayShow (g.site b) (StoreLeaves g b)) (disks (store_content g b)) (disks (store_content g b)) (disks (content_in (g.site b) w image))
      crash_synced w image l = crash_at w image (synced_choice g y later w image l)

      pub logged_synced : (n : Known) → n.logs ≡ (known m).logs → (w : VolumeTable) (image : ℕ → List ℕ) → StoreLeaves g e w image → IsLogged (content_in (g.site b) w image) n.logs
      logged_synced n same w image l = logged_at n same w image (synced_choice g y later w image l)

      pub sync_failed : (n : Known) → n.logs ≡ (known m).logs → (ok : Type 0) → (ok → ⊥) → HasDone (g.site b) (tab g b) (tab g e) (g.area b) (g.area e) n (StoreLeaves g b) (StoreLeaves g e) ok (disks (store_content g b))
      sync_failed n same ok never = only_crash never crash_synced (logged_synced n same)

-- ---- from before the first sync

pub from_before : {S : Type 0} {g : Ghosts S} {a b e : S} {m : Memory} → IsTold g a m → IsSynced g a b → (n : Known) (ok : Type 0)
    → HasDone (g.site b) (tab g b) (tab g e) (g.area b) (g.area e) n (StoreLeaves g b) (StoreLeaves g e) ok (disks (store_content g b))
    → HasDone (g.site a) (tab g a) (tab g e) (g.area a) (g.area e) n (StoreLeaves g a) (StoreLeaves g e) ok (disks_next (disks (store_content g a)) (store_shape g a m) Gc)
from_before {g = g} {a} {b} {e} {m} told y n ok done =
    behind_sync told y n ok (disks_next (disks (store_content g a)) (store_shape g a m) Gc)
    (subst (λ (ds : List Disk). HasDone (g.site b) (tab g b) (tab g e) (g.area b) (g.area e) n (StoreLeaves g b) (StoreLeaves g e) ok ds)
    (ap disks (behind_content told y) ∙ sym (disks_gc (disks (store_content g a)) (store_shape g a m))) done)

pub never_done : {S : Type 0} {g : Ghosts S} {a b : S} {m : Memory} → IsTold g a m → IsSynced g a b → (n : Known) → n.logs ≡ (known m).logs → (ok : Type 0) → (ok → ⊥)
    → HasDone (g.site a) (tab g a) (tab g b) (g.area a) (g.area b) n (StoreLeaves g a) (StoreLeaves g b) ok (disks_next (disks (store_content g a)) (store_shape g a m) Gc)
never_done {g = g} {a} {b} {m} told y n same ok never = synced_failed told y n ok (disks_next (disks (store_content g a)) (store_shape g a m) Gc) never same
