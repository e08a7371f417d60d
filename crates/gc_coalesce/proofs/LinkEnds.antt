-- A child is linked past an image, told from before the sync that makes all rest: what was done at each end of the call.
use Rattle.std.proofs.Common.{◌≡◌, ℕ, true, false, List, refl, sym, ap, ◌∙◌, subst₂}
use Rattle.common_laws.specs.Lists.{In}
use Rattle.sm_base.specs.declared.names.Name.{Name}
use Rattle.sm_base.specs.declared.names.Name.TheVariants.{Clone, Coalesce, Inflate, Leaf, Mgt, Old, Cbt, Raw, Relink, Vhd}
use Rattle.sm_disk.specs.Held.{IsSettled, Keeps}
use Rattle.vg_meta.specs.Tables.{VolumeTable}
use Rattle.vg_volumes.specs.Stored.{IsChoiceOf, Stays, WorksOn, sectors_in, stored}
use Rattle.vg_volumes.specs.declared.stores.Store.{Ghosts}
use Rattle.vg_volumes.specs.Sites.{Site}
use Rattle.vhd_fields.specs.ParentNames.{IsParent, is_image as is_parent}
use Rattle.vhd_volumes.specs.Steps.{Holds}
use Rattle.vhd_volumes.specs.Truth.{layout_now}
use Rattle.vhd_image.specs.Bodies.{IfVhdDoes, TrueIn, volume_name}
use Rattle.vhd_image.specs.Changes.{relinked}
use Rattle.vhd_image.specs.Made.{IsParentImage}
use Rattle.vhd_image.specs.declared.images.Body.{Body}
use Rattle.vhd_chain.specs.Trees.{row_name, with_replaced}
use Rattle.vhd_chain.specs.declared.rows.TreeRow.{TreeRow}
use Rattle.sm_machine.specs.Disks.{Disk}
use Rattle.sm_machine.specs.Steps.{disks_next}
use Rattle.sm_machine.specs.WellFormed.{is_image_name}
use Rattle.sm_machine.specs.declared.commands.Command.TheVariants.{Gc}
use Rattle.sm_refs.specs.Attached.{Attached}
use Rattle.sm_standing.specs.Standing.{disks}
use Rattle.sm_ready.specs.Does.{store_shape}
use Rattle.sm_ready.specs.Done.{HasDone}
use Rattle.sm_ready.specs.Known.{Known, known}
use Rattle.sm_ready.specs.Orderly.{IsOrderly}
use Rattle.sm_ready.specs.Sessions.{IsReadyStore}
use Rattle.sm_ready.specs.Stores.{StoreLeaves, store_content}
use Rattle.sm_ready.specs.declared.memory.Memory.{Memory}
use Rattle.sm_ready.proofs.ChainLaws.{tab}
use Rattle.sm_ready.proofs.Orders.{named_row}
use Rattle.sm_ready.proofs.PutBackLaws.{row_proper}
use Rattle.sm_ready.proofs.SyncLaws.{IsSynced, behind_content, behind_sync, synced_failed, told_behind}
use Rattle.sm_ready.proofs.TakenLaws.{IsTold, is_told}
use Rattle.gc_coalesce.proofs.LinkLaws.{IsToLink, linked_row}
use Rattle.gc_coalesce.proofs.LinkLeft.{LinksIn}
use Rattle.gc_coalesce.proofs.LinkStores.{linked_done, linked_failed, linked_unsettled, steady_linked}

-- the child that is linked next, of a store
abbrev pub IsToLinkIn : {S : Type 0} → Ghosts S → S → Memory → Name → Name → Name → TreeRow → Type 0
IsToLinkIn g a m child v p r = IsToLink (g.site a) (tab g a) (known m) child v p r

-- the store as the first sync leaves it
pub record IsRested {S : Type 0} (g : Ghosts S) (a b : S) : Type 0 where
  pub site : g.site b ≡ g.site a
  pub table : tab g b ≡ tab g a
  pub failed : g.failed b ≡ g.failed a
  pub synced : g.told → IsSynced g a b
  pub settled : g.told → IsSettled (g.area b)

-- by what the trait says of a sync
pub rested : {S : Type 0} (g : Ghosts S) (a b : S) → g.site b ≡ g.site a → (tab g b ≡ tab g a) × (g.failed b ≡ g.failed a) × (g.version b ≡ g.version a) → (g.told → Keeps (g.area a) (g.area b))
    → (g.told → (t : VolumeTable) (image : ℕ → List ℕ) → g.leaves b t image → g.leaves a t image) → (g.told → IsSettled (g.area b)) → IsRested g a b
rested g a b site table keeps leaves settled = record {
  site = site;
  table = table.0;
  failed = table.1;
  synced = λ told. record { site = site; table = table.0; failed = table.1; keeps = keeps told; leaves = leaves told };
  settled = settled;
}

parent_named : (n : Name) → is_image_name n ≡ true → is_parent n ≡ true
unfolding is_image_name
parent_named (Vhd u) e = refl
parent_named (Raw u) e = refl
parent_named Mgt e = e
parent_named (Old u) e = e
parent_named (Cbt u) e = e
parent_named (Clone d b k) e = e
parent_named (Inflate u k) e = e
parent_named (Coalesce v p) e = e
parent_named (Relink v p) e = e
parent_named (Leaf l p) e = e

-- an image of memory may be a parent
pub proper : (s : Site) (t : VolumeTable) (m : Known) → IsOrderly s t m → (q : TreeRow) → In q m.rows → IsParentImage q.image
unfolding IsParent
proper s t m o q i = (row_proper s t m o q i, parent_named (row_name q) (named_row s t m q o i))

-- what the trait says that a stop leaves
abbrev pub LeavesNow : {S : Type 0} → Ghosts S → Type 0
LeavesNow {S} g = (x : S) → g.told → g.failed x ≡ false → (t : VolumeTable) (image : ℕ → List ℕ) → g.leaves x t image → IsChoiceOf (stored g x) t image

-- the child that is linked next, at a store of the same site and table
pub links_there : {S : Type 0} (g : Ghosts S) (a b : S) (m : Memory) (child v p : Name) (r : TreeRow) → g.site b ≡ g.site a → tab g b ≡ tab g a → IsToLinkIn g a m child v p r
    → IsToLinkIn g b m child v p r
links_there g a b m child v p r site table h = subst₂ (λ s t. IsToLink s t (known m) child v p r) (sym site) (sym table) h

-- the disks are the machine's
disks_as_was : {S : Type 0} (g : Ghosts S) (a b : S) (m : Memory) → IsTold g a m → IsSynced g a b → disks_next (disks (store_content g a)) (store_shape g a m) Gc ≡ disks (store_content g b)
unfolding disks_next
disks_as_was g a b m i y = ap disks (sym (behind_content i y))

-- the first sync failed
pub rest_failed : {S : Type 0} (g : Ghosts S) (a b : S) (m : Memory) → IsTold g a m → IsSynced g a b → (n : Known) → n.logs ≡ (known m).logs → (ok : Type 0) → (ok → ⊥)
    → HasDone (g.site a) (tab g a) (tab g b) (g.area a) (g.area b) n (StoreLeaves g a) (StoreLeaves g b) ok (disks_next (disks (store_content g a)) (store_shape g a m) Gc)
rest_failed g a b m i y n same ok never = synced_failed i y n ok (disks_next (disks (store_content g a)) (store_shape g a m) Gc) never same

module _ {S : Type 0} (g : Ghosts S) (a b d : S) (m : Memory) (child v p : Name) (r q : TreeRow) (h : IsToLinkIn g a m child v p r)
    (above : In q m.tree.rows × (row_name q ≡ p)) (usable : g.failed a ≡ false) (now : LeavesNow g)
    (rest : IsRested g a b) (works : WorksOn g (row_name r) b d)
    (changes : IfVhdDoes g r.image (λ head slots. LinksIn (layout_now (stored g b) head) (volume_name q.image)) b d) where
  abbrev after : List Disk
  after = disks_next (disks (store_content g a)) (store_shape g a m) Gc

  links : IsToLinkIn g b m child v p r
  links = links_there g a b m child v p r rest.site rest.table h

  module _ (told : g.told) (ready : IsReadyStore g a m) where
    first : IsTold g a m
    first = is_told g a m h.orderly usable told ready (now a told usable)

    second : IsTold g b m
    second = told_behind first (rest.synced told) (rest.settled told) (now b told (rest.failed ∙ usable))

    later : (x : VolumeTable) (image : ℕ → List ℕ) → g.leaves d x image → IsChoiceOf (stored g d) x image
    later = now d told (works.stays.failed ∙ rest.failed ∙ usable)

    same : disks_next (disks (store_content g a)) (store_shape g a m) Gc ≡ disks (store_content g b)
    same = disks_as_was g a b m first (rest.synced told)

    -- the link was not written
    pub relink_failed : (n : Known) → n.logs ≡ (known m).logs → (ok : Type 0) → (ok → ⊥)
        → HasDone (g.site a) (tab g a) (tab g d) (g.area a) (g.area d) n (StoreLeaves g a) (StoreLeaves g d) ok (disks_next (disks (store_content g a)) (store_shape g a m) Gc)
    relink_failed n same_logs ok never = behind_sync first (rest.synced told) n ok after
        (linked_failed g b d m child v p r q links above.0 above.1 works second (rest.settled told) changes later n same_logs ok after same never)

    module _ (e : S) (z : IsSynced g d e) where
      -- it was, and its sync failed
      pub relink_unsettled : (n : Known) → n.logs ≡ (known m).logs → (ok : Type 0) → (ok → ⊥)
          → HasDone (g.site a) (tab g a) (tab g e) (g.area a) (g.area e) n (StoreLeaves g a) (StoreLeaves g e) ok (disks_next (disks (store_content g a)) (store_shape g a m) Gc)
      relink_unsettled n same_logs ok never = behind_sync first (rest.synced told) n ok after
          (linked_unsettled g b d m child v p r q links above.0 above.1 works second (rest.settled told) changes later e z n same_logs ok after same never)

      -- it was, and all lasts
      pub relink_done : Stays g d e → IsSettled (g.area e) → (new : Body) → new ≡ relinked q.image r.image
          → Holds g (row_name r) (λ x. TrueIn (g.site b).geometry (sectors_in (stored g b) (row_name r)) x new) d
          → (n : Known) (used : Attached) → n ≡ record (known m) { rows = with_replaced (linked_row q r) m.tree.rows; attached = used } → (ok : Type 0)
          → HasDone (g.site a) (tab g a) (tab g e) (g.area a) (g.area e) n (StoreLeaves g a) (StoreLeaves g e) ok (disks_next (disks (store_content g a)) (store_shape g a m) Gc)
      relink_done stays settled new is truth n used known_is ok = behind_sync first (rest.synced told) n ok after
          (linked_done g b d m child v p r q links above.0 above.1 works second (rest.settled told) changes later e z settled
          (steady_linked g b d m child v p r q links above.0 above.1 works e z.site z.table (λ _. z.keeps) told stays settled new is truth changes second.ready) n used known_is ok after same)
