-- A block that is copied, from the first sync on: what each of its ends leaves.
use Rattle.std.proofs.Common.{◌≡◌, ℕ, ◌*◌, inl, List, true, false, refl, sym, ap, ap₂, ◌∙◌, subst, subst₂}
use Rattle.sm_base.specs.declared.names.Name.{Name}
use Rattle.sm_disk.specs.Held.{IsSettled, Keeps}
use Rattle.vg_meta.specs.Tables.{VolumeTable}
use Rattle.vg_volumes.specs.Stored.{IsChoiceOf, stored}
use Rattle.vg_volumes.specs.declared.stores.Store.{Ghosts}
use Rattle.vhd_image.specs.declared.images.Body.{Body}
use Rattle.vhd_chain.specs.Trees.{with_replaced}
use Rattle.vhd_chain.specs.declared.rows.TreeRow.{TreeRow}
use Rattle.sm_machine.specs.Collector.{IsLess, copied, debt, next_step}
use Rattle.sm_machine.specs.Operations.{advanced, is_dirty}
use Rattle.sm_operation.specs.Kept.{dirty_in}
use Rattle.sm_base.specs.declared.operations.Plan.TheVariants as plan
use Rattle.sm_machine.specs.declared.commands.Command.TheVariants.{Gc}
use Rattle.sm_ready.specs.Does.{StoreDoes, store_shape}
use Rattle.sm_ready.specs.Frames.{HasTrueImages}
use Rattle.sm_ready.specs.Known.{Known, known, machine_row, shape_in}
use Rattle.sm_ready.specs.Orderly.{IsOrderly}
use Rattle.sm_ready.specs.Ready.{IsTidy}
use Rattle.sm_ready.specs.Sessions.{IsOrderlyStore, IsReadyStore, IsTidyStore}
use Rattle.sm_ready.specs.Stores.{content_in, store_content}
use Rattle.sm_ready.specs.declared.memory.Memory.{Memory}
use Rattle.sm_ready.proofs.ChainLaws.{tab}
use Rattle.sm_ready.proofs.FrameLaws.{true_stays}
use Rattle.sm_ready.proofs.SyncLaws.{IsSynced, told_behind}
use Rattle.sm_ready.proofs.TakenLaws.{IsTold, is_told}
use Rattle.gc_coalesce.specs.Blocks.{Copies, HasCopied}
use Rattle.gc_coalesce.specs.Copying.{IsMasked}
use Rattle.gc_coalesce.proofs.CopyCallLaws.{to_copy_at, true_copied}
use Rattle.gc_coalesce.proofs.CopyCrashLaws.{copy_failed, from_before, masked_since, sync_failed, synced_choice}
use Rattle.gc_coalesce.proofs.CopyDebt.{lowers}
use Rattle.gc_coalesce.proofs.CopyMemoryLaws.{behind, may_name, orderly_behind, shape_given, tidy_behind, with_image}
use Rattle.gc_coalesce.proofs.CopyNext.{swap_stays}
use Rattle.gc_coalesce.proofs.CopyPlanLaws.{IsToCopy, named}
use Rattle.gc_coalesce.proofs.LinkEnds.{IsRested}
use Rattle.gc_coalesce.proofs.SyncedLaws.{synced_again, written_synced}
use Rattle.gc_coalesce.specs.Syncing.{LeavesSynced}
use Rattle.vg_volumes.specs.Stored.{WorksOn}
use Rattle.gc_coalesce.proofs.CopyReadyLaws.{copy_done, slot_new, stands_new}

-- what is known of a sync
pub record IsSync {S : Type 0} (g : Ghosts S) (a b : S) : Type 0 where
  pub site : g.site b ≡ g.site a
  pub table : tab g b ≡ tab g a
  pub failed : g.failed b ≡ g.failed a
  pub keeps : g.told → Keeps (g.area a) (g.area b)
  pub leaves : g.told → (w : VolumeTable) (image : ℕ → List ℕ) → g.leaves b w image → g.leaves a w image

-- a copy that runs: a first sync, and the work on the parent behind it
pub record IsUnderWay {S : Type 0} (g : Ghosts S) (a b d : S) (m : Memory) (v p : Name) (cursor blk : ℕ) (i q : TreeRow) (new : Body) : Type 0 where
  pub images : IsToCopy (g.site a) (tab g a) (known m) v p cursor blk i q
  pub usable : g.failed a ≡ false
  pub sync : IsSync g a b
  pub settled : g.told → IsSettled (g.area b)
  pub copies : Copies g i.image q.image new b d
  pub choice : (s : S) → g.told → g.failed s ≡ false → (w : VolumeTable) (image : ℕ → List ℕ) → g.leaves s w image → IsChoiceOf (stored g s) w image

module _ {S : Type 0} {g : Ghosts S} {a b d : S} {m : Memory} {v p : Name} {cursor blk : ℕ} {i q : TreeRow} {new : Body} (u : IsUnderWay g a b d m v p cursor blk i q new) where
  images_b : IsToCopy (g.site b) (tab g b) (known m) v p cursor blk i q
  images_b = to_copy_at u.sync.site u.sync.table u.images

  synced_b : g.told → IsSynced g a b
  synced_b told = record { site = u.sync.site; table = u.sync.table; failed = u.sync.failed; keeps = u.sync.keeps told; leaves = u.sync.leaves told }

  told_a : g.told → IsReadyStore g a m → IsTold g a m
  told_a told ready = is_told g a m u.images.orderly u.usable told ready (u.choice a told u.usable)

  told_b : g.told → IsReadyStore g a m → IsTold g b m
  told_b told ready = told_behind (told_a told ready) (synced_b told) (u.settled told) (u.choice b told (u.sync.failed ∙ u.usable))

  later : g.told → (w : VolumeTable) (image : ℕ → List ℕ) → g.leaves d w image → IsChoiceOf (stored g d) w image
  later told = u.choice d told (u.copies.works.stays.failed ∙ u.sync.failed ∙ u.usable)

  masked_by : g.told → IsReadyStore g a m → (w : VolumeTable) (image : ℕ → List ℕ) → IsChoiceOf (stored g d) w image → IsMasked m.operation (store_content g a) (content_in (g.site a) w image)
  masked_by told ready = masked_since g images_b new u.copies (told_b told ready) (u.settled told) (told_a told ready) (synced_b told)

  -- ---- nothing else was pending when the parent was written

  rested_b : IsRested g a b
  rested_b = record { site = u.sync.site; table = u.sync.table; failed = u.sync.failed; synced = synced_b; settled = u.settled }

  works_on : WorksOn g p b d
  works_on = subst (λ n. WorksOn g n b d) (named u.images) u.copies.works

  pub written_beside : LeavesSynced g p a d
  written_beside = written_synced g a b d p u.usable u.choice rested_b works_on

  pub synced_beside : {e : S} → IsSync g d e → LeavesSynced g p a e
  synced_beside {e} y = synced_again g a b d p u.usable u.choice rested_b works_on e y.leaves

  -- ---- the copy failed

  pub failed_done : (n : Memory) (ok : Type 0) → (ok → ⊥) → n.logs ≡ m.logs → g.told → IsReadyStore g a m → StoreDoes g Gc a m d n ok
  failed_done n ok never same_logs told ready = from_before (told_a told ready) (synced_b told) (known n) ok (copy_failed g images_b new u.copies (told_b told ready) (u.settled told) (later told) (known n) same_logs ok never)

  pub failed_masked : g.told → IsReadyStore g a m → g.told → (w : VolumeTable) (image : ℕ → List ℕ) → g.leaves d w image → IsMasked m.operation (store_content g a) (content_in (g.site a) w image)
  failed_masked told ready again w image l = masked_by told ready w image (later told w image l)

  -- ---- a sync behind it

  module _ {e : S} (y : IsSync g d e) where
    synced_e : g.told → IsSynced g d e
    synced_e told = record { site = y.site; table = y.table; failed = y.failed; keeps = y.keeps told; leaves = y.leaves told }

    pub synced_masked : g.told → IsReadyStore g a m → g.told → (w : VolumeTable) (image : ℕ → List ℕ) → g.leaves e w image → IsMasked m.operation (store_content g a) (content_in (g.site a) w image)
    synced_masked told ready again w image l = masked_by told ready w image (synced_choice g (synced_e told) (later told) w image (inl l))

    -- it failed
    pub unsynced_done : (n : Memory) (ok : Type 0) → (ok → ⊥) → n.logs ≡ m.logs → g.told → IsReadyStore g a m → StoreDoes g Gc a m e n ok
    unsynced_done n ok never same_logs told ready =
        from_before (told_a told ready) (synced_b told) (known n) ok (sync_failed g images_b new u.copies (told_b told ready) (u.settled told) (later told) e (synced_e told) (known n) same_logs ok never)

    -- ---- all was copied, and lasts

    module _ (n : Memory) (done : HasCopied g i.image blk (blk * (g.site b).geometry.block) (g.site b).geometry.block q.image new b d)
        (rows : n.tree.rows ≡ with_replaced (with_image new q) m.tree.rows) (rest : known n ≡ record (known m) { rows = n.tree.rows; op = advanced blk m.operation }) where
      memory_is : known n ≡ behind new q blk (known m)
      memory_is = rest ∙ ap (λ rs. let k : Known = record (known m) { rows = rs; op = advanced blk m.operation } in k) rows

      site_is : g.site e ≡ g.site b
      site_is = y.site ∙ u.copies.works.stays.site

      table_is : tab g e ≡ tab g b
      table_is = y.table ∙ u.copies.works.stays.table

      pub whole_orderly : IsOrderlyStore g e n
      whole_orderly = subst (IsOrderly (g.site e) (tab g e)) (sym memory_is)
          (subst₂ (λ s t. IsOrderly s t (behind new q blk (known m))) (sym site_is) (sym table_is) (orderly_behind images_b new done.slot (stands_new g e m images_b new u.copies done)))

      pub whole_tidy : IsTidyStore g a m → IsTidyStore g e n
      whole_tidy tidy = subst (IsTidy (tab g e)) (sym memory_is)
          (subst (λ t. IsTidy t (behind new q blk (known m))) (sym (table_is ∙ u.sync.table)) (tidy_behind u.images new (λ _. machine_row (with_image new q)) (may_name blk q.image new done.slot) refl tidy))

      pub whole_true : HasTrueImages g a m → HasTrueImages g e n
      whole_true truth = true_copied g e m n images_b new u.copies _ _ done y.site y.table y.keeps rows (true_stays g m m u.sync.site u.sync.table refl u.sync.keeps truth)

      whole_is : store_shape g e n ≡ shape_in (g.site a) (tab g a) (behind new q blk (known m))
      whole_is = ap₂ (λ s t. shape_in s t (known n)) (site_is ∙ u.sync.site) (table_is ∙ u.sync.table) ∙ ap (shape_in (g.site a) (tab g a)) memory_is

      pub whole_lowered : next_step (store_shape g a m) ≡ plan.Copy blk → ∥ IsLess (debt (store_shape g e n)) (debt (store_shape g a m)) ∥₁
      whole_lowered planned = subst (λ σ. ∥ IsLess (debt σ) (debt (store_shape g a m)) ∥₁) (sym whole_is) (lowers u.images planned new done.slot)

      pub whole_next : is_dirty blk (dirty_in m.operation) ≡ true → next_step (store_shape g a m) ≡ plan.Swap → next_step (store_shape g e n) ≡ plan.Swap
      whole_next dirty planned = ap next_step whole_is ∙ swap_stays u.images new done.slot dirty planned

      module _ (settled : g.told → IsSettled (g.area e)) where
        pub whole_shape : g.told → IsReadyStore g a m → store_shape g e n ≡ copied m.operation blk (store_shape g a m)
        whole_shape told ready =
            whole_is ∙ shape_given u.images new (slot_new g e m images_b new u.copies done (told_b told ready) (u.settled told) (synced_e told) (settled told))

        pub whole_done : (ok : Type 0) → g.told → IsReadyStore g a m → StoreDoes g Gc a m e n ok
        whole_done ok told ready =
            from_before (told_a told ready) (synced_b told) (known n) ok
            (copy_done g e m images_b new u.copies done (told_b told ready) (u.settled told) (synced_e told) (settled told) (later told) (known n) memory_is ok)
