-- A call that makes all last before it writes one image leaves what was left before, or what a read gave beside that image.
use Rattle.std.proofs.Common.{◌≡◌, ℕ, ◌<◌, false, List, inl, inr, sym, ◌∙◌, subst, subst₂}
use Rattle.sm_base.specs.declared.names.Name.{Name}
use Rattle.sm_machine.specs.Operations.{Op}
use Rattle.sm_machine.specs.Operations as op
use Rattle.sm_disk.proofs.HeldLaws.{may_settled}
use Rattle.vg_meta.specs.Tables.{VolumeTable, extents_of, rows}
use Rattle.vg_volumes.specs.Sites.{area_size}
use Rattle.vg_volumes.specs.Stored.{WorksOn}
use Rattle.vg_volumes.specs.Volumes.{IsElsewhere}
use Rattle.vg_volumes.specs.declared.stores.Store.{Ghosts}
use Rattle.gc_coalesce.specs.Copying.{IsCopyOf}
use Rattle.gc_coalesce.specs.declared.kinds.Kind.TheVariants as kinds
use Rattle.gc_coalesce.specs.Syncing.{CopySynced, LeavesSynced}
use Rattle.gc_coalesce.proofs.LinkEnds.{IsRested, LeavesNow}

module _ {S : Type 0} (g : Ghosts S) (a b d : S) (n : Name) (usable : g.failed a ≡ false) (now : LeavesNow g) (rest : IsRested g a b) (works : WorksOn g n b d) where
  -- behind what was written
  pub written_synced : LeavesSynced g n a d
  written_synced told t image leaves = inr (λ p within beside.
      let y = rest.synced told in
      let choice = now d told (works.stays.failed ∙ rest.failed ∙ usable) t image leaves in
      let there = subst₂ (λ s (u : VolumeTable). IsElsewhere s.geometry.extent (extents_of (rows u n)) p) (sym rest.site) (sym rest.table) beside in
      let may = (works.elsewhere told).may p (image p) there (choice.sectors p (subst₂ (λ s _. p < area_size s) (sym (works.stays.site ∙ rest.site)) rest.table within)) in
      may_settled (g.area b) p (image p) (rest.settled told p) may ∙ y.keeps.reads p)

  -- and behind a sync of it, failed or not
  pub synced_again : (e : S) → (g.told → (t : VolumeTable) (image : ℕ → List ℕ) → g.leaves e t image → g.leaves d t image) → LeavesSynced g n a e
  synced_again e fewer told t image leaves = written_synced told t image (fewer told t image leaves)

-- a copy into p is one
pub copy_synced : {S : Type 0} (g : Ghosts S) (o : Op) (v p : Name) (a d : S) → IsCopyOf o v p → LeavesSynced g p a d → CopySynced g o a d
copy_synced g o v p a d (kinds.Hidden, cursor, dirty, is) left = subst (λ x. CopySynced g x a d) (sym is) left
copy_synced g o v p a d (kinds.Leaf, cursor, dirty, is) left = subst (λ x. CopySynced g x a d) (sym is) left
copy_synced g o v p a d (kinds.Live, cursor, dirty, is) left = subst (λ x. CopySynced g x a d) (sym is) left

-- and whatever a stop leaves was left before where nothing was written
pub nothing_synced : {S : Type 0} (g : Ghosts S) (o : Op) (a d : S) → (g.told → (t : VolumeTable) (image : ℕ → List ℕ) → g.leaves d t image → g.leaves a t image) → CopySynced g o a d
nothing_synced g (op.Copy v p cursor) a d fewer = λ told t image leaves. inl (fewer told t image leaves)
nothing_synced g (op.Leaf l p cursor) a d fewer = λ told t image leaves. inl (fewer told t image leaves)
nothing_synced g (op.Live l p cursor dirty) a d fewer = λ told t image leaves. inl (fewer told t image leaves)
nothing_synced g (op.Relink v p) a d fewer = tt
nothing_synced g op.Idle a d fewer = tt
