-- What an opening may leave of a repository that was sound, why it stops, and what is known of memory in front of the repairs.
use Rattle.std.specs.Prelude.{◌≡◌, ℕ, None}
use Rattle.sm_base.specs.declared.faults.OpenFault.{OpenFault}
use Rattle.sm_standing.specs.Contents.{Content}
use Rattle.sm_disk.specs.Held.{IsSettled}
use Rattle.vg_meta.specs.Roomy.{table_alone}
use Rattle.vg_meta.specs.Tables.{VolumeTable}
use Rattle.vg_volumes.specs.declared.stores.Store.{Ghosts}
use Rattle.sm_machine.specs.Tracking.{AreGoodLogs}
use Rattle.sm_standing.specs.Checks.{IsSoundButLeaf}
use Rattle.sm_standing.specs.Entries.{folding, head}
use Rattle.sm_standing.specs.Keeping.{HoldsWell}
use Rattle.sm_standing.specs.LogChecks.{IsKeptWithLogs, first_place}
use Rattle.sm_standing.specs.Logs.{logs}
use Rattle.sm_standing.specs.Opened.{undone}
use Rattle.sm_standing.specs.Standing.{disks}
use Rattle.sm_standing.specs.Unfolded.{unfolded}
use Rattle.vhd_chain.specs.Reading.{AllAreTrue}
use Rattle.sm_ready.specs.Known.{known, shape_in}
use Rattle.sm_ready.specs.Orderly.{IsOrderly}
use Rattle.sm_ready.specs.Ready.{HasNoStrayLog, IsReady}
use Rattle.sm_ready.specs.Runs.{AllMay}
use Rattle.sm_ready.specs.Stores.{content_now, store_content}
use Rattle.sm_ready.specs.declared.memory.Memory.{Memory}
use Rattle.sm_checks.specs.Links.{IsLinkRight}
use Rattle.sm_checks.specs.Loaded.{stored_with}
use Rattle.sm_checks.specs.Openable.{IsOpenable, IsStoppedBy}
use Rattle.sm_recover.specs.Ending.{IsEndedSo, leaf_ends, unleafed}
use Rattle.sm_recover.specs.Repairs.{IsEndable}

-- why an opening stopped: the first place that is damaged, logs as the last, where the content is told; a fault of the device; memory
abbrev pub IsOpeningStopped : Type 0 → Content → ℕ → ℕ → OpenFault → Type 0
IsOpeningStopped told c before now e = IsStoppedBy told (first_place c) before now e

-- a content that an opening may leave: kept, its check of logs passes, and it has the disks and the logs from before
pub record IsRepairedFrom (old new : Content) : Type 0 where
  pub was_sound : first_place old ≡ None
  pub sound : IsKeptWithLogs new
  pub same_disks : disks new ≡ disks old
  pub same_logs : logs new ≡ logs old

-- what an opening may leave of a content whose checks passed: where it held well what no opening tests, a content that is
-- kept and has the same disks and logs
pub record MayBeRepairedFrom (old new : Content) : Type 0 where
  pub was_sound : first_place old ≡ None
  pub repaired : HoldsWell old → IsRepairedFrom old new

-- what the checks leave known of a store with this table, which is its own without logs of no use, and of memory, which is that of the table in
-- which nothing is under way
pub record IsOpenedOn {S : Type 0} (g : Ghosts S) (s : S) (t : VolumeTable) (m : Memory) : Type 0 where
  pub openable : IsOpenable (g.site s) t
  pub checked : IsEndable (g.site s) (unleafed t)
  pub allowed : AllMay (g.site s).count t (leaf_ends t (head (folding t)))
  pub ended : IsEndedSo t
  pub orderly : IsOrderly (g.site s) (undone (unfolded (unleafed t))) (known m)
  pub linking : IsLinkRight (unleafed t) m.tree.rows
  pub no_stray_log : HasNoStrayLog (known m)
  pub good_logs : ∥ AreGoodLogs (shape_in (g.site s) (undone (unfolded (unleafed t))) (known m)) ∥₁
  pub ready : g.told → IsSettled (g.area s) → HoldsWell (content_now (g.site s) t (g.area s)) → IsReady (g.site s) (undone (unfolded (unleafed t))) (g.area s) (known m)
  pub true_images : g.told → IsSettled (g.area s) → AllAreTrue (stored_with g s (undone (unfolded (unleafed t)))) m.tree.rows

-- a store in which no leaf is being folded held well what no opening tests, and memory is as the sectors say once all is undone
pub record HeldWell {S : Type 0} (g : Ghosts S) (s : S) (m : Memory) : Type 0 where
  pub settled : IsSettled (g.area s)
  pub sound : IsSoundButLeaf (store_content g s)
  pub well : HoldsWell (store_content g s)
  pub ready : IsReady (g.site s) (undone (unfolded (table_alone (g.table s)))) (g.area s) (known m)
