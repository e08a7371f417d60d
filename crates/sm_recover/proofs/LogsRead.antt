-- Reading the logs of the disks that are there is the check of them.
use Rattle.std.proofs.Common.{◌≡◌, ℕ, ◌≤◌, List, length, Option, None, Some, Ok, Err, refl, sym, ap, ◌∙◌, subst}
use Rattle.sm_base.specs.declared.faults.Place.{Place}
use Rattle.sm_base.specs.declared.faults.Place.TheVariants as at
use Rattle.sm_base.specs.declared.names.Name.TheVariants.{Cbt}
use Rattle.vg_meta.specs.Roomy.{table_alone}
use Rattle.vg_meta.specs.Tables.{IsTable}
use Rattle.vg_volumes.specs.declared.stores.Store.{Ghosts}
use Rattle.sm_log.specs.Logs.{Log}
use Rattle.sm_logs.specs.Held.{IsRising}
use Rattle.sm_standing.specs.Contents.{Content}
use Rattle.sm_standing.specs.LogChecks.{log_fault}
use Rattle.sm_standing.specs.Logs.{logs}
use Rattle.sm_standing.proofs.LogLaws.{first_wrong}
use Rattle.vhd_chain.specs.declared.rows.TreeRow.{TreeRow}
use Rattle.sm_log_reading.specs.Checked.{AreDisksOf}
use Rattle.sm_log_reading.specs.Right.{AreNumbered, AreReadOf, IsNotRead, logs_read}
use Rattle.sm_log_reading.specs.declared.logs.DiskPieces.{DiskPieces}
use Rattle.sm_log_reading.specs.declared.logs.LogFault.{LogFault}
use Rattle.sm_log_reading.specs.declared.logs.LogFault.TheVariants as read
use Rattle.sm_log_reading.proofs.FaultLaws.{read_passing, read_wrong}
use Rattle.sm_ready.specs.Stores.{store_content}
use Rattle.sm_checks.specs.Openable.{IsStoppedBy}
use Rattle.sm_recover.specs.Tracked.{AreLogsRead, HasPiecesOf, logged_disks, open_fault}
use Rattle.sm_recover.proofs.TrackedLaws.{are_disks}

-- they were read
pub read_all : (c : Content) (ds : List DiskPieces) (ls : List Log) → IsTable c.count c.table → AreDisksOf c ds → logs_read c ds ≡ Ok ls → (log_fault c ≡ None) × (ls ≡ logs c)
read_all c ds ls table are is = by (log_fault c) refl
  where
    by : (o : Option Place) → log_fault c ≡ o → (log_fault c ≡ None) × (ls ≡ logs c)
    by None fine = (fine, (let e : Ok ls ≡ Ok (logs c) = sym is ∙ read_passing c table ds are fine in cc))
    by (Some p) fault =
        let w = first_wrong c table p fault in
        absurd (let e : Ok ls ≡ Err w.0 = sym is ∙ read_wrong c table ds are w.0 (fault ∙ ap Some w.1) in cc)

-- or one is wrong
pub read_not : (c : Content) (ds : List DiskPieces) (u : List ℕ) → IsTable c.count c.table → AreDisksOf c ds → logs_read c ds ≡ Err u → log_fault c ≡ Some (at.Log (Cbt u))
read_not c ds u table are is = by (log_fault c) refl
  where
    by : (o : Option Place) → log_fault c ≡ o → log_fault c ≡ Some (at.Log (Cbt u))
    by None fine = absurd (let e : Err u ≡ Ok (logs c) = sym is ∙ read_passing c table ds are fine in cc)
    by (Some p) fault =
        let w = first_wrong c table p fault in
        let e : Err w.0 ≡ Err u = sym (read_wrong c table ds are w.0 (fault ∙ ap Some w.1)) ∙ is in
        let own : w.0 ≡ u = cc in
        fault ∙ ap Some (w.1 ∙ ap (λ v. at.Log (Cbt v)) own)

module _ {S : Type 0} (g : Ghosts S) (store : S) (xs : List TreeRow) (table : IsTable (g.site store).count (table_alone (g.table store))) (pieces : g.told → HasPiecesOf (store_content g store) xs)
    (ds : List DiskPieces) (same : ds ≡ logged_disks (table_alone (g.table store)) xs) where
  are : g.told → AreDisksOf (store_content g store) ds
  are told = subst (AreDisksOf (store_content g store)) (sym same) (are_disks (store_content g store) xs table (pieces told))

  pub logs_are_read : (ls : List Log) → AreReadOf (table_alone (g.table store)) (g.site store).geometry.extent ds ls → AreNumbered (table_alone (g.table store)).sequence ls → length ls ≤ length ds → IsRising ls
      → (g.told → logs_read (store_content g store) ds ≡ Ok ls) → AreLogsRead g store xs ls
  logs_are_read ls read numbered few rising gave = record {
    read = subst (λ es. AreReadOf (table_alone (g.table store)) (g.site store).geometry.extent es ls) same read;
    numbered = numbered;
    few = subst (λ (es : List DiskPieces). length ls ≤ length es) same few;
    rising = rising;
    pass = λ told. (read_all (store_content g store) ds ls table (are told) (gave told)).0;
    are = λ told. (read_all (store_content g store) ds ls table (are told) (gave told)).1;
  }

  pub why_not : (new : S) (e : LogFault) → IsNotRead g (λ u. logs_read (store_content g store) ds ≡ Err u) store new e → IsStoppedBy g.told (log_fault (store_content g store)) (g.faults store) (g.faults new) (open_fault e)
  why_not new (read.Log u) is = λ told. read_not (store_content g store) ds u table (are told) (is told)
  why_not new read.Device is = is
  why_not new read.NoMemory is = tt
