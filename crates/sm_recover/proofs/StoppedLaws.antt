-- Why an opening stops at its checks, the logs' as the last; and what was read of a store that was only read is that from before.
use Rattle.std.proofs.Common.{◌≡◌, ℕ, ◌≤◌, List, [], ◌∷◌, length, None, Some, sym, ap, ap₂, ◌∙◌, subst, subst₂, arith}
use Rattle.common_laws.specs.Lists.{first_some}
use Rattle.sm_base.specs.declared.faults.OpenFault.{OpenFault}
use Rattle.sm_base.specs.declared.faults.OpenFault.TheVariants as fault
use Rattle.sm_base.specs.declared.faults.Place.{Place}
use Rattle.vg_meta.specs.Roomy.{table_alone}
use Rattle.vg_meta.specs.Tables.{VolumeTable}
use Rattle.vg_volumes.specs.Sites.{Site}
use Rattle.vg_volumes.specs.Stored.{OnlyReads}
use Rattle.vg_volumes.specs.declared.stores.Store.{Ghosts}
use Rattle.sm_log.specs.Logs.{Log}
use Rattle.sm_standing.specs.Checks.{first_fault}
use Rattle.sm_standing.specs.Contents.{Content}
use Rattle.sm_standing.specs.LogChecks.{first_place, log_fault}
use Rattle.sm_standing.specs.Logs.{logs}
use Rattle.vhd_chain.specs.declared.rows.TreeRow.{TreeRow}
use Rattle.sm_ready.specs.Repairs.{content_of}
use Rattle.sm_ready.specs.Stores.{store_content}
use Rattle.sm_ready.proofs.AgainLaws.{stored_as}
use Rattle.sm_log_reading.specs.Right.{AreNumbered, AreReadOf}
use Rattle.sm_checks.specs.Openable.{IsCheckStopped, IsStoppedBy}
use Rattle.sm_recover.specs.Stores.{IsOpeningStopped}
use Rattle.sm_recover.specs.Tracked.{AreLogsRead, HasPiecesOf, logged_disks}

-- a check before that of logs is the first that fails
pub check_stopped : (told : Type 0) (c : Content) (before now : ℕ) (e : OpenFault) → IsCheckStopped told c before now e → IsOpeningStopped told c before now e
check_stopped told c before now (fault.Damaged place) is = λ known. ap (λ o. first_some (o ∷ log_fault c ∷ [])) (is known)
check_stopped told c before now fault.Device is = is
check_stopped told c before now fault.NoMemory is = tt
check_stopped told c before now fault.NotARepository is = is
check_stopped told c before now (fault.Unsupported version) is = is

-- where all of those pass, that of logs is
last_place : (c : Content) (place : Place) → first_fault c ≡ None → log_fault c ≡ Some place → first_place c ≡ Some place
last_place c place none is = ap₂ (λ a b. first_some (a ∷ b ∷ [])) none is

pub all_pass : (c : Content) → first_fault c ≡ None → log_fault c ≡ None → first_place c ≡ None
all_pass c none fine = ap₂ (λ a b. first_some (a ∷ b ∷ [])) none fine

module _ {S : Type 0} {g : Ghosts S} {a b : S} (only : OnlyReads g a b) where
  pub content_before : g.told → store_content g b ≡ store_content g a
  content_before told = ap content_of (stored_as only told)

  pub pieces_before : (xs : List TreeRow) → (g.told → HasPiecesOf (store_content g a) xs) → g.told → HasPiecesOf (store_content g b) xs
  pieces_before xs pieces told = subst (λ c. HasPiecesOf c xs) (sym (content_before told)) (pieces told)

  pub few_before : (xs : List TreeRow) → length (logged_disks (table_alone (g.table a)) xs) ≤ 500 → length (logged_disks (table_alone (g.table b)) xs) ≤ 500
  few_before xs few = subst (λ t. length (logged_disks t xs) ≤ 500) (sym only.stays.table) few

  pub logs_before : (xs : List TreeRow) (ls : List Log) → AreLogsRead g b xs ls → AreLogsRead g a xs ls
  logs_before xs ls k = record {
    read = subst₂ (λ (s : Site) t. AreReadOf t s.geometry.extent (logged_disks t xs) ls) only.stays.site only.stays.table k.read;
    numbered = subst (λ (t : VolumeTable). AreNumbered t.sequence ls) only.stays.table k.numbered;
    few = subst (λ t. length ls ≤ length (logged_disks t xs)) only.stays.table k.few;
    rising = k.rising;
    pass = λ told. subst (λ c. log_fault c ≡ None) (content_before told) (k.pass told);
    are = λ told. k.are told ∙ ap logs (content_before told);
  }

  pub stopped_before : (e : OpenFault) (now : ℕ) → (g.told → first_fault (store_content g a) ≡ None) → IsStoppedBy g.told (log_fault (store_content g b)) (g.faults b) now e
      → IsOpeningStopped g.told (store_content g a) (g.faults a) now e
  stopped_before e now none is = by e is
    where
      by : (e : OpenFault) → IsStoppedBy g.told (log_fault (store_content g b)) (g.faults b) now e → IsOpeningStopped g.told (store_content g a) (g.faults a) now e
      by (fault.Damaged place) is = λ told. last_place (store_content g a) place (none told) (ap log_fault (sym (content_before told)) ∙ is told)
      by fault.Device is = let later = only.stays.faults in omega (arith, is, later)
      by fault.NoMemory is = tt
      by fault.NotARepository is = is
      by (fault.Unsupported version) is = is
