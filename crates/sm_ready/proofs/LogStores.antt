-- The logs of a store, through the calls that a command makes of it: they stay through each that speaks of no log, and whatever a
-- stop leaves has them.
use Rattle.std.proofs.Common.{◌≡◌, ◌≢◌, ℕ, List, sym, subst, subst₂, arith}
use Rattle.sm_base.specs.declared.names.Name.{Name}
use Rattle.sm_base.specs.declared.names.Name.TheVariants.{Cbt}
use Rattle.sm_disk.specs.Held.{Held, Keeps, reads}
use Rattle.sm_log.specs.Logs.{Log}
use Rattle.sm_standing.specs.Logs.{IsLogged}
use Rattle.vg_meta.specs.Changes.{Permits, SpeaksOf, applied}
use Rattle.vg_meta.specs.Tables.{IsTable, VolumeTable, extents_of, rows}
use Rattle.vg_meta.specs.declared.changes.Change.{Change}
use Rattle.vg_meta.proofs.ByName.{changes_by_name}
use Rattle.vg_meta.proofs.ChangeLaws.{IsTable-applied}
use Rattle.vg_volumes.specs.Sites.{volume_of}
use Rattle.vg_volumes.specs.Stored.{Commits, FailsToCommit, IsChoiceOf, IsEitherOf, OnlyReads, Stays, WorksOn, Writes, stored}
use Rattle.vg_volumes.specs.declared.stores.Store.{Ghosts}
use Rattle.vg_volumes.proofs.VolumeLaws.{Keeps-volume, KeepsElsewhere-same}
use Rattle.sm_ready.specs.Known.{known}
use Rattle.sm_ready.specs.Stores.{StoreLeaves, content_in}
use Rattle.sm_ready.specs.declared.memory.Memory.{Memory}
use Rattle.sm_ready.proofs.AfterLaws.{other_keeps}
use Rattle.sm_ready.proofs.ChainLaws.{tab}
use Rattle.sm_ready.proofs.CommitLaws.{rested, volume_rested}
use Rattle.sm_ready.proofs.LeaveLaws.{left_choice}
use Rattle.sm_ready.proofs.LogLaws.{HoldsLogs, holds_commit, holds_keeps, holds_ready, logged_before, logged_either}
use Rattle.sm_ready.proofs.TakenLaws.{IsTold, held_same}

-- a change that speaks of no log
abbrev pub SpeaksOfNoLog : Change → Type 0
SpeaksOfNoLog change = (u : List ℕ) → SpeaksOf change (Cbt u) → ⊥

-- keeps the rows of logs
pub log_rows_stay : {count : ℕ} {t : VolumeTable} (change : Change) → IsTable count t → Permits count t change → SpeaksOfNoLog change → (u : List ℕ) → rows (applied t change) (Cbt u) ≡ rows t (Cbt u)
log_rows_stay {count} {t} change table permits none u = (changes_by_name count t change table permits).others (Cbt u) (none u)

-- a store has these logs
abbrev pub HasLogs : {S : Type 0} → Ghosts S → S → List Log → Type 0
HasLogs g a ls = HoldsLogs (g.site a) (tab g a) (g.area a) ls

-- those of memory, where a command is taken
pub logs_told : {S : Type 0} {g : Ghosts S} {a : S} {m : Memory} → IsTold g a m → HasLogs g a (known m).logs
logs_told {g = g} {a} {m} h = holds_ready (g.site a) (tab g a) (g.area a) (known m) h.orderly h.ready

module _ {S : Type 0} {g : Ghosts S} {ls : List Log} {a b : S} where
  -- ---- through a call

  pub logs_stay : Stays g a b → ((u : List ℕ) → Keeps (volume_of (g.site a) (tab g a) (g.area a) (Cbt u)) (volume_of (g.site a) (tab g a) (g.area b) (Cbt u))) → HasLogs g a ls → HasLogs g b ls
  logs_stay stays keeps h = subst₂ (λ s t. HoldsLogs s t (g.area b) ls) (sym stays.site) (sym stays.table) (holds_keeps h (g.area b) keeps)

  -- a call that only read
  pub logs_read : OnlyReads g a b → g.told → HasLogs g a ls → HasLogs g b ls
  logs_read read told h =
      subst₂ (λ s t. HoldsLogs s t (g.area b) ls) (sym read.stays.site) (sym read.stays.table) (subst (λ x. HoldsLogs (g.site a) (tab g a) x ls) (sym (held_same (g.area a) (g.area b) (read.held told))) h)

  -- work on another volume
  pub logs_work : {n : Name} → WorksOn g n a b → g.told → IsTable (g.site a).count (tab g a) → ((u : List ℕ) → Cbt u ≢ n) → HasLogs g a ls → HasLogs g b ls
  logs_work {n} work told table apart =
      logs_stay work.stays (λ u. other_keeps (g.site a) (tab g a) (g.area a) (g.area b) n (Cbt u) table (omega (arith, (g.site a).geometry.in_range.extent_least)) (work.elsewhere told) (apart u))

  -- a write to another volume
  pub logs_write : {n : Name} {Did : Held → Held → Type 0} → Writes g n Did a b → g.told → IsTable (g.site a).count (tab g a) → ((u : List ℕ) → Cbt u ≢ n) → HasLogs g a ls → HasLogs g b ls
  logs_write {n} write told table apart =
      logs_stay write.stays (λ u. other_keeps (g.site a) (tab g a) (g.area a) (g.area b) n (Cbt u) table (omega (arith, (g.site a).geometry.in_range.extent_least)) (KeepsElsewhere-same (write.beside told)) (apart u))

  -- a sync, failed or not
  pub logs_sync : Stays g a b → Keeps (g.area a) (g.area b) → HasLogs g a ls → HasLogs g b ls
  logs_sync stays keeps = logs_stay stays (λ u. Keeps-volume (g.site a).geometry.extent (extents_of (rows (tab g a) (Cbt u))) keeps)

  -- a commit
  pub logs_commit : (change : Change) → Commits g change a b → g.told → IsTable (g.site a).count (tab g a) → Permits (g.site a).count (tab g a) change → SpeaksOfNoLog change → HasLogs g a ls → HasLogs g b ls
  logs_commit change commit told table permits none h =
      let next = applied (tab g a) change in
      subst₂ (λ s t. HoldsLogs s t (g.area b) ls) (sym commit.site) (sym commit.table)
      (subst (λ x. HoldsLogs (g.site a) next x ls) (sym (rested (g.area a) (g.area b) (commit.keeps told) (commit.settled told)))
      (holds_commit h next (IsTable-applied (g.site a).count (tab g a) change table permits) (log_rows_stay change table permits none) (λ u. volume_rested (g.site a) next (reads (g.area a)) (Cbt u))))

  -- and one that failed
  pub logs_failed : FailsToCommit g a b → g.told → HasLogs g a ls → HasLogs g b ls
  logs_failed fails told h =
      subst₂ (λ s t. HoldsLogs s t (g.area b) ls) (sym fails.site) (sym fails.table)
      (holds_keeps h (g.area b) (λ u. Keeps-volume (g.site a).geometry.extent (extents_of (rows (tab g a) (Cbt u))) (fails.keeps told)))

module _ {S : Type 0} (g : Ghosts S) (a : S) {ls : List Log} (h : HasLogs g a ls) (table : IsTable (g.site a).count (tab g a)) where
  -- ---- what a stop leaves

  -- while the table stands
  pub logs_choice : (v : VolumeTable) (image : ℕ → List ℕ) → IsChoiceOf (stored g a) v image → IsLogged (content_in (g.site a) v image) ls
  logs_choice v image stop = logged_before h table v image stop

  pub logs_stop : ((v : VolumeTable) (image : ℕ → List ℕ) → g.leaves a v image → IsChoiceOf (stored g a) v image) → (v : VolumeTable) (image : ℕ → List ℕ) → StoreLeaves g a v image → IsLogged (content_in (g.site a) v image) ls
  logs_stop now v image l = logs_choice v image (left_choice g.told (g.site a) (tab g a) (g.area a) (g.leaves a) (g.failed a) now v image l)

  -- and of a commit
  pub logs_either : (change : Change) → Permits (g.site a).count (tab g a) change → SpeaksOfNoLog change → (v : VolumeTable) (image : ℕ → List ℕ) → IsEitherOf (stored g a) change v image
      → IsLogged (content_in (g.site a) v image) ls
  logs_either change permits none v image either =
      let next = applied (tab g a) change in
      logged_either h (holds_commit h next (IsTable-applied (g.site a).count (tab g a) change table permits) (log_rows_stay change table permits none) (λ u. volume_rested (g.site a) next (reads (g.area a)) (Cbt u))) table
      (IsTable-applied (g.site a).count (tab g a) change table permits) v image either
