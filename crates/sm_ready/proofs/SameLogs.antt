-- The logs of one content stand in another: behind commits of other volumes, behind writes to other volumes, and in whatever a stop leaves.
use Rattle.std.proofs.Common.{◌≡◌, ◌^◌, ◌<◌, ◌≤◌, ℕ, List, refl, sym, ap, ◌∙◌, arith}
use Rattle.sm_base.specs.declared.names.Name.TheVariants.{Cbt}
use Rattle.sm_disk.specs.Held.{Held, Keeps, reads}
use Rattle.sm_log.specs.Logs.{Log, log_of}
use Rattle.sm_standing.specs.Contents.{Content, row}
use Rattle.sm_standing.specs.LogChecks.{HasLogsOf}
use Rattle.sm_standing.specs.Logs.{IsLogged, log_at}
use Rattle.vg_meta.specs.Changes.{applied, raised}
use Rattle.vg_meta.specs.Tables.{IsTable, VolumeTable, rows}
use Rattle.vg_meta.specs.declared.changes.Change.{Change}
use Rattle.vg_volumes.specs.Sites.{Site, volume_of}
use Rattle.sm_ready.specs.Done.{at_rest}
use Rattle.sm_ready.specs.Stores.{content_in, content_now}
use Rattle.sm_ready.proofs.CommitLaws.{volume_rested}
use Rattle.sm_ready.proofs.LeftLaws.{IsLeft}
use Rattle.sm_ready.proofs.LogLaws.{HoldsLogs, holds_commit, holds_keeps, logged_left}

-- ---- one after another

pub same_logs_none : (c : Content) → HasLogsOf c c
same_logs_none c = record { volumes = λ u. refl; logs = λ u. refl; sequence = omega arith }

pub same_logs_then : {a b c : Content} → HasLogsOf a b → HasLogsOf b c → HasLogsOf a c
same_logs_then p q = record {
  volumes = λ u. q.volumes u ∙ p.volumes u;
  logs = λ u. q.logs u ∙ p.logs u;
  sequence = omega (arith, p.sequence, q.sequence);
}

-- what a read of them gives
pub read_of : (c : Content) (ls : List Log) → IsLogged c ls → (u : List ℕ) → log_at c u ≡ log_of u ls
read_of c ls logged u = (logged u).read

pub same_logged : {c d : Content} {ls ms : List Log} → IsLogged c ls → IsLogged d ms → ms ≡ ls → ((u : List ℕ) → row d (Cbt u) ≡ row c (Cbt u)) → c.table.sequence ≤ d.table.sequence → HasLogsOf c d
same_logged {c} {d} {ls} {ms} had has same volumes no_lower = record { volumes = volumes; logs = λ u. read_of d ms has u ∙ ap (log_of u) same ∙ sym (read_of c ls had u); sequence = no_lower }

-- a commit raises the number, or keeps it
pub raised_same : {count : ℕ} {t : VolumeTable} (change : Change) → IsTable count t → t.sequence ≤ (applied t change).sequence
raised_same {count} {t} change table = no_less t.sequence table.sequence
  where
    no_less : (k : ℕ) → k < 2 ^ 48 → k ≤ raised k
    no_less k h = omega (arith, h)

-- ---- those that a table and an area have

module _ {s : Site} {t : VolumeTable} {area : Held} {ls : List Log} (h : HoldsLogs s t area ls) where
  -- stand where a read of another table and of other sectors gives the same
  pub same_logs_read : (v : VolumeTable) (image : ℕ → List ℕ) → ((u : List ℕ) → rows v (Cbt u) ≡ rows t (Cbt u)) → t.sequence ≤ v.sequence → IsLogged (content_in s v image) ls
      → HasLogsOf (content_now s t area) (content_in s v image)
  same_logs_read v image same no_lower logged = same_logged {ls = ls} {ms = ls} h.logs logged refl same no_lower

  -- and in what a stop leaves, while the table stands
  pub same_logs_left : IsTable s.count t → (image : ℕ → List ℕ) → IsLeft s area image → HasLogsOf (content_now s t area) (content_in s t image)
  same_logs_left table image left = same_logs_read t image (λ u. refl) (omega arith) (logged_left h table image left)

  -- behind a commit that keeps their volumes
  pub same_logs_commit : (v : VolumeTable) → IsTable s.count v → ((u : List ℕ) → rows v (Cbt u) ≡ rows t (Cbt u)) → t.sequence ≤ v.sequence → HasLogsOf (content_now s t area) (content_now s v (at_rest (reads area)))
  same_logs_commit v table same no_lower = same_logs_read v (reads area) same no_lower (holds_commit h v table same (λ u. volume_rested s v (reads area) (Cbt u))).logs

  -- and where their volumes keep what they hold
  pub same_logs_keep : (new : Held) → ((u : List ℕ) → Keeps (volume_of s t area (Cbt u)) (volume_of s t new (Cbt u))) → HasLogsOf (content_now s t area) (content_now s t new)
  same_logs_keep new keeps = same_logs_read t (reads new) (λ u. refl) (omega arith) (holds_keeps h new keeps).logs
