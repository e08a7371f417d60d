-- A line that begins or ends tracking changes logs, and nothing else.
use Rattle.std.proofs.Common.{◌≡◌, ℕ, Bool, true, false, List, Option, Some, None, refl, ap, arith}
use Rattle.std.specs.Prelude.{is_none}
use Rattle.std.specs.Str.{bytes_eq}
use Rattle.common_laws.specs.Lists.{In}
use Rattle.common_laws.proofs.Bytes.{bytes_eq-same}
use Rattle.common_laws.proofs.Lists.{find-some}
use Rattle.sm_base.specs.declared.refusals.Refusal.{Refusal}
use Rattle.sm_machine.specs.declared.commands.Command.TheVariants.{Track}
use Rattle.sm_machine.specs.Shapes.{Shape, DiskRecord, disk_record, risen}
use Rattle.sm_machine.specs.Refusals.{refusal}
use Rattle.sm_machine.specs.Commits.{commits, gives_up, is_given_up, own_commits}
use Rattle.sm_machine.specs.Steps.{State, accepted, disks_next, shape_after, shape_next}
use Rattle.sm_machine.specs.Tracking.{begun, ended, log_commits, logs_after, tracked, tracked_step, tracked_unless, with_logs}
use Rattle.sm_machine.specs.WellFormed.{HasRecord, IsWellFormed}

-- a disk that is known has a record
pub record_known : (s : Shape) (u : List ℕ) → is_none (disk_record u s) ≡ false → HasRecord s u
record_known s u known = by (disk_record u s) refl known
  where
    by : (o : Option DiskRecord) → disk_record u s ≡ o → is_none o ≡ false → HasRecord s u
    by None e h = cc
    by (Some r) e h = let f : In r s.records × (bytes_eq r.uuid u ≡ true) = find-some (λ (q : DiskRecord). bytes_eq q.uuid u) s.records r e in (r, f.0, bytes_eq-same r.uuid u f.1)

-- without what is done to logs the step changes nothing
pub track_next : (s : Shape) (u : List ℕ) (on : Bool) → IsWellFormed s → shape_next s (Track u on) ≡ s
unfolding shape_next is_given_up gives_up shape_after commits own_commits
track_next s u on w = let n : risen s.sequence 0 ≡ s.sequence = omega (arith, w.sequence) in ap (λ (k : ℕ). record s { sequence = k }) n

pub begun_by : (s : Shape) (u : List ℕ) → IsWellFormed s → tracked s (Track u true) (shape_next s (Track u true)) ≡ begun s u
unfolding logs_after log_commits
begun_by s u w = ap (λ (t : Shape). with_logs (logs_after s (Track u true)) 2 t) (track_next s u true w)

pub ended_by : (s : Shape) (u : List ℕ) → IsWellFormed s → tracked s (Track u false) (shape_next s (Track u false)) ≡ ended s u
unfolding logs_after log_commits
ended_by s u w = ap (λ (t : Shape). with_logs (logs_after s (Track u false)) 1 t) (track_next s u false w)

tracks_by : (σ : State) (u : List ℕ) (on : Bool) (t : Shape) (o : Option Refusal) → o ≡ None → tracked σ.shape (Track u on) (shape_next σ.shape (Track u on)) ≡ t
    → (tracked_unless o σ (Track u on)).after ≡ record σ { shape = t }
unfolding accepted disks_next
tracks_by σ u on t None e is = ap (λ (x : Shape). record σ { shape = x }) is
tracks_by σ u on t (Some r) e is = cc

pub begun_step : (σ : State) (u : List ℕ) → IsWellFormed σ.shape → refusal σ.shape (Track u true) ≡ None → (tracked_step σ (Track u true)).after ≡ record σ { shape = begun σ.shape u }
unfolding tracked_step
begun_step σ u w e = tracks_by σ u true (begun σ.shape u) (refusal σ.shape (Track u true)) e (begun_by σ.shape u w)

pub ended_step : (σ : State) (u : List ℕ) → IsWellFormed σ.shape → refusal σ.shape (Track u false) ≡ None → (tracked_step σ (Track u false)).after ≡ record σ { shape = ended σ.shape u }
unfolding tracked_step
ended_step σ u w e = tracks_by σ u false (ended σ.shape u) (refusal σ.shape (Track u false)) e (ended_by σ.shape u w)
