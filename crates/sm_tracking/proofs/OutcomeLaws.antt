-- What the beginning of tracking did, by how the making of the log ended.
use Rattle.std.proofs.Common.{◌≡◌, ◌⊎◌, inl, inr, ⊎_elim, ℕ, ◌<◌, false, List, None, Result, OnOk, Ok, Err, refl, sym, ap, ◌∙◌, subst, arith}
use Rattle.sm_base.specs.declared.faults.CallFault.{CallFault}
use Rattle.sm_base.specs.declared.faults.CallFault.TheVariants as fault
use Rattle.sm_cbt.specs.Making.{FailsToMake, IsMaking, Makes}
use Rattle.sm_disk.specs.Held.{IsSettled}
use Rattle.sm_log.specs.Logs.{Log, with_log}
use Rattle.sm_machine.specs.Shapes.{Shape}
use Rattle.sm_machine.specs.Tracking.{with_logs}
use Rattle.sm_standing.specs.Logs.{IsLogOf}
use Rattle.vg_extents.specs.Fits.{AreLeastFree}
use Rattle.vg_meta.specs.Tables.{VolumeTable}
use Rattle.vg_volumes.specs.Stored.{IsChoiceOf, Leaves, OnlyReads, stored}
use Rattle.vg_volumes.specs.declared.stores.Store.{Ghosts}
use Rattle.sm_ready.proofs.ChainLaws.{err_not_ok, tab}
use Rattle.sm_ready.proofs.FramingLaws.{more_steps, stays_now}
use Rattle.sm_ready.proofs.TakenLaws.{IsTold}
use Rattle.sm_ready.specs.Does.{store_shape}
use Rattle.sm_ready.specs.Framing.{IsBetweenSteps, StepsOn}
use Rattle.sm_ready.specs.Known.{known}
use Rattle.sm_ready.specs.Stores.{StoreLeaves, content_in}
use Rattle.sm_ready.specs.declared.memory.Memory.{Memory}
use Rattle.sm_tracking.proofs.BetweenLaws.{made_between, made_shape, making_steps}
use Rattle.sm_tracking.proofs.MadeLaws.{IsToLog}
use Rattle.sm_tracking.proofs.OrderLaws.{with_memory}
use Rattle.sm_tracking.proofs.BeginStops.{fails_numbered, fails_tracked, makes_numbered, makes_tracked, reads_tracked, reads_unlogged}
use Rattle.sm_tracking.specs.Tracking.{HasChangedLogs, IsLogOnLeast}

-- memory that has these logs, in place of its own
swapped : (m : Memory) (ls ms : List Log) → ls ≡ ms → with_memory ls m ≡ with_memory ms m
swapped m ls ms e = ap (λ (x : List Log). with_memory x m) e

module _ {S : Type 0} (g : Ghosts S) (a b : S) (l : Log) (es : List ℕ) where
  -- nothing is pending where the log was made
  pub outcome_lasting : (r : Result (Unit {0}) CallFault) → OnOk r (Makes g l es a b) → OnOk r (g.told → IsSettled (g.area b))
  outcome_lasting (Ok v) k = k.settled
  outcome_lasting (Err f) k = tt

  -- it lies on the extents that were given
  pub outcome_least : (r : Result (Unit {0}) CallFault) (n : ℕ) → AreLeastFree (g.site a).count n (tab g a) es → OnOk r (Makes g l es a b) → OnOk r (IsLogOnLeast (g.site a) (tab g a) l.disk n (tab g b))
  outcome_least (Ok v) n least k = record { extents = es; least = least; made = k.table }
  outcome_least (Err f) n least k = tt

module _ {S : Type 0} (g : Ghosts S) (a b : S) (m : Memory) (l : Log) (es : List ℕ) (new : List Log) (x : IsToLog (g.site a) (tab g a) (known m) l es) where
  pub outcome_memory : (r : Result (Unit {0}) CallFault) (ls : List Log) → with_log l m.logs ≡ ls → OnOk r (new ≡ with_log l m.logs) → OnOk r (with_memory new m ≡ with_memory ls m)
  outcome_memory (Ok v) ls is e = swapped m new ls (e ∙ is)
  outcome_memory (Err f) ls is e = tt

  pub outcome_between : (r : Result (Unit {0}) CallFault) → IsBetweenSteps g a m → OnOk r (Makes g l es a b) → OnOk r (new ≡ with_log l m.logs) → OnOk r (IsBetweenSteps g b (with_memory new m))
  outcome_between (Ok v) i k e = subst (IsBetweenSteps g b) (sym (swapped m new (with_log l m.logs) e)) (made_between m x k i)
  outcome_between (Err f) i k e = tt

  pub outcome_shape : (r : Result (Unit {0}) CallFault) (to : Shape) → with_logs (with_log l m.logs) 2 (store_shape g a m) ≡ to → OnOk r (Makes g l es a b) → OnOk r (new ≡ with_log l m.logs) → OnOk r (store_shape g b (with_memory new m) ≡ to)
  outcome_shape (Ok v) to is k e = ap (store_shape g b) (swapped m new (with_log l m.logs) e) ∙ made_shape m x k ∙ is
  outcome_shape (Err f) to is k e = tt

  pub outcome_steps : (r : Result (Unit {0}) CallFault) → ((s : S) → g.told → g.failed s ≡ false → (t : VolumeTable) (image : ℕ → List ℕ) → g.leaves s t image → IsChoiceOf (stored g s) t image) → g.failed a ≡ false
      → OnOk r (Makes g l es a b) → (r ≡ Err fault.Device → FailsToMake g l es a b) → (r ≡ Err fault.NoMemory → OnlyReads g a b) → Leaves g b (IsMaking (stored g a) l es) → StepsOn g 2 a b
  outcome_steps (Ok v) now usable k fails poor says = making_steps g a b l es k.writes (inr (inr k.table)) says
  outcome_steps (Err fault.Device) now usable k fails poor says = let f = fails refl in making_steps g a b l es f.writes (⊎_elim (λ e. inl e) (λ e. inr (inl e)) f.table) says
  outcome_steps (Err fault.NoMemory) now usable k fails poor says = more_steps (omega arith) (stays_now now usable (poor refl).stays)

  pub outcome_tracked : (r : Result (Unit {0}) CallFault) (ls : List Log) → with_log l m.logs ≡ ls → IsTold g a m → OnOk r (Makes g l es a b) → OnOk r (new ≡ with_log l m.logs) → (r ≡ Err fault.Device → FailsToMake g l es a b)
      → (r ≡ Err fault.NoMemory → OnlyReads g a b) → (r ≡ Err fault.NoMemory → (t : VolumeTable) (image : ℕ → List ℕ) → g.leaves b t image → g.leaves a t image) → Leaves g b (IsMaking (stored g a) l es)
      → HasChangedLogs g a m b (with_memory new m) ls (r ≡ Ok tt)
  outcome_tracked r ls is h k e fails poor fewer says = subst (λ (ms : List Log). HasChangedLogs g a m b (with_memory new m) ms (r ≡ Ok tt)) is (by r k e fails poor fewer)
    where
      by : (r : Result (Unit {0}) CallFault) → OnOk r (Makes g l es a b) → OnOk r (new ≡ with_log l m.logs) → (r ≡ Err fault.Device → FailsToMake g l es a b) → (r ≡ Err fault.NoMemory → OnlyReads g a b)
          → (r ≡ Err fault.NoMemory → (t : VolumeTable) (image : ℕ → List ℕ) → g.leaves b t image → g.leaves a t image) → HasChangedLogs g a m b (with_memory new m) (with_log l m.logs) (r ≡ Ok tt)
      by (Ok v) k e fails poor fewer = makes_tracked h x k (with_memory new m) (Ok v ≡ Ok tt) (ap (λ (y : Memory). known y) (swapped m new (with_log l m.logs) e)) (says h.told)
      by (Err fault.Device) k e fails poor fewer = fails_tracked h x (with_memory new m) (Err fault.Device ≡ Ok tt) (err_not_ok (Err fault.Device) tt refl) (says h.told) (fails refl)
      by (Err fault.NoMemory) k e fails poor fewer = reads_tracked h (with_memory new m) (Err fault.NoMemory ≡ Ok tt) (with_log l m.logs) (err_not_ok (Err fault.NoMemory) tt refl) (poor refl) (fewer refl)

  -- a stop leaves no log of the disk, or a table with a number above 0
  pub outcome_numbered : (r : Result (Unit {0}) CallFault) → IsTold g a m → OnOk r (Makes g l es a b) → (r ≡ Err fault.Device → FailsToMake g l es a b) → (r ≡ Err fault.NoMemory → OnlyReads g a b)
      → (r ≡ Err fault.NoMemory → (t : VolumeTable) (image : ℕ → List ℕ) → g.leaves b t image → g.leaves a t image) → Leaves g b (IsMaking (stored g a) l es)
      → (v : VolumeTable) (image : ℕ → List ℕ) → StoreLeaves g b v image → IsLogOf (content_in (g.site a) v image) l.disk None ⊎ (0 < v.sequence)
  outcome_numbered (Ok z) h k fails poor fewer says v image left = makes_numbered h x k (says h.told) v image left
  outcome_numbered (Err fault.Device) h k fails poor fewer says v image left = fails_numbered h x (says h.told) (fails refl) v image left
  outcome_numbered (Err fault.NoMemory) h k fails poor fewer says v image left = inl (reads_unlogged h l.disk x.absent (poor refl) (fewer refl) v image left)
