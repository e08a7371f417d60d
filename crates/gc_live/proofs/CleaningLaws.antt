-- Dirty blocks are copied one after the other: what holds between two copies, and what each end leaves.
use Rattle.std.proofs.Common.{◌≡◌, ◌∙◌, ℕ, ◌<◌, List, Some, length, sym, ap, subst}
use Rattle.std.proofs.Math.Logic.{∥∥₁_elim}
use Rattle.std.proofs.Props.{props}
use Rattle.sm_base.specs.declared.operations.Plan.TheVariants as plan
use Rattle.vg_meta.specs.Tables.{VolumeTable}
use Rattle.vg_volumes.specs.Stored.{Leaves}
use Rattle.vg_volumes.specs.declared.stores.Store.{Ghosts}
use Rattle.sm_machine.specs.Collector.{copied, next_step}
use Rattle.sm_machine.specs.Disks.{Disk}
use Rattle.sm_machine.specs.Operations.{advanced}
use Rattle.sm_operation.specs.Kept.{dirty_in, least}
use Rattle.sm_standing.specs.Standing.{disks}
use Rattle.sm_ready.specs.Does.{store_shape}
use Rattle.sm_ready.specs.Done.{HasDone}
use Rattle.sm_ready.specs.Framing.{IsBetweenSteps, StepsOn}
use Rattle.sm_ready.specs.Known.{Known, known, shape_in}
use Rattle.sm_ready.specs.Ready.{IsReady}
use Rattle.sm_ready.specs.Sessions.{IsReadyStore}
use Rattle.sm_ready.specs.Stores.{MayShow, StoreLeaves, content_in, store_content}
use Rattle.sm_ready.specs.declared.memory.Memory.{Memory}
use Rattle.sm_ready.proofs.ChainLaws.{tab}
use Rattle.sm_ready.proofs.FramingLaws.{then_steps}
use Rattle.sm_ready.proofs.TakenLaws.{IsTold, is_told}
use Rattle.gc_coalesce.proofs.BeginSteps.{both_done, both_still}
use Rattle.gc_coalesce.proofs.LinkEnds.{LeavesNow}
use Rattle.gc_live.specs.Cleaning.{IsCleaned, clean_op, cleaned}
use Rattle.gc_live.proofs.CleanedShapes.{clean_more, cleaned_more, fewer_dirty}

-- what is done where a call succeeded
pub now_done : {S : Type 0} (g : Ghosts S) (a b : S) {n : Known} {ok : Type 0} {ds : List Disk} → ok → HasDone (g.site a) (tab g a) (tab g b) (g.area a) (g.area b) n (StoreLeaves g a) (StoreLeaves g b) ok ds
    → HasDone (g.site a) (tab g a) (tab g b) (g.area a) (g.area b) n (StoreLeaves g a) (StoreLeaves g b) (Unit {0}) ds
now_done g a b fine d = record { ready = λ _. d.ready fine; settled = λ _. d.settled fine; shown = λ _. d.shown fine; crash = d.crash; logged = d.logged }

-- and where there is nothing that could fail
pub any_done : {S : Type 0} (g : Ghosts S) (a b : S) {n : Known} {ds : List Disk} (ok : Type 0) → HasDone (g.site a) (tab g a) (tab g b) (g.area a) (g.area b) n (StoreLeaves g a) (StoreLeaves g b) (Unit {0}) ds
    → HasDone (g.site a) (tab g a) (tab g b) (g.area a) (g.area b) n (StoreLeaves g a) (StoreLeaves g b) ok ds
any_done g a b ok d = record { ready = λ _. d.ready tt; settled = λ _. d.settled tt; shown = λ _. d.shown tt; crash = d.crash; logged = d.logged }

-- ---- a dirty block is copied

module _ {S : Type 0} {g : Ghosts S} {b : S} {n : Memory} (session : IsBetweenSteps g b n) (block : ℕ) (first : least (dirty_in n.operation) ≡ Some block) where
  -- fewer are left
  pub dirty_less : length (dirty_in (advanced block n.operation)) < length (dirty_in n.operation)
  unfolding shape_in
  dirty_less = ∥∥₁_elim session.orderly.well_formed (hlevel props) (λ x. fewer_dirty (store_shape g b n) block x first)

  module _ (d : S) (k : Memory) (is : k.operation ≡ advanced block n.operation) where
    shape_more : store_shape g d k ≡ copied n.operation block (store_shape g b n) → cleaned k.operation (store_shape g d k) ≡ cleaned n.operation (store_shape g b n)
    unfolding shape_in
    shape_more w = ∥∥₁_elim session.orderly.well_formed (hlevel props) (λ x. cleaned_more (store_shape g b n) (store_shape g d k) block x first w)

    operation_more : clean_op k.operation ≡ clean_op n.operation
    unfolding shape_in
    operation_more = ap clean_op is ∙ ∥∥₁_elim session.orderly.well_formed (hlevel props) (λ x. clean_more (store_shape g b n) block x first)

    -- the first of them
    pub cleaned_once : StepsOn g 0 b d → g.faults d ≡ g.faults b → IsBetweenSteps g d k → length k.tree.rows ≡ length n.tree.rows → k.records ≡ n.records → k.logs ≡ n.logs → k.attached ≡ n.attached
        → (next_step (store_shape g b n) ≡ plan.Swap → next_step (store_shape g d k) ≡ plan.Swap)
        → (g.told → IsReadyStore g b n → store_shape g d k ≡ copied n.operation block (store_shape g b n))
        → (g.told → IsReadyStore g b n → HasDone (g.site b) (tab g b) (tab g d) (g.area b) (g.area d) (known k) (StoreLeaves g b) (StoreLeaves g d) (Unit {0}) (disks (store_content g b)))
        → (g.told → IsReadyStore g b n → Leaves g d (λ t image. MayShow (g.site b) (StoreLeaves g b) (disks (content_in (g.site b) t image)))) → IsCleaned g b n d k
    cleaned_once step calm between images records logs attached next shape done still = record {
      step = step;
      calm = calm;
      session = between;
      images = images;
      records = records;
      logs = logs;
      attached = attached;
      operation = operation_more;
      next = next;
      shape = λ told ready. shape_more (shape told ready);
      done = done;
      still = still;
    }

-- ---- and what comes behind the copies

module _ {S : Type 0} {g : Ghosts S} (now : LeavesNow g) {a : S} {m : Memory} (i : IsBetweenSteps g a m) where
  pub told_at : g.told → IsReadyStore g a m → IsTold g a m
  told_at told ready = is_told g a m i.orderly i.usable told ready (now a told i.usable)

  module _ {b : S} {n : Memory} (c : IsCleaned g a m b n) where
    pub ready_then : g.told → IsReadyStore g a m → IsReadyStore g b n
    ready_then told ready = subst (λ s. IsReady s (tab g b) (g.area b) (known n)) (sym c.step.site) ((c.done told ready).ready tt)

    told_then : g.told → IsReadyStore g a m → IsTold g b n
    told_then told ready = is_told g b n c.session.orderly c.session.usable told (ready_then told ready) (now b told c.session.usable)

    -- what a call did behind them
    pub done_then : {d : S} (k : Known) (ok : Type 0) → g.told → IsReadyStore g a m
        → (IsReadyStore g b n → HasDone (g.site b) (tab g b) (tab g d) (g.area b) (g.area d) k (StoreLeaves g b) (StoreLeaves g d) ok (disks (store_content g b)))
        → HasDone (g.site a) (tab g a) (tab g d) (g.area a) (g.area d) k (StoreLeaves g a) (StoreLeaves g d) ok (disks (store_content g a))
    done_then {d} k ok told ready second =
        both_done n (told_at told ready) c.step.site c.session.orderly c.session.usable (now b told c.session.usable) (c.done told ready) tt k ok second

    -- and whatever a stop leaves of it
    pub still_then : {d : S} → g.told → IsReadyStore g a m → (IsReadyStore g b n → Leaves g d (λ t image. MayShow (g.site b) (StoreLeaves g b) (disks (content_in (g.site b) t image))))
        → (t : VolumeTable) (image : ℕ → List ℕ) → g.leaves d t image → MayShow (g.site a) (StoreLeaves g a) (disks (content_in (g.site a) t image))
    still_then told ready second =
        both_still n (told_at told ready) c.step.site c.session.orderly c.session.usable (now b told c.session.usable) (c.done told ready) tt second

    -- another dirty block was copied
    pub cleaned_next : (block : ℕ) → least (dirty_in n.operation) ≡ Some block → (d : S) (k : Memory) → k.operation ≡ advanced block n.operation
        → StepsOn g 0 b d → g.faults d ≡ g.faults b → IsBetweenSteps g d k → length k.tree.rows ≡ length n.tree.rows → k.records ≡ n.records → k.logs ≡ n.logs → k.attached ≡ n.attached
        → (next_step (store_shape g b n) ≡ plan.Swap → next_step (store_shape g d k) ≡ plan.Swap)
        → (g.told → IsReadyStore g b n → store_shape g d k ≡ copied n.operation block (store_shape g b n))
        → (g.told → IsReadyStore g b n → HasDone (g.site b) (tab g b) (tab g d) (g.area b) (g.area d) (known k) (StoreLeaves g b) (StoreLeaves g d) (Unit {0}) (disks (store_content g b)))
        → (g.told → IsReadyStore g b n → Leaves g d (λ t image. MayShow (g.site b) (StoreLeaves g b) (disks (content_in (g.site b) t image)))) → IsCleaned g a m d k
    cleaned_next block first d k is step calm between images records logs attached next shape done still =
        let one = cleaned_once c.session block first d k is step calm between images records logs attached next shape done still in
        record {
          step = then_steps c.step step;
          calm = calm ∙ c.calm;
          session = between;
          images = images ∙ c.images;
          records = records ∙ c.records;
          logs = logs ∙ c.logs;
          attached = attached ∙ c.attached;
          operation = one.operation ∙ c.operation;
          next = λ planned. next (c.next planned);
          shape = λ told ready. one.shape told (ready_then told ready) ∙ c.shape told ready;
          done = λ told ready. done_then (known k) (Unit {0}) told ready (λ made. done told made);
          still = λ told ready again t image l. still_then told ready (λ made. still told made) t image l;
        }
