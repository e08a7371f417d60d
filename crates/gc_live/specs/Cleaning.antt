-- What is left once each dirty block of an attached disk's leaf was copied into its parent (this project's format).
use Rattle.std.specs.Prelude.{◌≡◌, [], length}
use Rattle.sm_base.specs.declared.operations.Plan.TheVariants as plan
use Rattle.vg_meta.specs.Roomy.{table_alone}
use Rattle.vg_volumes.specs.Stored.{Leaves}
use Rattle.vg_volumes.specs.declared.stores.Store.{Ghosts}
use Rattle.sm_machine.specs.Collector.{given_blocks, next_step}
use Rattle.sm_machine.specs.Operations.{Op}
use Rattle.sm_machine.specs.Operations as op
use Rattle.sm_machine.specs.Shapes.{Shape, on_image}
use Rattle.sm_standing.specs.Standing.{disks}
use Rattle.sm_ready.specs.Does.{store_shape}
use Rattle.sm_ready.specs.Done.{HasDone}
use Rattle.sm_ready.specs.Framing.{IsBetweenSteps, StepsOn}
use Rattle.sm_ready.specs.Known.{known}
use Rattle.sm_ready.specs.Sessions.{IsReadyStore}
use Rattle.sm_ready.specs.Stores.{MayShow, StoreLeaves, content_in, store_content}
use Rattle.sm_ready.specs.declared.memory.Memory.{Memory}

-- the operation with no dirty block
abbrev pub clean_op : Op → Op
clean_op op.Idle = op.Idle
clean_op (op.Copy v p cursor) = op.Copy v p cursor
clean_op (op.Relink v p) = op.Relink v p
clean_op (op.Leaf l p cursor) = op.Leaf l p cursor
clean_op (op.Live l p cursor dirty) = op.Live l p cursor []

-- the shape once the parent has each dirty block, in their order
abbrev pub cleaned : Op → Shape → Shape
cleaned op.Idle s = s
cleaned (op.Copy v p cursor) s = s
cleaned (op.Relink v p) s = s
cleaned (op.Leaf l p cursor) s = s
cleaned (op.Live l p cursor dirty) s = record s { images = on_image p (given_blocks dirty) s.images; op = op.Live l p cursor [] }

-- Some of the dirty blocks were copied, and no commit was made: the shape will be the same once all are, all lasts, the disks are those
-- from before, and whatever a stop leaves shows the disks of an image that it might leave before.
pub record IsCleaned {S : Type 0} (g : Ghosts S) (a : S) (m : Memory) (b : S) (n : Memory) : Type 0 where
  pub step : StepsOn g 0 a b
  pub calm : g.faults b ≡ g.faults a
  pub session : IsBetweenSteps g b n
  pub images : length n.tree.rows ≡ length m.tree.rows
  pub records : n.records ≡ m.records
  pub logs : n.logs ≡ m.logs
  pub attached : n.attached ≡ m.attached
  pub operation : clean_op n.operation ≡ clean_op m.operation
  pub next : next_step (store_shape g a m) ≡ plan.Swap → next_step (store_shape g b n) ≡ plan.Swap
  pub shape : g.told → IsReadyStore g a m → cleaned n.operation (store_shape g b n) ≡ cleaned m.operation (store_shape g a m)
  pub done : g.told → IsReadyStore g a m
      → HasDone (g.site a) (table_alone (g.table a)) (table_alone (g.table b)) (g.area a) (g.area b) (known n) (StoreLeaves g a) (StoreLeaves g b) (Unit {0}) (disks (store_content g a))
  pub still : g.told → IsReadyStore g a m → Leaves g b (λ t image. MayShow (g.site a) (StoreLeaves g a) (disks (content_in (g.site a) t image)))
