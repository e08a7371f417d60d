use Rattle.std.proofs.Common.{◌≡◌, ℕ, sym, subst, arith}
use Rattle.sm_base.specs.declared.operations.Plan.{Plan}
use Rattle.sm_base.specs.declared.sizes.Geometry.{Geometry}
use Rattle.vg_meta.specs.Roomy.{RoomyTable, table_alone}
use Rattle.vg_volumes.specs.declared.stores.Store.{Ghosts}
use Rattle.sm_machine.specs.Collector.{next_step}
use Rattle.sm_ready.specs.Does.{store_shape}
use Rattle.sm_ready.specs.Known.{known}
use Rattle.sm_ready.specs.Refusing.{Answers}
use Rattle.sm_ready.specs.Sessions.{IsOrderlyStore, IsTidyStore}
use Rattle.sm_ready.specs.declared.memory.Memory.{Memory}
use Rattle.gc_plan.proofs.ImageLaws.{few_rows}
use Rattle.sm_session.proofs.collecting.gc.Goals as goal

-- what was planned by a store's table and sizes is the next step
planned : {S : Type 0} (g : Ghosts S) (a : S) (m : Memory) (sizes : Geometry) (extents : ℕ) (t : RoomyTable) (q : Plan) → sizes ≡ (g.site a).geometry → extents ≡ (g.site a).count → t ≡ g.table a
    → Answers next_step sizes extents (table_alone t) (known m) q → IsOrderlyStore g a m → IsTidyStore g a m → next_step (store_shape g a m) ≡ q
planned g a m sizes extents t q same_sizes same_count same_table exact orderly tidy =
    sym (subst (λ x. Answers next_step sizes extents (table_alone x) (known m) q) same_table exact (g.site a) (record { same_sizes = sym same_sizes; same_count = sym same_count }) orderly tidy)

-- the images are few
pub plan-plan-requires : goal.plan-plan-requires
plan-plan-requires g c =
    let few = few_rows (g.S.Store.site c.args.store.now) (table_alone (g.S.Store.table c.args.store.now)) (known c.args.memory.now) c.requires.session.orderly in
    omega (arith, few, c.requires.children)

pub collect-requires-clause-planned : goal.collect-requires-clause-planned
collect-requires-clause-planned g c =
    planned g.S.Store c.args.store.now c.args.memory.now c.geometry-geometry.result c.extents-extents.result c.table.result.now c.plan-plan.result c.geometry-geometry.ensures c.extents-extents.ensures.count c.table.ensures.table
    c.plan-plan.ensures.exact c.requires.session.orderly c.requires.session.tidy
