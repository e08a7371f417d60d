use Rattle.std.proofs.Common.{◌≡◌, List, refl, ap, ap₂, ◌∙◌, subst}
use Rattle.std.specs.Result.{IsOk}
use Rattle.vg_meta.specs.Roomy.{table_alone}
use Rattle.vg_volumes.proofs.StoredLaws.{stays_from, stays_then}
use Rattle.sm_machine.specs.Disks.{Disk}
use Rattle.sm_machine.specs.Steps.{disks_next}
use Rattle.sm_machine.specs.declared.commands.Command.TheVariants as command
use Rattle.sm_standing.specs.Standing.{disks}
use Rattle.sm_ready.specs.Does.{store_shape}
use Rattle.sm_ready.specs.Done.{HasDone}
use Rattle.sm_ready.specs.Known.{known, shape_in}
use Rattle.sm_ready.specs.Stores.{StoreLeaves, store_content}
use Rattle.sm_ready.proofs.SyncLaws.{IsSynced, behind_content, behind_sync, synced_failed, told_behind}
use Rattle.sm_ready.proofs.TakenLaws.{is_told}
use Rattle.sm_space.proofs.ResizedLaws.{never_ok}
use Rattle.sm_space.proofs.SyncedLaws.{between_synced}
use Rattle.sm_space.proofs.resizing.make_larger.Goals as goal

pub returns-in_err-sync-clause-stays : goal.returns-in_err-sync-clause-stays
returns-in_err-sync-clause-stays g c = let e = c.sync.ensures in stays_from {g = g.S.Store} e.site e.table e.no_less e.counts e.beside

-- the sync failed
pub returns-in_err-sync-clause-done : goal.returns-in_err-sync-clause-done
returns-in_err-sync-clause-done g c = λ told ready.
    synced_failed
    (is_told g.S.Store c.args.store.now c.args.memory.now c.requires.session.orderly c.requires.session.usable told ready (g.met.S.Store.leaves_now c.args.store.now told c.requires.session.usable))
    (record { site = c.sync.ensures.site; table = c.sync.ensures.table.0; failed = c.sync.ensures.table.1; keeps = c.sync.ensures.keeps told; leaves = c.sync.ensures.leaves told })
    _ _ _ (λ fine. never_ok _ c.from_residual.ensures.0 fine) refl

pub set_sizes-requires-clause-session : goal.set_sizes-requires-clause-session
set_sizes-requires-clause-session g c =
    let e = c.sync.ensures in between_synced c.args.memory.now (stays_from {g = g.S.Store} e.site e.table e.no_less e.counts e.beside) e.keeps c.requires.session

pub returns-clause-stays : goal.returns-clause-stays
returns-clause-stays g c = let e = c.sync.ensures in stays_then (stays_from {g = g.S.Store} e.site e.table e.no_less e.counts e.beside) c.set_sizes.ensures.stays

-- all that was pending lasts, and then it got larger
pub returns-clause-done : goal.returns-clause-done
returns-clause-done g c = λ told ready.
    let first = is_told g.S.Store c.args.store.now c.args.memory.now c.requires.session.orderly c.requires.session.usable told ready (g.met.S.Store.leaves_now c.args.store.now told c.requires.session.usable) in
    let synced : IsSynced g.S.Store c.args.store.now c.sync.new.self = record { site = c.sync.ensures.site; table = c.sync.ensures.table.0; failed = c.sync.ensures.table.1; keeps = c.sync.ensures.keeps told; leaves = c.sync.ensures.leaves told } in
    let second = told_behind first synced (c.in_ok-sync.ensures.settled told) (g.met.S.Store.leaves_now c.sync.new.self told (c.sync.ensures.table.1 ∙ c.requires.session.usable)) in
    let a = c.args.store.now in
    let b = c.sync.new.self in
    let e = c.set_sizes.new.store in
    let resize = command.Resize c.args.disk.now c.args.size in
    let same : disks_next (disks (store_content g.S.Store b)) (store_shape g.S.Store b c.args.memory.now) resize ≡ disks_next (disks (store_content g.S.Store a)) (store_shape g.S.Store a c.args.memory.now) resize
    = ap₂ (λ ds σ. disks_next ds σ resize) (ap disks (behind_content first synced)) (ap₂ (λ s t. shape_in s t (known c.args.memory.now)) c.sync.ensures.site c.sync.ensures.table.0) in
    behind_sync first synced (known c.set_sizes.new.memory) (IsOk c.set_sizes.result) _
    (subst (λ (ds : List Disk). HasDone (g.S.Store.site b) (table_alone (g.S.Store.table b)) (table_alone (g.S.Store.table e)) (g.S.Store.area b) (g.S.Store.area e) (known c.set_sizes.new.memory) (StoreLeaves g.S.Store b) (StoreLeaves g.S.Store e) (IsOk c.set_sizes.result) ds)
    same (c.set_sizes.ensures.done told second.ready))
