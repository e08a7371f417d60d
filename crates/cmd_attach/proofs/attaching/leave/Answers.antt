use Rattle.std.proofs.Common.{◌≡◌, ◌≢◌, List, refl, sym, subst, subst₂}
use Rattle.std.specs.Prelude.{AllPairs, slice_index_or, take}
use Rattle.sm_base.specs.declared.names.Name.{Name}
use Rattle.vg_meta.specs.Roomy.{table_alone}
use Rattle.common_laws.specs.Lists.{In}
use Rattle.vg_volumes.proofs.StoredLaws.{stays_from}
use Rattle.sm_machine.specs.declared.commands.Command.TheVariants as command
use Rattle.sm_machine.specs.Steps.{shape_next}
use Rattle.sm_refs.specs.Attached.{CountsLess}
use Rattle.sm_ready.specs.Known.{known, shape_in}
use Rattle.sm_ready.proofs.ChainLaws.{err_not_ok}
use Rattle.sm_ready.proofs.RepairLaws.{ready_synced}
use Rattle.sm_ready.proofs.SyncLaws.{synced, synced_failed}
use Rattle.sm_ready.proofs.TakenLaws.{is_told}
use Rattle.sm_ready.proofs.UsedLaws.{ready_used, with_attached}
use Rattle.sm_space.proofs.SyncedLaws.{between_synced}
use Rattle.cmd_attach.proofs.AttachedLaws.{between_used, chain_is, counted_in, detach_disks, detached_orderly, detached_shape, differ, images_all, mode_was, own_detach}
use Rattle.cmd_attach.proofs.ChainLaws.{In-at}
use Rattle.cmd_attach.proofs.attaching.leave.Goals as goal

pub chain_into-count-requires-clause-images : goal.chain_into-count-requires-clause-images
chain_into-count-requires-clause-images g c = images_all _ _ (known c.args.memory.now) c.requires.session.orderly

pub leave-requires-clause-attached : goal.leave-requires-clause-attached
leave-requires-clause-attached g c = mode_was _ _ (known c.args.memory.now) c.args.disk.now c.requires.allowed

pub leave-requires-clause-differ : goal.leave-requires-clause-differ
leave-requires-clause-differ g c =
    let own = own_detach _ _ (known c.args.memory.now) c.args.disk.now c.requires.session.orderly c.requires.allowed in
    let is = chain_is _ _ (known c.args.memory.now) c.args.disk.now c.requires.session.orderly own c.image_name-leaf.result _ c.image_name-leaf.ensures c.chain_into-count.ensures.names in
    subst (λ (ns : List Name). AllPairs (λ a b. a ≢ b) ns) (sym is) (differ _ _ (known c.args.memory.now) c.args.disk.now c.requires.session.orderly own)

pub leave-requires-clause-counted : goal.leave-requires-clause-counted
leave-requires-clause-counted g c = λ k d below.
    let own = own_detach _ _ (known c.args.memory.now) c.args.disk.now c.requires.session.orderly c.requires.allowed in
    let is = chain_is _ _ (known c.args.memory.now) c.args.disk.now c.requires.session.orderly own c.image_name-leaf.result _ c.image_name-leaf.ensures c.chain_into-count.ensures.names in
    counted_in _ _ (known c.args.memory.now) c.args.disk.now (slice_index_or (take c.chain_into-count.result c.chain_into-count.new.to) k d) c.requires.session.orderly own c.requires.allowed
    (subst (λ (ns : List Name). In (slice_index_or (take c.chain_into-count.result c.chain_into-count.new.to) k d) ns) is (In-at (take c.chain_into-count.result c.chain_into-count.new.to) k d below))

-- the shape in memory, beside the store from before
shaped : goal.returns-clause-shape
shaped g c =
    let own = own_detach _ _ (known c.args.memory.now) c.args.disk.now c.requires.session.orderly c.requires.allowed in
    let is = chain_is _ _ (known c.args.memory.now) c.args.disk.now c.requires.session.orderly own c.image_name-leaf.result _ c.image_name-leaf.ensures c.chain_into-count.ensures.names in
    let at : shape_in (g.S.Store.site c.args.store.now) (table_alone (g.S.Store.table c.args.store.now)) (with_attached c.leave.new.self (known c.args.memory.now)) ≡ shape_next (shape_in (g.S.Store.site c.args.store.now) (table_alone (g.S.Store.table c.args.store.now)) (known c.args.memory.now)) (command.Detach c.args.disk.now) =
    detached_shape _ _ (known c.args.memory.now) c.args.disk.now c.leave.new.self c.requires.session.orderly own c.requires.allowed c.requires.kept_up c.leave.ensures.disks
    (subst (λ (ns : List Name). CountsLess ns c.args.memory.now.attached c.leave.new.self) is c.leave.ensures.counts) in
    subst₂ (λ s t. shape_in s t (with_attached c.leave.new.self (known c.args.memory.now)) ≡ shape_next (shape_in (g.S.Store.site c.args.store.now) (table_alone (g.S.Store.table c.args.store.now)) (known c.args.memory.now)) (command.Detach c.args.disk.now))
    (sym c.sync.ensures.site) (sym c.sync.ensures.table.0) at

pub returns-clause-shape : goal.returns-clause-shape
returns-clause-shape g c = shaped g c

pub returns-in_err-sync-clause-stays : goal.returns-in_err-sync-clause-stays
returns-in_err-sync-clause-stays g c = let e = c.sync.ensures in stays_from {g = g.S.Store} e.site e.table e.no_less e.counts e.beside

pub returns-clause-stays : goal.returns-clause-stays
returns-clause-stays g c = let e = c.sync.ensures in stays_from {g = g.S.Store} e.site e.table e.no_less e.counts e.beside

pub returns-in_err-sync-clause-session_still : goal.returns-in_err-sync-clause-session_still
returns-in_err-sync-clause-session_still g c =
    let e = c.sync.ensures in between_synced c.args.memory.now (stays_from {g = g.S.Store} e.site e.table e.no_less e.counts e.beside) e.keeps c.requires.session

pub returns-clause-session_still : goal.returns-clause-session_still
returns-clause-session_still g c =
    let r = c.requires.session in
    let e = c.sync.ensures in
    let own = own_detach _ _ (known c.args.memory.now) c.args.disk.now r.orderly c.requires.allowed in
    let is = chain_is _ _ (known c.args.memory.now) c.args.disk.now r.orderly own c.image_name-leaf.result _ c.image_name-leaf.ensures c.chain_into-count.ensures.names in
    let orderly = detached_orderly _ _ (known c.args.memory.now) c.args.disk.now c.leave.new.self r.orderly own c.requires.allowed c.requires.kept_up c.leave.ensures.disks
    (subst (λ (ns : List Name). CountsLess ns c.args.memory.now.attached c.leave.new.self) is c.leave.ensures.counts) in
    between_synced (record c.args.memory.now { attached = c.leave.new.self }) (stays_from {g = g.S.Store} e.site e.table e.no_less e.counts e.beside) e.keeps
    (between_used c.args.memory.now c.leave.new.self orderly c.leave.ensures.room r)

pub returns-in_err-sync-clause-done : goal.returns-in_err-sync-clause-done
returns-in_err-sync-clause-done g c = λ told ready.
    synced_failed
    (is_told g.S.Store c.args.store.now c.args.memory.now c.requires.session.orderly c.requires.session.usable told ready (g.met.S.Store.leaves_now c.args.store.now told c.requires.session.usable))
    (record { site = c.sync.ensures.site; table = c.sync.ensures.table.0; failed = c.sync.ensures.table.1; keeps = c.sync.ensures.keeps told; leaves = c.sync.ensures.leaves told })
    (known c.args.memory.now) _ _ (λ fine. err_not_ok _ tt c.from_residual.ensures.0 fine) refl

pub returns-clause-done : goal.returns-clause-done
returns-clause-done g c = λ told ready.
    synced
    (is_told g.S.Store c.args.store.now c.args.memory.now c.requires.session.orderly c.requires.session.usable told ready (g.met.S.Store.leaves_now c.args.store.now told c.requires.session.usable))
    (record { site = c.sync.ensures.site; table = c.sync.ensures.table.0; failed = c.sync.ensures.table.1; keeps = c.sync.ensures.keeps told; leaves = c.sync.ensures.leaves told })
    (with_attached c.leave.new.self (known c.args.memory.now)) _ _ (detach_disks _ _ c.args.disk.now) (c.in_ok-sync.ensures.settled told)
    (ready_used _ _ _ (known c.args.memory.now) c.leave.new.self (ready_synced _ _ _ _ (known c.args.memory.now) ready (c.sync.ensures.keeps told) (c.in_ok-sync.ensures.settled told)) (c.in_ok-sync.ensures.settled told)) refl
