use Rattle.std.proofs.Common.{◌≡◌, ◌≢◌, List, refl, sym, subst, subst₂, arith}
use Rattle.std.specs.Prelude.{AllPairs, slice_index_or, take}
use Rattle.sm_base.specs.declared.names.Name.{Name}
use Rattle.vg_meta.specs.Roomy.{table_alone}
use Rattle.vg_volumes.proofs.StoredLaws.{stays_from}
use Rattle.sm_machine.specs.declared.commands.Command.TheVariants as command
use Rattle.sm_machine.specs.Steps.{shape_next}
use Rattle.sm_refs.specs.Attached.{CountsMore, HoldsChain}
use Rattle.sm_ready.specs.Known.{known, shape_in}
use Rattle.sm_ready.proofs.ChainLaws.{err_not_ok}
use Rattle.sm_ready.proofs.RepairLaws.{ready_synced}
use Rattle.sm_ready.proofs.SyncLaws.{synced, synced_failed}
use Rattle.sm_ready.proofs.TakenLaws.{is_told}
use Rattle.sm_ready.proofs.UsedLaws.{ready_used, with_attached}
use Rattle.sm_space.proofs.SyncedLaws.{between_synced}
use Rattle.cmd_attach.proofs.AttachedLaws.{attach_disks, attached_orderly, attached_shape, between_used, chain_is, differ, few_uses, images_all, mode_none_yet, own_attach, room_for_chain, room_for_one, unattached}
use Rattle.cmd_attach.proofs.attaching.note.Goals as goal

pub chain_into-count-requires-clause-images : goal.chain_into-count-requires-clause-images
chain_into-count-requires-clause-images g c = images_all _ _ (known c.args.memory.now) c.requires.session.orderly

pub enter-requires-clause-not_attached : goal.enter-requires-clause-not_attached
enter-requires-clause-not_attached g c = unattached _ _ (known c.args.memory.now) c.args.disk.now c.args.mode c.requires.allowed

pub enter-requires-clause-differ : goal.enter-requires-clause-differ
enter-requires-clause-differ g c =
    let own = own_attach _ _ (known c.args.memory.now) c.args.disk.now c.args.mode c.requires.session.orderly c.requires.allowed in
    let is = chain_is _ _ (known c.args.memory.now) c.args.disk.now c.requires.session.orderly own c.image_name-leaf.result _ c.image_name-leaf.ensures c.chain_into-count.ensures.names in
    subst (λ (ns : List Name). AllPairs (λ a b. a ≢ b) ns) (sym is) (differ _ _ (known c.args.memory.now) c.args.disk.now c.requires.session.orderly own)

pub enter-requires-clause-below_most : goal.enter-requires-clause-below_most
enter-requires-clause-below_most g c = λ k d below. let few = few_uses _ _ (known c.args.memory.now) (slice_index_or (take c.chain_into-count.result c.chain_into-count.new.to) k d) c.requires.session.orderly in omega (arith, few)

pub enter-requires-clause-room_for_disk : goal.enter-requires-clause-room_for_disk
enter-requires-clause-room_for_disk g c =
    let own = own_attach _ _ (known c.args.memory.now) c.args.disk.now c.args.mode c.requires.session.orderly c.requires.allowed in
    let one = room_for_one _ _ (known c.args.memory.now) c.args.disk.now c.requires.session.orderly own (mode_none_yet _ _ (known c.args.memory.now) c.args.disk.now c.args.mode c.requires.allowed) in
    omega (arith, one, c.requires.session.attachment_room)

pub enter-requires-clause-room_for_chain : goal.enter-requires-clause-room_for_chain
enter-requires-clause-room_for_chain g c =
    let own = own_attach _ _ (known c.args.memory.now) c.args.disk.now c.args.mode c.requires.session.orderly c.requires.allowed in
    let is = chain_is _ _ (known c.args.memory.now) c.args.disk.now c.requires.session.orderly own c.image_name-leaf.result _ c.image_name-leaf.ensures c.chain_into-count.ensures.names in
    subst (λ (ns : List Name). HoldsChain c.args.memory.now.attached.counts ns c.args.memory.now.attached.room) (sym is)
    (room_for_chain _ _ (known c.args.memory.now) c.args.disk.now c.requires.session.orderly own c.requires.session.attachment_room)

-- the shape in memory, beside the store from before
shaped : goal.returns-clause-shape
shaped g c =
    let own = own_attach _ _ (known c.args.memory.now) c.args.disk.now c.args.mode c.requires.session.orderly c.requires.allowed in
    let is = chain_is _ _ (known c.args.memory.now) c.args.disk.now c.requires.session.orderly own c.image_name-leaf.result _ c.image_name-leaf.ensures c.chain_into-count.ensures.names in
    let at : shape_in (g.S.Store.site c.args.store.now) (table_alone (g.S.Store.table c.args.store.now)) (with_attached c.enter.new.self (known c.args.memory.now)) ≡ shape_next (shape_in (g.S.Store.site c.args.store.now) (table_alone (g.S.Store.table c.args.store.now)) (known c.args.memory.now)) (command.Attach c.args.disk.now c.args.mode) =
    attached_shape _ _ (known c.args.memory.now) c.args.disk.now c.args.mode c.enter.new.self c.requires.session.orderly own c.requires.allowed c.requires.kept_up c.requires.enough c.enter.ensures.disks
    (subst (λ (ns : List Name). CountsMore ns c.args.memory.now.attached c.enter.new.self) is c.enter.ensures.counts) in
    subst₂ (λ s t. shape_in s t (with_attached c.enter.new.self (known c.args.memory.now)) ≡ shape_next (shape_in (g.S.Store.site c.args.store.now) (table_alone (g.S.Store.table c.args.store.now)) (known c.args.memory.now)) (command.Attach c.args.disk.now c.args.mode))
    (sym c.sync.ensures.site) (sym c.sync.ensures.table.0) at

pub returns-clause-shape : goal.returns-clause-shape
returns-clause-shape g c = shaped g c

pub returns-in_err-sync-clause-stays : goal.returns-in_err-sync-clause-stays
returns-in_err-sync-clause-stays g c = let e = c.sync.ensures in stays_from {g = g.S.Store} e.site e.table e.no_less e.counts e.beside

pub returns-clause-stays : goal.returns-clause-stays
returns-clause-stays g c = let e = c.sync.ensures in stays_from {g = g.S.Store} e.site e.table e.no_less e.counts e.beside

pub returns-in_err-sync-clause-session_still : goal.returns-in_err-sync-clause-session_still
returns-in_err-sync-clause-session_still g c =
    let e = c.sync.ensures in between_synced c.args.memory.now (stays_from {g = g.S.Store} e.site e.table e.no_less e.counts e.beside) e.keeps c.requires.session

pub returns-clause-session_still : goal.returns-clause-session_still
returns-clause-session_still g c =
    let r = c.requires.session in
    let e = c.sync.ensures in
    let own = own_attach _ _ (known c.args.memory.now) c.args.disk.now c.args.mode r.orderly c.requires.allowed in
    let is = chain_is _ _ (known c.args.memory.now) c.args.disk.now r.orderly own c.image_name-leaf.result _ c.image_name-leaf.ensures c.chain_into-count.ensures.names in
    let orderly = attached_orderly _ _ (known c.args.memory.now) c.args.disk.now c.args.mode c.enter.new.self r.orderly own c.requires.allowed c.requires.kept_up c.requires.enough c.enter.ensures.disks
    (subst (λ (ns : List Name). CountsMore ns c.args.memory.now.attached c.enter.new.self) is c.enter.ensures.counts) in
    between_synced (record c.args.memory.now { attached = c.enter.new.self }) (stays_from {g = g.S.Store} e.site e.table e.no_less e.counts e.beside) e.keeps
    (between_used c.args.memory.now c.enter.new.self orderly c.enter.ensures.room r)

pub returns-in_err-sync-clause-done : goal.returns-in_err-sync-clause-done
returns-in_err-sync-clause-done g c = λ told ready.
    synced_failed
    (is_told g.S.Store c.args.store.now c.args.memory.now c.requires.session.orderly c.requires.session.usable told ready (g.met.S.Store.leaves_now c.args.store.now told c.requires.session.usable))
    (record { site = c.sync.ensures.site; table = c.sync.ensures.table.0; failed = c.sync.ensures.table.1; keeps = c.sync.ensures.keeps told; leaves = c.sync.ensures.leaves told })
    (known c.args.memory.now) _ _ (λ fine. err_not_ok _ tt c.from_residual.ensures.0 fine) refl

pub returns-clause-done : goal.returns-clause-done
returns-clause-done g c = λ told ready.
    synced
    (is_told g.S.Store c.args.store.now c.args.memory.now c.requires.session.orderly c.requires.session.usable told ready (g.met.S.Store.leaves_now c.args.store.now told c.requires.session.usable))
    (record { site = c.sync.ensures.site; table = c.sync.ensures.table.0; failed = c.sync.ensures.table.1; keeps = c.sync.ensures.keeps told; leaves = c.sync.ensures.leaves told })
    (with_attached c.enter.new.self (known c.args.memory.now)) _ _ (attach_disks _ _ c.args.disk.now c.args.mode) (c.in_ok-sync.ensures.settled told)
    (ready_used _ _ _ (known c.args.memory.now) c.enter.new.self (ready_synced _ _ _ _ (known c.args.memory.now) ready (c.sync.ensures.keeps told) (c.in_ok-sync.ensures.settled told)) (c.in_ok-sync.ensures.settled told)) refl
