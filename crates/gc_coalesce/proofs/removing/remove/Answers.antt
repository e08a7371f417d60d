use Rattle.std.proofs.Common.{refl}
use Rattle.sm_ready.proofs.ChainLaws.{err_not_ok}
use Rattle.vg_meta.specs.declared.changes.Change.TheVariants.{Remove}
use Rattle.sm_ready.proofs.FramingLaws.{commit_steps, failed_steps}
use Rattle.sm_ready.proofs.TakenLaws.{is_told}
use Rattle.sm_ready.specs.Known.{known}
use Rattle.gc_coalesce.proofs.RemovingLaws.{between_end, can_remove, done_end, failed_end, shape_end, to_remove, tree_room_less}
use Rattle.gc_coalesce.proofs.removing.remove.Goals as goal

pub drop_volume-requires : goal.drop_volume-requires
drop_volume-requires g c =
    let r = c.requires in
    let h = to_remove _ _ (known c.args.memory.now) c.args.name.now r.session.orderly r.session.tidy r.planned in
    can_remove g.S.Store c.args.store.now c.args.memory.now h r.session.usable

pub returns-in_err-drop_volume-clause-done : goal.returns-in_err-drop_volume-clause-done
returns-in_err-drop_volume-clause-done g c = λ told ready.
    let r = c.requires in
    let h = to_remove _ _ (known c.args.memory.now) c.args.name.now r.session.orderly r.session.tidy r.planned in
    failed_end g.S.Store c.args.store.now c.args.memory.now h
    (is_told g.S.Store c.args.store.now c.args.memory.now r.session.orderly r.session.usable told ready (g.met.S.Store.leaves_now c.args.store.now told r.session.usable))
    c.args.memory.now _ (λ fine. err_not_ok _ tt c.from_residual.ensures.0 fine) refl c.in_err-drop_volume.ensures.fails (c.drop_volume.ensures.crash told)

pub returns-clause-shape : goal.returns-clause-shape
returns-clause-shape g c =
    let r = c.requires in
    let h = to_remove _ _ (known c.args.memory.now) c.args.name.now r.session.orderly r.session.tidy r.planned in
    shape_end g.S.Store c.args.store.now c.args.memory.now h c.in_ok-drop_volume.ensures.commits c.take.new.self c.take.ensures.rows

pub returns-clause-done : goal.returns-clause-done
returns-clause-done g c = λ told ready.
    let r = c.requires in
    let h = to_remove _ _ (known c.args.memory.now) c.args.name.now r.session.orderly r.session.tidy r.planned in
    done_end g.S.Store c.args.store.now c.args.memory.now h c.in_ok-drop_volume.ensures.commits c.take.new.self c.take.ensures.rows
    (is_told g.S.Store c.args.store.now c.args.memory.now r.session.orderly r.session.usable told ready (g.met.S.Store.leaves_now c.args.store.now told r.session.usable)) (c.drop_volume.ensures.crash told) _

pub returns-in_err-drop_volume-clause-step : goal.returns-in_err-drop_volume-clause-step
returns-in_err-drop_volume-clause-step g c = failed_steps (Remove c.args.name.now) c.in_err-drop_volume.ensures.fails c.drop_volume.ensures.crash

pub returns-clause-step : goal.returns-clause-step
returns-clause-step g c = commit_steps c.in_ok-drop_volume.ensures.commits c.drop_volume.ensures.crash

pub returns-clause-session_still : goal.returns-clause-session_still
returns-clause-session_still g c =
    let r = c.requires in
    let h = to_remove _ _ (known c.args.memory.now) c.args.name.now r.session.orderly r.session.tidy r.planned in
    between_end g.S.Store c.args.store.now c.args.memory.now h c.in_ok-drop_volume.ensures.commits c.take.new.self c.take.ensures.rows
    (tree_room_less c.args.memory.now h c.take.new.self c.take.result c.take.ensures.taken c.take.ensures.rows c.take.ensures.some r.session.tree_room) r.session
