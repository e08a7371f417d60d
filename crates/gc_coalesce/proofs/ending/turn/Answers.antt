use Rattle.std.proofs.Common.{inl, inr, refl, sym, ap, subst, ◌∙◌}
use Rattle.sm_machine.specs.Collector.{turned}
use Rattle.sm_machine.specs.Operations.{told}
use Rattle.sm_machine.proofs.Told.{told_copy}
use Rattle.sm_machine.specs.declared.commands.Command.TheVariants.{Gc}
use Rattle.sm_ready.specs.Does.{ShapesAs}
use Rattle.sm_ready.specs.Framing.{IsBetweenSteps}
use Rattle.sm_ready.specs.Known.{known}
use Rattle.vg_meta.specs.declared.changes.Change.TheVariants.{Rename}
use Rattle.sm_ready.proofs.ChainLaws.{err_not_ok}
use Rattle.sm_ready.proofs.FramingLaws.{commit_steps, failed_steps}
use Rattle.sm_ready.proofs.OperationLaws.{WorksAt}
use Rattle.sm_ready.proofs.TakenLaws.{is_told}
use Rattle.gc_abandon.proofs.EndingLaws.{between_end, can_end, shape_end, worked_named}
use Rattle.gc_coalesce.proofs.EndingLaws.{gc_end, gc_failed, step_turn, turns}
use Rattle.gc_coalesce.proofs.PlannedLaws.{turn_planned}
use Rattle.gc_coalesce.proofs.ending.turn.Goals as goal

pub unreachable-requires : goal.unreachable-requires
unfolding told
unreachable-requires g c =
    let w = turn_planned _ _ (known c.args.memory.now) c.requires.planned in
    c.in_default.not-Copy w.0 w.1 w.2 (c.told.ensures ∙ ap told w.3)

pub copy_entry-requires-clause-child : goal.copy_entry-requires-clause-child
copy_entry-requires-clause-child g c = worked_named _ _ (known c.args.memory.now) c.in-Copy.child c.requires.session.orderly (subst (λ x. WorksAt x c.in-Copy.child) (sym (told_copy _ _ _ _ (sym c.told.ensures ∙ c.in-Copy.is))) (inl refl))

pub copy_entry-requires-clause-parent : goal.copy_entry-requires-clause-parent
copy_entry-requires-clause-parent g c = worked_named _ _ (known c.args.memory.now) c.in-Copy.parent c.requires.session.orderly (subst (λ x. WorksAt x c.in-Copy.parent) (sym (told_copy _ _ _ _ (sym c.told.ensures ∙ c.in-Copy.is))) (inr refl))

pub link_entry-requires-clause-child : goal.link_entry-requires-clause-child
link_entry-requires-clause-child g c = worked_named _ _ (known c.args.memory.now) c.in-Copy.child c.requires.session.orderly (subst (λ x. WorksAt x c.in-Copy.child) (sym (told_copy _ _ _ _ (sym c.told.ensures ∙ c.in-Copy.is))) (inl refl))

pub link_entry-requires-clause-parent : goal.link_entry-requires-clause-parent
link_entry-requires-clause-parent g c = worked_named _ _ (known c.args.memory.now) c.in-Copy.parent c.requires.session.orderly (subst (λ x. WorksAt x c.in-Copy.parent) (sym (told_copy _ _ _ _ (sym c.told.ensures ∙ c.in-Copy.is))) (inr refl))

pub replace-requires : goal.replace-requires
replace-requires g c =
    let r = c.requires in
    let h = turns g.S.Store c.args.store.now c.args.memory.now r.session.orderly r.planned (told_copy _ _ _ _ (sym c.told.ensures ∙ c.in-Copy.is)) c.copy_entry.ensures c.link_entry.ensures in
    can_end g.S.Store c.args.store.now c.args.memory.now h r.session.usable

pub returns-in_err-replace-clause-done : goal.returns-in_err-replace-clause-done
returns-in_err-replace-clause-done g c = λ told ready.
    let r = c.requires in
    let h = turns g.S.Store c.args.store.now c.args.memory.now r.session.orderly r.planned (told_copy _ _ _ _ (sym c.told.ensures ∙ c.in-Copy.is)) c.copy_entry.ensures c.link_entry.ensures in
    gc_failed g.S.Store c.args.store.now c.args.memory.now h
    (is_told g.S.Store c.args.store.now c.args.memory.now r.session.orderly r.session.usable told ready (g.met.S.Store.leaves_now c.args.store.now told r.session.usable))
    c.args.memory.now _ (λ fine. err_not_ok _ tt c.from_residual.ensures.0 fine) refl c.in_err-replace.ensures.fails (c.replace.ensures.crash told)

pub returns-clause-operation : goal.returns-clause-operation
unfolding turned
returns-clause-operation g c = c.set.ensures ∙ sym (ap turned (told_copy _ _ _ _ (sym c.told.ensures ∙ c.in-Copy.is)))

pub returns-clause-shape : goal.returns-clause-shape
returns-clause-shape g c =
    let r = c.requires in
    let h = turns g.S.Store c.args.store.now c.args.memory.now r.session.orderly r.planned (told_copy _ _ _ _ (sym c.told.ensures ∙ c.in-Copy.is)) c.copy_entry.ensures c.link_entry.ensures in
    subst (λ o. ShapesAs g.S.Store Gc c.args.store.now c.args.memory.now c.replace.new.store (record c.args.memory.now { operation = o })) (sym c.set.ensures)
    (shape_end g.S.Store c.args.store.now c.args.memory.now h c.in_ok-replace.ensures.commits ∙ step_turn _ _ (known c.args.memory.now) _ _ _ r.planned (told_copy _ _ _ _ (sym c.told.ensures ∙ c.in-Copy.is)))

pub returns-clause-done : goal.returns-clause-done
returns-clause-done g c = λ told ready.
    let r = c.requires in
    let h = turns g.S.Store c.args.store.now c.args.memory.now r.session.orderly r.planned (told_copy _ _ _ _ (sym c.told.ensures ∙ c.in-Copy.is)) c.copy_entry.ensures c.link_entry.ensures in
    gc_end g.S.Store c.args.store.now c.args.memory.now h c.in_ok-replace.ensures.commits
    (is_told g.S.Store c.args.store.now c.args.memory.now r.session.orderly r.session.usable told ready (g.met.S.Store.leaves_now c.args.store.now told r.session.usable)) (c.replace.ensures.crash told)
    (record c.args.memory.now { operation = c.set.new.self }) (ap (λ o. record c.args.memory.now { operation = o }) c.set.ensures) _

pub returns-in_err-replace-clause-step : goal.returns-in_err-replace-clause-step
returns-in_err-replace-clause-step g c = failed_steps (Rename c.copy_entry.result c.link_entry.result) c.in_err-replace.ensures.fails c.replace.ensures.crash

pub returns-clause-step : goal.returns-clause-step
returns-clause-step g c = commit_steps c.in_ok-replace.ensures.commits c.replace.ensures.crash

pub returns-clause-session_still : goal.returns-clause-session_still
returns-clause-session_still g c =
    let r = c.requires in
    let h = turns g.S.Store c.args.store.now c.args.memory.now r.session.orderly r.planned (told_copy _ _ _ _ (sym c.told.ensures ∙ c.in-Copy.is)) c.copy_entry.ensures c.link_entry.ensures in
    subst (λ o. IsBetweenSteps g.S.Store c.replace.new.store (record c.args.memory.now { operation = o })) (sym c.set.ensures)
    (between_end g.S.Store c.args.store.now c.args.memory.now h c.in_ok-replace.ensures.commits r.session
    )
