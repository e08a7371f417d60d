use Rattle.std.proofs.Common.{ℕ, List, inl, inr, refl, sym, subst, ap, ◌∙◌}
use Rattle.std.proofs.lemmas.Option.{same_Some}
use Rattle.vg_meta.specs.Changes.{applied}
use Rattle.vg_meta.specs.Roomy.{table_alone}
use Rattle.vg_meta.specs.Tables.{VolumeTable}
use Rattle.vg_meta.specs.declared.changes.Change.TheVariants.{Remove}
use Rattle.vg_volumes.specs.Stored.{IsEitherOf, stored}
use Rattle.sm_standing.specs.Entries.{head}
use Rattle.sm_machine.specs.Operations.{told}
use Rattle.sm_machine.proofs.Told.{told_relink}
use Rattle.sm_machine.specs.declared.commands.Command.TheVariants.{Gc}
use Rattle.sm_ready.specs.Does.{ShapesAs}
use Rattle.sm_ready.specs.Sessions.{IsOrderlyStore, IsTidyStore}
use Rattle.sm_ready.specs.Known.{entry_of, known}
use Rattle.sm_ready.proofs.ChainLaws.{err_not_ok}
use Rattle.sm_ready.proofs.FramingLaws.{commit_steps, failed_steps}
use Rattle.sm_ready.proofs.OperationLaws.{WorksAt}
use Rattle.sm_ready.proofs.RoomLaws.{rows_commits}
use Rattle.sm_ready.proofs.TakenLaws.{is_told}
use Rattle.gc_abandon.proofs.EndingLaws.{can_end, ends, orderly_end, shape_end, tidy_end, true_end, worked_named}
use Rattle.gc_coalesce.proofs.EndingLaws.{gc_end, gc_failed, step_finish}
use Rattle.gc_coalesce.proofs.PlannedLaws.{finish_planned}
use Rattle.gc_coalesce.proofs.ending.finish.Goals as goal

pub unreachable-requires : goal.unreachable-requires
unfolding told
unreachable-requires g c =
    let w = finish_planned _ _ (known c.args.memory.now) c.requires.planned in
    c.in_default.not-Relink w.0 w.1 (c.told.ensures ∙ ap told w.2)

pub link_entry-requires-clause-child : goal.link_entry-requires-clause-child
link_entry-requires-clause-child g c = worked_named _ _ (known c.args.memory.now) c.in-Relink.child c.requires.orderly (subst (λ x. WorksAt x c.in-Relink.child) (sym (told_relink _ _ _ (sym c.told.ensures ∙ c.in-Relink.is))) (inl refl))

pub link_entry-requires-clause-parent : goal.link_entry-requires-clause-parent
link_entry-requires-clause-parent g c = worked_named _ _ (known c.args.memory.now) c.in-Relink.parent c.requires.orderly (subst (λ x. WorksAt x c.in-Relink.parent) (sym (told_relink _ _ _ (sym c.told.ensures ∙ c.in-Relink.is))) (inr refl))

pub drop_entry-requires : goal.drop_entry-requires
drop_entry-requires g c =
    let r = c.requires in
    let h = ends g.S.Store c.args.store.now c.args.memory.now r.orderly (told_relink _ _ _ (sym c.told.ensures ∙ c.in-Relink.is)) refl c.link_entry.ensures in
    can_end g.S.Store c.args.store.now c.args.memory.now h r.usable

pub returns-in_err-drop_entry-clause-done : goal.returns-in_err-drop_entry-clause-done
returns-in_err-drop_entry-clause-done g c = λ told ready.
    let r = c.requires in
    let h = ends g.S.Store c.args.store.now c.args.memory.now r.orderly (told_relink _ _ _ (sym c.told.ensures ∙ c.in-Relink.is)) refl c.link_entry.ensures in
    gc_failed g.S.Store c.args.store.now c.args.memory.now h
    (is_told g.S.Store c.args.store.now c.args.memory.now r.orderly r.usable told ready (g.met.S.Store.leaves_now c.args.store.now told r.usable))
    c.args.memory.now _ (λ fine. err_not_ok _ tt c.from_residual.ensures.0 fine) refl c.in_err-drop_entry.ensures.fails (c.drop_entry.ensures.crash told)

pub returns-clause-table : goal.returns-clause-table
returns-clause-table g c = λ e is.
    c.in_ok-drop_entry.ensures.commits.table ∙ ap (λ n. applied (table_alone (g.S.Store.table c.args.store.now)) (Remove n))
    (c.link_entry.ensures ∙ same_Some _ _ (ap head (sym (ap entry_of (told_relink _ _ _ (sym c.told.ensures ∙ c.in-Relink.is))) ∙ is)))

pub returns-clause-room : goal.returns-clause-room
returns-clause-room g c =
    let r = c.requires in
    let h = ends g.S.Store c.args.store.now c.args.memory.now r.orderly (told_relink _ _ _ (sym c.told.ensures ∙ c.in-Relink.is)) refl c.link_entry.ensures in
    rows_commits (can_end g.S.Store c.args.store.now c.args.memory.now h r.usable) c.in_ok-drop_entry.ensures.commits

pub returns-clause-orderly_still : goal.returns-clause-orderly_still
returns-clause-orderly_still g c =
    let r = c.requires in
    let h = ends g.S.Store c.args.store.now c.args.memory.now r.orderly (told_relink _ _ _ (sym c.told.ensures ∙ c.in-Relink.is)) refl c.link_entry.ensures in
    subst (λ o. IsOrderlyStore g.S.Store c.drop_entry.new.store (record c.args.memory.now { operation = o })) (sym c.set.ensures)
    (orderly_end g.S.Store c.args.store.now c.args.memory.now h c.in_ok-drop_entry.ensures.commits)

pub returns-clause-tidy_still : goal.returns-clause-tidy_still
returns-clause-tidy_still g c =
    let r = c.requires in
    let h = ends g.S.Store c.args.store.now c.args.memory.now r.orderly (told_relink _ _ _ (sym c.told.ensures ∙ c.in-Relink.is)) refl c.link_entry.ensures in
    λ tidy. subst (λ o. IsTidyStore g.S.Store c.drop_entry.new.store (record c.args.memory.now { operation = o })) (sym c.set.ensures)
    (tidy_end g.S.Store c.args.store.now c.args.memory.now h c.in_ok-drop_entry.ensures.commits tidy)

pub returns-clause-true_still : goal.returns-clause-true_still
returns-clause-true_still g c =
    let r = c.requires in
    let h = ends g.S.Store c.args.store.now c.args.memory.now r.orderly (told_relink _ _ _ (sym c.told.ensures ∙ c.in-Relink.is)) refl c.link_entry.ensures in
    true_end g.S.Store c.args.store.now c.args.memory.now h c.in_ok-drop_entry.ensures.commits r.true_now

pub returns-clause-shape : goal.returns-clause-shape
returns-clause-shape g c =
    let r = c.requires in
    let h = ends g.S.Store c.args.store.now c.args.memory.now r.orderly (told_relink _ _ _ (sym c.told.ensures ∙ c.in-Relink.is)) refl c.link_entry.ensures in
    subst (λ o. ShapesAs g.S.Store Gc c.args.store.now c.args.memory.now c.drop_entry.new.store (record c.args.memory.now { operation = o })) (sym c.set.ensures)
    (shape_end g.S.Store c.args.store.now c.args.memory.now h c.in_ok-drop_entry.ensures.commits ∙ step_finish _ _ (known c.args.memory.now) r.planned)

pub returns-clause-done : goal.returns-clause-done
returns-clause-done g c = λ told ready.
    let r = c.requires in
    let h = ends g.S.Store c.args.store.now c.args.memory.now r.orderly (told_relink _ _ _ (sym c.told.ensures ∙ c.in-Relink.is)) refl c.link_entry.ensures in
    gc_end g.S.Store c.args.store.now c.args.memory.now h c.in_ok-drop_entry.ensures.commits
    (is_told g.S.Store c.args.store.now c.args.memory.now r.orderly r.usable told ready (g.met.S.Store.leaves_now c.args.store.now told r.usable)) (c.drop_entry.ensures.crash told)
    (record c.args.memory.now { operation = c.set.new.self }) (ap (λ o. record c.args.memory.now { operation = o }) c.set.ensures) _

pub returns-in_err-drop_entry-clause-left : goal.returns-in_err-drop_entry-clause-left
returns-in_err-drop_entry-clause-left g c = λ e is told.
    subst (λ n. (t : VolumeTable) (image : ℕ → List ℕ) → g.S.Store.leaves c.drop_entry.new.store t image → IsEitherOf (stored g.S.Store c.args.store.now) (Remove n) t image)
    (c.link_entry.ensures ∙ same_Some _ _ (ap head (sym (ap entry_of (told_relink _ _ _ (sym c.told.ensures ∙ c.in-Relink.is))) ∙ is))) (c.drop_entry.ensures.crash told)

pub returns-clause-left : goal.returns-clause-left
returns-clause-left g c = λ e is told.
    subst (λ n. (t : VolumeTable) (image : ℕ → List ℕ) → g.S.Store.leaves c.drop_entry.new.store t image → IsEitherOf (stored g.S.Store c.args.store.now) (Remove n) t image)
    (c.link_entry.ensures ∙ same_Some _ _ (ap head (sym (ap entry_of (told_relink _ _ _ (sym c.told.ensures ∙ c.in-Relink.is))) ∙ is))) (c.drop_entry.ensures.crash told)

pub returns-in_err-drop_entry-clause-step : goal.returns-in_err-drop_entry-clause-step
returns-in_err-drop_entry-clause-step g c = failed_steps (Remove c.link_entry.result) c.in_err-drop_entry.ensures.fails c.drop_entry.ensures.crash

pub returns-clause-step : goal.returns-clause-step
returns-clause-step g c = commit_steps c.in_ok-drop_entry.ensures.commits c.drop_entry.ensures.crash
