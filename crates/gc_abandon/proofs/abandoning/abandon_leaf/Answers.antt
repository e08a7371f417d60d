use Rattle.std.proofs.Common.{◌≡◌, refl, sym, ap, ◌∙◌, subst}
use Rattle.std.proofs.lemmas.Bool.{true≢false}
use Rattle.vg_meta.specs.declared.changes.Change.TheVariants.{Remove}
use Rattle.vg_volumes.specs.Stored.{Commits}
use Rattle.sm_ready.specs.Does.{store_shape}
use Rattle.sm_ready.specs.Framing.{IsBetweenSteps}
use Rattle.sm_ready.specs.Known.{known, shape_in}
use Rattle.sm_ready.proofs.ChainLaws.{err_not_ok}
use Rattle.sm_ready.proofs.FramingLaws.{commit_steps, failed_steps}
use Rattle.sm_ready.proofs.TakenLaws.{is_told}
use Rattle.gc_abandon.specs.Abandoning.{abandoned}
use Rattle.gc_abandon.proofs.EndingLaws.{between_end, can_end, done_as, ends, failed_end, none_found, only_one, pair_found, shape_end, worked_named}
use Rattle.gc_abandon.proofs.abandoning.abandon_leaf.Goals as goal

pub unreachable-requires : goal.unreachable-requires
unreachable-requires g c =
    true≢false (sym c.requires.folding ∙ none_found c.args.memory.now.operation c.told.result c.folded.result (sym c.told.ensures) c.folded.ensures c.in_default.is)

pub leaf_entry-requires-clause-leaf : goal.leaf_entry-requires-clause-leaf
leaf_entry-requires-clause-leaf g c = worked_named _ _ (known c.args.memory.now) c.in-Some.leaf c.requires.session.orderly
    (pair_found c.args.memory.now.operation c.told.result c.folded.result (sym c.told.ensures) c.folded.ensures c.in-Some.leaf c.in-Some.parent c.in-Some.is).child

pub leaf_entry-requires-clause-parent : goal.leaf_entry-requires-clause-parent
leaf_entry-requires-clause-parent g c = worked_named _ _ (known c.args.memory.now) c.in-Some.parent c.requires.session.orderly
    (pair_found c.args.memory.now.operation c.told.result c.folded.result (sym c.told.ensures) c.folded.ensures c.in-Some.leaf c.in-Some.parent c.in-Some.is).parent

pub drop_entry-requires : goal.drop_entry-requires
drop_entry-requires g c =
    let r = c.requires in
    let w = pair_found c.args.memory.now.operation c.told.result c.folded.result (sym c.told.ensures) c.folded.ensures c.in-Some.leaf c.in-Some.parent c.in-Some.is in
    let h = ends g.S.Store c.args.store.now c.args.memory.now r.session.orderly refl w.entry c.leaf_entry.ensures in
    can_end g.S.Store c.args.store.now c.args.memory.now h r.session.usable

pub returns-in_err-drop_entry-clause-done : goal.returns-in_err-drop_entry-clause-done
returns-in_err-drop_entry-clause-done g c = λ told ready.
    let r = c.requires in
    let w = pair_found c.args.memory.now.operation c.told.result c.folded.result (sym c.told.ensures) c.folded.ensures c.in-Some.leaf c.in-Some.parent c.in-Some.is in
    let h = ends g.S.Store c.args.store.now c.args.memory.now r.session.orderly refl w.entry c.leaf_entry.ensures in
    failed_end g.S.Store c.args.store.now c.args.memory.now h
    (is_told g.S.Store c.args.store.now c.args.memory.now r.session.orderly r.session.usable told ready (g.met.S.Store.leaves_now c.args.store.now told r.session.usable))
    c.args.memory.now _ (λ fine. err_not_ok _ tt c.from_residual.ensures.0 fine) refl c.in_err-drop_entry.ensures.fails (c.drop_entry.ensures.crash told)

pub returns-clause-commits : goal.returns-clause-commits
returns-clause-commits g c = λ e is.
    let w = pair_found c.args.memory.now.operation c.told.result c.folded.result (sym c.told.ensures) c.folded.ensures c.in-Some.leaf c.in-Some.parent c.in-Some.is in
    subst (λ n. Commits g.S.Store (Remove n) c.args.store.now c.drop_entry.new.store) (c.leaf_entry.ensures ∙ only_one (sym w.entry ∙ is)) c.in_ok-drop_entry.ensures.commits

pub returns-clause-shape : goal.returns-clause-shape
unfolding shape_in
returns-clause-shape g c =
    let r = c.requires in
    let w = pair_found c.args.memory.now.operation c.told.result c.folded.result (sym c.told.ensures) c.folded.ensures c.in-Some.leaf c.in-Some.parent c.in-Some.is in
    let h = ends g.S.Store c.args.store.now c.args.memory.now r.session.orderly refl w.entry c.leaf_entry.ensures in
    subst (λ o. store_shape g.S.Store c.drop_entry.new.store (record c.args.memory.now { operation = o }) ≡ abandoned (store_shape g.S.Store c.args.store.now c.args.memory.now)) (sym c.set.ensures)
    (shape_end g.S.Store c.args.store.now c.args.memory.now h c.in_ok-drop_entry.ensures.commits)

pub returns-clause-done : goal.returns-clause-done
returns-clause-done g c = λ told ready.
    let r = c.requires in
    let w = pair_found c.args.memory.now.operation c.told.result c.folded.result (sym c.told.ensures) c.folded.ensures c.in-Some.leaf c.in-Some.parent c.in-Some.is in
    let h = ends g.S.Store c.args.store.now c.args.memory.now r.session.orderly refl w.entry c.leaf_entry.ensures in
    done_as g.S.Store c.args.store.now c.args.memory.now h c.in_ok-drop_entry.ensures.commits
    (is_told g.S.Store c.args.store.now c.args.memory.now r.session.orderly r.session.usable told ready (g.met.S.Store.leaves_now c.args.store.now told r.session.usable)) (c.drop_entry.ensures.crash told)
    (record c.args.memory.now { operation = c.set.new.self }) (ap (λ o. record c.args.memory.now { operation = o }) c.set.ensures) _

pub returns-in_err-drop_entry-clause-step : goal.returns-in_err-drop_entry-clause-step
returns-in_err-drop_entry-clause-step g c = failed_steps (Remove c.leaf_entry.result) c.in_err-drop_entry.ensures.fails c.drop_entry.ensures.crash

pub returns-clause-step : goal.returns-clause-step
returns-clause-step g c = commit_steps c.in_ok-drop_entry.ensures.commits c.drop_entry.ensures.crash

pub returns-clause-session_still : goal.returns-clause-session_still
returns-clause-session_still g c =
    let r = c.requires in
    let w = pair_found c.args.memory.now.operation c.told.result c.folded.result (sym c.told.ensures) c.folded.ensures c.in-Some.leaf c.in-Some.parent c.in-Some.is in
    let h = ends g.S.Store c.args.store.now c.args.memory.now r.session.orderly refl w.entry c.leaf_entry.ensures in
    subst (λ o. IsBetweenSteps g.S.Store c.drop_entry.new.store (record c.args.memory.now { operation = o })) (sym c.set.ensures)
    (between_end g.S.Store c.args.store.now c.args.memory.now h c.in_ok-drop_entry.ensures.commits r.session)
