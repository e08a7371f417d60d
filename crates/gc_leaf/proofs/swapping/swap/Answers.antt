use Rattle.std.proofs.Common.{refl, sym, ap, ◌∙◌, subst, subst₂, arith}
use Rattle.vg_meta.specs.Roomy.{table_alone}
use Rattle.sm_machine.specs.Shapes.{image_uuid}
use Rattle.sm_machine.specs.declared.commands.Command.TheVariants.{Gc}
use Rattle.sm_ready.specs.Does.{ShapesAs}
use Rattle.sm_ready.specs.Framing.{IsBetweenSteps}
use Rattle.sm_ready.specs.Known.{known}
use Rattle.sm_calls.specs.Calls.{CanRun, DoesRun, commits}
use Rattle.sm_calls.proofs.StoreLaws.{run_steps}
use Rattle.sm_ready.proofs.ChainLaws.{err_not_ok}
use Rattle.sm_mgt.proofs.ClearLaws.{on_err}
use Rattle.gc_leaf.specs.Swapping.{CountsAs, IsMoved, swap_changes}
use Rattle.gc_leaf.proofs.SwapEnds.{same_room}
use Rattle.gc_leaf.proofs.SwapRows.{can_fold, rows_less, tree_room_then, true_end}
use Rattle.gc_leaf.proofs.SwapSteps.{parents_same, swap_folds, to_swap}
use Rattle.gc_leaf.proofs.SwapStores.{can_swap, done_end, done_failed, orderly_end, shape_end, shows_still, tidy_end}
use Rattle.gc_leaf.proofs.SwapTables.{moved_then}
use Rattle.gc_leaf.proofs.swapping.swap.Goals as goal

pub folded-leaf-requires : goal.folded-leaf-requires
folded-leaf-requires g c = record { folds = swap_folds _ _ (known c.args.memory.now) c.requires.planned }

pub vhd_uuid-requires : goal.vhd_uuid-requires
vhd_uuid-requires g c = (to_swap _ _ (known c.args.memory.now) _ _ c.requires.session.orderly c.requires.session.tidy c.requires.planned c.requires.clean c.folded-leaf.ensures).leaf_vhd

pub vhd_uuid-requires-2 : goal.vhd_uuid-requires-2
vhd_uuid-requires-2 g c = (to_swap _ _ (known c.args.memory.now) _ _ c.requires.session.orderly c.requires.session.tidy c.requires.planned c.requires.clean c.folded-leaf.ensures).parent_vhd

pub run-requires : goal.run-requires
run-requires g c =
    let h = to_swap _ _ (known c.args.memory.now) _ _ c.requires.session.orderly c.requires.session.tidy c.requires.planned c.requires.clean c.folded-leaf.ensures in
    subst₂ (λ x y. CanRun g.S.Store (commits (swap_changes x y)) c.args.store.now) (sym c.vhd_uuid.ensures) (sym c.vhd_uuid-2.ensures)
    (can_swap g.S.Store c.args.store.now c.args.memory.now h c.requires.session.usable)

-- ---- a commit failed

pub returns-in_err-run-clause-done : goal.returns-in_err-run-clause-done
returns-in_err-run-clause-done g c = λ told ready.
    let h = to_swap _ _ (known c.args.memory.now) _ _ c.requires.session.orderly c.requires.session.tidy c.requires.planned c.requires.clean c.folded-leaf.ensures in
    let run = subst₂ (λ x y. DoesRun g.S.Store (commits (swap_changes x y)) c.args.store.now c.run.new.store ⊥) c.vhd_uuid.ensures c.vhd_uuid-2.ensures c.in_err-run.ensures.cut in
    done_failed g.S.Store c.args.store.now c.args.memory.now h told c.requires.session.usable ready run c.args.memory.now _ (λ fine. err_not_ok _ tt c.from_residual.ensures.0 fine) refl

pub returns-in_err-run-clause-still : goal.returns-in_err-run-clause-still
returns-in_err-run-clause-still g c = λ told ready again.
    let h = to_swap _ _ (known c.args.memory.now) _ _ c.requires.session.orderly c.requires.session.tidy c.requires.planned c.requires.clean c.folded-leaf.ensures in
    let run = subst₂ (λ x y. DoesRun g.S.Store (commits (swap_changes x y)) c.args.store.now c.run.new.store ⊥) c.vhd_uuid.ensures c.vhd_uuid-2.ensures c.in_err-run.ensures.cut in
    shows_still g.S.Store c.args.store.now c.args.memory.now h told c.requires.session.usable ready run

pub returns-in_err-run-clause-keeps : goal.returns-in_err-run-clause-keeps
returns-in_err-run-clause-keeps g c = c.in_err-run.ensures.cut.keeps tt

pub returns-in_err-run-clause-stuck : goal.returns-in_err-run-clause-stuck
returns-in_err-run-clause-stuck g c = on_err _ (c.in_err-run.ensures.cut.stuck tt (λ x. x))

pub returns-in_err-run-clause-step : goal.returns-in_err-run-clause-step
returns-in_err-run-clause-step g c = run_steps c.in_err-run.ensures.cut

-- ---- all were made

pub fold-requires : goal.fold-requires
fold-requires g c = can_fold c.args.memory.now (to_swap _ _ (known c.args.memory.now) _ _ c.requires.session.orderly c.requires.session.tidy c.requires.planned c.requires.clean c.folded-leaf.ensures)

pub returns-clause-moved : goal.returns-clause-moved
returns-clause-moved g c = λ leaf parent is.
    let h = to_swap _ _ (known c.args.memory.now) leaf parent c.requires.session.orderly c.requires.session.tidy c.requires.planned c.requires.clean is in
    let same = parents_same c.args.memory.now.operation _ _ leaf parent c.folded-leaf.ensures is in
    let run = subst₂ (λ x y. DoesRun g.S.Store (commits (swap_changes x y)) c.args.store.now c.run.new.store (Unit {0})) (c.vhd_uuid.ensures ∙ ap image_uuid same.0)
    (c.vhd_uuid-2.ensures ∙ ap image_uuid same.1) c.in_ok-run.ensures.run in
    subst (λ t. IsMoved (table_alone (g.S.Store.table c.args.store.now)) t leaf parent) (sym (run.table tt)) (moved_then h)

pub returns-clause-counts : goal.returns-clause-counts
returns-clause-counts g c = λ leaf parent is.
    subst (λ n. CountsAs c.args.memory.now.operation n c.args.memory.now.attached c.recount.new.attached) (parents_same c.args.memory.now.operation _ _ leaf parent c.folded-leaf.ensures is).1 c.recount.ensures

pub returns-clause-images : goal.returns-clause-images
returns-clause-images g c = rows_less c.args.memory.now (to_swap _ _ (known c.args.memory.now) _ _ c.requires.session.orderly c.requires.session.tidy c.requires.planned c.requires.clean c.folded-leaf.ensures) c.fold.new.tree c.fold.ensures.rows

pub returns-clause-shape : goal.returns-clause-shape
returns-clause-shape g c =
    let h = to_swap _ _ (known c.args.memory.now) _ _ c.requires.session.orderly c.requires.session.tidy c.requires.planned c.requires.clean c.folded-leaf.ensures in
    let run = subst₂ (λ x y. DoesRun g.S.Store (commits (swap_changes x y)) c.args.store.now c.run.new.store (Unit {0})) c.vhd_uuid.ensures c.vhd_uuid-2.ensures c.in_ok-run.ensures.run in
    subst (λ o. ShapesAs g.S.Store Gc c.args.store.now c.args.memory.now c.run.new.store (record c.args.memory.now { tree = c.fold.new.tree; attached = c.recount.new.attached; operation = o })) (sym c.set.ensures)
    (shape_end g.S.Store c.args.store.now c.args.memory.now h run tt c.fold.new.tree c.fold.ensures.rows c.recount.new.attached c.recount.ensures)

pub returns-clause-done : goal.returns-clause-done
returns-clause-done g c = λ told ready.
    let h = to_swap _ _ (known c.args.memory.now) _ _ c.requires.session.orderly c.requires.session.tidy c.requires.planned c.requires.clean c.folded-leaf.ensures in
    let run = subst₂ (λ x y. DoesRun g.S.Store (commits (swap_changes x y)) c.args.store.now c.run.new.store (Unit {0})) c.vhd_uuid.ensures c.vhd_uuid-2.ensures c.in_ok-run.ensures.run in
    done_end g.S.Store c.args.store.now c.args.memory.now h told c.requires.session.usable ready c.recount.new.attached c.recount.ensures run c.fold.new.tree c.fold.ensures.rows
    (record c.args.memory.now { tree = c.fold.new.tree; attached = c.recount.new.attached; operation = c.set.new.self })
    (ap (λ o. record c.args.memory.now { tree = c.fold.new.tree; attached = c.recount.new.attached; operation = o }) c.set.ensures) _

pub returns-clause-still : goal.returns-clause-still
returns-clause-still g c = λ told ready again.
    let h = to_swap _ _ (known c.args.memory.now) _ _ c.requires.session.orderly c.requires.session.tidy c.requires.planned c.requires.clean c.folded-leaf.ensures in
    let run = subst₂ (λ x y. DoesRun g.S.Store (commits (swap_changes x y)) c.args.store.now c.run.new.store (Unit {0})) c.vhd_uuid.ensures c.vhd_uuid-2.ensures c.in_ok-run.ensures.run in
    shows_still g.S.Store c.args.store.now c.args.memory.now h told c.requires.session.usable ready run

pub returns-clause-keeps : goal.returns-clause-keeps
returns-clause-keeps g c = c.in_ok-run.ensures.run.keeps tt

pub returns-clause-step : goal.returns-clause-step
returns-clause-step g c = run_steps c.in_ok-run.ensures.run

pub returns-clause-session_still : goal.returns-clause-session_still
returns-clause-session_still g c =
    let i = c.requires.session in
    let h = to_swap _ _ (known c.args.memory.now) _ _ c.requires.session.orderly c.requires.session.tidy c.requires.planned c.requires.clean c.folded-leaf.ensures in
    let run = subst₂ (λ x y. DoesRun g.S.Store (commits (swap_changes x y)) c.args.store.now c.run.new.store (Unit {0})) c.vhd_uuid.ensures c.vhd_uuid-2.ensures c.in_ok-run.ensures.run in
    subst (λ o. IsBetweenSteps g.S.Store c.run.new.store (record c.args.memory.now { tree = c.fold.new.tree; attached = c.recount.new.attached; operation = o })) (sym c.set.ensures)
    (record {
      usable = run.usable tt;
      orderly = orderly_end g.S.Store c.args.store.now c.args.memory.now h run tt c.fold.new.tree c.fold.ensures.rows c.recount.new.attached c.recount.ensures;
      tidy = tidy_end g.S.Store c.args.store.now c.args.memory.now h run tt c.fold.new.tree c.fold.ensures.rows c.recount.new.attached c.recount.ensures;
      true_images = true_end g.S.Store c.args.store.now c.run.new.store c.args.memory.now h run c.fold.new.tree c.fold.ensures.rows c.recount.new.attached i.true_images;
      rows = run.rows tt i.rows;
      tree_room = tree_room_then c.args.memory.now h c.fold.new.tree c.fold.ensures.rows c.fold.ensures.spare i.tree_room c.recount.new.attached;
      attachment_room = (let more = same_room h c.recount.new.attached c.recount.ensures in let had = i.attachment_room in omega (arith, more, had));
    })
