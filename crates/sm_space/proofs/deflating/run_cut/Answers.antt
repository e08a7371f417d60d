use Rattle.std.proofs.Common.{[], ◌∷◌}
use Rattle.vg_meta.specs.Roomy.{table_alone}
use Rattle.vg_meta.specs.declared.changes.Change.TheVariants.{Cut}
use Rattle.vhd_chain.specs.Trees.{tree_row}
use Rattle.sm_mgt.proofs.ClearLaws.{on_err}
use Rattle.sm_calls.specs.Calls.{Commit}
use Rattle.sm_calls.proofs.StoreLaws.{can_commit, can_next, run_front, run_then}
use Rattle.sm_space.specs.Inflating.{footer_call}
use Rattle.sm_space.proofs.WritingLaws.{writes_footer}
use Rattle.sm_space.proofs.deflating.run_cut.Goals as goal

pub returns-in_err-end_image-clause-cut : goal.returns-in_err-end_image-clause-cut
returns-in_err-end_image-clause-cut g c =
    let a = c.args.store.now in
    let n = c.args.name.now in
    let footer = footer_call (g.S.Store.site a) (table_alone (g.S.Store.table a)) n (tree_row c.args.tree.now.rows n) c.args.to in
    let w = c.end_image.ensures in
    on_err _ (run_front (footer ∷ []) (Commit (Cut n c.args.to) ∷ [])
    (writes_footer c.requires.image {ok = ⊥} c.requires.can.usable w.works w.others w.stays (λ x. absurd x) (g.met.S.Store.leaves_now c.end_image.new.store)))

pub commit-requires : goal.commit-requires
commit-requires g c =
    let a = c.args.store.now in
    let n = c.args.name.now in
    let footer = footer_call (g.S.Store.site a) (table_alone (g.S.Store.table a)) n (tree_row c.args.tree.now.rows n) c.args.to in
    let w = c.end_image.ensures in
    let written = writes_footer c.requires.image {ok = Unit {0}} c.requires.can.usable w.works w.others w.stays (λ fine. c.in_ok-end_image.ensures.ends) (g.met.S.Store.leaves_now c.end_image.new.store) in
    can_commit (can_next (footer ∷ []) (Commit (Cut n c.args.to) ∷ []) tt c.requires.can written)

pub returns-in_err-commit-clause-cut : goal.returns-in_err-commit-clause-cut
returns-in_err-commit-clause-cut g c =
    let a = c.args.store.now in
    let n = c.args.name.now in
    let footer = footer_call (g.S.Store.site a) (table_alone (g.S.Store.table a)) n (tree_row c.args.tree.now.rows n) c.args.to in
    let w = c.end_image.ensures in
    let written = writes_footer c.requires.image {ok = Unit {0}} c.requires.can.usable w.works w.others w.stays (λ fine. c.in_ok-end_image.ensures.ends) (g.met.S.Store.leaves_now c.end_image.new.store) in
    on_err _ (run_then (footer ∷ []) (Commit (Cut n c.args.to) ∷ []) tt written c.in_err-commit.ensures.cut)

pub returns-clause-run : goal.returns-clause-run
returns-clause-run g c =
    let a = c.args.store.now in
    let n = c.args.name.now in
    let footer = footer_call (g.S.Store.site a) (table_alone (g.S.Store.table a)) n (tree_row c.args.tree.now.rows n) c.args.to in
    let w = c.end_image.ensures in
    let written = writes_footer c.requires.image {ok = Unit {0}} c.requires.can.usable w.works w.others w.stays (λ fine. c.in_ok-end_image.ensures.ends) (g.met.S.Store.leaves_now c.end_image.new.store) in
    run_then (footer ∷ []) (Commit (Cut n c.args.to) ∷ []) tt written c.in_ok-commit.ensures.run
