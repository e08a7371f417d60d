use Rattle.std.proofs.Common.{[], ◌∷◌}
use Rattle.vg_meta.specs.Changes.{applied}
use Rattle.vg_meta.specs.Roomy.{table_alone}
use Rattle.vg_meta.specs.declared.changes.Change.TheVariants.{Remove}
use Rattle.vhd_chain.specs.Trees.{tree_row}
use Rattle.sm_journal.specs.Entries.{putting}
use Rattle.sm_mgt.proofs.ClearLaws.{on_err}
use Rattle.sm_calls.specs.Calls.{Commit}
use Rattle.sm_calls.proofs.StoreLaws.{can_commit, can_next, run_commits, run_fails, run_front, run_then}
use Rattle.sm_space.specs.Inflating.{footer_call}
use Rattle.sm_space.proofs.GrowthLaws.{end_there, footer_run}
use Rattle.sm_space.proofs.inflating.run_growth.Goals as goal

pub put-requires : goal.put-requires
put-requires g c = can_commit c.requires.can

pub returns-in_err-put-clause-cut : goal.returns-in_err-put-clause-cut
returns-in_err-put-clause-cut g c =
    let a = c.args.store.now in
    let e = c.args.entry in
    let footer = footer_call (g.S.Store.site a) (applied (applied (table_alone (g.S.Store.table a)) (putting e)) c.args.growth) c.args.name.now (tree_row c.args.tree.now.rows c.args.name.now) c.args.to in
    on_err _ (run_front (Commit (putting e) ∷ []) (Commit c.args.growth ∷ footer ∷ Commit (Remove e) ∷ []) (run_fails c.in_err-put.ensures.fails c.put.ensures.crash))

pub commit-requires : goal.commit-requires
commit-requires g c =
    let a = c.args.store.now in
    let e = c.args.entry in
    let footer = footer_call (g.S.Store.site a) (applied (applied (table_alone (g.S.Store.table a)) (putting e)) c.args.growth) c.args.name.now (tree_row c.args.tree.now.rows c.args.name.now) c.args.to in
    let can = c.requires.can in
    can_commit (can_next (Commit (putting e) ∷ []) (Commit c.args.growth ∷ footer ∷ Commit (Remove e) ∷ []) tt can (run_commits (can_commit can) c.in_ok-put.ensures.commits c.put.ensures.crash))

pub returns-in_err-commit-clause-cut : goal.returns-in_err-commit-clause-cut
returns-in_err-commit-clause-cut g c =
    let a = c.args.store.now in
    let e = c.args.entry in
    let footer = footer_call (g.S.Store.site a) (applied (applied (table_alone (g.S.Store.table a)) (putting e)) c.args.growth) c.args.name.now (tree_row c.args.tree.now.rows c.args.name.now) c.args.to in
    let put = run_commits (can_commit c.requires.can) c.in_ok-put.ensures.commits c.put.ensures.crash in
    on_err _ (run_front (Commit (putting e) ∷ Commit c.args.growth ∷ []) (footer ∷ Commit (Remove e) ∷ [])
    (run_then (Commit (putting e) ∷ []) (Commit c.args.growth ∷ []) tt put c.in_err-commit.ensures.cut))

pub end_image-requires : goal.end_image-requires
end_image-requires g c =
    let e = c.args.entry in
    let put = run_commits (can_commit c.requires.can) c.in_ok-put.ensures.commits c.put.ensures.crash in
    record { image = end_there tt (run_then (Commit (putting e) ∷ []) (Commit c.args.growth ∷ []) tt put c.in_ok-commit.ensures.run) c.requires.image }

pub returns-in_err-end_image-clause-cut : goal.returns-in_err-end_image-clause-cut
returns-in_err-end_image-clause-cut g c =
    let a = c.args.store.now in
    let e = c.args.entry in
    let footer = footer_call (g.S.Store.site a) (applied (applied (table_alone (g.S.Store.table a)) (putting e)) c.args.growth) c.args.name.now (tree_row c.args.tree.now.rows c.args.name.now) c.args.to in
    let put = run_commits (can_commit c.requires.can) c.in_ok-put.ensures.commits c.put.ensures.crash in
    let grown = run_then (Commit (putting e) ∷ []) (Commit c.args.growth ∷ []) tt put c.in_ok-commit.ensures.run in
    let w = c.end_image.ensures in
    on_err _ (run_front (Commit (putting e) ∷ Commit c.args.growth ∷ footer ∷ []) (Commit (Remove e) ∷ [])
    (footer_run tt grown c.requires.image {ok = ⊥} w.works w.others w.stays (λ x. absurd x) (g.met.S.Store.leaves_now c.end_image.new.store)))

pub drop_entry-requires : goal.drop_entry-requires
drop_entry-requires g c =
    let a = c.args.store.now in
    let e = c.args.entry in
    let footer = footer_call (g.S.Store.site a) (applied (applied (table_alone (g.S.Store.table a)) (putting e)) c.args.growth) c.args.name.now (tree_row c.args.tree.now.rows c.args.name.now) c.args.to in
    let put = run_commits (can_commit c.requires.can) c.in_ok-put.ensures.commits c.put.ensures.crash in
    let grown = run_then (Commit (putting e) ∷ []) (Commit c.args.growth ∷ []) tt put c.in_ok-commit.ensures.run in
    let w = c.end_image.ensures in
    let written = footer_run tt grown c.requires.image {ok = Unit {0}} w.works w.others w.stays (λ fine. c.in_ok-end_image.ensures.ends) (g.met.S.Store.leaves_now c.end_image.new.store) in
    can_commit (can_next (Commit (putting e) ∷ Commit c.args.growth ∷ footer ∷ []) (Commit (Remove e) ∷ []) tt c.requires.can written)

pub returns-in_err-drop_entry-clause-cut : goal.returns-in_err-drop_entry-clause-cut
returns-in_err-drop_entry-clause-cut g c =
    let a = c.args.store.now in
    let e = c.args.entry in
    let footer = footer_call (g.S.Store.site a) (applied (applied (table_alone (g.S.Store.table a)) (putting e)) c.args.growth) c.args.name.now (tree_row c.args.tree.now.rows c.args.name.now) c.args.to in
    let put = run_commits (can_commit c.requires.can) c.in_ok-put.ensures.commits c.put.ensures.crash in
    let grown = run_then (Commit (putting e) ∷ []) (Commit c.args.growth ∷ []) tt put c.in_ok-commit.ensures.run in
    let w = c.end_image.ensures in
    let written = footer_run tt grown c.requires.image {ok = Unit {0}} w.works w.others w.stays (λ fine. c.in_ok-end_image.ensures.ends) (g.met.S.Store.leaves_now c.end_image.new.store) in
    on_err _ (run_then (Commit (putting e) ∷ Commit c.args.growth ∷ footer ∷ []) (Commit (Remove e) ∷ []) tt written
    (run_fails c.in_err-drop_entry.ensures.fails c.drop_entry.ensures.crash))

pub returns-clause-run : goal.returns-clause-run
returns-clause-run g c =
    let a = c.args.store.now in
    let e = c.args.entry in
    let footer = footer_call (g.S.Store.site a) (applied (applied (table_alone (g.S.Store.table a)) (putting e)) c.args.growth) c.args.name.now (tree_row c.args.tree.now.rows c.args.name.now) c.args.to in
    let put = run_commits (can_commit c.requires.can) c.in_ok-put.ensures.commits c.put.ensures.crash in
    let grown = run_then (Commit (putting e) ∷ []) (Commit c.args.growth ∷ []) tt put c.in_ok-commit.ensures.run in
    let w = c.end_image.ensures in
    let written = footer_run tt grown c.requires.image {ok = Unit {0}} w.works w.others w.stays (λ fine. c.in_ok-end_image.ensures.ends) (g.met.S.Store.leaves_now c.end_image.new.store) in
    let can = can_next (Commit (putting e) ∷ Commit c.args.growth ∷ footer ∷ []) (Commit (Remove e) ∷ []) tt c.requires.can written in
    run_then (Commit (putting e) ∷ Commit c.args.growth ∷ footer ∷ []) (Commit (Remove e) ∷ []) tt written (run_commits (can_commit can) c.in_ok-drop_entry.ensures.commits c.drop_entry.ensures.crash)
