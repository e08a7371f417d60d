use Rattle.std.proofs.Common.{◌++◌}
use Rattle.vg_meta.specs.Roomy.{table_alone}
use Rattle.sm_standing.specs.Entries.{head, making}
use Rattle.sm_standing.specs.Opened.{leaf_gone, parent_changes}
use Rattle.sm_recover.specs.Ending.{name_taken}
use Rattle.sm_recover.proofs.StepLaws.{front_part, then_part}
use Rattle.sm_recover.proofs.folding.end_renamed.Goals as goal

pub returns-in_err-undo_parent-clause-part : goal.returns-in_err-undo_parent-clause-part
returns-in_err-undo_parent-clause-part g c =
    let t = table_alone (g.S.Store.table c.args.store.now) in
    front_part (parent_changes t c.args.parent (head (making t))) (name_taken c.args.leaf c.args.parent ++ leaf_gone c.args.leaf c.args.parent) c.undo_parent.ensures.part

pub returns-in_err-rename_parent-clause-part : goal.returns-in_err-rename_parent-clause-part
returns-in_err-rename_parent-clause-part g c =
    let t = table_alone (g.S.Store.table c.args.store.now) in
    let ys = name_taken c.args.leaf c.args.parent in
    let zs = leaf_gone c.args.leaf c.args.parent in
    then_part (parent_changes t c.args.parent (head (making t))) (ys ++ zs) c.undo_parent.ensures.part c.in_ok-undo_parent.ensures.all (front_part ys zs c.rename_parent.ensures.part)

pub returns-in_err-drop_leaf-clause-part : goal.returns-in_err-drop_leaf-clause-part
returns-in_err-drop_leaf-clause-part g c =
    let t = table_alone (g.S.Store.table c.args.store.now) in
    let ys = name_taken c.args.leaf c.args.parent in
    let zs = leaf_gone c.args.leaf c.args.parent in
    then_part (parent_changes t c.args.parent (head (making t))) (ys ++ zs) c.undo_parent.ensures.part c.in_ok-undo_parent.ensures.all
    (then_part ys zs c.rename_parent.ensures.part c.in_ok-rename_parent.ensures.all c.drop_leaf.ensures.part)

pub returns-clause-part : goal.returns-clause-part
returns-clause-part g c =
    let t = table_alone (g.S.Store.table c.args.store.now) in
    let ys = name_taken c.args.leaf c.args.parent in
    let zs = leaf_gone c.args.leaf c.args.parent in
    then_part (parent_changes t c.args.parent (head (making t))) (ys ++ zs) c.undo_parent.ensures.part c.in_ok-undo_parent.ensures.all
    (then_part ys zs c.rename_parent.ensures.part c.in_ok-rename_parent.ensures.all c.drop_leaf.ensures.part)
