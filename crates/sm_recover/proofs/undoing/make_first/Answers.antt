use Rattle.std.proofs.Common.{subst}
use Rattle.vg_meta.specs.Roomy.{table_alone}
use Rattle.sm_standing.specs.Entries.{folding, head}
use Rattle.sm_standing.specs.Opened.{undo_changes}
use Rattle.sm_recover.specs.Steps.{MakesPart, ends_copy, uncopied}
use Rattle.sm_recover.proofs.StepLaws.{front_part, then_part}
use Rattle.sm_recover.proofs.undoing.make_first.Goals as goal

pub returns-in_err-end_copy-clause-part : goal.returns-in_err-end_copy-clause-part
returns-in_err-end_copy-clause-part g c =
    let t = table_alone (g.S.Store.table c.args.store.now) in
    front_part (ends_copy (head (folding t))) (undo_changes (uncopied t)) c.end_copy.ensures.part

pub returns-in_err-undo_making-clause-part : goal.returns-in_err-undo_making-clause-part
returns-in_err-undo_making-clause-part g c =
    let t = table_alone (g.S.Store.table c.args.store.now) in
    let all = c.in_ok-end_copy.ensures.all in
    then_part (ends_copy (head (folding t))) (undo_changes (uncopied t)) c.end_copy.ensures.part all
    (subst (λ u. MakesPart g.S.Store (undo_changes u) c.end_copy.new.store c.undo_making.new.store) all.table c.undo_making.ensures.part)

pub returns-clause-part : goal.returns-clause-part
returns-clause-part g c =
    let t = table_alone (g.S.Store.table c.args.store.now) in
    let all = c.in_ok-end_copy.ensures.all in
    then_part (ends_copy (head (folding t))) (undo_changes (uncopied t)) c.end_copy.ensures.part all
    (subst (λ u. MakesPart g.S.Store (undo_changes u) c.end_copy.new.store c.undo_making.new.store) all.table c.undo_making.ensures.part)
