use Rattle.std.proofs.Common.{◌∙◌}
use Rattle.vg_meta.specs.Roomy.{table_alone}
use Rattle.vg_volumes.specs.Stored.{stored}
use Rattle.sm_recover.proofs.FirstLaws.{first_same}
use Rattle.sm_recover.proofs.EndLaws.{first_allowed, first_few, first_table}
use Rattle.sm_recover.proofs.undoing.undo.Goals as goal

pub make_first-requires-clause-allowed : goal.make_first-requires-clause-allowed
make_first-requires-clause-allowed g c = first_allowed c.requires.endable

pub returns-in_err-make_first-clause-few : goal.returns-in_err-make_first-clause-few
returns-in_err-make_first-clause-few g c = first_few c.requires.endable (table_alone (g.S.Store.table c.make_first.new.store)) c.make_first.ensures.part.part

pub returns-in_err-make_first-clause-few_left : goal.returns-in_err-make_first-clause-few_left
returns-in_err-make_first-clause-few_left g c = λ told v image leaves. first_few c.requires.endable v (c.make_first.ensures.part.left told v image leaves).table

pub returns-clause-undone : goal.returns-clause-undone
returns-clause-undone g c = c.in_ok-make_first.ensures.all.table ∙ first_table (table_alone (g.S.Store.table c.args.store.now))

pub returns-clause-few : goal.returns-clause-few
returns-clause-few g c = first_few c.requires.endable (table_alone (g.S.Store.table c.make_first.new.store)) c.make_first.ensures.part.part

pub returns-clause-few_left : goal.returns-clause-few_left
returns-clause-few_left g c = λ told v image leaves. first_few c.requires.endable v (c.make_first.ensures.part.left told v image leaves).table

pub returns-in_err-make_first-clause-crash : goal.returns-in_err-make_first-clause-crash
returns-in_err-make_first-clause-crash g c = λ told v image leaves settled sound well.
    first_same (stored g.S.Store c.args.store.now) c.requires.endable v image (c.make_first.ensures.part.left told v image leaves) settled sound well

pub returns-clause-crash : goal.returns-clause-crash
returns-clause-crash g c = λ told v image leaves settled sound well.
    first_same (stored g.S.Store c.args.store.now) c.requires.endable v image (c.make_first.ensures.part.left told v image leaves) settled sound well
