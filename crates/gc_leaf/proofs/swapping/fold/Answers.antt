use Rattle.std.proofs.Common.{sym, ◌∙◌}
use Rattle.gc_leaf.proofs.SwapFold.{absent, parent_still, rows_are}
use Rattle.gc_leaf.proofs.swapping.fold.Goals as goal

pub unreachable-requires-in_default-take : goal.unreachable-requires-in_default-take
unreachable-requires-in_default-take c = parent_still c.args.tree.now c.requires c.take.new.self.rows c.take.ensures.rows (sym c.take-2.ensures.taken ∙ c.in_default-take.is)

pub add-requires-clause-absent : goal.add-requires-clause-absent
add-requires-clause-absent c = absent c.args.tree.now c.requires _ _ _ c.in-Some-take.row c.take.ensures.rows c.take-2.ensures.rows c.renamed.ensures

pub returns-clause-rows : goal.returns-clause-rows
returns-clause-rows c = rows_are c.args.tree.now c.requires _ _ _ _ c.in-Some-take.row c.take.ensures.rows (sym c.take-2.ensures.taken
    ∙ c.in-Some-take.is) c.take-2.ensures.rows c.renamed.ensures c.add.ensures.rows
