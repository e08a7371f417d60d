use Rattle.std.proofs.Common.{ap, ◌∙◌}
use Rattle.vhd_chain.specs.Trees.{row_name, tree_row}
use Rattle.vhd_chain.proofs.ByName.{tree_row-with_other}
use Rattle.sm_clone.proofs.memory.add_rows.Goals as goal

pub add-requires-2-clause-absent : goal.add-requires-2-clause-absent
add-requires-2-clause-absent c =
    let r = c.requires in
    ap (λ rs. tree_row rs (row_name c.args.own)) c.add.ensures.rows ∙ tree_row-with_other c.args.tree.now.rows c.args.base (row_name c.args.own) r.apart.0 ∙ r.no_own

pub add-requires-3-clause-absent : goal.add-requires-3-clause-absent
add-requires-3-clause-absent c =
    let r = c.requires in
    ap (λ rs. tree_row rs (row_name c.args.twin)) c.add-2.ensures.rows
    ∙ tree_row-with_other c.add.new.self.rows c.args.own (row_name c.args.twin) r.apart.2
    ∙ ap (λ rs. tree_row rs (row_name c.args.twin)) c.add.ensures.rows
    ∙ tree_row-with_other c.args.tree.now.rows c.args.base (row_name c.args.twin) r.apart.1
    ∙ r.no_twin
