use Rattle.std.proofs.Common.{◌≡◌, Some, List, ap, sym, ◌∙◌}
use Rattle.sm_base.specs.Names.{IsName}
use Rattle.sm_base.specs.declared.names.Name.{Name}
use Rattle.vhd_chain.specs.Trees.{row_name, tree_row, with_row}
use Rattle.vhd_chain.specs.declared.rows.TreeRow.{TreeRow}
use Rattle.vhd_chain.proofs.ByName.{tree_row-without_same}
use Rattle.sm_ready.proofs.Orders.{In-tree_row}
use Rattle.sm_ready.proofs.RowLaws.{All-In}
use Rattle.sm_space.proofs.SizedLaws.{put_back, sized}
use Rattle.sm_space.proofs.inflating.set_extents.Goals as goal

pub add-requires-clause-name : goal.add-requires-clause-name
add-requires-clause-name c =
    let rows = c.args.memory.now.tree.rows in
    let found : tree_row rows c.args.name.now ≡ Some c.in-Some.row = sym c.take.ensures.taken ∙ c.in-Some.is in
    All-In (λ (r : TreeRow). IsName (row_name r)) rows c.in-Some.row c.rows-order.ensures.order.names (In-tree_row rows c.args.name.now c.in-Some.row found).0

pub add-requires-clause-absent : goal.add-requires-clause-absent
add-requires-clause-absent c =
    let rows = c.args.memory.now.tree.rows in
    let found : tree_row rows c.args.name.now ≡ Some c.in-Some.row = sym c.take.ensures.taken ∙ c.in-Some.is in
    ap (λ (n : Name). tree_row c.take.new.self.rows n) (In-tree_row rows c.args.name.now c.in-Some.row found).1
    ∙ ap (λ (rs : List TreeRow). tree_row rs c.args.name.now) c.take.ensures.rows ∙ tree_row-without_same rows c.args.name.now

pub returns-clause-rows : goal.returns-clause-rows
returns-clause-rows c =
    let rows = c.args.memory.now.tree.rows in
    let found : tree_row rows c.args.name.now ≡ Some c.in-Some.row = sym c.take.ensures.taken ∙ c.in-Some.is in
    c.add.ensures.rows ∙ ap (with_row (sized c.args.to c.in-Some.row)) c.take.ensures.rows ∙ put_back c.args.name.now c.args.to rows c.in-Some.row c.rows-order.ensures.order.rising found
