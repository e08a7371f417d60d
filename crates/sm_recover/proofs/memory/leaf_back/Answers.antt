use Rattle.sm_base.specs.declared.names.Name.TheVariants.{Vhd}
use Rattle.vhd_chain.proofs.ByName.{tree_row-without_same}
use Rattle.sm_recover.proofs.memory.leaf_back.Goals as goal

pub base_back-requires-else-is_leaf_renamed-clause-free : goal.base_back-requires-else-is_leaf_renamed-clause-free
base_back-requires-else-is_leaf_renamed-clause-free c = tree_row-without_same c.args.tree.now.rows (Vhd c.args.leaf.now)
