use Rattle.std.proofs.Common.{rules}
use Rattle.std.proofs.lemmas.List.Sorted.{IsPartitionPoint-from_clause}
use Rattle.vg_meta.specs.Halves.{is_up_to}
use Rattle.vg_meta.proofs.Halving.{parted_by_name}
use Rattle.vhd_chain.specs.Trees.{row_name}
use Rattle.vhd_chain.proofs.rows.count_up_to.Goals as goal

pub returns-clause-up_to : goal.returns-clause-up_to
returns-clause-up_to c =
    IsPartitionPoint-from_clause (λ r. is_up_to c.args.name.now (row_name r)) _ _ c.partition_point.ensures.partitioned
    (parted_by_name row_name c.args.name.now c.args.rows.now c.requires.order.rising) (λ a r q k. search rules)
