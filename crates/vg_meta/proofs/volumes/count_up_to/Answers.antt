use Rattle.std.proofs.Common.{rules}
use Rattle.std.proofs.lemmas.List.Sorted.{IsPartitionPoint-from_clause}
use Rattle.vg_meta.specs.Halves.{is_up_to}
use Rattle.vg_meta.proofs.Halving.{parted_by_name}
use Rattle.vg_meta.proofs.volumes.count_up_to.Goals as goal

pub returns-clause-up_to : goal.returns-clause-up_to
returns-clause-up_to c =
    IsPartitionPoint-from_clause (λ v. is_up_to c.args.name.now v.row.name) _ _ c.partition_point.ensures.partitioned
    (parted_by_name (λ v. v.row.name) c.args.name.now c.args.volumes.now c.requires.rising) (λ a r q k. search rules)
