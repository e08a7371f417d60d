use Rattle.std.proofs.Common.{rules, sym}
use Rattle.std.proofs.lemmas.List.Sorted.{IsPartitionPoint-from_clause}
use Rattle.std.specs.Ordering.{is_le}
use Rattle.sm_mgt.specs.Counts.{uuid_order}
use Rattle.sm_mgt.proofs.CountLaws.{parted_up_to, point_counts}
use Rattle.sm_mgt.proofs.counts.count_up_to.Goals as goal

pub returns : goal.returns
returns c =
    let u = c.args.uuid.now in
    let us = c.args.uuids.now in
    sym (point_counts (λ v. is_le (uuid_order v u)) us c.partition_point.result c.partition_point.ensures.bound
    (IsPartitionPoint-from_clause (λ v. is_le (uuid_order v u)) us _ c.partition_point.ensures.partitioned (parted_up_to u us c.requires.sorted) (λ a r q k. search rules)))
