use Rattle.std.proofs.Common.{rules, ltb-false, sym, ap, ◌∙◌, arith}
use Rattle.std.proofs.lemmas.Bool.{iff_false}
use Rattle.std.proofs.lemmas.List.{get_or_default}
use Rattle.std.proofs.lemmas.List.Sorted.{IsPartitionPoint-from_clause}
use Rattle.std.specs.Ordering.{is_lt}
use Rattle.sm_base.specs.Names.{name_cmp}
use Rattle.vhd_chain.specs.Trees.{row_name}
use Rattle.vhd_chain.specs.declared.rows.TreeRow.{TreeRow}
use Rattle.gc_plan.proofs.CountLaws.{none_parted, parted}
use Rattle.gc_plan.proofs.counting.place.Goals as goal

pub returns-in_err-row-clause-none : goal.returns-in_err-row-clause-none
returns-in_err-row-clause-none c =
    let rs = c.args.rows.now in
    let n = c.args.name.now in
    let point = IsPartitionPoint-from_clause (λ (r : TreeRow). is_lt (name_cmp (row_name r) n)) rs _ c.partition_point-at.ensures.partitioned
    (parted rs n c.requires.ordered) (λ a r q k. search rules) in
    rw c.from_residual.ensures (none_parted rs n c.partition_point-at.result c.requires.ordered point
    (λ d lt h. omega (arith, lt, ltb-false _ _ (sym c.in_err-row.ensures.lookup.0))))

pub returns-else-is_named-clause-none : goal.returns-else-is_named-clause-none
returns-else-is_named-clause-none c =
    let rs = c.args.rows.now in
    let n = c.args.name.now in
    let at = c.partition_point-at.result in
    let point = IsPartitionPoint-from_clause (λ (r : TreeRow). is_lt (name_cmp (row_name r) n)) rs _ c.partition_point-at.ensures.partitioned
    (parted rs n c.requires.ordered) (λ a r q k. search rules) in
    none_parted rs n at c.requires.ordered point
    (λ d lt h. iff_false c.is_named.ensures c.if-is_named.false (ap row_name (c.in_ok-row.ensures.lookup.1 ∙ get_or_default rs at _ d lt) ∙ h))
