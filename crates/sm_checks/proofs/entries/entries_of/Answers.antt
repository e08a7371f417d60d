use Rattle.std.proofs.Common.{◌-◌, ◌^◌, ◌∙◌, List, not, drop, length, sym, ap, subst, arith, rules}
use Rattle.std.specs.List.{filter}
use Rattle.std.proofs.lemmas.List.{length-drop, take_all}
use Rattle.std.proofs.lemmas.List.Sorted.{IsPartitionPoint-from_clause}
use Rattle.sm_base.specs.Kinds.{is_entry}
use Rattle.vg_meta.specs.Halves.{IsInOrder}
use Rattle.vg_meta.specs.Roomy.{RoomyRow}
use Rattle.vg_meta.proofs.Places.{row_name, in_order}
use Rattle.sm_checks.proofs.EntryOrder.{entries_parted, entries_behind}
use Rattle.sm_checks.proofs.entries.entries_of.Goals as goal

pub returns : goal.returns
returns c =
    let hs = c.volumes-volumes.result.now in
    let n = c.partition_point-first.result in
    let order = subst (λ (l : List RoomyRow). IsInOrder row_name l) (sym c.volumes-volumes.ensures.volumes) (in_order (2 ^ 32) c.args.table.now c.volumes-volumes.ensures.table) in
    let point = IsPartitionPoint-from_clause (λ v. not (is_entry v.row.name)) _ _ c.partition_point-first.ensures.partitioned (entries_parted hs order) (λ a r q k. search rules) in
    take_all (length hs - n) (drop n hs) (omega (arith, length-drop n hs)) ∙ entries_behind hs n c.partition_point-first.ensures.bound point
    ∙ ap (filter (λ (v : RoomyRow). is_entry v.row.name)) c.volumes-volumes.ensures.volumes
