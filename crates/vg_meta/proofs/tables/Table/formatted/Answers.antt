use Rattle.std.proofs.Common.{◌≡◌, ◌^◌, sym, subst, rules, arith}
use Rattle.vg_meta.specs.Tables.{VolumeTable, IsTable, new_table}
use Rattle.vg_meta.specs.Roomy.{rows_alone}
use Rattle.vg_meta.proofs.RangeLaws.{IsTable-new}
use Rattle.vg_meta.proofs.tables.Table.formatted.Goals as goal

pub invariant_of-result : goal.invariant_of-result
invariant_of-result c =
    let t : VolumeTable = record { sequence = 1; volumes = rows_alone c.push.new.self.items } in
    let same : t ≡ new_table c.args.extents_of_mgt = search rules in
    subst (IsTable (2 ^ 32)) (sym same) (IsTable-new (2 ^ 32) c.args.extents_of_mgt (omega arith))
