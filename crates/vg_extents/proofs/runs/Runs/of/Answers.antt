use Rattle.std.proofs.Common.{◌∙◌}
use Rattle.std.proofs.lemmas.List.{take_all}
use Rattle.std.proofs.lemmas.Result.{IfOk-weaker}
use Rattle.vg_meta.specs.Roomy.{table_alone}
use Rattle.vg_meta.specs.Tables.{free}
use Rattle.vg_extents.proofs.CountLaws.{length-free-le}
use Rattle.vg_extents.proofs.runs.Runs.of.Goals as goal

pub returns : goal.returns
returns c =
    let t = table_alone c.args.table.now in
    record { free = IfOk-weaker c.least_of.result _ _ (λ runs is. is ∙ take_all c.args.extents (free c.args.extents t) (length-free-le c.args.extents t)) c.least_of.ensures }
