use Rattle.std.proofs.lemmas.Result.{IfOk-weaker}
use Rattle.sm_base.specs.declared.names.Name.TheVariants.{Cbt}
use Rattle.vg_volumes.proofs.StoredLaws.{works_then, works_writes}
use Rattle.sm_cbt.proofs.FillLaws.{are_filled}
use Rattle.sm_cbt.proofs.volumes.fill.Goals as goal

pub returns-clause-works : goal.returns-clause-works
returns-clause-works g c = works_then (works_writes c.write_head.ensures.writes) (works_writes c.write_bits.ensures.writes)

pub returns-clause-filled : goal.returns-clause-filled
returns-clause-filled g c =
    IfOk-weaker c.write_bits.result _ _ (λ v h. are_filled (Cbt c.args.log.now.disk) c.args.log.now c.in_ok-write_head.ensures.wrote h) c.write_bits.ensures.wrote
