use Rattle.std.proofs.Common.{None, Some, arith, refl, ◌∙◌}
use Rattle.std.specs.Prelude.{option_copied}
use Rattle.sm_machine.specs.Lines.{number_of, sectors_of}
use Rattle.sm_script.proofs.CutLaws.{third_within}
use Rattle.sm_script.proofs.PartLaws.{after_write-is, after_write-other}
use Rattle.sm_script.proofs.parts.write.Goals as goal

pub returns-in_default : goal.returns-in_default
returns-in_default c = c.beside.ensures ∙ after_write-other _ c.in_default.ensures.other

pub returns-in_default-uuid_in : goal.returns-in_default-uuid_in
returns-in_default-uuid_in c =
    c.beside-in_default-uuid_in.ensures ∙ after_write-is _ c.in-Some.disk.now c.in-Some.sector.now c.in-Some.digits.now None (number_of c.in-Some.sector.now) (sectors_of c.in-Some.digits.now) c.in-Some.ensures.words
    c.in_default-uuid_in.ensures refl refl

pub returns-in_default-number_in : goal.returns-in_default-number_in
returns-in_default-number_in c =
    c.beside-in_default-number_in.ensures ∙ after_write-is _ c.in-Some.disk.now c.in-Some.sector.now c.in-Some.digits.now (Some c.in-Some-uuid_in.disk) None (sectors_of c.in-Some.digits.now) c.in-Some.ensures.words
    c.in-Some-uuid_in.ensures c.in_default-number_in.ensures refl

pub sectors_in-requires : goal.sectors_in-requires
sectors_in-requires c =
    omega (arith, c.requires, third_within (option_copied c.args.rest) c.in-Some.disk.now c.in-Some.sector.now c.in-Some.digits.now c.in-Some.ensures.words)

pub returns-in-Ok : goal.returns-in-Ok
returns-in-Ok c =
    c.write.ensures ∙ after_write-is _ c.in-Some.disk.now c.in-Some.sector.now c.in-Some.digits.now (Some c.in-Some-uuid_in.disk) (Some c.in-Some-number_in.sector) (Some c.in-Ok.bytes) c.in-Some.ensures.words
    c.in-Some-uuid_in.ensures c.in-Some-number_in.ensures c.in-Ok.ensures

pub returns-in-Err : goal.returns-in-Err
returns-in-Err c =
    c.beside-in-Err.ensures ∙ after_write-is _ c.in-Some.disk.now c.in-Some.sector.now c.in-Some.digits.now (Some c.in-Some-uuid_in.disk) (Some c.in-Some-number_in.sector) None c.in-Some.ensures.words
    c.in-Some-uuid_in.ensures c.in-Some-number_in.ensures c.in-Err.ensures
