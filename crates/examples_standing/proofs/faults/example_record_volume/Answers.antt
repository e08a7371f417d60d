use Rattle.std.proofs.Common.{refl}
use Rattle.sm_base.specs.Names.{is_base}
use Rattle.vg_meta.specs.Tables.{row_of, name_eq}
use Rattle.sm_standing.specs.Entries.{is_at_stage, image_with}
use Rattle.sm_standing.specs.Checks.{first_name, record_volume_fault, misnamed_fault, second_entry_fault, lost_entry_fault, old_leaf_fault, invalid_fault}
use Rattle.examples_standing.proofs.FaultExamples.{volume_few, volume_many, volume_right}
use Rattle.examples_standing.proofs.faults.example_record_volume.Goals as goal

pub returns-clause-gone : goal.returns-clause-gone
unfolding first_name record_volume_fault misnamed_fault second_entry_fault lost_entry_fault old_leaf_fault invalid_fault is_at_stage image_with row_of name_eq is_base
returns-clause-gone c = λ area. refl

pub returns-clause-few : goal.returns-clause-few
returns-clause-few c = volume_few

pub returns-clause-many : goal.returns-clause-many
returns-clause-many c = volume_many

pub returns-clause-right : goal.returns-clause-right
returns-clause-right c = volume_right
