use Rattle.std.proofs.Common.{refl}
use Rattle.sm_base.specs.Names.{is_base}
use Rattle.vg_meta.specs.Tables.{row_of, name_eq}
use Rattle.sm_standing.specs.Entries.{is_at_stage, image_with}
use Rattle.sm_standing.specs.Checks.{first_name, record_volume_fault, misnamed_fault, second_entry_fault, lost_entry_fault, old_leaf_fault, invalid_fault}
use Rattle.examples_standing.proofs.faults.example_misnamed.Goals as goal

pub returns-clause-twin : goal.returns-clause-twin
unfolding first_name record_volume_fault misnamed_fault second_entry_fault lost_entry_fault old_leaf_fault invalid_fault is_at_stage image_with row_of name_eq is_base
returns-clause-twin c = λ area. refl

pub returns-clause-ahead : goal.returns-clause-ahead
unfolding first_name record_volume_fault misnamed_fault second_entry_fault lost_entry_fault old_leaf_fault invalid_fault is_at_stage image_with row_of name_eq is_base
returns-clause-ahead c = λ area. refl

pub returns-clause-past : goal.returns-clause-past
unfolding first_name record_volume_fault misnamed_fault second_entry_fault lost_entry_fault old_leaf_fault invalid_fault is_at_stage image_with row_of name_eq is_base
returns-clause-past c = λ area. refl
