use Rattle.std.proofs.Common.{refl}
use Rattle.sm_base.specs.Names.{is_base}
use Rattle.vg_meta.specs.Tables.{row_of, name_eq}
use Rattle.sm_standing.specs.Entries.{is_at_stage, image_with}
use Rattle.sm_standing.specs.Checks.{first_name, record_volume_fault, misnamed_fault, second_entry_fault, lost_entry_fault, old_leaf_fault, invalid_fault}
use Rattle.examples_standing.proofs.faults.example_second_entry.Goals as goal

pub returns-clause-folding : goal.returns-clause-folding
unfolding first_name record_volume_fault misnamed_fault second_entry_fault lost_entry_fault old_leaf_fault invalid_fault is_at_stage image_with row_of name_eq is_base
returns-clause-folding c = λ area. refl

pub returns-clause-making : goal.returns-clause-making
unfolding first_name record_volume_fault misnamed_fault second_entry_fault lost_entry_fault old_leaf_fault invalid_fault is_at_stage image_with row_of name_eq is_base
returns-clause-making c = λ area. refl

pub returns-clause-one_of_each : goal.returns-clause-one_of_each
unfolding first_name record_volume_fault misnamed_fault second_entry_fault lost_entry_fault old_leaf_fault invalid_fault is_at_stage image_with row_of name_eq is_base
returns-clause-one_of_each c = λ area. refl
