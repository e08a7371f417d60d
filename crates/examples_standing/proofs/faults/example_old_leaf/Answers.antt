use Rattle.std.proofs.Common.{refl}
use Rattle.sm_base.specs.Names.{is_base}
use Rattle.vg_meta.specs.Tables.{row_of, name_eq}
use Rattle.sm_standing.specs.Entries.{is_at_stage, image_with}
use Rattle.sm_standing.specs.Checks.{first_name, record_volume_fault, misnamed_fault, second_entry_fault, lost_entry_fault, old_leaf_fault, invalid_fault}
use Rattle.examples_standing.proofs.faults.example_old_leaf.Goals as goal

pub returns-clause-alone : goal.returns-clause-alone
unfolding first_name record_volume_fault misnamed_fault second_entry_fault lost_entry_fault old_leaf_fault invalid_fault is_at_stage image_with row_of name_eq is_base
returns-clause-alone c = λ area. refl

pub returns-clause-other : goal.returns-clause-other
unfolding first_name record_volume_fault misnamed_fault second_entry_fault lost_entry_fault old_leaf_fault invalid_fault is_at_stage image_with row_of name_eq is_base
returns-clause-other c = λ area. refl

pub returns-clause-copied : goal.returns-clause-copied
unfolding first_name record_volume_fault misnamed_fault second_entry_fault lost_entry_fault old_leaf_fault invalid_fault is_at_stage image_with row_of name_eq is_base
returns-clause-copied c = λ area. refl

pub returns-clause-renamed : goal.returns-clause-renamed
unfolding first_name record_volume_fault misnamed_fault second_entry_fault lost_entry_fault old_leaf_fault invalid_fault is_at_stage image_with row_of name_eq is_base
returns-clause-renamed c = λ area. refl

pub returns-clause-swapped : goal.returns-clause-swapped
unfolding first_name record_volume_fault misnamed_fault second_entry_fault lost_entry_fault old_leaf_fault invalid_fault is_at_stage image_with row_of name_eq is_base
returns-clause-swapped c = λ area. refl

pub returns-clause-forked : goal.returns-clause-forked
unfolding first_name record_volume_fault misnamed_fault second_entry_fault lost_entry_fault old_leaf_fault invalid_fault is_at_stage image_with row_of name_eq is_base
returns-clause-forked c = λ area. refl
