use Rattle.std.proofs.Common.{refl, ap}
use Rattle.sm_base.specs.Names.{is_base}
use Rattle.vg_meta.specs.Tables.{row_of, name_eq}
use Rattle.sm_standing.specs.Entries.{is_at_stage, image_with}
use Rattle.sm_standing.specs.Checks.{first_name, record_volume_fault, misnamed_fault, second_entry_fault, lost_entry_fault, old_leaf_fault, invalid_fault}
use Rattle.sm_standing.specs.Outlines.{link_of}
use Rattle.examples_standing.proofs.FaultExamples.{invalid_image, valid_image}
use Rattle.examples_standing.proofs.faults.example_invalid.Goals as goal

pub returns-clause-oversize : goal.returns-clause-oversize
unfolding first_name record_volume_fault misnamed_fault second_entry_fault lost_entry_fault old_leaf_fault invalid_fault is_at_stage image_with row_of name_eq is_base
returns-clause-oversize c = λ area. refl

pub returns-clause-largest : goal.returns-clause-largest
unfolding first_name record_volume_fault misnamed_fault second_entry_fault lost_entry_fault old_leaf_fault invalid_fault is_at_stage image_with row_of name_eq is_base
returns-clause-largest c = λ area. refl

pub returns-clause-fresh : goal.returns-clause-fresh
unfolding first_name record_volume_fault misnamed_fault second_entry_fault lost_entry_fault old_leaf_fault invalid_fault is_at_stage image_with row_of name_eq is_base
returns-clause-fresh c = λ area. refl

pub returns-clause-unreadable : goal.returns-clause-unreadable
returns-clause-unreadable c = λ area is. invalid_image area (ap link_of is)

pub returns-clause-readable : goal.returns-clause-readable
returns-clause-readable c = λ area i is. valid_image area _ (ap link_of is)
