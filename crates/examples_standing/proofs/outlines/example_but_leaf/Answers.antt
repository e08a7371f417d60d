use Rattle.std.proofs.Common.{◌≡◌, inl, inr, false, None, refl, ap}
use Rattle.sm_base.specs.Names.{is_base}
use Rattle.sm_base.specs.Numbers.{div_up}
use Rattle.vg_layout.specs.Places.{record_extents}
use Rattle.vg_meta.specs.Tables.{Row, row_of, name_eq}
use Rattle.common_laws.specs.Lists.{In, numbers}
use Rattle.sm_machine.specs.Shapes.{same_image}
use Rattle.sm_standing.specs.Checks.{fault_of, is_leaf_entry, record_volume_fault, too_many_fault, misnamed_fault, second_entry_fault, lost_entry_fault, old_leaf_fault, invalid_fault, tree_fault, entry_link_fault, is_entry_linked, children, chain_length, record_fault, disk_fault, first_name}
use Rattle.sm_standing.specs.Entries.{is_at_stage, image_with}
use Rattle.sm_standing.specs.Outlines.{outline_records}
use Rattle.sm_standing.specs.Standing.{standing_volume, uuids, in_order, with_uuid}
use Rattle.examples_standing.specs.SmallOutlines.{mixed_outline}
use Rattle.examples_standing.proofs.outlines.example_but_leaf.Goals as goal

pub returns-clause-passes : goal.returns-clause-passes
unfolding fault_of record_volume_fault too_many_fault misnamed_fault second_entry_fault lost_entry_fault old_leaf_fault invalid_fault tree_fault entry_link_fault is_entry_linked children chain_length record_fault disk_fault first_name outline_records standing_volume uuids in_order with_uuid row_of name_eq record_extents div_up is_base numbers is_at_stage image_with same_image
returns-clause-passes c = refl

pub returns-clause-quiet : goal.returns-clause-quiet
unfolding fault_of record_volume_fault too_many_fault misnamed_fault second_entry_fault lost_entry_fault old_leaf_fault invalid_fault tree_fault entry_link_fault is_entry_linked children chain_length record_fault disk_fault first_name outline_records standing_volume uuids in_order with_uuid row_of name_eq record_extents div_up is_base numbers is_at_stage image_with same_image
returns-clause-quiet c = record { sound = refl; no_leaf = none }
  where
    none : (r : Row) → In r (mixed_outline false false None).table.volumes → is_leaf_entry r.name ≡ false
    none r (inl is) = ap (λ (q : Row). is_leaf_entry q.name) is
    none r (inr (inl is)) = ap (λ (q : Row). is_leaf_entry q.name) is
    none r (inr (inr (inl is))) = ap (λ (q : Row). is_leaf_entry q.name) is
    none r (inr (inr (inr other))) = absurd other

pub returns-clause-hidden : goal.returns-clause-hidden
unfolding fault_of record_volume_fault too_many_fault misnamed_fault second_entry_fault lost_entry_fault old_leaf_fault invalid_fault tree_fault entry_link_fault is_entry_linked children chain_length record_fault disk_fault first_name outline_records standing_volume uuids in_order with_uuid row_of name_eq record_extents div_up is_base numbers is_at_stage image_with same_image
returns-clause-hidden c = refl

pub returns-clause-child : goal.returns-clause-child
unfolding fault_of record_volume_fault too_many_fault misnamed_fault second_entry_fault lost_entry_fault old_leaf_fault invalid_fault tree_fault entry_link_fault is_entry_linked children chain_length record_fault disk_fault first_name outline_records standing_volume uuids in_order with_uuid row_of name_eq record_extents div_up is_base numbers is_at_stage image_with same_image
returns-clause-child c = refl

pub returns-clause-parent : goal.returns-clause-parent
unfolding fault_of record_volume_fault too_many_fault misnamed_fault second_entry_fault lost_entry_fault old_leaf_fault invalid_fault tree_fault entry_link_fault is_entry_linked children chain_length record_fault disk_fault first_name outline_records standing_volume uuids in_order with_uuid row_of name_eq record_extents div_up is_base numbers is_at_stage image_with same_image
returns-clause-parent c = refl

pub returns-clause-old : goal.returns-clause-old
unfolding fault_of record_volume_fault too_many_fault misnamed_fault second_entry_fault lost_entry_fault old_leaf_fault invalid_fault tree_fault entry_link_fault is_entry_linked children chain_length record_fault disk_fault first_name outline_records standing_volume uuids in_order with_uuid row_of name_eq record_extents div_up is_base numbers is_at_stage image_with same_image
returns-clause-old c = refl

pub returns-clause-enlarging : goal.returns-clause-enlarging
unfolding fault_of record_volume_fault too_many_fault misnamed_fault second_entry_fault lost_entry_fault old_leaf_fault invalid_fault tree_fault entry_link_fault is_entry_linked children chain_length record_fault disk_fault first_name outline_records standing_volume uuids in_order with_uuid row_of name_eq record_extents div_up is_base numbers is_at_stage image_with same_image
returns-clause-enlarging c = refl

pub returns-clause-second : goal.returns-clause-second
unfolding fault_of record_volume_fault too_many_fault misnamed_fault second_entry_fault lost_entry_fault old_leaf_fault invalid_fault tree_fault entry_link_fault is_entry_linked children chain_length record_fault disk_fault first_name outline_records standing_volume uuids in_order with_uuid row_of name_eq record_extents div_up is_base numbers is_at_stage image_with same_image
returns-clause-second c = refl

pub returns-clause-lost : goal.returns-clause-lost
unfolding fault_of record_volume_fault too_many_fault misnamed_fault second_entry_fault lost_entry_fault old_leaf_fault invalid_fault tree_fault entry_link_fault is_entry_linked children chain_length record_fault disk_fault first_name outline_records standing_volume uuids in_order with_uuid row_of name_eq record_extents div_up is_base numbers is_at_stage image_with same_image
returns-clause-lost c = refl

pub returns-clause-other : goal.returns-clause-other
unfolding fault_of record_volume_fault too_many_fault misnamed_fault second_entry_fault lost_entry_fault old_leaf_fault invalid_fault tree_fault entry_link_fault is_entry_linked children chain_length record_fault disk_fault first_name outline_records standing_volume uuids in_order with_uuid row_of name_eq record_extents div_up is_base numbers is_at_stage image_with same_image
returns-clause-other c = refl

pub returns-clause-fork : goal.returns-clause-fork
unfolding fault_of record_volume_fault too_many_fault misnamed_fault second_entry_fault lost_entry_fault old_leaf_fault invalid_fault tree_fault entry_link_fault is_entry_linked children chain_length record_fault disk_fault first_name outline_records standing_volume uuids in_order with_uuid row_of name_eq record_extents div_up is_base numbers is_at_stage image_with same_image
returns-clause-fork c = refl

pub returns-clause-unlinked : goal.returns-clause-unlinked
unfolding fault_of record_volume_fault too_many_fault misnamed_fault second_entry_fault lost_entry_fault old_leaf_fault invalid_fault tree_fault entry_link_fault is_entry_linked children chain_length record_fault disk_fault first_name outline_records standing_volume uuids in_order with_uuid row_of name_eq record_extents div_up is_base numbers is_at_stage image_with same_image
returns-clause-unlinked c = refl

pub returns-clause-link : goal.returns-clause-link
unfolding fault_of record_volume_fault too_many_fault misnamed_fault second_entry_fault lost_entry_fault old_leaf_fault invalid_fault tree_fault entry_link_fault is_entry_linked children chain_length record_fault disk_fault first_name outline_records standing_volume uuids in_order with_uuid row_of name_eq record_extents div_up is_base numbers is_at_stage image_with same_image
returns-clause-link c = refl

pub returns-clause-smaller : goal.returns-clause-smaller
unfolding fault_of record_volume_fault too_many_fault misnamed_fault second_entry_fault lost_entry_fault old_leaf_fault invalid_fault tree_fault entry_link_fault is_entry_linked children chain_length record_fault disk_fault first_name outline_records standing_volume uuids in_order with_uuid row_of name_eq record_extents div_up is_base numbers is_at_stage image_with same_image
returns-clause-smaller c = refl

pub returns-clause-copy : goal.returns-clause-copy
unfolding fault_of record_volume_fault too_many_fault misnamed_fault second_entry_fault lost_entry_fault old_leaf_fault invalid_fault tree_fault entry_link_fault is_entry_linked children chain_length record_fault disk_fault first_name outline_records standing_volume uuids in_order with_uuid row_of name_eq record_extents div_up is_base numbers is_at_stage image_with same_image
returns-clause-copy c = refl

pub returns-clause-shared : goal.returns-clause-shared
unfolding fault_of record_volume_fault too_many_fault misnamed_fault second_entry_fault lost_entry_fault old_leaf_fault invalid_fault tree_fault entry_link_fault is_entry_linked children chain_length record_fault disk_fault first_name outline_records standing_volume uuids in_order with_uuid row_of name_eq record_extents div_up is_base numbers is_at_stage image_with same_image
returns-clause-shared c = refl
