-- A disk and its snapshot are ready.
use Rattle.std.proofs.Common.{◌+◌, ◌*◌, List, [], ◌∷◌, refl}
use Rattle.sm_base.specs.declared.names.Name.TheVariants.{Cbt, Mgt, Vhd}
use Rattle.sm_mgt.specs.Places.{records_held}
use Rattle.sm_record.specs.declared.records.Record.{Record}
use Rattle.vg_meta.specs.Tables.{rows, row_of, name_eq, extents_of}
use Rattle.vg_volumes.specs.Sites.{volume_of}
use Rattle.vhd_chain.specs.Trees.{row_name}
use Rattle.vhd_image.specs.Steady.{IsSteady}
use Rattle.vhd_layout.specs.Layouts.{Sectors}
use Rattle.vhd_volumes.proofs.SteadyLaws.{quiet_settled}
use Rattle.sm_ready.proofs.LogLaws.{logged_none}
use Rattle.sm_machine.specs.Shapes.{image_uuid}
use Rattle.sm_ready.specs.Ready.{IsFirm, IsReady, IsTidy}
use Rattle.examples_moments.specs.Worked.{first, second, base, first_record, second_record, area_of}
use Rattle.examples_moments.specs.WorkedImages.{top_image, filled_child, empty_child}
use Rattle.examples_moments.proofs.ForkExample.{base_named, first_right, second_right}
use Rattle.examples_moments.proofs.PlacedLaws.{area_first, area_second, area_third, area_records}
use Rattle.examples_ready.specs.WorkedRows.{sizes, site, top_head, head_over, first_slot, no_slots}
use Rattle.examples_ready.specs.Repositories.{pair_table, pair_known, pair_area}
use Rattle.examples_ready.proofs.PairOrderly.{none_new, pair_is_table}
use Rattle.examples_ready.proofs.RecordSteps.{records_agree, no_stray_in}
use Rattle.examples_ready.proofs.SteadySteps.{HoldsImage, rest_settled, steady, top_here, top_holds, filled_here, filled_holds, empty_here, empty_holds, volume_holds, none_settled}
use Rattle.examples_ready.proofs.TableSteps.{each}

abbrev below_image : Sectors
below_image = top_image 17

abbrev disk_image : Sectors
disk_image = filled_child (Vhd base) 34

abbrev snapshot_image : Sectors
snapshot_image = empty_child (Vhd base)

abbrev recorded : List Record
recorded = first_record ∷ second_record ∷ []

base_holds : HoldsImage below_image (volume_of site pair_table pair_area (Vhd base))
unfolding row_of name_eq
base_holds = volume_holds pair_table pair_area (Vhd base) 16 below_image refl (λ s below. area_first below_image disk_image snapshot_image recorded (512 + s) s refl below) (λ s below other. refl)

first_holds : HoldsImage disk_image (volume_of site pair_table pair_area (Vhd first))
unfolding row_of name_eq
first_holds = volume_holds pair_table pair_area (Vhd first) 21 disk_image refl (λ s below. area_second below_image disk_image snapshot_image recorded (672 + s) s refl below) (λ s below other. refl)

second_holds : HoldsImage snapshot_image (volume_of site pair_table pair_area (Vhd second))
unfolding row_of name_eq
second_holds = volume_holds pair_table pair_area (Vhd second) 26 snapshot_image refl (λ s below. area_third below_image disk_image snapshot_image recorded (832 + s) s refl below) (λ s below other. refl)

pair_firm : IsFirm site pair_table pair_area pair_known
pair_firm = record {
  images = each (λ r. IsSteady sizes (r.extents * 32) (volume_of site pair_table pair_area (row_name r)) r.image) pair_known.rows (
    steady (head_over (Vhd base) first) first_slot disk_image (volume_of site pair_table pair_area (Vhd first)) (filled_here 34 (Vhd base) first base_named) (filled_holds 34 (Vhd base)) first_holds,
    (
      steady (head_over (Vhd base) second) no_slots snapshot_image (volume_of site pair_table pair_area (Vhd second)) (empty_here (Vhd base) second base_named) (empty_holds (Vhd base)) second_holds,
      (steady (top_head base) first_slot below_image (volume_of site pair_table pair_area (Vhd base)) (top_here 17 base) (top_holds 17) base_holds, tt),
    ),
  );
  quiet = λ r here unwritten. quiet_settled (volume_of site pair_table pair_area (row_name r)) (rest_settled (extents_of (rows pair_table (row_name r))) (area_of below_image disk_image snapshot_image recorded));
  below = tt;
}

pub pair_ready : IsReady site pair_table pair_area pair_known
unfolding row_of name_eq
pair_ready = record {
  firm = pair_firm;
  records = records_agree pair_table pair_area recorded 510 refl refl refl (first_right, (second_right, tt)) (λ k below. area_records below_image disk_image snapshot_image recorded k below);
  recorded = quiet_settled (records_held site pair_table pair_area) (rest_settled (extents_of (rows pair_table Mgt)) (area_of below_image disk_image snapshot_image recorded));
  logs = logged_none site pair_table pair_area pair_is_table (λ u. refl);
  logged = λ u. quiet_settled (volume_of site pair_table pair_area (Cbt u)) (none_settled pair_area);
}

pub pair_tidy : IsTidy pair_table pair_known
unfolding image_uuid
pair_tidy = record { none_new = none_new; no_stray = no_stray_in pair_known.rows recorded 510 (refl, (refl, tt)) }
