-- While the leaf of an attached disk is folded the store is ready where a block that the guest wrote behind the cursor is dirty, and is not
-- where it is left out of the dirty ones.
use Rattle.std.proofs.Common.{◌≡◌, ℕ, ◌+◌, ◌*◌, ◌/◌, true, false, List, [], ◌∷◌, get_or, Some, refl, sym, ap, ◌∙◌, arith, lit<}
use Rattle.std.proofs.lemmas.Bool.{true≢false}
use Rattle.std.proofs.lemmas.Option.{same_Some}
use Rattle.sm_base.specs.declared.names.Name.TheVariants.{Cbt, Mgt, Vhd}
use Rattle.sm_mgt.specs.Places.{records_held}
use Rattle.sm_record.specs.declared.records.Record.{Record}
use Rattle.vg_meta.specs.Tables.{rows, row_of, name_eq, extents_of}
use Rattle.vg_volumes.specs.Sites.{volume_of}
use Rattle.vhd_chain.specs.Trees.{row_name}
use Rattle.vhd_image.specs.Steady.{IsSteady}
use Rattle.vhd_layout.specs.Layouts.{Sectors}
use Rattle.vhd_volumes.proofs.SteadyLaws.{quiet_settled}
use Rattle.sm_ready.proofs.LogLaws.{logged_none}
use Rattle.sm_machine.specs.Operations.{is_dirty}
use Rattle.sm_machine.specs.Shapes.{image_uuid}
use Rattle.sm_standing.specs.Images.{image_of}
use Rattle.sm_ready.specs.Ready.{IsBelow, IsFirm, IsReady, IsTidy}
use Rattle.sm_ready.specs.Stores.{content_now}
use Rattle.examples_vhd.specs.SmallImages.{empty}
use Rattle.examples_moments.specs.Moments.{top, filled}
use Rattle.examples_moments.specs.Worked.{first, base, first_record, area_of, leaf_copied}
use Rattle.examples_moments.specs.WorkedImages.{top_image, filled_child, sector_of}
use Rattle.examples_moments.proofs.ForkExample.{base_named, first_right}
use Rattle.examples_moments.proofs.PlacedLaws.{area_first, area_second, area_records, placed_image}
use Rattle.examples_moments.proofs.SwapExample.{filled_size}
use Rattle.examples_moments.proofs.WorkedDisks.{filled_held, top_held}
use Rattle.examples_moments.proofs.WorkedLaws.{filled_valid, top_size, top_valid}
use Rattle.examples_ready.specs.WorkedRows.{sizes, site, top_head, head_over, first_slot}
use Rattle.examples_ready.specs.Repositories.{live, live_known, live_area}
use Rattle.examples_ready.proofs.LiveOrderly.{live_is_table, none_new}
use Rattle.examples_ready.proofs.RecordSteps.{records_agree, no_stray_in}
use Rattle.examples_ready.proofs.SteadySteps.{HoldsImage, rest_settled, steady, top_here, top_holds, filled_here, filled_holds, volume_holds, none_settled}
use Rattle.examples_ready.proofs.TableSteps.{each}

abbrev below_image : Sectors
below_image = top_image 17

abbrev disk_image : Sectors
disk_image = filled_child (Vhd base) 34

abbrev recorded : List Record
recorded = first_record ∷ []

base_holds : HoldsImage below_image (volume_of site leaf_copied live_area (Vhd base))
unfolding row_of name_eq
base_holds = volume_holds leaf_copied live_area (Vhd base) 16 below_image refl (λ s low. area_first below_image disk_image empty recorded (512 + s) s refl low) (λ s low other. refl)

first_holds : HoldsImage disk_image (volume_of site leaf_copied live_area (Vhd first))
unfolding row_of name_eq
first_holds = volume_holds leaf_copied live_area (Vhd first) 21 disk_image refl (λ s low. area_second below_image disk_image empty recorded (672 + s) s refl low) (λ s low other. refl)

-- ---- ready where the base holds alike what the disk's image holds in the settled blocks

module _ (dirty : List ℕ) where
  firm_where : IsBelow (content_now site leaf_copied live_area) (live dirty) → IsFirm site leaf_copied live_area (live_known dirty)
  firm_where below = record {
    images = each (λ r. IsSteady sizes (r.extents * 32) (volume_of site leaf_copied live_area (row_name r)) r.image) (live_known dirty).rows (
      steady (head_over (Vhd base) first) first_slot disk_image (volume_of site leaf_copied live_area (Vhd first)) (filled_here 34 (Vhd base) first base_named) (filled_holds 34 (Vhd base)) first_holds,
      (steady (top_head base) first_slot below_image (volume_of site leaf_copied live_area (Vhd base)) (top_here 17 base) (top_holds 17) base_holds, tt),
    );
    quiet = λ r here unwritten. quiet_settled (volume_of site leaf_copied live_area (row_name r)) (rest_settled (extents_of (rows leaf_copied (row_name r))) (area_of below_image disk_image empty recorded));
    below = below;
  }

  pub ready_where : IsBelow (content_now site leaf_copied live_area) (live dirty) → IsReady site leaf_copied live_area (live_known dirty)
  unfolding row_of name_eq
  ready_where below = record {
    firm = firm_where below;
    records = records_agree leaf_copied live_area recorded 511 refl refl refl (first_right, tt) (λ k low. area_records below_image disk_image empty recorded k low);
    recorded = quiet_settled (records_held site leaf_copied live_area) (rest_settled (extents_of (rows leaf_copied Mgt)) (area_of below_image disk_image empty recorded));
    logs = logged_none site leaf_copied live_area live_is_table (λ u. refl);
    logged = λ u. quiet_settled (volume_of site leaf_copied live_area (Cbt u)) (none_settled live_area);
  }

  pub live_tidy : IsTidy leaf_copied (live_known dirty)
  unfolding image_uuid
  live_tidy = record { none_new = none_new; no_stray = no_stray_in (live_known dirty).rows recorded 511 (refl, tt) }

-- ---- the images of leaf and base

leaf_there : image_of (content_now site leaf_copied live_area) (Vhd first) ≡ Some (filled 34)
unfolding row_of name_eq
leaf_there =
    placed_image leaf_copied (area_of below_image disk_image empty recorded) first false 21 (Vhd first) disk_image refl refl
    (λ s low. area_second below_image disk_image empty recorded (32 * 21 + s) s refl low) (filled_valid (Vhd base) 34 base_named)

base_there : image_of (content_now site leaf_copied live_area) (Vhd base) ≡ Some (top 17)
unfolding row_of name_eq
base_there =
    placed_image leaf_copied (area_of below_image disk_image empty recorded) base true 16 (Vhd base) below_image refl refl
    (λ s low. area_first below_image disk_image empty recorded (32 * 16 + s) s refl low) (top_valid 17)

-- the one block below the cursor is dirty
pub live_ready : IsReady site leaf_copied live_area (live_known (0 ∷ []))
live_ready = ready_where (0 ∷ []) (record {
  child = filled 34;
  parent = top 17;
  image = leaf_there;
  under = base_there;
  size = top_size 17 ∙ sym (filled_size 34);
  held = λ k bytes below clean has. (let zero_block : k / 8 ≡ 0 = omega (arith, below) in absurd (true≢false (sym (ap (λ b. is_dirty b (0 ∷ [])) zero_block) ∙ clean)));
})

-- ---- it is left out

pub unmarked_only : IsBelow (content_now site leaf_copied live_area) (live []) → IsReady site leaf_copied live_area (live_known [])
unmarked_only below = ready_where [] below

pub unmarked_fails : ¬ IsBelow (content_now site leaf_copied live_area) (live [])
unmarked_fails h =
    let child = same_Some h.child (filled 34) (sym h.image ∙ leaf_there) in
    let parent = same_Some h.parent (top 17) (sym h.under ∙ base_there) in
    let held = h.held 0 (sector_of 34) (lit< tt) refl (ap (λ i. i.own 0) child ∙ filled_held) in
    let same = same_Some (sector_of 17) (sector_of 34) (sym (top_held 17) ∙ ap (λ i. i.own 0) (sym parent) ∙ held) in
    let bytes : 17 ≡ 34 = ap (λ (s : List ℕ). get_or s 0 0) same in omega (arith, bytes)
