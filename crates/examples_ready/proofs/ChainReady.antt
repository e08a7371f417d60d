-- A disk over a hidden image over a hidden base is ready, at rest, under a copy or a link: the base holds what the hidden image
-- holds.
use Rattle.std.proofs.Common.{◌≡◌, ◌≢◌, ℕ, ◌+◌, ◌*◌, ◌≤◌, true, false, cond, List, [], ◌∷◌, get_or, Option, Some, None, refl, sym, ap, ◌∙◌, arith}
use Rattle.std.proofs.lemmas.Option.{same_Some}
use Rattle.sm_base.specs.Kinds.{is_entry}
use Rattle.sm_base.specs.declared.names.Name.{Name}
use Rattle.sm_ready.proofs.LogLaws.{logged_none}
use Rattle.sm_ready.proofs.LogRows.{entry_apart}
use Rattle.sm_ready.specs.Known.{row_face}
use Rattle.vg_meta.proofs.NameLaws.{name_eq-other}
use Rattle.sm_machine.specs.Operations.{Op}
use Rattle.vg_meta.specs.Tables.{IsTable, VolumeTable}
use Rattle.examples_moments.proofs.WorkedDisks.{filled_held, top_held}
use Rattle.sm_base.specs.declared.names.Name.TheVariants.{Cbt, Mgt, Vhd, Coalesce, Relink}
use Rattle.sm_disk.specs.Held.{Held}
use Rattle.sm_ready.specs.Done.{at_rest}
use Rattle.sm_mgt.specs.Places.{records_held}
use Rattle.sm_record.specs.declared.records.Record.{Record}
use Rattle.vg_meta.specs.Tables.{rows, row_of, name_eq, extents_of}
use Rattle.vg_volumes.specs.Sites.{volume_of}
use Rattle.vhd_chain.specs.Trees.{row_name}
use Rattle.vhd_image.specs.Steady.{IsSteady}
use Rattle.vhd_layout.specs.Layouts.{Sectors}
use Rattle.vhd_volumes.proofs.SteadyLaws.{quiet_settled}
use Rattle.sm_machine.specs.Shapes.{image_uuid}
use Rattle.sm_ready.specs.Ready.{IsBelow, IsFirm, IsHeldBelow, IsReady, IsTidy}
use Rattle.sm_ready.specs.Stores.{content_now}
use Rattle.sm_standing.specs.Images.{image_extents, image_of}
use Rattle.sm_standing.specs.Entries.{making}
use Rattle.sm_base.specs.Names.{IsName}
use Rattle.vhd_fields.specs.ParentNames.{IsParent}
use Rattle.examples_moments.specs.Moments.{top, filled}
use Rattle.examples_moments.proofs.SwapExample.{filled_size, held_alike}
use Rattle.examples_moments.proofs.WorkedLaws.{filled_valid, top_size, top_valid}
use Rattle.examples_moments.specs.Worked.{first, second, base, first_record}
use Rattle.examples_moments.specs.WorkedImages.{top_image, filled_child, empty_child, sector_of}
use Rattle.examples_moments.proofs.ForkExample.{base_named, first_right}
use Rattle.examples_moments.proofs.PlacedLaws.{area_first, area_second, area_third, area_records, placed_image}
use Rattle.examples_ready.specs.WorkedRows.{sizes, site, top_head, head_over, first_slot, no_slots}
use Rattle.examples_ready.specs.Repositories.{chain_table, chain_known, chain_area, chain_image, copy, copy_table, copy_known, link, link_table, link_known}
use Rattle.examples_ready.proofs.ChainOrderly.{none_new}
use Rattle.examples_ready.proofs.CopyOrderly.{copy_is_table}
use Rattle.examples_ready.proofs.LinkOrderly.{link_is_table}
use Rattle.examples_ready.proofs.RecordSteps.{records_agree, no_stray_in}
use Rattle.examples_ready.proofs.SteadySteps.{HoldsImage, rest_settled, steady, top_here, top_holds, filled_here, filled_holds, empty_here, empty_holds, volume_holds}
use Rattle.examples_ready.proofs.TableSteps.{each, second_uuid}

abbrev disk_image : Sectors
disk_image = empty_child (Vhd second)

abbrev between_image : Sectors
between_image = filled_child (Vhd base) 34

abbrev recorded : List Record
recorded = first_record ∷ []

second_named : IsParent (Some (Vhd second))
unfolding IsParent IsName
second_named = (second_uuid, refl)

-- ---- under any entry that enlarges and forks nothing, with sector 0 of the base of any byte

module _ (entry : Name) (none : making (chain_table entry) ≡ []) (byte : ℕ) where
  abbrev t : VolumeTable
  t = chain_table entry

  abbrev below_image : Sectors
  below_image = top_image byte

  abbrev held_area : Held
  held_area = at_rest (chain_image byte)

  base_holds : HoldsImage below_image (volume_of site t held_area (Vhd base))
  unfolding row_of name_eq
  base_holds = volume_holds t held_area (Vhd base) 16 below_image refl (λ s low. area_first below_image disk_image between_image recorded (512 + s) s refl low) (λ s low other. refl)

  first_holds : HoldsImage disk_image (volume_of site t held_area (Vhd first))
  unfolding row_of name_eq
  first_holds = volume_holds t held_area (Vhd first) 21 disk_image refl (λ s low. area_second below_image disk_image between_image recorded (672 + s) s refl low) (λ s low other. refl)

  second_holds : HoldsImage between_image (volume_of site t held_area (Vhd second))
  unfolding row_of name_eq
  second_holds = volume_holds t held_area (Vhd second) 26 between_image refl (λ s low. area_third below_image disk_image between_image recorded (832 + s) s refl low) (λ s low other. refl)

  firm_where : (operation : Op) → IsBelow (content_now site t held_area) operation → IsFirm site t held_area (chain_known operation first_slot 5)
  firm_where operation below = record {
    images = each (λ r. IsSteady sizes (r.extents * 32) (volume_of site t held_area (row_name r)) r.image) (chain_known operation first_slot 5).rows (
      steady (head_over (Vhd second) first) no_slots disk_image (volume_of site t held_area (Vhd first)) (empty_here (Vhd second) first second_named) (empty_holds (Vhd second)) first_holds,
      (
        steady (head_over (Vhd base) second) first_slot between_image (volume_of site t held_area (Vhd second)) (filled_here 34 (Vhd base) second base_named) (filled_holds 34 (Vhd base)) second_holds,
        (steady (top_head base) first_slot below_image (volume_of site t held_area (Vhd base)) (top_here byte base) (top_holds byte) base_holds, tt),
      ),
    );
    quiet = λ r here unwritten. quiet_settled (volume_of site t held_area (row_name r)) (rest_settled (extents_of (rows t (row_name r))) (chain_image byte));
    below = below;
  }

  no_log : is_entry entry ≡ true → (u : List ℕ) → rows t (Cbt u) ≡ None
  unfolding row_of name_eq
  no_log is u =
      ap (λ b. cond b (Some (record { name = entry; hidden = false; fresh = false; extents = [] })) None) (name_eq-other entry (Cbt u) (λ same. entry_apart entry is u (sym same)))

  pub ready_where : IsTable 64 t → is_entry entry ≡ true → (operation : Op) → IsBelow (content_now site t held_area) operation → IsReady site t held_area (chain_known operation first_slot 5)
  unfolding row_of name_eq
  ready_where table is operation below = record {
    firm = firm_where operation below;
    records = records_agree t held_area recorded 511 refl refl refl (first_right, tt) (λ k low. area_records below_image disk_image between_image recorded k low);
    recorded = quiet_settled (records_held site t held_area) (rest_settled (extents_of (rows t Mgt)) (chain_image byte));
    logs = logged_none site t held_area table (λ u. ap row_face (no_log is u));
    logged = λ u. quiet_settled (volume_of site t held_area (Cbt u)) (rest_settled (extents_of (rows t (Cbt u))) (chain_image byte));
  }

  -- the images of the hidden volumes
  pub between_there : image_of (content_now site t held_area) (Vhd second) ≡ Some (filled 34)
  unfolding row_of name_eq
  between_there =
      placed_image t (chain_image byte) second true 26 (Vhd second) between_image refl (ap (λ (ns : List Name). image_extents ns (Vhd second) 5) none)
      (λ s low. area_third below_image disk_image between_image recorded (32 * 26 + s) s refl low) (filled_valid (Vhd base) 34 base_named)

  pub base_there : image_of (content_now site t held_area) (Vhd base) ≡ Some (top byte)
  unfolding row_of name_eq
  base_there =
      placed_image t (chain_image byte) base true 16 (Vhd base) below_image refl (ap (λ (ns : List Name). image_extents ns (Vhd base) 5) none)
      (λ s low. area_first below_image disk_image between_image recorded (32 * 16 + s) s refl low) (top_valid byte)

  -- where it is not the hidden image's, the base does not hold alike what that holds
  pub not_held_below : byte ≢ 34 → (cursor : ℕ) → 1 ≤ cursor → ¬ IsHeldBelow (content_now site t held_area) (Vhd second) (Vhd base) cursor []
  not_held_below other cursor some h =
      let child = same_Some h.child (filled 34) (sym h.image ∙ between_there) in
      let parent = same_Some h.parent (top byte) (sym h.under ∙ base_there) in
      let held = h.held 0 (sector_of 34) (omega (arith, some)) refl (ap (λ i. i.own 0) child ∙ filled_held) in
      let same = same_Some (sector_of byte) (sector_of 34) (sym (top_held byte) ∙ ap (λ i. i.own 0) (sym parent) ∙ held) in
      other (ap (λ (s : List ℕ). get_or s 0 0) same)

-- where it is, the base does, below any cursor
pub held_below : (entry : Name) (cursor : ℕ) → making (chain_table entry) ≡ [] → IsHeldBelow (content_now site (chain_table entry) chain_area) (Vhd second) (Vhd base) cursor []
held_below entry cursor none = record {
  child = filled 34;
  parent = top 34;
  image = between_there entry none 34;
  under = base_there entry none 34;
  size = top_size 34 ∙ sym (filled_size 34);
  held = λ k bytes below clean has. ap (λ (own : ℕ → Option (List ℕ)). own k) (held_alike 34) ∙ has;
}

-- ---- a copy, and a link after it

pub copy_ready : IsReady site copy_table chain_area copy_known
copy_ready = ready_where (Coalesce second base) refl 34 copy_is_table refl copy (held_below (Coalesce second base) 1 refl)

pub link_ready : IsReady site link_table chain_area link_known
link_ready = ready_where (Relink second base) refl 34 link_is_table refl link (held_below (Relink second base) 64 refl)

pub chain_tidy : (entry : Name) (operation : Op) → IsTidy (chain_table entry) (chain_known operation first_slot 5)
unfolding image_uuid
chain_tidy entry operation = record { none_new = none_new entry; no_stray = no_stray_in (chain_known operation first_slot 5).rows recorded 511 (refl, tt) }
