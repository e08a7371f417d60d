-- The two disks are ready, at rest and while a guest writes.
use Rattle.std.proofs.Common.{◌≡◌, ◌≢◌, inl, ℕ, ◌+◌, ◌*◌, ◌<◌, true, false, cond, List, [], ◌∷◌, get_or, refl, sym, ap, ◌∙◌, arith}
use Rattle.std.proofs.lemmas.Bool.{ne_eqb}
use Rattle.common_laws.specs.Lists.{In, numbers}
use Rattle.sm_base.specs.declared.names.Name.TheVariants.{Cbt, Mgt, Raw, Vhd}
use Rattle.sm_disk.specs.Held.{reads, newest}
use Rattle.sm_mgt.specs.Places.{records_held}
use Rattle.sm_record.specs.Records.{IsRecord}
use Rattle.vg_meta.specs.Tables.{rows, row_of, name_eq, extents_of}
use Rattle.vg_volumes.specs.Sites.{volume_of}
use Rattle.vg_volumes.specs.Volumes.{span, spot, volume}
use Rattle.vhd_chain.specs.Trees.{row_name}
use Rattle.vhd_chain.specs.declared.rows.TreeRow.{TreeRow}
use Rattle.vhd_image.specs.Steady.{IsSteady}
use Rattle.vhd_volumes.specs.Steady.{IsQuiet}
use Rattle.vhd_volumes.proofs.SteadyLaws.{quiet_settled}
use Rattle.sm_ready.specs.Known.{shape_in}
use Rattle.sm_ready.specs.Ready.{IsFirm, IsReady, IsTidy, is_written_in}
use Rattle.sm_ready.proofs.LogLaws.{logged_none}
use Rattle.sm_machine.specs.Shapes.{image_uuid, same_image}
use Rattle.examples_vhd.specs.SmallImages.{empty}
use Rattle.examples_moments.specs.Worked.{first, second, first_record}
use Rattle.examples_moments.specs.WorkedImages.{top_image, sector_of}
use Rattle.examples_moments.proofs.ForkExample.{first_right}
use Rattle.examples_moments.proofs.PlacedLaws.{area_first, area_records}
use Rattle.examples_ready.specs.WorkedRows.{sizes, site, top_head, first_slot}
use Rattle.examples_ready.specs.Repositories.{raw_record, plain_table, plain_known, plain_rows, plain_image, plain_area, written_known, written_area}
use Rattle.examples_ready.proofs.PlainOrderly.{none_new, plain_orderly}
use Rattle.examples_ready.proofs.RecordSteps.{records_agree, no_stray_in}
use Rattle.examples_ready.proofs.SteadySteps.{HoldsImage, apart_settled, rest_settled, steady, top_here, top_holds, volume_holds, none_settled}
use Rattle.examples_moments.proofs.PlacedLaws.{spot_numbers}
use Rattle.examples_ready.proofs.TableSteps.{each, second_uuid}

pub raw_right : IsRecord raw_record
raw_right = record { uuid = record { uuid = second_uuid; not_nil = refl }; origin = tt; label = refl }

pub plain_place : (s : ℕ) → s < 160 → plain_image (512 + s) ≡ top_image 17 s
plain_place s below = area_first (top_image 17) empty empty (first_record ∷ raw_record ∷ []) (512 + s) s refl below

-- ---- at rest

pub plain_holds : HoldsImage (top_image 17) (volume_of site plain_table plain_area (Vhd first))
unfolding row_of name_eq
plain_holds = volume_holds plain_table plain_area (Vhd first) 16 (top_image 17) refl plain_place (λ s below other. refl)

plain_firm : IsFirm site plain_table plain_area plain_known
plain_firm = record {
  images = each (λ r. IsSteady sizes (r.extents * 32) (volume_of site plain_table plain_area (row_name r)) r.image) plain_rows
      (refl, (steady (top_head first) first_slot (top_image 17) (volume_of site plain_table plain_area (Vhd first)) (top_here 17 first) (top_holds 17) plain_holds, tt));
  quiet = λ r here unwritten. quiet_settled (volume_of site plain_table plain_area (row_name r)) (rest_settled (extents_of (rows plain_table (row_name r))) plain_image);
  below = tt;
}

pub plain_ready : IsReady site plain_table plain_area plain_known
unfolding row_of name_eq
plain_ready = record {
  firm = plain_firm;
  records = records_agree plain_table plain_area (first_record ∷ raw_record ∷ []) 510 refl refl refl (first_right, (raw_right, tt))
      (λ k below. area_records (top_image 17) empty empty (first_record ∷ raw_record ∷ []) k below);
  recorded = quiet_settled (records_held site plain_table plain_area) (rest_settled (extents_of (rows plain_table Mgt)) plain_image);
  logs = logged_none site plain_table plain_area plain_orderly.table (λ u. refl);
  logged = λ u. quiet_settled (volume_of site plain_table plain_area (Cbt u)) (none_settled plain_area);
}

-- ---- while a guest writes

pending_none : (p : ℕ) → p ≢ 517 → written_area.pending p ≡ []
pending_none p other = ap (λ b. cond b (sector_of 34 ∷ []) []) (ne_eqb p 517 other)

written_holds : HoldsImage (top_image 17) (volume_of site plain_table written_area (Vhd first))
unfolding row_of name_eq
written_holds = volume_holds plain_table written_area (Vhd first) 16 (top_image 17) refl plain_place (λ s below other. pending_none (512 + s) (λ e. other (omega (arith, e))))

raw_apart : (p : ℕ) → p < span 32 (21 ∷ []) → spot 32 (21 ∷ []) p ≢ 517
unfolding numbers
raw_apart p below five = let e : spot 32 (21 ∷ []) p ≡ 672 + p = spot_numbers 21 1 p (omega (arith, below)) in omega (arith, five, e)

records_apart : (p : ℕ) → p < span 32 (numbers 0 16) → spot 32 (numbers 0 16) p ≢ 517
unfolding numbers
records_apart p below five = omega (arith, five, below, spot_numbers 0 16 p (omega (arith, below)))

-- the image that is written to is not quiet, and need not be
own_is_written : is_written_in (shape_in site plain_table written_known) (Vhd first) ≡ true
unfolding is_written_in image_uuid same_image shape_in
own_is_written = refl

quiet_right : (r : TreeRow) → In r plain_rows → is_written_in (shape_in site plain_table written_known) (row_name r) ≡ false → IsQuiet (volume_of site plain_table written_area (row_name r))
unfolding row_of name_eq
quiet_right = each (λ r. is_written_in (shape_in site plain_table written_known) (row_name r) ≡ false → IsQuiet (volume_of site plain_table written_area (row_name r))) plain_rows (
  λ unwritten. quiet_settled (volume_of site plain_table written_area (Raw second)) (apart_settled written_area 517 pending_none (21 ∷ []) raw_apart),
  (λ unwritten. absurd (let e = sym own_is_written ∙ unwritten in (let x = e in cc)), tt),
)

written_firm : IsFirm site plain_table written_area written_known
written_firm = record {
  images = each (λ r. IsSteady sizes (r.extents * 32) (volume_of site plain_table written_area (row_name r)) r.image) plain_rows
      (refl, (steady (top_head first) first_slot (top_image 17) (volume_of site plain_table written_area (Vhd first)) (top_here 17 first) (top_holds 17) written_holds, tt));
  quiet = quiet_right;
  below = tt;
}

first_settled : (k : ℕ) → k < 512 → reads written_area k ≡ plain_image k
first_settled k below = ap (newest (plain_image k)) (pending_none k (λ e. omega (arith, e, below)))

pub written_ready : IsReady site plain_table written_area written_known
unfolding row_of name_eq
written_ready = record {
  firm = written_firm;
  records = records_agree plain_table written_area (first_record ∷ raw_record ∷ []) 510 refl refl refl (first_right, (raw_right, tt))
      (λ k below. first_settled k below ∙ area_records (top_image 17) empty empty (first_record ∷ raw_record ∷ []) k below);
  recorded = quiet_settled (records_held site plain_table written_area) (apart_settled written_area 517 pending_none (numbers 0 16) records_apart);
  logs = logged_none site plain_table written_area plain_orderly.table (λ u. refl);
  logged = λ u. quiet_settled (volume_of site plain_table written_area (Cbt u)) (none_settled written_area);
}

-- what a stop may leave of it differs from what a read gives
pub written_not_quiet : ¬ IsQuiet (volume_of site plain_table written_area (Vhd first))
unfolding row_of name_eq volume spot numbers
written_not_quiet quiet =
    let same : plain_image 517 ≡ sector_of 34 = quiet 5 (plain_image 517) (inl refl) in
    let bytes : 17 ≡ 34 = ap (λ (s : List ℕ). get_or s 0 0) same in omega (arith, bytes)

-- ---- between two commands

pub plain_tidy : IsTidy plain_table plain_known
unfolding image_uuid
plain_tidy = record { none_new = none_new; no_stray = no_stray_in plain_rows (first_record ∷ raw_record ∷ []) 510 (refl, (refl, tt)) }

pub written_tidy : IsTidy plain_table written_known
written_tidy = record { none_new = none_new; no_stray = plain_tidy.no_stray }
