-- Logs in memory or on the device that fail one field of the invariant of the sectors.
use Rattle.std.proofs.Common.{◌≡◌, ◌≢◌, inl, ℕ, ◌+◌, ◌*◌, ◌<◌, false, cond, List, [], ◌∷◌, get_or, refl, sym, ap, ◌∙◌, arith, bytes_eq, ◌++◌, lit<}
use Rattle.std.proofs.lemmas.Bool.{ne_eqb}
use Rattle.std.proofs.lemmas.Option.{none-some}
use Rattle.common_laws.specs.Lists.{In, numbers}
use Rattle.std.specs.List.Sorted.{IsStrictlySortedBy}
use Rattle.sm_base.specs.Names.{IsName, name_cmp, spelling, uuid_text}
use Rattle.sm_base.specs.declared.names.Name.TheVariants.{Raw, Vhd, Cbt}
use Rattle.uuid.specs.Text.{by_index}
use Rattle.sm_disk.specs.Held.{newest}
use Rattle.sm_disk.specs.Sectors.{zeros}
use Rattle.sm_mgt.specs.Places.{records_held}
use Rattle.sm_standing.specs.Logs.{IsLogged}
use Rattle.vg_meta.specs.Tables.{IsTable, rows, row_of, name_eq, extents_of}
use Rattle.vg_volumes.specs.Sites.{volume_of}
use Rattle.vg_volumes.specs.Volumes.{span, spot, volume}
use Rattle.vhd_chain.specs.Trees.{row_name}
use Rattle.vhd_chain.specs.declared.rows.TreeRow.{TreeRow}
use Rattle.vhd_image.specs.Steady.{IsSteady}
use Rattle.vhd_volumes.specs.Steady.{IsQuiet}
use Rattle.vhd_volumes.proofs.SteadyLaws.{quiet_settled}
use Rattle.sm_ready.specs.Known.{shape_in}
use Rattle.sm_ready.specs.Ready.{IsReady, is_written_in}
use Rattle.sm_ready.specs.Stores.{content_now}
use Rattle.sm_ready.proofs.LogLaws.{logged_none}
use Rattle.examples_vhd.specs.SmallImages.{empty}
use Rattle.examples_moments.specs.Worked.{first, second, first_record}
use Rattle.examples_moments.specs.WorkedImages.{top_image, sector_of}
use Rattle.examples_moments.proofs.ForkExample.{first_right}
use Rattle.examples_moments.proofs.PlacedLaws.{area_records, spot_numbers}
use Rattle.examples_ready.specs.FailingMemory.{first_log, tracked_known}
use Rattle.examples_ready.specs.FailingSectors.{log_area}
use Rattle.examples_ready.specs.FailingTables.{log_table}
use Rattle.examples_ready.specs.Repositories.{plain_table, plain_known, plain_rows, plain_image, plain_area, raw_record}
use Rattle.examples_ready.specs.WorkedRows.{sizes, site, first_slot, top_head}
use Rattle.examples_ready.proofs.PlainReady.{plain_place, plain_ready, raw_right}
use Rattle.examples_ready.proofs.RecordSteps.{records_agree}
use Rattle.examples_ready.proofs.SteadySteps.{HoldsImage, apart_settled, rest_settled, steady, top_here, top_holds, volume_holds}
use Rattle.examples_ready.proofs.TableSteps.{below_by, distinct_by, each, first_uuid, new_face, second_uuid}

-- ---- a log that no volume spells

pub unspelled_only : IsLogged (content_now site plain_table plain_area) tracked_known.logs → IsReady site plain_table plain_area tracked_known
unspelled_only h = record {
  firm = record {
    images = plain_ready.firm.images;
    quiet = λ r here unwritten. quiet_settled (volume_of site plain_table plain_area (row_name r)) (rest_settled (extents_of (rows plain_table (row_name r))) plain_image);
    below = tt;
  };
  records = plain_ready.records;
  recorded = plain_ready.recorded;
  logs = h;
  logged = plain_ready.logged;
}

pub unspelled_fails : ¬ IsLogged (content_now site plain_table plain_area) tracked_known.logs
unspelled_fails h = none-some first_log (sym (plain_ready.logs first).read ∙ (h first).read)

-- ---- a sector of a new log that is not synced

log_elsewhere : (p : ℕ) → p ≢ 704 → log_area.pending p ≡ []
log_elsewhere p other = ap (λ b. cond b (sector_of 34 ∷ []) []) (ne_eqb p 704 other)

image_holds : HoldsImage (top_image 17) (volume_of site log_table log_area (Vhd first))
unfolding row_of name_eq
image_holds = volume_holds log_table log_area (Vhd first) 16 (top_image 17) refl plain_place (λ s below other. log_elsewhere (512 + s) (λ e. omega (arith, e, below)))

first_apart : (p : ℕ) → p < span 32 (numbers 16 5) → spot 32 (numbers 16 5) p ≢ 704
unfolding numbers
first_apart p below at = let e : spot 32 (numbers 16 5) p ≡ 512 + p = spot_numbers 16 5 p (omega (arith, below)) in omega (arith, at, below, e)

raw_apart : (p : ℕ) → p < span 32 (21 ∷ []) → spot 32 (21 ∷ []) p ≢ 704
unfolding numbers
raw_apart p below at = let e : spot 32 (21 ∷ []) p ≡ 672 + p = spot_numbers 21 1 p (omega (arith, below)) in omega (arith, at, below, e)

records_apart : (p : ℕ) → p < span 32 (numbers 0 16) → spot 32 (numbers 0 16) p ≢ 704
unfolding numbers
records_apart p below at = omega (arith, at, below, spot_numbers 0 16 p (omega (arith, below)))

images_quiet : (r : TreeRow) → In r plain_rows → is_written_in (shape_in site log_table plain_known) (row_name r) ≡ false → IsQuiet (volume_of site log_table log_area (row_name r))
unfolding row_of name_eq
images_quiet = each (λ r. is_written_in (shape_in site log_table plain_known) (row_name r) ≡ false → IsQuiet (volume_of site log_table log_area (row_name r))) plain_rows (
  λ unwritten. quiet_settled (volume_of site log_table log_area (Raw second)) (apart_settled log_area 704 log_elsewhere (21 ∷ []) raw_apart),
  (λ unwritten. quiet_settled (volume_of site log_table log_area (Vhd first)) (apart_settled log_area 704 log_elsewhere (numbers 16 5) first_apart), tt),
)

log_is_table : IsTable 64 log_table
unfolding IsName IsStrictlySortedBy name_cmp spelling uuid_text by_index numbers
log_is_table = record {
  sequence = lit< tt;
  volumes = record {
    each = (record { name = first_uuid; kind = refl }, (record { name = second_uuid; kind = refl }, (record { name = tt; kind = refl }, (record { name = first_uuid; kind = refl }, tt))));
    rising = ((refl, (refl, (refl, tt))), ((refl, (refl, tt)), ((refl, tt), (tt, tt))));
    below = below_by 64 (22 ∷ (21 ∷ numbers 0 21)) refl;
    distinct = distinct_by (22 ∷ (21 ∷ numbers 0 21)) refl;
  };
}

pub unlasting_only : ((u : List ℕ) → IsQuiet (volume_of site log_table log_area (Cbt u))) → IsReady site log_table log_area plain_known
unfolding row_of name_eq
unlasting_only h = record {
  firm = record {
    images = each (λ r. IsSteady sizes (r.extents * 32) (volume_of site log_table log_area (row_name r)) r.image) plain_rows
        (refl, (steady (top_head first) first_slot (top_image 17) (volume_of site log_table log_area (Vhd first)) (top_here 17 first) (top_holds 17) image_holds, tt));
    quiet = images_quiet;
    below = tt;
  };
  records = records_agree log_table log_area (first_record ∷ raw_record ∷ []) 510 refl refl refl (first_right, (raw_right, tt))
      (λ k below. ap (newest (plain_image k)) (log_elsewhere k (λ e. omega (arith, e, below))) ∙ area_records (top_image 17) empty empty (first_record ∷ raw_record ∷ []) k below);
  recorded = quiet_settled (records_held site log_table log_area) (apart_settled log_area 704 log_elsewhere (numbers 0 16) records_apart);
  logs = logged_none site log_table log_area log_is_table (λ u. new_face (bytes_eq first u) _ refl);
  logged = h;
}

pub unlasting_fails : ¬ ((u : List ℕ) → IsQuiet (volume_of site log_table log_area (Cbt u)))
unfolding row_of name_eq volume spot zeros
unlasting_fails h =
    let same : plain_image 704 ≡ sector_of 34 = h first 0 (plain_image 704) (inl refl) in
    let bytes : 0 ≡ 34 = ap (λ (s : List ℕ). get_or s 0 0) same in omega (arith, bytes)
