-- Memory and sectors that fail one field of the invariant of the sectors.
use Rattle.std.proofs.Common.{◌≡◌, ◌≢◌, inl, inr, ℕ, zero, suc, ◌+◌, ◌*◌, ◌<◌, false, cond, List, [], ◌∷◌, get_or, codes, Some, refl, sym, ap, ◌∙◌, arith, lit≤, lit<}
use Rattle.std.proofs.lemmas.Bool.{ne_eqb}
use Rattle.common_laws.specs.Lists.{In, numbers}
use Rattle.sm_base.specs.Numbers.{first as first_sector, div_up}
use Rattle.sm_base.specs.declared.names.Name.TheVariants.{Cbt, Raw, Vhd, Coalesce, Relink}
use Rattle.sm_disk.specs.Held.{newest, reads}
use Rattle.sm_disk.specs.Sectors.{zeros}
use Rattle.sm_ready.proofs.LogLaws.{logged_none}
use Rattle.sm_machine.specs.Shapes.{image_uuid, same_image}
use Rattle.sm_mgt.specs.Places.{Agrees, records_held}
use Rattle.sm_record.specs.declared.records.Reading.{Reading}
use Rattle.sm_record.specs.declared.records.Reading.TheVariants.{Free, Taken, Damaged}
use Rattle.sm_record.specs.Records.{reading, record_sector}
use Rattle.sm_record.proofs.RoundTrips.{reading_again, reading_zeros}
use Rattle.vg_meta.specs.Tables.{rows, row_of, name_eq, extents_of}
use Rattle.vg_volumes.specs.Sites.{volume_of}
use Rattle.vg_volumes.specs.Volumes.{span, spot, volume}
use Rattle.vhd_chain.specs.Trees.{row_name}
use Rattle.vhd_chain.specs.declared.rows.TreeRow.{TreeRow}
use Rattle.vhd_image.specs.Steady.{IsSteady}
use Rattle.vhd_layout.specs.Layouts.{entry}
use Rattle.vhd_map.specs.Places.{blank, word}
use Rattle.vhd_volumes.specs.Steady.{IsQuiet}
use Rattle.vhd_volumes.proofs.SteadyLaws.{quiet_settled}
use Rattle.sm_ready.specs.Known.{shape_in}
use Rattle.sm_ready.specs.Orderly.{IsOrderly}
use Rattle.sm_ready.specs.Ready.{IsBelow, IsReady, is_written_in}
use Rattle.sm_ready.specs.Stores.{content_now}
use Rattle.examples_moments.specs.Worked.{first, second, base, first_record}
use Rattle.examples_moments.specs.WorkedImages.{top_image}
use Rattle.examples_moments.proofs.ForkExample.{first_right}
use Rattle.examples_moments.proofs.PlacedLaws.{area_records}
use Rattle.examples_vhd.specs.SmallImages.{empty}
use Rattle.examples_vhd.proofs.SmallImageLaws.{sector_in}
use Rattle.examples_ready.specs.FailingMemory.{forgotten_known, relabelled_known}
use Rattle.examples_ready.specs.FailingSectors.{uncopied_area, unsynced_area}
use Rattle.examples_ready.specs.Repositories.{copy, copy_table, copy_known, link, link_table, link_known, labelled, plain_table, plain_known, plain_rows, plain_image, plain_area, raw_record, written_area}
use Rattle.examples_ready.specs.WorkedRows.{sizes, site, no_slots, first_slot, top_head}
use Rattle.examples_ready.proofs.ChainReady.{not_held_below, ready_where}
use Rattle.examples_ready.proofs.CopyOrderly.{copy_is_table}
use Rattle.examples_ready.proofs.LinkOrderly.{link_is_table}
use Rattle.examples_ready.proofs.PlainOrderly.{orderly_with, plain_orderly, stand_right}
use Rattle.examples_ready.proofs.PlainReady.{plain_holds, plain_place, plain_ready, raw_right, written_ready, written_not_quiet}
use Rattle.examples_ready.proofs.RecordSteps.{records_agree}
use Rattle.examples_ready.proofs.SteadySteps.{HoldsImage, apart_settled, entry_alike, held_reads, rest_settled, steady, top_here, top_holds, volume_holds, none_settled}
use Rattle.examples_moments.proofs.PlacedLaws.{spot_numbers}
use Rattle.examples_ready.proofs.SlotSteps.{front_within}
use Rattle.examples_ready.proofs.TableSteps.{each}

-- ---- a slot that memory forgot

pub forgotten_orderly : IsOrderly site plain_table forgotten_known
unfolding first_sector div_up
forgotten_orderly = orderly_with 64 no_slots (codes "b") (lit≤ tt) refl (lit≤ tt) (stand_right no_slots refl (front_within [] 64 (lit≤ tt)) (lit≤ tt))

pub forgotten_only : ((r : TreeRow) → In r forgotten_known.rows → IsSteady sizes (r.extents * 32) (volume_of site plain_table plain_area (row_name r)) r.image)
    → IsReady site plain_table plain_area forgotten_known
forgotten_only h = record {
  firm = record {
    images = h;
    quiet = λ r here unwritten. quiet_settled (volume_of site plain_table plain_area (row_name r)) (rest_settled (extents_of (rows plain_table (row_name r))) plain_image);
    below = tt;
  };
  records = plain_ready.records;
  recorded = plain_ready.recorded;
  logs = plain_ready.logs;
  logged = plain_ready.logged;
}

-- the volume's entry of block 0 names a slot
named : entry (top_image 17) 0 ≡ 4
unfolding word
named = refl

pub forgotten_fails : ¬ ((r : TreeRow) → In r forgotten_known.rows → IsSteady sizes (r.extents * 32) (volume_of site plain_table plain_area (row_name r)) r.image)
forgotten_fails h =
    let v = volume_of site plain_table plain_area (Vhd first) in
    let none : entry (reads v) 0 ≡ blank = (h _ (inr (inl refl))).is_true.now.table 0 (sector_in 16 0 (lit< tt)) in
    let four : entry (reads v) 0 ≡ 4 = entry_alike (top_image 17) (reads v) (held_reads (top_image 17) v plain_holds) 0 (lit< tt) ∙ named in
    omega (arith, none, four)

-- ---- a guest's write at a disk that is not attached

pub loose_only : ((r : TreeRow) → In r plain_known.rows → is_written_in (shape_in site plain_table plain_known) (row_name r) ≡ false → IsQuiet (volume_of site plain_table written_area (row_name r)))
    → IsReady site plain_table written_area plain_known
loose_only h = record {
  firm = record { images = written_ready.firm.images; quiet = h; below = tt };
  records = written_ready.records;
  recorded = written_ready.recorded;
  logs = written_ready.logs;
  logged = written_ready.logged;
}

unwritten : is_written_in (shape_in site plain_table plain_known) (Vhd first) ≡ false
unfolding is_written_in image_uuid same_image shape_in
unwritten = refl

pub loose_fails : ¬ ((r : TreeRow) → In r plain_known.rows → is_written_in (shape_in site plain_table plain_known) (row_name r) ≡ false → IsQuiet (volume_of site plain_table written_area (row_name r)))
loose_fails h = written_not_quiet (h _ (inr (inl refl)) unwritten)

-- ---- a cursor past a block that the base holds otherwise

pub uncopied_only : IsBelow (content_now site copy_table uncopied_area) copy → IsReady site copy_table uncopied_area copy_known
uncopied_only h = ready_where (Coalesce second base) refl 17 copy_is_table refl copy h

pub uncopied_fails : ¬ IsBelow (content_now site copy_table uncopied_area) copy
uncopied_fails h = not_held_below (Coalesce second base) refl 17 (λ e. omega (arith, e)) 1 (lit≤ tt) h

-- ---- nor does it under a link

pub unheld_only : IsBelow (content_now site link_table uncopied_area) link → IsReady site link_table uncopied_area link_known
unheld_only h = ready_where (Relink second base) refl 17 link_is_table refl link h

pub unheld_fails : ¬ IsBelow (content_now site link_table uncopied_area) link
unheld_fails h = not_held_below (Relink second base) refl 17 (λ e. omega (arith, e)) 64 (lit≤ tt) h

-- ---- a label that was not written

pub relabelled_orderly : IsOrderly site plain_table relabelled_known
unfolding first_sector div_up
relabelled_orderly = orderly_with 64 first_slot (codes "c") (lit≤ tt) refl (lit≤ tt) (stand_right first_slot refl (front_within (Some 0 ∷ []) 63 (lit≤ tt)) (lit≤ tt))

pub relabelled_only : Agrees (records_held site plain_table plain_area) relabelled_known.places → IsReady site plain_table plain_area relabelled_known
relabelled_only h = record {
  firm = record {
    images = plain_ready.firm.images;
    quiet = λ r here unwritten. quiet_settled (volume_of site plain_table plain_area (row_name r)) (rest_settled (extents_of (rows plain_table (row_name r))) plain_image);
    below = tt;
  };
  records = h;
  recorded = plain_ready.recorded;
  logs = plain_ready.logs;
  logged = plain_ready.logged;
}

abbrev label_of : Reading → List ℕ
label_of Free = []
label_of (Taken r) = r.label
label_of Damaged = []

pub relabelled_fails : ¬ Agrees (records_held site plain_table plain_area) relabelled_known.places
relabelled_fails h =
    let labels : codes "c" ≡ codes "b" = ap label_of (sym (h.each 1 (Some (labelled (codes "c"))) refl) ∙ plain_ready.records.each 1 (Some raw_record) refl) in
    let bytes : 99 ≡ 98 = ap (λ (s : List ℕ). get_or s 0 0) labels in omega (arith, bytes)

-- ---- a record that is not synced

unsynced_elsewhere : (p : ℕ) → p ≢ 0 → unsynced_area.pending p ≡ []
unsynced_elsewhere p other = ap (λ b. cond b (plain_image 0 ∷ []) []) (ne_eqb p 0 other)

unsynced_floor : (p : ℕ) → p ≢ 0 → unsynced_area.floor p ≡ plain_image p
unsynced_floor p other = ap (λ b. cond b zeros (plain_image p)) (ne_eqb p 0 other)

unsynced_reads : (p : ℕ) → reads unsynced_area p ≡ plain_image p
unsynced_reads zero = refl
unsynced_reads (suc p) = ap (newest (unsynced_area.floor (suc p))) (unsynced_elsewhere (suc p) (λ e. omega (arith, e))) ∙ unsynced_floor (suc p) (λ e. omega (arith, e))

unsynced_holds : HoldsImage (top_image 17) (volume_of site plain_table unsynced_area (Vhd first))
unfolding row_of name_eq
unsynced_holds = volume_holds plain_table unsynced_area (Vhd first) 16 (top_image 17) refl
    (λ s below. unsynced_floor (512 + s) (λ e. omega (arith, e)) ∙ plain_place s below) (λ s below other. unsynced_elsewhere (512 + s) (λ e. omega (arith, e)))

first_apart : (p : ℕ) → p < span 32 (numbers 16 5) → spot 32 (numbers 16 5) p ≢ 0
unfolding numbers
first_apart p below none = let e : spot 32 (numbers 16 5) p ≡ 512 + p = spot_numbers 16 5 p (omega (arith, below)) in omega (arith, none, e)

raw_apart : (p : ℕ) → p < span 32 (21 ∷ []) → spot 32 (21 ∷ []) p ≢ 0
unfolding numbers
raw_apart p below none = let e : spot 32 (21 ∷ []) p ≡ 672 + p = spot_numbers 21 1 p (omega (arith, below)) in omega (arith, none, e)

unsynced_quiet : (r : TreeRow) → In r plain_rows → is_written_in (shape_in site plain_table plain_known) (row_name r) ≡ false → IsQuiet (volume_of site plain_table unsynced_area (row_name r))
unfolding row_of name_eq
unsynced_quiet = each (λ r. is_written_in (shape_in site plain_table plain_known) (row_name r) ≡ false → IsQuiet (volume_of site plain_table unsynced_area (row_name r))) plain_rows (
  λ unwritten. quiet_settled (volume_of site plain_table unsynced_area (Raw second)) (apart_settled unsynced_area 0 unsynced_elsewhere (21 ∷ []) raw_apart),
  (λ unwritten. quiet_settled (volume_of site plain_table unsynced_area (Vhd first)) (apart_settled unsynced_area 0 unsynced_elsewhere (numbers 16 5) first_apart), tt),
)

pub unsynced_only : IsQuiet (records_held site plain_table unsynced_area) → IsReady site plain_table unsynced_area plain_known
unfolding row_of name_eq
unsynced_only h = record {
  firm = record {
    images = each (λ r. IsSteady sizes (r.extents * 32) (volume_of site plain_table unsynced_area (row_name r)) r.image) plain_rows
        (refl, (steady (top_head first) first_slot (top_image 17) (volume_of site plain_table unsynced_area (Vhd first)) (top_here 17 first) (top_holds 17) unsynced_holds, tt));
    quiet = unsynced_quiet;
    below = tt;
  };
  records = records_agree plain_table unsynced_area (first_record ∷ raw_record ∷ []) 510 refl refl refl (first_right, (raw_right, tt))
      (λ k below. unsynced_reads k ∙ area_records (top_image 17) empty empty (first_record ∷ raw_record ∷ []) k below);
  recorded = h;
  logs = logged_none site plain_table unsynced_area plain_orderly.table (λ u. refl);
  logged = λ u. quiet_settled (volume_of site plain_table unsynced_area (Cbt u)) (none_settled unsynced_area);
}

zeros_free : reading zeros ≡ Free
unfolding zeros
zeros_free = reading_zeros 512

abbrev uuid_in : Reading → List ℕ
uuid_in Free = []
uuid_in (Taken r) = r.uuid
uuid_in Damaged = []

pub unsynced_fails : ¬ IsQuiet (records_held site plain_table unsynced_area)
unfolding row_of name_eq volume spot numbers
unsynced_fails h =
    let same : zeros ≡ record_sector first_record = h 0 zeros (inl refl) in
    let uuids : [] ≡ first = ap uuid_in (sym zeros_free ∙ ap reading same ∙ reading_again first_record first_right) in
    let bytes : 0 ≡ 1 = ap (λ (s : List ℕ). get_or s 15 0) uuids in omega (arith, bytes)
