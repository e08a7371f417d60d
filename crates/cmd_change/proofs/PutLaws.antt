-- A disk's record is put in place of another, between two syncs.
use Rattle.std.proofs.Common.{◌≡◌, ◌≢◌, ◌⊎◌, inl, inr, ⊎_elim, ℕ, ◌-◌, ◌*◌, ◌<◌, true, cond, List, length, map, Option, Some, None, is_none, unwrap_or, find, position, refl, sym, ap, ap₂, ◌∙◌, subst, subst₂, arith}
use Rattle.std.specs.List.{position_or_len}
use Rattle.std.specs.Option.{option_or}
use Rattle.std.proofs.Math.Path.{fun_ext}
use Rattle.std.proofs.lemmas.List.Folds.{find_at}
use Rattle.std.proofs.lemmas.Option.{get_or_from_slice_get, none-some, same_Some, slice_get_within}
use Rattle.std.proofs.lemmas.List.{get_or-set_other, get_or-set_same}
use Rattle.common_laws.proofs.Bytes.{bytes_eq-same}
use Rattle.common_laws.proofs.Lists.{find-some}
use Rattle.std.proofs.Math.ListN.{get_or, set}
use Rattle.std.proofs.lemmas.Bool.{lt-ltb, true≢false}
use Rattle.sm_base.specs.declared.names.Name.{Name}
use Rattle.sm_base.specs.declared.names.Name.TheVariants.{Mgt, Cbt}
use Rattle.sm_disk.specs.Held.{IsSettled, Torn, Wrote, reads}
use Rattle.sm_disk.specs.Sectors.{sector}
use Rattle.sm_disk.proofs.HeldLaws.{Keeps-then, in_one, may-torn}
use Rattle.sm_disk.proofs.SectorLaws.{sector-one}
use Rattle.vg_meta.specs.Tables.{VolumeTable, extents_of, rows}
use Rattle.vg_volumes.specs.Commits.{IsBefore}
use Rattle.vg_volumes.specs.Sites.{Site, area_size, volume_of}
use Rattle.vg_volumes.specs.Stored.{IsChoiceOf, Writes, stored}
use Rattle.vg_volumes.specs.declared.stores.Store.{Ghosts}
use Rattle.vg_volumes.proofs.StoredLaws.{did_in, stays_none}
use Rattle.vg_volumes.proofs.VolumeLaws.{KeepsElsewhere-same, Keeps-volume}
use Rattle.vhd_chain.specs.Trees.{row_name}
use Rattle.sm_record.specs.declared.records.Record.{Record}
use Rattle.sm_record.specs.Records.{IsRecord, reading, record_sector}
use Rattle.sm_record.proofs.RoundTrips.{reading_again, sector_fits}
use Rattle.sm_mgt.specs.Places.{is_of, place_count, place_for, record_in, records_held}
use Rattle.sm_mgt.proofs.AgreeLaws.{agrees_put}
use Rattle.sm_machine.specs.declared.commands.Command.TheVariants.{Label}
use Rattle.sm_machine.specs.Disks.{Disk, on_disk}
use Rattle.sm_machine.specs.Refusals.{is_unknown, named, refusal}
use Rattle.sm_machine.specs.Shapes.{Shape, is_image_of}
use Rattle.sm_machine.specs.Steps.{disks_next}
use Rattle.sm_machine.proofs.Attaches.{is_its_image}
use Rattle.sm_machine.proofs.Passed.{passed}
use Rattle.sm_machine.specs.Runs.{HasSector, face}
use Rattle.sm_run.specs.Between.{IsBetween}
use Rattle.sm_standing.specs.Images.{image_of}
use Rattle.sm_standing.specs.Keeping.{IsKept}
use Rattle.sm_standing.specs.Standing.{disks}
use Rattle.sm_standing.proofs.RecordLists.{first_of, record_of_first, records_same}
use Rattle.sm_ready.specs.Done.{HasDone}
use Rattle.sm_ready.specs.Known.{Known, is_shown, known, machine_row, shape_in}
use Rattle.sm_ready.specs.Orderly.{IsOrderly}
use Rattle.sm_ready.specs.Middle.{IsMiddle, with_place}
use Rattle.sm_ready.specs.Ready.{IsReady, IsTidy}
use Rattle.sm_ready.specs.Stores.{MayShow, StoreLeaves, content_in, content_now, store_content}
use Rattle.sm_ready.specs.declared.memory.Memory.{Memory}
use Rattle.sm_ready.proofs.AfterLaws.{other_keeps}
use Rattle.sm_ready.proofs.AlikeLaws.{disks_alike}
use Rattle.sm_ready.proofs.ChainLaws.{might_show, only_crash, tab}
use Rattle.sm_ready.proofs.CommitLaws.{already}
use Rattle.sm_ready.proofs.LogLaws.{HoldsLogs, holds_keeps, holds_ready, logged_before}
use Rattle.sm_standing.specs.Logs.{IsLogged}
use Rattle.sm_ready.proofs.KeptLaws.{law_kept}
use Rattle.sm_ready.proofs.FrameLaws.{not_mgt}
use Rattle.sm_ready.proofs.LabelLaws.{IsToLabel, disks_labelled, firm_labelled, orderly_labelled}
use Rattle.cmd_change.specs.Changing.{relabelled}
use Rattle.sm_ready.proofs.LeaveLaws.{left_choice}
use Rattle.sm_ready.proofs.LeftLaws.{IsLeft, IsLeftIn, extent_some, image_quiet, left_now, place_reads}
use Rattle.sm_ready.proofs.LookLaws.{record_is}
use Rattle.sm_ready.proofs.MiddleLaws.{middle_in, middle_places, nat_or_not}
use Rattle.sm_ready.proofs.OwnLaws.{own_row}
use Rattle.sm_ready.proofs.ShapeLaws.{any_at, at_place, place_of}
use Rattle.sm_ready.proofs.OperationLaws.{below_alike}
use Rattle.sm_ready.proofs.RepairLaws.{all_quiet}
use Rattle.sm_ready.proofs.RestLaws.{agrees_keeps, steady_keeps}
use Rattle.sm_ready.proofs.SyncLaws.{IsSynced, behind_content, behind_sync, told_behind}
use Rattle.sm_ready.proofs.TakenLaws.{IsTold}

module _ {S : Type 0} {g : Ghosts S} {b d : S} {m : Memory} (h : IsTold g b m) (settled : IsSettled (g.area b)) (u text : List ℕ) (k : ℕ) (r : Record) (lab : IsToLabel (known m) u k r) (proper : IsRecord (relabelled text r))
    (passes : refusal (shape_in (g.site b) (tab g b) (known m)) (Label u text) ≡ None) (w : Writes g Mgt (Torn k (record_sector (relabelled text r))) b d) where
  abbrev s : Site
  s = g.site b

  abbrev t : VolumeTable
  t = tab g b

  abbrev next : Record
  next = relabelled text r

  abbrev was : List Disk
  was = disks (store_content g b)

  abbrev pub labelled : List Disk
  labelled = on_disk u (λ (x : Disk). record x { label = text }) was

  middle : IsMiddle s t (known m) (g.area b) (g.area d) k next
  middle = record {
    images = λ q i. other_keeps s t (g.area b) (g.area d) Mgt (row_name q) h.orderly.table (extent_some s t (known m) h.orderly) (KeepsElsewhere-same (w.beside h.told)) (not_mgt s t (known m) h.orderly q i);
    logs = λ v. other_keeps s t (g.area b) (g.area d) Mgt (Cbt v) h.orderly.table (extent_some s t (known m) h.orderly) (KeepsElsewhere-same (w.beside h.told)) (λ same. let x = same in cc);
    records = λ p v below may. ⊎_elim (λ before. inl before)
        (λ puts.
        let long = (sector_fits next proper).long in
        let at : p ≡ k = in_one k (length (record_sector next)) p long puts.0 in
        inr (at, ap reading (puts.1 ∙ ap (λ j. sector (record_sector next) (j - k)) at ∙ ap (sector (record_sector next)) (omega arith) ∙ sector-one (record_sector next) long) ∙ reading_again next proper))
        (may-torn (did_in (stays_none b) w h.told) p v may);
  }

  module _ (image : ℕ → List ℕ) (left : IsLeft s (g.area d) image) where
    inside : IsLeftIn s t (known m) (g.area b) image
    inside = middle_in s t (known m) (g.area b) (g.area d) k next h.orderly h.ready lab.within middle image left

    images : (n : Name) → image_of (content_in s t image) n ≡ image_of (store_content g b) n
    images n = image_quiet s t (g.area b) (known m) image n h.orderly h.ready.firm inside (all_quiet s t (g.area b) settled n)

    -- what a stop leaves behind the write is kept, with the one label or the other
    pub left_put : IsKept (content_in s t image) × ((disks (content_in s t image) ≡ was) ⊎ (disks (content_in s t image) ≡ labelled))
    left_put = ⊎_elim
        (λ holds. (
          law_kept s t (g.area b) (known m) image h.orderly h.ready.firm inside holds,
          inl (disks_alike (store_content g b) (content_in s t image) refl images (λ v. record_of_first (content_in s t image) v
              ∙ ap first_of (records_same (store_content g b) (content_in s t image) v (λ p below. holds.each p below ∙ sym (place_reads s t (g.area b) (known m) h.orderly h.ready p below)))
              ∙ sym (record_of_first (store_content g b) v))),
        ))
        (λ holds. (
          law_kept s t (g.area b) (with_place k next (known m)) image (orderly_labelled s t (known m) u text k r h.orderly lab passes) (firm_labelled s t (g.area b) (known m) k next h.ready.firm) inside holds,
          inr (disks_labelled s t (g.area b) (known m) u text k r image h.orderly h.ready lab holds images),
        ))
        (middle_places s t (known m) (g.area b) (g.area d) k next h.orderly h.ready lab.within middle image left)

  -- told as a session tells it
  put_crash : (v : VolumeTable) (image : ℕ → List ℕ) → IsBefore (area_size s) t (g.area d) v image
      → IsKept (content_in s v image) × IsBetween (MayShow s (StoreLeaves g b)) was labelled (disks (content_in s v image))
  put_crash v image is =
      let x = left_put image is.sectors in
      subst (λ y. IsKept (content_in s y image) × IsBetween (MayShow s (StoreLeaves g b)) was labelled (disks (content_in s y image))) (sym is.table_is) (
        x.0,
        ⊎_elim
            (λ same. inl (record {
              faces = ap (map face) same;
              sectors = λ v k bytes has. (was, might_show g h.usable h.told, subst (λ (ds : List Disk). HasSector ds v k bytes) same has);
            }))
            (λ new. inr (already (MayShow s (StoreLeaves g b)) labelled (disks (content_in s t image)) new)) x.1,
      )

  -- and it has the logs of memory
  held_logs : HoldsLogs s t (g.area b) (known m).logs
  held_logs = holds_ready s t (g.area b) (known m) h.orderly h.ready

  put_logged : (n : Known) → n.logs ≡ (known m).logs → (v : VolumeTable) (image : ℕ → List ℕ) → IsBefore (area_size s) t (g.area d) v image → IsLogged (content_in s v image) n.logs
  put_logged n same v image is = subst (IsLogged (content_in s v image)) (sym same) (logged_before (holds_keeps held_logs (g.area d) middle.logs) h.orderly.table v image is)

  module _ (choice : (v : VolumeTable) (image : ℕ → List ℕ) → g.leaves d v image → IsChoiceOf (stored g d) v image) where
    left_put_of : (v : VolumeTable) (image : ℕ → List ℕ) → StoreLeaves g d v image → IsBefore (area_size s) t (g.area d) v image
    left_put_of v image l =
        subst₂ (λ y z. IsBefore (area_size y) z (g.area d) v image) w.stays.site w.stays.table (left_choice g.told (g.site d) (tab g d) (g.area d) (g.leaves d) (g.failed d) choice v image l)

    -- the write failed
    pub put_failed : (n : Known) (ok : Type 0) → (ok → ⊥) → n.logs ≡ (known m).logs → HasDone s t (tab g d) (g.area b) (g.area d) n (StoreLeaves g b) (StoreLeaves g d) ok labelled
    put_failed n ok never same = only_crash never (λ v image l. put_crash v image (left_put_of v image l)) (λ v image l. put_logged n same v image (left_put_of v image l))

    module _ {e : S} (y : IsSynced g d e) where
      left_end : (v : VolumeTable) (image : ℕ → List ℕ) → StoreLeaves g e v image → IsBefore (area_size s) t (g.area d) v image
      left_end v image l = ⊎_elim (λ k. left_put_of v image (inl (y.leaves v image k)))
          (λ z. let now = subst₂ (λ a c. IsBefore (area_size a) c (g.area e) v image) (y.site ∙ w.stays.site) (y.table ∙ w.stays.table) z.2 in
          record { table_is = now.table_is; sectors = λ p below. y.keeps.may p (image p) (now.sectors p below) }) l

      end_crash : (v : VolumeTable) (image : ℕ → List ℕ) → StoreLeaves g e v image → IsKept (content_in s v image) × IsBetween (MayShow s (StoreLeaves g b)) was labelled (disks (content_in s v image))
      end_crash v image l = put_crash v image (left_end v image l)

      -- the sync behind it failed
      pub end_failed : (n : Known) (ok : Type 0) → (ok → ⊥) → n.logs ≡ (known m).logs → HasDone s t (tab g e) (g.area b) (g.area e) n (StoreLeaves g b) (StoreLeaves g e) ok labelled
      end_failed n ok never same = only_crash never end_crash (λ v image l. put_logged n same v image (left_end v image l))

      module _ (last : IsSettled (g.area e)) (placed : place_for (known m).places u ≡ Some k) (wrote : Writes g Mgt (Wrote k (record_sector next)) b d) where
        reads_end : reads (g.area e) ≡ reads (g.area d)
        reads_end = fun_ext y.keeps.reads

        at_end : IsLeft s (g.area d) (reads (g.area e))
        at_end = subst (IsLeft s (g.area d)) (sym reads_end) (left_now s (g.area d))

        ready_end : IsReady s t (g.area e) (with_place k next (known m))
        ready_end = record {
          firm = record {
            images = λ q i. steady_keeps s.geometry (q.extents * s.geometry.extent) (volume_of s t (g.area b) (row_name q)) (volume_of s t (g.area e) (row_name q)) q.image
                (Keeps-then (middle.images q i) (Keeps-volume s.geometry.extent (extents_of (rows t (row_name q))) y.keeps)) (h.ready.firm.images q i);
            quiet = λ q i _. all_quiet s t (g.area e) last (row_name q);
            below = below_alike (store_content g b) (content_now s t (g.area e)) m.operation refl refl (λ n _. images (reads (g.area e)) at_end n) h.ready.firm.below;
          };
          records = agrees_keeps (records_held s t (g.area d)) (records_held s t (g.area e)) (set m.records k (Some next)) (Keeps-volume s.geometry.extent (extents_of (rows t Mgt)) y.keeps)
              (agrees_put m.records next k (records_held s t (g.area b)) (records_held s t (g.area d)) proper (ap (place_for m.records) lab.uuid ∙ placed) (did_in (stays_none b) wrote h.told) h.ready.records);
          recorded = all_quiet s t (g.area e) last Mgt;
          logs = (holds_keeps held_logs (g.area e) (λ v. Keeps-then (middle.logs v) (Keeps-volume s.geometry.extent (extents_of (rows t (Cbt v))) y.keeps))).logs;
          logged = λ v. all_quiet s t (g.area e) last (Cbt v);
        }

        -- all lasts, with the new label
        pub put_done : (ok : Type 0) → HasDone s t (tab g e) (g.area b) (g.area e) (with_place k next (known m)) (StoreLeaves g b) (StoreLeaves g e) ok labelled
        put_done ok = record {
          ready = λ _. subst (λ z. IsReady s z (g.area e) (with_place k next (known m))) (sym (y.table ∙ w.stays.table)) ready_end;
          settled = λ _. last;
          shown = λ _. ap (λ z. disks (content_now s z (g.area e))) (y.table ∙ w.stays.table)
              ∙ disks_labelled s t (g.area b) (known m) u text k r (reads (g.area e)) h.orderly h.ready lab
              (record { long = ready_end.records.long; each = place_reads s t (g.area e) (with_place k next (known m)) (orderly_labelled s t (known m) u text k r h.orderly lab passes) ready_end })
              (images (reads (g.area e)) at_end);
          crash = end_crash;
          logged = λ v image l. put_logged (with_place k next (known m)) refl v image (left_end v image l);
        }

-- ---- the record of a disk that is named

-- where it is, by what was found
pub found_place : (places : List (Option Record)) (u : List ℕ) (r : Record) → record_in places u ≡ Some r → (k : ℕ) × (place_for places u ≡ Some k) × (k < length places) × (get_or places k None ≡ Some r) × (r.uuid ≡ u)
unfolding place_for
found_place places u r is =
    let found = some_found (find (is_of u) places) is in
    let at = sym (find_at (is_of u) places) ∙ found in
    let within = slice_get_within places (position_or_len (is_of u) places) (Some r) at in (
      position_or_len (is_of u) places,
      ap (λ b. option_or (cond b (Some (position_or_len (is_of u) places)) None) (position is_none places)) (lt-ltb (position_or_len (is_of u) places) (length places) within),
      within,
      get_or_from_slice_get places (position_or_len (is_of u) places) (Some r) None at,
      bytes_eq-same r.uuid u (find-some (is_of u) places (Some r) found).1,
    )
  where
    some_found : (o : Option (Option Record)) → unwrap_or o None ≡ Some r → o ≡ Some (Some r)
    some_found None e = absurd (none-some r e)
    some_found (Some x) e = ap Some e

-- the record of a disk that is to be labelled
pub record IsRecorded (m : Known) (u : List ℕ) (r : Record) : Type 0 where
  pub place : ℕ
  pub labelled : IsToLabel m u place r
  pub placed : place_for m.places u ≡ Some place

pub recorded : (s : Site) (t : VolumeTable) (m : Known) (u text : List ℕ) (r : Record) → IsOrderly s t m → refusal (shape_in s t m) (Label u text) ≡ None → record_in m.places u ≡ Some r → IsRecorded m u r
unfolding named
recorded s t m u text r o passes is =
    let f = found_place m.places u r is in
    let own = own_row s t m (Label u text) u o passes refl in
    record {
      place = f.0;
      labelled = record {
        within = omega (arith, f.2, o.places);
        there = f.3;
        uuid = f.4;
        shown = any_at (λ q. is_image_of u (machine_row q)) m.rows own.row own.there (is_its_image (machine_row own.row) u own.shown own.uuid);
      };
      placed = f.1;
    }

-- there is one
pub unrecorded : (s : Site) (t : VolumeTable) (m : Known) (u text : List ℕ) → IsOrderly s t m → IsTidy t m → refusal (shape_in s t m) (Label u text) ≡ None → record_in m.places u ≡ None → ⊥
unfolding is_unknown named
unrecorded s t m u text o tidy passes none = true≢false (sym (ap is_none (record_is s t m u None o tidy none)) ∙ (passed (shape_in s t m) (Label u text) passes).unknown)

-- the write goes to its place
pub place_of_put : (m : Known) (u : List ℕ) (r : Record) (h : IsRecorded m u r) → unwrap_or (place_for m.places r.uuid) 0 ≡ h.place
place_of_put m u r h = ap (λ v. unwrap_or (place_for m.places v) 0) h.labelled.uuid ∙ ap (λ o. unwrap_or o 0) h.placed

-- the disks after the command
pub label_disks : (ds : List Disk) (σ : Shape) (u text : List ℕ) → disks_next ds σ (Label u text) ≡ on_disk u (λ (x : Disk). record x { label = text }) ds
unfolding disks_next
label_disks ds σ u text = refl

-- no record is stray afterwards
pub tidy_labelled : (t : VolumeTable) (m : Known) (u text : List ℕ) (r : Record) (h : IsRecorded m u r) → length m.places ≡ place_count → IsTidy t m → IsTidy t (with_place h.place (relabelled text r) m)
tidy_labelled t m u text r h long tidy = record {
  none_new = tidy.none_new;
  no_stray = λ q i.
      let p = place_of (set m.places h.place (Some (relabelled text r))) q i in
      by q p.0 p.2 (nat_or_not p.0 h.place);
}
  where
    by : (q : Record) (j : ℕ) → get_or (set m.places h.place (Some (relabelled text r))) j None ≡ Some q → (j ≡ h.place) ⊎ (j ≢ h.place) → is_shown m.rows q.uuid ≡ true
    by q j at (inl same) =
        let is : Some (relabelled text r) ≡ Some q = sym (get_or-set_same m.places h.place (Some (relabelled text r)) None (omega (arith, h.labelled.within, long))) ∙ subst (λ i. get_or (set m.places h.place (Some (relabelled text r))) i None ≡ Some q) same at in
        ap (is_shown m.rows) (sym (ap (λ (x : Record). x.uuid) (same_Some (relabelled text r) q is)) ∙ h.labelled.uuid) ∙ h.labelled.shown
    by q j at (inr other) = tidy.no_stray q (at_place m.places j q (sym (get_or-set_other m.places h.place j (Some (relabelled text r)) None other) ∙ at))

-- ---- the whole call

module _ {S : Type 0} {g : Ghosts S} {a b d : S} {m : Memory} (h : IsTold g a m) (y : IsSynced g a b) (settled : IsSettled (g.area b)) (choice : (v : VolumeTable) (image : ℕ → List ℕ) → g.leaves b v image → IsChoiceOf (stored g b) v image)
    (u text : List ℕ) (r row : Record) (of : IsRecorded (known m) u r) (row_is : row ≡ relabelled text r) (proper : IsRecord row) (passes : refusal (shape_in (g.site a) (tab g a) (known m)) (Label u text) ≡ None)
    (w : Writes g Mgt (Torn (unwrap_or (place_for m.records row.uuid) 0) (record_sector row)) b d) (then : (v : VolumeTable) (image : ℕ → List ℕ) → g.leaves d v image → IsChoiceOf (stored g d) v image) where
  abbrev pub next_disks : List Disk
  next_disks = disks_next (disks (store_content g a)) (shape_in (g.site a) (tab g a) (known m)) (Label u text)

  behind : IsTold g b m
  behind = told_behind h y settled choice

  right : IsRecord (relabelled text r)
  right = subst IsRecord row_is proper

  place_is : unwrap_or (place_for m.records row.uuid) 0 ≡ of.place
  place_is = ap (λ (x : Record). unwrap_or (place_for m.records x.uuid) 0) row_is ∙ place_of_put (known m) u r of

  passes_still : refusal (shape_in (g.site b) (tab g b) (known m)) (Label u text) ≡ None
  passes_still = subst₂ (λ s t. refusal (shape_in s t (known m)) (Label u text) ≡ None) (sym y.site) (sym y.table) passes

  torn : Writes g Mgt (Torn of.place (record_sector (relabelled text r))) b d
  torn = subst₂ (λ k x. Writes g Mgt (Torn k (record_sector x)) b d) place_is row_is w

  -- the disks that the machine has, as they follow those behind the sync
  disks_are : labelled behind settled u text of.place r of.labelled right passes_still torn ≡ next_disks
  disks_are = ap (λ c. on_disk u (λ (x : Disk). record x { label = text }) (disks c)) (behind_content h y) ∙ sym (label_disks (disks (store_content g a)) (shape_in (g.site a) (tab g a) (known m)) u text)

  pub label_failed : (n : Known) (ok : Type 0) → (ok → ⊥) → n.logs ≡ (known m).logs → HasDone (g.site a) (tab g a) (tab g d) (g.area a) (g.area d) n (StoreLeaves g a) (StoreLeaves g d) ok next_disks
  label_failed n ok never same =
      behind_sync h y n ok next_disks (subst (λ ds. HasDone (g.site b) (tab g b) (tab g d) (g.area b) (g.area d) n (StoreLeaves g b) (StoreLeaves g d) ok ds) disks_are
      (put_failed behind settled u text of.place r of.labelled right passes_still torn then n ok never same))

  module _ {e : S} (last : IsSynced g d e) where
    pub label_unsettled : (n : Known) (ok : Type 0) → (ok → ⊥) → n.logs ≡ (known m).logs → HasDone (g.site a) (tab g a) (tab g e) (g.area a) (g.area e) n (StoreLeaves g a) (StoreLeaves g e) ok next_disks
    label_unsettled n ok never same =
        behind_sync h y n ok next_disks (subst (λ ds. HasDone (g.site b) (tab g b) (tab g e) (g.area b) (g.area e) n (StoreLeaves g b) (StoreLeaves g e) ok ds) disks_are
        (end_failed behind settled u text of.place r of.labelled right passes_still torn then last n ok never same))

    pub label_done : IsSettled (g.area e) → Writes g Mgt (Wrote (unwrap_or (place_for m.records row.uuid) 0) (record_sector row)) b d → (n : Known) → n ≡ with_place of.place (relabelled text r) (known m) → (ok : Type 0)
        → HasDone (g.site a) (tab g a) (tab g e) (g.area a) (g.area e) n (StoreLeaves g a) (StoreLeaves g e) ok next_disks
    label_done settles wrote n is ok =
        subst (λ z. HasDone (g.site a) (tab g a) (tab g e) (g.area a) (g.area e) z (StoreLeaves g a) (StoreLeaves g e) ok next_disks) (sym is)
        (behind_sync h y (with_place of.place (relabelled text r) (known m)) ok next_disks (subst (λ ds. HasDone (g.site b) (tab g b) (tab g e) (g.area b) (g.area e) (with_place of.place (relabelled text r) (known m)) (StoreLeaves g b) (StoreLeaves g e) ok ds) disks_are
        (put_done behind settled u text of.place r of.labelled right passes_still torn then last settles of.placed (subst₂ (λ k x. Writes g Mgt (Wrote k (record_sector x)) b d) place_is row_is wrote) ok)))

-- memory with the record in its place
pub memory_put : (m : Known) (u text : List ℕ) (r row : Record) (of : IsRecorded m u r) (ps : List (Option Record)) → row ≡ relabelled text r → ps ≡ set m.places (unwrap_or (place_for m.places row.uuid) 0) (Some row)
    → record m { places = ps } ≡ with_place of.place (relabelled text r) m
memory_put m u text r row of ps row_is is =
    ap (λ xs. let k : Known = record m { places = xs } in k)
    (is ∙ ap₂ (λ k x. set m.places k (Some x)) (ap (λ (x : Record). unwrap_or (place_for m.places x.uuid) 0) row_is ∙ place_of_put m u r of) row_is)
