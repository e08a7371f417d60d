-- The end of an import, by site, table and sectors: the disk's record is put, and the commit that takes the mark away makes the volume the
-- disk's. In front of it a stop leaves the disks from before, behind it these and the new one.
use Rattle.std.proofs.Common.{◌≡◌, ◌≢◌, ℕ, suc, ◌+◌, ◌*◌, ◌≤◌, Bool, true, false, ◌||◌, cond, List, [], ◌∷◌, length, map, filter, Option, Some, None, refl, sym, ap, ap₂, ◌∙◌, subst, arith}
use Rattle.std.proofs.Math.Logic.{∥∥₁_map}
use Rattle.std.proofs.lemmas.Bool.{true≢false}
use Rattle.std.proofs.lemmas.List.{length-append, length-map}
use Rattle.std.proofs.lemmas.Option.{none-some}
use Rattle.std.proofs.lemmas.Slice.Eq.{bytes_eq-Decides}
use Rattle.sm_base.specs.Kinds.{is_image, is_log}
use Rattle.sm_base.specs.Names.{is_base}
use Rattle.sm_base.specs.declared.names.Name.{Name}
use Rattle.sm_base.specs.declared.names.Name.TheVariants.{Mgt}
use Rattle.sm_disk.specs.Held.{Held, Keeps, May, Torn, Wrote, reads}
use Rattle.sm_disk.proofs.SectorLaws.{sector-one}
use Rattle.sm_disk.proofs.HeldLaws.{may_settled, May-reads}
use Rattle.vg_layout.specs.Places.{record_extents}
use Rattle.sm_log.specs.Logs.{log_extents}
use Rattle.vg_meta.specs.Tables.{Row, VolumeTable, extents_in, extents_of, name_eq, names_of, row_of, rows}
use Rattle.vg_meta.specs.Changes.{Permits, applied, tagged, without}
use Rattle.vg_meta.specs.declared.changes.Change.TheVariants.{Mark, Remove}
use Rattle.vg_meta.specs.declared.changes.Tag.TheVariants.{Fresh}
use Rattle.vg_meta.proofs.ByName.{changes_by_name}
use Rattle.vg_meta.proofs.DecodeLaws.{used-le}
use Rattle.vg_meta.proofs.RowLaws.{names_of-with_row}
use Rattle.vg_volumes.specs.Sites.{Site, volume_of}
use Rattle.vg_volumes.specs.Volumes.{KeepsElsewhere, SameElsewhere}
use Rattle.vg_volumes.proofs.VolumeLaws.{KeepsElsewhere-same}
use Rattle.common_laws.specs.Lists.{In}
use Rattle.common_laws.proofs.Lists.{In-map}
use Rattle.sm_machine.specs.Disks.{Disk, with_disk}
use Rattle.sm_machine.specs.Shapes.{ImageRow, image_extents, image_limit, image_uuid}
use Rattle.sm_machine.specs.WellFormed.{IsImageRow, IsWellFormed, is_image_name}
use Rattle.sm_mgt.specs.Places.{place_for, records_held}
use Rattle.sm_mgt.proofs.AgreeLaws.{agrees_put}
use Rattle.sm_record.specs.Records.{IsRecord, reading, record_sector}
use Rattle.sm_record.specs.declared.records.Record.{Record}
use Rattle.sm_record.proofs.RoundTrips.{reading_again, sector_fits}
use Rattle.sm_standing.specs.Standing.{disk_in, disks}
use Rattle.vhd_chain.specs.declared.rows.TreeRow.{TreeRow}
use Rattle.vhd_chain.specs.Trees.{row_name}
use Rattle.vhd_image.specs.Bodies.{StandsIn, parent_name}
use Rattle.vhd_image.specs.Steady.{IsSteady}
use Rattle.sm_ready.specs.Done.{at_rest}
use Rattle.sm_ready.specs.Known.{Known, has_image, machine_record, machine_row, shape_in}
use Rattle.sm_ready.specs.Middle.{IsMiddle, IsStray}
use Rattle.sm_ready.specs.Orderly.{IsOrderly}
use Rattle.sm_ready.specs.Ready.{HasNoStray, IsReady, IsTidy}
use Rattle.sm_ready.specs.Stores.{Leaving, MayShow, content_now}
use Rattle.sm_ready.proofs.AfterLaws.{other_keeps}
use Rattle.sm_ready.proofs.BeginLaws.{stray_for}
use Rattle.sm_ready.proofs.BesideLaws.{IsBeside, orderly_beside}
use Rattle.sm_ready.proofs.CauseLaws.{row_without}
use Rattle.sm_ready.proofs.CommitLaws.{volume_rested}
use Rattle.sm_ready.proofs.GoneLaws.{goes_alone}
use Rattle.sm_ready.proofs.LastLaws.{IsMade, IsStepped, IsWritten, after, disks_last, made_memory, none_new, orderly_last, ready_last}
use Rattle.sm_ready.proofs.LeftLaws.{extent_some}
use Rattle.sm_ready.proofs.MiddleLaws.{middle_safe}
use Rattle.sm_ready.proofs.NewLaws.{counted_more}
use Rattle.sm_ready.proofs.ReachLaws.{reached}
use Rattle.sm_ready.proofs.RestLaws.{agrees_keeps, steady_keeps}
use Rattle.sm_ready.proofs.LogLaws.{holds_keeps, holds_ready, logged_left}
use Rattle.sm_ready.proofs.RowLaws.{found_in, image_named}
use Rattle.sm_ready.proofs.ShapeLaws.{mgt_image}
use Rattle.sm_ready.proofs.StepLaws.{no_stray_last}
use Rattle.sm_ready.proofs.SumLaws.{extents_counted}
use Rattle.sm_calls.specs.Calls.{IsFine, IsReadyWith, ShowsBetween, worked}
use Rattle.sm_calls.proofs.StoreLaws.{ready_fine, safe_fine}
use Rattle.sm_importing.specs.Imports.{IsFilling}
use Rattle.sm_importing.proofs.AddedLaws.{IsAdded, added_keeps}
use Rattle.sm_importing.proofs.MomentLaws.{at}

-- ---- extents are counted

abbrev long_of : Option Row → ℕ
long_of None = 0
long_of (Some x) = length x.extents

-- those of the others, and those of the volume
pub used_without : (rs : List Row) (n : Name) (r : Row) → row_of rs n ≡ Some r → length (extents_in (without n rs)) + length r.extents ≡ length (extents_in rs)
unfolding without row_of
used_without [] n r h = absurd (none-some r h)
used_without (s ∷ rs) n r h = by (name_eq s.name n) (λ e. used_without rs n r e) h
  where
    by : (b : Bool) → (row_of rs n ≡ Some r → length (extents_in (without n rs)) + length r.extents ≡ length (extents_in rs)) → cond b (Some s) (row_of rs n) ≡ Some r
        → length (extents_in (cond b rs (s ∷ without n rs))) + length r.extents ≡ length (extents_in (s ∷ rs))
    by true rest e = omega (arith, length-append s.extents (extents_in rs), ap long_of e)
    by false rest e = omega (arith, length-append s.extents (extents_in (without n rs)), length-append s.extents (extents_in rs), rest e)

-- what stands in table and memory at the end: the new volume, and the image and the record that it is to be
pub record IsEnding (s : Site) (t : VolumeTable) (m : Known) (own : Name) (added : TreeRow) (k : ℕ) (r : Record) (row : Row) : Type 0 where
  pub orderly : IsOrderly s t m
  pub no_stray : HasNoStray m
  pub there : rows t own ≡ Some row
  pub fresh : row.fresh ≡ true
  pub visible : row.hidden ≡ false
  pub only_new : (q : Row) → In q t.volumes → q.fresh ≡ true → q.name ≡ own
  pub image : is_image_name own ≡ true
  pub uuid : image_uuid own ≡ r.uuid
  pub not_base : is_base r.uuid ≡ false
  pub absent : has_image m.rows r.uuid ≡ false
  pub few : length m.rows + 1 ≤ image_limit
  pub placed : place_for m.places r.uuid ≡ Some k
  pub recorded : IsRecord r
  pub writable : r.read_only ≡ false
  pub named : row_name added ≡ own
  pub shown : added.hidden ≡ false
  pub long : added.extents ≡ length row.extents
  pub root : parent_name added.image ≡ None
  pub good : IsImageRow (shape_in s t m) (machine_row added)
  pub stands : StandsIn s.geometry (added.extents * s.geometry.extent) added.image

module _ (s : Site) (t : VolumeTable) (m : Known) (own : Name) (added : TreeRow) (k : ℕ) (r : Record) (row : Row) (h : IsEnding s t m own added k r row) where
  not_mgt : own ≢ Mgt
  not_mgt same = true≢false (sym h.image ∙ ap is_image_name same ∙ mgt_image)

  beside : IsBeside s t own row (Remove own)
  beside = record { there = h.there; fresh = h.fresh; allows = record { row = row; there = h.there; not_mgt = not_mgt }; image = h.image }

  -- there is room for the image beside the others
  room : log_extents m.logs + record_extents s.geometry.extent + (added.extents + image_extents (map machine_row m.rows)) ≤ s.count
  room =
      let alone = goes_alone h.orderly.table beside in
      let o = orderly_beside s t m own row (Remove own) h.orderly beside alone in
      omega (arith, extents_counted s (applied t (Remove own)) m (λ q i. old q i o) o, used_without t.volumes own row h.there, used-le s.count t.volumes h.orderly.table.volumes, h.long)
    where
      old : (q : Row) → In q (applied t (Remove own)).volumes → IsOrderly s (applied t (Remove own)) m → q.fresh ≡ false
      old q i o = by q.fresh refl
        where
          by : (x : Bool) → q.fresh ≡ x → q.fresh ≡ false
          by false e = e
          by true e =
              let w = (goes_alone h.orderly.table beside).news q i e in
              let none : rows (applied t (Remove own)) own ≡ None = (changes_by_name s.count t (Remove own) h.orderly.table beside.allows).does.2 in
              absurd (none-some q (sym none ∙ ap (rows (applied t (Remove own))) (sym (sym w.3 ∙ h.only_new w.0 w.1 w.2)) ∙ found_in (applied t (Remove own)).volumes o.table.volumes.rising q i))

  added_is : IsWellFormed (shape_in s t m) → IsAdded (shape_in s t m) (machine_row added) (machine_record r)
  unfolding shape_in
  added_is w = record {
    good = h.good;
    uuid = ap image_uuid h.named ∙ h.uuid;
    shown = h.shown;
    root = h.root;
    not_base = h.not_base;
    writable = h.writable;
    no_image = λ i j e. let x = In-map machine_row m.rows i j in
        true≢false (sym ((bytes_eq-Decides (image_uuid (row_name x.0)) r.uuid).1 (sym (ap (λ (z : ImageRow). image_uuid z.name) x.2) ∙ e)) ∙ row_without s t m r.uuid h.orderly w h.absent x.0 x.1);
    few = omega (arith, length-map m.rows machine_row, h.few);
    room = room;
  }

  pub mark_allowed : Permits s.count t (Mark own Fresh false)
  mark_allowed = record { row = row; there = h.there; taking = ap (λ b. b || is_log own) (image_named own h.image); otherwise = h.fresh }

  stray : IsStray m k r
  stray = stray_for s t m k r h.orderly h.no_stray h.absent h.placed

  pub made_is : IsMade s t m own added k r row
  made_is = record {
    orderly = h.orderly;
    no_stray = h.no_stray;
    stray = stray;
    there = h.there;
    fresh = h.fresh;
    visible = h.visible;
    allows = mark_allowed;
    image = h.image;
    uuid = h.uuid;
    named = h.named;
    shown = h.shown;
    long = h.long;
    stands = h.stands;
  }

  pub stepped_is : IsStepped s t m own added k r row
  unfolding shape_in
  stepped_is = record {
    few = omega (arith, counted is_image t.volumes, counted is_image (after t own).volumes, ap (λ (ns : List Name). length (filter is_image ns)) (names_of-with_row t.volumes own (tagged Fresh false) (λ q. refl)), h.orderly.few);
    only_new = h.only_new;
    well_formed = ∥∥₁_map h.orderly.well_formed (λ w. added_keeps (shape_in s t m) w (machine_row added) (machine_record r) (added_is w) (after t own).sequence (omega (arith, h.orderly.table.sequence)) (omega arith));
    counts = λ n. h.orderly.counts n ∙ sym (counted_more s t (after t own) m added k r h.orderly h.absent (ap image_uuid h.named ∙ h.uuid) n);
  }
    where
      counted : (test : Name → Bool) (rs : List Row) → length (filter (λ (x : Row). test x.name) rs) ≡ length (filter test (names_of rs))
      counted test [] = refl
      counted test (x ∷ rs) = by (test x.name) (counted test rs)
        where
          by : (b : Bool) → length (filter (λ (y : Row). test y.name) rs) ≡ length (filter test (names_of rs))
              → length (cond b (x ∷ filter (λ (y : Row). test y.name) rs) (filter (λ (y : Row). test y.name) rs)) ≡ length (cond b (x.name ∷ filter test (names_of rs)) (filter test (names_of rs)))
          by true rest = ap suc rest
          by false rest = rest

  -- ---- the sectors

  module _ (area new : Held) (same : SameElsewhere s.geometry.extent (extents_of (rows t Mgt)) area new) where
    rested_same : KeepsElsewhere s.geometry.extent (extents_of (rows t Mgt)) (at_rest (reads area)) (at_rest (reads new))
    rested_same =
        let keeps = KeepsElsewhere-same same in
        record {
          reads = λ p away. keeps.reads p away;
          may = λ p v away may. subst (λ y. May (at_rest (reads area)) p y) (sym (may_settled (at_rest (reads new)) p v refl may ∙ keeps.reads p away)) (May-reads (at_rest (reads area)) p);
        }

    -- what the record's write leaves of each image's volume
    pub volume_same : (n : Name) → n ≢ Mgt → Keeps (volume_of s t (at_rest (reads area)) n) (volume_of s t (at_rest (reads new)) n)
    volume_same n other = other_keeps s t (at_rest (reads area)) (at_rest (reads new)) Mgt n h.orderly.table (extent_some s t m h.orderly) rested_same other

    pub last_steady : IsSteady s.geometry (added.extents * s.geometry.extent) (volume_of s t (at_rest (reads area)) own) added.image
        → IsSteady s.geometry (added.extents * s.geometry.extent) (volume_of s t (at_rest (reads new)) own) added.image
    last_steady steady = steady_keeps s.geometry (added.extents * s.geometry.extent) (volume_of s t (at_rest (reads area)) own) (volume_of s t (at_rest (reads new)) own) added.image (volume_same own not_mgt) steady

  pub made_orderly : IsOrderly s (after t own) (made_memory added k r m)
  made_orderly = orderly_last s t m own added k r row made_is stepped_is

  pub made_tidy : IsTidy (after t own) (made_memory added k r m)
  made_tidy = record { none_new = none_new s t m own added k r row made_is stepped_is; no_stray = no_stray_last m own added k r h.named h.uuid h.shown h.no_stray }

  module _ (area new : Held) (was : List Disk) (f : IsFilling m own was (at s t area)) (same : SameElsewhere s.geometry.extent (extents_of (rows t Mgt)) area new)
      (torn : Torn k (record_sector r) (records_held s t area) (records_held s t new)) where
    abbrev base : Held
    base = at_rest (reads area)

    middle : IsMiddle s t m base new k r
    middle = reached s t m base area new own k r row (record_sector r) h.orderly h.image h.there h.fresh f.beside (KeepsElsewhere-same same) torn (sector_fits r h.recorded).long
        (ap reading (sector-one (record_sector r) (sector_fits r h.recorded).long) ∙ reading_again r h.recorded)

    -- in front of the commit
    pub put_fine : (before : Leaving) (ds : List Disk) → MayShow s before was → IsFine (ShowsBetween s before was ds m.logs) (worked (at s t area) new)
    put_fine before ds might = safe_fine m.logs ds (middle_safe s t m base new k r before was h.orderly f.ready stray middle (volume_rested s t (reads area)) f.shown might)
        (logged_left (holds_keeps (holds_ready s t base m h.orderly f.ready) new middle.logs) h.orderly.table)

    module _ (wrote : Wrote k (record_sector r) (records_held s t area) (records_held s t new)) (steady : IsSteady s.geometry (added.extents * s.geometry.extent) (volume_of s t base own) added.image) where
      written : IsWritten s t m base new own added k r
      written = record {
        ready = f.ready;
        settled = volume_rested s t (reads area);
        middle = middle;
        agrees = agrees_put m.places r k (records_held s t area) (records_held s t new) h.recorded h.placed wrote
            (agrees_keeps (records_held s t base) (records_held s t area) m.places
            (other_keeps s t base area own Mgt h.orderly.table (extent_some s t m h.orderly) f.beside (λ e. not_mgt (sym e))) f.ready.records);
        steady = last_steady area new same steady;
      }

      ready_made : IsReady s (after t own) (at_rest (reads new)) (made_memory added k r m)
      ready_made = ready_last s t m base new own added k r row made_is stepped_is written

      module _ (made : Disk) (disk_is : disk_in (content_now s (after t own) (at_rest (reads new))) r.uuid r own ≡ made) where
        shown_made : disks (content_now s (after t own) (at_rest (reads new))) ≡ with_disk made was
        shown_made = disks_last s t m base new own added k r row made_is stepped_is written ∙ ap₂ with_disk disk_is f.shown

        -- and behind it
        pub made_fine : (before : Leaving) → IsFine (ShowsBetween s before was (with_disk made was) m.logs) (at s (after t own) (at_rest (reads new)))
        made_fine before = ready_fine s (after t own) (made_memory added k r m) (reads new) before was (with_disk made was) made_orderly ready_made shown_made

        pub made_rested : IsReadyWith (made_memory added k r m) (with_disk made was) (at s (after t own) (at_rest (reads new)))
        made_rested = record { ready = ready_made; settled = λ p. refl; shown = shown_made }
