-- What stands in a repository where logs come, are marked or go: all but the logs; and where those go that are of no use, the other logs.
use Rattle.std.proofs.Common.{◌≡◌, ℕ, ◌*◌, Bool, true, false, not, ◌&&◌, List, length, Option, Some, None, is_some, refl, sym, ap, ap₂, ◌∙◌, arith}
use Rattle.std.specs.Prelude.{nat_lt, if◌then◌else◌}
use Rattle.std.proofs.Math.Path.{fun_ext}
use Rattle.std.specs.Ordering.{is_lt}
use Rattle.std.specs.List.{filter, filter_map, find}
use Rattle.std.proofs.lemmas.Bool.{true≢false, and_from, and_parts, lt-ltb, ltb-true}
use Rattle.common_laws.specs.Lists.{numbers, ◌>>=◌}
use Rattle.common_laws.proofs.Booleans.{not_true}
use Rattle.sm_base.specs.Names.{name_cmp}
use Rattle.sm_base.specs.declared.faults.Place.{Place}
use Rattle.sm_base.specs.declared.faults.Place.TheVariants as at
use Rattle.sm_base.specs.declared.names.Name.{Name}
use Rattle.sm_base.specs.declared.names.Name.TheVariants.{Mgt, Vhd, Raw, Old, Cbt, Clone, Inflate, Coalesce, Relink, Leaf}
use Rattle.vg_meta.specs.Tables.{IsTable, Row, VolumeTable, extents_of, rows}
use Rattle.vg_meta.proofs.RowLaws.{row_of-name}
use Rattle.vg_volumes.specs.Volumes.{piece, span}
use Rattle.sm_log.specs.Logs.{Log}
use Rattle.vhd_layout.specs.Contents.{raw_content}
use Rattle.vhd_layout.specs.Readings.{image_at}
use Rattle.sm_record.specs.Records.{reading}
use Rattle.sm_record.specs.declared.records.Reading.{Reading}
use Rattle.sm_record.specs.declared.records.Reading.TheVariants.{Free}
use Rattle.sm_standing.specs.Checks.{fault_of, first_fault}
use Rattle.sm_standing.specs.Contents.{Content, is_record_of, reading_at, record_count, record_of, records, sectors_of, size_of, taken}
use Rattle.sm_standing.specs.Entries.{making}
use Rattle.sm_standing.specs.Images.{Image, image_extents, image_of, raw_image, vhd_image}
use Rattle.sm_standing.specs.Keeping.{HoldsWell, IsKept}
use Rattle.sm_standing.specs.LogChecks.{is_log_right, is_log_wrong, is_wrong_log, log_fault, log_wrong_as, logs_before, pieces_in, standing_pieces}
use Rattle.sm_standing.specs.Logs.{log_at, log_read, logs}
use Rattle.sm_standing.specs.Dropped.{is_useless, is_useless_as}
use Rattle.sm_standing.specs.Outlines.{Link, Outline, link_of, outline}
use Rattle.sm_standing.specs.Standing.{disks, standing_volume}
use Rattle.sm_standing.proofs.DisksShown.{row_of-In}
use Rattle.sm_standing.proofs.FaultLaws.{named_none}
use Rattle.sm_standing.proofs.ImageLaws.{disks_as}
use Rattle.sm_standing.proofs.LogLaws.{first_wrong, found_row, has_volume, in_list, listed, log_cmp, logs_rise}
use Rattle.sm_standing.proofs.LogPassLaws.{log_total}
use Rattle.sm_standing.proofs.Orders.{rising_ext}
use Rattle.sm_log_rows.specs.LogRows.{AreApartFromLogs, IsDropping, with_table}
use Rattle.sm_log_rows.proofs.ApartLaws.{log_rows_sound, makes, standing_alike}
use Rattle.sm_log_rows.proofs.ChangedLaws.{no_link}

module _ (c : Content) (u : VolumeTable) (k : AreApartFromLogs c.table u) where
  abbrev now : Content
  now = with_table c u

  -- ---- images, records and disks

  same_sectors : (n : Name) → rows u n ≡ rows c.table n → sectors_of now n ≡ sectors_of c n
  unfolding sectors_of
  same_sectors n same = ap (λ (o : Option Row). piece c.extent (extents_of o) c.area) same

  pub images_apart : (n : Name) → image_of now n ≡ image_of c n
  unfolding image_of vhd_image raw_image
  images_apart (Raw v) =
      ap₂ (λ (o : Option Row) (f : ℕ → List ℕ). o >>= (λ r. if r.fresh then None else Some (raw_by (span c.extent (extents_of o)) f))) (k.same (Raw v) refl) (same_sectors (Raw v) (k.same (Raw v) refl))
    where
      raw_by : ℕ → (ℕ → List ℕ) → Image
      raw_by size f = raw_content size f
  images_apart (Vhd v) =
      ap₂ (λ (es : List Name) (f : ℕ → List ℕ). rows u (Vhd v) >>= (λ r. if r.fresh then None else image_at c.block c.entries (image_extents es (Vhd v) (length r.extents) * c.extent) f)) (makes c.table u k) (same_sectors (Vhd v) (k.same (Vhd v) refl))
      ∙ ap (λ (o : Option Row). o >>= (λ r. if r.fresh then None else image_at c.block c.entries (image_extents (making c.table) (Vhd v) (length r.extents) * c.extent) (sectors_of c (Vhd v)))) (k.same (Vhd v) refl)
  images_apart Mgt = refl
  images_apart (Old v) = refl
  images_apart (Cbt v) = refl
  images_apart (Clone d b w) = refl
  images_apart (Inflate v e) = refl
  images_apart (Coalesce v p) = refl
  images_apart (Relink v p) = refl
  images_apart (Leaf l p) = refl

  readings_apart : (i : ℕ) → reading_at now i ≡ reading_at c i
  readings_apart i = ap (λ (f : ℕ → List ℕ). reading (f i)) (same_sectors Mgt (k.same Mgt refl))

  records_apart : (v : List ℕ) → record_of now v ≡ record_of c v
  unfolding records
  records_apart v = ap (λ (f : ℕ → Reading). find (is_record_of v) (filter_map (λ i. taken (f i)) (numbers 0 record_count))) (fun_ext readings_apart)

  pub disks_apart : disks now ≡ disks c
  disks_apart = disks_as c now (standing_alike c.table u k) images_apart records_apart

  -- ---- the checks

  outline_apart : outline now ≡ record (outline c) { table = u }
  outline_apart =
      let reads : (ℕ → Reading) → ℕ → Reading = λ f i. if nat_lt i record_count then f i else Free in
      ap₂ (λ (ls : Name → Option Link) (rs : ℕ → Reading). let x : Outline = record { extent = c.extent; block = c.block; entries = c.entries; table = u; links = ls; readings = rs } in x)
      (fun_ext (λ n. ap link_of (images_apart n))) (ap reads (fun_ext readings_apart))

  pub sound_apart : first_fault c ≡ None → first_fault now ≡ None
  sound_apart sound = ap fault_of outline_apart ∙ log_rows_sound (outline c) u k (no_link c) sound

  pub well_apart : HoldsWell c → HoldsWell now
  well_apart well = record {
    holding = λ v i is. well.holding v i (sym (images_apart (Vhd v)) ∙ is);
    linking = λ child parent r v p n entry is linked above.
        well.linking child parent r v p n (sym (k.same (Relink child parent) refl) ∙ entry) (sym (images_apart (Vhd child)) ∙ is) linked (sym (images_apart n) ∙ above);
  }

  pub kept_apart : IsKept c → IsKept now
  kept_apart kept =
      let well = well_apart (record { holding = kept.holding; linking = kept.linking }) in
      record { sound = sound_apart kept.sound; holding = well.holding; linking = well.linking }

-- ---- the other logs

module _ (c : Content) (u : VolumeTable) (table : IsTable c.count c.table) (less : IsTable c.count u) (d : IsDropping c.table u) where
  abbrev later : Content
  later = with_table c u

  stands_then : (v : List ℕ) → is_some (standing_volume u v) ≡ is_some (standing_volume c.table v)
  stands_then v = ap is_some (standing_alike c.table u d.apart v)

  -- a row that is there still is as it was
  back : (n : Name) (r : Row) → rows u n ≡ Some r → rows c.table n ≡ Some r
  back n r is =
      let i = row_of-In u.volumes n r is in
      ap (rows c.table) (sym (row_of-name u.volumes n r is)) ∙ found_row c.table.volumes table.volumes.rising r (d.among r i.0)

  -- a log that is of use is there still
  still : (v : List ℕ) (r : Row) → rows c.table (Cbt v) ≡ Some r → r.fresh ≡ false → is_some (standing_volume c.table v) ≡ true → rows u (Cbt v) ≡ Some r
  still v r is full stands =
      let named = row_of-name c.table.volumes (Cbt v) r is in
      let useful : is_useless c.table r ≡ false = ap₂ (λ (b : Bool) (n : Name). is_useless_as c.table b n) full named ∙ ap not stands in
      ap (rows u) (sym named) ∙ found_row u.volumes less.volumes.rising r (d.stays r (row_of-In c.table.volumes (Cbt v) r is).0 useful)

  log_same : (v : List ℕ) → rows u (Cbt v) ≡ rows c.table (Cbt v) → log_at later v ≡ log_at c v
  unfolding log_at
  log_same v same =
      ap₂ (λ (o : Option Row) (f : ℕ → List ℕ). o >>= (λ r. if r.fresh then None else log_read v (length r.extents) f)) same (same_sectors c u d.apart (Cbt v) same)

  log_still : (v : List ℕ) (l : Log) → log_at c v ≡ Some l → is_some (standing_volume c.table v) ≡ true → log_at later v ≡ Some l
  log_still v l is stands =
      let w = has_volume c v l is in
      log_same v (still v w.held w.there w.filled stands ∙ sym w.there) ∙ is

  log_back : (v : List ℕ) (l : Log) → log_at later v ≡ Some l → log_at c v ≡ Some l
  log_back v l is =
      let w = has_volume later v l is in
      sym (log_same v (w.there ∙ sym (back (Cbt v) w.held w.there))) ∙ is

  pub logs_then : logs later ≡ logs c
  logs_then = rising_ext log_cmp log_total (logs later) (logs c) (logs_rise later less) (logs_rise c table)
      (λ l i. let w = listed later l i in in_list c l.disk l (log_back l.disk l w.here) (sym (stands_then l.disk) ∙ w.stands))
      (λ l i. let w = listed c l i in in_list later l.disk l (log_still l.disk l w.here w.stands) (stands_then l.disk ∙ w.stands))

  pieces_then : (v : List ℕ) → standing_pieces later v ≡ standing_pieces c v
  unfolding standing_pieces
  pieces_then v = ap₂ (λ (o : Option Name) (f : Name → Option Image). pieces_in (o >>= f)) (standing_alike c.table u d.apart v) (fun_ext (images_apart c u d.apart))

  before_then : (v : List ℕ) → logs_before later v ≡ logs_before c v
  unfolding logs_before
  before_then v = ap (λ (ls : List Log). filter (λ l. is_lt (name_cmp (Cbt l.disk) (Cbt v))) ls) logs_then

  -- what is right by a number is right by a higher one
  right_later : (pieces size : ℕ) (earlier : List Log) (l : Log) → is_log_right pieces size earlier c.table.sequence l ≡ true → is_log_right pieces size earlier u.sequence l ≡ true
  right_later pieces size earlier l right =
      let p = and_parts _ _ right in
      let q = and_parts _ _ p.1 in
      let r = and_parts _ _ q.1 in
      let s = and_parts _ _ r.1 in
      let tag : nat_lt l.tag u.sequence ≡ true = lt-ltb l.tag u.sequence (omega (arith, ltb-true l.tag c.table.sequence r.0, d.apart.later)) in
      let since : nat_lt l.since u.sequence ≡ true = lt-ltb l.since u.sequence (omega (arith, ltb-true l.since c.table.sequence s.0, d.apart.later)) in
      and_from _ _ p.0 (and_from _ _ q.0 (and_from _ _ tag (and_from _ _ since s.1)))

  -- a log that is wrong then was wrong before
  wrong_before : (v : List ℕ) (o : Option Log) → log_at later v ≡ o → is_log_wrong (standing_pieces later v) (size_of later (Cbt v)) (logs_before later v) u.sequence o ≡ true
      → (r : Row) → rows u (Cbt v) ≡ Some r → is_log_wrong (standing_pieces c v) (size_of c (Cbt v)) (logs_before c v) c.table.sequence o ≡ true
  wrong_before v None at wrong r is = refl
  wrong_before v (Some l) at wrong r is = by (is_log_right (standing_pieces c v) (size_of c (Cbt v)) (logs_before c v) c.table.sequence l) refl
    where
      size : size_of later (Cbt v) ≡ size_of c (Cbt v)
      size = ap (λ (o : Option Row). span c.extent (extents_of o)) (is ∙ sym (back (Cbt v) r is))

      moved : is_log_right (standing_pieces later v) (size_of later (Cbt v)) (logs_before later v) u.sequence l ≡ is_log_right (standing_pieces c v) (size_of c (Cbt v)) (logs_before c v) u.sequence l
      moved = ap₂ (λ (n m : ℕ). is_log_right n m (logs_before later v) u.sequence l) (pieces_then v) size
          ∙ ap (λ (ls : List Log). is_log_right (standing_pieces c v) (size_of c (Cbt v)) ls u.sequence l) (before_then v)

      by : (b : Bool) → is_log_right (standing_pieces c v) (size_of c (Cbt v)) (logs_before c v) c.table.sequence l ≡ b → not b ≡ true
      by false not_right = refl
      by true right = absurd (true≢false (sym wrong ∙ ap not (moved ∙ right_later (standing_pieces c v) (size_of c (Cbt v)) (logs_before c v) l right)))

  pub pass_then : log_fault c ≡ None → log_fault later ≡ None
  unfolding log_fault
  pass_then fine = by (log_fault later) refl
    where
      of : (p : Place) → log_fault later ≡ Some p → ⊥
      of p e =
          let w = first_wrong later less p e in
          let v = w.0 in
          let f = w.2 in
          let there : rows u (Cbt v) ≡ Some f.held = ap (rows u) (sym f.named) ∙ found_row u.volumes less.volumes.rising f.held f.here in
          let parts = and_parts (not f.held.fresh) (log_wrong_as later f.held.name) f.wrong in
          let spoken = and_parts (is_some (standing_volume u v)) _ (ap (log_wrong_as later) (sym f.named) ∙ parts.1) in
          let before = wrong_before v (log_at later v) refl spoken.1 f.held there in
          let same : log_at later v ≡ log_at c v = log_same v (there ∙ sym (back (Cbt v) f.held there)) in
          let wrong : is_wrong_log c f.held ≡ true =
          ap₂ (λ (b : Bool) (n : Name). not b && log_wrong_as c n) (not_true f.held.fresh parts.0) f.named
          ∙ ap₂ (λ (b : Bool) (o : Option Log). b && is_log_wrong (standing_pieces c v) (size_of c (Cbt v)) (logs_before c v) c.table.sequence o) (sym (stands_then v) ∙ spoken.0) (sym same)
          ∙ before in
          true≢false (sym wrong ∙ named_none at.Log (is_wrong_log c) c.table.volumes fine f.held (d.among f.held f.here))

      by : (o : Option Place) → log_fault later ≡ o → log_fault later ≡ None
      by None e = e
      by (Some p) e = absurd (of p e)
