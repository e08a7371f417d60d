-- What the checks say of a table, of the images as they are read and of the places of the records, they say of the table without logs of no use.
use Rattle.std.proofs.Common.{◌≡◌, ℕ, Bool, true, false, not, cond, List, [], ◌∷◌, length, map, filter, Option, Some, None, refl, sym, ap, ap₂, ◌∙◌, subst}
use Rattle.std.specs.Prelude.{option_map}
use Rattle.std.specs.List.{cons_option, filter_map}
use Rattle.std.proofs.lemmas.Bool.{true≢false}
use Rattle.common_laws.specs.Lists.{In}
use Rattle.common_laws.proofs.Lists.{In-map, In-map_at}
use Rattle.sm_base.specs.Kinds.{is_image, is_log}
use Rattle.sm_base.specs.declared.names.Name.{Name}
use Rattle.sm_base.specs.declared.names.Name.TheVariants.{Mgt, Vhd, Raw, Old, Cbt, Clone, Inflate, Coalesce, Relink, Leaf}
use Rattle.vg_meta.specs.Tables.{IsTable, Row, VolumeTable, rows}
use Rattle.vg_volumes.specs.Sites.{Site}
use Rattle.vg_volumes.specs.declared.stores.Store.{Ghosts}
use Rattle.sm_machine.specs.WellFormed.{is_image_name}
use Rattle.sm_record.specs.declared.records.Record.{Record}
use Rattle.sm_mgt.specs.Places.{place_count}
use Rattle.sm_standing.specs.Checks.{fault_of}
use Rattle.sm_standing.specs.Dropped.{drop_changes, dropped, is_useless, is_useless_as}
use Rattle.sm_standing.specs.Entries.{folding, head, image_with, is_leaf_renamed, making}
use Rattle.sm_standing.specs.Outlines.{Outline}
use Rattle.sm_log_rows.specs.LogRows.{AreApartFromLogs, HasNoLogLink}
use Rattle.sm_log_rows.proofs.ApartLaws.{folds, log_rows_sound, makes}
use Rattle.sm_log_rows.proofs.DroppedLaws.{IsDroppedTo, dropped_volumes, some_dropped}
use Rattle.vhd_chain.specs.declared.rows.TreeRow.{TreeRow}
use Rattle.sm_ready.proofs.EntryKinds.{image_not_making}
use Rattle.sm_checks.specs.Faults.{HasLinks, HasPlaces, HasTable, table_faults}
use Rattle.sm_checks.specs.Loaded.{AreRowsOf, HasEachRow, as_read, read_volumes, row_among, shortened, stored_with}
use Rattle.sm_checks.specs.Openable.{IsOpenable}
use Rattle.sm_checks.proofs.EntryLaws.{staged_open}
use Rattle.sm_checks.proofs.LoadedLaws.{named_data, none_among}
use Rattle.sm_checks.proofs.OpeningLaws.{TablesSay, checked_from}
use Rattle.sm_checks.proofs.TableLaws.{short_row}
use Rattle.sm_recover.specs.Backs.{CanGiveBack, base_back, entry_back, rows_back}
use Rattle.sm_recover.specs.Ending.{CanEnd, leaf_back, rows_ended}
use Rattle.sm_recover.proofs.EndedForks.{same_back}
use Rattle.sm_recover.proofs.EndedMemory as memory
use Rattle.sm_recover.proofs.EndedThen.{first_front, tables_alike}
use Rattle.sm_recover.proofs.ForkedMemory.{row_moved}
use Rattle.sm_recover.proofs.StepLaws.{part_all}
use Rattle.sm_recover.proofs.UnfoldedMemory.{filtered_map}

-- ---- behind all of them

pub dropped_all : (count : ℕ) (t : VolumeTable) → IsTable count t → IsDroppedTo count t (dropped t)
unfolding dropped
dropped_all count t table =
    let part = part_all t (drop_changes t) in
    subst (IsDroppedTo count t) (sym part.1) (some_dropped count part.0 (drop_changes t) t table refl)

-- a log is no image, and no entry
useless_log : (t : VolumeTable) (fresh : Bool) (n : Name) → is_useless_as t fresh n ≡ true → is_image_name n ≡ false
unfolding is_image_name
useless_log t fresh (Cbt u) e = refl
useless_log t fresh Mgt e = absurd (true≢false (sym e))
useless_log t fresh (Vhd u) e = absurd (true≢false (sym e))
useless_log t fresh (Raw u) e = absurd (true≢false (sym e))
useless_log t fresh (Old u) e = absurd (true≢false (sym e))
useless_log t fresh (Clone d b w) e = absurd (true≢false (sym e))
useless_log t fresh (Inflate u k) e = absurd (true≢false (sym e))
useless_log t fresh (Coalesce v p) e = absurd (true≢false (sym e))
useless_log t fresh (Relink v p) e = absurd (true≢false (sym e))
useless_log t fresh (Leaf v p) e = absurd (true≢false (sym e))

-- what gives nothing of them gives the same of the others
given_same : {B : Type 0} (t : VolumeTable) (f : Row → Option B) (rs : List Row) → ((r : Row) → is_useless t r ≡ true → f r ≡ None) → filter_map f (filter (λ r. not (is_useless t r)) rs) ≡ filter_map f rs
given_same t f [] none = refl
given_same {B} t f (r ∷ rs) none = by (is_useless t r) refl (given_same t f rs none)
  where
    by : (b : Bool) → is_useless t r ≡ b → filter_map f (filter (λ r. not (is_useless t r)) rs) ≡ filter_map f rs
        → filter_map f (cond (not b) (r ∷ filter (λ r. not (is_useless t r)) rs) (filter (λ r. not (is_useless t r)) rs)) ≡ filter_map f (r ∷ rs)
    by true is rest = rest ∙ sym (ap (λ o. cons_option o (filter_map f rs)) (none r is))
    by false is rest = ap (cons_option (f r)) rest

-- ---- memory is made of the one table as of the other

module _ (t u : VolumeTable) (k : AreApartFromLogs t u) where
  renamed_same : (l p : List ℕ) → is_leaf_renamed u l p ≡ is_leaf_renamed t l p
  renamed_same l p = simp (k.same (Vhd l) refl, k.same (Vhd p) refl, k.same (Raw l) refl, k.same (Old l) refl)

  ended_by : (o : Option Name) (xs : List TreeRow) → leaf_back u o xs ≡ leaf_back t o xs
  ended_by (Some (Leaf l p)) xs = ap (λ b. cond b (base_back (Vhd p) (Vhd l) xs) (base_back (Vhd l) (Vhd l) xs)) (renamed_same l p)
  ended_by None xs = refl
  ended_by (Some Mgt) xs = refl
  ended_by (Some (Vhd v)) xs = refl
  ended_by (Some (Raw v)) xs = refl
  ended_by (Some (Old v)) xs = refl
  ended_by (Some (Cbt v)) xs = refl
  ended_by (Some (Clone d b w)) xs = refl
  ended_by (Some (Inflate v e)) xs = refl
  ended_by (Some (Coalesce v p)) xs = refl
  ended_by (Some (Relink v p)) xs = refl

  pub ended_alike : (xs : List TreeRow) → rows_ended u xs ≡ rows_ended t xs
  unfolding rows_ended
  ended_alike xs = ended_by (head (folding u)) xs ∙ ap (λ ns. leaf_back t (head ns) xs) (folds t u k)

  base_alike : (b : List ℕ) → image_with u b ≡ image_with t b
  unfolding image_with
  base_alike b = simp (k.same (Vhd b) refl, k.same (Raw b) refl)

  pub back_alike : (xs : List TreeRow) → rows_back u xs ≡ rows_back t xs
  unfolding rows_back
  back_alike xs = same_back t u xs (head (making u)) (λ d b w is. base_alike b) ∙ ap (λ ns. entry_back t (head ns) xs) (makes t u k)

  can_end_by : (o : Option Name) (xs : List TreeRow) → CanEnd u o xs → CanEnd t o xs
  can_end_by (Some (Leaf l p)) xs can = (can.0, λ is. can.1 (renamed_same l p ∙ is))
  can_end_by None xs can = tt
  can_end_by (Some Mgt) xs can = tt
  can_end_by (Some (Vhd v)) xs can = tt
  can_end_by (Some (Raw v)) xs can = tt
  can_end_by (Some (Old v)) xs can = tt
  can_end_by (Some (Cbt v)) xs can = tt
  can_end_by (Some (Clone d b w)) xs can = tt
  can_end_by (Some (Inflate v e)) xs can = tt
  can_end_by (Some (Coalesce v p)) xs can = tt
  can_end_by (Some (Relink v p)) xs can = tt

  pub can_end_alike : (xs : List TreeRow) → CanEnd u (head (folding u)) xs → CanEnd t (head (folding t)) xs
  can_end_alike xs can = subst (λ ns. CanEnd t (head ns) xs) (folds t u k) (can_end_by (head (folding u)) xs can)

  pub can_back_alike : (xs : List TreeRow) → CanGiveBack u xs → CanGiveBack t xs
  can_back_alike xs can d b w found from there = can d b w (ap head (makes t u k) ∙ found) from (base_alike b ∙ there)

-- ---- what the checks say

module _ {S : Type 0} (g : Ghosts S) (store : S) (xs : List TreeRow) (places : List (Option Record)) {t : VolumeTable} (c : IsOpenable (g.site store) t) (are : AreRowsOf (read_volumes t) xs)
    (each : HasEachRow g.told (stored_with g store (shortened t)) (read_volumes t) xs) (long : length places ≡ place_count)
    (pass : (x : Outline) → HasTable (g.site store).geometry t x → HasLinks xs x → HasPlaces places x → fault_of x ≡ None) where
  abbrev s : Site
  s = g.site store

  abbrev u : VolumeTable
  u = dropped t

  to : IsDroppedTo s.count t u
  to = dropped_all s.count t c.table

  pub apart : AreApartFromLogs t u
  apart = let d = to.dropping in d.apart

  abbrev seen : Outline
  seen = memory.seen g store xs places c are each long pass

  unlinked : HasNoLogLink seen
  unfolding is_image_name
  unlinked v = (memory.homes g store xs places c are each long pass seen).named (Cbt v) refl

  tables : TablesSay s u None
  unfolding fault_of
  tables x is =
      tables_alike (record seen { table = u }) x is.extent is.table
      ∙ first_front (table_faults (record seen { table = u })) _ (log_rows_sound seen u apart unlinked (memory.sound g store xs places c are each long pass))

  pub open_dropped : IsOpenable s u
  open_dropped = checked_from s u to.table c.few_extents tables

  -- the rows are those of its volumes
  not_read : (r : Row) → is_useless t r ≡ true → row_among xs (as_read (making t) r) ≡ None
  not_read r useless = none_among xs (as_read (making t) r) (λ f. true≢false (sym f.image ∙ useless_log t r.fresh r.name useless))

  pub are_dropped : AreRowsOf (read_volumes u) xs
  are_dropped =
      are ∙ filtered_map (row_among xs) (as_read (making t)) t.volumes
      ∙ sym (given_same t (λ r. row_among xs (as_read (making t) r)) t.volumes not_read)
      ∙ sym (ap (λ (rs : List Row). filter_map (λ r. row_among xs (as_read (making t) r)) rs) (dropped_volumes s.count t c.table))
      ∙ sym (filtered_map (row_among xs) (as_read (making t)) u.volumes) ∙ ap (λ ns. filter_map (row_among xs) (map (as_read ns) u.volumes)) (sym (makes t u apart))

  read_in : (r : Row) → In r (read_volumes u) → In r (read_volumes t)
  read_in r i =
      let q = In-map (as_read (making u)) u.volumes r i in
      let d = to.dropping in
      subst (λ x. In x (read_volumes t)) (ap (λ ns. as_read ns q.0) (sym (makes t u apart)) ∙ sym q.2) (In-map_at (as_read (making t)) t.volumes q.0 (d.among q.0 q.1))

  short_as : (n : Name) → is_image n ≡ true → is_log n ≡ false → rows (shortened u) n ≡ rows (shortened t) n
  short_as n image other =
      short_row (staged_open open_dropped) n (image_not_making n image)
      ∙ ap₂ (λ ns o. option_map (as_read ns) o) (makes t u apart) (apart.same n other) ∙ sym (short_row (staged_open c) n (image_not_making n image))

  image_no_log : (n : Name) → is_image_name n ≡ true → is_log n ≡ false
  unfolding is_image_name
  image_no_log (Vhd v) image = refl
  image_no_log (Raw v) image = refl
  image_no_log _ image = absurd (true≢false (sym image))

  pub each_dropped : HasEachRow g.told (stored_with g store (shortened u)) (read_volumes u) xs
  each_dropped r i filled =
      let w = each r (read_in r i) filled in
      (w.0, w.1, row_moved g.told (stored_with g store t) (shortened t) (shortened u) r w.0 (short_as r.name (named_data r.name filled.image) (image_no_log r.name filled.image)) w.2)

  pub pass_dropped : (x : Outline) → HasTable s.geometry u x → HasLinks xs x → HasPlaces places x → fault_of x ≡ None
  pass_dropped x has links in_places =
      ap (λ v. fault_of (record x { table = v })) has.table
      ∙ log_rows_sound (record x { table = t }) u apart (λ v. links (Cbt v) ∙ unlinked v)
      (pass (record x { table = t }) (record { extent = has.extent; block = has.block; entries = has.entries; table = refl }) links (record { long = in_places.long; each = in_places.each }))
