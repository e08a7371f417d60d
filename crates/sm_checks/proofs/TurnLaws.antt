-- One turn of the reading of the images: the volume that it comes to, and what it finds there, by the store from before.
use Rattle.std.proofs.Common.{◌≡◌, ◌⊎◌, inl, inr, ℕ, suc, ◌+◌, ◌*◌, ◌<◌, ◌≤◌, Bool, true, false, cond, List, [], ◌∷◌, ◌++◌, length, map, take, drop, get_or, Some, None, refl, sym, ap, ap₂, ◌∙◌, subst, arith}
use Rattle.std.specs.List.{filter, find, slice_get}
use Rattle.std.specs.Option.{option_or}
use Rattle.std.specs.Prelude.{option_map}
use Rattle.std.proofs.lemmas.List.Folds.{find-append}
use Rattle.std.specs.List.Sorted.{IsStrictlySortedBy}
use Rattle.std.proofs.lemmas.List.{drop-map, length-map, map-append, take-map, take_all}
use Rattle.std.proofs.lemmas.Bool.{true≢false}
use Rattle.std.proofs.lemmas.Option.{slice_get_cases, slice_get-map}
use Rattle.sm_base.specs.Kinds.{is_image}
use Rattle.sm_machine.specs.WellFormed.{is_image_name}
use Rattle.sm_checks.proofs.LoadedLaws.{named_data}
use Rattle.sm_base.specs.Names.{IsName, name_cmp}
use Rattle.sm_base.specs.declared.faults.OpenFault.{OpenFault}
use Rattle.sm_base.specs.declared.faults.Place.TheVariants as at
use Rattle.sm_base.specs.declared.names.Name.{Name}
use Rattle.sm_base.specs.declared.names.Name.TheVariants.{Mgt, Vhd, Raw, Old, Cbt, Clone, Inflate, Coalesce, Relink, Leaf}
use Rattle.vg_meta.specs.Tables.{Row, VolumeTable, IsVolume, names_of}
use Rattle.vg_meta.specs.Roomy.{RoomyRow, RoomyTable, rows_alone, table_alone}
use Rattle.vg_volumes.specs.Sites.{Site}
use Rattle.vg_volumes.specs.Stored.{OnlyReads, Stored, held_in}
use Rattle.vg_volumes.specs.declared.stores.Store.{Ghosts}
use Rattle.common_laws.specs.Lists.{In}
use Rattle.common_laws.proofs.Lists.{In-map, find_none}
use Rattle.vhd_image.specs.Bodies.{IfVhd, StandsIn}
use Rattle.vhd_image.specs.Opened.{HasNoImage, ReadsAsImage}
use Rattle.vhd_image.specs.declared.images.Body.{Body}
use Rattle.vhd_chain.specs.declared.rows.TreeRow.{TreeRow}
use Rattle.sm_standing.specs.Checks.{images, first_name, invalid_fault, is_invalid, name_in, placed}
use Rattle.sm_standing.specs.Outlines.{Outline, link_of, outline}
use Rattle.sm_standing.specs.Entries.{making}
use Rattle.sm_ready.specs.Stores.{store_content}
use Rattle.sm_ready.proofs.AgainLaws.{stored_as}
use Rattle.sm_ready.proofs.LoadLaws.{IsItem, among, at_item}
use Rattle.sm_ready.proofs.RowLaws.{All-In}
use Rattle.sm_checks.specs.Faults.{HasTable}
use Rattle.sm_checks.specs.Loaded.{FailsAt, FailsToRead, HasEachRow, IsFilledImage, IsNoneRead, IsReadAs, IsRow, as_read, read_volumes, shortened, stored_read}
use Rattle.sm_checks.specs.Openable.{IsOpenable, IsStoppedBy}
use Rattle.sm_checks.proofs.FoundLaws.{image_short, invalid_as_read, invalid_read, invalid_short, link_read, skipped, valid_read}
use Rattle.sm_checks.proofs.EntryLaws.{staged_open}
use Rattle.sm_checks.proofs.TableLaws.{found_read, short_sized}

-- ---- the volume that a turn comes to

-- the volumes in memory, as their images are read
abbrev pub read_roomy : List Name → RoomyRow → RoomyRow
read_roomy ns h = record h { row = as_read ns h.row }

abbrev pub read_rows : RoomyTable → List RoomyRow
read_rows k = map (read_roomy (making (table_alone k))) k.rows

pub rows_read : (k : RoomyTable) → rows_alone (read_rows k) ≡ read_volumes (table_alone k)
rows_read k = by (making (table_alone k)) k.rows
  where
    by : (ns : List Name) (hs : List RoomyRow) → rows_alone (map (read_roomy ns) hs) ≡ map (as_read ns) (rows_alone hs)
    by ns [] = refl
    by ns (h ∷ hs) = ap (λ rs. as_read ns h.row ∷ rs) (by ns hs)

-- as it is read a volume is that of an image as it was, and there are as many
pub filled_read : (ns : List Name) {r : Row} → IsFilledImage r → IsFilledImage (as_read ns r)
filled_read ns f = record { image = f.image; filled = f.filled }

pub read_filled : (ns : List Name) {r : Row} → IsFilledImage (as_read ns r) → IsFilledImage r
read_filled ns f = record { image = f.image; filled = f.filled }

pub few_read : (k : RoomyTable) → length (filter (λ r. is_image r.name) (rows_alone (read_rows k))) ≡ length (images (table_alone k))
few_read k =
    ap (λ rs. length (filter (λ (r : Row). is_image r.name) rs)) (rows_read k)
    ∙ count_mapped (λ r. is_image r.name) (as_read (making (table_alone k))) (λ r. refl) (table_alone k).volumes
  where
    count_mapped : (test : Row → Bool) (f : Row → Row) → ((r : Row) → test (f r) ≡ test r) → (rs : List Row) → length (filter test (map f rs)) ≡ length (filter test rs)
    count_mapped test f same [] = refl
    count_mapped test f same (r ∷ rs) = by (test (f r)) (test r) (same r) (count_mapped test f same rs)
      where
        by : (a b : Bool) → a ≡ b → length (filter test (map f rs)) ≡ length (filter test rs) → length (cond a (f r ∷ filter test (map f rs)) (filter test (map f rs))) ≡ length (cond b (r ∷ filter test rs) (filter test rs))
        by true true is e = ap suc e
        by false false is e = e
        by true false is e = absurd (true≢false is)
        by false true is e = absurd (true≢false (sym is))

-- all of them
pub all_read : (k : RoomyTable) (n : ℕ) → length k.rows ≤ n → rows_alone (take n (read_rows k)) ≡ read_volumes (table_alone k)
all_read k n past = ap rows_alone (take_all n (read_rows k) (omega (arith, past, length-map k.rows (read_roomy (making (table_alone k)))))) ∙ rows_read k

pub record IsTurn {S : Type 0} (g : Ghosts S) (a b : S) (i : ℕ) : Type 0 where
  pub volume : RoomyRow
  pub item : IsItem (read_rows (g.table a)) i (read_roomy (making (table_alone (g.table a))) volume)
  pub here : slice_get (table_alone (g.table b)).volumes i ≡ Some volume.row

abbrev alone : RoomyRow → Row
alone h = h.row

In-front : {A : Type 0} (xs ys : List A) (x : A) → In x xs → In x (xs ++ ys)
In-front [] ys x none = absurd none
In-front (z ∷ xs) ys x (inl is) = inl is
In-front (z ∷ xs) ys x (inr i) = inr (In-front xs ys x i)

-- a place of a list is the same place of the list with each element changed
item_read : (ns : List Name) {hs : List RoomyRow} {i : ℕ} {h : RoomyRow} → IsItem hs i h → IsItem (map (read_roomy ns) hs) i (read_roomy ns h)
item_read ns {hs} {i} {h} item =
    let f = read_roomy ns in
    record {
      rising = subst (IsStrictlySortedBy name_cmp) (sym (same_names hs)) item.rising;
      split = ap (map f) item.split ∙ map-append f (take i hs) (h ∷ drop (i + 1) hs) ∙ ap₂ (λ xs ys. xs ++ f h ∷ ys) (sym (take-map f i hs)) (sym (drop-map f (i + 1) hs));
      next = take-map f (i + 1) hs ∙ ap (map f) item.next ∙ map-append f (take i hs) (h ∷ []) ∙ ap (λ xs. xs ++ f h ∷ []) (sym (take-map f i hs));
    }
  where
    same_names : (gs : List RoomyRow) → names_of (rows_alone (map (read_roomy ns) gs)) ≡ names_of (rows_alone gs)
    same_names [] = refl
    same_names (g ∷ gs) = ap (λ xs. g.row.name ∷ xs) (same_names gs)

module _ {S : Type 0} {g : Ghosts S} {a b : S} (only : OnlyReads g a b) (c : IsOpenable (g.site a) (table_alone (g.table a))) where
  abbrev t : VolumeTable
  t = table_alone (g.table a)

  pub turn : (i : ℕ) → i < length (g.table a).rows → IsTurn g a b i
  turn i within = by (slice_get_cases (g.table a).rows i).1
    where
      by : ((h : RoomyRow) × (i < length (g.table a).rows) × (slice_get (g.table a).rows i ≡ Some h) × (get_or (g.table a).rows i h ≡ h)) ⊎ ((length (g.table a).rows ≤ i) × (slice_get (g.table a).rows i ≡ None)) → IsTurn g a b i
      by (inl (h, below, there, at)) = record {
        volume = h;
        item = item_read (making t) (at_item {kept = g.table a} c.table refl refl below (sym at));
        here = ap (λ (x : VolumeTable). slice_get x.volumes i) only.stays.table ∙ slice_get-map alone (g.table a).rows i ∙ ap (option_map alone) there;
      }
      by (inr (past, none)) = absurd (omega (arith, within, past))

  -- ---- what is found by a store that was only read is found by the one from before

  abbrev before : Stored
  before = stored_read g a

  abbrev behind : Stored
  behind = stored_read g b

  same_stored : g.told → behind ≡ before
  same_stored told = ap (λ (y : Stored). record y { table = shortened y.table }) (stored_as only told)

  kept_as : (n : Name) (image : Body) (k : ℕ) → IsReadAs g.told behind.site.geometry (k * behind.site.geometry.extent) (held_in behind n) n image
      → IsReadAs g.told before.site.geometry (k * before.site.geometry.extent) (held_in before n) n image
  kept_as (Raw u) image k read = subst (λ (z : Site). IsReadAs g.told z.geometry (k * z.geometry.extent) (held_in before (Raw u)) (Raw u) image) only.stays.site read
  kept_as (Vhd u) image k read = record {
    vhd = read.vhd;
    stands = subst (λ (z : Site). StandsIn z.geometry (k * z.geometry.extent) image) only.stays.site read.stands;
    gives = λ told. subst (λ (y : Stored). IfVhd image (ReadsAsImage y.site.geometry (k * y.site.geometry.extent) (held_in y (Vhd u)))) (same_stored told) (read.gives told);
  }
  kept_as Mgt image k read = read
  kept_as (Old u) image k read = read
  kept_as (Cbt u) image k read = read
  kept_as (Clone d b w) image k read = read
  kept_as (Inflate u e) image k read = read
  kept_as (Coalesce v p) image k read = read
  kept_as (Relink v p) image k read = read
  kept_as (Leaf l p) image k read = read

  row_kept : (r : Row) (x : TreeRow) → IsRow g.told behind r x → IsRow g.told before r x
  row_kept r x row = record { named = row.named; hidden = row.hidden; extents = row.extents; image = kept_as r.name x.image (length r.extents) row.image }

  same_making : making (table_alone (g.table b)) ≡ making t
  same_making = ap making only.stays.table

  -- a row that was read
  pub row_kept_as : (r : Row) (x : TreeRow) → IsRow g.told behind (as_read (making (table_alone (g.table b))) r) x → IsRow g.told before (as_read (making t) r) x
  row_kept_as r x row = row_kept (as_read (making t) r) x (subst (λ ns. IsRow g.told behind (as_read ns r) x) same_making row)

  none_kept : (n : Name) (k : ℕ) → IsNoneRead g.told behind.site.geometry (k * behind.site.geometry.extent) (held_in behind n) n
      → IsNoneRead g.told before.site.geometry (k * before.site.geometry.extent) (held_in before n) n
  none_kept (Raw u) k none = subst (λ (z : Site). z.geometry.entries * z.geometry.block < k * z.geometry.extent) only.stays.site none
  none_kept (Vhd u) k none = λ told. subst (λ (y : Stored). HasNoImage y.site.geometry (k * y.site.geometry.extent) (held_in y (Vhd u))) (same_stored told) (none told)
  none_kept Mgt k none = none
  none_kept (Old u) k none = none
  none_kept (Cbt u) k none = none
  none_kept (Clone d b w) k none = none
  none_kept (Inflate u e) k none = none
  none_kept (Coalesce v p) k none = none
  none_kept (Relink v p) k none = none
  none_kept (Leaf l p) k none = none

  -- ---- the first image that is not valid

  abbrev seen : Outline
  seen = outline (store_content g a)

  seen_table : HasTable (g.site a).geometry t seen
  seen_table = record { extent = refl; block = refl; entries = refl; table = refl }

  abbrev u : VolumeTable
  u = shortened t

  valid_row : (r : Row) (x : TreeRow) → In r (read_volumes t) → IsFilledImage r → IsRow g.told before r x → g.told → is_invalid seen r ≡ false
  valid_row r x i f row told =
      valid_read g.told (g.site a) u (g.area a) r seen_table x.image row.image
      (ap link_of (sym (image_short (g.site a) t (g.area a) (staged_open c) r.name)) ∙ link_read g.told (g.site a) u (g.area a) r x.image (short_sized (staged_open c)) (found_read (staged_open c) r i (named_data r.name f.image)) f.filled row.image told)

  -- one whose image is there or that has none is not wrong
  right_row : (r : Row) → In r (read_volumes t) → (IsFilledImage r → (x : TreeRow) × IsRow g.told before r x) → g.told → is_invalid seen r ≡ false
  right_row r i row told = by (is_image_name r.name) r.fresh refl refl
    where
      by : (k f : Bool) → is_image_name r.name ≡ k → r.fresh ≡ f → is_invalid seen r ≡ false
      by true false image fresh = let f : IsFilledImage r = record { image = image; filled = fresh } in valid_row r (row f).0 i f (row f).1 told
      by false f image fresh = skipped seen r (λ w. true≢false (sym w.image ∙ image))
      by true true image fresh = skipped seen r (λ w. true≢false (sym fresh ∙ w.filled))

  module _ (i : ℕ) (h : RoomyRow) (item : IsItem (read_rows (g.table a)) i (read_roomy (making t) h)) where
    abbrev here : Row
    here = as_read (making t) h.row

    abbrev front : List Row
    front = rows_alone (take i (read_rows (g.table a)))

    abbrev rest : List Row
    rest = rows_alone (drop (i + 1) (read_rows (g.table a)))

    split : read_volumes t ≡ front ++ here ∷ rest
    split = sym (rows_read (g.table a)) ∙ ap rows_alone item.split ∙ map-append alone (take i (read_rows (g.table a))) (read_roomy (making t) h ∷ drop (i + 1) (read_rows (g.table a)))

    pub volume_in : In here (read_volumes t)
    volume_in = subst (In here) (sym split) (among front rest here)

    front_in : (r : Row) → In r front → In r (read_volumes t)
    front_in r there = subst (In r) (sym split) (In-front front (here ∷ rest) r there)

    pub volume_named : IsName h.row.name
    volume_named =
        let q = In-map (as_read (making t)) t.volumes here volume_in in
        subst IsName (ap (λ (x : Row). x.name) (sym q.2)) (All-In IsVolume t.volumes q.0 c.table.volumes.each q.1).name

    first_found : (test : Row → Bool) → ((r : Row) → In r front → test r ≡ false) → test here ≡ true → find test (read_volumes t) ≡ Some here
    first_found test none is =
        ap (find test) split ∙ find-append test front (here ∷ rest)
        ∙ ap₂ option_or (find_none test front none) (ap (λ w. cond w (Some here) (find test rest)) is)

    -- found among those that are read, it is found among the others
    first_read : (test : Row → Bool) (rs : List Row) → ((r : Row) → test (as_read (making t) r) ≡ test r) → name_in (find test (map (as_read (making t)) rs)) ≡ name_in (find test rs)
    first_read test [] same = refl
    first_read test (r ∷ rs) same = ap (λ w. name_in (cond w (Some (as_read (making t) r)) (find test (map (as_read (making t)) rs)))) (same r) ∙ by (test r) (first_read test rs same)
      where
        by : (w : Bool) → name_in (find test (map (as_read (making t)) rs)) ≡ name_in (find test rs)
            → name_in (cond w (Some (as_read (making t) r)) (find test (map (as_read (making t)) rs))) ≡ name_in (cond w (Some r) (find test rs))
        by true e = refl
        by false e = e

    wrong_first : (xs : List TreeRow) → HasEachRow g.told before front xs → IsFilledImage here
        → IsNoneRead g.told behind.site.geometry (length here.extents * behind.site.geometry.extent) (held_in behind here.name) here.name → g.told → invalid_fault seen ≡ Some (at.Image h.row.name)
    unfolding invalid_fault first_name
    wrong_first xs each filled none told =
        ap (placed at.Image) (sym (first_read (is_invalid seen) t.volumes (invalid_as_read (making t) seen)))
        ∙ ap (λ o. placed at.Image (name_in o)) (first_found (is_invalid seen)
        (λ r there. right_row r (front_in r there) (λ f. let w = each r there f in (w.0, w.2)) told)
        (invalid_short (g.site a) t (g.area a) (staged_open c) here
        ∙ invalid_read g.told (g.site a) u (g.area a) here (short_sized (staged_open c)) (found_read (staged_open c) here volume_in (named_data here.name filled.image)) filled.filled (none_kept here.name (length here.extents) none) told))

    pub stopped_at : {d : S} (xs : List TreeRow) (e : OpenFault) → HasEachRow g.told before front xs → FailsAt g behind (as_read (making (table_alone (g.table b))) h.row) e b d
        → IsStoppedBy g.told (invalid_fault seen) (g.faults a) (g.faults d) e
    stopped_at {d} xs e each failed = by fails.fails
      where
        fails : FailsAt g behind here e b d
        fails = subst (λ ns. FailsAt g behind (as_read ns h.row) e b d) same_making failed

        by : FailsToRead g behind here.name (length here.extents * behind.site.geometry.extent) e b d → IsStoppedBy g.told (invalid_fault seen) (g.faults a) (g.faults d) e
        by (inl is) = subst (IsStoppedBy g.told (invalid_fault seen) (g.faults a) (g.faults d)) (sym is) tt
        by (inr (inl (is, rose))) = subst (IsStoppedBy g.told (invalid_fault seen) (g.faults a) (g.faults d)) (sym is) (omega (arith, rose, only.stays.faults))
        by (inr (inr (is, none))) = subst (IsStoppedBy g.told (invalid_fault seen) (g.faults a) (g.faults d)) (sym is) (wrong_first xs each fails.volume none)
