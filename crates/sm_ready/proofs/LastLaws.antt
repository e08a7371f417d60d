-- The last commit of a command that makes a disk: the new volume is marked as filled, and memory has a row and a record more.
use Rattle.std.proofs.Common.{◌≡◌, ◌≢◌, ◌⊎◌, inl, inr, ⊎_elim, ℕ, zero, suc, ◌*◌, ◌<◌, ◌≤◌, ◌&&◌, ◌||◌, not, Bool, true, false, cond, List, [], ◌∷◌, length, map, get_or, Option, Some, None, refl, sym, ap, ap₂, ◌∙◌, subst, arith}
use Rattle.std.proofs.Math.Path.{fun_ext}
use Rattle.std.proofs.Math.ListN.{set}
use Rattle.std.proofs.Math.Logic.{∥∥₁_elim, ∥∥₁_map}
use Rattle.std.proofs.Props.{props}
use Rattle.std.proofs.lemmas.Bool.{true≢false}
use Rattle.std.proofs.lemmas.List.{get_or-set_same, get_or-set_other, length-set}
use Rattle.std.proofs.lemmas.Option.{none-some, same_Some}
use Rattle.std.proofs.lemmas.Slice.Eq.{bytes_eq-Decides}
use Rattle.std.specs.List.{filter, list_any}
use Rattle.std.specs.Str.{bytes_eq}
use Rattle.std.specs.Ordering.{is_lt, ordering_reverse}
use Rattle.std.specs.declared.cmp.Ordering.{Ordering}
use Rattle.std.specs.declared.cmp.Ordering.TheVariants.{Less, Equal, Greater}
use Rattle.std.proofs.lemmas.Cmp.{nat_list_cmp_total}
use Rattle.sm_standing.specs.Ordered.{uuid_cmp}
use Rattle.sm_refs.specs.Attached.{count_of}
use Rattle.sm_ready.proofs.ShapeLaws.{uuid_less, standing_shown, plainly_stands, content_records}
use Rattle.sm_base.specs.Names.{name_cmp}
use Rattle.sm_base.specs.declared.names.Name.{Name}
use Rattle.sm_base.specs.declared.names.Name.TheVariants.{Mgt, Vhd, Raw, Old, Cbt, Clone, Inflate, Coalesce, Relink, Leaf}
use Rattle.sm_disk.specs.Held.{Held, Keeps, reads as held_reads}
use Rattle.sm_disk.proofs.HeldLaws.{Keeps-then}
use Rattle.vg_meta.specs.Tables.{VolumeTable, Row, IsTable, rows, extents_of, name_eq}
use Rattle.sm_base.specs.Kinds.{is_image, is_entry}
use Rattle.vg_meta.proofs.NameLaws.{name_eq-true, name_eq-false, name_eq-same, name_eq-other}
use Rattle.vg_meta.specs.Changes.{Permits, applied, tagged}
use Rattle.vg_meta.specs.declared.changes.Change.TheVariants.{Mark}
use Rattle.vg_meta.specs.declared.changes.Tag.TheVariants.{Fresh}
use Rattle.vg_meta.proofs.ByName.{changes_by_name}
use Rattle.vg_volumes.specs.Sites.{Site, volume_of}
use Rattle.vg_volumes.specs.Volumes.{volume, piece}
use Rattle.vg_volumes.proofs.VolumeLaws.{Keeps-volume}
use Rattle.sm_machine.specs.Disks.{Disk, with_disk, uuid_before}
use Rattle.common_laws.specs.Lists.{In, insert_by, numbers, ◌>>=◌}
use Rattle.sm_machine.specs.Shapes.{ImageRow, DiskRecord, is_image_of, image_uuid, with_image, refs, image_limit, chain_limit}
use Rattle.sm_machine.specs.Steps.{with_record}
use Rattle.sm_machine.specs.WellFormed.{IsWellFormed, is_image_name}
use Rattle.common_laws.proofs.Lists.{In-insert, In-map, In-map_at}
use Rattle.sm_record.specs.declared.records.Record.{Record}
use Rattle.sm_standing.specs.Contents.{Content, sectors_of, reading_at, record_count, records, record_of, is_record_of}
use Rattle.sm_standing.specs.Entries.{is_visible, of_row}
use Rattle.sm_standing.specs.Standing.{standing_volume, disk_at, disk_in, disks}
use Rattle.sm_standing.specs.Images.{Image, image_of, sectors_read, image_reads, answer_of}
use Rattle.sm_standing.specs.Readings.{OneReading}
use Rattle.sm_standing.proofs.RecordLists.{records_alike, records_one, record_of_first, first_of}
use Rattle.sm_standing.proofs.WalkLaws.{walk_same, turn-up}
use Rattle.sm_standing.proofs.DiskLists.{disks_more}
use Rattle.sm_ready.specs.Done.{at_rest, HasDoneFrom, IsCommit}
use Rattle.sm_ready.specs.Known.{Known, machine_row, machine_record, shape_in, records_in, shown_places, is_shown, row_face, tree_face}
use Rattle.vhd_chain.specs.declared.rows.TreeRow.{TreeRow}
use Rattle.vhd_chain.specs.Trees.{row_name, tree_row}
use Rattle.sm_ready.specs.Orderly.{IsOrderly, IsRoomyIn}
use Rattle.vhd_image.specs.Bodies.{StandsIn, sector_count, parent_name}
use Rattle.sm_ready.proofs.Orders.{new_unrowed, geometry_of, whole, In-tree_row}
use Rattle.sm_ready.proofs.CauseLaws.{named_as, vhd_uuid, raw_uuid}
use Rattle.sm_ready.proofs.RowLaws.{found_in, image_named, tree_found}
use Rattle.vg_meta.proofs.ChangeLaws.{IsTable-applied}
use Rattle.vg_meta.proofs.RowLaws.{names_of-with_row}
use Rattle.sm_standing.proofs.DisksShown.{row_of-In}
use Rattle.sm_standing.specs.Checks.{images as table_images}
use Rattle.sm_mgt.specs.Places.{Agrees, records_held, as_reading}
use Rattle.sm_ready.specs.Ready.{IsReady, HasNoStray}
use Rattle.vhd_volumes.specs.Steady.{IsQuiet}
use Rattle.vhd_image.specs.Steady.{IsSteady}
use Rattle.sm_ready.specs.Stores.{Leaving, MayShow, content_in, content_now}
use Rattle.sm_ready.proofs.CommitLaws.{logged_commit, volume_rested, rested, law_commit}
use Rattle.sm_standing.proofs.ImageSectors.{vhd_same, raw_same}
use Rattle.sm_ready.proofs.LogLaws.{HoldsLogs, holds_commit, holds_keeps, holds_ready}
use Rattle.sm_ready.proofs.LogRows.{name_apart}
use Rattle.sm_ready.proofs.LeftLaws.{left_in, left_now, links_left, image_quiet, place_reads, none_of_vhd, none_of_raw}
use Rattle.sm_ready.specs.Outlined.{link_in}
use Rattle.sm_standing.specs.Outlines.{Link, link_of}
use Rattle.sm_ready.proofs.MiddleLaws.{middle_in, middle_safe}
use Rattle.sm_ready.specs.Middle.{IsStray, IsMiddle}
use Rattle.sm_ready.proofs.OperationLaws.{WorksAt, below_alike, roomy_more, works_there}
use Rattle.sm_ready.proofs.RestLaws.{keeps_rest, steady_keeps, agrees_keeps}

-- ---- memory with a row more

abbrev pub with_tree : TreeRow → List TreeRow → List TreeRow
with_tree x rs = insert_by (λ a b. is_lt (name_cmp (row_name a) (row_name b))) x rs

pub images_with : (x : TreeRow) (rs : List TreeRow) → map machine_row (with_tree x rs) ≡ with_image (machine_row x) (map machine_row rs)
unfolding with_image insert_by
images_with x [] = refl
images_with x (r ∷ rs) = by (images_with x rs) (is_lt (name_cmp (row_name x) (row_name r)))
  where
    by : map machine_row (with_tree x rs) ≡ with_image (machine_row x) (map machine_row rs) → (b : Bool) → map machine_row (cond b (x ∷ r ∷ rs) (r ∷ with_tree x rs)) ≡ cond b (machine_row x ∷ machine_row r ∷ map machine_row rs) (machine_row r ∷ with_image (machine_row x) (map machine_row rs))
    by rest true = refl
    by rest false = ap (λ is. machine_row r ∷ is) rest

or_swap : (a b c : Bool) → (a || (b || c)) ≡ (b || (a || c))
or_swap true true c = refl
or_swap true false c = refl
or_swap false b c = refl

or_true : (b : Bool) → (b || true) ≡ true
or_true true = refl
or_true false = refl

name_or_not : (n x : Name) → (n ≡ x) ⊎ (n ≢ x)
name_or_not n x = by (name_eq n x) refl
  where
    by : (b : Bool) → name_eq n x ≡ b → (n ≡ x) ⊎ (n ≢ x)
    by true e = inl (name_eq-true n x e)
    by false e = inr (name_eq-false n x e)

any_insert : {A : Type 0} (test : A → Bool) (before : A → A → Bool) (x : A) (xs : List A) → list_any test (insert_by before x xs) ≡ (test x || list_any test xs)
unfolding insert_by
any_insert test before x [] = refl
any_insert test before x (y ∷ ys) = by (before x y) (any_insert test before x ys)
  where
    by : (b : Bool) → list_any test (insert_by before x ys) ≡ (test x || list_any test ys) → list_any test (cond b (x ∷ y ∷ ys) (y ∷ insert_by before x ys)) ≡ (test x || (test y || list_any test ys))
    by true rest = refl
    by false rest = ap (λ b. test y || b) rest ∙ or_swap (test y) (test x) (list_any test ys)

pub shown_with : (x : TreeRow) (rs : List TreeRow) (u : List ℕ) → is_shown (with_tree x rs) u ≡ (is_image_of u (machine_row x) || is_shown rs u)
shown_with x rs u = any_insert (λ r. is_image_of u (machine_row r)) (λ a b. is_lt (name_cmp (row_name a) (row_name b))) x rs

-- ---- the records with one more

abbrev record_before : DiskRecord → DiskRecord → Bool
record_before a b = uuid_before a.uuid b.uuid

-- what the order of UUIDs is
pub record IsStrict : Type 0 where
  trans : (u v w : List ℕ) → uuid_before u v ≡ true → uuid_before v w ≡ true → uuid_before u w ≡ true
  total : (u v : List ℕ) → u ≢ v → uuid_before u v ≡ false → uuid_before v u ≡ true
  asym : (u v : List ℕ) → uuid_before u v ≡ true → uuid_before v u ≡ false

less_of : (o : Ordering) → is_lt o ≡ true → o ≡ Less
less_of Less e = refl
less_of Equal e = absurd (true≢false (sym e))
less_of Greater e = absurd (true≢false (sym e))

pub strict : IsStrict
strict = record {
  trans = λ u v w a b. ap is_lt (nat_list_cmp_total.trans u v w (less_of (uuid_cmp u v) a) (less_of (uuid_cmp v w) b));
  total = λ u v other e. ap is_lt (uuid_less v u (λ s. other (sym s)) e);
  asym = λ u v e. ap is_lt (nat_list_cmp_total.antisymm v u ∙ ap ordering_reverse (less_of (uuid_cmp u v) e));
}

-- two records of distinct UUIDs may come in either order
swap_less : IsStrict → (a b : DiskRecord) (xs : List DiskRecord) → uuid_before a.uuid b.uuid ≡ true
    → insert_by record_before a (insert_by record_before b xs) ≡ insert_by record_before b (insert_by record_before a xs)
unfolding insert_by
swap_less q a b [] less = ap (λ c. cond c (a ∷ b ∷ []) (b ∷ a ∷ [])) less ∙ sym (ap (λ c. cond c (b ∷ a ∷ []) (a ∷ b ∷ [])) (q.asym a.uuid b.uuid less))
swap_less q a b (y ∷ ys) less = by (uuid_before a.uuid y.uuid) (uuid_before b.uuid y.uuid) refl refl (swap_less q a b ys less)
  where
    ib : List DiskRecord → List DiskRecord
    ib zs = insert_by record_before b zs

    by : (p r : Bool) → uuid_before a.uuid y.uuid ≡ p → uuid_before b.uuid y.uuid ≡ r → insert_by record_before a (insert_by record_before b ys) ≡ insert_by record_before b (insert_by record_before a ys)
        → insert_by record_before a (cond r (b ∷ y ∷ ys) (y ∷ insert_by record_before b ys)) ≡ insert_by record_before b (cond p (a ∷ y ∷ ys) (y ∷ insert_by record_before a ys))
    by true true ey fy rest =
        ap (λ c. cond c (a ∷ b ∷ y ∷ ys) (b ∷ insert_by record_before a (y ∷ ys))) less
        ∙ sym (ap (λ c. cond c (b ∷ a ∷ y ∷ ys) (a ∷ insert_by record_before b (y ∷ ys))) (q.asym a.uuid b.uuid less)
        ∙ ap (λ c. a ∷ cond c (b ∷ y ∷ ys) (y ∷ insert_by record_before b ys)) fy)
    by true false ey fy rest =
        ap (λ c. cond c (a ∷ y ∷ insert_by record_before b ys) (y ∷ insert_by record_before a (insert_by record_before b ys))) ey
        ∙ sym (ap (λ c. cond c (b ∷ a ∷ y ∷ ys) (a ∷ insert_by record_before b (y ∷ ys))) (q.asym a.uuid b.uuid less)
        ∙ ap (λ c. a ∷ cond c (b ∷ y ∷ ys) (y ∷ insert_by record_before b ys)) fy)
    by false true ey fy rest = absurd (true≢false (sym (q.trans a.uuid b.uuid y.uuid less fy) ∙ ey))
    by false false ey fy rest =
        ap (λ c. cond c (a ∷ y ∷ insert_by record_before b ys) (y ∷ insert_by record_before a (insert_by record_before b ys))) ey
        ∙ ap (λ zs. y ∷ zs) rest
        ∙ sym (ap (λ c. cond c (b ∷ y ∷ insert_by record_before a ys) (y ∷ insert_by record_before b (insert_by record_before a ys))) fy)

swap : IsStrict → (a b : DiskRecord) (xs : List DiskRecord) → a.uuid ≢ b.uuid → with_record a (with_record b xs) ≡ with_record b (with_record a xs)
unfolding with_record
swap q a b xs other = by (uuid_before a.uuid b.uuid) refl
  where
    by : (c : Bool) → uuid_before a.uuid b.uuid ≡ c → insert_by record_before a (insert_by record_before b xs) ≡ insert_by record_before b (insert_by record_before a xs)
    by true e = swap_less q a b xs e
    by false e = sym (swap_less q b a xs (q.total a.uuid b.uuid other e))

-- a free place that gets a record of a UUID that is shown now, while each other place is shown as before
pub records_more : IsStrict → (rs qs : List TreeRow) (places : List (Option Record)) (k : ℕ) (r : Record) → k < length places → get_or places k None ≡ None
    → ((x : Record) → In (Some x) places → (is_shown qs x.uuid ≡ is_shown rs x.uuid) × (x.uuid ≢ r.uuid)) → is_shown qs r.uuid ≡ true
    → records_in (shown_places qs (set places k (Some r))) ≡ with_record (machine_record r) (records_in (shown_places rs places))
unfolding records_in
records_more q rs qs [] k r below free each now = absurd (omega (arith, below))
records_more q rs qs (Some x ∷ places) zero r below free each now = absurd (none-some x (sym free))
records_more q rs qs (None ∷ places) zero r below free each now =
    ap (λ b. records_in (cond b (Some r ∷ shown_places qs places) (shown_places qs places))) now
    ∙ ap (λ ps. with_record (machine_record r) (records_in ps)) (same_places places (λ x i. (each x (inr i)).0))
  where
    same_places : (ps : List (Option Record)) → ((x : Record) → In (Some x) ps → is_shown qs x.uuid ≡ is_shown rs x.uuid) → shown_places qs ps ≡ shown_places rs ps
    same_places [] e = refl
    same_places (None ∷ ps) e = same_places ps (λ x i. e x (inr i))
    same_places (Some x ∷ ps) e = ap₂ (λ (b : Bool) (zs : List (Option Record)). cond b (Some x ∷ zs) zs) (e x (inl refl)) (same_places ps (λ y i. e y (inr i)))
records_more q rs qs (None ∷ places) (suc k) r below free each now = records_more q rs qs places k r (omega (arith, below)) free (λ x i. each x (inr i)) now
records_more q rs qs (Some x ∷ places) (suc k) r below free each now =
    ap (λ b. records_in (cond b (Some x ∷ shown_places qs (set places k (Some r))) (shown_places qs (set places k (Some r))))) (each x (inl refl)).0
    ∙ by (is_shown rs x.uuid) (records_more q rs qs places k r (omega (arith, below)) free (λ y i. each y (inr i)) now)
  where
    by : (b : Bool) → records_in (shown_places qs (set places k (Some r))) ≡ with_record (machine_record r) (records_in (shown_places rs places))
        → records_in (cond b (Some x ∷ shown_places qs (set places k (Some r))) (shown_places qs (set places k (Some r)))) ≡ with_record (machine_record r) (records_in (cond b (Some x ∷ shown_places rs places) (shown_places rs places)))
    by true rest = ap (with_record (machine_record x)) rest ∙ swap q (machine_record x) (machine_record r) (records_in (shown_places rs places)) (each x (inl refl)).1
    by false rest = rest

-- ---- ready

-- what stands in table and memory before the last commit: a new volume of this name, and the image that it is to be
pub record IsMade (s : Site) (t : VolumeTable) (m : Known) (own : Name) (added : TreeRow) (k : ℕ) (r : Record) (row : Row) : Type 0 where
  pub orderly : IsOrderly s t m
  pub no_stray : HasNoStray m
  pub stray : IsStray m k r
  pub there : rows t own ≡ Some row
  pub fresh : row.fresh ≡ true
  pub visible : row.hidden ≡ false
  pub allows : Permits s.count t (Mark own Fresh false)
  pub image : is_image_name own ≡ true
  pub uuid : image_uuid own ≡ r.uuid
  pub named : row_name added ≡ own
  pub shown : added.hidden ≡ false
  pub long : added.extents ≡ length row.extents
  pub stands : StandsIn s.geometry (added.extents * s.geometry.extent) added.image

-- and in the sectors: those of the image and the record are written
pub record IsWritten (s : Site) (t : VolumeTable) (m : Known) (old new : Held) (own : Name) (added : TreeRow) (k : ℕ) (r : Record) : Type 0 where
  pub ready : IsReady s t old m
  pub settled : (n : Name) → IsQuiet (volume_of s t old n)
  pub middle : IsMiddle s t m old new k r
  pub agrees : Agrees (records_held s t new) (set m.places k (Some r))
  pub steady : IsSteady s.geometry (added.extents * s.geometry.extent) (volume_of s t (at_rest (held_reads new)) own) added.image

-- memory after it
abbrev pub made_memory : TreeRow → ℕ → Record → Known → Known
made_memory added k r m = record m { rows = with_tree added m.rows; places = set m.places k (Some r) }

abbrev pub after : VolumeTable → Name → VolumeTable
after t own = applied t (Mark own Fresh false)

module _ (s : Site) (t : VolumeTable) (m : Known) (own : Name) (added : TreeRow) (k : ℕ) (r : Record) (row : Row) (h : IsMade s t m own added k r row) where
  name_case : (n : Name) → (n ≡ own) ⊎ (n ≢ own)
  name_case n = name_or_not n own

  -- each volume has the extents that it had
  pub same_extents : (n : Name) → extents_of (rows (after t own) n) ≡ extents_of (rows t n)
  same_extents n =
      let by_name = changes_by_name s.count t (Mark own Fresh false) h.orderly.table h.allows in
      ⊎_elim (λ e. ap (λ x. extents_of (rows (after t own) x)) e ∙ ap extents_of by_name.does.2 ∙ sym (ap (λ x. extents_of (rows t x)) e ∙ ap extents_of by_name.does.1))
      (λ other. ap extents_of (by_name.others n other)) (name_case n)

  -- ---- the shape: one image and one record more

  pub shape_last : shape_in s (after t own) (made_memory added k r m)
      ≡ record (shape_in s t m) { sequence = (after t own).sequence; records = with_record (machine_record r) (shape_in s t m).records; images = with_image (machine_row added) (shape_in s t m).images }
  unfolding shape_in
  shape_last = ap₂ (λ (rs : List DiskRecord) (is : List ImageRow). record (shape_in s t m) { sequence = (after t own).sequence; records = rs; images = is })
      (records_more strict m.rows (with_tree added m.rows) m.places k r (omega (arith, h.stray.within, h.orderly.places)) h.stray.free each now)
      (images_with added m.rows)
    where
      mine : (u : List ℕ) → is_shown (with_tree added m.rows) u ≡ (bytes_eq r.uuid u || is_shown m.rows u)
      mine u = shown_with added m.rows u
          ∙ ap₂ (λ (hidden : Bool) (v : List ℕ). (not hidden && bytes_eq v u) || is_shown m.rows u) h.shown (ap image_uuid h.named ∙ h.uuid)

      now : is_shown (with_tree added m.rows) r.uuid ≡ true
      now = mine r.uuid ∙ ap (λ b. b || is_shown m.rows r.uuid) ((bytes_eq-Decides r.uuid r.uuid).1 refl)

      apart : (x : Record) → In (Some x) m.places → x.uuid ≢ r.uuid
      apart x i same = true≢false (sym (h.no_stray x i) ∙ ap (is_shown m.rows) same ∙ h.stray.unseen)

      each : (x : Record) → In (Some x) m.places → (is_shown (with_tree added m.rows) x.uuid ≡ is_shown m.rows x.uuid) × (x.uuid ≢ r.uuid)
      each x i = (mine x.uuid ∙ ap (λ b. bytes_eq r.uuid x.uuid || b) (h.no_stray x i) ∙ or_true (bytes_eq r.uuid x.uuid) ∙ sym (h.no_stray x i), apart x i)

-- ---- memory is orderly after it

tree_with_same : (x : TreeRow) (rs : List TreeRow) (n : Name) → row_name x ≡ n → tree_row rs n ≡ None → tree_row (with_tree x rs) n ≡ Some x
unfolding tree_row insert_by
tree_with_same x [] n named none = ap (λ b. cond b (Some x) None) (name_eq-same (row_name x) n named)
tree_with_same x (r ∷ rs) n named none = by (is_lt (name_cmp (row_name x) (row_name r))) (name_eq (row_name r) n) refl none (λ e. tree_with_same x rs n named e)
  where
    by : (b c : Bool) → name_eq (row_name r) n ≡ c → cond c (Some r) (tree_row rs n) ≡ None → (tree_row rs n ≡ None → tree_row (with_tree x rs) n ≡ Some x)
        → tree_row (cond b (x ∷ r ∷ rs) (r ∷ with_tree x rs)) n ≡ Some x
    by b true e gone rest = absurd (none-some r (sym gone))
    by true false e gone rest = ap (λ b. cond b (Some x) (tree_row (r ∷ rs) n)) (name_eq-same (row_name x) n named)
    by false false e gone rest = ap (λ b. cond b (Some r) (tree_row (with_tree x rs) n)) e ∙ rest gone

tree_with_other : (x : TreeRow) (rs : List TreeRow) (n : Name) → row_name x ≢ n → tree_row (with_tree x rs) n ≡ tree_row rs n
unfolding tree_row insert_by
tree_with_other x [] n other = ap (λ b. cond b (Some x) None) (name_eq-other (row_name x) n other)
tree_with_other x (r ∷ rs) n other = by (is_lt (name_cmp (row_name x) (row_name r))) (tree_with_other x rs n other)
  where
    by : (b : Bool) → tree_row (with_tree x rs) n ≡ tree_row rs n → tree_row (cond b (x ∷ r ∷ rs) (r ∷ with_tree x rs)) n ≡ tree_row (r ∷ rs) n
    by true rest = ap (λ b. cond b (Some x) (tree_row (r ∷ rs) n)) (name_eq-other (row_name x) n other)
    by false rest = ap (λ o. cond (name_eq (row_name r) n) (Some r) o) rest

filter_away : {A : Type 0} (test : A → Bool) (xs : List A) → ((x : A) → In x xs → test x ≡ false) → filter test xs ≡ []
filter_away test [] none = refl
filter_away test (x ∷ xs) none = ap (λ b. cond b (x ∷ filter test xs) (filter test xs)) (none x (inl refl)) ∙ filter_away test xs (λ y i. none y (inr i))

-- what is left to the machine's law of a step, and to the counts
pub record IsStepped (s : Site) (t : VolumeTable) (m : Known) (own : Name) (added : TreeRow) (k : ℕ) (r : Record) (row : Row) : Type 0 where
  pub few : length (table_images (after t own)) ≤ image_limit
  pub only_new : (q : Row) → In q t.volumes → q.fresh ≡ true → q.name ≡ own
  pub well_formed : ∥ IsWellFormed (record (shape_in s t m) { sequence = (after t own).sequence; records = with_record (machine_record r) (shape_in s t m).records; images = with_image (machine_row added) (shape_in s t m).images }) ∥₁
  pub counts : (n : Name) → count_of m.attached n ≡ refs n (shape_in s (after t own) (made_memory added k r m))

module _ (s : Site) (t : VolumeTable) (m : Known) (own : Name) (added : TreeRow) (k : ℕ) (r : Record) (row : Row) (h : IsMade s t m own added k r row) (g : IsStepped s t m own added k r row) where
  pub now_there : rows (after t own) own ≡ Some (tagged Fresh false row)
  now_there =
      let by_name = changes_by_name s.count t (Mark own Fresh false) h.orderly.table h.allows in
      by_name.does.2 ∙ ap (λ (x : Row). Some (tagged Fresh false x)) (same_Some by_name.does.0 row (sym by_name.does.1 ∙ h.there))

  row_other : (n : Name) → n ≢ own → rows (after t own) n ≡ rows t n
  row_other n other = (changes_by_name s.count t (Mark own Fresh false) h.orderly.table h.allows).others n other

  table_after : IsTable s.count (after t own)
  table_after = IsTable-applied s.count t (Mark own Fresh false) h.orderly.table h.allows

  -- no volume is new after it
  pub none_new : (q : Row) → In q (after t own).volumes → q.fresh ≡ false
  none_new q i = by (name_or_not q.name own) q.fresh refl
    where
      there : rows (after t own) q.name ≡ Some q
      there = found_in (after t own).volumes table_after.volumes.rising q i

      by : (q.name ≡ own) ⊎ (q.name ≢ own) → (b : Bool) → q.fresh ≡ b → q.fresh ≡ false
      by x false e = e
      by (inl same) true e = sym (ap (λ (z : Row). z.fresh) (same_Some (tagged Fresh false row) q (sym now_there ∙ sym (ap (rows (after t own)) same) ∙ there)))
      by (inr other) true e = absurd (other (g.only_new q (row_of-In t.volumes q.name q (sym (row_other q.name other) ∙ there)).0 e))

  unrowed_before : tree_row m.rows own ≡ None
  unrowed_before = new_unrowed s t m own row h.orderly (image_named own h.image) h.there h.fresh

  -- an operation works at no new image
  pub works_away : (n : Name) → WorksAt m.op n → n ≢ own
  unfolding shape_in
  works_away n works same = ∥∥₁_elim h.orderly.well_formed (hlevel props) (λ w.
      let at = works_there (shape_in s t m) w n works in
      let y = In-map machine_row m.rows at.0 at.1 in
      none-some y.0 (sym (ap (tree_row m.rows) (sym (ap (λ (x : ImageRow). x.name) y.2) ∙ at.2 ∙ same) ∙ unrowed_before) ∙ tree_found m.rows y.0 w.one_image y.1))

  pub orderly_last : IsOrderly s (after t own) (made_memory added k r m)
  unfolding shape_in
  orderly_last = record {
    table = table_after;
    few_extents = h.orderly.few_extents;
    record_volume = ap length (same_extents s t m own added k r row h Mgt) ∙ h.orderly.record_volume;
    few = g.few;
    new_named = λ q i new. absurd (true≢false (sym new ∙ none_new q i));
    images = λ n e. image n e (name_or_not n own);
    logs = λ u. ap row_face (row_other (Cbt u) (name_apart own h.image u)) ∙ h.orderly.logs u;
    few_logs = h.orderly.few_logs;
    logs_in_order = h.orderly.logs_in_order;
    log_room = h.orderly.log_room;
    entries = ap (filter is_entry) (names_of-with_row t.volumes own (tagged Fresh false) (λ q. refl)) ∙ h.orderly.entries;
    places = length-set m.places k (Some r) ∙ h.orderly.places;
    stands = λ q i. ⊎_elim (λ is. subst (λ z. StandsIn s.geometry (z.extents * s.geometry.extent) z.image) (sym is) h.stands) (λ j. h.orderly.stands q j)
        (In-insert (λ a b. is_lt (name_cmp (row_name a) (row_name b))) added m.rows q i);
    well_formed = ∥∥₁_map g.well_formed (λ w. subst IsWellFormed (sym (shape_last s t m own added k r row h)) w);
    roomy = subst (λ x. IsRoomyIn x m.op) (sym (shape_last s t m own added k r row h))
        (roomy_more (shape_in s t m) (after t own).sequence (with_record (machine_record r) (shape_in s t m).records) (machine_row added) m.op (λ n works same. works_away n works (same ∙ h.named)) h.orderly.roomy);
    counts = g.counts;
  }
    where
      image : (n : Name) → is_image n ≡ true → (n ≡ own) ⊎ (n ≢ own) → row_face (rows (after t own) n) ≡ tree_face (tree_row (with_tree added m.rows) n)
      image n e (inl same) =
          ap row_face (ap (rows (after t own)) same ∙ now_there)
          ∙ ap₂ (λ b l. Some (record { hidden = b; extents = l })) (h.visible ∙ sym h.shown) (sym h.long)
          ∙ sym (ap tree_face (ap (tree_row (with_tree added m.rows)) same ∙ tree_with_same added m.rows own h.named unrowed_before))
      image n e (inr other) = ap row_face (row_other n other) ∙ h.orderly.images n e ∙ sym (ap tree_face (tree_with_other added m.rows n (λ q. other (sym q ∙ h.named))))

module _ (s : Site) (t : VolumeTable) (m : Known) (old new : Held) (own : Name) (added : TreeRow) (k : ℕ) (r : Record) (row : Row) (h : IsMade s t m own added k r row) (g : IsStepped s t m own added k r row) (f : IsWritten s t m old new own added k r) where
  -- ---- one disk more

  abbrev pub was_content : Content
  was_content = content_now s t old

  abbrev pub now_content : Content
  now_content = content_now s (after t own) (at_rest (held_reads new))

  abbrev pub made_disk : Disk
  made_disk = disk_in now_content r.uuid r own

  sector : (p : ℕ) (n : Name) → n ≢ own → sectors_of now_content n p ≡ sectors_of (content_in s t (held_reads new)) n p
  unfolding sectors_of
  sector p n other = ap (λ o. piece s.geometry.extent (extents_of o) (held_reads new) p) ((row_other s t m own added k r row h g) n other)

  -- the same image under either table
  retabled : (n : Name) (x : Option Row) → n ≢ own → rows t n ≡ x → image_of now_content n ≡ image_of (content_in s t (held_reads new)) n
  unfolding image_of
  retabled (Vhd u) None other is = none_of_vhd now_content u ((row_other s t m own added k r row h g) (Vhd u) other ∙ is) ∙ sym (none_of_vhd (content_in s t (held_reads new)) u is)
  retabled (Vhd u) (Some v) other is =
      vhd_same (content_in s t (held_reads new)) now_content u u v v (geometry_of s t m h.orderly) (record {
        extent = refl;
        block = refl;
        entries = refl;
        before = is;
        after = (row_other s t m own added k r row h g) (Vhd u) other ∙ is;
        extents = refl;
        fresh = refl;
        sectors = λ p _. sector p (Vhd u) other;
      })
      (whole s t m (Vhd u) h.orderly) (whole s (after t own) (made_memory added k r m) (Vhd u) (orderly_last s t m own added k r row h g))
  retabled (Raw u) None other is = none_of_raw now_content u ((row_other s t m own added k r row h g) (Raw u) other ∙ is) ∙ sym (none_of_raw (content_in s t (held_reads new)) u is)
  retabled (Raw u) (Some v) other is =
      raw_same (content_in s t (held_reads new)) now_content u u v v (record {
        extent = refl;
        block = refl;
        entries = refl;
        before = is;
        after = (row_other s t m own added k r row h g) (Raw u) other ∙ is;
        extents = refl;
        fresh = refl;
        sectors = λ p _. sector p (Raw u) other;
      })
  retabled Mgt x other is = refl
  retabled (Old u) x other is = refl
  retabled (Cbt u) x other is = refl
  retabled (Clone d b w) x other is = refl
  retabled (Inflate u j) x other is = refl
  retabled (Coalesce c p) x other is = refl
  retabled (Relink c p) x other is = refl
  retabled (Leaf l p) x other is = refl

  images_same : (n : Name) → n ≢ own → image_of now_content n ≡ image_of was_content n
  images_same n other = retabled n (rows t n) other refl
      ∙ image_quiet s t old m (held_reads new) n h.orderly f.ready.firm (middle_in s t m old new k r h.orderly f.ready h.stray.within f.middle (held_reads new) (left_now s new)) (f.settled n)

  -- ---- ready

  kept_volume : (n : Name) → Keeps (volume_of s t new n) (volume_of s (after t own) (at_rest (held_reads new)) n)
  kept_volume n = subst (λ es. Keeps (volume_of s t new n) (volume s.geometry.extent es (at_rest (held_reads new)))) (sym (same_extents s t m own added k r row h n)) (Keeps-volume s.geometry.extent (extents_of (rows t n)) (keeps_rest new))

  -- the logs are as they were
  held_logs : HoldsLogs s t new m.logs
  held_logs = holds_keeps (holds_ready s t old m h.orderly f.ready) new f.middle.logs

  pub ready_last : IsReady s (after t own) (at_rest (held_reads new)) (made_memory added k r m)
  ready_last = record {
    firm = record {
      images = λ q i. image q (In-insert (λ a b. is_lt (name_cmp (row_name a) (row_name b))) added m.rows q i);
      quiet = λ q i _. volume_rested s (after t own) (held_reads new) (row_name q);
      below = below_alike was_content now_content m.op refl refl (λ n works. images_same n (works_away s t m own added k r row h g n works)) f.ready.firm.below;
    };
    records = agrees_keeps (records_held s t new) (records_held s (after t own) (at_rest (held_reads new))) (set m.places k (Some r)) (kept_volume Mgt) f.agrees;
    recorded = volume_rested s (after t own) (held_reads new) Mgt;
    logs = (holds_commit held_logs (after t own) (table_after s t m own added k r row h g) (λ u. row_other s t m own added k r row h g (Cbt u) (name_apart own h.image u)) (λ u. volume_rested s (after t own) (held_reads new) (Cbt u))).logs;
    logged = λ u. volume_rested s (after t own) (held_reads new) (Cbt u);
  }
    where
      image : (q : TreeRow) → (q ≡ added) ⊎ In q m.rows → IsSteady s.geometry (q.extents * s.geometry.extent) (volume_of s (after t own) (at_rest (held_reads new)) (row_name q)) q.image
      image q (inl is) = subst (λ z. IsSteady s.geometry (z.extents * s.geometry.extent) (volume_of s (after t own) (at_rest (held_reads new)) (row_name z)) z.image) (sym is)
          (subst (λ n. IsSteady s.geometry (added.extents * s.geometry.extent) (volume_of s (after t own) (at_rest (held_reads new)) n) added.image) (sym h.named)
          (subst (λ es. IsSteady s.geometry (added.extents * s.geometry.extent) (volume s.geometry.extent es (at_rest (held_reads new))) added.image) (sym (same_extents s t m own added k r row h own)) f.steady))
      image q (inr i) = steady_keeps s.geometry (q.extents * s.geometry.extent) (volume_of s t old (row_name q)) (volume_of s (after t own) (at_rest (held_reads new)) (row_name q)) q.image
          (Keeps-then (f.middle.images q i) (kept_volume (row_name q))) (f.ready.firm.images q i)

  -- ---- the disks

  -- nothing image_reads through the new image
  no_parent : (n : Name) (i : Image) → image_of was_content n ≡ Some i → i.parent ≢ Some own
  unfolding shape_in
  no_parent n i is up = ∥∥₁_elim h.orderly.well_formed (hlevel props) (λ w. by w (tree_row m.rows n) refl)
    where
      by : IsWellFormed (shape_in s t m) → (x : Option TreeRow) → tree_row m.rows n ≡ x → ⊥
      by w None e = none-some _ (sym (ap link_in e) ∙ sym (links_left s t old m (held_reads old) n h.orderly f.ready.firm (left_in s t m old (held_reads old) h.orderly (left_now s old))) ∙ ap link_of is)
      by w (Some q) e =
          let l : record { size = i.size; parent = i.parent } ≡ record { size = sector_count q.image; parent = parent_name q.image } =
          same_Some _ _ (sym (ap link_of is) ∙ links_left s t old m (held_reads old) n h.orderly f.ready.firm (left_in s t m old (held_reads old) h.orderly (left_now s old)) ∙ ap link_in e) in
          let p = w.parents (machine_row q) own (In-map_at machine_row m.rows q (In-tree_row m.rows n q e).0) (sym (ap (λ (z : Link). z.parent) l) ∙ up) in
          let y = In-map machine_row m.rows p.parent p.there in
          none-some y.0 (sym (unrowed_before s t m own added k r row h g) ∙ ap (tree_row m.rows) (sym (sym (ap (λ (z : ImageRow). z.name) y.2) ∙ p.is_named)) ∙ tree_found m.rows y.0 w.one_image y.1)

  sectors_alike : (n : Name) → n ≢ own → sectors_read now_content n ≡ sectors_read was_content n
  unfolding sectors_read image_reads
  sectors_alike n other =
      ap₂ (λ (o : Option Image) (f : ℕ → List ℕ). elim o as (λ o. List (List ℕ)) [ None ↦ [] | Some i ↦ map f (numbers 0 i.size) ]) (images_same n other)
      (fun_ext (λ j. walk_same (λ x. x ≢ own) (λ x. answer_of j (image_of was_content x)) (λ x. answer_of j (image_of now_content x))
      (record { closed = λ x p away sent at. let w = turn-up j (image_of was_content x) p sent in no_parent x w.image w.there (w.parent ∙ ap Some at) })
      (λ x away. ap (answer_of j) (images_same x away)) chain_limit n other))

  -- what stands
  none_stands : standing_volume t r.uuid ≡ None
  none_stands = by (standing_volume t r.uuid) refl
    where
      by : (x : Option Name) → standing_volume t r.uuid ≡ x → x ≡ None
      by None e = refl
      by (Some n) e = absurd (true≢false (sym (standing_shown s t m r.uuid n h.orderly e) ∙ h.stray.unseen))

  visible_other : (n : Name) → n ≢ own → is_visible (after t own) n ≡ is_visible t n
  visible_other n other = ap (of_row (λ q. not q.hidden && not q.fresh)) ((row_other s t m own added k r row h g) n other)

  abbrev plainly : Bool → Bool → List ℕ → Option Name
  plainly a b u = cond a (Some (Vhd u)) (cond b (Some (Raw u)) None)

  visible_own : is_visible (after t own) own ≡ true
  visible_own = ap (of_row (λ q. not q.hidden && not q.fresh)) (now_there s t m own added k r row h g) ∙ ap (λ b. not b && not false) h.visible

  stands_made : standing_volume (after t own) r.uuid ≡ Some own
  stands_made = plainly_stands s (after t own) (made_memory added k r m) r.uuid (orderly_last s t m own added k r row h g) ∙ by (named_as own r.uuid h.image h.uuid)
    where
      vhd : (b : Bool) → is_visible t (Vhd r.uuid) ≡ b → b ≡ false
      vhd false e = refl
      vhd true e = absurd (none-some (Vhd r.uuid) (sym none_stands ∙ plainly_stands s t m r.uuid h.orderly ∙ ap (λ b. plainly b (is_visible t (Raw r.uuid)) r.uuid) e))

      by : (own ≡ Vhd r.uuid) ⊎ (own ≡ Raw r.uuid) → plainly (is_visible (after t own) (Vhd r.uuid)) (is_visible (after t own) (Raw r.uuid)) r.uuid ≡ Some own
      by (inl is) = ap (λ a. plainly a (is_visible (after t own) (Raw r.uuid)) r.uuid) (ap (is_visible (after t own)) (sym is) ∙ visible_own) ∙ ap Some (sym is)
      by (inr is) =
          ap₂ (λ (a b : Bool). plainly a b r.uuid) (visible_other (Vhd r.uuid) (λ e. let x = e ∙ is in cc) ∙ vhd (is_visible t (Vhd r.uuid)) refl)
          (ap (is_visible (after t own)) (sym is) ∙ visible_own) ∙ ap Some (sym is)

  stands_other : (u : List ℕ) → u ≢ r.uuid → standing_volume (after t own) u ≡ standing_volume t u
  stands_other u other =
      plainly_stands s (after t own) (made_memory added k r m) u (orderly_last s t m own added k r row h g)
      ∙ ap₂ (λ (a b : Bool). plainly a b u) (visible_other (Vhd u) (λ e. other (sym (vhd_uuid u) ∙ ap image_uuid e ∙ h.uuid))) (visible_other (Raw u) (λ e. other (sym (raw_uuid u) ∙ ap image_uuid e ∙ h.uuid)))
      ∙ sym (plainly_stands s t m u h.orderly)

  stands_away : (u : List ℕ) (n : Name) → u ≢ r.uuid → standing_volume t u ≡ Some n → n ≢ own
  stands_away u n other is same = by (is_visible t (Vhd u)) (is_visible t (Raw u)) (sym (plainly_stands s t m u h.orderly) ∙ is)
    where
      by : (a b : Bool) → plainly a b u ≡ Some n → ⊥
      by true b e = other (sym (vhd_uuid u) ∙ ap image_uuid (same_Some (Vhd u) n e ∙ same) ∙ h.uuid)
      by false true e = other (sym (raw_uuid u) ∙ ap image_uuid (same_Some (Raw u) n e ∙ same) ∙ h.uuid)
      by false false e = none-some n e

  -- the records
  one : OneReading was_content now_content k r
  one = record {
    within = h.stray.within;
    free = place_reads s t old m h.orderly f.ready k h.stray.within ∙ ap as_reading h.stray.free;
    taken = now k h.stray.within ∙ ap as_reading (get_or-set_same m.places k (Some r) None (omega (arith, h.stray.within, f.ready.records.long)));
    others = λ p below away. now p below ∙ ap as_reading (get_or-set_other m.places k p (Some r) None away) ∙ sym (place_reads s t old m h.orderly f.ready p below);
  }
    where
      now : (p : ℕ) → p < record_count → reading_at now_content p ≡ as_reading (get_or (set m.places k (Some r)) p None)
      now p below = place_reads s (after t own) (at_rest (held_reads new)) (made_memory added k r m) (orderly_last s t m own added k r row h g) (ready_last) p below

  unrecorded : filter (is_record_of r.uuid) (records was_content) ≡ []
  unrecorded = none (records was_content) (λ x i. x_not x i (is_record_of r.uuid x) refl)
    where
      none : (xs : List Record) → ((x : Record) → In x xs → is_record_of r.uuid x ≡ false) → filter (is_record_of r.uuid) xs ≡ []
      none xs f = filter_away (is_record_of r.uuid) xs f

      x_not : (x : Record) → In x (records was_content) → (b : Bool) → is_record_of r.uuid x ≡ b → is_record_of r.uuid x ≡ false
      x_not x i false e = e
      x_not x i true e = absurd (true≢false (sym (h.no_stray x (content_records s t old m x h.orderly f.ready i)) ∙ ap (is_shown m.rows) ((bytes_eq-Decides x.uuid r.uuid).0 e) ∙ h.stray.unseen))

  recorded_made : record_of now_content r.uuid ≡ Some r
  recorded_made = record_of_first now_content r.uuid ∙ ap first_of (records_one was_content now_content k r r.uuid one ((bytes_eq-Decides r.uuid r.uuid).1 refl) unrecorded)

  recorded_other : (u : List ℕ) → u ≢ r.uuid → record_of now_content u ≡ record_of was_content u
  recorded_other u other =
      record_of_first now_content u ∙ ap first_of (records_alike was_content now_content k r u one (not_it (is_record_of u r) refl)) ∙ sym (record_of_first was_content u)
    where
      not_it : (b : Bool) → is_record_of u r ≡ b → is_record_of u r ≡ false
      not_it false e = e
      not_it true e = absurd (other (sym ((bytes_eq-Decides r.uuid u).0 e)))

  pub disks_last : disks now_content ≡ with_disk made_disk (disks was_content)
  unfolding disk_at
  disks_last = disks_more was_content now_content made_disk gone here others
    where
      gone : disk_at was_content r.uuid ≡ None
      gone = ap (λ (y : Option Name). y >>= (λ n. record_of was_content r.uuid >>= (λ q. Some (disk_in was_content r.uuid q n)))) none_stands

      here : disk_at now_content r.uuid ≡ Some made_disk
      here = ap (λ (y : Option Name). y >>= (λ n. record_of now_content r.uuid >>= (λ q. Some (disk_in now_content r.uuid q n)))) stands_made
          ∙ ap (λ (y : Option Record). y >>= (λ q. Some (disk_in now_content r.uuid q own))) recorded_made

      others : (u : List ℕ) → u ≢ r.uuid → disk_at now_content u ≡ disk_at was_content u
      others u other = by (standing_volume t u) refl
        where
          by : (x : Option Name) → standing_volume t u ≡ x → disk_at now_content u ≡ disk_at was_content u
          by None e = ap (λ (y : Option Name). y >>= (λ n. record_of now_content u >>= (λ q. Some (disk_in now_content u q n)))) (stands_other u other ∙ e)
              ∙ sym (ap (λ (y : Option Name). y >>= (λ n. record_of was_content u >>= (λ q. Some (disk_in was_content u q n)))) e)
          by (Some n) e =
              ap (λ (y : Option Name). y >>= (λ n. record_of now_content u >>= (λ q. Some (disk_in now_content u q n)))) (stands_other u other ∙ e)
              ∙ ap₂ (λ (y : Option Record) (ss : List (List ℕ)). y >>= (λ q. Some (record { uuid = u; label = q.label; origin = q.origin; read_only = q.read_only; sectors = ss }))) (recorded_other u other) (sectors_alike n (stands_away u n other e))
              ∙ sym (ap (λ (y : Option Name). y >>= (λ n. record_of was_content u >>= (λ q. Some (disk_in was_content u q n)))) e)

  -- ---- and the call has done its work

  pub law_made : (end : Held) (before leaves : Leaving) (ok : Type 0) → MayShow s before (disks was_content)
      → IsCommit s t (after t own) new end leaves ok
      → HasDoneFrom s (after t own) end (made_memory added k r m) before leaves ok (disks was_content) (with_disk made_disk (disks was_content))
  law_made end before leaves ok might commit = record {
    ready = λ fine. subst (λ a. IsReady s (after t own) a (made_memory added k r m)) (sym (rested new end commit.keeps (commit.settled fine))) (ready_last);
    settled = commit.settled;
    shown = λ fine. ap (λ a. disks (content_now s (after t own) a)) (rested new end commit.keeps (commit.settled fine)) ∙ disks_last;
    crash = law_commit s t (after t own) new end (made_memory added k r m) before leaves ok (disks was_content) (with_disk made_disk (disks was_content))
        (middle_safe s t m old new k r before (disks was_content) h.orderly f.ready h.stray f.middle f.settled refl might) (orderly_last s t m own added k r row h g) (ready_last) commit disks_last;
    logged = logged_commit held_logs h.orderly.table (orderly_last s t m own added k r row h g).table (λ u. row_other s t m own added k r row h g (Cbt u) (name_apart own h.image u)) commit;
  }
