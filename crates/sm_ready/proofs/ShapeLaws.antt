-- The shape of what a read gives is the shape of what is in memory, but for attachments and the operation.
use Rattle.vhd_image.specs.Bodies.{sector_count, parent_name}
use Rattle.std.proofs.Common.{◌≡◌, ◌≢◌, ◌⊎◌, inl, inr, ℕ, zero, suc, ◌+◌, ◌*◌, ◌<◌, not, Bool, true, false, cond, List, [], ◌∷◌, length, map, get_or, Option, Some, None, refl, sym, ap, ap₂, ◌∙◌, subst, arith, ◌&&◌, ◌||◌, ◌==◌}
use Rattle.std.proofs.Math.Path.{fun_ext}
use Rattle.std.proofs.lemmas.Bool.{true≢false, eqb-true}
use Rattle.std.proofs.lemmas.List.{ext_get_or, length-map}
use Rattle.std.proofs.lemmas.List.FromFn.{length-range_with_len}
use Rattle.std.proofs.lemmas.Option.{none-some, same_Some}
use Rattle.std.specs.Cmp.{IsTotalOrder}
use Rattle.std.specs.List.{filter, list_any, range_with_len, sum}
use Rattle.std.specs.List.Sorted.{IsStrictlySortedBy}
use Rattle.std.specs.Ordering.{is_lt, is_eq, ordering_reverse}
use Rattle.std.specs.declared.cmp.Ordering.{Ordering}
use Rattle.std.specs.declared.cmp.Ordering.TheVariants.{Less, Equal, Greater}
use Rattle.std.proofs.lemmas.Cmp.{nat_list_cmp_total}
use Rattle.std.proofs.lemmas.Slice.Eq.{bytes_eq-Decides}
use Rattle.std.specs.Cmp.Lexicographic.{texts_ties}
use Rattle.std.specs.Prelude.{is_some}
use Rattle.std.specs.Str.{bytes_eq}
use Rattle.sm_base.specs.Names.{IsName, name_cmp}
use Rattle.sm_base.proofs.OrderLemmas.{name_cmp_total}
use Rattle.sm_base.specs.declared.names.Name.{Name}
use Rattle.sm_base.specs.declared.names.Name.TheVariants.{Mgt, Vhd, Raw, Old, Cbt, Clone, Inflate, Coalesce, Relink, Leaf}
use Rattle.sm_log.specs.Logs.{log_extents}
use Rattle.sm_disk.specs.Held.{Held, reads}
use Rattle.sm_disk.proofs.HeldLaws.{Allows-reads}
use Rattle.vg_layout.specs.Places.{record_extents}
use Rattle.vg_meta.specs.Tables.{VolumeTable, Row, IsVolume, rows, row_of, extents_of, names_of, name_eq, suits}
use Rattle.sm_base.specs.Kinds.{is_image, is_log}
use Rattle.vg_meta.proofs.NameLaws.{name_eq-same, name_eq-other, name_eq-true, less_other, before_from, name_eq-false}
use Rattle.vg_meta.proofs.RowLaws.{row_of-name, All-row_of}
use Rattle.vg_volumes.specs.Sites.{Site, volume_of}
use Rattle.vhd_map.specs.Slots.{slot_of}
use Rattle.vhd_layout.specs.Contents.{content_at, slots_at, slot_at}
use Rattle.vhd_layout.specs.Layouts.{Sectors}
use Rattle.vhd_layout.proofs.ImageLaws.{layout-of}
use Rattle.vhd_layout.proofs.ReadingLaws.{layout-at, slots-of_table}
use Rattle.vhd_volumes.specs.Truth.{layout_in, disk_blocks}
use Rattle.sm_machine.specs.Disks.{Disk, uuid_before}
use Rattle.common_laws.specs.Lists.{In, Sorted, Distinct, insert_by, numbers, ◌>>=◌}
use Rattle.sm_machine.specs.Shapes.{ImageRow, DiskRecord, image_uuid, is_image_of}
use Rattle.sm_machine.specs.WellFormed.{IsWellFormed, name_le, is_image_name, uuid_le}
use Rattle.common_laws.proofs.Lists.{In-map, In-map_at, In-filter, filter-In, In-insert, In-insert_new, In-insert_old, Distinct-key, find-some, find-only, In-numbers, numbers-In}
use Rattle.sm_standing.specs.Contents.{Content, row, sectors_of, records, record_of, record_count, reading_at, taken, is_record_of}
use Rattle.sm_standing.specs.Images.{Image, image_of, raw_image}
use Rattle.sm_standing.specs.Ordered.{Rising, uuid_cmp, disk_cmp}
use Rattle.sm_standing.specs.Shapes.{row_of as shape_row, image_row, image_rows, other_extents, disk_record}
use Rattle.sm_standing.specs.Standing.{disks, standing_volume, stands_plainly, stands_folded, stands_forked, under, disk_at, disk_in}
use Rattle.sm_standing.proofs.DisksShown.{row_of-In}
use Rattle.sm_standing.proofs.Orders.{rising_ext, In-filter_map, filter_map-In, rising-filter_map}
use Rattle.sm_machine.specs.Steps.{with_record}
use Rattle.sm_record.specs.declared.records.Record.{Record}
use Rattle.sm_standing.specs.Entries.{is_there, is_hidden, is_filled, is_visible, of_row, head, folding}
use Rattle.sm_ready.proofs.Orders.{none_making, geometry_of, IsRowed, rowed, raw_row, other_row, named_row, whole}
use Rattle.sm_standing.proofs.DiskLists.{disk_parts, rising-disks, disks_at, at_disks}
use Rattle.vhd_chain.specs.Reading.{slots_of}
use Rattle.sm_ready.specs.Known.{machine_record, Known, shape_in, machine_row, records_in, shown_places, is_shown, is_shown_place}
use Rattle.sm_mgt.specs.Places.{as_reading}
use Rattle.sm_ready.proofs.LeftLaws.{place_reads, vhd_of, raw_of, vhd_in, now_sector}
use Rattle.sm_ready.proofs.RowLaws.{All-In, In-names, found_in, tree_found, image_named, HasVolume, volume_there, row_cmp, rising_rows}
use Rattle.sm_ready.proofs.LogRows.{log-no_image, log_extents_counted, sum-cons, sum_but_logs}
use Rattle.vhd_chain.specs.declared.rows.TreeRow.{TreeRow}
use Rattle.vhd_chain.specs.Trees.{row_name, tree_row}
use Rattle.sm_ready.specs.Orderly.{IsOrderly}
use Rattle.sm_ready.specs.Ready.{IsFirm, IsReady}
use Rattle.vhd_image.specs.Steady.{IsSteady}
use Rattle.sm_ready.specs.Stores.{content_now}
use Rattle.sm_standing.proofs.ImageSectors.{image_same}
use Rattle.sm_ready.proofs.Steadies.{steady_valid, steady_size, steady_parent}
use Rattle.sm_standing.specs.Contents as content

-- ---- the rows of a table

-- between two steps no volume is new
abbrev pub HasNoNew : VolumeTable → Type 0
HasNoNew t = (r : Row) → In r t.volumes → r.fresh ≡ false

-- ---- the map of a VHD image

slots_ext : (xs ys : List (Option ℕ)) (n : ℕ) → length xs ≡ n → length ys ≡ n → ((b : ℕ) → b < n → slot_of xs b ≡ slot_of ys b) → xs ≡ ys
slots_ext xs ys n lx ly same = ext_get_or None xs ys (lx ∙ sym ly) (λ i below. same i (omega (arith, below, lx)))

-- what a read gives of a VHD image is the one in memory
abbrev image_now : (s : Site) (t : VolumeTable) (area : Held) (u : List ℕ) (r : Row) → Image
image_now s t area u r = content_at s.geometry.block s.geometry.entries (length r.extents * s.geometry.extent) (λ p. reads (volume_of s t area (Vhd u)) p)

vhd_now : (s : Site) (t : VolumeTable) (area : Held) (m : Known) (u : List ℕ) (r : Row) → IsOrderly s t m → IsFirm s t area m → rows t (Vhd u) ≡ Some r → r.fresh ≡ false
    → image_of (content_now s t area) (Vhd u) ≡ Some (image_now s t area u r)
vhd_now s t area m u r o ready there full =
    let w = vhd_in s t area m u r o ready there full in
    let n = length r.extents * s.geometry.extent in
    vhd_of (content_now s t area) u r there w.at.filled (whole s t m (Vhd u) o)
    ∙ image_same s.geometry.extent s.geometry.block s.geometry.entries n (sectors_of (content_now s t area) (Vhd u)) (λ p. reads (volume_of s t area (Vhd u)) p) (geometry_of s t m o)
    (λ p below. now_sector s t area (Vhd u) p (subst (λ k. p < k) (sym (ap (λ o. length (extents_of o) * s.geometry.extent) there)) below))
    ∙ steady_valid s.geometry n (volume_of s t area (Vhd u)) w.head w.slots (λ p. reads (volume_of s t area (Vhd u)) p) (geometry_of s t m o) w.steady (Allows-reads n (volume_of s t area (Vhd u)))

slots_now : (s : Site) (t : VolumeTable) (area : Held) (m : Known) (u : List ℕ) (r : Row) (o : IsOrderly s t m) (ready : IsFirm s t area m) (there : rows t (Vhd u) ≡ Some r) (full : r.fresh ≡ false)
    → (image_now s t area u r).slots ≡ (vhd_in s t area m u r o ready there full).slots
slots_now s t area m u r o ready there full =
    let w = vhd_in s t area m u r o ready there full in
    let n = length r.extents * s.geometry.extent in
    let v : Sectors = λ p. reads (volume_of s t area (Vhd u)) p in
    let g = geometry_of s t m o in
    let wide = g.block_least in
    let l = layout_in s.geometry w.head.footer n in
    ap (λ k. slots_at k v) (layout-at s.geometry.block s.geometry.entries (disk_blocks s.geometry w.head.footer) n v w.head.footer w.head.header wide w.steady.is_true.now.head)
    ∙ slots_ext (slots_at l v) w.slots s.geometry.entries (length-map (range_with_len 0 s.geometry.entries) (slot_at l v) ∙ length-range_with_len 0 s.geometry.entries) w.stands.entries
    (λ b below. slots-of_table l v w.head.footer w.head.header (slot_of w.slots) b (layout-of s.geometry.extent s.geometry.block s.geometry.entries (disk_blocks s.geometry w.head.footer) n g) w.steady.is_true.now below)

-- ---- the row of an image

abbrev the_row : Name → Bool → ℕ → Option Name → ℕ → List (Option ℕ) → ImageRow
the_row name hidden extents parent size slots = record { name = name; hidden = hidden; parent = parent; size = size; slots = slots; extents = extents }

shape_row_of : (c : Content) (r : Row) (i : Image) → image_of c r.name ≡ Some i → shape_row c r ≡ Some (image_row r i)
unfolding shape_row
shape_row_of c r i is = ap (λ (o : Option Image). elim o as (λ o. Option ImageRow) [ None ↦ None | Some x ↦ Some (image_row r x) ]) is

shape_row_none : (c : Content) (r : Row) → image_of c r.name ≡ None → shape_row c r ≡ None
unfolding shape_row
shape_row_none c r is = ap (λ (o : Option Image). elim o as (λ o. Option ImageRow) [ None ↦ None | Some x ↦ Some (image_row r x) ]) is

-- the two rows have the same name, mark and number of extents
rows_agree : (m : Known) (n : Name) (r : Row) (w : IsRowed m n r) → r.name ≡ n → (i : Image) → i.parent ≡ parent_name w.row.image → i.size ≡ sector_count w.row.image → i.slots ≡ slots_of w.row.image
    → image_row r i ≡ machine_row w.row
rows_agree m n r w named i parent size slots =
    ap₂ (λ (a : Name) (b : Bool). the_row a b (length r.extents) i.parent i.size i.slots) (named ∙ sym w.named) (sym w.hidden)
    ∙ ap₂ (λ (a : ℕ) (b : Option Name). the_row (row_name w.row) w.row.hidden a b i.size i.slots) (sym w.long) parent
    ∙ ap₂ (λ (a : ℕ) (b : List (Option ℕ)). the_row (row_name w.row) w.row.hidden w.row.extents (parent_name w.row.image) a b) size slots

-- what a read gives of an image is its row in memory
pub record IsSeen (s : Site) (t : VolumeTable) (area : Held) (m : Known) (n : Name) (r : Row) : Type 0 where
  pub at : IsRowed m n r
  pub seen : shape_row (content_now s t area) r ≡ Some (machine_row at.row)

vhd_seen : (s : Site) (t : VolumeTable) (area : Held) (m : Known) (u : List ℕ) (r : Row) → IsOrderly s t m → IsFirm s t area m → rows t (Vhd u) ≡ Some r → r.fresh ≡ false → IsSeen s t area m (Vhd u) r
vhd_seen s t area m u r o ready there full =
    let w = vhd_in s t area m u r o ready there full in
    let n = length r.extents * s.geometry.extent in
    let h = volume_of s t area (Vhd u) in
    let v : Sectors = λ p. reads h p in
    let i = image_now s t area u r in
    let named = row_of-name t.volumes (Vhd u) r there in
    let all = Allows-reads n h in
    record {
      at = w.at;
      seen = shape_row_of (content_now s t area) r i (ap (image_of (content_now s t area)) named ∙ vhd_now s t area m u r o ready there full)
          ∙ ap Some (rows_agree m (Vhd u) r w.at named i
          (steady_parent s.geometry n h w.head w.slots v w.steady all ∙ sym (ap parent_name w.is))
          (steady_size s.geometry n h w.head w.slots v w.stands w.steady all ∙ sym (ap sector_count w.is))
          (slots_now s t area m u r o ready there full ∙ sym (ap slots_of w.is)));
    }

raw_parts : (c : Content) (u : List ℕ) → ((raw_image c (Raw u)).size ≡ content.size_of c (Raw u)) × ((raw_image c (Raw u)).parent ≡ None) × ((raw_image c (Raw u)).slots ≡ [])
unfolding raw_image
raw_parts c u = (refl, refl, refl)

raw_seen : (s : Site) (t : VolumeTable) (area : Held) (m : Known) (u : List ℕ) (r : Row) → IsOrderly s t m → IsFirm s t area m → rows t (Raw u) ≡ Some r → r.fresh ≡ false → IsSeen s t area m (Raw u) r
raw_seen s t area m u r o ready there full =
    let w = rowed s t m (Raw u) r o refl there full in
    let h = raw_row s t m w.row u o w.there w.named in
    let c = content_now s t area in
    let i = raw_image c (Raw u) in
    let named = row_of-name t.volumes (Raw u) r there in
    let size : h.sectors ≡ w.row.extents * s.geometry.extent = subst (λ b. IsSteady s.geometry (w.row.extents * s.geometry.extent) (volume_of s t area (row_name w.row)) b) h.is (ready.images w.row w.there) in
    let parts = raw_parts c u in
    record {
      at = w;
      seen = shape_row_of c r i (ap (image_of c) named ∙ raw_of c u r there w.filled)
          ∙ ap Some (rows_agree m (Raw u) r w named i
          (parts.1 ∙ sym (ap parent_name h.is))
          (parts.0 ∙ ap (λ o. length (extents_of o) * s.geometry.extent) there ∙ sym (ap (λ k. k * s.geometry.extent) w.long) ∙ sym size ∙ sym (ap sector_count h.is))
          (parts.2 ∙ sym (ap slots_of h.is)));
    }

-- a volume is an image, as memory has it, or none
abbrev pub Seen : Site → VolumeTable → Held → Known → Name → Row → Type 0
Seen s t area m n r = IsSeen s t area m n r ⊎ ((is_image_name n ≡ false) × (shape_row (content_now s t area) r ≡ None))

unseen : (s : Site) (t : VolumeTable) (area : Held) (m : Known) (n : Name) (r : Row) → r.name ≡ n → is_image_name n ≡ false → image_of (content_now s t area) n ≡ None → Seen s t area m n r
unseen s t area m n r named none is = inr (none, shape_row_none (content_now s t area) r (ap (image_of (content_now s t area)) named ∙ is))

pub seen_by : (s : Site) (t : VolumeTable) (area : Held) (m : Known) (n : Name) (r : Row) → IsOrderly s t m → IsFirm s t area m → rows t n ≡ Some r → r.fresh ≡ false → Seen s t area m n r
unfolding image_of is_image_name
seen_by s t area m (Vhd u) r o ready there full = inl (vhd_seen s t area m u r o ready there full)
seen_by s t area m (Raw u) r o ready there full = inl (raw_seen s t area m u r o ready there full)
seen_by s t area m Mgt r o ready there full = unseen s t area m Mgt r (row_of-name t.volumes Mgt r there) refl refl
seen_by s t area m (Old u) r o ready there full = unseen s t area m (Old u) r (row_of-name t.volumes (Old u) r there) refl refl
seen_by s t area m (Cbt u) r o ready there full = unseen s t area m (Cbt u) r (row_of-name t.volumes (Cbt u) r there) refl refl
seen_by s t area m (Clone d b w) r o ready there full = unseen s t area m (Clone d b w) r (row_of-name t.volumes (Clone d b w) r there) refl refl
seen_by s t area m (Inflate u k) r o ready there full = unseen s t area m (Inflate u k) r (row_of-name t.volumes (Inflate u k) r there) refl refl
seen_by s t area m (Coalesce v p) r o ready there full = unseen s t area m (Coalesce v p) r (row_of-name t.volumes (Coalesce v p) r there) refl refl
seen_by s t area m (Relink v p) r o ready there full = unseen s t area m (Relink v p) r (row_of-name t.volumes (Relink v p) r there) refl refl
seen_by s t area m (Leaf l p) r o ready there full = unseen s t area m (Leaf l p) r (row_of-name t.volumes (Leaf l p) r there) refl refl

-- ---- all images

abbrev pub image_cmp : ImageRow → ImageRow → Ordering
image_cmp a b = name_cmp a.name b.name

pub image_total : IsTotalOrder image_cmp
image_total = record { antisymm = λ x y. name_cmp_total.antisymm x.name y.name; trans = λ x y z. name_cmp_total.trans x.name y.name z.name; congr = λ x y z. name_cmp_total.congr x.name y.name z.name }

not_true : (b : Bool) → not b ≡ true → b ≡ false
not_true false e = refl
not_true true e = absurd (true≢false (sym e))

pub rising_images : (xs : List ImageRow) → ((x : ImageRow) → In x xs → IsName x.name) → Sorted name_le (map (λ i. i.name) xs) → Distinct (map (λ i. image_uuid i.name) xs) → Rising image_cmp xs
rising_images [] proper sorted apart = tt
rising_images (x ∷ xs) proper sorted apart = (
  (λ y i. before_from y.name x.name (proper y (inr i)) (proper x (inl refl))
      (λ same. apart.0 (subst (λ n. In (image_uuid n) (map (λ i. image_uuid i.name) xs)) same (In-map_at (λ (r : ImageRow). image_uuid r.name) xs y i)))
      (not_true (is_lt (name_cmp y.name x.name)) (sorted.0 y.name (In-map_at (λ (r : ImageRow). r.name) xs y i)))),
  rising_images xs (λ z i. proper z (inr i)) sorted.1 apart.1,
)

pub row_named : (c : Content) (r : Row) (d : ImageRow) → shape_row c r ≡ Some d → d.name ≡ r.name
unfolding shape_row
row_named c r d e = by (image_of c r.name) e
  where
    by : (x : Option Image) → elim x as (λ o. Option ImageRow) [ None ↦ None | Some i ↦ Some (image_row r i) ] ≡ Some d → d.name ≡ r.name
    by None is = absurd (none-some d is)
    by (Some i) is = sym (ap (λ (z : ImageRow). z.name) (same_Some (image_row r i) d is))

pub images_now : (s : Site) (t : VolumeTable) (area : Held) (m : Known) → HasNoNew t → IsOrderly s t m → IsFirm s t area m → IsWellFormed (shape_in s t m) → image_rows (content_now s t area) ≡ map machine_row m.rows
unfolding shape_in
images_now s t area m none_new o ready w =
    rising_ext image_cmp image_total (image_rows c) (map machine_row m.rows) left_rising right_rising within without
  where
    c : Content
    c = content_now s t area

    left_rising : Rising image_cmp (image_rows c)
    left_rising = rising-filter_map row_cmp image_cmp (shape_row c) keeps t.volumes (rising_rows t.volumes o.table.volumes.rising)
      where
        keeps : (u v : Row) (d e : ImageRow) → shape_row c u ≡ Some d → shape_row c v ≡ Some e → row_cmp u v ≡ Less → image_cmp d e ≡ Less
        keeps u v d e du ev less = ap₂ name_cmp (row_named c u d du) (row_named c v e ev) ∙ less

    found : (r : TreeRow) → In r m.rows → tree_row m.rows (row_name r) ≡ Some r
    found r i = tree_found m.rows r w.one_image i

    volume_for : (r : TreeRow) → In r m.rows → HasVolume t (row_name r)
    volume_for r i = volume_there s t m r o (image_named (row_name r) (named_row s t m r o i)) (found r i)

    proper : (x : ImageRow) → In x (map machine_row m.rows) → IsName x.name
    proper x i =
        let y = In-map machine_row m.rows x i in
        let v = volume_for y.0 y.1 in
        subst IsName (row_of-name t.volumes (row_name y.0) v.row v.there ∙ sym (ap (λ (z : ImageRow). z.name) y.2)) (All-row_of IsVolume t.volumes (row_name y.0) v.row o.table.volumes.each v.there).name

    right_rising : Rising image_cmp (map machine_row m.rows)
    right_rising = rising_images (map machine_row m.rows) proper w.images_in_order w.one_image

    within : (d : ImageRow) → In d (image_rows c) → In d (map machine_row m.rows)
    within d i =
        let x = In-filter_map (shape_row c) t.volumes d i in
        by x.0 x.2 (seen_by s t area m x.0.name x.0 o ready (found_in t.volumes o.table.volumes.rising x.0 x.1) (none_new x.0 x.1))
      where
        by : (r : Row) → shape_row c r ≡ Some d → Seen s t area m r.name r → In d (map machine_row m.rows)
        by r is (inl seen) = subst (λ z. In z (map machine_row m.rows)) (same_Some (machine_row seen.at.row) d (sym seen.seen ∙ is)) (In-map_at machine_row m.rows seen.at.row seen.at.there)
        by r is (inr none) = absurd (none-some d (sym none.1 ∙ is))

    without : (d : ImageRow) → In d (map machine_row m.rows) → In d (image_rows c)
    without d i =
        let y = In-map machine_row m.rows d i in
        let v = volume_for y.0 y.1 in
        by y.0 v.row (ap (λ (z : ImageRow). z) y.2) y.1 v.there (seen_by s t area m (row_name y.0) v.row o ready v.there v.filled)
      where
        by : (r : TreeRow) (v : Row) → d ≡ machine_row r → In r m.rows → rows t (row_name r) ≡ Some v → Seen s t area m (row_name r) v → In d (image_rows c)
        by r v is i there (inl seen) =
            filter_map-In (shape_row c) t.volumes v d (row_of-In t.volumes (row_name r) v there).0
            (seen.seen ∙ ap (λ (x : TreeRow). Some (machine_row x)) (same_Some seen.at.row r (sym seen.at.found ∙ found r i)) ∙ ap Some (sym is))
        by r v is i there (inr none) = absurd (true≢false (sym (named_row s t m r o i) ∙ none.0))

-- ---- the other volumes

abbrev extents_by : Row → Option ImageRow → ℕ
extents_by r None = length r.extents
extents_by r (Some i) = 0

other_by : (c : Content) (r : Row) → other_extents c r ≡ extents_by r (shape_row c r)
other_by c r = by (shape_row c r)
  where
    by : (x : Option ImageRow) → elim x as (λ o. ℕ) [ None ↦ length r.extents | Some i ↦ 0 ] ≡ extents_by r x
    by None = refl
    by (Some i) = refl

-- a volume that is neither an image nor a log nor that of the records has no extents
no_length : (r : Row) → (not r.hidden && (not r.fresh && (length r.extents == 0))) ≡ true → length r.extents ≡ 0
no_length r e = eqb-true (length r.extents) 0 (and_right (not r.fresh) (length r.extents == 0) (and_right (not r.hidden) (not r.fresh && (length r.extents == 0)) e))
  where
    and_right : (a b : Bool) → (a && b) ≡ true → b ≡ true
    and_right true b e = e
    and_right false b e = absurd (true≢false (sym e))

abbrev pub suits_as : Row → Name → Bool
suits_as r n = suits (record { name = n; hidden = r.hidden; fresh = r.fresh; extents = r.extents })

pub no_extents : (r : Row) (n : Name) → suits_as r n ≡ true → is_image_name n ≡ false → n ≢ Mgt → is_log n ≡ false → ((u : List ℕ) → n ≢ Old u) → length r.extents ≡ 0
unfolding is_image_name
no_extents r (Vhd u) v none other log old = absurd (true≢false none)
no_extents r (Raw u) v none other log old = absurd (true≢false none)
no_extents r Mgt v none other log old = absurd (other refl)
no_extents r (Old u) v none other log old = absurd (old u refl)
no_extents r (Cbt u) v none other log old = absurd (true≢false log)
no_extents r (Clone d b w) v none other log old = no_length r v
no_extents r (Inflate u k) v none other log old = no_length r v
no_extents r (Coalesce c p) v none other log old = no_length r v
no_extents r (Relink c p) v none other log old = no_length r v
no_extents r (Leaf l p) v none other log old = no_length r v

mgt_or_not : (n : Name) → (n ≡ Mgt) ⊎ (n ≢ Mgt)
mgt_or_not n = by (name_eq n Mgt) refl
  where
    by : (b : Bool) → name_eq n Mgt ≡ b → (n ≡ Mgt) ⊎ (n ≢ Mgt)
    by true e = inl (name_eq-true n Mgt e)
    by false e = inr (name_eq-false n Mgt e)

sum_none : (f : Row → ℕ) (rs : List Row) → ((r : Row) → In r rs → f r ≡ 0) → sum (map f rs) ≡ 0
sum_none f [] none = refl
sum_none f (r ∷ rs) none = sum-cons f r rs ∙ omega (arith, none r (inl refl), sum_none f rs (λ x i. none x (inr i)))

pub sum_mgt : (f : Row → ℕ) (rs : List Row) → IsStrictlySortedBy name_cmp (names_of rs) → ((r : Row) → In r rs → r.name ≡ Mgt → f r ≡ length r.extents) → ((r : Row) → In r rs → r.name ≢ Mgt → f r ≡ 0)
    → sum (map f rs) ≡ length (extents_of (row_of rs Mgt))
unfolding row_of IsStrictlySortedBy
sum_mgt f [] sorted here others = refl
sum_mgt f (r ∷ rs) sorted here others = by (λ x. sum_mgt f rs sorted.1 (λ y i. here y (inr i)) (λ y i. others y (inr i))) (mgt_or_not r.name)
  where
    by : (Unit {0} → sum (map f rs) ≡ length (extents_of (row_of rs Mgt))) → (r.name ≡ Mgt) ⊎ (r.name ≢ Mgt) → sum (map f (r ∷ rs)) ≡ length (extents_of (cond (name_eq r.name Mgt) (Some r) (row_of rs Mgt)))
    by rest (inl is) =
        sum-cons f r rs
        ∙ ap₂ (λ a b. a + b) (here r (inl refl) is) (sum_none f rs (λ x i. others x (inr i) (λ same. less_other r.name x.name (All-In (λ n. name_cmp r.name n ≡ Less) (names_of rs) x.name sorted.0 (In-names rs x i)) (is ∙ sym same))))
        ∙ omega arith
        ∙ sym (ap (λ b. length (extents_of (cond b (Some r) (row_of rs Mgt)))) (name_eq-same r.name Mgt is))
    by rest (inr other) =
        sum-cons f r rs ∙ ap₂ (λ a b. a + b) (others r (inl refl) other) (rest tt) ∙ omega arith
        ∙ sym (ap (λ b. length (extents_of (cond b (Some r) (row_of rs Mgt)))) (name_eq-other r.name Mgt other))

pub mgt_image : is_image_name Mgt ≡ false
unfolding is_image_name
mgt_image = refl

mgt_log : (r : Row) → r.name ≡ Mgt → is_log r.name ≡ false
mgt_log r is = ap is_log is

pub others_now : (s : Site) (t : VolumeTable) (area : Held) (m : Known) → HasNoNew t → IsOrderly s t m → IsFirm s t area m
    → sum (map (other_extents (content_now s t area)) t.volumes) ≡ log_extents m.logs + record_extents s.geometry.extent
others_now s t area m none_new o ready =
    sum_but_logs (other_extents c) t.volumes logs
    ∙ ap₂ (λ a b. a + b) (log_extents_counted s t m o)
    (sum_mgt (λ r. cond (is_log r.name) 0 (other_extents c r)) t.volumes o.table.volumes.rising
    (λ r i is. ap (λ b. cond b 0 (other_extents c r)) (mgt_log r is) ∙ here r i is)
    (λ r i other. rest r i other (is_log r.name) refl) ∙ o.record_volume)
  where
    c : Content
    c = content_now s t area

    seen : (r : Row) → In r t.volumes → Seen s t area m r.name r
    seen r i = seen_by s t area m r.name r o ready (found_in t.volumes o.table.volumes.rising r i) (none_new r i)

    here : (r : Row) → In r t.volumes → r.name ≡ Mgt → other_extents c r ≡ length r.extents
    here r i is = by (seen r i)
      where
        by : Seen s t area m r.name r → other_extents c r ≡ length r.extents
        by (inl x) = absurd (true≢false (sym (named_row s t m x.at.row o x.at.there) ∙ ap is_image_name (x.at.named ∙ is) ∙ mgt_image))
        by (inr none) = other_by c r ∙ ap (extents_by r) none.1

    logs : (r : Row) → In r t.volumes → is_log r.name ≡ true → other_extents c r ≡ length r.extents
    logs r i is = by (seen r i)
      where
        by : Seen s t area m r.name r → other_extents c r ≡ length r.extents
        by (inl x) = absurd (true≢false (sym (image_named r.name (ap is_image_name (sym x.at.named) ∙ named_row s t m x.at.row o x.at.there)) ∙ log-no_image r.name is))
        by (inr none) = other_by c r ∙ ap (extents_by r) none.1

    others : (r : Row) → In r t.volumes → r.name ≢ Mgt → is_log r.name ≡ false → other_extents c r ≡ 0
    others r i other no_log = by (seen r i)
      where
        old : is_image_name r.name ≡ false → (u : List ℕ) → r.name ≢ Old u
        old none u is =
            let there = found_in t.volumes o.table.volumes.rising r i in
            let w = rowed s t m r.name r o (ap is_image is) there (none_new r i) in
            true≢false (sym (named_row s t m w.row o w.there) ∙ ap is_image_name w.named ∙ none)

        by : Seen s t area m r.name r → other_extents c r ≡ 0
        by (inl x) = other_by c r ∙ ap (extents_by r) x.seen
        by (inr none) = other_by c r ∙ ap (extents_by r) none.1 ∙ no_extents r r.name (All-In IsVolume t.volumes r o.table.volumes.each i).kind none.0 other no_log (old none.0)

    rest : (r : Row) → In r t.volumes → r.name ≢ Mgt → (b : Bool) → is_log r.name ≡ b → cond b 0 (other_extents c r) ≡ 0
    rest r i other true is = refl
    rest r i other false is = others r i other is

-- ---- the records

abbrev record_cmp : DiskRecord → DiskRecord → Ordering
record_cmp a b = uuid_cmp a.uuid b.uuid

record_total : IsTotalOrder record_cmp
record_total = record { antisymm = λ x y. nat_list_cmp_total.antisymm x.uuid y.uuid; trans = λ x y z. nat_list_cmp_total.trans x.uuid y.uuid z.uuid; congr = λ x y z. nat_list_cmp_total.congr x.uuid y.uuid z.uuid }

rising-map : (ds : List Disk) → Rising disk_cmp ds → Rising record_cmp (map disk_record ds)
rising-map [] r = tt
rising-map (d ∷ ds) r = ((λ y i. let w = In-map disk_record ds y i in ap (λ (z : DiskRecord). uuid_cmp d.uuid z.uuid) w.2 ∙ r.0 w.0 w.1), rising-map ds r.1)

pub uuid_less : (u v : List ℕ) → u ≢ v → is_lt (uuid_cmp v u) ≡ false → uuid_cmp u v ≡ Less
uuid_less u v other e = by (uuid_cmp v u) refl e
  where
    by : (x : Ordering) → uuid_cmp v u ≡ x → is_lt x ≡ false → uuid_cmp u v ≡ Less
    by Less is f = absurd (true≢false f)
    by Equal is f = absurd (other (sym ((bytes_eq-Decides v u).0 (texts_ties v u ∙ ap is_eq is))))
    by Greater is f = nat_list_cmp_total.antisymm u v ∙ ap ordering_reverse is

rising_records : (xs : List DiskRecord) → Sorted uuid_le (map (λ r. r.uuid) xs) → Distinct (map (λ r. r.uuid) xs) → Rising record_cmp xs
rising_records [] sorted apart = tt
rising_records (x ∷ xs) sorted apart = (
  (λ y i. uuid_less x.uuid y.uuid (λ same. apart.0 (subst (λ u. In u (map (λ r. r.uuid) xs)) (sym same) (In-map_at (λ (r : DiskRecord). r.uuid) xs y i)))
      (not_true (is_lt (uuid_cmp y.uuid x.uuid)) (sorted.0 y.uuid (In-map_at (λ (r : DiskRecord). r.uuid) xs y i)))),
  rising_records xs sorted.1 apart.1,
)

-- places and records
pub into_records : (places : List (Option Record)) (r : Record) → In (Some r) places → In (machine_record r) (records_in places)
unfolding records_in with_record
into_records [] r i = absurd i
into_records (None ∷ places) r (inl is) = absurd (none-some r (sym is))
into_records (None ∷ places) r (inr i) = into_records places r i
into_records (Some x ∷ places) r (inl is) =
    subst (λ (z : Record). In (machine_record r) (insert_by (λ a b. uuid_before a.uuid b.uuid) (machine_record z) (records_in places))) (same_Some r x is) (In-insert_new (λ a b. uuid_before a.uuid b.uuid) (machine_record r) (records_in places))
into_records (Some x ∷ places) r (inr i) = In-insert_old (λ a b. uuid_before a.uuid b.uuid) (machine_record x) (records_in places) (machine_record r) (into_records places r i)

pub record FromPlace (places : List (Option Record)) (x : DiskRecord) : Type 0 where
  pub entry : Record
  pub place : In (Some entry) places
  pub is : x ≡ machine_record entry

pub from_records : (places : List (Option Record)) (x : DiskRecord) → In x (records_in places) → FromPlace places x
unfolding records_in with_record
from_records [] x i = absurd i
from_records (None ∷ places) x i = let w = from_records places x i in record { entry = w.entry; place = inr w.place; is = w.is }
from_records (Some r ∷ places) x i = by (λ j. from_records places x j) (In-insert (λ a b. uuid_before a.uuid b.uuid) (machine_record r) (records_in places) x i)
  where
    by : (In x (records_in places) → FromPlace places x) → (x ≡ machine_record r) ⊎ In x (records_in places) → FromPlace (Some r ∷ places) x
    by rest (inl is) = record { entry = r; place = inl refl; is = is }
    by rest (inr j) = let w = rest j in record { entry = w.entry; place = inr w.place; is = w.is }

pub place_of : (places : List (Option Record)) (r : Record) → In (Some r) places → (k : ℕ) × (k < length places) × (get_or places k None ≡ Some r)
place_of [] r i = absurd i
place_of (x ∷ places) r (inl is) = (0, omega arith, sym is)
place_of (x ∷ places) r (inr i) = let w = place_of places r i in (suc w.0, omega (arith, w.1), w.2)

pub at_place : (places : List (Option Record)) (k : ℕ) (r : Record) → get_or places k None ≡ Some r → In (Some r) places
at_place [] k r e = absurd (none-some r e)
at_place (x ∷ places) zero r e = inl (sym e)
at_place (x ∷ places) (suc k) r e = inr (at_place places k r e)

pub as_taken : (o : Option Record) → taken (as_reading o) ≡ o
as_taken None = refl
as_taken (Some r) = refl

taken_at : (s : Site) (t : VolumeTable) (area : Held) (m : Known) → IsOrderly s t m → IsReady s t area m → (k : ℕ) → k < record_count → taken (reading_at (content_now s t area) k) ≡ get_or m.places k None
taken_at s t area m o ready k below = ap taken (place_reads s t area m o ready k below) ∙ as_taken (get_or m.places k None)

-- the records of a read are those of the places
pub content_records : (s : Site) (t : VolumeTable) (area : Held) (m : Known) (r : Record) → IsOrderly s t m → IsReady s t area m → In r (records (content_now s t area)) → In (Some r) m.places
unfolding records
content_records s t area m r o ready i =
    let w = In-filter_map (λ k. taken (reading_at (content_now s t area) k)) (numbers 0 record_count) r i in
    at_place m.places w.0 r (sym (taken_at s t area m o ready w.0 (In-numbers 0 record_count w.0 w.1).1) ∙ w.2)

records_content : (s : Site) (t : VolumeTable) (area : Held) (m : Known) (r : Record) → IsOrderly s t m → IsReady s t area m → In (Some r) m.places → In r (records (content_now s t area))
unfolding records
records_content s t area m r o ready i =
    let w = place_of m.places r i in
    let below : w.0 < record_count = omega (arith, w.1, ready.records.long) in
    filter_map-In (λ k. taken (reading_at (content_now s t area) k)) (numbers 0 record_count) w.0 r (numbers-In 0 record_count w.0 (omega arith) below) (taken_at s t area m o ready w.0 below ∙ w.2)

abbrev back_record : DiskRecord → Record
back_record d = record { uuid = d.uuid; label = d.label; origin = d.origin; read_only = d.read_only }

-- ---- a disk that stands in an image

pub no_old : (s : Site) (t : VolumeTable) (m : Known) (u : List ℕ) → IsOrderly s t m → rows t (Old u) ≡ None
unfolding is_image_name
no_old s t m u o = by (rows t (Old u)) refl
  where
    by : (x : Option Row) → rows t (Old u) ≡ x → x ≡ None
    by None is = refl
    by (Some r) is = absurd (of r.fresh refl)
      where
        of : (b : Bool) → r.fresh ≡ b → ⊥
        of true new = true≢false (sym (o.new_named r (row_of-In t.volumes (Old u) r is).0 new).1 ∙ ap is_image_name (row_of-name t.volumes (Old u) r is))
        of false full = let w = rowed s t m (Old u) r o refl is full in none-some w.row (sym (other_row s t m (Old u) o refl) ∙ w.found)

and_false : (b : Bool) → (b && false) ≡ false
and_false true = refl
and_false false = refl

folded_plainly : (t : VolumeTable) (e : Name) (u : List ℕ) (plainly : Option Name) → ((l : List ℕ) → rows t (Old l) ≡ None) → stands_folded t e u plainly ≡ plainly
folded_plainly t (Leaf l p) u plainly none =
    ap₂ (λ (a b : Bool). cond a (Some (Vhd p)) (cond b (Some (Vhd l)) plainly))
    (ap (λ (o : Option Row). bytes_eq u l && (is_some o && (is_hidden t (Vhd p) && (not (is_there t (Vhd l)) && not (is_there t (Raw l)))))) (none l) ∙ and_false (bytes_eq u l))
    (ap (λ (o : Option Row). bytes_eq u l && (is_some o && (is_filled t (Vhd l) && not (is_there t (Vhd p))))) (none l) ∙ and_false (bytes_eq u l))
folded_plainly t Mgt u plainly none = refl
folded_plainly t (Vhd v) u plainly none = refl
folded_plainly t (Raw v) u plainly none = refl
folded_plainly t (Old v) u plainly none = refl
folded_plainly t (Cbt v) u plainly none = refl
folded_plainly t (Clone d b w) u plainly none = refl
folded_plainly t (Inflate v k) u plainly none = refl
folded_plainly t (Coalesce c p) u plainly none = refl
folded_plainly t (Relink c p) u plainly none = refl

under_plainly : (t : VolumeTable) (u : List ℕ) (x : Option Name) (plainly : Option Name) → ((l : List ℕ) → rows t (Old l) ≡ None) → under (λ e. stands_folded t e u) x plainly ≡ plainly
under_plainly t u None plainly none = refl
under_plainly t u (Some e) plainly none = folded_plainly t e u plainly none

pub plainly_stands : (s : Site) (t : VolumeTable) (m : Known) (u : List ℕ) → IsOrderly s t m → standing_volume t u ≡ stands_plainly t u
unfolding standing_volume
plainly_stands s t m u o =
    ap (λ (ns : List Name). under (λ e. stands_forked t e u) (head ns) (under (λ e. stands_folded t e u) (head (folding t)) (stands_plainly t u))) (none_making s t m o)
    ∙ under_plainly t u (head (folding t)) (stands_plainly t u) (λ l. no_old s t m l o)

-- the image of a row is visible in the table where it is not hidden
pub seen_row : (s : Site) (t : VolumeTable) (m : Known) (r : TreeRow) → IsOrderly s t m → IsWellFormed (shape_in s t m) → In r m.rows → is_visible t (row_name r) ≡ not r.hidden
unfolding shape_in
seen_row s t m r o w i =
    let found = tree_found m.rows r w.one_image i in
    let image = image_named (row_name r) (named_row s t m r o i) in
    let v = volume_there s t m r o image found in
    let x = rowed s t m (row_name r) v.row o image v.there v.filled in
    ap (of_row (λ q. not q.hidden && not q.fresh)) v.there
    ∙ ap₂ (λ (a b : Bool). not a && not b) (sym x.hidden ∙ ap (λ (q : TreeRow). q.hidden) (same_Some x.row r (sym x.found ∙ found))) x.filled ∙ and_true (not r.hidden)
  where
    and_true : (b : Bool) → (b && true) ≡ b
    and_true true = refl
    and_true false = refl

pub visible_row : (s : Site) (t : VolumeTable) (m : Known) (r : TreeRow) → IsOrderly s t m → IsWellFormed (shape_in s t m) → In r m.rows → r.hidden ≡ false → is_visible t (row_name r) ≡ true
visible_row s t m r o w i shown = seen_row s t m r o w i ∙ ap not shown

stands_visible : (t : VolumeTable) (n : Name) (u : List ℕ) → is_image_name n ≡ true → image_uuid n ≡ u → is_visible t n ≡ true → (x : Name) × (stands_plainly t u ≡ Some x)
unfolding is_image_name image_uuid
stands_visible t (Vhd v) u image same visible = (Vhd u, ap (λ b. cond b (Some (Vhd u)) (cond (is_visible t (Raw u)) (Some (Raw u)) None)) (ap (λ w. is_visible t (Vhd w)) (sym same) ∙ visible))
stands_visible t (Raw v) u image same visible = by (is_visible t (Vhd u))
  where
    by : (b : Bool) → (x : Name) × (cond b (Some (Vhd u)) (cond (is_visible t (Raw u)) (Some (Raw u)) None) ≡ Some x)
    by true = (Vhd u, refl)
    by false = (Raw u, ap (λ b. cond b (Some (Raw u)) None) (ap (λ w. is_visible t (Raw w)) (sym same) ∙ visible))
stands_visible t Mgt u image same visible = absurd (true≢false (sym image))
stands_visible t (Old v) u image same visible = absurd (true≢false (sym image))
stands_visible t (Cbt v) u image same visible = absurd (true≢false (sym image))
stands_visible t (Clone d b w) u image same visible = absurd (true≢false (sym image))
stands_visible t (Inflate v k) u image same visible = absurd (true≢false (sym image))
stands_visible t (Coalesce c p) u image same visible = absurd (true≢false (sym image))
stands_visible t (Relink c p) u image same visible = absurd (true≢false (sym image))
stands_visible t (Leaf l p) u image same visible = absurd (true≢false (sym image))

pub stands_now : (s : Site) (t : VolumeTable) (m : Known) (u : List ℕ) (r : TreeRow) → IsOrderly s t m → IsWellFormed (shape_in s t m) → In r m.rows → r.hidden ≡ false → image_uuid (row_name r) ≡ u
    → (n : Name) × (standing_volume t u ≡ Some n)
stands_now s t m u r o w i shown named =
    let x = stands_visible t (row_name r) u (named_row s t m r o i) named (visible_row s t m r o w i shown) in
    (x.0, plainly_stands s t m u o ∙ x.1)

disk_shown : (c : Content) (n : Name) (r : Record) → standing_volume c.table r.uuid ≡ Some n → record_of c r.uuid ≡ Some r → disk_at c r.uuid ≡ Some (disk_in c r.uuid r n)
unfolding disk_at
disk_shown c n r standing recorded =
    ap (λ (x : Option Name). x >>= (λ n. record_of c r.uuid >>= (λ q. Some (disk_in c r.uuid q n)))) standing
    ∙ ap (λ (x : Option Record). x >>= (λ q. Some (disk_in c r.uuid q n))) recorded

pub any_filter : {A : Type 0} (test keep : A → Bool) (xs : List A) → ((x : A) → In x xs → keep x ≡ false → test x ≡ false) → list_any test (filter keep xs) ≡ list_any test xs
any_filter test keep [] none = refl
any_filter test keep (x ∷ xs) none = by (keep x) refl (any_filter test keep xs (λ y i. none y (inr i)))
  where
    by : (b : Bool) → keep x ≡ b → list_any test (filter keep xs) ≡ list_any test xs → list_any test (cond b (x ∷ filter keep xs) (filter keep xs)) ≡ list_any test (x ∷ xs)
    by true is rest = ap (λ c. test x || c) rest
    by false is rest = rest ∙ sym (ap (λ b. b || list_any test xs) (none x (inl refl) is))

-- the same visible images, the same places
pub shown_same : (rs qs : List TreeRow) (places : List (Option Record)) → ((u : List ℕ) → is_shown rs u ≡ is_shown qs u) → shown_places rs places ≡ shown_places qs places
shown_same rs qs places same = ap (λ f. filter f places) (fun_ext by)
  where
    by : (o : Option Record) → is_shown_place rs o ≡ is_shown_place qs o
    by None = refl
    by (Some r) = same r.uuid

pub any_at : {A : Type 0} (test : A → Bool) (xs : List A) (x : A) → In x xs → test x ≡ true → list_any test xs ≡ true
any_at test [] x i e = absurd i
any_at test (y ∷ ys) x (inl is) e = ap (λ b. b || list_any test ys) (ap test (sym is) ∙ e)
any_at test (y ∷ ys) x (inr i) e = ap (λ b. test y || b) (any_at test ys x i e) ∙ or_true (test y)
  where
    or_true : (b : Bool) → (b || true) ≡ true
    or_true true = refl
    or_true false = refl

pub visible_shown : (s : Site) (t : VolumeTable) (m : Known) (n : Name) (u : List ℕ) (x : Option Row) → IsOrderly s t m → is_image n ≡ true → image_uuid n ≡ u → rows t n ≡ x → of_row (λ q. not q.hidden && not q.fresh) x ≡ true
    → is_shown m.rows u ≡ true
visible_shown s t m n u None o image named is e = absurd (true≢false (sym e))
visible_shown s t m n u (Some r) o image named is e = by r.hidden r.fresh refl refl e
  where
    by : (a b : Bool) → r.hidden ≡ a → r.fresh ≡ b → (not a && not b) ≡ true → is_shown m.rows u ≡ true
    by true b h f e = absurd (true≢false (sym e))
    by false true h f e = absurd (true≢false (sym e))
    by false false h f e =
        let w = rowed s t m n r o image is f in
        any_at (λ q. is_image_of u (machine_row q)) m.rows w.row w.there
        (ap₂ (λ (a : Bool) (x : List ℕ). not a && bytes_eq x u) (w.hidden ∙ h) (ap image_uuid w.named ∙ named) ∙ (bytes_eq-Decides u u).1 refl)

-- a UUID that stands is that of a visible image in memory
pub standing_shown : (s : Site) (t : VolumeTable) (m : Known) (u : List ℕ) (n : Name) → IsOrderly s t m → standing_volume t u ≡ Some n → is_shown m.rows u ≡ true
unfolding image_uuid
standing_shown s t m u n o is = vhd (is_visible t (Vhd u)) refl
  where
    raw : (b : Bool) → is_visible t (Raw u) ≡ b → cond b (Some (Raw u)) None ≡ Some n → is_shown m.rows u ≡ true
    raw true e h = visible_shown s t m (Raw u) u (rows t (Raw u)) o refl refl refl e
    raw false e h = absurd (none-some n h)

    vhd : (b : Bool) → is_visible t (Vhd u) ≡ b → is_shown m.rows u ≡ true
    vhd true e = visible_shown s t m (Vhd u) u (rows t (Vhd u)) o refl refl refl e
    vhd false e = raw (is_visible t (Raw u)) refl (sym (ap (λ b. cond b (Some (Vhd u)) (cond (is_visible t (Raw u)) (Some (Raw u)) None)) e) ∙ sym (plainly_stands s t m u o) ∙ is)

pub records_now : (s : Site) (t : VolumeTable) (area : Held) (m : Known) → IsOrderly s t m → IsReady s t area m → IsWellFormed (shape_in s t m)
    → map disk_record (disks (content_now s t area)) ≡ records_in (shown_places m.rows m.places)
unfolding shape_in
records_now s t area m o ready w =
    rising_ext record_cmp record_total (map disk_record (disks c)) (records_in ps) (rising-map (disks c) (rising-disks c)) (rising_records (records_in ps) w.records_in_order w.one_record) within without
  where
    c : Content
    c = content_now s t area

    ps : List (Option Record)
    ps = shown_places m.rows m.places

    shown : (r : Record) → In r (records c) → is_shown m.rows r.uuid ≡ true → In (Some r) ps
    shown r i e = filter-In (is_shown_place m.rows) m.places (Some r) (content_records s t area m r o ready i) e

    within : (x : DiskRecord) → In x (map disk_record (disks c)) → In x (records_in ps)
    within x i =
        let y = In-map disk_record (disks c) x i in
        let p = disk_parts c y.0.uuid y.0 (disks_at c y.0 y.1) in
        let f = find-some (is_record_of y.0.uuid) (records c) p.entry p.recorded in
        let same : p.entry.uuid ≡ y.0.uuid = (bytes_eq-Decides p.entry.uuid y.0.uuid).0 f.1 in
        subst (λ z. In z (records_in ps))
        (ap (λ (u : List ℕ). let d : DiskRecord = record { uuid = u; label = p.entry.label; origin = p.entry.origin; read_only = p.entry.read_only } in d) same ∙ sym (ap disk_record p.made) ∙ sym y.2)
        (into_records ps p.entry (shown p.entry f.0 (ap (is_shown m.rows) same ∙ standing_shown s t m y.0.uuid p.name o p.standing)))

    only : (r q : Record) → is_shown m.rows r.uuid ≡ true → In r (records c) → In q (records c) → q.uuid ≡ r.uuid → q ≡ r
    only r q e i j same =
        ap back_record (Distinct-key (λ (x : DiskRecord). x.uuid) (records_in ps) (machine_record q) (machine_record r) w.one_record
        (into_records ps q (shown q j (ap (is_shown m.rows) same ∙ e))) (into_records ps r (shown r i e)) same)

    without : (x : DiskRecord) → In x (records_in ps) → In x (map disk_record (disks c))
    without x i =
        let f = from_records ps x i in
        let r = f.entry in
        let at = In-filter (is_shown_place m.rows) m.places (Some r) f.place in
        let there = records_content s t area m r o ready at.0 in
        let recorded : record_of c r.uuid ≡ Some r = find-only (is_record_of r.uuid) (records c) r there ((bytes_eq-Decides r.uuid r.uuid).1 refl) (λ q j e. only r q at.1 there j ((bytes_eq-Decides q.uuid r.uuid).0 e)) in
        let h = w.disks x i in
        let y = In-map machine_row m.rows h.0 h.1 in
        let n = stands_now s t m r.uuid y.0 o w y.1 (sym (ap (λ (z : ImageRow). z.hidden) y.2) ∙ h.2) (sym (ap (λ (z : ImageRow). image_uuid z.name) y.2) ∙ h.3 ∙ ap (λ (z : DiskRecord). z.uuid) f.is) in
        subst (λ z. In z (map disk_record (disks c))) (sym f.is)
        (In-map_at disk_record (disks c) (disk_in c r.uuid r n.0) (at_disks c r.uuid (disk_in c r.uuid r n.0) (disk_shown c n.0 r n.1 recorded)))
