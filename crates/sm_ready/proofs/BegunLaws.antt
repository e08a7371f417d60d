-- Memory as an opening begins with it, read off a table and the places of its records, is orderly, for images of any kind.
use Rattle.std.proofs.Common.{◌≡◌, inl, ℕ, ◌*◌, ◌^◌, ◌<◌, ◌≤◌, Bool, true, false, cond, not, ◌&&◌, ◌||◌, List, [], ◌∷◌, length, map, filter, Option, Some, None, is_some, refl, sym, ap, ◌∙◌, subst, arith, nat_lt}
use Rattle.std.proofs.lemmas.Bool.{true≢false, ltb-true}
use Rattle.std.proofs.lemmas.List.{length-map}
use Rattle.std.proofs.lemmas.Slice.Eq.{bytes_eq-Decides}
use Rattle.std.specs.Str.{bytes_eq}
use Rattle.sm_base.specs.Limits.{extent_limit}
use Rattle.sm_base.specs.Kinds.{is_entry, is_image, is_log}
use Rattle.sm_base.specs.Names.{base_uuid}
use Rattle.sm_base.specs.Numbers.{IsGeometry}
use Rattle.sm_base.specs.declared.names.Name.{Name}
use Rattle.sm_base.specs.declared.names.Name.TheVariants.{Mgt, Raw, Vhd, Cbt}
use Rattle.sm_log.specs.Logs.{Log, log_extents}
use Rattle.sm_logs.specs.Held.{IsRising as AreRising, log_limit}
use Rattle.sm_machine.specs.Operations.{Idle}
use Rattle.sm_disk.specs.Held.{Held, IsSettled}
use Rattle.vg_meta.specs.Tables.{IsTable, VolumeTable, Row, rows, extents_of}
use Rattle.vg_meta.proofs.DecodeLaws.{used-le}
use Rattle.vg_meta.proofs.RowLaws.{IsRising}
use Rattle.sm_ready.proofs.RowLaws.{found_in}
use Rattle.vg_volumes.specs.Sites.{Site, volume_of}
use Rattle.common_laws.specs.Lists.{In, Distinct, Sorted}
use Rattle.common_laws.proofs.Lists.{In-map, In-map_at, In-filter, filter-In, Distinct-insert}
use Rattle.sm_machine.specs.Shapes.{ImageRow, DiskRecord, image_uuid, is_image_of, refs, image_limit, image_extents, chain_limit}
use Rattle.vhd_image.specs.Bodies.{parent_name}
use Rattle.sm_machine.specs.Steps.{with_record}
use Rattle.sm_machine.specs.WellFormed.{IsWellFormed, IsImageRow, EndsWithin, is_image_name, uuid_le, HasParent}
use Rattle.sm_machine.proofs.Changes.{list_any-some}
use Rattle.sm_machine.proofs.ImageNames.{records_sorted}
use Rattle.sm_record.specs.declared.records.Record.{Record}
use Rattle.sm_mgt.specs.Places.{Agrees, records_held, is_of, place_count}
use Rattle.sm_standing.specs.Checks.{is_misnamed, images, has_twin}
use Rattle.sm_standing.specs.Entries.{are_past, is_there, base_number, is_past, names_in}
use Rattle.sm_standing.specs.Logs.{IsLogged}
use Rattle.sm_standing.specs.Standing.{standing_volume}
use Rattle.vhd_chain.specs.Trees.{row_name, tree_row}
use Rattle.vhd_chain.specs.declared.rows.TreeRow.{TreeRow}
use Rattle.vhd_image.specs.Bodies.{StandsIn}
use Rattle.vhd_image.specs.Steady.{IsSteady}
use Rattle.sm_ready.specs.Known.{Known, machine_row, machine_record, shape_in, records_in, shown_places, is_shown, is_shown_place, row_face, tree_face}
use Rattle.sm_ready.specs.Orderly.{HasLogRoom, IsOrderly}
use Rattle.sm_ready.specs.Ready.{IsReady, IsBelow}
use Rattle.sm_ready.specs.Stores.{content_now}
use Rattle.sm_ready.proofs.RepairLaws.{all_quiet}
use Rattle.sm_ready.proofs.ShapeLaws.{from_records, into_records}
use Rattle.sm_ready.proofs.StrayLaws.{visible_of}
use Rattle.std.specs.List.{filter_map}
use Rattle.vg_layout.specs.Places.{record_extents}
use Rattle.sm_ready.proofs.LogRead.{IsLogFrom, all_fit, log_faces}
use Rattle.sm_ready.proofs.LoadLaws.{IsReadFrom, tree_cmp, read_rising, read_fewer, faces_same, images_sorted, images_distinct}
use Rattle.sm_ready.proofs.NumberLaws.{whole_blocks, number_of_base, is_base_of}
use Rattle.sm_standing.specs.Ordered.{Rising}
use Rattle.sm_standing.proofs.Orders.{In-filter_map}

-- memory with these rows, places and logs, and nothing under way
abbrev pub begun_with : List TreeRow → List (Option Record) → List Log → ℕ → Known
begun_with xs places ls room = record { rows = xs; places = places; logs = ls; attached = record { disks = []; counts = []; room = room }; op = Idle }

-- what the checks say of a table without journal entries, of the rows and the logs that were read off it, and of the places of the records
pub record IsRead (s : Site) (t : VolumeTable) (read : Row → Option TreeRow) (xs : List TreeRow) (places : List (Option Record)) (log : Row → Option Log) (ls : List Log) : Type 0 where
  pub rows_are : xs ≡ filter_map read t.volumes
  pub table : IsTable s.count t
  pub few_extents : s.count ≤ extent_limit
  pub record_volume : length (extents_of (rows t Mgt)) ≡ record_extents s.geometry.extent
  pub few : length (images t) ≤ image_limit
  pub named : (r : Row) → In r t.volumes → is_misnamed t r ≡ false
  pub new_image : (r : Row) → In r t.volumes → r.fresh ≡ true → is_image_name r.name ≡ true
  pub no_entry : names_in t is_entry ≡ []
  -- the logs: each volume of one has it, and they have room
  pub logs_are : ls ≡ filter_map log t.volumes
  pub log_from : (r : Row) (l : Log) → log r ≡ Some l → IsLogFrom r l
  pub log_all : (r : Row) → In r t.volumes → is_log r.name ≡ true → (l : Log) × (log r ≡ Some l)
  pub few_logs : length ls ≤ log_limit
  pub logs_in_order : AreRising ls
  pub log_room : (l : Log) → In l ls → HasLogRoom s.geometry.extent l
  -- the rows: each image that is not new has one, and chains end
  pub from : (r : Row) (x : TreeRow) → read r ≡ Some x → IsReadFrom r x
  pub all : (r : Row) → In r t.volumes → is_image r.name ≡ true → r.fresh ≡ false → (x : TreeRow) × (read r ≡ Some x)
  pub proper : (room : ℕ) (x : TreeRow) → In x xs → IsImageRow (shape_in s t (begun_with xs places ls room)) (machine_row x)
  pub parents : (x : TreeRow) (p : Name) → In x xs → parent_name x.image ≡ Some p → HasParent (map machine_row xs) (machine_row x) p
  pub chains : (x : TreeRow) → In x xs → EndsWithin chain_limit (Some (row_name x)) (map machine_row xs)
  pub stands : (x : TreeRow) → In x xs → StandsIn s.geometry (x.extents * s.geometry.extent) x.image
  -- the places: each disk has one record
  pub long : length places ≡ place_count
  pub shown : (x : TreeRow) → In x xs → x.hidden ≡ false → is_some (standing_volume t (image_uuid (row_name x))) ≡ true
  pub recorded : (u : List ℕ) → is_some (standing_volume t u) ≡ true → length (filter (is_of u) places) ≡ 1

-- ---- base images

-- an image whose name is free for it has a number below the sequence number
past_named : (t : VolumeTable) (n : Name) → is_image_name n ≡ true → (is_image n && (has_twin t n || not (are_past t n))) ≡ false → is_past t.sequence (image_uuid n) ≡ true
unfolding is_image_name image_uuid
past_named t n image right = by n image right
  where
    of : (twin past : Bool) → (twin || not (past && true)) ≡ false → past ≡ true
    of true past h = absurd (true≢false h)
    of false true h = refl
    of false false h = absurd (true≢false h)

    by : (n : Name) → is_image_name n ≡ true → (is_image n && (has_twin t n || not (are_past t n))) ≡ false → is_past t.sequence (image_uuid n) ≡ true
    by (Vhd u) image right = of (has_twin t (Vhd u)) (is_past t.sequence u) right
    by (Raw u) image right = of (has_twin t (Raw u)) (is_past t.sequence u) right
    by _ image right = absurd (true≢false (sym image))

base_used : (sequence n : ℕ) (u : List ℕ) → is_past sequence u ≡ true → n < 2 ^ 48 → u ≡ base_uuid n → n < sequence
base_used sequence n u past fits is =
    let form = subst (λ v. is_past sequence v ≡ true) is past in
    ltb-true n sequence
    (ap (λ k. nat_lt k sequence) (sym (number_of_base n fits)) ∙ sym (ap (λ v. not v || nat_lt (base_number (base_uuid n)) sequence) (is_base_of n)) ∙ form)

-- ---- no two images have one UUID

there_at : (t : VolumeTable) (r : Row) (n : Name) → IsRising t.volumes → In r t.volumes → n ≡ r.name → is_there t n ≡ true
there_at t r n rising i named = ap (is_there t) named ∙ ap is_some (found_in t.volumes rising r i)

-- where the name of the one is free for it
same_named : (t : VolumeTable) (a b : Name) → is_image_name a ≡ true → is_image_name b ≡ true → is_there t b ≡ true → (is_image a && (has_twin t a || not (are_past t a))) ≡ false → image_uuid a ≡ image_uuid b → a ≡ b
unfolding is_image_name image_uuid
same_named t (Vhd u) (Vhd v) image other there right same = ap Vhd same
same_named t (Raw u) (Raw v) image other there right same = ap Raw same
same_named t (Vhd u) (Raw v) image other there right same = absurd (true≢false (sym (ap (λ b. b || not (are_past t (Vhd u))) (ap (λ w. is_there t (Raw w)) same ∙ there)) ∙ right))
same_named t (Raw u) (Vhd v) image other there right same = absurd (true≢false (sym (ap (λ b. b || not (are_past t (Raw u))) (ap (λ w. is_there t (Vhd w)) same ∙ there)) ∙ right))
same_named t _ _ image other there right same = absurd (let k = image in let l = other in cc)

-- ---- records

abbrev uuid_of : DiskRecord → List ℕ
uuid_of r = r.uuid

pub sorted_records : (places : List (Option Record)) → Sorted uuid_le (map (λ r. r.uuid) (records_in places))
unfolding records_in
sorted_records [] = tt
sorted_records (None ∷ places) = sorted_records places
sorted_records (Some r ∷ places) = records_sorted (machine_record r) (records_in places) (sorted_records places)

-- one element that passes a test, where there is one
passing : {A : Type 0} (test : A → Bool) (xs ys : List A) → filter test xs ≡ ys → length ys ≡ 1 → (x : A) × In x xs × (test x ≡ true)
passing test xs [] is one = absurd (omega (arith, one))
passing test xs (y ∷ ys) is one = let w = In-filter test xs y (subst (In y) (sym is) (inl refl)) in (y, w.0, w.1)

some_passes : {A : Type 0} (test : A → Bool) (xs : List A) (x : A) → In x xs → test x ≡ true → 1 ≤ length (filter test xs)
some_passes test xs x i is = by (filter test xs) (filter-In test xs x i is)
  where
    by : (ys : List _) → In x ys → 1 ≤ length ys
    by [] none = absurd none
    by (y ∷ ys) h = omega arith

-- no visible image has two records
abbrev AreSingle : List TreeRow → List (Option Record) → Type 0
AreSingle xs places = (u : List ℕ) → is_shown xs u ≡ true → length (filter (is_of u) places) ≤ 1

single_rest : (xs : List TreeRow) (o : Option Record) (places : List (Option Record)) → AreSingle xs (o ∷ places) → AreSingle xs places
single_rest xs o places one u shown = by (is_of u o) (one u shown)
  where
    by : (b : Bool) → length (cond b (o ∷ filter (is_of u) places) (filter (is_of u) places)) ≤ 1 → length (filter (is_of u) places) ≤ 1
    by true h = omega (arith, h)
    by false h = h

distinct_records : (xs : List TreeRow) (places : List (Option Record)) → AreSingle xs places → Distinct (map (λ r. r.uuid) (records_in (shown_places xs places)))
unfolding records_in with_record
distinct_records xs [] one = tt
distinct_records xs (None ∷ places) one = distinct_records xs places (single_rest xs None places one)
distinct_records xs (Some r ∷ places) one = by (is_shown xs r.uuid) refl (distinct_records xs places (single_rest xs (Some r) places one))
  where
    again : is_shown xs r.uuid ≡ true → In r.uuid (map uuid_of (records_in (shown_places xs places))) → ⊥
    again shown i =
        let y = In-map uuid_of (records_in (shown_places xs places)) r.uuid i in
        let f = from_records (shown_places xs places) y.0 y.1 in
        let there = In-filter (is_shown_place xs) places (Some f.entry) f.place in
        let more = some_passes (is_of r.uuid) places (Some f.entry) there.0 ((bytes_eq-Decides f.entry.uuid r.uuid).1 (sym (ap uuid_of f.is) ∙ sym y.2)) in
        let here = ap (λ b. length (cond b (Some r ∷ filter (is_of r.uuid) places) (filter (is_of r.uuid) places))) ((bytes_eq-Decides r.uuid r.uuid).1 refl) in
        omega (arith, more, here, one r.uuid shown)

    by : (b : Bool) → is_shown xs r.uuid ≡ b → Distinct (map uuid_of (records_in (shown_places xs places)))
        → Distinct (map uuid_of (records_in (cond b (Some r ∷ shown_places xs places) (shown_places xs places))))
    by true is rest = Distinct-insert uuid_of _ (machine_record r) (records_in (shown_places xs places)) rest (again is)
    by false is rest = rest

shown_of : (xs : List TreeRow) (x : TreeRow) → In x xs → x.hidden ≡ false → is_shown xs (image_uuid (row_name x)) ≡ true
shown_of xs x i shown =
    list_any-some (λ r. is_image_of (image_uuid (row_name x)) (machine_row r)) xs x i
    (ap (λ b. not b && bytes_eq (image_uuid (row_name x)) (image_uuid (row_name x))) shown ∙ (bytes_eq-Decides (image_uuid (row_name x)) (image_uuid (row_name x))).1 refl)

place_record : (xs : List TreeRow) (places : List (Option Record)) (u : List ℕ) (o : Option Record) → In o places → is_of u o ≡ true → is_shown xs u ≡ true
    → (r : DiskRecord) × In r (records_in (shown_places xs places)) × (r.uuid ≡ u)
place_record xs places u None i is shown = absurd (true≢false (sym is))
place_record xs places u (Some r) i is shown =
    let same = (bytes_eq-Decides r.uuid u).0 is in
    (machine_record r, into_records (shown_places xs places) r (filter-In (is_shown_place xs) places (Some r) i (ap (is_shown xs) same ∙ shown)), same)

-- ---- memory as an opening begins with it

module _ {s : Site} {t : VolumeTable} {read : Row → Option TreeRow} {xs : List TreeRow} {places : List (Option Record)} {log : Row → Option Log} {ls : List Log} (b : IsRead s t read xs places log ls) where
  one_place : (u : List ℕ) → is_shown xs u ≡ true → length (filter (is_of u) places) ≡ 1
  one_place u h =
      let v = visible_of xs u h in
      b.recorded u (ap (λ w. is_some (standing_volume t w)) (sym v.uuid) ∙ b.shown v.row v.there v.shown)

  rising : Rising tree_cmp xs
  rising = subst (Rising tree_cmp) (sym b.rows_are) (read_rising read b.from t.volumes b.table.volumes.rising)

  volume : (x : TreeRow) → In x xs → (r : Row) × In r t.volumes × (row_name x ≡ r.name)
  volume x i = let w = In-filter_map read t.volumes x (subst (In x) b.rows_are i) in (w.0, w.1, (b.from w.0 x w.2).named)

  free : (x : TreeRow) → In x xs → (is_image (row_name x) && (has_twin t (row_name x) || not (are_past t (row_name x)))) ≡ false
  free x i = let w = volume x i in ap (λ n. is_image n && (has_twin t n || not (are_past t n))) w.2 ∙ b.named w.0 w.1

  distinct : Distinct (map (λ i. image_uuid i.name) (map machine_row xs))
  distinct = images_distinct xs rising (λ x y i j same.
      let w = volume y j in
      same_named t (row_name x) (row_name y) (b.proper 0 x i).named (b.proper 0 y j).named (there_at t w.0 (row_name y) b.table.volumes.rising w.1 w.2) (free x i) same)

  pub begun_well : (room : ℕ) → IsWellFormed (shape_in s t (begun_with xs places ls room))
  unfolding shape_in log_extents
  begun_well room = record {
    geometry = g;
    blocks = whole_blocks s.geometry.extent s.geometry.block g.extent_power g.block_power g.within;
    sequence = omega (arith, b.table.sequence);
    room = omega (arith, all_fit log b.log_from read b.from t.volumes, ap (λ ys. image_extents (map machine_row ys)) b.rows_are, ap log_extents b.logs_are, used-le s.count t.volumes b.table.volumes, b.record_volume);
    few = omega (arith, length-map xs machine_row, ap length b.rows_are, read_fewer read b.from t.volumes, b.few);
    images_in_order = images_sorted xs rising;
    one_image = distinct;
    images = λ i h. let x = In-map machine_row xs i h in subst (IsImageRow (shape_in s t (begun_with xs places ls room))) (sym x.2) (b.proper room x.0 x.1);
    parents = λ i p h is. let x = In-map machine_row xs i h in subst (λ z. HasParent (map machine_row xs) z p) (sym x.2) (b.parents x.0 p x.1 (sym (ap (λ (z : ImageRow). z.parent) x.2) ∙ is));
    chains = λ i h. let x = In-map machine_row xs i h in subst (λ (z : ImageRow). EndsWithin chain_limit (Some z.name) (map machine_row xs)) (sym x.2) (b.chains x.0 x.1);
    bases = λ i n h fits is.
        let x = In-map machine_row xs i h in
        let past = past_named t (row_name x.0) (b.proper room x.0 x.1).named (free x.0 x.1) in
        base_used t.sequence n (image_uuid i.name) (ap (λ (z : ImageRow). is_past t.sequence (image_uuid z.name)) x.2 ∙ past) fits is;
    records_in_order = sorted_records (shown_places xs places);
    one_record = distinct_records xs places (λ u shown. omega (arith, one_place u shown));
    disks = λ r h.
        let f = from_records (shown_places xs places) r h in
        let v = visible_of xs f.entry.uuid (In-filter (is_shown_place xs) places (Some f.entry) f.place).1 in
        (machine_row v.row, In-map_at machine_row xs v.row v.there, v.shown, v.uuid ∙ sym (ap uuid_of f.is));
    visible = λ i h shown.
        let x = In-map machine_row xs i h in
        let seen = ap (λ (z : ImageRow). is_shown xs (image_uuid z.name)) x.2 ∙ shown_of xs x.0 x.1 (sym (ap (λ (z : ImageRow). z.hidden) x.2) ∙ shown) in
        let p = passing (is_of (image_uuid i.name)) places _ refl (one_place (image_uuid i.name) seen) in
        place_record xs places (image_uuid i.name) p.0 p.1 p.2 seen;
    attachments = record { once = tt; disks = λ a h. absurd h; writable = λ a r h q k f. absurd h; thick = λ a i h q k f j v. absurd h };
    operation = tt;
  }
    where
      g : IsGeometry s.geometry.extent s.geometry.block s.geometry.entries
      g = s.geometry.in_range

  pub begun_orderly : (room : ℕ) → IsOrderly s t (begun_with xs places ls room)
  unfolding shape_in refs
  begun_orderly room = record {
    table = b.table;
    few_extents = b.few_extents;
    record_volume = b.record_volume;
    few = b.few;
    new_named = λ r i new. (b.named r i, b.new_image r i new);
    images = λ n image.
        faces_same read b.from t.volumes b.table.volumes.rising b.all (subst (λ ys. Distinct (map (λ i. image_uuid i.name) (map machine_row ys))) b.rows_are distinct) n image
        ∙ ap (λ ys. tree_face (tree_row ys n)) (sym b.rows_are);
    logs = log_faces log b.log_from t ls b.table.volumes.rising b.logs_are b.logs_in_order b.log_all;
    few_logs = b.few_logs;
    logs_in_order = b.logs_in_order;
    log_room = b.log_room;
    places = b.long;
    entries = b.no_entry;
    stands = b.stands;
    well_formed = ∣ begun_well room ∣₁;
    roomy = tt;
    counts = λ n. refl;
  }

-- and ready, where nothing is pending, and the places and logs are those of the store
pub begun_ready : (s : Site) (t : VolumeTable) (area : Held) (m : Known) → ((x : TreeRow) → In x m.rows → IsSteady s.geometry (x.extents * s.geometry.extent) (volume_of s t area (row_name x)) x.image)
    → IsSettled area → Agrees (records_held s t area) m.places → IsLogged (content_now s t area) m.logs → m.op ≡ Idle → IsReady s t area m
begun_ready s t area m steady settled agrees logs idle = record {
  firm = record {
    images = steady;
    quiet = λ x i still. all_quiet s t area settled (row_name x);
    below = subst (IsBelow (content_now s t area)) (sym idle) tt;
  };
  records = agrees;
  recorded = all_quiet s t area settled Mgt;
  logs = logs;
  logged = λ u. all_quiet s t area settled (Cbt u);
}
