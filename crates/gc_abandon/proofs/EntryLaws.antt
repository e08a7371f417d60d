-- Another journal entry, and the operation that it speaks of: memory is orderly and ready under a table that has the volumes
-- of another, but for its journal entries.
use Rattle.std.proofs.Common.{◌≡◌, suc, ℕ, ◌^◌, ◌*◌, ◌<◌, ◌≤◌, Less, ◌&&◌, ◌||◌, not, Bool, true, false, cond, List, [], ◌∷◌, length, filter, Option, Some, None, is_some, refl, sym, ap, ap₂, ◌∙◌, subst, arith, nat_lt, ◌==◌}
use Rattle.std.proofs.Math.Logic.{∥∥₁_map}
use Rattle.std.proofs.lemmas.Bool.{and_parts, lt-ltb, ltb-true, true≢false}
use Rattle.std.specs.List.Sorted.{IsStrictlySortedBy}
use Rattle.sm_base.specs.Kinds.{is_entry, is_image, is_log}
use Rattle.sm_base.specs.Names.{base_uuid, name_cmp}
use Rattle.sm_base.proofs.OrderLemmas.{name_cmp_total}
use Rattle.sm_base.specs.declared.names.Name.{Name}
use Rattle.sm_base.specs.declared.names.Name.TheVariants.{Mgt, Vhd, Raw, Cbt}
use Rattle.sm_machine.specs.Operations.{Op}
use Rattle.sm_machine.specs.Operations as op
use Rattle.sm_disk.specs.Held.{Held, reads}
use Rattle.vg_meta.specs.Tables.{IsTable, IsVolume, Row, VolumeTable, extents_of, names_of, rows}
use Rattle.vg_volumes.specs.Sites.{Site}
use Rattle.vg_volumes.specs.Volumes.{piece, volume}
use Rattle.common_laws.specs.Lists.{In, ◌>>=◌}
use Rattle.common_laws.proofs.Lists.{In-filter, In-map, filter-In}
use Rattle.sm_machine.specs.Shapes.{ImageRow, Shape, find_image, image_uuid, last_sequence, refs}
use Rattle.sm_machine.specs.WellFormed.{IsChild, IsOperation, IsWellFormed, is_image_name, table_length}
use Rattle.sm_record.specs.Records.{reading}
use Rattle.sm_standing.specs.Checks.{has_twin, is_misnamed}
use Rattle.sm_standing.specs.Contents.{Content, record_of, sectors_of}
use Rattle.sm_standing.specs.Logs.{IsLogged, log_at, log_read}
use Rattle.sm_standing.specs.Entries.{are_past, is_past, is_there, is_visible, names_in, of_row, uuids_in}
use Rattle.sm_standing.specs.Images.{image_of}
use Rattle.sm_standing.specs.Ordered.{Rising}
use Rattle.sm_standing.specs.Standing.{disks, standing_volume}
use Rattle.sm_standing.proofs.ImageLaws.{disks_as}
use Rattle.sm_standing.proofs.ImageSectors.{gone, raw_same, vhd_same}
use Rattle.sm_standing.proofs.Orders.{rising_ext}
use Rattle.sm_standing.proofs.RecordLists.{first_of, record_of_first, records_same}
use Rattle.sm_mgt.specs.Places.{Agrees}
use Rattle.vhd_image.specs.Steady.{IsSteady}
use Rattle.vhd_volumes.specs.Steady.{IsQuiet}
use Rattle.vhd_chain.specs.Trees.{row_name}
use Rattle.vhd_chain.specs.declared.rows.TreeRow.{TreeRow}
use Rattle.sm_ready.specs.Done.{at_rest}
use Rattle.sm_ready.specs.Known.{Known, entry_of, machine_row, row_face, shape_in}
use Rattle.sm_ready.specs.Orderly.{IsOrderly, IsRoomyIn}
use Rattle.sm_ready.specs.Ready.{IsBelow, IsReady, IsTidy, is_written_as, is_written_in}
use Rattle.sm_ready.specs.Stores.{content_in, content_now}
use Rattle.sm_ready.proofs.CommitLaws.{volume_rested}
use Rattle.sm_ready.proofs.Orders.{geometry_of, named_row, whole}
use Rattle.sm_ready.proofs.RestLaws.{ready_rest}
use Rattle.sm_ready.proofs.RowLaws.{All-In, In-names, found_in, image_named, tree_found, volume_there}
use Rattle.sm_ready.proofs.NumberLaws.{is_base_of, number_of_base}
use Rattle.sm_base.proofs.KindLaws.{entry-no_image, entry-no_log, image-no_entry}
use Rattle.sm_standing.proofs.NamedLaws.{all_past}
use Rattle.sm_standing.proofs.UndoneLaws.{named_found}
use Rattle.sm_standing.proofs.DisksShown.{row_of-In}
use Rattle.vg_meta.proofs.RowLaws.{row_of-name}
use Rattle.vg_meta.proofs.ByName.{changes_by_name}
use Rattle.vg_meta.proofs.ChangeLaws.{IsTable-applied}
use Rattle.vg_meta.specs.Changes.{Permits, SpeaksOf, applied, made, put, put_some, renamed, without}
use Rattle.vg_meta.specs.declared.changes.Change.{Change}
use Rattle.vg_meta.specs.declared.changes.Change.TheVariants.{Create, Remove, Rename}
use Rattle.sm_standing.proofs.VolumeLists.{none_without}
use Rattle.std.specs.Ordering.{is_lt}
use Rattle.sm_ready.proofs.ShapeLaws.{plainly_stands}
use Rattle.sm_standing.specs.Volumes.{IsSameVolume}

-- ---- names

-- volumes are counted by their names
pub counted : (test : Name → Bool) (rs : List Row) → length (filter (λ (r : Row). test r.name) rs) ≡ length (filter test (names_of rs))
counted test [] = refl
counted test (r ∷ rs) = by (test r.name) (counted test rs)
  where
    by : (b : Bool) → length (filter (λ (r : Row). test r.name) rs) ≡ length (filter test (names_of rs))
        → length (cond b (r ∷ filter (λ (r : Row). test r.name) rs) (filter (λ (r : Row). test r.name) rs)) ≡ length (cond b (r.name ∷ filter test (names_of rs)) (filter test (names_of rs)))
    by true rest = ap suc rest
    by false rest = rest

rising_names : (ns : List Name) → IsStrictlySortedBy name_cmp ns → Rising name_cmp ns
unfolding IsStrictlySortedBy
rising_names [] sorted = tt
rising_names (n ∷ ns) sorted = (λ x i. All-In (λ m. name_cmp n m ≡ Less) ns x sorted.0 i, rising_names ns sorted.1)

rising_kept : (test : Name → Bool) (ns : List Name) → Rising name_cmp ns → Rising name_cmp (filter test ns)
rising_kept test [] h = tt
rising_kept test (n ∷ ns) h = by (test n) (rising_kept test ns h.1)
  where
    by : (b : Bool) → Rising name_cmp (filter test ns) → Rising name_cmp (cond b (n ∷ filter test ns) (filter test ns))
    by true rest = (λ x i. h.0 x (In-filter test ns x i).0, rest)
    by false rest = rest

names_within : (test : Name → Bool) (a b : VolumeTable) → ((n : Name) → test n ≡ true → rows a n ≡ rows b n) → (n : Name) → In n (names_in a test) → In n (names_in b test)
names_within test a b same n i =
    let w = In-filter test (names_of a.volumes) n i in
    let f = named_found a.volumes n w.0 in
    let there : rows b n ≡ Some f.0 = sym (same n w.1) ∙ f.1 in
    filter-In test (names_of b.volumes) n
    (subst (λ x. In x (names_of b.volumes)) (row_of-name b.volumes n f.0 there) (In-names b.volumes f.0 (row_of-In b.volumes n f.0 there).0)) w.1

-- two tables that have the same volumes of a kind have as many of it
pub as_many : (test : Name → Bool) (count : ℕ) (a b : VolumeTable) → IsTable count a → IsTable count b → ((n : Name) → test n ≡ true → rows a n ≡ rows b n)
    → length (filter (λ (r : Row). test r.name) a.volumes) ≡ length (filter (λ (r : Row). test r.name) b.volumes)
as_many test count a b a_table b_table same =
    counted test a.volumes
    ∙ ap (λ ns. length ns) (rising_ext name_cmp name_cmp_total (names_in a test) (names_in b test) (rising_in a a_table) (rising_in b b_table)
    (names_within test a b same) (names_within test b a (λ n is. sym (same n is))))
    ∙ sym (counted test b.volumes)
  where
    rising_in : (x : VolumeTable) → IsTable count x → Rising name_cmp (names_in x test)
    rising_in x table = rising_kept test (names_of x.volumes) (rising_names (names_of x.volumes) table.volumes.rising)

-- a new volume is no journal entry's
pub fresh_no_entry : (r : Row) → IsVolume r → r.fresh ≡ true → is_entry r.name ≡ false
fresh_no_entry r v new = by (is_image r.name) (is_log r.name) (is_entry r.name) refl refl refl
  where
    some_extents : Bool
    some_extents = nat_lt 0 (length r.extents)

    no_extents : Bool
    no_extents = not (is_entry r.name) || (length r.extents == 0)

    unmarked : Bool
    unmarked = not r.hidden && (not r.fresh && no_extents)

    by : (image log entry : Bool) → is_image r.name ≡ image → is_log r.name ≡ log → is_entry r.name ≡ entry → entry ≡ false
    by image log false is_i is_l is_e = refl
    by true log true is_i is_l is_e = absurd (true≢false (sym is_i ∙ entry-no_image r.name is_e))
    by false true true is_i is_l is_e = absurd (true≢false (sym is_l ∙ entry-no_log r.name is_e))
    by false false true is_i is_l is_e =
        let plain : unmarked ≡ true = sym (ap₂ (λ a b. cond a some_extents (cond b (not r.hidden && some_extents) unmarked)) is_i is_l) ∙ v.kind in
        let old = (and_parts (not r.fresh) no_extents (and_parts (not r.hidden) (not r.fresh && no_extents) plain).1).0 in
        absurd (true≢false (sym old ∙ ap not new))

-- ---- the machine's shape

pub shape_entry : (s : Site) (t u : VolumeTable) (m : Known) (x : Op) → shape_in s u (record m { op = x }) ≡ record (shape_in s t m) { sequence = u.sequence; op = x }
unfolding shape_in
shape_entry s t u m x = refl

abbrev child_as : (σ : Shape) (k : ℕ) (y : Op) {hidden : Bool} {v p : Name} → IsChild σ hidden v p → IsChild (record σ { sequence = k; op = y }) hidden v p
child_as σ k y h = record { child = h.child; there = h.there; is_named = h.is_named; is_shown = h.is_shown; vhd = h.vhd; linked = h.linked }

-- the images of an operation are there whatever the number is, and whichever operation runs
pub operation_as : (σ : Shape) (k : ℕ) (y x : Op) → IsOperation σ x → IsOperation (record σ { sequence = k; op = y }) x
operation_as σ k y op.Idle h = tt
operation_as σ k y (op.Copy v p c) h = record { link = child_as σ k y h.link; only = h.only; same_size = h.same_size }
operation_as σ k y (op.Relink v p) h = child_as σ k y h
operation_as σ k y (op.Leaf l p c) h = (record { link = child_as σ k y h.0.link; only = h.0.only; same_size = h.0.same_size }, h.1, h.2)
operation_as σ k y (op.Live l p c dirty) h = record {
  only = record { link = child_as σ k y h.only.link; only = h.only.only; same_size = h.only.same_size };
  parent_vhd = h.parent_vhd;
  attached = h.attached;
  thick = h.thick;
  within = h.within;
  blocks = h.blocks;
}

roomy_as : (σ : Shape) (k : ℕ) (y x : Op) → IsRoomyIn σ x → IsRoomyIn (record σ { sequence = k; op = y }) x
roomy_as σ k y op.Idle h = tt
roomy_as σ k y (op.Copy v p c) h = h
roomy_as σ k y (op.Relink v p) h = tt
roomy_as σ k y (op.Leaf l p c) h = h
roomy_as σ k y (op.Live l p c dirty) h = h

table_as : (σ : Shape) (k : ℕ) (y : Op) (n : Name) → table_length σ n ≡ table_length (record σ { sequence = k; op = y }) n
unfolding table_length
table_as σ k y (Vhd u) = refl
table_as σ k y _ = refl

-- another sequence number, above those of the images, and another operation keep a shape well-formed
pub well_as : (σ : Shape) (k : ℕ) (x : Op) → k ≤ last_sequence → ((i : ImageRow) (n : ℕ) → In i σ.images → n < 2 ^ 48 → image_uuid i.name ≡ base_uuid n → n < k) → IsOperation σ x
    → IsWellFormed σ → IsWellFormed (record σ { sequence = k; op = x })
well_as σ k x most bases works w = record {
  geometry = w.geometry;
  blocks = w.blocks;
  sequence = most;
  room = w.room;
  few = w.few;
  images_in_order = w.images_in_order;
  one_image = w.one_image;
  images = λ i h. let y = w.images i h in record { named = y.named; whole = y.whole; volume = y.volume; table = y.table ∙ table_as σ k x i.name; raw = y.raw };
  parents = w.parents;
  chains = w.chains;
  bases = bases;
  records_in_order = w.records_in_order;
  one_record = w.one_record;
  disks = w.disks;
  visible = w.visible;
  attachments = record { once = w.attachments.once; disks = w.attachments.disks; writable = w.attachments.writable; thick = w.attachments.thick };
  operation = operation_as σ k x x works;
}

refs_as : (σ : Shape) (k : ℕ) (x : Op) (n : Name) → refs n (record σ { sequence = k; op = x }) ≡ refs n σ
unfolding refs
refs_as σ k x n = refl

written_as : (σ : Shape) (k : ℕ) (x : Op) (n : Name) → is_written_in (record σ { sequence = k; op = x }) n ≡ is_written_in σ n
unfolding is_written_in
written_as σ k x n = by (find_image n σ.images)
  where
    by : (i : Option ImageRow) → is_written_as (record σ { sequence = k; op = x }) n i ≡ is_written_as σ n i
    by None = refl
    by (Some i) = refl

-- ---- the table

-- The volumes of u are those of t, but for journal entries. An image's UUID of the form of base images has a number below the
-- sequence number of u, as of t.
pub record IsReentered (s : Site) (t u : VolumeTable) : Type 0 where
  pub table : IsTable s.count u
  pub same : (n : Name) → is_entry n ≡ false → rows u n ≡ rows t n
  pub past : (n : Name) → is_image n ≡ true → is_there u n ≡ true → are_past t n ≡ true → are_past u n ≡ true

-- as where the number has not become less
pub past_raised : (t u : VolumeTable) → t.sequence ≤ u.sequence → (n : Name) → is_image n ≡ true → is_there u n ≡ true → are_past t n ≡ true → are_past u n ≡ true
past_raised t u more n image there past = all_past (uuids_in n) t.sequence u.sequence more past

-- behind a change that speaks of journal entries alone
pub entered : (s : Site) (t : VolumeTable) (change : Change) → IsTable s.count t → Permits s.count t change → ((n : Name) → SpeaksOf change n → is_entry n ≡ true) → IsReentered s t (applied t change)
entered s t change table permits entries = record {
  table = IsTable-applied s.count t change table permits;
  same = λ n none. (changes_by_name s.count t change table permits).others n (λ of. true≢false (sym (entries n of) ∙ none));
  past = past_raised t (applied t change) (omega (arith, table.sequence));
}

-- the only entry goes
pub entry_gone : (t : VolumeTable) (n : Name) → is_entry n ≡ true → names_in t is_entry ≡ n ∷ [] → names_in (applied t (Remove n)) is_entry ≡ []
entry_gone t n is one = none_without is_entry n t.volumes is one

-- one comes where there is none
one_put : (r : Row) (rs : List Row) → is_entry r.name ≡ true → filter is_entry (names_of rs) ≡ [] → filter is_entry (names_of (put r rs)) ≡ r.name ∷ []
unfolding put
one_put r [] is none = ap (λ b. cond b (r.name ∷ []) []) is
one_put r (q ∷ rs) is none = by (is_lt (name_cmp r.name q.name)) (is_entry q.name) refl none (λ rest. one_put r rs is rest)
  where
    by : (b c : Bool) → is_entry q.name ≡ c → cond c (q.name ∷ filter is_entry (names_of rs)) (filter is_entry (names_of rs)) ≡ []
        → (filter is_entry (names_of rs) ≡ [] → filter is_entry (names_of (put r rs)) ≡ r.name ∷ []) → filter is_entry (names_of (cond b (r ∷ q ∷ rs) (q ∷ put r rs))) ≡ r.name ∷ []
    by b true e absent further = absurd (let x = absent in cc)
    by true false e absent further =
        ap (λ b. cond b (r.name ∷ filter is_entry (names_of (q ∷ rs))) (filter is_entry (names_of (q ∷ rs)))) is
        ∙ ap (λ ns. r.name ∷ ns) (ap (λ b. cond b (q.name ∷ filter is_entry (names_of rs)) (filter is_entry (names_of rs))) e ∙ absent)
    by false false e absent further = ap (λ b. cond b (q.name ∷ filter is_entry (names_of (put r rs))) (filter is_entry (names_of (put r rs)))) e ∙ further absent

pub entry_put : (t : VolumeTable) (n : Name) (fresh : Bool) (es : List ℕ) → is_entry n ≡ true → names_in t is_entry ≡ [] → names_in (applied t (Create n fresh es)) is_entry ≡ n ∷ []
entry_put t n fresh es is none = one_put (made n fresh es) t.volumes is none

-- another takes its place
pub entry_replaced : (t : VolumeTable) (from to : Name) (r : Row) → rows t from ≡ Some r → is_entry from ≡ true → is_entry to ≡ true → names_in t is_entry ≡ from ∷ []
    → names_in (applied t (Rename from to)) is_entry ≡ to ∷ []
entry_replaced t from to r there old new one =
    ap (λ (o : Option Row). filter is_entry (names_of (put_some o (renamed to) (without from t.volumes)))) there
    ∙ one_put (renamed to r) (without from t.volumes) new (none_without is_entry from t.volumes old one)

-- the same UUIDs are past
past_parts : (sequence : ℕ) (v : List ℕ) → (is_past sequence v && true) ≡ true → is_past sequence v ≡ true
past_parts sequence v h = (and_parts (is_past sequence v) true h).0

past_pair : (b : Bool) → b ≡ true → (b && true) ≡ true
past_pair b h = ap (λ c. c && true) h

-- a number that was used is below the sequence number, and the other way round
base_past : (sequence n : ℕ) → n < 2 ^ 48 → n < sequence → is_past sequence (base_uuid n) ≡ true
base_past sequence n fits below = ap₂ (λ b k. not b || nat_lt k sequence) (is_base_of n) (number_of_base n fits) ∙ lt-ltb n sequence below

past_base : (sequence n : ℕ) → n < 2 ^ 48 → is_past sequence (base_uuid n) ≡ true → n < sequence
past_base sequence n fits past = ltb-true n sequence (sym (ap₂ (λ b k. not b || nat_lt k sequence) (is_base_of n) (number_of_base n fits)) ∙ past)

module _ (s : Site) (t u : VolumeTable) (m : Known) (o : IsOrderly s t m) (e : IsReentered s t u) where
  image_row : (n : Name) → is_image n ≡ true → rows u n ≡ rows t n
  image_row n image = e.same n (image-no_entry n image)

  there_same : (n : Name) → is_image n ≡ true → is_there u n ≡ is_there t n
  there_same n image = ap is_some (image_row n image)

  -- ---- the names of new volumes

  twin_same : (n : Name) → has_twin u n ≡ has_twin t n
  twin_same (Vhd v) = there_same (Raw v) refl
  twin_same (Raw v) = there_same (Vhd v) refl
  twin_same _ = refl

  still_named : (twin now was past : Bool) → now ≡ was → (was || not twin) ≡ false → (twin ≡ true → past ≡ true) → (now || not past) ≡ false
  still_named twin now true past same right later = absurd (true≢false right)
  still_named true now false past same right later = ap₂ (λ a b. a || not b) same (later refl)
  still_named false now false past same right later = absurd (true≢false right)

  named : (r : Row) → In r u.volumes → r.fresh ≡ true → (is_misnamed u r ≡ false) × (is_image_name r.name ≡ true)
  named r i new =
      let other = fresh_no_entry r (All-In IsVolume u.volumes r e.table.volumes.each i) new in
      let here = found_in u.volumes e.table.volumes.rising r i in
      let was = o.new_named r (row_of-In t.volumes r.name r (sym (e.same r.name other) ∙ here)).0 new in
      let image = image_named r.name was.1 in
      let right : (has_twin t r.name || not (are_past t r.name)) ≡ false = sym (ap (λ b. b && (has_twin t r.name || not (are_past t r.name))) image) ∙ was.0 in (
        ap (λ b. b && (has_twin u r.name || not (are_past u r.name))) image
            ∙ still_named (are_past t r.name) (has_twin u r.name) (has_twin t r.name) (are_past u r.name) (twin_same r.name) right (e.past r.name image (ap is_some here)),
        was.1,
      )

  -- ---- the numbers of base images

  past_uuid : (n : Name) → is_image_name n ≡ true → is_there u n ≡ true → is_past t.sequence (image_uuid n) ≡ true → is_past u.sequence (image_uuid n) ≡ true
  unfolding is_image_name image_uuid
  past_uuid (Vhd v) image there past = past_parts u.sequence v (e.past (Vhd v) refl there (past_pair (is_past t.sequence v) past))
  past_uuid (Raw v) image there past = past_parts u.sequence v (e.past (Raw v) refl there (past_pair (is_past t.sequence v) past))
  past_uuid _ image there past = absurd (true≢false (sym image))

  bases : IsWellFormed (shape_in s t m) → (i : ImageRow) (n : ℕ) → In i (shape_in s t m).images → n < 2 ^ 48 → image_uuid i.name ≡ base_uuid n → n < u.sequence
  unfolding shape_in
  bases w i n there fits is =
      let x = In-map machine_row m.rows i there in
      let r = x.0 in
      let name : i.name ≡ row_name r = ap (λ (y : ImageRow). y.name) x.2 in
      let image = named_row s t m r o x.1 in
      let v = volume_there s t m r o (image_named (row_name r) image) (tree_found m.rows r w.one_image x.1) in
      let uuid : image_uuid (row_name r) ≡ base_uuid n = sym (ap image_uuid name) ∙ is in
      past_base u.sequence n fits (subst (λ y. is_past u.sequence y ≡ true) uuid
      (past_uuid (row_name r) image (there_same (row_name r) (image_named (row_name r) image) ∙ ap is_some v.there)
      (subst (λ y. is_past t.sequence y ≡ true) (sym uuid) (base_past t.sequence n fits (w.bases i n there fits is)))))

  -- ---- memory is orderly

  module _ (x : Op) (entries : names_in u is_entry ≡ entry_of x) (works : IsWellFormed (shape_in s t m) → IsOperation (shape_in s t m) x) (roomy : IsRoomyIn (shape_in s t m) x) where
    pub orderly_entry : IsOrderly s u (record m { op = x })
    unfolding shape_in
    orderly_entry = record {
      table = e.table;
      few_extents = o.few_extents;
      record_volume = ap (λ v. length (extents_of v)) (e.same Mgt refl) ∙ o.record_volume;
      few = omega (arith, as_many is_image s.count u t e.table o.table image_row, o.few);
      new_named = named;
      images = λ n image. ap row_face (image_row n image) ∙ o.images n image;
      logs = λ d. ap row_face (e.same (Cbt d) refl) ∙ o.logs d;
      few_logs = o.few_logs;
      logs_in_order = o.logs_in_order;
      log_room = o.log_room;
      places = o.places;
      entries = entries;
      stands = o.stands;
      well_formed = ∥∥₁_map o.well_formed (λ w. well_as (shape_in s t m) u.sequence x (omega (arith, e.table.sequence)) (bases w) (works w) w);
      roomy = roomy_as (shape_in s t m) u.sequence x x roomy;
      counts = λ n. o.counts n ∙ sym (refs_as (shape_in s t m) u.sequence x n);
    }

-- no volume is new, and no record is stray
pub tidy_entry : (s : Site) (t u : VolumeTable) (m : Known) (x : Op) → IsReentered s t u → IsTidy t m → IsTidy u (record m { op = x })
tidy_entry s t u m x e tidy = record { none_new = λ r i. by r i r.fresh refl; no_stray = tidy.no_stray }
  where
    by : (r : Row) → In r u.volumes → (b : Bool) → r.fresh ≡ b → r.fresh ≡ false
    by r i false is = is
    by r i true is =
        let other = fresh_no_entry r (All-In IsVolume u.volumes r e.table.volumes.each i) is in
        tidy.none_new r (row_of-In t.volumes r.name r (sym (e.same r.name other) ∙ found_in u.volumes e.table.volumes.rising r i)).0

-- ---- what is held

-- the volumes of images and of the records have the same extents, and those of logs are the same
pub record HasSameExtents (t u : VolumeTable) (m : Known) : Type 0 where
  pub images : (r : TreeRow) → In r m.rows → extents_of (rows u (row_name r)) ≡ extents_of (rows t (row_name r))
  pub records : extents_of (rows u Mgt) ≡ extents_of (rows t Mgt)
  pub logs : (v : List ℕ) → rows u (Cbt v) ≡ rows t (Cbt v)
  pub among : (v : List ℕ) (r : Row) → In r u.volumes → r.name ≡ Cbt v → In r t.volumes

pub extents_entry : (s : Site) (t u : VolumeTable) (m : Known) → IsOrderly s t m → IsReentered s t u → HasSameExtents t u m
extents_entry s t u m o e = record {
  images = λ r i. ap extents_of (e.same (row_name r) (image-no_entry (row_name r) (image_named (row_name r) (named_row s t m r o i))));
  records = ap extents_of (e.same Mgt refl);
  logs = λ v. e.same (Cbt v) refl;
  among = λ v r i named. (row_of-In t.volumes (Cbt v) r (sym (e.same (Cbt v) refl) ∙ ap (rows u) (sym named) ∙ found_in u.volumes e.table.volumes.rising r i)).0;
}

module _ (s : Site) (t u : VolumeTable) (m : Known) (x : Op) (h : HasSameExtents t u m) where
  -- the logs on an area are the same
  logs_entry : (image : ℕ → List ℕ) (v : List ℕ) → log_at (content_in s u image) v ≡ log_at (content_in s t image) v
  unfolding log_at sectors_of
  logs_entry image v = ap (λ (o : Option Row). o >>= (λ r. cond r.fresh None (log_read v (length r.extents) (piece s.geometry.extent (extents_of o) image)))) (h.logs v)

  logged_entry : (image : ℕ → List ℕ) → IsLogged (content_in s t image) m.logs → IsLogged (content_in s u image) m.logs
  logged_entry image logged v = record { read = logs_entry image v ∙ (logged v).read; there = λ r i named full. (logged v).there r (h.among v r i named) named full }

  -- what is ready is so under the other table, on the same area
  pub ready_entry : (area : Held) → IsReady s t area m → IsBelow (content_now s u area) x → IsReady s u area (record m { op = x })
  unfolding shape_in
  ready_entry area ready below = record {
    firm = record {
      images = λ r i. subst (λ es. IsSteady s.geometry (r.extents * s.geometry.extent) (volume s.geometry.extent es area) r.image) (sym (h.images r i)) (ready.firm.images r i);
      quiet = λ r i unwritten. subst (λ es. IsQuiet (volume s.geometry.extent es area)) (sym (h.images r i))
          (ready.firm.quiet r i (sym (written_as (shape_in s t m) u.sequence x (row_name r)) ∙ unwritten));
      below = below;
    };
    records = subst (λ es. Agrees (volume s.geometry.extent es area) m.places) (sym h.records) ready.records;
    recorded = subst (λ es. IsQuiet (volume s.geometry.extent es area)) (sym h.records) ready.recorded;
    logs = logged_entry (reads area) ready.logs;
    logged = λ v. subst (λ es. IsQuiet (volume s.geometry.extent es area)) (sym (ap extents_of (h.logs v))) (ready.logged v);
  }

  -- and on what a read gave, with nothing pending
  pub ready_rested : (old : Held) → IsReady s t old m → IsBelow (content_now s u (at_rest (reads old))) x → IsReady s u (at_rest (reads old)) (record m { op = x })
  ready_rested old ready below = ready_rest s t u old m (record m { op = x }) ready (λ r i. record { row = r; there = i; image = refl; extents = refl; same = h.images r i }) h.records refl
      (logged_entry (reads old) ready.logs) (volume_rested s u (reads old)) below

-- ---- what is shown

module _ (s : Site) (t u : VolumeTable) (m n : Known) (image : ℕ → List ℕ) (o : IsOrderly s t m) (q : IsOrderly s u n) (same : (k : Name) → is_entry k ≡ false → rows u k ≡ rows t k) where
  abbrev was : Content
  was = content_in s t image

  abbrev now : Content
  now = content_in s u image

  sector_entry : (k : Name) → is_entry k ≡ false → (p : ℕ) → sectors_of now k p ≡ sectors_of was k p
  unfolding sectors_of
  sector_entry k none p = ap (λ r. piece s.geometry.extent (extents_of r) image p) (same k none)

  volume_same : (k : Name) (r : Row) → is_entry k ≡ false → rows t k ≡ Some r → IsSameVolume was now k k r r
  volume_same k r none is = record {
    extent = refl;
    block = refl;
    entries = refl;
    before = is;
    after = same k none ∙ is;
    extents = refl;
    fresh = refl;
    sectors = λ p _. sector_entry k none p;
  }

  image_by : (k : Name) (r : Option Row) → is_entry k ≡ false → rows t k ≡ r → image_of now k ≡ image_of was k
  unfolding image_of
  image_by k None none is = gone was now k is (same k none ∙ is)
  image_by (Vhd v) (Some r) none is = vhd_same was now v v r r (geometry_of s t m o) (volume_same (Vhd v) r refl is) (whole s t m (Vhd v) o) (whole s u n (Vhd v) q)
  image_by (Raw v) (Some r) none is = raw_same was now v v r r (volume_same (Raw v) r refl is)
  image_by _ (Some r) none is = refl

  -- each image is the same
  pub image_entry : (k : Name) → image_of now k ≡ image_of was k
  unfolding image_of
  image_entry (Vhd v) = image_by (Vhd v) (rows t (Vhd v)) refl refl
  image_entry (Raw v) = image_by (Raw v) (rows t (Raw v)) refl refl
  image_entry _ = refl

  record_entry : (v : List ℕ) → record_of now v ≡ record_of was v
  record_entry v = record_of_first now v ∙ ap first_of (records_same was now v (λ k below. ap reading (sector_entry Mgt refl k))) ∙ sym (record_of_first was v)

  visible_entry : (k : Name) → is_entry k ≡ false → is_visible u k ≡ is_visible t k
  visible_entry k none = ap (of_row (λ r. not r.hidden && not r.fresh)) (same k none)

  stands_entry : (v : List ℕ) → standing_volume u v ≡ standing_volume t v
  stands_entry v =
      plainly_stands s u n v q
      ∙ ap₂ (λ (a b : Bool). cond a (Some (Vhd v)) (cond b (Some (Raw v)) None)) (visible_entry (Vhd v) refl) (visible_entry (Raw v) refl)
      ∙ sym (plainly_stands s t m v o)

  -- and so are the disks
  pub disks_entry : disks now ≡ disks was
  disks_entry = disks_as was now stands_entry image_entry record_entry
