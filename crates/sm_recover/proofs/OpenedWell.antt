-- Memory as an opening begins with it, beside the table without a fork or an enlargement: orderly, told or not; and ready, where
-- each slot holds a sector.
use Rattle.std.proofs.Common.{◌≡◌, ◌≢◌, ℕ, ◌*◌, ◌<◌, ◌≤◌, Bool, true, false, not, ◌&&◌, ◌||◌, List, [], length, map, filter, Option, Some, is_some, refl, sym, ap, ap₂, ◌∙◌, subst, subst₂, arith}
use Rattle.std.proofs.lemmas.Bool.{true≢false}
use Rattle.std.proofs.Math.Nat.{mul_assoc, le-mul_of_pos_right, le_of_mul-le-mul_right}
use Rattle.sm_base.specs.Kinds.{is_image, is_log}
use Rattle.sm_base.specs.declared.names.Name.{Name}
use Rattle.sm_base.specs.declared.names.Name.TheVariants.{Mgt, Vhd, Raw, Old, Cbt, Clone, Inflate, Coalesce, Relink, Leaf}
use Rattle.sm_machine.specs.Operations.{Idle}
use Rattle.sm_base.specs.declared.sizes.Geometry.{Geometry}
use Rattle.sm_disk.specs.Held.{Held, IsSettled, reads}
use Rattle.vg_meta.specs.Tables.{VolumeTable, Row, IsVolume, extents_of, rows}
use Rattle.vg_volumes.specs.Sites.{Site, volume_of}
use Rattle.vg_volumes.specs.Stored.{held_in, sectors_in}
use Rattle.vg_volumes.specs.Volumes.{volume}
use Rattle.vg_volumes.specs.declared.stores.Store.{Ghosts}
use Rattle.common_laws.specs.Lists.{In}
use Rattle.sm_machine.specs.Shapes.{image_uuid, is_vhd, chain_limit}
use Rattle.sm_machine.specs.WellFormed.{IsImageRow, EndsWithin, HasParent, is_image_name, table_length}
use Rattle.sm_record.specs.declared.records.Record.{Record}
use Rattle.sm_mgt.specs.Places.{Agrees, records_held, is_of, place_count}
use Rattle.sm_refs.specs.Attached.{Attached}
use Rattle.sm_standing.specs.Checks.{is_misnamed}
use Rattle.sm_standing.specs.Entries.{is_visible}
use Rattle.sm_standing.specs.Plain.{is_plain, is_plain_name}
use Rattle.sm_standing.specs.Standing.{standing_volume}
use Rattle.sm_standing.proofs.PlainDisks.{all-In}
use Rattle.sm_standing.proofs.PlainKept.{plain_simple_name, simple_known_name}
use Rattle.sm_standing.specs.Keeping.{HasNoEmptySlot, IsHolding}
use Rattle.sm_standing.specs.Opened.{undone}
use Rattle.vhd_layout.specs.Contents.{content_at}
use Rattle.vhd_volumes.specs.declared.heads.Head.{Head}
use Rattle.vhd_volumes.specs.Truth.{IsStanding}
use Rattle.vhd_image.specs.Opened.{ReadsAsImage}
use Rattle.vhd_chain.specs.Reading.{AllAreTrue}
use Rattle.vhd_chain.specs.Trees.{row_name}
use Rattle.vhd_chain.specs.declared.rows.TreeRow.{TreeRow}
use Rattle.vhd_image.specs.Bodies.{StandsIn, TrueIn, parent_name, volume_name}
use Rattle.vhd_image.specs.Steady.{IsSteady}
use Rattle.vhd_image.specs.declared.images.Body.{Body}
use Rattle.vhd_image.specs.declared.images.Body.TheVariants as body
use Rattle.vhd_image.proofs.SteadyLaws.{steady_quiet, true_quiet}
use Rattle.sm_log.specs.Logs.{Log}
use Rattle.sm_logs.specs.Held.{log_limit}
use Rattle.sm_standing.specs.Logs.{IsLogged}
use Rattle.sm_ready.specs.Known.{Known, machine_row, shape_in}
use Rattle.sm_ready.specs.Orderly.{HasLogRoom, IsOrderly}
use Rattle.sm_ready.specs.Ready.{IsReady}
use Rattle.sm_ready.specs.Stores.{content_now}
use Rattle.sm_ready.proofs.BegunLaws.{IsRead, begun_with, begun_orderly, begun_ready}
use Rattle.sm_ready.proofs.LogRead.{AreLogsOf, among_all, among_are, among_from, log_among}
use Rattle.sm_ready.proofs.LogRows.{log-no_image}
use Rattle.sm_ready.proofs.NewVolumeLaws.{not_records}
use Rattle.sm_ready.proofs.NumberLaws.{whole_blocks}
use Rattle.sm_ready.proofs.RepairLaws.{all_quiet}
use Rattle.sm_ready.proofs.RowLaws.{All-In, found_in}
use Rattle.sm_checks.specs.Loaded.{AreRowsOf, HasEachRow, IsReadAs, row_among, shortened, stored_with}
use Rattle.sm_recover.specs.Repairs.{IsChecked, IsUndoable}
use Rattle.sm_checks.proofs.DiskLaws.{own_plain, visible_row}
use Rattle.sm_recover.proofs.UndoTables.{staged}
use Rattle.sm_checks.proofs.FoundLaws.{image_short, sectors_by, valid_there}
use Rattle.sm_checks.proofs.TableLaws.{short_sized}
use Rattle.sm_recover.proofs.UndoneLaws.{records_undone, undone_checked}
use Rattle.sm_recover.proofs.HoldingLaws.{holds_each}
use Rattle.sm_checks.proofs.LoadedLaws.{named_data, read_each, read_from, read_row}
use Rattle.sm_checks.proofs.ReadLaws.{image_named, some_extents}
use Rattle.sm_recover.proofs.RemovalLaws.{no_entry}

-- ---- a raw image is a whole number of blocks

size_whole : (extent block entries long m : ℕ) → extent ≡ m * block → block ≤ extent → 0 < block → 0 < long → long * extent ≤ entries * block
    → (blocks : ℕ) × (long * extent ≡ blocks * block) × (0 < blocks) × (blocks ≤ entries)
size_whole extent block entries long m is within some_block some_long fits =
    let same : long * extent ≡ long * m * block = ap (λ n. long * n) is ∙ sym (mul_assoc long m block) in
    let once : 1 ≤ m = le_of_mul-le-mul_right (omega (arith, within, is)) some_block in
    let more : long ≤ long * m = le-mul_of_pos_right long once in
    (long * m, same, omega (arith, more, some_long), le_of_mul-le-mul_right (omega (arith, fits, same)) some_block)

-- ---- an image that was read

plain_image : (n : Name) → is_plain_name n ≡ true → is_log n ≡ false → n ≢ Mgt → is_image_name n ≡ true
unfolding is_image_name
plain_image Mgt h no_log other = absurd (other refl)
plain_image (Vhd u) h no_log other = refl
plain_image (Raw u) h no_log other = refl
plain_image (Cbt u) h no_log other = absurd (true≢false no_log)
plain_image _ h no_log other = absurd (true≢false (sym h))

abbrev pub row_by : Body → Bool → ℕ → TreeRow
row_by image hidden k = record { image = image; hidden = hidden; extents = k }

module _ (told : Type 0) (s : Site) (t : VolumeTable) (m : Known) (h : Held) where
  -- it is proper
  pub row_proper : (n : Name) (image : Body) (hidden : Bool) (k : ℕ) → IsReadAs told s.geometry (k * s.geometry.extent) h n image → 0 < k → volume_name image ≡ n → IsImageRow (shape_in s t m) (machine_row (row_by image hidden k))
  unfolding shape_in is_image_name table_length is_vhd
  row_proper (Raw u) image hidden k read some named =
      let g = s.geometry.in_range in
      let blocks = whole_blocks s.geometry.extent s.geometry.block g.extent_power g.block_power g.within in
      subst (λ y. IsImageRow (shape_in s t m) (machine_row (row_by y hidden k))) (sym read.is) (record {
        named = refl;
        whole = size_whole s.geometry.extent s.geometry.block s.geometry.entries k blocks.0 blocks.1 g.within (omega (arith, g.block_least)) some read.fits;
        volume = some;
        table = refl;
        raw = λ none. (refl, refl);
      })
  row_proper (Vhd u) (body.Raw volume size) hidden k read some named = absurd read.vhd
  row_proper (Vhd u) (body.Vhd head slots) hidden k read some named = record {
    named = ap is_image_name named;
    whole = (_, omega (arith, read.stands.size), read.stands.least, read.stands.most);
    volume = some;
    table = read.stands.entries ∙ sym (ap (table_length (shape_in s t m)) named);
    raw = λ none. absurd (true≢false (sym (ap is_vhd named) ∙ none));
  }
  row_proper Mgt image hidden k read some named = absurd read
  row_proper (Old u) image hidden k read some named = absurd read
  row_proper (Cbt u) image hidden k read some named = absurd read
  row_proper (Clone d b w) image hidden k read some named = absurd read
  row_proper (Inflate u e) image hidden k read some named = absurd read
  row_proper (Coalesce a p) image hidden k read some named = absurd read
  row_proper (Relink a p) image hidden k read some named = absurd read
  row_proper (Leaf l p) image hidden k read some named = absurd read

-- it stands in its volume
row_stands : (told : Type 0) (g : Geometry) (h : Held) (n : Name) (image : Body) (sectors : ℕ) → IsReadAs told g sectors h n image → StandsIn g sectors image
row_stands told g h (Raw u) image sectors read = subst (StandsIn g sectors) (sym read.is) (omega arith)
row_stands told g h (Vhd u) image sectors read = read.stands
row_stands told g h Mgt image sectors read = absurd read
row_stands told g h (Old u) image sectors read = absurd read
row_stands told g h (Cbt u) image sectors read = absurd read
row_stands told g h (Clone d b w) image sectors read = absurd read
row_stands told g h (Inflate u e) image sectors read = absurd read
row_stands told g h (Coalesce a p) image sectors read = absurd read
row_stands told g h (Relink a p) image sectors read = absurd read
row_stands told g h (Leaf l p) image sectors read = absurd read

-- its UUID is a disk, where it is visible
uuid_shown : (t : VolumeTable) (n : Name) (is_disk : (u : List ℕ) → is_some (standing_volume t u) ≡ (is_visible t (Vhd u) || is_visible t (Raw u))) → is_image_name n ≡ true → is_visible t n ≡ true
    → is_some (standing_volume t (image_uuid n)) ≡ true
unfolding image_uuid is_image_name
uuid_shown t (Vhd u) is_disk image visible = is_disk u ∙ ap (λ b. b || is_visible t (Raw u)) visible
uuid_shown t (Raw u) is_disk image visible = is_disk u ∙ ap (λ b. is_visible t (Vhd u) || b) visible ∙ or_true (is_visible t (Vhd u))
  where
    or_true : (b : Bool) → (b || true) ≡ true
    or_true true = refl
    or_true false = refl
uuid_shown t _ is_disk image visible = absurd (true≢false (sym image))

-- ---- memory beside the table without a fork or an enlargement

-- what is known of the rows in memory and of the places beside that table
pub record IsBeside {S : Type 0} (g : Ghosts S) (store : S) (was : VolumeTable) (ys : List TreeRow) (places : List (Option Record)) : Type 0 where
  pub are : AreRowsOf (undone was).volumes ys
  pub each : HasEachRow g.told (stored_with g store (undone was)) (undone was).volumes ys
  pub named : (r : Row) → In r (undone was).volumes → is_misnamed (undone was) r ≡ false
  pub parents : (x : TreeRow) (p : Name) → In x ys → parent_name x.image ≡ Some p → HasParent (map machine_row ys) (machine_row x) p
  pub chains : (x : TreeRow) → In x ys → EndsWithin chain_limit (Some (row_name x)) (map machine_row ys)
  pub recorded : (u : List ℕ) → is_some (standing_volume (undone was) u) ≡ true → length (filter (is_of u) places) ≡ 1
  -- each VHD image of it stood before in as many extents
  pub source : (u : List ℕ) (r : Row) → rows (undone was) (Vhd u) ≡ Some r → r.fresh ≡ false
      → (v : List ℕ) × (q : Row) × (rows (shortened was) (Vhd v) ≡ Some q) × (q.fresh ≡ false) × (q.extents ≡ r.extents)

module _ {S : Type 0} (g : Ghosts S) (store : S) (xs : List TreeRow) (places : List (Option Record)) {was : VolumeTable} (c : IsUndoable (g.site store) was) (k : IsBeside g store was xs places) where
  abbrev s : Site
  s = g.site store

  -- the table without a fork or an enlargement
  abbrev t : VolumeTable
  t = undone was

  d : IsChecked s t
  d = undone_checked c

  are : AreRowsOf t.volumes xs
  are = k.are

  each : HasEachRow g.told (stored_with g store (undone was)) t.volumes xs
  each = k.each

  plain_at : (r : Row) → In r t.volumes → is_plain r ≡ true
  plain_at r i = all-In (λ (x : Row). is_plain x ≡ true) t.volumes r d.plain i

  image_no_log : (r : Row) → is_image r.name ≡ true → is_log r.name ≡ false
  image_no_log r image = by (is_log r.name) refl
    where
      by : (b : Bool) → is_log r.name ≡ b → b ≡ false
      by false e = refl
      by true e = absurd (true≢false (sym image ∙ log-no_image r.name e))

  records_same : rows t Mgt ≡ rows was Mgt
  records_same = records_undone c

  module _ (long : length places ≡ place_count) (ls : List Log) (logs : AreLogsOf t ls) (few_logs : length ls ≤ log_limit) (log_room : (l : Log) → In l ls → HasLogRoom s.geometry.extent l) where
    -- no log is new
    new_no_log : (r : Row) → In r t.volumes → r.fresh ≡ true → is_log r.name ≡ false
    new_no_log r i new = by (is_log r.name) refl
      where
        by : (b : Bool) → is_log r.name ≡ b → b ≡ false
        by false e = refl
        by true e = let l = among_all s.count t ls d.table logs r i e in absurd (true≢false (sym new ∙ (among_from ls r l.0 l.1).filled))

    -- ---- each row

    proper : (room : ℕ) (x : TreeRow) → In x xs → IsImageRow (shape_in s t (begun_with xs places ls room)) (machine_row x)
    proper room x i =
        let w = read_row are each x i in
        subst (λ k. IsImageRow (shape_in s t (begun_with xs places ls room)) (machine_row (row_by x.image x.hidden k))) (sym w.row.extents)
        (row_proper g.told s t (begun_with xs places ls room) (held_in (stored_with g store (undone was)) w.volume.name) w.volume.name x.image x.hidden (length w.volume.extents) w.row.image
        (some_extents w.volume (All-In IsVolume t.volumes w.volume d.table.volumes.each w.there).kind (named_data w.volume.name w.filled.image)) w.row.named)

    shown : (x : TreeRow) → In x xs → x.hidden ≡ false → is_some (standing_volume t (image_uuid (row_name x))) ≡ true
    shown x i visible =
        let w = read_row are each x i in
        let there = found_in t.volumes d.table.volumes.rising w.volume w.there in
        let hidden : w.volume.hidden ≡ false = sym w.row.hidden ∙ visible in
        subst (λ n. is_some (standing_volume t (image_uuid n)) ≡ true) (sym w.row.named)
        (uuid_shown t w.volume.name (own_plain t d.plain) (image_named w.volume.name (simple_known_name w.volume.name (plain_simple_name w.volume.name (plain_at w.volume w.there))) (named_data w.volume.name w.filled.image))
        (visible_row t w.volume.name w.volume there ∙ ap₂ (λ h d. not h && not d) hidden w.filled.filled))

    pub read : IsRead s t (row_among xs) xs places (log_among ls) ls
    read = record {
      rows_are = are;
      table = d.table;
      few_extents = d.few_extents;
      record_volume = d.record_volume;
      few = d.few_images;
      named = k.named;
      new_image = λ r i new. plain_image r.name (plain_at r i) (new_no_log r i new) (not_records d.table (r, found_in t.volumes d.table.volumes.rising r i, new));
      no_entry = no_entry t d.plain;
      logs_are = among_are s.count t ls d.table logs;
      log_from = among_from ls;
      log_all = among_all s.count t ls d.table logs;
      few_logs = few_logs;
      logs_in_order = logs.order;
      log_room = log_room;
      from = read_from xs;
      all = λ r i image filled. read_each t.volumes xs each r i (plain_image r.name (plain_at r i) (image_no_log r image) (λ is. true≢false (sym image ∙ ap is_image is))) filled;
      proper = proper;
      parents = k.parents;
      chains = k.chains;
      stands = λ x i.
          let w = read_row are each x i in
          subst (λ k. StandsIn s.geometry (k * s.geometry.extent) x.image) (sym w.row.extents) (row_stands g.told s.geometry (held_in (stored_with g store (undone was)) w.volume.name) w.volume.name x.image (length w.volume.extents * s.geometry.extent) w.row.image);
      long = long;
      shown = shown;
      recorded = k.recorded;
    }

    -- memory as an opening has made it by then
    pub opened_with : (attached : Attached) → attached.disks ≡ [] → attached.counts ≡ [] → IsOrderly s t (record { rows = xs; places = places; logs = ls; attached = attached; op = Idle })
    opened_with attached disks counts =
        subst (IsOrderly s t) (λ i. record { rows = xs; places = places; logs = ls; attached = record { disks = sym disks i; counts = sym counts i; room = attached.room }; op = Idle })
        (begun_orderly read attached.room)

  -- ---- and ready, where nothing is pending, no slot is empty, and the places are those of the store

  module _ (told : g.told) (settled : IsSettled (g.area store)) (holding : HasNoEmptySlot (content_now s was (g.area store))) where
    -- each of its slots holds a sector, as it did before
    held_before : (u : List ℕ) (r : Row) → rows t (Vhd u) ≡ Some r → r.fresh ≡ false → (head : Head) (m : List (Option ℕ)) → IsStanding s.geometry (sectors_by s r) head m
        → ReadsAsImage s.geometry (sectors_by s r) (held_in (stored_with g store (undone was)) (Vhd u)) head m
        → IsHolding s.geometry.block (content_at s.geometry.block s.geometry.entries (sectors_by s r) (reads (held_in (stored_with g store (undone was)) (Vhd u))))
    held_before u r there filled head m stands gives =
        let q = k.source u r there filled in
        let short = shortened was in
        let long : sectors_by s q.1 ≡ sectors_by s r = ap (λ (es : List ℕ). length es * s.geometry.extent) q.4 in
        let same : volume_of s short (g.area store) (Vhd q.0) ≡ volume_of s t (g.area store) (Vhd u) =
        ap (λ o. volume s.geometry.extent (extents_of o) (g.area store)) q.2 ∙ ap (λ es. volume s.geometry.extent es (g.area store)) q.4 ∙ sym (ap (λ o. volume s.geometry.extent (extents_of o) (g.area store)) there) in
        subst₂ (λ n h. IsHolding s.geometry.block (content_at s.geometry.block s.geometry.entries n (reads h))) long same
        (holding q.0 _ (sym (image_short s was (g.area store) (staged c) (Vhd q.0))
        ∙ valid_there s short (g.area store) q.0 q.1 (short_sized (staged c)) q.2 q.3 head m (subst (λ n. IsStanding s.geometry n head m) (sym long) stands)
        (subst₂ (λ n h. ReadsAsImage s.geometry n h head m) (sym long) (sym same) gives)))

    steady_named : (r : Row) (n : Name) (image : Body) → rows t n ≡ Some r → r.fresh ≡ false → IsReadAs g.told s.geometry (sectors_by s r) (held_in (stored_with g store (undone was)) n) n image
        → IsSteady s.geometry (sectors_by s r) (held_in (stored_with g store (undone was)) n) image
    steady_named r (Raw u) image there filled read = subst (IsSteady s.geometry (sectors_by s r) (held_in (stored_with g store (undone was)) (Raw u))) (sym read.is) refl
    steady_named r (Vhd u) (body.Raw volume size) there filled read = absurd read.vhd
    steady_named r (Vhd u) (body.Vhd head m) there filled read =
        steady_quiet s.geometry (sectors_by s r) head m s.geometry.in_range (held_in (stored_with g store (undone was)) (Vhd u)) (all_quiet s t (g.area store) settled (Vhd u)) (read.gives told)
        (holds_each s.geometry.block s.geometry.entries (sectors_by s r) (reads (held_in (stored_with g store (undone was)) (Vhd u)))
        (held_before u r there filled head m read.stands (read.gives told)))
    steady_named r Mgt image there filled read = absurd read
    steady_named r (Old u) image there filled read = absurd read
    steady_named r (Cbt u) image there filled read = absurd read
    steady_named r (Clone d b w) image there filled read = absurd read
    steady_named r (Inflate u e) image there filled read = absurd read
    steady_named r (Coalesce a p) image there filled read = absurd read
    steady_named r (Relink a p) image there filled read = absurd read
    steady_named r (Leaf l p) image there filled read = absurd read

    steady : (x : TreeRow) → In x xs → IsSteady s.geometry (x.extents * s.geometry.extent) (volume_of s t (g.area store) (row_name x)) x.image
    steady x i =
        let w = read_row are each x i in
        subst₂ (λ k n. IsSteady s.geometry (k * s.geometry.extent) (volume_of s t (g.area store) n) x.image) (sym w.row.extents) (sym w.row.named)
        (steady_named w.volume w.volume.name x.image (found_in t.volumes d.table.volumes.rising w.volume w.there) w.filled.filled w.row.image)

    pub opened_ready : (ls : List Log) (attached : Attached) → Agrees (records_held s was (g.area store)) places → IsLogged (content_now s t (g.area store)) ls
        → IsReady s t (g.area store) (record { rows = xs; places = places; logs = ls; attached = attached; op = Idle })
    opened_ready ls attached agrees logged =
        begun_ready s t (g.area store) _ steady settled
        (subst (λ o. Agrees (volume s.geometry.extent (extents_of o) (g.area store)) places) (sym records_same) agrees)
        logged refl

  -- ---- and true, where nothing is pending: a sector in each slot is not asked

  module _ (told : g.told) (settled : IsSettled (g.area store)) where
    true_named : (r : Row) (n : Name) (image : Body) → IsReadAs g.told s.geometry (sectors_by s r) (held_in (stored_with g store (undone was)) n) n image → TrueIn s.geometry (sectors_by s r) (held_in (stored_with g store (undone was)) n) image
    true_named r (Raw u) image read = subst (TrueIn s.geometry (sectors_by s r) (held_in (stored_with g store (undone was)) (Raw u))) (sym read.is) tt
    true_named r (Vhd u) (body.Raw volume size) read = absurd read.vhd
    true_named r (Vhd u) (body.Vhd head m) read =
        true_quiet s.geometry (sectors_by s r) head m s.geometry.in_range (held_in (stored_with g store (undone was)) (Vhd u)) (all_quiet s t (g.area store) settled (Vhd u)) (read.gives told)
    true_named r Mgt image read = absurd read
    true_named r (Old u) image read = absurd read
    true_named r (Cbt u) image read = absurd read
    true_named r (Clone d b w) image read = absurd read
    true_named r (Inflate u e) image read = absurd read
    true_named r (Coalesce a p) image read = absurd read
    true_named r (Relink a p) image read = absurd read
    true_named r (Leaf l p) image read = absurd read

    pub opened_true : AllAreTrue (stored_with g store (undone was)) xs
    opened_true x i =
        let w = read_row are each x i in
        let size : sectors_in (stored_with g store (undone was)) w.volume.name ≡ sectors_by s w.volume = ap (λ o. length (extents_of o) * s.geometry.extent) (found_in t.volumes d.table.volumes.rising w.volume w.there) in
        subst₂ (λ k n. TrueIn s.geometry k (held_in (stored_with g store (undone was)) n) x.image) (sym (ap (sectors_in (stored_with g store (undone was))) w.row.named ∙ size)) (sym w.row.named)
        (true_named w.volume w.volume.name x.image w.row.image)
