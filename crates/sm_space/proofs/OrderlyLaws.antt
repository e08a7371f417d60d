-- What the three commits ask of the table, and what holds of table and memory behind them.
use Rattle.std.proofs.Common.{◌≡◌, ◌≢◌, ⊎_elim, ℕ, ◌+◌, ◌*◌, ◌^◌, ◌<◌, ◌≤◌, max, Bool, true, false, List, [], length, map, filter, Option, Some, None, refl, sym, ap, ap₂, ◌∙◌, subst, arith}
use Rattle.std.specs.List.{AllByRecursion, IsDistinct}
use Rattle.std.proofs.Math.Logic.{∥∥₁_map}
use Rattle.std.proofs.Math.Nat.{mul-le-mul_right}
use Rattle.std.proofs.lemmas.Bool.{true≢false}
use Rattle.std.proofs.lemmas.List.{length-append}
use Rattle.sm_base.specs.Kinds.{is_image, is_entry, is_log}
use Rattle.sm_base.specs.Names.{IsName, IsUuid}
use Rattle.sm_base.specs.declared.names.Name.{Name}
use Rattle.sm_base.specs.declared.names.Name.TheVariants.{Mgt, Vhd, Cbt, Inflate}
use Rattle.sm_machine.specs.Operations.{Op}
use Rattle.sm_machine.specs.Operations as op
use Rattle.sm_base.specs.declared.sizes.Geometry.{Geometry}
use Rattle.vg_meta.specs.Tables.{Row, VolumeTable, IsTable, extents_of, is_one_of, names_of, row_of, rows, free as free_of}
use Rattle.vg_meta.specs.Changes.{AreFree, Permits, applied, grown, made, with_row}
use Rattle.vg_meta.specs.declared.changes.Change.TheVariants.{Create, Grow, Remove}
use Rattle.vg_meta.specs.Text.{text}
use Rattle.vg_meta.proofs.ChangeLaws.{IsTable-applied}
use Rattle.vg_meta.proofs.DecodeLaws.{used-le}
use Rattle.vg_meta.proofs.NameLaws.{name_eq-true}
use Rattle.vg_meta.proofs.RowLaws.{names_of-with_row, row_of-put_other, row_of-put_same, row_of-with_row_other, row_of-with_row_same}
use Rattle.vg_volumes.specs.Sites.{Site, Fits, size_of, text_limit}
use Rattle.vg_volumes.specs.Volumes.{span}
use Rattle.vhd_image.specs.Bodies.{StandsIn}
use Rattle.vhd_image.proofs.MakingLaws.{extents-le}
use Rattle.vhd_image.specs.declared.images.Body.{Body}
use Rattle.vhd_image.specs.declared.images.Body.TheVariants as body
use Rattle.vhd_chain.specs.Trees.{row_name, tree_row}
use Rattle.vhd_chain.specs.declared.rows.TreeRow.{TreeRow}
use Rattle.common_laws.specs.Lists.{In, when}
use Rattle.common_laws.proofs.Lists.{In-map, In-map_at, filter-In}
use Rattle.sm_machine.specs.Collector.{count_either}
use Rattle.sm_machine.specs.Laws.{IsSeenAlike, MayHave}
use Rattle.sm_machine.specs.Shapes.{ImageRow, Shape, is_image as is_image_in, is_there, is_vhd, on_image, refs, risen, slot_at, thin_in, top}
use Rattle.sm_machine.specs.WellFormed.{IsOperation, IsWellFormed}
use Rattle.sm_machine.proofs.Changes.{when-key}
use Rattle.sm_machine.proofs.Mapped.{operation_mapped}
use Rattle.sm_machine.proofs.Moments.{extents_keep}
use Rattle.sm_machine.proofs.ImageNames.{same_image-sound}
use Rattle.sm_machine.proofs.Uses.{changed_uses}
use Rattle.sm_standing.specs.Checks.{images as table_images}
use Rattle.sm_standing.specs.Entries.{is_making, names_in}
use Rattle.sm_standing.proofs.DisksShown.{row_of-In}
use Rattle.sm_ready.specs.Known.{Face, Known, entry_of, machine_row, records_in, row_face, shape_in, shown_places, tree_face}
use Rattle.sm_ready.specs.Orderly.{IsOrderly, IsRoomyFor, IsRoomyIn}
use Rattle.sm_ready.specs.Ready.{IsTidy}
use Rattle.sm_ready.proofs.FitLaws.{fits_entries}
use Rattle.sm_ready.proofs.FreshLaws.{raised_well, refs_raised}
use Rattle.sm_ready.proofs.LogRows.{few_log_rows, image_apart}
use Rattle.sm_ready.proofs.Orders.{filled_face, none_making}
use Rattle.sm_ready.proofs.SumLaws.{free_counted}
use Rattle.sm_space.specs.Inflating.{inflated, with_extents}
use Rattle.sm_space.proofs.OwnLaws as owned
use Rattle.sm_space.proofs.OwnLaws.{IsOwn, named_or_not}
use Rattle.sm_space.proofs.SizedLaws.{In-turned, IsTurned, images_turned, places_turned, shown_turned, sized, turned_other, turned_same}
use Rattle.gc_abandon.proofs.EntryLaws.{counted}
use Rattle.sm_space.proofs.TableLaws.{In-with_row, changed_between, extents_put, named_put}

-- the volume of a VHD image in memory is to get these extents
pub record IsToGrow (s : Site) (t : VolumeTable) (m : Known) (u es : List ℕ) (row : TreeRow) : Type 0 where
  pub orderly : IsOrderly s t m
  pub tidy : IsTidy t m
  pub found : tree_row m.rows (Vhd u) ≡ Some row
  pub extents_free : AreFree s.count t.volumes es
  pub some_extents : 0 < length es
  pub enough : length es ≤ length (free_of s.count t)

-- an image stands in more sectors too
stands_more : (g : Geometry) (n k : ℕ) (b : Body) → n ≤ k → StandsIn g n b → StandsIn g k b
stands_more g n k (body.Raw volume size) more stands = omega (arith, more, stands)
stands_more g n k (body.Vhd head slots) more stands = record {
  entries = stands.entries;
  block = stands.block;
  size = stands.size;
  least = stands.least;
  most = stands.most;
  sized = stands.sized;
  room = omega (arith, more, stands.room);
}

-- ---- one image gets other extents

module _ (u : List ℕ) (to : ℕ) (σ : Shape) where
  abbrev pub turned_row : ImageRow → ImageRow
  turned_row y = when (is_image_in (Vhd u) y) (λ i. record i { extents = to }) y

  seen_alike : IsSeenAlike turned_row
  seen_alike = record { name = λ y. by (λ i. i.name) (λ i. refl) y; hidden = λ y. by (λ i. i.hidden) (λ i. refl) y; parent = λ y. by (λ i. i.parent) (λ i. refl) y }
    where
      by : {B : Type 0} (k : ImageRow → B) → ((i : ImageRow) → k (record i { extents = to }) ≡ k i) → (y : ImageRow) → k (turned_row y) ≡ k y
      by k same y = of (is_image_in (Vhd u) y)
        where
          of : (b : Bool) → k (when b (λ i. record i { extents = to }) y) ≡ k y
          of true = same y
          of false = refl

  -- each is used as often, whatever the sequence number
  pub refs_turned : (k : ℕ) (n : Name) → refs n (record σ { sequence = k; images = on_image (Vhd u) (λ i. record i { extents = to }) σ.images }) ≡ refs n σ
  refs_turned k n = refs_raised (record σ { images = map turned_row σ.images }) k n ∙ changed_uses σ turned_row n seen_alike

-- ---- a parent of a copy has no less room

module _ (u : List ℕ) (to : ℕ) (σ : Shape) (more : (y : ImageRow) → In y σ.images → is_image_in (Vhd u) y ≡ true → y.extents ≤ to) where
  record WasRow (x : ImageRow) : Type 0 where
    row : ImageRow
    there : In row σ.images
    name : x.name ≡ row.name
    slots : x.slots ≡ row.slots
    extents : row.extents ≤ x.extents

  was_row : (x : ImageRow) → In x (inflated u to σ).images → WasRow x
  was_row x i = let w = In-map (turned_row u to σ) σ.images x i in by w.0 w.1 (is_image_in (Vhd u) w.0) refl w.2
    where
      by : (y : ImageRow) → In y σ.images → (b : Bool) → is_image_in (Vhd u) y ≡ b → x ≡ when b (λ i. record i { extents = to }) y → WasRow x
      by y there true own is = record { row = y; there = there; name = ap (λ (z : ImageRow). z.name) is; slots = ap (λ (z : ImageRow). z.slots) is; extents = omega (arith, more y there own, ap (λ (z : ImageRow). z.extents) is) }
      by y there false own is = record { row = y; there = there; name = ap (λ (z : ImageRow). z.name) is; slots = ap (λ (z : ImageRow). z.slots) is; extents = omega (arith, ap (λ (z : ImageRow). z.extents) is) }

  roomy_for : (v p : Name) → IsRoomyFor σ v p → IsRoomyFor (inflated u to σ) v p
  roomy_for v p had i q there below is under vhd =
      let x = was_row i there in
      let y = was_row q below in
      let least = had x.row y.row x.there y.there (sym x.name ∙ is) (sym y.name ∙ under) vhd in
      let same = ap₂ (λ a b. thin_in σ (max (top a) (count_either a b))) y.slots x.slots in
      omega (arith, least, y.extents, ap₂ (λ a b. thin_in σ (max (top a) (count_either a b))) y.slots x.slots)

  pub roomy_inflated : (o : Op) → IsRoomyIn σ o → IsRoomyIn (inflated u to σ) o
  roomy_inflated op.Idle had = tt
  roomy_inflated (op.Copy v p cursor) had = roomy_for v p had
  roomy_inflated (op.Relink v p) had = tt
  roomy_inflated (op.Leaf l p cursor) had = roomy_for l p had
  roomy_inflated (op.Live l p cursor dirty) had = roomy_for l p had

few_entries_of : (o : Op) → length (entry_of o) ≤ 1
few_entries_of op.Idle = omega arith
few_entries_of (op.Copy v p cursor) = omega arith
few_entries_of (op.Relink v p) = omega arith
few_entries_of (op.Leaf l p cursor) = omega arith
few_entries_of (op.Live l p cursor dirty) = omega arith

-- ---- the images of an operation stay, and its parent has no less room

module _ (u : List ℕ) (to : ℕ) (σ : Shape) (w : IsWellFormed σ) (more : (y : ImageRow) → In y σ.images → is_image_in (Vhd u) y ≡ true → y.extents ≤ to) where
  turned_key : {B : Type 0} (k : ImageRow → B) → ((i : ImageRow) → k (record i { extents = to }) ≡ k i) → (y : ImageRow) → k (turned_row u to σ y) ≡ k y
  turned_key k same y = when-key k (λ i. record i { extents = to }) same (is_image_in (Vhd u) y) y

  no_less : (y : ImageRow) → In y σ.images → y.extents ≤ (turned_row u to σ y).extents
  no_less y i = by (is_image_in (Vhd u) y) refl
    where
      by : (b : Bool) → is_image_in (Vhd u) y ≡ b → y.extents ≤ (when b (λ i. record i { extents = to }) y).extents
      by true own = more y i own
      by false other = omega arith

  pub operation_turned : (o : Op) → IsOperation σ o → IsOperation (record σ { images = on_image (Vhd u) (λ i. record i { extents = to }) σ.images }) o
  operation_turned o h = operation_mapped σ w (turned_row u to σ) (turned_key (λ y. y.name) (λ y. refl)) (turned_key (λ y. y.hidden) (λ y. refl)) (turned_key (λ y. y.parent) (λ y. refl)) σ.attached σ.op refl
      (λ y i. turned_key (λ (z : ImageRow). z.size) (λ y. refl) y) (λ q i hidden. no_less q i) (turned_key (λ y. length y.slots) (λ y. refl))
      (λ y b there. ap (λ v. is_there (slot_at v b)) (turned_key (λ (z : ImageRow). z.slots) (λ y. refl) y) ∙ there) o h

module _ (s : Site) (t : VolumeTable) (m : Known) (u es : List ℕ) (row : TreeRow) (h : IsToGrow s t m u es row) where
  abbrev pub entry : Name
  entry = Inflate u row.extents

  abbrev pub to : ℕ
  to = row.extents + length es

  -- the three tables
  abbrev pub noted : VolumeTable
  noted = applied t (Create entry false [])

  abbrev pub larger : VolumeTable
  larger = applied noted (Grow (Vhd u) es)

  abbrev pub ended : VolumeTable
  ended = applied larger (Remove entry)

  abbrev pub after : Known
  after = record m { rows = with_extents (Vhd u) to m.rows }

  in_rows : In row m.rows × (row_name row ≡ Vhd u)
  in_rows = owned.in_rows s t m u row h.orderly h.found

  pub own : IsOwn t u row
  own = owned.own s t m u row h.orderly h.found

  pub no_entry : rows t entry ≡ None
  no_entry = by (rows t entry) refl
    where
      by : (x : Option Row) → rows t entry ≡ x → x ≡ None
      by None is = refl
      by (Some q) is = absurd (
          let w = row_of-In t.volumes entry q is in
          let name = name_eq-true q.name entry w.1 in
          subst (In q.name) (none_making s t m h.orderly) (filter-In is_making (names_of t.volumes) q.name (In-map_at (λ (r : Row). r.name) t.volumes q w.0) (ap is_making name)))

  -- ---- what is allowed

  uuid : IsUuid u
  unfolding IsName
  uuid = subst IsName (owned.named s t m u row h.orderly h.found) (owned.proper s t m u row h.orderly h.found).name

  few : row.extents < 2 ^ 32
  few =
      let part = extents-le t.volumes (Vhd u) in
      let is = ap (λ o. length (extents_of o)) own.there in
      omega (arith, own.long, is, part, used-le s.count t.volumes h.orderly.table.volumes, h.orderly.few_extents)

  pub some : 0 < row.extents
  some = owned.some s t m u row h.orderly h.found

  pub may_note : Permits s.count t (Create entry false [])
  unfolding IsName IsDistinct
  may_note = record {
    name_proper = (uuid, some, few);
    new_name = no_entry;
    not_mgt = λ is. (let x = is in cc);
    kind = refl;
    extents_free = record { below = tt; unused = tt; distinct = tt };
  }

  pub noted_own : rows noted (Vhd u) ≡ Some own.volume
  noted_own = row_of-put_other t.volumes (made entry false []) (Vhd u) (λ is. (let x = is in cc)) ∙ own.there

  pub noted_table : IsTable s.count noted
  noted_table = IsTable-applied s.count t (Create entry false []) h.orderly.table may_note

  pub may_grow : Permits s.count noted (Grow (Vhd u) es)
  may_grow = record {
    row = own.volume;
    there = noted_own;
    image = refl;
    some_extents = h.some_extents;
    extents_free = record {
      below = h.extents_free.below;
      unused = subst (λ us. AllByRecursion (λ e. is_one_of us e ≡ false) es) (sym (extents_put (made entry false []) t.volumes refl)) h.extents_free.unused;
      distinct = h.extents_free.distinct;
    };
  }

  pub may_grow_first : Permits s.count t (Grow (Vhd u) es)
  may_grow_first = record { row = own.volume; there = own.there; image = refl; some_extents = h.some_extents; extents_free = h.extents_free }

  pub larger_table : IsTable s.count larger
  larger_table = IsTable-applied s.count noted (Grow (Vhd u) es) noted_table may_grow

  noted_entry : rows noted entry ≡ Some (made entry false [])
  noted_entry = row_of-put_same t.volumes (made entry false []) no_entry

  larger_entry : rows larger entry ≡ Some (made entry false [])
  larger_entry = row_of-with_row_other noted.volumes (Vhd u) entry (grown es) (λ r. refl) (λ is. (let x = is in cc)) ∙ noted_entry

  pub larger_own : rows larger (Vhd u) ≡ Some (grown es own.volume)
  larger_own = row_of-with_row_same noted.volumes (Vhd u) (grown es) own.volume (λ r. refl) noted_own

  -- the sectors of the volume
  pub own_size : size_of s t (Vhd u) ≡ row.extents * s.geometry.extent
  own_size = owned.own_size s t m u row h.orderly h.found

  pub larger_size : size_of s larger (Vhd u) ≡ to * s.geometry.extent
  larger_size = ap (λ o. span s.geometry.extent (extents_of o)) larger_own ∙ ap (λ n. n * s.geometry.extent) (length-append own.volume.extents es ∙ ap (λ n. n + length es) (sym own.long))

  pub may_drop : Permits s.count larger (Remove entry)
  may_drop = record { row = made entry false []; there = larger_entry; not_mgt = λ is. (let x = is in cc) }

  pub ended_table : IsTable s.count ended
  ended_table = IsTable-applied s.count larger (Remove entry) larger_table may_drop

  -- ---- the volumes at the end

  pub ended_volumes : ended.volumes ≡ with_row (Vhd u) (grown es) t.volumes
  ended_volumes = changed_between (Vhd u) (grown es) (made entry false []) t.volumes (λ r. refl) (λ is. (let x = is in cc)) no_entry

  ended_names : names_of ended.volumes ≡ names_of t.volumes
  ended_names = ap names_of ended_volumes ∙ names_of-with_row t.volumes (Vhd u) (grown es) (λ r. refl)

  pub ended_own : rows ended (Vhd u) ≡ Some (grown es own.volume)
  ended_own = ap (λ vs. row_of vs (Vhd u)) ended_volumes ∙ row_of-with_row_same t.volumes (Vhd u) (grown es) own.volume (λ r. refl) own.there

  pub ended_other : (n : Name) → n ≢ Vhd u → rows ended n ≡ rows t n
  ended_other n other = ap (λ vs. row_of vs n) ended_volumes ∙ row_of-with_row_other t.volumes (Vhd u) n (grown es) (λ r. refl) (λ is. other (sym is))

  -- ---- the text fits

  few_entries : length (names_in t is_entry) ≤ 1
  few_entries = omega (arith, ap (λ (ns : List Name). length ns) h.orderly.entries, few_entries_of m.op)

  few_images : length (table_images t) ≡ length (names_in t is_image)
  few_images = counted is_image t.volumes

  fits_in : (v : VolumeTable) → IsTable s.count v → length (names_in v is_image) ≤ length (names_in t is_image) → length (names_in v is_log) ≤ length (names_in t is_log) → length (names_in v is_entry) ≤ 2
      → length (text v) ≤ text_limit s.count
  fits_in v table few logs entries =
      fits_entries s.count v table h.orderly.few_extents (omega (arith, counted is_image v.volumes, few, few_images, h.orderly.few))
      (omega (arith, counted is_log v.volumes, logs, counted is_log t.volumes, few_log_rows s t m h.orderly)) (omega (arith, entries))

  noted_entries : length (names_in noted is_entry) ≤ 2
  noted_entries = omega (arith, named_put is_entry (made entry false []) t.volumes, few_entries)

  noted_images : length (names_in noted is_image) ≤ length (names_in t is_image)
  noted_images = omega (arith, named_put is_image (made entry false []) t.volumes)

  noted_logs : length (names_in noted is_log) ≤ length (names_in t is_log)
  noted_logs = omega (arith, named_put is_log (made entry false []) t.volumes)

  pub fits_noted : Fits s.count t (Create entry false [])
  fits_noted = fits_in noted noted_table noted_images noted_logs noted_entries

  larger_names : names_of larger.volumes ≡ names_of noted.volumes
  larger_names = names_of-with_row noted.volumes (Vhd u) (grown es) (λ r. refl)

  pub fits_larger : Fits s.count noted (Grow (Vhd u) es)
  fits_larger =
      fits_in larger larger_table (subst (λ ns. length (filter is_image ns) ≤ length (names_in t is_image)) (sym larger_names) noted_images)
      (subst (λ ns. length (filter is_log ns) ≤ length (names_in t is_log)) (sym larger_names) noted_logs) (subst (λ ns. length (filter is_entry ns) ≤ 2) (sym larger_names) noted_entries)

  pub fits_ended : Fits s.count larger (Remove entry)
  fits_ended =
      fits_in ended ended_table (omega (arith, ap (λ ns. length (filter is_image ns)) ended_names)) (omega (arith, ap (λ ns. length (filter is_log ns)) ended_names))
      (omega (arith, ap (λ ns. length (filter is_entry ns)) ended_names, few_entries))

  -- ---- the shape

  pub ended_shape : shape_in s ended after ≡ inflated u to (shape_in s t m)
  unfolding shape_in
  ended_shape =
      ap₂ (λ k is. let x : Shape = record (shape_in s t m) { sequence = k; images = is; records = records_in (shown_places after.rows m.places) } in x) number (images_turned u to m.rows)
      ∙ ap (λ rs. let x : Shape = record (inflated u to (shape_in s t m)) { records = records_in rs } in x) (places_turned (Vhd u) to m.rows m.places)
    where
      number : ended.sequence ≡ risen t.sequence 3
      number = omega (arith, h.orderly.table.sequence)

  -- no other row of memory has the name
  pub only : (x : TreeRow) → In x m.rows → row_name x ≡ Vhd u → x ≡ row
  only = owned.only s t m u row h.orderly h.found

  no_more : (x : TreeRow) → In x m.rows → row_name x ≡ Vhd u → x.extents ≤ to
  no_more x i is = omega (arith, ap (λ (r : TreeRow). r.extents) (only x i is))

  none_larger : (y : ImageRow) → In y (shape_in s t m).images → is_image_in (Vhd u) y ≡ true → y.extents ≤ to
  unfolding shape_in
  none_larger y i own =
      let w = In-map machine_row m.rows y i in
      subst (λ (z : ImageRow). z.extents ≤ to) (sym w.2) (no_more w.0 w.1 (sym (ap (λ (z : ImageRow). z.name) w.2) ∙ same_image-sound y.name (Vhd u) own))

  may_have : IsWellFormed (shape_in s t m) → MayHave (shape_in s t m) (machine_row row) to
  unfolding shape_in is_vhd
  may_have w =
      let there = In-map_at machine_row m.rows row in_rows.0 in
      let vhd = ap is_vhd in_rows.1 in
      record {
        there = there;
        vhd = vhd;
        some = omega (arith, some);
        room = omega (arith, free_counted s t m h.tidy.none_new h.orderly, h.enough);
        thick = λ a i rw shown own. let was = w.attachments.thick a (machine_row row) i rw there shown own vhd in omega (arith, was);
      }

  well : ∥ IsWellFormed (shape_in s ended after) ∥₁
  unfolding shape_in
  well = ∥∥₁_map h.orderly.well_formed (λ w. subst IsWellFormed (sym ended_shape)
      (raised_well (record (shape_in s t m) { images = on_image (Vhd u) (λ i. record i { extents = to }) (shape_in s t m).images }) (risen t.sequence 3) (omega (arith, h.orderly.table.sequence)) (omega arith)
      (subst (λ n. IsWellFormed (record (shape_in s t m) { images = on_image n (λ i. record i { extents = to }) (shape_in s t m).images })) in_rows.1 (extents_keep (shape_in s t m) (machine_row row) to w (may_have w)
      (subst (λ n. IsOperation (record (shape_in s t m) { images = on_image n (λ i. record i { extents = to }) (shape_in s t m).images }) m.op) (sym in_rows.1)
      (operation_turned u to (shape_in s t m) w none_larger m.op w.operation))))))

  -- no volume is new
  none_new : (r : Row) → In r ended.volumes → r.fresh ≡ false
  none_new r i = let w = In-with_row (Vhd u) (grown es) t.volumes r (subst (In r) ended_volumes i) in ⊎_elim
      (λ is. ap (λ (x : Row). x.fresh) is ∙ h.tidy.none_new w.0 w.1) (λ is. ap (λ (x : Row). x.fresh) is ∙ h.tidy.none_new w.0 w.1) w.2

  pub orderly_ended : IsOrderly s ended after
  unfolding shape_in
  orderly_ended = record {
    table = ended_table;
    few_extents = h.orderly.few_extents;
    record_volume = ap (λ v. length (extents_of v)) (ended_other Mgt (λ is. (let x = is in cc))) ∙ h.orderly.record_volume;
    few = omega (arith, counted is_image ended.volumes, ap (λ ns. length (filter is_image ns)) ended_names, few_images, h.orderly.few);
    new_named = λ r i new. absurd (true≢false (sym new ∙ none_new r i));
    images = λ n image. ⊎_elim
        (λ is. ap (λ x. row_face (rows ended x)) is ∙ ap row_face ended_own ∙ face ∙ sym (ap tree_face (turned_same (Vhd u) to m.rows row h.found)) ∙ sym (ap (λ x. tree_face (tree_row after.rows x)) is))
        (λ other. ap row_face (ended_other n other) ∙ h.orderly.images n image ∙ sym (ap tree_face (turned_other (Vhd u) to m.rows n other))) (named_or_not n (Vhd u));
    logs = λ d. ap row_face (ended_other (Cbt d) (image_apart (Vhd u) refl d)) ∙ h.orderly.logs d;
    few_logs = h.orderly.few_logs;
    logs_in_order = h.orderly.logs_in_order;
    log_room = h.orderly.log_room;
    places = h.orderly.places;
    entries = ap (λ ns. filter is_entry ns) ended_names ∙ h.orderly.entries;
    stands = λ r i. stands_in r (In-turned (Vhd u) to m.rows r i);
    well_formed = well;
    roomy = subst (λ (σ : Shape). IsRoomyIn σ m.op) (sym ended_shape) (roomy_inflated u to (shape_in s t m) none_larger m.op h.orderly.roomy);
    counts = λ n. h.orderly.counts n ∙ sym (refs_turned u to (shape_in s t m) (risen t.sequence 3) n) ∙ sym (ap (refs n) ended_shape);
  }
    where
      face : row_face (Some (grown es own.volume)) ≡ tree_face (Some (sized to row))
      face =
          filled_face (grown es own.volume) own.filled
          ∙ ap₂ (λ a b. let f : Face = record { hidden = a; extents = b } in Some f) (sym own.hidden) (length-append own.volume.extents es ∙ ap (λ n. n + length es) (sym own.long))

      stands_in : (r : TreeRow) → IsTurned (Vhd u) to m.rows r → StandsIn s.geometry (r.extents * s.geometry.extent) r.image
      stands_in r w = ⊎_elim
          (λ k. subst (λ (x : TreeRow). StandsIn s.geometry (x.extents * s.geometry.extent) x.image) (sym k.1) (h.orderly.stands w.row w.there))
          (λ k. subst (λ (x : TreeRow). StandsIn s.geometry (x.extents * s.geometry.extent) x.image) (sym k.1)
          (stands_more s.geometry (w.row.extents * s.geometry.extent) (to * s.geometry.extent) w.row.image (mul-le-mul_right s.geometry.extent (no_more w.row w.there k.0)) (h.orderly.stands w.row w.there))) w.how

  pub tidy_ended : IsTidy ended after
  tidy_ended = record { none_new = none_new; no_stray = λ r i. shown_turned (Vhd u) to r.uuid m.rows ∙ h.tidy.no_stray r i }
