-- What a cut of an image's volume asks of the table, and what holds of table and memory behind it.
use Rattle.std.proofs.Common.{◌≡◌, ◌≢◌, ⊎_elim, ℕ, zero, suc, ◌+◌, ◌*◌, ◌<◌, ◌≤◌, true, false, not, ◌&&◌, List, length, take, drop, ◌++◌, filter, Some, refl, sym, ap, ap₂, ◌∙◌, subst, arith}
use Rattle.std.proofs.Math.Logic.{∥∥₁_elim, ∥∥₁_map}
use Rattle.std.proofs.Math.Nat.{mul-le-mul_right}
use Rattle.std.proofs.Props.{props}
use Rattle.std.proofs.lemmas.Bool.{true≢false}
use Rattle.std.proofs.lemmas.List.{length-take-le, take-append-drop}
use Rattle.sm_base.specs.Kinds.{is_image, is_entry}
use Rattle.sm_base.specs.Numbers.{thin, first}
use Rattle.sm_base.proofs.NumberLemmas.{le-div_up}
use Rattle.sm_base.specs.declared.names.Name.{Name}
use Rattle.sm_base.specs.declared.names.Name.TheVariants.{Mgt, Vhd, Cbt}
use Rattle.sm_machine.specs.Operations.{Op}
use Rattle.sm_machine.specs.Operations as op
use Rattle.sm_base.specs.declared.sizes.Geometry.{Geometry}
use Rattle.vg_meta.specs.Tables.{Row, VolumeTable, IsTable, extents_of, names_of, rows}
use Rattle.vg_meta.specs.Changes.{Permits, applied, cut_to}
use Rattle.vg_meta.specs.declared.changes.Change.TheVariants.{Cut}
use Rattle.vg_meta.proofs.ChangeLaws.{IsTable-applied}
use Rattle.vg_meta.proofs.RowLaws.{names_of-with_row, row_of-with_row_other, row_of-with_row_same}
use Rattle.vg_volumes.specs.Sites.{Site, Fits, size_of}
use Rattle.vg_volumes.specs.Volumes.{span}
use Rattle.vhd_volumes.specs.Truth.{HasRoomFor}
use Rattle.vhd_image.specs.Bodies.{IsVhd, StandsIn, top_slot}
use Rattle.vhd_image.specs.declared.images.Body.{Body}
use Rattle.vhd_image.specs.declared.images.Body.TheVariants as body
use Rattle.vhd_chain.specs.Reading.{slots_of}
use Rattle.vhd_chain.specs.Trees.{row_name, tree_row}
use Rattle.vhd_chain.specs.declared.rows.TreeRow.{TreeRow}
use Rattle.common_laws.specs.Lists.{In}
use Rattle.common_laws.proofs.Lists.{In-map, In-map_at}
use Rattle.sm_machine.specs.Collector.{collected, is_written}
use Rattle.sm_machine.specs.Laws.{MayHave}
use Rattle.sm_machine.specs.Shapes.{ImageRow, Shape, attached_as, image_uuid, is_rw, is_vhd, on_image, refs, risen, top}
use Rattle.sm_machine.specs.WellFormed.{IsOperation, IsWellFormed}
use Rattle.sm_machine.proofs.Chains.{find_image-in}
use Rattle.sm_machine.proofs.Collects.{attached_mode}
use Rattle.sm_machine.proofs.Moments.{extents_keep}
use Rattle.sm_ready.specs.Known.{Face, Known, machine_row, records_in, row_face, shape_in, shown_places, tree_face}
use Rattle.sm_ready.specs.Orderly.{IsOrderly, IsRoomyIn}
use Rattle.sm_ready.specs.Ready.{IsTidy, is_written_as, is_written_in}
use Rattle.sm_ready.proofs.FitLaws.{fits_orderly}
use Rattle.sm_ready.proofs.FreshLaws.{raised_well}
use Rattle.sm_ready.proofs.LogRows.{image_apart}
use Rattle.sm_ready.proofs.MapLaws.{top_alike}
use Rattle.sm_ready.proofs.Orders.{HasHead, filled_face, vhd_row}
use Rattle.sm_ready.proofs.RowLaws.{tree_found}
use Rattle.sm_space.specs.Deflating.{CanDeflate, deflated}
use Rattle.sm_space.specs.Inflating.{with_extents}
use Rattle.sm_space.proofs.OrderlyLaws.{refs_turned}
use Rattle.sm_space.proofs.OwnLaws.{IsOwn, in_rows, named_or_not, only, own, own_size}
use Rattle.sm_space.proofs.SizedLaws.{In-turned, IsTurned, images_turned, places_turned, shown_turned, sized, turned_other, turned_same}
use Rattle.gc_abandon.proofs.EntryLaws.{counted}
use Rattle.sm_space.proofs.TableLaws.{In-with_row}

-- the volume of a VHD image in memory is to be cut to so many extents
pub record IsToCut (s : Site) (t : VolumeTable) (m : Known) (u : List ℕ) (to : ℕ) (row : TreeRow) : Type 0 where
  pub orderly : IsOrderly s t m
  pub tidy : IsTidy t m
  pub found : tree_row m.rows (Vhd u) ≡ Some row
  pub fewer : to < row.extents
  pub some : 0 < to
  pub room : HasRoomFor s.geometry (top_slot row.image) (to * s.geometry.extent)
  pub unwritten : is_written (shape_in s t m) (machine_row row) ≡ false
  pub idle : m.op ≡ op.Idle

-- the highest slot, as the machine has it
top_same : (b : Body) → top (slots_of b) ≡ top_slot b
unfolding top
top_same (body.Raw volume size) = refl
top_same (body.Vhd head m) = top_alike m

-- an image stands in fewer sectors where its slots have room in them
stands_less : (g : Geometry) (n k : ℕ) (b : Body) → IsVhd b → HasRoomFor g (top_slot b) k → StandsIn g n b → StandsIn g k b
stands_less g n k (body.Raw volume size) vhd room stands = absurd vhd
stands_less g n k (body.Vhd head m) vhd room stands = record {
  entries = stands.entries;
  block = stands.block;
  size = stands.size;
  least = stands.least;
  most = stands.most;
  sized = stands.sized;
  room = room;
}

-- so many sectors have room in so many extents
room_in : (extent block entries slots to : ℕ) → 0 < extent → thin extent block entries slots ≤ to → (first entries + slots * (1 + block) + 1 ≤ to * extent) × (0 < to)
unfolding thin
room_in extent block entries slots to some within =
    let long = le-div_up (first entries + slots * (1 + block) + 1) extent some in
    let room : first entries + slots * (1 + block) + 1 ≤ to * extent = omega (arith, long, mul-le-mul_right extent within) in
    (room, pos to room)
  where
    pos : (k : ℕ) → first entries + slots * (1 + block) + 1 ≤ k * extent → 0 < k
    pos zero none = absurd (omega (arith, none))
    pos (suc k) r = omega arith

-- what the machine's shape says of it
pub to_cut : (s : Site) (t : VolumeTable) (m : Known) (u : List ℕ) (to : ℕ) → IsOrderly s t m → IsTidy t m → CanDeflate (shape_in s t m) (Vhd u) to → (row : TreeRow) × IsToCut s t m u to row
unfolding shape_in
to_cut s t m u to o tidy can =
    let w = In-map machine_row m.rows can.image can.there in
    let row = w.0 in
    let name : row_name row ≡ Vhd u = sym (ap (λ (i : ImageRow). i.name) w.2) ∙ can.named in
    let found : tree_row m.rows (Vhd u) ≡ Some row = ∥∥₁_elim o.well_formed (hlevel props) (λ f. ap (tree_row m.rows) (sym name) ∙ tree_found m.rows row f.one_image w.1) in
    let room = room_in s.geometry.extent s.geometry.block s.geometry.entries (top_slot row.image) to (omega (arith, s.geometry.in_range.extent_least))
    (subst (λ k. thin s.geometry.extent s.geometry.block s.geometry.entries k ≤ to) (ap (λ (i : ImageRow). top i.slots) w.2 ∙ top_same row.image) can.room) in (
      row,
      record {
        orderly = o;
        tidy = tidy;
        found = found;
        fewer = omega (arith, can.fewer, ap (λ (i : ImageRow). i.extents) w.2);
        some = room.1;
        room = room.0;
        unwritten = ap (is_written (shape_in s t m)) (sym w.2) ∙ can.unwritten;
        idle = can.idle;
      },
    )

module _ (s : Site) (t : VolumeTable) (m : Known) (u : List ℕ) (to : ℕ) (row : TreeRow) (h : IsToCut s t m u to row) where
  abbrev pub cut : VolumeTable
  cut = applied t (Cut (Vhd u) to)

  abbrev pub after : Known
  after = record m { rows = with_extents (Vhd u) to m.rows }

  abbrev pub its : IsOwn t u row
  its = own s t m u row h.orderly h.found

  -- ---- its extents

  pub kept_long : length (take to its.volume.extents) ≡ to
  kept_long = length-take-le to its.volume.extents (omega (arith, h.fewer, its.long))

  pub parts : take to its.volume.extents ++ drop to its.volume.extents ≡ its.volume.extents
  parts = take-append-drop to its.volume.extents

  pub may_cut : Permits s.count t (Cut (Vhd u) to)
  may_cut = record { row = its.volume; there = its.there; image = refl; some_kept = h.some; some_gone = omega (arith, h.fewer, its.long) }

  pub cut_table : IsTable s.count cut
  cut_table = IsTable-applied s.count t (Cut (Vhd u) to) h.orderly.table may_cut

  pub cut_own : rows cut (Vhd u) ≡ Some (cut_to to its.volume)
  cut_own = row_of-with_row_same t.volumes (Vhd u) (cut_to to) its.volume (λ r. refl) its.there

  pub cut_other : (n : Name) → n ≢ Vhd u → rows cut n ≡ rows t n
  cut_other n other = row_of-with_row_other t.volumes (Vhd u) n (cut_to to) (λ r. refl) (λ is. other (sym is))

  pub cut_size : size_of s cut (Vhd u) ≡ to * s.geometry.extent
  cut_size = ap (λ o. span s.geometry.extent (extents_of o)) cut_own ∙ ap (λ n. n * s.geometry.extent) kept_long

  pub less : to * s.geometry.extent ≤ size_of s t (Vhd u)
  less = omega (arith, own_size s t m u row h.orderly h.found, mul-le-mul_right s.geometry.extent (let x : to ≤ row.extents = omega (arith, h.fewer) in x))

  cut_names : names_of cut.volumes ≡ names_of t.volumes
  cut_names = names_of-with_row t.volumes (Vhd u) (cut_to to) (λ r. refl)

  -- ---- the image stands in them

  pub its_head : HasHead row
  its_head = let i = in_rows s t m u row h.orderly h.found in vhd_row s t m row u h.orderly i.0 i.1

  pub is_its_vhd : IsVhd row.image
  is_its_vhd = subst IsVhd (sym its_head.is) tt

  pub stands_cut : StandsIn s.geometry (to * s.geometry.extent) row.image
  stands_cut = stands_less s.geometry (row.extents * s.geometry.extent) (to * s.geometry.extent) row.image is_its_vhd h.room (h.orderly.stands row (in_rows s t m u row h.orderly h.found).0)

  -- ---- nothing is written to it

  pub unwritten_in : is_written_in (shape_in s t m) (row_name row) ≡ false
  unfolding is_written_in shape_in
  unwritten_in = ∥∥₁_elim h.orderly.well_formed (hlevel props) (λ w.
      let i = In-map_at machine_row m.rows row (in_rows s t m u row h.orderly h.found).0 in
      ap (is_written_as (shape_in s t m) (row_name row)) (find_image-in (shape_in s t m).images (machine_row row) w.one_image i (w.images (machine_row row) i).named) ∙ h.unwritten)

  -- ---- the shape

  pub cut_shape : shape_in s cut after ≡ deflated (Vhd u) to (shape_in s t m)
  unfolding shape_in collected
  cut_shape =
      ap₂ (λ k is. let x : Shape = record (shape_in s t m) { sequence = k; images = is; records = records_in (shown_places after.rows m.places) } in x) number (images_turned u to m.rows)
      ∙ ap (λ rs. let x : Shape = record (deflated (Vhd u) to (shape_in s t m)) { records = records_in rs } in x) (places_turned (Vhd u) to m.rows m.places)
    where
      number : cut.sequence ≡ risen t.sequence 1
      number = omega arith

  may_have : IsWellFormed (shape_in s t m) → MayHave (shape_in s t m) (machine_row row) to
  unfolding shape_in is_vhd
  may_have w =
      let own_row = in_rows s t m u row h.orderly h.found in
      let there = In-map_at machine_row m.rows row own_row.0 in
      record {
        there = there;
        vhd = ap is_vhd own_row.1;
        some = h.some;
        room = omega (arith, h.fewer);
        thick = λ a i rw shown disk. absurd (true≢false (sym (both shown (ap is_rw (attached_mode (shape_in s t m) w a (image_uuid (row_name row)) i (sym disk) ∙ ap Some rw))) ∙ h.unwritten));
      }
    where
      both : row.hidden ≡ false → is_rw (attached_as (image_uuid (row_name row)) (shape_in s t m)) ≡ true → is_written (shape_in s t m) (machine_row row) ≡ true
      both shown rw = ap₂ (λ b c. not b && c) shown rw

  well : ∥ IsWellFormed (shape_in s cut after) ∥₁
  unfolding shape_in collected
  well = ∥∥₁_map h.orderly.well_formed (λ w. subst IsWellFormed (sym cut_shape)
      (raised_well (record (shape_in s t m) { images = on_image (Vhd u) (λ i. record i { extents = to }) (shape_in s t m).images }) (risen t.sequence 1) (omega (arith, h.orderly.table.sequence)) (omega arith)
      (subst (λ n. IsWellFormed (record (shape_in s t m) { images = on_image n (λ i. record i { extents = to }) (shape_in s t m).images }))
      (in_rows s t m u row h.orderly h.found).1 (extents_keep (shape_in s t m) (machine_row row) to w (may_have w)
      (subst (λ (o : Op). IsOperation (record (shape_in s t m) { images = on_image (row_name row) (λ i. record i { extents = to }) (shape_in s t m).images }) o) (sym h.idle) tt)))))

  -- ---- memory is orderly and tidy behind it

  none_new : (r : Row) → In r cut.volumes → r.fresh ≡ false
  none_new r i = let w = In-with_row (Vhd u) (cut_to to) t.volumes r i in ⊎_elim
      (λ is. ap (λ (x : Row). x.fresh) is ∙ h.tidy.none_new w.0 w.1) (λ is. ap (λ (x : Row). x.fresh) is ∙ h.tidy.none_new w.0 w.1) w.2

  pub orderly_cut : IsOrderly s cut after
  unfolding shape_in collected
  orderly_cut = record {
    table = cut_table;
    few_extents = h.orderly.few_extents;
    record_volume = ap (λ v. length (extents_of v)) (cut_other Mgt (λ is. (let x = is in cc))) ∙ h.orderly.record_volume;
    few = omega (arith, counted is_image cut.volumes, ap (λ ns. length (filter is_image ns)) cut_names, counted is_image t.volumes, h.orderly.few);
    new_named = λ r i new. absurd (true≢false (sym new ∙ none_new r i));
    images = λ n image. ⊎_elim
        (λ is. ap (λ x. row_face (rows cut x)) is ∙ ap row_face cut_own ∙ face ∙ sym (ap tree_face (turned_same (Vhd u) to m.rows row h.found)) ∙ sym (ap (λ x. tree_face (tree_row after.rows x)) is))
        (λ other. ap row_face (cut_other n other) ∙ h.orderly.images n image ∙ sym (ap tree_face (turned_other (Vhd u) to m.rows n other))) (named_or_not n (Vhd u));
    logs = λ d. ap row_face (cut_other (Cbt d) (image_apart (Vhd u) refl d)) ∙ h.orderly.logs d;
    few_logs = h.orderly.few_logs;
    logs_in_order = h.orderly.logs_in_order;
    log_room = h.orderly.log_room;
    places = h.orderly.places;
    entries = ap (λ ns. filter is_entry ns) cut_names ∙ h.orderly.entries;
    stands = λ r i. stands_in r (In-turned (Vhd u) to m.rows r i);
    well_formed = well;
    roomy = subst (λ o. IsRoomyIn (shape_in s cut after) o) (sym h.idle) tt;
    counts = λ n. h.orderly.counts n ∙ sym (refs_turned u to (shape_in s t m) (risen t.sequence 1) n) ∙ sym (ap (refs n) cut_shape);
  }
    where
      face : row_face (Some (cut_to to its.volume)) ≡ tree_face (Some (sized to row))
      face = filled_face (cut_to to its.volume) its.filled ∙ ap₂ (λ a b. let f : Face = record { hidden = a; extents = b } in Some f) (sym its.hidden) kept_long

      stands_in : (r : TreeRow) → IsTurned (Vhd u) to m.rows r → StandsIn s.geometry (r.extents * s.geometry.extent) r.image
      stands_in r w = ⊎_elim
          (λ k. subst (λ (x : TreeRow). StandsIn s.geometry (x.extents * s.geometry.extent) x.image) (sym k.1) (h.orderly.stands w.row w.there))
          (λ k. subst (λ (x : TreeRow). StandsIn s.geometry (x.extents * s.geometry.extent) x.image) (sym (k.1 ∙ ap (sized to) (only s t m u row h.orderly h.found w.row w.there k.0))) stands_cut) w.how

  pub tidy_cut : IsTidy cut after
  tidy_cut = record { none_new = none_new; no_stray = λ r i. shown_turned (Vhd u) to r.uuid m.rows ∙ h.tidy.no_stray r i }

  pub fits_cut : Fits s.count t (Cut (Vhd u) to)
  fits_cut = fits_orderly s cut after orderly_cut
