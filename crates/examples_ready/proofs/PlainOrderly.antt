-- Table and memory of the two disks are orderly, at rest and while a guest writes.
use Rattle.std.proofs.Common.{◌≡◌, inl, inr, ℕ, ◌*◌, ◌<◌, ◌≤◌, ◌^◌, Bool, true, false, cond, ◌||◌, List, [], ◌∷◌, length, Option, Some, None, refl, sym, ◌∙◌, subst, arith, lit≤, lit<, bytes_eq, unwrap_or, codes}
use Rattle.std.proofs.lemmas.Option.{none-some}
use Rattle.std.specs.List.{AllByRecursion}
use Rattle.std.specs.List.Sorted.{IsStrictlySortedBy}
use Rattle.sm_base.specs.Limits.{extent_limit}
use Rattle.sm_base.specs.Kinds.{is_image}
use Rattle.sm_base.specs.Names.{IsName, name_cmp, spelling, uuid_text, base_uuid}
use Rattle.sm_base.specs.Numbers.{thick, thin, first as first_sector, div_up}
use Rattle.sm_base.specs.declared.names.Name.{Name}
use Rattle.sm_base.specs.declared.names.Name.TheVariants.{Mgt, Raw, Vhd, Old, Cbt, Clone, Inflate, Coalesce, Relink, Leaf}
use Rattle.uuid.specs.Text.{by_index}
use Rattle.common_laws.specs.Lists.{In, numbers, insert_by}
use Rattle.vg_meta.specs.Tables.{IsTable, Row, rows, row_of, name_eq}
use Rattle.vg_layout.specs.Places.{record_extents}
use Rattle.sm_log.specs.Logs.{log_extents}
use Rattle.sm_machine.specs.Shapes.{Shape, ImageRow, DiskRecord, chain, chain_limit, image_uuid, is_vhd, image_extents, same_image, refs, thick_in}
use Rattle.sm_machine.specs.Steps.{with_record}
use Rattle.sm_machine.specs.WellFormed.{IsWellFormed, IsImageRow, HasParent, HasImage, HasRecord, EndsWithin, AreAttachments, is_image_name, table_length, name_le, uuid_le}
use Rattle.sm_refs.specs.Attached.{count_of, same_name}
use Rattle.vhd_chain.specs.Trees.{tree_row}
use Rattle.vhd_chain.specs.declared.rows.TreeRow.{TreeRow}
use Rattle.vhd_image.specs.Bodies.{StandsIn}
use Rattle.vhd_map.specs.Slots.{top_of}
use Rattle.vhd_volumes.specs.Truth.{HasRoomFor}
use Rattle.sm_logs.proofs.OrderLaws.{rising_first}
use Rattle.sm_ready.specs.Known.{row_face, tree_face, shape_in, records_in}
use Rattle.sm_ready.specs.Orderly.{IsOrderly}
use Rattle.examples_moments.specs.Worked.{first, second}
use Rattle.examples_ready.specs.WorkedRows.{sizes, sizes_in_range, site, site_of, first_slot}
use Rattle.examples_ready.specs.Repositories.{plain_table, plain_known, plain_shape, rows_with, known_with, shape_of, written_known, written_shape}
use Rattle.examples_ready.proofs.ShapeSteps.{sorted_by, apart_by, no_base}
use Rattle.examples_ready.proofs.SlotSteps.{AreWithin, front_within}
use Rattle.examples_ready.proofs.TableSteps.{alike, each, below_by, distinct_by, first_uuid, second_uuid, face_step}

-- ---- the table

abbrev used : List ℕ
used = 21 ∷ numbers 0 21

used_below : AllByRecursion (λ e. e < 64) used
unfolding numbers
used_below = below_by 64 used refl

more_below : (count : ℕ) (xs : List ℕ) → 64 ≤ count → AllByRecursion (λ e. e < 64) xs → AllByRecursion (λ e. e < count) xs
more_below count [] many all = tt
more_below count (x ∷ xs) many all = (omega (arith, many, all.0), more_below count xs many all.1)

pub plain_is_table : (count : ℕ) → 64 ≤ count → IsTable count plain_table
unfolding IsName IsStrictlySortedBy name_cmp spelling uuid_text by_index numbers
plain_is_table count many = record {
  sequence = lit< tt;
  volumes = record {
    each = (record { name = second_uuid; kind = refl }, (record { name = tt; kind = refl }, (record { name = first_uuid; kind = refl }, tt)));
    rising = ((refl, (refl, tt)), ((refl, tt), (tt, tt)));
    below = more_below count used many used_below;
    distinct = distinct_by used refl;
  };
}

pub plain_faces : (slots : List (Option ℕ)) (n : Name) → is_image n ≡ true → row_face (rows plain_table n) ≡ tree_face (tree_row (rows_with slots) n)
unfolding row_of name_eq tree_row numbers
plain_faces slots Mgt h = absurd (let e = h in cc)
plain_faces slots (Vhd u) h = face_step (bytes_eq first u) _ _ None None refl refl
plain_faces slots (Raw u) h = face_step (bytes_eq second u) _ _ None None refl refl
plain_faces slots (Old u) h = refl
plain_faces slots (Cbt u) h = refl
plain_faces slots (Clone a b c) h = absurd (let e = h in cc)
plain_faces slots (Inflate a n) h = absurd (let e = h in cc)
plain_faces slots (Coalesce a b) h = absurd (let e = h in cc)
plain_faces slots (Relink a b) h = absurd (let e = h in cc)
plain_faces slots (Leaf a b) h = absurd (let e = h in cc)

pub none_new : (r : Row) → In r plain_table.volumes → r.fresh ≡ false
none_new = each (λ r. r.fresh ≡ false) plain_table.volumes (refl, (refl, (refl, tt)))

-- ---- the shape

module _ (count : ℕ) (slots : List (Option ℕ)) (label : List ℕ) where
  abbrev pub shape : Shape
  shape = shape_of count slots label

  pub has_shape : shape_in (site_of count) plain_table (known_with slots label) ≡ shape
  unfolding shape_in records_in with_record insert_by record_extents div_up image_uuid log_extents
  has_shape = refl

  images_right : length slots ≡ 64 → (i : ImageRow) → In i shape.images → IsImageRow shape i
  unfolding is_image_name table_length is_vhd
  images_right long = each (IsImageRow shape) shape.images (
    record { named = refl; whole = (4, refl, lit< tt, lit≤ tt); volume = lit< tt; table = refl; raw = λ e. (refl, refl) },
    (record { named = refl; whole = (16, refl, lit< tt, lit≤ tt); volume = lit< tt; table = long; raw = λ e. absurd (let x = e in cc) }, tt),
  )

  parents_right : (i : ImageRow) (p : Name) → In i shape.images → i.parent ≡ Some p → HasParent shape.images i p
  parents_right i p here = each (λ i. i.parent ≡ Some p → HasParent shape.images i p) shape.images (λ e. absurd (none-some p e), (λ e. absurd (none-some p e), tt)) i here

  chains_right : (i : ImageRow) → In i shape.images → EndsWithin chain_limit (Some i.name) shape.images
  unfolding same_image
  chains_right = each (λ i. EndsWithin chain_limit (Some i.name) shape.images) shape.images (tt, (tt, tt))

  no_bases : (i : ImageRow) (n : ℕ) → In i shape.images → n < 2 ^ 48 → image_uuid i.name ≡ base_uuid n → n < 4
  unfolding image_uuid
  no_bases i n here fits = each (λ i. image_uuid i.name ≡ base_uuid n → n < 4) shape.images
      (λ e. absurd (no_base second n refl e), (λ e. absurd (no_base first n refl e), tt)) i here

  disks_right : (r : DiskRecord) → In r shape.records → HasImage shape r.uuid
  unfolding image_uuid
  disks_right = each (λ r. HasImage shape r.uuid) shape.records ((_, inr (inl refl), refl, refl), ((_, inl refl, refl, refl), tt))

  visible_right : (i : ImageRow) → In i shape.images → i.hidden ≡ false → HasRecord shape (image_uuid i.name)
  unfolding image_uuid
  visible_right = each (λ i. i.hidden ≡ false → HasRecord shape (image_uuid i.name)) shape.images (λ e. (_, inr (inl refl), refl), (λ e. (_, inl refl, refl), tt))

  pub plain_well_formed : 64 ≤ count → length slots ≡ 64 → IsWellFormed shape
  unfolding image_extents image_uuid name_cmp spelling uuid_text by_index
  plain_well_formed many long = record {
    geometry = sizes_in_range;
    blocks = (4, refl);
    sequence = lit≤ tt;
    room = omega (arith, many);
    few = lit≤ tt;
    images_in_order = sorted_by name_le (Raw second ∷ Vhd first ∷ []) refl;
    one_image = apart_by (second ∷ first ∷ []) refl;
    images = images_right long;
    parents = parents_right;
    chains = chains_right;
    bases = no_bases;
    records_in_order = sorted_by uuid_le (first ∷ second ∷ []) refl;
    one_record = apart_by (first ∷ second ∷ []) refl;
    disks = disks_right;
    visible = visible_right;
    attachments = record { once = tt; disks = λ a k. absurd k; writable = λ a r k q l f. absurd k; thick = λ a i k q l f j v. absurd k };
    operation = tt;
  }

pub written_has_shape : shape_in site plain_table written_known ≡ written_shape
unfolding shape_in records_in with_record insert_by record_extents div_up image_uuid log_extents
written_has_shape = refl

attachments_right : AreAttachments written_shape
unfolding thick thin first_sector div_up is_vhd
attachments_right = record {
  once = ((λ h. h), tt);
  disks = each (λ a. HasRecord written_shape a.disk) written_shape.attached ((_, inl refl, refl), tt);
  writable = λ a r here mode there is. each (λ r. r.read_only ≡ false) written_shape.records (refl, (refl, tt)) r there;
  thick = λ a i here mode there shown is vhd. each (λ i. is_vhd i.name ≡ true → thick_in written_shape i.size ≤ i.extents) written_shape.images
      (λ e. absurd (let x = e in cc), (λ e. lit≤ tt, tt)) i there vhd;
}

pub written_well_formed : IsWellFormed written_shape
unfolding table_length
written_well_formed = let w = plain_well_formed 64 first_slot (codes "b") (lit≤ tt) refl in record {
  geometry = w.geometry;
  blocks = w.blocks;
  sequence = w.sequence;
  room = w.room;
  few = w.few;
  images_in_order = w.images_in_order;
  one_image = w.one_image;
  images = λ i here. let r = w.images i here in record { named = r.named; whole = r.whole; volume = r.volume; table = r.table; raw = r.raw };
  parents = w.parents;
  chains = w.chains;
  bases = w.bases;
  records_in_order = w.records_in_order;
  one_record = w.one_record;
  disks = w.disks;
  visible = w.visible;
  attachments = attachments_right;
  operation = tt;
}

-- ---- memory

-- the images stand in their volumes where the slots have room
abbrev pub AreStanding : List (Option ℕ) → Type 0
AreStanding slots = (r : TreeRow) → In r (rows_with slots) → StandsIn sizes (r.extents * 32) r.image

pub stand_right : (slots : List (Option ℕ)) → length slots ≡ 64 → AreWithin slots → HasRoomFor sizes (top_of slots) 160 → AreStanding slots
stand_right slots long within room = each (λ r. StandsIn sizes (r.extents * 32) r.image) (rows_with slots) (
  lit≤ tt,
  (record { entries = long; block = refl; size = refl; least = lit≤ tt; most = lit≤ tt; sized = within; room = room }, tt),
)

first_room : HasRoomFor sizes (top_of first_slot) 160
unfolding first_sector div_up
first_room = lit≤ tt

pub first_stands : AreStanding first_slot
first_stands = stand_right first_slot refl (front_within (Some 0 ∷ []) 63 (lit≤ tt)) first_room

-- orderly where the group is small and the images stand
pub orderly_with : (count : ℕ) (slots : List (Option ℕ)) (label : List ℕ) → 64 ≤ count → length slots ≡ 64 → count ≤ extent_limit → AreStanding slots → IsOrderly (site_of count) plain_table (known_with slots label)
unfolding record_extents div_up refs row_of name_eq numbers shape_in
orderly_with count slots label many long most stands = record {
  table = plain_is_table count many;
  few_extents = most;
  record_volume = refl;
  few = lit≤ tt;
  new_named = λ r here new. absurd (let e = sym (none_new r here) ∙ new in (let x = e in cc));
  images = plain_faces slots;
  logs = λ u. refl;
  few_logs = lit≤ tt;
  logs_in_order = rising_first;
  log_room = λ l i. absurd i;
  places = refl;
  entries = refl;
  stands = stands;
  well_formed = ∣ subst IsWellFormed (sym (has_shape count slots label)) (plain_well_formed count slots label many long) ∣₁;
  roomy = tt;
  counts = λ n. refl;
}

pub plain_has_shape : shape_in site plain_table plain_known ≡ plain_shape
plain_has_shape = has_shape 64 first_slot (codes "b")

pub plain_orderly : IsOrderly site plain_table plain_known
plain_orderly = orderly_with 64 first_slot (codes "b") (lit≤ tt) refl (lit≤ tt) first_stands

-- the disk's own image is used once, and nothing else
used_once : (n : Name) (b c : Bool) → b ≡ c → unwrap_or (cond b (Some 1) None) 0 ≡ length (cond (c || false) written_shape.attached [])
used_once n true true same = refl
used_once n false false same = refl
used_once n true false same = absurd (let e = same in cc)
used_once n false true same = absurd (let e = same in cc)

written_counts : (n : Name) → count_of written_known.attached n ≡ refs n (shape_in site plain_table written_known)
unfolding refs image_uuid same_image chain shape_in
written_counts n = used_once n (same_name n (Vhd first)) (same_image n (Vhd first)) (alike n first)

pub written_orderly : IsOrderly site plain_table written_known
unfolding record_extents div_up row_of name_eq numbers shape_in
written_orderly = record {
  table = plain_is_table 64 (lit≤ tt);
  few_extents = lit≤ tt;
  record_volume = refl;
  few = lit≤ tt;
  new_named = λ r here new. absurd (let e = sym (none_new r here) ∙ new in (let x = e in cc));
  images = plain_faces first_slot;
  logs = λ u. refl;
  few_logs = lit≤ tt;
  logs_in_order = rising_first;
  log_room = λ l i. absurd i;
  places = refl;
  entries = refl;
  stands = first_stands;
  well_formed = ∣ subst IsWellFormed (sym written_has_shape) written_well_formed ∣₁;
  roomy = tt;
  counts = written_counts;
}
