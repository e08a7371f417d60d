-- Table and memory of a disk and its snapshot are orderly.
use Rattle.std.proofs.Common.{◌≡◌, inl, inr, ℕ, ◌*◌, ◌<◌, ◌^◌, ◌++◌, arith, true, false, List, [], ◌∷◌, Some, None, refl, sym, ◌∙◌, subst, lit≤, lit<, bytes_eq}
use Rattle.std.proofs.lemmas.Option.{none-some}
use Rattle.std.specs.List.Sorted.{IsStrictlySortedBy}
use Rattle.sm_base.specs.Kinds.{is_image}
use Rattle.sm_base.specs.Names.{IsName, name_cmp, spelling, uuid_text, base_uuid}
use Rattle.sm_base.specs.Numbers.{first as first_sector, div_up}
use Rattle.sm_base.specs.declared.names.Name.{Name}
use Rattle.sm_base.specs.declared.names.Name.TheVariants.{Mgt, Raw, Vhd, Old, Cbt, Clone, Inflate, Coalesce, Relink, Leaf}
use Rattle.uuid.specs.Text.{by_index}
use Rattle.common_laws.specs.Lists.{In, numbers, insert_by}
use Rattle.vg_meta.specs.Tables.{IsTable, Row, rows, row_of, name_eq}
use Rattle.vg_layout.specs.Places.{record_extents}
use Rattle.sm_log.specs.Logs.{log_extents}
use Rattle.sm_machine.specs.Shapes.{ImageRow, DiskRecord, chain_limit, image_uuid, is_vhd, image_extents, same_image, refs}
use Rattle.sm_machine.specs.Steps.{with_record}
use Rattle.sm_machine.specs.WellFormed.{IsWellFormed, IsImageRow, HasParent, HasImage, HasRecord, EndsWithin, is_image_name, table_length, name_le, uuid_le}
use Rattle.vhd_chain.specs.Trees.{tree_row}
use Rattle.vhd_chain.specs.declared.rows.TreeRow.{TreeRow}
use Rattle.vhd_image.specs.Bodies.{StandsIn}
use Rattle.sm_logs.proofs.OrderLaws.{rising_first}
use Rattle.sm_ready.specs.Known.{row_face, tree_face, shape_in, records_in}
use Rattle.sm_ready.specs.Orderly.{IsOrderly}
use Rattle.examples_moments.specs.Worked.{first, second, base}
use Rattle.examples_ready.specs.WorkedRows.{sizes, sizes_in_range, site}
use Rattle.examples_ready.specs.Repositories.{pair_table, pair_known, pair_shape}
use Rattle.examples_ready.proofs.ShapeSteps.{sorted_by, apart_by, no_base, base_low, one_parent}
use Rattle.examples_ready.proofs.SlotSteps.{front_within}
use Rattle.examples_ready.proofs.TableSteps.{each, below_by, distinct_by, first_uuid, second_uuid, base_uuid_right, face_step}

-- ---- the table

abbrev used : List ℕ
used = numbers 0 16 ++ (numbers 21 10 ++ numbers 16 5)

pub pair_is_table : IsTable 64 pair_table
unfolding IsName IsStrictlySortedBy name_cmp spelling uuid_text by_index numbers
pair_is_table = record {
  sequence = lit< tt;
  volumes = record {
    each = (record { name = tt; kind = refl }, (record { name = first_uuid; kind = refl }, (record { name = second_uuid; kind = refl }, (record { name = base_uuid_right; kind = refl }, tt))));
    rising = ((refl, (refl, (refl, tt))), ((refl, (refl, tt)), ((refl, tt), (tt, tt))));
    below = below_by 64 used refl;
    distinct = distinct_by used refl;
  };
}

pub pair_faces : (n : Name) → is_image n ≡ true → row_face (rows pair_table n) ≡ tree_face (tree_row pair_known.rows n)
unfolding row_of name_eq tree_row numbers
pair_faces Mgt h = absurd (let e = h in cc)
pair_faces (Vhd u) h = face_step (bytes_eq first u) _ _ _ _ refl (face_step (bytes_eq second u) _ _ _ _ refl (face_step (bytes_eq base u) _ _ None None refl refl))
pair_faces (Raw u) h = refl
pair_faces (Old u) h = refl
pair_faces (Cbt u) h = refl
pair_faces (Clone a b c) h = absurd (let e = h in cc)
pair_faces (Inflate a n) h = absurd (let e = h in cc)
pair_faces (Coalesce a b) h = absurd (let e = h in cc)
pair_faces (Relink a b) h = absurd (let e = h in cc)
pair_faces (Leaf a b) h = absurd (let e = h in cc)

pub none_new : (r : Row) → In r pair_table.volumes → r.fresh ≡ false
none_new = each (λ r. r.fresh ≡ false) pair_table.volumes (refl, (refl, (refl, (refl, tt))))

-- ---- the shape

pub pair_has_shape : shape_in site pair_table pair_known ≡ pair_shape
unfolding shape_in records_in with_record insert_by record_extents div_up image_uuid log_extents
pair_has_shape = refl

abbrev images : List ImageRow
images = pair_shape.images

images_right : (i : ImageRow) → In i images → IsImageRow pair_shape i
unfolding is_image_name table_length is_vhd
images_right = each (IsImageRow pair_shape) images (
  record { named = refl; whole = (16, refl, lit< tt, lit≤ tt); volume = lit< tt; table = refl; raw = λ e. absurd (let x = e in cc) },
  (
    record { named = refl; whole = (16, refl, lit< tt, lit≤ tt); volume = lit< tt; table = refl; raw = λ e. absurd (let x = e in cc) },
    (record { named = refl; whole = (16, refl, lit< tt, lit≤ tt); volume = lit< tt; table = refl; raw = λ e. absurd (let x = e in cc) }, tt),
  ),
)

-- one of 64 KiB over the base
over_base : (i : ImageRow) → i.size ≡ 128 → (p : Name) → Some (Vhd base) ≡ Some p → HasParent images i p
over_base i size p e = one_parent (λ q. HasParent images i q) (Vhd base) p (record { parent = _; there = inr (inr (inl refl)); is_named = refl; is_hidden = refl; not_larger = omega (arith, size) }) e

parents_right : (i : ImageRow) (p : Name) → In i images → i.parent ≡ Some p → HasParent images i p
parents_right i p here = each (λ i. i.parent ≡ Some p → HasParent images i p) images (λ e. over_base _ refl p e, (λ e. over_base _ refl p e, (λ e. absurd (none-some p e), tt))) i here

chains_right : (i : ImageRow) → In i images → EndsWithin chain_limit (Some i.name) images
unfolding same_image
chains_right = each (λ i. EndsWithin chain_limit (Some i.name) images) images (tt, (tt, (tt, tt)))

bases_right : (i : ImageRow) (n : ℕ) → In i images → n < 2 ^ 48 → image_uuid i.name ≡ base_uuid n → n < 4
unfolding image_uuid
bases_right i n here fits = each (λ i. image_uuid i.name ≡ base_uuid n → n < 4) images
    (λ e. absurd (no_base first n refl e), (λ e. absurd (no_base second n refl e), (λ e. base_low n fits e, tt))) i here

disks_right : (r : DiskRecord) → In r pair_shape.records → HasImage pair_shape r.uuid
unfolding image_uuid
disks_right = each (λ r. HasImage pair_shape r.uuid) pair_shape.records ((_, inl refl, refl, refl), ((_, inr (inl refl), refl, refl), tt))

visible_right : (i : ImageRow) → In i images → i.hidden ≡ false → HasRecord pair_shape (image_uuid i.name)
unfolding image_uuid
visible_right = each (λ i. i.hidden ≡ false → HasRecord pair_shape (image_uuid i.name)) images
    (λ e. (_, inl refl, refl), (λ e. (_, inr (inl refl), refl), (λ e. absurd (let x = e in cc), tt)))

pub pair_well_formed : IsWellFormed pair_shape
unfolding image_extents image_uuid name_cmp spelling uuid_text by_index
pair_well_formed = record {
  geometry = sizes_in_range;
  blocks = (4, refl);
  sequence = lit≤ tt;
  room = lit≤ tt;
  few = lit≤ tt;
  images_in_order = sorted_by name_le (Vhd first ∷ Vhd second ∷ Vhd base ∷ []) refl;
  one_image = apart_by (first ∷ second ∷ base ∷ []) refl;
  images = images_right;
  parents = parents_right;
  chains = chains_right;
  bases = bases_right;
  records_in_order = sorted_by uuid_le (first ∷ second ∷ []) refl;
  one_record = apart_by (first ∷ second ∷ []) refl;
  disks = disks_right;
  visible = visible_right;
  attachments = record { once = tt; disks = λ a k. absurd k; writable = λ a r k q l f. absurd k; thick = λ a i k q l f j v. absurd k };
  operation = tt;
}

-- ---- memory

stand_right : (r : TreeRow) → In r pair_known.rows → StandsIn sizes (r.extents * 32) r.image
unfolding first_sector div_up
stand_right = each (λ r. StandsIn sizes (r.extents * 32) r.image) pair_known.rows (
  record { entries = refl; block = refl; size = refl; least = lit≤ tt; most = lit≤ tt; sized = front_within (Some 0 ∷ []) 63 (lit≤ tt); room = lit≤ tt },
  (
    record { entries = refl; block = refl; size = refl; least = lit≤ tt; most = lit≤ tt; sized = front_within [] 64 (lit≤ tt); room = lit≤ tt },
    (record { entries = refl; block = refl; size = refl; least = lit≤ tt; most = lit≤ tt; sized = front_within (Some 0 ∷ []) 63 (lit≤ tt); room = lit≤ tt }, tt),
  ),
)

pub pair_orderly : IsOrderly site pair_table pair_known
unfolding record_extents div_up refs row_of name_eq numbers shape_in
pair_orderly = record {
  table = pair_is_table;
  few_extents = lit≤ tt;
  record_volume = refl;
  few = lit≤ tt;
  new_named = λ r here new. absurd (let e = sym (none_new r here) ∙ new in (let x = e in cc));
  images = pair_faces;
  logs = λ u. refl;
  few_logs = lit≤ tt;
  logs_in_order = rising_first;
  log_room = λ l i. absurd i;
  places = refl;
  entries = refl;
  stands = stand_right;
  well_formed = ∣ subst IsWellFormed (sym pair_has_shape) pair_well_formed ∣₁;
  roomy = tt;
  counts = λ n. refl;
}
