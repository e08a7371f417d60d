-- A disk over a hidden image over a hidden base: under any operation that fits, its shape is well formed and its images stand.
use Rattle.std.proofs.Common.{Option, length, ◌≡◌, inl, inr, ℕ, ◌*◌, ◌<◌, ◌≤◌, ◌^◌, ◌++◌, arith, true, false, List, [], ◌∷◌, Some, refl, ap, lit≤, lit<}
use Rattle.std.proofs.lemmas.Option.{none-some}
use Rattle.sm_base.specs.Names.{name_cmp, spelling, uuid_text, base_uuid}
use Rattle.sm_base.specs.Numbers.{first as first_sector, div_up}
use Rattle.sm_base.specs.declared.names.Name.{Name}
use Rattle.sm_log.specs.Logs.{log_extents}
use Rattle.sm_machine.specs.Operations.{Op, Idle}
use Rattle.sm_base.specs.declared.names.Name.TheVariants.{Vhd}
use Rattle.uuid.specs.Text.{by_index}
use Rattle.common_laws.specs.Lists.{In, numbers, insert_by}
use Rattle.vg_meta.specs.Tables.{VolumeTable, Row}
use Rattle.vg_layout.specs.Places.{record_extents}
use Rattle.sm_machine.specs.Shapes.{Shape, ImageRow, DiskRecord, chain_limit, image_uuid, is_vhd, image_extents, same_image}
use Rattle.sm_machine.specs.Steps.{with_record}
use Rattle.sm_machine.specs.WellFormed.{IsWellFormed, IsImageRow, HasParent, HasImage, HasRecord, EndsWithin, IsChild, IsOperation, is_image_name, table_length, name_le, uuid_le}
use Rattle.vhd_chain.specs.declared.rows.TreeRow.{TreeRow}
use Rattle.vhd_image.specs.Bodies.{StandsIn}
use Rattle.vhd_map.specs.Slots.{top_of}
use Rattle.vhd_volumes.specs.Truth.{HasRoomFor}
use Rattle.sm_ready.specs.Known.{shape_in, records_in}
use Rattle.examples_moments.specs.Worked.{first, second, base}
use Rattle.examples_ready.specs.WorkedRows.{sizes, sizes_in_range, site, first_slot}
use Rattle.examples_ready.specs.Repositories.{chain_table, chain_known, chain_shape}
use Rattle.examples_ready.proofs.ShapeSteps.{sorted_by, apart_by, no_base, base_low, one_parent}
use Rattle.examples_ready.proofs.SlotSteps.{AreWithin, front_within}
use Rattle.examples_ready.proofs.TableSteps.{each}

-- ---- the table

abbrev pub used : List ℕ
used = numbers 0 16 ++ (numbers 21 10 ++ numbers 16 5)

pub none_new : (entry : Name) (r : Row) → In r (chain_table entry).volumes → r.fresh ≡ false
none_new entry = each (λ r. r.fresh ≡ false) (chain_table entry).volumes (refl, (refl, (refl, (refl, (refl, tt)))))

-- ---- the shape

module _ (operation : Op) (slots : List (Option ℕ)) (n : ℕ) where
  abbrev pub shape : Shape
  shape = chain_shape operation slots n

  abbrev pub images : List ImageRow
  images = shape.images

  pub chain_has_shape : (t : VolumeTable) → t.sequence ≡ 4 → shape_in site t (chain_known operation slots n) ≡ shape
  unfolding shape_in records_in with_record insert_by record_extents div_up image_uuid log_extents
  chain_has_shape t is = ap (λ k. record shape { sequence = k }) is

  images_right : length slots ≡ 64 → 0 < n → (i : ImageRow) → In i images → IsImageRow shape i
  unfolding is_image_name table_length is_vhd
  images_right long some = each (IsImageRow shape) images (
    record { named = refl; whole = (16, refl, lit< tt, lit≤ tt); volume = lit< tt; table = refl; raw = λ e. absurd (let x = e in cc) },
    (
      record { named = refl; whole = (16, refl, lit< tt, lit≤ tt); volume = lit< tt; table = long; raw = λ e. absurd (let x = e in cc) },
      (record { named = refl; whole = (16, refl, lit< tt, lit≤ tt); volume = some; table = refl; raw = λ e. absurd (let x = e in cc) }, tt),
    ),
  )

  -- ones of 64 KiB over the hidden image and over the base
  over_second : (i : ImageRow) → i.size ≡ 128 → (p : Name) → Some (Vhd second) ≡ Some p → HasParent images i p
  over_second i size p e = one_parent (λ q. HasParent images i q) (Vhd second) p (record { parent = _; there = inr (inl refl); is_named = refl; is_hidden = refl; not_larger = omega (arith, size) }) e

  over_base : (i : ImageRow) → i.size ≡ 128 → (p : Name) → Some (Vhd base) ≡ Some p → HasParent images i p
  over_base i size p e =
      one_parent (λ q. HasParent images i q) (Vhd base) p (record { parent = _; there = inr (inr (inl refl)); is_named = refl; is_hidden = refl; not_larger = omega (arith, size) }) e

  parents_right : (i : ImageRow) (p : Name) → In i images → i.parent ≡ Some p → HasParent images i p
  parents_right i p here = each (λ i. i.parent ≡ Some p → HasParent images i p) images (λ e. over_second _ refl p e, (λ e. over_base _ refl p e, (λ e. absurd (none-some p e), tt))) i here

  chains_right : (i : ImageRow) → In i images → EndsWithin chain_limit (Some i.name) images
  unfolding same_image
  chains_right = each (λ i. EndsWithin chain_limit (Some i.name) images) images (tt, (tt, (tt, tt)))

  bases_right : (i : ImageRow) (k : ℕ) → In i images → k < 2 ^ 48 → image_uuid i.name ≡ base_uuid k → k < 4
  unfolding image_uuid
  bases_right i k here fits = each (λ i. image_uuid i.name ≡ base_uuid k → k < 4) images
      (λ e. absurd (no_base first k refl e), (λ e. absurd (no_base second k refl e), (λ e. base_low k fits e, tt))) i here

  disks_right : (r : DiskRecord) → In r shape.records → HasImage shape r.uuid
  unfolding image_uuid
  disks_right = each (λ r. HasImage shape r.uuid) shape.records ((_, inl refl, refl, refl), tt)

  visible_right : (i : ImageRow) → In i images → i.hidden ≡ false → HasRecord shape (image_uuid i.name)
  unfolding image_uuid
  visible_right = each (λ i. i.hidden ≡ false → HasRecord shape (image_uuid i.name)) images
      (λ e. (_, inl refl, refl), (λ e. absurd (let x = e in cc), (λ e. absurd (let x = e in cc), tt)))

  -- the hidden image reads through the base
  unfoldable pub hidden_child : IsChild shape true (Vhd second) (Vhd base)
  unfolding is_vhd
  hidden_child = record { child = _; there = inr (inl refl); is_named = refl; is_shown = refl; vhd = refl; linked = refl }

  pub chain_well_formed : length slots ≡ 64 → 0 < n → n ≤ 5 → IsOperation shape operation → IsWellFormed shape
  unfolding image_extents image_uuid name_cmp spelling uuid_text by_index
  chain_well_formed long some few runs = record {
    geometry = sizes_in_range;
    blocks = (4, refl);
    sequence = lit≤ tt;
    room = omega (arith, few);
    few = lit≤ tt;
    images_in_order = sorted_by name_le (Vhd first ∷ Vhd second ∷ Vhd base ∷ []) refl;
    one_image = apart_by (first ∷ second ∷ base ∷ []) refl;
    images = images_right long some;
    parents = parents_right;
    chains = chains_right;
    bases = bases_right;
    records_in_order = sorted_by uuid_le (first ∷ []) refl;
    one_record = apart_by (first ∷ []) refl;
    disks = disks_right;
    visible = visible_right;
    attachments = record { once = tt; disks = λ a k. absurd k; writable = λ a r k q l f. absurd k; thick = λ a i k q l f j v. absurd k };
    operation = runs;
  }

-- ---- memory

-- the images stand where the slots have room
pub chain_stands : (slots : List (Option ℕ)) (n : ℕ) → length slots ≡ 64 → AreWithin slots → HasRoomFor sizes (top_of slots) 160 → 0 < n
    → (r : TreeRow) → In r (chain_known Idle slots n).rows → StandsIn sizes (r.extents * 32) r.image
unfolding first_sector div_up
chain_stands slots n long within room some = each (λ r. StandsIn sizes (r.extents * 32) r.image) (chain_known Idle slots n).rows (
  record { entries = refl; block = refl; size = refl; least = lit≤ tt; most = lit≤ tt; sized = front_within [] 64 (lit≤ tt); room = lit≤ tt },
  (
    record { entries = long; block = refl; size = refl; least = lit≤ tt; most = lit≤ tt; sized = within; room = room },
    (record { entries = refl; block = refl; size = refl; least = lit≤ tt; most = lit≤ tt; sized = front_within (Some 0 ∷ []) 63 (lit≤ tt); room = base_room }, tt),
  ),
)
  where
    base_room : 14 ≤ n * 32
    base_room = omega (arith, some)

pub one_room : HasRoomFor sizes (top_of first_slot) 160
unfolding first_sector div_up
one_room = lit≤ tt
