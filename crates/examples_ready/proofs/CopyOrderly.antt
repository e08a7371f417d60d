-- Table and memory of a copy that is under way are orderly.
use Rattle.std.proofs.Common.{Option, ◌≡◌, ℕ, ◌≤◌, max, true, List, [], ◌∷◌, Some, None, refl, sym, ap, ◌∙◌, subst, lit≤, lit<, bytes_eq}
use Rattle.std.proofs.lemmas.Option.{none-some, same_Some}
use Rattle.std.specs.List.Sorted.{IsStrictlySortedBy}
use Rattle.sm_base.specs.Kinds.{is_image}
use Rattle.sm_base.specs.Names.{IsName, name_cmp, spelling, uuid_text}
use Rattle.sm_base.specs.Numbers.{thin, first as first_sector, div_up}
use Rattle.sm_base.specs.declared.names.Name.{Name}
use Rattle.sm_base.specs.declared.names.Name.TheVariants.{Mgt, Raw, Vhd, Old, Cbt, Clone, Inflate, Coalesce, Relink, Leaf}
use Rattle.uuid.specs.Text.{by_index}
use Rattle.common_laws.specs.Lists.{In, numbers}
use Rattle.vg_meta.specs.Tables.{IsTable, rows, row_of, name_eq}
use Rattle.vg_layout.specs.Places.{record_extents}
use Rattle.sm_machine.specs.Shapes.{ImageRow, count_blocks, image_uuid, is_vhd, refs, thin_in, top}
use Rattle.sm_machine.specs.Collector.{count_either}
use Rattle.sm_machine.specs.WellFormed.{IsWellFormed, IsOperation}
use Rattle.vhd_chain.specs.Trees.{tree_row}
use Rattle.sm_logs.proofs.OrderLaws.{rising_first}
use Rattle.sm_ready.specs.Known.{row_face, tree_face, shape_in}
use Rattle.sm_ready.specs.Orderly.{IsOrderly}
use Rattle.examples_moments.specs.Worked.{first, second, base}
use Rattle.examples_ready.specs.WorkedRows.{site, no_slots, first_slot}
use Rattle.examples_ready.specs.Repositories.{chain_shape, copy, copy_table, copy_known, copy_shape}
use Rattle.examples_ready.proofs.ChainOrderly.{used, none_new, images, hidden_child, chain_has_shape, chain_well_formed, chain_stands, one_room}
use Rattle.examples_ready.proofs.ShapeSteps.{differ}
use Rattle.examples_ready.proofs.SlotSteps.{front_within}
use Rattle.examples_ready.proofs.TableSteps.{each, below_by, distinct_by, first_uuid, second_uuid, base_uuid_right, face_step}

-- ---- the table

pub copy_is_table : IsTable 64 copy_table
unfolding IsName IsStrictlySortedBy name_cmp spelling uuid_text by_index numbers
copy_is_table = record {
  sequence = lit< tt;
  volumes = record {
    each = (record { name = tt; kind = refl }, (record { name = first_uuid; kind = refl }, (record { name = second_uuid; kind = refl }, (record { name = base_uuid_right; kind = refl }, (record { name = (second_uuid, base_uuid_right); kind = refl }, tt)))));
    rising = ((refl, (refl, (refl, (refl, tt)))), ((refl, (refl, (refl, tt))), ((refl, (refl, tt)), ((refl, tt), (tt, tt)))));
    below = below_by 64 used refl;
    distinct = distinct_by used refl;
  };
}

pub copy_faces : (n : Name) → is_image n ≡ true → row_face (rows copy_table n) ≡ tree_face (tree_row copy_known.rows n)
unfolding row_of name_eq tree_row numbers
copy_faces Mgt h = absurd (let e = h in cc)
copy_faces (Vhd u) h = face_step (bytes_eq first u) _ _ _ _ refl (face_step (bytes_eq second u) _ _ _ _ refl (face_step (bytes_eq base u) _ _ None None refl refl))
copy_faces (Raw u) h = refl
copy_faces (Old u) h = refl
copy_faces (Cbt u) h = refl
copy_faces (Clone a b c) h = absurd (let e = h in cc)
copy_faces (Inflate a n) h = absurd (let e = h in cc)
copy_faces (Coalesce a b) h = absurd (let e = h in cc)
copy_faces (Relink a b) h = absurd (let e = h in cc)
copy_faces (Leaf a b) h = absurd (let e = h in cc)

-- ---- the shape

uuid_of_name : Name → List ℕ
uuid_of_name (Vhd u) = u
uuid_of_name _ = []

vhd_same : (u v : List ℕ) → Vhd u ≡ Vhd v → u ≡ v
unfolding uuid_of_name
vhd_same u v e = ap uuid_of_name e

module _ (slots : List (Option ℕ)) (n : ℕ) where
  -- the hidden image is the only one over the base, and the disk's image is over another
  only_second : (i : ImageRow) → In i (images copy slots n) → i.parent ≡ Some (Vhd base) → i.name ≡ Vhd second
  only_second = each (λ i. i.parent ≡ Some (Vhd base) → i.name ≡ Vhd second) (images copy slots n)
      (λ e. absurd (differ second base refl (vhd_same second base (same_Some (Vhd second) (Vhd base) e))), (λ e. refl, (λ e. absurd (none-some (Vhd base) e), tt)))

  pub copy_runs : IsOperation (chain_shape copy slots n) copy
  unfolding hidden_child
  copy_runs = record {
    link = hidden_child copy slots n;
    only = only_second;
    same_size = λ q there named. each (λ i. i.size ≡ 128) (images copy slots n) (refl, (refl, (refl, tt))) q there;
  }

-- the base has room for its one slot and for the hidden image's
base_roomy : (i q : ImageRow) → In i copy_shape.images → In q copy_shape.images → i.name ≡ Vhd second → q.name ≡ Vhd base → is_vhd (Vhd base) ≡ true
    → thin_in copy_shape (max (top q.slots) (count_either q.slots i.slots)) ≤ q.extents
unfolding thin first_sector div_up top count_either count_blocks
base_roomy i q here there named under vhd = each (λ i. thin_in copy_shape (max (top q.slots) (count_either q.slots i.slots)) ≤ q.extents) copy_shape.images
    (over_empty, (over_first, (over_first, tt))) i here
  where
    over_empty : thin_in copy_shape (max (top q.slots) (count_either q.slots no_slots)) ≤ q.extents
    over_empty = each (λ q. thin_in copy_shape (max (top q.slots) (count_either q.slots no_slots)) ≤ q.extents) copy_shape.images (lit≤ tt, (lit≤ tt, (lit≤ tt, tt))) q there

    over_first : thin_in copy_shape (max (top q.slots) (count_either q.slots first_slot)) ≤ q.extents
    over_first = each (λ q. thin_in copy_shape (max (top q.slots) (count_either q.slots first_slot)) ≤ q.extents) copy_shape.images (lit≤ tt, (lit≤ tt, (lit≤ tt, tt))) q there

pub copy_has_shape : shape_in site copy_table copy_known ≡ copy_shape
copy_has_shape = chain_has_shape copy first_slot 5 copy_table refl

pub copy_orderly : IsOrderly site copy_table copy_known
unfolding record_extents div_up refs row_of name_eq numbers shape_in image_uuid
copy_orderly = record {
  table = copy_is_table;
  few_extents = lit≤ tt;
  record_volume = refl;
  few = lit≤ tt;
  new_named = λ r here new. absurd (let e = sym (none_new (Coalesce second base) r here) ∙ new in (let x = e in cc));
  images = copy_faces;
  logs = λ u. refl;
  few_logs = lit≤ tt;
  logs_in_order = rising_first;
  log_room = λ l i. absurd i;
  places = refl;
  entries = refl;
  stands = chain_stands first_slot 5 refl (front_within (Some 0 ∷ []) 63 (lit≤ tt)) one_room (lit< tt);
  well_formed = ∣ subst IsWellFormed (sym copy_has_shape) (chain_well_formed copy first_slot 5 refl (lit< tt) (lit≤ tt) (copy_runs first_slot 5)) ∣₁;
  roomy = base_roomy;
  counts = λ n. refl;
}
