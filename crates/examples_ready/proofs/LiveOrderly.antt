-- Table and memory are orderly while the leaf of an attached disk is folded, and block 0 may be dirty.
use Rattle.std.proofs.Common.{◌≡◌, inl, inr, ℕ, ◌*◌, ◌<◌, ◌≤◌, ◌^◌, ◌++◌, ◌||◌, max, Bool, true, false, cond, List, [], ◌∷◌, length, Some, None, refl, sym, ◌∙◌, subst, arith, lit≤, lit<, bytes_eq, unwrap_or}
use Rattle.std.proofs.lemmas.Option.{none-some}
use Rattle.std.specs.List.Sorted.{IsStrictlySortedBy}
use Rattle.sm_base.specs.Kinds.{is_image}
use Rattle.sm_base.specs.Names.{IsName, name_cmp, spelling, uuid_text, base_uuid}
use Rattle.sm_base.specs.Numbers.{thick, thin, first as first_sector, div_up}
use Rattle.sm_base.specs.declared.names.Name.{Name}
use Rattle.sm_base.specs.declared.names.Name.TheVariants.{Mgt, Raw, Vhd, Old, Cbt, Clone, Inflate, Coalesce, Relink, Leaf}
use Rattle.uuid.specs.Text.{by_index}
use Rattle.common_laws.specs.Lists.{In, numbers, insert_by}
use Rattle.vg_meta.specs.Tables.{IsTable, Row, rows, row_of, name_eq}
use Rattle.vg_layout.specs.Places.{record_extents}
use Rattle.sm_refs.specs.Attached.{count_of, same_name}
use Rattle.sm_log.specs.Logs.{log_extents}
use Rattle.sm_machine.specs.Collector.{count_either}
use Rattle.sm_machine.specs.Shapes.{ImageRow, DiskRecord, chain, chain_limit, count_blocks, image_extents, image_uuid, is_there, is_vhd, refs, same_image, slot_at, thick_in, thin_in, top}
use Rattle.sm_machine.specs.Steps.{with_record}
use Rattle.sm_machine.specs.WellFormed.{IsWellFormed, IsImageRow, IsLive, IsOnlyChild, HasParent, HasImage, HasRecord, AreAttachments, EndsWithin, is_image_name, table_length, name_le, uuid_le}
use Rattle.vhd_chain.specs.Trees.{tree_row}
use Rattle.vhd_chain.specs.declared.rows.TreeRow.{TreeRow}
use Rattle.vhd_image.specs.Bodies.{StandsIn}
use Rattle.sm_logs.proofs.OrderLaws.{rising_first}
use Rattle.sm_ready.specs.Known.{row_face, tree_face, shape_in, records_in}
use Rattle.sm_ready.specs.Orderly.{IsOrderly}
use Rattle.examples_moments.specs.Worked.{first, base, leaf_copied}
use Rattle.examples_ready.specs.WorkedRows.{sizes, sizes_in_range, site, first_slot}
use Rattle.examples_ready.specs.Repositories.{live_known, live_shape}
use Rattle.examples_ready.proofs.ShapeSteps.{sorted_by, apart_by, no_base, base_low, one_parent}
use Rattle.examples_ready.proofs.SlotSteps.{front_within}
use Rattle.examples_ready.proofs.TableSteps.{alike, each, below_by, distinct_by, first_uuid, base_uuid_right, face_step}

-- ---- the table

abbrev used : List ℕ
used = numbers 0 16 ++ (numbers 21 5 ++ numbers 16 5)

pub live_is_table : IsTable 64 leaf_copied
unfolding IsName IsStrictlySortedBy name_cmp spelling uuid_text by_index numbers
live_is_table = record {
  sequence = lit< tt;
  volumes = record {
    each = (record { name = tt; kind = refl }, (record { name = first_uuid; kind = refl }, (record { name = base_uuid_right; kind = refl }, (record { name = (first_uuid, base_uuid_right); kind = refl }, tt))));
    rising = ((refl, (refl, (refl, tt))), ((refl, (refl, tt)), ((refl, tt), (tt, tt))));
    below = below_by 64 used refl;
    distinct = distinct_by used refl;
  };
}

pub none_new : (r : Row) → In r leaf_copied.volumes → r.fresh ≡ false
none_new = each (λ r. r.fresh ≡ false) leaf_copied.volumes (refl, (refl, (refl, (refl, tt))))

-- ---- the shape

module _ (dirty : List ℕ) where
  live_faces : (n : Name) → is_image n ≡ true → row_face (rows leaf_copied n) ≡ tree_face (tree_row (live_known dirty).rows n)
  unfolding row_of name_eq tree_row numbers
  live_faces Mgt h = absurd (let e = h in cc)
  live_faces (Vhd u) h = face_step (bytes_eq first u) _ _ _ _ refl (face_step (bytes_eq base u) _ _ None None refl refl)
  live_faces (Raw u) h = refl
  live_faces (Old u) h = refl
  live_faces (Cbt u) h = refl
  live_faces (Clone a b c) h = absurd (let e = h in cc)
  live_faces (Inflate a n) h = absurd (let e = h in cc)
  live_faces (Coalesce a b) h = absurd (let e = h in cc)
  live_faces (Relink a b) h = absurd (let e = h in cc)
  live_faces (Leaf a b) h = absurd (let e = h in cc)

  pub live_has_shape : shape_in site leaf_copied (live_known dirty) ≡ live_shape dirty
  unfolding shape_in records_in with_record insert_by record_extents div_up image_uuid log_extents
  live_has_shape = refl

  abbrev images : List ImageRow
  images = (live_shape dirty).images

  images_right : (i : ImageRow) → In i images → IsImageRow (live_shape dirty) i
  unfolding is_image_name table_length is_vhd
  images_right = each (IsImageRow (live_shape dirty)) images (
    record { named = refl; whole = (16, refl, lit< tt, lit≤ tt); volume = lit< tt; table = refl; raw = λ e. absurd (let x = e in cc) },
    (record { named = refl; whole = (16, refl, lit< tt, lit≤ tt); volume = lit< tt; table = refl; raw = λ e. absurd (let x = e in cc) }, tt),
  )

  over_base : (i : ImageRow) → i.size ≡ 128 → (p : Name) → Some (Vhd base) ≡ Some p → HasParent images i p
  over_base i size p e = one_parent (λ q. HasParent images i q) (Vhd base) p (record { parent = _; there = inr (inl refl); is_named = refl; is_hidden = refl; not_larger = omega (arith, size) }) e

  parents_right : (i : ImageRow) (p : Name) → In i images → i.parent ≡ Some p → HasParent images i p
  parents_right i p here = each (λ i. i.parent ≡ Some p → HasParent images i p) images (λ e. over_base _ refl p e, (λ e. absurd (none-some p e), tt)) i here

  chains_right : (i : ImageRow) → In i images → EndsWithin chain_limit (Some i.name) images
  unfolding same_image
  chains_right = each (λ i. EndsWithin chain_limit (Some i.name) images) images (tt, (tt, tt))

  bases_right : (i : ImageRow) (n : ℕ) → In i images → n < 2 ^ 48 → image_uuid i.name ≡ base_uuid n → n < 4
  unfolding image_uuid
  bases_right i n here fits = each (λ i. image_uuid i.name ≡ base_uuid n → n < 4) images (λ e. absurd (no_base first n refl e), (λ e. base_low n fits e, tt)) i here

  disks_right : (r : DiskRecord) → In r (live_shape dirty).records → HasImage (live_shape dirty) r.uuid
  unfolding image_uuid
  disks_right = each (λ r. HasImage (live_shape dirty) r.uuid) (live_shape dirty).records ((_, inl refl, refl, refl), tt)

  visible_right : (i : ImageRow) → In i images → i.hidden ≡ false → HasRecord (live_shape dirty) (image_uuid i.name)
  unfolding image_uuid
  visible_right = each (λ i. i.hidden ≡ false → HasRecord (live_shape dirty) (image_uuid i.name)) images (λ e. (_, inl refl, refl), (λ e. absurd (let x = e in cc), tt))

  -- each image has extents for all of its blocks
  all_thick : (i : ImageRow) → In i images → thick_in (live_shape dirty) i.size ≤ i.extents
  unfolding thick thin first_sector div_up
  all_thick = each (λ i. thick_in (live_shape dirty) i.size ≤ i.extents) images (lit≤ tt, (lit≤ tt, tt))

  attachments_right : AreAttachments (live_shape dirty)
  attachments_right = record {
    once = ((λ h. h), tt);
    disks = each (λ a. HasRecord (live_shape dirty) a.disk) (live_shape dirty).attached ((_, inl refl, refl), tt);
    writable = λ a r here mode there is. each (λ r. r.read_only ≡ false) (live_shape dirty).records (refl, tt) r there;
    thick = λ a i here mode there shown is vhd. all_thick i there;
  }

  -- the disk's image is the only one over the base
  only_child : IsOnlyChild (live_shape dirty) false (Vhd first) (Vhd base)
  unfolding is_vhd
  only_child = record {
    link = record { child = _; there = inl refl; is_named = refl; is_shown = refl; vhd = refl; linked = refl };
    only = each (λ i. i.parent ≡ Some (Vhd base) → i.name ≡ Vhd first) images (λ e. refl, (λ e. absurd (none-some (Vhd base) e), tt));
    same_size = λ q there named. each (λ i. i.size ≡ 128) images (refl, (refl, tt)) q there;
  }

  module _ (first_alone : (b : ℕ) → In b dirty → b ≡ 0) where
    live_runs : IsLive (live_shape dirty) (Vhd first) (Vhd base) 1 dirty
    unfolding is_vhd image_uuid only_child
    live_runs = record {
      only = only_child;
      parent_vhd = refl;
      attached = refl;
      thick = λ rw q there named. all_thick q there;
      within = lit≤ tt;
      blocks = λ b i. subst (λ k. (k < 1) × (is_there (slot_at first_slot k) ≡ true)) (sym (first_alone b i)) (lit< tt, refl);
    }

    live_well_formed : IsWellFormed (live_shape dirty)
    unfolding image_extents image_uuid name_cmp spelling uuid_text by_index
    live_well_formed = record {
      geometry = sizes_in_range;
      blocks = (4, refl);
      sequence = lit≤ tt;
      room = lit≤ tt;
      few = lit≤ tt;
      images_in_order = sorted_by name_le (Vhd first ∷ Vhd base ∷ []) refl;
      one_image = apart_by (first ∷ base ∷ []) refl;
      images = images_right;
      parents = parents_right;
      chains = chains_right;
      bases = bases_right;
      records_in_order = sorted_by uuid_le (first ∷ []) refl;
      one_record = apart_by (first ∷ []) refl;
      disks = disks_right;
      visible = visible_right;
      attachments = attachments_right;
      operation = live_runs;
    }

    -- ---- memory

    stand_right : (r : TreeRow) → In r (live_known dirty).rows → StandsIn sizes (r.extents * 32) r.image
    unfolding first_sector div_up
    stand_right = each (λ r. StandsIn sizes (r.extents * 32) r.image) (live_known dirty).rows (
      record { entries = refl; block = refl; size = refl; least = lit≤ tt; most = lit≤ tt; sized = front_within (Some 0 ∷ []) 63 (lit≤ tt); room = lit≤ tt },
      (record { entries = refl; block = refl; size = refl; least = lit≤ tt; most = lit≤ tt; sized = front_within (Some 0 ∷ []) 63 (lit≤ tt); room = lit≤ tt }, tt),
    )

    -- the base has room for its one slot and for the disk's
    base_roomy : (i q : ImageRow) → In i images → In q images → i.name ≡ Vhd first → q.name ≡ Vhd base → is_vhd (Vhd base) ≡ true → thin_in (live_shape dirty) (max (top q.slots) (count_either q.slots i.slots)) ≤ q.extents
    unfolding thin first_sector div_up top count_either count_blocks
    base_roomy i q here there named under vhd = each (λ i. thin_in (live_shape dirty) (max (top q.slots) (count_either q.slots i.slots)) ≤ q.extents) images (over_first, (over_first, tt)) i here
      where
        over_first : thin_in (live_shape dirty) (max (top q.slots) (count_either q.slots first_slot)) ≤ q.extents
        over_first = each (λ q. thin_in (live_shape dirty) (max (top q.slots) (count_either q.slots first_slot)) ≤ q.extents) images (lit≤ tt, (lit≤ tt, tt)) q there

    -- the disk's image is used once, and so is the base
    used_once : (n : Name) (a b c d : Bool) → a ≡ c → b ≡ d → unwrap_or (cond a (Some 1) (cond b (Some 1) None)) 0 ≡ length (cond (c || (d || false)) (live_shape dirty).attached [])
    used_once n true b true d own below = refl
    used_once n false true false true own below = refl
    used_once n false false false false own below = refl
    used_once n true b false d own below = absurd (let e = own in cc)
    used_once n false b true d own below = absurd (let e = own in cc)
    used_once n false true false false own below = absurd (let e = below in cc)
    used_once n false false false true own below = absurd (let e = below in cc)

    live_counts : (n : Name) → count_of (live_known dirty).attached n ≡ refs n (shape_in site leaf_copied (live_known dirty))
    unfolding refs image_uuid same_image chain shape_in
    live_counts n = used_once n (same_name n (Vhd first)) (same_name n (Vhd base)) (same_image n (Vhd first)) (same_image n (Vhd base)) (alike n first) (alike n base)

    pub live_orderly : IsOrderly site leaf_copied (live_known dirty)
    unfolding record_extents div_up row_of name_eq numbers shape_in image_uuid
    live_orderly = record {
      table = live_is_table;
      few_extents = lit≤ tt;
      record_volume = refl;
      few = lit≤ tt;
      new_named = λ r here new. absurd (let e = sym (none_new r here) ∙ new in (let x = e in cc));
      images = live_faces;
      logs = λ u. refl;
      few_logs = lit≤ tt;
      logs_in_order = rising_first;
      log_room = λ l i. absurd i;
      places = refl;
      entries = refl;
      stands = stand_right;
      well_formed = ∣ subst IsWellFormed (sym live_has_shape) live_well_formed ∣₁;
      roomy = base_roomy;
      counts = live_counts;
    }
