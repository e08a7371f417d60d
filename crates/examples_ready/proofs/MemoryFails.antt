-- Memory that fails one field of an invariant.
use Rattle.std.proofs.Common.{◌≡◌, inl, inr, ℕ, ◌*◌, ◌≤◌, true, false, List, length, codes, None, refl, sym, ap, ◌∙◌, arith, lit≤, lit<, ◌++◌, bytes_eq, [], ◌∷◌}
use Rattle.std.proofs.Math.Logic.{∥∥₁_elim}
use Rattle.std.proofs.Props.{props}
use Rattle.std.proofs.lemmas.Bool.{true≢false}
use Rattle.std.proofs.lemmas.Option.{none-some}
use Rattle.common_laws.specs.Lists.{In, insert_by, numbers}
use Rattle.sm_base.specs.Limits.{extent_limit}
use Rattle.sm_base.specs.Kinds.{is_entry}
use Rattle.sm_base.specs.Names.{IsName, name_cmp, spelling, uuid_text}
use Rattle.std.specs.List.Sorted.{IsStrictlySortedBy}
use Rattle.uuid.specs.Text.{by_index}
use Rattle.sm_base.specs.Numbers.{first as first_sector, div_up}
use Rattle.sm_base.specs.declared.names.Name.{Name}
use Rattle.sm_base.specs.declared.names.Name.TheVariants.{Mgt, Raw, Vhd, Old, Cbt, Clone, Inflate, Coalesce, Relink, Leaf}
use Rattle.sm_base.specs.Kinds.{is_image}
use Rattle.sm_log.specs.Logs.{log_extents, log_of}
use Rattle.sm_machine.specs.Shapes.{DiskRecord, chain, image_extents, image_uuid, refs, same_image}
use Rattle.sm_machine.specs.Steps.{with_record}
use Rattle.sm_machine.specs.WellFormed.{IsWellFormed, table_length}
use Rattle.sm_mgt.specs.Places.{place_count}
use Rattle.sm_refs.specs.Attached.{count_of}
use Rattle.sm_standing.specs.Entries.{names_in}
use Rattle.vg_layout.specs.Places.{record_extents}
use Rattle.vg_meta.specs.Tables.{IsTable, Row, rows, row_of, name_eq}
use Rattle.vhd_chain.specs.Trees.{tree_row}
use Rattle.vhd_chain.specs.declared.rows.TreeRow.{TreeRow}
use Rattle.vhd_image.specs.Bodies.{StandsIn}
use Rattle.sm_ready.specs.Known.{row_face, tree_face, log_face, entry_of, shape_in, records_in}
use Rattle.sm_ready.specs.Orderly.{HasLogRoom, IsOrderly}
use Rattle.sm_ready.specs.Ready.{IsTidy, HasNoStray}
use Rattle.examples_moments.specs.Worked.{first, second, base}
use Rattle.examples_ready.specs.FailingMemory.{short_known, high_slots, high_known, unrecorded_known, uncounted_known, stray_known, third_record, first_log, tracked_known}
use Rattle.examples_ready.specs.FailingTables.{entryless_table}
use Rattle.examples_ready.specs.Repositories.{plain_table, plain_known, copy_known}
use Rattle.examples_ready.specs.WorkedRows.{site, sizes, site_of, first_slot}
use Rattle.examples_ready.proofs.CopyOrderly.{copy_orderly}
use Rattle.examples_ready.proofs.PlainOrderly.{orderly_with, plain_orderly, plain_well_formed, written_orderly, none_new, first_stands}
use Rattle.examples_ready.proofs.ShapeSteps.{differ}
use Rattle.examples_ready.proofs.TableSteps.{each, below_by, distinct_by, first_uuid, second_uuid, base_uuid_right, face_step}

-- ---- too large a group

pub wide_only : 1048577 ≤ extent_limit → IsOrderly (site_of 1048577) plain_table plain_known
wide_only h = orderly_with 1048577 first_slot (codes "b") (lit≤ tt) refl h first_stands

-- ---- a place too few

pub short_only : length short_known.places ≡ place_count → IsOrderly site plain_table short_known
unfolding shape_in records_in
short_only h = let o = plain_orderly in record {
  table = o.table;
  few_extents = o.few_extents;
  record_volume = o.record_volume;
  few = o.few;
  new_named = o.new_named;
  images = o.images;
  logs = o.logs;
  few_logs = o.few_logs;
  logs_in_order = o.logs_in_order;
  log_room = o.log_room;
  places = h;
  entries = o.entries;
  stands = o.stands;
  well_formed = o.well_formed;
  roomy = o.roomy;
  counts = o.counts;
}

pub short_fails : ¬ (length short_known.places ≡ place_count)
short_fails h = let e : 511 ≡ 512 = h in omega (arith, e)

-- ---- no entry of a copy

abbrev used : List ℕ
used = numbers 0 16 ++ (numbers 21 10 ++ numbers 16 5)

entryless_is_table : IsTable 64 entryless_table
unfolding IsName IsStrictlySortedBy name_cmp spelling uuid_text by_index numbers
entryless_is_table = record {
  sequence = lit< tt;
  volumes = record {
    each = (record { name = tt; kind = refl }, (record { name = first_uuid; kind = refl }, (record { name = second_uuid; kind = refl }, (record { name = base_uuid_right; kind = refl }, tt))));
    rising = ((refl, (refl, (refl, tt))), ((refl, (refl, tt)), ((refl, tt), (tt, tt))));
    below = below_by 64 used refl;
    distinct = distinct_by used refl;
  };
}

entryless_faces : (n : Name) → is_image n ≡ true → row_face (rows entryless_table n) ≡ tree_face (tree_row copy_known.rows n)
unfolding row_of name_eq tree_row numbers
entryless_faces Mgt h = absurd (let e = h in cc)
entryless_faces (Vhd u) h = face_step (bytes_eq first u) _ _ _ _ refl (face_step (bytes_eq second u) _ _ _ _ refl (face_step (bytes_eq base u) _ _ None None refl refl))
entryless_faces (Raw u) h = refl
entryless_faces (Old u) h = refl
entryless_faces (Cbt u) h = refl
entryless_faces (Clone a b c) h = absurd (let e = h in cc)
entryless_faces (Inflate a n) h = absurd (let e = h in cc)
entryless_faces (Coalesce a b) h = absurd (let e = h in cc)
entryless_faces (Relink a b) h = absurd (let e = h in cc)
entryless_faces (Leaf a b) h = absurd (let e = h in cc)

entryless_old : (r : Row) → In r entryless_table.volumes → r.fresh ≡ false
entryless_old = each (λ r. r.fresh ≡ false) entryless_table.volumes (refl, (refl, (refl, (refl, tt))))

pub entryless_only : names_in entryless_table is_entry ≡ entry_of copy_known.op → IsOrderly site entryless_table copy_known
unfolding shape_in row_of name_eq numbers record_extents div_up
entryless_only h = let o = copy_orderly in record {
  table = entryless_is_table;
  few_extents = o.few_extents;
  record_volume = refl;
  few = lit≤ tt;
  new_named = λ r here new. absurd (let e = sym (entryless_old r here) ∙ new in (let x = e in cc));
  images = entryless_faces;
  logs = o.logs;
  few_logs = o.few_logs;
  logs_in_order = o.logs_in_order;
  log_room = o.log_room;
  places = o.places;
  entries = h;
  stands = o.stands;
  well_formed = o.well_formed;
  roomy = o.roomy;
  counts = o.counts;
}

pub entryless_fails : ¬ (names_in entryless_table is_entry ≡ entry_of copy_known.op)
entryless_fails h = let e : 0 ≡ 1 = ap (λ (ns : List Name). length ns) h in omega (arith, e)

-- ---- a slot behind the volume's end

pub high_only : ((r : TreeRow) → In r high_known.rows → StandsIn sizes (r.extents * 32) r.image) → IsOrderly site plain_table high_known
high_only h = orderly_with 64 high_slots (codes "b") (lit≤ tt) refl (lit≤ tt) h

pub high_fails : ¬ ((r : TreeRow) → In r high_known.rows → StandsIn sizes (r.extents * 32) r.image)
unfolding first_sector div_up
high_fails h = let e : 194 ≤ 160 = (h _ (inr (inl refl))).room in omega (arith, e)

-- ---- a disk without a record

pub unrecorded_only : ∥ IsWellFormed (shape_in site plain_table unrecorded_known) ∥₁ → IsOrderly site plain_table unrecorded_known
unfolding shape_in refs
unrecorded_only h = let o = plain_orderly in record {
  table = o.table;
  few_extents = o.few_extents;
  record_volume = o.record_volume;
  few = o.few;
  new_named = o.new_named;
  images = o.images;
  logs = o.logs;
  few_logs = o.few_logs;
  logs_in_order = o.logs_in_order;
  log_room = o.log_room;
  places = refl;
  entries = o.entries;
  stands = o.stands;
  well_formed = h;
  roomy = tt;
  counts = λ n. refl;
}

only_first : (r : DiskRecord) → In r (shape_in site plain_table unrecorded_known).records → r.uuid ≡ first
unfolding shape_in records_in with_record insert_by image_uuid
only_first = each (λ r. r.uuid ≡ first) (shape_in site plain_table unrecorded_known).records (refl, tt)

no_record : IsWellFormed (shape_in site plain_table unrecorded_known) → ⊥
unfolding shape_in image_uuid
no_record w = let r = w.visible _ (inl refl) refl in differ first second refl (sym (only_first r.0 r.1) ∙ r.2)

pub unrecorded_fails : ¬ ∥ IsWellFormed (shape_in site plain_table unrecorded_known) ∥₁
unrecorded_fails h = ∥∥₁_elim h (hlevel props) no_record

-- ---- a disk that is attached and not counted

pub uncounted_only : ((n : Name) → count_of uncounted_known.attached n ≡ refs n (shape_in site plain_table uncounted_known)) → IsOrderly site plain_table uncounted_known
unfolding shape_in
uncounted_only h = let o = written_orderly in record {
  table = o.table;
  few_extents = o.few_extents;
  record_volume = o.record_volume;
  few = o.few;
  new_named = o.new_named;
  images = o.images;
  logs = o.logs;
  few_logs = o.few_logs;
  logs_in_order = o.logs_in_order;
  log_room = o.log_room;
  places = o.places;
  entries = o.entries;
  stands = o.stands;
  well_formed = o.well_formed;
  roomy = o.roomy;
  counts = h;
}

pub uncounted_fails : ¬ ((n : Name) → count_of uncounted_known.attached n ≡ refs n (shape_in site plain_table uncounted_known))
unfolding refs image_uuid same_image chain shape_in
uncounted_fails h = let e : 0 ≡ 1 = h (Vhd first) in omega (arith, e)

-- ---- a log of no volume

tracked_well_formed : IsWellFormed (shape_in site plain_table tracked_known)
unfolding shape_in records_in with_record insert_by record_extents div_up image_uuid log_extents image_extents table_length
tracked_well_formed = let w = plain_well_formed 64 first_slot (codes "b") (lit≤ tt) refl in record {
  geometry = w.geometry;
  blocks = w.blocks;
  sequence = w.sequence;
  room = lit≤ tt;
  few = w.few;
  images_in_order = w.images_in_order;
  one_image = w.one_image;
  images = λ i here. let r = w.images i here in record { named = r.named; whole = r.whole; volume = r.volume; table = r.table; raw = r.raw };
  parents = w.parents;
  chains = w.chains;
  bases = w.bases;
  records_in_order = w.records_in_order;
  one_record = w.one_record;
  disks = w.disks;
  visible = w.visible;
  attachments = record { once = tt; disks = λ a k. absurd k; writable = λ a r k q l f. absurd k; thick = λ a i k q l f j v. absurd k };
  operation = tt;
}

one_room : HasLogRoom 32 first_log
unfolding div_up
one_room = lit≤ tt

pub tracked_only : ((u : List ℕ) → row_face (rows plain_table (Cbt u)) ≡ log_face (log_of u tracked_known.logs)) → IsOrderly site plain_table tracked_known
unfolding shape_in refs IsStrictlySortedBy
tracked_only h = let o = plain_orderly in record {
  table = o.table;
  few_extents = o.few_extents;
  record_volume = o.record_volume;
  few = o.few;
  new_named = o.new_named;
  images = o.images;
  logs = h;
  few_logs = lit≤ tt;
  logs_in_order = (tt, tt);
  log_room = λ l here. each (HasLogRoom 32) (first_log ∷ []) (one_room, tt) l here;
  places = o.places;
  entries = o.entries;
  stands = o.stands;
  well_formed = ∣ tracked_well_formed ∣₁;
  roomy = tt;
  counts = λ n. refl;
}

pub tracked_fails : ¬ ((u : List ℕ) → row_face (rows plain_table (Cbt u)) ≡ log_face (log_of u tracked_known.logs))
unfolding row_of name_eq
tracked_fails h = none-some (record { hidden = false; extents = 1 }) (h first)

-- ---- a record of no image

pub stray_orderly : IsOrderly site plain_table stray_known
unfolding shape_in records_in image_uuid
stray_orderly = let o = plain_orderly in record {
  table = o.table;
  few_extents = o.few_extents;
  record_volume = o.record_volume;
  few = o.few;
  new_named = o.new_named;
  images = o.images;
  logs = o.logs;
  few_logs = o.few_logs;
  logs_in_order = o.logs_in_order;
  log_room = o.log_room;
  places = refl;
  entries = o.entries;
  stands = o.stands;
  well_formed = o.well_formed;
  roomy = o.roomy;
  counts = o.counts;
}

pub stray_only : HasNoStray stray_known → IsTidy plain_table stray_known
stray_only h = record { none_new = none_new; no_stray = h }

pub stray_fails : ¬ HasNoStray stray_known
unfolding image_uuid
stray_fails h = let e : false ≡ true = h third_record (inr (inr (inl refl))) in true≢false (sym e)
