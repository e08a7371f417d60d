-- Tables that fail one field of the invariant of table and memory.
use Rattle.std.proofs.Common.{◌≡◌, inl, inr, Bool, true, false, ◌∷◌, ◌++◌, length, Option, Some, None, refl, sym, ap, ◌∙◌, arith, lit≤, lit<, bytes_eq}
use Rattle.std.proofs.lemmas.Bool.{true≢false}
use Rattle.std.specs.List.Sorted.{IsStrictlySortedBy}
use Rattle.std.specs.List.{IsDistinct}
use Rattle.sm_base.specs.Kinds.{is_image}
use Rattle.sm_base.specs.Names.{IsName, IsUuid, name_cmp, spelling, uuid_text, is_base}
use Rattle.sm_base.specs.Numbers.{div_up}
use Rattle.sm_base.specs.declared.names.Name.{Name}
use Rattle.sm_base.specs.declared.names.Name.TheVariants.{Mgt, Raw, Vhd, Old, Cbt, Clone, Inflate, Coalesce, Relink, Leaf}
use Rattle.uuid.specs.Text.{by_index}
use Rattle.common_laws.specs.Lists.{In, numbers}
use Rattle.vg_layout.specs.Places.{record_extents}
use Rattle.vg_meta.specs.Tables.{IsTable, Row, rows, row_of, name_eq, extents_of}
use Rattle.sm_machine.specs.WellFormed.{is_image_name}
use Rattle.sm_standing.specs.Checks.{is_misnamed}
use Rattle.vhd_chain.specs.Trees.{tree_row}
use Rattle.sm_ready.specs.Known.{Face, row_face, tree_face, shape_in}
use Rattle.sm_ready.specs.Orderly.{IsOrderly}
use Rattle.sm_ready.specs.Ready.{IsTidy}
use Rattle.examples_moments.specs.Worked.{first, second, base}
use Rattle.examples_moments.proofs.ForkExample.{all_bytes}
use Rattle.examples_ready.specs.FailingTables.{shared_table, short_table, hidden_table, twin_table, third, begun_table}
use Rattle.examples_ready.specs.Repositories.{plain_known, plain_rows, pair_known}
use Rattle.examples_ready.specs.WorkedRows.{site}
use Rattle.examples_ready.proofs.PairOrderly.{pair_orderly}
use Rattle.examples_ready.proofs.PlainOrderly.{plain_orderly}
use Rattle.examples_ready.proofs.PlainReady.{plain_tidy}
use Rattle.examples_ready.proofs.TableSteps.{each, below_by, distinct_by, first_uuid, second_uuid, face_step, new_face}

-- ---- two images in one extent

shared_faces : (n : Name) → is_image n ≡ true → row_face (rows shared_table n) ≡ tree_face (tree_row pair_known.rows n)
unfolding row_of name_eq tree_row numbers
shared_faces Mgt h = absurd (let e = h in cc)
shared_faces (Vhd u) h = face_step (bytes_eq first u) _ _ _ _ refl (face_step (bytes_eq second u) _ _ _ _ refl (face_step (bytes_eq base u) _ _ None None refl refl))
shared_faces (Raw u) h = refl
shared_faces (Old u) h = refl
shared_faces (Cbt u) h = refl
shared_faces (Clone a b c) h = absurd (let e = h in cc)
shared_faces (Inflate a n) h = absurd (let e = h in cc)
shared_faces (Coalesce a b) h = absurd (let e = h in cc)
shared_faces (Relink a b) h = absurd (let e = h in cc)
shared_faces (Leaf a b) h = absurd (let e = h in cc)

shared_old : (r : Row) → In r shared_table.volumes → r.fresh ≡ false
shared_old = each (λ r. r.fresh ≡ false) shared_table.volumes (refl, (refl, (refl, (refl, tt))))

pub shared_only : IsTable 64 shared_table → IsOrderly site shared_table pair_known
unfolding shape_in row_of name_eq numbers record_extents div_up
shared_only h = let o = pair_orderly in record {
  table = h;
  few_extents = o.few_extents;
  record_volume = refl;
  few = lit≤ tt;
  new_named = λ r here new. absurd (let e = sym (shared_old r here) ∙ new in (let x = e in cc));
  images = shared_faces;
  logs = o.logs;
  few_logs = o.few_logs;
  logs_in_order = o.logs_in_order;
  log_room = o.log_room;
  places = o.places;
  entries = refl;
  stands = o.stands;
  well_formed = o.well_formed;
  roomy = o.roomy;
  counts = o.counts;
}

pub shared_fails : ¬ IsTable 64 shared_table
unfolding numbers IsDistinct
shared_fails h = let e : true ≡ false = h.volumes.distinct.1.1.1.1.1.1.1.1.1.1.1.1.1.1.1.1.0.1.1.1.1.0 in true≢false e

-- ---- other volumes beside the memory of the two disks

-- ---- an extent too few for the records

short_is_table : IsTable 64 short_table
unfolding IsName IsStrictlySortedBy name_cmp spelling uuid_text by_index numbers
short_is_table = record {
  sequence = lit< tt;
  volumes = record {
    each = (record { name = second_uuid; kind = refl }, (record { name = tt; kind = refl }, (record { name = first_uuid; kind = refl }, tt)));
    rising = ((refl, (refl, tt)), ((refl, tt), (tt, tt)));
    below = below_by 64 (21 ∷ (numbers 0 15 ++ numbers 16 5)) refl;
    distinct = distinct_by (21 ∷ (numbers 0 15 ++ numbers 16 5)) refl;
  };
}

short_faces : (n : Name) → is_image n ≡ true → row_face (rows short_table n) ≡ tree_face (tree_row plain_rows n)
unfolding row_of name_eq tree_row numbers
short_faces Mgt h = absurd (let e = h in cc)
short_faces (Vhd u) h = face_step (bytes_eq first u) _ _ None None refl refl
short_faces (Raw u) h = face_step (bytes_eq second u) _ _ None None refl refl
short_faces (Old u) h = refl
short_faces (Cbt u) h = refl
short_faces (Clone a b c) h = absurd (let e = h in cc)
short_faces (Inflate a n) h = absurd (let e = h in cc)
short_faces (Coalesce a b) h = absurd (let e = h in cc)
short_faces (Relink a b) h = absurd (let e = h in cc)
short_faces (Leaf a b) h = absurd (let e = h in cc)

short_old : (r : Row) → In r short_table.volumes → r.fresh ≡ false
short_old = each (λ r. r.fresh ≡ false) short_table.volumes (refl, (refl, (refl, tt)))

pub short_only : length (extents_of (rows short_table Mgt)) ≡ record_extents 32 → IsOrderly site short_table plain_known
unfolding shape_in row_of name_eq numbers record_extents div_up
short_only h = let o = plain_orderly in record {
  table = short_is_table;
  few_extents = o.few_extents;
  record_volume = h;
  few = lit≤ tt;
  new_named = λ r here new. absurd (let e = sym (short_old r here) ∙ new in (let x = e in cc));
  images = short_faces;
  logs = o.logs;
  few_logs = o.few_logs;
  logs_in_order = o.logs_in_order;
  log_room = o.log_room;
  places = o.places;
  entries = refl;
  stands = o.stands;
  well_formed = o.well_formed;
  roomy = tt;
  counts = o.counts;
}

pub short_fails : ¬ (length (extents_of (rows short_table Mgt)) ≡ record_extents 32)
unfolding row_of name_eq numbers record_extents div_up
short_fails h = let e : 15 ≡ 16 = h in omega (arith, e)

-- ---- a disk that the table hides

hidden_is_table : IsTable 64 hidden_table
unfolding IsName IsStrictlySortedBy name_cmp spelling uuid_text by_index numbers
hidden_is_table = record {
  sequence = lit< tt;
  volumes = record {
    each = (record { name = second_uuid; kind = refl }, (record { name = tt; kind = refl }, (record { name = first_uuid; kind = refl }, tt)));
    rising = ((refl, (refl, tt)), ((refl, tt), (tt, tt)));
    below = below_by 64 (21 ∷ numbers 0 21) refl;
    distinct = distinct_by (21 ∷ numbers 0 21) refl;
  };
}

hidden_old : (r : Row) → In r hidden_table.volumes → r.fresh ≡ false
hidden_old = each (λ r. r.fresh ≡ false) hidden_table.volumes (refl, (refl, (refl, tt)))

pub hidden_only : ((n : Name) → is_image n ≡ true → row_face (rows hidden_table n) ≡ tree_face (tree_row plain_known.rows n)) → IsOrderly site hidden_table plain_known
unfolding shape_in row_of name_eq numbers record_extents div_up
hidden_only h = let o = plain_orderly in record {
  table = hidden_is_table;
  few_extents = o.few_extents;
  record_volume = refl;
  few = lit≤ tt;
  new_named = λ r here new. absurd (let e = sym (hidden_old r here) ∙ new in (let x = e in cc));
  images = h;
  logs = o.logs;
  few_logs = o.few_logs;
  logs_in_order = o.logs_in_order;
  log_room = o.log_room;
  places = o.places;
  entries = refl;
  stands = o.stands;
  well_formed = o.well_formed;
  roomy = tt;
  counts = o.counts;
}

is_hidden : Option Face → Bool
is_hidden None = false
is_hidden (Some f) = f.hidden

pub hidden_fails : ¬ ((n : Name) → is_image n ≡ true → row_face (rows hidden_table n) ≡ tree_face (tree_row plain_known.rows n))
unfolding row_of name_eq tree_row numbers is_hidden
hidden_fails h = let e : true ≡ false = ap is_hidden (h (Vhd first) refl) in true≢false e

-- ---- a new volume of a UUID that has an image

twin_is_table : IsTable 64 twin_table
unfolding IsName IsStrictlySortedBy name_cmp spelling uuid_text by_index numbers
twin_is_table = record {
  sequence = lit< tt;
  volumes = record {
    each = (record { name = second_uuid; kind = refl }, (record { name = tt; kind = refl }, (record { name = first_uuid; kind = refl }, (record { name = second_uuid; kind = refl }, tt))));
    rising = ((refl, (refl, (refl, tt))), ((refl, (refl, tt)), ((refl, tt), (tt, tt))));
    below = below_by 64 (21 ∷ (numbers 0 21 ++ numbers 22 5)) refl;
    distinct = distinct_by (21 ∷ (numbers 0 21 ++ numbers 22 5)) refl;
  };
}

twin_faces : (n : Name) → is_image n ≡ true → row_face (rows twin_table n) ≡ tree_face (tree_row plain_rows n)
unfolding row_of name_eq tree_row numbers
twin_faces Mgt h = absurd (let e = h in cc)
twin_faces (Vhd u) h = face_step (bytes_eq first u) _ _ _ None refl (new_face (bytes_eq second u) _ refl)
twin_faces (Raw u) h = face_step (bytes_eq second u) _ _ None None refl refl
twin_faces (Old u) h = refl
twin_faces (Cbt u) h = refl
twin_faces (Clone a b c) h = absurd (let e = h in cc)
twin_faces (Inflate a n) h = absurd (let e = h in cc)
twin_faces (Coalesce a b) h = absurd (let e = h in cc)
twin_faces (Relink a b) h = absurd (let e = h in cc)
twin_faces (Leaf a b) h = absurd (let e = h in cc)

pub twin_only : ((r : Row) → In r twin_table.volumes → r.fresh ≡ true → (is_misnamed twin_table r ≡ false) × (is_image_name r.name ≡ true)) → IsOrderly site twin_table plain_known
unfolding shape_in row_of name_eq numbers record_extents div_up
twin_only h = let o = plain_orderly in record {
  table = twin_is_table;
  few_extents = o.few_extents;
  record_volume = refl;
  few = lit≤ tt;
  new_named = h;
  images = twin_faces;
  logs = o.logs;
  few_logs = o.few_logs;
  logs_in_order = o.logs_in_order;
  log_room = o.log_room;
  places = o.places;
  entries = refl;
  stands = o.stands;
  well_formed = o.well_formed;
  roomy = tt;
  counts = o.counts;
}

pub twin_fails : ¬ ((r : Row) → In r twin_table.volumes → r.fresh ≡ true → (is_misnamed twin_table r ≡ false) × (is_image_name r.name ≡ true))
unfolding row_of name_eq
twin_fails h = let e : true ≡ false = (h _ (inr (inr (inr (inl refl)))) refl).0 in true≢false e

-- ---- a new volume between two commands

third_uuid : IsUuid third
third_uuid = record { long = refl; bytes = all_bytes third refl }

begun_is_table : IsTable 64 begun_table
unfolding IsName IsStrictlySortedBy name_cmp spelling uuid_text by_index numbers
begun_is_table = record {
  sequence = lit< tt;
  volumes = record {
    each = (record { name = second_uuid; kind = refl }, (record { name = tt; kind = refl }, (record { name = first_uuid; kind = refl }, (record { name = third_uuid; kind = refl }, tt))));
    rising = ((refl, (refl, (refl, tt))), ((refl, (refl, tt)), ((refl, tt), (tt, tt))));
    below = below_by 64 (21 ∷ (numbers 0 21 ++ numbers 22 5)) refl;
    distinct = distinct_by (21 ∷ (numbers 0 21 ++ numbers 22 5)) refl;
  };
}

begun_faces : (n : Name) → is_image n ≡ true → row_face (rows begun_table n) ≡ tree_face (tree_row plain_rows n)
unfolding row_of name_eq tree_row numbers
begun_faces Mgt h = absurd (let e = h in cc)
begun_faces (Vhd u) h = face_step (bytes_eq first u) _ _ _ None refl (new_face (bytes_eq third u) _ refl)
begun_faces (Raw u) h = face_step (bytes_eq second u) _ _ None None refl refl
begun_faces (Old u) h = refl
begun_faces (Cbt u) h = refl
begun_faces (Clone a b c) h = absurd (let e = h in cc)
begun_faces (Inflate a n) h = absurd (let e = h in cc)
begun_faces (Coalesce a b) h = absurd (let e = h in cc)
begun_faces (Relink a b) h = absurd (let e = h in cc)
begun_faces (Leaf a b) h = absurd (let e = h in cc)

begun_named : (r : Row) → In r begun_table.volumes → r.fresh ≡ true → (is_misnamed begun_table r ≡ false) × (is_image_name r.name ≡ true)
unfolding row_of name_eq is_base is_image_name
begun_named = each (λ r. r.fresh ≡ true → (is_misnamed begun_table r ≡ false) × (is_image_name r.name ≡ true)) begun_table.volumes
    (λ new. absurd (let e = new in cc), (λ new. absurd (let e = new in cc), (λ new. absurd (let e = new in cc), (λ new. (refl, refl), tt))))

pub begun_orderly : IsOrderly site begun_table plain_known
unfolding shape_in row_of name_eq numbers record_extents div_up
begun_orderly = let o = plain_orderly in record {
  table = begun_is_table;
  few_extents = o.few_extents;
  record_volume = refl;
  few = lit≤ tt;
  new_named = begun_named;
  images = begun_faces;
  logs = o.logs;
  few_logs = o.few_logs;
  logs_in_order = o.logs_in_order;
  log_room = o.log_room;
  places = o.places;
  entries = refl;
  stands = o.stands;
  well_formed = o.well_formed;
  roomy = tt;
  counts = o.counts;
}

pub begun_only : ((r : Row) → In r begun_table.volumes → r.fresh ≡ false) → IsTidy begun_table plain_known
begun_only h = record { none_new = h; no_stray = plain_tidy.no_stray }

pub begun_fails : ¬ ((r : Row) → In r begun_table.volumes → r.fresh ≡ false)
begun_fails h = let e : true ≡ false = h _ (inr (inr (inr (inl refl)))) in true≢false e
