-- A new volume of an image more than a repository may have.
use Rattle.std.proofs.Common.{◌≡◌, inl, inr, ℕ, zero, suc, ◌+◌, ◌/◌, ◌%◌, ◌<◌, ◌≤◌, ◌&&◌, ◌++◌, Bool, true, false, cond, All, List, [], ◌∷◌, length, map, codes, replicate, Option, Some, None, refl, sym, ap, ◌∙◌, subst, arith, lit≤, lit<, bytes_eq, nat_lt, get_or, is_some, ◌||◌, IsTrue}
use Rattle.std.proofs.lemmas.List.Elements.{All-nil, All-cons}
use Rattle.std.specs.List.{list_all, AllByRecursion}
use Rattle.std.specs.List.Sorted.{IsStrictlySortedBy}
use Rattle.std.specs.Ordering.{is_lt}
use Rattle.common_laws.specs.Lists.{In, numbers}
use Rattle.sm_base.specs.Kinds.{is_image}
use Rattle.sm_base.specs.Names.{IsName, IsUuid, is_base, name_cmp, spelling, uuid_text}
use Rattle.sm_base.specs.Numbers.{div_up}
use Rattle.sm_base.specs.declared.names.Name.{Name}
use Rattle.sm_base.specs.declared.names.Name.TheVariants.{Mgt, Raw, Vhd, Old, Cbt, Clone, Inflate, Coalesce, Relink, Leaf}
use Rattle.uuid.specs.Text.{by_index}
use Rattle.vg_layout.specs.Places.{record_extents}
use Rattle.vg_meta.specs.Tables.{IsTable, IsVolume, Row, extents_in, suits, names_of, rows, row_of, name_eq}
use Rattle.vg_meta.proofs.NameLaws.{less_from}
use Rattle.vg_meta.proofs.RowLaws.{front_of}
use Rattle.examples_ready.specs.FailingTables.{numbered, numbered_row, crowd, crowded_table}
use Rattle.examples_ready.specs.Repositories.{plain_known, plain_rows}
use Rattle.examples_ready.specs.WorkedRows.{site_of, first_slot, top_head, vhd_row}
use Rattle.examples_ready.proofs.PlainOrderly.{orderly_with, first_stands}
use Rattle.examples_ready.proofs.TableSteps.{all_once, below_by, both, distinct_by, face_step, first_uuid, second_uuid}
use Rattle.common_laws.proofs.Bytes.{bytes_eq-same}
use Rattle.common_laws.proofs.Lists.{In-map, In-numbers}
use Rattle.sm_base.specs.Kinds.{is_entry}
use Rattle.sm_machine.specs.WellFormed.{is_image_name}
use Rattle.sm_ready.specs.Known.{row_face, tree_face, shape_in}
use Rattle.sm_ready.specs.Orderly.{IsOrderly}
use Rattle.sm_standing.specs.Checks.{images, is_misnamed}
use Rattle.sm_standing.specs.Entries.{names_in}
use Rattle.examples_moments.specs.Worked.{first, second, image_row}
use Rattle.examples_standing.specs.SmallContents.{record_row}
use Rattle.vhd_chain.specs.Trees.{tree_row}

-- ---- names in order

-- each name is less than the next
abbrev pub is_rising : List Name → Bool
is_rising [] = true
is_rising (a ∷ []) = true
is_rising (a ∷ b ∷ ns) = is_lt (name_cmp a b) && is_rising (b ∷ ns)

pub rising_by : (ns : List Name) → is_rising ns ≡ true → IsStrictlySortedBy name_cmp ns
unfolding IsStrictlySortedBy
rising_by [] h = tt
rising_by (a ∷ []) h = (tt, tt)
rising_by (a ∷ b ∷ ns) h = both (is_lt (name_cmp a b)) (is_rising (b ∷ ns)) h
    (λ less rest. let r = rising_by (b ∷ ns) rest in ((less_from a b less, front_of a b ns (less_from a b less) r.0), r))

crowd_rises : is_rising (names_of crowded_table.volumes) ≡ true
unfolding name_cmp spelling uuid_text by_index numbers
crowd_rises = refl

-- ---- the new volumes

zeros_all : (n : ℕ) (xs : List ℕ) → All (λ b. b < 256) xs → All (λ b. b < 256) (replicate n 0 ++ xs)
zeros_all zero xs all = all
zeros_all (suc n) xs all = All-cons (λ b. b < 256) 0 (replicate n 0 ++ xs) (lit< tt) (zeros_all n xs all)

numbered_uuid : (k : ℕ) → k < 65536 → IsUuid (numbered k)
numbered_uuid k few = record {
  long = refl;
  bytes = zeros_all 14 (k / 256 ∷ k % 256 ∷ []) (All-cons (λ b. b < 256) (k / 256) (k % 256 ∷ []) (omega (arith, few)) (All-cons (λ b. b < 256) (k % 256) [] (omega arith) (All-nil (λ b. b < 256))));
}

crowd_volumes : (a n : ℕ) → a + n ≤ 65536 → AllByRecursion IsVolume (map numbered_row (numbers a n))
unfolding numbers IsName
crowd_volumes a zero few = tt
crowd_volumes a (suc n) few = (record { name = numbered_uuid a (omega (arith, few)); kind = refl }, crowd_volumes (a + 1) n (omega (arith, few)))

none_found : (b : Bool) (r : Row) (o : Option Row) → row_face (Some r) ≡ None → row_face o ≡ None → row_face (cond b (Some r) o) ≡ None
none_found true r o new later = new
none_found false r o new later = later

-- none of them is an image yet, and none is raw
news_none : (a n : ℕ) (m : Name) → row_face (row_of (map numbered_row (numbers a n)) m) ≡ None
unfolding numbers row_of
news_none a zero m = refl
news_none a (suc n) m = none_found (name_eq (Vhd (numbered a)) m) (numbered_row a) (row_of (map numbered_row (numbers (a + 1) n)) m) refl (news_none (a + 1) n m)

news_raw : (a n : ℕ) (u : List ℕ) → row_of (map numbered_row (numbers a n)) (Raw u) ≡ None
unfolding numbers row_of name_eq
news_raw a zero u = refl
news_raw a (suc n) u = news_raw (a + 1) n u

-- ---- the table

some_records : IsTrue (suits (record_row (numbers 0 16)))
unfolding numbers
some_records = refl

some_extents : IsTrue (suits (image_row false (Vhd first) 16))
unfolding numbers
some_extents = refl

all_below : list_all (λ e. nat_lt e 1024) (extents_in crowded_table.volumes) ≡ true
unfolding numbers
all_below = refl

all_distinct : all_once (extents_in crowded_table.volumes) ≡ true
unfolding numbers
all_distinct = refl

crowd_is_table : IsTable 1024 crowded_table
unfolding IsName
crowd_is_table = record {
  sequence = lit< tt;
  volumes = record {
    each = (record { name = second_uuid; kind = refl }, (record { name = tt; kind = some_records }, (record { name = first_uuid; kind = some_extents }, crowd_volumes 256 499 (lit≤ tt))));
    rising = rising_by (names_of crowded_table.volumes) crowd_rises;
    below = below_by 1024 (extents_in crowded_table.volumes) all_below;
    distinct = distinct_by (extents_in crowded_table.volumes) all_distinct;
  };
}

first_face : row_face (Some (image_row false (Vhd first) 16)) ≡ tree_face (Some (vhd_row false (top_head first) first_slot))
unfolding numbers
first_face = refl

crowd_faces : (n : Name) → is_image n ≡ true → row_face (rows crowded_table n) ≡ tree_face (tree_row plain_rows n)
unfolding row_of name_eq tree_row
crowd_faces Mgt h = absurd (let e = h in cc)
crowd_faces (Vhd u) h = face_step (bytes_eq first u) _ _ (row_of (crowd 499) (Vhd u)) None first_face (news_none 256 499 (Vhd u))
crowd_faces (Raw u) h = face_step (bytes_eq second u) _ _ (row_of (crowd 499) (Raw u)) None refl (news_none 256 499 (Raw u))
crowd_faces (Old u) h = news_none 256 499 (Old u)
crowd_faces (Cbt u) h = news_none 256 499 (Cbt u)
crowd_faces (Clone a b c) h = absurd (let e = h in cc)
crowd_faces (Inflate a n) h = absurd (let e = h in cc)
crowd_faces (Coalesce a b) h = absurd (let e = h in cc)
crowd_faces (Relink a b) h = absurd (let e = h in cc)
crowd_faces (Leaf a b) h = absurd (let e = h in cc)

-- ---- their names

other_uuid : (k : ℕ) → 256 ≤ k → bytes_eq second (numbered k) ≡ false
other_uuid k from = by (bytes_eq second (numbered k)) refl
  where
    by : (b : Bool) → bytes_eq second (numbered k) ≡ b → b ≡ false
    by false is = refl
    by true is = absurd (let e : 0 ≡ k / 256 = ap (λ (u : List ℕ). get_or u 14 0) (bytes_eq-same second (numbered k) is) in omega (arith, e, from))

no_twin : (k : ℕ) → 256 ≤ k → rows crowded_table (Raw (numbered k)) ≡ None
unfolding row_of name_eq
no_twin k from = ap (λ b. cond b (Some (record { name = Raw second; hidden = false; fresh = false; extents = 21 ∷ [] })) (row_of (crowd 499) (Raw (numbered k)))) (other_uuid k from) ∙ news_raw 256 499 (numbered k)

rightly_named : (k : ℕ) → 256 ≤ k → is_misnamed crowded_table (numbered_row k) ≡ false
unfolding is_base
rightly_named k from = ap (λ o. is_some o || false) (no_twin k from)

crowd_named : (r : Row) → In r crowded_table.volumes → r.fresh ≡ true → (is_misnamed crowded_table r ≡ false) × (is_image_name r.name ≡ true)
unfolding is_image_name
crowd_named r (inl e) new = absurd (let f = sym (ap (λ (q : Row). q.fresh) e) ∙ new in (let x = f in cc))
crowd_named r (inr (inl e)) new = absurd (let f = sym (ap (λ (q : Row). q.fresh) e) ∙ new in (let x = f in cc))
crowd_named r (inr (inr (inl e))) new = absurd (let f = sym (ap (λ (q : Row). q.fresh) e) ∙ new in (let x = f in cc))
crowd_named r (inr (inr (inr here))) new =
    let found = In-map numbered_row (numbers 256 499) r here in
    subst (λ (q : Row). (is_misnamed crowded_table q ≡ false) × (is_image_name q.name ≡ true)) (sym found.2)
    (rightly_named found.0 (In-numbers 256 499 found.0 found.1).0, refl)

-- ---- the invariant

no_entries : names_in crowded_table is_entry ≡ []
unfolding numbers
no_entries = refl

pub crowd_only : length (images crowded_table) ≤ 500 → IsOrderly (site_of 1024) crowded_table plain_known
unfolding shape_in row_of name_eq record_extents div_up
crowd_only h = let o = orderly_with 1024 first_slot (codes "b") (lit≤ tt) refl (lit≤ tt) first_stands in record {
  table = crowd_is_table;
  few_extents = o.few_extents;
  record_volume = o.record_volume;
  few = h;
  new_named = crowd_named;
  images = crowd_faces;
  logs = λ u. news_none 256 499 (Cbt u);
  few_logs = o.few_logs;
  logs_in_order = o.logs_in_order;
  log_room = o.log_room;
  places = o.places;
  entries = no_entries;
  stands = o.stands;
  well_formed = o.well_formed;
  roomy = tt;
  counts = o.counts;
}

pub crowd_fails : ¬ (length (images crowded_table) ≤ 500)
unfolding numbers
crowd_fails h = let e : 501 ≤ 500 = h in omega (arith, e)
