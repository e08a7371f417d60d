-- The worked fork meets the hypotheses of the law of its checks, before the rename and behind it, while the new images are new and
-- once they are not.
use Rattle.std.proofs.Common.{◌≡◌, ◌≢◌, ◌⊎◌, inl, inr, ℕ, ◌<◌, ◌≤◌, ◌^◌, Bool, true, false, cond, List, [], ◌∷◌, length, nat_lt, Option, Some, None, refl, sym, ap, ◌∙◌, subst, arith, bytes_eq, lit<, lit≤, nat_eq}
use Rattle.std.specs.List.{AllByRecursion, filter, find, list_all}
use Rattle.std.proofs.lemmas.Bool.{true≢false}
use Rattle.std.specs.List.Sorted.{IsStrictlySortedBy}
use Rattle.std.proofs.lemmas.Cmp.{nat_eq_equiv}
use Rattle.std.proofs.lemmas.Map.Made.{IsDistinct-from_count}
use Rattle.std.specs.Set.{distinct_count}
use Rattle.sm_base.specs.Names.{IsName, IsUuid, is_base, name_cmp, spelling, uuid_text}
use Rattle.sm_base.specs.declared.names.Name.{Name}
use Rattle.sm_base.specs.declared.names.Name.TheVariants.{Mgt, Vhd, Clone}
use Rattle.common_laws.specs.Lists.{In, numbers}
use Rattle.common_laws.proofs.Lists.{none_find, numbers-In}
use Rattle.uuid.specs.Text.{by_index}
use Rattle.sm_record.specs.declared.records.Record.{Record}
use Rattle.vg_meta.specs.Tables.{IsTable, IsVolume, Row, VolumeTable, row_of, name_eq, names_of, used}
use Rattle.vg_meta.proofs.FreeLaws.{free_from}
use Rattle.sm_standing.specs.Apart.{is_apart}
use Rattle.sm_standing.specs.Checks.{images, is_damaged, record_place, record_fault}
use Rattle.sm_standing.specs.Contents.{Content, record_count, reading_at, records, is_record_of}
use Rattle.sm_standing.specs.Entries.{making, folding, image_with, is_forking, are_past}
use Rattle.sm_standing.specs.Forks.{forked, IsForkPlace, IsForkChild, IsForkMoment}
use Rattle.sm_standing.specs.Images.{image_of}
use Rattle.sm_standing.specs.Outlines.{outline, reading_in}
use Rattle.sm_standing.proofs.OutlineLaws.{reading_within}
use Rattle.examples_standing.specs.SmallContents.{record_row}
use Rattle.examples_moments.specs.Moments.{top, child}
use Rattle.examples_moments.specs.Worked.{first, second, base, first_record, second_record, content_with, image_row, fork_area, unforked, forking_at, filled_at}
use Rattle.examples_moments.proofs.ForkExample.{HasRecords, all_bytes, first_right, second_right, disk_image, first_child, second_child, over, unforked_image, unforked_records, records_two, differs}
use Rattle.examples_moments.proofs.ForkMoments.{fork_1, fork_2, fork_5, fork_7, is_fork_1, is_fork_2, is_fork_5, is_fork_7}
use Rattle.examples_moments.proofs.EntrySound.{early, late, early_undamaged, late_undamaged, early_records}
use Rattle.examples_moments.proofs.TableLaws.{apart_rows, same_apart}

abbrev us : List (List ℕ)
us = forked first base second

-- ---- the tables

base_uuid : IsUuid base
base_uuid = record { long = refl; bytes = all_bytes base refl }

entry_named : IsName (Clone first base second)
unfolding IsName
entry_named = (first_right.uuid.uuid, base_uuid, second_right.uuid.uuid)

-- a table whose extents are told apart by counting them
table_by : (t : VolumeTable) → t.sequence < 2 ^ 48 → AllByRecursion IsVolume t.volumes → IsStrictlySortedBy name_cmp (names_of t.volumes)
    → list_all (λ e. nat_lt e 64) (used t) ≡ true → distinct_count nat_eq (used t) ≡ length (used t) → IsTable 64 t
table_by t sequence each rising low counted =
    let distinct = IsDistinct-from_count nat_eq_equiv (used t) counted in
    record { sequence = sequence; volumes = record { each = each; rising = rising; below = (free_from 64 [] (used t) low distinct refl).below; distinct = distinct } }

fork_1_is_table : IsTable 64 fork_1
unfolding IsName IsStrictlySortedBy name_cmp spelling uuid_text by_index numbers
fork_1_is_table =
    table_by fork_1 (lit< tt) (record { name = tt; kind = refl }, (record { name = first_right.uuid.uuid; kind = refl }, (record { name = entry_named; kind = refl }, tt)))
    ((refl, (refl, tt)), ((refl, tt), (tt, tt))) refl refl

fork_2_is_table : IsTable 64 fork_2
unfolding IsName IsStrictlySortedBy name_cmp spelling uuid_text by_index numbers
fork_2_is_table =
    table_by fork_2 (lit< tt) (record { name = tt; kind = refl }, (record { name = base_uuid; kind = refl }, (record { name = entry_named; kind = refl }, tt)))
    ((refl, (refl, tt)), ((refl, tt), (tt, tt))) refl refl

-- the names of all five volumes
five_rise : IsStrictlySortedBy name_cmp (Mgt ∷ Vhd first ∷ Vhd second ∷ Vhd base ∷ Clone first base second ∷ [])
unfolding IsStrictlySortedBy name_cmp spelling uuid_text by_index
five_rise = ((refl, (refl, (refl, (refl, tt)))), ((refl, (refl, (refl, tt))), ((refl, (refl, tt)), ((refl, tt), (tt, tt)))))

fork_5_is_table : IsTable 64 fork_5
unfolding IsName numbers
fork_5_is_table =
    table_by fork_5 (lit< tt)
    (record { name = tt; kind = refl }, (record { name = first_right.uuid.uuid; kind = refl }, (record { name = second_right.uuid.uuid; kind = refl }, (record { name = base_uuid; kind = refl }, (record { name = entry_named; kind = refl }, tt)))))
    five_rise refl refl

fork_7_is_table : IsTable 64 fork_7
unfolding IsName numbers
fork_7_is_table =
    table_by fork_7 (lit< tt)
    (record { name = tt; kind = refl }, (record { name = first_right.uuid.uuid; kind = refl }, (record { name = second_right.uuid.uuid; kind = refl }, (record { name = base_uuid; kind = refl }, (record { name = entry_named; kind = refl }, tt)))))
    five_rise refl refl

-- ---- the records

-- where no record sector fails, each is right
each_right : (c : Content) → record_fault (outline c) ≡ None → (k : ℕ) → k < record_count → is_damaged (reading_at c k) ≡ false
unfolding record_fault
each_right c none k below =
    ap is_damaged (sym (reading_within c k below))
    ∙ none_find (λ j. is_damaged (reading_in c j)) (numbers 0 record_count) (none_of (find (λ j. is_damaged (reading_in c j)) (numbers 0 record_count)) none) k (numbers-In 0 record_count k (omega arith) below)
  where
    none_of : (o : Option ℕ) → record_place o ≡ None → o ≡ None
    none_of None e = refl
    none_of (Some j) e = absurd (let x = e in cc)

early_recorded : (t : VolumeTable) → HasRecords t → (u : List ℕ) → u ≢ second → length (filter (is_record_of u) (records (early t))) ≡ length (filter (is_record_of u) (records unforked))
early_recorded t there u other = ap (λ rs. length (filter (is_record_of u) rs)) (early_records t there ∙ sym unforked_records)

late_recorded : (t : VolumeTable) → HasRecords t → (u : List ℕ) → u ≢ second → length (filter (is_record_of u) (records (late t))) ≡ length (filter (is_record_of u) (records unforked))
late_recorded t there u other =
    ap (λ rs. length (filter (is_record_of u) rs)) (records_two t there)
    ∙ ap (λ b. length (cond (bytes_eq first u) (first_record ∷ cond b (second_record ∷ []) []) (cond b (second_record ∷ []) []))) (differs u second other)
    ∙ ap (λ rs. length (filter (is_record_of u) rs)) (sym unforked_records)

-- ---- the volumes

-- the entry, the disk's image, or one of the two new ones
abbrev IsOne : Content → Name → Row → Type 0
IsOne c m r = (r.name ≡ Clone first base second) ⊎ ((r.name ≡ m) ⊎ (((r.name ≡ Vhd first) ⊎ (r.name ≡ Vhd second)) × IsForkChild c m r))

the_same : {c : Content} {m : Name} {r s : Row} → r ≡ s → IsOne c m s → IsOne c m r
the_same {c} {m} is one = subst (IsOne c m) (sym is) one

not_apart : {P : Type 0} {r s : Row} → r ≡ s → is_apart us s.name ≡ true → is_apart us r.name ≡ false → P
not_apart is apart near = absurd (true≢false (sym apart ∙ ap (λ (x : Row). is_apart us x.name) (sym is) ∙ near))

volumes_1 : (r : Row) → In r (fork_1).volumes → is_apart us r.name ≡ false → IsOne (early fork_1) (Vhd first) r
volumes_1 r (inl is) near = not_apart is refl near
volumes_1 r (inr (inl is)) near = the_same is (inr (inl refl))
volumes_1 r (inr (inr (inl is))) near = the_same is (inl refl)
volumes_1 r (inr (inr (inr none))) near = absurd none

volumes_2 : (r : Row) → In r (fork_2).volumes → is_apart us r.name ≡ false → IsOne (early fork_2) (Vhd base) r
volumes_2 r (inl is) near = not_apart is refl near
volumes_2 r (inr (inl is)) near = the_same is (inr (inl refl))
volumes_2 r (inr (inr (inl is))) near = the_same is (inl refl)
volumes_2 r (inr (inr (inr none))) near = absurd none

volumes_5 : (r : Row) → In r (fork_5).volumes → is_apart us r.name ≡ false → IsOne (early fork_5) (Vhd base) r
volumes_5 r (inl is) near = not_apart is refl near
volumes_5 r (inr (inl is)) near = the_same is (inr (inr (inl refl, record { shown = refl; empty = inl refl })))
volumes_5 r (inr (inr (inl is))) near = the_same is (inr (inr (inr refl, record { shown = refl; empty = inl refl })))
volumes_5 r (inr (inr (inr (inl is)))) near = the_same is (inr (inl refl))
volumes_5 r (inr (inr (inr (inr (inl is))))) near = the_same is (inl refl)
volumes_5 r (inr (inr (inr (inr (inr none))))) near = absurd none

base_7 : image_of (late fork_7) (Vhd base) ≡ Some (top 17)
unfolding row_of name_eq
base_7 = disk_image fork_7 (first_record ∷ second_record ∷ []) base true (Vhd base) refl refl

volumes_7 : (r : Row) → In r (fork_7).volumes → is_apart us r.name ≡ false → IsOne (late fork_7) (Vhd base) r
unfolding row_of name_eq
volumes_7 r (inl is) near = not_apart is refl near
volumes_7 r (inr (inl is)) near = the_same is (inr (inr (
  inl refl,
  record {
    shown = refl;
    empty = inr (child, top 17, over (late fork_7) (Vhd first) (first_child fork_7 (first_record ∷ second_record ∷ []) (Vhd first) refl refl) base_7);
  },
)))
volumes_7 r (inr (inr (inl is))) near = the_same is (inr (inr (
  inr refl,
  record {
    shown = refl;
    empty = inr (child, top 17, over (late fork_7) (Vhd second) (second_child fork_7 (first_record ∷ second_record ∷ []) false (Vhd second) refl refl) base_7);
  },
)))
volumes_7 r (inr (inr (inr (inl is)))) near = the_same is (inr (inl refl))
volumes_7 r (inr (inr (inr (inr (inl is))))) near = the_same is (inl refl)
volumes_7 r (inr (inr (inr (inr (inr none))))) near = absurd none

-- ---- the moments

-- what the tables show, and what the images are
record Shows (t : VolumeTable) (u : List ℕ) (hidden : Bool) : Type 0 where
  table : IsTable 64 t
  later : 4 < t.sequence
  entry : making t ≡ Clone first base second ∷ []
  none : folding t ≡ []
  lone : apart_rows us t.volumes ≡ record_row (numbers 0 16) ∷ []
  place : IsForkPlace t first base (Vhd u)
  few : length (images t) ≤ 500
  stage : is_forking t first base second ≡ true
  past : are_past t (Clone first base second) ≡ true
  there : row_of t.volumes (Vhd u) ≡ Some (image_row hidden (Vhd u) 16)

moment : (t : VolumeTable) (rs : List Record) (u : List ℕ) (hidden : Bool) → Shows t u hidden → record_fault (outline (content_with t (fork_area rs))) ≡ None
    → ((v : List ℕ) → v ≢ second → length (filter (is_record_of v) (records (content_with t (fork_area rs)))) ≡ length (filter (is_record_of v) (records unforked)))
    → ((r : Row) → In r t.volumes → is_apart us r.name ≡ false → IsOne (content_with t (fork_area rs)) (Vhd u) r)
    → image_of (content_with t (fork_area rs)) (Vhd u) ≡ Some (top 17)
    → IsForkMoment unforked (content_with t (fork_area rs)) first base second (Vhd first) (Vhd u)
unfolding row_of name_eq
moment t rs u hidden shows right recorded volumes image = record {
  extent = refl;
  block = refl;
  entries = refl;
  table = shows.table;
  later = shows.later;
  making = shows.entry;
  folding = shows.none;
  apart = same_apart unforked (content_with t (fork_area rs)) us (numbers 0 16) refl shows.lone;
  place = shows.place;
  few = shows.few;
  stage = shows.stage;
  past = shows.past;
  own = image_row false (Vhd first) 16;
  stood = refl;
  filled = refl;
  now = image_row hidden (Vhd u) 16;
  moved = shows.there;
  still = refl;
  long = refl;
  image = image ∙ sym unforked_image;
  volumes = volumes;
  right = each_right (content_with t (fork_area rs)) right;
  recorded = recorded;
}

pub volumes_entry_made : IsForkMoment unforked (forking_at 1) first base second (Vhd first) (Vhd first)
unfolding row_of name_eq image_with is_base
volumes_entry_made = subst (λ t. IsForkMoment unforked (early t) first base second (Vhd first) (Vhd first)) (sym is_fork_1)
    (moment fork_1 (first_record ∷ []) first false
    (record { table = fork_1_is_table; later = lit< tt; entry = refl; none = refl; lone = refl; place = inl (refl, refl); few = lit≤ tt; stage = refl; past = refl; there = refl })
    (early_undamaged fork_1 refl) (early_recorded fork_1 refl) volumes_1 (disk_image fork_1 (first_record ∷ []) first false (Vhd first) refl refl))

pub volumes_renamed : IsForkMoment unforked (forking_at 2) first base second (Vhd first) (Vhd base)
unfolding row_of name_eq image_with is_base
volumes_renamed = subst (λ t. IsForkMoment unforked (early t) first base second (Vhd first) (Vhd base)) (sym is_fork_2)
    (moment fork_2 (first_record ∷ []) base false
    (record { table = fork_2_is_table; later = lit< tt; entry = refl; none = refl; lone = refl; place = inr refl; few = lit≤ tt; stage = refl; past = refl; there = refl })
    (early_undamaged fork_2 refl) (early_recorded fork_2 refl) volumes_2 (disk_image fork_2 (first_record ∷ []) base false (Vhd base) refl refl))

pub volumes_made : IsForkMoment unforked (forking_at 5) first base second (Vhd first) (Vhd base)
unfolding row_of name_eq image_with is_base
volumes_made = subst (λ t. IsForkMoment unforked (early t) first base second (Vhd first) (Vhd base)) (sym is_fork_5)
    (moment fork_5 (first_record ∷ []) base true
    (record { table = fork_5_is_table; later = lit< tt; entry = refl; none = refl; lone = refl; place = inr refl; few = lit≤ tt; stage = refl; past = refl; there = refl })
    (early_undamaged fork_5 refl) (early_recorded fork_5 refl) volumes_5 (disk_image fork_5 (first_record ∷ []) base true (Vhd base) refl refl))

pub volumes_filled : IsForkMoment unforked (filled_at 7) first base second (Vhd first) (Vhd base)
unfolding row_of name_eq image_with is_base
volumes_filled = subst (λ t. IsForkMoment unforked (late t) first base second (Vhd first) (Vhd base)) (sym is_fork_7)
    (moment fork_7 (first_record ∷ second_record ∷ []) base true
    (record { table = fork_7_is_table; later = lit< tt; entry = refl; none = refl; lone = refl; place = inr refl; few = lit≤ tt; stage = refl; past = refl; there = refl })
    (late_undamaged fork_7 refl) (late_recorded fork_7 refl) volumes_7 base_7)
