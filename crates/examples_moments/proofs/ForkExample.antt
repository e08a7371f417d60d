-- The worked fork meets the hypotheses of its laws, commit by commit.
use Rattle.std.proofs.Common.{◌≡◌, ◌≢◌, inl, inr, All, ℕ, ◌+◌, ◌*◌, ◌<◌, nat_lt, ◌&&◌, Bool, true, false, cond, List, [], ◌∷◌, Option, Some, None, refl, sym, ap, ◌∙◌, subst, arith, bytes_eq}
use Rattle.std.proofs.lemmas.Bool.{ltb-true}
use Rattle.std.proofs.lemmas.List.Elements.{All-nil, All-cons}
use Rattle.std.specs.List.{find, list_all}
use Rattle.common_laws.proofs.Bytes.{bytes_eq-same}
use Rattle.sm_base.specs.Names.{IsName}
use Rattle.sm_base.specs.declared.names.Name.{Name}
use Rattle.sm_base.specs.declared.names.Name.TheVariants.{Mgt, Vhd, Clone}
use Rattle.common_laws.specs.Lists.{In, numbers, ◌>>=◌}
use Rattle.sm_record.specs.declared.records.Record.{Record}
use Rattle.sm_record.specs.Records.{IsRecord}
use Rattle.vg_meta.specs.Tables.{Row, VolumeTable, rows, row_of, name_eq}
use Rattle.vg_meta.proofs.NameLaws.{name_eq-true}
use Rattle.vhd_fields.specs.ParentNames.{IsParent}
use Rattle.vhd_layout.specs.Contents.{size_at}
use Rattle.examples_vhd.specs.SmallImages.{table_of, empty}
use Rattle.sm_standing.specs.Changes.{parent_of}
use Rattle.sm_standing.specs.Contents.{Content, records, record_of, is_record_of}
use Rattle.sm_standing.specs.Entries.{making, folding, head, image_with}
use Rattle.examples_standing.specs.SmallContents.{record_row}
use Rattle.sm_standing.specs.Outlines.{link_of, outline}
use Rattle.sm_standing.specs.Images.{Image, image_of, image_extents}
use Rattle.sm_standing.specs.Standing.{standing_volume}
use Rattle.sm_standing.proofs.DisksShown.{row_of-In}
use Rattle.sm_standing.proofs.ImageLaws.{image_there}
use Rattle.sm_standing.proofs.WalkLaws.{depth_top}
use Rattle.sm_standing.specs.Apart.{IsEmptyOver}
use Rattle.sm_standing.specs.Forks.{forked, IsForkable, IsForkPlace, IsForking, IsForked}
use Rattle.examples_moments.specs.Moments.{top, child}
use Rattle.examples_moments.specs.Worked.{first, second, base, first_record, second_record, content_with, image_row, one_disk, fork_area, unforked, forking_at, filled_at}
use Rattle.examples_moments.specs.WorkedImages.{top_image, empty_child}
use Rattle.examples_moments.proofs.ForkMoments.{fork_1, fork_2, fork_3, fork_4, fork_5, fork_6, fork_7, fork_8, is_fork_1, is_fork_2, is_fork_3, is_fork_4, is_fork_5, is_fork_6, is_fork_7, is_fork_8}
use Rattle.examples_moments.proofs.PlacedLaws.{placed_image, area_first, area_second, area_third, one_record, two_records}
use Rattle.examples_moments.proofs.TableLaws.{apart_rows, same_apart}
use Rattle.examples_moments.proofs.WorkedLaws.{top_valid, top_size, top_parent, empty_valid, empty_own, child_size, child_parent}

-- ---- UUIDs and records

byte_step : (x : ℕ) (xs : List ℕ) (t : Bool) → nat_lt x 256 ≡ t → (list_all (λ b. nat_lt b 256) xs ≡ true → All (λ b. b < 256) xs)
    → (t && list_all (λ b. nat_lt b 256) xs) ≡ true → All (λ b. b < 256) (x ∷ xs)
byte_step x xs true is rest h = All-cons (λ b. b < 256) x xs (ltb-true x 256 is) (rest h)
byte_step x xs false is rest h = absurd (let e = h in cc)

pub all_bytes : (xs : List ℕ) → list_all (λ b. nat_lt b 256) xs ≡ true → All (λ b. b < 256) xs
all_bytes [] h = All-nil (λ b. b < 256)
all_bytes (x ∷ xs) h = byte_step x xs (nat_lt x 256) refl (all_bytes xs) h

pub base_named : IsParent (Some (Vhd base))
unfolding IsParent IsName
base_named = (record { long = refl; bytes = all_bytes base refl }, refl)

pub first_right : IsRecord first_record
first_right = record { uuid = record { uuid = record { long = refl; bytes = all_bytes first refl }; not_nil = refl }; origin = tt; label = refl }

pub second_right : IsRecord second_record
second_right = record {
  uuid = record { uuid = record { long = refl; bytes = all_bytes second refl }; not_nil = refl };
  origin = record { uuid = record { long = refl; bytes = all_bytes first refl }; not_nil = refl };
  label = refl;
}

-- ---- images

pub disk_image : (t : VolumeTable) (rs : List Record) (u : List ℕ) (hidden : Bool) (name : Name) → rows t (Vhd u) ≡ Some (image_row hidden name 16)
    → image_extents (making t) (Vhd u) 5 ≡ 5 → image_of (content_with t (fork_area rs)) (Vhd u) ≡ Some (top 17)
disk_image t rs u hidden name there whole =
    placed_image t (fork_area rs) u hidden 16 name (top_image 17) there whole
    (λ s below. area_first (top_image 17) (empty_child (Vhd base)) (empty_child (Vhd base)) rs (32 * 16 + s) s refl below) (top_valid 17)

pub first_child : (t : VolumeTable) (rs : List Record) (name : Name) → rows t (Vhd first) ≡ Some (image_row false name 21)
    → image_extents (making t) (Vhd first) 5 ≡ 5 → image_of (content_with t (fork_area rs)) (Vhd first) ≡ Some child
first_child t rs name there whole =
    placed_image t (fork_area rs) first false 21 name (empty_child (Vhd base)) there whole
    (λ s below. area_second (top_image 17) (empty_child (Vhd base)) (empty_child (Vhd base)) rs (32 * 21 + s) s refl below) (empty_valid (Vhd base) base_named)

pub second_child : (t : VolumeTable) (rs : List Record) (hidden : Bool) (name : Name) → rows t (Vhd second) ≡ Some (image_row hidden name 26)
    → image_extents (making t) (Vhd second) 5 ≡ 5 → image_of (content_with t (fork_area rs)) (Vhd second) ≡ Some child
second_child t rs hidden name there whole =
    placed_image t (fork_area rs) second hidden 26 name (empty_child (Vhd base)) there whole
    (λ s below. area_third (top_image 17) (empty_child (Vhd base)) (empty_child (Vhd base)) rs (32 * 26 + s) s refl below) (empty_valid (Vhd base) base_named)

pub child_empty : (s : ℕ) → child.own s ≡ None
child_empty s = empty_own (Vhd base) (size_at 160 (empty_child (Vhd base))) s (let e = child_size (Vhd base) (table_of []) empty base_named refl in omega (arith, e))

pub over : (c : Content) (n : Name) → image_of c n ≡ Some child → image_of c (Vhd base) ≡ Some (top 17) → IsEmptyOver c n (Vhd base) child (top 17)
over c n is below = record {
  image = is;
  parent = child_parent (Vhd base) (table_of []) empty base_named refl;
  below = below;
  size = top_size 17 ∙ sym (child_size (Vhd base) (table_of []) empty base_named refl);
  empty = child_empty;
}

-- ---- before the fork

pub unforked_image : image_of unforked (Vhd first) ≡ Some (top 17)
unfolding row_of name_eq
unforked_image = disk_image one_disk (first_record ∷ []) first false (Vhd first) refl refl

-- a volume that is there has one of the names
pub named : (rs : List Row) (n : Name) (r : Row) → row_of rs n ≡ Some r → In r rs × (n ≡ r.name)
named rs n r there = let w = row_of-In rs n r there in (w.0, sym (name_eq-true r.name n w.1))

pub unforked_parent : parent_of unforked (Vhd first) ≡ None
unforked_parent = ap (λ o. link_of o >>= (λ i. i.parent)) unforked_image ∙ top_parent 17

records_none : (c : Content) → parent_of c Mgt ≡ None
unfolding image_of
records_none c = refl

no_parents : (m p : Name) → parent_of unforked m ≡ Some p → ⊥
no_parents m p is = by (image_of unforked m) refl
  where
    at : (r : Row) → In r (one_disk).volumes × (m ≡ r.name) → ⊥
    at r (inl here, name) = let e = sym is ∙ ap (parent_of unforked) (name ∙ ap (λ (s : Row). s.name) here) ∙ records_none unforked in (let x = e in cc)
    at r (inr (inl here), name) = let e = sym is ∙ ap (parent_of unforked) (name ∙ ap (λ (s : Row). s.name) here) ∙ unforked_parent in (let x = e in cc)
    at r (inr (inr none), name) = elim none [ ]

    by : (o : Option Image) → image_of unforked m ≡ o → ⊥
    by None none = let e = sym is ∙ ap (λ o. link_of o >>= (λ i. i.parent)) none in (let x = e in cc)
    by (Some i) some = let w = image_there unforked m i some in at w.0 (named (one_disk).volumes m w.0 w.1)

pub forkable : IsForkable unforked first base second (Vhd first) (top 17)
unfolding standing_volume row_of name_eq
forkable = record {
  stood = refl;
  image = unforked_image;
  no_base = refl;
  no_twin = refl;
  none_making = refl;
  beside = refl;
  childless = λ m p is. absurd (no_parents m p is);
  room = let e = depth_top (outline unforked) 29 (Vhd first) unforked_parent in omega (arith, e);
}

-- ---- its records

abbrev pub HasRecords : VolumeTable → Type 0
HasRecords t = rows t Mgt ≡ Some (record_row (numbers 0 16))

pub unforked_records : records unforked ≡ first_record ∷ []
unfolding row_of name_eq
unforked_records = one_record one_disk (top_image 17) (empty_child (Vhd base)) (empty_child (Vhd base)) first_record refl first_right

pub recorded_one : (t : VolumeTable) → HasRecords t → (u : List ℕ) → record_of (content_with t (fork_area (first_record ∷ []))) u ≡ record_of unforked u
recorded_one t there u =
    ap (find (is_record_of u)) (one_record t (top_image 17) (empty_child (Vhd base)) (empty_child (Vhd base)) first_record there first_right ∙ sym unforked_records)

pub differs : (u v : List ℕ) → u ≢ v → bytes_eq v u ≡ false
differs u v other = by (bytes_eq v u) refl
  where
    by : (b : Bool) → bytes_eq v u ≡ b → b ≡ false
    by true is = absurd (other (sym (bytes_eq-same v u is)))
    by false _ = refl

pub records_two : (t : VolumeTable) → HasRecords t → records (content_with t (fork_area (first_record ∷ second_record ∷ []))) ≡ first_record ∷ second_record ∷ []
records_two t there =
    two_records t (top_image 17) (empty_child (Vhd base)) (empty_child (Vhd base)) first_record second_record there first_right second_right

recorded_two : (t : VolumeTable) → HasRecords t → (u : List ℕ) → u ≢ second → record_of (content_with t (fork_area (first_record ∷ second_record ∷ []))) u ≡ record_of unforked u
recorded_two t there u other =
    ap (find (is_record_of u)) (records_two t there)
    ∙ ap (λ b. cond (bytes_eq first u) (Some first_record) (cond b (Some second_record) None)) (differs u second other)
    ∙ sym (ap (find (is_record_of u)) unforked_records)

-- ---- its moments

abbrev us : List (List ℕ)
us = forked first base second

moment : (t : VolumeTable) (rs : List Record) (u : List ℕ) → head (making t) ≡ Some (Clone first base second) → folding t ≡ []
    → apart_rows us t.volumes ≡ record_row (numbers 0 16) ∷ [] → IsForkPlace t first base (Vhd u)
    → image_of (content_with t (fork_area rs)) (Vhd u) ≡ Some (top 17)
    → ((v : List ℕ) → v ≢ second → record_of (content_with t (fork_area rs)) v ≡ record_of unforked v)
    → IsForking unforked (content_with t (fork_area rs)) first base second (Vhd first) (Vhd u)
moment t rs u entry none lone place image recorded = record {
  entry = entry;
  folding = none;
  apart = same_apart unforked (content_with t (fork_area rs)) us (numbers 0 16) refl lone;
  place = place;
  image = image ∙ sym unforked_image;
  recorded = recorded;
}

pub moment_1 : IsForking unforked (forking_at 1) first base second (Vhd first) (Vhd first)
unfolding row_of name_eq image_with
moment_1 = subst (λ t. IsForking unforked (content_with t (fork_area (first_record ∷ []))) first base second (Vhd first) (Vhd first)) (sym is_fork_1)
    (moment fork_1 (first_record ∷ []) first refl refl refl (inl (refl, refl)) (disk_image fork_1 (first_record ∷ []) first false (Vhd first) refl refl) (λ v other. recorded_one fork_1 refl v))

pub moment_2 : IsForking unforked (forking_at 2) first base second (Vhd first) (Vhd base)
unfolding row_of name_eq image_with
moment_2 = subst (λ t. IsForking unforked (content_with t (fork_area (first_record ∷ []))) first base second (Vhd first) (Vhd base)) (sym is_fork_2)
    (moment fork_2 (first_record ∷ []) base refl refl refl (inr refl) (disk_image fork_2 (first_record ∷ []) base false (Vhd base) refl refl) (λ v other. recorded_one fork_2 refl v))

pub moment_3 : IsForking unforked (forking_at 3) first base second (Vhd first) (Vhd base)
unfolding row_of name_eq image_with
moment_3 = subst (λ t. IsForking unforked (content_with t (fork_area (first_record ∷ []))) first base second (Vhd first) (Vhd base)) (sym is_fork_3)
    (moment fork_3 (first_record ∷ []) base refl refl refl (inr refl) (disk_image fork_3 (first_record ∷ []) base true (Vhd base) refl refl) (λ v other. recorded_one fork_3 refl v))

pub moment_4 : IsForking unforked (forking_at 4) first base second (Vhd first) (Vhd base)
unfolding row_of name_eq image_with
moment_4 = subst (λ t. IsForking unforked (content_with t (fork_area (first_record ∷ []))) first base second (Vhd first) (Vhd base)) (sym is_fork_4)
    (moment fork_4 (first_record ∷ []) base refl refl refl (inr refl) (disk_image fork_4 (first_record ∷ []) base true (Vhd base) refl refl) (λ v other. recorded_one fork_4 refl v))

pub moment_5 : IsForking unforked (forking_at 5) first base second (Vhd first) (Vhd base)
unfolding row_of name_eq image_with
moment_5 = subst (λ t. IsForking unforked (content_with t (fork_area (first_record ∷ []))) first base second (Vhd first) (Vhd base)) (sym is_fork_5)
    (moment fork_5 (first_record ∷ []) base refl refl refl (inr refl) (disk_image fork_5 (first_record ∷ []) base true (Vhd base) refl refl) (λ v other. recorded_one fork_5 refl v))

pub moment_6 : IsForking unforked (filled_at 6) first base second (Vhd first) (Vhd base)
unfolding row_of name_eq image_with
moment_6 = subst (λ t. IsForking unforked (content_with t (fork_area (first_record ∷ second_record ∷ []))) first base second (Vhd first) (Vhd base)) (sym is_fork_6)
    (moment fork_6 (first_record ∷ second_record ∷ []) base refl refl refl (inr refl) (disk_image fork_6 (first_record ∷ second_record ∷ []) base true (Vhd base) refl refl) (recorded_two fork_6 refl))

pub moment_7 : IsForking unforked (filled_at 7) first base second (Vhd first) (Vhd base)
unfolding row_of name_eq image_with
moment_7 = subst (λ t. IsForking unforked (content_with t (fork_area (first_record ∷ second_record ∷ []))) first base second (Vhd first) (Vhd base)) (sym is_fork_7)
    (moment fork_7 (first_record ∷ second_record ∷ []) base refl refl refl (inr refl) (disk_image fork_7 (first_record ∷ second_record ∷ []) base true (Vhd base) refl refl) (recorded_two fork_7 refl))

abbrev forked_content : VolumeTable → Content
forked_content t = content_with t (fork_area (first_record ∷ second_record ∷ []))

ended_8 : IsForked unforked (forked_content fork_8) first base second (Vhd first) (Vhd base) (top 17) child child second_record
unfolding row_of name_eq
ended_8 =
    let below = disk_image fork_8 (first_record ∷ second_record ∷ []) base true (Vhd base) refl refl in record {
      none_making = refl;
      folding = refl;
      apart = same_apart unforked (forked_content fork_8) us (numbers 0 16) refl refl;
      disk_visible = refl;
      twin_visible = refl;
      no_base = refl;
      image = below ∙ sym unforked_image;
      disk_image = over (forked_content fork_8) (Vhd first) (first_child fork_8 (first_record ∷ second_record ∷ []) (Vhd first) refl refl) below;
      twin_image = over (forked_content fork_8) (Vhd second) (second_child fork_8 (first_record ∷ second_record ∷ []) false (Vhd second) refl refl) below;
      recorded = recorded_two fork_8 refl;
      twin_recorded = ap (find (is_record_of second)) (records_two fork_8 refl);
    }

pub ended : IsForked unforked (filled_at 8) first base second (Vhd first) (Vhd base) (top 17) child child second_record
ended = subst (λ t. IsForked unforked (forked_content t) first base second (Vhd first) (Vhd base) (top 17) child child second_record) (sym is_fork_8) ended_8
