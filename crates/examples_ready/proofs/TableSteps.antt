-- What is read off a worked table and worked memory, step by step.
use Rattle.std.proofs.Common.{◌≡◌, ℕ, ◌<◌, ◌&&◌, not, Bool, true, false, cond, nat_lt, nat_eq, List, [], ◌∷◌, Option, Some, None, refl, sym, subst, inl, inr}
use Rattle.std.proofs.lemmas.Bool.{ltb-true}
use Rattle.std.specs.List.{list_all, AllByRecursion, IsDistinct}
use Rattle.common_laws.specs.Lists.{In}
use Rattle.sm_base.specs.Names.{IsUuid}
use Rattle.sm_base.specs.declared.names.Name.{Name}
use Rattle.sm_base.specs.declared.names.Name.TheVariants.{Vhd}
use Rattle.sm_machine.specs.Shapes.{same_image}
use Rattle.sm_machine.specs.WellFormed.{is_image_name}
use Rattle.sm_machine.proofs.ImageNames.{same_image-sound, same_image-refl}
use Rattle.sm_refs.specs.Attached.{same_name}
use Rattle.sm_refs.proofs.NameLemmas.{name_from_same, same_name-refl}
use Rattle.vg_meta.specs.Tables.{Row}
use Rattle.vhd_chain.specs.declared.rows.TreeRow.{TreeRow}
use Rattle.sm_ready.specs.Known.{row_face, tree_face}
use Rattle.examples_moments.specs.Worked.{first, second, base}
use Rattle.examples_moments.proofs.ForkExample.{all_bytes}

-- each element passes
pub each : {A : Type 0} (P : A → Type 0) (xs : List A) → AllByRecursion P xs → (x : A) → In x xs → P x
each P (y ∷ ys) all x (inl here) = subst P (sym here) all.0
each P (y ∷ ys) all x (inr later) = each P ys all.1 x later
each P [] all x none = absurd none

-- ---- extents

pub both : {P : Type 0} (b c : Bool) → (b && c) ≡ true → ((b ≡ true) → (c ≡ true) → P) → P
both true true is go = go refl refl
both true false is go = absurd (let e = is in cc)
both false c is go = absurd (let e = is in cc)

pub below_by : (count : ℕ) (xs : List ℕ) → list_all (λ e. nat_lt e count) xs ≡ true → AllByRecursion (λ e. e < count) xs
below_by count [] h = tt
below_by count (x ∷ xs) h = both (nat_lt x count) (list_all (λ e. nat_lt e count) xs) h (λ low rest. (ltb-true x count low, below_by count xs rest))

apart_by : (x : ℕ) (xs : List ℕ) → list_all (λ y. not (nat_eq x y)) xs ≡ true → AllByRecursion (λ y. nat_eq x y ≡ false) xs
apart_by x [] h = tt
apart_by x (y ∷ ys) h = both (not (nat_eq x y)) (list_all (λ z. not (nat_eq x z)) ys) h (λ new rest. (never (nat_eq x y) new, apart_by x ys rest))
  where
    never : (b : Bool) → not b ≡ true → b ≡ false
    never true is = absurd (let e = is in cc)
    never false is = refl

-- no number stands twice
abbrev pub all_once : List ℕ → Bool
all_once [] = true
all_once (x ∷ xs) = list_all (λ y. not (nat_eq x y)) xs && all_once xs

pub distinct_by : (xs : List ℕ) → all_once xs ≡ true → IsDistinct nat_eq xs
unfolding IsDistinct
distinct_by [] h = tt
distinct_by (x ∷ xs) h = both (list_all (λ y. not (nat_eq x y)) xs) (all_once xs) h (λ new rest. (apart_by x xs new, distinct_by xs rest))

-- ---- UUIDs

pub first_uuid : IsUuid first
first_uuid = record { long = refl; bytes = all_bytes first refl }

pub second_uuid : IsUuid second
second_uuid = record { long = refl; bytes = all_bytes second refl }

pub base_uuid_right : IsUuid base
base_uuid_right = record { long = refl; bytes = all_bytes base refl }

-- ---- faces

-- a row of the table and one of memory are found by the same test
pub face_step : (b : Bool) (r : Row) (q : TreeRow) (o : Option Row) (p : Option TreeRow) → row_face (Some r) ≡ tree_face (Some q) → row_face o ≡ tree_face p
    → row_face (cond b (Some r) o) ≡ tree_face (cond b (Some q) p)
face_step true r q o p here later = here
face_step false r q o p here later = later

-- ---- names

both_alike : (b c : Bool) → (b ≡ true → c ≡ true) → (c ≡ true → b ≡ true) → b ≡ c
both_alike true c there back = sym (there refl)
both_alike false true there back = back refl
both_alike false false there back = refl

-- two names of an image are the same to the counts where they are to the machine
pub alike : (n : Name) (u : List ℕ) → same_name n (Vhd u) ≡ same_image n (Vhd u)
unfolding is_image_name
alike n u =
    both_alike (same_name n (Vhd u)) (same_image n (Vhd u))
    (λ is. subst (λ m. same_image m (Vhd u) ≡ true) (sym (name_from_same n (Vhd u) is)) (same_image-refl (Vhd u) refl))
    (λ is. subst (λ m. same_name m (Vhd u) ≡ true) (sym (same_image-sound n (Vhd u) is)) (same_name-refl (Vhd u)))

-- a new volume has no face
pub new_face : (b : Bool) (r : Row) → row_face (Some r) ≡ None → row_face (cond b (Some r) None) ≡ None
new_face true r new = new
new_face false r new = refl
