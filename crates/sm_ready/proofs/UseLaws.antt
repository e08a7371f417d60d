-- The attachments and the counts beside the machine's shape.
use Rattle.std.proofs.Common.{◌≡◌, ◌≢◌, ◌⊎◌, inl, inr, ℕ, suc, ◌≤◌, Bool, true, false, not, ◌||◌, cond, List, [], ◌∷◌, map, length, Some, refl, sym, ap, ap₂, ◌∙◌, subst, arith}
use Rattle.std.specs.List.{filter, list_any, find}
use Rattle.std.specs.Map.{lookup}
use Rattle.std.specs.Str.{bytes_eq}
use Rattle.std.proofs.lemmas.Bool.{true≢false, false_from_ne_true}
use Rattle.sm_base.specs.declared.names.Name.{Name}
use Rattle.sm_base.specs.declared.operations.Mode.{Mode}
use Rattle.common_laws.specs.Lists.{◌>>=◌, In, Distinct}
use Rattle.common_laws.proofs.Bytes.{bytes_eq-same, bytes_eq-refl}
use Rattle.sm_refs.specs.Attached.{has, same_name, same_uuid, without}
use Rattle.sm_refs.proofs.NameLemmas.{name_from_same, same_name-refl, same_uuid-refl, uuid_from_same}
use Rattle.sm_machine.specs.Shapes.{Attachment, mode_in, same_image}
use Rattle.sm_machine.specs.Steps.{is_attached}
use Rattle.sm_machine.specs.WellFormed.{is_image_name}
use Rattle.sm_machine.proofs.ImageNames.{other_image, same_image-refl}

-- an attachment as the machine has it
abbrev pub attachment : (List ℕ × Mode) → Attachment
attachment a = record { disk = a.0; mode = a.1 }

same_bytes : (u v : List ℕ) → same_uuid u v ≡ bytes_eq v u
same_bytes u v = by (same_uuid u v) refl
  where
    by : (b : Bool) → same_uuid u v ≡ b → b ≡ bytes_eq v u
    by true e = sym (subst (λ x. bytes_eq x u ≡ true) (uuid_from_same u v e) (bytes_eq-refl u))
    by false e = sym (false_from_ne_true (bytes_eq v u) (λ same. true≢false (sym (subst (λ x. same_uuid u x ≡ true) (sym (bytes_eq-same v u same)) (same_uuid-refl u)) ∙ e)))

-- how a disk is attached
pub mode_alike : (u : List ℕ) (ds : List (List ℕ × Mode)) → mode_in u (map attachment ds) ≡ lookup (same_uuid u) ds
mode_alike u [] = refl
mode_alike u (a ∷ ds) = ap (λ c. cond c (Some (attachment a)) (find (λ (x : Attachment). bytes_eq x.disk u) (map attachment ds)) >>= (λ x. Some x.mode)) (sym (same_bytes u a.0)) ∙ by (same_uuid u a.0) (mode_alike u ds)
  where
    by : (b : Bool) → mode_in u (map attachment ds) ≡ lookup (same_uuid u) ds
        → (cond b (Some (attachment a)) (find (λ (x : Attachment). bytes_eq x.disk u) (map attachment ds)) >>= (λ x. Some x.mode)) ≡ cond b (Some a.1) (lookup (same_uuid u) ds)
    by true further = refl
    by false further = further

-- the others are the machine's others
pub others_alike : (u : List ℕ) (ds : List (List ℕ × Mode)) → map attachment (without u ds) ≡ filter (λ a. not (is_attached u a)) (map attachment ds)
others_alike u [] = refl
others_alike u (a ∷ ds) = ap (λ b. map attachment (cond (not b) (a ∷ without u ds) (without u ds))) (same_bytes u a.0) ∙ by (bytes_eq a.0 u) (others_alike u ds)
  where
    by : (b : Bool) → map attachment (without u ds) ≡ filter (λ x. not (is_attached u x)) (map attachment ds)
        → map attachment (cond (not b) (a ∷ without u ds) (without u ds)) ≡ cond (not b) (attachment a ∷ filter (λ x. not (is_attached u x)) (map attachment ds)) (filter (λ x. not (is_attached u x)) (map attachment ds))
    by true further = further
    by false further = ap (λ xs. attachment a ∷ xs) further

-- ---- whether a chain has a name

-- by whatever test decides equality of its names
by_test : (test other : Name → Bool) (xs : List Name) → ((x : Name) → In x xs → test x ≡ other x) → list_any test xs ≡ list_any other xs
by_test test other [] same = refl
by_test test other (x ∷ xs) same = ap₂ (λ a b. a || b) (same x (inl refl)) (by_test test other xs (λ y i. same y (inr i)))

has_as : (n x : Name) → is_image_name x ≡ true → same_name n x ≡ same_image n x
has_as n x image = by (same_name n x) refl
  where
    by : (b : Bool) → same_name n x ≡ b → b ≡ same_image n x
    by true e = sym (subst (λ y. same_image y x ≡ true) (sym (name_from_same n x e)) (same_image-refl x image))
    by false e = sym (other_image n x (λ same. true≢false (sym (subst (λ y. same_name n y ≡ true) same (same_name-refl n)) ∙ e)))

pub has_alike : (n : Name) (xs : List Name) → ((x : Name) → In x xs → is_image_name x ≡ true) → has xs n ≡ list_any (same_image n) xs
has_alike n xs images = by_test (same_name n) (same_image n) xs (λ x i. has_as n x (images x i))

pub has_In : (n : Name) (xs : List Name) → has xs n ≡ true → In n xs
has_In n [] e = absurd (true≢false (sym e))
has_In n (x ∷ xs) e = by (same_name n x) refl (has_In n xs) e
  where
    by : (b : Bool) → same_name n x ≡ b → (has xs n ≡ true → In n xs) → (b || has xs n) ≡ true → (n ≡ x) ⊎ In n xs
    by true is further e = inl (name_from_same n x is)
    by false is further e = inr (further e)

pub In_has : (n : Name) (xs : List Name) → In n xs → has xs n ≡ true
In_has n [] i = absurd i
In_has n (x ∷ xs) (inl same) = ap (λ b. b || has xs n) (subst (λ y. same_name n y ≡ true) same (same_name-refl n))
In_has n (x ∷ xs) (inr i) = by (same_name n x) (In_has n xs i)
  where
    by : (b : Bool) → has xs n ≡ true → (b || has xs n) ≡ true
    by true further = refl
    by false further = further

-- ---- as many as there are

-- a list without one of its elements
less : {A : Type 0} (x : A) (ys : List A) → In x ys → List A
less x [] i = absurd i
less x (y ∷ ys) (inl is) = ys
less x (y ∷ ys) (inr i) = y ∷ less x ys i

less_long : {A : Type 0} (x : A) (ys : List A) (i : In x ys) → length ys ≡ suc (length (less x ys i))
unfolding less
less_long x [] i = absurd i
less_long x (y ∷ ys) (inl is) = refl
less_long x (y ∷ ys) (inr i) = ap suc (less_long x ys i)

in_less : {A : Type 0} (x z : A) (ys : List A) (i : In x ys) → In z ys → z ≢ x → In z (less x ys i)
unfolding less
in_less x z [] i h other = absurd i
in_less x z (y ∷ ys) (inl is) (inl same) other = absurd (other (same ∙ sym is))
in_less x z (y ∷ ys) (inl is) (inr h) other = h
in_less x z (y ∷ ys) (inr i) (inl same) other = inl same
in_less x z (y ∷ ys) (inr i) (inr h) other = inr (in_less x z ys i h other)

-- elements that differ, all of them in a list, are no more than it has
pub no_more : {A : Type 0} (xs ys : List A) → Distinct xs → ((x : A) → In x xs → In x ys) → length xs ≤ length ys
no_more [] ys d within = omega arith
no_more (x ∷ xs) ys d within =
    let i = within x (inl refl) in
    let rest = no_more xs (less x ys i) d.1 (λ z h. in_less x z ys i (within z (inr h)) (λ same. d.0 (subst (λ y. In y xs) same h))) in
    omega (arith, rest, less_long x ys i)
