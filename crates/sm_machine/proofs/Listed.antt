-- Records of disks, through insertions, filters and changes.
use Rattle.std.proofs.Common.{◌≡◌, Bool, true, false, cond, List, [], ◌∷◌, map, Some, refl, ap}
use Rattle.std.specs.List.{filter, find}
use Rattle.std.specs.Option.{option_map}
use Rattle.common_laws.specs.Lists.{insert_by, change, when}

-- a map over an insertion, where the order is by what the map keeps
insert_case : {A B : Type 0} (k : A → B) (b : A → A → Bool) (b' : B → B → Bool) (x y : A) (ys : List A) (c d : Bool) → c ≡ d → map k (insert_by b x ys) ≡ insert_by b' (k x) (map k ys)
    → map k (cond c (x ∷ y ∷ ys) (y ∷ insert_by b x ys)) ≡ cond d (k x ∷ k y ∷ map k ys) (k y ∷ insert_by b' (k x) (map k ys))
insert_case k b b' x y ys true true e ih = refl
insert_case k b b' x y ys false false e ih = ap (λ zs. k y ∷ zs) ih
insert_case k b b' x y ys true false e ih = cc
insert_case k b b' x y ys false true e ih = cc

pub map-insert_by : {A B : Type 0} (k : A → B) (b : A → A → Bool) (b' : B → B → Bool) → ((x y : A) → b x y ≡ b' (k x) (k y)) → (x : A) (xs : List A) → map k (insert_by b x xs) ≡ insert_by b' (k x) (map k xs)
unfolding insert_by
map-insert_by k b b' h x [] = refl
map-insert_by k b b' h x (y ∷ ys) = insert_case k b b' x y ys (b x y) (b' (k x) (k y)) (h x y) (map-insert_by k b b' h x ys)

filter_case : {A B : Type 0} (k : A → B) (t : A → Bool) (t' : B → Bool) (y : A) (ys : List A) (c d : Bool) → c ≡ d → map k (filter t ys) ≡ filter t' (map k ys) → map k (cond c (y ∷ filter t ys) (filter t ys)) ≡ cond d (k y ∷ filter t' (map k ys)) (filter t' (map k ys))
filter_case k t t' y ys true true e ih = ap (λ zs. k y ∷ zs) ih
filter_case k t t' y ys false false e ih = ih
filter_case k t t' y ys true false e ih = cc
filter_case k t t' y ys false true e ih = cc

pub map-filter : {A B : Type 0} (k : A → B) (t : A → Bool) (t' : B → Bool) → ((x : A) → t x ≡ t' (k x)) → (xs : List A) → map k (filter t xs) ≡ filter t' (map k xs)
map-filter k t t' h [] = refl
map-filter k t t' h (y ∷ ys) = filter_case k t t' y ys (t y) (t' (k y)) (h y) (map-filter k t t' h ys)

when_case : {A B : Type 0} (k : A → B) (f : A → A) (f' : B → B) (x : A) (c d : Bool) → c ≡ d → k (f x) ≡ f' (k x) → k (when c f x) ≡ when d f' (k x)
when_case k f f' x true true e h = h
when_case k f f' x false false e h = refl
when_case k f f' x true false e h = cc
when_case k f f' x false true e h = cc

pub map-change : {A B : Type 0} (k : A → B) (t : A → Bool) (t' : B → Bool) (f : A → A) (f' : B → B) → ((x : A) → t x ≡ t' (k x)) → ((x : A) → k (f x) ≡ f' (k x)) → (xs : List A) → map k (change t f xs) ≡ change t' f' (map k xs)
map-change k t t' f f' h g [] = refl
map-change k t t' f f' h g (x ∷ xs) = let a : k (when (t x) f x) ≡ when (t' (k x)) f' (k x) = when_case k f f' x (t x) (t' (k x)) (h x) (g x) in let b : map k (change t f xs) ≡ change t' f' (map k xs) = map-change k t t' f f' h g xs in cc

when_same : {B : Type 0} (c : Bool) (x : B) → when c (λ (y : B). y) x ≡ x
when_same true x = refl
when_same false x = refl

pub change-same : {B : Type 0} (t : B → Bool) (xs : List B) → change t (λ (y : B). y) xs ≡ xs
change-same t [] = refl
change-same {B} t (x ∷ xs) = let a : when (t x) (λ (y : B). y) x ≡ x = when_same (t x) x in let b : change t (λ (y : B). y) xs ≡ xs = change-same t xs in cc

found_case : {A B : Type 0} (k : A → B) (t : A → Bool) (t' : B → Bool) (y : A) (ys : List A) (c d : Bool) → c ≡ d → option_map k (find t ys) ≡ find t' (map k ys) → option_map k (cond c (Some y) (find t ys)) ≡ cond d (Some (k y)) (find t' (map k ys))
found_case k t t' y ys true true e ih = refl
found_case k t t' y ys false false e ih = ih
found_case k t t' y ys true false e ih = cc
found_case k t t' y ys false true e ih = cc

pub find-key : {A B : Type 0} (k : A → B) (t : A → Bool) (t' : B → Bool) → ((x : A) → t x ≡ t' (k x)) → (xs : List A) → option_map k (find t xs) ≡ find t' (map k xs)
find-key k t t' h [] = refl
find-key k t t' h (y ∷ ys) = found_case k t t' y ys (t y) (t' (k y)) (h y) (find-key k t t' h ys)
