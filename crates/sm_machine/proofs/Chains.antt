-- Looking an image up, and chains that end within so many images.
use Rattle.std.proofs.Common.{◌≡◌, ℕ, zero, suc, Bool, true, false, cond, List, [], ◌∷◌, map, Option, Some, None, refl, sym, ap, subst}
use Rattle.std.specs.List.{find}
use Rattle.std.specs.Prelude.{IsTrue}
use Rattle.sm_base.specs.declared.names.Name.{Name}
use Rattle.common_laws.specs.Lists.{◌>>=◌, In, Distinct, insert_by}
use Rattle.sm_machine.specs.Shapes.{ImageRow, is_image, find_image, image_uuid, parent_of}
use Rattle.sm_machine.specs.WellFormed.{EndsWithin, HasParent, is_image_name}
use Rattle.common_laws.proofs.Lists.{Distinct-key, find-only, find-some}
use Rattle.sm_machine.proofs.ImageNames.{same_image-sound, same_image-refl}

-- looking for what is not the new element
other_case : {A : Type 0} (t : A → Bool) (before : A → A → Bool) (y z : A) (zs : List A) (b : Bool) → t y ≡ false → find t (insert_by before y zs) ≡ find t zs → find t (cond b (y ∷ z ∷ zs) (z ∷ insert_by before y zs)) ≡ find t (z ∷ zs)
other_case t before y z zs true e ih = rw e
other_case t before y z zs false e ih = ap (λ o. cond (t z) (Some z) o) ih

pub find-insert_other : {A : Type 0} (t : A → Bool) (before : A → A → Bool) (y : A) (xs : List A) → t y ≡ false → find t (insert_by before y xs) ≡ find t xs
unfolding insert_by
find-insert_other t before y [] e = rw e
find-insert_other t before y (z ∷ zs) e = other_case t before y z zs (before y z) e (find-insert_other t before y zs e)

-- the image of a name is the one that has it
pub find_image-in : (images : List ImageRow) (x : ImageRow) → Distinct (map (λ i. image_uuid i.name) images) → In x images → IsTrue (is_image_name x.name) → find_image x.name images ≡ Some x
find_image-in images x d h n = find-only (is_image x.name) images x h (same_image-refl x.name n)
    (λ y g e. Distinct-key (λ i. image_uuid i.name) images y x d g h (ap image_uuid (same_image-sound y.name x.name e)))

pub parent_of-in : (images : List ImageRow) (x : ImageRow) → Distinct (map (λ i. image_uuid i.name) images) → In x images → IsTrue (is_image_name x.name) → parent_of x.name images ≡ x.parent
parent_of-in images x d h n = ap (λ o. o >>= (λ i. i.parent)) (find_image-in images x d h n)

parent_case : (images : List ImageRow) (n p : Name) (o : Option ImageRow) → find_image n images ≡ o → o >>= (λ i. i.parent) ≡ Some p → (x : ImageRow) × In x images × (x.name ≡ n) × (x.parent ≡ Some p)
parent_case images n p None e q = cc
parent_case images n p (Some x) e q = let r : In x images × (is_image n x ≡ true) = find-some (is_image n) images x e in (x, r.0, same_image-sound x.name n r.1, q)

-- a parent that is found is that of an image which is there
pub parent_of-some : (images : List ImageRow) (n p : Name) → parent_of n images ≡ Some p → (x : ImageRow) × In x images × (x.name ≡ n) × (x.parent ≡ Some p)
parent_of-some images n p e = parent_case images n p (find_image n images) refl e

-- a fact of a name, if there is one
abbrev pub OfName : (Name → Type 0) → Option Name → Type 0
OfName K None = Unit {0}
OfName K (Some n) = K n

module _ (xs ys : List ImageRow) (K : Name → Type 0) (alike : (n : Name) → K n → parent_of n ys ≡ parent_of n xs) (up : (n p : Name) → K n → parent_of n xs ≡ Some p → K p) where
  known : (n : Name) (o : Option Name) → K n → parent_of n xs ≡ o → OfName K o
  known n None k e = tt
  known n (Some p) k e = up n p k e

  -- chains end as before where each name on the way has the same parent
  pub ends_alike : (most : ℕ) (o : Option Name) → OfName K o → EndsWithin most o xs → EndsWithin most o ys
  ends_alike zero None k h = tt
  ends_alike zero (Some n) k h = h
  ends_alike (suc most) None k h = tt
  ends_alike (suc most) (Some n) k h =
      let e : parent_of n ys ≡ parent_of n xs = alike n k in
      subst (λ o. EndsWithin most o ys) (sym e) (ends_alike most (parent_of n xs) (known n (parent_of n xs) k refl) h)

-- the name of an image that is there
abbrev pub IsThere : List ImageRow → Name → Type 0
IsThere images n = (x : ImageRow) × In x images × (x.name ≡ n)

-- parents of images that are there are there
pub parents_there : (images : List ImageRow) → ((i : ImageRow) (p : Name) → In i images → i.parent ≡ Some p → HasParent images i p) → (n p : Name) → IsThere images n → parent_of n images ≡ Some p → IsThere images p
parents_there images h n p k e = let r : (x : ImageRow) × In x images × (x.name ≡ n) × (x.parent ≡ Some p) = parent_of-some images n p e in
    let g : HasParent images r.0 p = h r.0 p r.1 r.3 in (g.parent, g.there, g.is_named)
