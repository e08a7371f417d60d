-- The image of a disk gets the extents that it lacks, and behind that it lacks none.
use Rattle.std.proofs.Common.{◌≡◌, inl, inr, ℕ, ◌+◌, ◌-◌, Bool, true, false, List, [], ◌∷◌, map, Option, Some, None, refl, sym, ap, ap₂, ◌∙◌, subst, arith}
use Rattle.std.proofs.lemmas.Bool.{true≢false}
use Rattle.std.specs.Str.{bytes_eq}
use Rattle.common_laws.specs.Lists.{In, change, first_some, given, when}
use Rattle.common_laws.proofs.Bytes.{bytes_eq-same, bytes_eq-refl}
use Rattle.common_laws.proofs.Lists.{Distinct-key, In-map, In-map_at, find-only}
use Rattle.sm_base.specs.declared.names.Name.{Name}
use Rattle.sm_base.specs.declared.names.Name.TheVariants.{Vhd}
use Rattle.sm_machine.specs.declared.commands.Command.{Command}
use Rattle.sm_machine.specs.Refusals.{lacking_for, refusal}
use Rattle.sm_machine.specs.Shapes.{ImageRow, Shape, disk_image, image_uuid, is_image, is_image_of, is_vhd, on_image, risen, same_image, thick_in}
use Rattle.sm_machine.specs.WellFormed.{IsWellFormed}
use Rattle.sm_machine.proofs.Guests.{disks_own}
use Rattle.sm_machine.proofs.Passed.{IsPassed}

-- a command that passes each test is refused for no cause
skip : {A : Type 0} (b : Bool) (x : A) (rest : List (Option A)) → b ≡ false → first_some (given b x ∷ rest) ≡ first_some rest
skip true x rest e = absurd (true≢false e)
skip false x rest e = refl

pub none_refuses : (s : Shape) (c : Command) → IsPassed s c → refusal s c ≡ None
unfolding refusal
none_refuses s c p =
    skip _ _ _ p.reserved ∙ skip _ _ _ p.unknown ∙ skip _ _ _ p.taken ∙ skip _ _ _ p.in_use ∙ skip _ _ _ p.not_attached ∙ skip _ _ _ p.read_only ∙ skip _ _ _ p.raw_disk ∙ skip _ _ _ p.tracked ∙ skip _ _ _ p.untracked
    ∙ skip _ _ _ p.out_of_range ∙ skip _ _ _ p.bad_size ∙ skip _ _ _ p.shrink ∙ skip _ _ _ p.deep ∙ skip _ _ _ p.too_many ∙ skip _ _ _ p.spent ∙ skip _ _ _ p.space

pub map_alike : {A B : Type 0} (f g : A → B) (xs : List A) → ((x : A) → In x xs → f x ≡ g x) → map f xs ≡ map g xs
map_alike f g [] same = refl
map_alike f g (x ∷ xs) same = ap₂ (λ y ys. y ∷ ys) (same x (inl refl)) (map_alike f g xs (λ y i. same y (inr i)))

-- two changes of the same elements, one behind the other
pub changed_twice : {A : Type 0} (test : A → Bool) (f g h : A → A) (xs : List A) → ((x : A) → In x xs → test x ≡ true → when (test (f x)) g (f x) ≡ h x) → change test g (change test f xs) ≡ change test h xs
changed_twice test f g h [] same = refl
changed_twice test f g h (x ∷ xs) same = ap₂ (λ y ys. y ∷ ys) (by (test x) refl) (changed_twice test f g h xs (λ y i. same y (inr i)))
  where
    by : (b : Bool) → test x ≡ b → when (test (when b f x)) g (when b f x) ≡ when b h x
    by true e = same x (inl refl) e
    by false e = ap (λ b. when b g x) e

-- with a slot for each block of so many sectors an image lacks none for that
pub full : (σ : Shape) (size : ℕ) (y : ImageRow) → lacking_for σ size (record y { extents = y.extents + lacking_for σ size y }) ≡ 0
full σ size y = at (is_vhd y.name)
  where
    at : (c : Bool) → elim c as (λ _. ℕ) [ true ↦ thick_in σ size - (y.extents + elim c as (λ _. ℕ) [ true ↦ thick_in σ size - y.extents | false ↦ 0 ]) | false ↦ 0 ] ≡ 0
    at true = omega arith
    at false = refl

-- the visible VHD image of a UUID gets so many extents more
module _ (σ : Shape) (w : IsWellFormed σ) (u : List ℕ) (i : ImageRow) (there : In i σ.images) (shown : is_image_of u i ≡ true) (vhd : is_vhd i.name ≡ true) (more : ImageRow → ℕ) where
  abbrev to : ℕ
  to = i.extents + more i

  -- the shape once its volume has them
  abbrev pub grown_shape : Shape
  grown_shape = record σ { sequence = risen σ.sequence 3; images = on_image (Vhd u) (λ y. record y { extents = to }) σ.images }

  abbrev pub filled_up : ImageRow → ImageRow
  filled_up y = record y { extents = y.extents + more y }

  only : (y : ImageRow) → In y σ.images → image_uuid y.name ≡ u → y ≡ i
  only y h e = Distinct-key (λ (x : ImageRow). image_uuid x.name) σ.images y i w.one_image h there (e ∙ sym (disks_own σ w u i shown).1)

  vhd_named : (n : Name) → is_vhd n ≡ true → image_uuid n ≡ u → same_image n (Vhd u) ≡ true
  unfolding is_vhd image_uuid same_image
  vhd_named (Vhd v) h e = subst (λ x. bytes_eq v x ≡ true) e (bytes_eq-refl v)
  vhd_named _ h e = absurd (true≢false (sym h))

  named_uuid : (n : Name) → same_image n (Vhd u) ≡ true → image_uuid n ≡ u
  unfolding same_image image_uuid
  named_uuid (Vhd v) h = bytes_eq-same v u h
  named_uuid _ h = absurd (true≢false (sym h))

  -- the name finds that image
  same_row : (y : ImageRow) → In y σ.images → when (is_image (Vhd u) y) (λ x. let r : ImageRow = record x { extents = to } in r) y ≡ when (is_image_of u y) filled_up y
  same_row y h = by (is_image_of u y) (is_image (Vhd u) y) refl refl
    where
      by : (b c : Bool) → is_image_of u y ≡ b → is_image (Vhd u) y ≡ c → when c (λ x. let r : ImageRow = record x { extents = to } in r) y ≡ when b filled_up y
      by true true of is = ap (λ x. let r : ImageRow = record y { extents = x.extents + more x } in r) (sym (only y h (disks_own σ w u y of).1))
      by false false of is = refl
      by true false of is = absurd (true≢false (sym (vhd_named y.name (subst (λ x. is_vhd x.name ≡ true) (sym (only y h (disks_own σ w u y of).1)) vhd) (disks_own σ w u y of).1) ∙ is))
      by false true of is = absurd (true≢false (sym (subst (λ x. is_image_of u x ≡ true) (sym (only y h (named_uuid y.name is))) shown) ∙ of))

  pub images_alike : grown_shape.images ≡ change (is_image_of u) filled_up σ.images
  images_alike = map_alike _ _ σ.images same_row

  -- each image of the disk is that one with its extents
  pub is_filled : (x : ImageRow) → In x grown_shape.images → is_image_of u x ≡ true → x ≡ filled_up i
  is_filled x h of = by r.0 (is_image_of u r.0) refl r.1 r.2
    where
      r : (y : ImageRow) × In y σ.images × (x ≡ when (is_image_of u y) filled_up y)
      r = In-map (λ y. when (is_image_of u y) filled_up y) σ.images x (subst (In x) images_alike h)

      by : (y : ImageRow) (b : Bool) → is_image_of u y ≡ b → In y σ.images → x ≡ when b filled_up y → x ≡ filled_up i
      by y true is at same = same ∙ ap filled_up (only y at (disks_own σ w u y is).1)
      by y false is at same = absurd (true≢false (sym of ∙ ap (is_image_of u) same ∙ is))

  -- the disk's image is it
  pub grown_image : disk_image u grown_shape ≡ Some (filled_up i)
  grown_image = find-only (is_image_of u) grown_shape.images (filled_up i) here shown is_filled
    where
      here : In (filled_up i) grown_shape.images
      here = subst (In (filled_up i)) (sym images_alike) (subst (λ b. In (when b filled_up i) (change (is_image_of u) filled_up σ.images)) shown (In-map_at (λ y. when (is_image_of u y) filled_up y) σ.images i there))
