-- While the entry of a fork is there: where the disk's image lies, and which images are over which.
use Rattle.std.proofs.Common.{◌≡◌, ◌≢◌, ◌⊎◌, inl, inr, ⊎_elim, ℕ, ◌&&◌, ◌||◌, not, Bool, true, false, List, [], ◌∷◌, length, Option, Some, None, is_some, refl, sym, ap, ◌∙◌, subst, bytes_eq}
use Rattle.std.specs.List.{filter, find, list_any}
use Rattle.std.proofs.lemmas.Bool.{true≢false, eqb-true, and_parts, or_cases, false_from_ne_true}
use Rattle.std.proofs.lemmas.Option.{none-some, same_Some}
use Rattle.common_laws.specs.Lists.{In, ◌>>=◌}
use Rattle.common_laws.proofs.Booleans.{not_true, not_false}
use Rattle.common_laws.proofs.Options.{is_some-parts}
use Rattle.common_laws.proofs.Bytes.{bytes_eq-refl}
use Rattle.common_laws.proofs.Lists.{filter-In, find-some, none_find}
use Rattle.sm_base.specs.declared.names.Name.{Name}
use Rattle.sm_base.specs.declared.names.Name.TheVariants.{Vhd, Raw, Old, Clone}
use Rattle.vg_meta.specs.Tables.{VolumeTable, Row, rows}
use Rattle.vg_meta.proofs.NameLaws.{name_eq-true}
use Rattle.sm_machine.specs.Shapes.{same_image}
use Rattle.sm_machine.proofs.ImageNames.{same_image-sound}
use Rattle.sm_standing.specs.Apart.{is_apart, IsEmptyOver}
use Rattle.sm_standing.specs.Changes.{parent_of}
use Rattle.sm_standing.specs.Checks.{children, parent_is}
use Rattle.sm_standing.specs.Contents.{Content}
use Rattle.sm_standing.specs.Entries.{of_row, is_there, is_filled, is_hidden, is_visible, is_visible_or_gone, images_with, has_image, image_with, folding, head, is_past, is_fork_begun, is_fork_made, is_among, folding_uuids}
use Rattle.sm_standing.specs.Forks.{forked, IsForkable, IsForkPlace, IsForkChild, IsForkMoment}
use Rattle.sm_standing.specs.Images.{Image, image_of}
use Rattle.sm_standing.specs.Outlines.{Outline, Link, link_of, outline}
use Rattle.sm_standing.specs.Standing.{stands_plainly}
use Rattle.sm_standing.proofs.ApartLaws.{stands_beside, under_plain}
use Rattle.sm_standing.proofs.DisksShown.{row_of-In}
use Rattle.sm_standing.proofs.ForkLaws.{disk_among, base_among, twin_among}
use Rattle.sm_standing.proofs.ImageLaws.{image_there, new_image, parent-is}
use Rattle.sm_standing.proofs.Counts.{none_left, no_member, only_member, found_in, one_left}

-- ---- volumes of a table

-- no image has the UUID
pub none_with : (t : VolumeTable) (u : List ℕ) → has_image t u ≡ false → (is_there t (Vhd u) ≡ false) × (is_there t (Raw u) ≡ false)
none_with t u e =
    let none = eqb-true (length (images_with t u)) 0 (not_false _ e) in (
      false_from_ne_true (is_there t (Vhd u)) (λ y. no_member (images_with t u) (Vhd u) none (filter-In (is_there t) (Vhd u ∷ Raw u ∷ Old u ∷ []) (Vhd u) (inl refl) y)),
      false_from_ne_true (is_there t (Raw u)) (λ y. no_member (images_with t u) (Raw u) none (filter-In (is_there t) (Vhd u ∷ Raw u ∷ Old u ∷ []) (Raw u) (inr (inl refl)) y)),
    )

-- one alone has it
pub not_both : (t : VolumeTable) (u : List ℕ) → length (images_with t u) ≡ 1 → is_there t (Vhd u) ≡ true → is_there t (Raw u) ≡ true → ⊥
not_both t u one v r =
    let e = only_member (images_with t u) (Vhd u) (Raw u) one (filter-In (is_there t) (Vhd u ∷ Raw u ∷ Old u ∷ []) (Vhd u) (inl refl) v)
    (filter-In (is_there t) (Vhd u ∷ Raw u ∷ Old u ∷ []) (Raw u) (inr (inl refl)) r) in
    (let x = e in cc)

-- what is found of two names is one of them
pub found_kind : (test : Name → Bool) (u : List ℕ) (x : Name) → find test (Vhd u ∷ Raw u ∷ []) ≡ Some x → ((x ≡ Vhd u) ⊎ (x ≡ Raw u)) × (test x ≡ true)
found_kind test u x e = let w = find-some test (Vhd u ∷ Raw u ∷ []) x e in (by w.0, w.1)
  where
    by : In x (Vhd u ∷ Raw u ∷ []) → (x ≡ Vhd u) ⊎ (x ≡ Raw u)
    by (inl is) = inl is
    by (inr (inl is)) = inr is
    by (inr (inr none)) = absurd none

-- a volume that passes a test is there
pub row_there : (test : Row → Bool) (o : Option Row) → of_row test o ≡ true → is_some o ≡ true
row_there test None e = absurd (true≢false (sym e))
row_there test (Some r) e = refl

-- a link that is under an image has it as parent
pub under_parent : (p : Name) (x : Option Link) → parent_is p x ≡ true → (x >>= (λ i. i.parent)) ≡ Some p
under_parent p None e = absurd (true≢false (sym e))
under_parent p (Some i) e = by i.parent e
  where
    by : (y : Option Name) → elim y as (λ _. Bool) [ None ↦ false | Some q ↦ same_image q p ] ≡ true → y ≡ Some p
    by None e = absurd (true≢false (sym e))
    by (Some q) e = ap Some (same_image-sound q p e)

-- an entry has no image
no_entry_image : (c : Content) (disk base twin : List ℕ) → image_of c (Clone disk base twin) ≡ None
unfolding image_of
no_entry_image c disk base twin = refl

-- ---- the moment of a fork

module _ {a b : Content} {disk base twin : List ℕ} {n m : Name} {i : Image} (h : IsForkable a disk base twin n i) (k : IsForkMoment a b disk base twin n m) where
  abbrev us : List (List ℕ)
  us = forked disk base twin

  abbrev old : Outline
  old = outline a

  abbrev new : Outline
  new = outline b

  abbrev t : VolumeTable
  t = b.table

  pub away : (x : Name) → is_apart us x ≡ true → rows t x ≡ rows a.table x
  away x apart = k.apart.rows x apart

  pub volume_at : (x : Name) (r : Row) → rows t x ≡ Some r → In r t.volumes × (r.name ≡ x)
  volume_at x r is = let w = row_of-In t.volumes x r is in (w.0, name_eq-true r.name x w.1)

  pub volume_before : (x : Name) (r : Row) → rows a.table x ≡ Some r → In r a.table.volumes × (r.name ≡ x)
  volume_before x r is = let w = row_of-In a.table.volumes x r is in (w.0, name_eq-true r.name x w.1)

  pub found : (r : Row) → In r t.volumes → rows t r.name ≡ Some r
  found r j = found_in t.volumes k.table.volumes.rising r j

  pub found_there : (r : Row) (x : Name) → In r t.volumes → r.name ≡ x → is_there t x ≡ true
  found_there r x j is = ap (λ y. is_there t y) (sym is) ∙ ap is_some (found r j)

  -- ---- which names speak of the three

  pub vhd_near : (u : List ℕ) → is_among us u ≡ true → is_apart us (Vhd u) ≡ false
  vhd_near u e = ap (λ c. not (c || false)) e

  pub raw_near : (u : List ℕ) → is_among us u ≡ true → is_apart us (Raw u) ≡ false
  raw_near u e = ap (λ c. not (c || false)) e

  pub not_near : (x y : Name) → is_apart us x ≡ true → is_apart us y ≡ false → x ≢ y
  not_near x y p q e = true≢false (sym p ∙ ap (is_apart us) e ∙ q)

  pub among_disk : is_among us disk ≡ true
  among_disk = disk_among disk base twin

  pub among_base : is_among us base ≡ true
  among_base = base_among disk base twin

  pub among_twin : is_among us twin ≡ true
  among_twin = twin_among disk base twin

  -- each was given before the table's number
  pub past_disk : is_past t.sequence disk ≡ true
  past_disk = (and_parts _ _ k.past).0

  pub past_base : is_past t.sequence base ≡ true
  past_base = (and_parts _ _ (and_parts _ _ k.past).1).0

  pub past_twin : is_past t.sequence twin ≡ true
  past_twin = (and_parts _ _ (and_parts _ _ (and_parts _ _ k.past).1).1).0

  -- ---- the stage

  not_same : (u v : List ℕ) → bytes_eq u v ≡ false → u ≢ v
  not_same u v e is = true≢false (sym (bytes_eq-refl u) ∙ ap (bytes_eq u) is ∙ e)

  pub disk_base : disk ≢ base
  disk_base = not_same disk base (not_true _ (and_parts _ _ k.stage).0)

  pub base_twin : base ≢ twin
  base_twin = not_same base twin (not_true _ (and_parts _ _ (and_parts _ _ (and_parts _ _ k.stage).1).1).0)

  stage_of : (is_fork_begun t disk base twin ≡ true) ⊎ (is_fork_made t disk base twin ≡ true)
  stage_of =
      let p = and_parts (not (bytes_eq disk base)) _ k.stage in
      let q = and_parts (not (bytes_eq disk twin)) _ p.1 in
      let r = and_parts (not (bytes_eq base twin)) _ q.1 in
      let s = and_parts (not (list_any (is_among us) (folding_uuids t))) _ r.1 in
      or_cases (is_fork_begun t disk base twin) _ s.1

  -- before the disk's image is renamed
  pub record Begun : Type 0 where
    no_base : has_image t base ≡ false
    no_twin : has_image t twin ≡ false
    one : length (images_with t disk) ≡ 1

  begun_from : is_fork_begun t disk base twin ≡ true → Begun
  begun_from e =
      let p = and_parts _ _ e in
      let q = and_parts _ _ p.1 in
      let r = and_parts _ _ q.1 in
      record { no_base = not_true _ p.0; no_twin = not_true _ q.0; one = eqb-true (length (images_with t disk)) 1 r.0 }

  base_there : is_fork_made t disk base twin ≡ true → (is_there t (Vhd base) ≡ true) ⊎ (is_there t (Raw base) ≡ true)
  base_there e = ⊎_elim (λ v. inl (row_there (λ r. not r.fresh) (rows t (Vhd base)) v)) (λ v. inr (row_there (λ r. not r.fresh) (rows t (Raw base)) v)) (or_cases _ _ (and_parts _ _ e).0)

  -- where the disk's image lies
  abbrev pub Lies : Type 0
  Lies = (Begun × ((m ≡ Vhd disk) ⊎ (m ≡ Raw disk))) ⊎ ((is_fork_made t disk base twin ≡ true) × ((m ≡ Vhd base) ⊎ (m ≡ Raw base)))

  pub lies : Lies
  unfolding image_with
  lies = by k.place stage_of
    where
      none_there : image_with t base ≡ None → (is_there t (Vhd base) ≡ true) ⊎ (is_there t (Raw base) ≡ true) → ⊥
      none_there e (inl v) = true≢false (sym v ∙ none_find (is_there t) (Vhd base ∷ Raw base ∷ []) e (Vhd base) (inl refl))
      none_there e (inr v) = true≢false (sym v ∙ none_find (is_there t) (Vhd base ∷ Raw base ∷ []) e (Raw base) (inr (inl refl)))

      one_there : Begun → (x : Name) → (x ≡ Vhd base) ⊎ (x ≡ Raw base) → is_there t x ≡ true → ⊥
      one_there g x (inl is) e = true≢false (sym e ∙ ap (λ y. is_there t y) is ∙ (none_with t base g.no_base).0)
      one_there g x (inr is) e = true≢false (sym e ∙ ap (λ y. is_there t y) is ∙ (none_with t base g.no_base).1)

      by : IsForkPlace t disk base m → (is_fork_begun t disk base twin ≡ true) ⊎ (is_fork_made t disk base twin ≡ true) → Lies
      by (inl p) (inl e) = inl (begun_from e, (found_kind (is_visible t) disk m p.1).0)
      by (inl p) (inr e) = absurd (none_there p.0 (base_there e))
      by (inr p) (inl e) = let w = found_kind (is_there t) base m p in absurd (one_there (begun_from e) m w.0 w.1)
      by (inr p) (inr e) = inr (e, (found_kind (is_there t) base m p).0)

  pub made_base : is_fork_made t disk base twin ≡ true → (m ≡ Vhd base) ⊎ (m ≡ Raw base)
  made_base e = by lies
    where
      by : Lies → (m ≡ Vhd base) ⊎ (m ≡ Raw base)
      by (inr (g, is)) = is
      by (inl (g, is)) =
          let none = none_with t base g.no_base in
          absurd (⊎_elim (λ v. true≢false (sym v ∙ none.0)) (λ v. true≢false (sym v ∙ none.1)) (base_there e))

  m_near : is_apart us m ≡ false
  m_near = by lies
    where
      by : Lies → is_apart us m ≡ false
      by (inl (g, inl is)) = ap (is_apart us) is ∙ vhd_near disk among_disk
      by (inl (g, inr is)) = ap (is_apart us) is ∙ raw_near disk among_disk
      by (inr (g, inl is)) = ap (is_apart us) is ∙ vhd_near base among_base
      by (inr (g, inr is)) = ap (is_apart us) is ∙ raw_near base among_base

  pub m_there : is_there t m ≡ true
  m_there = ap is_some k.moved

  -- the disk's image from before has the disk's UUID
  pub n_kind : (n ≡ Vhd disk) ⊎ (n ≡ Raw disk)
  n_kind =
      (found_kind (is_visible a.table) disk n
      (sym (under_plain a.table us (head (folding a.table)) disk (stands_plainly a.table disk) h.beside among_disk) ∙ sym (stands_beside a.table disk h.none_making) ∙ h.stood)).0

  n_near : is_apart us n ≡ false
  n_near = by n_kind
    where
      by : (n ≡ Vhd disk) ⊎ (n ≡ Raw disk) → is_apart us n ≡ false
      by (inl is) = ap (is_apart us) is ∙ vhd_near disk among_disk
      by (inr is) = ap (is_apart us) is ∙ raw_near disk among_disk

  -- a volume that speaks of one of the three
  kind_of : (x : Name) → is_apart us x ≡ false → is_there t x ≡ true → (x ≡ Clone disk base twin) ⊎ ((x ≡ m) ⊎ ((x ≡ Vhd disk) ⊎ (x ≡ Vhd twin)))
  kind_of x near there =
      let w = is_some-parts (rows t x) there in
      let v = volume_at x w.0 w.1 in
      by w.0 v.1 (k.volumes w.0 v.0 (ap (is_apart us) v.1 ∙ near))
    where
      by : (r : Row) → r.name ≡ x → (r.name ≡ Clone disk base twin) ⊎ ((r.name ≡ m) ⊎ (((r.name ≡ Vhd disk) ⊎ (r.name ≡ Vhd twin)) × IsForkChild b m r))
          → (x ≡ Clone disk base twin) ⊎ ((x ≡ m) ⊎ ((x ≡ Vhd disk) ⊎ (x ≡ Vhd twin)))
      by r is (inl e) = inl (sym is ∙ e)
      by r is (inr (inl e)) = inr (inl (sym is ∙ e))
      by r is (inr (inr (inl e, w))) = inr (inr (inl (sym is ∙ e)))
      by r is (inr (inr (inr e, w))) = inr (inr (inr (sym is ∙ e)))

  -- no VHD and raw image have one of the three UUIDs
  pub not_two : (u : List ℕ) → is_among us u ≡ true → is_there t (Vhd u) ≡ true → is_there t (Raw u) ≡ true → ⊥
  not_two u near v r = by (kind_of (Raw u) (raw_near u near) r)
    where
      of : Lies → Raw u ≡ m → ⊥
      of (inl (g, inl is)) e = let x = e ∙ is in cc
      of (inl (g, inr is)) e =
          let at : u ≡ disk = (let x = e ∙ is in cc) in
          not_both t disk g.one (subst (λ y. is_there t (Vhd y) ≡ true) at v) (subst (λ y. is_there t (Raw y) ≡ true) at r)
      of (inr (g, inl is)) e = let x = e ∙ is in cc
      of (inr (g, inr is)) e = other (kind_of (Vhd u) (vhd_near u near) v)
        where
          other : (Vhd u ≡ Clone disk base twin) ⊎ ((Vhd u ≡ m) ⊎ ((Vhd u ≡ Vhd disk) ⊎ (Vhd u ≡ Vhd twin))) → ⊥
          other (inl f) = let x = f in cc
          other (inr (inl f)) = let x = f ∙ is in cc
          other (inr (inr (inl f))) = disk_base (let x = e ∙ is in let y = f in cc)
          other (inr (inr (inr f))) = base_twin (let x = e ∙ is in let y = f in cc)

      by : (Raw u ≡ Clone disk base twin) ⊎ ((Raw u ≡ m) ⊎ ((Raw u ≡ Vhd disk) ⊎ (Raw u ≡ Vhd twin))) → ⊥
      by (inl e) = let x = e in cc
      by (inr (inl e)) = of lies e
      by (inr (inr (inl e))) = let x = e in cc
      by (inr (inr (inr e))) = let x = e in cc

  -- a new image beside the disk's: that is hidden
  pub hidden_under : (u : List ℕ) → (u ≡ disk) ⊎ (u ≡ twin) → is_there t (Vhd u) ≡ true → Vhd u ≢ m → is_hidden t m ≡ true
  hidden_under u which there other = by lies
    where
      none_twin : Begun → u ≡ twin → ⊥
      none_twin g is = true≢false (sym there ∙ ap (λ y. is_there t (Vhd y)) is ∙ (none_with t twin g.no_twin).0)

      begun : Begun → (m ≡ Vhd disk) ⊎ (m ≡ Raw disk) → (u ≡ disk) ⊎ (u ≡ twin) → is_hidden t m ≡ true
      begun g x (inr is) = absurd (none_twin g is)
      begun g (inl at_vhd) (inl is) = absurd (other (ap Vhd is ∙ sym at_vhd))
      begun g (inr at_raw) (inl is) = absurd (not_both t disk g.one (ap (λ y. is_there t (Vhd y)) (sym is) ∙ there) (ap (λ y. is_there t y) (sym at_raw) ∙ m_there))

      not_gone : (u ≡ disk) ⊎ (u ≡ twin) → (not (is_there t (Vhd disk)) && not (is_there t (Vhd twin))) ≡ true → ⊥
      not_gone (inl is) e = true≢false (sym there ∙ ap (λ y. is_there t (Vhd y)) is ∙ not_true _ (and_parts _ _ e).0)
      not_gone (inr is) e = true≢false (sym there ∙ ap (λ y. is_there t (Vhd y)) is ∙ not_true _ (and_parts _ _ e).1)

      of : (m ≡ Vhd base) ⊎ (m ≡ Raw base) → (is_hidden t (Vhd base) ≡ true) ⊎ (is_hidden t (Raw base) ≡ true) → is_hidden t m ≡ true
      of (inl is) (inl e) = ap (λ y. is_hidden t y) is ∙ e
      of (inr is) (inr e) = ap (λ y. is_hidden t y) is ∙ e
      of (inl is) (inr e) = absurd (not_two base among_base (ap (λ y. is_there t y) (sym is) ∙ m_there) (row_there (λ r. r.hidden && not r.fresh) (rows t (Raw base)) e))
      of (inr is) (inl e) = absurd (not_two base among_base (row_there (λ r. r.hidden && not r.fresh) (rows t (Vhd base)) e) (ap (λ y. is_there t y) (sym is) ∙ m_there))

      made : is_fork_made t disk base twin ≡ true → (m ≡ Vhd base) ⊎ (m ≡ Raw base) → is_hidden t m ≡ true
      made e at_base =
          let p = and_parts (is_filled t (Vhd base) || is_filled t (Raw base)) _ e in
          let q = and_parts (not (is_there t (Raw disk))) _ p.1 in
          let r = and_parts (not (is_there t (Raw twin))) _ q.1 in
          let s = and_parts (is_visible_or_gone t (Vhd disk)) _ r.1 in
          let v = and_parts (is_visible_or_gone t (Vhd twin)) _ s.1 in
          ⊎_elim (λ gone. absurd (not_gone which gone)) (λ shut. of at_base (or_cases (is_hidden t (Vhd base)) (is_hidden t (Raw base)) shut))
          (or_cases (not (is_there t (Vhd disk)) && not (is_there t (Vhd twin))) (is_hidden t (Vhd base) || is_hidden t (Raw base)) v.1)

      by : Lies → is_hidden t m ≡ true
      by (inl g) = begun g.0 g.1 which
      by (inr g) = made g.0 g.1

  -- ---- links

  pub link_at : (x : Name) → is_apart us x ≡ true → new.links x ≡ old.links x
  link_at x apart = ap link_of (k.apart.images x apart)

  parent_at : (x : Name) → is_apart us x ≡ true → parent_of b x ≡ parent_of a x
  parent_at x apart = ap (λ o. link_of o >>= (λ l. l.parent)) (k.apart.images x apart)

  m_parent : parent_of b m ≡ parent_of a n
  m_parent = ap (λ o. link_of o >>= (λ l. l.parent)) k.image

  abbrev pub own_link : Link
  own_link = record { size = i.size; parent = i.parent }

  pub m_link : new.links m ≡ Some own_link
  m_link = ap link_of (k.image ∙ h.image)

  pub n_link : old.links n ≡ Some own_link
  n_link = ap link_of h.image

  -- which volumes have a parent: one apart, the disk's image, and the new ones over it
  abbrev pub Below : Row → Name → Type 0
  Below r p = ((is_apart us r.name ≡ true) × (parent_of a r.name ≡ Some p))
      ⊎ (((r.name ≡ m) × (parent_of a n ≡ Some p)) ⊎ (((r.name ≡ Vhd disk) ⊎ (r.name ≡ Vhd twin)) × (p ≡ m)))

  new_parent : (r : Row) (p : Name) → In r t.volumes → parent_of b r.name ≡ Some p → (r.fresh ≡ true) ⊎ ((j q : Image) × IsEmptyOver b r.name m j q) → p ≡ m
  new_parent r p there e (inl fresh) =
      absurd (none-some p (sym (ap (λ o. link_of o >>= (λ l. l.parent)) (new_image b r.name r (found r there) fresh)) ∙ e))
  new_parent r p there e (inr (j, q, empty)) = same_Some p m (sym e ∙ parent-is b r.name m j empty.image empty.parent)

  pub below : (r : Row) (p : Name) → In r t.volumes → parent_of b r.name ≡ Some p → Below r p
  below r p there e = by (is_apart us r.name) refl
    where
      of : (r.name ≡ Clone disk base twin) ⊎ ((r.name ≡ m) ⊎ (((r.name ≡ Vhd disk) ⊎ (r.name ≡ Vhd twin)) × IsForkChild b m r)) → Below r p
      of (inl entry) =
          absurd (none-some p (sym (ap (λ o. link_of o >>= (λ l. l.parent)) (no_entry_image b disk base twin)) ∙ ap (parent_of b) (sym entry) ∙ e))
      of (inr (inl is)) = inr (inl (is, sym m_parent ∙ ap (parent_of b) (sym is) ∙ e))
      of (inr (inr (names, child))) = inr (inr (names, new_parent r p there e child.empty))

      by : (c : Bool) → is_apart us r.name ≡ c → Below r p
      by true apart = inl (apart, sym (parent_at r.name apart) ∙ e)
      by false near = of (k.volumes r there near)

  pub parent_of_child : (r : Row) (p : Name) → parent_is p (new.links r.name) ≡ true → parent_of b r.name ≡ Some p
  parent_of_child r p e = under_parent p (new.links r.name) e

  -- each child of an image apart was one, perhaps as the disk's image
  record Was (r : Row) (p : Name) : Type 0 where
    row : Row
    there : In row a.table.volumes
    child : parent_is p (old.links row.name) ≡ true
    named : (row.name ≡ r.name) ⊎ (row.name ≡ n)

  child_before : (r : Row) (p : Name) → In r t.volumes → is_apart us p ≡ true → parent_is p (new.links r.name) ≡ true → Was r p
  child_before r p there apart e = by (below r p there (parent_of_child r p e))
    where
      by : Below r p → Was r p
      by (inl (here, linked)) =
          record {
            row = r;
            there = (volume_before r.name r (sym (away r.name here) ∙ found r there)).0;
            child = ap (parent_is p) (sym (link_at r.name here)) ∙ e;
            named = inl refl;
          }
      by (inr (inl (is, linked))) =
          let w = volume_before n k.own k.stood in
          record {
            row = k.own;
            there = w.0;
            child = ap (λ y. parent_is p (old.links y)) w.1 ∙ ap (λ o. parent_is p (link_of o)) (sym k.image) ∙ ap (λ y. parent_is p (new.links y)) (sym is) ∙ e;
            named = inr w.1;
          }
      by (inr (inr (names, is))) = absurd (not_near p m apart m_near is)

  -- so an image apart that had no children has none
  pub none_still : (p : Name) → is_apart us p ≡ true → length (children old p) ≡ 0 → length (children new p) ≡ 0
  unfolding children
  none_still p apart none =
      ap length (none_left (λ r. parent_is p (new.links r.name)) t.volumes (λ r there. false_from_ne_true (parent_is p (new.links r.name)) (λ e.
      let w = child_before r p there apart e in
      no_member (filter (λ q. parent_is p (old.links q.name)) a.table.volumes) w.row none (filter-In (λ q. parent_is p (old.links q.name)) a.table.volumes w.row w.there w.child))))

  -- a name with this parent is a child
  pub child_there : (c p : Name) → parent_is p (old.links c) ≡ true → (r : Row) × (rows a.table c ≡ Some r) × In r (children old p)
  unfolding children
  child_there c p e =
      let w = linked (image_of a c) e in
      let r = image_there a c w.0 w.1 in
      let v = volume_before c r.0 r.1 in
      (r.0, r.1, filter-In (λ q. parent_is p (old.links q.name)) a.table.volumes r.0 v.0 (ap (λ y. parent_is p (old.links y)) v.1 ∙ e))
    where
      linked : (o : Option Image) → parent_is p (link_of o) ≡ true → (j : Image) × (o ≡ Some j)
      linked None e = absurd (true≢false (sym e))
      linked (Some j) e = (j, refl)

  -- and one that had one alone has it
  pub one_still : (c p : Name) → is_apart us c ≡ true → is_apart us p ≡ true → parent_is p (old.links c) ≡ true → length (children old p) ≡ 1 → length (children new p) ≡ 1
  unfolding children
  one_still c p here apart e one =
      let w = child_there c p e in
      let v = volume_at c w.0 (away c here ∙ w.1) in
      one_left (λ r. parent_is p (new.links r.name)) t.volumes w.0 k.table.volumes.rising v.0
      (ap (λ y. parent_is p (new.links y)) v.1 ∙ ap (parent_is p) (link_at c here) ∙ e)
      (λ r there f. only w.0 v.1 w.2 r (child_before r p there apart f) ∙ sym v.1)
    where
      only : (x : Row) → x.name ≡ c → In x (children old p) → (r : Row) → Was r p → r.name ≡ c
      only x named inside r z =
          let same = only_member (children old p) z.row x one (filter-In (λ q. parent_is p (old.links q.name)) a.table.volumes z.row z.there z.child) inside in
          ⊎_elim (λ is. sym is ∙ ap (λ (y : Row). y.name) same ∙ named) (λ is. absurd (not_near c n here n_near (sym named ∙ sym (ap (λ (y : Row). y.name) same) ∙ is))) z.named

  -- what lies over the disk's image is not that one itself
  pub not_over_itself : (x : Name) → parent_of b x ≡ Some m → x ≢ m
  not_over_itself x e is = not_near m m (h.childless n m (sym m_parent ∙ ap (parent_of b) (sym is) ∙ e)) m_near refl

  -- the disk's image has children only where it is hidden, and a new image has none
  pub m_child : (r : Row) → In r t.volumes → parent_is m (new.links r.name) ≡ true → is_hidden t m ≡ true
  m_child r there e = by (below r m there (parent_of_child r m e))
    where
      by : Below r m → is_hidden t m ≡ true
      by (inl (here, linked)) = absurd (not_near m m (h.childless r.name m linked) m_near refl)
      by (inr (inl (is, linked))) = absurd (not_near m m (h.childless n m linked) m_near refl)
      by (inr (inr (inl is, same))) = hidden_under disk (inl refl) (found_there r (Vhd disk) there is) (λ at. not_over_itself r.name (parent_of_child r m e) (is ∙ at))
      by (inr (inr (inr is, same))) = hidden_under twin (inr refl) (found_there r (Vhd twin) there is) (λ at. not_over_itself r.name (parent_of_child r m e) (is ∙ at))

  pub childless_new : (u : List ℕ) → is_among us u ≡ true → Vhd u ≢ m → length (children new (Vhd u)) ≡ 0
  unfolding children
  childless_new u near other =
      ap length (none_left (λ r. parent_is (Vhd u) (new.links r.name)) t.volumes (λ r there. false_from_ne_true (parent_is (Vhd u) (new.links r.name)) (λ e.
      by r (below r (Vhd u) there (parent_of_child r (Vhd u) e)))))
    where
      by : (r : Row) → Below r (Vhd u) → ⊥
      by r (inl (here, linked)) = not_near (Vhd u) (Vhd u) (h.childless r.name (Vhd u) linked) (vhd_near u near) refl
      by r (inr (inl (is, linked))) = not_near (Vhd u) (Vhd u) (h.childless n (Vhd u) linked) (vhd_near u near) refl
      by r (inr (inr (names, is))) = other is
