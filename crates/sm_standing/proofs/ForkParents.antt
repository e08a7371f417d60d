-- While a disk is being forked, and nothing else is under way: no image but the fork's own new ones has a parent that speaks of the
-- fork.
use Rattle.std.proofs.Common.{◌≡◌, ◌⊎◌, inl, inr, ℕ, Bool, true, false, cond, not, ◌&&◌, ◌||◌, ◌==◌, List, [], ◌∷◌, ◌++◌, length, nat_le, Option, Some, None, refl, sym, ap, ◌∙◌, subst}
use Rattle.std.specs.List.{filter}
use Rattle.std.proofs.lemmas.Bool.{true≢false, and_parts, or_cases, eqb-true}
use Rattle.std.proofs.lemmas.Option.{none-some, same_Some}
use Rattle.common_laws.specs.Lists.{In, ◌>>=◌}
use Rattle.common_laws.proofs.Booleans.{not_false}
use Rattle.common_laws.proofs.Bytes.{bytes_eq-refl, bytes_eq-same}
use Rattle.common_laws.proofs.Lists.{filter-In, In-left}
use Rattle.sm_base.specs.declared.names.Name.{Name}
use Rattle.sm_base.specs.declared.names.Name.TheVariants.{Mgt, Vhd, Raw, Old, Cbt, Clone, Inflate, Coalesce, Relink, Leaf}
use Rattle.vg_meta.specs.Tables.{Row, rows}
use Rattle.vg_meta.proofs.RowLaws.{row_of-name}
use Rattle.sm_machine.specs.Shapes.{same_image}
use Rattle.sm_standing.specs.Apart.{is_apart}
use Rattle.sm_standing.specs.Checks.{children, children_with, chain_length, is_base_of, is_entry_linked, is_fork_linked, is_linked, is_misplaced, is_no_larger, is_parent_right, parent_is, tree_wrong_as}
use Rattle.sm_standing.specs.Contents.{Content, row}
use Rattle.sm_standing.specs.Entries.{image_with, is_fork_made, is_hidden, making}
use Rattle.sm_standing.specs.Forks.{forked}
use Rattle.sm_standing.specs.Images.{Image, image_of, raw_image}
use Rattle.sm_standing.specs.Outlines.{Link, Outline, link_of, outline}
use Rattle.sm_standing.specs.PlainSound.{SimpleSound}
use Rattle.sm_standing.proofs.DisksShown.{row_of-In}
use Rattle.sm_standing.proofs.ForkParts.{entry_found}
use Rattle.sm_standing.proofs.ForkTables.{IsForkStage, IsNew, of_row_parts}
use Rattle.sm_standing.proofs.ImageLaws.{image_there}

-- an image that has a parent is a VHD image
pub linked_image : (o : Option Image) (i : Link) → link_of o ≡ Some i → (x : Image) × (o ≡ Some x) × (x.parent ≡ i.parent)
linked_image None i h = absurd (none-some i h)
linked_image (Some x) i h = (x, refl, ap (λ (l : Link). l.parent) (same_Some (record { size = x.size; parent = x.parent }) i h))

behind : {A : Type 0} (xs ys : List A) (x : A) → In x ys → In x (xs ++ ys)
behind [] ys x i = i
behind (y ∷ xs) ys x i = inr (behind xs ys x i)

module _ (c : Content) where
  pub raw_top : (u : List ℕ) (i : Link) (o : Option Row) → row c (Raw u) ≡ o → link_of (image_of c (Raw u)) ≡ Some i → i.parent ≡ None
  unfolding image_of raw_image
  raw_top u i None at h = absurd (none-some i (sym (ap (λ o. link_of (o >>= (λ (r : Row). cond r.fresh None (Some (raw_image c (Raw u)))))) at) ∙ h))
  raw_top u i (Some r) at h = by r.fresh (sym (ap (λ o. link_of (o >>= (λ (r : Row). cond r.fresh None (Some (raw_image c (Raw u)))))) at) ∙ h)
    where
      by : (b : Bool) → link_of (cond b None (Some (raw_image c (Raw u)))) ≡ Some i → i.parent ≡ None
      by true h = absurd (none-some i h)
      by false h = sym (ap (λ (l : Link). l.parent) (same_Some (record { size = (raw_image c (Raw u)).size; parent = None }) i h))

  pub is_child : (x q : Name) (i : Link) → link_of (image_of c x) ≡ Some i → i.parent ≡ Some q → (u : List ℕ) × (x ≡ Vhd u)
  unfolding image_of
  is_child (Vhd u) q i at up = (u, refl)
  is_child (Raw u) q i at up = absurd (none-some q (sym (raw_top u i (row c (Raw u)) refl at) ∙ up))
  is_child Mgt q i at up = absurd (none-some i at)
  is_child (Old u) q i at up = absurd (none-some i at)
  is_child (Cbt u) q i at up = absurd (none-some i at)
  is_child (Clone x y z) q i at up = absurd (none-some i at)
  is_child (Inflate x y) q i at up = absurd (none-some i at)
  is_child (Coalesce x y) q i at up = absurd (none-some i at)
  is_child (Relink x y) q i at up = absurd (none-some i at)
  is_child (Leaf x y) q i at up = absurd (none-some i at)

  pub no_entry_link : (x y z : List ℕ) → link_of (image_of c (Clone x y z)) ≡ None
  unfolding image_of
  no_entry_link x y z = refl

  module _ (disk base twin : List ℕ) (n : Name) (entry : making c.table ≡ Clone disk base twin ∷ []) (s : SimpleSound c) (σ : IsForkStage c.table disk base twin n) where
    abbrev us : List (List ℕ)
    us = forked disk base twin

    abbrev o : Outline
    o = outline c

    -- the image is linked as the checks have it
    pub linked_at : (u : List ℕ) (r : Row) (i : Link) → rows c.table (Vhd u) ≡ Some r → o.links (Vhd u) ≡ Some i → is_linked o i ≡ true
    linked_at u r i there at =
        let named = row_of-name c.table.volumes (Vhd u) r there in
        (and_parts (is_linked o i) (nat_le (chain_length o 31 r.name) 30 && (r.hidden || (length (children o r.name) == 0)))
        (not_false _ (sym (ap (tree_wrong_as o r) named ∙ ap (is_misplaced o r) at) ∙ s.placed r (row_of-In c.table.volumes (Vhd u) r there).0))).0

    pub parent_right : (i : Link) (q : Name) → is_linked o i ≡ true → i.parent ≡ Some q → is_parent_right o i.size q ≡ true
    parent_right i q h up = sym (ap (λ x. elim x as (λ _. Bool) [ None ↦ true | Some p ↦ is_parent_right o i.size p ]) up) ∙ h

    -- the entry's condition on parents and children
    pub linked_then : is_fork_made c.table disk base twin ≡ true
        → (is_base_of base (o.links (Vhd disk)) && (is_base_of base (o.links (Vhd twin)) && (length (filter (λ r. not (same_image r.name (Vhd disk) || same_image r.name (Vhd twin))) (children_with o base)) == 0))) ≡ true
    unfolding is_entry_linked
    linked_then made =
        sym (ap (λ b. not b || (is_base_of base (o.links (Vhd disk)) && (is_base_of base (o.links (Vhd twin))
        && (length (filter (λ r. not (same_image r.name (Vhd disk) || same_image r.name (Vhd twin))) (children_with o base)) == 0)))) made) ∙ linked
      where
        found : (r : Row) × (rows c.table (Clone disk base twin) ≡ Some r)
        found = entry_found c.table (Clone disk base twin) entry

        linked : is_fork_linked o disk base twin ≡ true
        linked = sym (ap (is_entry_linked o) (row_of-name c.table.volumes (Clone disk base twin) found.0 found.1)) ∙ s.linked found.0 (row_of-In c.table.volumes (Clone disk base twin) found.0 found.1).0

    -- nothing but the new images is a child of the base
    only_new : is_fork_made c.table disk base twin ≡ true → (b : Name) → (b ≡ Vhd base) ⊎ (b ≡ Raw base) → (u : List ℕ) (r : Row) → rows c.table (Vhd u) ≡ Some r → parent_is b (o.links (Vhd u)) ≡ true
        → (u ≡ disk) ⊎ (u ≡ twin)
    unfolding same_image children
    only_new made b is u r there child = by (or_cases (same_image r.name (Vhd disk)) (same_image r.name (Vhd twin)) (not_false _ (tested (not (same_image r.name (Vhd disk) || same_image r.name (Vhd twin))) refl)))
      where
        named : r.name ≡ Vhd u
        named = row_of-name c.table.volumes (Vhd u) r there

        others : List Row
        others = filter (λ r. not (same_image r.name (Vhd disk) || same_image r.name (Vhd twin))) (children_with o base)

        parts : (is_base_of base (o.links (Vhd disk)) && (is_base_of base (o.links (Vhd twin)) && (length others == 0))) ≡ true
        parts = linked_then made

        none : length others ≡ 0
        none = eqb-true (length others) 0
            (and_parts (is_base_of base (o.links (Vhd twin))) (length others == 0) (and_parts (is_base_of base (o.links (Vhd disk))) (is_base_of base (o.links (Vhd twin)) && (length others == 0)) parts).1).1

        empty : (xs : List Row) → length xs ≡ 0 → In r xs → ⊥
        empty [] h i = i
        empty (x ∷ xs) h i = let z = h in cc

        is_among_children : (x : Name) → (x ≡ Vhd base) ⊎ (x ≡ Raw base) → In r (children o x) → In r (children_with o base)
        is_among_children x (inl at) i = In-left (children o (Vhd base)) (children o (Raw base)) r (subst (λ y. In r (children o y)) at i)
        is_among_children x (inr at) i = behind (children o (Vhd base)) (children o (Raw base)) r (subst (λ y. In r (children o y)) at i)

        listed : In r (children o b)
        listed = filter-In (λ r. parent_is b (o.links r.name)) c.table.volumes r (row_of-In c.table.volumes (Vhd u) r there).0 (ap (λ x. parent_is b (o.links x)) named ∙ child)

        tested : (k : Bool) → not (same_image r.name (Vhd disk) || same_image r.name (Vhd twin)) ≡ k → k ≡ false
        tested true at = absurd (empty others none (filter-In (λ r. not (same_image r.name (Vhd disk) || same_image r.name (Vhd twin))) (children_with o base) r (is_among_children b is listed) at))
        tested false at = refl

        by : (same_image r.name (Vhd disk) ≡ true) ⊎ (same_image r.name (Vhd twin) ≡ true) → (u ≡ disk) ⊎ (u ≡ twin)
        by (inl k) = inl (bytes_eq-same u disk (sym (ap (λ x. same_image x (Vhd disk)) named) ∙ k))
        by (inr k) = inr (bytes_eq-same u twin (sym (ap (λ x. same_image x (Vhd twin)) named) ∙ k))

    base_itself : (b : Name) → (b ≡ Vhd base) ⊎ (b ≡ Raw base) → same_image b b ≡ true
    unfolding same_image
    base_itself b (inl is) = ap (λ x. same_image x x) is ∙ bytes_eq-refl base
    base_itself b (inr is) = ap (λ x. same_image x x) is ∙ bytes_eq-refl base

    -- a parent is apart, or it is the base, of one of the new images
    pub parents : (x q : Name) (i : Link) → o.links x ≡ Some i → i.parent ≡ Some q
        → (is_apart us q ≡ true) ⊎ ((q ≡ n) × ((n ≡ Vhd base) ⊎ (n ≡ Raw base)) × ((x ≡ Vhd disk) ⊎ (x ≡ Vhd twin)))
    parents x q i at up = by (is_apart us q) refl
      where
        child : (u : List ℕ) × (x ≡ Vhd u)
        child = is_child x q i at up

        u : List ℕ
        u = child.0

        links : o.links (Vhd u) ≡ Some i
        links = ap o.links (sym child.1) ∙ at

        image : (y : Image) × (image_of c (Vhd u) ≡ Some y) × (y.parent ≡ i.parent)
        image = linked_image (image_of c (Vhd u)) i links

        there : (r : Row) × (row c (Vhd u) ≡ Some r)
        there = image_there c (Vhd u) image.0 image.1

        right : (is_hidden c.table q ≡ true) × (is_no_larger i.size (o.links q) ≡ true)
        right = and_parts (is_hidden c.table q) (is_no_larger i.size (o.links q)) (parent_right i q (linked_at u there.0 i there.1 links) up)

        above : (r : Row) × (rows c.table q ≡ Some r) × ((r.hidden && not r.fresh) ≡ true)
        above = of_row_parts (λ r. r.hidden && not r.fresh) (rows c.table q) right.0

        hidden : above.0.hidden ≡ true
        hidden = (and_parts above.0.hidden (not above.0.fresh) above.2).0

        new_name : (u ≡ disk) ⊎ (u ≡ twin) → (x ≡ Vhd disk) ⊎ (x ≡ Vhd twin)
        new_name (inl is) = inl (child.1 ∙ ap Vhd is)
        new_name (inr is) = inr (child.1 ∙ ap Vhd is)

        placed : q ≡ n → ((image_with c.table base ≡ None) × (σ.own.hidden ≡ false) × ((n ≡ Vhd disk) ⊎ (n ≡ Raw disk))) ⊎ ((image_with c.table base ≡ Some n) × ((n ≡ Vhd base) ⊎ (n ≡ Raw base)) × (is_fork_made c.table disk base twin ≡ true))
            → (is_apart us q ≡ true) ⊎ ((q ≡ n) × ((n ≡ Vhd base) ⊎ (n ≡ Raw base)) × ((x ≡ Vhd disk) ⊎ (x ≡ Vhd twin)))
        placed is (inl k) =
            let same : above.0 ≡ σ.own = same_Some above.0 σ.own (sym above.1 ∙ ap (rows c.table) is ∙ σ.there) in
            absurd (true≢false (sym hidden ∙ ap (λ (r : Row). r.hidden) same ∙ k.1))
        placed is (inr k) =
            inr (
              is,
              k.1,
              new_name (only_new k.2 n k.1 u there.0 there.1
                  (ap (parent_is n) links ∙ ap (λ y. elim y as (λ _. Bool) [ None ↦ false | Some z ↦ same_image z n ]) (up ∙ ap Some is) ∙ base_itself n k.1)),
            )

        of : (q ≡ Clone disk base twin) ⊎ ((q ≡ n) ⊎ IsNew disk base twin n q σ.own.hidden above.0)
            → (is_apart us q ≡ true) ⊎ ((q ≡ n) × ((n ≡ Vhd base) ⊎ (n ≡ Raw base)) × ((x ≡ Vhd disk) ⊎ (x ≡ Vhd twin)))
        of (inl is) = absurd (true≢false (sym right.1 ∙ ap (λ y. is_no_larger i.size (o.links y)) is ∙ ap (is_no_larger i.size) (no_entry_link disk base twin)))
        of (inr (inl is)) = placed is σ.place
        of (inr (inr new)) = let one = new in absurd (true≢false (sym hidden ∙ one.shown))

        by : (b : Bool) → is_apart us q ≡ b → (is_apart us q ≡ true) ⊎ ((q ≡ n) × ((n ≡ Vhd base) ⊎ (n ≡ Raw base)) × ((x ≡ Vhd disk) ⊎ (x ≡ Vhd twin)))
        by true is = inl is
        by false is = of (σ.volumes q above.0 above.1 is)
