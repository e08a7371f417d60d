-- A sound repository under the entry of a leaf that is being folded: at which stage it stands, and whose parent an image may be.
use Rattle.std.proofs.Common.{◌≡◌, ◌≢◌, ◌⊎◌, inl, inr, ℕ, ◌==◌, ◌&&◌, ◌||◌, not, nat_le, Bool, true, false, cond, List, [], ◌∷◌, length, Option, Some, None, is_some, refl, sym, ap, ap₂, ◌∙◌, subst, bytes_eq}
use Rattle.std.specs.List.{filter, list_any}
use Rattle.std.proofs.lemmas.Bool.{true≢false, eqb-true, and_parts, or_cases, or_parts, and_right, false_from_ne_true}
use Rattle.std.proofs.lemmas.Option.{none-some}
use Rattle.common_laws.specs.Lists.{In, ◌>>=◌}
use Rattle.common_laws.proofs.Booleans.{not_false, not_true}
use Rattle.common_laws.proofs.Bytes.{bytes_eq-refl, bytes_eq-same}
use Rattle.common_laws.proofs.Lists.{filter-In, In-map_at}
use Rattle.common_laws.proofs.Options.{is_some-parts}
use Rattle.sm_base.specs.declared.names.Name.{Name}
use Rattle.sm_base.specs.declared.names.Name.TheVariants.{Mgt, Vhd, Raw, Old, Cbt, Clone, Inflate, Coalesce, Relink, Leaf}
use Rattle.vg_meta.specs.Tables.{VolumeTable, Row, names_of, rows}
use Rattle.vg_meta.proofs.RowLaws.{row_of-name}
use Rattle.sm_machine.specs.Shapes.{same_image}
use Rattle.sm_machine.specs.WellFormed.{is_image_name}
use Rattle.sm_standing.specs.Apart.{is_apart}
use Rattle.sm_standing.specs.Checks.{chain_length, children, fault_of, is_entry_linked, is_leaf_linked, is_linked, is_misplaced, is_no_larger, is_orphaned, is_parent_right, parent_is, tree_wrong_as}
use Rattle.sm_standing.specs.Contents.{Content, row}
use Rattle.sm_standing.specs.Entries.{are_past, folding, folding_uuids, head, is_among, is_at_stage, is_filled, is_folding_leaf, is_fork_begun, is_fork_made, is_forking, is_hidden, is_leaf_copied, is_leaf_folded, is_leaf_renamed, is_leaf_swapped, is_old_of, is_there, is_visible, making, uuids_in}
use Rattle.sm_standing.specs.Forks.{forked}
use Rattle.sm_standing.specs.Images.{image_of}
use Rattle.sm_standing.specs.Outlines.{HasImages, Link, Outline, link_of, outline, parent_in}
use Rattle.sm_standing.specs.PlainSound.{AllSound}
use Rattle.sm_standing.specs.Standing.{standing_volume}
use Rattle.sm_standing.specs.Swaps.{swapped}
use Rattle.sm_standing.specs.Undone.{IsBeingEnlarged}
use Rattle.sm_standing.proofs.ApartLaws.{beside, other_among, raw_apart, stands_beside, stands_making, vhd_apart}
use Rattle.sm_standing.proofs.Counts.{no_member}
use Rattle.sm_standing.proofs.DisksShown.{row_of-In}
use Rattle.sm_standing.proofs.ForkImages.{lost_as, misnamed_as}
use Rattle.sm_standing.proofs.ForkLaws.{fork_other}
use Rattle.sm_standing.proofs.ForkParents.{linked_image, raw_top}
use Rattle.sm_standing.proofs.ForkParts.{entry_found}
use Rattle.sm_standing.proofs.ForkTables.{of_row_parts}
use Rattle.sm_standing.proofs.ImageLaws.{image_there}
use Rattle.sm_standing.proofs.PlainKept.{sound_all}
use Rattle.sm_standing.proofs.SwapLaws.{named_renamed}
use Rattle.sm_standing.proofs.UndoneLaws.{IsBeingForked}
use Rattle.sm_standing.proofs.UnfoldedButLeaf.{fold_row}

-- any other name has no image
pub no_image_name : (c : Content) (n : Name) → is_image_name n ≡ false → image_of c n ≡ None
unfolding image_of is_image_name
no_image_name c (Vhd u) h = absurd (true≢false h)
no_image_name c (Raw u) h = absurd (true≢false h)
no_image_name c _ h = refl

-- the images of a content
pub content_images : (c : Content) → HasImages (outline c)
content_images c = record {
  named = λ n other. ap link_of (no_image_name c n other);
  there = λ n i is. let x = linked_image (image_of c n) i is in let r = image_there c n x.0 x.1 in ap is_some r.1;
  alone = λ u i is. raw_top c u i (row c (Raw u)) refl is;
}

-- a volume that is there is listed among those of its kind
pub listed : (v : VolumeTable) (test : Name → Bool) (n : Name) (r : Row) → rows v n ≡ Some r → test n ≡ true → In n (filter test (names_of v.volumes))
listed v test n r there is =
    filter-In test (names_of v.volumes) n
    (subst (λ m. In m (names_of v.volumes)) (row_of-name v.volumes n r there) (In-map_at (λ (y : Row). y.name) v.volumes r (row_of-In v.volumes n r there).0)) is

pub link_some : (o : Option Link) (q : Name) → (o >>= (λ l. l.parent)) ≡ Some q → (i : Link) × (o ≡ Some i) × (i.parent ≡ Some q)
link_some None q h = absurd (none-some q h)
link_some (Some i) q h = (i, refl, h)

module _ (o : Outline) (homes : HasImages o) where
  -- an image's name is that of a VHD or of a raw one
  pub image_kind : (q : Name) (l : Link) → o.links q ≡ Some l → (u : List ℕ) × ((q ≡ Vhd u) ⊎ (q ≡ Raw u))
  unfolding is_image_name
  image_kind (Vhd u) l h = (u, inl refl)
  image_kind (Raw u) l h = (u, inr refl)
  image_kind Mgt l h = absurd (none-some l (sym (homes.named Mgt refl) ∙ h))
  image_kind (Old u) l h = absurd (none-some l (sym (homes.named (Old u) refl) ∙ h))
  image_kind (Cbt u) l h = absurd (none-some l (sym (homes.named (Cbt u) refl) ∙ h))
  image_kind (Clone x y z) l h = absurd (none-some l (sym (homes.named (Clone x y z) refl) ∙ h))
  image_kind (Inflate x y) l h = absurd (none-some l (sym (homes.named (Inflate x y) refl) ∙ h))
  image_kind (Coalesce x y) l h = absurd (none-some l (sym (homes.named (Coalesce x y) refl) ∙ h))
  image_kind (Relink x y) l h = absurd (none-some l (sym (homes.named (Relink x y) refl) ∙ h))
  image_kind (Leaf x y) l h = absurd (none-some l (sym (homes.named (Leaf x y) refl) ∙ h))

  -- and that of a VHD where it has a parent
  child_kind : (m q : Name) (l : Link) → o.links m ≡ Some l → l.parent ≡ Some q → (u : List ℕ) × (m ≡ Vhd u)
  child_kind m q l at up = let k = image_kind m l at in by k.0 k.1
    where
      by : (u : List ℕ) → (m ≡ Vhd u) ⊎ (m ≡ Raw u) → (u : List ℕ) × (m ≡ Vhd u)
      by u (inl is) = (u, is)
      by u (inr is) = absurd (none-some q (sym (homes.alone u l (ap o.links (sym is) ∙ at)) ∙ up))

module _ (o : Outline) (homes : HasImages o) (sound : fault_of o ≡ None) where
  abbrev t : VolumeTable
  t = o.table

  s : AllSound o
  s = sound_all o sound

  pub row_in : (n : Name) (r : Row) → rows t n ≡ Some r → In r t.volumes
  row_in n r there = (row_of-In t.volumes n r there).0

  -- an image is linked as the checks have it
  linked_right : (u : List ℕ) (r : Row) (i : Link) → rows t (Vhd u) ≡ Some r → o.links (Vhd u) ≡ Some i → is_linked o i ≡ true
  linked_right u r i there at =
      let named = row_of-name t.volumes (Vhd u) r there in
      (and_parts (is_linked o i) (nat_le (chain_length o 31 r.name) 30 && (r.hidden || (length (children o r.name) == 0)))
      (not_false _ (sym (ap (tree_wrong_as o r) named ∙ ap (is_misplaced o r) at) ∙ s.placed r (row_in (Vhd u) r there)))).0

  -- a parent is hidden, and an image
  pub right_parent : (m q : Name) → parent_in o m ≡ Some q → (is_hidden t q ≡ true) × ((l : Link) × (o.links q ≡ Some l))
  right_parent m q up =
      let k = link_some (o.links m) q up in
      let child = child_kind o homes m q k.0 k.1 k.2 in
      let links = ap o.links (sym child.1) ∙ k.1 in
      let there = is_some-parts (rows t (Vhd child.0)) (homes.there (Vhd child.0) k.0 links) in
      let right = and_parts (is_hidden t q) (is_no_larger k.0.size (o.links q))
      (sym (ap (λ y. elim y as (λ _. Bool) [ None ↦ true | Some p ↦ is_parent_right o k.0.size p ]) k.2) ∙ linked_right child.0 there.0 k.0 there.1 links) in
      (right.0, of k.0.size (o.links q) refl right.1)
    where
      of : (size : ℕ) (y : Option Link) → o.links q ≡ y → is_no_larger size y ≡ true → (l : Link) × (o.links q ≡ Some l)
      of size None is h = absurd (true≢false (sym h))
      of size (Some l) is h = (l, is)

  pub hidden_then_there : (n : Name) → is_hidden t n ≡ true → is_there t n ≡ true
  hidden_then_there n h = let k = of_row_parts (λ r. r.hidden && not r.fresh) (rows t n) h in ap is_some k.1

  -- nobody's parent
  abbrev pub IsNobodys : Name → Type 0
  IsNobodys n = (m : Name) → parent_in o m ≢ Some n

  pub unhidden_nobodys : (n : Name) → is_hidden t n ≡ false → IsNobodys n
  unhidden_nobodys n h m up = true≢false (sym (right_parent m n up).0 ∙ h)

  pub childless_nobodys : (u : List ℕ) → length (children o (Vhd u)) ≡ 0 → IsNobodys (Vhd u)
  unfolding same_image children
  childless_nobodys u none m up =
      let k = link_some (o.links m) (Vhd u) up in
      let r = is_some-parts (rows t m) (homes.there m k.0 k.1) in
      let over = ap o.links (row_of-name t.volumes m r.0 r.1) ∙ k.1 in
      let child = ap (parent_is (Vhd u)) over ∙ ap (λ y. elim y as (λ _. Bool) [ None ↦ false | Some q ↦ same_image q (Vhd u) ]) k.2 ∙ bytes_eq-refl u in
      no_member (children o (Vhd u)) r.0 none (filter-In (λ q. parent_is (Vhd u) (o.links q.name)) t.volumes r.0 (row_in m r.0 r.1) child)

  pub gone_nobodys : (n : Name) → is_there t n ≡ false → IsNobodys n
  gone_nobodys n gone m up = true≢false (sym (hidden_then_there n (right_parent m n up).0) ∙ gone)

  -- no image has a parent of these UUIDs
  pub closed_by : (us : List (List ℕ)) → ((u : List ℕ) → is_among us u ≡ true → IsNobodys (Vhd u) × IsNobodys (Raw u)) → (m q : Name) → parent_in o m ≡ Some q → is_apart us q ≡ true
  closed_by us none m q up = let k = right_parent m q up in let w = image_kind o homes q k.1.0 k.1.1 in by w.0 w.1 (is_among us w.0) refl
    where
      by : (u : List ℕ) → (q ≡ Vhd u) ⊎ (q ≡ Raw u) → (b : Bool) → is_among us u ≡ b → is_apart us q ≡ true
      by u (inl is) true at = absurd ((none u at).0 m (up ∙ ap Some is))
      by u (inr is) true at = absurd ((none u at).1 m (up ∙ ap Some is))
      by u (inl is) false at = ap (is_apart us) is ∙ vhd_apart us u at
      by u (inr is) false at = ap (is_apart us) is ∙ raw_apart us u at

  -- no raw image beside a VHD image
  pub no_twin : (u : List ℕ) (r : Row) → rows t (Vhd u) ≡ Some r → is_there t (Raw u) ≡ false
  no_twin u r there =
      (or_parts (is_there t (Raw u)) (not (are_past t (Vhd u))) (sym (ap (misnamed_as t) (row_of-name t.volumes (Vhd u) r there)) ∙ s.named r (row_in (Vhd u) r there))).0

  module _ (leaf parent : List ℕ) (one : folding t ≡ Leaf leaf parent ∷ []) where
    abbrev e : Name
    e = Leaf leaf parent

    pub entry_row : (r : Row) × (rows t e ≡ Some r)
    entry_row = fold_row t e one

    -- the entry stands at a stage
    pub at_stage : (is_folding_leaf t leaf parent ≡ true) × (are_past t e ≡ true)
    unfolding is_at_stage
    at_stage =
        and_parts (is_folding_leaf t leaf parent) (are_past t e)
        (not_false _ (sym (ap (lost_as t) (row_of-name t.volumes e entry_row.0 entry_row.1)) ∙ s.at_stage entry_row.0 (row_in e entry_row.0 entry_row.1)))

    pub linked : is_leaf_linked o leaf parent ≡ true
    unfolding is_entry_linked
    linked = sym (ap (is_entry_linked o) (row_of-name t.volumes e entry_row.0 entry_row.1)) ∙ s.linked entry_row.0 (row_in e entry_row.0 entry_row.1)

    fork_beside : (d f g : List ℕ) → is_forking t d f g ≡ true → list_any (is_among (forked d f g)) (folding_uuids t) ≡ false
    fork_beside d f g at =
        not_true (list_any (is_among (forked d f g)) (folding_uuids t))
        (and_parts (not (list_any (is_among (forked d f g)) (folding_uuids t))) (is_fork_begun t d f g || is_fork_made t d f g)
        (and_parts (not (bytes_eq f g)) (not (list_any (is_among (forked d f g)) (folding_uuids t)) && (is_fork_begun t d f g || is_fork_made t d f g))
        (and_parts (not (bytes_eq d g)) (not (bytes_eq f g) && (not (list_any (is_among (forked d f g)) (folding_uuids t)) && (is_fork_begun t d f g || is_fork_made t d f g)))
        (and_parts (not (bytes_eq d f)) (not (bytes_eq d g) && (not (bytes_eq f g) && (not (list_any (is_among (forked d f g)) (folding_uuids t)) && (is_fork_begun t d f g || is_fork_made t d f g)))) at).1).1).1).0

    -- a fork beside it speaks of neither
    pub fork_free : (d f g : List ℕ) → making t ≡ Clone d f g ∷ [] → (u : List ℕ) → is_among (forked d f g) u ≡ true → is_among (swapped leaf parent) u ≡ false
    unfolding is_at_stage
    fork_free d f g made u is =
        let r = entry_found t (Clone d f g) made in
        let at = (and_parts (is_forking t d f g) (are_past t (Clone d f g)) (not_false _ (sym (ap (lost_as t) (row_of-name t.volumes (Clone d f g) r.0 r.1)) ∙ s.at_stage r.0 (row_in (Clone d f g) r.0 r.1)))).0 in
        let h = fork_beside d f g at in
        let n = or_parts (is_among (forked d f g) leaf) (is_among (forked d f g) parent || false) (sym (ap (λ ns. list_any (is_among (forked d f g)) (elim (head ns) as (λ _. List (List ℕ)) [ None ↦ [] | Some n ↦ uuids_in n ])) one) ∙ h) in
        let m = or_parts (is_among (forked d f g) parent) false n.1 in
        ap₂ (λ x y. x || (y || false)) (other_among (forked d f g) leaf u n.0 is) (other_among (forked d f g) parent u m.0 is)

    -- where its entry alone decides where a UUID stands, it decides
    pub stands_near : (making t ≡ []) ⊎ (((v : List ℕ) × (extents : ℕ) × IsBeingEnlarged t v extents) ⊎ IsBeingForked t) → (y : VolumeTable) (u : List ℕ) → making y ≡ making t → is_among (swapped leaf parent) u ≡ true
        → standing_volume y u ≡ beside y u
    stands_near (inl none) y u made near = stands_beside y u (made ∙ none)
    stands_near (inr (inl k)) y u made near = let h = k.2 in stands_making y u (Inflate k.0 k.1) (ap head (made ∙ h.entry))
    stands_near (inr (inr k)) y u made near =
        stands_making y u (Clone k.0 k.1 k.2) (ap head (made ∙ k.3))
        ∙ fork_other y k.0 k.1 k.2 u (beside y u) (false_from_ne_true (is_among (forked k.0 k.1 k.2) u) (λ is. true≢false (sym near ∙ fork_free k.0 k.1 k.2 k.3 u is)))

    -- an old leaf is that of the leaf, while it is being swapped
    pub old_leaf : (u : List ℕ) (r : Row) → rows t (Old u) ≡ Some r → (u ≡ leaf) × ((is_leaf_renamed t leaf parent || is_leaf_swapped t leaf parent) ≡ true)
    old_leaf u r there =
        let owned = not_false _ (sym (ap (λ ns. not (list_any (is_old_of t u) ns)) one) ∙ sym (ap (is_orphaned t) (row_of-name t.volumes (Old u) r there)) ∙ s.owned r (row_in (Old u) r there)) in
        let k = and_parts (bytes_eq leaf u) (is_leaf_renamed t leaf parent || is_leaf_swapped t leaf parent) (or_none _ owned) in
        (sym (bytes_eq-same leaf u k.0), k.1)
      where
        or_none : (b : Bool) → (b || false) ≡ true → b ≡ true
        or_none true h = refl
        or_none false h = absurd (true≢false (sym h))

    -- ---- the stages

    pub record IsRenamed : Type 0 where
      pub old : is_there t (Old leaf) ≡ true
      pub hidden : is_hidden t (Vhd parent) ≡ true
      pub no_vhd : is_there t (Vhd leaf) ≡ false
      pub no_raw : is_there t (Raw leaf) ≡ false
      pub childless : length (children o (Vhd parent)) ≡ 0

    not_copied : is_there t (Old leaf) ≡ true → is_leaf_copied t leaf parent ≡ false
    not_copied old =
        ap (λ b. is_visible t (Vhd leaf) && (is_hidden t (Vhd parent) && not b)) old
        ∙ ap (λ b. is_visible t (Vhd leaf) && b) (and_right (is_hidden t (Vhd parent)) false refl) ∙ and_right (is_visible t (Vhd leaf)) false refl

    abbrev linked_by : Bool → Bool → Bool → Bool
    linked_by c r w = cond c (parent_is (Vhd parent) (o.links (Vhd leaf)) && (length (children o (Vhd parent)) == 1))
        (cond r (length (children o (Vhd parent)) == 0) (cond w (length (children o (Vhd leaf)) == 0) true))

    pub renamed_stage : is_leaf_renamed t leaf parent ≡ true → IsRenamed
    renamed_stage h =
        let a = and_parts (is_there t (Old leaf)) (is_hidden t (Vhd parent) && (not (is_there t (Vhd leaf)) && not (is_there t (Raw leaf)))) h in
        let b = and_parts (is_hidden t (Vhd parent)) (not (is_there t (Vhd leaf)) && not (is_there t (Raw leaf))) a.1 in
        let d = and_parts (not (is_there t (Vhd leaf))) (not (is_there t (Raw leaf))) b.1 in
        record {
          old = a.0;
          hidden = b.0;
          no_vhd = not_true (is_there t (Vhd leaf)) d.0;
          no_raw = not_true (is_there t (Raw leaf)) d.1;
          childless = eqb-true (length (children o (Vhd parent))) 0 (sym (ap₂ (λ c r. linked_by c r (is_leaf_swapped t leaf parent)) (not_copied a.0) h) ∙ linked);
        }

    pub record IsSwapped : Type 0 where
      pub old : is_there t (Old leaf) ≡ true
      pub filled : is_filled t (Vhd leaf) ≡ true
      pub no_parent : is_there t (Vhd parent) ≡ false
      pub childless : length (children o (Vhd leaf)) ≡ 0
      pub not_renamed : is_leaf_renamed t leaf parent ≡ false

    pub swapped_stage : is_leaf_swapped t leaf parent ≡ true → IsSwapped
    swapped_stage h =
        let a = and_parts (is_there t (Old leaf)) (is_filled t (Vhd leaf) && not (is_there t (Vhd parent))) h in
        let b = and_parts (is_filled t (Vhd leaf)) (not (is_there t (Vhd parent))) a.1 in
        let not_renamed = named_renamed t leaf parent h in
        record {
          old = a.0;
          filled = b.0;
          no_parent = not_true (is_there t (Vhd parent)) b.1;
          childless = eqb-true (length (children o (Vhd leaf))) 0 (sym (ap₂ (λ c r. linked_by c r (is_leaf_swapped t leaf parent)) (not_copied a.0) not_renamed ∙ ap (linked_by false false) h) ∙ linked);
          not_renamed = not_renamed;
        }

    -- neither: the leaf stands in its own image, and there is no old one
    pub record IsPlaced : Type 0 where
      pub shown : is_visible t (Vhd leaf) ≡ true
      pub no_old : is_there t (Old leaf) ≡ false

    pub placed_stage : is_leaf_renamed t leaf parent ≡ false → is_leaf_swapped t leaf parent ≡ false → IsPlaced
    placed_stage a b =
        by (or_cases (is_leaf_copied t leaf parent) (is_leaf_folded t leaf parent)
        (sym (ap₂ (λ r w. is_leaf_copied t leaf parent || (r || (w || is_leaf_folded t leaf parent))) a b) ∙ at_stage.0))
      where
        by : (is_leaf_copied t leaf parent ≡ true) ⊎ (is_leaf_folded t leaf parent ≡ true) → IsPlaced
        by (inl h) =
            let k = and_parts (is_visible t (Vhd leaf)) (is_hidden t (Vhd parent) && not (is_there t (Old leaf))) h in
            record { shown = k.0; no_old = not_true (is_there t (Old leaf)) (and_parts (is_hidden t (Vhd parent)) (not (is_there t (Old leaf))) k.1).1 }
        by (inr h) =
            let k = and_parts (is_visible t (Vhd leaf)) (not (is_there t (Old leaf)) && not (is_there t (Vhd parent))) h in
            record { shown = k.0; no_old = not_true (is_there t (Old leaf)) (and_parts (not (is_there t (Old leaf))) (not (is_there t (Vhd parent))) k.1).0 }
