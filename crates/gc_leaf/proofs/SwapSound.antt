-- From the leaf's rename on, while the entry of a swap is there, all checks of an opening pass that passed before it.
-- A moment here is any content with these volumes, as the law has it, and not one that the commits made: its area, its sequence number and
-- the old leaf's extents are free. So a later one need not stand behind a first one, and all three stages are shown, where `law_leaf` of
-- `sm_standing` tells only what the commits make of a content.
use Rattle.std.proofs.Common.{◌≡◌, ◌≢◌, ◌⊎◌, inl, inr, ⊎_elim, ℕ, suc, ◌≤◌, ◌==◌, ◌&&◌, ◌||◌, not, nat_lt, nat_le, Bool, true, false, cond, List, [], ◌∷◌, length, Option, Some, None, is_some, is_none, refl, sym, ap, ap₂, ◌∙◌, subst, bytes_eq}
use Rattle.std.specs.List.{filter, list_any}
use Rattle.std.proofs.lemmas.Bool.{true≢false, le-ltb, eqb-true, eq-eqb, and_parts, or_left, or_right, and_right, false_from_ne_true}
use Rattle.std.proofs.lemmas.Option.{none-some, same_Some}
use Rattle.common_laws.specs.Lists.{In, numbers, ◌>>=◌}
use Rattle.common_laws.proofs.Booleans.{all_hold, not_true}
use Rattle.common_laws.proofs.Options.{is_some-parts}
use Rattle.common_laws.proofs.Bytes.{bytes_eq-refl, bytes_eq-apart}
use Rattle.common_laws.proofs.Lists.{In-filter, filter-In, In-map, In-map_at, In-numbers, find_none}
use Rattle.std.proofs.lemmas.Slice.Eq.{bytes_eq-Decides}
use Rattle.sm_base.specs.declared.faults.Place.TheVariants as at
use Rattle.sm_base.specs.declared.names.Name.{Name}
use Rattle.sm_base.specs.declared.names.Name.TheVariants.{Mgt, Vhd, Raw, Old, Cbt, Clone, Inflate, Coalesce, Relink, Leaf}
use Rattle.vg_meta.specs.Tables.{VolumeTable, Row, rows, names_of}
use Rattle.vg_meta.proofs.NameLaws.{name_eq-true}
use Rattle.sm_machine.specs.Shapes.{image_limit}
use Rattle.sm_standing.specs.Apart.{is_apart}
use Rattle.sm_standing.specs.Besides.{IsBeside, PassesAlone, is_settled_name}
use Rattle.sm_standing.specs.Changes.{parent_of}
use Rattle.sm_standing.specs.Checks.{too_many_fault, images, second_entry_fault, lesser, placed, is_orphaned, is_image_wrong, children, parent_is, chain_length, is_no_larger, is_parent_right, is_linked, is_misplaced, tree_wrong_as, is_leaf_linked, is_entry_linked, is_damaged, record_place, record_fault, disk_uuids, is_unrecorded, disk_place, disk_fault, first_fault}
use Rattle.sm_standing.specs.Contents.{Content, record_count, is_record_of}
use Rattle.sm_standing.specs.Entries.{of_row, is_there, is_visible, is_hidden, is_folding, is_making, folding, head, second, is_past, are_past, uuids_in, is_among, is_folding_leaf, is_leaf_copied, is_leaf_renamed, is_leaf_swapped, is_at_stage, is_old_of}
use Rattle.sm_standing.specs.Images.{Image, image_of}
use Rattle.sm_standing.specs.Outlines.{Outline, Link, link_of, outline}
use Rattle.sm_standing.specs.PlainSound.{AllSound}
use Rattle.sm_standing.specs.Standing.{standing_volume, uuids}
use Rattle.sm_standing.specs.Swaps.{IsSwappable, swapped}
use Rattle.sm_standing.proofs.ApartLaws.{stands_beside, plainly_same}
use Rattle.sm_standing.proofs.BesideLaws.{IsAlikeApart, beside_sound, chain_alike}
use Rattle.sm_standing.proofs.Counts.{found_in, no_member, none_left}
use Rattle.sm_standing.proofs.DisksShown.{row_of-In}
use Rattle.sm_standing.proofs.FaultLaws.{given_none}
use Rattle.sm_standing.proofs.ForkImages.{misnamed_as, lost_as}
use Rattle.sm_standing.proofs.ForkPlaces.{under_parent}
use Rattle.sm_standing.proofs.ImageLaws.{image_there, parent-is}
use Rattle.sm_standing.proofs.LeafRename.{parent_among}
use Rattle.sm_standing.proofs.NamedLaws.{all_past}
use Rattle.sm_standing.proofs.OutlineLaws.{outline_records_same, reading_within}
use Rattle.sm_standing.proofs.PlainKept.{sound_all}
use Rattle.sm_standing.proofs.SwapLaws.{beside_plain, hidden_there, leaf_among}
use Rattle.gc_leaf.specs.Moments.{IsSwapMoment, IsSwapStage}

-- ---- names that have no image

old_image : (c : Content) (u : List ℕ) → image_of c (Old u) ≡ None
unfolding image_of
old_image c u = refl

entry_image : (c : Content) (l p : List ℕ) → image_of c (Leaf l p) ≡ None
unfolding image_of
entry_image c l p = refl

-- ---- the moment

module _ (a b : Content) (leaf parent : List ℕ) (m : Name) (i q : Image) (h : IsSwappable a leaf parent i q) (sound : first_fault a ≡ None) (k : IsSwapMoment a b leaf parent m) where
  abbrev us : List (List ℕ)
  us = swapped leaf parent

  abbrev old : Outline
  old = outline a

  abbrev new : Outline
  new = outline b

  abbrev t : VolumeTable
  t = b.table

  passed : AllSound old
  passed = sound_all old sound

  -- ---- which names speak of the two

  near_leaf : is_apart us (Vhd leaf) ≡ false
  near_leaf = ap (λ c. not (c || false)) (leaf_among leaf parent)

  near_parent : is_apart us (Vhd parent) ≡ false
  near_parent = ap (λ c. not (c || false)) (parent_among leaf parent)

  m_name : (m ≡ Vhd parent) ⊎ (m ≡ Vhd leaf)
  m_name = by k.stage
    where
      by : IsSwapStage t leaf parent m → (m ≡ Vhd parent) ⊎ (m ≡ Vhd leaf)
      by (inl w) = inl w.1
      by (inr (inl w)) = inr w.1
      by (inr (inr w)) = inr w.1

  near_m : is_apart us m ≡ false
  near_m = ⊎_elim (λ e. ap (is_apart us) e ∙ near_parent) (λ e. ap (is_apart us) e ∙ near_leaf) m_name

  two_names : Vhd parent ≢ Vhd leaf
  two_names e =
      let same : parent ≡ leaf = (let x = e in cc) in
      let n : None ≡ Some (Vhd leaf) = sym h.no_parent ∙ ap (standing_volume a.table) same ∙ h.stood in
      (let x = n in cc)

  not_near : (x y : Name) → is_apart us x ≡ true → is_apart us y ≡ false → x ≢ y
  not_near x y p n e = true≢false (sym p ∙ ap (is_apart us) e ∙ n)

  -- ---- volumes

  away : (x : Name) → is_apart us x ≡ true → rows t x ≡ rows a.table x
  away x apart = k.apart.rows x apart

  volume_at : (v : VolumeTable) (x : Name) (r : Row) → rows v x ≡ Some r → In r v.volumes × (r.name ≡ x)
  volume_at v x r is = let w = row_of-In v.volumes x r is in (w.0, name_eq-true r.name x w.1)

  found : (r : Row) → In r t.volumes → rows t r.name ≡ Some r
  found r j = found_in t.volumes k.table.volumes.rising r j

  there_at : (x : Name) → is_there t x ≡ true → (r : Row) × In r t.volumes × (r.name ≡ x)
  there_at x e = let w = is_some-parts (rows t x) e in let v = volume_at t x w.0 w.1 in (w.0, v.0, v.1)

  before : (r : Row) → In r t.volumes → is_apart us r.name ≡ true → In r a.table.volumes
  before r there apart = (volume_at a.table r.name r (sym (away r.name apart) ∙ found r there)).0

  -- no raw image has the UUID of either
  no_raw : (u : List ℕ) → is_among us u ≡ true → is_there t (Raw u) ≡ false
  no_raw u near = false_from_ne_true (is_there t (Raw u)) (λ e.
      let w = there_at (Raw u) e in
      of w.0 (k.volumes w.0 w.1 (ap (is_apart us) w.2 ∙ ap (λ c. not (c || false)) near)) w.2)
    where
      of : (r : Row) → (r.name ≡ Leaf leaf parent) ⊎ ((r.name ≡ m) ⊎ (r.name ≡ Old leaf)) → r.name ≡ Raw u → ⊥
      of r (inl e) is = let x = sym is ∙ e in cc
      of r (inr (inl e)) is = ⊎_elim (λ at_parent. (let x = sym is ∙ e ∙ at_parent in cc)) (λ at_leaf. (let x = sym is ∙ e ∙ at_leaf in cc)) m_name
      of r (inr (inr e)) is = let x = sym is ∙ e in cc

  -- ---- the entries

  folding_was : folding a.table ≡ Leaf leaf parent ∷ []
  folding_was = by (folding a.table) refl
    where
      by : (ns : List Name) → folding a.table ≡ ns → folding a.table ≡ Leaf leaf parent ∷ []
      by [] is = absurd (none-some (Leaf leaf parent) (sym (ap head is) ∙ h.entry))
      by (e ∷ []) is = is ∙ ap (λ x. x ∷ []) (same_Some e (Leaf leaf parent) (sym (ap head is) ∙ h.entry))
      by (e ∷ f ∷ ns) is = absurd (none-some f (sym passed.one_folding ∙ ap second is))

  named_in : (test : Name → Bool) (r : Row) → In r t.volumes → test r.name ≡ true → In r.name (filter test (names_of t.volumes))
  named_in test r there e = filter-In test (names_of t.volumes) r.name (In-map_at (λ (x : Row). x.name) t.volumes r there) e

  folding_of : (r : Row) → In r t.volumes → is_folding r.name ≡ true → r.name ≡ Leaf leaf parent
  folding_of r there e = by (subst (In r.name) k.folding (named_in is_folding r there e))
    where
      by : In r.name (Leaf leaf parent ∷ []) → r.name ≡ Leaf leaf parent
      by (inl is) = is
      by (inr none) = absurd none

  no_making : (r : Row) → In r t.volumes → is_making r.name ≡ true → ⊥
  no_making r there e = subst (In r.name) k.making (named_in is_making r there e)

  -- the entry's volume before
  entry_was : (r : Row) × In r a.table.volumes × (r.name ≡ Leaf leaf parent)
  entry_was =
      let i : In (Leaf leaf parent) (folding a.table) = subst (In (Leaf leaf parent)) (sym folding_was) (inl refl) in
      let w = In-map (λ (x : Row). x.name) a.table.volumes (Leaf leaf parent) (In-filter is_folding (names_of a.table.volumes) (Leaf leaf parent) i).0 in
      (w.0, w.1, sym w.2)

  -- ---- what the checks said

  later : a.table.sequence ≤ t.sequence
  later = k.later

  -- both UUIDs were given before the table's number
  past_before : are_past a.table (Leaf leaf parent) ≡ true
  unfolding is_at_stage
  past_before = of (is_folding_leaf a.table leaf parent) (are_past a.table (Leaf leaf parent)) (sym (ap (lost_as a.table) entry_was.2) ∙ passed.at_stage entry_was.0 entry_was.1)
    where
      of : (x y : Bool) → not (x && y) ≡ false → y ≡ true
      of true true e = refl
      of true false e = absurd (true≢false e)
      of false y e = absurd (true≢false e)

  past_now : are_past t (Leaf leaf parent) ≡ true
  past_now = all_past (uuids_in (Leaf leaf parent)) a.table.sequence t.sequence later past_before

  past_leaf : is_past t.sequence leaf ≡ true
  past_leaf = (and_parts (is_past t.sequence leaf) _ past_now).0

  past_parent : is_past t.sequence parent ≡ true
  past_parent = (and_parts (is_past t.sequence parent) true (and_parts (is_past t.sequence leaf) _ past_now).1).0

  -- ---- links

  link_at : (x : Name) → is_apart us x ≡ true → new.links x ≡ old.links x
  link_at x apart = ap link_of (k.apart.images x apart)

  abbrev own_link : Link
  own_link = record { size = q.size; parent = q.parent }

  m_link : new.links m ≡ Some own_link
  m_link = ap link_of (k.image ∙ h.copied.below)

  parent_link : old.links (Vhd parent) ≡ Some own_link
  parent_link = ap link_of h.copied.below

  parent_up : (p : Name) → q.parent ≡ Some p → is_apart us p ≡ true
  parent_up p is = h.childless (Vhd parent) p two_names (parent-is a (Vhd parent) p q h.copied.below is)

  -- a child by now is one apart, or the parent's image
  below : (r : Row) (p : Name) → In r t.volumes → parent_is p (new.links r.name) ≡ true
      → ((is_apart us r.name ≡ true) × (parent_of a r.name ≡ Some p)) ⊎ ((r.name ≡ m) × (parent_of a (Vhd parent) ≡ Some p))
  below r p there e = by (is_apart us r.name) refl
    where
      up : (o : Option Image) → parent_is p (link_of o) ≡ true → (link_of o >>= (λ l. l.parent)) ≡ Some p
      up o f = under_parent p (link_of o) f

      none : image_of b r.name ≡ None → ⊥
      none is = true≢false (sym e ∙ ap (λ o. parent_is p (link_of o)) is)

      of : (r.name ≡ Leaf leaf parent) ⊎ ((r.name ≡ m) ⊎ (r.name ≡ Old leaf)) → ((is_apart us r.name ≡ true) × (parent_of a r.name ≡ Some p)) ⊎ ((r.name ≡ m) × (parent_of a (Vhd parent) ≡ Some p))
      of (inl is) = absurd (none (ap (image_of b) is ∙ entry_image b leaf parent))
      of (inr (inl is)) = inr (is, up (image_of a (Vhd parent)) (ap (λ o. parent_is p (link_of o)) (sym (ap (image_of b) is ∙ k.image)) ∙ e))
      of (inr (inr is)) = absurd (none (ap (image_of b) is ∙ old_image b leaf))

      by : (c : Bool) → is_apart us r.name ≡ c → ((is_apart us r.name ≡ true) × (parent_of a r.name ≡ Some p)) ⊎ ((r.name ≡ m) × (parent_of a (Vhd parent) ≡ Some p))
      by true apart = inl (apart, up (image_of a r.name) (ap (λ o. parent_is p (link_of o)) (sym (k.apart.images r.name apart)) ∙ e))
      by false near = of (k.volumes r there near)

  -- nothing has a parent of either UUID any more
  none_near : (x : Name) → is_apart us x ≡ false → length (children new x) ≡ 0
  unfolding children
  none_near x near =
      ap length (none_left (λ r. parent_is x (new.links r.name)) t.volumes (λ r there. false_from_ne_true (parent_is x (new.links r.name)) (λ e. by r (below r x there e))))
    where
      by : (r : Row) → ((is_apart us r.name ≡ true) × (parent_of a r.name ≡ Some x)) ⊎ ((r.name ≡ m) × (parent_of a (Vhd parent) ≡ Some x)) → ⊥
      by r (inl (apart, linked)) = not_near x x (h.childless r.name x (not_near r.name (Vhd leaf) apart near_leaf) linked) near refl
      by r (inr (is, linked)) = not_near x x (h.childless (Vhd parent) x two_names linked) near refl

  -- and an image apart that had no children has none
  none_still : (p : Name) → is_apart us p ≡ true → length (children old p) ≡ 0 → length (children new p) ≡ 0
  unfolding children
  none_still p apart none =
      ap length (none_left (λ r. parent_is p (new.links r.name)) t.volumes (λ r there. false_from_ne_true (parent_is p (new.links r.name)) (λ e. by r there e (below r p there e))))
    where
      was : (r : Row) → In r a.table.volumes → parent_is p (old.links r.name) ≡ true → ⊥
      was r there e = no_member (filter (λ q. parent_is p (old.links q.name)) a.table.volumes) r none (filter-In (λ q. parent_is p (old.links q.name)) a.table.volumes r there e)

      by : (r : Row) → In r t.volumes → parent_is p (new.links r.name) ≡ true
          → ((is_apart us r.name ≡ true) × (parent_of a r.name ≡ Some p)) ⊎ ((r.name ≡ m) × (parent_of a (Vhd parent) ≡ Some p)) → ⊥
      by r there e (inl (here, linked)) = was r (before r there here) (ap (parent_is p) (sym (link_at r.name here)) ∙ e)
      by r there e (inr (is, linked)) =
          let w = image_there a (Vhd parent) q h.copied.below in
          let v = volume_at a.table (Vhd parent) w.0 w.1 in
          was w.0 v.0 (ap (λ y. parent_is p (old.links y)) v.1 ∙ ap (λ o. parent_is p (link_of o)) (sym (ap (image_of b) is ∙ k.image)) ∙ e)

  -- ---- the parent's image

  parent_was : (r : Row) × In r a.table.volumes × (r.name ≡ Vhd parent)
  parent_was =
      let w = image_there a (Vhd parent) q h.copied.below in
      let v = volume_at a.table (Vhd parent) w.0 w.1 in
      (w.0, v.0, v.1)

  placed_before : is_misplaced old parent_was.0 (Some own_link) ≡ false
  placed_before = ap (is_misplaced old parent_was.0) (sym parent_link) ∙ sym (ap (tree_wrong_as old parent_was.0) parent_was.2) ∙ passed.placed parent_was.0 parent_was.1

  linked_before : is_linked old own_link ≡ true
  linked_before = of (is_linked old own_link) _ placed_before
    where
      of : (x y : Bool) → not (x && y) ≡ false → x ≡ true
      of true y e = refl
      of false y e = absurd (true≢false e)

  short_before : nat_le (chain_length old 31 (Vhd parent)) 30 ≡ true
  short_before = ap (λ y. nat_le (chain_length old 31 y) 30) (sym parent_was.2) ∙ of (is_linked old own_link) (nat_le (chain_length old 31 parent_was.0.name) 30) _ placed_before
    where
      of : (x y z : Bool) → not (x && (y && z)) ≡ false → y ≡ true
      of true true z e = refl
      of true false z e = absurd (true≢false e)
      of false y z e = absurd (true≢false e)

  alike : IsAlikeApart old new us
  alike = record {
    extent = k.extent;
    block = k.block;
    entries = k.entries;
    later = later;
    found = found;
    rows_apart = away;
    links_apart = link_at;
    parents_apart = λ x p l apart is above. h.childless x p (not_near x (Vhd leaf) apart near_leaf) (ap (λ y. y >>= (λ l. l.parent)) is ∙ above);
    childless_apart = λ x apart none. eq-eqb (length (children new x)) 0 (none_still x apart (eqb-true (length (children old x)) 0 none));
  }

  linked_now : is_linked new own_link ≡ true
  linked_now = by q.parent refl
    where
      by : (o : Option Name) → q.parent ≡ o → is_linked new own_link ≡ true
      by None is = ap (λ o. elim o as (λ _. Bool) [ None ↦ true | Some p ↦ is_parent_right new q.size p ]) is
      by (Some p) is =
          let apart = parent_up p is in
          ap (λ o. elim o as (λ _. Bool) [ None ↦ true | Some p ↦ is_parent_right new q.size p ]) is
          ∙ ap₂ (λ o l. of_row (λ r. r.hidden && not r.fresh) o && is_no_larger q.size l) (away p apart) (link_at p apart)
          ∙ sym (ap (λ o. elim o as (λ _. Bool) [ None ↦ true | Some p ↦ is_parent_right old q.size p ]) is) ∙ linked_before

  -- its chain is as long as before
  m_chain : chain_length new 31 m ≡ chain_length old 31 (Vhd parent)
  unfolding chain_length
  m_chain =
      ap (λ (x : Option Link). elim x as (λ _. ℕ) [ None ↦ 0 | Some l ↦ suc (elim l.parent as (λ _. ℕ) [ None ↦ 0 | Some p ↦ chain_length new 30 p ]) ]) m_link
      ∙ by q.parent refl
      ∙ sym (ap (λ (x : Option Link). elim x as (λ _. ℕ) [ None ↦ 0 | Some l ↦ suc (elim l.parent as (λ _. ℕ) [ None ↦ 0 | Some p ↦ chain_length old 30 p ]) ]) parent_link)
    where
      by : (o : Option Name) → q.parent ≡ o
          → suc (elim q.parent as (λ _. ℕ) [ None ↦ 0 | Some p ↦ chain_length new 30 p ]) ≡ suc (elim q.parent as (λ _. ℕ) [ None ↦ 0 | Some p ↦ chain_length old 30 p ])
      by None is = ap (λ x. suc (elim x as (λ _. ℕ) [ None ↦ 0 | Some p ↦ chain_length new 30 p ])) is ∙ sym (ap (λ x. suc (elim x as (λ _. ℕ) [ None ↦ 0 | Some p ↦ chain_length old 30 p ])) is)
      by (Some p) is =
          ap (λ x. suc (elim x as (λ _. ℕ) [ None ↦ 0 | Some p ↦ chain_length new 30 p ])) is
          ∙ ap suc (chain_alike old new us alike 30 p (parent_up p is))
          ∙ sym (ap (λ x. suc (elim x as (λ _. ℕ) [ None ↦ 0 | Some p ↦ chain_length old 30 p ])) is)

  own_placed : is_misplaced new k.now (new.links m) ≡ false
  own_placed =
      ap (is_misplaced new k.now) m_link
      ∙ all_hold (is_linked new own_link) (nat_le (chain_length new 31 k.now.name) 30) (k.now.hidden || (length (children new k.now.name) == 0)) linked_now
      (ap (λ y. nat_le (chain_length new 31 y) 30) named ∙ ap (λ y. nat_le y 30) m_chain ∙ short_before)
      (or_right k.now.hidden (length (children new k.now.name) == 0) (eq-eqb (length (children new k.now.name)) 0 (ap (λ y. length (children new y)) named ∙ none_near m near_m)))
    where
      named : k.now.name ≡ m
      named = (volume_at t m k.now k.moved).1

  own_passes : (r : Row) → In r t.volumes → r.name ≡ m → PassesAlone new r
  unfolding is_entry_linked
  own_passes r there is = subst (PassesAlone new) (sym at_now) (⊎_elim (λ e. vhd parent e (parent_among leaf parent) past_parent) (λ e. vhd leaf e (leaf_among leaf parent) past_leaf) m_name)
    where
      at_now : r ≡ k.now
      at_now = same_Some r k.now (sym (found r there) ∙ ap (rows t) is ∙ k.moved)

      named : k.now.name ≡ m
      named = (volume_at t m k.now k.moved).1

      vhd : (u : List ℕ) → m ≡ Vhd u → is_among us u ≡ true → is_past t.sequence u ≡ true → PassesAlone new k.now
      vhd u at_vhd near past =
          let own : k.now.name ≡ Vhd u = named ∙ at_vhd in
          record {
            named = ap (misnamed_as t) own ∙ ap₂ (λ x y. x || not (y && true)) (no_raw u near) past;
            at_stage = ap (lost_as t) own;
            owned = ap (is_orphaned t) own;
            valid = ap (λ y. not k.now.fresh && is_image_wrong new k.now y) own
                ∙ ap (λ l. not k.now.fresh && is_none l) (ap new.links (sym at_vhd) ∙ m_link) ∙ and_right (not k.now.fresh) false refl;
            placed = ap (tree_wrong_as new k.now) own ∙ ap (λ y. is_misplaced new k.now (new.links y)) (sym at_vhd) ∙ own_placed;
            linked = ap (is_entry_linked new) own;
          }

  -- ---- the entry

  stage_now : is_folding_leaf t leaf parent ≡ true
  stage_now = by k.stage
    where
      by : IsSwapStage t leaf parent m → is_folding_leaf t leaf parent ≡ true
      by (inl w) = or_right (is_leaf_copied t leaf parent) _ (or_left (is_leaf_renamed t leaf parent) _ w.0)
      by (inr (inl w)) = or_right (is_leaf_copied t leaf parent) _ (or_right (is_leaf_renamed t leaf parent) _ (or_left (is_leaf_swapped t leaf parent) _ w.0))
      by (inr (inr w)) = or_right (is_leaf_copied t leaf parent) _ (or_right (is_leaf_renamed t leaf parent) _ (or_right (is_leaf_swapped t leaf parent) _ w.0))

  not_copied : is_leaf_copied t leaf parent ≡ false
  not_copied = by k.stage
    where
      there_old : is_there t (Old leaf) ≡ true → is_leaf_copied t leaf parent ≡ false
      there_old e = ap (λ x. is_visible t (Vhd leaf) && (is_hidden t (Vhd parent) && not x)) e
          ∙ ap (λ x. is_visible t (Vhd leaf) && x) (and_right (is_hidden t (Vhd parent)) false refl) ∙ and_right (is_visible t (Vhd leaf)) false refl

      gone : is_there t (Vhd parent) ≡ false → is_leaf_copied t leaf parent ≡ false
      gone e = ap (λ x. is_visible t (Vhd leaf) && (x && not (is_there t (Old leaf)))) (hidden_there t (Vhd parent) e) ∙ and_right (is_visible t (Vhd leaf)) false refl

      by : IsSwapStage t leaf parent m → is_leaf_copied t leaf parent ≡ false
      by (inl w) = there_old (and_parts (is_there t (Old leaf)) _ w.0).0
      by (inr (inl w)) = there_old (and_parts (is_there t (Old leaf)) _ w.0).0
      by (inr (inr w)) = gone (not_true _ (and_parts _ _ (and_parts (is_visible t (Vhd leaf)) _ w.0).1).1)

  leaf_linked : is_leaf_linked new leaf parent ≡ true
  leaf_linked =
      ap (λ c. cond c (parent_is (Vhd parent) (new.links (Vhd leaf)) && (length (children new (Vhd parent)) == 1)) rest) not_copied
      ∙ by (is_leaf_renamed t leaf parent) (is_leaf_swapped t leaf parent)
    where
      rest : Bool
      rest = cond (is_leaf_renamed t leaf parent) (length (children new (Vhd parent)) == 0) (cond (is_leaf_swapped t leaf parent) (length (children new (Vhd leaf)) == 0) true)

      by : (x y : Bool) → cond x (length (children new (Vhd parent)) == 0) (cond y (length (children new (Vhd leaf)) == 0) true) ≡ true
      by true y = eq-eqb (length (children new (Vhd parent))) 0 (none_near (Vhd parent) near_parent)
      by false true = eq-eqb (length (children new (Vhd leaf))) 0 (none_near (Vhd leaf) near_leaf)
      by false false = refl

  entry_passes : (r : Row) → r.name ≡ Leaf leaf parent → PassesAlone new r
  unfolding is_entry_linked is_at_stage
  entry_passes r is = record {
    named = ap (misnamed_as t) is;
    at_stage = ap (lost_as t) is ∙ ap₂ (λ x y. not (x && y)) stage_now past_now;
    owned = ap (is_orphaned t) is;
    valid = ap (λ y. not r.fresh && is_image_wrong new r y) is ∙ and_right (not r.fresh) false refl;
    placed = ap (tree_wrong_as new r) is;
    linked = ap (is_entry_linked new) is ∙ leaf_linked;
  }

  -- ---- the old leaf

  -- the entry is the only one before, so no other old leaf is there
  old_name : (r : Row) (u : List ℕ) → In r t.volumes → r.name ≡ Old u → u ≡ leaf
  old_name r u there is = by (is_apart us r.name) refl
    where
      of : (r.name ≡ Leaf leaf parent) ⊎ ((r.name ≡ m) ⊎ (r.name ≡ Old leaf)) → u ≡ leaf
      of (inl e) = absurd (let x = sym is ∙ e in cc)
      of (inr (inl e)) = absurd (⊎_elim (λ w. (let x = sym is ∙ e ∙ w in cc)) (λ w. (let x = sym is ∙ e ∙ w in cc)) m_name)
      of (inr (inr e)) = (let x = sym is ∙ e in cc)

      was : (x : Bool) → bytes_eq leaf u ≡ x → (y : Bool) → not ((x && y) || false) ≡ false → u ≡ leaf
      was true e y f = sym ((bytes_eq-Decides leaf u).0 e)
      was false e y f = absurd (true≢false f)

      by : (c : Bool) → is_apart us r.name ≡ c → u ≡ leaf
      by true apart =
          was (bytes_eq leaf u) refl (is_leaf_renamed a.table leaf parent || is_leaf_swapped a.table leaf parent)
          (sym (ap (λ ns. not (list_any (is_old_of a.table u) ns)) folding_was) ∙ sym (ap (is_orphaned a.table) is) ∙ passed.owned r (before r there apart))
      by false near = of (k.volumes r there near)

  old_passes : (r : Row) → In r t.volumes → r.name ≡ Old leaf → PassesAlone new r
  unfolding is_entry_linked
  old_passes r there is = record {
    named = ap (misnamed_as t) is ∙ ap (λ y. not (y && true)) past_leaf;
    at_stage = ap (lost_as t) is;
    owned = ap (is_orphaned t) is ∙ ap (λ ns. not (list_any (is_old_of t leaf) ns)) k.folding ∙ ap₂ (λ x y. not ((x && y) || false)) (bytes_eq-refl leaf) (by k.stage);
    valid = ap (λ y. not r.fresh && is_image_wrong new r y) is ∙ and_right (not r.fresh) false refl;
    placed = ap (tree_wrong_as new r) is;
    linked = ap (is_entry_linked new) is;
  }
    where
      there_old : is_there t (Old leaf) ≡ true
      there_old = ap (λ y. is_there t y) (sym is) ∙ ap is_some (found r there)

      by : IsSwapStage t leaf parent m → (is_leaf_renamed t leaf parent || is_leaf_swapped t leaf parent) ≡ true
      by (inl w) = or_left (is_leaf_renamed t leaf parent) _ w.0
      by (inr (inl w)) = or_right (is_leaf_renamed t leaf parent) _ w.0
      by (inr (inr w)) = absurd (true≢false (sym there_old ∙ not_true _ (and_parts _ _ (and_parts (is_visible t (Vhd leaf)) _ w.0).1).0))

  -- ---- each volume

  near_passes : (r : Row) → In r t.volumes → is_apart us r.name ≡ false → PassesAlone new r
  near_passes r there near = by (k.volumes r there near)
    where
      by : (r.name ≡ Leaf leaf parent) ⊎ ((r.name ≡ m) ⊎ (r.name ≡ Old leaf)) → PassesAlone new r
      by (inl is) = entry_passes r is
      by (inr (inl is)) = own_passes r there is
      by (inr (inr is)) = old_passes r there is

  passes : (r : Row) → In r t.volumes → (x : Name) → r.name ≡ x → is_settled_name us x ≡ false → PassesAlone new r
  passes r there Mgt is e = absurd (true≢false e)
  passes r there (Vhd u) is e = near_passes r there (ap (is_apart us) is ∙ e)
  passes r there (Raw u) is e = near_passes r there (ap (is_apart us) is ∙ e)
  passes r there (Old u) is e = old_passes r there (is ∙ ap Old (old_name r u there is))
  passes r there (Cbt u) is e = absurd (true≢false e)
  passes r there (Clone x y z) is e = absurd (no_making r there (ap is_making is))
  passes r there (Inflate x y) is e = absurd (no_making r there (ap is_making is))
  passes r there (Coalesce c p) is e = entry_passes r (folding_of r there (ap is_folding is))
  passes r there (Relink c p) is e = entry_passes r (folding_of r there (ap is_folding is))
  passes r there (Leaf l p) is e = entry_passes r (folding_of r there (ap is_folding is))

  -- ---- the disks

  -- what stands stood before
  stood_before : (u : List ℕ) → is_some (standing_volume t u) ≡ true → is_some (standing_volume a.table u) ≡ true
  stood_before u e = by (bytes_eq leaf u) (bytes_eq parent u) refl refl
    where
      entry : head (folding t) ≡ Some (Leaf leaf parent)
      entry = ap head k.folding

      parent_gone : standing_volume t parent ≡ None
      parent_gone = stands_beside t parent k.making ∙ beside_plain t leaf parent parent (inl entry) (bytes_eq-apart parent leaf (λ is. two_names (ap Vhd is))) ∙ k.no_parent

      by : (l p : Bool) → bytes_eq leaf u ≡ l → bytes_eq parent u ≡ p → is_some (standing_volume a.table u) ≡ true
      by true p is_l is_p = ap (λ v. is_some (standing_volume a.table v)) (sym ((bytes_eq-Decides leaf u).0 is_l)) ∙ ap is_some h.stood
      by false true is_l is_p =
          let same : u ≡ parent = sym ((bytes_eq-Decides parent u).0 is_p) in
          absurd (true≢false (sym e ∙ ap (λ v. is_some (standing_volume t v)) same ∙ ap is_some parent_gone))
      by false false is_l is_p =
          let other : is_among us u ≡ false = ap₂ (λ l r. l || r) is_l (ap (λ p. p || false) is_p) in
          let off : bytes_eq u leaf ≡ false = bytes_eq-apart u leaf (λ is. true≢false (sym (ap (bytes_eq leaf) is ∙ bytes_eq-refl leaf) ∙ is_l)) in
          ap is_some (stands_beside a.table u h.none_making ∙ beside_plain a.table leaf parent u (inl h.entry) off ∙ sym (plainly_same a b us u k.apart other)
          ∙ sym (beside_plain t leaf parent u (inl entry) off) ∙ sym (stands_beside t u k.making)) ∙ e

  recorded_now : (u : List ℕ) → In u (disk_uuids new) → is_unrecorded new u ≡ false
  recorded_now u inside =
      let stood = stood_before u (In-filter (λ v. is_some (standing_volume t v)) (uuids t) u inside).1 in
      let disk = is_some-parts (standing_volume a.table u) stood in
      ap (λ rs. not (length (filter (is_record_of u) rs) == 1)) (outline_records_same b)
      ∙ ap (λ j. not (j == 1)) (k.recorded u ∙ sym (ap (λ rs. length (filter (is_record_of u) rs)) (outline_records_same a)) ∙ passed.recorded u disk.0 disk.1)

  disks_right : disk_fault new ≡ None
  unfolding disk_fault
  disks_right = ap disk_place (find_none (is_unrecorded new) (disk_uuids new) recorded_now)

  records_right : record_fault new ≡ None
  unfolding record_fault
  records_right =
      ap record_place (find_none (λ j. is_damaged (new.readings j)) (numbers 0 record_count) (λ j inside.
      let below = (In-numbers 0 record_count j inside).1 in
      ap is_damaged (reading_within b j below) ∙ k.right j below))

  few : too_many_fault new ≡ None
  unfolding too_many_fault
  few = given_none (nat_lt image_limit (length (images t))) at.Images (le-ltb image_limit (length (images t)) k.few)

  one_each : second_entry_fault new ≡ None
  unfolding second_entry_fault
  one_each = ap₂ (λ xs ys. placed at.Journal (lesser (second xs) (second ys))) k.folding k.making

  moment_beside : IsBeside old new us
  moment_beside = record {
    extent = k.extent;
    block = k.block;
    entries = k.entries;
    later = later;
    found = found;
    rows_apart = away;
    links_apart = link_at;
    parents_apart = alike.parents_apart;
    children_apart = none_still;
    others = λ r there e. passes r there r.name refl e;
    few = few;
    one_each = one_each;
    records = records_right;
    disks = disks_right;
  }

  pub swap_sound : first_fault b ≡ None
  swap_sound = beside_sound old new us moment_beside sound
