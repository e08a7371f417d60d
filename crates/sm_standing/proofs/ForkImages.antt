-- While the entry of a fork is there: the entry, the disk's image and the new ones pass each check by themselves.
use Rattle.std.proofs.Common.{◌≡◌, ◌≢◌, ◌⊎◌, inl, inr, ⊎_elim, ℕ, zero, suc, ◌*◌, ◌<◌, ◌≤◌, ◌==◌, ◌&&◌, ◌||◌, not, nat_lt, nat_le, Bool, true, false, cond, List, [], length, Option, Some, None, is_none, refl, sym, ap, ap₂, ◌∙◌, subst, arith}
use Rattle.std.specs.List.{filter}
use Rattle.std.proofs.lemmas.Bool.{true≢false, le-leb, leb-true, eq-eqb, and_parts, and_from, or_left, or_right, and_right, false_from_ne_true}
use Rattle.std.proofs.lemmas.List.FromFn.{length-map-range_with_len}
use Rattle.std.proofs.lemmas.Option.{none-some, same_Some}
use Rattle.common_laws.specs.Lists.{In, ◌>>=◌}
use Rattle.common_laws.proofs.Booleans.{all_hold}
use Rattle.common_laws.proofs.Lists.{In-append, In-filter}
use Rattle.sm_base.specs.Kinds.{is_image as is_data, is_entry}
use Rattle.sm_base.specs.declared.faults.Place.TheVariants as at
use Rattle.sm_base.specs.declared.names.Name.{Name}
use Rattle.sm_base.specs.declared.names.Name.TheVariants.{Vhd, Raw, Clone}
use Rattle.vg_meta.specs.Tables.{VolumeTable, Row, rows}
use Rattle.vhd_fields.specs.declared.footers.Footer.{Footer}
use Rattle.vhd_fields.specs.declared.headers.Header.{Header}
use Rattle.vhd_layout.specs.Images.{footer_at, header_at}
use Rattle.vhd_layout.specs.Contents.{content_at, layout_at, slot_at}
use Rattle.vhd_layout.specs.Layouts.{Sectors, Layout}
use Rattle.vhd_layout.specs.Readings.{is_footer_of, is_header_of, is_head_of, is_image_of, is_valid, image_at}
use Rattle.sm_machine.specs.WellFormed.{is_image_name}
use Rattle.sm_machine.specs.Shapes.{same_image}
use Rattle.sm_machine.proofs.ImageNames.{same_image-refl}
use Rattle.sm_standing.specs.Apart.{is_apart, IsEmptyOver}
use Rattle.sm_standing.specs.Besides.{PassesAlone}
use Rattle.sm_standing.specs.Changes.{parent_of}
use Rattle.sm_standing.specs.Checks.{has_twin, is_orphaned, is_image_wrong, is_oversize, is_invalid, invalid_fault, children, parent_is, depth, chain_length, is_linked, is_no_larger, is_parent_right, is_misplaced, is_tree_wrong, tree_wrong_as, tree_fault, has_uuid, children_with, is_base_of, is_fork_linked, is_entry_linked, first_fault}
use Rattle.sm_standing.specs.Contents.{Content, row}
use Rattle.sm_standing.specs.Entries.{of_row, is_there, is_hidden, is_past, are_past, is_fork_made, is_among, is_at_stage}
use Rattle.sm_standing.specs.Forks.{forked, IsForkable, IsForkChild, IsForkMoment}
use Rattle.sm_standing.specs.Images.{Image, image_of, vhd_image, raw_image}
use Rattle.sm_standing.specs.Outlines.{Outline, Link, link_of, outline}
use Rattle.sm_standing.proofs.ApartLaws.{depth_moved}
use Rattle.sm_standing.proofs.FaultLaws.{all_none, named_none}
use Rattle.sm_standing.proofs.ForkLaws.{which, closed_apart, unforked}
use Rattle.sm_standing.proofs.ImageLaws.{image_there, new_image, parent-is}
use Rattle.sm_standing.proofs.WalkLaws.{depth_grows, length_up}
use Rattle.sm_standing.proofs.Counts.{none_left}
use Rattle.sm_standing.proofs.ForkPlaces.{away, volume_at, volume_before, found, found_there, vhd_near, raw_near, not_near, among_disk, among_base, among_twin, past_disk, past_base, past_twin, disk_base, base_twin, Lies, lies, made_base, m_there, n_kind, not_two, hidden_under, link_at, own_link, m_link, n_link, Below, below, parent_of_child, not_over_itself, m_child, childless_new}

-- ---- images

-- a VHD image has slots, and a raw one has none
blocks_from : (block entries sectors : ℕ) (v : Sectors) → is_valid block entries sectors v ≡ true → 1 ≤ entries
unfolding is_image_of
blocks_from block entries sectors v e = of (footer_at sectors v) (header_at v) (and_parts _ _ e).0
  where
    laid : Layout
    laid = layout_at block entries sectors v

    of : (f : Option Footer) (g : Option Header) → is_head_of laid f g ≡ true → 1 ≤ entries
    of None g e = absurd (true≢false (sym e))
    of (Some f) None e = absurd (true≢false (sym e))
    of (Some f) (Some g) e =
        let footer = (and_parts (is_footer_of laid f) (is_header_of laid f g) e).0 in
        let size = (and_parts ((f.kind == 3) || (f.kind == 4)) _ footer).1 in
        let blocks = (and_parts (f.current == 512 * (laid.blocks * laid.block)) _ size).1 in
        let both = and_parts (nat_le 1 laid.blocks) (nat_le laid.blocks entries) blocks in
        let least = leb-true 1 laid.blocks both.0 in
        let within = leb-true laid.blocks entries both.1 in
        omega (arith, least, within)

-- how deep a chain is bounds its length
shallow : (o : Outline) (k : ℕ) (n : Name) → chain_length o k n ≤ depth o k n
unfolding chain_length depth
shallow o zero n = omega arith
shallow o (suc k) n = by (λ p. shallow o k p) (o.links n)
  where
    up : ((p : Name) → chain_length o k p ≤ depth o k p) → (x : Option Name)
        → suc (elim x as (λ _. ℕ) [ None ↦ 0 | Some p ↦ chain_length o k p ]) ≤ suc (elim x as (λ _. ℕ) [ None ↦ 0 | Some p ↦ depth o k p ])
    up rest None = omega arith
    up rest (Some p) = omega (arith, rest p)

    by : ((p : Name) → chain_length o k p ≤ depth o k p) → (x : Option Link)
        → elim x as (λ _. ℕ) [ None ↦ 0 | Some i ↦ suc (elim i.parent as (λ _. ℕ) [ None ↦ 0 | Some p ↦ chain_length o k p ]) ]
        ≤ suc (elim (x >>= (λ i. i.parent)) as (λ _. ℕ) [ None ↦ 0 | Some p ↦ depth o k p ])
    by rest None = omega arith
    by rest (Some i) = up rest i.parent

-- a raw image has neither parent nor slots
raw_content_of : (c : Content) (u : List ℕ) (i : Image) (o : Option Row) → row c (Raw u) ≡ o → image_of c (Raw u) ≡ Some i → (i.parent ≡ None) × (i.slots ≡ [])
unfolding image_of raw_image
raw_content_of c u i o is e = by o (sym (ap (λ o. o >>= (λ r. cond r.fresh None (Some (raw_image c (Raw u))))) is) ∙ e)
  where
    full : (f : Bool) → cond f None (Some (raw_image c (Raw u))) ≡ Some i → (i.parent ≡ None) × (i.slots ≡ [])
    full true e = absurd (none-some i e)
    full false e = let same = same_Some (raw_image c (Raw u)) i e in (ap (λ (x : Image). x.parent) (sym same), ap (λ (x : Image). x.slots) (sym same))

    by : (o : Option Row) → (o >>= (λ r. cond r.fresh None (Some (raw_image c (Raw u))))) ≡ Some i → (i.parent ≡ None) × (i.slots ≡ [])
    by None e = absurd (none-some i e)
    by (Some r) e = full r.fresh e

slots_from : (block entries sectors : ℕ) (v : Sectors) (i : Image) → image_at block entries sectors v ≡ Some i → i.slots ≡ [] → ⊥
slots_from block entries sectors v i e none = by (is_valid block entries sectors v) refl e
  where
    said : Image
    said = content_at block entries sectors v

    by : (c : Bool) → is_valid block entries sectors v ≡ c → cond c (Some said) None ≡ Some i → ⊥
    by true valid e =
        let many = length-map-range_with_len (slot_at (layout_at block entries sectors v) v) 0 entries in
        let least = blocks_from block entries sectors v valid in
        let few : length said.slots ≡ 0 = ap (λ (x : Image). length x.slots) (same_Some said i e) ∙ ap length none in
        omega (arith, many, least, few)
    by false valid e = none-some i e

vhd_slots : (c : Content) (u : List ℕ) (i : Image) (o : Option Row) → row c (Vhd u) ≡ o → image_of c (Vhd u) ≡ Some i → i.slots ≡ [] → ⊥
unfolding image_of vhd_image
vhd_slots c u i o is e none = by o (sym (ap (λ o. o >>= (λ r. cond r.fresh None (vhd_image c (Vhd u) r))) is) ∙ e)
  where
    full : (f : Bool) (r : Row) → cond f None (vhd_image c (Vhd u) r) ≡ Some i → ⊥
    full true r e = none-some i e
    full false r e = slots_from _ _ _ _ i e none

    by : (o : Option Row) → (o >>= (λ r. cond r.fresh None (vhd_image c (Vhd u) r))) ≡ Some i → ⊥
    by None e = none-some i e
    by (Some r) e = full r.fresh r e

abbrev pub misnamed_as : VolumeTable → Name → Bool
misnamed_as x y = is_data y && (has_twin x y || not (are_past x y))

abbrev pub lost_as : VolumeTable → Name → Bool
lost_as x y = is_entry y && not (is_at_stage x y && are_past x y)

-- ---- the moment of a fork

module _ {a b : Content} {disk base twin : List ℕ} {n m : Name} {i : Image} (h : IsForkable a disk base twin n i) (sound : first_fault a ≡ None) (k : IsForkMoment a b disk base twin n m) where
  abbrev us : List (List ℕ)
  us = forked disk base twin

  abbrev old : Outline
  old = outline a

  abbrev new : Outline
  new = outline b

  abbrev t : VolumeTable
  t = b.table

  -- ---- an image that passes by itself

  vhd_passes : (r : Row) (u : List ℕ) → r.name ≡ Vhd u → is_there t (Raw u) ≡ false → is_past t.sequence u ≡ true
      → (not r.fresh && is_none (new.links (Vhd u))) ≡ false → is_misplaced new r (new.links (Vhd u)) ≡ false → PassesAlone new r
  unfolding is_entry_linked
  vhd_passes r u is alone past valid tree = record {
    named = ap (misnamed_as t) is ∙ ap₂ (λ x y. x || not (y && true)) alone past;
    at_stage = ap (lost_as t) is;
    owned = ap (is_orphaned t) is;
    valid = ap (λ y. not r.fresh && is_image_wrong new r y) is ∙ valid;
    placed = ap (tree_wrong_as new r) is ∙ tree;
    linked = ap (is_entry_linked new) is;
  }

  raw_passes : (r : Row) (u : List ℕ) → r.name ≡ Raw u → is_there t (Vhd u) ≡ false → is_past t.sequence u ≡ true
      → (not r.fresh && is_oversize b.extent b.block b.entries r) ≡ false → PassesAlone new r
  unfolding is_entry_linked
  raw_passes r u is alone past valid = record {
    named = ap (misnamed_as t) is ∙ ap₂ (λ x y. x || not (y && true)) alone past;
    at_stage = ap (lost_as t) is;
    owned = ap (is_orphaned t) is;
    valid = ap (λ y. not r.fresh && is_image_wrong new r y) is ∙ valid;
    placed = ap (tree_wrong_as new r) is;
    linked = ap (is_entry_linked new) is;
  }

  -- ---- the disk's image

  tree_before : (r : Row) → In r a.table.volumes → is_tree_wrong old r ≡ false
  unfolding tree_fault
  tree_before = named_none at.Tree (is_tree_wrong old) a.table.volumes (all_none (outline a) sound (tree_fault old) (inr (inr (inr (inr (inr (inr (inr (inl refl)))))))))

  invalid_before : (r : Row) → In r a.table.volumes → is_invalid old r ≡ false
  unfolding invalid_fault
  invalid_before = named_none at.Image (is_invalid old) a.table.volumes (all_none (outline a) sound (invalid_fault old) (inr (inr (inr (inr (inr (inr (inl refl))))))))

  own_before : In k.own a.table.volumes × (k.own.name ≡ n)
  own_before = volume_before h k n k.own k.stood

  linked_before : (p : Name) → i.parent ≡ Some p → is_parent_right old i.size p ≡ true
  linked_before p above = by (n_kind h k)
    where
      first : (x y : Bool) → not (x && y) ≡ false → x ≡ true
      first true y e = refl
      first false y e = absurd (true≢false e)

      by : (n ≡ Vhd disk) ⊎ (n ≡ Raw disk) → is_parent_right old i.size p ≡ true
      by (inl is) =
          sym (ap (λ o. elim o as (λ _. Bool) [ None ↦ true | Some q ↦ is_parent_right old i.size q ]) above)
          ∙ first (is_linked old (own_link h k)) (nat_le (chain_length old 31 k.own.name) 30 && (k.own.hidden || (length (children old k.own.name) == 0)))
          (sym (ap (is_misplaced old k.own) (ap old.links (sym is) ∙ n_link h k)) ∙ sym (ap (tree_wrong_as old k.own) (own_before.1 ∙ is)) ∙ tree_before k.own own_before.0)
      by (inr is) = absurd (none-some p (sym (raw_content_of a disk i (row a (Raw disk)) refl (ap (image_of a) (sym is) ∙ h.image)).0 ∙ above))

  own_linked : is_linked new (own_link h k) ≡ true
  own_linked = by i.parent refl
    where
      by : (o : Option Name) → i.parent ≡ o → elim o as (λ _. Bool) [ None ↦ true | Some p ↦ is_parent_right new i.size p ] ≡ true
      by None is = refl
      by (Some p) is =
          let apart = h.childless n p (parent-is a n p i h.image is) in
          ap₂ (λ o l. of_row (λ r. r.hidden && not r.fresh) o && is_no_larger i.size l) (away h k p apart) (link_at h k p apart) ∙ linked_before p is

  -- its chain is as long as before
  m_depth : depth new 30 m ≡ depth old 30 n
  m_depth = depth_moved a b us n m k.apart (closed_apart a disk base twin n (unforked a disk base twin n i h)) k.image (λ p at. h.childless n p at) 30

  m_short : chain_length new 31 m ≤ 30
  m_short = let room : depth old 30 n < 30 = h.room in omega (arith, m_depth, shallow new 31 m, depth_grows new 30 m, room)

  m_room : chain_length new 30 m ≤ 29
  m_room = let room : depth old 30 n < 30 = h.room in omega (arith, m_depth, shallow new 30 m, room)

  hidden_now : is_hidden t m ≡ true → k.now.hidden ≡ true
  hidden_now e = (and_parts k.now.hidden (not k.now.fresh) (sym (ap (of_row (λ r. r.hidden && not r.fresh)) k.moved) ∙ e)).0

  childless_m : k.now.hidden ≡ false → length (children new m) ≡ 0
  unfolding children
  childless_m shown =
      ap length (none_left (λ r. parent_is m (new.links r.name)) t.volumes (λ r there. false_from_ne_true (parent_is m (new.links r.name)) (λ e.
      true≢false (sym (hidden_now (m_child h k r there e)) ∙ shown))))

  own_placed : is_misplaced new k.now (new.links m) ≡ false
  own_placed =
      ap (is_misplaced new k.now) (m_link h k)
      ∙ all_hold (is_linked new (own_link h k)) (nat_le (chain_length new 31 k.now.name) 30) (k.now.hidden || (length (children new k.now.name) == 0)) own_linked
      (ap (λ y. nat_le (chain_length new 31 y) 30) named ∙ le-leb (chain_length new 31 m) 30 m_short) (by k.now.hidden refl)
    where
      named : k.now.name ≡ m
      named = (volume_at h k m k.now k.moved).1

      by : (c : Bool) → k.now.hidden ≡ c → (k.now.hidden || (length (children new k.now.name) == 0)) ≡ true
      by true is = or_left k.now.hidden (length (children new k.now.name) == 0) is
      by false is =
          or_right k.now.hidden (length (children new k.now.name) == 0) (eq-eqb (length (children new k.now.name)) 0 (ap (λ y. length (children new y)) named ∙ childless_m is))

  own_small : (u : List ℕ) → m ≡ Raw u → is_oversize b.extent b.block b.entries k.now ≡ false
  own_small u at_raw =
      ap₂ (λ x y. nat_lt x y) (ap₂ (λ x y. x * y) k.entries k.block) (ap₂ (λ x y. x * y) k.long k.extent) ∙ by (n_kind h k)
    where
      by : (n ≡ Vhd disk) ⊎ (n ≡ Raw disk) → is_oversize a.extent a.block a.entries k.own ≡ false
      by (inl is) =
          absurd (vhd_slots a disk i (row a (Vhd disk)) refl (ap (image_of a) (sym is) ∙ h.image)
          (raw_content_of b u i (row b (Raw u)) refl (ap (image_of b) (sym at_raw) ∙ k.image ∙ h.image)).1)
      by (inr is) =
          sym (ap (λ f. not f && is_oversize a.extent a.block a.entries k.own) k.filled)
          ∙ sym (ap (λ y. not k.own.fresh && is_image_wrong old k.own y) (own_before.1 ∙ is)) ∙ invalid_before k.own own_before.0

  own_passes : (r : Row) → In r t.volumes → r.name ≡ m → PassesAlone new r
  own_passes r there is = subst (PassesAlone new) (sym at_now) (by (lies h k))
    where
      at_now : r ≡ k.now
      at_now = same_Some r k.now (sym (found h k r there) ∙ ap (rows t) is ∙ k.moved)

      named : k.now.name ≡ m
      named = (volume_at h k m k.now k.moved).1

      vhd : (u : List ℕ) → m ≡ Vhd u → is_among us u ≡ true → is_past t.sequence u ≡ true → PassesAlone new k.now
      vhd u at_vhd near past =
          vhd_passes k.now u (named ∙ at_vhd) (false_from_ne_true (is_there t (Raw u)) (λ e. not_two h k u near (ap (λ y. is_there t y) (sym at_vhd) ∙ m_there h k) e)) past
          (ap (λ l. not k.now.fresh && is_none l) (ap new.links (sym at_vhd) ∙ m_link h k) ∙ and_right (not k.now.fresh) false refl)
          (ap (λ y. is_misplaced new k.now (new.links y)) (sym at_vhd) ∙ own_placed)

      raw : (u : List ℕ) → m ≡ Raw u → is_among us u ≡ true → is_past t.sequence u ≡ true → PassesAlone new k.now
      raw u at_raw near past =
          raw_passes k.now u (named ∙ at_raw) (false_from_ne_true (is_there t (Vhd u)) (λ e. not_two h k u near e (ap (λ y. is_there t y) (sym at_raw) ∙ m_there h k))) past
          (ap (λ c. not k.now.fresh && c) (own_small u at_raw) ∙ and_right (not k.now.fresh) false refl)

      by : Lies h k → PassesAlone new k.now
      by (inl (g, inl at_vhd)) = vhd disk at_vhd (among_disk h k) (past_disk h k)
      by (inl (g, inr at_raw)) = raw disk at_raw (among_disk h k) (past_disk h k)
      by (inr (g, inl at_vhd)) = vhd base at_vhd (among_base h k) (past_base h k)
      by (inr (g, inr at_raw)) = raw base at_raw (among_base h k) (past_base h k)

  -- ---- the new images

  child_passes : (r : Row) (u : List ℕ) → In r t.volumes → r.name ≡ Vhd u → (u ≡ disk) ⊎ (u ≡ twin) → is_among us u ≡ true → is_past t.sequence u ≡ true
      → IsForkChild b m r → PassesAlone new r
  child_passes r u there is which near past child = by child.empty
    where
      alone : is_there t (Raw u) ≡ false
      alone = false_from_ne_true (is_there t (Raw u)) (λ e. not_two h k u near (found_there h k r (Vhd u) there is) e)

      by : (r.fresh ≡ true) ⊎ ((j q : Image) × IsEmptyOver b r.name m j q) → PassesAlone new r
      by (inl fresh) =
          vhd_passes r u is alone past (ap (λ f. not f && is_none (new.links (Vhd u))) fresh)
          (ap (λ o. is_misplaced new r (link_of o)) (ap (image_of b) (sym is) ∙ new_image b r.name r (found h k r there) fresh))
      by (inr (j, q, empty)) =
          let image : image_of b (Vhd u) ≡ Some j = ap (image_of b) (sym is) ∙ empty.image in
          let over : parent_of b (Vhd u) ≡ Some m = parent-is b (Vhd u) m j image empty.parent in
          let other : Vhd u ≢ m = not_over_itself h k (Vhd u) over in
          let link : Link = record { size = j.size; parent = j.parent } in
          let size : i.size ≡ j.size = ap (λ (x : Image). x.size) (same_Some i q (sym (k.image ∙ h.image) ∙ empty.below)) ∙ empty.size in
          let right : is_parent_right new j.size m ≡ true =
          and_from (is_hidden t m) (is_no_larger j.size (new.links m)) (hidden_under h k u which (found_there h k r (Vhd u) there is) other)
          (ap (is_no_larger j.size) (m_link h k) ∙ le-leb i.size j.size (omega (arith, size))) in
          let long : chain_length new 31 (Vhd u) ≡ suc (chain_length new 30 m) = length_up new 30 (Vhd u) m link (ap link_of image) empty.parent in
          vhd_passes r u is alone past (ap (λ o. not r.fresh && is_none (link_of o)) image ∙ and_right (not r.fresh) false refl)
          (ap (λ o. is_misplaced new r (link_of o)) image
          ∙ all_hold (is_linked new link) (nat_le (chain_length new 31 r.name) 30) (r.hidden || (length (children new r.name) == 0))
          (ap (λ o. elim o as (λ _. Bool) [ None ↦ true | Some p ↦ is_parent_right new j.size p ]) empty.parent ∙ right)
          (ap (λ y. nat_le (chain_length new 31 y) 30) is ∙ le-leb (chain_length new 31 (Vhd u)) 30 (omega (arith, long, m_room)))
          (or_right r.hidden (length (children new r.name) == 0) (eq-eqb (length (children new r.name)) 0 (ap (λ y. length (children new y)) is ∙ childless_new h k u near other))))

  -- ---- the entry

  has_base : (m ≡ Vhd base) ⊎ (m ≡ Raw base) → has_uuid base m ≡ true
  unfolding is_image_name
  has_base (inl is) = ap (has_uuid base) is ∙ or_left (same_image (Vhd base) (Vhd base)) (same_image (Vhd base) (Raw base)) (same_image-refl (Vhd base) refl)
  has_base (inr is) = ap (has_uuid base) is ∙ or_right (same_image (Raw base) (Vhd base)) (same_image (Raw base) (Raw base)) (same_image-refl (Raw base) refl)

  -- a new image is over the base, where it is filled
  over_base : (u : List ℕ) → is_among us u ≡ true → u ≢ base → (m ≡ Vhd base) ⊎ (m ≡ Raw base) → is_base_of base (new.links (Vhd u)) ≡ true
  over_base u near other at_base = by (image_of b (Vhd u)) refl
    where
      not_own : (m ≡ Vhd base) ⊎ (m ≡ Raw base) → Vhd u ≡ m → ⊥
      not_own (inl is) e = other (let x = e ∙ is in cc)
      not_own (inr is) e = let x = e ∙ is in cc

      of : (r : Row) (j : Image) → In r t.volumes → r.name ≡ Vhd u → image_of b (Vhd u) ≡ Some j → (r.fresh ≡ true) ⊎ ((j q : Image) × IsEmptyOver b r.name m j q) → is_base_of base (link_of (Some j)) ≡ true
      of r j there is e (inl fresh) = absurd (none-some j (sym (new_image b r.name r (found h k r there) fresh) ∙ ap (image_of b) is ∙ e))
      of r j there is e (inr (l, q, empty)) =
          let same : l ≡ j = same_Some l j (sym empty.image ∙ ap (image_of b) is ∙ e) in
          ap (λ o. elim o as (λ _. Bool) [ None ↦ false | Some p ↦ has_uuid base p ]) (ap (λ (x : Image). x.parent) (sym same) ∙ empty.parent) ∙ has_base at_base

      kind : (r : Row) (j : Image) → In r t.volumes → r.name ≡ Vhd u → image_of b (Vhd u) ≡ Some j
          → (r.name ≡ Clone disk base twin) ⊎ ((r.name ≡ m) ⊎ (((r.name ≡ Vhd disk) ⊎ (r.name ≡ Vhd twin)) × IsForkChild b m r)) → is_base_of base (link_of (Some j)) ≡ true
      kind r j there is e (inl entry) = absurd (let x = sym is ∙ entry in cc)
      kind r j there is e (inr (inl own)) = absurd (not_own at_base (sym is ∙ own))
      kind r j there is e (inr (inr (names, child))) = of r j there is e child.empty

      by : (o : Option Image) → image_of b (Vhd u) ≡ o → is_base_of base (new.links (Vhd u)) ≡ true
      by None e = ap (λ x. is_base_of base (link_of x)) e
      by (Some j) e =
          let w = image_there b (Vhd u) j e in
          let v = volume_at h k (Vhd u) w.0 w.1 in
          ap (λ x. is_base_of base (link_of x)) e ∙ kind w.0 j v.0 v.1 e (k.volumes w.0 v.0 (ap (is_apart us) v.1 ∙ vhd_near h k u near))

  -- and nothing else is
  base_child : (p : Name) → is_apart us p ≡ false → (r : Row) → In r (children new p) → not (same_image r.name (Vhd disk) || same_image r.name (Vhd twin)) ≡ false
  unfolding children is_image_name
  base_child p near r inside =
      let w = In-filter (λ (q : Row). parent_is p (new.links q.name)) t.volumes r inside in
      by (below h k r p w.0 (parent_of_child h k r p w.1))
    where
      by : Below h k r p → not (same_image r.name (Vhd disk) || same_image r.name (Vhd twin)) ≡ false
      by (inl (here, linked)) = absurd (not_near h k p p (h.childless r.name p linked) near refl)
      by (inr (inl (is, linked))) = absurd (not_near h k p p (h.childless n p linked) near refl)
      by (inr (inr (inl is, same))) = ap not (or_left (same_image r.name (Vhd disk)) (same_image r.name (Vhd twin)) (ap (λ y. same_image y (Vhd disk)) is ∙ same_image-refl (Vhd disk) refl))
      by (inr (inr (inr is, same))) = ap not (or_right (same_image r.name (Vhd disk)) (same_image r.name (Vhd twin)) (ap (λ y. same_image y (Vhd twin)) is ∙ same_image-refl (Vhd twin) refl))

  entry_linked : is_fork_linked new disk base twin ≡ true
  entry_linked = by (is_fork_made t disk base twin) refl
    where
      others : Row → Bool
      others r = not (same_image r.name (Vhd disk) || same_image r.name (Vhd twin))

      alone : filter others (children_with new base) ≡ []
      alone = none_left others (children_with new base) (λ r inside.
          ⊎_elim (λ l. base_child (Vhd base) (vhd_near h k base (among_base h k)) r l) (λ l. base_child (Raw base) (raw_near h k base (among_base h k)) r l)
          (In-append (children new (Vhd base)) (children new (Raw base)) r inside))

      by : (c : Bool) → is_fork_made t disk base twin ≡ c → is_fork_linked new disk base twin ≡ true
      by false e = or_left (not (is_fork_made t disk base twin)) _ (ap not e)
      by true e =
          let at_base = made_base h k e in
          or_right (not (is_fork_made t disk base twin)) _
          (and_from (is_base_of base (new.links (Vhd disk))) _ (over_base disk (among_disk h k) (disk_base h k) at_base)
          (and_from (is_base_of base (new.links (Vhd twin))) _ (over_base twin (among_twin h k) (λ is. base_twin h k (sym is)) at_base)
          (eq-eqb (length (filter others (children_with new base))) 0 (ap length alone))))

  pub entry_passes : (r : Row) → r.name ≡ Clone disk base twin → PassesAlone new r
  unfolding is_entry_linked is_at_stage
  entry_passes r is = record {
    named = ap (misnamed_as t) is;
    at_stage = ap (lost_as t) is ∙ ap₂ (λ x y. not (x && y)) k.stage k.past;
    owned = ap (is_orphaned t) is;
    valid = ap (λ y. not r.fresh && is_image_wrong new r y) is ∙ and_right (not r.fresh) false refl;
    placed = ap (tree_wrong_as new r) is;
    linked = ap (is_entry_linked new) is ∙ entry_linked;
  }

  pub near_passes : (r : Row) → In r t.volumes → is_apart us r.name ≡ false → PassesAlone new r
  near_passes r there near = by (k.volumes r there near)
    where
      by : (r.name ≡ Clone disk base twin) ⊎ ((r.name ≡ m) ⊎ (((r.name ≡ Vhd disk) ⊎ (r.name ≡ Vhd twin)) × IsForkChild b m r)) → PassesAlone new r
      by (inl is) = entry_passes r is
      by (inr (inl is)) = own_passes r there is
      by (inr (inr (inl is, child))) = child_passes r disk there is (inl refl) (among_disk h k) (past_disk h k) child
      by (inr (inr (inr is, child))) = child_passes r twin there is (inr refl) (among_twin h k) (past_twin h k) child
