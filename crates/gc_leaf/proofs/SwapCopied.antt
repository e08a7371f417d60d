-- Before a swap: the leaf stands in its own image, and its parent holds alike whatever it holds.
use Rattle.std.proofs.Common.{◌≡◌, ◌≢◌, ⊎_elim, ℕ, ◌*◌, ◌-◌, ◌/◌, ◌%◌, ◌<◌, ◌≤◌, ◌&&◌, not, true, false, cond, List, [], ◌∷◌, filter, length, Option, Some, None, refl, sym, ap, ap₂, ◌∙◌, subst, subst₂, arith}
use Rattle.std.proofs.Math.Logic.{∥∥₁_elim}
use Rattle.std.proofs.Math.Nat.{div-lt_iff_lt-mul}
use Rattle.std.proofs.Props.{props}
use Rattle.std.proofs.lemmas.Bool.{cases_lt, le-ltb, true≢false}
use Rattle.std.proofs.lemmas.Nat.{le-div}
use Rattle.std.proofs.lemmas.Option.{none-some, same_Some}
use Rattle.common_laws.specs.Lists.{◌>>=◌}
use Rattle.common_laws.proofs.Lists.{none_find, numbers-In}
use Rattle.sm_base.specs.declared.names.Name.{Name}
use Rattle.sm_base.specs.declared.names.Name.TheVariants.{Leaf, Raw, Vhd}
use Rattle.sm_disk.specs.Held.{Held, reads}
use Rattle.vg_meta.specs.Tables.{Row, VolumeTable, names_of, rows}
use Rattle.vg_volumes.specs.Sites.{Site}
use Rattle.vhd_layout.specs.Contents.{content_at, own, size_at, value}
use Rattle.vhd_layout.specs.Layouts.{Sectors}
use Rattle.vhd_image.specs.Bodies.{parent_name, sector_count}
use Rattle.vhd_chain.specs.Trees.{tree_row}
use Rattle.vhd_chain.specs.declared.rows.TreeRow.{TreeRow}
use Rattle.sm_machine.specs.Collector.{next_block, table_of}
use Rattle.sm_machine.specs.Shapes.{ImageRow, find_image, is_there, slot_at}
use Rattle.sm_machine.specs.WellFormed.{IsWellFormed, table_length}
use Rattle.sm_machine.proofs.Chains.{find_image-in}
use Rattle.sm_standing.specs.Apart.{is_apart}
use Rattle.sm_standing.specs.Changes.{IsCopied, parent_of}
use Rattle.sm_standing.specs.Contents.{Content}
use Rattle.sm_standing.specs.Entries.{folding, head, is_folding, is_visible, of_row}
use Rattle.sm_standing.specs.Images.{Image, image_of}
use Rattle.sm_standing.specs.Outlines.{Link, link_of}
use Rattle.sm_standing.specs.Standing.{stands_plainly}
use Rattle.sm_standing.specs.Swaps.{IsSwappable, swapped}
use Rattle.sm_ready.specs.Known.{Known, shape_in}
use Rattle.sm_ready.specs.Outlined.{link_in}
use Rattle.sm_ready.specs.Ready.{IsBelow, IsHeldBelow, IsReady}
use Rattle.sm_ready.specs.Stores.{content_now}
use Rattle.sm_ready.proofs.LeftLaws.{left_in, left_now, links_left, outline_left, ready_places}
use Rattle.sm_ready.proofs.Orders.{In-tree_row, geometry_of, none_making}
use Rattle.sm_ready.proofs.ShapeLaws.{plainly_stands}
use Rattle.gc_coalesce.proofs.CopiedLaws.{held_slot, image_read}
use Rattle.gc_coalesce.proofs.LinkChains.{all_short}
use Rattle.gc_leaf.proofs.SwapNames.{folding_among}
use Rattle.gc_leaf.proofs.SwapPair.{child, entry_alone, leaf_is, leaf_linked, leaf_small, leaf_vol, no_raw_parent, parent_is, parent_other, parent_vol, u, v}
use Rattle.gc_leaf.proofs.SwapSteps.{IsToSwap, below_of, none_left}

-- ---- an image by itself

-- it holds no sector past its size
own_below : (block n : ℕ) (x : Sectors) (k : ℕ) (bytes : List ℕ) → own block n x k ≡ Some bytes → k < n
unfolding own
own_below block n x k bytes is = ⊎_elim (λ below. below) (λ past. absurd (none-some bytes (sym (ap (λ b. cond b (value x (k / block) (k % block)) None) (le-ltb k n past)) ∙ is))) (cases_lt k n)

-- where the machine finds no block from the cursor on, none of these has a slot
no_slot_from : (cursor b : ℕ) (slots : List (Option ℕ)) → next_block cursor slots ≡ None → b < length slots → cursor ≤ b → is_there (slot_at slots b) ≡ false
unfolding next_block
no_slot_from cursor b slots none below from = none_find (λ c. is_there (slot_at slots c)) _ none b (numbers-In cursor (length slots - cursor) b from (omega (arith, below, from)))

-- ---- where a UUID stands by itself

pub stands_shown : (t : VolumeTable) (x : List ℕ) (r : Row) → rows t (Vhd x) ≡ Some r → r.hidden ≡ false → r.fresh ≡ false → stands_plainly t x ≡ Some (Vhd x)
stands_shown t x r there shown filled =
    ap (λ b. cond b (Some (Vhd x)) (cond (is_visible t (Raw x)) (Some (Raw x)) None))
    (ap (of_row (λ y. not y.hidden && not y.fresh)) there ∙ ap₂ (λ a b. not a && not b) shown filled)

pub stands_none : (t : VolumeTable) (x : List ℕ) → is_visible t (Vhd x) ≡ false → rows t (Raw x) ≡ None → stands_plainly t x ≡ None
stands_none t x vhd raw = ap₂ (λ a b. cond a (Some (Vhd x)) (cond b (Some (Raw x)) None)) vhd (ap (of_row (λ y. not y.hidden && not y.fresh)) raw)

pub hidden_away : (r : Row) (o : Option Row) → o ≡ Some r → r.hidden ≡ true → of_row (λ y. not y.hidden && not y.fresh) o ≡ false
hidden_away r o is hidden = ap (of_row (λ y. not y.hidden && not y.fresh)) is ∙ ap (λ b. not b && not r.fresh) hidden

-- ---- before the swap

module _ {s : Site} {t : VolumeTable} {m : Known} {l p : Name} {cursor : ℕ} (h : IsToSwap s t m l p cursor) (old : Held) (ready : IsReady s t old m) where
  abbrev leaf : List ℕ
  leaf = u h

  abbrev parent : List ℕ
  parent = v h

  abbrev a : Content
  a = content_now s t old

  below : IsHeldBelow a (Vhd leaf) (Vhd parent) cursor []
  below = subst₂ (λ x y. IsHeldBelow a x y cursor []) (leaf_is h) (parent_is h) (below_of a h.attached l p cursor [] refl (subst (IsBelow a) h.is ready.firm.below))

  -- the leaf's image, and the parent's
  pub leaf_image : Image
  leaf_image = below.child

  pub parent_image : Image
  parent_image = below.parent

  linked : (n : Name) → link_of (image_of a n) ≡ link_in (tree_row m.rows n)
  linked n = links_left s t old m (reads old) n h.orderly ready.firm (left_in s t m old (reads old) h.orderly (left_now s old))

  leaf_link : ◌≡◌ {A = Link} (record { size = below.child.size; parent = below.child.parent }) (record { size = sector_count (leaf_vol h).image.image; parent = parent_name (leaf_vol h).image.image })
  leaf_link = same_Some _ _ (sym (ap link_of below.image) ∙ linked (Vhd leaf) ∙ ap link_in (leaf_vol h).found)

  some : 0 < s.geometry.block
  some = omega (arith, (geometry_of s t m h.orderly).block_least)

  past : IsWellFormed (shape_in s t m) → (k : ℕ) (bytes : List ℕ) → below.child.own k ≡ Some bytes → cursor * s.geometry.block ≤ k → ⊥
  unfolding shape_in table_length
  past w k bytes has behind =
      let c = (child h w).link in
      let named : c.child.name ≡ Vhd leaf = c.is_named ∙ leaf_is h in
      let i = image_read s t old m c.child leaf h.orderly ready.firm w c.there named in
      let image = content_at s.geometry.block s.geometry.entries i.sectors i.held in
      let same : below.child ≡ image = same_Some below.child image (sym below.image ∙ ap (image_of a) (sym named) ∙ i.is) in
      let holds : own s.geometry.block (size_at i.sectors i.held) i.held k ≡ Some bytes = ap (λ (x : Image). x.own k) (sym same) ∙ has in
      let sized : below.child.size ≡ size_at i.sectors i.held = ap (λ (x : Image). x.size) same in
      let small = ap (λ (x : Link). x.size) leaf_link in
      let inside : k < s.geometry.entries * s.geometry.block = omega (arith, own_below s.geometry.block (size_at i.sectors i.held) i.held k bytes holds, sized, small, leaf_small h) in
      let b = k / s.geometry.block in
      let within : b < s.geometry.entries = (div-lt_iff_lt-mul some).1 inside in
      let found : find_image l (shape_in s t m).images ≡ Some c.child =
      subst (λ n. find_image n (shape_in s t m).images ≡ Some c.child) c.is_named (find_image-in (shape_in s t m).images c.child w.one_image c.there (w.images c.child c.there).named) in
      let table : table_of l (shape_in s t m) ≡ image.slots = ap (λ (x : Option ImageRow). elim x as (λ x. List (Option ℕ)) [ None ↦ [] | Some j ↦ j.slots ]) found ∙ i.slots in
      let long : length image.slots ≡ s.geometry.entries = sym (ap (λ (xs : List (Option ℕ)). length xs) i.slots) ∙ (w.images c.child c.there).table ∙ ap (table_length (shape_in s t m)) named in
      let slot : is_there (slot_at image.slots b) ≡ true = held_slot s.geometry.block s.geometry.entries i.sectors i.held k bytes holds within in
      let no_slot : is_there (slot_at image.slots b) ≡ false =
      no_slot_from cursor b image.slots (ap (next_block cursor) (sym table) ∙ none_left s t m h.attached l p cursor h.planned h.is) (omega (arith, within, long)) (le-div cursor k s.geometry.block some behind) in
      true≢false (sym slot ∙ no_slot)

  copied : IsCopied a (Vhd leaf) (Vhd parent) below.child below.parent
  copied = record {
    image = below.image;
    parent = ap (λ (x : Link). x.parent) leaf_link ∙ leaf_linked h;
    below = below.under;
    size = below.size;
    held = λ k bytes has. ⊎_elim (λ front. below.held k bytes front refl has) (λ behind. absurd (∥∥₁_elim h.orderly.well_formed (hlevel props) (λ w. past w k bytes has behind)))
        (cases_lt k (cursor * s.geometry.block));
  }

  childless : (n q : Name) → n ≢ Vhd leaf → parent_of a n ≡ Some q → is_apart (swapped leaf parent) q ≡ true
  childless n q other is = by (tree_row m.rows n) refl (sym (ap (λ (x : Option Link). x >>= (λ i. i.parent)) (linked n)) ∙ is)
    where
      by : (x : Option TreeRow) → tree_row m.rows n ≡ x → (link_in x >>= (λ i. i.parent)) ≡ Some q → is_apart (swapped leaf parent) q ≡ true
      by None at e = absurd (none-some q e)
      by (Some r) at e = let w = In-tree_row m.rows n r at in parent_other h r q w.0 e (λ same. other (sym w.1 ∙ same))

  pub folding_is : folding t ≡ Leaf leaf parent ∷ []
  folding_is = folding_among (names_of t.volumes) ∙ ap (filter is_folding) (entry_alone h)

  pub swappable : IsSwappable a leaf parent leaf_image parent_image
  unfolding leaf_image parent_image
  swappable = record {
    entry = ap head folding_is;
    stood = plainly_stands s t m leaf h.orderly ∙ stands_shown t leaf (leaf_vol h).row (leaf_vol h).there (leaf_vol h).shown (leaf_vol h).filled;
    no_parent = plainly_stands s t m parent h.orderly ∙ stands_none t parent (hidden_away (parent_vol h).row (rows t (Vhd parent)) (parent_vol h).there (parent_vol h).shown) (no_raw_parent h);
    none_making = none_making s t m h.orderly;
    copied = copied;
    short = all_short s t m h.orderly a (outline_left s t old m (reads old) h.orderly ready.firm (left_in s t m old (reads old) h.orderly (left_now s old))
        (ready_places s t old m (reads old) h.orderly ready (left_now s old))) (Vhd leaf);
    childless = childless;
  }
