-- Linking a child, and swapping a leaf, keep a shape well-formed.
use Rattle.std.proofs.Common.{◌≡◌, ℕ, zero, suc, ◌+◌, ◌≤◌, Bool, true, false, List, map, Option, Some, None, refl, sym, ap, ◌∙◌, subst, arith}
use Rattle.std.proofs.lemmas.List.{length-map}
use Rattle.sm_base.specs.declared.names.Name.{Name}
use Rattle.sm_machine.specs.Operations as op
use Rattle.common_laws.specs.Lists.{In, Distinct, Sorted, when}
use Rattle.sm_machine.specs.Shapes.{Shape, ImageRow, same_image, is_image, image_uuid, is_vhd, parent_of, thick_in}
use Rattle.sm_machine.specs.WellFormed.{IsWellFormed, IsImageRow, HasParent, HasImage, HasRecord, IsChild, EndsWithin, is_image_name, table_length, name_le}
use Rattle.common_laws.proofs.Lists.{In-map, In-map_at, Distinct-key}
use Rattle.sm_machine.proofs.Changes.{when-key}
use Rattle.sm_machine.proofs.Chains.{parent_of-in, parents_there, OfName, IsThere}
use Rattle.sm_machine.proofs.ImageNames.{same_image-sound, same_image-refl, other_image}
use Rattle.sm_machine.proofs.Mapped.{extents-map_same, map-key}
use Rattle.sm_machine.proofs.Debts.{own_parent, is_itself}
use Rattle.sm_machine.proofs.Collects.{same_row}

-- ---- a child is linked to the parent's parent

pub ends_more : (k : ℕ) (o : Option Name) (images : List ImageRow) → EndsWithin k o images → EndsWithin (suc k) o images
ends_more zero None images h = tt
ends_more zero (Some n) images h = absurd h
ends_more (suc k) None images h = tt
ends_more (suc k) (Some n) images h = ends_more k (parent_of n images) images h

module _ (s : Shape) (v p : Name) (w : IsWellFormed (record s { op = op.Relink v p })) (c : ImageRow) (there : In c s.images) (linked_to : c.parent ≡ Some v) where
  abbrev linking : Shape
  linking = record s { op = op.Relink v p }

  abbrev link_to : ImageRow → ImageRow
  link_to i = record i { parent = Some p }

  abbrev on_link : ImageRow → ImageRow
  on_link y = when (is_image c.name y) link_to y

  link_key : {B : Type 0} (k : ImageRow → B) → ((y : ImageRow) → k (link_to y) ≡ k y) → (y : ImageRow) → k (on_link y) ≡ k y
  link_key k h y = when-key k link_to h (is_image c.name y) y

  abbrev linked_images : List ImageRow
  linked_images = map on_link s.images

  abbrev base : IsChild linking true v p
  base = w.operation

  link_names : (y : ImageRow) → (on_link y).name ≡ y.name
  link_names = link_key (λ (x : ImageRow). x.name) (λ y. refl)

  link_sizes : (y : ImageRow) → (on_link y).size ≡ y.size
  link_sizes = link_key (λ (x : ImageRow). x.size) (λ y. refl)

  link_marks : (y : ImageRow) → (on_link y).hidden ≡ y.hidden
  link_marks = link_key (λ (x : ImageRow). x.hidden) (λ y. refl)

  keeps_key : map (λ (i : ImageRow). image_uuid i.name) linked_images ≡ map (λ (i : ImageRow). image_uuid i.name) s.images
  keeps_key = map-key (λ (i : ImageRow). image_uuid i.name) on_link (λ y. ap image_uuid (link_names y)) s.images

  distinct_linked : Distinct (map (λ (i : ImageRow). image_uuid i.name) linked_images)
  distinct_linked = subst Distinct (sym keeps_key) w.one_image

  -- each image but the child keeps its parent
  kept_parent : (y : ImageRow) → In y s.images → (y.name ≡ c.name → ⊥) → parent_of y.name linked_images ≡ parent_of y.name s.images
  kept_parent y h apart =
      let named : is_image_name y.name ≡ true = (w.images y h).named in
      let same : on_link y ≡ y = when_not (is_image c.name y) (other_image y.name c.name apart) in
      parent_of-in linked_images y distinct_linked (subst (λ (x : ImageRow). In x linked_images) same (In-map_at on_link s.images y h)) named ∙ sym (parent_of-in s.images y w.one_image h named)
    where
      when_not : (b : Bool) → b ≡ false → when b link_to y ≡ y
      when_not true e = cc
      when_not false e = refl

  moved : on_link c ≡ link_to c
  moved = when_true (is_image c.name c) (is_itself linking w c there)
    where
      when_true : (b : Bool) → b ≡ true → when b link_to c ≡ link_to c
      when_true true e = refl
      when_true false e = cc

  new_parent : parent_of c.name linked_images ≡ Some p
  new_parent = parent_of-in linked_images (link_to c) distinct_linked (subst (λ (x : ImageRow). In x linked_images) moved (In-map_at on_link s.images c there)) (w.images c there).named

  old_parent : parent_of c.name s.images ≡ Some v
  old_parent = parent_of-in s.images c w.one_image there (w.images c there).named ∙ linked_to

  base_parent : parent_of v s.images ≡ Some p
  base_parent = subst (λ (n : Name). parent_of n s.images ≡ Some p) base.is_named (parent_of-in s.images base.child w.one_image base.there (w.images base.child base.there).named ∙ base.linked)

  base_kept : on_link base.child ≡ base.child
  base_kept = when_not (is_image c.name base.child) (other_image base.child.name c.name (λ e.
      let same : base.child ≡ c = Distinct-key (λ (x : ImageRow). image_uuid x.name) s.images base.child c w.one_image base.there there (ap image_uuid e) in
      own_parent linking w c there (linked_to ∙ ap Some (sym base.is_named ∙ e))))
    where
      when_not : (b : Bool) → b ≡ false → when b link_to base.child ≡ base.child
      when_not true e = cc
      when_not false e = refl

  -- the chain of the child gets shorter by one
  shorter : (k : ℕ) → EndsWithin k (Some v) s.images → EndsWithin k (Some p) s.images
  shorter zero e = e
  shorter (suc k) e = ends_more k (Some p) s.images (subst (λ (o : Option Name). EndsWithin k o s.images) base_parent e)

  other : (n : Name) → IsThere s.images n → same_image n c.name ≡ false → parent_of n linked_images ≡ parent_of n s.images
  other n h r = subst (λ (m : Name). parent_of m linked_images ≡ parent_of m s.images) h.2 (kept_parent h.0 h.1 (λ f.
      let t : same_image n c.name ≡ true = ap (λ (m : Name). same_image m c.name) (sym h.2 ∙ f) ∙ same_image-refl c.name (w.images c there).named in cc))

  up : (n : Name) (o : Option Name) → IsThere s.images n → parent_of n s.images ≡ o → OfName (IsThere s.images) o
  up n None h e = tt
  up n (Some m) h e = parents_there s.images w.parents n m h e

  parent_is_there : IsThere s.images p
  parent_is_there = let g : HasParent s.images base.child p = w.parents base.child p base.there base.linked in (g.parent, g.there, g.is_named)

  by_name : (k : ℕ) (n : Name) (b : Bool) → same_image n c.name ≡ b → IsThere s.images n → EndsWithin k (parent_of n s.images) s.images
      → ((o : Option Name) → OfName (IsThere s.images) o → EndsWithin k o s.images → EndsWithin k o linked_images) → EndsWithin k (parent_of n linked_images) linked_images
  by_name k n true q h e ih =
      let m : n ≡ c.name = same_image-sound n c.name q in
      let a : EndsWithin k (Some v) s.images = subst (λ (o : Option Name). EndsWithin k o s.images) (ap (λ (x : Name). parent_of x s.images) m ∙ old_parent) e in
      subst (λ (o : Option Name). EndsWithin k o linked_images) (sym (ap (λ (x : Name). parent_of x linked_images) m ∙ new_parent)) (ih (Some p) parent_is_there (shorter k a))
  by_name k n false q h e ih = subst (λ (o : Option Name). EndsWithin k o linked_images) (sym (other n h q)) (ih (parent_of n s.images) (up n (parent_of n s.images) h refl) e)

  ends_linked : (k : ℕ) (o : Option Name) → OfName (IsThere s.images) o → EndsWithin k o s.images → EndsWithin k o linked_images
  ends_linked zero None h e = tt
  ends_linked zero (Some n) h e = e
  ends_linked (suc k) None h e = tt
  ends_linked (suc k) (Some n) h e = by_name k n (same_image n c.name) refl h e (ends_linked k)

  vhd_child : is_vhd c.name ≡ true
  vhd_child = by_kind (is_vhd c.name) refl
    where
      by_kind : (b : Bool) → is_vhd c.name ≡ b → is_vhd c.name ≡ true
      by_kind true e = e
      by_kind false e = let r : None ≡ Some v = sym ((w.images c there).raw e).0 ∙ linked_to in cc

  image_linked : (y : ImageRow) (b : Bool) → is_image c.name y ≡ b → In y s.images → IsImageRow s (when b link_to y)
  unfolding table_length
  image_linked y true e h =
      let g : IsImageRow linking y = w.images y h in
      let same : y.name ≡ c.name = same_image-sound y.name c.name e in
      record { named = g.named; whole = g.whole; volume = g.volume; table = g.table; raw = λ r. (let q : is_vhd y.name ≡ true = ap is_vhd same ∙ vhd_child in cc) }
  image_linked y false e h = let g : IsImageRow linking y = w.images y h in record { named = g.named; whole = g.whole; volume = g.volume; table = g.table; raw = g.raw }

  -- a parent that was there is there
  lift_parent : (y : ImageRow) (n : Name) → HasParent s.images y n → HasParent linked_images (on_link y) n
  lift_parent y n g = record {
    parent = on_link g.parent;
    there = In-map_at on_link s.images g.parent g.there;
    is_named = link_names g.parent ∙ g.is_named;
    is_hidden = link_marks g.parent ∙ g.is_hidden;
    not_larger = subst (λ (k : ℕ). k ≤ (on_link y).size) (sym (link_sizes g.parent)) (subst (λ (k : ℕ). g.parent.size ≤ k) (sym (link_sizes y)) g.not_larger);
  }

  -- the base's parent is not larger than the child
  over_base : (y : ImageRow) → y ≡ c → HasParent s.images y p
  over_base y e =
      let a : HasParent s.images c v = w.parents c v there linked_to in
      let b : HasParent s.images base.child p = w.parents base.child p base.there base.linked in
      let same : a.parent ≡ base.child = Distinct-key (λ (x : ImageRow). image_uuid x.name) s.images a.parent base.child w.one_image a.there base.there (ap image_uuid (a.is_named ∙ sym base.is_named)) in
      let l : a.parent.size ≤ c.size = a.not_larger in
      let m : b.parent.size ≤ base.child.size = b.not_larger in
      let q : a.parent.size ≡ base.child.size = ap (λ (x : ImageRow). x.size) same in
      let z : y.size ≡ c.size = ap (λ (x : ImageRow). x.size) e in
      record { parent = b.parent; there = b.there; is_named = b.is_named; is_hidden = b.is_hidden; not_larger = omega arith }

  parents_linked : (y : ImageRow) (n : Name) (b : Bool) → is_image c.name y ≡ b → In y s.images → (when b link_to y).parent ≡ Some n → HasParent s.images y n
  parents_linked y n true e h q = subst (HasParent s.images y) (let r : p ≡ n = cc in r) (over_base y (same_row linking w c y there h e))
  parents_linked y n false e h q = w.parents y n h q

  pub link_keeps : IsWellFormed (record s { images = linked_images; op = op.Relink v p })
  unfolding table_length
  link_keeps = record {
    geometry = w.geometry;
    blocks = w.blocks;
    sequence = w.sequence;
    room = subst (λ (n : ℕ). s.others + n ≤ s.extents) (sym (extents-map_same on_link (link_key (λ (x : ImageRow). x.extents) (λ y. refl)) s.images)) w.room;
    few = subst (λ (n : ℕ). n ≤ 500) (sym (length-map s.images on_link)) w.few;
    images_in_order = subst (Sorted name_le) (sym (map-key (λ i. i.name) on_link link_names s.images)) w.images_in_order;
    one_image = distinct_linked;
    images = λ x h. (let r : (y : ImageRow) × In y s.images × (x ≡ on_link y) = In-map on_link s.images x h in
        let g : IsImageRow s (on_link r.0) = image_linked r.0 (is_image c.name r.0) refl r.1 in
        let k : IsImageRow s x = subst (IsImageRow s) (sym r.2) g in
        record { named = k.named; whole = k.whole; volume = k.volume; table = k.table; raw = k.raw });
    parents = λ x n h e. (let r : (y : ImageRow) × In y s.images × (x ≡ on_link y) = In-map on_link s.images x h in
        subst (λ (z : ImageRow). HasParent linked_images z n) (sym r.2) (lift_parent r.0 n (parents_linked r.0 n (is_image c.name r.0) refl r.1 (sym (ap (λ (z : ImageRow). z.parent) r.2) ∙ e))));
    chains = λ x h. (let r : (y : ImageRow) × In y s.images × (x ≡ on_link y) = In-map on_link s.images x h in
        subst (λ (n : Name). EndsWithin 30 (Some n) linked_images) (sym (ap (λ (z : ImageRow). z.name) r.2 ∙ link_names r.0)) (ends_linked 30 (Some r.0.name) (r.0, r.1, refl) (w.chains r.0 r.1)));
    bases = λ x n h l e. (let r : (y : ImageRow) × In y s.images × (x ≡ on_link y) = In-map on_link s.images x h in
        w.bases r.0 n r.1 l (sym (ap (λ (z : ImageRow). image_uuid z.name) r.2 ∙ ap image_uuid (link_names r.0)) ∙ e));
    records_in_order = w.records_in_order;
    one_record = w.one_record;
    disks = λ r h. (let f : HasImage linking r.uuid = w.disks r h in (on_link f.0, In-map_at on_link s.images f.0 f.1, link_marks f.0 ∙ f.2, ap image_uuid (link_names f.0) ∙ f.3));
    visible = λ x h e. (let r : (y : ImageRow) × In y s.images × (x ≡ on_link y) = In-map on_link s.images x h in
        let k : HasRecord linking (image_uuid r.0.name) = w.visible r.0 r.1 (sym (ap (λ (z : ImageRow). z.hidden) r.2 ∙ link_marks r.0) ∙ e) in
        (k.0, k.1, k.2 ∙ sym (ap (λ (z : ImageRow). image_uuid z.name) r.2 ∙ ap image_uuid (link_names r.0))));
    attachments = record {
      once = w.attachments.once;
      disks = w.attachments.disks;
      writable = w.attachments.writable;
      thick = λ a x h m k hid u vhd. (let r : (y : ImageRow) × In y s.images × (x ≡ on_link y) = In-map on_link s.images x k in
          let n : x.name ≡ r.0.name = ap (λ (z : ImageRow). z.name) r.2 ∙ link_names r.0 in
          let z : x.size ≡ r.0.size = ap (λ (i : ImageRow). i.size) r.2 ∙ link_sizes r.0 in
          let q : x.extents ≡ r.0.extents = ap (λ (i : ImageRow). i.extents) r.2 ∙ link_key (λ (i : ImageRow). i.extents) (λ y. refl) r.0 in
          let l : thick_in s r.0.size ≤ r.0.extents = w.attachments.thick a r.0 h m r.1 (sym (ap (λ (i : ImageRow). i.hidden) r.2 ∙ link_marks r.0) ∙ hid) (sym (ap image_uuid n) ∙ u) (sym (ap is_vhd n) ∙ vhd) in
          subst (λ (i : ℕ). thick_in s i ≤ x.extents) (sym z) (subst (λ (i : ℕ). thick_in s r.0.size ≤ i) (sym q) l));
    };
    operation = record {
      child = base.child;
      there = subst (λ (x : ImageRow). In x linked_images) base_kept (In-map_at on_link s.images base.child base.there);
      is_named = base.is_named;
      is_shown = base.is_shown;
      vhd = base.vhd;
      linked = base.linked;
    };
  }
