-- Shapes whose images are changed one by one, with the same names, marks and parents, and shapes with the same images.
use Rattle.std.proofs.Common.{◌≡◌, ℕ, ◌+◌, ◌*◌, ◌<◌, ◌≤◌, Bool, true, false, List, [], ◌∷◌, map, length, Option, Some, None, refl, sym, ap, ◌∙◌, subst, inl, inr, arith}
use Rattle.std.specs.Option.{option_map}
use Rattle.std.proofs.lemmas.List.{length-map}
use Rattle.sm_base.specs.declared.names.Name.{Name}
use Rattle.sm_machine.specs.Operations.{Op}
use Rattle.sm_machine.specs.Operations as op
use Rattle.sm_base.specs.declared.operations.Mode.TheVariants.{Rw}
use Rattle.common_laws.specs.Lists.{◌>>=◌, In, Distinct, Sorted, when, change}
use Rattle.sm_machine.specs.Shapes.{Shape, ImageRow, DiskRecord, Attachment, same_image, is_image, find_image, attached_as, image_uuid, is_rw, is_there, is_vhd, parent_of, mode_in, slot_at, image_extents, thick_in}
use Rattle.sm_machine.specs.WellFormed.{IsWellFormed, IsImageRow, IsSize, HasParent, HasImage, HasRecord, AreAttachments, IsChild, IsLive, IsOnlyChild, IsOperation, EndsWithin, is_image_name, table_length, name_le, uuid_le}
use Rattle.std.specs.Prelude.{is_some}
use Rattle.common_laws.proofs.Lists.{Distinct-key, In-map, In-map_at}
use Rattle.sm_machine.proofs.Changes.{find-map}
use Rattle.sm_machine.proofs.Chains.{ends_alike}

-- ---- the same images, with other records, attachments and operation

module _ (s : Shape) (w : IsWellFormed s) (records : List DiskRecord) (attached : List Attachment) (o : Op) where
  abbrev pub recorded : Shape
  recorded = record s { records = records; attached = attached; op = o }

  image_same : (i : ImageRow) → IsImageRow s i → IsImageRow recorded i
  unfolding table_length
  image_same i g = record { named = g.named; whole = g.whole; volume = g.volume; table = g.table; raw = g.raw }

  pub keeps_images : Sorted uuid_le (map (λ r. r.uuid) records) → Distinct (map (λ r. r.uuid) records)
      → ((r : DiskRecord) → In r records → HasImage s r.uuid) → ((i : ImageRow) → In i s.images → i.hidden ≡ false → HasRecord recorded (image_uuid i.name))
      → AreAttachments recorded → IsOperation recorded o → IsWellFormed recorded
  keeps_images order once disks visible attachments operation = record {
    geometry = w.geometry;
    blocks = w.blocks;
    sequence = w.sequence;
    room = w.room;
    few = w.few;
    images_in_order = w.images_in_order;
    one_image = w.one_image;
    images = λ i k. image_same i (w.images i k);
    parents = w.parents;
    chains = w.chains;
    bases = w.bases;
    records_in_order = order;
    one_record = once;
    disks = disks;
    visible = visible;
    attachments = attachments;
    operation = operation;
  }

-- ---- images changed one by one

pub map-key : {B : Type 0} (k : ImageRow → B) (g : ImageRow → ImageRow) → ((y : ImageRow) → k (g y) ≡ k y) → (xs : List ImageRow) → map k (map g xs) ≡ map k xs
map-key k g h [] = refl
map-key k g h (x ∷ xs) = let a : k (g x) ≡ k x = h x in let b : map k (map g xs) ≡ map k xs = map-key k g h xs in cc

parent_after : (g : ImageRow → ImageRow) → ((y : ImageRow) → (g y).parent ≡ y.parent) → (o : Option ImageRow) → (option_map g o >>= (λ i. i.parent)) ≡ (o >>= (λ i. i.parent))
parent_after g h None = refl
parent_after g h (Some x) = h x

module _ (s : Shape) (w : IsWellFormed s) (g : ImageRow → ImageRow)
    (name_kept : (y : ImageRow) → (g y).name ≡ y.name) (hidden_kept : (y : ImageRow) → (g y).hidden ≡ y.hidden) (parent_kept : (y : ImageRow) → (g y).parent ≡ y.parent) where
  abbrev pub images_after : List ImageRow
  images_after = map g s.images

  parent_mapped : (n : Name) → parent_of n images_after ≡ parent_of n s.images
  parent_mapped n =
      let m : find_image n images_after ≡ option_map g (find_image n s.images) = find-map (is_image n) g (λ y. ap (λ (k : Name). same_image k n) (name_kept y)) s.images in
      ap (λ (o : Option ImageRow). o >>= (λ i. i.parent)) m ∙ parent_after g parent_kept (find_image n s.images)

  known : Option Name → Unit {0}
  known o = tt

  chains_mapped : (x : ImageRow) → In x images_after → EndsWithin 30 (Some x.name) images_after
  chains_mapped x h =
      let r : (y : ImageRow) × In y s.images × (x ≡ g y) = In-map g s.images x h in
      let e : r.0.name ≡ x.name = sym (ap (λ (y : ImageRow). y.name) r.2 ∙ name_kept r.0) in
      subst (λ (n : Name). EndsWithin 30 (Some n) images_after) e
      (ends_alike s.images images_after (λ n. Unit {0}) (λ n k. parent_mapped n) (λ n p k q. tt) 30 (Some r.0.name) tt (w.chains r.0 r.1))

  module _ (attached : List Attachment) (o : Op) where
    abbrev pub after : Shape
    after = record s { images = images_after; attached = attached; op = o }

    image_after : (y : ImageRow) → IsImageRow s (g y) → IsImageRow after (g y)
    unfolding table_length
    image_after y h = record { named = h.named; whole = h.whole; volume = h.volume; table = h.table; raw = h.raw }

    pub keeps_mapped : s.others + image_extents images_after ≤ s.extents
        → ((y : ImageRow) → In y s.images → IsImageRow s (g y))
        → ((y q : ImageRow) → In y s.images → In q s.images → q.hidden ≡ true → y.parent ≡ Some q.name → q.size ≤ y.size → (g q).size ≤ (g y).size)
        → AreAttachments after → IsOperation after o → IsWellFormed after
    keeps_mapped room goods sizes attachments operation = record {
      geometry = w.geometry;
      blocks = w.blocks;
      sequence = w.sequence;
      room = room;
      few = subst (λ (n : ℕ). n ≤ 500) (sym (length-map s.images g)) w.few;
      images_in_order = subst (Sorted name_le) (sym (map-key (λ i. i.name) g name_kept s.images)) w.images_in_order;
      one_image = subst Distinct (sym (map-key (λ i. image_uuid i.name) g (λ y. ap image_uuid (name_kept y)) s.images)) w.one_image;
      images = λ x h. (let r : (y : ImageRow) × In y s.images × (x ≡ g y) = In-map g s.images x h in
          subst (λ (z : ImageRow). IsImageRow after z) (sym r.2) (image_after r.0 (goods r.0 r.1)));
      parents = λ x p h e. (let r : (y : ImageRow) × In y s.images × (x ≡ g y) = In-map g s.images x h in
          let q : r.0.parent ≡ Some p = sym (ap (λ (z : ImageRow). z.parent) r.2 ∙ parent_kept r.0) ∙ e in
          let k : HasParent s.images r.0 p = w.parents r.0 p r.1 q in
          record {
            parent = g k.parent;
            there = In-map_at g s.images k.parent k.there;
            is_named = name_kept k.parent ∙ k.is_named;
            is_hidden = hidden_kept k.parent ∙ k.is_hidden;
            not_larger = subst (λ (z : ImageRow). (g k.parent).size ≤ z.size) (sym r.2) (sizes r.0 k.parent r.1 k.there k.is_hidden (q ∙ ap Some (sym k.is_named)) k.not_larger);
          });
      chains = chains_mapped;
      bases = λ x n h l e. (let r : (y : ImageRow) × In y s.images × (x ≡ g y) = In-map g s.images x h in
          w.bases r.0 n r.1 l (sym (ap (λ (z : ImageRow). image_uuid z.name) r.2 ∙ ap image_uuid (name_kept r.0)) ∙ e));
      records_in_order = w.records_in_order;
      one_record = w.one_record;
      disks = λ r h. (let f : HasImage s r.uuid = w.disks r h in (g f.0, In-map_at g s.images f.0 f.1, hidden_kept f.0 ∙ f.2, ap image_uuid (name_kept f.0) ∙ f.3));
      visible = λ x h e. (let r : (y : ImageRow) × In y s.images × (x ≡ g y) = In-map g s.images x h in
          let v : HasRecord s (image_uuid r.0.name) = w.visible r.0 r.1 (sym (ap (λ (z : ImageRow). z.hidden) r.2 ∙ hidden_kept r.0) ∙ e) in
          (v.0, v.1, v.2 ∙ sym (ap (λ (z : ImageRow). image_uuid z.name) r.2 ∙ ap image_uuid (name_kept r.0))));
      attachments = attachments;
      operation = operation;
    }

    -- the same attachments, where each attached disk that may be written to keeps its room
    pub attachments_mapped : attached ≡ s.attached
        → ((a : Attachment) (y : ImageRow) → In a s.attached → a.mode ≡ Rw → In y s.images → y.hidden ≡ false → image_uuid y.name ≡ a.disk → is_vhd y.name ≡ true → thick_in s y.size ≤ y.extents → thick_in s (g y).size ≤ (g y).extents)
        → AreAttachments after
    attachments_mapped e thick = record {
      once = subst (λ (xs : List Attachment). Distinct (map (λ a. a.disk) xs)) (sym e) w.attachments.once;
      disks = λ a h. w.attachments.disks a (subst (In a) e h);
      writable = λ a r h m k q. w.attachments.writable a r (subst (In a) e h) m k q;
      thick = λ a x h m k hid u v. (let r : (y : ImageRow) × In y s.images × (x ≡ g y) = In-map g s.images x k in
          let h' : In a s.attached = subst (In a) e h in
          let hid' : r.0.hidden ≡ false = sym (ap (λ (z : ImageRow). z.hidden) r.2 ∙ hidden_kept r.0) ∙ hid in
          let n : x.name ≡ r.0.name = ap (λ (z : ImageRow). z.name) r.2 ∙ name_kept r.0 in
          let u' : image_uuid r.0.name ≡ a.disk = sym (ap image_uuid n) ∙ u in
          let v' : is_vhd r.0.name ≡ true = sym (ap is_vhd n) ∙ v in
          subst (λ (z : ImageRow). thick_in s z.size ≤ z.extents) (sym r.2) (thick a r.0 h' m r.1 hid' u' v' (w.attachments.thick a r.0 h' m r.1 hid' u' v')));
    }

    pub link_mapped : (hidden : Bool) (v p : Name) → IsChild s hidden v p → IsChild after hidden v p
    link_mapped hidden v p h = record {
      child = g h.child;
      there = In-map_at g s.images h.child h.there;
      is_named = name_kept h.child ∙ h.is_named;
      is_shown = hidden_kept h.child ∙ h.is_shown;
      vhd = h.vhd;
      linked = parent_kept h.child ∙ h.linked;
    }

    pub only_mapped : (hidden : Bool) (v p : Name) → (h : IsOnlyChild s hidden v p) → (g h.link.child).size ≡ h.link.child.size → ((q : ImageRow) → In q s.images → q.name ≡ p → (g q).size ≡ q.size) → IsOnlyChild after hidden v p
    unfolding link_mapped
    only_mapped hidden v p h same_child same_parent = record {
      link = link_mapped hidden v p h.link;
      only = λ x k e. (let r : (y : ImageRow) × In y s.images × (x ≡ g y) = In-map g s.images x k in
          ap (λ (z : ImageRow). z.name) r.2 ∙ (name_kept r.0 ∙ h.only r.0 r.1 (sym (ap (λ (z : ImageRow). z.parent) r.2 ∙ parent_kept r.0) ∙ e)));
      same_size = λ x k e. (let r : (y : ImageRow) × In y s.images × (x ≡ g y) = In-map g s.images x k in
          let n : r.0.name ≡ p = sym (ap (λ (z : ImageRow). z.name) r.2 ∙ name_kept r.0) ∙ e in
          ap (λ (z : ImageRow). z.size) r.2 ∙ (same_parent r.0 r.1 n ∙ (h.same_size r.0 r.1 n ∙ sym same_child)));
    }

    -- a live folding, where its parent keeps its room and the dirty blocks have slots
    pub live_changed : (l p : Name) (cursor : ℕ) (dirty dirty' : List ℕ) → (h : IsLive s l p cursor dirty) → mode_in (image_uuid l) attached ≡ attached_as (image_uuid l) s → (g h.only.link.child).size ≡ h.only.link.child.size
        → ((q : ImageRow) → In q s.images → q.name ≡ p → (g q).size ≡ q.size)
        → ((q : ImageRow) → In q s.images → q.name ≡ p → q.extents ≤ (g q).extents)
        → cursor ≤ length (g h.only.link.child).slots
        → ((b : ℕ) → In b dirty' → (b < cursor) × (is_there (slot_at (g h.only.link.child).slots b) ≡ true)) → IsLive after l p cursor dirty'
    unfolding only_mapped link_mapped
    live_changed l p cursor dirty dirty' h mode child same room long slots = record {
      only = only_mapped false l p h.only child same;
      parent_vhd = h.parent_vhd;
      attached = ap is_some mode ∙ h.attached;
      thick = λ rw x k e. (let r : (y : ImageRow) × In y s.images × (x ≡ g y) = In-map g s.images x k in
          let n : r.0.name ≡ p = sym (ap (λ (z : ImageRow). z.name) r.2 ∙ name_kept r.0) ∙ e in
          let was : thick_in s r.0.size ≤ r.0.extents = h.thick (sym (ap is_rw mode) ∙ rw) r.0 r.1 n in
          let more : r.0.extents ≤ (g r.0).extents = room r.0 r.1 n in
          let less : thick_in s (g r.0).size ≤ (g r.0).extents = subst (λ (k : ℕ). thick_in s k ≤ (g r.0).extents) (sym (same r.0 r.1 n)) (omega arith) in
          subst (λ (z : ImageRow). thick_in s z.size ≤ z.extents) (sym r.2) less);
      within = long;
      blocks = slots;
    }

    pub live_mapped : (l p : Name) (cursor : ℕ) (dirty dirty' : List ℕ) → (h : IsLive s l p cursor dirty) → mode_in (image_uuid l) attached ≡ attached_as (image_uuid l) s → ((y : ImageRow) → In y s.images → (g y).size ≡ y.size)
        → ((q : ImageRow) → In q s.images → q.name ≡ p → q.extents ≤ (g q).extents)
        → cursor ≤ length (g h.only.link.child).slots
        → ((b : ℕ) → In b dirty' → (b < cursor) × (is_there (slot_at (g h.only.link.child).slots b) ≡ true)) → IsLive after l p cursor dirty'
    live_mapped l p cursor dirty dirty' h mode same room long slots = live_changed l p cursor dirty dirty' h mode (same h.only.link.child h.only.link.there) (λ q k m. same q k) room long slots

    -- the same operation, where no size of its images changes
    pub operation_mapped : attached ≡ s.attached → ((y : ImageRow) → In y s.images → (g y).size ≡ y.size) → ((q : ImageRow) → In q s.images → q.hidden ≡ true → q.extents ≤ (g q).extents)
        → ((y : ImageRow) → length (g y).slots ≡ length y.slots) → ((y : ImageRow) (b : ℕ) → is_there (slot_at y.slots b) ≡ true → is_there (slot_at (g y).slots b) ≡ true) → (o' : Op) → IsOperation s o' → IsOperation after o'
    operation_mapped e same room long slots o' h = by_operation o' e same h
      where
        by_operation : (o' : Op) → attached ≡ s.attached → ((y : ImageRow) → In y s.images → (g y).size ≡ y.size) → IsOperation s o' → IsOperation after o'
        by_operation op.Idle e same h = tt
        by_operation (op.Copy v p cursor) e same h = only_mapped true v p h (same h.link.child h.link.there) (λ q k m. same q k)
        by_operation (op.Relink v p) e same h = link_mapped true v p h
        by_operation (op.Live l p cursor dirty) e same h = live_mapped l p cursor dirty dirty h (ap (mode_in (image_uuid l)) e) same
            (λ q k n. room q k (let z = w.parents h.only.link.child p h.only.link.there h.only.link.linked in
            ap (λ (x : ImageRow). x.hidden) (Distinct-key (λ (x : ImageRow). image_uuid x.name) s.images q z.parent w.one_image k z.there (ap image_uuid (n ∙ sym z.is_named))) ∙ z.is_hidden))
            (subst (λ (n : ℕ). cursor ≤ n) (sym (long h.only.link.child)) h.within)
            (λ b i. (let f = h.blocks b i in (f.0, slots h.only.link.child b f.1)))
        by_operation (op.Leaf l p cursor) e same h = (only_mapped false l p h.0 (same h.0.link.child h.0.link.there) (λ q k m. same q k), h.1, subst (λ (xs : List Attachment). mode_in (image_uuid l) xs ≡ None) (sym e) h.2)

-- an image with the same name, size, extents and parent, and a table as long
pub image_like : (s : Shape) (x y : ImageRow) → y.name ≡ x.name → y.size ≡ x.size → y.extents ≡ x.extents → y.parent ≡ x.parent → length y.slots ≡ length x.slots → IsImageRow s x → IsImageRow s y
image_like s x y n z e p t h = record {
  named = ap is_image_name n ∙ h.named;
  whole = subst (IsSize s) (sym z) h.whole;
  volume = subst (λ (k : ℕ). 0 < k) (sym e) h.volume;
  table = t ∙ (h.table ∙ ap (table_length s) (sym n));
  raw = λ v. (let r : (x.parent ≡ None) × (x.size ≡ x.extents * s.extent) = h.raw (sym (ap is_vhd n) ∙ v) in (p ∙ r.0, z ∙ (r.1 ∙ ap (λ (k : ℕ). k * s.extent) (sym e))));
}

-- ---- sums of extents

pub extents-map_same : (g : ImageRow → ImageRow) → ((y : ImageRow) → (g y).extents ≡ y.extents) → (xs : List ImageRow) → image_extents (map g xs) ≡ image_extents xs
unfolding image_extents
extents-map_same g h [] = refl
extents-map_same g h (x ∷ xs) = let a : (g x).extents ≡ x.extents = h x in let b : image_extents (map g xs) ≡ image_extents xs = extents-map_same g h xs in omega arith

-- all but one image keep their extents
none_passes : (t : ImageRow → Bool) (f : ImageRow → ImageRow) (xs : List ImageRow) → ((y : ImageRow) → In y xs → t y ≡ false) → image_extents (change t f xs) ≡ image_extents xs
unfolding image_extents
none_passes t f [] h = refl
none_passes t f (x ∷ xs) h =
    let a : (when (t x) f x).extents ≡ x.extents = kept (t x) x (h x (inl refl)) in
    let b : image_extents (change t f xs) ≡ image_extents xs = none_passes t f xs (λ y k. h y (inr k)) in
    omega arith
  where
    kept : (c : Bool) (y : ImageRow) → c ≡ false → (when c f y).extents ≡ y.extents
    kept true y e = cc
    kept false y e = refl

pub extents-change_one : (t : ImageRow → Bool) (f : ImageRow → ImageRow) (xs : List ImageRow) (x : ImageRow) → Distinct (map (λ i. image_uuid i.name) xs) → In x xs → t x ≡ true → ((y : ImageRow) → In y xs → t y ≡ true → y ≡ x) → image_extents (change t f xs) + x.extents ≡ image_extents xs + (f x).extents
unfolding image_extents
extents-change_one t f [] x d k p only = absurd k
extents-change_one t f (y ∷ ys) x d (inl q) p only =
    let rest : image_extents (change t f ys) ≡ image_extents ys = none_passes t f ys (λ z k. apart z k (t z) refl) in
    let here : (when (t y) f y).extents ≡ (f x).extents = passes (t y) y (ap t (sym q) ∙ p) (sym q) in
    let e : x.extents ≡ y.extents = ap (λ (i : ImageRow). i.extents) q in
    omega arith
  where
    apart : (z : ImageRow) → In z ys → (c : Bool) → t z ≡ c → t z ≡ false
    apart z k true e = absurd (d.0 (subst (λ v. In v (map (λ (i : ImageRow). image_uuid i.name) ys)) (ap (λ (i : ImageRow). image_uuid i.name) (only z (inr k) e ∙ q)) (In-map_at (λ (i : ImageRow). image_uuid i.name) ys z k)))
    apart z k false e = e

    passes : (c : Bool) (z : ImageRow) → c ≡ true → z ≡ x → (when c f z).extents ≡ (f x).extents
    passes true z e r = ap (λ (i : ImageRow). (f i).extents) r
    passes false z e r = cc
extents-change_one t f (y ∷ ys) x d (inr k) p only =
    let ih : image_extents (change t f ys) + x.extents ≡ image_extents ys + (f x).extents = extents-change_one t f ys x d.1 k p (λ z j q. only z (inr j) q) in
    let e : (when (t y) f y).extents ≡ y.extents = kept (t y) refl in
    omega arith
  where
    kept : (c : Bool) → t y ≡ c → (when c f y).extents ≡ y.extents
    kept true e = absurd (d.0 (subst (λ v. In v (map (λ (i : ImageRow). image_uuid i.name) ys)) (sym (ap (λ (i : ImageRow). image_uuid i.name) (only y (inl refl) e))) (In-map_at (λ (i : ImageRow). image_uuid i.name) ys x k)))
    kept false e = refl
