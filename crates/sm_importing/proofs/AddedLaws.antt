-- One image more, that reads through no other, and the record of its disk keep a shape well-formed.
use Rattle.std.proofs.Common.{◌≡◌, ◌⊎◌, inl, inr, ℕ, suc, ◌+◌, ◌^◌, ◌<◌, ◌≤◌, Bool, true, false, List, map, length, Option, Some, None, refl, sym, ap, ◌∙◌, subst, arith}
use Rattle.std.proofs.lemmas.Bool.{true≢false}
use Rattle.sm_base.specs.Names.{is_base, base_uuid}
use Rattle.sm_base.specs.declared.names.Name.{Name}
use Rattle.sm_base.specs.declared.operations.Mode.TheVariants.{Rw}
use Rattle.sm_machine.specs.Operations.{Op}
use Rattle.sm_machine.specs.Operations as op
use Rattle.common_laws.specs.Lists.{◌>>=◌, In, Distinct}
use Rattle.common_laws.proofs.Lists.{In-map, In-insert, In-insert_new, In-insert_old, Distinct-insert, length-insert_by}
use Rattle.sm_machine.specs.Shapes.{Attachment, DiskRecord, ImageRow, Shape, image_extents, image_limit, image_uuid, is_image, is_vhd, last_sequence, parent_of, thick_in, with_image}
use Rattle.sm_machine.specs.Steps.{with_record}
use Rattle.sm_machine.specs.WellFormed.{EndsWithin, HasImage, HasParent, HasRecord, IsChild, IsImageRow, IsOnlyChild, IsOperation, IsWellFormed, is_image_name, table_length}
use Rattle.sm_machine.proofs.Chains.{IsThere, ends_alike, find-insert_other, parent_of-in, parents_there}
use Rattle.sm_machine.proofs.Create.{base_form}
use Rattle.sm_machine.proofs.ImageNames.{images_sorted, other_image, records_sorted}
use Rattle.sm_machine.proofs.Numbers.{extents-with_image}

-- an image may be added, and the record of its disk: no image has its UUID, and there is room for it
pub record IsAdded (s : Shape) (new : ImageRow) (r : DiskRecord) : Type 0 where
  pub good : IsImageRow s new
  pub uuid : image_uuid new.name ≡ r.uuid
  pub shown : new.hidden ≡ false
  pub root : new.parent ≡ None
  pub not_base : is_base r.uuid ≡ false
  pub writable : r.read_only ≡ false
  pub no_image : (i : ImageRow) → In i s.images → image_uuid i.name ≡ r.uuid → ⊥
  pub few : length s.images + 1 ≤ image_limit
  pub room : s.others + (new.extents + image_extents s.images) ≤ s.extents

module _ (s : Shape) (w : IsWellFormed s) (new : ImageRow) (r : DiskRecord) (h : IsAdded s new r) (k : ℕ) (more : s.sequence ≤ k) (most : k ≤ last_sequence) where
  no_record : (q : DiskRecord) → In q s.records → q.uuid ≡ r.uuid → ⊥
  no_record q i e = let x : HasImage s q.uuid = w.disks q i in h.no_image x.0 x.1 (x.3 ∙ e)

  abbrev images' : List ImageRow
  images' = with_image new s.images

  abbrev s' : Shape
  s' = record s { sequence = k; records = with_record r s.records; images = with_image new s.images }

  apart : (x : ImageRow) → In x s.images → new.name ≡ x.name → ⊥
  apart x i e = h.no_image x i (ap image_uuid (sym e) ∙ h.uuid)

  in_images : (x : ImageRow) → In x images' → (x ≡ new) ⊎ In x s.images
  unfolding with_image
  in_images x i = In-insert _ new s.images x i

  old_image : (x : ImageRow) → In x s.images → In x images'
  unfolding with_image
  old_image x i = In-insert_old _ new s.images x i

  new_there : In new images'
  unfolding with_image
  new_there = In-insert_new _ new s.images

  in_records : (q : DiskRecord) → In q (with_record r s.records) → (q ≡ r) ⊎ In q s.records
  unfolding with_record
  in_records q i = In-insert _ r s.records q i

  old_record : (q : DiskRecord) → In q s.records → In q (with_record r s.records)
  unfolding with_record
  old_record q i = In-insert_old _ r s.records q i

  new_recorded : In r (with_record r s.records)
  unfolding with_record
  new_recorded = In-insert_new _ r s.records

  all_distinct : Distinct (map (λ (i : ImageRow). image_uuid i.name) images')
  unfolding with_image
  all_distinct = Distinct-insert (λ (i : ImageRow). image_uuid i.name) _ new s.images w.one_image (λ i.
      let x : (x : ImageRow) × In x s.images × (image_uuid new.name ≡ image_uuid x.name) = In-map (λ (y : ImageRow). image_uuid y.name) s.images _ i in
      h.no_image x.0 x.1 (sym x.2 ∙ h.uuid))

  records_distinct : Distinct (map (λ (q : DiskRecord). q.uuid) (with_record r s.records))
  unfolding with_record
  records_distinct = Distinct-insert (λ (q : DiskRecord). q.uuid) _ r s.records w.one_record (λ i.
      let x : (x : DiskRecord) × In x s.records × (r.uuid ≡ x.uuid) = In-map (λ (q : DiskRecord). q.uuid) s.records r.uuid i in no_record x.0 x.1 (sym x.2))

  images_good : (x : ImageRow) → In x images' → IsImageRow s x
  images_good x i = elim (in_images x i) [
    | inl e ↦ subst (λ (y : ImageRow). IsImageRow s y) (sym e) h.good
    | inr g ↦ w.images x g
  ]

  no_parent : (x : ImageRow) (n : Name) → x ≡ new → x.parent ≡ Some n → ⊥
  no_parent x n e q = let clash : None ≡ Some n = sym (ap (λ (y : ImageRow). y.parent) e ∙ h.root) ∙ q in cc

  lift_parent : (x : ImageRow) (n : Name) → HasParent s.images x n → HasParent images' x n
  lift_parent x n p = record { parent = p.parent; there = old_image p.parent p.there; is_named = p.is_named; is_hidden = p.is_hidden; not_larger = p.not_larger }

  parents_good : (x : ImageRow) (n : Name) → In x images' → x.parent ≡ Some n → HasParent images' x n
  parents_good x n i q = elim (in_images x i) [
    | inl e ↦ absurd (no_parent x n e q)
    | inr g ↦ lift_parent x n (w.parents x n g q)
  ]

  same_parent : (n : Name) → IsThere s.images n → parent_of n images' ≡ parent_of n s.images
  unfolding with_image
  same_parent n i = ap (λ (o : Option ImageRow). o >>= (λ x. x.parent)) (find-insert_other (is_image n) _ new s.images (other_image new.name n (λ e. apart i.0 i.1 (e ∙ sym i.2))))

  root_ends : (x : ImageRow) → x ≡ new → EndsWithin 30 (Some x.name) images'
  root_ends x e =
      let named : is_image_name new.name ≡ true = h.good.named in
      let none : parent_of new.name images' ≡ None = parent_of-in images' new all_distinct new_there named ∙ h.root in
      let ends : EndsWithin 29 (parent_of new.name images') images' = subst (λ (o : Option Name). EndsWithin 29 o images') (sym none) tt in
      subst (λ (y : ImageRow). EndsWithin 30 (Some y.name) images') (sym e) ends

  chains_good : (x : ImageRow) → In x images' → EndsWithin 30 (Some x.name) images'
  chains_good x i = elim (in_images x i) [
    | inl e ↦ root_ends x e
    | inr g ↦ ends_alike s.images images' (IsThere s.images) same_parent (parents_there s.images w.parents) 30 (Some x.name) (x, g, refl) (w.chains x g)
  ]

  bases_good : (x : ImageRow) (n : ℕ) → In x images' → n < 2 ^ 48 → image_uuid x.name ≡ base_uuid n → n < k
  bases_good x n i m e = elim (in_images x i) [
    | inl q ↦ absurd (not_new q)
    | inr g ↦ (let below : n < s.sequence = w.bases x n g m e in omega (arith, below, more))
  ]
    where
      not_new : x ≡ new → ⊥
      not_new q = true≢false (sym (ap is_base (sym h.uuid ∙ ap (λ (y : ImageRow). image_uuid y.name) (sym q) ∙ e) ∙ base_form n) ∙ h.not_base)

  lift_recorded : (v : List ℕ) → HasRecord s v → (q : DiskRecord) × In q (with_record r s.records) × (q.uuid ≡ v)
  lift_recorded v x = (x.0, old_record x.0 x.1, x.2)

  disks_good : (q : DiskRecord) → In q (with_record r s.records) → (i : ImageRow) × In i images' × (i.hidden ≡ false) × (image_uuid i.name ≡ q.uuid)
  disks_good q i = elim (in_records q i) [
    | inl e ↦ (new, new_there, h.shown, h.uuid ∙ sym (ap (λ (x : DiskRecord). x.uuid) e))
    | inr g ↦ (let f : HasImage s q.uuid = w.disks q g in (f.0, old_image f.0 f.1, f.2, f.3))
  ]

  visible_good : (x : ImageRow) → In x images' → x.hidden ≡ false → (q : DiskRecord) × In q (with_record r s.records) × (q.uuid ≡ image_uuid x.name)
  visible_good x i e = elim (in_images x i) [
    | inl q ↦ (r, new_recorded, sym (ap (λ (y : ImageRow). image_uuid y.name) q ∙ h.uuid))
    | inr g ↦ lift_recorded (image_uuid x.name) (w.visible x g e)
  ]

  writable_good : (a : Attachment) (q : DiskRecord) → In a s.attached → a.mode ≡ Rw → In q (with_record r s.records) → q.uuid ≡ a.disk → q.read_only ≡ false
  writable_good a q i m g e = elim (in_records q g) [
    | inl is ↦ ap (λ (x : DiskRecord). x.read_only) is ∙ h.writable
    | inr old ↦ w.attachments.writable a q i m old e
  ]

  thick_good : (a : Attachment) (x : ImageRow) → In a s.attached → a.mode ≡ Rw → In x images' → x.hidden ≡ false → image_uuid x.name ≡ a.disk → is_vhd x.name ≡ true → thick_in s x.size ≤ x.extents
  thick_good a x i m g hid e v = elim (in_images x g) [
    | inl q ↦ absurd (not_attached q)
    | inr old ↦ w.attachments.thick a x i m old hid e v
  ]
    where
      not_attached : x ≡ new → ⊥
      not_attached q = let y : HasRecord s a.disk = w.attachments.disks a i in
          no_record y.0 y.1 (y.2 ∙ (sym e ∙ (ap (λ (z : ImageRow). image_uuid z.name) q ∙ h.uuid)))

  link_good : (hidden : Bool) (v n : Name) → IsChild s hidden v n → IsChild s' hidden v n
  link_good hidden v n c = record { child = c.child; there = old_image c.child c.there; is_named = c.is_named; is_shown = c.is_shown; vhd = c.vhd; linked = c.linked }

  -- a parent's name is not the new one
  not_parent : (hidden : Bool) (v n : Name) → IsChild s hidden v n → (q : ImageRow) → q ≡ new → q.name ≡ n → ⊥
  not_parent hidden v n c q e same =
      let g : HasParent s.images c.child n = w.parents c.child n c.there c.linked in
      apart g.parent g.there (sym (ap (λ (y : ImageRow). y.name) e) ∙ (same ∙ sym g.is_named))

  only_good : (hidden : Bool) (v n : Name) → IsOnlyChild s hidden v n → IsOnlyChild s' hidden v n
  unfolding link_good
  only_good hidden v n c = record {
    link = link_good hidden v n c.link;
    only = λ i g e. elim (in_images i g) [ inl q ↦ absurd (no_parent i n q e) | inr old ↦ c.only i old e ];
    same_size = λ q g e. elim (in_images q g) [ inl is ↦ absurd (not_parent hidden v n c.link q is e) | inr old ↦ c.same_size q old e ];
  }

  operation_good : (o : Op) → IsOperation s o → IsOperation s' o
  unfolding only_good link_good
  operation_good op.Idle c = tt
  operation_good (op.Copy v n cursor) c = only_good true v n c
  operation_good (op.Relink v n) c = link_good true v n c
  operation_good (op.Leaf l n cursor) c = (only_good false l n c.0, c.1, c.2)
  operation_good (op.Live l n cursor dirty) c = record {
    only = only_good false l n c.only;
    parent_vhd = c.parent_vhd;
    attached = c.attached;
    thick = λ rw q g e. elim (in_images q g) [ inl is ↦ absurd (not_parent false l n c.only.link q is e) | inr old ↦ c.thick rw q old e ];
    within = c.within;
    blocks = c.blocks;
  }

  room_good : s.others + image_extents images' ≤ s.extents
  room_good = omega (arith, extents-with_image new s.images, h.room)

  few_good : length images' ≤ image_limit
  unfolding with_image
  few_good = let long : length images' ≡ suc (length s.images) = length-insert_by _ new s.images in omega (arith, long, h.few)

  pub added_keeps : IsWellFormed s'
  unfolding table_length
  added_keeps = record {
    geometry = w.geometry;
    blocks = w.blocks;
    sequence = most;
    room = room_good;
    few = few_good;
    images_in_order = images_sorted new s.images w.images_in_order;
    one_image = all_distinct;
    images = λ x i. let g : IsImageRow s x = images_good x i in record { named = g.named; whole = g.whole; volume = g.volume; table = g.table; raw = g.raw };
    parents = parents_good;
    chains = chains_good;
    bases = bases_good;
    records_in_order = records_sorted r s.records w.records_in_order;
    one_record = records_distinct;
    disks = disks_good;
    visible = visible_good;
    attachments = record { once = w.attachments.once; disks = λ a i. lift_recorded a.disk (w.attachments.disks a i); writable = writable_good; thick = thick_good };
    operation = operation_good s.op w.operation;
  }
