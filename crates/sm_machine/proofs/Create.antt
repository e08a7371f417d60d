-- A new disk keeps a shape well-formed.
use Rattle.std.proofs.Common.{◌≡◌, ℕ, suc, zero, ◌+◌, ◌-◌, ◌*◌, ◌^◌, ◌<◌, ◌≤◌, Bool, true, false, ◌&&◌, ◌||◌, List, map, length, Option, Some, None, refl, sym, ap, ◌∙◌, subst, inl, inr, arith}
use Rattle.std.specs.Prelude.{is_some, ◌==◌, ◌⊎◌}
use Rattle.std.specs.List.{list_any}
use Rattle.std.specs.Str.{bytes_eq}
use Rattle.std.proofs.Math.Nat.{zero-mul, mul_assoc, le_of_mul-le-mul_right, le-mul_of_pos_right}
use Rattle.std.proofs.lemmas.Bool.{ltb-false, or_parts}
use Rattle.std.proofs.lemmas.List.{length-replicate}
use Rattle.sm_base.specs.Names.{is_base, base_uuid}
use Rattle.sm_base.specs.Numbers.{div_up}
use Rattle.sm_base.specs.declared.names.Name.{Name}
use Rattle.sm_base.specs.declared.operations.Mode.TheVariants.{Rw}
use Rattle.sm_machine.specs.Operations.{Op}
use Rattle.sm_machine.specs.Operations as op
use Rattle.sm_machine.specs.declared.commands.Command.TheVariants.{Create}
use Rattle.common_laws.specs.Lists.{◌>>=◌, In, Distinct}
use Rattle.sm_machine.specs.Disks.{sector_bytes}
use Rattle.sm_machine.specs.Shapes.{Shape, ImageRow, DiskRecord, Attachment, is_image, image_uuid, is_vhd, parent_of, disk_record, with_image, image_extents, attached_as, free, risen, thick_in}
use Rattle.sm_machine.specs.Refusals.{new_uuid, is_reserved, nil, is_taken, is_bad_size, is_bad, is_too_many, images_needed, lacks_space, need, new_extents, rounded}
use Rattle.sm_machine.specs.Steps.{with_record, new_image, shape_after, shape_next}
use Rattle.sm_machine.specs.Commits.{is_given_up, gives_up, commits, own_commits}
use Rattle.sm_machine.specs.WellFormed.{IsImageRow, HasParent, HasImage, HasRecord, IsChild, IsOnlyChild, IsOperation, IsSize, IsWellFormed, EndsWithin, is_image_name, table_length}
use Rattle.common_laws.proofs.Lists.{In-map, In-insert, In-insert_new, In-insert_old, Distinct-insert, length-insert_by}
use Rattle.sm_machine.proofs.ImageNames.{images_sorted, records_sorted, other_image}
use Rattle.sm_machine.proofs.Numbers.{extents-with_image, risen-up, risen-last, div_up-positive, thin-positive}
use Rattle.sm_machine.proofs.Passed.{IsPassed}
use Rattle.sm_machine.proofs.Fresh
use Rattle.sm_machine.proofs.Chains.{find-insert_other, parent_of-in, ends_alike, parents_there, IsThere}

-- ---- the new image

pub new_name : (s : Shape) (u : List ℕ) (bytes : ℕ) (raw : Bool) → image_uuid (new_image s u bytes raw).name ≡ u
unfolding image_uuid
new_name s u bytes true = refl
new_name s u bytes false = refl

new_parent : (s : Shape) (u : List ℕ) (bytes : ℕ) (raw : Bool) → (new_image s u bytes raw).parent ≡ None
new_parent s u bytes true = refl
new_parent s u bytes false = refl

new_shown : (s : Shape) (u : List ℕ) (bytes : ℕ) (raw : Bool) → (new_image s u bytes raw).hidden ≡ false
new_shown s u bytes true = refl
new_shown s u bytes false = refl

new_taken : (s : Shape) (u : List ℕ) (bytes : ℕ) (raw : Bool) → (new_image s u bytes raw).extents ≡ new_extents s raw bytes
new_taken s u bytes true = refl
new_taken s u bytes false = refl

-- ---- a base's UUID has the form of bases

pub base_form : (n : ℕ) → is_base (base_uuid n) ≡ true
unfolding is_base base_uuid
base_form n = refl

-- ---- sizes

positive_of : (n : ℕ) → (n == 0) ≡ false → 0 < n
positive_of zero e = cc
positive_of (suc n) e = omega arith

-- a number of units of k blocks each is a size
size_of_units : (s : Shape) (n k : ℕ) → n * k * s.block ≤ s.entries * s.block → 0 < n → 0 < k → 0 < s.block → IsSize s (n * (k * s.block))
size_of_units s n k h p q b = (n * k, sym (mul_assoc n k s.block), (let r : n ≤ n * k = le-mul_of_pos_right n q in omega arith), le_of_mul-le-mul_right h b)

positive_factor : (e m b : ℕ) → e ≡ m * b → 0 < e → 0 < m
positive_factor e zero b q h = let r : e ≡ 0 = q ∙ zero-mul b in omega arith
positive_factor e (suc m) b q h = omega arith

module _ (s : Shape) (w : IsWellFormed s) (bytes : ℕ) where
  block_positive : 0 < s.block
  block_positive = let g : 8 ≤ s.block = w.geometry.block_least in omega arith

  extent_positive : 0 < s.extent
  extent_positive = let g : 32 ≤ s.extent = w.geometry.extent_least in omega arith

  units_positive : 0 < bytes → 0 < div_up bytes (sector_bytes * s.extent)
  units_positive h = let e : 0 < s.extent = extent_positive in div_up-positive bytes (sector_bytes * s.extent) h (omega arith)

  pub new_size : (raw : Bool) → is_bad s raw bytes ≡ false → IsSize s (rounded s raw bytes)
  unfolding rounded
  new_size true e =
      let t = or_parts _ _ e in
      let z = or_parts (bytes == 0) _ t.0 in
      let m : ℕ = w.blocks.0 in
      let q : s.extent ≡ m * s.block = w.blocks.1 in
      let d : ℕ = div_up bytes (sector_bytes * s.extent) in
      let some : 0 < bytes = positive_of bytes z.0 in
      let most : d * s.extent ≤ s.entries * s.block = ltb-false _ _ z.1 in
      let most' : d * m * s.block ≤ s.entries * s.block = subst (λ (x : ℕ). x ≤ s.entries * s.block) (ap (λ (x : ℕ). d * x) q ∙ sym (mul_assoc d m s.block)) most in
      let r : IsSize s (d * (m * s.block)) = size_of_units s d m most' (units_positive some) (positive_factor s.extent m s.block q extent_positive) block_positive in
      subst (λ (x : ℕ). IsSize s (d * x)) (sym q) r
  new_size false e =
      let t = or_parts _ _ e in
      let z = or_parts (bytes == 0) _ t.0 in
      let d : ℕ = div_up bytes (sector_bytes * s.block) in
      let some : 0 < bytes = positive_of bytes z.0 in
      let b : 0 < s.block = block_positive in
      let most : d * s.block ≤ s.entries * s.block = ltb-false _ _ z.1 in
      (d, refl, div_up-positive bytes (sector_bytes * s.block) some (omega arith), le_of_mul-le-mul_right most b)

  new_is_image : (u : List ℕ) (raw : Bool) → is_bad s raw bytes ≡ false → IsImageRow s (new_image s u bytes raw)
  unfolding is_image_name table_length is_vhd rounded
  new_is_image u true e = record {
    named = refl;
    whole = new_size true e;
    volume = units_positive (positive_of bytes ((or_parts (bytes == 0) _ ((or_parts _ _ e).0)).0));
    table = refl;
    raw = λ h. (refl, refl);
  }
  new_is_image u false e = record {
    named = refl;
    whole = new_size false e;
    volume = thin-positive s.extent s.block s.entries 0 extent_positive;
    table = length-replicate s.entries None;
    raw = λ h. cc;
  }

-- ---- the shape with the new image

module _ (s : Shape) (w : IsWellFormed s) (u : List ℕ) (bytes : ℕ) (raw : Bool) (label : List ℕ) (p : IsPassed s (Create u bytes raw label)) where
  abbrev new : ImageRow
  new = new_image s u bytes raw

  not_taken : is_some (disk_record u s) || list_any (λ (i : ImageRow). i.hidden && bytes_eq (image_uuid i.name) u) s.images ≡ false
  unfolding is_taken new_uuid
  not_taken = p.taken

  no_record : (r : DiskRecord) → In r s.records → r.uuid ≡ u → ⊥
  no_record = Fresh.no_record s w u not_taken

  no_image : (i : ImageRow) → In i s.images → image_uuid i.name ≡ u → ⊥
  no_image = Fresh.no_image s w u not_taken

  abbrev images' : List ImageRow
  images' = with_image new s.images

  abbrev record' : DiskRecord
  record' = record { uuid = u; label = label; origin = None; read_only = false }

  abbrev s' : Shape
  s' = shape_next s (Create u bytes raw label)

  apart : (x : ImageRow) → In x s.images → new.name ≡ x.name → ⊥
  apart x h e = no_image x h (ap image_uuid (sym e) ∙ new_name s u bytes raw)

  in_images : (x : ImageRow) → In x images' → (x ≡ new) ⊎ In x s.images
  unfolding with_image
  in_images x h = In-insert _ new s.images x h

  old_image : (x : ImageRow) → In x s.images → In x images'
  unfolding with_image
  old_image x h = In-insert_old _ new s.images x h

  new_there : In new images'
  unfolding with_image
  new_there = In-insert_new _ new s.images

  in_records : (r : DiskRecord) → In r (with_record record' s.records) → (r ≡ record') ⊎ In r s.records
  unfolding with_record
  in_records r h = In-insert _ record' s.records r h

  old_record : (r : DiskRecord) → In r s.records → In r (with_record record' s.records)
  unfolding with_record
  old_record r h = In-insert_old _ record' s.records r h

  new_recorded : In record' (with_record record' s.records)
  unfolding with_record
  new_recorded = In-insert_new _ record' s.records

  not_bad : is_bad s raw bytes ≡ false
  unfolding is_bad_size
  not_bad = p.bad_size

  not_many : length s.images + 1 ≤ 500
  unfolding is_too_many new_uuid images_needed
  not_many = ltb-false 500 (length s.images + 1) p.too_many

  has_space : new_extents s raw bytes ≤ free s
  unfolding lacks_space need
  has_space = ltb-false (free s) (new_extents s raw bytes) p.space

  not_base : is_base u ≡ false
  unfolding is_reserved new_uuid
  not_base = (or_parts (bytes_eq u nil) (is_base u) p.reserved).1

  all_distinct : Distinct (map (λ (i : ImageRow). image_uuid i.name) images')
  unfolding with_image
  all_distinct = Distinct-insert (λ (i : ImageRow). image_uuid i.name) _ new s.images w.one_image (λ h.
      let r : (x : ImageRow) × In x s.images × (image_uuid new.name ≡ image_uuid x.name) = In-map (λ (i : ImageRow). image_uuid i.name) s.images _ h in
      apart_uuid r.0 r.1 r.2)
    where
      apart_uuid : (x : ImageRow) → In x s.images → image_uuid new.name ≡ image_uuid x.name → ⊥
      apart_uuid x h e = no_image x h (sym e ∙ new_name s u bytes raw)

  records_distinct : Distinct (map (λ (r : DiskRecord). r.uuid) (with_record record' s.records))
  unfolding with_record
  records_distinct = Distinct-insert (λ (r : DiskRecord). r.uuid) _ record' s.records w.one_record (λ h.
      let r : (x : DiskRecord) × In x s.records × (u ≡ x.uuid) = In-map (λ (q : DiskRecord). q.uuid) s.records u h in no_record r.0 r.1 (sym r.2))

  images_good : (x : ImageRow) → In x images' → IsImageRow s x
  images_good x h = elim (in_images x h) [
    | inl e ↦ subst (λ (y : ImageRow). IsImageRow s y) (sym e) (new_is_image s w bytes u raw not_bad)
    | inr g ↦ w.images x g
  ]

  lift_parent : (x : ImageRow) (n : Name) → HasParent s.images x n → HasParent images' x n
  lift_parent x n h = record { parent = h.parent; there = old_image h.parent h.there; is_named = h.is_named; is_hidden = h.is_hidden; not_larger = h.not_larger }

  no_parent : (x : ImageRow) (n : Name) → x ≡ new → x.parent ≡ Some n → ⊥
  no_parent x n e q = let r : None ≡ Some n = sym (ap (λ (y : ImageRow). y.parent) e ∙ new_parent s u bytes raw) ∙ q in cc

  parents_good : (x : ImageRow) (n : Name) → In x images' → x.parent ≡ Some n → HasParent images' x n
  parents_good x n h q = elim (in_images x h) [
    | inl e ↦ absurd (no_parent x n e q)
    | inr g ↦ lift_parent x n (w.parents x n g q)
  ]

  same_parent : (n : Name) → IsThere s.images n → parent_of n images' ≡ parent_of n s.images
  unfolding with_image
  same_parent n k = ap (λ (o : Option ImageRow). o >>= (λ i. i.parent)) (find-insert_other (is_image n) _ new s.images (other_image new.name n (λ e. apart k.0 k.1 (e ∙ sym k.2))))

  root_ends : (x : ImageRow) → x ≡ new → EndsWithin 30 (Some x.name) images'
  root_ends x e =
      let named : is_image_name new.name ≡ true = (new_is_image s w bytes u raw not_bad).named in
      let r : parent_of new.name images' ≡ None = parent_of-in images' new all_distinct new_there named ∙ new_parent s u bytes raw in
      let g : EndsWithin 29 (parent_of new.name images') images' = subst (λ (o : Option Name). EndsWithin 29 o images') (sym r) tt in
      subst (λ (y : ImageRow). EndsWithin 30 (Some y.name) images') (sym e) g

  chains_good : (x : ImageRow) → In x images' → EndsWithin 30 (Some x.name) images'
  chains_good x h = elim (in_images x h) [
    | inl e ↦ root_ends x e
    | inr g ↦ ends_alike s.images images' (IsThere s.images) same_parent (parents_there s.images w.parents) 30 (Some x.name) (x, g, refl) (w.chains x g)
  ]

  bases_good : (k : ℕ) (x : ImageRow) (n : ℕ) → In x images' → n < 2 ^ 48 → image_uuid x.name ≡ base_uuid n → n < risen s.sequence k
  bases_good k x n h m e = elim (in_images x h) [
    | inl q ↦ absurd (not_new q)
    | inr g ↦ (let a : n < s.sequence = w.bases x n g m e in let b : s.sequence ≤ risen s.sequence k = risen-up s.sequence k w.sequence in omega arith)
  ]
    where
      not_new : x ≡ new → ⊥
      not_new q =
          let v : u ≡ base_uuid n = sym (new_name s u bytes raw) ∙ (ap (λ (y : ImageRow). image_uuid y.name) (sym q) ∙ e) in
          let t : is_base u ≡ true = ap is_base v ∙ base_form n in
          let f : is_base u ≡ false = not_base in
          cc

  lift_recorded : (v : List ℕ) → HasRecord s v → (r : DiskRecord) × In r (with_record record' s.records) × (r.uuid ≡ v)
  lift_recorded v h = (h.0, old_record h.0 h.1, h.2)

  disks_good : (r : DiskRecord) → In r (with_record record' s.records) → (i : ImageRow) × In i images' × (i.hidden ≡ false) × (image_uuid i.name ≡ r.uuid)
  disks_good r h = elim (in_records r h) [
    | inl e ↦ (new, new_there, new_shown s u bytes raw, new_name s u bytes raw ∙ sym (ap (λ (q : DiskRecord). q.uuid) e))
    | inr g ↦ (let f : HasImage s r.uuid = w.disks r g in (f.0, old_image f.0 f.1, f.2, f.3))
  ]

  visible_good : (x : ImageRow) → In x images' → x.hidden ≡ false → (r : DiskRecord) × In r (with_record record' s.records) × (r.uuid ≡ image_uuid x.name)
  visible_good x h e = elim (in_images x h) [
    | inl q ↦ (record', new_recorded, sym (ap (λ (y : ImageRow). image_uuid y.name) q ∙ new_name s u bytes raw))
    | inr g ↦ lift_recorded (image_uuid x.name) (w.visible x g e)
  ]

  writable_good : (a : Attachment) (r : DiskRecord) → In a s.attached → a.mode ≡ Rw → In r (with_record record' s.records) → r.uuid ≡ a.disk → r.read_only ≡ false
  writable_good a r h m g e = elim (in_records r g) [
    | inl q ↦ ap (λ (x : DiskRecord). x.read_only) q
    | inr k ↦ w.attachments.writable a r h m k e
  ]

  thick_good : (a : Attachment) (x : ImageRow) → In a s.attached → a.mode ≡ Rw → In x images' → x.hidden ≡ false → image_uuid x.name ≡ a.disk → is_vhd x.name ≡ true → thick_in s x.size ≤ x.extents
  thick_good a x h m g hid e v = elim (in_images x g) [
    | inl q ↦ absurd (not_attached q)
    | inr k ↦ w.attachments.thick a x h m k hid e v
  ]
    where
      not_attached : x ≡ new → ⊥
      not_attached q = let r : HasRecord s a.disk = w.attachments.disks a h in
          no_record r.0 r.1 (r.2 ∙ (sym e ∙ (ap (λ (y : ImageRow). image_uuid y.name) q ∙ new_name s u bytes raw)))

  link_good : (hidden : Bool) (v n : Name) → IsChild s hidden v n → IsChild s' hidden v n
  unfolding shape_next is_given_up gives_up shape_after
  link_good hidden v n h = record { child = h.child; there = old_image h.child h.there; is_named = h.is_named; is_shown = h.is_shown; vhd = h.vhd; linked = h.linked }

  -- a parent's name is not the new one
  not_parent : (hidden : Bool) (v n : Name) → IsChild s hidden v n → (q : ImageRow) → q ≡ new → q.name ≡ n → ⊥
  not_parent hidden v n h q e k =
      let g : HasParent s.images h.child n = w.parents h.child n h.there h.linked in
      apart g.parent g.there (sym (ap (λ (y : ImageRow). y.name) e) ∙ (k ∙ sym g.is_named))

  only_good : (hidden : Bool) (v n : Name) → IsOnlyChild s hidden v n → IsOnlyChild s' hidden v n
  unfolding shape_next is_given_up gives_up shape_after link_good
  only_good hidden v n h = record {
    link = link_good hidden v n h.link;
    only = λ i g e. elim (in_images i g) [ inl q ↦ absurd (no_parent i n q e) | inr k ↦ h.only i k e ];
    same_size = λ q g e. elim (in_images q g) [ inl k ↦ absurd (not_parent hidden v n h.link q k e) | inr k ↦ h.same_size q k e ];
  }

  operation_good : (o : Op) → IsOperation s o → IsOperation s' o
  unfolding shape_next is_given_up gives_up shape_after link_good only_good
  operation_good op.Idle h = tt
  operation_good (op.Copy v n cursor) h = only_good true v n h
  operation_good (op.Relink v n) h = link_good true v n h
  operation_good (op.Live l n cursor dirty) h = record {
    only = only_good false l n h.only;
    parent_vhd = h.parent_vhd;
    attached = h.attached;
    thick = λ rw q g k. elim (in_images q g) [ inl e ↦ absurd (not_parent false l n h.only.link q e k) | inr j ↦ h.thick rw q j k ];
    within = h.within;
    blocks = h.blocks;
  }
  operation_good (op.Leaf l n cursor) h = (only_good false l n h.0, h.1, attached_same l h.2)
    where
      attached_same : (l : Name) → attached_as (image_uuid l) s ≡ None → attached_as (image_uuid l) s' ≡ None
      attached_same l e = e

  room_good : s.others + image_extents images' ≤ s.extents
  unfolding free
  room_good =
      let e : image_extents images' ≡ new.extents + image_extents s.images = extents-with_image new s.images in
      let n : new.extents ≡ new_extents s raw bytes = new_taken s u bytes raw in
      let h : new_extents s raw bytes ≤ s.extents - (s.others + image_extents s.images) = has_space in
      let r : s.others + image_extents s.images ≤ s.extents = w.room in
      omega arith

  few_good : length images' ≤ 500
  unfolding with_image
  few_good = let e : length images' ≡ suc (length s.images) = length-insert_by _ new s.images in let h : length s.images + 1 ≤ 500 = not_many in omega arith

  -- a new disk keeps the shape well-formed
  pub created : IsWellFormed (shape_next s (Create u bytes raw label))
  unfolding shape_next is_given_up gives_up shape_after commits own_commits table_length
  created = record {
    geometry = w.geometry;
    blocks = w.blocks;
    sequence = risen-last s.sequence 2;
    room = room_good;
    few = few_good;
    images_in_order = images_sorted new s.images w.images_in_order;
    one_image = all_distinct;
    images = images_same;
    parents = parents_good;
    chains = chains_good;
    bases = bases_good 2;
    records_in_order = records_sorted record' s.records w.records_in_order;
    one_record = records_distinct;
    disks = disks_good;
    visible = visible_good;
    attachments = record { once = w.attachments.once; disks = λ a h. lift_recorded a.disk (w.attachments.disks a h); writable = writable_good; thick = thick_good };
    operation = operation_good s.op w.operation;
  }
    where
      images_same : (x : ImageRow) → In x images' → IsImageRow s' x
      images_same x h = let g : IsImageRow s x = images_good x h in record { named = g.named; whole = g.whole; volume = g.volume; table = g.table; raw = g.raw }
