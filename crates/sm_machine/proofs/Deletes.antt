-- An image that is nobody's parent may go: a shape stays well-formed.
use Rattle.std.proofs.Common.{◌≡◌, ℕ, suc, ◌+◌, ◌≤◌, Bool, true, false, cond, not, ◌&&◌, List, [], ◌∷◌, map, length, Some, None, refl, sym, ap, ◌∙◌, subst, arith}
use Rattle.std.specs.List.{filter}
use Rattle.std.specs.Str.{bytes_eq}
use Rattle.std.proofs.lemmas.Bool.{and_parts, eqb-true}
use Rattle.common_laws.proofs.Bytes.{bytes_eq-apart, bytes_eq-refl}
use Rattle.common_laws.proofs.Options.{none_of_some}
use Rattle.sm_base.specs.declared.names.Name.{Name}
use Rattle.sm_machine.specs.Operations.{Op}
use Rattle.sm_machine.specs.Operations as op
use Rattle.sm_machine.specs.declared.commands.Command.TheVariants.{Delete}
use Rattle.common_laws.specs.Lists.{In, Distinct, Sorted}
use Rattle.sm_machine.specs.Shapes.{Shape, ImageRow, DiskRecord, Attachment, same_image, is_image, image_uuid, is_image_of, is_parent, children, parent_of, attached_as, image_extents, without_image}
use Rattle.sm_machine.specs.Refusals.{is_in_use}
use Rattle.sm_machine.specs.Collector.{is_garbage, is_childless}
use Rattle.sm_machine.specs.Commits.{folds}
use Rattle.sm_machine.specs.Steps.{is_record, delete_shape}
use Rattle.sm_machine.specs.WellFormed.{IsWellFormed, IsImageRow, HasParent, HasImage, HasRecord, IsChild, IsOnlyChild, IsOperation, is_image_name, table_length, uuid_le}
use Rattle.common_laws.proofs.Lists.{In-filter, filter-In, Distinct-key, Distinct-filter, Sorted-filter}
use Rattle.sm_machine.proofs.Changes.{filter_le}
use Rattle.sm_machine.proofs.ImageNames.{same_image-sound, same_image-refl}
use Rattle.sm_machine.proofs.Chains.{parent_of-in, ends_alike, parents_there, IsThere}
use Rattle.sm_machine.proofs.Passed.{IsPassed}
use Rattle.sm_machine.proofs.Guests.{mode_none}
use Rattle.sm_machine.proofs.Resizes.{not_its_leaf, hidden_is_no_disk}

pub extents-filter : (t : ImageRow → Bool) (xs : List ImageRow) → image_extents (filter t xs) ≤ image_extents xs
unfolding image_extents
extents-filter t [] = omega arith
extents-filter t (x ∷ xs) = by_test (t x) (extents-filter t xs)
  where
    by_test : (b : Bool) → image_extents (filter t xs) ≤ image_extents xs → image_extents (cond b (x ∷ filter t xs) (filter t xs)) ≤ x.extents + image_extents xs
    by_test true h = omega arith
    by_test false h = omega arith

module _ (s : Shape) (w : IsWellFormed s) (t : ImageRow → Bool) (parents_stay : (i q : ImageRow) → In i s.images → In q s.images → q.hidden ≡ true → i.parent ≡ Some q.name → t q ≡ true) where
  abbrev pub images_left : List ImageRow
  images_left = filter t s.images

  was_there : (i : ImageRow) → In i images_left → In i s.images
  was_there i h = (In-filter t s.images i h).0

  distinct_left : Distinct (map (λ (i : ImageRow). image_uuid i.name) images_left)
  distinct_left = Distinct-filter (λ (i : ImageRow). image_uuid i.name) t s.images w.one_image

  parents_left : (i : ImageRow) (n : Name) → In i images_left → i.parent ≡ Some n → HasParent images_left i n
  parents_left i n h e =
      let k : HasParent s.images i n = w.parents i n (was_there i h) e in
      record {
        parent = k.parent;
        there = filter-In t s.images k.parent k.there (parents_stay i k.parent (was_there i h) k.there k.is_hidden (e ∙ ap Some (sym k.is_named)));
        is_named = k.is_named;
        is_hidden = k.is_hidden;
        not_larger = k.not_larger;
      }

  same_parent : (n : Name) → IsThere images_left n → parent_of n images_left ≡ parent_of n s.images
  same_parent n k =
      let named : is_image_name k.0.name ≡ true = (w.images k.0 (was_there k.0 k.1)).named in
      let a : parent_of k.0.name images_left ≡ k.0.parent = parent_of-in images_left k.0 distinct_left k.1 named in
      let b : parent_of k.0.name s.images ≡ k.0.parent = parent_of-in s.images k.0 w.one_image (was_there k.0 k.1) named in
      subst (λ (m : Name). parent_of m images_left ≡ parent_of m s.images) k.2 (a ∙ sym b)

  module _ (records : List DiskRecord) (o : Op) where
    abbrev pub less : Shape
    less = record s { records = records; images = images_left; op = o }

    image_left : (i : ImageRow) → IsImageRow s i → IsImageRow less i
    unfolding table_length
    image_left i h = record { named = h.named; whole = h.whole; volume = h.volume; table = h.table; raw = h.raw }

    pub keeps_left : Sorted uuid_le (map (λ r. r.uuid) records) → Distinct (map (λ r. r.uuid) records)
        → ((r : DiskRecord) → In r records → HasImage less r.uuid) → ((i : ImageRow) → In i images_left → i.hidden ≡ false → HasRecord less (image_uuid i.name))
        → ((a : Attachment) → In a s.attached → HasRecord less a.disk) → ((r : DiskRecord) → In r records → In r s.records)
        → IsOperation less o → IsWellFormed less
    keeps_left order once disks visible attached_disks old operation = record {
      geometry = w.geometry;
      blocks = w.blocks;
      sequence = w.sequence;
      room = (let h : image_extents images_left ≤ image_extents s.images = extents-filter t s.images in let r : s.others + image_extents s.images ≤ s.extents = w.room in omega arith);
      few = (let h : length images_left ≤ length s.images = filter_le t s.images in let r : length s.images ≤ 500 = w.few in omega arith);
      images_in_order = Sorted-filter (λ (i : ImageRow). i.name) _ t s.images w.images_in_order;
      one_image = distinct_left;
      images = λ i h. image_left i (w.images i (was_there i h));
      parents = parents_left;
      chains = λ i h. ends_alike s.images images_left (IsThere images_left) same_parent (λ n p k e. parents_there images_left parents_left n p k (same_parent n k ∙ e)) 30 (Some i.name) (i, h, refl) (w.chains i (was_there i h));
      bases = λ i n h l e. w.bases i n (was_there i h) l e;
      records_in_order = order;
      one_record = once;
      disks = disks;
      visible = visible;
      attachments = record {
        once = w.attachments.once;
        disks = attached_disks;
        writable = λ a r h m k e. w.attachments.writable a r h m (old r k) e;
        thick = λ a i h m k hid e v. w.attachments.thick a i h m (was_there i k) hid e v;
      };
      operation = operation;
    }

    link_left : (hidden : Bool) (v p : Name) → (h : IsChild s hidden v p) → t h.child ≡ true → IsChild less hidden v p
    link_left hidden v p h e = record { child = h.child; there = filter-In t s.images h.child h.there e; is_named = h.is_named; is_shown = h.is_shown; vhd = h.vhd; linked = h.linked }

    only_left : (hidden : Bool) (v p : Name) → (h : IsOnlyChild s hidden v p) → t h.link.child ≡ true → IsOnlyChild less hidden v p
    unfolding link_left
    only_left hidden v p h e = record { link = link_left hidden v p h.link e; only = λ i k q. h.only i (was_there i k) q; same_size = λ q k n. h.same_size q (was_there q k) n }

-- ---- a deleted disk

not_record : (r : DiskRecord) (u : List ℕ) → (r.uuid ≡ u → ⊥) → not (is_record u r) ≡ true
not_record r u h = ap not (bytes_eq-apart r.uuid u h)

module _ (s : Shape) (w : IsWellFormed s) (u : List ℕ) (p : IsPassed s (Delete u)) where
  abbrev stays : ImageRow → Bool
  stays i = not (is_image_of u i)

  abbrev record_stays : DiskRecord → Bool
  record_stays r = not (is_record u r)

  parents_stay' : (i q : ImageRow) → In i s.images → In q s.images → q.hidden ≡ true → i.parent ≡ Some q.name → stays q ≡ true
  parents_stay' i q h k hid e = ap not (hidden_is_no_disk u q hid)

  not_in_use : attached_as u s ≡ None
  unfolding is_in_use
  not_in_use = none_of_some (attached_as u s) p.in_use

  other_stays : (i : ImageRow) → (image_uuid i.name ≡ u → ⊥) → stays i ≡ true
  other_stays i h = ap not (apart (not i.hidden) (bytes_eq (image_uuid i.name) u) (bytes_eq-apart (image_uuid i.name) u h))
    where
      apart : (a b : Bool) → b ≡ false → a && b ≡ false
      apart true b e = e
      apart false b e = refl

  -- a visible image that stays is another disk's
  is_other : (i : ImageRow) → stays i ≡ true → i.hidden ≡ false → image_uuid i.name ≡ u → ⊥
  is_other i e hid q = let t : is_image_of u i ≡ true = both (not i.hidden) (bytes_eq (image_uuid i.name) u) (ap not hid) (subst (λ (v : List ℕ). bytes_eq v u ≡ true) (sym q) (bytes_eq-refl u)) in
      let f : not (is_image_of u i) ≡ false = ap not t in cc
    where
      both : (a b : Bool) → a ≡ true → b ≡ true → a && b ≡ true
      both true b x y = y
      both false b x y = cc

  record_is_other : (r : DiskRecord) → record_stays r ≡ true → r.uuid ≡ u → ⊥
  record_is_other r e q = let t : is_record u r ≡ true = subst (λ (v : List ℕ). bytes_eq v u ≡ true) (sym q) (bytes_eq-refl u) in let f : not (is_record u r) ≡ false = ap not t in cc

  abbrev left_records : List DiskRecord
  left_records = filter record_stays s.records

  kept_record : (v : List ℕ) → (v ≡ u → ⊥) → HasRecord s v → (r : DiskRecord) × In r left_records × (r.uuid ≡ v)
  kept_record v h r = (r.0, filter-In record_stays s.records r.0 r.1 (not_record r.0 u (λ e. h (sym r.2 ∙ e))), r.2)

  abbrev pub deleted : Op → Shape
  deleted o = record s { records = left_records; images = filter stays s.images; op = o }

  pub delete_keeps : (o : Op) → IsOperation (deleted o) o → IsWellFormed (record (delete_shape s u) { op = o })
  delete_keeps o operation = keeps_left s w stays parents_stay' left_records o
      (Sorted-filter (λ (r : DiskRecord). r.uuid) _ record_stays s.records w.records_in_order)
      (Distinct-filter (λ (r : DiskRecord). r.uuid) record_stays s.records w.one_record)
      (λ r h. (let f : In r s.records × (record_stays r ≡ true) = In-filter record_stays s.records r h in
      let k : HasImage s r.uuid = w.disks r f.0 in
      (k.0, filter-In stays s.images k.0 k.1 (other_stays k.0 (λ e. record_is_other r f.1 (sym k.3 ∙ e))), k.2, k.3)))
      (λ i h hid. (let f : In i s.images × (stays i ≡ true) = In-filter stays s.images i h in kept_record (image_uuid i.name) (λ e. is_other i f.1 hid e) (w.visible i f.0 hid)))
      (λ a h. kept_record a.disk (λ e. mode_none u s.attached not_in_use a h e) (w.attachments.disks a h))
      (λ r h. (In-filter record_stays s.records r h).0)
      operation

  pub delete_operation : (o : Op) → folds o u ≡ false → IsOperation s o → IsOperation (deleted o) o
  unfolding folds link_left only_left
  delete_operation op.Idle e h = tt
  delete_operation (op.Copy v n cursor) e h = only_left s w stays parents_stay' left_records (op.Copy v n cursor) true v n h (ap not (hidden_is_no_disk u h.link.child h.link.is_shown))
  delete_operation (op.Relink v n) e h = link_left s w stays parents_stay' left_records (op.Relink v n) true v n h (ap not (hidden_is_no_disk u h.child h.is_shown))
  delete_operation (op.Live l n cursor dirty) e h = record {
    only = only_left s w stays parents_stay' left_records (op.Live l n cursor dirty) false l n h.only (ap not (not_its_leaf u h.only.link.child l h.only.link.is_named e));
    parent_vhd = h.parent_vhd;
    attached = h.attached;
    thick = λ rw q k m. h.thick rw q (In-filter stays s.images q k).0 m;
    within = h.within;
    blocks = h.blocks;
  }
  delete_operation (op.Leaf l n cursor) e h = (only_left s w stays parents_stay' left_records (op.Leaf l n cursor) false l n h.0 (ap not (not_its_leaf u h.0.link.child l h.0.link.is_named e)), h.1, h.2)

-- ---- a hidden image without children

empty_in : {A : Type 0} (x : A) (xs : List A) → In x xs → length xs ≡ 0 → ⊥
empty_in x [] h e = h
empty_in x (y ∷ ys) h e = let r : suc (length ys) ≡ 0 = e in omega arith

module _ (s : Shape) (w : IsWellFormed s) (i : ImageRow) (there : In i s.images) (garbage : is_garbage s i ≡ true) where
  abbrev remains : ImageRow → Bool
  remains j = not (is_image i.name j)

  no_children : length (children i.name s.images) ≡ 0
  no_children = eqb-true _ _ (and_parts i.hidden (is_childless s i) garbage).1

  is_hid : i.hidden ≡ true
  is_hid = (and_parts i.hidden (is_childless s i) garbage).0

  remain : (j : ImageRow) → (j.name ≡ i.name → ⊥) → remains j ≡ true
  remain j h = ap not (false_of (same_image j.name i.name) (λ e. h (same_image-sound j.name i.name e)))
    where
      false_of : (b : Bool) → (b ≡ true → ⊥) → b ≡ false
      false_of true g = absurd (g refl)
      false_of false g = refl

  parents_remain : (j q : ImageRow) → In j s.images → In q s.images → q.hidden ≡ true → j.parent ≡ Some q.name → remains q ≡ true
  unfolding children
  parents_remain j q h k hid e = remain q (λ n.
      let t : is_parent i.name j.parent ≡ true = ap (is_parent i.name) (e ∙ ap Some n) ∙ same_image-refl i.name (w.images i there).named in
      empty_in j (children i.name s.images) (filter-In (λ (x : ImageRow). is_parent i.name x.parent) s.images j h t) no_children)

  shown_remains : (j : ImageRow) → In j s.images → j.hidden ≡ false → remains j ≡ true
  shown_remains j h hid = remain j (λ n.
      let same : j ≡ i = Distinct-key (λ (x : ImageRow). image_uuid x.name) s.images j i w.one_image h there (ap image_uuid n) in
      let r : false ≡ true = sym hid ∙ (ap (λ (x : ImageRow). x.hidden) same ∙ is_hid) in cc)

  pub remove_keeps : IsWellFormed (record s { images = without_image i.name s.images; op = op.Idle })
  remove_keeps = keeps_left s w remains parents_remain s.records op.Idle w.records_in_order w.one_record
      (λ r h. (let k : HasImage s r.uuid = w.disks r h in (k.0, filter-In remains s.images k.0 k.1 (shown_remains k.0 k.1 k.2), k.2, k.3)))
      (λ j h hid. w.visible j (In-filter remains s.images j h).0 hid)
      (λ a h. w.attachments.disks a h)
      (λ r h. h)
      tt
