-- A disk that is attached keeps a shape well-formed.
use Rattle.std.proofs.Common.{◌≡◌, ℕ, ◌+◌, ◌-◌, ◌*◌, ◌<◌, ◌≤◌, Bool, true, false, cond, not, ◌⊎◌, List, [], ◌∷◌, ◌++◌, map, Option, Some, None, refl, sym, ap, ◌∙◌, subst, inl, inr, arith}
use Rattle.std.specs.Prelude.{is_none, nat_lt}
use Rattle.std.specs.Str.{bytes_eq}
use Rattle.std.proofs.lemmas.Bool.{ltb-false, and_from}
use Rattle.common_laws.proofs.Bytes.{bytes_eq-same, bytes_eq-refl}
use Rattle.common_laws.proofs.Options.{none_of_some}
use Rattle.sm_base.specs.declared.names.Name.{Name}
use Rattle.sm_base.specs.declared.operations.Mode.{Mode}
use Rattle.sm_base.specs.declared.operations.Mode.TheVariants.{Ro, Rw}
use Rattle.sm_machine.specs.Operations.{Op}
use Rattle.sm_machine.specs.Operations as op
use Rattle.sm_machine.specs.declared.commands.Command.TheVariants.{Attach}
use Rattle.common_laws.specs.Lists.{In, Distinct, when, ◌>>=◌}
use Rattle.std.specs.List.{find}
use Rattle.std.specs.Str.{bytes_eq}
use Rattle.sm_machine.specs.Shapes.{Shape, ImageRow, DiskRecord, Attachment, image_uuid, is_vhd, is_image_of, disk_record, attached_as, is_there, mode_in, slot_at, image_extents, free, thick_in}
use Rattle.sm_machine.specs.Refusals.{of_some, named, lacking, with_image_of, need, is_unknown, is_in_use, is_read_only, is_snapshot, lacks_space}
use Rattle.sm_machine.specs.Commits.{folds}
use Rattle.sm_machine.specs.Steps.{attach_shape}
use Rattle.sm_machine.specs.WellFormed.{IsWellFormed, IsImageRow, HasImage, HasRecord, IsOperation}
use Rattle.std.specs.Prelude.{is_some, length}
use Rattle.common_laws.proofs.Lists.{In-map, In-map_at, In-append, Distinct-key, find-only, find-some}
use Rattle.sm_machine.proofs.Changes.{when-key}
use Rattle.sm_machine.proofs.Passed.{IsPassed}
use Rattle.sm_machine.proofs.Mapped.{keeps_images, keeps_mapped, extents-change_one, only_mapped, link_mapped, live_mapped}
use Rattle.sm_machine.proofs.Guests.{disks_own, disk_image_is, mode_none, none_mode, link_same, live_same, only_same}

-- one more element, which is new
Distinct-push : {A B : Type 0} (k : A → B) (xs : List A) (x : A) → Distinct (map k xs) → ((y : A) → In y xs → k y ≡ k x → ⊥) → Distinct (map k (xs ++ x ∷ []))
Distinct-push k [] x d h = (λ g. g, tt)
Distinct-push {A} {B} k (y ∷ ys) x d h = (
  λ g.
      let r : (z : A) × In z (ys ++ x ∷ []) × (k y ≡ k z) = In-map k (ys ++ x ∷ []) (k y) g in
      elim (In-append ys (x ∷ []) r.0 r.1) as (λ _. ⊥) [
        | inl a ↦ d.0 (subst (λ v. In v (map k ys)) (sym r.2) (In-map_at k ys r.0 a))
        | inr b ↦ (elim b as (λ _. ⊥) [ inl e ↦ h y (inl refl) (r.2 ∙ ap k e) | inr f ↦ f ])
      ],
  Distinct-push k ys x d.1 (λ z j. h z (inr j)),
)

pub is_its_image : (i : ImageRow) (u : List ℕ) → i.hidden ≡ false → image_uuid i.name ≡ u → is_image_of u i ≡ true
is_its_image i u h e = and_from (not i.hidden) (bytes_eq (image_uuid i.name) u) (ap not h) (subst (λ (v : List ℕ). bytes_eq v u ≡ true) (sym e) (bytes_eq-refl u))

module _ (s : Shape) (w : IsWellFormed s) (u : List ℕ) (mode : Mode) (p : IsPassed s (Attach u mode)) where
  abbrev added : Attachment
  added = record { disk = u; mode = mode }

  abbrev attached' : List Attachment
  attached' = s.attached ++ added ∷ []

  not_in_use : attached_as u s ≡ None
  unfolding is_in_use
  not_in_use = none_of_some (attached_as u s) p.in_use

  some_record : (o : Option DiskRecord) → disk_record u s ≡ o → is_none o ≡ false → HasRecord s u
  some_record None e h = cc
  some_record (Some r) e h = let f : In r s.records × (bytes_eq r.uuid u ≡ true) = find-some (λ (q : DiskRecord). bytes_eq q.uuid u) s.records r e in (r, f.0, bytes_eq-same r.uuid u f.1)

  recorded : HasRecord s u
  unfolding is_unknown named
  recorded = some_record (disk_record u s) refl p.unknown

  its_image : HasImage s u
  its_image = let f : HasImage s recorded.0.uuid = w.disks recorded.0 recorded.1 in (f.0, f.1, f.2, f.3 ∙ recorded.2)

  in_attached : (a : Attachment) → In a attached' → In a s.attached ⊎ (a ≡ added)
  in_attached a h = elim (In-append s.attached (added ∷ []) a h) [ inl g ↦ inl g | inr g ↦ (elim g [ inl e ↦ inr e | inr f ↦ absurd f ]) ]

  once : Distinct (map (λ (a : Attachment). a.disk) attached')
  once = Distinct-push (λ (a : Attachment). a.disk) s.attached added w.attachments.once (λ a h e. mode_none u s.attached not_in_use a h e)

  disks_good : (a : Attachment) → In a attached' → HasRecord s a.disk
  disks_good a h = elim (in_attached a h) [ inl g ↦ w.attachments.disks a g | inr e ↦ subst (λ (b : Attachment). HasRecord s b.disk) (sym e) recorded ]

  not_snapshot : (r : DiskRecord) → In r s.records → r.uuid ≡ u → is_snapshot u s ≡ false → r.read_only ≡ false
  not_snapshot r h e q =
      let f : disk_record u s ≡ Some r = find-only (λ (x : DiskRecord). bytes_eq x.uuid u) s.records r h (subst (λ (v : List ℕ). bytes_eq v u ≡ true) (sym e) (bytes_eq-refl u))
      (λ x k m. Distinct-key (λ (y : DiskRecord). y.uuid) s.records x r w.one_record k h (bytes_eq-same x.uuid u m ∙ sym e)) in
      subst (λ (o : Option DiskRecord). of_some (λ (x : DiskRecord). x.read_only) o ≡ false) f q

  by_mode : (m : Mode) → mode ≡ m → m ≡ Rw → is_snapshot u s ≡ false
  unfolding is_read_only
  by_mode Rw e h = subst (λ (m : Mode). is_read_only s (Attach u m) ≡ false) e p.read_only
  by_mode Ro e h = cc

  writable_good : (a : Attachment) (r : DiskRecord) → In a attached' → a.mode ≡ Rw → In r s.records → r.uuid ≡ a.disk → r.read_only ≡ false
  writable_good a r h m k e = elim (in_attached a h) [
    | inl g ↦ w.attachments.writable a r g m k e
    | inr q ↦ not_snapshot r k (e ∙ ap (λ (b : Attachment). b.disk) q) (by_mode mode refl (sym (ap (λ (b : Attachment). b.mode) q) ∙ m))
  ]

  -- the leaf of another disk stays without an attachment
  other_leaf : (l : Name) → bytes_eq (image_uuid l) u ≡ false → mode_in (image_uuid l) s.attached ≡ None → mode_in (image_uuid l) attached' ≡ None
  other_leaf l e h = none_mode (image_uuid l) attached' (λ a k q. elim (in_attached a k) as (λ _. ⊥) [
    | inl g ↦ mode_none (image_uuid l) s.attached h a g q
    | inr r ↦ (let t : bytes_eq (image_uuid l) u ≡ true = subst (λ (v : List ℕ). bytes_eq v u ≡ true) (sym (ap (λ (b : Attachment). b.disk) r) ∙ q) (bytes_eq-refl u) in cc)
  ])

  -- a disk that is attached already stays so
  other_mode : (v : List ℕ) (xs ys : List Attachment) → is_some (mode_in v xs) ≡ true → mode_in v (xs ++ ys) ≡ mode_in v xs
  other_mode v [] ys e = cc
  other_mode v (x ∷ xs) ys e = by (bytes_eq x.disk v) refl (other_mode v xs ys)
    where
      by : (c : Bool) → bytes_eq x.disk v ≡ c → (is_some (mode_in v xs) ≡ true → mode_in v (xs ++ ys) ≡ mode_in v xs) → mode_in v (x ∷ (xs ++ ys)) ≡ mode_in v (x ∷ xs)
      by true f rest = ap (λ c. cond c (Some x) (find (λ (a : Attachment). bytes_eq a.disk v) (xs ++ ys)) >>= (λ a. Some a.mode)) f
          ∙ sym (ap (λ c. cond c (Some x) (find (λ (a : Attachment). bytes_eq a.disk v) xs) >>= (λ a. Some a.mode)) f)
      by false f rest =
          let there : is_some (mode_in v xs) ≡ true = sym (ap (λ c. is_some (cond c (Some x) (find (λ (a : Attachment). bytes_eq a.disk v) xs) >>= (λ a. Some a.mode))) f) ∙ e in
          ap (λ c. cond c (Some x) (find (λ (a : Attachment). bytes_eq a.disk v) (xs ++ ys)) >>= (λ a. Some a.mode)) f ∙ rest there
          ∙ sym (ap (λ c. cond c (Some x) (find (λ (a : Attachment). bytes_eq a.disk v) xs) >>= (λ a. Some a.mode)) f)

  operation_ro : (o : Op) → folds o u ≡ false → IsOperation s o → IsOperation (record s { records = s.records; attached = attached'; op = o }) o
  unfolding folds
  operation_ro op.Idle e h = tt
  operation_ro (op.Copy v n cursor) e h = only_same s w s.records attached' (op.Copy v n cursor) true v n h
  operation_ro (op.Relink v n) e h = link_same s w s.records attached' (op.Relink v n) true v n h
  operation_ro (op.Live l n cursor dirty) e h = live_same s w s.records attached' (op.Live l n cursor dirty) l n cursor dirty (other_mode (image_uuid l) s.attached (added ∷ []) h.attached) h
  operation_ro (op.Leaf l n cursor) e h = (only_same s w s.records attached' (op.Leaf l n cursor) false l n h.0, h.1, other_leaf l e h.2)

-- ---- for reading alone

module _ (s : Shape) (w : IsWellFormed s) (u : List ℕ) (p : IsPassed s (Attach u Ro)) where
  thick_ro : (a : Attachment) (i : ImageRow) → In a (attached' s w u Ro p) → a.mode ≡ Rw → In i s.images → i.hidden ≡ false → image_uuid i.name ≡ a.disk → is_vhd i.name ≡ true → thick_in s i.size ≤ i.extents
  thick_ro a i h m k hid e v = elim (in_attached s w u Ro p a h) [
    | inl g ↦ w.attachments.thick a i g m k hid e v
    | inr q ↦ (let r : Ro ≡ Rw = sym (ap (λ (b : Attachment). b.mode) q) ∙ m in cc)
  ]

  pub attach_ro_keeps : (o : Op) → IsOperation (record s { attached = attached' s w u Ro p; op = o }) o → IsWellFormed (record (attach_shape s u Ro) { op = o })
  attach_ro_keeps o operation = keeps_images s w s.records (attached' s w u Ro p) o w.records_in_order w.one_record w.disks w.visible
      (record { once = once s w u Ro p; disks = disks_good s w u Ro p; writable = writable_good s w u Ro p; thick = thick_ro })
      operation

  pub attach_ro_operation : (o : Op) → folds o u ≡ false → IsOperation s o → IsOperation (record s { attached = attached' s w u Ro p; op = o }) o
  attach_ro_operation o e h = operation_ro s w u Ro p o e h

-- ---- for writing

abbrev lack_by : Bool → ℕ → ℕ
lack_by c n = elim c [ true ↦ n | false ↦ 0 ]

module _ (s : Shape) (w : IsWellFormed s) (u : List ℕ) (p : IsPassed s (Attach u Rw)) where
  abbrev to_thick : ImageRow → ImageRow
  to_thick i = record i { extents = i.extents + lacking s i }

  abbrev on_attach : ImageRow → ImageRow
  on_attach y = when (is_image_of u y) to_thick y

  attach_key : {B : Type 0} (k : ImageRow → B) → ((y : ImageRow) → k (to_thick y) ≡ k y) → (y : ImageRow) → k (on_attach y) ≡ k y
  attach_key k h y = when-key k to_thick h (is_image_of u y) y

  abbrev own : ImageRow
  own = (its_image s w u Rw p).0

  own_there : In own s.images
  own_there = (its_image s w u Rw p).1

  own_is : is_image_of u own ≡ true
  own_is = is_its_image own u (its_image s w u Rw p).2 (its_image s w u Rw p).3

  enough : lacking s own ≤ free s
  unfolding lacks_space need
  enough = ltb-false (free s) (lacking s own) (subst (λ (o : Option ImageRow). nat_lt (free s) (with_image_of (lacking s) o) ≡ false) (disk_image_is s w u own own_there own_is) p.space)

  room_good : s.others + image_extents (map on_attach s.images) ≤ s.extents
  unfolding free
  room_good =
      let e : image_extents (map on_attach s.images) + own.extents ≡ image_extents s.images + (own.extents + lacking s own) =
      extents-change_one (is_image_of u) to_thick s.images own w.one_image own_there own_is
      (λ y h q. Distinct-key (λ (i : ImageRow). image_uuid i.name) s.images y own w.one_image h own_there ((disks_own s w u y q).1 ∙ sym (disks_own s w u own own_is).1)) in
      let h : lacking s own ≤ s.extents - (s.others + image_extents s.images) = enough in
      let r : s.others + image_extents s.images ≤ s.extents = w.room in
      omega arith

  lacking_raw : (y : ImageRow) (c : Bool) → is_vhd y.name ≡ c → c ≡ false → lacking s y ≡ 0
  lacking_raw y true e h = cc
  lacking_raw y false e h = ap (λ (c : Bool). lack_by c (thick_in s y.size - y.extents)) e

  lacking_vhd : (y : ImageRow) → is_vhd y.name ≡ true → lacking s y ≡ thick_in s y.size - y.extents
  lacking_vhd y e = ap (λ (c : Bool). lack_by c (thick_in s y.size - y.extents)) e

  good_by : (y : ImageRow) (c : Bool) → is_image_of u y ≡ c → In y s.images → IsImageRow s (when c to_thick y)
  good_by y true e h =
      let g : IsImageRow s y = w.images y h in
      record {
        named = g.named;
        whole = g.whole;
        volume = (let v : 0 < y.extents = g.volume in omega arith);
        table = g.table;
        raw = λ v. (let r : (y.parent ≡ None) × (y.size ≡ y.extents * s.extent) = g.raw v in
            let z : lacking s y ≡ 0 = lacking_raw y (is_vhd y.name) refl v in
            let k : y.extents ≡ y.extents + lacking s y = omega arith in
            (r.0, r.1 ∙ ap (λ (n : ℕ). n * s.extent) k));
      }
  good_by y false e h = w.images y h

  abbrev attached_rw : List Attachment
  attached_rw = attached' s w u Rw p

  abbrev attached_shape : Op → Shape
  attached_shape o = record s { images = map on_attach s.images; attached = attached_rw; op = o }

  thick_new : (y : ImageRow) (c : Bool) → is_image_of u y ≡ c → c ≡ true → is_vhd y.name ≡ true → thick_in s (when c to_thick y).size ≤ (when c to_thick y).extents
  thick_new y true e q v = let l : lacking s y ≡ thick_in s y.size - y.extents = lacking_vhd y v in omega arith
  thick_new y false e q v = cc

  thick_old : (y : ImageRow) (c : Bool) → thick_in s y.size ≤ y.extents → thick_in s (when c to_thick y).size ≤ (when c to_thick y).extents
  thick_old y true l = omega arith
  thick_old y false l = l

  thick_rw : (a : Attachment) (x : ImageRow) → In a attached_rw → a.mode ≡ Rw → In x (map on_attach s.images) → x.hidden ≡ false → image_uuid x.name ≡ a.disk → is_vhd x.name ≡ true → thick_in s x.size ≤ x.extents
  thick_rw a x h m k hid e v =
      let r : (y : ImageRow) × In y s.images × (x ≡ on_attach y) = In-map on_attach s.images x k in
      let n : x.name ≡ r.0.name = ap (λ (z : ImageRow). z.name) r.2 ∙ attach_key (λ (i : ImageRow). i.name) (λ y. refl) r.0 in
      let hid' : r.0.hidden ≡ false = sym (ap (λ (z : ImageRow). z.hidden) r.2 ∙ attach_key (λ (i : ImageRow). i.hidden) (λ y. refl) r.0) ∙ hid in
      let e' : image_uuid r.0.name ≡ a.disk = sym (ap image_uuid n) ∙ e in
      let v' : is_vhd r.0.name ≡ true = sym (ap is_vhd n) ∙ v in
      subst (λ (z : ImageRow). thick_in s z.size ≤ z.extents) (sym r.2) (elim (in_attached s w u Rw p a h) [
        | inl g ↦ thick_old r.0 (is_image_of u r.0) (w.attachments.thick a r.0 g m r.1 hid' e' v')
        | inr q ↦ thick_new r.0 (is_image_of u r.0) refl (is_its_image r.0 u hid' (e' ∙ ap (λ (b : Attachment). b.disk) q)) v'
      ])

  names_kept : (y : ImageRow) → (on_attach y).name ≡ y.name
  names_kept = attach_key (λ (i : ImageRow). i.name) (λ y. refl)

  marks_kept : (y : ImageRow) → (on_attach y).hidden ≡ y.hidden
  marks_kept = attach_key (λ (i : ImageRow). i.hidden) (λ y. refl)

  parents_kept : (y : ImageRow) → (on_attach y).parent ≡ y.parent
  parents_kept = attach_key (λ (i : ImageRow). i.parent) (λ y. refl)

  sizes_kept : (y : ImageRow) → (on_attach y).size ≡ y.size
  sizes_kept = attach_key (λ (i : ImageRow). i.size) (λ y. refl)

  more_kept : (y : ImageRow) (c : Bool) → y.extents ≤ (when c to_thick y).extents
  more_kept y true = omega arith
  more_kept y false = omega arith

  pub attach_rw_operation : (o : Op) → folds o u ≡ false → IsOperation s o → IsOperation (attached_shape o) o
  unfolding folds
  attach_rw_operation op.Idle e h = tt
  attach_rw_operation (op.Copy v n cursor) e h = only_mapped s w on_attach names_kept marks_kept parents_kept attached_rw (op.Copy v n cursor) true v n h (sizes_kept h.link.child) (λ q k m. sizes_kept q)
  attach_rw_operation (op.Relink v n) e h = link_mapped s w on_attach names_kept marks_kept parents_kept attached_rw (op.Relink v n) true v n h
  attach_rw_operation (op.Live l n cursor dirty) e h = live_mapped s w on_attach names_kept marks_kept parents_kept attached_rw (op.Live l n cursor dirty) l n cursor dirty dirty h
      (other_mode s w u Rw p (image_uuid l) s.attached (added s w u Rw p ∷ []) h.attached) (λ y k. sizes_kept y) (λ q k m. more_kept q (is_image_of u q))
      (subst (λ (k : ℕ). cursor ≤ k) (sym (attach_key (λ (i : ImageRow). length i.slots) (λ y. refl) h.only.link.child)) h.within)
      (λ b i. (let f = h.blocks b i in (f.0, ap (λ (xs : List (Option ℕ)). is_there (slot_at xs b)) (attach_key (λ (i : ImageRow). i.slots) (λ y. refl) h.only.link.child) ∙ f.1)))
  attach_rw_operation (op.Leaf l n cursor) e h = (only_mapped s w on_attach names_kept marks_kept parents_kept attached_rw (op.Leaf l n cursor) false l n h.0 (sizes_kept h.0.link.child) (λ q k m. sizes_kept q), h.1, other_leaf s w u Rw p l e h.2)

  pub attach_rw_keeps : (o : Op) → IsOperation (attached_shape o) o → IsWellFormed (record (attach_shape s u Rw) { op = o })
  attach_rw_keeps o operation = keeps_mapped s w on_attach names_kept marks_kept parents_kept attached_rw o room_good
      (λ y h. good_by y (is_image_of u y) refl h)
      (λ y q h k hid e l. subst (λ (n : ℕ). n ≤ (on_attach y).size) (sym (sizes_kept q)) (subst (λ (n : ℕ). q.size ≤ n) (sym (sizes_kept y)) l))
      (record { once = once s w u Rw p; disks = disks_good s w u Rw p; writable = writable_good s w u Rw p; thick = thick_rw })
      operation
