-- A larger disk keeps a shape well-formed, and so does one that is attached.
use Rattle.std.proofs.Common.{◌≡◌, ℕ, ◌+◌, ◌-◌, ◌<◌, ◌≤◌, Bool, true, false, not, ◌&&◌, List, [], ◌∷◌, map, Option, Some, None, refl, sym, ap, ◌∙◌, subst, inl, inr, arith}
use Rattle.std.specs.Prelude.{nat_lt}
use Rattle.std.specs.Str.{bytes_eq}
use Rattle.std.proofs.lemmas.Bool.{ltb-false}
use Rattle.std.specs.Prelude.{length}
use Rattle.std.specs.List.{find}
use Rattle.sm_base.specs.declared.operations.Mode.TheVariants.{Rw}
use Rattle.sm_base.specs.declared.names.Name.{Name}
use Rattle.sm_machine.specs.Operations.{Op}
use Rattle.sm_machine.specs.Operations as op
use Rattle.sm_machine.specs.declared.commands.Command.TheVariants.{Resize}
use Rattle.common_laws.specs.Lists.{In, when}
use Rattle.sm_machine.specs.Shapes.{Shape, ImageRow, Attachment, image_uuid, is_vhd, is_image_of, is_there, slot_at, attached_as, free, image_extents, is_ro, is_rw, thick_in}
use Rattle.sm_machine.specs.Refusals.{of_some, rounded, is_in_use, is_raw_disk, is_bad_size, is_shrink, lacking_larger, lacks_space, need, with_image_of}
use Rattle.sm_machine.specs.Commits.{folds}
use Rattle.sm_machine.specs.Steps.{resize_shape}
use Rattle.sm_machine.specs.WellFormed.{IsWellFormed, IsImageRow, IsSize, HasParent, IsOnlyChild, IsOperation}
use Rattle.common_laws.proofs.Lists.{Distinct-key, find-none, find-some}
use Rattle.sm_machine.proofs.Collects.{attached_mode}
use Rattle.sm_machine.proofs.Changes.{when-key}
use Rattle.sm_machine.proofs.Create.{new_size}
use Rattle.sm_machine.proofs.Passed.{IsPassed}
use Rattle.sm_machine.proofs.Mapped.{keeps_mapped, extents-change_one, attachments_mapped, only_mapped, link_mapped, live_changed}
use Rattle.sm_machine.proofs.Guests.{disks_own, disk_image_is}

-- the image of a leaf that is not the disk's
pub not_its_leaf : (u : List ℕ) (y : ImageRow) (l : Name) → y.name ≡ l → bytes_eq (image_uuid l) u ≡ false → is_image_of u y ≡ false
not_its_leaf u y l n e = let r : bytes_eq (image_uuid y.name) u ≡ false = ap (λ (k : Name). bytes_eq (image_uuid k) u) n ∙ e in both (not y.hidden) (bytes_eq (image_uuid y.name) u) r
  where
    both : (a b : Bool) → b ≡ false → a && b ≡ false
    both true b q = q
    both false b q = refl

-- a hidden image is no disk's
pub hidden_is_no_disk : (u : List ℕ) (y : ImageRow) → y.hidden ≡ true → is_image_of u y ≡ false
hidden_is_no_disk u y e = by_mark y.hidden e (bytes_eq (image_uuid y.name) u)
  where
    by_mark : (h : Bool) → h ≡ true → (b : Bool) → not h && b ≡ false
    by_mark true q b = refl
    by_mark false q b = cc

when_not : {A : Type 0} (c : Bool) (f : A → A) (y : A) → c ≡ false → when c f y ≡ y
when_not true f y e = cc
when_not false f y e = refl

module _ (s : Shape) (w : IsWellFormed s) (u : List ℕ) (bytes : ℕ) (p : IsPassed s (Resize u bytes)) where
  abbrev size' : ℕ
  size' = rounded s false bytes

  abbrev to_size : ImageRow → ImageRow
  to_size i = record i { size = size'; extents = i.extents + lacking_larger s u size' i }

  abbrev on_resize : ImageRow → ImageRow
  on_resize y = when (is_image_of u y) to_size y

  resized_key : {B : Type 0} (k : ImageRow → B) → ((y : ImageRow) → k (to_size y) ≡ k y) → (y : ImageRow) → k (on_resize y) ≡ k y
  resized_key k h y = when-key k to_size h (is_image_of u y) y

  not_ro : is_ro (attached_as u s) ≡ false
  unfolding is_in_use
  not_ro = p.in_use

  abbrev larger_by : Bool → Bool → ImageRow → ℕ
  larger_by rw vhd y = elim rw [ true ↦ elim vhd [ true ↦ thick_in s size' - y.extents | false ↦ 0 ] | false ↦ 0 ]

  -- no other image is the disk's
  one_own : (y q : ImageRow) → In y s.images → In q s.images → is_image_of u y ≡ true → is_image_of u q ≡ true → y ≡ q
  one_own y q h k e f = Distinct-key (λ (i : ImageRow). image_uuid i.name) s.images y q w.one_image h k ((disks_own s w u y e).1 ∙ sym (disks_own s w u q f).1)

  -- the extents that it takes are free
  enough : (y : ImageRow) → In y s.images → is_image_of u y ≡ true → lacking_larger s u size' y ≤ free s
  unfolding lacks_space need
  enough y h e = ltb-false (free s) (lacking_larger s u size' y) (subst (λ (o : Option ImageRow). nat_lt (free s) (with_image_of (lacking_larger s u size') o) ≡ false) (disk_image_is s w u y h e) p.space)

  room_by : (o : Option ImageRow) → find (is_image_of u) s.images ≡ o → s.others + image_extents (map on_resize s.images) ≤ s.extents
  unfolding free image_extents
  room_by (Some own) f =
      let there = find-some (is_image_of u) s.images own f in
      let e : image_extents (map on_resize s.images) + own.extents ≡ image_extents s.images + (own.extents + lacking_larger s u size' own) =
      extents-change_one (is_image_of u) to_size s.images own w.one_image there.0 there.1 (λ y h q. one_own y own h there.0 q there.1) in
      let h : lacking_larger s u size' own ≤ s.extents - (s.others + image_extents s.images) = enough own there.0 there.1 in
      let r : s.others + image_extents s.images ≤ s.extents = w.room in
      omega arith
  room_by None f = subst (λ (n : ℕ). s.others + n ≤ s.extents) (sym (none_change s.images (λ y h. find-none (is_image_of u) s.images y f h))) w.room
    where
      none_change : (xs : List ImageRow) → ((y : ImageRow) → In y xs → is_image_of u y ≡ false) → image_extents (map on_resize xs) ≡ image_extents xs
      none_change [] none = refl
      none_change (x ∷ xs) none =
          let here : on_resize x ≡ x = when_not (is_image_of u x) to_size x (none x (inl refl)) in
          let one : (on_resize x).extents ≡ x.extents = ap (λ (i : ImageRow). i.extents) here in
          let rest : image_extents (map on_resize xs) ≡ image_extents xs = none_change xs (λ y h. none y (inr h)) in
          omega arith

  is_good : IsSize s size'
  unfolding is_bad_size
  is_good = new_size s w bytes false p.bad_size

  is_no_raw : (y : ImageRow) → In y s.images → is_image_of u y ≡ true → is_vhd y.name ≡ true
  unfolding is_raw_disk
  is_no_raw y h e = vhd_of (is_vhd y.name) (subst (λ (o : Option ImageRow). of_some (λ (i : ImageRow). not (is_vhd i.name)) o ≡ false) (disk_image_is s w u y h e) p.raw_disk)
    where
      vhd_of : (b : Bool) → not b ≡ false → b ≡ true
      vhd_of true q = refl
      vhd_of false q = cc

  not_smaller : (y : ImageRow) → In y s.images → is_image_of u y ≡ true → y.size ≤ size'
  unfolding is_shrink
  not_smaller y h e = ltb-false size' y.size (subst (λ (o : Option ImageRow). of_some (λ (i : ImageRow). nat_lt size' i.size) o ≡ false) (disk_image_is s w u y h e) p.shrink)

  good_by : (y : ImageRow) (c : Bool) → is_image_of u y ≡ c → In y s.images → IsImageRow s (when c to_size y)
  good_by y true e h = let g : IsImageRow s y = w.images y h in
      record { named = g.named; whole = is_good; volume = (let v : 0 < y.extents = g.volume in omega arith); table = g.table; raw = λ v. (let q : is_vhd y.name ≡ true = is_no_raw y h e in cc) }
  good_by y false e h = w.images y h

  grown_by : (y : ImageRow) (c : Bool) → is_image_of u y ≡ c → In y s.images → y.size ≤ (when c to_size y).size
  grown_by y true e h = not_smaller y h e
  grown_by y false e h = omega arith

  sizes_good : (y q : ImageRow) → In y s.images → In q s.images → q.hidden ≡ true → y.parent ≡ Some q.name → q.size ≤ y.size → (on_resize q).size ≤ (on_resize y).size
  sizes_good y q h k hid e l =
      let a : (on_resize q).size ≡ q.size = ap (λ (i : ImageRow). i.size) (when_not (is_image_of u q) to_size q (hidden_is_no_disk u q hid)) in
      let b : y.size ≤ (on_resize y).size = grown_by y (is_image_of u y) refl h in
      omega arith

  -- its disk is attached for writing
  is_rw_of : (a : Attachment) → In a s.attached → a.mode ≡ Rw → a.disk ≡ u → is_rw (attached_as u s) ≡ true
  is_rw_of a h m e = ap is_rw (attached_mode s w a u h e ∙ ap Some m)

  thick_larger : (y : ImageRow) (a c : Bool) → a ≡ true → c ≡ true → thick_in s size' ≤ y.extents + larger_by a c y
  thick_larger y true true e f = omega arith
  thick_larger y true false e f = cc
  thick_larger y false c e f = cc

  thick_by : (a : Attachment) (y : ImageRow) (c : Bool) → is_image_of u y ≡ c → In a s.attached → a.mode ≡ Rw → image_uuid y.name ≡ a.disk → is_vhd y.name ≡ true → thick_in s y.size ≤ y.extents → thick_in s (when c to_size y).size ≤ (when c to_size y).extents
  thick_by a y true e h m q v l = thick_larger y (is_rw (attached_as u s)) (is_vhd y.name) (is_rw_of a h m (sym q ∙ (disks_own s w u y e).1)) v
  thick_by a y false e h m q v l = l

  same_of : (y : ImageRow) → is_image_of u y ≡ false → (on_resize y).size ≡ y.size
  same_of y e = ap (λ (i : ImageRow). i.size) (when_not (is_image_of u y) to_size y e)

  -- a parent is hidden
  parent_same : (c : ImageRow) (n : Name) → In c s.images → c.parent ≡ Some n → (q : ImageRow) → In q s.images → q.name ≡ n → (on_resize q).size ≡ q.size
  parent_same c n h e q k m =
      let g : HasParent s.images c n = w.parents c n h e in
      let same : q ≡ g.parent = Distinct-key (λ (i : ImageRow). image_uuid i.name) s.images q g.parent w.one_image k g.there (ap image_uuid (m ∙ sym g.is_named)) in
      same_of q (hidden_is_no_disk u q (ap (λ (i : ImageRow). i.hidden) same ∙ g.is_hidden))

  abbrev resized : Op → Shape
  resized o = record s { images = map on_resize s.images; attached = s.attached; op = o }

  only_resized : (o : Op) (hidden : Bool) (v n : Name) → (h : IsOnlyChild s hidden v n) → is_image_of u h.link.child ≡ false → IsOnlyChild (resized o) hidden v n
  only_resized o hidden v n h e = only_mapped s w on_resize (resized_key (λ (i : ImageRow). i.name) (λ y. refl)) (resized_key (λ (i : ImageRow). i.hidden) (λ y. refl)) (resized_key (λ (i : ImageRow). i.parent) (λ y. refl))
      s.attached o hidden v n h (same_of h.link.child e) (parent_same h.link.child n h.link.there h.link.linked)

  more_by : (y : ImageRow) (c : Bool) → y.extents ≤ (when c to_size y).extents
  more_by y true = omega arith
  more_by y false = omega arith

  pub operation_resized : (o : Op) → folds o u ≡ false → IsOperation s o → IsOperation (resized o) o
  unfolding folds
  operation_resized op.Idle e h = tt
  operation_resized (op.Copy v n cursor) e h = only_resized (op.Copy v n cursor) true v n h (hidden_is_no_disk u h.link.child h.link.is_shown)
  operation_resized (op.Relink v n) e h = link_mapped s w on_resize (resized_key (λ (i : ImageRow). i.name) (λ y. refl)) (resized_key (λ (i : ImageRow). i.hidden) (λ y. refl)) (resized_key (λ (i : ImageRow). i.parent) (λ y. refl)) s.attached (op.Relink v n) true v n h
  operation_resized (op.Live l n cursor dirty) e h = live_changed s w on_resize (resized_key (λ (i : ImageRow). i.name) (λ y. refl)) (resized_key (λ (i : ImageRow). i.hidden) (λ y. refl)) (resized_key (λ (i : ImageRow). i.parent) (λ y. refl))
      s.attached (op.Live l n cursor dirty) l n cursor dirty dirty h refl (same_of h.only.link.child (not_its_leaf u h.only.link.child l h.only.link.is_named e)) (parent_same h.only.link.child n h.only.link.there h.only.link.linked)
      (λ q k m. more_by q (is_image_of u q))
      (subst (λ (k : ℕ). cursor ≤ k) (sym (resized_key (λ (i : ImageRow). length i.slots) (λ y. refl) h.only.link.child)) h.within)
      (λ b i. (let f = h.blocks b i in (f.0, ap (λ (xs : List (Option ℕ)). is_there (slot_at xs b)) (resized_key (λ (i : ImageRow). i.slots) (λ y. refl) h.only.link.child) ∙ f.1)))
  operation_resized (op.Leaf l n cursor) e h = (only_resized (op.Leaf l n cursor) false l n h.0 (not_its_leaf u h.0.link.child l h.0.link.is_named e), h.1, h.2)

  pub resize_keeps : (o : Op) → IsOperation (resized o) o → IsWellFormed (record (resize_shape s u bytes) { op = o })
  resize_keeps o operation = keeps_mapped s w on_resize (resized_key (λ (i : ImageRow). i.name) (λ y. refl)) (resized_key (λ (i : ImageRow). i.hidden) (λ y. refl)) (resized_key (λ (i : ImageRow). i.parent) (λ y. refl)) s.attached o
      (room_by (find (is_image_of u) s.images) refl)
      (λ y h. good_by y (is_image_of u y) refl h)
      sizes_good
      (attachments_mapped s w on_resize (resized_key (λ (i : ImageRow). i.name) (λ y. refl)) (resized_key (λ (i : ImageRow). i.hidden) (λ y. refl)) (resized_key (λ (i : ImageRow). i.parent) (λ y. refl)) s.attached o refl
      (λ a y h m k hid e v l. thick_by a y (is_image_of u y) refl h m e v l))
      operation
