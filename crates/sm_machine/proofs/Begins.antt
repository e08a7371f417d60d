-- A fold that begins keeps a shape well-formed.
use Rattle.std.proofs.Common.{◌≡◌, ℕ, suc, ◌+◌, ◌-◌, ◌*◌, ◌<◌, ◌≤◌, Bool, true, false, not, ◌&&◌, ◌||◌, ◌⊎◌, List, [], ◌∷◌, map, length, max, Option, Some, None, refl, sym, ap, ◌∙◌, subst, inl, inr, arith}
use Rattle.std.specs.Prelude.{◌==◌, is_some}
use Rattle.std.specs.List.{filter_map, cons_option}
use Rattle.std.proofs.lemmas.Bool.{and_parts, eqb-true, leb-true}
use Rattle.common_laws.proofs.Options.{none_of_some}
use Rattle.common_laws.proofs.Booleans.{not_true, or_cases}
use Rattle.sm_base.specs.declared.names.Name.{Name}
use Rattle.sm_machine.specs.Operations.{Op}
use Rattle.common_laws.specs.Lists.{◌>>=◌, In, when, given}
use Rattle.sm_machine.specs.Shapes.{Shape, ImageRow, same_image, is_image, find_image, image_uuid, is_vhd, on_image, is_parent, children, attached_as, top, image_extents, free, thin_in, thick_in}
use Rattle.sm_machine.specs.Collector.{Pair, is_childless, has_one_child, with_parent, pair_of, is_written, leaf_of, live_of, lives, needed, pairs, leaves, target, fits, count_either, size_of}
use Rattle.sm_machine.specs.WellFormed.{IsWellFormed, IsImageRow, IsSize, HasParent, IsOnlyChild, IsOperation}
use Rattle.sm_machine.proofs.Faces.{AreSeen, seen_map}
use Rattle.common_laws.proofs.Lists.{In-map, In-map_at, filter-In, Distinct-key, find-some}
use Rattle.sm_machine.proofs.Changes.{when-key}
use Rattle.sm_machine.proofs.ImageNames.{same_image-sound, same_image-refl, other_image}
use Rattle.sm_machine.proofs.Mapped.{keeps_mapped, extents-change_one, attachments_mapped}
use Rattle.sm_machine.proofs.Debts.{parent_apart, found_row, is_itself}
use Rattle.sm_machine.proofs.Collects.{same_row}

-- ---- what a chosen pair is

map_case : {A B : Type 0} (h : A → Option B) (x : A) (xs : List A) (y : B) (o : Option B) → h x ≡ o → In y (cons_option o (filter_map h xs)) → (In y (filter_map h xs) → (z : A) × In z xs × (h z ≡ Some y)) → (z : A) × In z (x ∷ xs) × (h z ≡ Some y)
map_case {A} {B} h x xs y None e g ih = let r : (z : A) × In z xs × (h z ≡ Some y) = ih g in (r.0, inr r.1, r.2)
map_case h x xs y (Some v) e (inl q) ih = (x, inl refl, e ∙ ap Some (sym q))
map_case {A} {B} h x xs y (Some v) e (inr g) ih = let r : (z : A) × In z xs × (h z ≡ Some y) = ih g in (r.0, inr r.1, r.2)

pub In-filter_map : {A B : Type 0} (h : A → Option B) (xs : List A) (y : B) → In y (filter_map h xs) → (x : A) × In x xs × (h x ≡ Some y)
In-filter_map h [] y k = absurd k
In-filter_map h (x ∷ xs) y k = map_case h x xs y (h x) refl k (λ g. In-filter_map h xs y g)

given_some : {A B : Type 0} (b : Bool) (x : A) (f : A → Option B) (y : B) → (given b x >>= f) ≡ Some y → (b ≡ true) × (f x ≡ Some y)
given_some true x f y e = (refl, e)
given_some false x f y e = cc

given_last : {A : Type 0} (b : Bool) (x y : A) → given b x ≡ Some y → (b ≡ true) × (x ≡ y)
given_last true x y e = (refl, (let q : x ≡ y = cc in q))
given_last false x y e = cc

-- the child reads through the parent, which has no other child
record IsLinked (s : Shape) (v : ImageRow) (pair : Pair) : Type 0 where
  is_child : v ≡ pair.child
  name : Name
  link : v.parent ≡ Some name
  found : find_image name s.images ≡ Some pair.parent
  one : has_one_child s pair.parent ≡ true

found_case : (s : Shape) (v : ImageRow) (pair : Pair) (n : Name) (o : Option ImageRow) → v.parent ≡ Some n → find_image n s.images ≡ o → (o >>= (λ p. given (has_one_child s p) (let r : Pair = record { child = v; parent = p } in r))) ≡ Some pair → IsLinked s v pair
found_case s v pair n None e q h = cc
found_case s v pair n (Some p) e q h =
    let made : Pair = record { child = v; parent = p } in
    let r : (has_one_child s p ≡ true) × (made ≡ pair) = given_last (has_one_child s p) made pair h in
    let same : p ≡ pair.parent = ap (λ (x : Pair). x.parent) r.1 in
    record { is_child = ap (λ (x : Pair). x.child) r.1; name = n; link = e; found = q ∙ ap Some same; one = subst (λ (x : ImageRow). has_one_child s x ≡ true) same r.0 }

parent_case : (s : Shape) (v : ImageRow) (pair : Pair) (o : Option Name) → v.parent ≡ o → (o >>= (λ n. find_image n s.images >>= (λ p. given (has_one_child s p) (let r : Pair = record { child = v; parent = p } in r)))) ≡ Some pair → IsLinked s v pair
parent_case s v pair None e h = cc
parent_case s v pair (Some n) e h = found_case s v pair n (find_image n s.images) e refl h

linked_pair : (s : Shape) (v : ImageRow) (pair : Pair) → with_parent s v ≡ Some pair → IsLinked s v pair
linked_pair s v pair h = parent_case s v pair v.parent refl h

-- a pair that may be folded, and what is known of its child
pub record IsFoldable (s : Shape) (hidden : Bool) (pair : Pair) : Type 0 where
  pub child_there : In pair.child s.images
  pub parent_there : In pair.parent s.images
  pub shown : pair.child.hidden ≡ hidden
  pub vhd : is_vhd pair.child.name ≡ true
  pub link : pair.child.parent ≡ Some pair.parent.name
  pub one : has_one_child s pair.parent ≡ true
  pub kind : (is_vhd pair.parent.name ≡ true) ⊎ (pair.parent.size ≡ pair.child.size)

foldable_from : (s : Shape) (hidden : Bool) (v : ImageRow) (pair : Pair) → In v s.images → v.hidden ≡ hidden → is_vhd v.name ≡ true → IsLinked s v pair → ((is_vhd pair.parent.name ≡ true) ⊎ (pair.parent.size ≡ pair.child.size)) → IsFoldable s hidden pair
foldable_from s hidden v pair h hid vhd l kind =
    let f : In pair.parent s.images × (is_image l.name pair.parent ≡ true) = find-some (is_image l.name) s.images pair.parent l.found in
    let n : pair.parent.name ≡ l.name = same_image-sound pair.parent.name l.name f.1 in
    record {
      child_there = subst (λ (x : ImageRow). In x s.images) l.is_child h;
      parent_there = f.0;
      shown = sym (ap (λ (x : ImageRow). x.hidden) l.is_child) ∙ hid;
      vhd = sym (ap (λ (x : ImageRow). is_vhd x.name) l.is_child) ∙ vhd;
      link = sym (ap (λ (x : ImageRow). x.parent) l.is_child) ∙ (l.link ∙ ap Some (sym n));
      one = l.one;
      kind = kind;
    }

last_step : (s : Shape) (v : ImageRow) (pair : Pair) (t : Pair → Bool) → (with_parent s v >>= (λ p. given (t p) p)) ≡ Some pair → (with_parent s v ≡ Some pair) × (t pair ≡ true)
last_step s v pair t e = by_pair (with_parent s v) e
  where
    by_pair : (o : Option Pair) → (o >>= (λ p. given (t p) p)) ≡ Some pair → (o ≡ Some pair) × (t pair ≡ true)
    by_pair None e = cc
    by_pair (Some p) e = let r : (t p ≡ true) × (p ≡ pair) = given_last (t p) p pair e in (ap Some r.1, sym (ap t r.1) ∙ r.0)

pub chosen_pair : (s : Shape) (pair : Pair) → In pair (pairs s) → IsFoldable s true pair
unfolding pair_of
chosen_pair s pair h =
    let r : (v : ImageRow) × In v s.images × (pair_of s v ≡ Some pair) = In-filter_map (pair_of s) s.images pair h in
    let v : ImageRow = r.0 in
    let a = given_some (v.hidden && is_vhd v.name) v _ pair r.2 in
    let b = given_some (not (is_childless s v)) v _ pair a.1 in
    let marks : (v.hidden ≡ true) × (is_vhd v.name ≡ true) = and_parts v.hidden (is_vhd v.name) a.0 in
    let c : (with_parent s v ≡ Some pair) × (is_vhd pair.parent.name || (pair.parent.size == pair.child.size) ≡ true) = last_step s v pair (λ (p : Pair). is_vhd p.parent.name || (p.parent.size == p.child.size)) b.1 in
    foldable_from s true v pair r.1 marks.0 marks.1 (linked_pair s v pair c.0)
    (elim (or_cases (is_vhd pair.parent.name) (pair.parent.size == pair.child.size) c.1) [ inl e ↦ inl e | inr e ↦ inr (eqb-true pair.parent.size pair.child.size e) ])

-- a leaf is not attached, and its parent is a VHD image
pub record IsLeaf (s : Shape) (pair : Pair) : Type 0 where
  pub foldable : IsFoldable s false pair
  pub free_leaf : attached_as (image_uuid pair.child.name) s ≡ None
  pub parent_vhd : is_vhd pair.parent.name ≡ true

pub chosen_leaf : (s : Shape) (pair : Pair) → In pair (leaves s) → IsLeaf s pair
unfolding leaf_of
chosen_leaf s pair h =
    let r : (v : ImageRow) × In v s.images × (leaf_of s v ≡ Some pair) = In-filter_map (leaf_of s) s.images pair h in
    let v : ImageRow = r.0 in
    let a = given_some (not v.hidden && is_vhd v.name) v _ pair r.2 in
    let b = given_some (not (is_some (attached_as (image_uuid v.name) s))) v _ pair a.1 in
    let marks : (not v.hidden ≡ true) × (is_vhd v.name ≡ true) = and_parts (not v.hidden) (is_vhd v.name) a.0 in
    let c : (with_parent s v ≡ Some pair) × (is_vhd pair.parent.name ≡ true) = last_step s v pair (λ (p : Pair). is_vhd p.parent.name) b.1 in
    let l : IsLinked s v pair = linked_pair s v pair c.0 in
    record {
      foldable = foldable_from s false v pair r.1 (not_true v.hidden marks.0) marks.1 l (inl c.1);
      free_leaf = subst (λ (x : ImageRow). attached_as (image_uuid x.name) s ≡ None) l.is_child (none_of_some (attached_as (image_uuid v.name) s) (not_true (is_some (attached_as (image_uuid v.name) s)) b.0));
      parent_vhd = c.1;
    }

-- a live leaf is attached, and its parent is a VHD image
pub record IsLiveLeaf (s : Shape) (pair : Pair) : Type 0 where
  pub foldable : IsFoldable s false pair
  pub attached : is_some (attached_as (image_uuid pair.child.name) s) ≡ true
  pub parent_vhd : is_vhd pair.parent.name ≡ true

pub chosen_live : (s : Shape) (pair : Pair) → In pair (lives s) → IsLiveLeaf s pair
unfolding live_of
chosen_live s pair h =
    let r : (v : ImageRow) × In v s.images × (live_of s v ≡ Some pair) = In-filter_map (live_of s) s.images pair h in
    let v : ImageRow = r.0 in
    let a = given_some (not v.hidden && is_vhd v.name) v _ pair r.2 in
    let b = given_some (is_some (attached_as (image_uuid v.name) s)) v _ pair a.1 in
    let marks : (not v.hidden ≡ true) × (is_vhd v.name ≡ true) = and_parts (not v.hidden) (is_vhd v.name) a.0 in
    let c : (with_parent s v ≡ Some pair) × (is_vhd pair.parent.name ≡ true) = last_step s v pair (λ (p : Pair). is_vhd p.parent.name) b.1 in
    let l : IsLinked s v pair = linked_pair s v pair c.0 in
    record {
      foldable = foldable_from s false v pair r.1 (not_true v.hidden marks.0) marks.1 l (inl c.1);
      attached = subst (λ (x : ImageRow). is_some (attached_as (image_uuid x.name) s) ≡ true) l.is_child b.0;
      parent_vhd = c.1;
    }

-- ---- the parent gets room and the child's size

only_one : {A : Type 0} (xs : List A) (x y : A) → length xs ≡ 1 → In x xs → In y xs → x ≡ y
only_one [] x y e h k = absurd h
only_one (a ∷ []) x y e (inl p) (inl q) = p ∙ sym q
only_one (a ∷ []) x y e (inl p) (inr k) = absurd k
only_one (a ∷ []) x y e (inr h) k = absurd h
only_one (a ∷ b ∷ xs) x y e h k = let r : suc (suc (length xs)) ≡ 1 = e in absurd (too_long (length xs) r)
  where
    too_long : (n : ℕ) → suc (suc n) ≡ 1 → ⊥
    too_long n r = omega arith

module _ (s : Shape) (w : IsWellFormed s) (hidden : Bool) (pair : Pair) (f : IsFoldable s hidden pair) (enough : fits s pair ≡ true) where
  abbrev child : ImageRow
  child = pair.child

  abbrev parent : ImageRow
  parent = pair.parent

  abbrev to : ℕ
  to = target s pair

  abbrev grow : ImageRow → ImageRow
  grow y = record y { size = size_of child.name s; extents = to }

  abbrev on_grow : ImageRow → ImageRow
  on_grow y = when (is_image parent.name y) grow y

  grow_key : {B : Type 0} (k : ImageRow → B) → ((y : ImageRow) → k (grow y) ≡ k y) → (y : ImageRow) → k (on_grow y) ≡ k y
  grow_key k h y = when-key k grow h (is_image parent.name y) y

  grow_names : (y : ImageRow) → (on_grow y).name ≡ y.name
  grow_names = grow_key (λ (x : ImageRow). x.name) (λ y. refl)

  grow_marks : (y : ImageRow) → (on_grow y).hidden ≡ y.hidden
  grow_marks = grow_key (λ (x : ImageRow). x.hidden) (λ y. refl)

  grow_links : (y : ImageRow) → (on_grow y).parent ≡ y.parent
  grow_links = grow_key (λ (x : ImageRow). x.parent) (λ y. refl)

  child_size : size_of child.name s ≡ child.size
  child_size = ap size_by (found_row s w child f.child_there)
    where
      size_by : Option ImageRow → ℕ
      size_by o = elim o [ None ↦ 0 | Some i ↦ i.size ]

  only_child : (i : ImageRow) → In i s.images → i.parent ≡ Some parent.name → i ≡ child
  unfolding children
  only_child i h e =
      let one : length (children parent.name s.images) ≡ 1 = eqb-true _ _ f.one in
      let is : (j : ImageRow) → j.parent ≡ Some parent.name → is_parent parent.name j.parent ≡ true = λ (j : ImageRow) (q : j.parent ≡ Some parent.name). ap (is_parent parent.name) q ∙ same_image-refl parent.name (w.images parent f.parent_there).named in
      only_one (children parent.name s.images) i child one
      (filter-In (λ (x : ImageRow). is_parent parent.name x.parent) s.images i h (is i e))
      (filter-In (λ (x : ImageRow). is_parent parent.name x.parent) s.images child f.child_there (is child f.link))

  parent_row : HasParent s.images child parent.name
  parent_row = w.parents child parent.name f.child_there f.link

  parent_same : parent_row.parent ≡ parent
  parent_same = Distinct-key (λ (x : ImageRow). image_uuid x.name) s.images parent_row.parent parent w.one_image parent_row.there f.parent_there (ap image_uuid parent_row.is_named)

  parent_hidden : parent.hidden ≡ true
  parent_hidden = sym (ap (λ (x : ImageRow). x.hidden) parent_same) ∙ parent_row.is_hidden

  parent_smaller : parent.size ≤ child.size
  parent_smaller = subst (λ (x : ImageRow). x.size ≤ child.size) parent_same parent_row.not_larger

  target_by : (c : Bool) → is_vhd parent.name ≡ c → (parent.extents ≤ to) × (c ≡ false → to ≡ parent.extents)
  unfolding target
  target_by true e = (subst (λ (n : ℕ). parent.extents ≤ n) (sym (ap target_of e)) (omega arith), λ q. cc)
    where
      target_of : Bool → ℕ
      target_of c = elim c [ true ↦ max parent.extents (needed s pair) | false ↦ parent.extents ]
  target_by false e = (subst (λ (n : ℕ). parent.extents ≤ n) (sym (ap target_of e)) (omega arith), λ q. ap target_of e)
    where
      target_of : Bool → ℕ
      target_of c = elim c [ true ↦ max parent.extents (needed s pair) | false ↦ parent.extents ]

  at_least : parent.extents ≤ to
  at_least = (target_by (is_vhd parent.name) refl).0

  fits_free : to - parent.extents ≤ free s
  fits_free = leb-true (to - parent.extents) (free s) enough

  room_good : s.others + image_extents (map on_grow s.images) ≤ s.extents
  unfolding free
  room_good =
      let e : image_extents (map on_grow s.images) + parent.extents ≡ image_extents s.images + to =
      extents-change_one (is_image parent.name) grow s.images parent w.one_image f.parent_there (is_itself s w parent f.parent_there) (λ y h q. same_row s w parent y f.parent_there h q) in
      let h : to - parent.extents ≤ s.extents - (s.others + image_extents s.images) = fits_free in
      let r : s.others + image_extents s.images ≤ s.extents = w.room in
      let a : parent.extents ≤ to = at_least in
      omega arith

  -- a raw parent has the child's size already, and keeps its extents
  raw_same : is_vhd parent.name ≡ false → (child.size ≡ parent.size) × (to ≡ parent.extents)
  raw_same v = (elim f.kind [ inl e ↦ (let r : true ≡ false = sym e ∙ v in cc) | inr e ↦ sym e ], (target_by (is_vhd parent.name) refl).1 v)

  good_by : (y : ImageRow) (c : Bool) → is_image parent.name y ≡ c → In y s.images → IsImageRow s (when c grow y)
  good_by y true e h =
      let same : y ≡ parent = same_row s w parent y f.parent_there h e in
      let g : IsImageRow s y = w.images y h in
      let k : IsImageRow s parent = w.images parent f.parent_there in
      let z : size_of child.name s ≡ child.size = child_size in
      let a : parent.extents ≤ to = at_least in
      let positive : 0 < parent.extents = k.volume in
      record {
        named = g.named;
        whole = subst (IsSize s) (sym z) (w.images child f.child_there).whole;
        volume = omega arith;
        table = g.table;
        raw = λ v. (let v' : is_vhd parent.name ≡ false = sym (ap (λ (x : ImageRow). is_vhd x.name) same) ∙ v in
            let r : (child.size ≡ parent.size) × (to ≡ parent.extents) = raw_same v' in
            ((g.raw v).0, z ∙ (r.0 ∙ ((k.raw v').1 ∙ ap (λ (n : ℕ). n * s.extent) (sym r.1)))));
      }
  good_by y false e h = w.images y h

  when_not : (c : Bool) (y : ImageRow) → c ≡ false → when c grow y ≡ y
  when_not true y e = cc
  when_not false y e = refl

  other_kept : (y : ImageRow) → (y.name ≡ parent.name → ⊥) → on_grow y ≡ y
  other_kept y h = when_not (is_image parent.name y) y (other_image y.name parent.name h)

  child_kept : on_grow child ≡ child
  child_kept = other_kept child (λ e. parent_apart s w child parent.name f.child_there f.link e)

  size_by : (y : ImageRow) (c : Bool) → is_image parent.name y ≡ c → In y s.images → y.size ≤ (when c grow y).size
  size_by y true e h =
      let same : y ≡ parent = same_row s w parent y f.parent_there h e in
      let z : size_of child.name s ≡ child.size = child_size in
      let l : parent.size ≤ child.size = parent_smaller in
      let q : y.size ≡ parent.size = ap (λ (x : ImageRow). x.size) same in
      omega arith
  size_by y false e h = omega arith

  -- the parent's only child is as large as it gets
  sizes_by : (y q : ImageRow) (c : Bool) → is_image parent.name q ≡ c → In y s.images → In q s.images → y.parent ≡ Some q.name → q.size ≤ y.size → (when c grow q).size ≤ (on_grow y).size
  sizes_by y q true e h k l m =
      let n : q.name ≡ parent.name = same_image-sound q.name parent.name e in
      let same : y ≡ child = only_child y h (l ∙ ap Some n) in
      let z : size_of child.name s ≡ child.size = child_size in
      let r : (on_grow y).size ≡ child.size = ap (λ (x : ImageRow). (on_grow x).size) same ∙ ap (λ (x : ImageRow). x.size) child_kept in
      omega arith
  sizes_by y q false e h k l m = let r : y.size ≤ (on_grow y).size = size_by y (is_image parent.name y) refl h in omega arith

  abbrev pub grown_shape : Op → Shape
  grown_shape o = record s { images = map on_grow s.images; attached = s.attached; op = o }

  pub begin_keeps : (o : Op) → IsOperation (grown_shape o) o → IsWellFormed (grown_shape o)
  begin_keeps o operation = keeps_mapped s w on_grow grow_names grow_marks grow_links s.attached o room_good
      (λ y h. good_by y (is_image parent.name y) refl h)
      (λ y q h k hid e l. sizes_by y q (is_image parent.name q) refl h k e l)
      (attachments_mapped s w on_grow grow_names grow_marks grow_links s.attached o refl
      (λ a y h m k hid u v l. subst (λ (x : ImageRow). thick_in s x.size ≤ x.extents) (sym (other_kept y (λ e.
      let same : y ≡ parent = Distinct-key (λ (x : ImageRow). image_uuid x.name) s.images y parent w.one_image k f.parent_there (ap image_uuid e) in
      let r : false ≡ true = sym hid ∙ (ap (λ (x : ImageRow). x.hidden) same ∙ parent_hidden) in cc))) l))
      operation

  pub begin_only : (o : Op) → IsOnlyChild (grown_shape o) hidden child.name parent.name
  begin_only o = record {
    link = record {
      child = child;
      there = subst (λ (x : ImageRow). In x (map on_grow s.images)) child_kept (In-map_at on_grow s.images child f.child_there);
      is_named = refl;
      is_shown = f.shown;
      vhd = f.vhd;
      linked = f.link;
    };
    only = λ i h e. (let r : (y : ImageRow) × In y s.images × (i ≡ on_grow y) = In-map on_grow s.images i h in
        let q : r.0.parent ≡ Some parent.name = sym (ap (λ (x : ImageRow). x.parent) r.2 ∙ grow_links r.0) ∙ e in
        ap (λ (x : ImageRow). x.name) r.2 ∙ (grow_names r.0 ∙ ap (λ (x : ImageRow). x.name) (only_child r.0 r.1 q)));
    same_size = λ q h e. (let r : (y : ImageRow) × In y s.images × (q ≡ on_grow y) = In-map on_grow s.images q h in
        let n : r.0.name ≡ parent.name = sym (ap (λ (x : ImageRow). x.name) r.2 ∙ grow_names r.0) ∙ e in
        let t : is_image parent.name r.0 ≡ true = ap (λ (m : Name). same_image m parent.name) n ∙ same_image-refl parent.name (w.images parent f.parent_there).named in
        ap (λ (x : ImageRow). x.size) r.2 ∙ (grown_size r.0 (is_image parent.name r.0) t ∙ child_size));
  }
    where
      grown_size : (y : ImageRow) (c : Bool) → c ≡ true → (when c grow y).size ≡ size_of child.name s
      grown_size y true e = refl
      grown_size y false e = cc

  -- where the child is written to the parent gets room for all its blocks
  pub begin_thick : is_vhd parent.name ≡ true → is_written s child ≡ true → (q : ImageRow) → In q (map on_grow s.images) → q.name ≡ parent.name → thick_in s q.size ≤ q.extents
  unfolding target
  begin_thick vhd written q h e =
      let r : (y : ImageRow) × In y s.images × (q ≡ on_grow y) = In-map on_grow s.images q h in
      let n : r.0.name ≡ parent.name = sym (ap (λ (x : ImageRow). x.name) r.2 ∙ grow_names r.0) ∙ e in
      let t : is_image parent.name r.0 ≡ true = ap (λ (m : Name). same_image m parent.name) n ∙ same_image-refl parent.name (w.images parent f.parent_there).named in
      subst (λ (z : ImageRow). thick_in s z.size ≤ z.extents) (sym r.2) (grown_thick r.0 (is_image parent.name r.0) t)
    where
      all : (c d : Bool) → c ≡ true → d ≡ true → thick_in s child.size ≤ elim c as (λ _. ℕ) [ true ↦ max parent.extents (elim d as (λ _. ℕ) [ true ↦ thick_in s child.size | false ↦ thin_in s (max (top parent.slots) (count_either parent.slots child.slots)) ]) | false ↦ parent.extents ]
      all true true e f = omega arith
      all true false e f = cc
      all false d e f = cc

      grown_thick : (y : ImageRow) (c : Bool) → c ≡ true → thick_in s (when c grow y).size ≤ (when c grow y).extents
      grown_thick y true e = subst (λ (k : ℕ). thick_in s k ≤ to) (sym child_size) (all (is_vhd parent.name) (is_written s child) vhd written)
      grown_thick y false e = cc

-- users see the same images
module _ (s : Shape) (w : IsWellFormed s) (hidden : Bool) (pair : Pair) (f : IsFoldable s hidden pair) (enough : fits s pair ≡ true) where
  pub begin_seen : AreSeen s.images (on_image pair.parent.name (grow s w hidden pair f enough) s.images)
  begin_seen = seen_map (on_grow s w hidden pair f enough) s.images (λ y. ap image_uuid (grow_names s w hidden pair f enough y)) (grow_marks s w hidden pair f enough)
      (λ y h e. ap (λ (x : ImageRow). x.size) (other_kept s w hidden pair f enough y (λ n.
      let same : y ≡ pair.parent = Distinct-key (λ (x : ImageRow). image_uuid x.name) s.images y pair.parent w.one_image h f.parent_there (ap image_uuid n) in
      let r : false ≡ true = sym e ∙ (ap (λ (x : ImageRow). x.hidden) same ∙ parent_hidden s w hidden pair f enough) in cc)))
