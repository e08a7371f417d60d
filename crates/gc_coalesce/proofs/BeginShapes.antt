-- The machine's shape where the collector's next step begins a copy, of a hidden image or of a disk's leaf: what the step says of the image and its parent, and that
-- the two ways to the shape behind it agree: at once, and once the parent has its extents and the child's size.
use Rattle.std.proofs.Common.{◌≡◌, ℕ, suc, ◌+◌, ◌-◌, ◌<◌, ◌≤◌, inl, inr, ◌&&◌, not, Bool, true, false, max, nat_lt, is_some, List, [], ◌∷◌, ◌++◌, length, map, Option, Some, None, refl, sym, ap, ap₂, ◌∙◌, subst, subst₂, arith}
use Rattle.std.proofs.Math.Logic.{∥∥₁_elim}
use Rattle.std.proofs.Props.{props}
use Rattle.std.specs.List.{find}
use Rattle.std.specs.Option.{option_map}
use Rattle.std.proofs.lemmas.Bool.{eqb-true, leb-true, le-ltb, lt-ltb, true≢false}
use Rattle.common_laws.specs.Lists.{In, when}
use Rattle.common_laws.proofs.Lists.{Distinct-key, In-map, In-map_at, filter-In, find-some}
use Rattle.sm_base.specs.declared.names.Name.{Name}
use Rattle.sm_machine.specs.Operations as op
use Rattle.sm_base.specs.declared.operations.Plan.{Plan}
use Rattle.sm_base.specs.declared.operations.Plan.TheVariants as plan
use Rattle.sm_machine.specs.Collector.{Pair, blocked, count_either, enlarged, fits, is_garbage, is_loose, is_written, leaves, lives, needed, next_step, pairs, plan_idle, plan_running, size_of, target}
use Rattle.sm_machine.specs.Commits.{extents_of, growth_commits}
use Rattle.sm_machine.specs.Laws.{MayGrow}
use Rattle.sm_machine.specs.Shapes.{ImageRow, Shape, attached_as, children, find_image, free, image_uuid, is_image, is_parent, is_rw, is_vhd, on_image, risen, same_image, thick_in, thin_in, top}
use Rattle.sm_machine.specs.Steps.{shape_next}
use Rattle.sm_machine.specs.WellFormed.{HasParent, IsOnlyChild, IsWellFormed}
use Rattle.sm_machine.specs.declared.commands.Command.TheVariants.{Gc}
use Rattle.sm_machine.proofs.Begins.{IsFoldable, chosen_leaf, chosen_live, chosen_pair}
use Rattle.sm_machine.proofs.Changes.{find-map, when-key}
use Rattle.sm_machine.proofs.Collects.{same_row}
use Rattle.sm_machine.proofs.Debts.{found_row, is_itself, parent_apart}
use Rattle.sm_machine.proofs.ImageNames.{other_image, same_image-refl}
use Rattle.sm_ready.specs.Orderly.{IsRoomyFor}
use Rattle.gc_coalesce.specs.Beginning.{CanBegin, CanEnter, IsLeafOver, begins, entered, raised}
use Rattle.gc_coalesce.specs.Copying.{copy_of, is_hidden}
use Rattle.gc_coalesce.specs.declared.kinds.Kind.{Kind}
use Rattle.gc_coalesce.specs.declared.kinds.Kind.TheVariants as kinds
use Rattle.gc_coalesce.proofs.CopyKinds.{IsLeafIn, begins_idle, begun_of}
use Rattle.gc_coalesce.proofs.PlannedLaws.{gc_shape}

-- ---- what the plan says

abbrev pairs_of : Kind → Shape → List Pair
pairs_of kinds.Hidden s = pairs s
pairs_of kinds.Leaf s = leaves s
pairs_of kinds.Live s = lives s

-- the step begins a copy of this pair
pub record IsPlanned (s : Shape) (k : Kind) (v p : Name) (to : ℕ) : Type 0 where
  pub pair : Pair
  pub there : In pair (pairs_of k s)
  pub enough : fits s pair ≡ true
  pub idle : s.op ≡ op.Idle
  pub child : pair.child.name ≡ v
  pub parent : pair.parent.name ≡ p
  pub extents : target s pair ≡ to

module _ (s : Shape) (v p : Name) (to : ℕ) where
  not_blocked : (k : Kind) (ps : List Pair) → blocked s ps ≡ begins k v p to → ⊥
  not_blocked kinds.Hidden [] e = (let z = e in cc)
  not_blocked kinds.Hidden (x ∷ xs) e = (let z = e in cc)
  not_blocked kinds.Leaf [] e = (let z = e in cc)
  not_blocked kinds.Leaf (x ∷ xs) e = (let z = e in cc)
  not_blocked kinds.Live [] e = (let z = e in cc)
  not_blocked kinds.Live (x ∷ xs) e = (let z = e in cc)

  chosen : (k : Kind) (x : Pair) → find (fits s) (pairs_of k s) ≡ Some x → s.op ≡ op.Idle → begins k x.child.name x.parent.name (target s x) ≡ begins k v p to → IsPlanned s k v p to
  chosen k x found idle e =
      let f = find-some (fits s) (pairs_of k s) x found in
      let n = names k e in
      record { pair = x; there = f.0; enough = f.1; idle = idle; child = n.0; parent = n.1; extents = n.2 }
    where
      names : (k : Kind) → begins k x.child.name x.parent.name (target s x) ≡ begins k v p to → (x.child.name ≡ v) × (x.parent.name ≡ p) × (target s x ≡ to)
      names kinds.Hidden e = ((let n : x.child.name ≡ v = cc in n), (let n : x.parent.name ≡ p = cc in n), (let n : target s x ≡ to = cc in n))
      names kinds.Leaf e = ((let n : x.child.name ≡ v = cc in n), (let n : x.parent.name ≡ p = cc in n), (let n : target s x ≡ to = cc in n))
      names kinds.Live e = ((let n : x.child.name ≡ v = cc in n), (let n : x.parent.name ≡ p = cc in n), (let n : target s x ≡ to = cc in n))

  -- the plan of a collector that is at rest, by the first image or pair of each rule
  abbrev by_rule : Option ImageRow → Option ImageRow → Option Pair → Option Pair → Option Pair → Plan
  by_rule g l q r o = elim g [
    | Some i ↦ plan.Remove i.name
    | None ↦ elim l [
      | Some i ↦ plan.Deflate i.name (thin_in s (top i.slots))
      | None ↦ elim q [
        | Some x ↦ plan.Begin x.child.name x.parent.name (target s x)
        | None ↦ elim r [
          | Some x ↦ plan.Leaf x.child.name x.parent.name (target s x)
          | None ↦ elim o [ Some x ↦ plan.Live x.child.name x.parent.name (target s x) | None ↦ blocked s (pairs s ++ (leaves s ++ lives s)) ]
        ]
      ]
    ]
  ]

  by_rules : (k : Kind) (g l : Option ImageRow) (q r o : Option Pair) → find (fits s) (pairs s) ≡ q → find (fits s) (leaves s) ≡ r → find (fits s) (lives s) ≡ o → s.op ≡ op.Idle → by_rule g l q r o ≡ begins k v p to
      → IsPlanned s k v p to
  by_rules kinds.Hidden (Some i) l q r o pair leaf live idle e = absurd (let z = e in cc)
  by_rules kinds.Hidden None (Some i) q r o pair leaf live idle e = absurd (let z = e in cc)
  by_rules kinds.Hidden None None (Some x) r o pair leaf live idle e = chosen kinds.Hidden x pair idle e
  by_rules kinds.Hidden None None None (Some x) o pair leaf live idle e = absurd (let z = e in cc)
  by_rules kinds.Hidden None None None None (Some x) pair leaf live idle e = absurd (let z = e in cc)
  by_rules kinds.Hidden None None None None None pair leaf live idle e = absurd (not_blocked kinds.Hidden (pairs s ++ (leaves s ++ lives s)) e)
  by_rules kinds.Leaf (Some i) l q r o pair leaf live idle e = absurd (let z = e in cc)
  by_rules kinds.Leaf None (Some i) q r o pair leaf live idle e = absurd (let z = e in cc)
  by_rules kinds.Leaf None None (Some x) r o pair leaf live idle e = absurd (let z = e in cc)
  by_rules kinds.Leaf None None None (Some x) o pair leaf live idle e = chosen kinds.Leaf x leaf idle e
  by_rules kinds.Leaf None None None None (Some x) pair leaf live idle e = absurd (let z = e in cc)
  by_rules kinds.Leaf None None None None None pair leaf live idle e = absurd (not_blocked kinds.Leaf (pairs s ++ (leaves s ++ lives s)) e)
  by_rules kinds.Live (Some i) l q r o pair leaf live idle e = absurd (let z = e in cc)
  by_rules kinds.Live None (Some i) q r o pair leaf live idle e = absurd (let z = e in cc)
  by_rules kinds.Live None None (Some x) r o pair leaf live idle e = absurd (let z = e in cc)
  by_rules kinds.Live None None None (Some x) o pair leaf live idle e = absurd (let z = e in cc)
  by_rules kinds.Live None None None None (Some x) pair leaf live idle e = chosen kinds.Live x live idle e
  by_rules kinds.Live None None None None None pair leaf live idle e = absurd (not_blocked kinds.Live (pairs s ++ (leaves s ++ lives s)) e)

  by_idle : (k : Kind) → s.op ≡ op.Idle → plan_idle s ≡ begins k v p to → IsPlanned s k v p to
  unfolding plan_idle
  by_idle k idle e = by_rules k (find (is_garbage s) s.images) (find (is_loose s) s.images) (find (fits s) (pairs s)) (find (fits s) (leaves s)) (find (fits s) (lives s)) refl refl refl idle e

  pub planned : (k : Kind) → next_step s ≡ begins k v p to → IsPlanned s k v p to
  unfolding next_step plan_running
  planned k e =
      let idle = begins_idle s k v p to s.op e in
      by_idle k idle (sym (ap (plan_running s) idle) ∙ e)

-- ---- lists

one_of : {A : Type 0} (xs : List A) (x y : A) → length xs ≡ 1 → In x xs → In y xs → x ≡ y
one_of [] x y e h k = absurd h
one_of (a ∷ []) x y e (inl q) (inl r) = q ∙ sym r
one_of (a ∷ []) x y e (inl q) (inr k) = absurd k
one_of (a ∷ []) x y e (inr h) k = absurd h
one_of (a ∷ b ∷ xs) x y e h k = absurd (let l : suc (suc (length xs)) ≡ 1 = e in omega (arith, l))

map_in : {A B : Type 0} (f g : A → B) (xs : List A) → ((x : A) → In x xs → f x ≡ g x) → map f xs ≡ map g xs
map_in f g [] same = refl
map_in f g (x ∷ xs) same = ap₂ (λ y ys. y ∷ ys) (same x (inl refl)) (map_in f g xs (λ y i. same y (inr i)))

-- an image that is changed twice
twice : (n : Name) (f g : ImageRow → ImageRow) → ((y : ImageRow) → (g y).name ≡ y.name) → (xs : List ImageRow) → on_image n f (on_image n g xs) ≡ on_image n (λ i. f (g i)) xs
twice n f g same [] = refl
twice n f g same (x ∷ xs) = ap₂ (λ y ys. y ∷ ys) (by (is_image n x) refl) (twice n f g same xs)
  where
    by : (b : Bool) → is_image n x ≡ b → when (is_image n (when b g x)) f (when b g x) ≡ when b (λ i. f (g i)) x
    by true e = ap (λ c. when c f (g x)) (ap (λ m. same_image m n) (same x) ∙ e)
    by false e = ap (λ c. when c f x) e

abbrev size_by : Option ImageRow → ℕ
size_by None = 0
size_by (Some i) = i.size

-- ---- where a step begins a copy

module _ (s : Shape) (k : Kind) (v p : Name) (to : ℕ) (x : ∥ IsWellFormed s ∥₁) (h : IsPlanned s k v p to) where
  abbrev child : ImageRow
  child = h.pair.child

  abbrev parent : ImageRow
  parent = h.pair.parent

  pub foldable : IsFoldable s (is_hidden k) h.pair
  foldable = by k h.there
    where
      by : (c : Kind) → In h.pair (pairs_of c s) → IsFoldable s (is_hidden c) h.pair
      by kinds.Hidden there = chosen_pair s h.pair there
      by kinds.Leaf there = (chosen_leaf s h.pair there).foldable
      by kinds.Live there = (chosen_live s h.pair there).foldable

  pub parent_smaller : h.pair.parent.size ≤ h.pair.child.size
  parent_smaller = ∥∥₁_elim x (hlevel props) (λ w.
      let q = w.parents h.pair.child h.pair.parent.name foldable.child_there foldable.link in
      subst (λ (y : ImageRow). y.size ≤ h.pair.child.size)
      (Distinct-key (λ (y : ImageRow). image_uuid y.name) s.images q.parent h.pair.parent w.one_image q.there foldable.parent_there (ap image_uuid q.is_named)) q.not_larger)

  -- the extents for the blocks of both
  abbrev pub blocks_need : ℕ
  blocks_need = thin_in s (max (top h.pair.parent.slots) (count_either h.pair.parent.slots h.pair.child.slots))

  only_child : (i : ImageRow) → In i s.images → i.parent ≡ Some h.pair.parent.name → i ≡ h.pair.child
  unfolding children
  only_child i there e =
      let one : length (children parent.name s.images) ≡ 1 = eqb-true _ _ foldable.one in
      let own : same_image parent.name parent.name ≡ true = ∥∥₁_elim x (hlevel props) (λ w. is_itself s w parent foldable.parent_there) in
      let is : (j : ImageRow) → j.parent ≡ Some parent.name → is_parent parent.name j.parent ≡ true = λ (j : ImageRow) (q : j.parent ≡ Some parent.name). ap (is_parent parent.name) q ∙ own in
      one_of (children parent.name s.images) i child one
      (filter-In (λ (j : ImageRow). is_parent parent.name j.parent) s.images i there (is i e))
      (filter-In (λ (j : ImageRow). is_parent parent.name j.parent) s.images child foldable.child_there (is child foldable.link))

  -- the extents that the parent is to have
  to_vhd : is_vhd h.pair.parent.name ≡ true → to ≡ max h.pair.parent.extents (needed s h.pair)
  unfolding target
  to_vhd e = sym h.extents ∙ ap (λ c. elim c as (λ _. ℕ) [ true ↦ max h.pair.parent.extents (needed s h.pair) | false ↦ h.pair.parent.extents ]) e

  to_raw : is_vhd h.pair.parent.name ≡ false → to ≡ h.pair.parent.extents
  unfolding target
  to_raw e = sym h.extents ∙ ap (λ c. elim c as (λ _. ℕ) [ true ↦ max h.pair.parent.extents (needed s h.pair) | false ↦ h.pair.parent.extents ]) e

  abbrev need_by : Bool → ℕ
  need_by c = elim c [ true ↦ thick_in s h.pair.child.size | false ↦ blocks_need ]

  -- all blocks of a child that is written to
  pub to_thick : is_vhd h.pair.parent.name ≡ true → is_written s h.pair.child ≡ true → thick_in s h.pair.child.size ≤ to
  to_thick vhd written = let is : needed s h.pair ≡ thick_in s h.pair.child.size = ap need_by written in omega (arith, to_vhd vhd, is)

  -- and what is asked of a leaf besides, by its kind, also in a shape with the same attachments and geometry
  leaf_over : (τ : Shape) → attached_as (image_uuid h.pair.child.name) τ ≡ attached_as (image_uuid h.pair.child.name) s → thick_in τ h.pair.child.size ≡ thick_in s h.pair.child.size
      → (q : ImageRow) → q.name ≡ h.pair.parent.name → to ≤ q.extents → IsLeafOver τ k h.pair.child q
  leaf_over τ mode thick q named enough = by k h.there
    where
      shown : (b : Bool) → b ≡ false → is_rw (attached_as (image_uuid h.pair.child.name) s) ≡ true → not b && is_rw (attached_as (image_uuid h.pair.child.name) s) ≡ true
      shown true e rw = absurd (true≢false e)
      shown false e rw = rw

      by : (c : Kind) → In h.pair (pairs_of c s) → IsLeafOver τ c h.pair.child q
      by kinds.Hidden there = tt
      by kinds.Leaf there = (let l = chosen_leaf s h.pair there in (ap is_vhd named ∙ l.parent_vhd, mode ∙ l.free_leaf))
      by kinds.Live there =
          let l = chosen_live s h.pair there in (
            ap is_vhd named ∙ l.parent_vhd,
            ap is_some mode ∙ l.attached,
            λ rw. (let all = to_thick l.parent_vhd (shown h.pair.child.hidden l.foldable.shown (sym (ap is_rw mode) ∙ rw)) in omega (arith, all, thick, enough)),
          )

  pub at_least : h.pair.parent.extents ≤ to
  at_least = by (is_vhd parent.name) refl
    where
      by : (b : Bool) → is_vhd h.pair.parent.name ≡ b → h.pair.parent.extents ≤ to
      by true e = omega (arith, to_vhd e)
      by false e = omega (arith, to_raw e)

  -- a parent that gains extents is a VHD image
  pub grows_vhd : h.pair.parent.extents < to → is_vhd p ≡ true
  grows_vhd less = ap is_vhd (sym h.parent) ∙ by (is_vhd parent.name) refl
    where
      by : (b : Bool) → is_vhd h.pair.parent.name ≡ b → b ≡ true
      by true e = refl
      by false e = absurd (omega (arith, less, to_raw e))

  pub gains_free : to - h.pair.parent.extents ≤ free s
  gains_free = omega (arith, leb-true (target s h.pair - parent.extents) (free s) h.enough, h.extents)

  -- where a parent with extents for all blocks of its child has them for the blocks of both
  abbrev pub IsRoomyThick : Type 0
  IsRoomyThick = is_vhd h.pair.parent.name ≡ true → thick_in s h.pair.child.size ≤ to → blocks_need ≤ to

  room : IsRoomyThick → is_vhd h.pair.parent.name ≡ true → blocks_need ≤ to
  room roomy vhd = by (is_written s h.pair.child) refl
    where
      by : (c : Bool) → is_written s h.pair.child ≡ c → blocks_need ≤ to
      by true e = roomy vhd (to_thick vhd e)
      by false e = let is : needed s h.pair ≡ blocks_need = ap need_by e in omega (arith, to_vhd vhd, is)

  -- no extents are wanting
  pub can_begin : IsRoomyThick → to ≤ h.pair.parent.extents → CanBegin s k v p
  can_begin roomy most = subst₂ (CanBegin s k) h.child h.parent (record {
    pair = record {
      child = child;
      parent = parent;
      child_there = foldable.child_there;
      parent_there = foldable.parent_there;
      child_named = refl;
      parent_named = refl;
      vhd = foldable.vhd;
      linked = foldable.link;
      only = only_child;
      kind = foldable.kind;
      room = λ e. omega (arith, room roomy e, most);
      idle = h.idle;
    };
    shown = foldable.shown;
    leaf = leaf_over s refl refl parent refl most;
  })

  -- ---- once it has them

  abbrev widen : ImageRow → ImageRow
  widen i = record i { extents = to }

  abbrev at : ImageRow → ImageRow
  at y = when (is_image h.pair.parent.name y) widen y

  abbrev wide : ℕ → Shape
  wide j = record s { sequence = j; images = on_image h.pair.parent.name widen s.images }

  child_same : at h.pair.child ≡ h.pair.child
  child_same = ap (λ b. when b widen child) (other_image child.name parent.name (∥∥₁_elim x (hlevel props) (λ w. parent_apart s w child parent.name foldable.child_there foldable.link)))

  parent_now : at h.pair.parent ≡ widen h.pair.parent
  parent_now = ap (λ b. when b widen parent) (∥∥₁_elim x (hlevel props) (λ w. is_itself s w parent foldable.parent_there))

  parent_key : (y : ImageRow) → (at y).parent ≡ y.parent
  parent_key y = when-key (λ (i : ImageRow). i.parent) widen (λ i. refl) (is_image parent.name y) y

  name_key : (y : ImageRow) → (at y).name ≡ y.name
  name_key y = when-key (λ (i : ImageRow). i.name) widen (λ i. refl) (is_image parent.name y) y

  pub can_begin_wide : IsRoomyThick → (j : ℕ) → CanBegin (record s { sequence = j; images = on_image p (λ i. record i { extents = to }) s.images }) k v p
  can_begin_wide roomy j = subst₂ (λ a b. CanBegin (record s { sequence = j; images = on_image b (λ i. record i { extents = to }) s.images }) k a b) h.child h.parent (record {
    pair = record {
      child = child;
      parent = widen parent;
      child_there = subst (λ y. In y (map at s.images)) child_same (In-map_at at s.images child foldable.child_there);
      parent_there = subst (λ y. In y (map at s.images)) parent_now (In-map_at at s.images parent foldable.parent_there);
      child_named = refl;
      parent_named = refl;
      vhd = foldable.vhd;
      linked = foldable.link;
      only = λ i there e. (let y = In-map at s.images i there in
          let is = only_child y.0 y.1 (sym (ap (λ (z : ImageRow). z.parent) y.2 ∙ parent_key y.0) ∙ e) in
          y.2 ∙ ap at is ∙ child_same);
      kind = foldable.kind;
      room = room roomy;
      idle = h.idle;
    };
    shown = foldable.shown;
    leaf = leaf_over (wide j) refl refl (widen parent) refl (omega arith);
  })

  -- ---- the shape behind the step

  child_found : find_image h.pair.child.name s.images ≡ Some h.pair.child
  child_found = ∥∥₁_elim x (hlevel props) (λ w. found_row s w child foldable.child_there)

  child_size : size_of h.pair.child.name s ≡ h.pair.child.size
  child_size = ap size_by child_found

  child_size_wide : (j : ℕ) → size_of h.pair.child.name (wide j) ≡ h.pair.child.size
  child_size_wide j = ap size_by (find-map (is_image child.name) at (λ y. ap (λ n. same_image n child.name) (name_key y)) s.images ∙ ap (option_map at) child_found ∙ ap Some child_same)

  parent_extents : extents_of h.pair.parent.name s ≡ h.pair.parent.extents
  parent_extents = ap (λ (o : Option ImageRow). elim o as (λ _. ℕ) [ None ↦ 0 | Some i ↦ i.extents ]) (∥∥₁_elim x (hlevel props) (λ w. found_row s w parent foldable.parent_there))

  abbrev begun : ℕ → Shape
  begun n = record s { sequence = n; images = enlarged h.pair.child.name h.pair.parent.name to s; op = copy_of k h.pair.child.name h.pair.parent.name 0 [] }

  next_is : next_step s ≡ begins k h.pair.child.name h.pair.parent.name to → shape_next s Gc ≡ begun (risen s.sequence (0 + (growth_commits (nat_lt (extents_of h.pair.parent.name s) to) + 1)))
  next_is e = gc_shape s _ e ∙ begun_of s k h.pair.child.name h.pair.parent.name to (λ n. risen s.sequence (0 + n))

  commits_by : (b : Bool) → nat_lt h.pair.parent.extents to ≡ b → next_step s ≡ begins k h.pair.child.name h.pair.parent.name to → shape_next s Gc ≡ begun (risen s.sequence (0 + (growth_commits b + 1)))
  commits_by b is e = next_is e ∙ ap (λ c. begun (risen s.sequence (0 + (growth_commits c + 1)))) (ap (λ n. nat_lt n to) parent_extents ∙ is)

  named_step : next_step s ≡ begins k v p to → next_step s ≡ begins k h.pair.child.name h.pair.parent.name to
  named_step e = e ∙ ap₂ (λ a b. begins k a b to) (sym h.child) (sym h.parent)

  pub entered_next : to ≤ h.pair.parent.extents → next_step s ≡ begins k v p to → entered k v p s ≡ shape_next s Gc
  entered_next most e =
      let same : parent.extents ≡ to = omega (arith, most, at_least) in
      sym (ap₂ (λ a b. entered k a b s) h.child h.parent)
      ∙ ap (λ (is : List ImageRow). let x : Shape = record s { sequence = risen s.sequence 1; images = is; op = copy_of k child.name parent.name 0 [] } in x) (map_in _ _ s.images (row_same same))
      ∙ ap begun (omega arith)
      ∙ sym (commits_by false (le-ltb parent.extents to most) (named_step e))
    where
      row_same : h.pair.parent.extents ≡ to → (y : ImageRow) → In y s.images
          → when (is_image h.pair.parent.name y) (λ i. record i { size = size_of h.pair.child.name s }) y ≡ when (is_image h.pair.parent.name y) (λ i. record i { size = size_of h.pair.child.name s; extents = to }) y
      row_same same y there = by (is_image parent.name y) refl
        where
          by : (b : Bool) → is_image h.pair.parent.name y ≡ b → when b (λ i. record i { size = size_of h.pair.child.name s }) y ≡ when b (λ i. record i { size = size_of h.pair.child.name s; extents = to }) y
          by true is = ap (λ n. let x : ImageRow = record y { size = size_of h.pair.child.name s; extents = n } in x) (ap (λ (j : ImageRow). j.extents) (∥∥₁_elim x (hlevel props) (λ w. same_row s w parent y foldable.parent_there there is)) ∙ same)
          by false is = refl

  pub entered_next_wide : h.pair.parent.extents < to → next_step s ≡ begins k v p to
      → entered k v p (record s { sequence = risen s.sequence 3; images = on_image p (λ i. record i { extents = to }) s.images }) ≡ shape_next s Gc
  entered_next_wide less e =
      sym (ap₂ (λ a b. entered k a b (record s { sequence = risen s.sequence 3; images = on_image b (λ i. record i { extents = to }) s.images })) h.child h.parent)
      ∙ ap₂ (λ (n : ℕ) (is : List ImageRow). let x : Shape = record s { sequence = n; images = is; op = copy_of k child.name parent.name 0 [] } in x) (omega arith)
      (ap (λ n. on_image parent.name (λ i. record i { size = n }) (on_image parent.name widen s.images)) (child_size_wide (risen s.sequence 3) ∙ sym child_size) ∙ twice parent.name (λ i. record i { size = size_of child.name s }) widen (λ y. refl) s.images)
      ∙ sym (commits_by true (lt-ltb parent.extents to less) (named_step e))

-- ---- the parent gets the child's size, and the copy begins

module _ (s : Shape) (v p : Name) (x : ∥ IsWellFormed s ∥₁) (h : CanEnter s v p) where
  pub size_is : size_of v s ≡ h.child.size
  size_is = ∥∥₁_elim x (hlevel props) (λ w. ap (λ n. size_of n s) (sym h.child_named) ∙ ap size_by (found_row s w h.child h.child_there))

  apart : h.child.name ≡ p → ⊥
  apart = ∥∥₁_elim x (hlevel props) (λ w. parent_apart s w h.child p h.child_there h.linked)

  parent_is : (w : IsWellFormed s) → (w.parents h.child p h.child_there h.linked).parent ≡ h.parent
  parent_is w =
      let q : HasParent s.images h.child p = w.parents h.child p h.child_there h.linked in
      Distinct-key (λ (y : ImageRow). image_uuid y.name) s.images q.parent h.parent w.one_image q.there h.parent_there (ap image_uuid (q.is_named ∙ sym h.parent_named))

  pub parent_hidden : h.parent.hidden ≡ true
  parent_hidden = ∥∥₁_elim x (hlevel props) (λ w. sym (ap (λ (y : ImageRow). y.hidden) (parent_is w)) ∙ (w.parents h.child p h.child_there h.linked).is_hidden)

  pub not_larger : h.parent.size ≤ h.child.size
  not_larger = ∥∥₁_elim x (hlevel props) (λ w. subst (λ (y : ImageRow). y.size ≤ h.child.size) (parent_is w) (w.parents h.child p h.child_there h.linked).not_larger)

  pub may_grow : IsWellFormed s → is_vhd p ≡ true → MayGrow s h.parent h.child.size
  may_grow w vhd = record {
    there = h.parent_there;
    vhd = ap is_vhd h.parent_named ∙ vhd;
    whole = (w.images h.child h.child_there).whole;
    more = not_larger;
    children = λ y there e. (let is = ap (λ (x : ImageRow). x.size) (h.only y there (e ∙ ap Some h.parent_named)) in omega (arith, is));
    thick = λ a i rw shown uuid. absurd (true≢false (sym parent_hidden ∙ shown));
  }

  abbrev grown : ImageRow → ImageRow
  grown i = record i { size = size_of v s }

  abbrev on : ImageRow → ImageRow
  on y = when (is_image p y) grown y

  -- where the sizes are equal, nothing changes
  pub raised_same : h.parent.size ≡ h.child.size → raised v p s ≡ s
  raised_same same = ap (λ (is : List ImageRow). let x : Shape = record s { images = is } in x) (map_in on (λ y. y) s.images (λ y there. by y there (is_image p y) refl) ∙ map_id s.images)
    where
      by : (y : ImageRow) → In y s.images → (b : Bool) → is_image p y ≡ b → when b grown y ≡ y
      by y there true is =
          let own : y ≡ h.parent = ∥∥₁_elim x (hlevel props) (λ w. same_row s w h.parent y h.parent_there there (ap (same_image y.name) h.parent_named ∙ is)) in
          ap (λ k. let x : ImageRow = record y { size = k } in x) (size_is ∙ sym same ∙ ap (λ (x : ImageRow). x.size) (sym own))
      by y there false is = refl

      map_id : (xs : List ImageRow) → map (λ y. y) xs ≡ xs
      map_id [] = refl
      map_id (x ∷ xs) = ap (λ ys. x ∷ ys) (map_id xs)

  child_on : on h.child ≡ h.child
  child_on = ap (λ b. when b grown h.child) (other_image h.child.name p apart)

  link_key : (y : ImageRow) → (on y).parent ≡ y.parent
  link_key y = when-key (λ (i : ImageRow). i.parent) grown (λ i. refl) (is_image p y) y

  on_name : (y : ImageRow) → (on y).name ≡ y.name
  on_name y = when-key (λ (i : ImageRow). i.name) grown (λ i. refl) (is_image p y) y

  itself : (y : ImageRow) → In y s.images → y.name ≡ p → is_image p y ≡ true
  itself y there e = ∥∥₁_elim x (hlevel props) (λ w. ap (λ n. same_image n p) e ∙ subst (λ n. same_image n n ≡ true) e (same_image-refl y.name (w.images y there).named))

  only_now : (i : ImageRow) → In i (raised v p s).images → i.parent ≡ Some p → i ≡ h.child
  only_now i there e =
      let y = In-map on s.images i there in
      let is = h.only y.0 y.1 (sym (ap (λ (x : ImageRow). x.parent) y.2 ∙ link_key y.0) ∙ e) in
      y.2 ∙ ap on is ∙ child_on

  -- the images of the operation are there
  pub works : (hidden : Bool) → h.child.hidden ≡ hidden → IsOnlyChild (raised v p s) hidden v p
  works hidden shown = record {
    link = record {
      child = h.child;
      there = subst (λ x. In x (map on s.images)) child_on (In-map_at on s.images h.child h.child_there);
      is_named = h.child_named;
      is_shown = shown;
      vhd = h.vhd;
      linked = h.linked;
    };
    only = λ i there e. ap (λ (x : ImageRow). x.name) (only_now i there e) ∙ h.child_named;
    same_size = λ q there e. (let y = In-map on s.images q there in
        let named : y.0.name ≡ p = sym (ap (λ (x : ImageRow). x.name) y.2 ∙ on_name y.0) ∙ e in
        ap (λ (x : ImageRow). x.size) y.2 ∙ ap (λ b. (when b grown y.0).size) (itself y.0 y.1 named) ∙ size_is);
  }

  slots_key : (y : ImageRow) → (on y).slots ≡ y.slots
  slots_key y = when-key (λ (i : ImageRow). i.slots) grown (λ i. refl) (is_image p y) y

  extents_key : (y : ImageRow) → (on y).extents ≡ y.extents
  extents_key y = when-key (λ (i : ImageRow). i.extents) grown (λ i. refl) (is_image p y) y

  row_of : (i : ImageRow) → In i s.images → (y : ImageRow) → In y (raised v p s).images → y.name ≡ i.name → (y.slots ≡ i.slots) × (y.extents ≡ i.extents)
  row_of i there y now named =
      let z = In-map on s.images y now in
      let is : z.0 ≡ i = ∥∥₁_elim x (hlevel props) (λ w. Distinct-key (λ (j : ImageRow). image_uuid j.name) s.images z.0 i w.one_image z.1 there (ap image_uuid (sym (ap (λ (j : ImageRow). j.name) z.2 ∙ on_name z.0) ∙ named))) in (
        ap (λ (j : ImageRow). j.slots) z.2 ∙ slots_key z.0 ∙ ap (λ (j : ImageRow). j.slots) is,
        ap (λ (j : ImageRow). j.extents) z.2 ∙ extents_key z.0 ∙ ap (λ (j : ImageRow). j.extents) is,
      )

  -- and the parent has room
  pub roomy : IsRoomyFor (raised v p s) v p
  roomy i q i_there q_there i_named q_named vhd =
      let c = row_of h.child h.child_there i i_there (i_named ∙ sym h.child_named) in
      let d = row_of h.parent h.parent_there q q_there (q_named ∙ sym h.parent_named) in
      let least = h.room vhd in
      let is = ap₂ (λ x y. thin_in s (max (top x) (count_either x y))) d.0 c.0 in
      omega (arith, least, is, d.1)

  -- and what is known of a leaf besides
  pub leaf_in : (k : Kind) → h.child.hidden ≡ is_hidden k → IsLeafOver s k h.child h.parent → IsLeafIn (raised v p s) k v p
  unfolding works
  leaf_in kinds.Hidden shown l = tt
  leaf_in kinds.Leaf shown l = (ap is_vhd (sym h.parent_named) ∙ l.0, ap (λ n. attached_as (image_uuid n) s) (sym h.child_named) ∙ l.1)
  leaf_in kinds.Live shown l =
      let mode = ap (λ n. attached_as (image_uuid n) s) (sym h.child_named) in (
        ap is_vhd (sym h.parent_named) ∙ l.0,
        ap is_some mode ∙ l.1,
        λ rw q there named.
            let d = row_of h.parent h.parent_there q there (named ∙ sym h.parent_named) in
            let size : thick_in s q.size ≡ thick_in s h.child.size = ap (thick_in s) ((works false shown).same_size q there named) in
            let all = l.2 (sym (ap is_rw mode) ∙ rw) in
            omega (arith, size, all, d.1),
      )
