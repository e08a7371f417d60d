-- A disk whose fork no cause refuses, in a ready store, may be forked: where it stands, and what speaks of none of the three UUIDs.
use Rattle.std.proofs.Common.{◌≡◌, ◌≢◌, ◌⊎◌, inl, inr, ⊎_elim, zero, suc, ℕ, ◌<◌, Bool, true, false, cond, not, ◌&&◌, ◌||◌, nat_le, bytes_eq, List, [], ◌∷◌, map, length, Option, Some, None, refl, sym, ap, ap₂, ◌∙◌, subst, arith}
use Rattle.std.proofs.Math.Logic.{∥∥₁_elim}
use Rattle.std.proofs.Props.{props}
use Rattle.std.specs.List.{list_any}
use Rattle.std.proofs.lemmas.Bool.{true≢false, leb-false}
use Rattle.std.proofs.lemmas.Option.{none-some, same_Some}
use Rattle.common_laws.specs.Lists.{In, ◌>>=◌}
use Rattle.common_laws.proofs.Bytes.{bytes_eq-apart, bytes_eq-refl, bytes_eq-same, same_or_not}
use Rattle.common_laws.proofs.Lists.{Distinct-key, In-filter, In-map, In-map_at, filter-In}
use Rattle.sm_base.specs.Kinds.{is_entry}
use Rattle.sm_base.specs.Names.{base_uuid}
use Rattle.sm_base.specs.declared.names.Name.{Name}
use Rattle.sm_base.specs.declared.names.Name.TheVariants.{Mgt, Vhd, Raw, Old, Cbt, Clone, Inflate, Coalesce, Relink, Leaf}
use Rattle.sm_machine.specs.Operations.{Op}
use Rattle.sm_machine.specs.Operations as op
use Rattle.sm_disk.specs.Held.{Held, reads}
use Rattle.vg_meta.specs.Tables.{Row, VolumeTable, name_eq, names_of, rows}
use Rattle.vg_volumes.specs.Sites.{Site}
use Rattle.vhd_image.specs.Bodies.{parent_name, sector_count}
use Rattle.vhd_chain.specs.Trees.{row_name, tree_row}
use Rattle.vhd_chain.specs.declared.rows.TreeRow.{TreeRow}
use Rattle.sm_machine.specs.Commits.{folds, gives_up, is_given_up}
use Rattle.sm_machine.specs.Refusals.{forked as forked_disk, is_deep, of_some}
use Rattle.sm_machine.specs.Shapes.{ImageRow, Shape, chain, chain_limit, disk_image, find_image, image_uuid, is_image_of, parent_of as parent_in_shape}
use Rattle.sm_machine.specs.WellFormed.{IsChild, IsOperation, IsWellFormed, is_image_name}
use Rattle.sm_machine.proofs.Passed.{passed}
use Rattle.vg_meta.proofs.RowLaws.{row_of-name}
use Rattle.sm_standing.specs.Apart.{is_apart}
use Rattle.sm_standing.specs.Changes.{parent_of}
use Rattle.sm_standing.specs.Checks.{depth}
use Rattle.sm_standing.specs.Contents.{Content}
use Rattle.sm_standing.specs.Entries.{folding, folding_uuids, head, is_among, is_folding, is_visible, of_row, uuids_in}
use Rattle.sm_standing.specs.Forks.{IsForkable, forked}
use Rattle.sm_standing.specs.Images.{Image, image_of}
use Rattle.sm_standing.specs.Outlines.{Link, link_of, outline, parent_in}
use Rattle.sm_standing.specs.Standing.{standing_volume, stands_plainly}
use Rattle.sm_standing.proofs.DisksShown.{row_of-In}
use Rattle.sm_standing.proofs.ForkLaws.{disk_among, twin_among}
use Rattle.sm_ready.specs.Known.{Known, entry_of, machine_row, shape_in}
use Rattle.sm_ready.specs.Orderly.{IsOrderly}
use Rattle.sm_ready.specs.Outlined.{link_in}
use Rattle.sm_ready.specs.Ready.{IsReady, IsTidy}
use Rattle.sm_ready.specs.Stores.{content_now}
use Rattle.sm_ready.proofs.CauseLaws.{named_as, row_without}
use Rattle.sm_ready.proofs.LeftLaws.{left_in, left_now, links_left}
use Rattle.sm_ready.proofs.NewLaws.{unvolumed}
use Rattle.sm_ready.proofs.OnceLaws.{any_In}
use Rattle.sm_ready.proofs.OperationLaws.{WorksAt, works_there}
use Rattle.sm_ready.proofs.Orders.{In-tree_row, IsRowed, named_row, none_making, rowed}
use Rattle.sm_ready.proofs.OwnLaws.{IsOwn, own_image}
use Rattle.sm_ready.proofs.RowLaws.{image_named}
use Rattle.sm_ready.proofs.ShapeLaws.{no_old, plainly_stands, standing_shown, visible_row}
use Rattle.sm_ready.proofs.ShownLaws.{no_twin}
use Rattle.sm_clone.specs.Forking.{Passes, fork_of, forking}
use Rattle.sm_clone.specs.declared.forks.Fork.{Fork}
use Rattle.sm_clone.proofs.PassedLaws.{found, new, own, own_is}
use Rattle.sm_clone.proofs.ShapeLaws.{same_test}
use Rattle.sm_clone.proofs.UseLaws.{no_base_row}

-- ---- UUIDs that are none of three

pub none_among : (disk base twin w : List ℕ) → disk ≢ w → base ≢ w → twin ≢ w → is_among (forked disk base twin) w ≡ false
none_among disk base twin w d b t = ap₂ (λ x y. x || y) (bytes_eq-apart disk w d) (ap₂ (λ x y. x || (y || false)) (bytes_eq-apart base w b) (bytes_eq-apart twin w t))

-- the names of the three that are found
pub vhd_speaks : (us : List (List ℕ)) (w : List ℕ) → is_among us w ≡ true → is_apart us (Vhd w) ≡ false
vhd_speaks us w e = ap (λ b. not (b || false)) e

pub raw_speaks : (us : List (List ℕ)) (w : List ℕ) → is_among us w ≡ true → is_apart us (Raw w) ≡ false
raw_speaks us w e = ap (λ b. not (b || false)) e

pub disk_speaks : (disk base twin : List ℕ) → is_apart (forked disk base twin) (Vhd disk) ≡ false
disk_speaks disk base twin = vhd_speaks (forked disk base twin) disk (disk_among disk base twin)

pub twin_speaks : (disk base twin : List ℕ) → is_apart (forked disk base twin) (Vhd twin) ≡ false
twin_speaks disk base twin = vhd_speaks (forked disk base twin) twin (twin_among disk base twin)

pub entry_speaks : (disk base twin : List ℕ) → is_apart (forked disk base twin) (Clone disk base twin) ≡ false
entry_speaks disk base twin = ap (λ b. not (b || (is_among (forked disk base twin) base || (is_among (forked disk base twin) twin || false)))) (disk_among disk base twin)

-- an image's name speaks of its UUID alone
pub apart_image : (us : List (List ℕ)) (n : Name) → is_image_name n ≡ true → is_among us (image_uuid n) ≡ false → is_apart us n ≡ true
unfolding is_image_name image_uuid
apart_image us (Vhd u) e none = ap (λ b. not (b || false)) none
apart_image us (Raw u) e none = ap (λ b. not (b || false)) none
apart_image us Mgt e none = absurd (true≢false (sym e))
apart_image us (Old u) e none = absurd (true≢false (sym e))
apart_image us (Cbt u) e none = absurd (true≢false (sym e))
apart_image us (Clone d b w) e none = absurd (true≢false (sym e))
apart_image us (Inflate u k) e none = absurd (true≢false (sym e))
apart_image us (Coalesce v p) e none = absurd (true≢false (sym e))
apart_image us (Relink v p) e none = absurd (true≢false (sym e))
apart_image us (Leaf l p) e none = absurd (true≢false (sym e))

-- ---- an image as the machine looks it up

abbrev machine_of : Option TreeRow → Option ImageRow
machine_of None = None
machine_of (Some r) = Some (machine_row r)

find_same : (rs : List TreeRow) (n : Name) → ((r : TreeRow) → In r rs → is_image_name (row_name r) ≡ true) → find_image n (map machine_row rs) ≡ machine_of (tree_row rs n)
unfolding tree_row
find_same [] n images = refl
find_same (r ∷ rs) n images =
    ap (λ b. cond b (Some (machine_row r)) (find_image n (map machine_row rs))) (sym (same_test n (row_name r) (images r (inl refl))))
    ∙ by (name_eq (row_name r) n) (find_same rs n (λ q i. images q (inr i)))
  where
    by : (b : Bool) → find_image n (map machine_row rs) ≡ machine_of (tree_row rs n)
        → cond b (Some (machine_row r)) (find_image n (map machine_row rs)) ≡ machine_of (cond b (Some r) (tree_row rs n))
    by true rest = refl
    by false rest = rest

linked_same : (x : Option TreeRow) → (machine_of x >>= (λ i. i.parent)) ≡ (link_in x >>= (λ i. i.parent))
linked_same None = refl
linked_same (Some r) = refl

-- ---- an entry of the collector is that of its operation

folds_entry : (n : Name) → is_folding n ≡ true → is_entry n ≡ true
folds_entry Mgt e = absurd (true≢false (sym e))
folds_entry (Vhd u) e = absurd (true≢false (sym e))
folds_entry (Raw u) e = absurd (true≢false (sym e))
folds_entry (Old u) e = absurd (true≢false (sym e))
folds_entry (Cbt u) e = absurd (true≢false (sym e))
folds_entry (Clone d b w) e = absurd (true≢false (sym e))
folds_entry (Inflate u k) e = absurd (true≢false (sym e))
folds_entry (Coalesce v p) e = refl
folds_entry (Relink v p) e = refl
folds_entry (Leaf l p) e = refl

module _ (s : Site) (t : VolumeTable) (m : Known) (u twin : List ℕ) (read_only : Bool) (o : IsOrderly s t m) (tidy : IsTidy t m) (passes : Passes s t m u twin read_only) where
  abbrev σ : Shape
  σ = shape_in s t m

  abbrev f : Fork
  f = fork_of passes.number m.rows u twin

  abbrev us : List (List ℕ)
  us = forked u (base_uuid passes.number) twin

  abbrev its : IsOwn m u
  its = own s t m u twin read_only o tidy passes

  not_base : (r : TreeRow) → In r m.rows → base_uuid passes.number ≢ image_uuid (row_name r)
  not_base r i is = no_base_row s t m u twin read_only o tidy passes r i (sym is)

  not_twin : IsWellFormed σ → (r : TreeRow) → In r m.rows → twin ≢ image_uuid (row_name r)
  not_twin w r i is = true≢false (sym (ap (λ x. bytes_eq x twin) (sym is) ∙ bytes_eq-refl twin) ∙ row_without s t m twin o w (new s t m u twin read_only o tidy passes).absent r i)

  pub disk_base : u ≢ base_uuid passes.number
  disk_base is = no_base_row s t m u twin read_only o tidy passes its.row its.there (its.uuid ∙ is)

  -- the disk's UUID is that of its own image alone
  its_alone : IsWellFormed σ → (r : TreeRow) → In r m.rows → u ≡ image_uuid (row_name r) → r.hidden ≡ false
  unfolding shape_in
  its_alone w r i is =
      ap (λ (y : ImageRow). y.hidden) (Distinct-key (λ (y : ImageRow). image_uuid y.name) (map machine_row m.rows) (machine_row r) (machine_row its.row) w.one_image
      (In-map_at machine_row m.rows r i) (In-map_at machine_row m.rows its.row its.there) (sym is ∙ sym its.uuid))
      ∙ its.shown

  -- a hidden image has none of the three UUIDs
  hidden_apart : IsWellFormed σ → (i : ImageRow) → In i σ.images → i.hidden ≡ true → is_among us (image_uuid i.name) ≡ false
  unfolding shape_in
  hidden_apart w i there hidden =
      let y = In-map machine_row m.rows i there in
      let named = ap (λ (z : ImageRow). image_uuid z.name) y.2 in
      none_among u (base_uuid passes.number) twin (image_uuid i.name)
      (λ is. true≢false (sym hidden ∙ ap (λ (z : ImageRow). z.hidden) y.2 ∙ its_alone w y.0 y.1 (is ∙ named)))
      (λ is. not_base y.0 y.1 (is ∙ named)) (λ is. not_twin w y.0 y.1 (is ∙ named))

  -- nor has any other that is not the disk's
  other_apart : IsWellFormed σ → (i : ImageRow) → In i σ.images → u ≢ image_uuid i.name → is_among us (image_uuid i.name) ≡ false
  unfolding shape_in
  other_apart w i there other =
      let y = In-map machine_row m.rows i there in
      let named = ap (λ (z : ImageRow). image_uuid z.name) y.2 in
      none_among u (base_uuid passes.number) twin (image_uuid i.name) other (λ is. not_base y.0 y.1 (is ∙ named)) (λ is. not_twin w y.0 y.1 (is ∙ named))

  -- ---- where it stands

  stands_as : IsWellFormed σ → (n : Name) → f.own ≡ n → (n ≡ Vhd u) ⊎ (n ≡ Raw u) → stands_plainly t u ≡ Some n
  stands_as w n named (inl is) =
      let seen = visible_row s t m its.row o w its.there its.shown in
      ap (λ b. cond b (Some (Vhd u)) (cond (is_visible t (Raw u)) (Some (Raw u)) None)) (ap (is_visible t) (sym is ∙ sym named ∙ own_is s t m u twin read_only o tidy passes) ∙ seen) ∙ ap Some (sym is)
  stands_as w n named (inr is) =
      let seen = visible_row s t m its.row o w its.there its.shown in
      let raw : row_name its.row ≡ Raw u = sym (own_is s t m u twin read_only o tidy passes) ∙ named ∙ is in
      let none = unvolumed s t m (Vhd u) o tidy refl (no_twin s t m its.row u w its.there raw) in
      ap₂ (λ a b. cond a (Some (Vhd u)) (cond b (Some (Raw u)) None)) (visible_none (Vhd u) none) (ap (is_visible t) (sym raw) ∙ seen) ∙ ap Some (sym is)
    where
      visible_none : (n : Name) → rows t n ≡ None → is_visible t n ≡ false
      visible_none n none = ap (of_row (λ r. not r.hidden && not r.fresh)) none

  pub own_named : (f.own ≡ Vhd u) ⊎ (f.own ≡ Raw u)
  own_named =
      let named = own_is s t m u twin read_only o tidy passes in
      ⊎_elim (λ is. inl (named ∙ is)) (λ is. inr (named ∙ is)) (named_as (row_name its.row) u (named_row s t m its.row o its.there) its.uuid)

  pub stood_plainly : stands_plainly t u ≡ Some f.own
  stood_plainly = ∥∥₁_elim o.well_formed (hlevel props) (λ w. stands_as w f.own refl own_named)

  pub stood : standing_volume t u ≡ Some f.own
  stood = plainly_stands s t m u o ∙ stood_plainly

  -- a UUID that no image has does not stand
  none_stands : (v : List ℕ) → ((r : TreeRow) → In r m.rows → v ≢ image_uuid (row_name r)) → standing_volume t v ≡ None
  none_stands v none = by (standing_volume t v) refl
    where
      by : (x : Option Name) → standing_volume t v ≡ x → x ≡ None
      by None is = refl
      by (Some n) is =
          let q = any_In (λ r. is_image_of v (machine_row r)) m.rows (standing_shown s t m v n o is) in
          absurd (none q.0 q.1 (sym (bytes_eq-same (image_uuid (row_name q.0)) v (right q.0.hidden (bytes_eq (image_uuid (row_name q.0)) v) q.2))))
        where
          right : (a b : Bool) → (not a && b) ≡ true → b ≡ true
          right false b e = e
          right true b e = absurd (true≢false (sym e))

  pub no_base : standing_volume t (base_uuid passes.number) ≡ None
  no_base = none_stands (base_uuid passes.number) not_base

  pub no_twin_stands : standing_volume t twin ≡ None
  no_twin_stands = ∥∥₁_elim o.well_formed (hlevel props) (λ w. none_stands twin (not_twin w))

  -- ---- what speaks of none of the three

  child_apart : IsWellFormed σ → (shown : Bool) (v p : Name) → (h : IsChild σ shown v p) → (shown ≡ true) ⊎ (u ≢ image_uuid v)
      → (is_among us (image_uuid v) ≡ false) × (is_among us (image_uuid p) ≡ false)
  child_apart w shown v p h which =
      let q = w.parents h.child p h.there h.linked in (
        subst (λ x. is_among us (image_uuid x) ≡ false) h.is_named
            (⊎_elim (λ hidden. hidden_apart w h.child h.there (h.is_shown ∙ hidden)) (λ other. other_apart w h.child h.there (λ is. other (is ∙ ap image_uuid h.is_named))) which),
        subst (λ x. is_among us (image_uuid x) ≡ false) q.is_named (hidden_apart w q.parent q.there q.is_hidden),
      )

  pair_apart : (v p : Name) → (is_among us (image_uuid v) ≡ false) × (is_among us (image_uuid p) ≡ false) → list_any (is_among us) (image_uuid v ∷ image_uuid p ∷ []) ≡ false
  pair_apart v p h = ap₂ (λ x y. x || (y || false)) h.0 h.1

  one_of : (v p n : Name) → (is_among us (image_uuid v) ≡ false) × (is_among us (image_uuid p) ≡ false) → (n ≡ v) ⊎ (n ≡ p) → is_among us (image_uuid n) ≡ false
  one_of v p n h works = ⊎_elim (λ is. ap (λ x. is_among us (image_uuid x)) is ∙ h.0) (λ is. ap (λ x. is_among us (image_uuid x)) is ∙ h.1) works

  -- a leaf that is folded is another disk's
  leaf_other : (l : Name) → bytes_eq (image_uuid l) u ≡ false → u ≢ image_uuid l
  leaf_other l keeps same = true≢false (sym (ap (λ x. bytes_eq x u) (sym same) ∙ bytes_eq-refl u) ∙ keeps)

  entry_apart : IsWellFormed σ → (x : Op) → IsOperation σ x → folds x u ≡ false → (n : Name) → In n (entry_of x) → list_any (is_among us) (uuids_in n) ≡ false
  unfolding folds
  entry_apart w op.Idle h keeps n i = absurd i
  entry_apart w (op.Copy v p c) h keeps n (inl is) = ap (λ y. list_any (is_among us) (uuids_in y)) is ∙ pair_apart v p (child_apart w true v p h.link (inl refl))
  entry_apart w (op.Copy v p c) h keeps n (inr i) = absurd i
  entry_apart w (op.Relink v p) h keeps n (inl is) = ap (λ y. list_any (is_among us) (uuids_in y)) is ∙ pair_apart v p (child_apart w true v p h (inl refl))
  entry_apart w (op.Relink v p) h keeps n (inr i) = absurd i
  entry_apart w (op.Leaf l p c) h keeps n (inl is) = ap (λ y. list_any (is_among us) (uuids_in y)) is ∙ pair_apart l p (child_apart w false l p h.0.link (inr (leaf_other l keeps)))
  entry_apart w (op.Leaf l p c) h keeps n (inr i) = absurd i
  entry_apart w (op.Live l p c dirty) h keeps n (inl is) = ap (λ y. list_any (is_among us) (uuids_in y)) is ∙ pair_apart l p (child_apart w false l p h.only.link (inr (leaf_other l keeps)))
  entry_apart w (op.Live l p c dirty) h keeps n (inr i) = absurd i

  worked : IsWellFormed σ → (x : Op) → IsOperation σ x → folds x u ≡ false → (n : Name) → WorksAt x n → is_among us (image_uuid n) ≡ false
  unfolding folds
  worked w op.Idle h keeps n works = absurd works
  worked w (op.Copy v p c) h keeps n works = one_of v p n (child_apart w true v p h.link (inl refl)) works
  worked w (op.Relink v p) h keeps n works = one_of v p n (child_apart w true v p h (inl refl)) works
  worked w (op.Leaf l p c) h keeps n works = one_of l p n (child_apart w false l p h.0.link (inr (leaf_other l keeps))) works
  worked w (op.Live l p c dirty) h keeps n works = one_of l p n (child_apart w false l p h.only.link (inr (leaf_other l keeps))) works

  kept_folds : is_given_up σ (forking u twin read_only) ≡ false → folds σ.op u ≡ false
  unfolding is_given_up gives_up
  kept_folds keeps = by read_only keeps
    where
      by : (b : Bool) → is_given_up σ (forking u twin b) ≡ false → folds σ.op u ≡ false
      by true e = e
      by false e = e

  -- the images at which the collector works
  pub works_apart : is_given_up σ (forking u twin read_only) ≡ false → (n : Name) → WorksAt m.op n → is_apart us n ≡ true
  unfolding shape_in
  works_apart keeps n works = ∥∥₁_elim o.well_formed (hlevel props) (λ w.
      let y = works_there σ w n works in
      subst (λ x. is_apart us x ≡ true) y.2
      (apart_image us y.0.name (w.images y.0 y.1).named (subst (λ x. is_among us (image_uuid x) ≡ false) (sym y.2) (worked w m.op w.operation (kept_folds keeps) n works))))

  pub beside : is_given_up σ (forking u twin read_only) ≡ false → list_any (is_among us) (folding_uuids t) ≡ false
  unfolding shape_in
  beside keeps = by (folding t) (λ n i. folding_apart n i)
    where
      folding_apart : (n : Name) → In n (folding t) → list_any (is_among us) (uuids_in n) ≡ false
      folding_apart n i =
          let w = In-filter is_folding (names_of t.volumes) n i in
          ∥∥₁_elim o.well_formed (hlevel props) (λ well. entry_apart well m.op well.operation (kept_folds keeps) n
          (subst (In n) o.entries (filter-In is_entry (names_of t.volumes) n w.0 (folds_entry n w.1))))

      by : (ns : List Name) → ((n : Name) → In n ns → list_any (is_among us) (uuids_in n) ≡ false)
          → list_any (is_among us) (elim (head ns) as (λ _. List (List ℕ)) [ None ↦ [] | Some n ↦ uuids_in n ]) ≡ false
      by [] each = refl
      by (n ∷ ns) each = each n (inl refl)

  -- ---- which volumes speak of one of the three

  image_speaks : (x : Name) (r : Row) → is_image_name x ≡ true → rows t x ≡ Some r → is_apart us x ≡ false → x ≡ f.own
  unfolding shape_in
  image_speaks x r image there speaks = ∥∥₁_elim o.well_formed (hlevel props) (λ w. by w (same_or_not u (image_uuid (row_name q.row))))
    where
      q : IsRowed m x r
      q = rowed s t m x r o (image_named x image) there (tidy.none_new r (row_of-In t.volumes x r there).0)

      by : IsWellFormed σ → (u ≡ image_uuid (row_name q.row)) ⊎ (u ≢ image_uuid (row_name q.row)) → x ≡ f.own
      by w (inl is) =
          sym q.named
          ∙ ap (λ (y : ImageRow). y.name) (Distinct-key (λ (y : ImageRow). image_uuid y.name) (map machine_row m.rows) (machine_row q.row) (machine_row its.row) w.one_image
          (In-map_at machine_row m.rows q.row q.there) (In-map_at machine_row m.rows its.row its.there) (sym is ∙ sym its.uuid))
          ∙ sym (own_is s t m u twin read_only o tidy passes)
      by w (inr other) = absurd (true≢false (sym (apart_image us x image (subst (λ n. is_among us (image_uuid n) ≡ false) q.named (other_apart w (machine_row q.row)
          (In-map_at machine_row m.rows q.row q.there) other))) ∙ speaks))

  entry_none : is_given_up σ (forking u twin read_only) ≡ false → (x : Name) (r : Row) → is_entry x ≡ true → rows t x ≡ Some r → is_apart us x ≡ false → ⊥
  unfolding shape_in
  entry_none keeps x r entry there speaks =
      let i = filter-In is_entry (names_of t.volumes) x
      (subst (λ n. In n (names_of t.volumes)) (row_of-name t.volumes x r there) (In-map_at (λ (y : Row). y.name) t.volumes r (row_of-In t.volumes x r there).0)) entry in
      ∥∥₁_elim o.well_formed (hlevel props) (λ w.
      true≢false (sym (ap not (entry_apart w m.op w.operation (kept_folds keeps) x (subst (In x) o.entries i))) ∙ speaks))

  -- it is the disk's image alone
  pub speaks_own : is_given_up σ (forking u twin read_only) ≡ false → (x : Name) (r : Row) → rows t x ≡ Some r → is_apart us x ≡ false → x ≡ f.own
  unfolding is_image_name
  speaks_own keeps Mgt r there e = absurd (true≢false e)
  speaks_own keeps (Vhd v) r there e = image_speaks (Vhd v) r refl there e
  speaks_own keeps (Raw v) r there e = image_speaks (Raw v) r refl there e
  speaks_own keeps (Old v) r there e = absurd (none-some r (sym (no_old s t m v o) ∙ there))
  speaks_own keeps (Cbt v) r there e = absurd (true≢false e)
  speaks_own keeps (Clone d b w) r there e = absurd (entry_none keeps (Clone d b w) r refl there e)
  speaks_own keeps (Inflate i n) r there e = absurd (entry_none keeps (Inflate i n) r refl there e)
  speaks_own keeps (Coalesce v p) r there e = absurd (entry_none keeps (Coalesce v p) r refl there e)
  speaks_own keeps (Relink v p) r there e = absurd (entry_none keeps (Relink v p) r refl there e)
  speaks_own keeps (Leaf l p) r there e = absurd (entry_none keeps (Leaf l p) r refl there e)

  -- ---- images

  module _ (old : Held) (ready : IsReady s t old m) where
    abbrev a : Content
    a = content_now s t old

    linked : (n : Name) → link_of (image_of a n) ≡ link_in (tree_row m.rows n)
    linked n = links_left s t old m (reads old) n o ready.firm (left_in s t m old (reads old) o (left_now s old))

    pub childless : (n p : Name) → parent_of a n ≡ Some p → is_apart us p ≡ true
    unfolding shape_in
    childless n p is = ∥∥₁_elim o.well_formed (hlevel props) (λ w. by w (tree_row m.rows n) refl (sym (ap (λ (x : Option Link). x >>= (λ i. i.parent)) (linked n)) ∙ is))
      where
        by : IsWellFormed σ → (x : Option TreeRow) → tree_row m.rows n ≡ x → (link_in x >>= (λ i. i.parent)) ≡ Some p → is_apart us p ≡ true
        by w None at e = absurd (none-some p e)
        by w (Some r) at e =
            let q = w.parents (machine_row r) p (In-map_at machine_row m.rows r (In-tree_row m.rows n r at).0) e in
            subst (λ x. is_apart us x ≡ true) q.is_named (apart_image us q.parent.name (w.images q.parent q.there).named (hidden_apart w q.parent q.there q.is_hidden))

    parents_same : (n : Name) → parent_in (outline a) n ≡ parent_in_shape n σ.images
    unfolding shape_in
    parents_same n =
        ap (λ (x : Option Link). x >>= (λ i. i.parent)) (linked n)
        ∙ sym (linked_same (tree_row m.rows n))
        ∙ sym (ap (λ (x : Option ImageRow). x >>= (λ i. i.parent)) (find_same m.rows n (λ r i. named_row s t m r o i)))

    depth_same : (k : ℕ) (n : Name) → depth (outline a) k n ≡ length (chain k n σ.images)
    unfolding depth chain
    depth_same zero n = refl
    depth_same (suc k) n = ap (λ (x : Option Name). suc (elim x [ None ↦ 0 | Some p ↦ depth (outline a) k p ])) (parents_same n) ∙ ap suc (up (depth_same k) (parent_in_shape n σ.images))
      where
        up : ((p : Name) → depth (outline a) k p ≡ length (chain k p σ.images)) → (x : Option Name)
            → elim x as (λ _. ℕ) [ None ↦ 0 | Some p ↦ depth (outline a) k p ] ≡ length (elim x as (λ _. List Name) [ None ↦ [] | Some p ↦ chain k p σ.images ])
        up same None = refl
        up same (Some p) = same p

    forked_is : (b : Bool) → forked_disk (forking u twin b) ≡ Some u
    unfolding forked_disk
    forked_is true = refl
    forked_is false = refl

    pub room : depth (outline a) chain_limit f.own < chain_limit
    unfolding is_deep shape_in
    room =
        let deep = sym (ap (of_some (λ v. nat_le chain_limit (length_of (disk_image v σ)))) (forked_is read_only))
        ∙ (passed (shape_in s (record t { sequence = passes.number }) m) (forking u twin read_only) passes.unrefused).deep in
        let short = leb-false chain_limit (length (chain chain_limit (row_name its.row) σ.images)) (sym (ap (λ (x : Option ImageRow). nat_le chain_limit (length_of x)) (own_image s t m u o its))
        ∙ deep) in
        omega (arith, short, depth_same chain_limit f.own, ap (λ n. length (chain chain_limit n σ.images)) (own_is s t m u twin read_only o tidy passes))
      where
        length_of : Option ImageRow → ℕ
        length_of x = elim x as (λ _. ℕ) [ None ↦ 0 | Some i ↦ length (chain chain_limit i.name σ.images) ]

    -- the image in which it stands, as memory has it
    pub record IsStood : Type 0 where
      pub image : Image
      pub is : image_of a f.own ≡ Some image
      pub size : image.size ≡ sector_count its.row.image
      pub parent : image.parent ≡ parent_name its.row.image

    pub own_stood : IsStood
    own_stood = by (image_of a f.own) refl (linked f.own ∙ ap link_in (found s t m u twin read_only o tidy passes))
      where
        by : (x : Option Image) → image_of a f.own ≡ x → link_of x ≡ link_in (Some its.row) → IsStood
        by None is e = absurd (none-some _ e)
        by (Some i) is e = let l = same_Some _ _ e in record { image = i; is = is; size = ap (λ (z : Link). z.size) l; parent = ap (λ (z : Link). z.parent) l }

    -- the disk may be forked
    pub moment_forkable : is_given_up σ (forking u twin read_only) ≡ false → (i : Image) → image_of a f.own ≡ Some i → IsForkable a f.disk f.base f.twin f.own i
    moment_forkable keeps i is = record {
      stood = stood;
      image = is;
      no_base = no_base;
      no_twin = no_twin_stands;
      none_making = none_making s t m o;
      beside = beside keeps;
      childless = childless;
      room = room;
    }
