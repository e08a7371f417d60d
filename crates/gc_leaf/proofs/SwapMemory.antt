-- The images in memory behind a swap: the leaf's row is gone, and the parent's has its name.
use Rattle.std.proofs.Common.{◌≡◌, ◌≢◌, ◌⊎◌, inl, inr, ⊎_elim, ℕ, ◌&&◌, ◌||◌, not, Bool, true, false, cond, List, [], ◌∷◌, map, Option, Some, None, refl, sym, ap, ap₂, ◌∙◌, subst, arith, bytes_eq}
use Rattle.std.proofs.Math.Logic.{∥∥₁_elim}
use Rattle.std.proofs.Props.{props}
use Rattle.std.proofs.lemmas.Bool.{true≢false}
use Rattle.std.proofs.lemmas.Option.{same_Some}
use Rattle.common_laws.specs.Lists.{In}
use Rattle.common_laws.proofs.Bytes.{bytes_eq-apart, bytes_eq-refl, same_or_not}
use Rattle.common_laws.proofs.Lists.{In-filter, In-insert, In-insert_new, In-map_at}
use Rattle.sm_base.specs.Kinds.{is_image}
use Rattle.sm_base.proofs.KindLaws.{image-no_entry}
use Rattle.sm_base.specs.declared.names.Name.{Name}
use Rattle.sm_base.specs.declared.names.Name.TheVariants.{Old, Vhd}
use Rattle.sm_machine.specs.Operations.{Op}
use Rattle.sm_machine.specs.Operations as op
use Rattle.sm_base.specs.declared.operations.Mode.{Mode}
use Rattle.sm_base.specs.declared.operations.Plan.TheVariants as plan
use Rattle.vg_meta.specs.Tables.{VolumeTable, name_eq, rows}
use Rattle.vg_meta.proofs.NameLaws.{name_eq-false, name_eq-same, name_eq-true}
use Rattle.vg_volumes.specs.Sites.{Site}
use Rattle.vhd_image.specs.declared.images.Body.{Body}
use Rattle.vhd_image.specs.declared.images.Body.TheVariants as body
use Rattle.vhd_chain.specs.Trees.{has_name, is_before, row_name, tree_row, with_row, without}
use Rattle.vhd_chain.specs.declared.rows.TreeRow.{TreeRow}
use Rattle.vhd_chain.proofs.ByName.{tree_row-with_other, tree_row-with_same, tree_row-without_other, tree_row-without_same}
use Rattle.sm_machine.specs.Collector.{as_leaf, collected, swapped as swapped_shape, with_found}
use Rattle.sm_machine.specs.Shapes.{DiskRecord, ImageRow, Shape, find_image, image_uuid, is_image_of, risen, same_image, with_image, without_image}
use Rattle.sm_machine.specs.Commits.{plan_commits}
use Rattle.sm_machine.specs.Steps.{shape_next}
use Rattle.sm_machine.specs.WellFormed.{is_image_name}
use Rattle.sm_machine.specs.declared.commands.Command.TheVariants.{Gc}
use Rattle.sm_machine.proofs.Chains.{find_image-in}
use Rattle.sm_machine.proofs.ImageNames.{other_image, same_image-refl}
use Rattle.sm_refs.specs.Attached.{Attached}
use Rattle.sm_ready.specs.Known.{Known, is_shown, machine_row, records_in, row_face, shape_in, shown_places, tree_face}
use Rattle.sm_ready.proofs.LastLaws.{images_with, shown_with}
use Rattle.sm_ready.proofs.Orders.{In-tree_row, filled_face, named_row, other_row}
use Rattle.sm_ready.proofs.RowLaws.{tree_found}
use Rattle.sm_ready.proofs.ShapeLaws.{any_at, any_filter, shown_same}
use Rattle.gc_coalesce.proofs.PlannedLaws.{gc_shape}
use Rattle.gc_leaf.specs.Swapping.{leaf_row, swapped_rows}
use Rattle.gc_leaf.proofs.SwapFold.{named_in}
use Rattle.gc_leaf.proofs.SwapPair.{apart, leaf_is, leaf_vol, parent_is, parent_vol, u, v, vhd_uuid}
use Rattle.gc_leaf.proofs.SwapSteps.{IsToSwap, swapped_is}
use Rattle.gc_leaf.proofs.SwapTables.{shown_row, stage_5, table_then}

-- ---- names

pub name_or : (n x : Name) → (n ≡ x) ⊎ (n ≢ x)
name_or n x = by (name_eq n x) refl
  where
    by : (b : Bool) → name_eq n x ≡ b → (n ≡ x) ⊎ (n ≢ x)
    by true e = inl (name_eq-true n x e)
    by false e = inr (name_eq-false n x e)

-- ---- rows as the machine has them

same_test : (n x : Name) → is_image_name x ≡ true → name_eq x n ≡ same_image x n
same_test n x image = by (name_eq x n) refl
  where
    by : (b : Bool) → name_eq x n ≡ b → b ≡ same_image x n
    by true e = sym (subst (λ y. same_image x y ≡ true) (name_eq-true x n e) (same_image-refl x image))
    by false e = sym (other_image x n (name_eq-false x n e))

without_as : (n : Name) (rs : List TreeRow) → ((r : TreeRow) → In r rs → is_image_name (row_name r) ≡ true) → map machine_row (without n rs) ≡ without_image n (map machine_row rs)
without_as n [] images = refl
without_as n (r ∷ rs) images =
    ap (λ b. map machine_row (cond (not b) (r ∷ without n rs) (without n rs))) (same_test n (row_name r) (images r (inl refl)))
    ∙ by (same_image (row_name r) n) (without_as n rs (λ q i. images q (inr i)))
  where
    by : (b : Bool) → map machine_row (without n rs) ≡ without_image n (map machine_row rs)
        → map machine_row (cond (not b) (r ∷ without n rs) (without n rs)) ≡ cond (not b) (machine_row r ∷ without_image n (map machine_row rs)) (without_image n (map machine_row rs))
    by true rest = rest
    by false rest = ap (λ is. machine_row r ∷ is) rest

folded_machine : (l : Name) (b : Body) (hidden : Bool) (extents : ℕ)
    → machine_row (leaf_row l (record { image = b; hidden = hidden; extents = extents })) ≡ as_leaf l (machine_row (record { image = b; hidden = hidden; extents = extents }))
folded_machine l (body.Raw volume sectors) hidden extents = refl
folded_machine l (body.Vhd head slots) hidden extents = refl

-- ---- behind a swap

module _ {s : Site} {t : VolumeTable} {m : Known} {l p : Name} {cursor : ℕ} (h : IsToSwap s t m l p cursor) where
  abbrev pub parent_row : TreeRow
  parent_row = (parent_vol h).image

  pub parent_found : tree_row m.rows p ≡ Some parent_row
  parent_found = ap (tree_row m.rows) (parent_is h) ∙ (parent_vol h).found

  pub leaf_found : tree_row m.rows l ≡ Some (leaf_vol h).image
  leaf_found = ap (tree_row m.rows) (leaf_is h) ∙ (leaf_vol h).found

  pub parent_leaf : p ≢ l
  parent_leaf is = apart h (ap image_uuid is)

  abbrev pub folded : TreeRow
  folded = leaf_row l parent_row

  abbrev pub others : List TreeRow
  others = without p (without l m.rows)

  abbrev pub rows_then : List TreeRow
  rows_then = with_row folded others

  -- memory behind it
  abbrev pub known_then : Known
  known_then = record m { rows = swapped_rows l (tree_row m.rows p) p m.rows; op = op.Idle }

  abbrev pub known_as : Known
  known_as = record m { rows = rows_then; op = op.Idle }

  pub known_is : known_then ≡ known_as
  known_is = ap (λ o. let k : Known = record m { rows = swapped_rows l o p m.rows; op = op.Idle } in k) parent_found

  pub folded_name : row_name folded ≡ l
  folded_name = named_in l parent_row.image

  -- ---- each row

  not_has : (n : Name) (r : TreeRow) → not (has_name n r) ≡ true → row_name r ≢ n
  not_has n r e same = true≢false (sym e ∙ ap not (name_eq-same (row_name r) n same))

  pub other_row_is : (r : TreeRow) → In r others → In r m.rows × (row_name r ≢ l) × (row_name r ≢ p)
  other_row_is r i =
      let w = In-filter (λ q. not (has_name p q)) (without l m.rows) r i in
      let z = In-filter (λ q. not (has_name l q)) m.rows r w.0 in
      (z.0, not_has l r z.1, not_has p r w.1)

  pub in_then : (r : TreeRow) → In r rows_then → (r ≡ folded) ⊎ (In r m.rows × (row_name r ≢ l) × (row_name r ≢ p))
  in_then r i = ⊎_elim (λ is. inl is) (λ j. inr (other_row_is r j)) (In-insert is_before folded others r i)

  -- ---- each row is found

  none_others : tree_row others (row_name folded) ≡ None
  none_others = ap (tree_row others) folded_name ∙ tree_row-without_other (without l m.rows) p l parent_leaf ∙ tree_row-without_same m.rows l

  pub look_leaf : tree_row rows_then l ≡ Some folded
  look_leaf = ap (tree_row rows_then) (sym folded_name) ∙ tree_row-with_same others folded none_others

  pub look_parent : tree_row rows_then p ≡ None
  look_parent = tree_row-with_other others folded p (λ is. parent_leaf (sym (sym folded_name ∙ is))) ∙ tree_row-without_same (without l m.rows) p

  pub look_other : (n : Name) → n ≢ l → n ≢ p → tree_row rows_then n ≡ tree_row m.rows n
  look_other n not_leaf not_parent =
      tree_row-with_other others folded n (λ is. not_leaf (sym (sym folded_name ∙ is)))
      ∙ tree_row-without_other (without l m.rows) p n (λ is. not_parent (sym is))
      ∙ tree_row-without_other m.rows l n (λ is. not_leaf (sym is))

  -- ---- as the table has them

  pub images_alike : (n : Name) → is_image n ≡ true → row_face (rows (table_then h) n) ≡ tree_face (tree_row rows_then n)
  unfolding is_image_name
  images_alike n image = by (name_or n (Vhd (u h))) (name_or n (Vhd (v h))) (name_or n (Old (u h)))
    where
      by : (n ≡ Vhd (u h)) ⊎ (n ≢ Vhd (u h)) → (n ≡ Vhd (v h)) ⊎ (n ≢ Vhd (v h)) → (n ≡ Old (u h)) ⊎ (n ≢ Old (u h)) → row_face (rows (table_then h) n) ≡ tree_face (tree_row rows_then n)
      by (inl is) a b =
          ap (λ x. row_face (rows (table_then h) x)) is ∙ ap row_face (stage_5 h).leaf_row ∙ filled_face (shown_row h) (parent_vol h).filled
          ∙ ap (λ e. tree_face (Some (record { image = folded.image; hidden = false; extents = e }))) (sym (parent_vol h).long)
          ∙ sym (ap tree_face (ap (tree_row rows_then) (is ∙ sym (leaf_is h)) ∙ look_leaf))
      by (inr a) (inl is) b =
          ap (λ x. row_face (rows (table_then h) x)) is ∙ ap row_face (stage_5 h).base_row ∙ sym (ap tree_face (ap (tree_row rows_then) (is ∙ sym (parent_is h)) ∙ look_parent))
      by (inr a) (inr b) (inl is) =
          ap (λ x. row_face (rows (table_then h) x)) is ∙ ap row_face (stage_5 h).gone_row
          ∙ sym (ap tree_face (look_other n (λ e. a (e ∙ leaf_is h)) (λ e. b (e ∙ parent_is h)) ∙ ap (tree_row m.rows) is ∙ other_row s t m (Old (u h)) h.orderly refl))
      by (inr a) (inr b) (inr d) =
          ap row_face ((stage_5 h).others n a b d (image-no_entry n image)) ∙ h.orderly.images n image
          ∙ sym (ap tree_face (look_other n (λ e. a (e ∙ leaf_is h)) (λ e. b (e ∙ parent_is h))))

  -- ---- the disks that have a visible image

  shown_test : (x : List ℕ) → TreeRow → Bool
  shown_test x r = is_image_of x (machine_row r)

  uuid_name : (n : Name) (x : List ℕ) → n ≡ Vhd x → image_uuid n ≡ x
  uuid_name n x is = ap image_uuid is ∙ sym (vhd_uuid x)

  pub shown_still : (x : List ℕ) → is_shown rows_then x ≡ is_shown m.rows x
  unfolding shape_in shown_test
  shown_still x = by (same_or_not x (u h))
    where
      leaf_in : In (leaf_vol h).image m.rows × (row_name (leaf_vol h).image ≡ Vhd (u h))
      leaf_in = In-tree_row m.rows (Vhd (u h)) (leaf_vol h).image (leaf_vol h).found

      tested : (hidden : Bool) (y : List ℕ) → hidden ≡ false → y ≡ u h → (not hidden && bytes_eq y (u h)) ≡ true
      tested hidden y shown is = ap₂ (λ a b. not a && bytes_eq b (u h)) shown is ∙ bytes_eq-refl (u h)

      -- the row of each name is one
      only : (n : Name) (r q : TreeRow) → tree_row m.rows n ≡ Some r → In q m.rows → has_name n q ≡ true → q ≡ r
      only n r q at i named = ∥∥₁_elim h.orderly.well_formed (hlevel props) (λ w.
          same_Some q r (sym (tree_found m.rows q w.one_image i) ∙ ap (tree_row m.rows) (name_eq-true (row_name q) n named) ∙ at))

      away : (b : Bool) → not b ≡ false → b ≡ true
      away true e = refl
      away false e = absurd (true≢false e)

      without_leaf : x ≢ u h → is_shown (without l m.rows) x ≡ is_shown m.rows x
      without_leaf other = any_filter (shown_test x) (λ q. not (has_name l q)) m.rows (λ q i gone.
          let same = only l (leaf_vol h).image q leaf_found i (away (has_name l q) gone) in
          ap (shown_test x) same ∙ ap (λ b. not (leaf_vol h).image.hidden && b) (ap (λ y. bytes_eq y x) (uuid_name _ (u h) leaf_in.1) ∙ bytes_eq-apart (u h) x (λ e. other (sym e)))
          ∙ none_of (not (leaf_vol h).image.hidden))
        where
          none_of : (b : Bool) → (b && false) ≡ false
          none_of true = refl
          none_of false = refl

      without_parent : is_shown others x ≡ is_shown (without l m.rows) x
      without_parent = any_filter (shown_test x) (λ q. not (has_name p q)) (without l m.rows) (λ q i gone.
          let same = only p parent_row q parent_found (In-filter (λ y. not (has_name l y)) m.rows q i).0 (away (has_name p q) gone) in
          ap (shown_test x) same ∙ ap (λ b. not b && bytes_eq (image_uuid (row_name parent_row)) x) (parent_vol h).image_shown)

      by : (x ≡ u h) ⊎ (x ≢ u h) → is_shown rows_then x ≡ is_shown m.rows x
      by (inl is) =
          ap (is_shown rows_then) is
          ∙ any_at (shown_test (u h)) rows_then folded (In-insert_new is_before folded others) (tested false (image_uuid (row_name folded)) refl (ap image_uuid folded_name))
          ∙ sym (any_at (shown_test (u h)) m.rows (leaf_vol h).image leaf_in.0 (tested (leaf_vol h).image.hidden (image_uuid (row_name (leaf_vol h).image)) (leaf_vol h).image_shown
          (uuid_name _ (u h) leaf_in.1)))
          ∙ ap (is_shown m.rows) (sym is)
      by (inr other) =
          shown_with folded others x
          ∙ ap (λ b. b || is_shown others x) (ap (λ y. bytes_eq (image_uuid y) x) folded_name ∙ bytes_eq-apart (u h) x (λ e. other (sym e)))
          ∙ without_parent ∙ without_leaf other

  -- ---- the shape

  pub images_then : map machine_row rows_then ≡ with_image (as_leaf l (machine_row parent_row)) (without_image p (without_image l (map machine_row m.rows)))
  images_then =
      images_with folded others
      ∙ ap₂ with_image (folded_machine l parent_row.image parent_row.hidden parent_row.extents)
      (without_as p (without l m.rows) (λ r i. named_row s t m r h.orderly (In-filter (λ q. not (has_name l q)) m.rows r i).0)
      ∙ ap (without_image p) (without_as l m.rows (λ r i. named_row s t m r h.orderly i)))

  found_machine : find_image p (map machine_row m.rows) ≡ Some (machine_row parent_row)
  unfolding shape_in
  found_machine = ∥∥₁_elim h.orderly.well_formed (hlevel props) (λ w.
      let i = In-tree_row m.rows p parent_row parent_found in
      subst (λ n. find_image n (map machine_row m.rows) ≡ Some (machine_row parent_row)) i.1
      (find_image-in (map machine_row m.rows) (machine_row parent_row) w.one_image (In-map_at machine_row m.rows parent_row i.0)
      (w.images (machine_row parent_row) (In-map_at machine_row m.rows parent_row i.0)).named))

  abbrev mk : ℕ → List DiskRecord → List ImageRow → Shape
  mk q rs is = record (shape_in s t m) { sequence = q; records = rs; images = is; op = op.Idle }

  abbrev machine_images : List ImageRow
  machine_images = with_image (as_leaf l (machine_row parent_row)) (without_image p (without_image l (map machine_row m.rows)))

  number : (table_then h).sequence ≡ risen t.sequence 5
  number = omega arith

  as_mk : shape_in s (table_then h) known_as ≡ mk (risen t.sequence 5) (records_in (shown_places m.rows m.places)) machine_images
  unfolding shape_in
  as_mk = ap₂ (λ (q : ℕ) (rs : List DiskRecord). mk q rs (map machine_row rows_then)) number (ap records_in (shown_same rows_then m.rows m.places shown_still))
      ∙ ap (mk (risen t.sequence 5) (records_in (shown_places m.rows m.places))) images_then

  collected_is : collected plan.Swap (shape_in s t m) ≡ mk t.sequence (records_in (shown_places m.rows m.places)) machine_images
  unfolding shape_in collected
  collected_is =
      ap (λ (o : Op). swapped_shape o (shape_in s t m)) h.is
      ∙ swapped_is (shape_in s t m) h.attached l p cursor
      ∙ ap (λ (o : Option ImageRow). mk t.sequence (records_in (shown_places m.rows m.places)) (with_found o (as_leaf l) (without_image p (without_image l (map machine_row m.rows))))) found_machine

  pub shape_as : shape_in s (table_then h) known_as ≡ shape_next (shape_in s t m) Gc
  unfolding shape_in plan_commits
  shape_as =
      as_mk
      ∙ sym (ap (λ (x : Shape). let y : Shape = record x { sequence = risen t.sequence 5 } in y) collected_is)
      ∙ sym (gc_shape (shape_in s t m) plan.Swap h.planned)

  pub shape_then : shape_in s (table_then h) known_then ≡ shape_next (shape_in s t m) Gc
  shape_then = ap (shape_in s (table_then h)) known_is ∙ shape_as

  -- ---- with other counts of the same attached disks

  abbrev pub known_with : Attached → Known
  known_with att = record m { rows = swapped_rows l (tree_row m.rows p) p m.rows; attached = att; op = op.Idle }

  pub shape_with : (att : Attached) → att.disks ≡ m.attached.disks → shape_in s (table_then h) (known_with att) ≡ shape_in s (table_then h) known_then
  unfolding shape_in
  shape_with att same = ap (λ (ds : List (List ℕ × Mode)). record (shape_in s (table_then h) known_then) { attached = map (λ a. record { disk = a.0; mode = a.1 }) ds }) same
