-- None fails of what orderly memory tells.
use Rattle.vhd_image.specs.Bodies.{sector_count, parent_name}
use Rattle.std.proofs.Common.{◌≡◌, IsTrue, ◌≢◌, inl, inr, ℕ, zero, suc, ◌*◌, ◌≤◌, ◌==◌, ◌&&◌, ◌||◌, not, nat_lt, nat_le, Bool, true, false, cond, List, [], ◌∷◌, ◌++◌, length, get_or, Option, Some, None, is_some, refl, sym, ap, ap₂, ◌∙◌, subst, arith, eq-eqb, append-nil}
use Rattle.std.specs.Prelude.{is_none, is_some}
use Rattle.std.specs.List.{filter}
use Rattle.std.proofs.lemmas.Bool.{true≢false, lt-ltb, le-ltb, le-leb}
use Rattle.std.proofs.lemmas.Option.{none-some, same_Some}
use Rattle.std.specs.List.Sorted.{IsStrictlySortedBy}
use Rattle.std.specs.declared.cmp.Ordering.TheVariants.{Less}
use Rattle.std.proofs.Math.Nat.{mul-le-mul_right}
use Rattle.sm_base.specs.Names.{IsName, IsUuid, is_base, name_cmp}
use Rattle.sm_base.specs.declared.faults.Place.{Place}
use Rattle.sm_base.specs.declared.names.Name.{Name}
use Rattle.sm_base.specs.declared.names.Name.TheVariants.{Mgt, Vhd, Raw, Old, Cbt, Clone, Inflate, Coalesce, Relink, Leaf}
use Rattle.sm_machine.specs.Operations.{Op}
use Rattle.vg_layout.specs.Places.{record_extents}
use Rattle.vg_meta.specs.Tables.{VolumeTable, Row, IsVolume, rows, extents_of, names_of}
use Rattle.sm_base.specs.Kinds.{is_image as is_data, is_entry}
use Rattle.vg_meta.proofs.RowLaws.{row_of-name}
use Rattle.vg_volumes.specs.Sites.{Site}
use Rattle.common_laws.specs.Lists.{In, given, numbers}
use Rattle.sm_machine.specs.Shapes.{ImageRow, image_uuid, is_vhd, same_image, image_limit, chain_limit, parent_of}
use Rattle.sm_machine.specs.WellFormed.{IsWellFormed, HasParent, IsOperation, IsOnlyChild, IsChild, EndsWithin, is_image_name, IsImageRow}
use Rattle.common_laws.proofs.Lists.{In-map, In-map_at, Distinct-key, find_none, first_none, In-filter, filter-In}
use Rattle.sm_machine.proofs.ImageNames.{same_image-refl, same_image-sound}
use Rattle.sm_record.specs.declared.records.Record.{Record}
use Rattle.sm_standing.specs.Checks.{first_name, placed, images, is_misnamed, lesser, is_lost, is_orphaned, is_oversize, has_uuid, is_damaged, record_place, disk_place, has_twin, is_unrecorded, disk_uuids, record_volume_fault, too_many_fault, misnamed_fault, second_entry_fault, lost_entry_fault, old_leaf_fault, invalid_fault, tree_fault, entry_link_fault, record_fault, disk_fault, fault_of, all_faults, is_invalid, is_image_wrong, is_tree_wrong, tree_wrong_as, is_misplaced, is_linked, is_parent_right, is_no_larger, chain_length, children, parent_is, is_entry_linked, has_parent_of, has_such_parent, of_image, children_with}
use Rattle.sm_standing.specs.Contents.{record_count}
use Rattle.sm_standing.specs.Entries.{base_number, is_folding, is_there, is_hidden, is_visible, is_past, are_past, is_at_stage, is_coalescing, is_leaf_copied, is_leaf_renamed, is_leaf_swapped, is_leaf_folded, of_row, folding, second}
use Rattle.sm_standing.proofs.DisksShown.{row_of-In}
use Rattle.vg_meta.proofs.NameLaws.{less_other}
use Rattle.sm_machine.proofs.Chains.{parent_of-in}
use Rattle.sm_base.proofs.NumberLemmas.{le-div_up}
use Rattle.sm_ready.proofs.EntryKinds.{folding_journal}
use Rattle.sm_ready.proofs.BaseLaws.{base_of_number, base_number_fits}
use Rattle.sm_ready.proofs.OnceLaws.{recorded_once}
use Rattle.sm_standing.specs.Standing.{standing_volume, uuids}
use Rattle.sm_ready.proofs.Orders.{geometry_of, new_unrowed, rowed, other_row, named_row, In-tree_row, none_making}
use Rattle.sm_ready.specs.Outlined.{outline_in, link_in}
use Rattle.sm_ready.specs.Known.{Known, machine_row, shape_in, entry_of}
use Rattle.vhd_chain.specs.declared.rows.TreeRow.{TreeRow}
use Rattle.vhd_chain.specs.Trees.{row_name, tree_row}
use Rattle.sm_ready.specs.Orderly.{IsOrderly}
use Rattle.sm_standing.specs.Outlines.{Outline, Link}
use Rattle.sm_mgt.specs.Places.{as_reading}
use Rattle.sm_ready.proofs.RowLaws.{tree_found, found_in, volume_there, image_named, All-In}
use Rattle.sm_base.specs.declared.faults.Place.TheVariants as at
use Rattle.sm_machine.specs.Operations as op

given_none : {A : Type 0} (b : Bool) (x : A) → b ≡ false → given b x ≡ None
given_none true x e = absurd (true≢false e)
given_none false x e = refl

placed_none : (p : Name → Place) (test : Row → Bool) (rs : List Row) → ((r : Row) → In r rs → test r ≡ false) → placed p (first_name test rs) ≡ None
unfolding first_name
placed_none p test rs none = ap (λ (o : Option Row). placed p (elim o as (λ o. Option Name) [ None ↦ None | Some r ↦ Some r.name ])) (find_none test rs none)

not_one : (b : Bool) → b ≡ true → not b ≡ false
not_one b e = ap not e

both : (a b : Bool) → a ≡ true → b ≡ true → (a && b) ≡ true
both a b x y = ap₂ (λ p q. p && q) x y

or_left : (a b : Bool) → a ≡ true → (a || b) ≡ true
or_left a b e = ap (λ x. x || b) e

or_right : (a b : Bool) → b ≡ true → (a || b) ≡ true
or_right true b e = refl
or_right false b e = e

-- the names of a table are distinct, so a test that only one passes finds it alone
filter_none : (test : Row → Bool) (rs : List Row) → ((x : Row) → In x rs → test x ≡ false) → filter test rs ≡ []
filter_none test [] none = refl
filter_none test (x ∷ rs) none = ap (λ b. cond b (x ∷ filter test rs) (filter test rs)) (none x (inl refl)) ∙ filter_none test rs (λ y i. none y (inr i))

fails_by : (b : Bool) → (b ≡ true → ⊥) → b ≡ false
fails_by true f = absurd (f refl)
fails_by false f = refl

filter_one_of : (test : Row → Bool) (rs : List Row) (r : Row) → IsStrictlySortedBy name_cmp (names_of rs) → In r rs → test r ≡ true → ((x : Row) → In x rs → test x ≡ true → x.name ≡ r.name)
    → length (filter test rs) ≡ 1
unfolding IsStrictlySortedBy
filter_one_of test [] r sorted i passes only = absurd i
filter_one_of test (x ∷ rs) r sorted (inl is) passes only =
    ap (λ b. length (cond b (x ∷ filter test rs) (filter test rs))) (ap test (sym is) ∙ passes)
    ∙ ap (λ (ys : List Row). length (x ∷ ys)) (filter_none test rs (λ y i. fails_by (test y) (λ e.
    less_other x.name y.name (All-In (λ n. name_cmp x.name n ≡ Less) (names_of rs) y.name sorted.0 (In-map_at (λ (z : Row). z.name) rs y i)) (ap (λ (z : Row). z.name) (sym is) ∙ sym (only y (inr i) e)))))
filter_one_of test (x ∷ rs) r sorted (inr i) passes only =
    ap (λ b. length (cond b (x ∷ filter test rs) (filter test rs))) (fails_by (test x) (λ e.
    less_other x.name r.name (All-In (λ n. name_cmp x.name n ≡ Less) (names_of rs) r.name sorted.0 (In-map_at (λ (z : Row). z.name) rs r i)) (only x (inl refl) e)))
    ∙ filter_one_of test rs r sorted.1 i passes (λ y k. only y (inr k))

abbrev leaf_else : Outline → List ℕ → List ℕ → Bool
leaf_else c leaf parent = cond (is_leaf_renamed c.table leaf parent) (length (children c (Vhd parent)) == 0) (cond (is_leaf_swapped c.table leaf parent) (length (children c (Vhd leaf)) == 0) true)

vhd_image_name : (u : List ℕ) → is_image_name (Vhd u) ≡ true
unfolding is_image_name
vhd_image_name u = refl

records_long : (s : Site) (t : VolumeTable) (m : Known) → IsOrderly s t m → 512 ≤ record_extents s.geometry.extent * s.geometry.extent
unfolding record_extents
records_long s t m o = le-div_up 512 s.geometry.extent (omega (arith, (geometry_of s t m o).extent_least))

few : (n : ℕ) → 512 ≤ 0 * n → ⊥
few n h = omega (arith, h)

and_false : (b : Bool) → (b && false) ≡ false
and_false true = refl
and_false false = refl

same_uuid : (u : List ℕ) → image_uuid (Vhd u) ≡ image_uuid (Raw u)
unfolding image_uuid
same_uuid u = refl

vhd_uuid : (u : List ℕ) → image_uuid (Vhd u) ≡ u
unfolding image_uuid
vhd_uuid u = refl

raw_uuid : (u : List ℕ) → image_uuid (Raw u) ≡ u
unfolding image_uuid
raw_uuid u = refl

other_linked : (c : Outline) (n : Name) → is_entry n ≡ false → is_entry_linked c n ≡ true
unfolding is_entry_linked
other_linked c Mgt e = refl
other_linked c (Vhd u) e = refl
other_linked c (Raw u) e = refl
other_linked c (Old u) e = refl
other_linked c (Cbt u) e = refl
other_linked c (Clone d b k) e = absurd (true≢false e)
other_linked c (Inflate u k) e = refl
other_linked c (Coalesce a b) e = absurd (true≢false e)
other_linked c (Relink a b) e = absurd (true≢false e)
other_linked c (Leaf a b) e = absurd (true≢false e)

filter_within : {A : Type 0} (f g : A → Bool) → ((x : A) → f x ≡ true → g x ≡ true) → (xs : List A) → filter f xs ≡ filter f (filter g xs)
filter_within f g within [] = refl
filter_within f g within (x ∷ xs) = by (f x) (g x) refl refl (filter_within f g within xs)
  where
    by : (a b : Bool) → f x ≡ a → g x ≡ b → filter f xs ≡ filter f (filter g xs) → cond (f x) (x ∷ filter f xs) (filter f xs) ≡ filter f (cond (g x) (x ∷ filter g xs) (filter g xs))
    by a true e h rest = ap (λ ys. cond (f x) (x ∷ ys) ys) rest ∙ sym (ap (λ b. filter f (cond b (x ∷ filter g xs) (filter g xs))) h)
    by true false e h rest = absurd (true≢false (sym (within x e) ∙ h))
    by false false e h rest = ap (λ b. cond b (x ∷ filter f xs) (filter f xs)) e ∙ rest ∙ sym (ap (λ b. filter f (cond b (x ∷ filter g xs) (filter g xs))) h)

module _ (s : Site) (t : VolumeTable) (m : Known) (o : IsOrderly s t m) (w : IsWellFormed (shape_in s t m)) where
  -- ---- the table by the rows of memory

  there : (r : Row) → In r t.volumes → rows t r.name ≡ Some r
  there r i = found_in t.volumes o.table.volumes.rising r i

  found : (r : TreeRow) → In r m.rows → tree_row m.rows (row_name r) ≡ Some r
  unfolding shape_in
  found r i = tree_found m.rows r w.one_image i

  -- the volume of an image of the machine
  record HasRow (i : ImageRow) : Type 0 where
    tree : TreeRow
    in_rows : In tree m.rows
    is : i ≡ machine_row tree
    volume : Row
    in_table : rows t i.name ≡ Some volume
    hidden : volume.hidden ≡ i.hidden
    filled : volume.fresh ≡ false

  row_for : (i : ImageRow) → In i (shape_in s t m).images → HasRow i
  unfolding shape_in
  row_for i h =
      let y = In-map machine_row m.rows i h in
      let name : row_name y.0 ≡ i.name = sym (ap (λ (z : ImageRow). z.name) y.2) in
      let v = volume_there s t m y.0 o (image_named (row_name y.0) (named_row s t m y.0 o y.1)) (found y.0 y.1) in
      let x = rowed s t m (row_name y.0) v.row o (image_named (row_name y.0) (named_row s t m y.0 o y.1)) v.there v.filled in
      record {
        tree = y.0;
        in_rows = y.1;
        is = y.2;
        volume = v.row;
        in_table = ap (rows t) (sym name) ∙ v.there;
        hidden = sym x.hidden ∙ ap (λ (q : TreeRow). q.hidden) (same_Some x.row y.0 (sym x.found ∙ found y.0 y.1)) ∙ sym (ap (λ (z : ImageRow). z.hidden) y.2);
        filled = x.filled;
      }

  hidden_there : (i : ImageRow) → In i (shape_in s t m).images → i.hidden ≡ true → is_hidden t i.name ≡ true
  hidden_there i h hidden = let r = row_for i h in ap (of_row (λ q. q.hidden && not q.fresh)) r.in_table ∙ both r.volume.hidden (not r.volume.fresh) (r.hidden ∙ hidden) (ap not r.filled)

  visible_there : (i : ImageRow) → In i (shape_in s t m).images → i.hidden ≡ false → is_visible t i.name ≡ true
  visible_there i h shown = let r = row_for i h in ap (of_row (λ q. not q.hidden && not q.fresh)) r.in_table ∙ both (not r.volume.hidden) (not r.volume.fresh) (ap not (r.hidden ∙ shown)) (ap not r.filled)

  no_old : (u : List ℕ) → rows t (Old u) ≡ None
  unfolding is_image_name
  no_old u = by (rows t (Old u)) refl
    where
      by : (x : Option Row) → rows t (Old u) ≡ x → x ≡ None
      by None is = refl
      by (Some r) is = absurd (kind r r.fresh refl is)
        where
          kind : (r : Row) (b : Bool) → r.fresh ≡ b → rows t (Old u) ≡ Some r → ⊥
          kind r true new e = true≢false (sym (o.new_named r (row_of-In t.volumes (Old u) r e).0 new).1 ∙ ap is_image_name (row_of-name t.volumes (Old u) r e))
          kind r false full e = let z = rowed s t m (Old u) r o refl e full in none-some z.row (sym (other_row s t m (Old u) o refl) ∙ z.found)

  -- the link of an image of the machine
  link_at : (i : ImageRow) → In i (shape_in s t m).images → (outline_in s t m).links i.name ≡ Some (record { size = i.size; parent = i.parent })
  unfolding outline_in
  link_at i h =
      let r = row_for i h in
      ap link_in (ap (λ (z : ImageRow). tree_row m.rows z.name) r.is ∙ found r.tree r.in_rows) ∙ ap (λ (z : ImageRow). let x : Link = record { size = z.size; parent = z.parent } in Some x) (sym r.is)

  -- ---- 8: the entries

  vhd_named : (n : Name) → is_vhd n ≡ true → n ≡ Vhd (image_uuid n)
  unfolding is_vhd image_uuid
  vhd_named (Vhd u) e = refl
  vhd_named (Raw u) e = absurd (true≢false (sym e))
  vhd_named Mgt e = absurd (true≢false (sym e))
  vhd_named (Old u) e = absurd (true≢false (sym e))
  vhd_named (Cbt u) e = absurd (true≢false (sym e))
  vhd_named (Clone d b w) e = absurd (true≢false (sym e))
  vhd_named (Inflate u k) e = absurd (true≢false (sym e))
  vhd_named (Coalesce c p) e = absurd (true≢false (sym e))
  vhd_named (Relink c p) e = absurd (true≢false (sym e))
  vhd_named (Leaf l p) e = absurd (true≢false (sym e))

  hidden_either : (n : Name) → is_image_name n ≡ true → is_hidden t n ≡ true → (is_hidden t (Vhd (image_uuid n)) || is_hidden t (Raw (image_uuid n))) ≡ true
  unfolding is_image_name image_uuid
  hidden_either (Vhd u) e h = ap (λ b. b || is_hidden t (Raw u)) h
  hidden_either (Raw u) e h = by (is_hidden t (Vhd u))
    where
      by : (b : Bool) → (b || is_hidden t (Raw u)) ≡ true
      by true = refl
      by false = h
  hidden_either Mgt e h = absurd (true≢false (sym e))
  hidden_either (Old u) e h = absurd (true≢false (sym e))
  hidden_either (Cbt u) e h = absurd (true≢false (sym e))
  hidden_either (Clone d b w) e h = absurd (true≢false (sym e))
  hidden_either (Inflate u k) e h = absurd (true≢false (sym e))
  hidden_either (Coalesce c p) e h = absurd (true≢false (sym e))
  hidden_either (Relink c p) e h = absurd (true≢false (sym e))
  hidden_either (Leaf l p) e h = absurd (true≢false (sym e))

  parent_there : (c : ImageRow) (p : Name) → In c (shape_in s t m).images → c.parent ≡ Some p → HasParent (shape_in s t m).images c p
  parent_there c p i e = w.parents c p i e

  coalescing : (v p : Name) → IsChild (shape_in s t m) true v p → is_coalescing t (image_uuid v) (image_uuid p) ≡ true
  coalescing v p c =
      let q = parent_there c.child p c.there c.linked in
      both (is_hidden t (Vhd (image_uuid v))) (is_hidden t (Vhd (image_uuid p)) || is_hidden t (Raw (image_uuid p)))
      (ap (is_hidden t) (sym (vhd_named v c.vhd)) ∙ ap (is_hidden t) (sym c.is_named) ∙ hidden_there c.child c.there c.is_shown)
      (hidden_either p (ap is_image_name (sym q.is_named) ∙ (w.images q.parent q.there).named) (ap (is_hidden t) (sym q.is_named) ∙ hidden_there q.parent q.there q.is_hidden))

  leaf_copied : (l p : Name) → IsOnlyChild (shape_in s t m) false l p → is_vhd p ≡ true → is_leaf_copied t (image_uuid l) (image_uuid p) ≡ true
  leaf_copied l p c vhd =
      let q = parent_there c.link.child p c.link.there c.link.linked in
      both (is_visible t (Vhd (image_uuid l))) (is_hidden t (Vhd (image_uuid p)) && not (is_there t (Old (image_uuid l))))
      (ap (is_visible t) (sym (vhd_named l c.link.vhd) ∙ sym c.link.is_named) ∙ visible_there c.link.child c.link.there c.link.is_shown)
      (both (is_hidden t (Vhd (image_uuid p))) (not (is_there t (Old (image_uuid l))))
      (ap (is_hidden t) (sym (vhd_named p vhd) ∙ sym q.is_named) ∙ hidden_there q.parent q.there q.is_hidden) (ap (λ x. not (is_some x)) (no_old (image_uuid l))))

  -- an entry stands at its stage
  staged : (x : Op) (n : Name) → IsOperation (shape_in s t m) x → In n (entry_of x) → is_at_stage t n ≡ true
  unfolding is_at_stage
  staged op.Idle n h i = absurd i
  staged (op.Copy v p c) n h (inl is) = ap (is_at_stage t) is ∙ coalescing v p h.link
  staged (op.Copy v p c) n h (inr i) = absurd i
  staged (op.Relink v p) n h (inl is) = ap (is_at_stage t) is ∙ coalescing v p h
  staged (op.Relink v p) n h (inr i) = absurd i
  staged (op.Leaf l p c) n h (inl is) = ap (is_at_stage t) is ∙ or_left (is_leaf_copied t (image_uuid l) (image_uuid p)) (is_leaf_renamed t (image_uuid l) (image_uuid p) || (is_leaf_swapped t (image_uuid l) (image_uuid p) || is_leaf_folded t (image_uuid l) (image_uuid p))) (leaf_copied l p h.0 h.1)
  staged (op.Leaf l p c) n h (inr i) = absurd i
  staged (op.Live l p c dirty) n h (inl is) = ap (is_at_stage t) is ∙ or_left (is_leaf_copied t (image_uuid l) (image_uuid p)) (is_leaf_renamed t (image_uuid l) (image_uuid p) || (is_leaf_swapped t (image_uuid l) (image_uuid p) || is_leaf_folded t (image_uuid l) (image_uuid p))) (leaf_copied l p h.only h.parent_vhd)
  staged (op.Live l p c dirty) n h (inr i) = absurd i

  -- ---- 11: parents and chains

  -- an image with this link is a row of memory, and the machine's
  record HasLink (n : Name) (l : Link) : Type 0 where
    row : ImageRow
    in_images : In row (shape_in s t m).images
    named : row.name ≡ n
    size : row.size ≡ l.size
    parent : row.parent ≡ l.parent

  link_from : (n : Name) (l : Link) → (outline_in s t m).links n ≡ Some l → HasLink n l
  unfolding outline_in shape_in
  link_from n l e = by (tree_row m.rows n) refl e
    where
      by : (x : Option TreeRow) → tree_row m.rows n ≡ x → link_in x ≡ Some l → HasLink n l
      by None is f = absurd (none-some l f)
      by (Some r) is f =
          let z = In-tree_row m.rows n r is in
          let same = same_Some (record { size = sector_count r.image; parent = parent_name r.image }) l f in
          record { row = machine_row r; in_images = In-map_at machine_row m.rows r z.0; named = z.1; size = ap (λ (y : Link). y.size) same; parent = ap (λ (y : Link). y.parent) same }

  le-true : (a b : ℕ) → a ≤ b → nat_le a b ≡ true
  le-true a b h = le-leb a b h

  parent_right : (i : ImageRow) (p : Name) → In i (shape_in s t m).images → i.parent ≡ Some p → is_parent_right (outline_in s t m) i.size p ≡ true
  unfolding outline_in
  parent_right i p h e =
      let q = parent_there i p h e in
      both (is_hidden t p) (is_no_larger i.size ((outline_in s t m).links p)) (ap (is_hidden t) (sym q.is_named) ∙ hidden_there q.parent q.there q.is_hidden)
      (ap (λ n. is_no_larger i.size ((outline_in s t m).links n)) (sym q.is_named) ∙ ap (is_no_larger i.size) (link_at q.parent q.there) ∙ le-true q.parent.size i.size q.not_larger)

  linked : (i : ImageRow) (x : Option Name) → In i (shape_in s t m).images → i.parent ≡ x → is_linked (outline_in s t m) (record { size = i.size; parent = x }) ≡ true
  linked i None h e = refl
  linked i (Some p) h e = parent_right i p h e

  -- a chain is as short as the machine's
  ends_deep : (k : ℕ) (n : Name) → EndsWithin k (Some n) (shape_in s t m).images → chain_length (outline_in s t m) (suc k) n ≤ k
  unfolding chain_length
  ends_deep zero n e = absurd e
  ends_deep (suc k) n e = by (λ p f. ends_deep k p f) ((outline_in s t m).links n) refl
    where
      up : (x : Option Name) → ℕ
      up x = elim x as (λ x. ℕ) [ None ↦ 0 | Some p ↦ chain_length (outline_in s t m) (suc k) p ]

      of : ((p : Name) → EndsWithin k (Some p) (shape_in s t m).images → chain_length (outline_in s t m) (suc k) p ≤ k) → (x : Option Name) → parent_of n (shape_in s t m).images ≡ x → suc (up x) ≤ suc k
      of rest None is = omega arith
      of rest (Some p) is = omega (arith, rest p (subst (λ y. EndsWithin k y (shape_in s t m).images) is e))

      by : ((p : Name) → EndsWithin k (Some p) (shape_in s t m).images → chain_length (outline_in s t m) (suc k) p ≤ k) → (x : Option Link) → (outline_in s t m).links n ≡ x
          → elim ((outline_in s t m).links n) [ None ↦ 0 | Some i ↦ suc (up i.parent) ] ≤ suc k
      by rest None is = subst (λ (y : Option Link). elim y [ None ↦ 0 | Some i ↦ suc (up i.parent) ] ≤ suc k) (sym is) (omega arith)
      by rest (Some l) is =
          let z = link_from n l is in
          subst (λ (y : Option Link). elim y [ None ↦ 0 | Some i ↦ suc (up i.parent) ] ≤ suc k) (sym is)
          (of rest l.parent (ap (λ a. parent_of a (shape_in s t m).images) (sym z.named) ∙ parent_of-in (shape_in s t m).images z.row w.one_image z.in_images (w.images z.row z.in_images).named ∙ z.parent))

  -- ---- 12: the entries

  uuid_named : (n : Name) → is_image_name n ≡ true → has_uuid (image_uuid n) n ≡ true
  unfolding is_image_name image_uuid
  uuid_named (Vhd u) e = or_left (same_image (Vhd u) (Vhd u)) (same_image (Vhd u) (Raw u)) (same_image-refl (Vhd u) refl)
  uuid_named (Raw u) e = or_right (same_image (Raw u) (Vhd u)) (same_image (Raw u) (Raw u)) (same_image-refl (Raw u) refl)
  uuid_named Mgt e = absurd (true≢false (sym e))
  uuid_named (Old u) e = absurd (true≢false (sym e))
  uuid_named (Cbt u) e = absurd (true≢false (sym e))
  uuid_named (Clone d b w) e = absurd (true≢false (sym e))
  uuid_named (Inflate u k) e = absurd (true≢false (sym e))
  uuid_named (Coalesce c p) e = absurd (true≢false (sym e))
  uuid_named (Relink c p) e = absurd (true≢false (sym e))
  uuid_named (Leaf l p) e = absurd (true≢false (sym e))

  -- child and parent of an operation pass a test of their links
  parents_pass : (hidden : Bool) (v p : Name) (c : IsChild (shape_in s t m) hidden v p) (test : Link → Link → Bool)
      → ((q : ImageRow) → In q (shape_in s t m).images → q.name ≡ p → test (record { size = c.child.size; parent = c.child.parent }) (record { size = q.size; parent = q.parent }) ≡ true)
      → has_parent_of (outline_in s t m) (image_uuid v) (image_uuid p) test ≡ true
  parents_pass hidden v p c test passes =
      let q = parent_there c.child p c.there c.linked in
      let x = outline_in s t m in
      let l : Link = record { size = c.child.size; parent = c.child.parent } in
      let k : Link = record { size = q.parent.size; parent = q.parent.parent } in
      ap (λ y. of_image (λ z. has_such_parent x (image_uuid p) (test z) z.parent) y) (ap (x.links) (sym (vhd_named v c.vhd) ∙ sym c.is_named) ∙ link_at c.child c.there)
      ∙ ap (has_such_parent x (image_uuid p) (test l)) c.linked
      ∙ both (has_uuid (image_uuid p) p) (of_image (test l) (x.links p)) (uuid_named p (ap is_image_name (sym q.is_named) ∙ (w.images q.parent q.there).named))
      (ap (of_image (test l)) (ap (x.links) (sym q.is_named) ∙ link_at q.parent q.there) ∙ passes q.parent q.there q.is_named)

  -- a volume whose image has this parent
  parent_child : (n q : Name) → parent_is q ((outline_in s t m).links n) ≡ true → (i : ImageRow) × In i (shape_in s t m).images × (i.name ≡ n) × (i.parent ≡ Some q)
  parent_child n q e = by ((outline_in s t m).links n) refl e
    where
      by : (x : Option Link) → (outline_in s t m).links n ≡ x → parent_is q x ≡ true → (i : ImageRow) × In i (shape_in s t m).images × (i.name ≡ n) × (i.parent ≡ Some q)
      by None is f = absurd (true≢false (sym f))
      by (Some l) is f = let z = link_from n l is in (z.row, z.in_images, z.named, z.parent ∙ of l.parent f)
        where
          of : (y : Option Name) → elim y as (λ y. Bool) [ None ↦ false | Some a ↦ same_image a q ] ≡ true → y ≡ Some q
          of None g = absurd (true≢false (sym g))
          of (Some a) g = ap Some (same_image-sound a q g)

  no_children : (q : Name) → ((i : ImageRow) → In i (shape_in s t m).images → i.parent ≡ Some q → ⊥) → children (outline_in s t m) q ≡ []
  unfolding children outline_in
  no_children q none = filter_none (λ r. parent_is q ((outline_in s t m).links r.name)) t.volumes (λ r i. fails_by (parent_is q ((outline_in s t m).links r.name)) (λ e. let z = parent_child r.name q e in none z.0 z.1 z.3))

  -- no image reads through another kind of image of a parent's UUID
  no_twin : (c : ImageRow) (p q : Name) → In c (shape_in s t m).images → c.parent ≡ Some p → q ≢ p → image_uuid q ≡ image_uuid p → children (outline_in s t m) q ≡ []
  no_twin c p q h e other same = no_children q (λ i j f.
      let a = parent_there c p h e in
      let b = parent_there i q j f in
      other (sym b.is_named ∙ ap (λ (z : ImageRow). z.name) (Distinct-key (λ (z : ImageRow). image_uuid z.name) (shape_in s t m).images b.parent a.parent w.one_image b.there a.there
      (ap image_uuid b.is_named ∙ same ∙ sym (ap image_uuid a.is_named))) ∙ a.is_named))

  -- the only child of an image is its only child in the table
  one_child : (hidden : Bool) (v p : Name) → IsOnlyChild (shape_in s t m) hidden v p → length (children (outline_in s t m) p) ≡ 1
  unfolding children outline_in
  one_child hidden v p c =
      let r = row_for c.link.child c.link.there in
      let x = row_of-In t.volumes c.link.child.name r.volume r.in_table in
      let named : r.volume.name ≡ c.link.child.name = row_of-name t.volumes c.link.child.name r.volume r.in_table in
      let image : is_image_name p ≡ true = (let q = parent_there c.link.child p c.link.there c.link.linked in ap is_image_name (sym q.is_named) ∙ (w.images q.parent q.there).named) in
      filter_one_of (λ y. parent_is p ((outline_in s t m).links y.name)) t.volumes r.volume o.table.volumes.rising x.0
      (ap (λ n. parent_is p ((outline_in s t m).links n)) named ∙ ap (parent_is p) (link_at c.link.child c.link.there) ∙ ap (λ y. parent_is p (Some (record { size = c.link.child.size; parent = y }))) c.link.linked ∙ same_image-refl p image)
      (λ y i passes. only y.name (parent_child y.name p passes) ∙ sym (named ∙ c.link.is_named))
    where
      only : (n : Name) → (i : ImageRow) × In i (shape_in s t m).images × (i.name ≡ n) × (i.parent ≡ Some p) → n ≡ v
      only n z = sym z.2 ∙ c.only z.0 z.1 z.3

  -- the entry of a relink is linked where the parent is as large
  relink_linked : (v p : Name) (c : IsChild (shape_in s t m) true v p) → ((q : ImageRow) → In q (shape_in s t m).images → q.name ≡ p → c.child.size ≤ q.size)
      → is_entry_linked (outline_in s t m) (Relink (image_uuid v) (image_uuid p)) ≡ true
  unfolding is_entry_linked
  relink_linked v p c large = parents_pass true v p c (λ a b. nat_le a.size b.size) (λ q i e. le-true c.child.size q.size (large q i e))

  leaf_linked : (l p : Name) → IsOnlyChild (shape_in s t m) false l p → is_vhd p ≡ true → is_entry_linked (outline_in s t m) (Leaf (image_uuid l) (image_uuid p)) ≡ true
  unfolding is_entry_linked outline_in
  leaf_linked l p c vhd =
      let x = outline_in s t m in
      let named = vhd_named p vhd in
      ap (λ b. cond b (parent_is (Vhd (image_uuid p)) (x.links (Vhd (image_uuid l))) && (length (children x (Vhd (image_uuid p))) == 1)) (leaf_else x (image_uuid l) (image_uuid p))) (leaf_copied l p c vhd)
      ∙ both (parent_is (Vhd (image_uuid p)) (x.links (Vhd (image_uuid l)))) (length (children x (Vhd (image_uuid p))) == 1)
      (ap (λ n. parent_is (Vhd (image_uuid p)) (x.links n)) (sym (vhd_named l c.link.vhd) ∙ sym c.link.is_named) ∙ ap (parent_is (Vhd (image_uuid p))) (link_at c.link.child c.link.there)
      ∙ ap (λ y. parent_is (Vhd (image_uuid p)) (Some (record { size = c.link.child.size; parent = y }))) (c.link.linked ∙ ap Some named) ∙ same_image-refl (Vhd (image_uuid p)) (vhd_image_name (image_uuid p)))
      (eq-eqb (length (children x (Vhd (image_uuid p)))) 1 (ap (λ n. length (children x n)) (sym named) ∙ one_child false l p c))

  -- ---- row by row

  -- a journal entry of the table is that of the operation
  in_entries : (r : Row) → In r t.volumes → is_entry r.name ≡ true → In r.name (entry_of m.op)
  in_entries r i e = subst (In r.name) o.entries (filter-In is_entry (names_of t.volumes) r.name (In-map_at (λ (y : Row). y.name) t.volumes r i) e)

  by_journal : (r : Row) (test : Bool) → (is_entry r.name ≡ false → test ≡ false) → (is_entry r.name ≡ true → test ≡ false) → test ≡ false
  by_journal r test f g = by (is_entry r.name) refl
    where
      by : (b : Bool) → is_entry r.name ≡ b → test ≡ false
      by true e = g e
      by false e = f e

  -- the UUID of an image in memory is one, as its volume stands in the table
  image_uuid_proper : (i : ImageRow) → In i (shape_in s t m).images → IsUuid (image_uuid i.name)
  unfolding is_image_name IsName image_uuid
  image_uuid_proper i h =
      let r = row_for i h in
      of i.name (w.images i h).named
      (subst IsName (row_of-name t.volumes i.name r.volume r.in_table) (All-In IsVolume t.volumes r.volume o.table.volumes.each (row_of-In t.volumes i.name r.volume r.in_table).0).name)
    where
      of : (n : Name) → IsTrue (is_image_name n) → IsName n → IsUuid (image_uuid n)
      of (Vhd u) e p = p
      of (Raw u) e p = p
      of _ e p = absurd (true≢false (sym e))

  -- a UUID of an image in memory, of the form of base images, has a number that was used
  past_image : (i : ImageRow) → In i (shape_in s t m).images → is_past t.sequence (image_uuid i.name) ≡ true
  unfolding shape_in
  past_image i h = of (is_base (image_uuid i.name)) refl
    where
      of : (b : Bool) → is_base (image_uuid i.name) ≡ b → (not (is_base (image_uuid i.name)) || nat_lt (base_number (image_uuid i.name)) t.sequence) ≡ true
      of false is = ap (λ b. not b || nat_lt (base_number (image_uuid i.name)) t.sequence) is
      of true is =
          let proper = image_uuid_proper i h in
          ap (λ b. not b || nat_lt (base_number (image_uuid i.name)) t.sequence) is
          ∙ lt-ltb (base_number (image_uuid i.name)) t.sequence (w.bases i (base_number (image_uuid i.name)) h (base_number_fits (image_uuid i.name) proper) (sym (base_of_number (image_uuid i.name) proper is)))

  past_both : (hidden : Bool) (v p : Name) → IsChild (shape_in s t m) hidden v p → (is_past t.sequence (image_uuid v) && (is_past t.sequence (image_uuid p) && true)) ≡ true
  past_both hidden v p c =
      let q = parent_there c.child p c.there c.linked in
      both (is_past t.sequence (image_uuid v)) (is_past t.sequence (image_uuid p) && true) (ap (λ n. is_past t.sequence (image_uuid n)) (sym c.is_named) ∙ past_image c.child c.there)
      (both (is_past t.sequence (image_uuid p)) true (ap (λ n. is_past t.sequence (image_uuid n)) (sym q.is_named) ∙ past_image q.parent q.there) refl)

  past_entry : (x : Op) (n : Name) → IsOperation (shape_in s t m) x → In n (entry_of x) → are_past t n ≡ true
  past_entry op.Idle n h i = absurd i
  past_entry (op.Copy v p c) n h (inl is) = ap (are_past t) is ∙ past_both true v p h.link
  past_entry (op.Copy v p c) n h (inr i) = absurd i
  past_entry (op.Relink v p) n h (inl is) = ap (are_past t) is ∙ past_both true v p h
  past_entry (op.Relink v p) n h (inr i) = absurd i
  past_entry (op.Leaf l p c) n h (inl is) = ap (are_past t) is ∙ past_both false l p h.0.link
  past_entry (op.Leaf l p c) n h (inr i) = absurd i
  past_entry (op.Live l p c dirty) n h (inl is) = ap (are_past t) is ∙ past_both false l p h.only.link
  past_entry (op.Live l p c dirty) n h (inr i) = absurd i

  record_volume_none : record_volume_fault (outline_in s t m) ≡ None
  unfolding record_volume_fault outline_in
  record_volume_none = by (rows t Mgt) o.record_volume
    where
      by : (x : Option Row) → length (extents_of x) ≡ record_extents s.geometry.extent → given (not (elim x as (λ x. Bool) [ None ↦ false | Some r ↦ length r.extents == record_extents s.geometry.extent ])) at.Mgt ≡ None
      by None e = absurd (no_volume e)
        where
          no_volume : 0 ≡ record_extents s.geometry.extent → ⊥
          no_volume f = few s.geometry.extent (subst (λ k. 512 ≤ k * s.geometry.extent) (sym f) (records_long s t m o))
      by (Some r) e = given_none (not (length r.extents == record_extents s.geometry.extent)) at.Mgt (ap not (eq-eqb (length r.extents) (record_extents s.geometry.extent) e))

  lost_none : lost_entry_fault (outline_in s t m) ≡ None
  unfolding lost_entry_fault outline_in shape_in
  lost_none = placed_none at.Journal (is_lost t) t.volumes (λ r i. by_journal r (is_lost t r)
      (λ e. ap (λ b. b && not (is_at_stage t r.name && are_past t r.name)) e)
      (λ e. ap (λ b. b && not (is_at_stage t r.name && are_past t r.name)) e
      ∙ ap not (both (is_at_stage t r.name) (are_past t r.name) (staged m.op r.name w.operation (in_entries r i e)) (past_entry m.op r.name w.operation (in_entries r i e)))))

  old_none : old_leaf_fault (outline_in s t m) ≡ None
  unfolding old_leaf_fault outline_in
  old_none = placed_none at.Image (λ r. is_orphaned t r.name) t.volumes (λ r i. by r.name (there r i))
    where
      by : (n : Name) {x : Row} → rows t n ≡ Some x → is_orphaned t n ≡ false
      by (Old u) {x} e = absurd (none-some x (sym (no_old u) ∙ e))
      by (Cbt u) {x} e = refl
      by Mgt {x} e = refl
      by (Vhd u) {x} e = refl
      by (Raw u) {x} e = refl
      by (Clone d b c) {x} e = refl
      by (Inflate u k) {x} e = refl
      by (Coalesce c p) {x} e = refl
      by (Relink c p) {x} e = refl
      by (Leaf l p) {x} e = refl

  -- an image's volume is the machine's
  record IsOurs (n : Name) (r : Row) : Type 0 where
    tree : TreeRow
    in_rows : In tree m.rows
    named : row_name tree ≡ n
    hidden : tree.hidden ≡ r.hidden
    long : tree.extents ≡ length r.extents
    links : (outline_in s t m).links n ≡ Some (record { size = (machine_row tree).size; parent = (machine_row tree).parent })

  ours : (n : Name) (r : Row) → is_data n ≡ true → rows t n ≡ Some r → r.fresh ≡ false → IsOurs n r
  unfolding outline_in
  ours n r image e full = let z = rowed s t m n r o image e full in record { tree = z.row; in_rows = z.there; named = z.named; hidden = z.hidden; long = z.long; links = ap link_in z.found }

  machine_in : (r : TreeRow) → In r m.rows → In (machine_row r) (shape_in s t m).images
  unfolding shape_in
  machine_in r i = In-map_at machine_row m.rows r i

  raw_fits : (x b e len size k : ℕ) → size ≡ len * x → size ≡ k * b → k ≤ e → len * x ≤ e * b
  raw_fits x b e len size k one two fits = subst (λ y. y ≤ e * b) (sym two ∙ one) (mul-le-mul_right b fits)

  size_of_raw : (r : TreeRow) (u : List ℕ) → row_name r ≡ Raw u → IsImageRow (shape_in s t m) (machine_row r) → (machine_row r).size ≡ r.extents * s.geometry.extent
  unfolding shape_in is_vhd
  size_of_raw r u named im = (im.raw (ap is_vhd named)).1

  invalid_none : invalid_fault (outline_in s t m) ≡ None
  unfolding invalid_fault outline_in shape_in
  invalid_none = placed_none at.Image (is_invalid (outline_in s t m)) (outline_in s t m).table.volumes (λ r i. by r r.name (there r i))
    where
      raw : (r : Row) (u : List ℕ) → rows t (Raw u) ≡ Some r → r.fresh ≡ false → is_oversize s.geometry.extent s.geometry.block s.geometry.entries r ≡ false
      raw r u e full =
          let z = ours (Raw u) r refl e full in
          let im = w.images (machine_row z.tree) (machine_in z.tree z.in_rows) in
          le-ltb (s.geometry.entries * s.geometry.block) (length r.extents * s.geometry.extent)
          (raw_fits s.geometry.extent s.geometry.block s.geometry.entries (length r.extents) (machine_row z.tree).size im.whole.0 (size_of_raw z.tree u z.named im ∙ ap (λ k. k * s.geometry.extent) z.long) im.whole.1 im.whole.3)

      unless : (r : Row) (test : Bool) → (r.fresh ≡ false → test ≡ false) → (not r.fresh && test) ≡ false
      unless r test f = of r.fresh refl
        where
          of : (b : Bool) → r.fresh ≡ b → (not r.fresh && test) ≡ false
          of true new = ap (λ b. not b && test) new
          of false full = ap (λ y. not r.fresh && y) (f full) ∙ and_false (not r.fresh)

      by : (r : Row) (n : Name) → rows t n ≡ Some r → (not r.fresh && is_image_wrong (outline_in s t m) r n) ≡ false
      by r (Vhd u) e = unless r (is_none ((outline_in s t m).links (Vhd u))) (λ full. ap is_none (ours (Vhd u) r refl e full).links)
      by r (Raw u) e = unless r (is_oversize s.geometry.extent s.geometry.block s.geometry.entries r) (λ full. raw r u e full)
      by r Mgt e = and_false (not r.fresh)
      by r (Old u) e = and_false (not r.fresh)
      by r (Cbt u) e = and_false (not r.fresh)
      by r (Clone d b c) e = and_false (not r.fresh)
      by r (Inflate u k) e = and_false (not r.fresh)
      by r (Coalesce c p) e = and_false (not r.fresh)
      by r (Relink c p) e = and_false (not r.fresh)
      by r (Leaf l p) e = and_false (not r.fresh)

  tree_none : tree_fault (outline_in s t m) ≡ None
  unfolding tree_fault outline_in
  tree_none = placed_none at.Tree (is_tree_wrong (outline_in s t m)) t.volumes (λ r i. by r r.name (there r i))
    where
      right : (r : Row) (u : List ℕ) → rows t (Vhd u) ≡ Some r → r.fresh ≡ false → is_misplaced (outline_in s t m) r ((outline_in s t m).links (Vhd u)) ≡ false
      right r u e full =
          let z = ours (Vhd u) r refl e full in
          let x = outline_in s t m in
          let i = machine_row z.tree in
          let j = machine_in z.tree z.in_rows in
          ap (is_misplaced x r) z.links
          ∙ ap not (both (is_linked x (record { size = i.size; parent = i.parent })) _ (linked i i.parent j refl)
          (both (nat_le (chain_length x (suc chain_limit) r.name) chain_limit) (r.hidden || (length (children x r.name) == 0))
          (le-leb (chain_length x (suc chain_limit) r.name) chain_limit (ends_deep chain_limit r.name (subst (λ n. EndsWithin chain_limit (Some n) (shape_in s t m).images) (z.named ∙ sym (row_of-name t.volumes (Vhd u) r e)) (w.chains i j))))
          (shown r.hidden refl)))
        where
          shown : (b : Bool) → r.hidden ≡ b → (r.hidden || (length (children (outline_in s t m) r.name) == 0)) ≡ true
          shown true is = or_left r.hidden (length (children (outline_in s t m) r.name) == 0) is
          shown false is = or_right r.hidden (length (children (outline_in s t m) r.name) == 0) (eq-eqb (length (children (outline_in s t m) r.name)) 0 (ap (λ (ys : List Row). length ys) (no_children r.name (λ i j f.
              let a = parent_there i r.name j f in
              let b = row_for a.parent a.there in
              true≢false (sym (b.hidden ∙ a.is_hidden) ∙ ap (λ (y : Row). y.hidden) (same_Some b.volume r (sym b.in_table ∙ ap (rows t) (a.is_named ∙ row_of-name t.volumes (Vhd u) r e) ∙ e)) ∙ is)))))

      by : (r : Row) (n : Name) → rows t n ≡ Some r → tree_wrong_as (outline_in s t m) r n ≡ false
      by r (Vhd u) e = of r.fresh refl
        where
          of : (b : Bool) → r.fresh ≡ b → is_misplaced (outline_in s t m) r ((outline_in s t m).links (Vhd u)) ≡ false
          of true new = ap (λ y. is_misplaced (outline_in s t m) r (link_in y)) (new_unrowed s t m (Vhd u) r o refl e new)
          of false full = right r u e full
      by r (Raw u) e = refl
      by r Mgt e = refl
      by r (Old u) e = refl
      by r (Cbt u) e = refl
      by r (Clone d b c) e = refl
      by r (Inflate u k) e = refl
      by r (Coalesce c p) e = refl
      by r (Relink c p) e = refl
      by r (Leaf l p) e = refl

  p_image : (v p : Name) → IsOnlyChild (shape_in s t m) true v p → is_image_name p ≡ true
  p_image v p c = let q = parent_there c.link.child p c.link.there c.link.linked in ap is_image_name (sym q.is_named) ∙ (w.images q.parent q.there).named

  one_with : (v p n : Name) → IsOnlyChild (shape_in s t m) true v p → n ≡ p → is_image_name n ≡ true → length (children_with (outline_in s t m) (image_uuid n)) ≡ 1
  unfolding is_image_name image_uuid
  one_with v p (Vhd u) c is e =
      ap (λ (ys : List Row). length (children (outline_in s t m) (Vhd u) ++ ys)) (no_twin c.link.child p (Raw u) c.link.there c.link.linked (λ f. let x = f ∙ sym is in cc) (ap image_uuid is))
      ∙ ap (λ (ys : List Row). length ys) (append-nil (children (outline_in s t m) (Vhd u))) ∙ ap (λ a. length (children (outline_in s t m) a)) is ∙ one_child true v p c
  one_with v p (Raw u) c is e =
      ap (λ (ys : List Row). length (ys ++ children (outline_in s t m) (Raw u))) (no_twin c.link.child p (Vhd u) c.link.there c.link.linked (λ f. let x = f ∙ sym is in cc) (ap image_uuid is))
      ∙ ap (λ a. length (children (outline_in s t m) a)) is ∙ one_child true v p c
  one_with v p Mgt c is e = absurd (true≢false (sym e))
  one_with v p (Old u) c is e = absurd (true≢false (sym e))
  one_with v p (Cbt u) c is e = absurd (true≢false (sym e))
  one_with v p (Clone d b k) c is e = absurd (true≢false (sym e))
  one_with v p (Inflate u k) c is e = absurd (true≢false (sym e))
  one_with v p (Coalesce a b) c is e = absurd (true≢false (sym e))
  one_with v p (Relink a b) c is e = absurd (true≢false (sym e))
  one_with v p (Leaf a b) c is e = absurd (true≢false (sym e))

  copy_linked : (v p : Name) → IsOnlyChild (shape_in s t m) true v p → is_entry_linked (outline_in s t m) (Coalesce (image_uuid v) (image_uuid p)) ≡ true
  unfolding is_entry_linked
  copy_linked v p c = both (has_parent_of (outline_in s t m) (image_uuid v) (image_uuid p) (λ a b. true)) (length (children_with (outline_in s t m) (image_uuid p)) == 1)
      (parents_pass true v p c.link (λ a b. true) (λ q i e. refl)) (eq-eqb (length (children_with (outline_in s t m) (image_uuid p))) 1 (one_with v p p c refl (p_image v p c)))

  linked_entry : (x : Op) (n : Name) → IsOperation (shape_in s t m) x → In n (entry_of x) → ((v p : Name) (c q : ImageRow) → x ≡ op.Relink v p → In c (shape_in s t m).images → In q (shape_in s t m).images → c.name ≡ v → q.name ≡ p → c.size ≤ q.size)
      → is_entry_linked (outline_in s t m) n ≡ true
  linked_entry op.Idle n h i level = absurd i
  linked_entry (op.Copy v p c) n h (inl is) level = ap (is_entry_linked (outline_in s t m)) is ∙ copy_linked v p h
  linked_entry (op.Copy v p c) n h (inr i) level = absurd i
  linked_entry (op.Relink v p) n h (inl is) level = ap (is_entry_linked (outline_in s t m)) is ∙ relink_linked v p h (λ q j e. level v p h.child q refl h.there j h.is_named e)
  linked_entry (op.Relink v p) n h (inr i) level = absurd i
  linked_entry (op.Leaf l p c) n h (inl is) level = ap (is_entry_linked (outline_in s t m)) is ∙ leaf_linked l p h.0 h.1
  linked_entry (op.Leaf l p c) n h (inr i) level = absurd i
  linked_entry (op.Live l p c dirty) n h (inl is) level = ap (is_entry_linked (outline_in s t m)) is ∙ leaf_linked l p h.only h.parent_vhd
  linked_entry (op.Live l p c dirty) n h (inr i) level = absurd i

  places_right : record_fault (outline_in s t m) ≡ None
  unfolding record_fault outline_in
  places_right = ap record_place (find_none (λ k. is_damaged (as_reading (get_or m.places k None))) (numbers 0 record_count) (λ k i. by (get_or m.places k None)))
    where
      by : (x : Option Record) → is_damaged (as_reading x) ≡ false
      by None = refl
      by (Some r) = refl

  entry_link_none : ((v p : Name) (c q : ImageRow) → m.op ≡ op.Relink v p → In c (shape_in s t m).images → In q (shape_in s t m).images → c.name ≡ v → q.name ≡ p → c.size ≤ q.size)
      → entry_link_fault (outline_in s t m) ≡ None
  unfolding entry_link_fault outline_in shape_in
  entry_link_none level = placed_none at.Journal (λ r. not (is_entry_linked (outline_in s t m) r.name)) t.volumes (λ r i. by_journal r (not (is_entry_linked (outline_in s t m) r.name))
      (λ e. ap not (no_entry r.name e)) (λ e. ap not (linked_entry m.op r.name w.operation (in_entries r i e) level)))
    where
      no_entry : (n : Name) → is_entry n ≡ false → is_entry_linked (outline_in s t m) n ≡ true
      no_entry n e = other_linked (outline_in s t m) n e

  second_none : second_entry_fault (outline_in s t m) ≡ None
  unfolding second_entry_fault outline_in
  second_none = ap₂ (λ (a b : List Name). placed at.Journal (lesser (second a) (second b))) folding_is (none_making s t m o) ∙ by m.op
    where
      folding_is : folding t ≡ filter is_folding (entry_of m.op)
      folding_is = filter_within is_folding is_entry folding_journal (names_of t.volumes) ∙ ap (filter is_folding) o.entries

      by : (x : Op) → placed at.Journal (lesser (second (filter is_folding (entry_of x))) None) ≡ None
      by op.Idle = refl
      by (op.Copy v p c) = refl
      by (op.Relink v p) = refl
      by (op.Leaf l p c) = refl
      by (op.Live l p c dirty) = refl

  misnamed_none : misnamed_fault (outline_in s t m) ≡ None
  unfolding misnamed_fault outline_in
  misnamed_none = placed_none at.Image (is_misnamed t) t.volumes (λ r i. by r r.name (there r i))
    where
      -- two images of one UUID
      apart : (u : List ℕ) (r q : Row) → rows t (Vhd u) ≡ Some r → rows t (Raw u) ≡ Some q → r.fresh ≡ false → q.fresh ≡ false → ⊥
      apart u r q e f full also =
          let a = ours (Vhd u) r refl e full in
          let b = ours (Raw u) q refl f also in
          let same = Distinct-key (λ (z : ImageRow). image_uuid z.name) (shape_in s t m).images (machine_row a.tree) (machine_row b.tree) w.one_image (machine_in a.tree a.in_rows) (machine_in b.tree b.in_rows)
          (ap image_uuid a.named ∙ same_uuid u ∙ sym (ap image_uuid b.named)) in
          (let x = sym a.named ∙ ap (λ (z : ImageRow). z.name) same ∙ b.named in cc)

      -- the new volume of a twin would be misnamed
      twin_test : (a b c : Bool) → (a && (b || c)) ≡ false → a ≡ true → b ≡ false
      twin_test true false c e f = refl
      twin_test true true c e f = absurd (true≢false e)
      twin_test false b c e f = absurd (true≢false (sym f))

      no_raw : (u : List ℕ) (r : Row) → rows t (Vhd u) ≡ Some r → r.fresh ≡ false → is_there t (Raw u) ≡ false
      no_raw u r e full = of (rows t (Raw u)) refl
        where
          of : (x : Option Row) → rows t (Raw u) ≡ x → is_some x ≡ false
          of None f = refl
          of (Some q) f = absurd (kind q.fresh refl)
            where
              kind : (b : Bool) → q.fresh ≡ b → ⊥
              kind false also = apart u r q e f full also
              kind true new =
                  let named = row_of-name t.volumes (Raw u) q f in
                  let n = (o.new_named q (row_of-In t.volumes (Raw u) q f).0 new).0 in
                  true≢false (ap is_some (sym e) ∙ twin_test (is_data (Raw u)) (has_twin t (Raw u)) (not (are_past t (Raw u))) (ap (λ y. is_data y && (has_twin t y || not (are_past t y))) (sym named) ∙ n) refl)

      no_vhd : (u : List ℕ) (r : Row) → rows t (Raw u) ≡ Some r → r.fresh ≡ false → is_there t (Vhd u) ≡ false
      no_vhd u r e full = of (rows t (Vhd u)) refl
        where
          of : (x : Option Row) → rows t (Vhd u) ≡ x → is_some x ≡ false
          of None f = refl
          of (Some q) f = absurd (kind q.fresh refl)
            where
              kind : (b : Bool) → q.fresh ≡ b → ⊥
              kind false also = apart u q r f e also full
              kind true new =
                  let named = row_of-name t.volumes (Vhd u) q f in
                  let n = (o.new_named q (row_of-In t.volumes (Vhd u) q f).0 new).0 in
                  true≢false (ap is_some (sym e) ∙ twin_test (is_data (Vhd u)) (has_twin t (Vhd u)) (not (are_past t (Vhd u))) (ap (λ y. is_data y && (has_twin t y || not (are_past t y))) (sym named) ∙ n) refl)

      past : (n : Name) (u : List ℕ) (r : Row) → is_data n ≡ true → rows t n ≡ Some r → r.fresh ≡ false → image_uuid n ≡ u → (is_past t.sequence u && true) ≡ true
      past n u r data_name e full same =
          let a = ours n r data_name e full in
          both (is_past t.sequence u) true (ap (is_past t.sequence) (sym (ap image_uuid a.named ∙ same)) ∙ past_image (machine_row a.tree) (machine_in a.tree a.in_rows)) refl

      filled_right : (r : Row) (n : Name) → rows t n ≡ Some r → r.fresh ≡ false → (is_data n && (has_twin t n || not (are_past t n))) ≡ false
      filled_right r (Vhd u) e full = ap₂ (λ a b. a || not b) (no_raw u r e full) (past (Vhd u) u r refl e full (vhd_uuid u))
      filled_right r (Raw u) e full = ap₂ (λ a b. a || not b) (no_vhd u r e full) (past (Raw u) u r refl e full (raw_uuid u))
      filled_right r Mgt e full = refl
      filled_right r (Old u) e full = absurd (none-some r (sym (no_old u) ∙ e))
      filled_right r (Cbt u) e full = refl
      filled_right r (Clone d b c) e full = refl
      filled_right r (Inflate u k) e full = refl
      filled_right r (Coalesce c p) e full = refl
      filled_right r (Relink c p) e full = refl
      filled_right r (Leaf l p) e full = refl

      by : (r : Row) (n : Name) → rows t n ≡ Some r → (is_data n && (has_twin t n || not (are_past t n))) ≡ false
      by r n e = of r.fresh refl
        where
          of : (b : Bool) → r.fresh ≡ b → (is_data n && (has_twin t n || not (are_past t n))) ≡ false
          of true new = ap (λ y. is_data y && (has_twin t y || not (are_past t y))) (sym (row_of-name t.volumes n r e)) ∙ (o.new_named r (row_of-In t.volumes n r e).0 new).0
          of false full = filled_right r n e full

  too_many_none : too_many_fault (outline_in s t m) ≡ None
  unfolding too_many_fault outline_in
  too_many_none = given_none (nat_lt image_limit (length (images t))) at.Images (le-ltb image_limit (length (images t)) o.few)

  disk_none : disk_fault (outline_in s t m) ≡ None
  unfolding disk_fault outline_in
  disk_none = ap disk_place (find_none (is_unrecorded (outline_in s t m)) (disk_uuids (outline_in s t m)) (λ u i. recorded_once s t m u o w (In-filter (λ v. is_some (standing_volume t v)) (uuids t) u i).1))

  pub sound : ((v p : Name) (c q : ImageRow) → m.op ≡ op.Relink v p → In c (shape_in s t m).images → In q (shape_in s t m).images → c.name ≡ v → q.name ≡ p → c.size ≤ q.size)
      → fault_of (outline_in s t m) ≡ None
  unfolding fault_of
  sound level = first_none (all_faults (outline_in s t m)) (λ x i. by x i)
    where
      by : (x : Option Place) → In x (all_faults (outline_in s t m)) → x ≡ None
      by x (inl e) = e ∙ record_volume_none
      by x (inr (inl e)) = e ∙ too_many_none
      by x (inr (inr (inl e))) = e ∙ misnamed_none
      by x (inr (inr (inr (inl e)))) = e ∙ second_none
      by x (inr (inr (inr (inr (inl e))))) = e ∙ lost_none
      by x (inr (inr (inr (inr (inr (inl e)))))) = e ∙ old_none
      by x (inr (inr (inr (inr (inr (inr (inl e))))))) = e ∙ invalid_none
      by x (inr (inr (inr (inr (inr (inr (inr (inl e)))))))) = e ∙ tree_none
      by x (inr (inr (inr (inr (inr (inr (inr (inr (inl e))))))))) = e ∙ entry_link_none level
      by x (inr (inr (inr (inr (inr (inr (inr (inr (inr (inl e)))))))))) = e ∙ places_right
      by x (inr (inr (inr (inr (inr (inr (inr (inr (inr (inr (inl e))))))))))) = e ∙ disk_none
      by x (inr (inr (inr (inr (inr (inr (inr (inr (inr (inr (inr h))))))))))) = absurd h
