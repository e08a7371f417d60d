-- The rows that an opening has read off the volumes so far: what each says of its volume, and what one more volume makes of
-- them.
use Rattle.std.proofs.Common.{◌≡◌, ◌≢◌, ◌⊎◌, inl, inr, ℕ, ◌+◌, ◌*◌, ◌≤◌, Bool, true, false, cond, ◌&&◌, not, List, [], ◌∷◌, ◌++◌, length, take, drop, filter, Option, Some, None, refl, sym, ap, ap₂, ◌∙◌, subst}
use Rattle.std.specs.List.{filter_map, cons_option}
use Rattle.std.proofs.lemmas.List.{map-append}
use Rattle.std.proofs.lemmas.Option.{none-some, same_Some}
use Rattle.sm_base.specs.Kinds.{is_image}
use Rattle.sm_machine.specs.WellFormed.{is_image_name}
use Rattle.sm_base.specs.declared.names.Name.{Name}
use Rattle.sm_base.specs.declared.names.Name.TheVariants.{Vhd, Raw}
use Rattle.std.proofs.lemmas.Bool.{true≢false}
use Rattle.vg_meta.specs.Tables.{Row}
use Rattle.vg_meta.specs.Roomy.{RoomyRow, rows_alone}
use Rattle.vg_meta.proofs.NameLaws.{less_other}
use Rattle.vg_volumes.specs.Stored.{Stored, held_in}
use Rattle.common_laws.specs.Lists.{In}
use Rattle.common_laws.proofs.Lists.{In-append}
use Rattle.sm_standing.specs.Ordered.{Rising}
use Rattle.sm_standing.proofs.Orders.{In-filter_map}
use Rattle.vhd_chain.specs.Trees.{row_name, tree_row, with_row}
use Rattle.vhd_chain.specs.declared.rows.TreeRow.{TreeRow}
use Rattle.vhd_chain.proofs.ByName.{tree_row-name, tree_row-with_same, tree_row-with_other}
use Rattle.sm_ready.proofs.LoadLaws.{IsItem, IsReadFrom, among, read_less, read_none, read_some}
use Rattle.sm_ready.proofs.Orders.{In-tree_row}
use Rattle.sm_ready.proofs.RowLaws.{rising_rows, row_cmp}
use Rattle.sm_checks.specs.Loaded.{AreRowsOf, HasEachRow, IsFilledImage, IsReadAs, IsRow, row_among, row_with}

-- ---- the row of a volume

-- a VHD or a raw image is one that holds data
pub named_data : (n : Name) → is_image_name n ≡ true → is_image n ≡ true
unfolding is_image_name
named_data (Vhd u) h = refl
named_data (Raw u) h = refl
named_data _ h = absurd (true≢false (sym h))

pub one_of_two : (n : Name) (u : List ℕ) → (n ≡ Vhd u) ⊎ (n ≡ Raw u) → is_image_name n ≡ true
unfolding is_image_name
one_of_two n u (inl is) = ap is_image_name is
one_of_two n u (inr is) = ap is_image_name is

-- what a row among some rows is
pub record IsAmong (xs : List TreeRow) (r : Row) (x : TreeRow) : Type 0 where
  pub filled : IsFilledImage r
  pub found : TreeRow
  pub there : tree_row xs r.name ≡ Some found
  pub is : x ≡ record { image = found.image; hidden = r.hidden; extents = length r.extents }

pub among_of : (xs : List TreeRow) (r : Row) (x : TreeRow) → row_among xs r ≡ Some x → IsAmong xs r x
among_of xs r x e = by (is_image_name r.name) (r.fresh) refl refl e
  where
    of : (o : Option TreeRow) → tree_row xs r.name ≡ o → row_with r o ≡ Some x → IsFilledImage r → IsAmong xs r x
    of None is e f = absurd (none-some x e)
    of (Some y) is e f = record { filled = f; found = y; there = is; is = sym (same_Some _ x e) }

    by : (i f : Bool) → is_image_name r.name ≡ i → r.fresh ≡ f → cond (i && not f) (row_with r (tree_row xs r.name)) None ≡ Some x → IsAmong xs r x
    by false f image fresh e = absurd (none-some x e)
    by true true image fresh e = absurd (none-some x e)
    by true false image fresh e = of (tree_row xs r.name) refl e (record { image = image; filled = fresh })

pub among_is : (xs : List TreeRow) (r : Row) → IsFilledImage r → row_among xs r ≡ row_with r (tree_row xs r.name)
among_is xs r f = ap₂ (λ i d. cond (i && not d) (row_with r (tree_row xs r.name)) None) f.image f.filled

pub read_from : (xs : List TreeRow) (r : Row) (x : TreeRow) → row_among xs r ≡ Some x → IsReadFrom r x
read_from xs r x e =
    let a = among_of xs r x e in
    record {
      named = ap row_name a.is ∙ tree_row-name xs r.name a.found a.there;
      image = named_data r.name a.filled.image;
      filled = a.filled.filled;
      hidden = ap (λ (z : TreeRow). z.hidden) a.is;
      extents = ap (λ (z : TreeRow). z.extents) a.is;
    }

-- a volume that has no row
pub none_among : (xs : List TreeRow) (r : Row) → (IsFilledImage r → ⊥) → row_among xs r ≡ None
none_among xs r not_filled = by (is_image_name r.name) (r.fresh) refl refl
  where
    by : (i f : Bool) → is_image_name r.name ≡ i → r.fresh ≡ f → cond (i && not f) (row_with r (tree_row xs r.name)) None ≡ None
    by false f image fresh = refl
    by true true image fresh = refl
    by true false image fresh = absurd (not_filled (record { image = image; filled = fresh }))

-- ---- one more volume

abbrev alone : RoomyRow → Row
alone k = k.row

module _ {hs : List RoomyRow} {i : ℕ} {h : RoomyRow} (a : IsItem hs i h) where
  -- its name is none of those in front
  before_names : (rs qs : List Row) (r : Row) → Rising row_cmp (rs ++ r ∷ qs) → (q : Row) → In q rs → q.name ≢ r.name
  before_names [] qs r rising q none = absurd none
  before_names (s ∷ rs) qs r rising q (inl is) = subst (λ (z : Row). z.name ≢ r.name) (sym is) (less_other s.name r.name (rising.0 r (among rs qs r)))
  before_names (s ∷ rs) qs r rising q (inr there) = before_names rs qs r rising.1 q there

  front_names : (q : Row) → In q (rows_alone (take i hs)) → q.name ≢ h.row.name
  front_names =
      before_names (rows_alone (take i hs)) (rows_alone (drop (i + 1) hs)) h.row
      (subst (Rising row_cmp) (ap rows_alone a.split ∙ map-append alone (take i hs) (h ∷ drop (i + 1) hs)) (rising_rows (rows_alone hs) a.rising))

  pub absent : (xs : List TreeRow) → AreRowsOf (rows_alone (take i hs)) xs → tree_row xs h.row.name ≡ None
  absent xs are = by (tree_row xs h.row.name) refl
    where
      by : (o : Option TreeRow) → tree_row xs h.row.name ≡ o → o ≡ None
      by None is = refl
      by (Some y) is =
          let w = In-tree_row xs h.row.name y is in
          let v = In-filter_map (row_among xs) (rows_alone (take i hs)) y (subst (In y) are w.0) in
          absurd (front_names v.0 v.1 (sym (read_from xs v.0 y v.2).named ∙ w.1))

  -- it has no row
  pub rows_none : (xs : List TreeRow) → AreRowsOf (rows_alone (take i hs)) xs → (IsFilledImage h.row → ⊥) → AreRowsOf (rows_alone (take (i + 1) hs)) xs
  rows_none xs are none = are ∙ sym (read_none (row_among xs) (read_from xs) a (none_among xs h.row none))

  -- it has one
  module _ (xs : List TreeRow) (x : TreeRow) (are : AreRowsOf (rows_alone (take i hs)) xs) (f : IsFilledImage h.row) (named : row_name x ≡ h.row.name) where
    pub name_free : tree_row xs (row_name x) ≡ None
    name_free = ap (tree_row xs) named ∙ absent xs are

    same_found : tree_row (with_row x xs) h.row.name ≡ Some x
    same_found = ap (tree_row (with_row x xs)) (sym named) ∙ tree_row-with_same xs x name_free

    other_found : (n : Name) → n ≢ h.row.name → tree_row (with_row x xs) n ≡ tree_row xs n
    other_found n other = tree_row-with_other xs x n (λ e. other (sym e ∙ named))

    module _ (hidden : x.hidden ≡ h.row.hidden) (extents : x.extents ≡ length h.row.extents) where
      now_among : row_among (with_row x xs) h.row ≡ Some x
      now_among =
          among_is (with_row x xs) h.row f ∙ ap (row_with h.row) same_found
          ∙ ap₂ (λ b n. let y : TreeRow = record { image = x.image; hidden = b; extents = n } in Some y) (sym hidden) (sym extents)

      front_same : (rs : List Row) → ((q : Row) → In q rs → q.name ≢ h.row.name) → filter_map (row_among (with_row x xs)) rs ≡ filter_map (row_among xs) rs
      front_same [] other = refl
      front_same (q ∷ rs) other =
          ap₂ cons_option (ap (λ o. cond (is_image_name q.name && not q.fresh) (row_with q o) None) (other_found q.name (other q (inl refl))))
          (front_same rs (λ s there. other s (inr there)))

      front : filter_map (row_among (with_row x xs)) (rows_alone (take i hs)) ≡ xs
      front = front_same (rows_alone (take i hs)) front_names ∙ sym are

      pub rows_some : AreRowsOf (rows_alone (take (i + 1) hs)) (with_row x xs)
      rows_some = sym (read_some (row_among (with_row x xs)) (read_from (with_row x xs)) a now_among ∙ ap (with_row x) front)

      pub one_less : 1 + length xs ≤ length (filter (λ r. is_image r.name) (rows_alone hs))
      one_less = subst (λ ys. 1 + length ys ≤ length (filter (λ r. is_image r.name) (rows_alone hs))) front
          (read_less (row_among (with_row x xs)) (read_from (with_row x xs)) a now_among)

  -- ---- each volume so far has its row

  next_in : (r : Row) → In r (rows_alone (take (i + 1) hs)) → In r (rows_alone (take i hs)) ⊎ (r ≡ h.row)
  next_in r there = by (In-append (rows_alone (take i hs)) (h.row ∷ []) r (subst (In r) (ap rows_alone a.next ∙ map-append alone (take i hs) (h ∷ [])) there))
    where
      by : In r (rows_alone (take i hs)) ⊎ In r (h.row ∷ []) → In r (rows_alone (take i hs)) ⊎ (r ≡ h.row)
      by (inl before) = inl before
      by (inr (inl is)) = inr is
      by (inr (inr none)) = absurd none

  module _ (told : Type 0) (held : Stored) (xs : List TreeRow) (each : HasEachRow told held (rows_alone (take i hs)) xs) where
    pub each_none : (IsFilledImage h.row → ⊥) → HasEachRow told held (rows_alone (take (i + 1) hs)) xs
    each_none none r there f = by (next_in r there)
      where
        by : In r (rows_alone (take i hs)) ⊎ (r ≡ h.row) → (x : TreeRow) × (tree_row xs r.name ≡ Some x) × IsRow told held r x
        by (inl before) = each r before f
        by (inr is) = absurd (none (subst IsFilledImage is f))

    pub each_some : (x : TreeRow) → AreRowsOf (rows_alone (take i hs)) xs → IsFilledImage h.row → IsRow told held h.row x → HasEachRow told held (rows_alone (take (i + 1) hs)) (with_row x xs)
    each_some x are filled row r there f = by (next_in r there)
      where
        by : In r (rows_alone (take i hs)) ⊎ (r ≡ h.row) → (y : TreeRow) × (tree_row (with_row x xs) r.name ≡ Some y) × IsRow told held r y
        by (inl before) = let w = each r before f in (w.0, other_found xs x are filled row.named r.name (front_names r before) ∙ w.1, w.2)
        by (inr is) = (x, ap (λ (q : Row). tree_row (with_row x xs) q.name) is ∙ same_found xs x are filled row.named, subst (λ q. IsRow told held q x) (sym is) row)

-- ---- all of them

-- a row is that of its volume, as it was read
pub record IsRead (told : Type 0) (held : Stored) (rs : List Row) (xs : List TreeRow) (x : TreeRow) : Type 0 where
  pub volume : Row
  pub there : In volume rs
  pub filled : IsFilledImage volume
  pub row : IsRow told held volume x
  pub found : TreeRow
  pub at : tree_row xs volume.name ≡ Some found
  pub same : found.image ≡ x.image

module _ {told : Type 0} {held : Stored} {rs : List Row} {xs : List TreeRow} (are : AreRowsOf rs xs) (each : HasEachRow told held rs xs) where
  pub read_row : (x : TreeRow) → In x xs → IsRead told held rs xs x
  read_row x i =
      let w = In-filter_map (row_among xs) rs x (subst (In x) are i) in
      let a = among_of xs w.0 x w.2 in
      let y = each w.0 w.1 a.filled in
      let same : y.0.image ≡ x.image = ap (λ (z : TreeRow). z.image) (same_Some y.0 a.found (sym y.1 ∙ a.there)) ∙ sym (ap (λ (z : TreeRow). z.image) a.is) in
      record {
        volume = w.0;
        there = w.1;
        filled = a.filled;
        found = y.0;
        at = y.1;
        same = same;
        row = record {
          named = (read_from xs w.0 x w.2).named;
          hidden = ap (λ (z : TreeRow). z.hidden) a.is;
          extents = ap (λ (z : TreeRow). z.extents) a.is;
          image = subst (IsReadAs told held.site.geometry (length w.0.extents * held.site.geometry.extent) (held_in held w.0.name) w.0.name) same y.2.image;
        };
      }

-- each volume of an image that is not new has one
pub read_each : {told : Type 0} {held : Stored} (rs : List Row) (xs : List TreeRow) → HasEachRow told held rs xs → (r : Row) → In r rs → is_image_name r.name ≡ true → r.fresh ≡ false → (x : TreeRow) × (row_among xs r ≡ Some x)
read_each rs xs each r i image filled =
    let f : IsFilledImage r = record { image = image; filled = filled } in
    let w = each r i f in
    (record { image = w.0.image; hidden = r.hidden; extents = length r.extents }, among_is xs r f ∙ ap (row_with r) w.1)
