-- What the machine looks up of images, by the rows in memory.
use Rattle.std.proofs.Common.{◌≡◌, inl, inr, ℕ, ◌≤◌, Bool, true, false, cond, List, [], ◌∷◌, map, length, Option, Some, None, refl, sym, ap, ap₂, ◌∙◌, subst, arith}
use Rattle.std.proofs.Math.Logic.{∥∥₁_elim}
use Rattle.std.proofs.Props.{props}
use Rattle.std.specs.Prelude.{is_some}
use Rattle.std.specs.List.{filter, position_from}
use Rattle.std.proofs.Math.ListN.{drop_of_length-le}
use Rattle.std.proofs.lemmas.List.{length-map}
use Rattle.std.specs.Option.{option_map}
use Rattle.sm_base.specs.declared.names.Name.{Name}
use Rattle.sm_base.specs.declared.names.Name.TheVariants.{Vhd}
use Rattle.vg_meta.specs.Tables.{VolumeTable, name_eq}
use Rattle.vg_meta.proofs.NameLaws.{name_eq-true, name_eq-false}
use Rattle.vg_volumes.specs.Sites.{Site}
use Rattle.common_laws.specs.Lists.{In}
use Rattle.common_laws.proofs.Lists.{In-map, In-map_at}
use Rattle.vhd_image.specs.Bodies.{map_of, parent_name}
use Rattle.vhd_image.specs.declared.images.Body.{Body}
use Rattle.vhd_chain.specs.Reading.{slots_of}
use Rattle.vhd_chain.specs.Trees.{row_name, tree_row, is_child_of}
use Rattle.vhd_chain.specs.Trees as tree
use Rattle.vhd_chain.specs.declared.rows.TreeRow.{TreeRow}
use Rattle.sm_machine.specs.Collector.{next_block, table_of}
use Rattle.sm_machine.specs.Shapes.{ImageRow, children, find_image, image_limit, is_parent, same_image}
use Rattle.sm_machine.specs.WellFormed.{IsWellFormed, is_image_name, table_length}
use Rattle.sm_machine.proofs.ImageNames.{other_image, same_image-refl}
use Rattle.sm_ready.specs.Known.{Known, machine_row, shape_in}
use Rattle.sm_ready.specs.Orderly.{IsOrderly}
use Rattle.sm_ready.proofs.MapLaws.{next_alike}
use Rattle.sm_ready.proofs.Orders.{named_row}

-- the two tests of names agree at an image's
same_as : (x n : Name) → is_image_name x ≡ true → same_image x n ≡ name_eq x n
same_as x n image = by (name_eq x n) refl
  where
    by : (b : Bool) → name_eq x n ≡ b → same_image x n ≡ b
    by true e = subst (λ y. same_image x y ≡ true) (name_eq-true x n e) (same_image-refl x image)
    by false e = other_image x n (name_eq-false x n e)

found_among : (rows : List TreeRow) (n : Name) → ((r : TreeRow) → In r rows → is_image_name (row_name r) ≡ true) → find_image n (map machine_row rows) ≡ option_map machine_row (tree_row rows n)
unfolding tree_row
found_among [] n all = refl
found_among (r ∷ rows) n all =
    ap₂ (λ (b : Bool) (o : Option ImageRow). cond b (Some (machine_row r)) o) (same_as (row_name r) n (all r (inl refl))) (found_among rows n (λ q i. all q (inr i)))
    ∙ by (name_eq (row_name r) n)
  where
    by : (b : Bool) → cond b (Some (machine_row r)) (option_map machine_row (tree_row rows n)) ≡ option_map machine_row (cond b (Some r) (tree_row rows n))
    by true = refl
    by false = refl

-- the image of a name is the one in memory
pub image_found : (s : Site) (t : VolumeTable) (m : Known) (n : Name) → IsOrderly s t m → find_image n (shape_in s t m).images ≡ option_map machine_row (tree_row m.rows n)
unfolding shape_in
image_found s t m n o = found_among m.rows n (λ r i. named_row s t m r o i)

children_among : (rows : List TreeRow) (n : Name) → ((r : TreeRow) → In r rows → is_parent n (parent_name r.image) ≡ is_child_of n r) → filter (λ (i : ImageRow). is_parent n i.parent) (map machine_row rows) ≡ map machine_row (tree.children rows n)
children_among [] n all = refl
children_among (r ∷ rows) n all =
    ap₂ (λ (b : Bool) (is : List ImageRow). cond b (machine_row r ∷ is) is) (all r (inl refl)) (children_among rows n (λ q i. all q (inr i)))
    ∙ by (is_child_of n r)
  where
    by : (b : Bool) → cond b (machine_row r ∷ map machine_row (tree.children rows n)) (map machine_row (tree.children rows n)) ≡ map machine_row (cond b (r ∷ tree.children rows n) (tree.children rows n))
    by true = refl
    by false = refl

module _ (s : Site) (t : VolumeTable) (m : Known) (o : IsOrderly s t m) (w : IsWellFormed (shape_in s t m)) where
  parent_named : (r : TreeRow) (p : Name) → In r m.rows → parent_name r.image ≡ Some p → is_image_name p ≡ true
  unfolding shape_in
  parent_named r p i is =
      let up = w.parents (machine_row r) p (In-map_at machine_row m.rows r i) is in
      let q = In-map machine_row m.rows up.parent up.there in
      subst (λ n. is_image_name n ≡ true) (sym (ap (λ (y : ImageRow). y.name) q.2) ∙ up.is_named) (named_row s t m q.0 o q.1)

  is_child : (r : TreeRow) (n : Name) → In r m.rows → is_parent n (parent_name r.image) ≡ is_child_of n r
  is_child r n i = by (parent_name r.image) refl
    where
      by : (x : Option Name) → parent_name r.image ≡ x → is_parent n x ≡ elim x as (λ _. Bool) [ None ↦ false | Some q ↦ name_eq q n ]
      by None is = refl
      by (Some p) is = same_as p n (parent_named r p i is)

  children_by : (n : Name) → children n (shape_in s t m).images ≡ map machine_row (tree.children m.rows n)
  unfolding children shape_in
  children_by n = children_among m.rows n (λ r i. is_child r n i)

  table_by : (r : TreeRow) → In r m.rows → length (slots_of r.image) ≤ s.geometry.entries
  unfolding shape_in table_length
  table_by r i = by (row_name r) ((w.images (machine_row r) (In-map_at machine_row m.rows r i)).table)
    where
      by : (n : Name) → length (slots_of r.image) ≡ table_length (shape_in s t m) n → length (slots_of r.image) ≤ s.geometry.entries
      by (Vhd u) is = omega (arith, is)
      by _ is = omega (arith, is)

-- the children of an image are those in memory
pub children_found : (s : Site) (t : VolumeTable) (m : Known) (n : Name) → IsOrderly s t m → children n (shape_in s t m).images ≡ map machine_row (tree.children m.rows n)
children_found s t m n o = ∥∥₁_elim o.well_formed (hlevel props) (λ w. children_by s t m o w n)

-- a table has no more entries than each has
pub table_few : (s : Site) (t : VolumeTable) (m : Known) (r : TreeRow) → IsOrderly s t m → In r m.rows → length (slots_of r.image) ≤ s.geometry.entries
table_few s t m r o i = ∥∥₁_elim o.well_formed (hlevel props) (λ w. table_by s t m o w r i)

-- there are no more images in memory than there may be
pub few_rows : (s : Site) (t : VolumeTable) (m : Known) → IsOrderly s t m → length m.rows ≤ image_limit
unfolding shape_in
few_rows s t m o = ∥∥₁_elim o.well_formed (hlevel props) (λ w. omega (arith, w.few, length-map m.rows machine_row))

pub children_counted : (s : Site) (t : VolumeTable) (m : Known) (n : Name) → IsOrderly s t m → length (children n (shape_in s t m).images) ≡ length (tree.children m.rows n)
children_counted s t m n o = ap (λ (is : List ImageRow). length is) (children_found s t m n o) ∙ length-map (tree.children m.rows n) machine_row

-- ---- tables

pub slots_some : (b : Body) (m : List (Option ℕ)) → map_of b ≡ Some m → slots_of b ≡ m
slots_some b m is = ap (λ (o : Option (List (Option ℕ))). elim o as (λ _. List (Option ℕ)) [ None ↦ [] | Some m ↦ m ]) is

pub slots_none : (b : Body) → map_of b ≡ None → slots_of b ≡ []
slots_none b is = ap (λ (o : Option (List (Option ℕ))). elim o as (λ _. List (Option ℕ)) [ None ↦ [] | Some m ↦ m ]) is

-- the table of the image of a name is the one in memory
pub table_some : (s : Site) (t : VolumeTable) (m : Known) (n : Name) (r : TreeRow) → IsOrderly s t m → tree_row m.rows n ≡ Some r → table_of n (shape_in s t m) ≡ slots_of r.image
table_some s t m n r o is =
    ap (λ (x : Option ImageRow). elim x as (λ _. List (Option ℕ)) [ None ↦ [] | Some i ↦ i.slots ]) (image_found s t m n o ∙ ap (option_map machine_row) is)

pub table_none : (s : Site) (t : VolumeTable) (m : Known) (n : Name) → IsOrderly s t m → tree_row m.rows n ≡ None → table_of n (shape_in s t m) ≡ []
table_none s t m n o is =
    ap (λ (x : Option ImageRow). elim x as (λ _. List (Option ℕ)) [ None ↦ [] | Some i ↦ i.slots ]) (image_found s t m n o ∙ ap (option_map machine_row) is)

-- an empty table has no next block
pub next_none : (cursor : ℕ) → None ≡ next_block cursor []
next_none cursor = sym (next_alike cursor [] ∙ ap (position_from is_some cursor) (drop_of_length-le [] (omega arith)))
