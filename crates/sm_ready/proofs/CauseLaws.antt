-- Causes of refusals, by the machine's shape and by what is in memory.
use Rattle.std.proofs.Common.{◌≡◌, ◌⊎◌, inl, inr, ℕ, Bool, true, false, ◌&&◌, ◌||◌, List, map, Option, Some, None, refl, sym, ap, ap₂, ◌∙◌}
use Rattle.std.proofs.Math.Logic.{∥∥₁_elim}
use Rattle.std.proofs.Props.{props}
use Rattle.std.specs.Prelude.{is_some}
use Rattle.std.specs.List.{find, list_any}
use Rattle.std.specs.Str.{bytes_eq}
use Rattle.std.proofs.lemmas.Bool.{true≢false}
use Rattle.std.proofs.lemmas.Slice.Eq.{bytes_eq-Decides}
use Rattle.sm_base.specs.declared.names.Name.{Name}
use Rattle.sm_base.specs.declared.names.Name.TheVariants.{Vhd, Raw}
use Rattle.vg_meta.specs.Tables.{VolumeTable}
use Rattle.vg_volumes.specs.Sites.{Site}
use Rattle.common_laws.specs.Lists.{In}
use Rattle.common_laws.proofs.Lists.{In-map, In-map_at, find_none, none_find, list_any-find}
use Rattle.sm_machine.specs.declared.commands.Command.{Command}
use Rattle.sm_machine.specs.Refusals.{is_taken, new_uuid}
use Rattle.sm_machine.specs.Shapes.{Shape, ImageRow, DiskRecord, image_uuid, disk_record}
use Rattle.sm_machine.specs.WellFormed.{IsWellFormed, is_image_name}
use Rattle.vhd_chain.specs.Trees.{row_name, tree_row}
use Rattle.vhd_chain.specs.declared.rows.TreeRow.{TreeRow}
use Rattle.sm_ready.specs.Known.{Known, has_image, machine_row, shape_in}
use Rattle.sm_ready.specs.Orderly.{IsOrderly}
use Rattle.sm_ready.proofs.Orders.{named_row, In-tree_row}
use Rattle.sm_ready.proofs.RowLaws.{tree_found}
use Rattle.sm_ready.proofs.ShapeLaws.{any_at}

-- a name of an image with this UUID
pub named_as : (n : Name) (u : List ℕ) → is_image_name n ≡ true → image_uuid n ≡ u → (n ≡ Vhd u) ⊎ (n ≡ Raw u)
unfolding is_image_name image_uuid
named_as (Vhd v) u e same = inl (ap Vhd same)
named_as (Raw v) u e same = inr (ap Raw same)
named_as _ u e same = absurd (true≢false (sym e))

pub vhd_uuid : (u : List ℕ) → image_uuid (Vhd u) ≡ u
unfolding image_uuid
vhd_uuid u = refl

pub raw_uuid : (u : List ℕ) → image_uuid (Raw u) ≡ u
unfolding image_uuid
raw_uuid u = refl

or_true : (b : Bool) → (b || true) ≡ true
or_true true = refl
or_true false = refl

some_row : (o : Option TreeRow) → is_some o ≡ true → (r : TreeRow) × (o ≡ Some r)
some_row None e = absurd (true≢false (sym e))
some_row (Some r) e = (r, refl)

-- a row of this UUID, where there is an image of it
row_with : (rows : List TreeRow) (u : List ℕ) → has_image rows u ≡ true → (r : TreeRow) × In r rows × (image_uuid (row_name r) ≡ u)
row_with rows u e = by (is_some (tree_row rows (Vhd u))) refl e
  where
    by : (b : Bool) → is_some (tree_row rows (Vhd u)) ≡ b → (b || is_some (tree_row rows (Raw u))) ≡ true → (r : TreeRow) × In r rows × (image_uuid (row_name r) ≡ u)
    by true at e = let w = some_row (tree_row rows (Vhd u)) at in let z = In-tree_row rows (Vhd u) w.0 w.1 in (w.0, z.0, ap image_uuid z.1 ∙ vhd_uuid u)
    by false at e = let w = some_row (tree_row rows (Raw u)) e in let z = In-tree_row rows (Raw u) w.0 w.1 in (w.0, z.0, ap image_uuid z.1 ∙ raw_uuid u)

-- and none where there is none
pub row_without : (s : Site) (t : VolumeTable) (m : Known) (u : List ℕ) → IsOrderly s t m → IsWellFormed (shape_in s t m) → has_image m.rows u ≡ false → (r : TreeRow) → In r m.rows → bytes_eq (image_uuid (row_name r)) u ≡ false
unfolding shape_in
row_without s t m u o w none r i = by (bytes_eq (image_uuid (row_name r)) u) refl
  where
    found : tree_row m.rows (row_name r) ≡ Some r
    found = tree_found m.rows r w.one_image i

    there : (row_name r ≡ Vhd u) ⊎ (row_name r ≡ Raw u) → has_image m.rows u ≡ true
    there (inl is) = ap (λ (o : Option TreeRow). is_some o || is_some (tree_row m.rows (Raw u))) (ap (tree_row m.rows) (sym is) ∙ found)
    there (inr is) = ap (λ (o : Option TreeRow). is_some (tree_row m.rows (Vhd u)) || is_some o) (ap (tree_row m.rows) (sym is) ∙ found) ∙ or_true (is_some (tree_row m.rows (Vhd u)))

    by : (b : Bool) → bytes_eq (image_uuid (row_name r)) u ≡ b → bytes_eq (image_uuid (row_name r)) u ≡ false
    by false e = e
    by true e = absurd (true≢false (sym (there (named_as (row_name r) u (named_row s t m r o i) ((bytes_eq-Decides (image_uuid (row_name r)) u).0 e))) ∙ none))

abbrev taken : Shape → List ℕ → Bool
taken σ u = is_some (disk_record u σ) || list_any (λ i. i.hidden && bytes_eq (image_uuid i.name) u) σ.images

-- a UUID is taken exactly where an image in memory has it
taken_by : (s : Site) (t : VolumeTable) (m : Known) (u : List ℕ) → IsOrderly s t m → IsWellFormed (shape_in s t m) → (b : Bool) → has_image m.rows u ≡ b → taken (shape_in s t m) u ≡ b
unfolding shape_in
taken_by s t m u o w true is =
    let r = row_with m.rows u is in
    by r.0 r.1 r.2 r.0.hidden refl
  where
    by : (r : TreeRow) → In r m.rows → image_uuid (row_name r) ≡ u → (b : Bool) → r.hidden ≡ b → taken (shape_in s t m) u ≡ true
    by r i same true e =
        ap (λ b. is_some (disk_record u (shape_in s t m)) || b)
        (any_at (λ i. i.hidden && bytes_eq (image_uuid i.name) u) (map machine_row m.rows) (machine_row r) (In-map_at machine_row m.rows r i) (ap₂ (λ a b. a && b) e ((bytes_eq-Decides (image_uuid (row_name r)) u).1 same)))
        ∙ or_true (is_some (disk_record u (shape_in s t m)))
    by r i same false e =
        let x = w.visible (machine_row r) (In-map_at machine_row m.rows r i) e in
        ap (λ b. b || list_any (λ i. i.hidden && bytes_eq (image_uuid i.name) u) (map machine_row m.rows))
        (found (find (λ (q : DiskRecord). bytes_eq q.uuid u) (shape_in s t m).records) refl x.0 x.1 (x.2 ∙ same))
      where
        found : (y : Option DiskRecord) → find (λ (q : DiskRecord). bytes_eq q.uuid u) (shape_in s t m).records ≡ y → (q : DiskRecord) → In q (shape_in s t m).records → q.uuid ≡ u
            → is_some (find (λ (q : DiskRecord). bytes_eq q.uuid u) (shape_in s t m).records) ≡ true
        found (Some q') at q j is = ap is_some at
        found None at q j is = absurd (true≢false (sym ((bytes_eq-Decides q.uuid u).1 is) ∙ none_find (λ (q : DiskRecord). bytes_eq q.uuid u) (shape_in s t m).records at q j))
taken_by s t m u o w false is =
    ap₂ (λ a b. a || b) (ap is_some (find_none (λ (q : DiskRecord). bytes_eq q.uuid u) (shape_in s t m).records (λ q j. no_record q j (bytes_eq q.uuid u) refl)))
    (list_any-find (λ i. i.hidden && bytes_eq (image_uuid i.name) u) (map machine_row m.rows) (find_none (λ i. i.hidden && bytes_eq (image_uuid i.name) u) (map machine_row m.rows) no_image))
  where
    other : (i : ImageRow) → In i (map machine_row m.rows) → bytes_eq (image_uuid i.name) u ≡ false
    other i j = let y = In-map machine_row m.rows i j in ap (λ (z : ImageRow). bytes_eq (image_uuid z.name) u) y.2 ∙ row_without s t m u o w is y.0 y.1

    no_image : (i : ImageRow) → In i (map machine_row m.rows) → (i.hidden && bytes_eq (image_uuid i.name) u) ≡ false
    no_image i j = ap (λ b. i.hidden && b) (other i j) ∙ and_false i.hidden
      where
        and_false : (b : Bool) → (b && false) ≡ false
        and_false true = refl
        and_false false = refl

    no_record : (q : DiskRecord) → In q (shape_in s t m).records → (b : Bool) → bytes_eq q.uuid u ≡ b → bytes_eq q.uuid u ≡ false
    no_record q j false e = e
    no_record q j true e =
        let x = w.disks q j in
        absurd (true≢false (sym ((bytes_eq-Decides (image_uuid x.0.name) u).1 (x.3 ∙ (bytes_eq-Decides q.uuid u).0 e)) ∙ other x.0 x.1))

pub taken_is : (s : Site) (t : VolumeTable) (m : Known) (c : Command) (u : List ℕ) → IsOrderly s t m → new_uuid c ≡ Some u → is_taken (shape_in s t m) c ≡ has_image m.rows u
unfolding is_taken
taken_is s t m c u o is =
    ap (λ (x : Option (List ℕ)). elim x [ None ↦ false | Some v ↦ taken (shape_in s t m) v ]) is
    ∙ ∥∥₁_elim o.well_formed (hlevel props) (λ w. taken_by s t m u o w (has_image m.rows u) refl)
