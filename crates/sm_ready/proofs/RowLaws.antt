-- Rows of the table and of memory, found by name, and volumes behind images.
use Rattle.std.proofs.Common.{◌≡◌, inl, inr, Bool, true, false, cond, List, [], ◌∷◌, map, Option, Some, None, refl, sym, ap, ◌∙◌, subst}
use Rattle.std.proofs.lemmas.Bool.{true≢false}
use Rattle.std.proofs.lemmas.Option.{none-some}
use Rattle.std.specs.List.{AllByRecursion}
use Rattle.std.specs.List.Sorted.{IsStrictlySortedBy}
use Rattle.std.specs.declared.cmp.Ordering.{Ordering}
use Rattle.std.specs.declared.cmp.Ordering.TheVariants.{Less}
use Rattle.sm_base.specs.Names.{name_cmp}
use Rattle.sm_base.specs.declared.names.Name.{Name}
use Rattle.sm_base.specs.declared.names.Name.TheVariants.{Mgt, Vhd, Raw, Old, Cbt, Clone, Inflate, Coalesce, Relink, Leaf}
use Rattle.vg_meta.specs.Tables.{VolumeTable, Row, rows, row_of, names_of}
use Rattle.sm_base.specs.Kinds.{is_image}
use Rattle.vg_meta.proofs.NameLaws.{name_eq-same, name_eq-other, less_other}
use Rattle.vg_volumes.specs.Sites.{Site}
use Rattle.common_laws.specs.Lists.{In, Distinct}
use Rattle.sm_machine.specs.Shapes.{ImageRow, image_uuid}
use Rattle.sm_machine.specs.WellFormed.{is_image_name}
use Rattle.sm_standing.specs.Ordered.{Rising}
use Rattle.common_laws.proofs.Lists.{In-map_at}
use Rattle.sm_ready.proofs.Orders.{fresh_face}
use Rattle.sm_ready.specs.Known.{Face, Known, machine_row, row_face, tree_face}
use Rattle.vhd_chain.specs.declared.rows.TreeRow.{TreeRow}
use Rattle.vhd_chain.specs.Trees.{row_name, tree_row}
use Rattle.sm_ready.specs.Orderly.{IsOrderly}

pub All-In : {A : Type 0} (P : A → Type 0) (xs : List A) (x : A) → AllByRecursion P xs → In x xs → P x
All-In P [] x a i = absurd i
All-In P (y ∷ ys) x a (inl is) = subst P (sym is) a.0
All-In P (y ∷ ys) x a (inr i) = All-In P ys x a.1 i

pub In-names : (rs : List Row) (r : Row) → In r rs → In r.name (names_of rs)
In-names rs r i = In-map_at (λ (x : Row). x.name) rs r i

abbrev pub row_cmp : Row → Row → Ordering
row_cmp a b = name_cmp a.name b.name

pub rising_rows : (rs : List Row) → IsStrictlySortedBy name_cmp (names_of rs) → Rising row_cmp rs
unfolding IsStrictlySortedBy
rising_rows [] sorted = tt
rising_rows (r ∷ rs) sorted = ((λ x i. All-In (λ n. name_cmp r.name n ≡ Less) (names_of rs) x.name sorted.0 (In-names rs x i)), rising_rows rs sorted.1)

pub found_in : (rs : List Row) → IsStrictlySortedBy name_cmp (names_of rs) → (r : Row) → In r rs → row_of rs r.name ≡ Some r
unfolding row_of IsStrictlySortedBy
found_in [] sorted r i = absurd i
found_in (x ∷ rs) sorted r (inl is) =
    ap (λ (b : Bool). cond b (Some x) (row_of rs r.name)) (name_eq-same x.name r.name (ap (λ (y : Row). y.name) (sym is))) ∙ ap Some (sym is)
found_in (x ∷ rs) sorted r (inr i) =
    ap (λ (b : Bool). cond b (Some x) (row_of rs r.name)) (name_eq-other x.name r.name (less_other x.name r.name (All-In (λ n. name_cmp x.name n ≡ Less) (names_of rs) r.name sorted.0 (In-names rs r i))))
    ∙ found_in rs sorted.1 r i

pub tree_found : (rs : List TreeRow) (r : TreeRow) → Distinct (map (λ i. image_uuid i.name) (map machine_row rs)) → In r rs → tree_row rs (row_name r) ≡ Some r
unfolding tree_row
tree_found [] r apart i = absurd i
tree_found (x ∷ rs) r apart (inl is) = ap (λ b. cond b (Some x) (tree_row rs (row_name r))) (name_eq-same (row_name x) (row_name r) (ap row_name (sym is))) ∙ ap Some (sym is)
tree_found (x ∷ rs) r apart (inr i) =
    ap (λ b. cond b (Some x) (tree_row rs (row_name r)))
    (name_eq-other (row_name x) (row_name r) (λ same. apart.0 (subst (λ n. In (image_uuid n) (map (λ i. image_uuid i.name) (map machine_row rs))) (sym same)
    (In-map_at (λ (y : ImageRow). image_uuid y.name) (map machine_row rs) (machine_row r) (In-map_at machine_row rs r i)))))
    ∙ tree_found rs r apart.1 i

pub image_named : (n : Name) → is_image_name n ≡ true → is_image n ≡ true
unfolding is_image_name
image_named (Vhd u) e = refl
image_named (Raw u) e = refl
image_named Mgt e = absurd (true≢false (sym e))
image_named (Old u) e = refl
image_named (Cbt u) e = absurd (true≢false (sym e))
image_named (Clone d b w) e = absurd (true≢false (sym e))
image_named (Inflate u k) e = absurd (true≢false (sym e))
image_named (Coalesce v p) e = absurd (true≢false (sym e))
image_named (Relink v p) e = absurd (true≢false (sym e))
image_named (Leaf l p) e = absurd (true≢false (sym e))

-- the volume behind a row of memory
pub record HasVolume (t : VolumeTable) (n : Name) : Type 0 where
  pub row : Row
  pub there : rows t n ≡ Some row
  pub filled : row.fresh ≡ false

pub volume_there : (s : Site) (t : VolumeTable) (m : Known) (r : TreeRow) → IsOrderly s t m → is_image (row_name r) ≡ true → tree_row m.rows (row_name r) ≡ Some r → HasVolume t (row_name r)
volume_there s t m r o image found = by (rows t (row_name r)) refl (o.images (row_name r) image ∙ ap tree_face found)
  where
    face : Face
    face = record { hidden = r.hidden; extents = r.extents }

    filled : (v : Row) (b : Bool) → v.fresh ≡ b → row_face (Some v) ≡ Some face → v.fresh ≡ false
    filled v false is e = is
    filled v true is e = absurd (none-some face (sym (fresh_face v is) ∙ e))

    by : (x : Option Row) → rows t (row_name r) ≡ x → row_face x ≡ Some face → HasVolume t (row_name r)
    by None is e = absurd (none-some face e)
    by (Some v) is e = record { row = v; there = is; filled = filled v v.fresh refl e }
