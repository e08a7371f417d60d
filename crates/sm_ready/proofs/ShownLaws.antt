-- The visible image of a UUID.
use Rattle.std.proofs.Common.{◌≡◌, ◌⊎◌, inl, inr, ℕ, ◌*◌, ◌≤◌, not, ◌&&◌, Bool, true, false, cond, List, map, Option, Some, None, refl, sym, ap, ap₂, ◌∙◌, subst, arith}
use Rattle.std.proofs.lemmas.Bool.{true≢false}
use Rattle.std.proofs.lemmas.Nat.{mul-le}
use Rattle.std.proofs.lemmas.Slice.Eq.{bytes_eq-Decides}
use Rattle.std.specs.Option.{option_or}
use Rattle.std.specs.Str.{bytes_eq}
use Rattle.common_laws.specs.Lists.{In}
use Rattle.common_laws.proofs.Lists.{In-map_at, Distinct-key}
use Rattle.sm_base.specs.declared.names.Name.{Name}
use Rattle.sm_base.specs.declared.names.Name.TheVariants.{Vhd, Raw}
use Rattle.vg_meta.specs.Tables.{VolumeTable}
use Rattle.vg_volumes.specs.Sites.{Site}
use Rattle.vhd_image.specs.Bodies.{sector_count}
use Rattle.vhd_chain.specs.Trees.{row_name, tree_row}
use Rattle.vhd_chain.specs.declared.rows.TreeRow.{TreeRow}
use Rattle.sm_machine.specs.Shapes.{ImageRow, image_uuid, is_image_of, is_vhd}
use Rattle.sm_machine.specs.WellFormed.{IsWellFormed}
use Rattle.sm_ready.specs.Known.{Known, machine_row, shape_in, is_shown}
use Rattle.sm_ready.specs.Orderly.{IsOrderly}
use Rattle.sm_ready.specs.Shown.{of_visible, of_shown}
use Rattle.sm_ready.proofs.CauseLaws.{named_as, raw_uuid, vhd_uuid}
use Rattle.sm_ready.proofs.OnceLaws.{any_In}
use Rattle.sm_ready.proofs.Orders.{In-tree_row, geometry_of, named_row}
use Rattle.sm_ready.proofs.RowLaws.{tree_found}
use Rattle.sm_ready.proofs.ShapeLaws.{any_at}

visible : {A : Type 0} (f : TreeRow → A) (r : TreeRow) → r.hidden ≡ false → of_visible f (Some r) ≡ Some (f r)
visible f r shown = ap (λ b. cond b None (Some (f r))) shown

-- a UUID has one image
pub no_twin : (s : Site) (t : VolumeTable) (m : Known) (r : TreeRow) (u : List ℕ) → IsWellFormed (shape_in s t m) → In r m.rows → row_name r ≡ Raw u → tree_row m.rows (Vhd u) ≡ None
unfolding shape_in image_uuid is_vhd
no_twin s t m r u w i named = by (tree_row m.rows (Vhd u)) refl
  where
    by : (x : Option TreeRow) → tree_row m.rows (Vhd u) ≡ x → x ≡ None
    by None is = refl
    by (Some q) is =
        let f = In-tree_row m.rows (Vhd u) q is in
        let same = Distinct-key (λ (y : ImageRow). image_uuid y.name) (map machine_row m.rows) (machine_row q) (machine_row r) w.one_image (In-map_at machine_row m.rows q f.0) (In-map_at machine_row m.rows r i)
        (ap image_uuid f.1 ∙ sym (ap image_uuid named)) in
        absurd (true≢false (sym (ap is_vhd f.1) ∙ ap (λ (y : ImageRow). is_vhd y.name) same ∙ ap is_vhd named))

-- what is asked of a UUID is asked of its visible image
pub shown_row : {A : Type 0} (f : TreeRow → A) (s : Site) (t : VolumeTable) (m : Known) (r : TreeRow) (u : List ℕ) → IsOrderly s t m → IsWellFormed (shape_in s t m) → In r m.rows → r.hidden ≡ false → image_uuid (row_name r) ≡ u
    → of_shown f m.rows u ≡ Some (f r)
unfolding of_shown shape_in
shown_row f s t m r u o w i shown uuid = by (named_as (row_name r) u (named_row s t m r o i) uuid)
  where
    found : (n : Name) → row_name r ≡ n → of_visible f (tree_row m.rows n) ≡ Some (f r)
    found n at = ap (of_visible f) (sym (ap (tree_row m.rows) at) ∙ tree_found m.rows r w.one_image i) ∙ visible f r shown

    by : (row_name r ≡ Vhd u) ⊎ (row_name r ≡ Raw u) → option_or (of_visible f (tree_row m.rows (Vhd u))) (of_visible f (tree_row m.rows (Raw u))) ≡ Some (f r)
    by (inl at) = ap (λ o. option_or o (of_visible f (tree_row m.rows (Raw u)))) (found (Vhd u) at)
    by (inr at) = ap (λ o. option_or (of_visible f o) (of_visible f (tree_row m.rows (Raw u)))) (no_twin s t m r u w i at) ∙ found (Raw u) at

-- a UUID that is shown has one, and what is asked of it is answered
pub shown_some : {A : Type 0} (f : TreeRow → A) (s : Site) (t : VolumeTable) (m : Known) (u : List ℕ) → IsOrderly s t m → IsWellFormed (shape_in s t m) → is_shown m.rows u ≡ true
    → (r : TreeRow) × In r m.rows × (r.hidden ≡ false) × (of_shown f m.rows u ≡ Some (f r))
shown_some f s t m u o w e =
    let x = any_In (λ r. is_image_of u (machine_row r)) m.rows e in
    let y = both x.0.hidden (bytes_eq (image_uuid (row_name x.0)) u) x.2 in
    (x.0, x.1, y.0, shown_row f s t m x.0 u o w x.1 y.0 ((bytes_eq-Decides (image_uuid (row_name x.0)) u).0 y.1))
  where
    both : (a b : Bool) → (not a && b) ≡ true → (a ≡ false) × (b ≡ true)
    both false b e = (refl, e)
    both true b e = absurd (true≢false (sym e))

-- and one that is not has none
pub shown_none : {A : Type 0} (f : TreeRow → A) (rows : List TreeRow) (u : List ℕ) → is_shown rows u ≡ false → of_shown f rows u ≡ None
unfolding of_shown
shown_none f rows u e = ap₂ (λ a b. option_or a b) (none (Vhd u) (tree_row rows (Vhd u)) (vhd_uuid u) refl) (none (Raw u) (tree_row rows (Raw u)) (raw_uuid u) refl)
  where
    none : (n : Name) (x : Option TreeRow) → image_uuid n ≡ u → tree_row rows n ≡ x → of_visible f x ≡ None
    none n None named is = refl
    none n (Some r) named is = by r.hidden refl
      where
        by : (b : Bool) → r.hidden ≡ b → cond b None (Some (f r)) ≡ None
        by true h = refl
        by false h =
            let w = In-tree_row rows n r is in
            absurd (true≢false (sym (any_at (λ q. is_image_of u (machine_row q)) rows r w.0
            (ap₂ (λ (a : Bool) (x : List ℕ). not a && bytes_eq x u) h (ap image_uuid w.1 ∙ named) ∙ (bytes_eq-Decides u u).1 refl)) ∙ e))

-- no image is larger than its table's blocks
pub few_sectors : (s : Site) (t : VolumeTable) (m : Known) (r : TreeRow) → IsOrderly s t m → IsWellFormed (shape_in s t m) → In r m.rows → sector_count r.image ≤ 1044480 * 4096
unfolding shape_in
few_sectors s t m r o w i =
    let size = (w.images (machine_row r) (In-map_at machine_row m.rows r i)).whole in
    let g = geometry_of s t m o in
    let most = mul-le size.0 s.geometry.block 1044480 4096 (omega (arith, size.3, g.entries_most)) g.block_most in
    subst (λ k. k ≤ 1044480 * 4096) (sym size.1) most
