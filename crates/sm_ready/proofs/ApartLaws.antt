-- A visible image at which the running operation does not work.
use Rattle.std.proofs.Common.{◌≡◌, ◌≢◌, ◌⊎◌, inl, inr, true, false, map, Some, sym, ap, ◌∙◌, subst}
use Rattle.std.proofs.Math.Logic.{∥∥₁_elim}
use Rattle.std.proofs.Props.{props}
use Rattle.std.proofs.lemmas.Bool.{true≢false}
use Rattle.std.proofs.lemmas.Option.{same_Some}
use Rattle.std.specs.Str.{bytes_eq}
use Rattle.common_laws.specs.Lists.{In}
use Rattle.common_laws.proofs.Bytes.{bytes_eq-refl}
use Rattle.common_laws.proofs.Lists.{In-map}
use Rattle.sm_base.specs.declared.names.Name.{Name}
use Rattle.sm_machine.specs.Operations.{Op}
use Rattle.sm_machine.specs.Operations as op
use Rattle.vg_meta.specs.Tables.{VolumeTable}
use Rattle.vg_volumes.specs.Sites.{Site}
use Rattle.vhd_chain.specs.Trees.{row_name, tree_row}
use Rattle.vhd_chain.specs.declared.rows.TreeRow.{TreeRow}
use Rattle.sm_machine.specs.Commits.{folds}
use Rattle.sm_machine.specs.Shapes.{ImageRow, image_uuid}
use Rattle.sm_machine.specs.WellFormed.{IsChild, IsOperation, IsWellFormed}
use Rattle.sm_ready.specs.Known.{Known, machine_row, shape_in}
use Rattle.sm_ready.specs.Orderly.{IsOrderly}
use Rattle.sm_ready.proofs.OperationLaws.{WorksAt}
use Rattle.sm_ready.proofs.RowLaws.{tree_found}

-- it works at hidden images and at a leaf that it folds, and this image is no leaf that it folds
module _ (s : Site) (t : VolumeTable) (m : Known) (r : TreeRow) (o : IsOrderly s t m) (there : In r m.rows) (shown : r.hidden ≡ false)
    (no_leaf : folds m.op (image_uuid (row_name r)) ≡ false) where
  hidden_apart : IsWellFormed (shape_in s t m) → (y : ImageRow) → In y (map machine_row m.rows) → y.name ≡ row_name r → y.hidden ≡ true → ⊥
  unfolding shape_in
  hidden_apart w y i named hidden =
      let z = In-map machine_row m.rows y i in
      let same : z.0 ≡ r = same_Some z.0 r (sym (tree_found m.rows z.0 w.one_image z.1) ∙ ap (tree_row m.rows) (sym (ap (λ (x : ImageRow). x.name) z.2) ∙ named) ∙ tree_found m.rows r w.one_image there) in
      true≢false (sym hidden ∙ ap (λ (x : ImageRow). x.hidden) z.2 ∙ ap (λ (x : TreeRow). x.hidden) same ∙ shown)

  parent_apart : IsWellFormed (shape_in s t m) → (c : ImageRow) (p : Name) → In c (map machine_row m.rows) → c.parent ≡ Some p → row_name r ≡ p → ⊥
  unfolding shape_in
  parent_apart w c p i linked is = let y = w.parents c p i linked in hidden_apart w y.parent y.there (y.is_named ∙ sym is) y.is_hidden

  child_apart : IsWellFormed (shape_in s t m) → (v p : Name) → IsChild (shape_in s t m) true v p → (row_name r ≡ v) ⊎ (row_name r ≡ p) → ⊥
  unfolding shape_in
  child_apart w v p c (inl is) = hidden_apart w c.child c.there (c.is_named ∙ sym is) c.is_shown
  child_apart w v p c (inr is) = parent_apart w c.child p c.there c.linked is

  leaf_apart : (l : Name) → bytes_eq (image_uuid l) (image_uuid (row_name r)) ≡ false → row_name r ≡ l → ⊥
  leaf_apart l none same = true≢false (sym (ap (λ n. bytes_eq (image_uuid n) (image_uuid (row_name r))) (sym same) ∙ bytes_eq-refl (image_uuid (row_name r))) ∙ none)

  apart : IsWellFormed (shape_in s t m) → (x : Op) → folds x (image_uuid (row_name r)) ≡ false → IsOperation (shape_in s t m) x → WorksAt x (row_name r) → ⊥
  unfolding shape_in folds
  apart w op.Idle none c works = works
  apart w (op.Copy v p cursor) none c works = child_apart w v p c.link works
  apart w (op.Relink v p) none c works = child_apart w v p c works
  apart w (op.Leaf l p cursor) none c (inl same) = leaf_apart l none same
  apart w (op.Leaf l p cursor) none c (inr same) = parent_apart w c.0.link.child p c.0.link.there c.0.link.linked same
  apart w (op.Live l p cursor dirty) none c (inl same) = leaf_apart l none same
  apart w (op.Live l p cursor dirty) none c (inr same) = parent_apart w c.only.link.child p c.only.link.there c.only.link.linked same

  pub works_apart : (n : Name) → WorksAt m.op n → n ≢ row_name r
  unfolding shape_in
  works_apart n works same = ∥∥₁_elim o.well_formed (hlevel props) (λ w. apart w m.op no_leaf w.operation (subst (WorksAt m.op) same works))
