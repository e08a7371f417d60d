-- The rows in memory where the parent's takes the leaf's place.
use Rattle.std.proofs.Common.{◌≡◌, ℕ, false, IsSome, List, Option, Some, None, refl, sym, ap, ap₂, ◌∙◌}
use Rattle.sm_base.specs.declared.names.Name.{Name}
use Rattle.vhd_chain.specs.Trees.{Tree, tree_row, with_row, without}
use Rattle.vhd_chain.specs.declared.rows.TreeRow.{TreeRow}
use Rattle.vhd_chain.proofs.ByName.{tree_row-without_other, tree_row-without_same}
use Rattle.vhd_image.specs.Bodies.{in_volume, volume_name}
use Rattle.vhd_image.specs.declared.images.Body.{Body}
use Rattle.vhd_image.specs.declared.images.Body.TheVariants.{Raw, Vhd}
use Rattle.gc_leaf.specs.Swapping.{CanFold, swapped_rows}

-- ---- an image under another name

pub named_in : (to : Name) (b : Body) → volume_name (in_volume to b) ≡ to
named_in to (Raw volume sectors) = refl
named_in to (Vhd head slots) = refl

-- ---- the rows

some_not : (o : Option TreeRow) → IsSome o → o ≡ None → ⊥
some_not None some is = (let x = some in cc)
some_not (Some r) some is = (let x = is in cc)

module _ (t : Tree) {l p : Name} (can : CanFold t l p) where
  -- the parent's row is there without the leaf's
  found_still : (first : List TreeRow) → first ≡ without l t.rows → tree_row first p ≡ tree_row t.rows p
  found_still first is = ap (λ rs. tree_row rs p) is ∙ tree_row-without_other t.rows l p (λ e. can.apart (sym e))

  pub parent_still : (first : List TreeRow) → first ≡ without l t.rows → tree_row first p ≡ None → ⊥
  parent_still first is none = some_not (tree_row t.rows p) can.parent_there (sym (found_still first is) ∙ none)

  named : (image body : Body) (extents : ℕ) → image ≡ in_volume l body → volume_name image ≡ l
  named image body extents is = ap volume_name is ∙ named_in l body

  -- without both nothing has the leaf's name
  pub absent : (first second : List TreeRow) (image : Body) (row : TreeRow) → first ≡ without l t.rows → second ≡ without p first → image ≡ in_volume l row.image
      → tree_row second (volume_name image) ≡ None
  absent first second image row one two is =
      ap₂ tree_row two (named image row.image row.extents is)
      ∙ tree_row-without_other first p l can.apart ∙ ap (λ rs. tree_row rs l) one ∙ tree_row-without_same t.rows l

  pub rows_are : (first second last : List TreeRow) (image : Body) (row : TreeRow) → first ≡ without l t.rows → tree_row first p ≡ Some row → second ≡ without p first → image ≡ in_volume l row.image
      → last ≡ with_row (record { image = image; hidden = false; extents = row.extents }) second → last ≡ swapped_rows l (tree_row t.rows p) p t.rows
  rows_are first second last image row one at two is made =
      made
      ∙ ap₂ with_row (ap (λ x. let y : TreeRow = record { image = x; hidden = false; extents = row.extents } in y) is) (two ∙ ap (without p) one)
      ∙ sym (ap (λ o. swapped_rows l o p t.rows) (sym (found_still first one) ∙ at))
