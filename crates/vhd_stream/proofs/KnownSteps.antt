-- A block looked for up a chain of images in memory, one image after the other.
use Rattle.std.proofs.Common.{◌≡◌, ℕ, zero, suc, ◌-◌, ◌<◌, Bool, true, false, List, Option, Some, None, refl, ap, ◌∙◌, arith}
use Rattle.std.specs.Prelude.{◌||◌}
use Rattle.sm_base.specs.declared.names.Name.{Name}
use Rattle.vhd_image.specs.Bodies.{parent_name}
use Rattle.vhd_chain.specs.Trees.{tree_row}
use Rattle.vhd_chain.specs.declared.rows.TreeRow.{TreeRow}
use Rattle.vhd_stream.specs.Known.{is_known, row_has}

module _ (block b : ℕ) (rows : List TreeRow) (n : Name) where
  -- what a parent says, with so many images above
  above : ℕ → Option Name → Bool
  above most p = elim p [ None ↦ false | Some q ↦ is_known most block rows q b ]

  -- what an image says
  here : ℕ → Option TreeRow → Bool
  here most y = elim y [ None ↦ false | Some r ↦ row_has block r b || above most (parent_name r.image) ]

  is_here : (most : ℕ) → is_known (suc most) block rows n b ≡ here most (tree_row rows n)
  unfolding is_known here above
  is_here most = refl

  pub none_left : is_known 0 block rows n b ≡ false
  unfolding is_known
  none_left = refl

  pub none_known : (most : ℕ) → tree_row rows n ≡ None → is_known most block rows n b ≡ false
  unfolding here
  none_known zero e = none_left
  none_known (suc most) e = is_here most ∙ ap (here most) e

  pub has_known : (most : ℕ) (r : TreeRow) → 0 < most → tree_row rows n ≡ Some r → row_has block r b ≡ true → is_known most block rows n b ≡ true
  unfolding here
  has_known zero r some e h = absurd (omega arith)
  has_known (suc most) r some e h = is_here most ∙ ap (here most) e ∙ ap (λ (t : Bool). t || above most (parent_name r.image)) h

  pub end_known : (most : ℕ) (r : TreeRow) → 0 < most → tree_row rows n ≡ Some r → row_has block r b ≡ false → parent_name r.image ≡ None → is_known most block rows n b ≡ false
  unfolding here above
  end_known zero r some e h none = absurd (omega arith)
  end_known (suc most) r some e h none = is_here most ∙ ap (here most) e ∙ ap (λ (t : Bool). t || above most (parent_name r.image)) h ∙ ap (above most) none

  pub up_known : (most : ℕ) (r : TreeRow) (p : Name) → 0 < most → tree_row rows n ≡ Some r → row_has block r b ≡ false → parent_name r.image ≡ Some p → is_known most block rows n b ≡ is_known (most - 1) block rows p b
  unfolding here above
  up_known zero r p some e h up = absurd (omega arith)
  up_known (suc most) r p some e h up =
      is_here most ∙ ap (here most) e ∙ ap (λ (t : Bool). t || above most (parent_name r.image)) h ∙ ap (above most) up
      ∙ ap (λ m. is_known m block rows p b) (let less : most ≡ suc most - 1 = omega arith in less)
