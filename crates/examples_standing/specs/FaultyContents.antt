-- Contents that fail one check of an opening each, or nearly do. What their images say is a premise of each example,
-- so their area is free.
use Rattle.std.specs.Prelude.{ℕ, List, [], ◌∷◌}
use Rattle.sm_base.specs.declared.names.Name.TheVariants.{Vhd, Old}
use Rattle.sm_standing.specs.Contents.{Content}
use Rattle.examples_standing.specs.SmallContents.{one, two, three, four, shown_row, hidden_row, content_on}
use Rattle.examples_standing.specs.SmallTables.{fork, leaf, coalesce, relink}

-- one visible image
abbrev pub lone_image : (ℕ → List ℕ) → Content
lone_image area = content_on (shown_row (Vhd one) ∷ []) area

-- a visible image, and one that is hidden
abbrev pub child_and_parent : (ℕ → List ℕ) → Content
child_and_parent area = content_on (shown_row (Vhd one) ∷ hidden_row (Vhd two) ∷ []) area

-- two hidden images
abbrev pub two_hidden : (ℕ → List ℕ) → Content
two_hidden area = content_on (hidden_row (Vhd one) ∷ hidden_row (Vhd two) ∷ []) area

-- an image that is copied, and the one of its parent's UUID
abbrev pub copied_alone : (ℕ → List ℕ) → Content
copied_alone area = content_on (hidden_row (Vhd two) ∷ hidden_row (Vhd three) ∷ shown_row coalesce ∷ []) area

-- a third image beside them
abbrev pub copied_beside : (ℕ → List ℕ) → Content
copied_beside area = content_on (hidden_row (Vhd two) ∷ hidden_row (Vhd three) ∷ shown_row (Vhd four) ∷ shown_row coalesce ∷ []) area

-- an image that its children leave, and the one of its parent's UUID
abbrev pub left_alone : (ℕ → List ℕ) → Content
left_alone area = content_on (hidden_row (Vhd two) ∷ hidden_row (Vhd three) ∷ shown_row relink ∷ []) area

-- a leaf before the swap, and a third image
abbrev pub leaf_beside : (ℕ → List ℕ) → Content
leaf_beside area = content_on (shown_row (Vhd one) ∷ hidden_row (Vhd two) ∷ shown_row (Vhd three) ∷ shown_row leaf ∷ []) area

-- the leaf was renamed, and there is a third image
abbrev pub renamed_beside : (ℕ → List ℕ) → Content
renamed_beside area = content_on (shown_row (Old one) ∷ hidden_row (Vhd two) ∷ shown_row (Vhd three) ∷ shown_row leaf ∷ []) area

-- the parent has the leaf's name, and there is a third image
abbrev pub swapped_beside : (ℕ → List ℕ) → Content
swapped_beside area = content_on (shown_row (Old one) ∷ hidden_row (Vhd one) ∷ shown_row (Vhd three) ∷ shown_row leaf ∷ []) area

-- a fork whose disk has its new image
abbrev pub fork_filled : (ℕ → List ℕ) → Content
fork_filled area = content_on (hidden_row (Vhd three) ∷ shown_row (Vhd one) ∷ shown_row fork ∷ []) area

-- a fork, and an image besides
abbrev pub fork_beside : (ℕ → List ℕ) → Content
fork_beside area = content_on (hidden_row (Vhd three) ∷ shown_row (Vhd four) ∷ shown_row fork ∷ []) area

-- a fork whose image has the base's name, and has no new images yet
abbrev pub fork_alone : (ℕ → List ℕ) → Content
fork_alone area = content_on (shown_row (Vhd three) ∷ shown_row fork ∷ []) area

-- the leaf was renamed
abbrev pub renamed_alone : (ℕ → List ℕ) → Content
renamed_alone area = content_on (shown_row (Old one) ∷ hidden_row (Vhd two) ∷ shown_row leaf ∷ []) area
