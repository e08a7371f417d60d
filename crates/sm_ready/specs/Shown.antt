-- What is asked of the visible image of a UUID, by what is in memory.
use Rattle.std.specs.Prelude.{ℕ, List, Option, None, Some, if◌then◌else◌}
use Rattle.std.specs.Option.{option_or}
use Rattle.sm_base.specs.declared.names.Name.TheVariants.{Vhd, Raw}
use Rattle.vhd_chain.specs.Trees.{tree_row}
use Rattle.vhd_chain.specs.declared.rows.TreeRow.{TreeRow}

-- of an image, where it is visible
abbrev pub of_visible : {A : Type 0} → (TreeRow → A) → Option TreeRow → Option A
of_visible f None = None
of_visible f (Some r) = if r.hidden then None else Some (f r)

-- of the image of a UUID, where it is visible
unfoldable pub of_shown : {A : Type 0} → (TreeRow → A) → List TreeRow → List ℕ → Option A
of_shown f rows u = option_or (of_visible f (tree_row rows (Vhd u))) (of_visible f (tree_row rows (Raw u)))
