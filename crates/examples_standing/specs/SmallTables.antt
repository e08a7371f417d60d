-- Tables at the moments of each work that a journal entry stands for. UUID three is the base of the disk one and its
-- twin two; in a chain one is over two, and two over three.
use Rattle.std.specs.Prelude.{false, [], ◌∷◌}
use Rattle.sm_base.specs.declared.names.Name.{Name}
use Rattle.sm_base.specs.declared.names.Name.TheVariants.{Vhd, Raw, Old, Clone, Inflate, Coalesce, Relink, Leaf}
use Rattle.vg_meta.specs.Tables.{VolumeTable}
use Rattle.examples_standing.specs.SmallContents.{one, two, three, shown_row, hidden_row, sized_row, table_of}

-- two disks over a hidden base
abbrev pub pair : VolumeTable
pair = table_of (shown_row (Vhd one) ∷ shown_row (Vhd two) ∷ hidden_row (Vhd three) ∷ [])

-- disk one is forked: its image becomes the base three, and the twin is two
abbrev pub fork : Name
fork = Clone one three two

-- before the disk's image is renamed
abbrev pub fork_begun : VolumeTable
fork_begun = table_of (shown_row (Vhd one) ∷ shown_row fork ∷ [])

-- the image has the base's name, and is still visible
abbrev pub fork_renamed : VolumeTable
fork_renamed = table_of (shown_row (Vhd three) ∷ shown_row fork ∷ [])

-- both new images are there and filled, over a raw base
abbrev pub fork_made : VolumeTable
fork_made = table_of (hidden_row (Raw three) ∷ shown_row (Vhd one) ∷ shown_row (Vhd two) ∷ shown_row fork ∷ [])

-- the entry is gone
abbrev pub fork_ended : VolumeTable
fork_ended = table_of (hidden_row (Raw three) ∷ shown_row (Vhd one) ∷ shown_row (Vhd two) ∷ [])

-- leaf one is folded into its parent two
abbrev pub leaf : Name
leaf = Leaf one two

-- before the swap
abbrev pub leaf_copied : VolumeTable
leaf_copied = table_of (shown_row (Vhd one) ∷ hidden_row (Vhd two) ∷ shown_row leaf ∷ [])

-- the leaf was renamed
abbrev pub leaf_renamed : VolumeTable
leaf_renamed = table_of (shown_row (Old one) ∷ hidden_row (Vhd two) ∷ shown_row leaf ∷ [])

-- the parent has the leaf's name
abbrev pub leaf_swapped : VolumeTable
leaf_swapped = table_of (shown_row (Old one) ∷ hidden_row (Vhd one) ∷ shown_row leaf ∷ [])

-- the old leaf is gone
abbrev pub leaf_folded : VolumeTable
leaf_folded = table_of (shown_row (Vhd one) ∷ shown_row leaf ∷ [])

-- image two is copied into its parent three
abbrev pub coalesce : Name
coalesce = Coalesce two three

-- under a visible leaf
abbrev pub copying : VolumeTable
copying = table_of (shown_row (Vhd one) ∷ hidden_row (Vhd two) ∷ hidden_row (Vhd three) ∷ shown_row coalesce ∷ [])

-- the children of two are linked to its parent three
abbrev pub relink : Name
relink = Relink two three

-- under a visible leaf
abbrev pub linking : VolumeTable
linking = table_of (shown_row (Vhd one) ∷ hidden_row (Vhd two) ∷ hidden_row (Vhd three) ∷ shown_row relink ∷ [])

-- image one is enlarged; it had two extents
abbrev pub inflate : Name
inflate = Inflate one 2

-- it has three
abbrev pub enlarging : VolumeTable
enlarging = table_of (sized_row false (Vhd one) (0 ∷ 1 ∷ 2 ∷ []) ∷ shown_row inflate ∷ [])
