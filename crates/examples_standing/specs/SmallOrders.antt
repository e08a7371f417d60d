-- Tables in which two works were cut short, one of each group, and the tables that an opening leaves of them.
use Rattle.std.specs.Prelude.{ℕ, true, false, List, [], ◌∷◌}
use Rattle.sm_base.specs.declared.names.Name.{Name}
use Rattle.sm_base.specs.declared.names.Name.TheVariants.{Vhd, Old, Clone, Inflate, Coalesce, Relink, Leaf}
use Rattle.vg_meta.specs.Tables.{Row, VolumeTable}
use Rattle.examples_standing.specs.SmallContents.{one, two, three, four, record_row, sized_row}
use Rattle.examples_standing.specs.SmallOutlines.{image_row}

abbrev pub five : List ℕ
five = 5 ∷ []

abbrev pub with_rows : ℕ → List Row → VolumeTable
with_rows sequence rows = record { sequence = sequence; volumes = record_row (0 ∷ 1 ∷ 2 ∷ 3 ∷ 4 ∷ 5 ∷ 6 ∷ 7 ∷ 8 ∷ 9 ∷ 10 ∷ 11 ∷ 12 ∷ 13 ∷ 14 ∷ 15 ∷ []) ∷ rows }

abbrev pub entry : Name → Row
entry n = image_row false n []

-- the leaf one was renamed, and the disk three is forked, with both new images there
abbrev pub leaf_beside_fork : VolumeTable
leaf_beside_fork = with_rows 10 (image_row false (Old one) (17 ∷ []) ∷ image_row true (Vhd two) (16 ∷ []) ∷ image_row false (Vhd three) (19 ∷ []) ∷ image_row true (Vhd four) (18 ∷ [])
    ∷ sized_row true (Vhd five) (20 ∷ []) ∷ entry (Clone three four five) ∷ entry (Leaf one two) ∷ [])

-- nine commits: four that end the folding, and five that undo the fork
abbrev pub leaf_beside_fork_left : VolumeTable
leaf_beside_fork_left = with_rows 19 (image_row false (Vhd one) (16 ∷ []) ∷ image_row false (Vhd three) (18 ∷ []) ∷ [])

-- the leaf one was renamed, and its parent is being enlarged
abbrev pub parent_enlarged : VolumeTable
parent_enlarged = with_rows 10 (image_row false (Old one) (17 ∷ []) ∷ image_row true (Vhd two) (16 ∷ 18 ∷ []) ∷ entry (Inflate two 1) ∷ entry (Leaf one two) ∷ [])

-- six: two that undo the enlargement, and four
abbrev pub parent_enlarged_left : VolumeTable
parent_enlarged_left = with_rows 16 (image_row false (Vhd one) (16 ∷ []) ∷ [])

-- the parent has the name of the leaf one, is hidden still, and is being enlarged under that name
abbrev pub leaf_enlarged : VolumeTable
leaf_enlarged = with_rows 10 (image_row false (Old one) (17 ∷ []) ∷ image_row true (Vhd one) (16 ∷ 18 ∷ []) ∷ entry (Inflate one 1) ∷ entry (Leaf one two) ∷ [])

-- five: two and three
abbrev pub leaf_enlarged_left : VolumeTable
leaf_enlarged_left = with_rows 15 (image_row false (Vhd one) (16 ∷ []) ∷ [])

-- nothing of the leaf's swap is done, and its parent is being enlarged
abbrev pub copied_enlarged : VolumeTable
copied_enlarged = with_rows 10 (image_row false (Vhd one) (17 ∷ []) ∷ image_row true (Vhd two) (16 ∷ 18 ∷ []) ∷ entry (Inflate two 1) ∷ entry (Leaf one two) ∷ [])

-- three: two and one
abbrev pub copied_enlarged_left : VolumeTable
copied_enlarged_left = with_rows 13 (image_row false (Vhd one) (17 ∷ []) ∷ image_row true (Vhd two) (16 ∷ []) ∷ [])

-- the children of the image one are linked, the disk three is forked and was renamed, and a volume is new
abbrev pub link_beside_fork : VolumeTable
link_beside_fork = with_rows 10 (image_row true (Vhd one) (17 ∷ []) ∷ image_row true (Vhd two) (16 ∷ []) ∷ image_row false (Vhd four) (18 ∷ []) ∷ sized_row true (Vhd five) (20 ∷ [])
    ∷ entry (Clone three four (6 ∷ [])) ∷ entry (Relink one two) ∷ [])

-- four: the entry of the link, the base's name, the entry of the fork, and the new volume
abbrev pub link_beside_fork_left : VolumeTable
link_beside_fork_left = with_rows 14 (image_row true (Vhd one) (17 ∷ []) ∷ image_row true (Vhd two) (16 ∷ []) ∷ image_row false (Vhd three) (18 ∷ []) ∷ [])

-- the same fork beside the entry of a copy
abbrev pub copy_beside_fork : VolumeTable
copy_beside_fork = with_rows 10 (image_row true (Vhd one) (17 ∷ []) ∷ image_row true (Vhd two) (16 ∷ []) ∷ image_row false (Vhd four) (18 ∷ []) ∷ sized_row true (Vhd five) (20 ∷ [])
    ∷ entry (Clone three four (6 ∷ [])) ∷ entry (Coalesce one two) ∷ [])
