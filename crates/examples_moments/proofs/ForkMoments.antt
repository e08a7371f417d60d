-- The tables at the moments of the worked fork, of the worked swap and of the worked relink, written out.
use Rattle.std.proofs.Common.{◌≡◌, ℕ, true, false, List, [], ◌∷◌, refl}
use Rattle.sm_base.specs.Names.{name_cmp, spelling, uuid_text}
use Rattle.sm_base.specs.declared.names.Name.{Name}
use Rattle.sm_base.specs.declared.names.Name.TheVariants.{Vhd, Old, Clone, Leaf}
use Rattle.common_laws.specs.Lists.{numbers}
use Rattle.uuid.specs.Text.{by_index}
use Rattle.vg_meta.specs.Changes.{put, without, with_row}
use Rattle.vg_meta.specs.Tables.{Row, VolumeTable, row_of, name_eq}
use Rattle.examples_standing.specs.SmallContents.{record_row}
use Rattle.examples_moments.specs.Worked.{first, second, base, image_row, fork_after, swap_after, relink_after}

abbrev pub entry_row : Name → Row
entry_row n = record { name = n; hidden = false; fresh = false; extents = [] }

abbrev pub fresh_row : Name → ℕ → Row
fresh_row n at = record { name = n; hidden = false; fresh = true; extents = numbers at 5 }

abbrev pub listed : ℕ → List Row → VolumeTable
listed sequence volumes = record { sequence = sequence; volumes = record_row (numbers 0 16) ∷ volumes }

-- ---- the fork

abbrev pub fork_1 : VolumeTable
fork_1 = listed 5 (image_row false (Vhd first) 16 ∷ entry_row (Clone first base second) ∷ [])

abbrev pub fork_2 : VolumeTable
fork_2 = listed 6 (image_row false (Vhd base) 16 ∷ entry_row (Clone first base second) ∷ [])

abbrev pub fork_3 : VolumeTable
fork_3 = listed 7 (image_row true (Vhd base) 16 ∷ entry_row (Clone first base second) ∷ [])

abbrev pub fork_4 : VolumeTable
fork_4 = listed 8 (fresh_row (Vhd first) 21 ∷ image_row true (Vhd base) 16 ∷ entry_row (Clone first base second) ∷ [])

abbrev pub fork_5 : VolumeTable
fork_5 = listed 9 (fresh_row (Vhd first) 21 ∷ fresh_row (Vhd second) 26 ∷ image_row true (Vhd base) 16 ∷ entry_row (Clone first base second) ∷ [])

abbrev pub fork_6 : VolumeTable
fork_6 = listed 10 (image_row false (Vhd first) 21 ∷ fresh_row (Vhd second) 26 ∷ image_row true (Vhd base) 16 ∷ entry_row (Clone first base second) ∷ [])

abbrev pub fork_7 : VolumeTable
fork_7 = listed 11 (image_row false (Vhd first) 21 ∷ image_row false (Vhd second) 26 ∷ image_row true (Vhd base) 16 ∷ entry_row (Clone first base second) ∷ [])

abbrev pub fork_8 : VolumeTable
fork_8 = listed 12 (image_row false (Vhd first) 21 ∷ image_row false (Vhd second) 26 ∷ image_row true (Vhd base) 16 ∷ [])

pub is_fork_1 : fork_after 1 ≡ fork_1
unfolding put without with_row row_of name_eq name_cmp spelling uuid_text by_index
is_fork_1 = refl

pub is_fork_2 : fork_after 2 ≡ fork_2
unfolding put without with_row row_of name_eq name_cmp spelling uuid_text by_index
is_fork_2 = refl

pub is_fork_3 : fork_after 3 ≡ fork_3
unfolding put without with_row row_of name_eq name_cmp spelling uuid_text by_index
is_fork_3 = refl

pub is_fork_4 : fork_after 4 ≡ fork_4
unfolding put without with_row row_of name_eq name_cmp spelling uuid_text by_index
is_fork_4 = refl

pub is_fork_5 : fork_after 5 ≡ fork_5
unfolding put without with_row row_of name_eq name_cmp spelling uuid_text by_index
is_fork_5 = refl

pub is_fork_6 : fork_after 6 ≡ fork_6
unfolding put without with_row row_of name_eq name_cmp spelling uuid_text by_index
is_fork_6 = refl

pub is_fork_7 : fork_after 7 ≡ fork_7
unfolding put without with_row row_of name_eq name_cmp spelling uuid_text by_index
is_fork_7 = refl

pub is_fork_8 : fork_after 8 ≡ fork_8
unfolding put without with_row row_of name_eq name_cmp spelling uuid_text by_index
is_fork_8 = refl

-- ---- the swap

abbrev pub swap_1 : VolumeTable
swap_1 = listed 5 (image_row false (Old first) 21 ∷ image_row true (Vhd base) 16 ∷ entry_row (Leaf first base) ∷ [])

abbrev pub swap_2 : VolumeTable
swap_2 = listed 6 (image_row false (Old first) 21 ∷ image_row true (Vhd first) 16 ∷ entry_row (Leaf first base) ∷ [])

abbrev pub swap_3 : VolumeTable
swap_3 = listed 7 (image_row false (Old first) 21 ∷ image_row false (Vhd first) 16 ∷ entry_row (Leaf first base) ∷ [])

abbrev pub swap_4 : VolumeTable
swap_4 = listed 8 (image_row false (Vhd first) 16 ∷ entry_row (Leaf first base) ∷ [])

abbrev pub swap_5 : VolumeTable
swap_5 = listed 9 (image_row false (Vhd first) 16 ∷ [])

pub is_swap_1 : swap_after 1 ≡ swap_1
unfolding put without with_row row_of name_eq name_cmp spelling uuid_text by_index
is_swap_1 = refl

pub is_swap_2 : swap_after 2 ≡ swap_2
unfolding put without with_row row_of name_eq name_cmp spelling uuid_text by_index
is_swap_2 = refl

pub is_swap_3 : swap_after 3 ≡ swap_3
unfolding put without with_row row_of name_eq name_cmp spelling uuid_text by_index
is_swap_3 = refl

pub is_swap_4 : swap_after 4 ≡ swap_4
unfolding put without with_row row_of name_eq name_cmp spelling uuid_text by_index
is_swap_4 = refl

pub is_swap_5 : swap_after 5 ≡ swap_5
unfolding put without with_row row_of name_eq name_cmp spelling uuid_text by_index
is_swap_5 = refl

-- ---- the end of the relink

abbrev pub relink_1 : VolumeTable
relink_1 = listed 5 (image_row false (Vhd first) 21 ∷ image_row true (Vhd second) 26 ∷ image_row true (Vhd base) 16 ∷ [])

abbrev pub relink_2 : VolumeTable
relink_2 = listed 6 (image_row false (Vhd first) 21 ∷ image_row true (Vhd base) 16 ∷ [])

pub is_relink_1 : relink_after 1 ≡ relink_1
unfolding without name_eq
is_relink_1 = refl

pub is_relink_2 : relink_after 2 ≡ relink_2
unfolding without name_eq
is_relink_2 = refl
