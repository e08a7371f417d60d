-- A moment of a swap, as the checks of an opening see it (this project's format): from the leaf's rename on, while its entry is there.
use Rattle.std.specs.Prelude.{◌≡◌, ◌⊎◌, ℕ, ◌<◌, ◌≤◌, true, false, List, [], ◌∷◌, length, Some, None}
use Rattle.std.specs.List.{filter}
use Rattle.common_laws.specs.Lists.{In}
use Rattle.sm_base.specs.declared.names.Name.{Name}
use Rattle.sm_base.specs.declared.names.Name.TheVariants.{Leaf, Old, Vhd}
use Rattle.vg_meta.specs.Tables.{IsTable, Row, VolumeTable}
use Rattle.sm_machine.specs.Shapes.{image_limit}
use Rattle.sm_standing.specs.Apart.{IsSameApart, is_apart}
use Rattle.sm_standing.specs.Checks.{images, is_damaged}
use Rattle.sm_standing.specs.Contents.{Content, is_record_of, reading_at, record_count, records, row}
use Rattle.sm_standing.specs.Entries.{folding, is_leaf_folded, is_leaf_renamed, is_leaf_swapped, making}
use Rattle.sm_standing.specs.Images.{image_of}
use Rattle.sm_standing.specs.Standing.{stands_plainly}
use Rattle.sm_standing.specs.Swaps.{swapped}

-- the three stages behind the first rename: the parent lies under its own name, then under the leaf's
abbrev pub IsSwapStage : VolumeTable → List ℕ → List ℕ → Name → Type 0
IsSwapStage t leaf parent m = ((is_leaf_renamed t leaf parent ≡ true) × (m ≡ Vhd parent))
    ⊎ (((is_leaf_swapped t leaf parent ≡ true) × (m ≡ Vhd leaf)) ⊎ ((is_leaf_folded t leaf parent ≡ true) × (m ≡ Vhd leaf)))

-- volume by volume: the parent's image lies in m
pub record IsSwapMoment (a b : Content) (leaf parent : List ℕ) (m : Name) : Type 0 where
  pub extent : b.extent ≡ a.extent
  pub block : b.block ≡ a.block
  pub entries : b.entries ≡ a.entries
  pub table : IsTable b.count b.table
  pub later : a.table.sequence ≤ b.table.sequence
  pub making : making b.table ≡ []
  pub folding : folding b.table ≡ Leaf leaf parent ∷ []
  pub apart : IsSameApart a b (swapped leaf parent)
  pub stage : IsSwapStage b.table leaf parent m
  pub no_parent : stands_plainly b.table parent ≡ None
  pub few : length (images b.table) ≤ image_limit
  pub now : Row
  pub moved : row b m ≡ Some now
  pub image : image_of b m ≡ image_of a (Vhd parent)
  -- each volume whose name speaks of one of the two is the entry, the parent's image, or the old leaf
  pub volumes : (r : Row) → In r b.table.volumes → is_apart (swapped leaf parent) r.name ≡ false
      → (r.name ≡ Leaf leaf parent) ⊎ ((r.name ≡ m) ⊎ (r.name ≡ Old leaf))
  pub right : (k : ℕ) → k < record_count → is_damaged (reading_at b k) ≡ false
  pub recorded : (u : List ℕ) → length (filter (is_record_of u) (records b)) ≡ length (filter (is_record_of u) (records a))
