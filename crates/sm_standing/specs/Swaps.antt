-- A leaf that takes its parent's place, as the disks see it (this project's format): all that the leaf holds was copied
-- into the parent. The commits of the swap are: the leaf is renamed to an old leaf; the parent gets the leaf's name; it
-- is marked not hidden; the old leaf is removed; the entry is removed.
use Rattle.std.specs.Prelude.{◌≡◌, ◌≢◌, ◌⊎◌, ℕ, true, List, [], ◌∷◌, Some, None}
use Rattle.sm_base.specs.declared.names.Name.{Name}
use Rattle.sm_base.specs.declared.names.Name.TheVariants.{Vhd, Leaf}
use Rattle.vg_meta.specs.Tables.{VolumeTable}
use Rattle.sm_standing.specs.Changes.{parent_of, IsCopied, IsShortChain}
use Rattle.sm_standing.specs.Contents.{Content, record_of}
use Rattle.sm_standing.specs.Entries.{making, folding, head, is_leaf_renamed, is_leaf_swapped, is_leaf_folded}
use Rattle.sm_standing.specs.Images.{Image, image_of}
use Rattle.sm_standing.specs.Standing.{standing_volume, stands_plainly}
use Rattle.sm_standing.specs.Apart.{is_apart, IsSameApart}

-- the UUIDs that a swap speaks of
abbrev pub swapped : List ℕ → List ℕ → List (List ℕ)
swapped leaf parent = leaf ∷ parent ∷ []

-- the entry of the leaf is the first of its group
abbrev pub HasLeafEntry : VolumeTable → List ℕ → List ℕ → Type 0
HasLeafEntry t leaf parent = head (folding t) ≡ Some (Leaf leaf parent)

-- before a swap, under the entry of the leaf: the leaf stands in its own image, whose parent is no disk and holds alike
-- whatever the leaf holds; no fork is under way, and nothing but the leaf has a parent of these UUIDs
pub record IsSwappable (a : Content) (leaf parent : List ℕ) (i q : Image) : Type 0 where
  pub entry : HasLeafEntry a.table leaf parent
  pub stood : standing_volume a.table leaf ≡ Some (Vhd leaf)
  pub no_parent : standing_volume a.table parent ≡ None
  pub none_making : making a.table ≡ []
  pub copied : IsCopied a (Vhd leaf) (Vhd parent) i q
  pub short : IsShortChain a (Vhd leaf)
  pub childless : (m p : Name) → m ≢ Vhd leaf → parent_of a m ≡ Some p → is_apart (swapped leaf parent) p ≡ true

-- the leaf was renamed, and the parent lies in m
abbrev pub IsLeafAway : VolumeTable → List ℕ → List ℕ → Name → Type 0
IsLeafAway t leaf parent m = HasLeafEntry t leaf parent × (is_leaf_renamed t leaf parent ≡ true) × (m ≡ Vhd parent)

-- the parent has the leaf's name, hidden or not
abbrev pub IsParentNamed : VolumeTable → List ℕ → List ℕ → Name → Type 0
IsParentNamed t leaf parent m = HasLeafEntry t leaf parent × (is_leaf_swapped t leaf parent ≡ true) × (m ≡ Vhd leaf)

-- the old leaf is gone, and the entry may be
abbrev pub IsLeafGone : VolumeTable → List ℕ → List ℕ → Name → Type 0
IsLeafGone t leaf parent m =
    (HasLeafEntry t leaf parent ⊎ (folding t ≡ [])) × (is_leaf_folded t leaf parent ≡ true) × (m ≡ Vhd leaf)

-- at any moment of a swap from the first rename on: the parent's image lies in m
pub record IsSwapping (a b : Content) (leaf parent : List ℕ) (m : Name) : Type 0 where
  pub stage : IsLeafAway b.table leaf parent m ⊎ (IsParentNamed b.table leaf parent m ⊎ IsLeafGone b.table leaf parent m)
  pub none_making : making b.table ≡ []
  pub apart : IsSameApart a b (swapped leaf parent)
  pub no_parent : stands_plainly b.table parent ≡ None
  pub image : image_of b m ≡ image_of a (Vhd parent)
  pub recorded : (u : List ℕ) → record_of b u ≡ record_of a u
