-- What is known of the images in memory where children are being linked.
use Rattle.std.specs.Prelude.{◌≡◌, ℕ, true, List, Some}
use Rattle.sm_base.specs.declared.names.Name.{Name}
use Rattle.sm_base.specs.declared.names.Name.TheVariants.{Vhd, Relink}
use Rattle.vg_meta.specs.Tables.{VolumeTable}
use Rattle.sm_standing.specs.Entries.{folding, head}
use Rattle.sm_standing.specs.Opened.{parent_name}
use Rattle.vhd_image.specs.Bodies as bodies
use Rattle.vhd_image.specs.Bodies.{sector_count}
use Rattle.vhd_chain.specs.Trees.{tree_row}
use Rattle.vhd_chain.specs.declared.rows.TreeRow.{TreeRow}

-- an image and its parent are in memory, both hidden and of one size
pub record HasLink (xs : List TreeRow) (v p : Name) : Type 0 where
  pub child : TreeRow
  pub there : tree_row xs v ≡ Some child
  pub hidden : child.hidden ≡ true
  pub linked : bodies.parent_name child.image ≡ Some p
  pub parent : TreeRow
  pub parent_there : tree_row xs p ≡ Some parent
  pub parent_hidden : parent.hidden ≡ true
  pub same_size : sector_count parent.image ≡ sector_count child.image

-- where the entry of a link is there, the image that goes is linked to its parent as the entry says
abbrev pub IsLinkRight : VolumeTable → List TreeRow → Type 0
IsLinkRight t xs = (child parent : List ℕ) → head (folding t) ≡ Some (Relink child parent) → HasLink xs (Vhd child) (parent_name t parent)
