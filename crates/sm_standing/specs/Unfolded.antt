-- A table without the entry of a copy, or of children that are being linked, that a stop has cut short (this project's format): it goes by
-- one commit, as in the repairs 3 and 4 of an opening (`Opened`). Where children are being linked, each of them is linked to the parent before.
use Rattle.std.specs.Prelude.{◌≡◌, ℕ, true, List, Option, None, Some}
use Rattle.sm_base.specs.declared.names.Name.{Name}
use Rattle.sm_base.specs.declared.names.Name.TheVariants.{Vhd, Relink}
use Rattle.vg_meta.specs.Changes.{applied}
use Rattle.vg_meta.specs.Tables.{Row, VolumeTable}
use Rattle.vg_meta.specs.declared.changes.Change.TheVariants.{Remove}
use Rattle.sm_standing.specs.Contents.{Content, row}
use Rattle.sm_standing.specs.Entries.{folding, head, is_hidden}
use Rattle.sm_standing.specs.Images.{Image, image_of}
use Rattle.sm_standing.specs.Opened.{parent_name}

-- the table without this entry
abbrev pub without_entry : VolumeTable → Option Name → VolumeTable
without_entry t None = t
without_entry t (Some e) = applied t (Remove e)

-- the table without the entry of a copy or of a link
unfoldable pub unfolded : VolumeTable → VolumeTable
unfolded t = without_entry t (head (folding t))

-- the content with that table
abbrev pub unfolded_content : Content → Content
unfolded_content c = record c { table = unfolded c.table }

-- what the entry of a link says: the image is there, hidden, and so is its parent, which has this UUID and the same size
pub record IsLinking (c : Content) (child parent : List ℕ) : Type 0 where
  pub entry : Row
  pub there : row c (Relink child parent) ≡ Some entry
  pub v : Image
  pub p : Image
  pub image : image_of c (Vhd child) ≡ Some v
  pub above : v.parent ≡ Some (parent_name c.table parent)
  pub below : image_of c (parent_name c.table parent) ≡ Some p
  pub size : p.size ≡ v.size
  pub hidden : is_hidden c.table (Vhd child) ≡ true
  pub parent_hidden : is_hidden c.table (parent_name c.table parent) ≡ true
