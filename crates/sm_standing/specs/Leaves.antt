-- The folding of a leaf that a stop has cut short is ended (this project's format): the tables in between, the names that its images had,
-- and a content with the table that is left. The commits are those of the repair 5 of an opening (`Opened`).
use Rattle.std.specs.Prelude.{◌≡◌, ℕ, List, [], ◌∷◌, take, Option, None, Some, if◌then◌else◌}
use Rattle.common_laws.specs.Lists.{◌>>=◌}
use Rattle.sm_base.specs.declared.names.Name.{Name}
use Rattle.sm_base.specs.declared.names.Name.TheVariants.{Mgt, Vhd, Raw, Old, Cbt, Clone, Inflate, Coalesce, Relink, Leaf}
use Rattle.sm_base.specs.Numbers.{IsGeometry}
use Rattle.vg_meta.specs.Tables.{IsTable, VolumeTable, name_eq}
use Rattle.sm_standing.specs.Checks.{first_fault}
use Rattle.sm_standing.specs.Contents.{Content}
use Rattle.sm_standing.specs.Entries.{folding, head, is_leaf_renamed}
use Rattle.sm_standing.specs.Images.{Image, image_of}
use Rattle.sm_standing.specs.Opened.{applied_all, end_changes, ended}
use Rattle.sm_standing.specs.Outlines.{Outline}

-- ---- the commits

-- one of the tables that stand while it is ended
abbrev pub IsEnding : VolumeTable → VolumeTable → Type 0
IsEnding t v = (k : ℕ) × (v ≡ applied_all t (take k (end_changes t)))

-- the content with that table
abbrev pub ended_content : Content → Content
ended_content c = record c { table = ended c.table }

-- a content whose checks pass, and in which the folding of this leaf into this parent was cut short
pub record IsCutShort (c : Content) (leaf parent : List ℕ) : Type 0 where
  pub sound : first_fault c ≡ None
  pub table : IsTable c.count c.table
  pub sizes : IsGeometry c.extent c.block c.entries
  pub entry : folding c.table ≡ Leaf leaf parent ∷ []

-- ---- the names that its images had

-- where the leaf was renamed its parent has its name
abbrev pub from_leaf : VolumeTable → Option Name → Name → Option Name
from_leaf t (Some (Leaf leaf parent)) n =
    if is_leaf_renamed t leaf parent then (if name_eq n (Vhd leaf) then Some (Vhd parent) else if name_eq n (Vhd parent) then None else Some n)
    else Some n
from_leaf t None n = Some n
from_leaf t (Some Mgt) n = Some n
from_leaf t (Some (Vhd u)) n = Some n
from_leaf t (Some (Raw u)) n = Some n
from_leaf t (Some (Old u)) n = Some n
from_leaf t (Some (Cbt u)) n = Some n
from_leaf t (Some (Clone disk base twin)) n = Some n
from_leaf t (Some (Inflate image extents)) n = Some n
from_leaf t (Some (Coalesce child parent)) n = Some n
from_leaf t (Some (Relink child parent)) n = Some n

unfoldable pub ended_from : VolumeTable → Name → Option Name
ended_from t n = from_leaf t (head (folding t)) n

-- the image that the image of this name was
abbrev pub image_ended : Content → Name → Option Image
image_ended c n = ended_from c.table n >>= image_of c

-- the outline with that table: each image under the name that it has then
abbrev pub ended_outline : Outline → Outline
ended_outline x = record x { table = ended x.table; links = λ n. ended_from x.table n >>= x.links }
