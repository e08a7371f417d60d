-- An enlargement or a fork that a stop has cut short is undone (this project's format): the tables in between, the names that its images
-- had, and a content with the table that is left. The commits are those of the repairs 1 and 2 of an opening (`Opened`).
use Rattle.std.specs.Prelude.{◌≡◌, ℕ, ◌*◌, ◌<◌, ◌≤◌, ◌||◌, false, List, [], ◌∷◌, length, take, Option, None, Some, if◌then◌else◌}
use Rattle.common_laws.specs.Lists.{◌>>=◌}
use Rattle.sm_base.specs.declared.names.Name.{Name}
use Rattle.sm_base.specs.declared.names.Name.TheVariants.{Mgt, Vhd, Raw, Old, Cbt, Clone, Inflate, Coalesce, Relink, Leaf}
use Rattle.vg_meta.specs.Changes.{Permits, applied}
use Rattle.vg_meta.specs.Tables.{Row, VolumeTable, name_eq, rows}
use Rattle.vg_meta.specs.declared.changes.Change.{Change}
use Rattle.sm_standing.specs.Contents.{Content}
use Rattle.sm_standing.specs.Entries.{head, image_with, making}
use Rattle.sm_standing.specs.Images.{Image, image_of}
use Rattle.sm_standing.specs.Opened.{applied_all, under_name, undo_changes, undone}

-- ---- the commits

-- each of them is allowed in its turn
abbrev pub AllPermit : ℕ → VolumeTable → List Change → Type 0
AllPermit count t [] = Unit {0}
AllPermit count t (c ∷ cs) = Permits count t c × AllPermit count (applied t c) cs

-- one of the tables that stand while it is undone
abbrev pub IsUndoing : VolumeTable → VolumeTable → Type 0
IsUndoing t v = (k : ℕ) × (v ≡ applied_all t (take k (undo_changes t)))

-- ---- the names that its images had

-- under the base of a fork, where that is there: it has the disk's name, and the disk's new image is gone
abbrev pub from_base : List ℕ → Option Name → Name → Option Name
from_base disk None n = Some n
from_base disk (Some base) n = if name_eq n (under_name base disk) then Some base else if name_eq n base || name_eq n (Vhd disk) then None else Some n

abbrev pub from_entry : VolumeTable → Name → Name → Option Name
from_entry t (Clone disk base twin) n = if name_eq n (Clone disk base twin) || name_eq n (Vhd twin) then None else from_base disk (image_with t base) n
from_entry t Mgt n = Some n
from_entry t (Vhd u) n = Some n
from_entry t (Raw u) n = Some n
from_entry t (Old u) n = Some n
from_entry t (Cbt u) n = Some n
from_entry t (Inflate image extents) n = Some n
from_entry t (Coalesce child parent) n = Some n
from_entry t (Relink child parent) n = Some n
from_entry t (Leaf leaf parent) n = Some n

-- the name that the volume of this name had, where it is none that went
unfoldable pub undone_from : VolumeTable → Name → Option Name
undone_from t n = elim (head (making t)) [ None ↦ Some n | Some e ↦ from_entry t e n ]

-- behind a fork each volume is the one that it was, and the base is shown and has its name
abbrev pub named_back : Name → Name → Row → Row
named_back n was r = if name_eq n was then r else record { name = n; hidden = false; fresh = r.fresh; extents = r.extents }

-- the volume of a name once a fork or an enlargement is undone, by the table from before
abbrev pub row_back : VolumeTable → Name → Option Row
row_back t n = undone_from t n >>= (λ was. rows t was >>= (λ r. Some (named_back n was r)))

-- ---- a content

-- an area that is the same as far as the extents go
abbrev pub IsSameArea : Content → (ℕ → List ℕ) → Type 0
IsSameArea c area = (p : ℕ) → p < c.count * c.extent → area p ≡ c.area p

-- the image that the image of this name was
abbrev pub image_back : Content → Name → Option Image
image_back c n = undone_from c.table n >>= image_of c

-- the content with that table
abbrev pub undone_content : Content → Content
undone_content c = record c { table = undone c.table }

-- the same with this sequence number
abbrev pub undone_at : ℕ → VolumeTable → VolumeTable
undone_at sequence t = record (undone t) { sequence = sequence }

abbrev pub undone_content_at : ℕ → Content → Content
undone_content_at sequence c = record c { table = undone_at sequence c.table }

-- the image of a UUID is being enlarged that had so many extents, at least one: its entry is the only one of its group, and it
-- has them
pub record IsBeingEnlarged (t : VolumeTable) (u : List ℕ) (extents : ℕ) : Type 0 where
  pub entry : making t ≡ Inflate u extents ∷ []
  pub own : Row
  pub there : rows t (Vhd u) ≡ Some own
  pub filled : own.fresh ≡ false
  pub had : extents ≤ length own.extents
  pub some : 0 < extents
