-- A repository in which nothing is under way: its volumes are the volume of records and VHD and raw images, visible and hidden
-- ones, new ones among them. None is an old leaf, and there is no journal entry. Also one in which at most images are being
-- enlarged, or in which a disk is being forked; and one in which an image is being folded into its parent besides.
use Rattle.std.specs.Prelude.{◌≡◌, Bool, true, false}
use Rattle.std.specs.List.{AllByRecursion}
use Rattle.sm_base.specs.declared.names.Name.{Name}
use Rattle.sm_base.specs.declared.names.Name.TheVariants.{Mgt, Vhd, Raw, Old, Cbt, Clone, Inflate, Coalesce, Relink, Leaf}
use Rattle.vg_meta.specs.Tables.{Row, VolumeTable}

abbrev pub is_plain_name : Name → Bool
is_plain_name Mgt = true
is_plain_name (Vhd u) = true
is_plain_name (Raw u) = true
is_plain_name (Cbt u) = true
is_plain_name (Old u) = false
is_plain_name (Clone disk base twin) = false
is_plain_name (Inflate image extents) = false
is_plain_name (Coalesce child parent) = false
is_plain_name (Relink child parent) = false
is_plain_name (Leaf leaf parent) = false

abbrev pub is_plain : Row → Bool
is_plain r = is_plain_name r.name

-- a table of plain volumes: the records and images, and no old leaf nor journal entry
abbrev pub IsPlain : VolumeTable → Type 0
IsPlain t = AllByRecursion (λ r. is_plain r ≡ true) t.volumes

-- a plain volume, or the entry of a fork or of an enlargement
abbrev pub is_simple_name : Name → Bool
is_simple_name Mgt = true
is_simple_name (Vhd u) = true
is_simple_name (Raw u) = true
is_simple_name (Cbt u) = true
is_simple_name (Clone disk base twin) = true
is_simple_name (Inflate image extents) = true
is_simple_name (Old u) = false
is_simple_name (Coalesce child parent) = false
is_simple_name (Relink child parent) = false
is_simple_name (Leaf leaf parent) = false

abbrev pub is_simple : Row → Bool
is_simple r = is_simple_name r.name

-- a table of plain volumes and of the entries of a fork or of an enlargement
abbrev pub IsSimple : VolumeTable → Type 0
IsSimple t = AllByRecursion (λ r. is_simple r ≡ true) t.volumes

-- a simple volume, or the entry of a copy, or of children that are being linked
abbrev pub is_known_name : Name → Bool
is_known_name (Coalesce child parent) = true
is_known_name (Relink child parent) = true
is_known_name n = is_simple_name n

abbrev pub is_known : Row → Bool
is_known r = is_known_name r.name

-- a table without an old leaf and without the entry of a leaf that is being folded
abbrev pub IsKnown : VolumeTable → Type 0
IsKnown t = AllByRecursion (λ r. is_known r ≡ true) t.volumes
