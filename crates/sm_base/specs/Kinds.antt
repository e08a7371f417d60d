-- What a volume is, by its name: the records of the disks, an image, the log of a tracked disk, or a journal entry.
use Rattle.std.specs.Prelude.{Bool, true, false}
use Rattle.sm_base.specs.declared.names.Name.{Name}
use Rattle.sm_base.specs.declared.names.Name.TheVariants.{Mgt, Vhd, Raw, Old, Cbt, Clone, Inflate, Coalesce, Relink, Leaf}
use Rattle.sm_base.specs.declared.kinds.Kind.{Kind}
use Rattle.sm_base.specs.declared.kinds.Kind.TheVariants.{Records, VhdImage, RawImage, OldLeaf, Log, Entry}

-- the kind of a name
abbrev pub kind : Name → Kind
kind Mgt = Records
kind (Vhd u) = VhdImage
kind (Raw u) = RawImage
kind (Old u) = OldLeaf
kind (Cbt u) = Log
kind (Clone disk base twin) = Entry
kind (Inflate image extents) = Entry
kind (Coalesce child parent) = Entry
kind (Relink child parent) = Entry
kind (Leaf leaf parent) = Entry

-- an image holds the data of a disk
abbrev pub holds_data : Kind → Bool
holds_data VhdImage = true
holds_data RawImage = true
holds_data OldLeaf = true
holds_data Records = false
holds_data Log = false
holds_data Entry = false

-- whether the volume of a name is an image
abbrev pub is_image : Name → Bool
is_image n = holds_data (kind n)

-- a journal entry holds nothing: it says all in its name
abbrev pub is_kind_of_entry : Kind → Bool
is_kind_of_entry Entry = true
is_kind_of_entry Records = false
is_kind_of_entry VhdImage = false
is_kind_of_entry RawImage = false
is_kind_of_entry OldLeaf = false
is_kind_of_entry Log = false

-- whether the volume of a name is a journal entry
abbrev pub is_entry : Name → Bool
is_entry n = is_kind_of_entry (kind n)

-- a log holds which pieces of a tracked disk were written to
abbrev pub is_kind_of_log : Kind → Bool
is_kind_of_log Log = true
is_kind_of_log Records = false
is_kind_of_log VhdImage = false
is_kind_of_log RawImage = false
is_kind_of_log OldLeaf = false
is_kind_of_log Entry = false

-- whether the volume of a name is the log of a tracked disk
abbrev pub is_log : Name → Bool
is_log n = is_kind_of_log (kind n)
