-- Small contents and tables: some meet the hypotheses of the laws, some show where a disk stands, and some fail one
-- check of an opening. UUIDs are a byte long where nothing asks for more.
use Rattle.std.specs.Prelude.{ℕ, Bool, false, true, List, [], ◌∷◌, map}
use Rattle.sm_base.specs.declared.names.Name.{Name}
use Rattle.sm_base.specs.declared.names.Name.TheVariants.{Mgt, Raw}
use Rattle.sm_disk.specs.Sectors.{zeros}
use Rattle.common_laws.specs.Lists.{numbers}
use Rattle.vg_meta.specs.Tables.{VolumeTable, Row}
use Rattle.sm_standing.specs.Contents.{Content}

-- the volume of records, of so many extents as an extent of 16 KiB asks for
abbrev pub record_row : List ℕ → Row
record_row extents = record { name = Mgt; hidden = false; fresh = false; extents = extents }

abbrev pub empty_table : List ℕ → VolumeTable
empty_table extents = record { sequence = 1; volumes = record_row extents ∷ [] }

-- an empty repository: the volume of records alone, and zeros everywhere
abbrev pub empty_content : List ℕ → Content
empty_content extents = record { extent = 32; block = 8; entries = 64; count = 64; table = empty_table extents; area = λ p. zeros }

-- ---- tables

abbrev pub one : List ℕ
one = 1 ∷ []

abbrev pub two : List ℕ
two = 2 ∷ []

abbrev pub three : List ℕ
three = 3 ∷ []

abbrev pub four : List ℕ
four = 4 ∷ []

-- a volume that is visible, one that is hidden, one that is new, and a visible one with these extents
abbrev pub shown_row : Name → Row
shown_row n = record { name = n; hidden = false; fresh = false; extents = [] }

abbrev pub hidden_row : Name → Row
hidden_row n = record { name = n; hidden = true; fresh = false; extents = [] }

abbrev pub new_row : Name → Row
new_row n = record { name = n; hidden = false; fresh = true; extents = [] }

abbrev pub sized_row : Bool → Name → List ℕ → Row
sized_row fresh n extents = record { name = n; hidden = false; fresh = fresh; extents = extents }

-- a table before its seventh commit
abbrev pub table_of : List Row → VolumeTable
table_of volumes = record { sequence = 6; volumes = volumes }

-- ---- contents

-- this table on this area: an extent has one block, and an image at most four
abbrev pub content_in : VolumeTable → (ℕ → List ℕ) → Content
content_in t area = record { extent = 8; block = 8; entries = 4; count = 64; table = t; area = area }

-- these volumes on this area
abbrev pub content_on : List Row → (ℕ → List ℕ) → Content
content_on volumes area = content_in (table_of volumes) area

-- so many raw images
abbrev pub crowd : ℕ → List Row
crowd n = map (λ k. shown_row (Raw (k ∷ []))) (numbers 0 n)

-- the UUID of a base image with this number
abbrev pub base_of : ℕ → List ℕ
base_of k = 108 ∷ 118 ∷ 104 ∷ 100 ∷ 0 ∷ 0 ∷ 128 ∷ 0 ∷ 128 ∷ 0 ∷ 0 ∷ 0 ∷ 0 ∷ 0 ∷ 0 ∷ k ∷ []

-- a raw disk beside records that have one extent, the first
abbrev pub lone_raw : (ℕ → List ℕ) → Content
lone_raw area = content_on (sized_row false Mgt (0 ∷ []) ∷ sized_row false (Raw one) (1 ∷ []) ∷ []) area
