-- How the name of a volume is spelled, and the order of names (this project's format).
use Rattle.std.specs.Prelude.{◌≡◌, ℕ, ◌<◌, ◌^◌, List, [], ◌∷◌, ◌++◌, drop, take, length, codes, All, Bool}
use Rattle.std.specs.Cmp.Lexicographic.{slice_cmp}
use Rattle.std.specs.Ordering.{nat_cmp}
use Rattle.std.specs.declared.cmp.Ordering.{Ordering}
use Rattle.std.specs.Fmt.{decimal}
use Rattle.std.specs.Int.{w64, to_be_bytes}
use Rattle.std.specs.Str.{bytes_eq}
use Rattle.uuid.specs.Text.{hyphenated_text, lower}
use Rattle.sm_base.specs.declared.names.Name.{Name}
use Rattle.sm_base.specs.declared.names.Name.TheVariants.{Mgt, Vhd, Raw, Old, Cbt, Clone, Inflate, Coalesce, Relink, Leaf}

-- sixteen bytes
pub record IsUuid (u : List ℕ) : Type 0 where
  pub long : length u ≡ 16
  pub bytes : All (λ b. b < 256) u

-- a UUID in 36 lower-case characters, 8-4-4-4-12
unfoldable pub uuid_text : List ℕ → List ℕ
uuid_text u = hyphenated_text lower u

-- the spelling of each name
unfoldable pub spelling : Name → List ℕ
spelling Mgt = codes "MGT"
spelling (Vhd u) = codes "VHD-" ++ uuid_text u
spelling (Raw u) = codes "LV-" ++ uuid_text u
spelling (Old u) = codes "OLD_" ++ uuid_text u
spelling (Cbt u) = codes "CBT-" ++ uuid_text u
spelling (Clone disk base twin) =
    codes "clone_" ++ (uuid_text disk ++ (codes "_" ++ (uuid_text base ++ (codes "_" ++ uuid_text twin))))
spelling (Inflate image extents) = codes "inflate_" ++ (uuid_text image ++ (codes "_" ++ decimal extents))
spelling (Coalesce child parent) = codes "coalesce_" ++ (uuid_text child ++ (codes "_" ++ uuid_text parent))
spelling (Relink child parent) = codes "relink_" ++ (uuid_text child ++ (codes "_" ++ uuid_text parent))
spelling (Leaf leaf parent) = codes "leaf_" ++ (uuid_text leaf ++ (codes "_" ++ uuid_text parent))

-- the UUIDs of a name are UUIDs, and an image is enlarged from 1 to 4,294,967,295 extents
unfoldable pub IsName : Name → Type 0
IsName Mgt = Unit {0}
IsName (Vhd u) = IsUuid u
IsName (Raw u) = IsUuid u
IsName (Old u) = IsUuid u
IsName (Cbt u) = IsUuid u
IsName (Clone disk base twin) = IsUuid disk × IsUuid base × IsUuid twin
IsName (Inflate image extents) = IsUuid image × (0 < extents) × (extents < 2 ^ 32)
IsName (Coalesce child parent) = IsUuid child × IsUuid parent
IsName (Relink child parent) = IsUuid child × IsUuid parent
IsName (Leaf leaf parent) = IsUuid leaf × IsUuid parent

-- names are ordered by their spelled bytes
unfoldable pub name_cmp : Name → Name → Ordering
name_cmp a b = slice_cmp nat_cmp (spelling a) (spelling b)

-- 6c766864-0000-8000-8000-, the part that all base images' UUIDs have
abbrev pub base_front : List ℕ
base_front = 108 ∷ 118 ∷ 104 ∷ 100 ∷ 0 ∷ 0 ∷ 128 ∷ 0 ∷ 128 ∷ 0 ∷ []

-- the UUID of a base image: the front, then the table's sequence number in six bytes
unfoldable pub base_uuid : ℕ → List ℕ
base_uuid sequence = base_front ++ drop 2 (to_be_bytes w64 sequence)

-- a UUID of that form
unfoldable pub is_base : List ℕ → Bool
is_base u = bytes_eq (take 10 u) base_front
