-- The parent's name in a header: the name of the parent's volume in UTF-16 big-endian, then zeros, 512 bytes in
-- all (Microsoft Virtual Hard Disk Image Format Specification 1.0, 'Dynamic Disk Header Format', Parent Unicode
-- Name). That the name is that of the parent's volume is this project's format.
use Rattle.std.specs.Prelude.{◌≡◌, ℕ, ◌-◌, ◌*◌, Bool, true, false, IsTrue, List, [], ◌∷◌, ◌++◌, length, take, drop, replicate, Option, None, Some, option_and_then, option_map, if◌then◌else◌}
use Rattle.std.specs.Option.{option_or}
use Rattle.std.specs.Str.{bytes_eq}
use Rattle.uuid.specs.Text.{parsed}
use Rattle.sm_base.specs.declared.names.Name.{Name}
use Rattle.sm_base.specs.declared.names.Name.TheVariants.{Mgt, Vhd, Raw, Old, Cbt, Clone, Inflate, Coalesce, Relink, Leaf}
use Rattle.sm_base.specs.Names.{IsName, spelling}

-- ASCII characters in UTF-16 big-endian: a zero byte before each
unfoldable pub utf16 : List ℕ → List ℕ
utf16 [] = []
utf16 (character ∷ text) = 0 ∷ character ∷ utf16 text

-- the second byte of each pair
unfoldable pub low_bytes : List ℕ → List ℕ
low_bytes [] = []
low_bytes (high ∷ []) = []
low_bytes (high ∷ low ∷ units) = low ∷ low_bytes units

-- how a header gives its parent
unfoldable pub parent_bytes : Option Name → List ℕ
parent_bytes None = replicate 512 0
parent_bytes (Some name) = utf16 (spelling name) ++ replicate (512 - 2 * length (spelling name)) 0

-- a VHD or raw image
abbrev pub is_image : Name → Bool
is_image (Vhd u) = true
is_image (Raw u) = true
is_image Mgt = false
is_image (Old u) = false
is_image (Cbt u) = false
is_image (Clone disk base twin) = false
is_image (Inflate image extents) = false
is_image (Coalesce child parent) = false
is_image (Relink child parent) = false
is_image (Leaf leaf parent) = false

-- no parent, or one that is a VHD or raw image
unfoldable pub IsParent : Option Name → Type 0
IsParent None = Unit {0}
IsParent (Some name) = IsName name × IsTrue (is_image name)

-- the field gives this parent
pub record ParentOf (field : List ℕ) (parent : Option Name) : Type 0 where
  pub image : IsParent parent
  pub spelled : field ≡ parent_bytes parent

-- the name of a kind that a field gives, where it gives one: behind the kind's own characters stand the 36 of a
-- UUID, and the whole field gives that name
abbrev pub named : (List ℕ → Name) → ℕ → List ℕ → Option Name
named kind at field =
    option_and_then (λ u. if bytes_eq (parent_bytes (Some (kind u))) field then Some (kind u) else None) (parsed (take 36 (drop at (low_bytes field))))

-- the parent that a field gives, where it gives one: none, a VHD image or a raw image
unfoldable pub parent_read : List ℕ → Option (Option Name)
parent_read field =
    if bytes_eq (parent_bytes None) field then Some None
    else option_map Some (option_or (named Vhd 4 field) (named Raw 3 field))
