-- The lines that the program prints of itself (this project's format). A line's words are separated by one space, and it
-- ends with a newline. Numbers are decimal.
use Rattle.std.specs.Prelude.{ℕ, List, [], ◌∷◌, ◌++◌, codes}
use Rattle.std.specs.Fmt.{decimal}
use Rattle.sm_base.specs.Names.{spelling, uuid_text}
use Rattle.sm_base.specs.declared.faults.OpenFault.{OpenFault}
use Rattle.sm_base.specs.declared.faults.OpenFault.TheVariants.{NotARepository, Unsupported, Damaged, Device, NoMemory}
use Rattle.sm_base.specs.declared.faults.Place.{Place}
use Rattle.sm_base.specs.declared.faults.Place.TheVariants as at
use Rattle.sm_machine.specs.Replies.{by_spaces}

-- a line: its words with one space between two, and a newline
unfoldable pub line_of : List (List ℕ) → List ℕ
line_of words = by_spaces words ++ 10 ∷ []

-- the place of a damage
unfoldable pub place_words : Place → List (List ℕ)
place_words at.Label = codes "label" ∷ []
place_words at.Header = codes "header" ∷ []
place_words at.TableSum = codes "table" ∷ codes "sum" ∷ []
place_words (at.Table offset) = codes "table" ∷ decimal offset ∷ []
place_words at.Mgt = codes "mgt" ∷ []
place_words at.Images = codes "images" ∷ []
place_words (at.Journal name) = codes "journal" ∷ spelling name ∷ []
place_words (at.Image name) = codes "image" ∷ spelling name ∷ []
place_words (at.Tree name) = codes "tree" ∷ spelling name ∷ []
place_words (at.Record index) = codes "record" ∷ decimal index ∷ []
place_words (at.Disk uuid) = codes "disk" ∷ uuid_text uuid ∷ []
place_words (at.Log name) = codes "log" ∷ spelling name ∷ []

-- why a repository is not opened; of a fault of the device and of want of memory nothing is printed
unfoldable pub fault_words : OpenFault → List (List ℕ)
fault_words NotARepository = codes "error" ∷ codes "NotARepository" ∷ []
fault_words (Unsupported version) = codes "error" ∷ codes "Unsupported" ∷ decimal version ∷ []
fault_words (Damaged place) = codes "error" ∷ codes "Damaged" ∷ place_words place
fault_words Device = []
fault_words NoMemory = []

-- sizes that are out of their ranges
unfoldable pub bad_geometry_words : List (List ℕ)
bad_geometry_words = codes "error" ∷ codes "BadGeometry" ∷ []

-- a device that is too small, with the sectors that it would need
unfoldable pub too_small_words : ℕ → List (List ℕ)
too_small_words sectors = codes "error" ∷ codes "TooSmall" ∷ decimal sectors ∷ []

-- no disk has the UUID that was asked for
unfoldable pub unknown_words : List (List ℕ)
unknown_words = codes "error" ∷ codes "UnknownDisk" ∷ []

-- a new repository, with its extents and how many of them are free
unfoldable pub formatted_words : ℕ → ℕ → List (List ℕ)
formatted_words extents free = codes "ok" ∷ codes "extents" ∷ decimal extents ∷ codes "free" ∷ decimal free ∷ []
