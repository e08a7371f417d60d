-- What the program's words ask for (this project's format): `run`, or `format` with the sizes of an extent and of a block
-- in bytes, the number of entries of a block allocation table, and the repository's UUID, or `trial` with a number, or `export` or
-- `import` with the UUID of a disk. Numbers are decimal, and below 2^64; a UUID has hexadecimal digits of either case.
use Rattle.std.specs.Prelude.{◌≡◌, ℕ, List, [], ◌∷◌, map, codes, Option, Some, None, if◌then◌else◌}
use Rattle.std.specs.Borrow.{Bor}
use Rattle.std.specs.Str.{bytes_eq}
use Rattle.common_laws.specs.Lists.{◌>>=◌}
use Rattle.sm_machine.specs.Lines.{number_of, uuid_of}
use Rattle.lvhd_command.specs.declared.words.Form.{Form}
use Rattle.lvhd_command.specs.declared.words.Form.TheVariants.{Format, Run, Trial, Export, Import}

abbrev pub format_of : List ℕ → List ℕ → List ℕ → List ℕ → Option Form
format_of extent block entries repository = do
  e ← number_of extent
  b ← number_of block
  n ← number_of entries
  u ← uuid_of repository
  Some (Format (record { extent = e; block = b; entries = n; repository = u }))

abbrev pub trial_of : List ℕ → Option Form
trial_of number = do
  n ← number_of number
  Some (Trial n)

abbrev pub export_of : List ℕ → Option Form
export_of disk = do
  u ← uuid_of disk
  Some (Export (record { disk = u }))

abbrev pub import_of : List ℕ → Option Form
import_of disk = do
  u ← uuid_of disk
  Some (Import (record { disk = u }))

-- what the words of the command line ask for, if anything
unfoldable pub form_of : List (List ℕ) → Option Form
form_of (word ∷ []) = if bytes_eq word (codes "run") then Some Run else None
form_of (word ∷ second ∷ []) =
    if bytes_eq word (codes "trial") then trial_of second
    else if bytes_eq word (codes "export") then export_of second
    else if bytes_eq word (codes "import") then import_of second
    else None
form_of (word ∷ extent ∷ block ∷ entries ∷ repository ∷ []) =
    if bytes_eq word (codes "format") then format_of extent block entries repository else None
form_of _ = None

-- the words ask for this, or spell no form
abbrev pub Asks : List (Bor (List ℕ)) → Option Form → Type 0
Asks words form = form_of (map (λ w. w.now) words) ≡ form
