-- What the reader answers, by the definitions of a table's text and of an opening.
use Rattle.std.specs.Prelude.{◌≡◌, ◌≢◌, ℕ, List, sum, Option, Some, None}
use Rattle.sm_base.specs.declared.faults.OpenFault.{OpenFault}
use Rattle.sm_base.specs.declared.faults.OpenFault.TheVariants.{Damaged}
use Rattle.sm_base.specs.declared.faults.Place.TheVariants.{TableSum, Table}
use Rattle.vg_layout.specs.Opening.{GroupFound, StandsOn, IsRefused}
use Rattle.vg_meta.specs.Reading.{SpellsBy, IsDamagedBy}
use Rattle.vg_meta.specs.Tables.{VolumeTable}
use Rattle.vg_meta.specs.declared.grammars.Grammar.{Grammar}

-- the bytes spell a table by a grammar
pub record IsText (g : Grammar) (count : ℕ) (bytes : List ℕ) : Type 0 where
  pub table : VolumeTable
  pub spells : SpellsBy g count bytes table

-- bytes are the text of a table by a grammar, or damaged at a place first
abbrev pub IsDamage : Grammar → ℕ → List ℕ → Option ℕ → Type 0
IsDamage g count bytes None = IsText g count bytes
IsDamage g count bytes (Some place) = IsDamagedBy g count bytes place

-- the fifth check fails: the bytes have not this sum, or they spell no table
pub data IsTextRefused (g : Grammar) (count total : ℕ) (bytes : List ℕ) : OpenFault → Type 0 where
  by_sum : sum bytes ≢ total → IsTextRefused g count total bytes (Damaged TableSum)
  by_text : (place : ℕ) → sum bytes ≡ total → IsDamagedBy g count bytes place → IsTextRefused g count total bytes (Damaged (Table place))

-- the fifth check: bytes have this sum and are the text of a table, or they are refused
abbrev pub IsTextFault : Grammar → ℕ → ℕ → List ℕ → Option OpenFault → Type 0
IsTextFault g count total bytes None = (sum bytes ≡ total) × IsText g count bytes
IsTextFault g count total bytes (Some fault) = IsTextRefused g count total bytes fault

-- a group stands on a device of so many sectors
pub record HasGroup (sectors : ℕ) (image : ℕ → List ℕ) : Type 0 where
  pub group : GroupFound
  pub stands : StandsOn sectors image group

-- all five checks pass, or the first that fails gives the answer
abbrev pub IsFault : ℕ → (ℕ → List ℕ) → Option OpenFault → Type 0
IsFault sectors image None = HasGroup sectors image
IsFault sectors image (Some fault) = IsRefused sectors image fault
