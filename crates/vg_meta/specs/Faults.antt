-- What a text that is no table is answered with.
use Rattle.std.specs.Prelude.{◌≡◌, ℕ, List}
use Rattle.vg_meta.specs.declared.faults.DecodeFault.{DecodeFault}
use Rattle.vg_meta.specs.declared.faults.DecodeFault.TheVariants.{Damaged, NoMemory}
use Rattle.vg_meta.specs.declared.grammars.Grammar.{Grammar}
use Rattle.vg_meta.specs.declared.grammars.Grammar.TheVariants.{Segmented}
use Rattle.vg_meta.specs.Reading.{IsDamagedBy, told}

-- the bytes are damaged by a grammar, first at a place, which is told; want of memory is free
abbrev pub IsDecodeFaultBy : Grammar → ℕ → List ℕ → DecodeFault → Type 0
IsDecodeFaultBy g count bytes (Damaged at) = (place : ℕ) × IsDamagedBy g count bytes place × (at ≡ told place)
IsDecodeFaultBy g count bytes NoMemory = Unit {0}

-- the bytes are damaged as a text by segments, first at a place, which is told; want of memory is free
abbrev pub IsDecodeFault : ℕ → List ℕ → DecodeFault → Type 0
IsDecodeFault count bytes fault = IsDecodeFaultBy Segmented count bytes fault
