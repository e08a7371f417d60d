-- Which bytes are the text of a table, and at which place other bytes are damaged first (this project's format), by each
-- grammar. The place is 0 where the first 8 bytes are not a sequence number, 8 where the number of volumes is not there,
-- else the offset of the first volume that is cut off or is none, whose name does not rise, or of which an extent
-- is not below the count or stands twice so far; else the offset at which bytes follow the last volume. A volume with an
-- empty segment, or with one that begins where the one before it ended, is none.
use Rattle.std.specs.Prelude.{◌≡◌, ◌≢◌, ℕ, ◌-◌, ◌<◌, ◌^◌, min, List, [], ◌∷◌, ◌++◌, length}
use Rattle.std.specs.List.{flat_map}
use Rattle.byteorder.specs.Endian.{big_bytes}
use Rattle.vg_meta.specs.declared.grammars.Grammar.{Grammar}
use Rattle.vg_meta.specs.declared.grammars.Grammar.TheVariants.{Segmented}
use Rattle.vg_meta.specs.Tables.{Row, VolumeTable, IsTable, AreVolumes}
use Rattle.vg_meta.specs.Text.{text_by, volume_by, HasText}

-- the bytes are the text of the table by a grammar
pub record SpellsBy (g : Grammar) (count : ℕ) (bytes : List ℕ) (t : VolumeTable) : Type 0 where
  pub spelled : bytes ≡ text_by g t
  pub table : IsTable count t
  pub fits : HasText t

-- behind a sequence number and a number of volumes stand these volumes, which are those of a table so far, and the rest
pub record BeginsBy (g : Grammar) (count : ℕ) (bytes : List ℕ) (sequence number : ℕ) (front : List Row) (rest : List ℕ) : Type 0 where
  pub spelled : bytes ≡ big_bytes 8 sequence ++ (big_bytes 4 number ++ (flat_map (volume_by g) front ++ rest))
  pub sequence_fits : sequence < 2 ^ 48
  pub number_fits : number < 2 ^ 32
  pub volumes : AreVolumes count front

-- the first place that is damaged by a grammar
pub data IsDamagedBy (g : Grammar) (count : ℕ) (bytes : List ℕ) : ℕ → Type 0 where
  no_sequence : ((sequence : ℕ) (rest : List ℕ) → sequence < 2 ^ 48 → bytes ≢ big_bytes 8 sequence ++ rest) → IsDamagedBy g count bytes 0
  no_number : (sequence : ℕ) (rest : List ℕ) → sequence < 2 ^ 48 → bytes ≡ big_bytes 8 sequence ++ rest → length rest < 4
      → IsDamagedBy g count bytes 8
  no_volume : (sequence number : ℕ) (front : List Row) (rest : List ℕ) → BeginsBy g count bytes sequence number front rest
      → length front < number
      → ((r : Row) (more : List ℕ) → length r.extents < 2 ^ 32 → AreVolumes count (front ++ r ∷ []) → rest ≢ volume_by g r ++ more)
      → IsDamagedBy g count bytes (length bytes - length rest)
  bytes_follow : (sequence number : ℕ) (front : List Row) (rest : List ℕ) → BeginsBy g count bytes sequence number front rest
      → length front ≡ number → rest ≢ []
      → IsDamagedBy g count bytes (length bytes - length rest)

-- the bytes are the text of the table, its extents by segments
abbrev pub Spells : ℕ → List ℕ → VolumeTable → Type 0
Spells count bytes t = SpellsBy Segmented count bytes t

-- behind a sequence number and a number of volumes stand these volumes, their extents by segments, which are those of a table so far, and the rest
abbrev pub Begins : ℕ → List ℕ → ℕ → ℕ → List Row → List ℕ → Type 0
Begins count bytes sequence number front rest = BeginsBy Segmented count bytes sequence number front rest

-- the first place that is damaged of a text by segments
abbrev pub IsDamagedAt : ℕ → List ℕ → ℕ → Type 0
IsDamagedAt count bytes place = IsDamagedBy Segmented count bytes place

-- a place as it is told, in 32 bits: the places past them are told as the last
abbrev pub told : ℕ → ℕ
told place = min place (2 ^ 32 - 1)
