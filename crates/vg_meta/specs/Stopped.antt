-- Why the volumes of a text were not read.
use Rattle.std.specs.Prelude.{◌≡◌, ◌≢◌, ℕ, ◌<◌, ◌^◌, List, [], ◌∷◌, ◌++◌, length}
use Rattle.std.specs.List.{flat_map}
use Rattle.vg_meta.specs.declared.grammars.Grammar.{Grammar}
use Rattle.vg_meta.specs.declared.reading.Stopped.{Stopped}
use Rattle.vg_meta.specs.declared.reading.Stopped.TheVariants.{Damaged, NoMemory}
use Rattle.vg_meta.specs.Tables.{Row, AreVolumes}
use Rattle.vg_meta.specs.Text.{volume_by}

-- behind fewer than so many volumes no volume stands that goes on with them
pub record IsCut (g : Grammar) (count number : ℕ) (bytes : List ℕ) (left : ℕ) : Type 0 where
  pub front : List Row
  pub rest : List ℕ
  pub spelled : bytes ≡ flat_map (volume_by g) front ++ rest
  pub volumes : AreVolumes count front
  pub fewer : length front < number
  pub none : (r : Row) (more : List ℕ) → length r.extents < 2 ^ 32 → AreVolumes count (front ++ r ∷ []) → rest ≢ volume_by g r ++ more
  pub rest_length : left ≡ length rest

-- why the reading of so many volumes stopped: behind fewer of them none stands, so many bytes from the end, or memory was wanting
abbrev pub StopsReading : Grammar → ℕ → ℕ → List ℕ → Stopped → Type 0
StopsReading g count number bytes (Damaged left) = IsCut g count number bytes left
StopsReading g count number bytes NoMemory = Unit {0}
