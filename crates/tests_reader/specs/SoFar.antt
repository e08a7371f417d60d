-- How far the reader has come in a text: the volumes in front, as it sees them.
use Rattle.std.specs.Prelude.{◌≡◌, ℕ, ◌↔◌, Bool, true, IsTrue, List, Option, Some, None}
use Rattle.std.specs.Borrow.{Bor}
use Rattle.std.specs.Cmp.Lexicographic.{slice_cmp}
use Rattle.std.specs.List.{AllByRecursion}
use Rattle.std.specs.Ordering.{nat_cmp, is_lt}
use Rattle.std.specs.declared.cmp.Ordering.TheVariants.{Less}
use Rattle.sm_base.specs.declared.names.Name.{Name}
use Rattle.sm_base.specs.Names.{name_cmp, spelling}
use Rattle.tests_reader.specs.declared.volumes.Volume.{Volume}
use Rattle.vg_meta.specs.Tables.{Row, AreVolumes, extents_in}

-- a volume of the text
abbrev pub row : Volume → Row
row v = record { name = v.name; hidden = v.hidden; fresh = v.fresh; extents = v.extents.items }

-- the bytes of a slice, if there is one
abbrev pub seen : Option (Bor (List ℕ)) → Option (List ℕ)
seen None = None
seen (Some slice) = Some slice.now

-- whether a spelling rises behind the one before, if there is one
abbrev pub rises : Option (List ℕ) → List ℕ → Bool
rises None spelled = true
rises (Some before) spelled = is_lt (slice_cmp nat_cmp before spelled)

-- behind these volumes: the spelling of the last one's name, and all extents that were met
pub record IsSoFar (count : ℕ) (rows : List Row) (before : Option (List ℕ)) (met : List ℕ) : Type 0 where
  pub volumes : AreVolumes count rows
  pub behind : (n : Name) → IsTrue (rises before (spelling n)) ↔ AllByRecursion (λ r. name_cmp r.name n ≡ Less) rows
  pub all : met ≡ extents_in rows
