-- Changes made one after the other, by a commit each: whether each is allowed in its turn, and the store behind one (this project's own).
use Rattle.std.specs.Prelude.{ℕ, List, [], ◌∷◌}
use Rattle.sm_disk.specs.Held.{reads}
use Rattle.vg_meta.specs.Tables.{VolumeTable}
use Rattle.vg_meta.specs.Changes.{Permits, applied}
use Rattle.vg_meta.specs.declared.changes.Change.{Change}
use Rattle.vg_volumes.specs.Sites.{Fits}
use Rattle.vg_volumes.specs.Stored.{Stored}
use Rattle.sm_ready.specs.Done.{at_rest}

-- each of these changes is allowed in its turn, and the text of the table after it fits
abbrev pub AllMay : ℕ → VolumeTable → List Change → Type 0
AllMay count t [] = Unit {0}
AllMay count t (c ∷ cs) = Permits count t c × Fits count t c × AllMay count (applied t c) cs

-- a store once a commit was made: the changed table, and what a read gave, with nothing pending
abbrev pub committed : Stored → Change → Stored
committed x c = record { site = x.site; table = applied x.table c; area = at_rest (reads x.area) }
