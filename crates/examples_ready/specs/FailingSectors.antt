-- Sectors that fail one field each, beside table and memory of the worked repositories.
use Rattle.std.specs.Prelude.{◌==◌, [], ◌∷◌, if◌then◌else◌}
use Rattle.sm_disk.specs.Held.{Held}
use Rattle.sm_disk.specs.Sectors.{zeros}
use Rattle.sm_ready.specs.Done.{at_rest}
use Rattle.examples_moments.specs.WorkedImages.{sector_of}
use Rattle.examples_ready.specs.Repositories.{plain_image, chain_image}

-- the base holds other bytes of block 0 than the hidden image, though the cursor of a copy is past the block, or the copy ended
abbrev pub uncopied_area : Held
uncopied_area = at_rest (chain_image 17)

-- the record in place 0 was written, and not synced: a stop may leave the place free
abbrev pub unsynced_area : Held
unsynced_area = record { floor = λ p. if p == 0 then zeros else plain_image p; pending = λ p. if p == 0 then plain_image 0 ∷ [] else [] }

-- the first sector of the log's volume was written, and not synced
abbrev pub log_area : Held
log_area = record { floor = plain_image; pending = λ p. if p == 704 then sector_of 34 ∷ [] else [] }
