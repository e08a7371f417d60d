-- Memory that fails one field each, beside the tables of the worked repositories.
use Rattle.std.specs.Prelude.{ℕ, false, List, [], ◌∷◌, replicate, codes, Option, Some, None}
use Rattle.sm_base.specs.declared.operations.Mode.TheVariants.{Rw}
use Rattle.sm_log.specs.Logs.{Log}
use Rattle.sm_record.specs.declared.records.Record.{Record}
use Rattle.sm_ready.specs.Known.{Known}
use Rattle.examples_moments.specs.Worked.{first, first_record}
use Rattle.examples_ready.specs.FailingTables.{third}
use Rattle.examples_ready.specs.Repositories.{plain_known, known_with, raw_record, copy, chain_known}
use Rattle.examples_ready.specs.WorkedRows.{first_slot, no_slots}

-- a place too few
abbrev pub short_known : Known
short_known = record plain_known { places = Some first_record ∷ Some raw_record ∷ replicate 509 None }

-- slot 20 of the VHD disk, which would end behind its volume
abbrev pub high_slots : List (Option ℕ)
high_slots = Some 20 ∷ replicate 63 None

abbrev pub high_known : Known
high_known = known_with high_slots (codes "b")

-- the raw disk has no record
abbrev pub unrecorded_known : Known
unrecorded_known = record plain_known { places = Some first_record ∷ replicate 511 None }

-- the disk that is attached is counted nowhere
abbrev pub uncounted_known : Known
uncounted_known = record plain_known { attached = record { disks = (first, Rw) ∷ []; counts = []; room = 1 } }

-- the slot of block 0 is forgotten
abbrev pub forgotten_known : Known
forgotten_known = known_with no_slots (codes "b")

-- another label than the record's
abbrev pub relabelled_known : Known
relabelled_known = known_with first_slot (codes "c")

-- a record of no image
abbrev pub third_record : Record
third_record = record { uuid = third; label = codes "d"; origin = None; read_only = false }

abbrev pub stray_known : Known
stray_known = record plain_known { places = Some first_record ∷ Some raw_record ∷ Some third_record ∷ replicate 509 None }

-- the hidden image of the copy has slots for four blocks, which have no room in the base's one extent
abbrev pub four_slots : List (Option ℕ)
four_slots = Some 0 ∷ Some 1 ∷ Some 2 ∷ Some 3 ∷ replicate 60 None

abbrev pub tight_known : Known
tight_known = chain_known copy four_slots 1

-- the log of the VHD disk, which no volume of the table is
abbrev pub first_log : Log
first_log = record { disk = first; extents = 1; tag = 0; since = 0; bits = false ∷ [] }

abbrev pub tracked_known : Known
tracked_known = record plain_known { logs = first_log ∷ [] }
