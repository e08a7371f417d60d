-- Between two commits: a volume is new, and a record was put for it.
use Rattle.std.specs.Prelude.{◌≡◌, ◌⊎◌, ℕ, ◌<◌, false, List, Some, None, slice_index_or}
use Rattle.std.specs.List.{slice_set}
use Rattle.sm_base.specs.declared.names.Name.TheVariants.{Cbt}
use Rattle.sm_disk.specs.Held.{Held, Keeps, May}
use Rattle.vg_meta.specs.Tables.{VolumeTable}
use Rattle.vg_volumes.specs.Sites.{Site, volume_of}
use Rattle.common_laws.specs.Lists.{In}
use Rattle.sm_record.specs.declared.records.Record.{Record}
use Rattle.sm_record.specs.declared.records.Reading.TheVariants.{Taken}
use Rattle.sm_record.specs.Records.{reading}
use Rattle.sm_mgt.specs.Places.{place_count, records_held}
use Rattle.vhd_chain.specs.declared.rows.TreeRow.{TreeRow}
use Rattle.vhd_chain.specs.Trees.{row_name}
use Rattle.sm_ready.specs.Known.{Known, is_shown}

-- memory with a record in a place
abbrev pub with_place : ℕ → Record → Known → Known
with_place k r m = record m { places = slice_set m.places k (Some r) }

-- a record that is put while its volume is new: the place is free, and no visible image has the UUID
pub record IsStray (m : Known) (k : ℕ) (r : Record) : Type 0 where
  pub within : k < place_count
  pub free : slice_index_or m.places k None ≡ None
  pub unseen : is_shown m.rows r.uuid ≡ false

-- writes at a new volume and at one place of the records: each volume of an image or of a log is as it was, and each other record
pub record IsMiddle (s : Site) (t : VolumeTable) (m : Known) (old new : Held) (k : ℕ) (r : Record) : Type 0 where
  pub images : (q : TreeRow) → In q m.rows → Keeps (volume_of s t old (row_name q)) (volume_of s t new (row_name q))
  pub logs : (u : List ℕ) → Keeps (volume_of s t old (Cbt u)) (volume_of s t new (Cbt u))
  pub records : (p : ℕ) (v : List ℕ) → p < place_count → May (records_held s t new) p v → May (records_held s t old) p v ⊎ ((p ≡ k) × (reading v ≡ Taken r))
