-- When a repository in which nothing is under way is sound, fact by fact; and one in which an image is being enlarged, or a disk
-- is being forked; and one in which an image is being folded into its parent besides.
use Rattle.std.specs.Prelude.{◌≡◌, ℕ, ◌<◌, ◌≤◌, Bool, true, false, List, length, Some, None}
use Rattle.std.specs.List.{AllByRecursion, filter}
use Rattle.sm_base.specs.declared.names.Name.{Name}
use Rattle.sm_base.specs.declared.names.Name.TheVariants.{Mgt}
use Rattle.vg_layout.specs.Places.{record_extents}
use Rattle.vg_meta.specs.Tables.{Row, rows}
use Rattle.common_laws.specs.Lists.{In}
use Rattle.sm_machine.specs.Shapes.{image_limit}
use Rattle.sm_standing.specs.Plain.{is_known_name, is_plain_name, is_simple_name}
use Rattle.sm_standing.specs.Contents.{Content, row, reading_at, record_count, records, is_record_of}
use Rattle.sm_standing.specs.Checks.{images, is_misnamed, is_lost, is_orphaned, is_invalid, is_tree_wrong, is_entry_linked, is_damaged}
use Rattle.sm_standing.specs.Entries.{folding, making, second}
use Rattle.sm_standing.specs.Outlines.{Outline, outline, outline_records}
use Rattle.sm_standing.specs.Standing.{standing_volume}

-- All checks of an opening pass, fact by fact, and the name of each volume passes a test, which no old leaf passes: so that none is left
-- without its entry is not asked.
pub record SoundBy (test : Name → Bool) (c : Content) : Type 0 where
  pub only : AllByRecursion (λ r. test r.name ≡ true) c.table.volumes
  pub records_row : Row
  pub records_there : row c Mgt ≡ Some records_row
  pub records_extents : length records_row.extents ≡ record_extents c.extent
  pub few_images : length (images c.table) ≤ image_limit
  pub named : (r : Row) → In r c.table.volumes → is_misnamed c.table r ≡ false
  pub one_folding : second (folding c.table) ≡ None
  pub one_entry : second (making c.table) ≡ None
  pub at_stage : (r : Row) → In r c.table.volumes → is_lost c.table r ≡ false
  pub valid : (r : Row) → In r c.table.volumes → is_invalid (outline c) r ≡ false
  pub placed : (r : Row) → In r c.table.volumes → is_tree_wrong (outline c) r ≡ false
  pub linked : (r : Row) → In r c.table.volumes → is_entry_linked (outline c) r.name ≡ true
  pub right : (k : ℕ) → k < record_count → is_damaged (reading_at c k) ≡ false
  pub recorded : (u : List ℕ) (n : Name) → standing_volume c.table u ≡ Some n → length (filter (is_record_of u) (records c)) ≡ 1

-- all checks of an opening pass where nothing is under way
abbrev pub PlainSound : Content → Type 0
PlainSound c = SoundBy is_plain_name c

-- all checks of an opening pass where no more is under way than a fork or an enlargement
abbrev pub SimpleSound : Content → Type 0
SimpleSound c = SoundBy is_simple_name c

-- all checks of an opening pass where no leaf is being folded
abbrev pub KnownSound : Content → Type 0
KnownSound c = SoundBy is_known_name c

-- every outline on which no check fails, fact by fact
pub record AllSound (o : Outline) : Type 0 where
  pub records_row : Row
  pub records_there : rows o.table Mgt ≡ Some records_row
  pub records_extents : length records_row.extents ≡ record_extents o.extent
  pub few_images : length (images o.table) ≤ image_limit
  pub named : (r : Row) → In r o.table.volumes → is_misnamed o.table r ≡ false
  pub one_folding : second (folding o.table) ≡ None
  pub one_entry : second (making o.table) ≡ None
  pub at_stage : (r : Row) → In r o.table.volumes → is_lost o.table r ≡ false
  pub owned : (r : Row) → In r o.table.volumes → is_orphaned o.table r.name ≡ false
  pub valid : (r : Row) → In r o.table.volumes → is_invalid o r ≡ false
  pub placed : (r : Row) → In r o.table.volumes → is_tree_wrong o r ≡ false
  pub linked : (r : Row) → In r o.table.volumes → is_entry_linked o r.name ≡ true
  pub right : (k : ℕ) → k < record_count → is_damaged (o.readings k) ≡ false
  pub recorded : (u : List ℕ) (n : Name) → standing_volume o.table u ≡ Some n → length (filter (is_record_of u) (outline_records o)) ≡ 1
