-- The record sectors of one content beside those of another.
use Rattle.std.specs.Prelude.{◌≡◌, ◌≢◌, ℕ, ◌<◌}
use Rattle.sm_record.specs.declared.records.Record.{Record}
use Rattle.sm_record.specs.declared.records.Reading.TheVariants.{Free, Taken}
use Rattle.sm_standing.specs.Contents.{Content, reading_at, record_count}

-- each record sector reads as it did
abbrev pub SameReadings : Content → Content → Type 0
SameReadings a b = (k : ℕ) → k < record_count → reading_at b k ≡ reading_at a k

-- or one of them, which was free, has this record
pub record OneReading (a b : Content) (place : ℕ) (entry : Record) : Type 0 where
  pub within : place < record_count
  pub free : reading_at a place ≡ Free
  pub taken : reading_at b place ≡ Taken entry
  pub others : (k : ℕ) → k < record_count → k ≢ place → reading_at b k ≡ reading_at a k
