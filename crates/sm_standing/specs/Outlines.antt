-- What the checks of an opening look at (this project's format): the sizes, the table, of each image its size and its
-- parent, and what each record sector reads as. What a guest wrote, and where an image's blocks stand, is no part of it.
use Rattle.std.specs.Prelude.{◌≡◌, ℕ, ◌<◌, nat_lt, true, false, List, Option, Some, None, if◌then◌else◌}
use Rattle.std.specs.List.{filter_map}
use Rattle.sm_base.specs.declared.names.Name.{Name}
use Rattle.sm_base.specs.declared.names.Name.TheVariants.{Raw}
use Rattle.vg_meta.specs.Tables.{VolumeTable}
use Rattle.common_laws.specs.Lists.{numbers, ◌>>=◌}
use Rattle.sm_machine.specs.WellFormed.{is_image_name}
use Rattle.sm_record.specs.declared.records.Record.{Record}
use Rattle.sm_record.specs.declared.records.Reading.{Reading}
use Rattle.sm_record.specs.declared.records.Reading.TheVariants.{Free}
use Rattle.sm_standing.specs.Contents as content
use Rattle.sm_standing.specs.Contents.{Content, record_count, taken}
use Rattle.sm_standing.specs.Entries.{is_there}
use Rattle.sm_standing.specs.Images.{Image, image_of}

-- an image's size in sectors, and its parent
pub record Link : Type 0 where
  pub size : ℕ
  pub parent : Option Name

-- what the checks look at; extent and block are in sectors, entries is the number of entries of each block allocation table
pub record Outline : Type 0 where
  pub extent : ℕ
  pub block : ℕ
  pub entries : ℕ
  pub table : VolumeTable
  pub links : Name → Option Link
  pub readings : ℕ → Reading

-- the parent that the image of a name has
abbrev pub parent_in : Outline → Name → Option Name
parent_in o n = o.links n >>= (λ i. i.parent)

-- each image has the name of a VHD or a raw image, and stands in a volume; that of a raw image has no parent
pub record HasImages (o : Outline) : Type 0 where
  pub named : (n : Name) → is_image_name n ≡ false → o.links n ≡ None
  pub there : (n : Name) (i : Link) → o.links n ≡ Some i → is_there o.table n ≡ true
  pub alone : (u : List ℕ) (i : Link) → o.links (Raw u) ≡ Some i → i.parent ≡ None

-- what the checks look at in an image
abbrev pub link_of : Option Image → Option Link
link_of None = None
link_of (Some i) = Some (record { size = i.size; parent = i.parent })

-- a sector behind the records counts for nothing
abbrev pub reading_in : Content → ℕ → Reading
reading_in c k = if nat_lt k record_count then content.reading_at c k else Free

-- what the checks look at in a content
abbrev pub outline : Content → Outline
outline c = record {
  extent = c.extent;
  block = c.block;
  entries = c.entries;
  table = c.table;
  links = λ n. link_of (image_of c n);
  readings = reading_in c;
}

-- the records, in order of place
unfoldable pub outline_records : Outline → List Record
outline_records o = filter_map (λ k. taken (o.readings k)) (numbers 0 record_count)

-- b shows of itself what a does: the same sizes and table, of each image the same size and parent, and each record sector
-- reads the same
pub record IsOutlinedAlike (a b : Content) : Type 0 where
  pub extent : b.extent ≡ a.extent
  pub block : b.block ≡ a.block
  pub entries : b.entries ≡ a.entries
  pub table : b.table ≡ a.table
  pub links : (n : Name) → link_of (image_of b n) ≡ link_of (image_of a n)
  pub readings : (k : ℕ) → k < record_count → content.reading_at b k ≡ content.reading_at a k
