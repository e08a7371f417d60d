-- What the program did where it was told to format a device, by its status (this project's format).
use Rattle.std.specs.Prelude.{◌≡◌, ℕ, ◌+◌, ◌*◌, ◌<◌, List, [], Option}
use Rattle.sm_base.specs.Numbers.{IsGeometry}
use Rattle.sm_base.specs.declared.sizes.Geometry.{Geometry}
use Rattle.sm_disk.specs.Held.{Held, Allows, IsSettled, Keeps, Rose}
use Rattle.sm_disk.specs.Streams.{Adds, AddsFront}
use Rattle.vg_layout.specs.Places.{new_extents, record_extents}
use Rattle.vg_store.specs.Formats.{IsFormatted, IsLeftByFormat, beside_new, least_size}
use Rattle.lvhd_command.specs.declared.words.Request.{Request}
use Rattle.lvhd_command.specs.declared.statuses.Status.{Status}
use Rattle.lvhd_command.specs.declared.statuses.Status.TheVariants.{Done, Words, Device, Source, Sink, Refused, Memory, TooLong, Denied}
use Rattle.lvhd_command.specs.Texts.{line_of, bad_geometry_words, too_small_words, formatted_words}

-- what was asked for: sizes in bytes, a number of entries, and the repository
pub record Asked : Type 0 where
  pub extent : ℕ
  pub block : ℕ
  pub entries : ℕ
  pub repository : List ℕ

-- the sizes and the UUID that a request asks for
abbrev pub asked : Request → Asked
asked r = record { extent = r.extent; block = r.block; entries = r.entries; repository = r.repository }

-- the sizes are those of this geometry
pub record HasSizes (a : Asked) (g : Geometry) : Type 0 where
  pub extent : g.extent * 512 ≡ a.extent
  pub block : g.block * 512 ≡ a.block
  pub entries : g.entries ≡ a.entries

-- the sizes are out of their ranges
abbrev pub IsBadGeometry : Asked → Type 0
IsBadGeometry a = (e b : ℕ) → e * 512 ≡ a.extent → b * 512 ≡ a.block → ¬ IsGeometry e b a.entries

-- what stood before and after: the device's size and what it holds, whether it is the same device as before, and its count
-- of faults; what the sink held, and its count of faults
pub record Sides : Type 1 where
  pub size : ℕ
  pub told : Type 0
  pub old : Held
  pub new : Held
  pub Unchanged : Type 0
  pub faults : ℕ
  pub faults_now : ℕ
  pub had : Option (List ℕ)
  pub got : Option (List ℕ)
  pub sink_faults : ℕ
  pub sink_faults_now : ℕ

-- the sides of a format: what tells a device's size, whether its content is told, what it holds and how many of its calls
-- failed, what a sink holds and how many of its calls failed; then the device and the sink, each before and after
abbrev pub format_sides : {D K : Type 0} → (D → ℕ) → Type 0 → (D → Held) → (D → ℕ) → (K → Option (List ℕ)) → (K → ℕ) → D → D → K → K → Sides
format_sides size told held faults got sink_faults disk disk' sink sink' = record {
  size = size disk;
  told = told;
  old = held disk;
  new = held disk';
  Unchanged = disk' ≡ disk;
  faults = faults disk;
  faults_now = faults disk';
  had = got sink;
  got = got sink';
  sink_faults = sink_faults sink;
  sink_faults_now = sink_faults sink';
}

-- no repository can be made: the sizes are out of their ranges, or the device is too small for them
pub data CannotFormat (size : ℕ) (a : Asked) : Type 0 where
  bad_sizes : IsBadGeometry a → CannotFormat size a
  too_small : (g : Geometry) → HasSizes a g → size < least_size g.extent → CannotFormat size a

-- of each place that is no part of a repository of these sizes a read gives the same, and a stop leaves nothing new
abbrev pub KeepsBesideNew : ℕ → Asked → Held → Held → Type 0
KeepsBesideNew size a old new = (g : Geometry) → HasSizes a g
    → Keeps (beside_new size g.extent old) (beside_new size g.extent new)

-- a new repository stands, and nothing is pending
pub record HasFormatted (s : Sides) (a : Asked) (g : Geometry) : Type 0 where
  pub sizes : HasSizes a g
  pub large : (s.size < least_size g.extent) → ⊥
  pub stands : s.told → IsFormatted s.size s.new.floor g a.repository
  pub settled : s.told → IsSettled s.new

-- the line that says so, with the number of extents and how many of them are free
pub record IsFormattedLine (s : Sides) (g : Geometry) (line : List ℕ) : Type 0 where
  pub free : ℕ
  pub rest : free + record_extents g.extent ≡ new_extents s.size g.extent
  pub text : line ≡ line_of (formatted_words (new_extents s.size g.extent) free)

-- the line of a refusal: bad sizes before a device that is too small
pub data IsRefusalLine (s : Sides) (a : Asked) : List ℕ → Type 0 where
  by_sizes : IsBadGeometry a → IsRefusalLine s a (line_of bad_geometry_words)
  by_size : (g : Geometry) → HasSizes a g → s.size < least_size g.extent → IsRefusalLine s a (line_of (too_small_words (least_size g.extent)))

-- at a fault of the device a stop leaves what it might have left before, or no repository, or the new one
pub record HasFailed (s : Sides) (a : Asked) : Type 0 where
  pub geometry : Geometry
  pub sizes : HasSizes a geometry
  pub large : (s.size < least_size geometry.extent) → ⊥
  pub rose : Rose s.faults s.faults_now
  pub nothing : Adds s.had [] s.got
  pub crash : s.told → (image : ℕ → List ℕ) → Allows s.size s.new image → IsLeftByFormat s.size s.old geometry a.repository image

-- at a fault of the sink the line was a front of what was to be said: the refusal, with nothing written, or the new
-- repository's
pub data IsCutLine (s : Sides) (a : Asked) (line : List ℕ) : Type 0 where
  of_refusal : s.Unchanged → IsRefusalLine s a line → IsCutLine s a line
  of_success : (g : Geometry) → HasFormatted s a g → IsFormattedLine s g line → IsCutLine s a line

-- what a format did to the device and to the sink, by its status
abbrev pub FormatDid : Sides → Asked → Status → Type 0
FormatDid s a Done = (g : Geometry) × HasFormatted s a g × ((line : List ℕ) × IsFormattedLine s g line × Adds s.had line s.got)
FormatDid s a Refused = s.Unchanged × ((line : List ℕ) × IsRefusalLine s a line × Adds s.had line s.got)
FormatDid s a Device = HasFailed s a
FormatDid s a Sink = Rose s.sink_faults s.sink_faults_now × ((line : List ℕ) × IsCutLine s a line × AddsFront s.had line s.got)
FormatDid s a Memory = s.Unchanged × Adds s.had [] s.got
FormatDid s a Words = ⊥
FormatDid s a Source = ⊥
FormatDid s a TooLong = ⊥
FormatDid s a Denied = ⊥
