-- A script is cut into lines, and a line spells a command or none (this project's format). A line ends with a newline
-- byte or with the end of the script. Its words are separated by exactly one space, with none at the ends: two spaces
-- in a row make an empty word, and no command has one. Numbers are decimal, UUIDs have 36 characters, bytes are given
-- as hexadecimal digits of either case.
use Rattle.std.specs.Prelude.{ℕ, ◌^◌, ◌%◌, ◌+◌, ◌*◌, ◌==◌, ◌&&◌, ◌||◌, not, nat_le, nat_lt, Bool, true, false, List, [], ◌∷◌, length, codes, Option, Some, None, if◌then◌else◌, slice_index}
use Rattle.std.specs.List.{list_all}
use Rattle.std.specs.Char.{is_ascii_digit}
use Rattle.std.specs.Str.{bytes_eq}
use Rattle.std.specs.Str.Parse.{digits_value}
use Rattle.uuid.specs.Text.{parsed, hex_digit_value}
use Rattle.common_laws.specs.Lists.{◌>>=◌}
use Rattle.sm_base.specs.Labels.{is_label}
use Rattle.sm_base.specs.declared.operations.Mode.{Mode}
use Rattle.sm_base.specs.declared.operations.Mode.TheVariants.{Ro, Rw}
use Rattle.sm_machine.specs.declared.commands.Command.{Command}
use Rattle.sm_machine.specs.declared.commands.Command.TheVariants.{Create, Delete, Attach, Detach, Snapshot, Clone, Resize, Label, Write, Fill, Read, Flush, Gc, List as Listing, Stat, Track, Changed}

-- a byte in front of the lines that follow it: a newline ends an empty line, another byte begins the first line
abbrev pub onto : Bool → ℕ → List (List ℕ) → List (List ℕ)
onto true b lines = [] ∷ lines
onto false b [] = (b ∷ []) ∷ []
onto false b (line ∷ lines) = (b ∷ line) ∷ lines

-- the lines of a script, without their newlines (0a hex). An end after a newline, or at the beginning, ends no line
unfoldable pub lines : List ℕ → List (List ℕ)
lines [] = []
lines (b ∷ bytes) = onto (b == 10) b (lines bytes)

-- a byte in front of the words that follow it: a space ends an empty word, another byte begins the first word
abbrev pub before : Bool → ℕ → List (List ℕ) → List (List ℕ)
before true b words = [] ∷ words
before false b [] = (b ∷ []) ∷ []
before false b (word ∷ words) = (b ∷ word) ∷ words

-- the words of a line: what stands before, between and after its spaces (20 hex)
unfoldable pub words : List ℕ → List (List ℕ)
words [] = [] ∷ []
words (b ∷ bytes) = before (b == 32) b (words bytes)

-- decimal digits, at least one, and no 0 before another digit
abbrev pub is_number : List ℕ → Bool
is_number word = nat_le 1 (length word) && list_all is_ascii_digit word && ((length word == 1) || not (slice_index word 0 == 48))

-- a number up to 2^64 - 1
unfoldable pub number_of : List ℕ → Option ℕ
number_of word = if is_number word && nat_lt (digits_value 10 word) (2 ^ 64) then Some (digits_value 10 word) else None

-- a UUID of 36 characters, 8-4-4-4-12 hexadecimal digits of either case
unfoldable pub uuid_of : List ℕ → Option (List ℕ)
uuid_of word = if length word == 36 then parsed word else None

-- a label
unfoldable pub label_of : List ℕ → Option (List ℕ)
label_of word = if is_label word then Some word else None

-- the bytes that pairs of hexadecimal digits spell
unfoldable pub hex_bytes : List ℕ → Option (List ℕ)
hex_bytes [] = Some []
hex_bytes (digit ∷ []) = None
hex_bytes (high ∷ low ∷ digits) = do
  h ← hex_digit_value high
  l ← hex_digit_value low
  bytes ← hex_bytes digits
  Some ((h * 16 + l) ∷ bytes)

-- the bytes of whole sectors, at least one: 1,024 digits for each
unfoldable pub sectors_of : List ℕ → Option (List ℕ)
sectors_of word = if nat_le 1024 (length word) && (length word % 1024 == 0) then hex_bytes word else None

-- one byte, of two digits
unfoldable pub byte_of : List ℕ → Option ℕ
byte_of (high ∷ low ∷ []) = do
  h ← hex_digit_value high
  l ← hex_digit_value low
  Some (h * 16 + l)
byte_of _ = None

-- whether a disk is to be raw
unfoldable pub is_raw_of : List ℕ → Option Bool
is_raw_of word = if bytes_eq word (codes "vhd") then Some false else if bytes_eq word (codes "raw") then Some true else None

-- how a disk is to be attached
unfoldable pub mode_of : List ℕ → Option Mode
mode_of word = if bytes_eq word (codes "ro") then Some Ro else if bytes_eq word (codes "rw") then Some Rw else None

-- what stands after the word `create`: UUID, size in bytes, kind, label
unfoldable pub after_create : List (List ℕ) → Option Command
after_create (disk ∷ size ∷ kind ∷ text ∷ []) = do
  u ← uuid_of disk
  n ← number_of size
  raw ← is_raw_of kind
  label ← label_of text
  Some (Create u n raw label)
after_create _ = None

-- one disk alone
unfoldable pub after_disk : (List ℕ → Command) → List (List ℕ) → Option Command
after_disk command (disk ∷ []) = do
  u ← uuid_of disk
  Some (command u)
after_disk command _ = None

-- a disk and another UUID
unfoldable pub after_twin : (List ℕ → List ℕ → Command) → List (List ℕ) → Option Command
after_twin command (disk ∷ twin ∷ []) = do
  u ← uuid_of disk
  n ← uuid_of twin
  Some (command u n)
after_twin command _ = None

-- after `attach`: a disk and a mode
unfoldable pub after_attach : List (List ℕ) → Option Command
after_attach (disk ∷ mode ∷ []) = do
  u ← uuid_of disk
  m ← mode_of mode
  Some (Attach u m)
after_attach _ = None

-- after `resize`: a disk and a size in bytes
unfoldable pub after_resize : List (List ℕ) → Option Command
after_resize (disk ∷ size ∷ []) = do
  u ← uuid_of disk
  n ← number_of size
  Some (Resize u n)
after_resize _ = None

-- after `label`: a disk and a label
unfoldable pub after_label : List (List ℕ) → Option Command
after_label (disk ∷ text ∷ []) = do
  u ← uuid_of disk
  label ← label_of text
  Some (Label u label)
after_label _ = None

-- after `write`: a disk, a sector, and the bytes of whole sectors
unfoldable pub after_write : List (List ℕ) → Option Command
after_write (disk ∷ sector ∷ digits ∷ []) = do
  u ← uuid_of disk
  s ← number_of sector
  bytes ← sectors_of digits
  Some (Write u s bytes)
after_write _ = None

-- after `fill`: a disk, a sector, a number of sectors, and a byte
unfoldable pub after_fill : List (List ℕ) → Option Command
after_fill (disk ∷ sector ∷ count ∷ digits ∷ []) = do
  u ← uuid_of disk
  s ← number_of sector
  n ← number_of count
  byte ← byte_of digits
  Some (Fill u s n byte)
after_fill _ = None

-- after `read`: a disk, a sector, and a number of sectors
unfoldable pub after_read : List (List ℕ) → Option Command
after_read (disk ∷ sector ∷ count ∷ []) = do
  u ← uuid_of disk
  s ← number_of sector
  n ← number_of count
  Some (Read u s n)
after_read _ = None

-- whether tracking is to begin or to end
unfoldable pub is_on_of : List ℕ → Option Bool
is_on_of word = if bytes_eq word (codes "on") then Some true else if bytes_eq word (codes "off") then Some false else None

-- after `cbt`: a disk, and whether it is to be tracked
unfoldable pub after_cbt : List (List ℕ) → Option Command
after_cbt (disk ∷ word ∷ []) = do
  u ← uuid_of disk
  on ← is_on_of word
  Some (Track u on)
after_cbt _ = None

-- a word that stands alone
unfoldable pub alone : Command → List (List ℕ) → Option Command
alone command [] = Some command
alone command _ = None

-- the command of a line's words: the first word says which, the others are its parts
unfoldable pub spelled_words : List (List ℕ) → Option Command
spelled_words [] = None
spelled_words (verb ∷ rest) =
    if bytes_eq verb (codes "create") then after_create rest
    else if bytes_eq verb (codes "delete") then after_disk Delete rest
    else if bytes_eq verb (codes "attach") then after_attach rest
    else if bytes_eq verb (codes "detach") then after_disk Detach rest
    else if bytes_eq verb (codes "snapshot") then after_twin Snapshot rest
    else if bytes_eq verb (codes "clone") then after_twin Clone rest
    else if bytes_eq verb (codes "resize") then after_resize rest
    else if bytes_eq verb (codes "label") then after_label rest
    else if bytes_eq verb (codes "write") then after_write rest
    else if bytes_eq verb (codes "fill") then after_fill rest
    else if bytes_eq verb (codes "read") then after_read rest
    else if bytes_eq verb (codes "flush") then after_disk Flush rest
    else if bytes_eq verb (codes "gc") then alone Gc rest
    else if bytes_eq verb (codes "list") then alone Listing rest
    else if bytes_eq verb (codes "stat") then alone Stat rest
    else if bytes_eq verb (codes "cbt") then after_cbt rest
    else if bytes_eq verb (codes "changed") then after_twin Changed rest
    else None

-- the most bytes that a line may have, without its newline
abbrev pub line_limit : ℕ
line_limit = 65536

-- the command that a line spells, if it spells one. A longer line spells none
unfoldable pub spelled : List ℕ → Option Command
spelled line = if nat_le (length line) line_limit then spelled_words (words line) else None
