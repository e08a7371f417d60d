-- The lines of a trial, which a linear congruential generator draws from a number (this project's format). A draw stirs
-- the generator's state first, and then gives its upper bits below a bound.
use Rattle.std.specs.Prelude.{ℕ, zero, suc, ◌+◌, ◌*◌, ◌/◌, ◌%◌, ◌^◌, ◌==◌, ◌||◌, List, [], ◌∷◌, ◌++◌, codes, if◌then◌else◌}
use Rattle.std.specs.Fmt.{decimal}
use Rattle.sm_base.specs.Names.{uuid_text}
use Rattle.sm_machine.specs.Replies.{hex_text}
use Rattle.sm_script.specs.Pieces.{led}

-- the next state
unfoldable pub stirred : ℕ → ℕ
stirred x = (x * 6364136223846793005 + 1442695040888963407) % 2 ^ 64

-- what a state gives below a bound: its upper 31 bits, reduced
unfoldable pub drawn : ℕ → ℕ → ℕ
drawn below x = (x / 2 ^ 33) % below

-- the disk of a number below 100: its two decimal digits are the last of its UUID
unfoldable pub disk_numbered : ℕ → List ℕ
disk_numbered i = 0 ∷ 0 ∷ 0 ∷ 0 ∷ 0 ∷ 0 ∷ 64 ∷ 0 ∷ 128 ∷ 0 ∷ 0 ∷ 0 ∷ 0 ∷ 0 ∷ 0 ∷ (16 * (i / 10) + i % 10) ∷ []

-- the word that a state gives for a disk: the UUID of one of twelve
abbrev pub disk_word : ℕ → List ℕ
disk_word x = uuid_text (disk_numbered (drawn 12 x))

-- the word that a state gives for a size in bytes: one to 64 times 4,096
abbrev pub size_word : ℕ → List ℕ
size_word x = decimal (4096 * (1 + drawn 64 x))

-- the word that a state gives for a sector: one of the first 512
abbrev pub sector_word : ℕ → List ℕ
sector_word x = decimal (drawn 512 x)

-- the word that a state gives for a number of sectors: from one to the most that is asked for
abbrev pub count_word : ℕ → ℕ → List ℕ
count_word most x = decimal (1 + drawn most x)

-- the word that a state gives for a byte: two hexadecimal digits
abbrev pub byte_word : ℕ → List ℕ
byte_word x = hex_text (drawn 256 x ∷ [])

-- the words of a line that is drawn from the state x, and the state behind it
pub record Drawn : Type 0 where
  pub verb : List ℕ
  pub rest : List (List ℕ)
  pub next : ℕ

-- by the kind of the line, where u is the state behind the draws of kind and disk
unfoldable pub drawn_line : ℕ → ℕ → Drawn
drawn_line kind u =
    if kind == 0 then record { verb = codes "create"; rest = disk_word u ∷ size_word (stirred u) ∷ codes "vhd" ∷ codes "t" ∷ []; next = stirred u }
    else if kind == 1 then record { verb = codes "snapshot"; rest = disk_word u ∷ disk_word (stirred u) ∷ []; next = stirred u }
    else if kind == 2 then record { verb = codes "clone"; rest = disk_word u ∷ disk_word (stirred u) ∷ []; next = stirred u }
    else if kind == 3 then record { verb = codes "delete"; rest = disk_word u ∷ []; next = u }
    else if kind == 4 then record { verb = codes "attach"; rest = disk_word u ∷ codes "rw" ∷ []; next = u }
    else if kind == 5 then record { verb = codes "attach"; rest = disk_word u ∷ codes "ro" ∷ []; next = u }
    else if kind == 6 then record { verb = codes "detach"; rest = disk_word u ∷ []; next = u }
    else if kind == 7 then record { verb = codes "resize"; rest = disk_word u ∷ size_word (stirred u) ∷ []; next = stirred u }
    else if (kind == 8) || (kind == 9) || (kind == 10) then record {
      verb = codes "fill";
      rest = disk_word u ∷ sector_word (stirred u) ∷ count_word 16 (stirred (stirred u)) ∷ byte_word (stirred (stirred (stirred u))) ∷ [];
      next = stirred (stirred (stirred u));
    }
    else if kind == 11 then record {
      verb = codes "read";
      rest = disk_word u ∷ sector_word (stirred u) ∷ count_word 4 (stirred (stirred u)) ∷ [];
      next = stirred (stirred u);
    }
    else if kind == 12 then record { verb = codes "flush"; rest = disk_word u ∷ []; next = u }
    else record { verb = codes "gc"; rest = []; next = u }

-- the line of one of 16 kinds that is drawn from a state
abbrev pub drawn_from : ℕ → Drawn
drawn_from x = drawn_line (drawn 16 (stirred x)) (stirred (stirred x))

-- the text of the line that is drawn from a state: its words, with one space between two
abbrev pub line_drawn : ℕ → List ℕ
line_drawn x = (drawn_from x).verb ++ led 32 (drawn_from x).rest

-- the state behind the line that is drawn from a state
abbrev pub state_drawn : ℕ → ℕ
state_drawn x = (drawn_from x).next

-- so many lines from a state on
unfoldable pub lines_drawn : ℕ → ℕ → List (List ℕ)
lines_drawn zero x = []
lines_drawn (suc count) x = line_drawn x ∷ lines_drawn count (state_drawn x)

-- how many lines a trial has
abbrev pub trial_count : ℕ
trial_count = 20000

-- the lines of the trial of a number
abbrev pub trial_lines : ℕ → List (List ℕ)
trial_lines n = lines_drawn trial_count n
