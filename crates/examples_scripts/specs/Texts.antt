-- A whole script as a text, with the text of its replies; lines that find no memory; and how many states a stop may show.
use Rattle.std.specs.Prelude.{ℕ, Bool, true, false, List, [], ◌∷◌, ◌++◌, codes, replicate, length}
use Rattle.sm_machine.specs.Lines.{lines}
use Rattle.sm_machine.specs.Runs.{Turn, ample, replies, trail_of}
use Rattle.examples_scripts.specs.Scripts.{new}

-- the replies to a script, each line of which finds memory
abbrev pub answered : List ℕ → List ℕ
answered script = replies new (ample (lines script))

-- two lists, an empty line and a line of 70,000 letters between them, and no newline at the end
abbrev pub long_line : List ℕ
long_line = codes "list\n\n" ++ (replicate 70000 120 ++ codes "\nlist")

abbrev pub turn : List ℕ → Bool → Turn
turn line poor = record { line = line; poor = poor }

-- a disk is made at the second try, since the first finds no memory
abbrev pub poor_once : List Turn
poor_once =
    turn (codes "create 22222222-2222-4222-8222-222222222222 1 raw y") true ∷
    turn (codes "list") false ∷
    turn (codes "create 22222222-2222-4222-8222-222222222222 1 raw y") false ∷
    turn (codes "list") false ∷
    []

-- the number of states that a sector may be from after a script
abbrev pub states_after : List ℕ → ℕ
states_after script = length (trail_of new (ample (lines script)))
