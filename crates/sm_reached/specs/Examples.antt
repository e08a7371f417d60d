-- Two snapshots of a tracked disk of two pieces, of which the second piece was written to in between.
use Rattle.std.specs.Prelude.{ℕ, List, [], ◌∷◌, codes, replicate}
use Rattle.sm_machine.specs.declared.commands.Command.{Command}
use Rattle.sm_machine.specs.declared.commands.Command.TheVariants.{Fill}
use Rattle.sm_machine.specs.Runs.{Turn, ample}
use Rattle.sm_machine.specs.Shapes.{new_shape}
use Rattle.sm_machine.specs.Steps.{State}

-- the disk
abbrev pub disk : List ℕ
disk = 17 ∷ 17 ∷ 17 ∷ 17 ∷ 17 ∷ 17 ∷ 65 ∷ 17 ∷ 129 ∷ replicate 7 17

-- the first snapshot of the disk
abbrev pub first : List ℕ
first = 34 ∷ 34 ∷ 34 ∷ 34 ∷ 34 ∷ 34 ∷ 66 ∷ 34 ∷ 130 ∷ replicate 7 34

-- the second snapshot of the disk
abbrev pub second : List ℕ
second = 51 ∷ 51 ∷ 51 ∷ 51 ∷ 51 ∷ 51 ∷ 67 ∷ 51 ∷ 131 ∷ replicate 7 51

-- a new repository of 64 extents of 16 KiB, of which the volume of records has 16
abbrev pub new : State
new = record { disks = []; shape = new_shape 32 8 64 64 16 }

-- the disk is made and tracked, and a snapshot is taken; one line is refused, the second piece is filled, and a snapshot is taken again
abbrev pub turns : List Turn
turns = ample (
    codes "create 11111111-1111-4111-8111-111111111111 131072 vhd x" ∷
    codes "cbt 11111111-1111-4111-8111-111111111111 on" ∷
    codes "attach 11111111-1111-4111-8111-111111111111 rw" ∷
    codes "snapshot 11111111-1111-4111-8111-111111111111 22222222-2222-4222-8222-222222222222" ∷
    codes "fill 11111111-1111-4111-8111-111111111111 0 257 aa" ∷
    codes "fill 11111111-1111-4111-8111-111111111111 128 1 aa" ∷
    codes "snapshot 11111111-1111-4111-8111-111111111111 33333333-3333-4333-8333-333333333333" ∷
    [])

-- what was accepted between the two
abbrev pub between : List Command
between = Fill disk 128 1 170 ∷ []
