-- A disk of two pieces is tracked: its second piece is written to between two snapshots of it, and that is told.
use Rattle.std.specs.Prelude.{ℕ, List, [], ◌∷◌, ◌++◌, Bool, false, true, codes, replicate}
use Rattle.sm_log.specs.Logs.{Log}
use Rattle.sm_machine.specs.Steps.{State}
use Rattle.examples_scripts.specs.Scripts.{Script, line, new, after}

-- the UUIDs of a disk and of its two snapshots
abbrev pub tracked_disk : List ℕ
tracked_disk = 17 ∷ 17 ∷ 17 ∷ 17 ∷ 17 ∷ 17 ∷ 65 ∷ 17 ∷ 129 ∷ replicate 7 17

abbrev pub earlier : List ℕ
earlier = 34 ∷ 34 ∷ 34 ∷ 34 ∷ 34 ∷ 34 ∷ 66 ∷ 34 ∷ 130 ∷ replicate 7 34

abbrev pub later : List ℕ
later = 51 ∷ 51 ∷ 51 ∷ 51 ∷ 51 ∷ 51 ∷ 67 ∷ 51 ∷ 131 ∷ replicate 7 51

-- the disk is made, and tracking of it begins
abbrev pub made : Script
made =
    line (codes "create 11111111-1111-4111-8111-111111111111 131072 vhd x") (codes "ok 131072") ∷
    line (codes "cbt 11111111-1111-4111-8111-111111111111 off") (codes "no NotTracked") ∷
    line (codes "cbt 11111111-1111-4111-8111-111111111111 on") (codes "ok") ∷
    []

abbrev pub started : State
started = after new made

-- two snapshots, and between them a write to the second piece
abbrev pub until_written : Script
until_written =
    line (codes "attach 11111111-1111-4111-8111-111111111111 rw") (codes "ok") ∷
    line (codes "snapshot 11111111-1111-4111-8111-111111111111 22222222-2222-4222-8222-222222222222") (codes "ok") ∷
    line (codes "fill 11111111-1111-4111-8111-111111111111 128 1 aa") (codes "ok") ∷
    []

abbrev pub until_later : Script
until_later =
    until_written
    ++ line (codes "snapshot 11111111-1111-4111-8111-111111111111 33333333-3333-4333-8333-333333333333") (codes "ok")
    ∷ line (codes "stat") (codes "ok seq 28 free 13 op none images 5 VHD-11111111-1111-4111-8111-111111111111,v,VHD-6c766864-0000-8000-8000-000000000012,131072,0,10,1 VHD-22222222-2222-4222-8222-222222222222,v,VHD-6c766864-0000-8000-8000-000000000008,131072,0,1,0 VHD-33333333-3333-4333-8333-333333333333,v,VHD-6c766864-0000-8000-8000-000000000012,131072,0,1,0 VHD-6c766864-0000-8000-8000-000000000008,h,-,131072,0,10,1 VHD-6c766864-0000-8000-8000-000000000012,h,VHD-6c766864-0000-8000-8000-000000000008,131072,1,10,1")
    ∷ []

-- eleven extents are free: those of the two images, but not of the snapshot's log
abbrev pub no_log_room : Script
no_log_room =
    line (codes "attach 11111111-1111-4111-8111-111111111111 rw") (codes "ok") ∷
    line (codes "create 44444444-4444-4444-8444-444444444444 262144 raw x") (codes "ok 262144") ∷
    line (codes "create 55555555-5555-4555-8555-555555555555 163840 raw x") (codes "ok 163840") ∷
    line (codes "snapshot 11111111-1111-4111-8111-111111111111 22222222-2222-4222-8222-222222222222") (codes "no NoSpace need 12 free 11") ∷
    []

-- what changed is told where the logs lead back; a tracked disk gets no other size, and tracking of a snapshot does not begin
abbrev pub asked : Script
asked =
    line (codes "changed 22222222-2222-4222-8222-222222222222 33333333-3333-4333-8333-333333333333") (codes "ok QA==") ∷
    line (codes "changed 33333333-3333-4333-8333-333333333333 33333333-3333-4333-8333-333333333333") (codes "ok AA==") ∷
    line (codes "changed 33333333-3333-4333-8333-333333333333 11111111-1111-4111-8111-111111111111") (codes "ok AA==") ∷
    line (codes "changed 33333333-3333-4333-8333-333333333333 22222222-2222-4222-8222-222222222222") (codes "no NotTracked") ∷
    line (codes "changed  33333333-3333-4333-8333-333333333333 22222222-2222-4222-8222-222222222222") (codes "no BadLine") ∷
    line (codes "resize 11111111-1111-4111-8111-111111111111 262144") (codes "no Tracked") ∷
    line (codes "cbt 11111111-1111-4111-8111-111111111111 on") (codes "no Tracked") ∷
    line (codes "cbt 22222222-2222-4222-8222-222222222222 on") (codes "no ReadOnly") ∷
    line (codes "cbt 11111111-1111-4111-8111-111111111111 On") (codes "no BadLine") ∷
    []

-- then the first snapshot is deleted
abbrev pub until_deleted : Script
until_deleted = until_later ++ asked ++ line (codes "delete 22222222-2222-4222-8222-222222222222") (codes "ok") ∷ []

-- and tracking of the disk ends
abbrev pub until_stopped : Script
until_stopped =
    until_deleted
    ++ line (codes "changed 22222222-2222-4222-8222-222222222222 33333333-3333-4333-8333-333333333333") (codes "no UnknownDisk")
    ∷ line (codes "changed 33333333-3333-4333-8333-333333333333 22222222-2222-4222-8222-222222222222") (codes "no UnknownDisk")
    ∷ line (codes "cbt 11111111-1111-4111-8111-111111111111 off") (codes "ok")
    ∷ line (codes "changed 33333333-3333-4333-8333-333333333333 11111111-1111-4111-8111-111111111111") (codes "no NotTracked")
    ∷ line (codes "changed 11111111-1111-4111-8111-111111111111 11111111-1111-4111-8111-111111111111") (codes "ok AA==")
    ∷ []

-- a log of one extent, with this tag, since this one, and whether the first piece and the second were written to
abbrev pub log_with : List ℕ → ℕ → ℕ → Bool → Bool → Log
log_with disk tag since first second = record { disk = disk; extents = 1; tag = tag; since = since; bits = first ∷ second ∷ [] }

-- the logs once the second piece is written
abbrev pub logs_written : List Log
logs_written = log_with tracked_disk 0 8 false true ∷ log_with earlier 8 0 false false ∷ []

-- the logs once the second snapshot is taken
abbrev pub logs_later : List Log
logs_later = log_with tracked_disk 0 18 false false ∷ log_with earlier 8 0 false false ∷ log_with later 18 8 false true ∷ []

-- the logs once the first snapshot is deleted
abbrev pub logs_deleted : List Log
logs_deleted = log_with tracked_disk 0 18 false false ∷ log_with later 18 8 false true ∷ []
