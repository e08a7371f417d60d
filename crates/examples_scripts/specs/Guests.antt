-- Scripts in which guests read and write.
use Rattle.std.specs.Prelude.{[], ◌∷◌, ◌++◌, codes}
use Rattle.examples_scripts.specs.Scripts.{Script, line, pairs}

-- an attached disk gets a snapshot
abbrev pub snapshot_of_attached : Script
snapshot_of_attached =
    line (codes "create 11111111-1111-4111-8111-111111111111 65536 vhd x") (codes "ok 65536") ∷
    line (codes "attach 11111111-1111-4111-8111-111111111111 rw") (codes "ok") ∷
    line (codes "stat") (codes "ok seq 6 free 43 op none images 1 VHD-11111111-1111-4111-8111-111111111111,v,-,65536,0,5,1") ∷
    line (codes "attach 11111111-1111-4111-8111-111111111111 rw") (codes "no InUse") ∷
    line (codes "snapshot 11111111-1111-4111-8111-111111111111 22222222-2222-4222-8222-222222222222") (codes "ok") ∷
    line (codes "attach 22222222-2222-4222-8222-222222222222 ro") (codes "ok") ∷
    line (codes "stat") (codes "ok seq 14 free 37 op none images 3 VHD-11111111-1111-4111-8111-111111111111,v,VHD-6c766864-0000-8000-8000-000000000006,65536,0,5,1 VHD-22222222-2222-4222-8222-222222222222,v,VHD-6c766864-0000-8000-8000-000000000006,65536,0,1,1 VHD-6c766864-0000-8000-8000-000000000006,h,-,65536,0,5,2") ∷
    line (codes "fill 22222222-2222-4222-8222-222222222222 0 1 aa") (codes "no ReadOnly") ∷
    line (codes "detach 22222222-2222-4222-8222-222222222222") (codes "ok") ∷
    line (codes "attach 22222222-2222-4222-8222-222222222222 rw") (codes "no ReadOnly") ∷
    []

-- sectors in two blocks are written and read
abbrev pub guest_writes : Script
guest_writes =
    line (codes "create 11111111-1111-4111-8111-111111111111 65536 vhd x") (codes "ok 65536") ∷
    line (codes "attach 11111111-1111-4111-8111-111111111111 rw") (codes "ok") ∷
    line (codes "fill 11111111-1111-4111-8111-111111111111 7 2 ab") (codes "ok") ∷
    line (codes "read 11111111-1111-4111-8111-111111111111 6 4") ((codes "ok " ++ (pairs 512 (codes "00") ++ (pairs 1024 (codes "ab") ++ (pairs 512 (codes "00")))))) ∷
    line (codes "stat") (codes "ok seq 6 free 43 op none images 1 VHD-11111111-1111-4111-8111-111111111111,v,-,65536,2,5,1") ∷
    line (codes "fill 11111111-1111-4111-8111-111111111111 127 2 aa") (codes "no OutOfRange") ∷
    line (codes "read 11111111-1111-4111-8111-111111111111 0 0") (codes "no OutOfRange") ∷
    line (codes "read 11111111-1111-4111-8111-111111111111 18446744073709551615 1") (codes "no OutOfRange") ∷
    []

-- a disk and its snapshot part from their base
abbrev pub shared_base : Script
shared_base =
    line (codes "create 11111111-1111-4111-8111-111111111111 65536 vhd x") (codes "ok 65536") ∷
    line (codes "attach 11111111-1111-4111-8111-111111111111 rw") (codes "ok") ∷
    line (codes "fill 11111111-1111-4111-8111-111111111111 0 1 aa") (codes "ok") ∷
    line (codes "snapshot 11111111-1111-4111-8111-111111111111 22222222-2222-4222-8222-222222222222") (codes "ok") ∷
    line (codes "fill 11111111-1111-4111-8111-111111111111 0 1 bb") (codes "ok") ∷
    line (codes "attach 22222222-2222-4222-8222-222222222222 ro") (codes "ok") ∷
    line (codes "read 11111111-1111-4111-8111-111111111111 0 1") ((codes "ok " ++ (pairs 512 (codes "bb")))) ∷
    line (codes "read 22222222-2222-4222-8222-222222222222 0 1") ((codes "ok " ++ (pairs 512 (codes "aa")))) ∷
    line (codes "gc") (codes "ok gc deflate VHD-6c766864-0000-8000-8000-000000000006") ∷
    line (codes "gc") (codes "ok gc idle") ∷
    line (codes "stat") (codes "ok seq 15 free 41 op none images 3 VHD-11111111-1111-4111-8111-111111111111,v,VHD-6c766864-0000-8000-8000-000000000006,65536,1,5,1 VHD-22222222-2222-4222-8222-222222222222,v,VHD-6c766864-0000-8000-8000-000000000006,65536,0,1,1 VHD-6c766864-0000-8000-8000-000000000006,h,-,65536,1,1,2") ∷
    []

-- a third disk finds no room to be written to
abbrev pub no_room : Script
no_room =
    line (codes "create 11111111-1111-4111-8111-111111111111 262144 vhd x") (codes "ok 262144") ∷
    line (codes "create 22222222-2222-4222-8222-222222222222 262144 vhd x") (codes "ok 262144") ∷
    line (codes "create 33333333-3333-4333-8333-333333333333 262144 vhd x") (codes "ok 262144") ∷
    line (codes "attach 11111111-1111-4111-8111-111111111111 rw") (codes "ok") ∷
    line (codes "attach 22222222-2222-4222-8222-222222222222 rw") (codes "ok") ∷
    line (codes "attach 33333333-3333-4333-8333-333333333333 rw") (codes "no NoSpace need 18 free 9") ∷
    line (codes "read 11111111-1111-4111-8111-111111111111 0 128") ((codes "ok " ++ (pairs 65536 (codes "00")))) ∷
    line (codes "read 11111111-1111-4111-8111-111111111111 0 129") (codes "no OutOfRange") ∷
    line (codes "stat") (codes "ok seq 13 free 9 op none images 3 VHD-11111111-1111-4111-8111-111111111111,v,-,262144,0,19,1 VHD-22222222-2222-4222-8222-222222222222,v,-,262144,0,19,1 VHD-33333333-3333-4333-8333-333333333333,v,-,262144,0,1,0") ∷
    []

-- a raw disk becomes a raw base
abbrev pub raw_base : Script
raw_base =
    line (codes "create 11111111-1111-4111-8111-111111111111 16384 raw x") (codes "ok 16384") ∷
    line (codes "attach 11111111-1111-4111-8111-111111111111 rw") (codes "ok") ∷
    line (codes "fill 11111111-1111-4111-8111-111111111111 0 1 aa") (codes "ok") ∷
    line (codes "snapshot 11111111-1111-4111-8111-111111111111 22222222-2222-4222-8222-222222222222") (codes "ok") ∷
    line (codes "fill 11111111-1111-4111-8111-111111111111 0 1 bb") (codes "ok") ∷
    line (codes "attach 22222222-2222-4222-8222-222222222222 ro") (codes "ok") ∷
    line (codes "read 11111111-1111-4111-8111-111111111111 0 1") ((codes "ok " ++ (pairs 512 (codes "bb")))) ∷
    line (codes "read 22222222-2222-4222-8222-222222222222 0 1") ((codes "ok " ++ (pairs 512 (codes "aa")))) ∷
    line (codes "stat") (codes "ok seq 11 free 44 op none images 3 LV-6c766864-0000-8000-8000-000000000003,h,-,16384,0,1,2 VHD-11111111-1111-4111-8111-111111111111,v,LV-6c766864-0000-8000-8000-000000000003,16384,1,2,1 VHD-22222222-2222-4222-8222-222222222222,v,LV-6c766864-0000-8000-8000-000000000003,16384,0,1,1") ∷
    []

-- a fork of a disk that is written to needs the room of all its blocks
abbrev pub fork_room : Script
fork_room =
    line (codes "create 11111111-1111-4111-8111-111111111111 262144 vhd x") (codes "ok 262144") ∷
    line (codes "attach 11111111-1111-4111-8111-111111111111 rw") (codes "ok") ∷
    line (codes "create 22222222-2222-4222-8222-222222222222 262144 raw y") (codes "ok 262144") ∷
    line (codes "snapshot 11111111-1111-4111-8111-111111111111 33333333-3333-4333-8333-333333333333") (codes "no NoSpace need 20 free 13") ∷
    line (codes "detach 11111111-1111-4111-8111-111111111111") (codes "ok") ∷
    line (codes "clone 11111111-1111-4111-8111-111111111111 33333333-3333-4333-8333-333333333333") (codes "ok") ∷
    line (codes "attach 11111111-1111-4111-8111-111111111111 ro") (codes "ok") ∷
    []

-- a disk that is attached for writing grows
abbrev pub attached_grows : Script
attached_grows =
    line (codes "create 11111111-1111-4111-8111-111111111111 65536 vhd x") (codes "ok 65536") ∷
    line (codes "attach 11111111-1111-4111-8111-111111111111 rw") (codes "ok") ∷
    line (codes "resize 11111111-1111-4111-8111-111111111111 131072") (codes "ok 131072") ∷
    line (codes "stat") (codes "ok seq 9 free 38 op none images 1 VHD-11111111-1111-4111-8111-111111111111,v,-,131072,0,10,1") ∷
    line (codes "fill 11111111-1111-4111-8111-111111111111 255 1 aa") (codes "ok") ∷
    line (codes "create 33333333-3333-4333-8333-333333333333 262144 raw x") (codes "ok 262144") ∷
    line (codes "create 55555555-5555-4555-8555-555555555555 262144 raw x") (codes "ok 262144") ∷
    line (codes "create 66666666-6666-4666-8666-666666666666 98304 raw x") (codes "ok 98304") ∷
    line (codes "resize 11111111-1111-4111-8111-111111111111 262144") (codes "no NoSpace need 9 free 0") ∷
    line (codes "resize 11111111-1111-4111-8111-111111111111 262145") (codes "no BadSize") ∷
    line (codes "detach 11111111-1111-4111-8111-111111111111") (codes "ok") ∷
    line (codes "attach 11111111-1111-4111-8111-111111111111 ro") (codes "ok") ∷
    line (codes "resize 11111111-1111-4111-8111-111111111111 135168") (codes "no InUse") ∷
    []
