-- Scripts in which the collector takes steps.
use Rattle.std.specs.Prelude.{[], ◌∷◌, ◌++◌, codes}
use Rattle.examples_scripts.specs.Scripts.{Script, line, pairs}

-- a base is folded into its parent between calls and forks
abbrev pub coalesce : Script
coalesce =
    line (codes "create 11111111-1111-4111-8111-111111111111 65536 vhd x") (codes "ok 65536") ∷
    line (codes "attach 11111111-1111-4111-8111-111111111111 rw") (codes "ok") ∷
    line (codes "fill 11111111-1111-4111-8111-111111111111 0 1 aa") (codes "ok") ∷
    line (codes "snapshot 11111111-1111-4111-8111-111111111111 44444444-4444-4444-8444-444444444444") (codes "ok") ∷
    line (codes "fill 11111111-1111-4111-8111-111111111111 8 1 bb") (codes "ok") ∷
    line (codes "snapshot 11111111-1111-4111-8111-111111111111 22222222-2222-4222-8222-222222222222") (codes "ok") ∷
    line (codes "delete 44444444-4444-4444-8444-444444444444") (codes "ok") ∷
    line (codes "gc") (codes "ok gc deflate VHD-6c766864-0000-8000-8000-000000000006") ∷
    line (codes "gc") (codes "ok gc deflate VHD-6c766864-0000-8000-8000-00000000000e") ∷
    line (codes "gc") (codes "ok gc begin VHD-6c766864-0000-8000-8000-00000000000e") ∷
    line (codes "gc") (codes "ok gc copy VHD-6c766864-0000-8000-8000-00000000000e 1") ∷
    line (codes "gc") (codes "ok gc turn VHD-6c766864-0000-8000-8000-00000000000e") ∷
    line (codes "gc") (codes "ok gc relink VHD-11111111-1111-4111-8111-111111111111") ∷
    line (codes "snapshot 22222222-2222-4222-8222-222222222222 33333333-3333-4333-8333-333333333333") (codes "ok") ∷
    line (codes "fill 11111111-1111-4111-8111-111111111111 0 1 cc") (codes "ok") ∷
    line (codes "gc") (codes "ok gc relink VHD-6c766864-0000-8000-8000-00000000001b") ∷
    line (codes "gc") (codes "ok gc finish VHD-6c766864-0000-8000-8000-00000000000e") ∷
    line (codes "gc") (codes "ok gc remove VHD-6c766864-0000-8000-8000-00000000000e") ∷
    line (codes "gc") (codes "ok gc idle") ∷
    line (codes "attach 33333333-3333-4333-8333-333333333333 ro") (codes "ok") ∷
    line (codes "read 11111111-1111-4111-8111-111111111111 0 1") ((codes "ok " ++ (pairs 512 (codes "cc")))) ∷
    line (codes "read 11111111-1111-4111-8111-111111111111 8 1") ((codes "ok " ++ (pairs 512 (codes "bb")))) ∷
    line (codes "read 33333333-3333-4333-8333-333333333333 0 1") ((codes "ok " ++ (pairs 512 (codes "aa")))) ∷
    line (codes "read 33333333-3333-4333-8333-333333333333 8 1") ((codes "ok " ++ (pairs 512 (codes "bb")))) ∷
    line (codes "stat") (codes "ok seq 37 free 39 op none images 5 VHD-11111111-1111-4111-8111-111111111111,v,VHD-6c766864-0000-8000-8000-000000000006,65536,1,5,1 VHD-22222222-2222-4222-8222-222222222222,v,VHD-6c766864-0000-8000-8000-00000000001b,65536,0,1,0 VHD-33333333-3333-4333-8333-333333333333,v,VHD-6c766864-0000-8000-8000-00000000001b,65536,0,1,1 VHD-6c766864-0000-8000-8000-000000000006,h,-,65536,2,1,2 VHD-6c766864-0000-8000-8000-00000000001b,h,VHD-6c766864-0000-8000-8000-000000000006,65536,0,1,1") ∷
    []

-- a copy is given up when its children are gone
abbrev pub given_up : Script
given_up =
    line (codes "create 11111111-1111-4111-8111-111111111111 65536 vhd x") (codes "ok 65536") ∷
    line (codes "attach 11111111-1111-4111-8111-111111111111 rw") (codes "ok") ∷
    line (codes "fill 11111111-1111-4111-8111-111111111111 0 1 aa") (codes "ok") ∷
    line (codes "snapshot 11111111-1111-4111-8111-111111111111 44444444-4444-4444-8444-444444444444") (codes "ok") ∷
    line (codes "fill 11111111-1111-4111-8111-111111111111 8 1 bb") (codes "ok") ∷
    line (codes "snapshot 11111111-1111-4111-8111-111111111111 22222222-2222-4222-8222-222222222222") (codes "ok") ∷
    line (codes "delete 44444444-4444-4444-8444-444444444444") (codes "ok") ∷
    line (codes "detach 11111111-1111-4111-8111-111111111111") (codes "ok") ∷
    line (codes "gc") (codes "ok gc deflate VHD-11111111-1111-4111-8111-111111111111") ∷
    line (codes "gc") (codes "ok gc deflate VHD-6c766864-0000-8000-8000-000000000006") ∷
    line (codes "gc") (codes "ok gc deflate VHD-6c766864-0000-8000-8000-00000000000e") ∷
    line (codes "gc") (codes "ok gc begin VHD-6c766864-0000-8000-8000-00000000000e") ∷
    line (codes "delete 11111111-1111-4111-8111-111111111111") (codes "ok") ∷
    line (codes "delete 22222222-2222-4222-8222-222222222222") (codes "ok") ∷
    line (codes "gc") (codes "ok gc abandon VHD-6c766864-0000-8000-8000-00000000000e") ∷
    line (codes "gc") (codes "ok gc remove VHD-6c766864-0000-8000-8000-00000000000e") ∷
    line (codes "gc") (codes "ok gc remove VHD-6c766864-0000-8000-8000-000000000006") ∷
    line (codes "gc") (codes "ok gc idle") ∷
    line (codes "stat") (codes "ok seq 32 free 48 op none images 0") ∷
    []

-- a leaf is folded into its base, given up once by an attachment
abbrev pub fold : Script
fold =
    line (codes "create 11111111-1111-4111-8111-111111111111 65536 vhd x") (codes "ok 65536") ∷
    line (codes "attach 11111111-1111-4111-8111-111111111111 rw") (codes "ok") ∷
    line (codes "fill 11111111-1111-4111-8111-111111111111 0 1 aa") (codes "ok") ∷
    line (codes "snapshot 11111111-1111-4111-8111-111111111111 22222222-2222-4222-8222-222222222222") (codes "ok") ∷
    line (codes "fill 11111111-1111-4111-8111-111111111111 8 1 bb") (codes "ok") ∷
    line (codes "detach 11111111-1111-4111-8111-111111111111") (codes "ok") ∷
    line (codes "delete 22222222-2222-4222-8222-222222222222") (codes "ok") ∷
    line (codes "gc") (codes "ok gc deflate VHD-11111111-1111-4111-8111-111111111111") ∷
    line (codes "gc") (codes "ok gc deflate VHD-6c766864-0000-8000-8000-000000000006") ∷
    line (codes "gc") (codes "ok gc leaf VHD-11111111-1111-4111-8111-111111111111") ∷
    line (codes "gc") (codes "ok gc copy VHD-11111111-1111-4111-8111-111111111111 1") ∷
    line (codes "attach 11111111-1111-4111-8111-111111111111 rw") (codes "ok") ∷
    line (codes "fill 11111111-1111-4111-8111-111111111111 16 1 cc") (codes "ok") ∷
    line (codes "gc") (codes "ok gc live VHD-11111111-1111-4111-8111-111111111111") ∷
    line (codes "detach 11111111-1111-4111-8111-111111111111") (codes "ok") ∷
    line (codes "gc") (codes "ok gc deflate VHD-11111111-1111-4111-8111-111111111111") ∷
    line (codes "gc") (codes "ok gc deflate VHD-6c766864-0000-8000-8000-000000000006") ∷
    line (codes "gc") (codes "ok gc leaf VHD-11111111-1111-4111-8111-111111111111") ∷
    line (codes "gc") (codes "ok gc copy VHD-11111111-1111-4111-8111-111111111111 1") ∷
    line (codes "gc") (codes "ok gc copy VHD-11111111-1111-4111-8111-111111111111 2") ∷
    line (codes "gc") (codes "ok gc swap VHD-11111111-1111-4111-8111-111111111111") ∷
    line (codes "gc") (codes "ok gc idle") ∷
    line (codes "stat") (codes "ok seq 35 free 47 op none images 1 VHD-11111111-1111-4111-8111-111111111111,v,-,65536,3,1,0") ∷
    line (codes "attach 11111111-1111-4111-8111-111111111111 ro") (codes "ok") ∷
    line (codes "read 11111111-1111-4111-8111-111111111111 0 1") ((codes "ok " ++ (pairs 512 (codes "aa")))) ∷
    line (codes "read 11111111-1111-4111-8111-111111111111 8 1") ((codes "ok " ++ (pairs 512 (codes "bb")))) ∷
    line (codes "read 11111111-1111-4111-8111-111111111111 16 1") ((codes "ok " ++ (pairs 512 (codes "cc")))) ∷
    []

-- the room for a fold comes when a disk goes
abbrev pub blocked : Script
blocked =
    line (codes "create 11111111-1111-4111-8111-111111111111 65536 vhd x") (codes "ok 65536") ∷
    line (codes "attach 11111111-1111-4111-8111-111111111111 rw") (codes "ok") ∷
    line (codes "fill 11111111-1111-4111-8111-111111111111 0 24 aa") (codes "ok") ∷
    line (codes "snapshot 11111111-1111-4111-8111-111111111111 22222222-2222-4222-8222-222222222222") (codes "ok") ∷
    line (codes "fill 11111111-1111-4111-8111-111111111111 24 8 bb") (codes "ok") ∷
    line (codes "detach 11111111-1111-4111-8111-111111111111") (codes "ok") ∷
    line (codes "delete 22222222-2222-4222-8222-222222222222") (codes "ok") ∷
    line (codes "gc") (codes "ok gc deflate VHD-11111111-1111-4111-8111-111111111111") ∷
    line (codes "gc") (codes "ok gc deflate VHD-6c766864-0000-8000-8000-000000000006") ∷
    line (codes "create 33333333-3333-4333-8333-333333333333 262144 raw x") (codes "ok 262144") ∷
    line (codes "create 44444444-4444-4444-8444-444444444444 262144 raw x") (codes "ok 262144") ∷
    line (codes "create 55555555-5555-4555-8555-555555555555 229376 raw x") (codes "ok 229376") ∷
    line (codes "gc") (codes "ok gc blocked need 1 free 0") ∷
    line (codes "delete 55555555-5555-4555-8555-555555555555") (codes "ok") ∷
    line (codes "gc") (codes "ok gc leaf VHD-11111111-1111-4111-8111-111111111111") ∷
    line (codes "gc") (codes "ok gc copy VHD-11111111-1111-4111-8111-111111111111 3") ∷
    line (codes "gc") (codes "ok gc swap VHD-11111111-1111-4111-8111-111111111111") ∷
    line (codes "gc") (codes "ok gc idle") ∷
    line (codes "stat") (codes "ok seq 33 free 14 op none images 3 LV-33333333-3333-4333-8333-333333333333,v,-,262144,0,16,0 LV-44444444-4444-4444-8444-444444444444,v,-,262144,0,16,0 VHD-11111111-1111-4111-8111-111111111111,v,-,65536,4,2,0") ∷
    []

-- the leaf of an attached disk is folded while its guest writes
abbrev pub live : Script
live =
    line (codes "create 11111111-1111-4111-8111-111111111111 65536 vhd x") (codes "ok 65536") ∷
    line (codes "attach 11111111-1111-4111-8111-111111111111 rw") (codes "ok") ∷
    line (codes "fill 11111111-1111-4111-8111-111111111111 0 1 aa") (codes "ok") ∷
    line (codes "snapshot 11111111-1111-4111-8111-111111111111 22222222-2222-4222-8222-222222222222") (codes "ok") ∷
    line (codes "fill 11111111-1111-4111-8111-111111111111 8 1 bb") (codes "ok") ∷
    line (codes "delete 22222222-2222-4222-8222-222222222222") (codes "ok") ∷
    line (codes "gc") (codes "ok gc deflate VHD-6c766864-0000-8000-8000-000000000006") ∷
    line (codes "gc") (codes "ok gc live VHD-11111111-1111-4111-8111-111111111111") ∷
    line (codes "gc") (codes "ok gc copy VHD-11111111-1111-4111-8111-111111111111 1") ∷
    line (codes "fill 11111111-1111-4111-8111-111111111111 9 1 cc") (codes "ok") ∷
    line (codes "stat") (codes "ok seq 20 free 38 op live,VHD-11111111-1111-4111-8111-111111111111,VHD-6c766864-0000-8000-8000-000000000006,2,1 images 2 VHD-11111111-1111-4111-8111-111111111111,v,VHD-6c766864-0000-8000-8000-000000000006,65536,1,5,1 VHD-6c766864-0000-8000-8000-000000000006,h,-,65536,2,5,1") ∷
    line (codes "gc") (codes "ok gc swap VHD-11111111-1111-4111-8111-111111111111") ∷
    line (codes "gc") (codes "ok gc idle") ∷
    line (codes "read 11111111-1111-4111-8111-111111111111 0 1") ((codes "ok " ++ (pairs 512 (codes "aa")))) ∷
    line (codes "read 11111111-1111-4111-8111-111111111111 8 1") ((codes "ok " ++ (pairs 512 (codes "bb")))) ∷
    line (codes "read 11111111-1111-4111-8111-111111111111 9 1") ((codes "ok " ++ (pairs 512 (codes "cc")))) ∷
    line (codes "stat") (codes "ok seq 25 free 43 op none images 1 VHD-11111111-1111-4111-8111-111111111111,v,-,65536,2,5,1") ∷
    []

-- more blocks are written to again than may be dirty
abbrev pub live_many : Script
live_many =
    line (codes "create 11111111-1111-4111-8111-111111111111 131072 vhd x") (codes "ok 131072") ∷
    line (codes "attach 11111111-1111-4111-8111-111111111111 rw") (codes "ok") ∷
    line (codes "snapshot 11111111-1111-4111-8111-111111111111 22222222-2222-4222-8222-222222222222") (codes "ok") ∷
    line (codes "fill 11111111-1111-4111-8111-111111111111 0 136 aa") (codes "ok") ∷
    line (codes "delete 22222222-2222-4222-8222-222222222222") (codes "ok") ∷
    line (codes "gc") (codes "ok gc deflate VHD-6c766864-0000-8000-8000-000000000006") ∷
    line (codes "gc") (codes "ok gc live VHD-11111111-1111-4111-8111-111111111111") ∷
    line (codes "gc") (codes "ok gc copy VHD-11111111-1111-4111-8111-111111111111 0") ∷
    line (codes "gc") (codes "ok gc copy VHD-11111111-1111-4111-8111-111111111111 1") ∷
    line (codes "gc") (codes "ok gc copy VHD-11111111-1111-4111-8111-111111111111 2") ∷
    line (codes "gc") (codes "ok gc copy VHD-11111111-1111-4111-8111-111111111111 3") ∷
    line (codes "gc") (codes "ok gc copy VHD-11111111-1111-4111-8111-111111111111 4") ∷
    line (codes "gc") (codes "ok gc copy VHD-11111111-1111-4111-8111-111111111111 5") ∷
    line (codes "gc") (codes "ok gc copy VHD-11111111-1111-4111-8111-111111111111 6") ∷
    line (codes "gc") (codes "ok gc copy VHD-11111111-1111-4111-8111-111111111111 7") ∷
    line (codes "gc") (codes "ok gc copy VHD-11111111-1111-4111-8111-111111111111 8") ∷
    line (codes "gc") (codes "ok gc copy VHD-11111111-1111-4111-8111-111111111111 9") ∷
    line (codes "gc") (codes "ok gc copy VHD-11111111-1111-4111-8111-111111111111 10") ∷
    line (codes "gc") (codes "ok gc copy VHD-11111111-1111-4111-8111-111111111111 11") ∷
    line (codes "gc") (codes "ok gc copy VHD-11111111-1111-4111-8111-111111111111 12") ∷
    line (codes "gc") (codes "ok gc copy VHD-11111111-1111-4111-8111-111111111111 13") ∷
    line (codes "gc") (codes "ok gc copy VHD-11111111-1111-4111-8111-111111111111 14") ∷
    line (codes "gc") (codes "ok gc copy VHD-11111111-1111-4111-8111-111111111111 15") ∷
    line (codes "gc") (codes "ok gc copy VHD-11111111-1111-4111-8111-111111111111 16") ∷
    line (codes "fill 11111111-1111-4111-8111-111111111111 0 136 bb") (codes "ok") ∷
    line (codes "gc") (codes "ok gc copy VHD-11111111-1111-4111-8111-111111111111 0") ∷
    line (codes "gc") (codes "ok gc swap VHD-11111111-1111-4111-8111-111111111111") ∷
    line (codes "read 11111111-1111-4111-8111-111111111111 0 1") ((codes "ok " ++ (pairs 512 (codes "bb")))) ∷
    line (codes "read 11111111-1111-4111-8111-111111111111 135 1") ((codes "ok " ++ (pairs 512 (codes "bb")))) ∷
    []

-- a block that neither image had is written to behind the cursor of the folding of an attached disk's leaf
abbrev pub live_new_block : Script
live_new_block =
    line (codes "create 11111111-1111-4111-8111-111111111111 65536 vhd x") (codes "ok 65536") ∷
    line (codes "attach 11111111-1111-4111-8111-111111111111 rw") (codes "ok") ∷
    line (codes "fill 11111111-1111-4111-8111-111111111111 0 1 aa") (codes "ok") ∷
    line (codes "snapshot 11111111-1111-4111-8111-111111111111 22222222-2222-4222-8222-222222222222") (codes "ok") ∷
    line (codes "fill 11111111-1111-4111-8111-111111111111 8 1 bb") (codes "ok") ∷
    line (codes "fill 11111111-1111-4111-8111-111111111111 40 1 bb") (codes "ok") ∷
    line (codes "delete 22222222-2222-4222-8222-222222222222") (codes "ok") ∷
    line (codes "gc") (codes "ok gc deflate VHD-6c766864-0000-8000-8000-000000000006") ∷
    line (codes "gc") (codes "ok gc live VHD-11111111-1111-4111-8111-111111111111") ∷
    line (codes "gc") (codes "ok gc copy VHD-11111111-1111-4111-8111-111111111111 1") ∷
    line (codes "gc") (codes "ok gc copy VHD-11111111-1111-4111-8111-111111111111 5") ∷
    line (codes "fill 11111111-1111-4111-8111-111111111111 24 1 cc") (codes "ok") ∷
    line (codes "stat") (codes "ok seq 20 free 38 op live,VHD-11111111-1111-4111-8111-111111111111,VHD-6c766864-0000-8000-8000-000000000006,6,1 images 2 VHD-11111111-1111-4111-8111-111111111111,v,VHD-6c766864-0000-8000-8000-000000000006,65536,3,5,1 VHD-6c766864-0000-8000-8000-000000000006,h,-,65536,3,5,1") ∷
    line (codes "gc") (codes "ok gc swap VHD-11111111-1111-4111-8111-111111111111") ∷
    line (codes "gc") (codes "ok gc idle") ∷
    line (codes "read 11111111-1111-4111-8111-111111111111 24 1") ((codes "ok " ++ (pairs 512 (codes "cc")))) ∷
    line (codes "read 11111111-1111-4111-8111-111111111111 40 1") ((codes "ok " ++ (pairs 512 (codes "bb")))) ∷
    line (codes "stat") (codes "ok seq 25 free 43 op none images 1 VHD-11111111-1111-4111-8111-111111111111,v,-,65536,4,5,1") ∷
    []

-- the folding of an attached disk's leaf is given up as the disk grows, begun again, and given up as it is detached
abbrev pub live_given_up : Script
live_given_up =
    line (codes "create 11111111-1111-4111-8111-111111111111 65536 vhd x") (codes "ok 65536") ∷
    line (codes "attach 11111111-1111-4111-8111-111111111111 rw") (codes "ok") ∷
    line (codes "fill 11111111-1111-4111-8111-111111111111 0 1 aa") (codes "ok") ∷
    line (codes "snapshot 11111111-1111-4111-8111-111111111111 22222222-2222-4222-8222-222222222222") (codes "ok") ∷
    line (codes "fill 11111111-1111-4111-8111-111111111111 8 1 bb") (codes "ok") ∷
    line (codes "delete 22222222-2222-4222-8222-222222222222") (codes "ok") ∷
    line (codes "gc") (codes "ok gc deflate VHD-6c766864-0000-8000-8000-000000000006") ∷
    line (codes "gc") (codes "ok gc live VHD-11111111-1111-4111-8111-111111111111") ∷
    line (codes "gc") (codes "ok gc copy VHD-11111111-1111-4111-8111-111111111111 1") ∷
    line (codes "fill 11111111-1111-4111-8111-111111111111 9 1 cc") (codes "ok") ∷
    line (codes "resize 11111111-1111-4111-8111-111111111111 69632") (codes "ok 69632") ∷
    line (codes "stat") (codes "ok seq 21 free 38 op none images 2 VHD-11111111-1111-4111-8111-111111111111,v,VHD-6c766864-0000-8000-8000-000000000006,69632,1,5,1 VHD-6c766864-0000-8000-8000-000000000006,h,-,65536,2,5,1") ∷
    line (codes "gc") (codes "ok gc deflate VHD-6c766864-0000-8000-8000-000000000006") ∷
    line (codes "gc") (codes "ok gc live VHD-11111111-1111-4111-8111-111111111111") ∷
    line (codes "gc") (codes "ok gc copy VHD-11111111-1111-4111-8111-111111111111 1") ∷
    line (codes "detach 11111111-1111-4111-8111-111111111111") (codes "ok") ∷
    line (codes "stat") (codes "ok seq 27 free 38 op none images 2 VHD-11111111-1111-4111-8111-111111111111,v,VHD-6c766864-0000-8000-8000-000000000006,69632,1,5,0 VHD-6c766864-0000-8000-8000-000000000006,h,-,69632,2,5,0") ∷
    line (codes "attach 11111111-1111-4111-8111-111111111111 ro") (codes "ok") ∷
    line (codes "read 11111111-1111-4111-8111-111111111111 0 1") ((codes "ok " ++ (pairs 512 (codes "aa")))) ∷
    line (codes "read 11111111-1111-4111-8111-111111111111 8 1") ((codes "ok " ++ (pairs 512 (codes "bb")))) ∷
    line (codes "read 11111111-1111-4111-8111-111111111111 9 1") ((codes "ok " ++ (pairs 512 (codes "cc")))) ∷
    []
