-- A script over raw disks and VHD disks.
use Rattle.std.specs.Prelude.{[], ◌∷◌, codes}
use Rattle.examples_scripts.specs.Scripts.{Script, line}

-- raw disks, a VHD one and its snapshot, labels and ends, refusals by name, room and size, and a leaf that is folded
abbrev pub raw_disks : Script
raw_disks =
    line (codes "list") (codes "ok 0") ∷
    line (codes "create 22222222-2222-4222-8222-222222222222 1 raw y") (codes "ok 16384") ∷
    line (codes "list") (codes "ok 1 22222222-2222-4222-8222-222222222222,16384,rw,-,y") ∷
    line (codes "create 22222222-2222-4222-8222-222222222222 1 raw y") (codes "no NameTaken") ∷
    line (codes "create 33333333-3333-4333-8333-333333333333 262144 raw z") (codes "ok 262144") ∷
    line (codes "create 44444444-4444-4444-8444-444444444444 262144 raw z") (codes "ok 262144") ∷
    line (codes "create 55555555-5555-4555-8555-555555555555 262144 raw z") (codes "no NoSpace need 16 free 15") ∷
    line (codes "create 55555555-5555-4555-8555-555555555555 262145 raw z") (codes "no BadSize") ∷
    line (codes "create 11111111-1111-4111-8111-111111111111 1 vhd x") (codes "ok 4096") ∷
    line (codes "label 11111111-1111-4111-8111-111111111111 w") (codes "ok") ∷
    line (codes "delete 33333333-3333-4333-8333-333333333333") (codes "ok") ∷
    line (codes "delete 33333333-3333-4333-8333-333333333333") (codes "no UnknownDisk") ∷
    line (codes "delete 44444444-4444-4444-8444-444444444444") (codes "ok") ∷
    line (codes "list") (codes "ok 2 11111111-1111-4111-8111-111111111111,4096,rw,-,w 22222222-2222-4222-8222-222222222222,16384,rw,-,y") ∷
    line (codes "attach 11111111-1111-4111-8111-111111111111 ro") (codes "ok") ∷
    line (codes "delete 11111111-1111-4111-8111-111111111111") (codes "no InUse") ∷
    line (codes "snapshot 11111111-1111-4111-8111-111111111111 33333333-3333-4333-8333-333333333333") (codes "ok") ∷
    line (codes "clone 33333333-3333-4333-8333-333333333333 11111111-1111-4111-8111-111111111111") (codes "no NameTaken") ∷
    line (codes "list") (codes "ok 3 11111111-1111-4111-8111-111111111111,4096,rw,-,w 22222222-2222-4222-8222-222222222222,16384,rw,-,y 33333333-3333-4333-8333-333333333333,4096,ro,11111111-1111-4111-8111-111111111111,w") ∷
    line (codes "stat") (codes "ok seq 19 free 44 op none images 4 LV-22222222-2222-4222-8222-222222222222,v,-,16384,0,1,0 VHD-11111111-1111-4111-8111-111111111111,v,VHD-6c766864-0000-8000-8000-00000000000b,4096,0,1,1 VHD-33333333-3333-4333-8333-333333333333,v,VHD-6c766864-0000-8000-8000-00000000000b,4096,0,1,0 VHD-6c766864-0000-8000-8000-00000000000b,h,-,4096,0,1,1") ∷
    line (codes "gc") (codes "ok gc idle") ∷
    line (codes "delete 33333333-3333-4333-8333-333333333333") (codes "ok") ∷
    line (codes "detach 11111111-1111-4111-8111-111111111111") (codes "ok") ∷
    line (codes "gc") (codes "ok gc leaf VHD-11111111-1111-4111-8111-111111111111") ∷
    line (codes "gc") (codes "ok gc swap VHD-11111111-1111-4111-8111-111111111111") ∷
    line (codes "gc") (codes "ok gc idle") ∷
    []
