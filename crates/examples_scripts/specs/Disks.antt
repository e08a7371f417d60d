-- Scripts that make, change and list disks.
use Rattle.std.specs.Prelude.{[], ◌∷◌, ◌++◌, codes}
use Rattle.examples_scripts.specs.Scripts.{Script, line, pairs}

-- nothing is there
abbrev pub empty : Script
empty =
    line (codes "list") (codes "ok 0") ∷
    line (codes "gc") (codes "ok gc idle") ∷
    line (codes "stat") (codes "ok seq 1 free 48 op none images 0") ∷
    []

-- one disk
abbrev pub one_disk : Script
one_disk =
    line (codes "create 11111111-1111-4111-8111-111111111111 65536 vhd data") (codes "ok 65536") ∷
    line (codes "list") (codes "ok 1 11111111-1111-4111-8111-111111111111,65536,rw,-,data") ∷
    line (codes "stat") (codes "ok seq 3 free 47 op none images 1 VHD-11111111-1111-4111-8111-111111111111,v,-,65536,0,1,0") ∷
    []

-- refusals by name, kind and attachment
abbrev pub refused : Script
refused =
    line (codes "create 11111111-1111-4111-8111-111111111111 1 vhd x") (codes "ok 4096") ∷
    line (codes "create 22222222-2222-4222-8222-222222222222 1 raw y") (codes "ok 16384") ∷
    line (codes "create 11111111-1111-4111-8111-111111111111 1 vhd x") (codes "no NameTaken") ∷
    line (codes "resize 22222222-2222-4222-8222-222222222222 32768") (codes "no RawDisk") ∷
    line (codes "attach 33333333-3333-4333-8333-333333333333 ro") (codes "no UnknownDisk") ∷
    line (codes "fill 11111111-1111-4111-8111-111111111111 0 1 aa") (codes "no NotAttached") ∷
    []

-- sizes are rounded up, and refused past the limits
abbrev pub sizes : Script
sizes =
    line (codes "create 11111111-1111-4111-8111-111111111111 262144 vhd x") (codes "ok 262144") ∷
    line (codes "create 22222222-2222-4222-8222-222222222222 262145 vhd x") (codes "no BadSize") ∷
    line (codes "create 22222222-2222-4222-8222-222222222222 0 vhd x") (codes "no BadSize") ∷
    line (codes "create 22222222-2222-4222-8222-222222222222 262145 raw x") (codes "no BadSize") ∷
    line (codes "create 33333333-3333-4333-8333-333333333333 65536 vhd x") (codes "ok 65536") ∷
    line (codes "resize 33333333-3333-4333-8333-333333333333 65537") (codes "ok 69632") ∷
    line (codes "resize 33333333-3333-4333-8333-333333333333 69632") (codes "ok 69632") ∷
    line (codes "resize 33333333-3333-4333-8333-333333333333 4096") (codes "no Shrink") ∷
    line (codes "resize 33333333-3333-4333-8333-333333333333 262145") (codes "no BadSize") ∷
    []

-- names of base images are reserved, and a clone keeps the label
abbrev pub reserved : Script
reserved =
    line (codes "create 6c766864-0000-8000-8000-000000000001 4096 vhd x") (codes "no ReservedName") ∷
    line (codes "create 11111111-1111-4111-8111-111111111111 4096 vhd x") (codes "ok 4096") ∷
    line (codes "label 11111111-1111-4111-8111-111111111111 y") (codes "ok") ∷
    line (codes "clone 11111111-1111-4111-8111-111111111111 22222222-2222-4222-8222-222222222222") (codes "ok") ∷
    line (codes "list") (codes "ok 2 11111111-1111-4111-8111-111111111111,4096,rw,-,y 22222222-2222-4222-8222-222222222222,4096,rw,11111111-1111-4111-8111-111111111111,y") ∷
    []

-- the sequence number is nearly used up
abbrev pub spent : Script
spent =
    line (codes "create 33333333-3333-4333-8333-333333333333 4096 vhd x") (codes "no SequenceSpent") ∷
    line (codes "delete 22222222-2222-4222-8222-222222222222") (codes "ok") ∷
    []

-- a disk is enlarged: what it held stays, and the new sectors are zeros
abbrev pub grown : Script
grown =
    line (codes "create 11111111-1111-4111-8111-111111111111 4096 vhd x") (codes "ok 4096") ∷
    line (codes "attach 11111111-1111-4111-8111-111111111111 rw") (codes "ok") ∷
    line (codes "fill 11111111-1111-4111-8111-111111111111 0 8 aa") (codes "ok") ∷
    line (codes "resize 11111111-1111-4111-8111-111111111111 8192") (codes "ok 8192") ∷
    line (codes "detach 11111111-1111-4111-8111-111111111111") (codes "ok") ∷
    line (codes "resize 11111111-1111-4111-8111-111111111111 4097") (codes "ok 8192") ∷
    line (codes "attach 11111111-1111-4111-8111-111111111111 ro") (codes "ok") ∷
    line (codes "read 11111111-1111-4111-8111-111111111111 7 2") ((codes "ok " ++ (pairs 512 (codes "aa") ++ (pairs 512 (codes "00"))))) ∷
    line (codes "fill 11111111-1111-4111-8111-111111111111 0 1 bb") (codes "no ReadOnly") ∷
    line (codes "read 11111111-1111-4111-8111-111111111111 16 1") (codes "no OutOfRange") ∷
    line ((codes "write 11111111-1111-4111-8111-111111111111 0 " ++ (pairs 512 (codes "bb")))) (codes "no ReadOnly") ∷
    line (codes "detach 11111111-1111-4111-8111-111111111111") (codes "ok") ∷
    line (codes "attach 11111111-1111-4111-8111-111111111111 rw") (codes "ok") ∷
    line (codes "write 11111111-1111-4111-8111-111111111111 15 bCbCbCbCbCbCbCbCbCbCbCbCbCbCbCbCbCbCbCbCbCbCbCbCbCbCbCbCbCbCbCbCbCbCbCbCbCbCbCbCbCbCbCbCbCbCbCbCbCbCbCbCbCbCbCbCbCbCbCbCbCbCbCbCbCbCbCbCbCbCbCbCbCbCbCbCbCbCbCbCbCbCbCbCbCbCbCbCbCbCbCbCbCbCbCbCbCbCbCbCbCbCbCbCbCbCbCbCbCbCbCbCbCbCbCbCbCbCbCbCbCbCbCbCbCbCbCbCbCbCbCbCbCbCbCbCbCbCbCbCbCbCbCbCbCbCbCbCbCbCbCbCbCbCbCbCbCbCbCbCbCbCbCbCbCbCbCbCbCbCbCbCbCbCbCbCbCbCbCbCbCbCbCbCbCbCbCbCbCbCbCbCbCbCbCbCbCbCbCbCbCbCbCbCbCbCbCbCbCbCbCbCbCbCbCbCbCbCbCbCbCbCbCbCbCbCbCbCbCbCbCbCbCbCbCbCbCbCbCbCbCbCbCbCbCbCbCbCbCbCbCbCbCbCbCbCbCbCbCbCbCbCbCbCbCbCbCbCbCbCbCbCbCbCbCbCbCbCbCbCbCbCbCbCbCbCbCbCbCbCbCbCbCbCbCbCbCbCbCbCbCbCbCbCbCbCbCbCbCbCbCbCbCbCbCbCbCbCbCbCbCbCbCbCbCbCbCbCbCbCbCbCbCbCbCbCbCbCbCbCbCbCbCbCbCbCbCbCbCbCbCbCbCbCbCbCbCbCbCbCbCbCbCbCbCbCbCbCbCbCbCbCbCbCbCbCbCbCbCbCbCbCbCbCbCbCbCbCbCbCbCbCbCbCbCbCbCbCbCbCbCbCbCbCbCbCbCbCbCbCbCbCbCbCbCbCbCbCbCbCbCbCbCbCbCbCbCbCbCbCbCbCbCbCbCbCbCbCbCbCbCbCbCbCbCbCbCbCbCbCbCbCbCbCbCbCbCbCbCbCbCbCbCbCbCbCbCbCbCbCbCbCbCbCbCbCbCbCbCbCbCbCbCbCbCbCbCbCbCbCbCbCbCbCbCbCbCbCbCbCbCbCbCbCbCbCbCbCbCbCbCbC") (codes "ok") ∷
    line (codes "read 11111111-1111-4111-8111-111111111111 14 2") ((codes "ok " ++ (pairs 512 (codes "00") ++ (pairs 512 (codes "bc"))))) ∷
    []

-- the first cause is the answer where several apply
abbrev pub order : Script
order =
    line (codes "create 11111111-1111-4111-8111-111111111111 4096 vhd x") (codes "ok 4096") ∷
    line (codes "create 22222222-2222-4222-8222-222222222222 1 raw y") (codes "ok 16384") ∷
    line (codes "snapshot 33333333-3333-4333-8333-333333333333 6c766864-0000-8000-8000-000000000001") (codes "no ReservedName") ∷
    line (codes "clone 11111111-1111-4111-8111-111111111111 00000000-0000-0000-0000-000000000000") (codes "no ReservedName") ∷
    line (codes "snapshot 33333333-3333-4333-8333-333333333333 11111111-1111-4111-8111-111111111111") (codes "no UnknownDisk") ∷
    line (codes "snapshot 11111111-1111-4111-8111-111111111111 22222222-2222-4222-8222-222222222222") (codes "no NameTaken") ∷
    line (codes "create 11111111-1111-4111-8111-111111111111 0 vhd x") (codes "no NameTaken") ∷
    line (codes "resize 22222222-2222-4222-8222-222222222222 0") (codes "no RawDisk") ∷
    line (codes "snapshot 11111111-1111-4111-8111-111111111111 33333333-3333-4333-8333-333333333333") (codes "ok") ∷
    line (codes "resize 33333333-3333-4333-8333-333333333333 0") (codes "no ReadOnly") ∷
    line (codes "attach 33333333-3333-4333-8333-333333333333 rw") (codes "no ReadOnly") ∷
    line (codes "attach 33333333-3333-4333-8333-333333333333 ro") (codes "ok") ∷
    line (codes "resize 33333333-3333-4333-8333-333333333333 0") (codes "no InUse") ∷
    line (codes "delete 33333333-3333-4333-8333-333333333333") (codes "no InUse") ∷
    line ((codes "write 33333333-3333-4333-8333-333333333333 0 " ++ (pairs 512 (codes "aa")))) (codes "no ReadOnly") ∷
    line (codes "fill 33333333-3333-4333-8333-333333333333 0 0 aa") (codes "no ReadOnly") ∷
    line (codes "read 33333333-3333-4333-8333-333333333333 0 0") (codes "no OutOfRange") ∷
    line (codes "read 33333333-3333-4333-8333-333333333333 8 1") (codes "no OutOfRange") ∷
    line (codes "read 11111111-1111-4111-8111-111111111111 0 1") (codes "no NotAttached") ∷
    line (codes "flush 11111111-1111-4111-8111-111111111111") (codes "no NotAttached") ∷
    line (codes "flush 33333333-3333-4333-8333-333333333333") (codes "ok") ∷
    line (codes "detach 44444444-4444-4444-8444-444444444444") (codes "no UnknownDisk") ∷
    line (codes "label 11111111-1111-4111-8111-111111111111 !~") (codes "ok") ∷
    line (codes "label 11111111-1111-4111-8111-111111111111 xxxxxxxxxxxxxxxxxxxxxxxxxxxxxxxxxxxxxxxxxxxxxxxxxxxxxxxxxxxxxxxxx") (codes "no BadLine") ∷
    line (codes "create 44444444-4444-4444-8444-444444444444 01 vhd x") (codes "no BadLine") ∷
    line (codes "create 44444444-4444-4444-8444-444444444444 18446744073709551616 vhd x") (codes "no BadLine") ∷
    line (codes "create 44444444-4444-4444-8444-444444444444 18446744073709551615 vhd x") (codes "no BadSize") ∷
    []
