-- A fork: the disk of each UUID while the entry is there, and afterwards.
use Rattle.std.proofs.Common.{◌≡◌, ◌≢◌, ◌⊎◌, inl, inr, ℕ, ◌<◌, ◌||◌, Bool, true, false, cond, List, [], Option, Some, None, refl, sym, ap, ap₂, ◌∙◌, subst, arith, bytes_eq}
use Rattle.std.specs.List.{list_any}
use Rattle.std.proofs.lemmas.Slice.Eq.{bytes_eq-Decides}
use Rattle.std.proofs.lemmas.Bool.{or_right}
use Rattle.common_laws.proofs.Bytes.{bytes_eq-refl, bytes_eq-apart}
use Rattle.sm_base.specs.declared.names.Name.{Name}
use Rattle.sm_base.specs.declared.names.Name.TheVariants.{Vhd, Raw, Clone}
use Rattle.sm_record.specs.declared.records.Record.{Record}
use Rattle.vg_meta.specs.Tables.{VolumeTable}
use Rattle.sm_machine.specs.Disks.{Disk, with_disk}
use Rattle.common_laws.specs.Lists.{◌>>=◌}
use Rattle.sm_standing.specs.Changes.{parent_of, IsShortChain}
use Rattle.sm_standing.specs.Checks.{depth}
use Rattle.sm_standing.specs.Outlines.{outline}
use Rattle.sm_standing.specs.Contents.{Content, record_of}
use Rattle.sm_standing.specs.Entries.{folding, folding_uuids, making, head, image_with, is_among, is_visible}
use Rattle.sm_standing.specs.Images.{Image, sectors_read}
use Rattle.sm_standing.specs.Standing.{standing_volume, stands_plainly, stands_forked, disks, disk_at, disk_in}
use Rattle.sm_standing.proofs.DiskLists.{disks_same, disks_more}
use Rattle.sm_standing.proofs.ImageLaws.{moved_disk, copied, parent-is}
use Rattle.sm_standing.proofs.WalkLaws.{depth_up}
use Rattle.sm_standing.specs.Apart.{is_apart, IsEmptyOver}
use Rattle.sm_standing.specs.Forks.{forked, IsForkable, IsForkPlace, IsForking, IsForked}
use Rattle.sm_standing.proofs.ApartLaws.{beside, stands_making, stands_beside, beside_same, under_plain, under_apart, plain_apart, IsEntryApart, IsClosedApart, reads_moved, depth_moved, sectors_moved, sectors_sized, no_disk, none_disk, empty_copied, other_among, other_disk}

-- ---- which UUID

pub record Which (disk base twin u : List ℕ) : Type 0 where
  pub cases : (u ≡ disk) ⊎ ((u ≡ base) ⊎ ((u ≡ twin) ⊎ (is_among (forked disk base twin) u ≡ false)))

which-by : (disk base twin u : List ℕ) (d b t : Bool) → bytes_eq disk u ≡ d → bytes_eq base u ≡ b → bytes_eq twin u ≡ t → Which disk base twin u
which-by disk base twin u true b t is_d is_b is_t = record { cases = inl (sym ((bytes_eq-Decides disk u).0 is_d)) }
which-by disk base twin u false true t is_d is_b is_t = record { cases = inr (inl (sym ((bytes_eq-Decides base u).0 is_b))) }
which-by disk base twin u false false true is_d is_b is_t = record { cases = inr (inr (inl (sym ((bytes_eq-Decides twin u).0 is_t)))) }
which-by disk base twin u false false false is_d is_b is_t =
    record { cases = inr (inr (inr (ap₂ (λ d r. d || r) is_d (ap₂ (λ b r. b || r) is_b (ap (λ t. t || false) is_t))))) }

pub which : (disk base twin u : List ℕ) → Which disk base twin u
which disk base twin u = which-by disk base twin u (bytes_eq disk u) (bytes_eq base u) (bytes_eq twin u) refl refl refl

pub disk_among : (disk base twin : List ℕ) → is_among (forked disk base twin) disk ≡ true
disk_among disk base twin = ap (λ d. d || (bytes_eq base disk || (bytes_eq twin disk || false))) (bytes_eq-refl disk)

pub base_among : (disk base twin : List ℕ) → is_among (forked disk base twin) base ≡ true
base_among disk base twin = or_right (bytes_eq disk base) (bytes_eq base base || (bytes_eq twin base || false)) (ap (λ b. b || (bytes_eq twin base || false)) (bytes_eq-refl base))

pub twin_among : (disk base twin : List ℕ) → is_among (forked disk base twin) twin ≡ true
twin_among disk base twin =
    or_right (bytes_eq disk twin) (bytes_eq base twin || (bytes_eq twin twin || false))
    (or_right (bytes_eq base twin) (bytes_eq twin twin || false) (ap (λ t. t || false) (bytes_eq-refl twin)))

-- ---- where it stands under the entry

pub fork_disk : (t : VolumeTable) (disk base twin : List ℕ) (plainly : Option Name)
    → stands_forked t (Clone disk base twin) disk plainly ≡ elim (image_with t base) [ None ↦ plainly | Some b ↦ Some b ]
fork_disk t disk base twin plainly =
    ap (λ s. cond s (elim (image_with t base) [ None ↦ plainly | Some b ↦ Some b ]) (cond (bytes_eq disk base || bytes_eq disk twin) None plainly)) (bytes_eq-refl disk)

pub fork_other : (t : VolumeTable) (disk base twin u : List ℕ) (plainly : Option Name) → is_among (forked disk base twin) u ≡ false
    → stands_forked t (Clone disk base twin) u plainly ≡ plainly
fork_other t disk base twin u plainly other =
    ap (λ s. cond s (elim (image_with t base) [ None ↦ plainly | Some b ↦ Some b ]) (cond (bytes_eq u base || bytes_eq u twin) None plainly))
    (other_among (forked disk base twin) u disk other (disk_among disk base twin))
    ∙ ap₂ (λ s w. cond (s || w) None plainly) (other_among (forked disk base twin) u base other (base_among disk base twin))
    (other_among (forked disk base twin) u twin other (twin_among disk base twin))

new_by : (s w : Bool) (there plainly : Option Name) → s ≡ false → w ≡ true → cond s there (cond w None plainly) ≡ None
new_by true w there plainly off on = absurd (let e = off in cc)
new_by false true there plainly off on = refl
new_by false false there plainly off on = absurd (let e = on in cc)

pub fork_new : (t : VolumeTable) (disk base twin u : List ℕ) (plainly : Option Name) → bytes_eq u disk ≡ false → (bytes_eq u base || bytes_eq u twin) ≡ true
    → stands_forked t (Clone disk base twin) u plainly ≡ None
fork_new t disk base twin u plainly off on =
    new_by (bytes_eq u disk) (bytes_eq u base || bytes_eq u twin) (elim (image_with t base) [ None ↦ plainly | Some b ↦ Some b ]) plainly off on

-- ---- what follows before the fork

-- what the fork's entry asks of what was before it, whatever the chain has room for
pub record IsUnforked (a : Content) (disk base twin : List ℕ) (n : Name) : Type 0 where
  pub stood : standing_volume a.table disk ≡ Some n
  pub no_base : standing_volume a.table base ≡ None
  pub no_twin : standing_volume a.table twin ≡ None
  pub none_making : making a.table ≡ []
  pub beside : list_any (is_among (forked disk base twin)) (folding_uuids a.table) ≡ false
  pub childless : (m p : Name) → parent_of a m ≡ Some p → is_apart (forked disk base twin) p ≡ true

pub unforked : (a : Content) (disk base twin : List ℕ) (n : Name) (i : Image) → IsForkable a disk base twin n i → IsUnforked a disk base twin n
unforked a disk base twin n i h = record { stood = h.stood; no_base = h.no_base; no_twin = h.no_twin; none_making = h.none_making; beside = h.beside; childless = h.childless }

pub no_standing : (t : VolumeTable) (u v : List ℕ) (n : Name) → standing_volume t u ≡ Some n → standing_volume t v ≡ None → u ≢ v
no_standing t u v n is none at = let e : None ≡ Some n = sym none ∙ ap (standing_volume t) (sym at) ∙ is in (let x = e in cc)

pub closed_apart : (a : Content) (disk base twin : List ℕ) (n : Name) → IsUnforked a disk base twin n → IsClosedApart a (forked disk base twin)
closed_apart a disk base twin n h m p is at = h.childless m p at

not_twin : (disk base twin u : List ℕ) → is_among (forked disk base twin) u ≡ false → u ≢ twin
not_twin disk base twin u other at = let e : true ≡ false = sym (twin_among disk base twin) ∙ ap (is_among (forked disk base twin)) (sym at) ∙ other in (let x = e in cc)

stood_apart : (a : Content) (disk base twin : List ℕ) (n : Name) → IsUnforked a disk base twin n → (u : List ℕ) → is_among (forked disk base twin) u ≡ false
    → (x : Name) → standing_volume a.table u ≡ Some x → is_apart (forked disk base twin) x ≡ true
stood_apart a disk base twin n h u other x is =
    under_apart a.table (forked disk base twin) (head (folding a.table)) u x (stands_plainly a.table u) h.beside
    (plain_apart a.table (forked disk base twin) u x other) (sym (stands_beside a.table u h.none_making) ∙ is)

still_apart : (a b : Content) (us : List (List ℕ)) → folding b.table ≡ folding a.table → IsEntryApart us (head (folding a.table)) → IsEntryApart us (head (folding b.table))
still_apart a b us same apart = subst (λ ns. IsEntryApart us (head ns)) (sym same) apart

-- ---- while the entry is there

place_now : (t : VolumeTable) (disk base : List ℕ) (m : Name) (plainly : Option Name) → IsForkPlace t disk base m → (stands_plainly t disk ≡ Some m → plainly ≡ Some m)
    → elim (image_with t base) [ None ↦ plainly | Some b ↦ Some b ] ≡ Some m
place_now t disk base m plainly (inl place) from = ap (λ o. elim o [ None ↦ plainly | Some b ↦ Some b ]) place.0 ∙ from place.1
place_now t disk base m plainly (inr place) from = ap (λ o. elim o [ None ↦ plainly | Some b ↦ Some b ]) place

forking_stands : (a b : Content) (disk base twin : List ℕ) (n m : Name) → IsUnforked a disk base twin n → IsForking a b disk base twin n m
    → standing_volume b.table disk ≡ Some m
forking_stands a b disk base twin n m h k =
    stands_making b.table disk (Clone disk base twin) k.entry
    ∙ fork_disk b.table disk base twin (beside b.table disk)
    ∙ place_now b.table disk base m (beside b.table disk) k.place (λ plain.
    under_plain b.table (forked disk base twin) (head (folding b.table)) disk (stands_plainly b.table disk)
    (still_apart a b (forked disk base twin) k.folding h.beside) (disk_among disk base twin) ∙ plain)

forking_disk : (a b : Content) (disk base twin : List ℕ) (n m : Name) → IsUnforked a disk base twin n → IsForking a b disk base twin n m
    → disk_at b disk ≡ disk_at a disk
forking_disk a b disk base twin n m h k =
    moved_disk a b disk n m h.stood (forking_stands a b disk base twin n m h k) (k.recorded disk (no_standing a.table disk twin n h.stood h.no_twin))
    (sectors_moved a b n m k.image
    (reads_moved a b (forked disk base twin) n m k.apart (closed_apart a disk base twin n h) k.image (λ p at. h.childless n p at)))

forking_new : (a b : Content) (disk base twin : List ℕ) (n m : Name) → IsUnforked a disk base twin n → IsForking a b disk base twin n m
    → (u : List ℕ) → standing_volume a.table u ≡ None → (bytes_eq u base || bytes_eq u twin) ≡ true → disk_at b u ≡ disk_at a u
forking_new a b disk base twin n m h k u none new =
    no_disk a b u none
    (stands_making b.table u (Clone disk base twin) k.entry
    ∙ fork_new b.table disk base twin u (beside b.table u) (bytes_eq-apart u disk (λ at. no_standing a.table disk u n h.stood none (sym at))) new)

forking_other : (a b : Content) (disk base twin : List ℕ) (n m : Name) → IsUnforked a disk base twin n → IsForking a b disk base twin n m
    → (u : List ℕ) → is_among (forked disk base twin) u ≡ false → disk_at b u ≡ disk_at a u
forking_other a b disk base twin n m h k u other =
    other_disk a b (forked disk base twin) u k.apart (closed_apart a disk base twin n h)
    (stands_making b.table u (Clone disk base twin) k.entry
    ∙ fork_other b.table disk base twin u (beside b.table u) other
    ∙ beside_same a b (forked disk base twin) u k.apart k.folding h.beside other
    ∙ sym (stands_beside a.table u h.none_making))
    (stood_apart a disk base twin n h u other) (k.recorded u (not_twin disk base twin u other))

pub is_base_new : (base twin : List ℕ) → (bytes_eq base base || bytes_eq base twin) ≡ true
is_base_new base twin = ap (λ s. s || bytes_eq base twin) (bytes_eq-refl base)

pub is_twin_new : (base twin : List ℕ) → (bytes_eq twin base || bytes_eq twin twin) ≡ true
is_twin_new base twin = or_right (bytes_eq twin base) (bytes_eq twin twin) (bytes_eq-refl twin)

forking_each : (a b : Content) (disk base twin : List ℕ) (n m : Name) → IsUnforked a disk base twin n → IsForking a b disk base twin n m
    → (u : List ℕ) → (u ≡ disk) ⊎ ((u ≡ base) ⊎ ((u ≡ twin) ⊎ (is_among (forked disk base twin) u ≡ false))) → disk_at b u ≡ disk_at a u
forking_each a b disk base twin n m h k u (inl at) = subst (λ v. disk_at b v ≡ disk_at a v) (sym at) (forking_disk a b disk base twin n m h k)
forking_each a b disk base twin n m h k u (inr (inl at)) =
    subst (λ v. disk_at b v ≡ disk_at a v) (sym at) (forking_new a b disk base twin n m h k base h.no_base (is_base_new base twin))
forking_each a b disk base twin n m h k u (inr (inr (inl at))) =
    subst (λ v. disk_at b v ≡ disk_at a v) (sym at) (forking_new a b disk base twin n m h k twin h.no_twin (is_twin_new base twin))
forking_each a b disk base twin n m h k u (inr (inr (inr other))) = forking_other a b disk base twin n m h k u other

pub forking_disks : (a b : Content) (disk base twin : List ℕ) (n m : Name) → IsUnforked a disk base twin n → IsForking a b disk base twin n m → disks b ≡ disks a
forking_disks a b disk base twin n m h k = disks_same a b (λ u. forking_each a b disk base twin n m h k u (which disk base twin u).cases)

pub forking : (a b : Content) (disk base twin : List ℕ) (n m : Name) (i : Image) → IsForkable a disk base twin n i → IsForking a b disk base twin n m → disks b ≡ disks a
forking a b disk base twin n m i h k = forking_disks a b disk base twin n m (unforked a disk base twin n i h) k

-- ---- once the entry is removed

visible_stands : (t : VolumeTable) (u : List ℕ) → is_visible t (Vhd u) ≡ true → stands_plainly t u ≡ Some (Vhd u)
visible_stands t u is = ap (λ v. cond v (Some (Vhd u)) (cond (is_visible t (Raw u)) (Some (Raw u)) None)) is

-- where one of the three stands by itself
forked_stands : (a b : Content) (disk base twin : List ℕ) (n m : Name) (i j l : Image) (entry : Record) → IsForkable a disk base twin n i
    → IsForked a b disk base twin n m i j l entry → (u : List ℕ) → is_among (forked disk base twin) u ≡ true → standing_volume b.table u ≡ stands_plainly b.table u
forked_stands a b disk base twin n m i j l entry h k u is =
    stands_beside b.table u k.none_making
    ∙ under_plain b.table (forked disk base twin) (head (folding b.table)) u (stands_plainly b.table u) (still_apart a b (forked disk base twin) k.folding h.beside) is

-- an empty child of the base reads as the disk read
child_sectors : (a b : Content) (disk base twin : List ℕ) (n m : Name) (i j l : Image) (entry : Record) → IsForkable a disk base twin n i
    → IsForked a b disk base twin n m i j l entry → (x : Name) (child : Image) → IsEmptyOver b x m child i → sectors_read b x ≡ sectors_read a n
child_sectors a b disk base twin n m i j l entry h k x child c =
    let closed = closed_apart a disk base twin n (unforked a disk base twin n i h) in
    let above : (p : Name) → parent_of a n ≡ Some p → is_apart (forked disk base twin) p ≡ true = λ p at. h.childless n p at in
    let counted = depth_moved a b (forked disk base twin) n m k.apart closed k.image above 30 in
    let up_to = depth_up (outline b) 30 x m (parent-is b x m child c.image c.parent) in
    let room : depth (outline a) 30 n < 30 = h.room in
    let short : IsShortChain b x = omega (arith, counted, up_to, room) in
    sectors_sized a b n x i child h.image c.image (sym c.size) (λ s below.
    copied b x m child i (empty_copied b x m child i c) short s (omega (arith, below, c.size))
    ∙ reads_moved a b (forked disk base twin) n m k.apart closed k.image above s)

forked_disk : (a b : Content) (disk base twin : List ℕ) (n m : Name) (i j l : Image) (entry : Record) → IsForkable a disk base twin n i
    → IsForked a b disk base twin n m i j l entry → disk_at b disk ≡ disk_at a disk
forked_disk a b disk base twin n m i j l entry h k =
    moved_disk a b disk n (Vhd disk) h.stood
    (forked_stands a b disk base twin n m i j l entry h k disk (disk_among disk base twin) ∙ visible_stands b.table disk k.disk_visible)
    (k.recorded disk (no_standing a.table disk twin n h.stood h.no_twin))
    (child_sectors a b disk base twin n m i j l entry h k (Vhd disk) j k.disk_image)

forked_base : (a b : Content) (disk base twin : List ℕ) (n m : Name) (i j l : Image) (entry : Record) → IsForkable a disk base twin n i
    → IsForked a b disk base twin n m i j l entry → disk_at b base ≡ disk_at a base
forked_base a b disk base twin n m i j l entry h k =
    no_disk a b base h.no_base (forked_stands a b disk base twin n m i j l entry h k base (base_among disk base twin) ∙ k.no_base)

forked_other : (a b : Content) (disk base twin : List ℕ) (n m : Name) (i j l : Image) (entry : Record) → IsForkable a disk base twin n i
    → IsForked a b disk base twin n m i j l entry → (u : List ℕ) → is_among (forked disk base twin) u ≡ false → disk_at b u ≡ disk_at a u
forked_other a b disk base twin n m i j l entry h k u other =
    other_disk a b (forked disk base twin) u k.apart (closed_apart a disk base twin n (unforked a disk base twin n i h))
    (stands_beside b.table u k.none_making
    ∙ beside_same a b (forked disk base twin) u k.apart k.folding h.beside other
    ∙ sym (stands_beside a.table u h.none_making))
    (stood_apart a disk base twin n (unforked a disk base twin n i h) u other) (k.recorded u (not_twin disk base twin u other))

pub made_disk : (b : Content) (u : List ℕ) (x : Name) (entry : Record) → standing_volume b.table u ≡ Some x → record_of b u ≡ Some entry → disk_at b u ≡ Some (disk_in b u entry x)
unfolding disk_at
made_disk b u x entry stand recorded =
    ap (λ o. o >>= (λ k. record_of b u >>= (λ r. Some (disk_in b u r k)))) stand ∙ ap (λ o. o >>= (λ (r : Record). Some (disk_in b u r x))) recorded

twin_disk : (a b : Content) (disk base twin : List ℕ) (n m : Name) (i j l : Image) (entry : Record) → IsForkable a disk base twin n i
    → IsForked a b disk base twin n m i j l entry → disk_at b twin ≡ Some (disk_in a twin entry n)
twin_disk a b disk base twin n m i j l entry h k =
    made_disk b twin (Vhd twin) entry
    (forked_stands a b disk base twin n m i j l entry h k twin (twin_among disk base twin) ∙ visible_stands b.table twin k.twin_visible) k.twin_recorded
    ∙ ap with_sectors (child_sectors a b disk base twin n m i j l entry h k (Vhd twin) l k.twin_image)
  where
    with_sectors : List (List ℕ) → Option Disk
    with_sectors sectors = Some (record { uuid = twin; label = entry.label; origin = entry.origin; read_only = entry.read_only; sectors = sectors })

forked_each : (a b : Content) (disk base twin : List ℕ) (n m : Name) (i j l : Image) (entry : Record) → IsForkable a disk base twin n i
    → IsForked a b disk base twin n m i j l entry → (u : List ℕ) → u ≢ twin
    → (u ≡ disk) ⊎ ((u ≡ base) ⊎ ((u ≡ twin) ⊎ (is_among (forked disk base twin) u ≡ false))) → disk_at b u ≡ disk_at a u
forked_each a b disk base twin n m i j l entry h k u not_it (inl at) =
    subst (λ v. disk_at b v ≡ disk_at a v) (sym at) (forked_disk a b disk base twin n m i j l entry h k)
forked_each a b disk base twin n m i j l entry h k u not_it (inr (inl at)) =
    subst (λ v. disk_at b v ≡ disk_at a v) (sym at) (forked_base a b disk base twin n m i j l entry h k)
forked_each a b disk base twin n m i j l entry h k u not_it (inr (inr (inl at))) = absurd (not_it at)
forked_each a b disk base twin n m i j l entry h k u not_it (inr (inr (inr other))) = forked_other a b disk base twin n m i j l entry h k u other

pub fork_ended : (a b : Content) (disk base twin : List ℕ) (n m : Name) (i j l : Image) (entry : Record) → IsForkable a disk base twin n i
    → IsForked a b disk base twin n m i j l entry → disks b ≡ with_disk (disk_in a twin entry n) (disks a)
fork_ended a b disk base twin n m i j l entry h k =
    disks_more a b (disk_in a twin entry n) (none_disk a twin h.no_twin) (twin_disk a b disk base twin n m i j l entry h k)
    (λ u not_it. forked_each a b disk base twin n m i j l entry h k u not_it (which disk base twin u).cases)
