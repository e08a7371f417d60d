-- The list of disks is determined by the disk of each UUID.
pub use Rattle.common_laws.proofs.Bytes.{same_or_not}
use Rattle.std.proofs.Common.{◌≡◌, ◌≢◌, ℕ, ◌⊎◌, inl, inr, Bool, true, false, cond, List, [], ◌∷◌, Option, Some, None, refl, sym, ap, ◌∙◌, subst}
use Rattle.std.specs.declared.cmp.Ordering.TheVariants.{Less, Equal}
use Rattle.std.specs.Ordering.{is_lt}
use Rattle.std.proofs.lemmas.Map.Lookups.{exact_bytes}
use Rattle.std.proofs.lemmas.Slice.Eq.{bytes_eq-Decides}
use Rattle.common_laws.proofs.Bytes.{same_or_not}
use Rattle.sm_base.specs.declared.names.Name.{Name}
use Rattle.sm_record.specs.declared.records.Record.{Record}
use Rattle.common_laws.specs.Lists.{In, insert_by, ◌>>=◌}
use Rattle.sm_machine.specs.Disks.{Disk, with_disk}
use Rattle.std.specs.List.{find}
use Rattle.sm_standing.specs.Contents.{Content, record_of, records, is_record_of}
use Rattle.sm_standing.specs.Images.{sectors_read}
use Rattle.sm_standing.specs.Standing.{disks, disk_at, disk_in, uuids, standing_volume}
use Rattle.sm_standing.specs.Ordered.{Rising, uuid_cmp, disk_cmp}
use Rattle.sm_standing.proofs.Orders.{rising_ext, In-filter_map, filter_map-In, rising-filter_map, In-insert, new-insert, old-insert, rising-insert}
use Rattle.sm_standing.proofs.DisksShown.{disk_cmp_total, stands_listed, rising-in_order}

-- what the disk of a UUID is made of
pub record DiskParts (c : Content) (u : List ℕ) (d : Disk) : Type 0 where
  pub name : Name
  pub standing : standing_volume c.table u ≡ Some name
  pub entry : Record
  pub recorded : record_of c u ≡ Some entry
  pub made : d ≡ disk_in c u entry name

recorded-parts : (c : Content) (u : List ℕ) (d : Disk) (n : Name) → standing_volume c.table u ≡ Some n → (o : Option Record) → record_of c u ≡ o
    → (o >>= (λ r. Some (disk_in c u r n))) ≡ Some d → DiskParts c u d
recorded-parts c u d n standing None recorded h = absurd (let x = h in cc)
recorded-parts c u d n standing (Some r) recorded h =
    record { name = n; standing = standing; entry = r; recorded = recorded; made = (let x = h in cc) }

standing-parts : (c : Content) (u : List ℕ) (d : Disk) (o : Option Name) → standing_volume c.table u ≡ o
    → (o >>= (λ n. record_of c u >>= (λ r. Some (disk_in c u r n)))) ≡ Some d → DiskParts c u d
standing-parts c u d None standing h = absurd (let x = h in cc)
standing-parts c u d (Some n) standing h = recorded-parts c u d n standing (record_of c u) refl h

pub disk_parts : (c : Content) (u : List ℕ) (d : Disk) → disk_at c u ≡ Some d → DiskParts c u d
unfolding disk_at
disk_parts c u d h = standing-parts c u d (standing_volume c.table u) refl h

-- the disk of a UUID has that UUID
pub uuid-disk_at : (c : Content) (u : List ℕ) (d : Disk) → disk_at c u ≡ Some d → d.uuid ≡ u
uuid-disk_at c u d h = ap (λ (e : Disk). e.uuid) (disk_parts c u d h).made

-- disks stand in order of UUID
pub rising-disks : (c : Content) → Rising disk_cmp (disks c)
unfolding disks uuids
rising-disks c = rising-filter_map uuid_cmp disk_cmp (disk_at c) keeps (uuids c.table) (rising-in_order _)
  where
    keeps : (u v : List ℕ) (d e : Disk) → disk_at c u ≡ Some d → disk_at c v ≡ Some e → uuid_cmp u v ≡ Less → disk_cmp d e ≡ Less
    keeps u v d e is_d is_e h =
        subst (λ w. uuid_cmp w e.uuid ≡ Less) (sym (uuid-disk_at c u d is_d)) (subst (λ w. uuid_cmp u w ≡ Less) (sym (uuid-disk_at c v e is_e)) h)

-- a disk of the list is that of its UUID
pub disks_at : (c : Content) (d : Disk) → In d (disks c) → disk_at c d.uuid ≡ Some d
unfolding disks
disks_at c d h =
    let w = In-filter_map (disk_at c) (uuids c.table) d h in
    subst (λ u. disk_at c u ≡ Some d) (sym (uuid-disk_at c w.0 d w.2)) w.2

-- and the disk of each UUID stands in the list
pub at_disks : (c : Content) (u : List ℕ) (d : Disk) → disk_at c u ≡ Some d → In d (disks c)
unfolding disks
at_disks c u d h =
    let parts = disk_parts c u d h in
    filter_map-In (disk_at c) (uuids c.table) u d (stands_listed c.table u parts.name parts.standing) h

-- where the disk of each UUID is the same, the disks are the same
pub disks_same : (a b : Content) → ((u : List ℕ) → disk_at b u ≡ disk_at a u) → disks b ≡ disks a
disks_same a b same = rising_ext disk_cmp disk_cmp_total (disks b) (disks a) (rising-disks b) (rising-disks a)
    (λ d h. at_disks a d.uuid d (sym (same d.uuid) ∙ disks_at b d h))
    (λ d h. at_disks b d.uuid d (same d.uuid ∙ disks_at a d h))

-- where one UUID that was no disk is this disk, and each other is the same, the disks are one more
pub disks_more : (a b : Content) (d : Disk) → disk_at a d.uuid ≡ None → disk_at b d.uuid ≡ Some d
    → ((u : List ℕ) → u ≢ d.uuid → disk_at b u ≡ disk_at a u) → disks b ≡ with_disk d (disks a)
unfolding with_disk
disks_more a b d none is same = rising_ext disk_cmp disk_cmp_total (disks b) (insert_by (λ x y. is_lt (disk_cmp x y)) d (disks a))
    (rising-disks b) (rising-insert disk_cmp disk_cmp_total d (disks a) other (rising-disks a))
    (λ e h. from e (same_or_not e.uuid d.uuid) h)
    (λ e h. back e (In-insert disk_cmp disk_cmp_total d e (disks a) h))
  where
    other : (e : Disk) → In e (disks a) → disk_cmp d e ≡ Equal → ⊥
    other e h eq =
        let at = exact_bytes d.uuid e.uuid eq in
        let there : disk_at a d.uuid ≡ Some e = subst (λ u. disk_at a u ≡ Some e) (sym at) (disks_at a e h) in cc

    from : (e : Disk) → (e.uuid ≡ d.uuid) ⊎ (e.uuid ≢ d.uuid) → In e (disks b) → In e (insert_by (λ x y. is_lt (disk_cmp x y)) d (disks a))
    from e (inl at) h =
        let there : disk_at b d.uuid ≡ Some e = subst (λ u. disk_at b u ≡ Some e) at (disks_at b e h) in
        let equal : e ≡ d = cc in
        subst (λ x. In x (insert_by (λ x y. is_lt (disk_cmp x y)) d (disks a))) (sym equal) (new-insert disk_cmp disk_cmp_total d (disks a))
    from e (inr at) h = old-insert disk_cmp disk_cmp_total d e (disks a) (at_disks a e.uuid e (sym (same e.uuid at) ∙ disks_at b e h))

    back : (e : Disk) → (e ≡ d) ⊎ In e (disks a) → In e (disks b)
    back e (inl at) = subst (λ x. In x (disks b)) (sym at) (at_disks b d.uuid d is)
    back e (inr h) = at_disks b e.uuid e (same e.uuid (λ at.
        let there : disk_at a d.uuid ≡ Some e = subst (λ u. disk_at a u ≡ Some e) at (disks_at a e h) in cc) ∙ disks_at a e h)

found-step : {A : Type 0} (test : A → Bool) (b : Bool) (x y : A) (xs : List A) (rest : Option A) → test y ≡ b → (rest ≡ Some x → In x xs × (test x ≡ true))
    → cond b (Some y) rest ≡ Some x → In x (y ∷ xs) × (test x ≡ true)
found-step test true x y xs rest is from h = let at : x ≡ y = (let e = h in cc) in (inl at, ap test at ∙ is)
found-step test false x y xs rest is from h = let w = from h in (inr w.0, w.1)

-- what is found is an element that passes
find-In : {A : Type 0} (test : A → Bool) (xs : List A) (x : A) → find test xs ≡ Some x → In x xs × (test x ≡ true)
find-In test [] x h = absurd (let e = h in cc)
find-In test (y ∷ xs) x h = found-step test (test y) x y xs (find test xs) refl (find-In test xs x) h

-- a disk has the fields of a record of its UUID
pub disk_record : (c : Content) (u : List ℕ) (d : Disk) → disk_at c u ≡ Some d
    → (r : Record) × In r (records c) × (r.uuid ≡ u) × (d.uuid ≡ u) × (d.label ≡ r.label) × (d.origin ≡ r.origin) × (d.read_only ≡ r.read_only)
disk_record c u d h =
    let parts = disk_parts c u d h in
    let w = find-In (is_record_of u) (records c) parts.entry parts.recorded in (
      parts.entry,
      w.0,
      (bytes_eq-Decides parts.entry.uuid u).0 w.1,
      ap (λ (e : Disk). e.uuid) parts.made,
      ap (λ (e : Disk). e.label) parts.made,
      ap (λ (e : Disk). e.origin) parts.made,
      ap (λ (e : Disk). e.read_only) parts.made,
    )

-- and the sectors that are read of the volume in which it stands
pub disk_sectors : (c : Content) (u : List ℕ) (d : Disk) → disk_at c u ≡ Some d → (n : Name) × (standing_volume c.table u ≡ Some n) × (d.sectors ≡ sectors_read c n)
disk_sectors c u d h =
    let parts = disk_parts c u d h in
    (parts.name, parts.standing, ap (λ (e : Disk). e.sectors) parts.made)
