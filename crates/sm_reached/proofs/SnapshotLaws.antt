-- A snapshot stays a disk for reading alone, for which tracking does not begin.
use Rattle.std.proofs.Common.{◌≡◌, ◌≢◌, ℕ, Bool, true, false, not, List, Option, Some, None, refl, sym, ap, ◌∙◌, subst, inl, inr}
use Rattle.std.specs.Prelude.{is_none}
use Rattle.std.specs.List.{find}
use Rattle.std.specs.Str.{bytes_eq}
use Rattle.std.proofs.lemmas.Bool.{true≢false}
use Rattle.common_laws.specs.Lists.{In, when}
use Rattle.common_laws.proofs.Bytes.{bytes_eq-same}
use Rattle.common_laws.proofs.Lists.{In-filter, In-insert, In-map, find-some}
use Rattle.sm_machine.specs.declared.commands.Command.{Command}
use Rattle.sm_machine.specs.declared.commands.Command.TheVariants.{Create, Delete, Attach, Detach, Snapshot, Clone, Resize, Label, Write, Fill, Read, Flush, Gc, List as Listing, Stat, Track, Changed}
use Rattle.sm_machine.specs.Disks.{Disk, filled, is_disk, on_disk, sectors_of_bytes, with_disk}
use Rattle.sm_machine.specs.Shapes.{Shape, DiskRecord, disk_record}
use Rattle.sm_machine.specs.Refusals.{is_read_only, is_unknown, named, new_uuid, of_some, rounded}
use Rattle.sm_machine.specs.Steps.{disks_next, fork_disks, grown_disk, shape_next, written_disk}
use Rattle.sm_machine.specs.WellFormed.{AreDisksOf, HasRecord, IsWellFormed, record_of}
use Rattle.sm_machine.proofs.Fresh
use Rattle.sm_machine.proofs.LogDisks.{are_blanks, blanks, disk_recorded, its_record}
use Rattle.sm_machine.proofs.Passed.{IsPassed}
use Rattle.sm_machine.proofs.Steps.{snapshot_facts}
use Rattle.sm_machine.proofs.Together.{next_together}

-- a disk of this UUID is one for reading alone
abbrev pub IsMarked : List ℕ → Shape → Type 0
IsMarked u s = (r : DiskRecord) → In r s.records → r.uuid ≡ u → r.read_only ≡ true

-- ---- a disk that was there

record Was (disks : List Disk) (d : Disk) : Type 0 where
  old : Disk
  there : In old disks
  uuid : old.uuid ≡ d.uuid
  read_only : old.read_only ≡ d.read_only

was_same : (disks : List Disk) (d : Disk) → In d disks → Was disks d
was_same disks d h = record { old = d; there = h; uuid = refl; read_only = refl }

was_beside : (x : Disk) (disks : List Disk) (d : Disk) → x.uuid ≢ d.uuid → In d (with_disk x disks) → Was disks d
unfolding with_disk
was_beside x disks d apart h = elim (In-insert _ x disks d h) [
  | inl e ↦ absurd (apart (sym (ap (λ (y : Disk). y.uuid) e)))
  | inr i ↦ was_same disks d i
]

was_forked : (u twin : List ℕ) (read_only : Bool) (o : Option Disk) (disks : List Disk) (d : Disk) → twin ≢ d.uuid → In d (fork_disks u twin read_only o disks) → Was disks d
was_forked u twin read_only None disks d apart h = was_same disks d h
was_forked u twin read_only (Some b) disks d apart h = was_beside (record { uuid = twin; label = b.label; origin = Some u; read_only = read_only; sectors = b.sectors }) disks d apart h

was_changed : (u : List ℕ) (f : Disk → Disk) → ((d : Disk) → ((f d).uuid ≡ d.uuid) × ((f d).read_only ≡ d.read_only)) → (disks : List Disk) (d : Disk) → In d (on_disk u f disks) → Was disks d
was_changed u f keeps disks d h = by (is_disk u r.0) r.2
  where
    r : (b : Disk) × In b disks × (d ≡ when (is_disk u b) f b)
    r = In-map (λ (x : Disk). when (is_disk u x) f x) disks d h

    by : (c : Bool) → d ≡ when c f r.0 → Was disks d
    by true q = record { old = r.0; there = r.1; uuid = sym (ap (λ (x : Disk). x.uuid) q ∙ (keeps r.0).0); read_only = sym (ap (λ (x : Disk). x.read_only) q ∙ (keeps r.0).1) }
    by false q = record { old = r.0; there = r.1; uuid = sym (ap (λ (x : Disk). x.uuid) q); read_only = sym (ap (λ (x : Disk). x.read_only) q) }

-- a disk that a command did not make was there
disk_was : (disks : List Disk) (s : Shape) (c : Command) (d : Disk) → new_uuid c ≢ Some d.uuid → In d (disks_next disks s c) → Was disks d
unfolding disks_next new_uuid
disk_was disks s (Create u size raw label) d apart h = was_beside _ disks d (λ e. apart (ap (λ (v : List ℕ). Some v) e)) h
disk_was disks s (Delete u) d apart h = was_same disks d (In-filter (λ (x : Disk). not (is_disk u x)) disks d h).0
disk_was disks s (Snapshot u twin) d apart h = was_forked u twin true (find (is_disk u) disks) disks d (λ e. apart (ap (λ (v : List ℕ). Some v) e)) h
disk_was disks s (Clone u twin) d apart h = was_forked u twin false (find (is_disk u) disks) disks d (λ e. apart (ap (λ (v : List ℕ). Some v) e)) h
disk_was disks s (Resize u size) d apart h = was_changed u (grown_disk (rounded s false size)) (λ x. (refl, refl)) disks d h
disk_was disks s (Label u text) d apart h = was_changed u (λ (x : Disk). record x { label = text }) (λ x. (refl, refl)) disks d h
disk_was disks s (Write u sector bytes) d apart h = was_changed u (written_disk sector (sectors_of_bytes bytes)) (λ x. (refl, refl)) disks d h
disk_was disks s (Fill u sector count byte) d apart h = was_changed u (written_disk sector (filled count byte)) (λ x. (refl, refl)) disks d h
disk_was disks s (Attach u mode) d apart h = was_same disks d h
disk_was disks s (Detach u) d apart h = was_same disks d h
disk_was disks s (Read u sector count) d apart h = was_same disks d h
disk_was disks s (Flush u) d apart h = was_same disks d h
disk_was disks s Gc d apart h = was_same disks d h
disk_was disks s Listing d apart h = was_same disks d h
disk_was disks s Stat d apart h = was_same disks d h
disk_was disks s (Track u on) d apart h = was_same disks d h
disk_was disks s (Changed u n) d apart h = was_same disks d h

-- ---- over a command

module _ (s : Shape) (w : IsWellFormed s) where
  -- a record behind a command is that of a disk
  its_disk : (c : Command) → IsPassed s c → (r : DiskRecord) → In r (shape_next s c).records → (d : Disk) × In d (disks_next (blanks s) s c) × (r ≡ record_of d)
  its_disk c p r h =
      let a : AreDisksOf (disks_next (blanks s) s c) (shape_next s c) = next_together (blanks s) s c w (are_blanks s w) p in
      In-map record_of (disks_next (blanks s) s c) r (subst (λ (rs : List DiskRecord). In r rs) (sym a.recorded) h)

  pub marked_next : (u : List ℕ) (c : Command) → IsPassed s c → new_uuid c ≢ Some u → IsMarked u s → IsMarked u (shape_next s c)
  marked_next u c p apart m r h e =
      let d : (d : Disk) × In d (disks_next (blanks s) s c) × (r ≡ record_of d) = its_disk c p r h in
      let named : d.0.uuid ≡ u = sym (ap (λ (x : DiskRecord). x.uuid) d.2) ∙ e in
      let b : Was (blanks s) d.0 = disk_was (blanks s) s c d.0 (λ q. apart (q ∙ ap (λ (v : List ℕ). Some v) named)) d.1 in
      ap (λ (x : DiskRecord). x.read_only) d.2 ∙ (sym b.read_only ∙ m (record_of b.old) (its_record (blanks s) s w (are_blanks s w) b.old b.there) (b.uuid ∙ named))

  -- no disk has the UUID of a snapshot that is taken
  pub no_twin : (u twin : List ℕ) → IsPassed s (Snapshot u twin) → (r : DiskRecord) → In r s.records → r.uuid ≡ twin → ⊥
  no_twin u twin p = Fresh.no_record s w twin (snapshot_facts s u twin p).not_taken

  twin_disk : (u twin : List ℕ) → IsPassed s (Snapshot u twin) → (o : Option Disk) (d : Disk) → In d (fork_disks u twin true o (blanks s)) → d.uuid ≡ twin → d.read_only ≡ true
  unfolding with_disk
  twin_disk u twin p None d h e = let r : HasRecord s twin = disk_recorded (blanks s) s w (are_blanks s w) d twin h e in absurd (no_twin u twin p r.0 r.1 r.2)
  twin_disk u twin p (Some b) d h e = elim (In-insert _ (record { uuid = twin; label = b.label; origin = Some u; read_only = true; sectors = b.sectors }) (blanks s) d h) [
    | inl q ↦ ap (λ (x : Disk). x.read_only) q
    | inr i ↦ (let r : HasRecord s twin = disk_recorded (blanks s) s w (are_blanks s w) d twin i e in absurd (no_twin u twin p r.0 r.1 r.2))
  ]

  pub twin_marked : (u twin : List ℕ) → IsPassed s (Snapshot u twin) → IsMarked twin (shape_next s (Snapshot u twin))
  unfolding disks_next
  twin_marked u twin p r h e =
      let d : (d : Disk) × In d (disks_next (blanks s) s (Snapshot u twin)) × (r ≡ record_of d) = its_disk (Snapshot u twin) p r h in
      ap (λ (x : DiskRecord). x.read_only) d.2 ∙ twin_disk u twin p (find (is_disk u) (blanks s)) d.0 d.1 (sym (ap (λ (x : DiskRecord). x.uuid) d.2) ∙ e)

-- tracking does not begin for a disk for reading alone
pub not_begun : (s : Shape) (u : List ℕ) → IsMarked u s → IsPassed s (Track u true) → ⊥
unfolding is_unknown is_read_only named
not_begun s u m p = by (disk_record u s) refl p.unknown p.read_only
  where
    by : (o : Option DiskRecord) → disk_record u s ≡ o → is_none o ≡ false → of_some (λ (r : DiskRecord). r.read_only) o ≡ false → ⊥
    by None e known writable = true≢false known
    by (Some r) e known writable =
        let f : In r s.records × (bytes_eq r.uuid u ≡ true) = find-some (λ (q : DiskRecord). bytes_eq q.uuid u) s.records r e in
        true≢false (sym (m r f.0 (bytes_eq-same r.uuid u f.1)) ∙ writable)
