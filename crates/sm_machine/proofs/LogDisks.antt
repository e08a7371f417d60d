-- Good logs are those of disks as their users see them: each has a bit for each piece of its disk; and a snapshot is a disk for reading alone.
use Rattle.std.proofs.Common.{◌≡◌, ℕ, Bool, true, false, List, [], ◌∷◌, map, length, Option, Some, None, refl, sym, ap, ◌∙◌, subst}
use Rattle.std.specs.List.{filter}
use Rattle.std.specs.Str.{bytes_eq}
use Rattle.std.proofs.lemmas.List.{length-replicate}
use Rattle.common_laws.specs.Lists.{In, when}
use Rattle.common_laws.proofs.Bytes.{bytes_eq-same, bytes_eq-refl}
use Rattle.common_laws.proofs.Lists.{Distinct-key, In-insert_old, In-map, In-map_at, filter-In, find-only, find-some}
use Rattle.sm_log.specs.Logs.{Log, piece_count}
use Rattle.sm_machine.specs.Disks.{Disk, filled, is_disk, on_disk, with_disk}
use Rattle.sm_machine.specs.Shapes.{Shape, ImageRow, DiskRecord, image_uuid, is_image_of, disk_image, disk_record}
use Rattle.sm_machine.specs.Refusals.{is_snapshot, of_some, with_image_of}
use Rattle.sm_machine.specs.Steps.{fork_disks}
use Rattle.sm_machine.specs.Tracking.{IsGoodLog}
use Rattle.sm_machine.specs.WellFormed.{IsWellFormed, HasImage, HasRecord, AreDisksOf, record_of}
use Rattle.sm_machine.proofs.Attaches.{is_its_image}
use Rattle.sm_machine.proofs.Guests.{disk_image_is, disks_own}

-- ---- disks of zeros

blank : Shape → DiskRecord → Disk
blank s r = record { uuid = r.uuid; label = r.label; origin = r.origin; read_only = r.read_only; sectors = filled (with_image_of (λ (i : ImageRow). i.size) (disk_image r.uuid s)) 0 }

-- the disks of a shape, each of zeros
pub blanks : Shape → List Disk
blanks s = map (blank s) s.records

recorded_blanks : (s : Shape) (rs : List DiskRecord) → map record_of (map (blank s) rs) ≡ rs
unfolding blank
recorded_blanks s [] = refl
recorded_blanks s (r ∷ rs) = ap (λ (x : List DiskRecord). r ∷ x) (recorded_blanks s rs)

pub are_blanks : (s : Shape) → IsWellFormed s → AreDisksOf (blanks s) s
unfolding blanks blank
are_blanks s w = record {
  recorded = recorded_blanks s s.records;
  sizes = λ d i h k hid e.
      (let r : (r : DiskRecord) × In r s.records × (d ≡ blank s r) = In-map (blank s) s.records d h in
      let own : image_uuid i.name ≡ r.0.uuid = e ∙ ap (λ (x : Disk). x.uuid) r.2 in
      let found : disk_image r.0.uuid s ≡ Some i = disk_image_is s w r.0.uuid i k (is_its_image i r.0.uuid hid own) in
      ap (λ (x : Disk). length x.sectors) r.2 ∙ (length-replicate _ _ ∙ ap (with_image_of (λ (i : ImageRow). i.size)) found));
}

-- ---- a log and its disk

-- a log is that of a disk
pub record IsOfDisk (d : Disk) (l : Log) : Type 0 where
  pub named : d.uuid ≡ l.disk
  pub pieces : length l.bits ≡ piece_count (length d.sectors)

module _ (disks : List Disk) (s : Shape) (w : IsWellFormed s) (a : AreDisksOf disks s) where
  pub its_record : (d : Disk) → In d disks → In (record_of d) s.records
  its_record d h = subst (In (record_of d)) a.recorded (In-map_at record_of disks d h)

  record_found : (d : Disk) → In d disks → disk_record d.uuid s ≡ Some (record_of d)
  record_found d h = find-only (λ (x : DiskRecord). bytes_eq x.uuid d.uuid) s.records (record_of d) (its_record d h) (bytes_eq-refl d.uuid)
      (λ x j m. Distinct-key (λ (y : DiskRecord). y.uuid) s.records x (record_of d) w.one_record j (its_record d h) (bytes_eq-same x.uuid d.uuid m))

  -- the disk of a record
  pub disk_there : (u : List ℕ) → HasRecord s u → (d : Disk) × In d disks × (d.uuid ≡ u)
  disk_there u h =
      let r : (d : Disk) × In d disks × (h.0 ≡ record_of d) = In-map record_of disks h.0 (subst (λ (rs : List DiskRecord). In h.0 rs) (sym a.recorded) h.1) in
      (r.0, r.1, sym (ap (λ (x : DiskRecord). x.uuid) r.2) ∙ h.2)

  -- the image of a disk
  pub image_there : (d : Disk) → In d disks → (i : ImageRow) × (disk_image d.uuid s ≡ Some i) × (length d.sectors ≡ i.size)
  image_there d h =
      let k : HasImage s d.uuid = w.disks (record_of d) (its_record d h) in
      (k.0, disk_image_is s w d.uuid k.0 k.1 (is_its_image k.0 d.uuid k.2 k.3), a.sizes d k.0 h k.1 k.2 k.3)

  pub log_disk : (l : Log) → IsGoodLog s l → (d : Disk) → In d disks → d.uuid ≡ l.disk → IsOfDisk d l
  log_disk l g d h e =
      let i : (i : ImageRow) × (disk_image d.uuid s ≡ Some i) × (length d.sectors ≡ i.size) = image_there d h in
      let n : length l.bits ≡ piece_count i.0.size = g.pieces i.0 (subst (λ (v : List ℕ). disk_image v s ≡ Some i.0) e i.1) in
      record {
        named = e;
        pieces = n ∙ ap piece_count (sym i.2);
      }

  pub disk_recorded : (d : Disk) (u : List ℕ) → In d disks → d.uuid ≡ u → HasRecord s u
  disk_recorded d u h e = (record_of d, its_record d h, e)

  pub disk_pieces_are : (d : Disk) (l : Log) → In d disks → IsOfDisk d l → (i : ImageRow) → disk_image l.disk s ≡ Some i → length l.bits ≡ piece_count i.size
  disk_pieces_are d l h o i e =
      let k : In i s.images × (is_image_of l.disk i ≡ true) = find-some (is_image_of l.disk) s.images i e in
      let own : (i.hidden ≡ false) × (image_uuid i.name ≡ l.disk) = disks_own s w l.disk i k.1 in
      let same : length d.sectors ≡ i.size = a.sizes d i h k.0 own.0 (own.1 ∙ sym o.named) in
      o.pieces ∙ ap piece_count same

  -- whether a disk is a snapshot
  pub disk_snapshot : (d : Disk) (u : List ℕ) → In d disks → d.uuid ≡ u → is_snapshot u s ≡ d.read_only
  disk_snapshot d u h e =
      let f : disk_record u s ≡ Some (record_of d) = subst (λ (v : List ℕ). disk_record v s ≡ Some (record_of d)) e (record_found d h) in
      ap (of_some (λ (r : DiskRecord). r.read_only)) f

-- ---- disks that stay

-- a disk that is there, as long, and for reading alone where it was
pub record Stays (disks : List Disk) (d : Disk) : Type 0 where
  pub now : Disk
  pub there : In now disks
  pub uuid : now.uuid ≡ d.uuid
  pub long : length now.sectors ≡ length d.sectors
  pub read_only : now.read_only ≡ d.read_only

pub stays_same : (disks : List Disk) (d : Disk) → In d disks → Stays disks d
stays_same disks d h = record { now = d; there = h; uuid = refl; long = refl; read_only = refl }

pub stays_beside : (x : Disk) (disks : List Disk) (d : Disk) → In d disks → Stays (with_disk x disks) d
unfolding with_disk
stays_beside x disks d h = record { now = d; there = In-insert_old _ x disks d h; uuid = refl; long = refl; read_only = refl }

pub stays_forked : (u twin : List ℕ) (read_only : Bool) (o : Option Disk) (disks : List Disk) (d : Disk) → In d disks → Stays (fork_disks u twin read_only o disks) d
stays_forked u twin read_only None disks d h = stays_same disks d h
stays_forked u twin read_only (Some b) disks d h = stays_beside (record { uuid = twin; label = b.label; origin = Some u; read_only = read_only; sectors = b.sectors }) disks d h

pub stays_kept : (t : Disk → Bool) (disks : List Disk) (d : Disk) → In d disks → t d ≡ true → Stays (filter t disks) d
stays_kept t disks d h e = record { now = d; there = filter-In t disks d h e; uuid = refl; long = refl; read_only = refl }

-- what a change of one disk keeps
pub record KeepsDisk (f : Disk → Disk) (d : Disk) : Type 0 where
  pub uuid : (f d).uuid ≡ d.uuid
  pub long : length (f d).sectors ≡ length d.sectors
  pub read_only : (f d).read_only ≡ d.read_only

pub stays_changed : (u : List ℕ) (f : Disk → Disk) (disks : List Disk) (d : Disk) → In d disks → (d.uuid ≡ u → KeepsDisk f d) → Stays (on_disk u f disks) d
stays_changed u f disks d h keeps = by (is_disk u d) refl
  where
    changed : In (when (is_disk u d) f d) (on_disk u f disks)
    changed = In-map_at (λ (x : Disk). when (is_disk u x) f x) disks d h

    by : (b : Bool) → is_disk u d ≡ b → Stays (on_disk u f disks) d
    by true e =
        let k : KeepsDisk f d = keeps (bytes_eq-same d.uuid u e) in
        record { now = f d; there = subst (λ (b : Bool). In (when b f d) (on_disk u f disks)) e changed; uuid = k.uuid; long = k.long; read_only = k.read_only }
    by false e = record { now = d; there = subst (λ (b : Bool). In (when b f d) (on_disk u f disks)) e changed; uuid = refl; long = refl; read_only = refl }
