-- A guest's write, at every moment: the disks are those from after it, but sectors that they might have had before.
use Rattle.std.proofs.Common.{◌≡◌, ◌≢◌, ◌⊎◌, inl, inr, ⊎_elim, ℕ, zero, suc, ◌+◌, ◌<◌, nat_lt, cond, List, [], length, map, option_map, Option, Some, None, refl, sym, ap, ap₂, ◌∙◌, subst, arith}
use Rattle.std.specs.Prelude.{slice_get}
use Rattle.std.proofs.lemmas.Option.{none-some, same_Some, slice_get-map, slice_get_within}
use Rattle.std.proofs.lemmas.List.{length-map}
use Rattle.sm_base.specs.declared.names.Name.{Name}
use Rattle.sm_disk.specs.Sectors.{zeros}
use Rattle.sm_machine.specs.Disks.{Disk}
use Rattle.common_laws.specs.Lists.{In, numbers, ◌>>=◌}
use Rattle.sm_machine.specs.Runs.{face, HasSector}
use Rattle.sm_machine.specs.Shapes.{chain_limit}
use Rattle.sm_record.specs.declared.records.Record.{Record}
use Rattle.sm_standing.specs.Contents.{Content, record_of}
use Rattle.sm_standing.specs.Images.{Image, ImageAnswer, here, up, held_or, image_of, answer_of, walk, image_reads, sectors_read}
use Rattle.sm_standing.specs.Standing.{standing_volume, disk_at, disk_in, disks}
use Rattle.sm_standing.specs.Answering.{IsClosed}
use Rattle.sm_standing.proofs.DiskLists.{disk_parts, disks_at, at_disks}
use Rattle.sm_standing.proofs.WalkLaws.{walk_same, turn-up, turn-within}
use Rattle.sm_run.specs.Between.{IsAlready, HadSector}
use Rattle.sm_ready.specs.Written.{HasBytes}

-- ---- one sector of a disk

pub slice-numbers : (a n k : ℕ) → k < n → slice_get (numbers a n) k ≡ Some (a + k)
unfolding numbers
slice-numbers a zero k below = absurd (omega (arith, below))
slice-numbers a (suc n) zero below = ap Some (omega arith)
slice-numbers a (suc n) (suc k) below = slice-numbers (a + 1) n k (omega (arith, below)) ∙ ap Some (omega arith)

pub length-numbers : (a n : ℕ) → length (numbers a n) ≡ n
unfolding numbers
length-numbers a zero = refl
length-numbers a (suc n) = ap suc (length-numbers (a + 1) n)

pub read_of : (c : Content) (n : Name) (i : Image) → image_of c n ≡ Some i → sectors_read c n ≡ map (image_reads c n) (numbers 0 i.size)
unfolding sectors_read
read_of c n i is = ap (λ (o : Option Image). elim o as (λ o. List (List ℕ)) [ None ↦ [] | Some x ↦ map (image_reads c n) (numbers 0 x.size) ]) is

sector_read : (c : Content) (n : Name) (i : Image) (k : ℕ) → image_of c n ≡ Some i → k < i.size → slice_get (sectors_read c n) k ≡ Some (image_reads c n k)
sector_read c n i k is below =
    ap (λ xs. slice_get xs k) (read_of c n i is) ∙ slice_get-map (image_reads c n) (numbers 0 i.size) k ∙ ap (option_map (image_reads c n)) (slice-numbers 0 i.size k below) ∙ ap (λ j. Some (image_reads c n j)) (omega arith)

record IsRead (c : Content) (n : Name) (k : ℕ) (bytes : List ℕ) : Type 0 where
  image : Image
  there : image_of c n ≡ Some image
  below : k < image.size
  read : image_reads c n k ≡ bytes

read_sector : (c : Content) (n : Name) (k : ℕ) (bytes : List ℕ) → slice_get (sectors_read c n) k ≡ Some bytes → IsRead c n k bytes
unfolding sectors_read
read_sector c n k bytes is = by (image_of c n) refl
  where
    none_in : (o : Option Image) → image_of c n ≡ o → slice_get (elim o as (λ o. List (List ℕ)) [ None ↦ [] | Some x ↦ map (image_reads c n) (numbers 0 x.size) ]) k ≡ Some bytes
    none_in o e = ap (λ (o : Option Image). slice_get (elim o as (λ o. List (List ℕ)) [ None ↦ [] | Some x ↦ map (image_reads c n) (numbers 0 x.size) ]) k) (sym e) ∙ is

    by : (o : Option Image) → image_of c n ≡ o → IsRead c n k bytes
    by None e = absurd (none-some bytes (none_in None e))
    by (Some i) e =
        let below : k < i.size = omega (arith, slice_get_within (map (image_reads c n) (numbers 0 i.size)) k bytes (none_in (Some i) e), length-map (numbers 0 i.size) (image_reads c n), length-numbers 0 i.size) in
        record { image = i; there = e; below = below; read = same_Some (image_reads c n k) bytes (sym (sector_read c n i k e below) ∙ is) }

-- ---- one image was written to

pub record IsWrittenOver (c d : Content) (x : Name) (W : ℕ → List ℕ → Type 0) : Type 0 where
  pub table : d.table ≡ c.table
  pub recorded : (u : List ℕ) → record_of d u ≡ record_of c u
  pub others : (n : Name) → n ≢ x → image_of d n ≡ image_of c n
  pub was : Image
  pub now : Image
  pub before : image_of c x ≡ Some was
  pub after : image_of d x ≡ Some now
  pub size : now.size ≡ was.size
  pub parent : now.parent ≡ was.parent
  pub own : (k : ℕ) → (now.own k ≡ was.own k) ⊎ ((bytes : List ℕ) × W k bytes × (now.own k ≡ Some bytes))
  pub no_child : (n : Name) (i : Image) → image_of c n ≡ Some i → i.parent ≢ Some x

closed : (c d : Content) (x : Name) (W : ℕ → List ℕ → Type 0) (k : ℕ) → IsWrittenOver c d x W → IsClosed (λ n. n ≢ x) (λ n. answer_of k (image_of c n))
closed c d x W k h = record { closed = λ n p other sends same. let w = turn-up k (image_of c n) p sends in h.no_child n w.image w.there (w.parent ∙ ap Some same) }

away : (c d : Content) (x : Name) (W : ℕ → List ℕ → Type 0) (k most : ℕ) (n : Name) → IsWrittenOver c d x W → n ≢ x → walk most (λ m. answer_of k (image_of d m)) n ≡ walk most (λ m. answer_of k (image_of c m)) n
away c d x W k most n h other = walk_same (λ n. n ≢ x) (λ m. answer_of k (image_of c m)) (λ m. answer_of k (image_of d m)) (closed c d x W k h) (λ m apart. ap (answer_of k) (h.others m apart)) most n other

walk_on : (k : ℕ) (f g : Name → ImageAnswer) (t : ImageAnswer) → ((p : Name) → t ≡ up p → walk k g p ≡ walk k f p)
    → elim t as (λ t. List ℕ) [ here b ↦ b | up p ↦ walk k g p ] ≡ elim t as (λ t. List ℕ) [ here b ↦ b | up p ↦ walk k f p ]
walk_on k f g (here b) rest = refl
walk_on k f g (up p) rest = rest p refl

walk_first : (most : ℕ) (g : Name → ImageAnswer) (n : Name) (bytes : List ℕ) → 0 < most → g n ≡ here bytes → walk most g n ≡ bytes
unfolding walk
walk_first zero g n bytes some is = absurd (omega (arith, some))
walk_first (suc most) g n bytes some is = ap (λ t. elim t as (λ t. List ℕ) [ here b ↦ b | up p ↦ walk most g p ]) is

turn_same : (k : ℕ) (o q : Option Image) (i j : Image) → o ≡ Some i → q ≡ Some j → j.size ≡ i.size → j.parent ≡ i.parent → j.own k ≡ i.own k → answer_of k q ≡ answer_of k o
unfolding answer_of
turn_same k o q i j is now size parent own =
    ap (answer_of k) now ∙ ap₂ (λ (n : ℕ) (t : ImageAnswer). cond (nat_lt k n) t (here zeros)) size (ap₂ held_or own parent) ∙ sym (ap (answer_of k) is)

-- the written image, where the sector is as it was
at_written : (c d : Content) (x : Name) (W : ℕ → List ℕ → Type 0) (k most : ℕ) (h : IsWrittenOver c d x W) → h.now.own k ≡ h.was.own k
    → walk most (λ m. answer_of k (image_of d m)) x ≡ walk most (λ m. answer_of k (image_of c m)) x
unfolding walk
at_written c d x W k zero h own = refl
at_written c d x W k (suc most) h own =
    ap (λ t. elim t as (λ t. List ℕ) [ here b ↦ b | up p ↦ walk most (λ m. answer_of k (image_of d m)) p ]) (turn_same k (image_of c x) (image_of d x) h.was h.now h.before h.after h.size h.parent own)
    ∙ walk_on most (λ m. answer_of k (image_of c m)) (λ m. answer_of k (image_of d m)) (answer_of k (image_of c x))
    (λ p sends. let w = turn-up k (image_of c x) p sends in away c d x W k most p h (λ same. h.no_child x w.image w.there (w.parent ∙ ap Some same)))

-- what is read of an image is what was read, or of the written one the bytes that were written
ReadNow : (c d : Content) (x : Name) (W : ℕ → List ℕ → Type 0) (k : ℕ) (n : Name) → Type 0
ReadNow c d x W k n = (image_reads d n k ≡ image_reads c n k) ⊎ ((n ≡ x) × (bytes : List ℕ) × W k bytes × (image_reads d n k ≡ bytes))

read_now : (c d : Content) (x : Name) (W : ℕ → List ℕ → Type 0) (k : ℕ) (n : Name) (h : IsWrittenOver c d x W) → (n ≡ x → k < h.now.size) → (n ≡ x) ⊎ (n ≢ x) → ReadNow c d x W k n
unfolding ReadNow image_reads
read_now c d x W k n h below (inr other) = inl (away c d x W k chain_limit n h other)
read_now c d x W k n h below (inl same) = by (h.own k)
  where
    by : (h.now.own k ≡ h.was.own k) ⊎ ((bytes : List ℕ) × W k bytes × (h.now.own k ≡ Some bytes))
        → (walk chain_limit (λ m. answer_of k (image_of d m)) n ≡ walk chain_limit (λ m. answer_of k (image_of c m)) n)
        ⊎ ((n ≡ x) × (bytes : List ℕ) × W k bytes × (walk chain_limit (λ m. answer_of k (image_of d m)) n ≡ bytes))
    by (inl own) = inl (subst (λ y. walk chain_limit (λ m. answer_of k (image_of d m)) y ≡ walk chain_limit (λ m. answer_of k (image_of c m)) y) (sym same) (at_written c d x W k chain_limit h own))
    by (inr w) = inr (
      same,
      w.0,
      w.1,
      ap (walk chain_limit (λ m. answer_of k (image_of d m))) same
          ∙ walk_first chain_limit (λ m. answer_of k (image_of d m)) x w.0 (omega arith) (turn-within k (image_of d x) h.now h.after (below same) ∙ ap (λ o. held_or o h.now.parent) w.2),
    )

-- the image of the one content has the size of the other's
was_there : (c d : Content) (x : Name) (W : ℕ → List ℕ → Type 0) (n : Name) (i : Image) (h : IsWrittenOver c d x W) → image_of d n ≡ Some i → (n ≡ x) ⊎ (n ≢ x) → (j : Image) × (image_of c n ≡ Some j) × (i.size ≡ j.size)
was_there c d x W n i h is (inr other) = (i, sym (h.others n other) ∙ is, refl)
was_there c d x W n i h is (inl same) =
    (h.was, ap (image_of c) same ∙ h.before, ap (λ (y : Image). y.size) (same_Some i h.now (sym is ∙ ap (image_of d) same ∙ h.after)) ∙ h.size)

written_below : (c d : Content) (x : Name) (W : ℕ → List ℕ → Type 0) (n : Name) (k : ℕ) (i : Image) (h : IsWrittenOver c d x W) → image_of d n ≡ Some i → k < i.size → n ≡ x → k < h.now.size
written_below c d x W n k i h is below same =
    subst (λ (y : Image). k < y.size) (same_Some i h.now (sym is ∙ ap (image_of d) same ∙ h.after)) below

disk_shown : (c : Content) (u : List ℕ) (n : Name) (r : Record) → standing_volume c.table u ≡ Some n → record_of c u ≡ Some r → disk_at c u ≡ Some (disk_in c u r n)
unfolding disk_at
disk_shown c u n r standing recorded =
    ap (λ (x : Option Name). x >>= (λ n. record_of c u >>= (λ q. Some (disk_in c u q n)))) standing
    ∙ ap (λ (x : Option Record). x >>= (λ q. Some (disk_in c u q n))) recorded

-- the disks that a stop may leave of a write
pub written_already : (c d : Content) (x : Name) (u : List ℕ) (W : ℕ → List ℕ → Type 0) (was ds : List Disk) (before : List Disk → Type 0) → IsWrittenOver c d x W
    → ((v : List ℕ) → standing_volume c.table v ≡ Some x → v ≡ u) → HasBytes was ds u W → map face (disks d) ≡ map face was → before (disks c) → ((n : Name) → (n ≡ x) ⊎ (n ≢ x)) → IsAlready before ds (disks d)
unfolding ReadNow
written_already c d x u W was ds before h owner has faces might decide = record {
  faces = faces ∙ sym has.faces;
  sectors = λ v k bytes held. at v k bytes held.disk held.is_there held.is_named held.holds;
}
  where
    at : (v : List ℕ) (k : ℕ) (bytes : List ℕ) (e : Disk) → In e (disks d) → e.uuid ≡ v → slice_get e.sectors k ≡ Some bytes → HadSector before v k bytes ⊎ HasSector ds v k bytes
    at v k bytes e there named holds =
        let p = disk_parts d e.uuid e (disks_at d e there) in
        let r = read_sector d p.name k bytes (ap (λ (y : Disk). slice_get y.sectors k) (sym p.made) ∙ holds) in
        let old = was_there c d x W p.name r.image h r.there (decide p.name) in
        let standing : standing_volume c.table e.uuid ≡ Some p.name = ap (λ t. standing_volume t e.uuid) (sym h.table) ∙ p.standing in
        let shown = at_disks c e.uuid (disk_in c e.uuid p.entry p.name) (disk_shown c e.uuid p.name p.entry standing (sym (h.recorded e.uuid) ∙ p.recorded)) in
        ⊎_elim
        (λ same. inl (
          disks c,
          might,
          record {
            disk = disk_in c e.uuid p.entry p.name;
            is_there = shown;
            is_named = named;
            holds = sector_read c p.name old.0 k old.1 (omega (arith, r.below, old.2)) ∙ ap Some (sym same ∙ r.read);
          },
        ))
        (λ w. inr (subst (λ y. HasSector ds y k bytes) (sym (owner e.uuid (standing ∙ ap Some w.0)) ∙ named) (subst (λ b. HasSector ds u k b) (sym w.3 ∙ r.read) (has.bytes k w.1 w.2))))
        (read_now c d x W k p.name h (λ same. written_below c d x W p.name k r.image h r.there r.below same) (decide p.name))
