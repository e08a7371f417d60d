-- The disks once a guest wrote: the written disk alone has other sectors.
use Rattle.std.proofs.Common.{◌≡◌, ◌≢◌, ◌⊎◌, inl, inr, ℕ, ◌+◌, ◌*◌, ◌<◌, ◌≤◌, nat_lt, Bool, true, false, cond, List, [], ◌∷◌, length, map, Option, Some, None, refl, sym, ap, ap₂, ◌∙◌, arith}
use Rattle.std.proofs.Math.Path.{fun_ext}
use Rattle.std.proofs.lemmas.Bool.{lt-ltb}
use Rattle.std.specs.Option.{option_map}
use Rattle.std.specs.List.{slice_get}
use Rattle.std.specs.Str.{bytes_eq}
use Rattle.common_laws.specs.Lists.{In, numbers, when, ◌>>=◌}
use Rattle.common_laws.proofs.Bytes.{bytes_eq-refl, bytes_eq-same}
use Rattle.common_laws.proofs.Lists.{In-map_at}
use Rattle.sm_base.specs.declared.names.Name.{Name}
use Rattle.sm_disk.specs.Held.{Puts}
use Rattle.sm_disk.specs.Sectors.{sector, zeros}
use Rattle.vg_meta.specs.Tables.{VolumeTable, name_eq}
use Rattle.vg_meta.proofs.NameLaws.{name_eq-true, name_eq-false}
use Rattle.sm_machine.specs.Disks.{Disk, is_disk, on_disk, overwritten, cut_sectors}
use Rattle.sm_machine.specs.Runs.{Face, face}
use Rattle.sm_machine.specs.Shapes.{chain_limit}
use Rattle.sm_machine.specs.Steps.{written_disk}
use Rattle.sm_record.specs.declared.records.Record.{Record}
use Rattle.sm_standing.specs.Answering.{IsClosed}
use Rattle.sm_standing.specs.Contents.{Content, record_of}
use Rattle.sm_standing.specs.Images.{Image, ImageAnswer, here, up, held_or, image_of, answer_of, walk, image_reads, sectors_read}
use Rattle.sm_standing.specs.Standing.{disks, disk_at, disk_in, standing_volume}
use Rattle.sm_standing.proofs.DiskChanges.{disks_changed}
use Rattle.sm_standing.proofs.WalkLaws.{walk_same, turn-up}
use Rattle.sm_ready.specs.Written.{HasBytes}
use Rattle.sm_ready.proofs.WrittenLaws.{read_of}
use Rattle.cmd_guest.proofs.SectorLists.{length_over, length_read, over_written, sector_over}

-- so many sectors of these bytes, from one on, were written into the image x of content c, which is d then
pub record IsWritten (c d : Content) (x : Name) (at n : ℕ) (bytes : List ℕ) : Type 0 where
  pub table : d.table ≡ c.table
  pub recorded : (v : List ℕ) → record_of d v ≡ record_of c v
  pub others : (m : Name) → m ≢ x → image_of d m ≡ image_of c m
  pub was : Image
  pub now : Image
  pub before : image_of c x ≡ Some was
  pub after : image_of d x ≡ Some now
  pub size : now.size ≡ was.size
  pub parent : now.parent ≡ was.parent
  pub inside : (k : ℕ) → k < n → now.own (at + k) ≡ Some (sector bytes k)
  pub outside : (k : ℕ) → (k < at) ⊎ (at + n ≤ k) → now.own k ≡ was.own k
  pub fits : at + n ≤ was.size
  pub no_child : (m : Name) (i : Image) → image_of c m ≡ Some i → i.parent ≢ Some x

-- the sectors of a disk, written over
abbrev pub over : ℕ → ℕ → List ℕ → Disk → Disk
over at n bytes d = written_disk at (cut_sectors n bytes) d

module _ (c d : Content) (x : Name) (at n : ℕ) (bytes : List ℕ) (h : IsWritten c d x at n bytes) where
  -- ---- other images read as before

  closed : (k : ℕ) → IsClosed (λ m. m ≢ x) (λ m. answer_of k (image_of c m))
  closed k = record { closed = λ m p other sends same. let w = turn-up k (image_of c m) p sends in h.no_child m w.image w.there (w.parent ∙ ap Some same) }

  reads_other : (m : Name) → m ≢ x → (k : ℕ) → image_reads d m k ≡ image_reads c m k
  unfolding image_reads
  reads_other m other k = walk_same (λ m. m ≢ x) (λ m. answer_of k (image_of c m)) (λ m. answer_of k (image_of d m)) (closed k) (λ m apart. ap (answer_of k) (h.others m apart)) _ m other

  sectors_other : (m : Name) → m ≢ x → sectors_read d m ≡ sectors_read c m
  unfolding sectors_read
  sectors_other m other =
      ap₂ (λ (o : Option Image) (f : ℕ → List ℕ). elim o as (λ o. List (List ℕ)) [ None ↦ [] | Some i ↦ map f (numbers 0 i.size) ]) (h.others m other) (fun_ext (reads_other m other))

  -- ---- and the written one as it is written

  reads_inside : (k : ℕ) → k < n → image_reads d x (at + k) ≡ sector bytes k
  unfolding image_reads walk answer_of
  reads_inside k below =
      ap (λ (a : ImageAnswer). elim a as (λ a. List ℕ) [ here b ↦ b | up p ↦ walk 29 (λ m. answer_of (at + k) (image_of d m)) p ])
      (ap (answer_of (at + k)) h.after
      ∙ ap₂ (λ (b : Bool) (o : Option (List ℕ)). cond b (held_or o h.now.parent) (here zeros)) (lt-ltb (at + k) h.now.size (omega (arith, below, h.fits, h.size))) (h.inside k below))

  same_answer : (k : ℕ) → h.now.own k ≡ h.was.own k → (m : Name) → answer_of k (image_of d m) ≡ answer_of k (image_of c m)
  unfolding answer_of
  same_answer k own m = by (name_eq m x) refl
    where
      by : (b : Bool) → name_eq m x ≡ b → answer_of k (image_of d m) ≡ answer_of k (image_of c m)
      by false other = ap (answer_of k) (h.others m (name_eq-false m x other))
      by true is =
          let same = name_eq-true m x is in
          ap (λ y. answer_of k (image_of d y)) same ∙ ap (answer_of k) h.after
          ∙ ap₂ (λ (z : ℕ) (a : ImageAnswer). cond (nat_lt k z) a (here zeros)) h.size (ap₂ held_or own h.parent)
          ∙ sym (ap (λ y. answer_of k (image_of c y)) same ∙ ap (answer_of k) h.before)

  reads_outside : (k : ℕ) → (k < at) ⊎ (at + n ≤ k) → image_reads d x k ≡ image_reads c x k
  unfolding image_reads
  reads_outside k apart = ap (λ (f : Name → ImageAnswer). walk chain_limit f x) (fun_ext (same_answer k (h.outside k apart)))

  sectors_own : sectors_read d x ≡ overwritten at (cut_sectors n bytes) (sectors_read c x)
  sectors_own =
      read_of d x h.now h.after ∙ ap (λ z. map (image_reads d x) (numbers 0 z)) h.size
      ∙ over_written (image_reads c x) (image_reads d x) bytes at n h.was.size h.fits reads_inside (λ k below apart. reads_outside k apart)
      ∙ ap (overwritten at (cut_sectors n bytes)) (sym (read_of c x h.was h.before))

  -- ---- the disks

  module _ (u : List ℕ) (stands : standing_volume c.table u ≡ Some x) (owner : (v : List ℕ) → standing_volume c.table v ≡ Some x → v ≡ u) where
    shown : (e : Content) (v : List ℕ) → e.table ≡ c.table → ((w : List ℕ) → record_of e w ≡ record_of c w) → disk_at e v ≡ (standing_volume c.table v >>= (λ m. record_of c v >>= (λ r. Some (disk_in e v r m))))
    unfolding disk_at
    shown e v table recorded =
        ap (λ (t : VolumeTable). standing_volume t v >>= (λ m. record_of e v >>= (λ r. Some (disk_in e v r m)))) table
        ∙ ap (λ (o : Option Record). standing_volume c.table v >>= (λ m. o >>= (λ r. Some (disk_in e v r m)))) (recorded v)

    own : disk_at d u ≡ option_map (over at n bytes) (disk_at c u)
    own = shown d u h.table h.recorded ∙ ap (λ (y : Option Name). y >>= (λ m. record_of c u >>= (λ r. Some (disk_in d u r m)))) stands ∙ by (record_of c u)
        ∙ sym (ap (option_map (over at n bytes)) (shown c u refl (λ w. refl) ∙ ap (λ (y : Option Name). y >>= (λ m. record_of c u >>= (λ r. Some (disk_in c u r m)))) stands))
      where
        by : (o : Option Record) → (o >>= (λ r. Some (disk_in d u r x))) ≡ option_map (over at n bytes) (o >>= (λ r. Some (disk_in c u r x)))
        by None = refl
        by (Some r) = ap (λ (ss : List (List ℕ)). let e : Disk = record { uuid = u; label = r.label; origin = r.origin; read_only = r.read_only; sectors = ss } in Some e) sectors_own

    other : (v : List ℕ) → v ≢ u → disk_at d v ≡ disk_at c v
    other v apart = shown d v h.table h.recorded ∙ by (standing_volume c.table v) refl ∙ sym (shown c v refl (λ w. refl))
      where
        of : (m : Name) (o : Option Record) → m ≢ x → (o >>= (λ r. Some (disk_in d v r m))) ≡ (o >>= (λ r. Some (disk_in c v r m)))
        of m None away = refl
        of m (Some r) away = ap (λ (ss : List (List ℕ)). let e : Disk = record { uuid = v; label = r.label; origin = r.origin; read_only = r.read_only; sectors = ss } in Some e) (sectors_other m away)

        by : (y : Option Name) → standing_volume c.table v ≡ y → (y >>= (λ m. record_of c v >>= (λ r. Some (disk_in d v r m)))) ≡ (y >>= (λ m. record_of c v >>= (λ r. Some (disk_in c v r m))))
        by None e = refl
        by (Some m) e = of m (record_of c v) (λ same. apart (owner v (e ∙ ap Some same)))

    pub disks_written : disks d ≡ on_disk u (over at n bytes) (disks c)
    disks_written = disks_changed c d u (over at n bytes) (λ e. refl) own other

-- ---- what the machine's disks are after it, whatever was written

module _ (c : Content) (x : Name) (u : List ℕ) (at n : ℕ) (bytes : List ℕ) (i : Image) (there : image_of c x ≡ Some i) (fits : at + n ≤ i.size)
    (all : (e : Disk) → In e (disks c) → e.uuid ≡ u → e.sectors ≡ sectors_read c x) where
  over_face : (e : Disk) → In e (disks c) → face (when (is_disk u e) (over at n bytes) e) ≡ face e
  over_face e among = by (is_disk u e) refl
    where
      by : (b : Bool) → is_disk u e ≡ b → face (when b (over at n bytes) e) ≡ face e
      by false is = refl
      by true is =
          let read = all e among (bytes_eq-same e.uuid u is) ∙ read_of c x i there in
          ap (λ (k : ℕ). let f : Face = record { uuid = e.uuid; label = e.label; origin = e.origin; read_only = e.read_only; size = k } in f)
          (ap (λ ss. length (overwritten at (cut_sectors n bytes) ss)) read ∙ length_over (image_reads c x) bytes at n i.size fits ∙ sym (ap length read ∙ length_read (image_reads c x) i.size))

  pub has_bytes : (e : Disk) → In e (disks c) → e.uuid ≡ u → length bytes ≡ 512 * n → HasBytes (disks c) (on_disk u (over at n bytes) (disks c)) u (Puts at bytes)
  has_bytes e among named long = record {
    faces = map_alike_in (disks c) over_face;
    bytes = λ k value puts. record {
      disk = when (is_disk u e) (over at n bytes) e;
      is_there = In-map_at (λ y. when (is_disk u y) (over at n bytes) y) (disks c) e among;
      is_named = ap (λ b. (when b (over at n bytes) e).uuid) mine ∙ named;
      holds = ap (λ b. slice_get ((when b (over at n bytes) e).sectors) k) mine
          ∙ ap (λ ss. slice_get (overwritten at (cut_sectors n bytes) ss) k) (all e among named ∙ read_of c x i there)
          ∙ sector_over (image_reads c x) bytes at n i.size k fits puts.0.0 (omega (arith, puts.0.1, long)) ∙ ap Some (sym puts.1);
    };
  }
    where
      mine : is_disk u e ≡ true
      mine = ap (λ v. bytes_eq v u) named ∙ bytes_eq-refl u

      map_alike_in : (es : List Disk) → ((y : Disk) → In y es → face (when (is_disk u y) (over at n bytes) y) ≡ face y) → map face (on_disk u (over at n bytes) es) ≡ map face es
      map_alike_in [] same = refl
      map_alike_in (y ∷ es) same = ap₂ (λ f fs. f ∷ fs) (same y (inl refl)) (map_alike_in es (λ z j. same z (inr j)))
