-- A disk of a sound image can be exported: so its file holds it.
use Rattle.std.proofs.Common.{◌≡◌, ◌⊎◌, inl, inr, ℕ, zero, suc, ◌+◌, ◌*◌, ◌/◌, ◌%◌, ◌^◌, ◌<◌, ◌≤◌, nat_lt, Bool, true, false, cond, List, [], ◌∷◌, length, map, Option, Some, None, Ok, refl, sym, ap, ◌∙◌, subst, arith}
use Rattle.std.specs.Prelude.{◌==◌, nat_le, All, IsTrue}
use Rattle.std.specs.Int.{is_power_of_two}
use Rattle.std.specs.List.{concat, flat_map, range_with_len}
use Rattle.std.proofs.Math.Nat.{mul-le-mul_right}
use Rattle.std.proofs.lemmas.List.{length-replicate}
use Rattle.std.proofs.lemmas.List.Elements.{All-cons, All-nil}
use Rattle.std.proofs.lemmas.List.FromFn.{length-map-range_with_len, get_or-map-range_with_len}
use Rattle.std.proofs.lemmas.Bool.{and_parts, leb-true, lt-ltb, le-ltb, cases_lt}
use Rattle.std.proofs.lemmas.Option.{none-some, same_Some}
use Rattle.common_laws.specs.Lists.{numbers, In, ◌>>=◌}
use Rattle.common_laws.proofs.Lists.{In-append}
use Rattle.sm_base.specs.Numbers.{IsGeometry}
use Rattle.sm_base.specs.Names.{IsName, IsUuid}
use Rattle.sm_base.specs.declared.names.Name.{Name}
use Rattle.sm_base.specs.declared.names.Name.TheVariants.{Mgt, Vhd, Raw, Old, Cbt, Clone, Inflate, Coalesce, Relink, Leaf}
use Rattle.sm_disk.specs.Sectors.{zeros}
use Rattle.vg_layout.proofs.StandingLaws.{plate_right}
use Rattle.vg_layout.specs.Opening.{GroupFound, plate_of}
use Rattle.vg_layout.specs.Places.{area_place}
use Rattle.vg_layout.specs.Sectors.{Plate, is_geometry}
use Rattle.vg_layout.proofs.StandingLaws.{plate_area}
use Rattle.vg_meta.specs.Tables.{IsTable, IsVolume, Row, VolumeTable}
use Rattle.vg_volumes.specs.Volumes.{piece}
use Rattle.vhd_layout.specs.Layouts.{Sectors, entry}
use Rattle.vhd_layout.specs.Contents.{own, size_at, value}
use Rattle.vhd_map.specs.Bitmaps.{is_set}
use Rattle.vhd_map.specs.Places.{blank}
use Rattle.sm_machine.specs.Disks.{Disk}
use Rattle.sm_machine.specs.Shapes.{chain_limit}
use Rattle.sm_standing.specs.Checks.{first_fault}
use Rattle.sm_standing.specs.Contents.{Content, row, sectors_of, size_of}
use Rattle.sm_standing.specs.Devices.{content_of}
use Rattle.sm_standing.specs.Images.{Image, ImageAnswer, here, up, answer_of, held_or, image_of, image_reads, raw_image, sectors_read, walk}
use Rattle.sm_standing.specs.Standing.{candidates, disk_at, in_order, standing_volume, uuids}
use Rattle.sm_standing.specs.Undone.{IsSameArea}
use Rattle.sm_standing.specs.Worlds.{with_table}
use Rattle.sm_standing.proofs.AreaLaws.{images_there}
use Rattle.sm_standing.proofs.DiskLists.{disk_sectors, disks_at}
use Rattle.sm_standing.proofs.DisksShown.{In-with_uuid, stands_listed}
use Rattle.sm_standing.proofs.PlainDisks.{all-In}
use Rattle.sm_standing.proofs.ImageLaws.{sectors_same}
use Rattle.sm_ready.proofs.NumberLaws.{whole_blocks}
use Rattle.vhd_image.proofs.MakingLaws.{header-proper}
use Rattle.vhd_stream.specs.Exports.{ExportOf, disk_blocks, exported}
use Rattle.vhd_stream.specs.Files.{FileOf, sector_at}
use Rattle.vhd_stream.specs.Laws.{AreExportable, IsExported, IsSoundImage}
use Rattle.vhd_stream.proofs.ExportLaws.{file-holds}
use Rattle.vhd_stream.proofs.ImageLaws.{stands_blocks}
use Rattle.vhd_stream.proofs.StandingLaws.{IsVhd, vhd-is, zeros-read}

abbrev IsLong : List ℕ → Type 0
IsLong s = length s ≡ 512

long-zeros : IsLong zeros
unfolding zeros
long-zeros = length-replicate {A = ℕ} 512 0

-- ---- a sector that is read has 512 bytes

module _ (c : Content) (whole : (p : ℕ) → IsLong (c.area p)) where
  long-volume : (n : Name) (p : ℕ) → IsLong (sectors_of c n p)
  unfolding sectors_of piece
  long-volume n p = whole _

  some_of : {A : Type 0} (b : Bool) (x : Option A) (y : A) → cond b x None ≡ Some y → x ≡ Some y
  some_of true x y h = h
  some_of false x y h = absurd (none-some y h)

  long-value : (v : Sectors) → ((p : ℕ) → IsLong (v p)) → (b k : ℕ) (bytes : List ℕ) → value v b k ≡ Some bytes → IsLong bytes
  unfolding value
  long-value v all b k bytes h = by (entry v b == blank) h
    where
      by : (e : Bool) → cond e None (cond (is_set (v (entry v b)) k) (Some (v (entry v b + (1 + k)))) None) ≡ Some bytes → IsLong bytes
      by true h = absurd (none-some bytes h)
      by false h = subst IsLong (same_Some (v (entry v b + (1 + k))) bytes (some_of (is_set (v (entry v b)) k) (Some (v (entry v b + (1 + k)))) bytes h)) (all (entry v b + (1 + k)))

  long-vhd : (u : List ℕ) (i : Image) → IsVhd c u i → (s : ℕ) (bytes : List ℕ) → i.own s ≡ Some bytes → IsLong bytes
  unfolding own
  long-vhd u i v s bytes h =
      long-value v.volume (λ p. subst (λ (w : Sectors). IsLong (w p)) (sym v.lies) (long-volume (Vhd u) p)) (s / c.block) (s % c.block) bytes
      (some_of (nat_lt s (size_at v.sectors v.volume)) (value v.volume (s / c.block) (s % c.block)) bytes (ap (λ (k : Image). k.own s) (sym v.is) ∙ h))

  raw-is : (u : List ℕ) (i : Image) → image_of c (Raw u) ≡ Some i → raw_image c (Raw u) ≡ i
  unfolding image_of
  raw-is u i h = by (row c (Raw u)) h
    where
      pick : (b : Bool) → cond b None (Some (raw_image c (Raw u))) ≡ Some i → raw_image c (Raw u) ≡ i
      pick true k = absurd (none-some i k)
      pick false k = same_Some (raw_image c (Raw u)) i k

      by : (o : Option Row) → (o >>= (λ (r : Row). cond r.fresh None (Some (raw_image c (Raw u))))) ≡ Some i → raw_image c (Raw u) ≡ i
      by None k = absurd (none-some i k)
      by (Some r) k = pick r.fresh k

  long-raw : (u : List ℕ) (i : Image) → image_of c (Raw u) ≡ Some i → (s : ℕ) (bytes : List ℕ) → i.own s ≡ Some bytes → IsLong bytes
  unfolding raw_image
  long-raw u i is s bytes h =
      let held = some_of (nat_lt s (size_of c (Raw u))) (Some (sectors_of c (Raw u) s)) bytes (ap (λ (k : Image). k.own s) (raw-is u i is) ∙ h) in
      subst IsLong (same_Some (sectors_of c (Raw u) s) bytes held) (long-volume (Raw u) s)

  long-own : (n : Name) (i : Image) → image_of c n ≡ Some i → (s : ℕ) (bytes : List ℕ) → i.own s ≡ Some bytes → IsLong bytes
  unfolding image_of
  long-own (Vhd u) i is s bytes h = long-vhd u i (vhd-is c u i is) s bytes h
  long-own (Raw u) i is s bytes h = long-raw u i is s bytes h
  long-own Mgt i is s bytes h = absurd (none-some i is)
  long-own (Old u) i is s bytes h = absurd (none-some i is)
  long-own (Cbt u) i is s bytes h = absurd (none-some i is)
  long-own (Clone disk base twin) i is s bytes h = absurd (none-some i is)
  long-own (Inflate image extents) i is s bytes h = absurd (none-some i is)
  long-own (Coalesce child parent) i is s bytes h = absurd (none-some i is)
  long-own (Relink child parent) i is s bytes h = absurd (none-some i is)
  long-own (Leaf leaf parent) i is s bytes h = absurd (none-some i is)

  -- what comes of an answer, with so many images above
  abbrev settled : ℕ → ℕ → ImageAnswer → List ℕ
  settled most s a = elim a [ here bytes ↦ bytes | up p ↦ walk most (λ m. answer_of s (image_of c m)) p ]

  abbrev IsLongAbove : ℕ → ℕ → Type 0
  IsLongAbove most s = (p : Name) → IsLong (walk most (λ m. answer_of s (image_of c m)) p)

  long-held : (most s : ℕ) → IsLongAbove most s → (x : Option (List ℕ)) (parent : Option Name) → ((bytes : List ℕ) → x ≡ Some bytes → IsLong bytes) → IsLong (settled most s (held_or x parent))
  long-held most s ih (Some bytes) parent own = own bytes refl
  long-held most s ih None (Some p) own = ih p
  long-held most s ih None None own = long-zeros

  long-within : (most s : ℕ) (n : Name) (i : Image) → IsLongAbove most s → image_of c n ≡ Some i → (b : Bool) → IsLong (settled most s (cond b (held_or (i.own s) i.parent) (here zeros)))
  long-within most s n i ih is true = long-held most s ih (i.own s) i.parent (λ bytes h. long-own n i is s bytes h)
  long-within most s n i ih is false = long-zeros

  long-answer : (most s : ℕ) (n : Name) → IsLongAbove most s → (o : Option Image) → image_of c n ≡ o → IsLong (settled most s (answer_of s o))
  unfolding answer_of
  long-answer most s n ih None is = long-zeros
  long-answer most s n ih (Some i) is = long-within most s n i ih is (nat_lt s i.size)

  long-walk : (most : ℕ) (n : Name) (s : ℕ) → IsLong (walk most (λ m. answer_of s (image_of c m)) n)
  unfolding walk
  long-walk zero n s = long-zeros
  long-walk (suc most) n s = long-answer most s n (λ p. long-walk most p s) (image_of c n) refl

  long-reads : (n : Name) (s : ℕ) → IsLong (image_reads c n s)
  unfolding image_reads
  long-reads n s = long-walk chain_limit n s

-- ---- the sectors of an image

pub same-numbers : (a n : ℕ) → numbers a n ≡ range_with_len a n
unfolding numbers
same-numbers a zero = refl
same-numbers a (suc n) = ap (λ (l : List ℕ). a ∷ l) (same-numbers (a + 1) n)

pub sectors-are : (c : Content) (n : Name) (i : Image) → image_of c n ≡ Some i → sectors_read c n ≡ map (image_reads c n) (range_with_len 0 i.size)
unfolding sectors_read
sectors-are c n i is =
    ap (λ (o : Option Image). elim o as (λ _. List (List ℕ)) [ None ↦ [] | Some j ↦ map (image_reads c n) (numbers 0 j.size) ]) is ∙ ap (map (image_reads c n)) (same-numbers 0 i.size)

sector-is : (c : Content) (n : Name) (i : Image) (s : ℕ) → image_of c n ≡ Some i → s < i.size → sector_at (sectors_read c n) s ≡ image_reads c n s
sector-is c n i s is below = ap (λ l. sector_at l s) (sectors-are c n i is) ∙ get_or-map-range_with_len (image_reads c n) 0 i.size s s [] below (omega arith)

All-mapped : (f : ℕ → List ℕ) → ((s : ℕ) → IsLong (f s)) → (xs : List ℕ) → All IsLong (map f xs)
All-mapped f each [] = All-nil IsLong
All-mapped f each (x ∷ xs) = All-cons IsLong (f x) (map f xs) (each x) (All-mapped f each xs)

-- ---- a disk of a content whose area is whole sectors

eighths-of : (block : ℕ) → IsTrue (is_power_of_two block) → 8 ≤ block → block % 8 ≡ 0
unfolding lib.Count.ones
eighths-of block power least = let w = whole_blocks block 8 power refl least in omega (arith, w.1)

module _ (c : Content) (table : IsTable c.count c.table) (geometry : IsGeometry c.extent c.block c.entries) (sound : first_fault c ≡ None) where
  exportable : ((n : Name) → All IsLong (sectors_read c n)) → (u : List ℕ) (n : Name) → standing_volume c.table u ≡ Some n → (blocks : ℕ) × AreExportable (disk_blocks c n) blocks
  exportable whole u n stands =
      let w = stands_blocks c table geometry sound u n stands in
      let header = header-proper (record { extent = c.extent; block = c.block; entries = c.entries; in_range = geometry }) 0 None geometry (λ p h. absurd (none-some p h)) in (
        w.blocks,
        record {
          sized = ap length (sectors-are c n w.image w.there) ∙ length-map-range_with_len (image_reads c n) 0 w.image.size ∙ w.size;
          least = w.least;
          most = omega (arith, w.most, geometry.entries_most);
          block_least = geometry.block_least;
          block_most = geometry.block_most;
          eighths = eighths-of c.block geometry.block_power geometry.block_least;
          block_fits = header.block;
          whole = whole n;
          empty = λ b i below none part.
              let next : (b + 1) * c.block ≤ w.blocks * c.block = mul-le-mul_right c.block (let more : b + 1 ≤ w.blocks = omega arith in more) in
              sector-is c n w.image (b * c.block + i) w.there (omega (arith, next, part, w.size)) ∙ zeros-read c n b i part (omega (arith, below, w.most)) none;
        },
      )

-- ---- the UUID of a disk

In-in_order : (us : List (List ℕ)) (x : List ℕ) → In x (in_order us) → In x us
unfolding in_order
In-in_order [] x h = h
In-in_order (u ∷ us) x h = by (In-with_uuid u x (in_order us) h) (λ k. In-in_order us x k)
  where
    by : (x ≡ u) ⊎ In x (in_order us) → (In x (in_order us) → In x us) → In x (u ∷ us)
    by (inl same) ih = inl same
    by (inr k) ih = inr (ih k)

In-candidates : (rs : List Row) (u : List ℕ) → In u (flat_map (λ r. candidates r.name) rs) → (r : Row) × In r rs × In u (candidates r.name)
In-candidates [] u h = absurd h
In-candidates (r ∷ rs) u h = by (In-append (candidates r.name) (flat_map (λ r. candidates r.name) rs) u h) (λ k. In-candidates rs u k)
  where
    by : In u (candidates r.name) ⊎ In u (flat_map (λ r. candidates r.name) rs) → (In u (flat_map (λ r. candidates r.name) rs) → (q : Row) × In q rs × In u (candidates q.name))
        → (q : Row) × In q (r ∷ rs) × In u (candidates q.name)
    by (inl k) ih = (r, inl refl, k)
    by (inr k) ih = let w = ih k in (w.0, inr w.1, w.2)

long-one : (u v : List ℕ) → IsUuid v → In u (v ∷ []) → length u ≡ 16
long-one u v is (inl same) = ap length same ∙ is.long
long-one u v is (inr none) = absurd none

long-candidate : (n : Name) (u : List ℕ) → IsName n → In u (candidates n) → length u ≡ 16
unfolding IsName
long-candidate (Vhd v) u is h = long-one u v is h
long-candidate (Raw v) u is h = long-one u v is h
long-candidate (Clone disk base twin) u is h = long-one u disk is.0 h
long-candidate (Leaf leaf parent) u is h = long-one u leaf is.0 h
long-candidate Mgt u is h = absurd h
long-candidate (Old v) u is h = absurd h
long-candidate (Cbt v) u is h = absurd h
long-candidate (Inflate image extents) u is h = absurd h
long-candidate (Coalesce child parent) u is h = absurd h
long-candidate (Relink child parent) u is h = absurd h

long-uuid : (count : ℕ) (t : VolumeTable) → IsTable count t → (u : List ℕ) (n : Name) → standing_volume t u ≡ Some n → length u ≡ 16
unfolding uuids
long-uuid count t table u n stands =
    let w = In-candidates t.volumes u (In-in_order (flat_map (λ r. candidates r.name) t.volumes) u (stands_listed t u n stands)) in
    long-candidate w.0.name u (all-In IsVolume t.volumes w.0 table.volumes.each w.1).name w.2

-- ---- the content of a sound image

-- the sizes of a label that is right are in their ranges
plate-geometry : (size : ℕ) (m : ℕ → List ℕ) (p : Plate) → plate_of size m ≡ Ok p → IsGeometry p.extent p.block p.entries
unfolding is_geometry
plate-geometry size m p e =
    let p1 = and_parts (is_power_of_two p.extent) _ (plate_right size m p e).sizes in
    let p2 = and_parts (nat_le 32 p.extent) _ p1.1 in
    let p3 = and_parts (nat_le p.extent 8192) _ p2.1 in
    let p4 = and_parts (is_power_of_two p.block) _ p3.1 in
    let p5 = and_parts (nat_le 8 p.block) _ p4.1 in
    let p6 = and_parts (nat_le p.block 4096) _ p5.1 in
    let p7 = and_parts (nat_le p.block p.extent) _ p6.1 in
    let p8 = and_parts (nat_le 1 p.entries) (nat_le p.entries 1044480) p7.1 in
    record {
      extent_power = p1.0;
      extent_least = leb-true 32 p.extent p2.0;
      extent_most = leb-true p.extent 8192 p3.0;
      block_power = p4.0;
      block_least = leb-true 8 p.block p5.0;
      block_most = leb-true p.block 4096 p6.0;
      within = leb-true p.block p.extent p7.0;
      entries_least = leb-true 1 p.entries p8.0;
      entries_most = leb-true p.entries 1044480 p8.1;
    }

module _ (size : ℕ) (image : ℕ → List ℕ) (g : GroupFound) (s : IsSoundImage size image g) where
  abbrev c : Content
  c = content_of g image

  table : IsTable c.count c.table
  table = s.stands.spelled.table

  geometry : IsGeometry c.extent c.block c.entries
  geometry = plate-geometry size image g.plate s.stands.labelled

  -- the area with zeros behind its end
  filled : ℕ → List ℕ
  filled p = cond (nat_lt p (c.count * c.extent)) (c.area p) zeros

  same : IsSameArea c filled
  unfolding filled
  same p below = ap (λ b. cond b (c.area p) zeros) (lt-ltb p (c.count * c.extent) below)

  long-filled : (p : ℕ) → IsLong (filled p)
  unfolding filled
  long-filled p = by (cases_lt p (c.count * c.extent))
    where
      by : (p < c.count * c.extent) ⊎ (c.count * c.extent ≤ p) → IsLong (cond (nat_lt p (c.count * c.extent)) (c.area p) zeros)
      by (inl below) =
          let room = plate_area size image g.plate s.stands.labelled in
          subst (λ b. IsLong (cond b (c.area p) zeros)) (sym (lt-ltb p (c.count * c.extent) below)) (s.sectors (area_place g.plate.layout + p) (omega (arith, room, below))).long
      by (inr past) = subst (λ b. IsLong (cond b (c.area p) zeros)) (sym (le-ltb p (c.count * c.extent) past)) long-zeros

  long-sectors : (n : Name) → All IsLong (sectors_read c n)
  unfolding sectors_read
  long-sectors n = subst (All IsLong) (sectors_same c (with_table c c.table filled) (images_there c table geometry s.sound filled same) n) (each n)
    where
      each : (n : Name) → All IsLong (sectors_read (with_table c c.table filled) n)
      each n = by (image_of (with_table c c.table filled) n)
        where
          by : (o : Option Image) → All IsLong (elim o as (λ _. List (List ℕ)) [ None ↦ [] | Some i ↦ map (image_reads (with_table c c.table filled) n) (numbers 0 i.size) ])
          by None = All-mapped (image_reads (with_table c c.table filled) n) (long-reads (with_table c c.table filled) long-filled n) []
          by (Some i) = All-mapped (image_reads (with_table c c.table filled) n) (long-reads (with_table c c.table filled) long-filled n) (numbers 0 i.size)

  pub disk-holds : (uuid : List ℕ) (d : Disk) (now : ℕ) (bytes : List ℕ) → disk_at c uuid ≡ Some d → now < 2 ^ 32 → ExportOf c uuid now bytes → FileOf bytes d.sectors
  disk-holds uuid d now bytes is early e =
      let k = disk_sectors c uuid d is in
      let volume : e.volume ≡ k.0 = same_Some e.volume k.0 (sym e.stands ∙ k.1) in
      let named = long-uuid c.count c.table table uuid e.volume e.stands in
      let x = exportable c table geometry s.sound long-sectors uuid e.volume e.stands in
      subst (λ (b : List ℕ). FileOf b d.sectors) (sym e.bytes_are)
      (subst (FileOf (concat (exported (disk_blocks c e.volume) uuid now))) (ap (sectors_read c) volume ∙ sym k.2) (file-holds (disk_blocks c e.volume) x.0 uuid now x.1 named early))

pub export-holds : (size : ℕ) (image : ℕ → List ℕ) (d : Disk) (bytes : List ℕ) → IsExported size image d bytes → FileOf bytes d.sectors
export-holds size image d bytes e = disk-holds size image e.group e.sound d.uuid d e.now bytes (disks_at (content_of e.group image) d e.disk) e.early e.bytes_are
