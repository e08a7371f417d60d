-- The log that stands in a store, by what was read of it.
use Rattle.std.proofs.Common.{◌≡◌, ℕ, ◌+◌, ◌*◌, ◌/◌, ◌%◌, ◌<◌, ◌≤◌, ◌≢◌, Bool, true, false, eqb, leb, List, [], ◌∷◌, length, map, Option, Some, None, refl, sym, ap, ap₂, ◌∙◌, arith, length-append}
use Rattle.std.specs.Prelude.{◌&&◌, ◌==◌, if◌then◌else◌}
use Rattle.std.proofs.lemmas.Bool.{cond-true, cond-false, eq-eqb, ne_eqb, le-leb, lt-leb}
use Rattle.sm_base.specs.Numbers.{div_up}
use Rattle.sm_base.specs.declared.names.Name.{Name}
use Rattle.sm_base.specs.declared.names.Name.TheVariants.{Cbt}
use Rattle.common_laws.specs.Lists.{numbers, ◌>>=◌}
use Rattle.sm_disk.specs.Held.{reads}
use Rattle.vg_meta.specs.Tables.{VolumeTable, Row, IsTable, rows, row_of, extents_of, extents_in, name_eq}
use Rattle.vg_meta.specs.Roomy.{RoomyTable, table_alone}
use Rattle.vg_meta.proofs.DecodeLaws.{used-le}
use Rattle.vg_volumes.specs.Stored.{Stored, held_in, sectors_in}
use Rattle.vg_volumes.specs.Volumes.{piece}
use Rattle.vg_volumes.proofs.VolumeLaws.{volume_reads}
use Rattle.vhd_map.specs.Bitmaps.{is_set}
use Rattle.sm_log.specs.declared.heads.Head.{Head}
use Rattle.sm_log.specs.Heads.{head_in}
use Rattle.sm_log.specs.Logs.{Log, log_sectors, sector_bits}
use Rattle.sm_standing.specs.Contents.{sectors_of, size_of}
use Rattle.sm_standing.specs.Logs.{bit_in, log_at, log_in, log_read}
use Rattle.sm_log_reading.specs.Reading.{content_of, filled_extents, fitting, whole_log}
use Rattle.sm_log.proofs.ByteLaws.{length-flags}
use Rattle.sm_log_reading.proofs.BitLaws.{flags_same}

-- ---- the volume

-- no volume has more extents than there are
extents_few : (rs : List Row) (n : Name) → length (extents_of (row_of rs n)) ≤ length (extents_in rs)
unfolding row_of
extents_few [] n = omega arith
extents_few (r ∷ rs) n =
    let rest = extents_few rs n in
    let all = length-append r.extents (extents_in rs) in
    elim (name_eq r.name n) as (λ (b : Bool). length (extents_of (if b then Some r else row_of rs n)) ≤ length (extents_in (r ∷ rs))) [
      | true ↦ omega (arith, all)
      | false ↦ omega (arith, all, rest)
    ]

-- a volume that is there and not new, by its extents
pub record IsFilled (t : VolumeTable) (u : List ℕ) (n : ℕ) : Type 0 where
  pub row : Row
  pub there : rows t (Cbt u) ≡ Some row
  pub filled : row.fresh ≡ false
  pub long : length row.extents ≡ n

of_row : (o : Option Row) (n : ℕ) → (o >>= λ r. if r.fresh then None else Some (length r.extents)) ≡ Some n → (r : Row) × (o ≡ Some r) × (r.fresh ≡ false) × (length r.extents ≡ n)
of_row None n is = absurd cc
of_row (Some r) n is = let (filled, long) = by r.fresh (length r.extents) is in (r, refl, filled, long)
  where
    by : (b : Bool) (m : ℕ) → (if b then None else Some m) ≡ Some n → (b ≡ false) × (m ≡ n)
    by true m is = absurd cc
    by false m is = (refl, cc)

pub is_filled : (t : VolumeTable) (u : List ℕ) (n : ℕ) → filled_extents t u ≡ Some n → IsFilled t u n
is_filled t u n is = let (r, there, filled, long) = of_row (rows t (Cbt u)) n is in record { row = r; there = there; filled = filled; long = long }

-- it was found in the table that a store told
pub told_filled : {table told : RoomyTable} {u : List ℕ} {found : Option ℕ} {n : ℕ} → told ≡ table → found ≡ filled_extents (table_alone told) u → found ≡ Some n → IsFilled (table_alone table) u n
told_filled {table} {told} {u} {found} {n} same is some = is_filled (table_alone table) u n (ap (λ (k : RoomyTable). filled_extents (table_alone k) u) (sym same) ∙ sym is ∙ some)

-- its extents are no more than the group's
pub filled_few : (count : ℕ) (t : VolumeTable) (u : List ℕ) (n : ℕ) → IsTable count t → IsFilled t u n → n ≤ count
filled_few count t u n table f =
    omega (arith, extents_few t.volumes (Cbt u), used-le count t.volumes table.volumes, ap (λ (o : Option Row). length (extents_of o)) f.there, f.long)

-- its sectors
pub filled_size : (x : Stored) (u : List ℕ) (n : ℕ) → IsFilled x.table u n → sectors_in x (Cbt u) ≡ n * x.site.geometry.extent
filled_size x u n f = ap (λ (o : Option Row). length (extents_of o) * x.site.geometry.extent) f.there ∙ ap (λ (m : ℕ). m * x.site.geometry.extent) f.long

-- ---- the log

-- none where no volume is there, or it is new
pub whole_none : (x : Stored) (u : List ℕ) (pieces : ℕ) → filled_extents x.table u ≡ None → whole_log (content_of x) u pieces ≡ None
unfolding whole_log log_at
whole_none x u pieces none = by (rows x.table (Cbt u)) none
  where
    by : (o : Option Row) → (o >>= λ r. if r.fresh then None else Some (length r.extents)) ≡ None
        → (o >>= λ r. log_in (content_of x) u r) >>= fitting pieces (size_of (content_of x) (Cbt u)) ≡ None
    by None is = refl
    by (Some r) is = fresh r.fresh (length r.extents) (log_read u (length r.extents) (sectors_of (content_of x) (Cbt u))) is
      where
        fresh : (b : Bool) (m : ℕ) (o : Option Log) → (if b then None else Some m) ≡ None → (if b then None else o) >>= fitting pieces (size_of (content_of x) (Cbt u)) ≡ None
        fresh true m o is = refl
        fresh false m o is = absurd cc

-- else what its sectors spell
whole_read : (x : Stored) (u : List ℕ) (n pieces : ℕ) → IsFilled x.table u n
    → whole_log (content_of x) u pieces ≡ log_read u n (sectors_of (content_of x) (Cbt u)) >>= fitting pieces (sectors_in x (Cbt u))
unfolding whole_log log_at
whole_read x u n pieces f =
    let c = content_of x in
    let fit = fitting pieces (sectors_in x (Cbt u)) in
    ap (λ (o : Option Row). (o >>= λ r. log_in c u r) >>= fit) f.there
    ∙ ap (λ (o : Option Log). o >>= fit) (cond-false f.row.fresh None (log_read u (length f.row.extents) (sectors_of c (Cbt u))) f.filled)
    ∙ ap (λ (m : ℕ). log_read u m (sectors_of c (Cbt u)) >>= fit) f.long

-- a sector of the volume is what a read gives
sector_reads : (x : Stored) (u : List ℕ) (p : ℕ) → p < sectors_in x (Cbt u) → sectors_of (content_of x) (Cbt u) p ≡ reads (held_in x (Cbt u)) p
unfolding sectors_of piece
sector_reads x u p below = sym (volume_reads x.site.geometry.extent (extents_of (rows x.table (Cbt u))) x.area p below)

-- none where the volume has too few sectors
pub whole_small : (x : Stored) (u : List ℕ) (n pieces : ℕ) → IsFilled x.table u n → sectors_in x (Cbt u) < log_sectors pieces → whole_log (content_of x) u pieces ≡ None
whole_small x u n pieces f small = whole_read x u n pieces f ∙ by (log_read u n (sectors_of (content_of x) (Cbt u)))
  where
    by : (o : Option Log) → o >>= fitting pieces (sectors_in x (Cbt u)) ≡ None
    by None = refl
    by (Some l) = both (length l.bits == pieces) (leb (log_sectors pieces) (sectors_in x (Cbt u))) (lt-leb (log_sectors pieces) (sectors_in x (Cbt u)) small)
      where
        both : (a b : Bool) → b ≡ false → (if a && b then Some l else None) ≡ None
        both true b is = cond-false b (Some l) None is
        both false b is = refl

module _ (x : Stored) (u : List ℕ) (n pieces : ℕ) (f : IsFilled x.table u n) (fits : log_sectors pieces ≤ sectors_in x (Cbt u)) where
  abbrev size : ℕ
  size = sectors_in x (Cbt u)

  at_head : (o : Option Head) → head_in (reads (held_in x (Cbt u)) 0) ≡ o
      → whole_log (content_of x) u pieces
      ≡ (o >>= λ h. Some (record { disk = u; extents = n; tag = h.tag; since = h.since; bits = map (bit_in (sectors_of (content_of x) (Cbt u))) (numbers 0 h.pieces) })) >>= fitting pieces size
  unfolding log_read
  at_head o is =
      let head : sectors_of (content_of x) (Cbt u) 0 ≡ reads (held_in x (Cbt u)) 0 = sector_reads x u 0 (omega (arith, fits)) in
      whole_read x u n pieces f ∙ ap (λ (q : Option Head). (q >>= λ h. Some (record { disk = u; extents = n; tag = h.tag; since = h.since; bits = map (bit_in (sectors_of (content_of x) (Cbt u))) (numbers 0 h.pieces) })) >>= fitting pieces size)
      (ap head_in head ∙ is)

  -- none where the first sector is no head
  pub whole_headless : head_in (reads (held_in x (Cbt u)) 0) ≡ None → whole_log (content_of x) u pieces ≡ None
  whole_headless none = at_head None none

  -- and where it is that of another number of pieces
  pub whole_other : (h : Head) → head_in (reads (held_in x (Cbt u)) 0) ≡ Some h → h.pieces ≢ pieces → whole_log (content_of x) u pieces ≡ None
  whole_other h is other =
      let bits = map (bit_in (sectors_of (content_of x) (Cbt u))) (numbers 0 h.pieces) in
      let many = length-flags (bit_in (sectors_of (content_of x) (Cbt u))) h.pieces in
      let differs : eqb (length bits) pieces ≡ false = ap (λ (m : ℕ). eqb m pieces) many ∙ ne_eqb h.pieces pieces other in
      at_head (Some h) is ∙ cond-false (eqb (length bits) pieces && leb (log_sectors pieces) size) _ None (ap (λ (b : Bool). b && leb (log_sectors pieces) size) differs)

  -- else it is there
  pub whole_found : (h : Head) (bits : List Bool) → head_in (reads (held_in x (Cbt u)) 0) ≡ Some h → h.pieces ≡ pieces → bits ≡ map (bit_in (reads (held_in x (Cbt u)))) (numbers 0 pieces)
      → whole_log (content_of x) u pieces ≡ Some (record { disk = u; extents = n; tag = h.tag; since = h.since; bits = bits })
  unfolding div_up
  whole_found h bits is many read =
      let own = sectors_of (content_of x) (Cbt u) in
      let flags = map (bit_in own) (numbers 0 h.pieces) in
      let long : eqb (length flags) pieces ≡ true = eq-eqb (length flags) pieces (length-flags (bit_in own) h.pieces ∙ many) in
      let all : (eqb (length flags) pieces && leb (log_sectors pieces) size) ≡ true = ap₂ (λ (a b : Bool). a && b) long (le-leb (log_sectors pieces) size fits) in
      let same : flags ≡ bits =
      ap (λ (m : ℕ). map (bit_in own) (numbers 0 m)) many
      ∙ flags_same (bit_in own) (bit_in (reads (held_in x (Cbt u)))) pieces (λ k below. ap (λ (v : List ℕ). is_set v (k % sector_bits)) (sector_reads x u (1 + k / sector_bits) (omega (arith, fits, below))))
      ∙ sym read in
      at_head (Some h) is ∙ cond-true (eqb (length flags) pieces && leb (log_sectors pieces) size) _ None all
      ∙ ap (λ (bs : List Bool). Some (record { disk = u; extents = n; tag = h.tag; since = h.since; bits = bs })) same
