-- What keeps an image steady, and what a stop leaves of a steady one.
use Rattle.std.proofs.Common.{◌≡◌, ℕ, ◌+◌, ◌-◌, ◌*◌, ◌/◌, ◌%◌, ◌<◌, ◌≤◌, inl, inr, List, [], ◌++◌, length, Option, None, sym, ap, ◌∙◌, subst, ⊎_elim, arith}
use Rattle.std.proofs.Math.Path.{fun_ext}
use Rattle.std.proofs.lemmas.Bool.{cases_lt}
use Rattle.std.proofs.lemmas.List.FromFn.{length-map-range_with_len}
use Rattle.std.proofs.lemmas.List.{ext_get_or, get_or_append_left, length-append}
use Rattle.std.proofs.lemmas.Nat.{mul-le}
use Rattle.sm_base.specs.Numbers.{IsGeometry, first}
use Rattle.sm_base.specs.declared.sizes.Geometry.{Geometry}
use Rattle.sm_disk.specs.Held.{Held, Allows, Keeps, IsSettled, reads}
use Rattle.sm_disk.proofs.HeldLaws.{Allows-keeps, may-at, reads-at, may_settled, reads-settled}
use Rattle.vg_volumes.specs.Volumes.{IsElsewhere, KeepsAt, KeepsElsewhere, span, spot, volume}
use Rattle.vg_volumes.proofs.SpotLaws.{in_extents}
use Rattle.vg_volumes.proofs.VolumeLaws.{may_volume, volume_floor, volume_pending, volume_may, volume_reads, past_floor, past_pending}
use Rattle.vhd_layout.specs.Layouts.{Sectors}
use Rattle.vhd_layout.specs.Images.{IsImage, IsHead, EachSlotHolds}
use Rattle.vhd_layout.specs.Contents.{size_at, parent_at, slot_at, slots_at}
use Rattle.vhd_layout.proofs.ImageLaws.{content-of_head, head-kept, layout-of}
use Rattle.vhd_layout.proofs.ReadingLaws.{slots-of_table}
use Rattle.vhd_map.specs.Slots.{slot_of}
use Rattle.vhd_volumes.specs.declared.heads.Head.{Head}
use Rattle.vhd_volumes.specs.Steady.{IsQuiet, IsHeadSector, IsSteadyIn, IsLeftImage}
use Rattle.vhd_volumes.specs.Truth.{IsStanding, IsTrueIn, disk_sectors, disk_blocks, layout_in}
use Rattle.vhd_volumes.specs.Writes.{IsGuarded, KeepsHeads}

-- ---- the places

-- what is settled is quiet
pub quiet_settled : (h : Held) → IsSettled h → IsQuiet h
quiet_settled h settled p v may = may_settled h p v (settled p) may

-- what is kept stays quiet
pub quiet_keeps : {a b : Held} → Keeps a b → IsQuiet a → IsQuiet b
quiet_keeps keeps quiet p v may = quiet p v (keeps.may p v may) ∙ sym (keeps.reads p)

-- a step that keeps the heads keeps each sector of the head
pub heads_at : (sectors : ℕ) {a b : Held} → KeepsHeads sectors a b → KeepsAt (IsHeadSector sectors) a b
heads_at sectors k = record { reads = λ p here. k.reads p (away p here); may = λ p v here m. k.may p v (away p here) m }
  where
    away : (p : ℕ) → IsHeadSector sectors p → (3 ≤ p) × (p + 1 < sectors) → ⊥
    away p (inl front) inside = omega (arith, front, inside.0)
    away p (inr last) inside = omega (arith, last, inside.1)

-- work on one volume keeps what each other volume holds, where their extents are apart
pub Keeps-beside : (x : ℕ) (es fs : List ℕ) {a b : Held} → ((p : ℕ) → p < span x es → IsElsewhere x fs (spot x es p))
    → KeepsElsewhere x fs a b → Keeps (volume x es a) (volume x es b)
Keeps-beside x es fs {a} {b} apart k = record {
  reads = λ p. ⊎_elim
      (λ below. volume_reads x es b p below ∙ (k.reads (spot x es p) (apart p below) ∙ sym (volume_reads x es a p below)))
      (λ past. past_reads b p past ∙ sym (past_reads a p past)) (cases_lt p (span x es));
  may = λ p v m. ⊎_elim
      (λ below. volume_may x es a p v below (k.may (spot x es p) v (apart p below) (may_volume x es b p v below m)))
      (λ past. inl (may_settled (volume x es b) p v (past_pending x es b p past) m ∙ (past_reads b p past ∙ sym (past_floor x es a p past)))) (cases_lt p (span x es));
}
  where
    past_reads : (h : Held) (p : ℕ) → span x es ≤ p → reads (volume x es h) p ≡ []
    past_reads h p past = reads-settled (volume x es h) p (past_pending x es h p past) ∙ past_floor x es h p past

-- where extents stand behind these each place stays where it was
spot-front : (x : ℕ) (es fs : List ℕ) (p : ℕ) → p < span x es → spot x (es ++ fs) p ≡ spot x es p
unfolding spot
spot-front x es fs p below = ap (λ e. e * x + p % x) (get_or_append_left es fs 0 (p / x) (in_extents x es p below))

span-front : (x : ℕ) (es fs : List ℕ) (p : ℕ) → p < span x es → p < span x (es ++ fs)
span-front x es fs p below = omega (arith, below, mul-le (length es) x (length (es ++ fs)) x (omega (arith, length-append es fs)) (omega arith))

-- so in its first extents a volume holds what the volume of these alone holds
SameAt-front : (x : ℕ) (es fs : List ℕ) (area : Held) (p : ℕ) → p < span x es
    → ((volume x (es ++ fs) area).floor p ≡ (volume x es area).floor p) × ((volume x (es ++ fs) area).pending p ≡ (volume x es area).pending p)
SameAt-front x es fs area p below =
    let at = spot-front x es fs p below in
    let wide = span-front x es fs p below in (
      volume_floor x (es ++ fs) area p wide ∙ (ap area.floor at ∙ sym (volume_floor x es area p below)),
      volume_pending x (es ++ fs) area p wide ∙ (ap area.pending at ∙ sym (volume_pending x es area p below)),
    )

-- each keeps what the other has there: with more extents, and with fewer
pub KeepsAt-longer : (x : ℕ) (es fs : List ℕ) (area : Held) → KeepsAt (λ p. p < span x es) (volume x es area) (volume x (es ++ fs) area)
KeepsAt-longer x es fs area = record {
  reads = λ p below. let s = SameAt-front x es fs area p below in reads-at (volume x es area) (volume x (es ++ fs) area) p s.0 s.1;
  may = λ p v below m. let s = SameAt-front x es fs area p below in may-at (volume x es area) (volume x (es ++ fs) area) p v s.0 s.1 m;
}

pub KeepsAt-shorter : (x : ℕ) (es fs : List ℕ) (area : Held) → KeepsAt (λ p. p < span x es) (volume x (es ++ fs) area) (volume x es area)
KeepsAt-shorter x es fs area = record {
  reads = λ p below. let s = SameAt-front x es fs area p below in reads-at (volume x (es ++ fs) area) (volume x es area) p (sym s.0) (sym s.1);
  may = λ p v below m. let s = SameAt-front x es fs area p below in may-at (volume x (es ++ fs) area) (volume x es area) p v (sym s.0) (sym s.1) m;
}

-- ---- what stays

module _ (g : Geometry) (n : ℕ) (head : Head) (m : List (Option ℕ)) {a b : Held} where
  -- an image stays true of what is kept
  pub true_keeps : Keeps a b → IsTrueIn g n a head m → IsTrueIn g n b head m
  true_keeps keeps was =
      let same : (λ p. reads b p) ≡ (λ p. reads a p) = fun_ext keeps.reads in
      record {
        now = subst (λ (v : Sectors). IsImage (layout_in g head.footer n) v head.footer head.header (slot_of m)) (sym same) was.now;
        valid = λ v allows. was.valid v (Allows-keeps n v keeps allows);
        within = λ v allows. was.within v (Allows-keeps n v keeps allows);
      }

  -- and so steady: over a sync, a commit that leaves its extents, and work on another volume
  pub steady_keeps : Keeps a b → IsSteadyIn g n a head m → IsSteadyIn g n b head m
  steady_keeps keeps was = record {
    is_true = true_keeps keeps was.is_true;
    still = λ p v here may. was.still p v here (keeps.may p v may) ∙ sym (keeps.reads p);
    holding = λ v allows. was.holding v (Allows-keeps n v keeps allows);
  }

  -- a true image whose slots each hold a sector is steady once it is synced
  pub steady_synced : Keeps a b → IsSettled b → IsTrueIn g n a head m → ((v : Sectors) → Allows n a v → EachSlotHolds g.block g.entries v) → IsSteadyIn g n b head m
  steady_synced keeps settled was holds = record {
    is_true = true_keeps keeps was;
    still = λ p v here may. quiet_settled b settled p v may;
    holding = λ v allows. holds v (Allows-keeps n v keeps allows);
  }

  -- a guest's write that succeeded leaves it steady, with the map that is true then
  pub steady_written : (W : ℕ → List ℕ → Type 0) (grown : List (Option ℕ)) → IsGuarded (layout_in g head.footer n) W a b → KeepsHeads n a b
      → IsTrueIn g n b head grown → IsSteadyIn g n a head m → IsSteadyIn g n b head grown
  steady_written W grown guarded heads now was = record {
    is_true = now;
    still = λ p v here may. was.still p v here ((heads_at n heads).may p v here may) ∙ sym ((heads_at n heads).reads p here);
    holding = λ v allows. let f = guarded.follows v allows in f.follows.holds (was.holding f.before f.allowed);
  }

-- ---- what a stop leaves

three_first : (entries : ℕ) → 3 ≤ first entries
unfolding first
three_first entries = omega arith

module _ (g : Geometry) (n : ℕ) (head : Head) (m : List (Option ℕ)) where
  size_is : (v : Sectors) → IsHead (layout_in g head.footer n) v head.footer head.header → (size_at n v ≡ disk_sectors head.footer) × (parent_at v ≡ head.header.parent)
  size_is v is =
      let c = content-of_head (layout_in g head.footer n) v head.footer head.header is in
      (c.0 ∙ omega (arith, is.footer_fits.size), c.1)

  -- of a steady image a stop leaves a valid one of this size and this parent, with a sector in each slot
  pub steady_left : {h : Held} (v : Sectors) → IsSteadyIn g n h head m → Allows n h v → IsLeftImage g n head v
  steady_left {h} v was allows =
      let now = was.is_true.now.head in
      let long : 4 ≤ n = omega (arith, now.room, three_first g.entries) in
      let at : (p : ℕ) → IsHeadSector n p → p < n → v p ≡ reads h p = λ p here below. was.still p (v p) here (allows p below) in
      let is = size_is v (head-kept (layout_in g head.footer n) (λ p. reads h p) v head.footer head.header (at 0 (inl (omega arith)) (omega (arith, long))) (at 1 (inl (omega arith)) (omega (arith, long)))
      (at 2 (inl (omega arith)) (omega (arith, long))) (at (n - 1) (inr (omega (arith, long))) (omega (arith, long))) now) in
      record { valid = was.is_true.valid v allows; size = is.0; parent = is.1; holding = was.holding v allows }

  -- so at any moment of a guest's write, and of one that failed
  pub guarded_left : (W : ℕ → List ℕ → Type 0) {a b : Held} (v : Sectors) → IsSteadyIn g n a head m → IsGuarded (layout_in g head.footer n) W a b
      → Allows n b v → IsLeftImage g n head v
  guarded_left W v was guarded allows =
      let f = guarded.follows v allows in
      let before = steady_left f.before was f.allowed in
      record {
        valid = guarded.valid v allows;
        size = f.follows.size ∙ before.size;
        parent = f.follows.parent ∙ before.parent;
        holding = f.follows.holds before.holding;
      }

  -- and a read gives the map
  pub steady_map : {h : Held} → IsGeometry g.extent g.block g.entries → IsStanding g n head m → IsSteadyIn g n h head m → slots_at (layout_in g head.footer n) (reads h) ≡ m
  steady_map {h} ok stands was =
      let l = layout_in g head.footer n in
      let long = length-map-range_with_len (slot_at l (reads h)) 0 g.entries in
      ext_get_or None (slots_at l (reads h)) m (long ∙ sym stands.entries)
      (λ b below. slots-of_table l (reads h) head.footer head.header (slot_of m) b (layout-of g.extent g.block g.entries (disk_blocks g head.footer) n ok) was.is_true.now (omega (arith, below, long)))
