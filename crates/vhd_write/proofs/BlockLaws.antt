-- A write into one block.
use Rattle.std.proofs.Common.{◌≡◌, ℕ, ◌+◌, ◌-◌, ◌*◌, ◌/◌, ◌<◌, ◌≤◌, ◌⊎◌, Bool, true, false, List, length, Option, Some, None, is_some, refl, sym, ap, ◌∙◌, subst, inl, inr, ⊎_elim, arith}
use Rattle.std.specs.Bool.{OnFalse}
use Rattle.std.proofs.lemmas.Bool.{cases_eq, true≢false}
use Rattle.std.proofs.lemmas.Nat.{mul-add-lt}
use Rattle.std.proofs.lemmas.Option.{none-some}
use Rattle.sm_base.specs.declared.sizes.Geometry.{Geometry}
use Rattle.sm_disk.specs.Held.{Held, Reaches, SameHeld, reads}
use Rattle.sm_disk.proofs.ReachesLaws.{Reaches-none, Reaches-same, Reaches-then, Reaches-wider}
use Rattle.vhd_map.specs.Slots.{slot_of, top_of, least_free_slot, IsMap}
use Rattle.vhd_layout.specs.Layouts.{Layout, Sectors, Slots, IsLayout, IsSlots, entry, code, entries_in_sectors, place, slot_count}
use Rattle.vhd_layout.proofs.ImageLaws.{layout-of, option_cases}
use Rattle.vhd_volumes.specs.declared.heads.Head.{Head}
use Rattle.vhd_volumes.specs.Truth.{IsTrueOf, IsStanding, HasRoomFor, layout_in, disk_blocks}
use Rattle.vhd_volumes.specs.Writes.{IsGuarded, KeepsHeads, HasWritten, with_block}
use Rattle.vhd_write.specs.Marks.{IsMarkedIn, PutsMarkedIn}
use Rattle.vhd_write.specs.Passes.{ArePut, AreSet, HasBits, GoesOn, IsFinished, IsFull, IsPut, IsTableSector, PutsBitsAll, PutsBitsOf, PutsBlock, PutsData, PutsEntries, PutsTable}
use Rattle.vhd_write.specs.Spans.{Given}
use Rattle.vhd_write.specs.WritePlaces.{IsWritePlace, KeepsToPlaces, Touches}
use Rattle.vhd_write.proofs.ExitLaws.{ShowsAll, all-put, guarded-after, guarded-first, new-slots, shows-after, shows-first, table-after, true-after, true-first, written-after, written-first}
use Rattle.vhd_write.proofs.FirstLaws.{first-bitmap}
use Rattle.vhd_write.proofs.GivenLaws.{IsGivenBy, IsWithin}
use Rattle.vhd_write.proofs.HeadLaws.{heads-after, heads-first}
use Rattle.vhd_write.proofs.LoopLaws.{put-more, put-reaches}
use Rattle.vhd_write.proofs.MapLaws.{given-more, given-none, grown-none, with_block-gives, with_block-held}
use Rattle.vhd_write.proofs.MarkLaws.{marks-given, marks-within}
use Rattle.vhd_write.proofs.PartLaws.{new-slot-in}
use Rattle.vhd_write.proofs.PlaceLaws.{block-places, rest-places}
use Rattle.vhd_write.proofs.RestLaws.{AllPut}

-- ---- one block where several are spoken of

pub only-one : (P : ℕ → Type 0) (b : ℕ) → P b → (c : ℕ) → b ≤ c → c < b + 1 → P c
only-one P b here c low high = let same : b ≡ c = omega arith in subst P same here

pub one-index : (b : ℕ) (P : ℕ → Type 0) → P (b / 128) → (index : ℕ) → b / 128 ≤ index → index ≤ (b + 1 - 1) / 128 → P index
one-index b P here index low high = let same : b / 128 ≡ index = omega arith in subst P same here

pub bits-one : {l : Layout} {M : ℕ → Type 0} {m : Slots} (b : ℕ) {y z : Held} → Reaches (PutsBitsOf l M (m b) b (reads y)) y z → Reaches (PutsBitsAll l M m (reads y)) y z
bits-one b r = Reaches-wider (λ p v h. (b, h.0, h.1, h.2)) r

pub entries-touch : (l : Layout) (M : ℕ → Type 0) (m : Slots) (b : ℕ) → Touches l M b → {y z : Held} → Reaches (PutsEntries l m (b / 128)) y z → Reaches (PutsTable l M m) y z
entries-touch l M m b touched r = Reaches-wider (λ p v h. record { b = b; touched = touched; puts = h }) r

-- behind a read, by equal layouts
pub puts-first : {l l' : Layout} (b : ℕ) (marks bytes : List ℕ) (m : List (Option ℕ)) {x y z : Held} → l' ≡ l → SameHeld x y → Reaches (PutsBlock l' (PutsMarkedIn l'.block b marks bytes) (IsMarkedIn l'.block b marks) m b) y z
    → Reaches (PutsBlock l (PutsMarkedIn l.block b marks bytes) (IsMarkedIn l.block b marks) m b) x z
puts-first {l} {l'} b marks bytes m {x} {y} {z} e same r = Reaches-then (Reaches-same _ same) (subst (λ q. Reaches (PutsBlock q (PutsMarkedIn q.block b marks bytes) (IsMarkedIn q.block b marks) m b) y z) e r)

pub put-first : {l l' : Layout} (b : ℕ) (marks bytes : List ℕ) (o n : Option ℕ) (r : Sectors) → l' ≡ l → IsPut l' (PutsMarkedIn l'.block b marks bytes) (IsMarkedIn l'.block b marks) o n b r
    → IsPut l (PutsMarkedIn l.block b marks bytes) (IsMarkedIn l.block b marks) o n b r
put-first {l} {l'} b marks bytes o n r e h = subst (λ q. IsPut q (PutsMarkedIn q.block b marks bytes) (IsMarkedIn q.block b marks) o n b r) e h

-- a block that had no slot has a new one, which holds the bits of the given sectors
pub put-set-one : {told : Type 0} {l : Layout} {W : ℕ → List ℕ → Type 0} {M : ℕ → Type 0} {n : Option ℕ} {b : ℕ} {r : Sectors} (held : Bool) (o : Option ℕ) → held ≡ is_some o → (told → IsPut l W M o n b r) → OnFalse held (told → AreSet l M n b r)
put-set-one true o had put = tt
put-set-one false None had put = λ told k has. ((put told).fresh k refl has).each
put-set-one false (Some j) had put = absurd (true≢false (sym had))

-- ---- what a write of the marked sectors of a block leaves at each of its returns

module _ {geo : Geometry} {n0 : ℕ} {head : Head} {m : List (Option ℕ)} (stands : IsStanding geo n0 head m) (good : IsMap m) (b : ℕ) (marks bytes : List ℕ) (within : b < disk_blocks geo head.footer)
    (room : HasRoomFor geo (top_of (with_block b m)) n0) where
  abbrev l : Layout
  l = layout_in geo head.footer n0

  abbrev W : ℕ → List ℕ → Type 0
  W = PutsMarkedIn geo.block b marks bytes

  abbrev M : ℕ → Type 0
  M = IsMarkedIn geo.block b marks

  ok : IsLayout (layout_in geo head.footer n0)
  ok = layout-of geo.extent geo.block geo.entries (disk_blocks geo head.footer) n0 geo.in_range

  by : IsGivenBy (PutsMarkedIn geo.block b marks bytes) (IsMarkedIn geo.block b marks)
  by = marks-given geo.block (b * geo.block) marks bytes

  in_block : IsWithin (layout_in geo head.footer n0) (IsMarkedIn geo.block b marks) b (b + 1)
  in_block = marks-within l b marks

  inside : (s : ℕ) → IsMarkedIn geo.block b marks s → s < disk_blocks geo head.footer * geo.block
  inside s h = let low = mul-add-lt b geo.block h.i (disk_blocks geo head.footer) within h.within in omega (arith, low, h.here)

  in_map : b < length m
  in_map = omega (arith, stands.entries, stands.most, within)

  none_given : Given b b m m
  none_given = given-none b m good

  given : Given b (b + 1) m (with_block b m)
  given = given-more b b m m (omega arith) in_map none_given

  new_in : slot_of m b ≡ None → least_free_slot m < slot_count (layout_in geo head.footer n0)
  new_in none = new-slot-in l m b none in_map room

  pub block-stands : IsStanding geo n0 head (with_block b m)
  block-stands = record {
    entries = given.grown.long ∙ stands.entries;
    block = stands.block;
    size = stands.size;
    least = stands.least;
    most = stands.most;
    sized = λ c slot has. ⊎_elim (λ same. subst (λ x. x < disk_blocks geo head.footer) (sym same) within) (λ apart. stands.sized c slot (sym ((with_block-gives b m).others c apart) ∙ has)) (cases_eq c b);
    room = room;
  }

  module _ {old mid : Held} (was : IsTrueOf (layout_in geo head.footer n0) old head (slot_of m))
      (r : Reaches (PutsBlock (layout_in geo head.footer n0) (PutsMarkedIn geo.block b marks bytes) (IsMarkedIn geo.block b marks) m b) old mid) where
    pass : Reaches (PutsData (layout_in geo head.footer n0) (PutsMarkedIn geo.block b marks bytes) (slot_of m)) old mid
    pass = put-reaches l W M b b m m none_given (omega arith) new_in (Reaches-none (PutsData l W (slot_of m)) old) r

    pub block-guarded : IsGuarded (layout_in geo head.footer n0) (PutsMarkedIn geo.block b marks bytes) old mid
    block-guarded = guarded-first l ok W M by head m old was pass

    pub block-heads : KeepsHeads n0 old mid
    block-heads = heads-first l ok was.now.head.room W (slot_of m) was.now.slots pass

    pub block-keeps : KeepsToPlaces (layout_in geo head.footer n0) (PutsMarkedIn geo.block b marks bytes) (IsMarkedIn geo.block b marks) (slot_of m) (slot_of (with_block b m)) old mid
    block-keeps = block-places l W M b m m (with_block b m) (grown-none m) in_map (grown-none (with_block b m)) (Reaches-none (IsWritePlace l W M (slot_of m) (slot_of (with_block b m)) (reads old)) old) r

    module _ (put : IsPut (layout_in geo head.footer n0) (PutsMarkedIn geo.block b marks bytes) (IsMarkedIn geo.block b marks) (slot_of m b) (slot_of (with_block b m) b) b (reads mid)) where
      before : ArePut (layout_in geo head.footer n0) (PutsMarkedIn geo.block b marks bytes) (IsMarkedIn geo.block b marks) (slot_of m) (slot_of m) b (reads old)
      before c low = record {
        data_is = λ k has i v small puts. absurd (let here = in_block c i small (by.inside _ v puts) in omega (arith, here.0));
        fresh = λ k none has. absurd (none-some k (sym none ∙ has));
      }

      are : ArePut (layout_in geo head.footer n0) (PutsMarkedIn geo.block b marks bytes) (IsMarkedIn geo.block b marks) (slot_of m) (slot_of (with_block b m)) (b + 1) (reads mid)
      are = put-more l W M b b m m none_given (omega arith) new_in refl (with_block-gives b m).others r before put

      -- all bits were set already
      module _ {told : Type 0} (tells : told) (full : IsFull told (layout_in geo head.footer n0) (IsMarkedIn geo.block b marks) (slot_of m) b (reads old)) where
        same : with_block b m ≡ m
        same = with_block-held b m full.0 full.1

        pub block-still : IsTrueOf (layout_in geo head.footer n0) mid head (slot_of (with_block b m))
        block-still = subst (λ x. IsTrueOf l mid head (slot_of x)) (sym same) (true-first l ok W M by head m old was pass)

        shows : ShowsAll (layout_in geo head.footer n0) (PutsMarkedIn geo.block b marks bytes) (IsMarkedIn geo.block b marks) (slot_of m) (reads mid)
        shows = shows-first l ok W M by head m old was pass in_block
            (only-one (λ c. (k : ℕ) × (slot_of m c ≡ Some k) × HasBits l M c (reads old (place l k 0))) b (full.0, full.1, full.2 tells))
            (subst (λ x. ArePut l W M (slot_of m) (slot_of x) (b + 1) (reads mid)) same are)

        pub block-written : HasWritten (layout_in geo head.footer n0) (PutsMarkedIn geo.block b marks bytes) old mid
        block-written = written-first l ok W M by head m old was pass inside shows

      -- behind the sync
      puts : AllPut (layout_in geo head.footer n0) (PutsMarkedIn geo.block b marks bytes) (IsMarkedIn geo.block b marks) (slot_of m) (slot_of (with_block b m)) (reads mid)
      puts = all-put l W M by m (with_block b m) (reads mid) in_block given are

      slots : IsSlots (layout_in geo head.footer n0) (slot_of (with_block b m))
      slots = new-slots l m (with_block b m) was.now.slots given (omega (arith, within)) (given.grown.long ∙ stands.entries) room

      module _ {l' : Layout} (alike : l' ≡ layout_in geo head.footer n0) {new : Held} where
        module _ (goes : GoesOn l' (IsMarkedIn l'.block b marks) (slot_of (with_block b m)) mid new) where
          on : GoesOn (layout_in geo head.footer n0) (IsMarkedIn geo.block b marks) (slot_of (with_block b m)) mid new
          on = subst (λ x. GoesOn x (IsMarkedIn x.block b marks) (slot_of (with_block b m)) mid new) alike goes

          pub guarded-on : IsGuarded (layout_in geo head.footer n0) (PutsMarkedIn geo.block b marks bytes) old new
          guarded-on = guarded-after l ok W M by head m old was (with_block b m) slots mid pass puts on

          pub heads-on : KeepsHeads n0 old new
          heads-on = heads-after l ok was.now.head.room M (slot_of (with_block b m)) slots block-heads on

          pub keeps-on : KeepsToPlaces (layout_in geo head.footer n0) (PutsMarkedIn geo.block b marks bytes) (IsMarkedIn geo.block b marks) (slot_of m) (slot_of (with_block b m)) old new
          keeps-on = rest-places l W M (slot_of m) (slot_of (with_block b m)) old mid puts (first-bitmap l ok W (slot_of m) was.now.slots (reads old) (reads mid) (λ p below. pass.gives p) was.now.head.room) block-keeps on

        module _ {held : Bool} (had : held ≡ is_some (slot_of m b)) (done : IsFinished l' (IsMarkedIn l'.block b marks) (slot_of (with_block b m)) b (b + 1) held mid new) where
          finished : IsFinished (layout_in geo head.footer n0) (IsMarkedIn geo.block b marks) (slot_of (with_block b m)) b (b + 1) held mid new
          finished = subst (λ x. IsFinished x (IsMarkedIn x.block b marks) (slot_of (with_block b m)) b (b + 1) held mid new) alike done

          one_entry : (slot_of (with_block b m) b ≡ slot_of m b) ⊎ IsTableSector (layout_in geo head.footer n0) (slot_of (with_block b m)) (b / 128) (reads new (3 + b / 128))
          one_entry = ⊎_elim
              (λ none. inr (finished.table (had ∙ ap is_some none) (b / 128) (omega arith) (omega arith)))
              (λ has. inl (ap (λ x. slot_of x b) (with_block-held b m has.0 has.1)))
              (option_cases (slot_of m b))

          table : (c : ℕ) → c < entries_in_sectors (layout_in geo head.footer n0) → entry (reads new) c ≡ code (layout_in geo head.footer n0) (slot_of (with_block b m) c)
          table = table-after l ok W M by head m old was (with_block b m) slots mid pass puts finished.goes given
              (only-one (λ c. (slot_of (with_block b m) c ≡ slot_of m c) ⊎ IsTableSector l (slot_of (with_block b m)) (c / 128) (reads new (3 + c / 128))) b one_entry)

          pub still-on : IsTrueOf (layout_in geo head.footer n0) new head (slot_of (with_block b m))
          still-on = true-after l ok W M by head m old was (with_block b m) slots mid pass puts finished.goes table

          pub written-on : HasWritten (layout_in geo head.footer n0) (PutsMarkedIn geo.block b marks bytes) old new
          written-on = written-after l ok W M by head m old was (with_block b m) slots mid pass puts finished.goes table inside
              (shows-after l ok W M by head m old was (with_block b m) slots mid pass puts finished.goes in_block given finished.bits)
