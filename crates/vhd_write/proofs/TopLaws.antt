-- The whole write, by the sizes of the repository: what holds behind the first pass, and what behind the rest, which is
-- told in the layout `l'` of the store as it began, equal to the first.
use Rattle.std.proofs.Common.{◌≡◌, ◌≢◌, ℕ, ◌+◌, ◌-◌, ◌*◌, ◌/◌, ◌<◌, ◌≤◌, ◌⊎◌, Bool, true, false, List, length, Option, None, refl, sym, ap, ap₂, ◌∙◌, subst, subst₂, inl, inr, ⊎_elim, arith}
use Rattle.std.specs.Bool.{OnTrue}
use Rattle.std.proofs.lemmas.Bool.{cases_lt}
use Rattle.sm_base.specs.declared.sizes.Geometry.{Geometry}
use Rattle.sm_disk.specs.Held.{Held, IsIn, IsWhole, Puts, SameHeld, Reaches, reads}
use Rattle.sm_disk.proofs.HeldLaws.{reads-same}
use Rattle.sm_disk.proofs.ReachesLaws.{Reaches-then, Reaches-wider, Reaches-same}
use Rattle.vhd_map.specs.Slots.{slot_of, top_of}
use Rattle.vhd_layout.specs.Layouts.{Layout, Slots, IsLayout, IsSlots, place, entry, code, entries_in_sectors}
use Rattle.vhd_layout.proofs.ImageLaws.{option_cases, layout-of}
use Rattle.vhd_volumes.specs.declared.heads.Head.{Head}
use Rattle.vhd_volumes.specs.Truth.{IsTrueOf, IsStanding, HasRoomFor, layout_in, disk_sectors, disk_blocks}
use Rattle.vhd_volumes.specs.Writes.{IsGuarded, KeepsHeads, HasWritten, HasGrown, with_blocks, written_map}
use Rattle.vhd_write.specs.Passes.{PutsData, ArePut, AreAllNewSet, HasBits, IsFull, IsTableSector, GoesOn, IsFinished}
use Rattle.vhd_write.specs.Spans.{IsSpan, Given}
use Rattle.vhd_write.specs.WritePlaces.{IsWritePlace, KeepsToPlaces}
use Rattle.vhd_write.specs.WriteSpans.{AreNewSetIn, IsSpanOf}
use Rattle.vhd_write.specs.declared.spans.Span.{Span}
use Rattle.vhd_write.proofs.MapLaws.{with_blocks-held}
use Rattle.vhd_write.proofs.LoopLaws.{span-order, put-set}
use Rattle.vhd_write.proofs.GivenLaws.{IsGivenBy, IsWithin, given-puts, span-within}
use Rattle.vhd_write.proofs.FirstLaws.{first-bitmap}
use Rattle.vhd_write.proofs.RestLaws.{AllPut}
use Rattle.vhd_write.proofs.PlaceLaws.{places-as, rest-places}
use Rattle.vhd_write.proofs.HeadLaws.{heads-first, heads-after}
use Rattle.vhd_write.proofs.ExitLaws.{ShowsAll, guarded-first, true-first, written-first, shows-first, guarded-after, true-after, written-after, table-after, shows-after, all-put, new-slots}

-- the first pass, behind the reads of the bitmaps
pub first-places : {l l' : Layout} {a b c : Held} (W : ℕ → List ℕ → Type 0) (M : ℕ → Type 0) (m n : Slots) → l' ≡ l → SameHeld a b → KeepsToPlaces l' W M m n b c → KeepsToPlaces l W M m n a c
first-places {l} {l'} {a} {b} {c} W M m n e same r = Reaches-then (Reaches-same (IsWritePlace l W M m n (reads a)) same)
    (Reaches-wider (places-as l W M m n (λ p. reads-same same p)) (subst (λ x. KeepsToPlaces x W M m n b c) e r))

pub first-puts : {l l' : Layout} {a b c : Held} (W : ℕ → List ℕ → Type 0) (m : Slots) → l' ≡ l → SameHeld a b → Reaches (PutsData l' W m) b c → Reaches (PutsData l W m) a c
first-puts {l} {l'} {a} {b} {c} W m e same r = Reaches-then (Reaches-same (PutsData l W m) same) (subst (λ x. Reaches (PutsData x W m) b c) e r)

-- a block's entry: it had a slot, or its sector of the table was written
entry-cases : (held : Bool) (first end : ℕ) (m n : List (Option ℕ)) (T : ℕ → Type 0) → OnTrue held ((b : ℕ) → first ≤ b → b < end → slot_of m b ≢ None) → HasGrown m n
    → (held ≡ false → (index : ℕ) → first / 128 ≤ index → index ≤ (end - 1) / 128 → T index) → (b : ℕ) → first ≤ b → b < end → (slot_of n b ≡ slot_of m b) ⊎ T (b / 128)
entry-cases true first end m n T had grown table b low high = ⊎_elim
    (λ none. absurd (had b low high none))
    (λ has. inl (grown.keeps b has.0 has.1 ∙ sym has.1))
    (option_cases (slot_of m b))
entry-cases false first end m n T had grown table b low high = inr (table refl (b / 128) (omega arith) (omega arith))

module _ {geo : Geometry} {n0 : ℕ} {head : Head} {m : List (Option ℕ)} {at : ℕ} {span : Span} (from : List ℕ) (stands : IsStanding geo n0 head m) (whole : IsWhole at (length from) (disk_sectors head.footer))
    (slots : HasRoomFor geo (top_of (written_map geo.block at (length from) m)) n0) (fits : IsSpanOf geo head.footer at (length from) span) where
  abbrev l : Layout
  l = layout_in geo head.footer n0

  ok : IsLayout (layout_in geo head.footer n0)
  ok = layout-of geo.extent geo.block geo.entries (disk_blocks geo head.footer) n0 geo.in_range

  long : length from ≡ 512 * span.count
  long = omega (arith, whole.whole, fits.count)

  spans : IsSpan geo.block span.sector span.count span.first span.end
  spans = subst (λ b. IsSpan b span.sector span.count span.first span.end) fits.block span.in_range

  by : IsGivenBy (Puts span.sector from) (IsIn span.sector (length from))
  by = given-puts span.sector from

  in_span : IsWithin l (IsIn span.sector (length from)) span.first span.end
  in_span = span-within l from spans long

  within : (s : ℕ) → IsIn span.sector (length from) s → s < disk_blocks geo head.footer * geo.block
  within s here = omega (arith, here.1, whole.within, stands.size, fits.sector)

  -- the blocks that the write touches
  map-is : with_blocks span.first (span.end - span.first) m ≡ written_map geo.block at (length from) m
  map-is =
      let low : span.first ≡ at / geo.block = spans.first_is ∙ ap (λ (x : ℕ). x / geo.block) fits.sector in
      let last : span.end ≡ (at + length from / 512 - 1) / geo.block + 1 = spans.end_is ∙ ap₂ (λ (x y : ℕ). (x + y - 1) / geo.block + 1) fits.sector fits.count in
      let order = span-order spans in
      let many : span.end - span.first ≡ (at + length from / 512 - 1) / geo.block - at / geo.block + 1 = omega (arith, low, last, order) in
      ap₂ (λ (x y : ℕ). with_blocks x y m) low many

  pub room-all : HasRoomFor geo (top_of (with_blocks span.first (span.end - span.first) m)) n0
  room-all = subst (λ x. HasRoomFor geo (top_of x) n0) (sym map-is) slots

  module _ {n : List (Option ℕ)} (given : Given span.first span.end m n) where
    pub new-map : n ≡ written_map geo.block at (length from) m
    new-map = given.is ∙ map-is

    pub new-room : HasRoomFor geo (top_of n) n0
    new-room = subst (λ x. HasRoomFor geo (top_of x) n0) (sym new-map) slots

    pub new-stands : IsStanding geo n0 head n
    new-stands = record {
      entries = given.grown.long ∙ stands.entries;
      block = stands.block;
      size = stands.size;
      least = stands.least;
      most = stands.most;
      sized = λ b slot has. ⊎_elim (λ below. omega (arith, fits.most)) (λ past. stands.sized b slot (sym (given.others b (inr past)) ∙ has)) (cases_lt b span.end);
      room = new-room;
    }

  -- the places that the write may put anything at, by the map that it ends with
  pub places-now : {old mid : Held} → KeepsToPlaces (layout_in geo head.footer n0) (Puts span.sector from) (IsIn span.sector (length from)) (slot_of m) (slot_of (with_blocks span.first (span.end - span.first) m)) old mid
      → KeepsToPlaces (layout_in geo head.footer n0) (Puts at from) (IsIn at (length from)) (slot_of m) (slot_of (written_map geo.block at (length from) m)) old mid
  places-now {old} {mid} p = subst₂ (λ s x. KeepsToPlaces l (Puts s from) (IsIn s (length from)) (slot_of m) (slot_of x) old mid) fits.sector map-is p

  module _ {old mid : Held} (was : IsTrueOf (layout_in geo head.footer n0) old head (slot_of m)) (r : Reaches (PutsData (layout_in geo head.footer n0) (Puts span.sector from) (slot_of m)) old mid) where
    pub guarded-now : IsGuarded l (Puts at from) old mid
    guarded-now = subst (λ x. IsGuarded l (Puts x from) old mid) fits.sector (guarded-first l ok (Puts span.sector from) (IsIn span.sector (length from)) by head m old was r)

    pub heads-now : KeepsHeads n0 old mid
    heads-now = heads-first l ok was.now.head.room (Puts span.sector from) (slot_of m) was.now.slots r

    module _ {n : List (Option ℕ)} (given : Given span.first span.end m n) (put : ArePut (layout_in geo head.footer n0) (Puts span.sector from) (IsIn span.sector (length from)) (slot_of m) (slot_of n) span.end (reads mid)) where
      -- ---- all bits were set already

      module _ {told : Type 0} (tells : told) (full : (b : ℕ) → span.first ≤ b → b < span.end → IsFull told (layout_in geo head.footer n0) (IsIn span.sector (512 * span.count)) (slot_of m) b (reads old)) where
        same-map : n ≡ m
        same-map = given.is ∙ with_blocks-held span.first (span.end - span.first) m (λ b low high. let f = full b low (omega arith) in (f.0, f.1))

        pub still-now : IsTrueOf l mid head (slot_of n)
        still-now = subst (λ x. IsTrueOf l mid head (slot_of x)) (sym same-map) (true-first l ok (Puts span.sector from) (IsIn span.sector (length from)) by head m old was r)

        shows : ShowsAll l (Puts span.sector from) (IsIn span.sector (length from)) (slot_of m) (reads mid)
        shows = shows-first l ok (Puts span.sector from) (IsIn span.sector (length from)) by head m old was r in_span
            (λ b low high. let f = full b low high in (f.0, f.1, subst (λ x. HasBits l (IsIn span.sector x) b (reads old (place l f.0 0))) (sym long) (f.2 tells)))
            (subst (λ x. ArePut l (Puts span.sector from) (IsIn span.sector (length from)) (slot_of m) (slot_of x) span.end (reads mid)) same-map put)

        pub written-now : HasWritten l (Puts at from) old mid
        written-now = subst (λ x. HasWritten l (Puts x from) old mid) fits.sector (written-first l ok (Puts span.sector from) (IsIn span.sector (length from)) by head m old was r within shows)

      -- new slots have the bits already
      pub new-set : {l' : Layout} → l' ≡ layout_in geo head.footer n0 → AreNewSetIn l' span (top_of m) (slot_of n) (reads mid)
      new-set {l'} same = subst₂ (λ y x. AreAllNewSet y (IsIn span.sector x) (top_of m) (slot_of n) span.first span.end (reads mid)) (sym same) long (put-set span.first given.grown put)

      -- ---- behind the sync

      slots-now : IsSlots l (slot_of n)
      slots-now = new-slots l m n was.now.slots given fits.most (given.grown.long ∙ stands.entries) (new-room given)

      puts : AllPut l (Puts span.sector from) (IsIn span.sector (length from)) (slot_of m) (slot_of n) (reads mid)
      puts = all-put l (Puts span.sector from) (IsIn span.sector (length from)) by m n (reads mid) in_span given put

      module _ {l' : Layout} (same : l' ≡ layout_in geo head.footer n0) {new : Held} where
        pub guarded-then : GoesOn l' (IsIn span.sector (512 * span.count)) (slot_of n) mid new → IsGuarded l (Puts at from) old new
        guarded-then goes = subst (λ x. IsGuarded l (Puts x from) old new) fits.sector (guarded-after l ok (Puts span.sector from) (IsIn span.sector (length from)) by head m old was n slots-now mid r puts
            (subst₂ (λ y x. GoesOn y (IsIn span.sector x) (slot_of n) mid new) same (sym long) goes))

        pub places-then : KeepsToPlaces (layout_in geo head.footer n0) (Puts span.sector from) (IsIn span.sector (length from)) (slot_of m) (slot_of (with_blocks span.first (span.end - span.first) m)) old mid
            → GoesOn l' (IsIn span.sector (512 * span.count)) (slot_of n) mid new
            → KeepsToPlaces (layout_in geo head.footer n0) (Puts at from) (IsIn at (length from)) (slot_of m) (slot_of (written_map geo.block at (length from) m)) old new
        places-then p goes = subst₂ (λ s x. KeepsToPlaces l (Puts s from) (IsIn s (length from)) (slot_of m) (slot_of x) old new) fits.sector (new-map given)
            (rest-places l (Puts span.sector from) (IsIn span.sector (length from)) (slot_of m) (slot_of n) old mid puts (first-bitmap l ok (Puts span.sector from) (slot_of m) was.now.slots (reads old) (reads mid) (λ p below. r.gives p) was.now.head.room)
            (subst (λ x. KeepsToPlaces l (Puts span.sector from) (IsIn span.sector (length from)) (slot_of m) (slot_of x) old mid) (sym given.is) p)
            (subst₂ (λ y x. GoesOn y (IsIn span.sector x) (slot_of n) mid new) same (sym long) goes))

        pub heads-then : GoesOn l' (IsIn span.sector (512 * span.count)) (slot_of n) mid new → KeepsHeads n0 old new
        heads-then goes = heads-after l ok was.now.head.room (IsIn span.sector (512 * span.count)) (slot_of n) slots-now heads-now
            (subst (λ y. GoesOn y (IsIn span.sector (512 * span.count)) (slot_of n) mid new) same goes)

        module _ {held : Bool} (had : OnTrue held ((b : ℕ) → span.first ≤ b → b < span.end → slot_of m b ≢ None)) (done : IsFinished l' (IsIn span.sector (512 * span.count)) (slot_of n) span.first span.end held mid new) where
          finished : IsFinished l (IsIn span.sector (length from)) (slot_of n) span.first span.end held mid new
          finished = subst₂ (λ y x. IsFinished y (IsIn span.sector x) (slot_of n) span.first span.end held mid new) same (sym long) done

          table : (b : ℕ) → b < entries_in_sectors l → entry (reads new) b ≡ code l (slot_of n b)
          table = table-after l ok (Puts span.sector from) (IsIn span.sector (length from)) by head m old was n slots-now mid r puts finished.goes given
              (entry-cases held span.first span.end m n (λ index. IsTableSector l (slot_of n) index (reads new (3 + index))) had given.grown finished.table)

          pub still-then : IsTrueOf l new head (slot_of n)
          still-then = true-after l ok (Puts span.sector from) (IsIn span.sector (length from)) by head m old was n slots-now mid r puts finished.goes table

          pub written-then : HasWritten l (Puts at from) old new
          written-then = subst (λ x. HasWritten l (Puts x from) old new) fits.sector
              (written-after l ok (Puts span.sector from) (IsIn span.sector (length from)) by head m old was n slots-now mid r puts finished.goes table within
              (shows-after l ok (Puts span.sector from) (IsIn span.sector (length from)) by head m old was n slots-now mid r puts finished.goes in_span given finished.bits))
