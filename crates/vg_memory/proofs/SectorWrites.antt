-- A read and a write of a volume that go sector by sector.
use Rattle.std.proofs.Common.{◌≡◌, ℕ, Bool, false, ◌||◌, ◌+◌, ◌-◌, ◌*◌, ◌<◌, ◌≤◌, ◌⊎◌, inl, inr, List, [], ◌∷◌, ◌++◌, length, take, drop, refl, sym, ap, ap₂, subst, ◌∙◌, arith}
use Rattle.std.proofs.lemmas.Bool.{cases_lt}
use Rattle.std.proofs.lemmas.List.{length-take-le, length-drop}
use Rattle.std.proofs.Math.Seq.{drop-append_seam}
use Rattle.sm_disk.specs.Sectors.{sector}
use Rattle.sm_disk.specs.Held.{Held, IsIn, Torn, Wrote, Gave, SameHeld, reads}
use Rattle.sm_disk.specs.Memory.{Memory, held_by}
use Rattle.sm_disk.specs.Failing.{Orders, HasPassed, fails}
use Rattle.sm_disk.proofs.SectorLaws.{sector-one, sector-take, sector-drop, sector-append_left}
use Rattle.sm_disk.proofs.FrontLaws.{WroteFront, WroteFront-none, WroteFront-more, torn_from_front, GaveFront}
use Rattle.sm_disk.proofs.HeldLaws.{reads-same, SameHeld-none}
use Rattle.vg_volumes.specs.Volumes.{spot, span, volume, SameElsewhere, AreIn}
use Rattle.vg_memory.specs.Stores.{IsQuiet}
use Rattle.vg_volumes.proofs.SpotLaws.{spot_once}
use Rattle.vg_volumes.proofs.VolumeLaws.{SameElsewhere-then, volume_pending, volume_reads, past_pending, volume_floor_same}

-- a sector of a volume stands in this place
pub record IsSpot (size x : ℕ) (es : List ℕ) (p place : ℕ) : Type 0 where
  pub on : AreIn size x es
  pub in_span : p < span x es
  pub at : place ≡ spot x es p

-- one sector of some bytes
pub record IsPiece (bytes part : List ℕ) (n : ℕ) : Type 0 where
  pub is : part ≡ sector bytes n
  pub long : length part ≡ 512
  pub within : 512 * n + 512 ≤ length bytes

pub piece_from : {bytes rest part : List ℕ} {n : ℕ} → rest ≡ drop (512 * n) bytes → part ≡ take 512 rest → 512 * n + 512 ≤ length bytes → IsPiece bytes part n
unfolding sector
piece_from {bytes} {rest} {part} {n} back front within = record {
  is = front ∙ ap (take 512) back;
  long = ap length (front ∙ ap (take 512) back) ∙ length-take-le 512 (drop (512 * n) bytes) (omega (arith, within, length-drop (512 * n) bytes));
  within = within;
}

-- ---- one sector of the area is one of the volume

spot_wrote : {size x : ℕ} {es : List ℕ} {p place : ℕ} {part : List ℕ} {a b : Held} → IsSpot size x es p place → length part ≡ 512
    → Wrote place part a b → Wrote p part (volume x es a) (volume x es b)
spot_wrote {size} {x} {es} {p} {place} {part} {a} {b} s long w = record {
  floor = volume_floor_same x es a b w.floor;
  inside = λ q here. inside q (omega (arith, here.0, here.1, long));
  outside = λ q not_here. outside q not_here (cases_lt q (span x es));
}
  where
    at_spot : (q : ℕ) → q ≡ p → place ≡ spot x es q
    at_spot q same = s.at ∙ ap (spot x es) (sym same)

    inside : (q : ℕ) → q ≡ p → (volume x es b).pending q ≡ (volume x es a).pending q ++ sector part (q - p) ∷ []
    inside q same =
        let below : q < span x es = omega (arith, same, s.in_span) in
        let back : spot x es q - place ≡ q - p = omega (arith, at_spot q same, same) in
        volume_pending x es b q below
        ∙ w.inside (spot x es q) (omega (arith, at_spot q same), omega (arith, at_spot q same, long))
        ∙ ap₂ (λ l i. l ++ sector part i ∷ []) (sym (volume_pending x es a q below)) back

    outside : (q : ℕ) → (IsIn p (length part) q → ⊥) → (q < span x es) ⊎ (span x es ≤ q) → (volume x es b).pending q ≡ (volume x es a).pending q
    outside q not_here (inl below) =
        volume_pending x es b q below
        ∙ w.outside (spot x es q) (λ there.
        let same : q ≡ p = spot_once q p s.on below s.in_span (omega (arith, there.0, there.1, long, s.at)) in
        not_here (omega (arith, same), omega (arith, same, long)))
        ∙ sym (volume_pending x es a q below)
    outside q not_here (inr past) = past_pending x es b q past ∙ sym (past_pending x es a q past)

-- what a write of one sector that may have failed leaves: as before, or the sector
same_or_wrote : {place : ℕ} {part : List ℕ} {a b : Held} → length part ≡ 512 → Torn place part a b → SameHeld a b ⊎ Wrote place part a b
same_or_wrote {place} {part} {a} {b} long t = by (t.pending place)
  where
    away : (p : ℕ) → (IsIn place (length part) p → ⊥) → b.pending p ≡ a.pending p
    away p not_here = at (t.pending p)
      where
        at : (b.pending p ≡ a.pending p) ⊎ (IsIn place (length part) p × (b.pending p ≡ a.pending p ++ sector part (p - place) ∷ [])) → b.pending p ≡ a.pending p
        at (inl same) = same
        at (inr (here, more)) = absurd (not_here here)

    one : (p : ℕ) → IsIn place (length part) p → place ≡ p
    one p here = omega (arith, here.0, here.1, long)

    by : (b.pending place ≡ a.pending place) ⊎ (IsIn place (length part) place × (b.pending place ≡ a.pending place ++ sector part (place - place) ∷ []))
        → SameHeld a b ⊎ Wrote place part a b
    by (inl same) = inl (record { floor = t.floor; pending = λ p. still p (cases_lt p place) (cases_lt place p) })
      where
        still : (p : ℕ) → (p < place) ⊎ (place ≤ p) → (place < p) ⊎ (p ≤ place) → b.pending p ≡ a.pending p
        still p (inl before) _ = away p (λ here. omega (arith, here.0))
        still p (inr from) (inl past) = away p (λ here. omega (arith, here.1, long))
        still p (inr from) (inr to) = let at : place ≡ p = omega arith in subst (λ q. b.pending q ≡ a.pending q) at same
    by (inr (here, more)) = inr (record {
      floor = t.floor;
      inside = λ p in_place. subst (λ q. b.pending q ≡ a.pending q ++ sector part (q - place) ∷ []) (one p in_place) more;
      outside = away;
    })

spot_elsewhere : {size x : ℕ} {es : List ℕ} {p place : ℕ} {part : List ℕ} {a b : Held} → IsSpot size x es p place → length part ≡ 512
    → Wrote place part a b → SameElsewhere x es a b
spot_elsewhere {size} {x} {es} {p} {place} {part} {a} {b} s long w = record {
  floor = λ q _. w.floor q;
  pending = λ q away. w.outside q (λ there.
      let same : spot x es p ≡ q = omega (arith, there.0, there.1, long, s.at) in
      away p s.in_span same);
}

SameElsewhere-same : {x : ℕ} {es : List ℕ} {a b : Held} → SameHeld a b → SameElsewhere x es a b
SameElsewhere-same s = record { floor = λ p _. s.floor p; pending = λ p _. s.pending p }

volume_same : (x : ℕ) (es : List ℕ) {a b : Held} → SameHeld a b → SameHeld (volume x es a) (volume x es b)
volume_same x es {a} {b} s = record { floor = volume_floor_same x es a b s.floor; pending = λ p. by p (cases_lt p (span x es)) }
  where
    by : (p : ℕ) → (p < span x es) ⊎ (span x es ≤ p) → (volume x es b).pending p ≡ (volume x es a).pending p
    by p (inl below) = volume_pending x es b p below ∙ s.pending (spot x es p) ∙ sym (volume_pending x es a p below)
    by p (inr past) = past_pending x es b p past ∙ sym (past_pending x es a p past)

-- ---- writes

-- the first n sectors of a volume's bytes were written, and nothing else
pub record HasWritten (x : ℕ) (es : List ℕ) (at : ℕ) (bytes : List ℕ) (n : ℕ) (old new : Held) : Type 0 where
  pub front : WroteFront at bytes n (volume x es old) (volume x es new)
  pub elsewhere : SameElsewhere x es old new

pub HasWritten-none : (x : ℕ) (es : List ℕ) (at : ℕ) (bytes : List ℕ) (h : Held) → HasWritten x es at bytes 0 h h
HasWritten-none x es at bytes h = record {
  front = WroteFront-none at bytes (volume x es h);
  elsewhere = record { floor = λ p _. refl; pending = λ p _. refl };
}

pub HasWritten-more : {size x : ℕ} {es : List ℕ} {at : ℕ} {bytes part : List ℕ} {n place : ℕ} {old mid new : Held} → IsSpot size x es (at + n) place → IsPiece bytes part n
    → HasWritten x es at bytes n old mid → Wrote place part mid new → HasWritten x es at bytes (n + 1) old new
HasWritten-more s part w wrote = record {
  front = WroteFront-more part.within refl part.is w.front (spot_wrote s part.long wrote);
  elsewhere = SameElsewhere-then w.elsewhere (spot_elsewhere s part.long wrote);
}

-- some of a volume's bytes were written, and nothing else
pub record HasTorn (x : ℕ) (es : List ℕ) (at : ℕ) (bytes : List ℕ) (old new : Held) : Type 0 where
  pub torn : Torn at bytes (volume x es old) (volume x es new)
  pub elsewhere : SameElsewhere x es old new

pub HasTorn-more : {size x : ℕ} {es : List ℕ} {at : ℕ} {bytes part : List ℕ} {n place : ℕ} {old mid new : Held} → IsSpot size x es (at + n) place → IsPiece bytes part n
    → HasWritten x es at bytes n old mid → Torn place part mid new → HasTorn x es at bytes old new
HasTorn-more {size} {x} {es} {at} {bytes} {part} {n} {place} {old} {mid} {new} s piece w torn = by (same_or_wrote piece.long torn)
  where
    by : SameHeld mid new ⊎ Wrote place part mid new → HasTorn x es at bytes old new
    by (inl same) = record {
      torn = torn_from_front (omega (arith, piece.within)) w.front (volume_same x es same);
      elsewhere = SameElsewhere-then w.elsewhere (SameElsewhere-same same);
    }
    by (inr wrote) =
        let more = HasWritten-more s piece w wrote in
        record { torn = torn_from_front (omega (arith, piece.within)) more.front (SameHeld-none (volume x es new)); elsewhere = more.elsewhere }

-- how far a write came
pub record WriteGoes (x : ℕ) (es : List ℕ) (at : ℕ) (bytes : List ℕ) (done count : ℕ) (old new : Memory) : Type 0 where
  pub size_is : new.sectors ≡ old.sectors
  pub quiet : IsQuiet new.orders
  pub calm : new.faults ≡ old.faults
  pub most : done ≤ count
  pub long : 0 < done → new.short ≡ false
  pub wrote : HasWritten x es at bytes done (held_by old.slots) (held_by new.slots)

-- ---- reads

-- a read of one sector of the area is one of the volume
spot_gave : {size x : ℕ} {es : List ℕ} {p place : ℕ} (h : Held) (part : List ℕ) → IsSpot size x es p place → length part ≡ 512
    → Gave place h part → part ≡ reads (volume x es h) p
spot_gave {size} {x} {es} {p} {place} h part s long g =
    let none : 0 ≡ place - place = omega arith in
    sym (sector-one part long) ∙ ap (sector part) none ∙ g place (omega arith, omega (arith, long)) ∙ ap (reads h) s.at ∙ sym (volume_reads x es h p s.in_span)

-- the bytes of a buffer after a read into one sector of it
pub GaveFront-more : {size x : ℕ} {es : List ℕ} {place : ℕ} (at n : ℕ) (old mid : Held) (xs front part rest : List ℕ) → IsSpot size x es (at + n) place
    → 512 * n ≤ length xs → front ≡ take (512 * n) xs → length part ≡ 512 → SameHeld old mid → Gave place mid part
    → GaveFront at (volume x es old) xs n → GaveFront at (volume x es old) (front ++ (part ++ rest)) (n + 1)
GaveFront-more {size} {x} {es} {place} at n old mid xs front part rest s within is long same gave before = λ j low.
    ap (λ l. sector (l ++ (part ++ rest)) j) is ∙ by j low (cases_lt j n)
  where
    long_front : length (take (512 * n) xs) ≡ 512 * n
    long_front = length-take-le (512 * n) xs within

    here : part ≡ reads (volume x es old) (at + n)
    here = spot_gave old part s long (λ p in_place. gave p in_place ∙ reads-same same p)

    behind : sector (take (512 * n) xs ++ (part ++ rest)) (n + 0) ≡ part
    behind =
        sym (sector-drop (take (512 * n) xs ++ (part ++ rest)) n 0)
        ∙ ap (λ k. sector (drop k (take (512 * n) xs ++ (part ++ rest))) 0) (sym long_front)
        ∙ ap (λ l. sector l 0) (drop-append_seam (take (512 * n) xs) (part ++ rest))
        ∙ sector-append_left part rest 0 (omega (arith, long))
        ∙ sector-one part long

    by : (j : ℕ) → j < n + 1 → (j < n) ⊎ (n ≤ j) → sector (take (512 * n) xs ++ (part ++ rest)) j ≡ reads (volume x es old) (at + j)
    by j low (inl below) =
        sector-append_left (take (512 * n) xs) (part ++ rest) j (omega (arith, long_front))
        ∙ sector-take xs (512 * n) j (omega arith)
        ∙ before j below
    by j low (inr past) =
        let last : j ≡ n + 0 = omega arith in
        let place_is : at + n ≡ at + j = omega arith in
        ap (sector (take (512 * n) xs ++ (part ++ rest))) last ∙ behind ∙ here ∙ ap (reads (volume x es old)) place_is

-- how far a read came
pub record ReadGoes (x : ℕ) (es : List ℕ) (at : ℕ) (bytes : List ℕ) (done count : ℕ) (old new : Memory) : Type 0 where
  pub size_is : new.sectors ≡ old.sectors
  pub quiet : IsQuiet new.orders
  pub faults_are : new.faults ≡ old.faults
  pub most : done ≤ count
  pub same : SameHeld (held_by old.slots) (held_by new.slots)
  pub gave : GaveFront at (volume x es (held_by old.slots)) bytes done

-- a device that is never told to fail stays one
pub still_quiet : {old new : Orders} → IsQuiet old → HasPassed old new → IsQuiet new
still_quiet quiet passed = λ k. passed.failing k ∙ quiet (k + 1)

-- a write that such a device answers is not short of memory, and one that it fails is
pub short_is : (o : Orders) (r short : Bool) → IsQuiet o → r ≡ (fails o 0 || short) → short ≡ r
short_is o r short quiet exact = sym (exact ∙ ap (λ b. b || short) (quiet 0))
