-- What a group leaves as it was: the places of the device that are no part of it.
use Rattle.std.proofs.Common.{◌≡◌, ◌≢◌, ℕ, zero, suc, ◌+◌, ◌-◌, ◌*◌, ◌<◌, ◌≤◌, Bool, true, false, cond, not, eqb, ◌⊎◌, inl, inr, List, [], length, refl, ap, subst, ◌∙◌, arith}
use Rattle.std.specs.Prelude.{◌&&◌, ◌||◌, nat_lt, nat_le}
use Rattle.std.proofs.lemmas.Bool.{cases_lt, eqb-false, leb-false, leb-true, ltb-false, ltb-true, or_parts}
use Rattle.sm_disk.specs.Held.{Held, IsIn, May, Keeps, Reaches, Puts, newest, reads}
use Rattle.sm_disk.proofs.HeldLaws.{reads-at, may-at}
use Rattle.vg_layout.specs.Places.{Frame, area_place, frame_of, label_place, narrow_frame, slot_place}
use Rattle.vg_volumes.specs.Commits.{current_version}
use Rattle.vg_volumes.specs.Volumes.{spot, span, SameElsewhere}
use Rattle.vg_store.specs.Groups.{area_of, beside_of, is_beside, is_in_slot, is_of_frame}
use Rattle.vg_store.specs.Runs.{AreOn, SameInFront}
use Rattle.vg_store.proofs.RunLaws.{spot_on}

-- where reads stay and a stop leaves nothing new at each place beside a group, what is held beside it is kept
pub keeps_beside : (l area : ℕ) (old new : Held) → ((p : ℕ) → is_beside l area p ≡ true → reads new p ≡ reads old p)
    → ((p : ℕ) (v : List ℕ) → is_beside l area p ≡ true → May new p v → May old p v) → Keeps (beside_of l area old) (beside_of l area new)
unfolding beside_of
keeps_beside l area old new same fewer = record {
  reads = λ p. read p (is_beside l area p) (same p);
  may = λ p v. left p v (is_beside l area p) (fewer p v);
}
  where
    read : (p : ℕ) (b : Bool) → (b ≡ true → reads new p ≡ reads old p)
        → newest (cond b (new.floor p) []) (cond b (new.pending p) []) ≡ newest (cond b (old.floor p) []) (cond b (old.pending p) [])
    read p true is = is refl
    read p false is = refl

    left : (p : ℕ) (v : List ℕ) (b : Bool) → (b ≡ true → May new p v → May old p v)
        → May (record { floor = λ q. cond b (new.floor q) []; pending = λ q. cond b (new.pending q) [] }) p v
        → May (record { floor = λ q. cond b (old.floor q) []; pending = λ q. cond b (old.pending q) [] }) p v
    left p v true is m = is refl m
    left p v false is m = m

-- a place where a frame has nothing
pub record IsNoPart (f : Frame) (p : ℕ) : Type 0 where
  pub label : 1 ≤ p
  pub header : p ≢ f.header
  pub slots : (s : ℕ) → s ≤ 1 → (p < slot_place f s) ⊎ (slot_place f s + f.room ≤ p)

-- a place beside a group: one in front of the extents where its layout's frame has nothing, or one behind the last of them
abbrev pub IsBesideAt : ℕ → ℕ → ℕ → Type 0
IsBesideAt layout area p = ((p < area_place layout) × IsNoPart (frame_of current_version layout) p) ⊎ (area_place layout + area ≤ p)

-- a place that is in no slot is in front of it or behind it
no_slot : (f : Frame) (s p : ℕ) → is_in_slot f s p ≡ false → (p < slot_place f s) ⊎ (slot_place f s + f.room ≤ p)
no_slot f s p none = by (nat_le (slot_place f s) p) (nat_lt p (slot_place f s + f.room)) (leb-false (slot_place f s) p) (ltb-false p (slot_place f s + f.room)) none
  where
    by : (a b : Bool) → (a ≡ false → p < slot_place f s) → (b ≡ false → slot_place f s + f.room ≤ p) → (a && b) ≡ false → (p < slot_place f s) ⊎ (slot_place f s + f.room ≤ p)
    by false b low past none = inl (low refl)
    by true false low past none = inr (past refl)
    by true true low past none = absurd cc

no_part : (f : Frame) (p : ℕ) → is_of_frame f p ≡ false → IsNoPart f p
no_part f p none =
    let label = or_parts (eqb p label_place) _ none in
    let header = or_parts (eqb p f.header) _ label.1 in
    let slots = or_parts (is_in_slot f 0 p) (is_in_slot f 1 p) header.1 in
    record { label = some (eqb-false p label_place label.0); header = eqb-false p f.header header.0; slots = λ s low. by s low slots.0 slots.1 }
  where
    some : (p ≡ 0 → ⊥) → 1 ≤ p
    some other = elim (cases_lt p 1) [
      | inl less ↦ absurd (other (omega (arith, less)))
      | inr more ↦ more
    ]

    by : (s : ℕ) → s ≤ 1 → is_in_slot f 0 p ≡ false → is_in_slot f 1 p ≡ false → (p < slot_place f s) ⊎ (slot_place f s + f.room ≤ p)
    by zero low zeroth first = no_slot f 0 p zeroth
    by (suc zero) low zeroth first = no_slot f 1 p first
    by (suc (suc s)) low zeroth first = absurd (omega (arith, low))

beside_where : (l area p : ℕ) → is_beside l area p ≡ true → IsBesideAt l area p
beside_where l area p is =
    by (nat_lt p (area_place l)) (is_of_frame (frame_of current_version l) p) (nat_le (area_place l + area) p) (ltb-true p (area_place l)) (no_part (frame_of current_version l) p) (leb-true (area_place l + area) p) is
  where
    by : (a b c : Bool) → (a ≡ true → p < area_place l) → (b ≡ false → IsNoPart (frame_of current_version l) p) → (c ≡ true → area_place l + area ≤ p) → ((a && not b) || c) ≡ true → IsBesideAt l area p
    by true false c low none past is = inl (low refl, none refl)
    by true true true low none past is = inr (past refl)
    by true true false low none past is = absurd cc
    by false b true low none past is = inr (past refl)
    by false b false low none past is = absurd cc

-- a sync keeps it
pub beside_kept : (l area : ℕ) {old new : Held} → Keeps old new → Keeps (beside_of l area old) (beside_of l area new)
beside_kept l area {old} {new} k = keeps_beside l area old new (λ p is. k.reads p) (λ p v is. k.may p v)

-- what is written at no such place leaves it as it was
pub beside_apart : (W : ℕ → List ℕ → Type 0) (l area : ℕ) (a b : Held) → ((p : ℕ) (v : List ℕ) → IsBesideAt l area p → W p v → ⊥) → Reaches W a b
    → Keeps (beside_of l area a) (beside_of l area b)
beside_apart W l area a b apart r = keeps_beside l area a b (λ p is. gave p (beside_where l area p is) (r.gives p)) (λ p v is m. left p v (beside_where l area p is) (r.may p v m))
  where
    gave : (p : ℕ) → IsBesideAt l area p → (reads b p ≡ reads a p) ⊎ W p (reads b p) → reads b p ≡ reads a p
    gave p at (inl same) = same
    gave p at (inr written) = absurd (apart p (reads b p) at written)

    left : (p : ℕ) (v : List ℕ) → IsBesideAt l area p → May a p v ⊎ W p v → May a p v
    left p v at (inl was) = was
    left p v at (inr written) = absurd (apart p v at written)

-- what is written at a frame's header, or into one of its slots
pub beside_reached : (l area place : ℕ) (a b : Held) (written : List ℕ) → ((q : ℕ) → IsNoPart (frame_of current_version l) q → IsIn place (length written) q → ⊥)
    → 512 * place + length written ≤ 512 * area_place l → Reaches (Puts place written) a b → Keeps (beside_of l area a) (beside_of l area b)
beside_reached l area place a b written clear front = beside_apart (Puts place written) l area a b (λ p v at put. by p at put.0)
  where
    by : (p : ℕ) → IsBesideAt l area p → IsIn place (length written) p → ⊥
    by p (inl free) here = clear p free.1 here
    by p (inr past) here = omega (arith, here.1, past, front)

narrow_area : area_place 0 ≡ 4096
unfolding area_place
narrow_area = refl

narrow_current : frame_of current_version 0 ≡ narrow_frame
unfolding frame_of
narrow_current = refl

-- what is written in front of the extents of the narrow layout, from its header on, and at the label
pub beside_narrow : (W : ℕ → List ℕ → Type 0) (l area : ℕ) (a b : Held) → l ≡ 0 → ((p : ℕ) (v : List ℕ) → W p v → ((narrow_frame.header ≤ p) × (p < 4096)) ⊎ (p ≡ label_place)) → Reaches W a b
    → Keeps (beside_of l area a) (beside_of l area b)
beside_narrow W l area a b narrow there = beside_apart W l area a b (λ p v at w. by p at (there p v w))
  where
    begins : area_place l ≡ 4096
    begins = ap area_place narrow ∙ narrow_area

    frame : frame_of current_version l ≡ narrow_frame
    frame = ap (frame_of current_version) narrow ∙ narrow_current

    slot : (p : ℕ) → narrow_frame.header ≤ p → p < 4096 → p ≢ narrow_frame.header → (p < 2051) ⊎ (2051 + 2045 ≤ p) → ⊥
    slot p from to apart (inl before) = apart (omega (arith, from, before))
    slot p from to apart (inr past) = omega (arith, to, past)

    by : (p : ℕ) → IsBesideAt l area p → ((narrow_frame.header ≤ p) × (p < 4096)) ⊎ (p ≡ label_place) → ⊥
    by p (inl free) (inl at) = let none = subst (λ (f : Frame). IsNoPart f p) frame free.1 in slot p at.0 at.1 none.header (none.slots 0 (omega arith))
    by p (inl free) (inr label) = omega (arith, free.1.label, label)
    by p (inr past) (inl at) = omega (arith, past, at.1, begins)
    by p (inr past) (inr label) = omega (arith, past, label, begins)

-- a place behind the last extent is no place of a volume
past_elsewhere : (l area x : ℕ) (es : List ℕ) (q : ℕ) → AreOn l (area_place l + area) x es → area ≤ q → (r : ℕ) → r < span x es → spot x es r ≢ q
past_elsewhere l area x es q on past r low same = let below = spot_on l (area_place l + area) x es r on low in absurd (omega (arith, below, same, past))

-- and so does a write into a volume
pub beside_written : (l area x : ℕ) (es : List ℕ) (a b : Held) → AreOn l (area_place l + area) x es → SameInFront l a b → SameElsewhere x es (area_of l a) (area_of l b)
    → Keeps (beside_of l area a) (beside_of l area b)
beside_written l area x es a b on front apart =
    keeps_beside l area a b (λ p is. reads-at a b p (floor p (beside_where l area p is)) (pending p (beside_where l area p is)))
    (λ p v is m. may-at a b p v (floor p (beside_where l area p is)) (pending p (beside_where l area p is)) m)
  where
    floor : (p : ℕ) → IsBesideAt l area p → b.floor p ≡ a.floor p
    floor p (inl behind) = front.floor p behind.0
    floor p (inr past) =
        let at : area_place l + (p - area_place l) ≡ p = omega (arith, past) in
        let P : ℕ → Type 0 = λ q. b.floor q ≡ a.floor q in
        subst P at (apart.floor (p - area_place l) (past_elsewhere l area x es (p - area_place l) on (omega (arith, past))))

    pending : (p : ℕ) → IsBesideAt l area p → b.pending p ≡ a.pending p
    pending p (inl behind) = front.pending p behind.0
    pending p (inr past) =
        let at : area_place l + (p - area_place l) ≡ p = omega (arith, past) in
        let P : ℕ → Type 0 = λ q. b.pending q ≡ a.pending q in
        subst P at (apart.pending (p - area_place l) (past_elsewhere l area x es (p - area_place l) on (omega (arith, past))))
