-- Laws of what a device holds.
use Rattle.std.proofs.Common.{◌≡◌, ℕ, ◌+◌, ◌-◌, ◌*◌, ◌<◌, ◌≤◌, ◌⊎◌, inl, inr, List, [], ◌∷◌, ◌++◌, length, get_or, suc, Contains, sym, refl, ap, ◌∙◌, subst, add-one, arith}
use Rattle.std.proofs.lemmas.Bool.{cases_lt}
use Rattle.std.proofs.lemmas.List.Elements.{Contains-push_cases}
use Rattle.sm_disk.specs.Sectors.{IsSector, sector}
use Rattle.sm_disk.specs.Held.{Held, newest, reads, May, Allows, IsIn, IsWhole, Torn, Wrote, Gave, SameHeld, Keeps, IsSettled, HasSectors, Puts}
use Rattle.sm_disk.proofs.SectorLaws.{sector-one}

-- places

pub in_or_not : (at len p : ℕ) → IsIn at len p ⊎ (IsIn at len p → ⊥)
in_or_not at len p = in_by (cases_lt p at) (cases_lt (512 * p) (512 * at + len))
  where
    in_by : (p < at) ⊎ (at ≤ p) → (512 * p < 512 * at + len) ⊎ (512 * at + len ≤ 512 * p) → IsIn at len p ⊎ (IsIn at len p → ⊥)
    in_by (inl before) _ = inr (λ h. omega (arith, h.0))
    in_by (inr from) (inl below) = inl (from, below)
    in_by (inr from) (inr past) = inr (λ h. omega (arith, h.1))

-- the place of one sector
pub in_one : (at len p : ℕ) → len ≡ 512 → IsIn at len p → p ≡ at
in_one at len p long h = omega (arith, h.0, h.1)

-- values

pub newest-push : (x : List ℕ) (ys : List (List ℕ)) (y : List ℕ) → newest x (ys ++ y ∷ []) ≡ y
newest-push x [] y = refl
newest-push x (z ∷ ys) y = newest-push z ys y

pub newest-at : (x : List ℕ) (ys : List (List ℕ)) (d : List ℕ) → get_or (x ∷ ys) (length ys) d ≡ newest x ys
newest-at x [] d = refl
newest-at x (y ∷ ys) d = newest-at y ys d

-- the last of some values
pub newest-last : (x : List ℕ) (ys : List (List ℕ)) (d : List ℕ) → 0 < length ys → get_or ys (length ys - 1) d ≡ newest x ys
newest-last x ys d some =
    let place : suc (length ys - 1) ≡ length ys = omega arith in
    ap (λ n. get_or (x ∷ ys) n d) place ∙ newest-at x ys d

pub newest_among : (x : List ℕ) (ys : List (List ℕ)) → (newest x ys ≡ x) ⊎ Contains ys (newest x ys)
newest_among x [] = inl refl
newest_among x (y ∷ ys) = inr (among (newest_among y ys))
  where
    among : (newest y ys ≡ y) ⊎ Contains ys (newest y ys) → Contains (y ∷ ys) (newest y ys)
    among (inl same) = (0, omega arith, sym same)
    among (inr (k, below, is)) = (k + 1, omega arith, rw add-one is)

-- what a read gives may be left
pub May-reads : (h : Held) (p : ℕ) → May h p (reads h p)
May-reads h p = newest_among (h.floor p) (h.pending p)

Contains-nil : (xs : List (List ℕ)) (v : List ℕ) → xs ≡ [] → Contains xs v → ⊥
Contains-nil xs v none c = let n : length xs ≡ 0 = ap length none in omega (arith, c.1)

pub reads-settled : (h : Held) (p : ℕ) → h.pending p ≡ [] → reads h p ≡ h.floor p
reads-settled h p none = ap (newest (h.floor p)) none

-- where nothing is pending, only what a read gives may be left
pub may_settled : (h : Held) (p : ℕ) (v : List ℕ) → h.pending p ≡ [] → May h p v → v ≡ reads h p
may_settled h p v none (inl is) = is ∙ sym (reads-settled h p none)
may_settled h p v none (inr c) = absurd (Contains-nil (h.pending p) v none c)

-- two devices that are the same at a place

pub reads-at : (old new : Held) (p : ℕ) → new.floor p ≡ old.floor p → new.pending p ≡ old.pending p → reads new p ≡ reads old p
reads-at old new p floor pending = ap (λ x. newest x (new.pending p)) floor ∙ ap (newest (old.floor p)) pending

pub may-at : (old new : Held) (p : ℕ) (v : List ℕ) → new.floor p ≡ old.floor p → new.pending p ≡ old.pending p → May new p v → May old p v
may-at old new p v floor pending m =
    let P : List ℕ → Type 0 = λ x. (v ≡ x) ⊎ Contains (old.pending p) v in
    let Q : List (List ℕ) → Type 0 = λ xs. (v ≡ new.floor p) ⊎ Contains xs v in
    subst P floor (subst Q pending m)

pub SameHeld-none : (h : Held) → SameHeld h h
SameHeld-none h = record { floor = λ p. refl; pending = λ p. refl }

pub SameHeld-then : {a b c : Held} → SameHeld a b → SameHeld b c → SameHeld a c
SameHeld-then s t = record { floor = λ p. t.floor p ∙ s.floor p; pending = λ p. t.pending p ∙ s.pending p }

pub reads-same : {old new : Held} → SameHeld old new → (p : ℕ) → reads new p ≡ reads old p
reads-same {old} {new} s p = reads-at old new p (s.floor p) (s.pending p)

pub may-same : {old new : Held} → SameHeld old new → (p : ℕ) (v : List ℕ) → May new p v → May old p v
may-same {old} {new} s p v m = may-at old new p v (s.floor p) (s.pending p) m

-- syncs

pub Keeps-same : {old new : Held} → SameHeld old new → Keeps old new
Keeps-same s = record { reads = λ p. reads-same s p; may = λ p v m. may-same s p v m }

pub Keeps-none : (h : Held) → Keeps h h
Keeps-none h = record { reads = λ p. refl; may = λ p v m. m }

pub Keeps-then : {a b c : Held} → Keeps a b → Keeps b c → Keeps a c
Keeps-then s t = record { reads = λ p. t.reads p ∙ s.reads p; may = λ p v m. s.may p v (t.may p v m) }

-- writes

pub torn_from_wrote : {at : ℕ} {bytes : List ℕ} {old new : Held} → Wrote at bytes old new → Torn at bytes old new
torn_from_wrote {at} {bytes} {old} {new} w = record {
  floor = w.floor;
  pending = λ p. at_place p (in_or_not at (length bytes) p);
}
  where
    at_place : (p : ℕ) → IsIn at (length bytes) p ⊎ (IsIn at (length bytes) p → ⊥) → (new.pending p ≡ old.pending p)
        ⊎ (IsIn at (length bytes) p × (new.pending p ≡ old.pending p ++ sector bytes (p - at) ∷ []))
    at_place p (inl here) = inr (here, w.inside p here)
    at_place p (inr not_here) = inl (w.outside p not_here)

pub torn_from_same : (at : ℕ) (bytes : List ℕ) {old new : Held} → SameHeld old new → Torn at bytes old new
torn_from_same at bytes s = record { floor = s.floor; pending = λ p. inl (s.pending p) }

-- what a read gives after a write that succeeded: the bytes
pub reads-wrote : {at : ℕ} {bytes : List ℕ} {old new : Held} → Wrote at bytes old new
    → (p : ℕ) → IsIn at (length bytes) p → reads new p ≡ sector bytes (p - at)
reads-wrote {at} {bytes} {old} {new} w p here =
    ap (newest (new.floor p)) (w.inside p here) ∙ newest-push (new.floor p) (old.pending p) (sector bytes (p - at))

-- and elsewhere what it gave
pub reads-elsewhere : {at : ℕ} {bytes : List ℕ} {old new : Held} → Torn at bytes old new
    → (p : ℕ) → (IsIn at (length bytes) p → ⊥) → reads new p ≡ reads old p
reads-elsewhere {at} {bytes} {old} {new} t p not_here =
    by (t.pending p)
  where
    by : (new.pending p ≡ old.pending p) ⊎ (IsIn at (length bytes) p × (new.pending p ≡ old.pending p ++ sector bytes (p - at) ∷ [])) → reads new p ≡ reads old p
    by (inl same) = reads-at old new p (t.floor p) same
    by (inr (here, more)) = absurd (not_here here)

-- what may be left after a write: what might have been before, or what was written
pub may-torn : {at : ℕ} {bytes : List ℕ} {old new : Held} → Torn at bytes old new
    → (p : ℕ) (v : List ℕ) → May new p v → May old p v ⊎ Puts at bytes p v
may-torn {at} {bytes} {old} {new} t p v m = by (t.pending p) m
  where
    pushed : IsIn at (length bytes) p → Contains (old.pending p) v ⊎ (sector bytes (p - at) ≡ v) → May old p v ⊎ Puts at bytes p v
    pushed here (inl was) = inl (inr was)
    pushed here (inr is) = inr (here, sym is)

    by : (new.pending p ≡ old.pending p) ⊎ (IsIn at (length bytes) p × (new.pending p ≡ old.pending p ++ sector bytes (p - at) ∷ [])) → May new p v → May old p v ⊎ Puts at bytes p v
    by (inl same) m = inl (may-at old new p v (t.floor p) same m)
    by (inr (here, more)) (inl is) = inl (inl (is ∙ t.floor p))
    by (inr (here, more)) (inr among) =
        let P : List (List ℕ) → Type 0 = λ xs. Contains xs v in
        pushed here (Contains-push_cases (old.pending p) (sector bytes (p - at)) v (subst P more among))

-- sectors

pub IsSector-may : {size : ℕ} {h : Held} → HasSectors size h → (p : ℕ) (v : List ℕ) → p < size → May h p v → IsSector v
IsSector-may {size} {h} s p v within (inl is) =
    let P : List ℕ → Type 0 = λ x. IsSector x in subst P (sym is) (s.floor p within)
IsSector-may {size} {h} s p v within (inr among) = s.pending p v within among

pub IsSector-reads : {size : ℕ} {h : Held} → HasSectors size h → (p : ℕ) → p < size → IsSector (reads h p)
IsSector-reads {size} {h} s p within = IsSector-may s p (reads h p) within (May-reads h p)

-- crash images

-- choices place by place make one whole image
pub image_of : (size : ℕ) (h : Held) (W : ℕ → List ℕ → Type 0) → ((p : ℕ) → p < size → (v : List ℕ) × May h p v × W p v)
    → (image : ℕ → List ℕ) × Allows size h image × ((p : ℕ) → p < size → W p (image p))
image_of size h W choose =
    (λ p. (pick p (cases_lt p size)).0, λ p below. ((pick p (cases_lt p size)).1 below).0, λ p below. ((pick p (cases_lt p size)).1 below).1)
  where
    pick : (p : ℕ) → (p < size) ⊎ (size ≤ p) → (v : List ℕ) × (p < size → May h p v × W p v)
    pick p (inl below) = ((choose p below).0, λ _. ((choose p below).1, (choose p below).2))
    pick p (inr past) = ([], λ below. absurd (omega arith))

-- what a read gives is one of the images
pub Allows-reads : (size : ℕ) (h : Held) → Allows size h (λ p. reads h p)
Allows-reads size h = λ p below. May-reads h p

-- and where nothing is pending the only one
pub allows_settled : (size : ℕ) (h : Held) (image : ℕ → List ℕ) → IsSettled h → Allows size h image
    → (p : ℕ) → p < size → image p ≡ reads h p
allows_settled size h image s a p below = may_settled h p (image p) (s p) (a p below)

pub Allows-from_reads : (size : ℕ) (h : Held) (image : ℕ → List ℕ) → ((p : ℕ) → p < size → image p ≡ reads h p) → Allows size h image
Allows-from_reads size h image same = λ p below.
    let P : List ℕ → Type 0 = λ v. May h p v in subst P (sym (same p below)) (May-reads h p)

pub Allows-keeps : (size : ℕ) {old new : Held} (image : ℕ → List ℕ) → Keeps old new → Allows size new image → Allows size old image
Allows-keeps size {old} {new} image k a = λ p below. k.may p (image p) (a p below)

-- a read of one sector
pub gave_one : (at : ℕ) (h : Held) (bytes : List ℕ) → length bytes ≡ 512 → Gave at h bytes → bytes ≡ reads h at
gave_one at h bytes long g =
    let here : 512 * at < 512 * at + length bytes = omega arith in
    let from : at ≤ at = omega arith in
    let none : 0 ≡ at - at = omega arith in
    sym (sector-one bytes long) ∙ ap (λ i. sector bytes i) none ∙ g at (from, here)

-- whole sectors of a device are whole sectors of a larger one
pub IsWhole-wider : {at len size wide : ℕ} → IsWhole at len size → size ≤ wide → IsWhole at len wide
IsWhole-wider {at} {len} {size} {wide} w more = record { some = w.some; whole = w.whole; within = omega (arith, w.within) }
