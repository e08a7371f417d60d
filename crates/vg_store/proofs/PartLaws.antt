-- A read and a write of a volume that go run by run.
use Rattle.std.proofs.Common.{◌≡◌, ℕ, ◌+◌, ◌-◌, ◌*◌, ◌<◌, ◌≤◌, ◌⊎◌, inl, inr, List, [], ◌∷◌, ◌++◌, length, take, drop, refl, sym, ap, ap₂, ◌∙◌, arith}
use Rattle.std.proofs.lemmas.Bool.{cases_lt}
use Rattle.std.proofs.lemmas.List.{length-take-le, length-drop}
use Rattle.std.proofs.Math.Seq.{drop-append_seam}
use Rattle.sm_disk.specs.Sectors.{sector}
use Rattle.sm_disk.specs.Held.{Held, IsIn, Torn, Wrote, Gave, SameHeld, reads}
use Rattle.sm_disk.proofs.SectorLaws.{sector-part, sector-take, sector-drop, sector-append_left}
use Rattle.sm_disk.proofs.FrontLaws.{WroteFront, WroteFront-none, GaveFront}
use Rattle.sm_disk.proofs.HeldLaws.{reads-same}
use Rattle.vg_volumes.specs.Volumes.{volume, SameElsewhere}
use Rattle.vg_volumes.proofs.VolumeLaws.{SameElsewhere-then}
use Rattle.vg_store.specs.Groups.{area_of}
use Rattle.vg_store.specs.Runs.{SameInFront}
use Rattle.vg_store.proofs.RunLaws.{IsPart, run_torn, run_wrote, run_gave, run_elsewhere, run_front}

-- so many sectors of some bytes from sector n on
pub record IsPiece (bytes part : List ℕ) (n m : ℕ) : Type 0 where
  pub is : part ≡ take (512 * m) (drop (512 * n) bytes)
  pub within : 512 * (n + m) ≤ length bytes

pub piece_from : {bytes rest part : List ℕ} {n m count : ℕ} → rest ≡ drop (512 * n) bytes → part ≡ take (512 * m) rest → m ≤ count - n → n < count → 512 * count ≤ length bytes
    → IsPiece bytes part n m
piece_from {bytes} {rest} {part} {n} {m} {count} back front most below within = record {
  is = front ∙ ap (take (512 * m)) back;
  within = omega (arith, most, below, within);
}

pub piece_long : {bytes part : List ℕ} {n m : ℕ} → IsPiece bytes part n m → length part ≡ 512 * m
piece_long {bytes} {part} {n} {m} s = ap length s.is ∙ length-take-le (512 * m) (drop (512 * n) bytes) (omega (arith, s.within, length-drop (512 * n) bytes))

piece_sector : {bytes part : List ℕ} {n m : ℕ} → IsPiece bytes part n m → (i j : ℕ) → i < m → j ≡ n + i → sector part i ≡ sector bytes j
piece_sector {bytes} {part} {n} {m} s i j low is =
    ap (λ l. sector l i) s.is ∙ sector-part bytes n (512 * m) i (omega arith) ∙ ap (sector bytes) (sym is)

-- ---- writes

piece_added : (at n m p : ℕ) (bytes part : List ℕ) (old mid new : List (List ℕ)) → IsPiece bytes part n m → at + n ≤ p → p < at + n + m → mid ≡ old
    → new ≡ mid ++ sector part (p - (at + n)) ∷ [] → new ≡ old ++ sector bytes (p - at) ∷ []
piece_added at n m p bytes part old mid new s from to same more =
    more ∙ ap₂ (λ l v. l ++ v ∷ []) same (piece_sector s (p - (at + n)) (p - at) (omega arith) (omega arith))

-- after one more piece
piece_wrote : {at : ℕ} {bytes part : List ℕ} {n m : ℕ} {old mid new : Held} → IsPiece bytes part n m
    → WroteFront at bytes n old mid → Wrote (at + n) part mid new → WroteFront at bytes (n + m) old new
piece_wrote {at} {bytes} {part} {n} {m} {old} {mid} {new} s front wrote = record {
  floor = λ p. wrote.floor p ∙ front.floor p;
  inside = λ p from to. inside p from to (cases_lt p (at + n));
  below = λ p before. wrote.outside p (λ here. omega (arith, here.0)) ∙ front.below p before;
  above = λ p past. wrote.outside p (λ here. omega (arith, here.1, piece_long s)) ∙ front.above p (omega arith);
}
  where
    inside : (p : ℕ) → at ≤ p → p < at + (n + m) → (p < at + n) ⊎ (at + n ≤ p) → new.pending p ≡ old.pending p ++ sector bytes (p - at) ∷ []
    inside p from to (inl before) = wrote.outside p (λ here. omega (arith, here.0)) ∙ front.inside p from before
    inside p from to (inr past) =
        piece_added at n m p bytes part (old.pending p) (mid.pending p) (new.pending p) s past (omega arith) (front.above p past)
        (wrote.inside p (past, omega (arith, piece_long s)))

-- where the write of a piece failed
piece_torn : {at : ℕ} {bytes part : List ℕ} {n m : ℕ} {old mid new : Held} → IsPiece bytes part n m
    → WroteFront at bytes n old mid → Torn (at + n) part mid new → Torn at bytes old new
piece_torn {at} {bytes} {part} {n} {m} {old} {mid} {new} s front torn = record {
  floor = λ p. torn.floor p ∙ front.floor p;
  pending = λ p. by p (cases_lt p at) (cases_lt p (at + n)) (torn.pending p);
}
  where
    by : (p : ℕ) → (p < at) ⊎ (at ≤ p) → (p < at + n) ⊎ (at + n ≤ p)
        → (new.pending p ≡ mid.pending p) ⊎ (IsIn (at + n) (length part) p × (new.pending p ≡ mid.pending p ++ sector part (p - (at + n)) ∷ []))
        → (new.pending p ≡ old.pending p) ⊎ (IsIn at (length bytes) p × (new.pending p ≡ old.pending p ++ sector bytes (p - at) ∷ []))
    by p (inl before) _ (inl same) = inl (same ∙ front.below p before)
    by p (inl before) _ (inr (here, more)) = absurd (omega (arith, here.0))
    by p (inr from) (inl below) (inl same) = inr ((from, omega (arith, s.within)), same ∙ front.inside p from below)
    by p (inr from) (inl below) (inr (here, more)) = absurd (omega (arith, here.0))
    by p (inr from) (inr past) (inl same) = inl (same ∙ front.above p past)
    by p (inr from) (inr past) (inr (here, more)) =
        inr (
          (from, omega (arith, here.1, piece_long s, s.within)),
          piece_added at n m p bytes part (old.pending p) (mid.pending p) (new.pending p) s past (omega (arith, here.1, piece_long s)) (front.above p past) more,
        )

SameInFront-then : {l : ℕ} {a b c : Held} → SameInFront l a b → SameInFront l b c → SameInFront l a c
SameInFront-then s t = record { floor = λ p low. t.floor p low ∙ s.floor p low; pending = λ p low. t.pending p low ∙ s.pending p low }

-- the first n sectors of a volume's bytes were written, and nothing else
pub record HasWritten (l x : ℕ) (es : List ℕ) (at : ℕ) (bytes : List ℕ) (n : ℕ) (old new : Held) : Type 0 where
  pub front : WroteFront at bytes n (volume x es (area_of l old)) (volume x es (area_of l new))
  pub elsewhere : SameElsewhere x es (area_of l old) (area_of l new)
  pub before : SameInFront l old new

pub HasWritten-none : (l x : ℕ) (es : List ℕ) (at : ℕ) (bytes : List ℕ) (h : Held) → HasWritten l x es at bytes 0 h h
HasWritten-none l x es at bytes h = record {
  front = WroteFront-none at bytes (volume x es (area_of l h));
  elsewhere = record { floor = λ p _. refl; pending = λ p _. refl };
  before = record { floor = λ p _. refl; pending = λ p _. refl };
}

pub HasWritten-more : {l size x : ℕ} {es : List ℕ} {at : ℕ} {bytes part : List ℕ} {n place m : ℕ} {old mid new : Held} → IsPart l size x es (at + n) place m → IsPiece bytes part n m
    → HasWritten l x es at bytes n old mid → Wrote place part mid new → Torn place part mid new → HasWritten l x es at bytes (n + m) old new
HasWritten-more r s w wrote torn = record {
  front = piece_wrote s w.front (run_wrote r (piece_long s) wrote);
  elsewhere = SameElsewhere-then w.elsewhere (run_elsewhere r (piece_long s) torn);
  before = SameInFront-then w.before (run_front r torn);
}

-- some of a volume's bytes were written, and nothing else
pub record HasTorn (l x : ℕ) (es : List ℕ) (at : ℕ) (bytes : List ℕ) (old new : Held) : Type 0 where
  pub torn : Torn at bytes (volume x es (area_of l old)) (volume x es (area_of l new))
  pub elsewhere : SameElsewhere x es (area_of l old) (area_of l new)
  pub before : SameInFront l old new

pub HasTorn-more : {l size x : ℕ} {es : List ℕ} {at : ℕ} {bytes part : List ℕ} {n place m : ℕ} {old mid new : Held} → IsPart l size x es (at + n) place m → IsPiece bytes part n m
    → HasWritten l x es at bytes n old mid → Torn place part mid new → HasTorn l x es at bytes old new
HasTorn-more r s w torn = record {
  torn = piece_torn s w.front (run_torn r (piece_long s) torn);
  elsewhere = SameElsewhere-then w.elsewhere (run_elsewhere r (piece_long s) torn);
  before = SameInFront-then w.before (run_front r torn);
}

-- how far a write came
pub record WriteGoes (Told : Type 0) (l x : ℕ) (es : List ℕ) (at : ℕ) (bytes : List ℕ) (size wide before faults done count : ℕ) (old new : Held) : Type 0 where
  pub size_is : wide ≡ size
  pub calm : faults ≡ before
  pub most : done ≤ count
  pub wrote : Told → HasWritten l x es at bytes done old new

-- ---- reads

-- the bytes of a buffer after a read into a part of it
pub piece_gave : (at : ℕ) (h : Held) (xs part rest : List ℕ) (n m : ℕ) → 512 * n ≤ length xs → length part ≡ 512 * m
    → GaveFront at h xs n → Gave (at + n) h part → GaveFront at h (take (512 * n) xs ++ (part ++ rest)) (n + m)
piece_gave at h xs part rest n m within long front gave = λ j low. by j low (cases_lt j n)
  where
    long_front : length (take (512 * n) xs) ≡ 512 * n
    long_front = length-take-le (512 * n) xs within

    behind : (i : ℕ) → i < m → sector (take (512 * n) xs ++ (part ++ rest)) (n + i) ≡ sector part i
    behind i low =
        sym (sector-drop (take (512 * n) xs ++ (part ++ rest)) n i)
        ∙ ap (λ k. sector (drop k (take (512 * n) xs ++ (part ++ rest))) i) (sym long_front)
        ∙ ap (λ l. sector l i) (drop-append_seam (take (512 * n) xs) (part ++ rest))
        ∙ sector-append_left part rest i (omega arith)

    by : (j : ℕ) → j < n + m → (j < n) ⊎ (n ≤ j) → sector (take (512 * n) xs ++ (part ++ rest)) j ≡ reads h (at + j)
    by j low (inl before) =
        sector-append_left (take (512 * n) xs) (part ++ rest) j (omega (arith, long_front))
        ∙ sector-take xs (512 * n) j (omega arith)
        ∙ front j before
    by j low (inr past) =
        let split : n + (j - n) ≡ j = omega arith in
        let back : j - n ≡ (at + j) - (at + n) = omega arith in
        ap (sector (take (512 * n) xs ++ (part ++ rest))) (sym split)
        ∙ behind (j - n) (omega arith)
        ∙ ap (sector part) back
        ∙ gave (at + j) (omega arith, omega arith)

-- and after a read of one more run
pub run_read : {l size x : ℕ} {es : List ℕ} {place m : ℕ} (at n : ℕ) (old mid : Held) (xs front part rest : List ℕ) → IsPart l size x es (at + n) place m
    → 512 * n ≤ length xs → front ≡ take (512 * n) xs → length part ≡ 512 * m → SameHeld old mid → Gave place mid part
    → GaveFront at (volume x es (area_of l old)) xs n → GaveFront at (volume x es (area_of l old)) (front ++ (part ++ rest)) (n + m)
run_read {l} {size} {x} {es} {place} {m} at n old mid xs front part rest run within is long same gave before = λ j low.
    ap (λ l. sector (l ++ (part ++ rest)) j) is
    ∙ piece_gave at (volume x es (area_of l old)) xs part rest n m within long before
    (run_gave old part run long (λ p here. gave p here ∙ reads-same same p)) j low

-- how far a read came
pub record ReadGoes (Told : Type 0) (l x : ℕ) (es : List ℕ) (at : ℕ) (bytes : List ℕ) (size wide before faults done count : ℕ) (old new : Held) : Type 0 where
  pub size_is : wide ≡ size
  pub calm : faults ≡ before
  pub most : done ≤ count
  pub same : Told → SameHeld old new
  pub gave : Told → GaveFront at (volume x es (area_of l old)) bytes done
