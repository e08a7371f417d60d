-- Laws of clearing the records of a UUID, place by place.
use Rattle.std.proofs.Common.{◌≡◌, ℕ, ◌+◌, ◌-◌, ◌<◌, ◌≤◌, ◌⊎◌, inl, inr, Bool, true, false, List, [], ◌∷◌, ◌++◌, length, map, take, drop, get_or, set, Option, None, Result, Ok, Err, OnErr, refl, sym, ap, ◌∙◌, subst, arith, append_assoc}
use Rattle.std.proofs.lemmas.Bool.{cases_lt, cond-true, cond-false, true≢false}
use Rattle.std.proofs.lemmas.List.{length-map, length-take-le, map-append, take_more, drop_more, set_at, get_or_at, set-get_or, take_all, drop_all, append-nil, get_or_past}
use Rattle.sm_disk.specs.Held.{Held, IsIn, Torn, Wrote}
use Rattle.sm_disk.specs.Sectors.{sector, zeros}
use Rattle.sm_disk.proofs.HeldLaws.{in_one}
use Rattle.sm_disk.proofs.SectorLaws.{sector-one, IsSector-zeros}
use Rattle.sm_record.specs.declared.records.Record.{Record}
use Rattle.sm_mgt.specs.Places.{is_of, HasRecordAt, cleared, TornZeros, WroteZeros}

-- ---- what is in memory

-- the first n places are cleared
abbrev pub cleared_to : List ℕ → ℕ → List (Option Record) → List (Option Record)
cleared_to u n places = map (cleared u) (take n places) ++ drop n places

-- places that are cleared so far, about the next one
record Next (u : List ℕ) (n : ℕ) (places now : List (Option Record)) : Type 0 where
  long : length (map (cleared u) (take n places)) ≡ n
  split : now ≡ map (cleared u) (take n places) ++ get_or places n None ∷ drop (n + 1) places

next : (u : List ℕ) (n : ℕ) (places now : List (Option Record)) → n < length places → now ≡ cleared_to u n places → Next u n places now
next u n places now below is = record {
  long = length-map (take n places) (cleared u) ∙ length-take-le n places (omega arith);
  split = is ∙ ap (λ rest. map (cleared u) (take n places) ++ rest) (drop_more places n None below);
}

-- the next one is as it was
pub next_same : (u : List ℕ) (n : ℕ) (places now : List (Option Record)) → n < length places → now ≡ cleared_to u n places → get_or now n None ≡ get_or places n None
next_same u n places now below is =
    let s = next u n places now below is in
    ap (λ xs. get_or xs n None) s.split
    ∙ get_or_at (map (cleared u) (take n places)) (get_or places n None) (drop (n + 1) places) None n s.long

-- and with it one more is cleared
pub cleared_more : (u : List ℕ) (n : ℕ) (places now after : List (Option Record)) → n < length places → now ≡ cleared_to u n places
    → after ≡ set now n (cleared u (get_or now n None)) → after ≡ cleared_to u (n + 1) places
cleared_more u n places now after below is made =
    let s = next u n places now below is in
    let front = map (cleared u) (take n places) in
    let this = get_or places n None in
    let rest = drop (n + 1) places in
    let more : map (cleared u) (take (n + 1) places) ≡ front ++ cleared u this ∷ [] = ap (map (cleared u)) (take_more places n None below) ∙ map-append (cleared u) (take n places) (this ∷ []) in
    made
    ∙ ap (λ o. set now n (cleared u o)) (next_same u n places now below is)
    ∙ ap (λ xs. set xs n (cleared u this)) s.split
    ∙ set_at front this rest (cleared u this) n s.long
    ∙ sym (append_assoc front (cleared u this ∷ []) rest)
    ∙ ap (λ xs. xs ++ rest) (sym more)

-- all are
pub cleared_all : (u : List ℕ) (n : ℕ) (places now : List (Option Record)) → length places ≤ n → now ≡ cleared_to u n places → now ≡ map (cleared u) places
cleared_all u n places now past is =
    let front : take n places ≡ places = take_all n places past in
    let none : drop n places ≡ [] = drop_all n places past in
    is ∙ ap (λ rest. map (cleared u) (take n places) ++ rest) none ∙ append-nil (map (cleared u) (take n places)) ∙ ap (map (cleared u)) front

pub kept_without : (u : List ℕ) (k : ℕ) (places : List (Option Record)) → is_of u (get_or places k None) ≡ false → places ≡ set places k (cleared u (get_or places k None))
kept_without u k places hasnt =
    let o = get_or places k None in
    sym (ap (set places k) (cond-false (is_of u o) None o hasnt) ∙ set-get_or places k None)

pub kept_with : (u : List ℕ) (k : ℕ) (places after : List (Option Record)) → is_of u (get_or places k None) ≡ true → after ≡ set places k None → after ≡ set places k (cleared u (get_or places k None))
kept_with u k places after has made =
    let o = get_or places k None in made ∙ ap (set places k) (sym (cond-true (is_of u o) None o has))

-- ---- what the store holds

pub WroteZeros-none : (At : ℕ → Type 0) (h : Held) → ((p : ℕ) → At p → ⊥) → WroteZeros At h h
WroteZeros-none At h none = record {
  floor = λ p. refl;
  inside = λ p here. absurd (none p here);
  outside = λ p away. refl;
}

pub TornZeros-none : (At : ℕ → Type 0) (h : Held) → TornZeros At h h
TornZeros-none At h = record { floor = λ p. refl; pending = λ p. inl refl }

-- a place of one sector
at_place : (place : ℕ) (Has : Type 0) → Has → (p : ℕ) → IsIn place (length zeros) p → (p ≡ place) × Has
at_place place Has has p here = (in_one place (length zeros) p IsSector-zeros.long here, has)

in_place : (place p : ℕ) → p ≡ place → IsIn place (length zeros) p
in_place place p at = let long : length zeros ≡ 512 = IsSector-zeros.long in (omega arith, omega arith)

zeros_at : (place p : ℕ) → p ≡ place → sector zeros (p - place) ≡ zeros
zeros_at place p at =
    let first : p - place ≡ 0 = omega arith in ap (sector zeros) first ∙ sector-one zeros IsSector-zeros.long

-- a sector of zeros, written at one place that is to have it
pub zeros_torn : (place : ℕ) (Has : Type 0) → Has → {old new : Held} → Torn place zeros old new → TornZeros (λ p. (p ≡ place) × Has) old new
zeros_torn place Has has {old} {new} t = record { floor = t.floor; pending = λ p. by p (t.pending p) }
  where
    by : (p : ℕ) → (new.pending p ≡ old.pending p) ⊎ (IsIn place (length zeros) p × (new.pending p ≡ old.pending p ++ sector zeros (p - place) ∷ []))
        → (new.pending p ≡ old.pending p) ⊎ (((p ≡ place) × Has) × (new.pending p ≡ old.pending p ++ zeros ∷ []))
    by p (inl same) = inl same
    by p (inr (here, more)) =
        let at = at_place place Has has p here in
        inr (at, more ∙ ap (λ v. old.pending p ++ v ∷ []) (zeros_at place p at.0))

pub zeros_wrote : (place : ℕ) (Has : Type 0) → Has → {old new : Held} → Wrote place zeros old new → WroteZeros (λ p. (p ≡ place) × Has) old new
zeros_wrote place Has has {old} {new} w = record {
  floor = w.floor;
  inside = λ p here. w.inside p (in_place place p here.0) ∙ ap (λ v. old.pending p ++ v ∷ []) (zeros_at place p here.0);
  outside = λ p away. w.outside p (λ here. away (at_place place Has has p here));
}

-- the places below n that are to have zeros
abbrev pub Below : (ℕ → Type 0) → ℕ → ℕ → Type 0
Below At n p = (p < n) × At p

-- one place more
pub WroteZeros-more : (At : ℕ → Type 0) (n : ℕ) {a b c : Held} → WroteZeros (Below At n) a b → WroteZeros (λ p. (p ≡ n) × At n) b c → WroteZeros (Below At (n + 1)) a c
WroteZeros-more At n {a} {b} {c} first second = record {
  floor = λ p. second.floor p ∙ first.floor p;
  inside = λ p here. by p here (cases_lt p n);
  outside = λ p away. second.outside p (λ h. away (omega (arith, h.0), subst At (sym h.0) h.1)) ∙ first.outside p (λ h. away (omega (arith, h.0), h.1));
}
  where
    by : (p : ℕ) → Below At (n + 1) p → (p < n) ⊎ (n ≤ p) → c.pending p ≡ a.pending p ++ zeros ∷ []
    by p here (inl below) = second.outside p (λ h. omega (arith, h.0, below)) ∙ first.inside p (below, here.1)
    by p here (inr past) =
        let at : p ≡ n = omega (arith, here.0, past) in
        second.inside p (at, subst At at here.1) ∙ ap (λ l. l ++ zeros ∷ []) (first.outside p (λ h. omega (arith, h.0, past)))

-- a place that a write may have left, behind those that were written
pub TornZeros-more : (At : ℕ → Type 0) (n : ℕ) → ((p : ℕ) → At p ⊎ (At p → ⊥)) → {a b c : Held} → WroteZeros (Below At n) a b → TornZeros (λ p. (p ≡ n) × At n) b c → TornZeros At a c
TornZeros-more At n decide {a} {b} {c} first second = record {
  floor = λ p. second.floor p ∙ first.floor p;
  pending = λ p. by p (second.pending p) (cases_lt p n) (decide p);
}
  where
    by : (p : ℕ) → (c.pending p ≡ b.pending p) ⊎ (((p ≡ n) × At n) × (c.pending p ≡ b.pending p ++ zeros ∷ [])) → (p < n) ⊎ (n ≤ p) → At p ⊎ (At p → ⊥)
        → (c.pending p ≡ a.pending p) ⊎ (At p × (c.pending p ≡ a.pending p ++ zeros ∷ []))
    by p (inl same) (inl below) (inl has) = inr (has, same ∙ first.inside p (below, has))
    by p (inl same) (inl below) (inr hasnt) = inl (same ∙ first.outside p (λ h. hasnt h.1))
    by p (inl same) (inr past) _ = inl (same ∙ first.outside p (λ h. omega (arith, h.0, past)))
    by p (inr (here, more)) _ _ =
        inr (subst At (sym here.0) here.1, more ∙ ap (λ l. l ++ zeros ∷ []) (first.outside p (λ h. omega (arith, h.0, here.0))))

-- all places
pub WroteZeros-all : (At : ℕ → Type 0) (n : ℕ) {a b : Held} → ((p : ℕ) → At p → p < n) → WroteZeros (Below At n) a b → WroteZeros At a b
WroteZeros-all At n within w = record {
  floor = w.floor;
  inside = λ p here. w.inside p (within p here, here);
  outside = λ p away. w.outside p (λ h. away h.1);
}

pub TornZeros-wrote : (At : ℕ → Type 0) → ((p : ℕ) → At p ⊎ (At p → ⊥)) → {a b : Held} → WroteZeros At a b → TornZeros At a b
TornZeros-wrote At decide {a} {b} w = record { floor = w.floor; pending = λ p. by p (decide p) }
  where
    by : (p : ℕ) → At p ⊎ (At p → ⊥) → (b.pending p ≡ a.pending p) ⊎ (At p × (b.pending p ≡ a.pending p ++ zeros ∷ []))
    by p (inl has) = inr (has, w.inside p has)
    by p (inr hasnt) = inl (w.outside p hasnt)

-- ---- the records of a UUID

is_true_or_not : (b : Bool) → (b ≡ true) ⊎ (b ≡ true → ⊥)
is_true_or_not true = inl refl
is_true_or_not false = inr (λ e. (let x = e in cc))

pub has_or_not : (places : List (Option Record)) (u : List ℕ) (p : ℕ) → HasRecordAt places u p ⊎ (HasRecordAt places u p → ⊥)
has_or_not places u p = is_true_or_not (is_of u (get_or places p None))

-- a record of the UUID stands in one of the places
pub has_within : (places : List (Option Record)) (u : List ℕ) (p : ℕ) → HasRecordAt places u p → p < length places
has_within places u p has = by (cases_lt p (length places))
  where
    by : (p < length places) ⊎ (length places ≤ p) → p < length places
    by (inl below) = below
    by (inr past) = absurd (true≢false (sym has ∙ ap (is_of u) (get_or_past places p None past)))

pub within_all : (places : List (Option Record)) (u : List ℕ) (n : ℕ) → length places ≤ n → (p : ℕ) → HasRecordAt places u p → p < n
within_all places u n past p has = omega (arith, past, has_within places u p has)

-- where memory is cleared so far, the next place has the record where it had it at first
abbrev pub AtNext : (List ℕ) → ℕ → Option Record → ℕ → Type 0
AtNext u n o p = (p ≡ n) × (is_of u o ≡ true)

-- one step of the clearing
pub wrote_step : (places now : List (Option Record)) (u : List ℕ) (n : ℕ) → n < length places → now ≡ cleared_to u n places → (a b c : Held)
    → WroteZeros (Below (HasRecordAt places u) n) a b → WroteZeros (AtNext u n (get_or now n None)) b c → WroteZeros (Below (HasRecordAt places u) (n + 1)) a c
wrote_step places now u n below is a b c before w =
    WroteZeros-more (HasRecordAt places u) n before (subst (λ o. WroteZeros (AtNext u n o) b c) (next_same u n places now below is) w)

pub torn_step : (places now : List (Option Record)) (u : List ℕ) (n : ℕ) → n < length places → now ≡ cleared_to u n places → (a b c : Held)
    → WroteZeros (Below (HasRecordAt places u) n) a b → TornZeros (AtNext u n (get_or now n None)) b c → TornZeros (HasRecordAt places u) a c
torn_step places now u n below is a b c before w =
    TornZeros-more (HasRecordAt places u) n (has_or_not places u) before (subst (λ o. TornZeros (AtNext u n o) b c) (next_same u n places now below is) w)

-- what holds at every return holds at an Err
pub on_err : {T E P : Type 0} (r : Result T E) → P → OnErr r P
on_err (Ok x) p = tt
on_err (Err e) p = p
