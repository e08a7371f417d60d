-- The place of a disk's log among logs in order, as a search by halving finds it.
use Rattle.std.proofs.Common.{◌≡◌, ℕ, zero, suc, ◌+◌, ◌<◌, ◌≤◌, Bool, true, false, List, [], ◌∷◌, ◌++◌, length, map, get_or, take, drop, Some, None, refl, sym, ap, subst, ◌∙◌, arith, if◌then◌else◌, Result, Ok, Err}
use Rattle.std.specs.Prelude.{slice_get, IfOk, IfErr}
use Rattle.std.specs.List.{AllByRecursion}
use Rattle.std.specs.List.Sorted.{IsStrictlySortedBy, IsPartitionPoint, IsNonDecreasingBy, IsSearchInRange, IsBinarySearchResult}
use Rattle.std.specs.Ordering.{is_eq, is_lt, nat_cmp, ordering_reverse, ordering_index}
use Rattle.std.specs.Cmp.Lexicographic.{slice_cmp}
use Rattle.std.specs.declared.cmp.Ordering.TheVariants.{Less, Equal, Greater}
use Rattle.std.proofs.lemmas.Cmp.{nat_list_cmp_total}
use Rattle.std.proofs.lemmas.List.Sorted.{searchable_from_sorted}
use Rattle.std.proofs.lemmas.Map.Text.{is_eq-slice_cmp}
use Rattle.std.proofs.lemmas.Option.{slice_get_within, get_or_from_slice_get}
use Rattle.std.specs.Str.{bytes_eq}
use Rattle.common_laws.specs.Lists.{insert_by}
use Rattle.common_laws.proofs.Bytes.{bytes_eq-same, bytes_eq-refl}
use Rattle.sm_log.specs.Logs.{Log, is_log_of, log_of, log_before, with_log}
use Rattle.sm_logs.specs.Held.{AreOthers, IsPlace, IsRising, IsSlot}

-- ---- the order of disks

pub less_apart : (u v : List ℕ) → slice_cmp nat_cmp u v ≡ Less → bytes_eq u v ≡ false
less_apart u v h = sym (is_eq-slice_cmp u v) ∙ ap is_eq h

pub greater_apart : (u v : List ℕ) → slice_cmp nat_cmp u v ≡ Greater → bytes_eq u v ≡ false
greater_apart u v h = sym (is_eq-slice_cmp u v) ∙ ap is_eq h

pub turned : (u v : List ℕ) → slice_cmp nat_cmp u v ≡ Less → slice_cmp nat_cmp v u ≡ Greater
turned u v h = nat_list_cmp_total.antisymm v u ∙ ap ordering_reverse h

pub turned_back : (u v : List ℕ) → slice_cmp nat_cmp u v ≡ Greater → slice_cmp nat_cmp v u ≡ Less
turned_back u v h = nat_list_cmp_total.antisymm v u ∙ ap ordering_reverse h

pub tied : (u v : List ℕ) → slice_cmp nat_cmp u v ≡ Equal → u ≡ v
tied u v h = bytes_eq-same u v (sym (is_eq-slice_cmp u v) ∙ ap is_eq h)

pub same_log : (l : Log) (u : List ℕ) → l.disk ≡ u → is_log_of u l ≡ true
same_log l u e = subst (λ (v : List ℕ). bytes_eq v u ≡ true) (sym e) (bytes_eq-refl u)

-- a disk is before all of these
abbrev pub IsLeast : List ℕ → List Log → Type 0
IsLeast u logs = AllByRecursion (λ v. slice_cmp nat_cmp u v ≡ Less) (map (λ (l : Log). l.disk) logs)

pub others_behind : (u : List ℕ) (logs : List Log) → IsLeast u logs → AreOthers u logs
others_behind u [] all = tt
others_behind u (l ∷ logs) all = (greater_apart l.disk u (turned u l.disk all.0), others_behind u logs all.1)

least_at : (u : List ℕ) (logs : List Log) (i : ℕ) (d : Log) → i < length logs → IsLeast u logs → slice_cmp nat_cmp u (get_or logs i d).disk ≡ Less
least_at u [] i d within all = absurd (omega arith)
least_at u (l ∷ logs) zero d within all = all.0
least_at u (l ∷ logs) (suc i) d within all = least_at u logs i d (omega arith) all.1

-- what a search by halving asks
adjacent : (logs : List Log) (k : ℕ) (d : Log) → k + 1 < length logs → IsRising logs → is_lt (slice_cmp nat_cmp (get_or logs (k + 1) d).disk (get_or logs k d).disk) ≡ false
unfolding IsStrictlySortedBy
adjacent [] k d within rising = absurd (omega arith)
adjacent (l ∷ []) k d within rising = absurd (omega arith)
adjacent (l ∷ m ∷ logs) zero d within rising = ap is_lt (turned l.disk m.disk rising.0.0)
adjacent (l ∷ m ∷ logs) (suc k) d within rising =
    let e : suc k + 1 ≡ suc (k + 1) = omega arith in
    rw e (adjacent (m ∷ logs) k d (omega arith) rising.1)

pub searchable : (logs : List Log) (u : List ℕ) → IsRising logs → IsNonDecreasingBy (λ (l : Log). ordering_index (slice_cmp nat_cmp l.disk u)) logs
searchable logs u rising = searchable_from_sorted nat_list_cmp_total (λ (l : Log). l.disk) logs u (λ k d low high. adjacent logs k d (omega (arith, high)) rising)

-- ---- a place

pub place_of : (logs : List Log) (u : List ℕ) (i : ℕ) (d : Log) → i < length logs → (get_or logs i d).disk ≡ u → IsRising logs → IsPlace logs u i
unfolding IsStrictlySortedBy
place_of [] u i d within e rising = absurd (omega arith)
place_of (l ∷ logs) u zero d within e rising = record {
  held = l;
  at = refl;
  named = e;
  before = tt;
  behind = subst (λ (v : List ℕ). AreOthers v logs) e (others_behind l.disk logs rising.0);
}
place_of (l ∷ logs) u (suc i) d within e rising =
    let p : IsPlace logs u i = place_of logs u i d (omega arith) e rising.1 in
    let apart : bytes_eq l.disk u ≡ false = subst (λ (v : List ℕ). bytes_eq l.disk v ≡ false) e (less_apart l.disk (get_or logs i d).disk (least_at l.disk logs i d (omega arith) rising.0)) in
    record { held = p.held; at = p.at; named = p.named; before = (apart, p.before); behind = p.behind }

log_at : (logs : List Log) (u : List ℕ) (i : ℕ) (held : Log) → slice_get logs i ≡ Some held → held.disk ≡ u → AreOthers u (take i logs) → log_of u logs ≡ Some held
log_at [] u i held at named before = absurd cc
log_at (l ∷ logs) u zero held at named before =
    let same : l ≡ held = cc in
    rw (same_log l u (ap (λ (m : Log). m.disk) same ∙ named)) (ap Some same)
log_at (l ∷ logs) u (suc i) held at named before = rw before.0 (log_at logs u i held at named before.1)

pub placed : (logs : List Log) (u : List ℕ) (i : ℕ) (p : IsPlace logs u i) → log_of u logs ≡ Some p.held
placed logs u i p = log_at logs u i p.held p.at p.named p.before

pub within : (logs : List Log) (u : List ℕ) (i : ℕ) → IsPlace logs u i → i < length logs
within logs u i p = slice_get_within logs i p.held p.at

-- what an index reads there is the disk's log
pub read_at : (logs : List Log) (u : List ℕ) (i : ℕ) (l : Log) → (p : IsPlace logs u i) → l ≡ get_or logs i l → l ≡ p.held
read_at logs u i l p is = is ∙ get_or_from_slice_get logs i p.held l p.at

-- ---- where none stands

pub others_none : (logs : List Log) (u : List ℕ) → AreOthers u logs → log_of u logs ≡ None
others_none [] u others = refl
others_none (l ∷ logs) u others = rw others.0 (others_none logs u others.1)

pub none_others : (logs : List Log) (u : List ℕ) → log_of u logs ≡ None → AreOthers u logs
none_others [] u none = tt
none_others (l ∷ logs) u none = by (is_log_of u l) refl none (λ h. none_others logs u h)
  where
    by : (b : Bool) → is_log_of u l ≡ b → (if b then Some l else log_of u logs) ≡ None → (log_of u logs ≡ None → AreOthers u logs) → AreOthers u (l ∷ logs)
    by true e h rest = let z : Some l ≡ None = h in absurd cc
    by false e h rest = (e, rest h)

-- so many logs are of disks before this one, and the others of disks behind it
abbrev pub AreParted : List ℕ → List Log → ℕ → Type 0
AreParted u logs i = IsPartitionPoint (λ (l : Log). slice_cmp nat_cmp l.disk u ≡ Less) (λ l. slice_cmp nat_cmp l.disk u ≡ Greater) logs i

parted_rest : (u : List ℕ) (l : Log) (logs : List Log) (i : ℕ) → AreParted u (l ∷ logs) (suc i) → AreParted u logs i
parted_rest u l logs i p = (λ k d low high. p.0 (suc k) d (omega arith) (omega (arith, high)), λ k d low high. p.1 (suc k) d (omega (arith, low)) (omega (arith, high)))

parted_none : (u : List ℕ) (l : Log) (logs : List Log) → AreParted u (l ∷ logs) zero → AreParted u logs zero
parted_none u l logs p = (λ k d low high. absurd (omega (arith, high)), λ k d low high. p.1 (suc k) d (omega arith) (omega (arith, high)))

parted_others : (u : List ℕ) (logs : List Log) (i : ℕ) → i ≤ length logs → AreParted u logs i → AreOthers u logs
parted_others u [] i long p = tt
parted_others u (l ∷ logs) zero long p = (greater_apart l.disk u (p.1 0 l (omega arith) (omega arith)), parted_others u logs zero (omega arith) (parted_none u l logs p))
parted_others u (l ∷ logs) (suc i) long p = (less_apart l.disk u (p.0 0 l (omega arith) (omega arith)), parted_others u logs i (omega arith) (parted_rest u l logs i p))

put_at : (logs : List Log) (u : List ℕ) (i : ℕ) → i ≤ length logs → AreParted u logs i → (l : Log) → l.disk ≡ u → take i logs ++ l ∷ drop i logs ≡ with_log l logs
unfolding with_log insert_by
put_at [] u zero long p l named = refl
put_at [] u (suc i) long p l named = absurd (omega arith)
put_at (x ∷ logs) u zero long p l named =
    let test : log_before l x ≡ true = rw named (ap is_lt (turned_back x.disk u (p.1 0 x (omega arith) (omega arith)))) in
    rw test refl
put_at (x ∷ logs) u (suc i) long p l named =
    let test : log_before l x ≡ false = rw named (ap is_lt (turned x.disk u (p.0 0 x (omega arith) (omega arith)))) in
    rw test (ap (λ (rest : List Log). x ∷ rest) (put_at logs u i (omega arith) (parted_rest u x logs i p) l named))

pub slot_of : (logs : List Log) (u : List ℕ) (i : ℕ) → i ≤ length logs → AreParted u logs i → IsSlot logs u i
slot_of logs u i long p = record { within = long; none = others_none logs u (parted_others u logs i long p); put = put_at logs u i long p }

-- what a search answers
pub searched : (logs : List Log) (u : List ℕ) (r : Result ℕ ℕ) → IsRising logs → IsSearchInRange r (length logs)
    → IsBinarySearchResult (λ (l : Log). slice_cmp nat_cmp l.disk u) logs r → IfOk r (IsPlace logs u) × IfErr r (IsSlot logs u)
searched logs u (Ok i) rising within h = (place_of logs u i any within (tied (get_or logs i any).disk u (h any)) rising, tt)
  where
    any : Log
    any = record { disk = []; extents = 0; tag = 0; since = 0; bits = [] }
searched logs u (Err i) rising within h = (tt, slot_of logs u i within (h (searchable logs u rising)))
