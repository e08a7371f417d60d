-- Logs in order once one is put in, taken out or changed.
use Rattle.std.proofs.Common.{◌≡◌, ℕ, zero, suc, Bool, true, false, not, List, [], ◌∷◌, map, Some, None, refl, sym, ap, subst, ◌∙◌, take, drop}
use Rattle.std.specs.Prelude.{slice_get, slice_set, remove, filter}
use Rattle.std.specs.Ordering.{is_lt, nat_cmp}
use Rattle.std.specs.Cmp.Lexicographic.{slice_cmp}
use Rattle.std.specs.declared.cmp.Ordering.{Ordering}
use Rattle.std.specs.declared.cmp.Ordering.TheVariants.{Less, Equal, Greater}
use Rattle.std.specs.List.Sorted.{IsStrictlySortedBy}
use Rattle.std.proofs.lemmas.Bool.{cond_both, true≢false}
use Rattle.std.proofs.lemmas.Cmp.{nat_list_cmp_total}
use Rattle.common_laws.specs.Lists.{insert_by, when}
use Rattle.sm_log.specs.Logs.{Log, is_log_of, log_of, log_before, on_log, with_log, without_log}
use Rattle.sm_logs.specs.Held.{AreOthers, IsPlace, IsRising}
use Rattle.sm_logs.proofs.PlaceLaws.{IsLeast, none_others, same_log, tied, turned_back}

pub rising_first : IsRising []
unfolding IsStrictlySortedBy
rising_first = tt

-- ---- one log more

least_with : (logs : List Log) (l : Log) (u : List ℕ) → slice_cmp nat_cmp u l.disk ≡ Less → IsLeast u logs → IsLeast u (with_log l logs)
unfolding with_log insert_by
least_with [] l u one all = (one, tt)
least_with (x ∷ logs) l u one all =
    cond_both (log_before l x) (l ∷ x ∷ logs) (x ∷ with_log l logs) (λ (ls : List Log). IsLeast u ls)
    (λ e. (one, all)) (λ e. (all.0, least_with logs l u one all.1))

less_of : (u v : List ℕ) → is_lt (slice_cmp nat_cmp u v) ≡ true → slice_cmp nat_cmp u v ≡ Less
less_of u v h = by (slice_cmp nat_cmp u v) refl
  where
    by : (o : Ordering) → slice_cmp nat_cmp u v ≡ o → slice_cmp nat_cmp u v ≡ Less
    by Less e = e
    by Equal e = absurd (true≢false (sym h ∙ ap is_lt e))
    by Greater e = absurd (true≢false (sym h ∙ ap is_lt e))

behind_of : (l x : Log) → is_log_of l.disk x ≡ false → is_lt (slice_cmp nat_cmp l.disk x.disk) ≡ false → slice_cmp nat_cmp x.disk l.disk ≡ Less
behind_of l x apart h = by (slice_cmp nat_cmp l.disk x.disk) refl
  where
    by : (o : Ordering) → slice_cmp nat_cmp l.disk x.disk ≡ o → slice_cmp nat_cmp x.disk l.disk ≡ Less
    by Less e = absurd (true≢false (sym (ap is_lt e) ∙ h))
    by Equal e = absurd (true≢false (sym (same_log x l.disk (sym (tied l.disk x.disk e))) ∙ apart))
    by Greater e = turned_back l.disk x.disk e

least_from : (u v : List ℕ) (logs : List Log) → slice_cmp nat_cmp u v ≡ Less → IsLeast v logs → IsLeast u logs
least_from u v [] h all = tt
least_from u v (x ∷ logs) h all = (nat_list_cmp_total.trans u v x.disk h all.0, least_from u v logs h all.1)

rising_others : (logs : List Log) (l : Log) → AreOthers l.disk logs → IsRising logs → IsRising (with_log l logs)
unfolding with_log insert_by IsStrictlySortedBy
rising_others [] l others rising = (tt, tt)
rising_others (x ∷ logs) l others rising =
    cond_both (log_before l x) (l ∷ x ∷ logs) (x ∷ with_log l logs) (λ (ls : List Log). IsRising ls)
    (λ e. let first = less_of l.disk x.disk e in ((first, least_from l.disk x.disk logs first rising.0), rising))
    (λ e. (least_with logs l x.disk (behind_of l x others.0 e) rising.0, rising_others logs l others.1 rising.1))

pub rising_with : (logs : List Log) (l : Log) → log_of l.disk logs ≡ None → IsRising logs → IsRising (with_log l logs)
rising_with logs l none rising = rising_others logs l (none_others logs l.disk none) rising

-- ---- one log less

least_filter : (t : Log → Bool) (logs : List Log) (u : List ℕ) → IsLeast u logs → IsLeast u (filter t logs)
least_filter t [] u all = tt
least_filter t (x ∷ logs) u all =
    cond_both (t x) (x ∷ filter t logs) (filter t logs) (λ (ls : List Log). IsLeast u ls)
    (λ e. (all.0, least_filter t logs u all.1)) (λ e. least_filter t logs u all.1)

rising_filter : (t : Log → Bool) (logs : List Log) → IsRising logs → IsRising (filter t logs)
unfolding IsStrictlySortedBy
rising_filter t [] rising = tt
rising_filter t (x ∷ logs) rising =
    cond_both (t x) (x ∷ filter t logs) (filter t logs) (λ (ls : List Log). IsRising ls)
    (λ e. (least_filter t logs x.disk rising.0, rising_filter t logs rising.1)) (λ e. rising_filter t logs rising.1)

pub rising_without : (logs : List Log) (u : List ℕ) → IsRising logs → IsRising (without_log u logs)
rising_without logs u rising = rising_filter (λ l. not (is_log_of u l)) logs rising

without_others : (logs : List Log) (u : List ℕ) → AreOthers u logs → without_log u logs ≡ logs
without_others [] u others = refl
without_others (x ∷ logs) u others = rw others.0 (ap (λ (ls : List Log). x ∷ ls) (without_others logs u others.1))

-- where a disk has no log, none is taken out
pub without_none : (logs : List Log) (u : List ℕ) → log_of u logs ≡ None → without_log u logs ≡ logs
without_none logs u none = without_others logs u (none_others logs u none)

removed : (logs : List Log) (u : List ℕ) (i : ℕ) (held : Log) → slice_get logs i ≡ Some held → held.disk ≡ u → AreOthers u (take i logs) → AreOthers u (drop (suc i) logs)
    → remove logs i ≡ without_log u logs
removed [] u i held at named before behind = absurd cc
removed (x ∷ logs) u zero held at named before behind =
    let same : x ≡ held = cc in
    rw (same_log x u (ap (λ (m : Log). m.disk) same ∙ named)) (sym (without_others logs u behind))
removed (x ∷ logs) u (suc i) held at named before behind = rw before.0 (ap (λ (ls : List Log). x ∷ ls) (removed logs u i held at named before.1 behind))

pub without_at : (logs : List Log) (u : List ℕ) (i : ℕ) → IsPlace logs u i → remove logs i ≡ without_log u logs
without_at logs u i p = removed logs u i p.held p.at p.named p.before p.behind

-- ---- one log changed

on_others : (logs : List Log) (u : List ℕ) (f : Log → Log) → AreOthers u logs → on_log u f logs ≡ logs
on_others [] u f others = refl
on_others (x ∷ logs) u f others = rw others.0 (ap (λ (ls : List Log). x ∷ ls) (on_others logs u f others.1))

-- where a disk has no log, none is changed
pub on_none : (logs : List Log) (u : List ℕ) (f : Log → Log) → log_of u logs ≡ None → on_log u f logs ≡ logs
on_none logs u f none = on_others logs u f (none_others logs u none)

changed : (logs : List Log) (u : List ℕ) (f : Log → Log) (i : ℕ) (held new : Log) → slice_get logs i ≡ Some held → held.disk ≡ u → AreOthers u (take i logs) → AreOthers u (drop (suc i) logs)
    → new ≡ f held → slice_set logs i new ≡ on_log u f logs
changed [] u f i held new at named before behind is = absurd cc
changed (x ∷ logs) u f zero held new at named before behind is =
    let same : x ≡ held = cc in
    let here : new ≡ f x = is ∙ ap f (sym same) in
    rw (same_log x u (ap (λ (m : Log). m.disk) same ∙ named), on_others logs u f behind) (ap (λ (m : Log). m ∷ logs) here)
changed (x ∷ logs) u f (suc i) held new at named before behind is = rw before.0 (ap (λ (ls : List Log). x ∷ ls) (changed logs u f i held new at named before.1 behind is))

pub changed_at : (logs : List Log) (u : List ℕ) (f : Log → Log) (i : ℕ) (new : Log) (p : IsPlace logs u i) → new ≡ f p.held → slice_set logs i new ≡ on_log u f logs
changed_at logs u f i new p is = changed logs u f i p.held new p.at p.named p.before p.behind is

disks_kept : (logs : List Log) (u : List ℕ) (f : Log → Log) → ((l : Log) → (f l).disk ≡ l.disk) → map (λ (l : Log). l.disk) (on_log u f logs) ≡ map (λ (l : Log). l.disk) logs
disks_kept [] u f keeps = refl
disks_kept (x ∷ logs) u f keeps = by (is_log_of u x) (disks_kept logs u f keeps)
  where
    by : (b : Bool) → map (λ (l : Log). l.disk) (on_log u f logs) ≡ map (λ (l : Log). l.disk) logs
        → (when b f x).disk ∷ map (λ (l : Log). l.disk) (on_log u f logs) ≡ x.disk ∷ map (λ (l : Log). l.disk) logs
    by true rest = rw (keeps x, rest) refl
    by false rest = rw rest refl

pub rising_on : (logs : List Log) (u : List ℕ) (f : Log → Log) → ((l : Log) → (f l).disk ≡ l.disk) → IsRising logs → IsRising (on_log u f logs)
rising_on logs u f keeps rising = subst (λ (us : List (List ℕ)). IsStrictlySortedBy (slice_cmp nat_cmp) us) (sym (disks_kept logs u f keeps)) rising
