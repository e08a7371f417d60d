-- Lists of logs, once one is put in, taken out or changed: their order, their extents, and what they hold.
use Rattle.std.proofs.Common.{◌≡◌, ℕ, ◌+◌, ◌≤◌, Bool, true, false, not, cond, List, [], ◌∷◌, map, Some, None, refl, sym, ap, ◌∙◌, subst, arith}
use Rattle.std.specs.Ordering.{nat_cmp}
use Rattle.std.specs.Cmp.Lexicographic.{slice_cmp}
use Rattle.std.specs.List.{filter}
use Rattle.std.specs.Str.{bytes_eq}
use Rattle.std.proofs.lemmas.Cmp.{nat_list_cmp_total}
use Rattle.common_laws.specs.Lists.{In, Sorted, insert_by, when}
use Rattle.common_laws.proofs.Lists.{Sorted-insert, find-some, find-none}
use Rattle.common_laws.proofs.Bytes.{bytes_eq-same, bytes_eq-refl}
use Rattle.sm_log.specs.Logs.{Log, is_log_of, log_of, log_before, on_log, with_log, without_log, log_extents}
use Rattle.sm_machine.specs.WellFormed.{uuid_le}
use Rattle.sm_machine.proofs.Changes.{when-key}
use Rattle.sm_machine.proofs.Listed.{map-change, change-same}
use Rattle.sm_machine.proofs.ImageNames.{before_le, le_chain}

-- ---- order

pub disks-on_log : (u : List ℕ) (f : Log → Log) → ((l : Log) → (f l).disk ≡ l.disk) → (logs : List Log) → map (λ (l : Log). l.disk) (on_log u f logs) ≡ map (λ (l : Log). l.disk) logs
disks-on_log u f keeps logs = map-change (λ (l : Log). l.disk) (is_log_of u) (λ (v : List ℕ). bytes_eq v u) f (λ (v : List ℕ). v) (λ l. refl) keeps logs
    ∙ change-same (λ (v : List ℕ). bytes_eq v u) (map (λ (l : Log). l.disk) logs)

pub sorted-with_log : (l : Log) (logs : List Log) → Sorted uuid_le (map (λ (l : Log). l.disk) logs) → Sorted uuid_le (map (λ (l : Log). l.disk) (with_log l logs))
unfolding with_log
sorted-with_log l logs d = Sorted-insert (λ (l : Log). l.disk) uuid_le log_before
    (λ x y. before_le (slice_cmp nat_cmp) nat_list_cmp_total x.disk y.disk) (λ x y e. ap not e) (le_chain (slice_cmp nat_cmp) nat_list_cmp_total) l logs d

-- ---- extents

with_case : (y z : Log) (zs : List Log) (b : Bool) → log_extents (insert_by log_before y zs) ≡ y.extents + log_extents zs
    → log_extents (cond b (y ∷ z ∷ zs) (z ∷ insert_by log_before y zs)) ≡ y.extents + (z.extents + log_extents zs)
unfolding log_extents
with_case y z zs true ih = refl
with_case y z zs false ih = let e : z.extents + log_extents (insert_by log_before y zs) ≡ y.extents + (z.extents + log_extents zs) = omega (arith, ih) in e

pub extents-with_log : (l : Log) (logs : List Log) → log_extents (with_log l logs) ≡ l.extents + log_extents logs
unfolding with_log insert_by log_extents
extents-with_log l [] = refl
extents-with_log l (z ∷ zs) = with_case l z zs (log_before l z) (extents-with_log l zs)

pub extents-on_log : (u : List ℕ) (f : Log → Log) → ((l : Log) → (f l).extents ≡ l.extents) → (logs : List Log) → log_extents (on_log u f logs) ≡ log_extents logs
unfolding log_extents
extents-on_log u f keeps [] = refl
extents-on_log u f keeps (l ∷ logs) =
    let here : (when (is_log_of u l) f l).extents ≡ l.extents = when-key (λ (x : Log). x.extents) f keeps (is_log_of u l) l in
    let rest : log_extents (on_log u f logs) ≡ log_extents logs = extents-on_log u f keeps logs in
    omega (arith, here, rest)

less_case : (t : Log → Bool) (l : Log) (logs : List Log) (b : Bool) → log_extents (filter t logs) ≤ log_extents logs → log_extents (cond b (l ∷ filter t logs) (filter t logs)) ≤ l.extents + log_extents logs
unfolding log_extents
less_case t l logs true ih = omega (arith, ih)
less_case t l logs false ih = omega (arith, ih)

extents-filter : (t : Log → Bool) (logs : List Log) → log_extents (filter t logs) ≤ log_extents logs
unfolding log_extents
extents-filter t [] = omega arith
extents-filter t (l ∷ logs) = less_case t l logs (t l) (extents-filter t logs)

pub extents-without : (u : List ℕ) (logs : List Log) → log_extents (without_log u logs) ≤ log_extents logs
extents-without u logs = extents-filter (λ (l : Log). not (is_log_of u l)) logs

-- ---- the log of a disk

pub log_found : (u : List ℕ) (logs : List Log) (l : Log) → log_of u logs ≡ Some l → In l logs × (l.disk ≡ u)
log_found u logs l e = let k : In l logs × (is_log_of u l ≡ true) = find-some (is_log_of u) logs l e in (k.0, bytes_eq-same l.disk u k.1)

pub no_log : (u : List ℕ) (logs : List Log) (l : Log) → log_of u logs ≡ None → In l logs → l.disk ≡ u → ⊥
no_log u logs l e h same =
    let f : is_log_of u l ≡ false = find-none (is_log_of u) logs l e h in
    let t : is_log_of u l ≡ true = subst (λ (v : List ℕ). bytes_eq v u ≡ true) (sym same) (bytes_eq-refl u) in
    cc
