-- The logs of other disks where that of one goes, or is changed.
use Rattle.std.proofs.Common.{◌≡◌, ◌≢◌, ℕ, ◌≤◌, Bool, true, false, not, cond, List, [], ◌∷◌, length, filter, Option, Some, None, refl, sym, ap, ◌∙◌, arith}
use Rattle.common_laws.specs.Lists.{when}
use Rattle.common_laws.proofs.Bytes.{bytes_eq-apart, bytes_eq-same}
use Rattle.sm_log.specs.Logs.{Log, is_log_of, log_of, on_log, without_log}

-- ---- without one

gone_case : (d : List ℕ) (l : Log) (ls : List Log) (b : Bool) → is_log_of d l ≡ b → log_of d (without_log d ls) ≡ None → log_of d (cond (not b) (l ∷ without_log d ls) (without_log d ls)) ≡ None
gone_case d l ls true e rest = rest
gone_case d l ls false e rest = ap (λ (c : Bool). cond c (Some l) (log_of d (without_log d ls))) e ∙ rest

-- its disk has none
pub none_without : (d : List ℕ) (ls : List Log) → log_of d (without_log d ls) ≡ None
none_without d [] = refl
none_without d (l ∷ ls) = gone_case d l ls (is_log_of d l) refl (none_without d ls)

other_case : (d u : List ℕ) (l : Log) (ls : List Log) (b : Bool) → u ≢ d → is_log_of d l ≡ b → log_of u (without_log d ls) ≡ log_of u ls → log_of u (cond (not b) (l ∷ without_log d ls) (without_log d ls)) ≡ log_of u (l ∷ ls)
other_case d u l ls true apart e rest =
    rest ∙ sym (ap (λ (c : Bool). cond c (Some l) (log_of u ls)) (bytes_eq-apart l.disk u (λ is. apart (sym is ∙ bytes_eq-same l.disk d e))))
other_case d u l ls false apart e rest = ap (λ (o : Option Log). cond (is_log_of u l) (Some l) o) rest

-- and each other disk has what it had
pub other_without : (d u : List ℕ) (ls : List Log) → u ≢ d → log_of u (without_log d ls) ≡ log_of u ls
other_without d u [] apart = refl
other_without d u (l ∷ ls) apart = other_case d u l ls (is_log_of d l) apart refl (other_without d u ls apart)

pub fewer_left : (p : Log → Bool) (ls : List Log) → length (filter p ls) ≤ length ls
fewer_left p [] = omega arith
fewer_left p (l ∷ ls) = by (p l) (fewer_left p ls)
  where
    by : (b : Bool) → length (filter p ls) ≤ length ls → length (cond b (l ∷ filter p ls) (filter p ls)) ≤ length (l ∷ ls)
    by true rest = omega (arith, rest)
    by false rest = omega (arith, rest)

-- ---- one of them changed

-- each other disk has what it had
pub other_on : (u v : List ℕ) (f : Log → Log) (ls : List Log) → ((x : Log) → (f x).disk ≡ x.disk) → v ≢ u → log_of v (on_log u f ls) ≡ log_of v ls
other_on u v f [] keeps apart = refl
other_on u v f (x ∷ xs) keeps apart = by (is_log_of u x) refl (other_on u v f xs keeps apart)
  where
    not_its : (y : Log) → y.disk ≡ u → is_log_of v y ≡ false
    not_its y is = bytes_eq-apart y.disk v (λ e. apart (sym e ∙ is))

    by : (b : Bool) → is_log_of u x ≡ b → log_of v (on_log u f xs) ≡ log_of v xs → log_of v (when b f x ∷ on_log u f xs) ≡ log_of v (x ∷ xs)
    by true e rest =
        let is : x.disk ≡ u = bytes_eq-same x.disk u e in
        ap (λ (c : Bool). cond c (Some (f x)) (log_of v (on_log u f xs))) (not_its (f x) (keeps x ∙ is)) ∙ rest ∙ sym (ap (λ (c : Bool). cond c (Some x) (log_of v xs)) (not_its x is))
    by false e rest = ap (λ (o : Option Log). cond (is_log_of v x) (Some x) o) rest
