-- The log of one disk changed among the others.
use Rattle.std.proofs.Common.{◌≡◌, ◌≢◌, ℕ, Bool, true, false, List, [], ◌∷◌, length, replicate, Option, Some, None, refl, sym, ap, subst, ◌∙◌}
use Rattle.std.specs.Prelude.{IfSome, IsSome}
use Rattle.std.specs.Option.{option_map}
use Rattle.std.specs.Str.{bytes_eq}
use Rattle.std.proofs.lemmas.Bool.{true≢false}
use Rattle.std.proofs.lemmas.List.{length-map, length-replicate}
use Rattle.common_laws.specs.Lists.{when}
use Rattle.sm_log.specs.Logs.{Log, begun_anew, is_log_of, log_of, on_log, twin_log}
use Rattle.sm_cbt.proofs.MarkLaws.{some_more}

map_case : (u : List ℕ) (f : Log → Log) (x : Log) (logs : List Log) (b : Bool) → is_log_of u x ≡ b → ((l : Log) → (f l).disk ≡ l.disk)
    → log_of u (on_log u f logs) ≡ option_map f (log_of u logs) → log_of u (when b f x ∷ on_log u f logs) ≡ option_map f (log_of u (x ∷ logs))
map_case u f x logs true e keeps rest =
    let here : is_log_of u (f x) ≡ true = ap (λ (v : List ℕ). bytes_eq v u) (keeps x) ∙ e in
    rw (here, e) refl
map_case u f x logs false e keeps rest = rw e rest

-- its disk has the changed log
pub on_found : (u : List ℕ) (f : Log → Log) (logs : List Log) → ((l : Log) → (f l).disk ≡ l.disk) → log_of u (on_log u f logs) ≡ option_map f (log_of u logs)
on_found u f [] keeps = refl
on_found u f (x ∷ logs) keeps = map_case u f x logs (is_log_of u x) refl keeps (on_found u f logs keeps)

still_case : (u v : List ℕ) (f : Log → Log) (x : Log) (logs : List Log) (b c : Bool) → is_log_of v x ≡ c → ((l : Log) → (f l).disk ≡ l.disk)
    → (log_of v logs ≡ None → log_of v (on_log u f logs) ≡ None) → log_of v (x ∷ logs) ≡ None → log_of v (when b f x ∷ on_log u f logs) ≡ None
still_case u v f x logs b true e keeps rest h = let z : Some x ≡ None = rw e at h in absurd cc
still_case u v f x logs true false e keeps rest h =
    let here : is_log_of v (f x) ≡ false = ap (λ (w : List ℕ). bytes_eq w v) (keeps x) ∙ e in
    rw here (rest (rw e at h))
still_case u v f x logs false false e keeps rest h = rw e (rest (rw e at h))

-- a disk without a log has none still
pub still_none : (u v : List ℕ) (f : Log → Log) (logs : List Log) → ((l : Log) → (f l).disk ≡ l.disk) → log_of v logs ≡ None → log_of v (on_log u f logs) ≡ None
still_none u v f [] keeps h = refl
still_none u v f (x ∷ logs) keeps h = still_case u v f x logs (is_log_of u x) (is_log_of v x) refl keeps (still_none u v f logs keeps) h

-- there are as many
pub on_long : (u : List ℕ) (f : Log → Log) (logs : List Log) → length (on_log u f logs) ≡ length logs
on_long u f logs = length-map logs (λ x. when (is_log_of u x) f x)

-- what is so of the changed log is so of the log as it was, once changed
pub found_was : (u : List ℕ) (f : Log → Log) (P : Log → Type 0) (logs new : List Log) (l : Log) → ((k : Log) → (f k).disk ≡ k.disk) → new ≡ on_log u f logs → Some l ≡ log_of u new → P l
    → IfSome (log_of u logs) (λ k. P (f k))
found_was u f P logs new l keeps is found h = by (log_of u logs) (found ∙ ap (log_of u) is ∙ on_found u f logs keeps)
  where
    by : (o : Option Log) → Some l ≡ option_map f o → IfSome o (λ k. P (f k))
    by None e = tt
    by (Some k) e = let z : l ≡ f k = cc in subst P z h

-- and the other way round
pub found_is : (u : List ℕ) (f : Log → Log) (P : Log → Type 0) (logs new : List Log) (l : Log) → ((k : Log) → (f k).disk ≡ k.disk) → new ≡ on_log u f logs → Some l ≡ log_of u new
    → IfSome (log_of u logs) (λ k. P (f k)) → P l
found_is u f P logs new l keeps is found h = by (log_of u logs) (found ∙ ap (log_of u) is ∙ on_found u f logs keeps) h
  where
    by : (o : Option Log) → Some l ≡ option_map f o → IfSome o (λ k. P (f k)) → P l
    by None e q = absurd cc
    by (Some k) e q = let z : l ≡ f k = cc in subst P (sym z) q

-- where it had one, it has one
pub some_still : (u : List ℕ) (f : Log → Log) (logs new : List Log) → ((k : Log) → (f k).disk ≡ k.disk) → new ≡ on_log u f logs → None ≡ log_of u new → IsSome (log_of u logs) → ⊥
some_still u f logs new keeps is none some = by (log_of u logs) (none ∙ ap (log_of u) is ∙ on_found u f logs keeps) some
  where
    by : (o : Option Log) → None ≡ option_map f o → IsSome o → ⊥
    by None e q = absurd (true≢false (sym q))
    by (Some k) e q = absurd cc

-- a disk that has a log is another one than a disk that has none
pub two_disks : (u v : List ℕ) (logs : List Log) → log_of v logs ≡ None → IsSome (log_of u logs) → v ≢ u
two_disks u v logs none some same = by (log_of u logs) (ap (λ (w : List ℕ). log_of w logs) (sym same) ∙ none) some
  where
    by : (o : Option Log) → o ≡ None → IsSome o → ⊥
    by None e q = absurd (true≢false (sym q))
    by (Some k) e q = absurd cc

-- the log that begins anew has as many bits as the twin
pub begun_long : (u : List ℕ) (twin : Log) (logs new : List Log) (l : Log) → new ≡ on_log u (begun_anew twin.tag) logs → Some l ≡ log_of u new
    → IfSome (log_of u logs) (λ k. twin ≡ twin_log twin.disk twin.tag k) → length l.bits ≡ length twin.bits
begun_long u twin logs new l is found h =
    found_is u (begun_anew twin.tag) (λ k. length k.bits ≡ length twin.bits) logs new l (λ k. refl) is found
    (some_more (log_of u logs) (λ k. twin ≡ twin_log twin.disk twin.tag k) (λ k. length (replicate (length k.bits) false) ≡ length twin.bits)
    (λ k e. length-replicate {A = Bool} (length k.bits) false ∙ sym (ap (λ (t : Log). length t.bits) e)) h)
