-- The logs with one more, and with that of a snapshot beside the changed log of its disk.
use Rattle.std.proofs.Common.{◌≡◌, ◌≢◌, suc, ℕ, ◌⊎◌, inl, inr, ⊎_elim, Bool, true, false, cond, List, [], ◌∷◌, length, Option, Some, None, refl, sym, ap, ◌∙◌, subst}
use Rattle.std.specs.List.{find}
use Rattle.std.proofs.lemmas.Option.{none-some, same_Some}
use Rattle.common_laws.specs.Lists.{In, insert_by, when}
use Rattle.common_laws.proofs.Bytes.{bytes_eq-apart, bytes_eq-same, same_or_not}
use Rattle.common_laws.proofs.Lists.{In-insert, length-insert_by, none_find}
use Rattle.sm_log.specs.Logs.{Log, is_log_of, log_before, log_of, on_log, with_log}
use Rattle.sm_logs.proofs.PlaceLaws.{same_log}
use Rattle.sm_machine.proofs.Chains.{find-insert_other}
use Rattle.sm_tracking.proofs.ListLaws.{other_on}

found_insert : {A : Type 0} (test : A → Bool) (before : A → A → Bool) (y : A) (xs : List A) → test y ≡ true → ((x : A) → In x xs → test x ≡ false) → find test (insert_by before y xs) ≡ Some y
unfolding insert_by
found_insert test before y [] e none = ap (λ (b : Bool). cond b (Some y) None) e
found_insert test before y (z ∷ zs) e none = by (before y z) (found_insert test before y zs e (λ x i. none x (inr i)))
  where
    by : (b : Bool) → find test (insert_by before y zs) ≡ Some y → find test (cond b (y ∷ z ∷ zs) (z ∷ insert_by before y zs)) ≡ Some y
    by true rest = ap (λ (c : Bool). cond c (Some y) (find test (z ∷ zs))) e
    by false rest = ap (λ (c : Bool). cond c (Some z) (find test (insert_by before y zs))) (none z (inl refl)) ∙ rest

-- its disk has the new log
pub own_with : (l : Log) (ls : List Log) → log_of l.disk ls ≡ None → log_of l.disk (with_log l ls) ≡ Some l
unfolding with_log
own_with l ls none = found_insert (is_log_of l.disk) log_before l ls (same_log l l.disk refl) (none_find (is_log_of l.disk) ls none)

-- and each other disk has what it had
pub other_with : (u : List ℕ) (l : Log) (ls : List Log) → u ≢ l.disk → log_of u (with_log l ls) ≡ log_of u ls
unfolding with_log
other_with u l ls apart = find-insert_other (is_log_of u) log_before l ls (bytes_eq-apart l.disk u (λ e. apart (sym e)))

pub among_with : (l x : Log) (ls : List Log) → In x (with_log l ls) → (x ≡ l) ⊎ In x ls
unfolding with_log
among_with l x ls i = In-insert log_before l ls x i

pub length-with : (l : Log) (ls : List Log) → length (with_log l ls) ≡ suc (length ls)
unfolding with_log
length-with l ls = length-insert_by log_before l ls

-- ---- the log of one disk changed

-- a change of a log leaves it its disk's
abbrev pub KeepsDisk : (Log → Log) → Type 0
KeepsDisk f = (x : Log) → (f x).disk ≡ x.disk

pub own_on : (u : List ℕ) (f : Log → Log) (ls : List Log) (l : Log) → KeepsDisk f → log_of u ls ≡ Some l → log_of u (on_log u f ls) ≡ Some (f l)
own_on u f [] l keeps found = absurd (none-some l found)
own_on u f (x ∷ xs) l keeps found = by (is_log_of u x) refl (own_on u f xs l keeps)
  where
    by : (b : Bool) → is_log_of u x ≡ b → (log_of u xs ≡ Some l → log_of u (on_log u f xs) ≡ Some (f l)) → log_of u (when b f x ∷ on_log u f xs) ≡ Some (f l)
    by true e rest =
        let is : x ≡ l = same_Some x l (sym (ap (λ (c : Bool). cond c (Some x) (log_of u xs)) e) ∙ found) in
        ap (λ (c : Bool). cond c (Some (f x)) (log_of u (on_log u f xs))) (same_log (f x) u (keeps x ∙ bytes_eq-same x.disk u e)) ∙ ap (λ (y : Log). Some (f y)) is
    by false e rest =
        ap (λ (c : Bool). cond c (Some x) (log_of u (on_log u f xs))) e ∙ rest (sym (ap (λ (c : Bool). cond c (Some x) (log_of u xs)) e) ∙ found)

-- ---- a twin's log beside the changed one

module _ (u : List ℕ) (k l : Log) (f : Log → Log) (ls : List Log) (keeps : KeepsDisk f) (found : log_of u ls ≡ Some l) (absent : log_of k.disk ls ≡ None) where
  pub twin_apart : k.disk ≢ u
  twin_apart same = none-some l (sym absent ∙ ap (λ (v : List ℕ). log_of v ls) same ∙ found)

  pub twin_absent : log_of k.disk (on_log u f ls) ≡ None
  twin_absent = other_on u k.disk f ls keeps twin_apart ∙ absent

  pub twin_found : log_of k.disk (with_log k (on_log u f ls)) ≡ Some k
  twin_found = own_with k (on_log u f ls) twin_absent

  pub changed_found : log_of u (with_log k (on_log u f ls)) ≡ Some (f l)
  changed_found = other_with u k (on_log u f ls) (λ e. twin_apart (sym e)) ∙ own_on u f ls l keeps found

  pub else_found : (v : List ℕ) → v ≢ u → v ≢ k.disk → log_of v (with_log k (on_log u f ls)) ≡ log_of v ls
  else_found v apart away = other_with v k (on_log u f ls) away ∙ other_on u v f ls keeps apart

  -- what holds of the log of each disk
  pub each_found : (P : List ℕ → Option Log → Type 0) → P k.disk (Some k) → P u (Some (f l)) → ((v : List ℕ) → v ≢ u → v ≢ k.disk → P v (log_of v ls)) → (v : List ℕ) → P v (log_of v (with_log k (on_log u f ls)))
  each_found P twin own others v = ⊎_elim
      (λ is. subst (λ (w : List ℕ). P w (log_of w (with_log k (on_log u f ls)))) (sym is) (subst (P k.disk) (sym twin_found) twin))
      (λ away. ⊎_elim
      (λ is. subst (λ (w : List ℕ). P w (log_of w (with_log k (on_log u f ls)))) (sym is) (subst (P u) (sym changed_found) own))
      (λ apart. subst (P v) (sym (else_found v apart away)) (others v apart away)) (same_or_not v u))
      (same_or_not v k.disk)
