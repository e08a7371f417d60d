-- The logs in memory beside the table off which they were read, whatever the content.
use Rattle.std.proofs.Common.{◌≡◌, ℕ, ◌+◌, ◌<◌, ◌≤◌, ◌⊎◌, inl, inr, ⊎_elim, Bool, true, false, ◌&&◌, cond, List, [], ◌∷◌, ◌++◌, length, get_or, take, Option, Some, None, is_some, is_none, refl, sym, ap, subst, ◌∙◌}
use Rattle.std.proofs.lemmas.Bool.{true≢false}
use Rattle.std.proofs.lemmas.List.{take_all}
use Rattle.common_laws.specs.Lists.{In, insert_by, ◌>>=◌}
use Rattle.common_laws.proofs.Bytes.{bytes_eq-same, bytes_eq-refl}
use Rattle.common_laws.proofs.Lists.{In-append, In-insert, In-insert_new, In-left, find-none, find-only, find-some, take_next}
use Rattle.sm_log.specs.Logs.{Log, is_log_of, log_before, log_of, with_log}
use Rattle.vg_meta.specs.Tables.{VolumeTable}
use Rattle.sm_log_reading.specs.Reading.{IsReadOf, filled_extents}
use Rattle.sm_log_reading.specs.Right.{AreReadOf, is_to_read}
use Rattle.sm_log_reading.specs.declared.logs.DiskPieces.{DiskPieces}

In-right : {A : Type 0} (xs ys : List A) (x : A) → In x ys → In x (xs ++ ys)
In-right [] ys x i = i
In-right (y ∷ xs) ys x i = inr (In-right xs ys x i)

-- ---- one log more

found_new : (l : Log) (ls : List Log) → log_of l.disk ls ≡ None → log_of l.disk (with_log l ls) ≡ Some l
unfolding with_log
found_new l ls none = find-only (is_log_of l.disk) (insert_by log_before l ls) l (In-insert_new log_before l ls) (bytes_eq-refl l.disk)
    (λ m i is. ⊎_elim (λ same. same) (λ old. absurd (true≢false (sym is ∙ find-none (is_log_of l.disk) ls m none old))) (In-insert log_before l ls m i))

found_other : (v : List ℕ) (l : Log) (ls : List Log) → is_log_of v l ≡ false → log_of v (with_log l ls) ≡ log_of v ls
unfolding with_log insert_by
found_other v l [] other = ap (λ b. cond b (Some l) None) other
found_other v l (m ∷ ls) other = by (log_before l m) (found_other v l ls other)
  where
    by : (b : Bool) → log_of v (insert_by log_before l ls) ≡ log_of v ls → log_of v (cond b (l ∷ m ∷ ls) (m ∷ insert_by log_before l ls)) ≡ log_of v (m ∷ ls)
    by true rest = ap (λ b. cond b (Some l) (log_of v (m ∷ ls))) other
    by false rest = ap (λ (o : Option Log). cond (is_log_of v m) (Some m) o) rest

module _ (t : VolumeTable) (extent : ℕ) where
  pub none_read : AreReadOf t extent [] []
  none_read = record { found = λ d i. absurd i; from = λ l i. absurd i }

  -- a disk that has none to read
  one_skipped : (ds : List DiskPieces) (ls : List Log) (d : DiskPieces) → AreReadOf t extent ds ls → is_to_read t ls d ≡ false → filled_extents t d.disk ≡ (log_of d.disk ls >>= λ l. Some l.extents)
  one_skipped ds ls d read not_there = by (log_of d.disk ls) refl (filled_extents t d.disk) refl not_there
    where
      by : (o : Option Log) → log_of d.disk ls ≡ o → (e : Option ℕ) → filled_extents t d.disk ≡ e → (is_some e && is_none o) ≡ false → e ≡ (o >>= λ l. Some l.extents)
      by (Some l) found e is skipped =
          let w = find-some (is_log_of d.disk) ls l found in
          let f = read.from l w.0 in
          let own : l.disk ≡ d.disk = bytes_eq-same l.disk d.disk w.1 in
          sym is ∙ ap (filled_extents t) (sym own ∙ f.2.own) ∙ f.2.extents
      by None found None is skipped = refl
      by None found (Some n) is skipped = absurd (true≢false skipped)

  behind_skipped : (ds : List DiskPieces) (ls : List Log) (d : DiskPieces) → AreReadOf t extent ds ls → is_to_read t ls d ≡ false → AreReadOf t extent (ds ++ d ∷ []) ls
  behind_skipped ds ls d read not_there = record {
    found = λ e i. by e (In-append ds (d ∷ []) e i);
    from = λ l i. let f = read.from l i in (f.0, In-left ds (d ∷ []) f.0 f.1, f.2);
  }
    where
      by : (e : DiskPieces) → In e ds ⊎ In e (d ∷ []) → filled_extents t e.disk ≡ (log_of e.disk ls >>= λ l. Some l.extents)
      by e (inl i) = read.found e i
      by e (inr (inl same)) = subst (λ (x : DiskPieces). filled_extents t x.disk ≡ (log_of x.disk ls >>= λ l. Some l.extents)) (sym same) (one_skipped ds ls d read not_there)
      by e (inr (inr none)) = absurd none

  behind_read : (ds : List DiskPieces) (ls : List Log) (d : DiskPieces) (l : Log) → AreReadOf t extent ds ls → log_of l.disk ls ≡ None → IsReadOf t extent d.disk d.pieces l → AreReadOf t extent (ds ++ d ∷ []) (with_log l ls)
  unfolding with_log
  behind_read ds ls d l read absent is = record {
    found = λ e i. of e (is_log_of e.disk l) refl (In-append ds (d ∷ []) e i);
    from = λ m i. ⊎_elim
        (λ same. (d, last (In-here d), subst (IsReadOf t extent d.disk d.pieces) (sym same) is))
        (λ old. let f = read.from m old in (f.0, In-left ds (d ∷ []) f.0 f.1, f.2)) (In-insert log_before l ls m i);
  }
    where
      In-here : (x : DiskPieces) → In x (x ∷ [])
      In-here x = inl refl

      last : In d (d ∷ []) → In d (ds ++ d ∷ [])
      last i = In-right ds (d ∷ []) d i

      mine : (v : List ℕ) → l.disk ≡ v → filled_extents t v ≡ (log_of v (insert_by log_before l ls) >>= λ l. Some l.extents)
      mine v own =
          ap (filled_extents t) (sym own ∙ is.own) ∙ is.extents
          ∙ sym (ap (λ (o : Option Log). o >>= λ l. Some l.extents) (subst (λ w. log_of w (insert_by log_before l ls) ≡ Some l) own (found_new l ls absent)))

      of : (e : DiskPieces) → (b : Bool) → is_log_of e.disk l ≡ b → In e ds ⊎ In e (d ∷ []) → filled_extents t e.disk ≡ (log_of e.disk (insert_by log_before l ls) >>= λ l. Some l.extents)
      of e true own i = mine e.disk (bytes_eq-same l.disk e.disk own)
      of e false other (inl i) = read.found e i ∙ sym (ap (λ (o : Option Log). o >>= λ l. Some l.extents) (found_other e.disk l ls other))
      of e false other (inr (inl same)) = absurd (true≢false (sym (subst (λ (x : DiskPieces). is_log_of x.disk l ≡ true) (sym same) (subst (λ v. is_log_of v l ≡ true) is.own (bytes_eq-refl l.disk))) ∙ other))
      of e false other (inr (inr none)) = absurd none

  -- the next of some disks
  pub next_skipped : (ds : List DiskPieces) (i : ℕ) (ls : List Log) (d : DiskPieces) → i < length ds → d ≡ get_or ds i d → AreReadOf t extent (take i ds) ls → is_to_read t ls d ≡ false → AreReadOf t extent (take (i + 1) ds) ls
  next_skipped ds i ls d below here read not_there = subst (λ es. AreReadOf t extent es ls) (sym (take_next ds i d below here)) (behind_skipped (take i ds) ls d read not_there)

  pub next_read : (ds : List DiskPieces) (i : ℕ) (ls : List Log) (d : DiskPieces) (l : Log) → i < length ds → d ≡ get_or ds i d → AreReadOf t extent (take i ds) ls → log_of l.disk ls ≡ None → IsReadOf t extent d.disk d.pieces l
      → AreReadOf t extent (take (i + 1) ds) (with_log l ls)
  next_read ds i ls d l below here read absent is = subst (λ es. AreReadOf t extent es (with_log l ls)) (sym (take_next ds i d below here)) (behind_read (take i ds) ls d l read absent is)

  pub all_read : (ds : List DiskPieces) (i : ℕ) (ls : List Log) → length ds ≤ i → AreReadOf t extent (take i ds) ls → AreReadOf t extent ds ls
  all_read ds i ls past read = subst (λ es. AreReadOf t extent es ls) (take_all i ds past) read
