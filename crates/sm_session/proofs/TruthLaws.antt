-- What logs tell stays true, whatever a stop leaves of a command.
use Rattle.std.proofs.Common.{◌≡◌, ◌≢◌, ◌⊎◌, inl, inr, ⊎_elim, ℕ, zero, suc, ◌+◌, ◌/◌, ◌<◌, Bool, true, false, List, [], ◌∷◌, length, map, Option, Some, None, refl, sym, ap, ap₂, ◌∙◌, subst, arith}
use Rattle.std.proofs.lemmas.Bool.{cases_lt, true≢false}
use Rattle.std.proofs.lemmas.Option.{same_Some}
use Rattle.common_laws.specs.Lists.{In, Distinct, when}
use Rattle.common_laws.proofs.Bytes.{bytes_eq-same}
use Rattle.common_laws.proofs.Lists.{Distinct-key, In-filter, In-insert, In-map}
use Rattle.sm_log.specs.Logs.{Log, begun_anew, bit, is_log_of, log_before, log_of, new_log, on_log, piece_sectors, touched, twin_log, with_log, without_log}
use Rattle.sm_log.specs.Told.{Follows, HasMore, HaveMore, Showing, Tells}
use Rattle.sm_log.proofs.LineLaws.{have_more}
use Rattle.sm_log.proofs.TellLaws.{tells_anew, tells_elsewhere, tells_twin}
use Rattle.sm_machine.proofs.LogLists.{log_found, no_log}
use Rattle.sm_standing.specs.Contents.{Content}
use Rattle.sm_standing.specs.Logs.{IsLogged, log_at}
use Rattle.sm_tracking.specs.Tracking.{AreBetween, IsLogBetween, IsLoggedBetween}
use Rattle.sm_session.specs.Truth.{StandIn}

-- ---- logs with more bits, and logs that begin

-- each of these logs has the bits of one of those and more, or it has no tag and was begun at no snapshot
abbrev pub HaveMoreOrBegin : List Log → List Log → Type 0
HaveMoreOrBegin ls ms = (m : Log) → In m ms → ((l : Log) × In l ls × HasMore l m) ⊎ ((m.tag ≡ 0) × (m.since ≡ 0))

-- their disks show nothing new
pub tells_from : (old new : Showing) (ls ms : List Log) → Tells old ls → HaveMoreOrBegin ls ms → ((m : Log) (k : ℕ) (x : List ℕ) → In m ms → new m.disk k x → old m.disk k x) → Tells new ms
tells_from old new ls ms h from less a b k x y in_a in_b f sx sy ne = elim (from a in_a) [
  | inr n ↦ absurd (f.tagged n.0)
  | inl p ↦ elim (from b in_b) [
    | inr n ↦ absurd (f.tagged (sym f.since ∙ n.1))
    | inl q ↦
        let follows : Follows p.0 q.0 = record { tagged = λ e. f.tagged (p.2.tag ∙ e); since = sym q.2.since ∙ f.since ∙ p.2.tag } in
        q.2.bits (k / piece_sectors) (h p.0 q.0 k x y p.1 q.1 follows
        (subst (λ (u : List ℕ). old u k x) p.2.disk (less a k x in_a sx)) (subst (λ (u : List ℕ). old u k y) q.2.disk (less b k y in_b sy)) ne)
  ]
]

pub more_same : (l : Log) → HasMore l l
more_same l = record { disk = refl; tag = refl; since = refl; bits = λ k h. h }

-- ---- bits

-- a bit that is set is one of the bits
set_within : (bits : List Bool) (k : ℕ) → bit bits k ≡ true → k < length bits
set_within [] k e = absurd (true≢false (sym e))
set_within (b ∷ bits) zero e = omega arith
set_within (b ∷ bits) (suc k) e = let i : k < length bits = set_within bits k e in omega (arith, i)

bits_same : (xs ys : List Bool) → length xs ≡ length ys → ((k : ℕ) → k < length ys → bit xs k ≡ bit ys k) → xs ≡ ys
bits_same [] [] long each = refl
bits_same [] (y ∷ ys) long each = absurd (omega (arith, long))
bits_same (x ∷ xs) [] long each = absurd (omega (arith, long))
bits_same (x ∷ xs) (y ∷ ys) long each =
    ap₂ (λ (b : Bool) (bs : List Bool). b ∷ bs) (each 0 (omega arith)) (bits_same xs ys (omega (arith, long)) (λ k h. each (suc k) (omega (arith, h))))

-- what is between a log and itself is that log
between_same : (m l : Log) → IsLogBetween m m l → l ≡ m
between_same m l b =
    ap (λ (u : List ℕ). let z : Log = record { disk = u; extents = l.extents; tag = l.tag; since = l.since; bits = l.bits } in z) b.disk
    ∙ ap (λ (n : ℕ). let z : Log = record { disk = m.disk; extents = n; tag = l.tag; since = l.since; bits = l.bits } in z) b.extents
    ∙ ap (λ (n : ℕ). let z : Log = record { disk = m.disk; extents = m.extents; tag = n; since = l.since; bits = l.bits } in z) b.tag
    ∙ ap (λ (n : ℕ). let z : Log = record { disk = m.disk; extents = m.extents; tag = m.tag; since = n; bits = l.bits } in z) b.since
    ∙ ap (λ (bs : List Bool). let z : Log = record { disk = m.disk; extents = m.extents; tag = m.tag; since = m.since; bits = bs } in z)
    (bits_same l.bits m.bits b.pieces (λ k h. ⊎_elim (λ e. e) (λ e. e) (b.bits k h)))

-- ---- logs that a stop leaves

-- logs of before and after for a disk, and one between them
pub record IsWithinBoth (old new : List Log) (l : Log) : Type 0 where
  pub was : Log
  pub now : Log
  pub in_old : In was old
  pub in_new : In now new
  pub was_own : was.disk ≡ l.disk
  pub now_own : now.disk ≡ l.disk
  pub between : IsLogBetween was now l

-- a log that is left is one from before, one from after, or between two of one disk
pub origin : (c : Content) (old new : List Log) → IsLoggedBetween c old new → (l : Log) → log_at c l.disk ≡ Some l → In l old ⊎ (In l new ⊎ IsWithinBoth old new l)
origin c old new logged l is =
    let w = logged l.disk in
    let same : w.0 ≡ Some l = sym w.1.read ∙ is in
    ⊎_elim (λ e. inl (log_found l.disk old l (sym e ∙ same)).0)
    (λ v. ⊎_elim (λ e. inr (inl (log_found l.disk new l (sym e ∙ same)).0))
    (λ b. inr (inr (by (log_of l.disk old) (log_of l.disk new) refl refl (subst (AreBetween (log_of l.disk old) (log_of l.disk new)) same b)))) v) w.2
  where
    by : (x y : Option Log) → log_of l.disk old ≡ x → log_of l.disk new ≡ y → AreBetween x y (Some l) → IsWithinBoth old new l
    by None y is_x is_y b = absurd b
    by (Some m) None is_x is_y b = absurd b
    by (Some m) (Some k) is_x is_y b =
        let p = log_found l.disk old m is_x in
        let q = log_found l.disk new k is_y in
        record { was = m; now = k; in_old = p.0; in_new = q.0; was_own = p.1; now_own = q.1; between = b }

-- logs that are those of a list
pub logged_in : (c : Content) (ls ms : List Log) → IsLogged c ls → StandIn c ms → (m : Log) → In m ms → In m ls
logged_in c ls ms logged stand m i = (log_found m.disk ls m (sym (logged m.disk).read ∙ stand m i)).0

-- each log from after has the bits of one from before and more, or it begins for a disk that had none
abbrev pub Grow : List Log → List Log → Type 0
Grow old new = (n : Log) → In n new → ((o : Log) × In o old × HasMore o n) ⊎ ((n.tag ≡ 0) × (n.since ≡ 0) × ((o : Log) → In o old → o.disk ≡ n.disk → ⊥))

-- so it is with what is left
pub grown_left : (c : Content) (old new ls : List Log) → Distinct (map (λ (l : Log). l.disk) old) → Grow old new → IsLoggedBetween c old new → StandIn c ls → HaveMoreOrBegin old ls
grown_left c old new ls distinct grow logged stand l i = ⊎_elim
    (λ early. inl (l, early, more_same l))
    (λ v. ⊎_elim (λ late. ⊎_elim (λ w. inl w) (λ w. inr (w.0, w.1)) (grow l late)) (λ both. inl (both.was, both.in_old, more both)) v)
    (origin c old new logged l (stand l i))
  where
    more : (b : IsWithinBoth old new l) → HasMore b.was l
    more b = ⊎_elim by (λ w. absurd (w.2 b.was b.in_old (b.was_own ∙ sym b.now_own))) (grow b.now b.in_new)
      where
        by : ((o : Log) × In o old × HasMore o b.now) → HasMore b.was l
        by w =
            let one : w.0 ≡ b.was = Distinct-key (λ (x : Log). x.disk) old w.0 b.was distinct w.1 b.in_old (sym w.2.disk ∙ b.now_own ∙ sym b.was_own) in
            let h : HasMore b.was b.now = subst (λ (x : Log). HasMore x b.now) one w.2 in
            record {
              disk = b.between.disk;
              tag = b.between.tag;
              since = b.between.since ∙ h.since;
              bits = λ k set. ⊎_elim (λ e. e ∙ set) (λ e. e ∙ h.bits k set) (b.between.bits k (set_within b.was.bits k set));
            }

-- marks, and a log that begins
pub marks_grow : (u : List ℕ) (sector count : ℕ) (logs : List Log) → Grow logs (on_log u (touched sector count) logs)
marks_grow u sector count logs n i = inl (have_more u sector count logs n i)

pub with_grow : (n : Log) (logs : List Log) → log_of n.disk logs ≡ None → n.tag ≡ 0 → n.since ≡ 0 → Grow logs (with_log n logs)
unfolding with_log
with_grow n logs absent tag since m i = ⊎_elim
    (λ e. inr (ap (λ (l : Log). l.tag) e ∙ tag, ap (λ (l : Log). l.since) e ∙ since, λ o j same. no_log n.disk logs o absent j (same ∙ ap (λ (l : Log). l.disk) e)))
    (λ j. inl (m, j, more_same m)) (In-insert log_before n logs m i)

-- where a log goes, each that is left is one from before
pub without_left : (c : Content) (u : List ℕ) (logs ls : List Log) → Distinct (map (λ (l : Log). l.disk) logs) → IsLoggedBetween c logs (without_log u logs) → StandIn c ls → (l : Log) → In l ls → In l logs
without_left c u logs ls distinct logged stand l i = ⊎_elim (λ early. early) (λ v. ⊎_elim (λ late. old l late) both v) (origin c logs (without_log u logs) logged l (stand l i))
  where
    old : (x : Log) → In x (without_log u logs) → In x logs
    old x j = (In-filter _ logs x j).0

    both : IsWithinBoth logs (without_log u logs) l → In l logs
    both b =
        let one : b.now ≡ b.was = Distinct-key (λ (x : Log). x.disk) logs b.now b.was distinct (old b.now b.in_new) b.in_old (b.now_own ∙ sym b.was_own) in
        subst (λ (x : Log). In x logs) (sym (between_same b.was l (subst (λ (x : Log). IsLogBetween b.was x l) one b.between))) b.in_old

-- ---- logs of a split

-- the snapshot's log, one from before, or the disk's once it began anew
abbrev pub IsOfSplit : List ℕ → Log → Log → ℕ → List Log → Log → Type 0
IsOfSplit u own twin tag logs l = (l ≡ twin) ⊎ (In l logs ⊎ ((l.disk ≡ own.disk) × (l.tag ≡ own.tag) × (l.since ≡ tag)))

module _ (u twin : List ℕ) (tag : ℕ) (own : Log) (logs : List Log) (found : log_of u logs ≡ Some own) (distinct : Distinct (map (λ (l : Log). l.disk) logs)) (absent : log_of twin logs ≡ None) where
  abbrev its : List Log
  its = with_log (twin_log twin tag own) (on_log u (begun_anew tag) logs)

  own_found : In own logs × (own.disk ≡ u)
  own_found = log_found u logs own found

  -- one that is changed in the split
  is_anew : (x l : Log) → In x logs → (b : Bool) → is_log_of u x ≡ b → l ≡ when b (begun_anew tag) x → (In l logs × (l ≡ x)) ⊎ ((x ≡ own) × (l ≡ begun_anew tag own))
  is_anew x l i true e is =
      let one : x ≡ own = Distinct-key (λ (y : Log). y.disk) logs x own distinct i own_found.0 (bytes_eq-same x.disk u e ∙ sym own_found.1) in
      inr (one, is ∙ ap (begun_anew tag) one)
  is_anew x l i false e is = inl (subst (λ (y : Log). In y logs) (sym is) i, is)

  each_of : (l : Log) → In l its → (l ≡ twin_log twin tag own) ⊎ (In l logs ⊎ (l ≡ begun_anew tag own))
  unfolding with_log
  each_of l i = ⊎_elim (λ e. inl e)
      (λ j. let w = In-map (λ (x : Log). when (is_log_of u x) (begun_anew tag) x) logs l j in ⊎_elim (λ v. inr (inl v.0)) (λ v. inr (inr v.1)) (is_anew w.0 l w.1 (is_log_of u w.0) refl w.2))
      (In-insert log_before (twin_log twin tag own) (on_log u (begun_anew tag) logs) l i)

  pub split_left : (c : Content) (ls : List Log) → IsLoggedBetween c logs its → StandIn c ls → (l : Log) → In l ls → IsOfSplit u own (twin_log twin tag own) tag logs l
  split_left c ls logged stand l i = ⊎_elim
      (λ early. inr (inl early))
      (λ v. ⊎_elim (λ late. new_kind l late) both v) (origin c logs its logged l (stand l i))
    where
      new_kind : (n : Log) → In n its → IsOfSplit u own (twin_log twin tag own) tag logs n
      new_kind n j = ⊎_elim (λ e. inl e) (λ v. ⊎_elim (λ k. inr (inl k)) (λ e. inr (inr (ap (λ (x : Log). x.disk) e, ap (λ (x : Log). x.tag) e, ap (λ (x : Log). x.since) e))) v) (each_of n j)

      both : IsWithinBoth logs its l → IsOfSplit u own (twin_log twin tag own) tag logs l
      both b = ⊎_elim
          (λ e. absurd (no_log twin logs b.was absent b.in_old (b.was_own ∙ sym b.now_own ∙ ap (λ (x : Log). x.disk) e)))
          (λ v. ⊎_elim (λ k. same k) anew v) (each_of b.now b.in_new)
        where
          same : In b.now logs → IsOfSplit u own (twin_log twin tag own) tag logs l
          same k =
              let one : b.now ≡ b.was = Distinct-key (λ (x : Log). x.disk) logs b.now b.was distinct k b.in_old (b.now_own ∙ sym b.was_own) in
              inr (inl (subst (λ (x : Log). In x logs) (sym (between_same b.was l (subst (λ (x : Log). IsLogBetween b.was x l) one b.between))) b.in_old))

          anew : b.now ≡ begun_anew tag own → IsOfSplit u own (twin_log twin tag own) tag logs l
          anew e =
              let one : b.was ≡ own = Distinct-key (λ (x : Log). x.disk) logs b.was own distinct b.in_old own_found.0 (b.was_own ∙ sym b.now_own ∙ ap (λ (x : Log). x.disk) e) in
              inr (inr (b.between.disk ∙ ap (λ (x : Log). x.disk) one, b.between.tag ∙ ap (λ (x : Log). x.tag) one, b.between.since ∙ ap (λ (x : Log). x.since) e))

  -- the snapshot shows what the disk shows, and nothing else
  pub tells_left : (shows : Showing) (ls : List Log) → Tells shows logs → ((l : Log) → In l logs → (l.tag < tag) × (l.since < tag))
      → ((k : ℕ) (x : List ℕ) → shows twin k x → shows u k x) → ((k : ℕ) (x y : List ℕ) → shows twin k x → shows u k y → x ≡ y)
      → ((l : Log) → In l ls → IsOfSplit u own (twin_log twin tag own) tag logs l) → Tells shows ls
  tells_left shows ls h below less same each =
      tells_anew shows twins ls own tag twin beside tagged (λ k x y sx sy. same k x y sx (subst (λ (v : List ℕ). shows v k y) own_found.1 sy))
      (λ l i. ⊎_elim (λ e. inl (inl e)) (λ v. ⊎_elim (λ j. inl (inr j)) (λ w. inr w) v) (each l i)) (inr own_found.0)
    where
      twins : List Log
      twins = twin_log twin tag own ∷ logs

      beside : Tells shows twins
      beside = tells_twin shows logs twins own twin tag h own_found.0 (λ m i. (below m i).1) (λ k x s. subst (λ (v : List ℕ). shows v k x) (sym own_found.1) (less k x s)) (λ m i. i)

      tagged : (m : Log) → In m twins → m.tag ≡ tag → m.disk ≡ twin
      tagged m (inl e) t = ap (λ (x : Log). x.disk) e
      tagged m (inr i) t = let lower : m.tag < tag = (below m i).0 in absurd (omega arith)
