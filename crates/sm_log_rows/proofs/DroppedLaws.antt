-- Logs that are new, or whose disk is not there, go one after the other.
use Rattle.std.proofs.Common.{◌≡◌, ℕ, suc, ◌<◌, ◌≤◌, ◌^◌, ◌⊎◌, ◌||◌, inl, inr, Bool, true, false, cond, not, List, [], ◌∷◌, length, map, Option, Some, None, is_some, refl, sym, ap, subst, ◌∙◌, arith, zero, take}
use Rattle.std.proofs.Math.Path.{fun_ext}
use Rattle.std.specs.List.{AllByRecursion, filter, find}
use Rattle.std.specs.List.Sorted.{IsStrictlySortedBy}
use Rattle.std.specs.declared.cmp.Ordering.TheVariants.{Less}
use Rattle.std.proofs.lemmas.Bool.{true≢false}
use Rattle.std.proofs.lemmas.Option.{none-some, same_Some}
use Rattle.common_laws.specs.Lists.{In}
use Rattle.common_laws.proofs.Lists.{In-map_at, find-some, none_find}
use Rattle.sm_base.specs.Kinds.{is_log}
use Rattle.sm_base.specs.Names.{name_cmp}
use Rattle.sm_base.specs.declared.names.Name.{Name}
use Rattle.sm_base.specs.declared.names.Name.TheVariants.{Mgt, Vhd, Raw, Old, Cbt, Clone, Inflate, Coalesce, Relink, Leaf}
use Rattle.vg_meta.specs.Changes.{Permits, applied, without}
use Rattle.vg_meta.specs.Tables.{IsTable, Row, VolumeTable, name_eq, names_of, row_of, rows}
use Rattle.vg_meta.specs.Text.{text}
use Rattle.vg_meta.specs.declared.changes.Change.{Change}
use Rattle.vg_meta.specs.declared.changes.Change.TheVariants.{Remove}
use Rattle.vg_meta.proofs.ChangeLaws.{IsTable-applied}
use Rattle.vg_meta.proofs.GrowthLaws.{volumes-without}
use Rattle.vg_meta.proofs.NameLaws.{less_other, name_eq-other, name_eq-same, name_eq-true}
use Rattle.vg_meta.proofs.SpliceLaws.{length-without}
use Rattle.vg_meta.proofs.WriteLaws.{length-text}
use Rattle.sm_standing.specs.Checks.{first_name, name_in}
use Rattle.sm_standing.specs.Opened.{applied_all}
use Rattle.sm_standing.specs.Dropped.{drop_changes, dropped, first_useless, is_useless, is_useless_as}
use Rattle.sm_standing.proofs.LogLaws.{found_row}
use Rattle.sm_log_rows.specs.LogRows.{AreApartFromLogs, IsDropping}
use Rattle.sm_log_rows.proofs.ApartLaws.{standing_alike}
use Rattle.sm_log_rows.proofs.ChangedLaws.{apart_from_logs, less_in}

-- ---- apart from logs, one after the other

pub apart_itself : (a : VolumeTable) → AreApartFromLogs a a
apart_itself a = record { same = λ n other. refl; kept = λ t none. refl; among = λ r i. inr i; spoken = refl; later = omega arith }

pub apart_then : (a b c : VolumeTable) → AreApartFromLogs a b → AreApartFromLogs b c → AreApartFromLogs a c
apart_then a b c k l = record {
  same = λ n other. l.same n other ∙ k.same n other;
  kept = λ t none. l.kept t none ∙ k.kept t none;
  among = λ r i. by r (l.among r i);
  spoken = l.spoken ∙ k.spoken;
  later = omega (arith, k.later, l.later);
}
  where
    by : (r : Row) → (is_log r.name ≡ true) ⊎ In r b.volumes → (is_log r.name ≡ true) ⊎ In r a.volumes
    by r (inl log) = inl log
    by r (inr i) = k.among r i

-- ---- the first of them

pub record HasUseless (t : VolumeTable) (n : Name) : Type 0 where
  pub held : Row
  pub here : In held t.volumes
  pub named : held.name ≡ n
  pub useless : is_useless t held ≡ true
  pub log : is_log n ≡ true

is_of_log : (t : VolumeTable) (fresh : Bool) (n : Name) → is_useless_as t fresh n ≡ true → is_log n ≡ true
is_of_log t fresh (Cbt u) e = refl
is_of_log t fresh Mgt e = absurd (true≢false (sym e))
is_of_log t fresh (Vhd u) e = absurd (true≢false (sym e))
is_of_log t fresh (Raw u) e = absurd (true≢false (sym e))
is_of_log t fresh (Old u) e = absurd (true≢false (sym e))
is_of_log t fresh (Clone d b w) e = absurd (true≢false (sym e))
is_of_log t fresh (Inflate u k) e = absurd (true≢false (sym e))
is_of_log t fresh (Coalesce v p) e = absurd (true≢false (sym e))
is_of_log t fresh (Relink v p) e = absurd (true≢false (sym e))
is_of_log t fresh (Leaf v p) e = absurd (true≢false (sym e))

pub has_useless : (t : VolumeTable) (n : Name) → first_useless t ≡ Some n → HasUseless t n
unfolding first_name
has_useless t n e = by (find (is_useless t) t.volumes) refl e
  where
    by : (o : Option Row) → find (is_useless t) t.volumes ≡ o → name_in o ≡ Some n → HasUseless t n
    by None is e = absurd (none-some n e)
    by (Some r) is e =
        let w = find-some (is_useless t) t.volumes r is in
        let named : r.name ≡ n = same_Some r.name n e in
        record { held = r; here = w.0; named = named; useless = w.1; log = ap is_log (sym named) ∙ is_of_log t r.fresh r.name w.1 }

pub apart_dropped : (t : VolumeTable) (n : Name) → t.sequence < 2 ^ 48 → first_useless t ≡ Some n → AreApartFromLogs t (applied t (Remove n))
apart_dropped t n low e = apart_from_logs t (Remove n) (has_useless t n e).log low

-- it may go
pub may_drop : (count : ℕ) (t : VolumeTable) (n : Name) → IsTable count t → first_useless t ≡ Some n → Permits count t (Remove n)
may_drop count t n table e =
    let h = has_useless t n e in
    record {
      row = h.held;
      there = ap (rows t) (sym h.named) ∙ found_row t.volumes table.volumes.rising h.held h.here;
      not_mgt = λ (is : n ≡ Mgt). true≢false (sym h.log ∙ ap is_log is);
    }

-- the same logs are useless behind it
useless_alike : (a b : VolumeTable) → AreApartFromLogs a b → (fresh : Bool) (n : Name) → is_useless_as b fresh n ≡ is_useless_as a fresh n
useless_alike a b k fresh (Cbt u) = ap (λ (o : Option Name). fresh || not (is_some o)) (standing_alike a b k u)
useless_alike a b k fresh _ = refl

pub useless_same : (a b : VolumeTable) → AreApartFromLogs a b → is_useless b ≡ is_useless a
useless_same a b k = fun_ext (λ r. useless_alike a b k r.fresh r.name)

-- ---- one less

kept_less : (test : Row → Bool) (n : Name) (rs : List Row) (r : Row) → row_of rs n ≡ Some r → test r ≡ true → filter (λ r. not (test r)) (without n rs) ≡ filter (λ r. not (test r)) rs
unfolding without row_of
kept_less test n [] r there passes = absurd (none-some r there)
kept_less test n (s ∷ rs) r there passes = by (name_eq s.name n) there (λ later. kept_less test n rs r later passes)
  where
    by : (b : Bool) → cond b (Some s) (row_of rs n) ≡ Some r → (row_of rs n ≡ Some r → filter (λ r. not (test r)) (without n rs) ≡ filter (λ r. not (test r)) rs)
        → filter (λ r. not (test r)) (cond b rs (s ∷ without n rs)) ≡ filter (λ r. not (test r)) (s ∷ rs)
    by true is rest = sym (ap (λ d. cond (not d) (s ∷ filter (λ r. not (test r)) rs) (filter (λ r. not (test r)) rs)) (ap test (same_Some s r is) ∙ passes))
    by false is rest = ap (λ v. cond (not (test s)) (s ∷ v) v) (rest is)

-- what holds of each name holds of one of them
of_name : (P : Name → Type 0) (ns : List Name) (n : Name) → AllByRecursion P ns → In n ns → P n
of_name P [] n all i = absurd i
of_name P (m ∷ ns) n all (inl is) = subst P (sym is) all.0
of_name P (m ∷ ns) n all (inr i) = of_name P ns n all.1 i

-- those that pass are the first of them, and those of the others
first_less : (test : Row → Bool) (rs : List Row) (r : Row) → IsStrictlySortedBy name_cmp (names_of rs) → find test rs ≡ Some r → filter test rs ≡ r ∷ filter test (without r.name rs)
unfolding without IsStrictlySortedBy
first_less test [] r rising e = absurd (none-some r e)
first_less test (s ∷ rs) r rising e = by (test s) refl (λ later. first_less test rs r rising.1 later) e
  where
    other : find test rs ≡ Some r → name_eq s.name r.name ≡ false
    other later =
        let w = find-some test rs r later in
        name_eq-other s.name r.name (less_other s.name r.name (of_name (λ n. name_cmp s.name n ≡ Less) (names_of rs) r.name rising.0 (In-map_at (λ (q : Row). q.name) rs r w.0)))

    by : (b : Bool) → test s ≡ b → (find test rs ≡ Some r → filter test rs ≡ r ∷ filter test (without r.name rs)) → cond b (Some s) (find test rs) ≡ Some r
        → cond b (s ∷ filter test rs) (filter test rs) ≡ r ∷ filter test (cond (name_eq s.name r.name) rs (s ∷ without r.name rs))
    by true passes rest is =
        let same = same_Some s r is in
        ap (λ (q : Row). q ∷ filter test rs) same ∙ sym (ap (λ (b : Bool). r ∷ filter test (cond b rs (s ∷ without r.name rs))) (name_eq-same s.name r.name (ap (λ (q : Row). q.name) same)))
    by false fails rest is =
        rest is ∙ sym (ap (λ (b : Bool). r ∷ filter test (cond b rs (s ∷ without r.name rs))) (other is) ∙ ap (λ (b : Bool). r ∷ cond b (s ∷ filter test (without r.name rs)) (filter test (without r.name rs))) fails)

pub drop_first : (count : ℕ) (t : VolumeTable) (n : Name) → IsTable count t → first_useless t ≡ Some n → drop_changes t ≡ Remove n ∷ drop_changes (applied t (Remove n))
unfolding first_name
drop_first count t n table e = by (find (is_useless t) t.volumes) refl e
  where
    by : (o : Option Row) → find (is_useless t) t.volumes ≡ o → name_in o ≡ Some n → drop_changes t ≡ Remove n ∷ drop_changes (applied t (Remove n))
    by None is named = absurd (none-some n named)
    by (Some r) is named =
        let name : r.name ≡ n = same_Some r.name n named in
        ap (λ (rs : List Row). map (λ (q : Row). Remove q.name) rs) (first_less (is_useless t) t.volumes r table.volumes.rising is)
        ∙ ap (λ (m : Name). Remove m ∷ map (λ (q : Row). Remove q.name) (filter (is_useless t) (without m t.volumes))) name
        ∙ sym (ap (λ (test : Row → Bool). Remove n ∷ map (λ (q : Row). Remove q.name) (filter test (without n t.volumes))) (useless_same t (applied t (Remove n)) (apart_dropped t n table.sequence e)))

-- ---- the table is shorter, and so is its text

found-In : (rs : List Row) (r : Row) → In r rs → (s : Row) × (row_of rs r.name ≡ Some s)
unfolding row_of
found-In [] r i = absurd i
found-In (x ∷ rs) r (inl is) = (x, ap (λ (b : Bool). cond b (Some x) (row_of rs r.name)) (name_eq-same x.name r.name (ap (λ (q : Row). q.name) (sym is))))
found-In (x ∷ rs) r (inr i) = by (name_eq x.name r.name) (found-In rs r i)
  where
    by : (b : Bool) → (s : Row) × (row_of rs r.name ≡ Some s) → (s : Row) × (cond b (Some x) (row_of rs r.name) ≡ Some s)
    by true w = (x, refl)
    by false w = w

pub dropped_shorter : (t : VolumeTable) (n : Name) → first_useless t ≡ Some n → length (applied t (Remove n)).volumes < length t.volumes
dropped_shorter t n e =
    let h = has_useless t n e in
    let w = found-In t.volumes h.held h.here in
    omega (arith, length-without t.volumes n w.0 (ap (row_of t.volumes) (sym h.named) ∙ w.1))

pub removed_short : (t : VolumeTable) (n : Name) → length (text (applied t (Remove n))) ≤ length (text t)
removed_short t n = omega (arith, length-text t, length-text (applied t (Remove n)), volumes-without n t.volumes)

-- ---- none is left

none_left : (test : Row → Bool) (rs : List Row) → ((r : Row) → In r rs → test r ≡ false) → filter test rs ≡ []
none_left test [] fails = refl
none_left test (r ∷ rs) fails = ap (λ d. cond d (r ∷ filter test rs) (filter test rs)) (fails r (inl refl)) ∙ none_left test rs (λ s h. fails s (inr h))

all_left : (test : Row → Bool) (rs : List Row) → ((r : Row) → In r rs → test r ≡ false) → filter (λ r. not (test r)) rs ≡ rs
all_left test [] fails = refl
all_left test (r ∷ rs) fails =
    ap (λ d. cond (not d) (r ∷ filter (λ r. not (test r)) rs) (filter (λ r. not (test r)) rs)) (fails r (inl refl)) ∙ ap (λ v. r ∷ v) (all_left test rs (λ s h. fails s (inr h)))

pub none_useless : (t : VolumeTable) → first_useless t ≡ None → (r : Row) → In r t.volumes → is_useless t r ≡ false
unfolding first_name
none_useless t e = none_find (is_useless t) t.volumes (by (find (is_useless t) t.volumes) e)
  where
    by : (o : Option Row) → name_in o ≡ None → o ≡ None
    by None e = refl
    by (Some r) e = absurd (none-some r.name (sym e))

pub drop_none : (t : VolumeTable) → first_useless t ≡ None → drop_changes t ≡ []
drop_none t none = ap (λ (rs : List Row). map (λ (q : Row). Remove q.name) rs) (none_left (is_useless t) t.volumes (none_useless t none))

-- ---- behind all of them

head_same : {A : Type 0} (x y : A) (xs ys : List A) → x ∷ xs ≡ y ∷ ys → x ≡ y
head_same x y xs ys e = cc

tail_same : {A : Type 0} (x y : A) (xs ys : List A) → x ∷ xs ≡ y ∷ ys → xs ≡ ys
tail_same x y xs ys e = cc

record IsBehind (t u : VolumeTable) : Type 0 where
  apart : AreApartFromLogs t u
  volumes : u.volumes ≡ filter (λ r. not (is_useless t r)) t.volumes

behind_all : (count : ℕ) (cs : List Change) (t : VolumeTable) → IsTable count t → drop_changes t ≡ cs → IsBehind t (applied_all t cs)
behind_all count [] t table is = by (first_useless t) refl
  where
    by : (o : Option Name) → first_useless t ≡ o → IsBehind t t
    by None none = record { apart = apart_itself t; volumes = sym (all_left (is_useless t) t.volumes (none_useless t none)) }
    by (Some n) first = absurd (let e = sym is ∙ drop_first count t n table first in cc)
behind_all count (c ∷ cs) t table is = by (first_useless t) refl (λ u next rest. behind_all count cs u next rest)
  where
    on : (n : Name) → first_useless t ≡ Some n → c ≡ Remove n → drop_changes (applied t (Remove n)) ≡ cs
        → ((u : VolumeTable) → IsTable count u → drop_changes u ≡ cs → IsBehind u (applied_all u cs)) → IsBehind t (applied_all (applied t c) cs)
    on n first same rest further =
        let h = has_useless t n first in
        let there : rows t n ≡ Some h.held = ap (rows t) (sym h.named) ∙ found_row t.volumes table.volumes.rising h.held h.here in
        let next = IsTable-applied count t (Remove n) table (may_drop count t n table first) in
        let w = further (applied t (Remove n)) next rest in
        subst (λ (x : Change). IsBehind t (applied_all (applied t x) cs)) (sym same) (record {
          apart = apart_then t (applied t (Remove n)) _ (apart_dropped t n table.sequence first) w.apart;
          volumes = w.volumes ∙ ap (λ (test : Row → Bool). filter (λ r. not (test r)) (without n t.volumes)) (useless_same t (applied t (Remove n)) (apart_dropped t n table.sequence first))
              ∙ kept_less (is_useless t) n t.volumes h.held there h.useless;
        })

    by : (o : Option Name) → first_useless t ≡ o → ((u : VolumeTable) → IsTable count u → drop_changes u ≡ cs → IsBehind u (applied_all u cs)) → IsBehind t (applied_all (applied t c) cs)
    by None none further = absurd (let e = sym is ∙ drop_none t none in cc)
    by (Some n) first further =
        let both : c ∷ cs ≡ Remove n ∷ drop_changes (applied t (Remove n)) = sym is ∙ drop_first count t n table first in
        on n first (head_same c (Remove n) cs _ both) (sym (tail_same c (Remove n) cs _ both)) further

pub dropped_volumes : (count : ℕ) (t : VolumeTable) → IsTable count t → (dropped t).volumes ≡ filter (λ r. not (is_useless t r)) t.volumes
unfolding dropped
dropped_volumes count t table = (behind_all count (drop_changes t) t table refl).volumes

pub dropped_apart : (count : ℕ) (t : VolumeTable) → IsTable count t → AreApartFromLogs t (dropped t)
unfolding dropped
dropped_apart count t table = (behind_all count (drop_changes t) t table refl).apart

-- ---- behind some of them

less_keeps : (n : Name) (rs : List Row) (r : Row) → In r rs → name_eq r.name n ≡ false → In r (without n rs)
unfolding without
less_keeps n [] r i other = absurd i
less_keeps n (s ∷ rs) r i other = by (name_eq s.name n) refl (λ later. less_keeps n rs r later other) i
  where
    by : (b : Bool) → name_eq s.name n ≡ b → (In r rs → In r (without n rs)) → In r (s ∷ rs) → In r (cond b rs (s ∷ without n rs))
    by true is rest (inl same) = absurd (true≢false (sym is ∙ ap (λ (q : Row). name_eq q.name n) (sym same) ∙ other))
    by true is rest (inr later) = later
    by false is rest (inl same) = inl same
    by false is rest (inr later) = inr (rest later)

dropping_itself : (t : VolumeTable) → IsDropping t t
dropping_itself t = record { apart = apart_itself t; stays = λ r i useful. i; among = λ r i. i }

dropping_one : (count : ℕ) (t : VolumeTable) (n : Name) → IsTable count t → first_useless t ≡ Some n → IsDropping t (applied t (Remove n))
dropping_one count t n table first =
    let h = has_useless t n first in
    record {
      apart = apart_dropped t n table.sequence first;
      stays = λ r i useful. less_keeps n t.volumes r i (by r i useful (name_eq r.name n) refl);
      among = λ r i. less_in n r t.volumes i;
    }
  where
    by : (r : Row) → In r t.volumes → is_useless t r ≡ false → (b : Bool) → name_eq r.name n ≡ b → b ≡ false
    by r i useful false is = refl
    by r i useful true is =
        let h = has_useless t n first in
        let same : r ≡ h.held = same_Some r h.held (sym (found_row t.volumes table.volumes.rising r i) ∙ ap (rows t) (name_eq-true r.name n is ∙ sym h.named) ∙ found_row t.volumes table.volumes.rising h.held h.here) in
        absurd (true≢false (sym h.useless ∙ ap (is_useless t) (sym same) ∙ useful))

dropping_then : (t u v : VolumeTable) → IsDropping t u → IsDropping u v → IsDropping t v
dropping_then t u v d e = record {
  apart = apart_then t u v d.apart e.apart;
  stays = λ r i useful. e.stays r (d.stays r i useful) (ap (λ (test : Row → Bool). test r) (useless_same t u d.apart) ∙ useful);
  among = λ r i. d.among r (e.among r i);
}

pub record IsDroppedTo (count : ℕ) (t u : VolumeTable) : Type 0 where
  pub table : IsTable count u
  pub dropping : IsDropping t u

pub some_dropped : (count k : ℕ) (cs : List Change) (t : VolumeTable) → IsTable count t → drop_changes t ≡ cs → IsDroppedTo count t (applied_all t (take k cs))
some_dropped count zero cs t table is = subst (λ (v : List Change). IsDroppedTo count t (applied_all t v)) (sym (nothing cs)) (record { table = table; dropping = dropping_itself t })
  where
    nothing : (cs : List Change) → take 0 cs ≡ []
    nothing [] = refl
    nothing (c ∷ cs) = refl
some_dropped count (suc k) [] t table is = record { table = table; dropping = dropping_itself t }
some_dropped count (suc k) (c ∷ cs) t table is = by (first_useless t) refl (λ u next rest. some_dropped count k cs u next rest)
  where
    on : (n : Name) → first_useless t ≡ Some n → c ≡ Remove n → drop_changes (applied t (Remove n)) ≡ cs
        → ((u : VolumeTable) → IsTable count u → drop_changes u ≡ cs → IsDroppedTo count u (applied_all u (take k cs))) → IsDroppedTo count t (applied_all (applied t c) (take k cs))
    on n first same rest further =
        let next = IsTable-applied count t (Remove n) table (may_drop count t n table first) in
        let w = further (applied t (Remove n)) next rest in
        subst (λ (x : Change). IsDroppedTo count t (applied_all (applied t x) (take k cs))) (sym same)
        (record { table = w.table; dropping = dropping_then t (applied t (Remove n)) _ (dropping_one count t n table first) w.dropping })

    by : (o : Option Name) → first_useless t ≡ o → ((u : VolumeTable) → IsTable count u → drop_changes u ≡ cs → IsDroppedTo count u (applied_all u (take k cs)))
        → IsDroppedTo count t (applied_all (applied t c) (take k cs))
    by None none further = absurd (let e = sym is ∙ drop_none t none in cc)
    by (Some n) first further =
        let both : c ∷ cs ≡ Remove n ∷ drop_changes (applied t (Remove n)) = sym is ∙ drop_first count t n table first in
        on n first (head_same c (Remove n) cs _ both) (sym (tail_same c (Remove n) cs _ both)) further
