-- The logs of a content, one by one and as a list, and what the check of them says.
use Rattle.std.proofs.Common.{◌≡◌, ◌≢◌, ℕ, ◌*◌, ◌≤◌, ◌⊎◌, inl, inr, ⊎_elim, Bool, true, false, not, ◌&&◌, ◌||◌, ◌==◌, cond, List, [], ◌∷◌, length, map, Option, Some, None, is_some, refl, sym, ap, ap₂, subst, ◌∙◌}
use Rattle.std.specs.Prelude.{IsSome, if◌then◌else◌}
use Rattle.std.specs.List.{AllByRecursion, filter, filter_map, find, list_any}
use Rattle.std.specs.List.Sorted.{IsStrictlySortedBy}
use Rattle.std.specs.Ordering.{is_lt, ordering_reverse}
use Rattle.std.specs.declared.cmp.Ordering.{Ordering}
use Rattle.std.specs.declared.cmp.Ordering.TheVariants.{Less, Equal, Greater}
use Rattle.std.proofs.lemmas.Bool.{true≢false, and_parts, eq-eqb, eqb-true, leb-true, ne_eqb}
use Rattle.std.proofs.lemmas.Cmp.{nat_list_cmp_total}
use Rattle.std.proofs.lemmas.Map.Lookups.{exact_bytes}
use Rattle.std.proofs.lemmas.Option.{none-some, same_Some}
use Rattle.common_laws.specs.Lists.{In, numbers, ◌>>=◌}
use Rattle.common_laws.proofs.Booleans.{not_false, not_true}
use Rattle.common_laws.proofs.Bytes.{bytes_eq-same, bytes_eq-refl}
use Rattle.common_laws.proofs.Lists.{In-filter, filter-In, In-map, In-map_at, find-some, find-none}
use Rattle.sm_base.specs.Names.{IsName, IsUuid, name_cmp}
use Rattle.sm_base.specs.declared.faults.Place.{Place}
use Rattle.sm_base.specs.declared.faults.Place.TheVariants as at
use Rattle.sm_base.specs.declared.names.Name.{Name}
use Rattle.sm_base.specs.declared.names.Name.TheVariants.{Mgt, Vhd, Raw, Old, Cbt, Clone, Inflate, Coalesce, Relink, Leaf}
use Rattle.sm_base.proofs.LogOrder.{logs_less}
use Rattle.sm_base.proofs.OrderLemmas.{name_cmp_total, name_cmp-itself}
use Rattle.sm_log.specs.Heads.{head_in}
use Rattle.sm_log.specs.Logs.{Log, is_log_of, log_of, log_sectors}
use Rattle.sm_log.specs.declared.heads.Head.{Head}
use Rattle.vg_meta.specs.Tables.{IsTable, IsVolume, Row, extents_of, names_of, row_of}
use Rattle.vg_meta.proofs.NameLaws.{less_other, name_eq-other, name_eq-same}
use Rattle.vg_meta.proofs.RowLaws.{All-row_of, row_of-name}
use Rattle.sm_standing.specs.Checks.{first_name, name_in, placed}
use Rattle.sm_standing.specs.Contents.{Content, row, sectors_of, size_of}
use Rattle.sm_standing.specs.LogChecks.{AreLogsOfDisks, AreRightLogs, IsFirstWrong, IsRightLog, is_log_right, is_log_wrong, is_tag_met, is_wrong_log, log_fault, log_wrong_as, logs_before, standing_pieces}
use Rattle.sm_standing.specs.Logs.{IsLogged, bit_in, log_at, log_in, log_named, log_read, logs, logs_in}
use Rattle.sm_standing.specs.Ordered.{Rising, uuid_cmp}
use Rattle.sm_standing.specs.Standing.{standing_volume}
use Rattle.sm_standing.proofs.DisksShown.{row_of-In}
use Rattle.sm_standing.proofs.FaultLaws.{named_none}
use Rattle.sm_standing.proofs.Orders.{In-filter_map, filter_map-In, not_both, not_itself, rising-filter_map}

-- ---- one log

-- a log that was read is of its disk, and has the extents of its volume
pub record HasRead (u : List ℕ) (n : ℕ) (l : Log) : Type 0 where
  pub own : l.disk ≡ u
  pub long : l.extents ≡ n

read_of : (u : List ℕ) (n : ℕ) (f : ℕ → List ℕ) (l : Log) → log_read u n f ≡ Some l → HasRead u n l
unfolding log_read
read_of u n f l e = by (head_in (f 0)) e
  where
    read : Head → Log
    read h = record { disk = u; extents = n; tag = h.tag; since = h.since; bits = map (bit_in f) (numbers 0 h.pieces) }

    by : (o : Option Head) → (o >>= λ h. Some (read h)) ≡ Some l → HasRead u n l
    by None e = absurd (none-some l e)
    by (Some h) e = let is = same_Some (read h) l e in record { own = ap (λ (x : Log). x.disk) (sym is); long = ap (λ (x : Log). x.extents) (sym is) }

-- the volume of a disk's log
pub record HasVolume (c : Content) (u : List ℕ) (l : Log) : Type 0 where
  pub held : Row
  pub there : row c (Cbt u) ≡ Some held
  pub filled : held.fresh ≡ false
  pub own : l.disk ≡ u
  pub long : l.extents ≡ length held.extents

pub has_volume : (c : Content) (u : List ℕ) (l : Log) → log_at c u ≡ Some l → HasVolume c u l
unfolding log_at
has_volume c u l e = by (row c (Cbt u)) refl e
  where
    of : (r : Row) → row c (Cbt u) ≡ Some r → (b : Bool) → r.fresh ≡ b → (if b then None else log_read u (length r.extents) (sectors_of c (Cbt u))) ≡ Some l → HasVolume c u l
    of r is true new e = absurd (none-some l e)
    of r is false full e = let w = read_of u (length r.extents) (sectors_of c (Cbt u)) l e in record { held = r; there = is; filled = full; own = w.own; long = w.long }

    by : (o : Option Row) → row c (Cbt u) ≡ o → (o >>= λ r. log_in c u r) ≡ Some l → HasVolume c u l
    by None is e = absurd (none-some l e)
    by (Some r) is e = of r is r.fresh refl e

-- the log of a volume's name is that of its disk
pub log_of_name : (c : Content) (n : Name) (l : Log) → log_named c n ≡ Some l → (n ≡ Cbt l.disk) × (log_at c l.disk ≡ Some l)
log_of_name c (Cbt u) l e = let own = (has_volume c u l e).own in (ap Cbt (sym own), ap (log_at c) own ∙ e)
log_of_name c Mgt l e = absurd (none-some l e)
log_of_name c (Vhd u) l e = absurd (none-some l e)
log_of_name c (Raw u) l e = absurd (none-some l e)
log_of_name c (Old u) l e = absurd (none-some l e)
log_of_name c (Clone d b w) l e = absurd (none-some l e)
log_of_name c (Inflate u k) l e = absurd (none-some l e)
log_of_name c (Coalesce v p) l e = absurd (none-some l e)
log_of_name c (Relink v p) l e = absurd (none-some l e)
log_of_name c (Leaf v p) l e = absurd (none-some l e)

-- ---- the list

-- whether a log's disk is there
abbrev pub has_disk : Content → Log → Bool
has_disk c l = is_some (standing_volume c.table l.disk)

pub record IsListed (c : Content) (l : Log) : Type 0 where
  pub here : log_at c l.disk ≡ Some l
  pub stands : has_disk c l ≡ true

pub listed : (c : Content) (l : Log) → In l (logs c) → IsListed c l
unfolding logs logs_in
listed c l i =
    let w = In-filter (has_disk c) (filter_map (λ r. log_named c r.name) c.table.volumes) l i in
    let v = In-filter_map (λ r. log_named c r.name) c.table.volumes l w.0 in
    record { here = (log_of_name c v.0.name l v.2).1; stands = w.1 }

pub in_list : (c : Content) (u : List ℕ) (l : Log) → log_at c u ≡ Some l → is_some (standing_volume c.table u) ≡ true → In l (logs c)
unfolding logs logs_in
in_list c u l e stands =
    let w = has_volume c u l e in
    filter-In (has_disk c) (filter_map (λ r. log_named c r.name) c.table.volumes) l
    (filter_map-In (λ r. log_named c r.name) c.table.volumes w.held l (row_of-In c.table.volumes (Cbt u) w.held w.there).0
    (ap (log_named c) (row_of-name c.table.volumes (Cbt u) w.held w.there) ∙ e))
    (subst (λ (v : List ℕ). is_some (standing_volume c.table v) ≡ true) (sym w.own) stands)

-- found by its disk
pub log_listed : (c : Content) (u : List ℕ) → log_of u (logs c) ≡ (if is_some (standing_volume c.table u) then log_at c u else None)
log_listed c u = by (is_some (standing_volume c.table u)) refl (log_of u (logs c)) refl
  where
    here : (l : Log) → log_of u (logs c) ≡ Some l → (log_at c u ≡ Some l) × (is_some (standing_volume c.table u) ≡ true)
    here l found =
        let w = find-some (is_log_of u) (logs c) l found in
        let own : l.disk ≡ u = bytes_eq-same l.disk u w.1 in
        let k = listed c l w.0 in
        (ap (log_at c) (sym own) ∙ k.here, subst (λ (v : List ℕ). is_some (standing_volume c.table v) ≡ true) own k.stands)

    none : log_of u (logs c) ≡ None → is_some (standing_volume c.table u) ≡ true → (o : Option Log) → log_at c u ≡ o → None ≡ o
    none not_there stands None e = refl
    none not_there stands (Some l) e =
        let own = (has_volume c u l e).own in
        absurd (true≢false (sym (subst (λ (v : List ℕ). is_log_of v l ≡ true) own (bytes_eq-refl l.disk)) ∙ find-none (is_log_of u) (logs c) l not_there (in_list c u l e stands)))

    by : (b : Bool) → is_some (standing_volume c.table u) ≡ b → (o : Option Log) → log_of u (logs c) ≡ o → o ≡ (if b then log_at c u else None)
    by true stands (Some l) found = sym (here l found).0
    by true stands None found = none found stands (log_at c u) refl
    by false absent (Some l) found = absurd (true≢false (sym (here l found).1 ∙ absent))
    by false absent None found = refl

-- a volume of a log that is not new, and whose disk is there, reads as a log where the check passes
pub reads_some : (c : Content) (u : List ℕ) (r : Row) → log_fault c ≡ None → In r c.table.volumes → r.name ≡ Cbt u → r.fresh ≡ false → is_some (standing_volume c.table u) ≡ true → IsSome (log_at c u)
unfolding log_fault
reads_some c u r none i named full stands = by (log_at c u) refl
  where
    judged_as : (o : Option Log) → log_at c u ≡ o → is_log_wrong (standing_pieces c u) (size_of c (Cbt u)) (logs_before c u) c.table.sequence o ≡ false
    judged_as o e =
        let fails : is_wrong_log c r ≡ false = named_none at.Log (is_wrong_log c) c.table.volumes none r i in
        let by_name : is_wrong_log c r ≡ log_wrong_as c (Cbt u) = ap₂ (λ (b : Bool) (n : Name). not b && log_wrong_as c n) full named in
        let by_log : log_wrong_as c (Cbt u) ≡ is_log_wrong (standing_pieces c u) (size_of c (Cbt u)) (logs_before c u) c.table.sequence o =
        ap₂ (λ (b : Bool) (x : Option Log). b && is_log_wrong (standing_pieces c u) (size_of c (Cbt u)) (logs_before c u) c.table.sequence x) stands e in
        sym by_log ∙ sym by_name ∙ fails

    by : (o : Option Log) → log_at c u ≡ o → IsSome o
    by None e = absurd (true≢false (judged_as None e))
    by (Some l) e = refl

-- where each log is that of a disk, and the check passes, they are all
pub all_logged : (c : Content) → AreLogsOfDisks c → log_fault c ≡ None → IsLogged c (logs c)
all_logged c each none u = record { read = by (is_some (standing_volume c.table u)) refl (log_at c u) refl; there = there }
  where
    of_disk : (l : Log) → log_at c u ≡ Some l → is_some (standing_volume c.table u) ≡ true
    of_disk l e =
        let w = has_volume c u l e in
        each u w.held (row_of-In c.table.volumes (Cbt u) w.held w.there).0 (row_of-name c.table.volumes (Cbt u) w.held w.there) w.filled

    by : (b : Bool) → is_some (standing_volume c.table u) ≡ b → (o : Option Log) → log_at c u ≡ o → o ≡ log_of u (logs c)
    by true stands o e = sym e ∙ sym (log_listed c u ∙ ap (λ (b : Bool). if b then log_at c u else None) stands)
    by false absent None e = sym (log_listed c u ∙ ap (λ (b : Bool). if b then log_at c u else None) absent)
    by false absent (Some l) e = absurd (true≢false (sym (of_disk l e) ∙ absent))

    there : (r : Row) → In r c.table.volumes → r.name ≡ Cbt u → r.fresh ≡ false → IsSome (log_of u (logs c))
    there r i named full =
        let stands = each u r i named full in
        subst IsSome (sym (log_listed c u ∙ ap (λ (b : Bool). if b then log_at c u else None) stands)) (reads_some c u r none i named full stands)

-- ---- the check

abbrev judged : Content → List ℕ → Log → Bool
judged c u l = is_log_right (standing_pieces c u) (size_of c (Cbt u)) (logs_before c u) c.table.sequence l

-- where the check passes, it passes of each log whose disk is there
pub passes : (c : Content) (l : Log) → log_fault c ≡ None → IsListed c l → judged c l.disk l ≡ true
unfolding log_fault
passes c l none k =
    let u = l.disk in
    let w = has_volume c u l k.here in
    let fails : is_wrong_log c w.held ≡ false = named_none at.Log (is_wrong_log c) c.table.volumes none w.held (row_of-In c.table.volumes (Cbt u) w.held w.there).0 in
    let by_name : is_wrong_log c w.held ≡ log_wrong_as c (Cbt u) = ap₂ (λ (b : Bool) (n : Name). not b && log_wrong_as c n) w.filled (row_of-name c.table.volumes (Cbt u) w.held w.there) in
    let by_log : log_wrong_as c (Cbt u) ≡ not (judged c u l) =
    ap₂ (λ (b : Bool) (o : Option Log). b && is_log_wrong (standing_pieces c u) (size_of c (Cbt u)) (logs_before c u) c.table.sequence o) k.stands k.here in
    not_false (judged c u l) (sym by_log ∙ sym by_name ∙ fails)

pub record HasPassed (c : Content) (l : Log) : Type 0 where
  pub right : IsRightLog c l
  pub untaken : is_tag_met (logs_before c l.disk) l.tag ≡ false

pub passed : (c : Content) (l : Log) → log_fault c ≡ None → IsListed c l → HasPassed c l
passed c l none k =
    let u = l.disk in
    let w = has_volume c u l k.here in
    let pieces = standing_pieces c u in
    let p = and_parts _ _ (passes c l none k) in
    let q = and_parts _ _ p.1 in
    let r = and_parts _ _ q.1 in
    let s = and_parts _ _ r.1 in
    let long : length l.bits ≡ pieces = eqb-true (length l.bits) pieces p.0 in
    let room : log_sectors pieces ≤ size_of c (Cbt u) = leb-true (log_sectors pieces) (size_of c (Cbt u)) q.0 in
    let size : size_of c (Cbt u) ≡ l.extents * c.extent = ap (λ (o : Option Row). length (extents_of o) * c.extent) w.there ∙ ap (λ k. k * c.extent) (sym w.long) in
    record {
      right = record {
        here = k.here;
        stands = k.stands;
        pieces = long;
        room = subst (λ (n : ℕ). log_sectors n ≤ l.extents * c.extent) (sym long) (subst (λ (n : ℕ). log_sectors pieces ≤ n) size room);
        tag = leb-true _ _ r.0;
        since = leb-true _ _ s.0;
      };
      untaken = not_true _ s.1;
    }

-- ---- the order

abbrev pub row_cmp : Row → Row → Ordering
row_cmp r s = name_cmp r.name s.name

abbrev pub log_cmp : Log → Log → Ordering
log_cmp a b = uuid_cmp a.disk b.disk

pub turned : (u v : List ℕ) → uuid_cmp u v ≡ Greater → uuid_cmp v u ≡ Less
turned u v h = nat_list_cmp_total.antisymm v u ∙ ap ordering_reverse h

-- of two names that stand in order the later is not before the earlier
not_before : (a b : Name) → name_cmp a b ≡ Less → is_lt (name_cmp b a) ≡ false
not_before a b less = ap is_lt (name_cmp_total.antisymm b a ∙ ap ordering_reverse less)

pub any_at : {A : Type 0} (t : A → Bool) (xs : List A) (x : A) → In x xs → t x ≡ true → list_any t xs ≡ true
any_at t [] x i e = absurd i
any_at t (y ∷ ys) x (inl is) e = ap (λ b. b || list_any t ys) (ap t (sym is) ∙ e)
any_at t (y ∷ ys) x (inr i) e = by (t y) (any_at t ys x i e)
  where
    by : (b : Bool) → list_any t ys ≡ true → (b || list_any t ys) ≡ true
    by true rest = refl
    by false rest = rest

pub tag_met : (ls : List Log) (l : Log) (tag : ℕ) → In l ls → l.tag ≡ tag → tag ≢ 0 → is_tag_met ls tag ≡ true
tag_met ls l tag i same tagged = ap₂ (λ (a b : Bool). not a && b) (ne_eqb tag 0 tagged) (any_at (λ (k : Log). k.tag == tag) ls l i (eq-eqb l.tag tag same))

-- a selection of a rising list rises
rising-filter : {K : Type 0} (R : K → K → Ordering) (t : K → Bool) (xs : List K) → Rising R xs → Rising R (filter t xs)
rising-filter R t [] r = tt
rising-filter R t (x ∷ xs) r = by (t x) (rising-filter R t xs r.1)
  where
    by : (b : Bool) → Rising R (filter t xs) → Rising R (cond b (x ∷ filter t xs) (filter t xs))
    by true rest = ((λ y i. r.0 y (In-filter t xs y i).0), rest)
    by false rest = rest

rising-disks : (xs : List Log) → Rising log_cmp xs → Rising uuid_cmp (map (λ (l : Log). l.disk) xs)
rising-disks [] r = tt
rising-disks (x ∷ xs) r = ((λ u i. let w = In-map (λ (l : Log). l.disk) xs u i in subst (λ v. uuid_cmp x.disk v ≡ Less) (sym w.2) (r.0 w.0 w.1)), rising-disks xs r.1)

-- the first of a rising list that passes stands before all others that do
pub find_first : {K : Type 0} (R : K → K → Ordering) (t : K → Bool) (xs : List K) (x : K) → Rising R xs → find t xs ≡ Some x → (y : K) → In y xs → t y ≡ true → (y ≡ x) ⊎ (R x y ≡ Less)
find_first R t [] x r e y i is = absurd i
find_first R t (z ∷ zs) x r e y i is = by (t z) refl (λ found later. find_first R t zs x r.1 found y later is) e i
  where
    by : (b : Bool) → t z ≡ b → (find t zs ≡ Some x → In y zs → (y ≡ x) ⊎ (R x y ≡ Less)) → cond b (Some z) (find t zs) ≡ Some x → In y (z ∷ zs) → (y ≡ x) ⊎ (R x y ≡ Less)
    by true passes rest found (inl same) = inl (same ∙ same_Some z x found)
    by true passes rest found (inr later) = inr (subst (λ w. R w y ≡ Less) (same_Some z x found) (r.0 y later))
    by false fails rest found (inl same) = absurd (true≢false (sym is ∙ ap t same ∙ fails))
    by false fails rest found (inr later) = rest found later

In-names : (rs : List Row) (r : Row) → In r rs → In r.name (names_of rs)
In-names rs r i = In-map_at (λ (s : Row). s.name) rs r i

all_at : (P : Name → Type 0) (ns : List Name) (n : Name) → AllByRecursion P ns → In n ns → P n
all_at P [] n all i = absurd i
all_at P (m ∷ ns) n all (inl is) = subst P (sym is) all.0
all_at P (m ∷ ns) n all (inr i) = all_at P ns n all.1 i

pub rows_rise : (rs : List Row) → IsStrictlySortedBy name_cmp (names_of rs) → Rising row_cmp rs
unfolding IsStrictlySortedBy
rows_rise [] sorted = tt
rows_rise (r ∷ rs) sorted = ((λ s i. all_at (λ n. name_cmp r.name n ≡ Less) (names_of rs) s.name sorted.0 (In-names rs s i)), rows_rise rs sorted.1)

-- each row is the one that is found by its name
pub found_row : (rs : List Row) → IsStrictlySortedBy name_cmp (names_of rs) → (r : Row) → In r rs → row_of rs r.name ≡ Some r
unfolding row_of IsStrictlySortedBy
found_row [] sorted r i = absurd i
found_row (s ∷ rs) sorted r (inl is) = ap (λ (b : Bool). cond b (Some s) (row_of rs r.name)) (name_eq-same s.name r.name (ap (λ (q : Row). q.name) (sym is))) ∙ ap Some (sym is)
found_row (s ∷ rs) sorted r (inr i) =
    ap (λ (b : Bool). cond b (Some s) (row_of rs r.name)) (name_eq-other s.name r.name (less_other s.name r.name (all_at (λ n. name_cmp s.name n ≡ Less) (names_of rs) r.name sorted.0 (In-names rs r i))))
    ∙ found_row rs sorted.1 r i

-- names of logs are in the order of their disks' UUIDs
pub disks_less : (a b : List ℕ) → IsUuid a → IsUuid b → name_cmp (Cbt a) (Cbt b) ≡ Less → uuid_cmp a b ≡ Less
disks_less a b is_a is_b less = by (uuid_cmp a b) refl
  where
    by : (o : Ordering) → uuid_cmp a b ≡ o → uuid_cmp a b ≡ Less
    by Less e = e
    by Equal e = absurd (not_itself name_cmp name_cmp_total (Cbt a) (subst (λ v. name_cmp (Cbt a) (Cbt v) ≡ Less) (sym (exact_bytes a b e)) less))
    by Greater e = absurd (not_both name_cmp name_cmp_total (Cbt a) (Cbt b) less (logs_less b a is_b is_a (turned a b e)))

module _ (c : Content) (table : IsTable c.count c.table) where
  -- what has a log is a UUID
  pub proper_row : (u : List ℕ) (r : Row) → row c (Cbt u) ≡ Some r → IsUuid u
  unfolding IsName
  proper_row u r is = subst IsName (row_of-name c.table.volumes (Cbt u) r is) (All-row_of IsVolume c.table.volumes (Cbt u) r table.volumes.each is).name

  pub proper : (u : List ℕ) (l : Log) → log_at c u ≡ Some l → IsUuid u
  proper u l e = let w = has_volume c u l e in proper_row u w.held w.there

  pub logs_rise : Rising log_cmp (logs c)
  unfolding logs logs_in
  logs_rise = rising-filter log_cmp (has_disk c) (filter_map f c.table.volumes) (rising-filter_map row_cmp log_cmp f keeps c.table.volumes (rows_rise c.table.volumes table.volumes.rising))
    where
      f : Row → Option Log
      f r = log_named c r.name

      keeps : (r s : Row) (a b : Log) → f r ≡ Some a → f s ≡ Some b → row_cmp r s ≡ Less → log_cmp a b ≡ Less
      keeps r s a b is_a is_b less =
          let x = log_of_name c r.name a is_a in
          let y = log_of_name c s.name b is_b in
          disks_less a.disk b.disk (proper a.disk a x.1) (proper b.disk b y.1) (ap₂ name_cmp (sym x.0) (sym y.0) ∙ less)

  -- ---- tags

  one_later : (none : log_fault c ≡ None) (a b : Log) → In a (logs c) → In b (logs c) → uuid_cmp a.disk b.disk ≡ Less → a.tag ≡ b.tag → a.tag ≢ 0 → ⊥
  unfolding logs_before
  one_later none a b is_a is_b less same tagged =
      let x = listed c a is_a in
      let y = listed c b is_b in
      let before : is_lt (name_cmp (Cbt a.disk) (Cbt b.disk)) ≡ true = ap is_lt (logs_less a.disk b.disk (proper a.disk a x.here) (proper b.disk b y.here) less) in
      let earlier : In a (logs_before c b.disk) = filter-In (λ (l : Log). is_lt (name_cmp (Cbt l.disk) (Cbt b.disk))) (logs c) a is_a before in
      true≢false (sym (tag_met (logs_before c b.disk) a b.tag earlier same (λ zero. tagged (same ∙ zero))) ∙ (passed c b none y).untaken)

  pub right_logs : log_fault c ≡ None → AreRightLogs c (logs c)
  right_logs none = record {
    in_order = rising-disks (logs c) logs_rise;
    right = λ l i. (passed c l none (listed c l i)).right;
    one_tag = λ a b is_a is_b same tagged. by a b is_a is_b same tagged (uuid_cmp a.disk b.disk) refl;
  }
    where
      by : (a b : Log) → In a (logs c) → In b (logs c) → a.tag ≡ b.tag → a.tag ≢ 0 → (o : Ordering) → uuid_cmp a.disk b.disk ≡ o → a ≡ b
      by a b is_a is_b same tagged Less e = absurd (one_later none a b is_a is_b e same tagged)
      by a b is_a is_b same tagged Greater e = absurd (one_later none b a is_b is_a (turned a.disk b.disk e) (sym same) (λ zero. tagged (same ∙ zero)))
      by a b is_a is_b same tagged Equal e =
          same_Some a b (sym (listed c a is_a).here ∙ ap (log_at c) (exact_bytes a.disk b.disk e) ∙ (listed c b is_b).here)

  -- ---- the first that is wrong

  pub wrong_name : (n : Name) → log_wrong_as c n ≡ true → (u : List ℕ) × (n ≡ Cbt u)
  wrong_name (Cbt u) e = (u, refl)
  wrong_name Mgt e = absurd (true≢false (sym e))
  wrong_name (Vhd u) e = absurd (true≢false (sym e))
  wrong_name (Raw u) e = absurd (true≢false (sym e))
  wrong_name (Old u) e = absurd (true≢false (sym e))
  wrong_name (Clone d b w) e = absurd (true≢false (sym e))
  wrong_name (Inflate u k) e = absurd (true≢false (sym e))
  wrong_name (Coalesce v p) e = absurd (true≢false (sym e))
  wrong_name (Relink v p) e = absurd (true≢false (sym e))
  wrong_name (Leaf v p) e = absurd (true≢false (sym e))

  found : (s : Row) → find (is_wrong_log c) c.table.volumes ≡ Some s → (u : List ℕ) × (s.name ≡ Cbt u) × IsFirstWrong c u
  found s e =
      let w = find-some (is_wrong_log c) c.table.volumes s e in
      let n = wrong_name s.name (and_parts (not s.fresh) (log_wrong_as c s.name) w.1).1 in (
        n.0,
        n.1,
        record {
          held = s;
          here = w.0;
          named = n.1;
          wrong = w.1;
          first = λ r i is. ⊎_elim
              (λ same. subst (λ (q : Row). is_lt (name_cmp q.name (Cbt n.0)) ≡ false) (sym same) (subst (λ m. is_lt (name_cmp s.name m) ≡ false) n.1 (ap is_lt (name_cmp-itself s.name))))
              (λ less. subst (λ m. is_lt (name_cmp r.name m) ≡ false) n.1 (not_before s.name r.name less))
              (find_first row_cmp (is_wrong_log c) c.table.volumes s (rows_rise c.table.volumes table.volumes.rising) e r i is);
        },
      )

  pub first_wrong : (p : Place) → log_fault c ≡ Some p → (u : List ℕ) × (p ≡ at.Log (Cbt u)) × IsFirstWrong c u
  unfolding log_fault first_name
  first_wrong p e = by (find (is_wrong_log c) c.table.volumes) refl e
    where
      by : (o : Option Row) → find (is_wrong_log c) c.table.volumes ≡ o → placed at.Log (name_in o) ≡ Some p → (u : List ℕ) × (p ≡ at.Log (Cbt u)) × IsFirstWrong c u
      by None is e = absurd (none-some p e)
      by (Some s) is e = let w = found s is in (w.0, sym (same_Some (at.Log s.name) p e) ∙ ap at.Log w.1, w.2)

  pub wrong_first : (u : List ℕ) → IsFirstWrong c u → log_fault c ≡ Some (at.Log (Cbt u))
  unfolding log_fault first_name
  wrong_first u w = by (find (is_wrong_log c) c.table.volumes) refl
    where
      same_name : (s : Row) → find (is_wrong_log c) c.table.volumes ≡ Some s → s.name ≡ w.held.name
      same_name s is =
          let f = find-some (is_wrong_log c) c.table.volumes s is in
          ⊎_elim (λ (same : w.held ≡ s). ap (λ (r : Row). r.name) (sym same))
          (λ less. absurd (true≢false (sym (ap is_lt (subst (λ m. name_cmp s.name m ≡ Less) w.named less)) ∙ w.first s f.0 f.1)))
          (find_first row_cmp (is_wrong_log c) c.table.volumes s (rows_rise c.table.volumes table.volumes.rising) is w.held w.here w.wrong)

      by : (o : Option Row) → find (is_wrong_log c) c.table.volumes ≡ o → placed at.Log (name_in o) ≡ Some (at.Log (Cbt u))
      by None is = absurd (true≢false (sym w.wrong ∙ find-none (is_wrong_log c) c.table.volumes w.held is w.here))
      by (Some s) is = ap (λ n. Some (at.Log n)) (same_name s is ∙ w.named)
