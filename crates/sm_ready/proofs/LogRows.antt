-- The logs of the table are those of memory: volume by volume, how many there are, and how many extents they have.
use Rattle.std.proofs.Common.{◌≡◌, ◌≢◌, ◌⊎◌, inl, inr, suc, ℕ, ◌+◌, ◌≤◌, Bool, true, false, cond, List, [], ◌∷◌, length, map, filter, Option, Some, None, refl, sym, ap, ap₂, ◌∙◌, subst, arith}
use Rattle.std.proofs.lemmas.Bool.{true≢false}
use Rattle.std.proofs.lemmas.List.Sums.{sum-map, sum_by-cons}
use Rattle.std.proofs.lemmas.Option.{none-some, same_Some}
use Rattle.std.proofs.lemmas.Slice.Eq.{bytes_eq-Decides}
use Rattle.std.specs.Cmp.{IsTotalOrder}
use Rattle.std.specs.Cmp.Lexicographic.{slice_cmp}
use Rattle.std.specs.List.{cons_option, filter_map, sum}
use Rattle.std.specs.List.Sorted.{IsStrictlySortedBy}
use Rattle.std.specs.Ordering.{nat_cmp}
use Rattle.std.specs.declared.cmp.Ordering.{Ordering}
use Rattle.std.specs.declared.cmp.Ordering.TheVariants.{Less}
use Rattle.common_laws.specs.Lists.{In}
use Rattle.common_laws.proofs.Lists.{In-map_at, find-some}
use Rattle.sm_base.specs.Kinds.{is_entry, is_image, is_log}
use Rattle.sm_base.specs.Names.{IsName, IsUuid, name_cmp}
use Rattle.sm_base.specs.declared.names.Name.{Name}
use Rattle.sm_base.specs.declared.names.Name.TheVariants.{Mgt, Vhd, Raw, Old, Cbt, Clone, Inflate, Coalesce, Relink, Leaf}
use Rattle.sm_base.proofs.OrderLemmas.{name_cmp_total}
use Rattle.sm_log.specs.Logs.{Log, is_log_of, log_extents, log_of}
use Rattle.sm_logs.specs.Held.{IsRising, log_limit}
use Rattle.sm_logs.proofs.PlaceLaws.{less_apart, same_log}
use Rattle.sm_machine.specs.WellFormed.{is_image_name}
use Rattle.sm_standing.specs.Ordered.{Rising}
use Rattle.sm_standing.proofs.DisksShown.{row_of-In}
use Rattle.sm_standing.proofs.Orders.{In-filter_map, filter_map-In, rising-filter_map, rising_ext}
use Rattle.vg_meta.specs.Tables.{IsVolume, Row, VolumeTable, rows}
use Rattle.vg_meta.proofs.RowLaws.{All-row_of, row_of-name}
use Rattle.vg_volumes.specs.Sites.{Site}
use Rattle.sm_ready.specs.Known.{Face, Known, log_face, row_face}
use Rattle.sm_ready.specs.Orderly.{IsOrderly}
use Rattle.sm_base.proofs.LogOrder.{logs_less}
use Rattle.sm_ready.proofs.Orders.{filled_face, fresh_face}
use Rattle.sm_ready.proofs.RowLaws.{All-In, found_in, rising_rows, row_cmp}

-- ---- names of logs

-- a volume that is an image, or a journal entry, is no log
pub image_apart : (x : Name) → is_image x ≡ true → (u : List ℕ) → Cbt u ≢ x
image_apart x is u same = true≢false (sym is ∙ ap is_image (sym same))

pub name_apart : (x : Name) → is_image_name x ≡ true → (u : List ℕ) → Cbt u ≢ x
unfolding is_image_name
name_apart x is u same = true≢false (sym is ∙ ap is_image_name (sym same))

pub entry_apart : (x : Name) → is_entry x ≡ true → (u : List ℕ) → Cbt u ≢ x
entry_apart x is u same = true≢false (sym is ∙ ap is_entry (sym same))

-- nor is a log an image
pub log-no_image : (n : Name) → is_log n ≡ true → is_image n ≡ false
log-no_image (Cbt u) e = refl
log-no_image Mgt e = absurd (true≢false (sym e))
log-no_image (Vhd u) e = absurd (true≢false (sym e))
log-no_image (Raw u) e = absurd (true≢false (sym e))
log-no_image (Old u) e = absurd (true≢false (sym e))
log-no_image (Clone d b w) e = absurd (true≢false (sym e))
log-no_image (Inflate u k) e = absurd (true≢false (sym e))
log-no_image (Coalesce v p) e = absurd (true≢false (sym e))
log-no_image (Relink v p) e = absurd (true≢false (sym e))
log-no_image (Leaf l p) e = absurd (true≢false (sym e))

-- ---- logs in memory, in order

abbrev pub log_cmp : Log → Log → Ordering
log_cmp a b = name_cmp (Cbt a.disk) (Cbt b.disk)

pub log_total : IsTotalOrder log_cmp
log_total = record {
  antisymm = λ x y. name_cmp_total.antisymm (Cbt x.disk) (Cbt y.disk);
  trans = λ x y z. name_cmp_total.trans (Cbt x.disk) (Cbt y.disk) (Cbt z.disk);
  congr = λ x y z. name_cmp_total.congr (Cbt x.disk) (Cbt y.disk) (Cbt z.disk);
}

-- each log is the one that is found for its disk
pub log_found : (ls : List Log) → IsRising ls → (l : Log) → In l ls → log_of l.disk ls ≡ Some l
unfolding IsStrictlySortedBy
log_found [] rising l i = absurd i
log_found (x ∷ xs) rising l (inl is) =
    ap (λ b. cond b (Some x) (log_of l.disk xs)) (same_log x l.disk (ap (λ (y : Log). y.disk) (sym is))) ∙ ap Some (sym is)
log_found (x ∷ xs) rising l (inr i) =
    ap (λ b. cond b (Some x) (log_of l.disk xs))
    (less_apart x.disk l.disk (All-In (λ v. slice_cmp nat_cmp x.disk v ≡ Less) (map (λ (y : Log). y.disk) xs) l.disk rising.0 (In-map_at (λ (y : Log). y.disk) xs l i)))
    ∙ log_found xs rising.1 l i

-- the log of a disk is in memory, and has its UUID
pub log_in_list : (ls : List Log) (u : List ℕ) (l : Log) → log_of u ls ≡ Some l → In l ls × (l.disk ≡ u)
log_in_list ls u l e = let w = find-some (is_log_of u) ls l e in (w.0, (bytes_eq-Decides l.disk u).0 w.1)

-- they rise by name too
pub rising_logs : (ls : List Log) → ((l : Log) → In l ls → IsUuid l.disk) → IsRising ls → Rising log_cmp ls
unfolding IsStrictlySortedBy
rising_logs [] proper rising = tt
rising_logs (x ∷ xs) proper rising = (
  (λ y i. logs_less x.disk y.disk (proper x (inl refl)) (proper y (inr i))
      (All-In (λ v. slice_cmp nat_cmp x.disk v ≡ Less) (map (λ (z : Log). z.disk) xs) y.disk rising.0 (In-map_at (λ (z : Log). z.disk) xs y i))),
  rising_logs xs (λ l i. proper l (inr i)) rising.1,
)

-- ---- the volume of a log

-- the volume behind a log of memory
pub record HasLogRow (t : VolumeTable) (l : Log) : Type 0 where
  pub row : Row
  pub there : rows t (Cbt l.disk) ≡ Some row
  pub filled : row.fresh ≡ false
  pub shown : row.hidden ≡ false
  pub long : length row.extents ≡ l.extents

-- and the log of a volume
pub record HasLog (m : Known) (u : List ℕ) (r : Row) : Type 0 where
  pub held : Log
  pub found : log_of u m.logs ≡ Some held
  pub long : held.extents ≡ length r.extents

abbrev log_as : Log → Face
log_as l = record { hidden = false; extents = l.extents }

abbrev row_as : Row → Face
row_as r = record { hidden = r.hidden; extents = length r.extents }

pub log_row : (s : Site) (t : VolumeTable) (m : Known) (l : Log) → IsOrderly s t m → In l m.logs → HasLogRow t l
log_row s t m l o i = by (rows t (Cbt l.disk)) refl (o.logs l.disk ∙ ap log_face (log_found m.logs o.logs_in_order l i))
  where
    of : (r : Row) → rows t (Cbt l.disk) ≡ Some r → (b : Bool) → r.fresh ≡ b → row_face (Some r) ≡ Some (log_as l) → HasLogRow t l
    of r is true new e = absurd (none-some (log_as l) (sym (fresh_face r new) ∙ e))
    of r is false full e =
        let same = same_Some (row_as r) (log_as l) (sym (filled_face r full) ∙ e) in
        record { row = r; there = is; filled = full; shown = ap (λ (f : Face). f.hidden) same; long = ap (λ (f : Face). f.extents) same }

    by : (x : Option Row) → rows t (Cbt l.disk) ≡ x → row_face x ≡ Some (log_as l) → HasLogRow t l
    by None is e = absurd (none-some (log_as l) e)
    by (Some r) is e = of r is r.fresh refl e

-- a log's volume is not new
pub log_old : (s : Site) (t : VolumeTable) (m : Known) (u : List ℕ) (r : Row) → IsOrderly s t m → rows t (Cbt u) ≡ Some r → r.fresh ≡ false
unfolding is_image_name
log_old s t m u r o is = by r.fresh refl
  where
    by : (b : Bool) → r.fresh ≡ b → b ≡ false
    by false full = refl
    by true new = absurd (true≢false (sym (o.new_named r (row_of-In t.volumes (Cbt u) r is).0 new).1 ∙ ap is_image_name (row_of-name t.volumes (Cbt u) r is)))

pub row_log : (s : Site) (t : VolumeTable) (m : Known) (u : List ℕ) (r : Row) → IsOrderly s t m → rows t (Cbt u) ≡ Some r → HasLog m u r
row_log s t m u r o is = by (log_of u m.logs) refl (sym (ap row_face is ∙ filled_face r (log_old s t m u r o is)) ∙ o.logs u)
  where
    by : (x : Option Log) → log_of u m.logs ≡ x → Some (row_as r) ≡ log_face x → HasLog m u r
    by None found e = absurd (none-some (row_as r) (sym e))
    by (Some l) found e = record { held = l; found = found; long = sym (ap (λ (f : Face). f.extents) (same_Some (row_as r) (log_as l) e)) }

-- ---- all logs, in the order of the table

-- the log of a volume, by its name
abbrev pub log_by : List Log → Name → Option Log
log_by ls (Cbt u) = log_of u ls
log_by ls Mgt = None
log_by ls (Vhd u) = None
log_by ls (Raw u) = None
log_by ls (Old u) = None
log_by ls (Clone disk base twin) = None
log_by ls (Inflate image extents) = None
log_by ls (Coalesce child parent) = None
log_by ls (Relink child parent) = None
log_by ls (Leaf leaf parent) = None

-- it is in memory, and the name is that of its disk
pub by_named : (ls : List Log) (n : Name) (l : Log) → log_by ls n ≡ Some l → In l ls × (n ≡ Cbt l.disk)
by_named ls (Cbt u) l e = let w = log_in_list ls u l e in (w.0, ap Cbt (sym w.1))
by_named ls Mgt l e = absurd (none-some l e)
by_named ls (Vhd u) l e = absurd (none-some l e)
by_named ls (Raw u) l e = absurd (none-some l e)
by_named ls (Old u) l e = absurd (none-some l e)
by_named ls (Clone d b w) l e = absurd (none-some l e)
by_named ls (Inflate u k) l e = absurd (none-some l e)
by_named ls (Coalesce v p) l e = absurd (none-some l e)
by_named ls (Relink v p) l e = absurd (none-some l e)
by_named ls (Leaf v p) l e = absurd (none-some l e)

pub logs_listed : (s : Site) (t : VolumeTable) (m : Known) → IsOrderly s t m → filter_map (λ r. log_by m.logs r.name) t.volumes ≡ m.logs
unfolding IsName
logs_listed s t m o = rising_ext log_cmp log_total (filter_map by_row t.volumes) m.logs left right within without
  where
    by_row : Row → Option Log
    by_row r = log_by m.logs r.name

    left : Rising log_cmp (filter_map by_row t.volumes)
    left = rising-filter_map row_cmp log_cmp by_row (λ u v d e ud ve less. ap₂ name_cmp (sym (by_named m.logs u.name d ud).1) (sym (by_named m.logs v.name e ve).1) ∙ less) t.volumes (rising_rows t.volumes o.table.volumes.rising)

    right : Rising log_cmp m.logs
    right = rising_logs m.logs proper o.logs_in_order
      where
        proper : (l : Log) → In l m.logs → IsUuid l.disk
        proper l i = let w = log_row s t m l o i in subst IsName (row_of-name t.volumes (Cbt l.disk) w.row w.there) (All-row_of IsVolume t.volumes (Cbt l.disk) w.row o.table.volumes.each w.there).name

    within : (l : Log) → In l (filter_map by_row t.volumes) → In l m.logs
    within l i = let w = In-filter_map by_row t.volumes l i in (by_named m.logs w.0.name l w.2).0

    without : (l : Log) → In l m.logs → In l (filter_map by_row t.volumes)
    without l i =
        let w = log_row s t m l o i in
        filter_map-In by_row t.volumes w.row l (row_of-In t.volumes (Cbt l.disk) w.row w.there).0
        (ap (log_by m.logs) (row_of-name t.volumes (Cbt l.disk) w.row w.there) ∙ log_found m.logs o.logs_in_order l i)

-- ---- how many they are, and how many extents they have

-- a volume is a log as memory has it, or none
pub record IsHeldLog (m : Known) (r : Row) : Type 0 where
  pub held : Log
  pub log : is_log r.name ≡ true
  pub found : log_by m.logs r.name ≡ Some held
  pub long : held.extents ≡ length r.extents

abbrev LogOrNone : Known → Row → Type 0
LogOrNone m r = IsHeldLog m r ⊎ ((is_log r.name ≡ false) × (log_by m.logs r.name ≡ None))

log_or_none : (s : Site) (t : VolumeTable) (m : Known) (n : Name) (r : Row) → IsOrderly s t m → rows t n ≡ Some r → r.name ≡ n → LogOrNone m r
log_or_none s t m (Cbt u) r o is named =
    let w = row_log s t m u r o is in inl (record { held = w.held; log = ap is_log named; found = ap (log_by m.logs) named ∙ w.found; long = w.long })
log_or_none s t m Mgt r o is named = inr (ap is_log named, ap (log_by m.logs) named)
log_or_none s t m (Vhd u) r o is named = inr (ap is_log named, ap (log_by m.logs) named)
log_or_none s t m (Raw u) r o is named = inr (ap is_log named, ap (log_by m.logs) named)
log_or_none s t m (Old u) r o is named = inr (ap is_log named, ap (log_by m.logs) named)
log_or_none s t m (Clone d b w) r o is named = inr (ap is_log named, ap (log_by m.logs) named)
log_or_none s t m (Inflate u k) r o is named = inr (ap is_log named, ap (log_by m.logs) named)
log_or_none s t m (Coalesce v p) r o is named = inr (ap is_log named, ap (log_by m.logs) named)
log_or_none s t m (Relink v p) r o is named = inr (ap is_log named, ap (log_by m.logs) named)
log_or_none s t m (Leaf v p) r o is named = inr (ap is_log named, ap (log_by m.logs) named)

of_each : (s : Site) (t : VolumeTable) (m : Known) → IsOrderly s t m → (r : Row) → In r t.volumes → LogOrNone m r
of_each s t m o r i = log_or_none s t m r.name r o (found_in t.volumes o.table.volumes.rising r i) refl

-- the volumes of logs
abbrev pub table_logs : VolumeTable → List Row
table_logs t = filter (λ r. is_log r.name) t.volumes

length_listed : (m : Known) (rs : List Row) → ((r : Row) → In r rs → LogOrNone m r) → length (filter (λ r. is_log r.name) rs) ≡ length (filter_map (λ r. log_by m.logs r.name) rs)
length_listed m [] each = refl
length_listed m (r ∷ rs) each = by (each r (inl refl)) (length_listed m rs (λ q i. each q (inr i)))
  where
    by : LogOrNone m r → length (filter (λ r. is_log r.name) rs) ≡ length (filter_map (λ r. log_by m.logs r.name) rs)
        → length (filter (λ r. is_log r.name) (r ∷ rs)) ≡ length (filter_map (λ r. log_by m.logs r.name) (r ∷ rs))
    by (inl w) rest =
        ap (λ b. length (cond b (r ∷ filter (λ r. is_log r.name) rs) (filter (λ r. is_log r.name) rs))) w.log ∙ ap suc rest
        ∙ sym (ap (λ o. length (cons_option o (filter_map (λ r. log_by m.logs r.name) rs))) w.found)
    by (inr w) rest =
        ap (λ b. length (cond b (r ∷ filter (λ r. is_log r.name) rs) (filter (λ r. is_log r.name) rs))) w.0 ∙ rest
        ∙ sym (ap (λ o. length (cons_option o (filter_map (λ r. log_by m.logs r.name) rs))) w.1)

-- there are as many in the table as in memory
pub logs_counted : (s : Site) (t : VolumeTable) (m : Known) → IsOrderly s t m → length (table_logs t) ≡ length m.logs
logs_counted s t m o = length_listed m t.volumes (of_each s t m o) ∙ ap (λ (ls : List Log). length ls) (logs_listed s t m o)

pub few_log_rows : (s : Site) (t : VolumeTable) (m : Known) → IsOrderly s t m → length (table_logs t) ≤ log_limit
few_log_rows s t m o = omega (arith, logs_counted s t m o, o.few_logs)

-- the extents of a volume that is a log
abbrev pub log_part : Row → ℕ
log_part r = cond (is_log r.name) (length r.extents) 0

pub sum-cons : (f : Row → ℕ) (r : Row) (rs : List Row) → sum (map f (r ∷ rs)) ≡ f r + sum (map f rs)
sum-cons f r rs = sum-map f (r ∷ rs) ∙ sum_by-cons f r rs ∙ ap (λ n. f r + n) (sym (sum-map f rs))

none_more : (n : ℕ) → 0 + n ≡ n
none_more n = omega arith

sum_listed : (m : Known) (rs : List Row) → ((r : Row) → In r rs → LogOrNone m r) → sum (map log_part rs) ≡ log_extents (filter_map (λ r. log_by m.logs r.name) rs)
unfolding log_extents
sum_listed m [] each = refl
sum_listed m (r ∷ rs) each = sum-cons log_part r rs ∙ by (each r (inl refl)) (sum_listed m rs (λ q i. each q (inr i)))
  where
    by : LogOrNone m r → sum (map log_part rs) ≡ log_extents (filter_map (λ r. log_by m.logs r.name) rs) → log_part r + sum (map log_part rs) ≡ log_extents (filter_map (λ r. log_by m.logs r.name) (r ∷ rs))
    by (inl w) rest =
        ap₂ (λ a b. a + b) (ap (λ b. cond b (length r.extents) 0) w.log ∙ sym w.long) rest
        ∙ sym (ap (λ o. log_extents (cons_option o (filter_map (λ r. log_by m.logs r.name) rs))) w.found)
    by (inr w) rest =
        ap (λ b. cond b (length r.extents) 0 + sum (map log_part rs)) w.0 ∙ none_more (sum (map log_part rs)) ∙ rest
        ∙ sym (ap (λ o. log_extents (cons_option o (filter_map (λ r. log_by m.logs r.name) rs))) w.1)

-- and their volumes have as many extents
pub log_extents_counted : (s : Site) (t : VolumeTable) (m : Known) → IsOrderly s t m → sum (map log_part t.volumes) ≡ log_extents m.logs
log_extents_counted s t m o = sum_listed m t.volumes (of_each s t m o) ∙ ap log_extents (logs_listed s t m o)

-- a sum over volumes is one over those that are no logs, and one over the others
pub sum_but_logs : (f : Row → ℕ) (rs : List Row) → ((r : Row) → In r rs → is_log r.name ≡ true → f r ≡ length r.extents)
    → sum (map f rs) ≡ sum (map log_part rs) + sum (map (λ r. cond (is_log r.name) 0 (f r)) rs)
sum_but_logs f [] logs = refl
sum_but_logs f (r ∷ rs) logs =
    sum-cons f r rs ∙ by (is_log r.name) refl (sum_but_logs f rs (λ q i. logs q (inr i)))
    ∙ sym (ap₂ (λ a b. a + b) (sum-cons log_part r rs) (sum-cons (λ r. cond (is_log r.name) 0 (f r)) r rs))
  where
    by : (b : Bool) → is_log r.name ≡ b → sum (map f rs) ≡ sum (map log_part rs) + sum (map (λ r. cond (is_log r.name) 0 (f r)) rs)
        → f r + sum (map f rs) ≡ (cond (is_log r.name) (length r.extents) 0 + sum (map log_part rs)) + (cond (is_log r.name) 0 (f r) + sum (map (λ r. cond (is_log r.name) 0 (f r)) rs))
    by true is rest = rw (is) (omega (arith, rest, logs r (inl refl) is))
    by false is rest = rw (is) (omega (arith, rest))
