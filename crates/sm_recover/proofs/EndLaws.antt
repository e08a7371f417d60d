-- What ends in front of a link: the changes that take away the entry of a copy and undo a fork or an enlargement, with the entry of a
-- link and without it. Each is allowed, and behind them the same table is left.
use Rattle.std.proofs.Common.{◌≡◌, ◌≢◌, ◌⊎◌, inl, inr, ⊎_elim, ℕ, ◌+◌, ◌≤◌, Bool, true, false, cond, ◌||◌, List, [], ◌∷◌, ◌++◌, length, filter, Option, Some, None, refl, sym, ap, ap₂, ◌∙◌, subst, arith}
use Rattle.std.specs.List.{AllByRecursion}
use Rattle.std.proofs.lemmas.Bool.{true≢false}
use Rattle.std.proofs.lemmas.Option.{none-some, same_Some}
use Rattle.common_laws.specs.Lists.{In}
use Rattle.common_laws.proofs.Lists.{In-filter}
use Rattle.sm_base.specs.Limits.{extent_limit}
use Rattle.sm_base.specs.Kinds.{is_image, is_entry}
use Rattle.sm_base.specs.declared.names.Name.{Name}
use Rattle.sm_base.specs.declared.names.Name.TheVariants.{Mgt, Vhd, Raw, Old, Cbt, Clone, Inflate, Coalesce, Relink, Leaf}
use Rattle.sm_base.proofs.OrderLemmas.{name_cmp_total}
use Rattle.std.specs.Cmp.{IsTotalOrder}
use Rattle.vg_meta.specs.Changes.{Changes, Permits, SpeaksOf, applied, cut_to, renamed, tagged}
use Rattle.vg_meta.specs.Tables.{IsTable, Row, VolumeTable, names_of, rows}
use Rattle.vg_meta.specs.declared.changes.Change.{Change}
use Rattle.vg_meta.specs.declared.changes.Change.TheVariants.{Create, Cut, Grow, Mark, Remove, Rename}
use Rattle.vg_meta.specs.declared.changes.Tag.TheVariants.{Hidden}
use Rattle.vg_meta.proofs.ByName.{changes_by_name}
use Rattle.vg_meta.proofs.ChangeLaws.{IsTable-applied}
use Rattle.vg_meta.proofs.RowLaws.{row_of-without_other}
use Rattle.vg_volumes.specs.Sites.{Site}
use Rattle.sm_standing.specs.Entries.{folding, head, image_with, is_folding, is_making, is_there, making, of_row, second}
use Rattle.sm_standing.specs.Opened.{applied_all, base_changes, changes_back, is_longer, under_name, undo_changes, undone, wanted}
use Rattle.sm_standing.specs.Unfolded.{unfolded, without_entry}
use Rattle.sm_standing.proofs.DisksShown.{row_of-In}
use Rattle.sm_standing.proofs.Orders.{rising_ext}
use Rattle.sm_ready.proofs.EntryKinds.{image_not_folding}
use Rattle.sm_ready.specs.Cleaned.{HasFewRemovals}
use Rattle.sm_ready.specs.Runs.{AllMay}
use Rattle.sm_ready.proofs.RowLaws.{found_in, rising_rows, row_cmp}
use Rattle.sm_checks.specs.Openable.{IsOpenable}
use Rattle.sm_recover.specs.Repairs.{HasFewLogs, IsEndable, IsUndoable}
use Rattle.sm_recover.specs.Steps.{IsPartOf, ends_copy, first_changes, uncopied}
use Rattle.sm_recover.proofs.CountLaws.{IsLean, IsSmall, names_counted, small_fits, small_next}
use Rattle.sm_checks.proofs.EntryLaws.{base_found, undone_applied}
use Rattle.sm_recover.proofs.UndoTables.{back_image, undo_allowed}
use Rattle.sm_recover.proofs.StepLaws.{part_few}
use Rattle.sm_recover.proofs.UndoneLaws.{decide}
use Rattle.sm_recover.proofs.UnfoldLaws.{HasFolding, changes_same, folding_found, may_end, undoable_unfolded, unfolded_is, unfolded_none}

volume_total : IsTotalOrder row_cmp
volume_total = record {
  antisymm = λ x y. name_cmp_total.antisymm x.name y.name;
  trans = λ x y z. name_cmp_total.trans x.name y.name z.name;
  congr = λ x y z. name_cmp_total.congr x.name y.name z.name;
}

-- ---- the changes with the entry, and without it

-- a change of one volume, or of none, that is none of the entry's
abbrev pub IsBeside : Name → Change → Type 0
IsBeside e c = IsLean c × (SpeaksOf c e → ⊥)

-- what a change does to volumes by name is the same where they are the same but for one
same_changes : (count : ℕ) (e : Name) (c : Change) (old new old' new' : Name → Option Row) → IsBeside e c → ((n : Name) → n ≢ e → old n ≡ old' n) → Changes count c old new → Changes count c old' new' → (n : Name) → n ≢ e → new n ≡ new' n
same_changes count e (Create name fresh es) old new old' new' beside same x y n other = absurd beside.0
same_changes count e (Grow name es) old new old' new' beside same x y n other = absurd beside.0
same_changes count e (Remove name) old new old' new' beside same x y n other = by (decide n name)
  where
    by : (n ≡ name) ⊎ (n ≢ name) → new n ≡ new' n
    by (inl is) = ap new is ∙ x.does.2 ∙ sym y.does.2 ∙ ap new' (sym is)
    by (inr away) = x.others n away ∙ same n other ∙ sym (y.others n away)
same_changes count e (Cut name keep) old new old' new' beside same x y n other = by (decide n name)
  where
    row_is : name ≢ e → x.does.0 ≡ y.does.0
    row_is away = same_Some x.does.0 y.does.0 (sym x.does.1 ∙ same name away ∙ y.does.1)

    by : (n ≡ name) ⊎ (n ≢ name) → new n ≡ new' n
    by (inl is) = ap new is ∙ x.does.2 ∙ ap (λ r. Some (cut_to keep r)) (row_is (λ at. other (is ∙ at))) ∙ sym y.does.2 ∙ ap new' (sym is)
    by (inr away) = x.others n away ∙ same n other ∙ sym (y.others n away)
same_changes count e (Mark name tag on) old new old' new' beside same x y n other = by (decide n name)
  where
    row_is : name ≢ e → x.does.0 ≡ y.does.0
    row_is away = same_Some x.does.0 y.does.0 (sym x.does.1 ∙ same name away ∙ y.does.1)

    by : (n ≡ name) ⊎ (n ≢ name) → new n ≡ new' n
    by (inl is) = ap new is ∙ x.does.2 ∙ ap (λ r. Some (tagged tag on r)) (row_is (λ at. other (is ∙ at))) ∙ sym y.does.2 ∙ ap new' (sym is)
    by (inr away) = x.others n away ∙ same n other ∙ sym (y.others n away)
same_changes count e (Rename from to) old new old' new' beside same x y n other = by (decide n from) (decide n to)
  where
    row_is : x.does.0 ≡ y.does.0
    row_is = same_Some x.does.0 y.does.0 (sym x.does.1 ∙ same from (λ at. beside.1 (inl (sym at))) ∙ y.does.1)

    by : (n ≡ from) ⊎ (n ≢ from) → (n ≡ to) ⊎ (n ≢ to) → new n ≡ new' n
    by (inl is) b = ap new is ∙ x.does.3 ∙ sym y.does.3 ∙ ap new' (sym is)
    by (inr a) (inl is) = ap new is ∙ x.does.4 ∙ ap (λ r. Some (renamed to r)) row_is ∙ sym y.does.4 ∙ ap new' (sym is)
    by (inr a) (inr b) = x.others n (λ of. ⊎_elim a b of) ∙ same n other ∙ sym (y.others n (λ of. ⊎_elim a b of))

-- a change that is allowed without the entry is allowed with it
allowed_beside : (count : ℕ) (e : Name) (t : VolumeTable) (c : Change) → IsBeside e c → Permits count (applied t (Remove e)) c → Permits count t c
allowed_beside count e t (Create name fresh es) beside a = absurd beside.0
allowed_beside count e t (Grow name es) beside a = absurd beside.0
allowed_beside count e t (Remove name) beside a = record { row = a.row; there = sym (row_of-without_other t.volumes e name (λ is. beside.1 is)) ∙ a.there; not_mgt = a.not_mgt }
allowed_beside count e t (Cut name keep) beside a = record { row = a.row; there = sym (row_of-without_other t.volumes e name (λ is. beside.1 is)) ∙ a.there; image = a.image; some_kept = a.some_kept; some_gone = a.some_gone }
allowed_beside count e t (Mark name tag on) beside a = record { row = a.row; there = sym (row_of-without_other t.volumes e name (λ is. beside.1 is)) ∙ a.there; taking = a.taking; otherwise = a.otherwise }
allowed_beside count e t (Rename from to) beside a = record {
  row = a.row;
  there = sym (row_of-without_other t.volumes e from (λ is. beside.1 (inl is))) ∙ a.there;
  name_proper = a.name_proper;
  new_name = sym (row_of-without_other t.volumes e to (λ is. beside.1 (inr is))) ∙ a.new_name;
  same_kind = a.same_kind;
}

-- tables of the same volumes and the same number are one
pub same_table : (count : ℕ) (t u : VolumeTable) → IsTable count t → IsTable count u → t.sequence ≡ u.sequence → ((n : Name) → rows t n ≡ rows u n) → t ≡ u
same_table count t u x y number same =
    ap₂ (λ k rs. let v : VolumeTable = record { sequence = k; volumes = rs } in v) number
    (rising_ext row_cmp volume_total t.volumes u.volumes (rising_rows t.volumes x.volumes.rising) (rising_rows u.volumes y.volumes.rising)
    (λ r i. (row_of-In u.volumes r.name r (sym (same r.name) ∙ found_in t.volumes x.volumes.rising r i)).0)
    (λ r i. (row_of-In t.volumes r.name r (same r.name ∙ found_in u.volumes y.volumes.rising r i)).0))

-- what is known behind changes that are made while the entry stands
pub record IsBehind (count : ℕ) (e : Name) (r : Row) (t : VolumeTable) (cs : List Change) : Type 0 where
  pub may : AllMay count t cs
  pub small : IsSmall count (applied_all t cs)
  pub there : rows (applied_all t cs) e ≡ Some r
  pub less : applied (applied_all t cs) (Remove e) ≡ applied_all (applied t (Remove e)) cs

module _ (count : ℕ) (few : count ≤ extent_limit) (e : Name) (r : Row) (not_mgt : e ≢ Mgt) where
  one_beside : (t : VolumeTable) (c : Change) → IsBeside e c → IsSmall count t → rows t e ≡ Some r → Permits count (applied t (Remove e)) c
      → Permits count t c × (rows (applied t c) e ≡ Some r) × (applied (applied t c) (Remove e) ≡ applied (applied t (Remove e)) c)
  one_beside t c beside small there a =
      let mine = allowed_beside count e t c beside a in
      let ends : Permits count t (Remove e) = record { row = r; there = there; not_mgt = not_mgt } in
      let first = IsTable-applied count t c small.table mine in
      let less = IsTable-applied count t (Remove e) small.table ends in
      let by = changes_by_name count t c small.table mine in
      let still : rows (applied t c) e ≡ Some r = by.others e beside.1 ∙ there in
      let ends_later : Permits count (applied t c) (Remove e) = record { row = r; there = still; not_mgt = not_mgt } in
      let after = changes_by_name count (applied t c) (Remove e) first ends_later in
      let before = changes_by_name count t (Remove e) small.table ends in
      let other = changes_by_name count (applied t (Remove e)) c less a in (
        mine,
        still,
        same_table count (applied (applied t c) (Remove e)) (applied (applied t (Remove e)) c) (IsTable-applied count (applied t c) (Remove e) first ends_later) (IsTable-applied count (applied t (Remove e)) c less a) refl (λ n. at n (decide n e) after before by other),
      )
    where
      at : (n : Name) → (n ≡ e) ⊎ (n ≢ e) → Changes count (Remove e) (rows (applied t c)) (rows (applied (applied t c) (Remove e))) → Changes count (Remove e) (rows t) (rows (applied t (Remove e)))
          → Changes count c (rows t) (rows (applied t c)) → Changes count c (rows (applied t (Remove e))) (rows (applied (applied t (Remove e)) c)) → rows (applied (applied t c) (Remove e)) n ≡ rows (applied (applied t (Remove e)) c) n
      at n (inl is) after before by other = ap (rows (applied (applied t c) (Remove e))) is ∙ after.does.2 ∙ sym (ap (rows (applied (applied t (Remove e)) c)) is ∙ other.others e beside.1 ∙ before.does.2)
      at n (inr away) after before by other =
          after.others n away
          ∙ same_changes count e c (rows t) (rows (applied t c)) (rows (applied t (Remove e))) (rows (applied (applied t (Remove e)) c)) beside (λ m apart. sym (before.others m apart)) by other n away

  pub beside_all : (t : VolumeTable) (cs : List Change) → AllByRecursion (IsBeside e) cs → IsSmall count t → rows t e ≡ Some r → AllMay count (applied t (Remove e)) cs → IsBehind count e r t cs
  beside_all t [] each small there may = record { may = tt; small = small; there = there; less = refl }
  beside_all t (c ∷ cs) each small there may =
      let one = one_beside t c each.0 small there may.0 in
      let next = small_next c small one.0 each.0.0 in
      let rest = beside_all (applied t c) cs each.1 next one.1 (subst (λ u. AllMay count u cs) (sym one.2) may.2) in
      record {
        may = (one.0, small_fits few next, rest.may);
        small = rest.small;
        there = rest.there;
        less = rest.less ∙ ap (λ u. applied_all u cs) one.2;
      }

-- ---- the changes that undo are none of the entry's

pub all_wanted : (P : Change → Type 0) (b : Bool) (c : Change) → P c → AllByRecursion P (wanted b c)
all_wanted P true c it = (it, tt)
all_wanted P false c it = tt

pub all_join : (P : Change → Type 0) (xs ys : List Change) → AllByRecursion P xs → AllByRecursion P ys → AllByRecursion P (xs ++ ys)
all_join P [] ys front behind = behind
all_join P (c ∷ xs) ys front behind = (front.0, all_join P xs ys front.1 behind)

module _ (e : Name) (folds : is_folding e ≡ true) where
  away : (n : Name) → is_folding n ≡ false → e ≡ n → ⊥
  away n other is = true≢false (sym folds ∙ ap is_folding is ∙ other)

  base_beside : (t : VolumeTable) (d b : List ℕ) (o : Option Name) → image_with t b ≡ o → AllByRecursion (IsBeside e) (base_changes t d o)
  base_beside t d b None none = tt
  base_beside t d b (Some from) found =
      let k = base_found t b from found in
      let image : is_image from ≡ true = ⊎_elim (λ is. ap is_image is) (λ is. ap is_image is) k.name in
      all_join (IsBeside e) (wanted (is_there t (Vhd d)) (Remove (Vhd d))) _ (all_wanted (IsBeside e) (is_there t (Vhd d)) (Remove (Vhd d)) (tt, away (Vhd d) refl))
      (all_join (IsBeside e) (wanted (of_row (λ r. r.hidden) (rows t from)) (Mark from Hidden false)) _
      (all_wanted (IsBeside e) (of_row (λ r. r.hidden) (rows t from)) (Mark from Hidden false) (tt, away from (image_not_folding from image)))
      (((image, back_image from d), ⊎_elim (away from (image_not_folding from image)) (away (under_name from d) (image_not_folding (under_name from d) (back_image from d)))), tt))

  back_beside : (t : VolumeTable) (n : Name) → AllByRecursion (IsBeside e) (changes_back t n)
  back_beside t (Inflate u k) =
      all_join (IsBeside e) (wanted (of_row (is_longer k) (rows t (Vhd u))) (Cut (Vhd u) k)) _ (all_wanted (IsBeside e) (of_row (is_longer k) (rows t (Vhd u))) (Cut (Vhd u) k) (tt, away (Vhd u) refl)) ((tt, away (Inflate u k) refl), tt)
  back_beside t (Clone d b w) =
      all_join (IsBeside e) (wanted (is_there t (Vhd w)) (Remove (Vhd w))) _ (all_wanted (IsBeside e) (is_there t (Vhd w)) (Remove (Vhd w)) (tt, away (Vhd w) refl))
      (all_join (IsBeside e) (base_changes t d (image_with t b)) _ (base_beside t d b (image_with t b) refl) ((tt, away (Clone d b w) refl), tt))
  back_beside t Mgt = tt
  back_beside t (Vhd u) = tt
  back_beside t (Raw u) = tt
  back_beside t (Old u) = tt
  back_beside t (Cbt u) = tt
  back_beside t (Coalesce v p) = tt
  back_beside t (Relink v p) = tt
  back_beside t (Leaf l p) = tt

  undo_beside : (t : VolumeTable) → AllByRecursion (IsBeside e) (undo_changes t)
  unfolding undo_changes
  undo_beside t = by (head (making t))
    where
      by : (o : Option Name) → AllByRecursion (IsBeside e) (elim o as (λ _. List Change) [ None ↦ [] | Some n ↦ changes_back t n ])
      by None = tt
      by (Some n) = back_beside t n

-- ---- few entries

entry_groups : (n : Name) → is_entry n ≡ (is_making n || is_folding n)
entry_groups Mgt = refl
entry_groups (Vhd u) = refl
entry_groups (Raw u) = refl
entry_groups (Old u) = refl
entry_groups (Cbt u) = refl
entry_groups (Clone d b w) = refl
entry_groups (Inflate u k) = refl
entry_groups (Coalesce v p) = refl
entry_groups (Relink v p) = refl
entry_groups (Leaf l p) = refl

both_groups : (rs : List Row) → length (filter is_entry (names_of rs)) ≤ length (filter is_making (names_of rs)) + length (filter is_folding (names_of rs))
both_groups [] = omega arith
both_groups (r ∷ rs) = by (is_entry r.name) (is_making r.name) (is_folding r.name) (entry_groups r.name) (both_groups rs)
  where
    E : List Name
    E = filter is_entry (names_of rs)

    M : List Name
    M = filter is_making (names_of rs)

    F : List Name
    F = filter is_folding (names_of rs)

    by : (a b c : Bool) → a ≡ (b || c) → length E ≤ length M + length F → length (cond a (r.name ∷ E) E) ≤ length (cond b (r.name ∷ M) M) + length (cond c (r.name ∷ F) F)
    by true true true is h = omega (arith, h)
    by true true false is h = omega (arith, h)
    by true false true is h = omega (arith, h)
    by false false false is h = h
    by true false false is h = absurd (true≢false is)
    by false true c is h = absurd (true≢false (sym is))
    by false false true is h = absurd (true≢false (sym is))

one_at_most : (ns : List Name) → second ns ≡ None → length ns ≤ 1
one_at_most [] h = omega arith
one_at_most (n ∷ []) h = omega arith
one_at_most (n ∷ m ∷ ns) h = absurd (none-some m (sym h))

pub endable_small : {s : Site} {t : VolumeTable} → IsEndable s t → IsSmall s.count t
endable_small {s} {t} c = record {
  table = c.table;
  few_images = c.few_images;
  few_logs = c.few_logs;
  few_entries = omega (arith, names_counted t.volumes, both_groups t.volumes, one_at_most (making t) c.one_entry, one_at_most (folding t) c.one_folding);
}

pub openable_small : {s : Site} {t : VolumeTable} → IsOpenable s t → HasFewLogs t → IsSmall s.count t
openable_small {s} {t} c few_logs = record {
  table = c.table;
  few_images = c.few_images;
  few_logs = few_logs;
  few_entries = omega (arith, names_counted t.volumes, both_groups t.volumes, one_at_most (making t) c.one_entry, one_at_most (folding t) c.one_folding);
}

-- ---- in each case

-- no entry of that group is there, or that of a copy, or that of a link
abbrev pub EndCase : VolumeTable → Type 0
EndCase t = (head (folding t) ≡ None) ⊎ (((child parent : List ℕ) × HasFolding t (Coalesce child parent)) ⊎ ((child parent : List ℕ) × HasFolding t (Relink child parent)))

pub end_case : {s : Site} {t : VolumeTable} → IsEndable s t → EndCase t
end_case {s} {t} c = by (head (folding t)) refl
  where
    of : (n : Name) → HasFolding t n → EndCase t
    of (Coalesce v p) f = inr (inl (v, p, f))
    of (Relink v p) f = inr (inr (v, p, f))
    of (Leaf l p) f = absurd (true≢false (sym f.known))
    of Mgt f = absurd (true≢false (sym f.folds))
    of (Vhd u) f = absurd (true≢false (sym f.folds))
    of (Raw u) f = absurd (true≢false (sym f.folds))
    of (Old u) f = absurd (true≢false (sym f.folds))
    of (Cbt u) f = absurd (true≢false (sym f.folds))
    of (Clone d b w) f = absurd (true≢false (sym f.folds))
    of (Inflate u k) f = absurd (true≢false (sym f.folds))

    by : (o : Option Name) → head (folding t) ≡ o → EndCase t
    by None none = inl none
    by (Some n) found = of n (folding_found n c found)

module _ {s : Site} {t : VolumeTable} (c : IsEndable s t) where
  -- the changes, by the entry
  changes_at : (o : Option Name) → head (folding t) ≡ o → first_changes t ≡ ends_copy o ++ undo_changes (applied_all t (ends_copy o))
  changes_at o is = ap (λ x. ends_copy x ++ undo_changes (applied_all t (ends_copy x))) is

  uncopied_at : (o : Option Name) → head (folding t) ≡ o → uncopied t ≡ applied_all t (ends_copy o)
  uncopied_at o is = ap (λ x. applied_all t (ends_copy x)) is

  less_undoable : (e : Name) → HasFolding t e → IsUndoable s (applied t (Remove e))
  less_undoable e f = subst (IsUndoable s) (unfolded_is t e f) (undoable_unfolded c)

  pub link_behind : (v p : List ℕ) (f : HasFolding t (Relink v p)) → IsBehind s.count (Relink v p) f.entry t (undo_changes t)
  link_behind v p f =
      beside_all s.count c.few_extents (Relink v p) f.entry (λ is. let x = is in cc) t (undo_changes t) (undo_beside (Relink v p) refl t) (endable_small c) f.there
      (subst (AllMay s.count (applied t (Remove (Relink v p)))) (changes_same t (Relink v p) f) (undo_allowed (less_undoable (Relink v p) f)))

  -- each is allowed in its turn
  pub first_allowed : AllMay s.count t (first_changes t)
  first_allowed = by (end_case c)
    where
      by : EndCase t → AllMay s.count t (first_changes t)
      by (inl none) = subst (AllMay s.count t) (sym (changes_at None none)) (undo_allowed (subst (IsUndoable s) (unfolded_none none) (undoable_unfolded c)))
      by (inr (inl (v, p, f))) =
          let e = Coalesce v p in
          subst (AllMay s.count t) (sym (changes_at (Some e) (ap head f.alone)))
          (may_end t e f s c.table, small_fits c.few_extents (small_next (Remove e) (endable_small c) (may_end t e f s c.table) tt), undo_allowed (less_undoable e f))
      by (inr (inr (v, p, f))) = subst (AllMay s.count t) (sym (changes_at (Some (Relink v p)) (ap head f.alone))) (link_behind v p f).may

  -- how many they are
  pub first_long : length (first_changes t) ≤ length (undo_changes t) + length (folding t)
  first_long = by (end_case c)
    where
      by : EndCase t → length (first_changes t) ≤ length (undo_changes t) + length (folding t)
      by (inl none) = omega (arith, ap (λ (cs : List Change). length cs) (changes_at None none))
      by (inr (inl (v, p, f))) =
          let e = Coalesce v p in
          omega (arith, ap (λ (cs : List Change). length cs) (changes_at (Some e) (ap head f.alone)), ap (λ (cs : List Change). length cs) (changes_same t e f), ap (λ (ns : List Name). length ns) f.alone)
      by (inr (inr (v, p, f))) = omega (arith, ap (λ (cs : List Change). length cs) (changes_at (Some (Relink v p)) (ap head f.alone)))

  pub first_few : (u : VolumeTable) → IsPartOf t (first_changes t) u → HasFewRemovals t u
  first_few u part = omega (arith, part_few t (first_changes t) u part, first_long)

-- behind them
pub applied_join : (t : VolumeTable) (xs ys : List Change) → applied_all t (xs ++ ys) ≡ applied_all (applied_all t xs) ys
applied_join t [] ys = refl
applied_join t (c ∷ xs) ys = applied_join (applied t c) xs ys

pub first_table : (t : VolumeTable) → applied_all t (first_changes t) ≡ undone (uncopied t)
first_table t = applied_join t (ends_copy (head (folding t))) (undo_changes (uncopied t)) ∙ sym (undone_applied (uncopied t))

-- what is no entry of a copy or of a link is as it was
pub rows_unfolded : (t : VolumeTable) (n : Name) → is_folding n ≡ false → rows (unfolded t) n ≡ rows t n
unfolding unfolded
rows_unfolded t n other = by (folding t) (λ e i. (In-filter is_folding (names_of t.volumes) e i).1)
  where
    by : (ns : List Name) → ((e : Name) → In e ns → is_folding e ≡ true) → rows (without_entry t (head ns)) n ≡ rows t n
    by [] each = refl
    by (e ∷ ns) each = row_of-without_other t.volumes e n (λ is. true≢false (sym (each e (inl refl)) ∙ ap is_folding is ∙ other))
