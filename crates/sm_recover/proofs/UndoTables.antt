-- That the changes which undo a fork or an enlargement are allowed, each in its turn.
use Rattle.std.proofs.Common.{◌≡◌, ◌≢◌, ◌⊎◌, inl, inr, ⊎_elim, ℕ, ◌≤◌, Bool, true, false, cond, List, [], ◌∷◌, ◌++◌, length, filter, Option, Some, None, is_some, refl, sym, ap, ◌∙◌, subst, arith}
use Rattle.std.specs.List.{AllByRecursion}
use Rattle.std.proofs.lemmas.Bool.{ltb-true, true≢false}
use Rattle.std.proofs.lemmas.Option.{none-some}
use Rattle.common_laws.specs.Lists.{In}
use Rattle.common_laws.proofs.Options.{none_of_some}
use Rattle.sm_base.specs.Limits.{extent_limit}
use Rattle.sm_base.specs.Kinds.{is_image, is_entry}
use Rattle.sm_base.specs.Names.{IsName}
use Rattle.sm_base.specs.declared.names.Name.{Name}
use Rattle.sm_base.specs.declared.names.Name.TheVariants.{Mgt, Vhd, Raw, Old, Cbt, Clone, Inflate, Coalesce, Relink, Leaf}
use Rattle.vg_meta.specs.Changes.{Permits, applied}
use Rattle.vg_meta.specs.Tables.{Row, VolumeTable, names_of, rows}
use Rattle.vg_meta.specs.declared.changes.Change.{Change}
use Rattle.vg_meta.specs.declared.changes.Change.TheVariants.{Cut, Remove}
use Rattle.vg_meta.proofs.ByName.{changes_by_name}
use Rattle.vg_volumes.specs.Sites.{Site}
use Rattle.sm_standing.specs.Entries.{head, image_with, is_making, is_there, making, of_row, second}
use Rattle.sm_standing.specs.Opened.{applied_all, base_changes, changes_back, is_longer, under_name, undo_changes, wanted}
use Rattle.sm_standing.specs.Undone.{IsBeingEnlarged}
use Rattle.sm_standing.specs.Plain.{is_simple, is_simple_name}
use Rattle.sm_standing.proofs.PlainDisks.{all-In}
use Rattle.sm_standing.proofs.UndoneLaws.{entry_row}
use Rattle.sm_ready.specs.Runs.{AllMay}
use Rattle.sm_recover.specs.Repairs.{IsEndable, IsUndoable}
use Rattle.sm_recover.specs.Steps.{changes_of_base, is_marked}
use Rattle.sm_recover.proofs.BackLaws.{HasBase, IsGone, May, give_back, remove_one, remove_where, then_may}
use Rattle.sm_recover.proofs.CountLaws.{IsLean, IsSmall, may_join, may_one, names_counted, small_all, small_next}
use Rattle.sm_checks.proofs.EntryLaws.{IsFork, IsFound, IsStaged, base_found, base_made, base_twin, disk_base, disk_twin, enlarged_found, fork_found, made_parts}

pub staged : {s : Site} {t : VolumeTable} → IsUndoable s t → IsStaged s t
staged c = record { table = c.table; one_entry = c.one_entry; at_stage = c.at_stage; record_volume = c.record_volume }

pub staged_end : {s : Site} {t : VolumeTable} → IsEndable s t → IsStaged s t
staged_end c = record { table = c.table; one_entry = c.one_entry; at_stage = c.at_stage; record_volume = c.record_volume }

vhd_same : {u v : List ℕ} → Vhd u ≡ Vhd v → u ≡ v
vhd_same e = let x = e in cc

raw_same : {u v : List ℕ} → Raw u ≡ Raw v → u ≡ v
raw_same e = let x = e in cc

module _ {t : VolumeTable} {d b w : List ℕ} (f : IsFork t d b w) where
  -- the base as it is known before
  pub has_base : (from : Name) (found : image_with t b ≡ Some from) → HasBase t d from (base_found t b from found).row
  unfolding IsName
  has_base from found = of from (base_found t b from found).row k.there k.name
    where
      k : IsFound t b from
      k = base_found t b from found

      no_raw : rows t (Raw d) ≡ None
      no_raw = none_of_some (rows t (Raw d)) (made_parts {t = t} {d = d} {b = b} {w = w} (base_made f from found)).no_raw

      of : (n : Name) (r : Row) → rows t n ≡ Some r → (n ≡ Vhd b) ⊎ (n ≡ Raw b) → HasBase t d n r
      of n r there (inl is) = subst (λ m. HasBase t d m r) (sym is) (record {
        there = ap (rows t) (sym is) ∙ there;
        image = refl;
        not_own = λ e. disk_base f (sym (vhd_same e));
        not_to = λ e. disk_base f (sym (vhd_same e));
        named = f.named.0;
        kind = inl refl;
      })
      of n r there (inr is) = subst (λ m. HasBase t d m r) (sym is) (record {
        there = ap (rows t) (sym is) ∙ there;
        image = refl;
        not_own = λ e. let x = e in cc;
        not_to = λ e. disk_base f (sym (raw_same e));
        named = f.named.0;
        kind = inr (refl, no_raw);
      })

-- ---- the changes that undo a fork

-- without a base: the twin's new image and the entry are gone
pub record IsDropped (count : ℕ) (t u : VolumeTable) (d b w : List ℕ) : Type 0 where
  pub twin_gone : rows u (Vhd w) ≡ None
  pub entry_gone : rows u (Clone d b w) ≡ None
  pub others : (m : Name) → m ≢ Vhd w → m ≢ Clone d b w → rows u m ≡ rows t m
  pub small : IsSmall count u

-- with one: it has the disk's name, and is shown
pub record IsTakenBack (count : ℕ) (t u : VolumeTable) (d b w : List ℕ) (from : Name) (r : Row) : Type 0 where
  pub there : rows u (under_name from d) ≡ Some (record r { name = under_name from d; hidden = false })
  pub twin_gone : rows u (Vhd w) ≡ None
  pub from_gone : rows u from ≡ None
  pub own_gone : Vhd d ≢ under_name from d → rows u (Vhd d) ≡ None
  pub entry_gone : rows u (Clone d b w) ≡ None
  pub others : (m : Name) → m ≢ Vhd w → m ≢ Vhd d → m ≢ from → m ≢ under_name from d → m ≢ Clone d b w → rows u m ≡ rows t m
  pub small : IsSmall count u

other_kind : (d b w : List ℕ) (n : Name) → is_image n ≡ true → n ≢ Clone d b w
other_kind d b w n image is = true≢false (sym image ∙ ap is_image is)

pub back_image : (n : Name) (d : List ℕ) → is_image (under_name n d) ≡ true
back_image (Raw b) d = refl
back_image _ d = refl

pub back_not_twin : (n : Name) (d w : List ℕ) → d ≢ w → under_name n d ≢ Vhd w
back_not_twin (Raw b) d w other is = let x = is in cc
back_not_twin _ d w other is = other (vhd_same is)

module _ (count : ℕ) (extents : count ≤ extent_limit) {t : VolumeTable} {d b w : List ℕ} (f : IsFork t d b w) (small : IsSmall count t) where
  abbrev twin_back : List Change
  twin_back = wanted (is_there t (Vhd w)) (Remove (Vhd w))

  abbrev entry_back : List Change
  entry_back = Remove (Clone d b w) ∷ []

  twin_may : May count extents t twin_back (λ u. IsGone count extents t u (Vhd w))
  twin_may = remove_where count extents t (Vhd w) (is_there t (Vhd w)) small (λ e. let x = e in cc) refl

  pub none_back : image_with t b ≡ None → May count extents t (changes_back t (Clone d b w)) (λ u. IsDropped count t u d b w)
  none_back none = subst (λ o. May count extents t (twin_back ++ (base_changes t d o ++ entry_back)) (λ u. IsDropped count t u d b w)) (sym none)
      (then_may count extents twin_back entry_back twin_may (λ gone.
      let a = applied_all t twin_back in
      let m = remove_one count extents a (Clone d b w) f.row gone.small (λ e. let x = e in cc) (gone.others (Clone d b w) (λ e. let x = e in cc) ∙ f.there) in
      record {
        may = m.may;
        behind = record {
          twin_gone = m.behind.others (Vhd w) (λ e. let x = e in cc) ∙ gone.gone;
          entry_gone = m.behind.gone;
          others = λ n not_twin not_entry. m.behind.others n not_entry ∙ gone.others n not_twin;
          small = m.behind.small;
        };
      }))

  module _ (from : Name) (found : image_with t b ≡ Some from) where
    abbrev pub own : Row
    own = (base_found t b from found).row

    base : HasBase t d from own
    base = has_base f from found

    abbrev to : Name
    to = under_name from d

    pub from_not_twin : from ≢ Vhd w
    from_not_twin is = ⊎_elim (λ v. base_twin f (vhd_same (sym v ∙ is))) (λ r. let x : Raw b ≡ Vhd w = sym r ∙ is in cc) (base_found t b from found).name

    base_behind : {a : VolumeTable} → IsGone count extents t a (Vhd w) → HasBase a d from own
    base_behind {a} gone = record {
      there = gone.others from from_not_twin ∙ base.there;
      image = base.image;
      not_own = base.not_own;
      not_to = base.not_to;
      named = base.named;
      kind = ⊎_elim (λ is. inl is) (λ k. inr (k.0, gone.others (Raw d) (λ e. let x = e in cc) ∙ k.1)) base.kind;
    }

    pub some_back : May count extents t (changes_back t (Clone d b w)) (λ u. IsTakenBack count t u d b w from own)
    some_back = subst (λ o. May count extents t (twin_back ++ (base_changes t d o ++ entry_back)) (λ u. IsTakenBack count t u d b w from own)) (sym found)
        (then_may count extents twin_back (ys ++ entry_back) twin_may (λ gone.
        let a = applied_all t twin_back in
        then_may count extents ys entry_back
        (give_back count extents a d from own (is_there t (Vhd d)) (is_marked t (Some from)) gone.small (base_behind gone) (ap is_some (gone.others (Vhd d) (λ e. disk_twin f (vhd_same e)))) (sym (ap (λ o. hidden_in o) base.there)))
        (λ given.
        let c = applied_all a ys in
        let entry_there : rows c (Clone d b w) ≡ Some f.row =
        given.others (Clone d b w) (λ e. let x = e in cc) (λ e. other_kind d b w from base.image (sym e)) (λ e. other_kind d b w to (back_image from d) (sym e)) ∙ gone.others (Clone d b w) (λ e. let x = e in cc) ∙ f.there in
        let m = remove_one count extents c (Clone d b w) f.row given.small (λ e. let x = e in cc) entry_there in
        record {
          may = m.may;
          behind = record {
            there = m.behind.others to (other_kind d b w to (back_image from d)) ∙ given.there;
            twin_gone = m.behind.others (Vhd w) (λ e. let x = e in cc)
                ∙ given.others (Vhd w) (λ e. disk_twin f (vhd_same (sym e))) (λ e. from_not_twin (sym e)) (λ e. back_not_twin from d w (disk_twin f) (sym e)) ∙ gone.gone;
            from_gone = m.behind.others from (other_kind d b w from base.image) ∙ given.gone;
            own_gone = λ apart. m.behind.others (Vhd d) (λ e. let x = e in cc) ∙ given.own_gone apart;
            entry_gone = m.behind.gone;
            others = λ n not_twin not_own not_from not_to not_entry. m.behind.others n not_entry ∙ given.others n not_own not_from not_to ∙ gone.others n not_twin;
            small = m.behind.small;
          };
        })))
      where
        ys : List Change
        ys = changes_of_base d (Some from) (is_there t (Vhd d)) (is_marked t (Some from))

        hidden_in : Option Row → Bool
        hidden_in None = false
        hidden_in (Some r) = r.hidden

-- ---- and an enlargement

module _ (count : ℕ) (extents : count ≤ extent_limit) {t : VolumeTable} {u : List ℕ} {e : ℕ} (w : IsBeingEnlarged t u e) (small : IsSmall count t) where
  pub enlargement_back : AllMay count t (changes_back t (Inflate u e))
  enlargement_back = subst (λ o. AllMay count t (wanted (of_row (is_longer e) o) (Cut (Vhd u) e) ++ Remove (Inflate u e) ∷ [])) (sym w.there) (by (is_longer e w.own) refl)
    where
      entry : (r : Row) × (rows t (Inflate u e) ≡ Some r)
      entry = entry_row t u e w

      removed : (a : VolumeTable) → IsSmall count a → rows a (Inflate u e) ≡ Some entry.0 → AllMay count a (Remove (Inflate u e) ∷ [])
      removed a few there = (remove_one count extents a (Inflate u e) entry.0 few (λ is. let x = is in cc) there).may

      by : (b : Bool) → is_longer e w.own ≡ b → AllMay count t (wanted b (Cut (Vhd u) e) ++ Remove (Inflate u e) ∷ [])
      by false short = removed t small entry.1
      by true long =
          let allowed : Permits count t (Cut (Vhd u) e) = record { row = w.own; there = w.there; image = refl; some_kept = w.some; some_gone = ltb-true e (length w.own.extents) long } in
          let changes = changes_by_name count t (Cut (Vhd u) e) small.table allowed in
          may_join count t (Cut (Vhd u) e ∷ []) (Remove (Inflate u e) ∷ []) (may_one (Cut (Vhd u) e) extents small allowed tt)
          (removed (applied t (Cut (Vhd u) e)) (small_next (Cut (Vhd u) e) small allowed tt) (changes.others (Inflate u e) (λ is. let x = is in cc) ∙ entry.1))

  -- and what is left is small enough
  pub enlargement_small : IsSmall count (applied_all t (changes_back t (Inflate u e)))
  enlargement_small = small_all t (changes_back t (Inflate u e)) small enlargement_back (lean (of_row (is_longer e) (rows t (Vhd u))))
    where
      lean : (b : Bool) → AllByRecursion IsLean (wanted b (Cut (Vhd u) e) ++ Remove (Inflate u e) ∷ [])
      lean true = (tt, (tt, tt))
      lean false = (tt, tt)

-- ---- what is known of the table

-- it is small enough
two_entries : (rs : List Row) → ((r : Row) → In r rs → is_entry r.name ≡ is_making r.name) → length (filter is_entry (names_of rs)) ≡ length (filter is_making (names_of rs))
two_entries [] same = refl
two_entries (r ∷ rs) same = by (is_entry r.name) (is_making r.name) (same r (inl refl)) (two_entries rs (λ s i. same s (inr i)))
  where
    by : (a b : Bool) → a ≡ b → length (filter is_entry (names_of rs)) ≡ length (filter is_making (names_of rs))
        → length (cond a (r.name ∷ filter is_entry (names_of rs)) (filter is_entry (names_of rs))) ≡ length (cond b (r.name ∷ filter is_making (names_of rs)) (filter is_making (names_of rs)))
    by true true is rest = omega (arith, rest)
    by false false is rest = rest
    by true false is rest = absurd (true≢false is)
    by false true is rest = absurd (true≢false (sym is))

simple_entry : (n : Name) → is_simple_name n ≡ true → is_entry n ≡ is_making n
simple_entry Mgt h = refl
simple_entry (Vhd u) h = refl
simple_entry (Raw u) h = refl
simple_entry (Cbt u) h = refl
simple_entry (Clone d b w) h = refl
simple_entry (Inflate u e) h = refl
simple_entry _ h = absurd (true≢false (sym h))

one_at_most : (ns : List Name) → second ns ≡ None → length ns ≤ 1
one_at_most [] h = omega arith
one_at_most (n ∷ []) h = omega arith
one_at_most (n ∷ m ∷ ns) h = absurd (none-some m (sym h))

pub undoable_small : {s : Site} {t : VolumeTable} → IsUndoable s t → IsSmall s.count t
undoable_small {s} {t} c = record {
  table = c.table;
  few_images = c.few_images;
  few_logs = c.few_logs;
  few_entries =
      let each = λ (r : Row) (i : In r t.volumes). simple_entry r.name (all-In (λ (x : Row). is_simple x ≡ true) t.volumes r c.simple i) in
      omega (arith, names_counted t.volumes, two_entries t.volumes each, one_at_most (making t) c.one_entry);
}

-- each change is allowed in its turn
pub back_allowed : {s : Site} {t : VolumeTable} (n : Name) → IsUndoable s t → head (making t) ≡ Some n → AllMay s.count t (changes_back t n)
back_allowed (Inflate u e) c found = enlargement_back _ c.few_extents (enlarged_found u e (staged c) found) (undoable_small c)
back_allowed {s} {t} (Clone d b w) c found = by (image_with t b) refl
  where
    f : IsFork t d b w
    f = fork_found d b w (staged c) found

    by : (o : Option Name) → image_with t b ≡ o → AllMay s.count t (changes_back t (Clone d b w))
    by None none = (none_back s.count c.few_extents f (undoable_small c) none).may
    by (Some from) there = (some_back s.count c.few_extents f (undoable_small c) from there).may
back_allowed Mgt c found = tt
back_allowed (Vhd u) c found = tt
back_allowed (Raw u) c found = tt
back_allowed (Old u) c found = tt
back_allowed (Cbt u) c found = tt
back_allowed (Coalesce v p) c found = tt
back_allowed (Relink v p) c found = tt
back_allowed (Leaf l p) c found = tt

pub undo_allowed : {s : Site} {t : VolumeTable} → IsUndoable s t → AllMay s.count t (undo_changes t)
unfolding undo_changes
undo_allowed {s} {t} c = by (head (making t)) refl
  where
    by : (o : Option Name) → head (making t) ≡ o → AllMay s.count t (elim o as (λ _. List Change) [ None ↦ [] | Some n ↦ changes_back t n ])
    by None none = tt
    by (Some n) found = back_allowed n c found
