-- Once the folding of a leaf is ended, or where there is none: what the checks by the table leave known, and memory beside it.
use Rattle.std.proofs.Common.{◌≡◌, ◌≢◌, ◌⊎◌, inl, inr, ⊎_elim, ℕ, ◌+◌, ◌≤◌, Bool, true, false, cond, ◌||◌, List, [], ◌∷◌, ◌++◌, length, Option, Some, None, refl, sym, ap, ap₂, ◌∙◌, subst, subst₂, arith}
use Rattle.std.specs.List.{AllByRecursion, list_any}
use Rattle.std.specs.Str.{bytes_eq}
use Rattle.std.proofs.lemmas.Bool.{true≢false}
use Rattle.std.proofs.lemmas.Option.{none-some}
use Rattle.common_laws.specs.Lists.{In, first_some}
use Rattle.common_laws.proofs.Booleans.{not_false}
use Rattle.common_laws.proofs.Lists.{In-map_at, filter-In}
use Rattle.sm_base.specs.Limits.{extent_limit}
use Rattle.sm_base.specs.Kinds.{is_log}
use Rattle.sm_base.specs.declared.names.Name.{Name}
use Rattle.sm_base.specs.declared.names.Name.TheVariants.{Mgt, Vhd, Raw, Old, Cbt, Clone, Inflate, Coalesce, Relink, Leaf}
use Rattle.vg_meta.specs.Changes.{applied}
use Rattle.vg_meta.specs.Tables.{Row, VolumeTable, names_of, rows}
use Rattle.vg_meta.specs.declared.changes.Change.{Change}
use Rattle.vg_meta.specs.declared.changes.Change.TheVariants.{Cut, Mark, Remove, Rename}
use Rattle.vg_meta.specs.declared.changes.Tag.TheVariants.{Hidden}
use Rattle.vg_volumes.specs.Sites.{Site}
use Rattle.vg_volumes.specs.declared.stores.Store.{Ghosts}
use Rattle.sm_record.specs.declared.records.Record.{Record}
use Rattle.sm_mgt.specs.Places.{place_count}
use Rattle.sm_standing.specs.Checks.{fault_of, PassesButLeaf, is_orphaned, lost_entry_fault, misnamed_fault, old_leaf_fault, record_volume_fault, second_entry_fault, too_many_fault}
use Rattle.sm_standing.specs.Entries.{folding, head, is_folding, is_leaf_renamed, is_leaf_swapped, is_old_of, making, of_row, second}
use Rattle.sm_standing.specs.Leaves.{ended_outline}
use Rattle.sm_standing.specs.Opened.{applied_all, changes_back, changes_ending, end_changes, ended, is_longer, leaf_changes, leaf_gone, parent_changes, undo_changes, wanted}
use Rattle.sm_standing.specs.Outlines.{Outline}
use Rattle.sm_standing.specs.Plain.{IsKnown, is_known, is_known_name}
use Rattle.sm_standing.specs.Undone.{AllPermit}
use Rattle.sm_standing.specs.Unfolded.{unfolded}
use Rattle.sm_standing.proofs.LeafEnds.{ends_are}
use Rattle.sm_standing.proofs.PlainKept.{all-of, outline_but_leaf, simple_known}
use Rattle.vhd_chain.specs.declared.rows.TreeRow.{TreeRow}
use Rattle.sm_ready.specs.Runs.{AllMay}
use Rattle.sm_recover.specs.Ending.{CanEnd, IsEndedSo, leaf_back, leaf_ends, rows_ended, unleafed}
use Rattle.sm_checks.specs.Faults.{HasLinks, HasPlaces, HasTable, table_faults}
use Rattle.sm_checks.specs.Loaded.{AreRowsOf, HasEachRow, read_volumes, shortened, stored_with}
use Rattle.sm_checks.specs.Openable.{IsOpenable}
use Rattle.sm_recover.specs.Repairs.{HasFewLogs, IsEndable}
use Rattle.sm_recover.proofs.CountLaws.{IsLean, IsSmall, small_all, small_fits, small_next}
use Rattle.sm_recover.proofs.EndLaws.{EndCase, all_join, all_wanted, end_case, openable_small}
use Rattle.sm_recover.proofs.UndoLaws.{IsOld}
use Rattle.sm_recover.proofs.UnfoldLaws.{HasFolding, changes_same, folding_none, unfolded_is, unfolded_none}
use Rattle.sm_recover.proofs.EndedMemory as memory
use Rattle.sm_recover.proofs.EndingRows.{ended_some}
use Rattle.sm_checks.proofs.EntryLaws.{staged_open}
use Rattle.sm_checks.proofs.OpeningLaws.{TablesSay, checked_from}

-- ---- no leaf is being folded

-- of one name at most the head is each
is_head : (ns : List Name) (n : Name) → second ns ≡ None → In n ns → head ns ≡ Some n
is_head [] n one i = absurd i
is_head (m ∷ []) n one (inl is) = ap Some (sym is)
is_head (m ∷ []) n one (inr i) = absurd i
is_head (m ∷ k ∷ ns) n one i = absurd (none-some k (sym one))

any_in : (test : Name → Bool) (ns : List Name) → list_any test ns ≡ true → (n : Name) × In n ns × (test n ≡ true)
any_in test [] h = absurd (true≢false (sym h))
any_in test (n ∷ ns) h = by (test n) refl (any_in test ns) h
  where
    by : (b : Bool) → test n ≡ b → (list_any test ns ≡ true → (m : Name) × In m ns × (test m ≡ true)) → (b || list_any test ns) ≡ true → (m : Name) × In m (n ∷ ns) × (test m ≡ true)
    by true is rest f = (n, inl refl, is)
    by false is rest f = let k = rest f in (k.0, inr k.1, k.2)

pub known_of : {s : Site} {t : VolumeTable} → IsOpenable s t → ((l p : List ℕ) → head (folding t) ≢ Some (Leaf l p)) → IsKnown t
known_of {s} {t} c other = all-of (λ r. is_known r ≡ true) t.volumes (λ r i. by r i r.name refl)
  where
    folds : (r : Row) → In r t.volumes → is_folding r.name ≡ true → In r.name (folding t)
    folds r i is = filter-In is_folding (names_of t.volumes) r.name (In-map_at (λ (x : Row). x.name) t.volumes r i) is

    old_none : (u : List ℕ) → is_orphaned t (Old u) ≡ false → ⊥
    old_none u owned =
        let k = any_in (is_old_of t u) (folding t) (not_false _ owned) in
        of k.0 k.1 k.2
      where
        of : (e : Name) → In e (folding t) → is_old_of t u e ≡ true → ⊥
        of (Leaf l p) i h = other l p (is_head (folding t) (Leaf l p) c.one_folding i)
        of Mgt i h = true≢false (sym h)
        of (Vhd v) i h = true≢false (sym h)
        of (Raw v) i h = true≢false (sym h)
        of (Old v) i h = true≢false (sym h)
        of (Cbt v) i h = true≢false (sym h)
        of (Clone d b w) i h = true≢false (sym h)
        of (Inflate v e) i h = true≢false (sym h)
        of (Coalesce v p) i h = true≢false (sym h)
        of (Relink v p) i h = true≢false (sym h)

    by : (r : Row) → In r t.volumes → (n : Name) → r.name ≡ n → is_known r ≡ true
    by r i (Leaf l p) is = absurd (other l p (is_head (folding t) (Leaf l p) c.one_folding (subst (λ m. In m (folding t)) is (folds r i (ap is_folding is)))))
    by r i (Old u) is = absurd (old_none u (sym (ap (is_orphaned t) is) ∙ c.owned r i))
    by r i (Cbt u) is = ap is_known_name is
    by r i Mgt is = ap is_known_name is
    by r i (Vhd u) is = ap is_known_name is
    by r i (Raw u) is = ap is_known_name is
    by r i (Clone d b w) is = ap is_known_name is
    by r i (Inflate u e) is = ap is_known_name is
    by r i (Coalesce v p) is = ap is_known_name is
    by r i (Relink v p) is = ap is_known_name is

pub endable_of : {s : Site} {t : VolumeTable} → IsOpenable s t → HasFewLogs t → IsKnown t → IsEndable s t
endable_of c few_logs known = record {
  table = c.table;
  few_extents = c.few_extents;
  known = known;
  one_entry = c.one_entry;
  one_folding = c.one_folding;
  at_stage = c.at_stage;
  named = c.named;
  few_images = c.few_images;
  few_logs = few_logs;
  record_volume = c.record_volume;
}

-- ---- the entry of a leaf, or another, or none

pub leaf_or_not : (o : Option Name) → ((l p : List ℕ) × (o ≡ Some (Leaf l p))) ⊎ ((l p : List ℕ) → o ≢ Some (Leaf l p))
leaf_or_not None = inr (λ l p is. none-some (Leaf l p) is)
leaf_or_not (Some (Leaf l p)) = inl (l, p, refl)
leaf_or_not (Some Mgt) = inr (λ l p is. let x = is in cc)
leaf_or_not (Some (Vhd v)) = inr (λ l p is. let x = is in cc)
leaf_or_not (Some (Raw v)) = inr (λ l p is. let x = is in cc)
leaf_or_not (Some (Old v)) = inr (λ l p is. let x = is in cc)
leaf_or_not (Some (Cbt v)) = inr (λ l p is. let x = is in cc)
leaf_or_not (Some (Clone d b w)) = inr (λ l p is. let x = is in cc)
leaf_or_not (Some (Inflate v e)) = inr (λ l p is. let x = is in cc)
leaf_or_not (Some (Coalesce v p)) = inr (λ l p is. let x = is in cc)
leaf_or_not (Some (Relink v p)) = inr (λ l p is. let x = is in cc)

-- where it is not that of a leaf nothing is ended
pub record IsUnled (t : VolumeTable) (xs : List TreeRow) (o : Option Name) : Type 0 where
  pub nothing : leaf_ends t o ≡ []
  pub same : leaf_back t o xs ≡ xs
  pub can : CanEnd t o xs

pub is_unled : (t : VolumeTable) (xs : List TreeRow) (o : Option Name) → ((l p : List ℕ) → o ≢ Some (Leaf l p)) → IsUnled t xs o
is_unled t xs (Some (Leaf l p)) other = absurd (other l p refl)
is_unled t xs None other = record { nothing = refl; same = refl; can = tt }
is_unled t xs (Some Mgt) other = record { nothing = refl; same = refl; can = tt }
is_unled t xs (Some (Vhd v)) other = record { nothing = refl; same = refl; can = tt }
is_unled t xs (Some (Raw v)) other = record { nothing = refl; same = refl; can = tt }
is_unled t xs (Some (Old v)) other = record { nothing = refl; same = refl; can = tt }
is_unled t xs (Some (Cbt v)) other = record { nothing = refl; same = refl; can = tt }
is_unled t xs (Some (Clone d b w)) other = record { nothing = refl; same = refl; can = tt }
is_unled t xs (Some (Inflate v e)) other = record { nothing = refl; same = refl; can = tt }
is_unled t xs (Some (Coalesce v p)) other = record { nothing = refl; same = refl; can = tt }
is_unled t xs (Some (Relink v p)) other = record { nothing = refl; same = refl; can = tt }

rows_unled : (t : VolumeTable) (xs : List TreeRow) → ((l p : List ℕ) → head (folding t) ≢ Some (Leaf l p)) → rows_ended t xs ≡ xs
unfolding rows_ended
rows_unled t xs other = let no = is_unled t xs (head (folding t)) other in no.same

-- ---- what looks at the table alone

pub tables_alike : (x y : Outline) → y.extent ≡ x.extent → y.table ≡ x.table → first_some (table_faults y) ≡ first_some (table_faults x)
unfolding record_volume_fault too_many_fault misnamed_fault second_entry_fault lost_entry_fault old_leaf_fault
tables_alike x y extent table = ap₂ (λ e t. first_some (table_faults (record y { extent = e; table = t }))) extent table

pub first_front : {A : Type 0} (xs ys : List (Option A)) → first_some (xs ++ ys) ≡ None → first_some xs ≡ None
first_front [] ys h = refl
first_front (Some y ∷ xs) ys h = h
first_front (None ∷ xs) ys h = first_front xs ys h

-- ---- what holds of each change that ends a leaf's folding

module _ (P : Change → Type 0) (cut : (u : List ℕ) (k : ℕ) → P (Cut (Vhd u) k)) (gone : (n : Name) → is_log n ≡ false → P (Remove n)) (shown : (u : List ℕ) → P (Mark (Vhd u) Hidden false)) (moved : (u v : List ℕ) → P (Rename (Vhd u) (Vhd v))) where
  of_parent : (t : VolumeTable) (p : List ℕ) (o : Option Name) → AllByRecursion P (parent_changes t p o)
  of_parent t p None = tt
  of_parent t p (Some (Inflate u e)) = by (bytes_eq u p)
    where
      by : (b : Bool) → AllByRecursion P (cond b (changes_back t (Inflate u e)) [])
      by true = all_join P (wanted (of_row (is_longer e) (rows t (Vhd u))) (Cut (Vhd u) e)) (Remove (Inflate u e) ∷ []) (all_wanted P (of_row (is_longer e) (rows t (Vhd u))) (Cut (Vhd u) e) (cut u e)) (gone (Inflate u e) refl, tt)
      by false = tt
  of_parent t p (Some Mgt) = tt
  of_parent t p (Some (Vhd v)) = tt
  of_parent t p (Some (Raw v)) = tt
  of_parent t p (Some (Old v)) = tt
  of_parent t p (Some (Cbt v)) = tt
  of_parent t p (Some (Clone d b w)) = tt
  of_parent t p (Some (Coalesce v q)) = tt
  of_parent t p (Some (Relink v q)) = tt
  of_parent t p (Some (Leaf l q)) = tt

  pub of_changes : (t : VolumeTable) (l p : List ℕ) → AllByRecursion P (leaf_changes t l p)
  of_changes t l p = by (is_leaf_renamed t l p) (is_leaf_swapped t l p)
    where
      by : (a b : Bool) → AllByRecursion P (cond a (parent_changes t p (head (making t)) ++ (Rename (Vhd p) (Vhd l) ∷ Mark (Vhd l) Hidden false ∷ leaf_gone l p))
          (cond b (wanted (of_row (λ r. r.hidden) (rows t (Vhd l))) (Mark (Vhd l) Hidden false) ++ leaf_gone l p) (Remove (Leaf l p) ∷ [])))
      by true b = all_join P (parent_changes t p (head (making t))) (Rename (Vhd p) (Vhd l) ∷ Mark (Vhd l) Hidden false ∷ leaf_gone l p) (of_parent t p (head (making t)))
          (moved p l, (shown l, (gone (Old l) refl, (gone (Leaf l p) refl, tt))))
      by false true = all_join P (wanted (of_row (λ r. r.hidden) (rows t (Vhd l))) (Mark (Vhd l) Hidden false)) (leaf_gone l p)
          (all_wanted P (of_row (λ r. r.hidden) (rows t (Vhd l))) (Mark (Vhd l) Hidden false) (shown l)) (gone (Old l) refl, (gone (Leaf l p) refl, tt))
      by false false = (gone (Leaf l p) refl, tt)

-- they make nothing
leaf_lean : (t : VolumeTable) (l p : List ℕ) → AllByRecursion IsLean (leaf_changes t l p)
leaf_lean = of_changes IsLean (λ u k. tt) (λ n other. tt) (λ u. tt) (λ u v. (refl, refl))

-- nor is a volume new behind them that was not
pub leaf_old : (t : VolumeTable) (l p : List ℕ) → AllByRecursion IsOld (leaf_changes t l p)
leaf_old = of_changes IsOld (λ u k. (tt, λ r. refl)) (λ n other. (tt, tt)) (λ u. (tt, λ r. refl)) (λ u v. ((refl, refl), λ r named. refl))

-- so each is allowed in its turn
all_may : {count : ℕ} → count ≤ extent_limit → (t : VolumeTable) (cs : List Change) → IsSmall count t → AllPermit count t cs → AllByRecursion IsLean cs → AllMay count t cs
all_may extents t [] small permits lean = tt
all_may extents t (c ∷ cs) small permits lean =
    let next = small_next c small permits.0 lean.0 in
    (permits.0, small_fits extents next, all_may extents (applied t c) cs next permits.1 lean.1)

-- ---- where none is, that of a copy or of a link goes
record EndsOther (t : VolumeTable) : Type 0 where
  bare : unfolded t ≡ ended t
  few : length (undo_changes t) + length (folding t) ≤ length (end_changes t) + length (undo_changes (ended t))

ends_other : {s : Site} {t : VolumeTable} → IsEndable s t → EndsOther t
unfolding end_changes ended
ends_other {s} {t} c = by (end_case c)
  where
    of : (e : Name) → HasFolding t e → changes_ending t (Some e) ≡ Remove e ∷ [] → EndsOther t
    of e f goes =
        let changes : end_changes t ≡ Remove e ∷ [] = ap (λ ns. changes_ending t (head ns)) f.alone ∙ goes in
        let bare : unfolded t ≡ ended t = unfolded_is t e f ∙ sym (ap (applied_all t) changes) in
        record {
          bare = bare;
          few = omega (arith, ap (λ (cs : List Change). length cs) (ap undo_changes (sym bare ∙ unfolded_is t e f) ∙ changes_same t e f), ap (λ (cs : List Change). length cs) changes, ap (λ (ns : List Name). length ns) f.alone);
        }

    by : EndCase t → EndsOther t
    by (inl none) =
        let changes : end_changes t ≡ [] = ap (changes_ending t) none in
        let same : ended t ≡ t = ap (applied_all t) changes in
        record {
          bare = unfolded_none none ∙ sym same;
          few = omega (arith, ap (λ v. length (undo_changes v)) same, ap (λ (ns : List Name). length ns) (folding_none (folding t) none));
        }
    by (inr (inl (a, b, f))) = of (Coalesce a b) f refl
    by (inr (inr (a, b, f))) = of (Relink a b) f refl

-- ---- in either case

-- what is known then
pub record IsThen {S : Type 0} (g : Ghosts S) (store : S) (xs ys : List TreeRow) (places : List (Option Record)) (t u : VolumeTable) : Type 0 where
  pub checked : IsEndable (g.site store) u
  pub are : AreRowsOf (read_volumes u) ys
  pub each : HasEachRow g.told (stored_with g store (shortened u)) (read_volumes u) ys
  pub pass : (x : Outline) → HasTable (g.site store).geometry u x → HasLinks ys x → HasPlaces places x → PassesButLeaf x

module _ {S : Type 0} (g : Ghosts S) (store : S) (xs : List TreeRow) (places : List (Option Record)) {t : VolumeTable} (c : IsOpenable (g.site store) t) (few : HasFewLogs t) (are : AreRowsOf (read_volumes t) xs)
    (each : HasEachRow g.told (stored_with g store (shortened t)) (read_volumes t) xs) (long : length places ≡ place_count)
    (pass : (x : Outline) → HasTable (g.site store).geometry t x → HasLinks xs x → HasPlaces places x → fault_of x ≡ None) where
  abbrev s : Site
  s = g.site store

  -- nothing is ended
  pub as_was : ((l p : List ℕ) → head (folding t) ≢ Some (Leaf l p)) → unleafed t ≡ t
  as_was other = let no = is_unled t xs (head (folding t)) other in ap (applied_all t) no.nothing

  unended : ((l p : List ℕ) → head (folding t) ≢ Some (Leaf l p)) → IsThen g store xs (rows_ended t xs) places t (unleafed t)
  unended other =
      let known = known_of c other in
      subst₂ (λ ys v. IsThen g store xs ys places t v) (sym (rows_unled t xs other)) (sym (as_was other)) (record {
        checked = endable_of c few known;
        are = are;
        each = each;
        pass = λ x has links in_places. outline_but_leaf x (pass x has links in_places) (subst IsKnown (sym has.table) known);
      })

  module _ (l p : List ℕ) (found : head (folding t) ≡ Some (Leaf l p)) where
    abbrev u : VolumeTable
    u = ended t

    tables : TablesSay s u None
    unfolding fault_of
    tables x is =
        tables_alike (ended_outline (memory.seen g store xs places c are each long pass)) x is.extent is.table
        ∙ first_front (table_faults (ended_outline (memory.seen g store xs places c are each long pass))) _ (memory.left_sound g store xs places c are each long pass l p found)

    checked : IsOpenable s u
    checked = checked_from s u (memory.table_now g store xs places c are each long pass l p found) c.few_extents tables

    known : IsKnown u
    known = simple_known u (memory.left_simple g store xs places c are each long pass l p found)

    allowed : AllMay s.count t (leaf_ends t (Some (Leaf l p)))
    allowed = all_may c.few_extents t (leaf_changes t l p) (openable_small c few) (memory.left_permits g store xs places c are each long pass l p found) (leaf_lean t l p)

    few_then : HasFewLogs u
    few_then = subst HasFewLogs (memory.unleafed_is g store xs places c are each long pass l p found)
        (subst (λ o. HasFewLogs (applied_all t (leaf_ends t o))) (sym found) (small_all t (leaf_changes t l p) (openable_small c few) allowed (leaf_lean t l p)).few_logs)

    then_ended : IsThen g store xs (rows_ended t xs) places t (unleafed t)
    then_ended =
        subst₂ (λ ys v. IsThen g store xs ys places t v) (sym (ended_some t xs (Leaf l p) found)) (sym (memory.unleafed_is g store xs places c are each long pass l p found)) (record {
          checked = endable_of checked few_then known;
          are = memory.ended_are g store xs places c are each long pass l p found (staged_open checked);
          each = memory.ended_each g store xs places c are each long pass l p found (staged_open checked);
          pass = λ x has links in_places. outline_but_leaf x (memory.ended_pass g store xs places c are each long pass l p found (staged_open checked) x has links in_places) (subst IsKnown (sym has.table) known);
        })

    can_end : CanEnd t (Some (Leaf l p)) xs
    can_end = memory.can_end g store xs places c are each long pass l p found (staged_open checked)

  -- in either case
  pub of_leaf : (P : Type 0) → ((l p : List ℕ) → head (folding t) ≡ Some (Leaf l p) → P) → (((l p : List ℕ) → head (folding t) ≢ Some (Leaf l p)) → P) → P
  of_leaf P ends other = ⊎_elim (λ k. ends k.0 k.1 k.2) other (leaf_or_not (head (folding t)))

  pub is_then : IsThen g store xs (rows_ended t xs) places t (unleafed t)
  is_then = of_leaf (IsThen g store xs (rows_ended t xs) places t (unleafed t)) then_ended unended

  pub may_end : AllMay s.count t (leaf_ends t (head (folding t)))
  may_end = of_leaf (AllMay s.count t (leaf_ends t (head (folding t)))) (λ l p found. subst (λ o. AllMay s.count t (leaf_ends t o)) (sym found) (allowed l p found))
      (λ other. let no = is_unled t xs (head (folding t)) other in subst (AllMay s.count t) (sym no.nothing) tt)

  pub can_take : CanEnd t (head (folding t)) xs
  can_take = of_leaf (CanEnd t (head (folding t)) xs) (λ l p found. subst (λ o. CanEnd t o xs) (sym found) (can_end l p found)) (λ other. let no = is_unled t xs (head (folding t)) other in no.can)

  -- what is left of that group, and how many commits end all of it
  ended_bare : (l p : List ℕ) → head (folding t) ≡ Some (Leaf l p) → IsEndedSo t
  ended_bare l p found =
      let is = memory.unleafed_is g store xs places c are each long pass l p found in
      let quiet = memory.left_quiet g store xs places c are each long pass l p found in
      let counted : length (leaf_ends t (head (folding t))) ≡ length (end_changes t) = ap length (ap (leaf_ends t) found ∙ sym (ends_are t l p (memory.one g store xs places c are each long pass l p found))) in
      record {
        bare = ap unfolded is ∙ unfolded_none (ap head quiet);
        few = omega (arith, counted, ap (λ v. length (undo_changes v)) is, ap (λ v. length (folding v)) is, ap (λ (ns : List Name). length ns) quiet);
      }

  other_bare : ((l p : List ℕ) → head (folding t) ≢ Some (Leaf l p)) → IsEndedSo t
  other_bare other =
      let k = ends_other (endable_of c few (known_of c other)) in
      let no = is_unled t xs (head (folding t)) other in
      let is = as_was other in
      record {
        bare = ap unfolded is ∙ k.bare;
        few = omega (arith, k.few, ap (λ (cs : List Change). length cs) no.nothing, ap (λ v. length (undo_changes v)) is, ap (λ v. length (folding v)) is);
      }

  pub ended_so : IsEndedSo t
  ended_so = of_leaf (IsEndedSo t) ended_bare other_bare
