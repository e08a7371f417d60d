-- The table without the entry of a copy or of a link: what is known of it, and that the changes that undo a fork or an enlargement are
-- the same, with the entry and without it.
use Rattle.std.proofs.Common.{◌≡◌, ◌≢◌, inl, inr, ⊎_elim, ℕ, ◌≤◌, ◌==◌, ◌&&◌, ◌||◌, Bool, true, false, cond, not, List, [], ◌∷◌, ◌++◌, length, filter, Option, Some, None, is_none, is_some, refl, sym, ap, ap₂, ◌∙◌, subst, arith, nat_le}
use Rattle.std.proofs.Math.Path.{fun_ext}
use Rattle.std.specs.List.{list_any}
use Rattle.std.proofs.lemmas.Bool.{and_parts, true≢false}
use Rattle.std.proofs.lemmas.Option.{none-some}
use Rattle.common_laws.specs.Lists.{In}
use Rattle.common_laws.proofs.Booleans.{not_false}
use Rattle.common_laws.proofs.Lists.{In-filter, In-map_at, filter-In}
use Rattle.sm_base.specs.Kinds.{is_image, is_entry, is_log}
use Rattle.sm_base.specs.declared.names.Name.{Name}
use Rattle.sm_base.specs.declared.names.Name.TheVariants.{Mgt, Vhd, Raw, Old, Cbt, Clone, Inflate, Coalesce, Relink, Leaf}
use Rattle.std.specs.Str.{bytes_eq}
use Rattle.vg_meta.specs.Changes.{Permits, applied, without}
use Rattle.vg_meta.specs.Tables.{IsTable, Row, VolumeTable, extents_of, name_eq, names_of, rows}
use Rattle.vg_meta.specs.declared.changes.Change.{Change}
use Rattle.vg_meta.specs.declared.changes.Change.TheVariants.{Cut, Mark, Remove, Rename}
use Rattle.vg_meta.proofs.ChangeLaws.{IsTable-applied}
use Rattle.vg_meta.proofs.NameLaws.{name_eq-true}
use Rattle.vg_meta.proofs.RowLaws.{row_of-without_other, row_of-without_same}
use Rattle.vg_volumes.specs.Sites.{Site}
use Rattle.sm_standing.specs.Entries.{are_past, folding, folding_uuids, head, image_with, is_among, is_at_stage, is_folding, is_fork_begun, is_fork_made, is_forking, is_inflating, is_making, making, of_row, second, uuids_in}
use Rattle.sm_standing.specs.Opened.{base_changes, changes_back, is_longer, under_name, undo_changes, wanted}
use Rattle.vg_meta.specs.declared.changes.Tag.TheVariants.{Hidden}
use Rattle.sm_standing.specs.Plain.{is_known, is_known_name, is_simple, is_simple_name}
use Rattle.sm_standing.specs.Unfolded.{unfolded, without_entry}
use Rattle.sm_standing.proofs.NamedLaws.{all_past}
use Rattle.sm_standing.proofs.PlainDisks.{all-In}
use Rattle.sm_standing.proofs.DisksShown.{row_of-In}
use Rattle.sm_standing.proofs.PlainKept.{all-of}
use Rattle.sm_standing.proofs.UndoneLaws.{named_found}
use Rattle.sm_ready.proofs.GoneLaws.{fewer_left}
use Rattle.sm_ready.proofs.RemoveLaws.{In-without}
use Rattle.sm_ready.proofs.RowLaws.{found_in}
use Rattle.sm_recover.specs.Repairs.{IsEndable, IsUndoable}
use Rattle.sm_checks.proofs.EntryLaws.{base_found, head_alone}

-- ---- the entry

-- the one entry of a copy or of a link
pub record HasFolding (t : VolumeTable) (e : Name) : Type 0 where
  pub alone : folding t ≡ e ∷ []
  pub entry : Row
  pub there : rows t e ≡ Some entry
  pub folds : is_folding e ≡ true
  pub known : is_known_name e ≡ true

pub folding_none : (ns : List Name) → head ns ≡ None → ns ≡ []
folding_none [] none = refl
folding_none (n ∷ ns) none = absurd (none-some n (sym none))

pub unfolded_none : {t : VolumeTable} → head (folding t) ≡ None → unfolded t ≡ t
unfolding unfolded
unfolded_none {t} none = ap (without_entry t) none

pub folding_found : {s : Site} {t : VolumeTable} (e : Name) → IsEndable s t → head (folding t) ≡ Some e → HasFolding t e
folding_found {s} {t} e c found =
    let alone = head_alone (folding t) e found c.one_folding in
    let k = In-filter is_folding (names_of t.volumes) e (subst (In e) (sym alone) (inl refl)) in
    let r = named_found t.volumes e k.0 in
    let i = row_of-In t.volumes e r.0 r.1 in
    record {
      alone = alone;
      entry = r.0;
      there = r.1;
      folds = k.1;
      known = subst (λ n. is_known_name n ≡ true) (name_eq-true r.0.name e i.1) (all-In (λ (x : Row). is_known x ≡ true) t.volumes r.0 c.known i.0);
    }

-- ---- names

nothing_in : (ns : List Name) → ((n : Name) → In n ns → ⊥) → ns ≡ []
nothing_in [] none = refl
nothing_in (n ∷ ns) none = absurd (none n (inl refl))

-- a group that it is not of is the same without it
others_named : (test : Name → Bool) (e : Name) → test e ≡ false → (rs : List Row) → filter test (names_of (without e rs)) ≡ filter test (names_of rs)
unfolding without
others_named test e not_it [] = refl
others_named test e not_it (r ∷ rs) = by (name_eq r.name e) refl (others_named test e not_it rs)
  where
    by : (b : Bool) → name_eq r.name e ≡ b → filter test (names_of (without e rs)) ≡ filter test (names_of rs) → filter test (names_of (cond b rs (r ∷ without e rs))) ≡ filter test (names_of (r ∷ rs))
    by true is rest = ap (λ c. cond c (r.name ∷ filter test (names_of rs)) (filter test (names_of rs))) (sym (ap test (name_eq-true r.name e is) ∙ not_it))
    by false is rest = ap (λ xs. cond (test r.name) (r.name ∷ xs) xs) rest

folds_not_makes : (n : Name) → is_folding n ≡ true → is_making n ≡ false
folds_not_makes (Coalesce v p) folds = refl
folds_not_makes (Relink v p) folds = refl
folds_not_makes (Leaf l p) folds = refl
folds_not_makes Mgt folds = absurd (true≢false (sym folds))
folds_not_makes (Vhd u) folds = absurd (true≢false (sym folds))
folds_not_makes (Raw u) folds = absurd (true≢false (sym folds))
folds_not_makes (Old u) folds = absurd (true≢false (sym folds))
folds_not_makes (Cbt u) folds = absurd (true≢false (sym folds))
folds_not_makes (Clone d b w) folds = absurd (true≢false (sym folds))
folds_not_makes (Inflate u k) folds = absurd (true≢false (sym folds))

known_simple : (n : Name) → is_known_name n ≡ true → is_folding n ≡ false → is_simple_name n ≡ true
known_simple Mgt known plain = refl
known_simple (Vhd u) known plain = refl
known_simple (Raw u) known plain = refl
known_simple (Clone d b w) known plain = refl
known_simple (Inflate u k) known plain = refl
known_simple (Coalesce v p) known plain = absurd (true≢false plain)
known_simple (Relink v p) known plain = absurd (true≢false plain)
known_simple (Leaf l p) known plain = absurd (true≢false plain)
known_simple (Old u) known plain = absurd (true≢false (sym known))
known_simple (Cbt u) known plain = refl

-- ---- stages, by the volumes that are no entries of a copy or of a link

abbrev masked : (Name → Option Row) → Name → Option Row
masked f n = cond (is_folding n) None (f n)

abbrev images_by : (Name → Option Row) → List ℕ → List Name
images_by f u = filter (λ n. is_some (f n)) (Vhd u ∷ Raw u ∷ Old u ∷ [])

abbrev shown_by : (Name → Option Row) → Name → Bool
shown_by f n = of_row (λ r. not r.hidden && not r.fresh) (f n)

abbrev begun_by : List ℕ → List ℕ → List ℕ → (Name → Option Row) → Bool
begun_by d b w f =
    not (not (length (images_by f b) == 0))
    && (not (not (length (images_by f w) == 0))
    && ((length (images_by f d) == 1) && (shown_by f (Vhd d) || (shown_by f (Raw d) || shown_by f (Old d)))))

abbrev filled_by : (Name → Option Row) → Name → Bool
filled_by f n = of_row (λ r. not r.fresh) (f n)

abbrev shown_or_gone_by : (Name → Option Row) → Name → Bool
shown_or_gone_by f n = is_none (f n) || of_row (λ r. not r.hidden) (f n)

abbrev hidden_by : (Name → Option Row) → Name → Bool
hidden_by f n = of_row (λ r. r.hidden && not r.fresh) (f n)

abbrev made_by : List ℕ → List ℕ → List ℕ → (Name → Option Row) → Bool
made_by d b w f =
    (filled_by f (Vhd b) || filled_by f (Raw b))
    && (not (is_some (f (Raw d)))
    && (not (is_some (f (Raw w)))
    && (shown_or_gone_by f (Vhd d)
    && (shown_or_gone_by f (Vhd w)
    && ((not (is_some (f (Vhd d))) && not (is_some (f (Vhd w)))) || (hidden_by f (Vhd b) || hidden_by f (Raw b)))))))

-- ---- the table without it

module _ (t : VolumeTable) (e : Name) (f : HasFolding t e) where
  abbrev q : VolumeTable
  q = applied t (Remove e)

  pub unfolded_is : unfolded t ≡ q
  unfolding unfolded
  unfolded_is = ap (λ ns. without_entry t (head ns)) f.alone

  entry_no_other : (n : Name) → is_folding n ≡ false → e ≢ n
  entry_no_other n other is = true≢false (sym f.folds ∙ ap is_folding is ∙ other)

  -- what is no entry of a copy or of a link is as it was
  pub still : (n : Name) → is_folding n ≡ false → rows q n ≡ rows t n
  still n other = row_of-without_other t.volumes e n (entry_no_other n other)

  masked_same : masked (rows q) ≡ masked (rows t)
  masked_same = fun_ext (λ n. by n (is_folding n) refl)
    where
      by : (n : Name) (b : Bool) → is_folding n ≡ b → cond b None (rows q n) ≡ cond b None (rows t n)
      by n true is = refl
      by n false is = still n is

  begun_same : (d b w : List ℕ) → is_fork_begun q d b w ≡ is_fork_begun t d b w
  begun_same d b w = ap (begun_by d b w) masked_same

  made_same : (d b w : List ℕ) → is_fork_made q d b w ≡ is_fork_made t d b w
  made_same d b w = ap (made_by d b w) masked_same

  -- nothing is folded without it
  pub making_same : making q ≡ making t
  making_same = others_named is_making e (folds_not_makes e f.folds) t.volumes

  module _ (s : Site) (table : IsTable s.count t) where
    pub may_end : Permits s.count t (Remove e)
    may_end = record { row = f.entry; there = f.there; not_mgt = λ is. true≢false (sym f.folds ∙ ap is_folding is) }

    pub less_table : IsTable s.count q
    less_table = IsTable-applied s.count t (Remove e) table may_end

    gone : rows q e ≡ None
    gone = row_of-without_same t.volumes e table.volumes.rising

    -- a volume of it is an other
    other_row : (r : Row) → In r q.volumes → r.name ≢ e
    other_row r i is = none-some r (sym gone ∙ ap (rows q) (sym is) ∙ found_in q.volumes less_table.volumes.rising r i)

    unfolding_row : (r : Row) → In r q.volumes → is_folding r.name ≡ false
    unfolding_row r i = by (is_folding r.name) refl
      where
        only : In r.name (e ∷ []) → ⊥
        only (inl is) = other_row r i is
        only (inr none) = absurd none

        by : (x : Bool) → is_folding r.name ≡ x → x ≡ false
        by false is = refl
        by true is = absurd (only (subst (In r.name) f.alone (filter-In is_folding (names_of t.volumes) r.name (In-map_at (λ (x : Row). x.name) t.volumes r (In-without e r t.volumes i)) is)))

    pub folding_gone : folding q ≡ []
    folding_gone = nothing_in (folding q) (λ n i.
        let k = In-filter is_folding (names_of q.volumes) n i in
        let r = named_found q.volumes n k.0 in
        let j = row_of-In q.volumes n r.0 r.1 in
        true≢false (sym k.1 ∙ ap is_folding (sym (name_eq-true r.0.name n j.1)) ∙ unfolding_row r.0 j.0))

    forking_still : (d b w : List ℕ) → is_forking t d b w ≡ true → is_forking q d b w ≡ true
    forking_still d b w h = at (folding q) folding_gone ∙ by (bytes_eq d b) (bytes_eq d w) (bytes_eq b w) (list_any (is_among (d ∷ b ∷ w ∷ [])) (folding_uuids t)) h
      where
        rest : VolumeTable → Bool
        rest x = is_fork_begun x d b w || is_fork_made x d b w

        at : (ns : List Name) → ns ≡ []
            → (not (bytes_eq d b) && (not (bytes_eq d w) && (not (bytes_eq b w) && (not (list_any (is_among (d ∷ b ∷ w ∷ [])) (elim (head ns) as (λ _. List (List ℕ)) [ None ↦ [] | Some n ↦ uuids_in n ])) && rest q))))
            ≡ (not (bytes_eq d b) && (not (bytes_eq d w) && (not (bytes_eq b w) && (true && rest t))))
        at ns none =
            ap (λ us. not (bytes_eq d b) && (not (bytes_eq d w) && (not (bytes_eq b w) && (not (list_any (is_among (d ∷ b ∷ w ∷ [])) us) && rest q)))) (ap (λ ms. elim (head ms) as (λ _. List (List ℕ)) [ None ↦ [] | Some n ↦ uuids_in n ]) none)
            ∙ ap₂ (λ x y. not (bytes_eq d b) && (not (bytes_eq d w) && (not (bytes_eq b w) && (true && (x || y))))) (begun_same d b w) (made_same d b w)

        by : (x y z p : Bool) → (not x && (not y && (not z && (not p && rest t)))) ≡ true → (not x && (not y && (not z && (true && rest t)))) ≡ true
        by false false false false h = h
        by true y z p h = absurd (true≢false (sym h))
        by false true z p h = absurd (true≢false (sym h))
        by false false true p h = absurd (true≢false (sym h))
        by false false false true h = absurd (true≢false (sym h))

    later : t.sequence ≤ q.sequence
    later = let h = table.sequence in omega (arith, h)

    -- an entry still stands at its stage
    stage_still : (n : Name) → is_simple_name n ≡ true → (is_entry n && not (is_at_stage t n && are_past t n)) ≡ false → (is_entry n && not (is_at_stage q n && are_past q n)) ≡ false
    unfolding is_at_stage
    stage_still Mgt simple h = refl
    stage_still (Vhd u) simple h = refl
    stage_still (Raw u) simple h = refl
    stage_still (Cbt u) simple h = refl
    stage_still (Clone d b w) simple h =
        let k = and_parts (is_forking t d b w) (are_past t (Clone d b w)) (not_false _ h) in
        ap₂ (λ x y. not (x && y)) (forking_still d b w k.0) (all_past (uuids_in (Clone d b w)) t.sequence q.sequence later k.1)
    stage_still (Inflate u x) simple h =
        let k = and_parts (is_inflating t u x) (are_past t (Inflate u x)) (not_false _ h) in
        ap₂ (λ y z. not (y && z)) (ap (λ o. of_row (λ r. not r.fresh && nat_le x (length r.extents)) o) (still (Vhd u) refl) ∙ k.0) (all_past (uuids_in (Inflate u x)) t.sequence q.sequence later k.1)
    stage_still _ simple h = absurd (true≢false (sym simple))

  -- ---- the changes

  pub image_same : (u : List ℕ) → image_with q u ≡ image_with t u
  unfolding image_with
  image_same u = ap₂ (λ x y. cond x (Some (Vhd u)) (cond y (Some (Raw u)) None)) (ap is_some (still (Vhd u) refl)) (ap is_some (still (Raw u) refl))

  pub changes_same : undo_changes q ≡ undo_changes t
  unfolding undo_changes
  changes_same = ap (λ ns. elim (head ns) as (λ _. List Change) [ None ↦ [] | Some n ↦ changes_back q n ]) making_same ∙ by (head (making t)) refl
    where
      base : (d : List ℕ) (o : Option Name) (b : List ℕ) → image_with t b ≡ o → base_changes q d o ≡ base_changes t d o
      base d None b found = refl
      base d (Some from) b found = ap₂ (λ x y. wanted x (Remove (Vhd d)) ++ (wanted y (Mark from Hidden false) ++ Rename from (under_name from d) ∷ []))
          (ap is_some (still (Vhd d) refl)) (ap (of_row (λ r. r.hidden)) (still from (⊎_elim (λ is. ap is_folding is) (λ is. ap is_folding is) (base_found t b from found).name)))

      back : (n : Name) → changes_back q n ≡ changes_back t n
      back (Inflate u x) = ap (λ o. wanted (of_row (is_longer x) o) (Cut (Vhd u) x) ++ Remove (Inflate u x) ∷ []) (still (Vhd u) refl)
      back (Clone d b w) = ap₂ (λ o xs. wanted (is_some o) (Remove (Vhd w)) ++ (xs ++ Remove (Clone d b w) ∷ [])) (still (Vhd w) refl) (ap (base_changes q d) (image_same b) ∙ base d (image_with t b) b refl)
      back Mgt = refl
      back (Vhd u) = refl
      back (Raw u) = refl
      back (Old u) = refl
      back (Cbt u) = refl
      back (Coalesce v p) = refl
      back (Relink v p) = refl
      back (Leaf l p) = refl

      by : (o : Option Name) → head (making t) ≡ o → elim o as (λ _. List Change) [ None ↦ [] | Some n ↦ changes_back q n ] ≡ elim o as (λ _. List Change) [ None ↦ [] | Some n ↦ changes_back t n ]
      by None is = refl
      by (Some n) is = back n

-- ---- what is known of it

pub undoable_unfolded : {s : Site} {t : VolumeTable} → IsEndable s t → IsUndoable s (unfolded t)
undoable_unfolded {s} {t} c = by (head (folding t)) refl
  where
    by : (o : Option Name) → head (folding t) ≡ o → IsUndoable s (unfolded t)
    by None none = subst (IsUndoable s) (sym (unfolded_none none)) (record {
      table = c.table;
      few_extents = c.few_extents;
      simple = all-of (λ r. is_simple r ≡ true) t.volumes (λ r i. known_simple r.name (all-In (λ (x : Row). is_known x ≡ true) t.volumes r c.known i) (no_folding r i));
      one_entry = c.one_entry;
      at_stage = c.at_stage;
      few_images = c.few_images;
      few_logs = c.few_logs;
      record_volume = c.record_volume;
    })
      where
        no_folding : (r : Row) → In r t.volumes → is_folding r.name ≡ false
        no_folding r i = of (is_folding r.name) refl
          where
            of : (x : Bool) → is_folding r.name ≡ x → x ≡ false
            of false is = refl
            of true is = absurd (subst (In r.name) (folding_none (folding t) none) (filter-In is_folding (names_of t.volumes) r.name (In-map_at (λ (x : Row). x.name) t.volumes r i) is))
    by (Some e) found =
        let f = folding_found e c found in
        let q = applied t (Remove e) in
        let simple = λ (r : Row) (i : In r q.volumes).
        known_simple r.name (all-In (λ (x : Row). is_known x ≡ true) t.volumes r c.known (In-without e r t.volumes i)) (unfolding_row t e f s c.table r i) in
        subst (IsUndoable s) (sym (unfolded_is t e f)) (record {
          table = less_table t e f s c.table;
          few_extents = c.few_extents;
          simple = all-of (λ r. is_simple r ≡ true) q.volumes simple;
          one_entry = ap second (making_same t e f) ∙ c.one_entry;
          at_stage = λ r i. stage_still t e f s c.table r.name (simple r i) (c.at_stage r (In-without e r t.volumes i));
          few_images = omega (arith, fewer_left (λ (r : Row). is_image r.name) e t.volumes, c.few_images);
          few_logs = omega (arith, fewer_left (λ (r : Row). is_log r.name) e t.volumes, c.few_logs);
          record_volume = ap (λ o. length (extents_of o)) (still t e f Mgt refl) ∙ c.record_volume;
        })
