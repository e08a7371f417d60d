-- The end of a leaf's folding that a stop has cut short: what it leaves.
use Rattle.std.proofs.Common.{◌≡◌, ◌≢◌, ◌⊎◌, inl, inr, ℕ, ◌≤◌, not, Bool, true, false, cond, List, [], ◌∷◌, ◌++◌, length, take, Option, Some, None, refl, sym, ap, ap₂, ◌∙◌, subst, arith, bytes_eq}
use Rattle.std.proofs.Math.Path.{fun_ext}
use Rattle.std.specs.List.{list_any}
use Rattle.std.proofs.lemmas.Bool.{true≢false}
use Rattle.std.proofs.lemmas.List.{length-append}
use Rattle.common_laws.specs.Lists.{In, ◌>>=◌}
use Rattle.common_laws.proofs.Bytes.{bytes_eq-apart, same_or_not}
use Rattle.common_laws.proofs.Lists.{filter-In, In-map_at}
use Rattle.sm_base.specs.declared.names.Name.{Name}
use Rattle.sm_base.specs.declared.names.Name.TheVariants.{Mgt, Vhd, Raw, Old, Cbt, Clone, Inflate, Coalesce, Relink, Leaf}
use Rattle.vg_meta.specs.declared.changes.Change.{Change}
use Rattle.vg_meta.specs.declared.changes.Change.TheVariants.{Cut, Mark, Remove, Rename}
use Rattle.vg_meta.specs.declared.changes.Tag.TheVariants.{Hidden}
use Rattle.vg_meta.specs.Tables.{VolumeTable, Row, IsTable, names_of, rows}
use Rattle.sm_standing.specs.Checks.{fault_of, PassesButLeaf, is_orphaned}
use Rattle.sm_standing.specs.Entries.{folding, head, is_folding, is_leaf_renamed, is_leaf_swapped, is_old_of, making, of_row}
use Rattle.sm_standing.specs.Leaves.{IsEnding, ended_from, ended_outline, from_leaf}
use Rattle.sm_standing.specs.Opened.{applied_all, changes_back, changes_ending, end_changes, ended, is_longer, leaf_changes, leaf_gone, parent_changes, wanted}
use Rattle.sm_standing.specs.Outlines.{HasImages, Outline}
use Rattle.sm_standing.specs.Plain.{IsSimple, is_simple, is_simple_name}
use Rattle.sm_standing.specs.Undone.{AllPermit, IsBeingEnlarged}
use Rattle.sm_standing.proofs.ForkRuns.{AllRun, run_last, run_permits, run_taken}
use Rattle.sm_standing.proofs.ForkTables.{of_row_parts}
use Rattle.sm_standing.proofs.LeafCorner.{corner_run}
use Rattle.sm_standing.proofs.LeafRename.{moved}
use Rattle.sm_standing.proofs.LeafRuns.{IsCarried, IsLast, IsOn, IsReached, end_run, rename_run, show_run}
use Rattle.sm_standing.proofs.LeafStages.{swapped_stage}
use Rattle.sm_standing.proofs.PlainKept.{all-of, outline_but_leaf, simple_known, sound_all}
use Rattle.sm_standing.proofs.UndoneLaws.{IsBeingForked, enlarged_or_not}

pub ends_are : (t : VolumeTable) (leaf parent : List ℕ) → folding t ≡ Leaf leaf parent ∷ [] → end_changes t ≡ leaf_changes t leaf parent
unfolding end_changes
ends_are t leaf parent one = ap (λ ns. changes_ending t (head ns)) one

-- no such entry, and no old leaf
pub none_simple : (x : Outline) → fault_of x ≡ None → folding x.table ≡ [] → IsSimple x.table
none_simple x sound none = all-of (λ r. is_simple r ≡ true) x.table.volumes (λ r i. by r i r.name refl)
  where
    fold : (r : Row) → In r x.table.volumes → is_folding r.name ≡ true → ⊥
    fold r i is = subst (In r.name) none (filter-In is_folding (names_of x.table.volumes) r.name (In-map_at (λ (y : Row). y.name) x.table.volumes r i) is)

    by : (r : Row) → In r x.table.volumes → (n : Name) → r.name ≡ n → is_simple_name r.name ≡ true
    by r i Mgt at = ap is_simple_name at
    by r i (Vhd u) at = ap is_simple_name at
    by r i (Raw u) at = ap is_simple_name at
    by r i (Clone x y z) at = ap is_simple_name at
    by r i (Inflate x y) at = ap is_simple_name at
    by r i (Old u) at = absurd (true≢false (sym (ap (is_orphaned x.table) at ∙ ap (λ ns. not (list_any (is_old_of x.table u) ns)) none) ∙ (sound_all x sound).owned r i))
    by r i (Cbt u) at = ap is_simple_name at
    by r i (Coalesce x y) at = absurd (fold r i (ap is_folding at))
    by r i (Relink x y) at = absurd (fold r i (ap is_folding at))
    by r i (Leaf x y) at = absurd (fold r i (ap is_folding at))

module _ (count : ℕ) (x : Outline) (sound : fault_of x ≡ None) (table : IsTable count x.table) (homes : HasImages x) (leaf parent : List ℕ) (one : folding x.table ≡ Leaf leaf parent ∷ []) where
  abbrev t : VolumeTable
  t = x.table

  -- ---- the names that the images had

  pub named_by : (n : Name) (r : Bool) → is_leaf_renamed t leaf parent ≡ r → cond r (moved leaf parent n) (Some n) ≡ ended_from t n
  unfolding ended_from
  named_by n r is = ap (λ k. cond k (moved leaf parent n) (Some n)) (sym is) ∙ sym (ap (λ ns. from_leaf t (head ns) n) one)

  -- ---- what is being made

  pub corner_or_not : ((extents : ℕ) → making t ≢ Inflate parent extents ∷ []) ⊎ ((extents : ℕ) × (making t ≡ Inflate parent extents ∷ []))
  corner_or_not = let s = sound_all x sound in by (enlarged_or_not count t table s.one_entry s.at_stage)
    where
      of : (u : List ℕ) (more : ℕ) → making t ≡ Inflate u more ∷ [] → (u ≡ parent) ⊎ (u ≢ parent)
          → ((extents : ℕ) → making t ≢ Inflate parent extents ∷ []) ⊎ ((extents : ℕ) × (making t ≡ Inflate parent extents ∷ []))
      of u more is (inl same) = inr (more, is ∙ ap (λ v. Inflate v more ∷ []) same)
      of u more is (inr other) = inl (λ extents k. let z = sym is ∙ k in other (let y = z in cc))

      by : (making t ≡ []) ⊎ (((u : List ℕ) × (extents : ℕ) × IsBeingEnlarged t u extents) ⊎ IsBeingForked t)
          → ((extents : ℕ) → making t ≢ Inflate parent extents ∷ []) ⊎ ((extents : ℕ) × (making t ≡ Inflate parent extents ∷ []))
      by (inl none) = inl (λ extents k. let z = sym none ∙ k in (let y = z in cc))
      by (inr (inl k)) = let h = k.2 in of k.0 k.1 h.entry (same_or_not k.0 parent)
      by (inr (inr k)) = inl (λ extents h. let z = sym k.3 ∙ h in (let y = z in cc))

  pub no_changes : ((extents : ℕ) → making t ≢ Inflate parent extents ∷ []) → parent_changes t parent (head (making t)) ≡ []
  no_changes free = let s = sound_all x sound in by (enlarged_or_not count t table s.one_entry s.at_stage)
    where
      by : (making t ≡ []) ⊎ (((u : List ℕ) × (extents : ℕ) × IsBeingEnlarged t u extents) ⊎ IsBeingForked t) → parent_changes t parent (head (making t)) ≡ []
      by (inl none) = ap (λ ns. parent_changes t parent (head ns)) none
      by (inr (inl k)) =
          let h = k.2 in
          ap (λ ns. parent_changes t parent (head ns)) h.entry
          ∙ ap (λ b. cond b (changes_back t (Inflate k.0 k.1)) []) (bytes_eq-apart k.0 parent (λ is. free k.1 (h.entry ∙ ap (λ v. Inflate v k.1 ∷ []) is)))
      by (inr (inr k)) = ap (λ ns. parent_changes t parent (head ns)) k.3

  -- ---- the run

  abbrev pub changes_by : List Change → Bool → Bool → List Change
  changes_by first r w =
      cond r (first ++ (Rename (Vhd parent) (Vhd leaf) ∷ Mark (Vhd leaf) Hidden false ∷ leaf_gone leaf parent))
      (cond w (wanted (of_row (λ q. q.hidden) (rows t (Vhd leaf))) (Mark (Vhd leaf) Hidden false) ++ leaf_gone leaf parent) (Remove (Leaf leaf parent) ∷ []))

  pub at_changes : (first : List Change) (r w : Bool) → parent_changes t parent (head (making t)) ≡ first → is_leaf_renamed t leaf parent ≡ r → is_leaf_swapped t leaf parent ≡ w
      → leaf_changes t leaf parent ≡ changes_by first r w
  at_changes first r w is_first is_r is_w = ap (λ cs. changes_by cs (is_leaf_renamed t leaf parent) (is_leaf_swapped t leaf parent)) is_first ∙ ap₂ (changes_by first) is_r is_w

  module _ (K : VolumeTable → (Name → Option Name) → Type 0) (carried : IsCarried count x leaf parent K) where
    -- the run of the commits
    pub record IsEndRun : Type 0 where
      pub made : List Name
      pub from : Name → Option Name
      pub run : AllRun count (IsOn count x leaf parent K carried) (IsLast count x leaf parent K carried made from) t (leaf_changes t leaf parent)
      pub as_ended : (n : Name) → from n ≡ ended_from t n
      pub same : ((extents : ℕ) → is_leaf_renamed t leaf parent ≡ true → making t ≢ Inflate parent extents ∷ []) → made ≡ making t
      pub gone : (extents : ℕ) → is_leaf_renamed t leaf parent ≡ true → making t ≡ Inflate parent extents ∷ [] → made ≡ []

    abbrev Runs : (Name → Option Name) → List Change → Type 0
    Runs from cs = AllRun count (IsOn count x leaf parent K carried) (IsLast count x leaf parent K carried (making t) from) t cs

    start : IsReached count x leaf parent t Some
    start = record { table = table; homes = homes; sound = sound }

    pub end_of : IsEndRun
    end_of = by (is_leaf_renamed t leaf parent) (is_leaf_swapped t leaf parent) refl refl
      where
        renamed_end : is_leaf_renamed t leaf parent ≡ true → ((extents : ℕ) → making t ≢ Inflate parent extents ∷ []) ⊎ ((extents : ℕ) × (making t ≡ Inflate parent extents ∷ [])) → IsEndRun
        renamed_end is (inl free) = record {
          made = making t;
          from = moved leaf parent;
          run = subst (Runs (moved leaf parent)) (sym (at_changes [] true (is_leaf_swapped t leaf parent) (no_changes free) is refl))
              (rename_run count x leaf parent K carried (making t) t start carried.first one is free refl);
          as_ended = λ n. named_by n true is;
          same = λ h. refl;
          gone = λ extents r k. absurd (free extents k);
        }
        renamed_end is (inr k) = record {
          made = [];
          from = moved leaf parent;
          run = corner_run x table homes sound leaf parent one is k.0 k.1 K carried;
          as_ended = λ n. named_by n true is;
          same = λ h. absurd (h k.0 is k.1);
          gone = λ extents r same. refl;
        }

        swapped_end : is_leaf_renamed t leaf parent ≡ false → is_leaf_swapped t leaf parent ≡ true → IsEndRun
        swapped_end not_renamed is =
            let σ = swapped_stage x homes sound leaf parent one is in
            let own = of_row_parts (λ r. not r.fresh) (rows t (Vhd leaf)) σ.filled in
            record {
              made = making t;
              from = Some;
              run = subst (Runs Some) (sym (at_changes (parent_changes t parent (head (making t))) false true refl not_renamed is))
                  (show_run count x leaf parent K carried (making t) Some t start carried.first one is own.0 own.1 (of_row (λ q. q.hidden) (rows t (Vhd leaf))) (sym (ap (of_row (λ q. q.hidden)) own.1)) refl);
              as_ended = λ n. named_by n false not_renamed;
              same = λ h. refl;
              gone = λ extents r k. absurd (true≢false (sym r ∙ not_renamed));
            }

        placed_end : is_leaf_renamed t leaf parent ≡ false → is_leaf_swapped t leaf parent ≡ false → IsEndRun
        placed_end not_renamed not_swapped = record {
          made = making t;
          from = Some;
          run = subst (Runs Some) (sym (at_changes (parent_changes t parent (head (making t))) false false refl not_renamed not_swapped))
              (end_run count x leaf parent K carried (making t) Some t start carried.first one not_renamed not_swapped refl);
          as_ended = λ n. named_by n false not_renamed;
          same = λ h. refl;
          gone = λ extents r k. absurd (true≢false (sym r ∙ not_renamed));
        }

        by : (r w : Bool) → is_leaf_renamed t leaf parent ≡ r → is_leaf_swapped t leaf parent ≡ w → IsEndRun
        by true w is_r is_w = renamed_end is_r corner_or_not
        by false true is_r is_w = swapped_end is_r is_w
        by false false is_r is_w = placed_end is_r is_w

    abbrev on : VolumeTable → Type 0
    on = IsOn count x leaf parent K carried

    abbrev last : VolumeTable → Type 0
    last = IsLast count x leaf parent K carried end_of.made end_of.from

    -- each table on the way
    pub end_reached : (v : VolumeTable) → IsEnding t v → on v
    end_reached v h =
        subst on (ap (λ cs. applied_all t (take h.0 cs)) (sym (ends_are t leaf parent one)) ∙ sym h.1) (run_taken count on last t (leaf_changes t leaf parent) end_of.run h.0)

    -- and the last one
    pub end_last : last (ended t)
    unfolding ended
    end_last = subst last (ap (applied_all t) (sym (ends_are t leaf parent one))) (run_last count on last t (leaf_changes t leaf parent) end_of.run)

    pub run_allowed : AllPermit count t (leaf_changes t leaf parent)
    run_allowed = run_permits count on last t (leaf_changes t leaf parent) end_of.run

  -- ---- what is left

  -- nothing more is looked at
  abbrev Nothing : VolumeTable → (Name → Option Name) → Type 0
  Nothing v from = Unit {0}

  nothing : IsCarried count x leaf parent Nothing
  nothing = record { first = tt; cut = λ extents w. tt; without = λ extents w. tt; steady = λ v w from p k held. tt; named = λ v p one stage free held. tt }

  -- each commit is allowed in its turn
  pub ended_permits : AllPermit count t (leaf_changes t leaf parent)
  ended_permits = run_allowed Nothing nothing

  -- no check fails at the end
  pub ended_sound : fault_of (ended_outline x) ≡ None
  ended_sound =
      let k = end_of Nothing nothing in
      let p = (end_last Nothing nothing).0 in
      ap (λ f. fault_of (record x { table = ended t; links = λ n. f n >>= x.links })) (sym (fun_ext k.as_ended)) ∙ p.sound

  -- each table on the way is one, and so is the last
  pub ending_table : (v : VolumeTable) → IsEnding t v → IsTable count v
  ending_table v ending = let p = (end_reached Nothing nothing v ending).1 in p.table

  pub ended_table : IsTable count (ended t)
  ended_table = let p = (end_last Nothing nothing).0 in p.table

  pub ended_folding : folding (ended t) ≡ []
  ended_folding = (end_last Nothing nothing).2

  pub ended_simple : IsSimple (ended t)
  ended_simple = none_simple (ended_outline x) ended_sound ended_folding

  -- each image stands in a volume, as before
  pub ended_images : HasImages (ended_outline x)
  ended_images =
      let k = end_of Nothing nothing in
      let p = (end_last Nothing nothing).0 in
      subst (λ f. HasImages (record x { table = ended t; links = λ n. f n >>= x.links })) (fun_ext k.as_ended) p.homes

  -- no leaf is being folded any more
  pub ended_but_leaf : PassesButLeaf (ended_outline x)
  ended_but_leaf = outline_but_leaf (ended_outline x) ended_sound (simple_known (ended t) ended_simple)

  pub ended_making : ((extents : ℕ) → is_leaf_renamed t leaf parent ≡ true → making t ≢ Inflate parent extents ∷ []) → making (ended t) ≡ making t
  ended_making free = let k = end_of Nothing nothing in (end_last Nothing nothing).3 ∙ k.same free

  pub ended_unmade : (extents : ℕ) → is_leaf_renamed t leaf parent ≡ true → making t ≡ Inflate parent extents ∷ [] → making (ended t) ≡ []
  ended_unmade extents stage made = let k = end_of Nothing nothing in (end_last Nothing nothing).3 ∙ k.gone extents stage made

-- ---- how many they are

pub few_ends : (t : VolumeTable) (leaf parent : List ℕ) → length (leaf_changes t leaf parent) ≤ 6
few_ends t leaf parent = by (is_leaf_renamed t leaf parent) (is_leaf_swapped t leaf parent)
  where
    two : (x : Change) (b : Bool) (y : Change) → length (wanted b x ++ y ∷ []) ≤ 2
    two x true y = omega arith
    two x false y = omega arith

    within : (b : Bool) (cs : List Change) → length cs ≤ 2 → length (cond b cs []) ≤ 2
    within true cs h = h
    within false cs h = omega arith

    first : (n : Option Name) → length (parent_changes t parent n) ≤ 2
    first (Some (Inflate u extents)) = within (bytes_eq u parent) (changes_back t (Inflate u extents)) (two (Cut (Vhd u) extents) (of_row (is_longer extents) (rows t (Vhd u))) (Remove (Inflate u extents)))
    first None = omega arith
    first (Some _) = omega arith

    shown : (b : Bool) → length (wanted b (Mark (Vhd leaf) Hidden false) ++ leaf_gone leaf parent) ≤ 6
    shown true = omega arith
    shown false = omega arith

    by : (r w : Bool) → length (cond r (parent_changes t parent (head (making t)) ++ (Rename (Vhd parent) (Vhd leaf) ∷ Mark (Vhd leaf) Hidden false ∷ leaf_gone leaf parent))
        (cond w (wanted (of_row (λ q. q.hidden) (rows t (Vhd leaf))) (Mark (Vhd leaf) Hidden false) ++ leaf_gone leaf parent) (Remove (Leaf leaf parent) ∷ []))) ≤ 6
    by true w =
        let all = length-append (parent_changes t parent (head (making t))) (Rename (Vhd parent) (Vhd leaf) ∷ Mark (Vhd leaf) Hidden false ∷ leaf_gone leaf parent) in
        let most = first (head (making t)) in omega (arith, all, most)
    by false true = shown (of_row (λ q. q.hidden) (rows t (Vhd leaf)))
    by false false = omega arith
