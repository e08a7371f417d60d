-- The volumes once a leaf's folding is ended: the image that goes on has the leaf's name and is shown, the old leaf and the entry are
-- gone, and every other volume is as it was. Where the parent was being enlarged it has the extents that it had.
use Rattle.std.proofs.Common.{◌≡◌, ◌≢◌, ◌⊎◌, inl, inr, ℕ, ◌&&◌, not, Bool, true, false, cond, List, [], ◌∷◌, ◌++◌, length, take, Some, None, is_some, refl, sym, ap, ◌∙◌, subst, arith}
use Rattle.std.specs.List.{filter}
use Rattle.std.proofs.lemmas.Bool.{true≢false, and_parts, false_from_ne_true}
use Rattle.std.proofs.lemmas.List.{take_all}
use Rattle.std.proofs.lemmas.Option.{same_Some}
use Rattle.common_laws.specs.Lists.{In}
use Rattle.common_laws.proofs.Booleans.{not_true}
use Rattle.common_laws.proofs.Bytes.{bytes_eq-refl}
use Rattle.common_laws.proofs.Options.{option_cases}
use Rattle.sm_base.specs.declared.names.Name.{Name}
use Rattle.sm_base.specs.declared.names.Name.TheVariants.{Vhd, Old, Inflate, Leaf}
use Rattle.vg_meta.specs.Changes.{SpeaksOf, applied, cut_to, renamed, tagged}
use Rattle.vg_meta.specs.declared.changes.Change.{Change}
use Rattle.vg_meta.specs.declared.changes.Change.TheVariants.{Mark, Remove, Rename}
use Rattle.vg_meta.specs.declared.changes.Tag.TheVariants.{Hidden}
use Rattle.vg_meta.specs.Tables.{VolumeTable, Row, IsTable, names_of, rows}
use Rattle.vg_meta.proofs.ByName.{changes_by_name}
use Rattle.vg_meta.proofs.ChangeLaws.{IsTable-applied}
use Rattle.vg_meta.proofs.RowLaws.{row_of-name}
use Rattle.sm_machine.specs.Shapes.{same_image}
use Rattle.sm_machine.proofs.ImageNames.{same_image-sound}
use Rattle.sm_standing.specs.Checks.{fault_of}
use Rattle.sm_standing.specs.Entries.{folding, head, is_leaf_renamed, is_leaf_swapped, is_making, is_there, making, of_row}
use Rattle.sm_standing.specs.Images.{image_extents}
use Rattle.sm_standing.specs.Opened.{applied_all, changes_back, ended, leaf_changes, leaf_gone, parent_changes, undone, wanted}
use Rattle.sm_standing.specs.Outlines.{HasImages, Outline}
use Rattle.sm_standing.specs.Plain.{IsSimple, is_simple, is_simple_name}
use Rattle.sm_standing.specs.Undone.{AllPermit, IsBeingEnlarged}
use Rattle.sm_standing.proofs.DisksShown.{row_of-In}
use Rattle.sm_standing.proofs.ForkTables.{of_row_parts}
use Rattle.sm_standing.proofs.LeafCorner.{enlarged}
use Rattle.sm_standing.proofs.LeafEnds.{at_changes, corner_or_not, ended_making, ended_permits, ended_simple, ended_unmade, ends_are, no_changes}
use Rattle.sm_standing.proofs.LeafRename.{at_size}
use Rattle.sm_standing.proofs.LeafStages.{IsRenamed, listed, placed_stage, renamed_stage}
use Rattle.sm_standing.proofs.PlainDisks.{all-In}
use Rattle.sm_standing.proofs.UndoneLaws.{changes_are, other_undone, own_undone, undone_is_table}

-- ---- runs of changes that are allowed

pub permits_front : (count : ℕ) (t : VolumeTable) (xs ys : List Change) → AllPermit count t (xs ++ ys) → IsTable count t → IsTable count (applied_all t xs) × AllPermit count (applied_all t xs) ys
permits_front count t [] ys may table = (table, may)
permits_front count t (x ∷ xs) ys may table = permits_front count (applied t x) xs ys may.1 (IsTable-applied count t x table may.0)

pub applied_then : (t : VolumeTable) (xs ys : List Change) → applied_all t (xs ++ ys) ≡ applied_all (applied_all t xs) ys
applied_then t [] ys = refl
applied_then t (x ∷ xs) ys = applied_then (applied t x) xs ys

-- ---- names that no change of a list speaks of

abbrev pub IsUnsaid : Name → List Change → Type 0
IsUnsaid n [] = Unit {0}
IsUnsaid n (x ∷ xs) = (SpeaksOf x n → ⊥) × IsUnsaid n xs

pub rows_kept : (count : ℕ) (n : Name) (cs : List Change) (v : VolumeTable) → IsTable count v → AllPermit count v cs → IsUnsaid n cs → rows (applied_all v cs) n ≡ rows v n
rows_kept count n [] v h may none = refl
rows_kept count n (x ∷ xs) v h may none =
    rows_kept count n xs (applied v x) (IsTable-applied count v x h may.0) may.1 none.1 ∙ (changes_by_name count v x h may.0).others n none.0

module _ (count : ℕ) (leaf parent : List ℕ) where
  abbrev e : Name
  e = Leaf leaf parent

  -- ---- the last commits, of any table

  abbrev shows : Bool → List Change
  shows m = wanted m (Mark (Vhd leaf) Hidden false) ++ leaf_gone leaf parent

  gone_leaf : (v : VolumeTable) → IsTable count v → AllPermit count v (leaf_gone leaf parent) → (r : Row) → rows v (Vhd leaf) ≡ Some r → rows (applied_all v (leaf_gone leaf parent)) (Vhd leaf) ≡ Some r
  gone_leaf v h may r there = rows_kept count (Vhd leaf) (leaf_gone leaf parent) v h may (λ is. (let z = is in cc), (λ is. (let z = is in cc), tt)) ∙ there

  -- the image is shown
  visible : (r : Row) → r.hidden ≡ false → r ≡ tagged Hidden false r
  visible r vis = ap (λ b. record r { hidden = b }) vis

  shown_leaf : (v : VolumeTable) → IsTable count v → (m : Bool) → AllPermit count v (shows m) → (r : Row) → rows v (Vhd leaf) ≡ Some r → r.hidden ≡ m
      → rows (applied_all v (shows m)) (Vhd leaf) ≡ Some (tagged Hidden false r)
  shown_leaf v h false may r there vis = gone_leaf v h may r there ∙ ap Some (visible r vis)
  shown_leaf v h true may r there hid =
      let k = (changes_by_name count v (Mark (Vhd leaf) Hidden false) h may.0).does in
      gone_leaf (applied v (Mark (Vhd leaf) Hidden false)) (IsTable-applied count v (Mark (Vhd leaf) Hidden false) h may.0) may.1 (tagged Hidden false r)
      (k.2 ∙ ap (λ (s : Row). Some (tagged Hidden false s)) (same_Some k.0 r (sym k.1 ∙ there)))

  -- the parent takes the leaf's name
  abbrev names : List Change
  names = Rename (Vhd parent) (Vhd leaf) ∷ shows true

  named_leaf : (v : VolumeTable) → IsTable count v → AllPermit count v names → (r : Row) → rows v (Vhd parent) ≡ Some r → r.hidden ≡ true
      → rows (applied_all v names) (Vhd leaf) ≡ Some (tagged Hidden false (renamed (Vhd leaf) r))
  named_leaf v h may r there hid =
      let k = (changes_by_name count v (Rename (Vhd parent) (Vhd leaf)) h may.0).does in
      shown_leaf (applied v (Rename (Vhd parent) (Vhd leaf))) (IsTable-applied count v (Rename (Vhd parent) (Vhd leaf)) h may.0) true may.1 (renamed (Vhd leaf) r)
      (k.4 ∙ ap (λ (s : Row). Some (renamed (Vhd leaf) s)) (same_Some k.0 r (sym k.1 ∙ there))) hid

  named_parent : (v : VolumeTable) → IsTable count v → AllPermit count v names → parent ≢ leaf → rows (applied_all v names) (Vhd parent) ≡ None
  named_parent v h may differ =
      let k = (changes_by_name count v (Rename (Vhd parent) (Vhd leaf)) h may.0).does in
      rows_kept count (Vhd parent) (shows true) (applied v (Rename (Vhd parent) (Vhd leaf))) (IsTable-applied count v (Rename (Vhd parent) (Vhd leaf)) h may.0) may.1
      (λ is. differ (let z = is in cc), (λ is. (let z = is in cc), (λ is. (let z = is in cc), tt))) ∙ k.3

-- ---- names that are gone

-- no volume has a name of a kind of which none is there
unnamed : (v : VolumeTable) (test : Name → Bool) → filter test (names_of v.volumes) ≡ [] → (n : Name) → test n ≡ true → rows v n ≡ None
unnamed v test none n is = by (option_cases (rows v n))
  where
    by : (rows v n ≡ None) ⊎ ((r : Row) × (rows v n ≡ Some r)) → rows v n ≡ None
    by (inl gone) = gone
    by (inr k) = absurd (subst (In n) none (listed v test n k.0 k.1 is))

-- nor one that is of no simple kind, where all are
unsimple : (v : VolumeTable) → IsSimple v → (n : Name) → is_simple_name n ≡ false → rows v n ≡ None
unsimple v simple n other = by (option_cases (rows v n))
  where
    by : (rows v n ≡ None) ⊎ ((r : Row) × (rows v n ≡ Some r)) → rows v n ≡ None
    by (inl gone) = gone
    by (inr k) =
        absurd (true≢false (sym (all-In (λ r. is_simple r ≡ true) v.volumes k.0 simple (row_of-In v.volumes n k.0 k.1).0) ∙ ap is_simple_name (row_of-name v.volumes n k.0 k.1) ∙ other))

-- ---- the volumes at the end

module _ (count : ℕ) (x : Outline) (sound : fault_of x ≡ None) (table : IsTable count x.table) (homes : HasImages x) (leaf parent : List ℕ) (one : folding x.table ≡ Leaf leaf parent ∷ []) where
  abbrev t : VolumeTable
  t = x.table

  may : (cs : List Change) → leaf_changes t leaf parent ≡ cs → AllPermit count t cs
  may cs is = subst (AllPermit count t) is (ended_permits count x sound table homes leaf parent one)

  ends : (cs : List Change) → leaf_changes t leaf parent ≡ cs → ended t ≡ applied_all t cs
  unfolding ended
  ends cs is = ap (applied_all t) (ends_are t leaf parent one ∙ is)

  -- the old leaf and the entry are gone
  pub ended_old : rows (ended t) (Old leaf) ≡ None
  ended_old = unsimple (ended t) (ended_simple count x sound table homes leaf parent one) (Old leaf) refl

  pub ended_entry : rows (ended t) (Leaf leaf parent) ≡ None
  ended_entry = unsimple (ended t) (ended_simple count x sound table homes leaf parent one) (Leaf leaf parent) refl

  -- ---- where the leaf was not renamed

  module _ (not_renamed : is_leaf_renamed t leaf parent ≡ false) where
    placed_changes : is_leaf_swapped t leaf parent ≡ false → leaf_changes t leaf parent ≡ Remove (Leaf leaf parent) ∷ []
    placed_changes not_swapped = at_changes count x sound table homes leaf parent one (parent_changes t parent (head (making t))) false false refl not_renamed not_swapped

    swapped_changes : is_leaf_swapped t leaf parent ≡ true → leaf_changes t leaf parent ≡ shows count leaf parent (of_row (λ q. q.hidden) (rows t (Vhd leaf)))
    swapped_changes stage = at_changes count x sound table homes leaf parent one (parent_changes t parent (head (making t))) false true refl not_renamed stage

    -- where nothing was swapped the entry alone goes
    pub ended_placed : is_leaf_swapped t leaf parent ≡ false → (n : Name) → n ≢ Leaf leaf parent → rows (ended t) n ≡ rows t n
    ended_placed not_swapped n entry =
        let is = placed_changes not_swapped in ap (λ (v : VolumeTable). rows v n) (ends _ is) ∙ rows_kept count n (Remove (Leaf leaf parent) ∷ []) t table (may _ is) (entry, tt)

    -- the image is shown
    pub ended_leaf : (r : Row) → rows t (Vhd leaf) ≡ Some r → rows (ended t) (Vhd leaf) ≡ Some (tagged Hidden false r)
    ended_leaf r there = by (is_leaf_swapped t leaf parent) refl
      where
        seen : (r : Row) → (not r.hidden && not r.fresh) ≡ true → r.hidden ≡ false
        seen r h = not_true r.hidden (and_parts (not r.hidden) (not r.fresh) h).0

        by : (w : Bool) → is_leaf_swapped t leaf parent ≡ w → rows (ended t) (Vhd leaf) ≡ Some (tagged Hidden false r)
        by true stage =
            let is = swapped_changes stage in
            ap (λ (v : VolumeTable). rows v (Vhd leaf)) (ends _ is)
            ∙ shown_leaf count leaf parent t table (of_row (λ q. q.hidden) (rows t (Vhd leaf))) (may _ is) r there (sym (ap (of_row (λ q. q.hidden)) there))
        by false not_swapped =
            let σ = placed_stage x homes sound leaf parent one not_renamed not_swapped in
            ended_placed not_swapped (Vhd leaf) (λ at. let z = at in cc) ∙ there
            ∙ ap Some (visible count leaf parent r (seen r (sym (ap (of_row (λ q. not q.hidden && not q.fresh)) there) ∙ σ.shown)))

    -- every other volume is as it was
    pub ended_same : (n : Name) → n ≢ Vhd leaf → n ≢ Old leaf → n ≢ Leaf leaf parent → rows (ended t) n ≡ rows t n
    ended_same n own old entry = by (is_leaf_swapped t leaf parent) refl
      where
        unsaid : (m : Bool) → IsUnsaid n (shows count leaf parent m)
        unsaid true = (own, (old, (entry, tt)))
        unsaid false = (old, (entry, tt))

        by : (w : Bool) → is_leaf_swapped t leaf parent ≡ w → rows (ended t) n ≡ rows t n
        by true stage = let is = swapped_changes stage in ap (λ (v : VolumeTable). rows v n) (ends _ is) ∙ rows_kept count n _ t table (may _ is) (unsaid _)
        by false not_swapped = ended_placed not_swapped n entry

    -- what is being made is made, and the extents of each image are those that they were
    pub same_making : making (ended t) ≡ making t
    same_making = ended_making count x sound table homes leaf parent one (λ extents is. absurd (true≢false (sym is ∙ not_renamed)))

  -- ---- where it was renamed

  module _ (stage : is_leaf_renamed t leaf parent ≡ true) where
    σ : IsRenamed x homes sound leaf parent one
    σ = renamed_stage x homes sound leaf parent one stage

    distinct : parent ≢ leaf
    distinct is =
        let own = of_row_parts (λ r. r.hidden && not r.fresh) (rows t (Vhd parent)) σ.hidden in true≢false (sym (ap is_some own.1) ∙ ap (λ u. is_there t (Vhd u)) is ∙ σ.no_vhd)

    hid : (r : Row) → rows t (Vhd parent) ≡ Some r → r.hidden ≡ true
    hid r there = (and_parts r.hidden (not r.fresh) (sym (ap (of_row (λ q. q.hidden && not q.fresh)) there) ∙ σ.hidden)).0

    free_changes : ((extents : ℕ) → making t ≢ Inflate parent extents ∷ []) → leaf_changes t leaf parent ≡ names count leaf parent
    free_changes free =
        at_changes count x sound table homes leaf parent one [] true (is_leaf_swapped t leaf parent) (no_changes count x sound table homes leaf parent one free) stage refl

    unsaid : (n : Name) → n ≢ Vhd leaf → n ≢ Vhd parent → n ≢ Old leaf → n ≢ Leaf leaf parent → IsUnsaid n (names count leaf parent)
    unsaid n own was old entry = (either, (own, (old, (entry, tt))))
      where
        either : (n ≡ Vhd parent) ⊎ (n ≡ Vhd leaf) → ⊥
        either (inl is) = was is
        either (inr is) = own is

    -- the parent is being enlarged
    module _ (extents : ℕ) (made : making t ≡ Inflate parent extents ∷ []) where
      w : IsBeingEnlarged t parent extents
      w = enlarged x table homes sound leaf parent one stage extents made

      abbrev first : List Change
      first = changes_back t (Inflate parent extents)

      corner_changes : leaf_changes t leaf parent ≡ first ++ names count leaf parent
      corner_changes =
          at_changes count x sound table homes leaf parent one first true (is_leaf_swapped t leaf parent)
          (ap (λ ns. parent_changes t parent (head ns)) made ∙ ap (λ b. cond b first []) (bytes_eq-refl parent)) stage refl

      undone_first : applied_all t first ≡ undone t
      unfolding undone
      undone_first = sym (ap (applied_all t) (changes_are t parent extents w))

      behind : ended t ≡ applied_all (undone t) (names count leaf parent)
      behind = ends _ corner_changes ∙ applied_then t first (names count leaf parent) ∙ ap (λ v. applied_all v (names count leaf parent)) undone_first

      may_behind : AllPermit count (undone t) (names count leaf parent)
      may_behind = subst (λ v. AllPermit count v (names count leaf parent)) undone_first (permits_front count t first (names count leaf parent) (may _ corner_changes) table).1

      undone_right : IsTable count (undone t)
      undone_right = undone_is_table t parent extents w count table

    abbrev corner : ((extents : ℕ) → making t ≢ Inflate parent extents ∷ []) ⊎ ((extents : ℕ) × (making t ≡ Inflate parent extents ∷ []))
    corner = corner_or_not count x sound table homes leaf parent one

    -- the row that an image has once it is shown under the leaf's name, with the extents in which it is read
    abbrev pub named_row : Row → Row
    named_row r = record { name = Vhd leaf; hidden = false; fresh = r.fresh; extents = take (image_extents (making t) (Vhd parent) (length r.extents)) r.extents }

    -- the parent's image has the leaf's name
    pub ended_named : (r : Row) → rows t (Vhd parent) ≡ Some r → rows (ended t) (Vhd leaf) ≡ Some (named_row r)
    unfolding same_image
    ended_named r there = by corner
      where
        at : List ℕ → Row
        at es = record { name = Vhd leaf; hidden = false; fresh = r.fresh; extents = es }

        by : ((extents : ℕ) → making t ≢ Inflate parent extents ∷ []) ⊎ ((extents : ℕ) × (making t ≡ Inflate parent extents ∷ [])) → rows (ended t) (Vhd leaf) ≡ Some (named_row r)
        by (inl free) =
            let is = free_changes free in
            let size = at_size x table homes sound leaf parent one stage free parent (inr refl) (length r.extents) in
            ap (λ (v : VolumeTable). rows v (Vhd leaf)) (ends _ is) ∙ named_leaf count leaf parent t table (may _ is) r there (hid r there)
            ∙ ap (λ es. Some (at es)) (sym (take_all (length r.extents) r.extents (omega arith)) ∙ ap (λ k. take k r.extents) (sym size))
        by (inr (extents, made)) =
            let h = w extents made in
            let same : h.own ≡ r = same_Some h.own r (sym h.there ∙ there) in
            ap (λ (v : VolumeTable). rows v (Vhd leaf)) (behind extents made)
            ∙ named_leaf count leaf parent (undone t) (undone_right extents made) (may_behind extents made) (cut_to extents r)
            (own_undone t parent extents h ∙ ap (λ (q : Row). Some (cut_to extents q)) same) (hid r there)
            ∙ ap (λ k. Some (at (take k r.extents))) (sym (ap (λ ns. image_extents ns (Vhd parent) (length r.extents)) made ∙ ap (λ b. cond b extents (length r.extents)) (bytes_eq-refl parent)))

    -- and no longer its own
    pub ended_parent : rows (ended t) (Vhd parent) ≡ None
    ended_parent = by corner
      where
        by : ((extents : ℕ) → making t ≢ Inflate parent extents ∷ []) ⊎ ((extents : ℕ) × (making t ≡ Inflate parent extents ∷ [])) → rows (ended t) (Vhd parent) ≡ None
        by (inl free) = let is = free_changes free in ap (λ (v : VolumeTable). rows v (Vhd parent)) (ends _ is) ∙ named_parent count leaf parent t table (may _ is) distinct
        by (inr (extents, made)) =
            ap (λ (v : VolumeTable). rows v (Vhd parent)) (behind extents made) ∙ named_parent count leaf parent (undone t) (undone_right extents made) (may_behind extents made) distinct

    -- nor is the entry of its enlargement there
    pub ended_enlarged : (extents : ℕ) → making t ≡ Inflate parent extents ∷ [] → rows (ended t) (Inflate parent extents) ≡ None
    ended_enlarged extents made = unnamed (ended t) is_making (ended_unmade count x sound table homes leaf parent one extents stage made) (Inflate parent extents) refl

    -- every other volume is as it was
    pub ended_other : (n : Name) → n ≢ Vhd leaf → n ≢ Vhd parent → n ≢ Old leaf → n ≢ Leaf leaf parent → ((extents : ℕ) → making t ≡ Inflate parent extents ∷ [] → n ≢ Inflate parent extents)
        → rows (ended t) n ≡ rows t n
    ended_other n own was old entry other = by corner
      where
        by : ((extents : ℕ) → making t ≢ Inflate parent extents ∷ []) ⊎ ((extents : ℕ) × (making t ≡ Inflate parent extents ∷ [])) → rows (ended t) n ≡ rows t n
        by (inl free) = let is = free_changes free in ap (λ (v : VolumeTable). rows v n) (ends _ is) ∙ rows_kept count n (names count leaf parent) t table (may _ is) (unsaid n own was old entry)
        by (inr (extents, made)) =
            ap (λ (v : VolumeTable). rows v n) (behind extents made)
            ∙ rows_kept count n (names count leaf parent) (undone t) (undone_right extents made) (may_behind extents made) (unsaid n own was old entry)
            ∙ other_undone t parent extents (w extents made) n (other extents made) was

    -- the image that goes on is read in all of its extents, and every other in those in which it was read
    pub ended_whole : (all : ℕ) → image_extents (making (ended t)) (Vhd leaf) all ≡ all
    ended_whole all = by corner
      where
        by : ((extents : ℕ) → making t ≢ Inflate parent extents ∷ []) ⊎ ((extents : ℕ) × (making t ≡ Inflate parent extents ∷ [])) → image_extents (making (ended t)) (Vhd leaf) all ≡ all
        by (inl free) =
            ap (λ ns. image_extents ns (Vhd leaf) all) (ended_making count x sound table homes leaf parent one (λ extents is. free extents))
            ∙ at_size x table homes sound leaf parent one stage free leaf (inl refl) all
        by (inr (extents, made)) = ap (λ ns. image_extents ns (Vhd leaf) all) (ended_unmade count x sound table homes leaf parent one extents stage made)

    pub ended_extents : (n : Name) → n ≢ Vhd parent → (all : ℕ) → image_extents (making (ended t)) n all ≡ image_extents (making t) n all
    ended_extents n other all = by corner
      where
        by : ((extents : ℕ) → making t ≢ Inflate parent extents ∷ []) ⊎ ((extents : ℕ) × (making t ≡ Inflate parent extents ∷ [])) → image_extents (making (ended t)) n all ≡ image_extents (making t) n all
        by (inl free) = ap (λ ns. image_extents ns n all) (ended_making count x sound table homes leaf parent one (λ extents is. free extents))
        by (inr (extents, made)) =
            ap (λ ns. image_extents ns n all) (ended_unmade count x sound table homes leaf parent one extents stage made)
            ∙ sym (ap (λ ns. image_extents ns n all) made ∙ ap (λ b. cond b extents all) (false_from_ne_true (same_image (Vhd parent) n) (λ is. other (sym (same_image-sound (Vhd parent) n is)))))
