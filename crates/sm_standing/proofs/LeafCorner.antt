-- The commits that end a leaf's folding where the leaf was renamed and its parent is being enlarged: the enlargement is undone first,
-- and the parent takes the leaf's name then.
use Rattle.std.proofs.Common.{◌≡◌, ◌≢◌, ◌⊎◌, inl, inr, ℕ, Bool, true, false, cond, List, [], ◌∷◌, ◌++◌, Option, Some, None, is_some, refl, sym, ap, ◌∙◌, subst}
use Rattle.common_laws.proofs.Bytes.{bytes_eq-refl}
use Rattle.sm_base.specs.declared.names.Name.{Name}
use Rattle.sm_base.specs.declared.names.Name.TheVariants.{Vhd, Inflate, Leaf}
use Rattle.vg_meta.specs.Changes.{cut_to}
use Rattle.vg_meta.specs.declared.changes.Change.{Change}
use Rattle.vg_meta.specs.declared.changes.Change.TheVariants.{Cut, Mark, Remove, Rename}
use Rattle.vg_meta.specs.declared.changes.Tag.TheVariants.{Hidden}
use Rattle.vg_meta.specs.Tables.{VolumeTable, IsTable, name_eq, row_of, rows}
use Rattle.vg_meta.proofs.NameLaws.{name_eq-false, name_eq-true}
use Rattle.vg_meta.proofs.RowLaws.{row_of-with_row_other, row_of-with_row_same}
use Rattle.sm_machine.specs.WellFormed.{is_image_name}
use Rattle.sm_standing.specs.Checks.{fault_of}
use Rattle.sm_standing.specs.Enlarging.{IsEnlarging}
use Rattle.sm_standing.specs.Entries.{folding, head, is_leaf_renamed, is_leaf_swapped, is_there, making, of_row}
use Rattle.sm_standing.specs.Opened.{changes_back, is_longer, leaf_changes, leaf_gone, parent_changes, undone, wanted}
use Rattle.sm_standing.specs.Outlines.{HasImages, Link, Outline}
use Rattle.sm_standing.specs.Standing.{standing_volume}
use Rattle.sm_standing.specs.Undone.{IsBeingEnlarged}
use Rattle.sm_standing.proofs.EnlargedOutlines.{sound_with, sound_without}
use Rattle.sm_standing.proofs.EnlargingLaws.{folding_same, renamed_alike, stands_alike}
use Rattle.sm_standing.proofs.ForkRuns.{AllRun}
use Rattle.sm_standing.proofs.LeafRename.{moved}
use Rattle.sm_standing.proofs.LeafRuns.{IsCarried, IsLast, IsOn, IsReached, rename_run}
use Rattle.sm_standing.proofs.PlainKept.{sound_all}
use Rattle.sm_standing.proofs.UndoneButLeaf.{enlarged_run}
use Rattle.sm_standing.proofs.UndoneLaws.{IsBeingForked, bare, cut_is_table, cut_later, cut_rows, cut_table, cut_volumes, enlarged_or_not, enlarging_now, entry_still, is_enlarging, other_undone, own_undone, undone_is_table, undone_later, undone_making}

-- ---- an enlargement is undone beside whatever else is under way

module _ {count : ℕ} (x : Outline) (table : IsTable count x.table) (homes : HasImages x) (sound : fault_of x ≡ None) (u : List ℕ) (extents : ℕ) (w : IsBeingEnlarged x.table u extents) where
  abbrev t : VolumeTable
  t = x.table

  abbrev entry : Name
  entry = Inflate u extents

  abbrev cut_to_it : VolumeTable
  cut_to_it = cut_table t u extents w

  no_image : x.links entry ≡ None
  unfolding is_image_name
  no_image = homes.named entry refl

  -- behind the cut, and without the entry, no check fails
  pub cut_sound : fault_of (record x { table = cut_to_it }) ≡ None
  cut_sound = sound_with x sound u extents w no_image cut_to_it (cut_later t u extents w count table) (entry_still t u extents w)

  pub undone_sound : fault_of (record x { table = undone t }) ≡ None
  undone_sound = sound_without x sound u extents w no_image (undone t).sequence (undone_later t u extents w count table)

  -- the other entry is the same, and each disk stands where it stood
  cut_enlarging : IsEnlarging (bare t u extents w) cut_to_it u extents
  cut_enlarging = is_enlarging t u extents w (bare t u extents w) t.sequence cut_to_it refl (cut_later t u extents w count table) (entry_still t u extents w)

  pub cut_folding : folding cut_to_it ≡ folding t
  cut_folding = folding_same (bare t u extents w) cut_to_it u extents cut_enlarging ∙ sym (folding_same (bare t u extents w) t u extents (enlarging_now t u extents w))

  pub cut_stands : (v : List ℕ) → standing_volume cut_to_it v ≡ standing_volume t v
  cut_stands v = stands_alike (bare t u extents w) cut_to_it u extents cut_enlarging v ∙ sym (stands_alike (bare t u extents w) t u extents (enlarging_now t u extents w) v)

  pub undone_folding : folding (undone t) ≡ folding t
  undone_folding = sym (folding_same (bare t u extents w) t u extents (enlarging_now t u extents w))

  pub undone_renamed : (leaf parent : List ℕ) → is_leaf_renamed (undone t) leaf parent ≡ is_leaf_renamed t leaf parent
  undone_renamed leaf parent = sym (renamed_alike (bare t u extents w) t u extents (enlarging_now t u extents w) leaf parent)

  -- each image stands in a volume as before
  homes_at : (v : VolumeTable) → ((n : Name) → is_image_name n ≡ true → is_there t n ≡ true → is_there v n ≡ true) → HasImages (record x { table = v })
  homes_at v still = record { named = homes.named; there = λ n i is. by n i is (is_image_name n) refl; alone = homes.alone }
    where
      by : (n : Name) (i : Link) → x.links n ≡ Some i → (b : Bool) → is_image_name n ≡ b → is_there v n ≡ true
      by n i is true named = still n named (homes.there n i is)
      by n i is false named = absurd (let z = sym (homes.named n named) ∙ is in cc)

  pub cut_homes : HasImages (record x { table = cut_to_it })
  cut_homes = homes_at cut_to_it (λ n named there. by n there (name_eq n (Vhd u)) refl)
    where
      by : (n : Name) → is_there t n ≡ true → (b : Bool) → name_eq n (Vhd u) ≡ b → is_there cut_to_it n ≡ true
      by n there true is =
          ap (λ rs. is_some (row_of rs n)) (cut_volumes t u extents w)
          ∙ ap (λ m. is_some (row_of (cut_rows t u extents w) m)) (name_eq-true n (Vhd u) is) ∙ ap is_some (row_of-with_row_same t.volumes (Vhd u) (cut_to extents) w.own (λ r. refl) w.there)
      by n there false is =
          ap (λ rs. is_some (row_of rs n)) (cut_volumes t u extents w)
          ∙ ap is_some (row_of-with_row_other t.volumes (Vhd u) n (cut_to extents) (λ r. refl) (λ at. name_eq-false n (Vhd u) is (sym at))) ∙ there

  pub undone_homes : HasImages (record x { table = undone t })
  unfolding is_image_name
  undone_homes = homes_at (undone t) (λ n named there. by n named there (name_eq n (Vhd u)) refl)
    where
      by : (n : Name) → is_image_name n ≡ true → is_there t n ≡ true → (b : Bool) → name_eq n (Vhd u) ≡ b → is_there (undone t) n ≡ true
      by n named there true is = ap (is_there (undone t)) (name_eq-true n (Vhd u) is) ∙ ap is_some (own_undone t u extents w)
      by n named there false is = ap is_some (other_undone t u extents w n (λ at. (let z = sym (ap is_image_name at) ∙ named in cc)) (name_eq-false n (Vhd u) is)) ∙ there

-- ---- the run

module _ {count : ℕ} (x : Outline) (table : IsTable count x.table) (homes : HasImages x) (sound : fault_of x ≡ None) (leaf parent : List ℕ) (one : folding x.table ≡ Leaf leaf parent ∷ [])
    (stage : is_leaf_renamed x.table leaf parent ≡ true) (extents : ℕ) (made : making x.table ≡ Inflate parent extents ∷ []) where
  abbrev its_entry : Name
  its_entry = Inflate parent extents

  pub enlarged : IsBeingEnlarged x.table parent extents
  enlarged = let s = sound_all x sound in by (enlarged_or_not count x.table table s.one_entry s.at_stage)
    where
      of : (u : List ℕ) (more : ℕ) → IsBeingEnlarged x.table u more → u ≡ parent → more ≡ extents → IsBeingEnlarged x.table parent extents
      of u more k uuid number = subst (λ v. IsBeingEnlarged x.table v extents) uuid (subst (IsBeingEnlarged x.table u) number k)

      by : (making x.table ≡ []) ⊎ (((u : List ℕ) × (more : ℕ) × IsBeingEnlarged x.table u more) ⊎ IsBeingForked x.table) → IsBeingEnlarged x.table parent extents
      by (inl none) = absurd (let z = sym none ∙ made in cc)
      by (inr (inl k)) =
          let h = k.2 in
          let same : Inflate k.0 k.1 ∷ [] ≡ its_entry ∷ [] = sym h.entry ∙ made in
          of k.0 k.1 h (let z = same in cc) (let z = same in cc)
      by (inr (inr k)) = absurd (let z = sym k.3 ∙ made in cc)

  abbrev rest : List Change
  rest = Rename (Vhd parent) (Vhd leaf) ∷ Mark (Vhd leaf) Hidden false ∷ leaf_gone leaf parent

  abbrev first : Bool → List Change
  first b = wanted b (Cut (Vhd parent) extents)

  changes_are : leaf_changes x.table leaf parent ≡ first (of_row (is_longer extents) (rows x.table (Vhd parent))) ++ Remove its_entry ∷ rest
  changes_are =
      ap (λ r. cond r (parent_changes x.table parent (head (making x.table)) ++ rest)
      (cond (is_leaf_swapped x.table leaf parent) (wanted (of_row (λ q. q.hidden) (rows x.table (Vhd leaf))) (Mark (Vhd leaf) Hidden false) ++ leaf_gone leaf parent) (Remove (Leaf leaf parent) ∷ []))) stage
      ∙ ap (λ ns. parent_changes x.table parent (head ns) ++ rest) made ∙ ap (λ b. cond b (changes_back x.table its_entry) [] ++ rest) (bytes_eq-refl parent)
      ∙ joined (of_row (is_longer extents) (rows x.table (Vhd parent)))
    where
      joined : (b : Bool) → (first b ++ Remove its_entry ∷ []) ++ rest ≡ first b ++ Remove its_entry ∷ rest
      joined true = refl
      joined false = refl

  start : IsReached count x leaf parent x.table Some
  start = record { table = table; homes = homes; sound = sound }

  behind_cut : IsReached count x leaf parent (cut_table x.table parent extents enlarged) Some
  behind_cut = record {
    table = cut_is_table x.table parent extents enlarged count table;
    homes = cut_homes x table homes sound parent extents enlarged;
    sound = cut_sound x table homes sound parent extents enlarged;
  }

  without : IsReached count x leaf parent (undone x.table) Some
  without = record {
    table = undone_is_table x.table parent extents enlarged count table;
    homes = undone_homes x table homes sound parent extents enlarged;
    sound = undone_sound x table homes sound parent extents enlarged;
  }

  pub corner_run : (K : VolumeTable → (Name → Option Name) → Type 0) (carried : IsCarried count x leaf parent K)
      → AllRun count (IsOn count x leaf parent K carried) (IsLast count x leaf parent K carried [] (moved leaf parent)) x.table (leaf_changes x.table leaf parent)
  corner_run K carried =
      let on = IsOn count x leaf parent K carried in
      let last = IsLast count x leaf parent K carried [] (moved leaf parent) in
      subst (AllRun count on last x.table) (sym changes_are)
      (enlarged_run count x.table parent extents enlarged on last (Some, start, carried.first, inl one)
      (Some, behind_cut, carried.cut extents enlarged, inl (cut_folding x table homes sound parent extents enlarged ∙ one)) rest
      (rename_run count x leaf parent K carried [] (undone x.table) without (carried.without extents enlarged) (undone_folding x table homes sound parent extents enlarged ∙ one)
      (undone_renamed x table homes sound parent extents enlarged leaf parent ∙ stage) (λ more k. nothing more (sym (undone_making x.table parent extents enlarged) ∙ k))
      (undone_making x.table parent extents enlarged)))
    where
      nothing : (more : ℕ) → [] ≢ Inflate parent more ∷ []
      nothing more h = let z = h in cc
