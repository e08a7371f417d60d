-- The commits at the end of a leaf's folding that leave each image where it is: each is allowed, and what it leaves is sound and each
-- disk stands where it stood.
use Rattle.std.proofs.Common.{◌≡◌, ◌≢◌, ◌⊎◌, inl, inr, ℕ, ◌==◌, ◌&&◌, ◌||◌, not, Bool, true, false, cond, List, [], ◌∷◌, length, Some, None, is_some, refl, sym, ap, ap₂, ◌∙◌, subst, arith, bytes_eq}
use Rattle.std.specs.List.{filter, list_any}
use Rattle.std.proofs.lemmas.Bool.{true≢false, and_parts, and_right, eq-eqb, or_right, or_left}
use Rattle.std.proofs.lemmas.Option.{none-some, same_Some}
use Rattle.common_laws.specs.Lists.{In}
use Rattle.common_laws.proofs.Booleans.{not_true}
use Rattle.common_laws.proofs.Bytes.{bytes_eq-apart, bytes_eq-refl, same_or_not}
use Rattle.common_laws.proofs.Lists.{In-map, In-map_at}
use Rattle.common_laws.proofs.Options.{is_some-parts}
use Rattle.sm_base.specs.Kinds.{is_image as is_data}
use Rattle.sm_base.specs.declared.names.Name.{Name}
use Rattle.sm_base.specs.declared.names.Name.TheVariants.{Vhd, Raw, Old, Leaf}
use Rattle.vg_meta.specs.Changes.{Permits, applied, tagged}
use Rattle.vg_meta.specs.declared.changes.Change.TheVariants.{Mark, Remove}
use Rattle.vg_meta.specs.declared.changes.Tag.TheVariants.{Hidden}
use Rattle.vg_meta.specs.Tables.{VolumeTable, Row, IsTable, names_of, rows}
use Rattle.vg_meta.proofs.ByName.{changes_by_name}
use Rattle.vg_meta.proofs.ChangeLaws.{IsTable-applied}
use Rattle.vg_meta.proofs.RowLaws.{names_of-with_row}
use Rattle.sm_standing.specs.Apart.{is_apart}
use Rattle.sm_standing.specs.Checks.{children, fault_of, is_leaf_linked, is_orphaned, parent_is}
use Rattle.sm_standing.specs.Entries.{folding, head, is_among, is_filled, is_folding, is_hidden, is_leaf_copied, is_leaf_folded, is_leaf_renamed, is_leaf_swapped, is_making, is_old_of, is_there, is_visible, of_row}
use Rattle.sm_standing.specs.Outlines.{HasImages, Outline}
use Rattle.sm_standing.specs.Standing.{stands_plainly}
use Rattle.sm_standing.specs.Swaps.{HasLeafEntry}
use Rattle.sm_standing.proofs.ApartLaws.{beside, plainly_by}
use Rattle.sm_standing.proofs.ForkTables.{of_row_parts}
use Rattle.sm_standing.proofs.LeafStages.{IsPlaced, IsSwapped, childless_nobodys, entry_row, old_leaf, placed_stage, swapped_stage, unhidden_nobodys}
use Rattle.sm_standing.proofs.LeafSteady.{IsSteady}
use Rattle.sm_standing.proofs.SwapLaws.{beside_entry, beside_none, beside_plain, hidden_there, leaf_stands, named_renamed}
use Rattle.sm_standing.proofs.UndoneLaws.{raised_later}
use Rattle.sm_standing.proofs.UnfoldedLaws.{In-bare}
use Rattle.sm_standing.proofs.VolumeLists.{count_without, images_named, names_without, none_without}

-- the UUID of the leaf alone
one_not : (leaf u : List ℕ) → u ≢ leaf → is_among (leaf ∷ []) u ≡ false
one_not leaf u other = ap (λ b. b || false) (bytes_eq-apart leaf u (λ is. other (sym is)))

leaf_not_apart : (leaf : List ℕ) → is_among (leaf ∷ []) leaf ≡ true
leaf_not_apart leaf = ap (λ b. b || false) (bytes_eq-refl leaf)

plainly_alike : (t w : VolumeTable) (u : List ℕ) → rows w (Vhd u) ≡ rows t (Vhd u) → rows w (Raw u) ≡ rows t (Raw u) → stands_plainly w u ≡ stands_plainly t u
plainly_alike t w u v r = ap₂ (plainly_by u) v r

module _ {count : ℕ} (x : Outline) (table : IsTable count x.table) (homes : HasImages x) (sound : fault_of x ≡ None) (leaf parent : List ℕ) (one : folding x.table ≡ Leaf leaf parent ∷ []) where
  abbrev t : VolumeTable
  t = x.table

  abbrev e : Name
  e = Leaf leaf parent

  abbrev us : List (List ℕ)
  us = leaf ∷ []

  entry : HasLeafEntry t leaf parent
  entry = ap head one

  not_apart : (n : Name) → is_apart us n ≡ false → (m : Name) → is_apart us m ≡ true → m ≢ n
  not_apart n near m far is = true≢false (sym far ∙ ap (is_apart us) is ∙ near)

  vhd_near : is_apart us (Vhd leaf) ≡ false
  vhd_near = ap (λ b. not (b || false)) (leaf_not_apart leaf)

  old_near : is_apart us (Old leaf) ≡ false
  old_near = ap (λ b. not (b || false)) (leaf_not_apart leaf)

  entry_near : is_apart us e ≡ false
  entry_near = ap (λ b. not (b || (is_among us parent || false))) (leaf_not_apart leaf)

  -- ---- the image is shown

  module _ (stage : is_leaf_swapped t leaf parent ≡ true) (own : Row) (before : rows t (Vhd leaf) ≡ Some own) where
    σ : IsSwapped x homes sound leaf parent one
    σ = swapped_stage x homes sound leaf parent one stage

    other_parent : Vhd parent ≢ Vhd leaf
    other_parent same = true≢false (sym (ap is_some before) ∙ ap (is_there t) (sym same) ∙ σ.no_parent)

    old_row : (r : Row) × (rows t (Old leaf) ≡ Some r)
    old_row = is_some-parts (rows t (Old leaf)) σ.old

    module _ (hid : own.hidden ≡ true) where
      pub may_show : Permits count t (Mark (Vhd leaf) Hidden false)
      may_show = record { row = own; there = before; taking = refl; otherwise = hid }

      abbrev pub shown : VolumeTable
      shown = applied t (Mark (Vhd leaf) Hidden false)

      others : (n : Name) → n ≢ Vhd leaf → rows shown n ≡ rows t n
      others n away = (changes_by_name count t (Mark (Vhd leaf) Hidden false) table may_show).others n away

      names_same : names_of shown.volumes ≡ names_of t.volumes
      names_same = names_of-with_row t.volumes (Vhd leaf) (tagged Hidden false) (λ r. refl)

      pub show_folding : folding shown ≡ folding t
      show_folding = ap (filter is_folding) names_same

      pub shown_row : rows shown (Vhd leaf) ≡ Some (tagged Hidden false own)
      shown_row =
          let k = (changes_by_name count t (Mark (Vhd leaf) Hidden false) table may_show).does in
          k.2 ∙ ap (λ (r : Row). Some (tagged Hidden false r)) (same_Some k.0 own (sym k.1 ∙ before))

      pub still_swapped : is_leaf_swapped shown leaf parent ≡ true
      still_swapped =
          let old : rows shown (Old leaf) ≡ rows t (Old leaf) = others (Old leaf) (λ is. let z = is in cc) in
          let vhd : rows shown (Vhd parent) ≡ rows t (Vhd parent) = others (Vhd parent) other_parent in
          ap₂ (λ a b. is_some a && (is_filled shown (Vhd leaf) && not (is_some b))) old vhd
          ∙ ap (λ f. is_there t (Old leaf) && (f && not (is_there t (Vhd parent)))) (ap (of_row (λ r. not r.fresh)) shown_row ∙ sym (ap (of_row (λ r. not r.fresh)) before)) ∙ stage

      now_entry : HasLeafEntry shown leaf parent
      now_entry = ap head show_folding ∙ entry

      pub show_steady : IsSteady count x leaf parent shown
      show_steady = record {
        table = IsTable-applied count t (Mark (Vhd leaf) Hidden false) table may_show;
        later = raised_later t.sequence table.sequence;
        apart = λ n far. others n (not_apart (Vhd leaf) vhd_near n far);
        raw = others (Raw leaf) (λ is. let z = is in cc);
        own = own;
        before = before;
        now = inr shown_row;
        nobodys = childless_nobodys x homes sound leaf σ.childless;
        few = let same = images_named shown.volumes t.volumes names_same in omega (arith, same);
        names = λ r i. let w = In-map (λ (y : Row). y.name) t.volumes r.name (subst (In r.name) names_same (In-map_at (λ (y : Row). y.name) shown.volumes r i)) in (w.0, w.1, sym w.2);
        owned = λ u r there. owned u (old_leaf x homes sound leaf parent one u r (sym (others (Old u) (λ is. let z = is in cc)) ∙ there)).0;
        staged = λ same. (
          or_right (is_leaf_copied shown leaf parent) _ (or_right (is_leaf_renamed shown leaf parent) _ (or_left (is_leaf_swapped shown leaf parent) _ still_swapped)),
          λ none. linked none,
        );
        stands = λ u. stands u (same_or_not u leaf);
        making = ap (filter is_making) names_same;
        folding = inl show_folding;
      }
        where
          owned : (u : List ℕ) → u ≡ leaf → is_orphaned shown (Old u) ≡ false
          owned u is =
              ap (λ v. is_orphaned shown (Old v)) is ∙ ap (λ ns. not (list_any (is_old_of shown leaf) ns)) (show_folding ∙ one)
              ∙ ap₂ (λ a b. not ((a && (is_leaf_renamed shown leaf parent || b)) || false)) (bytes_eq-refl leaf) still_swapped
              ∙ ap (λ b. not (b || false)) (or_right (is_leaf_renamed shown leaf parent) true refl)

          linked : length (children (record x { table = shown }) (Vhd leaf)) ≡ 0 → is_leaf_linked (record x { table = shown }) leaf parent ≡ true
          linked none =
              let new : Outline = record x { table = shown } in
              ap (λ c. cond c (parent_is (Vhd parent) (new.links (Vhd leaf)) && (length (children new (Vhd parent)) == 1))
              (cond (is_leaf_renamed shown leaf parent) (length (children new (Vhd parent)) == 0) (cond (is_leaf_swapped shown leaf parent) (length (children new (Vhd leaf)) == 0) true))) not_copied
              ∙ ap₂ (λ r w. cond r (length (children new (Vhd parent)) == 0) (cond w (length (children new (Vhd leaf)) == 0) true)) (named_renamed shown leaf parent still_swapped) still_swapped
              ∙ eq-eqb (length (children new (Vhd leaf))) 0 none
            where
              not_copied : is_leaf_copied shown leaf parent ≡ false
              not_copied =
                  ap (λ b. is_visible shown (Vhd leaf) && (b && not (is_there shown (Old leaf)))) (hidden_there shown (Vhd parent) (ap is_some (others (Vhd parent) other_parent) ∙ σ.no_parent))
                  ∙ and_right (is_visible shown (Vhd leaf)) false refl

          stands : (u : List ℕ) → (u ≡ leaf) ⊎ (u ≢ leaf) → beside shown u ≡ beside t u
          stands u (inl is) =
              subst (λ v. beside shown v ≡ beside t v) (sym is)
              (leaf_stands shown leaf parent (Vhd leaf) (inr (inl (now_entry, still_swapped, refl))) ∙ sym (leaf_stands t leaf parent (Vhd leaf) (inr (inl (entry, stage, refl)))))
          stands u (inr other) =
              beside_plain shown leaf parent u (inl now_entry) (bytes_eq-apart u leaf other)
              ∙ plainly_alike t shown u (others (Vhd u) (λ is. other (let z = is in cc))) (others (Raw u) (λ is. let z = is in cc))
              ∙ sym (beside_plain t leaf parent u (inl entry) (bytes_eq-apart u leaf other))

    -- ---- the old leaf goes

    module _ (vis : own.hidden ≡ false) where
      pub may_drop : Permits count t (Remove (Old leaf))
      may_drop = record { row = old_row.0; there = old_row.1; not_mgt = λ is. let z = is in cc }

      abbrev pub dropped : VolumeTable
      dropped = applied t (Remove (Old leaf))

      kept : (n : Name) → n ≢ Old leaf → rows dropped n ≡ rows t n
      kept n away = (changes_by_name count t (Remove (Old leaf)) table may_drop).others n away

      dropped_row : rows dropped (Old leaf) ≡ None
      dropped_row = (changes_by_name count t (Remove (Old leaf)) table may_drop).does.2

      pub drop_none : is_there dropped (Old leaf) ≡ false
      drop_none = ap is_some dropped_row

      vhd_kept : (u : List ℕ) → rows dropped (Vhd u) ≡ rows t (Vhd u)
      vhd_kept u = kept (Vhd u) (λ is. let z = is in cc)

      pub drop_folding : folding dropped ≡ folding t
      drop_folding = names_without is_folding (Old leaf) t.volumes refl

      kept_entry : HasLeafEntry dropped leaf parent
      kept_entry = ap head drop_folding ∙ entry

      visible : is_visible t (Vhd leaf) ≡ true
      visible =
          ap (of_row (λ r. not r.hidden && not r.fresh)) before ∙ ap (λ h. not h && not own.fresh) vis
          ∙ sym (ap (of_row (λ r. not r.fresh)) before) ∙ σ.filled

      pub now_folded : is_leaf_folded dropped leaf parent ≡ true
      now_folded =
          ap₂ (λ a b. of_row (λ r. not r.hidden && not r.fresh) a && (not (is_there dropped (Old leaf)) && not (is_some b))) (vhd_kept leaf) (vhd_kept parent)
          ∙ ap₂ (λ a b. a && (not b && not (is_there t (Vhd parent)))) visible (ap is_some dropped_row) ∙ ap not σ.no_parent

      old_gone : (r w : Bool) → (is_there dropped (Old leaf) && r) ≡ false
      old_gone r w = ap (λ b. b && r) (ap is_some dropped_row)

      pub drop_steady : IsSteady count x leaf parent dropped
      drop_steady = record {
        table = IsTable-applied count t (Remove (Old leaf)) table may_drop;
        later = raised_later t.sequence table.sequence;
        apart = λ n far. kept n (not_apart (Old leaf) old_near n far);
        raw = kept (Raw leaf) (λ is. let z = is in cc);
        own = own;
        before = before;
        now = inl (vhd_kept leaf ∙ before);
        nobodys = childless_nobodys x homes sound leaf σ.childless;
        few = count_without (λ r. is_data r.name) (Old leaf) t.volumes;
        names = λ r i. (r, In-bare (Old leaf) t.volumes r i, refl);
        owned = λ u r there. owned u r there (same_or_not u leaf);
        staged = λ same. (
          or_right (is_leaf_copied dropped leaf parent) _ (or_right (is_leaf_renamed dropped leaf parent) _ (or_right (is_leaf_swapped dropped leaf parent) _ now_folded)),
          λ none. linked,
        );
        stands = λ u. stands u (same_or_not u leaf);
        making = names_without is_making (Old leaf) t.volumes refl;
        folding = inl drop_folding;
      }
        where
          owned : (u : List ℕ) (r : Row) → rows dropped (Old u) ≡ Some r → (u ≡ leaf) ⊎ (u ≢ leaf) → is_orphaned dropped (Old u) ≡ false
          owned u r there (inl is) = absurd (none-some r (sym dropped_row ∙ ap (λ v. rows dropped (Old v)) (sym is) ∙ there))
          owned u r there (inr other) = absurd (other (old_leaf x homes sound leaf parent one u r (sym (kept (Old u) (λ is. other (let z = is in cc))) ∙ there)).0)

          linked : is_leaf_linked (record x { table = dropped }) leaf parent ≡ true
          linked =
              let new : Outline = record x { table = dropped } in
              ap (λ c. cond c (parent_is (Vhd parent) (new.links (Vhd leaf)) && (length (children new (Vhd parent)) == 1))
              (cond (is_leaf_renamed dropped leaf parent) (length (children new (Vhd parent)) == 0) (cond (is_leaf_swapped dropped leaf parent) (length (children new (Vhd leaf)) == 0) true))) not_copied
              ∙ ap₂ (λ r w. cond r (length (children new (Vhd parent)) == 0) (cond w (length (children new (Vhd leaf)) == 0) true))
              (old_gone (is_hidden dropped (Vhd parent) && (not (is_there dropped (Vhd leaf)) && not (is_there dropped (Raw leaf)))) true) (old_gone (is_filled dropped (Vhd leaf) && not (is_there dropped (Vhd parent))) true)
            where
              not_copied : is_leaf_copied dropped leaf parent ≡ false
              not_copied =
                  ap (λ b. is_visible dropped (Vhd leaf) && (b && not (is_there dropped (Old leaf)))) (hidden_there dropped (Vhd parent) (ap is_some (vhd_kept parent) ∙ σ.no_parent))
                  ∙ and_right (is_visible dropped (Vhd leaf)) false refl

          stands : (u : List ℕ) → (u ≡ leaf) ⊎ (u ≢ leaf) → beside dropped u ≡ beside t u
          stands u (inl is) =
              subst (λ v. beside dropped v ≡ beside t v) (sym is)
              (leaf_stands dropped leaf parent (Vhd leaf) (inr (inr (inl kept_entry, now_folded, refl))) ∙ sym (leaf_stands t leaf parent (Vhd leaf) (inr (inl (entry, stage, refl)))))
          stands u (inr other) =
              beside_plain dropped leaf parent u (inl kept_entry) (bytes_eq-apart u leaf other)
              ∙ plainly_alike t dropped u (vhd_kept u) (kept (Raw u) (λ is. let z = is in cc))
              ∙ sym (beside_plain t leaf parent u (inl entry) (bytes_eq-apart u leaf other))

  -- ---- the entry goes

  module _ (not_renamed : is_leaf_renamed t leaf parent ≡ false) (not_swapped : is_leaf_swapped t leaf parent ≡ false) where
    placed : IsPlaced x homes sound leaf parent one
    placed = placed_stage x homes sound leaf parent one not_renamed not_swapped

    its_row : (r : Row) × (rows t (Vhd leaf) ≡ Some r) × ((not r.hidden && not r.fresh) ≡ true)
    its_row = of_row_parts (λ r. not r.hidden && not r.fresh) (rows t (Vhd leaf)) placed.shown

    pub may_end : Permits count t (Remove e)
    may_end = let r = entry_row x homes sound leaf parent one in record { row = r.0; there = r.1; not_mgt = λ is. let z = is in cc }

    abbrev pub without_it : VolumeTable
    without_it = applied t (Remove e)

    left : (n : Name) → n ≢ e → rows without_it n ≡ rows t n
    left n away = (changes_by_name count t (Remove e) table may_end).others n away

    pub folding_gone : folding without_it ≡ []
    folding_gone = none_without is_folding e t.volumes refl one

    not_hidden : is_hidden t (Vhd leaf) ≡ false
    not_hidden =
        ap (of_row (λ r. r.hidden && not r.fresh)) its_row.1
        ∙ ap (λ h. h && not its_row.0.fresh) (not_true its_row.0.hidden (and_parts (not its_row.0.hidden) (not its_row.0.fresh) its_row.2).0)

    pub end_steady : IsSteady count x leaf parent without_it
    end_steady = record {
      table = IsTable-applied count t (Remove e) table may_end;
      later = raised_later t.sequence table.sequence;
      apart = λ n far. left n (not_apart e entry_near n far);
      raw = left (Raw leaf) (λ is. let z = is in cc);
      own = its_row.0;
      before = its_row.1;
      now = inl (left (Vhd leaf) (λ is. let z = is in cc) ∙ its_row.1);
      nobodys = unhidden_nobodys x homes sound (Vhd leaf) not_hidden;
      few = count_without (λ r. is_data r.name) e t.volumes;
      names = λ r i. (r, In-bare e t.volumes r i, refl);
      owned = λ u r there.
          let k = old_leaf x homes sound leaf parent one u r (sym (left (Old u) (λ is. let z = is in cc)) ∙ there) in
          absurd (true≢false (sym k.1 ∙ ap₂ (λ a b. a || b) not_renamed not_swapped));
      staged = λ same. absurd (let z = sym one ∙ sym same ∙ folding_gone in cc);
      stands = λ u.
          beside_none without_it u folding_gone
          ∙ plainly_alike t without_it u (left (Vhd u) (λ is. let z = is in cc)) (left (Raw u) (λ is. let z = is in cc))
          ∙ sym (beside_entry t leaf parent u entry ∙ plainly u);
      making = names_without is_making e t.volumes refl;
      folding = inr folding_gone;
    }
      where
        plainly : (u : List ℕ) → cond (bytes_eq u leaf && is_leaf_renamed t leaf parent) (Some (Vhd parent)) (cond (bytes_eq u leaf && is_leaf_swapped t leaf parent) (Some (Vhd leaf)) (stands_plainly t u)) ≡ stands_plainly t u
        plainly u =
            ap₂ (λ a b. cond a (Some (Vhd parent)) (cond b (Some (Vhd leaf)) (stands_plainly t u)))
            (ap (λ b. bytes_eq u leaf && b) not_renamed ∙ and_right (bytes_eq u leaf) false refl) (ap (λ b. bytes_eq u leaf && b) not_swapped ∙ and_right (bytes_eq u leaf) false refl)
