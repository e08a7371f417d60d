-- The changes that undo a fork, made one after the other: each is allowed in its turn, and each table that they leave is a part.
use Rattle.std.proofs.Common.{◌≡◌, ◌≢◌, ◌⊎◌, inl, inr, ℕ, zero, suc, Bool, true, false, not, ◌||◌, List, [], ◌∷◌, ◌++◌, take, Some, None, is_some, refl, sym, ap, ◌∙◌, subst}
use Rattle.std.proofs.lemmas.Option.{none-some}
use Rattle.common_laws.proofs.Options.{is_some-parts, none_of_some, option_cases}
use Rattle.sm_base.specs.Names.{IsName}
use Rattle.sm_base.specs.declared.names.Name.{Name}
use Rattle.sm_base.specs.declared.names.Name.TheVariants.{Vhd, Raw, Clone}
use Rattle.vg_meta.specs.Tables.{VolumeTable, Row, IsTable, IsVolume, rows}
use Rattle.vg_meta.specs.Changes.{Permits, applied}
use Rattle.vg_meta.specs.declared.changes.Change.{Change}
use Rattle.vg_meta.specs.declared.changes.Change.TheVariants.{Mark, Remove, Rename}
use Rattle.vg_meta.specs.declared.changes.Tag.TheVariants.{Hidden}
use Rattle.vg_meta.proofs.RowLaws.{row_of-name}
use Rattle.sm_standing.specs.Apart.{is_apart}
use Rattle.sm_standing.specs.Entries.{head, image_with, is_among, is_fork_made, is_there, making, of_row}
use Rattle.sm_standing.specs.Forks.{forked}
use Rattle.sm_standing.specs.Opened.{applied_all, base_changes, changes_back, under_name, undo_changes, wanted}
use Rattle.sm_standing.specs.Undone.{AllPermit}
use Rattle.sm_standing.proofs.DisksShown.{row_of-In}
use Rattle.sm_standing.proofs.ForkLaws.{base_among, disk_among, twin_among}
use Rattle.sm_standing.proofs.ForkParts.{IsForkPart, entry_found, ended_making, may_end, may_remove, may_rename, may_show, part_ended, part_now, part_removed, part_renamed, part_shown, removed_making, removed_others, removed_row, renamed_making, shown_making, shown_others}
use Rattle.sm_standing.proofs.ForkTables.{IsForkStage, IsNew}
use Rattle.sm_standing.proofs.PlainDisks.{all-In}

-- ---- runs of changes

-- each is allowed in its turn, each table on the way is one of some kind, and the last of another
abbrev pub AllRun : ℕ → (VolumeTable → Type 0) → (VolumeTable → Type 0) → VolumeTable → List Change → Type 0
AllRun count P L t [] = P t × L t
AllRun count P L t (c ∷ cs) = P t × Permits count t c × AllRun count P L (applied t c) cs

module _ (count : ℕ) (P L : VolumeTable → Type 0) where
  pub run_permits : (t : VolumeTable) (cs : List Change) → AllRun count P L t cs → AllPermit count t cs
  run_permits t [] run = tt
  run_permits t (c ∷ cs) run = (run.1, run_permits (applied t c) cs run.2)

  pub run_taken : (t : VolumeTable) (cs : List Change) → AllRun count P L t cs → (k : ℕ) → P (applied_all t (take k cs))
  run_taken t [] run zero = run.0
  run_taken t [] run (suc k) = run.0
  run_taken t (c ∷ cs) run zero = run.0
  run_taken t (c ∷ cs) run (suc k) = run_taken (applied t c) cs run.2 k

  pub run_last : (t : VolumeTable) (cs : List Change) → AllRun count P L t cs → L (applied_all t cs)
  run_last t [] run = run.1
  run_last t (c ∷ cs) run = run_last (applied t c) cs run.2

-- ---- those of a fork

module _ (count : ℕ) (t : VolumeTable) (disk base twin : List ℕ) (n : Name) (table : IsTable count t) (entry : making t ≡ Clone disk base twin ∷ []) (σ : IsForkStage t disk base twin n) where
  abbrev us : List (List ℕ)
  us = forked disk base twin

  abbrev e : Name
  e = Clone disk base twin

  abbrev Part : VolumeTable → Name → Bool → Type 0
  Part v m hidden = IsForkPart count t disk base twin n σ.own v m hidden

  -- a part, and the last one: nothing is being made, and the image has the disk's name
  abbrev pub IsPart : VolumeTable → Type 0
  IsPart v = (m : Name) × (hidden : Bool) × Part v m hidden

  abbrev pub IsLast : VolumeTable → Type 0
  IsLast v = (m : Name) × Part v m false × (making v ≡ []) × (((image_with t base ≡ None) × (m ≡ n)) ⊎ ((image_with t base ≡ Some n) × (m ≡ under_name n disk)))
      × ((m ≡ Vhd disk) ⊎ (m ≡ Raw disk))

  abbrev Run : VolumeTable → List Change → Type 0
  Run v cs = AllRun count IsPart IsLast v cs

  vhd_speaks : (u : List ℕ) → is_among us u ≡ true → is_apart us (Vhd u) ≡ false
  vhd_speaks u k = ap (λ b. not (b || false)) k

  raw_speaks : (u : List ℕ) → is_among us u ≡ true → is_apart us (Raw u) ≡ false
  raw_speaks u k = ap (λ b. not (b || false)) k

  n_vhd : (x : Name) → ((n ≡ Vhd disk) ⊎ (n ≡ Raw disk)) ⊎ ((n ≡ Vhd base) ⊎ (n ≡ Raw base)) → x ≡ Vhd twin → n ≢ x
  n_vhd x (inl (inl at)) is same = σ.disk_twin (let z = sym at ∙ same ∙ is in cc)
  n_vhd x (inl (inr at)) is same = let z = sym at ∙ same ∙ is in cc
  n_vhd x (inr (inl at)) is same = σ.base_twin (let z = sym at ∙ same ∙ is in cc)
  n_vhd x (inr (inr at)) is same = let z = sym at ∙ same ∙ is in cc

  -- the entry goes
  run_end : (v : VolumeTable) (m : Name) (hidden : Bool) → Part v m hidden → making v ≡ e ∷ [] → hidden ≡ false → (m ≡ Vhd disk) ⊎ (m ≡ Raw disk)
      → ((image_with t base ≡ None) × (m ≡ n)) ⊎ ((image_with t base ≡ Some n) × (m ≡ under_name n disk)) → Run v (Remove e ∷ [])
  run_end v m hidden p still free at_disk from =
      let ends : (hidden ≡ false) × ((m ≡ Vhd disk) ⊎ (m ≡ Raw disk)) = (free, at_disk) in
      let last = part_ended count t disk base twin n table entry σ v m hidden p still ends in (
        (m, hidden, p),
        may_end count t disk base twin n table entry σ v m hidden p still ends,
        (
          (m, hidden, last),
          (m, subst (λ h. Part (applied v (Remove e)) m h) free last, ended_making count t disk base twin n table entry σ v m hidden p still ends, from, at_disk),
        ),
      )

  -- ---- where the image has the base's UUID

  module _ (at_base : (n ≡ Vhd base) ⊎ (n ≡ Raw base)) (image : image_with t base ≡ Some n) where
    abbrev to : Name
    to = under_name n disk

    kinds : ((n ≡ Vhd base) × (to ≡ Vhd disk)) ⊎ ((n ≡ Raw base) × (to ≡ Raw disk))
    kinds = by at_base
      where
        by : (n ≡ Vhd base) ⊎ (n ≡ Raw base) → ((n ≡ Vhd base) × (to ≡ Vhd disk)) ⊎ ((n ≡ Raw base) × (to ≡ Raw disk))
        by (inl at) = inl (at, ap (λ x. under_name x disk) at)
        by (inr at) = inr (at, ap (λ x. under_name x disk) at)

    n_speaks : is_apart us n ≡ false
    n_speaks = by at_base
      where
        by : (n ≡ Vhd base) ⊎ (n ≡ Raw base) → is_apart us n ≡ false
        by (inl at) = ap (is_apart us) at ∙ vhd_speaks base (base_among disk base twin)
        by (inr at) = ap (is_apart us) at ∙ raw_speaks base (base_among disk base twin)

    to_disk : (to ≡ Vhd disk) ⊎ (to ≡ Raw disk)
    to_disk = by kinds
      where
        by : ((n ≡ Vhd base) × (to ≡ Vhd disk)) ⊎ ((n ≡ Raw base) × (to ≡ Raw disk)) → (to ≡ Vhd disk) ⊎ (to ≡ Raw disk)
        by (inl k) = inl k.1
        by (inr k) = inr k.1

    to_speaks : is_apart us to ≡ false
    to_speaks = by to_disk
      where
        by : (to ≡ Vhd disk) ⊎ (to ≡ Raw disk) → is_apart us to ≡ false
        by (inl at) = ap (is_apart us) at ∙ vhd_speaks disk (disk_among disk base twin)
        by (inr at) = ap (is_apart us) at ∙ raw_speaks disk (disk_among disk base twin)

    to_name : IsName to
    unfolding IsName
    to_name = by to_disk
      where
        named : IsName e
        named =
            let k = entry_found t e entry in
            subst IsName (row_of-name t.volumes e k.0 k.1) (all-In IsVolume t.volumes k.0 (let v = table.volumes in v.each) (row_of-In t.volumes e k.0 k.1).0).name

        by : (to ≡ Vhd disk) ⊎ (to ≡ Raw disk) → IsName to
        by (inl at) = subst IsName (sym at) named.0
        by (inr at) = subst IsName (sym at) named.0

    n_disk : n ≢ Vhd disk
    n_disk same = by at_base
      where
        by : (n ≡ Vhd base) ⊎ (n ≡ Raw base) → ⊥
        by (inl at) = σ.disk_base (let z = sym at ∙ same in cc)
        by (inr at) = let z = sym at ∙ same in cc

    -- the disk's name is free
    to_free : (v : VolumeTable) (hidden : Bool) → Part v n hidden → rows v (Vhd disk) ≡ None → rows v to ≡ None
    to_free v hidden p none = by kinds
      where
        of : (r : Row) → n ≡ Raw base → ((Raw disk ≡ e) × (making v ≡ e ∷ [])) ⊎ ((Raw disk ≡ n) ⊎ (IsNew disk base twin n (Raw disk) hidden r × (n ≡ n) × (rows t (Raw disk) ≡ Some r))) → ⊥
        of r at (inl k) = let z = k.0 in cc
        of r at (inr (inl is)) = σ.disk_base (let z = is ∙ at in cc)
        of r at (inr (inr k)) = let one = k.0 in new one.name
          where
            new : (Raw disk ≡ Vhd disk) ⊎ (Raw disk ≡ Vhd twin) → ⊥
            new (inl is) = let z = is in cc
            new (inr is) = let z = is in cc

        absent : n ≡ Raw base → (rows v (Raw disk) ≡ None) ⊎ ((r : Row) × (rows v (Raw disk) ≡ Some r)) → rows v (Raw disk) ≡ None
        absent at (inl is) = is
        absent at (inr k) = absurd (of k.0 at (p.volumes (Raw disk) k.0 k.1 (raw_speaks disk (disk_among disk base twin))))

        by : ((n ≡ Vhd base) × (to ≡ Vhd disk)) ⊎ ((n ≡ Raw base) × (to ≡ Raw disk)) → rows v to ≡ None
        by (inl k) = ap (rows v) k.1 ∙ none
        by (inr k) = ap (rows v) k.1 ∙ absent k.0 (option_cases (rows v (Raw disk)))

    run_rename : (v : VolumeTable) (hidden : Bool) → Part v n hidden → making v ≡ e ∷ [] → hidden ≡ false → rows v (Vhd disk) ≡ None → Run v (Rename n to ∷ Remove e ∷ [])
    run_rename v hidden p still free none =
        let none_to = to_free v hidden p none in (
          (n, hidden, p),
          may_rename count t disk base twin n table entry σ v n hidden p still free refl to kinds to_name none_to n_speaks to_speaks,
          run_end (applied v (Rename n to)) to false (part_renamed count t disk base twin n table entry σ v n hidden p still free refl to kinds to_name none_to n_speaks to_speaks)
              (renamed_making count t disk base twin n table entry σ v n hidden p still free refl to kinds to_name none_to n_speaks to_speaks) refl to_disk (inr (image, refl)),
        )

    no_new : (v : VolumeTable) → rows v (Vhd disk) ≡ None → rows v (Vhd twin) ≡ None → (x : Name) (r : Row) → (x ≡ Vhd disk) ⊎ (x ≡ Vhd twin) → rows v x ≡ Some r → ⊥
    no_new v a b x r (inl is) there = none-some r (sym a ∙ ap (rows v) (sym is) ∙ there)
    no_new v a b x r (inr is) there = none-some r (sym b ∙ ap (rows v) (sym is) ∙ there)

    run_show : (v : VolumeTable) (hidden b : Bool) → hidden ≡ b → Part v n hidden → making v ≡ e ∷ [] → rows v (Vhd disk) ≡ None → rows v (Vhd twin) ≡ None
        → Run v ((wanted b (Mark n Hidden false) ++ Rename n to ∷ []) ++ Remove e ∷ [])
    run_show v hidden false is p still no_disk no_twin = run_rename v hidden p still is no_disk
    run_show v hidden true is p still no_disk no_twin =
        let free = no_new v no_disk no_twin in
        let other : (Vhd disk ≢ n) = (λ same. n_disk (sym same)) in (
          (n, hidden, p),
          may_show count t disk base twin n table entry σ v n hidden p still is refl at_base n_speaks free,
          run_rename (applied v (Mark n Hidden false)) false (part_shown count t disk base twin n table entry σ v n hidden p still is refl at_base n_speaks free)
              (shown_making count t disk base twin n table entry σ v n hidden p still is refl at_base n_speaks free) refl
              (shown_others count t disk base twin n table entry σ v n hidden p still is refl at_base n_speaks free (Vhd disk) other ∙ no_disk),
        )

    run_base : (v : VolumeTable) (hidden a b : Bool) → is_there v (Vhd disk) ≡ a → hidden ≡ b → Part v n hidden → making v ≡ e ∷ [] → rows v (Vhd twin) ≡ None
        → Run v ((wanted a (Remove (Vhd disk)) ++ (wanted b (Mark n Hidden false) ++ Rename n to ∷ [])) ++ Remove e ∷ [])
    run_base v hidden false b gone is p still no_twin = run_show v hidden b is p still (none_of_some (rows v (Vhd disk)) gone) no_twin
    run_base v hidden true b there is p still no_twin =
        let k = is_some-parts (rows v (Vhd disk)) there in
        let speaks = vhd_speaks disk (disk_among disk base twin) in
        let other : (Vhd twin ≢ Vhd disk) = (λ same. σ.disk_twin (let z = same in cc)) in (
          (n, hidden, p),
          may_remove count t disk base twin n table entry σ v n hidden p still (Vhd disk) k.0 k.1 speaks n_disk refl refl,
          run_show (applied v (Remove (Vhd disk))) hidden b is (part_removed count t disk base twin n table entry σ v n hidden p still (Vhd disk) k.0 k.1 speaks n_disk refl refl)
              (removed_making count t disk base twin n table entry σ v n hidden p still (Vhd disk) k.0 k.1 speaks n_disk refl refl)
              (removed_row count t disk base twin n table entry σ v n hidden p still (Vhd disk) k.0 k.1 speaks n_disk refl refl)
              (removed_others count t disk base twin n table entry σ v n hidden p still (Vhd disk) k.0 k.1 speaks n_disk refl refl (Vhd twin) other ∙ no_twin),
        )

  -- ---- all of them

  now : Part t n σ.own.hidden
  now = part_now count t disk base twin n table entry σ

  named_n : ((n ≡ Vhd disk) ⊎ (n ≡ Raw disk)) ⊎ ((n ≡ Vhd base) ⊎ (n ≡ Raw base))
  named_n = by σ.place
    where
      by : ((image_with t base ≡ None) × (σ.own.hidden ≡ false) × ((n ≡ Vhd disk) ⊎ (n ≡ Raw disk))) ⊎ ((image_with t base ≡ Some n) × ((n ≡ Vhd base) ⊎ (n ≡ Raw base)) × (is_fork_made t disk base twin ≡ true))
          → ((n ≡ Vhd disk) ⊎ (n ≡ Raw disk)) ⊎ ((n ≡ Vhd base) ⊎ (n ≡ Raw base))
      by (inl k) = inl k.2
      by (inr k) = inr k.1

  -- behind the first one
  run_on : (v : VolumeTable) → Part v n σ.own.hidden → making v ≡ e ∷ [] → rows v (Vhd twin) ≡ None → is_there v (Vhd disk) ≡ is_there t (Vhd disk) → Run v (base_changes t disk (image_with t base) ++ Remove e ∷ [])
  run_on v p still no_twin disk_same = by σ.place
    where
      by : ((image_with t base ≡ None) × (σ.own.hidden ≡ false) × ((n ≡ Vhd disk) ⊎ (n ≡ Raw disk))) ⊎ ((image_with t base ≡ Some n) × ((n ≡ Vhd base) ⊎ (n ≡ Raw base)) × (is_fork_made t disk base twin ≡ true))
          → Run v (base_changes t disk (image_with t base) ++ Remove e ∷ [])
      by (inl k) = subst (λ x. Run v (base_changes t disk x ++ Remove e ∷ [])) (sym k.0) (run_end v n σ.own.hidden p still k.1 k.2 (inl (k.0, refl)))
      by (inr k) =
          subst (λ x. Run v (base_changes t disk x ++ Remove e ∷ [])) (sym k.0)
          (run_base k.1 k.0 v σ.own.hidden (is_there t (Vhd disk)) (of_row (λ r. r.hidden) (rows t n)) disk_same (sym (ap (of_row (λ r. r.hidden)) σ.there)) p still no_twin)

  run_first : (b : Bool) → is_there t (Vhd twin) ≡ b → Run t (wanted b (Remove (Vhd twin)) ++ (base_changes t disk (image_with t base) ++ Remove e ∷ []))
  run_first false gone = run_on t now entry (none_of_some (rows t (Vhd twin)) gone) refl
  run_first true there =
      let k = is_some-parts (rows t (Vhd twin)) there in
      let speaks = vhd_speaks twin (twin_among disk base twin) in
      let away = n_vhd (Vhd twin) named_n refl in
      let other : (Vhd disk ≢ Vhd twin) = (λ same. σ.disk_twin (let z = same in cc)) in (
        (n, σ.own.hidden, now),
        may_remove count t disk base twin n table entry σ t n σ.own.hidden now entry (Vhd twin) k.0 k.1 speaks away refl refl,
        run_on (applied t (Remove (Vhd twin))) (part_removed count t disk base twin n table entry σ t n σ.own.hidden now entry (Vhd twin) k.0 k.1 speaks away refl refl)
            (removed_making count t disk base twin n table entry σ t n σ.own.hidden now entry (Vhd twin) k.0 k.1 speaks away refl refl)
            (removed_row count t disk base twin n table entry σ t n σ.own.hidden now entry (Vhd twin) k.0 k.1 speaks away refl refl)
            (ap (λ o. is_some o) (removed_others count t disk base twin n table entry σ t n σ.own.hidden now entry (Vhd twin) k.0 k.1 speaks away refl refl (Vhd disk) other)),
      )

  pub fork_changes : undo_changes t ≡ changes_back t e
  unfolding undo_changes
  fork_changes = ap (λ ns. elim (head ns) as (λ _. List Change) [ None ↦ [] | Some x ↦ changes_back t x ]) entry

  pub fork_run : Run t (undo_changes t)
  fork_run = subst (Run t) (sym fork_changes) (run_first (is_there t (Vhd twin)) refl)
