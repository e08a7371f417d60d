-- A table in which a disk is being forked, and nothing else is under way: which volumes speak of the fork.
use Rattle.std.proofs.Common.{◌≡◌, ◌≢◌, ◌⊎◌, inl, inr, ℕ, Bool, true, false, cond, not, ◌&&◌, ◌||◌, ◌==◌, List, [], ◌∷◌, length, Option, Some, None, is_some, is_none, refl, sym, ap, ap₂, ◌∙◌, subst, bytes_eq}
use Rattle.std.specs.List.{list_any}
use Rattle.std.proofs.lemmas.Bool.{true≢false, and_parts, or_parts, or_cases}
use Rattle.std.proofs.lemmas.Option.{same_Some}
use Rattle.common_laws.specs.Lists.{In}
use Rattle.common_laws.proofs.Booleans.{not_true}
use Rattle.common_laws.proofs.Bytes.{bytes_eq-refl}
use Rattle.common_laws.proofs.Lists.{filter-In, In-map_at}
use Rattle.sm_base.specs.Kinds.{is_image as is_data}
use Rattle.sm_base.specs.declared.names.Name.{Name}
use Rattle.sm_base.specs.declared.names.Name.TheVariants.{Mgt, Vhd, Raw, Old, Cbt, Clone, Inflate, Coalesce, Relink, Leaf}
use Rattle.vg_meta.specs.Tables.{VolumeTable, Row, rows, names_of}
use Rattle.vg_meta.proofs.RowLaws.{row_of-name}
use Rattle.sm_standing.specs.Apart.{is_apart}
use Rattle.sm_standing.specs.Checks.{has_twin, is_misnamed}
use Rattle.sm_standing.specs.Entries.{are_past, has_image, image_with, images_with, is_among, is_filled, is_fork_begun, is_fork_made, is_forking, is_hidden, is_making, is_there, is_visible, is_visible_or_gone, making, of_row, folding_uuids}
use Rattle.sm_standing.specs.Forks.{forked}
use Rattle.sm_standing.specs.Plain.{IsSimple, is_simple, is_simple_name}
use Rattle.sm_standing.proofs.DisksShown.{row_of-In}
use Rattle.sm_standing.proofs.ForkLaws.{which}
use Rattle.sm_standing.proofs.PlainDisks.{all-In}

-- ---- tests of volumes

pub of_row_parts : (test : Row → Bool) (o : Option Row) → of_row test o ≡ true → (r : Row) × (o ≡ Some r) × (test r ≡ true)
of_row_parts test None h = absurd (true≢false (sym h))
of_row_parts test (Some r) h = (r, refl, h)

not_there : (t : VolumeTable) (n : Name) (r : Row) → is_there t n ≡ false → rows t n ≡ Some r → ⊥
not_there t n r gone there = true≢false (sym (ap (λ o. is_some o) there) ∙ gone)

abbrev images_by : List ℕ → Bool → Bool → Bool → List Name
images_by u v r o = cond v (Vhd u ∷ cond r (Raw u ∷ cond o (Old u ∷ []) []) (cond o (Old u ∷ []) [])) (cond r (Raw u ∷ cond o (Old u ∷ []) []) (cond o (Old u ∷ []) []))

-- no image has a UUID
pub none_with : (t : VolumeTable) (u : List ℕ) → has_image t u ≡ false → (is_there t (Vhd u) ≡ false) × (is_there t (Raw u) ≡ false)
none_with t u h = by (is_there t (Vhd u)) (is_there t (Raw u)) (is_there t (Old u)) refl refl h
  where
    by : (v r o : Bool) → is_there t (Vhd u) ≡ v → is_there t (Raw u) ≡ r → not (length (images_by u v r o) == 0) ≡ false → (is_there t (Vhd u) ≡ false) × (is_there t (Raw u) ≡ false)
    by false false o is_v is_r h = (is_v, is_r)
    by true true true is_v is_r h = absurd (true≢false h)
    by true true false is_v is_r h = absurd (true≢false h)
    by true false true is_v is_r h = absurd (true≢false h)
    by true false false is_v is_r h = absurd (true≢false h)
    by false true true is_v is_r h = absurd (true≢false h)
    by false true false is_v is_r h = absurd (true≢false h)

-- one has it: the other is not there
pub one_with : (t : VolumeTable) (u : List ℕ) → (length (images_with t u) == 1) ≡ true → is_there t (Vhd u) ≡ true → is_there t (Raw u) ≡ false
one_with t u h there = by (is_there t (Vhd u)) (is_there t (Raw u)) (is_there t (Old u)) refl refl h there
  where
    by : (v r o : Bool) → is_there t (Vhd u) ≡ v → is_there t (Raw u) ≡ r → (length (images_by u v r o) == 1) ≡ true → v ≡ true → is_there t (Raw u) ≡ false
    by true false o is_v is_r h k = is_r
    by true true true is_v is_r h k = absurd (true≢false (sym h))
    by true true false is_v is_r h k = absurd (true≢false (sym h))
    by false r o is_v is_r h k = absurd (true≢false (sym k))

pub other_with : (t : VolumeTable) (u : List ℕ) → (length (images_with t u) == 1) ≡ true → is_there t (Raw u) ≡ true → is_there t (Vhd u) ≡ false
other_with t u h there = by (is_there t (Vhd u)) refl
  where
    by : (v : Bool) → is_there t (Vhd u) ≡ v → is_there t (Vhd u) ≡ false
    by true is = absurd (true≢false (sym there ∙ one_with t u h is))
    by false is = is

-- the VHD or raw image of a UUID, by which of them is there
pub image_vhd : (t : VolumeTable) (u : List ℕ) → is_there t (Vhd u) ≡ true → image_with t u ≡ Some (Vhd u)
unfolding image_with
image_vhd t u there = ap (λ b. cond b (Some (Vhd u)) (cond (is_there t (Raw u)) (Some (Raw u)) None)) there

pub image_raw : (t : VolumeTable) (u : List ℕ) → is_there t (Vhd u) ≡ false → is_there t (Raw u) ≡ true → image_with t u ≡ Some (Raw u)
unfolding image_with
image_raw t u gone there = ap₂ (λ a b. cond a (Some (Vhd u)) (cond b (Some (Raw u)) None)) gone there

pub image_none : (t : VolumeTable) (u : List ℕ) → is_there t (Vhd u) ≡ false → is_there t (Raw u) ≡ false → image_with t u ≡ None
unfolding image_with
image_none t u gone none = ap₂ (λ a b. cond a (Some (Vhd u)) (cond b (Some (Raw u)) None)) gone none

-- ---- the volumes that speak of the fork

-- a new image of the fork: visible, and the image in m is hidden, and has the base's UUID
pub record IsNew (disk base twin : List ℕ) (m n : Name) (hidden : Bool) (r : Row) : Type 0 where
  pub name : (n ≡ Vhd disk) ⊎ (n ≡ Vhd twin)
  pub shown : r.hidden ≡ false
  pub over : hidden ≡ true
  pub base_is : (m ≡ Vhd base) ⊎ (m ≡ Raw base)

-- the fork stands at a stage: the disk's image lies in m; but for the entry and new images no other volume speaks of the fork
pub record IsForkStage (t : VolumeTable) (disk base twin : List ℕ) (m : Name) : Type 0 where
  pub disk_base : disk ≢ base
  pub disk_twin : disk ≢ twin
  pub base_twin : base ≢ twin
  pub own : Row
  pub there : rows t m ≡ Some own
  pub filled : own.fresh ≡ false
  pub volumes : (n : Name) (r : Row) → rows t n ≡ Some r → is_apart (forked disk base twin) n ≡ false → (n ≡ Clone disk base twin) ⊎ ((n ≡ m) ⊎ IsNew disk base twin m n own.hidden r)
  pub place : ((image_with t base ≡ None) × (own.hidden ≡ false) × ((m ≡ Vhd disk) ⊎ (m ≡ Raw disk)))
      ⊎ ((image_with t base ≡ Some m) × ((m ≡ Vhd base) ⊎ (m ≡ Raw base)) × (is_fork_made t disk base twin ≡ true))

module _ (disk base twin : List ℕ) where
  among_three : (u : List ℕ) → is_among (forked disk base twin) u ≡ true → (u ≡ disk) ⊎ ((u ≡ base) ⊎ (u ≡ twin))
  among_three u is = by (which disk base twin u).cases
    where
      by : (u ≡ disk) ⊎ ((u ≡ base) ⊎ ((u ≡ twin) ⊎ (is_among (forked disk base twin) u ≡ false))) → (u ≡ disk) ⊎ ((u ≡ base) ⊎ (u ≡ twin))
      by (inl at) = inl at
      by (inr (inl at)) = inr (inl at)
      by (inr (inr (inl at))) = inr (inr at)
      by (inr (inr (inr none))) = absurd (true≢false (sym is ∙ none))

  among_of : (b : Bool) → not (b || false) ≡ false → b ≡ true
  among_of true h = refl
  among_of false h = absurd (true≢false h)

  -- an image of one of the three UUIDs, or an entry
  pub not_apart : (n : Name) → is_simple_name n ≡ true → is_apart (forked disk base twin) n ≡ false
      → (is_making n ≡ true) ⊎ ((u : List ℕ) × ((u ≡ disk) ⊎ ((u ≡ base) ⊎ (u ≡ twin))) × ((n ≡ Vhd u) ⊎ (n ≡ Raw u)))
  not_apart (Vhd u) simple h = inr (u, among_three u (among_of (is_among (forked disk base twin) u) h), inl refl)
  not_apart (Raw u) simple h = inr (u, among_three u (among_of (is_among (forked disk base twin) u) h), inr refl)
  not_apart (Clone x y z) simple h = inl refl
  not_apart (Inflate x y) simple h = inl refl
  not_apart Mgt simple h = absurd (true≢false h)
  not_apart (Old u) simple h = absurd (true≢false (sym simple))
  not_apart (Cbt u) simple h = absurd (true≢false h)
  not_apart (Coalesce x y) simple h = absurd (true≢false (sym simple))
  not_apart (Relink x y) simple h = absurd (true≢false (sym simple))
  not_apart (Leaf x y) simple h = absurd (true≢false (sym simple))

  module _ (t : VolumeTable) (simple : IsSimple t) (entry : making t ≡ Clone disk base twin ∷ []) where
    pub simple_row : (n : Name) (r : Row) → rows t n ≡ Some r → is_simple_name n ≡ true
    simple_row n r there = ap is_simple_name (sym (row_of-name t.volumes n r there)) ∙ all-In (λ r. is_simple r ≡ true) t.volumes r simple (row_of-In t.volumes n r there).0

    -- the entry is the only one
    pub only_entry : (n : Name) (r : Row) → rows t n ≡ Some r → is_making n ≡ true → n ≡ Clone disk base twin
    only_entry n r there made =
        of (subst (λ ns. In n ns) entry (filter-In is_making (names_of t.volumes) n
        (subst (λ m. In m (names_of t.volumes)) (row_of-name t.volumes n r there) (In-map_at (λ (r : Row). r.name) t.volumes r (row_of-In t.volumes n r there).0)) made))
      where
        of : In n (Clone disk base twin ∷ []) → n ≡ Clone disk base twin
        of (inl is) = is
        of (inr none) = elim none [ ]

    each : (m : Name) (P : Name → Row → Type 0)
        → ((u : List ℕ) (n : Name) (r : Row) → (u ≡ disk) ⊎ ((u ≡ base) ⊎ (u ≡ twin)) → (n ≡ Vhd u) ⊎ (n ≡ Raw u) → rows t n ≡ Some r → (n ≡ m) ⊎ P n r)
        → (n : Name) (r : Row) → rows t n ≡ Some r → is_apart (forked disk base twin) n ≡ false → (n ≡ Clone disk base twin) ⊎ ((n ≡ m) ⊎ P n r)
    each m P images n r there speaks = by (not_apart n (simple_row n r there) speaks)
      where
        by : (is_making n ≡ true) ⊎ ((u : List ℕ) × ((u ≡ disk) ⊎ ((u ≡ base) ⊎ (u ≡ twin))) × ((n ≡ Vhd u) ⊎ (n ≡ Raw u))) → (n ≡ Clone disk base twin) ⊎ ((n ≡ m) ⊎ P n r)
        by (inl made) = inl (only_entry n r there made)
        by (inr k) = inr (images k.0 n r k.1 k.2 there)

    nowhere : (u : List ℕ) (n : Name) (r : Row) → is_there t (Vhd u) ≡ false → is_there t (Raw u) ≡ false → (n ≡ Vhd u) ⊎ (n ≡ Raw u) → rows t n ≡ Some r → ⊥
    nowhere u n r no_vhd no_raw (inl is) there = not_there t (Vhd u) r no_vhd (sym (ap (rows t) is) ∙ there)
    nowhere u n r no_vhd no_raw (inr is) there = not_there t (Raw u) r no_raw (sym (ap (rows t) is) ∙ there)

    differs : (u v : List ℕ) → not (bytes_eq u v) ≡ true → u ≢ v
    differs u v h is = true≢false (sym (ap (bytes_eq u) (sym is) ∙ bytes_eq-refl u) ∙ not_true (bytes_eq u v) h)

    -- before the image is renamed
    pub begun_stage : disk ≢ base → disk ≢ twin → base ≢ twin → is_fork_begun t disk base twin ≡ true → (m : Name) × IsForkStage t disk base twin m
    begun_stage disk_base disk_twin base_twin h = by (or_cases (is_visible t (Vhd disk)) (is_visible t (Raw disk) || is_visible t (Old disk)) seen.1)
      where
        parts : (not (has_image t base) ≡ true) × ((not (has_image t twin) && ((length (images_with t disk) == 1) && (is_visible t (Vhd disk) || (is_visible t (Raw disk) || is_visible t (Old disk))))) ≡ true)
        parts = and_parts (not (has_image t base)) (not (has_image t twin) && ((length (images_with t disk) == 1) && (is_visible t (Vhd disk) || (is_visible t (Raw disk) || is_visible t (Old disk))))) h

        rest : (not (has_image t twin) ≡ true) × (((length (images_with t disk) == 1) && (is_visible t (Vhd disk) || (is_visible t (Raw disk) || is_visible t (Old disk)))) ≡ true)
        rest = and_parts (not (has_image t twin)) ((length (images_with t disk) == 1) && (is_visible t (Vhd disk) || (is_visible t (Raw disk) || is_visible t (Old disk)))) parts.1

        seen : ((length (images_with t disk) == 1) ≡ true) × ((is_visible t (Vhd disk) || (is_visible t (Raw disk) || is_visible t (Old disk))) ≡ true)
        seen = and_parts (length (images_with t disk) == 1) (is_visible t (Vhd disk) || (is_visible t (Raw disk) || is_visible t (Old disk))) rest.1

        no_base : (is_there t (Vhd base) ≡ false) × (is_there t (Raw base) ≡ false)
        no_base = none_with t base (not_true (has_image t base) parts.0)

        no_twin : (is_there t (Vhd twin) ≡ false) × (is_there t (Raw twin) ≡ false)
        no_twin = none_with t twin (not_true (has_image t twin) rest.0)

        stage : (m : Name) (own : Row) → (m ≡ Vhd disk) ⊎ (m ≡ Raw disk) → rows t m ≡ Some own → (not own.hidden && not own.fresh) ≡ true
            → ((n : Name) (r : Row) → (n ≡ Vhd disk) ⊎ (n ≡ Raw disk) → rows t n ≡ Some r → n ≡ m) → (m : Name) × IsForkStage t disk base twin m
        stage m own named at test alone =
            let p = and_parts (not own.hidden) (not own.fresh) test in (
              m,
              record {
                disk_base = disk_base;
                disk_twin = disk_twin;
                base_twin = base_twin;
                own = own;
                there = at;
                filled = not_true own.fresh p.1;
                volumes = each m (λ n r. IsNew disk base twin m n own.hidden r) images;
                place = inl (image_none t base no_base.0 no_base.1, not_true own.hidden p.0, named);
              },
            )
          where
            images : (u : List ℕ) (n : Name) (r : Row) → (u ≡ disk) ⊎ ((u ≡ base) ⊎ (u ≡ twin)) → (n ≡ Vhd u) ⊎ (n ≡ Raw u) → rows t n ≡ Some r → (n ≡ m) ⊎ IsNew disk base twin m n own.hidden r
            images u n r (inl is) k there = inl (alone n r (subst (λ v. (n ≡ Vhd v) ⊎ (n ≡ Raw v)) is k) there)
            images u n r (inr (inl is)) k there = absurd (nowhere base n r no_base.0 no_base.1 (subst (λ v. (n ≡ Vhd v) ⊎ (n ≡ Raw v)) is k) there)
            images u n r (inr (inr is)) k there = absurd (nowhere twin n r no_twin.0 no_twin.1 (subst (λ v. (n ≡ Vhd v) ⊎ (n ≡ Raw v)) is k) there)

        vhd_alone : is_there t (Vhd disk) ≡ true → (n : Name) (r : Row) → (n ≡ Vhd disk) ⊎ (n ≡ Raw disk) → rows t n ≡ Some r → n ≡ Vhd disk
        vhd_alone here n r (inl is) there = is
        vhd_alone here n r (inr is) there = absurd (not_there t (Raw disk) r (one_with t disk seen.0 here) (sym (ap (rows t) is) ∙ there))

        raw_alone : is_there t (Raw disk) ≡ true → (n : Name) (r : Row) → (n ≡ Vhd disk) ⊎ (n ≡ Raw disk) → rows t n ≡ Some r → n ≡ Raw disk
        raw_alone here n r (inr is) there = is
        raw_alone here n r (inl is) there = absurd (not_there t (Vhd disk) r (other_with t disk seen.0 here) (sym (ap (rows t) is) ∙ there))

        by_raw : (is_visible t (Raw disk) ≡ true) ⊎ (is_visible t (Old disk) ≡ true) → (m : Name) × IsForkStage t disk base twin m
        by_raw (inl raw) =
            let k = of_row_parts (λ r. not r.hidden && not r.fresh) (rows t (Raw disk)) raw in
            stage (Raw disk) k.0 (inr refl) k.1 k.2 (raw_alone (ap is_some k.1))
        by_raw (inr old) =
            let k = of_row_parts (λ r. not r.hidden && not r.fresh) (rows t (Old disk)) old in
            absurd (true≢false (sym (simple_row (Old disk) k.0 k.1)))

        by : (is_visible t (Vhd disk) ≡ true) ⊎ ((is_visible t (Raw disk) || is_visible t (Old disk)) ≡ true) → (m : Name) × IsForkStage t disk base twin m
        by (inl vhd) =
            let k = of_row_parts (λ r. not r.hidden && not r.fresh) (rows t (Vhd disk)) vhd in
            stage (Vhd disk) k.0 (inl refl) k.1 k.2 (vhd_alone (ap is_some k.1))
        by (inr more) = by_raw (or_cases (is_visible t (Raw disk)) (is_visible t (Old disk)) more)

    -- no two images of one UUID
    module _ (named : (r : Row) → In r t.volumes → is_misnamed t r ≡ false) where
      alone_by : (n : Name) (r : Row) → rows t n ≡ Some r → is_data n ≡ true → has_twin t n ≡ false
      alone_by n r there image =
          let i = row_of-In t.volumes n r there in
          let f : (is_data n && (has_twin t n || not (are_past t n))) ≡ false = sym (ap (λ m. is_data m && (has_twin t m || not (are_past t m))) (row_of-name t.volumes n r there)) ∙ named r i.0 in
          (or_parts (has_twin t n) (not (are_past t n)) (sym (ap (λ b. b && (has_twin t n || not (are_past t n))) image) ∙ f)).0

      -- afterwards
      pub made_stage : disk ≢ base → disk ≢ twin → base ≢ twin → is_fork_made t disk base twin ≡ true → (m : Name) × IsForkStage t disk base twin m
      made_stage disk_base disk_twin base_twin h = by (or_cases (is_filled t (Vhd base)) (is_filled t (Raw base)) h1.0)
        where
          last : Bool
          last = (not (is_there t (Vhd disk)) && not (is_there t (Vhd twin))) || (is_hidden t (Vhd base) || is_hidden t (Raw base))

          from_twin : Bool
          from_twin = is_visible_or_gone t (Vhd twin) && last

          from_disk : Bool
          from_disk = is_visible_or_gone t (Vhd disk) && from_twin

          from_raw : Bool
          from_raw = not (is_there t (Raw twin)) && from_disk

          h1 : ((is_filled t (Vhd base) || is_filled t (Raw base)) ≡ true) × ((not (is_there t (Raw disk)) && from_raw) ≡ true)
          h1 = and_parts (is_filled t (Vhd base) || is_filled t (Raw base)) (not (is_there t (Raw disk)) && from_raw) h

          h2 : (not (is_there t (Raw disk)) ≡ true) × (from_raw ≡ true)
          h2 = and_parts (not (is_there t (Raw disk))) from_raw h1.1

          h3 : (not (is_there t (Raw twin)) ≡ true) × (from_disk ≡ true)
          h3 = and_parts (not (is_there t (Raw twin))) from_disk h2.1

          h4 : (is_visible_or_gone t (Vhd disk) ≡ true) × (from_twin ≡ true)
          h4 = and_parts (is_visible_or_gone t (Vhd disk)) from_twin h3.1

          h5 : (is_visible_or_gone t (Vhd twin) ≡ true) × (last ≡ true)
          h5 = and_parts (is_visible_or_gone t (Vhd twin)) last h4.1

          shown : (n : Name) (r : Row) → rows t n ≡ Some r → is_visible_or_gone t n ≡ true → r.hidden ≡ false
          shown n r there k = not_true r.hidden (sym (ap (λ o. is_none o || of_row (λ r. not r.hidden) o) there) ∙ k)

          stage : (m : Name) (own : Row) → (m ≡ Vhd base) ⊎ (m ≡ Raw base) → rows t m ≡ Some own → not own.fresh ≡ true → image_with t base ≡ Some m
              → ((n : Name) (r : Row) → (n ≡ Vhd base) ⊎ (n ≡ Raw base) → rows t n ≡ Some r → n ≡ m) → (m : Name) × IsForkStage t disk base twin m
          stage m own at_base at filled image alone = (
            m,
            record {
              disk_base = disk_base;
              disk_twin = disk_twin;
              base_twin = base_twin;
              own = own;
              there = at;
              filled = not_true own.fresh filled;
              volumes = each m (λ n r. IsNew disk base twin m n own.hidden r) images;
              place = inr (image, at_base, h);
            },
          )
            where
              hides : (n : Name) → (n ≡ Vhd base) ⊎ (n ≡ Raw base) → is_hidden t n ≡ true → own.hidden ≡ true
              hides n k hidden =
                  let p = of_row_parts (λ r. r.hidden && not r.fresh) (rows t n) hidden in
                  let same : p.0 ≡ own = same_Some p.0 own (sym p.1 ∙ ap (rows t) (alone n p.0 k p.1) ∙ at) in
                  ap (λ (r : Row). r.hidden) (sym same) ∙ (and_parts p.0.hidden (not p.0.fresh) p.2).0

              hidden_base : (is_hidden t (Vhd base) ≡ true) ⊎ (is_hidden t (Raw base) ≡ true) → own.hidden ≡ true
              hidden_base (inl k) = hides (Vhd base) (inl refl) k
              hidden_base (inr k) = hides (Raw base) (inr refl) k

              -- one of the new images is there
              over : (n : Name) (r : Row) → (n ≡ Vhd disk) ⊎ (n ≡ Vhd twin) → rows t n ≡ Some r → own.hidden ≡ true
              over n r k there = from (or_cases (not (is_there t (Vhd disk)) && not (is_there t (Vhd twin))) (is_hidden t (Vhd base) || is_hidden t (Raw base)) h5.1)
                where
                  neither : (n ≡ Vhd disk) ⊎ (n ≡ Vhd twin) → (not (is_there t (Vhd disk)) ≡ true) × (not (is_there t (Vhd twin)) ≡ true) → ⊥
                  neither (inl is) p = not_there t (Vhd disk) r (not_true (is_there t (Vhd disk)) p.0) (sym (ap (rows t) is) ∙ there)
                  neither (inr is) p = not_there t (Vhd twin) r (not_true (is_there t (Vhd twin)) p.1) (sym (ap (rows t) is) ∙ there)

                  from : ((not (is_there t (Vhd disk)) && not (is_there t (Vhd twin))) ≡ true) ⊎ ((is_hidden t (Vhd base) || is_hidden t (Raw base)) ≡ true) → own.hidden ≡ true
                  from (inl p) = absurd (neither k (and_parts (not (is_there t (Vhd disk))) (not (is_there t (Vhd twin))) p))
                  from (inr p) = hidden_base (or_cases (is_hidden t (Vhd base)) (is_hidden t (Raw base)) p)

              new : (n x : Name) (r : Row) → (x ≡ Vhd disk) ⊎ (x ≡ Vhd twin) → n ≡ x → rows t n ≡ Some r → is_visible_or_gone t x ≡ true → IsNew disk base twin m n own.hidden r
              new n x r k is there seen = record {
                name = subst (λ y. (y ≡ Vhd disk) ⊎ (y ≡ Vhd twin)) (sym is) k;
                shown = shown x r (sym (ap (rows t) is) ∙ there) seen;
                over = over x r k (sym (ap (rows t) is) ∙ there);
                base_is = at_base;
              }

              images : (u : List ℕ) (n : Name) (r : Row) → (u ≡ disk) ⊎ ((u ≡ base) ⊎ (u ≡ twin)) → (n ≡ Vhd u) ⊎ (n ≡ Raw u) → rows t n ≡ Some r → (n ≡ m) ⊎ IsNew disk base twin m n own.hidden r
              images u n r (inl is) (inl k) there = inr (new n (Vhd disk) r (inl refl) (k ∙ ap Vhd is) there h4.0)
              images u n r (inl is) (inr k) there = absurd (not_there t (Raw disk) r (not_true (is_there t (Raw disk)) h2.0) (sym (ap (rows t) (k ∙ ap Raw is)) ∙ there))
              images u n r (inr (inl is)) k there = inl (alone n r (subst (λ v. (n ≡ Vhd v) ⊎ (n ≡ Raw v)) is k) there)
              images u n r (inr (inr is)) (inl k) there = inr (new n (Vhd twin) r (inr refl) (k ∙ ap Vhd is) there h5.0)
              images u n r (inr (inr is)) (inr k) there = absurd (not_there t (Raw twin) r (not_true (is_there t (Raw twin)) h3.0) (sym (ap (rows t) (k ∙ ap Raw is)) ∙ there))

          by : (is_filled t (Vhd base) ≡ true) ⊎ (is_filled t (Raw base) ≡ true) → (m : Name) × IsForkStage t disk base twin m
          by (inl vhd) = stage (Vhd base) k.0 (inl refl) k.1 k.2 (image_vhd t base (ap is_some k.1)) alone
            where
              k : (r : Row) × (rows t (Vhd base) ≡ Some r) × (not r.fresh ≡ true)
              k = of_row_parts (λ r. not r.fresh) (rows t (Vhd base)) vhd

              alone : (n : Name) (r : Row) → (n ≡ Vhd base) ⊎ (n ≡ Raw base) → rows t n ≡ Some r → n ≡ Vhd base
              alone n r (inl is) there = is
              alone n r (inr is) there = absurd (not_there t (Raw base) r (alone_by (Vhd base) k.0 k.1 refl) (sym (ap (rows t) is) ∙ there))
          by (inr raw) = stage (Raw base) k.0 (inr refl) k.1 k.2 (image_raw t base (alone_by (Raw base) k.0 k.1 refl) (ap is_some k.1)) alone
            where
              k : (r : Row) × (rows t (Raw base) ≡ Some r) × (not r.fresh ≡ true)
              k = of_row_parts (λ r. not r.fresh) (rows t (Raw base)) raw

              alone : (n : Name) (r : Row) → (n ≡ Vhd base) ⊎ (n ≡ Raw base) → rows t n ≡ Some r → n ≡ Raw base
              alone n r (inl is) there = absurd (not_there t (Vhd base) r (alone_by (Raw base) k.0 k.1 refl) (sym (ap (rows t) is) ∙ there))
              alone n r (inr is) there = is

      -- the entry stands at a stage
      pub fork_stage : is_forking t disk base twin ≡ true → (m : Name) × IsForkStage t disk base twin m
      fork_stage h = by (or_cases (is_fork_begun t disk base twin) (is_fork_made t disk base twin) h4.1)
        where
          stages : Bool
          stages = is_fork_begun t disk base twin || is_fork_made t disk base twin

          h1 : (not (bytes_eq disk base) ≡ true) × ((not (bytes_eq disk twin) && (not (bytes_eq base twin) && (not (list_any (is_among (disk ∷ base ∷ twin ∷ [])) (folding_uuids t)) && stages))) ≡ true)
          h1 = and_parts (not (bytes_eq disk base)) (not (bytes_eq disk twin) && (not (bytes_eq base twin) && (not (list_any (is_among (disk ∷ base ∷ twin ∷ [])) (folding_uuids t)) && stages))) h

          h2 : (not (bytes_eq disk twin) ≡ true) × ((not (bytes_eq base twin) && (not (list_any (is_among (disk ∷ base ∷ twin ∷ [])) (folding_uuids t)) && stages)) ≡ true)
          h2 = and_parts (not (bytes_eq disk twin)) (not (bytes_eq base twin) && (not (list_any (is_among (disk ∷ base ∷ twin ∷ [])) (folding_uuids t)) && stages)) h1.1

          h3 : (not (bytes_eq base twin) ≡ true) × ((not (list_any (is_among (disk ∷ base ∷ twin ∷ [])) (folding_uuids t)) && stages) ≡ true)
          h3 = and_parts (not (bytes_eq base twin)) (not (list_any (is_among (disk ∷ base ∷ twin ∷ [])) (folding_uuids t)) && stages) h2.1

          h4 : (not (list_any (is_among (disk ∷ base ∷ twin ∷ [])) (folding_uuids t)) ≡ true) × (stages ≡ true)
          h4 = and_parts (not (list_any (is_among (disk ∷ base ∷ twin ∷ [])) (folding_uuids t))) stages h3.1

          by : (is_fork_begun t disk base twin ≡ true) ⊎ (is_fork_made t disk base twin ≡ true) → (m : Name) × IsForkStage t disk base twin m
          by (inl begun) = begun_stage (differs disk base h1.0) (differs disk twin h2.0) (differs base twin h3.0) begun
          by (inr is) = made_stage (differs disk base h1.0) (differs disk twin h2.0) (differs base twin h3.0) is
