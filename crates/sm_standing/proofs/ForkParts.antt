-- The tables that stand while a fork is undone, and behind it, beside the one from before.
use Rattle.std.proofs.Common.{◌≡◌, ◌≢◌, ◌⊎◌, inl, inr, ℕ, ◌<◌, ◌≤◌, ◌^◌, Bool, true, false, not, ◌||◌, List, [], ◌∷◌, length, Some, None, refl, sym, ap, ◌∙◌, subst, arith}
use Rattle.std.specs.List.{filter}
use Rattle.std.proofs.lemmas.Bool.{true≢false}
use Rattle.std.proofs.lemmas.Option.{none-some, same_Some}
use Rattle.common_laws.specs.Lists.{In}
use Rattle.common_laws.proofs.Lists.{In-filter}
use Rattle.sm_base.specs.Kinds.{is_image as is_data}
use Rattle.sm_base.specs.Names.{IsName}
use Rattle.sm_base.specs.declared.names.Name.{Name}
use Rattle.sm_base.specs.declared.names.Name.TheVariants.{Vhd, Raw, Clone}
use Rattle.vg_meta.specs.Tables.{VolumeTable, Row, IsTable, rows, names_of, name_eq}
use Rattle.vg_meta.specs.Changes.{Permits, applied, put, put_some, raised, renamed, tagged, without}
use Rattle.vg_meta.specs.declared.changes.Change.TheVariants.{Mark, Remove, Rename}
use Rattle.vg_meta.specs.declared.changes.Tag.TheVariants.{Hidden}
use Rattle.vg_meta.proofs.ByName.{changes_by_name}
use Rattle.vg_meta.proofs.ChangeLaws.{IsTable-applied}
use Rattle.vg_meta.proofs.NameLaws.{name_eq-false, name_eq-true}
use Rattle.vg_meta.proofs.RowLaws.{names_of-with_row, row_of-name}
use Rattle.sm_standing.specs.Apart.{is_apart}
use Rattle.sm_standing.specs.Checks.{images}
use Rattle.sm_standing.specs.Entries.{image_with, is_among, is_fork_made, is_making, making}
use Rattle.sm_standing.specs.Forks.{forked}
use Rattle.sm_standing.proofs.ForkLaws.{disk_among}
use Rattle.sm_standing.proofs.ForkTables.{IsForkStage, IsNew}
use Rattle.sm_standing.proofs.UndoneLaws.{named_found}
use Rattle.sm_standing.proofs.VolumeLists.{count_one, count_put, count_without, images_named, names_put, names_without, none_without}

-- the volume of the disk's image by then
abbrev pub kept_as : Row → Name → Bool → Row
kept_as own m hidden = record { name = m; hidden = hidden; fresh = own.fresh; extents = own.extents }

-- a later table than t, in which the disk's image has the name m: volumes that speak of none of the three UUIDs are the same, and
-- what others there are was there
pub record IsForkPart (count : ℕ) (t : VolumeTable) (disk base twin : List ℕ) (n : Name) (own : Row) (v : VolumeTable) (m : Name) (hidden : Bool) : Type 0 where
  pub table : IsTable count v
  pub later : t.sequence ≤ v.sequence
  pub few : length (images v) ≤ length (images t)
  pub apart : (x : Name) → is_apart (forked disk base twin) x ≡ true → rows v x ≡ rows t x
  pub there : rows v m ≡ Some (kept_as own m hidden)
  pub moved : (m ≡ n) ⊎ (((n ≡ Vhd base) × (m ≡ Vhd disk)) ⊎ ((n ≡ Raw base) × (m ≡ Raw disk)))
  pub place : ((hidden ≡ false) × ((m ≡ Vhd disk) ⊎ (m ≡ Raw disk))) ⊎ ((m ≡ n) × ((m ≡ Vhd base) ⊎ (m ≡ Raw base)))
  pub volumes : (x : Name) (r : Row) → rows v x ≡ Some r → is_apart (forked disk base twin) x ≡ false
      → ((x ≡ Clone disk base twin) × (making v ≡ Clone disk base twin ∷ [])) ⊎ ((x ≡ m) ⊎ (IsNew disk base twin m x hidden r × (m ≡ n) × (rows t x ≡ Some r)))
  pub entries : (making v ≡ Clone disk base twin ∷ []) ⊎ ((making v ≡ []) × (hidden ≡ false) × ((m ≡ Vhd disk) ⊎ (m ≡ Raw disk)))

-- the entry's volume
pub entry_found : (t : VolumeTable) (n : Name) → making t ≡ n ∷ [] → (r : Row) × (rows t n ≡ Some r)
entry_found t n entry = named_found t.volumes n (In-filter is_making (names_of t.volumes) n (subst (In n) (sym entry) (inl refl))).0

module _ (count : ℕ) (t : VolumeTable) (disk base twin : List ℕ) (n : Name) (table : IsTable count t) (entry : making t ≡ Clone disk base twin ∷ []) (σ : IsForkStage t disk base twin n) where
  abbrev us : List (List ℕ)
  us = forked disk base twin

  abbrev e : Name
  e = Clone disk base twin

  abbrev Part : VolumeTable → Name → Bool → Type 0
  Part v m hidden = IsForkPart count t disk base twin n σ.own v m hidden

  -- the table itself
  pub part_now : Part t n σ.own.hidden
  part_now = record {
    table = table;
    later = omega arith;
    few = omega arith;
    apart = λ x at. refl;
    there = σ.there ∙ ap (λ m. Some (kept_as σ.own m σ.own.hidden)) (row_of-name t.volumes n σ.own σ.there);
    moved = inl refl;
    place = by σ.place;
    volumes = λ x r at speaks. of x r at (σ.volumes x r at speaks);
    entries = inl entry;
  }
    where
      by : ((image_with t base ≡ None) × (σ.own.hidden ≡ false) × ((n ≡ Vhd disk) ⊎ (n ≡ Raw disk))) ⊎ ((image_with t base ≡ Some n) × ((n ≡ Vhd base) ⊎ (n ≡ Raw base)) × (is_fork_made t disk base twin ≡ true))
          → ((σ.own.hidden ≡ false) × ((n ≡ Vhd disk) ⊎ (n ≡ Raw disk))) ⊎ ((n ≡ n) × ((n ≡ Vhd base) ⊎ (n ≡ Raw base)))
      by (inl k) = inl (k.1, k.2)
      by (inr k) = inr (refl, k.1)

      of : (x : Name) (r : Row) → rows t x ≡ Some r → (x ≡ e) ⊎ ((x ≡ n) ⊎ IsNew disk base twin n x σ.own.hidden r)
          → ((x ≡ e) × (making t ≡ e ∷ [])) ⊎ ((x ≡ n) ⊎ (IsNew disk base twin n x σ.own.hidden r × (n ≡ n) × (rows t x ≡ Some r)))
      of x r at (inl is) = inl (is, entry)
      of x r at (inr (inl is)) = inr (inl is)
      of x r at (inr (inr new)) = inr (inr (new, refl, at))

  module _ (v : VolumeTable) (m : Name) (hidden : Bool) (p : Part v m hidden) (still : making v ≡ e ∷ []) where
    raised_later : (q : ℕ) → q < 2 ^ 48 → q ≤ raised q
    raised_later q below = omega (arith, below)

    later_still : t.sequence ≤ raised v.sequence
    later_still = let first = p.later in let more = raised_later v.sequence p.table.sequence in omega (arith, first, more)

    -- ---- a new image goes

    module _ (x : Name) (r : Row) (at : rows v x ≡ Some r) (not_apart : is_apart us x ≡ false) (other : m ≢ x) (image : is_data x ≡ true) (no_entry : is_making x ≡ false) where
      pub may_remove : Permits count v (Remove x)
      may_remove = record { row = r; there = at; not_mgt = λ is. true≢false (sym image ∙ ap is_data is) }

      abbrev fewer : VolumeTable
      fewer = applied v (Remove x)

      others : (y : Name) → (y ≢ x) → rows fewer y ≡ rows v y
      others y away = (changes_by_name count v (Remove x) p.table may_remove).others y away

      making_same : making fewer ≡ making v
      making_same = names_without is_making x v.volumes no_entry

      pub part_removed : Part fewer m hidden
      part_removed = record {
        table = IsTable-applied count v (Remove x) p.table may_remove;
        later = later_still;
        few = let less = count_without (λ r. is_data r.name) x v.volumes in let few = p.few in omega (arith, less, few);
        apart = λ y is. others y (λ same. true≢false (sym is ∙ ap (is_apart us) same ∙ not_apart)) ∙ p.apart y is;
        there = others m other ∙ p.there;
        moved = p.moved;
        place = p.place;
        volumes = λ y s there speaks. of y s (p.volumes y s (sym (others y (λ same. gone y s same there)) ∙ there) speaks);
        entries = inl (making_same ∙ still);
      }
        where
          gone : (y : Name) (s : Row) → y ≡ x → rows fewer y ≡ Some s → ⊥
          gone y s same there =
              let none = (changes_by_name count v (Remove x) p.table may_remove).does.2 in
              none-some s (sym none ∙ ap (rows fewer) (sym same) ∙ there)

          of : (y : Name) (s : Row) → ((y ≡ e) × (making v ≡ e ∷ [])) ⊎ ((y ≡ m) ⊎ (IsNew disk base twin m y hidden s × (m ≡ n) × (rows t y ≡ Some s)))
              → ((y ≡ e) × (making fewer ≡ e ∷ [])) ⊎ ((y ≡ m) ⊎ (IsNew disk base twin m y hidden s × (m ≡ n) × (rows t y ≡ Some s)))
          of y s (inl k) = inl (k.0, making_same ∙ still)
          of y s (inr k) = inr k

      pub removed_row : rows fewer x ≡ None
      removed_row = (changes_by_name count v (Remove x) p.table may_remove).does.2

      pub removed_others : (y : Name) → y ≢ x → rows fewer y ≡ rows v y
      removed_others = others

      pub removed_making : making fewer ≡ e ∷ []
      removed_making = making_same ∙ still

    -- ---- the base is shown

    module _ (is_hid : hidden ≡ true) (here : m ≡ n) (base_is : (m ≡ Vhd base) ⊎ (m ≡ Raw base)) (not_apart : is_apart us m ≡ false) (no_new : (x : Name) (r : Row) → (x ≡ Vhd disk) ⊎ (x ≡ Vhd twin) → rows v x ≡ Some r → ⊥) where
      image_name : (x : Name) → (x ≡ Vhd base) ⊎ (x ≡ Raw base) → is_data x ≡ true
      image_name x (inl is) = ap is_data is
      image_name x (inr is) = ap is_data is

      pub may_show : Permits count v (Mark m Hidden false)
      may_show = record { row = kept_as σ.own m hidden; there = p.there; taking = image_name m base_is; otherwise = is_hid }

      abbrev shown : VolumeTable
      shown = applied v (Mark m Hidden false)

      pub shown_others : (y : Name) → (y ≢ m) → rows shown y ≡ rows v y
      shown_others y away = (changes_by_name count v (Mark m Hidden false) p.table may_show).others y away

      names_same : names_of shown.volumes ≡ names_of v.volumes
      names_same = names_of-with_row v.volumes m (tagged Hidden false) (λ r. refl)

      pub shown_making : making shown ≡ e ∷ []
      shown_making = ap (λ ns. filter is_making ns) names_same ∙ still

      pub shown_row : rows shown m ≡ Some (kept_as σ.own m false)
      shown_row =
          let k = (changes_by_name count v (Mark m Hidden false) p.table may_show).does in
          k.2 ∙ ap (λ (r : Row). Some (tagged Hidden false r)) (same_Some k.0 (kept_as σ.own m hidden) (sym k.1 ∙ p.there))

      pub part_shown : Part shown m false
      part_shown = record {
        table = IsTable-applied count v (Mark m Hidden false) p.table may_show;
        later = later_still;
        few = let same = images_named shown.volumes v.volumes names_same in let few = p.few in omega (arith, same, few);
        apart = λ y is. shown_others y (λ same. true≢false (sym is ∙ ap (is_apart us) same ∙ not_apart)) ∙ p.apart y is;
        there = shown_row;
        moved = inl here;
        place = inr (here, base_is);
        volumes = λ y s there speaks. by y s there speaks (name_eq y m) refl;
        entries = inl shown_making;
      }
        where
          of : (y : Name) (s : Row) → rows v y ≡ Some s → ((y ≡ e) × (making v ≡ e ∷ [])) ⊎ ((y ≡ m) ⊎ (IsNew disk base twin m y hidden s × (m ≡ n) × (rows t y ≡ Some s)))
              → ((y ≡ e) × (making shown ≡ e ∷ [])) ⊎ ((y ≡ m) ⊎ (IsNew disk base twin m y false s × (m ≡ n) × (rows t y ≡ Some s)))
          of y s there (inl k) = inl (k.0, shown_making)
          of y s there (inr (inl is)) = inr (inl is)
          of y s there (inr (inr k)) = let one = k.0 in absurd (no_new y s one.name there)

          by : (y : Name) (s : Row) → rows shown y ≡ Some s → is_apart us y ≡ false → (b : Bool) → name_eq y m ≡ b
              → ((y ≡ e) × (making shown ≡ e ∷ [])) ⊎ ((y ≡ m) ⊎ (IsNew disk base twin m y false s × (m ≡ n) × (rows t y ≡ Some s)))
          by y s there speaks true is = inr (inl (name_eq-true y m is))
          by y s there speaks false is = let before = sym (shown_others y (name_eq-false y m is)) ∙ there in of y s before (p.volumes y s before speaks)

    -- ---- the image takes the disk's name

    module _ (is_shown : hidden ≡ false) (here : m ≡ n) (to : Name) (kinds : ((m ≡ Vhd base) × (to ≡ Vhd disk)) ⊎ ((m ≡ Raw base) × (to ≡ Raw disk))) (proper : IsName to) (free : rows v to ≡ None)
        (not_apart : is_apart us m ≡ false) (still_not : is_apart us to ≡ false) where
      both_images : (x y : Name) → ((x ≡ Vhd base) × (y ≡ Vhd disk)) ⊎ ((x ≡ Raw base) × (y ≡ Raw disk)) → (is_data x ≡ true) × (is_data y ≡ true) × (is_making x ≡ false) × (is_making y ≡ false)
      both_images x y (inl k) = (ap is_data k.0, ap is_data k.1, ap is_making k.0, ap is_making k.1)
      both_images x y (inr k) = (ap is_data k.0, ap is_data k.1, ap is_making k.0, ap is_making k.1)

      pub may_rename : Permits count v (Rename m to)
      may_rename = let k = both_images m to kinds in record { row = kept_as σ.own m hidden; there = p.there; name_proper = proper; new_name = free; same_kind = inl (k.0, k.1) }

      abbrev again : VolumeTable
      again = applied v (Rename m to)

      pub renamed_others : (y : Name) → (y ≢ m) → (y ≢ to) → rows again y ≡ rows v y
      renamed_others y a b = (changes_by_name count v (Rename m to) p.table may_rename).others y (λ k. which k)
        where
          which : (y ≡ m) ⊎ (y ≡ to) → ⊥
          which (inl is) = a is
          which (inr is) = b is

      pub renamed_gone : rows again m ≡ None
      renamed_gone = (changes_by_name count v (Rename m to) p.table may_rename).does.3

      pub renamed_row : rows again to ≡ Some (kept_as σ.own to false)
      renamed_row =
          let k = (changes_by_name count v (Rename m to) p.table may_rename).does in
          k.4 ∙ ap (λ (r : Row). Some (renamed to r)) (same_Some k.0 (kept_as σ.own m hidden) (sym k.1 ∙ p.there)) ∙ ap (λ b. Some (kept_as σ.own to b)) is_shown

      put_back : again.volumes ≡ put (kept_as σ.own to hidden) (without m v.volumes)
      put_back = ap (λ o. put_some o (renamed to) (without m v.volumes)) p.there

      pub renamed_making : making again ≡ e ∷ []
      renamed_making =
          let k = both_images m to kinds in
          ap (λ rs. filter is_making (names_of rs)) put_back ∙ names_put is_making (kept_as σ.own to hidden) (without m v.volumes) k.3 ∙ names_without is_making m v.volumes k.2 ∙ still

      pub part_renamed : Part again to false
      part_renamed = record {
        table = IsTable-applied count v (Rename m to) p.table may_rename;
        later = later_still;
        few =
            let k = both_images m to kinds in
            let one = count_one (λ r. is_data r.name) m v.volumes (kept_as σ.own m hidden) p.there k.0 in
            let more = count_put (λ r. is_data r.name) (kept_as σ.own to hidden) (without m v.volumes) in
            let same = ap (λ rs. length (filter (λ r. is_data r.name) rs)) put_back in
            let few = p.few in omega (arith, one, more, same, few);
        apart = λ y is. renamed_others y (λ same. true≢false (sym is ∙ ap (is_apart us) same ∙ not_apart)) (λ same. true≢false (sym is ∙ ap (is_apart us) same ∙ still_not)) ∙ p.apart y is;
        there = renamed_row;
        moved = inr (from kinds);
        place = inl (refl, to_disk kinds);
        volumes = λ y s there speaks. by y s there speaks (name_eq y to) (name_eq y m) refl refl;
        entries = inl renamed_making;
      }
        where
          from : ((m ≡ Vhd base) × (to ≡ Vhd disk)) ⊎ ((m ≡ Raw base) × (to ≡ Raw disk)) → ((n ≡ Vhd base) × (to ≡ Vhd disk)) ⊎ ((n ≡ Raw base) × (to ≡ Raw disk))
          from (inl k) = inl (sym here ∙ k.0, k.1)
          from (inr k) = inr (sym here ∙ k.0, k.1)

          to_disk : ((m ≡ Vhd base) × (to ≡ Vhd disk)) ⊎ ((m ≡ Raw base) × (to ≡ Raw disk)) → (to ≡ Vhd disk) ⊎ (to ≡ Raw disk)
          to_disk (inl k) = inl k.1
          to_disk (inr k) = inr k.1

          of : (y : Name) (s : Row) → y ≢ m → ((y ≡ e) × (making v ≡ e ∷ [])) ⊎ ((y ≡ m) ⊎ (IsNew disk base twin m y hidden s × (m ≡ n) × (rows t y ≡ Some s)))
              → ((y ≡ e) × (making again ≡ e ∷ [])) ⊎ ((y ≡ to) ⊎ (IsNew disk base twin to y false s × (to ≡ n) × (rows t y ≡ Some s)))
          of y s away (inl k) = inl (k.0, renamed_making)
          of y s away (inr (inl is)) = absurd (away is)
          of y s away (inr (inr k)) = let one = k.0 in absurd (true≢false (sym one.over ∙ is_shown))

          by : (y : Name) (s : Row) → rows again y ≡ Some s → is_apart us y ≡ false → (a b : Bool) → name_eq y to ≡ a → name_eq y m ≡ b
              → ((y ≡ e) × (making again ≡ e ∷ [])) ⊎ ((y ≡ to) ⊎ (IsNew disk base twin to y false s × (to ≡ n) × (rows t y ≡ Some s)))
          by y s there speaks true b is_to is_m = inr (inl (name_eq-true y to is_to))
          by y s there speaks false true is_to is_m = absurd (none-some s (sym renamed_gone ∙ ap (rows again) (sym (name_eq-true y m is_m)) ∙ there))
          by y s there speaks false false is_to is_m =
              let away = name_eq-false y m is_m in
              of y s away (p.volumes y s (sym (renamed_others y away (name_eq-false y to is_to)) ∙ there) speaks)

    -- ---- the entry goes

    module _ (ends : (hidden ≡ false) × ((m ≡ Vhd disk) ⊎ (m ≡ Raw disk))) where
      pub may_end : Permits count v (Remove e)
      may_end = let k = entry_found v e still in record { row = k.0; there = k.1; not_mgt = λ is. (let x = is in cc) }

      abbrev ended : VolumeTable
      ended = applied v (Remove e)

      pub ended_others : (y : Name) → (y ≢ e) → rows ended y ≡ rows v y
      ended_others y away = (changes_by_name count v (Remove e) p.table may_end).others y away

      pub ended_gone : rows ended e ≡ None
      ended_gone = (changes_by_name count v (Remove e) p.table may_end).does.2

      pub ended_making : making ended ≡ []
      ended_making = none_without is_making e v.volumes refl still

      other_than : (x : Name) → (x ≡ Vhd disk) ⊎ (x ≡ Raw disk) → x ≢ e
      other_than x (inl k) is = let z = sym k ∙ is in cc
      other_than x (inr k) is = let z = sym k ∙ is in cc

      e_speaks : is_apart us e ≡ false
      e_speaks = ap (λ b. not (b || (is_among us base || (is_among us twin || false)))) (disk_among disk base twin)

      pub part_ended : Part ended m hidden
      part_ended = record {
        table = IsTable-applied count v (Remove e) p.table may_end;
        later = later_still;
        few = let less = count_without (λ r. is_data r.name) e v.volumes in let few = p.few in omega (arith, less, few);
        apart = λ y is. ended_others y (λ same. true≢false (sym is ∙ ap (is_apart us) same ∙ e_speaks)) ∙ p.apart y is;
        there = ended_others m (other_than m ends.1) ∙ p.there;
        moved = p.moved;
        place = inl ends;
        volumes = λ y s there speaks. of y s there (p.volumes y s (sym (ended_others y (λ same. none-some s (sym ended_gone ∙ ap (rows ended) (sym same) ∙ there))) ∙ there) speaks);
        entries = inr (ended_making, ends.0, ends.1);
      }
        where
          of : (y : Name) (s : Row) → rows ended y ≡ Some s → ((y ≡ e) × (making v ≡ e ∷ [])) ⊎ ((y ≡ m) ⊎ (IsNew disk base twin m y hidden s × (m ≡ n) × (rows t y ≡ Some s)))
              → ((y ≡ e) × (making ended ≡ e ∷ [])) ⊎ ((y ≡ m) ⊎ (IsNew disk base twin m y hidden s × (m ≡ n) × (rows t y ≡ Some s)))
          of y s there (inl k) = absurd (none-some s (sym ended_gone ∙ ap (rows ended) (sym k.0) ∙ there))
          of y s there (inr k) = inr k
