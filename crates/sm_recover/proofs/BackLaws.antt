-- A fork is undone, change by change: each is allowed in its turn, and what the volumes are behind all of them, by name.
use Rattle.std.proofs.Common.{◌≡◌, ◌≢◌, ◌⊎◌, inl, inr, ℕ, ◌≤◌, Bool, true, false, List, [], ◌∷◌, ◌++◌, Option, Some, None, is_some, refl, sym, ap, ap₂, ◌∙◌, subst}
use Rattle.std.proofs.lemmas.Bool.{true≢false}
use Rattle.std.proofs.lemmas.Option.{same_Some}
use Rattle.sm_base.specs.Limits.{extent_limit}
use Rattle.sm_base.specs.Kinds.{is_image}
use Rattle.sm_base.specs.Names.{IsName}
use Rattle.sm_base.specs.declared.names.Name.{Name}
use Rattle.sm_base.specs.declared.names.Name.TheVariants.{Mgt, Vhd, Raw, Clone}
use Rattle.vg_meta.specs.Changes.{Permits, renamed}
use Rattle.vg_meta.specs.Roomy.{RoomyTable, table_alone}
use Rattle.vg_meta.specs.Tables.{Row, VolumeTable, rows}
use Rattle.vg_meta.specs.declared.changes.Change.{Change}
use Rattle.vg_meta.specs.declared.changes.Change.TheVariants.{Mark, Remove, Rename}
use Rattle.vg_meta.specs.declared.changes.Tag.TheVariants.{Hidden}
use Rattle.vg_meta.proofs.ByName.{changes_by_name}
use Rattle.sm_standing.specs.Entries.{image_with, is_there}
use Rattle.sm_standing.specs.Opened.{applied_all, base_changes, changes_back, under_name, wanted}
use Rattle.sm_ready.specs.Runs.{AllMay}
use Rattle.sm_ready.proofs.RunLaws.{applied_append}
use Rattle.sm_recover.specs.Steps.{changes_of_base, is_marked}
use Rattle.sm_recover.proofs.CountLaws.{IsSmall, may_join, may_one, small_next}

-- what is known of disk and base before: their names are not one, the base is an image that is there, and no volume has the
-- disk's name of the base's kind but the new image
pub record HasBase (t : VolumeTable) (disk : List ℕ) (from : Name) (r : Row) : Type 0 where
  pub there : rows t from ≡ Some r
  pub image : is_image from ≡ true
  pub not_own : from ≢ Vhd disk
  pub not_to : from ≢ under_name from disk
  pub named : IsName (under_name from disk)
  pub kind : (under_name from disk ≡ Vhd disk) ⊎ ((under_name from disk ≡ Raw disk) × (rows t (Raw disk) ≡ None))

module _ (count : ℕ) (extents : count ≤ extent_limit) where
  -- ---- one volume less, where it is there

  pub record IsGone (t u : VolumeTable) (n : Name) : Type 0 where
    pub gone : rows u n ≡ None
    pub others : (m : Name) → m ≢ n → rows u m ≡ rows t m
    pub small : IsSmall count u

  pub record May (t : VolumeTable) (cs : List Change) (P : VolumeTable → Type 0) : Type 0 where
    pub may : AllMay count t cs
    pub behind : P (applied_all t cs)

  pub remove_one : (t : VolumeTable) (n : Name) (r : Row) → IsSmall count t → n ≢ Mgt → rows t n ≡ Some r → May t (Remove n ∷ []) (λ u. IsGone t u n)
  remove_one t n r small other there =
      let allowed : Permits count t (Remove n) = record { row = r; there = there; not_mgt = other } in
      let changes = changes_by_name count t (Remove n) small.table allowed in
      record {
        may = may_one (Remove n) extents small allowed tt;
        behind = record { gone = changes.does.2; others = λ m away. changes.others m away; small = small_next (Remove n) small allowed tt };
      }

  pub remove_where : (t : VolumeTable) (n : Name) (b : Bool) → IsSmall count t → n ≢ Mgt → is_there t n ≡ b → May t (wanted b (Remove n)) (λ u. IsGone t u n)
  remove_where t n b small other is = by b (rows t n) refl is
    where
      by : (b : Bool) (o : Option Row) → rows t n ≡ o → is_some (rows t n) ≡ b → May t (wanted b (Remove n)) (λ u. IsGone t u n)
      by true (Some r) at is = remove_one t n r small other at
      by true None at is = absurd (true≢false (sym is ∙ ap is_some at))
      by false None at is = record { may = tt; behind = record { gone = at; others = λ m away. refl; small = small } }
      by false (Some r) at is = absurd (true≢false (sym (ap is_some at) ∙ is))

  -- ---- an image is shown, where it is hidden

  pub record IsShown (t u : VolumeTable) (n : Name) (r : Row) : Type 0 where
    pub there : rows u n ≡ Some (record r { hidden = false })
    pub others : (m : Name) → m ≢ n → rows u m ≡ rows t m
    pub small : IsSmall count u

  pub show_where : (t : VolumeTable) (n : Name) (r : Row) (b : Bool) → IsSmall count t → is_image n ≡ true → rows t n ≡ Some r → r.hidden ≡ b → May t (wanted b (Mark n Hidden false)) (λ u. IsShown t u n r)
  show_where t n r true small image there hidden =
      let allowed : Permits count t (Mark n Hidden false) = record { row = r; there = there; taking = image; otherwise = hidden } in
      let changes = changes_by_name count t (Mark n Hidden false) small.table allowed in
      let same = same_Some changes.does.0 r (sym changes.does.1 ∙ there) in
      record {
        may = may_one (Mark n Hidden false) extents small allowed tt;
        behind = record {
          there = changes.does.2 ∙ ap (λ (q : Row). Some (record q { hidden = false })) same;
          others = λ m away. changes.others m away;
          small = small_next (Mark n Hidden false) small allowed tt;
        };
      }
  show_where t n r false small image there hidden = record {
    may = tt;
    behind = record { there = there ∙ ap (λ h. Some (record r { hidden = h })) hidden; others = λ m away. refl; small = small };
  }

  -- ---- an image gets another name

  pub record IsMoved (t u : VolumeTable) (from to : Name) (r : Row) : Type 0 where
    pub there : rows u to ≡ Some (renamed to r)
    pub gone : rows u from ≡ None
    pub others : (m : Name) → m ≢ from → m ≢ to → rows u m ≡ rows t m
    pub small : IsSmall count u

  pub move_one : (t : VolumeTable) (from to : Name) (r : Row) → IsSmall count t → is_image from ≡ true → is_image to ≡ true → IsName to → rows t from ≡ Some r → rows t to ≡ None
      → May t (Rename from to ∷ []) (λ u. IsMoved t u from to r)
  move_one t from to r small image_from image_to named there free =
      let allowed : Permits count t (Rename from to) = record { row = r; there = there; name_proper = named; new_name = free; same_kind = inl (image_from, image_to) } in
      let changes = changes_by_name count t (Rename from to) small.table allowed in
      let same = same_Some changes.does.0 r (sym changes.does.1 ∙ there) in
      record {
        may = may_one (Rename from to) extents small allowed (image_from, image_to);
        behind = record {
          there = changes.does.4 ∙ ap (λ q. Some (renamed to q)) same;
          gone = changes.does.3;
          others = λ m a b. changes.others m (λ s. elim s [ inl e ↦ a e | inr e ↦ b e ]);
          small = small_next (Rename from to) small allowed (image_from, image_to);
        };
      }

  -- ---- one after the other

  pub then_may : {t : VolumeTable} {P Q : VolumeTable → Type 0} (xs ys : List Change) → May t xs P → (P (applied_all t xs) → May (applied_all t xs) ys Q) → May t (xs ++ ys) Q
  then_may {t} {P} {Q} xs ys first rest =
      let second = rest first.behind in
      record { may = may_join count t xs ys first.may second.may; behind = subst Q (sym (applied_append t xs ys)) second.behind }

  -- ---- the base is the disk's image again

  pub record IsGivenBack (t u : VolumeTable) (disk : List ℕ) (from : Name) (r : Row) : Type 0 where
    pub there : rows u (under_name from disk) ≡ Some (record r { name = under_name from disk; hidden = false })
    pub gone : rows u from ≡ None
    pub own_gone : Vhd disk ≢ under_name from disk → rows u (Vhd disk) ≡ None
    pub others : (m : Name) → m ≢ Vhd disk → m ≢ from → m ≢ under_name from disk → rows u m ≡ rows t m
    pub small : IsSmall count u

  pub give_back : (t : VolumeTable) (disk : List ℕ) (from : Name) (r : Row) (own hidden : Bool) → IsSmall count t → HasBase t disk from r → is_there t (Vhd disk) ≡ own → r.hidden ≡ hidden
      → May t (changes_of_base disk (Some from) own hidden) (λ u. IsGivenBack t u disk from r)
  give_back t disk from r own hidden small base is_own is_hidden =
      let to = under_name from disk in
      let xs = wanted own (Remove (Vhd disk)) in
      let ys = wanted hidden (Mark from Hidden false) in
      then_may xs (ys ++ Rename from to ∷ []) (remove_where t (Vhd disk) own small (λ e. let x = e in cc) is_own) (λ (gone : IsGone t (applied_all t xs) (Vhd disk)).
      let a = applied_all t xs in
      then_may ys (Rename from to ∷ []) (show_where a from r hidden gone.small base.image (gone.others from base.not_own ∙ base.there) is_hidden) (λ (shown : IsShown a (applied_all a ys) from r).
      let b = applied_all a ys in
      let free : rows b to ≡ None = shown.others to (λ e. base.not_to (sym e)) ∙ free_name gone base.kind in
      let moved = move_one b from to (record r { hidden = false }) shown.small base.image (to_image from) base.named shown.there free in
      record {
        may = moved.may;
        behind = record {
          there = moved.behind.there;
          gone = moved.behind.gone;
          own_gone = λ apart. moved.behind.others (Vhd disk) (λ e. base.not_own (sym e)) apart ∙ shown.others (Vhd disk) (λ e. base.not_own (sym e)) ∙ gone.gone;
          others = λ m not_own not_from not_to. moved.behind.others m not_from not_to ∙ shown.others m not_from ∙ gone.others m not_own;
          small = moved.behind.small;
        };
      }))
    where
      to_image : (n : Name) → is_image (under_name n disk) ≡ true
      to_image (Raw b) = refl
      to_image _ = refl

      free_name : {a : VolumeTable} → IsGone t a (Vhd disk) → (under_name from disk ≡ Vhd disk) ⊎ ((under_name from disk ≡ Raw disk) × (rows t (Raw disk) ≡ None)) → rows a (under_name from disk) ≡ None
      free_name {a} gone (inl is) = ap (rows a) is ∙ gone.gone
      free_name {a} gone (inr (is, none)) = ap (rows a) is ∙ gone.others (Raw disk) (λ e. let x = e in cc) ∙ none

-- ---- the changes, by what was looked for before the first

pub planned : (k : RoomyTable) (disk base twin : List ℕ) {k₁ k₂ k₃ k₄ : RoomyTable} {has_twin has_own hidden : Bool} {found : Option Name} → k₁ ≡ k → has_twin ≡ is_there (table_alone k₁) (Vhd twin) → k₂ ≡ k → has_own ≡ is_there (table_alone k₂) (Vhd disk)
    → k₃ ≡ k → found ≡ image_with (table_alone k₃) base → k₄ ≡ k → hidden ≡ is_marked (table_alone k₄) found
    → changes_back (table_alone k) (Clone disk base twin) ≡ wanted has_twin (Remove (Vhd twin)) ++ (changes_of_base disk found has_own hidden ++ Remove (Clone disk base twin) ∷ [])
planned k disk base twin {has_own = has_own} {hidden = hidden} {found = found} at₁ is_twin at₂ is_own at₃ is_found at₄ is_hidden =
    let t = table_alone k in
    let twin_there = is_twin ∙ ap (λ (x : RoomyTable). is_there (table_alone x) (Vhd twin)) at₁ in
    let own_there = is_own ∙ ap (λ (x : RoomyTable). is_there (table_alone x) (Vhd disk)) at₂ in
    let base_found = is_found ∙ ap (λ (x : RoomyTable). image_with (table_alone x) base) at₃ in
    let base_hidden = is_hidden ∙ ap (λ (x : RoomyTable). is_marked (table_alone x) found) at₄ in
    ap₂ (λ b cs. wanted b (Remove (Vhd twin)) ++ (cs ++ Remove (Clone disk base twin) ∷ [])) (sym twin_there)
    (ap (base_changes t disk) (sym base_found) ∙ as_changes found ∙ ap₂ (λ a b. changes_of_base disk found a b) (sym own_there) (sym base_hidden))
  where
    as_changes : (o : Option Name) → base_changes (table_alone k) disk o ≡ changes_of_base disk o (is_there (table_alone k) (Vhd disk)) (is_marked (table_alone k) o)
    as_changes None = refl
    as_changes (Some n) = refl
