-- The table without an enlargement: its volumes are those of the table in the extents in which their images are read, without
-- the entry.
use Rattle.std.proofs.Common.{◌≡◌, ◌≢◌, ◌⊎◌, inl, inr, ℕ, Bool, true, false, cond, List, [], ◌∷◌, length, map, take, ◌*◌, ◌≤◌, arith, Option, Some, None, refl, sym, ap, ap₂, ◌∙◌, subst, arith}
use Rattle.std.specs.Prelude.{option_map}
use Rattle.std.specs.List.{AllByRecursion, filter_map, cons_option}
use Rattle.std.specs.List.Sorted.{IsStrictlySortedBy}
use Rattle.std.specs.Str.{bytes_eq}
use Rattle.std.specs.declared.cmp.Ordering.TheVariants.{Less}
use Rattle.std.proofs.lemmas.Bool.{true≢false}
use Rattle.std.proofs.lemmas.List.{take_all}
use Rattle.sm_base.specs.Names.{name_cmp}
use Rattle.sm_base.specs.declared.names.Name.{Name}
use Rattle.sm_base.specs.declared.names.Name.TheVariants.{Mgt, Vhd, Raw, Old, Cbt, Clone, Inflate, Coalesce, Relink, Leaf}
use Rattle.vg_meta.specs.Changes.{cut_to, with_row, without}
use Rattle.vg_meta.specs.Tables.{Row, VolumeTable, name_eq, names_of, row_of, rows}
use Rattle.vg_meta.proofs.NameLaws.{less_other, name_eq-false, name_eq-other, name_eq-true}
use Rattle.vg_meta.proofs.RowLaws.{IsRising, row_of-without_other}
use Rattle.common_laws.specs.Lists.{In, when}
use Rattle.common_laws.proofs.Bytes.{bytes_eq-refl, bytes_eq-same}
use Rattle.common_laws.proofs.Lists.{In-map}
use Rattle.sm_machine.specs.Shapes.{same_image}
use Rattle.sm_standing.specs.Entries.{head, is_making, making}
use Rattle.sm_standing.specs.Images.{image_extents}
use Rattle.sm_standing.specs.Opened.{applied_all, undone}
use Rattle.sm_standing.specs.Undone.{IsBeingEnlarged}
use Rattle.sm_standing.proofs.UndoneLaws.{undone_making, undone_volumes}
use Rattle.vg_volumes.specs.Sites.{Site, size_of}
use Rattle.vg_meta.specs.Tables.{extents_of}
use Rattle.vg_meta.proofs.RowLaws.{row_of-name}
use Rattle.sm_base.specs.Kinds.{is_image}
use Rattle.sm_base.proofs.NumberLemmas.{le-div_up}
use Rattle.vg_layout.specs.Places.{record_extents}
use Rattle.std.proofs.lemmas.Option.{none-some, same_Some}
use Rattle.sm_ready.proofs.EntryKinds.{image_not_making}
use Rattle.sm_ready.proofs.RowLaws.{found_in}
use Rattle.sm_standing.proofs.PlainDisks.{all-In}
use Rattle.sm_checks.specs.Loaded.{as_read, read_volumes, shortened, shortened_by}
use Rattle.sm_checks.proofs.EntryLaws.{IsStaged, changes_some, enlarged_found, head_alone, undone_applied}

-- an image is no entry
-- ---- a volume as its image is read

-- an entry speaks of the image of a name by it
pub own_name : (u : List ℕ) (n : Name) → same_image (Vhd u) n ≡ name_eq n (Vhd u)
unfolding same_image name_eq
own_name u (Vhd v) = by (bytes_eq u v) (bytes_eq v u) refl refl
  where
    by : (a b : Bool) → bytes_eq u v ≡ a → bytes_eq v u ≡ b → a ≡ b
    by true true is back = refl
    by false false is back = refl
    by true false is back = absurd (true≢false (sym (bytes_eq-refl v) ∙ ap (bytes_eq v) (sym (bytes_eq-same u v is)) ∙ back))
    by false true is back = absurd (true≢false (sym (bytes_eq-refl u) ∙ ap (bytes_eq u) (sym (bytes_eq-same v u back)) ∙ is))
own_name u Mgt = refl
own_name u (Raw v) = refl
own_name u (Old v) = refl
own_name u (Cbt v) = refl
own_name u (Clone d b t) = refl
own_name u (Inflate v k) = refl
own_name u (Coalesce v p) = refl
own_name u (Relink v p) = refl
own_name u (Leaf v p) = refl

-- in all its extents it is as it is
whole : (r : Row) → record r { extents = take (length r.extents) r.extents } ≡ r
whole r = ap (λ es. record r { extents = es }) (take_all (length r.extents) r.extents (omega arith))

module _ (u : List ℕ) (e : ℕ) where
  abbrev cut_row : Row → Row
  cut_row r = when (name_eq r.name (Vhd u)) (cut_to e) r

  read_one : (r : Row) → as_read (Inflate u e ∷ []) r ≡ cut_row r
  read_one r = ap (λ b. record r { extents = take (cond b e (length r.extents)) r.extents }) (own_name u r.name) ∙ by (name_eq r.name (Vhd u))
    where
      by : (b : Bool) → record r { extents = take (cond b e (length r.extents)) r.extents } ≡ when b (cut_to e) r
      by true = refl
      by false = whole r

  behind_others : (m : Name) (rs : List Row) → m ≡ Vhd u → AllByRecursion (λ (k : Name). name_cmp m k ≡ Less) (names_of rs) → map cut_row rs ≡ rs
  behind_others m [] is all = refl
  behind_others m (r ∷ rs) is all =
      ap₂ (λ x xs. x ∷ xs) (ap (λ b. when b (cut_to e) r) (name_eq-other r.name (Vhd u) (λ same. less_other m r.name all.0 (is ∙ sym same)))) (behind_others m rs is all.1)

  -- one change of the first volume of a name
  cut_mapped : (rs : List Row) → IsRising rs → with_row (Vhd u) (cut_to e) rs ≡ map cut_row rs
  unfolding IsStrictlySortedBy with_row
  cut_mapped [] rising = refl
  cut_mapped (r ∷ rs) rising = by (name_eq r.name (Vhd u)) refl (cut_mapped rs rising.1)
    where
      by : (b : Bool) → name_eq r.name (Vhd u) ≡ b → with_row (Vhd u) (cut_to e) rs ≡ map cut_row rs → cond b (cut_to e r ∷ rs) (r ∷ with_row (Vhd u) (cut_to e) rs) ≡ when b (cut_to e) r ∷ map cut_row rs
      by true is rest = ap (λ qs. cut_to e r ∷ qs) (sym (behind_others r.name rs (name_eq-true r.name (Vhd u) is) rising.0))
      by false is rest = ap (λ qs. r ∷ qs) rest

map_same : (f g : Row → Row) (rs : List Row) → ((r : Row) → In r rs → f r ≡ g r) → map f rs ≡ map g rs
map_same f g [] same = refl
map_same f g (r ∷ rs) same = ap₂ (λ x xs. x ∷ xs) (same r (inl refl)) (map_same f g rs (λ s i. same s (inr i)))

map_none : (f : Row → Row) (rs : List Row) → ((r : Row) → In r rs → f r ≡ r) → map f rs ≡ rs
map_none f [] none = refl
map_none f (r ∷ rs) none = ap₂ (λ x xs. x ∷ xs) (none r (inl refl)) (map_none f rs (λ s i. none s (inr i)))

-- no entry speaks of another kind
other_entry : (e n : Name) (all : ℕ) → ((u : List ℕ) → n ≢ Vhd u) → image_extents (e ∷ []) n all ≡ all
unfolding same_image
other_entry (Inflate u k) n all other = ap (λ b. cond b k all) (own_name u n ∙ name_eq-other n (Vhd u) (other u))
other_entry Mgt n all other = refl
other_entry (Vhd v) n all other = refl
other_entry (Raw v) n all other = refl
other_entry (Old v) n all other = refl
other_entry (Cbt v) n all other = refl
other_entry (Clone d b t) n all other = refl
other_entry (Coalesce v p) n all other = refl
other_entry (Relink v p) n all other = refl
other_entry (Leaf v p) n all other = refl

pub other_extents : (ns : List Name) (n : Name) (all : ℕ) → ((u : List ℕ) → n ≢ Vhd u) → image_extents ns n all ≡ all
other_extents [] n all other = refl
other_extents (e ∷ ns) n all other = other_entry e n all other

pub other_whole : (ns : List Name) (r : Row) → image_extents ns r.name (length r.extents) ≡ length r.extents → as_read ns r ≡ r
other_whole ns r all = ap (λ n. record r { extents = take n r.extents }) all ∙ whole r

-- a table that tells of no enlargement: each volume is read as it is
pub record IsWhole (t : VolumeTable) : Type 0 where
  pub table : shortened t ≡ t
  pub extents : (n : Name) (all : ℕ) → image_extents (making t) n all ≡ all

pub read_whole : (t : VolumeTable) → IsWhole t → read_volumes t ≡ t.volumes
read_whole t k = map_none (as_read (making t)) t.volumes (λ r i. other_whole (making t) r (k.extents r.name (length r.extents)))

pub whole_alone : (t : VolumeTable) (n : Name) → making t ≡ n ∷ [] → ((u : List ℕ) (e : ℕ) → n ≢ Inflate u e) → IsWhole t
unfolding shortened
whole_alone t n is other = by n is other
  where
    by : (n : Name) → making t ≡ n ∷ [] → ((u : List ℕ) (e : ℕ) → n ≢ Inflate u e) → IsWhole t
    by (Inflate u e) is other = absurd (other u e refl)
    by Mgt is other = record { table = ap (λ ns. shortened_by t (head ns)) is; extents = λ m all. ap (λ ns. image_extents ns m all) is }
    by (Vhd u) is other = record { table = ap (λ ns. shortened_by t (head ns)) is; extents = λ m all. ap (λ ns. image_extents ns m all) is }
    by (Raw u) is other = record { table = ap (λ ns. shortened_by t (head ns)) is; extents = λ m all. ap (λ ns. image_extents ns m all) is }
    by (Old u) is other = record { table = ap (λ ns. shortened_by t (head ns)) is; extents = λ m all. ap (λ ns. image_extents ns m all) is }
    by (Cbt u) is other = record { table = ap (λ ns. shortened_by t (head ns)) is; extents = λ m all. ap (λ ns. image_extents ns m all) is }
    by (Clone d b w) is other = record { table = ap (λ ns. shortened_by t (head ns)) is; extents = λ m all. ap (λ ns. image_extents ns m all) is }
    by (Coalesce v p) is other = record { table = ap (λ ns. shortened_by t (head ns)) is; extents = λ m all. ap (λ ns. image_extents ns m all) is }
    by (Relink v p) is other = record { table = ap (λ ns. shortened_by t (head ns)) is; extents = λ m all. ap (λ ns. image_extents ns m all) is }
    by (Leaf l p) is other = record { table = ap (λ ns. shortened_by t (head ns)) is; extents = λ m all. ap (λ ns. image_extents ns m all) is }

pub whole_none : (t : VolumeTable) → making t ≡ [] → IsWhole t
unfolding shortened
whole_none t none = record { table = ap (λ ns. shortened_by t (head ns)) none; extents = λ m all. ap (λ ns. image_extents ns m all) none }

-- and one that does: it is what is undone
pub shortened_undone : (t : VolumeTable) (u : List ℕ) (e : ℕ) → making t ≡ Inflate u e ∷ [] → shortened t ≡ undone t
unfolding shortened
shortened_undone t u e is = ap (λ ns. shortened_by t (head ns)) is ∙ ap (applied_all t) (sym (changes_some t (Inflate u e) (ap head is))) ∙ sym (undone_applied t)

-- ---- the volumes of a table without one, and with each one changed

module _ (f : Row → Row) (named : (r : Row) → (f r).name ≡ r.name) where
  pub names_mapped : (rs : List Row) → names_of (map f rs) ≡ names_of rs
  names_mapped [] = refl
  names_mapped (r ∷ rs) = ap₂ (λ x xs. x ∷ xs) (named r) (names_mapped rs)

  pub row_of_mapped : (rs : List Row) (n : Name) → row_of (map f rs) n ≡ option_map f (row_of rs n)
  unfolding row_of
  row_of_mapped [] n = refl
  row_of_mapped (r ∷ rs) n = ap (λ k. cond (name_eq k n) (Some (f r)) (row_of (map f rs) n)) (named r) ∙ by (name_eq r.name n) (row_of_mapped rs n)
    where
      by : (b : Bool) → row_of (map f rs) n ≡ option_map f (row_of rs n) → cond b (Some (f r)) (row_of (map f rs) n) ≡ option_map f (cond b (Some r) (row_of rs n))
      by true rest = refl
      by false rest = rest

pub In-without : (n : Name) (rs : List Row) (r : Row) → In r (without n rs) → In r rs
unfolding without
In-without n [] r none = none
In-without n (s ∷ rs) r i = by (name_eq s.name n) i (In-without n rs r)
  where
    by : (b : Bool) → In r (cond b rs (s ∷ without n rs)) → (In r (without n rs) → In r rs) → In r (s ∷ rs)
    by true i rest = inr i
    by false (inl is) rest = inl is
    by false (inr i) rest = inr (rest i)

pub without-In : (n : Name) (rs : List Row) (r : Row) → In r rs → r.name ≢ n → In r (without n rs)
unfolding without
without-In n [] r none other = none
without-In n (s ∷ rs) r i other = by (name_eq s.name n) refl i (λ j. without-In n rs r j other)
  where
    by : (b : Bool) → name_eq s.name n ≡ b → In r (s ∷ rs) → (In r rs → In r (without n rs)) → In r (cond b rs (s ∷ without n rs))
    by true is (inl same) rest = absurd (other (ap (λ (x : Row). x.name) same ∙ name_eq-true s.name n is))
    by true is (inr i) rest = i
    by false is (inl same) rest = inl same
    by false is (inr i) rest = inr (rest i)

-- none of its name is left
pub without_others : (n : Name) (rs : List Row) (r : Row) → IsRising rs → In r (without n rs) → r.name ≢ n
unfolding without IsStrictlySortedBy
without_others n [] r rising none = absurd none
without_others n (s ∷ rs) r rising i = by (name_eq s.name n) refl i (λ j. without_others n rs r rising.1 j)
  where
    by : (b : Bool) → name_eq s.name n ≡ b → In r (cond b rs (s ∷ without n rs)) → (In r (without n rs) → r.name ≢ n) → r.name ≢ n
    by true is i rest = λ same. less_other s.name r.name (all-In (λ (q : Row). name_cmp s.name q.name ≡ Less) rs r (by_rows rs rising.0) i) (name_eq-true s.name n is ∙ sym same)
      where
        by_rows : (qs : List Row) → AllByRecursion (λ (m : Name). name_cmp s.name m ≡ Less) (names_of qs) → AllByRecursion (λ (q : Row). name_cmp s.name q.name ≡ Less) qs
        by_rows [] all = tt
        by_rows (q ∷ qs) all = (all.0, by_rows qs all.1)
    by false is (inl same) rest = λ e. name_eq-false s.name n is (ap (λ (x : Row). x.name) (sym same) ∙ e)
    by false is (inr i) rest = rest i

-- ---- the table without an enlargement

-- no volume of a name that is no entry's
not_entry : (u : List ℕ) (e : ℕ) (n : Name) → is_making n ≡ false → n ≢ Inflate u e
not_entry u e n no_entry is = true≢false (sym (ap is_making is) ∙ no_entry)

-- what becomes of its volumes is as of those that are read: the entry gives nothing
module _ {B : Type 0} (f : Row → Option B) where
  pub filtered_without : (n : Name) (rs : List Row) → ((r : Row) → r.name ≡ n → f r ≡ None) → filter_map f (without n rs) ≡ filter_map f rs
  unfolding without
  filtered_without n [] none = refl
  filtered_without n (r ∷ rs) none = by (name_eq r.name n) refl (filtered_without n rs none)
    where
      by : (b : Bool) → name_eq r.name n ≡ b → filter_map f (without n rs) ≡ filter_map f rs → filter_map f (cond b rs (r ∷ without n rs)) ≡ filter_map f (r ∷ rs)
      by true is rest = sym (ap (λ o. cons_option o (filter_map f rs)) (none r (name_eq-true r.name n is)))
      by false is rest = ap (cons_option (f r)) rest

module _ {t : VolumeTable} {u : List ℕ} {e : ℕ} (w : IsBeingEnlarged t u e) (rising : IsRising t.volumes) where
  read_is : read_volumes t ≡ with_row (Vhd u) (cut_to e) t.volumes
  read_is = ap (λ ns. map (as_read ns) t.volumes) w.entry ∙ map_same (as_read (Inflate u e ∷ [])) (cut_row u e) t.volumes (λ r i. read_one u e r) ∙ sym (cut_mapped u e t.volumes rising)

  short : shortened t ≡ undone t
  short = shortened_undone t u e w.entry

  short_read : (shortened t).volumes ≡ without (Inflate u e) (read_volumes t)
  short_read = ap (λ (x : VolumeTable). x.volumes) short ∙ undone_volumes t u e w ∙ ap (without (Inflate u e)) (sym read_is)

read_name : (ns : List Name) (r : Row) → (as_read ns r).name ≡ r.name
read_name ns r = refl

module _ {s : Site} {t : VolumeTable} (c : IsStaged s t) where
  rising : IsRising t.volumes
  rising = c.table.volumes.rising

  abbrev pub Cases : Type 0
  Cases = IsWhole t ⊎ ((u : List ℕ) × (e : ℕ) × IsBeingEnlarged t u e)

  pub cases : Cases
  cases = by (head (making t)) refl
    where
      of : (n : Name) → head (making t) ≡ Some n → Cases
      of (Inflate u e) found = inr (u, e, enlarged_found u e c found)
      of Mgt found = inl (whole_alone t Mgt (head_alone (making t) Mgt found c.one_entry) (λ v k is. let x = is in cc))
      of (Vhd v) found = inl (whole_alone t (Vhd v) (head_alone (making t) (Vhd v) found c.one_entry) (λ u k is. let x = is in cc))
      of (Raw v) found = inl (whole_alone t (Raw v) (head_alone (making t) (Raw v) found c.one_entry) (λ u k is. let x = is in cc))
      of (Old v) found = inl (whole_alone t (Old v) (head_alone (making t) (Old v) found c.one_entry) (λ u k is. let x = is in cc))
      of (Cbt v) found = inl (whole_alone t (Cbt v) (head_alone (making t) (Cbt v) found c.one_entry) (λ u k is. let x = is in cc))
      of (Clone d b w) found = inl (whole_alone t (Clone d b w) (head_alone (making t) (Clone d b w) found c.one_entry) (λ u k is. let x = is in cc))
      of (Coalesce v p) found = inl (whole_alone t (Coalesce v p) (head_alone (making t) (Coalesce v p) found c.one_entry) (λ u k is. let x = is in cc))
      of (Relink v p) found = inl (whole_alone t (Relink v p) (head_alone (making t) (Relink v p) found c.one_entry) (λ u k is. let x = is in cc))
      of (Leaf l p) found = inl (whole_alone t (Leaf l p) (head_alone (making t) (Leaf l p) found c.one_entry) (λ u k is. let x = is in cc))

      nothing : (ns : List Name) → head ns ≡ None → ns ≡ []
      nothing [] none = refl
      nothing (n ∷ ns) none = absurd (none-some n (sym none))

      by : (o : Option Name) → head (making t) ≡ o → Cases
      by None none = inl (whole_none t (nothing (making t) none))
      by (Some n) found = of n found

  read_rising : IsRising (read_volumes t)
  read_rising = subst (IsStrictlySortedBy name_cmp) (sym (names_mapped (as_read (making t)) (read_name (making t)) t.volumes)) rising

  -- a volume of it is one from before, as its image is read
  pub record IsFrom (r : Row) : Type 0 where
    pub volume : Row
    pub there : In volume t.volumes
    pub is : r ≡ as_read (making t) volume

  pub short_in : (r : Row) → In r (shortened t).volumes → In r (read_volumes t)
  short_in r i = by cases
    where
      by : Cases → In r (read_volumes t)
      by (inl k) = subst (In r) (ap (λ (x : VolumeTable). x.volumes) k.table ∙ sym (read_whole t k)) i
      by (inr (u, e, w)) = In-without (Inflate u e) (read_volumes t) r (subst (In r) (short_read w rising) i)

  pub short_from : (r : Row) → In r (shortened t).volumes → IsFrom r
  short_from r i = let q = In-map (as_read (making t)) t.volumes r (short_in r i) in record { volume = q.0; there = q.1; is = q.2 }

  -- what its volumes give
  pub short_filtered : {B : Type 0} (f : Row → Option B) → ((r : Row) → is_making r.name ≡ true → f r ≡ None) → filter_map f (shortened t).volumes ≡ filter_map f (read_volumes t)
  short_filtered f nothing = by cases
    where
      by : Cases → filter_map f (shortened t).volumes ≡ filter_map f (read_volumes t)
      by (inl k) = ap (filter_map f) (ap (λ (x : VolumeTable). x.volumes) k.table ∙ sym (read_whole t k))
      by (inr (u, e, w)) = ap (filter_map f) (short_read w rising) ∙ filtered_without f (Inflate u e) (read_volumes t) (λ r is. nothing r (ap is_making is))

  -- by name
  pub short_row : (n : Name) → is_making n ≡ false → rows (shortened t) n ≡ option_map (as_read (making t)) (rows t n)
  short_row n no_entry = by cases
    where
      read_row : row_of (read_volumes t) n ≡ option_map (as_read (making t)) (rows t n)
      read_row = row_of_mapped (as_read (making t)) (read_name (making t)) t.volumes n

      by : Cases → rows (shortened t) n ≡ option_map (as_read (making t)) (rows t n)
      by (inl k) = ap (λ (x : VolumeTable). rows x n) k.table ∙ ap (λ rs. row_of rs n) (sym (read_whole t k)) ∙ read_row
      by (inr (u, e, w)) =
          ap (λ rs. row_of rs n) (short_read w rising) ∙ row_of-without_other (read_volumes t) (Inflate u e) n (λ is. not_entry u e n no_entry (sym is)) ∙ read_row

  -- its volume of records is the same
  pub records_short : rows (shortened t) Mgt ≡ rows t Mgt
  records_short = short_row Mgt refl ∙ by (rows t Mgt) refl
    where
      by : (o : Option Row) → rows t Mgt ≡ o → option_map (as_read (making t)) o ≡ o
      by None is = refl
      by (Some r) is = ap Some (other_whole (making t) r (other_extents (making t) r.name (length r.extents) (λ u same. let x = sym (row_of-name t.volumes Mgt r is) ∙ same in cc)))

  pub short_sized : (n : Name) (all : ℕ) → image_extents (making (shortened t)) n all ≡ all
  short_sized n all = by cases
    where
      by : Cases → image_extents (making (shortened t)) n all ≡ all
      by (inl k) = ap (λ x. image_extents (making x) n all) k.table ∙ k.extents n all
      by (inr (u, e, w)) = ap (λ x. image_extents (making x) n all) (short w rising) ∙ ap (λ ns. image_extents ns n all) (undone_making t u e w)

  -- an image is read in extents that its volume has, and in one at least
  read_by : (r : Row) → In r t.volumes → (P : ℕ → Type 0) → P (length r.extents) → ((u : List ℕ) (e : ℕ) → IsBeingEnlarged t u e → r.name ≡ Vhd u → P e) → P (image_extents (making t) r.name (length r.extents))
  read_by r i P all own = by cases
    where
      by : Cases → P (image_extents (making t) r.name (length r.extents))
      by (inl k) = subst P (sym (k.extents r.name (length r.extents))) all
      by (inr (u, e, w)) = subst (λ ns. P (image_extents ns r.name (length r.extents))) (sym w.entry) (chosen (same_image (Vhd u) r.name) refl)
        where
          chosen : (b : Bool) → same_image (Vhd u) r.name ≡ b → P (cond b e (length r.extents))
          chosen false is = all
          chosen true is = own u e w (name_eq-true r.name (Vhd u) (sym (own_name u r.name) ∙ is))

  pub read_within : (r : Row) → In r t.volumes → image_extents (making t) r.name (length r.extents) ≤ length r.extents
  read_within r i = read_by r i (λ k. k ≤ length r.extents) (omega arith) (λ u e w named.
      let same = same_Some w.own r (sym w.there ∙ ap (rows t) (sym named) ∙ found_in t.volumes c.table.volumes.rising r i) in
      subst (λ (q : Row). e ≤ length q.extents) same w.had)

  pub read_some : (r : Row) → In r t.volumes → 1 ≤ length r.extents → 1 ≤ image_extents (making t) r.name (length r.extents)
  read_some r i some = read_by r i (λ k. 1 ≤ k) some (λ u e w named. w.some)

  -- the volume of an image that is read is found
  pub found_read : (r : Row) → In r (read_volumes t) → is_image r.name ≡ true → rows (shortened t) r.name ≡ Some r
  found_read r i image =
      let q = In-map (as_read (making t)) t.volumes r i in
      let named : q.0.name ≡ r.name = ap (λ (x : Row). x.name) (sym q.2) in
      short_row r.name (image_not_making r.name image)
      ∙ ap (option_map (as_read (making t))) (ap (rows t) (sym named) ∙ found_in t.volumes c.table.volumes.rising q.0 q.1) ∙ ap Some (sym q.2)

-- the volume of records has room for all places
pub records_room : (s : Site) (t : VolumeTable) → length (extents_of (rows t Mgt)) ≡ record_extents s.geometry.extent → 512 ≤ size_of s t Mgt
unfolding record_extents
records_room s t long =
    subst (λ n. 512 ≤ n * s.geometry.extent) (sym long) (le-div_up 512 s.geometry.extent (omega (arith, s.geometry.in_range.extent_least)))
