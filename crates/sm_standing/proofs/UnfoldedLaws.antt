-- A table without the entry of a copy or of a link, beside the one with it: the same volumes but for the entry, so that what is said
-- of images, of stages and of where a UUID stands is the same.
use Rattle.std.proofs.Common.{◌≡◌, ◌≢◌, ◌⊎◌, inl, inr, ℕ, Bool, true, false, cond, not, ◌&&◌, ◌||◌, ◌==◌, List, [], ◌∷◌, ◌++◌, length, Option, Some, None, is_none, is_some, refl, sym, ap, ap₂, ◌∙◌, subst, nat_le}
use Rattle.std.specs.List.{filter, flat_map, find}
use Rattle.std.proofs.Math.Path.{fun_ext}
use Rattle.std.proofs.lemmas.Bool.{true≢false}
use Rattle.std.proofs.lemmas.Option.{none-some}
use Rattle.common_laws.specs.Lists.{In}
use Rattle.common_laws.proofs.Lists.{find-some}
use Rattle.sm_base.specs.Kinds.{is_image as is_data, is_entry}
use Rattle.sm_base.specs.declared.names.Name.{Name}
use Rattle.sm_base.specs.declared.names.Name.TheVariants.{Mgt, Vhd, Raw, Old, Cbt, Clone, Inflate, Coalesce, Relink, Leaf}
use Rattle.vg_meta.specs.Changes.{without}
use Rattle.vg_meta.specs.Tables.{VolumeTable, Row, name_eq, names_of, row_of, rows}
use Rattle.vg_meta.proofs.NameLaws.{name_eq-false, name_eq-other, name_eq-true}
use Rattle.vg_meta.proofs.RowLaws.{IsRising, row_of-without_other, row_of-without_same}
use Rattle.sm_standing.specs.Checks.{has_twin}
use Rattle.sm_standing.specs.Contents.{Content}
use Rattle.sm_standing.specs.Entries.{image_with, is_folding, is_fork_begun, is_fork_made, is_hidden, is_inflating, is_making, is_there, making, of_row}
use Rattle.sm_standing.specs.Images.{image_of}
use Rattle.sm_standing.specs.Plain.{is_known_name}
use Rattle.sm_standing.specs.Standing.{candidates, stands_folded, stands_plainly}
use Rattle.sm_standing.proofs.VolumeLists.{names_without}

-- the entry of a copy or of a link is no image, stands for no disk, and makes nothing
pub record IsFold (e : Name) : Type 0 where
  pub known : is_known_name e ≡ true
  pub folds : is_folding e ≡ true
  pub makes : is_making e ≡ false
  pub no_image : is_data e ≡ false
  pub entry : is_entry e ≡ true
  pub none : candidates e ≡ []
  pub shows : (c : Content) → image_of c e ≡ None
  pub stands : (t : VolumeTable) (u : List ℕ) (o : Option Name) → stands_folded t e u o ≡ o

pub fold_copy : (child parent : List ℕ) → IsFold (Coalesce child parent)
unfolding image_of
fold_copy child parent = record { known = refl; folds = refl; makes = refl; no_image = refl; entry = refl; none = refl; shows = λ c. refl; stands = λ t u o. refl }

pub fold_link : (child parent : List ℕ) → IsFold (Relink child parent)
unfolding image_of
fold_link child parent = record { known = refl; folds = refl; makes = refl; no_image = refl; entry = refl; none = refl; shows = λ c. refl; stands = λ t u o. refl }

-- any other name is another
pub other_name : (e : Name) → IsFold e → (n : Name) → is_folding n ≡ false → name_eq n e ≡ false
other_name e f n none = name_eq-other n e (λ same. true≢false (sym f.folds ∙ sym (ap is_folding same) ∙ none))

-- the table with this sequence number, without the entry
abbrev pub bare_at : Name → ℕ → VolumeTable → VolumeTable
bare_at e sequence t = record { sequence = sequence; volumes = without e t.volumes }

-- ---- lists

module _ (e : Name) where
  pub In-bare : (rs : List Row) (r : Row) → In r (without e rs) → In r rs
  unfolding without
  In-bare [] r i = i
  In-bare (s ∷ rs) r i = by (name_eq s.name e) i (λ j. In-bare rs r j)
    where
      by : (b : Bool) → In r (cond b rs (s ∷ without e rs)) → (In r (without e rs) → In r rs) → In r (s ∷ rs)
      by true i rest = inr i
      by false (inl is) rest = inl is
      by false (inr i) rest = inr (rest i)

  pub In-or : (rs : List Row) (r : Row) → In r rs → (r.name ≡ e) ⊎ In r (without e rs)
  unfolding without
  In-or [] r i = absurd i
  In-or (s ∷ rs) r i = by (name_eq s.name e) refl i (λ j. In-or rs r j)
    where
      later : (r.name ≡ e) ⊎ In r (without e rs) → (r.name ≡ e) ⊎ ((r ≡ s) ⊎ In r (without e rs))
      later (inl is) = inl is
      later (inr j) = inr (inr j)

      by : (b : Bool) → name_eq s.name e ≡ b → (r ≡ s) ⊎ In r rs → (In r rs → (r.name ≡ e) ⊎ In r (without e rs)) → (r.name ≡ e) ⊎ In r (cond b rs (s ∷ without e rs))
      by true at (inl is) rest = inl (ap (λ (x : Row). x.name) is ∙ name_eq-true s.name e at)
      by true at (inr j) rest = inr j
      by false at (inl is) rest = inr (inl is)
      by false at (inr j) rest = later (rest j)

  pub filter_bare : (test : Row → Bool) → ((r : Row) → r.name ≡ e → test r ≡ false) → (rs : List Row) → filter test (without e rs) ≡ filter test rs
  unfolding without
  filter_bare test none [] = refl
  filter_bare test none (s ∷ rs) = by (name_eq s.name e) refl (filter_bare test none rs)
    where
      by : (b : Bool) → name_eq s.name e ≡ b → filter test (without e rs) ≡ filter test rs → filter test (cond b rs (s ∷ without e rs)) ≡ filter test (s ∷ rs)
      by true at rest = sym (ap (λ k. cond k (s ∷ filter test rs) (filter test rs)) (none s (name_eq-true s.name e at)))
      by false at rest = ap (λ xs. cond (test s) (s ∷ xs) xs) rest

  pub flat_bare : {A : Type 0} (f : Row → List A) → ((r : Row) → r.name ≡ e → f r ≡ []) → (rs : List Row) → flat_map f (without e rs) ≡ flat_map f rs
  unfolding without
  flat_bare f none [] = refl
  flat_bare f none (s ∷ rs) = by (name_eq s.name e) refl (flat_bare f none rs)
    where
      by : (b : Bool) → name_eq s.name e ≡ b → flat_map f (without e rs) ≡ flat_map f rs → flat_map f (cond b rs (s ∷ without e rs)) ≡ flat_map f (s ∷ rs)
      by true at rest = sym (ap (λ xs. xs ++ flat_map f rs) (none s (name_eq-true s.name e at)))
      by false at rest = ap (λ xs. f s ++ xs) rest

  -- an entry that is there is the only one of its group where no other is
  pub alone : (test : Name → Bool) → test e ≡ true → (rs : List Row) (r : Row) → row_of rs e ≡ Some r → filter test (names_of (without e rs)) ≡ [] → filter test (names_of rs) ≡ e ∷ []
  unfolding without row_of
  alone test is [] r there none = absurd (none-some r there)
  alone test is (s ∷ rs) r there none = by (name_eq s.name e) refl there none (λ h n. alone test is rs r h n)
    where
      other : (b : Bool) → cond b (s.name ∷ filter test (names_of (without e rs))) (filter test (names_of (without e rs))) ≡ []
          → (filter test (names_of (without e rs)) ≡ [] → filter test (names_of rs) ≡ e ∷ []) → cond b (s.name ∷ filter test (names_of rs)) (filter test (names_of rs)) ≡ e ∷ []
      other true h rest = absurd (let x = h in cc)
      other false h rest = rest h

      by : (b : Bool) → name_eq s.name e ≡ b → cond b (Some s) (row_of rs e) ≡ Some r → filter test (names_of (cond b rs (s ∷ without e rs))) ≡ []
          → (row_of rs e ≡ Some r → filter test (names_of (without e rs)) ≡ [] → filter test (names_of rs) ≡ e ∷ []) → filter test (names_of (s ∷ rs)) ≡ e ∷ []
      by true at h n rest =
          let same = name_eq-true s.name e at in
          ap (λ b. cond b (s.name ∷ filter test (names_of rs)) (filter test (names_of rs))) (ap test same ∙ is) ∙ ap₂ (λ (x : Name) (xs : List Name). x ∷ xs) same n
      by false at h n rest = other (test s.name) n (rest h)

-- ---- one volume by its name

-- an image that has a UUID is no entry
pub image_apart : (t : VolumeTable) (base : List ℕ) (n : Name) → image_with t base ≡ Some n → is_folding n ≡ false
unfolding image_with
image_apart t base n is = by (find-some (is_there t) (Vhd base ∷ Raw base ∷ []) n is).0
  where
    by : In n (Vhd base ∷ Raw base ∷ []) → is_folding n ≡ false
    by (inl at) = ap is_folding at
    by (inr (inl at)) = ap is_folding at
    by (inr (inr none)) = absurd none

-- the volumes by name, but for entries of copies, links and leaves
abbrev pub view : List Row → Name → Option Row
view rs n = cond (is_folding n) None (row_of rs n)

abbrev begun_by : (Name → Option Row) → List ℕ → List ℕ → List ℕ → Bool
begun_by f disk base twin =
    not (not (length (filter (λ n. is_some (f n)) (Vhd base ∷ Raw base ∷ Old base ∷ [])) == 0))
    && (not (not (length (filter (λ n. is_some (f n)) (Vhd twin ∷ Raw twin ∷ Old twin ∷ [])) == 0))
    && ((length (filter (λ n. is_some (f n)) (Vhd disk ∷ Raw disk ∷ Old disk ∷ [])) == 1)
    && (of_row (λ r. not r.hidden && not r.fresh) (f (Vhd disk)) || (of_row (λ r. not r.hidden && not r.fresh) (f (Raw disk)) || of_row (λ r. not r.hidden && not r.fresh) (f (Old disk))))))

abbrev made_by : (Name → Option Row) → List ℕ → List ℕ → List ℕ → Bool
made_by f disk base twin =
    (of_row (λ r. not r.fresh) (f (Vhd base)) || of_row (λ r. not r.fresh) (f (Raw base)))
    && (not (is_some (f (Raw disk)))
    && (not (is_some (f (Raw twin)))
    && ((is_none (f (Vhd disk)) || of_row (λ r. not r.hidden) (f (Vhd disk)))
    && ((is_none (f (Vhd twin)) || of_row (λ r. not r.hidden) (f (Vhd twin)))
    && ((not (is_some (f (Vhd disk))) && not (is_some (f (Vhd twin)))) || (of_row (λ r. r.hidden && not r.fresh) (f (Vhd base)) || of_row (λ r. r.hidden && not r.fresh) (f (Raw base))))))))

module _ (e : Name) (f : IsFold e) (t : VolumeTable) (sequence : ℕ) where
  abbrev d : VolumeTable
  d = bare_at e sequence t

  pub away : (n : Name) → is_folding n ≡ false → e ≢ n
  away n none is = true≢false (sym f.folds ∙ ap is_folding is ∙ none)

  pub rows_bare : (n : Name) → is_folding n ≡ false → rows d n ≡ rows t n
  rows_bare n none = row_of-without_other t.volumes e n (away n none)

  pub there_bare : IsRising t.volumes → (n : Name) → is_there t n ≡ false → is_there d n ≡ false
  there_bare rising n none = by (name_eq e n) refl
    where
      by : (b : Bool) → name_eq e n ≡ b → is_there d n ≡ false
      by true is = ap is_some (subst (λ m. row_of (without e t.volumes) m ≡ None) (name_eq-true e n is) (row_of-without_same t.volumes e rising))
      by false is = ap is_some (row_of-without_other t.volumes e n (name_eq-false e n is)) ∙ none

  pub making_bare : making d ≡ making t
  making_bare = names_without is_making e t.volumes f.makes

  view_bare : view d.volumes ≡ view t.volumes
  view_bare = fun_ext (λ n. by n (is_folding n) refl)
    where
      by : (n : Name) (b : Bool) → is_folding n ≡ b → cond b None (row_of d.volumes n) ≡ cond b None (row_of t.volumes n)
      by n true is = refl
      by n false is = rows_bare n is

  pub begun_bare : (disk base twin : List ℕ) → is_fork_begun d disk base twin ≡ is_fork_begun t disk base twin
  begun_bare disk base twin = ap (λ g. begun_by g disk base twin) view_bare

  pub made_bare : (disk base twin : List ℕ) → is_fork_made d disk base twin ≡ is_fork_made t disk base twin
  made_bare disk base twin = ap (λ g. made_by g disk base twin) view_bare

  pub inflating_bare : (u : List ℕ) (extents : ℕ) → is_inflating d u extents ≡ is_inflating t u extents
  inflating_bare u extents = ap (of_row (λ r. not r.fresh && nat_le extents (length r.extents))) (rows_bare (Vhd u) refl)

  pub image_bare : (u : List ℕ) → image_with d u ≡ image_with t u
  unfolding image_with
  image_bare u = ap (λ g. find (λ n. is_some (g n)) (Vhd u ∷ Raw u ∷ [])) view_bare

  pub stands_bare : (u : List ℕ) → stands_plainly d u ≡ stands_plainly t u
  stands_bare u = ap (λ g. find (λ n. of_row (λ r. not r.hidden && not r.fresh) (g n)) (Vhd u ∷ Raw u ∷ [])) view_bare

  pub hidden_bare : (n : Name) → is_folding n ≡ false → is_hidden d n ≡ is_hidden t n
  hidden_bare n none = ap (of_row (λ r. r.hidden && not r.fresh)) (rows_bare n none)

  pub twin_bare : (n : Name) → has_twin d n ≡ has_twin t n
  twin_bare (Vhd u) = ap is_some (rows_bare (Raw u) refl)
  twin_bare (Raw u) = ap is_some (rows_bare (Vhd u) refl)
  twin_bare Mgt = refl
  twin_bare (Old u) = refl
  twin_bare (Cbt u) = refl
  twin_bare (Clone x y z) = refl
  twin_bare (Inflate x y) = refl
  twin_bare (Coalesce x y) = refl
  twin_bare (Relink x y) = refl
  twin_bare (Leaf x y) = refl
