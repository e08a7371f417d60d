-- Changes that speak of no entry of a copy or of a link, made one after the other: they leave it where it is, and all else as they
-- leave it where the entry is not there.
use Rattle.std.proofs.Common.{◌≡◌, ◌≢◌, ℕ, zero, suc, Less, Bool, true, false, cond, List, [], ◌∷◌, ◌++◌, take, Option, Some, None, is_some, refl, sym, ap, ap₂, ◌∙◌, subst}
use Rattle.std.specs.List.{AllByRecursion}
use Rattle.std.specs.List.Sorted.{IsStrictlySortedBy}
use Rattle.std.specs.Ordering.{is_lt}
use Rattle.std.proofs.lemmas.Bool.{true≢false}
use Rattle.sm_base.specs.Names.{name_cmp}
use Rattle.sm_base.proofs.OrderLemmas.{name_cmp_total}
use Rattle.sm_base.specs.declared.names.Name.{Name}
use Rattle.sm_base.specs.declared.names.Name.TheVariants.{Mgt, Vhd, Raw, Old, Cbt, Clone, Inflate, Coalesce, Relink, Leaf}
use Rattle.vg_meta.specs.Changes.{Permits, applied, changed, cut_to, put, put_some, raised, renamed, tagged, with_row, without}
use Rattle.vg_meta.specs.declared.changes.Change.{Change}
use Rattle.vg_meta.specs.declared.changes.Change.TheVariants.{Create, Remove, Rename, Grow, Cut, Mark}
use Rattle.vg_meta.specs.declared.changes.Tag.TheVariants.{Hidden}
use Rattle.vg_meta.specs.Tables.{VolumeTable, Row, IsTable, name_eq, row_of, rows}
use Rattle.vg_meta.proofs.ChangeLaws.{IsTable-applied, tagged_name}
use Rattle.vg_meta.proofs.NameLaws.{less_from, name_eq-true}
use Rattle.vg_meta.proofs.RowLaws.{All-names, All-put, All-rows, All-without, IsRising, names_of-with_row, rising-without, row_of-put_other, row_of-with_row_other, row_of-without_other}
use Rattle.sm_standing.specs.Entries.{head, image_with, is_folding, is_there, making, of_row}
use Rattle.sm_standing.specs.Opened.{applied_all, base_changes, changes_back, is_longer, under_name, undo_changes, wanted}
use Rattle.sm_standing.specs.Plain.{is_plain_name}
use Rattle.sm_standing.specs.Undone.{AllPermit}
use Rattle.sm_standing.proofs.UnfoldedLaws.{IsFold, bare_at, image_bare, image_apart, making_bare, other_name, rows_bare}

-- a change that speaks of no such entry, and gives no name but that of an image
abbrev pub Spares : Change → Type 0
Spares (Remove n) = is_folding n ≡ false
Spares (Cut n k) = is_folding n ≡ false
Spares (Mark n tag on) = is_folding n ≡ false
Spares (Rename n m) = (is_folding n ≡ false) × (is_plain_name m ≡ true)
Spares (Create n fresh es) = ⊥
Spares (Grow n es) = ⊥

abbrev pub AllSpare : List Change → Type 0
AllSpare cs = AllByRecursion Spares cs

pub plain_apart : (n : Name) → is_plain_name n ≡ true → is_folding n ≡ false
plain_apart Mgt is = refl
plain_apart (Vhd u) is = refl
plain_apart (Cbt u) is = refl
plain_apart (Raw u) is = refl
plain_apart _ is = absurd (true≢false (sym is))

-- ---- those that undo an enlargement or a fork

spare_wanted : (b : Bool) (x : Change) (cs : List Change) → Spares x → AllSpare cs → AllSpare (wanted b x ++ cs)
spare_wanted true x cs one all = (one, all)
spare_wanted false x cs one all = all

pub under_plain : (n : Name) (u : List ℕ) → is_plain_name (under_name n u) ≡ true
under_plain (Raw b) u = refl
under_plain Mgt u = refl
under_plain (Vhd x) u = refl
under_plain (Old x) u = refl
under_plain (Cbt x) u = refl
under_plain (Clone x y z) u = refl
under_plain (Inflate x y) u = refl
under_plain (Coalesce x y) u = refl
under_plain (Relink x y) u = refl
under_plain (Leaf x y) u = refl

spare_base : (t : VolumeTable) (disk : List ℕ) (o : Option Name) (x : Change) → ((n : Name) → o ≡ Some n → is_folding n ≡ false) → Spares x → AllSpare (base_changes t disk o ++ x ∷ [])
spare_base t disk None x other one = (one, tt)
spare_base t disk (Some b) x other one = by (is_there t (Vhd disk)) (of_row (λ r. r.hidden) (rows t b)) (other b refl)
  where
    by : (i j : Bool) → is_folding b ≡ false → AllSpare ((wanted i (Remove (Vhd disk)) ++ (wanted j (Mark b Hidden false) ++ Rename b (under_name b disk) ∷ [])) ++ x ∷ [])
    by true true apart = (refl, (apart, ((apart, under_plain b disk), (one, tt))))
    by true false apart = (refl, ((apart, under_plain b disk), (one, tt)))
    by false true apart = (apart, ((apart, under_plain b disk), (one, tt)))
    by false false apart = ((apart, under_plain b disk), (one, tt))

spare_back : (t : VolumeTable) (n : Name) → AllSpare (changes_back t n)
spare_back t (Inflate u extents) = spare_wanted (of_row (is_longer extents) (rows t (Vhd u))) (Cut (Vhd u) extents) (Remove (Inflate u extents) ∷ []) refl (refl, tt)
spare_back t (Clone disk base twin) =
    spare_wanted (is_there t (Vhd twin)) (Remove (Vhd twin)) (base_changes t disk (image_with t base) ++ Remove (Clone disk base twin) ∷ []) refl
    (spare_base t disk (image_with t base) (Remove (Clone disk base twin)) (image_apart t base) refl)
spare_back t Mgt = tt
spare_back t (Vhd x) = tt
spare_back t (Raw x) = tt
spare_back t (Old x) = tt
spare_back t (Cbt x) = tt
spare_back t (Coalesce x y) = tt
spare_back t (Relink x y) = tt
spare_back t (Leaf x y) = tt

pub undo_spares : (t : VolumeTable) → AllSpare (undo_changes t)
unfolding undo_changes
undo_spares t = by (head (making t))
  where
    by : (o : Option Name) → AllSpare (elim o as (λ _. List Change) [ None ↦ [] | Some n ↦ changes_back t n ])
    by None = tt
    by (Some n) = spare_back t n

pub take_spares : (k : ℕ) (cs : List Change) → AllSpare cs → AllSpare (take k cs)
take_spares zero cs all = tt
take_spares (suc k) [] all = tt
take_spares (suc k) (x ∷ cs) all = (all.0, take_spares k cs all.1)

-- ---- names

-- what holds of each name that there was, and of each of an image, holds of each that is left
module _ (P : Name → Type 0) (plain : (n : Name) → is_plain_name n ≡ true → P n) where
  changed_names : (rs : List Row) (x : Change) → Spares x → AllByRecursion (λ (r : Row). P r.name) rs → AllByRecursion (λ (r : Row). P r.name) (changed rs x)
  changed_names rs (Remove n) one all = All-without (λ r. P r.name) rs n all
  changed_names rs (Cut n k) one all =
      All-rows P (with_row n (cut_to k) rs) (subst (λ ns. AllByRecursion P ns) (sym (names_of-with_row rs n (cut_to k) (λ r. refl))) (All-names P rs all))
  changed_names rs (Mark n tag on) one all =
      All-rows P (with_row n (tagged tag on) rs) (subst (λ ns. AllByRecursion P ns) (sym (names_of-with_row rs n (tagged tag on) (tagged_name tag on))) (All-names P rs all))
  changed_names rs (Rename n m) one all = by (row_of rs n)
    where
      by : (o : Option Row) → AllByRecursion (λ (r : Row). P r.name) (put_some o (renamed m) (without n rs))
      by None = All-without (λ r. P r.name) rs n all
      by (Some r) = All-put (λ x. P x.name) (without n rs) (renamed m r) (plain m one.1) (All-without (λ x. P x.name) rs n all)
  changed_names rs (Create n fresh es) one all = absurd one
  changed_names rs (Grow n es) one all = absurd one

  pub names_run : (t : VolumeTable) (cs : List Change) → AllSpare cs → AllByRecursion (λ (r : Row). P r.name) t.volumes → AllByRecursion (λ (r : Row). P r.name) (applied_all t cs).volumes
  names_run t [] spare all = all
  names_run t (x ∷ cs) spare all = names_run (applied t x) cs spare.1 (changed_names t.volumes x spare.0 all)

-- ---- one change

module _ (e : Name) (f : IsFold e) where
  not_both : (r : Row) (n : Name) → is_folding n ≡ false → name_eq r.name n ≡ true → name_eq r.name e ≡ true → ⊥
  not_both r n none at is = true≢false (sym is ∙ ap (λ m. name_eq m e) (name_eq-true r.name n at) ∙ other_name e f n none)

  without_without : (rs : List Row) (n : Name) → is_folding n ≡ false → without e (without n rs) ≡ without n (without e rs)
  unfolding without
  without_without [] n none = refl
  without_without (r ∷ rs) n none = by (name_eq r.name n) (name_eq r.name e) refl refl (without_without rs n none)
    where
      by : (a b : Bool) → name_eq r.name n ≡ a → name_eq r.name e ≡ b → without e (without n rs) ≡ without n (without e rs) → without e (cond a rs (r ∷ without n rs)) ≡ without n (cond b rs (r ∷ without e rs))
      by true true at is rest = absurd (not_both r n none at is)
      by true false at is rest = sym (ap (λ k. cond k (without e rs) (r ∷ without n (without e rs))) at)
      by false true at is rest = ap (λ k. cond k (without n rs) (r ∷ without e (without n rs))) is
      by false false at is rest =
          ap (λ k. cond k (without n rs) (r ∷ without e (without n rs))) is ∙ ap (λ xs. r ∷ xs) rest ∙ sym (ap (λ k. cond k (without e rs) (r ∷ without n (without e rs))) at)

  without_with : (rs : List Row) (n : Name) (g : Row → Row) → is_folding n ≡ false → ((r : Row) → (g r).name ≡ r.name) → without e (with_row n g rs) ≡ with_row n g (without e rs)
  unfolding without with_row
  without_with [] n g none keeps = refl
  without_with (r ∷ rs) n g none keeps = by (name_eq r.name n) (name_eq r.name e) refl refl (without_with rs n g none keeps)
    where
      by : (a b : Bool) → name_eq r.name n ≡ a → name_eq r.name e ≡ b → without e (with_row n g rs) ≡ with_row n g (without e rs)
          → without e (cond a (g r ∷ rs) (r ∷ with_row n g rs)) ≡ with_row n g (cond b rs (r ∷ without e rs))
      by true true at is rest = absurd (not_both r n none at is)
      by true false at is rest =
          ap (λ k. cond k rs (g r ∷ without e rs)) (ap (λ m. name_eq m e) (keeps r) ∙ is) ∙ sym (ap (λ k. cond k (g r ∷ without e rs) (r ∷ with_row n g (without e rs))) at)
      by false true at is rest = ap (λ k. cond k (with_row n g rs) (r ∷ without e (with_row n g rs))) is
      by false false at is rest =
          ap (λ k. cond k (with_row n g rs) (r ∷ without e (with_row n g rs))) is ∙ ap (λ xs. r ∷ xs) rest ∙ sym (ap (λ k. cond k (g r ∷ without e rs) (r ∷ with_row n g (without e rs))) at)

  put_front : (x s : Row) (rs : List Row) → name_cmp x.name s.name ≡ Less → IsRising (s ∷ rs) → put x rs ≡ x ∷ rs
  unfolding put IsStrictlySortedBy
  put_front x s [] less rising = refl
  put_front x s (r ∷ rs) less rising = ap (λ o. cond (is_lt o) (x ∷ r ∷ rs) (r ∷ put x rs)) (name_cmp_total.trans x.name s.name r.name less rising.0.0)

  without_put : (rs : List Row) (x : Row) → name_eq x.name e ≡ false → IsRising rs → without e (put x rs) ≡ put x (without e rs)
  unfolding without put IsStrictlySortedBy
  without_put [] x apart rising = ap (λ k. cond k [] (x ∷ [])) apart
  without_put (r ∷ rs) x apart rising = by (is_lt (name_cmp x.name r.name)) (name_eq r.name e) refl refl (without_put rs x apart rising.1)
    where
      front : is_lt (name_cmp x.name r.name) ≡ true → put x rs ≡ x ∷ rs
      front is = put_front x r rs (less_from x.name r.name is) rising

      by : (a b : Bool) → is_lt (name_cmp x.name r.name) ≡ a → name_eq r.name e ≡ b → without e (put x rs) ≡ put x (without e rs)
          → without e (cond a (x ∷ r ∷ rs) (r ∷ put x rs)) ≡ put x (cond b rs (r ∷ without e rs))
      by true true at is rest =
          ap (λ k. cond k (r ∷ rs) (x ∷ cond (name_eq r.name e) rs (r ∷ without e rs))) apart ∙ ap (λ k. x ∷ cond k rs (r ∷ without e rs)) is ∙ sym (front at)
      by true false at is rest =
          ap (λ k. cond k (r ∷ rs) (x ∷ cond (name_eq r.name e) rs (r ∷ without e rs))) apart ∙ ap (λ k. x ∷ cond k rs (r ∷ without e rs)) is
          ∙ sym (ap (λ k. cond k (x ∷ r ∷ without e rs) (r ∷ put x (without e rs))) at)
      by false true at is rest = ap (λ k. cond k (put x rs) (r ∷ without e (put x rs))) is
      by false false at is rest =
          ap (λ k. cond k (put x rs) (r ∷ without e (put x rs))) is ∙ ap (λ xs. r ∷ xs) rest ∙ sym (ap (λ k. cond k (x ∷ r ∷ without e rs) (r ∷ put x (without e rs))) at)

  row_bare : (rs : List Row) (n : Name) → is_folding n ≡ false → row_of (without e rs) n ≡ row_of rs n
  row_bare rs n none = row_of-without_other rs e n (λ is. true≢false (sym f.folds ∙ ap is_folding is ∙ none))

  changed_bare : (rs : List Row) (x : Change) → Spares x → IsRising rs → without e (changed rs x) ≡ changed (without e rs) x
  changed_bare rs (Remove n) one rising = without_without rs n one
  changed_bare rs (Cut n k) one rising = without_with rs n (cut_to k) one (λ r. refl)
  changed_bare rs (Mark n tag on) one rising = without_with rs n (tagged tag on) one (tagged_name tag on)
  changed_bare rs (Rename n m) one rising = by (row_of rs n) ∙ ap₂ (λ o xs. put_some o (renamed m) xs) (sym (row_bare rs n one.0)) (without_without rs n one.0)
    where
      by : (o : Option Row) → without e (put_some o (renamed m) (without n rs)) ≡ put_some o (renamed m) (without e (without n rs))
      by None = refl
      by (Some r) = without_put (without n rs) (renamed m r) (other_name e f m (plain_apart m one.1)) (rising-without rs n rising)
  changed_bare rs (Create n fresh es) one rising = absurd one
  changed_bare rs (Grow n es) one rising = absurd one

  apart_from : (n : Name) → is_folding n ≡ false → n ≢ e
  apart_from n none is = true≢false (sym f.folds ∙ sym (ap is_folding is) ∙ none)

  -- the entry stays
  changed_row : (rs : List Row) (x : Change) → Spares x → row_of (changed rs x) e ≡ row_of rs e
  changed_row rs (Remove n) one = row_of-without_other rs n e (apart_from n one)
  changed_row rs (Cut n k) one = row_of-with_row_other rs n e (cut_to k) (λ r. refl) (apart_from n one)
  changed_row rs (Mark n tag on) one = row_of-with_row_other rs n e (tagged tag on) (tagged_name tag on) (apart_from n one)
  changed_row rs (Rename n m) one = by (row_of rs n) ∙ row_of-without_other rs n e (apart_from n one.0)
    where
      by : (o : Option Row) → row_of (put_some o (renamed m) (without n rs)) e ≡ row_of (without n rs) e
      by None = refl
      by (Some r) = row_of-put_other (without n rs) (renamed m r) e (apart_from m (plain_apart m one.1))
  changed_row rs (Create n fresh es) one = absurd one
  changed_row rs (Grow n es) one = absurd one

  -- what is allowed without it is allowed with it
  permits_with : (count : ℕ) (sequence : ℕ) (t : VolumeTable) (x : Change) → Spares x → Permits count (bare_at e sequence t) x → Permits count t x
  permits_with count sequence t (Remove n) one may = record { row = may.row; there = sym (row_bare t.volumes n one) ∙ may.there; not_mgt = may.not_mgt }
  permits_with count sequence t (Cut n k) one may =
      record { row = may.row; there = sym (row_bare t.volumes n one) ∙ may.there; image = may.image; some_kept = may.some_kept; some_gone = may.some_gone }
  permits_with count sequence t (Mark n tag on) one may = record { row = may.row; there = sym (row_bare t.volumes n one) ∙ may.there; taking = may.taking; otherwise = may.otherwise }
  permits_with count sequence t (Rename n m) one may = record {
    row = may.row;
    there = sym (row_bare t.volumes n one.0) ∙ may.there;
    name_proper = may.name_proper;
    new_name = sym (row_bare t.volumes m (plain_apart m one.1)) ∙ may.new_name;
    same_kind = may.same_kind;
  }
  permits_with count sequence t (Create n fresh es) one may = absurd one
  permits_with count sequence t (Grow n es) one may = absurd one

  -- ---- all of them

  -- the sequence number behind so many changes
  abbrev pub rise : ℕ → List Change → ℕ
  rise q [] = q
  rise q (x ∷ cs) = rise (raised q) cs

  pub rise_is : (t : VolumeTable) (cs : List Change) → (applied_all t cs).sequence ≡ rise t.sequence cs
  rise_is t [] = refl
  rise_is t (x ∷ cs) = rise_is (applied t x) cs

  pub rise_raised : (q : ℕ) (cs : List Change) → rise (raised q) cs ≡ raised (rise q cs)
  rise_raised q [] = refl
  rise_raised q (x ∷ cs) = rise_raised (raised q) cs

  -- with the entry they are allowed too; behind them it is still there, and all else is as they leave it without the entry
  pub record IsBesideRun (count q : ℕ) (t : VolumeTable) (cs : List Change) : Type 0 where
    pub permits : AllPermit count t cs
    pub table : IsTable count (applied_all t cs)
    pub there : rows (applied_all t cs) e ≡ rows t e
    pub same : applied_all (bare_at e q t) cs ≡ bare_at e (rise q cs) (applied_all t cs)

  pub beside_run : (count q : ℕ) (t : VolumeTable) (cs : List Change) → AllSpare cs → IsTable count t → AllPermit count (bare_at e q t) cs → IsBesideRun count q t cs
  beside_run count q t [] spare table may = record { permits = tt; table = table; there = refl; same = refl }
  beside_run count q t (x ∷ cs) spare table may =
      let one = permits_with count q t x spare.0 may.0 in
      let next : applied (bare_at e q t) x ≡ bare_at e (raised q) (applied t x) =
      ap (λ rs. record { sequence = raised q; volumes = rs }) (sym (changed_bare t.volumes x spare.0 table.volumes.rising)) in
      let rest = beside_run count (raised q) (applied t x) cs spare.1 (IsTable-applied count t x table one) (subst (λ y. AllPermit count y cs) next may.1) in
      record {
        permits = (one, rest.permits);
        table = rest.table;
        there = rest.there ∙ changed_row t.volumes x spare.0;
        same = ap (λ y. applied_all y cs) next ∙ rest.same;
      }

  pub take_permits : (count : ℕ) (t : VolumeTable) (k : ℕ) (cs : List Change) → AllPermit count t cs → AllPermit count t (take k cs)
  take_permits count t zero cs may = tt
  take_permits count t (suc k) [] may = tt
  take_permits count t (suc k) (x ∷ cs) may = (may.0, take_permits count (applied t x) k cs may.1)

  -- ---- those that undo an enlargement or a fork

  base_bare : (sequence : ℕ) (t : VolumeTable) (disk : List ℕ) (o : Option Name) → ((n : Name) → o ≡ Some n → is_folding n ≡ false) → base_changes (bare_at e sequence t) disk o ≡ base_changes t disk o
  base_bare sequence t disk None apart = refl
  base_bare sequence t disk (Some b) apart =
      ap₂ (λ x y. wanted x (Remove (Vhd disk)) ++ (wanted y (Mark b Hidden false) ++ Rename b (under_name b disk) ∷ [])) (ap is_some (rows_bare e f t sequence (Vhd disk) refl))
      (ap (of_row (λ r. r.hidden)) (rows_bare e f t sequence b (apart b refl)))

  back_bare : (sequence : ℕ) (t : VolumeTable) (n : Name) → changes_back (bare_at e sequence t) n ≡ changes_back t n
  back_bare sequence t (Inflate u extents) = ap (λ o. wanted (of_row (is_longer extents) o) (Cut (Vhd u) extents) ++ Remove (Inflate u extents) ∷ []) (rows_bare e f t sequence (Vhd u) refl)
  back_bare sequence t (Clone disk base twin) =
      ap₂ (λ x cs. wanted x (Remove (Vhd twin)) ++ (cs ++ Remove (Clone disk base twin) ∷ [])) (ap is_some (rows_bare e f t sequence (Vhd twin) refl))
      (ap (base_changes (bare_at e sequence t) disk) (image_bare e f t sequence base) ∙ base_bare sequence t disk (image_with t base) (image_apart t base))
  back_bare sequence t Mgt = refl
  back_bare sequence t (Vhd x) = refl
  back_bare sequence t (Raw x) = refl
  back_bare sequence t (Old x) = refl
  back_bare sequence t (Cbt x) = refl
  back_bare sequence t (Coalesce x y) = refl
  back_bare sequence t (Relink x y) = refl
  back_bare sequence t (Leaf x y) = refl

  pub changes_bare : (sequence : ℕ) (t : VolumeTable) → undo_changes (bare_at e sequence t) ≡ undo_changes t
  unfolding undo_changes
  changes_bare sequence t = ap (λ ns. elim (head ns) as (λ _. List Change) [ None ↦ [] | Some n ↦ changes_back (bare_at e sequence t) n ]) (making_bare e f t sequence) ∙ by (head (making t))
    where
      by : (o : Option Name) → elim o as (λ _. List Change) [ None ↦ [] | Some n ↦ changes_back (bare_at e sequence t) n ] ≡ elim o as (λ _. List Change) [ None ↦ [] | Some n ↦ changes_back t n ]
      by None = refl
      by (Some n) = back_bare sequence t n
