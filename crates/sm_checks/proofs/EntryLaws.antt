-- The entry of a table in which a fork or an enlargement is under way: what the checks by the table leave known of it, and that
-- the changes that undo it are allowed, each in its turn.
use Rattle.std.proofs.Common.{◌≡◌, ◌≢◌, ◌⊎◌, inl, inr, ⊎_elim, ℕ, ◌||◌, Bool, true, false, cond, not, ◌&&◌, List, [], ◌∷◌, length, Some, None, is_some, refl, sym, ap, ◌∙◌, subst, subst₂}
use Rattle.std.specs.Str.{bytes_eq}
use Rattle.std.proofs.lemmas.Bool.{and_parts, true≢false}
use Rattle.std.proofs.lemmas.Option.{none-some, same_Some}
use Rattle.common_laws.specs.Lists.{In}
use Rattle.common_laws.proofs.Booleans.{not_false, not_true}
use Rattle.common_laws.proofs.Bytes.{bytes_eq-refl}
use Rattle.common_laws.proofs.Lists.{In-filter, In-map}
use Rattle.common_laws.proofs.Options.{is_some-parts}
use Rattle.sm_base.specs.Kinds.{is_entry}
use Rattle.sm_base.specs.Names.{IsName}
use Rattle.sm_base.specs.declared.names.Name.{Name}
use Rattle.sm_base.specs.declared.names.Name.TheVariants.{Mgt, Vhd, Raw, Old, Clone, Inflate}
use Rattle.vg_layout.specs.Places.{record_extents}
use Rattle.vg_meta.specs.Tables.{IsTable, IsVolume, Row, VolumeTable, extents_of, names_of, rows}
use Rattle.vg_meta.specs.declared.changes.Change.{Change}
use Rattle.vg_volumes.specs.Sites.{Site}
use Rattle.sm_standing.specs.Checks.{is_lost}
use Rattle.sm_standing.specs.Entries.{are_past, head, image_with, is_at_stage, is_filled, is_fork_made, is_forking, is_making, is_there, is_visible_or_gone, making, second}
use Rattle.sm_standing.specs.Opened.{applied_all, changes_back, undo_changes, undone}
use Rattle.sm_standing.specs.Undone.{IsBeingEnlarged}
use Rattle.sm_standing.proofs.UndoneLaws.{IsBeingForked, enlarged_or_not}
use Rattle.sm_ready.proofs.RowLaws.{All-In, found_in}
use Rattle.sm_checks.specs.Faults.{has_any, is_apart, is_begun, is_fork_at_stage}
use Rattle.sm_checks.specs.Openable.{IsOpenable}
use Rattle.sm_checks.proofs.CheckLaws.{stage_as}

-- what is known of a table before a fork or an enlargement is undone, whether or not an entry of the other group is there
pub record IsStaged (s : Site) (t : VolumeTable) : Type 0 where
  pub table : IsTable s.count t
  pub one_entry : second (making t) ≡ None
  pub at_stage : (r : Row) → In r t.volumes → is_lost t r ≡ false
  pub record_volume : length (extents_of (rows t Mgt)) ≡ record_extents s.geometry.extent

pub staged_open : {s : Site} {t : VolumeTable} → IsOpenable s t → IsStaged s t
staged_open c = record { table = c.table; one_entry = c.one_entry; at_stage = c.at_stage; record_volume = c.record_volume }

-- ---- the entry of a fork

pub record IsFork (t : VolumeTable) (d b w : List ℕ) : Type 0 where
  pub entry : making t ≡ Clone d b w ∷ []
  pub row : Row
  pub there : rows t (Clone d b w) ≡ Some row
  pub stage : is_fork_at_stage t d b w ≡ true
  pub past : are_past t (Clone d b w) ≡ true
  pub named : IsName (Clone d b w)

pub head_alone : (ns : List Name) (n : Name) → head ns ≡ Some n → second ns ≡ None → ns ≡ n ∷ []
head_alone [] n is one = absurd (none-some n is)
head_alone (m ∷ []) n is one = ap (λ x. x ∷ []) (same_Some m n is)
head_alone (m ∷ k ∷ ns) n is one = absurd (none-some k (sym one))

pub fork_found : {s : Site} {t : VolumeTable} (d b w : List ℕ) → IsStaged s t → head (making t) ≡ Some (Clone d b w) → IsFork t d b w
unfolding is_at_stage
fork_found {s} {t} d b w c found =
    let alone = head_alone (making t) (Clone d b w) found c.one_entry in
    let k = In-filter is_making (names_of t.volumes) (Clone d b w) (subst (In (Clone d b w)) (sym alone) (inl refl)) in
    let r = In-map (λ (r : Row). r.name) t.volumes (Clone d b w) k.0 in
    let named : r.0.name ≡ Clone d b w = sym r.2 in
    let right = and_parts (is_forking t d b w) (are_past t (Clone d b w)) (not_false _ (sym (ap (λ n. is_entry n && not (is_at_stage t n && are_past t n)) named) ∙ c.at_stage r.0 r.1)) in
    record {
      entry = alone;
      row = r.0;
      there = ap (rows t) (sym named) ∙ found_in t.volumes c.table.volumes.rising r.0 r.1;
      stage = sym (stage_as t d b w) ∙ right.0;
      past = right.1;
      named = subst IsName named (All-In IsVolume t.volumes r.0 c.table.volumes.each r.1).name;
    }

-- an image of a UUID is of one of two names
pub record IsFound (t : VolumeTable) (b : List ℕ) (from : Name) : Type 0 where
  pub row : Row
  pub there : rows t from ≡ Some row
  pub name : (from ≡ Vhd b) ⊎ (from ≡ Raw b)

pub base_found : (t : VolumeTable) (b : List ℕ) (from : Name) → image_with t b ≡ Some from → IsFound t b from
unfolding image_with
base_found t b from found = by (is_there t (Vhd b)) (is_there t (Raw b)) refl refl found
  where
    of : (n : Name) → is_there t n ≡ true → n ≡ from → (n ≡ Vhd b) ⊎ (n ≡ Raw b) → IsFound t b from
    of n there same name = let r = is_some-parts (rows t n) there in record { row = r.0; there = ap (rows t) (sym same) ∙ r.1; name = subst (λ m. (m ≡ Vhd b) ⊎ (m ≡ Raw b)) same name }

    by : (x y : Bool) → is_there t (Vhd b) ≡ x → is_there t (Raw b) ≡ y → cond x (Some (Vhd b)) (cond y (Some (Raw b)) None) ≡ Some from → IsFound t b from
    by true y vhd raw is = of (Vhd b) vhd (same_Some (Vhd b) from is) (inl refl)
    by false true vhd raw is = of (Raw b) raw (same_Some (Raw b) from is) (inr refl)
    by false false vhd raw is = absurd (none-some from is)

-- what is known of a fork whose base is there
pub record IsMade (t : VolumeTable) (d b w : List ℕ) : Type 0 where
  pub filled : (is_filled t (Vhd b) || is_filled t (Raw b)) ≡ true
  pub no_raw : is_there t (Raw d) ≡ false
  pub no_raw_twin : is_there t (Raw w) ≡ false
  pub own_shown : is_visible_or_gone t (Vhd d) ≡ true
  pub twin_shown : is_visible_or_gone t (Vhd w) ≡ true

pub made_parts : {t : VolumeTable} {d b w : List ℕ} → is_fork_made t d b w ≡ true → IsMade t d b w
made_parts {t} {d} {b} {w} made = by (is_filled t (Vhd b) || is_filled t (Raw b)) (is_there t (Raw d)) (is_there t (Raw w)) (is_visible_or_gone t (Vhd d)) (is_visible_or_gone t (Vhd w)) _ refl refl refl refl refl made
  where
    by : (x y z p q r : Bool) → is_filled t (Vhd b) || is_filled t (Raw b) ≡ x → is_there t (Raw d) ≡ y → is_there t (Raw w) ≡ z → is_visible_or_gone t (Vhd d) ≡ p → is_visible_or_gone t (Vhd w) ≡ q
        → (x && (not y && (not z && (p && (q && r))))) ≡ true → IsMade t d b w
    by true false false true true r is_x is_y is_z is_p is_q h = record { filled = is_x; no_raw = is_y; no_raw_twin = is_z; own_shown = is_p; twin_shown = is_q }
    by false y z p q r is_x is_y is_z is_p is_q h = absurd (true≢false (sym h))
    by true true z p q r is_x is_y is_z is_p is_q h = absurd (true≢false (sym h))
    by true false true p q r is_x is_y is_z is_p is_q h = absurd (true≢false (sym h))
    by true false false false q r is_x is_y is_z is_p is_q h = absurd (true≢false (sym h))
    by true false false true false r is_x is_y is_z is_p is_q h = absurd (true≢false (sym h))

unlike : (u v : List ℕ) → not (bytes_eq u v) ≡ true → u ≢ v
unlike u v other same = true≢false (sym (bytes_eq-refl u) ∙ ap (bytes_eq u) same ∙ not_true (bytes_eq u v) other)

module _ {t : VolumeTable} {d b w : List ℕ} (f : IsFork t d b w) where
  abbrev staged_apart : Bool
  staged_apart = is_apart t d b w && (is_begun t d b w || is_fork_made t d b w)

  apart : (not (bytes_eq d b) ≡ true) × ((not (bytes_eq d w) && (not (bytes_eq b w) && staged_apart)) ≡ true)
  apart = and_parts (not (bytes_eq d b)) (not (bytes_eq d w) && (not (bytes_eq b w) && staged_apart)) f.stage

  apart_twin : (not (bytes_eq d w) ≡ true) × ((not (bytes_eq b w) && staged_apart) ≡ true)
  apart_twin = and_parts (not (bytes_eq d w)) (not (bytes_eq b w) && staged_apart) apart.1

  apart_base : (not (bytes_eq b w) ≡ true) × (staged_apart ≡ true)
  apart_base = and_parts (not (bytes_eq b w)) staged_apart apart_twin.1

  -- it has no UUID of the other entry
  pub apart_folding : is_apart t d b w ≡ true
  apart_folding = (and_parts (is_apart t d b w) (is_begun t d b w || is_fork_made t d b w) apart_base.1).0

  pub disk_base : d ≢ b
  disk_base = unlike d b apart.0

  pub disk_twin : d ≢ w
  disk_twin = unlike d w apart_twin.0

  pub base_twin : b ≢ w
  base_twin = unlike b w apart_base.0

  pub at_stage : (is_begun t d b w || is_fork_made t d b w) ≡ true
  at_stage = (and_parts (is_apart t d b w) (is_begun t d b w || is_fork_made t d b w) apart_base.1).1

  -- where an image has the base's UUID the disk's image was renamed
  pub base_made : (from : Name) → image_with t b ≡ Some from → is_fork_made t d b w ≡ true
  base_made from found = by (is_begun t d b w) refl at_stage
    where
      k : IsFound t b from
      k = base_found t b from found

      there : (n : Name) → from ≡ n → is_there t n ≡ true
      there n is = ap is_some (ap (rows t) (sym is) ∙ k.there)

      either : (x y z : Bool) → (x ≡ true) ⊎ (y ≡ true) → (x || (y || z)) ≡ true
      either true y z h = refl
      either false true z h = refl
      either false false z (inl h) = absurd (true≢false (sym h))
      either false false z (inr h) = absurd (true≢false (sym h))

      some : has_any t b ≡ true
      some = either (is_there t (Vhd b)) (is_there t (Raw b)) (is_there t (Old b)) (⊎_elim (λ is. inl (there (Vhd b) is)) (λ is. inr (there (Raw b) is)) k.name)

      by : (x : Bool) → is_begun t d b w ≡ x → (x || is_fork_made t d b w) ≡ true → is_fork_made t d b w ≡ true
      by false begun h = h
      by true begun h = absurd (true≢false (sym (and_parts (not (has_any t b)) _ begun).0 ∙ ap not some))

-- ---- what is known of the table

-- the image that is being enlarged
pub enlarged_found : {s : Site} {t : VolumeTable} (u : List ℕ) (e : ℕ) → IsStaged s t → head (making t) ≡ Some (Inflate u e) → IsBeingEnlarged t u e
enlarged_found {s} {t} u e c found =
    by (enlarged_or_not s.count t c.table c.one_entry c.at_stage)
  where
    by : (making t ≡ []) ⊎ (((u : List ℕ) × (extents : ℕ) × IsBeingEnlarged t u extents) ⊎ IsBeingForked t) → IsBeingEnlarged t u e
    by (inl none) = absurd (none-some (Inflate u e) (sym (ap head none) ∙ found))
    by (inr (inl k)) =
        let same : Inflate k.0 k.1 ≡ Inflate u e = same_Some (Inflate k.0 k.1) (Inflate u e) (sym (ap head k.2.entry) ∙ found) in
        subst₂ (λ v m. IsBeingEnlarged t v m) (let x = same in cc) (let x = same in cc) k.2
    by (inr (inr k)) = let x : Inflate u e ≡ Clone k.0 k.1 k.2 = same_Some (Inflate u e) (Clone k.0 k.1 k.2) (sym found ∙ ap head k.3) in absurd (let y = x in cc)

-- ---- the changes, by the entry that is found

pub changes_none : (t : VolumeTable) → head (making t) ≡ None → undo_changes t ≡ []
unfolding undo_changes
changes_none t none = ap (λ o. elim o as (λ _. List Change) [ None ↦ [] | Some n ↦ changes_back t n ]) none

pub changes_some : (t : VolumeTable) (n : Name) → head (making t) ≡ Some n → undo_changes t ≡ changes_back t n
unfolding undo_changes
changes_some t n found = ap (λ o. elim o as (λ _. List Change) [ None ↦ [] | Some n ↦ changes_back t n ]) found

-- the table behind them is that without the fork or the enlargement
pub undone_applied : (t : VolumeTable) → undone t ≡ applied_all t (undo_changes t)
unfolding undone
undone_applied t = refl
