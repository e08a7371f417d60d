-- Changes made one after the other: what one commit makes, and one part behind another.
use Rattle.std.proofs.Common.{◌≡◌, ℕ, zero, suc, ◌+◌, ◌<◌, ◌≤◌, List, [], ◌∷◌, ◌++◌, length, take, refl, sym, ap, ◌∙◌, subst, arith}
use Rattle.sm_disk.specs.Held.{IsSettled, Keeps}
use Rattle.sm_disk.proofs.HeldLaws.{Keeps-then, may_settled}
use Rattle.vg_meta.specs.Changes.{applied}
use Rattle.vg_meta.specs.Tables.{VolumeTable}
use Rattle.vg_meta.specs.declared.changes.Change.{Change}
use Rattle.vg_volumes.specs.Stored.{CanCommit, Commits, Stored, stored}
use Rattle.vg_volumes.specs.Commits.{IsBefore}
use Rattle.vg_volumes.specs.Sites.{area_size}
use Rattle.vg_volumes.specs.declared.stores.Store.{Ghosts}
use Rattle.sm_standing.specs.Opened.{applied_all}
use Rattle.sm_ready.proofs.ChainLaws.{tab}
use Rattle.sm_ready.proofs.RoomLaws.{rows_commits}
use Rattle.sm_recover.specs.Repairs.{IsLeftOf}
use Rattle.sm_recover.specs.Steps.{IsPartOf, MakesAll, MakesPart}

-- ---- parts

pub part_none : (t : VolumeTable) (cs : List Change) → IsPartOf t cs t
part_none t [] = (0, refl)
part_none t (c ∷ cs) = (0, refl)

pub part_all : (t : VolumeTable) (cs : List Change) → IsPartOf t cs (applied_all t cs)
part_all t [] = (0, refl)
part_all t (c ∷ cs) = let w = part_all (applied t c) cs in (suc w.0, w.1)

pub part_front : (t : VolumeTable) (xs ys : List Change) (v : VolumeTable) → IsPartOf t xs v → IsPartOf t (xs ++ ys) v
part_front t [] ys v (k, is) = subst (IsPartOf t ys) (sym (is ∙ nothing k)) (part_none t ys)
  where
    nothing : (k : ℕ) → applied_all t (take k []) ≡ t
    nothing zero = refl
    nothing (suc k) = refl
part_front t (c ∷ xs) ys v (zero, is) = (zero, is)
part_front t (c ∷ xs) ys v (suc k, is) = let w = part_front (applied t c) xs ys v (k, is) in (suc w.0, w.1)

pub part_back : (t : VolumeTable) (xs ys : List Change) (v : VolumeTable) → IsPartOf (applied_all t xs) ys v → IsPartOf t (xs ++ ys) v
part_back t [] ys v part = part
part_back t (c ∷ xs) ys v part = let w = part_back (applied t c) xs ys v part in (suc w.0, w.1)

-- the number of a part was raised at most once for each change
pub part_few : (t : VolumeTable) (cs : List Change) (v : VolumeTable) → IsPartOf t cs v → v.sequence ≤ t.sequence + length cs
part_few t [] v (k, is) = omega (arith, ap (λ (x : VolumeTable). x.sequence) (is ∙ nothing k))
  where
    nothing : (k : ℕ) → applied_all t (take k []) ≡ t
    nothing zero = refl
    nothing (suc k) = refl
part_few t (c ∷ cs) v (zero, is) = omega (arith, ap (λ (x : VolumeTable). x.sequence) is)
part_few t (c ∷ cs) v (suc k, is) = omega (arith, part_few (applied t c) cs v (k, is))

pub left_as : (x : Stored) (P Q : VolumeTable → Type 0) (v : VolumeTable) (image : ℕ → List ℕ) → ((u : VolumeTable) → P u → Q u) → IsLeftOf x P v image → IsLeftOf x Q v image
left_as x P Q v image to left = record { table = to v left.table; sectors = left.sectors }

-- ---- what a stop leaves

-- while the table stays
pub left_before : (x : Stored) (P : VolumeTable → Type 0) (v : VolumeTable) (image : ℕ → List ℕ) → P x.table → IsBefore (area_size x.site) x.table x.area v image → IsLeftOf x P v image
left_before x P v image here stop = record {
  table = subst P (sym stop.table_is) here;
  sectors = λ settled p below. may_settled x.area p (image p) (settled p) (stop.sectors p below);
}

-- behind a first commit
pub left_then : (x y : Stored) (P Q : VolumeTable → Type 0) (v : VolumeTable) (image : ℕ → List ℕ) → y.site ≡ x.site → Keeps x.area y.area → (IsSettled x.area → IsSettled y.area) → ((u : VolumeTable) → Q u → P u)
    → IsLeftOf y Q v image → IsLeftOf x P v image
left_then x y P Q v image site keeps settled to left = record {
  table = to v left.table;
  sectors = λ was p below. left.sectors (settled was) p (subst (λ z. p < area_size z) (sym site) below) ∙ keeps.reads p;
}

-- ---- in a store

module _ {S : Type 0} {g : Ghosts S} where
  -- one commit that succeeded
  pub one_all : {a b : S} (c : Change) → CanCommit g c a → Commits g c a b → MakesAll g (c ∷ []) a b
  one_all c can made = record { usable = made.usable; table = made.table; room = rows_commits can made; settled = λ told was. made.settled told }

  -- one part, and perhaps another behind it
  pub front_part : {a b : S} (xs ys : List Change) → MakesPart g xs a b → MakesPart g (xs ++ ys) a b
  front_part {a} xs ys first = record {
    site = first.site;
    counts = first.counts;
    beside = first.beside;
    keeps = first.keeps;
    part = part_front (tab g a) xs ys _ first.part;
    left = λ told t image leaves. left_as (stored g a) (IsPartOf (tab g a) xs) (IsPartOf (tab g a) (xs ++ ys)) t image (part_front (tab g a) xs ys) (first.left told t image leaves);
  }

  pub then_part : {a b d : S} (xs ys : List Change) → MakesPart g xs a b → MakesAll g xs a b → MakesPart g ys b d → MakesPart g (xs ++ ys) a d
  then_part {a} {b} {d} xs ys first all second = record {
    site = second.site ∙ first.site;
    counts = omega (arith, first.counts, second.counts);
    beside = λ told. Keeps-then (first.beside told) (second.beside told);
    keeps = λ told. Keeps-then (first.keeps told) (second.keeps told);
    part = behind (tab g d) second.part;
    left = λ told t image leaves. left_then (stored g a) (stored g b) (IsPartOf (tab g a) (xs ++ ys)) (IsPartOf (tab g b) ys) t image first.site (first.keeps told) (all.settled told) behind (second.left told t image leaves);
  }
    where
      behind : (v : VolumeTable) → IsPartOf (tab g b) ys v → IsPartOf (tab g a) (xs ++ ys) v
      behind v part = part_back (tab g a) xs ys v (subst (λ t. IsPartOf t ys v) all.table part)
