-- Behind the checks, and once the repository was taken over to the current version: what stands is as it was, and in front of the repairs
-- a stop leaves the one table.
use Rattle.std.proofs.Common.{◌≡◌, ◌<◌, ◌≤◌, inl, inr, ap, ap₂, sym, subst, ◌∙◌, arith, List, ℕ, false}
use Rattle.std.proofs.Math.Nat.{eq-or-lt_of_le}
use Rattle.sm_disk.specs.Held.{Held, IsSettled}
use Rattle.vg_meta.specs.Roomy.{table_alone}
use Rattle.vg_meta.specs.Tables.{VolumeTable}
use Rattle.vg_volumes.specs.Commits.{current_version}
use Rattle.vg_volumes.specs.Sites.{Site}
use Rattle.vg_volumes.specs.Stored.{IsChoiceOf, OnlyReads, Stored, stored}
use Rattle.vg_volumes.specs.declared.stores.Store.{Ghosts}
use Rattle.sm_ready.proofs.AgainLaws.{stored_as}
use Rattle.sm_recover.specs.Ending.{HasFewEnds}
use Rattle.sm_recover.specs.Repairs.{StandsAs}

-- where nothing was pending all that is stored is as it was
pub same_stored : {S : Type 0} {g : Ghosts S} {a b : S} → StandsAs g a b → g.told → IsSettled (g.area a) → stored g b ≡ stored g a
same_stored {S} {g} {a} {b} r told was =
    ap₂ (λ (s : Site) (u : VolumeTable). let x : Stored = record { site = s; table = u; area = g.area b } in x) r.site r.table
    ∙ ap (λ (h : Held). let x : Stored = record { site = g.site a; table = table_alone (g.table a); area = h } in x) (r.area told was)

-- behind the checks
pub stands_read : {S : Type 0} {g : Ghosts S} {a b : S} → OnlyReads g a b → StandsAs g a b
stands_read r = record { site = r.stays.site; table = r.stays.table; area = λ told was. ap (λ (x : Stored). x.area) (stored_as r told) }

-- and once it was taken over
pub stands_behind : {S : Type 0} {g : Ghosts S} {a b d : S} → OnlyReads g a b → StandsAs g b d → StandsAs g a d
stands_behind {S} {g} {a} {b} {d} checked q =
    let r = stands_read checked in
    record {
      site = q.site ∙ r.site;
      table = q.table ∙ r.table;
      area = λ told was. let same = r.area told was in q.area told (subst IsSettled (sym same) was) ∙ same;
    }

few_same : {t u : VolumeTable} → u ≡ t → HasFewEnds t u
few_same {t} {u} is = subst (HasFewEnds t) (sym is) (omega arith)

-- a stop leaves the one table, of an earlier version, and of the current one while a commit may be made
pub one_table : {S : Type 0} (g : Ghosts S) (a : S) → g.version a ≤ current_version → (g.version a ≡ current_version → g.failed a ≡ false)
    → (g.version a < current_version → (t : VolumeTable) (image : ℕ → List ℕ) → g.leaves a t image → IsChoiceOf (stored g a) t image)
    → (g.failed a ≡ false → (t : VolumeTable) (image : ℕ → List ℕ) → g.leaves a t image → IsChoiceOf (stored g a) t image)
    → (t : VolumeTable) (image : ℕ → List ℕ) → g.leaves a t image → HasFewEnds (table_alone (g.table a)) t
one_table g a known usable earlier now t image left = elim (eq-or-lt_of_le known) [
  | inl current ↦ few_same (now (usable current) t image left).table_is
  | inr old ↦ few_same (earlier old t image left).table_is
]
