-- That a disk is imported has one proof at most, so a disk can carry it.
use Rattle.std.specs.Prelude.{◌≡◌, ℕ, Bool, true, false, List, Option, None, Some}
use Rattle.std.proofs.Common.{sym, ap, ◌∙◌, subst}
use Rattle.std.proofs.Props.{props}
use Rattle.sm_base.specs.declared.names.Name.{Name}
use Rattle.vg_meta.specs.Tables.{Row, VolumeTable, rows}
use Rattle.vg_volumes.specs.declared.stores.Store.{Ghosts}
use Rattle.sm_ready.specs.Proper.{IsBetweenSteps-prop, IsOrderly-prop}
use Rattle.sm_ready.specs.declared.memory.Memory.{Memory}
use Rattle.vhd_filling.specs.declared.fillings.Filling.{Filling}
use Rattle.sm_importing.specs.Imports.{HasNewVolume, IsImporting}
use Rattle.sm_importing.specs.Disks.{IsFilledTo, IsToBegin}

row_same : (x y : Row) → Some x ≡ Some y → x ≡ y
row_same x y e = ap (λ (o : Option Row). elim o [ None ↦ x | Some r ↦ r ]) e

there_prop : (o : Option Row) (r : Row) → IsProp (o ≡ Some r)
there_prop o r = hlevel props

same_prop : (a b : Bool) → IsProp (a ≡ b)
same_prop a b = hlevel props

pub HasNewVolume-prop : (t : VolumeTable) (n : Name) → IsProp (HasNewVolume t n)
HasNewVolume-prop t n x y = at y.row (row_same x.row y.row (sym x.there ∙ y.there)) y.there y.fresh y.visible
  where
    shown : (r : Row) → rows t n ≡ Some r → r.fresh ≡ true → r.hidden ≡ false → HasNewVolume t n
    shown r there fresh visible = record { row = r; there = there; fresh = fresh; visible = visible }

    at : (r : Row) → x.row ≡ r → (a : rows t n ≡ Some r) (b : r.fresh ≡ true) (c : r.hidden ≡ false) → x ≡ shown r a b c
    at r e = subst (λ q. (a : rows t n ≡ Some q) (b : q.fresh ≡ true) (c : q.hidden ≡ false) → x ≡ shown q a b c) e
        (λ a b c i. record {
          row = x.row;
          there = there_prop (rows t n) x.row x.there a i;
          fresh = same_prop x.row.fresh true x.fresh b i;
          visible = same_prop x.row.hidden false x.visible c i;
        })

pub IsImporting-prop : {S : Type 0} (g : Ghosts S) (s : S) (m : Memory) (u : List ℕ) → IsProp (IsImporting g s m u)
IsImporting-prop g s m u = hlevel (props, IsOrderly-prop, HasNewVolume-prop)

pub IsToBegin-prop : {S : Type 0} (g : Ghosts S) (s : S) (m : Memory) (u : List ℕ) (f : Filling) (room : ℕ) → IsProp (IsToBegin g s m u f room)
IsToBegin-prop g s m u f room = hlevel (props, IsBetweenSteps-prop)

pub IsFilledTo-prop : {S : Type 0} (g : Ghosts S) (s : S) (m : Memory) (u : List ℕ) (f : Filling) (slots : ℕ) → IsProp (IsFilledTo g s m u f slots)
IsFilledTo-prop g s m u f slots = hlevel (props, IsImporting-prop)
