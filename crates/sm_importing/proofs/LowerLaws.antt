-- The sequence number of a store is never lower, nor is any that a stop leaves, over one step and over several.
use Rattle.std.proofs.Common.{◌≡◌, inl, inr, ◌⊎◌, ℕ, List, sym, subst, arith}
use Rattle.vg_meta.specs.Tables.{VolumeTable}
use Rattle.vg_volumes.specs.declared.stores.Store.{Ghosts}
use Rattle.sm_ready.specs.Framing.{StepsOn}
use Rattle.sm_ready.specs.Frames.{IsNoLower}
use Rattle.sm_ready.specs.Stores.{StoreLeaves}
use Rattle.sm_ready.proofs.ChainLaws.{tab}
use Rattle.sm_importing.specs.Imports.{GoesNoLower}

pub lower_same : {S : Type 0} (g : Ghosts S) (a s : S) → s ≡ a → GoesNoLower g a s
lower_same g a s same = subst (GoesNoLower g a) (sym same) (record { now = omega arith; left = λ told t image l. inl l })

pub lower_step : {S : Type 0} {g : Ghosts S} {a s n : S} {most : ℕ} → StepsOn g most s n → GoesNoLower g a s → GoesNoLower g a n
lower_step {S} {g} {a} {s} {n} step h = record {
  now = (let first = h.now in let second = step.no_lower in omega (arith, first, second));
  left = λ told t image l. inr (by told t image l);
}
  where
    by : g.told → (t : VolumeTable) (image : ℕ → List ℕ) → StoreLeaves g n t image → IsNoLower (tab g a) t
    by told t image (inl l) = let first = h.now in let second = step.no_lower_left told t image l in omega (arith, first, second)
    by told t image (inr w) = let first = h.now in let second = step.no_lower in subst (IsNoLower (tab g a)) (sym w.2.table_is) (omega (arith, first, second))

pub lower_then : {S : Type 0} {g : Ghosts S} {a b d : S} → GoesNoLower g a b → GoesNoLower g b d → GoesNoLower g a d
lower_then {S} {g} {a} {b} {d} x y = record {
  now = (let first = x.now in let second = y.now in omega (arith, first, second));
  left = λ told t image l. by told t image (y.left told t image l);
}
  where
    by : g.told → (t : VolumeTable) (image : ℕ → List ℕ) → StoreLeaves g b t image ⊎ IsNoLower (tab g b) t → StoreLeaves g a t image ⊎ IsNoLower (tab g a) t
    by told t image (inl was) = x.left told t image was
    by told t image (inr n) = inr (let first = x.now in omega (arith, first, n))
