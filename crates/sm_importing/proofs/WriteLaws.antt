-- A put on a disk that is imported, over its store: the room that it asks, and what it leaves.
use Rattle.std.proofs.Common.{◌≡◌, ⊎_elim, ℕ, ◌+◌, List, sym, ap, ◌∙◌, subst, arith}
use Rattle.sm_base.specs.declared.names.Name.TheVariants.{Vhd}
use Rattle.vg_volumes.specs.Stored.{SameBeside, WorksOn, stored}
use Rattle.vg_volumes.specs.declared.stores.Store.{Ghosts}
use Rattle.vhd_filling.specs.Filled.{Fills, TakesSlot, slots_taken}
use Rattle.vhd_filling.specs.declared.fillings.Filling.{Filling}
use Rattle.vhd_volumes.specs.Truth.{HasRoomIn}
use Rattle.sm_ready.specs.Framing.{StepsOn}
use Rattle.sm_ready.specs.declared.memory.Memory.{Memory}
use Rattle.sm_ready.proofs.ChainLaws.{tab}
use Rattle.sm_ready.proofs.FramingLaws.{more_steps, stays_now, then_steps}
use Rattle.sm_importing.specs.Imports.{GoesOnImporting, GrowsEachCommit, IsImporting, StopsImporting, extents_of_volume}
use Rattle.sm_importing.specs.Disks.{HasPutRoom, IsFilled, IsFilledTo}
use Rattle.sm_importing.proofs.BlockLaws.{takes_or_not}
use Rattle.sm_importing.proofs.FillLaws.{filled_works, slots_room}
use Rattle.sm_importing.proofs.ImportLaws.{LeavesNow, since_works}

module _ {S : Type 0} {g : Ghosts S} {s : S} {m : Memory} {u : List ℕ} {f : Filling} {sector : ℕ} {bytes : List ℕ} (h : HasPutRoom g s m u f sector bytes) where
  pub room_fills : Fills g f s
  room_fills = ⊎_elim (λ takes. (h.more takes).fills) (λ none. (h.same none).fills) (takes_or_not f sector bytes)

  pub room_importing : IsImporting g s m u
  room_importing = ⊎_elim (λ takes. (h.more takes).importing) (λ none. (h.same none).importing) (takes_or_not f sector bytes)

  pub room_volume : f.volume ≡ Vhd u
  room_volume = ⊎_elim (λ takes. (h.more takes).volume) (λ none. (h.same none).volume) (takes_or_not f sector bytes)

  pub room_had : HasRoomIn (stored g s) f.volume (slots_taken f)
  room_had = ⊎_elim (λ takes. slots_room (slots_taken f) (h.more takes) (omega arith)) (λ none. slots_room (slots_taken f) (h.same none) (omega arith)) (takes_or_not f sector bytes)

  pub room_more : TakesSlot f sector bytes → HasRoomIn (stored g s) f.volume (slots_taken f + 1)
  room_more takes = slots_room (slots_taken f + 1) (h.more takes) (omega arith)

  module _ {d : S} (works : WorksOn g f.volume s d) where
    works_here : WorksOn g (Vhd u) s d
    works_here = subst (λ n. WorksOn g n s d) room_volume works

    pub put_filled : (n : Filling) → Fills g n d → n.volume ≡ f.volume → ((TakesSlot f sector bytes → ⊥) → slots_taken n ≡ slots_taken f) → (TakesSlot f sector bytes → slots_taken n ≡ slots_taken f + 1)
        → IsFilled g d m u n
    put_filled n fills same as_many one_more = ⊎_elim
        (λ takes. subst (λ k. IsFilledTo g d m u n k) (sym (one_more takes)) (filled_works (h.more takes) n works_here fills same))
        (λ none. subst (λ k. IsFilledTo g d m u n k) (sym (as_many none)) (filled_works (h.same none) n works_here fills same))
        (takes_or_not f sector bytes)

    pub put_goes_on : {a : S} → LeavesNow g → GoesOnImporting g u m a s → GoesOnImporting g u m a d
    put_goes_on leaves goes o since = since_works leaves works_here room_importing (goes o since)

    pub put_stops : {a : S} → LeavesNow g → GoesOnImporting g u m a s → StopsImporting g u m a d
    put_stops leaves goes o since = (put_goes_on leaves goes o since).so_far.left

    -- behind the growth no commit is made, and nothing is synced
    pub put_steps : {a : S} → LeavesNow g → StepsOn g 1 a s → StepsOn g 1 a d
    put_steps leaves steps = more_steps (omega arith) (then_steps steps (stays_now leaves room_importing.usable works.stays))

    pub put_grows : {a : S} → GrowsEachCommit (Vhd u) (tab g a) (tab g s) → GrowsEachCommit (Vhd u) (tab g a) (tab g d)
    put_grows {a} grows = subst (λ t. GrowsEachCommit (Vhd u) (tab g a) t) (sym works.stays.table) grows

    pub put_still : {a : S} → (extents_of_volume (tab g s) (Vhd u) ≡ extents_of_volume (tab g a) (Vhd u) → s ≡ a) → (g.told → SameBeside f.volume (stored g s) (stored g d))
        → extents_of_volume (tab g d) (Vhd u) ≡ extents_of_volume (tab g a) (Vhd u) → g.told → SameBeside (Vhd u) (stored g a) (stored g d)
    put_still same beside had told =
        let was = sym (ap (λ t. extents_of_volume t (Vhd u)) works.stays.table) ∙ had in
        subst (λ x. SameBeside (Vhd u) (stored g x) (stored g d)) (same was)
        (subst (λ n. SameBeside n (stored g s) (stored g d)) room_volume (beside told))
