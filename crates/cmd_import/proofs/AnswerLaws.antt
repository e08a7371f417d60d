-- What an import answers, by what was read of its file.
use Rattle.std.proofs.Common.{◌≡◌, inr, ⊎_elim, ℕ, ◌*◌, List, Option, None, Some, Result, Ok, Err, IfErr, IfOk, OnOk, sym, ap₂, ◌∙◌, subst}
use Rattle.std.specs.Prelude.{IfSome}
use Rattle.sm_machine.specs.Disks.{sector_bytes}
use Rattle.sm_machine.specs.Shapes.{Shape}
use Rattle.sm_refusals.specs.Importing.{entry_refusal}
use Rattle.vg_volumes.specs.declared.stores.Store.{Ghosts}
use Rattle.vhd_import.specs.Progress.{FaultSays, IsMadeOf}
use Rattle.vhd_import.specs.Puts.{Put}
use Rattle.vhd_import.specs.Room.{Target}
use Rattle.vhd_import.specs.Verdicts.{Denied, Long, Made, verdict_of}
use Rattle.vhd_import.specs.declared.faults.ImportFault.{ImportFault}
use Rattle.vhd_import.specs.declared.faults.ImportFault.TheVariants as fault
use Rattle.cmd_import.specs.Ends.{UndoCounts}
use Rattle.cmd_import.specs.Importing.{Answers, target_in, whole_blocks}

module _ (s : Shape) (u : List ℕ) (none : entry_refusal s u ≡ None) (t : Target) (is : t ≡ target_in s) where
  -- a disk was made
  module _ (sectors : ℕ) (puts : List Put) (block : ℕ) (block_is : block ≡ s.block) where
    of_bytes : (bytes : List ℕ) (result : Result ℕ ImportFault) → IsMadeOf t bytes sectors puts → IfErr result (λ f. f ≡ fault.Device) → IfOk result (λ size. size ≡ sector_bytes * whole_blocks block sectors)
        → Answers s u bytes result
    of_bytes bytes (Ok n) w device size =
        (none, w.sectors, subst (λ x. verdict_of x bytes ≡ Made w.sectors) is w.made, size ∙ ap₂ (λ b k. sector_bytes * whole_blocks b k) block_is (sym w.long))
    of_bytes bytes (Err f) w device size = subst (λ x. Answers s u bytes (Err x)) (sym device) tt

    pub answers_made : (content : Option (List ℕ)) (result : Result ℕ ImportFault) → IfSome content (λ bytes. IsMadeOf t bytes sectors puts)
        → IfErr result (λ f. f ≡ fault.Device) → IfOk result (λ size. size ≡ sector_bytes * whole_blocks block sectors) → IfSome content (λ bytes. Answers s u bytes result)
    answers_made None result w device size = tt
    answers_made (Some bytes) result w device size = of_bytes bytes result w device size

  -- none was: the fault says why
  says : (f : ImportFault) (content : Option (List ℕ)) → FaultSays t content f → IfSome content (λ bytes. Answers s u bytes (Err f))
  says f None h = tt
  says (fault.Refused r) (Some bytes) h = inr (none, subst (λ x. verdict_of x bytes ≡ Denied r) is h)
  says fault.Long (Some bytes) h = (none, subst (λ x. verdict_of x bytes ≡ Long) is h)
  says fault.Device (Some bytes) h = tt
  says fault.Source (Some bytes) h = tt
  says fault.NoMemory (Some bytes) h = tt

  failed : (content : Option (List ℕ)) → IfSome content (λ bytes. Answers s u bytes (Err fault.Device))
  failed None = tt
  failed (Some bytes) = tt

  -- or the volume could not be removed
  pub answers_fault : {S : Type 0} (g : Ghosts S) (cut : Type 0) (old new : S) (f : ImportFault) (content : Option (List ℕ)) (result : Result ℕ ImportFault) → FaultSays t content f
      → IfErr result (UndoCounts g cut f old new) → OnOk result ⊥ → IfSome content (λ bytes. Answers s u bytes result)
  answers_fault g cut old new f content (Ok n) h counts fails = absurd fails
  answers_fault g cut old new f content (Err x) h counts fails = ⊎_elim
      (λ still. subst (λ y. IfSome content (λ bytes. Answers s u bytes (Err y))) (sym still.0) (says f content h))
      (λ device. subst (λ y. IfSome content (λ bytes. Answers s u bytes (Err y))) (sym device.0) (failed content))
      counts
