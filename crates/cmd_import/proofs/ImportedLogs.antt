-- What a stop of an import leaves is kept: the check of logs passes too, as no log changes.
use Rattle.std.proofs.Common.{◌≡◌, ⊎_elim, ℕ, List, Option, None, Result, subst}
use Rattle.std.proofs.Math.Logic.{∥∥₁_elim}
use Rattle.std.proofs.Props.{props}
use Rattle.sm_machine.specs.Tracking.{AreGoodLogs}
use Rattle.sm_ready.specs.Does.{store_shape}
use Rattle.sm_ready.specs.Frames.{IsNoLower}
use Rattle.sm_ready.specs.Known.{known}
use Rattle.sm_ready.specs.Sessions.{IsOrderlyStore, IsReadyStore, KeepsAll}
use Rattle.sm_ready.specs.Stores.{StoreLeaves, content_in}
use Rattle.sm_ready.specs.declared.memory.Memory.{Memory}
use Rattle.sm_ready.proofs.ChainLaws.{tab}
use Rattle.sm_standing.specs.LogChecks.{log_fault}
use Rattle.sm_standing.specs.Logs.{IsLogged}
use Rattle.vg_volumes.specs.declared.stores.Store.{Ghosts}
use Rattle.vhd_import.specs.declared.faults.ImportFault.{ImportFault}
use Rattle.sm_importing.specs.Imports.{GoesNoLower}
use Rattle.sm_importing.proofs.LogsStill.{pass_by}
use Rattle.cmd_import.specs.Importing.{HasImported}

-- whatever a stop leaves behind an import that began on a store with good logs is kept
pub kept_imported : {S : Type 0} {g : Ghosts S} {a n : S} {m m' : Memory} {u : List ℕ} {bytes : Option (List ℕ)} {result : Result ℕ ImportFault} → IsOrderlyStore g a m → IsReadyStore g a m → ∥ AreGoodLogs (store_shape g a m) ∥₁
    → HasImported g u bytes m m' a n result → m'.logs ≡ m.logs → GoesNoLower g a n → g.told → KeepsAll (g.site a) (StoreLeaves g a) → KeepsAll (g.site a) (StoreLeaves g n)
kept_imported {S} {g} {a} {n} {m} {m'} o ready good i logs lower told keeps t image l = record {
  kept = (i.done.crash t image l).0;
  passes = ⊎_elim (λ was. (keeps t image was).passes) by (lower.left told t image l);
}
  where
    by : IsNoLower (tab g a) t → log_fault (content_in (g.site a) t image) ≡ None
    by no_lower = ∥∥₁_elim o.well_formed (hlevel props) (λ w. ∥∥₁_elim good (hlevel props) (λ (h : AreGoodLogs (store_shape g a m)).
        let k = i.done.crash t image l in
        pass_by (g.site a) (tab g a) t (g.area a) (known m) image _ i.ends o ready w h k.0 k.1 i.still
        (subst (IsLogged (content_in (g.site a) t image)) logs (i.done.logged t image l)) no_lower))
