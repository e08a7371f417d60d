-- What a stop leaves that it might have left before a call.
use Rattle.std.proofs.Common.{◌≡◌, ◌≢◌, inr, ℕ, false, List, refl, sym, ap, ◌∙◌, subst}
use Rattle.sm_base.specs.Kinds.{is_log}
use Rattle.sm_base.specs.declared.names.Name.{Name}
use Rattle.sm_base.specs.declared.names.Name.TheVariants.{Cbt}
use Rattle.sm_standing.specs.Keeping.{IsKept}
use Rattle.sm_standing.specs.Logs.{IsLogged}
use Rattle.sm_standing.specs.Standing.{disks}
use Rattle.vg_meta.specs.Tables.{VolumeTable}
use Rattle.vg_volumes.specs.Stored.{IsChoiceOf, stored}
use Rattle.vg_volumes.specs.declared.stores.Store.{Ghosts}
use Rattle.sm_ready.proofs.ChainLaws.{tab}
use Rattle.sm_ready.proofs.CommitLaws.{IsSafe, ready_safe}
use Rattle.sm_ready.proofs.LogLaws.{logged_before}
use Rattle.sm_ready.proofs.LogStores.{logs_told}
use Rattle.sm_ready.proofs.TakenLaws.{IsTold}
use Rattle.sm_ready.specs.Known.{known}
use Rattle.sm_ready.specs.Stores.{MayShow, StoreLeaves, content_in, store_content}
use Rattle.sm_ready.specs.declared.memory.Memory.{Memory}

pub no_log_apart : (n : Name) (d : List ℕ) → is_log n ≡ false → n ≢ Cbt d
no_log_apart n d e same = absurd (let z : is_log (Cbt d) ≡ false = ap is_log (sym same) ∙ e in cc)

module _ {S : Type 0} {g : Ghosts S} {a : S} {m : Memory} (h : IsTold g a m) where
  pub kept_safe : IsSafe (g.site a) (tab g a) (g.area a) (StoreLeaves g a) (disks (store_content g a))
  kept_safe = ready_safe (g.site a) (tab g a) (g.area a) (known m) (StoreLeaves g a) h.orderly h.ready (λ image is. inr (h.told, h.usable, is))

  pub choice_kept : (v : VolumeTable) (image : ℕ → List ℕ) → IsChoiceOf (stored g a) v image → IsKept (content_in (g.site a) v image)
  choice_kept v image i = subst (λ (y : VolumeTable). IsKept (content_in (g.site a) y image)) (sym i.table_is) (kept_safe.kept image i.sectors)

  pub choice_shown : (v : VolumeTable) (image : ℕ → List ℕ) → IsChoiceOf (stored g a) v image → MayShow (g.site a) (StoreLeaves g a) (disks (content_in (g.site a) v image))
  choice_shown v image i = record { table = v; image = image; left = inr (h.told, h.usable, i); shown = refl }

  pub choice_logged : (v : VolumeTable) (image : ℕ → List ℕ) → IsChoiceOf (stored g a) v image → IsLogged (content_in (g.site a) v image) m.logs
  choice_logged v image i = logged_before (logs_told h) h.orderly.table v image i
