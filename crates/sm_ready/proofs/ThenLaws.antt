-- What is done at a moment at which all lasts, behind work that changed no disk, is done from before that work.
use Rattle.std.proofs.Common.{◌≡◌, inl, inr, ⊎_elim, ℕ, List, map, sym, ap, ◌∙◌, subst}
use Rattle.sm_disk.specs.Held.{IsSettled}
use Rattle.vg_meta.specs.Roomy.{table_alone}
use Rattle.vg_volumes.specs.declared.stores.Store.{Ghosts}
use Rattle.sm_machine.specs.Disks.{Disk}
use Rattle.sm_machine.specs.Runs.{HasSector, face}
use Rattle.sm_run.specs.Between.{HadSector, IsBetween}
use Rattle.sm_standing.specs.Keeping.{IsKept}
use Rattle.sm_standing.specs.Logs.{IsLogged}
use Rattle.sm_standing.specs.Standing.{disks}
use Rattle.sm_ready.specs.Done.{HasDone}
use Rattle.sm_ready.specs.Known.{Known}
use Rattle.sm_ready.specs.Ready.{IsReady}
use Rattle.sm_ready.specs.Stores.{MayShow, StoreLeaves, content_in, content_now, store_content}
use Rattle.sm_ready.specs.declared.memory.Memory.{Memory}
use Rattle.sm_ready.proofs.ChainLaws.{might_show}
use Rattle.sm_ready.proofs.ShowLaws.{settled_ready}
use Rattle.sm_ready.proofs.TakenLaws.{IsTold}

module _ {S : Type 0} {g : Ghosts S} {a b : S} {m k : Memory} (h : IsTold g a m) (mid : IsTold g b k) (site : g.site b ≡ g.site a) (settled : IsSettled (g.area b)) (same : disks (store_content g b) ≡ disks (store_content g a)) where
  -- a sector that a stop might have shown in between was there at first
  had_before : (u : List ℕ) (j : ℕ) (bytes : List ℕ) → HadSector (MayShow (g.site b) (StoreLeaves g b)) u j bytes → HadSector (MayShow (g.site a) (StoreLeaves g a)) u j bytes
  had_before u j bytes (ds, may, has) =
      (disks (store_content g a), might_show g h.usable h.told, subst (λ (x : List Disk). HasSector x u j bytes) same ((settled_ready mid settled ds may).sectors u j bytes has))

  between : (ds x : List Disk) → IsBetween (MayShow (g.site b) (StoreLeaves g b)) (disks (store_content g b)) ds x → IsBetween (MayShow (g.site a) (StoreLeaves g a)) (disks (store_content g a)) ds x
  between ds x (inl still) = inl (record { faces = still.faces ∙ ap (map face) same; sectors = λ u j bytes has. had_before u j bytes (still.sectors u j bytes has) })
  between ds x (inr already) = inr (record { faces = already.faces; sectors = λ u j bytes has. ⊎_elim (λ had. inl (had_before u j bytes had)) (λ new. inr new) (already.sectors u j bytes has) })

  pub then_done : {e : S} (n : Known) (ok : Type 0) (ds : List Disk)
      → HasDone (g.site b) (table_alone (g.table b)) (table_alone (g.table e)) (g.area b) (g.area e) n (StoreLeaves g b) (StoreLeaves g e) ok ds
      → HasDone (g.site a) (table_alone (g.table a)) (table_alone (g.table e)) (g.area a) (g.area e) n (StoreLeaves g a) (StoreLeaves g e) ok ds
  then_done {e} n ok ds done = record {
    ready = λ fine. subst (λ s. IsReady s (table_alone (g.table e)) (g.area e) n) site (done.ready fine);
    settled = done.settled;
    shown = λ fine. ap (λ s. disks (content_now s (table_alone (g.table e)) (g.area e))) (sym site) ∙ done.shown fine;
    crash = λ v image l.
        let w = done.crash v image l in
        let there = between ds (disks (content_in (g.site b) v image)) w.1 in
        (subst (λ s. IsKept (content_in s v image)) site w.0, subst (λ s. IsBetween (MayShow (g.site a) (StoreLeaves g a)) (disks (store_content g a)) ds (disks (content_in s v image))) site there);
    logged = λ v image l. subst (λ s. IsLogged (content_in s v image) n.logs) site (done.logged v image l);
  }
