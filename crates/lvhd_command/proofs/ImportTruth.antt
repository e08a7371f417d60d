-- What the logs of tracked disks tell stays true over an import: no log changes, and the disk that is made had none.
use Rattle.std.proofs.Common.{◌≡◌, ◌⊎◌, inr, ⊎_elim, ℕ, List, Option, Some, None, Result, Err, true, false, refl, sym, ap, ◌∙◌, subst}
use Rattle.std.proofs.Math.Logic.{∥∥₁_elim}
use Rattle.std.proofs.Props.{props}
use Rattle.common_laws.specs.Lists.{In}
use Rattle.cmd_import.proofs.EntryLaws.{first_none}
use Rattle.cmd_import.specs.Importing.{EndsWith, HasImported, shape_of, target_in}
use Rattle.sm_base.specs.declared.refusals.Refusal.{Refusal}
use Rattle.sm_disk.proofs.HeldLaws.{Allows-reads}
use Rattle.sm_disk.specs.Held.{reads}
use Rattle.sm_log.specs.Logs.{Log}
use Rattle.sm_log.proofs.TellLaws.{tells_elsewhere}
use Rattle.sm_machine.proofs.Fresh
use Rattle.sm_machine.specs.Disks.{Disk}
use Rattle.sm_machine.specs.Refusals.{is_reserved, is_taken, new_uuid}
use Rattle.sm_machine.specs.Runs.{Face, HasSector, face}
use Rattle.sm_machine.specs.Shapes.{Shape}
use Rattle.sm_machine.specs.Steps.{State}
use Rattle.sm_machine.specs.Tracking.{AreGoodLogs}
use Rattle.sm_machine.specs.WellFormed.{IsWellFormed}
use Rattle.sm_refusals.specs.Importing.{as_create, entry_refusal}
use Rattle.sm_run.specs.Between.{IsBetween}
use Rattle.sm_ready.proofs.ChainLaws.{tab}
use Rattle.sm_ready.proofs.DiskShape.{are_disks}
use Rattle.sm_ready.specs.Does.{store_shape}
use Rattle.sm_ready.specs.Known.{known, shape_in}
use Rattle.sm_ready.specs.Sessions.{IsOrderlyStore, IsReadyStore, store_state}
use Rattle.sm_ready.specs.Stores.{MayShow, StoreLeaves, content_in, store_content}
use Rattle.sm_ready.specs.declared.memory.Memory.{Memory}
use Rattle.sm_session.proofs.PassLaws.{IsGoodState, faces_between, seen}
use Rattle.sm_session.proofs.TagLaws.{state_taken}
use Rattle.sm_session.proofs.TruthLaws.{logged_in}
use Rattle.sm_session.specs.Truth.{AllTruthful, AreTold, ShownBy}
use Rattle.sm_standing.proofs.LogLaws.{listed}
use Rattle.sm_standing.specs.Contents.{Content}
use Rattle.sm_standing.specs.Logs.{logs}
use Rattle.sm_standing.specs.Standing.{disks}
use Rattle.vg_meta.specs.Tables.{VolumeTable}
use Rattle.vg_volumes.specs.Sites.{Site, area_size}
use Rattle.vg_volumes.specs.declared.stores.Store.{Ghosts}
use Rattle.vhd_import.specs.declared.faults.ImportFault.{ImportFault}
use Rattle.vhd_import.specs.declared.faults.ImportFault.TheVariants as fault

-- ---- the disk that is made

-- where nothing refuses the UUID it is that of no log
not_logged : (s : Shape) → IsWellFormed s → AreGoodLogs s → (u : List ℕ) → entry_refusal s u ≡ None → (l : Log) → In l s.logs → l.disk ≡ u → ⊥
unfolding entry_refusal is_taken new_uuid
not_logged s w good u none l i same =
    let one = first_none (is_reserved (as_create u)) _ _ none in
    let two = first_none (is_taken s (as_create u)) _ _ one.1 in
    let r = (good.good l i).disk in
    Fresh.no_record s w u two.0 r.0 r.1 (r.2 ∙ same)

module _ (s : Shape) (w : IsWellFormed s) (good : AreGoodLogs s) (u : List ℕ) (content : Option (List ℕ)) (was : List Disk) where
  -- a disk at the end with the UUID of a log is one from before
  abbrev pub IsFresh : List Disk → Type 0
  IsFresh ends = (l : Log) → In l s.logs → (d : Disk) → In d ends → d.uuid ≡ l.disk → In d was

  -- what was refused is refused alone
  pub ends_fresh : (ends : List Disk) (result : Result ℕ ImportFault) → ((r : Refusal) → entry_refusal s u ≡ Some r → result ≡ Err (fault.Refused r)) → EndsWith (target_in s) u content was ends result
      → ((d : Disk) → In d ends → (d.uuid ≡ u) ⊎ In d was) → IsFresh ends
  ends_fresh ends result refused with others = by (entry_refusal s u) refl
    where
      by : (o : Option Refusal) → entry_refusal s u ≡ o → IsFresh ends
      by None e = λ l i d j own. ⊎_elim (λ same. absurd (not_logged s w good u e l i (sym own ∙ same))) (λ k. k) (others d j)
      by (Some r) e = let same : ends ≡ was = subst (EndsWith (target_in s) u content was ends) (refused r e) with in (λ l i d j own. subst (In d) same j)

-- ---- whatever a stop leaves

module _ {S : Type 0} {g : Ghosts S} {a n : S} {m m' : Memory} {u : List ℕ} {content : Option (List ℕ)} {result : Result ℕ ImportFault} (i : HasImported g u content m m' a n result)
    (orderly : IsOrderlyStore g a m) (usable : g.failed a ≡ false) (told : g.told) (ready : IsReadyStore g a m) (good : ∥ AreGoodLogs (store_shape g a m) ∥₁) (was_told : AreTold (g.site a) (StoreLeaves g a) (store_shape g a m)) where
  abbrev σ : State
  σ = store_state g a m

  -- what a read gives may be shown
  read_may : (v : List ℕ) (k : ℕ) (x : List ℕ) → HasSector σ.disks v k x → ShownBy (g.site a) (StoreLeaves g a) v k x
  read_may v k x has = (
    σ.disks,
    record { table = tab g a; image = reads (g.area a); left = inr (told, usable, record { table_is = refl; sectors = Allows-reads (area_size (g.site a)) (g.area a) }); shown = refl },
    has,
  )

  pub imported_truthful : ((r : Refusal) → entry_refusal (shape_of g a m) u ≡ Some r → result ≡ Err (fault.Refused r)) → m'.logs ≡ m.logs → AllTruthful (g.site a) (StoreLeaves g n)
  unfolding shape_in
  imported_truthful refused same v image left = record {
    taken = λ l j tagged d k own. ∥∥₁_elim orderly.well_formed (hlevel props) (λ w. ∥∥₁_elim good (hlevel props) (λ x.
        let now : IsGoodState σ = record { well = w; are = are_disks (g.site a) (tab g a) (g.area a) (known m) orderly ready w; good = x } in
        let kept : (e : Disk) → In e σ.disks → face d ≡ face e → d.read_only ≡ true =
        λ e at alike. ap (λ (f : Face). f.read_only) alike ∙ state_taken σ now was_told.taken l (there l j) tagged e at (sym (ap (λ (f : Face). f.uuid) alike) ∙ own) in
        ⊎_elim (λ early. (let e = seen d (disks c) σ.disks k early in kept e.0 e.1 e.2))
        (λ late. (let e = seen d (disks c) i.ends k late in kept e.0
        (ends_fresh σ.shape w x u content σ.disks i.ends result refused i.ends_with i.others l (there l j) e.0 e.1 (sym (ap (λ (f : Face). f.uuid) e.2) ∙ own)) e.2))
        (faces_between (MayShow (g.site a) (StoreLeaves g a)) σ.disks i.ends (disks c) between)));
    told = λ p q k x y in_p in_q follows sx sy ne. ∥∥₁_elim orderly.well_formed (hlevel props) (λ w. ∥∥₁_elim good (hlevel props) (λ z.
        tells_elsewhere (ShownBy (g.site a) (StoreLeaves g a)) (HasSector (disks c)) m.logs (logs c) was_told.tells there
        (λ l b s j has. ⊎_elim (λ still. still.sectors l.disk b s has) (λ already. ⊎_elim (λ before. before) (λ (e : HasSector i.ends l.disk b s).
        read_may l.disk b s (record {
          disk = e.disk;
          is_there = ends_fresh σ.shape w z u content σ.disks i.ends result refused i.ends_with i.others l (there l j) e.disk e.is_there e.is_named;
          is_named = e.is_named;
          holds = e.holds;
        })) (already.sectors l.disk b s has)) between)
        p q k x y in_p in_q follows sx sy ne));
  }
    where
      c : Content
      c = content_in (g.site a) v image

      between : IsBetween (MayShow (g.site a) (StoreLeaves g a)) σ.disks i.ends (disks c)
      between = (i.done.crash v image left).1

      there : (l : Log) → In l (logs c) → In l m.logs
      there l j = subst (In l) same (logged_in c m'.logs (logs c) (i.done.logged v image left) (λ k b. (listed c k b).here) l j)
