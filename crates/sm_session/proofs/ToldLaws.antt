-- What a stop leaves of a part of a command tells the truth.
use Rattle.std.proofs.Common.{◌≡◌, ◌⊎◌, inl, inr, ⊎_elim, ℕ, Bool, true, false, List, length, map, Option, Some, None, refl, sym, ap, ◌∙◌, subst}
use Rattle.std.proofs.Math.Logic.{∥∥₁_elim}
use Rattle.std.proofs.Props.{props}
use Rattle.common_laws.specs.Lists.{In}
use Rattle.vg_meta.specs.Tables.{VolumeTable}
use Rattle.vg_volumes.specs.Sites.{Site}
use Rattle.vg_volumes.specs.declared.stores.Store.{Ghosts}
use Rattle.sm_log.specs.Logs.{Log, on_log, touched}
use Rattle.sm_machine.proofs.Tracked.{tracked_keeps_disks, tracked_step_keeps_shape}
use Rattle.sm_machine.proofs.TrackedDisks.{writes}
use Rattle.sm_machine.proofs.TrackedLogs.{tracked_step_keeps_logs}
use Rattle.sm_machine.proofs.TrackedSnapshots.{tracked_step_keeps_snapshots}
use Rattle.sm_machine.specs.Disks.{Disk}
use Rattle.sm_machine.specs.Refusals.{refusal}
use Rattle.sm_machine.specs.Steps.{State}
use Rattle.sm_machine.specs.Tracking.{AreGoodLogs, AreOfSnapshots, tracked_step}
use Rattle.sm_machine.specs.WellFormed.{IsWellFormed}
use Rattle.sm_machine.specs.declared.commands.Command.{Command}
use Rattle.sm_machine.specs.declared.commands.Command.TheVariants as command
use Rattle.sm_standing.specs.Contents.{Content}
use Rattle.sm_standing.specs.Standing.{disks}
use Rattle.sm_ready.proofs.ChainLaws.{tab}
use Rattle.sm_ready.proofs.DiskShape.{are_disks}
use Rattle.sm_ready.proofs.TakenLaws.{IsTold}
use Rattle.sm_ready.specs.Known.{known, shape_in}
use Rattle.sm_ready.specs.Sessions.{store_state}
use Rattle.sm_ready.specs.Stores.{MayShow, StoreLeaves, content_in}
use Rattle.sm_ready.specs.declared.memory.Memory.{Memory}
use Rattle.sm_tracking.specs.Tracking.{HasChangedLogs, IsLoggedBetween}
use Rattle.sm_session.specs.Truth.{AreTaken, AreTold, LeavesTold, StandIn}
use Rattle.sm_session.proofs.PassLaws.{IsGoodState, CarriesLogs, faces_between, step_carried}
use Rattle.sm_session.proofs.ShownLaws.{AreBetween, IsWriteOf, grown_tells, marked_tells, still_tells}
use Rattle.sm_session.proofs.TagLaws.{carried_taken}
use Rattle.sm_session.proofs.TruthLaws.{Grow, grown_left}

-- commands that write no sectors
pub no_write : (c : Command) → ((u : List ℕ) (sector : ℕ) (bytes : List ℕ) → c ≡ command.Write u sector bytes → ⊥) → ((u : List ℕ) (sector count byte : ℕ) → c ≡ command.Fill u sector count byte → ⊥) → writes c ≡ false
unfolding writes
no_write (command.Write u sector bytes) not_write not_fill = absurd (not_write u sector bytes refl)
no_write (command.Fill u sector count byte) not_write not_fill = absurd (not_fill u sector count byte refl)
no_write _ not_write not_fill = refl

pub delete_still : (c : Command) (u : List ℕ) → c ≡ command.Delete u → writes c ≡ false
unfolding writes
delete_still c u is = ap writes is

pub track_still : (u : List ℕ) (on : Bool) → writes (command.Track u on) ≡ false
unfolding writes
track_still u on = refl

pub changed_still : (u n : List ℕ) → writes (command.Changed u n) ≡ false
unfolding writes
changed_still u n = refl

pub snapshot_still : (u twin : List ℕ) → writes (command.Snapshot u twin) ≡ false
unfolding writes
snapshot_still u twin = refl

module _ {S : Type 0} {g : Ghosts S} {a : S} {m : Memory} (h : IsTold g a m) (good : ∥ AreGoodLogs (store_state g a m).shape ∥₁) where
  abbrev was : State
  was = store_state g a m

  -- logs that a stop leaves stand between those of memory and these
  abbrev pub AreLogged : S → List Log → Type 0
  AreLogged b new = (v : VolumeTable) (image : ℕ → List ℕ) → StoreLeaves g b v image → IsLoggedBetween (content_in (g.site a) v image) m.logs new

  pub good_was : IsWellFormed was.shape → AreGoodLogs was.shape → IsGoodState was
  good_was w x = record { well = w; are = are_disks (g.site a) (tab g a) (g.area a) (known m) h.orderly h.ready w; good = x }

  pub good_now : (c : Command) → IsWellFormed was.shape → AreGoodLogs was.shape → IsGoodState ((tracked_step was c).after)
  good_now c w x = record { well = tracked_step_keeps_shape was c w x; are = tracked_keeps_disks was c w (good_was w x).are; good = tracked_step_keeps_logs was c w x }

  module _ (b : S) (c : Command) (carries : CarriesLogs was.shape c) (between : AreBetween h b ((tracked_step was c).after.disks)) (logged : AreLogged b ((tracked_step was c).after.shape.logs)) where
    -- each log with a tag is that of a read-only disk
    taken_left : AreOfSnapshots was.shape → (v : VolumeTable) (image : ℕ → List ℕ) → StoreLeaves g b v image → (ls : List Log) → StandIn (content_in (g.site a) v image) ls → AreTaken (disks (content_in (g.site a) v image)) ls
    unfolding shape_in
    taken_left marked v image left ls stand = ∥∥₁_elim h.orderly.well_formed (hlevel props) (λ w. ∥∥₁_elim good (hlevel props) (λ x.
        let k : Content = content_in (g.site a) v image in
        carried_taken k (disks k) was ((tracked_step was c).after) (good_was w x) (good_now c w x) marked (tracked_step_keeps_snapshots was c w x marked)
        (faces_between (MayShow (g.site a) (StoreLeaves g a)) was.disks ((tracked_step was c).after.disks) (disks k) (between v image left)) (step_carried was c carries) (logged v image left) ls stand))

    -- a command that writes no sectors, and leaves logs of memory alone
    pub still_told : writes c ≡ false → (IsGoodState was → (v : VolumeTable) (image : ℕ → List ℕ) → StoreLeaves g b v image → (ls : List Log) → StandIn (content_in (g.site a) v image) ls → (l : Log) → In l ls → In l m.logs)
        → AreTold (g.site a) (StoreLeaves g a) was.shape → LeavesTold (g.site a) (StoreLeaves g b)
    unfolding shape_in
    still_told still there told v image left ls stand = (
      taken_left told.taken v image left ls stand,
      ∥∥₁_elim h.orderly.well_formed (hlevel props) (λ w. ∥∥₁_elim good (hlevel props) (λ x. still_tells h (good_was w x) told.tells b c ls still between (there (good_was w x) v image left ls stand))),
    )

    -- a call that changes logs, each of which has more bits then, or begins
    pub grown_told : (n : Memory) (new : List Log) (ok : Type 0) → HasChangedLogs g a m b n new ok → Grow m.logs new → AreTold (g.site a) (StoreLeaves g a) was.shape → LeavesTold (g.site a) (StoreLeaves g b)
    unfolding shape_in
    grown_told n new ok x grow told v image left ls stand = (
      taken_left told.taken v image left ls stand,
      ∥∥₁_elim h.orderly.well_formed (hlevel props) (λ w. ∥∥₁_elim good (hlevel props) (λ y.
          grown_tells h (good_was w y) told.tells b n new ls ok x (grown_left (content_in (g.site a) v image) m.logs new ls y.one_log grow (at_site v image left) stand))),
    )
      where
        at_site : (v : VolumeTable) (image : ℕ → List ℕ) → StoreLeaves g b v image → IsLoggedBetween (content_in (g.site a) v image) m.logs new
        at_site v image left = x.logged v image left

    -- sectors are written behind marks
    pub marked_told : (u : List ℕ) (sector count : ℕ) → IsWriteOf c u sector count → refusal was.shape c ≡ None
        → ((v : VolumeTable) (image : ℕ → List ℕ) → StoreLeaves g b v image → (ls : List Log) → StandIn (content_in (g.site a) v image) ls → (l : Log) → In l ls → In l (on_log u (touched sector count) m.logs))
        → AreTold (g.site a) (StoreLeaves g a) was.shape → LeavesTold (g.site a) (StoreLeaves g b)
    unfolding shape_in
    marked_told u sector count is passes there told v image left ls stand = (
      taken_left told.taken v image left ls stand,
      ∥∥₁_elim h.orderly.well_formed (hlevel props) (λ w. ∥∥₁_elim good (hlevel props) (λ x. marked_tells h (good_was w x) told.tells b c u sector count ls is passes told.taken between (there v image left ls stand))),
    )
