-- What a stop may show behind a part of a command, and what the logs that it leaves tell of that.
use Rattle.std.proofs.Common.{◌≡◌, ◌⊎◌, inl, inr, ⊎_elim, ℕ, ◌+◌, ◌*◌, ◌/◌, ◌<◌, ◌≤◌, true, false, List, length, map, Option, Some, None, refl, sym, ap, ◌∙◌, subst}
use Rattle.std.proofs.lemmas.Bool.{or_parts}
use Rattle.std.proofs.lemmas.List.{length-replicate}
use Rattle.common_laws.specs.Lists.{In, Distinct}
use Rattle.sm_base.specs.declared.refusals.Refusal.{Refusal}
use Rattle.sm_disk.proofs.HeldLaws.{Allows-reads}
use Rattle.sm_disk.specs.Held.{IsSettled, reads}
use Rattle.vg_meta.specs.Roomy.{table_alone}
use Rattle.vg_meta.specs.Tables.{VolumeTable}
use Rattle.vg_volumes.specs.Sites.{Site, area_size}
use Rattle.vg_volumes.specs.declared.stores.Store.{Ghosts}
use Rattle.sm_log.specs.Logs.{Log, log_of, on_log, touched, twin_log, with_log, begun_anew}
use Rattle.sm_log.specs.Told.{IsWithin, Tells}
use Rattle.sm_log.proofs.LineLaws.{tells_guest}
use Rattle.sm_log.proofs.TellLaws.{tells_elsewhere}
use Rattle.sm_machine.proofs.Passed.{passed}
use Rattle.sm_machine.proofs.Steps.{snapshot_facts}
use Rattle.sm_machine.proofs.Together.{length-cut}
use Rattle.sm_machine.proofs.TrackedDisks.{fits, had_next, less, same, writes, written}
use Rattle.sm_machine.specs.Disks.{Disk, filled, on_disk, sector_bytes, sectors_of_bytes}
use Rattle.sm_machine.specs.Refusals.{is_not_attached, is_out_of_range, is_outside, is_read_only, refusal}
use Rattle.sm_machine.specs.Runs.{HasSector}
use Rattle.sm_machine.specs.Shapes.{attached_as, is_ro}
use Rattle.sm_machine.specs.Steps.{State, accepted, disks_next, written_disk}
use Rattle.sm_machine.specs.Tracking.{AreGoodLogs, AreOfSnapshots, tracked_step, tracked_unless}
use Rattle.sm_machine.specs.WellFormed.{AreDisksOf, IsWellFormed}
use Rattle.sm_machine.specs.declared.commands.Command.{Command}
use Rattle.sm_machine.specs.declared.commands.Command.TheVariants as command
use Rattle.sm_run.specs.Between.{IsBetween}
use Rattle.sm_standing.specs.Standing.{disks}
use Rattle.sm_ready.specs.Known.{shape_in}
use Rattle.sm_ready.specs.Sessions.{store_state}
use Rattle.sm_ready.specs.Stores.{Leaving, MayShow, StoreLeaves, content_in}
use Rattle.sm_ready.specs.declared.memory.Memory.{Memory}
use Rattle.sm_ready.proofs.TakenLaws.{IsTold}
use Rattle.sm_tracking.specs.Tracking.{HasChangedLogs}
use Rattle.sm_session.specs.Truth.{ShownBy}
use Rattle.sm_session.proofs.PassLaws.{IsGoodState}
use Rattle.sm_session.proofs.TruthLaws.{HaveMoreOrBegin, IsOfSplit, tells_from, tells_left}

-- ---- the machine's disks

-- disks with a log show nothing new behind a command that writes no sectors
had_by : (σ : State) (c : Command) (o : Option Refusal) → refusal σ.shape c ≡ o → IsGoodState σ → writes c ≡ false → (l : Log) → In l σ.shape.logs → (k : ℕ) (x : List ℕ) → HasSector ((tracked_unless o σ c).after.disks) l.disk k x → HasSector σ.disks l.disk k x
unfolding accepted
had_by σ c None e g no_write l i k x h = had_next σ.disks σ.shape g.well g.are g.good c (passed σ.shape c e) no_write l i k x h
had_by σ c (Some r) e g no_write l i k x h = h

pub had_after : (σ : State) (c : Command) → IsGoodState σ → writes c ≡ false → (l : Log) → In l σ.shape.logs → (k : ℕ) (x : List ℕ) → HasSector ((tracked_step σ c).after.disks) l.disk k x → HasSector σ.disks l.disk k x
unfolding tracked_step
had_after σ c g no_write l i k x h = had_by σ c (refusal σ.shape c) refl g no_write l i k x h

-- so many sectors of a disk are written from one on
abbrev pub IsWriteOf : Command → List ℕ → ℕ → ℕ → Type 0
IsWriteOf c u sector count = ((bytes : List ℕ) × (c ≡ command.Write u sector bytes) × (count ≡ length bytes / sector_bytes)) ⊎ ((byte : ℕ) × (c ≡ command.Fill u sector count byte))

-- what is written lies on the disk that is named, within the sectors that are named, and its log has bits for them
pub record WritesWithin (σ : State) (new : List Disk) (u : List ℕ) (sector count : ℕ) : Type 0 where
  pub shown : (v : List ℕ) (k : ℕ) (x : List ℕ) → HasSector new v k x → HasSector σ.disks v k x ⊎ ((v ≡ u) × IsWithin sector count k)
  pub fit : AreOfSnapshots σ.shape → (l : Log) → In l σ.shape.logs → l.disk ≡ u → (l.tag ≡ 0) × (sector + count ≤ 128 * length l.bits)

write_within : (σ : State) (u : List ℕ) (sector : ℕ) (bytes : List ℕ) → IsGoodState σ → refusal σ.shape (command.Write u sector bytes) ≡ None
    → WritesWithin σ (disks_next σ.disks σ.shape (command.Write u sector bytes)) u sector (length bytes / sector_bytes)
unfolding disks_next is_out_of_range is_not_attached is_read_only
write_within σ u sector bytes g passes =
    let p = passed σ.shape (command.Write u sector bytes) passes in
    let in_range = (or_parts (is_outside σ.shape u sector (length bytes / sector_bytes)) _ p.out_of_range).0 in
    record {
      shown = written σ.disks σ.shape g.well g.are g.good u sector (length bytes / sector_bytes) (sectors_of_bytes bytes) (length-cut (length bytes / sector_bytes) bytes) in_range;
      fit = λ marked. fits σ.disks σ.shape g.well g.are g.good u sector (length bytes / sector_bytes) (sectors_of_bytes bytes) (length-cut (length bytes / sector_bytes) bytes) in_range marked p.not_attached p.read_only;
    }

fill_within : (σ : State) (u : List ℕ) (sector count byte : ℕ) → IsGoodState σ → refusal σ.shape (command.Fill u sector count byte) ≡ None
    → WritesWithin σ (disks_next σ.disks σ.shape (command.Fill u sector count byte)) u sector count
unfolding disks_next is_out_of_range is_not_attached is_read_only
fill_within σ u sector count byte g passes =
    let p = passed σ.shape (command.Fill u sector count byte) passes in
    record {
      shown = written σ.disks σ.shape g.well g.are g.good u sector count (filled count byte) (length-replicate count _) p.out_of_range;
      fit = λ marked. fits σ.disks σ.shape g.well g.are g.good u sector count (filled count byte) (length-replicate count _) p.out_of_range marked p.not_attached p.read_only;
    }

next_within : (σ : State) (c : Command) (u : List ℕ) (sector count : ℕ) → IsWriteOf c u sector count → IsGoodState σ → refusal σ.shape c ≡ None → WritesWithin σ (disks_next σ.disks σ.shape c) u sector count
next_within σ c u sector count (inl w) g passes =
    subst (λ (k : Command). WritesWithin σ (disks_next σ.disks σ.shape k) u sector count) (sym w.1)
    (subst (WritesWithin σ (disks_next σ.disks σ.shape (command.Write u sector w.0)) u sector) (sym w.2) (write_within σ u sector w.0 g (subst (λ (k : Command). refusal σ.shape k ≡ None) w.1 passes)))
next_within σ c u sector count (inr w) g passes =
    subst (λ (k : Command). WritesWithin σ (disks_next σ.disks σ.shape k) u sector count) (sym w.1)
    (fill_within σ u sector count w.0 g (subst (λ (k : Command). refusal σ.shape k ≡ None) w.1 passes))

within_by : (σ : State) (c : Command) (u : List ℕ) (sector count : ℕ) (o : Option Refusal) → o ≡ None → WritesWithin σ (disks_next σ.disks σ.shape c) u sector count → WritesWithin σ ((tracked_unless o σ c).after.disks) u sector count
unfolding accepted
within_by σ c u sector count None e w = w
within_by σ c u sector count (Some r) e w = cc

pub after_within : (σ : State) (c : Command) (u : List ℕ) (sector count : ℕ) → IsWriteOf c u sector count → IsGoodState σ → refusal σ.shape c ≡ None → WritesWithin σ ((tracked_step σ c).after.disks) u sector count
unfolding tracked_step
after_within σ c u sector count is g passes = within_by σ c u sector count (refusal σ.shape c) passes (next_within σ c u sector count is g passes)

-- ---- what may be shown

module _ {S : Type 0} {g : Ghosts S} {a : S} {m : Memory} (h : IsTold g a m) where
  abbrev was : State
  was = store_state g a m

  -- what may be shown as the command begins
  abbrev pub Before : List ℕ → ℕ → List ℕ → Type 0
  Before = ShownBy (g.site a) (StoreLeaves g a)

  -- what a stop may show of a store
  abbrev pub Behind : S → List ℕ → ℕ → List ℕ → Type 0
  Behind b = ShownBy (g.site a) (StoreLeaves g b)

  -- what a read gives may be shown
  now_shown : MayShow (g.site a) (StoreLeaves g a) was.disks
  now_shown = record {
    table = table_alone (g.table a);
    image = reads (g.area a);
    left = inr (h.told, h.usable, record { table_is = refl; sectors = Allows-reads (area_size (g.site a)) (g.area a) });
    shown = refl;
  }

  pub read_shown : (v : List ℕ) (k : ℕ) (x : List ℕ) → HasSector was.disks v k x → Before v k x
  read_shown v k x has = (was.disks, now_shown, has)

  -- a stop shows disks between those of before and these
  abbrev pub AreBetween : S → List Disk → Type 0
  AreBetween b new = (v : VolumeTable) (image : ℕ → List ℕ) → StoreLeaves g b v image → IsBetween (MayShow (g.site a) (StoreLeaves g a)) was.disks new (disks (content_in (g.site a) v image))

  pub either_shown : (b : S) (new : List Disk) → AreBetween b new → (v : List ℕ) (k : ℕ) (x : List ℕ) → Behind b v k x → Before v k x ⊎ HasSector new v k x
  either_shown b new between v k x w =
      let may = w.1 in
      let has = subst (λ (ds : List Disk). HasSector ds v k x) may.shown w.2 in
      ⊎_elim (λ still. inl (still.sectors v k x has)) (λ already. already.sectors v k x has) (between may.table may.image may.left)

  -- a call that changes logs shows nothing new
  pub call_shown : (b : S) (n : Memory) (ls : List Log) (ok : Type 0) → HasChangedLogs g a m b n ls ok → (v : List ℕ) (k : ℕ) (x : List ℕ) → Behind b v k x → Before v k x
  call_shown b n ls ok c v k x w =
      let may = w.1 in
      (disks (content_in (g.site a) may.table may.image), (c.crash may.table may.image may.left).1, subst (λ (ds : List Disk). HasSector ds v k x) may.shown w.2)

  pub later_shown : (b e : S) (n k : Memory) (ls : List Log) (ok : Type 0) → g.site b ≡ g.site a → HasChangedLogs g b n e k ls ok → (v : List ℕ) (i : ℕ) (x : List ℕ) → Behind e v i x → Behind b v i x
  later_shown b e n k ls ok site c v i x w =
      let may = w.1 in
      let stops = subst (λ (s : Site). (t : VolumeTable) (image : ℕ → List ℕ) → StoreLeaves g e t image → MayShow s (StoreLeaves g b) (disks (content_in s t image))) site (λ t image l. (c.crash t image l).1) in
      (disks (content_in (g.site a) may.table may.image), stops may.table may.image may.left, subst (λ (ds : List Disk). HasSector ds v i x) may.shown w.2)

  -- ---- what logs tell of it

  module _ (g_was : IsGoodState was) (tells : Tells Before m.logs) where
    -- a command that writes no sectors, where the logs left are those of memory
    pub still_tells : (b : S) (c : Command) (ls : List Log) → writes c ≡ false → AreBetween b ((tracked_step was c).after.disks) → ((l : Log) → In l ls → In l m.logs) → Tells (Behind b) ls
    unfolding shape_in
    still_tells b c ls no_write between there =
        tells_elsewhere Before (Behind b) m.logs ls tells there
        (λ l k x i s. ⊎_elim (λ p. p) (λ has. read_shown l.disk k x (had_after was c g_was no_write l (there l i) k x has)) (either_shown b _ between l.disk k x s))

    -- a call that changes logs, of which each is one of before with more bits, or begins
    pub grown_tells : (b : S) (n : Memory) (new ls : List Log) (ok : Type 0) → HasChangedLogs g a m b n new ok → HaveMoreOrBegin m.logs ls → Tells (Behind b) ls
    grown_tells b n new ls ok c more = tells_from Before (Behind b) m.logs ls tells more (λ l k x i s. call_shown b n new ok c l.disk k x s)

    -- sectors are written behind marks
    pub marked_tells : (b : S) (c : Command) (u : List ℕ) (sector count : ℕ) (ls : List Log) → IsWriteOf c u sector count → refusal was.shape c ≡ None → AreOfSnapshots was.shape → AreBetween b ((tracked_step was c).after.disks)
        → ((l : Log) → In l ls → In l (on_log u (touched sector count) m.logs)) → Tells (Behind b) ls
    unfolding shape_in
    marked_tells b c u sector count ls is passes marked between there =
        let w = after_within was c u sector count is g_was passes in
        tells_elsewhere (Behind b) (Behind b) (on_log u (touched sector count) m.logs) ls
        (tells_guest Before (Behind b) m.logs u sector count tells
        (λ v k x s. ⊎_elim (λ p. inl p) (λ has. ⊎_elim (λ q. inl (read_shown v k x q)) (λ q. inr q) (w.shown v k x has)) (either_shown b _ between v k x s)) (w.fit marked))
        there (λ l k x i s. s)

    -- the disk's log is split behind a snapshot, of which all lasts
    pub split_tells : (b : S) (u twin : List ℕ) (own : Log) (ls : List Log) → log_of u m.logs ≡ Some own → log_of twin m.logs ≡ None → refusal was.shape (command.Snapshot u twin) ≡ None
        → ((v : List ℕ) (k : ℕ) (x : List ℕ) → Behind b v k x → HasSector (disks_next was.disks was.shape (command.Snapshot u twin)) v k x)
        → ((l : Log) → In l ls → IsOfSplit u own (twin_log twin was.shape.sequence own) was.shape.sequence m.logs l) → Tells (Behind b) ls
    unfolding disks_next writes shape_in
    split_tells b u twin own ls found absent passes settled each =
        let c : Command = command.Snapshot u twin in
        let new : List Disk = disks_next was.disks was.shape c in
        let p = passed was.shape c passes in
        let f = snapshot_facts was.shape u twin p in
        tells_elsewhere (HasSector new) (Behind b) ls ls
        (tells_left u twin was.shape.sequence own m.logs found g_was.good.one_log absent (HasSector new) ls
        (tells_elsewhere Before (HasSector new) m.logs m.logs tells (λ l i. i) (λ l k x i has. read_shown l.disk k x (had_next was.disks was.shape g_was.well g_was.are g_was.good c p refl l i k x has)))
        (λ l i. (let q = g_was.good.good l i in (q.tag, q.since)))
        (less was.disks was.shape g_was.well g_was.are g_was.good u twin f) (same was.disks was.shape g_was.well g_was.are g_was.good u twin f) each)
        (λ l i. i) (λ l k x i s. settled l.disk k x s)
