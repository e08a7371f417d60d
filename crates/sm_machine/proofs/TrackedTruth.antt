-- What logs tell of disks stays true over each step.
use Rattle.std.proofs.Common.{◌≡◌, ℕ, ◌/◌, true, false, not, List, length, Option, Some, None, refl}
use Rattle.std.specs.Prelude.{is_none}
use Rattle.std.specs.List.{find}
use Rattle.std.proofs.lemmas.Bool.{or_parts}
use Rattle.std.proofs.lemmas.List.{length-replicate}
use Rattle.common_laws.specs.Lists.{In}
use Rattle.common_laws.proofs.Lists.{In-filter, In-insert}
use Rattle.sm_base.specs.declared.refusals.Refusal.{Refusal}
use Rattle.sm_log.specs.Logs.{Log, is_log_of, log_before, new_log, on_log, with_log, split, touched, without_log}
use Rattle.sm_log.specs.Told.{Tells}
use Rattle.sm_log.proofs.TellLaws.{tells_begun, tells_elsewhere}
use Rattle.sm_log.proofs.LineLaws.{tells_guest, tells_split}
use Rattle.sm_machine.specs.declared.commands.Command.{Command}
use Rattle.sm_machine.specs.declared.commands.Command.TheVariants.{Create, Delete, Attach, Detach, Snapshot, Clone, Resize, Label, Write, Fill, Read, Flush, Gc, List as Listing, Stat, Track, Changed}
use Rattle.sm_machine.specs.Disks.{Disk, filled, is_disk, on_disk, sector_bytes, sectors_of_bytes}
use Rattle.sm_machine.specs.Shapes.{Shape, attached_as, is_ro}
use Rattle.sm_machine.specs.Refusals.{disk_pieces, log_room, is_not_attached, is_outside, is_out_of_range, is_read_only, refusal}
use Rattle.sm_machine.specs.Runs.{HasSector}
use Rattle.sm_machine.specs.Steps.{State, accepted, disks_next, written_disk}
use Rattle.sm_machine.specs.Tracking.{AreGoodLogs, AreOfSnapshots, begun, ended, logs_after, tracked_step, tracked_unless}
use Rattle.sm_machine.specs.WellFormed.{AreDisksOf, IsWellFormed}
use Rattle.sm_machine.proofs.Forks.{IsForkable}
use Rattle.sm_machine.proofs.Passed.{IsPassed, passed}
use Rattle.sm_machine.proofs.Steps.{snapshot_facts}
use Rattle.sm_machine.proofs.Together.{length-cut}
use Rattle.sm_machine.proofs.TrackedDisks.{Had, fits, fork, had_forked, had_next, less, no_disk, no_twin, same, writes, written}

-- ---- tracking begins, and ends

pub begun_tells : (disks : List Disk) (s : Shape) (u : List ℕ) → Tells (HasSector disks) s.logs → Tells (HasSector disks) (begun s u).logs
unfolding with_log
begun_tells disks s u tells = let new : Log = new_log u (log_room s u) (disk_pieces u s) in
    tells_begun (HasSector disks) s.logs (with_log new s.logs) new tells refl refl (λ m h. In-insert log_before new s.logs m h)

pub ended_tells : (disks : List Disk) (s : Shape) (u : List ℕ) → Tells (HasSector disks) s.logs → Tells (HasSector disks) (ended s u).logs
ended_tells disks s u tells =
    tells_elsewhere (HasSector disks) (HasSector disks) s.logs (without_log u s.logs) tells (λ l h. (In-filter (λ (x : Log). not (is_log_of u x)) s.logs l h).0) (λ l k x h i. i)

-- ---- from one state to the next

module _ (disks : List Disk) (s : Shape) (w : IsWellFormed s) (a : AreDisksOf disks s) (g : AreGoodLogs s) (marked : AreOfSnapshots s) (tells : Tells (HasSector disks) s.logs) where
  -- disks with logs show nothing new
  elsewhere : (new : List Disk) → ((l : Log) → In l s.logs → Had disks new l.disk) → Tells (HasSector new) s.logs
  elsewhere new had = tells_elsewhere (HasSector disks) (HasSector new) s.logs s.logs tells (λ l h. h) (λ l k x h. had l h k x)

  -- sectors of a disk that is attached for writing are written
  write_tells : (u : List ℕ) (sector count : ℕ) (sectors : List (List ℕ)) → length sectors ≡ count → is_outside s u sector count ≡ false → is_none (attached_as u s) ≡ false → is_ro (attached_as u s) ≡ false
      → Tells (HasSector (on_disk u (written_disk sector sectors) disks)) (on_log u (touched sector count) s.logs)
  write_tells u sector count sectors n in_range attached writable =
      tells_guest (HasSector disks) (HasSector (on_disk u (written_disk sector sectors) disks)) s.logs u sector count tells
      (written disks s w a g u sector count sectors n in_range) (fits disks s w a g u sector count sectors n in_range marked attached writable)

  split_tells : (u twin : List ℕ) (f : IsForkable s u twin) → Tells (HasSector (fork disks s w a g u twin f)) (split u twin s.sequence s.logs)
  split_tells u twin f = tells_split (HasSector (fork disks s w a g u twin f)) s.logs u twin s.sequence
      (elsewhere (fork disks s w a g u twin f) (λ l h. had_forked u twin true (find (is_disk u) disks) disks l.disk (no_disk disks s w a g twin (no_twin disks s w a g u twin f) l h))) g.one_log
      (λ l h. ((g.good l h).tag, (g.good l h).since)) (less disks s w a g u twin f) (same disks s w a g u twin f)

  -- ---- every command

  -- one that writes no sectors, where the logs stay
  still : (c : Command) → IsPassed s c → writes c ≡ false → Tells (HasSector (disks_next disks s c)) s.logs
  still c p no_write = elsewhere (disks_next disks s c) (had_next disks s w a g c p no_write)

  next_tells : (c : Command) → IsPassed s c → Tells (HasSector (disks_next disks s c)) (logs_after s c)
  unfolding disks_next logs_after is_out_of_range is_not_attached is_read_only writes
  next_tells (Create u size raw label) p = still (Create u size raw label) p refl
  next_tells (Delete u) p = tells_elsewhere (HasSector (disks_next disks s (Delete u))) _ s.logs (without_log u s.logs) (still (Delete u) p refl) (λ l h. (In-filter (λ (x : Log). not (is_log_of u x)) s.logs l h).0) (λ l k x h i. i)
  next_tells (Attach u mode) p = tells
  next_tells (Detach u) p = tells
  next_tells (Snapshot u twin) p = split_tells u twin (snapshot_facts s u twin p)
  next_tells (Clone u twin) p = still (Clone u twin) p refl
  next_tells (Resize u size) p = still (Resize u size) p refl
  next_tells (Label u text) p = still (Label u text) p refl
  next_tells (Write u sector bytes) p = write_tells u sector (length bytes / sector_bytes) (sectors_of_bytes bytes) (length-cut (length bytes / sector_bytes) bytes)
      (or_parts (is_outside s u sector (length bytes / sector_bytes)) _ p.out_of_range).0 p.not_attached p.read_only
  next_tells (Fill u sector count byte) p = write_tells u sector count (filled count byte) (length-replicate count _) p.out_of_range p.not_attached p.read_only
  next_tells (Read u sector count) p = tells
  next_tells (Flush u) p = tells
  next_tells Gc p = tells
  next_tells Listing p = tells
  next_tells Stat p = tells
  next_tells (Track u true) p = begun_tells disks s u tells
  next_tells (Track u false) p = ended_tells disks s u tells
  next_tells (Changed u n) p = tells

tells_by : (σ : State) (c : Command) (o : Option Refusal) → refusal σ.shape c ≡ o → IsWellFormed σ.shape → AreDisksOf σ.disks σ.shape → AreGoodLogs σ.shape → AreOfSnapshots σ.shape
    → Tells (HasSector σ.disks) σ.shape.logs → Tells (HasSector ((tracked_unless o σ c).after.disks)) ((tracked_unless o σ c).after.shape.logs)
unfolding accepted
tells_by σ c (Some r) e w a g marked tells = tells
tells_by σ c None e w a g marked tells = next_tells σ.disks σ.shape w a g marked tells c (passed σ.shape c e)

pub tracked_step_tells : (σ : State) (c : Command) → IsWellFormed σ.shape → AreDisksOf σ.disks σ.shape → AreGoodLogs σ.shape → AreOfSnapshots σ.shape
    → Tells (HasSector σ.disks) σ.shape.logs → Tells (HasSector ((tracked_step σ c).after.disks)) ((tracked_step σ c).after.shape.logs)
unfolding tracked_step
tracked_step_tells σ c w a g marked tells = tells_by σ c (refusal σ.shape c) refl w a g marked tells
