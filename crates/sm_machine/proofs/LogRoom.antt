-- Behind the images that a snapshot makes there is room for its log.
use Rattle.std.proofs.Common.{◌≡◌, ℕ, ◌+◌, ◌-◌, ◌≤◌, Bool, true, false, List, None, refl, ap, arith}
use Rattle.std.proofs.lemmas.Bool.{ltb-false}
use Rattle.sm_machine.specs.declared.commands.Command.{Command}
use Rattle.sm_machine.specs.declared.commands.Command.TheVariants.{Snapshot, Track}
use Rattle.sm_machine.specs.Shapes.{Shape, disk_image, free, image_extents, risen}
use Rattle.sm_machine.specs.Refusals.{fork_need, lacks_space, log_need, need, refusal, with_image_of}
use Rattle.sm_machine.specs.Commits.{commits, is_given_up}
use Rattle.sm_machine.specs.Steps.{fork_images, fork_shape, given_up, shape_after, shape_next}
use Rattle.sm_machine.specs.WellFormed.{IsWellFormed}
use Rattle.sm_machine.proofs.Forks.{fork_extents}
use Rattle.sm_machine.proofs.Passed.{IsPassed, passed}
use Rattle.sm_machine.proofs.Steps.{snapshot_facts}
use Rattle.sm_machine.proofs.Tracks.{track_next}

-- neither an operation that is given up nor a count of commits takes room
free_given : (b : Bool) (t : Shape) (n : ℕ) → free (record (given_up b t) { sequence = n }) ≡ free t
unfolding free
free_given true t n = refl
free_given false t n = refl

snapshot_free : (s : Shape) (u twin : List ℕ) → free (shape_next s (Snapshot u twin)) ≡ free (fork_shape s u twin true)
unfolding shape_next shape_after
snapshot_free s u twin = free_given (is_given_up s (Snapshot u twin)) (fork_shape s u twin true) (risen s.sequence (commits s (Snapshot u twin)))

snapshot_room : (s : Shape) (u twin : List ℕ) → IsWellFormed s → refusal s (Snapshot u twin) ≡ None
    → log_need s (Snapshot u twin) ≤ free (fork_shape s u twin true)
unfolding free need lacks_space
snapshot_room s u twin w e =
    let p : IsPassed s (Snapshot u twin) = passed s (Snapshot u twin) e in
    let h : with_image_of (fork_need s u) (disk_image u s) + log_need s (Snapshot u twin) ≤ s.extents - (s.others + image_extents s.images) = ltb-false _ _ p.space in
    let grown : image_extents (fork_images s u twin (disk_image u s)) ≤ image_extents s.images + with_image_of (fork_need s u) (disk_image u s) = fork_extents s w u twin (snapshot_facts s u twin p) in
    omega (arith, grown, h)

track_room : (s : Shape) (u : List ℕ) → IsWellFormed s → refusal s (Track u true) ≡ None → log_need s (Track u true) ≤ free s
unfolding need lacks_space
track_room s u w e =
    let p : IsPassed s (Track u true) = passed s (Track u true) e in
    ltb-false (free s) (log_need s (Track u true)) p.space

pub tracked_room : (s : Shape) (c : Command) → IsWellFormed s → refusal s c ≡ None → log_need s c ≤ free (shape_next s c)
unfolding log_need
tracked_room s (Snapshot u twin) w e = omega (arith, snapshot_free s u twin, snapshot_room s u twin w e)
tracked_room s (Track u true) w e = omega (arith, ap free (track_next s u true w), track_room s u w e)
tracked_room s _ w e = omega arith
