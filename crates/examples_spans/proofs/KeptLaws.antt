-- Two parts are kept where the device that they are is.
use Rattle.std.proofs.Common.{◌≡◌, ℕ, ◌+◌, inl, inr, subst}
use Rattle.sm_disk.specs.Memory.{Memory, held_by}
use Rattle.sm_span.proofs.PartLaws.{parts_allow}
use Rattle.sm_standing.specs.Devices.{IsKeptOn}
use Rattle.lvhd_command.specs.Devices.{IsKeptDevice}
use Rattle.lvhd_command.specs.Running.{RunSides, RunDid}
use Rattle.lvhd_command.specs.declared.statuses.Status.{Status}
use Rattle.examples_spans.specs.Sides.{AreKept, two_hold}

pub device_kept : (first second : Memory) → AreKept first second → IsKeptDevice (first.sectors + second.sectors) (two_hold first second)
device_kept first second kept = λ image allowed.
    kept image ((parts_allow first.sectors second.sectors (held_by first.slots) (held_by second.slots) image).0 allowed)

pub parts_kept : (first second : Memory) (size : ℕ) → first.sectors + second.sectors ≡ size → IsKeptDevice size (two_hold first second) → AreKept first second
parts_kept first second size same kept = λ image parts.
    let P : ℕ → Type 0 = λ n. IsKeptDevice n (two_hold first second) → IsKeptOn (first.sectors + second.sectors) image in
    subst P same
    (λ whole. whole image ((parts_allow first.sectors second.sectors (held_by first.slots) (held_by second.slots) image).1 parts))
    kept

-- a run leaves the device kept
pub run_keeps : (s : RunSides) (status : Status) → RunDid s status → IsKeptDevice s.size s.new
run_keeps s status (inl ran) = ran.did.kept
run_keeps s status (inr closed) = closed.kept
