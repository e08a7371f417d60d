use Rattle.std.proofs.Common.{◌≡◌, take, map, length}
use Rattle.sm_mgt.specs.Counts.{uuid_in}
use Rattle.sm_mgt.specs.Places.{place_count}
use Rattle.sm_mgt.proofs.counts.uuids_of.Given as goal

-- the UUIDs of the places so far
abbrev pub invariant-loop-place : goal.invariant-loop-place
invariant-loop-place l = (length l.uuids ≡ place_count) × (take l.place l.uuids ≡ map uuid_in (take l.place l.places))
