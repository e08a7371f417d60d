-- An outline while an image is being enlarged, whatever else is under way: no check fails with another table of the enlargement, nor
-- without it.
use Rattle.std.proofs.Common.{◌≡◌, ℕ, ◌≤◌, List, None, arith}
use Rattle.sm_base.specs.declared.names.Name.{Name}
use Rattle.sm_base.specs.declared.names.Name.TheVariants.{Inflate}
use Rattle.vg_meta.specs.Tables.{VolumeTable}
use Rattle.sm_standing.specs.Checks.{fault_of}
use Rattle.sm_standing.specs.Enlarging.{HasEntry, IsEnlarging}
use Rattle.sm_standing.specs.Opened.{undone}
use Rattle.sm_standing.specs.Outlines.{Outline}
use Rattle.sm_standing.specs.Undone.{IsBeingEnlarged, undone_at}
use Rattle.sm_standing.proofs.EnlargingLaws.{enlarging_sound, sound_before}
use Rattle.sm_standing.proofs.UndoneLaws.{entry_there, is_enlarging}

module _ (x : Outline) (sound : fault_of x ≡ None) (u : List ℕ) (extents : ℕ) (w : IsBeingEnlarged x.table u extents) (no_image : x.links (Inflate u extents) ≡ None) where
  abbrev t : VolumeTable
  t = x.table

  abbrev entry : Name
  entry = Inflate u extents

  -- without it, but for the sequence number
  abbrev before : Outline
  before = record x { table = undone_at t.sequence t }

  over : (v : VolumeTable) → t.sequence ≤ v.sequence → HasEntry entry u (undone t).volumes v.volumes → IsEnlarging before v u extents
  over v later has = is_enlarging t u extents w x t.sequence v no_image later has

  sound_first : fault_of before ≡ None
  sound_first = sound_before before t u extents (over t (omega arith) (entry_there t u extents w)) (omega arith) sound

  -- with the entry
  pub sound_with : (v : VolumeTable) → t.sequence ≤ v.sequence → HasEntry entry u (undone t).volumes v.volumes → fault_of (record x { table = v }) ≡ None
  sound_with v later has = enlarging_sound before v u extents (over v later has) sound_first

  -- without it
  pub sound_without : (sequence : ℕ) → t.sequence ≤ sequence → fault_of (record x { table = undone_at sequence t }) ≡ None
  sound_without sequence later =
      sound_before (record x { table = undone_at sequence t }) late u extents (is_enlarging t u extents w x sequence late no_image (omega arith) (entry_there t u extents w)) (omega arith)
      (sound_with late later (entry_there t u extents w))
    where
      -- with the entry, as late
      late : VolumeTable
      late = record t { sequence = sequence }
