-- How many commits an opening makes.
use Rattle.std.specs.Prelude.{ℕ, ◌+◌, ◌≤◌, length}
use Rattle.vg_meta.specs.Tables.{VolumeTable}
use Rattle.sm_standing.specs.Entries.{folding}
use Rattle.sm_standing.specs.Opened.{new_count, undo_changes}

-- how many commits undo a fork or an enlargement that a stop has cut short, where there is one: at most five, and two; and one that
-- takes away the entry of a copy or of a link
abbrev pub undo_count : VolumeTable → ℕ
undo_count t = length (undo_changes t) + length (folding t)

-- the sequence number was raised at most by one for each volume that was new, and by one for each change that undoes a fork or an
-- enlargement, or ends a copy or a link
abbrev pub HasFewRemovals : VolumeTable → VolumeTable → Type 0
HasFewRemovals old new = new.sequence ≤ old.sequence + new_count old.volumes + undo_count old
