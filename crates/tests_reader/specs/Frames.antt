-- The frame that the reader goes by, as the format has it.
use Rattle.std.specs.Prelude.{ℕ, ◌+◌, ◌*◌}
use Rattle.tests_reader.specs.declared.frames.Frame.{Frame as FrameHere}
use Rattle.vg_layout.specs.Places.{Frame, slot_bytes, slot_place}

-- the places of a frame in memory
abbrev pub places : FrameHere → Frame
places f = record { header = f.header; first = f.first; second = f.second; room = f.room }

-- the byte of a device behind a slot
abbrev pub slot_end : Frame → ℕ → ℕ
slot_end f slot = 512 * slot_place f slot + slot_bytes f
