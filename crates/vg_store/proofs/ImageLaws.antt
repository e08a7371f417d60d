-- What an image shows in front of the extents: the laws of the layout.
pub use Rattle.vg_layout.proofs.FrameLaws.{apart_within, frame_apart, frame_room, sectors_most, slot_behind, slot_front}
pub use Rattle.vg_layout.proofs.StandingLaws.{IsRightPointer, pointer_right, pointer_right_by, plate_apart, plate_few, plate_area, plate_frame, plate_right, plate_version, spells_by, pointer_once, stands_once}
pub use Rattle.vg_layout.proofs.ImageLaws.{plate_same, frame_same, pointer_front, pointer_same, pointer_seen, run_same, slot_same, slot_written, spells_same, text_same, text_front, stands_from, sectors_hold, run_written, text_written}
