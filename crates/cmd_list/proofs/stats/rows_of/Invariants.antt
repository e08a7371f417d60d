use Rattle.std.proofs.Common.{◌≡◌, ◌≤◌, length, take, vec_len, vec_capacity}
use Rattle.cmd_list.specs.Images.{image_rows}
use Rattle.cmd_list.proofs.stats.rows_of.Given as goal

-- so many rows are made, and there is room for the others
abbrev pub invariant-loop-image : goal.invariant-loop-image
invariant-loop-image l = record {
  made : l.rows.items ≡ image_rows l.attached (take l.image-index l.images);
  count : vec_len l.rows ≡ l.image-index;
  room : length l.images ≤ vec_capacity l.rows;
}
