-- The rows of the images, by what is in memory (this project's format).
use Rattle.std.specs.Prelude.{List, map}
use Rattle.sm_machine.specs.declared.replies.StatRow.{StatRow}
use Rattle.sm_refs.specs.Attached.{Attached, count_of}
use Rattle.vhd_map.specs.Slots.{used_count}
use Rattle.vhd_image.specs.Bodies.{sector_count, parent_name}
use Rattle.vhd_chain.specs.Reading.{slots_of}
use Rattle.vhd_chain.specs.Trees.{row_name}
use Rattle.vhd_chain.specs.declared.rows.TreeRow.{TreeRow}
use Rattle.cmd_list.specs.Listed.{byte_size}

-- an image as it is told, beside what is attached
abbrev pub image_row : Attached → TreeRow → StatRow
image_row a r = record {
  name = row_name r;
  hidden = r.hidden;
  parent = parent_name r.image;
  size = byte_size (sector_count r.image);
  blocks = used_count (slots_of r.image);
  extents = r.extents;
  refs = count_of a (row_name r);
}

-- the rows of images, in the order of the images
abbrev pub image_rows : Attached → List TreeRow → List StatRow
image_rows a rows = map (image_row a) rows
