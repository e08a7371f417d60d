-- The outline of what stands in a store, read off memory alone.
use Rattle.std.specs.Prelude.{Option, None, Some, slice_index_or}
use Rattle.vg_meta.specs.Tables.{VolumeTable}
use Rattle.vg_volumes.specs.Sites.{Site}
use Rattle.vhd_image.specs.Bodies.{sector_count, parent_name}
use Rattle.sm_ready.specs.Known.{Known}
use Rattle.vhd_chain.specs.declared.rows.TreeRow.{TreeRow}
use Rattle.vhd_chain.specs.Trees.{tree_row}
use Rattle.sm_standing.specs.Outlines.{Outline, Link}
use Rattle.sm_mgt.specs.Places.{as_reading}

abbrev pub link_in : Option TreeRow → Option Link
link_in None = None
link_in (Some r) = Some (record { size = sector_count r.image; parent = parent_name r.image })

unfoldable pub outline_in : Site → VolumeTable → Known → Outline
outline_in s t m = record {
  extent = s.geometry.extent;
  block = s.geometry.block;
  entries = s.geometry.entries;
  table = t;
  links = λ n. link_in (tree_row m.rows n);
  readings = λ k. as_reading (slice_index_or m.places k None);
}
