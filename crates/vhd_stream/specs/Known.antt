-- The blocks of a disk by the images in memory: which of them are there, and their sectors as a store is read through the chain.
use Rattle.std.specs.Prelude.{ℕ, zero, suc, ◌*◌, Bool, false, ◌||◌, List, [], map, replicate, None, Some, is_some}
use Rattle.std.specs.List.{range_with_len}
use Rattle.sm_base.specs.declared.names.Name.{Name}
use Rattle.sm_machine.specs.Shapes.{Shape, chain_limit, disk_record}
use Rattle.vg_volumes.specs.Stored.{Stored}
use Rattle.vhd_image.specs.Bodies.{sector_count, parent_name}
use Rattle.vhd_chain.specs.Reading.{chain_reads, slots_of}
use Rattle.vhd_chain.specs.Trees.{row_name, tree_row}
use Rattle.vhd_chain.specs.declared.rows.TreeRow.{TreeRow}
use Rattle.vhd_stream.specs.Exports.{DiskBlocks, has_block}

-- a disk of a shape has this UUID
abbrev pub has_disk : List ℕ → Shape → Bool
has_disk u s = is_some (disk_record u s)

-- an image in memory has block b
abbrev pub row_has : ℕ → TreeRow → ℕ → Bool
row_has block r b = has_block block (row_name r) (sector_count r.image) (slots_of r.image) b

-- some image in memory has block b, of so many images at most from one up
unfoldable pub is_known : ℕ → ℕ → List TreeRow → Name → ℕ → Bool
is_known zero block rows n b = false
is_known (suc most) block rows n b = elim (tree_row rows n) [
  | None ↦ false
  | Some r ↦ row_has block r b || (elim (parent_name r.image) [ None ↦ false | Some p ↦ is_known most block rows p b ])
]

-- a disk of so many blocks, each of so many sectors, of which the images in memory from one up have some; its sectors are left out
abbrev pub blocks_known : ℕ → List TreeRow → Name → ℕ → DiskBlocks
blocks_known block rows n blocks = record { block = block; there = is_known chain_limit block rows n; sectors = replicate (blocks * block) [] }

-- the same with the sectors that a read of a store gives through the chain
abbrev pub blocks_read : Stored → List TreeRow → Name → ℕ → DiskBlocks
blocks_read x rows n blocks = record {
  block = x.site.geometry.block;
  there = is_known chain_limit x.site.geometry.block rows n;
  sectors = map (chain_reads x rows n) (range_with_len 0 (blocks * x.site.geometry.block));
}
