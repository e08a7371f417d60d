use Rattle.std.proofs.Common.{◌≡◌, ◌++◌, refl, Some, None, [], arith}
use lib.Count.{ones}
use Rattle.vhd_fields.specs.Checksums.{checksum, sealed}
use Rattle.vhd_fields.specs.DiskGeometry.{geometry}
use Rattle.vhd_fields.specs.Footers.{footer_tests, footer_fields, footer_front, footer_back, footer_bytes}
use Rattle.vhd_fields.specs.Headers.{header_tests, header_fields, header_front, header_back, header_bytes}
use Rattle.vhd_fields.specs.ParentNames.{parent_bytes, parent_read}
use Rattle.examples_vhd.specs.SmallImages.{zeros, table_of, empty, footer_sector, header_sector, footer_of_kind, header_of, with_footer, with_header}
use Rattle.vhd_layout.specs.Images.{footer_at, header_at}
use Rattle.examples_vhd.proofs.SmallImageLaws.{the_header, header_reads, no_header, other_offset, other_entries, other_block, no_parent, without_parent}
use Rattle.examples_vhd.proofs.broken_headers.Goals as goal

none_reads : header_at (with_header zeros) ≡ None
unfolding header_at header_tests
none_reads = refl

offset_reads : header_at (with_header (header_of 2048 64 4096)) ≡ Some (header_fields (header_of 2048 64 4096 ++ zeros))
unfolding header_at header_tests header_fields checksum parent_bytes parent_read ones header_of header_bytes header_front header_back sealed header_sector
offset_reads = refl

offset_is : (header_fields (header_of 2048 64 4096 ++ zeros)).table_offset ≡ 2048
unfolding header_fields parent_bytes parent_read header_of header_bytes header_front header_back sealed header_sector
offset_is = refl

entries_reads : header_at (with_header (header_of 1536 63 4096)) ≡ Some (header_fields (header_of 1536 63 4096 ++ zeros))
unfolding header_at header_tests header_fields checksum parent_bytes parent_read ones header_of header_bytes header_front header_back sealed header_sector
entries_reads = refl

entries_are : (header_fields (header_of 1536 63 4096 ++ zeros)).entries ≡ 63
unfolding header_fields parent_bytes parent_read header_of header_bytes header_front header_back sealed header_sector
entries_are = refl

block_reads : header_at (with_header (header_of 1536 64 8192)) ≡ Some (header_fields (header_of 1536 64 8192 ++ zeros))
unfolding header_at header_tests header_fields checksum parent_bytes parent_read ones header_of header_bytes header_front header_back sealed header_sector
block_reads = refl

block_is : (header_fields (header_of 1536 64 8192 ++ zeros)).block ≡ 8192
unfolding header_fields parent_bytes parent_read header_of header_bytes header_front header_back sealed header_sector
block_is = refl

child_reads : footer_at 160 (with_footer (footer_of_kind 4)) ≡ Some (footer_fields (footer_of_kind 4))
unfolding footer_at footer_tests footer_fields checksum footer_of_kind footer_bytes footer_front footer_back sealed geometry footer_sector
child_reads = refl

child_kind : (footer_fields (footer_of_kind 4)).kind ≡ 4
unfolding footer_fields footer_of_kind footer_bytes footer_front footer_back sealed geometry footer_sector
child_kind = refl

pub returns : goal.returns
returns c = record {
  none = no_header (with_header zeros) none_reads;
  table_offset = other_offset (with_header (header_of 2048 64 4096)) (header_fields (header_of 2048 64 4096 ++ zeros)) offset_reads (λ e. omega (arith, e, offset_is));
  entries = other_entries (with_header (header_of 1536 63 4096)) (header_fields (header_of 1536 63 4096 ++ zeros)) entries_reads (λ e. omega (arith, e, entries_are));
  block = other_block (with_header (header_of 1536 64 8192)) (header_fields (header_of 1536 64 8192 ++ zeros)) block_reads (λ e. omega (arith, e, block_is));
  parent = no_parent (with_footer (footer_of_kind 4)) (footer_fields (footer_of_kind 4)) the_header child_reads (header_reads (footer_of_kind 4) (table_of []) (footer_of_kind 4) empty refl) child_kind without_parent;
}
