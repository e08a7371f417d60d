use Rattle.std.proofs.Common.{refl}
use Rattle.common_laws.specs.Lists.{numbers}
use Rattle.sm_base.specs.Numbers.{div_up, first, thin}
use Rattle.sm_disk.specs.Sectors.{zeros}
use Rattle.sm_machine.specs.Disks.{cut_sectors}
use Rattle.vhd_fields.specs.Checksums.{checksum, sealed}
use Rattle.vhd_fields.specs.DiskGeometry.{geometry}
use Rattle.vhd_fields.specs.Footers.{footer_back, footer_bytes, footer_fields, footer_front, footer_tests}
use Rattle.vhd_fields.specs.Headers.{header_back, header_bytes, header_fields, header_front, header_tests}
use Rattle.vhd_fields.specs.ParentNames.{parent_bytes, parent_read}
use Rattle.vhd_layout.specs.Readings.{each_below, some_below}
use Rattle.vhd_map.specs.Bitmaps.{is_set}
use Rattle.vhd_map.specs.Places.{word}
use Rattle.vhd_stream.specs.Exports.{entry_of, full_bitmap, piece, place, table_sector}
use Rattle.vhd_stream.specs.Files.{entry, sector_in}
use Rattle.vhd_import.specs.Heads.{footer_at, header_at, lacks_entries, layout_at, size_at}
use Rattle.vhd_import.specs.Puts.{dynamic_put, put_at}
use Rattle.vhd_import.specs.Room.{distinct_blocks, filled_at, lacks_space, used}
use Rattle.vhd_import.specs.Tables.{is_entry_wrong}
use Rattle.vhd_import.specs.Verdicts.{denial_at_end, dynamic_denials, fixed_denials, imported, is_footed, is_whole, verdict}
use Rattle.examples_files.specs.SmallFiles.{small_disk, small_file}
use Rattle.examples_files.specs.TakenFiles.{differencing_file, fixed_file, in_table_file, moved_file, overlapping_file, short_table_file}
use Rattle.examples_files.proofs.taking.taken_files.Goals as goal

pub returns-clause-exported : goal.returns-clause-exported
unfolding numbers div_up first thin zeros cut_sectors checksum sealed geometry footer_back footer_bytes footer_fields footer_front footer_tests header_back header_bytes header_fields header_front header_tests parent_bytes parent_read each_below some_below is_set word entry_of full_bitmap piece place table_sector entry sector_in footer_at header_at lacks_entries layout_at size_at dynamic_put put_at distinct_blocks filled_at lacks_space used is_entry_wrong denial_at_end dynamic_denials fixed_denials imported is_footed is_whole verdict small_disk small_file differencing_file fixed_file in_table_file moved_file overlapping_file short_table_file lib.Count.ones
returns-clause-exported c = refl

pub returns-clause-no_footer : goal.returns-clause-no_footer
unfolding numbers div_up first thin zeros cut_sectors checksum sealed geometry footer_back footer_bytes footer_fields footer_front footer_tests header_back header_bytes header_fields header_front header_tests parent_bytes parent_read each_below some_below is_set word entry_of full_bitmap piece place table_sector entry sector_in footer_at header_at lacks_entries layout_at size_at dynamic_put put_at distinct_blocks filled_at lacks_space used is_entry_wrong denial_at_end dynamic_denials fixed_denials imported is_footed is_whole verdict small_disk small_file differencing_file fixed_file in_table_file moved_file overlapping_file short_table_file lib.Count.ones
returns-clause-no_footer c = refl

pub returns-clause-moved : goal.returns-clause-moved
unfolding numbers div_up first thin zeros cut_sectors checksum sealed geometry footer_back footer_bytes footer_fields footer_front footer_tests header_back header_bytes header_fields header_front header_tests parent_bytes parent_read each_below some_below is_set word entry_of full_bitmap piece place table_sector entry sector_in footer_at header_at lacks_entries layout_at size_at dynamic_put put_at distinct_blocks filled_at lacks_space used is_entry_wrong denial_at_end dynamic_denials fixed_denials imported is_footed is_whole verdict small_disk small_file differencing_file fixed_file in_table_file moved_file overlapping_file short_table_file lib.Count.ones
returns-clause-moved c = refl

pub returns-clause-fixed : goal.returns-clause-fixed
unfolding numbers div_up first thin zeros cut_sectors checksum sealed geometry footer_back footer_bytes footer_fields footer_front footer_tests header_back header_bytes header_fields header_front header_tests parent_bytes parent_read each_below some_below is_set word entry_of full_bitmap piece place table_sector entry sector_in footer_at header_at lacks_entries layout_at size_at dynamic_put put_at distinct_blocks filled_at lacks_space used is_entry_wrong denial_at_end dynamic_denials fixed_denials imported is_footed is_whole verdict small_disk small_file differencing_file fixed_file in_table_file moved_file overlapping_file short_table_file lib.Count.ones
returns-clause-fixed c = refl

pub returns-clause-whole_block : goal.returns-clause-whole_block
unfolding numbers div_up first thin zeros cut_sectors checksum sealed geometry footer_back footer_bytes footer_fields footer_front footer_tests header_back header_bytes header_fields header_front header_tests parent_bytes parent_read each_below some_below is_set word entry_of full_bitmap piece place table_sector entry sector_in footer_at header_at lacks_entries layout_at size_at dynamic_put put_at distinct_blocks filled_at lacks_space used is_entry_wrong denial_at_end dynamic_denials fixed_denials imported is_footed is_whole verdict small_disk small_file differencing_file fixed_file in_table_file moved_file overlapping_file short_table_file lib.Count.ones
returns-clause-whole_block c = refl
