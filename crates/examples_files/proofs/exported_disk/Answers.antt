use Rattle.std.proofs.Common.{refl}
use Rattle.sm_base.specs.Numbers.{div_up}
use Rattle.sm_disk.specs.Sectors.{zeros}
use Rattle.vhd_fields.specs.Checksums.{sealed}
use Rattle.vhd_fields.specs.DiskGeometry.{geometry}
use Rattle.vhd_fields.specs.Footers.{footer_bytes, footer_front, footer_back}
use Rattle.vhd_fields.specs.Headers.{header_bytes, header_front, header_back}
use Rattle.vhd_fields.specs.ParentNames.{parent_bytes}
use Rattle.vhd_map.specs.Places.{word}
use Rattle.vhd_stream.specs.Exports.{entry_of, full_bitmap, piece, place, table_sector}
use Rattle.examples_files.specs.SmallFiles.{small_disk, small_file}
use Rattle.examples_files.proofs.exported_disk.Goals as goal

pub returns-clause-bytes : goal.returns-clause-bytes
unfolding small_disk small_file footer_bytes footer_front footer_back sealed geometry header_bytes header_front header_back parent_bytes full_bitmap piece place entry_of table_sector word div_up zeros
returns-clause-bytes c = refl

pub returns-clause-footer_checksum : goal.returns-clause-footer_checksum
unfolding small_disk small_file footer_bytes footer_front footer_back sealed geometry header_bytes header_front header_back parent_bytes full_bitmap piece place entry_of table_sector word div_up zeros
returns-clause-footer_checksum c = refl

pub returns-clause-header_checksum : goal.returns-clause-header_checksum
unfolding small_disk small_file footer_bytes footer_front footer_back sealed geometry header_bytes header_front header_back parent_bytes full_bitmap piece place entry_of table_sector word div_up zeros
returns-clause-header_checksum c = refl

pub returns-clause-first_block : goal.returns-clause-first_block
unfolding small_disk small_file footer_bytes footer_front footer_back sealed geometry header_bytes header_front header_back parent_bytes full_bitmap piece place entry_of table_sector word div_up zeros
returns-clause-first_block c = refl

pub returns-clause-second_block : goal.returns-clause-second_block
unfolding small_disk small_file footer_bytes footer_front footer_back sealed geometry header_bytes header_front header_back parent_bytes full_bitmap piece place entry_of table_sector word div_up zeros
returns-clause-second_block c = refl

pub returns-clause-no_block : goal.returns-clause-no_block
unfolding small_disk small_file footer_bytes footer_front footer_back sealed geometry header_bytes header_front header_back parent_bytes full_bitmap piece place entry_of table_sector word div_up zeros
returns-clause-no_block c = refl

pub returns-clause-no_entry : goal.returns-clause-no_entry
unfolding small_disk small_file footer_bytes footer_front footer_back sealed geometry header_bytes header_front header_back parent_bytes full_bitmap piece place entry_of table_sector word div_up zeros
returns-clause-no_entry c = refl

pub returns-clause-seventh_sector : goal.returns-clause-seventh_sector
unfolding small_disk small_file footer_bytes footer_front footer_back sealed geometry header_bytes header_front header_back parent_bytes full_bitmap piece place entry_of table_sector word div_up zeros
returns-clause-seventh_sector c = refl

pub returns-clause-eighth_sector : goal.returns-clause-eighth_sector
unfolding small_disk small_file footer_bytes footer_front footer_back sealed geometry header_bytes header_front header_back parent_bytes full_bitmap piece place entry_of table_sector word div_up zeros
returns-clause-eighth_sector c = refl

pub returns-clause-footer_again : goal.returns-clause-footer_again
unfolding small_disk small_file footer_bytes footer_front footer_back sealed geometry header_bytes header_front header_back parent_bytes full_bitmap piece place entry_of table_sector word div_up zeros
returns-clause-footer_again c = refl
