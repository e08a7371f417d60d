use Rattle.std.proofs.Common.{◌≡◌, refl, Some, None, arith}
use Rattle.vhd_fields.specs.Checksums.{checksum, sealed}
use Rattle.vhd_fields.specs.DiskGeometry.{geometry}
use Rattle.vhd_fields.specs.Footers.{footer_tests, footer_fields, footer_front, footer_back, footer_bytes}
use Rattle.examples_vhd.specs.SmallImages.{zeros, footer_sector, footer_of_kind, footer_of_size, with_footer}
use Rattle.vhd_layout.specs.Images.{footer_at}
use Rattle.examples_vhd.proofs.SmallImageLaws.{no_footer, fixed_disk, other_size}
use Rattle.examples_vhd.proofs.broken_footers.Goals as goal

none_reads : footer_at 160 (with_footer zeros) ≡ None
unfolding footer_at footer_tests
none_reads = refl

fixed_reads : footer_at 160 (with_footer (footer_of_kind 2)) ≡ Some (footer_fields (footer_of_kind 2))
unfolding footer_at footer_tests footer_fields checksum footer_of_kind footer_bytes footer_front footer_back sealed geometry footer_sector
fixed_reads = refl

fixed_kind : (footer_fields (footer_of_kind 2)).kind ≡ 2
unfolding footer_fields footer_of_kind footer_bytes footer_front footer_back sealed geometry footer_sector
fixed_kind = refl

part_reads : footer_at 160 (with_footer (footer_of_size 66048)) ≡ Some (footer_fields (footer_of_size 66048))
unfolding footer_at footer_tests footer_fields checksum footer_of_size footer_bytes footer_front footer_back sealed geometry footer_sector
part_reads = refl

part_size : (footer_fields (footer_of_size 66048)).current ≡ 66048
unfolding footer_fields footer_of_size footer_bytes footer_front footer_back sealed geometry footer_sector
part_size = refl

many_reads : footer_at 160 (with_footer (footer_of_size 266240)) ≡ Some (footer_fields (footer_of_size 266240))
unfolding footer_at footer_tests footer_fields checksum footer_of_size footer_bytes footer_front footer_back sealed geometry footer_sector
many_reads = refl

many_size : (footer_fields (footer_of_size 266240)).current ≡ 266240
unfolding footer_fields footer_of_size footer_bytes footer_front footer_back sealed geometry footer_sector
many_size = refl

pub returns : goal.returns
returns c = record {
  none = no_footer (with_footer zeros) none_reads;
  fixed = fixed_disk (with_footer (footer_of_kind 2)) (footer_fields (footer_of_kind 2)) fixed_reads fixed_kind;
  part_of_a_block = other_size (with_footer (footer_of_size 66048)) (footer_fields (footer_of_size 66048)) part_reads (λ blocks size few. omega (arith, size, part_size));
  too_many_blocks = other_size (with_footer (footer_of_size 266240)) (footer_fields (footer_of_size 266240)) many_reads (λ blocks size few. omega (arith, size, few, many_size));
}
