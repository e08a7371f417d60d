use Rattle.std.proofs.Common.{[]}
use Rattle.examples_vhd.specs.SmallImages.{zeros, table_of, empty, volume, footer_sector, header_sector, footer_of_size}
use Rattle.examples_vhd.proofs.SmallImageLaws.{copy_reads, last_reads, without_slots, size-from}
use Rattle.examples_vhd.proofs.copies.Goals as goal

pub returns : goal.returns
returns c =
    let last = last_reads (footer_of_size 32768) header_sector (table_of []) empty in
    record {
      served = without_slots footer_sector zeros (copy_reads header_sector (table_of []) empty);
      old = without_slots (footer_of_size 32768) footer_sector last;
      size = size-from (volume (footer_of_size 32768) header_sector (table_of []) empty footer_sector) last;
    }
