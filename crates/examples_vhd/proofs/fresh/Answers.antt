use Rattle.std.proofs.Common.{[], refl}
use Rattle.examples_vhd.specs.SmallImages.{footer_sector, header_sector, fresh_image, table_of, empty}
use Rattle.examples_vhd.proofs.SmallImageLaws.{footer_reads, header_reads, without_slots, size-from, parent-from}
use Rattle.examples_vhd.proofs.fresh.Goals as goal

pub returns-clause-valid : goal.returns-clause-valid
returns-clause-valid c = without_slots footer_sector footer_sector (footer_reads header_sector (table_of []) empty)

pub returns-clause-size : goal.returns-clause-size
returns-clause-size c = size-from fresh_image (footer_reads header_sector (table_of []) empty)

pub returns-clause-parent : goal.returns-clause-parent
returns-clause-parent c = parent-from fresh_image (header_reads footer_sector (table_of []) footer_sector empty refl)
