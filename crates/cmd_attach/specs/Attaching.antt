-- What attaching asks of memory, and what it leaves alone.
use Rattle.std.specs.Prelude.{◌≡◌, true, List}
use Rattle.common_laws.specs.Lists.{In}
use Rattle.vhd_chain.specs.declared.rows.TreeRow.{TreeRow}
use Rattle.vhd_chain.specs.Trees.{row_name}
use Rattle.sm_machine.specs.WellFormed.{is_image_name}
use Rattle.sm_ready.specs.declared.memory.Memory.{Memory}

-- each row is that of a VHD or raw image
abbrev pub AreImages : List TreeRow → Type 0
AreImages rows = (r : TreeRow) → In r rows → is_image_name (row_name r) ≡ true

-- the images, the records, the logs and the collector's operation stay
pub record StaysBeside (old new : Memory) : Type 0 where
  pub tree : new.tree ≡ old.tree
  pub records : new.records ≡ old.records
  pub logs : new.logs ≡ old.logs
  pub operation : new.operation ≡ old.operation
