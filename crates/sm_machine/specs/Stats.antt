-- What `stat` tells: the sequence number, the free extents, the running operation and a row for each image, in order
-- of name (this project's format).
use Rattle.std.specs.Prelude.{ℕ, List}
use Rattle.sm_base.specs.declared.operations.Op.{Op}
use Rattle.sm_machine.specs.declared.replies.StatRow.{StatRow}

pub record Stats : Type 0 where
  pub seq : ℕ
  pub free : ℕ
  pub op : Op
  pub rows : List StatRow
