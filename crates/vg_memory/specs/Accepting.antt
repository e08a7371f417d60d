-- When a commit takes a change.
use Rattle.std.specs.Prelude.{◌≡◌, false}
use Rattle.vg_meta.specs.Roomy.{table_alone}
use Rattle.vg_meta.specs.Changes.{HasRoom}
use Rattle.vg_meta.specs.Changes as changes
use Rattle.vg_meta.specs.declared.changes.Change.{Change}
use Rattle.vg_volumes.specs.Sites.{Fits}
use Rattle.vg_memory.specs.Stores.{StoreInMemory, has_failed}

-- what a commit asks for
pub record CanCommit (s : StoreInMemory) (change : Change) : Type 0 where
  pub usable : has_failed s.course ≡ false
  pub allowed : changes.Permits s.site.count (table_alone s.table) change
  pub room : HasRoom s.table change
  pub fits : Fits s.site.count (table_alone s.table) change
