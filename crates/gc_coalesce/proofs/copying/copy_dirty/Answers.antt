use Rattle.std.proofs.Common.{inr}
use Rattle.gc_coalesce.proofs.CopyKinds.{dirty_runs}
use Rattle.gc_coalesce.proofs.copying.copy_dirty.Goals as goal

pub copy_into_parent-requires-clause-copying : goal.copy_into_parent-requires-clause-copying
copy_into_parent-requires-clause-copying g c = dirty_runs _ _ c.requires.dirty

pub copy_into_parent-requires-clause-may : goal.copy_into_parent-requires-clause-may
copy_into_parent-requires-clause-may g c = inr c.requires.dirty
