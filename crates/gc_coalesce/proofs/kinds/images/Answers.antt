use Rattle.std.proofs.Common.{sym, ◌∙◌}
use Rattle.gc_coalesce.proofs.CopyKinds.{copy_told, idle_never, leaf_told, live_told, relink_never}
use Rattle.gc_coalesce.proofs.kinds.images.Goals as goal

pub returns-in-Copy : goal.returns-in-Copy
returns-in-Copy c = copy_told _ _ _ _ (sym c.told.ensures ∙ c.in-Copy.is)

pub returns-in-Leaf : goal.returns-in-Leaf
returns-in-Leaf c = leaf_told _ _ _ _ (sym c.told.ensures ∙ c.in-Leaf.is)

pub returns-in-Live : goal.returns-in-Live
returns-in-Live c = live_told _ _ _ _ _ (sym c.told.ensures ∙ c.in-Live.is)

pub unreachable-requires : goal.unreachable-requires
unreachable-requires c = idle_never _ c.requires.copying (sym c.told.ensures ∙ c.in-Idle.is)

pub unreachable-requires-in-Relink : goal.unreachable-requires-in-Relink
unreachable-requires-in-Relink c = relink_never _ _ _ c.requires.copying (sym c.told.ensures ∙ c.in-Relink.is)
