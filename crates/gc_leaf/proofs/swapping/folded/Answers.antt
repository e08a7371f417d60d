use Rattle.std.proofs.Common.{refl, sym, ◌∙◌}
use Rattle.gc_leaf.proofs.SwapSteps.{leaf_told, live_told, never_told}
use Rattle.gc_leaf.proofs.swapping.folded.Goals as goal

pub returns-in-Leaf : goal.returns-in-Leaf
returns-in-Leaf c = leaf_told _ _ _ _ (sym c.told.ensures ∙ c.in-Leaf.is)

pub returns-in-Live : goal.returns-in-Live
returns-in-Live c = live_told _ _ _ _ _ (sym c.told.ensures ∙ c.in-Live.is)

pub unreachable-requires : goal.unreachable-requires
unreachable-requires c = never_told _ _ c.requires.folds (sym c.told.ensures ∙ c.in-Idle.is) refl

pub unreachable-requires-in-Copy : goal.unreachable-requires-in-Copy
unreachable-requires-in-Copy c = never_told _ _ c.requires.folds (sym c.told.ensures ∙ c.in-Copy.is) refl

pub unreachable-requires-in-Relink : goal.unreachable-requires-in-Relink
unreachable-requires-in-Relink c = never_told _ _ c.requires.folds (sym c.told.ensures ∙ c.in-Relink.is) refl
