use Rattle.std.proofs.Common.{refl, sym, ◌∙◌}
use Rattle.sm_ready.specs.Known.{known}
use Rattle.gc_abandon.proofs.EndingLaws.{folding_of, pair_found, worked_named}
use Rattle.gc_abandon.specs.Abandoning.{folded_pair}
use Rattle.gc_abandon.proofs.abandoning.give_up.Goals as goal

pub is_folded-requires : goal.is_folded-requires
is_folded-requires g c = λ leaf parent is. worked_named _ _ (known c.args.memory.now) leaf c.requires.session.orderly
    (pair_found c.args.memory.now.operation c.told.result (folded_pair c.told.result) (sym c.told.ensures) refl leaf parent is).child

pub abandon_leaf-requires-clause-folding : goal.abandon_leaf-requires-clause-folding
abandon_leaf-requires-clause-folding g c =
    folding_of c.args.memory.now.operation c.args.disk.now (sym (c.is_folded.ensures c.args.memory.now.operation (sym c.told.ensures)) ∙ c.if-not-is_folded.false)
