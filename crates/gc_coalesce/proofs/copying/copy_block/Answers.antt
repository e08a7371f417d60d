use Rattle.std.proofs.Common.{inl, ◌∙◌}
use Rattle.std.proofs.lemmas.Result.{on_ok_weaker}
use Rattle.sm_ready.specs.Does.{store_shape}
use Rattle.sm_ready.specs.Known.{shape_in}
use Rattle.gc_coalesce.proofs.CopyMemoryLaws.{copied_next}
use Rattle.gc_coalesce.proofs.copying.copy_block.Goals as goal

pub copy_into_parent-requires-clause-may : goal.copy_into_parent-requires-clause-may
copy_into_parent-requires-clause-may g c = inl c.requires.planned

pub returns-clause-shape : goal.returns-clause-shape
unfolding shape_in
returns-clause-shape g c = λ told ready.
    on_ok_weaker c.copy_into_parent.result
    (λ is. is ∙ copied_next (store_shape g.S.Store c.args.store.now c.args.memory.now) c.args.block c.requires.session.orderly.well_formed c.requires.planned)
    (c.copy_into_parent.ensures.shape told ready)
