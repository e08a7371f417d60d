use Rattle.std.proofs.Common.{◌+◌, ap, ◌∙◌, arith}
use Rattle.sm_base.specs.declared.sizes.Geometry.{Geometry}
use Rattle.sm_base.specs.Numbers.{thin}
use Rattle.sm_importing.specs.Imports.{thin_in}
use Rattle.sm_importing.proofs.ImportLaws.{thin_few}
use Rattle.sm_importing.proofs.importing.grow.Goals as goal

pub returns-then-wanted-had-clause-stops : goal.returns-then-wanted-had-clause-stops
returns-then-wanted-had-clause-stops g c = λ a since. since.so_far.left

pub overflow_cast-wanted : goal.overflow_cast-wanted
overflow_cast-wanted g c =
    let few = thin_few (g.S.Store.site c.args.store.now) (c.args.slots + 1) (omega (arith, c.requires.within)) in
    let is = c.thin-wanted.ensures ∙ ap (λ (h : Geometry). thin h.extent h.block h.entries (c.from.result + 1)) c.geometry.ensures
    ∙ ap (λ n. thin_in (g.S.Store.site c.args.store.now) (n + 1)) c.from.ensures in
    omega (arith, few, is)
