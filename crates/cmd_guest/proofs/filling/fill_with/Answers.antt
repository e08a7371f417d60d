use Rattle.std.proofs.Common.{◌*◌, ap, sym, subst, ◌∙◌, arith}
use Rattle.std.proofs.lemmas.List.{length-take}
use Rattle.std.proofs.lemmas.Result.{on_ok_weaker}
use Rattle.sm_base.specs.declared.sizes.Geometry.{Geometry}
use Rattle.sm_machine.specs.declared.commands.Command.TheVariants.{Write}
use Rattle.sm_machine.specs.declared.replies.Reply.TheVariants.{Done}
use Rattle.sm_ready.specs.Does.{ShapesAs, store_shape}
use Rattle.sm_ready.specs.Refusing.{IsAllowed}
use Rattle.sm_ready.specs.Taken.{StoreTakes}
use Rattle.cmd_guest.specs.Taken.{answered}
use Rattle.cmd_guest.specs.Writing.{WritesOnly}
use Rattle.cmd_guest.proofs.FillLaws.{fill_allowed, fill_next, fill_some, fill_taken}
use Rattle.cmd_guest.proofs.filling.fill_with.Goals as goal

pub repeated-from-requires-clause-some : goal.repeated-from-requires-clause-some
repeated-from-requires-clause-some g c =
    let some = fill_some (store_shape g.S.Store c.args.store.now c.args.memory.now) c.args.disk.now c.args.sector c.args.count c.args.byte c.requires.allowed in
    let wide = ap (λ (x : Geometry). x.block) c.geometry.ensures in
    let long = length-take (512 * c.min-most.result) c.args.piece.now in
    omega (arith, some, wide, long, c.fill.ensures.len, c.min-most.ensures, c.from.ensures, c.geometry.result.in_range.block_least, c.requires.long)

pub put-requires-clause-allowed : goal.put-requires-clause-allowed
put-requires-clause-allowed g c =
    subst (λ bytes. IsAllowed g.S.Store (Write c.args.disk.now c.args.sector bytes) c.args.store.now c.args.memory.now) (sym c.repeated-from.ensures)
    (fill_allowed (store_shape g.S.Store c.args.store.now c.args.memory.now) c.args.disk.now c.args.sector c.args.count c.args.byte c.requires.allowed)

pub returns-clause-writes : goal.returns-clause-writes
returns-clause-writes g c =
    subst (λ bytes. WritesOnly g.S.Store c.args.memory.now c.args.disk.now c.args.sector bytes c.args.store.now c.put.new.store) c.repeated-from.ensures c.put.ensures.writes

pub returns-clause-shape : goal.returns-clause-shape
returns-clause-shape g c = on_ok_weaker c.put.result (λ is.
    subst (λ bytes. ShapesAs g.S.Store (Write c.args.disk.now c.args.sector bytes) c.args.store.now c.args.memory.now c.put.new.store c.put.new.memory) c.repeated-from.ensures is
    ∙ fill_next (store_shape g.S.Store c.args.store.now c.args.memory.now) c.args.disk.now c.args.sector c.args.count c.args.byte) c.put.ensures.shape

pub returns-clause-taken : goal.returns-clause-taken
returns-clause-taken g c = λ told ready.
    fill_taken g.S.Store c.args.store.now c.put.new.store c.args.memory.now c.put.new.memory c.args.disk.now c.args.sector c.args.count c.args.byte (answered Done c.put.result) c.requires.allowed
    (subst (λ bytes. StoreTakes g.S.Store (Write c.args.disk.now c.args.sector bytes) c.args.store.now c.args.memory.now c.put.new.store c.put.new.memory (answered Done c.put.result)) c.repeated-from.ensures
    (c.put.ensures.taken told ready))
