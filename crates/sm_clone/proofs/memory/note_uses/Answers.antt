use Rattle.std.proofs.Common.{◌≡◌, ◌≢◌, subst}
use Rattle.sm_base.specs.declared.names.Name.{Name}
use Rattle.sm_refs.specs.Attached.{count_of}
use Rattle.sm_clone.proofs.UseLaws.{room_next}
use Rattle.sm_clone.proofs.memory.note_uses.Goals as goal

pub forked-requires-then-ne-clause-room : goal.forked-requires-then-ne-clause-room
forked-requires-then-ne-clause-room c =
    let e = c.forked.ensures in
    room_next c.args.fork.now c.args.attached.now c.forked.new.self c.requires.room e.room
    (subst (λ (b : Name). (n : Name) → n ≢ b → count_of c.forked.new.self n ≡ count_of c.args.attached.now n) c.base_name.ensures e.others)
