use Rattle.std.proofs.Common.{sym, subst}
use Rattle.sm_base.specs.Numbers.{div_up}
use Rattle.vhd_filling.specs.Filled.{HasBlocksBelow}
use Rattle.vhd_filling.specs.declared.fillings.Filling.{Filling}
use Rattle.sm_importing.specs.Imports.{GoesNoLower}
use Rattle.cmd_import.proofs.EndLaws.{ends_at}
use Rattle.cmd_import.proofs.ending.end_import.Goals as goal

pub complete_disk-result-requires-clause-blocks : goal.complete_disk-result-requires-clause-blocks
complete_disk-result-requires-clause-blocks g c = subst (λ (f : Filling). HasBlocksBelow (div_up c.args.sectors f.geometry.block) f) (sym c.into_parts-store.ensures.filling) c.requires.blocks

pub returns-clause-ends : goal.returns-clause-ends
returns-clause-ends g c = λ o bytes since made told ready.
    let d = c.args.disk in
    let p = c.into_parts-store in
    let r = c.requires in
    ends_at g.S.Store o bytes c.args.sectors d.store p.result.0 d.memory p.result.1 d.filling p.result.2 c.args.uuid.now d.disk d.begun d.over
    c.complete_disk-result.new.memory c.complete_disk-result.new.store c.complete_disk-result.result
    p.ensures.store p.ensures.memory p.ensures.filling r.named r.begun r.going (c.complete_disk-result.ensures.ends o.store bytes) since made told ready

pub returns-clause-no_lower : goal.returns-clause-no_lower
returns-clause-no_lower g c = subst (λ s. GoesNoLower g.S.Store s c.complete_disk-result.new.store) c.into_parts-store.ensures.store c.complete_disk-result.ensures.no_lower
