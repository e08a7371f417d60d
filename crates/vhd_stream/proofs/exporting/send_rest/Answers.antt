use Rattle.vhd_stream.proofs.SendLaws.{Sends-after, Sends-cut, Sends-told}
use Rattle.vhd_stream.proofs.exporting.send_rest.Goals as goal

pub returns-in-Err-clause-sends : goal.returns-in-Err-clause-sends
returns-in-Err-clause-sends g c = Sends-cut _ c.args.footer.now _ c.in-Err.ensures.sends

pub returns-in-Ok-clause-sends : goal.returns-in-Ok-clause-sends
returns-in-Ok-clause-sends g c =
    let e = c.in-Ok.ensures.sends in
    Sends-after _ c.args.footer.now _ _ _ _ (λ t. e.adds t) e.cause.0 e.cause.1 (Sends-told c.args.footer.now _ (c.send.ensures (g.S.Store.faults c.send_blocks.new.store)))
