use Rattle.std.proofs.Common.{List, Some, sym, ap, subst, ◌∙◌}
use Rattle.sm_log.specs.Logs.{Log, log_of}
use Rattle.sm_logs.specs.Held.{IsPlace}
use Rattle.sm_logs.proofs.PlaceLaws.{placed, read_at}
use Rattle.sm_logs.proofs.held.Logs.get.Goals as goal

pub returns : goal.returns
returns c =
    let logs : List Log = c.self.inside.rows.items in
    let at : IsPlace logs c.args.disk.now c.in-Ok.at = subst (λ (ls : List Log). IsPlace ls c.args.disk.now c.in-Ok.at) c.deref.ensures.value c.in-Ok.ensures.found in
    ap Some (read_at logs c.args.disk.now c.in-Ok.at c.index.result.now at c.index.ensures)
    ∙ sym (placed logs c.args.disk.now c.in-Ok.at at) ∙ ap (log_of c.args.disk.now) c.self.view_is
