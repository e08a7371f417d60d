use Rattle.std.proofs.Common.{◌-◌, Some, None, sym, ◌∙◌, arith}
use Rattle.sm_logs.proofs.UniteLaws.{leads_met, leads_more, leads_none, leads_nowhere}
use Rattle.sm_logs.proofs.walks.+leads.Goals as goal

pub returns-then-most-eq0 : goal.returns-then-most-eq0
returns-then-most-eq0 t c = sym (leads_nowhere c.args.most c.args.disk.now c.args.logs.now (Some c.args.log.now) c.if-most-eq0.true)

pub returns-then-is_of : goal.returns-then-is_of
returns-then-is_of t c = sym (leads_met c.args.most c.args.disk.now c.args.logs.now c.args.log.now c.if-most-eq0.false (sym c.is_of.ensures ∙ c.if-is_of.true))

pub returns-in-Some : goal.returns-in-Some
returns-in-Some t c =
    c.leads.ensures
    ∙ sym (leads_more (c.args.most - 1) c.args.most c.args.disk.now c.args.logs.now c.args.log.now (Some c.in-Some.earlier.now) (omega (arith, c.if-most-eq0.false)) (sym c.is_of.ensures ∙ c.if-is_of.false) c.in-Some.ensures)

pub returns-in-None : goal.returns-in-None
returns-in-None t c =
    sym (leads_none (c.args.most - 1) c.args.disk.now c.args.logs.now)
    ∙ sym (leads_more (c.args.most - 1) c.args.most c.args.disk.now c.args.logs.now c.args.log.now None (omega (arith, c.if-most-eq0.false)) (sym c.is_of.ensures ∙ c.if-is_of.false) c.in-None.ensures)
