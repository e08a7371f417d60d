use Rattle.std.proofs.Common.{◌≡◌, ℕ, List, length, Some, None, sym, ap, ap₂, ◌∙◌}
use Rattle.std.specs.Prelude.{is_some}
use Rattle.sm_log.specs.Logs.{Log, walk}
use Rattle.sm_logs.proofs.UniteLaws.{leads_none, leads_other, leads_same}
use Rattle.sm_logs.proofs.held.Logs.leads.Goals as goal

pub returns-then-eq : goal.returns-then-eq
returns-then-eq c = λ pieces. sym (leads_same pieces c.args.earlier.now c.args.later.now c.args.self.now (sym c.eq.ensures ∙ c.if-eq.true))

pub returns-in-Some : goal.returns-in-Some
returns-in-Some c = λ pieces.
    let same : c.deref.result.now ≡ c.args.self.now = c.deref.ensures.value ∙ c.self.view_is in
    let long : c.len.result ≡ length c.args.self.now = c.len.ensures ∙ sym c.deref.ensures.len ∙ ap (λ (ls : List Log). length ls) same in
    c.leads.ensures
    ∙ ap₂ (λ (n : ℕ) (ls : List Log). is_some (walk n c.args.earlier.now ls (Some c.in-Some.log.now))) long same
    ∙ sym (leads_other pieces c.args.earlier.now c.args.later.now c.args.self.now (Some c.in-Some.log.now) (sym c.eq.ensures ∙ c.if-eq.false) c.in-Some.ensures)

pub returns-in-None : goal.returns-in-None
returns-in-None c = λ pieces.
    sym (leads_none (length c.args.self.now) c.args.earlier.now c.args.self.now)
    ∙ sym (leads_other pieces c.args.earlier.now c.args.later.now c.args.self.now None (sym c.eq.ensures ∙ c.if-eq.false) c.in-None.ensures)
