use Rattle.std.proofs.Common.{◌≡◌, ℕ, Bool, List, length, Option, Some, None, sym, ap, ap₂, subst, ◌∙◌}
use Rattle.std.specs.Prelude.{is_some, IfOk, OnErr, IsSome}
use Rattle.sm_log.specs.Logs.{Log, changed, walk}
use Rattle.sm_logs.specs.Held.{bits_of}
use Rattle.sm_logs.proofs.UniteLaws.{changed_other, changed_same, on_err, walk_none}
use Rattle.sm_logs.proofs.held.Logs.changed.Goals as goal

pub returns-in_err-bits-clause-memory : goal.returns-in_err-bits-clause-memory
returns-in_err-bits-clause-memory c =
    on_err c.from_residual.result (ap is_some (changed_same c.args.pieces c.args.earlier.now c.args.later.now c.args.self.now (sym c.eq.ensures ∙ c.if-eq.true)))

pub returns-then-eq-clause-changed : goal.returns-then-eq-clause-changed
returns-then-eq-clause-changed c = ap Some c.in_ok-bits.ensures ∙ sym (changed_same c.args.pieces c.args.earlier.now c.args.later.now c.args.self.now (sym c.eq.ensures ∙ c.if-eq.true))

pub returns-in_default-clause-changed : goal.returns-in_default-clause-changed
returns-in_default-clause-changed c =
    sym (walk_none c.args.pieces (length c.args.self.now) c.args.earlier.now c.args.self.now)
    ∙ changed_other c.args.pieces c.args.earlier.now c.args.later.now c.args.self.now None (sym c.eq.ensures ∙ c.if-eq.false) c.in_default.ensures

-- the walk is over the logs that the value stands for
walks : (c : goal.After-united) → bits_of c.args.pieces (walk c.len.result c.args.earlier.now c.deref.result.now (Some c.in-Some.log.now)) ≡ changed c.args.pieces c.args.earlier.now c.args.later.now c.args.self.now
walks c =
    let same : c.deref.result.now ≡ c.args.self.now = c.deref.ensures.value ∙ c.self.view_is in
    let long : c.len.result ≡ length c.args.self.now = c.len.ensures ∙ sym c.deref.ensures.len ∙ ap (λ (ls : List Log). length ls) same in
    ap₂ (λ (n : ℕ) (ls : List Log). bits_of c.args.pieces (walk n c.args.earlier.now ls (Some c.in-Some.log.now))) long same
    ∙ changed_other c.args.pieces c.args.earlier.now c.args.later.now c.args.self.now (Some c.in-Some.log.now) (sym c.eq.ensures ∙ c.if-eq.false) c.in-Some.ensures

pub returns-clause-changed : goal.returns-clause-changed
returns-clause-changed c = subst (λ (x : Option (List Bool)). IfOk c.united.result (λ bits. bits ≡ x)) (walks c) c.united.ensures.united

pub returns-clause-memory : goal.returns-clause-memory
returns-clause-memory c = subst (λ (x : Option (List Bool)). OnErr c.united.result (IsSome x)) (walks c) c.united.ensures.memory
