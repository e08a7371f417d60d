use Rattle.std.proofs.Common.{◌≡◌, rules, List, None, Some, sym, subst, ◌∙◌}
use Rattle.sm_log.specs.Logs.{Log, log_of, with_log}
use Rattle.sm_logs.specs.Held.{IsRising}
use Rattle.sm_logs.proofs.PlaceLaws.{placed}
use Rattle.sm_logs.proofs.OrderLaws.{rising_with}
use Rattle.sm_logs.proofs.held.Logs.insert.Goals as goal

pub unreachable-requires : goal.unreachable-requires
unreachable-requires c =
    let there : log_of c.disk.result c.deref.result.now ≡ Some _ = placed c.deref.result.now c.disk.result c.in_default.field-0 c.in_default.ensures.found in
    let none : log_of c.disk.result c.deref.result.now ≡ None =
    subst (λ (ls : List Log). log_of c.disk.result ls ≡ None) (sym (c.deref.ensures.value ∙ c.self.view_is)) (rw c.disk.ensures c.requires.absent) in
    absurd cc

pub invariant_of-self : goal.invariant_of-self
invariant_of-self c =
    let none : log_of c.args.log.disk c.self.inside.rows.items ≡ None = subst (λ (ls : List Log). log_of c.args.log.disk ls ≡ None) (sym c.self.view_is) c.requires.absent in
    let now : c.insert.new.self.items ≡ with_log c.args.log c.self.inside.rows.items = search rules in
    record {
      rising = subst IsRising (sym now) (rising_with c.self.inside.rows.items c.args.log none c.self.invariant.rising);
      room = search rules;
    }
