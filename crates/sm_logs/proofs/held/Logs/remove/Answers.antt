use Rattle.std.proofs.Common.{◌≡◌, List, None, Some, sym, ap, subst, ◌∙◌, arith}
use Rattle.sm_log.specs.Logs.{Log, log_of, without_log}
use Rattle.sm_logs.specs.Held.{IsPlace, IsRising}
use Rattle.sm_logs.proofs.PlaceLaws.{placed, read_at, within}
use Rattle.sm_logs.proofs.OrderLaws.{rising_without, without_at, without_none}
use Rattle.sm_logs.proofs.held.Logs.remove.Goals as goal

spot : (c : goal.After-remove) → IsPlace c.self.inside.rows.items c.args.disk.now c.in-Ok.at
spot c = subst (λ (ls : List Log). IsPlace ls c.args.disk.now c.in-Ok.at) c.deref.ensures.value c.in-Ok.ensures.found

rest : (c : goal.After-remove) → c.remove.new.self.items ≡ without_log c.args.disk.now c.self.inside.rows.items
rest c = c.remove.ensures.items ∙ without_at c.self.inside.rows.items c.args.disk.now c.in-Ok.at (spot c)

pub returns-in_default-clause-rest : goal.returns-in_default-clause-rest
returns-in_default-clause-rest c =
    let none : log_of c.args.disk.now c.args.self.now ≡ None =
    subst (λ (ls : List Log). log_of c.args.disk.now ls ≡ None) (c.deref.ensures.value ∙ c.self.view_is) c.in_default.ensures.none.none in
    sym (without_none c.args.self.now c.args.disk.now none)

pub remove-requires : goal.remove-requires
remove-requires c = let low = within c.deref.result.now c.args.disk.now c.in-Ok.at c.in-Ok.ensures.found in omega (arith, low, c.deref.ensures.len)

pub invariant_of-self : goal.invariant_of-self
invariant_of-self c = record {
  rising = subst IsRising (sym (rest c)) (rising_without c.self.inside.rows.items c.args.disk.now c.self.invariant.rising);
  room = omega (arith, c.remove.ensures.capacity, c.self.invariant.room);
}

pub returns-clause-taken : goal.returns-clause-taken
returns-clause-taken c =
    ap Some (read_at c.self.inside.rows.items c.args.disk.now c.in-Ok.at c.remove.result (spot c) c.remove.ensures.value)
    ∙ sym (placed c.self.inside.rows.items c.args.disk.now c.in-Ok.at (spot c)) ∙ ap (log_of c.args.disk.now) c.self.view_is

pub returns-clause-rest : goal.returns-clause-rest
returns-clause-rest c = rest c ∙ ap (without_log c.args.disk.now) c.self.view_is
