use Rattle.std.proofs.Common.{◌≡◌, List, None, refl, sym, ap, subst, ◌∙◌, arith}
use Rattle.std.specs.Prelude.{slice_set}
use Rattle.sm_log.specs.Logs.{Log, log_of, on_log, touched}
use Rattle.sm_logs.specs.Held.{IsPlace, IsRising}
use Rattle.sm_logs.proofs.PlaceLaws.{read_at, within}
use Rattle.sm_logs.proofs.OrderLaws.{changed_at, on_none, rising_on}
use Rattle.sm_logs.proofs.held.Logs.touch.Goals as goal

spot : (c : goal.After-self-1) → IsPlace c.self.inside.rows.items c.args.disk.now c.in-Ok.at
spot c = subst (λ (ls : List Log). IsPlace ls c.args.disk.now c.in-Ok.at) c.deref.ensures.value c.in-Ok.ensures.found

done : (c : goal.After-self-1) → slice_set c.self.inside.rows.items c.in-Ok.at c.touch.new.self ≡ on_log c.args.disk.now (touched c.args.sector c.args.count) c.self.inside.rows.items
done c = changed_at c.self.inside.rows.items c.args.disk.now (touched c.args.sector c.args.count) c.in-Ok.at c.touch.new.self (spot c)
    (c.touch.ensures ∙ ap (touched c.args.sector c.args.count) (read_at c.self.inside.rows.items c.args.disk.now c.in-Ok.at c.index_mut-log.result.now (spot c) c.index_mut-log.ensures.value))

pub returns-in_default : goal.returns-in_default
returns-in_default c =
    let none : log_of c.args.disk.now c.args.self.now ≡ None =
    subst (λ (ls : List Log). log_of c.args.disk.now ls ≡ None) (c.deref.ensures.value ∙ c.self.view_is) c.in_default.ensures.none.none in
    sym (on_none c.args.self.now c.args.disk.now (touched c.args.sector c.args.count) none)

pub index_mut-log-requires : goal.index_mut-log-requires
index_mut-log-requires c = let low = within c.deref.result.now c.args.disk.now c.in-Ok.at c.in-Ok.ensures.found in omega (arith, low, c.deref.ensures.len)

pub invariant_of-self : goal.invariant_of-self
invariant_of-self c = record {
  rising = subst IsRising (sym (done c)) (rising_on c.self.inside.rows.items c.args.disk.now (touched c.args.sector c.args.count) (λ l. refl) c.self.invariant.rising);
  room = c.self.invariant.room;
}

pub returns : goal.returns
returns c = done c ∙ ap (on_log c.args.disk.now (touched c.args.sector c.args.count)) c.self.view_is
