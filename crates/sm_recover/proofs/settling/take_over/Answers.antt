use Rattle.std.proofs.Common.{inl, inr, ◌∙◌}
use Rattle.std.proofs.Math.Nat.{eq-or-lt_of_le}
use Rattle.sm_recover.proofs.UndoLaws.{held_same}
use Rattle.sm_recover.proofs.settling.take_over.Goals as goal

pub returns-clause-usable_still : goal.returns-clause-usable_still
returns-clause-usable_still g c = elim (eq-or-lt_of_le (g.met.S.Store.versions c.args.store.now)) [
  | inl current ↦ (c.upgrade.ensures.same current).1 ∙ c.requires.usable current
  | inr old ↦ c.in-Ok.ensures.usable old
]

pub returns-clause-stands : goal.returns-clause-stands
returns-clause-stands g c = record {
  site = c.upgrade.ensures.site;
  table = c.upgrade.ensures.table;
  area = λ told was. elim (eq-or-lt_of_le (g.met.S.Store.versions c.args.store.now)) [
    | inl current ↦ (c.upgrade.ensures.same current).0
    | inr old ↦ held_same (g.S.Store.area c.args.store.now) (g.S.Store.area c.upgrade.new.self) (c.upgrade.ensures.keeps told) was (c.in-Ok.ensures.settled told old)
  ];
}
