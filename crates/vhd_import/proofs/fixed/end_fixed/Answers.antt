use Rattle.std.proofs.Common.{◌-◌, refl, sym, ◌∙◌, arith, subst}
use Rattle.std.specs.Prelude.{nat_lt}
use Rattle.vhd_import.specs.Progress.{EndDenies, FaultCounts}
use Rattle.vhd_import.proofs.FixedLaws.{bad-end, cut-end, made-end, some-end}
use Rattle.vhd_import.proofs.fixed.end_fixed.Goals as goal

pub returns-then-part-gt0-clause-denied : goal.returns-then-part-gt0-clause-denied
returns-then-part-gt0-clause-denied c = λ file long last plain. subst (EndDenies file (nat_lt 0 c.args.part)) (sym c.cut.ensures) (cut-end file c.args.count c.args.part long c.if-part-gt0.true)

pub returns-then-part-gt0-clause-counts : goal.returns-then-part-gt0-clause-counts
returns-then-part-gt0-clause-counts c = λ s d. (tt, subst (FaultCounts s s d d) (sym c.cut.ensures) (refl, refl))

pub returns-then-is_footed-clause-made : goal.returns-then-is_footed-clause-made
returns-then-is_footed-clause-made c =
    let none = c.if-part-gt0.false in (
      omega (arith, c.requires.some),
      omega (arith, none),
      some-end c.args.last.now (c.args.count - 1) c.is_footed.result c.if-is_footed.true c.is_footed.ensures,
      λ file long last plain. made-end file (omega (arith, long, c.requires.some)) plain (sym (c.is_footed.ensures file (omega (arith, long, c.requires.some)) last) ∙ c.if-is_footed.true),
    )

pub returns-clause-denied : goal.returns-clause-denied
returns-clause-denied c = λ file long last plain.
    bad-end file c.args.count c.args.part long c.requires.some plain (omega (arith, c.if-part-gt0.false)) (sym (c.is_footed.ensures file (omega (arith, long, c.requires.some)) last) ∙ c.if-is_footed.false)
