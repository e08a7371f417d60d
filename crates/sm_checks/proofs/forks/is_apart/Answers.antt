use Rattle.std.proofs.Common.{◌≡◌, Some, arith, rules}
use Rattle.vg_meta.specs.Roomy.{table_alone}
use Rattle.sm_standing.specs.Entries.{folding, head}
use Rattle.sm_checks.proofs.KnownLaws.{no_folding}
use Rattle.sm_checks.proofs.forks.is_apart.Goals as goal

pub returns-in-Mgt : goal.returns-in-Mgt
returns-in-Mgt c =
    let found : head (folding (table_alone c.args.table.now)) ≡ Some c.in-Some.entry = search rules in
    absurd (no_folding (table_alone c.args.table.now) c.in-Some.entry found (λ a b is. grind (arith, is, c.in-Mgt.is)) (λ a b is. grind (arith, is, c.in-Mgt.is)) (λ a b is. grind (arith, is, c.in-Mgt.is)))
