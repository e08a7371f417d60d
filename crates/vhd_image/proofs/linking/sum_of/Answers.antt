use Rattle.std.proofs.Common.{◌≡◌, sum, arith, rules}
use Rattle.vhd_fields.proofs.Sums.{sum_of_bytes}
use Rattle.vhd_image.proofs.linking.sum_of.Goals as goal

pub returns-clause-small : goal.returns-clause-small
returns-clause-small c =
    let total : c.sum.result ≡ sum c.args.bytes.now = search rules in
    omega (arith, total, sum_of_bytes c.args.bytes.now (λ i. omega (arith, c.type_inv.bytes i)))
