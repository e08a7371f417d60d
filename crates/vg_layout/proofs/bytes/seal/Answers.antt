use Rattle.std.proofs.Common.{◌≡◌, ◌≤◌, ◌++◌, length, take, sum, sym, ap, ◌∙◌, arith}
use Rattle.std.proofs.lemmas.List.{take_all}
use Rattle.vg_layout.specs.Sectors.{number, sealed}
use Rattle.vg_layout.proofs.bytes.seal.Goals as goal

pub returns : goal.returns
unfolding sealed
returns c =
    let front = take 508 c.args.to.now in
    let all : length c.put_number.new.to ≤ c.put_number.result = omega arith in
    let sum_is : c.sum_of-sum.result ≡ sum front = c.sum_of-sum.ensures in
    sym (take_all c.put_number.result c.put_number.new.to all) ∙ c.put_number.ensures.written ∙ ap (λ n. front ++ number n) sum_is
