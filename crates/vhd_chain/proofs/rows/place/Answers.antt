use Rattle.std.proofs.Common.{◌≡◌, arith}
use Rattle.std.proofs.lemmas.Bool.{iff_false}
use Rattle.vhd_chain.proofs.PlaceLaws.{none_up_to, none_last, found_in_order}
use Rattle.vhd_chain.proofs.rows.place.Goals as goal

pub returns-then-count-eq0-clause-none : goal.returns-then-count-eq0-clause-none
returns-then-count-eq0-clause-none c =
    let zero_is : c.count_up_to-count.result ≡ 0 = omega arith in
    none_up_to c.args.rows.now c.args.name.now c.count_up_to-count.result zero_is c.count_up_to-count.ensures.within c.requires.order c.count_up_to-count.ensures.up_to

pub returns-then-is_named-clause-found : goal.returns-then-is_named-clause-found
returns-then-is_named-clause-found c =
    found_in_order c.args.rows.now c.args.name.now _ c.index-rows-last.result (omega arith) c.index-rows-last.is
    (c.is_named.ensures.0 c.if-is_named.true) c.requires.order

pub returns-else-is_named-clause-none : goal.returns-else-is_named-clause-none
returns-else-is_named-clause-none c =
    none_last c.args.rows.now c.args.name.now c.count_up_to-count.result _ c.index-rows-last.result (omega arith) c.count_up_to-count.ensures.within c.requires.order
    c.count_up_to-count.ensures.up_to c.index-rows-last.is (iff_false c.is_named.ensures c.if-is_named.false)
