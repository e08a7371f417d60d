use Rattle.std.proofs.Common.{◌≡◌, arith}
use Rattle.std.proofs.lemmas.Bool.{iff_false}
use Rattle.vg_meta.proofs.Places.{none_up_to, none_last, place_in_order}
use Rattle.vg_meta.proofs.volumes.place_in_order.Goals as goal

pub returns-then-count-eq0-clause-none : goal.returns-then-count-eq0-clause-none
returns-then-count-eq0-clause-none c =
    let zero_is : c.count_up_to-count.result ≡ 0 = omega arith in
    none_up_to c.args.volumes.now c.args.name.now c.count_up_to-count.result zero_is c.count_up_to-count.ensures.within c.requires.rising c.count_up_to-count.ensures.up_to

pub returns-then-is_named-clause-found : goal.returns-then-is_named-clause-found
returns-then-is_named-clause-found c =
    place_in_order c.args.volumes.now c.args.name.now _ c.index-volumes-last.result (omega arith) c.index-volumes-last.is
    (c.is_named.ensures.named.0 c.if-is_named.true) c.requires.rising

pub returns-else-is_named-clause-none : goal.returns-else-is_named-clause-none
returns-else-is_named-clause-none c =
    none_last c.args.volumes.now c.args.name.now c.count_up_to-count.result _ c.index-volumes-last.result (omega arith) c.count_up_to-count.ensures.within c.requires.rising
    c.count_up_to-count.ensures.up_to c.index-volumes-last.is (iff_false c.is_named.ensures.named c.if-is_named.false)
