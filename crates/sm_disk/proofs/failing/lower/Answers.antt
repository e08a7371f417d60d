use Rattle.std.proofs.Common.{◌-◌, ◌≤◌, ◌++◌, map, take, length, get_or, ap, ◌∙◌, arith}
use Rattle.std.proofs.lemmas.List.Edits.{map_over_more}
use Rattle.std.proofs.lemmas.List.{take_all, drop_all, append-nil, get_or_default}
use Rattle.sm_disk.proofs.failing.lower.Goals as goal

pub loop-call-preserved : goal.loop-call-preserved
loop-call-preserved c =
    let i = c.loop-call.call-index in
    rw c.saturating_sub.ensures
    (map_over_more (λ n. n - 1) c.args.named.now c.loop-call.named i (get_or c.loop-call.named i 0)
    c.loop-call-test.true c.loop-call.invariant (get_or_default c.loop-call.named i 0 _ (omega arith)))

pub returns : goal.returns
returns c =
    let xs = c.args.named.now in
    let i = c.loop-call.call-index in
    let past : length xs ≤ i = omega arith in
    c.loop-call.invariant
    ∙ ap (λ l. map (λ n. n - 1) (take i xs) ++ l) (drop_all i xs past)
    ∙ append-nil (map (λ n. n - 1) (take i xs))
    ∙ ap (map (λ n. n - 1)) (take_all i xs past)
