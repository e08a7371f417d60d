use Rattle.std.proofs.Common.{◌≡◌, ℕ, ◌+◌, ◌-◌, List, [], ◌∷◌, ◌++◌, length, min, ap, sym, ◌∙◌, arith, append_assoc}
use Rattle.std.specs.List.{range_with_len}
use Rattle.vg_meta.proofs.RangeLaws.{range-push}
use Rattle.vg_extents.proofs.RunLaws.{take_range}
use Rattle.vg_extents.proofs.runs.put.Goals as goal

pub loop-extent-preserved : goal.loop-extent-preserved
loop-extent-preserved c =
    let first = c.args.run.first in
    let extent = c.loop-extent.extent in
    let had = c.args.found.now.items in
    let le = c.loop-extent.auto.extent in
    let next : extent + 1 - first ≡ extent - first + 1 = omega arith in
    let here : first + (extent - first) ≡ extent = omega arith in
    let longer : range_with_len first (extent + 1 - first) ≡ range_with_len first (extent - first) ++ extent ∷ [] =
    ap (range_with_len first) next ∙ range-push first (extent - first) ∙ ap (λ (e : ℕ). range_with_len first (extent - first) ++ e ∷ []) here in
    c.in_ok-push.ensures ∙ ap (λ (l : List ℕ). l ++ extent ∷ []) c.loop-extent.invariant ∙ append_assoc had (range_with_len first (extent - first)) (extent ∷ [])
    ∙ ap (λ (l : List ℕ). had ++ l) (sym longer)

pub returns : goal.returns
returns c =
    let first = c.args.run.first in
    let had = c.args.found.now.items in
    let room = c.args.most - length had in
    let le = c.loop-extent.auto.extent in
    let all : c.loop-extent.extent - first ≡ min c.args.run.count room = omega (arith, c.min-count.ensures, c.len.ensures, c.loop-extent.auto.extent-end) in
    c.loop-extent.invariant ∙ ap (λ (n : ℕ). had ++ range_with_len first n) all ∙ ap (λ (l : List ℕ). had ++ l) (sym (take_range room first c.args.run.count))
