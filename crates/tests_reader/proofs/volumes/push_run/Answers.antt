use Rattle.std.proofs.Common.{◌≡◌, ◌+◌, ◌-◌, ◌++◌, ◌∷◌, [], sym, ap, ◌∙◌, append_assoc, ℕ, List, rules, arith}
use Rattle.std.specs.List.{range_with_len}
use Rattle.vg_meta.proofs.RangeLaws.{range-push}
use Rattle.tests_reader.proofs.volumes.push_run.Goals as goal

pub loop-extent-preserved : goal.loop-extent-preserved
loop-extent-preserved c =
    let es = c.args.extents.now.items in
    let first = c.args.first in
    let e = c.loop-extent.extent in
    let n = e - first in
    let next : first + n ≡ e = omega arith in
    let more : n + 1 ≡ e + 1 - first = omega arith in
    let pushed : c.push.new.self.items ≡ c.loop-extent.extents.items ++ e ∷ [] = search rules in
    pushed ∙ ap (λ (l : List ℕ). l ++ e ∷ []) c.loop-extent.invariant ∙ append_assoc es (range_with_len first n) (e ∷ [])
    ∙ ap (λ (l : List ℕ). es ++ l) (ap (λ (x : ℕ). range_with_len first n ++ x ∷ []) (sym next) ∙ sym (range-push first n) ∙ ap (range_with_len first) more)
