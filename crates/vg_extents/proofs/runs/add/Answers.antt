use Rattle.std.proofs.Common.{◌≡◌, ◌++◌, ◌∷◌, [], List, sym, ap, ◌∙◌, rules, arith}
use Rattle.vg_extents.specs.declared.runs.Run.{Run}
use Rattle.vg_extents.proofs.RunLaws.{end_last, runs_longer, runs_more, extents_longer, on_ok}
use Rattle.vg_extents.proofs.runs.add.Goals as goal

pub overflow_add-last : goal.overflow_add-last
overflow_add-last c =
    let whole : c.args.runs.now.items ≡ c.pop.new.self.items ++ c.in-Some.last ∷ [] = search rules in
    let end = end_last c.pop.new.self.items c.in-Some.last c.args.extent whole c.requires.behind in
    omega (arith, end, c.requires.small)

pub returns-then-last-extent-clause-apart : goal.returns-then-last-extent-clause-apart
returns-then-last-extent-clause-apart c =
    let whole : c.args.runs.now.items ≡ c.pop.new.self.items ++ c.in-Some.last ∷ [] = search rules in
    on_ok c.push-then-last-extent.result c.push-then-last-extent.ensures
    (λ now. runs_longer c.pop.new.self.items c.in-Some.last c.args.extent whole now c.if-last-extent.true c.requires.behind)

pub returns-then-last-extent-clause-added : goal.returns-then-last-extent-clause-added
returns-then-last-extent-clause-added c =
    let whole : c.args.runs.now.items ≡ c.pop.new.self.items ++ c.in-Some.last ∷ [] = search rules in
    on_ok c.push-then-last-extent.result c.push-then-last-extent.ensures
    (λ now. extents_longer c.pop.new.self.items c.in-Some.last c.args.extent whole now c.if-last-extent.true)

pub returns-clause-apart : goal.returns-clause-apart
returns-clause-apart c =
    let whole : c.args.runs.now.items ≡ c.pop.new.self.items ++ c.in-Some.last ∷ [] = search rules in
    let back : c.push-2.new.list.items ≡ c.args.runs.now.items = c.in_ok-push.ensures ∙ sym whole in
    on_ok c.push-3.result c.push-3.ensures
    (λ now. runs_more c.pop.new.self.items c.in-Some.last c.args.extent whole (now ∙ ap (λ (l : List Run). l ++ record { first = c.args.extent; count = 1 } ∷ []) back) c.if-last-extent.false c.requires.behind)
