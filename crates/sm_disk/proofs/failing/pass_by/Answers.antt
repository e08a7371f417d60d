use Rattle.std.proofs.Common.{◌≡◌, ◌-◌, ltb, filter, map, length, ap, ◌∙◌, rules}
use Rattle.std.proofs.lemmas.List.{take_at}
use Rattle.std.proofs.lemmas.List.Elements.{filter_from_retain}
use Rattle.sm_disk.proofs.failing.pass_by.Goals as goal

pub returns : goal.returns
returns c =
    let kept : c.retain.new.self.items ≡ filter (ltb 0) c.args.named.now.items =
    filter_from_retain _ (ltb 0) (λ p x b q h. search rules) _ _ _ c.retain.ensures.filtered in
    let long : length c.lower.new.named ≡ c.retain.new.self.len = search rules in
    take_at _ _ _ long ∙ c.lower.ensures ∙ ap (map (λ n. n - 1)) (c.deref_mut.ensures.value ∙ kept)
