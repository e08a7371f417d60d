use Rattle.std.proofs.Common.{◌≡◌, ◌++◌, ◌∷◌, [], sym, ap, ◌∙◌, ℕ, List, rules}
use Rattle.vg_meta.proofs.RangeLaws.{first-push}
use Rattle.vg_meta.proofs.tables.first_extents.Goals as goal

pub loop-extent-preserved : goal.loop-extent-preserved
loop-extent-preserved c =
    let pushed : c.push.new.self.items ≡ c.loop-extent.extents.items ++ c.loop-extent.extent ∷ [] = search rules in
    pushed ∙ ap (λ (l : List ℕ). l ++ c.loop-extent.extent ∷ []) c.loop-extent.invariant
    ∙ sym (first-push c.loop-extent.extent)
