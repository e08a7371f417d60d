use Rattle.std.proofs.Common.{◌++◌, ℕ, List, length, drop, replicate, ap, ◌∙◌}
use Rattle.std.proofs.lemmas.List.{drop-replicate}
use Rattle.sm_base.proofs.labels.padded.Goals as goal

pub returns : goal.returns
returns c =
    let text = c.args.text.now in
    ap (λ (front : List ℕ). front ++ drop (length text) (replicate 64 0)) c.copy_from_slice.ensures.after
    ∙ ap (λ (rest : List ℕ). text ++ rest) (drop-replicate (length text) 64 0)
