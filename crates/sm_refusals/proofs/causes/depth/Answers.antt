use Rattle.std.proofs.Common.{ℕ, length, Some, None, sym, ap, ◌∙◌}
use Rattle.std.specs.Option.{option_copied}
use Rattle.vhd_chain.specs.Trees.{chain_length}
use Rattle.sm_machine.specs.Shapes.{chain, chain_limit}
use Rattle.sm_ready.specs.Known.{known, shape_in}
use Rattle.sm_ready.proofs.LookLaws.{chain_found, image_is, shown_in}
use Rattle.sm_refusals.proofs.causes.depth.Goals as goal

pub returns-in-Some : goal.returns-in-Some
returns-in-Some c = λ s t o tidy.
    let m = known c.args.memory.now in
    let there = sym c.image.ensures ∙ ap option_copied c.in-Some.is in
    c.depth.ensures ∙ ap (chain_length m.rows 31) c.name.ensures ∙ chain_found s t m c.in-Some.row.now o (shown_in m.rows c.args.disk.now _ there)
    ∙ sym (ap (λ x. elim x as (λ _. ℕ) [ None ↦ 0 | Some i ↦ length (chain chain_limit i.name (shape_in s t m).images) ]) (image_is s t m c.args.disk.now _ o there))

pub returns-in-None : goal.returns-in-None
returns-in-None c = λ s t o tidy.
    let m = known c.args.memory.now in
    let there = sym c.image.ensures ∙ ap option_copied c.in-None.is in
    sym (ap (λ x. elim x as (λ _. ℕ) [ None ↦ 0 | Some i ↦ length (chain chain_limit i.name (shape_in s t m).images) ]) (image_is s t m c.args.disk.now _ o there))
