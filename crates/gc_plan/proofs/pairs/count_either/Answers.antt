use Rattle.std.proofs.Common.{ℕ, List, Option, length, sym, ap, ap₂, ◌∙◌}
use Rattle.sm_machine.specs.Collector.{count_either}
use Rattle.sm_ready.proofs.MapLaws.{either_alike}
use Rattle.vhd_chain.specs.Reading.{slots_of}
use Rattle.gc_plan.proofs.ImageLaws.{slots_none, slots_some}
use Rattle.gc_plan.proofs.PairLaws.{no_blocks}
use Rattle.gc_plan.proofs.pairs.count_either.Goals as goal

pub returns-in_default : goal.returns-in_default
returns-in_default c = λ same.
    let p = c.args.pair.now.parent.now.image in
    let q = c.args.pair.now.child.now.image in
    no_blocks (slots_of p) (slots_of q) same (ap (λ (xs : List (Option ℕ)). length xs) (slots_none p (sym c.in_default.ensures)))

pub returns-in_default-map : goal.returns-in_default-map
returns-in_default-map c = λ same.
    let p = c.args.pair.now.parent.now.image in
    let q = c.args.pair.now.child.now.image in
    no_blocks (slots_of p) (slots_of q) same (same ∙ ap (λ (xs : List (Option ℕ)). length xs) (slots_none q (sym c.in_default-map.ensures)))

pub returns-then-entries : goal.returns-then-entries
returns-then-entries c = λ same.
    let p = slots_some c.args.pair.now.parent.now.image c.in-Some.parent.now (sym c.in-Some.ensures) in
    let q = slots_some c.args.pair.now.child.now.image c.in-Some-map.child.now (sym c.in-Some-map.ensures) in
    let long = ap (λ (xs : List (Option ℕ)). length xs) (sym p) ∙ same ∙ ap (λ (xs : List (Option ℕ)). length xs) q in
    c.union_count.ensures ∙ sym (either_alike c.in-Some.parent.now c.in-Some-map.child.now long) ∙ ap₂ count_either (sym p) (sym q)
