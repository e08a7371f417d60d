use Rattle.std.proofs.Common.{◌≡◌, ⊎_elim, ℕ, ◌+◌, ◌-◌, ◌≤◌, nat_lt, List, length, sym, ap, ap₂, ◌∙◌, arith}
use Rattle.std.proofs.lemmas.Bool.{cases_lt, le-ltb, lt-ltb}
use Rattle.std.proofs.lemmas.List.{length-map}
use Rattle.std.specs.Prelude.{is_some}
use Rattle.vhd_chain.specs.declared.rows.TreeRow.{TreeRow}
use Rattle.sm_machine.specs.Refusals.{is_too_many}
use Rattle.sm_ready.specs.Known.{known, machine_row, shape_in}
use Rattle.sm_refusals.proofs.TurnLaws.{and_first, and_rest}
use Rattle.sm_refusals.proofs.causes.is_too_many.Goals as goal

as_sum : (n k : ℕ) → k ≤ 2 → nat_lt (500 - k) n ≡ nat_lt 500 (n + k)
as_sum n k few = ⊎_elim (λ less. lt-ltb (500 - k) n (omega (arith, less, few)) ∙ sym (lt-ltb 500 (n + k) less)) (λ most. le-ltb (500 - k) n (omega (arith, most, few)) ∙ sym (le-ltb 500 (n + k) most)) (cases_lt 500 (n + k))

pub returns-then-is_some : goal.returns-then-is_some
unfolding is_too_many shape_in
returns-then-is_some c = λ s t o tidy.
    let m = known c.args.memory.now in
    let have = ap (λ (rs : List TreeRow). length rs) c.rows.ensures.rows ∙ sym (length-map m.rows machine_row) in
    and_rest _ _ _ _ c.if-is_some.true (c.is_some.ensures ∙ ap is_some c.new_uuid.ensures)
    (as_sum (length c.rows.result.now) c.images_needed.result c.images_needed.ensures.few ∙ ap₂ (λ n k. nat_lt 500 (n + k)) have c.images_needed.ensures.is)

pub returns-else-is_some : goal.returns-else-is_some
unfolding is_too_many shape_in
returns-else-is_some c = λ s t o tidy. and_first _ _ _ c.if-is_some.false (c.is_some.ensures ∙ ap is_some c.new_uuid.ensures)
