use Rattle.std.proofs.Common.{sym, ◌∙◌}
use Rattle.vhd_fields.proofs.ParentLaws.{zeros_read, name_read, none_read, other_name}
use Rattle.vhd_fields.proofs.parents.parent_of.Goals as goal

pub returns-then-eq : goal.returns-then-eq
returns-then-eq c = zeros_read c.args.field.now (sym c.eq.ensures ∙ c.if-eq.true)

pub returns-in_default : goal.returns-in_default
returns-in_default c =
    none_read c.args.field.now (sym c.eq.ensures ∙ c.if-eq.false) c.in_default.ensures.found

pub returns-then-eq-2 : goal.returns-then-eq-2
returns-then-eq-2 c =
    name_read c.in-Some.name c.args.field.now c.in-Some.ensures.image (rw c.field_of.ensures at (sym c.eq-2.ensures ∙ c.if-eq-2.true))

pub returns-else-eq-2 : goal.returns-else-eq-2
returns-else-eq-2 c =
    let other = rw c.field_of.ensures at (sym c.eq-2.ensures ∙ c.if-eq-2.false) in
    none_read c.args.field.now (sym c.eq.ensures ∙ c.if-eq.false) (λ n image is.
    other_name c.in-Some.name n c.args.field.now other (c.in-Some.ensures.found n image is) is)
