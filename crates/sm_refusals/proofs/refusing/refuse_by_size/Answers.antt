use Rattle.std.proofs.Common.{refl, sym, ◌∙◌}
use Rattle.sm_ready.specs.Known.{known}
use Rattle.sm_refusals.proofs.TurnLaws.{caught, passed_by}
use Rattle.sm_refusals.proofs.refusing.refuse_by_size.Goals as goal

pub returns-then-is_out_of_range : goal.returns-then-is_out_of_range
returns-then-is_out_of_range c = λ t s same o tidy. caught _ _ _ (sym (c.is_out_of_range.ensures s t o tidy) ∙ c.if-is_out_of_range.true)

pub returns-then-is_bad_size : goal.returns-then-is_bad_size
returns-then-is_bad_size c = λ t s same o tidy. passed_by _ _ _ _ (sym (c.is_out_of_range.ensures s t o tidy) ∙ c.if-is_out_of_range.false) (caught _ _ _ (sym (c.is_bad_size.ensures s t (known c.args.memory.now) same) ∙ c.if-is_bad_size.true))

pub returns-then-is_shrink : goal.returns-then-is_shrink
returns-then-is_shrink c = λ t s same o tidy. passed_by _ _ _ _ (sym (c.is_out_of_range.ensures s t o tidy) ∙ c.if-is_out_of_range.false) (passed_by _ _ _ _ (sym (c.is_bad_size.ensures s t (known c.args.memory.now) same) ∙ c.if-is_bad_size.false) (caught _ _ _ (sym (c.is_shrink.ensures s t same.same_sizes o tidy) ∙ c.if-is_shrink.true)))

pub returns : goal.returns
returns c = λ t s same o tidy. passed_by _ _ _ _ (sym (c.is_out_of_range.ensures s t o tidy) ∙ c.if-is_out_of_range.false) (passed_by _ _ _ _ (sym (c.is_bad_size.ensures s t (known c.args.memory.now) same) ∙ c.if-is_bad_size.false) (passed_by _ _ _ _ (sym (c.is_shrink.ensures s t same.same_sizes o tidy) ∙ c.if-is_shrink.false) refl))
