use Rattle.std.proofs.Common.{refl, sym, ◌∙◌}
use Rattle.sm_refusals.proofs.TurnLaws.{caught, passed_by}
use Rattle.sm_refusals.proofs.refusing.refuse_by_name.Goals as goal

pub returns-then-is_reserved : goal.returns-then-is_reserved
returns-then-is_reserved c = λ s t o tidy. caught _ _ _ (sym (c.is_reserved.ensures) ∙ c.if-is_reserved.true)

pub returns-then-is_unknown : goal.returns-then-is_unknown
returns-then-is_unknown c = λ s t o tidy. passed_by _ _ _ _ (sym (c.is_reserved.ensures) ∙ c.if-is_reserved.false) (caught _ _ _ (sym (c.is_unknown.ensures s t o tidy) ∙ c.if-is_unknown.true))

pub returns-then-is_taken : goal.returns-then-is_taken
returns-then-is_taken c = λ s t o tidy. passed_by _ _ _ _ (sym (c.is_reserved.ensures) ∙ c.if-is_reserved.false) (passed_by _ _ _ _ (sym (c.is_unknown.ensures s t o tidy) ∙ c.if-is_unknown.false) (caught _ _ _ (sym (c.is_taken.ensures s t o tidy) ∙ c.if-is_taken.true)))

pub returns-then-is_in_use : goal.returns-then-is_in_use
returns-then-is_in_use c = λ s t o tidy. passed_by _ _ _ _ (sym (c.is_reserved.ensures) ∙ c.if-is_reserved.false) (passed_by _ _ _ _ (sym (c.is_unknown.ensures s t o tidy) ∙ c.if-is_unknown.false) (passed_by _ _ _ _ (sym (c.is_taken.ensures s t o tidy) ∙ c.if-is_taken.false) (caught _ _ _ (sym (c.is_in_use.ensures s t o tidy) ∙ c.if-is_in_use.true))))

pub returns-then-is_not_attached : goal.returns-then-is_not_attached
returns-then-is_not_attached c = λ s t o tidy. passed_by _ _ _ _ (sym (c.is_reserved.ensures) ∙ c.if-is_reserved.false) (passed_by _ _ _ _ (sym (c.is_unknown.ensures s t o tidy) ∙ c.if-is_unknown.false) (passed_by _ _ _ _ (sym (c.is_taken.ensures s t o tidy) ∙ c.if-is_taken.false) (passed_by _ _ _ _ (sym (c.is_in_use.ensures s t o tidy) ∙ c.if-is_in_use.false) (caught _ _ _ (sym (c.is_not_attached.ensures s t o tidy) ∙ c.if-is_not_attached.true)))))

pub returns-then-is_read_only : goal.returns-then-is_read_only
returns-then-is_read_only c = λ s t o tidy. passed_by _ _ _ _ (sym (c.is_reserved.ensures) ∙ c.if-is_reserved.false) (passed_by _ _ _ _ (sym (c.is_unknown.ensures s t o tidy) ∙ c.if-is_unknown.false) (passed_by _ _ _ _ (sym (c.is_taken.ensures s t o tidy) ∙ c.if-is_taken.false) (passed_by _ _ _ _ (sym (c.is_in_use.ensures s t o tidy) ∙ c.if-is_in_use.false) (passed_by _ _ _ _ (sym (c.is_not_attached.ensures s t o tidy) ∙ c.if-is_not_attached.false) (caught _ _ _ (sym (c.is_read_only.ensures s t o tidy) ∙ c.if-is_read_only.true))))))

pub returns-then-is_raw_disk : goal.returns-then-is_raw_disk
returns-then-is_raw_disk c = λ s t o tidy. passed_by _ _ _ _ (sym (c.is_reserved.ensures) ∙ c.if-is_reserved.false) (passed_by _ _ _ _ (sym (c.is_unknown.ensures s t o tidy) ∙ c.if-is_unknown.false) (passed_by _ _ _ _ (sym (c.is_taken.ensures s t o tidy) ∙ c.if-is_taken.false) (passed_by _ _ _ _ (sym (c.is_in_use.ensures s t o tidy) ∙ c.if-is_in_use.false) (passed_by _ _ _ _ (sym (c.is_not_attached.ensures s t o tidy) ∙ c.if-is_not_attached.false) (passed_by _ _ _ _ (sym (c.is_read_only.ensures s t o tidy) ∙ c.if-is_read_only.false) (caught _ _ _ (sym (c.is_raw_disk.ensures s t o tidy) ∙ c.if-is_raw_disk.true)))))))

pub returns-then-is_tracked : goal.returns-then-is_tracked
returns-then-is_tracked c = λ s t o tidy. passed_by _ _ _ _ (sym (c.is_reserved.ensures) ∙ c.if-is_reserved.false) (passed_by _ _ _ _ (sym (c.is_unknown.ensures s t o tidy) ∙ c.if-is_unknown.false) (passed_by _ _ _ _ (sym (c.is_taken.ensures s t o tidy) ∙ c.if-is_taken.false) (passed_by _ _ _ _ (sym (c.is_in_use.ensures s t o tidy) ∙ c.if-is_in_use.false) (passed_by _ _ _ _ (sym (c.is_not_attached.ensures s t o tidy) ∙ c.if-is_not_attached.false) (passed_by _ _ _ _ (sym (c.is_read_only.ensures s t o tidy) ∙ c.if-is_read_only.false) (passed_by _ _ _ _ (sym (c.is_raw_disk.ensures s t o tidy) ∙ c.if-is_raw_disk.false) (caught _ _ _ (sym (c.is_tracked.ensures s t o tidy) ∙ c.if-is_tracked.true))))))))

pub returns-then-is_untracked : goal.returns-then-is_untracked
returns-then-is_untracked c = λ s t o tidy. passed_by _ _ _ _ (sym (c.is_reserved.ensures) ∙ c.if-is_reserved.false) (passed_by _ _ _ _ (sym (c.is_unknown.ensures s t o tidy) ∙ c.if-is_unknown.false) (passed_by _ _ _ _ (sym (c.is_taken.ensures s t o tidy) ∙ c.if-is_taken.false) (passed_by _ _ _ _ (sym (c.is_in_use.ensures s t o tidy) ∙ c.if-is_in_use.false) (passed_by _ _ _ _ (sym (c.is_not_attached.ensures s t o tidy) ∙ c.if-is_not_attached.false) (passed_by _ _ _ _ (sym (c.is_read_only.ensures s t o tidy) ∙ c.if-is_read_only.false) (passed_by _ _ _ _ (sym (c.is_raw_disk.ensures s t o tidy) ∙ c.if-is_raw_disk.false) (passed_by _ _ _ _ (sym (c.is_tracked.ensures s t o tidy) ∙ c.if-is_tracked.false) (caught _ _ _ (sym (c.is_untracked.ensures s t o tidy) ∙ c.if-is_untracked.true)))))))))

pub returns : goal.returns
returns c = λ s t o tidy. passed_by _ _ _ _ (sym (c.is_reserved.ensures) ∙ c.if-is_reserved.false) (passed_by _ _ _ _ (sym (c.is_unknown.ensures s t o tidy) ∙ c.if-is_unknown.false) (passed_by _ _ _ _ (sym (c.is_taken.ensures s t o tidy) ∙ c.if-is_taken.false) (passed_by _ _ _ _ (sym (c.is_in_use.ensures s t o tidy) ∙ c.if-is_in_use.false) (passed_by _ _ _ _ (sym (c.is_not_attached.ensures s t o tidy) ∙ c.if-is_not_attached.false) (passed_by _ _ _ _ (sym (c.is_read_only.ensures s t o tidy) ∙ c.if-is_read_only.false) (passed_by _ _ _ _ (sym (c.is_raw_disk.ensures s t o tidy) ∙ c.if-is_raw_disk.false) (passed_by _ _ _ _ (sym (c.is_tracked.ensures s t o tidy) ∙ c.if-is_tracked.false) (passed_by _ _ _ _ (sym (c.is_untracked.ensures s t o tidy) ∙ c.if-is_untracked.false) refl))))))))
