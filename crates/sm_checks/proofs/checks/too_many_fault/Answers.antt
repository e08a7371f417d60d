use Rattle.std.proofs.Common.{sym, ap, ◌∙◌, arith}
use Rattle.std.proofs.lemmas.Bool.{lt-ltb, le-ltb}
use Rattle.sm_base.specs.declared.faults.Place.TheVariants as at
use Rattle.common_laws.specs.Lists.{given}
use Rattle.sm_checks.proofs.CheckLaws.{too_many_at}
use Rattle.sm_checks.proofs.checks.too_many_fault.Goals as goal

pub returns-then-count_images-gt-IMAGE_LIMIT : goal.returns-then-count_images-gt-IMAGE_LIMIT
returns-then-count_images-gt-IMAGE_LIMIT c = λ seen is.
    sym (too_many_at seen c.args.table.now is c.volumes.ensures.volumes c.count_images.ensures ∙ ap (λ b. given b at.Images) (lt-ltb 500 c.count_images.result (omega arith)))

pub returns-else-count_images-gt-IMAGE_LIMIT : goal.returns-else-count_images-gt-IMAGE_LIMIT
returns-else-count_images-gt-IMAGE_LIMIT c = λ seen is.
    sym (too_many_at seen c.args.table.now is c.volumes.ensures.volumes c.count_images.ensures ∙ ap (λ b. given b at.Images) (le-ltb 500 c.count_images.result (omega arith)))
