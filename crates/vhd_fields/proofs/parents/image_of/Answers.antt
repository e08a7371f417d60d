use Rattle.std.proofs.Common.{sym, ◌∙◌, rules}
use Rattle.vhd_fields.proofs.ParentLaws.{also_image, characters, is_parent, parent_name}
use Rattle.vhd_fields.proofs.parents.image_of.Goals as goal

pub returns-in_default-clause-found : goal.returns-in_default-clause-found
returns-in_default-clause-found c = λ name image is.
    let text = characters name c.args.field.now c.text_of-text.result c.image_length.result image is (search rules) c.text_of-text.ensures c.image_length.ensures in
    c.in_default.ensures.none name (parent_name name image) (sym text)

pub returns-then-is_image-clause-image : goal.returns-then-is_image-clause-image
returns-then-is_image-clause-image c =
    is_parent c.in-Some.name c.in-Some.ensures.named.0 (sym c.is_image.ensures ∙ c.if-is_image.true)

pub returns-then-is_image-clause-found : goal.returns-then-is_image-clause-found
returns-then-is_image-clause-found c = λ name image is.
    c.in-Some.ensures.named.1 ∙ characters name c.args.field.now c.text_of-text.result c.image_length.result image is (search rules) c.text_of-text.ensures c.image_length.ensures

pub returns-else-is_image-clause-found : goal.returns-else-is_image-clause-found
returns-else-is_image-clause-found c = λ name image is.
    let alike = c.in-Some.ensures.named.1 ∙ characters name c.args.field.now c.text_of-text.result c.image_length.result image is (search rules) c.text_of-text.ensures c.image_length.ensures in
    let image_too = also_image c.in-Some.name name image alike in
    let not_image = c.is_image.ensures in
    let was = c.if-is_image.false in
    cc
