use Rattle.std.proofs.Common.{◌+◌, ◌<◌, ◌≤◌, ◌∷◌, ◌∙◌, length, take, drop, ap, arith}
use Rattle.std.proofs.lemmas.List.{take_all}
use Rattle.std.specs.List.{flat_map}
use Rattle.sm_machine.specs.Replies.{image_text}
use Rattle.sm_script.proofs.PieceLaws.{Writes-none, Writes-after, Writes-cut, Writes-same, led_map, parts_at, parts_more}
use Rattle.sm_script.proofs.listings.write_images.Goals as goal

pub loop-image-init : goal.loop-image-init
loop-image-init g c = Writes-none _ _ tt

pub loop-image-preserved : goal.loop-image-preserved
loop-image-preserved g c =
    let i = c.loop-image.image-index in
    let rows = c.args.images.now in
    let so_far = c.loop-image.invariant in
    let within : i < length rows = omega arith in
    Writes-same (parts_more (λ r. 32 ∷ image_text r) rows i c.image-item.result within c.image-item.is)
    (Writes-after (flat_map (λ r. 32 ∷ image_text r) (take i rows)) c.in_ok-write_image.ensures so_far.adds so_far.cause.1)

pub returns-in_err-write_image : goal.returns-in_err-write_image
returns-in_err-write_image g c =
    let i = c.loop-image.image-index in
    let rows = c.args.images.now in
    let row = c.image-item.result in
    let so_far = c.loop-image.invariant in
    let e = c.in_err-write_image.ensures in
    let within : i < length rows = omega arith in
    Writes-same (parts_at (λ r. 32 ∷ image_text r) rows i row within c.image-item.is ∙ led_map 32 image_text rows)
    (Writes-after (flat_map (λ r. 32 ∷ image_text r) (take i rows))
    (Writes-cut (32 ∷ image_text row) (flat_map (λ r. 32 ∷ image_text r) (drop (i + 1) rows)) c.from_residual.ensures.0 e.front e.counts e.cause.0)
    so_far.adds so_far.cause.1)

pub returns : goal.returns
returns g c =
    let rows = c.args.images.now in
    let all : length rows ≤ c.loop-image.image-index = omega arith in
    Writes-same (ap (flat_map (λ r. 32 ∷ image_text r)) (take_all c.loop-image.image-index rows all) ∙ led_map 32 image_text rows) c.loop-image.invariant
