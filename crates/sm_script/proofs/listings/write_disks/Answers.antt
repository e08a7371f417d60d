use Rattle.std.proofs.Common.{◌+◌, ◌<◌, ◌≤◌, ◌∷◌, ◌∙◌, length, take, drop, ap, arith}
use Rattle.std.proofs.lemmas.List.{take_all}
use Rattle.std.specs.List.{flat_map}
use Rattle.sm_machine.specs.Replies.{disk_text}
use Rattle.sm_script.proofs.PieceLaws.{Writes-none, Writes-after, Writes-cut, Writes-same, led_map, parts_at, parts_more}
use Rattle.sm_script.proofs.listings.write_disks.Goals as goal

pub loop-disk-init : goal.loop-disk-init
loop-disk-init g c = Writes-none _ _ tt

pub loop-disk-preserved : goal.loop-disk-preserved
loop-disk-preserved g c =
    let i = c.loop-disk.disk-index in
    let rows = c.args.disks.now in
    let so_far = c.loop-disk.invariant in
    let within : i < length rows = omega arith in
    Writes-same (parts_more (λ r. 32 ∷ disk_text r) rows i c.disk-item.result within c.disk-item.is)
    (Writes-after (flat_map (λ r. 32 ∷ disk_text r) (take i rows)) c.in_ok-write_disk.ensures so_far.adds so_far.cause.1)

pub returns-in_err-write_disk : goal.returns-in_err-write_disk
returns-in_err-write_disk g c =
    let i = c.loop-disk.disk-index in
    let rows = c.args.disks.now in
    let row = c.disk-item.result in
    let so_far = c.loop-disk.invariant in
    let e = c.in_err-write_disk.ensures in
    let within : i < length rows = omega arith in
    Writes-same (parts_at (λ r. 32 ∷ disk_text r) rows i row within c.disk-item.is ∙ led_map 32 disk_text rows)
    (Writes-after (flat_map (λ r. 32 ∷ disk_text r) (take i rows))
    (Writes-cut (32 ∷ disk_text row) (flat_map (λ r. 32 ∷ disk_text r) (drop (i + 1) rows)) c.from_residual.ensures.0 e.front e.counts e.cause.0)
    so_far.adds so_far.cause.1)

pub returns : goal.returns
returns g c =
    let rows = c.args.disks.now in
    let all : length rows ≤ c.loop-disk.disk-index = omega arith in
    Writes-same (ap (flat_map (λ r. 32 ∷ disk_text r)) (take_all c.loop-disk.disk-index rows all) ∙ led_map 32 disk_text rows) c.loop-disk.invariant
