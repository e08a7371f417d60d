use Rattle.std.proofs.Common.{ap, ◌∙◌}
use Rattle.sm_disk.proofs.HeldLaws.{Keeps-then}
use Rattle.vg_meta.specs.Roomy.{table_alone}
use Rattle.sm_standing.specs.Opened.{cleaned, undone}
use Rattle.sm_recover.proofs.LeafSettled.{behind_then, endable_then, ended_then, few_ending, few_then, good_then, held_then, left_then, linking_then, opened_then, orderly_then, same_then, settled_then, true_then}
use Rattle.sm_recover.proofs.settling.mend.Goals as goal

pub returns-in_err-end_leaf-clause-few : goal.returns-in_err-end_leaf-clause-few
returns-in_err-end_leaf-clause-few g c = few_ending c.requires.opened.ended c.end_leaf.ensures.part.part

pub returns-in_err-end_leaf-clause-few_left : goal.returns-in_err-end_leaf-clause-few_left
returns-in_err-end_leaf-clause-few_left g c = λ told t image leaves. few_ending c.requires.opened.ended (c.end_leaf.ensures.part.left told t image leaves).table

pub returns-in_err-end_leaf-clause-crash : goal.returns-in_err-end_leaf-clause-crash
returns-in_err-end_leaf-clause-crash g c = λ told t image leaves well.
    let o = c.requires.opened in
    left_then g.S.Store c.args.store.now o.openable o.allowed (c.requires.sound told) (c.requires.settled told) (c.end_leaf.ensures.part.left told t image leaves) well

pub restore-requires-clause-endable : goal.restore-requires-clause-endable
restore-requires-clause-endable g c = endable_then c.end_leaf.ensures.part c.in_ok-end_leaf.ensures.all c.requires.opened.checked

pub restore-requires-clause-orderly : goal.restore-requires-clause-orderly
restore-requires-clause-orderly g c = orderly_then c.end_leaf.ensures.part c.in_ok-end_leaf.ensures.all c.args.memory.now c.requires.opened.orderly

pub restore-requires-clause-linking : goal.restore-requires-clause-linking
restore-requires-clause-linking g c = linking_then c.end_leaf.ensures.part c.in_ok-end_leaf.ensures.all c.args.memory.now c.requires.opened.linking

pub restore-requires-clause-no_stray_log : goal.restore-requires-clause-no_stray_log
restore-requires-clause-no_stray_log g c = c.requires.opened.no_stray_log

pub restore-requires-clause-true_now : goal.restore-requires-clause-true_now
restore-requires-clause-true_now g c = λ told.
    let was = c.requires.settled told in (
      settled_then c.end_leaf.ensures.part c.in_ok-end_leaf.ensures.all told was,
      true_then c.end_leaf.ensures.part c.in_ok-end_leaf.ensures.all told was c.args.memory.now (c.requires.opened.true_images told was),
    )

pub returns-in_err-restore-clause-beside : goal.returns-in_err-restore-clause-beside
returns-in_err-restore-clause-beside g c = λ told. Keeps-then (c.end_leaf.ensures.part.beside told) (c.restore.ensures.beside told)

pub returns-in_err-restore-clause-few : goal.returns-in_err-restore-clause-few
returns-in_err-restore-clause-few g c =
    let o = c.requires.opened in
    few_then c.end_leaf.ensures.part c.in_ok-end_leaf.ensures.all (table_alone (g.S.Store.table c.restore.new.store)) o.ended o.allowed c.restore.ensures.few

pub returns-in_err-restore-clause-few_left : goal.returns-in_err-restore-clause-few_left
returns-in_err-restore-clause-few_left g c = λ told t image leaves.
    let o = c.requires.opened in
    few_then c.end_leaf.ensures.part c.in_ok-end_leaf.ensures.all t o.ended o.allowed (c.restore.ensures.few_left told t image leaves)

pub returns-in_err-restore-clause-crash : goal.returns-in_err-restore-clause-crash
returns-in_err-restore-clause-crash g c = λ told t image leaves well.
    let o = c.requires.opened in
    let was = c.requires.settled told in
    behind_then c.end_leaf.ensures.part c.in_ok-end_leaf.ensures.all told was o.openable o.allowed (c.requires.sound told) c.args.memory.now well o.checked.known (o.ready told was well) (c.restore.ensures.crash told t image leaves)

pub returns-clause-beside : goal.returns-clause-beside
returns-clause-beside g c = λ told. Keeps-then (c.end_leaf.ensures.part.beside told) (c.restore.ensures.beside told)

pub returns-clause-good_logs : goal.returns-clause-good_logs
returns-clause-good_logs g c = c.in_ok-restore.ensures.good_logs (good_then c.end_leaf.ensures.part c.in_ok-end_leaf.ensures.all c.args.memory.now c.requires.opened.good_logs)

pub returns-clause-cleaned : goal.returns-clause-cleaned
returns-clause-cleaned g c =
    c.in_ok-restore.ensures.cleaned
    ∙ ap cleaned (ended_then c.end_leaf.ensures.part c.in_ok-end_leaf.ensures.all ∙ ap undone c.requires.opened.ended.bare)

pub returns-clause-few : goal.returns-clause-few
returns-clause-few g c =
    let o = c.requires.opened in
    few_then c.end_leaf.ensures.part c.in_ok-end_leaf.ensures.all (table_alone (g.S.Store.table c.restore.new.store)) o.ended o.allowed c.restore.ensures.few

pub returns-clause-few_left : goal.returns-clause-few_left
returns-clause-few_left g c = λ told t image leaves.
    let o = c.requires.opened in
    few_then c.end_leaf.ensures.part c.in_ok-end_leaf.ensures.all t o.ended o.allowed (c.restore.ensures.few_left told t image leaves)

pub returns-clause-ready : goal.returns-clause-ready
returns-clause-ready g c = λ told well.
    let o = c.requires.opened in
    let was = c.requires.settled told in
    c.in_ok-restore.ensures.ready told
    (held_then c.end_leaf.ensures.part c.in_ok-end_leaf.ensures.all told was o.openable o.allowed (c.requires.sound told) c.args.memory.now well o.checked.known (o.ready told was well))

pub returns-clause-disks : goal.returns-clause-disks
returns-clause-disks g c = λ told well.
    let o = c.requires.opened in
    let was = c.requires.settled told in
    c.in_ok-restore.ensures.disks told
    (held_then c.end_leaf.ensures.part c.in_ok-end_leaf.ensures.all told was o.openable o.allowed (c.requires.sound told) c.args.memory.now well o.checked.known (o.ready told was well))
    ∙ (same_then c.end_leaf.ensures.part c.in_ok-end_leaf.ensures.all told was o.openable o.allowed (c.requires.sound told) well).same_disks

pub returns-clause-opened : goal.returns-clause-opened
returns-clause-opened g c = λ told well.
    let o = c.requires.opened in
    let was = c.requires.settled told in
    c.in_ok-restore.ensures.opened told
    (held_then c.end_leaf.ensures.part c.in_ok-end_leaf.ensures.all told was o.openable o.allowed (c.requires.sound told) c.args.memory.now well o.checked.known (o.ready told was well))
    ∙ opened_then c.end_leaf.ensures.part c.in_ok-end_leaf.ensures.all told was o.openable o.allowed (c.requires.sound told)

pub returns-clause-crash : goal.returns-clause-crash
returns-clause-crash g c = λ told t image leaves well.
    let o = c.requires.opened in
    let was = c.requires.settled told in
    behind_then c.end_leaf.ensures.part c.in_ok-end_leaf.ensures.all told was o.openable o.allowed (c.requires.sound told) c.args.memory.now well o.checked.known (o.ready told was well) (c.restore.ensures.crash told t image leaves)
