use Rattle.std.proofs.Common.{◌≤◌, ap, sym, subst, ◌∙◌}
use Rattle.sm_disk.proofs.HeldLaws.{Keeps-then}
use Rattle.vg_meta.specs.Roomy.{table_alone}
use Rattle.vg_meta.specs.Tables.{VolumeTable}
use Rattle.vg_volumes.specs.Sites.{Site}
use Rattle.vg_volumes.specs.Stored.{stored}
use Rattle.vg_volumes.proofs.StoredLaws.{reads_none}
use Rattle.sm_standing.specs.Entries.{folding, head}
use Rattle.sm_standing.specs.Opened.{cleaned, undone}
use Rattle.sm_standing.specs.Unfolded.{unfolded}
use Rattle.vhd_chain.specs.Trees.{Tree}
use Rattle.sm_ready.specs.Known.{known}
use Rattle.sm_ready.specs.Sessions.{IsAtEase}
use Rattle.sm_recover.proofs.GoodBehind.{HasSizes, cleaned_later, good_behind, linked_sizes}
use Rattle.sm_recover.proofs.SweptLaws.{shape_opened}
use Rattle.sm_recover.proofs.SettleLaws.{area_behind, checked_behind, few_all, few_linking, link_begun, link_same, linkable_behind, no_stray_as, none_stray, opened_behind, orderly_behind, same_behind, same_first, start, table_behind, true_behind}
use Rattle.sm_recover.proofs.settling.restore.Goals as goal

pub returns-in_err-undo-clause-beside : goal.returns-in_err-undo-clause-beside
returns-in_err-undo-clause-beside g c = λ told. c.undo.ensures.beside told

pub returns-in_err-undo-clause-crash : goal.returns-in_err-undo-clause-crash
returns-in_err-undo-clause-crash g c = λ told t image leaves h. c.undo.ensures.crash told t image leaves h.settled h.sound h.well

pub link_up-requires-clause-linkable : goal.link_up-requires-clause-linkable
link_up-requires-clause-linkable g c =
    linkable_behind (reads_none {g = g.S.Store} c.args.store.now) c.in_ok-undo.ensures.site c.in_ok-undo.ensures.undone c.requires.endable c.args.memory.now c.requires.linking

pub link_up-requires-clause-orderly : goal.link_up-requires-clause-orderly
link_up-requires-clause-orderly g c =
    orderly_behind (reads_none {g = g.S.Store} c.args.store.now) c.in_ok-undo.ensures.site c.in_ok-undo.ensures.undone c.requires.endable c.args.memory.now c.requires.orderly

pub link_up-requires-clause-true_now : goal.link_up-requires-clause-true_now
link_up-requires-clause-true_now g c = λ told.
    let u = c.in_ok-undo.ensures in
    let r = reads_none {g = g.S.Store} c.args.store.now in
    let was = (c.requires.true_now told).0 in
    ∣ true_behind r u.site u.undone c.requires.endable c.args.memory.now c.requires.orderly (area_behind r u.site u.undone c.requires.endable told (u.keeps told) was (u.settled told)) (c.requires.true_now told).1 ∣₁

pub returns-in_err-link_up-clause-beside : goal.returns-in_err-link_up-clause-beside
returns-in_err-link_up-clause-beside g c = λ told. Keeps-then (c.undo.ensures.beside told) (c.link_up.ensures.beside told)

pub returns-in_err-link_up-clause-few : goal.returns-in_err-link_up-clause-few
returns-in_err-link_up-clause-few g c =
    let u = c.in_ok-undo.ensures in
    few_linking (reads_none {g = g.S.Store} c.args.store.now) u.site u.undone c.requires.endable (table_alone (g.S.Store.table c.link_up.new.store)) c.link_up.ensures.few

pub returns-in_err-link_up-clause-few_left : goal.returns-in_err-link_up-clause-few_left
returns-in_err-link_up-clause-few_left g c = λ told t image leaves.
    let u = c.in_ok-undo.ensures in
    few_linking (reads_none {g = g.S.Store} c.args.store.now) u.site u.undone c.requires.endable t (c.link_up.ensures.few_left told t image leaves)

pub returns-in_err-link_up-clause-crash : goal.returns-in_err-link_up-clause-crash
returns-in_err-link_up-clause-crash g c = λ told t image leaves h.
    let r = reads_none {g = g.S.Store} c.args.store.now in
    let u = c.in_ok-undo.ensures in
    link_same r u.site u.undone c.requires.endable told (u.keeps told) h.settled (u.settled told) h.sound h.well
    (c.link_up.ensures.crash told t image leaves (link_begun r u.site u.undone c.requires.endable told (u.keeps told) h.settled (u.settled told) c.args.memory.now h.sound h.well h.ready))

pub repair-requires-clause-checked : goal.repair-requires-clause-checked
repair-requires-clause-checked g c =
    let u = c.in_ok-undo.ensures in
    checked_behind (reads_none {g = g.S.Store} c.args.store.now) u.site u.undone c.requires.endable c.link_up.ensures.site c.in_ok-link_up.ensures.unfolded

pub returns-in_err-repair-clause-beside : goal.returns-in_err-repair-clause-beside
returns-in_err-repair-clause-beside g c = λ told.
    Keeps-then (Keeps-then (c.undo.ensures.beside told) (c.link_up.ensures.beside told)) (c.repair.ensures.beside told)

pub returns-in_err-repair-clause-few : goal.returns-in_err-repair-clause-few
returns-in_err-repair-clause-few g c =
    let u = c.in_ok-undo.ensures in
    few_all (reads_none {g = g.S.Store} c.args.store.now) u.site u.undone c.requires.endable c.link_up.ensures.site c.in_ok-link_up.ensures.unfolded (table_alone (g.S.Store.table c.repair.new.store)) c.repair.ensures.few

pub returns-in_err-repair-clause-few_left : goal.returns-in_err-repair-clause-few_left
returns-in_err-repair-clause-few_left g c = λ told t image leaves.
    let u = c.in_ok-undo.ensures in
    few_all (reads_none {g = g.S.Store} c.args.store.now) u.site u.undone c.requires.endable c.link_up.ensures.site c.in_ok-link_up.ensures.unfolded t (c.repair.ensures.few_left told t image leaves)

pub returns-in_err-repair-clause-crash : goal.returns-in_err-repair-clause-crash
returns-in_err-repair-clause-crash g c = λ told t image leaves h.
    let r = reads_none {g = g.S.Store} c.args.store.now in
    let u = c.in_ok-undo.ensures in
    let l = c.in_ok-link_up.ensures in
    let rest = l.rest told (link_begun r u.site u.undone c.requires.endable told (u.keeps told) h.settled (u.settled told) c.args.memory.now h.sound h.well h.ready) in
    link_same r u.site u.undone c.requires.endable told (u.keeps told) h.settled (u.settled told) h.sound h.well
    (same_behind c.link_up.ensures.site rest
    (c.repair.ensures.crash told t image leaves (start r u.site u.undone c.requires.endable c.link_up.ensures.site l.unfolded c.link_up.new.memory l.orderly rest l.at_ease)))

pub returns-clause-beside : goal.returns-clause-beside
returns-clause-beside g c = λ told.
    Keeps-then (Keeps-then (c.undo.ensures.beside told) (c.link_up.ensures.beside told)) (c.repair.ensures.beside told)

pub returns-clause-cleaned : goal.returns-clause-cleaned
returns-clause-cleaned g c =
    let u = c.in_ok-undo.ensures in
    c.in_ok-repair.ensures.cleaned ∙ ap cleaned (table_behind (reads_none {g = g.S.Store} c.args.store.now) u.site u.undone c.requires.endable c.link_up.ensures.site c.in_ok-link_up.ensures.unfolded)

pub returns-clause-few : goal.returns-clause-few
returns-clause-few g c =
    let u = c.in_ok-undo.ensures in
    few_all (reads_none {g = g.S.Store} c.args.store.now) u.site u.undone c.requires.endable c.link_up.ensures.site c.in_ok-link_up.ensures.unfolded (table_alone (g.S.Store.table c.repair.new.store)) c.repair.ensures.few

pub returns-clause-few_left : goal.returns-clause-few_left
returns-clause-few_left g c = λ told t image leaves.
    let u = c.in_ok-undo.ensures in
    few_all (reads_none {g = g.S.Store} c.args.store.now) u.site u.undone c.requires.endable c.link_up.ensures.site c.in_ok-link_up.ensures.unfolded t (c.repair.ensures.few_left told t image leaves)

pub returns-clause-ready : goal.returns-clause-ready
returns-clause-ready g c = λ told h.
    let r = reads_none {g = g.S.Store} c.args.store.now in
    let u = c.in_ok-undo.ensures in
    let l = c.in_ok-link_up.ensures in
    let rest = l.rest told (link_begun r u.site u.undone c.requires.endable told (u.keeps told) h.settled (u.settled told) c.args.memory.now h.sound h.well h.ready) in
    ((c.in_ok-repair.ensures.rest told).rest (start r u.site u.undone c.requires.endable c.link_up.ensures.site l.unfolded c.link_up.new.memory l.orderly rest l.at_ease)).ready

pub returns-clause-disks : goal.returns-clause-disks
returns-clause-disks g c = λ told h.
    let r = reads_none {g = g.S.Store} c.args.store.now in
    let u = c.in_ok-undo.ensures in
    let l = c.in_ok-link_up.ensures in
    let rest = l.rest told (link_begun r u.site u.undone c.requires.endable told (u.keeps told) h.settled (u.settled told) c.args.memory.now h.sound h.well h.ready) in
    (c.in_ok-repair.ensures.rest told).same_disks (start r u.site u.undone c.requires.endable c.link_up.ensures.site l.unfolded c.link_up.new.memory l.orderly rest l.at_ease)
    ∙ rest.same_disks ∙ (same_first r u.site u.undone c.requires.endable told (u.keeps told) h.settled (u.settled told) h.sound h.well).same_disks

pub returns-clause-no_stray_log : goal.returns-clause-no_stray_log
returns-clause-no_stray_log g c =
    let u = c.in_ok-undo.ensures in
    let l = c.in_ok-link_up.ensures in
    let linked = none_stray (reads_none {g = g.S.Store} c.args.store.now) u.site u.undone c.requires.endable c.link_up.ensures.site l.unfolded c.args.memory.now c.link_up.new.memory c.requires.orderly
    l.orderly c.link_up.ensures.logs c.requires.no_stray_log in
    no_stray_as c.link_up.new.memory c.repair.new.memory linked c.repair.ensures.tree c.repair.ensures.logs

pub returns-clause-good_logs : goal.returns-clause-good_logs
returns-clause-good_logs g c =
    let u = c.in_ok-undo.ensures in
    let l = c.in_ok-link_up.ensures in
    let r = reads_none {g = g.S.Store} c.args.store.now in
    let first = c.args.store.now in
    let mid = c.undo.new.store in
    let m = c.args.memory.now in
    let t = undone (unfolded (table_alone (g.S.Store.table first))) in
    let table = c.in_ok-repair.ensures.cleaned ∙ ap cleaned (table_behind r u.site u.undone c.requires.endable c.link_up.ensures.site l.unfolded) in
    good_behind (g.S.Store.site first) t (known m) (g.S.Store.site c.repair.new.store) (table_alone (g.S.Store.table c.repair.new.store)) (known c.repair.new.memory) c.in_ok-repair.ensures.orderly
    (ap (λ (s : Site). s.geometry.extent) (c.repair.ensures.site ∙ c.link_up.ensures.site ∙ c.undo.ensures.site))
    (subst (λ (v : VolumeTable). t.sequence ≤ v.sequence) (sym table) (cleaned_later t c.requires.orderly.table.sequence))
    (c.repair.ensures.logs ∙ c.link_up.ensures.logs) (returns-clause-no_stray_log g c)
    (subst (λ (x : Tree). HasSizes m.tree.rows x.rows) (sym c.repair.ensures.tree)
    (linked_sizes (g.S.Store.site mid) (table_alone (g.S.Store.table mid)) m.tree.rows (g.S.Store.site mid) (g.S.Store.site c.link_up.new.store) (unfolded (table_alone (g.S.Store.table mid)))
    (table_alone (g.S.Store.table c.link_up.new.store)) (known m) (known c.link_up.new.memory) (head (folding (table_alone (g.S.Store.table mid))))
    (linkable_behind r u.site u.undone c.requires.endable m c.requires.linking) l.shape))

pub returns-clause-opened : goal.returns-clause-opened
returns-clause-opened g c = λ told h.
    let r = reads_none {g = g.S.Store} c.args.store.now in
    let u = c.in_ok-undo.ensures in
    let l = c.in_ok-link_up.ensures in
    let e = c.in_ok-repair.ensures in
    let rest = l.rest told (link_begun r u.site u.undone c.requires.endable told (u.keeps told) h.settled (u.settled told) c.args.memory.now h.sound h.well h.ready) in
    let begun = start r u.site u.undone c.requires.endable c.link_up.ensures.site l.unfolded c.link_up.new.memory l.orderly rest l.at_ease in
    let q : IsAtEase c.repair.new.memory = record { idle = c.repair.ensures.operation ∙ l.at_ease.idle; unattached = ap (λ a. a.disks) c.repair.ensures.attached ∙ l.at_ease.unattached } in
    let linked = none_stray r u.site u.undone c.requires.endable c.link_up.ensures.site l.unfolded c.args.memory.now c.link_up.new.memory c.requires.orderly l.orderly c.link_up.ensures.logs c.requires.no_stray_log in
    shape_opened (stored g.S.Store c.link_up.new.store) (known c.link_up.new.memory) begun (stored g.S.Store c.repair.new.store) (known c.repair.new.memory)
    (e.rest told) e.site e.cleaned e.tidy.none_new q.unattached q.idle (no_stray_as c.link_up.new.memory c.repair.new.memory linked c.repair.ensures.tree c.repair.ensures.logs)
    ∙ opened_behind r u.site u.undone c.requires.endable c.link_up.ensures.site l.unfolded c.args.memory.now c.link_up.new.memory h.sound h.settled c.requires.orderly h.ready c.requires.at_ease c.requires.no_stray_log begun
    l.at_ease.unattached linked c.requires.linking l.shape

pub returns-clause-crash : goal.returns-clause-crash
returns-clause-crash g c = λ told t image leaves h.
    let r = reads_none {g = g.S.Store} c.args.store.now in
    let u = c.in_ok-undo.ensures in
    let l = c.in_ok-link_up.ensures in
    let rest = l.rest told (link_begun r u.site u.undone c.requires.endable told (u.keeps told) h.settled (u.settled told) c.args.memory.now h.sound h.well h.ready) in
    link_same r u.site u.undone c.requires.endable told (u.keeps told) h.settled (u.settled told) h.sound h.well
    (same_behind c.link_up.ensures.site rest
    (c.repair.ensures.crash told t image leaves (start r u.site u.undone c.requires.endable c.link_up.ensures.site l.unfolded c.link_up.new.memory l.orderly rest l.at_ease)))

pub returns-clause-true_images : goal.returns-clause-true_images
returns-clause-true_images g c = c.in_ok-repair.ensures.true_images c.in_ok-link_up.ensures.true_still

pub returns-clause-attachments : goal.returns-clause-attachments
returns-clause-attachments g c = subst (λ a. c.args.memory.now.attached.room ≤ a.room) (sym c.repair.ensures.attached) c.in_ok-link_up.ensures.attachments
