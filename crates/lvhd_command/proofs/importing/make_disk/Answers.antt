use Rattle.std.proofs.Common.{inl, refl, sym, ap, subst, ◌∙◌}
use Rattle.sm_disk.specs.Held.{Keeps}
use Rattle.sm_disk.proofs.HeldLaws.{Keeps-none, Keeps-then}
use Rattle.sm_machine.specs.Steps.{State}
use Rattle.sm_ready.specs.Known.{known}
use Rattle.vg_meta.specs.Roomy.{table_alone}
use Rattle.vg_store.proofs.BesideLaws.{beside_kept}
use Rattle.vg_volumes.specs.Sites.{Site, area_size}
use Rattle.lvhd_command.specs.Devices.{IsKeptDevice, IsTruthfulDevice, StandsAlways, beside_at}
use Rattle.lvhd_command.specs.Importing.{CountedAs, ImportLeft}
use Rattle.lvhd_command.specs.Sessions.{session_leaves, site_of, state_of}
use Rattle.lvhd_command.proofs.ImportLaws.{counted_answer, counted_made, kept_import, left_made, left_unmade, shows_import, shows_made, stands_after, told_answer, told_made, truthful_import}
use Rattle.lvhd_command.proofs.ImportTruth.{imported_truthful}
use Rattle.lvhd_command.proofs.importing.make_disk.Goals as goal

pub import-answer-requires-clause-session : goal.import-answer-requires-clause-session
import-answer-requires-clause-session g c = rw (c.into_parts-store.ensures.store, c.into_parts-store.ensures.memory) (c.args.session.between c.requires.whole)

pub import-answer-requires-clause-ease : goal.import-answer-requires-clause-ease
import-answer-requires-clause-ease g c = rw c.into_parts-store.ensures.memory c.requires.ease

pub returns-clause-size : goal.returns-clause-size
returns-clause-size g c =
    let site_is = rw c.into_parts-store.ensures.store at c.import-answer.ensures.site in
    ap g.D.Disk.size c.into_disk-disk.ensures.disk ∙ ap (λ (x : Site). x.sectors) site_is

pub returns-clause-counted : goal.returns-clause-counted
returns-clause-counted g c =
    let counted = rw c.into_parts-store.ensures.store at c.import-answer.ensures.counted in
    let s = g.S.Source.faults c.args.source.now in
    let s' = g.S.Source.faults c.import-answer.new.source in
    let d = g.D.Disk.faults c.args.session.store.inner.disk in
    let k = g.K.Sink.faults c.args.sink.now in
    let k' = g.K.Sink.faults c.say_answer-status.new.sink in
    let had = g.K.Sink.content c.args.sink.now in
    let got = g.K.Sink.content c.say_answer-status.new.sink in
    let at = counted_answer s s' d (g.D.Disk.faults c.import-answer.result.1.inner.disk) k k' c.import-answer.result.0 had got c.say_answer-status.result c.say_answer-status.ensures counted in
    subst (λ x. CountedAs s s' d (g.D.Disk.faults x) k k' c.say_answer-status.result) (sym c.into_disk-disk.ensures.disk) at

pub returns-clause-unread : goal.returns-clause-unread
returns-clause-unread g c = λ r is.
    let by_store = rw c.into_parts-store.ensures.store at c.import-answer.ensures.refused in
    let by_memory = rw c.into_parts-store.ensures.memory at by_store in
    (by_memory r is).3

pub returns-clause-beside : goal.returns-clause-beside
returns-clause-beside g c = λ told.
    let n : Site = site_of c.args.session in
    let old = g.D.Disk.held c.args.session.store.inner.disk in
    let site_is = rw c.into_parts-store.ensures.store at c.import-answer.ensures.site in
    let beside = rw c.into_parts-store.ensures.store at c.import-answer.ensures.beside in
    subst (λ d. Keeps (beside_at n old) (beside_at n (g.D.Disk.held d))) (sym c.into_disk-disk.ensures.disk)
    (subst (λ (x : Site). Keeps (beside_at n old) (beside_at x (g.D.Disk.held c.import-answer.result.1.inner.disk))) site_is (beside told))

pub returns-clause-stands : goal.returns-clause-stands
returns-clause-stands g c = λ told.
    let site_is = rw c.into_parts-store.ensures.store at c.import-answer.ensures.site in
    subst (λ (x : Site). StandsAlways (g.D.Disk.size c.into_disk-disk.result) (g.D.Disk.held c.into_disk-disk.result) x) site_is (c.into_disk-disk.ensures.stands told)

pub returns-clause-kept : goal.returns-clause-kept
returns-clause-kept g c = λ told ready keeps.
    let n = c.import-answer.result.1.inner.disk in
    let site_is = rw c.into_parts-store.ensures.store at c.import-answer.ensures.site in
    let stands = rw c.into_disk-disk.ensures.disk at c.into_disk-disk.ensures.stands in
    let by_store = rw c.into_parts-store.ensures.store at c.import-answer.ensures.done in
    let by_memory = rw c.into_parts-store.ensures.memory at by_store in
    let i = by_memory told ready.0 in
    let k_store = rw c.into_parts-store.ensures.store at c.import-answer.ensures.kept in
    let k_memory = rw c.into_parts-store.ensures.memory at k_store in
    subst (λ d. IsKeptDevice (g.D.Disk.size d) (g.D.Disk.held d)) (sym c.into_disk-disk.ensures.disk)
    (kept_import (g.D.Disk.size n) (g.D.Disk.size n) _ (site_of c.args.session) (g.D.Disk.held n) (g.D.Disk.held n) _ _ _ i.ends refl site_is (Keeps-none (g.D.Disk.held n)) (stands told) (λ t image l. inl l) i.done.crash (k_memory told ready.0 ready.1 keeps))

pub returns-clause-told : goal.returns-clause-told
returns-clause-told g c =
    let by_store = rw c.into_parts-store.ensures.store at c.import-answer.ensures.answered in
    let by_memory = rw c.into_parts-store.ensures.memory at by_store in
    let answered = rw c.in-Err.is at by_memory in
    let said = rw c.in-Err.is at c.say_answer-status.ensures in
    let σ : State = state_of c.args.session in
    told_answer σ.shape c.args.uuid.now (g.S.Source.content c.args.source.now) (g.K.Sink.content c.args.sink.now) (g.K.Sink.content c.say_answer-status.new.sink) c.in-Err.field-0 _ _ c.say_answer-status.result answered said

pub returns-clause-left : goal.returns-clause-left
returns-clause-left g c = λ told ready begins.
    let s = c.args.session in
    let n = c.import-answer.result.1.inner.disk in
    let size = g.D.Disk.size s.store.inner.disk in
    let σ : State = state_of s in
    let bytes = g.S.Source.content c.args.source.now in
    let left = g.S.Source.content c.import-answer.new.source in
    let site_is = rw c.into_parts-store.ensures.store at c.import-answer.ensures.site in
    let stands = rw c.into_disk-disk.ensures.disk at c.into_disk-disk.ensures.stands in
    let by_store = rw c.into_parts-store.ensures.store at c.import-answer.ensures.done in
    let by_memory = rw c.into_parts-store.ensures.memory at by_store in
    let i = by_memory told ready.0 in
    let shows = shows_import size (g.D.Disk.size n) _ (site_of s) (g.D.Disk.held n) (g.D.Disk.held n) _ (session_leaves s) σ.disks i.ends (ap (λ (x : Site). x.sectors) site_is) site_is (Keeps-none (g.D.Disk.held n)) (stands told)
    (λ t image l. inl l) i.done.crash begins in
    let a_store = rw c.into_parts-store.ensures.store at c.import-answer.ensures.answered in
    let a_memory = rw c.into_parts-store.ensures.memory at a_store in
    let answered = rw c.in-Err.is at a_memory in
    let said = rw c.in-Err.is at c.say_answer-status.ensures in
    let with = i.ends_with in
    let ends_with = rw c.in-Err.is at with in
    subst (λ d. ImportLeft σ c.args.uuid.now size (g.D.Disk.held d) bytes left c.say_answer-status.result) (sym c.into_disk-disk.ensures.disk)
    (left_unmade σ c.args.uuid.now size (g.D.Disk.held n) bytes left i.ends shows c.in-Err.field-0 (g.K.Sink.content c.args.sink.now) (g.K.Sink.content c.say_answer-status.new.sink) _ _ c.say_answer-status.result ends_with answered said)

pub returns-in-Ok-clause-size : goal.returns-in-Ok-clause-size
returns-in-Ok-clause-size g c =
    let site_is = rw c.into_parts-store.ensures.store at c.import-answer.ensures.site in
    c.settle.ensures.size ∙ ap g.D.Disk.size c.into_disk-disk.ensures.disk ∙ ap (λ (x : Site). x.sectors) site_is

pub returns-in-Ok-clause-counted : goal.returns-in-Ok-clause-counted
returns-in-Ok-clause-counted g c =
    let counted = rw c.into_parts-store.ensures.store at c.import-answer.ensures.counted in
    let rises = rw c.into_disk-disk.ensures.disk at c.settle.ensures.counts in
    let rose = rw c.into_disk-disk.ensures.disk at c.settle.ensures.device in
    let calm = rw c.into_disk-disk.ensures.disk at c.settle.ensures.calm in
    let s = g.S.Source.faults c.args.source.now in
    let s' = g.S.Source.faults c.import-answer.new.source in
    let d = g.D.Disk.faults c.args.session.store.inner.disk in
    let d' = g.D.Disk.faults c.import-answer.result.1.inner.disk in
    let k = g.K.Sink.faults c.args.sink.now in
    let k' = g.K.Sink.faults c.say_answer-status.new.sink in
    let had = g.K.Sink.content c.args.sink.now in
    let got = g.K.Sink.content c.say_answer-status.new.sink in
    counted_made s s' d d' k k' c.import-answer.result.0 _ had got c.say_answer-status.result c.settle.result.0 (g.D.Disk.faults c.settle.result.1) _ c.in-Ok.is c.say_answer-status.ensures counted c.settle.ensures.status rises rose calm

pub returns-in-Ok-clause-unread : goal.returns-in-Ok-clause-unread
returns-in-Ok-clause-unread g c = λ r is.
    let by_store = rw c.into_parts-store.ensures.store at c.import-answer.ensures.refused in
    let by_memory = rw c.into_parts-store.ensures.memory at by_store in
    (by_memory r is).3

pub returns-in-Ok-clause-beside : goal.returns-in-Ok-clause-beside
returns-in-Ok-clause-beside g c = λ told.
    let n : Site = site_of c.args.session in
    let old = g.D.Disk.held c.args.session.store.inner.disk in
    let site_is = rw c.into_parts-store.ensures.store at c.import-answer.ensures.site in
    let beside = rw c.into_parts-store.ensures.store at c.import-answer.ensures.beside in
    let keeps = rw c.into_disk-disk.ensures.disk at c.settle.ensures.keeps in
    Keeps-then (subst (λ (x : Site). Keeps (beside_at n old) (beside_at x (g.D.Disk.held c.import-answer.result.1.inner.disk))) site_is (beside told)) (beside_kept n.layout (area_size n) (keeps told))

pub returns-in-Ok-clause-stands : goal.returns-in-Ok-clause-stands
returns-in-Ok-clause-stands g c = λ told.
    let n = c.import-answer.result.1.inner.disk in
    let site_is = rw c.into_parts-store.ensures.store at c.import-answer.ensures.site in
    let stands = rw c.into_disk-disk.ensures.disk at c.into_disk-disk.ensures.stands in
    let keeps = rw c.into_disk-disk.ensures.disk at c.settle.ensures.keeps in
    let is_size = rw c.into_disk-disk.ensures.disk at c.settle.ensures.size in
    stands_after (g.D.Disk.size c.settle.result.1) (g.D.Disk.size n) _ (site_of c.args.session) (g.D.Disk.held n) (g.D.Disk.held c.settle.result.1) (sym is_size) site_is (keeps told) (stands told)

pub returns-in-Ok-clause-kept : goal.returns-in-Ok-clause-kept
returns-in-Ok-clause-kept g c = λ told ready all.
    let n = c.import-answer.result.1.inner.disk in
    let site_is = rw c.into_parts-store.ensures.store at c.import-answer.ensures.site in
    let stands = rw c.into_disk-disk.ensures.disk at c.into_disk-disk.ensures.stands in
    let keeps = rw c.into_disk-disk.ensures.disk at c.settle.ensures.keeps in
    let is_size = rw c.into_disk-disk.ensures.disk at c.settle.ensures.size in
    let by_store = rw c.into_parts-store.ensures.store at c.import-answer.ensures.done in
    let by_memory = rw c.into_parts-store.ensures.memory at by_store in
    let i = by_memory told ready.0 in
    let k_store = rw c.into_parts-store.ensures.store at c.import-answer.ensures.kept in
    let k_memory = rw c.into_parts-store.ensures.memory at k_store in
    kept_import (g.D.Disk.size c.settle.result.1) (g.D.Disk.size n) _ (site_of c.args.session) (g.D.Disk.held n) (g.D.Disk.held c.settle.result.1) _ _ _ i.ends (sym is_size) site_is (keeps told) (stands told) (λ t image l. inl l) i.done.crash (k_memory told ready.0 ready.1 all)

pub returns-in-Ok-clause-told : goal.returns-in-Ok-clause-told
returns-in-Ok-clause-told g c =
    let said = rw c.in-Ok.is at c.say_answer-status.ensures in
    let σ : State = state_of c.args.session in
    told_made σ.shape c.args.uuid.now (g.S.Source.content c.args.source.now) (g.K.Sink.content c.args.sink.now) (g.K.Sink.content c.say_answer-status.new.sink) c.settle.result.0 _ said.1 c.settle.ensures.status

pub returns-in-Ok-clause-left : goal.returns-in-Ok-clause-left
returns-in-Ok-clause-left g c = λ told ready begins.
    let s = c.args.session in
    let store = c.import-answer.result.1 in
    let n = store.inner.disk in
    let size = g.D.Disk.size s.store.inner.disk in
    let new = g.D.Disk.held c.settle.result.1 in
    let σ : State = state_of s in
    let bytes = g.S.Source.content c.args.source.now in
    let left = g.S.Source.content c.import-answer.new.source in
    let site_is = rw c.into_parts-store.ensures.store at c.import-answer.ensures.site in
    let stands = rw c.into_disk-disk.ensures.disk at c.into_disk-disk.ensures.stands in
    let leaves = rw c.into_disk-disk.ensures.disk at c.into_disk-disk.ensures.leaves in
    let keeps = rw c.into_disk-disk.ensures.disk at c.settle.ensures.keeps in
    let by_store = rw c.into_parts-store.ensures.store at c.import-answer.ensures.done in
    let by_memory = rw c.into_parts-store.ensures.memory at by_store in
    let i = by_memory told ready.0 in
    let still = rw c.in-Ok.is at c.import-answer.ensures.session_still in
    let spent = rw c.in-Ok.is at c.import-answer.ensures.spent in
    let with = i.ends_with in
    let ends_with = rw c.in-Ok.is at with in
    let done = i.done in
    let made = rw c.in-Ok.is at done in
    let shows = shows_import size (g.D.Disk.size n) _ (site_of s) (g.D.Disk.held n) new _ (session_leaves s) σ.disks i.ends (ap (λ (x : Site). x.sectors) site_is) site_is (keeps told) (stands told) (λ t image l. inl l) i.done.crash begins in
    let only = shows_made size (g.D.Disk.size n) _ (site_of s) (g.D.Disk.held n) new _ (session_leaves s) σ.disks i.ends (ap (λ (x : Site). x.sectors) site_is) site_is (keeps told) (stands told) (λ t image l. inl l) i.done.crash
    (table_alone store.inner.table) (known c.import-answer.result.2) store.inner.area still.orderly (made.ready refl) (λ u image l. (leaves told still.usable u image l).table_is) (made.shown refl) in
    left_made σ c.args.uuid.now size new bytes left i.ends shows c.in-Ok.field-0 c.settle.result.0 g.D.Disk.told told ends_with spent c.settle.ensures.status only

-- ---- what logs tell

pub returns-clause-truthful : goal.returns-clause-truthful
returns-clause-truthful g c = λ told ready was_told.
    let s = c.args.session in
    let n = c.import-answer.result.1.inner.disk in
    let between = s.between c.requires.whole in
    let site_is = rw c.into_parts-store.ensures.store at c.import-answer.ensures.site in
    let stands = rw c.into_disk-disk.ensures.disk at c.into_disk-disk.ensures.stands in
    let by_store = rw c.into_parts-store.ensures.store at c.import-answer.ensures.done in
    let by_memory = rw c.into_parts-store.ensures.memory at by_store in
    let i = by_memory told ready.0 in
    let r_store = rw c.into_parts-store.ensures.store at c.import-answer.ensures.refused in
    let r_memory = rw c.into_parts-store.ensures.memory at r_store in
    let logs = rw c.into_parts-store.ensures.memory at c.import-answer.ensures.logs in
    let all = imported_truthful i between.orderly between.usable told ready.0 ready.1 was_told (λ r e. (r_memory r e).0) logs in
    subst (λ d. IsTruthfulDevice (g.D.Disk.size d) (g.D.Disk.held d)) (sym c.into_disk-disk.ensures.disk)
    (truthful_import (g.D.Disk.size n) (g.D.Disk.size n) _ (site_of s) (g.D.Disk.held n) (g.D.Disk.held n) _ _ _ i.ends refl site_is (Keeps-none (g.D.Disk.held n)) (stands told) (λ t image l. inl l) i.done.crash all)

pub returns-in-Ok-clause-truthful : goal.returns-in-Ok-clause-truthful
returns-in-Ok-clause-truthful g c = λ told ready was_told.
    let s = c.args.session in
    let n = c.import-answer.result.1.inner.disk in
    let between = s.between c.requires.whole in
    let site_is = rw c.into_parts-store.ensures.store at c.import-answer.ensures.site in
    let stands = rw c.into_disk-disk.ensures.disk at c.into_disk-disk.ensures.stands in
    let keeps = rw c.into_disk-disk.ensures.disk at c.settle.ensures.keeps in
    let is_size = rw c.into_disk-disk.ensures.disk at c.settle.ensures.size in
    let by_store = rw c.into_parts-store.ensures.store at c.import-answer.ensures.done in
    let by_memory = rw c.into_parts-store.ensures.memory at by_store in
    let i = by_memory told ready.0 in
    let r_store = rw c.into_parts-store.ensures.store at c.import-answer.ensures.refused in
    let r_memory = rw c.into_parts-store.ensures.memory at r_store in
    let logs = rw c.into_parts-store.ensures.memory at c.import-answer.ensures.logs in
    let all = imported_truthful i between.orderly between.usable told ready.0 ready.1 was_told (λ r e. (r_memory r e).0) logs in
    truthful_import (g.D.Disk.size c.settle.result.1) (g.D.Disk.size n) _ (site_of s) (g.D.Disk.held n) (g.D.Disk.held c.settle.result.1) _ _ _ i.ends (sym is_size) site_is (keeps told) (stands told) (λ t image l. inl l) i.done.crash all
