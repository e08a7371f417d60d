use Rattle.std.proofs.Common.{ℕ, ◌≤◌, List, sym, ap, subst, ◌∙◌}
use Rattle.std.proofs.lemmas.Bool.{true≢false}
use Rattle.sm_base.specs.declared.names.Name.TheVariants.{Cbt}
use Rattle.vg_volumes.specs.Stored.{WorksOn, sectors_in, stored}
use Rattle.sm_log.specs.Logs.{log_of, log_sectors}
use Rattle.sm_cbt.proofs.MarkLaws.{log_disk, marked_log, untracked}
use Rattle.sm_cbt.proofs.touching.touch.Goals as goal

pub unreachable-requires : goal.unreachable-requires
unreachable-requires g c =
    let none = ap (log_of c.args.disk.now) (sym c.touch.ensures) ∙ sym c.in_default.ensures in
    true≢false (sym (untracked c.args.disk.now c.args.sector c.args.count c.args.logs.now none) ∙ sym c.is_touched-marked.ensures ∙ c.if-marked.false)

pub put-requires-clause-room : goal.put-requires-clause-room
put-requires-clause-room g c =
    let room = marked_log c.args.disk.now c.args.sector c.args.count c.args.logs.now c.touch.new.self c.in-Some.log.now
    (λ (n : ℕ). log_sectors n ≤ sectors_in (stored g.S.Store c.args.store.now) (Cbt c.args.disk.now)) c.touch.ensures c.in-Some.ensures c.requires.room in
    rw (log_disk c.args.disk.now c.touch.new.self c.in-Some.log.now (sym c.in-Some.ensures)) room

pub returns-clause-works : goal.returns-clause-works
returns-clause-works g c =
    subst (λ (u : List ℕ). WorksOn g.S.Store (Cbt u) c.args.store.now c.put.new.store) (log_disk c.args.disk.now c.touch.new.self c.in-Some.log.now (sym c.in-Some.ensures)) c.put.ensures.works
