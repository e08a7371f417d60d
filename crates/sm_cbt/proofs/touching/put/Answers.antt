use Rattle.std.proofs.Common.{◌≡◌, ℕ, ◌+◌, ◌-◌, ◌/◌, ◌≤◌, List, Bool, length, sym, ap, subst, ◌∙◌, arith}
use Rattle.std.proofs.lemmas.Result.{IfOk-weaker}
use Rattle.sm_base.specs.declared.names.Name.TheVariants.{Cbt}
use Rattle.sm_disk.specs.Held.{IsWhole, Reaches, reads}
use Rattle.sm_disk.proofs.ReachesLaws.{Reaches-keeps, Reaches-then}
use Rattle.vg_meta.specs.Roomy.{table_alone}
use Rattle.vg_volumes.specs.Sites.{size_of}
use Rattle.vg_volumes.specs.Stored.{Stays, WorksOn, held_in, stored}
use Rattle.vg_volumes.proofs.CallLaws.{keeps_in, works_from}
use Rattle.vg_volumes.proofs.StoredLaws.{stays_from}
use Rattle.sm_log.specs.Coded.{packed_sector}
use Rattle.sm_cbt.specs.Marks.{IsMark}
use Rattle.sm_cbt.proofs.MarkLaws.{put_marks, put_reads, whole, within_log, written, written_then}
use Rattle.sm_cbt.proofs.touching.put.Goals as goal

pub sectors-bits-requires : goal.sectors-bits-requires
sectors-bits-requires g c =
    let low = within_log (length c.args.log.now.bits) c.args.sector c.args.count c.requires.some c.requires.within in
    let order : c.args.sector / 524288 ≤ (c.args.sector + c.args.count - 1) / 524288 = omega (arith, c.requires.some) in
    rw c.bits-2.ensures (omega (arith, low, order))

pub write-requires : goal.write-requires
write-requires g c =
    let first : ℕ = c.args.sector / 524288 in
    let last : ℕ = (c.args.sector + c.args.count - 1) / 524288 in
    let bits : List Bool = c.args.log.now.bits in
    let low = within_log (length bits) c.args.sector c.args.count c.requires.some c.requires.within in
    let order : first ≤ last = omega (arith, c.requires.some) in
    let is : c.sectors-bits.result.now ≡ written bits first last = c.sectors-bits.ensures ∙ ap (λ (b : List Bool). written b first last) c.bits-2.ensures in
    subst (λ (u : List ℕ). IsWhole (1 + first) (length c.sectors-bits.result.now) (size_of (g.S.Store.site c.args.store.now) (table_alone (g.S.Store.table c.args.store.now)) (Cbt u))) (sym c.disk.ensures)
    (rw is (whole bits first last (length bits) (size_of (g.S.Store.site c.args.store.now) (table_alone (g.S.Store.table c.args.store.now)) (Cbt c.args.log.now.disk)) order low c.requires.room))

pub returns-in_err-write-clause-marks : goal.returns-in_err-write-clause-marks
returns-in_err-write-clause-marks g c = λ told.
    let w = c.write.ensures in
    let first : Stays g.S.Store c.args.store.now c.write.new.self = stays_from w.site w.table w.no_less w.counts w.beside in
    let bits : List Bool = c.args.log.now.bits in
    let is : c.sectors-bits.result.now ≡ written bits (c.args.sector / 524288) ((c.args.sector + c.args.count - 1) / 524288) =
    c.sectors-bits.ensures ∙ ap (λ (b : List Bool). written b (c.args.sector / 524288) ((c.args.sector + c.args.count - 1) / 524288)) c.bits-2.ensures in
    subst (λ (u : List ℕ). Reaches (IsMark bits c.args.sector c.args.count) (held_in (stored g.S.Store c.args.store.now) (Cbt u)) (held_in (stored g.S.Store c.write.new.self) (Cbt u))) c.disk.ensures
    (put_marks {g = g.S.Store} (Cbt c.disk.result) bits c.args.sector c.args.count c.sectors-bits.result.now c.requires.some first is (w.torn told))

pub returns-clause-works : goal.returns-clause-works
returns-clause-works g c =
    let w = c.write.ensures in
    let s = c.sync.ensures in
    let first : Stays g.S.Store c.args.store.now c.write.new.self = stays_from w.site w.table w.no_less w.counts w.beside in
    let second : Stays g.S.Store c.write.new.self c.sync.new.self = stays_from s.site s.table s.no_less s.counts s.beside in
    subst (λ (u : List ℕ). WorksOn g.S.Store (Cbt u) c.args.store.now c.sync.new.self) c.disk.ensures
    (written_then {g = g.S.Store} (Cbt c.disk.result) (works_from {g = g.S.Store} (Cbt c.disk.result) first w.elsewhere) second s.keeps)

pub returns-clause-marks : goal.returns-clause-marks
returns-clause-marks g c = λ told.
    let w = c.write.ensures in
    let s = c.sync.ensures in
    let first : Stays g.S.Store c.args.store.now c.write.new.self = stays_from w.site w.table w.no_less w.counts w.beside in
    let second : Stays g.S.Store c.write.new.self c.sync.new.self = stays_from s.site s.table s.no_less s.counts s.beside in
    let bits : List Bool = c.args.log.now.bits in
    let is : c.sectors-bits.result.now ≡ written bits (c.args.sector / 524288) ((c.args.sector + c.args.count - 1) / 524288) =
    c.sectors-bits.ensures ∙ ap (λ (b : List Bool). written b (c.args.sector / 524288) ((c.args.sector + c.args.count - 1) / 524288)) c.bits-2.ensures in
    subst (λ (u : List ℕ). Reaches (IsMark bits c.args.sector c.args.count) (held_in (stored g.S.Store c.args.store.now) (Cbt u)) (held_in (stored g.S.Store c.sync.new.self) (Cbt u))) c.disk.ensures
    (Reaches-then (put_marks {g = g.S.Store} (Cbt c.disk.result) bits c.args.sector c.args.count c.sectors-bits.result.now c.requires.some first is (w.torn told))
    (Reaches-keeps (IsMark bits c.args.sector c.args.count) (keeps_in {g = g.S.Store} (Cbt c.disk.result) second (s.keeps told))))

pub returns-clause-lasts : goal.returns-clause-lasts
returns-clause-lasts g c =
    let w = c.in_ok-write.ensures in
    let s = c.sync.ensures in
    let first : Stays g.S.Store c.args.store.now c.write.new.self = stays_from w.site w.table w.no_less w.counts w.beside in
    let second : Stays g.S.Store c.write.new.self c.sync.new.self = stays_from s.site s.table s.no_less s.counts s.beside in
    let bits : List Bool = c.args.log.now.bits in
    let is : c.sectors-bits.result.now ≡ written bits (c.args.sector / 524288) ((c.args.sector + c.args.count - 1) / 524288) =
    c.sectors-bits.ensures ∙ ap (λ (b : List Bool). written b (c.args.sector / 524288) ((c.args.sector + c.args.count - 1) / 524288)) c.bits-2.ensures in
    IfOk-weaker c.sync.result _ _
    (λ t h. record {
      settled = h;
      marks = λ told p place. subst (λ (u : List ℕ). reads (held_in (stored g.S.Store c.sync.new.self) (Cbt u)) p ≡ packed_sector (p - 1) bits) c.disk.ensures
          ((keeps_in {g = g.S.Store} (Cbt c.disk.result) second (s.keeps told)).reads p
          ∙ put_reads {g = g.S.Store} (Cbt c.disk.result) bits c.args.sector c.args.count c.sectors-bits.result.now c.requires.some first is (w.wrote told) p place);
    })
    s.settled
