use Rattle.std.proofs.Common.{inl, inr}
use Rattle.std.proofs.lemmas.Result.{IfOk-weaker}
use Rattle.vg_volumes.specs.Stored.{Stays}
use Rattle.vg_volumes.proofs.StoredLaws.{stays_from, works_then, works_writes}
use Rattle.sm_cbt.proofs.RenewLaws.{all_works, bits_synced, bits_torn, head_synced, head_works, renewed}
use Rattle.sm_cbt.proofs.splitting.renew.Goals as goal

pub returns-in_err-sync-clause-works : goal.returns-in_err-sync-clause-works
returns-in_err-sync-clause-works g c =
    let s = c.sync.ensures in
    let stays : Stays g.S.Store c.write_head.new.store c.sync.new.self = stays_from s.site s.table s.no_less s.counts s.beside in
    head_works c.args.log.now c.write_head.ensures.writes stays s.keeps

pub returns-in_err-sync-clause-order : goal.returns-in_err-sync-clause-order
returns-in_err-sync-clause-order g c = λ told.
    let s = c.sync.ensures in
    let stays : Stays g.S.Store c.write_head.new.store c.sync.new.self = stays_from s.site s.table s.no_less s.counts s.beside in
    inl (head_synced c.args.log.now c.write_head.ensures.writes stays s.keeps told)

pub returns-in_err-write_bits-clause-works : goal.returns-in_err-write_bits-clause-works
returns-in_err-write_bits-clause-works g c =
    let s = c.sync.ensures in
    let stays : Stays g.S.Store c.write_head.new.store c.sync.new.self = stays_from s.site s.table s.no_less s.counts s.beside in
    works_then (head_works c.args.log.now c.write_head.ensures.writes stays s.keeps) (works_writes c.write_bits.ensures.writes)

pub returns-in_err-write_bits-clause-order : goal.returns-in_err-write_bits-clause-order
returns-in_err-write_bits-clause-order g c = λ told.
    let s = c.sync.ensures in
    let stays : Stays g.S.Store c.write_head.new.store c.sync.new.self = stays_from s.site s.table s.no_less s.counts s.beside in
    inr (bits_torn c.args.log.now c.write_head.ensures.writes stays s.keeps c.in_ok-write_head.ensures.wrote c.in_ok-sync.ensures.settled c.write_bits.ensures.writes told)

pub returns-clause-works : goal.returns-clause-works
returns-clause-works g c =
    let s = c.sync.ensures in
    let e = c.sync-2.ensures in
    let stays : Stays g.S.Store c.write_head.new.store c.sync.new.self = stays_from s.site s.table s.no_less s.counts s.beside in
    let still : Stays g.S.Store c.write_bits.new.store c.sync-2.new.self = stays_from e.site e.table e.no_less e.counts e.beside in
    all_works c.args.log.now c.write_head.ensures.writes stays s.keeps c.in_ok-write_head.ensures.wrote c.in_ok-sync.ensures.settled c.write_bits.ensures.writes still e.keeps

pub returns-clause-order : goal.returns-clause-order
returns-clause-order g c = λ told.
    let s = c.sync.ensures in
    let e = c.sync-2.ensures in
    let stays : Stays g.S.Store c.write_head.new.store c.sync.new.self = stays_from s.site s.table s.no_less s.counts s.beside in
    let still : Stays g.S.Store c.write_bits.new.store c.sync-2.new.self = stays_from e.site e.table e.no_less e.counts e.beside in
    inr (bits_synced c.args.log.now c.write_head.ensures.writes stays s.keeps c.in_ok-write_head.ensures.wrote c.in_ok-sync.ensures.settled c.write_bits.ensures.writes still e.keeps told)

pub returns-clause-lasts : goal.returns-clause-lasts
returns-clause-lasts g c =
    let s = c.sync.ensures in
    let e = c.sync-2.ensures in
    let stays : Stays g.S.Store c.write_head.new.store c.sync.new.self = stays_from s.site s.table s.no_less s.counts s.beside in
    let still : Stays g.S.Store c.write_bits.new.store c.sync-2.new.self = stays_from e.site e.table e.no_less e.counts e.beside in
    IfOk-weaker c.sync-2.result _ _
    (λ v last. renewed c.args.log.now c.write_head.ensures.writes stays s.keeps c.in_ok-write_head.ensures.wrote c.in_ok-sync.ensures.settled c.write_bits.ensures.writes still e.keeps
    c.write_head.ensures.proper c.in_ok-write_bits.ensures.wrote last) e.settled
