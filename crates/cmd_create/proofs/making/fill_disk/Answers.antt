use Rattle.vg_volumes.proofs.StoredLaws.{stays_then, works_writes}
use Rattle.sm_base.specs.declared.names.Name.TheVariants.{Raw}
use Rattle.sm_ready.proofs.ChainLaws.{writes_both}
use Rattle.sm_ready.proofs.MakingLaws.{middle_first, middle_then, places_stay}
use Rattle.cmd_create.proofs.RawLaws.{raw_image}
use Rattle.cmd_create.proofs.making.fill_disk.Goals as goal

pub returns-in_err-fill-clause-middle : goal.returns-in_err-fill-clause-middle
returns-in_err-fill-clause-middle g c =
    let r = c.requires in
    middle_first c.args.memory.now (Raw c.args.entry.uuid) _ c.args.entry r.new.row (raw_image _) r.proper r.orderly r.new.there r.new.fresh (works_writes c.fill.ensures.writes)

pub put-requires-clause-size : goal.put-requires-clause-size
put-requires-clause-size g c = places_stay c.args.memory.now c.requires.orderly c.fill.ensures.writes.stays

pub returns-in_err-put-clause-stays : goal.returns-in_err-put-clause-stays
returns-in_err-put-clause-stays g c = stays_then c.fill.ensures.writes.stays c.put.ensures.writes.stays

pub returns-in_err-put-clause-middle : goal.returns-in_err-put-clause-middle
returns-in_err-put-clause-middle g c =
    let r = c.requires in
    middle_then c.args.memory.now (Raw c.args.entry.uuid) _ c.args.entry r.new.row (raw_image _) r.proper r.orderly r.new.there r.new.fresh (works_writes c.fill.ensures.writes) c.put.ensures.writes

pub returns-clause-stays : goal.returns-clause-stays
returns-clause-stays g c = stays_then c.fill.ensures.writes.stays c.put.ensures.writes.stays

pub returns-clause-middle : goal.returns-clause-middle
returns-clause-middle g c =
    let r = c.requires in
    middle_then c.args.memory.now (Raw c.args.entry.uuid) _ c.args.entry r.new.row (raw_image _) r.proper r.orderly r.new.there r.new.fresh (works_writes c.fill.ensures.writes) c.put.ensures.writes

pub returns-clause-filled : goal.returns-clause-filled
returns-clause-filled g c = λ told.
    let both = writes_both c.requires.orderly.table (λ e. (let x = e in cc)) c.in_ok-fill.ensures.filled c.in_ok-put.ensures.wrote told in
    record { sectors = both.0; records = both.1 }
