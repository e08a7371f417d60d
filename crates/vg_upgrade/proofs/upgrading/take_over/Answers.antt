use Rattle.std.proofs.Common.{inl, arith}
use Rattle.sm_disk.proofs.ReachesLaws.{Reaches-wider}
use Rattle.vg_layout.specs.Fields.{plate}
use Rattle.vg_meta.specs.Roomy.{table_alone}
use Rattle.vg_upgrade.proofs.StepLaws.{puts_from, puts_label, puts_laid, puts_parts, puts_whole, puts_writes, taken_after, taken_label, taken_parts}
use Rattle.vg_upgrade.proofs.upgrading.take_over.Goals as goal

pub lay-requires-clause-whole : goal.lay-requires-clause-whole
lay-requires-clause-whole g c =
    let t = table_alone c.args.table.now in
    let put = puts_from t c.of-frame.result c.new_text-header.result c.div_ceil-sectors.result c.place.result c.new_text-header.new.buffer c.split_at.result.0.now c.write.new.to
    c.of-frame.ensures c.place.ensures c.new_text-header.ensures.header c.div_ceil-sectors.ensures c.new_text-header.ensures.bytes c.split_at.ensures.front c.write.ensures (omega arith) c.requires.fits (omega arith) in
    puts_whole t c.of-frame.result.header c.place.result _ c.split_at.result.0.now c.write.new.to put c.requires.some c.requires.room

pub lay-requires-clause-front : goal.lay-requires-clause-front
lay-requires-clause-front g c =
    let t = table_alone c.args.table.now in
    let put = puts_from t c.of-frame.result c.new_text-header.result c.div_ceil-sectors.result c.place.result c.new_text-header.new.buffer c.split_at.result.0.now c.write.new.to
    c.of-frame.ensures c.place.ensures c.new_text-header.ensures.header c.div_ceil-sectors.ensures c.new_text-header.ensures.bytes c.split_at.ensures.front c.write.ensures (omega arith) c.requires.fits (omega arith) in
    omega (arith, put.in_front, put.first)

pub returns-in_err-lay-clause-writes : goal.returns-in_err-lay-clause-writes
returns-in_err-lay-clause-writes g c = λ told.
    let t = table_alone c.args.table.now in
    let put = puts_from t c.of-frame.result c.new_text-header.result c.div_ceil-sectors.result c.place.result c.new_text-header.new.buffer c.split_at.result.0.now c.write.new.to
    c.of-frame.ensures c.place.ensures c.new_text-header.ensures.header c.div_ceil-sectors.ensures c.new_text-header.ensures.bytes c.split_at.ensures.front c.write.ensures (omega arith) c.requires.fits (omega arith) in
    Reaches-wider (λ q v is. inl is) (puts_parts put (c.lay.ensures.reaches told))

pub returns-in_err-lay-clause-going : goal.returns-in_err-lay-clause-going
returns-in_err-lay-clause-going g c = λ told size was at k.
    let t = table_alone c.args.table.now in
    let put = puts_from t c.of-frame.result c.new_text-header.result c.div_ceil-sectors.result c.place.result c.new_text-header.new.buffer c.split_at.result.0.now c.write.new.to
    c.of-frame.ensures c.place.ensures c.new_text-header.ensures.header c.div_ceil-sectors.ensures c.new_text-header.ensures.bytes c.split_at.ensures.front c.write.ensures (omega arith) c.requires.fits (omega arith) in
    taken_parts (puts_parts put (c.lay.ensures.reaches told)) k

pub returns-in_err-put-clause-writes : goal.returns-in_err-put-clause-writes
returns-in_err-put-clause-writes g c = λ told.
    let t = table_alone c.args.table.now in
    let put = puts_from t c.of-frame.result c.new_text-header.result c.div_ceil-sectors.result c.place.result c.new_text-header.new.buffer c.split_at.result.0.now c.write.new.to
    c.of-frame.ensures c.place.ensures c.new_text-header.ensures.header c.div_ceil-sectors.ensures c.new_text-header.ensures.bytes c.split_at.ensures.front c.write.ensures (omega arith) c.requires.fits (omega arith) in
    puts_writes (puts_parts put (c.lay.ensures.reaches told)) (puts_label c.write-2.ensures (omega arith) (c.put.ensures.reaches told))

pub returns-in_err-put-clause-going : goal.returns-in_err-put-clause-going
returns-in_err-put-clause-going g c = λ told size was at k.
    let t = table_alone c.args.table.now in
    let put = puts_from t c.of-frame.result c.new_text-header.result c.div_ceil-sectors.result c.place.result c.new_text-header.new.buffer c.split_at.result.0.now c.write.new.to
    c.of-frame.ensures c.place.ensures c.new_text-header.ensures.header c.div_ceil-sectors.ensures c.new_text-header.ensures.bytes c.split_at.ensures.front c.write.ensures (omega arith) c.requires.fits (omega arith) in
    taken_label (puts_label c.write-2.ensures (omega arith) (c.put.ensures.reaches told))
    (puts_laid _ put (c.in_ok-lay.ensures.settled told) (c.in_ok-lay.ensures.text told) (c.in_ok-lay.ensures.sector told)) put.total
    (taken_parts (puts_parts put (c.lay.ensures.reaches told)) k)

pub returns-clause-writes : goal.returns-clause-writes
returns-clause-writes g c = λ told.
    let t = table_alone c.args.table.now in
    let put = puts_from t c.of-frame.result c.new_text-header.result c.div_ceil-sectors.result c.place.result c.new_text-header.new.buffer c.split_at.result.0.now c.write.new.to
    c.of-frame.ensures c.place.ensures c.new_text-header.ensures.header c.div_ceil-sectors.ensures c.new_text-header.ensures.bytes c.split_at.ensures.front c.write.ensures (omega arith) c.requires.fits (omega arith) in
    puts_writes (puts_parts put (c.lay.ensures.reaches told)) (puts_label c.write-2.ensures (omega arith) (c.put.ensures.reaches told))

pub returns-clause-going : goal.returns-clause-going
returns-clause-going g c = λ told size was at k.
    let t = table_alone c.args.table.now in
    let put = puts_from t c.of-frame.result c.new_text-header.result c.div_ceil-sectors.result c.place.result c.new_text-header.new.buffer c.split_at.result.0.now c.write.new.to
    c.of-frame.ensures c.place.ensures c.new_text-header.ensures.header c.div_ceil-sectors.ensures c.new_text-header.ensures.bytes c.split_at.ensures.front c.write.ensures (omega arith) c.requires.fits (omega arith) in
    taken_label (puts_label c.write-2.ensures (omega arith) (c.put.ensures.reaches told))
    (puts_laid _ put (c.in_ok-lay.ensures.settled told) (c.in_ok-lay.ensures.text told) (c.in_ok-lay.ensures.sector told)) put.total
    (taken_parts (puts_parts put (c.lay.ensures.reaches told)) k)

pub returns-clause-taken : goal.returns-clause-taken
returns-clause-taken g c = λ told.
    let t = table_alone c.args.table.now in
    let put = puts_from t c.of-frame.result c.new_text-header.result c.div_ceil-sectors.result c.place.result c.new_text-header.new.buffer c.split_at.result.0.now c.write.new.to
    c.of-frame.ensures c.place.ensures c.new_text-header.ensures.header c.div_ceil-sectors.ensures c.new_text-header.ensures.bytes c.split_at.ensures.front c.write.ensures (omega arith) c.requires.fits (omega arith) in
    taken_after (plate c.args.label.now) t _ _ c.write-2.new.to (c.in_ok-put.ensures.settled told) c.write-2.ensures (omega arith) put.total
    (puts_laid _ put (c.in_ok-lay.ensures.settled told) (c.in_ok-lay.ensures.text told) (c.in_ok-lay.ensures.sector told))
    (c.in_ok-put.ensures.within told) (c.in_ok-put.ensures.elsewhere told)
