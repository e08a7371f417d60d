use Rattle.std.proofs.Common.{◌≡◌, ◌*◌, length, arith}
use Rattle.sm_base.specs.Numbers.{div_up}
use Rattle.sm_base.proofs.NumberLemmas.{div_up-div_ceil}
use Rattle.sm_disk.specs.Held.{reads}
use Rattle.vg_layout.specs.Fields.{places_in, slot_number}
use Rattle.vg_store.proofs.OpeningLaws.{none_text, text_read}
use Rattle.vg_store.proofs.openings.read_text.Goals as goal

pub returns-then-header-eq0-clause-text : goal.returns-then-header-eq0-clause-text
returns-then-header-eq0-clause-text g c = λ told. none_text (places_in c.args.frame.now) (reads (g.D.Disk.held c.args.disk.now)) (slot_number c.args.header.now.slot) c.args.header.now.length c.args.buffer.now c.if-header-eq0.true

pub returns-clause-text : goal.returns-clause-text
returns-clause-text g c = λ told.
    let up = div_up-div_ceil c.args.header.now.length 512 (omega arith) in
    let long : length c.read.new.to ≡ 512 * div_up c.args.header.now.length 512 = omega (arith, up, c.div_ceil-sectors.ensures) in
    text_read (places_in c.args.frame.now) (slot_number c.args.header.now.slot) c.args.header.now.length (g.D.Disk.held c.args.disk.now) c.read.new.to c.split_at_mut-front.result.1.now c.place.result c.place.ensures long (c.in_ok-read.ensures.gave told)
