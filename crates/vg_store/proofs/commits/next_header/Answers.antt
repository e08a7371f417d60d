use Rattle.std.proofs.Common.{◌≤◌, length, drop}
use Rattle.vg_meta.specs.Roomy.{table_alone}
use Rattle.vg_meta.specs.Text.{text}
use Rattle.vg_meta.specs.Changes.{applied}
use Rattle.vg_layout.specs.Fields.{pointer}
use Rattle.vg_store.proofs.CommittedLaws.{head_from, long_as_before}
use Rattle.vg_store.proofs.commits.next_header.Goals as goal

pub returns-clause-head : goal.returns-clause-head
returns-clause-head c =
    head_from (applied (table_alone c.args.table.now) c.args.change.now) (pointer (record { slot = c.args.slot; length = c.encode_changed-length.result; sum = c.sum_of-sum.result }))
    (drop (length (text (applied (table_alone c.args.table.now) c.args.change.now))) c.args.buffer.now) c.encode_changed-length.new.to
    c.encode_changed-length.ensures.text c.encode_changed-length.ensures.length c.sum_of-sum.ensures c.sum_of-sum.type_inv

pub returns-clause-long : goal.returns-clause-long
returns-clause-long c =
    let fits : length (text (applied (table_alone c.args.table.now) c.args.change.now)) ≤ length c.args.buffer.now = c.requires.fits in
    long_as_before (text (applied (table_alone c.args.table.now) c.args.change.now)) c.args.buffer.now c.encode_changed-length.new.to fits c.encode_changed-length.ensures.text
