use Rattle.std.proofs.Common.{◌≡◌, rules}
use Rattle.std.specs.Prelude.{insert}
use Rattle.vg_meta.proofs.PutLaws.{places-insert_same, places-insert_other}
use Rattle.vg_meta.proofs.edits.put_in.Goals as goal

pub returns-clause-places : goal.returns-clause-places
returns-clause-places c =
    let now : c.insert.new.self.items ≡ insert c.args.volumes.now.items c.slot-at.result c.args.volume = search rules in
    rw now (places-insert_same c.args.volumes.now.items c.slot-at.result c.args.volume c.requires.absent)

pub returns-clause-others : goal.returns-clause-others
returns-clause-others c = λ n other.
    let now : c.insert.new.self.items ≡ insert c.args.volumes.now.items c.slot-at.result c.args.volume = search rules in
    rw now (places-insert_other c.args.volumes.now.items c.slot-at.result c.args.volume n other)
