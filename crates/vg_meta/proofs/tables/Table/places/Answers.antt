use Rattle.std.proofs.Common.{sym}
use Rattle.vg_meta.proofs.EditLaws.{places_none}
use Rattle.vg_meta.proofs.tables.Table.places.Goals as goal

pub returns-in-None : goal.returns-in-None
returns-in-None c = record { places = sym (places_none c.args.self.now.rows c.args.name.now c.in-None.ensures.none) }
