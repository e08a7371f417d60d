use Rattle.std.proofs.Common.{inr}
use Rattle.sm_ready.specs.Known.{known}
use Rattle.cmd_list.proofs.ListLaws.{law_list}
use Rattle.cmd_list.proofs.listing.list.Goals as goal

pub returns-in-Ok-clause-listed : goal.returns-in-Ok-clause-listed
returns-in-Ok-clause-listed c = λ s t area o tidy ready. inr (law_list s t area (known c.args.memory.now) c.in-Ok.rows (c.in-Ok.ensures o.places) o ready)
