use Rattle.vg_store.proofs.FormatLaws.{blank_from}
use Rattle.vg_store.proofs.formats.blank_bytes.Goals as goal

pub returns-clause-blank : goal.returns-clause-blank
returns-clause-blank c = blank_from _ c.args.bytes (c.in-Ok.ensures.items_if_clones_equal (λ y same. same))
