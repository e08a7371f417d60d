use Rattle.vhd_chain.proofs.PlaceLaws.{read_at}
use Rattle.vhd_chain.proofs.links.named.Goals as goal

pub returns : goal.returns
returns c = read_at c.args.rows.now c.args.name.now c.in_ok-at.at c.index-rows-at.result c.in_ok-at.ensures.found c.index-rows-at.is
