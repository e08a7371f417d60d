use Rattle.vhd_chain.proofs.PlaceLaws.{put_up_to}
use Rattle.vhd_chain.proofs.rows.slot.Goals as goal

pub returns-clause-place : goal.returns-clause-place
returns-clause-place c = put_up_to c.args.rows.now c.args.name.now c.count_up_to.result c.count_up_to.ensures.within c.count_up_to.ensures.up_to
