use Rattle.vg_volumes.proofs.SpotLaws.{ahead_in, ahead_spot}
use Rattle.vg_memory.proofs.sectors.place_of.Goals as goal

pub bounds-extents-index : goal.bounds-extents-index
bounds-extents-index c = rw c.from-extent.ensures (ahead_in c.args.extent c.args.extents.now c.args.at c.args.done c.requires.within)

pub returns : goal.returns
returns c = record { place = rw (c.from.ensures, c.from-extent.ensures) (ahead_spot c.args.extent c.args.extents.now c.args.at c.args.done c.requires.within) }
