use Rattle.std.proofs.Common.{◌∙◌}
use Rattle.sm_disk.specs.Held.{reads}
use Rattle.vg_volumes.specs.Stored.{stored, held_in}
use Rattle.vg_volumes.proofs.StoredLaws.{reads_then}
use Rattle.vhd_image.proofs.CallLaws.{only-reads}
use Rattle.vhd_image.proofs.OpeningLaws.{header-read}
use Rattle.vhd_image.proofs.opening.header_in.Goals as goal

pub returns-clause-header : goal.returns-clause-header
returns-clause-header g c = λ told.
    let h = held_in (stored g.S.Store c.args.store.now) c.args.volume.now in
    c.ok.ensures.value ∙ header-read (reads h) c.in_ok-front.front c.in_ok-back.back c.joined.result c.read-header.result (c.in_ok-front.ensures.gave told) (c.in_ok-back.ensures.gave told ∙ only-reads c.args.volume.now c.in_ok-front.ensures.reads_only told 2) c.joined.ensures c.read-header.ensures.exact

pub returns-in_err-back-clause-reads_only : goal.returns-in_err-back-clause-reads_only
returns-in_err-back-clause-reads_only g c = reads_then c.sector_of.ensures.reads_only c.sector_of-2.ensures.reads_only

pub returns-clause-reads_only : goal.returns-clause-reads_only
returns-clause-reads_only g c = reads_then c.sector_of.ensures.reads_only c.sector_of-2.ensures.reads_only
