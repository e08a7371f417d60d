use Rattle.std.proofs.Common.{◌∙◌, rules}
use Rattle.sm_disk.specs.Held.{reads}
use Rattle.vg_volumes.specs.Stored.{stored, held_in}
use Rattle.vg_volumes.proofs.StoredLaws.{reads_then}
use Rattle.vhd_image.proofs.CallLaws.{only-reads}
use Rattle.vhd_image.proofs.OpeningLaws.{footer-first, footer-second}
use Rattle.vhd_image.proofs.opening.footer_in.Goals as goal

pub returns-then-is_ok-clause-footer : goal.returns-then-is_ok-clause-footer
returns-then-is_ok-clause-footer g c = λ told.
    let h = held_in (stored g.S.Store c.args.store.now) c.args.volume.now in
    c.ok.ensures.value ∙ footer-first c.args.sectors (reads h) c.in_ok-last.last c.read-own.result (c.in_ok-last.ensures.gave told) c.read-own.ensures.exact (search rules)

pub returns-clause-footer : goal.returns-clause-footer
returns-clause-footer g c = λ told.
    let h = held_in (stored g.S.Store c.args.store.now) c.args.volume.now in
    c.ok-2.ensures.value ∙ footer-second c.args.sectors (reads h) c.in_ok-last.last c.in_ok-front.front c.read-own.result c.read-copy.result (c.in_ok-last.ensures.gave told) (c.in_ok-front.ensures.gave told ∙ only-reads c.args.volume.now c.in_ok-last.ensures.reads_only told 0) c.read-own.ensures.exact c.read-copy.ensures.exact (search rules)

pub returns-in_err-front-clause-reads_only : goal.returns-in_err-front-clause-reads_only
returns-in_err-front-clause-reads_only g c = reads_then c.sector_of.ensures.reads_only c.sector_of-2.ensures.reads_only

pub returns-clause-reads_only : goal.returns-clause-reads_only
returns-clause-reads_only g c = reads_then c.sector_of.ensures.reads_only c.sector_of-2.ensures.reads_only
