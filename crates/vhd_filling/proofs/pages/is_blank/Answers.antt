use Rattle.std.proofs.Common.{replicate, sym, ◌∙◌}
use Rattle.std.proofs.lemmas.Slice.Eq.{bytes_eq-Decides}
use Rattle.sm_disk.specs.Sectors.{zeros}
use Rattle.vhd_filling.proofs.pages.is_blank.Goals as goal

pub returns : goal.returns
unfolding zeros
returns c =
    let d = bytes_eq-Decides c.args.bytes.now (replicate 512 0) in
    (λ t. d.0 (sym c.eq.ensures ∙ t), λ e. c.eq.ensures ∙ d.1 e)
