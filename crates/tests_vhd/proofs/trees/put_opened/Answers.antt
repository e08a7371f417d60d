use Rattle.std.proofs.Common.{sym, subst}
use Rattle.sm_base.specs.declared.names.Name.{Name}
use Rattle.vg_volumes.specs.Stored.{stored, sectors_in}
use Rattle.vhd_image.specs.declared.images.Body.{Body}
use Rattle.vhd_image.specs.Bodies.{StandsIn, ImageStands}
use Rattle.vhd_chain.proofs.PieceLaws.{all-stand-still}
use Rattle.tests_vhd.proofs.TreeLaws.{all-stand-put}
use Rattle.tests_vhd.proofs.trees.put_opened.Goals as goal

pub returns-clause-stand : goal.returns-clause-stand
returns-clause-stand g c =
    let x = stored g.S.Store c.opened.new.store in
    let image = c.in_ok-image.image in
    let put = c.in_ok-put.ensures.put in
    let stands : ImageStands x image = subst (λ (n : Name). StandsIn x.site.geometry (sectors_in x n) image) (sym c.in_ok-image.ensures.name) c.in_ok-image.ensures.stands in
    all-stand-put x c.args.tree.now.rows _ put.0 (all-stand-still c.opened.ensures.reads_only c.args.tree.now.rows c.requires.stand) (subst (λ (b : Body). ImageStands x b) (sym put.1) stands) put.2
