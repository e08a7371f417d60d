use Rattle.std.proofs.Common.{◌≡◌, ◌*◌, ◌/◌, None, subst, arith}
use Rattle.std.proofs.lemmas.Result.{on_ok_weaker}
use Rattle.sm_base.specs.declared.names.Name.{Name}
use Rattle.vg_volumes.specs.Stored.{WorksOn}
use Rattle.vg_volumes.proofs.StoredLaws.{works_then}
use Rattle.vhd_image.specs.Made.{new_head}
use Rattle.vhd_filling.proofs.EndLaws.{end_holding, end_held}
use Rattle.vhd_filling.proofs.fillings.Filling.finish.Goals as goal

pub returns-clause-works : goal.returns-clause-works
returns-clause-works g c =
    works_then c.leave.ensures.works (subst (λ (n : Name). WorksOn g.S.Store n c.leave.new.store c.seal.new.store) c.in_ok-leave.ensures.goes_on.volume c.seal.ensures.works)

pub returns-clause-holding : goal.returns-clause-holding
returns-clause-holding g c =
    let n = c.leave.new.self in
    let left = c.in_ok-leave.ensures in
    let head = new_head (g.S.Store.site c.leave.new.store).geometry n.volume c.args.now c.args.sectors c.args.uid None in
    on_ok_weaker c.seal.result (λ is told. end_holding g.S.Store c.args.self n c.args.store.now c.leave.new.store c.seal.new.store c.requires.fills left.fills left.left left.goes_on c.leave.ensures.works.stays c.requires.room told head (is told) (c.seal.ensures.slots told)) c.seal.ensures.image

pub returns-clause-held : goal.returns-clause-held
returns-clause-held g c =
    let n = c.leave.new.self in
    let left = c.in_ok-leave.ensures in
    let head = new_head (g.S.Store.site c.leave.new.store).geometry n.volume c.args.now c.args.sectors c.args.uid None in
    let size : 512 * c.args.sectors / 512 ≡ c.args.sectors = omega arith in
    on_ok_weaker c.seal.result (λ is told. end_held g.S.Store c.args.self n c.args.store.now c.leave.new.store c.seal.new.store c.requires.fills left.fills left.left left.goes_on c.leave.ensures.works.stays c.requires.room told head (is told) (c.seal.ensures.slots told) c.args.sectors size (left.held told)) c.seal.ensures.image
