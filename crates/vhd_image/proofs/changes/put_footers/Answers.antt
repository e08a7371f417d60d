use Rattle.std.proofs.Common.{◌-◌, ℕ, subst}
use Rattle.vhd_fields.specs.Footers.{footer_bytes}
use Rattle.vg_volumes.specs.Stored.{stored, sectors_in, held_in}
use Rattle.vg_volumes.proofs.StoredLaws.{works_then}
use Rattle.vhd_image.specs.Calls.{MayPut}
use Rattle.vhd_image.proofs.FooterSteps.{ends-one, ends-two}
use Rattle.vhd_image.proofs.changes.put_footers.Goals as goal

pub returns-in_err-put_footer-clause-ends : goal.returns-in_err-put_footer-clause-ends
returns-in_err-put_footer-clause-ends g c = λ told.
    let n = sectors_in (stored g.S.Store c.args.store.now) c.args.volume.now in
    let a = held_in (stored g.S.Store c.args.store.now) c.args.volume.now in
    let b = held_in (stored g.S.Store c.put_footer.new.store) c.args.volume.now in
    let bytes = footer_bytes c.args.footer.now in
    ends-one n bytes a b (subst (λ (k : ℕ). MayPut (k - 1) bytes a b) c.sectors_in-last.ensures (c.put_footer.ensures.may_put told))

pub returns-in_err-put_footer-2-clause-works : goal.returns-in_err-put_footer-2-clause-works
returns-in_err-put_footer-2-clause-works g c = works_then c.put_footer.ensures.works c.put_footer-2.ensures.works

pub returns-in_err-put_footer-2-clause-ends : goal.returns-in_err-put_footer-2-clause-ends
returns-in_err-put_footer-2-clause-ends g c = λ told.
    let n = sectors_in (stored g.S.Store c.args.store.now) c.args.volume.now in
    let a = held_in (stored g.S.Store c.args.store.now) c.args.volume.now in
    let b = held_in (stored g.S.Store c.put_footer.new.store) c.args.volume.now in
    let bytes = footer_bytes c.args.footer.now in
    ends-two n bytes a b _ (subst (λ (k : ℕ). MayPut (k - 1) bytes a b) c.sectors_in-last.ensures (c.put_footer.ensures.may_put told)) (c.put_footer-2.ensures.may_put told)

pub returns-clause-works : goal.returns-clause-works
returns-clause-works g c = works_then c.put_footer.ensures.works c.put_footer-2.ensures.works

pub returns-clause-ends : goal.returns-clause-ends
returns-clause-ends g c = λ told.
    let n = sectors_in (stored g.S.Store c.args.store.now) c.args.volume.now in
    let a = held_in (stored g.S.Store c.args.store.now) c.args.volume.now in
    let b = held_in (stored g.S.Store c.put_footer.new.store) c.args.volume.now in
    let bytes = footer_bytes c.args.footer.now in
    ends-two n bytes a b _ (subst (λ (k : ℕ). MayPut (k - 1) bytes a b) c.sectors_in-last.ensures (c.put_footer.ensures.may_put told)) (c.put_footer-2.ensures.may_put told)
