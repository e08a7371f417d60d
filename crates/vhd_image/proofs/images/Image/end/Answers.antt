use Rattle.std.proofs.Common.{◌≡◌, ◌+◌, ◌-◌, ◌*◌, ℕ, sym, ap, subst, ◌∙◌, arith}
use Rattle.sm_base.specs.declared.sizes.Geometry.{Geometry}
use Rattle.vhd_fields.specs.Footers.{footer_bytes}
use Rattle.vhd_map.specs.Slots.{top_of}
use Rattle.vg_volumes.specs.Stored.{stored, held_in}
use Rattle.vhd_volumes.specs.Truth.{HasRoomFor}
use Rattle.vhd_volumes.specs.Writes.{KeepsBut}
use Rattle.vhd_image.specs.declared.images.Body.{Body}
use Rattle.vhd_image.specs.declared.images.Body.TheVariants.{Vhd}
use Rattle.vhd_image.specs.Bodies.{top_slot}
use Rattle.vhd_image.specs.Opened.{ReadsAsImage}
use Rattle.vhd_image.proofs.CallLaws.{put-others}
use Rattle.vhd_image.proofs.ContentLaws.{geometry-ok}
use Rattle.vhd_image.proofs.EndLaws.{end-stays, end-reads}
use Rattle.vhd_image.proofs.FooterReads.{proper-at}
use Rattle.vhd_image.proofs.images.Image.end.Goals as goal

pub returns-in_err-put_footer-in-Vhd-clause-stays : goal.returns-in_err-put_footer-in-Vhd-clause-stays
returns-in_err-put_footer-in-Vhd-clause-stays g c = λ told.
    let body : c.args.self.now ≡ Vhd c.in-Vhd.head c.in-Vhd.map = sym c.self.view_is ∙ c.in-Vhd.is in
    let geometry = (g.S.Store.site c.args.store.now).geometry in
    let e = c.geometry-extent.ensures in
    let same : c.args.extents * c.geometry-extent.result.extent ≡ c.args.extents * geometry.extent = ap (λ (x : Geometry). c.args.extents * x.extent) e in
    let room : HasRoomFor geometry (top_of c.in-Vhd.map) (c.args.extents * geometry.extent) = subst (λ (x : Body). HasRoomFor geometry (top_slot x) (c.args.extents * geometry.extent)) body c.requires.room in
    rw body (λ part true_old. end-stays geometry part c.in-Vhd.head c.in-Vhd.map (c.args.extents * c.geometry-extent.result.extent - 1) (geometry-ok e c.geometry-extent.result.in_range) (omega (arith, room, same)) _ _ true_old
    (footer_bytes c.in-Vhd.head.footer) (c.put_footer.ensures.reads_back (proper-at part _ c.in-Vhd.head.footer true_old.now.head.footer_reads)) (c.put_footer.ensures.may_put told))

pub returns-clause-stays : goal.returns-clause-stays
returns-clause-stays g c = λ told.
    let body : c.args.self.now ≡ Vhd c.in-Vhd.head c.in-Vhd.map = sym c.self.view_is ∙ c.in-Vhd.is in
    let geometry = (g.S.Store.site c.args.store.now).geometry in
    let e = c.geometry-extent.ensures in
    let same : c.args.extents * c.geometry-extent.result.extent ≡ c.args.extents * geometry.extent = ap (λ (x : Geometry). c.args.extents * x.extent) e in
    let room : HasRoomFor geometry (top_of c.in-Vhd.map) (c.args.extents * geometry.extent) = subst (λ (x : Body). HasRoomFor geometry (top_slot x) (c.args.extents * geometry.extent)) body c.requires.room in
    rw body (λ part true_old. end-stays geometry part c.in-Vhd.head c.in-Vhd.map (c.args.extents * c.geometry-extent.result.extent - 1) (geometry-ok e c.geometry-extent.result.in_range) (omega (arith, room, same)) _ _ true_old
    (footer_bytes c.in-Vhd.head.footer) (c.put_footer.ensures.reads_back (proper-at part _ c.in-Vhd.head.footer true_old.now.head.footer_reads)) (c.put_footer.ensures.may_put told))

pub returns-clause-ends : goal.returns-clause-ends
returns-clause-ends g c = λ told.
    let body : c.args.self.now ≡ Vhd c.in-Vhd.head c.in-Vhd.map = sym c.self.view_is ∙ c.in-Vhd.is in
    let geometry = (g.S.Store.site c.args.store.now).geometry in
    let e = c.geometry-extent.ensures in
    let same : c.args.extents * c.geometry-extent.result.extent ≡ c.args.extents * geometry.extent = ap (λ (x : Geometry). c.args.extents * x.extent) e in
    let room : HasRoomFor geometry (top_of c.in-Vhd.map) (c.args.extents * geometry.extent) = subst (λ (x : Body). HasRoomFor geometry (top_slot x) (c.args.extents * geometry.extent)) body c.requires.room in
    let last : c.args.extents * c.geometry-extent.result.extent - 1 + 1 ≡ c.args.extents * geometry.extent = omega (arith, room, same) in
    rw body (λ part true_old. subst (λ (k : ℕ). ReadsAsImage geometry k (held_in (stored g.S.Store c.put_footer.new.store) c.in-Vhd.head.volume) c.in-Vhd.head c.in-Vhd.map) last
    (end-reads geometry part c.in-Vhd.head c.in-Vhd.map (c.args.extents * c.geometry-extent.result.extent - 1) (geometry-ok e c.geometry-extent.result.in_range) (omega (arith, room, same)) _ _ true_old
    (footer_bytes c.in-Vhd.head.footer) (c.put_footer.ensures.reads_back (proper-at part _ c.in-Vhd.head.footer true_old.now.head.footer_reads)) (c.put_footer.ensures.may_put told) (c.in_ok-put_footer-in-Vhd.ensures.put told)))

pub returns-in_err-put_footer-in-Vhd-clause-others : goal.returns-in_err-put_footer-in-Vhd-clause-others
returns-in_err-put_footer-in-Vhd-clause-others g c = λ told.
    let body : c.args.self.now ≡ Vhd c.in-Vhd.head c.in-Vhd.map = sym c.self.view_is ∙ c.in-Vhd.is in
    let a = held_in (stored g.S.Store c.args.store.now) c.in-Vhd.head.volume in
    let b = held_in (stored g.S.Store c.put_footer.new.store) c.in-Vhd.head.volume in
    rw body (subst (λ (x : Geometry). KeepsBut (λ p. p ≡ c.args.extents * x.extent - 1) a b) c.geometry-extent.ensures (put-others _ _ (c.put_footer.ensures.may_put told)))

pub returns-clause-others : goal.returns-clause-others
returns-clause-others g c = λ told.
    let body : c.args.self.now ≡ Vhd c.in-Vhd.head c.in-Vhd.map = sym c.self.view_is ∙ c.in-Vhd.is in
    let a = held_in (stored g.S.Store c.args.store.now) c.in-Vhd.head.volume in
    let b = held_in (stored g.S.Store c.put_footer.new.store) c.in-Vhd.head.volume in
    rw body (subst (λ (x : Geometry). KeepsBut (λ p. p ≡ c.args.extents * x.extent - 1) a b) c.geometry-extent.ensures (put-others _ _ (c.put_footer.ensures.may_put told)))
