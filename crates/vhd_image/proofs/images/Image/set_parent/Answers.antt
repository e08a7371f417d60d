use Rattle.std.proofs.Common.{◌≡◌, IsSome, sym, subst, ◌∙◌}
use Rattle.vg_volumes.specs.Stored.{stored, sectors_in, held_in}
use Rattle.vhd_volumes.specs.Truth.{IsTrueIn}
use Rattle.vhd_image.specs.declared.images.Body.{Body}
use Rattle.vhd_image.specs.declared.images.Body.TheVariants.{Vhd}
use Rattle.vhd_image.specs.Bodies.{TrueIn, parent_name, volume_name}
use Rattle.vhd_fields.specs.declared.headers.Header.{Header}
use Rattle.vhd_image.proofs.ContentLaws.{geometry-ok}
use Rattle.vhd_image.proofs.CallLaws.{put-others}
use Rattle.vhd_image.proofs.RelinkLaws.{relink-changes, relink-true}
use Rattle.vhd_image.proofs.images.Image.set_parent.Goals as goal

pub returns-in_err-put_link-in-Vhd-clause-changes : goal.returns-in_err-put_link-in-Vhd-clause-changes
returns-in_err-put_link-in-Vhd-clause-changes g c = λ told.
    let body : c.args.self.now ≡ Vhd c.in-Vhd.head c.in-Vhd.map = sym c.self.view_is ∙ c.in-Vhd.is in
    let geometry = (g.S.Store.site c.args.store.now).geometry in
    let head = c.in-Vhd.head in
    let n = sectors_in (stored g.S.Store c.args.store.now) head.volume in
    let a = held_in (stored g.S.Store c.args.store.now) head.volume in
    let ok = geometry-ok c.geometry-geometry.ensures c.geometry-geometry.result.in_range in
    let true_old : IsTrueIn geometry n a head c.in-Vhd.map = subst (λ (x : Body). TrueIn geometry (sectors_in (stored g.S.Store c.args.store.now) (volume_name x)) (held_in (stored g.S.Store c.args.store.now) (volume_name x)) x) body (c.requires.true_now told) in
    let child : IsSome head.header.parent = subst (λ (x : Body). IsSome (parent_name x)) body c.requires.child in
    rw body (relink-changes geometry n head c.in-Vhd.map c.args.parent.now ok c.requires.proper child c.linked-header.ensures.uid c.linked-header.ensures.stamp a _ (c.put_link.ensures.sectors told) true_old (c.put_link.ensures.may_put told))

pub returns-clause-changes : goal.returns-clause-changes
returns-clause-changes g c = λ told.
    let body : c.args.self.now ≡ Vhd c.in-Vhd.head c.in-Vhd.map = sym c.self.view_is ∙ c.in-Vhd.is in
    let geometry = (g.S.Store.site c.args.store.now).geometry in
    let head = c.in-Vhd.head in
    let n = sectors_in (stored g.S.Store c.args.store.now) head.volume in
    let a = held_in (stored g.S.Store c.args.store.now) head.volume in
    let ok = geometry-ok c.geometry-geometry.ensures c.geometry-geometry.result.in_range in
    let true_old : IsTrueIn geometry n a head c.in-Vhd.map = subst (λ (x : Body). TrueIn geometry (sectors_in (stored g.S.Store c.args.store.now) (volume_name x)) (held_in (stored g.S.Store c.args.store.now) (volume_name x)) x) body (c.requires.true_now told) in
    let child : IsSome head.header.parent = subst (λ (x : Body). IsSome (parent_name x)) body c.requires.child in
    rw body (relink-changes geometry n head c.in-Vhd.map c.args.parent.now ok c.requires.proper child c.linked-header.ensures.uid c.linked-header.ensures.stamp a _ (c.put_link.ensures.sectors told) true_old (c.put_link.ensures.may_put told))

pub returns-clause-true_after : goal.returns-clause-true_after
returns-clause-true_after g c = λ told.
    let body : c.args.self.now ≡ Vhd c.in-Vhd.head c.in-Vhd.map = sym c.self.view_is ∙ c.in-Vhd.is in
    let geometry = (g.S.Store.site c.args.store.now).geometry in
    let head = c.in-Vhd.head in
    let n = sectors_in (stored g.S.Store c.args.store.now) head.volume in
    let a = held_in (stored g.S.Store c.args.store.now) head.volume in
    let ok = geometry-ok c.geometry-geometry.ensures c.geometry-geometry.result.in_range in
    let true_old : IsTrueIn geometry n a head c.in-Vhd.map = subst (λ (x : Body). TrueIn geometry (sectors_in (stored g.S.Store c.args.store.now) (volume_name x)) (held_in (stored g.S.Store c.args.store.now) (volume_name x)) x) body (c.requires.true_now told) in
    let child : IsSome head.header.parent = subst (λ (x : Body). IsSome (parent_name x)) body c.requires.child in
    let is = relink-true geometry n head c.in-Vhd.map c.args.parent.now ok c.requires.proper child c.linked-header.ensures.uid c.linked-header.ensures.stamp a _ (c.put_link.ensures.sectors told) true_old (c.put_link.ensures.may_put told) (c.in_ok-put_link-in-Vhd.ensures.put told) in
    rw body (subst (λ (h : Header). IsTrueIn geometry n (held_in (stored g.S.Store c.put_link.new.store) head.volume) (record head { header = h }) c.in-Vhd.map) (sym c.linked-header.ensures.header) is)

pub returns-in_err-put_link-in-Vhd-clause-others : goal.returns-in_err-put_link-in-Vhd-clause-others
returns-in_err-put_link-in-Vhd-clause-others g c = λ told.
    let body : c.args.self.now ≡ Vhd c.in-Vhd.head c.in-Vhd.map = sym c.self.view_is ∙ c.in-Vhd.is in
    rw body (put-others 1 _ (c.put_link.ensures.may_put told))

pub returns-clause-others : goal.returns-clause-others
returns-clause-others g c = λ told.
    let body : c.args.self.now ≡ Vhd c.in-Vhd.head c.in-Vhd.map = sym c.self.view_is ∙ c.in-Vhd.is in
    rw body (put-others 1 _ (c.put_link.ensures.may_put told))
