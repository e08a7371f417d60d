use Rattle.std.proofs.Common.{◌≡◌, ◌≤◌, sym, subst, ◌∙◌}
use Rattle.vhd_fields.specs.Footers.{footer_bytes}
use Rattle.vg_volumes.specs.Stored.{stored, sectors_in, held_in}
use Rattle.vhd_volumes.specs.Truth.{IsStanding, IsTrueIn, disk_sectors}
use Rattle.vhd_image.specs.declared.images.Body.{Body}
use Rattle.vhd_image.specs.declared.images.Body.TheVariants.{Vhd}
use Rattle.vhd_image.specs.Bodies.{StandsIn, TrueIn, sector_count, volume_name}
use Rattle.vhd_image.specs.Changes.{with_size}
use Rattle.vhd_image.proofs.CallLaws.{ends-others}
use Rattle.vhd_image.proofs.ContentLaws.{geometry-ok}
use Rattle.vhd_image.proofs.ChangeLaws.{resize-changes, resize-stands, resize-true, resized-proper}
use Rattle.vhd_image.proofs.images.Image.set_size.Goals as goal

pub returns-in_err-put_footers-in-Vhd-clause-changes : goal.returns-in_err-put_footers-in-Vhd-clause-changes
returns-in_err-put_footers-in-Vhd-clause-changes g c = λ told.
    let body : c.args.self.now ≡ Vhd c.in-Vhd.head c.in-Vhd.map = sym c.self.view_is ∙ c.in-Vhd.is in
    let geometry = (g.S.Store.site c.args.store.now).geometry in
    let head = c.in-Vhd.head in
    let n = sectors_in (stored g.S.Store c.args.store.now) head.volume in
    let a = held_in (stored g.S.Store c.args.store.now) head.volume in
    let ok = geometry-ok c.geometry-geometry.ensures c.geometry-geometry.result.in_range in
    let true_old : IsTrueIn geometry n a head c.in-Vhd.map = subst (λ (x : Body). TrueIn geometry (sectors_in (stored g.S.Store c.args.store.now) (volume_name x)) (held_in (stored g.S.Store c.args.store.now) (volume_name x)) x) body (c.requires.true_now told) in
    let grows : disk_sectors head.footer ≤ c.args.sectors = subst (λ (x : Body). sector_count x ≤ c.args.sectors) body c.requires.grows in
    let proper = resized-proper geometry n head c.in-Vhd.map c.args.sectors a ok c.requires.size true_old in
    rw body (resize-changes geometry n head c.in-Vhd.map c.args.sectors ok c.requires.size grows a _ true_old (footer_bytes (with_size head c.args.sectors).footer) (c.put_footers.ensures.reads_back proper) (c.put_footers.ensures.ends told))

pub returns-clause-changes : goal.returns-clause-changes
returns-clause-changes g c = λ told.
    let body : c.args.self.now ≡ Vhd c.in-Vhd.head c.in-Vhd.map = sym c.self.view_is ∙ c.in-Vhd.is in
    let geometry = (g.S.Store.site c.args.store.now).geometry in
    let head = c.in-Vhd.head in
    let n = sectors_in (stored g.S.Store c.args.store.now) head.volume in
    let a = held_in (stored g.S.Store c.args.store.now) head.volume in
    let ok = geometry-ok c.geometry-geometry.ensures c.geometry-geometry.result.in_range in
    let true_old : IsTrueIn geometry n a head c.in-Vhd.map = subst (λ (x : Body). TrueIn geometry (sectors_in (stored g.S.Store c.args.store.now) (volume_name x)) (held_in (stored g.S.Store c.args.store.now) (volume_name x)) x) body (c.requires.true_now told) in
    let grows : disk_sectors head.footer ≤ c.args.sectors = subst (λ (x : Body). sector_count x ≤ c.args.sectors) body c.requires.grows in
    let proper = resized-proper geometry n head c.in-Vhd.map c.args.sectors a ok c.requires.size true_old in
    rw body (resize-changes geometry n head c.in-Vhd.map c.args.sectors ok c.requires.size grows a _ true_old (footer_bytes (with_size head c.args.sectors).footer) (c.put_footers.ensures.reads_back proper) (c.put_footers.ensures.ends told))

pub returns-clause-true_after : goal.returns-clause-true_after
returns-clause-true_after g c = λ told.
    let body : c.args.self.now ≡ Vhd c.in-Vhd.head c.in-Vhd.map = sym c.self.view_is ∙ c.in-Vhd.is in
    let geometry = (g.S.Store.site c.args.store.now).geometry in
    let head = c.in-Vhd.head in
    let n = sectors_in (stored g.S.Store c.args.store.now) head.volume in
    let a = held_in (stored g.S.Store c.args.store.now) head.volume in
    let ok = geometry-ok c.geometry-geometry.ensures c.geometry-geometry.result.in_range in
    let true_old : IsTrueIn geometry n a head c.in-Vhd.map = subst (λ (x : Body). TrueIn geometry (sectors_in (stored g.S.Store c.args.store.now) (volume_name x)) (held_in (stored g.S.Store c.args.store.now) (volume_name x)) x) body (c.requires.true_now told) in
    let grows : disk_sectors head.footer ≤ c.args.sectors = subst (λ (x : Body). sector_count x ≤ c.args.sectors) body c.requires.grows in
    let proper = resized-proper geometry n head c.in-Vhd.map c.args.sectors a ok c.requires.size true_old in
    rw body (resize-true geometry n head c.in-Vhd.map c.args.sectors ok c.requires.size grows a _ true_old (footer_bytes (with_size head c.args.sectors).footer) (c.put_footers.ensures.reads_back proper) (c.put_footers.ensures.ends told) (c.in_ok-put_footers-in-Vhd.ensures.last told) (c.put_footers.ensures.others told))

pub returns-in_err-put_footers-in-Vhd-clause-others : goal.returns-in_err-put_footers-in-Vhd-clause-others
returns-in_err-put_footers-in-Vhd-clause-others g c = λ told.
    let body : c.args.self.now ≡ Vhd c.in-Vhd.head c.in-Vhd.map = sym c.self.view_is ∙ c.in-Vhd.is in
    let n = sectors_in (stored g.S.Store c.args.store.now) c.in-Vhd.head.volume in
    rw body (ends-others n _ (c.put_footers.ensures.ends told) (c.put_footers.ensures.others told))

pub returns-clause-others : goal.returns-clause-others
returns-clause-others g c = λ told.
    let body : c.args.self.now ≡ Vhd c.in-Vhd.head c.in-Vhd.map = sym c.self.view_is ∙ c.in-Vhd.is in
    let n = sectors_in (stored g.S.Store c.args.store.now) c.in-Vhd.head.volume in
    rw body (ends-others n _ (c.put_footers.ensures.ends told) (c.put_footers.ensures.others told))

pub returns-clause-stands_after : goal.returns-clause-stands_after
returns-clause-stands_after g c =
    let body : c.args.self.now ≡ Vhd c.in-Vhd.head c.in-Vhd.map = sym c.self.view_is ∙ c.in-Vhd.is in
    let geometry = (g.S.Store.site c.args.store.now).geometry in
    let head = c.in-Vhd.head in
    let n = sectors_in (stored g.S.Store c.args.store.now) head.volume in
    let ok = geometry-ok c.geometry-geometry.ensures c.geometry-geometry.result.in_range in
    let grows : disk_sectors head.footer ≤ c.args.sectors = subst (λ (x : Body). sector_count x ≤ c.args.sectors) body c.requires.grows in
    let stands : IsStanding geometry n head c.in-Vhd.map = subst (λ (x : Body). StandsIn geometry (sectors_in (stored g.S.Store c.args.store.now) (volume_name x)) x) body c.requires.stands in
    rw body (resize-stands geometry n head c.in-Vhd.map c.args.sectors ok c.requires.size grows stands)
