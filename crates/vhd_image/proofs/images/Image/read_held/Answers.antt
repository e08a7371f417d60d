use Rattle.std.proofs.Common.{◌≡◌, ◌/◌, length, sym, subst, ◌∙◌}
use Rattle.sm_disk.specs.Held.{reads}
use Rattle.vg_volumes.specs.Stored.{stored, held_in}
use Rattle.vhd_image.specs.declared.images.Body.{Body}
use Rattle.vhd_image.specs.declared.images.Body.TheVariants.{Vhd}
use Rattle.vhd_image.specs.Bodies.{volume_name, own_now}
use Rattle.vhd_image.specs.Runs.{AreHeld}
use Rattle.vhd_image.proofs.images.Image.read_held.Goals as goal

pub own_bytes-requires-clause-held : goal.own_bytes-requires-clause-held
own_bytes-requires-clause-held g c = λ told.
    let body : c.args.self.now ≡ Vhd c.in-Vhd.head c.in-Vhd.map = sym c.self.view_is ∙ c.in-Vhd.is in
    let x = stored g.S.Store c.args.store.now in
    subst (λ (b : Body). AreHeld (own_now x b (reads (held_in x (volume_name b)))) c.args.sector (length c.args.to.now / 512)) body (c.requires.held told)
