use Rattle.std.proofs.Common.{◌≡◌, ◌*◌, ◌/◌, length, sym, ap, ◌∙◌, subst₂, arith}
use Rattle.sm_base.specs.declared.sizes.Geometry.{Geometry}
use Rattle.sm_disk.specs.Held.{Reaches}
use Rattle.vg_volumes.specs.Stored.{stored, sectors_in, held_in}
use Rattle.vhd_write.specs.Marks.{PutsMarked}
use Rattle.vhd_image.specs.Bodies.{sector_count, volume_name}
use Rattle.vhd_image.proofs.MarkedLaws.{raw_put}
use Rattle.vhd_image.proofs.images.Image.write_marked.Goals as goal
use Rattle.vhd_image.proofs.images.Image.write_marked.Goals.{in-Raw+in_ok-put_marked-in-Raw, in-Vhd+in_ok-write_marked-in-Vhd}

pub returns-clause-works : goal.returns-clause-works
returns-clause-works g c =
    elim c.match-self.branch [
      | in-Raw+in_ok-put_marked-in-Raw w ↦ rw (w.store-is, ap volume_name (sym c.self.view_is ∙ w.in-Raw.is)) w.put_marked.ensures.works
      | in-Vhd+in_ok-write_marked-in-Vhd w ↦ rw (w.store-is, ap volume_name (sym c.self.view_is ∙ w.in-Vhd.is)) w.write_marked.ensures.works
    ]

pub returns-clause-places : goal.returns-clause-places
returns-clause-places g c = λ told.
    elim c.match-self.branch [
      | in-Raw+in_ok-put_marked-in-Raw w ↦ rw (w.store-is, sym c.self.view_is ∙ w.in-Raw.is) (
          let at : c.args.block * w.geometry.result.block ≡ c.args.block * (g.S.Store.site c.args.store.now).geometry.block = ap (λ (x : Geometry). c.args.block * x.block) w.geometry.ensures in
          let count : length c.args.bytes.now / 512 ≡ (g.S.Store.site c.args.store.now).geometry.block = omega (arith, c.requires.long) in
          subst₂ (λ n p. Reaches (PutsMarked n p c.args.marks.now c.args.bytes.now) (held_in (stored g.S.Store c.args.store.now) w.in-Raw.volume) (held_in (stored g.S.Store w.put_marked.new.store) w.in-Raw.volume)) count at (w.put_marked.ensures.reaches told))
      | in-Vhd+in_ok-write_marked-in-Vhd w ↦ rw (w.store-is, sym c.self.view_is ∙ w.in-Vhd.is) (w.write_marked.ensures.places told)
    ]

pub returns-clause-written : goal.returns-clause-written
returns-clause-written g c =
    elim c.match-self.branch [
      | in-Raw+in_ok-put_marked-in-Raw w ↦ rw (w.result-is, w.store-is, sym c.self.view_is ∙ w.in-Raw.is) (λ told.
          let at : c.args.block * w.geometry.result.block ≡ c.args.block * (g.S.Store.site c.args.store.now).geometry.block = ap (λ (x : Geometry). c.args.block * x.block) w.geometry.ensures in
          let count : length c.args.bytes.now / 512 ≡ (g.S.Store.site c.args.store.now).geometry.block = omega (arith, c.requires.long) in
          let size = ap sector_count (sym c.self.view_is ∙ w.in-Raw.is) in
          raw_put (g.S.Store.site c.args.store.now).geometry (sectors_in (stored g.S.Store c.args.store.now) w.in-Raw.volume) w.in-Raw.volume w.in-Raw.sectors c.args.block (c.args.block * w.geometry.result.block) (length c.args.bytes.now / 512) c.args.marks.now c.args.bytes.now
          at count (omega (arith, size, c.requires.within)) (w.put_marked.ensures.reaches told) (w.in_ok-put_marked-in-Raw.ensures.done told))
      | in-Vhd+in_ok-write_marked-in-Vhd w ↦ rw (w.result-is, w.store-is, sym c.self.view_is ∙ w.in-Vhd.is) (λ told. w.in_ok-write_marked-in-Vhd.ensures.written told)
    ]
