use Rattle.std.proofs.Common.{sym, ap, ◌∙◌, arith}
use Rattle.sm_disk.proofs.ReachesLaws.{Reaches-torn}
use Rattle.vhd_image.specs.Bodies.{sector_count, volume_name}
use Rattle.vhd_image.proofs.images.Image.write.Goals as goal
use Rattle.vhd_image.proofs.images.Image.write.Goals.{in-Raw+in_ok-put_payload-in-Raw, in-Vhd+in_ok-write-in-Vhd}

pub put_payload-requires-clause-low : goal.put_payload-requires-clause-low
put_payload-requires-clause-low g c =
    let size = ap sector_count (sym c.self.view_is ∙ c.in-Raw.is) in
    omega (arith, c.requires.whole.within, size)

pub returns-clause-works : goal.returns-clause-works
returns-clause-works g c =
    elim c.match-self.branch [
      | in-Raw+in_ok-put_payload-in-Raw w ↦ rw (w.store-is, ap volume_name (sym c.self.view_is ∙ w.in-Raw.is)) w.put_payload.ensures.works
      | in-Vhd+in_ok-write-in-Vhd w ↦ rw (w.store-is, ap volume_name (sym c.self.view_is ∙ w.in-Vhd.is)) w.write.ensures.works
    ]

pub returns-in_err-put_payload-in-Raw-clause-places : goal.returns-in_err-put_payload-in-Raw-clause-places
returns-in_err-put_payload-in-Raw-clause-places g c = λ told. rw (sym c.self.view_is ∙ c.in-Raw.is) (Reaches-torn (c.put_payload.ensures.torn told))

pub returns-in_err-write-in-Vhd-clause-places : goal.returns-in_err-write-in-Vhd-clause-places
returns-in_err-write-in-Vhd-clause-places g c = λ told. rw (sym c.self.view_is ∙ c.in-Vhd.is) (c.write.ensures.places told)

pub returns-clause-places : goal.returns-clause-places
returns-clause-places g c = λ told.
    elim c.match-self.branch [
      | in-Raw+in_ok-put_payload-in-Raw w ↦ rw (w.store-is, sym c.self.view_is ∙ w.in-Raw.is) (Reaches-torn (w.put_payload.ensures.torn told))
      | in-Vhd+in_ok-write-in-Vhd w ↦ rw (w.store-is, sym c.self.view_is ∙ w.in-Vhd.is) (w.write.ensures.places told)
    ]
