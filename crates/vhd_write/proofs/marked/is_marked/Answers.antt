use Rattle.std.proofs.Common.{◌≡◌, refl, sym, ap, ◌∙◌, subst}
use Rattle.sm_base.specs.declared.sizes.Geometry.{Geometry}
use Rattle.sm_disk.specs.Held.{reads}
use Rattle.vg_volumes.specs.Stored.{stored, held_in}
use Rattle.vhd_volumes.specs.Truth.{layout_now}
use Rattle.vhd_write.specs.Marks.{IsMarkedIn}
use Rattle.vhd_write.specs.Passes.{HasBits}
use Rattle.vhd_write.proofs.BitLaws.{on_true, place-low}
use Rattle.vhd_write.proofs.MarkLaws.{marks-all}
use Rattle.vhd_write.proofs.PartLaws.{place_is, slot-in}
use Rattle.vhd_write.proofs.marked.is_marked.Goals as goal

pub get-requires : goal.get-requires
get-requires g c =
    let l = layout_now (stored g.S.Store c.args.store.now) c.args.head.now in
    let slot = c.in-Some.slot in
    let is = place_is c.place_of-at.result _ (g.S.Store.site c.args.store.now).geometry slot slot 0 c.place_of-at.ensures c.geometry-geometry.ensures refl in
    place-low l slot c.place_of-at.result _ (slot-in l c.args.map.now c.args.block slot (sym c.in-Some.ensures.slot) c.requires.room) is refl

pub returns-clause-full : goal.returns-clause-full
returns-clause-full g c =
    let l = layout_now (stored g.S.Store c.args.store.now) c.args.head.now in
    let slot = c.in-Some.slot in
    let is = place_is c.place_of-at.result _ (g.S.Store.site c.args.store.now).geometry slot slot 0 c.place_of-at.ensures c.geometry-geometry.ensures refl in
    let wide : c.geometry-geometry.result.block ≡ l.block = ap (λ (x : Geometry). x.block) c.geometry-geometry.ensures in
    on_true c.has_marks.result (λ all. (
      slot,
      sym c.in-Some.ensures.slot,
      λ told. subst (λ x. HasBits l (IsMarkedIn l.block c.args.block c.args.marks.now) c.args.block x)
          (c.in_ok-bitmap.ensures.gave told ∙ ap (reads (held_in (stored g.S.Store c.args.store.now) c.args.head.now.volume)) is)
          (marks-all l c.args.block c.args.marks.now c.in_ok-bitmap.bitmap (rw (sym wide) all)),
    )) c.has_marks.ensures
