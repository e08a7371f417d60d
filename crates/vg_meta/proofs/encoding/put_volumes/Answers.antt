use Rattle.std.proofs.Common.{length, sym, ap, subst, ◌∙◌, List, ℕ, arith}
use Rattle.vg_meta.specs.Roomy.{RoomyRow}
use Rattle.vg_meta.specs.Text.{volume_by}
use Rattle.vg_meta.specs.Writing.{WritesText}
use Rattle.vg_meta.proofs.WriteLaws.{puts_none, puts_more, room_more, whole_text, flat_map-rows}
use Rattle.vg_meta.proofs.encoding.put_volumes.Goals as goal

pub loop-volume-init : goal.loop-volume-init
loop-volume-init c = puts_none c.args.at c.args.to.now

pub put_volume-end-requires-clause-room : goal.put_volume-end-requires-clause-room
put_volume-end-requires-clause-room c =
    omega (
      arith,
      c.loop-volume.invariant.behind,
      ap length (flat_map-rows c.args.grammar c.args.volumes.now),
      room_more (λ (v : RoomyRow). volume_by c.args.grammar v.row) c.args.volumes.now c.loop-volume.volume-index c.volume-item.result c.loop-volume-test.true c.volume-item.is,
      c.requires.room,
    )

pub loop-volume-preserved : goal.loop-volume-preserved
loop-volume-preserved c =
    puts_more (λ (v : RoomyRow). volume_by c.args.grammar v.row) c.args.volumes.now c.loop-volume.volume-index c.volume-item.result c.args.at _ _ _ _ _
    c.loop-volume-test.true c.volume-item.is (omega (arith, c.requires.room)) c.loop-volume.invariant c.put_volume-end.ensures

pub returns : goal.returns
returns c =
    subst (λ (t : List ℕ). WritesText c.args.at t c.args.to.now c.loop-volume.to c.loop-volume.end)
    (whole_text (λ (v : RoomyRow). volume_by c.args.grammar v.row) c.args.volumes.now c.loop-volume.volume-index c.loop-volume-test.false ∙ sym (flat_map-rows c.args.grammar c.args.volumes.now))
    c.loop-volume.invariant
