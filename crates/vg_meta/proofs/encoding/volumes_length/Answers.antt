use Rattle.std.proofs.Common.{◌-◌, ◌^◌, ℕ, List, length, min, sym, ap, ◌∙◌}
use Rattle.vg_meta.specs.Roomy.{RoomyRow}
use Rattle.vg_meta.specs.Text.{volume_text}
use Rattle.vg_meta.specs.declared.grammars.Grammar.TheVariants.{Segmented}
use Rattle.vg_meta.proofs.WriteLaws.{whole_text, flat_map-rows}
use Rattle.vg_meta.proofs.encoding.volumes_length.Goals as goal

pub returns : goal.returns
returns c =
    c.loop-volume.invariant
    ∙ ap (λ (t : List ℕ). min (length t) (2 ^ 64 - 1))
    (whole_text (λ (v : RoomyRow). volume_text v.row) c.args.volumes.now c.loop-volume.volume-index c.loop-volume-test.false ∙ sym (flat_map-rows Segmented c.args.volumes.now))
