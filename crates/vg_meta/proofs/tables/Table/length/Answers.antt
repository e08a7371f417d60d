use Rattle.std.proofs.Common.{◌≡◌, ◌-◌, ◌^◌, List, length, min, ap, ◌∙◌, arith}
use Rattle.std.specs.List.{flat_map}
use Rattle.vg_meta.specs.Tables.{VolumeTable}
use Rattle.vg_meta.specs.Roomy.{RoomyTable, RoomyRow, table_alone, rows_alone}
use Rattle.vg_meta.specs.Text.{text, volume_text}
use Rattle.vg_meta.proofs.WriteLaws.{length-text}
use Rattle.vg_meta.proofs.tables.Table.length.Goals as goal

pub returns : goal.returns
returns c =
    let t : VolumeTable = record { sequence = c.self.inside.seq; volumes = rows_alone c.self.inside.volumes.items } in
    let all = ap (λ (hs : List RoomyRow). length (flat_map volume_text (rows_alone hs))) c.deref.ensures.value in
    let now : c.saturating_add.result ≡ min (length (text t)) (2 ^ 64 - 1) =
    omega (arith, length-text t, all, c.volumes_length.ensures, c.saturating_add.ensures) in
    record { length = now ∙ ap (λ (k : RoomyTable). min (length (text (table_alone k))) (2 ^ 64 - 1)) c.self.view_is }
