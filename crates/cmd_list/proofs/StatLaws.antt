-- The rows of the images, and the room beside them, are those of the machine.
use Rattle.std.proofs.Common.{◌≡◌, ℕ, ◌*◌, List, length, map, sym, ap, ap₂, ◌∙◌}
use Rattle.std.proofs.Math.Logic.{∥∥₁_elim}
use Rattle.std.proofs.Props.{props}
use Rattle.sm_base.specs.declared.operations.Op.{Op as Told}
use Rattle.sm_machine.specs.Operations.{told as told_operation}
use Rattle.common_laws.specs.Lists.{In}
use Rattle.vg_meta.specs.Tables.{VolumeTable, free as free_of}
use Rattle.vg_volumes.specs.Sites.{Site}
use Rattle.vhd_map.specs.Slots.{used_count}
use Rattle.vhd_image.specs.Bodies.{sector_count, parent_name}
use Rattle.vhd_chain.specs.Reading.{slots_of}
use Rattle.vhd_chain.specs.Trees.{row_name}
use Rattle.vhd_chain.specs.declared.rows.TreeRow.{TreeRow}
use Rattle.sm_machine.specs.Disks.{Disk}
use Rattle.sm_machine.specs.Stats.{Stats}
use Rattle.sm_machine.specs.Steps.{reply_to, stat_row, stats}
use Rattle.sm_machine.specs.WellFormed.{IsWellFormed}
use Rattle.sm_machine.specs.declared.commands.Command.TheVariants.{Stat as StatImages}
use Rattle.sm_machine.specs.declared.replies.Reply.TheVariants as reply
use Rattle.sm_machine.specs.declared.replies.StatRow.{StatRow}
use Rattle.sm_refs.specs.Attached.{count_of}
use Rattle.sm_ready.specs.Known.{Known, machine_row, shape_in}
use Rattle.sm_ready.specs.Orderly.{IsOrderly}
use Rattle.sm_ready.specs.Ready.{IsTidy}
use Rattle.sm_ready.proofs.MapLaws.{count_alike}
use Rattle.sm_ready.proofs.ShownLaws.{few_sectors}
use Rattle.sm_ready.proofs.SumLaws.{free_counted}
use Rattle.cmd_list.specs.Images.{image_row, image_rows}
use Rattle.cmd_list.proofs.ListLaws.{told, turned_twice}

-- an image's row, by the number of its blocks, that of the disks that use it, and its size
abbrev row_with : TreeRow → ℕ → ℕ → ℕ → StatRow
row_with r blocks refs size = record { name = row_name r; hidden = r.hidden; parent = parent_name r.image; size = size; blocks = blocks; extents = r.extents; refs = refs }

-- it is the machine's
row_now : (s : Site) (t : VolumeTable) (m : Known) (r : TreeRow) → IsOrderly s t m → IsWellFormed (shape_in s t m) → In r m.rows → image_row m.attached r ≡ stat_row (shape_in s t m) (machine_row r)
row_now s t m r o w i =
    ap (row_with r (used_count (slots_of r.image)) (count_of m.attached (row_name r))) (told (sector_count r.image) (few_sectors s t m r o w i))
    ∙ ap₂ (λ a b. row_with r a b (sector_count r.image * 512)) (sym (count_alike (slots_of r.image))) (o.counts (row_name r))

rows_now : (s : Site) (t : VolumeTable) (m : Known) → IsOrderly s t m → IsWellFormed (shape_in s t m) → image_rows m.attached m.rows ≡ map (stat_row (shape_in s t m)) (map machine_row m.rows)
rows_now s t m o w = sym (turned_twice (stat_row (shape_in s t m)) machine_row (image_row m.attached) m.rows (λ r i. sym (row_now s t m r o w i)))

-- what is told, by the sequence number, the free extents, the operation and the rows
abbrev stats_with : ℕ → ℕ → Told → List StatRow → Stats
stats_with seq free o rows = record { seq = seq; free = free; op = o; rows = rows }

stats_now : (s : Site) (t : VolumeTable) (m : Known) → IsOrderly s t m → IsTidy t m → IsWellFormed (shape_in s t m)
    → stats_with t.sequence (length (free_of s.count t)) (told_operation m.op) (image_rows m.attached m.rows) ≡ stats (shape_in s t m)
unfolding shape_in
stats_now s t m o tidy w = ap₂ (λ n rows. stats_with t.sequence n (told_operation m.op) rows) (sym (free_counted s t m tidy.none_new o)) (rows_now s t m o w)

-- and so the machine answers, whatever its disks are
pub law_stat : (s : Site) (ds : List Disk) (t : VolumeTable) (m : Known) (extents seq free : ℕ) (said : Told) (rows : List StatRow) → s.count ≡ extents → seq ≡ t.sequence → free ≡ length (free_of extents t)
    → said ≡ told_operation m.op → rows ≡ image_rows m.attached m.rows → IsOrderly s t m → IsTidy t m → reply.Stat (stats_with seq free said rows) ≡ reply_to ds (shape_in s t m) StatImages
unfolding reply_to
law_stat s ds t m extents seq free said rows count number left tells are o tidy =
    ap reply.Stat (ap₂ (λ k x. stats_with k free x rows) number tells
    ∙ ap₂ (λ n xs. stats_with t.sequence n (told_operation m.op) xs) (left ∙ ap (λ n. length (free_of n t)) (sym count)) are
    ∙ ∥∥₁_elim o.well_formed (hlevel props) (λ w. stats_now s t m o tidy w))
