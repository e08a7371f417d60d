-- The disks that a read gives are those of the shape in memory, each as large as its image there.
use Rattle.std.proofs.Common.{◌≡◌, ℕ, List, false, length, refl, sym, ap, ◌∙◌, subst}
use Rattle.common_laws.specs.Lists.{In}
use Rattle.common_laws.proofs.Lists.{Distinct-key, In-map_at}
use Rattle.sm_disk.specs.Held.{Held}
use Rattle.sm_machine.specs.Disks.{Disk}
use Rattle.sm_machine.specs.Shapes.{ImageRow, image_uuid}
use Rattle.sm_machine.specs.WellFormed.{AreDisksOf, IsWellFormed}
use Rattle.sm_standing.specs.Standing.{disks}
use Rattle.vg_meta.specs.Tables.{VolumeTable}
use Rattle.vg_volumes.specs.Sites.{Site}
use Rattle.sm_ready.specs.Known.{Known, machine_row, shape_in}
use Rattle.sm_ready.specs.Orderly.{IsOrderly}
use Rattle.sm_ready.specs.Ready.{IsReady}
use Rattle.sm_ready.specs.Stores.{content_now}
use Rattle.sm_ready.proofs.ShapeLaws.{records_now}
use Rattle.sm_ready.proofs.SizeLaws.{HasVisible, law_size}

pub are_disks : (s : Site) (t : VolumeTable) (area : Held) (m : Known) → IsOrderly s t m → IsReady s t area m → IsWellFormed (shape_in s t m) → AreDisksOf (disks (content_now s t area)) (shape_in s t m)
unfolding shape_in
are_disks s t area m o ready w = record { recorded = records_now s t area m o ready w; sizes = sizes }
  where
    sizes : (d : Disk) (i : ImageRow) → In d (disks (content_now s t area)) → In i (shape_in s t m).images → i.hidden ≡ false → image_uuid i.name ≡ d.uuid → length d.sectors ≡ i.size
    sizes d i h k shown named =
        let v : HasVisible m d.uuid (length d.sectors) = law_size s t area m d o ready h in
        let here : In (machine_row v.row) (shape_in s t m).images = In-map_at machine_row m.rows v.row v.there in
        let same : machine_row v.row ≡ i = Distinct-key (λ (y : ImageRow). image_uuid y.name) (shape_in s t m).images (machine_row v.row) i w.one_image here k (v.named ∙ sym named) in
        v.size ∙ ap (λ (y : ImageRow). y.size) same
