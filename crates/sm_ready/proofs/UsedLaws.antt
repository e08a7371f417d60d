-- Other attachments beside the same images.
use Rattle.std.proofs.Common.{◌≡◌, List}
use Rattle.sm_base.specs.declared.names.Name.{Name}
use Rattle.sm_machine.specs.Operations.{Op}
use Rattle.sm_machine.specs.Operations as op
use Rattle.sm_disk.specs.Held.{Held, IsSettled}
use Rattle.vg_meta.specs.Tables.{VolumeTable}
use Rattle.vg_volumes.specs.Sites.{Site}
use Rattle.sm_refs.specs.Attached.{Attached, count_of}
use Rattle.sm_machine.specs.Shapes.{Attachment, Shape, refs}
use Rattle.sm_machine.specs.WellFormed.{IsWellFormed}
use Rattle.vhd_chain.specs.Trees.{row_name}
use Rattle.sm_ready.specs.Known.{Known, shape_in}
use Rattle.sm_ready.specs.Orderly.{IsOrderly, IsRoomyIn}
use Rattle.sm_ready.specs.Ready.{IsReady}
use Rattle.sm_ready.proofs.RepairLaws.{all_quiet}

-- memory with these attachments
abbrev pub with_attached : Attached → Known → Known
with_attached a m = record m { attached = a }

roomy_used : (σ : Shape) (xs : List Attachment) (o : Op) → IsRoomyIn σ o → IsRoomyIn (record σ { attached = xs }) o
roomy_used σ xs op.Idle h = tt
roomy_used σ xs (op.Copy v p cursor) h = h
roomy_used σ xs (op.Relink v p) h = tt
roomy_used σ xs (op.Leaf l p cursor) h = h
roomy_used σ xs (op.Live l p cursor dirty) h = h

-- memory is orderly with them, where the shape is well-formed and each image is counted as often as it is used
pub orderly_used : (s : Site) (t : VolumeTable) (m : Known) (a : Attached) → IsOrderly s t m → ∥ IsWellFormed (shape_in s t (with_attached a m)) ∥₁ → ((n : Name) → count_of a n ≡ refs n (shape_in s t (with_attached a m)))
    → IsOrderly s t (with_attached a m)
unfolding shape_in
orderly_used s t m a o well counted = record {
  table = o.table;
  few_extents = o.few_extents;
  record_volume = o.record_volume;
  few = o.few;
  new_named = o.new_named;
  logs = o.logs;
  few_logs = o.few_logs;
  logs_in_order = o.logs_in_order;
  log_room = o.log_room;
  images = o.images;
  places = o.places;
  entries = o.entries;
  stands = o.stands;
  well_formed = well;
  roomy = roomy_used (shape_in s t m) (shape_in s t (with_attached a m)).attached m.op o.roomy;
  counts = counted;
}

-- and ready, where nothing is pending
pub ready_used : (s : Site) (t : VolumeTable) (h : Held) (m : Known) (a : Attached) → IsReady s t h m → IsSettled h → IsReady s t h (with_attached a m)
ready_used s t h m a ready settled = record {
  firm = record { images = ready.firm.images; quiet = λ r i _. all_quiet s t h settled (row_name r); below = ready.firm.below };
  records = ready.records;
  recorded = ready.recorded;
  logs = ready.logs;
  logged = ready.logged;
}
