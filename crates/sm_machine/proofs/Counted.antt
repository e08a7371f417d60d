-- A higher sequence number keeps a shape well-formed, whatever logs it has, where the extents of others fit.
use Rattle.std.proofs.Common.{ℕ, ◌+◌, ◌<◌, ◌≤◌, Bool, true, false, List, arith}
use Rattle.sm_base.specs.declared.names.Name.{Name}
use Rattle.sm_log.specs.Logs.{Log}
use Rattle.sm_machine.specs.Operations.{Op}
use Rattle.sm_machine.specs.Operations as op
use Rattle.sm_machine.specs.Shapes.{Shape, ImageRow, last_sequence, image_extents}
use Rattle.sm_machine.specs.WellFormed.{IsImageRow, IsChild, IsLive, IsOnlyChild, IsOperation, IsWellFormed, table_length}

module _ (s : Shape) (n others : ℕ) (logs : List Log) where
  abbrev counted : Shape
  counted = record s { sequence = n; others = others; logs = logs }

  link_counted : (hidden : Bool) (v p : Name) → IsChild s hidden v p → IsChild counted hidden v p
  link_counted hidden v p h = record { child = h.child; there = h.there; is_named = h.is_named; is_shown = h.is_shown; vhd = h.vhd; linked = h.linked }

  only_counted : (hidden : Bool) (v p : Name) → IsOnlyChild s hidden v p → IsOnlyChild counted hidden v p
  unfolding link_counted
  only_counted hidden v p h = record { link = link_counted hidden v p h.link; only = h.only; same_size = h.same_size }

  live_counted : (l p : Name) (cursor : ℕ) (dirty : List ℕ) → IsLive s l p cursor dirty → IsLive counted l p cursor dirty
  unfolding link_counted only_counted
  live_counted l p cursor dirty h = record { only = only_counted false l p h.only; parent_vhd = h.parent_vhd; attached = h.attached; thick = h.thick; within = h.within; blocks = h.blocks }

  operation_counted : (o : Op) → IsOperation s o → IsOperation counted o
  operation_counted op.Idle h = tt
  operation_counted (op.Copy v p cursor) h = only_counted true v p h
  operation_counted (op.Relink v p) h = link_counted true v p h
  operation_counted (op.Live l p cursor dirty) h = live_counted l p cursor dirty h
  operation_counted (op.Leaf l p cursor) h = (only_counted false l p h.0, h.1, h.2)

  image_counted : (i : ImageRow) → IsImageRow s i → IsImageRow counted i
  unfolding table_length
  image_counted i g = record { named = g.named; whole = g.whole; volume = g.volume; table = g.table; raw = g.raw }

  pub keeps_counted : IsWellFormed s → s.sequence ≤ n → n ≤ last_sequence → others + image_extents s.images ≤ s.extents → IsWellFormed counted
  keeps_counted w h g room = record {
    geometry = w.geometry;
    blocks = w.blocks;
    sequence = g;
    room = room;
    few = w.few;
    images_in_order = w.images_in_order;
    one_image = w.one_image;
    images = λ i k. image_counted i (w.images i k);
    parents = w.parents;
    chains = w.chains;
    bases = λ i m k l e. (let a : m < s.sequence = w.bases i m k l e in omega arith);
    records_in_order = w.records_in_order;
    one_record = w.one_record;
    disks = w.disks;
    visible = w.visible;
    attachments = record { once = w.attachments.once; disks = w.attachments.disks; writable = w.attachments.writable; thick = w.attachments.thick };
    operation = operation_counted s.op w.operation;
  }
