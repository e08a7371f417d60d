-- One step of the machine, but for what it does to logs: a command turns disks and shape into a reply, new disks and a new shape (this
-- project's format). A refused command changes nothing. Want of memory is no answer of the machine: a line that finds no memory is
-- one that the machine has not stepped on.
use Rattle.std.specs.Prelude.{ℕ, ◌+◌, ◌-◌, ◌*◌, ◌/◌, not, Bool, true, false, List, [], ◌∷◌, ◌++◌, length, map, replicate, Option, Some, None}
use Rattle.std.specs.List.{filter, find}
use Rattle.std.specs.Str.{bytes_eq}
use Rattle.sm_base.specs.Names.{base_uuid}
use Rattle.sm_base.specs.declared.names.Name.{Name}
use Rattle.sm_base.specs.declared.names.Name.TheVariants.{Vhd, Raw}
use Rattle.sm_base.specs.declared.operations.Mode.{Mode}
use Rattle.sm_base.specs.declared.operations.Mode.TheVariants.{Ro, Rw}
use Rattle.sm_machine.specs.Operations.{Op}
use Rattle.sm_machine.specs.Operations as op
use Rattle.sm_base.specs.declared.refusals.Refusal.{Refusal}
use Rattle.sm_machine.specs.declared.commands.Command.{Command}
use Rattle.sm_machine.specs.declared.commands.Command.TheVariants.{Create, Delete, Attach, Detach, Snapshot, Clone, Resize, Label, Write, Fill, Read, Flush, Gc, List as Listing, Stat, Track, Changed}
use Rattle.sm_machine.specs.declared.replies.DiskRow.{DiskRow}
use Rattle.sm_machine.specs.declared.replies.StatRow.{StatRow}
use Rattle.sm_machine.specs.declared.replies.Reply.{Reply}
use Rattle.sm_machine.specs.declared.replies.Reply.TheVariants as reply
use Rattle.sm_machine.specs.Stats.{Stats}
use Rattle.common_laws.specs.Lists.{change, insert_by, numbers}
use Rattle.sm_machine.specs.Operations.{dirtied, told}
use Rattle.sm_machine.specs.Disks.{Disk, sector_bytes, uuid_before, filled, sectors_of_bytes, overwritten, bytes_at, is_disk, with_disk, on_disk}
use Rattle.sm_machine.specs.Shapes.{Shape, ImageRow, DiskRecord, Attachment, image_uuid, risen, is_vhd, renamed, count_blocks, is_image_of, disk_image, attached_as, is_rw, refs, free, with_image, without_image}
use Rattle.sm_log.specs.Coded.{spelled_first}
use Rattle.sm_log.specs.Logs.{changed}
use Rattle.sm_machine.specs.Refusals.{refusal, disk_pieces, rounded, new_extents, wanted, lacking, lacking_larger}
use Rattle.sm_machine.specs.Collector.{with_block, next_step, collected}
use Rattle.sm_machine.specs.Commits.{commits, is_given_up}

-- what the machine keeps between two steps
pub record State : Type 0 where
  pub disks : List Disk
  pub shape : Shape

-- what a step gives
pub record Outcome : Type 0 where
  pub reply : Reply
  pub after : State

-- ---- records, attachments and images of a disk

abbrev pub is_record : List ℕ → DiskRecord → Bool
is_record u r = bytes_eq r.uuid u

unfoldable pub with_record : DiskRecord → List DiskRecord → List DiskRecord
with_record r records = insert_by (λ a b. uuid_before a.uuid b.uuid) r records

abbrev pub is_attached : List ℕ → Attachment → Bool
is_attached u a = bytes_eq a.disk u

-- the image of a new disk: it holds nothing, and a raw one holds zeros
abbrev pub new_image : Shape → List ℕ → ℕ → Bool → ImageRow
new_image s u bytes true = record { name = Raw u; hidden = false; parent = None; size = rounded s true bytes; slots = []; extents = new_extents s true bytes }
new_image s u bytes false = record { name = Vhd u; hidden = false; parent = None; size = rounded s false bytes; slots = replicate s.entries None; extents = new_extents s false bytes }

-- an image that holds nothing and reads through a parent of the same size
abbrev pub child_image : Shape → List ℕ → Name → ℕ → ℕ → ImageRow
child_image s u parent size extents = record { name = Vhd u; hidden = false; parent = Some parent; size = size; slots = replicate s.entries None; extents = extents }

-- blocks get slots, one after the other
unfoldable pub with_blocks : List ℕ → List (Option ℕ) → List (Option ℕ)
with_blocks [] slots = slots
with_blocks (b ∷ blocks) slots = with_blocks blocks (with_block b slots)

-- the blocks that so many sectors from one on touch, at least one sector
abbrev pub blocks_touched : Shape → ℕ → ℕ → List ℕ
blocks_touched s sector count = numbers (sector / s.block) ((sector + count - 1) / s.block + 1 - sector / s.block)

-- a VHD image gets those blocks; a raw one has them
abbrev pub written_image : Shape → ℕ → ℕ → ImageRow → ImageRow
written_image s sector count i = elim (is_vhd i.name) [ true ↦ record i { slots = with_blocks (blocks_touched s sector count) i.slots } | false ↦ i ]

-- ---- the shape after a command, apart from the sequence number and from giving an operation up

-- the disk's image becomes a hidden base; two images that hold nothing read through it
abbrev pub forked_images : Shape → List ℕ → List ℕ → ImageRow → List ImageRow
forked_images s u twin i =
    let base : Name = renamed i.name (base_uuid s.sequence) in
    with_image (child_image s twin base i.size (wanted s false i.size))
    (with_image (child_image s u base i.size (wanted s (is_rw (attached_as u s)) i.size))
    (with_image (record i { name = base; hidden = true }) (without_image i.name s.images)))

abbrev pub fork_images : Shape → List ℕ → List ℕ → Option ImageRow → List ImageRow
fork_images s u twin None = s.images
fork_images s u twin (Some i) = forked_images s u twin i

-- the record of a new disk, which is made of another
abbrev pub fork_records : List ℕ → List ℕ → Bool → Option DiskRecord → List DiskRecord → List DiskRecord
fork_records u twin read_only None records = records
fork_records u twin read_only (Some r) records = with_record (record { uuid = twin; label = r.label; origin = Some u; read_only = read_only }) records

abbrev pub fork_shape : Shape → List ℕ → List ℕ → Bool → Shape
fork_shape s u twin read_only = record s {
  records = fork_records u twin read_only (find (is_record u) s.records) s.records;
  images = fork_images s u twin (disk_image u s);
}

abbrev pub create_shape : Shape → List ℕ → ℕ → Bool → List ℕ → Shape
create_shape s u bytes raw label = record s {
  records = with_record (record { uuid = u; label = label; origin = None; read_only = false }) s.records;
  images = with_image (new_image s u bytes raw) s.images;
}

abbrev pub delete_shape : Shape → List ℕ → Shape
delete_shape s u = record s {
  records = filter (λ r. not (is_record u r)) s.records;
  images = filter (λ i. not (is_image_of u i)) s.images;
}

-- for writing, the disk's image gets the extents that it lacks
abbrev pub attach_images : Shape → List ℕ → Mode → List ImageRow
attach_images s u Ro = s.images
attach_images s u Rw = change (is_image_of u) (λ i. record i { extents = i.extents + lacking s i }) s.images

abbrev pub attach_shape : Shape → List ℕ → Mode → Shape
attach_shape s u mode = record s { images = attach_images s u mode; attached = s.attached ++ record { disk = u; mode = mode } ∷ [] }

abbrev pub detach_shape : Shape → List ℕ → Shape
detach_shape s u = record s { attached = filter (λ a. not (is_attached u a)) s.attached }

abbrev pub resize_shape : Shape → List ℕ → ℕ → Shape
resize_shape s u bytes = record s { images = change (is_image_of u) (λ i. record i { size = rounded s false bytes; extents = i.extents + lacking_larger s u (rounded s false bytes) i }) s.images }

abbrev pub label_shape : Shape → List ℕ → List ℕ → Shape
label_shape s u text = record s { records = change (is_record u) (λ r. record r { label = text }) s.records }

-- of a live folding of the disk's own image those blocks that are below the cursor are dirty
unfoldable pub written_op : List ℕ → List ℕ → Op → Op
written_op u blocks (op.Live l p cursor dirty) = op.Live l p cursor (elim (bytes_eq (image_uuid l) u) [ true ↦ dirtied cursor blocks dirty | false ↦ dirty ])
written_op u blocks op.Idle = op.Idle
written_op u blocks (op.Copy child parent cursor) = op.Copy child parent cursor
written_op u blocks (op.Relink child parent) = op.Relink child parent
written_op u blocks (op.Leaf leaf parent cursor) = op.Leaf leaf parent cursor

abbrev pub write_shape : Shape → List ℕ → ℕ → ℕ → Shape
write_shape s u sector count = record s { images = change (is_image_of u) (written_image s sector count) s.images; op = written_op u (blocks_touched s sector count) s.op }

-- the shape after an accepted command
unfoldable pub shape_after : Shape → Command → Shape
shape_after s (Create u size raw label) = create_shape s u size raw label
shape_after s (Delete u) = delete_shape s u
shape_after s (Attach u mode) = attach_shape s u mode
shape_after s (Detach u) = detach_shape s u
shape_after s (Snapshot u twin) = fork_shape s u twin true
shape_after s (Clone u twin) = fork_shape s u twin false
shape_after s (Resize u size) = resize_shape s u size
shape_after s (Label u text) = label_shape s u text
shape_after s (Write u sector bytes) = write_shape s u sector (length bytes / sector_bytes)
shape_after s (Fill u sector count byte) = write_shape s u sector count
shape_after s (Read u sector count) = s
shape_after s (Flush u) = s
shape_after s Gc = collected (next_step s) s
shape_after s Listing = s
shape_after s Stat = s
shape_after s (Track u on) = s
shape_after s (Changed u n) = s

-- the operation is over where the command gives it up
abbrev pub given_up : Bool → Shape → Shape
given_up true s = record s { op = op.Idle }
given_up false s = s

-- the whole of it: the operation given up, the command's own change, and the commits counted
unfoldable pub shape_next : Shape → Command → Shape
shape_next s c = record (given_up (is_given_up s c) (shape_after s c)) { sequence = risen s.sequence (commits s c) }

-- ---- the disks after a command

abbrev pub fork_disks : List ℕ → List ℕ → Bool → Option Disk → List Disk → List Disk
fork_disks u twin read_only None disks = disks
fork_disks u twin read_only (Some d) disks = with_disk (record { uuid = twin; label = d.label; origin = Some u; read_only = read_only; sectors = d.sectors }) disks

abbrev pub written_disk : ℕ → List (List ℕ) → Disk → Disk
written_disk sector sectors d = record d { sectors = overwritten sector sectors d.sectors }

abbrev pub grown_disk : ℕ → Disk → Disk
grown_disk size d = record d { sectors = d.sectors ++ filled (size - length d.sectors) 0 }

-- the disks after an accepted command
unfoldable pub disks_next : List Disk → Shape → Command → List Disk
disks_next disks s (Create u size raw label) = with_disk (record { uuid = u; label = label; origin = None; read_only = false; sectors = filled (rounded s raw size) 0 }) disks
disks_next disks s (Delete u) = filter (λ d. not (is_disk u d)) disks
disks_next disks s (Attach u mode) = disks
disks_next disks s (Detach u) = disks
disks_next disks s (Snapshot u twin) = fork_disks u twin true (find (is_disk u) disks) disks
disks_next disks s (Clone u twin) = fork_disks u twin false (find (is_disk u) disks) disks
disks_next disks s (Resize u size) = on_disk u (grown_disk (rounded s false size)) disks
disks_next disks s (Label u text) = on_disk u (λ d. record d { label = text }) disks
disks_next disks s (Write u sector bytes) = on_disk u (written_disk sector (sectors_of_bytes bytes)) disks
disks_next disks s (Fill u sector count byte) = on_disk u (written_disk sector (filled count byte)) disks
disks_next disks s (Read u sector count) = disks
disks_next disks s (Flush u) = disks
disks_next disks s Gc = disks
disks_next disks s Listing = disks
disks_next disks s Stat = disks
disks_next disks s (Track u on) = disks
disks_next disks s (Changed u n) = disks

-- ---- what an accepted command is answered

abbrev pub disk_row : Disk → DiskRow
disk_row d = record { uuid = d.uuid; size = length d.sectors * sector_bytes; read_only = d.read_only; origin = d.origin; label = d.label }

abbrev pub stat_row : Shape → ImageRow → StatRow
stat_row s i = record { name = i.name; hidden = i.hidden; parent = i.parent; size = i.size * sector_bytes; blocks = count_blocks i.slots; extents = i.extents; refs = refs i.name s }

abbrev pub stats : Shape → Stats
stats s = record { seq = s.sequence; free = free s; op = told s.op; rows = map (stat_row s) s.images }

abbrev pub read_from : ℕ → ℕ → Option Disk → List ℕ
read_from sector count None = []
read_from sector count (Some d) = bytes_at sector count d.sectors

-- the pieces of a disk with so many that changed, a bit for each, as text
abbrev pub changed_text : ℕ → Option (List Bool) → List ℕ
changed_text pieces None = []
changed_text pieces (Some bits) = spelled_first pieces bits

-- the reply to an accepted command
unfoldable pub reply_to : List Disk → Shape → Command → Reply
reply_to disks s (Create u size raw label) = reply.Size (rounded s raw size * sector_bytes)
reply_to disks s (Delete u) = reply.Done
reply_to disks s (Attach u mode) = reply.Done
reply_to disks s (Detach u) = reply.Done
reply_to disks s (Snapshot u twin) = reply.Done
reply_to disks s (Clone u twin) = reply.Done
reply_to disks s (Resize u size) = reply.Size (rounded s false size * sector_bytes)
reply_to disks s (Label u text) = reply.Done
reply_to disks s (Write u sector bytes) = reply.Done
reply_to disks s (Fill u sector count byte) = reply.Done
reply_to disks s (Read u sector count) = reply.Bytes (read_from sector count (find (is_disk u) disks))
reply_to disks s (Flush u) = reply.Done
reply_to disks s Gc = reply.Gc (next_step s) (told s.op)
reply_to disks s Listing = reply.List (map disk_row disks)
reply_to disks s Stat = reply.Stat (stats s)
reply_to disks s (Track u on) = reply.Done
reply_to disks s (Changed u n) = reply.Changed (changed_text (disk_pieces u s) (changed (disk_pieces u s) u n s.logs))

-- ---- the step

unfoldable pub accepted : State → Command → Outcome
accepted σ c = record { reply = reply_to σ.disks σ.shape c; after = record { disks = disks_next σ.disks σ.shape c; shape = shape_next σ.shape c } }

abbrev pub refused : State → Refusal → Outcome
refused σ r = record { reply = reply.No r; after = σ }

abbrev pub unless_refused : Option Refusal → State → Command → Outcome
unless_refused (Some r) σ c = refused σ r
unless_refused None σ c = accepted σ c

-- the step of a command, without what it does to logs
unfoldable pub step : State → Command → Outcome
step σ c = unless_refused (refusal σ.shape c) σ c
