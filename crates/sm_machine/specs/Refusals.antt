-- Why a command is refused (this project's format). Each cause is one definition, by the shape alone; the first that
-- applies is the answer. Sums and rounded sizes are whole numbers of any length.
use Rattle.std.specs.Prelude.{ℕ, ◌+◌, ◌-◌, ◌*◌, ◌/◌, ◌%◌, ◌^◌, ◌==◌, ◌&&◌, ◌||◌, not, nat_lt, nat_le, Bool, true, false, List, [], ◌∷◌, length, replicate, Option, Some, None, is_some, is_none}
use Rattle.std.specs.List.{list_any}
use Rattle.std.specs.Str.{bytes_eq}
use Rattle.sm_base.specs.Names.{is_base}
use Rattle.sm_base.specs.Numbers.{div_up}
use Rattle.sm_base.specs.declared.operations.Mode.TheVariants.{Rw}
use Rattle.sm_base.specs.declared.refusals.Refusal.{Refusal}
use Rattle.sm_base.specs.declared.refusals.Refusal.TheVariants.{ReservedName, UnknownDisk, NameTaken, InUse, NotAttached, ReadOnly, RawDisk, Tracked, NotTracked, OutOfRange, BadSize, Shrink, ChainTooLong, TooMany, SequenceSpent, NoSpace}
use Rattle.sm_machine.specs.declared.commands.Command.{Command}
use Rattle.sm_machine.specs.declared.commands.Command.TheVariants.{Create, Delete, Attach, Detach, Snapshot, Clone, Resize, Label, Write, Fill, Read, Flush, Gc, List as Listing, Stat, Track, Changed}
use Rattle.common_laws.specs.Lists.{first_some, given}
use Rattle.sm_log.specs.Logs.{Log, changed, log_of, log_sectors, piece_count}
use Rattle.sm_machine.specs.Disks.{sector_bytes}
use Rattle.sm_machine.specs.Shapes.{Shape, ImageRow, image_uuid, is_vhd, disk_image, disk_record, attached_as, is_ro, is_rw, chain, chain_limit, image_limit, read_limit, thin_in, thick_in, free}

-- the disk that a command names, other than by a new UUID
unfoldable pub named : Command → Option (List ℕ)
named (Create u size raw label) = None
named (Delete u) = Some u
named (Attach u mode) = Some u
named (Detach u) = Some u
named (Snapshot u twin) = Some u
named (Clone u twin) = Some u
named (Resize u size) = Some u
named (Label u text) = Some u
named (Write u sector bytes) = Some u
named (Fill u sector count byte) = Some u
named (Read u sector count) = Some u
named (Flush u) = Some u
named Gc = None
named Listing = None
named Stat = None
named (Track u on) = Some u
named (Changed u n) = Some u

-- a second disk that a command names
abbrev pub also_named : Command → Option (List ℕ)
also_named (Changed u n) = Some n
also_named _ = None

-- the new UUID of a command
unfoldable pub new_uuid : Command → Option (List ℕ)
new_uuid (Create u size raw label) = Some u
new_uuid (Snapshot u twin) = Some twin
new_uuid (Clone u twin) = Some twin
new_uuid _ = None

-- a size in bytes as sectors: a VHD image's is rounded up to the block, a raw one's to the extent
unfoldable pub rounded : Shape → Bool → ℕ → ℕ
rounded s true bytes = div_up bytes (sector_bytes * s.extent) * s.extent
rounded s false bytes = div_up bytes (sector_bytes * s.block) * s.block

-- the UUID of sixteen zeros
abbrev pub nil : List ℕ
nil = replicate 16 0

-- a test of the new UUID, of the named disk's UUID, image and record; false where there is none
abbrev pub of_some : {A : Type 0} → (A → Bool) → Option A → Bool
of_some test None = false
of_some test (Some x) = test x

-- the new UUID is nil, or of the form that base images have
unfoldable pub is_reserved : Command → Bool
is_reserved c = of_some (λ u. bytes_eq u nil || is_base u) (new_uuid c)

-- no disk has the UUID, or the second one that is named
unfoldable pub is_unknown : Shape → Command → Bool
is_unknown s c = of_some (λ u. is_none (disk_record u s)) (also_named c) || of_some (λ u. is_none (disk_record u s)) (named c)

-- a disk or a hidden image has the new UUID
unfoldable pub is_taken : Shape → Command → Bool
is_taken s c = of_some (λ u. is_some (disk_record u s) || list_any (λ i. i.hidden && bytes_eq (image_uuid i.name) u) s.images) (new_uuid c)

-- attach, delete: the disk is attached; resize: it is attached for reading alone
unfoldable pub is_in_use : Shape → Command → Bool
is_in_use s (Attach u mode) = is_some (attached_as u s)
is_in_use s (Delete u) = is_some (attached_as u s)
is_in_use s (Resize u size) = is_ro (attached_as u s)
is_in_use s _ = false

-- write, fill, read, flush, detach: the disk is not attached
unfoldable pub is_not_attached : Shape → Command → Bool
is_not_attached s (Write u sector bytes) = is_none (attached_as u s)
is_not_attached s (Fill u sector count byte) = is_none (attached_as u s)
is_not_attached s (Read u sector count) = is_none (attached_as u s)
is_not_attached s (Flush u) = is_none (attached_as u s)
is_not_attached s (Detach u) = is_none (attached_as u s)
is_not_attached s _ = false

-- whether the disk is a snapshot
abbrev pub is_snapshot : List ℕ → Shape → Bool
is_snapshot u s = of_some (λ r. r.read_only) (disk_record u s)

-- write, fill: the disk is attached for reading alone; attach for writing, resize, a beginning of tracking: the disk is a snapshot
unfoldable pub is_read_only : Shape → Command → Bool
is_read_only s (Write u sector bytes) = is_ro (attached_as u s)
is_read_only s (Fill u sector count byte) = is_ro (attached_as u s)
is_read_only s (Attach u Rw) = is_snapshot u s
is_read_only s (Resize u size) = is_snapshot u s
is_read_only s (Track u true) = is_snapshot u s
is_read_only s _ = false

-- resize: the disk's volume is raw
unfoldable pub is_raw_disk : Shape → Command → Bool
is_raw_disk s (Resize u size) = of_some (λ i. not (is_vhd i.name)) (disk_image u s)
is_raw_disk s _ = false

-- resize, a beginning of tracking: the disk is tracked
unfoldable pub is_tracked : Shape → Command → Bool
is_tracked s (Resize u size) = is_some (log_of u s.logs)
is_tracked s (Track u true) = is_some (log_of u s.logs)
is_tracked s _ = false

abbrev pub with_image_of : (ImageRow → ℕ) → Option ImageRow → ℕ
with_image_of f None = 0
with_image_of f (Some i) = f i

-- the number of pieces of a disk
abbrev pub disk_pieces : List ℕ → Shape → ℕ
disk_pieces u s = with_image_of (λ i. piece_count i.size) (disk_image u s)

-- an end of tracking: the disk is not tracked; what changed between two disks: the logs do not lead from the second one back to the first
unfoldable pub is_untracked : Shape → Command → Bool
is_untracked s (Track u false) = is_none (log_of u s.logs)
is_untracked s (Changed u n) = is_none (changed (disk_pieces u s) u n s.logs)
is_untracked s _ = false

-- so many sectors from one on are none, or not all within the disk
abbrev pub is_outside : Shape → List ℕ → ℕ → ℕ → Bool
is_outside s u sector count = (count == 0) || of_some (λ i. nat_lt i.size (sector + count)) (disk_image u s)

-- write, fill, read: no sectors, or not all within the disk; read: more than one line may read; write: no whole sectors
unfoldable pub is_out_of_range : Shape → Command → Bool
is_out_of_range s (Write u sector bytes) = is_outside s u sector (length bytes / sector_bytes) || not (length bytes % sector_bytes == 0)
is_out_of_range s (Fill u sector count byte) = is_outside s u sector count
is_out_of_range s (Read u sector count) = is_outside s u sector count || nat_lt read_limit count
is_out_of_range s _ = false

-- a size of 0, or one that passes the blocks of a table; for a raw disk also one that passes all extents
abbrev pub is_bad : Shape → Bool → ℕ → Bool
is_bad s raw bytes = (bytes == 0) || nat_lt (s.entries * s.block) (rounded s raw bytes) || (raw && nat_lt (s.extents * s.extent) (rounded s raw bytes))

-- create, resize: the size is bad
unfoldable pub is_bad_size : Shape → Command → Bool
is_bad_size s (Create u size raw label) = is_bad s raw size
is_bad_size s (Resize u size) = is_bad s false size
is_bad_size s _ = false

-- resize: the rounded size is below the present one
unfoldable pub is_shrink : Shape → Command → Bool
is_shrink s (Resize u size) = of_some (λ i. nat_lt (rounded s false size) i.size) (disk_image u s)
is_shrink s _ = false

-- the number of images in the chain of a disk
abbrev pub depth : List ℕ → Shape → ℕ
depth u s = elim (disk_image u s) [ None ↦ 0 | Some i ↦ length (chain chain_limit i.name s.images) ]

-- the disk that a command makes another of
unfoldable pub forked : Command → Option (List ℕ)
forked (Snapshot u twin) = Some u
forked (Clone u twin) = Some u
forked _ = None

-- snapshot, clone: the disk's chain is full
unfoldable pub is_deep : Shape → Command → Bool
is_deep s c = of_some (λ u. nat_le chain_limit (depth u s)) (forked c)

-- the images that a command makes
unfoldable pub images_needed : Command → ℕ
images_needed (Create u size raw label) = 1
images_needed (Snapshot u twin) = 2
images_needed (Clone u twin) = 2
images_needed _ = 0

-- create, snapshot, clone: the images would be too many
unfoldable pub is_too_many : Shape → Command → Bool
is_too_many s c = is_some (new_uuid c) && nat_lt image_limit (length s.images + images_needed c)

-- create, snapshot, clone: the sequence number is 2^48 - 16 or more
unfoldable pub is_spent : Shape → Command → Bool
is_spent s c = is_some (new_uuid c) && nat_le (2 ^ 48 - 16) s.sequence

-- the extents that a disk's image needs: each block a slot where it is written to, else none
abbrev pub wanted : Shape → Bool → ℕ → ℕ
wanted s true size = thick_in s size
wanted s false size = thin_in s 0

-- the extents of the two images that a fork makes: the disk's own, and the twin
abbrev pub fork_need : Shape → List ℕ → ImageRow → ℕ
fork_need s u i = wanted s (is_rw (attached_as u s)) i.size + thin_in s 0

-- the extents that a VHD image lacks for a slot in each block of so many sectors
abbrev pub lacking_for : Shape → ℕ → ImageRow → ℕ
lacking_for s size i = elim (is_vhd i.name) [ true ↦ thick_in s size - i.extents | false ↦ 0 ]

-- the extents that an image lacks for being written to in each of its blocks
abbrev pub lacking : Shape → ImageRow → ℕ
lacking s i = lacking_for s i.size i

-- the extents that an image lacks for being written to in each block of a greater size: none where its disk is not attached for writing
abbrev pub lacking_larger : Shape → List ℕ → ℕ → ImageRow → ℕ
lacking_larger s u size i = elim (is_rw (attached_as u s)) [ true ↦ lacking_for s size i | false ↦ 0 ]

-- the extents that a new disk takes
abbrev pub new_extents : Shape → Bool → ℕ → ℕ
new_extents s true bytes = div_up bytes (sector_bytes * s.extent)
new_extents s false bytes = thin_in s 0

-- a number that is told of a disk's log, 0 where it has none
abbrev pub of_log : (Log → ℕ) → Option Log → ℕ
of_log f None = 0
of_log f (Some l) = f l

-- the extents that the log of a disk takes
abbrev pub log_room : Shape → List ℕ → ℕ
log_room s u = div_up (log_sectors (disk_pieces u s)) s.extent

-- the extents that a command takes for logs: a snapshot's log takes as many as its disk's has
unfoldable pub log_need : Shape → Command → ℕ
log_need s (Snapshot u twin) = of_log (λ l. l.extents) (log_of u s.logs)
log_need s (Track u true) = log_room s u
log_need s _ = 0

-- the extents that a command takes; those of a log too
unfoldable pub need : Shape → Command → ℕ
need s (Create u size raw label) = new_extents s raw size
need s (Attach u Rw) = with_image_of (lacking s) (disk_image u s)
need s (Resize u size) = with_image_of (lacking_larger s u (rounded s false size)) (disk_image u s)
need s (Snapshot u twin) = with_image_of (fork_need s u) (disk_image u s) + log_need s (Snapshot u twin)
need s (Clone u twin) = with_image_of (fork_need s u) (disk_image u s)
need s (Track u true) = log_need s (Track u true)
need s _ = 0

-- create, snapshot, clone, attach for writing, resize of a disk attached for writing, a beginning of tracking: more extents are needed than are free
unfoldable pub lacks_space : Shape → Command → Bool
lacks_space s c = nat_lt (free s) (need s c)

-- the depth of the chain of the disk that a command makes another of
abbrev pub fork_depth : Shape → Command → ℕ
fork_depth s c = elim (forked c) [ None ↦ 0 | Some u ↦ depth u s ]

-- the first cause in this order, if there is one
unfoldable pub refusal : Shape → Command → Option Refusal
refusal s c = first_some (given (is_reserved c) ReservedName
    ∷ given (is_unknown s c) UnknownDisk
    ∷ given (is_taken s c) NameTaken
    ∷ given (is_in_use s c) InUse
    ∷ given (is_not_attached s c) NotAttached
    ∷ given (is_read_only s c) ReadOnly
    ∷ given (is_raw_disk s c) RawDisk
    ∷ given (is_tracked s c) Tracked
    ∷ given (is_untracked s c) NotTracked
    ∷ given (is_out_of_range s c) OutOfRange
    ∷ given (is_bad_size s c) BadSize
    ∷ given (is_shrink s c) Shrink
    ∷ given (is_deep s c) (ChainTooLong (fork_depth s c))
    ∷ given (is_too_many s c) (TooMany (length s.images) (images_needed c))
    ∷ given (is_spent s c) SequenceSpent
    ∷ given (lacks_space s c) (NoSpace (need s c) (free s))
    ∷ [])
