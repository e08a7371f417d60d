-- What making a disk of another asks of table and memory, and what it makes of them (this project's format).
use Rattle.std.specs.Prelude.{◌≡◌, ◌≢◌, ◌⊎◌, ℕ, ◌+◌, ◌-◌, ◌<◌, ◌≤◌, IsSome, Bool, true, false, is_some, List, [], ◌∷◌, ◌++◌, length, replicate, unwrap_or, Option, None, Some, if◌then◌else◌}
use Rattle.std.specs.List.{slice_set}
use Rattle.sm_base.specs.Names.{base_uuid}
use Rattle.sm_base.specs.declared.names.Name.{Name}
use Rattle.sm_base.specs.declared.names.Name.TheVariants as name
use Rattle.sm_base.specs.declared.sizes.Geometry.{Geometry}
use Rattle.sm_disk.specs.Held.{Held, Keeps, May, Wrote, reads}
use Rattle.vg_meta.specs.Roomy.{table_alone}
use Rattle.vg_meta.specs.Tables.{VolumeTable}
use Rattle.vg_meta.specs.Changes.{AreFree}
use Rattle.vg_meta.specs.declared.changes.Change.{Change}
use Rattle.vg_meta.specs.declared.changes.Change.TheVariants.{Create, Remove, Rename, Mark}
use Rattle.vg_meta.specs.declared.changes.Tag.TheVariants.{Hidden, Fresh}
use Rattle.vg_extents.specs.Fits.{AreLeastFree}
use Rattle.vg_volumes.specs.Sites.{Site, size_of, volume_of}
use Rattle.vg_volumes.specs.declared.stores.Store.{Ghosts}
use Rattle.vhd_layout.specs.Images.{IsImage}
use Rattle.vhd_volumes.specs.declared.heads.Head.{Head}
use Rattle.vhd_volumes.specs.Truth.{layout_in}
use Rattle.vhd_image.specs.Bodies.{in_volume, sector_count}
use Rattle.vhd_image.specs.Made.{new_head}
use Rattle.vhd_image.specs.declared.images.Body.{Body}
use Rattle.vhd_image.specs.declared.images.Body.TheVariants.{Vhd}
use Rattle.vhd_chain.specs.declared.rows.TreeRow.{TreeRow}
use Rattle.vhd_chain.specs.Trees.{tree_row, with_row, without}
use Rattle.sm_machine.specs.Refusals.{refusal, wanted}
use Rattle.sm_machine.specs.Shapes.{Shape, attached_as, is_rw, renamed, risen, thin_in}
use Rattle.sm_machine.specs.Steps.{shape_after}
use Rattle.sm_machine.specs.declared.commands.Command.{Command}
use Rattle.sm_machine.specs.declared.commands.Command.TheVariants as command
use Rattle.sm_record.specs.Records.{IsRecord, reading, record_sector}
use Rattle.sm_record.specs.declared.records.Record.{Record}
use Rattle.sm_record.specs.declared.records.Reading.TheVariants.{Taken}
use Rattle.sm_mgt.specs.Places.{place_count, place_for, records_held, record_in}
use Rattle.sm_refs.specs.Attached.{Attached, HoldsChain, count_of}
use Rattle.sm_journal.specs.Entries.{putting}
use Rattle.sm_standing.specs.Opened.{applied_all}
use Rattle.sm_clone.specs.declared.forks.Fork.{Fork}
use Rattle.sm_clone.specs.declared.preparing.Parts.{Parts}
use Rattle.sm_ready.specs.Does.{IsKeptUp, store_shape}
use Rattle.sm_ready.specs.Framing.{IsBetweenSteps}
use Rattle.sm_ready.specs.Known.{Known, known, shape_in}
use Rattle.sm_ready.specs.Orderly.{IsOrderly}
use Rattle.sm_ready.specs.declared.memory.Memory.{Memory}
use Rattle.sm_calls.specs.Calls.{Call, Work, commits}

-- the command that makes a disk of another: a snapshot is read-only, and a clone is not
abbrev pub forking : List ℕ → List ℕ → Bool → Command
forking u twin true = command.Snapshot u twin
forking u twin false = command.Clone u twin

-- the name of a disk's own image: that of a VHD image, where there is one
abbrev pub own_name : List TreeRow → List ℕ → Name
own_name rows u = if is_some (tree_row rows (name.Vhd u)) then name.Vhd u else name.Raw u

-- the fork of a disk: its base has the UUID of a number, that of the table where the command begins
abbrev pub fork_of : ℕ → List TreeRow → List ℕ → List ℕ → Fork
fork_of number rows u twin = record { disk = u; own = own_name rows u; base = base_uuid number; twin = twin }

-- the base's name, of the kind that the disk's image has
abbrev pub base_name : Fork → Name
base_name f = renamed f.own f.base

-- the entry, while the fork is made
abbrev pub entry_name : Fork → Name
entry_name f = name.Clone f.disk f.base f.twin

-- the changes in front of the writes: the entry; the image gets the base's name, and is hidden; two new images
abbrev pub first_changes : Fork → List ℕ → List ℕ → List Change
first_changes f own twins = putting (entry_name f) ∷ Rename f.own (base_name f) ∷ Mark (base_name f) Hidden true
    ∷ Create (name.Vhd f.disk) true own ∷ Create (name.Vhd f.twin) true twins ∷ []

-- the changes behind the writes: both images are no longer new; the entry is gone
abbrev pub last_changes : Fork → List Change
last_changes f = Mark (name.Vhd f.disk) Fresh false ∷ Mark (name.Vhd f.twin) Fresh false ∷ Remove (entry_name f) ∷ []

-- the tables at the writes, and at the end
abbrev pub table_begun : VolumeTable → Fork → List ℕ → List ℕ → VolumeTable
table_begun t f own twins = applied_all t (first_changes f own twins)

abbrev pub table_forked : VolumeTable → Fork → List ℕ → List ℕ → VolumeTable
table_forked t f own twins = applied_all (table_begun t f own twins) (last_changes f)

-- the size of the image behind a row
abbrev pub sectors_of : Option TreeRow → ℕ
sectors_of None = 0
sectors_of (Some r) = sector_count r.image

-- The extents of the two images: the least that are free, rising; the disk's own image has the first of them, as many as its
-- attachment wants, and the twin those behind, as many as an image has without slots.
pub record AreForFork (s : Site) (t : VolumeTable) (σ : Shape) (u : List ℕ) (sectors : ℕ) (own twins : List ℕ) : Type 0 where
  pub least : AreLeastFree s.count (length own + length twins) t (own ++ twins)
  pub extents_free : AreFree s.count t.volumes (own ++ twins)
  pub own_many : length own ≡ wanted σ (is_rw (attached_as u σ)) sectors
  pub twin_many : length twins ≡ thin_in σ 0

-- ---- what is in memory

-- the image of the disk once it is the base
abbrev pub base_body : Fork → Body → Body
base_body f b = in_volume (base_name f) b

-- the row of the disk's image once it is the base: hidden, in as many extents
abbrev pub base_row : Fork → TreeRow → TreeRow
base_row f r = record { image = base_body f r.image; hidden = true; extents = r.extents }

-- the head of an image that is made over another, of its size: made now, with this unique id
abbrev pub child_head : Geometry → List ℕ → ℕ → List ℕ → Body → Head
child_head g u now uid parent = new_head g (name.Vhd u) now (sector_count parent) uid (Some parent)

-- its row, without slots
abbrev pub child_row : Geometry → List ℕ → ℕ → List ℕ → Body → ℕ → TreeRow
child_row g u now uid parent extents = record { image = Vhd (child_head g u now uid parent) (replicate g.entries None); hidden = false; extents = extents }

-- the unique ids of the two images: by the table's number behind the commit that makes each
abbrev pub own_uid : VolumeTable → List ℕ
own_uid t = base_uuid (t.sequence + 4)

abbrev pub twin_uid : VolumeTable → List ℕ
twin_uid t = base_uuid (t.sequence + 5)

-- the images with the base in place of the disk's image, and the two over it, which have so many extents
abbrev pub forked_rows : Site → VolumeTable → Fork → ℕ → ℕ → ℕ → Option TreeRow → List TreeRow → List TreeRow
forked_rows s t f now own twins None rows = rows
forked_rows s t f now own twins (Some r) rows =
    with_row (child_row s.geometry f.twin now (twin_uid t) (base_body f r.image) twins)
    (with_row (child_row s.geometry f.disk now (own_uid t) (base_body f r.image) own)
    (with_row (base_row f r) (without f.own rows)))

-- the twin's record
abbrev pub twin_record : List ℕ → List ℕ → Bool → Record → Record
twin_record u twin read_only r = record { uuid = twin; label = r.label; origin = Some u; read_only = read_only }

-- the places of the records with the twin's
abbrev pub forked_places : List ℕ → List ℕ → Bool → Option Record → List (Option Record) → List (Option Record)
forked_places u twin read_only None places = places
forked_places u twin read_only (Some r) places = slice_set places (unwrap_or (place_for places twin) 0) (Some (twin_record u twin read_only r))

-- The base is used as often as the disk's image was, and so is the disk's new image; the disk's image, where it was a raw one,
-- is not used any more.
pub record IsUsedAs (f : Fork) (old new : Attached) : Type 0 where
  pub disks : new.disks ≡ old.disks
  pub base : count_of new (base_name f) ≡ count_of old f.own
  pub own : count_of new (name.Vhd f.disk) ≡ count_of old f.own
  pub gone : f.own ≢ name.Vhd f.disk → count_of new f.own ≡ 0
  pub others : (n : Name) → n ≢ base_name f → n ≢ name.Vhd f.disk → n ≢ f.own → count_of new n ≡ count_of old n

-- what that asks: there is room for the two, and neither is used by anything else
pub record HasUseRoom (f : Fork) (a : Attached) : Type 0 where
  pub room : HoldsChain a.counts (base_name f ∷ name.Vhd f.disk ∷ []) a.room
  pub no_base : count_of a (base_name f) ≡ 0
  pub no_leaf : f.own ≢ name.Vhd f.disk → count_of a (name.Vhd f.disk) ≡ 0
  pub apart : base_name f ≢ f.own
  pub other : base_name f ≢ name.Vhd f.disk

-- ---- what is written

-- writes at the two new images and at one place of the records: each other volume is as it was, and each other record
pub record IsBesideFork (s : Site) (t : VolumeTable) (f : Fork) (old new : Held) (k : ℕ) (r : Record) : Type 0 where
  pub others : (n : Name) → n ≢ name.Vhd f.disk → n ≢ name.Vhd f.twin → n ≢ name.Mgt → Keeps (volume_of s t old n) (volume_of s t new n)
  pub records : (p : ℕ) (v : List ℕ) → p < place_count → May (records_held s t new) p v → May (records_held s t old) p v ⊎ ((p ≡ k) × (reading v ≡ Taken r))

-- a read gives an image with this head and no slots
abbrev pub IsMade : Site → VolumeTable → Held → Head → Type 0
IsMade s t area head = IsImage (layout_in s.geometry head.footer (size_of s t head.volume)) (reads (volume_of s t area head.volume)) head.footer head.header (λ b. None)

-- a read gives the two images over this one, and the twin's record in its place
pub record IsFilled (s : Site) (t : VolumeTable) (own twin : Head) (k : ℕ) (r : Record) (old new : Held) : Type 0 where
  pub own_image : IsMade s t new own
  pub twin_image : IsMade s t new twin
  pub between : Held
  pub kept : Keeps (records_held s t old) between
  pub wrote : Wrote k (record_sector r) between (records_held s t new)

-- the call that writes the two images over this one and the twin's record, behind the first commits
abbrev pub fill_call : Site → VolumeTable → Fork → ℕ → Body → ℕ → Record → Call
fill_call s t f now image k r = Work (λ old new. IsBesideFork s t f old new k r)
    (λ old new. IsFilled s t (child_head s.geometry f.disk now (base_uuid (t.sequence - 1)) image) (child_head s.geometry f.twin now (base_uuid t.sequence) image) k r old new)

-- the calls of a fork: five commits, the writes, and three commits
abbrev pub fork_calls : Site → VolumeTable → Fork → List ℕ → List ℕ → ℕ → Body → ℕ → Record → List Call
fork_calls s t f own twins now image k r = commits (first_changes f own twins) ++ fill_call s (table_begun t f own twins) f now image k r ∷ commits (last_changes f)

-- ---- what was made

-- The table has the base, and the two images over it, which have the least free extents; the entry is gone.
pub record IsForkedOnLeast (s : Site) (t : VolumeTable) (σ : Shape) (f : Fork) (sectors : ℕ) (next : VolumeTable) : Type 0 where
  pub own : List ℕ
  pub twins : List ℕ
  pub extents : AreForFork s t σ f.disk sectors own twins
  pub made : next ≡ table_forked t f own twins

-- The images in memory are those from before, the disk's as the base, and the two over it, of the extents that they want.
abbrev pub HasForkedRows : Site → VolumeTable → Shape → Fork → ℕ → List TreeRow → List TreeRow → Type 0
HasForkedRows s t σ f now old new =
    new ≡ forked_rows s t f now (wanted σ (is_rw (attached_as f.disk σ)) (sectors_of (tree_row old f.own))) (thin_in σ 0) (tree_row old f.own) old

-- ---- what is asked once all memory was taken

-- The number by which the base is named: the table's, or the one below it, which was the table's until an operation was given up. By
-- this number table and memory are orderly, and no cause refuses the fork.
pub record Passes (s : Site) (t : VolumeTable) (m : Known) (u twin : List ℕ) (read_only : Bool) : Type 0 where
  pub number : ℕ
  pub below : number ≤ t.sequence
  pub above : t.sequence ≤ number + 1
  pub orderly : IsOrderly s (record t { sequence = number }) m
  pub unrefused : refusal (shape_in s (record t { sequence = number }) m) (forking u twin read_only) ≡ None

-- the machine's shape once a fork is made whose base has this number
abbrev pub shape_forked : Shape → ℕ → Command → Shape
shape_forked σ number c = record (shape_after (record σ { sequence = number }) c) { sequence = risen σ.sequence 8 }

-- A fork may be made with these parts, between two steps: no cause refuses it, no operation is given up, it is of the disk's image and
-- of the number that names its base, its record is the twin's and has a place; the extents are those that it takes, both maps are blank,
-- and three rows are spare.
pub record CanFork {S : Type 0} (g : Ghosts S) (store : S) (m : Memory) (f : Fork) (p : Parts) (entry : Record) : Type 0 where
  pub session : IsBetweenSteps g store m
  pub allowed : Passes (g.site store) (table_alone (g.table store)) (known m) f.disk f.twin entry.read_only
  pub kept_up : IsKeptUp g (forking f.disk f.twin entry.read_only) store m
  pub fork : f ≡ fork_of allowed.number m.tree.rows f.disk f.twin
  pub origin : Record
  pub recorded : record_in m.records f.disk ≡ Some origin
  pub entry_is : entry ≡ twin_record f.disk f.twin entry.read_only origin
  pub proper : IsRecord entry
  pub place : IsSome (place_for m.records f.twin)
  pub extents : AreForFork (g.site store) (table_alone (g.table store)) (store_shape g store m) f.disk (sectors_of (tree_row m.tree.rows f.own)) p.own.items p.twins.items
  pub own_map : p.own_map ≡ replicate (g.site store).geometry.entries None
  pub twin_map : p.twin_map ≡ replicate (g.site store).geometry.entries None
  pub rows : 3 ≤ (g.table store).spare
