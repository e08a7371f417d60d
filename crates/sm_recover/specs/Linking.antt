-- The children of an image that goes are linked, one after the other, to the image's parent.
use Rattle.std.specs.Prelude.{◌≡◌, ◌≤◌, false, List, [], ◌∷◌, length, Option, Some, None}
use Rattle.sm_base.specs.declared.names.Name.{Name}
use Rattle.sm_base.specs.declared.names.Name.TheVariants.{Mgt, Vhd, Raw, Old, Cbt, Clone, Inflate, Coalesce, Relink, Leaf}
use Rattle.sm_machine.specs.Operations.{Op}
use Rattle.sm_machine.specs.Operations as op
use Rattle.sm_disk.specs.Held.{IsSettled, Keeps}
use Rattle.vg_meta.specs.Roomy.{table_alone}
use Rattle.vg_meta.specs.Changes.{applied}
use Rattle.vg_meta.specs.declared.changes.Change.TheVariants.{Remove}
use Rattle.vg_volumes.specs.Stored.{Stored}
use Rattle.vg_volumes.specs.declared.stores.Store.{Ghosts}
use Rattle.sm_machine.specs.Shapes.{Shape, risen}
use Rattle.sm_standing.specs.Keeping.{IsKept}
use Rattle.sm_standing.specs.LogChecks.{HasLogsOf}
use Rattle.sm_standing.specs.Opened.{linked_past}
use Rattle.sm_standing.specs.Standing.{disks}
use Rattle.sm_standing.specs.Unfolded.{unfolded}
use Rattle.sm_ready.specs.Does.{store_shape}
use Rattle.sm_ready.specs.Known.{Known, entry_of}
use Rattle.sm_ready.specs.Ready.{IsReady}
use Rattle.sm_ready.specs.Repairs.{content_of}
use Rattle.sm_ready.specs.Frames.{HasTrueImages}
use Rattle.sm_ready.specs.Sessions.{HasRows, IsOrderlyStore, IsReadyStore}
use Rattle.sm_ready.specs.Stores.{store_content}
use Rattle.sm_ready.specs.declared.memory.Memory.{Memory}
use Rattle.vhd_chain.specs.declared.rows.TreeRow.{TreeRow}
use Rattle.sm_checks.specs.Links.{HasLink}

-- an operation links the children of an image
abbrev pub LinksPast : Name → Op → Type 0
LinksPast n (op.Relink v p) = v ≡ n
LinksPast n op.Idle = ⊥
LinksPast n (op.Copy v p cursor) = ⊥
LinksPast n (op.Leaf l p cursor) = ⊥
LinksPast n (op.Live l p cursor dirty) = ⊥

-- the shape, once each of them is linked
abbrev pub linked_on : Op → Shape → Shape
linked_on (op.Relink v p) s = linked_past v p s
linked_on op.Idle s = s
linked_on (op.Copy v p cursor) s = s
linked_on (op.Leaf l p cursor) s = s
linked_on (op.Live l p cursor dirty) s = s

-- the image whose children are being linked, by the entry of a link
abbrev pub link_image : Option Name → Option Name
link_image (Some (Relink child parent)) = Some (Vhd child)
link_image None = None
link_image (Some Mgt) = None
link_image (Some (Vhd u)) = None
link_image (Some (Raw u)) = None
link_image (Some (Old u)) = None
link_image (Some (Cbt u)) = None
link_image (Some (Clone disk base twin)) = None
link_image (Some (Inflate image extents)) = None
link_image (Some (Coalesce child parent)) = None
link_image (Some (Leaf leaf parent)) = None

-- the parent of an image in memory, where the entry of a link stands
abbrev pub LinkedBy : Option Name → List TreeRow → Shape → Shape → Type 0
LinkedBy (Some (Relink child parent)) xs before after = (p : Name) → HasLink xs (Vhd child) p → after ≡ linked_past (Vhd child) p before
LinkedBy None xs before after = after ≡ before
LinkedBy (Some Mgt) xs before after = after ≡ before
LinkedBy (Some (Vhd u)) xs before after = after ≡ before
LinkedBy (Some (Raw u)) xs before after = after ≡ before
LinkedBy (Some (Old u)) xs before after = after ≡ before
LinkedBy (Some (Cbt u)) xs before after = after ≡ before
LinkedBy (Some (Clone disk base twin)) xs before after = after ≡ before
LinkedBy (Some (Inflate image extents)) xs before after = after ≡ before
LinkedBy (Some (Coalesce child parent)) xs before after = after ≡ before
LinkedBy (Some (Leaf leaf parent)) xs before after = after ≡ before

-- some were linked: the table stays, memory is orderly and true beside the store, and what is to come leads to the same shape. Where
-- memory was ready it is, and where nothing was pending the disks are the same
pub record LinksSome {S : Type 0} (g : Ghosts S) (old : S) (m : Memory) (new : S) (n : Memory) : Type 0 where
  pub site : g.site new ≡ g.site old
  pub calm : g.faults new ≡ g.faults old
  pub usable : g.failed new ≡ false
  pub table : table_alone (g.table new) ≡ table_alone (g.table old)
  pub room : HasRows (g.table old) → HasRows (g.table new)
  pub beside : g.told → Keeps (g.beside old) (g.beside new)
  pub settled : g.told → IsSettled (g.area old) → IsSettled (g.area new)
  pub orderly : IsOrderlyStore g new n
  pub true_images : HasTrueImages g new n
  pub images : length n.tree.rows ≡ length m.tree.rows
  pub spare : n.tree.spare ≡ m.tree.spare
  pub records : n.records ≡ m.records
  pub logs : n.logs ≡ m.logs
  pub operation : n.operation ≡ m.operation
  pub attached : n.attached.disks ≡ m.attached.disks
  pub places : m.attached.room ≤ n.attached.room
  pub shape : linked_on m.operation (store_shape g new n) ≡ linked_on m.operation (store_shape g old m)
  pub ready : g.told → IsReadyStore g old m → IsReadyStore g new n
  pub same_disks : g.told → IsSettled (g.area old) → IsReadyStore g old m → disks (store_content g new) ≡ disks (store_content g old)

-- what is told of a store and of memory in front of the first link: nothing is pending, what stands is kept, and memory is ready
-- beside the table without the entry
pub record IsLinkBegun (x : Stored) (m : Known) : Type 0 where
  pub settled : IsSettled x.area
  pub kept : IsKept (content_of x)
  pub ready : IsReady x.site (unfolded x.table) x.area m

-- what is told of a store and of memory behind the last link: memory is ready, nothing is pending, and the disks and the logs are the same
pub record LinksRest {S : Type 0} (g : Ghosts S) (old new : S) (n : Memory) : Type 0 where
  pub ready : IsReadyStore g new n
  pub settled : IsSettled (g.area new)
  pub same_disks : disks (store_content g new) ≡ disks (store_content g old)
  pub same_logs : HasLogsOf (store_content g old) (store_content g new)

-- all were linked, and the entry went
pub record LinksAll {S : Type 0} (g : Ghosts S) (old : S) (m : Memory) (new : S) (n : Memory) : Type 0 where
  pub usable : g.failed new ≡ false
  pub table : (e : Name) → entry_of m.operation ≡ e ∷ [] → table_alone (g.table new) ≡ applied (table_alone (g.table old)) (Remove e)
  pub room : HasRows (g.table old) → HasRows (g.table new)
  pub orderly : IsOrderlyStore g new n
  pub true_images : HasTrueImages g new n
  pub images : length n.tree.rows ≡ length m.tree.rows
  pub spare : n.tree.spare ≡ m.tree.spare
  pub operation : n.operation ≡ op.Idle
  pub attached : n.attached.disks ≡ m.attached.disks
  pub places : m.attached.room ≤ n.attached.room
  pub shape : store_shape g new n ≡ record (linked_on m.operation (store_shape g old m)) { sequence = risen (table_alone (g.table old)).sequence 1; op = op.Idle }
  pub rest : g.told → IsSettled (g.area old) → IsReadyStore g old m → LinksRest g old new n
