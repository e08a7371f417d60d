-- What is read through a chain of the images in memory, by the contents of their volumes in a store.
use Rattle.std.specs.Prelude.{◌≡◌, ℕ, ◌+◌, ◌<◌, ◌≤◌, List, [], Option, Some, None}
use Rattle.common_laws.specs.Lists.{In, ◌>>=◌}
use Rattle.sm_base.specs.declared.names.Name.{Name}
use Rattle.sm_disk.specs.Held.{reads}
use Rattle.sm_disk.specs.Sectors.{sector}
use Rattle.vg_volumes.specs.Stored.{Stored, held_in}
use Rattle.sm_machine.specs.Shapes.{chain_limit}
use Rattle.sm_standing.specs.Images.{Image, answer_of, walk}
use Rattle.vhd_image.specs.Bodies.{volume_name, sector_count, parent_name, map_of, ImageStands, ImageIsTrue, own_now}
use Rattle.vhd_image.specs.declared.images.Body.{Body}
use Rattle.vhd_chain.specs.Trees.{tree_row}
use Rattle.vhd_chain.specs.declared.rows.TreeRow.{TreeRow}

-- the slots of an image's blocks; a raw image has none
abbrev pub slots_of : Body → List (Option ℕ)
slots_of body = elim (map_of body) [ None ↦ [] | Some m ↦ m ]

-- the sectors that an image holds, as its volume is read
abbrev pub own_read : Stored → Body → ℕ → Option (List ℕ)
own_read x body = own_now x body (reads (held_in x (volume_name body)))

-- a row's image by itself: what is in memory of it, with the sectors that it holds
abbrev pub row_image : Stored → TreeRow → Image
row_image x r = record { size = sector_count r.image; parent = parent_name r.image; slots = slots_of r.image; own = own_read x r.image }

-- the image of this name
abbrev pub image_in : Stored → List TreeRow → Name → Option Image
image_in x rows n = tree_row rows n >>= (λ r. Some (row_image x r))

-- a sector as it is read through at most so many images from one up: of the first that holds it, and zeros where there
-- is none, where a parent is not there, and where an image ends in front of it
unfoldable pub reads_up : Stored → List TreeRow → ℕ → Name → ℕ → List ℕ
reads_up x rows most n s = walk most (λ m. answer_of s (image_in x rows m)) n

-- a sector as it is read through the chain of an image
abbrev pub chain_reads : Stored → List TreeRow → Name → ℕ → List ℕ
chain_reads x rows n s = reads_up x rows chain_limit n s

-- each row's image stands in the store
abbrev pub AllStand : Stored → List TreeRow → Type 0
AllStand x rows = (r : TreeRow) → In r rows → ImageStands x r.image

-- each image among the rows is true of what its volume holds
abbrev pub AllAreTrue : Stored → List TreeRow → Type 0
AllAreTrue x rows = (r : TreeRow) → In r rows → ImageIsTrue x r.image

-- The sectors of these bytes from number `done` on, up to one before `end`, are what `f` says; the bytes begin at this
-- sector of the disk.
abbrev pub AreRead : (ℕ → List ℕ) → ℕ → ℕ → ℕ → List ℕ → Type 0
AreRead f at done end bytes = (k : ℕ) → done ≤ k → k < end → sector bytes k ≡ f (at + k)
