-- The span of a write into a disk.
use Rattle.std.specs.Prelude.{◌≡◌, ℕ, ◌*◌, ◌/◌, ◌<◌, ◌≤◌, Bool, List, Option}
use Rattle.sm_base.specs.declared.sizes.Geometry.{Geometry}
use Rattle.sm_disk.specs.Held.{Held, IsIn, reads}
use Rattle.vg_volumes.specs.Stored.{stored, held_in}
use Rattle.vg_volumes.specs.declared.stores.Store.{Ghosts}
use Rattle.vhd_fields.specs.declared.footers.Footer.{Footer}
use Rattle.vhd_map.specs.Slots.{slot_of}
use Rattle.vhd_volumes.specs.declared.heads.Head.{Head}
use Rattle.vhd_volumes.specs.Truth.{disk_blocks, layout_now}
use Rattle.vhd_layout.specs.Layouts.{Layout, Slots, Sectors}
use Rattle.vhd_write.specs.Passes.{IsFull, AreAllSet, AreAllNewSet, IsFinished}
use Rattle.vhd_write.specs.declared.spans.Span.{Span}

-- the span of a write of so many bytes, from this sector on, into the disk with this footer
pub record IsSpanOf (g : Geometry) (footer : Footer) (at len : ℕ) (span : Span) : Type 0 where
  pub block : span.block ≡ g.block
  pub sector : span.sector ≡ at
  pub count : span.count ≡ len / 512
  pub most : span.end ≤ disk_blocks g footer

-- by this map block b has a slot of the image in the store, with the bits of the written sectors all set
abbrev pub IsFullNow : {S : Type 0} → Ghosts S → S → Head → Span → List (Option ℕ) → ℕ → Type 0
IsFullNow g s head span m b =
    IsFull g.told (layout_now (stored g s) head) (IsIn span.sector (512 * span.count)) (slot_of m) b (reads (held_in (stored g s) head.volume))

-- so has each block of the span
abbrev pub AreFullNow : {S : Type 0} → Ghosts S → S → Head → Span → List (Option ℕ) → Type 0
AreFullNow g s head span m = (b : ℕ) → span.first ≤ b → b < span.end → IsFullNow g s head span m b

-- in each block of the span the bits of the written sectors are set
abbrev pub AreSetIn : Layout → Span → Slots → Sectors → Type 0
AreSetIn l span m r = AreAllSet l (IsIn span.sector (512 * span.count)) m span.first span.end r

-- in each block of the span with a slot that is not below `fresh` they are
abbrev pub AreNewSetIn : Layout → Span → ℕ → Slots → Sectors → Type 0
AreNewSetIn l span fresh m r = AreAllNewSet l (IsIn span.sector (512 * span.count)) fresh m span.first span.end r

-- the write with this span is finished
abbrev pub IsFinishedIn : Layout → Span → Slots → Bool → Held → Held → Type 0
IsFinishedIn l span m held old new = IsFinished l (IsIn span.sector (512 * span.count)) m span.first span.end held old new
