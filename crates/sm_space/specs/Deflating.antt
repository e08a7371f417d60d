-- What cutting the volume of a VHD image to its first extents asks, by which calls it is done, and what it makes of the shape (this
-- project's format).
use Rattle.std.specs.Prelude.{◌≡◌, ℕ, ◌<◌, ◌≤◌, false, List, [], ◌∷◌, Option}
use Rattle.common_laws.specs.Lists.{In}
use Rattle.sm_base.specs.declared.names.Name.{Name}
use Rattle.sm_machine.specs.Operations as op
use Rattle.sm_base.specs.declared.operations.Plan.TheVariants as plan
use Rattle.vg_meta.specs.Tables.{VolumeTable}
use Rattle.vg_meta.specs.declared.changes.Change.TheVariants.{Cut}
use Rattle.vg_volumes.specs.Sites.{Site}
use Rattle.vhd_chain.specs.declared.rows.TreeRow.{TreeRow}
use Rattle.sm_calls.specs.Calls.{Call, Commit}
use Rattle.sm_space.specs.Inflating.{footer_call}
use Rattle.sm_machine.specs.Collector.{collected, is_written}
use Rattle.sm_machine.specs.Shapes.{ImageRow, Shape, risen, thin_in, top}

-- an image has more extents than so many, and these have room for its slots; its disk is not attached for writing, so no more
-- slots come; and no operation of the collector runs, for which an image keeps room
pub record CanDeflate (s : Shape) (n : Name) (to : ℕ) : Type 0 where
  pub image : ImageRow
  pub there : In image s.images
  pub named : image.name ≡ n
  pub room : thin_in s (top image.slots) ≤ to
  pub fewer : to < image.extents
  pub unwritten : is_written s image ≡ false
  pub idle : s.op ≡ op.Idle

-- the shape, once the volume is cut to so many: what the machine's collector makes of it, by one commit
abbrev pub deflated : Name → ℕ → Shape → Shape
deflated n to s = record (collected (plan.Deflate n to) s) { sequence = risen s.sequence 1 }

-- the calls that cut a volume to so many extents: the footer is written at the end of these, and then the volume is cut
abbrev pub cut_calls : Site → VolumeTable → Name → Option TreeRow → ℕ → List Call
cut_calls s t n o to = footer_call s t n o to ∷ Commit (Cut n to) ∷ []
