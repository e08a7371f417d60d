-- A steady image of either kind.
use Rattle.std.specs.Prelude.{◌≡◌, ℕ, ◌<◌}
use Rattle.sm_base.specs.declared.sizes.Geometry.{Geometry}
use Rattle.sm_base.specs.declared.names.Name.{Name}
use Rattle.sm_disk.specs.Held.{Held}
use Rattle.vg_meta.specs.Tables.{rows, extents_of}
use Rattle.vg_volumes.specs.Stored.{Stored, sectors_in, held_in}
use Rattle.vg_volumes.specs.Volumes.{IsElsewhere, spot}
use Rattle.vhd_volumes.specs.Steady.{IsSteadyIn}
use Rattle.vhd_image.specs.Bodies.{volume_name}
use Rattle.vhd_image.specs.declared.images.Body.{Body}
use Rattle.vhd_image.specs.declared.images.Body.TheVariants.{Raw, Vhd}

-- the image is steady in so many sectors; a raw one has them all
abbrev pub IsSteady : Geometry → ℕ → Held → Body → Type 0
IsSteady g sectors h (Raw volume size) = size ≡ sectors
IsSteady g sectors h (Vhd head m) = IsSteadyIn g sectors h head m

-- so in its volume of a store
abbrev pub ImageIsSteady : Stored → Body → Type 0
ImageIsSteady x body = IsSteady x.site.geometry (sectors_in x (volume_name body)) (held_in x (volume_name body)) body

-- no sector of the one volume is one of the other
abbrev pub AreApart : Stored → Name → Name → Type 0
AreApart x n other = (p : ℕ) → p < sectors_in x n → IsElsewhere x.site.geometry.extent (extents_of (rows x.table other)) (spot x.site.geometry.extent (extents_of (rows x.table n)) p)
