-- The images of the worked repositories as memory has them: extents of 16 KiB, blocks of 4 KiB and 64 entries. A VHD image
-- of 64 KiB lies in five extents, which are 160 sectors, and a raw one of 16 KiB in one. Heads are written out by field.
use Rattle.std.specs.Prelude.{ℕ, Bool, false, List, [], ◌∷◌, replicate, codes, refl, Option, Some, None}
use Rattle.std.proofs.Common.{lit≤}
use lib.Count.{ones}
use Rattle.sm_base.specs.Numbers.{IsGeometry}
use Rattle.sm_base.specs.declared.names.Name.{Name}
use Rattle.sm_base.specs.declared.names.Name.TheVariants as name
use Rattle.sm_base.specs.declared.sizes.Geometry.{Geometry}
use Rattle.vg_volumes.specs.Sites.{Site}
use Rattle.vhd_fields.specs.declared.footers.Footer.{Footer}
use Rattle.vhd_fields.specs.declared.headers.Header.{Header}
use Rattle.vhd_volumes.specs.declared.heads.Head.{Head}
use Rattle.vhd_image.specs.declared.images.Body.TheVariants.{Raw, Vhd}
use Rattle.vhd_chain.specs.declared.rows.TreeRow.{TreeRow}
use Rattle.examples_moments.specs.WorkedImages.{child_footer, child_header}

-- ---- the sizes

pub sizes_in_range : IsGeometry 32 8 64
unfolding ones
sizes_in_range = record {
  extent_power = refl;
  extent_least = lit≤ tt;
  extent_most = lit≤ tt;
  block_power = refl;
  block_least = lit≤ tt;
  block_most = lit≤ tt;
  within = lit≤ tt;
  entries_least = lit≤ tt;
  entries_most = lit≤ tt;
}

abbrev pub sizes : Geometry
sizes = record { extent = 32; block = 8; entries = 64; in_range = sizes_in_range }

-- a group of so many extents, and one of 64
abbrev pub site_of : ℕ → Site
site_of count = record { geometry = sizes; count = count; layout = 0; identity = replicate 16 9; sectors = 8192 }

abbrev pub site : Site
site = site_of 64

-- ---- heads

-- of an image without a parent, as its footer and its header were written out by the byte
abbrev pub top_footer : Footer
top_footer = record {
  stamp = 0;
  creator = codes "lvhd";
  creator_version = 65536;
  host = 0;
  original = 65536;
  current = 65536;
  kind = 3;
  data_offset = 512;
  uid = 108 ∷ 118 ∷ 104 ∷ 100 ∷ 0 ∷ 0 ∷ 128 ∷ 0 ∷ 128 ∷ 0 ∷ 0 ∷ 0 ∷ 0 ∷ 0 ∷ 0 ∷ 2 ∷ [];
}

abbrev pub top_header : Header
top_header = record {
  table_offset = 1536;
  entries = 64;
  block = 4096;
  parent_uid = replicate 16 0;
  parent_stamp = 0;
  parent = None;
}

abbrev pub top_head : List ℕ → Head
top_head u = record { volume = name.Vhd u; footer = top_footer; header = top_header }

-- of an image over a parent
abbrev pub head_over : Name → List ℕ → Head
head_over parent u = record { volume = name.Vhd u; footer = child_footer; header = child_header parent }

-- ---- maps

-- no block has a slot; block 0 alone has one
abbrev pub no_slots : List (Option ℕ)
no_slots = replicate 64 None

abbrev pub first_slot : List (Option ℕ)
first_slot = Some 0 ∷ replicate 63 None

-- ---- rows

abbrev pub vhd_row : Bool → Head → List (Option ℕ) → TreeRow
vhd_row hidden head slots = record { image = Vhd head slots; hidden = hidden; extents = 5 }

abbrev pub raw_row : List ℕ → TreeRow
raw_row u = record { image = Raw (name.Raw u) 32; hidden = false; extents = 1 }
