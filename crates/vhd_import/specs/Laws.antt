-- What the laws of an import speak of: files that agree up to a sector, and when a repository has room for a disk that a file holds.
use Rattle.std.specs.Prelude.{◌≡◌, ℕ, ◌≤◌, List, length}
use Rattle.std.specs.List.{filter_map}
use Rattle.common_laws.specs.Lists.{numbers}
use Rattle.sm_base.specs.Numbers.{IsGeometry, div_up}
use Rattle.vhd_stream.specs.Files.{File, sector_at}
use Rattle.vhd_import.specs.Puts.{Put}
use Rattle.vhd_import.specs.Room.{Target, block_of, distinct_blocks, extents_for}

-- two files have the same sectors up to sector k
abbrev pub AgreeUpTo : ℕ → File → File → Type 0
AgreeUpTo k x y = (j : ℕ) → j ≤ k → sector_at x j ≡ sector_at y j

-- sector s of a disk as what is put there
abbrev pub sector_put : List (List ℕ) → ℕ → Put
sector_put sectors s = record { sector = s; bytes = sector_at sectors s }

-- how many blocks of the repository hold another byte than zero, of a disk with these sectors
unfoldable pub filled_blocks : Target → List (List ℕ) → ℕ
filled_blocks t sectors = distinct_blocks t (filter_map (λ s. block_of t (sector_put sectors s)) (numbers 0 (length sectors)))

-- a disk with these sectors has at most as many blocks as a table has entries, and an image with a slot for each block that holds another
-- byte than zero has at most the extents that are free
pub record HasRoomFor (t : Target) (sectors : List (List ℕ)) : Type 0 where
  pub geometry : IsGeometry t.extent t.block t.entries
  pub size : div_up (length sectors) t.block ≤ t.entries
  pub space : extents_for t (filled_blocks t sectors) ≤ t.free
