-- What the code says of the first sectors of a file.
use Rattle.std.specs.Prelude.{◌≡◌, true, false}
use Rattle.vhd_stream.specs.Files.{File, FileLayout}
use Rattle.vhd_import.specs.declared.heads.Beginning.{Beginning}
use Rattle.vhd_import.specs.declared.heads.Beginning.TheVariants.{Differencing, Dynamic, Other}
use Rattle.vhd_import.specs.declared.heads.FileNumbers.{FileNumbers}
use Rattle.vhd_import.specs.Heads.{footer_at, is_dynamic, is_kind, size_at}

-- a file begins as a dynamic one of so many sectors, as a differencing one, or as neither
abbrev pub BeginsSo : Beginning → File → Type 0
BeginsSo (Dynamic sectors) file = (is_dynamic file ≡ true) × (size_at file ≡ sectors)
BeginsSo Differencing file = (is_dynamic file ≡ false) × (is_kind 4 (footer_at file 0) ≡ true)
BeginsSo Other file = (is_dynamic file ≡ false) × (is_kind 4 (footer_at file 0) ≡ false)

-- the numbers of a dynamic file as a layout
abbrev pub layout_by : FileNumbers → FileLayout
layout_by n = record { table = n.table; entries = n.entries; block = n.block; blocks = n.blocks }
