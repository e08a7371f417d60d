-- How a text stands in a buffer that it was written into.
use Rattle.std.specs.Prelude.{◌≡◌, ℕ, ◌+◌, ◌<◌, ◌≤◌, ◌^◌, List, length}
use Rattle.std.specs.List.{flat_map}
use Rattle.sm_base.specs.Texts.{placed}
use Rattle.vg_meta.specs.declared.grammars.Grammar.{Grammar}
use Rattle.vg_meta.specs.Tables.{Row, extents_in}
use Rattle.vg_meta.specs.Text.{volume_by, volume_text}

-- the text was written at a place: all else is as it was, and the end is the place behind the text
pub record WritesText (at : ℕ) (text old new : List ℕ) (end : ℕ) : Type 0 where
  pub written : new ≡ placed at text old
  pub behind : end ≡ at + length text

-- the texts of volumes by a grammar, one behind the other
abbrev pub volumes_by : Grammar → List Row → List ℕ
volumes_by g rs = flat_map (volume_by g) rs

-- the texts of volumes, their extents by segments, one behind the other
abbrev pub volumes_text : List Row → List ℕ
volumes_text rs = flat_map volume_text rs

-- the volumes have a text by a grammar, and from this place on a buffer of so many bytes has room for it
pub record HaveRoom (g : Grammar) (rs : List Row) (at size : ℕ) : Type 0 where
  pub few : length (extents_in rs) < 2 ^ 32
  pub room : at + length (volumes_by g rs) ≤ size
