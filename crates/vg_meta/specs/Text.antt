-- The text of a table (this project's format). All numbers are big-endian. The text has the sequence number in
-- 8 bytes, at most 2^48 - 1, the number of volumes in 4 bytes, and the volumes. A volume has the length of its
-- name in 1 byte, its name, its flags in 1 byte (1 hidden, 2 fresh, or their sum), and its extents, in one of two
-- grammars. Listed, they are the number of the extents in 4 bytes, and each extent in 4 bytes. By segments, they are
-- the number of segments in 4 bytes, and each segment, its first extent and the number of its extents in 4 bytes each;
-- no segment is empty, and none begins where the one before it in the same volume ended.
use Rattle.std.specs.Prelude.{ℕ, ◌<◌, ◌^◌, List, [], ◌∷◌, ◌++◌, length, Bool, true, false}
use Rattle.std.specs.List.{flat_map}
use Rattle.byteorder.specs.Endian.{big_bytes}
use Rattle.sm_base.specs.Names.{spelling}
use Rattle.vg_meta.specs.declared.grammars.Grammar.{Grammar}
use Rattle.vg_meta.specs.declared.grammars.Grammar.TheVariants.{Listed, Segmented}
use Rattle.vg_meta.specs.Segments.{Segment, segments}
use Rattle.vg_meta.specs.Tables.{Row, VolumeTable, used}

-- the flags
abbrev pub flags_of : Bool → Bool → ℕ
flags_of false false = 0
flags_of true false = 1
flags_of false true = 2
flags_of true true = 3

-- extents, listed
abbrev pub listed_extents : List ℕ → List ℕ
listed_extents es = big_bytes 4 (length es) ++ flat_map (big_bytes 4) es

-- of each segment its first extent, and how many it has
abbrev pub numbers_of : List Segment → List ℕ
numbers_of ss = flat_map (λ s. s.first ∷ s.count ∷ []) ss

-- extents by a grammar
abbrev pub extents_by : Grammar → List ℕ → List ℕ
extents_by Listed es = listed_extents es
extents_by Segmented es = big_bytes 4 (length (segments es)) ++ flat_map (big_bytes 4) (numbers_of (segments es))

-- a volume by a grammar
unfoldable pub volume_by : Grammar → Row → List ℕ
volume_by g r = length (spelling r.name) ∷ spelling r.name ++ (flags_of r.hidden r.fresh ∷ extents_by g r.extents)

-- a volume, its extents by segments
abbrev pub volume_text : Row → List ℕ
volume_text r = volume_by Segmented r

-- a table, its extents by segments: the text that is written
unfoldable pub text : VolumeTable → List ℕ
text t = big_bytes 8 t.sequence ++ (big_bytes 4 (length t.volumes) ++ flat_map volume_text t.volumes)

-- a table, its extents listed: the text of version 1
unfoldable pub listed_text : VolumeTable → List ℕ
listed_text t = big_bytes 8 t.sequence ++ (big_bytes 4 (length t.volumes) ++ flat_map (volume_by Listed) t.volumes)

-- a table by a grammar
abbrev pub text_by : Grammar → VolumeTable → List ℕ
text_by Listed t = listed_text t
text_by Segmented t = text t

-- the numbers of volumes and of extents have room in their bytes
pub record HasText (t : VolumeTable) : Type 0 where
  pub volumes : length t.volumes < 2 ^ 32
  pub extents : length (used t) < 2 ^ 32
