-- The first sector of a header once it names another parent: the parent's unique id, time stamp and name are replaced,
-- and the checksum is that of all bytes that then stand in the header's two sectors.
use Rattle.std.specs.Prelude.{ℕ, ◌+◌, List, [], ◌++◌, take, sum, Some}
use Rattle.byteorder.specs.Endian.{big_bytes}
use Rattle.vhd_fields.specs.Checksums.{ones_complement}
use Rattle.vhd_fields.specs.Fields.{bytes_at}
use Rattle.vhd_fields.specs.ParentNames.{parent_bytes}
use Rattle.vhd_image.specs.declared.images.Body.{Body}
use Rattle.vhd_image.specs.Bodies.{volume_name}
use Rattle.vhd_image.specs.Made.{uid_of, stamp_of}

-- the 472 bytes behind the checksum: unique id, time stamp, four reserved bytes as they are, and the name's front
unfoldable pub link_tail : List ℕ → Body → List ℕ
link_tail front parent =
    uid_of parent ++ (big_bytes 4 (stamp_of parent) ++ (bytes_at 60 4 front ++ (take 448 (parent_bytes (Some (volume_name parent))) ++ [])))

-- the first sector, where `back` is the second one
unfoldable pub link_bytes : List ℕ → List ℕ → Body → List ℕ
link_bytes front back parent =
    take 36 front ++ (big_bytes 4 (ones_complement (sum (take 36 front) + sum (link_tail front parent ++ back))) ++ link_tail front parent)
