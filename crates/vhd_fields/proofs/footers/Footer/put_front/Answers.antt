use Rattle.std.proofs.Common.{◌≡◌, ◌/◌, [], ◌++◌, take, codes, ◌∙◌, arith}
use Rattle.byteorder.specs.Endian.{big_bytes}
use Rattle.vhd_fields.specs.DiskGeometry.{geometry}
use Rattle.vhd_fields.specs.Footers.{footer_front}
use Rattle.vhd_fields.proofs.Joining.{twelve}
use Rattle.vhd_fields.proofs.footers.Footer.put_front.Goals as goal

pub returns-clause-written : goal.returns-clause-written
unfolding footer_front
returns-clause-written c =
    let f = c.args.self in
    let end : c.put_u32.result ≡ 64 = omega arith in
    let whole : take c.put_u32.result c.put_u32.new.to ≡ ((((((((((([] ++ codes "conectix") ++ big_bytes 4 2) ++ big_bytes 4 65536) ++ big_bytes 8 f.data_offset) ++ big_bytes 4 f.stamp) ++ f.creator) ++ big_bytes 4 f.creator_version) ++ big_bytes 4 f.host) ++ big_bytes 8 f.original) ++ big_bytes 8 f.current) ++ geometry (f.current / 512)) ++ big_bytes 4 f.kind = cc in
    rw (← end) (whole ∙ twelve (codes "conectix") (big_bytes 4 2) (big_bytes 4 65536) (big_bytes 8 f.data_offset) (big_bytes 4 f.stamp) f.creator (big_bytes 4 f.creator_version) (big_bytes 4 f.host) (big_bytes 8 f.original) (big_bytes 8 f.current) (geometry (f.current / 512)) (big_bytes 4 f.kind))
