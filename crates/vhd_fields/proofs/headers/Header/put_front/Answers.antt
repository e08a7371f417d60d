use Rattle.std.proofs.Common.{◌≡◌, ◌-◌, ◌^◌, [], ◌++◌, take, codes, ◌∙◌, arith}
use Rattle.byteorder.specs.Endian.{big_bytes}
use Rattle.vhd_fields.specs.Headers.{header_front}
use Rattle.vhd_fields.proofs.Joining.{six}
use Rattle.vhd_fields.proofs.headers.Header.put_front.Goals as goal

pub returns-clause-written : goal.returns-clause-written
unfolding header_front
returns-clause-written c =
    let h = c.args.self in
    let end : c.put_u32.result ≡ 36 = omega arith in
    let whole : take c.put_u32.result c.put_u32.new.to ≡ ((((([] ++ codes "cxsparse") ++ big_bytes 8 (2 ^ 64 - 1)) ++ big_bytes 8 h.table_offset) ++ big_bytes 4 65536) ++ big_bytes 4 h.entries) ++ big_bytes 4 h.block = cc in
    rw (← end) (whole ∙ six (codes "cxsparse") (big_bytes 8 (2 ^ 64 - 1)) (big_bytes 8 h.table_offset) (big_bytes 4 65536) (big_bytes 4 h.entries) (big_bytes 4 h.block))
