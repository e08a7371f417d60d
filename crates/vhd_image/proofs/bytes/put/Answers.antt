use Rattle.std.proofs.Common.{◌+◌, ◌-◌, length, arith}
use Rattle.std.proofs.lemmas.Slice.{drop-put_mid}
use Rattle.vhd_image.proofs.bytes.put.Goals as goal

pub returns-clause-rest : goal.returns-clause-rest
returns-clause-rest c =
    let at = c.args.at in
    let next = at + length c.args.field.now in
    drop-put_mid at (next - at) c.args.to.now c.copy_from_slice.new.self next (omega arith) (omega arith) (omega arith)
