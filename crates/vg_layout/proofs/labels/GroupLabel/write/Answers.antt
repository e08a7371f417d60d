use Rattle.std.proofs.Common.{◌≡◌, [], ◌++◌, take, replicate, ap, ◌∙◌, arith}
use Rattle.vg_layout.specs.Sectors.{number, sealed, label_front, label_sector, label_cookie}
use Rattle.vg_layout.specs.Fields.{plate}
use Rattle.vg_layout.proofs.SectorLaws.{nine}
use Rattle.vg_layout.proofs.labels.GroupLabel.write.Goals as goal

pub returns : goal.returns
unfolding label_sector label_front
returns c =
    let l = plate c.args.self.now in
    let v = c.args.version in
    let end : c.put.result ≡ 508 = omega arith in
    let whole : take c.put.result c.put.new.to ≡ (((((((([] ++ label_cookie) ++ number v) ++ l.identity) ++ number l.extent) ++ number l.block) ++ number l.entries) ++ number l.count) ++ number l.layout) ++ replicate 460 0 = cc in
    c.seal.ensures ∙ ap sealed (rw (← end) (whole ∙ nine label_cookie (number v) l.identity (number l.extent) (number l.block) (number l.entries) (number l.count) (number l.layout) (replicate 460 0)))
