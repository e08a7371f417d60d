use Rattle.std.proofs.Common.{◌≡◌, [], ◌++◌, take, replicate, ap, ◌∙◌, arith}
use Rattle.vg_layout.specs.Sectors.{number, sealed, header_front, header_sector, header_cookie}
use Rattle.vg_layout.specs.Fields.{pointer}
use Rattle.vg_layout.proofs.SectorLaws.{five}
use Rattle.vg_layout.proofs.headers.TableHeader.write.Goals as goal

pub returns : goal.returns
unfolding header_sector header_front
returns c =
    let h = pointer c.args.self.now in
    let end : c.put.result ≡ 508 = omega arith in
    let whole : take c.put.result c.put.new.to ≡ (((([] ++ header_cookie) ++ number h.slot) ++ number h.size) ++ number h.total) ++ replicate 488 0 = cc in
    c.seal.ensures ∙ ap sealed (rw (← end) (whole ∙ five header_cookie (number h.slot) (number h.size) (number h.total) (replicate 488 0)))
