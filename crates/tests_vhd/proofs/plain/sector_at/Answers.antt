use Rattle.std.proofs.Common.{sym, ap, ◌∙◌, drop, length, ◌*◌, arith}
use Rattle.std.proofs.lemmas.List.{take_all}
use Rattle.sm_disk.specs.Sectors.{sector}
use Rattle.tests_vhd.proofs.plain.sector_at.Goals as goal

pub returns-then-rest-le512 : goal.returns-then-rest-le512
unfolding sector
returns-then-rest-le512 c =
    c.rest_of-rest.ensures ∙ sym (take_all 512 (drop (512 * c.args.place) c.args.bytes.now) (omega (arith, c.if-rest-le512.true, ap length c.rest_of-rest.ensures)))
