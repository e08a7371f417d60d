use Rattle.std.proofs.Common.{length, sym, ap, ◌∙◌}
use Rattle.sm_disk.proofs.SectorLaws.{length-sector}
use Rattle.tests_vhd.proofs.plain.footer_in.Goals as goal

pub copy_from_slice-requires : goal.copy_from_slice-requires
copy_from_slice-requires c = sym (ap length c.sector_at.ensures ∙ length-sector c.args.bytes.now c.args.place c.requires.within)
