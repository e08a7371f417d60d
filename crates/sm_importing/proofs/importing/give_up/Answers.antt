use Rattle.sm_base.specs.declared.names.Name.TheVariants.{Vhd}
use Rattle.vg_meta.specs.declared.changes.Change.TheVariants.{Remove}
use Rattle.vg_volumes.proofs.StoredLaws.{reads_none}
use Rattle.std.proofs.Common.{refl}
use Rattle.sm_ready.proofs.ChainLaws.{err_not_ok}
use Rattle.sm_ready.proofs.GoneLaws.{goes_alone}
use Rattle.sm_importing.proofs.ImportLaws.{beside_now, between_gone, can_remove, ends_change, ends_cut, remove_allowed}
use Rattle.sm_importing.proofs.importing.give_up.Goals as goal

pub commit-requires : goal.commit-requires
commit-requires g c = can_remove c.requires.importing

pub returns-in_err-commit-clause-ends : goal.returns-in_err-commit-clause-ends
returns-in_err-commit-clause-ends g c = λ a since told.
    let h = c.requires.importing in
    let allows = remove_allowed h in
    ends_cut (Remove (Vhd c.args.disk.now)) since h allows (goes_alone h.orderly.table (beside_now (Remove (Vhd c.args.disk.now)) h allows)) (reads_none _) refl (λ t image l. l)
    _ (λ fine. err_not_ok _ tt c.from_residual.ensures.0 fine) c.in_err-commit.ensures.cut told

pub returns-clause-session : goal.returns-clause-session
returns-clause-session g c = between_gone c.requires.importing (remove_allowed c.requires.importing) c.in_ok-commit.ensures.run

pub returns-clause-ends : goal.returns-clause-ends
returns-clause-ends g c = λ a since told.
    let h = c.requires.importing in
    let allows = remove_allowed h in
    ends_change (Remove (Vhd c.args.disk.now)) since h allows (goes_alone h.orderly.table (beside_now (Remove (Vhd c.args.disk.now)) h allows)) (reads_none _) refl (λ t image l. l)
    _ c.in_ok-commit.ensures.run told
