use Rattle.std.proofs.Common.{sym, subst, ◌∙◌, ap}
use Rattle.std.specs.List.{find}
use Rattle.vg_meta.specs.Roomy.{RoomyRow, table_alone}
use Rattle.sm_ready.specs.Repairs.{IsNewVolume}
use Rattle.sm_ready.proofs.NewVolumeLaws.{new_first, new_none}
use Rattle.sm_checks.proofs.OpeningLaws.{none_only}
use Rattle.sm_recover.proofs.removals.first_new.Goals as goal

pub returns-in_err-volume-clause-none : goal.returns-in_err-volume-clause-none
returns-in_err-volume-clause-none c =
    none_only c.from_residual.result (λ none. new_none c.args.table.now (c.in_err-volume.ensures ∙ ap (find (λ (h : RoomyRow). h.row.fresh)) c.volumes.ensures.volumes))

pub returns-clause-some : goal.returns-clause-some
returns-clause-some c =
    subst (IsNewVolume (table_alone c.args.table.now)) (sym c.name.ensures.name)
    (new_first c.args.table.now c.in_ok-volume.volume.now c.volumes.ensures.table (c.in_ok-volume.ensures ∙ ap (find (λ (h : RoomyRow). h.row.fresh)) c.volumes.ensures.volumes))
