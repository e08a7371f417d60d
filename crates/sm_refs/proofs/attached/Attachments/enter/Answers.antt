-- A disk that is not attached goes last.
use Rattle.std.proofs.Common.{[], ◌∷◌, ◌++◌, ap, ◌∙◌}
use Rattle.indexmap.proofs.CallerLemmas.{insert_entry-new}
use Rattle.sm_refs.specs.Attached.{Attached, same_uuid, mode_of}
use Rattle.sm_refs.proofs.attached.Attachments.enter.Goals as goal

pub returns-clause-disks : goal.returns-clause-disks
unfolding same_uuid
returns-clause-disks c =
    c.in-Ok.ensures.entries
    ∙ insert_entry-new same_uuid c.self.inside.disks c.args.disk c.args.mode (ap (λ (a : Attached). mode_of a c.args.disk) c.self.view_is ∙ c.requires.not_attached)
    ∙ ap (λ (a : Attached). a.disks ++ (c.args.disk, c.args.mode) ∷ []) c.self.view_is
