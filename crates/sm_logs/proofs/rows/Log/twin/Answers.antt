use Rattle.std.proofs.Common.{◌≡◌, Bool, List, false, replicate, ap, ◌∙◌}
use Rattle.sm_log.specs.Logs.{Log, either}
use Rattle.sm_logs.proofs.UniteLaws.{either_clear}
use Rattle.sm_logs.proofs.rows.Log.twin.Goals as goal

pub returns : goal.returns
returns c =
    let own : List Bool = c.self.inside.bits in
    let bits : c.add.new.self ≡ own =
    c.add.ensures ∙ ap (λ (b : List Bool). either b own) (c.in_ok-bits.ensures ∙ ap (λ n. replicate {A = Bool} n false) c.pieces.ensures) ∙ either_clear own in
    c.new-2.ensures
    ∙ ap (λ (b : List Bool). record { disk = c.args.twin; extents = c.self.inside.extents; tag = c.args.tag; since = c.self.inside.since; bits = b }) bits
    ∙ ap (λ (l : Log). record l { disk = c.args.twin; tag = c.args.tag }) c.self.view_is
