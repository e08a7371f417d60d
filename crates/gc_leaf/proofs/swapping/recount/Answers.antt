use Rattle.std.proofs.Common.{sym, subst, ◌∙◌}
use Rattle.sm_machine.proofs.Told.{told_live}
use Rattle.gc_leaf.specs.Swapping.{CountsAs}
use Rattle.gc_leaf.proofs.SwapSteps.{counts_other}
use Rattle.gc_leaf.proofs.swapping.recount.Goals as goal

pub returns-in-Live : goal.returns-in-Live
returns-in-Live c =
    let e = c.swapped.ensures in
    let live = told_live _ _ _ _ _ (sym c.told.ensures ∙ c.in-Live.is) in
    subst (λ o. CountsAs o c.args.parent.now c.args.attached.now c.swapped.new.self) (sym live.1) (record { disks = e.disks; gone = e.parent; others = e.others; room = e.room })

pub returns-in_default : goal.returns-in_default
returns-in_default c = counts_other _ _ _ (λ l p cursor dirty is. c.in_default.not-Live l p cursor dirty (c.told.ensures ∙ is))
