use Rattle.vg_upgrade.proofs.RestLaws.{left_taken}
use Rattle.vg_upgrade.proofs.UpgradeLaws.{either, new_stands, old_stands, taken_none}
use Rattle.vg_upgrade.proofs.laws.law_upgrade.Goals as goal

pub returns-clause-old : goal.returns-clause-old
returns-clause-old c = λ size was h p at t image k v. old_stands k.going image k.enough k.allowed v

pub returns-clause-new : goal.returns-clause-new
returns-clause-new c = λ size was h p at t image k fits v. new_stands k.going image k.enough k.allowed v fits

pub returns-clause-either : goal.returns-clause-either
returns-clause-either c = λ size was h p at t image k. either k.going image k.enough k.allowed

pub returns-clause-begins : goal.returns-clause-begins
returns-clause-begins c = λ size h p at t stands old still. taken_none size h p at t stands old still

pub returns-clause-before : goal.returns-clause-before
returns-clause-before c = λ size was a b p at t image k enough fits fewer allowed. left_taken a b k enough fits fewer image allowed
