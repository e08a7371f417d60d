use Rattle.lvhd_command.proofs.FormattedLaws.{formatted_kept, formatted_empty, device_kept, device_empty}
use Rattle.lvhd_command.proofs.TruthLaws.{device_truthful}
use Rattle.lvhd_command.proofs.laws.law_formatted.Goals as goal

pub returns-clause-kept : goal.returns-clause-kept
returns-clause-kept c = formatted_kept

pub returns-clause-empty : goal.returns-clause-empty
returns-clause-empty c = formatted_empty

pub returns-clause-device : goal.returns-clause-device
returns-clause-device c = device_kept

pub returns-clause-device_empty : goal.returns-clause-device_empty
returns-clause-device_empty c = device_empty

pub returns-clause-truthful : goal.returns-clause-truthful
returns-clause-truthful c = device_truthful
