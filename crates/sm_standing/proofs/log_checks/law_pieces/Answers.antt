use Rattle.sm_standing.proofs.LogPassLaws.{disk_of, pieces_of, stands_of}
use Rattle.sm_standing.proofs.log_checks.law_pieces.Goals as goal

pub returns-clause-pieces : goal.returns-clause-pieces
returns-clause-pieces c = pieces_of

pub returns-clause-stands : goal.returns-clause-stands
returns-clause-stands c = stands_of

pub returns-clause-there : goal.returns-clause-there
returns-clause-there c = disk_of
