use Rattle.sm_standing.proofs.PlainKept.{plain_sound, plain_kept}
use Rattle.sm_standing.proofs.plain.law_plain_kept.Goals as goal

pub returns-clause-sound : goal.returns-clause-sound
returns-clause-sound c = plain_sound

pub returns-clause-kept : goal.returns-clause-kept
returns-clause-kept c = plain_kept
