use Rattle.sm_log.proofs.BitLaws.{marked-keeps, marked-sets, marked-others, marked-long, bit-either}
use Rattle.sm_log.proofs.TellLaws.{within_touched}
use Rattle.sm_log.proofs.laws.law_marks.Goals as goal

pub returns : goal.returns
returns c = record {
  keeps = marked-keeps;
  sets = marked-sets;
  others = marked-others;
  same = marked-long;
  either = bit-either;
  touched = within_touched;
}
