use Rattle.std.proofs.Common.{refl}
use Rattle.sm_base.specs.Numbers.{div_up}
use Rattle.common_laws.specs.Lists.{insert_by, numbers}
use Rattle.sm_log.specs.Logs.{changed, walk, united, either, with_log, marked}
use Rattle.sm_log.specs.Coded.{base64, packed}
use Rattle.sm_log.proofs.laws.example_later.Goals as goal

pub returns-clause-written : goal.returns-clause-written
unfolding changed walk united either with_log marked insert_by numbers div_up base64 packed
returns-clause-written c = refl

pub returns-clause-same : goal.returns-clause-same
unfolding changed walk united either with_log marked insert_by numbers div_up base64 packed
returns-clause-same c = refl

pub returns-clause-backwards : goal.returns-clause-backwards
unfolding changed walk united either with_log marked insert_by numbers div_up base64 packed
returns-clause-backwards c = refl

pub returns-clause-now : goal.returns-clause-now
unfolding changed walk united either with_log marked insert_by numbers div_up base64 packed
returns-clause-now c = refl
