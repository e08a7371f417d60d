use Rattle.std.proofs.Common.{refl}
use Rattle.sm_base.specs.Numbers.{div_up}
use Rattle.common_laws.specs.Lists.{insert_by, numbers}
use Rattle.sm_log.specs.Logs.{changed, walk, united, either, with_log, marked}
use Rattle.sm_log.specs.Coded.{base64, packed}
use Rattle.sm_log.proofs.laws.example_unwritten.Goals as goal

pub returns : goal.returns
unfolding changed walk united either with_log marked insert_by numbers div_up base64 packed
returns c = refl
