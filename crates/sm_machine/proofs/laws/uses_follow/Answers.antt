use Rattle.sm_machine.proofs.Uses.{more_uses, less_uses, changed_uses, attached_uses, detached_uses}
use Rattle.sm_machine.proofs.laws.uses_follow.Goals as goal

pub returns : goal.returns
returns c = record {
  more = λ s i n w new. more_uses s i w new n;
  less = λ s x n w unused. less_uses s x w unused n;
  changed = changed_uses;
  attached = attached_uses;
  detached = detached_uses;
}
