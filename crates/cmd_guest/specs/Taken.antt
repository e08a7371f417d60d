-- What a call answers, as a command has it answered.
use Rattle.std.specs.Prelude.{Result, Ok, Err}
use Rattle.sm_base.specs.declared.faults.Failed.{Failed}
use Rattle.sm_machine.specs.declared.replies.Reply.{Reply}

-- a call that has one answer where it succeeds
abbrev pub answered : {U : Type 0} → Reply → Result U Failed → Result Reply Failed
answered r (Ok x) = Ok r
answered r (Err e) = Err e
