use Rattle.std.proofs.Common.{ap, sym}
use Rattle.sm_script.proofs.PieceLaws.{Writes-same}
use Rattle.sm_machine.specs.Replies.{by_spaces, plan_parts, reply_parts}
use Rattle.sm_machine.specs.declared.replies.Reply.TheVariants as reply
use Rattle.sm_script.proofs.steps.write_plan.Goals as goal

pub returns-in-Abandon : goal.returns-in-Abandon
unfolding reply_parts plan_parts
returns-in-Abandon g c = Writes-same (ap (λ p. by_spaces (reply_parts (reply.Gc p c.args.op.now))) (sym c.in-Abandon.is)) c.write_step.ensures

pub returns-in-Copy : goal.returns-in-Copy
unfolding reply_parts plan_parts
returns-in-Copy g c = Writes-same (ap (λ p. by_spaces (reply_parts (reply.Gc p c.args.op.now))) (sym c.in-Copy.is)) c.write_copy.ensures

pub returns-in-Turn : goal.returns-in-Turn
unfolding reply_parts plan_parts
returns-in-Turn g c = Writes-same (ap (λ p. by_spaces (reply_parts (reply.Gc p c.args.op.now))) (sym c.in-Turn.is)) c.write_step-in-Turn.ensures

pub returns-in-RelinkOne : goal.returns-in-RelinkOne
unfolding reply_parts plan_parts
returns-in-RelinkOne g c = Writes-same (ap (λ p. by_spaces (reply_parts (reply.Gc p c.args.op.now))) (sym c.in-RelinkOne.is)) c.write_choice.ensures

pub returns-in-Finish : goal.returns-in-Finish
unfolding reply_parts plan_parts
returns-in-Finish g c = Writes-same (ap (λ p. by_spaces (reply_parts (reply.Gc p c.args.op.now))) (sym c.in-Finish.is)) c.write_step-in-Finish.ensures

pub returns-in-Swap : goal.returns-in-Swap
unfolding reply_parts plan_parts
returns-in-Swap g c = Writes-same (ap (λ p. by_spaces (reply_parts (reply.Gc p c.args.op.now))) (sym c.in-Swap.is)) c.write_step-in-Swap.ensures

pub returns-in-Remove : goal.returns-in-Remove
unfolding reply_parts plan_parts
returns-in-Remove g c = Writes-same (ap (λ p. by_spaces (reply_parts (reply.Gc p c.args.op.now))) (sym c.in-Remove.is)) c.write_choice-in-Remove.ensures

pub returns-in-Deflate : goal.returns-in-Deflate
unfolding reply_parts plan_parts
returns-in-Deflate g c = Writes-same (ap (λ p. by_spaces (reply_parts (reply.Gc p c.args.op.now))) (sym c.in-Deflate.is)) c.write_choice-in-Deflate.ensures

pub returns-in-Begin : goal.returns-in-Begin
unfolding reply_parts plan_parts
returns-in-Begin g c = Writes-same (ap (λ p. by_spaces (reply_parts (reply.Gc p c.args.op.now))) (sym c.in-Begin.is)) c.write_choice-in-Begin.ensures

pub returns-in-Leaf : goal.returns-in-Leaf
unfolding reply_parts plan_parts
returns-in-Leaf g c = Writes-same (ap (λ p. by_spaces (reply_parts (reply.Gc p c.args.op.now))) (sym c.in-Leaf.is)) c.write_choice-in-Leaf.ensures

pub returns-in-Live : goal.returns-in-Live
unfolding reply_parts plan_parts
returns-in-Live g c = Writes-same (ap (λ p. by_spaces (reply_parts (reply.Gc p c.args.op.now))) (sym c.in-Live.is)) c.write_choice-in-Live.ensures

pub returns-in-Blocked : goal.returns-in-Blocked
unfolding reply_parts plan_parts
returns-in-Blocked g c = Writes-same (ap (λ p. by_spaces (reply_parts (reply.Gc p c.args.op.now))) (sym c.in-Blocked.is)) c.write_blocked.ensures

pub returns-in-Idle : goal.returns-in-Idle
unfolding reply_parts plan_parts
returns-in-Idle g c = Writes-same (ap (λ p. by_spaces (reply_parts (reply.Gc p c.args.op.now))) (sym c.in-Idle.is)) c.write_alone.ensures
