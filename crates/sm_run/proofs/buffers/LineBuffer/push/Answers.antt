use Rattle.std.proofs.Common.{◌≡◌, ◌≤◌, ◌+◌, ◌-◌, ◌++◌, min, length, take, rules, arith, ap, ◌∙◌}
use Rattle.sm_machine.specs.Lines.{line_limit}
use Rattle.sm_run.specs.Parts.{front_of}
use Rattle.sm_run.proofs.LineLaws.{front_of-fill}
use Rattle.sm_run.proofs.buffers.LineBuffer.push.Goals as goal

pub returns : goal.returns
returns c =
    let items = c.self.inside.bytes.items in
    let more = c.args.bytes.now in
    let room : length items ≤ line_limit + 1 = c.self.invariant.1 in
    let count : c.min-count.result ≡ min (length more) (line_limit + 1 - length items) = omega (arith, c.min-count.ensures, c.len.ensures, c.self.invariant.0) in
    let appended : c.extend_from_slice.new.self.items ≡ items ++ take c.min-count.result more = search rules in
    appended ∙ front_of-fill items more c.min-count.result room count ∙ ap (λ l. front_of (l ++ more)) c.self.view_is
