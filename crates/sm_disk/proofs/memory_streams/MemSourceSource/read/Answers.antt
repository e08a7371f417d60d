use Rattle.std.proofs.Common.{◌≡◌, ◌≤◌, ◌<◌, ◌+◌, ◌-◌, ◌∙◌, sym, ap, min, false, length, take, drop, arith, rules}
use Rattle.std.proofs.lemmas.List.{drop-drop, length-drop}
use Rattle.sm_disk.specs.MemoryStreams.{is_over, at_most, given_by}
use Rattle.sm_disk.proofs.StreamLaws.{takes_by_copy, none_left}
use Rattle.sm_disk.proofs.memory_streams.MemSourceSource.read.Goals as goal

pub returns-clause-takes : goal.returns-clause-takes
returns-clause-takes c =
    let given = c.self.inside.given in
    let n = c.at_most-n.result in
    let within : given + n ≤ length c.self.inside.bytes.items = omega (arith, c.at_most-n.ensures.within, c.self.invariant) in
    let copied = c.copy_from_slice.ensures.after ∙ ap (λ l. take (given + n - given) (drop given l)) c.deref.ensures.value in
    rw (← c.self.view_is) (takes_by_copy c.self.inside.bytes.items given n c.args.to.now _ within copied)

pub returns-clause-end : goal.returns-clause-end
returns-clause-end c = λ none room.
    let items = c.self.inside.bytes.items in
    let given = c.self.inside.given in
    let rest : c.len.result - given ≡ length (drop given items) = omega (arith, length-drop given items) in
    let more : is_over c.args.self.now.until ≡ false = search rules in
    let some : 0 < c.args.self.now.chunk = rw (← c.self.view_is) c.self.invariant.1 in
    let number : c.at_most-n.result ≡ given_by c.args.self.now (length c.args.to.now) =
    rw (← c.self.view_is)
    (c.at_most-n.ensures.number
    ∙ ap (at_most c.self.inside.until) (c.min-2.ensures ∙ ap (min c.min.result) rest ∙ ap (λ k. min k (length (drop given items))) c.min.ensures)) in
    none_left c.args.self.now (length c.args.to.now) more some room (sym number ∙ none)

pub returns-clause-rest : goal.returns-clause-rest
returns-clause-rest c = rw (← c.self.view_is, c.after-self-inside.ensures, c.in_ok-answer.ensures.cause.1, drop-drop)
