use Rattle.std.proofs.Common.{◌≡◌, ◌≢◌, ◌≤◌, ◌-◌, ◌∙◌, All, List, ℕ, length, take, drop, ap, subst, rules, arith}
use Rattle.std.proofs.lemmas.List.{length-take}
use Rattle.sm_disk.proofs.StreamLaws.{stops_by_read, take-behind}
use Rattle.sm_disk.proofs.memory_streams.MemSourceSource.read_until.Goals as goal

pub returns-clause-stops : goal.returns-clause-stops
returns-clause-stops c =
    let items = c.self.inside.bytes.items in
    let given = c.self.inside.given in
    let through = c.length_through.result in
    let left : take (length c.deref.result.now - given) (drop given c.deref.result.now) ≡ c.args.self.now.left =
    ap (λ l. take (length l - given) (drop given l)) c.deref.ensures.value ∙ take-behind items given ∙ ap (λ s. s.left) c.self.view_is in
    let P : List ℕ → Type 0 = λ l. All (λ byte. byte ≢ c.args.last) (take (through - 1) l) in
    let before = subst P left c.length_through.ensures.before in
    let kept : length c.read.new.to ≡ length (take c.min-most.result c.args.to.now) = search rules in
    let long : length c.read.new.to ≤ through = omega (arith, kept, length-take c.min-most.result c.args.to.now, c.min-most.ensures) in
    stops_by_read c.read.result c.args.self.now.left c.read.new.to (drop c.min-most.result c.args.to.now) _ c.args.last through c.read.ensures.within c.read.ensures.takes long before
