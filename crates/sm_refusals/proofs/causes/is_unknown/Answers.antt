use Rattle.std.proofs.Common.{◌≡◌, ◌||◌, Bool, true, false, is_none, List, ℕ, Option, sym, ap, ◌∙◌}
use Rattle.sm_machine.specs.Refusals.{also_named, is_unknown, named, of_some}
use Rattle.sm_machine.specs.Shapes.{disk_record}
use Rattle.sm_ready.specs.Known.{known, shape_in}
use Rattle.sm_refusals.proofs.causes.is_unknown.Goals as goal

pub returns-then-is_missing : goal.returns-then-is_missing
unfolding is_unknown
returns-then-is_missing c = λ s t o tidy.
    let unknown : Option (List ℕ) → Bool = of_some (λ u. is_none (disk_record u (shape_in s t (known c.args.memory.now)))) in
    let first : unknown (also_named c.args.command.now) ≡ true = sym (ap unknown c.also_named.ensures) ∙ sym (c.is_missing.ensures s t o tidy) ∙ c.if-is_missing.true in
    c.if-is_missing.true ∙ sym (ap (λ b. b || unknown (named c.args.command.now)) first)

pub returns-else-is_missing : goal.returns-else-is_missing
unfolding is_unknown
returns-else-is_missing c = λ s t o tidy.
    let unknown : Option (List ℕ) → Bool = of_some (λ u. is_none (disk_record u (shape_in s t (known c.args.memory.now)))) in
    let first : unknown (also_named c.args.command.now) ≡ false = sym (ap unknown c.also_named.ensures) ∙ sym (c.is_missing.ensures s t o tidy) ∙ c.if-is_missing.false in
    c.is_missing-else-is_missing.ensures s t o tidy ∙ ap unknown c.named.ensures ∙ sym (ap (λ b. b || unknown (named c.args.command.now)) first)
