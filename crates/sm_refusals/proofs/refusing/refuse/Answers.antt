use Rattle.std.proofs.Common.{inl, inr, ◌++◌, refl, sym, ◌∙◌}
use Rattle.common_laws.specs.Lists.{given}
use Rattle.common_laws.proofs.Lists.{none_first}
use Rattle.common_laws.proofs.Options.{none_of_some}
use Rattle.vg_meta.specs.Roomy.{table_alone}
use Rattle.sm_base.specs.declared.refusals.Refusal.TheVariants.{BadSize}
use Rattle.sm_machine.specs.Refusals.{is_bad_size, refusal}
use Rattle.sm_ready.specs.Known.{known, shape_in}
use Rattle.sm_ready.specs.Refusing.{name_causes, room_causes, size_causes}
use Rattle.sm_refusals.proofs.TurnLaws.{in_first, in_second, ungiven}
use Rattle.sm_refusals.proofs.refusing.refuse.Goals as goal

pub returns-then-is_some : goal.returns-then-is_some
unfolding refusal
returns-then-is_some c = record {
  exact = λ s same o tidy.
      let σ = shape_in s (table_alone c.args.table.now) (known c.args.memory.now) in
      in_first (name_causes σ c.args.command.now) (size_causes σ c.args.command.now ++ room_causes σ c.args.command.now) _ (sym c.is_some.ensures ∙ c.if-is_some.true) (c.refuse_by_name-by_name.ensures s _ o tidy);
}

pub returns-then-is_some-2 : goal.returns-then-is_some-2
unfolding refusal
returns-then-is_some-2 c = record {
  exact = λ s same o tidy.
      let σ = shape_in s (table_alone c.args.table.now) (known c.args.memory.now) in
      in_second (name_causes σ c.args.command.now) (size_causes σ c.args.command.now ++ room_causes σ c.args.command.now) _ _ (sym c.is_some.ensures ∙ c.if-is_some.false) (c.refuse_by_name-by_name.ensures s _ o tidy)
      (in_first (size_causes σ c.args.command.now) (room_causes σ c.args.command.now) _ (sym c.is_some-2.ensures ∙ c.if-is_some-2.true) (c.refuse_by_size-by_size.ensures _ s same o tidy));
}

pub returns : goal.returns
unfolding refusal
returns c = record {
  exact = λ s same o tidy.
      let σ = shape_in s (table_alone c.args.table.now) (known c.args.memory.now) in
      let none = sym c.is_some-2.ensures ∙ c.if-is_some-2.false in
      let sized = c.refuse_by_size-by_size.ensures _ s same o tidy in
      let good = ungiven (is_bad_size σ c.args.command.now) BadSize (none_first (size_causes σ c.args.command.now) (sym sized ∙ none_of_some _ none) (given (is_bad_size σ c.args.command.now) BadSize) (inr (inl refl))) in
      in_second (name_causes σ c.args.command.now) (size_causes σ c.args.command.now ++ room_causes σ c.args.command.now) _ _ (sym c.is_some.ensures ∙ c.if-is_some.false) (c.refuse_by_name-by_name.ensures s _ o tidy)
      (in_second (size_causes σ c.args.command.now) (room_causes σ c.args.command.now) _ _ none sized (c.refuse_by_room.ensures s same o tidy good));
}
