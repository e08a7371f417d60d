use Rattle.std.proofs.Common.{List, length, Some, refl, sym, ap, ap₂, ◌∙◌, arith}
use Rattle.std.proofs.lemmas.Bool.{le-ltb, lt-ltb}
use Rattle.std.proofs.lemmas.List.{length-map}
use Rattle.sm_base.specs.declared.refusals.Refusal.TheVariants.{ChainTooLong, TooMany, NoSpace}
use Rattle.vg_meta.specs.Roomy.{table_alone}
use Rattle.vg_meta.specs.Tables.{free as free_of}
use Rattle.vhd_chain.specs.declared.rows.TreeRow.{TreeRow}
use Rattle.sm_machine.specs.Refusals.{lacks_space, need}
use Rattle.sm_machine.specs.Shapes.{free}
use Rattle.sm_ready.specs.Known.{known, machine_row, shape_in}
use Rattle.sm_ready.proofs.NeedLaws.{need_few}
use Rattle.sm_ready.proofs.RefusalLaws.{few_rows}
use Rattle.sm_ready.proofs.SumLaws.{free_counted}
use Rattle.sm_refusals.proofs.TurnLaws.{caught, passed_by}
use Rattle.sm_refusals.proofs.refusing.refuse_by_room.Goals as goal

pub returns-then-is_deep : goal.returns-then-is_deep
returns-then-is_deep c = λ s same o tidy good. ap (λ n. Some (ChainTooLong n)) (c.fork_depth.ensures s _ o tidy) ∙ caught _ _ _ (sym (c.is_deep.ensures s _ o tidy) ∙ c.if-is_deep.true)

pub returns-then-is_too_many : goal.returns-then-is_too_many
unfolding shape_in
returns-then-is_too_many c = λ s same o tidy good.
    let m = known c.args.memory.now in
    let rows = ap (λ (rs : List TreeRow). length rs) c.rows.ensures.rows in
    let have = c.count_of.ensures (omega (arith, rows, few_rows s _ m o)) ∙ rows ∙ sym (length-map m.rows machine_row) in
    ap₂ (λ n k. Some (TooMany n k)) have c.images_needed.ensures.is ∙ passed_by _ _ _ _ (sym (c.is_deep.ensures s _ o tidy) ∙ c.if-is_deep.false) (caught _ _ _ (sym (c.is_too_many.ensures s _ o tidy) ∙ c.if-is_too_many.true))

pub returns-then-is_spent : goal.returns-then-is_spent
returns-then-is_spent c = λ s same o tidy good. passed_by _ _ _ _ (sym (c.is_deep.ensures s _ o tidy) ∙ c.if-is_deep.false) (passed_by _ _ _ _ (sym (c.is_too_many.ensures s _ o tidy) ∙ c.if-is_too_many.false) (caught _ _ _ (sym (c.is_spent.ensures s _) ∙ c.if-is_spent.true)))

pub returns-then-need-eq0 : goal.returns-then-need-eq0
unfolding lacks_space
returns-then-need-eq0 c = λ s same o tidy good.
    let t = table_alone c.args.table.now in
    let m = known c.args.memory.now in
    let needed = c.need-need.ensures s t same.same_sizes o tidy good in
    passed_by _ _ _ _ (sym (c.is_deep.ensures s _ o tidy) ∙ c.if-is_deep.false) (passed_by _ _ _ _ (sym (c.is_too_many.ensures s _ o tidy) ∙ c.if-is_too_many.false) (passed_by _ _ _ _ (sym (c.is_spent.ensures s _) ∙ c.if-is_spent.false) (passed_by _ _ _ _ (le-ltb (free (shape_in s t m)) (need (shape_in s t m) c.args.command.now) (omega (arith, needed, c.if-need-eq0.true))) refl)))

pub returns-then-from-need : goal.returns-then-from-need
unfolding lacks_space
returns-then-from-need c = λ s same o tidy good.
    let t = table_alone c.args.table.now in
    let m = known c.args.memory.now in
    let needed = c.need-need.ensures s t same.same_sizes o tidy good in
    let left = c.free-free.ensures.free ∙ ap (λ n. length (free_of n t)) (sym same.same_count) ∙ sym (free_counted s t m tidy.none_new o) in
    let counted = c.count_of-then-from-need.ensures (omega (arith, needed, need_few s t m c.args.command.now o good)) in
    ap₂ (λ n k. Some (NoSpace n k)) (counted ∙ needed) left
    ∙ passed_by _ _ _ _ (sym (c.is_deep.ensures s _ o tidy) ∙ c.if-is_deep.false) (passed_by _ _ _ _ (sym (c.is_too_many.ensures s _ o tidy) ∙ c.if-is_too_many.false) (passed_by _ _ _ _ (sym (c.is_spent.ensures s _) ∙ c.if-is_spent.false) (caught _ _ _ (lt-ltb (free (shape_in s t m)) (need (shape_in s t m) c.args.command.now) (omega (arith, needed, left, c.from.ensures, c.if-from-need.true))))))

pub returns : goal.returns
unfolding lacks_space
returns c = λ s same o tidy good.
    let t = table_alone c.args.table.now in
    let m = known c.args.memory.now in
    let needed = c.need-need.ensures s t same.same_sizes o tidy good in
    let left = c.free-free.ensures.free ∙ ap (λ n. length (free_of n t)) (sym same.same_count) ∙ sym (free_counted s t m tidy.none_new o) in
    passed_by _ _ _ _ (sym (c.is_deep.ensures s _ o tidy) ∙ c.if-is_deep.false) (passed_by _ _ _ _ (sym (c.is_too_many.ensures s _ o tidy) ∙ c.if-is_too_many.false) (passed_by _ _ _ _ (sym (c.is_spent.ensures s _) ∙ c.if-is_spent.false) (passed_by _ _ _ _ (le-ltb (free (shape_in s t m)) (need (shape_in s t m) c.args.command.now) (omega (arith, needed, left, c.from.ensures, c.if-from-need.false))) refl)))
