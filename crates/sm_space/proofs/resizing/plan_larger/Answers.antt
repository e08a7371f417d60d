use Rattle.std.proofs.Common.{◌≢◌, ◌<◌, ◌+◌, ◌-◌, ℕ, zero, suc, refl, sym, ap, ap₂, ◌∙◌, subst, subst₂, arith, option_copied}
use Rattle.std.specs.Prelude.{is_some}
use Rattle.std.proofs.lemmas.Bool.{true≢false}
use Rattle.vg_meta.specs.Roomy.{table_alone}
use Rattle.sm_machine.specs.declared.commands.Command.TheVariants as command
use Rattle.sm_machine.proofs.Passed.{passed}
use Rattle.sm_mgt.proofs.ClearLaws.{on_err}
use Rattle.sm_ready.specs.Known.{known, shape_in}
use Rattle.sm_base.specs.declared.names.Name.TheVariants.{Vhd}
use Rattle.vhd_chain.specs.Trees.{tree_row}
use Rattle.sm_machine.specs.Refusals.{need as needed}
use Rattle.sm_space.specs.Inflating.{IsBelow, IsGrowth, extents_in}
use Rattle.sm_space.proofs.LargerLaws.{few_extents, has_free, image_there, is_below}
use Rattle.sm_space.proofs.resizing.plan_larger.Goals as goal

positive : (n : ℕ) → n ≢ 0 → 0 < n
positive zero e = absurd (e refl)
positive (suc n) e = omega arith

pub unreachable-requires : goal.unreachable-requires
unreachable-requires g c =
    let is = c.need-lacking.ensures (g.S.Store.site c.args.store.now) (table_alone (g.S.Store.table c.args.store.now)) (sym c.geometry-geometry.ensures) c.requires.session.orderly c.requires.session.tidy (passed _ (command.Resize c.args.disk.now c.args.size) c.requires.allowed).bad_size in
    let some = subst (λ n. 0 < n) is (positive c.need-lacking.result c.if-lacking-eq0.false) in
    absurd (true≢false (sym (image_there (g.S.Store.site c.args.store.now) (table_alone (g.S.Store.table c.args.store.now)) (known c.args.memory.now) c.args.disk.now c.args.size c.requires.session.orderly c.requires.allowed some) ∙ ap is_some (sym c.get.ensures ∙ ap (λ o. option_copied o) c.in_default.is)))

pub overflow_cast-to : goal.overflow_cast-to
overflow_cast-to g c =
    let is = c.need-lacking.ensures (g.S.Store.site c.args.store.now) (table_alone (g.S.Store.table c.args.store.now)) (sym c.geometry-geometry.ensures) c.requires.session.orderly c.requires.session.tidy (passed _ (command.Resize c.args.disk.now c.args.size) c.requires.allowed).bad_size in
    let some = subst (λ n. 0 < n) is (positive c.need-lacking.result c.if-lacking-eq0.false) in
    let few = few_extents (g.S.Store.site c.args.store.now) (table_alone (g.S.Store.table c.args.store.now)) (known c.args.memory.now) c.args.disk.now c.args.size c.requires.session.orderly c.requires.allowed some in omega (arith, few, is)

pub overflow_add-to : goal.overflow_add-to
overflow_add-to g c =
    let is = c.need-lacking.ensures (g.S.Store.site c.args.store.now) (table_alone (g.S.Store.table c.args.store.now)) (sym c.geometry-geometry.ensures) c.requires.session.orderly c.requires.session.tidy (passed _ (command.Resize c.args.disk.now c.args.size) c.requires.allowed).bad_size in
    let some = subst (λ n. 0 < n) is (positive c.need-lacking.result c.if-lacking-eq0.false) in
    let had = ap extents_in (sym c.get.ensures ∙ ap (λ o. option_copied o) c.in-Some.is) in
    let few = few_extents (g.S.Store.site c.args.store.now) (table_alone (g.S.Store.table c.args.store.now)) (known c.args.memory.now) c.args.disk.now c.args.size c.requires.session.orderly c.requires.allowed some in omega (arith, few, is, had)

pub plan_growth-requires-clause-there : goal.plan_growth-requires-clause-there
plan_growth-requires-clause-there g c =
    let is = c.need-lacking.ensures (g.S.Store.site c.args.store.now) (table_alone (g.S.Store.table c.args.store.now)) (sym c.geometry-geometry.ensures) c.requires.session.orderly c.requires.session.tidy (passed _ (command.Resize c.args.disk.now c.args.size) c.requires.allowed).bad_size in
    let some = subst (λ n. 0 < n) is (positive c.need-lacking.result c.if-lacking-eq0.false) in
    let had = ap extents_in (sym c.get.ensures ∙ ap (λ o. option_copied o) c.in-Some.is) in
    subst (λ k. IsBelow c.args.memory.now.tree.rows c.args.disk.now k) (let sum = is in omega (arith, sum, had)) (is_below (g.S.Store.site c.args.store.now) (table_alone (g.S.Store.table c.args.store.now)) (known c.args.memory.now) c.args.disk.now c.args.size c.requires.session.orderly c.requires.allowed some)

pub plan_growth-requires-clause-free : goal.plan_growth-requires-clause-free
plan_growth-requires-clause-free g c =
    let is = c.need-lacking.ensures (g.S.Store.site c.args.store.now) (table_alone (g.S.Store.table c.args.store.now)) (sym c.geometry-geometry.ensures) c.requires.session.orderly c.requires.session.tidy (passed _ (command.Resize c.args.disk.now c.args.size) c.requires.allowed).bad_size in
    let some = subst (λ n. 0 < n) is (positive c.need-lacking.result c.if-lacking-eq0.false) in
    let had = ap extents_in (sym c.get.ensures ∙ ap (λ o. option_copied o) c.in-Some.is) in
    let free = has_free (g.S.Store.site c.args.store.now) (table_alone (g.S.Store.table c.args.store.now)) (known c.args.memory.now) c.args.disk.now c.args.size c.requires.session.orderly c.requires.allowed some c.requires.session.tidy in omega (arith, free, is, had)

pub returns-then-lacking-eq0-clause-growth : goal.returns-then-lacking-eq0-clause-growth
returns-then-lacking-eq0-clause-growth g c =
    sym (c.need-lacking.ensures (g.S.Store.site c.args.store.now) (table_alone (g.S.Store.table c.args.store.now)) (sym c.geometry-geometry.ensures) c.requires.session.orderly c.requires.session.tidy (passed _ (command.Resize c.args.disk.now c.args.size) c.requires.allowed).bad_size)
    ∙ c.if-lacking-eq0.true

pub returns-clause-growth : goal.returns-clause-growth
returns-clause-growth g c =
    let is = c.need-lacking.ensures (g.S.Store.site c.args.store.now) (table_alone (g.S.Store.table c.args.store.now)) (sym c.geometry-geometry.ensures) c.requires.session.orderly c.requires.session.tidy (passed _ (command.Resize c.args.disk.now c.args.size) c.requires.allowed).bad_size in
    let some = subst (λ n. 0 < n) is (positive c.need-lacking.result c.if-lacking-eq0.false) in
    let had = ap extents_in (sym c.get.ensures ∙ ap (λ o. option_copied o) c.in-Some.is) in
    let e = c.in_ok-growth.ensures in
    let alike = ap₂ (λ s t. needed (shape_in s t (known c.args.memory.now)) (command.Resize c.args.disk.now c.args.size)) e.same.0 e.table in
    record {
      some = subst (λ n. 0 < n) (sym alike) some;
      extents = omega (arith, had, is, alike);
      grows = subst₂ (λ n t. IsGrowth n t (Vhd c.args.disk.now) (c.in-Some.row.now.extents + c.need-lacking.result - extents_in (tree_row c.args.memory.now.tree.rows (Vhd c.args.disk.now))) c.in_ok-growth.growth)
          (sym (ap (λ s. s.count) e.same.0)) (sym e.table) e.growth;
      row = e.row;
      places = e.places;
    }

pub returns-in_err-growth-clause-wants : goal.returns-in_err-growth-clause-wants
returns-in_err-growth-clause-wants g c =
    let is = c.need-lacking.ensures (g.S.Store.site c.args.store.now) (table_alone (g.S.Store.table c.args.store.now)) (sym c.geometry-geometry.ensures) c.requires.session.orderly c.requires.session.tidy (passed _ (command.Resize c.args.disk.now c.args.size) c.requires.allowed).bad_size in
    on_err c.from_residual.result (subst (λ n. 0 < n) is (positive c.need-lacking.result c.if-lacking-eq0.false))
