use Rattle.std.proofs.Common.{◌≡◌, ◌*◌, ◌-◌, ap, sym, subst, ◌∙◌}
use Rattle.std.specs.Option.{option_copied}
use Rattle.std.proofs.lemmas.Option.{same_Some}
use Rattle.sm_base.specs.declared.names.Name.{Name}
use Rattle.vg_volumes.specs.Stored.{held_in, stored}
use Rattle.vhd_volumes.specs.Writes.{KeepsBut}
use Rattle.vhd_chain.specs.Trees.{row_name}
use Rattle.sm_space.proofs.inflating.end_image.Goals as goal

pub returns-in_err-end-clause-others : goal.returns-in_err-end-clause-others
returns-in_err-end-clause-others g c = λ told.
    let same : c.requires.image.row ≡ c.in-Some.row.now = same_Some _ _ (sym c.requires.image.there ∙ sym c.get.ensures ∙ ap option_copied c.in-Some.is) in
    let named : row_name c.in-Some.row.now ≡ c.args.name.now = ap row_name (sym same) ∙ c.requires.image.named in
    subst (λ (n : Name). KeepsBut (λ p. p ≡ c.args.to * (g.S.Store.site c.args.store.now).geometry.extent - 1) (held_in (stored g.S.Store c.args.store.now) n) (held_in (stored g.S.Store c.end.new.store) n)) named (c.end.ensures.others told)

pub returns-clause-others : goal.returns-clause-others
returns-clause-others g c = λ told.
    let same : c.requires.image.row ≡ c.in-Some.row.now = same_Some _ _ (sym c.requires.image.there ∙ sym c.get.ensures ∙ ap option_copied c.in-Some.is) in
    let named : row_name c.in-Some.row.now ≡ c.args.name.now = ap row_name (sym same) ∙ c.requires.image.named in
    subst (λ (n : Name). KeepsBut (λ p. p ≡ c.args.to * (g.S.Store.site c.args.store.now).geometry.extent - 1) (held_in (stored g.S.Store c.args.store.now) n) (held_in (stored g.S.Store c.end.new.store) n)) named (c.end.ensures.others told)
