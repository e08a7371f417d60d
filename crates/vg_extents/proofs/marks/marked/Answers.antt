use Rattle.std.proofs.Common.{◌≡◌, [], false, length, get_or, replicate, Bool, List, sym, ap, subst, ◌∙◌, rules, arith}
use Rattle.std.proofs.lemmas.List.{length-replicate}
use Rattle.vg_meta.specs.Tables.{extents_in}
use Rattle.vg_meta.specs.Roomy.{rows_alone}
use Rattle.vg_meta.specs.Taken.{IsMarked}
use Rattle.vg_meta.proofs.ReadSteps.{refilled, no_marks}
use Rattle.vg_extents.proofs.marks.marked.Goals as goal

pub returns : goal.returns
returns c =
    let us = extents_in (rows_alone c.args.volumes.now) in
    let fresh : c.in-Ok.marks.items ≡ replicate c.args.count false = search rules in
    let none : IsMarked [] c.deref_mut.result.now = λ e _. ap (λ (l : List Bool). get_or l e false) (c.deref_mut.ensures.value ∙ fresh) ∙ no_marks c.args.count e in
    let kept : length c.mark_all.new.marks ≡ length c.deref_mut.result.now = search rules in
    let whole : length c.deref_mut.result.now ≡ c.in-Ok.marks.len = c.deref_mut.ensures.len in
    let same = refilled c.in-Ok.marks.len c.mark_all.new.marks c.in-Ok.marks.items (kept ∙ whole) in
    let counted : length c.in-Ok.marks.items ≡ c.args.count = ap length fresh ∙ length-replicate c.args.count false in
    record {
      marks = subst (λ (l : List Bool). IsMarked us l) (sym same) (c.mark_all.ensures [] none);
      many = omega (arith, ap length same, kept, whole, c.in-Ok.marks.ok.0, counted);
    }
