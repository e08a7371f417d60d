use Rattle.std.proofs.Common.{◌≡◌, true≢false, Some, sym, ap, ◌∙◌}
use Rattle.std.proofs.lemmas.Slice.Eq.{bytes_eq-Decides}
use Rattle.sm_base.specs.Names.{spelling}
use Rattle.sm_base.proofs.NameLemmas.{text_front}
use Rattle.sm_base.proofs.names.Name.read.Goals as goal

pub returns-then-eq-clause-named : goal.returns-then-eq-clause-named
returns-then-eq-clause-named c =
    let name = c.in_ok-name.name in
    let text = text_front (spelling name) _ c.spell-length.new.to c.spell-length.result c.spell-length.ensures.text c.spell-length.ensures.length in
    (c.in_ok-name.ensures.proper, sym text ∙ (bytes_eq-Decides _ c.args.bytes.now).0 (sym c.if-eq.ensures))

pub returns-else-eq-clause-none : goal.returns-else-eq-clause-none
returns-else-eq-clause-none c = λ n is e.
    let name = c.in_ok-name.name in
    let text = text_front (spelling name) _ c.spell-length.new.to c.spell-length.result c.spell-length.ensures.text c.spell-length.ensures.length in
    let found : Some name ≡ Some n = c.in_ok-name.ensures.found n is e in
    let same : name ≡ n = cc in
    true≢false (sym ((bytes_eq-Decides _ c.args.bytes.now).1 (text ∙ ap spelling same ∙ e)) ∙ sym c.if-eq.ensures)
