use Rattle.sm_base.specs.Names.{spelling, name_cmp}
use Rattle.sm_base.proofs.NameLemmas.{text_front}
use Rattle.sm_base.proofs.names.Name.compare.Goals as goal

pub returns : goal.returns
unfolding name_cmp
returns c =
    let own = c.spell-own_length in
    let other = c.spell-other_length in
    let own_text = text_front (spelling c.args.self.now) _ own.new.to own.result own.ensures.text own.ensures.length in
    let other_text = text_front (spelling c.args.other.now) _ other.new.to other.result other.ensures.text other.ensures.length in
    rw (c.cmp.ensures, own_text, other_text)
