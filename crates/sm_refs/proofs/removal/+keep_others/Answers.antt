-- The last entry that is looked at goes back behind those before it, unless it has the key.
use Rattle.std.proofs.Common.{sym, ◌∙◌, arith}
use Rattle.std.proofs.lemmas.Bool.{not-true, not-false, false≢true}
use Rattle.sm_refs.proofs.RemovalLemmas.{entries-put_back, length-put_back, others-more_out, place_left}
use Rattle.sm_refs.proofs.removal.+keep_others.Goals as goal

pub unreachable-requires-in_default-insert : goal.unreachable-requires-in_default-insert
unreachable-requires-in_default-insert g t c =
    false≢true (c.in_default-insert.ensures.succeeds
    (place_left g.K.PartialEq.eq g.met.K.Eq.laws c.args.key.now c.args.map.now.entries c.keep_others.new.map.entries c.args.count _ _ c.if-count-eq0.false c.requires c.keep_others.ensures.entries c.keep_others.ensures.room))

pub returns-in-Ok-clause-entries : goal.returns-in-Ok-clause-entries
returns-in-Ok-clause-entries g t c =
    entries-put_back g.K.PartialEq.eq g.met.K.Eq.laws c.args.key.now c.args.map.now.entries c.keep_others.new.map c.insert.new.self.entries c.args.count c.in-Some.last.now c.in-Some.value.now
    c.len-len.ensures.unique (sym c.in-Some.ensures.entry) c.keep_others.ensures.entries c.in-Ok.ensures.entries c.if-count-eq0.false (not-true _ (sym c.if-ne.ensures))

pub returns-in-Ok-clause-room : goal.returns-in-Ok-clause-room
returns-in-Ok-clause-room g t c =
    omega (
      arith,
      c.keep_others.ensures.room,
      c.insert.ensures.spare,
      length-put_back g.K.PartialEq.eq g.met.K.Eq.laws c.args.key.now c.args.map.now.entries c.keep_others.new.map c.insert.new.self.entries c.args.count c.in-Some.last.now c.in-Some.value.now
          c.len-len.ensures.unique (sym c.in-Some.ensures.entry) c.keep_others.ensures.entries c.in-Ok.ensures.entries,
    )

pub returns-else-ne-clause-entries : goal.returns-else-ne-clause-entries
returns-else-ne-clause-entries g t c =
    c.keep_others.ensures.entries
    ∙ sym (others-more_out g.K.PartialEq.eq g.met.K.Eq.laws c.args.key.now c.args.map.now.entries c.args.count c.in-Some.last.now c.in-Some.value.now c.if-count-eq0.false (sym c.in-Some.ensures.entry) (not-false _ (sym c.if-ne.ensures)))
