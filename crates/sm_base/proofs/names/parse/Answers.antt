use Rattle.std.proofs.Common.{◌≢◌, true≢false, Some, codes, sym, ap, ◌∙◌}
use Rattle.std.proofs.lemmas.Slice.Eq.{bytes_eq-Decides}
use Rattle.sm_base.specs.Names.{IsName}
use Rattle.sm_base.proofs.ReadLemmas.{mgt_only, entry_only, vhd_parts, raw_parts, old_parts, cbt_parts}
use Rattle.sm_base.proofs.names.parse.Goals as goal

pub returns-then-eq-clause-proper : goal.returns-then-eq-clause-proper
unfolding IsName
returns-then-eq-clause-proper c = tt

pub returns-then-eq-clause-found : goal.returns-then-eq-clause-found
returns-then-eq-clause-found c = λ n is e.
    let same = (bytes_eq-Decides c.args.bytes.now c.as_slice.result.now).0 (sym c.if-eq.ensures) ∙ c.as_slice.ensures in
    ap Some (sym (mgt_only c.args.bytes.now same n e))

pub returns-in_err-uuid-clause-found : goal.returns-in_err-uuid-clause-found
returns-in_err-uuid-clause-found c = λ n is e.
    let p = vhd_parts c.args.bytes.now c.if-starts_with.ensures.value n is e in
    let none = c.in_err-uuid.ensures.found p.uuid p.is p.text in
    cc

pub returns-in_ok-uuid-clause-proper : goal.returns-in_ok-uuid-clause-proper
unfolding IsName
returns-in_ok-uuid-clause-proper c = c.in_ok-uuid.ensures.uuid

pub returns-in_ok-uuid-clause-found : goal.returns-in_ok-uuid-clause-found
returns-in_ok-uuid-clause-found c = λ n is e.
    let p = vhd_parts c.args.bytes.now c.if-starts_with.ensures.value n is e in
    let found = c.in_ok-uuid.ensures.found p.uuid p.is p.text in
    cc

pub returns-in_err-uuid-2-clause-found : goal.returns-in_err-uuid-2-clause-found
returns-in_err-uuid-2-clause-found c = λ n is e.
    let p = raw_parts c.args.bytes.now c.if-starts_with-2.ensures.value n is e in
    let none = c.in_err-uuid-2.ensures.found p.uuid p.is p.text in
    cc

pub returns-in_ok-uuid-2-clause-proper : goal.returns-in_ok-uuid-2-clause-proper
unfolding IsName
returns-in_ok-uuid-2-clause-proper c = c.in_ok-uuid-2.ensures.uuid

pub returns-in_ok-uuid-2-clause-found : goal.returns-in_ok-uuid-2-clause-found
returns-in_ok-uuid-2-clause-found c = λ n is e.
    let p = raw_parts c.args.bytes.now c.if-starts_with-2.ensures.value n is e in
    let found = c.in_ok-uuid-2.ensures.found p.uuid p.is p.text in
    cc

pub returns-in_err-uuid-3-clause-found : goal.returns-in_err-uuid-3-clause-found
returns-in_err-uuid-3-clause-found c = λ n is e.
    let p = old_parts c.args.bytes.now c.if-starts_with-3.ensures.value n is e in
    let none = c.in_err-uuid-3.ensures.found p.uuid p.is p.text in
    cc

pub returns-in_ok-uuid-3-clause-proper : goal.returns-in_ok-uuid-3-clause-proper
unfolding IsName
returns-in_ok-uuid-3-clause-proper c = c.in_ok-uuid-3.ensures.uuid

pub returns-in_ok-uuid-3-clause-found : goal.returns-in_ok-uuid-3-clause-found
returns-in_ok-uuid-3-clause-found c = λ n is e.
    let p = old_parts c.args.bytes.now c.if-starts_with-3.ensures.value n is e in
    let found = c.in_ok-uuid-3.ensures.found p.uuid p.is p.text in
    cc

pub returns-in_err-uuid-4-clause-found : goal.returns-in_err-uuid-4-clause-found
returns-in_err-uuid-4-clause-found c = λ n is e.
    let p = cbt_parts c.args.bytes.now c.if-starts_with-4.ensures.value n is e in
    let none = c.in_err-uuid-4.ensures.found p.uuid p.is p.text in
    cc

pub returns-in_ok-uuid-4-clause-proper : goal.returns-in_ok-uuid-4-clause-proper
unfolding IsName
returns-in_ok-uuid-4-clause-proper c = c.in_ok-uuid-4.ensures.uuid

pub returns-in_ok-uuid-4-clause-found : goal.returns-in_ok-uuid-4-clause-found
returns-in_ok-uuid-4-clause-found c = λ n is e.
    let p = cbt_parts c.args.bytes.now c.if-starts_with-4.ensures.value n is e in
    let found = c.in_ok-uuid-4.ensures.found p.uuid p.is p.text in
    cc

pub returns-else-starts_with-4-clause-found : goal.returns-else-starts_with-4-clause-found
returns-else-starts_with-4-clause-found c = λ n is e.
    let bytes = c.args.bytes.now in
    let other : bytes ≢ codes "MGT" = λ same.
    true≢false (sym ((bytes_eq-Decides bytes c.as_slice.result.now).1 (same ∙ sym c.as_slice.ensures)) ∙ sym c.if-eq.ensures) in
    let entry = entry_only bytes other c.if-starts_with.ensures.value c.if-starts_with-2.ensures.value c.if-starts_with-3.ensures.value c.if-starts_with-4.ensures.value n e in
    c.parse_entry.ensures.found n is entry e
