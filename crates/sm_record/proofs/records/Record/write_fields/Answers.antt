use Rattle.std.proofs.Common.{◌≡◌, ◌≤◌, length, arith, refl, sym, ap, ◌∙◌}
use Rattle.sm_record.specs.Records.{fields, origin_bytes}
use Rattle.sm_record.proofs.Fields.{label_facts, bytes_of}
use Rattle.sm_record.proofs.RoundTrips.{AreBytes, proper}
use Rattle.sm_record.proofs.Sectors.{written, origin_is, flag_is}
use Rattle.sm_record.proofs.records.Record.write_fields.Goals as goal

pub returns-clause-fields : goal.returns-clause-fields
unfolding fields
returns-clause-fields c =
    let t = c.text-text.result.now in
    let least : length t ≤ 64 = (label_facts t (rw c.text-text.ensures.text c.text-text.ensures.label)).most in
    let e2 : c.copy_from_slice-2.new.self ≡ c.args.self.now.uuid = c.copy_from_slice-2.ensures.after ∙ c.as_bytes.ensures in
    let e3 : c.copy_from_slice-3.new.self ≡ origin_bytes c.args.self.now.origin = c.copy_from_slice-3.ensures.after ∙ c.as_bytes-2.ensures ∙ c.unwrap_or-origin.ensures ∙ rw c.nil.ensures (origin_is c.args.self.now.origin) in
    let w = written c.args.to.now c.copy_from_slice.new.self c.copy_from_slice-2.new.self c.copy_from_slice-3.new.self c.copy_from_slice-4.new.self t c.fill.new.self c.from.result
    (omega arith) c.copy_from_slice.ensures.after (omega arith) (omega arith) least c.copy_from_slice-4.ensures.after (c.fill.ensures.after (λ y h. h)) in
    w ∙ rw (e2, e3, c.from.ensures, c.text-text.ensures.text, flag_is c.args.self.now.read_only) refl

pub returns-clause-proper : goal.returns-clause-proper
returns-clause-proper c =
    let r = c.args.self.now in
    let u : length r.uuid ≡ 16 = rw (← c.as_bytes.ensures) (omega arith) in
    let o : length c.unwrap_or-origin.result ≡ 16 = rw (← c.as_bytes-2.ensures) (omega arith) in
    let bytes : AreBytes (fields r) = bytes_of _ (fields r) (returns-clause-fields c) (λ i. omega (arith, c.type_inv.to i)) in
    proper r u (sym (ap length (origin_is r.origin)) ∙ ap length (sym (rw c.nil.ensures at c.unwrap_or-origin.ensures)) ∙ o) bytes c.requires.uuid c.requires.origin c.text-text.ensures.label
