use Rattle.std.proofs.Common.{◌≡◌, List, ℕ, Result, Ok, Err, OnOk, is_ok, is_some, sym, ap, subst, ◌∙◌, true}
use Rattle.std.proofs.lemmas.Bool.{false≢true, true≢false}
use Rattle.sm_cache.specs.Kept.{in_front, same_spot}
use Rattle.sm_cache.proofs.EntryLaws.{front_put}
use Rattle.sm_cache.proofs.kept.renew.Goals as goal

at_ok : {T E P : Type 0} (r : Result T E) → is_ok r ≡ true → OnOk r P → P
at_ok (Ok x) h p = p
at_ok (Err e) h p = absurd (false≢true h)

pub returns-then-contains-clause-renewed : goal.returns-then-contains-clause-renewed
unfolding same_spot
returns-then-contains-clause-renewed c = λ v has.
    let done = at_ok c.put.result (c.put.ensures.succeeds (sym c.contains.ensures ∙ c.if-contains.true)) c.put.ensures.entries in
    subst (λ (bytes : List ℕ). c.put.new.self ≡ in_front c.args.volume.now c.args.at bytes c.args.kept.now) c.copy_from_slice.ensures.after
    (done ∙ front_put c.args.kept.now c.args.volume.now c.args.at v c.copy_from_slice.new.self c.len-len.ensures.valid.0 has.there)

pub returns-then-contains-clause-none : goal.returns-then-contains-clause-none
unfolding same_spot
returns-then-contains-clause-none c = λ no. absurd (true≢false (sym c.if-contains.true ∙ c.contains.ensures ∙ ap is_some no.none))

pub returns-else-contains-clause-renewed : goal.returns-else-contains-clause-renewed
unfolding same_spot
returns-else-contains-clause-renewed c = λ v has. absurd (false≢true (sym c.if-contains.false ∙ c.contains.ensures ∙ ap is_some has.there))
