use Rattle.std.proofs.Common.{◌≡◌, true, false, get_or, None, sym, ◌∙◌, rules}
use Rattle.std.proofs.lemmas.Bool.{true≢false}
use Rattle.vg_volumes.proofs.StoredLaws.{writes_none, writes_as}
use Rattle.sm_mgt.specs.Places.{is_of}
use Rattle.sm_mgt.proofs.ClearLaws.{kept_with, kept_without, TornZeros-none, WroteZeros-none, zeros_torn, zeros_wrote}
use Rattle.sm_mgt.proofs.management.Mgt.clear_at.Goals as goal

pub returns-then-not-has-clause-writes : goal.returns-then-not-has-clause-writes
returns-then-not-has-clause-writes g c = writes_none _ _ _ (TornZeros-none _)

pub returns-then-not-has-clause-wrote : goal.returns-then-not-has-clause-wrote
returns-then-not-has-clause-wrote g c =
    let hasnt : is_of c.args.uuid.now (get_or c.args.self.now c.args.place None) ≡ false = search rules in
    writes_none _ _ _ (λ h. WroteZeros-none _ h (λ p here. true≢false (sym here.1 ∙ hasnt)))

pub returns-then-not-has-clause-places : goal.returns-then-not-has-clause-places
returns-then-not-has-clause-places g c =
    let hasnt : is_of c.args.uuid.now (get_or c.args.self.now c.args.place None) ≡ false = search rules in
    kept_without c.args.uuid.now c.args.place c.args.self.now hasnt

pub returns-in_err-wipe-clause-writes : goal.returns-in_err-wipe-clause-writes
returns-in_err-wipe-clause-writes g c =
    let has : is_of c.args.uuid.now (get_or c.args.self.now c.args.place None) ≡ true = search rules in
    writes_as (λ x y t. zeros_torn _ _ has t) c.wipe.ensures.writes

pub returns-clause-writes : goal.returns-clause-writes
returns-clause-writes g c =
    let has : is_of c.args.uuid.now (get_or c.args.self.now c.args.place None) ≡ true = search rules in
    writes_as (λ x y t. zeros_torn _ _ has t) c.wipe.ensures.writes

pub returns-clause-wrote : goal.returns-clause-wrote
returns-clause-wrote g c =
    let has : is_of c.args.uuid.now (get_or c.args.self.now c.args.place None) ≡ true = search rules in
    writes_as (λ x y w. zeros_wrote _ _ has w) c.in_ok-wipe.ensures.wrote

pub returns-clause-places : goal.returns-clause-places
returns-clause-places g c =
    let has : is_of c.args.uuid.now (get_or c.args.self.now c.args.place None) ≡ true = search rules in
    kept_with c.args.uuid.now c.args.place c.args.self.now _ has c.in_ok-wipe.ensures.places
