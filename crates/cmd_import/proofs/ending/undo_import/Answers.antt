use Rattle.std.proofs.Common.{◌≡◌, Ok, refl, sym, ap, ◌∙◌, subst, subst₂}
use Rattle.sm_ready.specs.Framing.{IsBetweenSteps}
use Rattle.sm_ready.specs.declared.memory.Memory.{Memory}
use Rattle.sm_importing.specs.Imports.{IsImporting, LeavesStill}
use Rattle.sm_importing.proofs.LowerLaws.{lower_same, lower_step}
use Rattle.vhd_import.specs.declared.faults.ImportFault.TheVariants.{Device}
use Rattle.cmd_import.proofs.StillLaws.{ends_done, ends_still, since_at, still_unbegun}
use Rattle.cmd_import.proofs.ending.undo_import.Goals as goal

pub returns-then-not-begun-clause-restored : goal.returns-then-not-begun-clause-restored
returns-then-not-begun-clause-restored g c = λ other.
    let d = c.args.disk in
    let p = c.into_parts-store in
    subst₂ (IsBetweenSteps g.S.Store) (sym p.ensures.store) (sym p.ensures.memory) (p.ensures.session (sym c.is_begun-begun.ensures ∙ c.if-not-begun.true))

pub returns-then-not-begun-clause-ends : goal.returns-then-not-begun-clause-ends
returns-then-not-begun-clause-ends g c = λ o bytes since told ready.
    let d = c.args.disk in
    let p = c.into_parts-store in
    let new = sym c.is_begun-begun.ensures ∙ c.if-not-begun.true in
    ends_still g.S.Store o.disk bytes o.memory p.result.1 o.store p.result.0 c.args.fault (ap (λ (m : Memory). m.logs) (p.ensures.memory ∙ since.memory)) told
    (subst (LeavesStill g.S.Store o.memory o.store) (sym p.ensures.store)
    (still_unbegun g.S.Store o d.store d.memory d.disk g.met.S.Store.leaves_now d.begun d.over since new (p.ensures.session new) told ready))

pub returns-then-over-clause-ends : goal.returns-then-over-clause-ends
returns-then-over-clause-ends g c = λ o bytes since told ready.
    let p = c.into_parts-store in
    ends_still g.S.Store o.disk bytes o.memory p.result.1 o.store p.result.0 Device (ap (λ (m : Memory). m.logs) (p.ensures.memory ∙ since.memory)) told
    (subst (LeavesStill g.S.Store o.memory o.store) (sym p.ensures.store) (since.stops told ready (sym c.is_over-over.ensures ∙ c.if-over.true)))

pub give_up-requires : goal.give_up-requires
give_up-requires g c =
    let d = c.args.disk in
    let p = c.into_parts-store in
    let filled = p.ensures.filled (sym c.is_over-over.ensures ∙ c.if-over.false) (sym c.is_begun-begun.ensures ∙ c.if-not-begun.false) in
    record {
      importing = subst (IsImporting g.S.Store p.result.0 p.result.1) c.requires.named
          (subst₂ (λ s m. IsImporting g.S.Store s m d.disk) (sym p.ensures.store) (sym p.ensures.memory) filled.importing);
    }

pub returns-in-Ok-clause-ends : goal.returns-in-Ok-clause-ends
returns-in-Ok-clause-ends g c = λ o bytes since told ready.
    let d = c.args.disk in
    let p = c.into_parts-store in
    let begun = sym c.is_begun-begun.ensures ∙ c.if-not-begun.false in
    let going = sym c.is_over-over.ensures ∙ c.if-over.false in
    let since_now = since_at g.S.Store o d.store p.result.0 d.memory p.result.1 c.args.uuid.now d.disk d.begun d.over p.ensures.store p.ensures.memory c.requires.named begun going since told ready in
    ends_done g.S.Store o.disk bytes o.memory p.result.1 o.store c.give_up.new.store c.args.fault p.result.1 (c.give_up.result ≡ Ok tt) refl (c.give_up.ensures.ends o.store since_now told)

pub returns-clause-ends : goal.returns-clause-ends
returns-clause-ends g c = λ o bytes since told ready.
    let d = c.args.disk in
    let p = c.into_parts-store in
    let begun = sym c.is_begun-begun.ensures ∙ c.if-not-begun.false in
    let going = sym c.is_over-over.ensures ∙ c.if-over.false in
    let since_now = since_at g.S.Store o d.store p.result.0 d.memory p.result.1 c.args.uuid.now d.disk d.begun d.over p.ensures.store p.ensures.memory c.requires.named begun going since told ready in
    ends_done g.S.Store o.disk bytes o.memory p.result.1 o.store c.give_up.new.store Device p.result.1 (c.give_up.result ≡ Ok tt) refl (c.give_up.ensures.ends o.store since_now told)

pub returns-then-not-begun-clause-no_lower : goal.returns-then-not-begun-clause-no_lower
returns-then-not-begun-clause-no_lower g c = lower_same g.S.Store c.args.disk.store c.into_parts-store.result.0 c.into_parts-store.ensures.store

pub returns-then-over-clause-no_lower : goal.returns-then-over-clause-no_lower
returns-then-over-clause-no_lower g c = lower_same g.S.Store c.args.disk.store c.into_parts-store.result.0 c.into_parts-store.ensures.store

pub returns-in-Ok-clause-no_lower : goal.returns-in-Ok-clause-no_lower
returns-in-Ok-clause-no_lower g c = lower_step c.give_up.ensures.step (lower_same g.S.Store c.args.disk.store c.into_parts-store.result.0 c.into_parts-store.ensures.store)

pub returns-clause-no_lower : goal.returns-clause-no_lower
returns-clause-no_lower g c = lower_step c.give_up.ensures.step (lower_same g.S.Store c.args.disk.store c.into_parts-store.result.0 c.into_parts-store.ensures.store)
