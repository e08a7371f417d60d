use Rattle.std.proofs.Common.{◌≡◌, ◌<◌, ◌≤◌, length, refl, sym, ap, ◌∙◌, subst, arith}
use Rattle.sm_base.specs.declared.names.Name.TheVariants.{Mgt as mgt_name}
use Rattle.vg_volumes.proofs.StoredLaws.{writes_none, writes_then, writes_as, size_stays}
use Rattle.sm_mgt.specs.Places.{place_count}
use Rattle.sm_mgt.proofs.ClearLaws.{cleared_more, cleared_all, wrote_step, torn_step, has_or_not, TornZeros-wrote, WroteZeros-none, WroteZeros-all, within_all, on_err}
use Rattle.sm_mgt.proofs.management.Mgt.clear.Goals as goal

pub loop-place-init : goal.loop-place-init
loop-place-init g c = record {
  memory = refl;
  calm = refl;
  wrote = writes_none _ _ _ (λ h. WroteZeros-none _ h (λ p below. omega (arith, below.0)));
}

pub clear_at-requires : goal.clear_at-requires
clear_at-requires g c =
    let i = c.loop-place.invariant in
    let long : length c.args.self.now ≡ place_count = sym (ap length c.self.view_is) ∙ c.self.invariant.long in
    record {
      size = subst (λ n. place_count ≤ n) (sym (size_stays mgt_name i.wrote.stays)) c.requires.size;
      within = omega (arith, c.loop-place-test.true, c.len-place-end.ensures, c.self.invariant.long);
    }

pub loop-place-preserved : goal.loop-place-preserved
loop-place-preserved g c =
    let i = c.loop-place.invariant in
    let long : length c.args.self.now ≡ place_count = sym (ap length c.self.view_is) ∙ c.self.invariant.long in
    let below : c.loop-place.place < length c.args.self.now = omega (arith, long, c.loop-place-test.true, c.len-place-end.ensures, c.self.invariant.long) in
    record {
      memory = cleared_more c.args.uuid.now c.loop-place.place c.args.self.now c.loop-place.self _ below i.memory c.in_ok-clear_at.ensures.places;
      calm = c.in_ok-clear_at.ensures.cause.1 ∙ i.calm;
      wrote = writes_then (wrote_step c.args.self.now c.loop-place.self c.args.uuid.now c.loop-place.place below i.memory) i.wrote c.in_ok-clear_at.ensures.wrote;
    }

pub returns-in_err-clear_at-clause-writes : goal.returns-in_err-clear_at-clause-writes
returns-in_err-clear_at-clause-writes g c =
    let i = c.loop-place.invariant in
    let long : length c.args.self.now ≡ place_count = sym (ap length c.self.view_is) ∙ c.self.invariant.long in
    let below : c.loop-place.place < length c.args.self.now = omega (arith, long, c.loop-place-test.true, c.len-place-end.ensures, c.self.invariant.long) in
    writes_then (torn_step c.args.self.now c.loop-place.self c.args.uuid.now c.loop-place.place below i.memory) i.wrote c.clear_at.ensures.writes

pub returns-in_err-clear_at-clause-front : goal.returns-in_err-clear_at-clause-front
returns-in_err-clear_at-clause-front g c =
    on_err c.from_residual.result (c.loop-place.place, c.in_err-clear_at.ensures.unchanged ∙ c.loop-place.invariant.memory)

pub returns-clause-writes : goal.returns-clause-writes
returns-clause-writes g c =
    let i = c.loop-place.invariant in
    let long : length c.args.self.now ≡ place_count = sym (ap length c.self.view_is) ∙ c.self.invariant.long in
    let past : length c.args.self.now ≤ c.loop-place.place = omega (arith, long, c.loop-place-test.false, c.len-place-end.ensures, c.self.invariant.long) in
    writes_as (λ x y w. TornZeros-wrote _ (has_or_not c.args.self.now c.args.uuid.now) (WroteZeros-all _ c.loop-place.place (within_all c.args.self.now c.args.uuid.now c.loop-place.place past) w)) i.wrote

pub returns-clause-wrote : goal.returns-clause-wrote
returns-clause-wrote g c =
    let i = c.loop-place.invariant in
    let long : length c.args.self.now ≡ place_count = sym (ap length c.self.view_is) ∙ c.self.invariant.long in
    let past : length c.args.self.now ≤ c.loop-place.place = omega (arith, long, c.loop-place-test.false, c.len-place-end.ensures, c.self.invariant.long) in
    writes_as (λ x y w. WroteZeros-all _ c.loop-place.place (within_all c.args.self.now c.args.uuid.now c.loop-place.place past) w) i.wrote

pub returns-clause-places : goal.returns-clause-places
returns-clause-places g c =
    let i = c.loop-place.invariant in
    let long : length c.args.self.now ≡ place_count = sym (ap length c.self.view_is) ∙ c.self.invariant.long in
    let past : length c.args.self.now ≤ c.loop-place.place = omega (arith, long, c.loop-place-test.false, c.len-place-end.ensures, c.self.invariant.long) in
    cleared_all c.args.uuid.now c.loop-place.place c.args.self.now c.loop-place.self past i.memory
