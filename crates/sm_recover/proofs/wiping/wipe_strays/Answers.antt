use Rattle.std.proofs.Common.{◌≤◌, arith, inl, refl, sym, ◌∙◌, subst}
use Rattle.sm_base.specs.declared.names.Name.TheVariants.{Mgt as mgt_name}
use Rattle.vg_volumes.proofs.StoredLaws.{writes_none, writes_then, size_stays}
use Rattle.sm_mgt.specs.Places.{place_count}
use Rattle.sm_standing.specs.Plain.{IsPlain}
use Rattle.sm_ready.proofs.WipeLaws.{zeroed_step, right_more, freed_none, freed_then}
use Rattle.sm_recover.proofs.wiping.wipe_strays.Goals as goal

pub loop-place-init : goal.loop-place-init
loop-place-init g c = record {
  calm = refl;
  wrote = writes_none _ _ _ (λ h p v may. inl may);
  agrees = λ told was. was;
  freed = freed_none _ _;
  right = λ k below. absurd (omega (arith, below));
}

pub wipe_stray-requires-clause-size : goal.wipe_stray-requires-clause-size
wipe_stray-requires-clause-size g c =
    subst (λ n. place_count ≤ n) (sym (size_stays mgt_name c.loop-place.invariant.wrote.stays)) c.requires.size

pub wipe_stray-requires-clause-plain : goal.wipe_stray-requires-clause-plain
wipe_stray-requires-clause-plain g c = subst IsPlain (sym c.loop-place.invariant.wrote.stays.table) c.requires.plain

pub loop-place-preserved : goal.loop-place-preserved
loop-place-preserved g c =
    let i = c.loop-place.invariant in
    let table = i.wrote.stays.table in
    record {
      calm = c.in_ok-wipe_stray.ensures.cause.1 ∙ i.calm;
      wrote = writes_then (zeroed_step c.args.mgt.now c.loop-place.mgt table i.freed) i.wrote c.wipe_stray.ensures.writes;
      agrees = λ told was. c.in_ok-wipe_stray.ensures.agrees told (i.agrees told was);
      freed = freed_then c.args.mgt.now c.loop-place.mgt c.wipe_stray.new.mgt table i.freed c.in_ok-wipe_stray.ensures.freed;
      right = right_more c.loop-place.mgt c.wipe_stray.new.mgt c.loop-place.place table i.right c.in_ok-wipe_stray.ensures.right c.in_ok-wipe_stray.ensures.freed;
    }

pub returns-in_err-wipe_stray-clause-writes : goal.returns-in_err-wipe_stray-clause-writes
returns-in_err-wipe_stray-clause-writes g c =
    let i = c.loop-place.invariant in
    writes_then (zeroed_step c.args.mgt.now c.loop-place.mgt i.wrote.stays.table i.freed) i.wrote c.wipe_stray.ensures.writes
