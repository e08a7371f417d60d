use Rattle.std.proofs.Common.{◌≡◌, ◌+◌, ◌-◌, ◌/◌, ◌<◌, ◌≤◌, ◌∷◌, [], true, false, Err, refl, sym, ap, ◌∙◌, arith, rules, subst}
use Rattle.std.proofs.lemmas.Result.{IfOk-weaker}
use Rattle.sm_base.specs.Numbers.{div_up}
use Rattle.sm_run.specs.Runs.{IsSpent}
use Rattle.vhd_import.specs.declared.reading.Part.{Part}
use Rattle.vhd_import.specs.Making.{begin_lacks, put_lacks}
use Rattle.vhd_import.specs.Progress.{HasNext}
use Rattle.vhd_import.specs.Puts.{Put}
use Rattle.vhd_import.specs.Room.{Target, is_too_large}
use Rattle.vhd_import.proofs.FixedLaws.{begun-fixed, begun-refused, counts-same, end-answers, fits-below, fits-size, full-fixed, imported-err, large-fixed, more-fixed, none-fits, on-ok, room-says}
use Rattle.vhd_import.proofs.FrontLaws.{counts-err}
use Rattle.vhd_import.proofs.fixed.read_fixed.Goals as goal

pub returns-in_err-begin_disk-clause-answered : goal.returns-in_err-begin_disk-clause-answered
returns-in_err-begin_disk-clause-answered g c = λ had long plain takes.
    let t : Target = g.N.NewDisk.target c.args.disk.now in
    let some : 0 < t.block = omega (arith, c.requires.some, c.requires.block) in
    let is : c.from_residual.result ≡ Err c.in_err-begin_disk.field-0.0 = search rules in
    imported-err t had c.from_residual.result _ c.in_err-begin_disk.field-0.0 is
    (room-says t had (begin_lacks t) c.in_err-begin_disk.field-0.0 c.in_err-begin_disk.ensures.room (λ r room. begun-refused t had _ c.args.first.now r some long plain takes room))

pub returns-in_err-begin_disk-clause-counts : goal.returns-in_err-begin_disk-clause-counts
returns-in_err-begin_disk-clause-counts g c =
    let is : c.from_residual.result ≡ Err c.in_err-begin_disk.field-0.0 = search rules in
    counts-err c.from_residual.result c.in_err-begin_disk.field-0.0 _ _ _ _ _ _ is (c.in_err-begin_disk.ensures.counts (g.S.Source.faults c.args.source.now)).1 refl refl

pub loop-part-init : goal.loop-part-init
loop-part-init g c =
    let t : Target = g.N.NewDisk.target c.args.disk.now in
    let some : 0 < t.block = omega (arith, c.requires.some, c.requires.block) in
    record {
      some = omega arith;
      few = omega arith;
      fits = none-fits t some;
      begun = c.in_ok-begin_disk.ensures.begun;
      target = c.in_ok-begin_disk.ensures.target;
      since = c.in_ok-begin_disk.ensures.since;
      calm = refl;
      quiet = (c.in_ok-begin_disk.ensures.counts 0).0.1;
      read = λ had long plain takes. ([], c.in_ok-begin_disk.ensures.holds, begun-fixed t had _ c.args.first.now some long plain takes c.in_ok-begin_disk.ensures.room);
    }

pub returns-in_err-next_sector-clause-answered : goal.returns-in_err-next_sector-clause-answered
returns-in_err-next_sector-clause-answered g c = λ had long plain takes.
    let t : Target = g.N.NewDisk.target c.args.disk.now in
    let r = c.loop-part.invariant.read had long plain takes in
    let is : c.from_residual-in_err-next_sector.result ≡ Err c.in_err-next_sector.field-0.0 = search rules in
    imported-err t had c.from_residual-in_err-next_sector.result _ c.in_err-next_sector.field-0.0 is (c.in_err-next_sector.ensures.says t had r.2.front r.0 r.2.read r.2.long)

pub returns-in_err-next_sector-clause-counts : goal.returns-in_err-next_sector-clause-counts
returns-in_err-next_sector-clause-counts g c =
    let i = c.loop-part.invariant in
    let is : c.from_residual-in_err-next_sector.result ≡ Err c.in_err-next_sector.field-0.0 = search rules in
    counts-err c.from_residual-in_err-next_sector.result c.in_err-next_sector.field-0.0 _ _ _ _ _ _ is (c.in_err-next_sector.ensures.counts (g.N.NewDisk.faults c.loop-part.disk)).1 i.calm i.quiet

pub returns-in-End-clause-answered : goal.returns-in-End-clause-answered
returns-in-End-clause-answered g c = λ had long plain takes.
    let t : Target = g.N.NewDisk.target c.args.disk.now in
    let r = c.loop-part.invariant.read had long plain takes in
    let next = subst (λ (p : Part). HasNext c.loop-part.count p (g.S.Source.content c.loop-part.source) c.next_sector.new.to (g.S.Source.content c.next_sector.new.source)) c.in-End.is c.in_ok-next_sector.ensures.read in
    end-answers t had _ _ c.loop-part.count c.in-End.part c.loop-part.held c.next_sector.new.to (g.N.NewDisk.holds c.loop-part.disk) r.0 c.end_fixed.result r.2 r.1 next c.next_sector.array_long c.end_fixed.ensures.made c.end_fixed.ensures.denied

pub returns-in-End-clause-spent : goal.returns-in-End-clause-spent
returns-in-End-clause-spent g c =
    let next = subst (λ (p : Part). HasNext c.loop-part.count p (g.S.Source.content c.loop-part.source) c.next_sector.new.to (g.S.Source.content c.next_sector.new.source)) c.in-End.is c.in_ok-next_sector.ensures.read in
    on-ok c.end_fixed.result (IsSpent (g.S.Source.content c.next_sector.new.source)) next.3

pub returns-in-End-clause-some : goal.returns-in-End-clause-some
returns-in-End-clause-some g c = IfOk-weaker c.end_fixed.result _ _ (λ k made. made.2) c.end_fixed.ensures.made

pub returns-in-End-clause-fits : goal.returns-in-End-clause-fits
returns-in-End-clause-fits g c =
    let t : Target = g.N.NewDisk.target c.args.disk.now in
    IfOk-weaker c.end_fixed.result _ (λ k. div_up k c.args.block ≤ c.args.entries)
    (λ k made. let e : c.loop-part.count - 1 ≡ k = omega (arith, made.0) in fits-size t k c.args.entries c.args.block c.requires.entries c.requires.block (ap (is_too_large t) (sym e) ∙ c.loop-part.invariant.fits)) c.end_fixed.ensures.made

pub returns-in-End-clause-begun : goal.returns-in-End-clause-begun
returns-in-End-clause-begun g c = on-ok c.end_fixed.result (g.N.NewDisk.begun c.loop-part.disk ≡ true) c.loop-part.invariant.begun

pub returns-in-End-clause-counts : goal.returns-in-End-clause-counts
returns-in-End-clause-counts g c =
    counts-same c.end_fixed.result _ _ _ _ ((c.in_ok-next_sector.ensures.counts 0).0.0 ∙ c.loop-part.invariant.calm) c.loop-part.invariant.quiet c.end_fixed.ensures.counts

pub returns-then-is_too_large-clause-answered : goal.returns-then-is_too_large-clause-answered
returns-then-is_too_large-clause-answered g c = λ had long plain takes.
    let t : Target = g.N.NewDisk.target c.args.disk.now in
    let i = c.loop-part.invariant in
    let r = i.read had long plain takes in
    let next = subst (λ (p : Part). HasNext c.loop-part.count p (g.S.Source.content c.loop-part.source) c.next_sector.new.to (g.S.Source.content c.next_sector.new.source)) c.in-Whole.is c.in_ok-next_sector.ensures.read in
    let large : is_too_large t c.loop-part.count ≡ true = sym (c.is_too_large.ensures t c.requires.entries c.requires.block) ∙ c.if-is_too_large.true in
    (large-fixed t had _ _ c.loop-part.count c.loop-part.held c.next_sector.new.to r.0 r.2 (omega (arith, i.some)) c.next_sector.array_long next.0 next.1 large, tt)

pub returns-then-is_too_large-clause-counts : goal.returns-then-is_too_large-clause-counts
returns-then-is_too_large-clause-counts g c = (tt, ((c.in_ok-next_sector.ensures.counts 0).0.0 ∙ c.loop-part.invariant.calm, c.loop-part.invariant.quiet))

pub put_sector-requires-clause-below : goal.put_sector-requires-clause-below
put_sector-requires-clause-below g c =
    let t : Target = g.N.NewDisk.target c.args.disk.now in
    let i = c.loop-part.invariant in
    let some : 0 < t.block = omega (arith, c.requires.some, c.requires.block) in
    let small : is_too_large t c.loop-part.count ≡ false = sym (c.is_too_large.ensures t c.requires.entries c.requires.block) ∙ c.if-is_too_large.false in
    subst (λ (x : Target). (c.loop-part.count - 1) / x.block < x.entries) (sym i.target) (fits-below t c.loop-part.count some (omega (arith, i.some)) small)

pub returns-in_err-put_sector-clause-answered : goal.returns-in_err-put_sector-clause-answered
returns-in_err-put_sector-clause-answered g c = λ had long plain takes.
    let t : Target = g.N.NewDisk.target c.args.disk.now in
    let i = c.loop-part.invariant in
    let r = i.read had long plain takes in
    let p : Put = record { sector = c.loop-part.count - 1; bytes = c.loop-part.held } in
    let next = subst (λ (x : Part). HasNext c.loop-part.count x (g.S.Source.content c.loop-part.source) c.next_sector.new.to (g.S.Source.content c.next_sector.new.source)) c.in-Whole.is c.in_ok-next_sector.ensures.read in
    let small : is_too_large t c.loop-part.count ≡ false = sym (c.is_too_large.ensures t c.requires.entries c.requires.block) ∙ c.if-is_too_large.false in
    let is : c.from_residual-in_err-put_sector.result ≡ Err c.in_err-put_sector.field-0.0 = search rules in
    imported-err t had c.from_residual-in_err-put_sector.result _ c.in_err-put_sector.field-0.0 is
    (room-says t had (put_lacks (g.N.NewDisk.target c.loop-part.disk) p r.0) c.in_err-put_sector.field-0.0 (c.in_err-put_sector.ensures.room r.0 r.1) (λ x room.
    full-fixed t had _ _ c.loop-part.count c.loop-part.held c.next_sector.new.to r.0 x r.2 (omega (arith, i.some)) c.next_sector.array_long next.0 next.1 small (ap (λ (y : Target). put_lacks y p r.0) (sym i.target) ∙ room)))

pub returns-in_err-put_sector-clause-counts : goal.returns-in_err-put_sector-clause-counts
returns-in_err-put_sector-clause-counts g c =
    let i = c.loop-part.invariant in
    let is : c.from_residual-in_err-put_sector.result ≡ Err c.in_err-put_sector.field-0.0 = search rules in
    counts-err c.from_residual-in_err-put_sector.result c.in_err-put_sector.field-0.0 _ _ _ _ _ _ is (c.in_err-put_sector.ensures.counts (g.S.Source.faults c.next_sector.new.source)).1 ((c.in_ok-next_sector.ensures.counts 0).0.0 ∙ i.calm) i.quiet

pub loop-part-preserved : goal.loop-part-preserved
loop-part-preserved g c =
    let t : Target = g.N.NewDisk.target c.args.disk.now in
    let i = c.loop-part.invariant in
    let p : Put = record { sector = c.loop-part.count - 1; bytes = c.loop-part.held } in
    let next = subst (λ (x : Part). HasNext c.loop-part.count x (g.S.Source.content c.loop-part.source) c.next_sector.new.to (g.S.Source.content c.next_sector.new.source)) c.in-Whole.is c.in_ok-next_sector.ensures.read in
    let small : is_too_large t c.loop-part.count ≡ false = sym (c.is_too_large.ensures t c.requires.entries c.requires.block) ∙ c.if-is_too_large.false in
    record {
      some = omega arith;
      few = omega (arith, next.0);
      fits = let e : c.loop-part.count ≡ c.loop-part.count + 1 - 1 = omega arith in ap (is_too_large t) (sym e) ∙ small;
      begun = c.in_ok-put_sector.ensures.begun;
      target = c.in_ok-put_sector.ensures.target ∙ i.target;
      since = λ o k. c.in_ok-put_sector.ensures.since o (i.since o k);
      calm = (c.in_ok-next_sector.ensures.counts 0).0.0 ∙ i.calm;
      quiet = (c.in_ok-put_sector.ensures.counts 0).0.1 ∙ i.quiet;
      read = λ had long plain takes.
          let r = i.read had long plain takes in
          let room = c.in_ok-put_sector.ensures.room r.0 r.1 in (
            p ∷ r.0,
            c.in_ok-put_sector.ensures.holds r.0 r.1,
            more-fixed t had _ _ c.loop-part.count c.loop-part.held c.next_sector.new.to r.0 r.2 (omega (arith, i.some)) c.next_sector.array_long next.0 next.1 small (ap (λ (y : Target). put_lacks y p r.0) (sym i.target) ∙ room),
          );
    }
