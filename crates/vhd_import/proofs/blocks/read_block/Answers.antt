use Rattle.std.proofs.Common.{◌≡◌, inl, inr, ⊎_elim, ℕ, ◌+◌, ◌*◌, ◌/◌, ◌<◌, ◌≤◌, ◌∷◌, List, ◌++◌, Err, refl, sym, ap, ◌∙◌, arith, rules, subst}
use Rattle.std.proofs.lemmas.Bool.{cases_Bool}
use Rattle.vhd_import.specs.Blocks.{GoesOn}
use Rattle.vhd_import.specs.Making.{put_lacks}
use Rattle.vhd_import.specs.Room.{Target}
use Rattle.vhd_import.specs.Verdicts.{sector_limit}
use Rattle.vhd_import.proofs.BlockLaws.{asked-parts, fits-at, same-place, unasked-parts}
use Rattle.vhd_import.proofs.FixedLaws.{room-says}
use Rattle.vhd_import.proofs.FrontLaws.{counts-err, says-err}
use Rattle.vhd_import.proofs.InBlockLaws.{bits-read, open-more, open-now, pass-more, put-more, put-says}
use Rattle.vhd_import.proofs.blocks.read_block.Goals as goal

pub returns-in_err-whole_sector-clause-says : goal.returns-in_err-whole_sector-clause-says
returns-in_err-whole_sector-clause-says g c = λ had front puts f w block held.
    let t : Target = g.N.NewDisk.target c.args.disk.now in
    let is : c.from_residual.result ≡ Err c.in_err-whole_sector.field-0.0 = search rules in
    says-err t had c.from_residual.result c.in_err-whole_sector.field-0.0 is
    (c.in_err-whole_sector.ensures.says t had front puts w.read (omega (arith, w.long, c.from-place.ensures)) (open-now t had front f c.args.sectors c.args.entry.place c.args.entry.block w.tabled w.there w.at w.long))

pub returns-in_err-whole_sector-clause-counts : goal.returns-in_err-whole_sector-clause-counts
returns-in_err-whole_sector-clause-counts g c =
    let is : c.from_residual.result ≡ Err c.in_err-whole_sector.field-0.0 = search rules in
    counts-err c.from_residual.result c.in_err-whole_sector.field-0.0 _ _ _ _ _ _ is (c.in_err-whole_sector.ensures.counts (g.N.NewDisk.faults c.args.disk.now)).1 refl refl

pub loop-i-init : goal.loop-i-init
loop-i-init g c =
    let next = c.in_ok-whole_sector.ensures.read in
    record {
      few = omega (arith, next.0, c.from-place.ensures);
      begun = c.requires.begun;
      target = refl;
      since = λ o k. k;
      calm = (c.in_ok-whole_sector.ensures.counts 0).0.0;
      quiet = refl;
      read = λ had front puts f w block held.
          bits-read (g.N.NewDisk.target c.args.disk.now) had front f c.args.sectors c.args.entry.place c.args.entry.block w.tabled w.there w.at w.long _ _ puts (g.N.NewDisk.holds c.args.disk.now) c.whole_sector.new.to w.read held c.whole_sector.array_long
          (omega (arith, next.0, c.from-place.ensures)) next.1;
    }

pub returns-in_err-whole_sector-2-clause-says : goal.returns-in_err-whole_sector-2-clause-says
returns-in_err-whole_sector-2-clause-says g c = λ had front puts f w block held.
    let t : Target = g.N.NewDisk.target c.args.disk.now in
    let k = c.loop-i.invariant.read had front puts f w block held in
    let is : c.from_residual-in_err-whole_sector-2.result ≡ Err c.in_err-whole_sector-2.field-0.0 = search rules in
    says-err t had c.from_residual-in_err-whole_sector-2.result c.in_err-whole_sector-2.field-0.0 is
    (c.in_err-whole_sector-2.ensures.says t had (front ++ k.goes.more) k.goes.puts k.goes.read (omega (arith, k.goes.long, c.from-place.ensures, c.from-in-loop-i.ensures))
    (open-more t had front f c.args.sectors c.args.entry.place c.args.entry.block w.tabled w.there w.at w.long k.goes.more (omega (arith, k.goes.long, block, c.loop-i-test.true, c.loop-i.auto.i-end))))

pub returns-in_err-whole_sector-2-clause-counts : goal.returns-in_err-whole_sector-2-clause-counts
returns-in_err-whole_sector-2-clause-counts g c =
    let i = c.loop-i.invariant in
    let is : c.from_residual-in_err-whole_sector-2.result ≡ Err c.in_err-whole_sector-2.field-0.0 = search rules in
    counts-err c.from_residual-in_err-whole_sector-2.result c.in_err-whole_sector-2.field-0.0 _ _ _ _ _ _ is (c.in_err-whole_sector-2.ensures.counts (g.N.NewDisk.faults c.loop-i.disk)).1 i.calm i.quiet

pub put_where-requires-clause-below : goal.put_where-requires-clause-below
put_where-requires-clause-below g c = λ asked.
    let t : Target = g.N.NewDisk.target c.args.disk.now in
    let at : ℕ = c.from.result * c.from-2.result + c.from-in-loop-i-2.result in
    let p = asked-parts c.whole_sector.new.to c.loop-i.i at c.args.sectors c.is_kept-asked.result c.is_kept-asked.ensures asked in
    subst (λ (x : Target). at / x.block < x.entries) (sym c.loop-i.invariant.target) (fits-at t at c.args.sectors c.requires.some p.1 c.requires.fits)

pub returns-in_err-put_where-clause-says : goal.returns-in_err-put_where-clause-says
returns-in_err-put_where-clause-says g c = λ had front puts f w block held.
    let t : Target = g.N.NewDisk.target c.args.disk.now in
    let i = c.loop-i.invariant in
    let k = i.read had front puts f w block held in
    let at : ℕ = c.from.result * c.from-2.result + c.from-in-loop-i-2.result in
    let e : at ≡ c.args.entry.block * f.block + c.loop-i.i =
    same-place c.from.result c.from-2.result c.from-in-loop-i-2.result c.args.entry.block c.args.block c.loop-i.i f.block c.from.ensures c.from-2.ensures c.from-in-loop-i-2.ensures block in
    let s : List ℕ = c.whole_sector-in-loop-i.new.to in
    let next = c.in_ok-whole_sector-2.ensures.read in
    let less : c.loop-i.i < f.block = omega (arith, block, c.loop-i-test.true, c.loop-i.auto.i-end) in
    let few : c.args.entry.place + 1 + c.loop-i.i < sector_limit = omega (arith, next.0, c.from-place.ensures, c.from-in-loop-i.ensures) in
    let is : c.from_residual-in_err-put_where.result ≡ Err c.in_err-put_where.field-0.0 = search rules in
    says-err t had c.from_residual-in_err-put_where.result c.in_err-put_where.field-0.0 is
    (⊎_elim
    (λ asked.
    let p = asked-parts c.whole_sector.new.to c.loop-i.i at c.args.sectors c.is_kept-asked.result c.is_kept-asked.ensures asked in
    room-says t had (put_lacks (g.N.NewDisk.target c.loop-i.disk) (record { sector = at; bytes = s }) k.goes.puts) c.in_err-put_where.field-0.0 (c.in_err-put_where.ensures.room asked k.goes.puts k.goes.held) (λ r lack.
    put-says t had front f c.args.sectors c.args.entry.place c.args.entry.block w.tabled w.there w.at w.long _ _ (g.N.NewDisk.holds c.loop-i.disk) c.loop-i.i c.whole_sector.new.to s k less c.whole_sector-in-loop-i.array_long few next.1 r p.0
    (subst (λ n. n < c.args.sectors) e p.1)
    (ap (λ n. put_lacks t (record { sector = n; bytes = s }) k.goes.puts) (sym e) ∙ ap (λ (x : Target). put_lacks x (record { sector = at; bytes = s }) k.goes.puts) (sym i.target) ∙ lack)))
    (λ unasked. absurd (c.in_err-put_where.ensures.fine unasked))
    (cases_Bool c.is_kept-asked.result))

pub returns-in_err-put_where-clause-counts : goal.returns-in_err-put_where-clause-counts
returns-in_err-put_where-clause-counts g c =
    let i = c.loop-i.invariant in
    let is : c.from_residual-in_err-put_where.result ≡ Err c.in_err-put_where.field-0.0 = search rules in
    counts-err c.from_residual-in_err-put_where.result c.in_err-put_where.field-0.0 _ _ _ _ _ _ is (c.in_err-put_where.ensures.counts (g.S.Source.faults c.whole_sector-in-loop-i.new.source)).1 ((c.in_ok-whole_sector-2.ensures.counts 0).0.0 ∙ i.calm) i.quiet

pub loop-i-preserved : goal.loop-i-preserved
loop-i-preserved g c =
    let i = c.loop-i.invariant in
    let next = c.in_ok-whole_sector-2.ensures.read in
    record {
      few = omega (arith, next.0, c.from-place.ensures, c.from-in-loop-i.ensures);
      begun = c.in_ok-put_where.ensures.begun;
      target = c.in_ok-put_where.ensures.target ∙ i.target;
      since = λ o k. c.in_ok-put_where.ensures.since o (i.since o k);
      calm = (c.in_ok-whole_sector-2.ensures.counts 0).0.0 ∙ i.calm;
      quiet = (c.in_ok-put_where.ensures.counts 0).0.1 ∙ i.quiet;
      read = λ had front puts f w block held.
          let t : Target = g.N.NewDisk.target c.args.disk.now in
          let k = i.read had front puts f w block held in
          let at : ℕ = c.from.result * c.from-2.result + c.from-in-loop-i-2.result in
          let e : at ≡ c.args.entry.block * f.block + c.loop-i.i =
          same-place c.from.result c.from-2.result c.from-in-loop-i-2.result c.args.entry.block c.args.block c.loop-i.i f.block c.from.ensures c.from-2.ensures c.from-in-loop-i-2.ensures block in
          let s : List ℕ = c.whole_sector-in-loop-i.new.to in
          let less : c.loop-i.i < f.block = omega (arith, block, c.loop-i-test.true, c.loop-i.auto.i-end) in
          let few : c.args.entry.place + 1 + c.loop-i.i < sector_limit = omega (arith, next.0, c.from-place.ensures, c.from-in-loop-i.ensures) in
          ⊎_elim
          (λ asked.
          let p = asked-parts c.whole_sector.new.to c.loop-i.i at c.args.sectors c.is_kept-asked.result c.is_kept-asked.ensures asked in
          put-more t had front f c.args.sectors c.args.entry.place c.args.entry.block w.tabled w.there w.at w.long _ _ (g.N.NewDisk.holds c.loop-i.disk) c.loop-i.i c.whole_sector.new.to s k less c.whole_sector-in-loop-i.array_long few next.1
          (g.N.NewDisk.holds c.put_where.new.disk) p.0 (subst (λ n. n < c.args.sectors) e p.1)
          (ap (λ n. put_lacks t (record { sector = n; bytes = s }) k.goes.puts) (sym e) ∙ ap (λ (x : Target). put_lacks x (record { sector = at; bytes = s }) k.goes.puts) (sym i.target)
          ∙ c.in_ok-put_where.ensures.room asked k.goes.puts k.goes.held)
          (subst (λ n. g.N.NewDisk.holds c.put_where.new.disk (record { sector = n; bytes = s } ∷ k.goes.puts)) e (c.in_ok-put_where.ensures.holds asked k.goes.puts k.goes.held)))
          (λ unasked.
          let p = unasked-parts c.whole_sector.new.to c.loop-i.i at c.args.sectors c.is_kept-asked.result c.is_kept-asked.ensures unasked in
          pass-more t had front f c.args.sectors c.args.entry.place c.args.entry.block w.tabled w.there w.at w.long _ _ (g.N.NewDisk.holds c.loop-i.disk) c.loop-i.i c.whole_sector.new.to s k less c.whole_sector-in-loop-i.array_long few next.1
          (g.N.NewDisk.holds c.put_where.new.disk) (⊎_elim (λ set. inl set) (λ past. inr (subst (λ n. c.args.sectors ≤ n) e past)) p)
          (c.in_ok-put_where.ensures.kept unasked k.goes.puts k.goes.held))
          (cases_Bool c.is_kept-asked.result);
    }

pub returns-clause-read : goal.returns-clause-read
returns-clause-read g c = λ had front puts f w block held.
    let t : Target = g.N.NewDisk.target c.args.disk.now in
    let k = c.loop-i.invariant.read had front puts f w block held in
    let end : c.args.entry.place + 1 + c.loop-i.i ≡ c.args.entry.place + 1 + c.args.block = omega (arith, c.loop-i-test.false, c.loop-i.auto.i-end) in
    subst (λ n. GoesOn t had (g.S.Source.content c.loop-i.source) front (g.N.NewDisk.holds c.loop-i.disk) n) end k.goes
