use Rattle.std.proofs.Common.{◌≡◌, ◌+◌, true, List, [], ◌∷◌, ◌++◌, drop, get_or, Err, refl, sym, ap, ◌∙◌, arith, rules, subst}
use Rattle.std.proofs.lemmas.List.{drop_more}
use Rattle.vhd_import.specs.declared.tables.Entry.{Entry}
use Rattle.vhd_import.specs.Apart.{stand_apart}
use Rattle.vhd_import.specs.Blocks.{GoesOn, IsBeforeBlock}
use Rattle.vhd_import.specs.Progress.{FaultSays, IsOpenUntil, IsQuiet}
use Rattle.vhd_import.specs.Room.{Target}
use Rattle.vhd_import.proofs.FrontLaws.{counts-err, says-err}
use Rattle.vhd_import.proofs.WalkLaws.{IsAmong, apart-parts, before-block, first-among, last-among, next-among, open-place, past-none, quiet-place}
use Rattle.vhd_import.proofs.blocks.read_blocks.Goals as goal

none : Entry
none = record { place = 0; block = 0 }

pub loop-entry-init : goal.loop-entry-init
loop-entry-init g c = record {
  few = c.requires.few;
  apart = c.requires.apart;
  begun = c.requires.begun;
  target = refl;
  since = λ o k. k;
  calm = refl;
  quiet = refl;
  read = λ had front puts f w block at held. first-among (g.N.NewDisk.target c.args.disk.now) had _ front puts (g.N.NewDisk.holds c.args.disk.now) f c.args.sectors c.args.from c.args.entries.now w held at;
}

pub skip-requires-clause-order : goal.skip-requires-clause-order
unfolding none
skip-requires-clause-order g c =
    let e : Entry = get_or c.args.entries.now c.loop-entry.entry-index none in
    let rest : List Entry = drop (c.loop-entry.entry-index + 1) c.args.entries.now in
    let more = drop_more c.args.entries.now c.loop-entry.entry-index none (omega (arith, c.loop-entry-test.true)) in
    let apart : stand_apart c.loop-entry.count (1 + c.args.block) (e ∷ rest) ≡ true = ap (stand_apart c.loop-entry.count (1 + c.args.block)) (sym more) ∙ c.loop-entry.invariant.apart in
    omega (arith, (apart-parts c.loop-entry.count (1 + c.args.block) e rest apart).0, c.from-place.ensures)

pub returns-in_err-skip-clause-says : goal.returns-in_err-skip-clause-says
unfolding none
returns-in_err-skip-clause-says g c = λ had front puts f w block at held.
    let t : Target = g.N.NewDisk.target c.args.disk.now in
    let i = c.loop-entry.invariant in
    let e : Entry = get_or c.args.entries.now c.loop-entry.entry-index none in
    let rest : List Entry = drop (c.loop-entry.entry-index + 1) c.args.entries.now in
    let more = drop_more c.args.entries.now c.loop-entry.entry-index none (omega (arith, c.loop-entry-test.true)) in
    let apart : stand_apart c.loop-entry.count (1 + f.block) (e ∷ rest) ≡ true =
    ap (λ n. stand_apart c.loop-entry.count (1 + n) (e ∷ rest)) block ∙ ap (stand_apart c.loop-entry.count (1 + c.args.block)) (sym more) ∙ i.apart in
    let k = subst (λ l. IsAmong t had (g.S.Source.content c.loop-entry.source) front (g.N.NewDisk.holds c.loop-entry.disk) f l c.loop-entry.count) more (i.read had front puts f w block at held) in
    let place : c.from-place.result ≡ e.place = c.from-place.ensures in
    let quiet = subst (λ n. IsQuiet t (front ++ k.goes.more) n) (sym place) (quiet-place t had _ front (g.N.NewDisk.holds c.loop-entry.disk) f c.args.sectors c.loop-entry.count e rest w.tabled k apart) in
    let open_so = subst (λ n. IsOpenUntil (front ++ k.goes.more) n) (sym place) (open-place t had _ front (g.N.NewDisk.holds c.loop-entry.disk) f c.args.sectors c.loop-entry.count e rest w.tabled k apart) in
    let is : c.from_residual.result ≡ Err c.in_err-skip.field-0.0 = search rules in
    says-err t had c.from_residual.result c.in_err-skip.field-0.0 is (c.in_err-skip.ensures.says t had (front ++ k.goes.more) k.goes.puts k.goes.read k.goes.long quiet open_so)

pub returns-in_err-skip-clause-counts : goal.returns-in_err-skip-clause-counts
returns-in_err-skip-clause-counts g c =
    let i = c.loop-entry.invariant in
    let is : c.from_residual.result ≡ Err c.in_err-skip.field-0.0 = search rules in
    counts-err c.from_residual.result c.in_err-skip.field-0.0 _ _ _ _ _ _ is (c.in_err-skip.ensures.counts (g.N.NewDisk.faults c.loop-entry.disk)).1 i.calm i.quiet

pub returns-in_err-read_block-clause-says : goal.returns-in_err-read_block-clause-says
unfolding none
returns-in_err-read_block-clause-says g c = λ had front puts f w block at held.
    let t : Target = g.N.NewDisk.target c.args.disk.now in
    let i = c.loop-entry.invariant in
    let e : Entry = get_or c.args.entries.now c.loop-entry.entry-index none in
    let rest : List Entry = drop (c.loop-entry.entry-index + 1) c.args.entries.now in
    let more = drop_more c.args.entries.now c.loop-entry.entry-index none (omega (arith, c.loop-entry-test.true)) in
    let apart : stand_apart c.loop-entry.count (1 + f.block) (e ∷ rest) ≡ true =
    ap (λ n. stand_apart c.loop-entry.count (1 + n) (e ∷ rest)) block ∙ ap (stand_apart c.loop-entry.count (1 + c.args.block)) (sym more) ∙ i.apart in
    let k = subst (λ l. IsAmong t had (g.S.Source.content c.loop-entry.source) front (g.N.NewDisk.holds c.loop-entry.disk) f l c.loop-entry.count) more (i.read had front puts f w block at held) in
    let place : c.from-place.result ≡ e.place = c.from-place.ensures in
    let quiet = subst (λ n. IsQuiet t (front ++ k.goes.more) n) (sym place) (quiet-place t had _ front (g.N.NewDisk.holds c.loop-entry.disk) f c.args.sectors c.loop-entry.count e rest w.tabled k apart) in
    let s = c.in_ok-skip.ensures.read t had (front ++ k.goes.more) k.goes.puts k.goes.read k.goes.long quiet in
    let before = before-block t had _ front (g.N.NewDisk.holds c.loop-entry.disk) f c.args.sectors c.loop-entry.count e rest w.tabled k apart _ s.0 s.1 (s.2 ∙ place) in
    let here = subst (λ (x : Target). IsBeforeBlock x had (g.S.Source.content c.skip.new.source) ((front ++ k.goes.more) ++ s.0) k.goes.puts f c.args.sectors e.place e.block) (sym i.target) before in
    let is : c.from_residual-in_err-read_block.result ≡ Err c.in_err-read_block.field-0.0 = search rules in
    says-err t had c.from_residual-in_err-read_block.result c.in_err-read_block.field-0.0 is
    (subst (λ (x : Target). FaultSays x had c.in_err-read_block.field-0.0) i.target (c.in_err-read_block.ensures.says had ((front ++ k.goes.more) ++ s.0) k.goes.puts f here block k.goes.held))

pub returns-in_err-read_block-clause-counts : goal.returns-in_err-read_block-clause-counts
returns-in_err-read_block-clause-counts g c =
    let i = c.loop-entry.invariant in
    let is : c.from_residual-in_err-read_block.result ≡ Err c.in_err-read_block.field-0.0 = search rules in
    counts-err c.from_residual-in_err-read_block.result c.in_err-read_block.field-0.0 _ _ _ _ _ _ is c.in_err-read_block.ensures.counts.1 ((c.in_ok-skip.ensures.counts 0).0.0 ∙ i.calm) i.quiet

pub loop-entry-preserved : goal.loop-entry-preserved
unfolding none
loop-entry-preserved g c =
    let t : Target = g.N.NewDisk.target c.args.disk.now in
    let i = c.loop-entry.invariant in
    let e : Entry = get_or c.args.entries.now c.loop-entry.entry-index none in
    let rest : List Entry = drop (c.loop-entry.entry-index + 1) c.args.entries.now in
    let more = drop_more c.args.entries.now c.loop-entry.entry-index none (omega (arith, c.loop-entry-test.true)) in
    let place : c.from-place.result ≡ e.place = c.from-place.ensures in
    let end : c.from-place.result + 1 + c.from.result ≡ e.place + 1 + c.args.block = omega (arith, place, c.from.ensures) in
    let stands : stand_apart c.loop-entry.count (1 + c.args.block) (e ∷ rest) ≡ true = ap (stand_apart c.loop-entry.count (1 + c.args.block)) (sym more) ∙ i.apart in
    record {
      few = omega (arith, end, c.in_ok-read_block.ensures.within);
      apart = let same : c.from-place.result + 1 + c.from.result ≡ e.place + (1 + c.args.block) = omega (arith, end) in ap (λ n. stand_apart n (1 + c.args.block) rest) same ∙ (apart-parts c.loop-entry.count (1 + c.args.block) e rest stands).1;
      begun = c.in_ok-read_block.ensures.begun;
      target = c.in_ok-read_block.ensures.target ∙ i.target;
      since = λ o k. c.in_ok-read_block.ensures.since o (i.since o k);
      calm = c.in_ok-read_block.ensures.counts.0.0 ∙ (c.in_ok-skip.ensures.counts 0).0.0 ∙ i.calm;
      quiet = c.in_ok-read_block.ensures.counts.0.1 ∙ i.quiet;
      read = λ had front puts f w block at held.
          let apart : stand_apart c.loop-entry.count (1 + f.block) (e ∷ rest) ≡ true = ap (λ n. stand_apart c.loop-entry.count (1 + n) (e ∷ rest)) block ∙ stands in
          let k = subst (λ l. IsAmong t had (g.S.Source.content c.loop-entry.source) front (g.N.NewDisk.holds c.loop-entry.disk) f l c.loop-entry.count) more (i.read had front puts f w block at held) in
          let quiet = subst (λ n. IsQuiet t (front ++ k.goes.more) n) (sym place) (quiet-place t had _ front (g.N.NewDisk.holds c.loop-entry.disk) f c.args.sectors c.loop-entry.count e rest w.tabled k apart) in
          let s = c.in_ok-skip.ensures.read t had (front ++ k.goes.more) k.goes.puts k.goes.read k.goes.long quiet in
          let before = before-block t had _ front (g.N.NewDisk.holds c.loop-entry.disk) f c.args.sectors c.loop-entry.count e rest w.tabled k apart _ s.0 s.1 (s.2 ∙ place) in
          let here = subst (λ (x : Target). IsBeforeBlock x had (g.S.Source.content c.skip.new.source) ((front ++ k.goes.more) ++ s.0) k.goes.puts f c.args.sectors e.place e.block) (sym i.target) before in
          let j = subst (λ (x : Target). GoesOn x had (g.S.Source.content c.read_block.new.source) ((front ++ k.goes.more) ++ s.0) (g.N.NewDisk.holds c.read_block.new.disk) (e.place + 1 + c.args.block)) i.target
          (c.in_ok-read_block.ensures.read had ((front ++ k.goes.more) ++ s.0) k.goes.puts f here block k.goes.held) in
          subst (λ n. IsAmong t had (g.S.Source.content c.read_block.new.source) front (g.N.NewDisk.holds c.read_block.new.disk) f rest n) (sym end)
          (next-among t had _ front (g.N.NewDisk.holds c.loop-entry.disk) f c.args.sectors c.loop-entry.count e rest w.tabled k apart _ s.0 s.1 (s.2 ∙ place) _ (g.N.NewDisk.holds c.read_block.new.disk) (e.place + 1 + c.args.block) j (omega (arith, block)));
    }

pub returns-clause-read : goal.returns-clause-read
returns-clause-read g c = λ had front puts f w block at held.
    let t : Target = g.N.NewDisk.target c.args.disk.now in
    let none_left : drop c.loop-entry.entry-index c.args.entries.now ≡ [] = past-none c.args.entries.now c.loop-entry.entry-index (omega (arith, c.loop-entry-test.false)) in
    last-among t had _ front (g.N.NewDisk.holds c.loop-entry.disk) f c.loop-entry.count
    (subst (λ l. IsAmong t had (g.S.Source.content c.loop-entry.source) front (g.N.NewDisk.holds c.loop-entry.disk) f l c.loop-entry.count) none_left (c.loop-entry.invariant.read had front puts f w block at held))
