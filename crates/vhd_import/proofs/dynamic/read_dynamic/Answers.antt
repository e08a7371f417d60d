use Rattle.std.proofs.Common.{◌≡◌, ◌∷◌, List, [], true, false, ◌++◌, Err, refl, sym, ◌∙◌, rules, subst}
use Rattle.vhd_stream.specs.Files.{File}
use Rattle.vhd_import.specs.declared.tables.Entry.{Entry}
use Rattle.vhd_import.specs.Blocks.{IsBeforeBlocks, IsPastBlocks}
use Rattle.vhd_import.specs.Making.{begin_lacks}
use Rattle.vhd_import.specs.Progress.{FaultSays}
use Rattle.vhd_import.specs.Room.{Target, is_too_large}
use Rattle.vhd_import.proofs.EndLaws.{below-dynamic, ends-dynamic, quiet-rest}
use Rattle.vhd_import.proofs.FixedLaws.{imported-err, room-says}
use Rattle.vhd_import.proofs.FrontLaws.{counts-err}
use Rattle.vhd_import.proofs.HeaderLaws.{begin-says, begun-read, large-says}
use Rattle.vhd_import.proofs.dynamic.read_dynamic.Goals as goal

pub returns-then-is_too_large-clause-answered : goal.returns-then-is_too_large-clause-answered
returns-then-is_too_large-clause-answered g c = λ had first long begins takes.
    let t : Target = g.N.NewDisk.target c.args.disk.now in
    let large : is_too_large t c.args.sectors ≡ true = sym (c.is_too_large.ensures t c.requires.entries c.requires.block) ∙ c.if-is_too_large.true in
    (large-says t had _ first c.args.sectors long begins takes large, tt)

pub returns-in_err-begin_disk-clause-answered : goal.returns-in_err-begin_disk-clause-answered
returns-in_err-begin_disk-clause-answered g c = λ had first long begins takes.
    let t : Target = g.N.NewDisk.target c.args.disk.now in
    let small : is_too_large t c.args.sectors ≡ false = sym (c.is_too_large.ensures t c.requires.entries c.requires.block) ∙ c.if-is_too_large.false in
    let is : c.from_residual.result ≡ Err c.in_err-begin_disk.field-0.0 = search rules in
    imported-err t had c.from_residual.result _ c.in_err-begin_disk.field-0.0 is
    (room-says t had (begin_lacks t) c.in_err-begin_disk.field-0.0 c.in_err-begin_disk.ensures.room (λ r room. begin-says t had _ first c.args.sectors long begins takes r small room))

pub returns-in_err-begin_disk-clause-counts : goal.returns-in_err-begin_disk-clause-counts
returns-in_err-begin_disk-clause-counts g c =
    let is : c.from_residual.result ≡ Err c.in_err-begin_disk.field-0.0 = search rules in
    counts-err c.from_residual.result c.in_err-begin_disk.field-0.0 _ _ _ _ _ _ is (c.in_err-begin_disk.ensures.counts (g.S.Source.faults c.args.source.now)).1 refl refl

pub returns-in_err-front-clause-answered : goal.returns-in_err-front-clause-answered
returns-in_err-front-clause-answered g c = λ had first long begins takes.
    let t : Target = g.N.NewDisk.target c.args.disk.now in
    let small : is_too_large t c.args.sectors ≡ false = sym (c.is_too_large.ensures t c.requires.entries c.requires.block) ∙ c.if-is_too_large.false in
    let begun = begun-read t had _ first c.args.sectors long begins takes small c.in_ok-begin_disk.ensures.room in
    let is : c.from_residual-in_err-front.result ≡ Err c.in_err-front.field-0.0 = search rules in
    imported-err t had c.from_residual-in_err-front.result _ c.in_err-front.field-0.0 is (c.in_err-front.ensures.says t had (first ∷ []) [] begun)

pub returns-in_err-front-clause-counts : goal.returns-in_err-front-clause-counts
returns-in_err-front-clause-counts g c =
    let is : c.from_residual-in_err-front.result ≡ Err c.in_err-front.field-0.0 = search rules in
    counts-err c.from_residual-in_err-front.result c.in_err-front.field-0.0 _ _ _ _ _ _ is (c.in_err-front.ensures.counts (g.N.NewDisk.faults c.begin_disk.new.disk)).1 refl (c.in_ok-begin_disk.ensures.counts 0).0.1

pub returns-in_err-last-clause-answered : goal.returns-in_err-last-clause-answered
returns-in_err-last-clause-answered g c = λ had first long begins takes.
    let t : Target = g.N.NewDisk.target c.args.disk.now in
    let small : is_too_large t c.args.sectors ≡ false = sym (c.is_too_large.ensures t c.requires.entries c.requires.block) ∙ c.if-is_too_large.false in
    let begun = begun-read t had _ first c.args.sectors long begins takes small c.in_ok-begin_disk.ensures.room in
    let r = c.in_ok-front.ensures.read t had (first ∷ []) [] begun in
    let listed = subst (λ (es : List Entry). IsBeforeBlocks t had (g.S.Source.content c.read_front.new.source) ((first ∷ []) ++ r.places.more) [] r.layout c.args.sectors es) (sym c.deref.ensures.value) r.places.before in
    let before = subst (λ (x : Target). IsBeforeBlocks x had (g.S.Source.content c.read_front.new.source) ((first ∷ []) ++ r.places.more) [] r.layout c.args.sectors c.deref.result.now) (sym c.in_ok-begin_disk.ensures.target) listed in
    let is : c.from_residual-in_err-last.result ≡ Err c.in_err-last.field-0.0 = search rules in
    imported-err t had c.from_residual-in_err-last.result _ c.in_err-last.field-0.0 is
    (subst (λ (x : Target). FaultSays x had c.in_err-last.field-0.0) c.in_ok-begin_disk.ensures.target
    (c.in_err-last.ensures.says had ((first ∷ []) ++ r.places.more) [] r.layout before r.block r.end c.in_ok-begin_disk.ensures.holds))

pub returns-in_err-last-clause-counts : goal.returns-in_err-last-clause-counts
returns-in_err-last-clause-counts g c =
    let is : c.from_residual-in_err-last.result ≡ Err c.in_err-last.field-0.0 = search rules in
    counts-err c.from_residual-in_err-last.result c.in_err-last.field-0.0 _ _ _ _ _ _ is c.in_err-last.ensures.counts.1 (c.in_ok-front.ensures.counts 0).0.0 (c.in_ok-begin_disk.ensures.counts 0).0.1

pub returns-in_err-skip_rest-clause-answered : goal.returns-in_err-skip_rest-clause-answered
returns-in_err-skip_rest-clause-answered g c = λ had first long begins takes.
    let t : Target = g.N.NewDisk.target c.args.disk.now in
    let small : is_too_large t c.args.sectors ≡ false = sym (c.is_too_large.ensures t c.requires.entries c.requires.block) ∙ c.if-is_too_large.false in
    let begun = begun-read t had _ first c.args.sectors long begins takes small c.in_ok-begin_disk.ensures.room in
    let r = c.in_ok-front.ensures.read t had (first ∷ []) [] begun in
    let front : File = (first ∷ []) ++ r.places.more in
    let listed = subst (λ (es : List Entry). IsBeforeBlocks t had (g.S.Source.content c.read_front.new.source) front [] r.layout c.args.sectors es) (sym c.deref.ensures.value) r.places.before in
    let before = subst (λ (x : Target). IsBeforeBlocks x had (g.S.Source.content c.read_front.new.source) front [] r.layout c.args.sectors c.deref.result.now) (sym c.in_ok-begin_disk.ensures.target) listed in
    let p = subst (λ (x : Target). IsPastBlocks x had (g.S.Source.content c.read_blocks.new.source) front (g.N.NewDisk.holds c.read_blocks.new.disk) r.layout c.in_ok-last.last) c.in_ok-begin_disk.ensures.target
    (c.in_ok-last.ensures.read had front [] r.layout before r.block r.end c.in_ok-begin_disk.ensures.holds) in
    let is : c.from_residual-in_err-skip_rest.result ≡ Err c.in_err-skip_rest.field-0.0 = search rules in
    imported-err t had c.from_residual-in_err-skip_rest.result _ c.in_err-skip_rest.field-0.0 is
    (c.in_err-skip_rest.ensures.says t had (front ++ p.goes.more) p.goes.puts p.goes.read p.goes.long
    (quiet-rest t had _ front (g.N.NewDisk.holds c.read_blocks.new.disk) r.layout c.args.sectors c.in_ok-last.last r.places.before.tabled p))

pub returns-in_err-skip_rest-clause-counts : goal.returns-in_err-skip_rest-clause-counts
returns-in_err-skip_rest-clause-counts g c =
    let is : c.from_residual-in_err-skip_rest.result ≡ Err c.in_err-skip_rest.field-0.0 = search rules in
    counts-err c.from_residual-in_err-skip_rest.result c.in_err-skip_rest.field-0.0 _ _ _ _ _ _ is (c.in_err-skip_rest.ensures.counts (g.N.NewDisk.faults c.read_blocks.new.disk)).1
    (c.in_ok-last.ensures.counts.0.0 ∙ (c.in_ok-front.ensures.counts 0).0.0) (c.in_ok-last.ensures.counts.0.1 ∙ (c.in_ok-begin_disk.ensures.counts 0).0.1)

pub returns-clause-answered : goal.returns-clause-answered
returns-clause-answered g c = λ had first long begins takes.
    let t : Target = g.N.NewDisk.target c.args.disk.now in
    let small : is_too_large t c.args.sectors ≡ false = sym (c.is_too_large.ensures t c.requires.entries c.requires.block) ∙ c.if-is_too_large.false in
    let begun = begun-read t had _ first c.args.sectors long begins takes small c.in_ok-begin_disk.ensures.room in
    let r = c.in_ok-front.ensures.read t had (first ∷ []) [] begun in
    let front : File = (first ∷ []) ++ r.places.more in
    let listed = subst (λ (es : List Entry). IsBeforeBlocks t had (g.S.Source.content c.read_front.new.source) front [] r.layout c.args.sectors es) (sym c.deref.ensures.value) r.places.before in
    let before = subst (λ (x : Target). IsBeforeBlocks x had (g.S.Source.content c.read_front.new.source) front [] r.layout c.args.sectors c.deref.result.now) (sym c.in_ok-begin_disk.ensures.target) listed in
    let p = subst (λ (x : Target). IsPastBlocks x had (g.S.Source.content c.read_blocks.new.source) front (g.N.NewDisk.holds c.read_blocks.new.disk) r.layout c.in_ok-last.last) c.in_ok-begin_disk.ensures.target
    (c.in_ok-last.ensures.read had front [] r.layout before r.block r.end c.in_ok-begin_disk.ensures.holds) in
    let quiet = quiet-rest t had _ front (g.N.NewDisk.holds c.read_blocks.new.disk) r.layout c.args.sectors c.in_ok-last.last r.places.before.tabled p in
    let rest = c.in_ok-skip_rest.ensures.read t had (front ++ p.goes.more) p.goes.puts p.goes.read p.goes.long quiet in (
      tt,
      record {
        puts = p.goes.puts;
        held = p.goes.held;
        below = below-dynamic t had _ front (g.N.NewDisk.holds c.read_blocks.new.disk) r.layout c.args.sectors c.in_ok-last.last r.places.before.tabled p _ rest.0 rest.1;
        made = ends-dynamic t had _ front (g.N.NewDisk.holds c.read_blocks.new.disk) r.layout c.args.sectors c.in_ok-last.last r.places.before.tabled p _ rest.0 rest.1 c.in_ok-skip_rest.ensures.spent;
      },
    )

pub returns-clause-counts : goal.returns-clause-counts
returns-clause-counts g c = (
  ((c.in_ok-skip_rest.ensures.counts 0).0.0 ∙ c.in_ok-last.ensures.counts.0.0 ∙ (c.in_ok-front.ensures.counts 0).0.0, c.in_ok-last.ensures.counts.0.1 ∙ (c.in_ok-begin_disk.ensures.counts 0).0.1),
  tt,
)
