use Rattle.std.proofs.Common.{◌≡◌, ◌<◌, ◌∷◌, [], Err, false, refl, rules, subst, arith}
use Rattle.std.proofs.lemmas.Result.{IfOk-weaker}
use Rattle.vhd_import.specs.declared.heads.Beginning.{Beginning}
use Rattle.vhd_import.specs.declared.heads.Beginning.TheVariants.{Dynamic, Other}
use Rattle.vhd_import.specs.Beginnings.{BeginsSo}
use Rattle.vhd_import.specs.Progress.{AreCounted}
use Rattle.vhd_import.specs.Room.{Target}
use Rattle.vhd_import.proofs.FileLaws.{differencing-says, dynamic-large, open-none, other-taken, refused-or-not, some-dynamic, where-refused}
use Rattle.vhd_import.proofs.FixedLaws.{imported-err}
use Rattle.vhd_import.proofs.FrontLaws.{counts-err, none-read}
use Rattle.vhd_import.proofs.files.read_file.Goals as goal

pub returns-in_err-whole_sector-clause-answered : goal.returns-in_err-whole_sector-clause-answered
returns-in_err-whole_sector-clause-answered g c =
    let t : Target = g.N.NewDisk.target c.args.disk.now in
    let had = g.S.Source.content c.args.source.now in
    let is : c.from_residual.result ≡ Err c.in_err-whole_sector.field-0.0 = search rules in
    imported-err t had c.from_residual.result _ c.in_err-whole_sector.field-0.0 is (c.in_err-whole_sector.ensures.says t had [] [] (none-read t had) refl open-none)

pub returns-in_err-whole_sector-clause-counts : goal.returns-in_err-whole_sector-clause-counts
returns-in_err-whole_sector-clause-counts g c =
    let is : c.from_residual.result ≡ Err c.in_err-whole_sector.field-0.0 = search rules in
    counts-err c.from_residual.result c.in_err-whole_sector.field-0.0 _ _ _ _ _ _ is (c.in_err-whole_sector.ensures.counts (g.N.NewDisk.faults c.args.disk.now)).1 refl refl

pub returns-in-Differencing-clause-answered : goal.returns-in-Differencing-clause-answered
returns-in-Differencing-clause-answered g c =
    let t : Target = g.N.NewDisk.target c.args.disk.now in
    let next = c.in_ok-whole_sector.ensures.read in
    let begins = subst (λ (b : Beginning). BeginsSo b (c.whole_sector.new.to ∷ [])) c.in-Differencing.is (c.beginning_of.ensures []) in
    (differencing-says t _ _ c.whole_sector.new.to c.whole_sector.array_long begins next.1, tt)

pub returns-in-Differencing-clause-counts : goal.returns-in-Differencing-clause-counts
returns-in-Differencing-clause-counts g c = (tt, ((c.in_ok-whole_sector.ensures.counts 0).0.0, refl))

pub returns-in-Dynamic-clause-answered : goal.returns-in-Dynamic-clause-answered
returns-in-Dynamic-clause-answered g c =
    let next = c.in_ok-whole_sector.ensures.read in
    let begins = subst (λ (b : Beginning). BeginsSo b (c.whole_sector.new.to ∷ [])) c.in-Dynamic.is (c.beginning_of.ensures []) in
    c.read_dynamic.ensures.answered _ c.whole_sector.new.to c.whole_sector.array_long begins next.1

pub returns-in-Dynamic-clause-some : goal.returns-in-Dynamic-clause-some
returns-in-Dynamic-clause-some g c =
    let begins = subst (λ (b : Beginning). BeginsSo b (c.whole_sector.new.to ∷ [])) c.in-Dynamic.is (c.beginning_of.ensures []) in
    let some = some-dynamic (c.whole_sector.new.to ∷ []) c.in-Dynamic.sectors begins in
    IfOk-weaker c.read_dynamic.result _ (λ k. 0 < k) (λ k same. omega (arith, same, some)) c.read_dynamic.ensures.size

pub returns-in-Other-clause-answered : goal.returns-in-Other-clause-answered
returns-in-Other-clause-answered g c =
    let next = c.in_ok-whole_sector.ensures.read in
    let begins = subst (λ (b : Beginning). BeginsSo b (c.whole_sector.new.to ∷ [])) c.in-Other.is (c.beginning_of.ensures []) in
    c.read_fixed.ensures.answered _ c.whole_sector.array_long begins next.1

pub returns-in-Dynamic-clause-counts : goal.returns-in-Dynamic-clause-counts
returns-in-Dynamic-clause-counts g c =
    subst (λ n. AreCounted c.read_dynamic.result n (g.S.Source.faults c.read_dynamic.new.source) (g.N.NewDisk.faults c.args.disk.now) (g.N.NewDisk.faults c.read_dynamic.new.disk)) (c.in_ok-whole_sector.ensures.counts 0).0.0 c.read_dynamic.ensures.counts

pub returns-in-Other-clause-counts : goal.returns-in-Other-clause-counts
returns-in-Other-clause-counts g c =
    subst (λ n. AreCounted c.read_fixed.result n (g.S.Source.faults c.read_fixed.new.source) (g.N.NewDisk.faults c.args.disk.now) (g.N.NewDisk.faults c.read_fixed.new.disk)) (c.in_ok-whole_sector.ensures.counts 0).0.0 c.read_fixed.ensures.counts

pub returns-in_err-whole_sector-clause-unbegun : goal.returns-in_err-whole_sector-clause-unbegun
returns-in_err-whole_sector-clause-unbegun g c = refused-or-not (g.N.NewDisk.target c.args.disk.now) (g.S.Source.content c.args.source.now) (g.N.NewDisk.begun c.args.disk.now ≡ false) c.requires.new

pub returns-in-Differencing-clause-unbegun : goal.returns-in-Differencing-clause-unbegun
returns-in-Differencing-clause-unbegun g c = refused-or-not (g.N.NewDisk.target c.args.disk.now) (g.S.Source.content c.args.source.now) (g.N.NewDisk.begun c.args.disk.now ≡ false) c.requires.new

pub returns-in-Dynamic-clause-unbegun : goal.returns-in-Dynamic-clause-unbegun
returns-in-Dynamic-clause-unbegun g c =
    let t : Target = g.N.NewDisk.target c.args.disk.now in
    let first = c.whole_sector.new.to in
    where-refused t _ _ first (Dynamic c.in-Dynamic.sectors) (g.N.NewDisk.begun c.read_dynamic.new.disk ≡ false) c.whole_sector.array_long
    (λ rest. subst (λ (b : Beginning). BeginsSo b (first ∷ rest)) c.in-Dynamic.is (c.beginning_of.ensures rest)) c.in_ok-whole_sector.ensures.read.1
    (λ file begins refused. c.read_dynamic.ensures.unbegun (dynamic-large t file c.in-Dynamic.sectors begins refused))

pub returns-in-Other-clause-unbegun : goal.returns-in-Other-clause-unbegun
returns-in-Other-clause-unbegun g c =
    let t : Target = g.N.NewDisk.target c.args.disk.now in
    let first = c.whole_sector.new.to in
    where-refused t _ _ first Other (g.N.NewDisk.begun c.read_fixed.new.disk ≡ false) c.whole_sector.array_long
    (λ rest. subst (λ (b : Beginning). BeginsSo b (first ∷ rest)) c.in-Other.is (c.beginning_of.ensures rest)) c.in_ok-whole_sector.ensures.read.1
    (λ file begins refused. absurd (other-taken t file begins refused))
