use Rattle.std.proofs.Common.{◌≡◌, ℕ, ◌+◌, List, Option, Some, None, false, length, refl, sym, ap, ◌∙◌, rules, arith}
use Rattle.std.specs.Prelude.{is_some}
use Rattle.sm_disk.specs.Held.{reads}
use Rattle.sm_disk.proofs.SectorLaws.{sector-one}
use Rattle.std.proofs.lemmas.Bool.{cond-true, cond-false}
use Rattle.vg_volumes.specs.Stored.{Stored, stored, held_in}
use Rattle.vg_volumes.proofs.StoredLaws.{reads_then, works_then}
use Rattle.vhd_image.specs.Bodies.{volume_name, own_now}
use Rattle.vhd_image.proofs.ReadLaws.{same-stored}
use Rattle.vhd_image.proofs.images.Image.read_own.Goals as goal

pub returns-in_err-read_held-clause-works : goal.returns-in_err-read_held-clause-works
returns-in_err-read_held-clause-works g c = works_then c.run.ensures.works c.read_held.ensures.works

pub returns-in_err-read_held-clause-reads_only : goal.returns-in_err-read_held-clause-reads_only
returns-in_err-read_held-clause-reads_only g c = reads_then c.run.ensures.reads_only c.read_held.ensures.reads_only

pub returns-in_ok-read_held-clause-works : goal.returns-in_ok-read_held-clause-works
returns-in_ok-read_held-clause-works g c = works_then c.run.ensures.works c.read_held.ensures.works

pub returns-in_ok-read_held-clause-reads_only : goal.returns-in_ok-read_held-clause-reads_only
returns-in_ok-read_held-clause-reads_only g c = reads_then c.run.ensures.reads_only c.read_held.ensures.reads_only

-- what is not there
none-of : (o : Option (List ℕ)) → is_some o ≡ false → o ≡ None
none-of None h = refl
none-of (Some x) h = absurd cc

pub returns-in_ok-read_held-clause-own : goal.returns-in_ok-read_held-clause-own
returns-in_ok-read_held-clause-own g c = λ told.
    let s = c.args.sector in
    let bytes = c.read_held.new.to in
    let long : length bytes ≡ 512 = search rules in
    let at : s + 0 ≡ s = omega arith in
    let x = stored g.S.Store c.args.store.now in
    let same = same-stored c.run.ensures.reads_only told in
    let own : Stored → ℕ → Option (List ℕ) = λ (y : Stored) (i : ℕ). own_now y c.args.self.now (reads (held_in y (volume_name c.args.self.now))) i in
    ap (own x) (sym at) ∙ ap (λ (y : Stored). own y (s + 0)) (sym same) ∙ c.in_ok-read_held.ensures.gave told 0 (omega (arith, long))
    ∙ ap Some (sector-one bytes long) ∙ sym (cond-true c.in_ok-run.run'.held (Some bytes) None c.if-run.true)

pub returns-else-run-clause-own : goal.returns-else-run-clause-own
returns-else-run-clause-own g c = λ told.
    let s = c.args.sector in
    let at : s + 0 ≡ s = omega arith in
    let x = stored g.S.Store c.args.store.now in
    let own : ℕ → Option (List ℕ) = own_now x c.args.self.now (reads (held_in x (volume_name c.args.self.now))) in
    let alike = (c.in_ok-run.ensures.run told).alike 0 (omega (arith, c.in_ok-run.ensures.some.0)) in
    ap own (sym at) ∙ none-of (own (s + 0)) (alike ∙ c.if-run.false) ∙ sym (cond-false c.in_ok-run.run'.held (Some c.args.to.now) None c.if-run.false)
