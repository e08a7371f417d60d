use Rattle.std.proofs.Common.{◌++◌, ℕ, ◌<◌, ◌≤◌, List, ap₂, ◌∙◌, arith}
use Rattle.std.proofs.lemmas.List.{take-append-drop}
use Rattle.sm_disk.specs.Held.{reads}
use Rattle.vg_volumes.specs.Stored.{stored, held_in}
use Rattle.vg_volumes.proofs.StoredLaws.{works_then}
use Rattle.vg_volumes.proofs.VolumeLaws.{KeepsAt-then}
use Rattle.vhd_image.proofs.MakingLaws.{header-wrote, keeps_put}
use Rattle.vhd_image.proofs.making.put_header.Goals as goal

pub returns-in_err-put_sector-2-clause-works : goal.returns-in_err-put_sector-2-clause-works
returns-in_err-put_sector-2-clause-works g c = works_then c.put_sector.ensures.works c.put_sector-2.ensures.works

pub returns-clause-works : goal.returns-clause-works
returns-clause-works g c = works_then c.put_sector.ensures.works c.put_sector-2.ensures.works

pub returns-clause-header : goal.returns-clause-header
returns-clause-header g c = λ told.
    let v = reads (held_in (stored g.S.Store c.put_sector-2.new.store) c.args.volume.now) in
    header-wrote v c.write.new.to c.halves.result.0 c.halves.result.1 c.args.header.now
    ((c.put_sector-2.ensures.may_put told).others 1 (λ e. omega arith) ∙ c.in_ok-put_sector.ensures.put told)
    (c.in_ok-put_sector-2.ensures.put told) c.halves.ensures.front c.halves.ensures.back (c.write.ensures.reads_back c.requires.proper)

pub returns-clause-bytes : goal.returns-clause-bytes
returns-clause-bytes g c = λ told.
    let one = (c.put_sector-2.ensures.may_put told).others 1 (λ e. omega arith) ∙ c.in_ok-put_sector.ensures.put told ∙ c.halves.ensures.front in
    let two = c.in_ok-put_sector-2.ensures.put told ∙ c.halves.ensures.back in
    ap₂ (λ (front back : List ℕ). front ++ back) one two ∙ take-append-drop 512 c.write.new.to ∙ c.write.ensures.bytes

-- sectors 1 and 2
abbrev in_header : ℕ → Type 0
in_header p = (1 ≤ p) × (p < 3)

pub returns-in_err-put_sector-clause-others : goal.returns-in_err-put_sector-clause-others
returns-in_err-put_sector-clause-others g c = λ told. keeps_put in_header 1 _ (omega arith, omega arith) (c.put_sector.ensures.may_put told)

pub returns-in_err-put_sector-2-clause-others : goal.returns-in_err-put_sector-2-clause-others
returns-in_err-put_sector-2-clause-others g c = λ told.
    KeepsAt-then (keeps_put in_header 1 _ (omega arith, omega arith) (c.put_sector.ensures.may_put told)) (keeps_put in_header 2 _ (omega arith, omega arith) (c.put_sector-2.ensures.may_put told))

pub returns-clause-others : goal.returns-clause-others
returns-clause-others g c = λ told.
    KeepsAt-then (keeps_put in_header 1 _ (omega arith, omega arith) (c.put_sector.ensures.may_put told)) (keeps_put in_header 2 _ (omega arith, omega arith) (c.put_sector-2.ensures.may_put told))
