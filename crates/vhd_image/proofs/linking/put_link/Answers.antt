use Rattle.std.proofs.Common.{◌≡◌, ℕ, List, ap₂, subst, ◌∙◌}
use Rattle.sm_disk.specs.Held.{reads}
use Rattle.vg_volumes.specs.Stored.{stored, held_in}
use Rattle.vg_volumes.proofs.StoredLaws.{works_then, works_reads, reads_then}
use Rattle.vg_volumes.proofs.CallLaws.{same_in}
use Rattle.vhd_image.specs.Calls.{MayPut}
use Rattle.vhd_image.specs.Links.{link_bytes}
use Rattle.vhd_image.proofs.CallLaws.{only-reads, may_put_same, may_put_after}
use Rattle.vhd_image.proofs.linking.put_link.Goals as goal

pub returns-in_err-front-clause-may_put : goal.returns-in_err-front-clause-may_put
returns-in_err-front-clause-may_put g c = λ told. may_put_same 1 _ (same_in c.args.volume.now c.sector_of.ensures.reads_only told)

pub returns-in_err-back-clause-may_put : goal.returns-in_err-back-clause-may_put
returns-in_err-back-clause-may_put g c = λ told. may_put_same 1 _ (same_in c.args.volume.now (reads_then c.sector_of.ensures.reads_only c.sector_of-2.ensures.reads_only) told)

pub returns-in_err-put_sector-clause-works : goal.returns-in_err-put_sector-clause-works
returns-in_err-put_sector-clause-works g c = works_then (works_reads c.args.volume.now (reads_then c.sector_of.ensures.reads_only c.sector_of-2.ensures.reads_only)) c.put_sector.ensures.works

pub returns-in_err-put_sector-clause-may_put : goal.returns-in_err-put_sector-clause-may_put
returns-in_err-put_sector-clause-may_put g c = λ told.
    let a = held_in (stored g.S.Store c.args.store.now) c.args.volume.now in
    let b = held_in (stored g.S.Store c.put_sector.new.store) c.args.volume.now in
    let back = c.in_ok-back.ensures.gave told ∙ only-reads c.args.volume.now c.sector_of.ensures.reads_only told 2 in
    let bytes : c.link-bytes.result ≡ link_bytes (reads a 1) (reads a 2) c.args.parent.now = c.link-bytes.ensures ∙ ap₂ (λ (x y : List ℕ). link_bytes x y c.args.parent.now) (c.in_ok-front.ensures.gave told) back in
    subst (λ (x : List ℕ). MayPut 1 x a b) bytes (may_put_after (same_in c.args.volume.now (reads_then c.sector_of.ensures.reads_only c.sector_of-2.ensures.reads_only) told) (c.put_sector.ensures.may_put told))

pub returns-clause-works : goal.returns-clause-works
returns-clause-works g c = works_then (works_reads c.args.volume.now (reads_then c.sector_of.ensures.reads_only c.sector_of-2.ensures.reads_only)) c.put_sector.ensures.works

pub returns-clause-may_put : goal.returns-clause-may_put
returns-clause-may_put g c = λ told.
    let a = held_in (stored g.S.Store c.args.store.now) c.args.volume.now in
    let b = held_in (stored g.S.Store c.put_sector.new.store) c.args.volume.now in
    let back = c.in_ok-back.ensures.gave told ∙ only-reads c.args.volume.now c.sector_of.ensures.reads_only told 2 in
    let bytes : c.link-bytes.result ≡ link_bytes (reads a 1) (reads a 2) c.args.parent.now = c.link-bytes.ensures ∙ ap₂ (λ (x y : List ℕ). link_bytes x y c.args.parent.now) (c.in_ok-front.ensures.gave told) back in
    subst (λ (x : List ℕ). MayPut 1 x a b) bytes (may_put_after (same_in c.args.volume.now (reads_then c.sector_of.ensures.reads_only c.sector_of-2.ensures.reads_only) told) (c.put_sector.ensures.may_put told))

pub returns-clause-put : goal.returns-clause-put
returns-clause-put g c = λ told.
    let back = c.in_ok-back.ensures.gave told ∙ only-reads c.args.volume.now c.sector_of.ensures.reads_only told 2 in
    c.in_ok-put_sector.ensures.put told ∙ (c.link-bytes.ensures ∙ ap₂ (λ (x y : List ℕ). link_bytes x y c.args.parent.now) (c.in_ok-front.ensures.gave told) back)

pub returns-in_err-back-clause-works : goal.returns-in_err-back-clause-works
returns-in_err-back-clause-works g c = works_reads c.args.volume.now (reads_then c.sector_of.ensures.reads_only c.sector_of-2.ensures.reads_only)
