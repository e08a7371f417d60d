use Rattle.std.proofs.Common.{◌≡◌, ℕ, ◌+◌, ◌-◌, ◌*◌, ◌≤◌, List, length, ap, subst, ◌∙◌, arith}
use Rattle.std.specs.Option.{option_copied}
use Rattle.vg_volumes.specs.Stored.{Stored, stored}
use Rattle.vg_volumes.proofs.StoredLaws.{reads_then}
use Rattle.vhd_image.proofs.ReadLaws.{same-stored}
use Rattle.vhd_chain.specs.Pieces.{AreFilled}
use Rattle.vhd_chain.specs.Reading.{chain_reads}
use Rattle.vhd_chain.proofs.PieceLaws.{holds-still, piece-long, front-stays, piece-put, filled-is}
use Rattle.vhd_chain.proofs.reading.read_on.Goals as goal

pub fill-requires-clause-held : goal.fill-requires-clause-held
fill-requires-clause-held g c =
    let n = c.in_ok-piece.piece.sectors in
    let long = piece-long c.args.to.now c.args.done n (omega (arith, c.in_ok-piece.ensures.some.1)) in
    holds-still c.piece_from.ensures.reads_only (c.args.sector + c.args.done) n _ (option_copied c.in_ok-piece.piece.image) (omega (arith, long)) c.in_ok-piece.ensures.holds

pub returns-in_err-fill-clause-reads_only : goal.returns-in_err-fill-clause-reads_only
returns-in_err-fill-clause-reads_only g c = reads_then c.piece_from.ensures.reads_only c.fill.ensures.reads_only

pub returns-in_err-fill-clause-front : goal.returns-in_err-fill-clause-front
returns-in_err-fill-clause-front g c = λ k below.
    front-stays c.args.to.now c.fill.new.to c.args.done c.in_ok-piece.piece.sectors k (omega (arith, c.in_ok-piece.ensures.some.1)) below

pub returns-clause-reads_only : goal.returns-clause-reads_only
returns-clause-reads_only g c = reads_then c.piece_from.ensures.reads_only c.fill.ensures.reads_only

pub returns-clause-front : goal.returns-clause-front
returns-clause-front g c = λ k below.
    front-stays c.args.to.now c.fill.new.to c.args.done c.in_ok-piece.piece.sectors k (omega (arith, c.in_ok-piece.ensures.some.1)) below

pub returns-clause-read : goal.returns-clause-read
returns-clause-read g c = λ told k from below.
    let n = c.in_ok-piece.piece.sectors in
    let done = c.args.done in
    let xs = c.args.to.now in
    let ys = c.fill.new.to in
    let at = c.args.sector + done in
    let x = stored g.S.Store c.args.store.now in
    let o = option_copied c.in_ok-piece.piece.image in
    let f : ℕ → List ℕ = chain_reads x c.args.rows.now c.args.leaf.now in
    let fits : 512 * (done + n) ≤ length xs = omega (arith, c.in_ok-piece.ensures.some.1) in
    let long : length ys ≡ 512 * n = c.fill.auto.to ∙ piece-long xs done n fits in
    let filled = subst (λ (y : Stored). AreFilled y o at ys) (same-stored c.piece_from.ensures.reads_only told) (c.in_ok-fill.ensures.filled told) in
    let place : at + (k - done) ≡ c.args.sector + k = omega arith in
    piece-put xs ys done n k long fits from below
    ∙ filled-is x f at n o ys (k - done) (c.in_ok-piece.ensures.piece told) filled (omega arith) (omega (arith, long))
    ∙ ap f place
