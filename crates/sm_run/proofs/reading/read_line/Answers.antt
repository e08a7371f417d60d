use Rattle.std.proofs.Common.{◌≡◌, ◌≤◌, ◌-◌, ◌∷◌, [], ◌++◌, length, take, drop, rules, arith, refl, sym, ap, ◌∙◌}
use Rattle.std.proofs.lemmas.List.{length-take, take-append-le}
use Rattle.sm_run.specs.Parts.{front_of}
use Rattle.sm_run.proofs.ReadLaws.{reading-begins, reading-goes_on, reading-newline, reading-past, piece-other}
use Rattle.sm_run.proofs.reading.read_line.Goals as goal

pub pieces-init : goal.pieces-init
pieces-init g c = record {
  read = reading-begins (g.S.Source.content c.args.source.now) c.args.room.now c.clear.new.self c.clear.ensures;
  calm = refl;
}

pub returns-then-room-eq0-clause-read : goal.returns-then-room-eq0-clause-read
returns-then-room-eq0-clause-read g c =
    let n = c.in_ok-count.count in
    let most = c.clamp-most.result in
    let to = c.read_until.new.to in
    let front : take n (to ++ drop most c.pieces.piece) ≡ take n to = take-append-le n to _ c.in_ok-count.ensures.within in
    let is : take n to ≡ c.in-Some.front.now ++ c.in-Some.last.now ∷ [] = sym front ∙ c.in-Some.ensures.cases.0 in
    let kept : length to ≡ length (take most c.pieces.piece) = search rules in
    let short : length (take n to) ≤ 1 = omega (arith, kept, length-take n to, length-take most c.pieces.piece, c.clamp-most.ensures, c.if-room-eq0.true) in
    reading-past _ _ _ c.args.room.now c.pieces.room c.pieces.room _ (take n to) c.in-Some.front.now c.in-Some.last.now c.pieces.invariant.read
    c.in_ok-count.ensures.takes is short c.if-room-eq0.true

pub returns-then-last-eq10-clause-read : goal.returns-then-last-eq10-clause-read
returns-then-last-eq10-clause-read g c =
    let n = c.in_ok-count.count in
    let most = c.clamp-most.result in
    let to = c.read_until.new.to in
    let front : take n (to ++ drop most c.pieces.piece) ≡ take n to = take-append-le n to _ c.in_ok-count.ensures.within in
    let is : take n to ≡ c.in-Some.front.now ++ c.in-Some.last.now ∷ [] = sym front ∙ c.in-Some.ensures.cases.0 in
    let kept : length to ≡ length (take most c.pieces.piece) = search rules in
    let long : length (take n to) ≡ n = omega (arith, length-take n to, c.in_ok-count.ensures.within) in
    let some : length (take n to) ≤ c.pieces.room = omega (arith, kept, long, length-take n to, length-take most c.pieces.piece, c.clamp-most.ensures, c.if-room-eq0.false) in
    rw (← long) (reading-newline _ _ _ c.args.room.now c.pieces.room _ _ (take n to) c.in-Some.front.now c.in-Some.last.now c.pieces.invariant.read
    c.in_ok-count.ensures.takes c.in_ok-count.ensures.stops is c.if-last-eq10.true some c.push.ensures)

pub pieces-preserved : goal.pieces-preserved
pieces-preserved g c =
    let n = c.in_ok-count.count in
    let most = c.clamp-most.result in
    let to = c.read_until.new.to in
    let front : take n (to ++ drop most c.pieces.piece) ≡ take n to = take-append-le n to _ c.in_ok-count.ensures.within in
    let is : take n to ≡ c.in-Some.front.now ++ c.in-Some.last.now ∷ [] = sym front ∙ c.in-Some.ensures.cases.0 in
    let kept : length to ≡ length (take most c.pieces.piece) = search rules in
    let long : length (take n to) ≡ n = omega (arith, length-take n to, c.in_ok-count.ensures.within) in
    let some : length (take n to) ≤ c.pieces.room = omega (arith, kept, long, length-take n to, length-take most c.pieces.piece, c.clamp-most.ensures, c.if-room-eq0.false) in
    let more : c.push-in-pieces.new.self ≡ front_of (c.pieces.line ++ take n to) = c.push-in-pieces.ensures ∙ ap (λ l. front_of (c.pieces.line ++ l)) front in
    record {
      read = rw (ap (λ k. c.pieces.room - k) (sym long)) (reading-goes_on _ _ _ c.args.room.now c.pieces.room _ _ (take n to) c.pieces.invariant.read c.in_ok-count.ensures.takes
          (piece-other (take n to) c.in-Some.front.now c.in-Some.last.now c.in_ok-count.ensures.stops is c.if-last-eq10.false) some more);
      calm = c.in_ok-count.ensures.cause.1 ∙ c.pieces.invariant.calm;
    }
