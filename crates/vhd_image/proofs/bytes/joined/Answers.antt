use Rattle.std.proofs.Common.{◌≡◌, ◌≤◌, ◌++◌, List, ℕ, length, sym, ap, ◌∙◌, arith, rules}
use Rattle.std.proofs.lemmas.List.{take_all}
use Rattle.vhd_image.proofs.bytes.joined.Goals as goal

pub returns : goal.returns
returns c =
    let front : length c.args.front.now ≡ 512 = search rules in
    let back : length c.args.back.now ≡ 512 = search rules in
    let all : length c.put.new.to ≡ 1024 = search rules in
    let long : length c.put.new.to ≤ c.put.result = omega (arith, front, back, all, c.put.ensures.next, c.put-at.ensures.next) in
    sym (take_all c.put.result c.put.new.to long) ∙ (c.put.ensures.written ∙ ap (λ (x : List ℕ). x ++ c.args.back.now) c.put-at.ensures.written)
