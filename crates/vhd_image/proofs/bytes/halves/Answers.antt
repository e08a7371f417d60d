use Rattle.std.proofs.Common.{◌≡◌, length, drop, rules, arith, ◌∙◌}
use Rattle.std.proofs.lemmas.List.{take_all, length-drop}
use Rattle.vhd_image.proofs.bytes.halves.Goals as goal

pub returns-clause-back : goal.returns-clause-back
returns-clause-back c =
    let long : length c.args.both.now ≡ 1024 = search rules in
    c.copy_from_slice-2.ensures.after ∙ take_all 512 (drop 512 c.args.both.now) (omega (arith, long, length-drop 512 c.args.both.now))
