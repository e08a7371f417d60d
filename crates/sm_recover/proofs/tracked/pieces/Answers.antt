use Rattle.std.proofs.Common.{◌≡◌, ◌-◌, ◌^◌, sym, ap, ◌∙◌, arith}
use Rattle.std.specs.Prelude.{min}
use Rattle.std.specs.Option.{option_copied}
use Rattle.sm_base.specs.Numbers.{div_up}
use Rattle.sm_base.proofs.NumberLemmas.{div_up-div_ceil}
use Rattle.vhd_image.specs.Bodies.{sector_count}
use Rattle.sm_recover.specs.Tracked.{pieces_of}
use Rattle.sm_recover.proofs.tracked.pieces.Goals as goal

pub returns-in-Some : goal.returns-in-Some
returns-in-Some c =
    let there = sym c.shown.ensures ∙ ap option_copied c.in-Some.is in
    let n = sector_count c.in-Some.row.now.image in
    let is : c.div_ceil.result ≡ div_up n 128 = rw (c.div_ceil.ensures, c.sectors.ensures) (div_up-div_ceil n 128 (omega arith)) in
    let low : c.min.result ≡ min (div_up n 128) (2 ^ 32 - 1) = omega (arith, c.min.ensures, c.from.ensures, is) in
    low ∙ sym (ap pieces_of there)
