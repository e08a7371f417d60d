use Rattle.std.proofs.Common.{◌≡◌, ◌≤◌, ◌*◌, ◌^◌, sym, ap, ◌∙◌, arith}
use Rattle.std.specs.Option.{option_copied}
use Rattle.std.proofs.lemmas.Nat.{mul-le}
use Rattle.sm_base.specs.Numbers.{div_up}
use Rattle.sm_base.proofs.NumberLemmas.{div_up-div_ceil, div_up-le}
use Rattle.vhd_image.specs.Bodies.{sector_count}
use Rattle.sm_log.specs.Logs.{piece_count}
use Rattle.sm_machine.specs.Refusals.{with_image_of}
use Rattle.sm_machine.specs.Shapes.{ImageRow}
use Rattle.sm_ready.specs.Known.{known}
use Rattle.sm_ready.proofs.LookLaws.{image_is, shown_in, shown_size}
use Rattle.sm_ready.proofs.needs.disk_pieces.Goals as goal

pub returns-in-Some : goal.returns-in-Some
returns-in-Some c = λ s t o tidy.
    let m = known c.args.memory.now in
    let there = sym c.image.ensures ∙ ap option_copied c.in-Some.is in
    let n = sector_count c.in-Some.row.now.image in
    let size : n ≤ s.geometry.entries * s.geometry.block = shown_size s t m c.in-Some.row.now o (shown_in m.rows c.args.disk.now _ there) in
    let most : s.geometry.entries * s.geometry.block ≤ 1044480 * 4096 = mul-le s.geometry.entries s.geometry.block 1044480 4096 s.geometry.in_range.entries_most s.geometry.in_range.block_most in
    let few : div_up n 128 ≤ 2 ^ 25 = div_up-le n 128 (2 ^ 25) (omega arith) (omega (arith, size, most)) in
    let is : c.div_ceil.result ≡ div_up n 128 = rw (c.div_ceil.ensures, c.sectors.ensures) (div_up-div_ceil n 128 (omega arith)) in
    let low : c.min.result ≡ div_up n 128 = omega (arith, c.min.ensures, c.from.ensures, is, few) in
    low ∙ sym (ap (with_image_of (λ (i : ImageRow). piece_count i.size)) (image_is s t m c.args.disk.now _ o there))

pub returns-in-None : goal.returns-in-None
returns-in-None c = λ s t o tidy.
    let m = known c.args.memory.now in
    sym (ap (with_image_of (λ (i : ImageRow). piece_count i.size)) (image_is s t m c.args.disk.now _ o (sym c.image.ensures ∙ ap option_copied c.in-None.is)))
