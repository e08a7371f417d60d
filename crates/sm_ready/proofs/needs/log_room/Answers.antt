use Rattle.std.proofs.Common.{◌≡◌, ◌+◌, ℕ, sym, ap, ◌∙◌, arith}
use Rattle.sm_base.specs.Numbers.{div_up}
use Rattle.sm_base.specs.declared.sizes.Geometry.{Geometry}
use Rattle.sm_base.proofs.NumberLemmas.{div_up-div_ceil}
use Rattle.sm_log.specs.Logs.{log_sectors}
use Rattle.sm_machine.specs.Refusals.{disk_pieces}
use Rattle.sm_ready.specs.Known.{known, shape_in}
use Rattle.sm_ready.proofs.needs.log_room.Goals as goal

pub returns-clause-exact : goal.returns-clause-exact
unfolding shape_in
returns-clause-exact c = λ s t same o tidy.
    let g = c.args.geometry.now in
    let pieces : ℕ = disk_pieces c.args.disk.now (shape_in s t (known c.args.memory.now)) in
    let bits : c.div_ceil-sectors.result ≡ div_up c.disk_pieces.result 4096 = rw (c.div_ceil-sectors.ensures, c.from.ensures) (div_up-div_ceil c.disk_pieces.result 4096 (omega arith)) in
    let whole : c.div_ceil.result ≡ div_up (1 + c.div_ceil-sectors.result) g.extent = rw (c.div_ceil.ensures, c.from-2.ensures) (div_up-div_ceil (1 + c.div_ceil-sectors.result) g.extent (omega (arith, g.in_range.extent_least))) in
    whole
    ∙ ap (λ n. div_up (1 + n) g.extent) (bits ∙ ap (λ n. div_up n 4096) (c.disk_pieces.ensures s t o tidy))
    ∙ ap (λ (x : Geometry). div_up (log_sectors pieces) x.extent) (sym same)
