use Rattle.std.proofs.Common.{◌+◌, length, List, take, drop, ap, ◌∙◌, arith}
use Rattle.vg_meta.specs.Tables.{Row}
use Rattle.vg_meta.specs.Roomy.{rows_alone}
use Rattle.vg_meta.specs.Writing.{volumes_text}
use Rattle.vg_meta.proofs.EditLaws.{within}
use Rattle.vg_meta.proofs.SpliceLaws.{two_pieces, without_place}
use Rattle.vg_meta.proofs.LengthLaws.{without-none, volumes-append}
use Rattle.vg_meta.proofs.lengths.length_without.Goals as goal

pub returns-in_default : goal.returns-in_default
returns-in_default c =
    omega (arith, without-none c.args.name.now (rows_alone c.args.volumes.now) c.in_default.ensures.none, c.volumes_length.ensures)

pub split_at-requires : goal.split_at-requires
split_at-requires c = let low = within c.args.volumes.now c.args.name.now c.in-Some.index c.in-Some.ensures.found in omega arith

pub split_at-requires-2 : goal.split_at-requires-2
split_at-requires-2 c = let low = within c.args.volumes.now c.args.name.now c.in-Some.index c.in-Some.ensures.found in omega arith

pub returns : goal.returns
returns c =
    let front = c.split_at.result.0.now in
    let back = c.split_at-2.result.1.now in
    let hs = c.args.volumes.now in
    let is =
    two_pieces front back (take c.in-Some.index hs) (drop (c.in-Some.index + 1) hs) c.split_at.ensures.front c.split_at-2.ensures.back
    ∙ without_place hs c.args.name.now c.in-Some.index c.in-Some.ensures.found in
    omega (
      arith,
      ap (λ (qs : List Row). length (volumes_text qs)) is,
      volumes-append (rows_alone front) (rows_alone back),
      c.volumes_length-2.ensures,
      c.volumes_length-3.ensures,
      c.saturating_add.ensures,
    )
