use Rattle.std.proofs.Common.{length, List, ℕ, ap, arith}
use Rattle.vg_meta.specs.declared.changes.Change.{Change}
use Rattle.vg_meta.specs.Tables.{Row}
use Rattle.vg_meta.specs.Roomy.{rows_alone}
use Rattle.vg_meta.specs.Changes.{changed, made, grown, cut_to, tagged}
use Rattle.vg_meta.specs.Text.{volume_text}
use Rattle.vg_meta.specs.Writing.{volumes_text}
use Rattle.vg_meta.proofs.GrowthLaws.{volumes-put}
use Rattle.vg_meta.proofs.LengthLaws.{volumes-changed, with_row-none, moved_length, moved_none}
use Rattle.vg_meta.proofs.lengths.changed_length.Goals as goal

pub returns-in-Create : goal.returns-in-Create
returns-in-Create c =
    let rs = rows_alone c.args.volumes.now in
    omega (
      arith,
      ap (λ (x : Change). length (volumes_text (changed rs x))) c.in-Create.is,
      volumes-put (made c.in-Create.name c.in-Create.fresh c.in-Create.extents) rs,
      ap (λ (es : List ℕ). length (volume_text (made c.in-Create.name c.in-Create.fresh es))) c.as_slice.ensures,
      ap (λ (r : Row). length (volume_text r)) c.made-entry.ensures,
      c.volumes_length.ensures,
      c.text_length.ensures,
      c.saturating_add.ensures,
    )

pub returns-in-Some : goal.returns-in-Some
returns-in-Some c =
    let rs = rows_alone c.args.volumes.now in
    omega (
      arith,
      ap (λ (x : Change). length (volumes_text (changed rs x))) c.in-Rename.is,
      moved_length c.in-Rename.from c.in-Rename.to c.in-Some.volume.now.row rs c.in-Some.ensures.found.row,
      ap (λ (r : Row). length (volume_text r)) c.renamed.ensures,
      c.length_with.ensures,
    )

pub returns-in-None : goal.returns-in-None
returns-in-None c =
    let rs = rows_alone c.args.volumes.now in
    omega (
      arith,
      ap (λ (x : Change). length (volumes_text (changed rs x))) c.in-Rename.is,
      moved_none c.in-Rename.from c.in-Rename.to rs c.in-None.ensures.none,
      c.volumes_length-in-None.ensures,
    )

pub returns-in-Some-named : goal.returns-in-Some-named
returns-in-Some-named c =
    let rs = rows_alone c.args.volumes.now in
    let r = c.in-Some-named.volume.now.row in
    omega (
      arith,
      ap (λ (x : Change). length (volumes_text (changed rs x))) c.in-Grow.is,
      volumes-changed c.in-Grow.name (grown c.in-Grow.extents) r rs c.in-Some-named.ensures.found.row,
      ap (λ (es : List ℕ). length (volume_text (grown es r))) c.as_slice-in-Some-named.ensures,
      ap (λ (r : Row). length (volume_text r)) c.grown.ensures,
      c.length_with-in-Some-named.ensures,
    )

pub returns-in-None-named : goal.returns-in-None-named
returns-in-None-named c =
    let rs = rows_alone c.args.volumes.now in
    omega (
      arith,
      ap (λ (x : Change). length (volumes_text (changed rs x))) c.in-Grow.is,
      ap (λ (qs : List Row). length (volumes_text qs)) (with_row-none c.in-Grow.name (grown c.in-Grow.extents) rs c.in-None-named.ensures.none),
      c.volumes_length-in-None-named.ensures,
    )

pub returns-in-Some-named-2 : goal.returns-in-Some-named-2
returns-in-Some-named-2 c =
    let rs = rows_alone c.args.volumes.now in
    let r = c.in-Some-named-2.volume.now.row in
    omega (
      arith,
      ap (λ (x : Change). length (volumes_text (changed rs x))) c.in-Cut.is,
      volumes-changed c.in-Cut.name (cut_to c.in-Cut.keep) r rs c.in-Some-named-2.ensures.found.row,
      ap (λ (r : Row). length (volume_text r)) c.cut.ensures,
      c.length_with-in-Some-named-2.ensures,
    )

pub returns-in-None-named-2 : goal.returns-in-None-named-2
returns-in-None-named-2 c =
    let rs = rows_alone c.args.volumes.now in
    omega (
      arith,
      ap (λ (x : Change). length (volumes_text (changed rs x))) c.in-Cut.is,
      ap (λ (qs : List Row). length (volumes_text qs)) (with_row-none c.in-Cut.name (cut_to c.in-Cut.keep) rs c.in-None-named-2.ensures.none),
      c.volumes_length-in-None-named-2.ensures,
    )

pub returns-in-Some-named-3 : goal.returns-in-Some-named-3
returns-in-Some-named-3 c =
    let rs = rows_alone c.args.volumes.now in
    let r = c.in-Some-named-3.volume.now.row in
    omega (
      arith,
      ap (λ (x : Change). length (volumes_text (changed rs x))) c.in-Mark.is,
      volumes-changed c.in-Mark.name (tagged c.in-Mark.tag c.in-Mark.on) r rs c.in-Some-named-3.ensures.found.row,
      ap (λ (r : Row). length (volume_text r)) c.marked.ensures,
      c.length_with-in-Some-named-3.ensures,
    )

pub returns-in-None-named-3 : goal.returns-in-None-named-3
returns-in-None-named-3 c =
    let rs = rows_alone c.args.volumes.now in
    omega (
      arith,
      ap (λ (x : Change). length (volumes_text (changed rs x))) c.in-Mark.is,
      ap (λ (qs : List Row). length (volumes_text qs)) (with_row-none c.in-Mark.name (tagged c.in-Mark.tag c.in-Mark.on) rs c.in-None-named-3.ensures.none),
      c.volumes_length-in-None-named-3.ensures,
    )
