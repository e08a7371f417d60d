use Rattle.std.proofs.Common.{◌≡◌, ◌*◌, inr, subst}
use Rattle.sm_base.specs.declared.sizes.Geometry.{Geometry}
use Rattle.sm_disk.specs.Held.{reads}
use Rattle.vhd_map.specs.Slots.{slot_of}
use Rattle.vhd_layout.specs.Layouts.{Sectors, entries_in_sectors}
use Rattle.vhd_layout.specs.Images.{IsValid, IsImage}
use Rattle.vg_volumes.specs.Stored.{stored, held_in}
use Rattle.vhd_volumes.specs.Truth.{layout_in, IsStanding}
use Rattle.vg_volumes.proofs.StoredLaws.{reads_then, works_reads}
use Rattle.vhd_image.specs.Opened.{HasImageOf, IsTableTo}
use Rattle.vhd_image.proofs.CallLaws.{only-reads_all}
use Rattle.vhd_image.proofs.OpeningLaws.{no-image, opened, stands-from}
use Rattle.vhd_image.proofs.images.Image.open.Goals as goal

pub returns-in_default-map_found-clause-cause : goal.returns-in_default-map_found-clause-cause
returns-in_default-map_found-clause-cause g c =
    let geometry = c.geometry-geometry.result in
    let n = c.args.extents * geometry.extent in
    let v = reads (held_in (stored g.S.Store c.args.store.now) c.args.volume.now) in
    let head = c.in-Some.head in
    let name : head.volume ≡ c.args.volume.now = rw c.in-Some.is at c.in-Ok.ensures.volume in
    inr (inr (
      c.damaged-in_default-map_found.ensures,
      λ told.
          let same = only-reads_all name c.in-Ok.ensures.reads_only told in
          let is = rw c.in-Some.is at (c.in-Ok.ensures.head told) in
          let none = rw c.in_default-map_found.is at (c.in-Ok-map_in.ensures.table told) in
          let here : ¬ HasImageOf (layout_in geometry head.footer n) v head = subst (λ (x : Sectors). ¬ HasImageOf (layout_in geometry head.footer n) x head) same none in
          subst (λ (x : Geometry). ¬ IsValid x.block x.entries (c.args.extents * x.extent) v) c.geometry-geometry.ensures (no-image geometry n v head geometry.in_range.block_least is here),
    ))

pub returns-clause-stands : goal.returns-clause-stands
returns-clause-stands g c =
    let geometry = c.geometry-geometry.result in
    let n = c.args.extents * geometry.extent in
    let head = c.in-Some.head in
    let m = c.in-Some-map_found.map in
    let footer = rw c.in-Some.is at c.in-Ok.ensures.footer in
    let header = rw c.in-Some.is at c.in-Ok.ensures.header in
    let room = rw c.in-Some.is at c.in-Ok.ensures.room in
    let long = rw c.in-Some-map_found.is at c.in-Ok-map_in.ensures.entries in
    let fits = rw c.in-Some-map_found.is at c.in-Ok-map_in.ensures.fits in
    subst (λ (x : Geometry). IsStanding x (c.args.extents * x.extent) head m) c.geometry-geometry.ensures (stands-from geometry n head m long footer header room fits)

pub returns-clause-image : goal.returns-clause-image
returns-clause-image g c = λ told.
    let geometry = c.geometry-geometry.result in
    let n = c.args.extents * geometry.extent in
    let v = reads (held_in (stored g.S.Store c.args.store.now) c.args.volume.now) in
    let head = c.in-Some.head in
    let m = c.in-Some-map_found.map in
    let l = layout_in geometry head.footer n in
    let name : head.volume ≡ c.args.volume.now = rw c.in-Some.is at c.in-Ok.ensures.volume in
    let same = only-reads_all name c.in-Ok.ensures.reads_only told in
    let is = rw c.in-Some.is at (c.in-Ok.ensures.head told) in
    let table = rw c.in-Some-map_found.is at (c.in-Ok-map_in.ensures.table told) in
    let here : IsTableTo (entries_in_sectors l) l v m = subst (λ (x : Sectors). IsTableTo (entries_in_sectors l) l x m) same table in
    let fits = rw c.in-Some-map_found.is at c.in-Ok-map_in.ensures.fits in
    let good = rw c.in-Some-map_found.is at c.in-Ok-map_in.ensures.map in
    subst (λ (x : Geometry). IsImage (layout_in x head.footer (c.args.extents * x.extent)) v head.footer head.header (slot_of m)) c.geometry-geometry.ensures (opened l v head m is here fits good)

pub returns-in_default-map_in-clause-reads_only : goal.returns-in_default-map_in-clause-reads_only
returns-in_default-map_in-clause-reads_only g c = reads_then c.head_in.ensures.reads_only c.map_in.ensures.reads_only

pub returns-in_default-map_in-clause-works : goal.returns-in_default-map_in-clause-works
returns-in_default-map_in-clause-works g c = works_reads c.args.volume.now (reads_then c.head_in.ensures.reads_only c.map_in.ensures.reads_only)

pub returns-in_default-map_found-clause-reads_only : goal.returns-in_default-map_found-clause-reads_only
returns-in_default-map_found-clause-reads_only g c = reads_then c.head_in.ensures.reads_only c.map_in.ensures.reads_only

pub returns-in_default-map_found-clause-works : goal.returns-in_default-map_found-clause-works
returns-in_default-map_found-clause-works g c = works_reads c.args.volume.now (reads_then c.head_in.ensures.reads_only c.map_in.ensures.reads_only)

pub returns-clause-reads_only : goal.returns-clause-reads_only
returns-clause-reads_only g c = reads_then c.head_in.ensures.reads_only c.map_in.ensures.reads_only

pub returns-clause-works : goal.returns-clause-works
returns-clause-works g c = works_reads c.args.volume.now (reads_then c.head_in.ensures.reads_only c.map_in.ensures.reads_only)
