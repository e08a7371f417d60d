use Rattle.std.proofs.Common.{◌+◌, ℕ, length, None, refl, sym, ap, subst, ◌∙◌, arith}
use Rattle.std.proofs.lemmas.Bool.{true≢false}
use Rattle.std.proofs.lemmas.List.{length-replicate}
use Rattle.sm_disk.specs.Held.{reads}
use Rattle.vhd_map.specs.Places.{IsReadable}
use Rattle.vg_volumes.specs.Stored.{stored, held_in}
use Rattle.vg_volumes.proofs.StoredLaws.{size_stays, reads_then, reads_none}
use Rattle.vhd_volumes.specs.Truth.{layout_in}
use Rattle.vhd_image.specs.Opened.{few_slots}
use Rattle.vhd_image.proofs.CallLaws.{only-reads}
use Rattle.vhd_image.proofs.ContentLaws.{is-layout}
use Rattle.vhd_image.proofs.TableLaws.{FitsIn-blank, IsMap-blank, slot_of-blank_map, IsRead, FitsIn-more, rest-more, IsTableTo-more, unreadable-no_image, rows-within, rows-room, rows-all}
use Rattle.vhd_image.proofs.opening.map_in.Goals as goal

pub loop-index-init : goal.loop-index-init
loop-index-init g c = record {
  calm = refl;
  only = reads_none _;
  good = IsMap-blank c.args.geometry.now.entries c.args.map c.requires.blank;
  long = ap length c.requires.blank ∙ length-replicate c.args.geometry.now.entries None;
  fits = FitsIn-blank _ c.args.geometry.now.entries c.args.map c.requires.blank;
  rest = λ b past. slot_of-blank_map c.args.geometry.now.entries b c.args.map c.requires.blank;
  so_far = λ told b below. absurd (omega arith);
}

pub sector_of-requires : goal.sector_of-requires
sector_of-requires g c =
    let size = size_stays c.args.head.now.volume c.loop-index.invariant.only.stays in
    let room = rows-room c.args.geometry.now.entries c.args.sectors c.loop-index.index c.div_ceil-index-end.result c.div_ceil-index-end.ensures c.requires.room c.loop-index-test.true in
    omega (arith, size, room, c.requires.within)

pub read_sector-requires : goal.read_sector-requires
read_sector-requires g c =
    let i = c.loop-index.invariant in
    let l = layout_in c.args.geometry.now c.args.head.now.footer c.args.sectors in
    let within = rows-within l c.loop-index.index c.div_ceil-index-end.result c.div_ceil-index-end.ensures c.loop-index-test.true in
    record {
      entries = i.long;
      within = omega (arith, within, i.long);
      blank = λ b row. i.rest b (omega arith);
      blocks_in = omega (arith, c.requires.footer.most, i.long);
      slots_in = omega (arith, c.slots_in-slots.ensures, i.long);
    }

pub see_slots-requires : goal.see_slots-requires
see_slots-requires g c = omega (arith, c.read_sector.ensures.long, c.loop-index.invariant.long, c.args.geometry.now.in_range.entries_least)

-- what the read of a sector did
read-row : (g : _) (c : goal.After-see_slots g) → IsRead (layout_in c.args.geometry.now c.args.head.now.footer c.args.sectors) c.loop-index.index c.in_ok-bytes.bytes c.loop-index.map c.read_sector.new.self
read-row g c =
    let l = layout_in c.args.geometry.now c.args.head.now.footer c.args.sectors in
    let readable = c.if-not-read_sector.ensures.readable.0 refl in
    record {
      ok = is-layout c.args.geometry.now c.args.head.now.footer c.args.sectors c.args.geometry.now.in_range;
      long = c.if-not-read_sector.ensures.long ∙ c.loop-index.invariant.long;
      good = c.see_slots.ensures;
      readable = subst (λ (few : ℕ). IsReadable l.first l.block l.blocks few c.loop-index.map c.loop-index.index c.in_ok-bytes.bytes) c.slots_in-slots.ensures readable;
      read = c.if-not-read_sector.ensures.read;
      others = c.if-not-read_sector.ensures.others;
    }

pub loop-index-preserved : goal.loop-index-preserved
loop-index-preserved g c =
    let i = c.loop-index.invariant in
    let l = layout_in c.args.geometry.now c.args.head.now.footer c.args.sectors in
    let row = read-row g c in
    let index = c.loop-index.index in
    let bytes = c.in_ok-bytes.bytes in
    record {
      calm = c.in_ok-bytes.ensures.cause.1 ∙ i.calm;
      only = reads_then i.only c.in_ok-bytes.ensures.reads_only;
      good = row.good;
      long = row.long;
      fits = FitsIn-more l index bytes c.loop-index.map c.read_sector.new.self row i.fits;
      rest = rest-more l index bytes c.loop-index.map c.read_sector.new.self row i.rest;
      so_far = λ told. IsTableTo-more l index bytes c.loop-index.map c.read_sector.new.self row (reads (held_in (stored g.S.Store c.args.store.now) c.args.head.now.volume)) (c.in_ok-bytes.ensures.gave told ∙ only-reads c.args.head.now.volume i.only told (3 + index)) (i.so_far told);
    }

pub returns-then-not-read_sector-clause-table : goal.returns-then-not-read_sector-clause-table
returns-then-not-read_sector-clause-table g c = λ told.
    let i = c.loop-index.invariant in
    let l = layout_in c.args.geometry.now c.args.head.now.footer c.args.sectors in
    let index = c.loop-index.index in
    let ok = is-layout c.args.geometry.now c.args.head.now.footer c.args.sectors c.args.geometry.now.in_range in
    let within = rows-within l index c.div_ceil-index-end.result c.div_ceil-index-end.ensures c.loop-index-test.true in
    let at = c.in_ok-bytes.ensures.gave told ∙ only-reads c.args.head.now.volume i.only told (3 + index) in
    let bad : ¬ IsReadable l.first l.block l.blocks (few_slots l) c.loop-index.map index c.in_ok-bytes.bytes = λ readable.
    let same = subst (λ (few : ℕ). IsReadable l.first l.block l.blocks few c.loop-index.map index c.in_ok-bytes.bytes) (sym c.slots_in-slots.ensures) readable in
    true≢false (sym (c.if-not-read_sector.ensures.readable.1 same)) in
    unreadable-no_image l (reads (held_in (stored g.S.Store c.args.store.now) c.args.head.now.volume)) c.args.head.now c.loop-index.map index c.in_ok-bytes.bytes ok i.long i.good within i.rest (i.so_far told) at bad

pub returns-clause-table : goal.returns-clause-table
returns-clause-table g c = λ told b below.
    let i = c.loop-index.invariant in
    let l = layout_in c.args.geometry.now c.args.head.now.footer c.args.sectors in
    let all = rows-all l c.div_ceil-index-end.result c.div_ceil-index-end.ensures in
    i.so_far told b (omega (arith, all, below, c.loop-index-test.false))

pub returns-in_err-bytes-clause-reads_only : goal.returns-in_err-bytes-clause-reads_only
returns-in_err-bytes-clause-reads_only g c = reads_then c.loop-index.invariant.only c.sector_of.ensures.reads_only

pub returns-then-not-read_sector-clause-reads_only : goal.returns-then-not-read_sector-clause-reads_only
returns-then-not-read_sector-clause-reads_only g c = reads_then c.loop-index.invariant.only c.sector_of.ensures.reads_only
