use Rattle.std.proofs.Common.{◌≡◌, ◌-◌, ◌+◌, ◌*◌, ◌/◌, ◌%◌, ℕ, List, Some, Ok, inl, inr, ◌++◌, ap, ap₂, sym, subst, ◌∙◌, arith}
use Rattle.std.specs.Option.{option_copied}
use Rattle.sm_base.specs.Numbers.{div_up}
use Rattle.sm_base.specs.declared.sizes.Geometry.{Geometry}
use Rattle.sm_disk.specs.Held.{reads}
use Rattle.sm_base.proofs.NumberLemmas.{first-ge}
use Rattle.vg_volumes.specs.Stored.{stored, sectors_in, held_in}
use Rattle.vg_volumes.proofs.StoredLaws.{works_then}
use Rattle.vg_volumes.proofs.VolumeLaws.{KeepsAt-then}
use Rattle.vhd_volumes.specs.Truth.{IsStanding, layout_in}
use Rattle.vhd_fields.specs.Footers.{IsFooter, footer_read}
use Rattle.vhd_fields.specs.declared.footers.Footer.{Footer}
use Rattle.vhd_fields.specs.declared.headers.Header.{Header}
use Rattle.vhd_fields.specs.Headers.{IsHeader, header_bytes}
use Rattle.vhd_map.specs.Places.{word}
use Rattle.vhd_layout.specs.Images.{header_at}
use Rattle.vhd_image.specs.Made.{new_header, new_footer, new_head, HasEntriesTo}
use Rattle.vhd_image.proofs.ContentLaws.{geometry-ok}
use Rattle.vhd_image.proofs.MakingLaws.{header-proper, footer-proper, head-sealed, fits-sealed, stands-sealed, some-sectors, slots_put, slots_header, slots_table, table-whole, table-front}
use Rattle.vhd_image.proofs.OpeningLaws.{header-same, opened}
use Rattle.vhd_image.proofs.images.Image.seal.Goals as goal

pub see_slots-requires : goal.see_slots-requires
see_slots-requires g c = omega (arith, c.requires.map.entries, ap (λ (x : Geometry). x.entries) c.geometry-geometry.ensures, c.geometry-geometry.result.in_range.entries_least)

pub put_table-requires-clause-entries : goal.put_table-requires-clause-entries
put_table-requires-clause-entries g c = c.requires.map.entries ∙ sym (ap (λ (x : Geometry). x.entries) c.geometry-geometry.ensures)

pub put_header-requires-clause-proper : goal.put_header-requires-clause-proper
put_header-requires-clause-proper g c =
    subst (λ (h : Header). IsHeader h) (sym c.new_header-header.ensures) (header-proper c.geometry-geometry.result c.args.sectors _ c.geometry-geometry.result.in_range c.requires.parent)

pub returns-in_err-put_header-clause-works : goal.returns-in_err-put_header-clause-works
returns-in_err-put_header-clause-works g c = works_then c.put_footer.ensures.works c.put_header.ensures.works

pub returns-in_err-put_table-clause-works : goal.returns-in_err-put_table-clause-works
returns-in_err-put_table-clause-works g c = works_then (works_then c.put_footer.ensures.works c.put_header.ensures.works) c.put_table.ensures.works

pub returns-in_err-put_footer-2-clause-works : goal.returns-in_err-put_footer-2-clause-works
returns-in_err-put_footer-2-clause-works g c = works_then (works_then (works_then c.put_footer.ensures.works c.put_header.ensures.works) c.put_table.ensures.works) c.put_footer-2.ensures.works

pub returns-clause-works : goal.returns-clause-works
returns-clause-works g c = works_then (works_then (works_then c.put_footer.ensures.works c.put_header.ensures.works) c.put_table.ensures.works) c.put_footer-2.ensures.works

pub returns-clause-stands : goal.returns-clause-stands
returns-clause-stands g c =
    let geometry = (g.S.Store.site c.args.store.now).geometry in
    let n = sectors_in (stored g.S.Store c.args.store.now) c.args.volume.now in
    let parent = option_copied c.args.parent in
    let is : Footer → Header → Type 0 = λ f h. IsStanding geometry n (record { volume = c.args.volume.now; footer = f; header = h }) c.args.map in
    let headers : new_header geometry parent ≡ c.new_header-header.result = sym (c.new_header-header.ensures ∙ ap (λ (x : Geometry). new_header x parent) c.geometry-geometry.ensures) in
    let all = stands-sealed geometry n c.args.now c.args.sectors c.args.uid c.requires.size parent c.args.volume.now c.args.map (omega (arith, c.requires.room)) c.see_slots.ensures c.requires.map c.requires.room in
    let with_footer = subst (λ (f : Footer). is f (new_header geometry parent)) (sym c.new_footer-footer.ensures) all in
    subst (λ (h : Header). is c.new_footer-footer.result h) headers with_footer

pub returns-clause-image : goal.returns-clause-image
returns-clause-image g c = λ told.
    let geometry = (g.S.Store.site c.args.store.now).geometry in
    let e = c.geometry-geometry.ensures in
    let ok = geometry-ok e c.geometry-geometry.result.in_range in
    let n = sectors_in (stored g.S.Store c.args.store.now) c.args.volume.now in
    let parent = option_copied c.args.parent in
    let v = reads (held_in (stored g.S.Store c.put_footer-2.new.store) c.args.volume.now) in
    let others = (c.put_footer-2.ensures.may_put told).others in
    let front = (c.put_table.ensures.others told).reads in
    let size = c.sectors_in-last.ensures in
    let low = first-ge geometry.entries ok.entries_least in
    let proper = subst (λ (f : Footer). IsFooter f) (sym c.new_footer-footer.ensures) (footer-proper c.args.now c.args.sectors c.args.uid parent (some-sectors geometry c.args.sectors ok c.requires.size)) in
    let last : footer_read (v (n - 1)) ≡ Ok (new_footer c.args.now c.args.sectors c.args.uid parent) =
    ap (λ (k : ℕ). footer_read (v (k - 1))) (sym size) ∙ (ap footer_read (c.in_ok-put_footer-2.ensures.put told) ∙ (c.put_footer-2.ensures.reads_back proper ∙ ap Ok c.new_footer-footer.ensures)) in
    let one = others 1 (λ at. omega (arith, at, size, low, c.requires.room)) ∙ front 1 (λ at. omega (arith, at.0)) in
    let two = others 2 (λ at. omega (arith, at, size, low, c.requires.room)) ∙ front 2 (λ at. omega (arith, at.0)) in
    let header : header_at v ≡ Some (new_header geometry parent) = header-same v _ one two ∙ (c.in_ok-put_header.ensures.header told ∙ ap Some (c.new_header-header.ensures ∙ ap (λ (x : Geometry). new_header x parent) e)) in
    let entries : HasEntriesTo (128 * div_up geometry.entries 128) geometry c.args.map (reads (held_in (stored g.S.Store c.put_table.new.store) c.args.volume.now)) =
    subst (λ (x : Geometry). HasEntriesTo (128 * div_up x.entries 128) x c.args.map (reads (held_in (stored g.S.Store c.put_table.new.store) c.args.volume.now))) e (c.in_ok-put_table.ensures.table told) in
    let table : HasEntriesTo (128 * div_up geometry.entries 128) geometry c.args.map v = λ b below.
    ap (λ (x : List ℕ). word x (b % 128)) (others (3 + b / 128) (λ at. omega (arith, at, size, table-front geometry b below, c.requires.room))) ∙ entries b below in
    opened (layout_in geometry (new_footer c.args.now c.args.sectors c.args.uid parent) n) v (new_head geometry c.args.volume.now c.args.now c.args.sectors c.args.uid parent) c.args.map
    (head-sealed geometry n c.args.now c.args.sectors c.args.uid c.requires.size v parent (omega (arith, c.requires.room)) last header)
    (table-whole geometry (new_footer c.args.now c.args.sectors c.args.uid parent) n c.args.map v table)
    (fits-sealed geometry n c.args.now c.args.sectors c.args.uid c.requires.size parent c.args.map c.see_slots.ensures c.requires.map c.requires.room) c.see_slots.ensures

pub returns-clause-header : goal.returns-clause-header
returns-clause-header g c = λ told.
    let geometry = (g.S.Store.site c.args.store.now).geometry in
    let e = c.geometry-geometry.ensures in
    let ok = geometry-ok e c.geometry-geometry.result.in_range in
    let others = (c.put_footer-2.ensures.may_put told).others in
    let front = (c.put_table.ensures.others told).reads in
    let size = c.sectors_in-last.ensures in
    let low = first-ge geometry.entries ok.entries_least in
    let one = others 1 (λ at. omega (arith, at, size, low, c.requires.room)) ∙ front 1 (λ at. omega (arith, at.0)) in
    let two = others 2 (λ at. omega (arith, at, size, low, c.requires.room)) ∙ front 2 (λ at. omega (arith, at.0)) in
    ap₂ (λ (a b : List ℕ). a ++ b) one two
    ∙ (c.in_ok-put_header.ensures.bytes told
    ∙ ap header_bytes (c.new_header-header.ensures ∙ ap (λ (x : Geometry). new_header x (option_copied c.args.parent)) e))

pub returns-in_err-put_footer-clause-slots : goal.returns-in_err-put_footer-clause-slots
returns-in_err-put_footer-clause-slots g c = λ told.
    let geometry = (g.S.Store.site c.args.store.now).geometry in
    let e = c.geometry-geometry.ensures in
    let n = sectors_in (stored g.S.Store c.args.store.now) c.args.volume.now in
    let some = (geometry-ok e c.geometry-geometry.result.in_range).entries_least in
    slots_put geometry n some 0 _ (inl (omega arith)) (c.put_footer.ensures.may_put told)

pub returns-in_err-put_header-clause-slots : goal.returns-in_err-put_header-clause-slots
returns-in_err-put_header-clause-slots g c = λ told.
    let geometry = (g.S.Store.site c.args.store.now).geometry in
    let e = c.geometry-geometry.ensures in
    let n = sectors_in (stored g.S.Store c.args.store.now) c.args.volume.now in
    let some = (geometry-ok e c.geometry-geometry.result.in_range).entries_least in
    KeepsAt-then (slots_put geometry n some 0 _ (inl (omega arith)) (c.put_footer.ensures.may_put told))
    (slots_header geometry n some (c.put_header.ensures.others told))

pub returns-in_err-put_table-clause-slots : goal.returns-in_err-put_table-clause-slots
returns-in_err-put_table-clause-slots g c = λ told.
    let geometry = (g.S.Store.site c.args.store.now).geometry in
    let e = c.geometry-geometry.ensures in
    let n = sectors_in (stored g.S.Store c.args.store.now) c.args.volume.now in
    let some = (geometry-ok e c.geometry-geometry.result.in_range).entries_least in
    KeepsAt-then (KeepsAt-then (slots_put geometry n some 0 _ (inl (omega arith)) (c.put_footer.ensures.may_put told))
    (slots_header geometry n some (c.put_header.ensures.others told)))
    (slots_table geometry n some e (c.put_table.ensures.others told))

pub returns-in_err-put_footer-2-clause-slots : goal.returns-in_err-put_footer-2-clause-slots
returns-in_err-put_footer-2-clause-slots g c = λ told.
    let geometry = (g.S.Store.site c.args.store.now).geometry in
    let e = c.geometry-geometry.ensures in
    let n = sectors_in (stored g.S.Store c.args.store.now) c.args.volume.now in
    let some = (geometry-ok e c.geometry-geometry.result.in_range).entries_least in
    KeepsAt-then (KeepsAt-then (KeepsAt-then (slots_put geometry n some 0 _ (inl (omega arith)) (c.put_footer.ensures.may_put told))
    (slots_header geometry n some (c.put_header.ensures.others told)))
    (slots_table geometry n some e (c.put_table.ensures.others told)))
    (slots_put geometry n some _ _ (inr (omega (arith, c.sectors_in-last.ensures, c.requires.room))) (c.put_footer-2.ensures.may_put told))

pub returns-clause-slots : goal.returns-clause-slots
returns-clause-slots g c = λ told.
    let geometry = (g.S.Store.site c.args.store.now).geometry in
    let e = c.geometry-geometry.ensures in
    let n = sectors_in (stored g.S.Store c.args.store.now) c.args.volume.now in
    let some = (geometry-ok e c.geometry-geometry.result.in_range).entries_least in
    KeepsAt-then (KeepsAt-then (KeepsAt-then (slots_put geometry n some 0 _ (inl (omega arith)) (c.put_footer.ensures.may_put told))
    (slots_header geometry n some (c.put_header.ensures.others told)))
    (slots_table geometry n some e (c.put_table.ensures.others told)))
    (slots_put geometry n some _ _ (inr (omega (arith, c.sectors_in-last.ensures, c.requires.room))) (c.put_footer-2.ensures.may_put told))
