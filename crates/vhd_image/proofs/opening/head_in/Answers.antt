use Rattle.std.proofs.Common.{◌≡◌, true, false, Some, None, sym, ◌∙◌, rules, arith}
use Rattle.std.proofs.lemmas.Bool.{true≢false}
use Rattle.std.proofs.lemmas.Option.{none-some}
use Rattle.sm_disk.specs.Held.{reads}
use Rattle.vhd_layout.specs.Images.{footer_at, header_at}
use Rattle.vg_volumes.specs.Stored.{stored, held_in}
use Rattle.vg_volumes.proofs.StoredLaws.{reads_then}
use Rattle.vhd_image.proofs.CallLaws.{only-reads}
use Rattle.vhd_image.proofs.OpeningLaws.{valid-image, valid-image_of, header-same}
use Rattle.vhd_image.proofs.opening.head_in.Goals as goal

pub returns-then-not-is_footer_of-clause-head : goal.returns-then-not-is_footer_of-clause-head
returns-then-not-is_footer_of-clause-head g c = λ told valid.
    let h = held_in (stored g.S.Store c.args.store.now) c.args.volume.now in
    let footer : footer_at c.args.sectors (reads h) ≡ Some c.in-Some.footer = sym (c.in_ok-footer_found.ensures.footer told) ∙ c.in-Some.is in
    let image = valid-image c.args.geometry.now c.args.sectors (reads h) c.in-Some.footer c.args.geometry.now.in_range.block_least footer valid in
    let no : c.is_footer_of.result ≡ false = search rules in
    true≢false (sym (c.is_footer_of.ensures.1 image.2.head.footer_fits) ∙ no)

pub returns-in_default-header_found-clause-head : goal.returns-in_default-header_found-clause-head
returns-in_default-header_found-clause-head g c = λ told valid.
    let h = held_in (stored g.S.Store c.args.store.now) c.args.volume.now in
    let footer : footer_at c.args.sectors (reads h) ≡ Some c.in-Some.footer = sym (c.in_ok-footer_found.ensures.footer told) ∙ c.in-Some.is in
    let image = valid-image c.args.geometry.now c.args.sectors (reads h) c.in-Some.footer c.args.geometry.now.in_range.block_least footer valid in
    let again = only-reads c.args.volume.now c.in_ok-footer_found.ensures.reads_only told in
    let none : c.in_ok-header_found.header_found ≡ None = c.in_default-header_found.is in
    none-some image.0 (sym none ∙ (c.in_ok-header_found.ensures.header told ∙ (header-same _ (reads h) (again 1) (again 2) ∙ image.2.head.header_reads)))

pub returns-then-not-is_header_of-clause-head : goal.returns-then-not-is_header_of-clause-head
returns-then-not-is_header_of-clause-head g c = λ told valid.
    let h = held_in (stored g.S.Store c.args.store.now) c.args.volume.now in
    let footer : footer_at c.args.sectors (reads h) ≡ Some c.in-Some.footer = sym (c.in_ok-footer_found.ensures.footer told) ∙ c.in-Some.is in
    let again = only-reads c.args.volume.now c.in_ok-footer_found.ensures.reads_only told in
    let header : header_at (reads h) ≡ Some c.in-Some-header_found.header = sym (c.in_ok-header_found.ensures.header told ∙ header-same _ (reads h) (again 1) (again 2)) ∙ c.in-Some-header_found.is in
    let image = valid-image_of c.args.geometry.now c.args.sectors (reads h) c.in-Some.footer c.in-Some-header_found.header c.args.geometry.now.in_range.block_least footer header valid in
    let no : c.is_header_of.result ≡ false = search rules in
    true≢false (sym (c.is_header_of.ensures.1 image.1.head.header_fits) ∙ no)

pub returns-clause-head : goal.returns-clause-head
returns-clause-head g c = λ told.
    let h = held_in (stored g.S.Store c.args.store.now) c.args.volume.now in
    let footer : footer_at c.args.sectors (reads h) ≡ Some c.in-Some.footer = sym (c.in_ok-footer_found.ensures.footer told) ∙ c.in-Some.is in
    let again = only-reads c.args.volume.now c.in_ok-footer_found.ensures.reads_only told in
    let header : header_at (reads h) ≡ Some c.in-Some-header_found.header = sym (c.in_ok-header_found.ensures.header told ∙ header-same _ (reads h) (again 1) (again 2)) ∙ c.in-Some-header_found.is in
    let yes : c.is_footer_of.result ≡ true = search rules in
    let yes' : c.is_header_of.result ≡ true = search rules in
    record {
      footer_reads = footer;
      footer_fits = c.is_footer_of.ensures.0 yes;
      header_reads = header;
      header_fits = c.is_header_of.ensures.0 yes';
      room = omega (arith, c.first.ensures);
    }

pub returns-in_err-header_found-clause-reads_only : goal.returns-in_err-header_found-clause-reads_only
returns-in_err-header_found-clause-reads_only g c = reads_then c.footer_in.ensures.reads_only c.header_in.ensures.reads_only

pub returns-in_default-header_found-clause-reads_only : goal.returns-in_default-header_found-clause-reads_only
returns-in_default-header_found-clause-reads_only g c = reads_then c.footer_in.ensures.reads_only c.header_in.ensures.reads_only

pub returns-then-not-is_header_of-clause-reads_only : goal.returns-then-not-is_header_of-clause-reads_only
returns-then-not-is_header_of-clause-reads_only g c = reads_then c.footer_in.ensures.reads_only c.header_in.ensures.reads_only

pub returns-clause-reads_only : goal.returns-clause-reads_only
returns-clause-reads_only g c = reads_then c.footer_in.ensures.reads_only c.header_in.ensures.reads_only
