-- What a stop may leave of an image while its header's first sector is written with another parent.
use Rattle.std.proofs.Common.{◌≡◌, ◌≢◌, ℕ, ◌+◌, ◌-◌, ◌^◌, ◌<◌, ◌≤◌, ◌==◌, ◌++◌, List, length, Bool, true, Option, Some, Ok, Err, Result, is_some, IsSome, refl, sym, ap, ap₂, ◌∙◌, subst, inl, inr, ⊎_elim, arith}
use Rattle.std.proofs.lemmas.Bool.{ne_eqb}
use Rattle.std.proofs.lemmas.Option.{none-some, same_Some}
use Rattle.std.specs.Result.{result_ok}
use Rattle.sm_base.specs.Numbers.{first, IsGeometry}
use Rattle.sm_base.proofs.NumberLemmas.{first-ge}
use Rattle.sm_base.specs.declared.sizes.Geometry.{Geometry}
use Rattle.sm_disk.specs.Held.{Held, May, Allows, HasSectors, reads}
use Rattle.sm_disk.specs.Sectors.{IsSector}
use Rattle.sm_disk.proofs.HeldLaws.{IsSector-may, IsSector-reads}
use Rattle.vhd_fields.specs.declared.headers.Header.{Header}
use Rattle.vhd_fields.specs.Headers.{header_read}
use Rattle.vhd_map.specs.Slots.{slot_of}
use Rattle.vhd_layout.specs.Layouts.{Sectors, Layout, layout_of, place, entry, entries_in_sectors, Slots}
use Rattle.vhd_layout.specs.Images.{IsValid, IsHeaderOf, footer_at, header_at}
use Rattle.vhd_layout.proofs.ImageLaws.{layout-of, place-first}
use Rattle.vhd_volumes.specs.declared.heads.Head.{Head}
use Rattle.vhd_volumes.specs.Truth.{IsTrueIn, layout_in, disk_blocks}
use Rattle.vhd_image.specs.declared.images.Body.{Body}
use Rattle.vhd_image.specs.Bodies.{volume_name}
use Rattle.vhd_image.specs.Calls.{MayPut}
use Rattle.vhd_image.specs.Changes.{IsRelinked, IsChanged, ChangesBy, with_parent}
use Rattle.vhd_image.specs.Links.{link_bytes}
use Rattle.vhd_image.specs.Made.{IsParentImage, linked, uid_of, stamp_of}
use Rattle.vhd_image.proofs.ContentLaws.{is-layout}
use Rattle.vhd_image.proofs.KeptLaws.{SameBody, size-same, parent-is, says-same, image-same}
use Rattle.vhd_image.proofs.FooterSteps.{mixed, mixed-read, mixed-own, mixed-allowed, footer-same, not_at}
use Rattle.vhd_image.proofs.ChangeLaws.{says-in, size-few}
use Rattle.vhd_image.proofs.LinkLaws.{link-reads, same-parent, same-sum}

header-ok : (v : Sectors) (h : Header) → header_at v ≡ Some h → header_read (v 1 ++ v 2) ≡ Ok h
unfolding header_at
header-ok v h is = by (header_read (v 1 ++ v 2)) is
  where
    by : {E : Type 0} (r : Result Header E) → result_ok r ≡ Some h → r ≡ Ok h
    by (Ok k) same = ap Ok (same_Some k h same)
    by (Err e) same = absurd (none-some h same)

header-some : (v : Sectors) (h : Header) → header_read (v 1 ++ v 2) ≡ Ok h → header_at v ≡ Some h
unfolding header_at
header-some v h is = ap result_ok is

-- where all but the header's first sector is the same
body-beside : (l : Layout) (m : Slots) (v w : Sectors) → 4 ≤ l.first → ((p : ℕ) → p ≢ 1 → w p ≡ v p) → SameBody l m v w
body-beside l m v w low same = record {
  table = λ i below. same (3 + i) (λ e. omega arith);
  slots = λ b k j has part. let from = place-first l k j in same (place l k j) (λ e. omega (arith, e, from, low));
}

module _ (g : Geometry) (n : ℕ) (head : Head) (m : List (Option ℕ)) (parent : Body) (ok : IsGeometry g.extent g.block g.entries) (proper : IsParentImage parent) (child : IsSome head.header.parent)
    (uid : length (uid_of parent) ≡ 16) (stamp : stamp_of parent < 2 ^ 32) (a b : Held) (sectors : HasSectors n a) (true_old : IsTrueIn g n a head m)
    (put : MayPut 1 (link_bytes (reads a 1) (reads a 2) parent) a b) where
  low : 4 ≤ first g.entries
  low = first-ge g.entries ok.entries_least

  some : 5 ≤ n
  some = omega (arith, low, true_old.now.head.room)

  old-reads : header_read (reads a 1 ++ reads a 2) ≡ Ok head.header
  old-reads = header-ok (reads a) head.header true_old.now.head.header_reads

  one : IsSector (reads a 1)
  one = IsSector-reads sectors 1 (omega (arith, some))

  two : IsSector (reads a 2)
  two = IsSector-reads sectors 2 (omega (arith, some))

  record Relinks (w : Sectors) : Type 0 where
    valid : IsValid g.block g.entries n w
    from : IsChanged (layout_in g head.footer n) (IsRelinked (layout_in g head.footer n) (volume_name parent)) a w
    same_entries : (c : ℕ) → c < entries_in_sectors (layout_in g head.footer n) → entry w c ≡ entry from.before c

  at : ℕ → Bool
  at p = p == 1

  relinks : (w : Sectors) → Allows n b w → Relinks w
  unfolding at
  relinks w may = ⊎_elim kept (λ new. linked_now new.1) (put.reaches.may 1 (w 1) (may 1 (omega (arith, some))))
    where
      kept : May a 1 (w 1) → Relinks w
      kept was = record {
        valid = true_old.valid w allowed;
        from = record { before = w; allowed = allowed; changed = record { says = record { own = λ s. refl; entries = λ c below. refl; holds = λ e. e }; size = refl; parent = inl refl } };
        same_entries = λ c below. refl;
      }
        where
          allowed : Allows n a w
          allowed p below = ⊎_elim (λ own. own) (λ new. subst (λ (q : ℕ). May a q (w q)) (sym new.0) was) (put.reaches.may p (w p) (may p below))

      other : (p : ℕ) → p ≢ 1 → May b p (w p) → May a p (w p)
      other p away left = ⊎_elim (λ own. own) (λ new. absurd (away new.0)) (put.reaches.may p (w p) left)

      linked_now : w 1 ≡ link_bytes (reads a 1) (reads a 2) parent → Relinks w
      linked_now is =
          let allowed : Allows n a (mixed at a w) = mixed-allowed n at a w (λ p below miss. other p (not_at p 1 miss) (may p below)) in
          let valid = true_old.valid (mixed at a w) allowed in
          let image = valid.4 in
          let lv = layout-of g.extent g.block g.entries valid.0 n ok in
          let same : (p : ℕ) → p ≢ 1 → w p ≡ mixed at a w p = λ p away. sym (mixed-own at a w p (ne_eqb p 1 away)) in
          let here : mixed at a w 1 ≡ reads a 1 = mixed-read at a w 1 refl in
          let next : mixed at a w 2 ≡ w 2 = mixed-own at a w 2 refl in
          let read : header_read (reads a 1 ++ w 2) ≡ Ok valid.2 = ap header_read (ap₂ (λ (x y : List ℕ). x ++ y) (sym here) (sym next)) ∙ header-ok (mixed at a w) valid.2 image.head.header_reads in
          let two' : IsSector (w 2) = IsSector-may sectors 2 (w 2) (omega (arith, some)) (other 2 (λ e. omega arith) (may 2 (omega (arith, some)))) in
          let sums = same-sum (reads a 1) (w 2) (reads a 2) valid.2 head.header one two' two read old-reads in
          let new : header_read (w 1 ++ w 2) ≡ Ok (linked valid.2 parent) = ap (λ (x : List ℕ). header_read (x ++ w 2)) is ∙ link-reads (reads a 1) (w 2) (reads a 2) valid.2 parent one.long read sums proper uid stamp in
          let header = header-some w (linked valid.2 parent) new in
          let parents : valid.2.parent ≡ head.header.parent = same-parent (reads a 1) (w 2) (reads a 2) valid.2 head.header one.long read old-reads in
          let has : is_some valid.2.parent ≡ true = ap is_some parents ∙ child in
          let footers : footer_at n w ≡ footer_at n (mixed at a w) = footer-same n (mixed at a w) w (same (n - 1) (λ e. omega (arith, e, some))) (same 0 (λ e. omega arith)) in
          let body = body-beside (layout_of g.block g.entries valid.0 n) valid.3 (mixed at a w) w low same in
          let sizes = size-same n (mixed at a w) w footers in
          let fits : IsHeaderOf (layout_of g.block g.entries valid.0 n) valid.1 (linked valid.2 parent) = record {
            table_offset = image.head.header_fits.table_offset;
            entries = image.head.header_fits.entries;
            block = image.head.header_fits.block;
            parent = sym has ∙ image.head.header_fits.parent;
          } in
          let says = says-in g.block g.entries valid.0 (disk_blocks g head.footer) n (mixed at a w) w (says-same (layout_of g.block g.entries valid.0 n) (mixed at a w) w valid.1 valid.2 valid.3 lv image body (omega (arith, sizes)) (omega (arith, sizes, size-few g.block g.entries valid.0 n (mixed at a w) valid.1 valid.2 valid.3 image))) in
          record {
            valid = (valid.0, valid.1, linked valid.2 parent, valid.3, image-same (layout_of g.block g.entries valid.0 n) (mixed at a w) w valid.1 valid.2 valid.3 lv image body valid.0 valid.1 (linked valid.2 parent) (omega arith) (footers ∙ image.head.footer_reads) header image.head.footer_fits fits);
            from = record { before = mixed at a w; allowed = allowed; changed = record { says = says; size = sizes; parent = inr (parent-is w (linked valid.2 parent) header) } };
            same_entries = says.entries;
          }

  pub relink-changes : ChangesBy (layout_in g head.footer n) (IsRelinked (layout_in g head.footer n) (volume_name parent)) a b
  relink-changes = record {
    valid = λ w may. (relinks w may).valid;
    from = λ w may. (relinks w may).from;
  }

  -- once it is written
  pub relink-true : reads b 1 ≡ link_bytes (reads a 1) (reads a 2) parent → IsTrueIn g n b (with_parent head parent) m
  relink-true is =
      let l = layout_in g head.footer n in
      let now = true_old.now in
      let new : header_read (reads b 1 ++ reads b 2) ≡ Ok (linked head.header parent) =
      ap₂ (λ (x y : List ℕ). header_read (x ++ y)) is (put.others 2 (λ e. omega arith)) ∙ link-reads (reads a 1) (reads a 2) (reads a 2) head.header parent one.long old-reads refl proper uid stamp in
      let footers = footer-same n (reads a) (reads b) (put.others (n - 1) (λ e. omega (arith, e, some))) (put.others 0 (λ e. omega arith)) in
      let fits : IsHeaderOf l head.footer (linked head.header parent) = record {
        table_offset = now.head.header_fits.table_offset;
        entries = now.head.header_fits.entries;
        block = now.head.header_fits.block;
        parent = sym child ∙ now.head.header_fits.parent;
      } in
      record {
        now = image-same l (reads a) (reads b) head.footer head.header (slot_of m) (is-layout g head.footer n ok) now (body-beside l (slot_of m) (reads a) (reads b) low put.others) (disk_blocks g head.footer) head.footer (linked head.header parent) (omega arith) (footers ∙ now.head.footer_reads) (header-some (reads b) (linked head.header parent) new) now.head.footer_fits fits;
        valid = λ w may. (relinks w may).valid;
        within = λ w may c below.
            let r = relinks w may in
            let e = r.same_entries c below in
            ⊎_elim (λ none. inl (e ∙ none)) (λ named. inr (e ∙ named)) (true_old.within r.from.before r.from.allowed c below);
      }
