-- What a stop may leave of an image while its footers are written.
use Rattle.std.proofs.Common.{◌≡◌, ◌≢◌, ℕ, ◌+◌, ◌-◌, ◌*◌, ◌/◌, ◌<◌, ◌≤◌, ◌⊎◌, ◌==◌, List, Option, Some, Ok, is_some, refl, sym, ap, ◌∙◌, subst, inl, inr, ⊎_elim, arith}
use Rattle.std.proofs.lemmas.Nat.{le-div, mul-le}
use Rattle.std.proofs.lemmas.Option.{same_Some}
use Rattle.std.specs.Result.{result_ok}
use Rattle.sm_base.specs.Numbers.{IsGeometry}
use Rattle.sm_base.proofs.NumberLemmas.{first-ge}
use Rattle.sm_base.specs.declared.sizes.Geometry.{Geometry}
use Rattle.sm_disk.specs.Held.{Held, Allows, reads}
use Rattle.vhd_fields.specs.declared.footers.Footer.{Footer}
use Rattle.vhd_fields.specs.declared.headers.Header.{Header}
use Rattle.vhd_fields.specs.Footers.{IsFooter, footer_read}
use Rattle.vhd_map.specs.Slots.{slot_of}
use Rattle.vhd_layout.specs.Layouts.{Sectors, Layout, IsLayout, layout_of, place, entry, entries_in_sectors, Slots, IsSlots}
use Rattle.vhd_layout.specs.Images.{IsImage, IsValid, IsFooterOf, IsHeaderOf, footer_at, header_at}
use Rattle.vhd_layout.specs.Contents.{size_at}
use Rattle.vhd_layout.proofs.ImageLaws.{layout-of, place-first, place-within, content-of_head}
use Rattle.vhd_volumes.specs.declared.heads.Head.{Head}
use Rattle.vhd_volumes.specs.Truth.{IsTrueIn, layout_in, disk_sectors, disk_blocks, IsStanding}
use Rattle.vhd_image.specs.Calls.{IsEnds}
use Rattle.vhd_image.specs.Changes.{SaysSame, IsResized, IsChanged, ChangesBy, with_size}
use Rattle.vhd_image.specs.Made.{IsDiskSize}
use Rattle.vhd_image.proofs.ContentLaws.{is-layout}
use Rattle.vhd_image.proofs.FooterReads.{proper-at}
use Rattle.vhd_image.proofs.MakingLaws.{size-proper, some-sectors}
use Rattle.vhd_image.proofs.OpeningLaws.{header-same, footer-own}
use Rattle.vhd_image.proofs.KeptLaws.{SameBody, size-same, size-is, parent-same, says-same, image-same}
use Rattle.vhd_image.proofs.FooterSteps.{FooterStep, footers-step}

-- the number of blocks is not in what two images say
pub says-in : (block entries blocks blocks' n : ℕ) (v w : Sectors) → SaysSame (layout_of block entries blocks n) v w → SaysSame (layout_of block entries blocks' n) v w
unfolding entries_in_sectors
says-in block entries blocks blocks' n v w s = record { own = s.own; entries = s.entries; holds = s.holds }

-- where all but the first and the last sector are the same
pub body-inside : (l : Layout) (m : Slots) (v w : Sectors) → IsLayout l → l.first + 1 ≤ l.sectors → IsSlots l m → ((p : ℕ) → p ≢ 0 → p ≢ l.sectors - 1 → w p ≡ v p) → SameBody l m v w
body-inside l m v w ok room slots same =
    let low = first-ge l.entries ok.entries_least in
    record {
      table = λ i below. same (3 + i) (λ e. omega arith) (λ e. omega arith);
      slots = λ b k j has part.
          let from = place-first l k j in
          let to = place-within l k j (slots.fits b k has).1 part in
          same (place l k j) (λ e. omega (arith, e, from, low, ok.begins)) (λ e. omega (arith, e, to));
    }

-- the size of a valid image is within the table
pub size-few : (block entries blocks n : ℕ) (v : Sectors) (f : Footer) (h : Header) (m : Slots) → IsImage (layout_of block entries blocks n) v f h m → size_at n v ≤ entries * block
size-few block entries blocks n v f h m image =
    let size = (content-of_head (layout_of block entries blocks n) v f h image.head).0 in
    let few : blocks * block ≤ entries * block = mul-le blocks block entries block image.head.footer_fits.most (omega arith) in
    omega (arith, size, few)

-- ---- a new size

module _ (g : Geometry) (n : ℕ) (head : Head) (m : List (Option ℕ)) (sectors : ℕ) (ok : IsGeometry g.extent g.block g.entries) (size : IsDiskSize g sectors) (grows : disk_sectors head.footer ≤ sectors)
    (a b : Held) (true_old : IsTrueIn g n a head m) (bytes : List ℕ) (reads_new : footer_read bytes ≡ Ok (with_size head sectors).footer) (ends : IsEnds n bytes a b) where
  new_blocks : disk_blocks g (with_size head sectors).footer ≡ sectors / g.block
  new_blocks = let back : 512 * sectors / 512 ≡ sectors = omega arith in ap (λ (k : ℕ). k / g.block) back

  some : 2 ≤ n
  some = omega (arith, first-ge g.entries ok.entries_least, true_old.now.head.room)

  -- the new footer is that of a disk of the new size, of the same kind
  footer-fits : (fv : Footer) (blocks : ℕ) → fv ≡ head.footer → IsFooterOf (layout_of g.block g.entries blocks n) fv → IsFooterOf (layout_in g (with_size head sectors).footer n) (with_size head sectors).footer
  footer-fits fv blocks is fits = record {
    kind = subst (λ (x : Footer). (x.kind ≡ 3) ⊎ (x.kind ≡ 4)) is fits.kind;
    size = ap (λ (k : ℕ). 512 * k) (size.whole ∙ ap (λ (k : ℕ). k * g.block) (sym new_blocks));
    least = omega (arith, new_blocks, size.least);
    most = omega (arith, new_blocks, size.most);
  }

  header-fits : (fv : Footer) (hv : Header) (blocks : ℕ) → fv ≡ head.footer → IsHeaderOf (layout_of g.block g.entries blocks n) fv hv → IsHeaderOf (layout_in g (with_size head sectors).footer n) (with_size head sectors).footer hv
  header-fits fv hv blocks is fits = record {
    table_offset = fits.table_offset;
    entries = fits.entries;
    block = fits.block;
    parent = subst (λ (x : Footer). is_some hv.parent ≡ (x.kind == 4)) is fits.parent;
  }

  more-blocks : (fv : Footer) (blocks : ℕ) → fv ≡ head.footer → IsFooterOf (layout_of g.block g.entries blocks n) fv → blocks ≤ disk_blocks g (with_size head sectors).footer
  more-blocks fv blocks is fits =
      let old : head.footer.current ≡ 512 * (blocks * g.block) = ap (λ (x : Footer). x.current) (sym is) ∙ fits.size in
      let few : blocks * g.block ≤ sectors = omega (arith, old, grows) in
      omega (arith, new_blocks, le-div blocks sectors g.block (omega (arith, ok.block_least)) few)

  record Resizes (w : Sectors) : Type 0 where
    valid : IsValid g.block g.entries n w
    from : IsChanged (layout_in g head.footer n) (IsResized (layout_in g head.footer n) sectors) a w
    same_entries : (b : ℕ) → b < entries_in_sectors (layout_in g head.footer n) → entry w b ≡ entry from.before b

  resizes : (w : Sectors) → Allows n b w → Resizes w
  resizes w may = ⊎_elim kept grown s.footer
    where
      s : FooterStep n a head.footer (with_size head sectors).footer w
      s = footers-step n a b bytes head.footer (with_size head sectors).footer some reads_new true_old.now.head.footer_reads ends w may

      valid : IsValid g.block g.entries n s.before
      valid = true_old.valid s.before s.allowed

      lv : IsLayout (layout_of g.block g.entries valid.0 n)
      lv = layout-of g.extent g.block g.entries valid.0 n ok

      body : SameBody (layout_of g.block g.entries valid.0 n) valid.3 s.before w
      body = body-inside (layout_of g.block g.entries valid.0 n) valid.3 s.before w lv valid.4.head.room valid.4.slots s.same

      headers : header_at w ≡ header_at s.before
      headers = header-same w s.before (s.same 1 (λ e. omega arith) (λ e. omega (arith, e, first-ge g.entries ok.entries_least, true_old.now.head.room))) (s.same 2 (λ e. omega arith) (λ e. omega (arith, e, first-ge g.entries ok.entries_least, true_old.now.head.room)))

      told : size_at n s.before ≤ size_at n w → size_at n w ≤ g.entries * g.block → SaysSame (layout_in g head.footer n) s.before w
      told wider few = says-in g.block g.entries valid.0 (disk_blocks g head.footer) n s.before w (says-same (layout_of g.block g.entries valid.0 n) s.before w valid.1 valid.2 valid.3 lv valid.4 body wider few)

      of : IsValid g.block g.entries n w → SaysSame (layout_in g head.footer n) s.before w → (size_at n w ≡ size_at n s.before) ⊎ (size_at n w ≡ sectors) → Resizes w
      of good says which = record {
        valid = good;
        from = record { before = s.before; allowed = s.allowed; changed = record { says = says; size = which; parent = parent-same s.before w headers } };
        same_entries = says.entries;
      }

      kept : footer_at n w ≡ footer_at n s.before → Resizes w
      kept same =
          let sizes = size-same n s.before w same in
          of (valid.0, valid.1, valid.2, valid.3, image-same (layout_of g.block g.entries valid.0 n) s.before w valid.1 valid.2 valid.3 lv valid.4 body valid.0 valid.1 valid.2 (omega arith) (same ∙ valid.4.head.footer_reads) (headers ∙ valid.4.head.header_reads) valid.4.head.footer_fits valid.4.head.header_fits)
          (told (omega (arith, sizes)) (omega (arith, sizes, size-few g.block g.entries valid.0 n s.before valid.1 valid.2 valid.3 valid.4)))
          (inl sizes)

      grown : (footer_at n w ≡ Some (with_size head sectors).footer) × (footer_at n s.before ≡ Some head.footer) → Resizes w
      grown both =
          let is : valid.1 ≡ head.footer = same_Some valid.1 head.footer (sym valid.4.head.footer_reads ∙ both.1) in
          let blocks = disk_blocks g (with_size head sectors).footer in
          let image = image-same (layout_of g.block g.entries valid.0 n) s.before w valid.1 valid.2 valid.3 lv valid.4 body blocks (with_size head sectors).footer valid.2 (more-blocks valid.1 valid.0 is valid.4.head.footer_fits) both.0 (headers ∙ valid.4.head.header_reads) (footer-fits valid.1 valid.0 is valid.4.head.footer_fits) (header-fits valid.1 valid.2 valid.0 is valid.4.head.header_fits) in
          let new : size_at n w ≡ 512 * sectors / 512 = size-is n w (with_size head sectors).footer both.0 in
          let sized : size_at n w ≡ sectors = omega (arith, new) in
          let old : size_at n s.before ≡ head.footer.current / 512 = size-is n s.before head.footer both.1 in
          of (blocks, (with_size head sectors).footer, valid.2, valid.3, image)
          (told (omega (arith, sized, old, grows)) (size-few g.block g.entries blocks n w (with_size head sectors).footer valid.2 valid.3 image))
          (inr sized)

  pub resize-changes : ChangesBy (layout_in g head.footer n) (IsResized (layout_in g head.footer n) sectors) a b
  resize-changes = record {
    valid = λ w may. (resizes w may).valid;
    from = λ w may. (resizes w may).from;
  }

  -- once both footers are written
  pub resize-true : reads b (n - 1) ≡ bytes → ((p : ℕ) → p ≢ 0 → p ≢ n - 1 → reads b p ≡ reads a p) → IsTrueIn g n b (with_size head sectors) m
  unfolding entries_in_sectors
  resize-true last others =
      let l = layout_in g head.footer n in
      let ly = is-layout g head.footer n ok in
      let now = true_old.now in
      let body = body-inside l (slot_of m) (reads a) (reads b) ly now.head.room now.slots others in
      let low = first-ge g.entries ok.entries_least in
      let headers = header-same (reads b) (reads a) (others 1 (λ e. omega arith) (λ e. omega (arith, e, low, now.head.room))) (others 2 (λ e. omega arith) (λ e. omega (arith, e, low, now.head.room))) in
      record {
        now = image-same l (reads a) (reads b) head.footer head.header (slot_of m) ly now body (disk_blocks g (with_size head sectors).footer) (with_size head sectors).footer head.header
            (more-blocks head.footer (disk_blocks g head.footer) refl now.head.footer_fits) (footer-own n (reads b) (with_size head sectors).footer (ap result_ok (ap footer_read last ∙ reads_new))) (headers ∙ now.head.header_reads)
            (footer-fits head.footer (disk_blocks g head.footer) refl now.head.footer_fits) (header-fits head.footer head.header (disk_blocks g head.footer) refl now.head.header_fits);
        valid = λ w may. (resizes w may).valid;
        within = λ w may c below.
            let r = resizes w may in
            let e = r.same_entries c below in
            ⊎_elim (λ none. inl (e ∙ none)) (λ named. inr (e ∙ named)) (true_old.within r.from.before r.from.allowed c below);
      }

-- the image of the new size stands: its blocks are more
pub resize-stands : (g : Geometry) (n : ℕ) (head : Head) (m : List (Option ℕ)) (sectors : ℕ) → IsGeometry g.extent g.block g.entries → IsDiskSize g sectors → disk_sectors head.footer ≤ sectors
    → IsStanding g n head m → IsStanding g n (with_size head sectors) m
resize-stands g n head m sectors ok size grows stands =
    let back : 512 * sectors / 512 ≡ sectors = omega arith in
    let blocks : disk_blocks g (with_size head sectors).footer ≡ sectors / g.block = ap (λ (k : ℕ). k / g.block) back in
    let more = le-div (disk_blocks g head.footer) sectors g.block (omega (arith, ok.block_least)) (omega (arith, stands.size, grows)) in
    record {
      entries = stands.entries;
      block = stands.block;
      size = ap (λ (k : ℕ). 512 * k) (size.whole ∙ ap (λ (k : ℕ). k * g.block) (sym blocks));
      least = omega (arith, blocks, size.least);
      most = omega (arith, blocks, size.most);
      sized = λ b slot has. omega (arith, blocks, more, stands.sized b slot has);
      room = stands.room;
    }

-- the footer of the new size passes the tests
pub resized-proper : (g : Geometry) (n : ℕ) (head : Head) (m : List (Option ℕ)) (sectors : ℕ) (a : Held) → IsGeometry g.extent g.block g.entries → IsDiskSize g sectors → IsTrueIn g n a head m → IsFooter (with_size head sectors).footer
resized-proper g n head m sectors a ok size true_old =
    let old = proper-at n (reads a) head.footer true_old.now.head.footer_reads in
    record { data_offset = old.data_offset; size = size-proper sectors (some-sectors g sectors ok size); kind = old.kind }
