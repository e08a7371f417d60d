-- What a stop may leave of an image while its footer is written where the image will end.
use Rattle.std.proofs.Common.{◌≡◌, ◌≢◌, ℕ, ◌+◌, ◌-◌, ◌<◌, ◌≤◌, ◌==◌, List, Bool, Option, Some, Ok, sym, ap, ◌∙◌, subst, inl, inr, ⊎_elim, arith}
use Rattle.std.proofs.lemmas.Bool.{cases_eq, ne_eqb}
use Rattle.std.specs.Result.{result_ok}
use Rattle.sm_base.specs.Numbers.{first, IsGeometry}
use Rattle.sm_base.proofs.NumberLemmas.{first-ge}
use Rattle.sm_base.specs.declared.sizes.Geometry.{Geometry}
use Rattle.sm_disk.specs.Held.{Held, Allows, reads}
use Rattle.vhd_fields.specs.declared.footers.Footer.{Footer}
use Rattle.vhd_fields.specs.declared.headers.Header.{Header}
use Rattle.vhd_fields.specs.Footers.{footer_read}
use Rattle.vhd_map.specs.Slots.{slot_of, top_of}
use Rattle.vhd_map.proofs.SlotLemmas.{top_of-past}
use Rattle.vhd_map.proofs.Spots.{spot-within}
use Rattle.vhd_layout.specs.Layouts.{Sectors, layout_of, place, slot_count, entry, code, entries_in_sectors, Slots}
use Rattle.vhd_layout.specs.Images.{IsImage, footer_at, header_at}
use Rattle.vhd_layout.proofs.ImageLaws.{layout-of, place-small, code-one, slots-fit, in_entries}
use Rattle.vhd_volumes.specs.declared.heads.Head.{Head}
use Rattle.vhd_volumes.specs.Truth.{IsTrueIn, layout_in, disk_blocks, HasRoomFor}
use Rattle.vhd_image.specs.Calls.{MayPut}
use Rattle.vhd_image.specs.Changes.{IsSameImage, StaysTrue}
use Rattle.vhd_image.specs.Opened.{ReadsAsImage}
use Rattle.vhd_image.proofs.ContentLaws.{is-layout}
use Rattle.vhd_image.proofs.OpeningLaws.{header-same, footer-own}
use Rattle.vhd_image.proofs.KeptLaws.{SameBody, size-same, parent-same, says-same, image-same}
use Rattle.vhd_image.proofs.FooterSteps.{footers-step, ends-one, mixed, mixed-own, mixed-allowed, footer-same, not_at}
use Rattle.vhd_image.proofs.ChangeLaws.{says-in, body-inside, size-few}

-- ---- the same head over the same table and slots

-- the head and the body that a map has are the same in both
record Same (g : Geometry) (n blocks : ℕ) (m : Slots) (v w : Sectors) : Type 0 where
  footer : footer_at n w ≡ footer_at n v
  header : header_at w ≡ header_at v
  body : SameBody (layout_of g.block g.entries blocks n) m v w

image-kept : (g : Geometry) (n blocks : ℕ) (v w : Sectors) (f : Footer) (h : Header) (m : Slots) → IsGeometry g.extent g.block g.entries → IsImage (layout_of g.block g.entries blocks n) v f h m → Same g n blocks m v w → IsImage (layout_of g.block g.entries blocks n) w f h m
image-kept g n blocks v w f h m ok image s =
    image-same (layout_of g.block g.entries blocks n) v w f h m (layout-of g.extent g.block g.entries blocks n ok) image s.body blocks f h (omega arith) (s.footer ∙ image.head.footer_reads) (s.header ∙ image.head.header_reads) image.head.footer_fits image.head.header_fits

same-says : (g : Geometry) (n blocks blocks' : ℕ) (v w : Sectors) (f : Footer) (h : Header) (m : Slots) → IsGeometry g.extent g.block g.entries → IsImage (layout_of g.block g.entries blocks n) v f h m → Same g n blocks m v w → IsSameImage (layout_of g.block g.entries blocks' n) v w
same-says g n blocks blocks' v w f h m ok image s =
    let sizes = size-same n v w s.footer in
    record {
      says = says-in g.block g.entries blocks blocks' n v w (says-same (layout_of g.block g.entries blocks n) v w f h m (layout-of g.extent g.block g.entries blocks n ok) image s.body (omega (arith, sizes)) (omega (arith, sizes, size-few g.block g.entries blocks n v f h m image)));
      size = sizes;
      parent = parent-same v w s.header;
    }

-- an image that a stop could leave before, and which says the same
record Before (g : Geometry) (n : ℕ) (a : Held) (w : Sectors) : Type 0 where
  before : Sectors
  allowed : Allows n a before
  same : (blocks : ℕ) (f : Footer) (h : Header) (m : Slots) → IsImage (layout_of g.block g.entries blocks n) before f h m → Same g n blocks m before w

module _ (g : Geometry) (n : ℕ) (head : Head) (m : List (Option ℕ)) (ok : IsGeometry g.extent g.block g.entries) (a b : Held) (true_old : IsTrueIn g n a head m)
    (before : (w : Sectors) → Allows n b w → Before g n a w) (now : Same g n (disk_blocks g head.footer) (slot_of m) (reads a) (reads b)) where
  from_before : StaysTrue g n head m a b
  from_before = record {
    same = record {
      valid = λ w may.
          let s = before w may in
          let valid = true_old.valid s.before s.allowed in
          (valid.0, valid.1, valid.2, valid.3, image-kept g n valid.0 s.before w valid.1 valid.2 valid.3 ok valid.4 (s.same valid.0 valid.1 valid.2 valid.3 valid.4));
      from = λ w may.
          let s = before w may in
          let valid = true_old.valid s.before s.allowed in
          record { before = s.before; allowed = s.allowed; changed = same-says g n valid.0 (disk_blocks g head.footer) s.before w valid.1 valid.2 valid.3 ok valid.4 (s.same valid.0 valid.1 valid.2 valid.3 valid.4) };
    };
    true_now = record {
      now = image-kept g n (disk_blocks g head.footer) (reads a) (reads b) head.footer head.header (slot_of m) ok true_old.now now;
      valid = λ w may.
          let s = before w may in
          let valid = true_old.valid s.before s.allowed in
          (valid.0, valid.1, valid.2, valid.3, image-kept g n valid.0 s.before w valid.1 valid.2 valid.3 ok valid.4 (s.same valid.0 valid.1 valid.2 valid.3 valid.4));
      within = λ w may c below.
          let s = before w may in
          let valid = true_old.valid s.before s.allowed in
          let says = same-says g n valid.0 (disk_blocks g head.footer) s.before w valid.1 valid.2 valid.3 ok valid.4 (s.same valid.0 valid.1 valid.2 valid.3 valid.4) in
          let e = says.says.entries c below in
          ⊎_elim (λ none. inl (e ∙ none)) (λ named. inr (e ∙ named)) (true_old.within s.before s.allowed c below);
    };
  }

-- ---- one footer more

module _ (g : Geometry) (n : ℕ) (head : Head) (m : List (Option ℕ)) (q : ℕ) (ok : IsGeometry g.extent g.block g.entries) (room : HasRoomFor g (top_of m) (q + 1))
    (a b : Held) (true_old : IsTrueIn g n a head m) (bytes : List ℕ) (reads_new : footer_read bytes ≡ Ok head.footer) (put : MayPut q bytes a b) where
  low : 4 ≤ first g.entries
  low = first-ge g.entries ok.entries_least

  -- over the last sector
  at-end : q ≡ n - 1 → StaysTrue g n head m a b
  at-end at = from_before g n head m ok a b true_old
      (λ w may.
      let s = footers-step n a b bytes head.footer head.footer (omega (arith, low, true_old.now.head.room)) reads_new true_old.now.head.footer_reads (ends-one n bytes a b (subst (λ (x : ℕ). MayPut x bytes a b) at put)) w may in
      record {
        before = s.before;
        allowed = s.allowed;
        same = λ blocks f h mv image. record {
          footer = ⊎_elim (λ same. same) (λ both. both.0 ∙ sym both.1) s.footer;
          header = header-same w s.before (s.same 1 (λ e. omega arith) (λ e. omega (arith, e, low, true_old.now.head.room))) (s.same 2 (λ e. omega arith) (λ e. omega (arith, e, low, true_old.now.head.room)));
          body = body-inside (layout_of g.block g.entries blocks n) mv s.before w (layout-of g.extent g.block g.entries blocks n ok) image.head.room image.slots s.same;
        };
      })
      (record {
        footer = ⊎_elim
            (λ same. footer-same n (reads a) (reads b) (ap (reads b) (sym at) ∙ (same ∙ ap (reads a) at)) (put.others 0 (λ e. omega (arith, e, at, low, true_old.now.head.room))))
            (λ new. footer-own n (reads b) head.footer (ap (λ (k : ℕ). result_ok (footer_read (reads b k))) (sym at) ∙ ap result_ok (ap footer_read new.1 ∙ reads_new)) ∙ sym true_old.now.head.footer_reads)
            (put.reaches.gives q);
        header = header-same (reads b) (reads a) (put.others 1 (λ e. omega (arith, e, at, low, true_old.now.head.room))) (put.others 2 (λ e. omega (arith, e, at, low, true_old.now.head.room)));
        body = body-inside (layout_in g head.footer n) (slot_of m) (reads a) (reads b) (is-layout g head.footer n ok) true_old.now.head.room true_old.now.slots (λ p away far. put.others p (λ e. far (e ∙ at)));
      })

  -- a volume in which one place is another, which is no place of the head, the table or the map's slots
  apart : (blocks : ℕ) (mv : Slots) (v w : Sectors) → q ≢ n - 1 → ((c k : ℕ) → mv c ≡ Some k → k < top_of m) → ((p : ℕ) → p ≢ q → w p ≡ v p) → Same g n blocks mv v w
  apart blocks mv v w away few same = record {
    footer = footer-same n v w (same (n - 1) (λ e. away (sym e))) (same 0 (λ e. omega (arith, e, low, room)));
    header = header-same w v (same 1 (λ e. omega (arith, e, low, room))) (same 2 (λ e. omega (arith, e, low, room)));
    body = record {
      table = λ i below. same (3 + i) (λ e. omega (arith, e, below, room));
      slots = λ c k j has part. same (place (layout_of g.block g.entries blocks n) k j) (λ e.
          let here = spot-within (first g.entries) g.block k j (top_of m) q (few c k has) part (omega (arith, room)) in omega (arith, e, here));
    };
  }

  at : ℕ → Bool
  at p = p == q

  -- an image that a stop leaves has no slot that the map has not
  slots-few : (blocks : ℕ) (v : Sectors) (f : Footer) (h : Header) (mv : Slots) → Allows n a v → IsImage (layout_of g.block g.entries blocks n) v f h mv → (c k : ℕ) → mv c ≡ Some k → k < top_of m
  unfolding entries_in_sectors
  slots-few blocks v f h mv may image c k has =
      let lv = layout_of g.block g.entries blocks n in
      let okv = layout-of g.extent g.block g.entries blocks n ok in
      let sized = image.slots.sized c k has in
      let inside : c < entries_in_sectors lv = in_entries lv c (omega (arith, sized, image.head.footer_fits.most)) in
      let is : entry v c ≡ code lv (Some k) = image.table c inside ∙ ap (code lv) has in
      let fits = image.slots.fits c k has in
      let small = place-small lv k okv fits.0 in
      ⊎_elim
      (λ none. absurd (omega (arith, small, sym is ∙ none)))
      (λ named.
      let same : mv c ≡ slot_of m c = code-one lv mv (slot_of m) c okv (λ j is'. (image.slots.fits c j is').0) (λ j is'. (true_old.now.slots.fits c j is').0) (sym (image.table c inside) ∙ named) in
      top_of-past m c k (sym same ∙ has))
      (true_old.within v may c inside)

  -- elsewhere
  away-from-end : q ≢ n - 1 → StaysTrue g n head m a b
  unfolding at
  away-from-end away = from_before g n head m ok a b true_old
      (λ w may. record {
        before = mixed at a w;
        allowed = allowed w may;
        same = λ blocks f h mv image. apart blocks mv (mixed at a w) w away (slots-few blocks (mixed at a w) f h mv (allowed w may) image) (λ p other. sym (mixed-own at a w p (ne_eqb p q other)));
      })
      (apart (disk_blocks g head.footer) (slot_of m) (reads a) (reads b) away (λ c k has. top_of-past m c k has) put.others)
    where
      allowed : (w : Sectors) → Allows n b w → Allows n a (mixed at a w)
      allowed w may = mixed-allowed n at a w (λ p below miss. ⊎_elim (λ was. was) (λ new. absurd (not_at p q miss new.0)) (put.reaches.may p (w p) (may p below)))

  pub end-stays : StaysTrue g n head m a b
  end-stays = ⊎_elim at-end away-from-end (cases_eq q (n - 1))

  -- once it is written, the image ends there
  pub end-reads : reads b q ≡ bytes → ReadsAsImage g (q + 1) b head m
  unfolding entries_in_sectors slot_count
  end-reads here =
      let kept = end-stays.true_now.now in
      let last : q + 1 - 1 ≡ q = omega arith in
      record {
        head = record {
          footer_reads = footer-own (q + 1) (reads b) head.footer (ap (λ (k : ℕ). result_ok (footer_read (reads b k))) last ∙ ap result_ok (ap footer_read here ∙ reads_new));
          footer_fits = record { kind = kept.head.footer_fits.kind; size = kept.head.footer_fits.size; least = kept.head.footer_fits.least; most = kept.head.footer_fits.most };
          header_reads = kept.head.header_reads;
          header_fits = record { table_offset = kept.head.header_fits.table_offset; entries = kept.head.header_fits.entries; block = kept.head.header_fits.block; parent = kept.head.header_fits.parent };
          room = omega (arith, room);
        };
        table = λ c below. kept.table c below;
        slots = record {
          sized = kept.slots.sized;
          fits = λ c k has. ((kept.slots.fits c k has).0, (let few = slots-fit (layout_in g head.footer (q + 1)) (top_of m) room in omega (arith, few, top_of-past m c k has)));
          once = kept.slots.once;
        };
      }
