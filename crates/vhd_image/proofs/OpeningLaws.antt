-- An image that is read off a volume is the one that the volume holds.
use Rattle.std.proofs.Common.{◌≡◌, ℕ, ◌+◌, ◌-◌, ◌*◌, ◌/◌, ◌<◌, ◌≤◌, ◌++◌, List, [], ◌∷◌, length, suc, true, false, Option, Some, None, Result, Ok, Err, is_ok, refl, sym, ap, ◌∙◌, subst, arith}
use Rattle.std.proofs.Math.Nat.{mul-div_cancel}
use Rattle.std.proofs.lemmas.Option.{same_Some}
use Rattle.std.specs.Option.{option_or}
use Rattle.std.specs.Result.{result_ok}
use Rattle.sm_base.specs.declared.sizes.Geometry.{Geometry}
use Rattle.vhd_fields.specs.declared.footers.Footer.{Footer}
use Rattle.vhd_fields.specs.declared.headers.Header.{Header}
use Rattle.vhd_fields.specs.declared.faults.FieldFault.{FieldFault}
use Rattle.vhd_fields.specs.Footers.{footer_read}
use Rattle.vhd_fields.specs.Headers.{header_read}
use Rattle.sm_base.specs.Numbers.{first}
use Rattle.vhd_map.specs.Slots.{slot_of, top_of, IsMap}
use Rattle.vhd_layout.specs.Layouts.{Sectors, Layout, layout_of, Slots, entries_in_sectors}
use Rattle.vhd_layout.specs.Images.{IsImage, IsValid, IsHead, IsFooterOf, IsHeaderOf, footer_at, header_at}
use Rattle.vhd_layout.proofs.ImageLaws.{slots-need}
use Rattle.vhd_volumes.specs.declared.heads.Head.{Head}
use Rattle.vhd_volumes.specs.Truth.{layout_in, disk_blocks, IsStanding}
use Rattle.vhd_image.specs.Opened.{HasImageOf, few_slots, FitsIn, IsTableTo}

-- ---- the head

pub footer-first : (n : ℕ) (v : Sectors) (last : List ℕ) (r : Result Footer FieldFault) → last ≡ v (n - 1) → r ≡ footer_read last → is_ok r ≡ true → result_ok r ≡ footer_at n v
unfolding footer_at
footer-first n v last (Ok f) at is ok = sym (ap (λ (o : Option Footer). option_or o (result_ok (footer_read (v 0)))) (sym (ap result_ok (is ∙ ap footer_read at))))
footer-first n v last (Err e) at is ok = cc

pub footer-second : (n : ℕ) (v : Sectors) (last front : List ℕ) (r s : Result Footer FieldFault) → last ≡ v (n - 1) → front ≡ v 0 → r ≡ footer_read last → s ≡ footer_read front → is_ok r ≡ false → result_ok s ≡ footer_at n v
unfolding footer_at
footer-second n v last front (Ok f) s at copy is is' bad = cc
footer-second n v last front (Err e) s at copy is is' bad =
    ap result_ok (is' ∙ ap footer_read copy) ∙ sym (ap (λ (o : Option Footer). option_or o (result_ok (footer_read (v 0)))) (sym (ap result_ok (is ∙ ap footer_read at))))

pub footer-own : (n : ℕ) (v : Sectors) (f : Footer) → result_ok (footer_read (v (n - 1))) ≡ Some f → footer_at n v ≡ Some f
unfolding footer_at
footer-own n v f reads = ap (λ (o : Option Footer). option_or o (result_ok (footer_read (v 0)))) reads

pub footer-copy : (n : ℕ) (v : Sectors) → result_ok (footer_read (v (n - 1))) ≡ None → footer_at n v ≡ result_ok (footer_read (v 0))
unfolding footer_at
footer-copy n v none = ap (λ (o : Option Footer). option_or o (result_ok (footer_read (v 0)))) none

pub header-read : (v : Sectors) (front back both : List ℕ) (r : Result Header FieldFault) → front ≡ v 1 → back ≡ v 2 → both ≡ front ++ back → r ≡ header_read both → result_ok r ≡ header_at v
unfolding header_at
header-read v front back both r one two join is =
    ap result_ok (is ∙ ap header_read (join ∙ (ap (λ (x : List ℕ). x ++ back) one ∙ ap (λ (x : List ℕ). v 1 ++ x) two)))

-- a footer gives the number of blocks
pub blocks-of : (g : Geometry) (f : Footer) (blocks : ℕ) → 8 ≤ g.block → f.current ≡ 512 * (blocks * g.block) → blocks ≡ disk_blocks g f
blocks-of g f blocks wide size =
    let sectors : f.current / 512 ≡ blocks * g.block = omega arith in
    sym (ap (λ (k : ℕ). k / g.block) sectors ∙ mul-div_cancel blocks {n = g.block} (omega arith))

-- so a valid volume has its image in the layout of its footer
pub valid-image : (g : Geometry) (n : ℕ) (v : Sectors) (f : Footer) → 8 ≤ g.block → footer_at n v ≡ Some f → IsValid g.block g.entries n v
    → (h : Header) × (m : Slots) × IsImage (layout_in g f n) v f h m
valid-image g n v f wide reads valid =
    let image = valid.4 in
    let same : valid.1 ≡ f = same_Some valid.1 f (sym image.head.footer_reads ∙ reads) in
    let blocks : valid.0 ≡ disk_blocks g f = blocks-of g f valid.0 wide (ap (λ (x : Footer). x.current) (sym same) ∙ image.head.footer_fits.size) in
    let here : IsImage (layout_of g.block g.entries valid.0 n) v f valid.2 valid.3 = subst (λ (x : Footer). IsImage (layout_of g.block g.entries valid.0 n) v x valid.2 valid.3) same image in
    (valid.2, valid.3, subst (λ (b : ℕ). IsImage (layout_of g.block g.entries b n) v f valid.2 valid.3) blocks here)

-- the same with its header
pub valid-image_of : (g : Geometry) (n : ℕ) (v : Sectors) (f : Footer) (h : Header) → 8 ≤ g.block → footer_at n v ≡ Some f → header_at v ≡ Some h → IsValid g.block g.entries n v
    → (m : Slots) × IsImage (layout_in g f n) v f h m
valid-image_of g n v f h wide reads heads valid =
    let found = valid-image g n v f wide reads valid in
    let same : found.0 ≡ h = same_Some found.0 h (sym found.2.head.header_reads ∙ heads) in
    (found.1, subst (λ (x : Header). IsImage (layout_in g f n) v f x found.1) same found.2)

-- the header is read off two sectors
pub header-same : (v w : Sectors) → v 1 ≡ w 1 → v 2 ≡ w 2 → header_at v ≡ header_at w
unfolding header_at
header-same v w one two = ap (λ (x : List ℕ). result_ok (header_read (x ++ v 2))) one ∙ ap (λ (x : List ℕ). result_ok (header_read (w 1 ++ x))) two

-- ---- the image

pub no-image : (g : Geometry) (n : ℕ) (v : Sectors) (head : Head) → 8 ≤ g.block → IsHead (layout_in g head.footer n) v head.footer head.header → ¬ HasImageOf (layout_in g head.footer n) v head → ¬ IsValid g.block g.entries n v
no-image g n v head wide is none valid = none (valid-image_of g n v head.footer head.header wide is.footer_reads is.header_reads valid)

pub opened : (l : Layout) (v : Sectors) (head : Head) (m : List (Option ℕ)) → IsHead l v head.footer head.header → IsTableTo (entries_in_sectors l) l v m → FitsIn l m → IsMap m → IsImage l v head.footer head.header (slot_of m)
opened l v head m is table fits good = record {
  head = is;
  table = table;
  slots = record {
    sized = fits.sized;
    fits = λ b k has. (omega (arith, fits.few b k has), omega (arith, fits.few b k has));
    once = good.once;
  };
}

pub top-below : (m : List (Option ℕ)) (n : ℕ) → ((b k : ℕ) → slot_of m b ≡ Some k → k < n) → top_of m ≤ n
top-below [] n below = omega arith
top-below (None ∷ m) n below = let rest = top-below m n (λ b k has. below (suc b) k has) in omega (arith, rest)
top-below (Some k ∷ m) n below =
    let rest = top-below m n (λ b j has. below (suc b) j has) in
    let here = below 0 k refl in omega (arith, rest, here)

pub stands-from : (g : Geometry) (n : ℕ) (head : Head) (m : List (Option ℕ)) → length m ≡ g.entries → IsFooterOf (layout_in g head.footer n) head.footer → IsHeaderOf (layout_in g head.footer n) head.footer head.header
    → first g.entries + 1 ≤ n → FitsIn (layout_in g head.footer n) m → IsStanding g n head m
stands-from g n head m long footer header room fits =
    let l = layout_in g head.footer n in
    let few : top_of m ≤ few_slots l = top-below m (few_slots l) fits.few in
    record {
      entries = long;
      block = header.block;
      size = footer.size;
      least = footer.least;
      most = footer.most;
      sized = fits.sized;
      room = slots-need l (top_of m) room (omega (arith, few));
    }
