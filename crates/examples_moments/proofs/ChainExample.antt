-- Worked changes of one sector meet the hypotheses of the laws of chains.
use Rattle.std.proofs.Common.{◌≡◌, ◌≢◌, inl, inr, ℕ, ◌*◌, ◌+◌, ◌<◌, Bool, true, false, cond, List, [], ◌∷◌, Option, Some, None, refl, sym, ap, ap₂, ◌∙◌, subst, arith}
use Rattle.std.proofs.lemmas.Bool.{lt-ltb}
use Rattle.sm_base.specs.declared.names.Name.{Name}
use Rattle.sm_base.specs.declared.names.Name.TheVariants.{Mgt, Vhd, Old, Leaf, Relink}
use Rattle.sm_disk.specs.Sectors.{zeros}
use Rattle.common_laws.specs.Lists.{In, numbers}
use Rattle.vg_meta.specs.Tables.{Row, VolumeTable, rows, row_of, name_eq}
use Rattle.vg_meta.proofs.NameLaws.{name_eq-true, name_eq-false}
use Rattle.sm_standing.specs.Changes.{turns_of}
use Rattle.sm_standing.specs.Contents.{Content, row}
use Rattle.examples_standing.specs.SmallContents.{record_row}
use Rattle.sm_standing.specs.Images.{Image, here, up, held_or, answer_of, image_of}
use Rattle.sm_standing.proofs.ImageLaws.{image_there}
use Rattle.sm_standing.specs.Answering.{IsNoParent, SendsUpAlone, SameBut, renamed_answer}
use Rattle.vhd_fields.specs.ParentNames.{IsParent}
use Rattle.vhd_layout.specs.Contents.{size_at}
use Rattle.examples_vhd.specs.SmallImages.{table_of, empty}
use Rattle.examples_moments.specs.Moments.{top, filled, child, empty_over}
use Rattle.examples_moments.specs.Worked.{first, second, base, first_record, second_record, content_with, image_row, leaf_copied, leaf_area, fork_area, exchanged, filled_at, two_disks, uncopied, swapping_at, relink_table, relinking, relinked_at}
use Rattle.examples_moments.specs.WorkedImages.{sector_of, top_image, filled_child, empty_child}
use Rattle.examples_moments.proofs.ForkExample.{named, base_named, disk_image, first_child, second_child, child_empty}
use Rattle.examples_moments.proofs.ForkMoments.{entry_row, fork_8, is_fork_8, swap_1, swap_2, is_swap_1, is_swap_2}
use Rattle.sm_standing.proofs.ImageSectors.{gone}
use Rattle.examples_moments.proofs.PlacedLaws.{placed_image, area_first, area_second}
use Rattle.examples_moments.proofs.RelinkOpened.{second_named, first_image as first_before, second_image as hidden_before, base_image as base_before}
use Rattle.examples_moments.proofs.SwapExample.{leaf_image, below_image, parent_image, filled_size}
use Rattle.examples_moments.proofs.WorkedDisks.{pair, is_pair, pair_base, pair_first, pair_second, top_held, filled_held, child_parent_is, child_size_is}
use Rattle.examples_moments.proofs.WorkedLaws.{top_valid, top_size, filled_valid, empty_own, child_size, child_parent}

-- ---- turns

turn_is : (c : Content) (n : Name) (s : ℕ) (i : Image) → image_of c n ≡ Some i → s < i.size → turns_of c s n ≡ held_or (i.own s) i.parent
unfolding answer_of
turn_is c n s i is below = ap (answer_of s) is ∙ ap (λ b. cond b (held_or (i.own s) i.parent) (here zeros)) (lt-ltb s i.size below)

no_turn : (c : Content) (n : Name) (s : ℕ) → image_of c n ≡ None → turns_of c s n ≡ here zeros
unfolding answer_of
no_turn c n s is = ap (answer_of s) is

top_turn : (c : Content) (n : Name) (byte : ℕ) → image_of c n ≡ Some (top byte) → turns_of c 0 n ≡ here (sector_of byte)
top_turn c n byte is = turn_is c n 0 (top byte) is (omega (arith, top_size byte)) ∙ ap (λ o. held_or o (top byte).parent) (top_held byte)

filled_turn : (c : Content) (n : Name) → image_of c n ≡ Some (filled 34) → turns_of c 0 n ≡ here (sector_of 34)
filled_turn c n is = turn_is c n 0 (filled 34) is (omega (arith, filled_size 34)) ∙ ap (λ o. held_or o (filled 34).parent) filled_held

child_turn : (c : Content) (n : Name) → image_of c n ≡ Some child → turns_of c 0 n ≡ up (Vhd base)
child_turn c n is = turn_is c n 0 child is (omega (arith, child_size_is)) ∙ ap₂ held_or (child_empty 0) child_parent_is

-- a name that stands in a table of records and three others, or in none
same_images : (a b : Content) (x : Name) → b.table ≡ a.table → ((r : Row) → In r a.table.volumes → r.name ≢ x → image_of b r.name ≡ image_of a r.name)
    → (n : Name) → n ≢ x → image_of b n ≡ image_of a n
same_images a b x table each n other = by (row a n) refl
  where
    by : (o : Option Row) → row a n ≡ o → image_of b n ≡ image_of a n
    by None none = gone a b n none (ap (λ (t : VolumeTable). rows t n) table ∙ none)
    by (Some r) some =
        let w = named a.table.volumes n r some in
        ap (image_of b) w.1 ∙ each r w.0 (λ e. other (w.1 ∙ e)) ∙ ap (image_of a) (sym w.1)

no_image : (c : Content) → image_of c Mgt ≡ None
unfolding image_of
no_image c = refl

old_none : (c : Content) → image_of c (Old first) ≡ None
unfolding image_of
old_none c = refl

-- a volume that holds the same image in two contents
alike : (a b : Content) (r q : Row) (o : Option Image) → r ≡ q → image_of a q.name ≡ o → image_of b q.name ≡ o → image_of b r.name ≡ image_of a r.name
alike a b r q o is before after =
    ap (λ (x : Row). image_of b x.name) is ∙ after ∙ sym before ∙ ap (λ (x : Row). image_of a x.name) (sym is)

base_first : name_eq (Vhd base) (Vhd first) ≡ false
unfolding name_eq
base_first = refl

first_second : name_eq (Vhd first) (Vhd second) ≡ false
unfolding name_eq
first_second = refl

-- an image that sends up stands in the table
sends : (c : Content) (s : ℕ) (n p : Name) → turns_of c s n ≡ up p → (r : Row) × In r c.table.volumes × (n ≡ r.name)
sends c s n p is = by (image_of c n) refl
  where
    by : (o : Option Image) → image_of c n ≡ o → (r : Row) × In r c.table.volumes × (n ≡ r.name)
    by None none = absurd (let e = sym (no_turn c n s none) ∙ is in (let x = e in cc))
    by (Some i) some = let w = image_there c n i some in let v = named c.table.volumes n w.0 w.1 in (w.0, v.0, v.1)

up_same : (p q : Name) → up p ≡ up q → p ≡ q
up_same p q e = cc

here_not_up : (bytes : List ℕ) (x : Name) → here bytes ≢ up x
here_not_up bytes x e = cc

base_not_first : Vhd base ≢ Vhd first
base_not_first = name_eq-false (Vhd base) (Vhd first) base_first

-- ---- a guest's write

abbrev unwritten : Content
unwritten = content_with fork_8 (fork_area (first_record ∷ second_record ∷ []))

unwritten_base : image_of unwritten (Vhd base) ≡ Some (top 17)
unfolding row_of name_eq
unwritten_base = disk_image fork_8 (first_record ∷ second_record ∷ []) base true (Vhd base) refl refl

unwritten_first : image_of unwritten (Vhd first) ≡ Some child
unfolding row_of name_eq
unwritten_first = first_child fork_8 (first_record ∷ second_record ∷ []) (Vhd first) refl refl

unwritten_second : image_of unwritten (Vhd second) ≡ Some child
unfolding row_of name_eq
unwritten_second = second_child fork_8 (first_record ∷ second_record ∷ []) false (Vhd second) refl refl

unwritten_no_parent : IsNoParent (turns_of unwritten 0) (Vhd first)
unwritten_no_parent n e = let w = sends unwritten 0 n (Vhd first) e in at w.0 w.1 (ap (turns_of unwritten 0) (sym w.2) ∙ e)
  where
    at : (r : Row) → In r (fork_8).volumes → turns_of unwritten 0 r.name ≡ up (Vhd first) → ⊥
    at r (inl is) e = here_not_up zeros (Vhd first) (sym (no_turn unwritten r.name 0 (ap (λ (q : Row). image_of unwritten q.name) is ∙ no_image unwritten)) ∙ e)
    at r (inr (inl is)) e = base_not_first (up_same (Vhd base) (Vhd first) (sym (child_turn unwritten r.name (ap (λ (q : Row). image_of unwritten q.name) is ∙ unwritten_first)) ∙ e))
    at r (inr (inr (inl is))) e = base_not_first (up_same (Vhd base) (Vhd first) (sym (child_turn unwritten r.name (ap (λ (q : Row). image_of unwritten q.name) is ∙ unwritten_second)) ∙ e))
    at r (inr (inr (inr (inl is)))) e =
        here_not_up (sector_of 17) (Vhd first) (sym (top_turn unwritten r.name 17 (ap (λ (q : Row). image_of unwritten q.name) is ∙ unwritten_base)) ∙ e)
    at r (inr (inr (inr (inr none)))) e = elim none [ ]

unwritten_others : (n : Name) → n ≢ Vhd first → image_of pair n ≡ image_of unwritten n
unwritten_others = same_images unwritten pair (Vhd first) refl each
  where
    each : (r : Row) → In r (fork_8).volumes → r.name ≢ Vhd first → image_of pair r.name ≡ image_of unwritten r.name
    each r (inl is) other = alike unwritten pair r (record_row (numbers 0 16)) None is (no_image unwritten) (no_image pair)
    each r (inr (inl is)) other = absurd (other (ap (λ (q : Row). q.name) is))
    each r (inr (inr (inl is))) other = alike unwritten pair r (image_row false (Vhd second) 26) (Some child) is unwritten_second pair_second
    each r (inr (inr (inr (inl is)))) other = alike unwritten pair r (image_row true (Vhd base) 16) (Some (top 17)) is unwritten_base pair_base
    each r (inr (inr (inr (inr none)))) other = elim none [ ]

pub guest_no_parent : IsNoParent (turns_of (filled_at 8) 0) (Vhd first)
guest_no_parent = subst (λ t. IsNoParent (turns_of (content_with t (fork_area (first_record ∷ second_record ∷ []))) 0) (Vhd first)) (sym is_fork_8) unwritten_no_parent

is_unwritten : filled_at 8 ≡ unwritten
is_unwritten = ap (λ t. content_with t (fork_area (first_record ∷ second_record ∷ []))) is_fork_8

pub guest_others : SameBut (turns_of (filled_at 8) 0) (turns_of two_disks 0) (Vhd first)
guest_others n other =
    ap (λ c. turns_of c 0 n) is_pair ∙ ap (answer_of 0) (unwritten_others n other) ∙ ap (λ c. turns_of c 0 n) (sym is_unwritten)

pub guest_before : turns_of (filled_at 8) 0 (Vhd first) ≡ up (Vhd base)
guest_before = ap (λ c. turns_of c 0 (Vhd first)) is_unwritten ∙ child_turn unwritten (Vhd first) unwritten_first

pub guest_after : turns_of two_disks 0 (Vhd first) ≡ here (sector_of 34)
guest_after = ap (λ c. turns_of c 0 (Vhd first)) is_pair ∙ filled_turn pair (Vhd first) pair_first

-- ---- a copy below

abbrev copied : Content
copied = content_with leaf_copied (leaf_area 34)

pub uncopied_base : image_of uncopied (Vhd base) ≡ Some (top 17)
unfolding row_of name_eq
uncopied_base =
    placed_image leaf_copied (leaf_area 17) base true 16 (Vhd base) (top_image 17) refl refl
    (λ s below. area_first (top_image 17) (filled_child (Vhd base) 34) (empty_child (Vhd base)) (first_record ∷ []) (32 * 16 + s) s refl below) (top_valid 17)

pub uncopied_leaf : image_of uncopied (Vhd first) ≡ Some (filled 34)
unfolding row_of name_eq
uncopied_leaf =
    placed_image leaf_copied (leaf_area 17) first false 21 (Vhd first) (filled_child (Vhd base) 34) refl refl
    (λ s below. area_second (top_image 17) (filled_child (Vhd base) 34) (empty_child (Vhd base)) (first_record ∷ []) (32 * 21 + s) s refl below)
    (filled_valid (Vhd base) 34 base_named)

entry_none : (c : Content) → image_of c (Leaf first base) ≡ None
unfolding image_of
entry_none c = refl

-- at sector 0 the leaf answers, so nobody sends up
pub copy_only : SendsUpAlone (turns_of uncopied 0) (Vhd first) (Vhd base)
copy_only n e = let w = sends uncopied 0 n (Vhd base) e in at w.0 w.1 w.2
  where
    at : (r : Row) → In r (leaf_copied).volumes → n ≡ r.name → n ≡ Vhd first
    at r (inl is) name =
        absurd (here_not_up zeros (Vhd base) (sym (no_turn uncopied n 0 (ap (image_of uncopied) name ∙ ap (λ (q : Row). image_of uncopied q.name) is ∙ no_image uncopied)) ∙ e))
    at r (inr (inl is)) name = name ∙ ap (λ (q : Row). q.name) is
    at r (inr (inr (inl is))) name =
        absurd (here_not_up (sector_of 17) (Vhd base) (sym (top_turn uncopied n 17 (ap (image_of uncopied) name ∙ ap (λ (q : Row). image_of uncopied q.name) is ∙ uncopied_base)) ∙ e))
    at r (inr (inr (inr (inl is)))) name =
        absurd (here_not_up zeros (Vhd base) (sym (no_turn uncopied n 0 (ap (image_of uncopied) name ∙ ap (λ (q : Row). image_of uncopied q.name) is ∙ entry_none uncopied)) ∙ e))
    at r (inr (inr (inr (inr none)))) name = elim none [ ]

pub copy_held : turns_of uncopied 0 (Vhd first) ≡ here (sector_of 34)
copy_held = filled_turn uncopied (Vhd first) uncopied_leaf

copied_others : (n : Name) → n ≢ Vhd base → image_of copied n ≡ image_of uncopied n
copied_others = same_images uncopied copied (Vhd base) refl each
  where
    each : (r : Row) → In r (leaf_copied).volumes → r.name ≢ Vhd base → image_of copied r.name ≡ image_of uncopied r.name
    each r (inl is) other = alike uncopied copied r (record_row (numbers 0 16)) None is (no_image uncopied) (no_image copied)
    each r (inr (inl is)) other = alike uncopied copied r (image_row false (Vhd first) 21) (Some (filled 34)) is uncopied_leaf leaf_image
    each r (inr (inr (inl is))) other = absurd (other (ap (λ (q : Row). q.name) is))
    each r (inr (inr (inr (inl is)))) other = alike uncopied copied r (entry_row (Leaf first base)) None is (entry_none uncopied) (entry_none copied)
    each r (inr (inr (inr (inr none)))) other = elim none [ ]

pub copy_others : SameBut (turns_of uncopied 0) (turns_of (swapping_at 0) 0) (Vhd base)
copy_others n other = ap (answer_of 0) (copied_others n other)

pub copy_before : turns_of uncopied 0 (Vhd base) ≡ here (sector_of 17)
copy_before = top_turn uncopied (Vhd base) 17 uncopied_base

pub copy_after : turns_of (swapping_at 0) 0 (Vhd base) ≡ here (sector_of 34)
copy_after = top_turn copied (Vhd base) 34 below_image

-- ---- a relink

over_empty : (c : Content) (n : Name) (u : List ℕ) → IsParent (Some (Vhd u)) → image_of c n ≡ Some (empty_over u) → turns_of c 0 n ≡ up (Vhd u)
over_empty c n u proper is =
    let size = child_size (Vhd u) (table_of []) empty proper refl in
    turn_is c n 0 (empty_over u) is (omega (arith, size))
    ∙ ap₂ held_or (empty_own (Vhd u) (size_at 160 (empty_child (Vhd u))) 0 (omega (arith, size))) (child_parent (Vhd u) (table_of []) empty proper refl)

abbrev linked : Content
linked = content_with relink_table (fork_area (first_record ∷ []))

pub linked_over_base : image_of linked (Vhd first) ≡ Some child
unfolding row_of name_eq
linked_over_base = first_child relink_table (first_record ∷ []) (Vhd first) refl refl

pub linked_hidden : image_of linked (Vhd second) ≡ Some child
unfolding row_of name_eq
linked_hidden = second_child relink_table (first_record ∷ []) true (Vhd second) refl refl

pub linked_below : image_of linked (Vhd base) ≡ Some (top 17)
unfolding row_of name_eq
linked_below = disk_image relink_table (first_record ∷ []) base true (Vhd base) refl refl

relink_none : (c : Content) → image_of c (Relink second base) ≡ None
unfolding image_of
relink_none c = refl

linked_others : (n : Name) → n ≢ Vhd first → image_of linked n ≡ image_of relinking n
linked_others = same_images relinking linked (Vhd first) refl each
  where
    each : (r : Row) → In r (relink_table).volumes → r.name ≢ Vhd first → image_of linked r.name ≡ image_of relinking r.name
    each r (inl is) other = alike relinking linked r (record_row (numbers 0 16)) None is (no_image relinking) (no_image linked)
    each r (inr (inl is)) other = absurd (other (ap (λ (q : Row). q.name) is))
    each r (inr (inr (inl is))) other = alike relinking linked r (image_row true (Vhd second) 26) (Some child) is hidden_before linked_hidden
    each r (inr (inr (inr (inl is)))) other = alike relinking linked r (image_row true (Vhd base) 16) (Some (top 17)) is base_before linked_below
    each r (inr (inr (inr (inr (inl is))))) other = alike relinking linked r (entry_row (Relink second base)) None is (relink_none relinking) (relink_none linked)
    each r (inr (inr (inr (inr (inr none))))) other = elim none [ ]

pub relink_before : turns_of relinking 0 (Vhd first) ≡ up (Vhd second)
relink_before = over_empty relinking (Vhd first) second second_named first_before

pub relink_after : turns_of (relinked_at 0) 0 (Vhd first) ≡ up (Vhd base)
relink_after = child_turn linked (Vhd first) linked_over_base

pub relink_others : SameBut (turns_of relinking 0) (turns_of (relinked_at 0) 0) (Vhd first)
relink_others n other = ap (answer_of 0) (linked_others n other)

pub relink_past : turns_of relinking 0 (Vhd second) ≡ up (Vhd base)
relink_past = over_empty relinking (Vhd second) base base_named hidden_before

pub relink_two : Vhd first ≢ Vhd second
relink_two = name_eq-false (Vhd first) (Vhd second) first_second

-- ---- a rename

abbrev unnamed : Content
unnamed = content_with swap_1 (leaf_area 34)

abbrev renamed : Content
renamed = content_with swap_2 (leaf_area 34)

unnamed_parent : image_of unnamed (Vhd base) ≡ Some (top 34)
unfolding row_of name_eq
unnamed_parent = parent_image swap_1 base true (Vhd base) refl refl

renamed_parent : image_of renamed (Vhd first) ≡ Some (top 34)
unfolding row_of name_eq
renamed_parent = parent_image swap_2 first true (Vhd first) refl refl

-- all other names hold no image, before and afterwards
unnamed_none : (n : Name) → n ≢ Vhd base → image_of unnamed n ≡ None
unnamed_none n other = by (image_of unnamed n) refl
  where
    at : (r : Row) → In r (swap_1).volumes → n ≡ r.name → image_of unnamed n ≡ None
    at r (inl is) name = ap (image_of unnamed) name ∙ ap (λ (q : Row). image_of unnamed q.name) is ∙ no_image unnamed
    at r (inr (inl is)) name = ap (image_of unnamed) name ∙ ap (λ (q : Row). image_of unnamed q.name) is ∙ old_none unnamed
    at r (inr (inr (inl is))) name = absurd (other (name ∙ ap (λ (q : Row). q.name) is))
    at r (inr (inr (inr (inl is)))) name = ap (image_of unnamed) name ∙ ap (λ (q : Row). image_of unnamed q.name) is ∙ entry_none unnamed
    at r (inr (inr (inr (inr none)))) name = elim none [ ]

    by : (o : Option Image) → image_of unnamed n ≡ o → image_of unnamed n ≡ None
    by None none = none
    by (Some i) some = let w = image_there unnamed n i some in let v = named (swap_1).volumes n w.0 w.1 in at w.0 v.0 v.1

renamed_none : (n : Name) → n ≢ Vhd first → image_of renamed n ≡ None
renamed_none n other = by (image_of renamed n) refl
  where
    at : (r : Row) → In r (swap_2).volumes → n ≡ r.name → image_of renamed n ≡ None
    at r (inl is) name = ap (image_of renamed) name ∙ ap (λ (q : Row). image_of renamed q.name) is ∙ no_image renamed
    at r (inr (inl is)) name = ap (image_of renamed) name ∙ ap (λ (q : Row). image_of renamed q.name) is ∙ old_none renamed
    at r (inr (inr (inl is))) name = absurd (other (name ∙ ap (λ (q : Row). q.name) is))
    at r (inr (inr (inr (inl is)))) name = ap (image_of renamed) name ∙ ap (λ (q : Row). image_of renamed q.name) is ∙ entry_none renamed
    at r (inr (inr (inr (inr none)))) name = elim none [ ]

    by : (o : Option Image) → image_of renamed n ≡ o → image_of renamed n ≡ None
    by None none = none
    by (Some i) some = let w = image_there renamed n i some in let v = named (swap_2).volumes n w.0 w.1 in at w.0 v.0 v.1

both_zeros : (n m : Name) → n ≢ Vhd base → m ≢ Vhd first → turns_of renamed 0 m ≡ renamed_answer exchanged (turns_of unnamed 0 n)
both_zeros n m other away =
    no_turn renamed m 0 (renamed_none m away) ∙ ap (renamed_answer exchanged) (sym (no_turn unnamed n 0 (unnamed_none n other)))

exchange : (n : Name) (b f : Bool) → name_eq n (Vhd base) ≡ b → name_eq n (Vhd first) ≡ f
    → turns_of renamed 0 (cond b (Vhd first) (cond f (Vhd base) n)) ≡ renamed_answer exchanged (turns_of unnamed 0 n)
exchange n true f is at =
    let here_n = ap (turns_of unnamed 0) (name_eq-true n (Vhd base) is) ∙ top_turn unnamed (Vhd base) 34 unnamed_parent in
    top_turn renamed (Vhd first) 34 renamed_parent ∙ ap (renamed_answer exchanged) (sym here_n)
exchange n false true is at = both_zeros n (Vhd base) (name_eq-false n (Vhd base) is) base_not_first
exchange n false false is at = both_zeros n n (name_eq-false n (Vhd base) is) (name_eq-false n (Vhd first) at)

exchanged_turns : (n : Name) → turns_of renamed 0 (exchanged n) ≡ renamed_answer exchanged (turns_of unnamed 0 n)
unfolding exchanged
exchanged_turns n = exchange n (name_eq n (Vhd base)) (name_eq n (Vhd first)) refl refl

is_unnamed : swapping_at 1 ≡ unnamed
is_unnamed = ap (λ t. content_with t (leaf_area 34)) is_swap_1

is_renamed : swapping_at 2 ≡ renamed
is_renamed = ap (λ t. content_with t (leaf_area 34)) is_swap_2

pub rename_turns : (n : Name) → turns_of (swapping_at 2) 0 (exchanged n) ≡ renamed_answer exchanged (turns_of (swapping_at 1) 0 n)
rename_turns n =
    ap (λ c. turns_of c 0 (exchanged n)) is_renamed ∙ exchanged_turns n ∙ ap (λ c. renamed_answer exchanged (turns_of c 0 n)) (sym is_unnamed)

pub rename_before : turns_of (swapping_at 1) 0 (Vhd base) ≡ here (sector_of 34)
rename_before = ap (λ c. turns_of c 0 (Vhd base)) is_unnamed ∙ top_turn unnamed (Vhd base) 34 unnamed_parent

pub rename_after : turns_of (swapping_at 2) 0 (Vhd first) ≡ here (sector_of 34)
rename_after = ap (λ c. turns_of c 0 (Vhd first)) is_renamed ∙ top_turn renamed (Vhd first) 34 renamed_parent
