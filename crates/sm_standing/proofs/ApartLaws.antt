-- Where whatever speaks of none of some UUIDs is as it was: standing volumes, reads and chains.
use Rattle.std.proofs.Common.{◌≡◌, ℕ, zero, suc, ◌<◌, ◌&&◌, ◌||◌, not, Bool, true, false, cond, List, [], map, Option, Some, None, refl, sym, ap, ap₂, ◌∙◌, subst, arith, bytes_eq}
use Rattle.std.specs.List.{list_any}
use Rattle.std.proofs.lemmas.Slice.Eq.{bytes_eq-Decides}
use Rattle.sm_base.specs.declared.names.Name.{Name}
use Rattle.sm_base.specs.declared.names.Name.TheVariants.{Vhd, Raw, Old, Leaf}
use Rattle.vg_meta.specs.Tables.{Row, VolumeTable}
use Rattle.common_laws.specs.Lists.{numbers, ◌>>=◌}
use Rattle.sm_standing.specs.Changes.{turns_of, parent_of, IsCopied}
use Rattle.sm_standing.specs.Checks.{depth}
use Rattle.sm_standing.specs.Outlines.{link_of, outline}
use Rattle.sm_standing.specs.Contents.{Content, row, record_of}
use Rattle.sm_standing.specs.Entries.{of_row, is_visible, is_among, uuids_in, folding, making, head, is_leaf_renamed, is_leaf_swapped}
use Rattle.sm_standing.specs.Images.{Image, ImageAnswer, here, up, answer_of, walk, image_reads, image_of, sectors_read}
use Rattle.sm_standing.specs.Standing.{standing_volume, stands_plainly, stands_forked, stands_folded, under, disk_at, disk_in}
use Rattle.sm_standing.proofs.ImageLaws.{moved_disk}
use Rattle.sm_standing.proofs.PlainDisks.{map_numbers}
use Rattle.sm_standing.proofs.WalkLaws.{walk_same, turn-up}
use Rattle.sm_standing.specs.Apart.{is_apart, IsSameApart, IsEmptyOver}

-- ---- names that speak of none of some UUIDs

or-left : (a b : Bool) → (a || b) ≡ false → a ≡ false
or-left true b h = absurd (let e = h in cc)
or-left false b h = refl

or-right : (a b : Bool) → (a || b) ≡ false → b ≡ false
or-right true b h = absurd (let e = h in cc)
or-right false b h = h

pub vhd_apart : (us : List (List ℕ)) (u : List ℕ) → is_among us u ≡ false → is_apart us (Vhd u) ≡ true
vhd_apart us u h = ap (λ b. not (b || false)) h

pub raw_apart : (us : List (List ℕ)) (u : List ℕ) → is_among us u ≡ false → is_apart us (Raw u) ≡ true
raw_apart us u h = ap (λ b. not (b || false)) h

pub old_apart : (us : List (List ℕ)) (u : List ℕ) → is_among us u ≡ false → is_apart us (Old u) ≡ true
old_apart us u h = ap (λ b. not (b || false)) h

-- a UUID among some differs from each that is not
pub among_other : (us : List (List ℕ)) (u v : List ℕ) → is_among us u ≡ true → is_among us v ≡ false → bytes_eq u v ≡ false
among_other us u v is none = by (bytes_eq u v) refl
  where
    by : (b : Bool) → bytes_eq u v ≡ b → b ≡ false
    by true same = let at = (bytes_eq-Decides u v).0 same in let e : true ≡ false = sym is ∙ ap (is_among us) at ∙ none in absurd (let x = e in cc)
    by false same = refl

-- and each that is not differs from it
pub other_among : (us : List (List ℕ)) (u v : List ℕ) → is_among us u ≡ false → is_among us v ≡ true → bytes_eq u v ≡ false
other_among us u v none is = by (bytes_eq u v) refl
  where
    by : (b : Bool) → bytes_eq u v ≡ b → b ≡ false
    by true same = let at = (bytes_eq-Decides u v).0 same in let e : true ≡ false = sym is ∙ ap (is_among us) (sym at) ∙ none in absurd (let x = e in cc)
    by false same = refl

-- ---- where a UUID stands

abbrev pub beside : VolumeTable → List ℕ → Option Name
beside t u = under (λ e. stands_folded t e u) (head (folding t)) (stands_plainly t u)

pub stands_making : (t : VolumeTable) (u : List ℕ) (e : Name) → head (making t) ≡ Some e → standing_volume t u ≡ stands_forked t e u (beside t u)
unfolding standing_volume
stands_making t u e h = ap (λ o. under (λ e. stands_forked t e u) o (beside t u)) h

pub stands_beside : (t : VolumeTable) (u : List ℕ) → making t ≡ [] → standing_volume t u ≡ beside t u
unfolding standing_volume
stands_beside t u h = ap (λ ns. under (λ e. stands_forked t e u) (head ns) (beside t u)) h

abbrev pub plainly_by : List ℕ → Option Row → Option Row → Option Name
plainly_by u v r = cond (of_row (λ r. not r.hidden && not r.fresh) v) (Some (Vhd u)) (cond (of_row (λ r. not r.hidden && not r.fresh) r) (Some (Raw u)) None)

pub plainly_same : (a b : Content) (us : List (List ℕ)) (u : List ℕ) → IsSameApart a b us → is_among us u ≡ false → stands_plainly b.table u ≡ stands_plainly a.table u
plainly_same a b us u same other = ap₂ (λ v r. plainly_by u v r) (same.rows (Vhd u) (vhd_apart us u other)) (same.rows (Raw u) (raw_apart us u other))

-- the entry of the other group speaks of none of them
abbrev pub IsEntryApart : List (List ℕ) → Option Name → Type 0
IsEntryApart us o = list_any (is_among us) (elim o [ None ↦ [] | Some n ↦ uuids_in n ]) ≡ false

folded_same : (a b : Content) (us : List (List ℕ)) (e : Name) (u : List ℕ) (plainly : Option Name) → IsSameApart a b us
    → list_any (is_among us) (uuids_in e) ≡ false → stands_folded b.table e u plainly ≡ stands_folded a.table e u plainly
folded_same a b us (Leaf leaf parent) u plainly same apart =
    let l = or-left (is_among us leaf) (is_among us parent || false) apart in
    let p = or-left (is_among us parent) false (or-right (is_among us leaf) (is_among us parent || false) apart) in
    let old_leaf : row b (Old leaf) ≡ row a (Old leaf) = same.rows (Old leaf) (old_apart us leaf l) in
    let vhd_parent : row b (Vhd parent) ≡ row a (Vhd parent) = same.rows (Vhd parent) (vhd_apart us parent p) in
    let vhd_leaf : row b (Vhd leaf) ≡ row a (Vhd leaf) = same.rows (Vhd leaf) (vhd_apart us leaf l) in
    let raw_leaf : row b (Raw leaf) ≡ row a (Raw leaf) = same.rows (Raw leaf) (raw_apart us leaf l) in
    rw (old_leaf, vhd_parent, vhd_leaf, raw_leaf) refl
folded_same a b us _ u plainly same apart = refl

under_same : (a b : Content) (us : List (List ℕ)) (o : Option Name) (u : List ℕ) (plainly : Option Name) → IsSameApart a b us
    → IsEntryApart us o → under (λ e. stands_folded b.table e u) o plainly ≡ under (λ e. stands_folded a.table e u) o plainly
under_same a b us None u plainly same apart = refl
under_same a b us (Some e) u plainly same apart = folded_same a b us e u plainly same apart

pub beside_same : (a b : Content) (us : List (List ℕ)) (u : List ℕ) → IsSameApart a b us → folding b.table ≡ folding a.table
    → IsEntryApart us (head (folding a.table)) → is_among us u ≡ false → beside b.table u ≡ beside a.table u
beside_same a b us u same folding_same apart other =
    ap₂ (λ ns plainly. under (λ e. stands_folded b.table e u) (head ns) plainly) folding_same (plainly_same a b us u same other)
    ∙ under_same a b us (head (folding a.table)) u (stands_plainly a.table u) same apart

folded_plain : (t : VolumeTable) (us : List (List ℕ)) (e : Name) (u : List ℕ) (plainly : Option Name) → list_any (is_among us) (uuids_in e) ≡ false
    → is_among us u ≡ true → stands_folded t e u plainly ≡ plainly
folded_plain t us (Leaf leaf parent) u plainly apart is =
    let l = or-left (is_among us leaf) (is_among us parent || false) apart in
    ap (λ b. cond (b && is_leaf_renamed t leaf parent) (Some (Vhd parent)) (cond (b && is_leaf_swapped t leaf parent) (Some (Vhd leaf)) plainly))
    (among_other us u leaf is l)
folded_plain t us _ u plainly apart is = refl

-- a UUID of which the entry does not speak stands by itself under it
pub under_plain : (t : VolumeTable) (us : List (List ℕ)) (o : Option Name) (u : List ℕ) (plainly : Option Name) → IsEntryApart us o
    → is_among us u ≡ true → under (λ e. stands_folded t e u) o plainly ≡ plainly
under_plain t us None u plainly apart is = refl
under_plain t us (Some e) u plainly apart is = folded_plain t us e u plainly apart is

-- ---- any other UUID stands in a volume of none of them

plainly_apart : (us : List (List ℕ)) (u : List ℕ) (v r : Bool) (x : Name) → is_among us u ≡ false
    → cond v (Some (Vhd u)) (cond r (Some (Raw u)) None) ≡ Some x → is_apart us x ≡ true
plainly_apart us u true r x other h = let at : Vhd u ≡ x = (let e = h in cc) in subst (λ m. is_apart us m ≡ true) at (vhd_apart us u other)
plainly_apart us u false true x other h = let at : Raw u ≡ x = (let e = h in cc) in subst (λ m. is_apart us m ≡ true) at (raw_apart us u other)
plainly_apart us u false false x other h = absurd (let e = h in cc)

pub plain_apart : (t : VolumeTable) (us : List (List ℕ)) (u : List ℕ) (x : Name) → is_among us u ≡ false → stands_plainly t u ≡ Some x → is_apart us x ≡ true
plain_apart t us u x other h = plainly_apart us u (is_visible t (Vhd u)) (is_visible t (Raw u)) x other h

leaf_apart : (us : List (List ℕ)) (leaf parent : List ℕ) (s w : Bool) (x : Name) (plainly : Option Name) → is_among us leaf ≡ false → is_among us parent ≡ false
    → (plainly ≡ Some x → is_apart us x ≡ true) → cond s (Some (Vhd parent)) (cond w (Some (Vhd leaf)) plainly) ≡ Some x → is_apart us x ≡ true
leaf_apart us leaf parent true w x plainly l p from h = let at : Vhd parent ≡ x = (let e = h in cc) in subst (λ m. is_apart us m ≡ true) at (vhd_apart us parent p)
leaf_apart us leaf parent false true x plainly l p from h = let at : Vhd leaf ≡ x = (let e = h in cc) in subst (λ m. is_apart us m ≡ true) at (vhd_apart us leaf l)
leaf_apart us leaf parent false false x plainly l p from h = from h

folded_apart : (t : VolumeTable) (us : List (List ℕ)) (e : Name) (u : List ℕ) (x : Name) (plainly : Option Name) → list_any (is_among us) (uuids_in e) ≡ false
    → (plainly ≡ Some x → is_apart us x ≡ true) → stands_folded t e u plainly ≡ Some x → is_apart us x ≡ true
folded_apart t us (Leaf leaf parent) u x plainly apart from h =
    let l = or-left (is_among us leaf) (is_among us parent || false) apart in
    let p = or-left (is_among us parent) false (or-right (is_among us leaf) (is_among us parent || false) apart) in
    leaf_apart us leaf parent (bytes_eq u leaf && is_leaf_renamed t leaf parent) (bytes_eq u leaf && is_leaf_swapped t leaf parent) x plainly l p from h
folded_apart t us _ u x plainly apart from h = from h

pub under_apart : (t : VolumeTable) (us : List (List ℕ)) (o : Option Name) (u : List ℕ) (x : Name) (plainly : Option Name) → IsEntryApart us o
    → (plainly ≡ Some x → is_apart us x ≡ true) → under (λ e. stands_folded t e u) o plainly ≡ Some x → is_apart us x ≡ true
under_apart t us None u x plainly apart from h = from h
under_apart t us (Some e) u x plainly apart from h = folded_apart t us e u x plainly apart from h

-- ---- reads and chains

-- parents do not lead from the one to the others
abbrev pub IsClosedApart : Content → List (List ℕ) → Type 0
IsClosedApart a us = (m p : Name) → is_apart us m ≡ true → parent_of a m ≡ Some p → is_apart us p ≡ true

sends_parent : (a : Content) (s : ℕ) (n p : Name) → answer_of s (image_of a n) ≡ up p → parent_of a n ≡ Some p
sends_parent a s n p sent = let w = turn-up s (image_of a n) p sent in ap (λ o. link_of o >>= (λ i. i.parent)) w.there ∙ w.parent

walk_apart : (a b : Content) (us : List (List ℕ)) → IsSameApart a b us → IsClosedApart a us → (k : ℕ) (n : Name) → is_apart us n ≡ true → (s : ℕ)
    → walk k (turns_of b s) n ≡ walk k (turns_of a s) n
walk_apart a b us same closed k n is s =
    walk_same (λ m. is_apart us m ≡ true) (turns_of a s) (turns_of b s) (record { closed = λ m p at sent. closed m p at (sends_parent a s m p sent) })
    (λ m at. ap (answer_of s) (same.images m at)) k n is

pub reads_apart : (a b : Content) (us : List (List ℕ)) → IsSameApart a b us → IsClosedApart a us → (n : Name) → is_apart us n ≡ true → (s : ℕ) → image_reads b n s ≡ image_reads a n s
unfolding image_reads
reads_apart a b us same closed n is s = walk_apart a b us same closed 30 n is s

-- what a turn gives, with so many images to walk behind it
abbrev turned : ℕ → (Name → ImageAnswer) → ImageAnswer → List ℕ
turned k f t = elim t [ here b ↦ b | up p ↦ walk k f p ]

turned_same : (f g : Name → ImageAnswer) (k : ℕ) (t : ImageAnswer) → ((p : Name) → t ≡ up p → walk k g p ≡ walk k f p) → turned k g t ≡ turned k f t
turned_same f g k (here b) rest = refl
turned_same f g k (up p) rest = rest p refl

-- the same image in another volume, whose parent is none of them
pub reads_moved : (a b : Content) (us : List (List ℕ)) (n m : Name) → IsSameApart a b us → IsClosedApart a us → image_of b m ≡ image_of a n
    → ((p : Name) → parent_of a n ≡ Some p → is_apart us p ≡ true) → (s : ℕ) → image_reads b m s ≡ image_reads a n s
unfolding image_reads walk
reads_moved a b us n m same closed image above s =
    ap (λ t. elim t [ here x ↦ x | up p ↦ walk 29 (turns_of b s) p ]) (ap (answer_of s) image)
    ∙ turned_same (turns_of a s) (turns_of b s) 29 (answer_of s (image_of a n)) (λ p sent. walk_apart a b us same closed 29 p (above p (sends_parent a s n p sent)) s)

counted_same : (a b : Content) (k : ℕ) (o : Option Name) → ((p : Name) → o ≡ Some p → depth (outline b) k p ≡ depth (outline a) k p)
    → suc (elim o [ None ↦ 0 | Some p ↦ depth (outline b) k p ]) ≡ suc (elim o [ None ↦ 0 | Some p ↦ depth (outline a) k p ])
counted_same a b k None rest = refl
counted_same a b k (Some p) rest = ap suc (rest p refl)

depth_apart : (a b : Content) (us : List (List ℕ)) → IsSameApart a b us → IsClosedApart a us → (k : ℕ) (n : Name) → is_apart us n ≡ true → depth (outline b) k n ≡ depth (outline a) k n
unfolding depth
depth_apart a b us same closed zero n is = refl
depth_apart a b us same closed (suc k) n is =
    ap (λ o. suc (elim (link_of o >>= (λ i. i.parent)) [ None ↦ 0 | Some p ↦ depth (outline b) k p ])) (same.images n is)
    ∙ counted_same a b k (parent_of a n) (λ p at. depth_apart a b us same closed k p (closed n p is at))

pub depth_moved : (a b : Content) (us : List (List ℕ)) (n m : Name) → IsSameApart a b us → IsClosedApart a us → image_of b m ≡ image_of a n
    → ((p : Name) → parent_of a n ≡ Some p → is_apart us p ≡ true) → (k : ℕ) → depth (outline b) k m ≡ depth (outline a) k n
unfolding depth
depth_moved a b us n m same closed image above zero = refl
depth_moved a b us n m same closed image above (suc k) =
    ap (λ o. suc (elim (link_of o >>= (λ i. i.parent)) [ None ↦ 0 | Some p ↦ depth (outline b) k p ])) image
    ∙ counted_same a b k (parent_of a n) (λ p at. depth_apart a b us same closed k p (above p at))

-- ---- sectors and disks

sectors_by : (a b : Content) (n m : Name) (o : Option Image) → image_of a n ≡ o → image_of b m ≡ o → ((s : ℕ) → image_reads b m s ≡ image_reads a n s) → sectors_read b m ≡ sectors_read a n
unfolding sectors_read
sectors_by a b n m None was now same =
    ap (λ o. elim o [ None ↦ [] | Some k ↦ map (image_reads b m) (numbers 0 k.size) ]) now
    ∙ sym (ap (λ o. elim o [ None ↦ [] | Some k ↦ map (image_reads a n) (numbers 0 k.size) ]) was)
sectors_by a b n m (Some i) was now same =
    ap (λ o. elim o [ None ↦ [] | Some k ↦ map (image_reads b m) (numbers 0 k.size) ]) now
    ∙ map_numbers (image_reads b m) (image_reads a n) 0 i.size (λ k from below. same k)
    ∙ sym (ap (λ o. elim o [ None ↦ [] | Some k ↦ map (image_reads a n) (numbers 0 k.size) ]) was)

-- an image under another name that reads the same has the same sectors
pub sectors_moved : (a b : Content) (n m : Name) → image_of b m ≡ image_of a n → ((s : ℕ) → image_reads b m s ≡ image_reads a n s) → sectors_read b m ≡ sectors_read a n
sectors_moved a b n m image same = sectors_by a b n m (image_of a n) refl image same

-- so has one of the same size that reads the same below it
pub sectors_sized : (a b : Content) (n m : Name) (i j : Image) → image_of a n ≡ Some i → image_of b m ≡ Some j → j.size ≡ i.size
    → ((s : ℕ) → s < i.size → image_reads b m s ≡ image_reads a n s) → sectors_read b m ≡ sectors_read a n
unfolding sectors_read
sectors_sized a b n m i j was now size same =
    ap (λ o. elim o [ None ↦ [] | Some k ↦ map (image_reads b m) (numbers 0 k.size) ]) now
    ∙ ap (λ k. map (image_reads b m) (numbers 0 k)) size
    ∙ map_numbers (image_reads b m) (image_reads a n) 0 i.size (λ k from below. same k (omega (arith, below)))
    ∙ sym (ap (λ o. elim o [ None ↦ [] | Some k ↦ map (image_reads a n) (numbers 0 k.size) ]) was)

pub no_disk : (a b : Content) (u : List ℕ) → standing_volume a.table u ≡ None → standing_volume b.table u ≡ None → disk_at b u ≡ disk_at a u
unfolding disk_at
no_disk a b u stood now =
    ap (λ o. o >>= (λ k. record_of b u >>= (λ r. Some (disk_in b u r k)))) now
    ∙ sym (ap (λ o. o >>= (λ k. record_of a u >>= (λ r. Some (disk_in a u r k)))) stood)

pub none_disk : (a : Content) (u : List ℕ) → standing_volume a.table u ≡ None → disk_at a u ≡ None
unfolding disk_at
none_disk a u stood = ap (λ o. o >>= (λ k. record_of a u >>= (λ r. Some (disk_in a u r k)))) stood

-- an empty child is one that was copied below
pub empty_copied : (c : Content) (n p : Name) (i q : Image) → IsEmptyOver c n p i q → IsCopied c n p i q
empty_copied c n p i q h = record {
  image = h.image;
  parent = h.parent;
  below = h.below;
  size = h.size;
  held = λ s bytes is. let e = h.empty s in absurd (let x : None ≡ Some bytes = sym e ∙ is in cc);
}

-- ---- a disk of none of these UUIDs

other_by : (a b : Content) (us : List (List ℕ)) (u : List ℕ) → IsSameApart a b us → IsClosedApart a us → standing_volume b.table u ≡ standing_volume a.table u
    → ((x : Name) → standing_volume a.table u ≡ Some x → is_apart us x ≡ true) → record_of b u ≡ record_of a u → (o : Option Name) → standing_volume a.table u ≡ o
    → disk_at b u ≡ disk_at a u
other_by a b us u same closed stand apart recorded None is = no_disk a b u is (stand ∙ is)
other_by a b us u same closed stand apart recorded (Some x) is =
    let at = apart x is in
    moved_disk a b u x x is (stand ∙ is) recorded (sectors_moved a b x x (same.images x at) (reads_apart a b us same closed x at))

pub other_disk : (a b : Content) (us : List (List ℕ)) (u : List ℕ) → IsSameApart a b us → IsClosedApart a us → standing_volume b.table u ≡ standing_volume a.table u
    → ((x : Name) → standing_volume a.table u ≡ Some x → is_apart us x ≡ true) → record_of b u ≡ record_of a u → disk_at b u ≡ disk_at a u
other_disk a b us u same closed stand apart recorded = other_by a b us u same closed stand apart recorded (standing_volume a.table u) refl
