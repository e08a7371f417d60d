-- A swap: the disk of each UUID from the leaf's rename on.
use Rattle.std.proofs.Common.{◌≡◌, ◌≢◌, ◌⊎◌, inl, inr, ℕ, ◌&&◌, ◌||◌, not, Bool, true, false, cond, List, [], Option, Some, None, refl, sym, ap, ap₂, ◌∙◌, subst, bytes_eq}
use Rattle.std.proofs.lemmas.Slice.Eq.{bytes_eq-Decides}
use Rattle.common_laws.proofs.Bytes.{bytes_eq-refl, bytes_eq-apart}
use Rattle.sm_base.specs.declared.names.Name.{Name}
use Rattle.sm_base.specs.declared.names.Name.TheVariants.{Vhd, Raw, Old, Leaf}
use Rattle.vg_meta.specs.Tables.{VolumeTable, Row, rows}
use Rattle.sm_standing.specs.Contents.{Content}
use Rattle.sm_standing.specs.Entries.{folding, head, of_row, is_among, is_there, is_hidden, is_filled, is_visible, is_leaf_renamed, is_leaf_swapped, is_leaf_folded}
use Rattle.sm_standing.specs.Images.{Image}
use Rattle.sm_standing.specs.Standing.{standing_volume, stands_plainly, stands_folded, under, disks, disk_at}
use Rattle.sm_standing.proofs.DiskLists.{disks_same}
use Rattle.sm_standing.proofs.ImageLaws.{moved_disk, copied}
use Rattle.sm_standing.specs.Apart.{is_apart}
use Rattle.sm_standing.specs.Swaps.{swapped, HasLeafEntry, IsSwappable, IsLeafAway, IsParentNamed, IsLeafGone, IsSwapping}
use Rattle.sm_standing.proofs.ApartLaws.{beside, stands_beside, plainly_same, plain_apart, IsClosedApart, reads_moved, sectors_sized, no_disk, other_among, other_disk}

-- ---- which UUID

pub record Which (leaf parent u : List ℕ) : Type 0 where
  pub cases : (u ≡ leaf) ⊎ ((u ≡ parent) ⊎ (is_among (swapped leaf parent) u ≡ false))

which-by : (leaf parent u : List ℕ) (l p : Bool) → bytes_eq leaf u ≡ l → bytes_eq parent u ≡ p → Which leaf parent u
which-by leaf parent u true p is_l is_p = record { cases = inl (sym ((bytes_eq-Decides leaf u).0 is_l)) }
which-by leaf parent u false true is_l is_p = record { cases = inr (inl (sym ((bytes_eq-Decides parent u).0 is_p))) }
which-by leaf parent u false false is_l is_p = record { cases = inr (inr (ap₂ (λ l r. l || r) is_l (ap (λ p. p || false) is_p))) }

pub which : (leaf parent u : List ℕ) → Which leaf parent u
which leaf parent u = which-by leaf parent u (bytes_eq leaf u) (bytes_eq parent u) refl refl

pub leaf_among : (leaf parent : List ℕ) → is_among (swapped leaf parent) leaf ≡ true
leaf_among leaf parent = ap (λ l. l || (bytes_eq parent leaf || false)) (bytes_eq-refl leaf)

-- ---- where it stands

pub entry_other : (t : VolumeTable) (leaf parent u : List ℕ) (plainly : Option Name) → bytes_eq u leaf ≡ false → stands_folded t (Leaf leaf parent) u plainly ≡ plainly
entry_other t leaf parent u plainly off =
    ap (λ s. cond (s && is_leaf_renamed t leaf parent) (Some (Vhd parent)) (cond (s && is_leaf_swapped t leaf parent) (Some (Vhd leaf)) plainly)) off

pub entry_leaf : (t : VolumeTable) (leaf parent : List ℕ) (plainly : Option Name)
    → stands_folded t (Leaf leaf parent) leaf plainly ≡ cond (is_leaf_renamed t leaf parent) (Some (Vhd parent)) (cond (is_leaf_swapped t leaf parent) (Some (Vhd leaf)) plainly)
entry_leaf t leaf parent plainly =
    ap (λ s. cond (s && is_leaf_renamed t leaf parent) (Some (Vhd parent)) (cond (s && is_leaf_swapped t leaf parent) (Some (Vhd leaf)) plainly)) (bytes_eq-refl leaf)

pub beside_entry : (t : VolumeTable) (leaf parent u : List ℕ) → HasLeafEntry t leaf parent → beside t u ≡ stands_folded t (Leaf leaf parent) u (stands_plainly t u)
beside_entry t leaf parent u entry = ap (λ o. under (λ e. stands_folded t e u) o (stands_plainly t u)) entry

pub beside_none : (t : VolumeTable) (u : List ℕ) → folding t ≡ [] → beside t u ≡ stands_plainly t u
beside_none t u none = ap (λ ns. under (λ e. stands_folded t e u) (head ns) (stands_plainly t u)) none

pub beside_plain : (t : VolumeTable) (leaf parent u : List ℕ) → HasLeafEntry t leaf parent ⊎ (folding t ≡ []) → bytes_eq u leaf ≡ false → beside t u ≡ stands_plainly t u
beside_plain t leaf parent u (inl entry) off = beside_entry t leaf parent u entry ∙ entry_other t leaf parent u (stands_plainly t u) off
beside_plain t leaf parent u (inr none) off = beside_none t u none

entry_or_none : (t : VolumeTable) (leaf parent : List ℕ) (m : Name) → IsLeafAway t leaf parent m ⊎ (IsParentNamed t leaf parent m ⊎ IsLeafGone t leaf parent m)
    → HasLeafEntry t leaf parent ⊎ (folding t ≡ [])
entry_or_none t leaf parent m (inl away) = inl away.0
entry_or_none t leaf parent m (inr (inl named)) = inl named.0
entry_or_none t leaf parent m (inr (inr gone)) = gone.0

-- a parent that has the leaf's name is no longer there under its own
pub not_renamed : (old filled gone there hidden rest : Bool) → (there ≡ false → hidden ≡ false) → (old && (filled && not there)) ≡ true → (old && (hidden && rest)) ≡ false
not_renamed true true gone false hidden rest from is = ap (λ h. h && rest) (from refl)
not_renamed true true gone true hidden rest from is = absurd (let e = is in cc)
not_renamed true false gone there hidden rest from is = absurd (let e = is in cc)
not_renamed false filled gone there hidden rest from is = refl

pub hidden_there : (t : VolumeTable) (n : Name) → is_there t n ≡ false → is_hidden t n ≡ false
hidden_there t n none = by (rows t n) refl
  where
    by : (o : Option Row) → rows t n ≡ o → is_hidden t n ≡ false
    by None is = ap (of_row (λ r. r.hidden && not r.fresh)) is
    by (Some r) is = absurd (let e : true ≡ false = sym (ap (λ (o : Option Row). elim o [ None ↦ false | Some s ↦ true ]) is) ∙ none in let x = e in cc)

pub named_renamed : (t : VolumeTable) (leaf parent : List ℕ) → is_leaf_swapped t leaf parent ≡ true → is_leaf_renamed t leaf parent ≡ false
named_renamed t leaf parent is =
    not_renamed (is_there t (Old leaf)) (is_filled t (Vhd leaf)) true (is_there t (Vhd parent)) (is_hidden t (Vhd parent))
    (not (is_there t (Vhd leaf)) && not (is_there t (Raw leaf))) (hidden_there t (Vhd parent)) is

record Folded (visible old there : Bool) : Type 0 where
  is_visible : visible ≡ true
  no_old : old ≡ false

folded_parts : (visible old there : Bool) → (visible && (not old && not there)) ≡ true → Folded visible old there
folded_parts true false there is = record { is_visible = refl; no_old = refl }
folded_parts true true there is = absurd (let e = is in cc)
folded_parts false old there is = absurd (let e = is in cc)

pub visible_stands : (t : VolumeTable) (u : List ℕ) → is_visible t (Vhd u) ≡ true → stands_plainly t u ≡ Some (Vhd u)
visible_stands t u is = ap (λ v. cond v (Some (Vhd u)) (cond (is_visible t (Raw u)) (Some (Raw u)) None)) is

gone_entry : (t : VolumeTable) (leaf parent : List ℕ) (m : Name) (plainly : Option Name) → is_there t (Old leaf) ≡ false
    → cond (is_leaf_renamed t leaf parent) (Some (Vhd parent)) (cond (is_leaf_swapped t leaf parent) (Some (Vhd leaf)) plainly) ≡ plainly
gone_entry t leaf parent m plainly none =
    ap (λ old. cond (old && (is_hidden t (Vhd parent) && (not (is_there t (Vhd leaf)) && not (is_there t (Raw leaf))))) (Some (Vhd parent))
    (cond (old && (is_filled t (Vhd leaf) && not (is_there t (Vhd parent)))) (Some (Vhd leaf)) plainly)) none

gone_stands : (t : VolumeTable) (leaf parent : List ℕ) → HasLeafEntry t leaf parent ⊎ (folding t ≡ []) → is_leaf_folded t leaf parent ≡ true → beside t leaf ≡ Some (Vhd leaf)
gone_stands t leaf parent (inl entry) is =
    let parts = folded_parts (is_visible t (Vhd leaf)) (is_there t (Old leaf)) (is_there t (Vhd parent)) is in
    beside_entry t leaf parent leaf entry
    ∙ entry_leaf t leaf parent (stands_plainly t leaf)
    ∙ gone_entry t leaf parent (Vhd leaf) (stands_plainly t leaf) parts.no_old
    ∙ visible_stands t leaf parts.is_visible
gone_stands t leaf parent (inr none) is =
    let parts = folded_parts (is_visible t (Vhd leaf)) (is_there t (Old leaf)) (is_there t (Vhd parent)) is in
    beside_none t leaf none ∙ visible_stands t leaf parts.is_visible

pub leaf_stands : (t : VolumeTable) (leaf parent : List ℕ) (m : Name) → IsLeafAway t leaf parent m ⊎ (IsParentNamed t leaf parent m ⊎ IsLeafGone t leaf parent m)
    → beside t leaf ≡ Some m
leaf_stands t leaf parent m (inl away) =
    beside_entry t leaf parent leaf away.0
    ∙ entry_leaf t leaf parent (stands_plainly t leaf)
    ∙ ap (λ r. cond r (Some (Vhd parent)) (cond (is_leaf_swapped t leaf parent) (Some (Vhd leaf)) (stands_plainly t leaf))) away.1
    ∙ ap Some (sym away.2)
leaf_stands t leaf parent m (inr (inl named)) =
    beside_entry t leaf parent leaf named.0
    ∙ entry_leaf t leaf parent (stands_plainly t leaf)
    ∙ ap₂ (λ r w. cond r (Some (Vhd parent)) (cond w (Some (Vhd leaf)) (stands_plainly t leaf))) (named_renamed t leaf parent named.1) named.1
    ∙ ap Some (sym named.2)
leaf_stands t leaf parent m (inr (inr gone)) = gone_stands t leaf parent gone.0 gone.1 ∙ ap Some (sym gone.2)

-- ---- what follows before the swap

two_uuids : (t : VolumeTable) (u v : List ℕ) (n : Name) → standing_volume t u ≡ Some n → standing_volume t v ≡ None → v ≢ u
two_uuids t u v n is none at = let e : None ≡ Some n = sym none ∙ ap (standing_volume t) at ∙ is in (let x = e in cc)

not_apart : (leaf parent : List ℕ) → is_apart (swapped leaf parent) (Vhd leaf) ≡ false
not_apart leaf parent = ap (λ b. not (b || false)) (leaf_among leaf parent)

closed_apart : (a : Content) (leaf parent : List ℕ) (i q : Image) → IsSwappable a leaf parent i q → IsClosedApart a (swapped leaf parent)
closed_apart a leaf parent i q h m p is at = h.childless m p other at
  where
    other : m ≢ Vhd leaf
    other same = let e : true ≡ false = sym is ∙ ap (is_apart (swapped leaf parent)) same ∙ not_apart leaf parent in (let x = e in cc)

stood_plainly : (a : Content) (leaf parent : List ℕ) (i q : Image) → IsSwappable a leaf parent i q → (u : List ℕ) → is_among (swapped leaf parent) u ≡ false
    → standing_volume a.table u ≡ stands_plainly a.table u
stood_plainly a leaf parent i q h u other =
    stands_beside a.table u h.none_making
    ∙ beside_plain a.table leaf parent u (inl h.entry) (other_among (swapped leaf parent) u leaf other (leaf_among leaf parent))

-- ---- each disk

swapping_leaf : (a b : Content) (leaf parent : List ℕ) (m : Name) (i q : Image) → IsSwappable a leaf parent i q → IsSwapping a b leaf parent m
    → disk_at b leaf ≡ disk_at a leaf
swapping_leaf a b leaf parent m i q h k =
    moved_disk a b leaf (Vhd leaf) m h.stood (stands_beside b.table leaf k.none_making ∙ leaf_stands b.table leaf parent m k.stage) (k.recorded leaf)
    (sectors_sized a b (Vhd leaf) m i q h.copied.image (k.image ∙ h.copied.below) h.copied.size (λ s below.
    reads_moved a b (swapped leaf parent) (Vhd parent) m k.apart (closed_apart a leaf parent i q h) k.image (λ p at. h.childless (Vhd parent) p other at) s
    ∙ sym (copied a (Vhd leaf) (Vhd parent) i q h.copied h.short s below)))
  where
    other : Vhd parent ≢ Vhd leaf
    other same = two_uuids a.table leaf parent (Vhd leaf) h.stood h.no_parent (let e = same in cc)

swapping_parent : (a b : Content) (leaf parent : List ℕ) (m : Name) (i q : Image) → IsSwappable a leaf parent i q → IsSwapping a b leaf parent m
    → disk_at b parent ≡ disk_at a parent
swapping_parent a b leaf parent m i q h k =
    no_disk a b parent h.no_parent
    (stands_beside b.table parent k.none_making
    ∙ beside_plain b.table leaf parent parent (entry_or_none b.table leaf parent m k.stage)
    (bytes_eq-apart parent leaf (two_uuids a.table leaf parent (Vhd leaf) h.stood h.no_parent))
    ∙ k.no_parent)

swapping_other : (a b : Content) (leaf parent : List ℕ) (m : Name) (i q : Image) → IsSwappable a leaf parent i q → IsSwapping a b leaf parent m
    → (u : List ℕ) → is_among (swapped leaf parent) u ≡ false → disk_at b u ≡ disk_at a u
swapping_other a b leaf parent m i q h k u other =
    other_disk a b (swapped leaf parent) u k.apart (closed_apart a leaf parent i q h)
    (stands_beside b.table u k.none_making
    ∙ beside_plain b.table leaf parent u (entry_or_none b.table leaf parent m k.stage) (other_among (swapped leaf parent) u leaf other (leaf_among leaf parent))
    ∙ plainly_same a b (swapped leaf parent) u k.apart other
    ∙ sym (stood_plainly a leaf parent i q h u other))
    (λ x is. plain_apart a.table (swapped leaf parent) u x other (sym (stood_plainly a leaf parent i q h u other) ∙ is)) (k.recorded u)

swapping_each : (a b : Content) (leaf parent : List ℕ) (m : Name) (i q : Image) → IsSwappable a leaf parent i q → IsSwapping a b leaf parent m
    → (u : List ℕ) → (u ≡ leaf) ⊎ ((u ≡ parent) ⊎ (is_among (swapped leaf parent) u ≡ false)) → disk_at b u ≡ disk_at a u
swapping_each a b leaf parent m i q h k u (inl at) = subst (λ v. disk_at b v ≡ disk_at a v) (sym at) (swapping_leaf a b leaf parent m i q h k)
swapping_each a b leaf parent m i q h k u (inr (inl at)) = subst (λ v. disk_at b v ≡ disk_at a v) (sym at) (swapping_parent a b leaf parent m i q h k)
swapping_each a b leaf parent m i q h k u (inr (inr other)) = swapping_other a b leaf parent m i q h k u other

pub swapping : (a b : Content) (leaf parent : List ℕ) (m : Name) (i q : Image) → IsSwappable a leaf parent i q → IsSwapping a b leaf parent m → disks b ≡ disks a
swapping a b leaf parent m i q h k = disks_same a b (λ u. swapping_each a b leaf parent m i q h k u (which leaf parent u).cases)
